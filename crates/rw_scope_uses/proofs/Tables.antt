-- What a table says of a name.
use Rattle.std.proofs.Common.{cond, ◌≡◌, ℕ, ◌+◌, ◌<◌, ◌≤◌, length, map, flat_map, drop, get_or, arith, drop_of_length-le, inl, inr, true, false, List, [], ◌∷◌, ◌++◌, append-nil, append_assoc, Option, Some, None, is_some, refl, sym, ap, ◌∙◌, if◌then◌else◌}
use Rattle.std.proofs.lemmas.Grind.{common_steps}
use Rattle.indexmap.specs.IndexMap.{IndexMap, get_by, with_entries, insert_entry}
use Rattle.indexmap.proofs.CallerLemmas.{insert_entry-new}
use Rattle.rw_scope_rules.specs.Names.{Bytes, same_name, first_named}
use Rattle.rw_scope_rules.proofs.Basics.{true_or_false, one_name, swapped}

pub found : {V S : Type 0} (m : IndexMap Bytes V S) (x : Bytes) (es : List (Bytes × V)) → get_by (same_name x) (with_entries m es) ≡ first_named x es
found m x [] = refl
found m x (e ∷ es) = ap (λ r. if same_name x e.0 then Some e.1 else r) (found m x es)

-- after a name has got a value
pub updated : {V S : Type 0} (old new : IndexMap Bytes V S) (name : Bytes) (v : V) → ((q : Bytes) → get_by (same_name q) new ≡ cond (same_name name q) (Some v) (get_by (same_name q) old))
    → (x : Bytes) → first_named x new.entries ≡ first_named x ((name, v) ∷ old.entries)
updated old new name v h x =
    sym (found new x new.entries) ∙ h x ∙ ap (λ b. cond b (Some v) (get_by (same_name x) old)) (swapped name x)
    ∙ ap (λ r. if same_name x name then Some v else r) (found old x old.entries)

module _ {V : Type 0} where
  -- a name that is there is not looked for behind
  pub known_first : (x : Bytes) (es rest : List (Bytes × V)) (v : V) → first_named x es ≡ Some v → first_named x (es ++ rest) ≡ Some v
  known_first x [] rest v h = absurd (cc)
  known_first x (e ∷ es) rest v h = elim (true_or_false (same_name x e.0)) [
    | inl s ↦ ap (λ b. if b then Some e.1 else first_named x (es ++ rest)) s ∙ sym (ap (λ b. if b then Some e.1 else first_named x es) s) ∙ h
    | inr s ↦ ap (λ b. if b then Some e.1 else first_named x (es ++ rest)) s ∙ known_first x es rest v (sym (ap (λ b. if b then Some e.1 else first_named x es) s) ∙ h)
  ]

  -- another name makes no difference
  pub passed_by : (x : Bytes) (es : List (Bytes × V)) (e : Bytes × V) (rest : List (Bytes × V)) → same_name x e.0 ≡ false → first_named x (es ++ e ∷ rest) ≡ first_named x (es ++ rest)
  passed_by x [] e rest s = ap (λ b. if b then Some e.1 else first_named x rest) s
  passed_by x (f ∷ es) e rest s = ap (λ r. if same_name x f.0 then Some f.1 else r) (passed_by x es e rest s)

  -- nor does a second one of a name
  pub second_passed : (x : Bytes) (es : List (Bytes × V)) (e : Bytes × V) (rest : List (Bytes × V)) (v : V) → first_named e.0 es ≡ Some v → first_named x (es ++ rest) ≡ first_named x (es ++ e ∷ rest)
  second_passed x es e rest v h = elim (true_or_false (same_name x e.0)) [
    | inl s ↦ let here : first_named x es ≡ Some v = ap (λ y. first_named y es) (one_name x e.0 s) ∙ h in known_first x es rest v here ∙ sym (known_first x es (e ∷ rest) v here)
    | inr s ↦ sym (passed_by x es e rest s)
  ]

  pub is_there : (o : Option V) → is_some o ≡ true → (v : V) × (o ≡ Some v)
  is_there None h = absurd (cc)
  is_there (Some v) h = (v, refl)

  -- what is the same before any rest is the same by itself
  pub by_itself : (x : Bytes) (es fs : List (Bytes × V)) → ((rest : List (Bytes × V)) → first_named x (es ++ rest) ≡ first_named x (fs ++ rest)) → first_named x es ≡ first_named x fs
  by_itself x es fs h = ap (first_named x) (sym (append-nil es)) ∙ h [] ∙ ap (first_named x) (append-nil fs)

module _ {V : Type 0} where
  -- what a rest says counts where nothing was said before
  unknown_first : (x : Bytes) (es rest : List (Bytes × V)) → first_named x es ≡ None → first_named x (es ++ rest) ≡ first_named x rest
  unknown_first x [] rest h = refl
  unknown_first x (e ∷ es) rest h = elim (true_or_false (same_name x e.0)) [
    | inl s ↦ let k : Some e.1 ≡ None = sym (ap (λ b. if b then Some e.1 else first_named x es) s) ∙ h in absurd (cc)
    | inr s ↦ ap (λ b. if b then Some e.1 else first_named x (es ++ rest)) s ∙ unknown_first x es rest (sym (ap (λ b. if b then Some e.1 else first_named x es) s) ∙ h)
  ]

  pub before_rest : (x : Bytes) (es fs rest : List (Bytes × V)) → first_named x es ≡ first_named x fs → first_named x (es ++ rest) ≡ first_named x (fs ++ rest)
  before_rest x es fs rest h = by (first_named x es) refl
    where
      by : (r : Option V) → first_named x es ≡ r → first_named x (es ++ rest) ≡ first_named x (fs ++ rest)
      by None e = unknown_first x es rest e ∙ sym (unknown_first x fs rest (sym h ∙ e))
      by (Some v) e = known_first x es rest v e ∙ sym (known_first x fs rest v (sym h ∙ e))

  is_not_there : (o : Option V) → is_some o ≡ false → o ≡ None
  is_not_there None h = refl
  is_not_there (Some v) h = absurd (cc)

  -- a new name goes last
  pub appended : {S : Type 0} (m : IndexMap Bytes V S) (name : Bytes) (value : V) (new old : List (Bytes × V)) → is_some (get_by (same_name name) m) ≡ false
      → new ≡ insert_entry same_name m.entries name value → m.entries ≡ old → (x : Bytes) (rest : List (Bytes × V)) → first_named x (new ++ rest) ≡ first_named x (old ++ (name, value) ∷ rest)
  appended m name value new old absent put was x rest =
      ap (λ es. first_named x (es ++ rest)) (put ∙ insert_entry-new same_name m name value (is_not_there (get_by (same_name name) m) absent) ∙ ap (λ es. es ++ (name, value) ∷ []) was)
      ∙ ap (first_named x) (append_assoc old ((name, value) ∷ []) rest)

  -- one that is there makes no difference
  pub present : {S : Type 0} (m : IndexMap Bytes V S) (name : Bytes) (value : V) (old : List (Bytes × V)) → is_some (get_by (same_name name) m) ≡ true
      → m.entries ≡ old → (x : Bytes) (rest : List (Bytes × V)) → first_named x (old ++ rest) ≡ first_named x (old ++ (name, value) ∷ rest)
  present m name value old there was x rest =
      let here = is_there (first_named name old) (sym (ap is_some (found m name m.entries ∙ ap (first_named name) was)) ∙ there) in
      second_passed x old (name, value) rest here.0 here.1

-- declarations one after the other
one_before : {A : Type 0} (xs : List A) (n : ℕ) (a : A) → n < length xs → a ≡ get_or xs n a → drop n xs ≡ a ∷ drop (n + 1) xs
one_before xs n a within read = grind (arith, common_steps)

pub one_declaration : {A D V : Type 0} (see : A → D) (says : D → List (Bytes × V)) (decls : List A) (i : ℕ) (d : A) (first old new : List (Bytes × V)) → i < length decls → d ≡ get_or decls i d
    → ((x : Bytes) (rest : List (Bytes × V)) → first_named x (new ++ rest) ≡ first_named x (old ++ (says (see d) ++ rest)))
    → ((x : Bytes) (rest : List (Bytes × V)) → first_named x (old ++ (flat_map says (map see (drop i decls)) ++ rest)) ≡ first_named x (first ++ (flat_map says (map see decls) ++ rest)))
    → (x : Bytes) (rest : List (Bytes × V)) → first_named x (new ++ (flat_map says (map see (drop (i + 1) decls)) ++ rest)) ≡ first_named x (first ++ (flat_map says (map see decls) ++ rest))
one_declaration see says decls i d first old new within read put so_far x rest =
    put x (flat_map says (map see (drop (i + 1) decls)) ++ rest)
    ∙ ap (λ es. first_named x (old ++ es)) (sym (append_assoc (says (see d)) (flat_map says (map see (drop (i + 1) decls))) rest))
    ∙ ap (λ ds. first_named x (old ++ (flat_map says (map see ds) ++ rest))) (sym (one_before decls i d within read))
    ∙ so_far x rest

pub all_declarations : {A D V : Type 0} (see : A → D) (says : D → List (Bytes × V)) (decls : List A) (i : ℕ) (first now : List (Bytes × V)) → length decls ≤ i
    → ((x : Bytes) (rest : List (Bytes × V)) → first_named x (now ++ (flat_map says (map see (drop i decls)) ++ rest)) ≡ first_named x (first ++ (flat_map says (map see decls) ++ rest)))
    → (x : Bytes) (rest : List (Bytes × V)) → first_named x (now ++ rest) ≡ first_named x (first ++ (flat_map says (map see decls) ++ rest))
all_declarations see says decls i first now over so_far x rest =
    ap (λ ds. first_named x (now ++ (flat_map says (map see ds) ++ rest))) (sym (drop_of_length-le decls over)) ∙ so_far x rest
