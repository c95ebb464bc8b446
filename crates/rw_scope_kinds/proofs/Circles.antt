-- A data type is recursive exactly where it is on a circle of the graph.
use Rattle.std.proofs.Common.{◌≡◌, inl, inr, ℕ, zero, suc, ◌+◌, Bool, true, false, ◌||◌, nat_eq, List, [], ◌∷◌, ◌++◌, append-nil, append_assoc, length, map, flat_map, get_or, slice_get, Option, Some, None, option_map, option_to_list, refl, sym, ap, subst, ◌∙◌, if◌then◌else◌, arith}
use Rattle.std.specs.List.{list_any}
use Rattle.std.proofs.lemmas.Bool.Decides.{nat_tests}
use Rattle.std.proofs.lemmas.List.Folds.{list_any-append}
use Rattle.rw_scope_graph.specs.Waiting.{waits_for}
use Rattle.rw_scope_graph.specs.Circles.{ahead, is_circular, MarksCircles}
use Rattle.rw_base.specs.declared.place.Place.{Place}
use Rattle.rw_base.specs.declared.place.Span.{Span}
use Rattle.rw_tree.specs.declared.decl.Constructor.{Constructor}
use Rattle.rw_tree.specs.Declarations.{plain_constructor, Declaration, import_declaration, data_declaration, fixity_declaration, signature_declaration, function_declaration}
use Rattle.rw_scope_rules.specs.Names.{Bytes, same_name, is_among, first_named, at_if}
use Rattle.rw_scope_rules.specs.Kinds.{data_mentions, mentioned_by, reached, is_recursive, is_empty, ill_founded}
use Rattle.rw_scope_kinds.specs.declared.mentions.Made.{Made}
use Rattle.rw_scope_kinds.specs.Mentions.{PlainMade, plain_made, made_of, mentions_of, numbered, numbers_by, mention_graph, ill_made, mark_at, is_marked_by, ill_by}
use Rattle.rw_scope_rules.proofs.Basics.{true_or_false, clash, one_name, same_is}

is_number : (i j : ℕ) → nat_eq i j ≡ true → i ≡ j
is_number i j e = grind (arith, nat_tests)

same_number : (i : ℕ) → nat_eq i i ≡ true
same_number i = grind (arith, nat_tests)

alike : (a b : Bool) → (a ≡ true → b ≡ true) → (b ≡ true → a ≡ true) → a ≡ b
alike a b f g = elim (true_or_false a) [
  | inl e ↦ e ∙ sym (f e)
  | inr e ↦ elim (true_or_false b) [
    | inl h ↦ clash a (g h) e
    | inr h ↦ e ∙ sym h
  ]
]

-- where a name stands
abbrev place_of : Bytes → List PlainMade → Option ℕ
place_of x [] = None
place_of x (m ∷ ms) = if same_name x m.1 then Some 0 else option_map suc (place_of x ms)

shifted : (n : ℕ) (o : Option ℕ) → option_map (λ j. suc n + j) o ≡ option_map (λ j. n + j) (option_map suc o)
shifted n None = refl
shifted n (Some j) = let e : suc n + j ≡ n + suc j = omega arith in ap Some e

numbered_from : (n : ℕ) (x : Bytes) (ms : List PlainMade) → first_named x (numbered n ms) ≡ option_map (λ j. n + j) (place_of x ms)
numbered_from n x [] = refl
numbered_from n x (m ∷ ms) = elim (true_or_false (same_name x m.1)) [
  | inl s ↦ let z : n ≡ n + 0 = omega arith in
      ap (λ b. if b then Some n else first_named x (numbered (suc n) ms)) s ∙ ap Some z ∙ sym (ap (λ b. option_map (λ j. n + j) (if b then Some 0 else option_map suc (place_of x ms))) s)
  | inr s ↦ ap (λ b. if b then Some n else first_named x (numbered (suc n) ms)) s ∙ numbered_from (suc n) x ms ∙ shifted n (place_of x ms)
      ∙ sym (ap (λ b. option_map (λ j. n + j) (if b then Some 0 else option_map suc (place_of x ms))) s)
]

unshifted : (o : Option ℕ) → option_map (λ j. 0 + j) o ≡ o
unshifted None = refl
unshifted (Some j) = let e : 0 + j ≡ j = omega arith in ap Some e

place_is : (x : Bytes) (ms : List PlainMade) → first_named x (numbered 0 ms) ≡ place_of x ms
place_is x ms = numbered_from 0 x ms ∙ unshifted (place_of x ms)

-- what stands there
abbrev Stands : Bytes → List PlainMade → ℕ → Type 0
Stands x ms j = (m : PlainMade) × (slice_get ms j ≡ Some m) × (same_name x m.1 ≡ true) × (first_named x (map mentions_of ms) ≡ Some (mentions_of m).1)

there : (x : Bytes) (ms : List PlainMade) (j : ℕ) → place_of x ms ≡ Some j → Stands x ms j
there x [] j e = absurd (cc)
there x (m ∷ ms) j e = elim (true_or_false (same_name x m.1)) [
  | inl s ↦
      let h : Some 0 ≡ Some j = sym (ap (λ b. if b then Some 0 else option_map suc (place_of x ms)) s) ∙ e in
      let z : 0 ≡ j = cc in
      subst (Stands x (m ∷ ms)) z (m, refl, s, ap (λ b. if b then Some (mentions_of m).1 else first_named x (map mentions_of ms)) s)
  | inr s ↦ further (place_of x ms) refl (sym (ap (λ b. if b then Some 0 else option_map suc (place_of x ms)) s) ∙ e) s (λ i h. there x ms i h)
]
  where
    further : (o : Option ℕ) → place_of x ms ≡ o → option_map suc o ≡ Some j → same_name x m.1 ≡ false → ((i : ℕ) → place_of x ms ≡ Some i → Stands x ms i) → Stands x (m ∷ ms) j
    further None at h s rec = absurd (cc)
    further (Some i) at h s rec =
        let z : suc i ≡ j = cc in
        let r = rec i at in
        subst (Stands x (m ∷ ms)) z (r.0, r.1, r.2, ap (λ b. if b then Some (mentions_of m).1 else first_named x (map mentions_of ms)) s ∙ r.3)

not_there : (x : Bytes) (ms : List PlainMade) → place_of x ms ≡ None → first_named x (map mentions_of ms) ≡ None
not_there x [] e = refl
not_there x (m ∷ ms) e = elim (true_or_false (same_name x m.1)) [
  | inl s ↦ let h : Some 0 ≡ None = sym (ap (λ b. if b then Some 0 else option_map suc (place_of x ms)) s) ∙ e in absurd (cc)
  | inr s ↦ ap (λ b. if b then Some (mentions_of m).1 else first_named x (map mentions_of ms)) s ∙ not_there x ms (none (place_of x ms) (sym (ap (λ b. if b then Some 0 else option_map suc (place_of x ms)) s) ∙ e))
]
  where
    none : (o : Option ℕ) → option_map suc o ≡ None → o ≡ None
    none None h = refl
    none (Some i) h = absurd (cc)

-- a name that is declared has a place
declared : (ms : List PlainMade) (i : ℕ) (m : PlainMade) → slice_get ms i ≡ Some m → (j : ℕ) × (place_of m.1 ms ≡ Some j)
declared [] i m e = absurd (cc)
declared (n ∷ ms) zero m e = let s : n ≡ m = cc in (0, ap (λ b. if b then Some 0 else option_map suc (place_of m.1 ms)) (same_is m.1 n.1 (ap (λ (z : PlainMade). z.1) (sym s))))
declared (n ∷ ms) (suc i) m e = elim (true_or_false (same_name m.1 n.1)) [
  | inl s ↦ (0, ap (λ b. if b then Some 0 else option_map suc (place_of m.1 ms)) s)
  | inr s ↦ let r = declared ms i m e in (suc r.0, ap (λ b. if b then Some 0 else option_map suc (place_of m.1 ms)) s ∙ ap (option_map suc) r.1)
]

one_made : (ms : List PlainMade) (j : ℕ) (m n : PlainMade) → slice_get ms j ≡ Some m → slice_get ms j ≡ Some n → m.1 ≡ n.1
one_made ms j m n e f = let h : Some m ≡ Some n = sym e ∙ f in let k : m ≡ n = cc in ap (λ (z : PlainMade). z.1) k

flat_append : {X Y : Type 0} (f : X → List Y) (xs ys : List X) → flat_map f (xs ++ ys) ≡ flat_map f xs ++ flat_map f ys
flat_append f [] ys = refl
flat_append f (x ∷ xs) ys = ap (λ zs. f x ++ zs) (flat_append f xs ys) ∙ sym (append_assoc (f x) (flat_map f xs) (flat_map f ys))

row_at : (f : PlainMade → List ℕ) (ms : List PlainMade) (i : ℕ) (m : PlainMade) → slice_get ms i ≡ Some m → get_or (map f ms) i [] ≡ f m
row_at f [] i m e = absurd (cc)
row_at f (n ∷ ms) zero m e = let s : n ≡ m = cc in ap f s
row_at f (n ∷ ms) (suc i) m e = row_at f ms i m e

-- what a name mentions
mentioned_none : (types : List (Bytes × List Bytes)) (y : Bytes) → first_named y types ≡ None → mentioned_by types y ≡ []
mentioned_none types y e = rw e

mentioned_some : (types : List (Bytes × List Bytes)) (y : Bytes) (names : List Bytes) → first_named y types ≡ Some names → mentioned_by types y ≡ names
mentioned_some types y names e = rw e

many : {X Y : Type 0} (f : X → Y) (xs : List X) → length (map f xs) ≡ length xs
many f [] = refl
many f (x ∷ xs) = ap suc (many f xs)

module _ (ms : List PlainMade) (table : List (Bytes × ℕ)) (says : (x : Bytes) → first_named x table ≡ first_named x (numbered 0 ms)) where
  abbrev graph : List (List ℕ)
  graph = mention_graph table ms

  abbrev types : List (Bytes × List Bytes)
  types = map mentions_of ms

  abbrev index : Bytes → List ℕ
  index = numbers_by table

  index_is : (x : Bytes) → index x ≡ option_to_list (place_of x ms)
  index_is x = ap option_to_list (says x ∙ place_is x ms)

  -- names by their numbers
  module _ (x : Bytes) (i : ℕ) (at : place_of x ms ≡ Some i) where
    one_index : (y : Bytes) → same_name x y ≡ list_any (nat_eq i) (index y)
    one_index y = alike (same_name x y) (list_any (nat_eq i) (index y))
        (λ s. ap (λ z. list_any (nat_eq i) (index z)) (sym (one_name x y s)) ∙ ap (list_any (nat_eq i)) (index_is x ∙ ap option_to_list at) ∙ ap (λ b. b || false) (same_number i))
        (λ h. back (place_of y ms) refl (ap (list_any (nat_eq i)) (sym (index_is y)) ∙ h))
      where
        back : (o : Option ℕ) → place_of y ms ≡ o → list_any (nat_eq i) (option_to_list o) ≡ true → same_name x y ≡ true
        back None e h = absurd (cc)
        back (Some j) e h =
            let same : i ≡ j = elim (true_or_false (nat_eq i j)) [ inl s ↦ is_number i j s | inr n ↦ clash (nat_eq i j || false) h (ap (λ b. b || false) n) ] in
            let a = there x ms i at in
            let b = there y ms j e in
            same_is x y (one_name x a.0.1 a.2 ∙ one_made ms i a.0 b.0 a.1 (ap (slice_get ms) same ∙ b.1) ∙ sym (one_name y b.0.1 b.2))

    among : (ys : List Bytes) → is_among x ys ≡ list_any (nat_eq i) (flat_map index ys)
    among [] = refl
    among (y ∷ ys) =
        ap (λ b. b || is_among x ys) (one_index y) ∙ ap (λ b. list_any (nat_eq i) (index y) || b) (among ys) ∙ sym (list_any-append (nat_eq i) (index y) (flat_map index ys))

  -- what a name mentions, by number
  mentioned_index : (y : Bytes) → flat_map index (mentioned_by types y) ≡ flat_map (waits_for graph) (index y)
  mentioned_index y = by (place_of y ms) refl
    where
      by : (o : Option ℕ) → place_of y ms ≡ o → flat_map index (mentioned_by types y) ≡ flat_map (waits_for graph) (index y)
      by None e = ap (flat_map index) (mentioned_none types y (not_there y ms e)) ∙ sym (ap (flat_map (waits_for graph)) (index_is y ∙ ap option_to_list e))
      by (Some j) e =
          let a = there y ms j e in
          ap (flat_map index) (mentioned_some types y (mentions_of a.0).1 a.3)
          ∙ sym (ap (flat_map (waits_for graph)) (index_is y ∙ ap option_to_list e) ∙ append-nil (waits_for graph j) ∙ row_at (λ m. flat_map index (mentions_of m).1) ms j a.0 a.1)

  mentioned_flat : (ys : List Bytes) → flat_map index (flat_map (mentioned_by types) ys) ≡ flat_map (waits_for graph) (flat_map index ys)
  mentioned_flat [] = refl
  mentioned_flat (y ∷ ys) =
      flat_append index (mentioned_by types y) (flat_map (mentioned_by types) ys)
      ∙ ap (λ zs. zs ++ flat_map index (flat_map (mentioned_by types) ys)) (mentioned_index y)
      ∙ ap (λ zs. flat_map (waits_for graph) (index y) ++ zs) (mentioned_flat ys)
      ∙ sym (flat_append (waits_for graph) (index y) (flat_map index ys))

  module _ (x : Bytes) (i : ℕ) (at : place_of x ms ≡ Some i) where
    reached_index : (n : ℕ) (ys : List Bytes) → is_among x (reached types n ys) ≡ list_any (nat_eq i) (ahead graph n (flat_map index ys))
    reached_index zero ys = among x i at ys
    reached_index (suc n) ys =
        list_any-append (same_name x) ys (reached types n (flat_map (mentioned_by types) ys))
        ∙ ap (λ b. b || is_among x (reached types n (flat_map (mentioned_by types) ys))) (among x i at ys)
        ∙ ap (λ b. list_any (nat_eq i) (flat_map index ys) || b) (reached_index n (flat_map (mentioned_by types) ys) ∙ ap (λ zs. list_any (nat_eq i) (ahead graph n zs)) (mentioned_flat ys))
        ∙ sym (list_any-append (nat_eq i) (flat_map index ys) (ahead graph n (flat_map (waits_for graph) (flat_map index ys))))

    start : flat_map index (mentioned_by types x) ≡ waits_for graph i
    start = mentioned_index x ∙ ap (flat_map (waits_for graph)) (index_is x ∙ ap option_to_list at) ∙ append-nil (waits_for graph i)

    recursive_is : is_recursive types x ≡ is_circular graph i
    recursive_is =
        reached_index (length types) (mentioned_by types x) ∙ ap (λ zs. list_any (nat_eq i) (ahead graph (length types) zs)) start
        ∙ ap (λ n. list_any (nat_eq i) (ahead graph n (waits_for graph i))) (many mentions_of ms ∙ sym (many (λ m. flat_map index (mentions_of m).1) ms))

  module _ (marks : List Bool) (k : MarksCircles graph marks) where
    pub ill_is : (i : ℕ) (m : PlainMade) → slice_get ms i ≡ Some m → ill_by table marks m ≡ ill_made types m
    ill_is i m e =
        let d = declared ms i m e in
        ap (λ b. at_if (is_empty m.2 || b) m.0.first) (ap (mark_at marks) (says m.1 ∙ place_is m.1 ms ∙ d.1) ∙ k.exact d.0 ∙ sym (recursive_is m.1 d.0 d.1))

    ill_rest : (rest : List PlainMade) → ((i : ℕ) (m : PlainMade) → slice_get rest i ≡ Some m → ill_by table marks m ≡ ill_made types m) → flat_map (ill_by table marks) rest ≡ flat_map (ill_made types) rest
    ill_rest [] h = refl
    ill_rest (m ∷ rest) h = ap (λ ps. ps ++ flat_map (ill_by table marks) rest) (h 0 m refl) ∙ ap (λ ps. ill_made types m ++ ps) (ill_rest rest (λ i n e. h (suc i) n e))

    pub ill_all : flat_map (ill_by table marks) ms ≡ flat_map (ill_made types) ms
    ill_all = ill_rest ms ill_is

-- declarations that are no data types have no part
mentions_made : (ds : List (Declaration Span)) → flat_map data_mentions ds ≡ map mentions_of (flat_map made_of ds)
mentions_made [] = refl
mentions_made (import_declaration a m ∷ ds) = mentions_made ds
mentions_made (data_declaration a x params constructors ∷ ds) = ap (λ ts. mentions_of (a, x, constructors) ∷ ts) (mentions_made ds)
mentions_made (fixity_declaration a side strength names ∷ ds) = mentions_made ds
mentions_made (signature_declaration a names type ∷ ds) = mentions_made ds
mentions_made (function_declaration a x clauses ∷ ds) = mentions_made ds

ill_declared : (types : List (Bytes × List Bytes)) (ds : List (Declaration Span)) → flat_map (ill_founded types) ds ≡ flat_map (ill_made types) (flat_map made_of ds)
ill_declared known [] = refl
ill_declared known (import_declaration a m ∷ ds) = ill_declared known ds
ill_declared known (data_declaration a x params constructors ∷ ds) = ap (λ ps. ill_made known (a, x, constructors) ++ ps) (ill_declared known ds)
ill_declared known (fixity_declaration a side strength names ∷ ds) = ill_declared known ds
ill_declared known (signature_declaration a names type ∷ ds) = ill_declared known ds
ill_declared known (function_declaration a x clauses ∷ ds) = ill_declared known ds

pub all_ill : (ds : List (Declaration Span)) (ms : List PlainMade) (table : List (Bytes × ℕ)) (marks : List Bool) → ms ≡ flat_map made_of ds → ((x : Bytes) → first_named x table ≡ first_named x (numbered 0 ms))
    → MarksCircles (mention_graph table ms) marks → flat_map (ill_by table marks) ms ≡ flat_map (ill_founded (flat_map data_mentions ds)) ds
all_ill ds ms table marks e says k =
    ill_all ms table says marks k ∙ ap (λ ns. flat_map (ill_made (map mentions_of ns)) ns) e
    ∙ ap (λ ts. flat_map (ill_made ts) (flat_map made_of ds)) (sym (mentions_made ds)) ∙ sym (ill_declared (flat_map data_mentions ds) ds)

pub ill_found : (ds : List (Declaration Span)) (all first second third : List Made) (table : List (Bytes × ℕ)) (mentions given : List (List ℕ)) (marks lent : List Bool) (now : List Place)
    → map plain_made all ≡ flat_map made_of ds → first ≡ all → second ≡ all → third ≡ all → lent ≡ marks
    → ((x : Bytes) → first_named x table ≡ first_named x (numbered 0 (map plain_made first))) → mentions ≡ mention_graph table (map plain_made second) → given ≡ mentions → MarksCircles given marks
    → now ≡ flat_map (ill_by table lent) (map plain_made third) → now ≡ flat_map (ill_founded (flat_map data_mentions ds)) ds
ill_found ds all first second third table mentions given marks lent now made f s t l says is same k h =
    h ∙ ap (λ ms. flat_map (ill_by table lent) (map plain_made ms)) t ∙ ap (λ ns. flat_map (ill_by table ns) (map plain_made all)) l
    ∙ all_ill ds (map plain_made all) table marks made (λ x. says x ∙ ap (λ ms. first_named x (numbered 0 (map plain_made ms))) f)
    (subst (λ g. MarksCircles g marks) (same ∙ is ∙ ap (λ ms. mention_graph table (map plain_made ms)) s) k)

-- a data type that has a constructor
pub judged_by : (cs : List Constructor) (empty answer : Bool) (table : List (Bytes × ℕ)) (marks : List Bool) (x : Bytes) → (cs ≡ [] → empty ≡ true) → empty ≡ false → answer ≡ mark_at marks (first_named x table)
    → answer ≡ (is_empty (map plain_constructor cs) || is_marked_by table marks x)
judged_by [] empty answer table marks x h e says = clash empty (h refl) e
judged_by (c ∷ cs) empty answer table marks x h e says = says
