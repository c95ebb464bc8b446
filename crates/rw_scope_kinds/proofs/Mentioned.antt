-- The names that stand in types, one after the other.
use Rattle.std.proofs.Common.{◌≡◌, ℕ, suc, ◌+◌, ◌<◌, ◌≤◌, List, [], ◌∷◌, ◌++◌, append-nil, append_assoc, length, map, flat_map, drop, get_or, refl, sym, ap, ◌∙◌, arith, drop_of_length-le}
use Rattle.std.proofs.lemmas.Grind.{common_steps}
use Rattle.rw_tree.specs.declared.types.Written.{Written}
use Rattle.rw_tree.specs.declared.types.Written.TheVariants as type
use Rattle.rw_tree.specs.declared.decl.Constructor.{Constructor}
use Rattle.rw_tree.specs.Types.{WrittenType, type_parts, written, writtens}
use Rattle.rw_tree.specs.Declarations.{plain_constructor}
use Rattle.rw_tree.proofs.Plains as plain
use Rattle.rw_scope_rules.specs.Names.{Bytes, first_named}
use Rattle.rw_scope_rules.specs.Scope.{type_constructors, types_constructors, fields_of}
use Rattle.rw_scope_kinds.specs.declared.mentions.Made.{Made}
use Rattle.rw_scope_kinds.specs.Mentions.{plain_made, numbered}
use Rattle.rw_scope_uses.proofs.Tables.{by_itself}

pub flat_append : {X Y : Type 0} (f : X → List Y) (xs ys : List X) → flat_map f (xs ++ ys) ≡ flat_map f xs ++ flat_map f ys
flat_append f [] ys = refl
flat_append f (x ∷ xs) ys = ap (λ zs. f x ++ zs) (flat_append f xs ys) ∙ sym (append_assoc (f x) (flat_map f xs) (flat_map f ys))

pub constructors_listed : (ts : List WrittenType) → types_constructors (type_parts ts) ≡ flat_map type_constructors ts
constructors_listed [] = refl
constructors_listed (t ∷ ts) = ap (λ cs. type_constructors t ++ cs) (constructors_listed ts)

one_before : {A : Type 0} (xs : List A) (n : ℕ) (a : A) → n < length xs → a ≡ get_or xs n a → drop n xs ≡ a ∷ drop (n + 1) xs
one_before xs n a within read = grind (arith, common_steps)

module _ (f : Bytes → List ℕ) where
  -- one part behind another
  joined : (old mid new : List ℕ) (xs ys : List Bytes) → mid ≡ old ++ flat_map f xs → new ≡ mid ++ flat_map f ys → new ≡ old ++ flat_map f (xs ++ ys)
  joined old mid new xs ys e d =
      d ∙ ap (λ zs. zs ++ flat_map f ys) e ∙ append_assoc old (flat_map f xs) (flat_map f ys) ∙ ap (λ zs. old ++ zs) (sym (flat_append f xs ys))

  pub applied_names : (ty head given : Written) (parts listed : List Written) (old mid new : List ℕ) → ty ≡ type.Apply head parts → given ≡ head → listed ≡ parts
      → mid ≡ old ++ flat_map f (type_constructors (written given)) → new ≡ mid ++ flat_map f (types_constructors (type_parts (writtens listed)))
      → new ≡ old ++ flat_map f (type_constructors (written ty))
  applied_names ty head given parts listed old mid new is same_head same_parts e d =
      joined old mid new (type_constructors (written given)) (types_constructors (type_parts (writtens listed))) e d
      ∙ ap (λ h. old ++ flat_map f (type_constructors (written h) ++ types_constructors (type_parts (writtens listed)))) same_head
      ∙ ap (λ ps. old ++ flat_map f (type_constructors (written head) ++ types_constructors (type_parts (writtens ps)))) same_parts
      ∙ ap (λ t. old ++ flat_map f (type_constructors t)) (sym (ap written is ∙ plain.written-Apply head parts))

  pub arrow_names : (ty from to given next : Written) (old mid new : List ℕ) → ty ≡ type.Fun from to → given ≡ from → next ≡ to
      → mid ≡ old ++ flat_map f (type_constructors (written given)) → new ≡ mid ++ flat_map f (type_constructors (written next))
      → new ≡ old ++ flat_map f (type_constructors (written ty))
  arrow_names ty from to given next old mid new is same_from same_to e d =
      joined old mid new (type_constructors (written given)) (type_constructors (written next)) e d
      ∙ ap (λ h. old ++ flat_map f (type_constructors (written h) ++ type_constructors (written next))) same_from
      ∙ ap (λ h. old ++ flat_map f (type_constructors (written from) ++ type_constructors (written h))) same_to
      ∙ ap (λ t. old ++ flat_map f (type_constructors t)) (sym (ap written is ∙ plain.written-Fun from to))

  -- one type more of a list
  pub one_type : (types : List Written) (i : ℕ) (t : Written) (old mid new : List ℕ) → i < length types → t ≡ get_or types i t
      → new ≡ mid ++ flat_map f (type_constructors (written t))
      → mid ++ flat_map f (types_constructors (type_parts (writtens (drop i types)))) ≡ old ++ flat_map f (types_constructors (type_parts (writtens types)))
      → new ++ flat_map f (types_constructors (type_parts (writtens (drop (i + 1) types)))) ≡ old ++ flat_map f (types_constructors (type_parts (writtens types)))
  one_type types i t old mid new within read e h =
      let rest = types_constructors (type_parts (writtens (drop (i + 1) types))) in
      joined mid new (new ++ flat_map f rest) (type_constructors (written t)) rest e refl
      ∙ ap (λ ts. mid ++ flat_map f (types_constructors (type_parts (writtens ts)))) (sym (one_before types i t within read)) ∙ h

  pub all_types : (types : List Written) (i : ℕ) (old now : List ℕ) → length types ≤ i
      → now ++ flat_map f (types_constructors (type_parts (writtens (drop i types)))) ≡ old ++ flat_map f (types_constructors (type_parts (writtens types)))
      → now ≡ old ++ flat_map f (flat_map type_constructors (writtens types))
  all_types types i old now over h =
      sym (append-nil now) ∙ ap (λ ts. now ++ flat_map f (types_constructors (type_parts (writtens ts)))) (sym (drop_of_length-le types over)) ∙ h
      ∙ ap (λ cs. old ++ flat_map f cs) (constructors_listed (writtens types))

  -- one constructor more of a data type
  pub one_constructor : (constructors : List Constructor) (i : ℕ) (c : Constructor) (fields : List Written) (whole mid new : List ℕ) → i < length constructors → c ≡ get_or constructors i c → fields ≡ c.fields
      → new ≡ mid ++ flat_map f (flat_map type_constructors (writtens fields))
      → mid ++ flat_map f (flat_map type_constructors (fields_of (map plain_constructor (drop i constructors)))) ≡ whole
      → new ++ flat_map f (flat_map type_constructors (fields_of (map plain_constructor (drop (i + 1) constructors)))) ≡ whole
  one_constructor constructors i c fields whole mid new within read same e h =
      let rest = fields_of (map plain_constructor (drop (i + 1) constructors)) in
      joined mid new (new ++ flat_map f (flat_map type_constructors rest)) (flat_map type_constructors (writtens fields)) (flat_map type_constructors rest) e refl
      ∙ ap (λ cs. mid ++ flat_map f cs) (sym (flat_append type_constructors (writtens fields) rest))
      ∙ ap (λ ts. mid ++ flat_map f (flat_map type_constructors (writtens ts ++ rest))) same
      ∙ ap (λ cs. mid ++ flat_map f (flat_map type_constructors (fields_of (map plain_constructor cs)))) (sym (one_before constructors i c within read))
      ∙ h

-- one number more
pub one_number : (all : List Made) (i : ℕ) (m : Made) (name : Bytes) (n : ℕ) (old new : List (Bytes × ℕ)) → i < length all → m ≡ get_or all i m → name ≡ m.made.now.name → n ≡ i
    → ((x : Bytes) (rest : List (Bytes × ℕ)) → first_named x (new ++ rest) ≡ first_named x (old ++ (name, n) ∷ rest))
    → ((x : Bytes) (rest : List (Bytes × ℕ)) → first_named x (old ++ (numbered i (map plain_made (drop i all)) ++ rest)) ≡ first_named x (numbered 0 (map plain_made all) ++ rest))
    → (x : Bytes) (rest : List (Bytes × ℕ)) → first_named x (new ++ (numbered (i + 1) (map plain_made (drop (i + 1) all)) ++ rest)) ≡ first_named x (numbered 0 (map plain_made all) ++ rest)
one_number all i m name n old new within read same at put h x rest =
    let more = map plain_made (drop (i + 1) all) in
    let next : i + 1 ≡ suc i = omega arith in
    ap (λ k. first_named x (new ++ (numbered k more ++ rest))) next
    ∙ put x (numbered (suc i) more ++ rest)
    ∙ ap (λ z. first_named x (old ++ (z, n) ∷ (numbered (suc i) more ++ rest))) same
    ∙ ap (λ k. first_named x (old ++ (m.made.now.name, k) ∷ (numbered (suc i) more ++ rest))) at
    ∙ ap (λ ms. first_named x (old ++ (numbered i (map plain_made ms) ++ rest))) (sym (one_before all i m within read))
    ∙ h x rest

pub all_numbers : (all : List Made) (i : ℕ) (now : List (Bytes × ℕ)) → length all ≤ i
    → ((x : Bytes) (rest : List (Bytes × ℕ)) → first_named x (now ++ (numbered i (map plain_made (drop i all)) ++ rest)) ≡ first_named x (numbered 0 (map plain_made all) ++ rest))
    → (x : Bytes) → first_named x now ≡ first_named x (numbered 0 (map plain_made all))
all_numbers all i now over h x =
    by_itself x now (numbered 0 (map plain_made all)) (λ rest. ap (λ ms. first_named x (now ++ (numbered i (map plain_made ms) ++ rest))) (sym (drop_of_length-le all over)) ∙ h x rest)
