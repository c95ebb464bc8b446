-- The data types of a program whose data types are not recursive are unfolded in so many steps.
use Rattle.std.proofs.Common.{◌≡◌, inl, inr, refl, sym, ap, subst, ◌∙◌, ℕ, zero, suc, ◌+◌, arith, Bool, true, false, List, [], ◌∷◌, ◌++◌, map, flat_map, length, get_or, Option, Some, None, if◌then◌else◌, codes}
use Rattle.std.specs.List.{AllByRecursion}
use Rattle.rw_base.specs.declared.place.Span.{Span}
use Rattle.rw_tree.specs.Types.{WrittenType, variable_type, constructor_type, applied_type, function_type, tuple_type as written_tuple, WrittenTypes, no_types, more_types}
use Rattle.rw_tree.specs.Declarations.{PlainConstructor, Declaration, import_declaration, data_declaration, fixity_declaration, signature_declaration, function_declaration}
use Rattle.rw_scope_rules.specs.Names.{Bytes, same_name, first_named}
use Rattle.rw_scope_rules.specs.Scope.{type_constructors, types_constructors, fields_of}
use Rattle.rw_scope_rules.specs.Kinds.{data_mentions, mentioned_by, ill_founded}
use Rattle.rw_types_solving.specs.declared.term.Head.{Head}
use Rattle.rw_types_solving.specs.declared.term.Head.TheVariants as h
use Rattle.rw_types_solving.specs.Types.{Ty, var, app, Tys, none, more, tys}
use Rattle.rw_types_rules.specs.Written.{data_types_from, variable_applied, identity_applied, state_applied, device_applied, data_applied, constructor_applied, type_applied, types_of, type_of, variable_from}
use Rattle.rw_types_rules.specs.Schemes.{Scheme, constructor_scheme, constructor_schemes, constructed_from}
use Rattle.rw_scope_rules.proofs.Basics.{true_or_false, In, in_front, in_back, in_parts}
use Rattle.rw_cover_laws.proofs.Founded.{NameEnds, mentions_some, each_ends, none_recursive}

-- == What holds of each data type in a type ==

module _ (P : ℕ → Type 0) where
  abbrev pub HeadIs : Head → Type 0
  HeadIs (h.Data n) = P n
  HeadIs _ = Unit {0}

  abbrev mutual
    pub AllData : Ty → Type 0
    AllData (var x) = Unit {0}
    AllData (app head parts) = HeadIs head × AllDataIn parts

    pub AllDataIn : Tys → Type 0
    AllDataIn none = Unit {0}
    AllDataIn (more t ts) = AllData t × AllDataIn ts

  abbrev pub AllTypes : List Ty → Type 0
  AllTypes ts = AllByRecursion AllData ts

  abbrev pub AllFields : List (List Ty) → Type 0
  AllFields all = AllByRecursion AllTypes all

  in_tys : (ts : List Ty) → AllTypes ts → AllDataIn (tys ts)
  in_tys [] a = tt
  in_tys (t ∷ ts) a = (a.0, in_tys ts a.1)

  all_append : (ts us : List Ty) → AllTypes ts → AllTypes us → AllTypes (ts ++ us)
  all_append [] us a b = b
  all_append (t ∷ ts) us a b = (a.0, all_append ts us a.1 b)

  of_if : (b : Bool) (t u : Ty) → AllData t → AllData u → AllData (if b then t else u)
  of_if true t u a b = a
  of_if false t u a b = b

  -- == Types as written ==

  variable_all : (t : Ty) (arguments : List Ty) → AllData t → AllTypes arguments → AllData (variable_applied t arguments)
  variable_all t [] a as_ = a
  variable_all t (u ∷ []) a as_ = (tt, (a, (as_.0, tt)))
  variable_all t (u ∷ v ∷ vs) a as_ = (tt, tt)

  identity_all : (arguments : List Ty) → AllTypes arguments → AllData (identity_applied arguments)
  identity_all [] a = (tt, tt)
  identity_all (t ∷ []) a = (tt, ((tt, tt), (a.0, tt)))
  identity_all (t ∷ u ∷ us) a = (tt, tt)

  state_all : (arguments : List Ty) → AllTypes arguments → AllData (state_applied arguments)
  state_all [] a = (tt, tt)
  state_all (s ∷ []) a = (tt, tt)
  state_all (s ∷ m ∷ []) a = (tt, ((tt, (a.0, tt)), (a.1.0, tt)))
  state_all (s ∷ m ∷ t ∷ []) a = (tt, ((tt, ((tt, (a.0, tt)), (a.1.0, tt))), (a.1.1.0, tt)))
  state_all (s ∷ m ∷ t ∷ u ∷ us) a = (tt, tt)

  device_all : (arguments : List Ty) → AllTypes arguments → AllData (device_applied arguments)
  device_all [] a = (tt, tt)
  device_all (i ∷ []) a = (tt, tt)
  device_all (i ∷ o ∷ []) a = (tt, tt)
  device_all (i ∷ o ∷ m ∷ []) a = (tt, ((tt, (a.0, (a.1.0, tt))), (a.1.1.0, tt)))
  device_all (i ∷ o ∷ m ∷ t ∷ []) a = (tt, ((tt, ((tt, (a.0, (a.1.0, tt))), (a.1.1.0, tt))), (a.1.1.1.0, tt)))
  device_all (i ∷ o ∷ m ∷ t ∷ u ∷ us) a = (tt, tt)

  from_all : (n : ℕ) (x : Bytes) (ys : List Bytes) → AllData (variable_from n x ys)
  from_all n x [] = (tt, tt)
  from_all n x (y ∷ ys) = of_if (same_name x y) (var n) (variable_from (suc n) x ys) tt (from_all (suc n) x ys)

  data_all : (n : Option ℕ) (arguments : List Ty) → ((m : ℕ) → n ≡ Some m → P m) → AllTypes arguments → AllData (data_applied n arguments)
  data_all None arguments p a = (tt, tt)
  data_all (Some m) arguments p a = (p m refl, in_tys arguments a)

  module _ (types : List (Bytes × ℕ)) (params : List Bytes) where
    abbrev pub Known : List Bytes → Type 0
    Known names = (c : Bytes) (m : ℕ) → In c names → first_named c types ≡ Some m → P m

    constructor_all : (c : Bytes) (arguments : List Ty) → ((m : ℕ) → first_named c types ≡ Some m → P m) → AllTypes arguments → AllData (constructor_applied types c arguments)
    constructor_all c arguments p a =
        let by_data = data_all (first_named c types) arguments p a in
        let by_device = of_if (same_name c (codes "ReT")) (device_applied arguments) (data_applied (first_named c types) arguments) (device_all arguments a) by_data in
        let by_state = of_if (same_name c (codes "StateT")) (state_applied arguments) (if same_name c (codes "ReT") then device_applied arguments else data_applied (first_named c types) arguments) (state_all arguments a) by_device in
        of_if (same_name c (codes "I")) (identity_applied arguments)
        (if same_name c (codes "StateT") then state_applied arguments else (if same_name c (codes "ReT") then device_applied arguments else data_applied (first_named c types) arguments))
        (identity_all arguments a) by_state

    mutual
      applied_all : (w : WrittenType) (arguments : List Ty) → Known (type_constructors w) → AllTypes arguments → AllData (type_applied types params w arguments)
      applied_all (variable_type x) arguments known a = variable_all (variable_from 0 x params) arguments (from_all 0 x params) a
      applied_all (constructor_type c) arguments known a = constructor_all c arguments (λ m e. known c m (inl refl) e) a
      applied_all (applied_type head parts) arguments known a =
          applied_all head (types_of types params parts ++ arguments) (λ c m i e. known c m (in_front c (type_constructors head) (types_constructors parts) i) e)
          (all_append (types_of types params parts) arguments (parts_all parts (λ c m i e. known c m (in_back c (type_constructors head) (types_constructors parts) i) e)) a)
      applied_all (function_type from to) arguments known a = (
        tt,
        (
          applied_all from [] (λ c m i e. known c m (in_front c (type_constructors from) (type_constructors to) i) e) tt,
          (applied_all to [] (λ c m i e. known c m (in_back c (type_constructors from) (type_constructors to) i) e) tt, tt),
        ),
      )
      applied_all (written_tuple parts) arguments known a = (tt, in_tys (types_of types params parts) (parts_all parts known))

      parts_all : (ws : WrittenTypes) → Known (types_constructors ws) → AllTypes (types_of types params ws)
      parts_all no_types known = tt
      parts_all (more_types w ws) known = (
        applied_all w [] (λ c m i e. known c m (in_front c (type_constructors w) (types_constructors ws) i) e) tt,
        parts_all ws (λ c m i e. known c m (in_back c (type_constructors w) (types_constructors ws) i) e),
      )

    fields_all : (ws : List WrittenType) → Known (flat_map type_constructors ws) → AllTypes (map (type_of types params) ws)
    fields_all [] known = tt
    fields_all (w ∷ ws) known = (
      applied_all w [] (λ c m i e. known c m (in_front c (type_constructors w) (flat_map type_constructors ws) i) e) tt,
      fields_all ws (λ c m i e. known c m (in_back c (type_constructors w) (flat_map type_constructors ws) i) e),
    )

    -- the fields of all constructors, one after the other
    flat_in_front : (ws vs : List WrittenType) (c : Bytes) → In c (flat_map type_constructors ws) → In c (flat_map type_constructors (ws ++ vs))
    flat_in_front [] vs c i = absurd i
    flat_in_front (w ∷ ws) vs c i = elim (in_parts c (type_constructors w) (flat_map type_constructors ws) i) [
      | inl j ↦ in_front c (type_constructors w) (flat_map type_constructors (ws ++ vs)) j
      | inr j ↦ in_back c (type_constructors w) (flat_map type_constructors (ws ++ vs)) (flat_in_front ws vs c j)
    ]

    flat_in_back : (ws vs : List WrittenType) (c : Bytes) → In c (flat_map type_constructors vs) → In c (flat_map type_constructors (ws ++ vs))
    flat_in_back [] vs c i = i
    flat_in_back (w ∷ ws) vs c i = in_back c (type_constructors w) (flat_map type_constructors (ws ++ vs)) (flat_in_back ws vs c i)

    constructors_all : (n : ℕ) (cs : List PlainConstructor) → Known (flat_map type_constructors (fields_of cs))
        → AllFields (map (λ (s : Scheme). s.takes) (map (constructor_scheme types n params) cs))
    constructors_all n [] known = tt
    constructors_all n (k ∷ ks) known = (
      fields_all k.field_types (λ c m i e. known c m (flat_in_front k.field_types (fields_of ks) c i) e),
      constructors_all n ks (λ c m i e. known c m (flat_in_back k.field_types (fields_of ks) c i) e),
    )

-- == The declarations ==

-- what the fields of a declaration mention
abbrev mentions_in : Declaration Span → List Bytes
mentions_in (data_declaration a x params constructors) = flat_map type_constructors (fields_of constructors)
mentions_in _ = []

declaration_all : (P : ℕ → Type 0) (types : List (Bytes × ℕ)) (n : ℕ) (d : Declaration Span) → Known P types [] (mentions_in d)
    → AllFields P (map (λ (s : Scheme). s.takes) (constructor_schemes types n d))
declaration_all P types n (data_declaration a x params constructors) known = constructors_all P types params n constructors known
declaration_all P types n (import_declaration a m) known = tt
declaration_all P types n (fixity_declaration a side strength names) known = tt
declaration_all P types n (signature_declaration a names type) known = tt
declaration_all P types n (function_declaration a x clauses) known = tt

-- of the declarations from a number on: the one with that number behind it, if there is one
numbered_all : (P : ℕ → Type 0) (types : List (Bytes × ℕ)) (from : ℕ) (ds : List (Declaration Span)) (n : ℕ) → ((c : Bytes) (m : ℕ) → first_named c types ≡ Some m → P m)
    → AllFields P (map (λ (s : Scheme). s.takes) (get_or (constructed_from types from ds) n []))
numbered_all P types from [] n known = tt
numbered_all P types from (d ∷ ds) zero known = declaration_all P types from d (λ c m i e. known c m e)
numbered_all P types from (d ∷ ds) (suc n) known = numbered_all P types (suc from) ds n known

-- the declaration of a data type, by its name
record Found (types : List (Bytes × ℕ)) (from : ℕ) (ds : List (Declaration Span)) (c : Bytes) (m : ℕ) : Type 0 where
  place : ℕ
  number : from + place ≡ m
  declaration : Declaration Span
  made : get_or (constructed_from types from ds) place [] ≡ constructor_schemes types m declaration
  mentioned : first_named c (flat_map data_mentions ds) ≡ Some (mentions_in declaration)

further : (types : List (Bytes × ℕ)) (from : ℕ) (d : Declaration Span) (ds : List (Declaration Span)) (c : Bytes) (m : ℕ) (r : Found types (suc from) ds c m)
    → first_named c (flat_map data_mentions (d ∷ ds)) ≡ first_named c (flat_map data_mentions ds) → Found types from (d ∷ ds) c m
further types from d ds c m r e = record {
  place = suc r.place;
  number = let n : suc from + r.place ≡ m = r.number in omega arith;
  declaration = r.declaration;
  made = r.made;
  mentioned = e ∙ r.mentioned;
}

found : (types : List (Bytes × ℕ)) (from : ℕ) (ds : List (Declaration Span)) (c : Bytes) (m : ℕ) → first_named c (data_types_from from ds) ≡ Some m → Found types from ds c m
found types from [] c m e = absurd (cc)
found types from (import_declaration a x ∷ ds) c m e = further types from (import_declaration a x) ds c m (found types (suc from) ds c m e) refl
found types from (fixity_declaration a side strength names ∷ ds) c m e = further types from (fixity_declaration a side strength names) ds c m (found types (suc from) ds c m e) refl
found types from (signature_declaration a names type ∷ ds) c m e = further types from (signature_declaration a names type) ds c m (found types (suc from) ds c m e) refl
found types from (function_declaration a x clauses ∷ ds) c m e = further types from (function_declaration a x clauses) ds c m (found types (suc from) ds c m e) refl
found types from (data_declaration a x params constructors ∷ ds) c m e = elim (true_or_false (same_name c x)) [
  | inl s ↦
      let f : Some from ≡ Some m = sym (ap (λ b. if b then Some from else first_named c (data_types_from (suc from) ds)) s) ∙ e in
      let same : from ≡ m = cc in
      record {
        place = 0;
        number = omega arith;
        declaration = data_declaration a x params constructors;
        made = ap (λ k. constructor_schemes types k (data_declaration a x params constructors)) same;
        mentioned = ap (λ b. if b then Some (flat_map type_constructors (fields_of constructors)) else first_named c (flat_map data_mentions ds)) s;
      }
  | inr s ↦
      further types from (data_declaration a x params constructors) ds c m
      (found types (suc from) ds c m (sym (ap (λ b. if b then Some from else first_named c (data_types_from (suc from) ds)) s) ∙ e))
      (ap (λ b. if b then Some (flat_map type_constructors (fields_of constructors)) else first_named c (flat_map data_mentions ds)) s)
]

-- == The steps ==

-- a data type, by its number, that is unfolded in fewer than so many steps: each that its fields mention is unfolded in fewer still
abbrev pub Ends : (ℕ → List (List Ty)) → ℕ → ℕ → Type 0
Ends fields zero n = ⊥
Ends fields (suc k) n = AllFields (Ends fields k) (fields n)

abbrev fields_by : List (Declaration Span) → ℕ → List (List Ty)
fields_by decls n = map (λ (s : Scheme). s.takes) (get_or (constructed_from (data_types_from 0 decls) 0 decls) n [])

-- by name, and so by number
number_ends : (decls : List (Declaration Span)) (k : ℕ) (c : Bytes) (m : ℕ) → NameEnds (flat_map data_mentions decls) k c → first_named c (data_types_from 0 decls) ≡ Some m → Ends (fields_by decls) k m
number_ends decls zero c m ends e = absurd ends
number_ends decls (suc k) c m ends e =
    let types : List (Bytes × ℕ) = data_types_from 0 decls in
    let f = found types 0 decls c m e in
    let at : f.place ≡ m = (let n : 0 + f.place ≡ m = f.number in omega arith) in
    let made : get_or (constructed_from types 0 decls) m [] ≡ constructor_schemes types m f.declaration = subst (λ j. get_or (constructed_from types 0 decls) j [] ≡ constructor_schemes types m f.declaration) at f.made in
    let mentioned : mentions_in f.declaration ≡ mentioned_by (flat_map data_mentions decls) c = sym (mentions_some (flat_map data_mentions decls) c (mentions_in f.declaration) f.mentioned) in
    subst (λ (ss : List Scheme). AllFields (Ends (fields_by decls) k) (map (λ (s : Scheme). s.takes) ss)) (sym made)
    (declaration_all (Ends (fields_by decls) k) types m f.declaration
    (λ d n i g. number_ends decls k d n (ends d (subst (λ (names : List Bytes). In d names) mentioned i)) g))

-- each data type is unfolded in one step more than there are data types at most, or two
pub all_end : (decls : List (Declaration Span)) → flat_map (ill_founded (flat_map data_mentions decls)) decls ≡ []
    → (n : ℕ) → Ends (fields_by decls) (suc (suc (length (flat_map data_mentions decls)))) n
all_end decls e n =
    numbered_all (Ends (fields_by decls) (suc (length (flat_map data_mentions decls)))) (data_types_from 0 decls) 0 decls n
    (λ c m g. number_ends decls (suc (length (flat_map data_mentions decls))) c m
    (each_ends (flat_map data_mentions decls) (λ x i. none_recursive (flat_map data_mentions decls) decls e x i) c) g)

-- what holds of all data types holds of each in a type
head_data : (P : ℕ → Type 0) → ((n : ℕ) → P n) → (head : Head) → HeadIs P head
head_data P p (h.Data n) = p n
head_data P p h.Tuple = tt
head_data P p h.Fun = tt
head_data P p h.Comp = tt
head_data P p h.I = tt
head_data P p h.Layer = tt
head_data P p h.StateT = tt
head_data P p h.ReT = tt
head_data P p (h.Unknown n) = tt

mutual
  pub all_data : (P : ℕ → Type 0) → ((n : ℕ) → P n) → (t : Ty) → AllData P t
  all_data P p (var x) = tt
  all_data P p (app head parts) = (head_data P p head, all_data_in P p parts)

  all_data_in : (P : ℕ → Type 0) → ((n : ℕ) → P n) → (ts : Tys) → AllDataIn P ts
  all_data_in P p none = tt
  all_data_in P p (more t ts) = (all_data P p t, all_data_in P p ts)
