-- Declarations of data types are read exactly.
use Rattle.std.proofs.Common.{◌≡◌, ℕ, ◌<◌, ◌≤◌, Bool, true, false, not, ◌||◌, List, [], ◌∷◌, length, drop, Some, None, refl, sym, ap, subst, ◌∙◌, arith, ◌⊎◌, inl, inr}
use Rattle.rw_base.specs.declared.place.Span.{Span}
use Rattle.rw_tree.specs.declared.types.Written.{Written}
use Rattle.rw_tree.specs.declared.decl.Constructor.{Constructor}
use Rattle.rw_tree.specs.declared.decl.Decl.{Decl}
use Rattle.rw_tree.specs.declared.decl.Decl.TheVariants as d
use Rattle.rw_parser_grammar.specs.declared.lexeme.Mark.TheVariants as m
use Rattle.rw_parser_grammar.specs.declared.lexeme.Spot.{Spot}
use Rattle.rw_parser_grammar.specs.declared.lexeme.Lexeme.{Lexeme}
use Rattle.rw_parser_grammar.specs.declared.lexeme.Lexeme.TheVariants as t
use Rattle.rw_parser_grammar.specs.Lexemes.{next_spot, span_at, span_of}
use Rattle.rw_parser_grammar.specs.Lists.{IsSeparated, IsMany}
use Rattle.rw_parser_grammar.specs.Declarations.{IsParameter, a_parameter, IsConstructor, a_data_constructor, IsConstructors, no_constructors, some_constructors, IsClassName, a_class_name, IsDeriving, no_deriving, derives_one, derives_none, derives_some, IsData, a_data, a_newtype}
use Rattle.rw_parser_reading.specs.Read.{◌>>=◌, Read, same_mark, sees, after, separated_at, variable_at, constructor_at, begins_variable}
use Rattle.rw_parser_reading.specs.ReadTypes.{begins_atype, ends_btype, ends_type, atype_at, atypes_at}
use Rattle.rw_parser_reading.specs.ReadDeclarations.{parameters_at, ends_constructors, data_constructor_at, constructors_at, class_name_at, classes_at, derived_at, deriving_at, data_at, newtype_at, data_or_newtype_at}
use Rattle.rw_parser_reading.specs.ReadClauses.{ends_entry}
use Rattle.rw_parser_reading.proofs.ReadExact.{bind_some, chosen, some_is, moved, not_true, neither, is_same, same_self, seen_is, after_is, after_mark, always, Exact, Runs, separated_sound, separated_read, separated_shorter, many_runs, first_has}
use Rattle.rw_parser_laws.proofs.ReadTypes.{atype_exact, atypes_runs}
use Rattle.rw_parser_laws.proofs.ReadSides.{variable_is}

pub constructor_is : (ts : List Lexeme) (p : (Spot × List ℕ) × List Lexeme) → constructor_at ts ≡ Some p → ts ≡ t.Constructor p.0.0 p.0.1 ∷ p.1
constructor_is [] p h = absurd (cc)
constructor_is (t.Mark w a ∷ ts) p h = absurd (cc)
constructor_is (t.Variable w name ∷ ts) p h = absurd (cc)
constructor_is (t.Constructor w name ∷ ts) p h = ap (λ (q : (Spot × List ℕ) × List Lexeme). t.Constructor q.0.0 q.0.1 ∷ q.1) (some_is ((w, name), ts) p h)
constructor_is (t.Operator w name ∷ ts) p h = absurd (cc)
constructor_is (t.Number w digits ∷ ts) p h = absurd (cc)

-- ---- variables
abbrev parameter_at : List Lexeme → Read (List ℕ)
parameter_at xs = variable_at xs >>= λ v. Some (v.0.1, v.1)

parameter_sound : (ts : List Lexeme) (p : List ℕ × List Lexeme) → parameter_at ts ≡ Some p → IsParameter ts p.0 p.1
parameter_sound ts p h =
    let v = bind_some (variable_at ts) _ p h in
    moved (λ z. IsParameter ts z.0 z.1) _ p v.2 (subst (λ z. IsParameter z v.0.0.1 v.0.1) (sym (variable_is ts v.0 v.1)) (a_parameter v.0.0.0 v.0.0.1 v.0.1))

parameter_complete : (ts : List Lexeme) (a : List ℕ) (rest : List Lexeme) → IsParameter ts a rest → always rest ≡ true → parameter_at ts ≡ Some (a, rest)
parameter_complete _ _ _ (a_parameter w name rest) s = refl

parameter_shorter : (ts : List Lexeme) (a : List ℕ) (rest : List Lexeme) → IsParameter ts a rest → length rest < length ts
parameter_shorter _ _ _ (a_parameter w name rest) = omega arith

parameter_begins : (ts : List Lexeme) (a : List ℕ) (rest : List Lexeme) → IsParameter ts a rest → begins_variable ts ≡ true
parameter_begins _ _ _ (a_parameter w name rest) = refl

abbrev no_variable : List Lexeme → Bool
no_variable ts = not (begins_variable ts)

pub parameters_runs : Runs parameters_at (IsMany IsParameter) no_variable
unfolding parameters_at
parameters_runs =
    many_runs begins_variable parameter_at IsParameter always (record { sound = parameter_sound; complete = parameter_complete; shorter = parameter_shorter }) parameter_begins (λ ts b. refl) no_variable (λ rest h. not_true _ h) (λ rest h. refl)

-- ---- deriving
class_sound : (ts : List Lexeme) (p : List ℕ × List Lexeme) → class_name_at ts ≡ Some p → IsClassName ts p.0 p.1
unfolding class_name_at
class_sound ts p h =
    let c = bind_some (constructor_at ts) _ p h in
    moved (λ z. IsClassName ts z.0 z.1) _ p c.2 (subst (λ z. IsClassName z c.0.0.1 c.0.1) (sym (constructor_is ts c.0 c.1)) (a_class_name c.0.0.0 c.0.0.1 c.0.1))

class_complete : (ts : List Lexeme) (a : List ℕ) (rest : List Lexeme) → IsClassName ts a rest → always rest ≡ true → class_name_at ts ≡ Some (a, rest)
unfolding class_name_at
class_complete _ _ _ (a_class_name w name rest) s = refl

class_shorter : (ts : List Lexeme) (a : List ℕ) (rest : List Lexeme) → IsClassName ts a rest → length rest < length ts
class_shorter _ _ _ (a_class_name w name rest) = omega arith

pub class_exact : Exact class_name_at IsClassName always
class_exact = record { sound = class_sound; complete = class_complete; shorter = class_shorter }

pub class_opens : (ts : List Lexeme) (a : List ℕ) (rest : List Lexeme) → IsClassName ts a rest → sees m.Closes ts ≡ false
class_opens _ _ _ (a_class_name w name rest) = refl

closes_no_comma : (w : Spot) (rest : List Lexeme) → sees m.Comma (t.Mark w m.Closes ∷ rest) ≡ false
unfolding same_mark
closes_no_comma w rest = refl

classes_sound : (u v : Spot) (ts : List Lexeme) (p : List (List ℕ) × List Lexeme) → classes_at ts ≡ Some p → IsDeriving (t.Mark u m.Deriving ∷ t.Mark v m.Opens ∷ ts) p.0 p.1
unfolding classes_at
classes_sound u v ts p h =
    elim (chosen (sees m.Closes ts) _ _ _ h) [
      | inl k ↦ subst (λ z. IsDeriving (t.Mark u m.Deriving ∷ t.Mark v m.Opens ∷ z) p.0 p.1) (sym (seen_is m.Closes ts k.0))
          (moved (λ z. IsDeriving (t.Mark u m.Deriving ∷ t.Mark v m.Opens ∷ t.Mark (next_spot ts) m.Closes ∷ drop 1 ts) z.0 z.1) _ p k.1 (derives_none u v (next_spot ts) (drop 1 ts)))
      | inr k ↦ let a = bind_some (separated_at m.Comma class_name_at (length ts) ts) _ p k.1 in
          let r = bind_some (after m.Closes a.0.1) _ p a.2 in
          moved (λ z. IsDeriving (t.Mark u m.Deriving ∷ t.Mark v m.Opens ∷ ts) z.0 z.1) _ p r.2
          (derives_some u v (next_spot a.0.1) ts r.0 a.0.0
          (subst (IsSeparated m.Comma IsClassName ts a.0.0) (after_is m.Closes a.0.1 r.0 r.1) (separated_sound m.Comma class_name_at IsClassName always class_exact (λ w rest. refl) (length ts) ts a.0 a.1)))
    ]

derived_sound : (u : Spot) (ts : List Lexeme) (p : List (List ℕ) × List Lexeme) → derived_at ts ≡ Some p → IsDeriving (t.Mark u m.Deriving ∷ ts) p.0 p.1
unfolding derived_at class_name_at
derived_sound u ts p h =
    elim (chosen (sees m.Opens ts) _ _ _ h) [
      | inl k ↦ subst (λ z. IsDeriving (t.Mark u m.Deriving ∷ z) p.0 p.1) (sym (seen_is m.Opens ts k.0)) (classes_sound u (next_spot ts) (drop 1 ts) p k.1)
      | inr k ↦ let a = bind_some (class_name_at ts) _ p k.1 in
          let c = bind_some (constructor_at ts) _ a.0 a.1 in
          moved (λ z. IsDeriving (t.Mark u m.Deriving ∷ ts) z.0 z.1) _ p a.2
          (moved (λ (z : List ℕ × List Lexeme). IsDeriving (t.Mark u m.Deriving ∷ ts) (z.0 ∷ []) z.1) _ a.0 c.2
          (subst (λ z. IsDeriving (t.Mark u m.Deriving ∷ z) (c.0.0.1 ∷ []) c.0.1) (sym (constructor_is ts c.0 c.1)) (derives_one u c.0.0.0 c.0.0.1 c.0.1)))
    ]

deriving_sound : (ts : List Lexeme) (p : List (List ℕ) × List Lexeme) → deriving_at ts ≡ Some p → IsDeriving ts p.0 p.1
unfolding deriving_at
deriving_sound ts p h =
    elim (chosen (sees m.Deriving ts) _ _ _ h) [
      | inl k ↦ subst (λ z. IsDeriving z p.0 p.1) (sym (seen_is m.Deriving ts k.0)) (derived_sound (next_spot ts) (drop 1 ts) p k.1)
      | inr k ↦ moved (λ z. IsDeriving ts z.0 z.1) _ p k.1 (no_deriving ts)
    ]

abbrev pub no_deriving_left : List Lexeme → Bool
no_deriving_left ts = not (sees m.Deriving ts)

absent_read : (ts : List Lexeme) → sees m.Deriving ts ≡ false → deriving_at ts ≡ Some ([], ts)
unfolding deriving_at
absent_read ts h = rw h

one_read : (v w : Spot) (name : List ℕ) (rest : List Lexeme) → deriving_at (t.Mark v m.Deriving ∷ t.Constructor w name ∷ rest) ≡ Some (name ∷ [], rest)
unfolding deriving_at derived_at class_name_at same_mark
one_read v w name rest = refl

none_read : (u v w : Spot) (rest : List Lexeme) → deriving_at (t.Mark u m.Deriving ∷ t.Mark v m.Opens ∷ t.Mark w m.Closes ∷ rest) ≡ Some ([], rest)
unfolding deriving_at derived_at classes_at same_mark
none_read u v w rest = refl

some_read : (u v w : Spot) (ts rest : List Lexeme) (names : List (List ℕ)) → sees m.Closes ts ≡ false → separated_at m.Comma class_name_at (length ts) ts ≡ Some (names, t.Mark w m.Closes ∷ rest)
    → deriving_at (t.Mark u m.Deriving ∷ t.Mark v m.Opens ∷ ts) ≡ Some (names, rest)
unfolding deriving_at derived_at classes_at
some_read u v w ts rest names c h = rw (same_self m.Deriving, same_self m.Opens, c, h, after_mark m.Closes w rest)

deriving_complete : (ts : List Lexeme) (a : List (List ℕ)) (rest : List Lexeme) → IsDeriving ts a rest → no_deriving_left rest ≡ true → deriving_at ts ≡ Some (a, rest)
deriving_complete _ _ _ (no_deriving ts) s = absent_read ts (not_true _ s)
deriving_complete _ _ _ (derives_one v w name rest) s = one_read v w name rest
deriving_complete _ _ _ (derives_none u v w rest) s = none_read u v w rest
deriving_complete _ _ _ (derives_some u v w ts rest names d) s =
    some_read u v w ts rest names (first_has (sees m.Closes) false class_opens d)
    (separated_read m.Comma class_name_at IsClassName always class_exact (λ x xs. refl) d (length ts) (omega arith) (closes_no_comma w rest) refl)

deriving_shorter : (ts : List Lexeme) (a : List (List ℕ)) (rest : List Lexeme) → IsDeriving ts a rest → length rest ≤ length ts
deriving_shorter _ _ _ (no_deriving ts) = omega arith
deriving_shorter _ _ _ (derives_one v w name rest) = omega arith
deriving_shorter _ _ _ (derives_none u v w rest) = omega arith
deriving_shorter _ _ _ (derives_some u v w ts rest names d) = let h = separated_shorter m.Comma class_name_at IsClassName always class_exact (λ x xs. refl) d in omega arith

pub deriving_runs : Runs deriving_at IsDeriving no_deriving_left
deriving_runs = record { sound = deriving_sound; complete = deriving_complete; shorter = deriving_shorter }

-- ---- what may follow
constructors_end : (ts : List Lexeme) → ends_constructors ts ≡ true → (sees m.Bar ts ≡ false) × ((sees m.Equal ts ≡ false) × (ends_btype ts ≡ true))
constructors_end ts s = let a = neither (sees m.Bar ts) _ s in let b = neither (sees m.Equal ts) (begins_atype ts) a.1 in (a.0, (b.0, b.1))

bar_ends : (w : Spot) (rest : List Lexeme) → ends_btype (t.Mark w m.Bar ∷ rest) ≡ true
unfolding same_mark
bar_ends w rest = refl

equal_no_variable : (w : Spot) (rest : List Lexeme) → no_variable (t.Mark w m.Equal ∷ rest) ≡ true
equal_no_variable w rest = refl

-- `deriving`, or what follows a whole item
deriving_ends : (ts : List Lexeme) (a : List (List ℕ)) (rest : List Lexeme) → IsDeriving ts a rest → ends_entry rest ≡ true → (ends_constructors ts ≡ true) × (no_variable ts ≡ true)
unfolding same_mark
deriving_ends _ _ _ (no_deriving ts) s = entry ts s
  where
    entry : (ts : List Lexeme) → ends_entry ts ≡ true → (ends_constructors ts ≡ true) × (no_variable ts ≡ true)
    entry [] h = absurd (cc)
    entry (t.Mark w a ∷ ts) h =
        elim (one_of (same_mark a m.Semicolon) (same_mark a m.ClosesBlock) h) [
          | inl k ↦ subst (λ z. (ends_constructors (t.Mark w z ∷ ts) ≡ true) × (no_variable (t.Mark w z ∷ ts) ≡ true)) (sym (is_same a m.Semicolon k)) (refl, refl)
          | inr k ↦ subst (λ z. (ends_constructors (t.Mark w z ∷ ts) ≡ true) × (no_variable (t.Mark w z ∷ ts) ≡ true)) (sym (is_same a m.ClosesBlock k)) (refl, refl)
        ]
      where
        one_of : (a b : Bool) → (a || b) ≡ true → (a ≡ true) ⊎ (b ≡ true)
        one_of true b h = inl refl
        one_of false b h = inr h
    entry (t.Variable w name ∷ ts) h = absurd (cc)
    entry (t.Constructor w name ∷ ts) h = absurd (cc)
    entry (t.Operator w name ∷ ts) h = absurd (cc)
    entry (t.Number w digits ∷ ts) h = absurd (cc)
deriving_ends _ _ _ (derives_one v w name rest) s = (refl, refl)
deriving_ends _ _ _ (derives_none u v w rest) s = (refl, refl)
deriving_ends _ _ _ (derives_some u v w ts rest names d) s = (refl, refl)

entry_no_deriving : (ts : List Lexeme) → ends_entry ts ≡ true → no_deriving_left ts ≡ true
unfolding same_mark
entry_no_deriving [] h = absurd (cc)
entry_no_deriving (t.Mark w a ∷ ts) h =
    elim (one_of (same_mark a m.Semicolon) (same_mark a m.ClosesBlock) h) [
      | inl k ↦ subst (λ z. no_deriving_left (t.Mark w z ∷ ts) ≡ true) (sym (is_same a m.Semicolon k)) refl
      | inr k ↦ subst (λ z. no_deriving_left (t.Mark w z ∷ ts) ≡ true) (sym (is_same a m.ClosesBlock k)) refl
    ]
  where
    one_of : (a b : Bool) → (a || b) ≡ true → (a ≡ true) ⊎ (b ≡ true)
    one_of true b h = inl refl
    one_of false b h = inr h
entry_no_deriving (t.Variable w name ∷ ts) h = absurd (cc)
entry_no_deriving (t.Constructor w name ∷ ts) h = absurd (cc)
entry_no_deriving (t.Operator w name ∷ ts) h = absurd (cc)
entry_no_deriving (t.Number w digits ∷ ts) h = absurd (cc)

newtype_no_data : (w : Spot) (ts : List Lexeme) → sees m.Data (t.Mark w m.Newtype ∷ ts) ≡ false
unfolding same_mark
newtype_no_data w ts = refl

module _ (inner : List Lexeme → Read Written) (Inner : List Lexeme → Written → List Lexeme → Type 0) (exact : Exact inner Inner ends_type)
    (opens : (ts : List Lexeme) (type : Written) (rest : List Lexeme) → Inner ts type rest → sees m.Closes ts ≡ false) where
  -- ---- data constructors
  made_sound : (ts : List Lexeme) (p : Constructor × List Lexeme) → data_constructor_at inner ts ≡ Some p → IsConstructor Inner ts p.0 p.1
  unfolding data_constructor_at
  made_sound ts p h =
      let c = bind_some (constructor_at ts) _ p h in
      let f = bind_some (atypes_at inner c.0.1) _ p c.2 in
      moved (λ z. IsConstructor Inner ts z.0 z.1) _ p f.2
      (subst (λ z. IsConstructor Inner z (record { name = c.0.0.1; fields = f.0.0 }) f.0.1) (sym (constructor_is ts c.0 c.1)) (a_data_constructor c.0.0.0 c.0.0.1 c.0.1 f.0.1 f.0.0 ((atypes_runs inner Inner exact opens).sound c.0.1 f.0 f.1)))

  made_read : (w : Spot) (name : List ℕ) (ts rest : List Lexeme) (fields : List Written) → atypes_at inner ts ≡ Some (fields, rest) → data_constructor_at inner (t.Constructor w name ∷ ts) ≡ Some (record { name = name; fields = fields }, rest)
  unfolding data_constructor_at
  made_read w name ts rest fields h = rw h

  made_complete : (ts : List Lexeme) (a : Constructor) (rest : List Lexeme) → IsConstructor Inner ts a rest → ends_btype rest ≡ true → data_constructor_at inner ts ≡ Some (a, rest)
  made_complete _ _ _ (a_data_constructor w name ts rest fields ds) s = made_read w name ts rest fields ((atypes_runs inner Inner exact opens).complete ts fields rest ds s)

  made_shorter : (ts : List Lexeme) (a : Constructor) (rest : List Lexeme) → IsConstructor Inner ts a rest → length rest < length ts
  made_shorter _ _ _ (a_data_constructor w name ts rest fields ds) = let h = (atypes_runs inner Inner exact opens).shorter ts fields rest ds in omega arith

  made_exact : Exact (data_constructor_at inner) (IsConstructor Inner) ends_btype
  made_exact = record { sound = made_sound; complete = made_complete; shorter = made_shorter }

  constructors_sound : (ts : List Lexeme) (p : List Constructor × List Lexeme) → constructors_at inner ts ≡ Some p → IsConstructors Inner ts p.0 p.1
  unfolding constructors_at
  constructors_sound ts p h =
      elim (chosen (sees m.Equal ts) _ _ _ h) [
        | inl k ↦ subst (λ z. IsConstructors Inner z p.0 p.1) (sym (seen_is m.Equal ts k.0))
            (some_constructors (next_spot ts) (drop 1 ts) p.1 p.0 (separated_sound m.Bar (data_constructor_at inner) (IsConstructor Inner) ends_btype made_exact bar_ends (length (drop 1 ts)) (drop 1 ts) p k.1))
        | inr k ↦ moved (λ z. IsConstructors Inner ts z.0 z.1) _ p k.1 (no_constructors ts)
      ]

  no_constructors_read : (ts : List Lexeme) → sees m.Equal ts ≡ false → constructors_at inner ts ≡ Some ([], ts)
  unfolding constructors_at
  no_constructors_read ts h = rw h

  constructors_read : (w : Spot) (ts rest : List Lexeme) (all : List Constructor) → separated_at m.Bar (data_constructor_at inner) (length ts) ts ≡ Some (all, rest) → constructors_at inner (t.Mark w m.Equal ∷ ts) ≡ Some (all, rest)
  unfolding constructors_at
  constructors_read w ts rest all h = rw (same_self m.Equal, h)

  constructors_complete : (ts : List Lexeme) (a : List Constructor) (rest : List Lexeme) → IsConstructors Inner ts a rest → ends_constructors rest ≡ true → constructors_at inner ts ≡ Some (a, rest)
  constructors_complete _ _ _ (no_constructors ts) s = no_constructors_read ts (constructors_end ts s).1.0
  constructors_complete _ _ _ (some_constructors w ts rest all d) s =
      constructors_read w ts rest all (separated_read m.Bar (data_constructor_at inner) (IsConstructor Inner) ends_btype made_exact bar_ends d (length ts) (omega arith) (constructors_end rest s).0 (constructors_end rest s).1.1)

  constructors_shorter : (ts : List Lexeme) (a : List Constructor) (rest : List Lexeme) → IsConstructors Inner ts a rest → length rest ≤ length ts
  constructors_shorter _ _ _ (no_constructors ts) = omega arith
  constructors_shorter _ _ _ (some_constructors w ts rest all d) = let h = separated_shorter m.Bar (data_constructor_at inner) (IsConstructor Inner) ends_btype made_exact bar_ends d in omega arith

  -- constructors, or what follows them, begin with no variable
  constructors_no_variable : (ts : List Lexeme) (a : List Constructor) (rest : List Lexeme) → IsConstructors Inner ts a rest → no_variable rest ≡ true → no_variable ts ≡ true
  constructors_no_variable _ _ _ (no_constructors ts) s = s
  constructors_no_variable _ _ _ (some_constructors w ts rest all d) s = refl

  -- ---- data types
  data_sound : (ts : List Lexeme) (p : Decl Span × List Lexeme) → sees m.Data ts ≡ true → data_at inner ts ≡ Some p → IsData Inner ts p.0 p.1
  unfolding data_at
  data_sound ts p b h =
      let c = bind_some (constructor_at (drop 1 ts)) _ p h in
      let q = bind_some (parameters_at c.0.1) _ p c.2 in
      let k = bind_some (constructors_at inner q.0.1) _ p q.2 in
      let x = bind_some (deriving_at k.0.1) _ p k.2 in
      let made : Decl Span = d.Data (span_of ts x.0.1) (record { name = c.0.0.1; params = q.0.0; constructors = k.0.0 }) in
      moved (λ z. IsData Inner ts z.0 z.1) _ p x.2
      (subst (λ z. IsData Inner z made x.0.1) (sym (seen_is m.Data ts b ∙ ap (λ z. t.Mark (next_spot ts) m.Data ∷ z) (constructor_is (drop 1 ts) c.0 c.1)))
      (a_data (next_spot ts) c.0.0.0 c.0.0.1 c.0.1 q.0.1 k.0.1 x.0.1 q.0.0 x.0.0 k.0.0 (parameters_runs.sound c.0.1 q.0 q.1) (constructors_sound q.0.1 k.0 k.1) (deriving_sound k.0.1 x.0 x.1)))

  newtype_sound : (ts : List Lexeme) (p : Decl Span × List Lexeme) → sees m.Newtype ts ≡ true → newtype_at inner ts ≡ Some p → IsData Inner ts p.0 p.1
  unfolding newtype_at
  newtype_sound ts p b h =
      let c = bind_some (constructor_at (drop 1 ts)) _ p h in
      let q = bind_some (parameters_at c.0.1) _ p c.2 in
      let r = bind_some (after m.Equal q.0.1) _ p q.2 in
      let k = bind_some (constructor_at r.0) _ p r.2 in
      let f = bind_some (atype_at inner k.0.1) _ p k.2 in
      let x = bind_some (deriving_at f.0.1) _ p f.2 in
      let made : Decl Span = d.Data (span_of ts x.0.1) (record { name = c.0.0.1; params = q.0.0; constructors = record { name = k.0.0.1; fields = f.0.0 ∷ [] } ∷ [] }) in
      let head : q.0.1 ≡ t.Mark (next_spot q.0.1) m.Equal ∷ t.Constructor k.0.0.0 k.0.0.1 ∷ k.0.1 = after_is m.Equal q.0.1 r.0 r.1 ∙ ap (λ z. t.Mark (next_spot q.0.1) m.Equal ∷ z) (constructor_is r.0 k.0 k.1) in
      moved (λ z. IsData Inner ts z.0 z.1) _ p x.2
      (subst (λ z. IsData Inner z made x.0.1) (sym (seen_is m.Newtype ts b ∙ ap (λ z. t.Mark (next_spot ts) m.Newtype ∷ z) (constructor_is (drop 1 ts) c.0 c.1)))
      (a_newtype (next_spot ts) c.0.0.0 (next_spot q.0.1) k.0.0.0 c.0.0.1 k.0.0.1 c.0.1 k.0.1 f.0.1 x.0.1 q.0.0 x.0.0 f.0.0 (subst (IsMany IsParameter c.0.1 q.0.0) head (parameters_runs.sound c.0.1 q.0 q.1))
      ((atype_exact inner Inner exact opens).sound k.0.1 f.0 f.1) (deriving_sound f.0.1 x.0 x.1)))

  data_read : (v w : Spot) (name : List ℕ) (ts mid next rest : List Lexeme) (params classes : List (List ℕ)) (all : List Constructor) → parameters_at ts ≡ Some (params, mid) → constructors_at inner mid ≡ Some (all, next)
      → deriving_at next ≡ Some (classes, rest) → data_at inner (t.Mark v m.Data ∷ t.Constructor w name ∷ ts) ≡ Some (d.Data (span_at v rest) (record { name = name; params = params; constructors = all }), rest)
  unfolding data_at
  data_read v w name ts mid next rest params classes all h g k = rw (h, g, k)

  newtype_read : (u v w x : Spot) (name made : List ℕ) (ts mid next rest : List Lexeme) (params classes : List (List ℕ)) (field : Written) → parameters_at ts ≡ Some (params, t.Mark w m.Equal ∷ t.Constructor x made ∷ mid)
      → atype_at inner mid ≡ Some (field, next) → deriving_at next ≡ Some (classes, rest)
      → newtype_at inner (t.Mark u m.Newtype ∷ t.Constructor v name ∷ ts) ≡ Some (d.Data (span_at u rest) (record { name = name; params = params; constructors = record { name = made; fields = field ∷ [] } ∷ [] }), rest)
  unfolding newtype_at
  newtype_read u v w x name made ts mid next rest params classes field h g k = rw (h, after_mark m.Equal w (t.Constructor x made ∷ mid), g, k)

  data_complete : (ts : List Lexeme) (a : Decl Span) (rest : List Lexeme) → IsData Inner ts a rest → ends_entry rest ≡ true → data_or_newtype_at inner ts ≡ Some (a, rest)
  unfolding data_or_newtype_at
  data_complete _ _ _ (a_data v w name ts mid next rest params classes all ds k x) s =
      let e = deriving_ends next classes rest x s in
      rw (same_self m.Data) (data_read v w name ts mid next rest params classes all (parameters_runs.complete ts params mid ds (constructors_no_variable mid all next k e.1)) (constructors_complete mid all next k e.0) (deriving_complete next classes rest x (entry_no_deriving rest s)))
  data_complete _ _ _ (a_newtype u v w y name made ts mid next rest params classes field ds k x) s =
      rw (newtype_no_data u (t.Constructor v name ∷ ts), same_self m.Newtype)
      (newtype_read u v w y name made ts mid next rest params classes field (parameters_runs.complete ts params _ ds (equal_no_variable w (t.Constructor y made ∷ mid))) ((atype_exact inner Inner exact opens).complete mid field next k refl)
      (deriving_complete next classes rest x (entry_no_deriving rest s)))

  data_shorter : (ts : List Lexeme) (a : Decl Span) (rest : List Lexeme) → IsData Inner ts a rest → length rest < length ts
  data_shorter _ _ _ (a_data v w name ts mid next rest params classes all ds k x) =
      let h = parameters_runs.shorter ts params mid ds in let i = constructors_shorter mid all next k in let j = deriving_shorter next classes rest x in omega arith
  data_shorter _ _ _ (a_newtype u v w y name made ts mid next rest params classes field ds k x) =
      let h = parameters_runs.shorter ts params _ ds in let i = (atype_exact inner Inner exact opens).shorter mid field next k in let j = deriving_shorter next classes rest x in omega arith

  either_sound : (ts : List Lexeme) (p : Decl Span × List Lexeme) → data_or_newtype_at inner ts ≡ Some p → IsData Inner ts p.0 p.1
  unfolding data_or_newtype_at
  either_sound ts p h =
      elim (chosen (sees m.Data ts) _ _ _ h) [
        | inl k ↦ data_sound ts p k.0 k.1
        | inr k ↦ elim (chosen (sees m.Newtype ts) _ _ _ k.1) [ inl c ↦ newtype_sound ts p c.0 c.1 | inr c ↦ absurd (let n : None ≡ Some p = c.1 in cc) ]
      ]

  pub data_exact : Exact (data_or_newtype_at inner) (IsData Inner) ends_entry
  data_exact = record { sound = either_sound; complete = data_complete; shorter = data_shorter }
