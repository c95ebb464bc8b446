-- Imports and exports are read exactly.
use Rattle.std.proofs.Common.{◌≡◌, ℕ, zero, suc, ◌<◌, ◌≤◌, Bool, true, false, not, ◌||◌, List, [], ◌∷◌, length, drop, Some, refl, sym, ap, subst, ◌∙◌, arith, inl, inr}
use Rattle.std.specs.Prelude.{codes}
use Rattle.std.specs.Str.{bytes_eq}
use Rattle.rw_parser_grammar.specs.declared.lexeme.Mark.TheVariants as m
use Rattle.rw_parser_grammar.specs.declared.lexeme.Spot.{Spot}
use Rattle.rw_parser_grammar.specs.declared.lexeme.Lexeme.{Lexeme}
use Rattle.rw_parser_grammar.specs.declared.lexeme.Lexeme.TheVariants as t
use Rattle.rw_parser_grammar.specs.Lexemes.{next_spot}
use Rattle.rw_parser_grammar.specs.Lists.{IsSeparated}
use Rattle.rw_parser_grammar.specs.Names.{IsVariableName, a_name, an_operator_name}
use Rattle.rw_parser_grammar.specs.Declarations.{pointed, IsModuleParts, last_part, more_parts, IsEntityName, a_variable_name, a_constructor_name, IsParts, no_parts, all_parts, empty_parts, some_parts, IsExport, an_exported_variable, an_exported_type, an_exported_module}
use Rattle.rw_parser_grammar.specs.Declarations.{IsExports, no_exports, empty_exports, some_exports, IsClassName, a_class_name}
use Rattle.rw_parser_reading.specs.Read.{same_mark, sees, after, separated_at, begins_constructor}
use Rattle.rw_parser_reading.specs.ReadClauses.{variable_name_at}
use Rattle.rw_parser_reading.specs.ReadDeclarations.{class_name_at, sees_point, module_parts_at, module_name_at, entity_name_at, entities_at, inside_parts_at, parts_at, exported_type_at, exported_module_at, export_at, inside_exports_at, exports_at}
use Rattle.rw_parser_reading.proofs.ReadExact.{bind_some, chosen, moved, not_true, neither, same_self, seen_is, after_is, after_mark, always, Exact, Runs, separated_sound, separated_read, separated_shorter, first_has}
use Rattle.rw_parser_reading.proofs.ReadNames.{name_exact}
use Rattle.rw_parser_laws.proofs.ReadData.{class_exact}

pub class_is : (ts : List Lexeme) (p : List ℕ × List Lexeme) → class_name_at ts ≡ Some p → (w : Spot) × (ts ≡ t.Constructor w p.0 ∷ p.1)
class_is ts p h = go (class_exact.sound ts p h)
  where
    go : {xs behind : List Lexeme} {name : List ℕ} → IsClassName xs name behind → (w : Spot) × (xs ≡ t.Constructor w name ∷ behind)
    go (a_class_name w name rest) = (w, refl)

pub class_read : (w : Spot) (name : List ℕ) (ts : List Lexeme) → class_name_at (t.Constructor w name ∷ ts) ≡ Some (name, ts)
class_read w name ts = class_exact.complete (t.Constructor w name ∷ ts) name ts (a_class_name w name ts) refl

-- a point that is seen stands there
point_is : (ts : List Lexeme) → sees_point ts ≡ true → (w : Spot) × (point : List ℕ) × (ts ≡ t.Operator w point ∷ drop 1 ts) × (bytes_eq point (codes ".") ≡ true)
point_is [] h = absurd (cc)
point_is (t.Mark w a ∷ ts) h = absurd (cc)
point_is (t.Variable w name ∷ ts) h = absurd (cc)
point_is (t.Constructor w name ∷ ts) h = absurd (cc)
point_is (t.Operator w name ∷ ts) h = (w, name, refl, h)
point_is (t.Number w digits ∷ ts) h = absurd (cc)

-- ---- names of modules
parts_sound : (n : ℕ) (ts : List Lexeme) (p : List (List ℕ) × List Lexeme) → module_parts_at n ts ≡ Some p → IsModuleParts ts p.0 p.1
unfolding module_parts_at
parts_sound zero ts p h = absurd (cc)
parts_sound (suc n) ts p h =
    let c = bind_some (class_name_at ts) _ p h in
    let k = class_is ts c.0 c.1 in
    elim (chosen (sees_point c.0.1) _ _ _ c.2) [
      | inl b ↦ let q = bind_some (module_parts_at n (drop 1 c.0.1)) _ p b.1 in
          let x = point_is c.0.1 b.0 in
          moved (λ z. IsModuleParts ts z.0 z.1) _ p q.2
          (subst (λ z. IsModuleParts z (c.0.0 ∷ q.0.0) q.0.1) (sym (k.1 ∙ ap (λ z. t.Constructor k.0 c.0.0 ∷ z) x.2)) (more_parts k.0 x.0 c.0.0 x.1 (drop 1 c.0.1) q.0.1 q.0.0 x.3 (parts_sound n (drop 1 c.0.1) q.0 q.1)))
      | inr b ↦ moved (λ z. IsModuleParts ts z.0 z.1) _ p b.1 (subst (λ z. IsModuleParts z (c.0.0 ∷ []) c.0.1) (sym k.1) (last_part k.0 c.0.0 c.0.1))
    ]

last_read : (n : ℕ) (w : Spot) (name : List ℕ) (rest : List Lexeme) → sees_point rest ≡ false → module_parts_at (suc n) (t.Constructor w name ∷ rest) ≡ Some (name ∷ [], rest)
unfolding module_parts_at
last_read n w name rest b = rw (class_read w name rest, b)

more_read : (n : ℕ) (v w : Spot) (name point : List ℕ) (ts rest : List Lexeme) (names : List (List ℕ)) → bytes_eq point (codes ".") ≡ true → module_parts_at n ts ≡ Some (names, rest)
    → module_parts_at (suc n) (t.Constructor v name ∷ t.Operator w point ∷ ts) ≡ Some (name ∷ names, rest)
unfolding module_parts_at
more_read n v w name point ts rest names b h = rw (class_read v name (t.Operator w point ∷ ts), b, h)

parts_read : {ts : List Lexeme} {names : List (List ℕ)} {rest : List Lexeme} → IsModuleParts ts names rest → (n : ℕ) → length ts ≤ n → sees_point rest ≡ false → module_parts_at n ts ≡ Some (names, rest)
parts_read (last_part w name rest) zero h s = absurd (omega arith)
parts_read (last_part w name rest) (suc n) h s = last_read n w name rest s
parts_read (more_parts v w name point ts rest names b d) zero h s = absurd (omega arith)
parts_read (more_parts v w name point ts rest names b d) (suc n) h s = more_read n v w name point ts rest names b (parts_read d n (omega arith) s)

parts_shorter : {ts : List Lexeme} {names : List (List ℕ)} {rest : List Lexeme} → IsModuleParts ts names rest → length rest < length ts
parts_shorter (last_part w name rest) = omega arith
parts_shorter (more_parts v w name point ts rest names b d) = let h = parts_shorter d in omega arith

abbrev pub no_point : List Lexeme → Bool
no_point ts = not (sees_point ts)

pub module_exact : Exact module_name_at IsModuleParts no_point
unfolding module_name_at
module_exact = record {
  sound = λ ts p h. parts_sound (length ts) ts p h;
  complete = λ ts a rest d s. parts_read d (length ts) (omega arith) (not_true _ s);
  shorter = λ ts a rest d. parts_shorter d;
}

module_begins : (ts : List Lexeme) (names : List (List ℕ)) (rest : List Lexeme) → IsModuleParts ts names rest → begins_constructor ts ≡ true
module_begins _ _ _ (last_part w name rest) = refl
module_begins _ _ _ (more_parts v w name point ts rest names b d) = refl

-- ---- names of what is exported
constructor_stands : (ts : List Lexeme) → begins_constructor ts ≡ true → (sees m.Closes ts ≡ false) × (sees m.Module ts ≡ false)
constructor_stands [] h = absurd (cc)
constructor_stands (t.Mark w a ∷ ts) h = absurd (cc)
constructor_stands (t.Variable w name ∷ ts) h = absurd (cc)
constructor_stands (t.Constructor w name ∷ ts) h = (refl, refl)
constructor_stands (t.Operator w name ∷ ts) h = absurd (cc)
constructor_stands (t.Number w digits ∷ ts) h = absurd (cc)

name_stands : (ts : List Lexeme) (a : Spot × List ℕ) (rest : List Lexeme) → IsVariableName ts a rest → (begins_constructor ts ≡ false) × ((sees m.Closes ts ≡ false) × ((sees m.Module ts ≡ false) × (sees m.Dots ts ≡ false)))
unfolding same_mark
name_stands _ _ _ (a_name w name rest) = (refl, (refl, (refl, refl)))
name_stands _ _ _ (an_operator_name u v w name rest) = (refl, (refl, (refl, refl)))

entity_sound : (ts : List Lexeme) (p : List ℕ × List Lexeme) → entity_name_at ts ≡ Some p → IsEntityName ts p.0 p.1
unfolding entity_name_at
entity_sound ts p h =
    elim (chosen (begins_constructor ts) _ _ _ h) [
      | inl k ↦ let c = class_is ts p k.1 in subst (λ z. IsEntityName z p.0 p.1) (sym c.1) (a_constructor_name c.0 p.0 p.1)
      | inr k ↦ let v = bind_some (variable_name_at ts) _ p k.1 in moved (λ z. IsEntityName ts z.0 z.1) _ p v.2 (a_variable_name ts v.0.1 v.0.0.0 v.0.0.1 (name_exact.sound ts v.0 v.1))
    ]

entity_variable_read : (ts rest : List Lexeme) (w : Spot) (name : List ℕ) → begins_constructor ts ≡ false → variable_name_at ts ≡ Some ((w, name), rest) → entity_name_at ts ≡ Some (name, rest)
unfolding entity_name_at
entity_variable_read ts rest w name b h = rw (b, h)

entity_constructor_read : (w : Spot) (name : List ℕ) (rest : List Lexeme) → entity_name_at (t.Constructor w name ∷ rest) ≡ Some (name, rest)
unfolding entity_name_at
entity_constructor_read w name rest = class_read w name rest

entity_complete : (ts : List Lexeme) (a : List ℕ) (rest : List Lexeme) → IsEntityName ts a rest → always rest ≡ true → entity_name_at ts ≡ Some (a, rest)
entity_complete _ _ _ (a_variable_name ts rest w name d) s = entity_variable_read ts rest w name (name_stands ts (w, name) rest d).0 (name_exact.complete ts (w, name) rest d refl)
entity_complete _ _ _ (a_constructor_name w name rest) s = entity_constructor_read w name rest

entity_shorter : (ts : List Lexeme) (a : List ℕ) (rest : List Lexeme) → IsEntityName ts a rest → length rest < length ts
entity_shorter _ _ _ (a_variable_name ts rest w name d) = name_exact.shorter ts (w, name) rest d
entity_shorter _ _ _ (a_constructor_name w name rest) = omega arith

entity_exact : Exact entity_name_at IsEntityName always
entity_exact = record { sound = entity_sound; complete = entity_complete; shorter = entity_shorter }

entity_stands : (ts : List Lexeme) (a : List ℕ) (rest : List Lexeme) → IsEntityName ts a rest → (sees m.Closes ts ≡ false) × (sees m.Dots ts ≡ false)
entity_stands _ _ _ (a_variable_name ts rest w name d) = let n = name_stands ts (w, name) rest d in (n.1.0, n.1.1.1)
entity_stands _ _ _ (a_constructor_name w name rest) = (refl, refl)

closes_no_comma : (w : Spot) (rest : List Lexeme) → sees m.Comma (t.Mark w m.Closes ∷ rest) ≡ false
unfolding same_mark
closes_no_comma w rest = refl

-- ---- the parts of a type
inside_sound : (v : Spot) (ts : List Lexeme) (p : List (List ℕ) × List Lexeme) → inside_parts_at ts ≡ Some p → IsParts (t.Mark v m.Opens ∷ ts) p.0 p.1
unfolding inside_parts_at entities_at
inside_sound v ts p h =
    elim (chosen (sees m.Closes ts) _ _ _ h) [
      | inl k ↦ subst (λ z. IsParts (t.Mark v m.Opens ∷ z) p.0 p.1) (sym (seen_is m.Closes ts k.0)) (moved (λ z. IsParts (t.Mark v m.Opens ∷ t.Mark (next_spot ts) m.Closes ∷ drop 1 ts) z.0 z.1) _ p k.1 (empty_parts v (next_spot ts) (drop 1 ts)))
      | inr k ↦ elim (chosen (sees m.Dots ts) _ _ _ k.1) [
        | inl b ↦ let r = bind_some (after m.Closes (drop 1 ts)) _ p b.1 in
            moved (λ z. IsParts (t.Mark v m.Opens ∷ ts) z.0 z.1) _ p r.2
            (subst (λ z. IsParts (t.Mark v m.Opens ∷ z) [] r.0) (sym (seen_is m.Dots ts b.0 ∙ ap (λ z. t.Mark (next_spot ts) m.Dots ∷ z) (after_is m.Closes (drop 1 ts) r.0 r.1))) (all_parts v (next_spot ts) (next_spot (drop 1 ts)) r.0))
        | inr b ↦ let a = bind_some (separated_at m.Comma entity_name_at (length ts) ts) _ p b.1 in
            let r = bind_some (after m.Closes a.0.1) _ p a.2 in
            moved (λ z. IsParts (t.Mark v m.Opens ∷ ts) z.0 z.1) _ p r.2
            (some_parts v (next_spot a.0.1) ts r.0 a.0.0
            (subst (IsSeparated m.Comma IsEntityName ts a.0.0) (after_is m.Closes a.0.1 r.0 r.1) (separated_sound m.Comma entity_name_at IsEntityName always entity_exact (λ w rest. refl) (length ts) ts a.0 a.1)))
      ]
    ]

type_parts_sound : (ts : List Lexeme) (p : List (List ℕ) × List Lexeme) → parts_at ts ≡ Some p → IsParts ts p.0 p.1
unfolding parts_at
type_parts_sound ts p h =
    elim (chosen (sees m.Opens ts) _ _ _ h) [
      | inl k ↦ subst (λ z. IsParts z p.0 p.1) (sym (seen_is m.Opens ts k.0)) (inside_sound (next_spot ts) (drop 1 ts) p k.1)
      | inr k ↦ moved (λ z. IsParts ts z.0 z.1) _ p k.1 (no_parts ts)
    ]

no_parts_read : (ts : List Lexeme) → sees m.Opens ts ≡ false → parts_at ts ≡ Some ([], ts)
unfolding parts_at
no_parts_read ts h = rw h

all_parts_read : (u v w : Spot) (rest : List Lexeme) → parts_at (t.Mark u m.Opens ∷ t.Mark v m.Dots ∷ t.Mark w m.Closes ∷ rest) ≡ Some ([], rest)
unfolding parts_at inside_parts_at after same_mark
all_parts_read u v w rest = refl

empty_parts_read : (v w : Spot) (rest : List Lexeme) → parts_at (t.Mark v m.Opens ∷ t.Mark w m.Closes ∷ rest) ≡ Some ([], rest)
unfolding parts_at inside_parts_at same_mark
empty_parts_read v w rest = refl

some_parts_read : (v w : Spot) (ts rest : List Lexeme) (names : List (List ℕ)) → sees m.Closes ts ≡ false → sees m.Dots ts ≡ false → separated_at m.Comma entity_name_at (length ts) ts ≡ Some (names, t.Mark w m.Closes ∷ rest)
    → parts_at (t.Mark v m.Opens ∷ ts) ≡ Some (names, rest)
unfolding parts_at inside_parts_at entities_at
some_parts_read v w ts rest names c b h = rw (same_self m.Opens, c, b, h, after_mark m.Closes w rest)

abbrev pub no_opening : List Lexeme → Bool
no_opening ts = not (sees m.Opens ts)

type_parts_complete : (ts : List Lexeme) (a : List (List ℕ)) (rest : List Lexeme) → IsParts ts a rest → no_opening rest ≡ true → parts_at ts ≡ Some (a, rest)
type_parts_complete _ _ _ (no_parts ts) s = no_parts_read ts (not_true _ s)
type_parts_complete _ _ _ (all_parts u v w rest) s = all_parts_read u v w rest
type_parts_complete _ _ _ (empty_parts v w rest) s = empty_parts_read v w rest
type_parts_complete _ _ _ (some_parts v w ts rest names d) s =
    some_parts_read v w ts rest names (first_has (sees m.Closes) false (λ xs a behind k. (entity_stands xs a behind k).0) d) (first_has (sees m.Dots) false (λ xs a behind k. (entity_stands xs a behind k).1) d)
    (separated_read m.Comma entity_name_at IsEntityName always entity_exact (λ x xs. refl) d (length ts) (omega arith) (closes_no_comma w rest) refl)

type_parts_shorter : (ts : List Lexeme) (a : List (List ℕ)) (rest : List Lexeme) → IsParts ts a rest → length rest ≤ length ts
type_parts_shorter _ _ _ (no_parts ts) = omega arith
type_parts_shorter _ _ _ (all_parts u v w rest) = omega arith
type_parts_shorter _ _ _ (empty_parts v w rest) = omega arith
type_parts_shorter _ _ _ (some_parts v w ts rest names d) = let h = separated_shorter m.Comma entity_name_at IsEntityName always entity_exact (λ x xs. refl) d in omega arith

-- ---- exports
export_sound : (ts : List Lexeme) (p : List ℕ × List Lexeme) → export_at ts ≡ Some p → IsExport ts p.0 p.1
unfolding export_at exported_module_at exported_type_at
export_sound ts p h =
    elim (chosen (sees m.Module ts) _ _ _ h) [
      | inl k ↦ let a = bind_some (module_name_at (drop 1 ts)) _ p k.1 in
          moved (λ z. IsExport ts z.0 z.1) _ p a.2 (subst (λ z. IsExport z (pointed a.0.0) a.0.1) (sym (seen_is m.Module ts k.0)) (an_exported_module (next_spot ts) (drop 1 ts) a.0.1 a.0.0 (module_exact.sound (drop 1 ts) a.0 a.1)))
      | inr k ↦ elim (chosen (begins_constructor ts) _ _ _ k.1) [
        | inl b ↦ let c = bind_some (class_name_at ts) _ p b.1 in
            let q = bind_some (parts_at c.0.1) _ p c.2 in
            let x = class_is ts c.0 c.1 in
            moved (λ z. IsExport ts z.0 z.1) _ p q.2 (subst (λ z. IsExport z c.0.0 q.0.1) (sym x.1) (an_exported_type x.0 c.0.0 c.0.1 q.0.1 q.0.0 (type_parts_sound c.0.1 q.0 q.1)))
        | inr b ↦ let v = bind_some (variable_name_at ts) _ p b.1 in moved (λ z. IsExport ts z.0 z.1) _ p v.2 (an_exported_variable ts v.0.1 v.0.0.0 v.0.0.1 (name_exact.sound ts v.0 v.1))
      ]
    ]

abbrev pub ends_export : List Lexeme → Bool
ends_export ts = not (sees m.Opens ts || sees_point ts)

exported_variable_read : (ts rest : List Lexeme) (w : Spot) (name : List ℕ) → sees m.Module ts ≡ false → begins_constructor ts ≡ false → variable_name_at ts ≡ Some ((w, name), rest) → export_at ts ≡ Some (name, rest)
unfolding export_at
exported_variable_read ts rest w name a b h = rw (a, b, h)

exported_type_read : (w : Spot) (name : List ℕ) (ts rest : List Lexeme) (parts : List (List ℕ)) → parts_at ts ≡ Some (parts, rest) → export_at (t.Constructor w name ∷ ts) ≡ Some (name, rest)
unfolding export_at exported_type_at
exported_type_read w name ts rest parts h = rw (class_read w name ts, h)

exported_module_read : (w : Spot) (ts rest : List Lexeme) (names : List (List ℕ)) → module_name_at ts ≡ Some (names, rest) → export_at (t.Mark w m.Module ∷ ts) ≡ Some (pointed names, rest)
unfolding export_at exported_module_at
exported_module_read w ts rest names h = rw (same_self m.Module, h)

export_complete : (ts : List Lexeme) (a : List ℕ) (rest : List Lexeme) → IsExport ts a rest → ends_export rest ≡ true → export_at ts ≡ Some (a, rest)
export_complete _ _ _ (an_exported_variable ts rest w name d) s = let n = name_stands ts (w, name) rest d in exported_variable_read ts rest w name n.1.1.0 n.0 (name_exact.complete ts (w, name) rest d refl)
export_complete _ _ _ (an_exported_type w name ts rest parts d) s = exported_type_read w name ts rest parts (type_parts_complete ts parts rest d (ap not (neither (sees m.Opens rest) (sees_point rest) s).0))
export_complete _ _ _ (an_exported_module w ts rest names d) s = exported_module_read w ts rest names (module_exact.complete ts names rest d (neither (sees m.Opens rest) (sees_point rest) s).1)

export_shorter : (ts : List Lexeme) (a : List ℕ) (rest : List Lexeme) → IsExport ts a rest → length rest < length ts
export_shorter _ _ _ (an_exported_variable ts rest w name d) = name_exact.shorter ts (w, name) rest d
export_shorter _ _ _ (an_exported_type w name ts rest parts d) = let h = type_parts_shorter ts parts rest d in omega arith
export_shorter _ _ _ (an_exported_module w ts rest names d) = let h = parts_shorter d in omega arith

export_exact : Exact export_at IsExport ends_export
export_exact = record { sound = export_sound; complete = export_complete; shorter = export_shorter }

export_opens : (ts : List Lexeme) (a : List ℕ) (rest : List Lexeme) → IsExport ts a rest → sees m.Closes ts ≡ false
unfolding same_mark
export_opens _ _ _ (an_exported_variable ts rest w name d) = (name_stands ts (w, name) rest d).1.0
export_opens _ _ _ (an_exported_type w name ts rest parts d) = refl
export_opens _ _ _ (an_exported_module w ts rest names d) = refl

comma_ends : (w : Spot) (rest : List Lexeme) → ends_export (t.Mark w m.Comma ∷ rest) ≡ true
unfolding same_mark
comma_ends w rest = refl

closes_ends : (w : Spot) (rest : List Lexeme) → ends_export (t.Mark w m.Closes ∷ rest) ≡ true
unfolding same_mark
closes_ends w rest = refl

exports_sound : (ts : List Lexeme) (p : List (List ℕ) × List Lexeme) → exports_at ts ≡ Some p → IsExports ts p.0 p.1
unfolding exports_at inside_exports_at
exports_sound ts p h =
    elim (chosen (sees m.Opens ts) _ _ _ h) [
      | inl k ↦ subst (λ z. IsExports z p.0 p.1) (sym (seen_is m.Opens ts k.0))
          (elim (chosen (sees m.Closes (drop 1 ts)) _ _ _ k.1) [
            | inl b ↦ subst (λ z. IsExports (t.Mark (next_spot ts) m.Opens ∷ z) p.0 p.1) (sym (seen_is m.Closes (drop 1 ts) b.0))
                (moved (λ z. IsExports (t.Mark (next_spot ts) m.Opens ∷ t.Mark (next_spot (drop 1 ts)) m.Closes ∷ drop 1 (drop 1 ts)) z.0 z.1) _ p b.1 (empty_exports (next_spot ts) (next_spot (drop 1 ts)) (drop 1 (drop 1 ts))))
            | inr b ↦ let a = bind_some (separated_at m.Comma export_at (length (drop 1 ts)) (drop 1 ts)) _ p b.1 in
                let r = bind_some (after m.Closes a.0.1) _ p a.2 in
                moved (λ z. IsExports (t.Mark (next_spot ts) m.Opens ∷ drop 1 ts) z.0 z.1) _ p r.2
                (some_exports (next_spot ts) (next_spot a.0.1) (drop 1 ts) r.0 a.0.0
                (subst (IsSeparated m.Comma IsExport (drop 1 ts) a.0.0) (after_is m.Closes a.0.1 r.0 r.1) (separated_sound m.Comma export_at IsExport ends_export export_exact comma_ends (length (drop 1 ts)) (drop 1 ts) a.0 a.1)))
          ])
      | inr k ↦ moved (λ z. IsExports ts z.0 z.1) _ p k.1 (no_exports ts)
    ]

no_exports_read : (ts : List Lexeme) → sees m.Opens ts ≡ false → exports_at ts ≡ Some ([], ts)
unfolding exports_at
no_exports_read ts h = rw h

empty_exports_read : (v w : Spot) (rest : List Lexeme) → exports_at (t.Mark v m.Opens ∷ t.Mark w m.Closes ∷ rest) ≡ Some ([], rest)
unfolding exports_at inside_exports_at same_mark
empty_exports_read v w rest = refl

some_exports_read : (v w : Spot) (ts rest : List Lexeme) (names : List (List ℕ)) → sees m.Closes ts ≡ false → separated_at m.Comma export_at (length ts) ts ≡ Some (names, t.Mark w m.Closes ∷ rest)
    → exports_at (t.Mark v m.Opens ∷ ts) ≡ Some (names, rest)
unfolding exports_at inside_exports_at
some_exports_read v w ts rest names c h = rw (same_self m.Opens, c, h, after_mark m.Closes w rest)

exports_complete : (ts : List Lexeme) (a : List (List ℕ)) (rest : List Lexeme) → IsExports ts a rest → no_opening rest ≡ true → exports_at ts ≡ Some (a, rest)
exports_complete _ _ _ (no_exports ts) s = no_exports_read ts (not_true _ s)
exports_complete _ _ _ (empty_exports v w rest) s = empty_exports_read v w rest
exports_complete _ _ _ (some_exports v w ts rest names d) s =
    some_exports_read v w ts rest names (first_has (sees m.Closes) false export_opens d) (separated_read m.Comma export_at IsExport ends_export export_exact comma_ends d (length ts) (omega arith) (closes_no_comma w rest) (closes_ends w rest))

exports_shorter : (ts : List Lexeme) (a : List (List ℕ)) (rest : List Lexeme) → IsExports ts a rest → length rest ≤ length ts
exports_shorter _ _ _ (no_exports ts) = omega arith
exports_shorter _ _ _ (empty_exports v w rest) = omega arith
exports_shorter _ _ _ (some_exports v w ts rest names d) = let h = separated_shorter m.Comma export_at IsExport ends_export export_exact comma_ends d in omega arith

pub exports_runs : Runs exports_at IsExports no_opening
exports_runs = record { sound = exports_sound; complete = exports_complete; shorter = exports_shorter }
