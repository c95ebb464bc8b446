-- Imports and fixity declarations are read exactly.
use Rattle.std.proofs.Common.{◌≡◌, ℕ, ◌<◌, ◌≤◌, Bool, true, false, not, ◌||◌, cond, List, [], ◌∷◌, length, drop, Some, None, refl, sym, ap, subst, ◌∙◌, arith, ◌⊎◌, inl, inr}
use Rattle.std.specs.Prelude.{codes}
use Rattle.std.specs.Str.{bytes_eq}
use Rattle.std.proofs.lemmas.Slice.Eq.{bytes_eq-Decides}
use Rattle.rw_base.specs.declared.place.Span.{Span}
use Rattle.rw_tree.specs.declared.decl.Side.{Side}
use Rattle.rw_tree.specs.declared.decl.Decl.{Decl}
use Rattle.rw_tree.specs.declared.decl.Decl.TheVariants as d
use Rattle.rw_parser_grammar.specs.declared.lexeme.Mark.{Mark}
use Rattle.rw_parser_grammar.specs.declared.lexeme.Mark.TheVariants as m
use Rattle.rw_parser_grammar.specs.declared.lexeme.Spot.{Spot}
use Rattle.rw_parser_grammar.specs.declared.lexeme.Lexeme.{Lexeme}
use Rattle.rw_parser_grammar.specs.declared.lexeme.Lexeme.TheVariants as t
use Rattle.rw_parser_grammar.specs.Lexemes.{next_spot, span_at, span_of}
use Rattle.rw_parser_grammar.specs.Names.{IsVariableOperator, a_symbol_operator, a_named_operator, IsOperator, a_variable_operator, a_constructor_operator}
use Rattle.rw_parser_grammar.specs.Declarations.{pointed, IsModuleParts, last_part, more_parts, IsExports, no_exports, empty_exports, some_exports, IsOptionalWord, no_word, the_word, IsAs, no_as, an_as, IsImport, an_import}
use Rattle.rw_parser_grammar.specs.Declarations.{side_of, strength_of, IsStrength, no_strength, a_strength, IsFixity, a_fixity}
use Rattle.rw_parser_reading.specs.Read.{same_mark, sees, after, separated_at}
use Rattle.rw_parser_reading.specs.ReadNames.{begins_op}
use Rattle.rw_parser_reading.specs.ReadDeclarations.{sees_point, module_name_at, exports_at, sees_word, behind_word, behind_as, import_at, quoted_name_at, operator_name_at, side_at, strength_at, fixity_at}
use Rattle.rw_parser_reading.specs.ReadClauses.{ends_entry}
use Rattle.rw_parser_reading.proofs.ReadExact.{bind_some, chosen, some_is, moved, is_same, same_self, after_is, after_mark, always, Exact, separated_sound, separated_read, separated_shorter, first_has}
use Rattle.rw_parser_laws.proofs.ReadImports.{no_opening, module_exact, exports_runs}

-- ---- words
word_sound : (word : List ℕ) (ts : List Lexeme) → IsOptionalWord word ts (behind_word word ts)
unfolding behind_word
word_sound word [] = no_word []
word_sound word (t.Mark w a ∷ ts) = no_word (t.Mark w a ∷ ts)
word_sound word (t.Variable w name ∷ ts) = go (bytes_eq name word) refl
  where
    go : (x : Bool) → bytes_eq name word ≡ x → IsOptionalWord word (t.Variable w name ∷ ts) (cond x ts (t.Variable w name ∷ ts))
    go true h = the_word w name ts h
    go false h = no_word (t.Variable w name ∷ ts)
word_sound word (t.Constructor w name ∷ ts) = no_word (t.Constructor w name ∷ ts)
word_sound word (t.Operator w name ∷ ts) = no_word (t.Operator w name ∷ ts)
word_sound word (t.Number w digits ∷ ts) = no_word (t.Number w digits ∷ ts)

word_complete : (word : List ℕ) (ts rest : List Lexeme) → IsOptionalWord word ts rest → sees_word word rest ≡ false → behind_word word ts ≡ rest
unfolding behind_word
word_complete word _ _ (no_word ts) h = rw h
word_complete word _ _ (the_word w name rest b) h = rw b

word_shorter : (word : List ℕ) (ts rest : List Lexeme) → IsOptionalWord word ts rest → length rest ≤ length ts
word_shorter word _ _ (no_word ts) = omega arith
word_shorter word _ _ (the_word w name rest b) = omega arith

-- a word that is seen stands there
word_is : (word : List ℕ) (ts : List Lexeme) → sees_word word ts ≡ true → (w : Spot) × (name : List ℕ) × (ts ≡ t.Variable w name ∷ drop 1 ts) × (bytes_eq name word ≡ true)
word_is word [] h = absurd (cc)
word_is word (t.Mark w a ∷ ts) h = absurd (cc)
word_is word (t.Variable w name ∷ ts) h = (w, name, refl, h)
word_is word (t.Constructor w name ∷ ts) h = absurd (cc)
word_is word (t.Operator w name ∷ ts) h = absurd (cc)
word_is word (t.Number w digits ∷ ts) h = absurd (cc)

as_sound : (ts rest : List Lexeme) → behind_as ts ≡ Some rest → IsAs ts rest
unfolding behind_as
as_sound ts rest h =
    elim (chosen (sees_word (codes "as") ts) _ _ _ h) [
      | inl k ↦ let q = bind_some (module_name_at (drop 1 ts)) _ rest k.1 in
          let x = word_is (codes "as") ts k.0 in
          moved (IsAs ts) _ rest q.2 (subst (λ z. IsAs z q.0.1) (sym x.2) (an_as x.0 x.1 (drop 1 ts) q.0.1 q.0.0 x.3 (module_exact.sound (drop 1 ts) q.0 q.1)))
      | inr k ↦ moved (IsAs ts) _ rest k.1 (no_as ts)
    ]

-- ---- what stands where a word could
entry_stands : (ts : List Lexeme) → ends_entry ts ≡ true → ((word : List ℕ) → sees_word word ts ≡ false) × ((sees_point ts ≡ false) × (no_opening ts ≡ true))
unfolding same_mark
entry_stands [] h = absurd (cc)
entry_stands (t.Mark w a ∷ ts) h =
    elim (one_of (same_mark a m.Semicolon) (same_mark a m.ClosesBlock) h) [
      | inl k ↦ (λ word. refl, (refl, subst (λ z. no_opening (t.Mark w z ∷ ts) ≡ true) (sym (is_same a m.Semicolon k)) refl))
      | inr k ↦ (λ word. refl, (refl, subst (λ z. no_opening (t.Mark w z ∷ ts) ≡ true) (sym (is_same a m.ClosesBlock k)) refl))
    ]
  where
    one_of : (a b : Bool) → (a || b) ≡ true → (a ≡ true) ⊎ (b ≡ true)
    one_of true b h = inl refl
    one_of false b h = inr h
entry_stands (t.Variable w name ∷ ts) h = absurd (cc)
entry_stands (t.Constructor w name ∷ ts) h = absurd (cc)
entry_stands (t.Operator w name ∷ ts) h = absurd (cc)
entry_stands (t.Number w digits ∷ ts) h = absurd (cc)

exports_stand : (ts : List Lexeme) (a : List (List ℕ)) (rest : List Lexeme) → IsExports ts a rest → ends_entry rest ≡ true → ((word : List ℕ) → sees_word word ts ≡ false) × (sees_point ts ≡ false)
exports_stand _ _ _ (no_exports ts) s = let h = entry_stands ts s in (h.0, h.1.0)
exports_stand _ _ _ (empty_exports v w rest) s = (λ word. refl, refl)
exports_stand _ _ _ (some_exports v w ts rest names d) s = (λ word. refl, refl)

hiding_is_no_as : (name : List ℕ) → bytes_eq name (codes "hiding") ≡ true → bytes_eq name (codes "as") ≡ false
hiding_is_no_as name h = subst (λ z. bytes_eq z (codes "as") ≡ false) (sym ((bytes_eq-Decides name (codes "hiding")).0 h)) refl

hidden_stands : (ts rest : List Lexeme) → IsOptionalWord (codes "hiding") ts rest → ((word : List ℕ) → sees_word word rest ≡ false) × (sees_point rest ≡ false) → (sees_word (codes "as") ts ≡ false) × (sees_point ts ≡ false)
hidden_stands _ _ (no_word ts) h = (h.0 (codes "as"), h.1)
hidden_stands _ _ (the_word w name rest b) h = (hiding_is_no_as name b, refl)

absent_as : (ts : List Lexeme) → sees_word (codes "as") ts ≡ false → behind_as ts ≡ Some ts
unfolding behind_as
absent_as ts h = rw h

present_as : (w : Spot) (name : List ℕ) (ts rest : List Lexeme) (names : List (List ℕ)) → bytes_eq name (codes "as") ≡ true → module_name_at ts ≡ Some (names, rest) → behind_as (t.Variable w name ∷ ts) ≡ Some rest
unfolding behind_as
present_as w name ts rest names b h = rw (b, h)

as_complete : (ts rest : List Lexeme) → IsAs ts rest → (sees_word (codes "as") rest ≡ false) × (sees_point rest ≡ false) → (behind_as ts ≡ Some rest) × (sees_point ts ≡ false)
as_complete _ _ (no_as ts) h = (absent_as ts h.0, h.1)
as_complete _ _ (an_as w name ts rest names b d) h = (present_as w name ts rest names b (module_exact.complete ts names rest d (ap not h.1)), refl)

as_shorter : (ts rest : List Lexeme) → IsAs ts rest → length rest ≤ length ts
as_shorter _ _ (no_as ts) = omega arith
as_shorter _ _ (an_as w name ts rest names b d) = let h = module_exact.shorter ts names rest d in omega arith

module_no_word : (word : List ℕ) (ts : List Lexeme) (names : List (List ℕ)) (rest : List Lexeme) → IsModuleParts ts names rest → sees_word word ts ≡ false
module_no_word word _ _ _ (last_part w name rest) = refl
module_no_word word _ _ _ (more_parts v w name point ts rest names b d) = refl

-- ---- imports
import_sound : (ts : List Lexeme) (p : Decl Span × List Lexeme) → import_at ts ≡ Some p → IsImport ts p.0 p.1
unfolding import_at
import_sound ts p h =
    let r = bind_some (after m.Import ts) _ p h in
    let q = bind_some (module_name_at (behind_word (codes "qualified") r.0)) _ p r.2 in
    let a = bind_some (behind_as q.0.1) _ p q.2 in
    let x = bind_some (exports_at (behind_word (codes "hiding") a.0)) _ p a.2 in
    moved (λ z. IsImport ts z.0 z.1) _ p x.2
    (subst (λ z. IsImport z (d.Import (span_of ts x.0.1) (pointed q.0.0)) x.0.1) (sym (after_is m.Import ts r.0 r.1))
    (an_import (next_spot ts) r.0 (behind_word (codes "qualified") r.0) q.0.1 a.0 (behind_word (codes "hiding") a.0) x.0.1 q.0.0 x.0.0 (word_sound (codes "qualified") r.0) (module_exact.sound (behind_word (codes "qualified") r.0) q.0 q.1)
    (as_sound q.0.1 a.0 a.1) (word_sound (codes "hiding") a.0) (exports_runs.sound (behind_word (codes "hiding") a.0) x.0 x.1)))

import_read : (w : Spot) (ts named behind hidden listed rest : List Lexeme) (names listing : List (List ℕ)) → behind_word (codes "qualified") ts ≡ named → module_name_at named ≡ Some (names, behind) → behind_as behind ≡ Some hidden
    → behind_word (codes "hiding") hidden ≡ listed → exports_at listed ≡ Some (listing, rest) → import_at (t.Mark w m.Import ∷ ts) ≡ Some (d.Import (span_at w rest) (pointed names), rest)
unfolding import_at
import_read w ts named behind hidden listed rest names listing a b c e f = rw (after_mark m.Import w ts, a, b, c, e, f)

import_complete : (ts : List Lexeme) (a : Decl Span) (rest : List Lexeme) → IsImport ts a rest → ends_entry rest ≡ true → import_at ts ≡ Some (a, rest)
import_complete _ _ _ (an_import w ts named behind hidden listed rest names listing q p a h x) s =
    let e = exports_stand listed listing rest x s in
    let g = as_complete behind hidden a (hidden_stands hidden listed h e) in
    import_read w ts named behind hidden listed rest names listing (word_complete (codes "qualified") ts named q (module_no_word (codes "qualified") named names behind p)) (module_exact.complete named names behind p (ap not g.1)) g.0
    (word_complete (codes "hiding") hidden listed h (e.0 (codes "hiding"))) (exports_runs.complete listed listing rest x (entry_stands rest s).1.1)

import_shorter : (ts : List Lexeme) (a : Decl Span) (rest : List Lexeme) → IsImport ts a rest → length rest < length ts
import_shorter _ _ _ (an_import w ts named behind hidden listed rest names listing q p a h x) =
    let i = word_shorter (codes "qualified") ts named q in
    let j = module_exact.shorter named names behind p in
    let k = as_shorter behind hidden a in
    let l = word_shorter (codes "hiding") hidden listed h in
    let n = exports_runs.shorter listed listing rest x in
    omega arith

pub import_exact : Exact import_at IsImport ends_entry
import_exact = record { sound = import_sound; complete = import_complete; shorter = import_shorter }

-- ---- operators by their names
quoted_sound : (u : Spot) (ts : List Lexeme) (p : List ℕ × List Lexeme) → quoted_name_at ts ≡ Some p → IsOperator (t.Mark u m.Backquote ∷ ts) p.0 p.1
quoted_sound u [] p h = absurd (cc)
quoted_sound u (t.Mark w a ∷ ts) p h = absurd (cc)
quoted_sound u (t.Variable v name ∷ ts) p h =
    let r = bind_some (after m.Backquote ts) _ p h in
    moved (λ z. IsOperator (t.Mark u m.Backquote ∷ t.Variable v name ∷ ts) z.0 z.1) _ p r.2
    (subst (λ z. IsOperator (t.Mark u m.Backquote ∷ t.Variable v name ∷ z) name r.0) (sym (after_is m.Backquote ts r.0 r.1))
    (a_variable_operator (t.Mark u m.Backquote ∷ t.Variable v name ∷ t.Mark (next_spot ts) m.Backquote ∷ r.0) r.0 name (a_named_operator u v (next_spot ts) name r.0)))
quoted_sound u (t.Constructor v name ∷ ts) p h =
    let r = bind_some (after m.Backquote ts) _ p h in
    moved (λ z. IsOperator (t.Mark u m.Backquote ∷ t.Constructor v name ∷ ts) z.0 z.1) _ p r.2
    (subst (λ z. IsOperator (t.Mark u m.Backquote ∷ t.Constructor v name ∷ z) name r.0) (sym (after_is m.Backquote ts r.0 r.1)) (a_constructor_operator u v (next_spot ts) name r.0))
quoted_sound u (t.Operator w name ∷ ts) p h = absurd (cc)
quoted_sound u (t.Number w digits ∷ ts) p h = absurd (cc)

operator_sound : (ts : List Lexeme) (p : List ℕ × List Lexeme) → operator_name_at ts ≡ Some p → IsOperator ts p.0 p.1
operator_sound [] p h = absurd (cc)
operator_sound (t.Mark w a ∷ ts) p h =
    elim (chosen (same_mark a m.Backquote) _ _ _ h) [
      | inl k ↦ subst (λ z. IsOperator (t.Mark w z ∷ ts) p.0 p.1) (sym (is_same a m.Backquote k.0)) (quoted_sound w ts p k.1)
      | inr k ↦ absurd (let n : None ≡ Some p = k.1 in cc)
    ]
operator_sound (t.Variable w name ∷ ts) p h = absurd (cc)
operator_sound (t.Constructor w name ∷ ts) p h = absurd (cc)
operator_sound (t.Operator w name ∷ ts) p h = moved (λ z. IsOperator (t.Operator w name ∷ ts) z.0 z.1) _ p h (a_variable_operator (t.Operator w name ∷ ts) ts name (a_symbol_operator w name ts))
operator_sound (t.Number w digits ∷ ts) p h = absurd (cc)

variable_operator_read : (ts : List Lexeme) (a : List ℕ) (rest : List Lexeme) → IsVariableOperator ts a rest → operator_name_at ts ≡ Some (a, rest)
variable_operator_read _ _ _ (a_symbol_operator w name rest) = refl
variable_operator_read _ _ _ (a_named_operator u v w name rest) = rw (same_self m.Backquote, after_mark m.Backquote w rest)

operator_complete : (ts : List Lexeme) (a : List ℕ) (rest : List Lexeme) → IsOperator ts a rest → always rest ≡ true → operator_name_at ts ≡ Some (a, rest)
operator_complete _ _ _ (a_variable_operator ts rest name d) s = variable_operator_read ts name rest d
operator_complete _ _ _ (a_constructor_operator u v w name rest) s = rw (same_self m.Backquote, after_mark m.Backquote w rest)

variable_operator_stands : (ts : List Lexeme) (a : List ℕ) (rest : List Lexeme) → IsVariableOperator ts a rest → (begins_op ts ≡ true) × (length rest < length ts)
unfolding same_mark
variable_operator_stands _ _ _ (a_symbol_operator w name rest) = (refl, omega arith)
variable_operator_stands _ _ _ (a_named_operator u v w name rest) = (refl, omega arith)

operator_stands : (ts : List Lexeme) (a : List ℕ) (rest : List Lexeme) → IsOperator ts a rest → (begins_op ts ≡ true) × (length rest < length ts)
unfolding same_mark
operator_stands _ _ _ (a_variable_operator ts rest name d) = variable_operator_stands ts name rest d
operator_stands _ _ _ (a_constructor_operator u v w name rest) = (refl, omega arith)

operator_exact : Exact operator_name_at IsOperator always
operator_exact = record { sound = operator_sound; complete = operator_complete; shorter = λ ts a rest d. (operator_stands ts a rest d).1 }

-- ---- fixity declarations
strength_sound : (ts : List Lexeme) (p : ℕ × List Lexeme) → strength_at ts ≡ Some p → IsStrength ts p.0 p.1
strength_sound [] p h = moved (λ z. IsStrength [] z.0 z.1) _ p h (no_strength [])
strength_sound (t.Mark w a ∷ ts) p h = moved (λ z. IsStrength (t.Mark w a ∷ ts) z.0 z.1) _ p h (no_strength (t.Mark w a ∷ ts))
strength_sound (t.Variable w name ∷ ts) p h = moved (λ z. IsStrength (t.Variable w name ∷ ts) z.0 z.1) _ p h (no_strength (t.Variable w name ∷ ts))
strength_sound (t.Constructor w name ∷ ts) p h = moved (λ z. IsStrength (t.Constructor w name ∷ ts) z.0 z.1) _ p h (no_strength (t.Constructor w name ∷ ts))
strength_sound (t.Operator w name ∷ ts) p h = moved (λ z. IsStrength (t.Operator w name ∷ ts) z.0 z.1) _ p h (no_strength (t.Operator w name ∷ ts))
strength_sound (t.Number w digits ∷ ts) p h = let n = bind_some (strength_of digits) _ p h in moved (λ z. IsStrength (t.Number w digits ∷ ts) z.0 z.1) _ p n.2 (a_strength w digits ts n.0 n.1)

no_strength_read : (ts : List Lexeme) → begins_op ts ≡ true → strength_at ts ≡ Some (9, ts)
no_strength_read [] h = absurd (cc)
no_strength_read (t.Mark w a ∷ ts) h = refl
no_strength_read (t.Variable w name ∷ ts) h = absurd (cc)
no_strength_read (t.Constructor w name ∷ ts) h = absurd (cc)
no_strength_read (t.Operator w name ∷ ts) h = refl
no_strength_read (t.Number w digits ∷ ts) h = absurd (cc)

strength_read : (ts : List Lexeme) (n : ℕ) (rest : List Lexeme) → IsStrength ts n rest → begins_op rest ≡ true → strength_at ts ≡ Some (n, rest)
strength_read _ _ _ (no_strength ts) h = no_strength_read ts h
strength_read _ _ _ (a_strength w digits rest n e) h = rw e

strength_shorter : (ts : List Lexeme) (n : ℕ) (rest : List Lexeme) → IsStrength ts n rest → length rest ≤ length ts
strength_shorter _ _ _ (no_strength ts) = omega arith
strength_shorter _ _ _ (a_strength w digits rest n e) = omega arith

side_is : (ts : List Lexeme) (p : Side × List Lexeme) → side_at ts ≡ Some p → (w : Spot) × (word : Mark) × (ts ≡ t.Mark w word ∷ p.1) × (side_of word ≡ Some p.0)
side_is [] p h = absurd (cc)
side_is (t.Mark w a ∷ ts) p h =
    let n = bind_some (side_of a) _ p h in
    (w, a, ap (λ (z : Side × List Lexeme). t.Mark w a ∷ z.1) (some_is (n.0, ts) p n.2), n.1 ∙ ap (λ (z : Side × List Lexeme). Some z.0) (some_is (n.0, ts) p n.2))
side_is (t.Variable w name ∷ ts) p h = absurd (cc)
side_is (t.Constructor w name ∷ ts) p h = absurd (cc)
side_is (t.Operator w name ∷ ts) p h = absurd (cc)
side_is (t.Number w digits ∷ ts) p h = absurd (cc)

fixity_sound : (ts : List Lexeme) (p : Decl Span × List Lexeme) → fixity_at ts ≡ Some p → IsFixity ts p.0 p.1
unfolding fixity_at
fixity_sound ts p h =
    let s = bind_some (side_at ts) _ p h in
    let n = bind_some (strength_at s.0.1) _ p s.2 in
    let o = bind_some (separated_at m.Comma operator_name_at (length n.0.1) n.0.1) _ p n.2 in
    let x = side_is ts s.0 s.1 in
    subst (λ z. IsFixity z p.0 p.1) (sym x.2)
    (moved (λ z. IsFixity (t.Mark x.0 x.1 ∷ s.0.1) z.0 z.1) _ p (subst (λ z. Some (d.Fixity (span_of z o.0.1) s.0.0 n.0.0 o.0.0, o.0.1) ≡ Some p) x.2 o.2)
    (a_fixity x.0 x.1 s.0.0 s.0.1 n.0.1 o.0.1 n.0.0 o.0.0 x.3 (strength_sound s.0.1 n.0 n.1) (separated_sound m.Comma operator_name_at IsOperator always operator_exact (λ w rest. refl) (length n.0.1) n.0.1 o.0 o.1)))

fixity_read : (w : Spot) (word : Mark) (at : Side) (ts mid rest : List Lexeme) (n : ℕ) (names : List (List ℕ)) → side_of word ≡ Some at → strength_at ts ≡ Some (n, mid) → separated_at m.Comma operator_name_at (length mid) mid ≡ Some (names, rest)
    → fixity_at (t.Mark w word ∷ ts) ≡ Some (d.Fixity (span_at w rest) at n names, rest)
unfolding fixity_at
fixity_read w word at ts mid rest n names a b c = rw (a, b, c)

entry_no_comma : (ts : List Lexeme) → ends_entry ts ≡ true → sees m.Comma ts ≡ false
unfolding same_mark
entry_no_comma [] h = absurd (cc)
entry_no_comma (t.Mark w a ∷ ts) h =
    elim (one_of (same_mark a m.Semicolon) (same_mark a m.ClosesBlock) h) [
      | inl k ↦ subst (λ z. sees m.Comma (t.Mark w z ∷ ts) ≡ false) (sym (is_same a m.Semicolon k)) refl
      | inr k ↦ subst (λ z. sees m.Comma (t.Mark w z ∷ ts) ≡ false) (sym (is_same a m.ClosesBlock k)) refl
    ]
  where
    one_of : (a b : Bool) → (a || b) ≡ true → (a ≡ true) ⊎ (b ≡ true)
    one_of true b h = inl refl
    one_of false b h = inr h
entry_no_comma (t.Variable w name ∷ ts) h = absurd (cc)
entry_no_comma (t.Constructor w name ∷ ts) h = absurd (cc)
entry_no_comma (t.Operator w name ∷ ts) h = absurd (cc)
entry_no_comma (t.Number w digits ∷ ts) h = absurd (cc)

fixity_complete : (ts : List Lexeme) (a : Decl Span) (rest : List Lexeme) → IsFixity ts a rest → ends_entry rest ≡ true → fixity_at ts ≡ Some (a, rest)
fixity_complete _ _ _ (a_fixity w word at ts mid rest n names e k ds) s =
    fixity_read w word at ts mid rest n names e (strength_read ts n mid k (first_has begins_op true (λ xs a behind i. (operator_stands xs a behind i).0) ds))
    (separated_read m.Comma operator_name_at IsOperator always operator_exact (λ x xs. refl) ds (length mid) (omega arith) (entry_no_comma rest s) refl)

fixity_shorter : (ts : List Lexeme) (a : Decl Span) (rest : List Lexeme) → IsFixity ts a rest → length rest < length ts
fixity_shorter _ _ _ (a_fixity w word at ts mid rest n names e k ds) =
    let h = strength_shorter ts n mid k in let i = separated_shorter m.Comma operator_name_at IsOperator always operator_exact (λ x xs. refl) ds in omega arith

pub fixity_exact : Exact fixity_at IsFixity ends_entry
fixity_exact = record { sound = fixity_sound; complete = fixity_complete; shorter = fixity_shorter }
