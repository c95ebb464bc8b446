-- Operators where they are used, and names where they are bound, are read exactly.
use Rattle.std.proofs.Common.{◌≡◌, ℕ, ◌<◌, true, List, [], ◌∷◌, length, Some, None, refl, sym, ap, subst, ◌∙◌, arith, inl, inr}
use Rattle.rw_base.specs.declared.place.Span.{Span}
use Rattle.rw_tree.specs.declared.expr.Expr.{Expr}
use Rattle.rw_tree.specs.declared.expr.Expr.TheVariants as e
use Rattle.rw_parser_grammar.specs.declared.lexeme.Mark.TheVariants as m
use Rattle.rw_parser_grammar.specs.declared.lexeme.Spot.{Spot}
use Rattle.rw_parser_grammar.specs.declared.lexeme.Lexeme.{Lexeme}
use Rattle.rw_parser_grammar.specs.declared.lexeme.Lexeme.TheVariants as t
use Rattle.rw_parser_grammar.specs.Lexemes.{next_spot, span_at}
use Rattle.rw_parser_grammar.specs.Names.{IsVariableName, a_name, an_operator_name}
use Rattle.rw_parser_grammar.specs.Expressions.{IsOp, a_symbol, a_quoted_variable, a_quoted_constructor}
use Rattle.rw_parser_reading.specs.Read.{same_mark, after, operator_at}
use Rattle.rw_parser_reading.specs.ReadNames.{begins_op, quoted_at, op_at}
use Rattle.rw_parser_reading.specs.ReadClauses.{operator_closed_at, variable_name_at}
use Rattle.rw_parser_reading.proofs.ReadExact.{bind_some, chosen, some_is, moved, is_same, same_self, after_is, after_mark, always, Exact}

-- an operator as a bare token
pub operator_is : (ts : List Lexeme) (p : (Spot × List ℕ) × List Lexeme) → operator_at ts ≡ Some p → ts ≡ t.Operator p.0.0 p.0.1 ∷ p.1
operator_is [] p h = absurd (cc)
operator_is (t.Mark w a ∷ ts) p h = absurd (cc)
operator_is (t.Variable w name ∷ ts) p h = absurd (cc)
operator_is (t.Constructor w name ∷ ts) p h = absurd (cc)
operator_is (t.Operator w name ∷ ts) p h = ap (λ (q : (Spot × List ℕ) × List Lexeme). t.Operator q.0.0 q.0.1 ∷ q.1) (some_is ((w, name), ts) p h)
operator_is (t.Number w digits ∷ ts) p h = absurd (cc)

quoted_sound : (u : Spot) (ts : List Lexeme) (p : Expr Span × List Lexeme) → quoted_at ts ≡ Some p → IsOp (t.Mark u m.Backquote ∷ ts) p.0 p.1
quoted_sound u [] p h = absurd (cc)
quoted_sound u (t.Mark w a ∷ ts) p h = absurd (cc)
quoted_sound u (t.Variable v name ∷ ts) p h =
    let r = bind_some (after m.Backquote ts) _ p h in
    subst (λ z. IsOp (t.Mark u m.Backquote ∷ t.Variable v name ∷ z) p.0 p.1) (sym (after_is m.Backquote ts r.0 r.1))
    (moved (λ z. IsOp (t.Mark u m.Backquote ∷ t.Variable v name ∷ t.Mark (next_spot ts) m.Backquote ∷ r.0) z.0 z.1) _ p
    (subst (λ z. Some (e.Var (span_at v z) name, r.0) ≡ Some p) (after_is m.Backquote ts r.0 r.1) r.2) (a_quoted_variable u v (next_spot ts) name r.0))
quoted_sound u (t.Constructor v name ∷ ts) p h =
    let r = bind_some (after m.Backquote ts) _ p h in
    subst (λ z. IsOp (t.Mark u m.Backquote ∷ t.Constructor v name ∷ z) p.0 p.1) (sym (after_is m.Backquote ts r.0 r.1))
    (moved (λ z. IsOp (t.Mark u m.Backquote ∷ t.Constructor v name ∷ t.Mark (next_spot ts) m.Backquote ∷ r.0) z.0 z.1) _ p
    (subst (λ z. Some (e.Con (span_at v z) name, r.0) ≡ Some p) (after_is m.Backquote ts r.0 r.1) r.2) (a_quoted_constructor u v (next_spot ts) name r.0))
quoted_sound u (t.Operator w name ∷ ts) p h = absurd (cc)
quoted_sound u (t.Number w digits ∷ ts) p h = absurd (cc)

op_sound : (ts : List Lexeme) (p : Expr Span × List Lexeme) → op_at ts ≡ Some p → IsOp ts p.0 p.1
op_sound [] p h = absurd (cc)
op_sound (t.Mark w a ∷ ts) p h =
    elim (chosen (same_mark a m.Backquote) _ _ _ h) [
      | inl k ↦ subst (λ z. IsOp (t.Mark w z ∷ ts) p.0 p.1) (sym (is_same a m.Backquote k.0)) (quoted_sound w ts p k.1)
      | inr k ↦ absurd (let n : None ≡ Some p = k.1 in cc)
    ]
op_sound (t.Variable w name ∷ ts) p h = absurd (cc)
op_sound (t.Constructor w name ∷ ts) p h = absurd (cc)
op_sound (t.Operator w name ∷ ts) p h = moved (λ z. IsOp (t.Operator w name ∷ ts) z.0 z.1) _ p h (a_symbol w name ts)
op_sound (t.Number w digits ∷ ts) p h = absurd (cc)

op_complete : (ts : List Lexeme) (o : Expr Span) (rest : List Lexeme) → IsOp ts o rest → always rest ≡ true → op_at ts ≡ Some (o, rest)
op_complete _ _ _ (a_symbol w name rest) s = refl
op_complete _ _ _ (a_quoted_variable u v w name rest) s = rw (same_self m.Backquote, after_mark m.Backquote w rest)
op_complete _ _ _ (a_quoted_constructor u v w name rest) s = rw (same_self m.Backquote, after_mark m.Backquote w rest)

op_shorter : (ts : List Lexeme) (o : Expr Span) (rest : List Lexeme) → IsOp ts o rest → length rest < length ts
op_shorter _ _ _ (a_symbol w name rest) = omega arith
op_shorter _ _ _ (a_quoted_variable u v w name rest) = omega arith
op_shorter _ _ _ (a_quoted_constructor u v w name rest) = omega arith

pub op_exact : Exact op_at IsOp always
op_exact = record { sound = op_sound; complete = op_complete; shorter = op_shorter }

pub op_begins : (ts : List Lexeme) (o : Expr Span) (rest : List Lexeme) → IsOp ts o rest → begins_op ts ≡ true
unfolding same_mark
op_begins _ _ _ (a_symbol w name rest) = refl
op_begins _ _ _ (a_quoted_variable u v w name rest) = refl
op_begins _ _ _ (a_quoted_constructor u v w name rest) = refl

-- ---- names where they are bound
operator_closed_is : (ts : List Lexeme) (p : (Spot × List ℕ) × List Lexeme) → operator_closed_at ts ≡ Some p → (w : Spot) × (ts ≡ t.Operator p.0.0 p.0.1 ∷ t.Mark w m.Closes ∷ p.1)
unfolding operator_closed_at
operator_closed_is ts p h =
    let o = bind_some (operator_at ts) _ p h in
    let x = bind_some (after m.Closes o.0.1) _ p o.2 in
    let q : (o.0.0, x.0) ≡ p = some_is _ _ x.2 in
    (next_spot o.0.1, operator_is ts o.0 o.1 ∙ ap (λ z. t.Operator o.0.0.0 o.0.0.1 ∷ z) (after_is m.Closes o.0.1 x.0 x.1) ∙ ap (λ (z : (Spot × List ℕ) × List Lexeme). t.Operator z.0.0 z.0.1 ∷ t.Mark (next_spot o.0.1) m.Closes ∷ z.1) q)

pub name_sound : (ts : List Lexeme) (p : (Spot × List ℕ) × List Lexeme) → variable_name_at ts ≡ Some p → IsVariableName ts p.0 p.1
name_sound [] p h = absurd (cc)
name_sound (t.Mark w a ∷ ts) p h =
    elim (chosen (same_mark a m.Opens) _ _ _ h) [
      | inl k ↦ let o = operator_closed_is ts p k.1 in
          subst (λ z. IsVariableName (t.Mark w z ∷ ts) p.0 p.1) (sym (is_same a m.Opens k.0)) (subst (λ z. IsVariableName (t.Mark w m.Opens ∷ z) p.0 p.1) (sym o.1) (an_operator_name w p.0.0 o.0 p.0.1 p.1))
      | inr k ↦ absurd (let n : None ≡ Some p = k.1 in cc)
    ]
name_sound (t.Variable w name ∷ ts) p h = moved (λ z. IsVariableName (t.Variable w name ∷ ts) z.0 z.1) _ p h (a_name w name ts)
name_sound (t.Constructor w name ∷ ts) p h = absurd (cc)
name_sound (t.Operator w name ∷ ts) p h = absurd (cc)
name_sound (t.Number w digits ∷ ts) p h = absurd (cc)

closed_read : (v w : Spot) (name : List ℕ) (rest : List Lexeme) → operator_closed_at (t.Operator v name ∷ t.Mark w m.Closes ∷ rest) ≡ Some ((v, name), rest)
unfolding operator_closed_at
closed_read v w name rest = rw (after_mark m.Closes w rest)

pub name_complete : (ts : List Lexeme) (a : Spot × List ℕ) (rest : List Lexeme) → IsVariableName ts a rest → always rest ≡ true → variable_name_at ts ≡ Some (a, rest)
name_complete _ _ _ (a_name w name rest) s = refl
name_complete _ _ _ (an_operator_name u v w name rest) s = rw (same_self m.Opens) (closed_read v w name rest)

pub name_shorter : (ts : List Lexeme) (a : Spot × List ℕ) (rest : List Lexeme) → IsVariableName ts a rest → length rest < length ts
name_shorter _ _ _ (a_name w name rest) = omega arith
name_shorter _ _ _ (an_operator_name u v w name rest) = omega arith

pub name_exact : Exact variable_name_at IsVariableName always
name_exact = record { sound = name_sound; complete = name_complete; shorter = name_shorter }
