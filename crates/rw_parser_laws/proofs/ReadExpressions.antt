-- Expressions are read exactly, where what stands inside them is.
use Rattle.std.proofs.Common.{◌≡◌, ℕ, ◌<◌, true, false, List, [], ◌∷◌, length, drop, Some, None, refl, sym, ap, subst, ◌∙◌, arith, inl, inr}
use Rattle.rw_base.specs.declared.place.Span.{Span}
use Rattle.rw_tree.specs.declared.expr.Expr.{Expr}
use Rattle.rw_tree.specs.declared.expr.Expr.TheVariants as e
use Rattle.rw_tree.specs.declared.clause.Alt.{Alt}
use Rattle.rw_tree.specs.declared.clause.Stmt.{Stmt}
use Rattle.rw_parser_grammar.specs.declared.lexeme.Mark.{Mark}
use Rattle.rw_parser_grammar.specs.declared.lexeme.Mark.TheVariants as m
use Rattle.rw_parser_grammar.specs.declared.lexeme.Spot.{Spot}
use Rattle.rw_parser_grammar.specs.declared.lexeme.Lexeme.{Lexeme}
use Rattle.rw_parser_grammar.specs.declared.lexeme.Lexeme.TheVariants as t
use Rattle.rw_parser_grammar.specs.Lexemes.{next_spot, span_at, span_of}
use Rattle.rw_parser_grammar.specs.Lists.{IsSeparated, IsMany}
use Rattle.rw_parser_grammar.specs.Types.{few}
use Rattle.rw_parser_grammar.specs.Expressions.{grouped_expression, applied_expression, IsAexp, a_variable, an_operator_variable, a_constructor, a_unit, a_group, IsOp, a_symbol, a_quoted_variable, a_quoted_constructor}
use Rattle.rw_parser_grammar.specs.Expressions.{IsOperand, an_application, a_case, a_do}
use Rattle.rw_parser_reading.specs.Read.{Read, same_mark, sees, after, separated_at, operator_at, begins_operator}
use Rattle.rw_parser_reading.specs.ReadTypes.{ends_pattern}
use Rattle.rw_parser_reading.specs.ReadNames.{begins_op}
use Rattle.rw_parser_reading.specs.ReadExpressions.{begins_aexp, ends_operand, ends_expression, operator_group_at, some_expressions_at, group_at, aexp_at, aexps_at, application_at, case_at, do_at, operand_at, begins_last}
use Rattle.rw_parser_reading.proofs.ReadExact.{bind_some, chosen, moved, not_true, neither, is_same, same_self, seen_is, after_is, after_mark, always, Exact, Runs, separated_sound, separated_read, separated_shorter, first_has, many_runs}
use Rattle.rw_parser_reading.proofs.ReadNames.{operator_is}

-- ---- what may follow
pub expression_no_op : (ts : List Lexeme) → ends_expression ts ≡ true → begins_op ts ≡ false
expression_no_op ts s = (neither (begins_op ts) (begins_aexp ts) s).0

pub expression_ends_operand : (ts : List Lexeme) → ends_expression ts ≡ true → ends_operand ts ≡ true
expression_ends_operand ts s = (neither (begins_op ts) (begins_aexp ts) s).1

comma_ends : (w : Spot) (rest : List Lexeme) → ends_expression (t.Mark w m.Comma ∷ rest) ≡ true
unfolding same_mark
comma_ends w rest = refl

closes_ends : (w : Spot) (rest : List Lexeme) → ends_expression (t.Mark w m.Closes ∷ rest) ≡ true
unfolding same_mark
closes_ends w rest = refl

closes_no_comma : (w : Spot) (rest : List Lexeme) → sees m.Comma (t.Mark w m.Closes ∷ rest) ≡ false
unfolding same_mark
closes_no_comma w rest = refl

of_ends : (w : Spot) (rest : List Lexeme) → ends_expression (t.Mark w m.Of ∷ rest) ≡ true
unfolding same_mark
of_ends w rest = refl

then_ends : (w : Spot) (rest : List Lexeme) → ends_expression (t.Mark w m.Then ∷ rest) ≡ true
unfolding same_mark
then_ends w rest = refl

else_ends : (w : Spot) (rest : List Lexeme) → ends_expression (t.Mark w m.Else ∷ rest) ≡ true
unfolding same_mark
else_ends w rest = refl

arrow_ends_pattern : (w : Spot) (rest : List Lexeme) → ends_pattern (t.Mark w m.Arrow ∷ rest) ≡ true
unfolding same_mark
arrow_ends_pattern w rest = refl

pub op_ends : (ts : List Lexeme) (o : Expr Span) (rest : List Lexeme) → IsOp ts o rest → ends_operand ts ≡ true
unfolding same_mark
op_ends _ _ _ (a_symbol w name rest) = refl
op_ends _ _ _ (a_quoted_variable u v w name rest) = refl
op_ends _ _ _ (a_quoted_constructor u v w name rest) = refl

-- a mark before tokens that begin nothing
span_seen : (a : Mark) (ts rest : List Lexeme) → sees a ts ≡ true → span_at (next_spot ts) rest ≡ span_of ts rest
span_seen a ts rest h = refl

-- what no expression begins with
pub record Begins (ts : List Lexeme) : Type 0 where
  pub no_close : sees m.Closes ts ≡ false
  pub no_operator : begins_operator ts ≡ false
  pub no_block_end : sees m.ClosesBlock ts ≡ false
  pub no_semicolon : sees m.Semicolon ts ≡ false

module _ (inner : List Lexeme → Read (Expr Span)) (Inner : List Lexeme → Expr Span → List Lexeme → Type 0) (exact : Exact inner Inner ends_expression)
    (begins : (ts : List Lexeme) (a : Expr Span) (rest : List Lexeme) → Inner ts a rest → Begins ts) where
  -- ---- aexp
  operator_group_sound : (u : Spot) (ts : List Lexeme) (p : Expr Span × List Lexeme) → operator_group_at inner ts ≡ Some p → IsAexp Inner (t.Mark u m.Opens ∷ ts) p.0 p.1
  unfolding operator_group_at
  operator_group_sound u ts p h =
      let o = bind_some (operator_at ts) _ p h in
      let r = bind_some (after m.Closes o.0.1) _ p o.2 in
      let closed : o.0.1 ≡ t.Mark (next_spot o.0.1) m.Closes ∷ r.0 = after_is m.Closes o.0.1 r.0 r.1 in
      subst (λ z. IsAexp Inner (t.Mark u m.Opens ∷ z) p.0 p.1) (sym (operator_is ts o.0 o.1 ∙ ap (λ z. t.Operator o.0.0.0 o.0.0.1 ∷ z) closed))
      (moved (λ z. IsAexp Inner (t.Mark u m.Opens ∷ t.Operator o.0.0.0 o.0.0.1 ∷ t.Mark (next_spot o.0.1) m.Closes ∷ r.0) z.0 z.1) _ p
      (subst (λ z. Some (e.Var (span_at o.0.0.0 z) o.0.0.1, r.0) ≡ Some p) closed r.2) (an_operator_variable u o.0.0.0 (next_spot o.0.1) o.0.0.1 r.0))

  some_sound : (w : Spot) (ts : List Lexeme) (p : Expr Span × List Lexeme) → some_expressions_at inner w ts ≡ Some p → IsAexp Inner (t.Mark w m.Opens ∷ ts) p.0 p.1
  unfolding some_expressions_at
  some_sound w ts p h =
      let a = bind_some (separated_at m.Comma inner (length ts) ts) _ p h in
      let r = bind_some (after m.Closes a.0.1) _ p a.2 in
      elim (chosen (few a.0.0) _ _ _ r.2) [
        | inl k ↦ moved (λ z. IsAexp Inner (t.Mark w m.Opens ∷ ts) z.0 z.1) _ p k.1
            (a_group w (next_spot a.0.1) ts r.0 a.0.0
            (subst (IsSeparated m.Comma Inner ts a.0.0) (after_is m.Closes a.0.1 r.0 r.1) (separated_sound m.Comma inner Inner ends_expression exact comma_ends (length ts) ts a.0 a.1)) k.0)
        | inr k ↦ absurd (let n : None ≡ Some p = k.1 in cc)
      ]

  group_sound : (w : Spot) (ts : List Lexeme) (p : Expr Span × List Lexeme) → group_at inner w ts ≡ Some p → IsAexp Inner (t.Mark w m.Opens ∷ ts) p.0 p.1
  unfolding group_at
  group_sound w ts p h =
      elim (chosen (sees m.Closes ts) _ _ _ h) [
        | inl k ↦ subst (λ z. IsAexp Inner (t.Mark w m.Opens ∷ z) p.0 p.1) (sym (seen_is m.Closes ts k.0))
            (moved (λ z. IsAexp Inner (t.Mark w m.Opens ∷ t.Mark (next_spot ts) m.Closes ∷ drop 1 ts) z.0 z.1) _ p k.1 (a_unit w (next_spot ts) (drop 1 ts)))
        | inr k ↦ elim (chosen (begins_operator ts) _ _ _ k.1) [ inl o ↦ operator_group_sound w ts p o.1 | inr o ↦ some_sound w ts p o.1 ]
      ]

  aexp_sound : (ts : List Lexeme) (p : Expr Span × List Lexeme) → aexp_at inner ts ≡ Some p → IsAexp Inner ts p.0 p.1
  aexp_sound [] p h = absurd (cc)
  aexp_sound (t.Mark w a ∷ ts) p h =
      elim (chosen (same_mark a m.Opens) _ _ _ h) [
        | inl k ↦ subst (λ z. IsAexp Inner (t.Mark w z ∷ ts) p.0 p.1) (sym (is_same a m.Opens k.0)) (group_sound w ts p k.1)
        | inr k ↦ absurd (let n : None ≡ Some p = k.1 in cc)
      ]
  aexp_sound (t.Variable w name ∷ ts) p h = moved (λ z. IsAexp Inner (t.Variable w name ∷ ts) z.0 z.1) _ p h (a_variable w name ts)
  aexp_sound (t.Constructor w name ∷ ts) p h = moved (λ z. IsAexp Inner (t.Constructor w name ∷ ts) z.0 z.1) _ p h (a_constructor w name ts)
  aexp_sound (t.Operator w name ∷ ts) p h = absurd (cc)
  aexp_sound (t.Number w digits ∷ ts) p h = absurd (cc)

  opened_read : (w : Spot) (ts : List Lexeme) → aexp_at inner (t.Mark w m.Opens ∷ ts) ≡ group_at inner w ts
  opened_read w ts = rw (same_self m.Opens)

  unit_read : (v w : Spot) (rest : List Lexeme) → group_at inner v (t.Mark w m.Closes ∷ rest) ≡ Some (e.Tuple (span_at v rest) [], rest)
  unfolding group_at
  unit_read v w rest = rw (same_self m.Closes)

  operator_read : (u v w : Spot) (name : List ℕ) (rest : List Lexeme) → group_at inner u (t.Operator v name ∷ t.Mark w m.Closes ∷ rest) ≡ Some (e.Var (span_at v (t.Mark w m.Closes ∷ rest)) name, rest)
  unfolding group_at operator_group_at
  operator_read u v w name rest = rw (after_mark m.Closes w rest)

  group_read : (v w : Spot) (ts rest : List Lexeme) (parts : List (Expr Span)) → sees m.Closes ts ≡ false → begins_operator ts ≡ false
      → separated_at m.Comma inner (length ts) ts ≡ Some (parts, t.Mark w m.Closes ∷ rest) → few parts ≡ true → group_at inner v ts ≡ Some (grouped_expression (span_at v rest) parts, rest)
  unfolding group_at some_expressions_at
  group_read v w ts rest parts c o h f = rw (c, o, h, after_mark m.Closes w rest, f)

  aexp_complete : (ts : List Lexeme) (a : Expr Span) (rest : List Lexeme) → IsAexp Inner ts a rest → always rest ≡ true → aexp_at inner ts ≡ Some (a, rest)
  aexp_complete _ _ _ (a_variable w name rest) s = refl
  aexp_complete _ _ _ (an_operator_variable u v w name rest) s = opened_read u (t.Operator v name ∷ t.Mark w m.Closes ∷ rest) ∙ operator_read u v w name rest
  aexp_complete _ _ _ (a_constructor w name rest) s = refl
  aexp_complete _ _ _ (a_unit v w rest) s = opened_read v (t.Mark w m.Closes ∷ rest) ∙ unit_read v w rest
  aexp_complete _ _ _ (a_group v w ts rest parts d f) s =
      opened_read v ts
      ∙ group_read v w ts rest parts (first_has (sees m.Closes) false (λ xs a behind i. (begins xs a behind i).no_close) d) (first_has begins_operator false (λ xs a behind i. (begins xs a behind i).no_operator) d)
      (separated_read m.Comma inner Inner ends_expression exact comma_ends d (length ts) (omega arith) (closes_no_comma w rest) (closes_ends w rest)) f

  aexp_shorter : (ts : List Lexeme) (a : Expr Span) (rest : List Lexeme) → IsAexp Inner ts a rest → length rest < length ts
  aexp_shorter _ _ _ (a_variable w name rest) = omega arith
  aexp_shorter _ _ _ (an_operator_variable u v w name rest) = omega arith
  aexp_shorter _ _ _ (a_constructor w name rest) = omega arith
  aexp_shorter _ _ _ (a_unit v w rest) = omega arith
  aexp_shorter _ _ _ (a_group v w ts rest parts d f) = let h = separated_shorter m.Comma inner Inner ends_expression exact comma_ends d in omega arith

  aexp_exact : Exact (aexp_at inner) (IsAexp Inner) always
  aexp_exact = record { sound = aexp_sound; complete = aexp_complete; shorter = aexp_shorter }

  aexp_begins : (ts : List Lexeme) (a : Expr Span) (rest : List Lexeme) → IsAexp Inner ts a rest → begins_aexp ts ≡ true
  unfolding same_mark
  aexp_begins _ _ _ (a_variable w name rest) = refl
  aexp_begins _ _ _ (an_operator_variable u v w name rest) = refl
  aexp_begins _ _ _ (a_constructor w name rest) = refl
  aexp_begins _ _ _ (a_unit v w rest) = refl
  aexp_begins _ _ _ (a_group v w ts rest parts d f) = refl

  -- ---- applications
  aexps_runs : Runs (aexps_at inner) (IsMany (IsAexp Inner)) ends_operand
  unfolding aexps_at
  aexps_runs = many_runs begins_aexp (aexp_at inner) (IsAexp Inner) always aexp_exact aexp_begins (λ ts b. refl) ends_operand (λ rest h. not_true _ h) (λ rest h. refl)

  application_read : (ts mid rest : List Lexeme) (head : Expr Span) (parts : List (Expr Span)) → aexp_at inner ts ≡ Some (head, mid) → aexps_at inner mid ≡ Some (parts, rest)
      → application_at inner ts ≡ Some (applied_expression (span_of ts rest) head parts, rest)
  unfolding application_at
  application_read ts mid rest head parts h g = rw (h, g)

-- what begins an aexp begins nothing else
aexp_is : (ts : List Lexeme) → begins_aexp ts ≡ true → Begins ts × ((sees m.Case ts ≡ false) × ((sees m.Do ts ≡ false) × (begins_last ts ≡ false)))
unfolding same_mark
aexp_is [] h = absurd (cc)
aexp_is (t.Mark w a ∷ ts) h = subst (λ z. Begins (t.Mark w z ∷ ts) × ((sees m.Case (t.Mark w z ∷ ts) ≡ false) × ((sees m.Do (t.Mark w z ∷ ts) ≡ false) × (begins_last (t.Mark w z ∷ ts) ≡ false)))) (sym (is_same a m.Opens h))
    (record { no_close = refl; no_operator = refl; no_block_end = refl; no_semicolon = refl }, (refl, (refl, refl)))
aexp_is (t.Variable w name ∷ ts) h = (record { no_close = refl; no_operator = refl; no_block_end = refl; no_semicolon = refl }, (refl, (refl, refl)))
aexp_is (t.Constructor w name ∷ ts) h = (record { no_close = refl; no_operator = refl; no_block_end = refl; no_semicolon = refl }, (refl, (refl, refl)))
aexp_is (t.Operator w name ∷ ts) h = absurd (cc)
aexp_is (t.Number w digits ∷ ts) h = absurd (cc)

module _ (inner : List Lexeme → Read (Expr Span)) (Inner : List Lexeme → Expr Span → List Lexeme → Type 0) (exact : Exact inner Inner ends_expression)
    (begins : (ts : List Lexeme) (a : Expr Span) (rest : List Lexeme) → Inner ts a rest → Begins ts)
    (alternatives : List Lexeme → Read (List (Alt Span))) (Alternatives : List Lexeme → List (Alt Span) → List Lexeme → Type 0) (rows : Exact alternatives Alternatives always)
    (statements : List Lexeme → Read (List (Stmt Span))) (Statements : List Lexeme → List (Stmt Span) → List Lexeme → Type 0) (lines : Exact statements Statements always) where
  -- ---- operands
  application_sound : (ts : List Lexeme) (p : Expr Span × List Lexeme) → application_at inner ts ≡ Some p → IsOperand Inner Alternatives Statements ts p.0 p.1
  unfolding application_at
  application_sound ts p h =
      let a = bind_some (aexp_at inner ts) _ p h in
      let q = bind_some (aexps_at inner a.0.1) _ p a.2 in
      moved (λ z. IsOperand Inner Alternatives Statements ts z.0 z.1) _ p q.2
      (an_application ts a.0.1 q.0.1 a.0.0 q.0.0 (aexp_sound inner Inner exact begins ts a.0 a.1) ((aexps_runs inner Inner exact begins).sound a.0.1 q.0 q.1))

  case_sound : (ts : List Lexeme) (p : Expr Span × List Lexeme) → sees m.Case ts ≡ true → case_at inner alternatives statements ts ≡ Some p → IsOperand Inner Alternatives Statements ts p.0 p.1
  unfolding case_at
  case_sound ts p c h =
      let a = bind_some (inner (drop 1 ts)) _ p h in
      let r = bind_some (after m.Of a.0.1) _ p a.2 in
      let q = bind_some (alternatives r.0) _ p r.2 in
      moved (λ z. IsOperand Inner Alternatives Statements ts z.0 z.1) _ p q.2
      (subst (λ z. IsOperand Inner Alternatives Statements z (e.Case (span_of ts q.0.1) a.0.0 q.0.0) q.0.1) (sym (seen_is m.Case ts c))
      (a_case (next_spot ts) (next_spot a.0.1) (drop 1 ts) r.0 q.0.1 a.0.0 q.0.0 (subst (Inner (drop 1 ts) a.0.0) (after_is m.Of a.0.1 r.0 r.1) (exact.sound (drop 1 ts) a.0 a.1)) (rows.sound r.0 q.0 q.1)))

  do_sound : (ts : List Lexeme) (p : Expr Span × List Lexeme) → sees m.Do ts ≡ true → do_at inner alternatives statements ts ≡ Some p → IsOperand Inner Alternatives Statements ts p.0 p.1
  unfolding do_at
  do_sound ts p c h =
      let a = bind_some (statements (drop 1 ts)) _ p h in
      moved (λ z. IsOperand Inner Alternatives Statements ts z.0 z.1) _ p a.2
      (subst (λ z. IsOperand Inner Alternatives Statements z (e.Do (span_of ts a.0.1) a.0.0) a.0.1) (sym (seen_is m.Do ts c)) (a_do (next_spot ts) (drop 1 ts) a.0.1 a.0.0 (lines.sound (drop 1 ts) a.0 a.1)))

  operand_sound : (ts : List Lexeme) (p : Expr Span × List Lexeme) → operand_at inner alternatives statements ts ≡ Some p → IsOperand Inner Alternatives Statements ts p.0 p.1
  unfolding operand_at
  operand_sound ts p h =
      elim (chosen (sees m.Case ts) _ _ _ h) [
        | inl a ↦ case_sound ts p a.0 a.1
        | inr a ↦ elim (chosen (sees m.Do ts) _ _ _ a.1) [ inl b ↦ do_sound ts p b.0 b.1 | inr b ↦ application_sound ts p b.1 ]
      ]

  applied_read : (ts rest : List Lexeme) (a : Expr Span) → sees m.Case ts ≡ false → sees m.Do ts ≡ false → application_at inner ts ≡ Some (a, rest) → operand_at inner alternatives statements ts ≡ Some (a, rest)
  unfolding operand_at
  applied_read ts rest a c d h = rw (c, d, h)

  case_read : (v w : Spot) (ts mid rest : List Lexeme) (a : Expr Span) (alts : List (Alt Span)) → inner ts ≡ Some (a, t.Mark w m.Of ∷ mid) → alternatives mid ≡ Some (alts, rest)
      → operand_at inner alternatives statements (t.Mark v m.Case ∷ ts) ≡ Some (e.Case (span_at v rest) a alts, rest)
  unfolding operand_at case_at
  case_read v w ts mid rest a alts h g = rw (same_self m.Case, h, after_mark m.Of w mid, g)

  do_no_case : (v : Spot) (ts : List Lexeme) → sees m.Case (t.Mark v m.Do ∷ ts) ≡ false
  unfolding same_mark
  do_no_case v ts = refl

  do_read : (v : Spot) (ts rest : List Lexeme) (all : List (Stmt Span)) → statements ts ≡ Some (all, rest) → operand_at inner alternatives statements (t.Mark v m.Do ∷ ts) ≡ Some (e.Do (span_at v rest) all, rest)
  unfolding operand_at do_at
  do_read v ts rest all h = rw (do_no_case v ts, same_self m.Do, h)

  operand_complete : (ts : List Lexeme) (a : Expr Span) (rest : List Lexeme) → IsOperand Inner Alternatives Statements ts a rest → ends_operand rest ≡ true → operand_at inner alternatives statements ts ≡ Some (a, rest)
  operand_complete _ _ _ (an_application ts mid rest head parts d ds) s =
      let first = aexp_is ts (aexp_begins inner Inner exact begins ts head mid d) in
      applied_read ts rest (applied_expression (span_of ts rest) head parts) first.1.0 first.1.1.0
      (application_read inner Inner exact begins ts mid rest head parts (aexp_complete inner Inner exact begins ts head mid d refl) ((aexps_runs inner Inner exact begins).complete mid parts rest ds s))
  operand_complete _ _ _ (a_case v w ts mid rest a alts d ds) s = case_read v w ts mid rest a alts (exact.complete ts a _ d (of_ends w mid)) (rows.complete mid alts rest ds refl)
  operand_complete _ _ _ (a_do v ts rest all d) s = do_read v ts rest all (lines.complete ts all rest d refl)

  operand_shorter : (ts : List Lexeme) (a : Expr Span) (rest : List Lexeme) → IsOperand Inner Alternatives Statements ts a rest → length rest < length ts
  operand_shorter _ _ _ (an_application ts mid rest head parts d ds) = let h = aexp_shorter inner Inner exact begins ts head mid d in let k = (aexps_runs inner Inner exact begins).shorter mid parts rest ds in omega arith
  operand_shorter _ _ _ (a_case v w ts mid rest a alts d ds) = let h = exact.shorter ts a _ d in let k = rows.shorter mid alts rest ds in omega arith
  operand_shorter _ _ _ (a_do v ts rest all d) = let h = lines.shorter ts all rest d in omega arith

  pub operand_exact : Exact (operand_at inner alternatives statements) (IsOperand Inner Alternatives Statements) ends_operand
  operand_exact = record { sound = operand_sound; complete = operand_complete; shorter = operand_shorter }

  pub operand_begins : (ts : List Lexeme) (a : Expr Span) (rest : List Lexeme) → IsOperand Inner Alternatives Statements ts a rest → Begins ts × (begins_last ts ≡ false)
  unfolding same_mark
  operand_begins _ _ _ (an_application ts mid rest head parts d ds) = let first = aexp_is ts (aexp_begins inner Inner exact begins ts head mid d) in (first.0, first.1.1.1)
  operand_begins _ _ _ (a_case v w ts mid rest a alts d ds) = (record { no_close = refl; no_operator = refl; no_block_end = refl; no_semicolon = refl }, refl)
  operand_begins _ _ _ (a_do v ts rest all d) = (record { no_close = refl; no_operator = refl; no_block_end = refl; no_semicolon = refl }, refl)
