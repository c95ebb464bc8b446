-- Right sides, left sides, clauses and alternatives are read exactly, where what stands inside them is.
use Rattle.std.proofs.Common.{◌≡◌, ℕ, ◌<◌, ◌≤◌, Bool, true, false, ◌||◌, List, [], ◌∷◌, length, drop, Some, None, refl, sym, ap, subst, ◌∙◌, arith, ◌⊎◌, inl, inr}
use Rattle.rw_base.specs.declared.place.Span.{Span}
use Rattle.rw_tree.specs.declared.pattern.Pat.{Pat}
use Rattle.rw_tree.specs.declared.expr.Expr.{Expr}
use Rattle.rw_tree.specs.declared.clause.Alt.{Alt}
use Rattle.rw_tree.specs.declared.clause.Rhs.{Rhs}
use Rattle.rw_tree.specs.declared.clause.Rhs.TheVariants as r
use Rattle.rw_tree.specs.declared.clause.Guard.{Guard}
use Rattle.rw_tree.specs.declared.clause.Local.{Local}
use Rattle.rw_parser_grammar.specs.declared.lexeme.Mark.{Mark}
use Rattle.rw_parser_grammar.specs.declared.lexeme.Mark.TheVariants as m
use Rattle.rw_parser_grammar.specs.declared.lexeme.Spot.{Spot}
use Rattle.rw_parser_grammar.specs.declared.lexeme.Lexeme.{Lexeme}
use Rattle.rw_parser_grammar.specs.declared.lexeme.Lexeme.TheVariants as t
use Rattle.rw_parser_grammar.specs.Lexemes.{next_spot, span_of}
use Rattle.rw_parser_grammar.specs.Lists.{IsMany, one_more, IsBlock}
use Rattle.rw_parser_grammar.specs.Names.{IsVariableName, a_name, an_operator_name, IsVariableOperator, a_symbol_operator, a_named_operator}
use Rattle.rw_parser_grammar.specs.Clauses.{IsGuard, a_guard, IsRightSide, unguarded, guarded, IsWhere, no_where, a_where, IsLeftSide, a_prefix, an_infix, IsClause, a_clause, IsAlternative, an_alternative, IsAlternatives, alternatives}
use Rattle.rw_parser_reading.specs.Read.{Read, same_mark, sees, after, block_at, variable_at}
use Rattle.rw_parser_reading.specs.ReadTypes.{ends_pattern}
use Rattle.rw_parser_reading.specs.ReadNames.{begins_op, beyond}
use Rattle.rw_parser_reading.specs.ReadExpressions.{ends_expression}
use Rattle.rw_parser_reading.specs.ReadClauses.{is_some, ends_right_side, ends_clause, guard_at, guards_at, right_side_at, where_at, variable_name_at, variable_quoted_at, variable_operator_at, opens_operator, begins_infix, ends_left_side, prefix_at, infix_at, left_side_at, clause_at, alternative_at, alternatives_at}
use Rattle.rw_parser_reading.proofs.ReadExact.{bind_some, chosen, some_is, moved, neither, is_same, same_self, seen_is, after_is, after_mark, always, Exact, Runs, many_runs, block_exact}
use Rattle.rw_parser_reading.proofs.ReadNames.{name_sound, name_complete, name_shorter}
use Rattle.rw_parser_laws.proofs.Plain.{apat_is, IsPlainly}

-- ---- what may follow
pub side_no_bar : (ts : List Lexeme) → ends_right_side ts ≡ true → sees m.Bar ts ≡ false
side_no_bar ts s = (neither (sees m.Bar ts) _ s).0

pub side_ends_expression : (ts : List Lexeme) → ends_right_side ts ≡ true → ends_expression ts ≡ true
side_ends_expression ts s = (neither (sees m.Bar ts) _ s).1

pub clause_no_where : (ts : List Lexeme) → ends_clause ts ≡ true → sees m.Where ts ≡ false
clause_no_where ts s = (neither (sees m.Where ts) _ s).0

pub clause_ends_side : (ts : List Lexeme) → ends_clause ts ≡ true → ends_right_side ts ≡ true
clause_ends_side ts s = (neither (sees m.Where ts) _ s).1

bar_ends : (ts : List Lexeme) → sees m.Bar ts ≡ true → ends_expression ts ≡ true
unfolding same_mark
bar_ends ts h = subst (λ z. ends_expression z ≡ true) (sym (seen_is m.Bar ts h)) refl

where_ends : (w : Spot) (ts : List Lexeme) → ends_right_side (t.Mark w m.Where ∷ ts) ≡ true
unfolding same_mark
where_ends w ts = refl

-- a list that has something
some_parts : {A : Type 0} (P : List A → Type 0) (xs : List A) → is_some xs ≡ true → ((a : A) (others : List A) → P (a ∷ others)) → P xs
some_parts P [] h f = absurd (cc)
some_parts P (a ∷ others) h f = f a others

-- ---- right sides
-- an arrow of a right side
pub record IsArrow (arrow : Mark) : Type 0 where
  pub ends : (w : Spot) (rest : List Lexeme) → ends_expression (t.Mark w arrow ∷ rest) ≡ true
  pub no_bar : (w : Spot) (rest : List Lexeme) → sees m.Bar (t.Mark w arrow ∷ rest) ≡ false

pub equal_arrow : IsArrow m.Equal
unfolding same_mark
equal_arrow = record { ends = λ w rest. refl; no_bar = λ w rest. refl }

pub arrow_arrow : IsArrow m.Arrow
unfolding same_mark
arrow_arrow = record { ends = λ w rest. refl; no_bar = λ w rest. refl }

module _ (arrow : Mark) (is_arrow : IsArrow arrow) (inner : List Lexeme → Read (Expr Span)) (Inner : List Lexeme → Expr Span → List Lexeme → Type 0) (exact : Exact inner Inner ends_expression) where
  guard_sound : (ts : List Lexeme) (p : Guard Span × List Lexeme) → guard_at arrow inner ts ≡ Some p → IsGuard arrow Inner ts p.0 p.1
  unfolding guard_at
  guard_sound ts p h =
      let x = bind_some (after m.Bar ts) _ p h in
      let a = bind_some (inner x.0) _ p x.2 in
      let y = bind_some (after arrow a.0.1) _ p a.2 in
      let c = bind_some (inner y.0) _ p y.2 in
      moved (λ z. IsGuard arrow Inner ts z.0 z.1) _ p c.2
      (subst (λ z. IsGuard arrow Inner z (record { test = a.0.0; body = c.0.0 }) c.0.1) (sym (after_is m.Bar ts x.0 x.1))
      (a_guard (next_spot ts) (next_spot a.0.1) x.0 y.0 c.0.1 a.0.0 c.0.0 (subst (Inner x.0 a.0.0) (after_is arrow a.0.1 y.0 y.1) (exact.sound x.0 a.0 a.1)) (exact.sound y.0 c.0 c.1)))

  guard_read : (v w : Spot) (ts mid rest : List Lexeme) (test body : Expr Span) → inner ts ≡ Some (test, t.Mark w arrow ∷ mid) → inner mid ≡ Some (body, rest)
      → guard_at arrow inner (t.Mark v m.Bar ∷ ts) ≡ Some (record { test = test; body = body }, rest)
  unfolding guard_at
  guard_read v w ts mid rest test body h g = rw (after_mark m.Bar v ts, h, after_mark arrow w mid, g)

  guard_complete : (ts : List Lexeme) (a : Guard Span) (rest : List Lexeme) → IsGuard arrow Inner ts a rest → ends_expression rest ≡ true → guard_at arrow inner ts ≡ Some (a, rest)
  guard_complete _ _ _ (a_guard v w ts mid rest test body d i) s = guard_read v w ts mid rest test body (exact.complete ts test _ d (is_arrow.ends w mid)) (exact.complete mid body rest i s)

  guard_shorter : (ts : List Lexeme) (a : Guard Span) (rest : List Lexeme) → IsGuard arrow Inner ts a rest → length rest < length ts
  guard_shorter _ _ _ (a_guard v w ts mid rest test body d i) = let h = exact.shorter ts test _ d in let k = exact.shorter mid body rest i in omega arith

  guard_begins : (ts : List Lexeme) (a : Guard Span) (rest : List Lexeme) → IsGuard arrow Inner ts a rest → sees m.Bar ts ≡ true
  guard_begins _ _ _ (a_guard v w ts mid rest test body d i) = same_self m.Bar

  guards_runs : Runs (guards_at arrow inner) (IsMany (IsGuard arrow Inner)) ends_right_side
  unfolding guards_at
  guards_runs =
      many_runs (sees m.Bar) (guard_at arrow inner) (IsGuard arrow Inner) ends_expression (record { sound = guard_sound; complete = guard_complete; shorter = guard_shorter }) guard_begins bar_ends ends_right_side side_no_bar side_ends_expression

  guards_begin : (ts rest : List Lexeme) (guard : Guard Span) (guards : List (Guard Span)) → IsMany (IsGuard arrow Inner) ts (guard ∷ guards) rest → sees m.Bar ts ≡ true
  guards_begin _ _ _ _ (one_more ts mid rest a others d ds) = guard_begins ts a mid d

  guards_shorter : (ts rest : List Lexeme) (guard : Guard Span) (guards : List (Guard Span)) → IsMany (IsGuard arrow Inner) ts (guard ∷ guards) rest → length rest < length ts
  guards_shorter _ _ _ _ (one_more ts mid rest a others d ds) = let h = guard_shorter ts a mid d in let k = guards_runs.shorter mid others rest ds in omega arith

  side_sound : (ts : List Lexeme) (p : Rhs Span × List Lexeme) → right_side_at arrow inner ts ≡ Some p → IsRightSide arrow Inner ts p.0 p.1
  unfolding right_side_at
  side_sound ts p h =
      elim (chosen (sees m.Bar ts) _ _ _ h) [
        | inl k ↦ let g = bind_some (guards_at arrow inner ts) _ p k.1 in
            elim (chosen (is_some g.0.0) _ _ _ g.2) [
              | inl c ↦ moved (λ z. IsRightSide arrow Inner ts z.0 z.1) _ p c.1
                  (some_parts (λ gs. IsMany (IsGuard arrow Inner) ts gs g.0.1 → IsRightSide arrow Inner ts (r.Guarded gs) g.0.1) g.0.0 c.0 (λ a others ds. guarded ts g.0.1 a others ds) (guards_runs.sound ts g.0 g.1))
              | inr c ↦ absurd (let n : None ≡ Some p = c.1 in cc)
            ]
        | inr k ↦ let x = bind_some (after arrow ts) _ p k.1 in
            let a = bind_some (inner x.0) _ p x.2 in
            moved (λ z. IsRightSide arrow Inner ts z.0 z.1) _ p a.2
            (subst (λ z. IsRightSide arrow Inner z (r.Plain a.0.0) a.0.1) (sym (after_is arrow ts x.0 x.1)) (unguarded (next_spot ts) x.0 a.0.1 a.0.0 (exact.sound x.0 a.0 a.1)))
      ]

  plain_read : (w : Spot) (ts rest : List Lexeme) (body : Expr Span) → inner ts ≡ Some (body, rest) → right_side_at arrow inner (t.Mark w arrow ∷ ts) ≡ Some (r.Plain body, rest)
  unfolding right_side_at
  plain_read w ts rest body h = rw (is_arrow.no_bar w ts, after_mark arrow w ts, h)

  guarded_read : (ts rest : List Lexeme) (guard : Guard Span) (guards : List (Guard Span)) → sees m.Bar ts ≡ true → guards_at arrow inner ts ≡ Some (guard ∷ guards, rest)
      → right_side_at arrow inner ts ≡ Some (r.Guarded (guard ∷ guards), rest)
  unfolding right_side_at
  guarded_read ts rest guard guards b h = rw (b, h)

  side_complete : (ts : List Lexeme) (a : Rhs Span) (rest : List Lexeme) → IsRightSide arrow Inner ts a rest → ends_right_side rest ≡ true → right_side_at arrow inner ts ≡ Some (a, rest)
  side_complete _ _ _ (unguarded w ts rest body d) s = plain_read w ts rest body (exact.complete ts body rest d (side_ends_expression rest s))
  side_complete _ _ _ (guarded ts rest guard guards ds) s = guarded_read ts rest guard guards (guards_begin ts rest guard guards ds) (guards_runs.complete ts (guard ∷ guards) rest ds s)

  side_shorter : (ts : List Lexeme) (a : Rhs Span) (rest : List Lexeme) → IsRightSide arrow Inner ts a rest → length rest < length ts
  side_shorter _ _ _ (unguarded w ts rest body d) = let h = exact.shorter ts body rest d in omega arith
  side_shorter _ _ _ (guarded ts rest guard guards ds) = guards_shorter ts rest guard guards ds

  pub side_exact : Exact (right_side_at arrow inner) (IsRightSide arrow Inner) ends_right_side
  side_exact = record { sound = side_sound; complete = side_complete; shorter = side_shorter }

  -- a right side begins with its arrow or with a bar
  pub side_begins : (P : List Lexeme → Type 0) → ((w : Spot) (ts : List Lexeme) → P (t.Mark w arrow ∷ ts)) → ((w : Spot) (ts : List Lexeme) → P (t.Mark w m.Bar ∷ ts))
      → (ts : List Lexeme) (a : Rhs Span) (rest : List Lexeme) → IsRightSide arrow Inner ts a rest → P ts
  side_begins P f g _ _ _ (unguarded w ts rest body d) = f w ts
  side_begins P f g _ _ _ (guarded ts rest guard guards ds) = subst P (sym (seen_is m.Bar ts (guards_begin ts rest guard guards ds))) (g (next_spot ts) (drop 1 ts))

-- ---- `where`
module _ (locals : List Lexeme → Read (List (Local Span))) (Locals : List Lexeme → List (Local Span) → List Lexeme → Type 0) (bound : Exact locals Locals always) where
  where_sound : (ts : List Lexeme) (p : List (Local Span) × List Lexeme) → where_at locals ts ≡ Some p → IsWhere Locals ts p.0 p.1
  unfolding where_at
  where_sound ts p h =
      elim (chosen (sees m.Where ts) _ _ _ h) [
        | inl k ↦ subst (λ z. IsWhere Locals z p.0 p.1) (sym (seen_is m.Where ts k.0)) (a_where (next_spot ts) (drop 1 ts) p.1 p.0 (bound.sound (drop 1 ts) p k.1))
        | inr k ↦ moved (λ z. IsWhere Locals ts z.0 z.1) _ p k.1 (no_where ts)
      ]

  absent_read : (ts : List Lexeme) → sees m.Where ts ≡ false → where_at locals ts ≡ Some ([], ts)
  unfolding where_at
  absent_read ts h = rw h

  present_read : (w : Spot) (ts : List Lexeme) → where_at locals (t.Mark w m.Where ∷ ts) ≡ locals ts
  unfolding where_at
  present_read w ts = rw (same_self m.Where)

  where_complete : (ts : List Lexeme) (all : List (Local Span)) (rest : List Lexeme) → IsWhere Locals ts all rest → ends_clause rest ≡ true → where_at locals ts ≡ Some (all, rest)
  where_complete _ _ _ (no_where ts) s = absent_read ts (clause_no_where ts s)
  where_complete _ _ _ (a_where w ts rest all d) s = present_read w ts ∙ bound.complete ts all rest d refl

  where_shorter : (ts : List Lexeme) (all : List (Local Span)) (rest : List Lexeme) → IsWhere Locals ts all rest → length rest ≤ length ts
  where_shorter _ _ _ (no_where ts) = omega arith
  where_shorter _ _ _ (a_where w ts rest all d) = let h = bound.shorter ts all rest d in omega arith

  pub where_runs : Runs (where_at locals) (IsWhere Locals) ends_clause
  where_runs = record { sound = where_sound; complete = where_complete; shorter = where_shorter }

  -- what may stand before it
  pub where_ends_side : (ts : List Lexeme) (all : List (Local Span)) (rest : List Lexeme) → IsWhere Locals ts all rest → ends_clause rest ≡ true → ends_right_side ts ≡ true
  where_ends_side _ _ _ (no_where ts) s = clause_ends_side ts s
  where_ends_side _ _ _ (a_where w ts rest all d) s = where_ends w ts

-- ---- names
pub variable_is : (ts : List Lexeme) (p : (Spot × List ℕ) × List Lexeme) → variable_at ts ≡ Some p → ts ≡ t.Variable p.0.0 p.0.1 ∷ p.1
variable_is [] p h = absurd (cc)
variable_is (t.Mark w a ∷ ts) p h = absurd (cc)
variable_is (t.Variable w name ∷ ts) p h = ap (λ (q : (Spot × List ℕ) × List Lexeme). t.Variable q.0.0 q.0.1 ∷ q.1) (some_is ((w, name), ts) p h)
variable_is (t.Constructor w name ∷ ts) p h = absurd (cc)
variable_is (t.Operator w name ∷ ts) p h = absurd (cc)
variable_is (t.Number w digits ∷ ts) p h = absurd (cc)

quoted_is : (ts : List Lexeme) (p : List ℕ × List Lexeme) → variable_quoted_at ts ≡ Some p → (v w : Spot) × (ts ≡ t.Variable v p.0 ∷ t.Mark w m.Backquote ∷ p.1)
unfolding variable_quoted_at
quoted_is ts p h =
    let o = bind_some (variable_at ts) _ p h in
    let x = bind_some (after m.Backquote o.0.1) _ p o.2 in
    let q : (o.0.0.1, x.0) ≡ p = some_is _ _ x.2 in
    (o.0.0.0, next_spot o.0.1, variable_is ts o.0 o.1 ∙ ap (λ z. t.Variable o.0.0.0 o.0.0.1 ∷ z) (after_is m.Backquote o.0.1 x.0 x.1) ∙ ap (λ (z : List ℕ × List Lexeme). t.Variable o.0.0.0 z.0 ∷ t.Mark (next_spot o.0.1) m.Backquote ∷ z.1) q)

variable_operator_sound : (ts : List Lexeme) (p : List ℕ × List Lexeme) → variable_operator_at ts ≡ Some p → IsVariableOperator ts p.0 p.1
variable_operator_sound [] p h = absurd (cc)
variable_operator_sound (t.Mark w a ∷ ts) p h =
    elim (chosen (same_mark a m.Backquote) _ _ _ h) [
      | inl k ↦ let o = quoted_is ts p k.1 in
          subst (λ z. IsVariableOperator (t.Mark w z ∷ ts) p.0 p.1) (sym (is_same a m.Backquote k.0))
          (subst (λ z. IsVariableOperator (t.Mark w m.Backquote ∷ z) p.0 p.1) (sym o.2) (a_named_operator w o.0 o.1 p.0 p.1))
      | inr k ↦ absurd (let n : None ≡ Some p = k.1 in cc)
    ]
variable_operator_sound (t.Variable w name ∷ ts) p h = absurd (cc)
variable_operator_sound (t.Constructor w name ∷ ts) p h = absurd (cc)
variable_operator_sound (t.Operator w name ∷ ts) p h = moved (λ z. IsVariableOperator (t.Operator w name ∷ ts) z.0 z.1) _ p h (a_symbol_operator w name ts)
variable_operator_sound (t.Number w digits ∷ ts) p h = absurd (cc)

quoted_read : (v w : Spot) (name : List ℕ) (rest : List Lexeme) → variable_quoted_at (t.Variable v name ∷ t.Mark w m.Backquote ∷ rest) ≡ Some (name, rest)
unfolding variable_quoted_at
quoted_read v w name rest = rw (after_mark m.Backquote w rest)

variable_operator_complete : (ts : List Lexeme) (a : List ℕ) (rest : List Lexeme) → IsVariableOperator ts a rest → variable_operator_at ts ≡ Some (a, rest)
variable_operator_complete _ _ _ (a_symbol_operator w name rest) = refl
variable_operator_complete _ _ _ (a_named_operator u v w name rest) = rw (same_self m.Backquote) (quoted_read v w name rest)

variable_operator_shorter : (ts : List Lexeme) (a : List ℕ) (rest : List Lexeme) → IsVariableOperator ts a rest → length rest < length ts
variable_operator_shorter _ _ _ (a_symbol_operator w name rest) = omega arith
variable_operator_shorter _ _ _ (a_named_operator u v w name rest) = omega arith

-- an operator is not plain, and ends a pattern
pub operator_stands : (ts : List Lexeme) (a : List ℕ) (rest : List Lexeme) → IsVariableOperator ts a rest → (begins_op (beyond ts) ≡ true) × (ends_pattern ts ≡ true)
unfolding same_mark
operator_stands _ _ _ (a_symbol_operator w name rest) = (refl, refl)
operator_stands _ _ _ (a_named_operator u v w name rest) = (refl, refl)

-- ---- left sides
-- `=` or `|`
pub ends_left : (ts : List Lexeme) → ends_left_side ts ≡ true → (begins_op (beyond ts) ≡ false) × (ends_pattern ts ≡ true)
unfolding same_mark
ends_left [] h = absurd (cc)
ends_left (t.Mark w a ∷ ts) h =
    elim (one_of (same_mark a m.Equal) (same_mark a m.Bar) h) [
      | inl k ↦ subst (λ z. (begins_op (beyond (t.Mark w z ∷ ts)) ≡ false) × (ends_pattern (t.Mark w z ∷ ts) ≡ true)) (sym (is_same a m.Equal k)) (refl, refl)
      | inr k ↦ subst (λ z. (begins_op (beyond (t.Mark w z ∷ ts)) ≡ false) × (ends_pattern (t.Mark w z ∷ ts) ≡ true)) (sym (is_same a m.Bar k)) (refl, refl)
    ]
  where
    one_of : (a b : Bool) → (a || b) ≡ true → (a ≡ true) ⊎ (b ≡ true)
    one_of true b h = inl refl
    one_of false b h = inr h
ends_left (t.Variable w name ∷ ts) h = absurd (cc)
ends_left (t.Constructor w name ∷ ts) h = absurd (cc)
ends_left (t.Operator w name ∷ ts) h = absurd (cc)
ends_left (t.Number w digits ∷ ts) h = absurd (cc)

module _ (pattern : List Lexeme → Read (Pat Span)) (Pattern : List Lexeme → Pat Span → List Lexeme → Type 0) (pats_exact : Exact pattern Pattern ends_pattern)
    (plain : (ts : List Lexeme) (pat : Pat Span) (rest : List Lexeme) → Pattern ts pat rest → IsPlainly ts rest)
    (simple : List Lexeme → Read (List (Pat Span))) (Simple : List Lexeme → Pat Span → List Lexeme → Type 0) (simple_runs : Runs simple (IsMany Simple) ends_pattern)
    (simple_beyond : (ts : List Lexeme) (pats : List (Pat Span)) (rest : List Lexeme) → IsMany Simple ts pats rest → beyond ts ≡ beyond rest) where
  left_sound : (ts : List Lexeme) (p : (List ℕ × List (Pat Span)) × List Lexeme) → left_side_at pattern simple ts ≡ Some p → IsLeftSide Pattern Simple ts (p.0.0, p.0.1) p.1
  unfolding left_side_at prefix_at infix_at
  left_sound ts p h =
      elim (chosen (begins_infix ts) _ _ _ h) [
        | inl k ↦ let a = bind_some (pattern ts) _ p k.1 in
            let o = bind_some (variable_operator_at a.0.1) _ p a.2 in
            let c = bind_some (pattern o.0.1) _ p o.2 in
            moved (λ z. IsLeftSide Pattern Simple ts (z.0.0, z.0.1) z.1) _ p c.2
            (an_infix ts a.0.1 o.0.1 c.0.1 o.0.0 a.0.0 c.0.0 (pats_exact.sound ts a.0 a.1) (variable_operator_sound a.0.1 o.0 o.1) (pats_exact.sound o.0.1 c.0 c.1))
        | inr k ↦ let a = bind_some (variable_name_at ts) _ p k.1 in
            let q = bind_some (simple a.0.1) _ p a.2 in
            moved (λ z. IsLeftSide Pattern Simple ts (z.0.0, z.0.1) z.1) _ p q.2
            (a_prefix ts a.0.1 q.0.1 a.0.0.0 a.0.0.1 q.0.0 (name_sound ts a.0 a.1) (simple_runs.sound a.0.1 q.0 q.1))
      ]

  prefix_read : (w : Spot) (ts mid rest : List Lexeme) (name : List ℕ) (pats : List (Pat Span)) → begins_infix ts ≡ false → variable_name_at ts ≡ Some ((w, name), mid) → simple mid ≡ Some (pats, rest)
      → left_side_at pattern simple ts ≡ Some ((name, pats), rest)
  unfolding left_side_at prefix_at
  prefix_read w ts mid rest name pats b h g = rw (b, h, g)

  infix_read : (ts mid next rest : List Lexeme) (name : List ℕ) (left right : Pat Span) → begins_infix ts ≡ true → pattern ts ≡ Some (left, mid) → variable_operator_at mid ≡ Some (name, next) → pattern next ≡ Some (right, rest)
      → left_side_at pattern simple ts ≡ Some ((name, left ∷ right ∷ []), rest)
  unfolding left_side_at infix_at
  infix_read ts mid next rest name left right b h g k = rw (b, h, g, k)

  -- the name of a prefix begins no infix clause
  no_infix : (ts mid rest : List Lexeme) (a : Spot × List ℕ) → IsVariableName ts a mid → beyond mid ≡ beyond rest → begins_op (beyond rest) ≡ false → begins_infix ts ≡ false
  unfolding same_mark
  no_infix _ _ rest _ (a_name w name mid) e b = ap begins_op e ∙ b
  no_infix _ _ rest _ (an_operator_name u v w name mid) e b = refl

  an_infix_begins : (ts mid : List Lexeme) → opens_operator ts ≡ false → beyond ts ≡ beyond mid → begins_op (beyond mid) ≡ true → begins_infix ts ≡ true
  an_infix_begins ts mid o e b = rw (o, e, b)

  left_complete : (ts : List Lexeme) (a : List ℕ × List (Pat Span)) (rest : List Lexeme) → IsLeftSide Pattern Simple ts a rest → ends_left_side rest ≡ true → left_side_at pattern simple ts ≡ Some (a, rest)
  left_complete _ _ _ (a_prefix ts mid rest w name pats d ds) s =
      prefix_read w ts mid rest name pats (no_infix ts mid rest (w, name) d (simple_beyond mid pats rest ds) (ends_left rest s).0) (name_complete ts (w, name) mid d refl) (simple_runs.complete mid pats rest ds (ends_left rest s).1)
  left_complete _ _ _ (an_infix ts mid next rest name left right d o c) s =
      infix_read ts mid next rest name left right (an_infix_begins ts mid (plain ts left mid d).bare (plain ts left mid d).same (operator_stands mid name next o).0)
      (pats_exact.complete ts left mid d (operator_stands mid name next o).1) (variable_operator_complete mid name next o) (pats_exact.complete next right rest c (ends_left rest s).1)

  left_shorter : (ts : List Lexeme) (a : List ℕ × List (Pat Span)) (rest : List Lexeme) → IsLeftSide Pattern Simple ts a rest → length rest < length ts
  left_shorter _ _ _ (a_prefix ts mid rest w name pats d ds) = let h = name_shorter ts (w, name) mid d in let k = simple_runs.shorter mid pats rest ds in omega arith
  left_shorter _ _ _ (an_infix ts mid next rest name left right d o c) = let h = pats_exact.shorter ts left mid d in let k = variable_operator_shorter mid name next o in let l = pats_exact.shorter next right rest c in omega arith

  pub left_exact : Exact (left_side_at pattern simple) (IsLeftSide Pattern Simple) ends_left_side
  left_exact = record { sound = left_sound; complete = left_complete; shorter = left_shorter }

-- ---- clauses
pub side_follows : (inner : List Lexeme → Read (Expr Span)) (Inner : List Lexeme → Expr Span → List Lexeme → Type 0) (exact : Exact inner Inner ends_expression)
    (ts : List Lexeme) (a : Rhs Span) (rest : List Lexeme) → IsRightSide m.Equal Inner ts a rest → ends_left_side ts ≡ true
unfolding same_mark
side_follows inner Inner exact ts a rest d = side_begins m.Equal equal_arrow inner Inner exact (λ z. ends_left_side z ≡ true) (λ w xs. refl) (λ w xs. refl) ts a rest d

module _ (left : List Lexeme → Read (List ℕ × List (Pat Span))) (Left : List Lexeme → List ℕ × List (Pat Span) → List Lexeme → Type 0) (lefts : Exact left Left ends_left_side)
    (inner : List Lexeme → Read (Expr Span)) (Inner : List Lexeme → Expr Span → List Lexeme → Type 0) (exact : Exact inner Inner ends_expression)
    (locals : List Lexeme → Read (List (Local Span))) (Locals : List Lexeme → List (Local Span) → List Lexeme → Type 0) (bound : Exact locals Locals always) where
  clause_sound : (ts : List Lexeme) (p : (List ℕ × Alt Span) × List Lexeme) → clause_at left inner locals ts ≡ Some p → IsClause Left Inner Locals ts (p.0.0, p.0.1) p.1
  unfolding clause_at
  clause_sound ts p h =
      let a = bind_some (left ts) _ p h in
      let c = bind_some (right_side_at m.Equal inner a.0.1) _ p a.2 in
      let d = bind_some (where_at locals c.0.1) _ p c.2 in
      moved (λ z. IsClause Left Inner Locals ts (z.0.0, z.0.1) z.1) _ p d.2
      (a_clause ts a.0.1 c.0.1 d.0.1 a.0.0.0 a.0.0.1 c.0.0 d.0.0 (lefts.sound ts a.0 a.1) ((side_exact m.Equal equal_arrow inner Inner exact).sound a.0.1 c.0 c.1) ((where_runs locals Locals bound).sound c.0.1 d.0 d.1))

  clause_read : (ts mid next rest : List Lexeme) (name : List ℕ) (pats : List (Pat Span)) (rhs : Rhs Span) (wheres : List (Local Span)) → left ts ≡ Some ((name, pats), mid) → right_side_at m.Equal inner mid ≡ Some (rhs, next)
      → where_at locals next ≡ Some (wheres, rest) → clause_at left inner locals ts ≡ Some ((name, record { at = span_of ts rest; pats = pats; rhs = rhs; wheres = wheres }), rest)
  unfolding clause_at
  clause_read ts mid next rest name pats rhs wheres h g k = rw (h, g, k)

  clause_complete : (ts : List Lexeme) (a : List ℕ × Alt Span) (rest : List Lexeme) → IsClause Left Inner Locals ts a rest → ends_clause rest ≡ true → clause_at left inner locals ts ≡ Some (a, rest)
  clause_complete _ _ _ (a_clause ts mid next rest name pats rhs wheres d i w) s =
      clause_read ts mid next rest name pats rhs wheres (lefts.complete ts (name, pats) mid d (side_follows inner Inner exact mid rhs next i))
      ((side_exact m.Equal equal_arrow inner Inner exact).complete mid rhs next i (where_ends_side locals Locals bound next wheres rest w s)) ((where_runs locals Locals bound).complete next wheres rest w s)

  clause_shorter : (ts : List Lexeme) (a : List ℕ × Alt Span) (rest : List Lexeme) → IsClause Left Inner Locals ts a rest → length rest < length ts
  clause_shorter _ _ _ (a_clause ts mid next rest name pats rhs wheres d i w) =
      let h = lefts.shorter ts (name, pats) mid d in let k = (side_exact m.Equal equal_arrow inner Inner exact).shorter mid rhs next i in let l = (where_runs locals Locals bound).shorter next wheres rest w in omega arith

  pub clause_exact : Exact (clause_at left inner locals) (IsClause Left Inner Locals) ends_clause
  clause_exact = record { sound = clause_sound; complete = clause_complete; shorter = clause_shorter }

-- ---- alternatives
alternative_follows : (inner : List Lexeme → Read (Expr Span)) (Inner : List Lexeme → Expr Span → List Lexeme → Type 0) (exact : Exact inner Inner ends_expression)
    (ts : List Lexeme) (a : Rhs Span) (rest : List Lexeme) → IsRightSide m.Arrow Inner ts a rest → ends_pattern ts ≡ true
unfolding same_mark
alternative_follows inner Inner exact ts a rest d = side_begins m.Arrow arrow_arrow inner Inner exact (λ z. ends_pattern z ≡ true) (λ w xs. refl) (λ w xs. refl) ts a rest d

module _ (pattern : List Lexeme → Read (Pat Span)) (Pattern : List Lexeme → Pat Span → List Lexeme → Type 0) (pats_exact : Exact pattern Pattern ends_pattern)
    (plain : (ts : List Lexeme) (pat : Pat Span) (rest : List Lexeme) → Pattern ts pat rest → IsPlainly ts rest)
    (inner : List Lexeme → Read (Expr Span)) (Inner : List Lexeme → Expr Span → List Lexeme → Type 0) (exact : Exact inner Inner ends_expression) where
  alternative_sound : (ts : List Lexeme) (p : Alt Span × List Lexeme) → alternative_at pattern inner ts ≡ Some p → IsAlternative Pattern Inner ts p.0 p.1
  unfolding alternative_at
  alternative_sound ts p h =
      let a = bind_some (pattern ts) _ p h in
      let c = bind_some (right_side_at m.Arrow inner a.0.1) _ p a.2 in
      moved (λ z. IsAlternative Pattern Inner ts z.0 z.1) _ p c.2 (an_alternative ts a.0.1 c.0.1 a.0.0 c.0.0 (pats_exact.sound ts a.0 a.1) ((side_exact m.Arrow arrow_arrow inner Inner exact).sound a.0.1 c.0 c.1))

  alternative_read : (ts mid rest : List Lexeme) (pat : Pat Span) (rhs : Rhs Span) → pattern ts ≡ Some (pat, mid) → right_side_at m.Arrow inner mid ≡ Some (rhs, rest)
      → alternative_at pattern inner ts ≡ Some (record { at = span_of ts rest; pats = pat ∷ []; rhs = rhs; wheres = [] }, rest)
  unfolding alternative_at
  alternative_read ts mid rest pat rhs h g = rw (h, g)

  alternative_complete : (ts : List Lexeme) (a : Alt Span) (rest : List Lexeme) → IsAlternative Pattern Inner ts a rest → ends_right_side rest ≡ true → alternative_at pattern inner ts ≡ Some (a, rest)
  alternative_complete _ _ _ (an_alternative ts mid rest pat rhs d i) s =
      alternative_read ts mid rest pat rhs (pats_exact.complete ts pat mid d (alternative_follows inner Inner exact mid rhs rest i)) ((side_exact m.Arrow arrow_arrow inner Inner exact).complete mid rhs rest i s)

  alternative_shorter : (ts : List Lexeme) (a : Alt Span) (rest : List Lexeme) → IsAlternative Pattern Inner ts a rest → length rest < length ts
  alternative_shorter _ _ _ (an_alternative ts mid rest pat rhs d i) = let h = pats_exact.shorter ts pat mid d in let k = (side_exact m.Arrow arrow_arrow inner Inner exact).shorter mid rhs rest i in omega arith

  alternative_begins : (ts : List Lexeme) (a : Alt Span) (rest : List Lexeme) → IsAlternative Pattern Inner ts a rest → (sees m.ClosesBlock ts ≡ false) × (sees m.Semicolon ts ≡ false)
  alternative_begins _ _ _ (an_alternative ts mid rest pat rhs d i) = let b = apat_is ts (plain ts pat mid d).begins in (b.no_block_end, b.no_semicolon)

  block_closes : (w : Spot) (rest : List Lexeme) → ends_right_side (t.Mark w m.ClosesBlock ∷ rest) ≡ true
  unfolding same_mark
  block_closes w rest = refl

  block_goes : (w : Spot) (rest : List Lexeme) → ends_right_side (t.Mark w m.Semicolon ∷ rest) ≡ true
  unfolding same_mark
  block_goes w rest = refl

  alternatives_block : Exact (block_at (alternative_at pattern inner)) (IsBlock (IsAlternative Pattern Inner)) always
  alternatives_block = block_exact (alternative_at pattern inner) (IsAlternative Pattern Inner) ends_right_side (record { sound = alternative_sound; complete = alternative_complete; shorter = alternative_shorter }) alternative_begins block_closes block_goes

  alternatives_sound : (ts : List Lexeme) (p : List (Alt Span) × List Lexeme) → alternatives_at (alternative_at pattern inner) ts ≡ Some p → IsAlternatives (IsAlternative Pattern Inner) ts p.0 p.1
  unfolding alternatives_at
  alternatives_sound ts p h =
      let a = bind_some (block_at (alternative_at pattern inner) ts) _ p h in
      elim (chosen (is_some a.0.0) _ _ _ a.2) [
        | inl c ↦ moved (λ z. IsAlternatives (IsAlternative Pattern Inner) ts z.0 z.1) _ p c.1
            (some_parts (λ xs. IsBlock (IsAlternative Pattern Inner) ts xs a.0.1 → IsAlternatives (IsAlternative Pattern Inner) ts xs a.0.1) a.0.0 c.0 (λ x others d. alternatives ts a.0.1 x others d) (alternatives_block.sound ts a.0 a.1))
        | inr c ↦ absurd (let n : None ≡ Some p = c.1 in cc)
      ]

  alternatives_read : (ts rest : List Lexeme) (a : Alt Span) (others : List (Alt Span)) → block_at (alternative_at pattern inner) ts ≡ Some (a ∷ others, rest) → alternatives_at (alternative_at pattern inner) ts ≡ Some (a ∷ others, rest)
  unfolding alternatives_at
  alternatives_read ts rest a others h = rw h

  alternatives_complete : (ts : List Lexeme) (xs : List (Alt Span)) (rest : List Lexeme) → IsAlternatives (IsAlternative Pattern Inner) ts xs rest → always rest ≡ true → alternatives_at (alternative_at pattern inner) ts ≡ Some (xs, rest)
  alternatives_complete _ _ _ (alternatives ts rest a others d) s = alternatives_read ts rest a others (alternatives_block.complete ts (a ∷ others) rest d refl)

  alternatives_shorter : (ts : List Lexeme) (xs : List (Alt Span)) (rest : List Lexeme) → IsAlternatives (IsAlternative Pattern Inner) ts xs rest → length rest < length ts
  alternatives_shorter _ _ _ (alternatives ts rest a others d) = alternatives_block.shorter ts (a ∷ others) rest d

  pub alternatives_exact : Exact (alternatives_at (alternative_at pattern inner)) (IsAlternatives (IsAlternative Pattern Inner)) always
  alternatives_exact = record { sound = alternatives_sound; complete = alternatives_complete; shorter = alternatives_shorter }
