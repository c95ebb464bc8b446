-- Readers of expressions that agree on short lists make readers that agree on lists one longer, and so do those of what stands in expressions.
use Rattle.std.proofs.Common.{ℕ, zero, suc, ◌-◌, ◌≤◌, List, [], ◌∷◌, length, drop, refl, arith}
use Rattle.rw_base.specs.declared.place.Span.{Span}
use Rattle.rw_tree.specs.declared.types.Written.{Written}
use Rattle.rw_tree.specs.declared.pattern.Pat.{Pat}
use Rattle.rw_tree.specs.declared.expr.Expr.{Expr}
use Rattle.rw_tree.specs.declared.clause.Alt.{Alt}
use Rattle.rw_tree.specs.declared.clause.Local.{Local}
use Rattle.rw_tree.specs.declared.clause.Stmt.{Stmt}
use Rattle.rw_parser_grammar.specs.declared.item.Bound.{Bound}
use Rattle.rw_parser_grammar.specs.declared.lexeme.Mark.{Mark}
use Rattle.rw_parser_grammar.specs.declared.lexeme.Mark.TheVariants as m
use Rattle.rw_parser_grammar.specs.declared.lexeme.Spot.{Spot}
use Rattle.rw_parser_grammar.specs.declared.lexeme.Lexeme.{Lexeme}
use Rattle.rw_parser_grammar.specs.declared.lexeme.Lexeme.TheVariants as t
use Rattle.rw_parser_grammar.specs.Types.{few}
use Rattle.rw_parser_grammar.specs.Clauses.{may_be_local, ends_in_run}
use Rattle.rw_parser_reading.specs.Read.{Read, same_mark, sees, after, separated_at, block_at, variable_at, operator_at, begins_operator}
use Rattle.rw_parser_reading.specs.ReadTypes.{begins_apat, apats_at}
use Rattle.rw_parser_reading.specs.ReadNames.{begins_op, op_at}
use Rattle.rw_parser_reading.specs.ReadExpressions.{begins_aexp, operator_group_at, some_expressions_at, group_at, aexp_at, aexps_at, application_at, case_at, do_at, operand_at, lambda_at, let_at, if_at, begins_last, closing_at, chain_at, expression_over_at}
use Rattle.rw_parser_reading.specs.ReadClauses.{is_some, guard_at, guards_at, right_side_at, where_at, variable_name_at, variable_quoted_at, variable_operator_at, begins_infix, prefix_at, infix_at, left_side_at, clause_at, alternative_at, alternatives_at}
use Rattle.rw_parser_reading.specs.ReadClauses.{begins_signature, binding_group_at, binding_built_at, binding_at, local_signature_at, local_clause_at, local_pattern_at, local_at, locals_over_at, begins_bind, bind_at, let_statement_at, run_at, statement_at, statements_at}
use Rattle.rw_parser_reading.proofs.ReadNames.{op_exact, name_exact}
use Rattle.rw_parser_reading.proofs.Alike.{Alike, alike_none, alike_some, alike_if, alike_bind, left, Agree, Pass, drop_shorter, drop_fits, alike_after, exact_alike, separated_alike, many_alike, block_alike}

-- ---- names
operator_alike : (ts : List Lexeme) → Alike left (length ts) (operator_at ts) (operator_at ts)
operator_alike [] = alike_none
operator_alike (t.Mark w a ∷ ts) = alike_none
operator_alike (t.Variable w name ∷ ts) = alike_none
operator_alike (t.Constructor w name ∷ ts) = alike_none
operator_alike (t.Operator w name ∷ ts) = alike_some _ (omega arith)
operator_alike (t.Number w digits ∷ ts) = alike_none

variable_alike : (ts : List Lexeme) → Alike left (length ts) (variable_at ts) (variable_at ts)
variable_alike [] = alike_none
variable_alike (t.Mark w a ∷ ts) = alike_none
variable_alike (t.Variable w name ∷ ts) = alike_some _ (omega arith)
variable_alike (t.Constructor w name ∷ ts) = alike_none
variable_alike (t.Operator w name ∷ ts) = alike_none
variable_alike (t.Number w digits ∷ ts) = alike_none

variable_quoted_alike : (ts : List Lexeme) → Alike left (length ts) (variable_quoted_at ts) (variable_quoted_at ts)
unfolding variable_quoted_at
variable_quoted_alike ts =
    alike_bind (variable_at ts) (variable_at ts) _ _ (variable_alike ts) (λ v i. alike_bind (after m.Backquote v.1) (after m.Backquote v.1) _ _ (alike_after m.Backquote v.1) (λ x j. alike_some _ (omega arith)))

variable_operator_alike : (ts : List Lexeme) → Alike left (length ts) (variable_operator_at ts) (variable_operator_at ts)
variable_operator_alike [] = alike_none
variable_operator_alike (t.Mark w a ∷ ts) =
    alike_if (same_mark a m.Backquote) _ _ _ _ (let r = variable_quoted_alike ts in record { same = refl; less = λ p e. let i = r.less p e in omega arith }) alike_none
variable_operator_alike (t.Variable w name ∷ ts) = alike_none
variable_operator_alike (t.Constructor w name ∷ ts) = alike_none
variable_operator_alike (t.Operator w name ∷ ts) = alike_some _ (omega arith)
variable_operator_alike (t.Number w digits ∷ ts) = alike_none

-- ---- expressions
module _ (k : ℕ) (f g : List Lexeme → Read (Expr Span)) (agree : Agree k f g) where
  operator_group_alike : Pass k (operator_group_at f) (operator_group_at g)
  unfolding operator_group_at
  operator_group_alike ts h =
      alike_bind (operator_at ts) (operator_at ts) _ _ (operator_alike ts) (λ p i. alike_bind (after m.Closes p.1) (after m.Closes p.1) _ _ (alike_after m.Closes p.1) (λ r j. alike_some _ (omega arith)))

  some_expressions_alike : (v : Spot) → Pass k (some_expressions_at f v) (some_expressions_at g v)
  unfolding some_expressions_at
  some_expressions_alike v ts h =
      alike_bind (separated_at m.Comma f (length ts) ts) (separated_at m.Comma g (length ts) ts) _ _ (separated_alike k f g agree m.Comma (length ts) ts h)
      (λ p i. alike_bind (after m.Closes p.1) (after m.Closes p.1) _ _ (alike_after m.Closes p.1) (λ r j. alike_if (few p.0) _ _ _ _ (alike_some _ (omega arith)) alike_none))

  group_alike : (v : Spot) → Pass k (group_at f v) (group_at g v)
  unfolding group_at
  group_alike v ts h =
      let d = drop_shorter ts in
      alike_if (sees m.Closes ts) _ _ _ _ (alike_some _ (omega arith)) (alike_if (begins_operator ts) _ _ _ _ (operator_group_alike ts h) (some_expressions_alike v ts h))

  pub aexp_alike : Agree (suc k) (aexp_at f) (aexp_at g)
  aexp_alike [] h = alike_none
  aexp_alike (t.Mark w a ∷ ts) h = alike_if (same_mark a m.Opens) _ _ _ _ (group_alike w ts (omega arith)) alike_none
  aexp_alike (t.Variable w name ∷ ts) h = alike_some _ (omega arith)
  aexp_alike (t.Constructor w name ∷ ts) h = alike_some _ (omega arith)
  aexp_alike (t.Operator w name ∷ ts) h = alike_none
  aexp_alike (t.Number w digits ∷ ts) h = alike_none

  pub aexps_alike : Pass (suc k) (aexps_at f) (aexps_at g)
  unfolding aexps_at
  aexps_alike ts h = many_alike (suc k) (aexp_at f) (aexp_at g) aexp_alike begins_aexp (length ts) ts h

  pub application_alike : Agree (suc k) (application_at f) (application_at g)
  unfolding application_at
  application_alike ts h =
      alike_bind (aexp_at f ts) (aexp_at g ts) _ _ (aexp_alike ts h) (λ p i. alike_bind (aexps_at f p.1) (aexps_at g p.1) _ _ (aexps_alike p.1 (omega arith)) (λ q j. alike_some _ (omega arith)))

  module _ (a b : List Lexeme → Read (List (Alt Span))) (alternatives : Agree k a b) (u v : List Lexeme → Read (List (Stmt Span))) (statements : Agree k u v) where
    case_alike : Agree (suc k) (case_at f a u) (case_at g b v)
    unfolding case_at
    case_alike ts h =
        let d = drop_shorter ts in
        let c = drop_fits k ts h in
        alike_bind (f (drop 1 ts)) (g (drop 1 ts)) _ _ (agree (drop 1 ts) c)
        (λ p i. alike_bind (after m.Of p.1) (after m.Of p.1) _ _ (alike_after m.Of p.1) (λ r j. alike_bind (a r) (b r) _ _ (alternatives r (omega arith)) (λ q l. alike_some _ (omega arith))))

    do_alike : Agree (suc k) (do_at f a u) (do_at g b v)
    unfolding do_at
    do_alike ts h =
        let d = drop_shorter ts in
        let c = drop_fits k ts h in
        alike_bind (u (drop 1 ts)) (v (drop 1 ts)) _ _ (statements (drop 1 ts) c) (λ p i. alike_some _ (omega arith))

    pub operand_alike : Agree (suc k) (operand_at f a u) (operand_at g b v)
    unfolding operand_at
    operand_alike ts h = alike_if (sees m.Case ts) _ _ _ _ (case_alike ts h) (alike_if (sees m.Do ts) _ _ _ _ (do_alike ts h) (application_alike ts h))

  module _ (p q : List Lexeme → Read (Pat Span)) (patterns : Pass k (apats_at p) (apats_at q)) (u v : List Lexeme → Read (List (Local Span))) (locals : Agree k u v) where
    lambda_alike : Agree (suc k) (lambda_at p f u) (lambda_at q g v)
    unfolding lambda_at
    lambda_alike ts h =
        let d = drop_shorter ts in
        let c = drop_fits k ts h in
        alike_bind (apats_at p (drop 1 ts)) (apats_at q (drop 1 ts)) _ _ (patterns (drop 1 ts) c)
        (λ x i. alike_bind (after m.Arrow x.1) (after m.Arrow x.1) _ _ (alike_after m.Arrow x.1)
        (λ r j. alike_bind (f r) (g r) _ _ (agree r (omega arith)) (λ y l. alike_if (begins_apat (drop 1 ts)) _ _ _ _ (alike_some _ (omega arith)) alike_none)))

    let_alike : Agree (suc k) (let_at p f u) (let_at q g v)
    unfolding let_at
    let_alike ts h =
        let d = drop_shorter ts in
        let c = drop_fits k ts h in
        alike_bind (u (drop 1 ts)) (v (drop 1 ts)) _ _ (locals (drop 1 ts) c)
        (λ x i. alike_bind (after m.In x.1) (after m.In x.1) _ _ (alike_after m.In x.1) (λ r j. alike_bind (f r) (g r) _ _ (agree r (omega arith)) (λ y l. alike_some _ (omega arith))))

    if_alike : Agree (suc k) (if_at p f u) (if_at q g v)
    unfolding if_at
    if_alike ts h =
        let d = drop_shorter ts in
        let c = drop_fits k ts h in
        alike_bind (f (drop 1 ts)) (g (drop 1 ts)) _ _ (agree (drop 1 ts) c)
        (λ x i. alike_bind (after m.Then x.1) (after m.Then x.1) _ _ (alike_after m.Then x.1)
        (λ r j. alike_bind (f r) (g r) _ _ (agree r (omega arith))
        (λ y l. alike_bind (after m.Else y.1) (after m.Else y.1) _ _ (alike_after m.Else y.1) (λ s n. alike_bind (f s) (g s) _ _ (agree s (omega arith)) (λ z o. alike_some _ (omega arith))))))

    pub closing_alike : Agree (suc k) (closing_at p f u) (closing_at q g v)
    unfolding closing_at
    closing_alike ts h = alike_if (sees m.Backslash ts) _ _ _ _ (lambda_alike ts h) (alike_if (sees m.Let ts) _ _ _ _ (let_alike ts h) (if_alike ts h))

module _ (k : ℕ) (f g : List Lexeme → Read (Expr Span)) (operands : Agree k f g) (c d : List Lexeme → Read (Expr Span)) (closings : Agree k c d) where
  chain_alike : (n : ℕ) (ts : List Lexeme) → length ts ≤ k → Alike left (length ts) (chain_at f c n ts) (chain_at g d n ts)
  unfolding chain_at
  chain_alike zero ts h = alike_none
  chain_alike (suc n) ts h =
      alike_if (begins_last ts) _ _ _ _ (alike_bind (c ts) (d ts) _ _ (closings ts h) (λ p i. alike_some _ (omega arith)))
      (alike_bind (f ts) (g ts) _ _ (operands ts h)
      (λ p i. alike_if (begins_op p.1) _ _ _ _
      (alike_bind (op_at p.1) (op_at p.1) _ _ (exact_alike op_exact p.1) (λ o j. alike_bind (chain_at f c n o.1) (chain_at g d n o.1) _ _ (chain_alike n o.1 (omega arith)) (λ q l. alike_some _ (omega arith))))
      (alike_some _ (omega arith))))

  pub expression_over_alike : Agree k (expression_over_at f c) (expression_over_at g d)
  unfolding expression_over_at
  expression_over_alike ts h = alike_bind (chain_at f c (length ts) ts) (chain_at g d (length ts) ts) _ _ (chain_alike (length ts) ts h) (λ p i. alike_some _ (omega arith))

-- ---- right sides
module _ (k : ℕ) (f g : List Lexeme → Read (Expr Span)) (agree : Agree k f g) where
  guard_alike : (arrow : Mark) → Agree (suc k) (guard_at arrow f) (guard_at arrow g)
  unfolding guard_at
  guard_alike arrow ts h =
      alike_bind (after m.Bar ts) (after m.Bar ts) _ _ (alike_after m.Bar ts)
      (λ x i. alike_bind (f x) (g x) _ _ (agree x (omega arith))
      (λ a j. alike_bind (after arrow a.1) (after arrow a.1) _ _ (alike_after arrow a.1) (λ y l. alike_bind (f y) (g y) _ _ (agree y (omega arith)) (λ c n. alike_some _ (omega arith)))))

  guards_alike : (arrow : Mark) → Pass (suc k) (guards_at arrow f) (guards_at arrow g)
  unfolding guards_at
  guards_alike arrow ts h = many_alike (suc k) (guard_at arrow f) (guard_at arrow g) (guard_alike arrow) (sees m.Bar) (length ts) ts h

  pub right_side_alike : (arrow : Mark) → Pass (suc k) (right_side_at arrow f) (right_side_at arrow g)
  unfolding right_side_at
  right_side_alike arrow ts h =
      alike_if (sees m.Bar ts) _ _ _ _ (alike_bind (guards_at arrow f ts) (guards_at arrow g ts) _ _ (guards_alike arrow ts h) (λ x i. alike_if (is_some x.0) _ _ _ _ (alike_some _ (omega arith)) alike_none))
      (alike_bind (after arrow ts) (after arrow ts) _ _ (alike_after arrow ts) (λ x i. alike_bind (f x) (g x) _ _ (agree x (omega arith)) (λ a j. alike_some _ (omega arith))))

pub where_alike : (k : ℕ) (f g : List Lexeme → Read (List (Local Span))) → Agree k f g → Pass (suc k) (where_at f) (where_at g)
unfolding where_at
where_alike k f g agree ts h =
    let d = drop_shorter ts in
    let c = drop_fits k ts h in
    alike_if (sees m.Where ts) _ _ _ _ (let r = agree (drop 1 ts) c in record { same = r.same; less = λ p e. let i = r.less p e in omega arith }) (alike_some _ (omega arith))

-- ---- left sides, clauses and alternatives
module _ (k : ℕ) (p q : List Lexeme → Read (Pat Span)) (patterns : Agree k p q) (s r : List Lexeme → Read (List (Pat Span))) (simple : Pass k s r) where
  prefix_alike : Agree k (prefix_at p s) (prefix_at q r)
  unfolding prefix_at
  prefix_alike ts h =
      alike_bind (variable_name_at ts) (variable_name_at ts) _ _ (exact_alike name_exact ts) (λ a i. alike_bind (s a.1) (r a.1) _ _ (simple a.1 (omega arith)) (λ x j. alike_some _ (omega arith)))

  infix_alike : Agree k (infix_at p s) (infix_at q r)
  unfolding infix_at
  infix_alike ts h =
      alike_bind (p ts) (q ts) _ _ (patterns ts h)
      (λ a i. alike_bind (variable_operator_at a.1) (variable_operator_at a.1) _ _ (variable_operator_alike a.1)
      (λ o j. alike_bind (p o.1) (q o.1) _ _ (patterns o.1 (omega arith)) (λ c l. alike_some _ (omega arith))))

  pub left_side_alike : Agree k (left_side_at p s) (left_side_at q r)
  unfolding left_side_at
  left_side_alike ts h = alike_if (begins_infix ts) _ _ _ _ (infix_alike ts h) (prefix_alike ts h)

  binding_group_alike : (v : Spot) → Pass k (binding_group_at p s v) (binding_group_at q r v)
  unfolding binding_group_at
  binding_group_alike v ts h =
      alike_bind (separated_at m.Comma p (length ts) ts) (separated_at m.Comma q (length ts) ts) _ _ (separated_alike k p q patterns m.Comma (length ts) ts h)
      (λ a i. alike_bind (after m.Closes a.1) (after m.Closes a.1) _ _ (alike_after m.Closes a.1) (λ x j. alike_if _ _ _ _ _ (alike_some _ (omega arith)) alike_none))

  binding_built_alike : (w : Spot) (name : List ℕ) → Pass k (binding_built_at p s w name) (binding_built_at q r w name)
  unfolding binding_built_at
  binding_built_alike w name ts h = alike_bind (s ts) (r ts) _ _ (simple ts h) (λ x i. alike_some _ (omega arith))

  pub binding_alike : Agree (suc k) (binding_at p s) (binding_at q r)
  binding_alike [] h = alike_none
  binding_alike (t.Mark w a ∷ ts) h = alike_if (same_mark a m.Opens) _ _ _ _ (binding_group_alike w ts (omega arith)) alike_none
  binding_alike (t.Variable w name ∷ ts) h = alike_none
  binding_alike (t.Constructor w name ∷ ts) h = binding_built_alike w name ts (omega arith)
  binding_alike (t.Operator w name ∷ ts) h = alike_none
  binding_alike (t.Number w digits ∷ ts) h = alike_none

module _ (k : ℕ) (f g : List Lexeme → Read (Expr Span)) (agree : Agree k f g) (u v : List Lexeme → Read (List (Local Span))) (locals : Agree k u v) where
  pub clause_alike : (a b : List Lexeme → Read (List ℕ × List (Pat Span))) → Agree k a b → Agree k (clause_at a f u) (clause_at b g v)
  unfolding clause_at
  clause_alike a b lefts ts h =
      alike_bind (a ts) (b ts) _ _ (lefts ts h)
      (λ x i. alike_bind (right_side_at m.Equal f x.1) (right_side_at m.Equal g x.1) _ _ (right_side_alike k f g agree m.Equal x.1 (omega arith))
      (λ c j. alike_bind (where_at u c.1) (where_at v c.1) _ _ (where_alike k u v locals c.1 (omega arith)) (λ d l. alike_some _ (omega arith))))

  -- ---- local declarations
  module _ (a b : List Lexeme → Read (Pat Span)) (bindings : Agree k a b) (c d : List Lexeme → Read Written) (signatures : Agree k c d) (x y : List Lexeme → Read (List ℕ × Alt Span)) (clauses : Agree k x y) where
    local_signature_alike : Agree k (local_signature_at a c x f u) (local_signature_at b d y g v)
    unfolding local_signature_at
    local_signature_alike ts h =
        alike_bind (variable_at ts) (variable_at ts) _ _ (variable_alike ts)
        (λ n i. alike_bind (after m.Colons n.1) (after m.Colons n.1) _ _ (alike_after m.Colons n.1) (λ r j. alike_bind (c r) (d r) _ _ (signatures r (omega arith)) (λ o l. alike_some _ (omega arith))))

    local_clause_alike : Agree k (local_clause_at a c x f u) (local_clause_at b d y g v)
    unfolding local_clause_at
    local_clause_alike ts h = alike_bind (x ts) (y ts) _ _ (clauses ts h) (λ n i. alike_if (may_be_local n.0.0) _ _ _ _ (alike_some _ (omega arith)) alike_none)

    local_pattern_alike : Agree k (local_pattern_at a c x f u) (local_pattern_at b d y g v)
    unfolding local_pattern_at
    local_pattern_alike ts h =
        alike_bind (a ts) (b ts) _ _ (bindings ts h)
        (λ n i. alike_bind (right_side_at m.Equal f n.1) (right_side_at m.Equal g n.1) _ _ (right_side_alike k f g agree m.Equal n.1 (omega arith))
        (λ o j. alike_bind (where_at u o.1) (where_at v o.1) _ _ (where_alike k u v locals o.1 (omega arith)) (λ r l. alike_some _ (omega arith))))

    pub local_alike : Agree k (local_at a c x f u) (local_at b d y g v)
    unfolding local_at
    local_alike ts h = alike_if (begins_signature ts) _ _ _ _ (local_signature_alike ts h) (alike_if _ _ _ _ _ (local_pattern_alike ts h) (local_clause_alike ts h))

  -- ---- alternatives
  module _ (p q : List Lexeme → Read (Pat Span)) (patterns : Agree k p q) where
    alternative_alike : Agree k (alternative_at p f) (alternative_at q g)
    unfolding alternative_at
    alternative_alike ts h =
        alike_bind (p ts) (q ts) _ _ (patterns ts h)
        (λ a i. alike_bind (right_side_at m.Arrow f a.1) (right_side_at m.Arrow g a.1) _ _ (right_side_alike k f g agree m.Arrow a.1 (omega arith)) (λ c j. alike_some _ (omega arith)))

    pub alternatives_alike : Agree k (alternatives_at (alternative_at p f)) (alternatives_at (alternative_at q g))
    unfolding alternatives_at
    alternatives_alike ts h =
        alike_bind (block_at (alternative_at p f) ts) (block_at (alternative_at q g) ts) _ _ (block_alike k (alternative_at p f) (alternative_at q g) alternative_alike ts (omega arith))
        (λ a i. alike_if (is_some a.0) _ _ _ _ (alike_some _ (omega arith)) alike_none)

pub locals_over_alike : (k : ℕ) (f g : List Lexeme → Read Bound) → Agree k f g → Agree (suc k) (locals_over_at f) (locals_over_at g)
unfolding locals_over_at
locals_over_alike k f g agree ts h = alike_bind (block_at f ts) (block_at g ts) _ _ (block_alike k f g agree ts h) (λ a i. alike_some _ (omega arith))

-- ---- statements
module _ (k : ℕ) (p q : List Lexeme → Read (Pat Span)) (patterns : Agree k p q) (f g : List Lexeme → Read (Expr Span)) (agree : Agree k f g)
    (u v : List Lexeme → Read (List (Local Span))) (locals : Agree (k - 1) u v) (a b : List Lexeme → Read (Expr Span)) (below : Agree (k - 1) a b) where
  bind_alike : Agree k (bind_at p f u a) (bind_at q g v b)
  unfolding bind_at
  bind_alike ts h =
      alike_bind (p ts) (q ts) _ _ (patterns ts h)
      (λ x i. alike_bind (after m.FromArrow x.1) (after m.FromArrow x.1) _ _ (alike_after m.FromArrow x.1) (λ r j. alike_bind (f r) (g r) _ _ (agree r (omega arith)) (λ c l. alike_some _ (omega arith))))

  let_statement_alike : Agree k (let_statement_at p f u a) (let_statement_at q g v b)
  unfolding let_statement_at
  let_statement_alike ts h =
      let d = drop_shorter ts in
      let c = drop_fits (k - 1) ts (omega arith) in
      alike_bind (u (drop 1 ts)) (v (drop 1 ts)) _ _ (locals (drop 1 ts) c)
      (λ x i. let e = drop_shorter x.1 in
      alike_if (sees m.In x.1) _ _ _ _ (alike_bind (a (drop 1 x.1)) (b (drop 1 x.1)) _ _ (below (drop 1 x.1) (omega arith)) (λ y j. alike_some _ (omega arith))) (alike_some _ (omega arith)))

  run_alike : Agree k (run_at p f u a) (run_at q g v b)
  unfolding run_at
  run_alike ts h = alike_bind (f ts) (g ts) _ _ (agree ts h) (λ x i. alike_some _ (omega arith))

  statement_alike : Agree k (statement_at p f u a) (statement_at q g v b)
  unfolding statement_at
  statement_alike ts h = alike_if (begins_bind ts) _ _ _ _ (bind_alike ts h) (alike_if (sees m.Let ts) _ _ _ _ (let_statement_alike ts h) (run_alike ts h))

  pub statements_alike : Agree k (statements_at (statement_at p f u a)) (statements_at (statement_at q g v b))
  unfolding statements_at
  statements_alike ts h =
      alike_bind (block_at (statement_at p f u a) ts) (block_at (statement_at q g v b) ts) _ _ (block_alike k (statement_at p f u a) (statement_at q g v b) statement_alike ts (omega arith))
      (λ x i. alike_if (ends_in_run x.0) _ _ _ _ (alike_some _ (omega arith)) alike_none)
