-- The plain form of each variant of each tree, for proofs about trees here and in the crates above.
use Rattle.std.proofs.Common.{◌≡◌, ◌∙◌, ℕ, sym, ap, List, map}
use Rattle.rw_tree.specs.declared.types.Written.{Written}
use Rattle.rw_tree.specs.declared.types.Written.TheVariants as type
use Rattle.rw_tree.specs.declared.types.Written.TheOpen.{Written-F}
use Rattle.rw_tree.specs.declared.types.Written.TheFolds.{fold-roll-Written}
use Rattle.rw_tree.specs.declared.pattern.Pat.{Pat}
use Rattle.rw_tree.specs.declared.pattern.Pat.TheVariants as pat
use Rattle.rw_tree.specs.declared.pattern.Pat.TheOpen.{Pat-F}
use Rattle.rw_tree.specs.declared.pattern.Pat.TheFolds.{fold-roll-Pat}
use Rattle.rw_tree.specs.declared.expr.Expr.{Expr}
use Rattle.rw_tree.specs.declared.expr.Expr.TheVariants as expr
use Rattle.rw_tree.specs.declared.clause.Local.{Local}
use Rattle.rw_tree.specs.declared.clause.Local.TheVariants as local
use Rattle.rw_tree.specs.declared.clause.Local.TheOpen.{Local-F, Rhs-F, Stmt-F, Expr-F}
use Rattle.rw_tree.specs.declared.clause.Local.TheFolds.{fold-roll-Local, fold-roll-Rhs, fold-roll-Stmt, fold-roll-Expr, fold_out-Alt, fold_out-Guard}
use Rattle.rw_tree.specs.declared.clause.Alt.{Alt}
use Rattle.rw_tree.specs.declared.clause.Guard.{Guard}
use Rattle.rw_tree.specs.declared.clause.Rhs.TheVariants as rhs
use Rattle.rw_tree.specs.declared.clause.Stmt.{Stmt}
use Rattle.rw_tree.specs.declared.clause.Stmt.TheVariants as stmt
use Rattle.rw_tree.specs.Types.{WrittenType, variable_type, constructor_type, applied_type, function_type, tuple_type, type_parts, written_step, written, writtens}
use Rattle.rw_tree.specs.Patterns.{Pattern, wildcard, variable_pattern, constructor_pattern, tuple_pattern, pattern_parts, pattern_step, pattern, patterns}
use Rattle.rw_tree.specs.Trees as tree
use Rattle.rw_tree.specs.Trees.{Expression, Alternative, RightSide, GuardedBody, LocalBinding, Statement, expression, alternative_of, right_side, guarded, local_binding, statement, local_step, rhs_step, stmt_step, expr_step, alt_step, guard_step, expression_parts, alternative_parts, body_parts, binding_parts, statement_parts}

pub written-Var : (n : List ℕ) → written (type.Var n) ≡ variable_type n
written-Var n = ap written (sym (type.rolls-Var n)) ∙ fold-roll-Written WrittenType written_step (Written-F.Var n)

pub written-Con : (n : List ℕ) → written (type.Con n) ≡ constructor_type n
written-Con n = ap written (sym (type.rolls-Con n)) ∙ fold-roll-Written WrittenType written_step (Written-F.Con n)

pub written-Apply : (h : Written) (ts : List Written) → written (type.Apply h ts) ≡ applied_type (written h) (type_parts (writtens ts))
written-Apply h ts = ap written (sym (type.rolls-Apply h ts)) ∙ fold-roll-Written WrittenType written_step (Written-F.Apply h ts)

pub written-Fun : (s : Written) (t : Written) → written (type.Fun s t) ≡ function_type (written s) (written t)
written-Fun s t = ap written (sym (type.rolls-Fun s t)) ∙ fold-roll-Written WrittenType written_step (Written-F.Fun s t)

pub written-Tuple : (ts : List Written) → written (type.Tuple ts) ≡ tuple_type (type_parts (writtens ts))
written-Tuple ts = ap written (sym (type.rolls-Tuple ts)) ∙ fold-roll-Written WrittenType written_step (Written-F.Tuple ts)

pub ruleset written_forms = (written-Var, written-Con, written-Apply, written-Fun, written-Tuple)

module _ {A X : Type 0} (see : A → X) where
  pub pattern-Wild : (a : A) → pattern see (pat.Wild a) ≡ wildcard (see a)
  pattern-Wild a = ap (pattern see) (sym (pat.rolls-Wild a)) ∙ fold-roll-Pat A (Pattern X) (pattern_step see) (Pat-F.Wild a)

  pub pattern-Var : (a : A) (n : List ℕ) → pattern see (pat.Var a n) ≡ variable_pattern (see a) n
  pattern-Var a n = ap (pattern see) (sym (pat.rolls-Var a n)) ∙ fold-roll-Pat A (Pattern X) (pattern_step see) (Pat-F.Var a n)

  pub pattern-Con : (a : A) (n : List ℕ) (ps : List (Pat A)) → pattern see (pat.Con a n ps) ≡ constructor_pattern (see a) n (pattern_parts (patterns see ps))
  pattern-Con a n ps = ap (pattern see) (sym (pat.rolls-Con a n ps)) ∙ fold-roll-Pat A (Pattern X) (pattern_step see) (Pat-F.Con a n ps)

  pub pattern-Tuple : (a : A) (ps : List (Pat A)) → pattern see (pat.Tuple a ps) ≡ tuple_pattern (see a) (pattern_parts (patterns see ps))
  pattern-Tuple a ps = ap (pattern see) (sym (pat.rolls-Tuple a ps)) ∙ fold-roll-Pat A (Pattern X) (pattern_step see) (Pat-F.Tuple a ps)

  pub expression-Var : (a : A) (n : List ℕ) → expression see (expr.Var a n) ≡ tree.variable (see a) n
  expression-Var a n = ap (expression see) (sym (expr.rolls-Var a n)) ∙ fold-roll-Expr A (LocalBinding X) (RightSide X) (Statement X) (Expression X) (Alternative X) (GuardedBody X) (local_step see) (rhs_step see) (stmt_step see) (expr_step see) (alt_step see) (guard_step see) (Expr-F.Var a n)

  pub expression-Con : (a : A) (n : List ℕ) → expression see (expr.Con a n) ≡ tree.constructor (see a) n
  expression-Con a n = ap (expression see) (sym (expr.rolls-Con a n)) ∙ fold-roll-Expr A (LocalBinding X) (RightSide X) (Statement X) (Expression X) (Alternative X) (GuardedBody X) (local_step see) (rhs_step see) (stmt_step see) (expr_step see) (alt_step see) (guard_step see) (Expr-F.Con a n)

  pub expression-Apply : (a : A) (h : Expr A) (xs : List (Expr A)) → expression see (expr.Apply a h xs) ≡ tree.application (see a) (expression see h) (expression_parts (map (expression see) xs))
  expression-Apply a h xs = ap (expression see) (sym (expr.rolls-Apply a h xs)) ∙ fold-roll-Expr A (LocalBinding X) (RightSide X) (Statement X) (Expression X) (Alternative X) (GuardedBody X) (local_step see) (rhs_step see) (stmt_step see) (expr_step see) (alt_step see) (guard_step see) (Expr-F.Apply a h xs)

  pub expression-Tuple : (a : A) (xs : List (Expr A)) → expression see (expr.Tuple a xs) ≡ tree.tuple (see a) (expression_parts (map (expression see) xs))
  expression-Tuple a xs = ap (expression see) (sym (expr.rolls-Tuple a xs)) ∙ fold-roll-Expr A (LocalBinding X) (RightSide X) (Statement X) (Expression X) (Alternative X) (GuardedBody X) (local_step see) (rhs_step see) (stmt_step see) (expr_step see) (alt_step see) (guard_step see) (Expr-F.Tuple a xs)

  pub expression-Chain : (a : A) (xs : List (Expr A)) (os : List (Expr A)) → expression see (expr.Chain a xs os) ≡ tree.chain (see a) (expression_parts (map (expression see) xs)) (expression_parts (map (expression see) os))
  expression-Chain a xs os = ap (expression see) (sym (expr.rolls-Chain a xs os)) ∙ fold-roll-Expr A (LocalBinding X) (RightSide X) (Statement X) (Expression X) (Alternative X) (GuardedBody X) (local_step see) (rhs_step see) (stmt_step see) (expr_step see) (alt_step see) (guard_step see) (Expr-F.Chain a xs os)

  pub expression-Lambda : (a : A) (ps : List (Pat A)) (b : Expr A) → expression see (expr.Lambda a ps b) ≡ tree.lambda (see a) (patterns see ps) (expression see b)
  expression-Lambda a ps b = ap (expression see) (sym (expr.rolls-Lambda a ps b)) ∙ fold-roll-Expr A (LocalBinding X) (RightSide X) (Statement X) (Expression X) (Alternative X) (GuardedBody X) (local_step see) (rhs_step see) (stmt_step see) (expr_step see) (alt_step see) (guard_step see) (Expr-F.Lambda a ps b)

  pub expression-Let : (a : A) (ls : List (Local A)) (b : Expr A) → expression see (expr.Let a ls b) ≡ tree.let_in (see a) (binding_parts (map (local_binding see) ls)) (expression see b)
  expression-Let a ls b = ap (expression see) (sym (expr.rolls-Let a ls b)) ∙ fold-roll-Expr A (LocalBinding X) (RightSide X) (Statement X) (Expression X) (Alternative X) (GuardedBody X) (local_step see) (rhs_step see) (stmt_step see) (expr_step see) (alt_step see) (guard_step see) (Expr-F.«Expr::Let» a ls b)

  pub expression-If : (a : A) (x : Expr A) (y : Expr A) (z : Expr A) → expression see (expr.If a x y z) ≡ tree.if_then_else (see a) (expression see x) (expression see y) (expression see z)
  expression-If a x y z = ap (expression see) (sym (expr.rolls-If a x y z)) ∙ fold-roll-Expr A (LocalBinding X) (RightSide X) (Statement X) (Expression X) (Alternative X) (GuardedBody X) (local_step see) (rhs_step see) (stmt_step see) (expr_step see) (alt_step see) (guard_step see) (Expr-F.If a x y z)

  pub expression-Case : (a : A) (x : Expr A) (rows : List (Alt A)) → expression see (expr.Case a x rows) ≡ tree.case_of (see a) (expression see x) (alternative_parts (map (alternative_of see) rows))
  expression-Case a x rows = ap (expression see) (sym (expr.rolls-Case a x rows)) ∙ fold-roll-Expr A (LocalBinding X) (RightSide X) (Statement X) (Expression X) (Alternative X) (GuardedBody X) (local_step see) (rhs_step see) (stmt_step see) (expr_step see) (alt_step see) (guard_step see) (Expr-F.Case a x rows)

  pub expression-Do : (a : A) (ss : List (Stmt A)) → expression see (expr.Do a ss) ≡ tree.do_block (see a) (statement_parts (map (statement see) ss))
  expression-Do a ss = ap (expression see) (sym (expr.rolls-Do a ss)) ∙ fold-roll-Expr A (LocalBinding X) (RightSide X) (Statement X) (Expression X) (Alternative X) (GuardedBody X) (local_step see) (rhs_step see) (stmt_step see) (expr_step see) (alt_step see) (guard_step see) (Expr-F.Do a ss)

  pub right_side-Plain : (b : Expr A) → right_side see (rhs.Plain b) ≡ tree.plain_side (expression see b)
  right_side-Plain b = ap (right_side see) (sym (rhs.rolls-Plain b)) ∙ fold-roll-Rhs A (LocalBinding X) (RightSide X) (Statement X) (Expression X) (Alternative X) (GuardedBody X) (local_step see) (rhs_step see) (stmt_step see) (expr_step see) (alt_step see) (guard_step see) (Rhs-F.Plain b)

  pub right_side-Guarded : (gs : List (Guard A)) → right_side see (rhs.Guarded gs) ≡ tree.guarded_side (body_parts (map (guarded see) gs))
  right_side-Guarded gs = ap (right_side see) (sym (rhs.rolls-Guarded gs)) ∙ fold-roll-Rhs A (LocalBinding X) (RightSide X) (Statement X) (Expression X) (Alternative X) (GuardedBody X) (local_step see) (rhs_step see) (stmt_step see) (expr_step see) (alt_step see) (guard_step see) (Rhs-F.Guarded gs)

  pub local_binding-Sig : (a : A) (n : List ℕ) (t : Written) → local_binding see (local.Sig a n t) ≡ tree.local_signature (see a) n (written t)
  local_binding-Sig a n t = ap (local_binding see) (sym (local.rolls-Sig a n t)) ∙ fold-roll-Local A (LocalBinding X) (RightSide X) (Statement X) (Expression X) (Alternative X) (GuardedBody X) (local_step see) (rhs_step see) (stmt_step see) (expr_step see) (alt_step see) (guard_step see) (Local-F.Sig a n t)

  pub local_binding-Fun : (a : A) (n : List ℕ) (rows : List (Alt A)) → local_binding see (local.Fun a n rows) ≡ tree.local_function (see a) n (alternative_parts (map (alternative_of see) rows))
  local_binding-Fun a n rows = ap (local_binding see) (sym (local.rolls-Fun a n rows)) ∙ fold-roll-Local A (LocalBinding X) (RightSide X) (Statement X) (Expression X) (Alternative X) (GuardedBody X) (local_step see) (rhs_step see) (stmt_step see) (expr_step see) (alt_step see) (guard_step see) (Local-F.Fun a n rows)

  pub local_binding-Pattern : (a : A) (row : Alt A) → local_binding see (local.Pattern a row) ≡ tree.local_pattern (see a) (alternative_of see row)
  local_binding-Pattern a row = ap (local_binding see) (sym (local.rolls-Pattern a row)) ∙ fold-roll-Local A (LocalBinding X) (RightSide X) (Statement X) (Expression X) (Alternative X) (GuardedBody X) (local_step see) (rhs_step see) (stmt_step see) (expr_step see) (alt_step see) (guard_step see) (Local-F.Pattern a row)

  pub statement-Bind : (a : A) (p : Pat A) (b : Expr A) → statement see (stmt.Bind a p b) ≡ tree.bind_statement (see a) (pattern see p) (expression see b)
  statement-Bind a p b = ap (statement see) (sym (stmt.rolls-Bind a p b)) ∙ fold-roll-Stmt A (LocalBinding X) (RightSide X) (Statement X) (Expression X) (Alternative X) (GuardedBody X) (local_step see) (rhs_step see) (stmt_step see) (expr_step see) (alt_step see) (guard_step see) (Stmt-F.Bind a p b)

  pub statement-Let : (a : A) (ls : List (Local A)) → statement see (stmt.Let a ls) ≡ tree.let_statement (see a) (binding_parts (map (local_binding see) ls))
  statement-Let a ls = ap (statement see) (sym (stmt.rolls-Let a ls)) ∙ fold-roll-Stmt A (LocalBinding X) (RightSide X) (Statement X) (Expression X) (Alternative X) (GuardedBody X) (local_step see) (rhs_step see) (stmt_step see) (expr_step see) (alt_step see) (guard_step see) (Stmt-F.«Stmt::Let» a ls)

  pub statement-Run : (a : A) (b : Expr A) → statement see (stmt.Run a b) ≡ tree.run_statement (see a) (expression see b)
  statement-Run a b = ap (statement see) (sym (stmt.rolls-Run a b)) ∙ fold-roll-Stmt A (LocalBinding X) (RightSide X) (Statement X) (Expression X) (Alternative X) (GuardedBody X) (local_step see) (rhs_step see) (stmt_step see) (expr_step see) (alt_step see) (guard_step see) (Stmt-F.Run a b)

  pub alternative-parts : (row : Alt A) → alternative_of see row ≡ tree.alternative (see row.at) (patterns see row.pats) (right_side see row.rhs) (binding_parts (map (local_binding see) row.wheres))
  alternative-parts row = fold_out-Alt A (LocalBinding X) (RightSide X) (Statement X) (Expression X) (Alternative X) (GuardedBody X) (local_step see) (rhs_step see) (stmt_step see) (expr_step see) (alt_step see) (guard_step see) row

  pub guarded-parts : (g : Guard A) → guarded see g ≡ tree.guarded_body (expression see g.test) (expression see g.body)
  guarded-parts g = fold_out-Guard A (LocalBinding X) (RightSide X) (Statement X) (Expression X) (Alternative X) (GuardedBody X) (local_step see) (rhs_step see) (stmt_step see) (expr_step see) (alt_step see) (guard_step see) g
