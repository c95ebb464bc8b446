-- What is made of each variant of each tree.
use Rattle.std.proofs.Common.{◌≡◌, ◌∙◌, ℕ, max, sym, ap, List, map, Some}
use Rattle.rw_base.specs.declared.place.Span.{Span}
use Rattle.rw_tree.specs.declared.types.Written.{Written}
use Rattle.rw_tree.specs.declared.pattern.Pat.{Pat}
use Rattle.rw_tree.specs.declared.expr.Expr.{Expr}
use Rattle.rw_tree.specs.declared.expr.Expr.TheVariants as expr
use Rattle.rw_tree.specs.declared.clause.Local.{Local}
use Rattle.rw_tree.specs.declared.clause.Local.TheVariants as local
use Rattle.rw_tree.specs.declared.clause.Local.TheOpen.{Local-F, Rhs-F, Stmt-F, Expr-F}
use Rattle.rw_tree.specs.declared.clause.Local.TheFolds.{fold-roll-Local, fold-roll-Rhs, fold-roll-Stmt, fold-roll-Expr, fold_out-Alt, fold_out-Guard}
use Rattle.rw_tree.specs.declared.clause.Alt.{Alt}
use Rattle.rw_tree.specs.declared.clause.Guard.{Guard}
use Rattle.rw_tree.specs.declared.clause.Rhs.{Rhs}
use Rattle.rw_tree.specs.declared.clause.Rhs.TheVariants as rhs
use Rattle.rw_tree.specs.declared.clause.Stmt.{Stmt}
use Rattle.rw_tree.specs.declared.clause.Stmt.TheVariants as stmt
use Rattle.rw_parser_reading.specs.Read.{◌>>=◌}
use Rattle.rw_parser_grammar.specs.Chains.{Strength}
use Rattle.rw_parser_chains.specs.Grouping.{above, grouped_of}
use Rattle.rw_parser_chains.specs.Resolving.{Made, pattern_fits, patterns_fit, type_fits, all_of, each_of, below_of, local_step, rhs_step, stmt_step, expr_step, alt_step, guard_step, expression_made, row_made, side_made, guard_made, local_made, statement_made}

module _ (strength : List ℕ → Strength) where
  pub expression-Var : (x : Span) (name : List ℕ) → expression_made strength (expr.Var x name) ≡ Some (expr.Var x name, 1)
  expression-Var x name = ap (expression_made strength) (sym (expr.rolls-Var x name)) ∙ fold-roll-Expr Span (Made (Local Span)) (Made (Rhs Span)) (Made (Stmt Span)) (Made (Expr Span)) (Made (Alt Span)) (Made (Guard Span)) (local_step strength) (rhs_step strength) (stmt_step strength) (expr_step strength) (alt_step strength) (guard_step strength) (Expr-F.Var x name)

  pub expression-Con : (x : Span) (name : List ℕ) → expression_made strength (expr.Con x name) ≡ Some (expr.Con x name, 1)
  expression-Con x name = ap (expression_made strength) (sym (expr.rolls-Con x name)) ∙ fold-roll-Expr Span (Made (Local Span)) (Made (Rhs Span)) (Made (Stmt Span)) (Made (Expr Span)) (Made (Alt Span)) (Made (Guard Span)) (local_step strength) (rhs_step strength) (stmt_step strength) (expr_step strength) (alt_step strength) (guard_step strength) (Expr-F.Con x name)

  pub expression-Apply : (x : Span) (head : Expr Span) (parts : List (Expr Span)) → expression_made strength (expr.Apply x head parts) ≡ (expression_made strength head >>= (λ p. all_of (map (expression_made strength) parts) >>= (λ q. above (max p.1 q.1) >>= (λ m. Some (expr.Apply x p.0 q.0, m)))))
  expression-Apply x head parts = ap (expression_made strength) (sym (expr.rolls-Apply x head parts)) ∙ fold-roll-Expr Span (Made (Local Span)) (Made (Rhs Span)) (Made (Stmt Span)) (Made (Expr Span)) (Made (Alt Span)) (Made (Guard Span)) (local_step strength) (rhs_step strength) (stmt_step strength) (expr_step strength) (alt_step strength) (guard_step strength) (Expr-F.Apply x head parts)

  pub expression-Tuple : (x : Span) (parts : List (Expr Span)) → expression_made strength (expr.Tuple x parts) ≡ (all_of (map (expression_made strength) parts) >>= (λ q. above q.1 >>= (λ m. Some (expr.Tuple x q.0, m))))
  expression-Tuple x parts = ap (expression_made strength) (sym (expr.rolls-Tuple x parts)) ∙ fold-roll-Expr Span (Made (Local Span)) (Made (Rhs Span)) (Made (Stmt Span)) (Made (Expr Span)) (Made (Alt Span)) (Made (Guard Span)) (local_step strength) (rhs_step strength) (stmt_step strength) (expr_step strength) (alt_step strength) (guard_step strength) (Expr-F.Tuple x parts)

  pub expression-Chain : (x : Span) (operands : List (Expr Span)) (operators : List (Expr Span)) → expression_made strength (expr.Chain x operands operators) ≡ (each_of (map (expression_made strength) operands) >>= (λ p. each_of (map (expression_made strength) operators) >>= (λ q. grouped_of strength q p)))
  expression-Chain x operands operators = ap (expression_made strength) (sym (expr.rolls-Chain x operands operators)) ∙ fold-roll-Expr Span (Made (Local Span)) (Made (Rhs Span)) (Made (Stmt Span)) (Made (Expr Span)) (Made (Alt Span)) (Made (Guard Span)) (local_step strength) (rhs_step strength) (stmt_step strength) (expr_step strength) (alt_step strength) (guard_step strength) (Expr-F.Chain x operands operators)

  pub expression-Lambda : (x : Span) (pats : List (Pat Span)) (body : Expr Span) → expression_made strength (expr.Lambda x pats body) ≡ (patterns_fit pats >>= (λ n. expression_made strength body >>= (λ p. above (max n p.1) >>= (λ m. Some (expr.Lambda x pats p.0, m)))))
  expression-Lambda x pats body = ap (expression_made strength) (sym (expr.rolls-Lambda x pats body)) ∙ fold-roll-Expr Span (Made (Local Span)) (Made (Rhs Span)) (Made (Stmt Span)) (Made (Expr Span)) (Made (Alt Span)) (Made (Guard Span)) (local_step strength) (rhs_step strength) (stmt_step strength) (expr_step strength) (alt_step strength) (guard_step strength) (Expr-F.Lambda x pats body)

  pub expression-Let : (x : Span) (locals : List (Local Span)) (body : Expr Span) → expression_made strength (expr.Let x locals body) ≡ (all_of (map (local_made strength) locals) >>= (λ q. expression_made strength body >>= (λ p. above (max q.1 p.1) >>= (λ m. Some (expr.Let x q.0 p.0, m)))))
  expression-Let x locals body = ap (expression_made strength) (sym (expr.rolls-Let x locals body)) ∙ fold-roll-Expr Span (Made (Local Span)) (Made (Rhs Span)) (Made (Stmt Span)) (Made (Expr Span)) (Made (Alt Span)) (Made (Guard Span)) (local_step strength) (rhs_step strength) (stmt_step strength) (expr_step strength) (alt_step strength) (guard_step strength) (Expr-F.«Expr::Let» x locals body)

  pub expression-If : (x : Span) (test : Expr Span) (first : Expr Span) (second : Expr Span) → expression_made strength (expr.If x test first second) ≡ (expression_made strength test >>= (λ p. expression_made strength first >>= (λ q. expression_made strength second >>= (λ t. above (max p.1 (max q.1 t.1)) >>= (λ m. Some (expr.If x p.0 q.0 t.0, m))))))
  expression-If x test first second = ap (expression_made strength) (sym (expr.rolls-If x test first second)) ∙ fold-roll-Expr Span (Made (Local Span)) (Made (Rhs Span)) (Made (Stmt Span)) (Made (Expr Span)) (Made (Alt Span)) (Made (Guard Span)) (local_step strength) (rhs_step strength) (stmt_step strength) (expr_step strength) (alt_step strength) (guard_step strength) (Expr-F.If x test first second)

  pub expression-Case : (x : Span) (scrutinee : Expr Span) (rows : List (Alt Span)) → expression_made strength (expr.Case x scrutinee rows) ≡ (expression_made strength scrutinee >>= (λ p. all_of (map (row_made strength) rows) >>= (λ q. above (max p.1 q.1) >>= (λ m. Some (expr.Case x p.0 q.0, m)))))
  expression-Case x scrutinee rows = ap (expression_made strength) (sym (expr.rolls-Case x scrutinee rows)) ∙ fold-roll-Expr Span (Made (Local Span)) (Made (Rhs Span)) (Made (Stmt Span)) (Made (Expr Span)) (Made (Alt Span)) (Made (Guard Span)) (local_step strength) (rhs_step strength) (stmt_step strength) (expr_step strength) (alt_step strength) (guard_step strength) (Expr-F.Case x scrutinee rows)

  pub expression-Do : (x : Span) (statements : List (Stmt Span)) → expression_made strength (expr.Do x statements) ≡ (below_of 0 (map (statement_made strength) statements) >>= (λ q. Some (expr.Do x q.0, q.1)))
  expression-Do x statements = ap (expression_made strength) (sym (expr.rolls-Do x statements)) ∙ fold-roll-Expr Span (Made (Local Span)) (Made (Rhs Span)) (Made (Stmt Span)) (Made (Expr Span)) (Made (Alt Span)) (Made (Guard Span)) (local_step strength) (rhs_step strength) (stmt_step strength) (expr_step strength) (alt_step strength) (guard_step strength) (Expr-F.Do x statements)

  pub side-Plain : (body : Expr Span) → side_made strength (rhs.Plain body) ≡ (expression_made strength body >>= (λ p. Some (rhs.Plain p.0, p.1)))
  side-Plain body = ap (side_made strength) (sym (rhs.rolls-Plain body)) ∙ fold-roll-Rhs Span (Made (Local Span)) (Made (Rhs Span)) (Made (Stmt Span)) (Made (Expr Span)) (Made (Alt Span)) (Made (Guard Span)) (local_step strength) (rhs_step strength) (stmt_step strength) (expr_step strength) (alt_step strength) (guard_step strength) (Rhs-F.Plain body)

  pub side-Guarded : (bodies : List (Guard Span)) → side_made strength (rhs.Guarded bodies) ≡ (all_of (map (guard_made strength) bodies) >>= (λ q. Some (rhs.Guarded q.0, q.1)))
  side-Guarded bodies = ap (side_made strength) (sym (rhs.rolls-Guarded bodies)) ∙ fold-roll-Rhs Span (Made (Local Span)) (Made (Rhs Span)) (Made (Stmt Span)) (Made (Expr Span)) (Made (Alt Span)) (Made (Guard Span)) (local_step strength) (rhs_step strength) (stmt_step strength) (expr_step strength) (alt_step strength) (guard_step strength) (Rhs-F.Guarded bodies)

  pub local-Sig : (x : Span) (name : List ℕ) (type : Written) → local_made strength (local.Sig x name type) ≡ (type_fits type >>= (λ n. above n >>= (λ m. Some (local.Sig x name type, m))))
  local-Sig x name type = ap (local_made strength) (sym (local.rolls-Sig x name type)) ∙ fold-roll-Local Span (Made (Local Span)) (Made (Rhs Span)) (Made (Stmt Span)) (Made (Expr Span)) (Made (Alt Span)) (Made (Guard Span)) (local_step strength) (rhs_step strength) (stmt_step strength) (expr_step strength) (alt_step strength) (guard_step strength) (Local-F.Sig x name type)

  pub local-Fun : (x : Span) (name : List ℕ) (rows : List (Alt Span)) → local_made strength (local.Fun x name rows) ≡ (all_of (map (row_made strength) rows) >>= (λ q. above q.1 >>= (λ m. Some (local.Fun x name q.0, m))))
  local-Fun x name rows = ap (local_made strength) (sym (local.rolls-Fun x name rows)) ∙ fold-roll-Local Span (Made (Local Span)) (Made (Rhs Span)) (Made (Stmt Span)) (Made (Expr Span)) (Made (Alt Span)) (Made (Guard Span)) (local_step strength) (rhs_step strength) (stmt_step strength) (expr_step strength) (alt_step strength) (guard_step strength) (Local-F.Fun x name rows)

  pub local-Pattern : (x : Span) (row : Alt Span) → local_made strength (local.Pattern x row) ≡ (row_made strength row >>= (λ p. above p.1 >>= (λ m. Some (local.Pattern x p.0, m))))
  local-Pattern x row = ap (local_made strength) (sym (local.rolls-Pattern x row)) ∙ fold-roll-Local Span (Made (Local Span)) (Made (Rhs Span)) (Made (Stmt Span)) (Made (Expr Span)) (Made (Alt Span)) (Made (Guard Span)) (local_step strength) (rhs_step strength) (stmt_step strength) (expr_step strength) (alt_step strength) (guard_step strength) (Local-F.Pattern x row)

  pub statement-Bind : (x : Span) (pat : Pat Span) (body : Expr Span) → statement_made strength (stmt.Bind x pat body) ≡ (pattern_fits pat >>= (λ n. expression_made strength body >>= (λ p. above (max n p.1) >>= (λ m. Some (stmt.Bind x pat p.0, m)))))
  statement-Bind x pat body = ap (statement_made strength) (sym (stmt.rolls-Bind x pat body)) ∙ fold-roll-Stmt Span (Made (Local Span)) (Made (Rhs Span)) (Made (Stmt Span)) (Made (Expr Span)) (Made (Alt Span)) (Made (Guard Span)) (local_step strength) (rhs_step strength) (stmt_step strength) (expr_step strength) (alt_step strength) (guard_step strength) (Stmt-F.Bind x pat body)

  pub statement-Let : (x : Span) (locals : List (Local Span)) → statement_made strength (stmt.Let x locals) ≡ (all_of (map (local_made strength) locals) >>= (λ q. above q.1 >>= (λ m. Some (stmt.Let x q.0, m))))
  statement-Let x locals = ap (statement_made strength) (sym (stmt.rolls-Let x locals)) ∙ fold-roll-Stmt Span (Made (Local Span)) (Made (Rhs Span)) (Made (Stmt Span)) (Made (Expr Span)) (Made (Alt Span)) (Made (Guard Span)) (local_step strength) (rhs_step strength) (stmt_step strength) (expr_step strength) (alt_step strength) (guard_step strength) (Stmt-F.«Stmt::Let» x locals)

  pub statement-Run : (x : Span) (body : Expr Span) → statement_made strength (stmt.Run x body) ≡ (expression_made strength body >>= (λ p. above p.1 >>= (λ m. Some (stmt.Run x p.0, m))))
  statement-Run x body = ap (statement_made strength) (sym (stmt.rolls-Run x body)) ∙ fold-roll-Stmt Span (Made (Local Span)) (Made (Rhs Span)) (Made (Stmt Span)) (Made (Expr Span)) (Made (Alt Span)) (Made (Guard Span)) (local_step strength) (rhs_step strength) (stmt_step strength) (expr_step strength) (alt_step strength) (guard_step strength) (Stmt-F.Run x body)

  pub row-parts : (row : Alt Span) → row_made strength row ≡ (patterns_fit row.pats >>= (λ n. side_made strength row.rhs >>= (λ p. all_of (map (local_made strength) row.wheres) >>= (λ q. above (max n (max p.1 q.1)) >>= (λ m. Some (record { at = row.at; pats = row.pats; rhs = p.0; wheres = q.0 }, m))))))
  row-parts row = fold_out-Alt Span (Made (Local Span)) (Made (Rhs Span)) (Made (Stmt Span)) (Made (Expr Span)) (Made (Alt Span)) (Made (Guard Span)) (local_step strength) (rhs_step strength) (stmt_step strength) (expr_step strength) (alt_step strength) (guard_step strength) row

  pub guard-parts : (g : Guard Span) → guard_made strength g ≡ (expression_made strength g.test >>= (λ p. expression_made strength g.body >>= (λ q. Some (record { test = p.0; body = q.0 }, max p.1 q.1))))
  guard-parts g = fold_out-Guard Span (Made (Local Span)) (Made (Rhs Span)) (Made (Stmt Span)) (Made (Expr Span)) (Made (Alt Span)) (Made (Guard Span)) (local_step strength) (rhs_step strength) (stmt_step strength) (expr_step strength) (alt_step strength) (guard_step strength) g

pub ruleset made_forms = (expression-Var, expression-Con, expression-Apply, expression-Tuple, expression-Chain, expression-Lambda, expression-Let, expression-If, expression-Case, expression-Do, side-Plain, side-Guarded, local-Sig, local-Fun, local-Pattern, statement-Bind, statement-Let, statement-Run, row-parts, guard-parts)
