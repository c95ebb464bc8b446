-- The plain form of a tree of the code with something of each annotation: the plain form with the annotations, relabelled.
use Rattle.std.proofs.Common.{◌≡◌, ◌∙◌, List, [], ◌∷◌, map, refl, sym, ap, subst}
use Rattle.rw_tree.specs.Views.{itself}
use Rattle.rw_tree.specs.declared.pattern.Pat.{Pat}
use Rattle.rw_tree.specs.declared.pattern.Pat.TheVariants as pat
use Rattle.rw_tree.specs.declared.pattern.Pat.TheOpen.{Pat-F}
use Rattle.rw_tree.specs.declared.pattern.Pat.TheViews.{roll-Pat}
use Rattle.rw_tree.specs.declared.pattern.Pat.TheFolds.{ind-Pat, map-Pat}
use Rattle.rw_tree.specs.declared.expr.Expr.{Expr}
use Rattle.rw_tree.specs.declared.expr.Expr.TheVariants as expr
use Rattle.rw_tree.specs.declared.clause.Local.{Local}
use Rattle.rw_tree.specs.declared.clause.Local.TheVariants as local
use Rattle.rw_tree.specs.declared.clause.Local.TheOpen.{Local-F, Rhs-F, Stmt-F, Expr-F, Alt-F, Guard-F}
use Rattle.rw_tree.specs.declared.clause.Local.TheViews.{roll-Local, roll-Rhs, roll-Stmt, roll-Expr, roll-Alt, roll-Guard}
use Rattle.rw_tree.specs.declared.clause.Local.TheFolds.{ind-Alt, map-Local, map-Rhs, map-Stmt, map-Expr, map-Alt, map-Guard}
use Rattle.rw_tree.specs.declared.clause.Alt.{Alt}
use Rattle.rw_tree.specs.declared.clause.Guard.{Guard}
use Rattle.rw_tree.specs.declared.clause.Rhs.{Rhs}
use Rattle.rw_tree.specs.declared.clause.Rhs.TheVariants as rhs
use Rattle.rw_tree.specs.declared.clause.Stmt.{Stmt}
use Rattle.rw_tree.specs.declared.clause.Stmt.TheVariants as stmt
use Rattle.rw_tree.specs.declared.decl.Decl.{Decl}
use Rattle.rw_tree.specs.declared.decl.Decl.TheVariants.{Import, Data, Fixity, Sig, Fun}
use Rattle.rw_tree.specs.Patterns.{more_patterns, constructor_pattern, tuple_pattern, pattern_parts, pattern, patterns}
use Rattle.rw_tree.specs.Trees as tree
use Rattle.rw_tree.specs.Trees.{expression, alternative_of, right_side, guarded, local_binding, statement, expression_parts, alternative_parts, body_parts, binding_parts, statement_parts}
use Rattle.rw_tree.specs.Declarations.{declaration, function_declaration}
use Rattle.rw_tree.proofs.Plains.{pattern-Wild, pattern-Var, pattern-Con, pattern-Tuple, expression-Var, expression-Con, expression-Apply, expression-Tuple, expression-Chain, expression-Lambda, expression-Let, expression-If, expression-Case, expression-Do, right_side-Plain, right_side-Guarded, local_binding-Sig, local_binding-Fun, local_binding-Pattern, statement-Bind, statement-Let, statement-Run, alternative-parts, guarded-parts}
use Rattle.rw_types_rules.specs.Relabelled.{relabelled_pattern, relabelled_parts, relabelled_row, relabelled_expression, relabelled_expressions, relabelled_alternative, relabelled_alternatives, relabelled_side, relabelled_body, relabelled_bodies, relabelled_binding, relabelled_group, relabelled_statement, relabelled_statements, relabelled_declaration}
use Rattle.rw_types_numbering.proofs.Relabelling.{same2, same3}

module _ {A X : Type 0} (f : A → X) where
  abbrev SeenPattern : Pat A → Type 0
  SeenPattern z = pattern f z ≡ relabelled_pattern f (pattern itself z)

  seen_parts : (ys : List ((e : Pat A) × SeenPattern e)) → pattern_parts (patterns f (map (λ e. e.0) ys)) ≡ relabelled_parts f (pattern_parts (patterns itself (map (λ e. e.0) ys)))
  seen_parts [] = refl
  seen_parts (y ∷ ys) = same2 (λ u v. more_patterns u v) y.1 (seen_parts ys)

  pattern_layer : (y : Pat-F A ((e : Pat A) × SeenPattern e)) → SeenPattern (roll-Pat A (map-Pat A ((e : Pat A) × SeenPattern e) (Pat A) (λ e. e.0) y))
  pattern_layer (Pat-F.Wild a) = subst SeenPattern (sym (pat.rolls-Wild a)) (pattern-Wild f a ∙ sym (ap (relabelled_pattern f) (pattern-Wild (λ z. z) a)))
  pattern_layer (Pat-F.Var a x) = subst SeenPattern (sym (pat.rolls-Var a x)) (pattern-Var f a x ∙ sym (ap (relabelled_pattern f) (pattern-Var (λ z. z) a x)))
  pattern_layer (Pat-F.Con a x parts) =
      subst SeenPattern (sym (pat.rolls-Con a x (map (λ e. e.0) parts)))
      (pattern-Con f a x (map (λ e. e.0) parts) ∙ ap (constructor_pattern (f a) x) (seen_parts parts) ∙ sym (ap (relabelled_pattern f) (pattern-Con (λ z. z) a x (map (λ e. e.0) parts))))
  pattern_layer (Pat-F.Tuple a parts) =
      subst SeenPattern (sym (pat.rolls-Tuple a (map (λ e. e.0) parts)))
      (pattern-Tuple f a (map (λ e. e.0) parts) ∙ ap (tuple_pattern (f a)) (seen_parts parts) ∙ sym (ap (relabelled_pattern f) (pattern-Tuple (λ z. z) a (map (λ e. e.0) parts))))

  seen_pattern : (z : Pat A) → SeenPattern z
  seen_pattern = ind-Pat A SeenPattern (λ x y is. subst (λ z. SeenPattern (roll-Pat A z)) is (pattern_layer y))

  seen_row : (zs : List (Pat A)) → patterns f zs ≡ relabelled_row f (patterns itself zs)
  seen_row [] = refl
  seen_row (z ∷ zs) = same2 ◌∷◌ (seen_pattern z) (seen_row zs)

  abbrev L : Local A → Type 0
  L z = local_binding f z ≡ relabelled_binding f (local_binding itself z)

  abbrev R : Rhs A → Type 0
  R z = right_side f z ≡ relabelled_side f (right_side itself z)

  abbrev S : Stmt A → Type 0
  S z = statement f z ≡ relabelled_statement f (statement itself z)

  abbrev E : Expr A → Type 0
  E z = expression f z ≡ relabelled_expression f (expression itself z)

  abbrev W : Alt A → Type 0
  W z = alternative_of f z ≡ relabelled_alternative f (alternative_of itself z)

  abbrev G : Guard A → Type 0
  G z = guarded f z ≡ relabelled_body f (guarded itself z)

  seen_expressions : (ys : List ((e : Expr A) × E e)) → expression_parts (map (expression f) (map (λ e. e.0) ys)) ≡ relabelled_expressions f (expression_parts (map (expression itself) (map (λ e. e.0) ys)))
  seen_expressions [] = refl
  seen_expressions (y ∷ ys) = same2 (λ u v. tree.more_expressions u v) y.1 (seen_expressions ys)

  seen_clauses : (ys : List ((e : Alt A) × W e)) → alternative_parts (map (alternative_of f) (map (λ e. e.0) ys)) ≡ relabelled_alternatives f (alternative_parts (map (alternative_of itself) (map (λ e. e.0) ys)))
  seen_clauses [] = refl
  seen_clauses (y ∷ ys) = same2 (λ u v. tree.more_alternatives u v) y.1 (seen_clauses ys)

  seen_bodies : (ys : List ((e : Guard A) × G e)) → body_parts (map (guarded f) (map (λ e. e.0) ys)) ≡ relabelled_bodies f (body_parts (map (guarded itself) (map (λ e. e.0) ys)))
  seen_bodies [] = refl
  seen_bodies (y ∷ ys) = same2 (λ u v. tree.more_bodies u v) y.1 (seen_bodies ys)

  seen_group : (ys : List ((e : Local A) × L e)) → binding_parts (map (local_binding f) (map (λ e. e.0) ys)) ≡ relabelled_group f (binding_parts (map (local_binding itself) (map (λ e. e.0) ys)))
  seen_group [] = refl
  seen_group (y ∷ ys) = same2 (λ u v. tree.more_bindings u v) y.1 (seen_group ys)

  seen_statements : (ys : List ((e : Stmt A) × S e)) → statement_parts (map (statement f) (map (λ e. e.0) ys)) ≡ relabelled_statements f (statement_parts (map (statement itself) (map (λ e. e.0) ys)))
  seen_statements [] = refl
  seen_statements (y ∷ ys) = same2 (λ u v. tree.more_statements u v) y.1 (seen_statements ys)

  expression_layer : (y : Expr-F A ((e : Local A) × L e) ((e : Rhs A) × R e) ((e : Stmt A) × S e) ((e : Expr A) × E e) ((e : Alt A) × W e) ((e : Guard A) × G e)) → E (roll-Expr A (map-Expr A ((e : Local A) × L e) ((e : Rhs A) × R e) ((e : Stmt A) × S e) ((e : Expr A) × E e) ((e : Alt A) × W e) ((e : Guard A) × G e) (Local A) (Rhs A) (Stmt A) (Expr A) (Alt A) (Guard A) (λ e. e.0) (λ e. e.0) (λ e. e.0) (λ e. e.0) (λ e. e.0) (λ e. e.0) y))
  expression_layer (Expr-F.Var a x) =
      subst E (sym (expr.rolls-Var a x))
      (expression-Var f a x ∙ sym (ap (relabelled_expression f) (expression-Var (λ z. z) a x)))
  expression_layer (Expr-F.Con a x) =
      subst E (sym (expr.rolls-Con a x))
      (expression-Con f a x ∙ sym (ap (relabelled_expression f) (expression-Con (λ z. z) a x)))
  expression_layer (Expr-F.Apply a head parts) =
      subst E (sym (expr.rolls-Apply a head.0 (map (λ e. e.0) parts)))
      (expression-Apply f a head.0 (map (λ e. e.0) parts) ∙ same2 (tree.application (f a)) head.1 (seen_expressions parts) ∙ sym (ap (relabelled_expression f) (expression-Apply (λ z. z) a head.0 (map (λ e. e.0) parts))))
  expression_layer (Expr-F.Tuple a parts) =
      subst E (sym (expr.rolls-Tuple a (map (λ e. e.0) parts)))
      (expression-Tuple f a (map (λ e. e.0) parts) ∙ ap (tree.tuple (f a)) (seen_expressions parts) ∙ sym (ap (relabelled_expression f) (expression-Tuple (λ z. z) a (map (λ e. e.0) parts))))
  expression_layer (Expr-F.Chain a xs os) =
      subst E (sym (expr.rolls-Chain a (map (λ e. e.0) xs) (map (λ e. e.0) os)))
      (expression-Chain f a (map (λ e. e.0) xs) (map (λ e. e.0) os) ∙ same2 (tree.chain (f a)) (seen_expressions xs) (seen_expressions os) ∙ sym (ap (relabelled_expression f) (expression-Chain (λ z. z) a (map (λ e. e.0) xs) (map (λ e. e.0) os))))
  expression_layer (Expr-F.Lambda a pats body) =
      subst E (sym (expr.rolls-Lambda a pats body.0))
      (expression-Lambda f a pats body.0 ∙ same2 (tree.lambda (f a)) (seen_row pats) body.1 ∙ sym (ap (relabelled_expression f) (expression-Lambda (λ z. z) a pats body.0)))
  expression_layer (Expr-F.«Expr::Let» a group body) =
      subst E (sym (expr.rolls-Let a (map (λ e. e.0) group) body.0))
      (expression-Let f a (map (λ e. e.0) group) body.0 ∙ same2 (tree.let_in (f a)) (seen_group group) body.1 ∙ sym (ap (relabelled_expression f) (expression-Let (λ z. z) a (map (λ e. e.0) group) body.0)))
  expression_layer (Expr-F.If a test first second) =
      subst E (sym (expr.rolls-If a test.0 first.0 second.0))
      (expression-If f a test.0 first.0 second.0 ∙ same3 (tree.if_then_else (f a)) test.1 first.1 second.1 ∙ sym (ap (relabelled_expression f) (expression-If (λ z. z) a test.0 first.0 second.0)))
  expression_layer (Expr-F.Case a scrutinee rows) =
      subst E (sym (expr.rolls-Case a scrutinee.0 (map (λ e. e.0) rows)))
      (expression-Case f a scrutinee.0 (map (λ e. e.0) rows) ∙ same2 (tree.case_of (f a)) scrutinee.1 (seen_clauses rows) ∙ sym (ap (relabelled_expression f) (expression-Case (λ z. z) a scrutinee.0 (map (λ e. e.0) rows))))
  expression_layer (Expr-F.Do a statements) =
      subst E (sym (expr.rolls-Do a (map (λ e. e.0) statements)))
      (expression-Do f a (map (λ e. e.0) statements) ∙ ap (tree.do_block (f a)) (seen_statements statements) ∙ sym (ap (relabelled_expression f) (expression-Do (λ z. z) a (map (λ e. e.0) statements))))

  side_layer : (y : Rhs-F A ((e : Local A) × L e) ((e : Rhs A) × R e) ((e : Stmt A) × S e) ((e : Expr A) × E e) ((e : Alt A) × W e) ((e : Guard A) × G e)) → R (roll-Rhs A (map-Rhs A ((e : Local A) × L e) ((e : Rhs A) × R e) ((e : Stmt A) × S e) ((e : Expr A) × E e) ((e : Alt A) × W e) ((e : Guard A) × G e) (Local A) (Rhs A) (Stmt A) (Expr A) (Alt A) (Guard A) (λ e. e.0) (λ e. e.0) (λ e. e.0) (λ e. e.0) (λ e. e.0) (λ e. e.0) y))
  side_layer (Rhs-F.Plain body) =
      subst R (sym (rhs.rolls-Plain body.0))
      (right_side-Plain f body.0 ∙ ap (λ u. tree.plain_side u) body.1 ∙ sym (ap (relabelled_side f) (right_side-Plain (λ z. z) body.0)))
  side_layer (Rhs-F.Guarded bodies) =
      subst R (sym (rhs.rolls-Guarded (map (λ e. e.0) bodies)))
      (right_side-Guarded f (map (λ e. e.0) bodies) ∙ ap (λ u. tree.guarded_side u) (seen_bodies bodies) ∙ sym (ap (relabelled_side f) (right_side-Guarded (λ z. z) (map (λ e. e.0) bodies))))

  local_layer : (y : Local-F A ((e : Local A) × L e) ((e : Rhs A) × R e) ((e : Stmt A) × S e) ((e : Expr A) × E e) ((e : Alt A) × W e) ((e : Guard A) × G e)) → L (roll-Local A (map-Local A ((e : Local A) × L e) ((e : Rhs A) × R e) ((e : Stmt A) × S e) ((e : Expr A) × E e) ((e : Alt A) × W e) ((e : Guard A) × G e) (Local A) (Rhs A) (Stmt A) (Expr A) (Alt A) (Guard A) (λ e. e.0) (λ e. e.0) (λ e. e.0) (λ e. e.0) (λ e. e.0) (λ e. e.0) y))
  local_layer (Local-F.Sig a x type) =
      subst L (sym (local.rolls-Sig a x type))
      (local_binding-Sig f a x type ∙ sym (ap (relabelled_binding f) (local_binding-Sig (λ z. z) a x type)))
  local_layer (Local-F.Fun a x rows) =
      subst L (sym (local.rolls-Fun a x (map (λ e. e.0) rows)))
      (local_binding-Fun f a x (map (λ e. e.0) rows) ∙ ap (tree.local_function (f a) x) (seen_clauses rows) ∙ sym (ap (relabelled_binding f) (local_binding-Fun (λ z. z) a x (map (λ e. e.0) rows))))
  local_layer (Local-F.Pattern a row) =
      subst L (sym (local.rolls-Pattern a row.0))
      (local_binding-Pattern f a row.0 ∙ ap (tree.local_pattern (f a)) row.1 ∙ sym (ap (relabelled_binding f) (local_binding-Pattern (λ z. z) a row.0)))

  statement_layer : (y : Stmt-F A ((e : Local A) × L e) ((e : Rhs A) × R e) ((e : Stmt A) × S e) ((e : Expr A) × E e) ((e : Alt A) × W e) ((e : Guard A) × G e)) → S (roll-Stmt A (map-Stmt A ((e : Local A) × L e) ((e : Rhs A) × R e) ((e : Stmt A) × S e) ((e : Expr A) × E e) ((e : Alt A) × W e) ((e : Guard A) × G e) (Local A) (Rhs A) (Stmt A) (Expr A) (Alt A) (Guard A) (λ e. e.0) (λ e. e.0) (λ e. e.0) (λ e. e.0) (λ e. e.0) (λ e. e.0) y))
  statement_layer (Stmt-F.Bind a p body) =
      subst S (sym (stmt.rolls-Bind a p body.0))
      (statement-Bind f a p body.0 ∙ same2 (tree.bind_statement (f a)) (seen_pattern p) body.1 ∙ sym (ap (relabelled_statement f) (statement-Bind (λ z. z) a p body.0)))
  statement_layer (Stmt-F.«Stmt::Let» a group) =
      subst S (sym (stmt.rolls-Let a (map (λ e. e.0) group)))
      (statement-Let f a (map (λ e. e.0) group) ∙ ap (tree.let_statement (f a)) (seen_group group) ∙ sym (ap (relabelled_statement f) (statement-Let (λ z. z) a (map (λ e. e.0) group))))
  statement_layer (Stmt-F.Run a body) =
      subst S (sym (stmt.rolls-Run a body.0))
      (statement-Run f a body.0 ∙ ap (tree.run_statement (f a)) body.1 ∙ sym (ap (relabelled_statement f) (statement-Run (λ z. z) a body.0)))

  row_layer : (y : Alt-F A ((e : Local A) × L e) ((e : Rhs A) × R e) ((e : Stmt A) × S e) ((e : Expr A) × E e) ((e : Alt A) × W e) ((e : Guard A) × G e)) → W (roll-Alt A (map-Alt A ((e : Local A) × L e) ((e : Rhs A) × R e) ((e : Stmt A) × S e) ((e : Expr A) × E e) ((e : Alt A) × W e) ((e : Guard A) × G e) (Local A) (Rhs A) (Stmt A) (Expr A) (Alt A) (Guard A) (λ e. e.0) (λ e. e.0) (λ e. e.0) (λ e. e.0) (λ e. e.0) (λ e. e.0) y))
  row_layer y =
      let row : Alt A = record { at = y.at; pats = y.pats; rhs = y.rhs.0; wheres = map (λ e. e.0) y.wheres } in
      alternative-parts f row ∙ same3 (tree.alternative (f y.at)) (seen_row y.pats) y.rhs.1 (seen_group y.wheres) ∙ sym (ap (relabelled_alternative f) (alternative-parts (λ z. z) row))

  guard_layer : (y : Guard-F A ((e : Local A) × L e) ((e : Rhs A) × R e) ((e : Stmt A) × S e) ((e : Expr A) × E e) ((e : Alt A) × W e) ((e : Guard A) × G e)) → G (roll-Guard A (map-Guard A ((e : Local A) × L e) ((e : Rhs A) × R e) ((e : Stmt A) × S e) ((e : Expr A) × E e) ((e : Alt A) × W e) ((e : Guard A) × G e) (Local A) (Rhs A) (Stmt A) (Expr A) (Alt A) (Guard A) (λ e. e.0) (λ e. e.0) (λ e. e.0) (λ e. e.0) (λ e. e.0) (λ e. e.0) y))
  guard_layer y =
      let guard : Guard A = record { test = y.test.0; body = y.body.0 } in
      guarded-parts f guard ∙ same2 (λ u v. tree.guarded_body u v) y.test.1 y.body.1 ∙ sym (ap (relabelled_body f) (guarded-parts (λ z. z) guard))

  seen_clause : (z : Alt A) → W z
  seen_clause =
      ind-Alt A L R S E W G (λ x y is. subst (λ z. L (roll-Local A z)) is (local_layer y)) (λ x y is. subst (λ z. R (roll-Rhs A z)) is (side_layer y)) (λ x y is. subst (λ z. S (roll-Stmt A z)) is (statement_layer y))
      (λ x y is. subst (λ z. E (roll-Expr A z)) is (expression_layer y)) (λ x y is. subst (λ z. W (roll-Alt A z)) is (row_layer y)) (λ x y is. subst (λ z. G (roll-Guard A z)) is (guard_layer y))

  seen_all : (zs : List (Alt A)) → map (alternative_of f) zs ≡ map (relabelled_alternative f) (map (alternative_of itself) zs)
  seen_all [] = refl
  seen_all (z ∷ zs) = same2 ◌∷◌ (seen_clause z) (seen_all zs)

  -- a declaration with what is seen of each annotation
  pub seen_declaration : (d : Decl A) → declaration f d ≡ relabelled_declaration f (declaration itself d)
  seen_declaration (Import a name) = refl
  seen_declaration (Data a made) = refl
  seen_declaration (Fixity a side strength names) = refl
  seen_declaration (Sig a names type) = refl
  seen_declaration (Fun a name clauses) = ap (function_declaration (f a) name) (seen_all clauses)
