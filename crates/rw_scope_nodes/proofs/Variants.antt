-- The nodes of each variant of a tree: itself, and then those of its parts.
use Rattle.std.proofs.Common.{◌≡◌, ◌∙◌, ℕ, refl, sym, ap, List, ◌∷◌, ◌++◌, append_assoc, map, flat_map}
use Rattle.rw_tree.specs.Views.{itself}
use Rattle.rw_tree.specs.declared.pattern.Pat.{Pat}
use Rattle.rw_tree.specs.declared.pattern.Pat.TheVariants as pat
use Rattle.rw_tree.specs.declared.expr.Expr.{Expr}
use Rattle.rw_tree.specs.declared.expr.Expr.TheVariants as expr
use Rattle.rw_tree.specs.declared.clause.Local.{Local}
use Rattle.rw_tree.specs.declared.clause.Local.TheVariants as local
use Rattle.rw_tree.specs.declared.clause.Alt.{Alt}
use Rattle.rw_tree.specs.declared.clause.Guard.{Guard}
use Rattle.rw_tree.specs.declared.clause.Rhs.{Rhs}
use Rattle.rw_tree.specs.declared.clause.Rhs.TheVariants as rhs
use Rattle.rw_tree.specs.declared.clause.Stmt.{Stmt}
use Rattle.rw_tree.specs.declared.clause.Stmt.TheVariants as stmt
use Rattle.rw_tree.specs.Patterns.{Pattern, pattern, patterns}
use Rattle.rw_tree.specs.Trees.{Expression, Alternative, LocalBinding, Statement, expression, alternative_of, right_side, guarded, local_binding, statement, expression_parts, alternative_parts, binding_parts}
use Rattle.rw_tree.proofs.Plains as plain
use Rattle.rw_scope_rules.specs.Nodes.{Node, expression_node, pattern_node, clause_node, group_node, binding_node, statement_node, expression_nodes, expressions_nodes, pattern_nodes, clause_nodes, clauses_nodes, body_nodes, binding_nodes, group_nodes, side_nodes, statement_nodes}
use Rattle.rw_scope_rules.proofs.Lists.{patterns_as, expressions_as, clauses_as, bodies_as, group_as, statements_as}

-- two lists before and after what equals them
both : {N : Type 0} (ks ms ls ns : List N) → ks ≡ ls → ms ≡ ns → ks ++ ms ≡ ls ++ ns
both ks ms ls ns e f = ap (λ xs. xs ++ ms) e ∙ ap (λ xs. ls ++ xs) f

module _ {A : Type 0} where
  -- a tree's nodes, by what its plain form is
  an_expression : (t : Expr A) (e : Expression A) (own inner : List (Node A)) → expression itself t ≡ e → expression_nodes e ≡ expression_node e ∷ own → own ≡ inner
      → expression_nodes (expression itself t) ≡ expression_node (expression itself t) ∷ inner
  an_expression t e own inner is h same = rw is (h ∙ ap (λ ms. expression_node e ∷ ms) same)

  a_pattern : (t : Pat A) (p : Pattern A) (own inner : List (Node A)) → pattern itself t ≡ p → pattern_nodes p ≡ pattern_node p ∷ own → own ≡ inner
      → pattern_nodes (pattern itself t) ≡ pattern_node (pattern itself t) ∷ inner
  a_pattern t p own inner is h same = rw is (h ∙ ap (λ ms. pattern_node p ∷ ms) same)

  a_binding : (t : Local A) (b : LocalBinding A) (own inner : List (Node A)) → local_binding itself t ≡ b → binding_nodes b ≡ binding_node b ∷ own → own ≡ inner
      → binding_nodes (local_binding itself t) ≡ binding_node (local_binding itself t) ∷ inner
  a_binding t b own inner is h same = rw is (h ∙ ap (λ ms. binding_node b ∷ ms) same)

  a_statement : (t : Stmt A) (s : Statement A) (own inner : List (Node A)) → statement itself t ≡ s → statement_nodes s ≡ statement_node s ∷ own → own ≡ inner
      → statement_nodes (statement itself t) ≡ statement_node (statement itself t) ∷ inner
  a_statement t s own inner is h same = rw is (h ∙ ap (λ ms. statement_node s ∷ ms) same)

  a_clause : (t : Alt A) (c : Alternative A) (own inner : List (Node A)) → alternative_of itself t ≡ c → clause_nodes c ≡ clause_node c ∷ own → own ≡ inner
      → clause_nodes (alternative_of itself t) ≡ clause_node (alternative_of itself t) ∷ inner
  a_clause t c own inner is h same = rw is (h ∙ ap (λ ms. clause_node c ∷ ms) same)

  pub constructor_pattern : (t : Pat A) (a : A) (n : List ℕ) (ps given : List (Pat A)) (ns : List (Node A)) → t ≡ pat.Con a n ps → given ≡ ps
      → ns ≡ flat_map pattern_nodes (map (pattern (λ x. x)) given) → pattern_nodes (pattern (λ x. x) t) ≡ pattern_node (pattern (λ x. x) t) ∷ ns
  constructor_pattern t a n ps given ns is same e =
      a_pattern t _ _ ns (ap (pattern (λ x. x)) is ∙ plain.pattern-Con (λ x. x) a n ps) refl (patterns_as (patterns (λ x. x) ps) ∙ ap (λ qs. flat_map pattern_nodes (map (pattern (λ x. x)) qs)) (sym same) ∙ sym e)

  pub tuple_pattern : (t : Pat A) (a : A) (ps given : List (Pat A)) (ns : List (Node A)) → t ≡ pat.Tuple a ps → given ≡ ps
      → ns ≡ flat_map pattern_nodes (map (pattern (λ x. x)) given) → pattern_nodes (pattern (λ x. x) t) ≡ pattern_node (pattern (λ x. x) t) ∷ ns
  tuple_pattern t a ps given ns is same e =
      a_pattern t _ _ ns (ap (pattern (λ x. x)) is ∙ plain.pattern-Tuple (λ x. x) a ps) refl (patterns_as (patterns (λ x. x) ps) ∙ ap (λ qs. flat_map pattern_nodes (map (pattern (λ x. x)) qs)) (sym same) ∙ sym e)

  -- the expressions of a list
  all_nodes : (xs given : List (Expr A)) → given ≡ xs → expressions_nodes (expression_parts (map (expression (λ x. x)) xs)) ≡ flat_map expression_nodes (map (expression (λ x. x)) given)
  all_nodes xs given same = expressions_as (map (expression (λ x. x)) xs) ∙ ap (λ ys. flat_map expression_nodes (map (expression (λ x. x)) ys)) (sym same)

  pub apply : (t : Expr A) (a : A) (h head : Expr A) (xs given : List (Expr A)) (ns : List (Node A)) → t ≡ expr.Apply a h xs → head ≡ h → given ≡ xs
      → ns ≡ expression_nodes (expression (λ x. x) head) ++ flat_map expression_nodes (map (expression (λ x. x)) given)
      → expression_nodes (expression (λ x. x) t) ≡ expression_node (expression (λ x. x) t) ∷ ns
  apply t a h head xs given ns is same_head same e =
      an_expression t _ _ ns (ap (expression (λ x. x)) is ∙ plain.expression-Apply (λ x. x) a h xs) refl (both _ _ _ _ (ap (λ y. expression_nodes (expression (λ x. x) y)) (sym same_head)) (all_nodes xs given same) ∙ sym e)

  pub tuple : (t : Expr A) (a : A) (xs given : List (Expr A)) (ns : List (Node A)) → t ≡ expr.Tuple a xs → given ≡ xs
      → ns ≡ flat_map expression_nodes (map (expression (λ x. x)) given)
      → expression_nodes (expression (λ x. x) t) ≡ expression_node (expression (λ x. x) t) ∷ ns
  tuple t a xs given ns is same e =
      an_expression t _ _ ns (ap (expression (λ x. x)) is ∙ plain.expression-Tuple (λ x. x) a xs) refl (all_nodes xs given same ∙ sym e)

  pub chain : (t : Expr A) (a : A) (xs given os marks : List (Expr A)) (ns : List (Node A)) → t ≡ expr.Chain a xs os → given ≡ xs → marks ≡ os
      → ns ≡ flat_map expression_nodes (map (expression (λ x. x)) given) ++ flat_map expression_nodes (map (expression (λ x. x)) marks)
      → expression_nodes (expression (λ x. x) t) ≡ expression_node (expression (λ x. x) t) ∷ ns
  chain t a xs given os marks ns is same same_marks e =
      an_expression t _ _ ns (ap (expression (λ x. x)) is ∙ plain.expression-Chain (λ x. x) a xs os) refl (both _ _ _ _ (all_nodes xs given same) (all_nodes os marks same_marks) ∙ sym e)

  -- a group and what it binds
  whole_group : (ls given : List (Local A)) → given ≡ ls → (group_node (binding_parts (map (local_binding (λ x. x)) ls)) ∷ group_nodes (binding_parts (map (local_binding (λ x. x)) ls)))
      ≡ (group_node (binding_parts (map (local_binding (λ x. x)) given)) ∷ flat_map binding_nodes (map (local_binding (λ x. x)) given))
  whole_group ls given same =
      ap (λ ms. group_node (binding_parts (map (local_binding (λ x. x)) ls)) ∷ ms) (group_as (map (local_binding (λ x. x)) ls))
      ∙ ap (λ ys. group_node (binding_parts (map (local_binding (λ x. x)) ys)) ∷ flat_map binding_nodes (map (local_binding (λ x. x)) ys)) (sym same)

  pub let_in : (t : Expr A) (a : A) (ls given : List (Local A)) (b body : Expr A) (ns : List (Node A)) → t ≡ expr.Let a ls b → given ≡ ls → body ≡ b
      → ns ≡ (group_node (binding_parts (map (local_binding (λ x. x)) given)) ∷ flat_map binding_nodes (map (local_binding (λ x. x)) given)) ++ expression_nodes (expression (λ x. x) body)
      → expression_nodes (expression (λ x. x) t) ≡ expression_node (expression (λ x. x) t) ∷ ns
  let_in t a ls given b body ns is same same_body e =
      an_expression t _ _ ns (ap (expression (λ x. x)) is ∙ plain.expression-Let (λ x. x) a ls b) refl (both _ _ _ _ (whole_group ls given same) (ap (λ y. expression_nodes (expression (λ x. x) y)) (sym same_body)) ∙ sym e)

  -- the clauses of a list
  rows_nodes : (rows given : List (Alt A)) → given ≡ rows → clauses_nodes (alternative_parts (map (alternative_of (λ x. x)) rows)) ≡ flat_map clause_nodes (map (alternative_of (λ x. x)) given)
  rows_nodes rows given same = clauses_as (map (alternative_of (λ x. x)) rows) ∙ ap (λ ys. flat_map clause_nodes (map (alternative_of (λ x. x)) ys)) (sym same)

  pub case_of : (t : Expr A) (a : A) (x scrutinee : Expr A) (rows given : List (Alt A)) (ns : List (Node A)) → t ≡ expr.Case a x rows → scrutinee ≡ x → given ≡ rows
      → ns ≡ expression_nodes (expression (λ x. x) scrutinee) ++ flat_map clause_nodes (map (alternative_of (λ x. x)) given)
      → expression_nodes (expression (λ x. x) t) ≡ expression_node (expression (λ x. x) t) ∷ ns
  case_of t a x scrutinee rows given ns is same_scrutinee same e =
      an_expression t _ _ ns (ap (expression (λ x. x)) is ∙ plain.expression-Case (λ x. x) a x rows) refl (both _ _ _ _ (ap (λ y. expression_nodes (expression (λ x. x) y)) (sym same_scrutinee)) (rows_nodes rows given same) ∙ sym e)

  pub do_block : (t : Expr A) (a : A) (ss given : List (Stmt A)) (ns : List (Node A)) → t ≡ expr.Do a ss → given ≡ ss
      → ns ≡ flat_map statement_nodes (map (statement (λ x. x)) given)
      → expression_nodes (expression (λ x. x) t) ≡ expression_node (expression (λ x. x) t) ∷ ns
  do_block t a ss given ns is same e =
      an_expression t _ _ ns (ap (expression (λ x. x)) is ∙ plain.expression-Do (λ x. x) a ss) refl (statements_as (map (statement (λ x. x)) ss) ∙ ap (λ ys. flat_map statement_nodes (map (statement (λ x. x)) ys)) (sym same) ∙ sym e)

  pub guarded_side : (t : Rhs A) (gs given : List (Guard A)) → t ≡ rhs.Guarded gs → given ≡ gs → side_nodes (right_side (λ x. x) t) ≡ flat_map body_nodes (map (guarded (λ x. x)) given)
  guarded_side t gs given is same =
      ap side_nodes (ap (right_side (λ x. x)) is ∙ plain.right_side-Guarded (λ x. x) gs) ∙ bodies_as (map (guarded (λ x. x)) gs)
      ∙ ap (λ ys. flat_map body_nodes (map (guarded (λ x. x)) ys)) (sym same)

  pub function : (t : Local A) (a : A) (n : List ℕ) (rows given : List (Alt A)) (ns : List (Node A)) → t ≡ local.Fun a n rows → given ≡ rows
      → ns ≡ flat_map clause_nodes (map (alternative_of (λ x. x)) given)
      → binding_nodes (local_binding (λ x. x) t) ≡ binding_node (local_binding (λ x. x) t) ∷ ns
  function t a n rows given ns is same e =
      a_binding t _ _ ns (ap (local_binding (λ x. x)) is ∙ plain.local_binding-Fun (λ x. x) a n rows) refl (rows_nodes rows given same ∙ sym e)

  pub let_statement : (t : Stmt A) (a : A) (ls given : List (Local A)) (ns : List (Node A)) → t ≡ stmt.Let a ls → given ≡ ls
      → ns ≡ group_node (binding_parts (map (local_binding (λ x. x)) given)) ∷ flat_map binding_nodes (map (local_binding (λ x. x)) given)
      → statement_nodes (statement (λ x. x) t) ≡ statement_node (statement (λ x. x) t) ∷ ns
  let_statement t a ls given ns is same e =
      a_statement t _ _ ns (ap (statement (λ x. x)) is ∙ plain.statement-Let (λ x. x) a ls) refl (whole_group ls given same ∙ sym e)

  -- a clause is a record of its parts, and so is a guard
  pub clause : (row : Alt A) (pats : List (Pat A)) (side : List (Node A)) (group : List (Local A)) → pats ≡ row.pats → side_nodes (right_side (λ x. x) row.rhs) ≡ side → group ≡ row.wheres
      → clause_nodes (alternative_of (λ x. x) row) ≡ clause_node (alternative_of (λ x. x) row) ∷ (flat_map pattern_nodes (map (pattern (λ x. x)) pats)
      ++ (side ++ (group_node (binding_parts (map (local_binding (λ x. x)) group)) ∷ flat_map binding_nodes (map (local_binding (λ x. x)) group))))
  clause row pats side group same_pats same_side same_group =
      let inner : (flat_map pattern_nodes (map (pattern (λ x. x)) row.pats) ++ (side_nodes (right_side (λ x. x) row.rhs)
      ++ (group_node (binding_parts (map (local_binding (λ x. x)) row.wheres)) ∷ group_nodes (binding_parts (map (local_binding (λ x. x)) row.wheres)))))
      ≡ (flat_map pattern_nodes (map (pattern (λ x. x)) pats) ++ (side ++ (group_node (binding_parts (map (local_binding (λ x. x)) group)) ∷ flat_map binding_nodes (map (local_binding (λ x. x)) group))))
      = both _ _ _ _ (ap (λ ps. flat_map pattern_nodes (map (pattern (λ x. x)) ps)) (sym same_pats)) (both _ _ _ _ same_side (whole_group row.wheres group same_group)) in
      a_clause row _ _ _ (plain.alternative-parts (λ x. x) row) refl inner

  guard : (g : Guard A) → body_nodes (guarded (λ x. x) g) ≡ expression_nodes (expression (λ x. x) g.test) ++ expression_nodes (expression (λ x. x) g.body)
  guard g = ap body_nodes (plain.guarded-parts (λ x. x) g)

  -- the test of the first of several guards was found, and its body is left
  pub guard_first : (g : Guard A) (found now next all : List (Node A)) → now ≡ expression_nodes (expression (λ x. x) g.body) ++ next → all ≡ found ++ (expression_nodes (expression (λ x. x) g.test) ++ now)
      → all ≡ found ++ (body_nodes (guarded (λ x. x) g) ++ next)
  guard_first g found now next all e f =
      f ∙ ap (λ ns. found ++ ns) (ap (λ ns. expression_nodes (expression (λ x. x) g.test) ++ ns) e
      ∙ sym (append_assoc (expression_nodes (expression (λ x. x) g.test)) (expression_nodes (expression (λ x. x) g.body)) next) ∙ ap (λ ns. ns ++ next) (sym (guard g)))
