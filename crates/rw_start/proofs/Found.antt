-- The names that are out of place in a tree are those in its parts.
use Rattle.std.proofs.Common.{◌≡◌, ◌∙◌, ℕ, refl, sym, ap, Option, List, [], ◌∷◌, ◌++◌, append_assoc, map, flat_map}
use Rattle.std.proofs.lemmas.Grind.{flat_map-append}
use Rattle.rw_base.specs.declared.place.Place.{Place}
use Rattle.rw_scope_rules.specs.declared.binding.Bound.{Bound}
use Rattle.rw_tree.specs.Views.{itself}
use Rattle.rw_tree.specs.declared.pattern.Pat.{Pat}
use Rattle.rw_tree.specs.declared.expr.Expr.{Expr}
use Rattle.rw_tree.specs.declared.expr.Expr.TheVariants as expr
use Rattle.rw_tree.specs.declared.clause.Local.{Local}
use Rattle.rw_tree.specs.declared.clause.Local.TheVariants as local
use Rattle.rw_tree.specs.declared.clause.Alt.{Alt}
use Rattle.rw_tree.specs.declared.clause.Guard.{Guard}
use Rattle.rw_tree.specs.declared.clause.Rhs.{Rhs}
use Rattle.rw_tree.specs.declared.clause.Rhs.TheVariants as rhs
use Rattle.rw_tree.specs.declared.clause.Stmt.{Stmt}
use Rattle.rw_tree.specs.declared.clause.Stmt.TheVariants as stmt
use Rattle.rw_tree.specs.Patterns.{Pattern, wildcard, variable_pattern, constructor_pattern, tuple_pattern, Patterns, no_patterns, more_patterns, pattern, patterns}
use Rattle.rw_tree.specs.Trees.{Expression, expression, alternative_of, right_side, guarded, local_binding, statement, LocalBindings, expression_parts, alternative_parts, body_parts, binding_parts, statement_parts}
use Rattle.rw_tree.proofs.Plains as plain
use Rattle.rw_scope_rules.specs.Nodes.{Node, group_node, pattern_nodes, parts_nodes, row_nodes, expression_nodes, expressions_nodes, clause_nodes, clauses_nodes, body_nodes, bodies_nodes, binding_nodes, group_nodes, side_nodes, statement_nodes, statements_nodes}
use Rattle.rw_start.specs.Positions.{stray_in_node, strays}
use Rattle.rw_scope_rules.proofs.Lists.{expressions_as, clauses_as, bodies_as, group_as, statements_as}

abbrev seen : Expr Bound → Expression Bound
seen = expression itself

-- the nodes of some trees, one after the other
abbrev expressions : List (Expr Bound) → List (Node Bound)
expressions es = flat_map expression_nodes (map seen es)

abbrev clauses : List (Alt Bound) → List (Node Bound)
clauses rows = flat_map clause_nodes (map (alternative_of (λ (a : Bound). a)) rows)

abbrev guards : List (Guard Bound) → List (Node Bound)
guards gs = flat_map body_nodes (map (guarded (λ (a : Bound). a)) gs)

abbrev bindings : List (Local Bound) → List (Node Bound)
bindings ls = flat_map binding_nodes (map (local_binding (λ (a : Bound). a)) ls)

abbrev statements : List (Stmt Bound) → List (Node Bound)
statements ss = flat_map statement_nodes (map (statement (λ (a : Bound). a)) ss)

-- one list of places more, and two
one : (old new a whole : List Place) → new ≡ old ++ a → whole ≡ a → new ≡ old ++ whole
one old new a whole h same = h ∙ ap (λ z. old ++ z) (sym same)

pub two : (old mid new a b whole : List Place) → mid ≡ old ++ a → new ≡ mid ++ b → whole ≡ a ++ b → new ≡ old ++ whole
two old mid new a b whole first second same = second ∙ ap (λ z. z ++ b) first ∙ append_assoc old a b ∙ ap (λ z. old ++ z) (sym same)

module _ (s : Option ℕ) where
  -- == Lists of nodes ==

  pub parted : (ks ms : List (Node Bound)) → strays s (ks ++ ms) ≡ strays s ks ++ strays s ms
  parted ks ms = flat_map-append (stray_in_node s) ks ms

  clear : (ms ns : List (Node Bound)) → strays s ms ≡ [] → strays s (ms ++ ns) ≡ strays s ns
  clear ms ns h = parted ms ns ∙ ap (λ z. z ++ strays s ns) h

  -- no name stands in a pattern
  mutual
    pattern_clear : (p : Pattern Bound) → strays s (pattern_nodes p) ≡ []
    pattern_clear (wildcard a) = refl
    pattern_clear (variable_pattern a x) = refl
    pattern_clear (constructor_pattern a c parts) = parts_clear parts
    pattern_clear (tuple_pattern a parts) = parts_clear parts

    parts_clear : (ps : Patterns Bound) → strays s (parts_nodes ps) ≡ []
    parts_clear no_patterns = refl
    parts_clear (more_patterns p ps) = clear (pattern_nodes p) (parts_nodes ps) (pattern_clear p) ∙ parts_clear ps

  row_clear : (ps : List (Pattern Bound)) → strays s (row_nodes ps) ≡ []
  row_clear [] = refl
  row_clear (p ∷ ps) = clear (pattern_nodes p) (row_nodes ps) (pattern_clear p) ∙ row_clear ps

  -- == Lists of trees ==

  all_of : (xs given : List (Expr Bound)) → given ≡ xs → strays s (expressions_nodes (expression_parts (map seen xs))) ≡ strays s (expressions given)
  all_of xs given same = ap (strays s) (expressions_as (map seen xs) ∙ ap expressions (sym same))

  rows_of : (xs given : List (Alt Bound)) → given ≡ xs → strays s (clauses_nodes (alternative_parts (map (alternative_of itself) xs))) ≡ strays s (clauses given)
  rows_of xs given same = ap (strays s) (clauses_as (map (alternative_of (λ (a : Bound). a)) xs) ∙ ap clauses (sym same))

  group_of : (xs given : List (Local Bound)) → given ≡ xs → strays s (group_nodes (binding_parts (map (local_binding itself) xs))) ≡ strays s (bindings given)
  group_of xs given same = ap (strays s) (group_as (map (local_binding (λ (a : Bound). a)) xs) ∙ ap bindings (sym same))

  steps_of : (xs given : List (Stmt Bound)) → given ≡ xs → strays s (statements_nodes (statement_parts (map (statement itself) xs))) ≡ strays s (statements given)
  steps_of xs given same = ap (strays s) (statements_as (map (statement (λ (a : Bound). a)) xs) ∙ ap statements (sym same))

  guards_of : (xs given : List (Guard Bound)) → given ≡ xs → strays s (bodies_nodes (body_parts (map (guarded itself) xs))) ≡ strays s (guards given)
  guards_of xs given same = ap (strays s) (bodies_as (map (guarded (λ (a : Bound). a)) xs) ∙ ap guards (sym same))

  -- == Expressions ==

  module _ (t : Expr Bound) (a : Bound) (old : List Place) where
    abbrev whole : List Place
    whole = strays s (expression_nodes (seen t))

    -- the whole, by what its plain form is
    by_form : (e : Expression Bound) → seen t ≡ e → whole ≡ strays s (expression_nodes e)
    by_form e is = ap (λ e. strays s (expression_nodes e)) is

    pub apply : (h : Expr Bound) (xs given : List (Expr Bound)) (mid new : List Place) → t ≡ expr.Apply a h xs → given ≡ xs
        → mid ≡ old ++ strays s (expression_nodes (seen h)) → new ≡ mid ++ strays s (expressions given) → new ≡ old ++ whole
    apply h xs given mid new is same first second =
        two old mid new (strays s (expression_nodes (seen h))) (strays s (expressions given)) whole first second
        (by_form _ (ap seen is ∙ plain.expression-Apply (λ x. x) a h xs) ∙ parted (expression_nodes (seen h)) (expressions_nodes (expression_parts (map seen xs)))
        ∙ ap (λ z. strays s (expression_nodes (seen h)) ++ z) (all_of xs given same))

    pub tuple : (xs given : List (Expr Bound)) (new : List Place) → t ≡ expr.Tuple a xs → given ≡ xs → new ≡ old ++ strays s (expressions given) → new ≡ old ++ whole
    tuple xs given new is same h = one old new (strays s (expressions given)) whole h (by_form _ (ap seen is ∙ plain.expression-Tuple (λ x. x) a xs) ∙ all_of xs given same)

    pub chain : (xs given os marks : List (Expr Bound)) (mid new : List Place) → t ≡ expr.Chain a xs os → given ≡ xs → marks ≡ os
        → mid ≡ old ++ strays s (expressions given) → new ≡ mid ++ strays s (expressions marks) → new ≡ old ++ whole
    chain xs given os marks mid new is same same_marks first second =
        two old mid new (strays s (expressions given)) (strays s (expressions marks)) whole first second
        (by_form _ (ap seen is ∙ plain.expression-Chain (λ x. x) a xs os) ∙ parted (expressions_nodes (expression_parts (map seen xs))) (expressions_nodes (expression_parts (map seen os)))
        ∙ ap (λ z. z ++ strays s (expressions_nodes (expression_parts (map seen os)))) (all_of xs given same) ∙ ap (λ z. strays s (expressions given) ++ z) (all_of os marks same_marks))

    pub lambda : (ps : List (Pat Bound)) (b : Expr Bound) (new : List Place) → t ≡ expr.Lambda a ps b → new ≡ old ++ strays s (expression_nodes (seen b)) → new ≡ old ++ whole
    lambda ps b new is h =
        one old new (strays s (expression_nodes (seen b))) whole h
        (by_form _ (ap seen is ∙ plain.expression-Lambda (λ x. x) a ps b) ∙ clear (row_nodes (patterns (λ x. x) ps)) (expression_nodes (seen b)) (row_clear (patterns (λ x. x) ps)))

    pub let_in : (ls given : List (Local Bound)) (b : Expr Bound) (mid new : List Place) → t ≡ expr.Let a ls b → given ≡ ls
        → mid ≡ old ++ strays s (bindings given) → new ≡ mid ++ strays s (expression_nodes (seen b)) → new ≡ old ++ whole
    let_in ls given b mid new is same first second =
        two old mid new (strays s (bindings given)) (strays s (expression_nodes (seen b))) whole first second
        (by_form _ (ap seen is ∙ plain.expression-Let (λ x. x) a ls b) ∙ parted (group_nodes (binding_parts (map (local_binding (λ (x : Bound). x)) ls))) (expression_nodes (seen b))
        ∙ ap (λ z. z ++ strays s (expression_nodes (seen b))) (group_of ls given same))

    pub if_then_else : (x y z : Expr Bound) (p q new : List Place) → t ≡ expr.If a x y z
        → p ≡ old ++ strays s (expression_nodes (seen x)) → q ≡ p ++ strays s (expression_nodes (seen y)) → new ≡ q ++ strays s (expression_nodes (seen z)) → new ≡ old ++ whole
    if_then_else x y z p q new is first second third =
        two old p new (strays s (expression_nodes (seen x))) (strays s (expression_nodes (seen y) ++ expression_nodes (seen z))) whole first
        (two p q new (strays s (expression_nodes (seen y))) (strays s (expression_nodes (seen z))) (strays s (expression_nodes (seen y) ++ expression_nodes (seen z))) second third (parted (expression_nodes (seen y)) (expression_nodes (seen z))))
        (by_form _ (ap seen is ∙ plain.expression-If (λ x. x) a x y z) ∙ parted (expression_nodes (seen x)) (expression_nodes (seen y) ++ expression_nodes (seen z)))

    pub case_of : (x : Expr Bound) (rows given : List (Alt Bound)) (mid new : List Place) → t ≡ expr.Case a x rows → given ≡ rows
        → mid ≡ old ++ strays s (expression_nodes (seen x)) → new ≡ mid ++ strays s (clauses given) → new ≡ old ++ whole
    case_of x rows given mid new is same first second =
        two old mid new (strays s (expression_nodes (seen x))) (strays s (clauses given)) whole first second
        (by_form _ (ap seen is ∙ plain.expression-Case (λ x. x) a x rows) ∙ parted (expression_nodes (seen x)) (clauses_nodes (alternative_parts (map (alternative_of (λ (x : Bound). x)) rows)))
        ∙ ap (λ z. strays s (expression_nodes (seen x)) ++ z) (rows_of rows given same))

    pub do_block : (ss given : List (Stmt Bound)) (new : List Place) → t ≡ expr.Do a ss → given ≡ ss → new ≡ old ++ strays s (statements given) → new ≡ old ++ whole
    do_block ss given new is same h = one old new (strays s (statements given)) whole h (by_form _ (ap seen is ∙ plain.expression-Do (λ x. x) a ss) ∙ steps_of ss given same)

  -- == Clauses, local bindings and statements ==

  pub clause : (row : Alt Bound) (given : List (Local Bound)) (old mid new : List Place) → given ≡ row.wheres
      → mid ≡ old ++ strays s (side_nodes (right_side (λ x. x) row.rhs)) → new ≡ mid ++ strays s (bindings given) → new ≡ old ++ strays s (clause_nodes (alternative_of (λ x. x) row))
  clause row given old mid new same first second =
      let side : List (Node Bound) = side_nodes (right_side (λ x. x) row.rhs) in
      let group : LocalBindings Bound = binding_parts (map (local_binding (λ x. x)) row.wheres) in
      two old mid new (strays s side) (strays s (bindings given)) (strays s (clause_nodes (alternative_of (λ x. x) row))) first second
      (ap (λ c. strays s (clause_nodes c)) (plain.alternative-parts (λ (x : Bound). x) row)
      ∙ clear (row_nodes (patterns (λ x. x) row.pats)) (side ++ group_node group ∷ group_nodes group) (row_clear (patterns (λ x. x) row.pats))
      ∙ parted side (group_node group ∷ group_nodes group)
      ∙ ap (λ z. strays s side ++ z) (group_of row.wheres given same))

  pub guarded_side : (t : Rhs Bound) (gs given : List (Guard Bound)) (old new : List Place) → t ≡ rhs.Guarded gs → given ≡ gs
      → new ≡ old ++ strays s (guards given) → new ≡ old ++ strays s (side_nodes (right_side (λ x. x) t))
  guarded_side t gs given old new is same h =
      one old new (strays s (guards given)) (strays s (side_nodes (right_side (λ x. x) t))) h
      (ap (λ e. strays s (side_nodes e)) (ap (right_side (λ x. x)) is ∙ plain.right_side-Guarded (λ (x : Bound). x) gs) ∙ guards_of gs given same)

  pub function : (t : Local Bound) (a : Bound) (n : List ℕ) (rows given : List (Alt Bound)) (old new : List Place) → t ≡ local.Fun a n rows → given ≡ rows
      → new ≡ old ++ strays s (clauses given) → new ≡ old ++ strays s (binding_nodes (local_binding (λ x. x) t))
  function t a n rows given old new is same h =
      one old new (strays s (clauses given)) (strays s (binding_nodes (local_binding (λ x. x) t))) h
      (ap (λ e. strays s (binding_nodes e)) (ap (local_binding (λ x. x)) is ∙ plain.local_binding-Fun (λ (x : Bound). x) a n rows) ∙ rows_of rows given same)

  pub bind_statement : (t : Stmt Bound) (a : Bound) (p : Pat Bound) (b : Expr Bound) (old new : List Place) → t ≡ stmt.Bind a p b
      → new ≡ old ++ strays s (expression_nodes (seen b)) → new ≡ old ++ strays s (statement_nodes (statement (λ x. x) t))
  bind_statement t a p b old new is h =
      one old new (strays s (expression_nodes (seen b))) (strays s (statement_nodes (statement (λ x. x) t))) h
      (ap (λ e. strays s (statement_nodes e)) (ap (statement (λ x. x)) is ∙ plain.statement-Bind (λ (x : Bound). x) a p b)
      ∙ clear (pattern_nodes (pattern (λ x. x) p)) (expression_nodes (seen b)) (pattern_clear (pattern (λ x. x) p)))

  pub let_statement : (t : Stmt Bound) (a : Bound) (ls given : List (Local Bound)) (old new : List Place) → t ≡ stmt.Let a ls → given ≡ ls
      → new ≡ old ++ strays s (bindings given) → new ≡ old ++ strays s (statement_nodes (statement (λ x. x) t))
  let_statement t a ls given old new is same h =
      one old new (strays s (bindings given)) (strays s (statement_nodes (statement (λ x. x) t))) h
      (ap (λ e. strays s (statement_nodes e)) (ap (statement (λ x. x)) is ∙ plain.statement-Let (λ (x : Bound). x) a ls) ∙ group_of ls given same)
