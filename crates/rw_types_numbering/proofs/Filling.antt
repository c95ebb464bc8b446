-- A typed tree whose types agree is its erasure, numbered, under each assignment that spells its types.
use Rattle.std.proofs.Common.{◌≡◌, ◌∙◌, ℕ, zero, suc, ◌+◌, ◌<◌, Bool, true, false, Option, Some, None, List, [], ◌∷◌, ◌++◌, length, map, get_or, refl, sym, ap, subst, arith}
use Rattle.std.specs.List.{flat_map}
use Rattle.rw_scope_rules.specs.declared.binding.Bound.{Bound}
use Rattle.rw_scope_rules.specs.declared.binding.Binding.{Binding}
use Rattle.rw_scope_rules.specs.declared.binding.Binding.TheVariants.{Declared, Operation as Operates, Constructor as Constructs, Local}
use Rattle.rw_scope_rules.specs.declared.binding.Operation.TheVariants.{Bind, Then}
use Rattle.rw_scope_rules.specs.Nodes.{Node, group_node, pattern_nodes, parts_nodes, row_nodes, expression_nodes, expressions_nodes, clause_nodes, clauses_nodes, side_nodes, body_nodes, bodies_nodes, binding_nodes, group_nodes, statement_nodes, statements_nodes, declaration_nodes}
use Rattle.rw_tree.specs.Patterns.{Pattern, wildcard, variable_pattern, constructor_pattern, tuple_pattern, Patterns, no_patterns, more_patterns}
use Rattle.rw_tree.specs.Trees.{Expression, variable, constructor, application, tuple, chain, lambda, let_in, if_then_else, case_of, do_block, Expressions, no_expressions, more_expressions}
use Rattle.rw_tree.specs.Trees.{Alternative, alternative, Alternatives, no_alternatives, more_alternatives, RightSide, plain_side, guarded_side, GuardedBody, guarded_body, GuardedBodies, no_bodies, more_bodies}
use Rattle.rw_tree.specs.Trees.{LocalBinding, local_signature, local_function, local_pattern, LocalBindings, no_bindings, more_bindings, Statement, bind_statement, let_statement, run_statement, Statements, no_statements, more_statements}
use Rattle.rw_tree.specs.Declarations.{Declaration, import_declaration, data_declaration, fixity_declaration, signature_declaration, function_declaration}
use Rattle.rw_types_solving.specs.declared.term.Sort.{Sort}
use Rattle.rw_types_solving.specs.Types.{Ty}
use Rattle.rw_types_rules.specs.declared.kind.VariableKind.{VariableKind}
use Rattle.rw_types_rules.specs.Schemes.{Scheme, operation_scheme, World, scheme_at}
use Rattle.rw_types_rules.specs.Relabelled.{relabelled_pattern, relabelled_parts, relabelled_row, relabelled_expression, relabelled_expressions, relabelled_alternative, relabelled_alternatives, relabelled_side, relabelled_body, relabelled_bodies, relabelled_binding, relabelled_group, relabelled_statement, relabelled_statements}
use Rattle.rw_types_rules.specs.TypedTrees.{TypedNode, erased, are_none, pattern_type, expression_type, parts_types, row_types, row_locals, group_locals, statement_locals}
use Rattle.rw_types_rules.specs.WellTyped.{IsInstance, IsMatched, IsBind, IsThen, NameAgrees, PatternAgrees, PartsAgree, RowAgrees, ExpressionAgrees, ExpressionsAgree, ClauseAgrees, ClausesAgree, SideAgrees, BodyAgrees, BodiesAgree, BindingAgrees, BoundPatternAgrees, GroupAgrees, StatementAgrees, StatementsAgree, AllClausesAgree, DeclarationAgrees}
use Rattle.rw_types_rules.specs.Typings.{scheme_kinds, MayAllBe, NodesCarry, declaration_label, own_kinds, IsTyping}
use Rattle.rw_types_rules.specs.Words.{function, unit_type}
use Rattle.rw_types_numbering.specs.Fits.{typed_label, typed_declaration}
use Rattle.rw_types_numbering.specs.Labelled.{labelled_pattern, labelled_parts, labelled_row, labelled_expression, labelled_expressions, labelled_clause, labelled_clauses, labelled_side, labelled_body, labelled_bodies, labelled_binding, labelled_group, labelled_statement, labelled_statements, labelled_all_clauses, labelled_declaration}
use Rattle.rw_types_numbering.specs.Slots.{name_kinds, pattern_slots, parts_slots, row_slots, expression_slots, expressions_slots, clause_slots, clauses_slots, side_slots, body_slots, bodies_slots, binding_slots, group_slots, statement_slots, statements_slots, all_clauses_slots, declaration_slots}
use Rattle.rw_types_numbering.specs.Rows.{Spells, pattern_carried, parts_carried, row_carried, expression_carried, expressions_carried, clause_carried, clauses_carried, side_carried, body_carried, bodies_carried, binding_carried, group_carried, statement_carried, statements_carried, all_clauses_carried, declaration_carried}
use Rattle.rw_types_numbering.proofs.Filled.{Filled, joined, paired, nothing, within, leaf, over, above}

module _ (sorts : ℕ → Sort) (states : ℕ → Bool) (own : List VariableKind) (world : World) where
  abbrev Carry : List (Node TypedNode) → Type 0
  Carry nodes = NodesCarry sorts states own world nodes

  carry_first : (xs ys : List (Node TypedNode)) → Carry (xs ++ ys) → Carry xs
  carry_first [] ys c = tt
  carry_first (x ∷ xs) ys c = (c.0, carry_first xs ys c.1)

  carry_rest : (xs ys : List (Node TypedNode)) → Carry (xs ++ ys) → Carry ys
  carry_rest [] ys c = c
  carry_rest (x ∷ xs) ys c = carry_rest xs ys c.1

  -- as many arguments as kinds
  none_of : (types : List Ty) → MayAllBe sorts states own world [] types → 0 ≡ length types
  none_of [] h = refl
  none_of (x ∷ xs) h = absurd h

  instance_of : (s : Option Scheme) (types : List Ty) (type : Ty) → IsInstance s types type → length (scheme_kinds s) ≡ length types
  instance_of None types type h = absurd h
  instance_of (Some s) types type h = sym h.0

  matched_of : (s : Option Scheme) (types parts : List Ty) (type : Ty) → IsMatched s types parts type → length (scheme_kinds s) ≡ length types
  matched_of None types parts type h = absurd h
  matched_of (Some s) types parts type h = sym h.0

  name_of : (locals : List Ty) (b : Option Binding) (a : TypedNode) → NameAgrees world locals b a → MayAllBe sorts states own world (scheme_kinds (scheme_at world b)) a.arguments
      → length (scheme_kinds (scheme_at world b)) ≡ length a.arguments
  name_of locals None a h c = instance_of (scheme_at world None) a.arguments a.type h
  name_of locals (Some (Local k)) a h c = none_of a.arguments c
  name_of locals (Some (Declared k)) a h c = instance_of (scheme_at world (Some (Declared k))) a.arguments a.type h
  name_of locals (Some (Operates o)) a h c = instance_of (scheme_at world (Some (Operates o))) a.arguments a.type h
  name_of locals (Some (Constructs k place)) a h c = instance_of (scheme_at world (Some (Constructs k place))) a.arguments a.type h

  bind_of : (types : List Ty) (e p block : Ty) → IsBind types e p block → length (operation_scheme Bind).kinds ≡ length types
  bind_of [] e p block h = absurd h
  bind_of (x ∷ []) e p block h = absurd h
  bind_of (x ∷ y ∷ []) e p block h = absurd h
  bind_of (x ∷ y ∷ z ∷ []) e p block h = refl
  bind_of (x ∷ y ∷ z ∷ w ∷ types) e p block h = absurd h

  then_of : (types : List Ty) (e block : Ty) → IsThen types e block → length (operation_scheme Then).kinds ≡ length types
  then_of [] e block h = absurd h
  then_of (x ∷ []) e block h = absurd h
  then_of (x ∷ y ∷ []) e block h = absurd h
  then_of (x ∷ y ∷ z ∷ []) e block h = refl
  then_of (x ∷ y ∷ z ∷ w ∷ types) e block h = absurd h

  last_of : (types : List Ty) → types ≡ [] → 0 ≡ length types
  last_of types e = sym (ap length e)

  abbrev node_of : TypedNode → Bound
  node_of a = a.node

  -- a tree is what its erasure is under each assignment that spells its types
  abbrev PatternFilled : Pattern TypedNode → Type 0
  PatternFilled p = Filled (pattern_slots world (relabelled_pattern node_of p)) (pattern_carried p) (λ t n. labelled_pattern (typed_label t) world n (relabelled_pattern node_of p)) p

  abbrev PartsFilled : Patterns TypedNode → Type 0
  PartsFilled ps = Filled (parts_slots world (relabelled_parts node_of ps)) (parts_carried ps) (λ t n. labelled_parts (typed_label t) world n (relabelled_parts node_of ps)) ps

  abbrev RowFilled : List (Pattern TypedNode) → Type 0
  RowFilled ps = Filled (row_slots world (relabelled_row node_of ps)) (row_carried ps) (λ t n. labelled_row (typed_label t) world n (relabelled_row node_of ps)) ps

  abbrev ExpressionFilled : Expression TypedNode → Type 0
  ExpressionFilled e = Filled (expression_slots world (relabelled_expression node_of e)) (expression_carried e) (λ t n. labelled_expression (typed_label t) world n (relabelled_expression node_of e)) e

  abbrev ExpressionsFilled : Expressions TypedNode → Type 0
  ExpressionsFilled es = Filled (expressions_slots world (relabelled_expressions node_of es)) (expressions_carried es) (λ t n. labelled_expressions (typed_label t) world n (relabelled_expressions node_of es)) es

  abbrev ClauseFilled : Alternative TypedNode → Type 0
  ClauseFilled c = Filled (clause_slots world (relabelled_alternative node_of c)) (clause_carried c) (λ t n. labelled_clause (typed_label t) world n (relabelled_alternative node_of c)) c

  abbrev ClausesFilled : Alternatives TypedNode → Type 0
  ClausesFilled cs = Filled (clauses_slots world (relabelled_alternatives node_of cs)) (clauses_carried cs) (λ t n. labelled_clauses (typed_label t) world n (relabelled_alternatives node_of cs)) cs

  abbrev SideFilled : RightSide TypedNode → Type 0
  SideFilled s = Filled (side_slots world (relabelled_side node_of s)) (side_carried s) (λ t n. labelled_side (typed_label t) world n (relabelled_side node_of s)) s

  abbrev BodyFilled : GuardedBody TypedNode → Type 0
  BodyFilled b = Filled (body_slots world (relabelled_body node_of b)) (body_carried b) (λ t n. labelled_body (typed_label t) world n (relabelled_body node_of b)) b

  abbrev BodiesFilled : GuardedBodies TypedNode → Type 0
  BodiesFilled bs = Filled (bodies_slots world (relabelled_bodies node_of bs)) (bodies_carried bs) (λ t n. labelled_bodies (typed_label t) world n (relabelled_bodies node_of bs)) bs

  abbrev BindingFilled : LocalBinding TypedNode → Type 0
  BindingFilled b = Filled (binding_slots world (relabelled_binding node_of b)) (binding_carried b) (λ t n. labelled_binding (typed_label t) world n (relabelled_binding node_of b)) b

  abbrev GroupFilled : LocalBindings TypedNode → Type 0
  GroupFilled bs = Filled (group_slots world (relabelled_group node_of bs)) (group_carried bs) (λ t n. labelled_group (typed_label t) world n (relabelled_group node_of bs)) bs

  abbrev StatementFilled : Bool → Statement TypedNode → Type 0
  StatementFilled last s = Filled (statement_slots world last (relabelled_statement node_of s)) (statement_carried s) (λ t n. labelled_statement (typed_label t) world last n (relabelled_statement node_of s)) s

  abbrev StatementsFilled : Statements TypedNode → Type 0
  StatementsFilled ss = Filled (statements_slots world (relabelled_statements node_of ss)) (statements_carried ss) (λ t n. labelled_statements (typed_label t) world n (relabelled_statements node_of ss)) ss

  mutual
    filled_pattern : (p : Pattern TypedNode) → PatternAgrees world p → Carry (pattern_nodes p) → PatternFilled p
    filled_pattern (wildcard a) g c = leaf (λ z. wildcard z) [] a (none_of a.arguments c.0.1)
    filled_pattern (variable_pattern a x) g c = leaf (λ z. variable_pattern z x) [] a (none_of a.arguments c.0.1)
    filled_pattern (constructor_pattern a k parts) g c =
        over (λ z ps. constructor_pattern z k ps) (name_kinds world a.node) a (matched_of (scheme_at world a.node.bound) a.arguments (parts_types parts) a.type g.0) (filled_parts parts g.1 c.1)
    filled_pattern (tuple_pattern a parts) g c = above (λ z ps. tuple_pattern z ps) a (none_of a.arguments c.0.1) (filled_parts parts g.1 c.1)

    filled_parts : (ps : Patterns TypedNode) → PartsAgree world ps → Carry (parts_nodes ps) → PartsFilled ps
    filled_parts no_patterns g c = nothing no_patterns
    filled_parts (more_patterns p ps) g c =
        joined (λ x y. more_patterns x y) (filled_pattern p g.0 (carry_first (pattern_nodes p) (parts_nodes ps) c)) (filled_parts ps g.1 (carry_rest (pattern_nodes p) (parts_nodes ps) c))

  filled_row : (ps : List (Pattern TypedNode)) → RowAgrees world ps → Carry (row_nodes ps) → RowFilled ps
  filled_row [] g c = nothing []
  filled_row (p ∷ ps) g c =
      joined (λ x y. x ∷ y) (filled_pattern p g.0 (carry_first (pattern_nodes p) (row_nodes ps) c)) (filled_row ps g.1 (carry_rest (pattern_nodes p) (row_nodes ps) c))

  -- the last statement is of no instance
  statement_last : (ss : Statements TypedNode) → are_none (relabelled_statements node_of ss) ≡ are_none ss
  statement_last no_statements = refl
  statement_last (more_statements s ss) = refl

  -- a clause from its parts
  clause_from : (a : TypedNode) (pats : List (Pattern TypedNode)) (side : RightSide TypedNode) (wheres : LocalBindings TypedNode) → Carry (clause_nodes (alternative a pats side wheres))
      → (Carry (row_nodes pats) → RowFilled pats) → (Carry (side_nodes side) → SideFilled side) → (Carry (group_nodes wheres) → GroupFilled wheres) → ClauseFilled (alternative a pats side wheres)
  clause_from a pats side wheres c row right group =
      let rest = carry_rest (row_nodes pats) (side_nodes side ++ (group_node wheres ∷ group_nodes wheres)) c.1 in
      above (λ z x. alternative z x.0 x.1.0 x.1.1) a (none_of a.arguments c.0.1)
      (paired (row (carry_first (row_nodes pats) (side_nodes side ++ (group_node wheres ∷ group_nodes wheres)) c.1))
      (paired (right (carry_first (side_nodes side) (group_node wheres ∷ group_nodes wheres) rest)) (group (carry_rest (side_nodes side) (group_node wheres ∷ group_nodes wheres) rest).1)))

  mutual
    filled_expression : (locals : List Ty) (e : Expression TypedNode) → ExpressionAgrees world locals e → Carry (expression_nodes e) → ExpressionFilled e
    filled_expression locals (variable a x) g c = leaf (λ z. variable z x) (name_kinds world a.node) a (name_of locals a.node.bound a g c.0.1)
    filled_expression locals (constructor a k) g c = leaf (λ z. constructor z k) (name_kinds world a.node) a (instance_of (scheme_at world a.node.bound) a.arguments a.type g)
    filled_expression locals (application a head parts) g c =
        above (λ z x. application z x.0 x.1) a (none_of a.arguments c.0.1)
        (paired (filled_expression locals head g.1 (carry_first (expression_nodes head) (expressions_nodes parts) c.1))
        (filled_expressions locals parts g.2 (carry_rest (expression_nodes head) (expressions_nodes parts) c.1)))
    filled_expression locals (tuple a parts) g c = above (λ z x. tuple z x) a (none_of a.arguments c.0.1) (filled_expressions locals parts g.1 c.1)
    filled_expression locals (chain a operands operators) g c = absurd g
    filled_expression locals (lambda a pats body) g c =
        above (λ z x. lambda z x.0 x.1) a (none_of a.arguments c.0.1)
        (paired (filled_row pats g.1 (carry_first (row_nodes pats) (expression_nodes body) c.1))
        (filled_expression (locals ++ row_locals pats) body g.2 (carry_rest (row_nodes pats) (expression_nodes body) c.1)))
    filled_expression locals (let_in a group body) g c =
        above (λ z x. let_in z x.0 x.1) a (none_of a.arguments c.0.1)
        (paired (filled_group (locals ++ group_locals group) group g.1 (carry_first (group_nodes group) (expression_nodes body) c.1.1))
        (filled_expression (locals ++ group_locals group) body g.2 (carry_rest (group_nodes group) (expression_nodes body) c.1.1)))
    filled_expression locals (if_then_else a test first second) g c =
        let rest = carry_rest (expression_nodes test) (expression_nodes first ++ expression_nodes second) c.1 in
        above (λ z x. if_then_else z x.0 x.1.0 x.1.1) a (none_of a.arguments c.0.1)
        (paired (filled_expression locals test g.1 (carry_first (expression_nodes test) (expression_nodes first ++ expression_nodes second) c.1))
        (paired (filled_expression locals first g.2 (carry_first (expression_nodes first) (expression_nodes second) rest))
        (filled_expression locals second g.3 (carry_rest (expression_nodes first) (expression_nodes second) rest))))
    filled_expression locals (case_of a scrutinee rows) g c =
        above (λ z x. case_of z x.0 x.1) a (none_of a.arguments c.0.1)
        (paired (filled_expression locals scrutinee g.0 (carry_first (expression_nodes scrutinee) (clauses_nodes rows) c.1))
        (filled_clauses locals (function (expression_type scrutinee) a.type) rows g.1 (carry_rest (expression_nodes scrutinee) (clauses_nodes rows) c.1)))
    filled_expression locals (do_block a statements) g c = above (λ z x. do_block z x) a (none_of a.arguments c.0.1) (filled_statements locals a.type statements g c.1)

    filled_expressions : (locals : List Ty) (es : Expressions TypedNode) → ExpressionsAgree world locals es → Carry (expressions_nodes es) → ExpressionsFilled es
    filled_expressions locals no_expressions g c = nothing no_expressions
    filled_expressions locals (more_expressions e es) g c =
        joined (λ x y. more_expressions x y) (filled_expression locals e g.0 (carry_first (expression_nodes e) (expressions_nodes es) c))
        (filled_expressions locals es g.1 (carry_rest (expression_nodes e) (expressions_nodes es) c))

    filled_clause : (locals : List Ty) (a : Alternative TypedNode) → ClauseAgrees world locals a → Carry (clause_nodes a) → ClauseFilled a
    filled_clause locals (alternative a pats side wheres) g c =
        clause_from a pats side wheres c
        (λ r. filled_row pats g.0 r)
        (λ r. filled_side ((locals ++ row_locals pats) ++ group_locals wheres) (row_types pats) a.type side g.1 r)
        (λ r. filled_group ((locals ++ row_locals pats) ++ group_locals wheres) wheres g.2 r)

    filled_bound : (locals : List Ty) (type : Ty) (a : Alternative TypedNode) → BoundPatternAgrees world locals type a → Carry (clause_nodes a) → ClauseFilled a
    filled_bound locals type (alternative a pats side wheres) g c =
        clause_from a pats side wheres c
        (λ r. filled_row pats g.0.2 r)
        (λ r. filled_side (locals ++ group_locals wheres) [] type side g.1 r)
        (λ r. filled_group (locals ++ group_locals wheres) wheres g.2 r)

    filled_clauses : (locals : List Ty) (type : Ty) (cs : Alternatives TypedNode) → ClausesAgree world locals type cs → Carry (clauses_nodes cs) → ClausesFilled cs
    filled_clauses locals type no_alternatives g c = nothing no_alternatives
    filled_clauses locals type (more_alternatives a as') g c =
        joined (λ x y. more_alternatives x y) (filled_clause locals a g.1 (carry_first (clause_nodes a) (clauses_nodes as') c))
        (filled_clauses locals type as' g.2 (carry_rest (clause_nodes a) (clauses_nodes as') c))

    filled_side : (locals from : List Ty) (type : Ty) (side : RightSide TypedNode) → SideAgrees world locals from type side → Carry (side_nodes side) → SideFilled side
    filled_side locals from type (plain_side body) g c = within (λ x. plain_side x) (filled_expression locals body g.1 c)
    filled_side locals from type (guarded_side bodies) g c = within (λ x. guarded_side x) (filled_bodies locals from type bodies g c)

    filled_body : (locals from : List Ty) (type : Ty) (b : GuardedBody TypedNode) → BodyAgrees world locals from type b → Carry (body_nodes b) → BodyFilled b
    filled_body locals from type (guarded_body test body) g c =
        joined (λ x y. guarded_body x y) (filled_expression locals test g.1 (carry_first (expression_nodes test) (expression_nodes body) c))
        (filled_expression locals body g.2 (carry_rest (expression_nodes test) (expression_nodes body) c))

    filled_bodies : (locals from : List Ty) (type : Ty) (bs : GuardedBodies TypedNode) → BodiesAgree world locals from type bs → Carry (bodies_nodes bs) → BodiesFilled bs
    filled_bodies locals from type no_bodies g c = nothing no_bodies
    filled_bodies locals from type (more_bodies b bs) g c =
        joined (λ x y. more_bodies x y) (filled_body locals from type b g.0 (carry_first (body_nodes b) (bodies_nodes bs) c))
        (filled_bodies locals from type bs g.1 (carry_rest (body_nodes b) (bodies_nodes bs) c))

    filled_binding : (locals : List Ty) (b : LocalBinding TypedNode) → BindingAgrees world locals b → Carry (binding_nodes b) → BindingFilled b
    filled_binding locals (local_signature a x type) g c = leaf (λ z. local_signature z x type) [] a (none_of a.arguments c.0.1)
    filled_binding locals (local_function a x clauses) g c = above (λ z y. local_function z x y) a (none_of a.arguments c.0.1) (filled_clauses locals a.type clauses g c.1)
    filled_binding locals (local_pattern a bound) g c = above (λ z y. local_pattern z y) a (none_of a.arguments c.0.1) (filled_bound locals a.type bound g c.1)

    filled_group : (locals : List Ty) (bs : LocalBindings TypedNode) → GroupAgrees world locals bs → Carry (group_nodes bs) → GroupFilled bs
    filled_group locals no_bindings g c = nothing no_bindings
    filled_group locals (more_bindings b bs) g c =
        joined (λ x y. more_bindings x y) (filled_binding locals b g.0 (carry_first (binding_nodes b) (group_nodes bs) c))
        (filled_group locals bs g.1 (carry_rest (binding_nodes b) (group_nodes bs) c))

    filled_statement : (locals : List Ty) (block : Ty) (last : Bool) (s : Statement TypedNode) → StatementAgrees world locals block last s → Carry (statement_nodes s) → StatementFilled last s
    filled_statement locals block true (run_statement a e) g c = above (λ z x. run_statement z x) a (last_of a.arguments g.0.1) (filled_expression locals e g.1 c.1)
    filled_statement locals block true (bind_statement a p e) g c = absurd g
    filled_statement locals block true (let_statement a group) g c = absurd g
    filled_statement locals block false (run_statement a e) g c =
        over (λ z x. run_statement z x) (operation_scheme Then).kinds a (then_of a.arguments (expression_type e) block g.0.1) (filled_expression locals e g.1 c.1)
    filled_statement locals block false (bind_statement a p e) g c =
        over (λ z x. bind_statement z x.0 x.1) (operation_scheme Bind).kinds a (bind_of a.arguments (expression_type e) (pattern_type p) block g.0.1)
        (paired (filled_pattern p g.1 (carry_first (pattern_nodes p) (expression_nodes e) c.1)) (filled_expression locals e g.2 (carry_rest (pattern_nodes p) (expression_nodes e) c.1)))
    filled_statement locals block false (let_statement a group) g c =
        above (λ z x. let_statement z x) a (none_of a.arguments c.0.1) (filled_group (locals ++ group_locals group) group g.1 c.1.1)

    filled_statements : (locals : List Ty) (block : Ty) (ss : Statements TypedNode) → StatementsAgree world locals block ss → Carry (statements_nodes ss) → StatementsFilled ss
    filled_statements locals block no_statements g c = nothing no_statements
    filled_statements locals block (more_statements s ss) g c =
        joined (λ x y. more_statements x y)
        (subst (λ b. StatementFilled b s) (sym (statement_last ss)) (filled_statement locals block (are_none ss) s g.0 (carry_first (statement_nodes s) (statements_nodes ss) c)))
        (filled_statements (locals ++ statement_locals s) block ss g.1 (carry_rest (statement_nodes s) (statements_nodes ss) c))

  abbrev AllFilled : List (Alternative TypedNode) → Type 0
  AllFilled cs = Filled (all_clauses_slots world (map (relabelled_alternative node_of) cs)) (all_clauses_carried cs) (λ t n. labelled_all_clauses (typed_label t) world n (map (relabelled_alternative node_of) cs)) cs

  filled_all : (type : Ty) (cs : List (Alternative TypedNode)) → AllClausesAgree world type cs → Carry (flat_map clause_nodes cs) → AllFilled cs
  filled_all type [] g c = nothing []
  filled_all type (a ∷ cs) g c =
      joined (λ x y. x ∷ y) (filled_clause [] a g.1 (carry_first (clause_nodes a) (flat_map clause_nodes cs) c)) (filled_all type cs g.2 (carry_rest (clause_nodes a) (flat_map clause_nodes cs) c))

  filled_declaration : (d : Declaration TypedNode) → DeclarationAgrees world d → MayAllBe sorts states own world [] (declaration_label d).arguments → Carry (declaration_nodes d)
      → Filled (declaration_slots world (erased d)) (declaration_carried d) (λ t n. labelled_declaration (typed_label t) world n (erased d)) d
  filled_declaration (import_declaration a m) g h c = leaf (λ z. import_declaration z m) [] a (none_of a.arguments h)
  filled_declaration (data_declaration a x params constructors) g h c = leaf (λ z. data_declaration z x params constructors) [] a (none_of a.arguments h)
  filled_declaration (fixity_declaration a side strength names) g h c = leaf (λ z. fixity_declaration z side strength names) [] a (none_of a.arguments h)
  filled_declaration (signature_declaration a names type) g h c = leaf (λ z. signature_declaration z names type) [] a (none_of a.arguments h)
  filled_declaration (function_declaration a x clauses) g h c = above (λ z y. function_declaration z x y) a (none_of a.arguments h) (filled_all a.type clauses g.1 c)

spells_all : (t : ℕ → Ty) (n : ℕ) (types : List Ty) (d : Ty) → ((i j : ℕ) → j ≡ n + i → i < length types → t j ≡ get_or types i d) → Spells t n types
spells_all t n [] d h = tt
spells_all t n (x ∷ xs) d h = (h zero n (omega arith) (omega arith), spells_all t (suc n) xs d (λ i j e l. h (suc i) j (omega arith) (omega arith)))

-- the types of a typed tree, read off by their numbers
abbrev pub types_at : List Ty → ℕ → Ty
types_at types n = get_or types n unit_type

types_spelled : (types : List Ty) → Spells (types_at types) 0 types
types_spelled types = spells_all (types_at types) 0 types unit_type (λ i j e l. let same : j ≡ i = omega arith in ap (types_at types) same)

module _ (sorts : ℕ → Sort) (states : ℕ → Bool) (world : World) (d : Declaration Bound) (typed : Declaration TypedNode) (is : IsTyping sorts states world d typed) where
  filled : Filled (declaration_slots world (erased typed)) (declaration_carried typed) (λ t n. labelled_declaration (typed_label t) world n (erased typed)) typed
  filled = filled_declaration sorts states (own_kinds world typed) world typed is.agrees is.carries.1 is.nodes_carry

  -- each number has one
  pub types_as_many : length (declaration_slots world d) ≡ length (declaration_carried typed)
  types_as_many = ap (λ e. length (declaration_slots world e)) (sym is.erases) ∙ filled.as_many

  -- so each typing is the typed tree of its own types
  pub from_types : typed ≡ typed_declaration (types_at (declaration_carried typed)) world d
  from_types =
      sym (filled.is (types_at (declaration_carried typed)) 0 (types_spelled (declaration_carried typed))) ∙ ap (typed_declaration (types_at (declaration_carried typed)) world) is.erases

  pub from_assignment : (t : ℕ → Ty) × (typed ≡ typed_declaration t world d)
  from_assignment = (types_at (declaration_carried typed), from_types)
