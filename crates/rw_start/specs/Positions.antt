-- The rule on systems, E16: `par` and `refold` stand only where they make the system that the body of `start` is, `start` isn't named where its
-- body is one, and a system has at most 64 devices. After names are bound each of the three is known by what it is bound to.
use Rattle.std.specs.Prelude.{ℕ, suc, List, [], ◌∷◌, ◌++◌, map, flat_map, take, drop, Bool, true, false, nat_eq, Option, Some, None}
use Rattle.rw_base.specs.declared.place.Place.{Place}
use Rattle.rw_scope_rules.specs.declared.binding.Operation.TheVariants.{Par, Refold}
use Rattle.rw_scope_rules.specs.declared.binding.Binding.{Binding}
use Rattle.rw_scope_rules.specs.declared.binding.Binding.TheVariants.{Declared, Operation as Operates}
use Rattle.rw_scope_rules.specs.declared.binding.Bound.{Bound}
use Rattle.rw_tree.specs.Trees.{Expression, variable, constructor, application, tuple, chain, lambda, let_in, if_then_else, case_of, do_block, LocalBindings}
use Rattle.rw_tree.specs.Declarations.{Declaration, PlainProgram}
use Rattle.rw_scope_rules.specs.Names.{at_if}
use Rattle.rw_scope_rules.specs.Nodes.{Node, expression_node, expression_nodes, group_nodes, declaration_nodes}
use Rattle.rw_core.specs.Systems.{leaf, side_by_side, fed_back}
use Rattle.rw_meaning.specs.Systems.{binding_of, SourceSystem, system_of, Body, body_of}
use Rattle.rw_start.specs.Start.{Start, start_from}

-- == Systems ==

-- the devices of a system, from left to right
abbrev pub leaves : SourceSystem → List (Expression Bound)
leaves (leaf e) = e ∷ []
leaves (side_by_side d e) = leaves d ++ leaves e
leaves (fed_back f g d) = leaves d

-- the nodes of its devices, and of the functions that devices are fed back by. So all nodes of the body, but the applications of `par` and
-- `refold` that make the system, and these names at their heads
abbrev pub inner_nodes : SourceSystem → List (Node Bound)
inner_nodes (leaf e) = expression_nodes e
inner_nodes (side_by_side d e) = inner_nodes d ++ inner_nodes e
inner_nodes (fed_back f g d) = expression_nodes f ++ (expression_nodes g ++ inner_nodes d)

-- the number of the declaration of `start`, where nothing may name it: its body is an application of `par` or `refold`
abbrev pub barred : ℕ → SourceSystem → Option ℕ
barred n (leaf e) = None
barred n (side_by_side d e) = Some n
barred n (fed_back f g d) = Some n

-- == Names ==

abbrev pub is_this : Option ℕ → ℕ → Bool
is_this None k = false
is_this (Some n) k = nat_eq n k

-- a name that is bound to this is out of place: `par`, `refold`, or `start` where nothing may name it
abbrev pub is_stray : Option ℕ → Option Binding → Bool
is_stray start (Some (Operates Par)) = true
is_stray start (Some (Operates Refold)) = true
is_stray start (Some (Declared k)) = is_this start k
is_stray start _ = false

abbrev pub stray_in_node : Option ℕ → Node Bound → List Place
stray_in_node start (expression_node (variable a x)) = at_if (is_stray start a.bound) a.span.first
stray_in_node start _ = []

abbrev pub strays : Option ℕ → List (Node Bound) → List Place
strays start nodes = flat_map (stray_in_node start) nodes

-- == Places ==

-- what stands at a node
abbrev pub annotation : {X : Type 0} → Expression X → X
annotation (variable a x) = a
annotation (constructor a c) = a
annotation (application a head parts) = a
annotation (tuple a parts) = a
annotation (chain a operands operators) = a
annotation (lambda a pats body) = a
annotation (let_in a group body) = a
annotation (if_then_else a test first second) = a
annotation (case_of a scrutinee rows) = a
annotation (do_block a steps) = a

-- where an expression begins
abbrev pub beginning : Expression Bound → Place
beginning e = (annotation e).span.first

-- all but the one with this number
abbrev pub without : {A : Type 0} → ℕ → List A → List A
without n xs = take n xs ++ drop (suc n) xs

-- with this number of the declaration of `start`, and such a body: the names that stand elsewhere than at the head of an application that makes the
-- system, and the devices from the 65th on
abbrev pub misplaced_with : List (Declaration Bound) → ℕ → SourceSystem → LocalBindings Bound → List Place
misplaced_with decls n system wheres =
    strays (barred n system) (flat_map declaration_nodes (without n decls) ++ (inner_nodes system ++ group_nodes wheres))
    ++ map beginning (drop 64 (leaves system))

-- where there is no body of `start`, there is no system
abbrev pub misplaced_by : List (Declaration Bound) → ℕ → Option (Body Bound) → List Place
misplaced_by decls n None = strays None (flat_map declaration_nodes decls)
misplaced_by decls n (Some body) = misplaced_with decls n (system_of binding_of body.expression) body.wheres

abbrev pub misplaced_from : List (Declaration Bound) → Option Start → List Place
misplaced_from decls None = strays None (flat_map declaration_nodes decls)
misplaced_from decls (Some start) = misplaced_by decls start.number (body_of start.clauses)

-- E16 is broken at these places
abbrev pub misplaced : PlainProgram Bound → List Place
misplaced program = misplaced_from program.declarations (start_from 0 program.declarations)
