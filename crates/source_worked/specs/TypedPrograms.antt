-- Small programs and their typings. None has the prelude before it: each begins with `data Bit = Zero | One`.
use Rattle.std.specs.Prelude.{ℕ, List, [], ◌∷◌, codes, Some, None}
use Prim.Native.String.{String}
use Rattle.rw_base.specs.declared.place.Span.{Span}
use Rattle.rw_scope_rules.specs.declared.binding.Bound.{Bound}
use Rattle.rw_scope_rules.specs.declared.binding.Binding.{Binding}
use Rattle.rw_scope_rules.specs.declared.binding.Binding.TheVariants.{Declared, Operation as Operates, Constructor as Constructs, Local}
use Rattle.rw_scope_rules.specs.declared.binding.Operation.TheVariants.{Signal}
use Rattle.rw_tree.specs.Types.{WrittenType, variable_type, constructor_type, applied_type, function_type, tuple_type, type_parts}
use Rattle.rw_tree.specs.Patterns.{variable_pattern, constructor_pattern, no_patterns}
use Rattle.rw_tree.specs.Trees.{variable, constructor, application, tuple, case_of, expression_parts}
use Rattle.rw_tree.specs.Trees.{Alternative, alternative, alternative_parts, plain_side, no_bindings}
use Rattle.rw_tree.specs.Declarations.{Declaration, data_declaration, signature_declaration, function_declaration}
use Rattle.rw_types_solving.specs.Types.{Ty}
use Rattle.rw_types_rules.specs.Words.{function, data_type, unknown}
use Rattle.rw_types_rules.specs.Schemes.{World, world_of}
use Rattle.rw_types_rules.specs.TypedTrees.{TypedNode}

-- places don't matter here
abbrev pub here : Span
here = record { first = record { line = 1; column = 1 }; from = 0; to = 0 }

-- what a node binds or names
abbrev pub plain_node : Bound
plain_node = record { span = here; bound = None }

abbrev pub naming : Binding → Bound
naming binding = record { span = here; bound = Some binding }

-- a node with a type, and with arguments
abbrev pub of : Bound → Ty → TypedNode
of node type = record { node = node; type = type; arguments = [] }

-- data Bit = Zero | One
abbrev pub bit_declaration : Declaration Span
bit_declaration = data_declaration here (codes "Bit") [] (record { constructor_name = codes "Zero"; field_types = [] } ∷ record { constructor_name = codes "One"; field_types = [] } ∷ [])

-- the world of a program of this, a signature of the name and the function, which has number 2
abbrev pub world_with : String → WrittenType → World
world_with name type = world_of (bit_declaration ∷ signature_declaration here (codes name ∷ []) type ∷ function_declaration here (codes name) [] ∷ [])

abbrev pub bit : Ty
bit = data_type 0 []

-- f :: a -> a
abbrev pub same_world : World
same_world = world_with "f" (function_type (variable_type (codes "a")) (variable_type (codes "a")))

-- f x = x
abbrev pub same : Declaration Bound
same = function_declaration (naming (Declared 2)) (codes "f") (
    alternative plain_node (variable_pattern (naming (Local 0)) (codes "x") ∷ []) (plain_side (variable (naming (Local 0)) (codes "x"))) no_bindings ∷ [])

-- the same with its types: x is of the unknown type a
abbrev pub same_typed : Declaration TypedNode
same_typed = function_declaration (of (naming (Declared 2)) (function (unknown 0) (unknown 0))) (codes "f") (
    alternative (of plain_node (function (unknown 0) (unknown 0))) (variable_pattern (of (naming (Local 0)) (unknown 0)) (codes "x") ∷ [])
    (plain_side (variable (of (naming (Local 0)) (unknown 0)) (codes "x"))) no_bindings ∷ [])

-- g :: Bit -> Bit
abbrev pub turned_world : World
turned_world = world_with "g" (function_type (constructor_type (codes "Bit")) (constructor_type (codes "Bit")))

-- an alternative of a constructor without fields
abbrev pub row : {X : Type 0} → X → X → List ℕ → X → List ℕ → Alternative X
row at matched c made d = alternative at (constructor_pattern matched c no_patterns ∷ []) (plain_side (constructor made d)) no_bindings

-- g x = case x of { Zero -> One; One -> Zero }
abbrev pub turned : Declaration Bound
turned = function_declaration (naming (Declared 2)) (codes "g") (
    alternative plain_node (variable_pattern (naming (Local 0)) (codes "x") ∷ [])
    (plain_side (case_of plain_node (variable (naming (Local 0)) (codes "x")) (alternative_parts (
    row plain_node (naming (Constructs 0 0)) (codes "Zero") (naming (Constructs 0 1)) (codes "One")
    ∷ row plain_node (naming (Constructs 0 1)) (codes "One") (naming (Constructs 0 0)) (codes "Zero") ∷ [])))) no_bindings ∷ [])

abbrev pub turned_typed : Declaration TypedNode
turned_typed = function_declaration (of (naming (Declared 2)) (function bit bit)) (codes "g") (
    alternative (of plain_node (function bit bit)) (variable_pattern (of (naming (Local 0)) bit) (codes "x") ∷ [])
    (plain_side (case_of (of plain_node bit) (variable (of (naming (Local 0)) bit) (codes "x")) (alternative_parts (
    row (of plain_node (function bit bit)) (of (naming (Constructs 0 0)) bit) (codes "Zero") (of (naming (Constructs 0 1)) bit) (codes "One")
    ∷ row (of plain_node (function bit bit)) (of (naming (Constructs 0 1)) bit) (codes "One") (of (naming (Constructs 0 0)) bit) (codes "Zero") ∷ [])))) no_bindings ∷ [])

-- start :: ReT Bit Bit I ()
abbrev pub device_world : World
device_world = world_with "start" (applied_type (constructor_type (codes "ReT"))
    (type_parts (constructor_type (codes "Bit") ∷ constructor_type (codes "Bit") ∷ constructor_type (codes "I") ∷ tuple_type (type_parts []) ∷ [])))

-- start = signal ()
abbrev pub shows_unit : Declaration Bound
shows_unit = function_declaration (naming (Declared 2)) (codes "start") (
    alternative plain_node [] (plain_side (application plain_node (variable (naming (Operates Signal)) (codes "signal"))
    (expression_parts (tuple plain_node (expression_parts []) ∷ [])))) no_bindings ∷ [])
