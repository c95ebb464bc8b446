-- The toggle as a typed program, with closed types at its nodes, and its flat program:
--
--     data Bit = Zero | One
--     flip b = case b of { Zero -> One ; One -> Zero }
--     device x = signal x >>= \i -> device (flip i)
--     start = device Zero
use Rattle.std.specs.Prelude.{ℕ, zero, suc, Bool, true, false, List, [], ◌∷◌, codes, Option, Some, None}
use Rattle.rw_scope_rules.specs.declared.binding.Binding.{Binding}
use Rattle.rw_scope_rules.specs.declared.binding.Binding.TheVariants.{Declared, Operation as Operates, Constructor as Constructs, Local}
use Rattle.rw_scope_rules.specs.declared.binding.Operation.TheVariants.{Bind, Signal}
use Rattle.rw_tree.specs.Patterns.{variable_pattern, constructor_pattern, no_patterns}
use Rattle.rw_tree.specs.Trees.{Expression, variable, constructor, application, lambda, case_of, more_expressions, no_expressions}
use Rattle.rw_tree.specs.Trees.{Alternative, alternative, more_alternatives, no_alternatives, plain_side, no_bindings}
use Rattle.rw_tree.specs.Declarations.{Declaration, data_declaration, function_declaration}
use Rattle.rw_types_solving.specs.Types.{Ty}
use Rattle.rw_types_rules.specs.Words.{function, data_type, unit_type, computation, identity, device as device_monad}
use Rattle.rw_types_rules.specs.Schemes.{World}
use Rattle.rw_types_rules.specs.TypedTrees.{TypedNode}
use Rattle.rw_core_flat.specs.Terms.{local_term, built_term, case_term, let_term, call_term, bind_term, signal_term, no_terms, more_terms, FlatRows, no_rows, more_rows, no_lets, body_arm, built_pattern}
use Rattle.rw_core_flat.specs.Terms.{no_patterns as no_flat_patterns, more_patterns as more_flat_patterns}
use Rattle.rw_core_flat.specs.Programs.{FlatFunction, pure, device as device_kind}
use Rattle.specialise_rules.specs.Instances.{Instance}

abbrev pub bit : Ty
bit = data_type 0 []

-- the type of a device of bits that gives nothing
abbrev pub shows_bits : Ty
shows_bits = computation (device_monad bit bit identity) unit_type

abbrev pub signals_bit : Ty
signals_bit = computation (device_monad bit bit identity) bit

-- a node at this token, with what is bound there and its type
abbrev pub at : ℕ → Option Binding → Ty → TypedNode
at token bound type = record {
  node = record { span = record { first = record { line = 1; column = 1 }; from = token; to = suc token }; bound = bound };
  type = type;
  arguments = [];
}

-- == The program ==

abbrev pub turning : ℕ → ℕ → ℕ → Alternative TypedNode
turning token tag other =
    alternative (at token None (function bit bit)) (constructor_pattern (at token (Some (Constructs 0 tag)) bit) (codes "") no_patterns ∷ [])
    (plain_side (constructor (at token (Some (Constructs 0 other)) bit) (codes ""))) no_bindings

abbrev pub flip_body : Expression TypedNode
flip_body = case_of (at 1 None bit) (variable (at 2 (Some (Local 0)) bit) (codes "b")) (more_alternatives (turning 3 0 1) (more_alternatives (turning 4 1 0) no_alternatives))

abbrev pub flip_declared : Declaration TypedNode
flip_declared = function_declaration (at 0 (Some (Declared 1)) (function bit bit)) (codes "flip") (
    alternative (at 0 None (function bit bit)) (variable_pattern (at 0 (Some (Local 0)) bit) (codes "b") ∷ []) (plain_side flip_body) no_bindings ∷ [])

abbrev pub shown : Expression TypedNode
shown = application (at 11 None signals_bit) (variable (at 11 (Some (Operates Signal)) (function bit signals_bit)) (codes "signal")) (more_expressions (variable (at 12 (Some (Local 0)) bit) (codes "x")) no_expressions)

abbrev pub flipped : Expression TypedNode
flipped = application (at 16 None bit) (variable (at 16 (Some (Declared 1)) (function bit bit)) (codes "flip")) (more_expressions (variable (at 17 (Some (Local 1)) bit) (codes "i")) no_expressions)

abbrev pub goes_on : Expression TypedNode
goes_on = lambda (at 14 None (function bit shows_bits)) (variable_pattern (at 14 (Some (Local 1)) bit) (codes "i") ∷ [])
    (application (at 15 None shows_bits) (variable (at 15 (Some (Declared 2)) (function bit shows_bits)) (codes "device")) (more_expressions flipped no_expressions))

abbrev pub device_body : Expression TypedNode
device_body = application (at 11 None shows_bits) (variable (at 13 (Some (Operates Bind)) (function signals_bit (function (function bit shows_bits) shows_bits))) (codes ">>="))
    (more_expressions shown (more_expressions goes_on no_expressions))

abbrev pub device_declared : Declaration TypedNode
device_declared = function_declaration (at 10 (Some (Declared 2)) (function bit shows_bits)) (codes "device") (
    alternative (at 10 None (function bit shows_bits)) (variable_pattern (at 10 (Some (Local 0)) bit) (codes "x") ∷ []) (plain_side device_body) no_bindings ∷ [])

abbrev pub start_body : Expression TypedNode
start_body = application (at 21 None shows_bits) (variable (at 21 (Some (Declared 2)) (function bit shows_bits)) (codes "device"))
    (more_expressions (constructor (at 22 (Some (Constructs 0 0)) bit) (codes "Zero")) no_expressions)

abbrev pub start_declared : Declaration TypedNode
start_declared = function_declaration (at 20 (Some (Declared 3)) shows_bits) (codes "start") (alternative (at 20 None shows_bits) [] (plain_side start_body) no_bindings ∷ [])

abbrev pub bit_declared : Declaration TypedNode
bit_declared = data_declaration (at 0 None unit_type) (codes "Bit") [] (record { constructor_name = codes "Zero"; field_types = [] } ∷ record { constructor_name = codes "One"; field_types = [] } ∷ [])

abbrev pub typed : List (Declaration TypedNode)
typed = bit_declared ∷ flip_declared ∷ device_declared ∷ start_declared ∷ []

-- what is asked of its world: the constructors of its data type
abbrev pub world : World
world = record { types = []; declared = []; constructed = (record { kinds = []; takes = []; gives = bit } ∷ record { kinds = []; takes = []; gives = bit } ∷ []) ∷ [] }

-- == What it becomes ==

abbrev pub instance_of : ℕ → Instance
instance_of n = record { declaration = n; arguments = [] }

-- `start`, `device`, `flip`
abbrev pub instances : List Instance
instances = instance_of 3 ∷ instance_of 2 ∷ instance_of 1 ∷ []

abbrev pub table : List Ty
table = bit ∷ unit_type ∷ []

abbrev pub rows : FlatRows
rows = more_rows (more_flat_patterns (built_pattern 0 no_flat_patterns) no_flat_patterns) no_lets (body_arm (built_term 0 1 no_terms))
    (more_rows (more_flat_patterns (built_pattern 1 no_flat_patterns) no_flat_patterns) no_lets (body_arm (built_term 0 0 no_terms)) no_rows)

abbrev pub flat_start : FlatFunction
flat_start = record {
  name = codes "start";
  place = record { line = 1; column = 1 };
  kind = device_kind 0 0 [];
  params = [];
  result = 1;
  body = let_term no_lets (call_term 1 (more_terms (built_term 0 0 no_terms) no_terms));
}

abbrev pub flat_device : FlatFunction
flat_device = record {
  name = codes "device";
  place = record { line = 1; column = 1 };
  kind = device_kind 0 0 [];
  params = 0 ∷ [];
  result = 1;
  body = let_term no_lets (bind_term (signal_term (local_term 0)) (call_term 1 (more_terms (call_term 2 (more_terms (local_term 1) no_terms)) no_terms)));
}

abbrev pub flat_flip : FlatFunction
flat_flip = record {
  name = codes "flip";
  place = record { line = 1; column = 1 };
  kind = pure;
  params = 0 ∷ [];
  result = 0;
  body = let_term no_lets (case_term (more_terms (local_term 0) no_terms) rows);
}

abbrev pub functions : List FlatFunction
functions = flat_start ∷ flat_device ∷ flat_flip ∷ []

-- == What it weighs ==

-- the functions that must signal: `start` and `device`
abbrev pub signalling : ℕ → Bool
signalling zero = true
signalling (suc zero) = true
signalling (suc (suc i)) = false

-- the weights of `start`, `device` and `flip`: their nodes, the weight of who is called without a guard, and 1 for each guarded call
abbrev pub weights : ℕ → ℕ
weights zero = 10
weights (suc zero) = 8
weights (suc (suc i)) = 6

abbrev pub depths : ℕ → ℕ
depths zero = 5
depths (suc zero) = 4
depths (suc (suc i)) = 2
