-- Small programs on which the rules on `start` and on systems are computed. None has the prelude before it. The signature of `start` stands on
-- line 1, and `start` itself from line 2 on.
use Rattle.std.specs.Prelude.{ℕ, zero, suc, List, [], ◌∷◌, Option, None, codes}
use Prim.Native.String.{String}
use Rattle.rw_base.specs.declared.place.Span.{Span}
use Rattle.rw_base.specs.declared.rule.Rule.{Rule}
use Rattle.rw_base.specs.declared.rule.Rule.TheVariants.{E15, E16}
use Rattle.rw_base.specs.declared.fail.Refusal.{Refusal}
use Rattle.rw_tree.specs.Types.{WrittenType, constructor_type, applied_type, tuple_type, type_parts}
use Rattle.rw_tree.specs.Patterns.{Pattern, variable_pattern}
use Rattle.rw_tree.specs.Trees.{Expression, variable, application, expression_parts}
use Rattle.rw_tree.specs.Trees.{Alternative, alternative, alternative_parts, plain_side, LocalBinding, local_function, no_bindings, binding_parts}
use Rattle.rw_tree.specs.Declarations.{Declaration, signature_declaration, function_declaration, PlainProgram}
use Rattle.rw_scope_rules.specs.declared.binding.Bound.{Bound}
use Rattle.rw_scope_rules.specs.Bindings.{bound_program}
use Rattle.rw_scope_rules.specs.Names.{earliest}
use Rattle.rw_scope_rules.specs.Verdict.{broken_first}
use Rattle.rw_start.specs.Start.{improper_start}
use Rattle.rw_start.specs.Positions.{misplaced}

-- a node that begins at this line and this column
abbrev pub at : ℕ → ℕ → Span
at line column = record { first = record { line = line; column = column }; from = 0; to = 0 }

-- a rule is broken there
abbrev pub broken_at : Rule → ℕ → ℕ → Refusal
broken_at rule line column = record { rule = rule; place = record { line = line; column = column } }

-- types
abbrev pub named : String → WrittenType
named name = constructor_type (codes name)

abbrev pub applied : WrittenType → List WrittenType → WrittenType
applied head parts = applied_type head (type_parts parts)

abbrev pub tuple_of : List WrittenType → WrittenType
tuple_of parts = tuple_type (type_parts parts)

-- ReT i o I ()
abbrev pub device : WrittenType → WrittenType → WrittenType
device i o = applied (named "ReT") (i ∷ o ∷ named "I" ∷ tuple_of [] ∷ [])

-- expressions, each with its line and its column
abbrev pub mention : ℕ → ℕ → String → Expression Span
mention line column name = variable (at line column) (codes name)

abbrev pub apply : ℕ → ℕ → Expression Span → List (Expression Span) → Expression Span
apply line column head parts = application (at line column) head (expression_parts parts)

abbrev pub binder : ℕ → ℕ → String → Pattern Span
binder line column name = variable_pattern (at line column) (codes name)

-- a clause without guards, with what is bound after `where`
abbrev pub clause_where : ℕ → List (Pattern Span) → Expression Span → List (LocalBinding Span) → Alternative Span
clause_where line pats body wheres = alternative (at line 1) pats (plain_side body) (binding_parts wheres)

abbrev pub clause : ℕ → List (Pattern Span) → Expression Span → Alternative Span
clause line pats body = clause_where line pats body []

abbrev pub local_name : ℕ → ℕ → String → Expression Span → LocalBinding Span
local_name line column name body = local_function (at line column) (codes name) (alternative_parts (alternative (at line column) [] (plain_side body) no_bindings ∷ []))

abbrev pub function_on : ℕ → String → List (Alternative Span) → Declaration Span
function_on line name clauses = function_declaration (at line 1) (codes name) clauses

-- what is broken in these declarations: E15 before E16
abbrev pub broken_in : PlainProgram Bound → Option Refusal
broken_in program = broken_first E15 (earliest (improper_start program)) (broken_first E16 (earliest (misplaced program)) None)

abbrev pub broken : List (Declaration Span) → Option Refusal
broken decls = broken_in (bound_program (record { declarations = decls }))

-- `start` of this type, with these clauses, before other declarations
abbrev pub started : WrittenType → List (Alternative Span) → List (Declaration Span) → Option Refusal
started type clauses others = broken (signature_declaration (at 1 1) (codes "start" ∷ []) type ∷ function_on 2 "start" clauses ∷ others)

-- start :: type; start = run
abbrev pub of_type : WrittenType → Option Refusal
of_type type = started type (clause 2 [] (mention 2 9 "run") ∷ []) []

-- start :: ReT Bool Bool I (), with these clauses or this body
abbrev pub by_clauses : List (Alternative Span) → Option Refusal
by_clauses clauses = started (device (named "Bool") (named "Bool")) clauses []

abbrev pub with_body : Expression Span → Option Refusal
with_body body = by_clauses (clause 2 [] body ∷ [])

-- a system of one device more than this number, the last on this line, the one before it on the next line, and so on:
-- par device3 (par device2 device1)
abbrev pub row : ℕ → ℕ → Expression Span
row zero line = mention line 1 "device"
row (suc n) line = apply line 1 (mention line 1 "par") (mention line 5 "device" ∷ row n (suc line) ∷ [])
