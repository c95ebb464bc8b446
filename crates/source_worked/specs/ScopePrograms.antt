-- Small programs on which scoping is computed. None has the prelude before it. The token that begins a declaration stands in column 1,
-- on the line with the declaration's number, from 1.
use Rattle.std.specs.Prelude.{ℕ, List, [], ◌∷◌, codes}
use Prim.Native.String.{String}
use Rattle.std.specs.Prelude.{Some, None}
use Rattle.rw_scope_rules.specs.declared.binding.Bound.{Bound}
use Rattle.rw_scope_rules.specs.declared.binding.Binding.{Binding}
use Rattle.rw_scope_rules.specs.declared.binding.Binding.TheVariants.{Declared, Operation as Operates, Constructor as Constructs, Local}
use Rattle.rw_scope_rules.specs.declared.binding.Operation.TheVariants.{Get}
use Rattle.rw_base.specs.declared.place.Span.{Span}
use Rattle.rw_base.specs.declared.rule.Rule.{Rule}
use Rattle.rw_base.specs.declared.fail.Refusal.{Refusal}
use Rattle.rw_tree.specs.Types.{WrittenType, variable_type, constructor_type, applied_type, type_parts}
use Rattle.rw_tree.specs.Patterns.{Pattern, variable_pattern, constructor_pattern, pattern_parts}
use Rattle.rw_tree.specs.Trees.{Expression, variable, constructor, application, expression_parts}
use Rattle.rw_tree.specs.Trees.{Alternative, alternative, alternative_parts, plain_side, LocalBinding, local_function, local_pattern, no_bindings, binding_parts}
use Rattle.rw_tree.specs.Declarations.{PlainConstructor, Declaration, data_declaration, signature_declaration, function_declaration, PlainProgram}

-- a node that begins at this line and this column
abbrev pub at : ℕ → ℕ → Span
at line column = record { first = record { line = line; column = column }; from = 0; to = 0 }

-- a rule is broken there
abbrev pub broken_at : Rule → ℕ → ℕ → Refusal
broken_at rule line column = record { rule = rule; place = record { line = line; column = column } }

abbrev pub program_of : List (Declaration Span) → PlainProgram Span
program_of decls = record { declarations = decls }

-- types
abbrev pub named_type : String → WrittenType
named_type name = constructor_type (codes name)

abbrev pub type_variable : String → WrittenType
type_variable name = variable_type (codes name)

abbrev pub applied : WrittenType → List WrittenType → WrittenType
applied head parts = applied_type head (type_parts parts)

-- patterns and expressions, each with its line and its column
abbrev pub binder : ℕ → ℕ → String → Pattern Span
binder line column name = variable_pattern (at line column) (codes name)

abbrev pub matched : ℕ → ℕ → String → List (Pattern Span) → Pattern Span
matched line column name parts = constructor_pattern (at line column) (codes name) (pattern_parts parts)

abbrev pub mention : ℕ → ℕ → String → Expression Span
mention line column name = variable (at line column) (codes name)

abbrev pub construct : ℕ → ℕ → String → Expression Span
construct line column name = constructor (at line column) (codes name)

abbrev pub apply : ℕ → ℕ → Expression Span → List (Expression Span) → Expression Span
apply line column head parts = application (at line column) head (expression_parts parts)

-- a clause without guards, with what is bound after `where`
abbrev pub clause_where : ℕ → ℕ → List (Pattern Span) → Expression Span → List (LocalBinding Span) → Alternative Span
clause_where line column pats body wheres = alternative (at line column) pats (plain_side body) (binding_parts wheres)

abbrev pub clause : ℕ → ℕ → List (Pattern Span) → Expression Span → Alternative Span
clause line column pats body = clause_where line column pats body []

-- local bindings: `name = body`, and a pattern
abbrev pub local_name : ℕ → ℕ → String → Expression Span → LocalBinding Span
local_name line column name body = local_function (at line column) (codes name) (alternative_parts (clause line column [] body ∷ []))

abbrev pub local_parts : ℕ → ℕ → Pattern Span → Expression Span → LocalBinding Span
local_parts line column bound body = local_pattern (at line column) (clause line column (bound ∷ []) body)

-- declarations, each on a line
abbrev pub made_of : String → List WrittenType → PlainConstructor
made_of name fields = record { constructor_name = codes name; field_types = fields }

abbrev pub data_on : ℕ → String → List (List ℕ) → List PlainConstructor → Declaration Span
data_on line name params constructors = data_declaration (at line 1) (codes name) params constructors

abbrev pub signature_on : ℕ → String → WrittenType → Declaration Span
signature_on line name type = signature_declaration (at line 1) (codes name ∷ []) type

abbrev pub function_on : ℕ → String → List (Alternative Span) → Declaration Span
function_on line name clauses = function_declaration (at line 1) (codes name) clauses

-- data Bit = Zero | One
abbrev pub bit_type : Declaration Span
bit_type = data_on 1 "Bit" [] (made_of "Zero" [] ∷ made_of "One" [] ∷ [])

-- these after `bit_type`, which begin on line 2
abbrev pub after_bit : List (Declaration Span) → PlainProgram Span
after_bit decls = program_of (bit_type ∷ decls)

-- f :: Bit, and on line 3 `f = body`, where `body` begins in column 5
abbrev pub showing : Expression Span → PlainProgram Span
showing body = after_bit (signature_on 2 "f" (named_type "Bit") ∷ function_on 3 "f" (clause 3 1 [] body ∷ []) ∷ [])

-- the same with these clauses
abbrev pub by_clauses : List (Alternative Span) → PlainProgram Span
by_clauses clauses = after_bit (signature_on 2 "f" (named_type "Bit") ∷ function_on 3 "f" clauses ∷ [])

-- f x = y x where { y z = One z ; x = get }
abbrev pub numbered : PlainProgram Span
numbered = after_bit (function_on 2 "f" (clause_where 2 1 (binder 2 3 "x" ∷ []) (apply 2 7 (mention 2 7 "y") (mention 2 9 "x" ∷ []))
    (local_function (at 3 3) (codes "y") (alternative_parts (clause 3 3 (binder 3 5 "z" ∷ []) (apply 3 9 (construct 3 9 "One") (mention 3 13 "z" ∷ [])) ∷ []))
    ∷ local_name 4 3 "x" (mention 4 7 "get") ∷ []) ∷ []) ∷ [])

-- a node that names nothing
abbrev pub plain_at : ℕ → ℕ → Bound
plain_at line column = record { span = at line column; bound = None }

-- a node that binds or names this
abbrev pub bound_at : ℕ → ℕ → Binding → Bound
bound_at line column binding = record { span = at line column; bound = Some binding }

-- the same with its names bound
abbrev pub numbered_bound : PlainProgram Bound
numbered_bound = record {
  declarations =
      data_declaration (plain_at 1 1) (codes "Bit") [] (made_of "Zero" [] ∷ made_of "One" [] ∷ [])
      ∷ function_declaration (bound_at 2 1 (Declared 1)) (codes "f") (alternative (plain_at 2 1) (variable_pattern (bound_at 2 3 (Local 0)) (codes "x") ∷ [])
      (plain_side (application (plain_at 2 7) (variable (bound_at 2 7 (Local 1)) (codes "y")) (expression_parts (variable (bound_at 2 9 (Local 2)) (codes "x") ∷ []))))
      (binding_parts (
      local_function (bound_at 3 3 (Local 1)) (codes "y") (alternative_parts (alternative (plain_at 3 3) (variable_pattern (bound_at 3 5 (Local 3)) (codes "z") ∷ [])
      (plain_side (application (plain_at 3 9) (constructor (bound_at 3 9 (Constructs 0 1)) (codes "One")) (expression_parts (variable (bound_at 3 13 (Local 3)) (codes "z") ∷ [])))) no_bindings ∷ []))
      ∷ local_function (bound_at 4 3 (Local 2)) (codes "x") (alternative_parts (alternative (plain_at 4 3) []
      (plain_side (variable (bound_at 4 7 (Operates Get)) (codes "get"))) no_bindings ∷ []))
      ∷ [])) ∷ [])
      ∷ [];
}
