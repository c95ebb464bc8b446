-- The bound tree by numbers, as it is built: what binds takes its number from a count, and not from a scope.
use Rattle.std.specs.Prelude.{ℕ, ◌+◌, List, [], ◌∷◌, length, Some}
use Rattle.rw_base.specs.declared.place.Span.{Span}
use Rattle.rw_tree.specs.Patterns.{Pattern, wildcard, variable_pattern, constructor_pattern, tuple_pattern, Patterns, no_patterns, more_patterns}
use Rattle.rw_tree.specs.Trees.{alternative, LocalBinding, local_signature, local_function, local_pattern, Statement}
use Rattle.rw_scope_rules.specs.declared.binding.Bound.{Bound}
use Rattle.rw_scope_rules.specs.declared.binding.Binding.TheVariants.{Local}
use Rattle.rw_scope_rules.specs.Bindings.{Tops, Scope, pattern_variables, binding_variables, group_names, inside_group, inside_statement, unnamed, bound_to, bound_constructor, bound_clauses, bound_side, bound_group, bound_statement}
use Rattle.rw_scope_binding.specs.Stack.{number_at}
use Rattle.rw_scope_binding.specs.Own.{own}
use Rattle.rw_scope_binding.specs.declared.tops.Tops.{Tops as Table}

-- what a table of the names at top level says
abbrev pub known : Table → Tops
known table = record { variables = table.variables; constructors = table.constructors }

module _ (tops : Tops) where
  -- a pattern whose variables are numbered from this number on
  abbrev mutual
    pub numbered_pattern : ℕ → Pattern Span → Pattern Bound
    numbered_pattern n (wildcard a) = wildcard (unnamed a)
    numbered_pattern n (variable_pattern a x) = variable_pattern (bound_to a (Some (Local n))) x
    numbered_pattern n (constructor_pattern a c parts) = constructor_pattern (bound_constructor tops a c) c (numbered_parts n parts)
    numbered_pattern n (tuple_pattern a parts) = tuple_pattern (unnamed a) (numbered_parts n parts)

    pub numbered_parts : ℕ → Patterns Span → Patterns Bound
    numbered_parts n no_patterns = no_patterns
    numbered_parts n (more_patterns p ps) = more_patterns (numbered_pattern n p) (numbered_parts (n + length (pattern_variables p)) ps)

  abbrev pub numbered_row : ℕ → List (Pattern Span) → List (Pattern Bound)
  numbered_row n [] = []
  numbered_row n (p ∷ ps) = numbered_pattern n p ∷ numbered_row (n + length (pattern_variables p)) ps

  -- a binding of a group: what it binds is numbered from this number on, and the group's names from the outer number on
  abbrev pub numbered_binding : ℕ → Scope → ℕ → LocalBinding Span → LocalBinding Bound
  numbered_binding outer scope n (local_signature a x type) = local_signature (bound_to a (own outer (number_at x scope))) x type
  numbered_binding outer scope n (local_function a x clauses) = local_function (bound_to a (Some (Local n))) x (bound_clauses tops scope clauses)
  numbered_binding outer scope n (local_pattern a (alternative b pats side wheres)) =
      local_pattern (unnamed a) (alternative (unnamed b) (numbered_row n pats)
      (bound_side tops (inside_group wheres scope) side)
      (bound_group tops (group_names wheres) (inside_group wheres scope) scope wheres))

  abbrev pub numbered_bindings : ℕ → Scope → ℕ → List (LocalBinding Span) → List (LocalBinding Bound)
  numbered_bindings outer scope n [] = []
  numbered_bindings outer scope n (b ∷ bs) = numbered_binding outer scope n b ∷ numbered_bindings outer scope (n + length (binding_variables b)) bs

  -- statements in order
  abbrev pub bound_steps : Scope → List (Statement Span) → List (Statement Bound)
  bound_steps scope [] = []
  bound_steps scope (s ∷ ss) = bound_statement tops scope s ∷ bound_steps (inside_statement s scope) ss

-- the scope after them
abbrev pub after_steps : List (Statement Span) → Scope → Scope
after_steps [] scope = scope
after_steps (s ∷ ss) scope = after_steps ss (inside_statement s scope)
