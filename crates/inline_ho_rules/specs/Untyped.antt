-- Without types: the nodes carry what they carried before they were typed.
use Rattle.std.specs.Prelude.{ℕ, List, Option}
use Rattle.rw_scope_rules.specs.declared.binding.Bound.{Bound}
use Rattle.rw_tree.specs.Trees.{Expression, Alternatives}
use Rattle.rw_tree.specs.Declarations.{Declaration}
use Rattle.rw_core.specs.Options.{◌>>=◌}
use Rattle.rw_meaning.specs.Evaluation.{declaration_at}
use Rattle.rw_types_rules.specs.TypedTrees.{TypedNode}
use Rattle.rw_types_rules.specs.Relabelled.{relabelled_expression, relabelled_alternatives}
use Rattle.inline_ho_rules.specs.Meants.{Meant, flat, suspended, local_use, unplaced, Meants, no_meants, more_meants, Columns, no_columns, value_column, other_column, declared_clauses}

abbrev pub node_of : TypedNode → Bound
node_of a = a.node

abbrev pub bare_expression : Expression TypedNode → Expression Bound
bare_expression e = relabelled_expression node_of e

abbrev pub bare_clauses : Alternatives TypedNode → Alternatives Bound
bare_clauses cs = relabelled_alternatives node_of cs

abbrev mutual
  pub bare_meant : Meant TypedNode → Meant Bound
  bare_meant (flat y) = flat y
  bare_meant (suspended E e) = suspended (bare_meants E) (bare_expression e)
  bare_meant (local_use E cs) = local_use (bare_meants E) (bare_clauses cs)
  bare_meant unplaced = unplaced

  pub bare_meants : Meants TypedNode → Meants Bound
  bare_meants no_meants = no_meants
  bare_meants (more_meants m ms) = more_meants (bare_meant m) (bare_meants ms)

abbrev pub bare_columns : Columns TypedNode → Columns Bound
bare_columns no_columns = no_columns
bare_columns (value_column cols) = value_column (bare_columns cols)
bare_columns (other_column m cols) = other_column (bare_meant m) (bare_columns cols)

-- the clauses of the declaration with this number
abbrev pub clauses_declared : List (Declaration Bound) → ℕ → Option (Alternatives Bound)
clauses_declared program n = do d ← declaration_at n program; declared_clauses d
