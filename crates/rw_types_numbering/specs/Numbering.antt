-- Numbered trees: the labels of `rw_types_equations` at the numbers of `rw_types_numbering`.
use Rattle.std.specs.Prelude.{ℕ, Bool, List}
use Rattle.rw_scope_rules.specs.declared.binding.Bound.{Bound}
use Rattle.rw_tree.specs.Patterns.{Pattern, Patterns}
use Rattle.rw_tree.specs.Trees.{Expression, Expressions, Alternative, Alternatives, RightSide, GuardedBody, GuardedBodies, LocalBinding, LocalBindings, Statement, Statements}
use Rattle.rw_tree.specs.Declarations.{Declaration}
use Rattle.rw_types_rules.specs.Schemes.{World}
use Rattle.rw_types_equations.specs.declared.numbered.Numbered.{Numbered}
use Rattle.rw_types_numbering.specs.Labelled.{labelled_pattern, labelled_parts, labelled_row, labelled_expression, labelled_expressions, labelled_clause, labelled_clauses, labelled_side, labelled_body, labelled_bodies, labelled_binding, labelled_group, labelled_statement, labelled_statements, labelled_all_clauses, labelled_declaration}

-- what stood at a node, its number, and how many arguments it has
abbrev pub label : Bound → ℕ → ℕ → Numbered
label a n k = record { node = a; number = n; arguments = k }

module _ (world : World) where
  abbrev pub numbered_pattern : ℕ → Pattern Bound → Pattern Numbered
  numbered_pattern n p = labelled_pattern label world n p

  abbrev pub numbered_parts : ℕ → Patterns Bound → Patterns Numbered
  numbered_parts n ps = labelled_parts label world n ps

  abbrev pub numbered_row : ℕ → List (Pattern Bound) → List (Pattern Numbered)
  numbered_row n ps = labelled_row label world n ps

  abbrev pub numbered_expression : ℕ → Expression Bound → Expression Numbered
  numbered_expression n e = labelled_expression label world n e

  abbrev pub numbered_expressions : ℕ → Expressions Bound → Expressions Numbered
  numbered_expressions n es = labelled_expressions label world n es

  abbrev pub numbered_clause : ℕ → Alternative Bound → Alternative Numbered
  numbered_clause n c = labelled_clause label world n c

  abbrev pub numbered_clauses : ℕ → Alternatives Bound → Alternatives Numbered
  numbered_clauses n cs = labelled_clauses label world n cs

  abbrev pub numbered_side : ℕ → RightSide Bound → RightSide Numbered
  numbered_side n side = labelled_side label world n side

  abbrev pub numbered_body : ℕ → GuardedBody Bound → GuardedBody Numbered
  numbered_body n b = labelled_body label world n b

  abbrev pub numbered_bodies : ℕ → GuardedBodies Bound → GuardedBodies Numbered
  numbered_bodies n bs = labelled_bodies label world n bs

  abbrev pub numbered_binding : ℕ → LocalBinding Bound → LocalBinding Numbered
  numbered_binding n b = labelled_binding label world n b

  abbrev pub numbered_group : ℕ → LocalBindings Bound → LocalBindings Numbered
  numbered_group n bs = labelled_group label world n bs

  -- a statement, the last of its block or another
  abbrev pub numbered_statement : Bool → ℕ → Statement Bound → Statement Numbered
  numbered_statement last n s = labelled_statement label world last n s

  abbrev pub numbered_statements : ℕ → Statements Bound → Statements Numbered
  numbered_statements n ss = labelled_statements label world n ss

  abbrev pub numbered_all_clauses : ℕ → List (Alternative Bound) → List (Alternative Numbered)
  numbered_all_clauses n cs = labelled_all_clauses label world n cs

  -- the declaration numbered from n on
  abbrev pub numbered_declaration : ℕ → Declaration Bound → Declaration Numbered
  numbered_declaration n d = labelled_declaration label world n d
