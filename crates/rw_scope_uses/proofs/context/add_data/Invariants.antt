-- What the loop keeps: the table, before the data types that are left, says what the old one says before all of them.
use Rattle.std.proofs.Common.{◌≡◌, ◌++◌, List, drop, map, flat_map}
use Rattle.rw_base.specs.declared.place.Span.{Span}
use Rattle.rw_tree.specs.declared.types.Kind.{Kind}
use Rattle.rw_tree.specs.Declarations.{declaration}
use Rattle.rw_scope_rules.specs.Names.{Bytes, first_named}
use Rattle.rw_scope_rules.specs.Kinds.{data_kinds}
use Rattle.rw_scope_uses.specs.contracts.context.add_data.{A-type}
use Rattle.rw_scope_uses.proofs.context.add_data.Given as goal

abbrev pub invariant-loop-decl : goal.invariant-loop-decl
invariant-loop-decl g l =
    (see : A-type g.row.A → Span) (x : Bytes) (rest : List (Bytes × List Kind)) → first_named x (l.types ++ (flat_map data_kinds (map (declaration see) (drop l.decl-index l.decls)) ++ rest))
    ≡ first_named x (l.fn.types ++ (flat_map data_kinds (map (declaration see) l.decls) ++ rest))
