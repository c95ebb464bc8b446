-- What the loop keeps: what is in the set, and what is still to be put in, is all.
use Rattle.std.proofs.Common.{◌≡◌, drop, map, flat_map}
use Rattle.std.specs.Prelude.{◌||◌}
use Rattle.rw_tree.specs.Views.{itself}
use Rattle.rw_tree.specs.Declarations.{declaration}
use Rattle.rw_scope_rules.specs.Names.{Bytes, is_among}
use Rattle.rw_scope_rules.specs.Bindings.{names_of}
use Rattle.rw_scope_rules.specs.Scope.{types_at}
use Rattle.rw_scope_names.proofs.gather.put_types.Given as goal

abbrev pub invariant-loop-decl : goal.invariant-loop-decl
invariant-loop-decl l =
    (x : Bytes) → (is_among x (names_of (flat_map types_at (map (declaration itself) (drop l.decl-index l.decls)))) || is_among x l.set)
    ≡ (is_among x (names_of (flat_map types_at (map (declaration itself) l.decls))) || is_among x l.fn.set)
