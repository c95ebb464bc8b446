-- What the loop keeps: what was found, before what is left to be found, is the whole.
use Rattle.std.proofs.Common.{◌≡◌, ◌++◌, drop, map, flat_map}
use Rattle.rw_tree.specs.Views.{itself}
use Rattle.rw_tree.specs.Declarations.{declaration}
use Rattle.rw_scope_rules.specs.Scope.{alone}
use Rattle.rw_scope_names.proofs.pairs.see_all_alone.Given as goal

abbrev pub invariant-loop-decl : goal.invariant-loop-decl
invariant-loop-decl l =
    l.places.items ++ flat_map (alone l.functions l.signatures) (map (declaration itself) (drop l.decl-index l.decls))
    ≡ l.fn.places.items ++ flat_map (alone l.functions l.signatures) (map (declaration itself) l.decls)
