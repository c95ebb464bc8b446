-- What the loop keeps.
use Rattle.std.proofs.Common.{◌≡◌, take}
use Rattle.std.specs.Prelude.{map, flat_map}
use Rattle.rw_tree.specs.Views.{itself}
use Rattle.rw_tree.specs.Declarations.{declaration}
use Rattle.rw_scope_rules.specs.Scope.{unknown_module}
use Rattle.rw_scope_names.proofs.imports.unknown_modules.Given as goal

-- the places so far are those of the declarations so far
abbrev pub invariant-loop-decl : goal.invariant-loop-decl
invariant-loop-decl l = l.places.items ≡ flat_map unknown_module (map (declaration itself) (take l.decl-index l.decl-items))
