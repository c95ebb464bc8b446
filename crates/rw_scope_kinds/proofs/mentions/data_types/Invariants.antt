-- What the loop keeps: what was found, before what is left to be found, is the whole.
use Rattle.std.proofs.Common.{◌≡◌, ◌++◌, drop, map, flat_map}
use Rattle.rw_tree.specs.Views.{itself}
use Rattle.rw_tree.specs.Declarations.{declaration}
use Rattle.rw_scope_kinds.specs.Mentions.{made_of, plain_made}
use Rattle.rw_scope_kinds.proofs.mentions.data_types.Given as goal

abbrev pub invariant-loop-decl : goal.invariant-loop-decl
invariant-loop-decl l = map plain_made l.all.items ++ flat_map made_of (map (declaration itself) (drop l.decl-index l.decls)) ≡ flat_map made_of (map (declaration itself) l.decls)
