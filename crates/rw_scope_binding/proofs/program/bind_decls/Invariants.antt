-- What the loop keeps: what was bound, before what is left to be bound, is the whole.
use Rattle.std.proofs.Common.{◌≡◌, ◌++◌, drop, map}
use Rattle.rw_tree.specs.Views.{itself}
use Rattle.rw_tree.specs.Declarations.{declaration}
use Rattle.rw_scope_rules.specs.Bindings.{bound_declarations}
use Rattle.rw_scope_binding.specs.Numbered.{known}
use Rattle.rw_scope_binding.proofs.program.bind_decls.Given as goal

abbrev pub invariant-loop-decl : goal.invariant-loop-decl
invariant-loop-decl l =
    map (declaration itself) l.bound ++ bound_declarations (known l.tops) l.number (map (declaration itself) (drop l.decl-index l.decls)) ≡ bound_declarations (known l.tops) 0 (map (declaration itself) l.decls)
