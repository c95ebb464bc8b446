-- What the table says, and then the declarations that are left, is the whole.
use Rattle.std.proofs.Common.{◌≡◌, map, flat_map, drop}
use Rattle.rw_tree.specs.Declarations.{declaration}
use Rattle.rw_scope_rules.specs.Names.{Bytes, first_named}
use Rattle.rw_types_rules.specs.Schemes.{signatures_in}
use Rattle.rw_types_world.specs.Signatures.{or_then, signed_in}
use Rattle.rw_types_world.proofs.signed.signatures_of.Given as goal

abbrev pub invariant-loop-decl : goal.invariant-loop-decl
invariant-loop-decl l =
    (x : Bytes) → or_then (signed_in l.table x) (first_named x (flat_map signatures_in (map (declaration (λ a. a.span)) (drop l.decl-index l.decls)))) ≡ first_named x (flat_map signatures_in (map (declaration (λ a. a.span)) l.decls))
