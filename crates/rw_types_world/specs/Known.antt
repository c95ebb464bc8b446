-- What the types of a program's functions are made of.
use Rattle.std.specs.Prelude.{◌≡◌, List, flat_map}
use Rattle.rw_base.specs.declared.place.Span.{Span}
use Rattle.rw_tree.specs.Declarations.{Declaration}
use Rattle.rw_scope_rules.specs.Names.{Bytes, first_named}
use Rattle.rw_types_rules.specs.Written.{data_types_from}
use Rattle.rw_types_rules.specs.Schemes.{signatures_in}
use Rattle.rw_types_equations.specs.Seen.{seen_types}
use Rattle.rw_scope_uses.specs.Contexts.{IsOfSignatures}
use Rattle.rw_types_world.specs.declared.signature.Known.{Known}
use Rattle.rw_types_world.specs.Signatures.{signed_in}

-- it is of a program with these declarations
pub record IsOf (decls : List (Declaration Span)) (known : Known) : Type 0 where
  pub context : IsOfSignatures decls known.context.now
  pub types : seen_types known.types.now ≡ data_types_from 0 decls
  pub signatures : (x : Bytes) → signed_in known.signatures.now x ≡ first_named x (flat_map signatures_in decls)
