-- The kinds of the unknown types of a declaration don't depend on its types.
use Rattle.std.proofs.Common.{◌≡◌, ℕ, refl}
use Rattle.rw_scope_rules.specs.declared.binding.Bound.{Bound}
use Rattle.rw_tree.specs.Declarations.{Declaration, import_declaration, data_declaration, fixity_declaration, signature_declaration, function_declaration}
use Rattle.rw_types_solving.specs.Types.{Ty}
use Rattle.rw_types_rules.specs.Schemes.{World, scheme_at}
use Rattle.rw_types_rules.specs.Typings.{scheme_kinds, declaration_label, own_kinds}
use Rattle.rw_types_numbering.specs.Fits.{typed_declaration}

pub own_are : (t : ℕ → Ty) (world : World) (d : Declaration Bound) → own_kinds world (typed_declaration t world d) ≡ scheme_kinds (scheme_at world (declaration_label d).bound)
own_are t world (import_declaration a m) = refl
own_are t world (data_declaration a x params constructors) = refl
own_are t world (fixity_declaration a side strength names) = refl
own_are t world (signature_declaration a names type) = refl
own_are t world (function_declaration a x clauses) = refl
