-- The places of the types that are wrong, by contexts.
use Rattle.std.specs.Prelude.{List, [], Bool, not, ◌&&◌}
use Rattle.std.specs.List.{list_all}
use Rattle.rw_base.specs.declared.place.Place.{Place}
use Rattle.rw_base.specs.declared.place.Span.{Span}
use Rattle.rw_tree.specs.declared.types.Kind.TheVariants.{Plain}
use Rattle.rw_tree.specs.Types.{WrittenType}
use Rattle.rw_tree.specs.Declarations.{Declaration, data_declaration, signature_declaration}
use Rattle.rw_scope_rules.specs.Names.{at_if}
use Rattle.rw_tree.specs.Trees.{local_signature}
use Rattle.rw_scope_rules.specs.Nodes.{Node, binding_node}
use Rattle.rw_scope_rules.specs.Scope.{fields_of, type_variables}
use Rattle.rw_scope_rules.specs.Kinds.{uses_of, well_used, plainly_used, has_none}
use Rattle.rw_scope_uses.specs.declared.context.Context.{Context}
use Rattle.rw_scope_uses.specs.Contexts.{takes_in}

-- the places of the types that are wrong, by what says that a field's type and a signature's is right
abbrev pub wrong_in_declaration : (WrittenType → Bool) → (WrittenType → Bool) → Declaration Span → List Place
wrong_in_declaration field_fits signature_fits (data_declaration a x params constructors) = at_if (not (list_all field_fits (fields_of constructors))) a.first
wrong_in_declaration field_fits signature_fits (signature_declaration a names type) = at_if (not (signature_fits type)) a.first
wrong_in_declaration field_fits signature_fits _ = []

abbrev pub wrong_in_node : (WrittenType → Bool) → Node Span → List Place
wrong_in_node signature_fits (binding_node (local_signature a x type)) = at_if (not (has_none (type_variables type) && signature_fits type)) a.first
wrong_in_node signature_fits _ = []

-- what says so
abbrev pub fits_signature : Context → WrittenType → Bool
fits_signature context type = well_used (uses_of (takes_in context) context.arrows type [] Plain)

abbrev pub fits_field : Context → WrittenType → Bool
fits_field context type = plainly_used (uses_of (takes_in context) context.arrows type [] Plain)
