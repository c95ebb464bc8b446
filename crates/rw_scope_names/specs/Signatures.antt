-- The signature that a local declaration is.
use Rattle.std.specs.Prelude.{List, [], ◌∷◌}
use Rattle.rw_base.specs.declared.place.Span.{Span}
use Rattle.rw_tree.specs.Trees.{LocalBinding, local_signature}
use Rattle.rw_scope_rules.specs.Names.{Bytes}

abbrev pub signature_of : LocalBinding Span → List (Bytes × Span)
signature_of (local_signature a x type) = (x, a) ∷ []
signature_of _ = []
