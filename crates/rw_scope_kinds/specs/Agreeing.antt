-- Uses of variables one after the other: each agrees with the first one of its name.
use Rattle.std.specs.Prelude.{List, [], ◌∷◌, ◌++◌, Bool, true, ◌&&◌, Option, Some, None}
use Rattle.rw_tree.specs.declared.types.Kind.{Kind}
use Rattle.rw_scope_rules.specs.Names.{Bytes, first_named}
use Rattle.rw_scope_rules.specs.Kinds.{kinds_agree}

-- a kind agrees with the first one, if there is one
abbrev pub agrees_with : Option Kind → Kind → Bool
agrees_with None kind = true
agrees_with (Some first) kind = kinds_agree first kind

-- each of these uses, after those before them
abbrev pub agree_after : List (Bytes × Kind) → List (Bytes × Kind) → Bool
agree_after before [] = true
agree_after before (u ∷ us) = agrees_with (first_named u.0 before) u.1 && agree_after (before ++ u ∷ []) us
