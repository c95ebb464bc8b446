-- Types by their heads: a type is a head that is applied to arguments, by one application or by several.
use Rattle.std.specs.Prelude.{◌≡◌, ℕ, suc, ◌-◌, List, [], ◌∷◌, length, take, drop, map, Bool, true, false, ◌||◌, Option, Some, None, if◌then◌else◌}
use Rattle.rw_tree.specs.declared.types.Kind.{Kind}
use Rattle.rw_tree.specs.declared.types.Kind.TheVariants.{Plain, StateMonad, Monad}
use Rattle.rw_tree.specs.Types.{WrittenType, WrittenTypes, variable_type, constructor_type, applied_type, function_type, tuple_type, no_types, more_types}
use Rattle.rw_scope_rules.specs.Names.{Bytes}
use Rattle.rw_scope_rules.specs.Kinds.{Uses, both, at_kinds, all_plain, uses_of, parts_uses}
use Rattle.rw_scope_uses.specs.declared.head.Head.{Head}
use Rattle.rw_scope_uses.specs.declared.head.Head.TheVariants as head
use Rattle.rw_scope_uses.specs.declared.uses.Use.{Use}

-- what stands at the head
pub data PlainHead : Type 0 where
  variable_head : Bytes → PlainHead
  constructor_head : Bytes → PlainHead
  other_head : PlainHead

abbrev pub plain_head : Head → PlainHead
plain_head (head.Variable x) = variable_head x.now
plain_head (head.Constructor c) = constructor_head c.now
plain_head head.Other = other_head

abbrev pub head_of : WrittenType → PlainHead
head_of (variable_type x) = variable_head x
head_of (constructor_type c) = constructor_head c
head_of (applied_type t parts) = head_of t
head_of (function_type from to) = other_head
head_of (tuple_type parts) = other_head

-- whether it has an argument
abbrev pub has_types : WrittenTypes → Bool
has_types no_types = false
has_types (more_types t ts) = true

abbrev pub is_applied : WrittenType → Bool
is_applied (variable_type x) = false
is_applied (constructor_type c) = false
is_applied (applied_type t parts) = has_types parts || is_applied t
is_applied (function_type from to) = false
is_applied (tuple_type parts) = false

abbrev pub count_types : WrittenTypes → ℕ
count_types no_types = 0
count_types (more_types t ts) = suc (count_types ts)

-- what a variable is used at: alone it is a type or a state monad, and applied it is a monad
abbrev pub variable_kind : Bool → Kind → Option Kind
variable_kind false Plain = Some Plain
variable_kind false StateMonad = Some StateMonad
variable_kind false Monad = None
variable_kind true Plain = Some Monad
variable_kind true StateMonad = None
variable_kind true Monad = None

-- and what it is applied to
abbrev pub variable_takes : Bool → List Kind
variable_takes applied = if applied then Plain ∷ [] else []

-- what is left where no kind is left
abbrev pub none_left : List Kind → Uses → Uses
none_left [] uses = uses
none_left (k ∷ ks) uses = None

module _ (takes : Bytes → Kind → Option (List Kind)) (arrows : Bool) where
  -- what stands in a type, its head's name left out, where its arguments are of these kinds
  abbrev pub inner_uses : WrittenType → List Kind → Uses
  inner_uses (variable_type x) kinds = none_left kinds (Some [])
  inner_uses (constructor_type c) kinds = none_left kinds (Some [])
  inner_uses (applied_type t parts) kinds =
      both (inner_uses t (take (length kinds - count_types parts) kinds)) (at_kinds (parts_uses takes arrows parts) (drop (length kinds - count_types parts) kinds))
  inner_uses (function_type from to) kinds = none_left kinds (if arrows then both (uses_of takes arrows from [] Plain) (uses_of takes arrows to [] Plain) else None)
  inner_uses (tuple_type parts) kinds = none_left kinds (all_plain (parts_uses takes arrows parts))

  -- what a type is at a kind, once its head has told the kinds of its arguments, or that it is of another kind
  abbrev pub IsPlanned : WrittenType → Kind → Option (List Kind) → List (Bytes × Kind) → List (Bytes × Kind) → Type 0
  IsPlanned t kind None before after = uses_of takes arrows t [] kind ≡ None
  IsPlanned t kind (Some kinds) before after = both (Some before) (uses_of takes arrows t [] kind) ≡ both (Some after) (inner_uses t kinds)

-- uses as plain data
abbrev pub plain_use : Use → Bytes × Kind
plain_use use_ = (use_.name.now, use_.kind)

abbrev pub plain_uses : List Use → List (Bytes × Kind)
plain_uses uses = map plain_use uses

-- the uses so far, where all fits
abbrev pub if_fit : Bool → List (Bytes × Kind) → Uses
if_fit true uses = Some uses
if_fit false uses = None
