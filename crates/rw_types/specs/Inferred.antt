-- What inference answers: typed declarations, the default typing of each declaration, and the first that has none.
use Rattle.std.specs.Prelude.{◌≡◌, ◌⊎◌, ℕ, List, [], ◌∷◌, map, length, get_or, Result, Ok, Err}
use Rattle.rw_base.specs.declared.place.Place.{Place}
use Rattle.rw_base.specs.declared.rule.Rule.TheVariants.{E13}
use Rattle.rw_base.specs.Answers.{Fail}
use Rattle.rw_base.specs.declared.fail.Failure.TheVariants.{Refused, OutOfMemory}
use Rattle.rw_scope_rules.specs.declared.binding.Bound.{Bound}
use Rattle.rw_tree.specs.Declarations.{Declaration, declaration}
use Rattle.rw_types_solving.specs.Types.{Ty}
use Rattle.rw_types_rules.specs.Words.{unit_type}
use Rattle.rw_types_rules.specs.Schemes.{World}
use Rattle.rw_types_rules.specs.TypedTrees.{TypedNode}
use Rattle.rw_types_rules.specs.Typings.{IsTypable, IsDefault, declaration_label}
use Rattle.rw_types_equations.specs.Numbered.{typed_by}
use Rattle.rw_types_shared.specs.Shared.{Node, type_at, AreBelow, IsProper}
use Rattle.rw_types.specs.declared.typed.TypedDecl.{TypedDecl}

-- the type of a number, where the list has one for each, by its place in a table of types
abbrev pub type_of : List Node → List ℕ → ℕ → Ty
type_of nodes types x = get_or (map (type_at nodes) types) x unit_type

-- the typed tree that a typed declaration is
abbrev pub seen : TypedDecl → Declaration TypedNode
seen d = declaration (typed_by (type_of d.nodes d.types)) d.tree

-- each type stands once: no two nodes of the table are the same, and each number's type is in it
pub record HasSharedTypes (d : TypedDecl) : Type 0 where
  pub proper : IsProper d.nodes
  pub within : AreBelow (length d.nodes) d.types

-- these are default typings of these declarations, one for each, in the same order
abbrev pub AreDefault : World → List (Declaration Bound) → List (Declaration TypedNode) → Type 0
AreDefault world [] [] = Unit {0}
AreDefault world (d ∷ ds) (typed ∷ others) = IsDefault world d typed × AreDefault world ds others
AreDefault world _ _ = ⊥

-- each declaration has a typing
abbrev pub AreTypable : World → List (Declaration Bound) → Type 0
AreTypable world [] = Unit {0}
AreTypable world (d ∷ ds) = IsTypable world d × AreTypable world ds

-- where a declaration stands in the source
abbrev pub declaration_place : Declaration Bound → Place
declaration_place d = (declaration_label d).span.first

-- the first declaration without a typing stands at this place: it is this one, or this one has a typing and it is the first of the others
abbrev pub FirstUntypable : World → List (Declaration Bound) → Place → Type 0
FirstUntypable world [] place = ⊥
FirstUntypable world (d ∷ ds) place = ((IsTypable world d → ⊥) × (place ≡ declaration_place d)) ⊎ (IsTypable world d × FirstUntypable world ds place)

-- what an answer says: the default typing of each declaration, or E13 at the first that has no typing. Where memory ran out nothing is said
abbrev pub IsInferred : World → List (Declaration Bound) → Result (List TypedDecl) Fail → Type 0
IsInferred world ds (Ok made) = AreDefault world ds (map seen made)
IsInferred world ds (Err (Refused refusal)) = (refusal.rule ≡ E13) × FirstUntypable world ds refusal.place
IsInferred world ds (Err OutOfMemory) = Unit {0}
