-- Types in an instance: the unknown types of a declaration's signature are replaced by the arguments of the instance.
use Rattle.std.specs.Prelude.{◌≡◌, Bool, true, false, List, [], ◌∷◌, map, Option, Some}
use Rattle.rw_scope_rules.specs.declared.binding.Binding.{Binding}
use Rattle.rw_tree.specs.Declarations.{Declaration, import_declaration, data_declaration, fixity_declaration, signature_declaration, function_declaration}
use Rattle.rw_types_solving.specs.declared.term.Head.{Head}
use Rattle.rw_types_solving.specs.declared.term.Head.TheVariants as h
use Rattle.rw_types_solving.specs.Types.{Ty, Tys, var, app, none, more}
use Rattle.rw_types_rules.specs.Schemes.{Scheme, World, scheme_at}
use Rattle.rw_types_rules.specs.Relabelled.{relabelled_declaration}
use Rattle.rw_types_rules.specs.TypedTrees.{TypedNode}
use Rattle.rw_types_rules.specs.WellTyped.{given, IsInstance, AllClausesAgree, DeclarationAgrees}

-- == Types ==

-- whether the head is that of no unknown type
abbrev pub is_known : Head → Bool
is_known (h.Unknown k) = false
is_known _ = true

-- no unknown type stands in the type
abbrev mutual
  pub IsKnown : Ty → Type 0
  IsKnown (var x) = Unit {0}
  IsKnown (app h ts) = (is_known h ≡ true) × AreKnown ts

  pub AreKnown : Tys → Type 0
  AreKnown none = Unit {0}
  AreKnown (more t ts) = IsKnown t × AreKnown ts

-- no variable and no unknown type stands in the type
abbrev mutual
  pub IsClosed : Ty → Type 0
  IsClosed (var x) = ⊥
  IsClosed (app h ts) = (is_known h ≡ true) × AreClosed ts

  pub AreClosed : Tys → Type 0
  AreClosed none = Unit {0}
  AreClosed (more t ts) = IsClosed t × AreClosed ts

-- each type of a list is so
abbrev pub EachIs : (Ty → Type 0) → List Ty → Type 0
EachIs P [] = Unit {0}
EachIs P (t ∷ ts) = P t × EachIs P ts

-- the type with this head and these parts, where the unknown types are the arguments with their numbers
abbrev pub known_as : List Ty → Head → Tys → Ty
known_as arguments (h.Unknown k) ts = given arguments k
known_as arguments h ts = app h ts

-- a type in the instance at these arguments
abbrev mutual
  pub closed_by : List Ty → Ty → Ty
  closed_by arguments (var x) = var x
  closed_by arguments (app h ts) = known_as arguments h (closed_parts arguments ts)

  pub closed_parts : List Ty → Tys → Tys
  closed_parts arguments none = none
  closed_parts arguments (more t ts) = more (closed_by arguments t) (closed_parts arguments ts)

-- == Trees ==

-- what a node carries in the instance
abbrev pub closed_node : List Ty → TypedNode → TypedNode
closed_node arguments a = record { node = a.node; type = closed_by arguments a.type; arguments = map (closed_by arguments) a.arguments }

-- a typed declaration in the instance at these arguments
abbrev pub in_instance : List Ty → Declaration TypedNode → Declaration TypedNode
in_instance arguments d = relabelled_declaration (closed_node arguments) d

-- no unknown type stands in the types of names: a world of written types is so
abbrev pub HasKnownSchemes : World → Type 0
HasKnownSchemes world = (b : Option Binding) (s : Scheme) → scheme_at world b ≡ Some s → EachIs IsKnown s.takes × IsKnown s.gives

-- the types of a declaration agree in the instance at these arguments: a function has its signature's type at them
abbrev pub InstanceAgrees : World → List Ty → Declaration TypedNode → Type 0
InstanceAgrees world arguments (import_declaration a m) = DeclarationAgrees world (import_declaration a m)
InstanceAgrees world arguments (data_declaration a x params constructors) = DeclarationAgrees world (data_declaration a x params constructors)
InstanceAgrees world arguments (fixity_declaration a side strength names) = DeclarationAgrees world (fixity_declaration a side strength names)
InstanceAgrees world arguments (signature_declaration a names type) = DeclarationAgrees world (signature_declaration a names type)
InstanceAgrees world arguments (function_declaration a x clauses) = IsInstance (scheme_at world a.node.bound) arguments a.type × AllClausesAgree world a.type clauses
