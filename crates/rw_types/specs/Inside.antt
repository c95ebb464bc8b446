-- What functions inside promise each other: the kinds of numbers, and what solves the equations of a numbered declaration.
use Rattle.std.specs.Prelude.{◌≡◌, ◌<◌, ℕ, Bool, true, List, map, length, get_or, Result, Ok, Err}
use Rattle.rw_base.specs.declared.rule.Rule.TheVariants.{E13}
use Rattle.rw_base.specs.Answers.{Fail}
use Rattle.rw_base.specs.declared.fail.Failure.TheVariants.{Refused, OutOfMemory}
use Rattle.rw_scope_rules.specs.declared.binding.Bound.{Bound}
use Rattle.rw_tree.specs.declared.decl.Decl.{Decl}
use Rattle.rw_tree.specs.Declarations.{Declaration, declaration}
use Rattle.rw_types_solving.specs.declared.term.Sort.{Sort}
use Rattle.rw_types_solving.specs.declared.term.Term.{Term}
use Rattle.rw_types_solving.specs.Types.{Ty, apply, Agrees, meaning}
use Rattle.rw_types_solving.specs.Sorts.{HasSort}
use Rattle.rw_types_solving.specs.Tables.{Small, Uses}
use Rattle.rw_types_solving.specs.Conditions.{is_state_monad, any}
use Rattle.rw_types_solving.specs.Closing.{sort_of}
use Rattle.rw_types_rules.specs.declared.kind.VariableKind.{VariableKind}
use Rattle.rw_types_rules.specs.declared.kind.VariableKind.TheVariants.{Plain}
use Rattle.rw_types_rules.specs.Schemes.{World, scheme_at}
use Rattle.rw_types_rules.specs.WellTyped.{DeclarationAgrees}
use Rattle.rw_types_rules.specs.Typings.{kind_sort, is_state_kind, heads_of, state_unknowns, MayBe, scheme_kinds, declaration_label, leftover, IsTypable, IsDefault}
use Rattle.rw_types_equations.specs.declared.numbered.Numbered.{Numbered}
use Rattle.rw_types_equations.specs.Numbered.{typed_by}
use Rattle.rw_types.specs.declared.typed.TypedDecl.{TypedDecl}
use Rattle.rw_types.specs.Inferred.{seen, declaration_place}

-- each variable of the types is one of the first n
abbrev pub AreWithin : ℕ → List Term → Type 0
AreWithin n types = (x : ℕ) → x < length types → Uses n (meaning types x)

-- the kinds of the variables of a declaration's own signature
abbrev pub declared_kinds : World → Declaration Bound → List VariableKind
declared_kinds world d = scheme_kinds (scheme_at world (declaration_label d).bound)

-- the kind of a number
abbrev pub kind_at : List VariableKind → ℕ → VariableKind
kind_at slots x = get_or slots x Plain

-- the sorts of numbers, by their kinds
abbrev pub slot_sorts : List VariableKind → ℕ → Sort
slot_sorts slots = sort_of (map kind_sort slots)

-- each number's type is of its sort, and may be a state monad where its kind is that of one
pub record AreCarried (world : World) (slots own : List VariableKind) (s : ℕ → Ty) : Type 0 where
  pub sorted : (x : ℕ) → x < length slots → HasSort (slot_sorts slots) (heads_of world own) (slot_sorts slots x) (s x)
  pub stacked : (x : ℕ) → x < length slots → is_state_kind (kind_at slots x) ≡ true → is_state_monad any (state_unknowns own) (s x) ≡ true

-- each number's type is one that its kind may stand for
abbrev pub MayStand : (ℕ → Sort) → (ℕ → Bool) → List VariableKind → World → List VariableKind → (ℕ → Ty) → Type 0
MayStand sorts states own world slots t = (x : ℕ) → x < length slots → MayBe sorts states own world (kind_at slots x) (t x)

-- the types of the declaration agree
abbrev pub AgreesBy : World → Decl Numbered → (ℕ → Ty) → Type 0
AgreesBy world tree t = DeclarationAgrees world (declaration (typed_by t) tree)

-- c is the most general assignment under which the types agree, with its leftover variables closed; it is of these kinds
pub record IsSolved (world : World) (tree : Decl Numbered) (slots own : List VariableKind) (c : ℕ → Ty) : Type 0 where
  pub general : ℕ → Ty
  pub agrees : AgreesBy world tree general
  pub most_general : (t : ℕ → Ty) → AgreesBy world tree t → Agrees t general
  pub small : Small (length slots) general
  pub carried : AreCarried world slots own general
  pub closed : (x : ℕ) → c x ≡ apply (leftover (slot_sorts slots)) (general x)

-- no assignment of types of these kinds agrees
abbrev pub HasNoSolution : World → Decl Numbered → List VariableKind → List VariableKind → Type 0
HasNoSolution world tree slots own = (sorts : ℕ → Sort) (states : ℕ → Bool) (t : ℕ → Ty) → AgreesBy world tree t → MayStand sorts states own world slots t → ⊥

-- what an answer says of one declaration
abbrev pub IsInferredAlone : World → Declaration Bound → Result TypedDecl Fail → Type 0
IsInferredAlone world d (Ok made) = IsDefault world d (seen made)
IsInferredAlone world d (Err (Refused refusal)) = (refusal.rule ≡ E13) × (refusal.place ≡ declaration_place d) × (IsTypable world d → ⊥)
IsInferredAlone world d (Err OutOfMemory) = Unit {0}
