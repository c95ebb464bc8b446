-- Programs whose declarations are typed.
use Rattle.std.specs.Prelude.{◌⊎◌, ℕ, List, [], ◌∷◌, Bool}
use Rattle.std.specs.List.{AllByRecursion}
use Rattle.rw_base.specs.declared.place.Span.{Span}
use Rattle.rw_scope_rules.specs.declared.binding.Bound.{Bound}
use Rattle.rw_scope_rules.specs.Bindings.{bound_program}
use Rattle.rw_tree.specs.Declarations.{Declaration, PlainProgram}
use Rattle.rw_types_solving.specs.declared.term.Sort.{Sort}
use Rattle.rw_types_rules.specs.Schemes.{World, world_of}
use Rattle.rw_types_rules.specs.TypedTrees.{TypedNode}
use Rattle.rw_types_rules.specs.Typings.{IsTyping, IsTypable, IsDefault}

-- each declaration, with its names bound, has a typing
abbrev pub IsTypableProgram : PlainProgram Span → Type 0
IsTypableProgram program = AllByRecursion (IsTypable (world_of program.declarations)) (bound_program program).declarations

-- a typing of a declaration, of any sorts
abbrev pub IsSomeTyping : World → Declaration Bound → Declaration TypedNode → Type 0
IsSomeTyping world d typed = (sorts : ℕ → Sort) × (states : ℕ → Bool) × IsTyping sorts states world d typed

abbrev pub IsTypingOrDefault : World → Declaration Bound → Declaration TypedNode → Type 0
IsTypingOrDefault world d typed = (IsSomeTyping world d typed) ⊎ (IsDefault world d typed)

-- each declaration has the typed one at its place
abbrev pub AreTyped : (Declaration Bound → Declaration TypedNode → Type 0) → List (Declaration Bound) → List (Declaration TypedNode) → Type 0
AreTyped Is [] [] = Unit {0}
AreTyped Is (d ∷ ds) (t ∷ ts) = Is d t × AreTyped Is ds ts
AreTyped Is _ _ = ⊥

-- these are typings of a program's declarations; or each is one or a default typing
abbrev pub AreTypingsOf : PlainProgram Span → List (Declaration TypedNode) → Type 0
AreTypingsOf program typed = AreTyped (IsSomeTyping (world_of program.declarations)) (bound_program program).declarations typed

abbrev pub AreTypingsOrDefaultsOf : PlainProgram Span → List (Declaration TypedNode) → Type 0
AreTypingsOrDefaultsOf program typed = AreTyped (IsTypingOrDefault (world_of program.declarations)) (bound_program program).declarations typed
