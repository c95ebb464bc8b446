-- Which assignments of types to numbers give each number what its kind may stand for, and the typed tree of an assignment.
use Rattle.std.specs.Prelude.{ℕ, zero, suc, Bool, List, [], ◌∷◌}
use Rattle.rw_scope_rules.specs.declared.binding.Bound.{Bound}
use Rattle.rw_tree.specs.Declarations.{Declaration}
use Rattle.rw_types_solving.specs.declared.term.Sort.{Sort}
use Rattle.rw_types_solving.specs.Types.{Ty}
use Rattle.rw_types_rules.specs.declared.kind.VariableKind.{VariableKind}
use Rattle.rw_types_rules.specs.Schemes.{World}
use Rattle.rw_types_rules.specs.TypedTrees.{TypedNode}
use Rattle.rw_types_rules.specs.Typings.{MayBe}
use Rattle.rw_types_numbering.specs.Labelled.{labelled_declaration}

-- the types of the numbers from n on are of these kinds, one for each
abbrev pub Fits : (ℕ → Sort) → (ℕ → Bool) → List VariableKind → World → (ℕ → Ty) → ℕ → List VariableKind → Type 0
Fits sorts states own world t n [] = Unit {0}
Fits sorts states own world t n (kind ∷ kinds) = MayBe sorts states own world kind (t n) × Fits sorts states own world t (suc n) kinds

-- the types of so many numbers, from this one on
abbrev pub types_from : (ℕ → Ty) → ℕ → ℕ → List Ty
types_from t n zero = []
types_from t n (suc k) = t n ∷ types_from t (suc n) k

-- what a node carries that has this number: the type of its number, and those of so many numbers after it
abbrev pub typed_label : (ℕ → Ty) → Bound → ℕ → ℕ → TypedNode
typed_label t a n k = record { node = a; type = t n; arguments = types_from t (suc n) k }

-- the typed tree that a bound tree is under an assignment of types to its numbers
abbrev pub typed_declaration : (ℕ → Ty) → World → Declaration Bound → Declaration TypedNode
typed_declaration t world d = labelled_declaration (typed_label t) world 0 d
