-- The typed tree that a numbered tree is under an assignment of types to numbers.
use Rattle.std.specs.Prelude.{ℕ, zero, suc, List, [], ◌∷◌, map}
use Rattle.rw_types_solving.specs.Types.{Ty}
use Rattle.rw_types_rules.specs.TypedTrees.{TypedNode}
use Rattle.rw_types_equations.specs.declared.numbered.Numbered.{Numbered}

-- so many numbers, from this one on
abbrev pub numbers_from : ℕ → ℕ → List ℕ
numbers_from n zero = []
numbers_from n (suc k) = n ∷ numbers_from (suc n) k

-- the numbers of a node's arguments: those after its own
abbrev pub argument_numbers : Numbered → List ℕ
argument_numbers a = numbers_from (suc a.number) a.arguments

-- each node carries the types of its numbers
abbrev pub typed_by : (ℕ → Ty) → Numbered → TypedNode
typed_by t a = record { node = a.node; type = t a.number; arguments = map t (argument_numbers a) }
