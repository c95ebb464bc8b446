-- What the loop over types keeps.
use Rattle.std.proofs.Common.{◌≡◌, ℕ, List, map, length}
use Rattle.rw_types_solving.specs.declared.term.Term.{Term}
use Rattle.rw_types_solving.specs.Types.{Ty, plains, apply}
use Rattle.rw_types_shared.specs.Shared.{Node, type_at, AreBelow, IsProper, Extends}

pub record SharedSoFar (s : ℕ → Ty) (old now : List Node) (all : List ℕ) (terms : List Term) : Type 0 where
  pub proper : IsProper now
  pub kept : Extends old now
  pub within : AreBelow (length now) all
  pub are : map (type_at now) all ≡ map (apply s) (plains terms)
