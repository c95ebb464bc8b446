-- Lists of trees, each numbered from where the one before it ends. What is made of one may ask whether it is the last.
use Rattle.std.specs.Prelude.{ℕ, ◌+◌, Bool, true, false, List, [], ◌∷◌, ◌++◌, length}
use Rattle.rw_types_rules.specs.declared.kind.VariableKind.{VariableKind}

abbrev pub is_nil : {A : Type 0} → List A → Bool
is_nil [] = true
is_nil (x ∷ xs) = false

abbrev pub each_slots : {S : Type 0} → (Bool → S → List VariableKind) → List S → List VariableKind
each_slots slots [] = []
each_slots slots (x ∷ xs) = slots (is_nil xs) x ++ each_slots slots xs

abbrev pub each_numbered : {S T : Type 0} → (Bool → S → List VariableKind) → (Bool → ℕ → S → T) → ℕ → List S → List T
each_numbered slots one n [] = []
each_numbered slots one n (x ∷ xs) = one (is_nil xs) n x ∷ each_numbered slots one (n + length (slots (is_nil xs) x)) xs
