-- The plan is well typed.
use Rattle.std.proofs.Common.{◌≡◌, ℕ, zero, suc, ◌<◌, ◌^◌, List, [], ◌∷◌, map, length, All, Some, refl, arith, subst}
use Rattle.rw_core.specs.Bits.{IsTable, constructors_of, fields_of}
use Rattle.rw_core_layered.specs.Machines.{MachineLeaf, leaf_at}
use Rattle.rw_core_layered.specs.Wired.{Signature, signature_of, LeafTyped, WiredTyped, leaf_wired, fed_back_wired}
use Rattle.rw_core_selected.specs.Typed.{local_typed, con_typed, call_typed, no_selects_typed, more_selects_typed, switch_typed, result_typed, other_branch_typed, more_branches_typed, AreTypedBehind, IsSelected, IsPlan}
use Rattle.middle_worked.specs.Toggle.{types, selected, plan, leaves, flip_tree, differs_tree, reset_tree, next_tree, shown_tree}

no_fields : (ty : ℕ) → All (λ field. field < ty) []
no_fields ty = λ k d h. absurd (let z : k < 0 = h in omega arith)

is_table : IsTable types
is_table = record { some = some; few = few; earlier = earlier }
  where
    some : (ty : ℕ) → ty < length types → 0 < length (constructors_of types ty)
    some zero h = omega arith
    some (suc zero) h = omega arith
    some (suc (suc ty)) h = absurd (omega arith)

    few : (ty : ℕ) → ty < length types → length (constructors_of types ty) < 2 ^ 32
    few zero h = omega arith
    few (suc zero) h = omega arith
    few (suc (suc ty)) h = absurd (omega arith)

    earlier : (ty tag : ℕ) → All (λ field. field < ty) (fields_of types ty tag)
    earlier zero zero = no_fields 0
    earlier zero (suc zero) = no_fields 0
    earlier zero (suc (suc tag)) = no_fields 0
    earlier (suc zero) zero = no_fields 1
    earlier (suc zero) (suc tag) = no_fields 1
    earlier (suc (suc ty)) tag = no_fields (suc (suc ty))

functions_typed : AreTypedBehind types [] selected.functions
functions_typed = (
  switch_typed 0 (local_typed refl) (more_branches_typed (omega arith) (result_typed (con_typed [] refl no_selects_typed)) (other_branch_typed (result_typed (con_typed [] refl no_selects_typed)))),
  (
    switch_typed 0 (local_typed refl) (more_branches_typed (omega arith) (result_typed (local_typed refl)) (other_branch_typed (result_typed (call_typed (signature_of flip_tree) refl (more_selects_typed (local_typed refl) no_selects_typed))))),
    (
      result_typed (con_typed [] refl no_selects_typed),
      (
        result_typed (call_typed (signature_of flip_tree) refl (more_selects_typed (local_typed refl) no_selects_typed)),
        (result_typed (local_typed refl), tt),
      ),
    ),
  ),
)

signatures : List Signature
signatures = map signature_of selected.functions

leaves_typed : (k : ℕ) (l : MachineLeaf) → leaf_at k leaves ≡ Some l → LeafTyped (map signature_of selected.functions) l
leaves_typed zero l e = subst (LeafTyped (map signature_of selected.functions)) (the_leaf l e) (record { reset = refl; next = refl; shown = refl })
  where
    the_leaf : (l : MachineLeaf) → leaf_at zero leaves ≡ Some l → record { input = 0; output = 0; state = 0; reset = 2; next = 3; shown = 4 } ≡ l
    the_leaf l e = cc
leaves_typed (suc k) l e = absurd (cc)

pub plan_typed : IsPlan plan
plan_typed = record {
  selected = record { tabled = is_table; typed = functions_typed; leaves = leaves_typed; system = fed_back_wired 0 0 refl refl (leaf_wired (record { input = 0; output = 0; state = 0; reset = 2; next = 3; shown = 4 }) refl) };
  shown = (refl, refl, result_typed (call_typed (signature_of flip_tree) refl (more_selects_typed (local_typed refl) no_selects_typed)), tt);
  inputs = (refl, refl, result_typed (call_typed (signature_of differs_tree) refl (more_selects_typed (local_typed refl) (more_selects_typed (local_typed refl) no_selects_typed))), tt);
}
