-- Types taken apart.
use Rattle.std.proofs.Common.{◌≡◌, ◌∙◌, ◌↔◌, refl, sym, ap, Bool, true, false, List, [], ◌∷◌, ◌++◌, append_assoc, map, IsTrue}
use Rattle.rw_tree.specs.declared.types.Written.{Written}
use Rattle.rw_tree.specs.declared.types.Written.TheVariants as type
use Rattle.rw_tree.specs.Types.{WrittenType, applied_type, tuple_type, type_parts, written, writtens}
use Rattle.rw_tree.proofs.Plains.{written-Apply, written-Tuple}
use Rattle.rw_start.specs.Device.{arguments_of, listed, is_unit}

listed_all : (ts : List WrittenType) → listed (type_parts ts) ≡ ts
listed_all [] = refl
listed_all (t ∷ ts) = ap (λ z. t ∷ z) (listed_all ts)

-- the arguments of a type behind those of its head
pub arguments_behind : (t h top : Written) (ps given : List Written) (old mid new : List WrittenType) → t ≡ type.Apply h ps → top ≡ h → given ≡ ps
    → mid ≡ old ++ arguments_of (written top) → new ≡ mid ++ map written given → new ≡ old ++ arguments_of (written t)
arguments_behind t h top ps given old mid new is same_top same so_far put =
    let form : written t ≡ applied_type (written h) (type_parts (writtens ps)) = ap written is ∙ written-Apply h ps in
    let behind : arguments_of (written top) ++ map written given ≡ arguments_of (written t) =
    ap (λ z. arguments_of (written z) ++ map written given) same_top ∙ ap (λ z. arguments_of (written h) ++ map written z) same
    ∙ ap (λ z. arguments_of (written h) ++ z) (sym (listed_all (writtens ps))) ∙ ap arguments_of (sym form) in
    put ∙ ap (λ z. z ++ map written given) so_far ∙ append_assoc old (arguments_of (written top)) (map written given) ∙ ap (λ z. old ++ z) behind

-- a tuple is unit where it has no parts
pub unit_if_empty : (t : Written) (parts : List Written) (b : Bool) → t ≡ type.Tuple parts → (IsTrue b ↔ (parts ≡ [])) → b ≡ is_unit (written t)
unit_if_empty t parts b is empty = by parts b empty ∙ ap is_unit (sym (ap written is ∙ written-Tuple parts))
  where
    by : (parts : List Written) (b : Bool) → (IsTrue b ↔ (parts ≡ [])) → b ≡ is_unit (tuple_type (type_parts (writtens parts)))
    by [] b h = h.1 refl
    by (p ∷ ps) true h = let e : p ∷ ps ≡ [] = h.0 refl in absurd (cc)
    by (p ∷ ps) false h = refl
