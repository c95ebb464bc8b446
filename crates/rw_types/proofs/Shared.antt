-- Numbers whose types stand once in a table.
use Rattle.std.proofs.Common.{◌≡◌, ◌↔◌, ℕ, zero, suc, ◌<◌, List, [], ◌∷◌, map, length, get_or, refl, sym, ◌∙◌, ap, subst, arith}
use Rattle.rw_types_solving.specs.Types.{Ty}
use Rattle.rw_types_rules.specs.Words.{unit_type}
use Rattle.rw_types_shared.specs.Shared.{Node, type_at, AreBelow, IsProper}
use Rattle.rw_types.specs.declared.typed.TypedDecl.{TypedDecl}
use Rattle.rw_types.specs.Inferred.{type_of, HasSharedTypes}

number_below : (n : ℕ) (ks : List ℕ) (x : ℕ) → AreBelow n ks → x < length ks → get_or ks x 0 < n
number_below n [] x b l = absurd (omega arith)
number_below n (k ∷ ks) zero b l = b.0
number_below n (k ∷ ks) (suc x) b l = number_below n ks x b.1 (omega arith)

type_by : (nodes : List Node) (ks : List ℕ) (x : ℕ) → x < length ks → type_of nodes ks x ≡ type_at nodes (get_or ks x 0)
type_by nodes [] x l = absurd (omega arith)
type_by nodes (k ∷ ks) zero l = refl
type_by nodes (k ∷ ks) (suc x) l = type_by nodes ks x (omega arith)

-- as a table tells types apart
pub same_numbers : ((nodes : List Node) → IsProper nodes → (m n : ℕ) → m < length nodes → n < length nodes → (type_at nodes m ≡ type_at nodes n) ↔ (m ≡ n))
    → (d : TypedDecl) → HasSharedTypes d → (x y : ℕ) → x < length d.types → y < length d.types → (type_of d.nodes d.types x ≡ type_of d.nodes d.types y) ↔ (get_or d.types x 0 ≡ get_or d.types y 0)
same_numbers told d h x y k l =
    let both = told d.nodes h.proper (get_or d.types x 0) (get_or d.types y 0) (number_below (length d.nodes) d.types x h.within k) (number_below (length d.nodes) d.types y h.within l) in
    let first = type_by d.nodes d.types x k in let second = type_by d.nodes d.types y l in
    ((λ e. both.0 (sym first ∙ e ∙ second)), (λ e. first ∙ both.1 e ∙ sym second))
