-- The typed trees of assignments that are instances of one another.
use Rattle.std.proofs.Common.{◌≡◌, ◌∙◌, ℕ, zero, suc, ◌∷◌, map, refl, sym}
use Rattle.rw_scope_rules.specs.declared.binding.Bound.{Bound}
use Rattle.rw_tree.specs.Declarations.{Declaration}
use Rattle.rw_types_solving.specs.Types.{Ty, apply}
use Rattle.rw_types_rules.specs.Schemes.{World}
use Rattle.rw_types_rules.specs.TypedTrees.{TypedNode, erased, substituted_node, substituted}
use Rattle.rw_types_numbering.specs.Labelled.{labelled_declaration}
use Rattle.rw_types_numbering.specs.Fits.{types_from, typed_label, typed_declaration}
use Rattle.rw_types_numbering.proofs.Relabelling.{fused_declaration, kept_declaration}

types_from_are : (t s r : ℕ → Ty) → ((x : ℕ) → t x ≡ apply r (s x)) → (n k : ℕ) → types_from t n k ≡ map (apply r) (types_from s n k)
types_from_are t s r h n zero = refl
types_from_are t s r h n (suc k) = λ i. h n i ∷ types_from_are t s r h (suc n) k i

label_is : (t s r : ℕ → Ty) → ((x : ℕ) → t x ≡ apply r (s x)) → (b : Bound) (n k : ℕ) → typed_label t b n k ≡ substituted_node r (typed_label s b n k)
label_is t s r h b n k = λ i. record { node = b; type = h n i; arguments = types_from_are t s r h (suc n) k i }

pub instance_is : (t s r : ℕ → Ty) (world : World) (d : Declaration Bound) → ((x : ℕ) → t x ≡ apply r (s x)) → typed_declaration t world d ≡ substituted r (typed_declaration s world d)
instance_is t s r world d h =
    (λ i. labelled_declaration (λ b n k. label_is t s r h b n k i) world 0 d) ∙ sym (fused_declaration (typed_label s) (substituted_node r) world 0 d)

pub erased_is : (t : ℕ → Ty) (world : World) (d : Declaration Bound) → erased (typed_declaration t world d) ≡ d
erased_is t world d = kept_declaration (typed_label t) (λ (a : TypedNode). a.node) world (λ b n k. refl) 0 d
