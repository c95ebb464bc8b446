-- The typed trees of a numbered tree, as `rw_types_numbering` has them.
use Rattle.std.proofs.Common.{◌≡◌, ◌∙◌, ◌↔◌, ℕ, zero, suc, Bool, List, [], ◌∷◌, map, refl, sym, ap, subst}
use Rattle.rw_scope_rules.specs.declared.binding.Bound.{Bound}
use Rattle.rw_tree.specs.Views.{itself}
use Rattle.rw_tree.specs.declared.decl.Decl.{Decl}
use Rattle.rw_tree.specs.Declarations.{Declaration, declaration}
use Rattle.rw_types_solving.specs.declared.term.Sort.{Sort}
use Rattle.rw_types_solving.specs.Types.{Ty, apply}
use Rattle.rw_types_rules.specs.Relabelled.{relabelled_declaration}
use Rattle.rw_types_rules.specs.Schemes.{World}
use Rattle.rw_types_rules.specs.TypedTrees.{TypedNode, substituted_node, substituted}
use Rattle.rw_types_rules.specs.WellTyped.{DeclarationAgrees}
use Rattle.rw_types_rules.specs.Typings.{own_kinds, IsTyping}
use Rattle.rw_types_equations.specs.declared.numbered.Numbered.{Numbered}
use Rattle.rw_types_equations.specs.Numbered.{numbers_from, typed_by}
use Rattle.rw_types_numbering.specs.Labelled.{labelled_declaration}
use Rattle.rw_types_numbering.specs.Slots.{declaration_slots}
use Rattle.rw_types_numbering.specs.Fits.{Fits, types_from, typed_label, typed_declaration}
use Rattle.rw_types_numbering.proofs.Relabelling.{twice_declaration, alike_declaration, fused_declaration, kept_declaration}
use Rattle.rw_types_numbering.proofs.Seen.{seen_declaration}
use Rattle.rw_types_numbering.proofs.Filling.{from_assignment}
use Rattle.rw_types_numbering.proofs.Fitting.{typing_is}
use Rattle.rw_types_numbering.specs.Numbering.{label, numbered_declaration}

pub erased_is : (world : World) (n : ℕ) (d : Declaration Bound) → relabelled_declaration (λ a. a.node) (numbered_declaration world n d) ≡ d
erased_is world n d = kept_declaration label (λ a. a.node) world (λ b m k. refl) n d

types_are : (t : ℕ → Ty) (n k : ℕ) → map t (numbers_from n k) ≡ types_from t n k
types_are t n zero = refl
types_are t n (suc k) = ap (λ z. t n ∷ z) (types_are t (suc n) k)

label_is : (t : ℕ → Ty) (b : Bound) (n k : ℕ) → typed_by t (label b n k) ≡ typed_label t b n k
label_is t b n k = λ i. record { node = b; type = t n; arguments = types_are t (suc n) k i }

typed_is : (t : ℕ → Ty) (world : World) (d : Declaration Bound) → relabelled_declaration (typed_by t) (numbered_declaration world 0 d) ≡ typed_declaration t world d
typed_is t world d = fused_declaration label (typed_by t) world 0 d ∙ (λ i. labelled_declaration (λ b n k. label_is t b n k i) world 0 d)

pub assigned : (sorts : ℕ → Sort) (states : ℕ → Bool) (world : World) (d : Declaration Bound) (typed : Declaration TypedNode) → IsTyping sorts states world d typed
    → (t : ℕ → Ty) × (typed ≡ relabelled_declaration (typed_by t) (numbered_declaration world 0 d))
assigned sorts states world d typed is = let r = from_assignment sorts states world d typed is in (r.0, r.1 ∙ sym (typed_is r.0 world d))

pub typing_exactly : (sorts : ℕ → Sort) (states : ℕ → Bool) (world : World) (t : ℕ → Ty) (d : Declaration Bound) → IsTyping sorts states world d (relabelled_declaration (typed_by t) (numbered_declaration world 0 d))
    ↔ (DeclarationAgrees world (relabelled_declaration (typed_by t) (numbered_declaration world 0 d)) × Fits sorts states (own_kinds world (relabelled_declaration (typed_by t) (numbered_declaration world 0 d))) world t 0 (declaration_slots world d))
typing_exactly sorts states world t d =
    subst (λ e. IsTyping sorts states world d e ↔ (DeclarationAgrees world e × Fits sorts states (own_kinds world e) world t 0 (declaration_slots world d))) (sym (typed_is t world d))
    (typing_is sorts states world t d)

arguments_are : (t s r : ℕ → Ty) → ((x : ℕ) → t x ≡ apply r (s x)) → (ns : List ℕ) → map t ns ≡ map (apply r) (map s ns)
arguments_are t s r h [] = refl
arguments_are t s r h (n ∷ ns) = λ i. h n i ∷ arguments_are t s r h ns i

node_is : (t s r : ℕ → Ty) → ((x : ℕ) → t x ≡ apply r (s x)) → (a : Numbered) → typed_by t a ≡ substituted_node r (typed_by s a)
node_is t s r h a = λ i. record { node = a.node; type = h a.number i; arguments = arguments_are t s r h (numbers_from (suc a.number) a.arguments) i }

pub instance_is : (t s r : ℕ → Ty) (e : Declaration Numbered) → ((x : ℕ) → t x ≡ apply r (s x)) → relabelled_declaration (typed_by t) e ≡ substituted r (relabelled_declaration (typed_by s) e)
instance_is t s r e h =
    alike_declaration (typed_by t) (λ a. substituted_node r (typed_by s a)) e (node_is t s r h) ∙ sym (twice_declaration (typed_by s) (substituted_node r) e)

pub seen_is : (t : ℕ → Ty) (tree : Decl Numbered) → declaration (typed_by t) tree ≡ relabelled_declaration (typed_by t) (declaration itself tree)
seen_is t tree = seen_declaration (typed_by t) tree
