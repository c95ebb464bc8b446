-- What nodes say of one another under a substitution is what equations say.
use Rattle.std.proofs.Common.{◌≡◌, ◌⊎◌, inl, inr, ℕ, zero, suc, nat_eq, List, [], ◌∷◌, map, length, slice_get, Option, Some, None, refl, sym, ◌∙◌, ap}
use Rattle.std.proofs.lemmas.List.{length-map}
use Rattle.rw_scope_rules.specs.declared.binding.Binding.{Binding}
use Rattle.rw_scope_rules.specs.declared.binding.Binding.TheVariants.{Declared, Operation as Operates, Constructor as Constructs, Local}
use Rattle.rw_types_solving.specs.Types.{Ty, apply}
use Rattle.rw_types_solving.proofs.Laws.{true_or_false, is_same, same_is, compose, alike_all}
use Rattle.rw_types_rules.specs.Words.{computation, unknown}
use Rattle.rw_types_rules.specs.Schemes.{Scheme, scheme_type, World, scheme_at}
use Rattle.rw_types_rules.specs.TypedTrees.{TypedNode, substituted_node}
use Rattle.rw_types_rules.specs.WellTyped.{given, IsInstance, IsMatched, IsBind, IsThen, IsOwnType, IsSigned, NameAgrees}
use Rattle.rw_types_laws.proofs.Substituting.{instance_applied, instances_applied}
use Rattle.rw_types_decision.proofs.Equational.{IsEquational, exchanged, nothing, never, decided, both, three, same, same_as, same_lists_as}

-- == Instances ==

pub number_decided : (m n : ℕ) → (m ≡ n) ⊎ (m ≡ n → ⊥)
number_decided m n = elim (true_or_false (nat_eq m n)) [
  | inl e ↦ inl (is_same m n e)
  | inr e ↦ inr (λ h. let f = same_is m n h in cc)
]

many_are : (arguments : List Ty) (n : ℕ) → IsEquational (λ t. length (map (apply t) arguments) ≡ n)
many_are arguments n =
    exchanged (λ t h. length-map arguments (apply t) ∙ h) (λ t h. sym (length-map arguments (apply t)) ∙ h) (decided (number_decided (length arguments) n))

pub instance_is : (o : Option Scheme) (arguments : List Ty) (type : Ty) → IsEquational (λ t. IsInstance o (map (apply t) arguments) (apply t type))
instance_is None arguments type = never
instance_is (Some s) arguments type =
    both (many_are arguments (length s.kinds)) (same_as type (apply (given arguments) (scheme_type s)) (λ t. refl) (λ t. sym (instance_applied t arguments (scheme_type s))))

pub matched_is : (o : Option Scheme) (arguments parts : List Ty) (type : Ty) → IsEquational (λ t. IsMatched o (map (apply t) arguments) (map (apply t) parts) (apply t type))
matched_is None arguments parts type = never
matched_is (Some s) arguments parts type =
    three (many_are arguments (length s.kinds)) (same_lists_as parts (map (apply (given arguments)) s.takes) (λ t. refl) (λ t. sym (instances_applied t arguments s.takes)))
    (same_as type (apply (given arguments) s.gives) (λ t. refl) (λ t. sym (instance_applied t arguments s.gives)))

pub bind_is : (arguments : List Ty) (e p block : Ty) → IsEquational (λ t. IsBind (map (apply t) arguments) (apply t e) (apply t p) (apply t block))
bind_is [] e p block = never
bind_is (n ∷ []) e p block = never
bind_is (n ∷ a ∷ []) e p block = never
bind_is (n ∷ a ∷ b ∷ []) e p block = three (same e (computation n a)) (same p a) (same block (computation n b))
bind_is (n ∷ a ∷ b ∷ c ∷ rest) e p block = never

pub then_is : (arguments : List Ty) (e block : Ty) → IsEquational (λ t. IsThen (map (apply t) arguments) (apply t e) (apply t block))
then_is [] e block = never
then_is (n ∷ []) e block = never
then_is (n ∷ a ∷ []) e block = never
then_is (n ∷ a ∷ b ∷ []) e block = both (same e (computation n a)) (same block (computation n b))
then_is (n ∷ a ∷ b ∷ c ∷ rest) e block = never

own_stays : (s : Scheme) (t : ℕ → Ty) → apply unknown (scheme_type s) ≡ apply t (apply unknown (scheme_type s))
own_stays s t = sym (compose t unknown (scheme_type s) ∙ alike_all _ _ (scheme_type s) (λ x. refl))

pub own_is : (o : Option Scheme) (type : Ty) → IsEquational (λ t. IsOwnType o (apply t type))
own_is None type = never
own_is (Some s) type = same_as type (apply unknown (scheme_type s)) (λ t. refl) (own_stays s)

-- a node of no instance
pub none_are : (arguments : List Ty) → IsEquational (λ t. map (apply t) arguments ≡ [])
none_are arguments = same_lists_as arguments [] (λ t. refl) (λ t. refl)

-- == Names ==

local_is : (locals : List Ty) (i : ℕ) (type : Ty) → IsEquational (λ t. slice_get (map (apply t) locals) i ≡ Some (apply t type))
local_is [] i type = exchanged (λ t h. absurd h) (λ t h. cc) never
local_is (l ∷ locals) zero type = exchanged (λ t h. ap Some h) (λ t h. cc) (same l type)
local_is (l ∷ locals) (suc i) type = local_is locals i type

pub signed_is : (locals : List Ty) (b : Option Binding) (type : Ty) → IsEquational (λ t. IsSigned (map (apply t) locals) b (apply t type))
signed_is locals None type = nothing
signed_is locals (Some (Local i)) type = local_is locals i type
signed_is locals (Some (Declared n)) type = nothing
signed_is locals (Some (Operates o)) type = nothing
signed_is locals (Some (Constructs n place)) type = nothing

pub name_is : (world : World) (locals : List Ty) (b : Option Binding) (a : TypedNode) → IsEquational (λ t. NameAgrees world (map (apply t) locals) b (substituted_node t a))
name_is world locals None a = never
name_is world locals (Some (Local i)) a = local_is locals i a.type
name_is world locals (Some (Declared n)) a = instance_is (scheme_at world (Some (Declared n))) a.arguments a.type
name_is world locals (Some (Operates o)) a = instance_is (scheme_at world (Some (Operates o))) a.arguments a.type
name_is world locals (Some (Constructs n place)) a = instance_is (scheme_at world (Some (Constructs n place))) a.arguments a.type
