-- Steps of the walk over a type.
use Rattle.std.proofs.Common.{◌≡◌, ◌≢◌, ℕ, suc, ◌-◌, Bool, true, false, not, ◌==◌, List, [], ◌∷◌, length, take, drop, Option, Some, None, Result, Ok, Err, IfOk, refl, sym, ap, ◌∙◌, if◌then◌else◌, arith}
use Rattle.std.proofs.lemmas.Bool.Decides.{nat_tests}
use Rattle.rw_tree.specs.declared.types.Written.{Written}
use Rattle.rw_tree.specs.declared.types.Written.TheVariants as type
use Rattle.rw_tree.specs.declared.types.Kind.{Kind}
use Rattle.rw_tree.specs.declared.types.Kind.TheVariants.{Plain}
use Rattle.rw_tree.specs.Types.{function_type, type_parts, written, writtens}
use Rattle.rw_tree.proofs.Plains as plain
use Rattle.rw_scope_rules.specs.Names.{Bytes}
use Rattle.rw_scope_rules.specs.Kinds.{Uses, both, at_kinds, uses_of, parts_uses}
use Rattle.rw_scope_uses.specs.Spine.{is_applied, count_types, inner_uses, if_fit}
use Rattle.rw_scope_rules.proofs.Basics.{clash}
use Rattle.rw_scope_uses.proofs.Joining.{both_none, then_wrong, then_more, unlike}

pub on_ok : {T E : Type 0} {P Q : T → Type 0} (r : Result T E) → ((x : T) → P x → Q x) → IfOk r P → IfOk r Q
on_ok (Ok x) f h = f x h
on_ok (Err e) f h = h

-- a type with arguments
pub some_arguments : (ty head : Written) (parts : List Written) (empty : Bool) → ty ≡ type.Apply head parts → (parts ≡ [] → empty ≡ true) → not empty ≡ true → not empty ≡ is_applied (written ty)
some_arguments ty head [] empty is h e = let k : not empty ≡ false = ap not (h refl) in clash (not empty) e k
some_arguments ty head (p ∷ ps) empty is h e = e ∙ sym (ap is_applied (ap written is ∙ plain.written-Apply head (p ∷ ps)))

count_listed : (ts : List Written) → count_types (type_parts (writtens ts)) ≡ length ts
count_listed [] = refl
count_listed (t ∷ ts) = ap suc (count_listed ts)

module _ (takes : Bytes → Kind → Option (List Kind)) (arrows : Bool) where
  uses_listed : (ts : List Written) → length (parts_uses takes arrows (type_parts (writtens ts))) ≡ length ts
  uses_listed [] = refl
  uses_listed (t ∷ ts) = ap suc (uses_listed ts)

  module _ (ty head given : Written) (parts listed : List Written) (kinds front back : List Kind) (mid many : ℕ) (is : ty ≡ type.Apply head parts) (same_head : given ≡ head) (same_parts : listed ≡ parts)
      (front_is : front ≡ take mid kinds) (back_is : back ≡ drop mid kinds) (mid_is : mid ≡ length kinds - many) (many_is : many ≡ length parts) where
    cut : length kinds - count_types (type_parts (writtens parts)) ≡ mid
    cut = ap (λ n. length kinds - n) (count_listed parts ∙ sym many_is) ∙ sym mid_is

    applied_inner : inner_uses takes arrows (written ty) kinds ≡ both (inner_uses takes arrows (written given) front) (at_kinds (parts_uses takes arrows (type_parts (writtens listed))) back)
    applied_inner =
        ap (λ t. inner_uses takes arrows t kinds) (ap written is ∙ plain.written-Apply head parts)
        ∙ ap (λ n. both (inner_uses takes arrows (written head) (take n kinds)) (at_kinds (parts_uses takes arrows (type_parts (writtens parts))) (drop n kinds))) cut
        ∙ ap (λ ks. both (inner_uses takes arrows (written head) ks) (at_kinds (parts_uses takes arrows (type_parts (writtens parts))) (drop mid kinds))) (sym front_is)
        ∙ ap (λ ks. both (inner_uses takes arrows (written head) front) (at_kinds (parts_uses takes arrows (type_parts (writtens parts))) ks)) (sym back_is)
        ∙ ap (λ h. both (inner_uses takes arrows (written h) front) (at_kinds (parts_uses takes arrows (type_parts (writtens parts))) back)) (sym same_head)
        ∙ ap (λ ps. both (inner_uses takes arrows (written given) front) (at_kinds (parts_uses takes arrows (type_parts (writtens ps))) back)) (sym same_parts)

    -- the head is wrong, or the arguments are judged behind it
    pub head_wrong : (old new : List (Bytes × Kind)) (fits : Bool) → fits ≡ false → if_fit fits new ≡ both (Some old) (inner_uses takes arrows (written given) front)
        → None ≡ both (Some old) (inner_uses takes arrows (written ty) kinds)
    head_wrong old new fits e h = then_wrong (Some old) _ _ (sym (ap (λ b. if_fit b new) e) ∙ h) ∙ ap (both (Some old)) (sym applied_inner)

    pub head_right : (old mid_uses : List (Bytes × Kind)) (after : Uses) (fits : Bool) → fits ≡ true → if_fit fits mid_uses ≡ both (Some old) (inner_uses takes arrows (written given) front)
        → after ≡ both (Some mid_uses) (at_kinds (parts_uses takes arrows (type_parts (writtens listed))) back) → after ≡ both (Some old) (inner_uses takes arrows (written ty) kinds)
    head_right old mid_uses after fits e h k =
        then_more (Some old) (Some mid_uses) after _ _ (sym (ap (λ b. if_fit b mid_uses) e) ∙ h) k ∙ ap (both (Some old)) (sym applied_inner)

  no_kind : (kinds : List Kind) → (length kinds == 0) ≡ true → kinds ≡ []
  no_kind [] e = refl
  no_kind (k ∷ ks) e = let z : suc (length ks) ≡ 0 = grind (arith, nat_tests) in absurd (omega arith)

  -- an arrow whose left side is right
  pub left_right : (ty from to given left : Written) (kinds : List Kind) (old mid : List (Bytes × Kind)) (after : Uses) (fits : Bool) → ty ≡ type.Fun from to → given ≡ to → left ≡ from → (length kinds == 0) ≡ true → arrows ≡ true
      → fits ≡ true → if_fit fits mid ≡ both (Some old) (uses_of takes arrows (written left) [] Plain) → after ≡ both (Some mid) (uses_of takes arrows (written given) [] Plain)
      → after ≡ both (Some old) (inner_uses takes arrows (written ty) kinds)
  left_right ty from to given left kinds old mid after fits is same_to same_from none may e h k =
      then_more (Some old) (Some mid) after (uses_of takes arrows (written left) [] Plain) (uses_of takes arrows (written given) [] Plain) (sym (ap (λ b. if_fit b mid) e) ∙ h) k
      ∙ ap (both (Some old)) (ap (λ f. both (uses_of takes arrows (written f) [] Plain) (uses_of takes arrows (written given) [] Plain)) same_from
      ∙ ap (λ t. both (uses_of takes arrows (written from) [] Plain) (uses_of takes arrows (written t) [] Plain)) same_to
      ∙ ap (λ b. if b then both (uses_of takes arrows (written from) [] Plain) (uses_of takes arrows (written to) [] Plain) else None) (sym may)
      ∙ sym (ap (λ t. inner_uses takes arrows t kinds) (ap written is ∙ plain.written-Fun from to) ∙ ap (inner_uses takes arrows (function_type (written from) (written to))) (no_kind kinds none)))

  -- more or fewer arguments than kinds
  pub other_count : (parts : List Written) (kinds : List Kind) (old : List (Bytes × Kind)) → length parts ≢ length kinds → None ≡ both (Some old) (at_kinds (parts_uses takes arrows (type_parts (writtens parts))) kinds)
  other_count parts kinds old ne = sym (ap (both (Some old)) (unlike (parts_uses takes arrows (type_parts (writtens parts))) kinds (λ e. ne (sym (uses_listed parts) ∙ e))) ∙ both_none (Some old))
