-- Uses that are noted one after the other.
use Rattle.std.proofs.Common.{◌≡◌, ℕ, ◌+◌, ◌<◌, Bool, true, ◌&&◌, List, [], ◌∷◌, ◌++◌, append-nil, length, take, drop, get_or, Some, sym, ap, ◌∙◌, arith}
use Rattle.std.proofs.lemmas.Grind.{common_steps}
use Rattle.rw_tree.specs.declared.types.Kind.{Kind}
use Rattle.rw_scope_rules.specs.Names.{Bytes, first_named}
use Rattle.rw_scope_uses.specs.declared.uses.Use.{Use}
use Rattle.rw_scope_uses.specs.Spine.{plain_use, plain_uses}
use Rattle.rw_scope_kinds.specs.Agreeing.{agrees_with, agree_after}
use Rattle.rw_scope_uses.proofs.Tables.{second_passed, before_rest}
use Rattle.rw_scope_uses.proofs.Using.{uses_more}

-- a use of a name that is known, and one of a name that isn't
pub known_use : (firsts : List (Bytes × Kind)) (u : Bytes × Kind) (k : Kind) → Some k ≡ first_named u.0 firsts → (x : Bytes) → first_named x firsts ≡ first_named x (firsts ++ u ∷ [])
known_use firsts u k e x = ap (first_named x) (sym (append-nil firsts)) ∙ second_passed x firsts u [] k (sym e)

pub new_use : (old new : List (Bytes × Kind)) (name copy : Bytes) (k : Kind) → copy ≡ name → ((x : Bytes) (rest : List (Bytes × Kind)) → first_named x (new ++ rest) ≡ first_named x (old ++ (copy, k) ∷ rest))
    → (x : Bytes) → first_named x new ≡ first_named x (old ++ (name, k) ∷ [])
new_use old new name copy k e h x = ap (first_named x) (sym (append-nil new)) ∙ h x [] ∙ ap (λ n. first_named x (old ++ (n, k) ∷ [])) e

-- one use more
taken_more : (us : List Use) (i : ℕ) (u : Use) → i < length us → u ≡ get_or us i u → take (i + 1) us ≡ take i us ++ u ∷ []
taken_more us i u within read = grind (arith, common_steps)

left_before : (us : List Use) (i : ℕ) (u : Use) → i < length us → u ≡ get_or us i u → drop i us ≡ u ∷ drop (i + 1) us
left_before us i u within read = grind (arith, common_steps)

module _ (us : List Use) (i : ℕ) (u : Use) (within : i < length us) (read : u ≡ get_or us i u) where
  so_far : plain_uses (take (i + 1) us) ≡ plain_uses (take i us) ++ plain_use u ∷ []
  so_far = uses_more (take (i + 1) us) (take i us) u (taken_more us i u within read)

  pub one_agrees : (agrees : Bool) (firsts : List (Bytes × Kind)) (whole : Bool) → agrees ≡ true → agrees ≡ agrees_with (first_named u.name.now firsts) u.kind
      → ((x : Bytes) → first_named x firsts ≡ first_named x (plain_uses (take i us)))
      → agree_after (plain_uses (take i us)) (plain_uses (drop i us)) ≡ whole → agree_after (plain_uses (take (i + 1) us)) (plain_uses (drop (i + 1) us)) ≡ whole
  one_agrees agrees firsts whole yes_ says same h =
      let here : agrees_with (first_named u.name.now (plain_uses (take i us))) u.kind ≡ true = ap (λ o. agrees_with o u.kind) (sym (same u.name.now)) ∙ sym says ∙ yes_ in
      ap (λ vs. agree_after vs (plain_uses (drop (i + 1) us))) so_far
      ∙ sym (ap (λ b. b && agree_after (plain_uses (take i us) ++ plain_use u ∷ []) (plain_uses (drop (i + 1) us))) here)
      ∙ ap (λ vs. agree_after (plain_uses (take i us)) (plain_uses vs)) (sym (left_before us i u within read))
      ∙ h

  pub one_known : (old new : List (Bytes × Kind)) → ((x : Bytes) → first_named x old ≡ first_named x (plain_uses (take i us)))
      → ((x : Bytes) → first_named x new ≡ first_named x (old ++ plain_use u ∷ [])) → (x : Bytes) → first_named x new ≡ first_named x (plain_uses (take (i + 1) us))
  one_known old new same more x = more x ∙ before_rest x old (plain_uses (take i us)) (plain_use u ∷ []) (same x) ∙ ap (first_named x) (sym so_far)
