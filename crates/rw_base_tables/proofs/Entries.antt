-- What the entries of a hash table say of a name.
use Rattle.std.proofs.Common.{◌≡◌, Bool, true, false, cond, List, [], ◌∷◌, map, Option, Some, refl, sym, ap, ◌∙◌, true≢false, if◌then◌else◌}
use Rattle.indexmap.specs.IndexMap.{IndexMap, get_by, with_entries, insert_entry}
use Rattle.rw_base_tables.specs.Tables.{Bytes, same_name, known_in, put}
use Rattle.rw_base_tables.proofs.Same.{one_name, swapped, same_itself}

module _ {K V : Type 0} (of : K → Bytes) where
  abbrev pub seen : List (K × V) → List (Bytes × V)
  seen es = map (λ e. (of e.0, e.1)) es

  pub found : {S : Type 0} (m : IndexMap K V S) (x : Bytes) (es : List (K × V)) → get_by (λ k. same_name x (of k)) (with_entries m es) ≡ known_in (seen es) x
  found m x [] = refl
  found m x (e ∷ es) =
      ap (λ b. cond b (Some e.1) (get_by (λ k. same_name x (of k)) (with_entries m es))) (swapped x (of e.0)) ∙ ap (λ r. if same_name (of e.0) x then Some e.1 else r) (found m x es)

  again : (a : Bool) (v w : V) (r : Option V) → (if a then Some v else r) ≡ (if a then Some v else if a then Some w else r)
  again true v w r = refl
  again false v w r = refl

  apart : (a b : Bool) (v w : V) (r : Option V) → (a ≡ true → b ≡ true → ⊥) → (if b then Some w else if a then Some v else r) ≡ (if a then Some v else if b then Some w else r)
  apart true true v w r h = absurd (h refl refl)
  apart true false v w r h = refl
  apart false true v w r h = refl
  apart false false v w r h = refl

  module _ (k : K) (v : V) where
    abbrev with_key : List (K × V) → List (K × V)
    with_key es = insert_entry (λ a b. same_name (of a) (of b)) es k v

    step : (e : K × V) (es : List (K × V)) (x : Bytes) → known_in (seen (with_key es)) x ≡ put (of k) v (known_in (seen es)) x → (b : Bool) → same_name (of k) (of e.0) ≡ b
        → known_in (seen (cond b ((e.0, v) ∷ es) (e ∷ with_key es))) x ≡ put (of k) v (known_in (seen (e ∷ es))) x
    step e es x rest true s =
        let n : of e.0 ≡ of k = sym (one_name (of k) (of e.0) s) in
        again (same_name (of e.0) x) v e.1 (known_in (seen es) x)
        ∙ ap (λ (z : Bytes). if same_name z x then Some v else if same_name (of e.0) x then Some e.1 else known_in (seen es) x) n
    step e es x rest false s =
        ap (λ r. if same_name (of e.0) x then Some e.1 else r) rest
        ∙ apart (same_name (of k) x) (same_name (of e.0) x) v e.1 (known_in (seen es) x) (λ f g. true≢false (
        sym (same_itself (of k)) ∙ ap (λ z. same_name (of k) z) (one_name (of k) x f ∙ sym (one_name (of e.0) x g)) ∙ s))

    pub inserted : (es : List (K × V)) (x : Bytes) → known_in (seen (insert_entry (λ a b. same_name (of a) (of b)) es k v)) x ≡ put (of k) v (known_in (seen es)) x
    inserted [] x = refl
    inserted (e ∷ es) x = step e es x (inserted es x) (same_name (of k) (of e.0)) refl
