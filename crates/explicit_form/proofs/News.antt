-- Names that are new, one more and many more.
use Rattle.std.proofs.Common.{◌≡◌, ℕ, suc, ◌+◌, ◌<◌, Bool, true, false, cond, not, ◌&&◌, ◌||◌, List, [], ◌∷◌, ◌++◌, length, drop, get_or, Option, Some, refl, sym, ap, subst, ◌∙◌, rules, append_assoc, add-one, drop-cons}
use Rattle.std.specs.Prelude.{flat_map, find}
use Rattle.std.specs.List.{list_any}
use Rattle.std.proofs.lemmas.List.Folds.{list_any-append}
use Rattle.explicit_form.specs.Fit.{are_new}
use Rattle.rw_base.specs.Answers.{Unread}
use Rattle.rw_base.specs.declared.fail.Failure.TheVariants as fail
use Rattle.explicit_form.specs.Judged.{Refuses}
use Rattle.rw_base.specs.Answers.{Fails}

-- a refusal's cause is one of the whole
pub refused_on : (e : Unread) (a b : Bool) → Refuses e a → (a ≡ false → b ≡ false) → Refuses e b
refused_on (fail.Refused r) a b h f = f h
refused_on fail.OutOfMemory a b h f = tt

-- a refusal without its cause
pub not_refused : {Y : Type 0} (e : Unread) (b : Bool) (found : Option Y) → Refuses e b → b ≡ true → Fails e found
not_refused (fail.Refused r) b found h k = absurd (cc)
not_refused fail.OutOfMemory b found h k = tt

pub both : (a b : Bool) → (a && b) ≡ true → (a ≡ true) × (b ≡ true)
both true b h = (refl, h)
both false b h = absurd (cc)

pub no_left : (a b : Bool) → a ≡ false → (a && b) ≡ false
no_left a b h = rw h

pub no_right : (a b : Bool) → b ≡ false → (a && b) ≡ false
no_right true b h = h
no_right false b h = refl

pub and_grouped : (a b c : Bool) → (a && (b && c)) ≡ ((a && b) && c)
and_grouped true b c = refl
and_grouped false b c = refl

-- one more, which is not new
pub new_stop : {A : Type 0} (same : A → A → Bool) (seen all rest : List A) (x : A) → all ≡ x ∷ rest → not (list_any (same x) seen) ≡ false → are_new same seen all ≡ false
new_stop same seen all rest x e h = rw (e, h)

-- one more, which is new
pub new_step : {A : Type 0} (same : A → A → Bool) (taken seen all rest : List A) (x : A) → all ≡ x ∷ rest → not (list_any (same x) (taken ++ seen)) ≡ true
    → are_new same (taken ++ seen) all ≡ are_new same (taken ++ (seen ++ x ∷ [])) rest
new_step same taken seen all rest x e h = rw (e, h) (ap (λ s. are_new same s rest) (append_assoc taken seen (x ∷ [])))

-- many more
pub new_many : {A : Type 0} (same : A → A → Bool) (seen xs ys : List A) → are_new same seen (xs ++ ys) ≡ (are_new same seen xs && are_new same (seen ++ xs) ys)
new_many same seen [] ys = search rules
new_many same seen (x ∷ xs) ys =
    let fresh = not (list_any (same x) seen) in
    ap (λ b. fresh && b) (new_many same (seen ++ x ∷ []) xs ys ∙ ap (λ s. are_new same (seen ++ x ∷ []) xs && are_new same s ys) (append_assoc seen (x ∷ []) xs))
    ∙ and_grouped fresh (are_new same (seen ++ x ∷ []) xs) (are_new same (seen ++ x ∷ xs) ys)

-- what stands in neither of two lists
apart : (a b : Bool) → (a || b) ≡ false → (a ≡ false) × (b ≡ false)
apart true b h = absurd (cc)
apart false b h = (refl, h)

also_apart : {A : Type 0} (p : A → Bool) (small big more : List A) → (list_any p big ≡ false → list_any p small ≡ false) → list_any p (big ++ more) ≡ false → list_any p (small ++ more) ≡ false
also_apart p small big more f h =
    let k = apart (list_any p big) (list_any p more) (sym (list_any-append p big more) ∙ h) in
    rw (list_any-append, f k.0, k.1)

is_not : (b : Bool) → not b ≡ true → b ≡ false
is_not true h = absurd (cc)
is_not false h = refl

-- with fewer seen
pub new_beside_fewer : {A : Type 0} (same : A → A → Bool) (small big xs : List A) → ((y : A) → list_any (same y) big ≡ false → list_any (same y) small ≡ false)
    → are_new same big xs ≡ true → are_new same small xs ≡ true
new_beside_fewer same small big [] f h = refl
new_beside_fewer same small big (x ∷ xs) f h =
    let k = both (not (list_any (same x) big)) (are_new same (big ++ x ∷ []) xs) h in
    rw (f x (is_not _ k.0)) (new_beside_fewer same (small ++ x ∷ []) (big ++ x ∷ []) xs (λ y. also_apart (same y) small big (x ∷ []) (f y)) k.1)

-- each part of what is new is new
pub new_part : {A B : Type 0} (same : A → A → Bool) (seen : List A) (parts : B → List A) (p : B → Bool) (all : List B) (one : B)
    → are_new same seen (flat_map parts all) ≡ true → find p all ≡ Some one → are_new same seen (parts one) ≡ true
new_part same seen parts p [] one h e = absurd (cc)
new_part same seen parts p (x ∷ all) one h e =
    let k = both (are_new same seen (parts x)) (are_new same (seen ++ parts x) (flat_map parts all)) (sym (new_many same seen (parts x) (flat_map parts all)) ∙ h) in
    let rest : are_new same seen (flat_map parts all) ≡ true =
    new_beside_fewer same seen (seen ++ parts x) (flat_map parts all) (λ y g. (apart _ _ (sym (list_any-append (same y) seen (parts x)) ∙ g)).0) k.1 in
    let cases : (b : Bool) → cond b (Some x) (find p all) ≡ Some one → are_new same seen (parts one) ≡ true =
    λ (b : Bool). elim b as (λ v. cond v (Some x) (find p all) ≡ Some one → are_new same seen (parts one) ≡ true)
    [ true ↦ λ g. (let i : x ≡ one = cc in subst (λ z. are_new same seen (parts z) ≡ true) i k.0) | false ↦ λ g. new_part same seen parts p all one rest g ] in
    cases (p x) e

-- what is left, from its first item on
pub cut : {B : Type 0} (all : List B) (i : ℕ) (x : B) → i < length all → x ≡ get_or all i x → drop i all ≡ x ∷ drop (i + 1) all
cut all i x h e = drop-cons all i x h ∙ ap (λ y. y ∷ drop (suc i) all) (sym e) ∙ ap (λ n. x ∷ drop n all) (sym (add-one i))

-- many more, which are not new
pub part_stop : {A B : Type 0} (same : A → A → Bool) (seen : List A) (parts : B → List A) (all : List B) (i : ℕ) (x : B) → i < length all → x ≡ get_or all i x
    → are_new same seen (parts x) ≡ false → are_new same seen (flat_map parts (drop i all)) ≡ false
part_stop same seen parts all i x h e bad =
    ap (λ l. are_new same seen (flat_map parts l)) (cut all i x h e) ∙ new_many same seen (parts x) (flat_map parts (drop (i + 1) all)) ∙ no_left _ _ bad

-- many more, which are new
pub part_step : {A B : Type 0} (same : A → A → Bool) (taken seen : List A) (parts : B → List A) (all : List B) (i : ℕ) (x : B) → i < length all → x ≡ get_or all i x
    → are_new same (taken ++ seen) (parts x) ≡ true
    → are_new same (taken ++ seen) (flat_map parts (drop i all)) ≡ are_new same (taken ++ (seen ++ parts x)) (flat_map parts (drop (i + 1) all))
part_step same taken seen parts all i x h e good =
    let rest = flat_map parts (drop (i + 1) all) in
    ap (λ l. are_new same (taken ++ seen) (flat_map parts l)) (cut all i x h e) ∙ new_many same (taken ++ seen) (parts x) rest
    ∙ ap (λ b. b && are_new same ((taken ++ seen) ++ parts x) rest) good ∙ ap (λ s. are_new same s rest) (append_assoc taken seen (parts x))
