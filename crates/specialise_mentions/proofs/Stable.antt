-- A stable sort is the list from left to right.
use Rattle.std.proofs.Common.{◌≡◌, ◌<◌, ◌≤◌, ℕ, suc, Bool, true, false, not, ◌&&◌, cond, nat_eq, nat_lt, nat_le, List, [], ◌∷◌, map, length, get_or, refl, sym, ◌∙◌, ap, arith, if◌then◌else◌}
use Rattle.std.specs.List.{filter}
use Rattle.std.specs.List.Sorted.{ties, IsNonDecreasingBy}
use Rattle.std.specs.Ordering.{is_lt, nat_cmp}
use Rattle.std.proofs.lemmas.Bool.Decides.{nat_tests}
use Rattle.std.specs.declared.cmp.Ordering.TheVariants.{Less, Equal, Greater}
use Rattle.rw_types_solving.specs.Types.{Ty}
use Rattle.specialise_rules.specs.Instances.{Mention as PlainMention, put_left, from_left}
use Rattle.specialise_mentions.specs.declared.mention.Mention.{Mention}
use Rattle.specialise_mentions.specs.Named.{seen_mention}

-- == Ties are equal tokens ==

lt_is : (a b : ℕ) → is_lt (nat_cmp a b) ≡ nat_lt a b
lt_is a b = by_test (nat_lt a b) (nat_eq a b)
  where
    by_test : (l e : Bool) → is_lt (cond l Less (cond e Equal Greater)) ≡ l
    by_test true e = refl
    by_test false true = refl
    by_test false false = refl

abbrev pub tied : Mention → Mention → Bool
tied = ties (λ x y. is_lt (nat_cmp x.token y.token))

neither_less : (a b : ℕ) → (not (nat_lt a b) && not (nat_lt b a)) ≡ true → a ≡ b
neither_less a b e = grind (arith, nat_tests)

same_neither : (a b : ℕ) → a ≡ b → (not (nat_lt a b) && not (nat_lt b a)) ≡ true
same_neither a b e = grind (arith, nat_tests)

tied_same : (x y : Mention) → tied x y ≡ true → x.token ≡ y.token
tied_same x y e =
    neither_less x.token y.token
    (sym (λ i. not (lt_is x.token y.token i) && not (lt_is y.token x.token i)) ∙ e)

same_tied : (x y : Mention) → x.token ≡ y.token → tied x y ≡ true
same_tied x y e = (λ i. not (lt_is x.token y.token i) && not (lt_is y.token x.token i)) ∙ same_neither x.token y.token e

-- == Mentions from left to right ==

abbrev place : Mention → List Mention → List Mention
place m [] = m ∷ []
place m (n ∷ ns) = if nat_le m.token n.token then m ∷ n ∷ ns else n ∷ place m ns

abbrev placed : List Mention → List Mention
placed [] = []
placed (m ∷ ms) = place m (placed ms)

place_is : (t : ℕ → Ty) (m : Mention) (ns : List Mention) → map (seen_mention t) (place m ns) ≡ put_left (seen_mention t m) (map (seen_mention t) ns)
place_is t m [] = refl
place_is t m (n ∷ ns) = by_test (nat_le m.token n.token) (place_is t m ns)
  where
    by_test : (b : Bool) → map (seen_mention t) (place m ns) ≡ put_left (seen_mention t m) (map (seen_mention t) ns) → map (seen_mention t) (if b then m ∷ n ∷ ns else n ∷ place m ns)
        ≡ (if b then seen_mention t m ∷ seen_mention t n ∷ map (seen_mention t) ns else seen_mention t n ∷ put_left (seen_mention t m) (map (seen_mention t) ns))
    by_test true h = refl
    by_test false h = ap (λ (z : List PlainMention). seen_mention t n ∷ z) h

placed_is : (t : ℕ → Ty) (ms : List Mention) → map (seen_mention t) (placed ms) ≡ from_left (map (seen_mention t) ms)
placed_is t [] = refl
placed_is t (m ∷ ms) = place_is t m (placed ms) ∙ ap (put_left (seen_mention t m)) (placed_is t ms)

-- == They rise ==

abbrev AreFrom : ℕ → List Mention → Type 0
AreFrom n [] = Unit {0}
AreFrom n (m ∷ ms) = (n ≤ m.token) × AreFrom n ms

abbrev Rise : List Mention → Type 0
Rise [] = Unit {0}
Rise (m ∷ ms) = AreFrom m.token ms × Rise ms

from_lower : (k n : ℕ) (ms : List Mention) → k ≤ n → AreFrom n ms → AreFrom k ms
from_lower k n [] l a = tt
from_lower k n (m ∷ ms) l a = (omega (arith, a.0), from_lower k n ms l a.1)

place_from : (n : ℕ) (m : Mention) (ns : List Mention) → n ≤ m.token → AreFrom n ns → AreFrom n (place m ns)
place_from n m [] l a = (l, tt)
place_from n m (k ∷ ks) l a = by_test (nat_le m.token k.token) (place_from n m ks l a.1)
  where
    by_test : (b : Bool) → AreFrom n (place m ks) → AreFrom n (if b then m ∷ k ∷ ks else k ∷ place m ks)
    by_test true h = (l, a)
    by_test false h = (a.0, h)

le_by : (a b : ℕ) → nat_le a b ≡ true → a ≤ b
le_by a b e = grind (arith, nat_tests)

lt_by : (a b : ℕ) → nat_le a b ≡ false → b < a
lt_by a b e = grind (arith, nat_tests)

place_rises : (m : Mention) (ns : List Mention) → Rise ns → Rise (place m ns)
place_rises m [] r = (tt, tt)
place_rises m (n ∷ ns) r = by_test (nat_le m.token n.token) refl (place_rises m ns r.1)
  where
    by_test : (b : Bool) → nat_le m.token n.token ≡ b → Rise (place m ns) → Rise (if b then m ∷ n ∷ ns else n ∷ place m ns)
    by_test true e h = let l = le_by m.token n.token e in ((l, from_lower m.token n.token ns l r.0), r)
    by_test false e h = let l = lt_by m.token n.token e in (place_from n.token m ns (omega arith) r.0, h)

placed_rises : (ms : List Mention) → Rise (placed ms)
placed_rises [] = tt
placed_rises (m ∷ ms) = place_rises m (placed ms) (placed_rises ms)

-- == Ties stay ==

one_only : (a b : Bool) {X : Type 0} (x y : X) (zs : List X) → (a ≡ true → b ≡ true → ⊥)
    → cond b (y ∷ cond a (x ∷ zs) zs) (cond a (x ∷ zs) zs) ≡ cond a (x ∷ cond b (y ∷ zs) zs) (cond b (y ∷ zs) zs)
one_only true true x y zs h = absurd (h refl refl)
one_only true false x y zs h = refl
one_only false true x y zs h = refl
one_only false false x y zs h = refl

place_ties : (w m : Mention) (ns : List Mention) → filter (tied w) (place m ns) ≡ filter (tied w) (m ∷ ns)
place_ties w m [] = refl
place_ties w m (n ∷ ns) = by_test (nat_le m.token n.token) refl (place_ties w m ns)
  where
    by_test : (b : Bool) → nat_le m.token n.token ≡ b → filter (tied w) (place m ns) ≡ filter (tied w) (m ∷ ns) → filter (tied w) (if b then m ∷ n ∷ ns else n ∷ place m ns) ≡ filter (tied w) (m ∷ n ∷ ns)
    by_test true e h = refl
    by_test false e h =
        ap (λ (z : List Mention). cond (tied w n) (n ∷ z) z) h
        ∙ one_only (tied w m) (tied w n) m n (filter (tied w) ns)
        (λ f g. let l = lt_by m.token n.token e in let one = tied_same w m f in let other = tied_same w n g in absurd (omega arith))

placed_ties : (w : Mention) (ms : List Mention) → filter (tied w) (placed ms) ≡ filter (tied w) ms
placed_ties w [] = refl
placed_ties w (m ∷ ms) = place_ties w m (placed ms) ∙ ap (λ (z : List Mention). cond (tied w m) (m ∷ z) z) (placed_ties w ms)

-- == One such list ==

least : (n : ℕ) (x w : Mention) (ms rest : List Mention) → AreFrom n ms → filter (tied x) ms ≡ w ∷ rest → n ≤ x.token
least n x w [] rest a e = absurd (cc)
least n x w (m ∷ ms) rest a e = by_test (tied x m) refl e (λ h. least n x w ms rest a.1 h)
  where
    by_test : (b : Bool) → tied x m ≡ b → cond b (m ∷ filter (tied x) ms) (filter (tied x) ms) ≡ w ∷ rest → (filter (tied x) ms ≡ w ∷ rest → n ≤ x.token) → n ≤ x.token
    by_test true f h later = let same = tied_same x m f in omega (arith, a.0)
    by_test false f h later = later h

kept : (b : Bool) (m : Mention) (ms : List Mention) → b ≡ true → cond b (m ∷ ms) ms ≡ m ∷ ms
kept true m ms e = refl
kept false m ms e = absurd (cc)

first_kept : (m : Mention) (ms : List Mention) → filter (tied m) (m ∷ ms) ≡ m ∷ filter (tied m) ms
first_kept m ms = kept (tied m m) m (filter (tied m) ms) (same_tied m m refl)

behind : (b : Bool) (m : Mention) (xs ys : List Mention) → cond b (m ∷ xs) xs ≡ cond b (m ∷ ys) ys → xs ≡ ys
behind true m xs ys e = cc
behind false m xs ys e = e

-- the first of two such lists
same_token : (y z : Mention) (ys zs : List Mention) → Rise (y ∷ ys) → Rise (z ∷ zs) → ((w : Mention) → filter (tied w) (y ∷ ys) ≡ filter (tied w) (z ∷ zs)) → y.token ≡ z.token
same_token y z ys zs r s h =
    let one = least z.token y y (z ∷ zs) (filter (tied y) ys) (omega arith, s.0) (sym (h y) ∙ first_kept y ys) in
    let other = least y.token z z (y ∷ ys) (filter (tied z) zs) (omega arith, r.0) (h z ∙ first_kept z zs) in omega arith

same_first : (y z : Mention) (ys zs : List Mention) → Rise (y ∷ ys) → Rise (z ∷ zs) → ((w : Mention) → filter (tied w) (y ∷ ys) ≡ filter (tied w) (z ∷ zs)) → y ≡ z
same_first y z ys zs r s h =
    let e : y ∷ filter (tied y) ys ≡ z ∷ filter (tied y) zs = sym (first_kept y ys) ∙ h y ∙ kept (tied y z) z (filter (tied y) zs) (same_tied y z (same_token y z ys zs r s h)) in cc

pub one_list : (ys zs : List Mention) → Rise ys → Rise zs → ((w : Mention) → filter (tied w) ys ≡ filter (tied w) zs) → ys ≡ zs
one_list [] [] r s h = refl
one_list [] (z ∷ zs) r s h = let e : [] ≡ z ∷ filter (tied z) zs = h z ∙ first_kept z zs in absurd (cc)
one_list (y ∷ ys) [] r s h = let e : y ∷ filter (tied y) ys ≡ [] = sym (first_kept y ys) ∙ h y in absurd (cc)
one_list (y ∷ ys) (z ∷ zs) r s h =
    let head = same_first y z ys zs r s h in
    let rest = one_list ys zs r.1 s.1
    (λ w. behind (tied w y) y (filter (tied w) ys) (filter (tied w) zs) (h w ∙ ap (λ (v : Mention). cond (tied w v) (v ∷ filter (tied w) zs) (filter (tied w) zs)) (sym head))) in
    λ i. head i ∷ rest i

-- == What a stable sort gives ==

from_each : (n : ℕ) (ms : List Mention) (d : Mention) → ((j : ℕ) → j < length ms → n ≤ (get_or ms j d).token) → AreFrom n ms
from_each n [] d h = tt
from_each n (m ∷ ms) d h = (h 0 (omega arith), from_each n ms d (λ j l. h (suc j) (omega arith)))

rises_by : (ms : List Mention) → IsNonDecreasingBy (λ m. m.token) ms → Rise ms
rises_by [] h = tt
rises_by (m ∷ ms) h = (from_each m.token ms m (λ j l. h 0 (suc j) m (omega arith) (omega arith)), rises_by ms (λ i j d l k. h (suc i) (suc j) d (omega arith) (omega arith)))

pub sorted_is : (t : ℕ → Ty) (before after : List Mention) → IsNonDecreasingBy (λ m. m.token) after → ((w : Mention) → filter (tied w) after ≡ filter (tied w) before)
    → map (seen_mention t) after ≡ from_left (map (seen_mention t) before)
sorted_is t before after up stays =
    ap (map (seen_mention t)) (one_list after (placed before) (rises_by after up) (placed_rises before) (λ w. stays w ∙ sym (placed_ties w before))) ∙ placed_is t before
