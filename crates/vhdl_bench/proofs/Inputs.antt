-- One input after another.
use Rattle.std.proofs.Common.{◌≡◌, ℕ, suc, ◌+◌, ◌<◌, List, ◌∷◌, map, length, drop, get_or, Bool, true, false, nat_eq, true≢false, refl, ap, sym, ◌∙◌, arith}
use Rattle.std.proofs.Math.Seq.{drop-cons}
use Rattle.std.proofs.lemmas.List.Folds.{list_all_at}
use Rattle.std.proofs.lemmas.Grind.{common_steps}
use Rattle.std.proofs.lemmas.Bool.{eqb-true}
use Rattle.std.specs.List.{list_all}
use Rattle.rw_trace.specs.Traces.{most_lines}
use Rattle.vhdl_bench.specs.Showing.{wire_of}

-- the element at a place, and what follows it
pub cut_here : {A : Type 0} (xs : List A) (i : ℕ) (x : A) → i < length xs → x ≡ get_or xs i x → drop i xs ≡ x ∷ drop (i + 1) xs
cut_here xs i x within is = let next : suc i ≡ i + 1 = omega arith in drop-cons xs i x within ∙ ap (λ y. y ∷ drop (suc i) xs) (sym is) ∙ ap (λ n. x ∷ drop n xs) next

holds_or : {A : Type 0} (p : A → Bool) (xs : List A) (i : ℕ) (x : A) → i < length xs → x ≡ get_or xs i x → list_all p xs ≡ true → (b : Bool) → p x ≡ b → p x ≡ true
holds_or p xs i x within is all true e = e
holds_or p xs i x within is all false e = absurd (true≢false (sym all ∙ list_all_at p xs i x within (ap p (sym is) ∙ e)))

-- what holds of all holds of the element at a place
pub holds_here : {A : Type 0} (p : A → Bool) (xs : List A) (i : ℕ) (x : A) → i < length xs → x ≡ get_or xs i x → list_all p xs ≡ true → p x ≡ true
holds_here p xs i x within is all = holds_or p xs i x within is all (p x) refl

-- the width of an input
pub width_here : (width : ℕ) (bits : List Bool) → nat_eq (length bits) width ≡ true → length (map wire_of bits) ≡ width
width_here width bits same = let e : length (map wire_of bits) ≡ length bits = grind (arith, common_steps) in e ∙ eqb-true (length bits) width same

-- how many lines a trace has at most
pub lines_are : most_lines ≡ 1048576
lines_are = refl
