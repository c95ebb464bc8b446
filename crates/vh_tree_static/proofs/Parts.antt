-- What is measured of the parts of an expression from a place on, by the first of them.
use Rattle.std.proofs.Common.{◌≡◌, ℕ, ◌+◌, ◌<◌, Bool, true, List, [], ◌∷◌, ◌++◌, map, take, drop, length, get_or, sym, ap, ◌∙◌, refl, add-one}
use Rattle.std.specs.Prelude.{◌&&◌}
use Rattle.std.specs.List.{list_all}
use Rattle.std.proofs.Math.Seq.{take-suc}
use Rattle.vh_tree.specs.StaticRules.{Measured, Width, Widths, all_agree, joined_width, measured, sum_widths}
use Rattle.vh_tree.specs.declared.expr.VExpr.{VExpr}
use Rattle.vh_tree_static.specs.Measures.{capped}
use Rattle.vh_tree_static.proofs.Here.{cons_at}
use Rattle.vh_tree_static.proofs.Widened.{one_part_more}

abbrev pub all_fits : List Measured → Bool
all_fits ms = list_all (λ (m : Measured). m.fits) ms

abbrev pub widths_of : List Measured → List Width
widths_of ms = map (λ (m : Measured). m.width) ms

module _ (ws : Widths) where
  joined : (xs : List VExpr) (x : VExpr) → widths_of (map (measured ws) (xs ++ x ∷ [])) ≡ widths_of (map (measured ws) xs) ++ (measured ws x).width ∷ []
  joined [] x = refl
  joined (y ∷ xs) x = ap (λ (ns : List Width). (measured ws y).width ∷ ns) (joined xs x)

  module _ (parts : List VExpr) (i : ℕ) (p : VExpr) (lt : i < length parts) (is : p ≡ get_or parts i p) where
    -- a part that fits is passed
    pub fits_on : (measured ws p).fits ≡ true → all_fits (map (measured ws) (drop i parts)) ≡ all_fits (map (measured ws) (drop (i + 1) parts))
    fits_on e = ap (λ (s : List VExpr). all_fits (map (measured ws) s)) (cons_at parts i p lt is) ∙ ap (λ b. b && all_fits (map (measured ws) (drop (i + 1) parts))) e

    one_taken : take (i + 1) parts ≡ take i parts ++ p ∷ []
    one_taken = rw add-one (take-suc parts i p lt ∙ ap (λ (x : VExpr). take i parts ++ x ∷ []) (sym is))

    -- and its width added
    pub total_more : (t w r : Width) → t ≡ capped (joined_width (widths_of (map (measured ws) (take i parts)))) → w ≡ (measured ws p).width → r ≡ capped (sum_widths t w)
        → r ≡ capped (joined_width (widths_of (map (measured ws) (take (i + 1) parts))))
    total_more t w r a b c =
        c ∙ ap (λ (z : Width). capped (sum_widths z w)) a ∙ ap (λ (z : Width). capped (sum_widths (capped (joined_width (widths_of (map (measured ws) (take i parts))))) z)) b
        ∙ sym (one_part_more (widths_of (map (measured ws) (take i parts))) (measured ws p).width)
        ∙ ap (λ (ns : List Width). capped (joined_width ns)) (sym (joined (take i parts) p)) ∙ ap (λ (s : List VExpr). capped (joined_width (widths_of (map (measured ws) s)))) (sym one_taken)

    -- an argument that agrees is passed, with its parameter
    pub agrees_on : (left rest : List ℕ) (w : Width) → (measured ws p).fits ≡ true → w ≡ (measured ws p).width → ((ns : List Width) → all_agree (w ∷ ns) left ≡ all_agree ns rest)
        → (all_fits (map (measured ws) (drop i parts)) && all_agree (widths_of (map (measured ws) (drop i parts))) left)
        ≡ (all_fits (map (measured ws) (drop (i + 1) parts)) && all_agree (widths_of (map (measured ws) (drop (i + 1) parts))) rest)
    agrees_on left rest w e f h =
        ap (λ (s : List VExpr). all_fits (map (measured ws) s) && all_agree (widths_of (map (measured ws) s)) left) (cons_at parts i p lt is)
        ∙ ap (λ b. (b && all_fits (map (measured ws) (drop (i + 1) parts))) && all_agree (widths_of (map (measured ws) (p ∷ drop (i + 1) parts))) left) e
        ∙ ap (λ (n : Width). all_fits (map (measured ws) (drop (i + 1) parts)) && all_agree (n ∷ widths_of (map (measured ws) (drop (i + 1) parts))) left) (sym f)
        ∙ ap (λ b. all_fits (map (measured ws) (drop (i + 1) parts)) && b) (h (widths_of (map (measured ws) (drop (i + 1) parts))))
