-- A tree that was read with room for one frame more than there is: its frames tell whether there is room for the whole.
use Rattle.std.proofs.Common.{◌≡◌, ℕ, suc, min, nat_le, ◌<◌, ◌≤◌, true, false, List, length, Option, Some, None, refl, sym, ap, subst, ◌∙◌, ◌⊎◌, inl, inr, arith}
use Rattle.std.proofs.lemmas.Bool.Decides.{nat_tests}
use Rattle.rw_parser_grammar.specs.declared.lexeme.Lexeme.{Lexeme}
use Rattle.rw_parser_reading.specs.Frames.{kept, cut}
use Rattle.rw_parser_reading.specs.Read.{Read}
use Rattle.rw_parser_reading.proofs.ReadExact.{some_is}
use Rattle.rw_parser_reading.proofs.Alike.{Alike, left}
use Rattle.rw_parser_clauses.proofs.Small.{Small, Together, neither, both}

least : (n room : ℕ) → n ≤ room → nat_le n room ≡ true
least n room h = grind (arith, nat_tests)

over : (n room : ℕ) → room < n → nat_le n room ≡ false
over n room h = grind (arith, nat_tests)

below_or : (n more : ℕ) → (n < more) ⊎ (more ≤ n)
below_or n more = grind arith

kept_whole : {A : Type 0} (frames : A → ℕ) (room : ℕ) (a : A) → frames a ≤ room → kept frames room a ≡ Some a
unfolding kept
kept_whole frames room a h = rw (least (frames a) room h)

kept_none : {A : Type 0} (frames : A → ℕ) (room : ℕ) (a : A) → room < frames a → kept frames room a ≡ None
unfolding kept
kept_none frames room a h = rw (over (frames a) room h)

module _ {A X : Type 0} (frames : A → ℕ) (look : A → X) (room more : ℕ) (close : more ≤ suc room) where
  fits_is : (a b : A) → Small frames look more a b → frames a < more → kept frames room b ≡ Some a
  fits_is a b s h =
      let whole : frames b < more = grind (arith, s.deep) in
      let i : frames b ≤ more = omega arith in
      let j : frames b ≤ room = omega arith in
      kept_whole frames room b j ∙ ap Some (sym (s.same i))

  cut_is : (a b : A) → Small frames look more a b → more ≤ frames a → room < more → kept frames room b ≡ None
  cut_is a b s h k =
      elim (below_or (frames b) more) [
        | inl i ↦ (let j : frames b ≤ more = omega arith in let e : frames a ≡ frames b = ap frames (s.same j) in absurd (omega arith))
        | inr i ↦ kept_none frames room b (omega arith)
      ]

  -- what is kept of the tree that was read is what is kept of the whole
  pub room_is : (o p : Read A) (a : A) (rest : List Lexeme) (found : Option A) (count : ℕ) → Together frames look more o p → o ≡ Some (a, rest) → count ≡ min more (frames a)
      → (count < more → found ≡ Some a) → (more ≤ count → (room < more) × (found ≡ None)) → cut frames room p ≡ Some (found, rest)
  room_is _ _ a rest found count neither e c f g = absurd (cc)
  room_is _ _ a rest found count (both x y next s) e c f g =
      let q : (let p : A × List Lexeme = (x, next) in p) ≡ (a, rest) = some_is (x, next) (a, rest) e in
      let same : x ≡ a = ap (λ (z : A × List Lexeme). z.0) q in
      let behind : next ≡ rest = ap (λ (z : A × List Lexeme). z.1) q in
      let small : Small frames look more a y = subst (λ z. Small frames look more z y) same s in
      elim (below_or (frames a) more) [
        | inl i ↦ (let k : count < more = omega arith in ap (λ z. Some (z, next)) (fits_is a y small i ∙ sym (f k)) ∙ ap (λ z. Some (found, z)) behind)
        | inr i ↦ (let k : more ≤ count = omega arith in ap (λ z. Some (z, next)) (cut_is a y small i (g k).0 ∙ sym (g k).1) ∙ ap (λ z. Some (found, z)) behind)
      ]

  pub nothing_is : (o p : Read A) → Together frames look more o p → o ≡ None → cut frames room p ≡ None
  nothing_is _ _ neither e = refl
  nothing_is _ _ (both x y next s) e = absurd (cc)

-- a token at least was taken
pub took_some : {A : Type 0} (frames : A → ℕ) (room n : ℕ) (o p : Read A) (found : Option A) (rest : List Lexeme) → Alike left n o p → cut frames room o ≡ Some (found, rest) → length rest < n
took_some frames room n None p found rest h e = absurd (cc)
took_some frames room n (Some x) p found rest h e =
    let q : (kept frames room x.0, x.1) ≡ (found, rest) = some_is (kept frames room x.0, x.1) (found, rest) e in subst (λ z. length z < n) (ap (λ z. z.1) q) (h.less x refl)
