-- One turn of each kind of loop.
use Rattle.std.proofs.Common.{◌≡◌, ℕ, zero, suc, ◌+◌, Bool, true, false, List, [], ◌∷◌, ◌++◌, drop, Some, None, refl, sym, ◌∙◌, ap, append_assoc, append-nil, add-one, ◌⊎◌, inl, inr, length}
use Rattle.rw_base.specs.declared.fail.Failure.TheVariants as fail
use Rattle.rw_base.specs.declared.place.Span.{Span}
use Rattle.rw_tree.specs.declared.types.Written.{Written}
use Rattle.rw_tree.specs.declared.pattern.Pat.{Pat}
use Rattle.rw_parser_grammar.specs.declared.lexeme.Mark.{Mark}
use Rattle.rw_parser_grammar.specs.declared.lexeme.Lexeme.{Lexeme}
use Rattle.rw_parser_reading.specs.Read.{◌>>=◌, Read, sees, separated_at, many_at}
use Rattle.rw_parser_reading.specs.ReadTypes.{begins_atype, atype_at, atypes_at, begins_apat, apat_at, apats_at}

-- what is read from here on, behind what was read before
abbrev pub with_front : {A : Type 0} → List A → Read (List A) → Read (List A)
with_front front None = None
with_front front (Some p) = Some (front ++ p.0, p.1)

pub front_again : {A : Type 0} (front : List A) (a : A) (r : Read (List A)) → with_front (front ++ a ∷ []) r ≡ with_front front (r >>= λ q. Some (a ∷ q.0, q.1))
front_again front a None = refl
front_again front a (Some q) = rw append_assoc

module _ {A : Type 0} (between : Mark) (one : List Lexeme → Read A) where
  pub separated_last : (n m : ℕ) (ts : List Lexeme) (front : List A) (a : A) (rest : List Lexeme) → n ≡ m + 1 → one ts ≡ Some (a, rest) → sees between rest ≡ false
      → with_front front (separated_at between one n ts) ≡ Some (front ++ a ∷ [], rest)
  unfolding separated_at
  separated_last n m ts front a rest e h c = rw (e, add-one m, h, c)

  pub separated_go : (n : ℕ) (ts : List Lexeme) (a : A) (rest : List Lexeme) → one ts ≡ Some (a, rest) → sees between rest ≡ true
      → separated_at between one (suc n) ts ≡ (separated_at between one n (drop 1 rest) >>= λ q. Some (a ∷ q.0, q.1))
  unfolding separated_at
  separated_go n ts a rest h c = rw (h, c)

  pub separated_step : (n m : ℕ) (ts : List Lexeme) (front : List A) (a : A) (rest : List Lexeme) → n ≡ m + 1 → one ts ≡ Some (a, rest) → sees between rest ≡ true
      → with_front (front ++ a ∷ []) (separated_at between one m (drop 1 rest)) ≡ with_front front (separated_at between one n ts)
  separated_step n m ts front a rest e h c =
      front_again front a (separated_at between one m (drop 1 rest)) ∙ sym (ap (with_front front) (ap (λ x. separated_at between one x ts) (e ∙ add-one m) ∙ separated_go m ts a rest h c))

  pub separated_fail : (n m : ℕ) (ts : List Lexeme) (front : List A) → n ≡ m + 1 → one ts ≡ None → with_front front (separated_at between one n ts) ≡ None
  unfolding separated_at
  separated_fail n m ts front e h = rw (e, add-one m, h)

  pub separated_none : (n : ℕ) (ts : List Lexeme) (front : List A) → n ≡ 0 → with_front front (separated_at between one n ts) ≡ None
  unfolding separated_at
  separated_none n ts front e = rw e

module _ {A : Type 0} (begins : List Lexeme → Bool) (one : List Lexeme → Read A) where
  pub many_stop : (n : ℕ) (ts : List Lexeme) → begins ts ≡ false → many_at begins one n ts ≡ Some ([], ts)
  unfolding many_at
  many_stop zero ts h = refl
  many_stop (suc n) ts h = rw h

  pub many_go : (n : ℕ) (ts : List Lexeme) (a : A) (rest : List Lexeme) → begins ts ≡ true → one ts ≡ Some (a, rest)
      → many_at begins one (suc n) ts ≡ (many_at begins one n rest >>= λ q. Some (a ∷ q.0, q.1))
  unfolding many_at
  many_go n ts a rest h e = rw (h, e)

  pub many_step : (n m : ℕ) (ts : List Lexeme) (front : List A) (a : A) (rest : List Lexeme) → n ≡ m + 1 → begins ts ≡ true → one ts ≡ Some (a, rest)
      → with_front (front ++ a ∷ []) (many_at begins one m rest) ≡ with_front front (many_at begins one n ts)
  many_step n m ts front a rest e h o =
      front_again front a (many_at begins one m rest) ∙ sym (ap (with_front front) (ap (λ x. many_at begins one x ts) (e ∙ add-one m) ∙ many_go m ts a rest h o))

  pub many_fail : (n m : ℕ) (ts : List Lexeme) (front : List A) → n ≡ m + 1 → begins ts ≡ true → one ts ≡ None → with_front front (many_at begins one n ts) ≡ None
  unfolding many_at
  many_fail n m ts front e h o = rw (e, add-one m, h, o)

  pub many_done : (n : ℕ) (ts : List Lexeme) (front : List A) → (n ≡ 0) ⊎ (begins ts ≡ false) → with_front front (many_at begins one n ts) ≡ Some (front, ts)
  unfolding many_at
  many_done n ts front (inl e) = rw (e, append-nil)
  many_done n ts front (inr e) = ap (with_front front) (many_stop n ts e) ∙ ap (λ x. Some (x, ts)) (append-nil front)

-- as many turns as there are tokens
pub atypes_turns : (inner : List Lexeme → Read Written) (ts : List Lexeme) → atypes_at inner ts ≡ many_at begins_atype (atype_at inner) (length ts) ts
unfolding atypes_at
atypes_turns inner ts = refl

pub apats_turns : (inner : List Lexeme → Read (Pat Span)) (ts : List Lexeme) → apats_at inner ts ≡ many_at begins_apat (apat_at inner) (length ts) ts
unfolding apats_at
apats_turns inner ts = refl
