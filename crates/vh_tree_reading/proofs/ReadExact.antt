-- Reading exactly what is spelled.
use Rattle.std.proofs.Common.{◌≡◌, ℕ, zero, suc, ◌<◌, ◌≤◌, Bool, true, false, List, [], ◌∷◌, length, drop, Some, None, refl, ap, subst, ◌∙◌, arith, rules, inl, inr}
use denote.Enum.Bare.{same_true}
use Rattle.vh_tree.specs.contracts.token.Mark.{the_type}
use Rattle.vh_tree.specs.declared.token.Mark.{Mark}
use Rattle.vh_tree.specs.declared.token.Token.{Token}
use Rattle.vh_tree.specs.declared.token.Token.TheVariants as t
use Rattle.vh_tree.specs.Grammar.{IsSeparated, the_last, and_more, IsMany, no_more, one_more}
use Rattle.vh_tree_reading.specs.Read.{Read, same_mark, sees, after, separated_at, many_at}
use Rattle.vh_tree_reading.proofs.ScanSound.{bind_some, chosen, some_is, moved}

pub many_stop : {A : Type 0} (begins : List Token → Bool) (one : List Token → Read A) (n : ℕ) (ts : List Token) → begins ts ≡ false → many_at begins one n ts ≡ Some ([], ts)
unfolding many_at
many_stop begins one zero ts h = refl
many_stop begins one (suc n) ts h = rw h

pub is_same : (a b : Mark) → same_mark a b ≡ true → a ≡ b
unfolding same_mark
is_same a b e = same_true the_type (search rules) a b e

pub same_self : (a : Mark) → same_mark a a ≡ true
unfolding same_mark
same_self a = search rules

-- what is seen stands there
pub seen_is : (a : Mark) (ts : List Token) → sees a ts ≡ true → ts ≡ t.Mark a ∷ drop 1 ts
seen_is a [] e = absurd (cc)
seen_is a (t.Mark b ∷ ts) e = ap (λ z. t.Mark z ∷ ts) (is_same b a e)
seen_is a (t.Id x ∷ ts) e = absurd (cc)
seen_is a (t.Number n ∷ ts) e = absurd (cc)
seen_is a (t.Bits b ∷ ts) e = absurd (cc)

pub after_is : (a : Mark) (ts rest : List Token) → after a ts ≡ Some rest → ts ≡ t.Mark a ∷ rest
unfolding after
after_is a ts rest e =
    elim (chosen (sees a ts) _ _ _ e) [
      | inl h ↦ seen_is a ts h.0 ∙ ap (λ z. t.Mark a ∷ z) (some_is _ _ h.1)
      | inr h ↦ absurd (let n : None ≡ Some rest = h.1 in cc)
    ]

pub after_mark : (a : Mark) (rest : List Token) → after a (t.Mark a ∷ rest) ≡ Some rest
unfolding after
after_mark a rest = rw (same_self a)

-- the reader reads what is spelled, and nothing else; a value is read wherever what follows stops it
pub record Exact {A : Type 0} (read : List Token → Read A) (Is : List Token → A → List Token → Type 0) (stop : List Token → Bool) : Type 0 where
  pub sound : (ts : List Token) (p : A × List Token) → read ts ≡ Some p → Is ts p.0 p.1
  pub complete : (ts : List Token) (a : A) (rest : List Token) → Is ts a rest → stop rest ≡ true → read ts ≡ Some (a, rest)
  pub shorter : (ts : List Token) (a : A) (rest : List Token) → Is ts a rest → length rest < length ts

-- ---- one or more, with a mark between two
module _ {A : Type 0} (between : Mark) (one : List Token → Read A) (One : List Token → A → List Token → Type 0) (stop : List Token → Bool) (exact : Exact one One stop)
    (goes : (rest : List Token) → stop (t.Mark between ∷ rest) ≡ true) where
  separated_sound : (n : ℕ) (ts : List Token) (p : List A × List Token) → separated_at between one n ts ≡ Some p → IsSeparated between One ts p.0 p.1
  unfolding separated_at
  separated_sound zero ts p e = absurd (cc)
  separated_sound (suc n) ts p e =
      let b = bind_some (one ts) _ p e in
      let first = exact.sound ts b.0 b.1 in
      elim (chosen (sees between b.0.1) _ _ _ b.2) [
        | inl h ↦ let q = bind_some (separated_at between one n (drop 1 b.0.1)) _ p h.1 in
            moved (λ r. IsSeparated between One ts r.0 r.1) _ p q.2
            (and_more ts (drop 1 b.0.1) q.0.1 b.0.0 q.0.0 (subst (One ts b.0.0) (seen_is between b.0.1 h.0) first) (separated_sound n (drop 1 b.0.1) q.0 q.1))
        | inr h ↦ moved (λ q. IsSeparated between One ts q.0 q.1) _ p h.1 (the_last ts b.0.1 b.0.0 first)
      ]

  pub separated_shorter : {ts : List Token} {xs : List A} {rest : List Token} → IsSeparated between One ts xs rest → length rest < length ts
  separated_shorter (the_last ts rest a d) = exact.shorter ts a rest d
  separated_shorter (and_more ts mid rest a others d ds) = let h = exact.shorter ts a (t.Mark between ∷ mid) d in let k = separated_shorter ds in omega arith

  last_read : (n : ℕ) (ts rest : List Token) (a : A) → one ts ≡ Some (a, rest) → sees between rest ≡ false → separated_at between one (suc n) ts ≡ Some (a ∷ [], rest)
  unfolding separated_at
  last_read n ts rest a h c = rw (h, c)

  more_read : (n : ℕ) (ts mid rest : List Token) (a : A) (xs : List A) → one ts ≡ Some (a, t.Mark between ∷ mid) → separated_at between one n mid ≡ Some (xs, rest)
      → separated_at between one (suc n) ts ≡ Some (a ∷ xs, rest)
  unfolding separated_at
  more_read n ts mid rest a xs h g = rw (h, same_self between, g)

  pub separated_read : {ts : List Token} {xs : List A} {rest : List Token} → IsSeparated between One ts xs rest → (n : ℕ) → length ts ≤ n → sees between rest ≡ false → stop rest ≡ true
      → separated_at between one n ts ≡ Some (xs, rest)
  separated_read (the_last ts rest a d) zero h c s = let k = exact.shorter ts a rest d in absurd (omega arith)
  separated_read (the_last ts rest a d) (suc n) h c s = last_read n ts rest a (exact.complete ts a rest d s) c
  separated_read (and_more ts mid rest a others d ds) zero h c s = let k = exact.shorter ts a (t.Mark between ∷ mid) d in absurd (omega arith)
  separated_read (and_more ts mid rest a others d ds) (suc n) h c s =
      let k = exact.shorter ts a (t.Mark between ∷ mid) d in
      more_read n ts mid rest a others (exact.complete ts a (t.Mark between ∷ mid) d (goes mid)) (separated_read ds n (omega arith) c s)

  -- the whole list, where a stop of the list is one of its items and no mark between
  pub separated_exact : (ends : List Token → Bool) → ((rest : List Token) → ends rest ≡ true → sees between rest ≡ false) → ((rest : List Token) → ends rest ≡ true → stop rest ≡ true)
      → Exact (λ ts. separated_at between one (length ts) ts) (IsSeparated between One) ends
  separated_exact ends no_mark stops = record {
    sound = λ ts p e. separated_sound (length ts) ts p e;
    complete = λ ts xs rest d s. separated_read d (length ts) (omega arith) (no_mark rest s) (stops rest s);
    shorter = λ ts xs rest d. separated_shorter d;
  }

-- ---- any number
module _ {A : Type 0} (begins : List Token → Bool) (one : List Token → Read A) (One : List Token → A → List Token → Type 0) (stop : List Token → Bool) (exact : Exact one One stop)
    (known : (ts : List Token) (a : A) (rest : List Token) → One ts a rest → begins ts ≡ true) (goes : (ts : List Token) → begins ts ≡ true → stop ts ≡ true) where
  pub many_sound : (n : ℕ) (ts : List Token) (p : List A × List Token) → many_at begins one n ts ≡ Some p → IsMany One ts p.0 p.1
  unfolding many_at
  many_sound zero ts p e = moved (λ q. IsMany One ts q.0 q.1) _ p e (no_more ts)
  many_sound (suc n) ts p e =
      elim (chosen (begins ts) _ _ _ e) [
        | inl h ↦ let b = bind_some (one ts) _ p h.1 in
            let q = bind_some (many_at begins one n b.0.1) _ p b.2 in
            moved (λ r. IsMany One ts r.0 r.1) _ p q.2 (one_more ts b.0.1 q.0.1 b.0.0 q.0.0 (exact.sound ts b.0 b.1) (many_sound n b.0.1 q.0 q.1))
        | inr h ↦ moved (λ q. IsMany One ts q.0 q.1) _ p h.1 (no_more ts)
      ]

  pub many_shorter : {ts : List Token} {xs : List A} {rest : List Token} → IsMany One ts xs rest → length rest ≤ length ts
  many_shorter (no_more ts) = omega arith
  many_shorter (one_more ts mid rest a others d ds) = let h = exact.shorter ts a mid d in let k = many_shorter ds in omega arith

  one_read : (n : ℕ) (ts mid rest : List Token) (a : A) (xs : List A) → begins ts ≡ true → one ts ≡ Some (a, mid) → many_at begins one n mid ≡ Some (xs, rest)
      → many_at begins one (suc n) ts ≡ Some (a ∷ xs, rest)
  unfolding many_at
  one_read n ts mid rest a xs b h g = rw (b, h, g)

  -- a following item stops the one before it
  next_stops : {ts : List Token} {xs : List A} {rest : List Token} → IsMany One ts xs rest → stop rest ≡ true → stop ts ≡ true
  next_stops (no_more ts) s = s
  next_stops (one_more ts mid rest a others d ds) s = goes ts (known ts a mid d)

  pub many_read : {ts : List Token} {xs : List A} {rest : List Token} → IsMany One ts xs rest → (n : ℕ) → length ts ≤ n → begins rest ≡ false → stop rest ≡ true
      → many_at begins one n ts ≡ Some (xs, rest)
  many_read (no_more ts) n h b s = many_stop begins one n ts b
  many_read (one_more ts mid rest a others d ds) zero h b s = let k = exact.shorter ts a mid d in absurd (omega arith)
  many_read (one_more ts mid rest a others d ds) (suc n) h b s =
      let k = exact.shorter ts a mid d in
      one_read n ts mid rest a others (known ts a mid d) (exact.complete ts a mid d (next_stops ds s)) (many_read ds n (omega arith) b s)
