-- Reading exactly what is spelled: lists and single words.
use Rattle.std.proofs.Common.{◌≡◌, ℕ, zero, suc, ◌<◌, ◌≤◌, Bool, true, false, cond, ◌&&◌, List, [], ◌∷◌, length, drop, Option, Some, None, refl, sym, ap, subst, ◌∙◌, arith, rules, ◌⊎◌, inl, inr}
use Rattle.std.specs.Prelude.{bytes_eq}
use Rattle.std.specs.Cmp.Lexicographic.{same_text}
use Rattle.std.proofs.lemmas.Cmp.{nat_list_eq_equiv}
use denote.Enum.Bare.{same_true}
use Rattle.rw_lex.specs.contracts.token.TokenKind.{the_type}
use Rattle.rw_lex.specs.declared.token.TokenKind.{TokenKind}
use Rattle.explicit_form.specs.Words.{Word, same_kind, sees}
use Rattle.explicit_form.specs.Lists.{IsSeparated, the_last, and_more, IsMany, no_more, one_more}
use Rattle.explicit_form.specs.Read.{Read, ◌>>=◌, after, name_at, separated_at, many_at}
use Rattle.explicit_form.proofs.Turns.{many_stop}

pub bind_some : {A B : Type 0} (o : Option A) (f : A → Option B) (y : B) → (o >>= f) ≡ Some y → (x : A) × (o ≡ Some x) × (f x ≡ Some y)
bind_some None f y e = absurd (cc)
bind_some (Some x) f y e = (x, refl, e)

pub chosen : {A : Type 0} (b : Bool) (x y z : A) → cond b x y ≡ z → ((b ≡ true) × (x ≡ z)) ⊎ ((b ≡ false) × (y ≡ z))
chosen true x y z e = inl (refl, e)
chosen false x y z e = inr (refl, e)

pub some_is : {A : Type 0} (a b : A) → Some a ≡ Some b → a ≡ b
some_is a b e = cc

pub moved : {A : Type 0} (P : A → Type 0) (a b : A) → Some a ≡ Some b → P a → P b
moved P a b e p = subst P (some_is a b e) p

pub both : (a b : Bool) → (a && b) ≡ true → (a ≡ true) × (b ≡ true)
both true b h = (refl, h)
both false b h = absurd (cc)

is_same : (a b : TokenKind) → same_kind a b ≡ true → a ≡ b
unfolding same_kind
is_same a b e = same_true the_type (search rules) a b e

same_self : (a : TokenKind) → same_kind a a ≡ true
unfolding same_kind
same_self a = search rules

-- a word sees itself
pub word_seen : (w : Word) (rest : List Word) → sees w (w ∷ rest) ≡ true
word_seen w rest = rw (same_self w.kind, nat_list_eq_equiv.refl w.text)

same_word : (v w : Word) → v.kind ≡ w.kind → v.text ≡ w.text → v ≡ w
same_word v w k t = ap (λ (kind : TokenKind). record { kind = kind; text = v.text }) k ∙ ap (λ (text : List ℕ). record { kind = w.kind; text = text }) t

-- what is seen stands there
pub seen_is : (w : Word) (ws : List Word) → sees w ws ≡ true → ws ≡ w ∷ drop 1 ws
seen_is w [] e = absurd (cc)
seen_is w (v ∷ ws) e =
    let s = both (same_kind v.kind w.kind) (bytes_eq v.text w.text) e in
    ap (λ z. z ∷ ws) (same_word v w (is_same v.kind w.kind s.0) (same_text v.text w.text (sym s.1)))

pub after_is : (w : Word) (ws rest : List Word) → after w ws ≡ Some rest → ws ≡ w ∷ rest
unfolding after
after_is w ws rest e =
    elim (chosen (sees w ws) _ _ _ e) [
      | inl h ↦ seen_is w ws h.0 ∙ ap (λ z. w ∷ z) (some_is _ _ h.1)
      | inr h ↦ absurd (let n : None ≡ Some rest = h.1 in cc)
    ]

pub after_word : (w : Word) (rest : List Word) → after w (w ∷ rest) ≡ Some rest
unfolding after
after_word w rest = rw (word_seen w rest)

name_word : (kind : TokenKind) (word : Word) (name : List ℕ) → word.kind ≡ kind → word.text ≡ name → word ≡ record { kind = kind; text = name }
name_word kind word name k t = same_word word (record { kind = kind; text = name }) k t

-- a name that is read stands there
pub name_is : (kind : TokenKind) (ws : List Word) (p : List ℕ × List Word) → name_at kind ws ≡ Some p → ws ≡ record { kind = kind; text = p.0 } ∷ p.1
name_is kind [] p e = absurd (cc)
name_is kind (word ∷ ws) p e =
    elim (chosen (same_kind word.kind kind) _ _ _ e) [
      | inl h ↦ let q = some_is (word.text, ws) p h.1 in
          ap (λ z. z ∷ ws) (name_word kind word word.text (is_same word.kind kind h.0) refl) ∙ ap (λ (r : List ℕ × List Word). record { kind = kind; text = r.0 } ∷ r.1) q
      | inr h ↦ absurd (let n : None ≡ Some p = h.1 in cc)
    ]

pub name_word_read : (kind : TokenKind) (name : List ℕ) (rest : List Word) → name_at kind (record { kind = kind; text = name } ∷ rest) ≡ Some (name, rest)
name_word_read kind name rest = rw (same_self kind)

-- the reader reads what is spelled, and nothing else
pub record Exact {A : Type 0} (read : List Word → Read A) (Is : List Word → A → List Word → Type 0) : Type 0 where
  pub sound : (ts : List Word) (p : A × List Word) → read ts ≡ Some p → Is ts p.0 p.1
  pub complete : (ts : List Word) (a : A) (rest : List Word) → Is ts a rest → read ts ≡ Some (a, rest)
  pub shorter : (ts : List Word) (a : A) (rest : List Word) → Is ts a rest → length rest < length ts

-- ---- one or more, with a word between two
module _ {A : Type 0} (between : Word) (one : List Word → Read A) (One : List Word → A → List Word → Type 0) (exact : Exact one One) where
  pub separated_sound : (n : ℕ) (ts : List Word) (p : List A × List Word) → separated_at between one n ts ≡ Some p → IsSeparated between One ts p.0 p.1
  unfolding separated_at
  separated_sound zero ts p e = absurd (cc)
  separated_sound (suc n) ts p e =
      let b = bind_some (one ts) _ p e in
      let first = exact.sound ts b.0 b.1 in
      elim (chosen (sees between b.0.1) _ _ _ b.2) [
        | inl h ↦ let q = bind_some (separated_at between one n (drop 1 b.0.1)) _ p h.1 in
            moved (λ r. IsSeparated between One ts r.0 r.1) _ p q.2
            (and_more ts (drop 1 b.0.1) q.0.1 b.0.0 q.0.0 (subst (One ts b.0.0) (seen_is between b.0.1 h.0) first) (separated_sound n (drop 1 b.0.1) q.0 q.1))
        | inr h ↦ moved (λ q. IsSeparated between One ts q.0 q.1) _ p h.1 (the_last ts b.0.1 b.0.0 first)
      ]

  pub separated_shorter : {ts : List Word} {xs : List A} {rest : List Word} → IsSeparated between One ts xs rest → length rest < length ts
  separated_shorter (the_last ts rest a d) = exact.shorter ts a rest d
  separated_shorter (and_more ts mid rest a others d ds) = let h = exact.shorter ts a (between ∷ mid) d in let k = separated_shorter ds in omega arith

  last_read : (n : ℕ) (ts rest : List Word) (a : A) → one ts ≡ Some (a, rest) → sees between rest ≡ false → separated_at between one (suc n) ts ≡ Some (a ∷ [], rest)
  unfolding separated_at
  last_read n ts rest a h c = rw (h, c)

  more_read : (n : ℕ) (ts mid rest : List Word) (a : A) (xs : List A) → one ts ≡ Some (a, between ∷ mid) → separated_at between one n mid ≡ Some (xs, rest)
      → separated_at between one (suc n) ts ≡ Some (a ∷ xs, rest)
  unfolding separated_at
  more_read n ts mid rest a xs h g = rw (h, word_seen between mid, g)

  pub separated_read : {ts : List Word} {xs : List A} {rest : List Word} → IsSeparated between One ts xs rest → (n : ℕ) → length ts ≤ n → sees between rest ≡ false
      → separated_at between one n ts ≡ Some (xs, rest)
  separated_read (the_last ts rest a d) zero h c = let k = exact.shorter ts a rest d in absurd (omega arith)
  separated_read (the_last ts rest a d) (suc n) h c = last_read n ts rest a (exact.complete ts a rest d) c
  separated_read (and_more ts mid rest a others d ds) zero h c = let k = exact.shorter ts a (between ∷ mid) d in absurd (omega arith)
  separated_read (and_more ts mid rest a others d ds) (suc n) h c =
      let k = exact.shorter ts a (between ∷ mid) d in
      more_read n ts mid rest a others (exact.complete ts a (between ∷ mid) d) (separated_read ds n (omega arith) c)

-- ---- any number, each beginning with a word
module _ {A : Type 0} (begin : Word) (one : List Word → Read A) (One : List Word → A → List Word → Type 0) (exact : Exact one One)
    (known : (ts : List Word) (a : A) (rest : List Word) → One ts a rest → sees begin ts ≡ true) where
  pub many_sound : (n : ℕ) (ts : List Word) (p : List A × List Word) → many_at begin one n ts ≡ Some p → IsMany One ts p.0 p.1
  unfolding many_at
  many_sound zero ts p e = moved (λ q. IsMany One ts q.0 q.1) _ p e (no_more ts)
  many_sound (suc n) ts p e =
      elim (chosen (sees begin ts) _ _ _ e) [
        | inl h ↦ let b = bind_some (one ts) _ p h.1 in
            let q = bind_some (many_at begin one n b.0.1) _ p b.2 in
            moved (λ r. IsMany One ts r.0 r.1) _ p q.2 (one_more ts b.0.1 q.0.1 b.0.0 q.0.0 (exact.sound ts b.0 b.1) (many_sound n b.0.1 q.0 q.1))
        | inr h ↦ moved (λ q. IsMany One ts q.0 q.1) _ p h.1 (no_more ts)
      ]

  pub many_shorter : {ts : List Word} {xs : List A} {rest : List Word} → IsMany One ts xs rest → length rest ≤ length ts
  many_shorter (no_more ts) = omega arith
  many_shorter (one_more ts mid rest a others d ds) = let h = exact.shorter ts a mid d in let k = many_shorter ds in omega arith

  one_read : (n : ℕ) (ts mid rest : List Word) (a : A) (xs : List A) → sees begin ts ≡ true → one ts ≡ Some (a, mid) → many_at begin one n mid ≡ Some (xs, rest)
      → many_at begin one (suc n) ts ≡ Some (a ∷ xs, rest)
  unfolding many_at
  one_read n ts mid rest a xs b h g = rw (b, h, g)

  pub many_read : {ts : List Word} {xs : List A} {rest : List Word} → IsMany One ts xs rest → (n : ℕ) → length ts ≤ n → sees begin rest ≡ false
      → many_at begin one n ts ≡ Some (xs, rest)
  many_read (no_more ts) n h b = many_stop begin one n ts b
  many_read (one_more ts mid rest a others d ds) zero h b = let k = exact.shorter ts a mid d in absurd (omega arith)
  many_read (one_more ts mid rest a others d ds) (suc n) h b =
      let k = exact.shorter ts a mid d in
      one_read n ts mid rest a others (known ts a mid d) (exact.complete ts a mid d) (many_read ds n (omega arith) b)
