-- Reading exactly what is spelled: tokens, and lists of parts of any kind.
use Rattle.std.proofs.Common.{◌≡◌, ℕ, zero, suc, ◌<◌, ◌≤◌, Bool, true, false, not, ◌||◌, cond, List, [], ◌∷◌, length, drop, Option, Some, None, refl, sym, ap, subst, ◌∙◌, arith, rules, ◌⊎◌, inl, inr}
use denote.Enum.Bare.{same_true}
use Rattle.rw_parser_grammar.specs.contracts.lexeme.Mark.{the_type}
use Rattle.rw_parser_grammar.specs.declared.lexeme.Mark.{Mark}
use Rattle.rw_parser_grammar.specs.declared.lexeme.Mark.TheVariants as m
use Rattle.rw_parser_grammar.specs.declared.lexeme.Spot.{Spot}
use Rattle.rw_parser_grammar.specs.declared.lexeme.Lexeme.{Lexeme}
use Rattle.rw_parser_grammar.specs.declared.lexeme.Lexeme.TheVariants as t
use Rattle.rw_parser_grammar.specs.Lexemes.{next_spot}
use Rattle.rw_parser_grammar.specs.Lists.{IsSeparated, the_last, and_more, IsMany, no_more, one_more, IsEntries, no_entry, skipped, last_entry, next_entry, IsBlock, a_block}
use Rattle.rw_parser_reading.specs.Read.{◌>>=◌, Read, same_mark, sees, after, separated_at, many_at, entries_at, block_at}

pub bind_some : {A B : Type 0} (o : Option A) (f : A → Option B) (y : B) → (o >>= f) ≡ Some y → (x : A) × (o ≡ Some x) × (f x ≡ Some y)
bind_some None f y e = absurd (cc)
bind_some (Some x) f y e = (x, refl, e)

pub chosen : {A : Type 0} (b : Bool) (x y z : A) → cond b x y ≡ z → ((b ≡ true) × (x ≡ z)) ⊎ ((b ≡ false) × (y ≡ z))
chosen true x y z e = inl (refl, e)
chosen false x y z e = inr (refl, e)

pub some_is : {A : Type 0} (a b : A) → Some a ≡ Some b → a ≡ b
some_is a b e = cc

pub moved : {A : Type 0} (P : A → Type 0) (a b : A) → Some a ≡ Some b → P a → P b
moved P a b e p = subst P (some_is a b e) p

pub not_true : (a : Bool) → not a ≡ true → a ≡ false
not_true true e = absurd (cc)
not_true false e = refl

pub neither : (a b : Bool) → not (a || b) ≡ true → (a ≡ false) × (not b ≡ true)
neither true b e = absurd (cc)
neither false b e = (refl, e)

-- ---- marks
pub is_same : (a b : Mark) → same_mark a b ≡ true → a ≡ b
unfolding same_mark
is_same a b e = same_true the_type (search rules) a b e

pub same_self : (a : Mark) → same_mark a a ≡ true
unfolding same_mark
same_self a = search rules

-- what is seen stands there
pub seen_is : (a : Mark) (ts : List Lexeme) → sees a ts ≡ true → ts ≡ t.Mark (next_spot ts) a ∷ drop 1 ts
seen_is a [] e = absurd (cc)
seen_is a (t.Mark w b ∷ ts) e = ap (λ z. t.Mark w z ∷ ts) (is_same b a e)
seen_is a (t.Variable w name ∷ ts) e = absurd (cc)
seen_is a (t.Constructor w name ∷ ts) e = absurd (cc)
seen_is a (t.Operator w name ∷ ts) e = absurd (cc)
seen_is a (t.Number w digits ∷ ts) e = absurd (cc)

pub after_is : (a : Mark) (ts rest : List Lexeme) → after a ts ≡ Some rest → ts ≡ t.Mark (next_spot ts) a ∷ rest
unfolding after
after_is a ts rest e =
    elim (chosen (sees a ts) _ _ _ e) [
      | inl h ↦ seen_is a ts h.0 ∙ ap (λ z. t.Mark (next_spot ts) a ∷ z) (some_is _ _ h.1)
      | inr h ↦ absurd (let n : None ≡ Some rest = h.1 in cc)
    ]

pub after_mark : (a : Mark) (w : Spot) (rest : List Lexeme) → after a (t.Mark w a ∷ rest) ≡ Some rest
unfolding after
after_mark a w rest = rw (same_self a)

-- ---- exactness
-- whatever follows stops it
abbrev pub always : List Lexeme → Bool
always ts = true

-- the reader reads what is spelled, and nothing else; a value is read wherever what follows stops it
pub record Exact {A : Type 0} (read : List Lexeme → Read A) (Is : List Lexeme → A → List Lexeme → Type 0) (stop : List Lexeme → Bool) : Type 0 where
  pub sound : (ts : List Lexeme) (p : A × List Lexeme) → read ts ≡ Some p → Is ts p.0 p.1
  pub complete : (ts : List Lexeme) (a : A) (rest : List Lexeme) → Is ts a rest → stop rest ≡ true → read ts ≡ Some (a, rest)
  pub shorter : (ts : List Lexeme) (a : A) (rest : List Lexeme) → Is ts a rest → length rest < length ts

-- the same, where nothing may be read
pub record Runs {A : Type 0} (read : List Lexeme → Read A) (Is : List Lexeme → A → List Lexeme → Type 0) (stop : List Lexeme → Bool) : Type 0 where
  pub sound : (ts : List Lexeme) (p : A × List Lexeme) → read ts ≡ Some p → Is ts p.0 p.1
  pub complete : (ts : List Lexeme) (a : A) (rest : List Lexeme) → Is ts a rest → stop rest ≡ true → read ts ≡ Some (a, rest)
  pub shorter : (ts : List Lexeme) (a : A) (rest : List Lexeme) → Is ts a rest → length rest ≤ length ts

-- two spellings at one front, each before a stop, are one
pub one_front : {A : Type 0} {read : List Lexeme → Read A} {Is : List Lexeme → A → List Lexeme → Type 0} {stop : List Lexeme → Bool} → Exact read Is stop
    → (ts : List Lexeme) (p q : A × List Lexeme) → Is ts p.0 p.1 → stop p.1 ≡ true → Is ts q.0 q.1 → stop q.1 ≡ true → p ≡ q
one_front exact ts p q d s k z = some_is p q (sym (exact.complete ts p.0 p.1 d s) ∙ exact.complete ts q.0 q.1 k z)

-- ---- one or more, with a mark between two
module _ {A : Type 0} (between : Mark) (one : List Lexeme → Read A) (One : List Lexeme → A → List Lexeme → Type 0) (stop : List Lexeme → Bool) (exact : Exact one One stop)
    (goes : (w : Spot) (rest : List Lexeme) → stop (t.Mark w between ∷ rest) ≡ true) where
  pub separated_sound : (n : ℕ) (ts : List Lexeme) (p : List A × List Lexeme) → separated_at between one n ts ≡ Some p → IsSeparated between One ts p.0 p.1
  unfolding separated_at
  separated_sound zero ts p e = absurd (cc)
  separated_sound (suc n) ts p e =
      let b = bind_some (one ts) _ p e in
      let first = exact.sound ts b.0 b.1 in
      elim (chosen (sees between b.0.1) _ _ _ b.2) [
        | inl h ↦ let q = bind_some (separated_at between one n (drop 1 b.0.1)) _ p h.1 in
            moved (λ r. IsSeparated between One ts r.0 r.1) _ p q.2
            (and_more ts (drop 1 b.0.1) q.0.1 (next_spot b.0.1) b.0.0 q.0.0 (subst (One ts b.0.0) (seen_is between b.0.1 h.0) first) (separated_sound n (drop 1 b.0.1) q.0 q.1))
        | inr h ↦ moved (λ q. IsSeparated between One ts q.0 q.1) _ p h.1 (the_last ts b.0.1 b.0.0 first)
      ]

  pub separated_shorter : {ts : List Lexeme} {xs : List A} {rest : List Lexeme} → IsSeparated between One ts xs rest → length rest < length ts
  separated_shorter (the_last ts rest a d) = exact.shorter ts a rest d
  separated_shorter (and_more ts mid rest w a others d ds) = let h = exact.shorter ts a (t.Mark w between ∷ mid) d in let k = separated_shorter ds in omega arith

  last_read : (n : ℕ) (ts rest : List Lexeme) (a : A) → one ts ≡ Some (a, rest) → sees between rest ≡ false → separated_at between one (suc n) ts ≡ Some (a ∷ [], rest)
  unfolding separated_at
  last_read n ts rest a h c = rw (h, c)

  more_read : (n : ℕ) (ts mid rest : List Lexeme) (w : Spot) (a : A) (xs : List A) → one ts ≡ Some (a, t.Mark w between ∷ mid) → separated_at between one n mid ≡ Some (xs, rest)
      → separated_at between one (suc n) ts ≡ Some (a ∷ xs, rest)
  unfolding separated_at
  more_read n ts mid rest w a xs h g = rw (h, same_self between, g)

  pub separated_read : {ts : List Lexeme} {xs : List A} {rest : List Lexeme} → IsSeparated between One ts xs rest → (n : ℕ) → length ts ≤ n → sees between rest ≡ false → stop rest ≡ true
      → separated_at between one n ts ≡ Some (xs, rest)
  separated_read (the_last ts rest a d) zero h c s = let k = exact.shorter ts a rest d in absurd (omega arith)
  separated_read (the_last ts rest a d) (suc n) h c s = last_read n ts rest a (exact.complete ts a rest d s) c
  separated_read (and_more ts mid rest w a others d ds) zero h c s = let k = exact.shorter ts a (t.Mark w between ∷ mid) d in absurd (omega arith)
  separated_read (and_more ts mid rest w a others d ds) (suc n) h c s =
      let k = exact.shorter ts a (t.Mark w between ∷ mid) d in
      more_read n ts mid rest w a others (exact.complete ts a (t.Mark w between ∷ mid) d (goes w mid)) (separated_read ds n (omega arith) c s)

  -- the whole list, where a stop of the list is one of its items and no mark between
  pub separated_exact : (ends : List Lexeme → Bool) → ((rest : List Lexeme) → ends rest ≡ true → sees between rest ≡ false) → ((rest : List Lexeme) → ends rest ≡ true → stop rest ≡ true)
      → Exact (λ ts. separated_at between one (length ts) ts) (IsSeparated between One) ends
  separated_exact ends no_mark stops = record {
    sound = λ ts p e. separated_sound (length ts) ts p e;
    complete = λ ts xs rest d s. separated_read d (length ts) (omega arith) (no_mark rest s) (stops rest s);
    shorter = λ ts xs rest d. separated_shorter d;
  }

-- what the first part has, the list has
pub first_has : {A : Type 0} {between : Mark} {One : List Lexeme → A → List Lexeme → Type 0} (test : List Lexeme → Bool) (value : Bool) → ((ts : List Lexeme) (a : A) (rest : List Lexeme) → One ts a rest → test ts ≡ value)
    → {ts : List Lexeme} {xs : List A} {rest : List Lexeme} → IsSeparated between One ts xs rest → test ts ≡ value
first_has test value has (the_last ts rest a d) = has ts a rest d
first_has test value has (and_more ts mid rest w a others d ds) = has ts a _ d

-- ---- any number
pub many_stop : {A : Type 0} (begins : List Lexeme → Bool) (one : List Lexeme → Read A) (n : ℕ) (ts : List Lexeme) → begins ts ≡ false → many_at begins one n ts ≡ Some ([], ts)
unfolding many_at
many_stop begins one zero ts h = refl
many_stop begins one (suc n) ts h = rw h

module _ {A : Type 0} (begins : List Lexeme → Bool) (one : List Lexeme → Read A) (One : List Lexeme → A → List Lexeme → Type 0) (stop : List Lexeme → Bool) (exact : Exact one One stop)
    (known : (ts : List Lexeme) (a : A) (rest : List Lexeme) → One ts a rest → begins ts ≡ true) (goes : (ts : List Lexeme) → begins ts ≡ true → stop ts ≡ true) where
  pub many_sound : (n : ℕ) (ts : List Lexeme) (p : List A × List Lexeme) → many_at begins one n ts ≡ Some p → IsMany One ts p.0 p.1
  unfolding many_at
  many_sound zero ts p e = moved (λ q. IsMany One ts q.0 q.1) _ p e (no_more ts)
  many_sound (suc n) ts p e =
      elim (chosen (begins ts) _ _ _ e) [
        | inl h ↦ let b = bind_some (one ts) _ p h.1 in
            let q = bind_some (many_at begins one n b.0.1) _ p b.2 in
            moved (λ r. IsMany One ts r.0 r.1) _ p q.2 (one_more ts b.0.1 q.0.1 b.0.0 q.0.0 (exact.sound ts b.0 b.1) (many_sound n b.0.1 q.0 q.1))
        | inr h ↦ moved (λ q. IsMany One ts q.0 q.1) _ p h.1 (no_more ts)
      ]

  pub many_shorter : {ts : List Lexeme} {xs : List A} {rest : List Lexeme} → IsMany One ts xs rest → length rest ≤ length ts
  many_shorter (no_more ts) = omega arith
  many_shorter (one_more ts mid rest a others d ds) = let h = exact.shorter ts a mid d in let k = many_shorter ds in omega arith

  one_read : (n : ℕ) (ts mid rest : List Lexeme) (a : A) (xs : List A) → begins ts ≡ true → one ts ≡ Some (a, mid) → many_at begins one n mid ≡ Some (xs, rest)
      → many_at begins one (suc n) ts ≡ Some (a ∷ xs, rest)
  unfolding many_at
  one_read n ts mid rest a xs b h g = rw (b, h, g)

  -- a following item stops the one before it
  next_stops : {ts : List Lexeme} {xs : List A} {rest : List Lexeme} → IsMany One ts xs rest → stop rest ≡ true → stop ts ≡ true
  next_stops (no_more ts) s = s
  next_stops (one_more ts mid rest a others d ds) s = goes ts (known ts a mid d)

  pub many_read : {ts : List Lexeme} {xs : List A} {rest : List Lexeme} → IsMany One ts xs rest → (n : ℕ) → length ts ≤ n → begins rest ≡ false → stop rest ≡ true
      → many_at begins one n ts ≡ Some (xs, rest)
  many_read (no_more ts) n h b s = many_stop begins one n ts b
  many_read (one_more ts mid rest a others d ds) zero h b s = let k = exact.shorter ts a mid d in absurd (omega arith)
  many_read (one_more ts mid rest a others d ds) (suc n) h b s =
      let k = exact.shorter ts a mid d in
      one_read n ts mid rest a others (known ts a mid d) (exact.complete ts a mid d (next_stops ds s)) (many_read ds n (omega arith) b s)

  -- the whole run, before what begins no item and stops one
  pub many_runs : (ends : List Lexeme → Bool) → ((rest : List Lexeme) → ends rest ≡ true → begins rest ≡ false) → ((rest : List Lexeme) → ends rest ≡ true → stop rest ≡ true)
      → Runs (λ ts. many_at begins one (length ts) ts) (IsMany One) ends
  many_runs ends none stops = record {
    sound = λ ts p e. many_sound (length ts) ts p e;
    complete = λ ts xs rest d s. many_read d (length ts) (omega arith) (none rest s) (stops rest s);
    shorter = λ ts xs rest d. many_shorter d;
  }

-- ---- blocks
module _ {A : Type 0} (one : List Lexeme → Read A) (One : List Lexeme → A → List Lexeme → Type 0) (stop : List Lexeme → Bool) (exact : Exact one One stop)
    (known : (ts : List Lexeme) (a : A) (rest : List Lexeme) → One ts a rest → (sees m.ClosesBlock ts ≡ false) × (sees m.Semicolon ts ≡ false))
    (closes : (w : Spot) (rest : List Lexeme) → stop (t.Mark w m.ClosesBlock ∷ rest) ≡ true) (goes : (w : Spot) (rest : List Lexeme) → stop (t.Mark w m.Semicolon ∷ rest) ≡ true) where
  entries_sound : (n : ℕ) (ts : List Lexeme) (p : List A × List Lexeme) → entries_at one n ts ≡ Some p → IsEntries One ts p.0 p.1
  unfolding entries_at
  entries_sound zero ts p e = absurd (cc)
  entries_sound (suc n) ts p e =
      elim (chosen (sees m.ClosesBlock ts) _ _ _ e) [
        | inl h ↦ subst (λ z. IsEntries One z p.0 p.1) (sym (seen_is m.ClosesBlock ts h.0)) (moved (λ q. IsEntries One (t.Mark (next_spot ts) m.ClosesBlock ∷ drop 1 ts) q.0 q.1) _ p h.1 (no_entry (next_spot ts) (drop 1 ts)))
        | inr h ↦ elim (chosen (sees m.Semicolon ts) _ _ _ h.1) [
          | inl k ↦ subst (λ z. IsEntries One z p.0 p.1) (sym (seen_is m.Semicolon ts k.0)) (skipped (next_spot ts) (drop 1 ts) p.1 p.0 (entries_sound n (drop 1 ts) p k.1))
          | inr k ↦ let b = bind_some (one ts) _ p k.1 in
              let first = exact.sound ts b.0 b.1 in
              elim (chosen (sees m.ClosesBlock b.0.1) _ _ _ b.2) [
                | inl c ↦ moved (λ q. IsEntries One ts q.0 q.1) _ p c.1 (last_entry ts (drop 1 b.0.1) (next_spot b.0.1) b.0.0 (subst (One ts b.0.0) (seen_is m.ClosesBlock b.0.1 c.0) first))
                | inr c ↦ let r = bind_some (after m.Semicolon b.0.1) _ p c.1 in
                    let q = bind_some (entries_at one n r.0) _ p r.2 in
                    moved (λ z. IsEntries One ts z.0 z.1) _ p q.2
                    (next_entry ts r.0 q.0.1 (next_spot b.0.1) b.0.0 q.0.0 (subst (One ts b.0.0) (after_is m.Semicolon b.0.1 r.0 r.1) first) (entries_sound n r.0 q.0 q.1))
              ]
        ]
      ]

  pub entries_shorter : {ts : List Lexeme} {xs : List A} {rest : List Lexeme} → IsEntries One ts xs rest → length rest < length ts
  entries_shorter (no_entry w rest) = omega arith
  entries_shorter (skipped w ts rest others ds) = let k = entries_shorter ds in omega arith
  entries_shorter (last_entry ts rest w a d) = let h = exact.shorter ts a (t.Mark w m.ClosesBlock ∷ rest) d in omega arith
  entries_shorter (next_entry ts mid rest w a others d ds) = let h = exact.shorter ts a (t.Mark w m.Semicolon ∷ mid) d in let k = entries_shorter ds in omega arith

  closed_read : (n : ℕ) (w : Spot) (rest : List Lexeme) → entries_at one (suc n) (t.Mark w m.ClosesBlock ∷ rest) ≡ Some ([], rest)
  unfolding entries_at
  closed_read n w rest = rw (same_self m.ClosesBlock)

  skip_read : (n : ℕ) (w : Spot) (ts : List Lexeme) → entries_at one (suc n) (t.Mark w m.Semicolon ∷ ts) ≡ entries_at one n ts
  unfolding entries_at same_mark
  skip_read n w ts = refl

  last_entry_read : (n : ℕ) (w : Spot) (ts rest : List Lexeme) (a : A) → (sees m.ClosesBlock ts ≡ false) × (sees m.Semicolon ts ≡ false) → one ts ≡ Some (a, t.Mark w m.ClosesBlock ∷ rest)
      → entries_at one (suc n) ts ≡ Some (a ∷ [], rest)
  unfolding entries_at
  last_entry_read n w ts rest a b h = rw (b.0, b.1, h, same_self m.ClosesBlock)

  no_close : (w : Spot) (ts : List Lexeme) → sees m.ClosesBlock (t.Mark w m.Semicolon ∷ ts) ≡ false
  unfolding same_mark
  no_close w ts = refl

  next_entry_read : (n : ℕ) (w : Spot) (ts mid rest : List Lexeme) (a : A) (xs : List A) → (sees m.ClosesBlock ts ≡ false) × (sees m.Semicolon ts ≡ false) → one ts ≡ Some (a, t.Mark w m.Semicolon ∷ mid)
      → entries_at one n mid ≡ Some (xs, rest) → entries_at one (suc n) ts ≡ Some (a ∷ xs, rest)
  unfolding entries_at
  next_entry_read n w ts mid rest a xs b h g = rw (b.0, b.1, h, no_close w mid, after_mark m.Semicolon w mid, g)

  entries_read : {ts : List Lexeme} {xs : List A} {rest : List Lexeme} → IsEntries One ts xs rest → (n : ℕ) → length ts ≤ n → entries_at one n ts ≡ Some (xs, rest)
  entries_read (no_entry w rest) zero h = absurd (omega arith)
  entries_read (no_entry w rest) (suc n) h = closed_read n w rest
  entries_read (skipped w ts rest others ds) zero h = absurd (omega arith)
  entries_read (skipped w ts rest others ds) (suc n) h = skip_read n w ts ∙ entries_read ds n (omega arith)
  entries_read (last_entry ts rest w a d) zero h = let k = exact.shorter ts a (t.Mark w m.ClosesBlock ∷ rest) d in absurd (omega arith)
  entries_read (last_entry ts rest w a d) (suc n) h = last_entry_read n w ts rest a (known ts a _ d) (exact.complete ts a _ d (closes w rest))
  entries_read (next_entry ts mid rest w a others d ds) zero h = let k = exact.shorter ts a (t.Mark w m.Semicolon ∷ mid) d in absurd (omega arith)
  entries_read (next_entry ts mid rest w a others d ds) (suc n) h =
      let k = exact.shorter ts a (t.Mark w m.Semicolon ∷ mid) d in
      next_entry_read n w ts mid rest a others (known ts a _ d) (exact.complete ts a _ d (goes w mid)) (entries_read ds n (omega arith))

  block_sound : (ts : List Lexeme) (p : List A × List Lexeme) → block_at one ts ≡ Some p → IsBlock One ts p.0 p.1
  unfolding block_at
  block_sound ts p e =
      let r = bind_some (after m.OpensBlock ts) _ p e in
      subst (λ z. IsBlock One z p.0 p.1) (sym (after_is m.OpensBlock ts r.0 r.1)) (a_block (next_spot ts) r.0 p.1 p.0 (entries_sound (length r.0) r.0 p r.2))

  opened_read : (w : Spot) (ts : List Lexeme) → block_at one (t.Mark w m.OpensBlock ∷ ts) ≡ entries_at one (length ts) ts
  unfolding block_at
  opened_read w ts = rw (after_mark m.OpensBlock w ts)

  block_complete : (ts : List Lexeme) (xs : List A) (rest : List Lexeme) → IsBlock One ts xs rest → always rest ≡ true → block_at one ts ≡ Some (xs, rest)
  block_complete _ _ _ (a_block w ts rest entries ds) s = opened_read w ts ∙ entries_read ds (length ts) (omega arith)

  block_shorter : (ts : List Lexeme) (xs : List A) (rest : List Lexeme) → IsBlock One ts xs rest → length rest < length ts
  block_shorter _ _ _ (a_block w ts rest entries ds) = let k = entries_shorter ds in omega arith

  -- a whole block is read before anything
  pub block_exact : Exact (block_at one) (IsBlock One) always
  block_exact = record { sound = block_sound; complete = block_complete; shorter = block_shorter }
