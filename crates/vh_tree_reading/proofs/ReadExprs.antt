-- Expressions are read exactly.
use Rattle.std.proofs.Common.{◌≡◌, ℕ, zero, suc, ◌<◌, Bool, true, false, not, ◌||◌, cond, List, [], ◌∷◌, length, drop, Some, None, refl, sym, ap, subst, ◌∙◌, arith, inl, inr}
use Rattle.vh_tree.specs.declared.token.Mark.{Mark}
use Rattle.vh_tree.specs.declared.token.Mark.TheVariants as m
use Rattle.vh_tree.specs.declared.token.Token.{Token}
use Rattle.vh_tree.specs.declared.token.Token.TheVariants as t
use Rattle.rw_base.specs.declared.bit.Bit9.{Bit9}
use Rattle.vh_tree.specs.declared.expr.VExpr.{VExpr}
use Rattle.vh_tree.specs.declared.expr.VExpr.TheVariants as w
use Rattle.vh_tree.specs.Grammar.{name_of, IsSeparated, the_last, and_more, join_of, IsRef, a_name, a_slice, a_call, IsTerm, a_ref, a_literal, IsExpr, an_expr, IsArgs}
use Rattle.vh_tree_reading.specs.Read.{Read, same_mark, sees, after, separated_at, number_at, bits_at, name_at, begins_number, begins_id, begins_bits, slice_at, call_at, opened_at, ref_at, term_at, expr_at, args_at}
use Rattle.vh_tree_reading.proofs.ScanSound.{bind_some, chosen, some_is, moved}
use Rattle.vh_tree_reading.proofs.ReadExact.{same_self, seen_is, after_is, after_mark, Exact, separated_exact}

-- what may follow: no token that could make the tree another
abbrev pub ends_ref : List Token → Bool
ends_ref ts = not (sees m.Opens ts)

abbrev pub ends_expr : List Token → Bool
ends_expr ts = not (sees m.Opens ts || sees m.Amp ts)

abbrev pub ends_args : List Token → Bool
ends_args ts = not (sees m.Comma ts || (sees m.Opens ts || sees m.Amp ts))

pub not_true : (a : Bool) → not a ≡ true → a ≡ false
not_true true e = absurd (cc)
not_true false e = refl

pub neither : (a b : Bool) → not (a || b) ≡ true → (a ≡ false) × (not b ≡ true)
neither true b e = absurd (cc)
neither false b e = (refl, e)

pub expr_ends_ref : (ts : List Token) → ends_expr ts ≡ true → ends_ref ts ≡ true
expr_ends_ref ts e = ap not (neither (sees m.Opens ts) (sees m.Amp ts) e).0

pub expr_no_amp : (ts : List Token) → ends_expr ts ≡ true → sees m.Amp ts ≡ false
expr_no_amp ts e = not_true _ (neither (sees m.Opens ts) (sees m.Amp ts) e).1

pub args_no_comma : (ts : List Token) → ends_args ts ≡ true → sees m.Comma ts ≡ false
args_no_comma ts e = (neither (sees m.Comma ts) _ e).0

pub args_ends_expr : (ts : List Token) → ends_args ts ≡ true → ends_expr ts ≡ true
args_ends_expr ts e = (neither (sees m.Comma ts) _ e).1

amp_ends : (rest : List Token) → ends_ref (t.Mark m.Amp ∷ rest) ≡ true
unfolding same_mark
amp_ends rest = refl

comma_ends : (rest : List Token) → ends_expr (t.Mark m.Comma ∷ rest) ≡ true
unfolding same_mark
comma_ends rest = refl

closes_ends : (rest : List Token) → ends_args (t.Mark m.Closes ∷ rest) ≡ true
unfolding same_mark
closes_ends rest = refl

pub number_is : (ts : List Token) (p : ℕ × List Token) → number_at ts ≡ Some p → ts ≡ t.Number p.0 ∷ p.1
number_is [] p e = absurd (cc)
number_is (t.Number n ∷ ts) p e = ap (λ (q : ℕ × List Token). t.Number q.0 ∷ q.1) (some_is (n, ts) p e)
number_is (t.Mark a ∷ ts) p e = absurd (cc)
number_is (t.Id x ∷ ts) p e = absurd (cc)
number_is (t.Bits b ∷ ts) p e = absurd (cc)

pub bits_is : (ts : List Token) (p : List Bit9 × List Token) → bits_at ts ≡ Some p → ts ≡ t.Bits p.0 ∷ p.1
bits_is [] p e = absurd (cc)
bits_is (t.Bits b ∷ ts) p e = ap (λ (q : List Bit9 × List Token). t.Bits q.0 ∷ q.1) (some_is (b, ts) p e)
bits_is (t.Mark a ∷ ts) p e = absurd (cc)
bits_is (t.Id x ∷ ts) p e = absurd (cc)
bits_is (t.Number n ∷ ts) p e = absurd (cc)

-- a name that is declared is the token itself
id_is : (x : Token) (ts : List Token) (name : List ℕ) → name_of x ≡ Some name → begins_id (x ∷ ts) ≡ true → x ≡ t.Id name
id_is (t.Id y) ts name e h = ap t.Id (some_is _ _ e)
id_is (t.Mark a) ts name e h = absurd (cc)
id_is (t.Number n) ts name e h = absurd (cc)
id_is (t.Bits b) ts name e h = absurd (cc)

name_no_number : (x : Token) (ts : List Token) (name : List ℕ) → name_of x ≡ Some name → begins_number (x ∷ ts) ≡ false
name_no_number (t.Id y) ts name e = refl
name_no_number (t.Mark a) ts name e = refl
name_no_number (t.Number n) ts name e = absurd (cc)
name_no_number (t.Bits b) ts name e = refl

name_no_bits : (x : Token) (ts : List Token) (name : List ℕ) → name_of x ≡ Some name → begins_bits (x ∷ ts) ≡ false
name_no_bits (t.Id y) ts name e = refl
name_no_bits (t.Mark a) ts name e = refl
name_no_bits (t.Number n) ts name e = refl
name_no_bits (t.Bits b) ts name e = absurd (cc)

-- what the first item has, the list has
pub first_has : {A : Type 0} {between : Mark} {One : List Token → A → List Token → Type 0} (test : List Token → Bool) → ((ts : List Token) (a : A) (rest : List Token) → One ts a rest → test ts ≡ false)
    → {ts : List Token} {xs : List A} {rest : List Token} → IsSeparated between One ts xs rest → test ts ≡ false
first_has test has (the_last ts rest a d) = has ts a rest d
first_has test has (and_more ts mid rest a others d ds) = has ts a _ d

module _ (args : List Token → Read (List VExpr)) (Args : List Token → List VExpr → List Token → Type 0) (exact : Exact args Args ends_args)
    (no_number : (ts : List Token) (es : List VExpr) (rest : List Token) → Args ts es rest → begins_number ts ≡ false) where
  -- ---- ref
  slice_sound : (x : Token) (name : List ℕ) (ts : List Token) (p : VExpr × List Token) → name_of x ≡ Some name → slice_at name ts ≡ Some p → IsRef Args (x ∷ t.Mark m.Opens ∷ ts) p.0 p.1
  unfolding slice_at
  slice_sound x name ts p e h =
      let a = bind_some (number_at ts) _ p h in
      let r = bind_some (after m.Downto a.0.1) _ p a.2 in
      let b = bind_some (number_at r.0) _ p r.2 in
      let s = bind_some (after m.Closes b.0.1) _ p b.2 in
      let whole : ts ≡ t.Number a.0.0 ∷ t.Mark m.Downto ∷ t.Number b.0.0 ∷ t.Mark m.Closes ∷ s.0 =
      number_is ts a.0 a.1 ∙ ap (λ z. t.Number a.0.0 ∷ z) (after_is m.Downto a.0.1 r.0 r.1 ∙ ap (λ z. t.Mark m.Downto ∷ z) (number_is r.0 b.0 b.1 ∙ ap (λ z. t.Number b.0.0 ∷ z) (after_is m.Closes b.0.1 s.0 s.1))) in
      moved (λ q. IsRef Args (x ∷ t.Mark m.Opens ∷ ts) q.0 q.1) _ p s.2
      (subst (λ z. IsRef Args (x ∷ t.Mark m.Opens ∷ z) (w.Slice name a.0.0 b.0.0) s.0) (sym whole) (a_slice x name a.0.0 b.0.0 s.0 e))

  call_sound : (x : Token) (name : List ℕ) (ts : List Token) (p : VExpr × List Token) → x ≡ t.Id name → call_at args name ts ≡ Some p → IsRef Args (x ∷ t.Mark m.Opens ∷ ts) p.0 p.1
  unfolding call_at
  call_sound x name ts p e h =
      let a = bind_some (args ts) _ p h in
      let r = bind_some (after m.Closes a.0.1) _ p a.2 in
      let inside : Args ts a.0.0 (t.Mark m.Closes ∷ r.0) = subst (Args ts a.0.0) (after_is m.Closes a.0.1 r.0 r.1) (exact.sound ts a.0 a.1) in
      moved (λ q. IsRef Args (x ∷ t.Mark m.Opens ∷ ts) q.0 q.1) _ p r.2
      (subst (λ z. IsRef Args (z ∷ t.Mark m.Opens ∷ ts) (w.Call name a.0.0) r.0) (sym e) (a_call name ts r.0 a.0.0 inside))

  opened_sound : (x : Token) (name : List ℕ) (d : Bool) (ts : List Token) (p : VExpr × List Token) → name_of x ≡ Some name → (d ≡ true → x ≡ t.Id name) → opened_at args d name ts ≡ Some p
      → IsRef Args (x ∷ t.Mark m.Opens ∷ ts) p.0 p.1
  unfolding opened_at
  opened_sound x name d ts p e known h =
      elim (chosen (begins_number ts) _ _ _ h) [
        | inl c ↦ slice_sound x name ts p e c.1
        | inr c ↦ elim (chosen d _ _ _ c.1) [
          | inl k ↦ call_sound x name ts p (known k.0) k.1
          | inr k ↦ absurd (let n : None ≡ Some p = k.1 in cc)
        ]
      ]

  named_sound : (x : Token) (ts : List Token) (name : List ℕ) (p : VExpr × List Token) → name_of x ≡ Some name
      → cond (sees m.Opens ts) (opened_at args (begins_id (x ∷ ts)) name (drop 1 ts)) (Some (w.Name name, ts)) ≡ Some p → IsRef Args (x ∷ ts) p.0 p.1
  named_sound x ts name p e h =
      elim (chosen (sees m.Opens ts) _ _ _ h) [
        | inl c ↦ subst (λ z. IsRef Args (x ∷ z) p.0 p.1) (sym (seen_is m.Opens ts c.0)) (opened_sound x name (begins_id (x ∷ ts)) (drop 1 ts) p e (id_is x ts name e) c.1)
        | inr c ↦ moved (λ q. IsRef Args (x ∷ ts) q.0 q.1) _ p c.1 (a_name x name ts e)
      ]

  ref_sound : (ts : List Token) (p : VExpr × List Token) → ref_at args ts ≡ Some p → IsRef Args ts p.0 p.1
  unfolding ref_at
  ref_sound [] p e = absurd (cc)
  ref_sound (x ∷ ts) p e =
      let b = bind_some (name_at (x ∷ ts)) _ p e in
      let n = bind_some (name_of x) (λ name. Some (name, ts)) b.0 b.1 in
      named_sound x ts n.0 p n.1
      (subst (λ (z : List ℕ × List Token). cond (sees m.Opens z.1) (opened_at args (begins_id (x ∷ ts)) z.0 (drop 1 z.1)) (Some (w.Name z.0, z.1)) ≡ Some p) (sym (some_is _ _ n.2)) b.2)

  name_read : (x : Token) (name : List ℕ) (rest : List Token) → name_of x ≡ Some name → sees m.Opens rest ≡ false → ref_at args (x ∷ rest) ≡ Some (w.Name name, rest)
  unfolding ref_at
  name_read x name rest e s = rw (e, s)

  open_read : (x : Token) (name : List ℕ) (ts : List Token) → name_of x ≡ Some name → ref_at args (x ∷ t.Mark m.Opens ∷ ts) ≡ opened_at args (begins_id (x ∷ t.Mark m.Opens ∷ ts)) name ts
  unfolding ref_at
  open_read x name ts e = rw (e, same_self m.Opens)

  slice_read : (d : Bool) (name : List ℕ) (a b : ℕ) (rest : List Token) → opened_at args d name (t.Number a ∷ t.Mark m.Downto ∷ t.Number b ∷ t.Mark m.Closes ∷ rest) ≡ Some (w.Slice name a b, rest)
  unfolding opened_at slice_at
  slice_read d name a b rest = rw (after_mark m.Downto (t.Number b ∷ t.Mark m.Closes ∷ rest), after_mark m.Closes rest)

  call_read : (name : List ℕ) (ts rest : List Token) (es : List VExpr) → begins_number ts ≡ false → args ts ≡ Some (es, t.Mark m.Closes ∷ rest) → opened_at args true name ts ≡ Some (w.Call name es, rest)
  unfolding opened_at call_at
  call_read name ts rest es n h = rw (n, h, after_mark m.Closes rest)

  ref_complete : (ts : List Token) (e : VExpr) (rest : List Token) → IsRef Args ts e rest → ends_ref rest ≡ true → ref_at args ts ≡ Some (e, rest)
  ref_complete _ _ _ (a_name x name rest e) s = name_read x name rest e (not_true _ s)
  ref_complete _ _ _ (a_slice x name a b rest e) s = open_read x name _ e ∙ slice_read _ name a b rest
  ref_complete _ _ _ (a_call name ts rest es d) s = open_read (t.Id name) name ts refl ∙ call_read name ts rest es (no_number ts es _ d) (exact.complete ts es _ d (closes_ends rest))

  ref_shorter : (ts : List Token) (e : VExpr) (rest : List Token) → IsRef Args ts e rest → length rest < length ts
  ref_shorter _ _ _ (a_name x name rest e) = omega arith
  ref_shorter _ _ _ (a_slice x name a b rest e) = omega arith
  ref_shorter _ _ _ (a_call name ts rest es d) = let h = exact.shorter ts es _ d in omega arith

  pub ref_exact : Exact (ref_at args) (IsRef Args) ends_ref
  ref_exact = record { sound = ref_sound; complete = ref_complete; shorter = ref_shorter }

  pub ref_no_number : (ts : List Token) (e : VExpr) (rest : List Token) → IsRef Args ts e rest → begins_number ts ≡ false
  ref_no_number _ _ _ (a_name x name rest e) = name_no_number x rest name e
  ref_no_number _ _ _ (a_slice x name a b rest e) = name_no_number x _ name e
  ref_no_number _ _ _ (a_call name ts rest es d) = refl

  ref_no_bits : (ts : List Token) (e : VExpr) (rest : List Token) → IsRef Args ts e rest → begins_bits ts ≡ false
  ref_no_bits _ _ _ (a_name x name rest e) = name_no_bits x rest name e
  ref_no_bits _ _ _ (a_slice x name a b rest e) = name_no_bits x _ name e
  ref_no_bits _ _ _ (a_call name ts rest es d) = refl

  -- ---- term
  term_sound : (ts : List Token) (p : VExpr × List Token) → term_at args ts ≡ Some p → IsTerm Args ts p.0 p.1
  unfolding term_at
  term_sound ts p e =
      elim (chosen (begins_bits ts) _ _ _ e) [
        | inl c ↦ let b = bind_some (bits_at ts) _ p c.1 in
            moved (λ q. IsTerm Args ts q.0 q.1) _ p b.2 (subst (λ z. IsTerm Args z (w.Literal b.0.0) b.0.1) (sym (bits_is ts b.0 b.1)) (a_literal b.0.0 b.0.1))
        | inr c ↦ a_ref ts p.1 p.0 (ref_sound ts p c.1)
      ]

  term_ref : (ts rest : List Token) (e : VExpr) → begins_bits ts ≡ false → ref_at args ts ≡ Some (e, rest) → term_at args ts ≡ Some (e, rest)
  unfolding term_at
  term_ref ts rest e b h = rw (b, h)

  term_literal : (bits : List Bit9) (rest : List Token) → term_at args (t.Bits bits ∷ rest) ≡ Some (w.Literal bits, rest)
  unfolding term_at
  term_literal bits rest = refl

  term_complete : (ts : List Token) (e : VExpr) (rest : List Token) → IsTerm Args ts e rest → ends_ref rest ≡ true → term_at args ts ≡ Some (e, rest)
  term_complete _ _ _ (a_ref ts rest e d) s = term_ref ts rest e (ref_no_bits ts e rest d) (ref_complete ts e rest d s)
  term_complete _ _ _ (a_literal bits rest) s = term_literal bits rest

  term_shorter : (ts : List Token) (e : VExpr) (rest : List Token) → IsTerm Args ts e rest → length rest < length ts
  term_shorter _ _ _ (a_ref ts rest e d) = ref_shorter ts e rest d
  term_shorter _ _ _ (a_literal bits rest) = omega arith

  term_exact : Exact (term_at args) (IsTerm Args) ends_ref
  term_exact = record { sound = term_sound; complete = term_complete; shorter = term_shorter }

  term_no_number : (ts : List Token) (e : VExpr) (rest : List Token) → IsTerm Args ts e rest → begins_number ts ≡ false
  term_no_number _ _ _ (a_ref ts rest e d) = ref_no_number ts e rest d
  term_no_number _ _ _ (a_literal bits rest) = refl

  -- ---- expr
  terms_exact : Exact (λ ts. separated_at m.Amp (term_at args) (length ts) ts) (IsSeparated m.Amp (IsTerm Args)) ends_expr
  terms_exact = separated_exact m.Amp (term_at args) (IsTerm Args) ends_ref term_exact amp_ends ends_expr expr_no_amp expr_ends_ref

  expr_sound : (ts : List Token) (p : VExpr × List Token) → expr_at args ts ≡ Some p → IsExpr Args ts p.0 p.1
  unfolding expr_at
  expr_sound ts p e =
      let b = bind_some (separated_at m.Amp (term_at args) (length ts) ts) _ p e in
      moved (λ q. IsExpr Args ts q.0 q.1) _ p b.2 (an_expr ts b.0.1 b.0.0 (terms_exact.sound ts b.0 b.1))

  expr_parts : (ts rest : List Token) (parts : List VExpr) → separated_at m.Amp (term_at args) (length ts) ts ≡ Some (parts, rest) → expr_at args ts ≡ Some (join_of parts, rest)
  unfolding expr_at
  expr_parts ts rest parts h = rw h

  expr_complete : (ts : List Token) (e : VExpr) (rest : List Token) → IsExpr Args ts e rest → ends_expr rest ≡ true → expr_at args ts ≡ Some (e, rest)
  expr_complete _ _ _ (an_expr ts rest parts d) s = expr_parts ts rest parts (terms_exact.complete ts parts rest d s)

  expr_shorter : (ts : List Token) (e : VExpr) (rest : List Token) → IsExpr Args ts e rest → length rest < length ts
  expr_shorter _ _ _ (an_expr ts rest parts d) = terms_exact.shorter ts parts rest d

  pub expr_exact : Exact (expr_at args) (IsExpr Args) ends_expr
  expr_exact = record { sound = expr_sound; complete = expr_complete; shorter = expr_shorter }

  pub expr_no_number : (ts : List Token) (e : VExpr) (rest : List Token) → IsExpr Args ts e rest → begins_number ts ≡ false
  expr_no_number _ _ _ (an_expr ts rest parts d) = first_has begins_number term_no_number d

-- ---- what stands in a call's parentheses, at each level
abbrev pub Level : ℕ → Type 0
Level n = Exact (args_at n) (IsArgs n) ends_args × ((ts : List Token) (es : List VExpr) (rest : List Token) → IsArgs n ts es rest → begins_number ts ≡ false)

level_zero : Level 0
unfolding args_at
level_zero = (record { sound = λ ts p e. absurd (cc); complete = λ ts es rest d s. absurd d; shorter = λ ts es rest d. absurd d }, λ ts es rest d. absurd d)

level_next : (n : ℕ) → Level n → Level (suc n)
unfolding args_at
level_next n h = (
  separated_exact m.Comma (expr_at (args_at n)) (IsExpr (IsArgs n)) ends_expr (expr_exact (args_at n) (IsArgs n) h.0 h.1) comma_ends ends_args args_no_comma args_ends_expr,
  λ ts es rest d. first_has begins_number (expr_no_number (args_at n) (IsArgs n) h.0 h.1) d,
)

pub level : (n : ℕ) → Level n
level zero = level_zero
level (suc n) = level_next n (level n)

-- an expression with at most so many calls around one another
pub expr_at_exact : (n : ℕ) → Exact (expr_at (args_at n)) (IsExpr (IsArgs n)) ends_expr
expr_at_exact n = let h = level n in expr_exact (args_at n) (IsArgs n) h.0 h.1

pub ref_at_exact : (n : ℕ) → Exact (ref_at (args_at n)) (IsRef (IsArgs n)) ends_ref
ref_at_exact n = let h = level n in ref_exact (args_at n) (IsArgs n) h.0 h.1
