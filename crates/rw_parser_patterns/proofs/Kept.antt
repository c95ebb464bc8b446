-- Trees that are kept where there is room: a tree of two parts is kept where both are.
use Rattle.std.proofs.Common.{◌≡◌, ℕ, zero, suc, pred, ◌+◌, max, Bool, true, false, cond, nat_le, ◌&&◌, List, [], ◌∷◌, ◌++◌, drop, Option, Some, None, refl, sym, ◌∙◌, ap, append_assoc, append-nil, add-one, length, arith, ◌⊎◌, inl, inr}
use Rattle.std.proofs.lemmas.Bool.Decides.{nat_tests}
use Rattle.rw_tree.specs.declared.types.Written.{Written}
use Rattle.rw_tree.specs.declared.types.Written.TheVariants as y
use Rattle.rw_parser_grammar.specs.declared.lexeme.Mark.{Mark}
use Rattle.rw_parser_grammar.specs.declared.lexeme.Mark.TheVariants as m
use Rattle.rw_parser_grammar.specs.declared.lexeme.Lexeme.{Lexeme}
use Rattle.rw_parser_grammar.specs.declared.lexeme.Lexeme.TheVariants as t
use Rattle.rw_parser_reading.specs.Frames.{frames_of_type, most, kept, cut}
use Rattle.rw_parser_grammar.specs.Types.{few, grouped_type, applied_type}
use Rattle.rw_parser_reading.specs.Read.{◌>>=◌, Read, same_mark, sees, after, separated_at, many_at}
use Rattle.rw_parser_reading.specs.ReadTypes.{some_types_at, type_group_at, atype_at, atypes_at, btype_at, type_over_at}
use Rattle.rw_parser_reading.proofs.FramesOf.{frames-type-Var, frames-type-Con, frames-type-Fun, frames-type-Tuple, frames-grouped-type, frames-applied-type}
use Rattle.rw_parser_patterns.specs.Given.{both, behind, arrowed, counted}
use Rattle.rw_parser_patterns.specs.Kept.{side_behind, regrouped, some_types_kept, type_group_kept, atype_kept, btype_kept}
use Rattle.rw_parser_patterns.specs.Depth.{any_type_at}
use Rattle.rw_parser_reading.proofs.ReadExact.{some_is}
use Rattle.rw_parser_patterns.proofs.Enough.{any_type_over}

pub le_max : (a b n : ℕ) → nat_le (max a b) n ≡ nat_le a n && nat_le b n
le_max a b n = grind (arith, nat_tests)

least : (n : ℕ) → nat_le 0 n ≡ true
least n = grind (arith, nat_tests)

both_less : (a n : ℕ) → nat_le (suc a) (suc n) ≡ nat_le a n
both_less a n = grind (arith, nat_tests)

not_below : (a : ℕ) → nat_le (suc a) 0 ≡ false
not_below a = grind (arith, nat_tests)

both_chosen : {A B C : Type 0} (f : A → B → C) (p q : Bool) (a : A) (b : B) → cond (p && q) (Some (f a b)) None ≡ both f (cond p (Some a) None) (cond q (Some b) None)
both_chosen f true true a b = refl
both_chosen f true false a b = refl
both_chosen f false true a b = refl
both_chosen f false false a b = refl

-- a tree of two parts
pub kept_both : {A B C : Type 0} (ga : A → ℕ) (gb : B → ℕ) (gc : C → ℕ) (f : A → B → C) (room : ℕ) (a : A) (b : B) → gc (f a b) ≡ max (ga a) (gb b)
    → kept gc room (f a b) ≡ both f (kept ga room a) (kept gb room b)
unfolding kept
kept_both ga gb gc f room a b e = rw (e, le_max (ga a) (gb b) room) (both_chosen f (nat_le (ga a) room) (nat_le (gb b) room) a b)

one_chosen : {A B : Type 0} (f : A → B) (p : Bool) (a : A) → cond p (Some (f a)) None ≡ (cond p (Some a) None >>= λ x. Some (f x))
one_chosen f true a = refl
one_chosen f false a = refl

-- a tree that has no more than another
pub kept_alike : {A B : Type 0} (ga : A → ℕ) (gb : B → ℕ) (f : A → B) (room : ℕ) (a : A) → gb (f a) ≡ ga a → kept gb room (f a) ≡ (kept ga room a >>= λ x. Some (f x))
unfolding kept
kept_alike ga gb f room a e = rw e (one_chosen f (nat_le (ga a) room) a)

-- a tree without frames
pub kept_leaf : {A : Type 0} (g : A → ℕ) (room : ℕ) (a : A) → g a ≡ 0 → kept g room a ≡ Some a
unfolding kept
kept_leaf g room a e = rw (e, least room)

-- a tree with one frame more
pub kept_deeper : {A : Type 0} (g : A → ℕ) (room : ℕ) (a : A) → kept (λ x. suc (g x)) (suc room) a ≡ kept g room a
unfolding kept
kept_deeper g room a = rw (both_less (g a) room)

pub kept_nowhere : {A : Type 0} (g : A → ℕ) (a : A) → kept (λ x. suc (g x)) 0 a ≡ None
unfolding kept
kept_nowhere g a = rw (not_below (g a))

-- ---- what was read, and its tree cut
pub cut_none : {A : Type 0} (g : A → ℕ) (room : ℕ) (read : Read A) → cut g room read ≡ None → read ≡ None
cut_none g room None e = refl
cut_none g room (Some p) e = absurd (cc)

pub cut_some : {A : Type 0} (g : A → ℕ) (room : ℕ) (read : Read A) (o : Option A) (rest : List Lexeme) → cut g room read ≡ Some (o, rest)
    → (p : A × List Lexeme) × (read ≡ Some p) × (kept g room p.0 ≡ o) × (p.1 ≡ rest)
cut_some g room None o rest e = absurd (cc)
cut_some g room (Some p) o rest e = let q : (kept g room p.0, p.1) ≡ (o, rest) = some_is _ _ e in (p, refl, ap (λ z. z.0) q, ap (λ z. z.1) q)

-- ---- lists
pub kept_list : {A : Type 0} (g : A → ℕ) (room : ℕ) (a : A) (others : List A) → kept (most g) room (a ∷ others) ≡ both (λ x xs. x ∷ xs) (kept g room a) (kept (most g) room others)
kept_list g room a others = kept_both g (most g) (most g) (λ x xs. x ∷ xs) room a others refl

-- what is read from here on, behind what was read before
abbrev pub with_kept : {A : Type 0} → Option (List A) → Read (Option (List A)) → Read (Option (List A))
with_kept front None = None
with_kept front (Some p) = Some (both ◌++◌ front p.0, p.1)

-- the same, with their number
abbrev pub with_counted : {A : Type 0} → ℕ → Option (List A) → Option (ℕ × (Option (List A) × List Lexeme)) → Option (ℕ × (Option (List A) × List Lexeme))
with_counted k front None = None
with_counted k front (Some r) = Some (k + r.0, (both ◌++◌ front r.1.0, r.1.1))

both_again : {A : Type 0} (front : Option (List A)) (o : Option A) (os : Option (List A)) → both ◌++◌ (both behind front o) os ≡ both ◌++◌ front (both (λ x xs. x ∷ xs) o os)
both_again None o os = refl
both_again (Some xs) None os = refl
both_again (Some xs) (Some x) None = refl
both_again (Some xs) (Some x) (Some ys) = ap Some (append_assoc xs (x ∷ []) ys)

both_one : {A : Type 0} (front : Option (List A)) (o : Option A) → both ◌++◌ front (both (λ x xs. x ∷ xs) o (Some [])) ≡ both behind front o
both_one None o = refl
both_one (Some xs) None = refl
both_one (Some xs) (Some x) = refl

both_nothing : {A : Type 0} (front : Option (List A)) → both ◌++◌ front (Some []) ≡ front
both_nothing None = refl
both_nothing (Some xs) = ap Some (append-nil xs)

no_more : (n : ℕ) → 0 + n ≡ n
no_more n = omega arith

pub counted_all : {A : Type 0} (read : Option (ℕ × (Option (List A) × List Lexeme))) → with_counted 0 (Some []) read ≡ read
counted_all None = refl
counted_all (Some (n, (None, rest))) = ap (λ z. Some (z, (None, rest))) (no_more n)
counted_all (Some (n, (Some xs, rest))) = ap (λ z. Some (z, (Some xs, rest))) (no_more n)

pub both_all : {A : Type 0} (read : Read (Option (List A))) → with_kept (Some []) read ≡ read
both_all None = refl
both_all (Some (None, rest)) = refl
both_all (Some (Some xs, rest)) = refl

module _ {A : Type 0} (g : A → ℕ) (room : ℕ) where
  kept_again : (front : Option (List A)) (a : A) (rest : Read (List A))
      → with_kept (both behind front (kept g room a)) (cut (most g) room rest) ≡ with_kept front (cut (most g) room (rest >>= λ q. Some (a ∷ q.0, q.1)))
  kept_again front a None = refl
  kept_again front a (Some q) = ap (λ z. Some (z, q.1)) (both_again front (kept g room a) (kept (most g) room q.0) ∙ ap (both ◌++◌ front) (sym (kept_list g room a q.0)))

  pub kept_empty : kept (most g) room [] ≡ Some []
  kept_empty = kept_leaf (most g) room [] refl

  kept_alone : (front : Option (List A)) (a : A) → both ◌++◌ front (kept (most g) room (a ∷ [])) ≡ both behind front (kept g room a)
  kept_alone front a = ap (both ◌++◌ front) (kept_list g room a [] ∙ ap (both (λ x xs. x ∷ xs) (kept g room a)) kept_empty) ∙ both_one front (kept g room a)

  counted_again : (k : ℕ) (front : Option (List A)) (a : A) (rest : Read (List A))
      → with_counted (k + 1) (both behind front (kept g room a)) (counted g room rest) ≡ with_counted k front (counted g room (rest >>= λ q. Some (a ∷ q.0, q.1)))
  counted_again k front a None = refl
  counted_again k front a (Some q) =
      let e : k + 1 + length q.0 ≡ k + suc (length q.0) = omega arith in
      let f = both_again front (kept g room a) (kept (most g) room q.0) ∙ ap (both ◌++◌ front) (sym (kept_list g room a q.0)) in
      ap (λ z. Some (z, (both ◌++◌ (both behind front (kept g room a)) (kept (most g) room q.0), q.1))) e ∙ ap (λ z. Some (k + suc (length q.0), (z, q.1))) f

  module _ (between : Mark) (one : List Lexeme → Read A) where
    last_at : (n : ℕ) (ts : List Lexeme) (p : A × List Lexeme) → one ts ≡ Some p → sees between p.1 ≡ false → separated_at between one (suc n) ts ≡ Some (p.0 ∷ [], p.1)
    unfolding separated_at
    last_at n ts p h c = rw (h, c)

    more_at : (n : ℕ) (ts : List Lexeme) (p : A × List Lexeme) → one ts ≡ Some p → sees between p.1 ≡ true
        → separated_at between one (suc n) ts ≡ (separated_at between one n (drop 1 p.1) >>= λ q. Some (p.0 ∷ q.0, q.1))
    unfolding separated_at
    more_at n ts p h c = rw (h, c)

    none_at : (n : ℕ) (ts : List Lexeme) → one ts ≡ None → separated_at between one (suc n) ts ≡ None
    unfolding separated_at
    none_at n ts h = rw h

    pub counted_last : (n m k : ℕ) (ts : List Lexeme) (front : Option (List A)) (o : Option A) (rest : List Lexeme) → n ≡ m + 1 → cut g room (one ts) ≡ Some (o, rest) → sees between rest ≡ false
        → with_counted k front (counted g room (separated_at between one n ts)) ≡ Some (k + 1, (both behind front o, rest))
    counted_last n m k ts front o rest i h c =
        let p = cut_some g room (one ts) o rest h in
        let e = ap (λ x. separated_at between one x ts) (i ∙ add-one m) ∙ last_at m ts p.0 p.1 (ap (sees between) p.3 ∙ c) in
        ap (λ r. with_counted k front (counted g room r)) e ∙ ap (λ z. Some (k + 1, (z, p.0.1))) (kept_alone front p.0.0) ∙ ap (λ z. Some (k + 1, (both behind front z, p.0.1))) p.2
        ∙ ap (λ z. Some (k + 1, (both behind front o, z))) p.3

    pub counted_step : (n m k : ℕ) (ts : List Lexeme) (front : Option (List A)) (o : Option A) (rest : List Lexeme) → n ≡ m + 1 → cut g room (one ts) ≡ Some (o, rest) → sees between rest ≡ true
        → with_counted (k + 1) (both behind front o) (counted g room (separated_at between one m (drop 1 rest))) ≡ with_counted k front (counted g room (separated_at between one n ts))
    counted_step n m k ts front o rest i h c =
        let p = cut_some g room (one ts) o rest h in
        let e = ap (λ x. separated_at between one x ts) (i ∙ add-one m) ∙ more_at m ts p.0 p.1 (ap (sees between) p.3 ∙ c) in
        let f = counted_again k front p.0.0 (separated_at between one m (drop 1 p.0.1)) in
        ap (λ z. with_counted (k + 1) (both behind front z) (counted g room (separated_at between one m (drop 1 rest)))) (sym p.2)
        ∙ ap (λ z. with_counted (k + 1) (both behind front (kept g room p.0.0)) (counted g room (separated_at between one m (drop 1 z)))) (sym p.3)
        ∙ f ∙ ap (λ r. with_counted k front (counted g room r)) (sym e)

    pub counted_fail : (n m k : ℕ) (ts : List Lexeme) (front : Option (List A)) → n ≡ m + 1 → cut g room (one ts) ≡ None → with_counted k front (counted g room (separated_at between one n ts)) ≡ None
    counted_fail n m k ts front i h = ap (λ r. with_counted k front (counted g room r)) (ap (λ x. separated_at between one x ts) (i ∙ add-one m) ∙ none_at m ts (cut_none g room (one ts) h))

    pub counted_none : (n k : ℕ) (ts : List Lexeme) (front : Option (List A)) → n ≡ 0 → with_counted k front (counted g room (separated_at between one n ts)) ≡ None
    unfolding separated_at
    counted_none n k ts front e = rw e

  module _ (begins : List Lexeme → Bool) (one : List Lexeme → Read A) where
    many_more_at : (n : ℕ) (ts : List Lexeme) (p : A × List Lexeme) → begins ts ≡ true → one ts ≡ Some p → many_at begins one (suc n) ts ≡ (many_at begins one n p.1 >>= λ q. Some (p.0 ∷ q.0, q.1))
    unfolding many_at
    many_more_at n ts p b h = rw (b, h)

    many_none_at : (n : ℕ) (ts : List Lexeme) → begins ts ≡ true → one ts ≡ None → many_at begins one (suc n) ts ≡ None
    unfolding many_at
    many_none_at n ts b h = rw (b, h)

    many_stop_at : (n : ℕ) (ts : List Lexeme) → (n ≡ 0) ⊎ (begins ts ≡ false) → many_at begins one n ts ≡ Some ([], ts)
    unfolding many_at
    many_stop_at n ts (inl e) = rw e
    many_stop_at zero ts (inr e) = refl
    many_stop_at (suc n) ts (inr e) = rw e

    pub kept_many_step : (n m : ℕ) (ts : List Lexeme) (front : Option (List A)) (o : Option A) (rest : List Lexeme) → n ≡ m + 1 → begins ts ≡ true → cut g room (one ts) ≡ Some (o, rest)
        → with_kept (both behind front o) (cut (most g) room (many_at begins one m rest)) ≡ with_kept front (cut (most g) room (many_at begins one n ts))
    kept_many_step n m ts front o rest i b h =
        let p = cut_some g room (one ts) o rest h in
        let e = ap (λ x. many_at begins one x ts) (i ∙ add-one m) ∙ many_more_at m ts p.0 b p.1 in
        let k = kept_again front p.0.0 (many_at begins one m p.0.1) in
        ap (λ z. with_kept (both behind front z) (cut (most g) room (many_at begins one m rest))) (sym p.2)
        ∙ ap (λ z. with_kept (both behind front (kept g room p.0.0)) (cut (most g) room (many_at begins one m z))) (sym p.3)
        ∙ k ∙ ap (λ r. with_kept front (cut (most g) room r)) (sym e)

    pub kept_many_fail : (n m : ℕ) (ts : List Lexeme) (front : Option (List A)) → n ≡ m + 1 → begins ts ≡ true → cut g room (one ts) ≡ None
        → with_kept front (cut (most g) room (many_at begins one n ts)) ≡ None
    kept_many_fail n m ts front i b h = ap (λ r. with_kept front (cut (most g) room r)) (ap (λ x. many_at begins one x ts) (i ∙ add-one m) ∙ many_none_at m ts b (cut_none g room (one ts) h))

    pub kept_many_done : (n : ℕ) (ts : List Lexeme) (front : Option (List A)) → (n ≡ 0) ⊎ (begins ts ≡ false) → with_kept front (cut (most g) room (many_at begins one n ts)) ≡ Some (front, ts)
    kept_many_done n ts front s =
        ap (λ r. with_kept front (cut (most g) room r)) (many_stop_at n ts s) ∙ ap (λ z. Some (both ◌++◌ front z, ts)) kept_empty ∙ ap (λ z. Some (z, ts)) (both_nothing front)

-- ---- types
module _ (room : ℕ) where
  pub kept_var : (name : List ℕ) → kept frames_of_type room (y.Var name) ≡ Some (y.Var name)
  kept_var name = kept_leaf frames_of_type room (y.Var name) (frames-type-Var name)

  pub kept_con : (name : List ℕ) → kept frames_of_type room (y.Con name) ≡ Some (y.Con name)
  kept_con name = kept_leaf frames_of_type room (y.Con name) (frames-type-Con name)

  pub kept_unit : kept frames_of_type room (y.Tuple []) ≡ Some (y.Tuple [])
  kept_unit = kept_leaf frames_of_type room (y.Tuple []) (frames-type-Tuple [])

  -- types in parentheses, behind the opening one
  regroup_is : (parts : Option (List Written)) → regrouped parts ≡ (parts >>= λ x. Some (grouped_type x))
  regroup_is None = refl
  regroup_is (Some parts) = refl

  regroup_kept : (parts : List Written) → regrouped (kept (most frames_of_type) room parts) ≡ kept frames_of_type room (grouped_type parts)
  regroup_kept parts = regroup_is (kept (most frames_of_type) room parts) ∙ sym (kept_alike (most frames_of_type) frames_of_type grouped_type room parts (frames-grouped-type parts))

  group_if : (p : Bool) (parts : List Written) (rest : List Lexeme)
      → cond p (Some (regrouped (kept (most frames_of_type) room parts), rest)) None ≡ cut frames_of_type room (cond p (Some (grouped_type parts, rest)) None)
  group_if true parts rest = ap (λ z. Some (z, rest)) (regroup_kept parts)
  group_if false parts rest = refl

  group_behind : (parts : List Written) (r : Option (List Lexeme))
      → (r >>= λ x. cond (few parts) (Some (regrouped (kept (most frames_of_type) room parts), x)) None) ≡ cut frames_of_type room (r >>= λ x. cond (few parts) (Some (grouped_type parts, x)) None)
  group_behind parts None = refl
  group_behind parts (Some x) = group_if (few parts) parts x

  some_types_from : (r : Read (List Written))
      → (counted frames_of_type room r >>= λ p. after m.Closes p.1.1 >>= λ x. cond (nat_le p.0 8) (Some (regrouped p.1.0, x)) None)
      ≡ cut frames_of_type room (r >>= λ p. after m.Closes p.1 >>= λ x. cond (few p.0) (Some (grouped_type p.0, x)) None)
  some_types_from None = refl
  some_types_from (Some p) = group_behind p.0 (after m.Closes p.1)

  some_types_cut : (ts : List Lexeme) → some_types_kept room ts ≡ cut frames_of_type room (some_types_at any_type_at ts)
  unfolding some_types_kept some_types_at
  some_types_cut ts = some_types_from (separated_at m.Comma any_type_at (length ts) ts)

  group_or : (b : Bool) (ts : List Lexeme) → cond b (Some (Some (y.Tuple []), drop 1 ts)) (some_types_kept room ts) ≡ cut frames_of_type room (cond b (Some (y.Tuple [], drop 1 ts)) (some_types_at any_type_at ts))
  group_or true ts = ap (λ z. Some (z, drop 1 ts)) (sym kept_unit)
  group_or false ts = some_types_cut ts

  type_group_cut : (ts : List Lexeme) → type_group_kept room ts ≡ cut frames_of_type room (type_group_at any_type_at ts)
  unfolding type_group_kept type_group_at
  type_group_cut ts = group_or (sees m.Closes ts) ts

  marked_cut : (b : Bool) (ts : List Lexeme) → cond b (type_group_kept room ts) None ≡ cut frames_of_type room (cond b (type_group_at any_type_at ts) None)
  marked_cut true ts = type_group_cut ts
  marked_cut false ts = refl

  pub atype_cut : (ts : List Lexeme) → atype_kept room ts ≡ cut frames_of_type room (atype_at any_type_at ts)
  atype_cut [] = refl
  atype_cut (t.Mark w a ∷ ts) = marked_cut (same_mark a m.Opens) ts
  atype_cut (t.Variable w name ∷ ts) = ap (λ z. Some (z, ts)) (sym (kept_var name))
  atype_cut (t.Constructor w name ∷ ts) = ap (λ z. Some (z, ts)) (sym (kept_con name))
  atype_cut (t.Operator w name ∷ ts) = refl
  atype_cut (t.Number w digits ∷ ts) = refl

  parts_behind : (head : Written) (r : Read (List Written))
      → (cut (most frames_of_type) room r >>= λ q. Some (both applied_type (kept frames_of_type room head) q.0, q.1)) ≡ cut frames_of_type room (r >>= λ q. Some (applied_type head q.0, q.1))
  parts_behind head None = refl
  parts_behind head (Some q) = ap (λ z. Some (z, q.1)) (sym (kept_both frames_of_type (most frames_of_type) frames_of_type applied_type room head q.0 (frames-applied-type head q.0)))

  btype_from : (r : Read Written)
      → (cut frames_of_type room r >>= λ p. cut (most frames_of_type) room (atypes_at any_type_at p.1) >>= λ q. Some (both applied_type p.0 q.0, q.1))
      ≡ cut frames_of_type room (r >>= λ p. atypes_at any_type_at p.1 >>= λ q. Some (applied_type p.0 q.0, q.1))
  btype_from None = refl
  btype_from (Some p) = parts_behind p.0 (atypes_at any_type_at p.1)

  pub btype_cut : (ts : List Lexeme) → btype_kept room ts ≡ cut frames_of_type room (btype_at any_type_at ts)
  unfolding btype_kept btype_at
  btype_cut ts = ap (λ r. r >>= λ p. cut (most frames_of_type) room (atypes_at any_type_at p.1) >>= λ q. Some (both applied_type p.0 q.0, q.1)) (atype_cut ts) ∙ btype_from (atype_at any_type_at ts)

-- ---- arrows
-- what is read behind arrows, with the types before them
abbrev pub behind_arrows : Option (List Written) → Read (Option Written) → Read (Option Written)
behind_arrows sides None = None
behind_arrows sides (Some p) = Some (both arrowed sides p.0, p.1)

pub arrows_all : (read : Read (Option Written)) → behind_arrows (Some []) read ≡ read
arrows_all None = refl
arrows_all (Some (None, rest)) = refl
arrows_all (Some (Some type, rest)) = refl

pub one_arrow : (sides : List Written) (side type : Written) → arrowed (sides ++ side ∷ []) type ≡ arrowed sides (y.Fun side type)
one_arrow [] side type = refl
one_arrow (first ∷ sides) side type = ap (y.Fun first) (one_arrow sides side type)

more_arrows : (sides : Option (List Written)) (o type : Option Written) → both arrowed (both behind sides o) type ≡ both arrowed sides (both y.Fun o type)
more_arrows None o type = refl
more_arrows (Some sides) None type = refl
more_arrows (Some sides) (Some side) None = refl
more_arrows (Some sides) (Some side) (Some type) = ap Some (one_arrow sides side type)

no_arrows : (sides : Option (List Written)) (type : Option Written) → both arrowed None type ≡ both arrowed sides (None)
no_arrows None type = refl
no_arrows (Some sides) type = refl

kept_fun : (room : ℕ) (from to : Written) → kept frames_of_type (suc room) (y.Fun from to) ≡ both y.Fun (kept frames_of_type (suc room) from) (kept frames_of_type room to)
kept_fun room from to =
    kept_both frames_of_type (λ x. suc (frames_of_type x)) frames_of_type y.Fun (suc room) from to (frames-type-Fun from to)
    ∙ ap (both y.Fun (kept frames_of_type (suc room) from)) (kept_deeper frames_of_type room to)

both_without : {A B C : Type 0} (f : A → B → C) (a : Option A) → both f a None ≡ None
both_without f None = refl
both_without f (Some a) = refl

kept_no_fun : (from to : Written) → kept frames_of_type 0 (y.Fun from to) ≡ None
kept_no_fun from to =
    kept_both frames_of_type (λ x. suc (frames_of_type x)) frames_of_type y.Fun 0 from to (frames-type-Fun from to)
    ∙ ap (both y.Fun (kept frames_of_type 0 from)) (kept_nowhere frames_of_type to) ∙ both_without y.Fun (kept frames_of_type 0 from)

arrow_at : (ts : List Lexeme) (p : Written × List Lexeme) → btype_at any_type_at ts ≡ Some p → sees m.Arrow p.1 ≡ true → any_type_at ts ≡ (any_type_at (drop 1 p.1) >>= λ q. Some (y.Fun p.0 q.0, q.1))
unfolding type_over_at
arrow_at ts p h c = any_type_over ts ∙ (rw (h, c))

no_arrow_at : (ts : List Lexeme) (p : Written × List Lexeme) → btype_at any_type_at ts ≡ Some p → sees m.Arrow p.1 ≡ false → any_type_at ts ≡ Some p
unfolding type_over_at
no_arrow_at ts p h c = any_type_over ts ∙ (rw (h, c))

no_btype_at : (ts : List Lexeme) → btype_at any_type_at ts ≡ None → any_type_at ts ≡ None
unfolding type_over_at
no_btype_at ts h = any_type_over ts ∙ (rw h)

arrow_kept : (room : ℕ) (sides : Option (List Written)) (side : Written) (r : Read Written)
    → behind_arrows (both behind sides (kept frames_of_type (suc room) side)) (cut frames_of_type room r) ≡ behind_arrows sides (cut frames_of_type (suc room) (r >>= λ q. Some (y.Fun side q.0, q.1)))
arrow_kept room sides side None = refl
arrow_kept room sides side (Some q) = ap (λ z. Some (z, q.1)) (more_arrows sides (kept frames_of_type (suc room) side) (kept frames_of_type room q.0) ∙ ap (both arrowed sides) (sym (kept_fun room side q.0)))

arrow_lost : (sides : Option (List Written)) (side : Written) (r : Read Written) → behind_arrows None (cut frames_of_type 0 r) ≡ behind_arrows sides (cut frames_of_type 0 (r >>= λ q. Some (y.Fun side q.0, q.1)))
arrow_lost sides side None = refl
arrow_lost sides side (Some q) = ap (λ z. Some (z, q.1)) (no_arrows sides (kept frames_of_type 0 q.0) ∙ ap (both arrowed sides) (sym (kept_no_fun side q.0)))

-- a turn of the loop over arrows, with room for one more and without
pub arrow_step : (room : ℕ) (ts : List Lexeme) (sides : Option (List Written)) (o : Option Written) (rest : List Lexeme) → btype_kept room ts ≡ Some (o, rest) → sees m.Arrow rest ≡ true
    → behind_arrows (side_behind room sides o) (cut frames_of_type (pred room) (any_type_at (drop 1 rest))) ≡ behind_arrows sides (cut frames_of_type room (any_type_at ts))
arrow_step zero ts sides o rest h c =
    let p = cut_some frames_of_type 0 (btype_at any_type_at ts) o rest (sym (btype_cut 0 ts) ∙ h) in
    let e = arrow_at ts p.0 p.1 (ap (sees m.Arrow) p.3 ∙ c) in
    ap (λ z. behind_arrows None (cut frames_of_type 0 (any_type_at (drop 1 z)))) (sym p.3)
    ∙ arrow_lost sides p.0.0 (any_type_at (drop 1 p.0.1)) ∙ ap (λ r. behind_arrows sides (cut frames_of_type 0 r)) (sym e)
arrow_step (suc room) ts sides o rest h c =
    let p = cut_some frames_of_type (suc room) (btype_at any_type_at ts) o rest (sym (btype_cut (suc room) ts) ∙ h) in
    let e = arrow_at ts p.0 p.1 (ap (sees m.Arrow) p.3 ∙ c) in
    ap (λ z. behind_arrows (both behind sides z) (cut frames_of_type room (any_type_at (drop 1 rest)))) (sym p.2)
    ∙ ap (λ z. behind_arrows (both behind sides (kept frames_of_type (suc room) p.0.0)) (cut frames_of_type room (any_type_at (drop 1 z)))) (sym p.3)
    ∙ arrow_kept room sides p.0.0 (any_type_at (drop 1 p.0.1)) ∙ ap (λ r. behind_arrows sides (cut frames_of_type (suc room) r)) (sym e)

pub arrow_last : (n : ℕ) (ts : List Lexeme) (sides : Option (List Written)) (o : Option Written) (rest : List Lexeme) → btype_kept n ts ≡ Some (o, rest) → sees m.Arrow rest ≡ false
    → behind_arrows sides (cut frames_of_type n (any_type_at ts)) ≡ Some (both arrowed sides o, rest)
arrow_last n ts sides o rest h c =
    let p = cut_some frames_of_type n (btype_at any_type_at ts) o rest (sym (btype_cut n ts) ∙ h) in
    let e = no_arrow_at ts p.0 p.1 (ap (sees m.Arrow) p.3 ∙ c) in
    ap (λ r. behind_arrows sides (cut frames_of_type n r)) e ∙ ap (λ z. Some (both arrowed sides z, p.0.1)) p.2 ∙ ap (λ z. Some (both arrowed sides o, z)) p.3

pub arrow_fail : (n : ℕ) (ts : List Lexeme) (sides : Option (List Written)) → btype_kept n ts ≡ None → behind_arrows sides (cut frames_of_type n (any_type_at ts)) ≡ None
arrow_fail n ts sides h =
    let e = no_btype_at ts (cut_none frames_of_type n (btype_at any_type_at ts) (sym (btype_cut n ts) ∙ h)) in ap (λ r. behind_arrows sides (cut frames_of_type n r)) e

pub arrow_none : (n : ℕ) (ts : List Lexeme) (sides : Option (List Written)) → length ts ≡ 0 → behind_arrows sides (cut frames_of_type n (any_type_at ts)) ≡ None
unfolding type_over_at btype_at
arrow_none n [] sides h = ap (λ r. behind_arrows sides (cut frames_of_type n r)) (any_type_over [])
arrow_none n (x ∷ xs) sides h = absurd (omega arith)
