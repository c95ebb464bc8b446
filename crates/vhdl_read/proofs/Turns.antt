-- One turn of each kind of loop.
use Rattle.std.proofs.Common.{◌≡◌, ℕ, zero, suc, ◌+◌, Bool, true, false, List, [], ◌∷◌, ◌++◌, drop, Some, None, refl, sym, ◌∙◌, ap, append_assoc, append-nil, add-one, ◌⊎◌, inl, inr, length, ◌<◌, ◌≤◌, get_or, arith}
use Rattle.rw_base.specs.declared.fail.Failure.TheVariants as fail
use Rattle.vh_tree.specs.declared.token.Mark.{Mark}
use Rattle.vh_tree.specs.declared.token.Token.{Token}
use Rattle.vh_tree.specs.declared.token.Side.{Side}
use Rattle.vh_tree_reading.specs.Scan.{◌>>=◌}
use Rattle.vh_tree_reading.specs.Read.{Read, sees, after, separated_at, many_at, args_at, stmt_at, stmts_at, begins_stmt, choice_levels}
use Rattle.vh_tree.specs.declared.token.Mark.TheVariants as m
use Rattle.vh_tree_reading.specs.ReadDesign.{after_all, var_at, vars_at, param_at, param_list_at, begins_item, item_at, items_at, sensitive_at, names_at, process_at, processes_at}

-- what is read from here on, behind what was read before
abbrev pub with_front : {A : Type 0} → List A → Read (List A) → Read (List A)
with_front front None = None
with_front front (Some p) = Some (front ++ p.0, p.1)

pub front_again : {A : Type 0} (front : List A) (a : A) (r : Read (List A)) → with_front (front ++ a ∷ []) r ≡ with_front front (r >>= λ q. Some (a ∷ q.0, q.1))
front_again front a None = refl
front_again front a (Some q) = rw append_assoc

module _ {A : Type 0} (between : Mark) (one : List Token → Read A) where
  pub separated_last : (n m : ℕ) (ts : List Token) (front : List A) (a : A) (rest : List Token) → n ≡ m + 1 → one ts ≡ Some (a, rest) → sees between rest ≡ false
      → with_front front (separated_at between one n ts) ≡ Some (front ++ a ∷ [], rest)
  unfolding separated_at
  separated_last n m ts front a rest e h c = rw (e, add-one m, h, c)

  pub separated_go : (n : ℕ) (ts : List Token) (a : A) (rest : List Token) → one ts ≡ Some (a, rest) → sees between rest ≡ true
      → separated_at between one (suc n) ts ≡ (separated_at between one n (drop 1 rest) >>= λ q. Some (a ∷ q.0, q.1))
  unfolding separated_at
  separated_go n ts a rest h c = rw (h, c)

  pub separated_step : (n m : ℕ) (ts : List Token) (front : List A) (a : A) (rest : List Token) → n ≡ m + 1 → one ts ≡ Some (a, rest) → sees between rest ≡ true
      → with_front (front ++ a ∷ []) (separated_at between one m (drop 1 rest)) ≡ with_front front (separated_at between one n ts)
  separated_step n m ts front a rest e h c =
      front_again front a (separated_at between one m (drop 1 rest)) ∙ sym (ap (with_front front) (ap (λ x. separated_at between one x ts) (e ∙ add-one m) ∙ separated_go m ts a rest h c))

  pub separated_fail : (n m : ℕ) (ts : List Token) (front : List A) → n ≡ m + 1 → one ts ≡ None → with_front front (separated_at between one n ts) ≡ None
  unfolding separated_at
  separated_fail n m ts front e h = rw (e, add-one m, h)

  pub separated_none : (n : ℕ) (ts : List Token) (front : List A) → n ≡ 0 → with_front front (separated_at between one n ts) ≡ None
  unfolding separated_at
  separated_none n ts front e = rw e

module _ {A : Type 0} (begins : List Token → Bool) (one : List Token → Read A) where
  pub many_stop : (n : ℕ) (ts : List Token) → begins ts ≡ false → many_at begins one n ts ≡ Some ([], ts)
  unfolding many_at
  many_stop zero ts h = refl
  many_stop (suc n) ts h = rw h

  pub many_go : (n : ℕ) (ts : List Token) (a : A) (rest : List Token) → begins ts ≡ true → one ts ≡ Some (a, rest)
      → many_at begins one (suc n) ts ≡ (many_at begins one n rest >>= λ q. Some (a ∷ q.0, q.1))
  unfolding many_at
  many_go n ts a rest h e = rw (h, e)

  pub many_step : (n m : ℕ) (ts : List Token) (front : List A) (a : A) (rest : List Token) → n ≡ m + 1 → begins ts ≡ true → one ts ≡ Some (a, rest)
      → with_front (front ++ a ∷ []) (many_at begins one m rest) ≡ with_front front (many_at begins one n ts)
  many_step n m ts front a rest e h o =
      front_again front a (many_at begins one m rest) ∙ sym (ap (with_front front) (ap (λ x. many_at begins one x ts) (e ∙ add-one m) ∙ many_go m ts a rest h o))

  pub many_fail : (n m : ℕ) (ts : List Token) (front : List A) → n ≡ m + 1 → begins ts ≡ true → one ts ≡ None → with_front front (many_at begins one n ts) ≡ None
  unfolding many_at
  many_fail n m ts front e h o = rw (e, add-one m, h, o)

  pub many_done : (n : ℕ) (ts : List Token) (front : List A) → (n ≡ 0) ⊎ (begins ts ≡ false) → with_front front (many_at begins one n ts) ≡ Some (front, ts)
  unfolding many_at
  many_done n ts front (inl e) = rw (e, append-nil)
  many_done n ts front (inr e) = ap (with_front front) (many_stop n ts e) ∙ ap (λ x. Some (x, ts)) (append-nil front)

-- as many turns as there are tokens
pub stmts_turns : (at : Side) (n : ℕ) (ts : List Token)
    → stmts_at at (args_at n) (choice_levels at n) ts ≡ many_at (begins_stmt at) (stmt_at at (args_at n) (choice_levels at n)) (length ts) ts
unfolding stmts_at
stmts_turns at n ts = refl

pub vars_turns : (ts : List Token) → vars_at ts ≡ many_at (sees m.Variable) (var_at m.Variable) (length ts) ts
unfolding vars_at
vars_turns ts = refl

pub param_list_turns : (ts : List Token) → param_list_at ts ≡ separated_at m.Semicolon param_at (length ts) ts
unfolding param_list_at
param_list_turns ts = refl

pub items_turns : (levels : ℕ) (ts : List Token) → items_at levels ts ≡ many_at begins_item (item_at levels) (length ts) ts
unfolding items_at
items_turns levels ts = refl

pub names_turns : (ts : List Token) → names_at ts ≡ separated_at m.Comma sensitive_at (length ts) ts
unfolding names_at
names_turns ts = refl

pub processes_turns : (levels : ℕ) (ts : List Token) → processes_at levels ts ≡ many_at (sees m.Process) (process_at levels) (length ts) ts
unfolding processes_at
processes_turns levels ts = refl

-- one mark more is passed
pub after_next : (marks : List Mark) (i : ℕ) (ts rest : List Token) (d : Mark) → i < length marks → after (get_or marks i d) ts ≡ Some rest → after_all (drop (i + 1) marks) rest ≡ after_all (drop i marks) ts
unfolding after_all
after_next [] i ts rest d h e = absurd (omega arith)
after_next (a ∷ others) zero ts rest d h e = sym (ap (λ r. r >>= after_all others) e)
after_next (a ∷ others) (suc i) ts rest d h e = let s : suc i + 1 ≡ suc (i + 1) = omega arith in rw s (after_next others i ts rest d (omega arith) e)

-- a mark is missing
pub after_missing : (marks : List Mark) (i : ℕ) (ts : List Token) (d : Mark) → i < length marks → after (get_or marks i d) ts ≡ None → after_all (drop i marks) ts ≡ None
unfolding after_all
after_missing [] i ts d h e = absurd (omega arith)
after_missing (a ∷ others) zero ts d h e = ap (λ r. r >>= after_all others) e
after_missing (a ∷ others) (suc i) ts d h e = after_missing others i ts d (omega arith) e

-- no mark is left
pub after_done : (marks : List Mark) (i : ℕ) (ts : List Token) → length marks ≤ i → after_all (drop i marks) ts ≡ Some ts
unfolding after_all
after_done [] zero ts h = refl
after_done [] (suc i) ts h = refl
after_done (a ∷ others) zero ts h = absurd (omega arith)
after_done (a ∷ others) (suc i) ts h = after_done others i ts (omega arith)
