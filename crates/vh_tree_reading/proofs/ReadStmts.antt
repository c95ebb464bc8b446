-- Statements are read exactly.
use Rattle.std.proofs.Common.{◌≡◌, ℕ, zero, suc, ◌<◌, ◌≤◌, Bool, true, false, not, ◌||◌, List, [], ◌∷◌, length, drop, Some, refl, sym, ap, subst, ◌∙◌, arith, inl, inr}
use Rattle.vh_tree.specs.declared.token.Mark.TheVariants as m
use Rattle.vh_tree.specs.declared.token.Token.{Token}
use Rattle.vh_tree.specs.declared.token.Token.TheVariants as t
use Rattle.rw_base.specs.declared.bit.Bit9.{Bit9}
use Rattle.vh_tree.specs.declared.expr.VExpr.{VExpr}
use Rattle.vh_tree.specs.declared.stmt.Test.{Test}
use Rattle.vh_tree.specs.declared.stmt.Test.TheVariants as c
use Rattle.vh_tree.specs.declared.stmt.VStmt.{VStmt}
use Rattle.vh_tree.specs.declared.stmt.VStmt.TheVariants as s
use Rattle.vh_tree.specs.declared.stmt.Branch.{Branch}
use Rattle.vh_tree.specs.declared.token.Side.{Side}
use Rattle.vh_tree.specs.declared.token.Side.TheVariants as side
use Rattle.vh_tree.specs.VToken.{assign_mark}
use Rattle.vh_tree_reading.specs.Scan.{◌>>=◌}
use Rattle.vh_tree.specs.Grammar.{name_of, IsSeparated, IsMany, IsRef, a_name, a_slice, a_call, IsExpr, IsArgs, target_of, IsTest, equal, rising, reset, IsBranch, a_branch, IsElse, absent, present, IsChoice, a_choice, IsStmt, an_assignment, an_if, IsChoiceAt, IsStmts}
use Rattle.vh_tree_reading.specs.Read.{Read, same_mark, sees, after, separated_at, bits_at, ref_at, expr_at, args_at, target_at, begins_target, begins_stmt, rising_at, reset_at, equal_at, test_at, branch_at, else_at, choice_at, assign_at, stmt_at, stmts_at, choice_levels}
use Rattle.vh_tree_reading.proofs.ScanSound.{bind_some, chosen, some_is, moved}
use Rattle.vh_tree_reading.proofs.ReadExact.{same_self, seen_is, after_is, after_mark, Exact, separated_exact, many_sound, many_read, many_shorter}
use Rattle.vh_tree_reading.proofs.ReadExprs.{ends_ref, ends_expr, not_true, neither, bits_is, expr_at_exact, ref_at_exact}

-- what may follow statements, and branches
abbrev pub ends_stmts : Side → List Token → Bool
ends_stmts at ts = not (begins_stmt at ts)

abbrev pub ends_branches : Side → List Token → Bool
ends_branches at ts = not (sees m.Elsif ts || begins_stmt at ts)

abbrev always : List Token → Bool
always ts = true

-- ---- tests
module _ (args : List Token → Read (List VExpr)) (Args : List Token → List VExpr → List Token → Type 0) (refs : Exact (ref_at args) (IsRef Args) ends_ref) where
  rising_sound : (ts : List Token) (p : Test × List Token) → rising_at ts ≡ Some p → IsTest Args ts p.0 p.1
  unfolding rising_at
  rising_sound ts p h =
      let a = bind_some (after m.RisingEdge ts) _ p h in
      let b = bind_some (after m.Opens a.0) _ p a.2 in
      let d = bind_some (after m.Clk b.0) _ p b.2 in
      let e = bind_some (after m.Closes d.0) _ p d.2 in
      let whole : ts ≡ t.Mark m.RisingEdge ∷ t.Mark m.Opens ∷ t.Mark m.Clk ∷ t.Mark m.Closes ∷ e.0 =
      after_is m.RisingEdge ts a.0 a.1 ∙ ap (λ z. t.Mark m.RisingEdge ∷ z) (after_is m.Opens a.0 b.0 b.1 ∙ ap (λ z. t.Mark m.Opens ∷ z) (after_is m.Clk b.0 d.0 d.1 ∙ ap (λ z. t.Mark m.Clk ∷ z) (after_is m.Closes d.0 e.0 e.1))) in
      moved (λ q. IsTest Args ts q.0 q.1) _ p e.2 (subst (λ z. IsTest Args z c.Rising e.0) (sym whole) (rising e.0))

  reset_sound : (ts : List Token) (p : Test × List Token) → reset_at ts ≡ Some p → IsTest Args ts p.0 p.1
  unfolding reset_at
  reset_sound ts p h =
      let a = bind_some (after m.Rst ts) _ p h in
      let b = bind_some (after m.Equal a.0) _ p a.2 in
      let d = bind_some (after m.High b.0) _ p b.2 in
      let whole : ts ≡ t.Mark m.Rst ∷ t.Mark m.Equal ∷ t.Mark m.High ∷ d.0 =
      after_is m.Rst ts a.0 a.1 ∙ ap (λ z. t.Mark m.Rst ∷ z) (after_is m.Equal a.0 b.0 b.1 ∙ ap (λ z. t.Mark m.Equal ∷ z) (after_is m.High b.0 d.0 d.1)) in
      moved (λ q. IsTest Args ts q.0 q.1) _ p d.2 (subst (λ z. IsTest Args z c.Reset d.0) (sym whole) (reset d.0))

  equal_sound : (ts : List Token) (p : Test × List Token) → equal_at args ts ≡ Some p → IsTest Args ts p.0 p.1
  unfolding equal_at
  equal_sound ts p h =
      let a = bind_some (ref_at args ts) _ p h in
      let r = bind_some (after m.Equal a.0.1) _ p a.2 in
      let b = bind_some (bits_at r.0) _ p r.2 in
      let behind : a.0.1 ≡ t.Mark m.Equal ∷ t.Bits b.0.0 ∷ b.0.1 = after_is m.Equal a.0.1 r.0 r.1 ∙ ap (λ z. t.Mark m.Equal ∷ z) (bits_is r.0 b.0 b.1) in
      moved (λ q. IsTest Args ts q.0 q.1) _ p b.2 (equal ts b.0.1 a.0.0 b.0.0 (subst (IsRef Args ts a.0.0) behind (refs.sound ts a.0 a.1)))

  test_sound : (ts : List Token) (p : Test × List Token) → test_at args ts ≡ Some p → IsTest Args ts p.0 p.1
  unfolding test_at
  test_sound ts p h =
      elim (chosen (sees m.RisingEdge ts) _ _ _ h) [
        | inl a ↦ rising_sound ts p a.1
        | inr a ↦ elim (chosen (sees m.Rst ts) _ _ _ a.1) [ inl b ↦ reset_sound ts p b.1 | inr b ↦ equal_sound ts p b.1 ]
      ]

  rising_read : (rest : List Token) → test_at args (t.Mark m.RisingEdge ∷ t.Mark m.Opens ∷ t.Mark m.Clk ∷ t.Mark m.Closes ∷ rest) ≡ Some (c.Rising, rest)
  unfolding test_at rising_at after same_mark
  rising_read rest = refl

  reset_read : (rest : List Token) → test_at args (t.Mark m.Rst ∷ t.Mark m.Equal ∷ t.Mark m.High ∷ rest) ≡ Some (c.Reset, rest)
  unfolding test_at reset_at after same_mark
  reset_read rest = refl

  -- a ref begins with a name, and no such mark is one
  name_is_no : (x : Token) (rest : List Token) (name : List ℕ) → name_of x ≡ Some name → (sees m.RisingEdge (x ∷ rest) ≡ false) × (sees m.Rst (x ∷ rest) ≡ false)
  unfolding same_mark
  name_is_no (t.Id y) rest name e = (refl, refl)
  name_is_no (t.Mark m.Inp) rest name e = (refl, refl)
  name_is_no (t.Mark m.RisingEdge) rest name e = absurd (cc)
  name_is_no (t.Mark m.Rst) rest name e = absurd (cc)
  name_is_no (t.Mark a) rest name e = absurd (cc)
  name_is_no (t.Number n) rest name e = absurd (cc)
  name_is_no (t.Bits b) rest name e = absurd (cc)

  ref_is_no : {ts : List Token} {e : VExpr} {rest : List Token} → IsRef Args ts e rest → (sees m.RisingEdge ts ≡ false) × (sees m.Rst ts ≡ false)
  ref_is_no (a_name x name rest e) = name_is_no x rest name e
  ref_is_no (a_slice x name a b rest e) = name_is_no x (t.Mark m.Opens ∷ t.Number a ∷ t.Mark m.Downto ∷ t.Number b ∷ t.Mark m.Closes ∷ rest) name e
  ref_is_no (a_call name ts rest es d) = (refl, refl)

  equal_ends : (ts : List Token) → ends_ref (t.Mark m.Equal ∷ ts) ≡ true
  unfolding same_mark
  equal_ends ts = refl

  equal_read : (ts rest : List Token) (e : VExpr) (bits : List Bit9) → (sees m.RisingEdge ts ≡ false) × (sees m.Rst ts ≡ false) → ref_at args ts ≡ Some (e, t.Mark m.Equal ∷ t.Bits bits ∷ rest)
      → test_at args ts ≡ Some (c.Equal e bits, rest)
  unfolding test_at equal_at
  equal_read ts rest e bits n h = rw (n.0, n.1, h, after_mark m.Equal (t.Bits bits ∷ rest))

  test_complete : (ts : List Token) (e : Test) (rest : List Token) → IsTest Args ts e rest → always rest ≡ true → test_at args ts ≡ Some (e, rest)
  test_complete _ _ _ (equal ts rest e bits d) h = equal_read ts rest e bits (ref_is_no d) (refs.complete ts e _ d (equal_ends (t.Bits bits ∷ rest)))
  test_complete _ _ _ (rising rest) h = rising_read rest
  test_complete _ _ _ (reset rest) h = reset_read rest

  test_shorter : (ts : List Token) (e : Test) (rest : List Token) → IsTest Args ts e rest → length rest < length ts
  test_shorter _ _ _ (equal ts rest e bits d) = let h = refs.shorter ts e _ d in omega arith
  test_shorter _ _ _ (rising rest) = omega arith
  test_shorter _ _ _ (reset rest) = omega arith

  test_exact : Exact (test_at args) (IsTest Args) always
  test_exact = record { sound = test_sound; complete = test_complete; shorter = test_shorter }

  no_and : List Token → Bool
  no_and ts = not (sees m.And ts)

  pub tests_exact : Exact (λ ts. separated_at m.And (test_at args) (length ts) ts) (IsSeparated m.And (IsTest Args)) (λ ts. not (sees m.And ts))
  tests_exact = separated_exact m.And (test_at args) (IsTest Args) always test_exact (λ rest. refl) (λ ts. not (sees m.And ts)) (λ rest e. not_true _ e) (λ rest e. refl)

-- any number is read exactly, and may be none
pub record Runs {A : Type 0} (read : List Token → Read A) (Is : List Token → A → List Token → Type 0) (stop : List Token → Bool) : Type 0 where
  pub sound : (ts : List Token) (p : A × List Token) → read ts ≡ Some p → Is ts p.0 p.1
  pub complete : (ts : List Token) (a : A) (rest : List Token) → Is ts a rest → stop rest ≡ true → read ts ≡ Some (a, rest)
  pub shorter : (ts : List Token) (a : A) (rest : List Token) → Is ts a rest → length rest ≤ length ts

then_ends : (ts : List Token) → not (sees m.And (t.Mark m.Then ∷ ts)) ≡ true
unfolding same_mark
then_ends ts = refl

elsif_ends : (at : Side) (ts : List Token) → ends_stmts at (t.Mark m.Elsif ∷ ts) ≡ true
unfolding same_mark
elsif_ends side.Function ts = refl
elsif_ends side.Process ts = refl

else_mark_ends : (at : Side) (ts : List Token) → ends_branches at (t.Mark m.Else ∷ ts) ≡ true
unfolding same_mark
else_mark_ends side.Function ts = refl
else_mark_ends side.Process ts = refl

end_ends_branches : (at : Side) (ts : List Token) → ends_branches at (t.Mark m.End ∷ ts) ≡ true
unfolding same_mark
end_ends_branches side.Function ts = refl
end_ends_branches side.Process ts = refl

end_ends_stmts : (at : Side) (ts : List Token) → ends_stmts at (t.Mark m.End ∷ ts) ≡ true
unfolding same_mark
end_ends_stmts side.Function ts = refl
end_ends_stmts side.Process ts = refl

end_no_else : (ts : List Token) → sees m.Else (t.Mark m.End ∷ ts) ≡ false
unfolding same_mark
end_no_else ts = refl

-- ---- branches and `if`
module _ (at : Side) (args : List Token → Read (List VExpr)) (Args : List Token → List VExpr → List Token → Type 0) (refs : Exact (ref_at args) (IsRef Args) ends_ref)
    (stmts : List Token → Read (List VStmt)) (Stmts : List Token → List VStmt → List Token → Type 0) (runs : Runs stmts Stmts (ends_stmts at)) where
  branch_sound : (ts : List Token) (p : Branch × List Token) → branch_at args stmts ts ≡ Some p → IsBranch Args Stmts ts p.0 p.1
  unfolding branch_at
  branch_sound ts p h =
      let tests = tests_exact args Args refs in
      let a = bind_some (separated_at m.And (test_at args) (length ts) ts) _ p h in
      let r = bind_some (after m.Then a.0.1) _ p a.2 in
      let b = bind_some (stmts r.0) _ p r.2 in
      moved (λ q. IsBranch Args Stmts ts q.0 q.1) _ p b.2
      (a_branch ts r.0 b.0.1 a.0.0 b.0.0 (subst (IsSeparated m.And (IsTest Args) ts a.0.0) (after_is m.Then a.0.1 r.0 r.1) (tests.sound ts a.0 a.1)) (runs.sound r.0 b.0 b.1))

  branch_read : (ts mid rest : List Token) (tests : List Test) (body : List VStmt) → separated_at m.And (test_at args) (length ts) ts ≡ Some (tests, t.Mark m.Then ∷ mid) → stmts mid ≡ Some (body, rest)
      → branch_at args stmts ts ≡ Some (record { tests = tests; body = body }, rest)
  unfolding branch_at
  branch_read ts mid rest tests body h k = rw (h, after_mark m.Then mid, k)

  branch_complete : (ts : List Token) (b : Branch) (rest : List Token) → IsBranch Args Stmts ts b rest → ends_stmts at rest ≡ true → branch_at args stmts ts ≡ Some (b, rest)
  branch_complete _ _ _ (a_branch ts mid rest tests body d k) h =
      branch_read ts mid rest tests body ((tests_exact args Args refs).complete ts tests _ d (then_ends mid)) (runs.complete mid body rest k h)

  branch_shorter : (ts : List Token) (b : Branch) (rest : List Token) → IsBranch Args Stmts ts b rest → length rest < length ts
  branch_shorter _ _ _ (a_branch ts mid rest tests body d k) =
      let h = (tests_exact args Args refs).shorter ts tests _ d in let g = runs.shorter mid body rest k in omega arith

  branch_exact : Exact (branch_at args stmts) (IsBranch Args Stmts) (ends_stmts at)
  branch_exact = record { sound = branch_sound; complete = branch_complete; shorter = branch_shorter }

  branches_exact : Exact (λ ts. separated_at m.Elsif (branch_at args stmts) (length ts) ts) (IsSeparated m.Elsif (IsBranch Args Stmts)) (ends_branches at)
  branches_exact = separated_exact m.Elsif (branch_at args stmts) (IsBranch Args Stmts) (ends_stmts at) branch_exact (elsif_ends at) (ends_branches at)
      (λ rest e. (neither (sees m.Elsif rest) (begins_stmt at rest) e).0) (λ rest e. (neither (sees m.Elsif rest) (begins_stmt at rest) e).1)

  else_sound : (ts : List Token) (p : List VStmt × List Token) → else_at args stmts ts ≡ Some p → IsElse Stmts ts p.0 p.1
  unfolding else_at
  else_sound ts p h =
      elim (chosen (sees m.Else ts) _ _ _ h) [
        | inl a ↦ subst (λ z. IsElse Stmts z p.0 p.1) (sym (seen_is m.Else ts a.0)) (present (drop 1 ts) p.1 p.0 (runs.sound (drop 1 ts) p a.1))
        | inr a ↦ moved (λ q. IsElse Stmts ts q.0 q.1) _ p a.1 (absent ts)
      ]

  else_absent : (ts : List Token) → sees m.Else ts ≡ false → else_at args stmts ts ≡ Some ([], ts)
  unfolding else_at
  else_absent ts h = rw h

  else_present : (ts rest : List Token) (body : List VStmt) → stmts ts ≡ Some (body, rest) → else_at args stmts (t.Mark m.Else ∷ ts) ≡ Some (body, rest)
  unfolding else_at
  else_present ts rest body h = rw (same_self m.Else, h)

  else_complete : {ts : List Token} {body : List VStmt} {z : List Token} → IsElse Stmts ts body z → (rest : List Token) → z ≡ t.Mark m.End ∷ rest → else_at args stmts ts ≡ Some (body, z)
  else_complete (absent ts) rest e = else_absent ts (ap (sees m.Else) e ∙ end_no_else rest)
  else_complete (present ts z body d) rest e = else_present ts z body (runs.complete ts body z d (ap (ends_stmts at) e ∙ end_ends_stmts at rest))

  else_ends : {ts : List Token} {body : List VStmt} {z : List Token} → IsElse Stmts ts body z → (rest : List Token) → z ≡ t.Mark m.End ∷ rest → ends_branches at ts ≡ true
  else_ends (absent ts) rest e = ap (ends_branches at) e ∙ end_ends_branches at rest
  else_ends (present ts z body d) rest e = else_mark_ends at ts

  else_shorter : {ts : List Token} {body : List VStmt} {z : List Token} → IsElse Stmts ts body z → length z ≤ length ts
  else_shorter (absent ts) = omega arith
  else_shorter (present ts z body d) = let h = runs.shorter ts body z d in omega arith

  choice_sound : (ts : List Token) (p : (List Branch × List VStmt) × List Token) → choice_at args stmts ts ≡ Some p → IsChoice Args Stmts ts p.0 p.1
  unfolding choice_at
  choice_sound ts p h =
      let a = bind_some (separated_at m.Elsif (branch_at args stmts) (length ts) ts) _ p h in
      let o = bind_some (else_at args stmts a.0.1) _ p a.2 in
      let x = bind_some (after m.End o.0.1) _ p o.2 in
      let y = bind_some (after m.If x.0) _ p x.2 in
      let z = bind_some (after m.Semicolon y.0) _ p y.2 in
      let behind : o.0.1 ≡ t.Mark m.End ∷ t.Mark m.If ∷ t.Mark m.Semicolon ∷ z.0 =
      after_is m.End o.0.1 x.0 x.1 ∙ ap (λ q. t.Mark m.End ∷ q) (after_is m.If x.0 y.0 y.1 ∙ ap (λ q. t.Mark m.If ∷ q) (after_is m.Semicolon y.0 z.0 z.1)) in
      moved (λ q. IsChoice Args Stmts ts q.0 q.1) _ p z.2
      (a_choice ts a.0.1 z.0 a.0.0 o.0.0 (branches_exact.sound ts a.0 a.1) (subst (IsElse Stmts a.0.1 o.0.0) behind (else_sound a.0.1 o.0 o.1)))

  choice_read : (ts mid rest : List Token) (branches : List Branch) (other : List VStmt) → separated_at m.Elsif (branch_at args stmts) (length ts) ts ≡ Some (branches, mid)
      → else_at args stmts mid ≡ Some (other, t.Mark m.End ∷ t.Mark m.If ∷ t.Mark m.Semicolon ∷ rest) → choice_at args stmts ts ≡ Some ((branches, other), rest)
  unfolding choice_at
  choice_read ts mid rest branches other h k = rw (h, k, after_mark m.End (t.Mark m.If ∷ t.Mark m.Semicolon ∷ rest), after_mark m.If (t.Mark m.Semicolon ∷ rest), after_mark m.Semicolon rest)

  choice_complete : (ts : List Token) (p : List Branch × List VStmt) (rest : List Token) → IsChoice Args Stmts ts p rest → always rest ≡ true → choice_at args stmts ts ≡ Some (p, rest)
  choice_complete _ _ _ (a_choice ts mid rest branches other d k) h =
      choice_read ts mid rest branches other (branches_exact.complete ts branches mid d (else_ends k _ refl)) (else_complete k _ refl)

  choice_shorter : (ts : List Token) (p : List Branch × List VStmt) (rest : List Token) → IsChoice Args Stmts ts p rest → length rest < length ts
  choice_shorter _ _ _ (a_choice ts mid rest branches other d k) =
      let h = branches_exact.shorter ts branches mid d in let g = else_shorter k in omega arith

  pub choice_exact : Exact (choice_at args stmts) (IsChoice Args Stmts) always
  choice_exact = record { sound = choice_sound; complete = choice_complete; shorter = choice_shorter }

-- ---- statements
target_no_if : (at : Side) (x : Token) (ts : List Token) (name : List ℕ) → target_of at x ≡ Some name → sees m.If (x ∷ ts) ≡ false
unfolding same_mark
target_no_if at (t.Id y) ts name e = refl
target_no_if side.Process (t.Mark m.Outp) ts name e = refl
target_no_if side.Process (t.Mark a) ts name e = absurd (cc)
target_no_if side.Function (t.Mark a) ts name e = absurd (cc)
target_no_if at (t.Number n) ts name e = absurd (cc)
target_no_if at (t.Bits b) ts name e = absurd (cc)

target_begins : (at : Side) (x : Token) (ts : List Token) (name : List ℕ) → target_of at x ≡ Some name → begins_target at (x ∷ ts) ≡ true
target_begins at (t.Id y) ts name e = refl
target_begins side.Process (t.Mark m.Outp) ts name e = refl
target_begins side.Process (t.Mark a) ts name e = absurd (cc)
target_begins side.Function (t.Mark a) ts name e = absurd (cc)
target_begins at (t.Number n) ts name e = absurd (cc)
target_begins at (t.Bits b) ts name e = absurd (cc)

semicolon_ends : (ts : List Token) → ends_expr (t.Mark m.Semicolon ∷ ts) ≡ true
unfolding same_mark
semicolon_ends ts = refl

or_true : (a b : Bool) → b ≡ true → (a || b) ≡ true
or_true true b e = refl
or_true false b e = e

module _ (at : Side) (args : List Token → Read (List VExpr)) (Args : List Token → List VExpr → List Token → Type 0) (exprs : Exact (expr_at args) (IsExpr Args) ends_expr)
    (choice : List Token → Read (List Branch × List VStmt)) (Choice : List Token → List Branch × List VStmt → List Token → Type 0) (chosens : Exact choice Choice always) where
  assign_named : (x : Token) (ts : List Token) (name : List ℕ) (p : VStmt × List Token) → target_of at x ≡ Some name
      → (after (assign_mark at) ts >>= λ r. expr_at args r >>= λ q. after m.Semicolon q.1 >>= λ r. Some (s.Assign name q.0, r)) ≡ Some p → IsStmt at Args Choice (x ∷ ts) p.0 p.1
  assign_named x ts name p e h =
      let r = bind_some (after (assign_mark at) ts) _ p h in
      let q = bind_some (expr_at args r.0) _ p r.2 in
      let z = bind_some (after m.Semicolon q.0.1) _ p q.2 in
      moved (λ y. IsStmt at Args Choice (x ∷ ts) y.0 y.1) _ p z.2
      (subst (λ y. IsStmt at Args Choice (x ∷ y) (s.Assign name q.0.0) z.0) (sym (after_is (assign_mark at) ts r.0 r.1))
      (an_assignment x name r.0 z.0 q.0.0 e (subst (IsExpr Args r.0 q.0.0) (after_is m.Semicolon q.0.1 z.0 z.1) (exprs.sound r.0 q.0 q.1))))

  assign_sound : (ts : List Token) (p : VStmt × List Token) → assign_at at args choice ts ≡ Some p → IsStmt at Args Choice ts p.0 p.1
  unfolding assign_at
  assign_sound [] p e = absurd (cc)
  assign_sound (x ∷ ts) p e =
      let b = bind_some (target_at at (x ∷ ts)) _ p e in
      let n = bind_some (target_of at x) (λ name. Some (name, ts)) b.0 b.1 in
      assign_named x ts n.0 p n.1
      (subst (λ (z : List ℕ × List Token). (after (assign_mark at) z.1 >>= λ r. expr_at args r >>= λ q. after m.Semicolon q.1 >>= λ r. Some (s.Assign z.0 q.0, r)) ≡ Some p) (sym (some_is _ _ n.2)) b.2)

  stmt_sound : (ts : List Token) (p : VStmt × List Token) → stmt_at at args choice ts ≡ Some p → IsStmt at Args Choice ts p.0 p.1
  unfolding stmt_at
  stmt_sound ts p h =
      elim (chosen (sees m.If ts) _ _ _ h) [
        | inl a ↦ let b = bind_some (choice (drop 1 ts)) _ p a.1 in
            moved (λ q. IsStmt at Args Choice ts q.0 q.1) _ p b.2
            (subst (λ z. IsStmt at Args Choice z (s.If b.0.0.0 b.0.0.1) b.0.1) (sym (seen_is m.If ts a.0)) (an_if (drop 1 ts) b.0.1 b.0.0.0 b.0.0.1 (chosens.sound (drop 1 ts) b.0 b.1)))
        | inr a ↦ assign_sound ts p a.1
      ]

  if_read : (ts rest : List Token) (p : List Branch × List VStmt) → choice ts ≡ Some (p, rest) → stmt_at at args choice (t.Mark m.If ∷ ts) ≡ Some (s.If p.0 p.1, rest)
  unfolding stmt_at
  if_read ts rest p h = rw (same_self m.If, h)

  assign_read : (x : Token) (name : List ℕ) (ts rest : List Token) (e : VExpr) → target_of at x ≡ Some name → sees m.If (x ∷ t.Mark (assign_mark at) ∷ ts) ≡ false
      → expr_at args ts ≡ Some (e, t.Mark m.Semicolon ∷ rest) → stmt_at at args choice (x ∷ t.Mark (assign_mark at) ∷ ts) ≡ Some (s.Assign name e, rest)
  unfolding stmt_at assign_at
  assign_read x name ts rest e h n k = rw (n, h, after_mark (assign_mark at) ts, k, after_mark m.Semicolon rest)

  stmt_complete : (ts : List Token) (e : VStmt) (rest : List Token) → IsStmt at Args Choice ts e rest → always rest ≡ true → stmt_at at args choice ts ≡ Some (e, rest)
  stmt_complete _ _ _ (an_assignment x name ts rest e h d) s = assign_read x name ts rest e h (target_no_if at x (t.Mark (assign_mark at) ∷ ts) name h) (exprs.complete ts e _ d (semicolon_ends rest))
  stmt_complete _ _ _ (an_if ts rest branches other d) s = if_read ts rest (branches, other) (chosens.complete ts (branches, other) rest d refl)

  stmt_shorter : (ts : List Token) (e : VStmt) (rest : List Token) → IsStmt at Args Choice ts e rest → length rest < length ts
  stmt_shorter _ _ _ (an_assignment x name ts rest e h d) = let k = exprs.shorter ts e _ d in omega arith
  stmt_shorter _ _ _ (an_if ts rest branches other d) = let k = chosens.shorter ts (branches, other) rest d in omega arith

  stmt_exact : Exact (stmt_at at args choice) (IsStmt at Args Choice) always
  stmt_exact = record { sound = stmt_sound; complete = stmt_complete; shorter = stmt_shorter }

  stmt_begins : (ts : List Token) (e : VStmt) (rest : List Token) → IsStmt at Args Choice ts e rest → begins_stmt at ts ≡ true
  stmt_begins _ _ _ (an_assignment x name ts rest e h d) = or_true (sees m.If (x ∷ t.Mark (assign_mark at) ∷ ts)) _ (target_begins at x (t.Mark (assign_mark at) ∷ ts) name h)
  stmt_begins _ _ _ (an_if ts rest branches other d) = ap (λ z. z || begins_target at (t.Mark m.If ∷ ts)) (same_self m.If)

  pub stmts_runs : Runs (stmts_at at args choice) (IsMany (IsStmt at Args Choice)) (ends_stmts at)
  unfolding stmts_at
  stmts_runs = record {
    sound = λ ts p e. many_sound (begins_stmt at) (stmt_at at args choice) (IsStmt at Args Choice) always stmt_exact stmt_begins (λ ts e. refl) (length ts) ts p e;
    complete = λ ts xs rest d h. many_read (begins_stmt at) (stmt_at at args choice) (IsStmt at Args Choice) always stmt_exact stmt_begins (λ ts e. refl) d (length ts) (omega arith) (not_true _ h) refl;
    shorter = λ ts xs rest d. many_shorter (begins_stmt at) (stmt_at at args choice) (IsStmt at Args Choice) always stmt_exact stmt_begins (λ ts e. refl) d;
  }

-- ---- at each level
choice_zero : (at : Side) → Exact (choice_levels at 0) (IsChoiceAt at 0) always
unfolding choice_levels
choice_zero at = record { sound = λ ts p e. absurd (cc); complete = λ ts es rest d s. absurd d; shorter = λ ts es rest d. absurd d }

runs_at : (at : Side) (n : ℕ) → Exact (choice_levels at n) (IsChoiceAt at n) always → Runs (stmts_at at (args_at n) (choice_levels at n)) (IsStmts at n) (ends_stmts at)
runs_at at n h = stmts_runs at (args_at n) (IsArgs n) (expr_at_exact n) (choice_levels at n) (IsChoiceAt at n) h

choice_next : (at : Side) (n : ℕ) → Exact (choice_levels at n) (IsChoiceAt at n) always → Exact (choice_levels at (suc n)) (IsChoiceAt at (suc n)) always
unfolding choice_levels
choice_next at n h = choice_exact at (args_at n) (IsArgs n) (ref_at_exact n) (stmts_at at (args_at n) (choice_levels at n)) (IsStmts at n) (runs_at at n h)

pub choice_level : (at : Side) (n : ℕ) → Exact (choice_levels at n) (IsChoiceAt at n) always
choice_level at zero = choice_zero at
choice_level at (suc n) = choice_next at n (choice_level at n)

pub stmts_level : (at : Side) (n : ℕ) → Runs (stmts_at at (args_at n) (choice_levels at n)) (IsStmts at n) (ends_stmts at)
stmts_level at n = runs_at at n (choice_level at n)
