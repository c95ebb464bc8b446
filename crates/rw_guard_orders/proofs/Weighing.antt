-- Weights and depths: by the ranks there are numbers that meet their equations, and they are one.
use Rattle.std.proofs.Common.{◌≡◌, ℕ, zero, suc, ◌+◌, ◌<◌, List, [], ◌∷◌, ◌++◌, Option, Some, None, Bool, true, false, if◌then◌else◌, inl, inr, refl, arith, ap, sym, ◌∙◌, subst}
use Rattle.std.specs.List.{AllByRecursion}
use Rattle.rw_core_flat.specs.Terms.{FlatTerm, local_term, built_term, case_term, let_term, call_term, mark_term, return_term, get_term, put_term, lift_term, bind_term, signal_term, extrude_term, FlatTerms, no_terms, more_terms}
use Rattle.rw_core_flat.specs.Terms.{FlatLets, no_lets, more_lets, FlatRows, no_rows, more_rows, FlatArms, body_arm, no_arms, more_arms}
use Rattle.rw_core_flat.specs.Programs.{FlatFunction, function_at}
use Rattle.rw_guard_rules.specs.Signals.{Step, right_of, inward, aside, Held, calls_in, calls_in_all, calls_in_lets, calls_in_rows, calls_in_arms, Guarded, CallsEnd}
use Rattle.rw_guard_rules.specs.Rules.{AnyByRecursion, OnAnyPath, guarded_by, IsMustSignal, nodes, weight_of_calls, depth, depth_all, depth_lets, depth_rows, depth_arms, IsWeighed}
use Rattle.rw_guard_orders.specs.Orders.{CalleesAreThere}
use Rattle.rw_guard_orders.proofs.Lists.{every_map, every_both, every_parts}
use Rattle.rw_guard_orders.proofs.Cycles.{free_of}

-- numbers that agree on each callee of an unguarded call
abbrev pub AgreeOn : List FlatFunction → (ℕ → ℕ) → (ℕ → ℕ) → List Held → Type 0
AgreeOn functions v w cs = AllByRecursion (λ c. (Guarded functions c.path → ⊥) → v c.callee ≡ w c.callee) cs

module _ (functions : List FlatFunction) (set : ℕ → Bool) (m : IsMustSignal functions set) (v w : ℕ → ℕ) where
  abbrev Agree : List Held → Type 0
  Agree cs = AgreeOn functions v w cs

  parts : (cs ds : List Held) → Agree (cs ++ ds) → Agree cs × Agree ds
  parts cs ds h = every_parts (λ c. (Guarded functions c.path → ⊥) → v c.callee ≡ w c.callee) cs ds h

  counted : (path : List Step) (i : ℕ) → ((Guarded functions path → ⊥) → v i ≡ w i) → (b : Bool) → guarded_by set path ≡ b → (if b then 1 else v i) ≡ (if b then 1 else w i)
  counted path i h true e = refl
  counted path i h false e = h (free_of functions set m path e)

  pub same_weight : (cs : List Held) → Agree cs → weight_of_calls set v cs ≡ weight_of_calls set w cs
  same_weight [] h = refl
  same_weight (c ∷ cs) h = let a = counted c.path c.callee h.0 (guarded_by set c.path) refl in let b = same_weight cs h.1 in cc

  mutual
    pub same_depth : (path : List Step) (t : FlatTerm) → Agree (calls_in path t) → depth set v path t ≡ depth set w path t
    same_depth path (local_term k) h = refl
    same_depth path (built_term type place ts) h = ap (λ n. 1 + n) (same_depths (aside ∷ path) ts h)
    same_depth path (case_term ts rows) h =
        let p = parts (calls_in_all (aside ∷ path) ts) (calls_in_rows path rows) h in
        let a = same_depths (aside ∷ path) ts p.0 in let b = same_rows path rows p.1 in cc
    same_depth path (let_term lets t) h =
        let p = parts (calls_in_lets (aside ∷ path) lets) (calls_in (inward ∷ path) t) h in
        same_lets path (depth set v (inward ∷ path) t) (depth set w (inward ∷ path) t) (same_depth (inward ∷ path) t p.1) lets p.0
    same_depth path (call_term i ts) h =
        let a = counted path i h.0 (guarded_by set path) refl in let b = same_depths (aside ∷ path) ts h.1 in cc
    same_depth path (mark_term t) h = ap (λ n. 1 + n) (same_depth (inward ∷ path) t h)
    same_depth path (return_term t) h = ap (λ n. 1 + n) (same_depth (aside ∷ path) t h)
    same_depth path get_term h = refl
    same_depth path (put_term t) h = ap (λ n. 1 + n) (same_depth (aside ∷ path) t h)
    same_depth path (lift_term t) h = ap (λ n. 1 + n) (same_depth (aside ∷ path) t h)
    same_depth path (bind_term t u) h =
        let p = parts (calls_in (aside ∷ path) t) (calls_in (right_of t ∷ path) u) h in
        let a = same_depth (aside ∷ path) t p.0 in let b = same_depth (right_of t ∷ path) u p.1 in cc
    same_depth path (signal_term t) h = ap (λ n. 1 + n) (same_depth (aside ∷ path) t h)
    same_depth path (extrude_term d s) h =
        let p = parts (calls_in (aside ∷ path) d) (calls_in (aside ∷ path) s) h in
        let a = same_depth (aside ∷ path) d p.0 in let b = same_depth (aside ∷ path) s p.1 in cc

    same_depths : (path : List Step) (ts : FlatTerms) → Agree (calls_in_all path ts) → depth_all set v path ts ≡ depth_all set w path ts
    same_depths path no_terms h = refl
    same_depths path (more_terms t ts) h =
        let p = parts (calls_in path t) (calls_in_all path ts) h in
        let a = same_depth path t p.0 in let b = same_depths path ts p.1 in cc

    same_lets : (path : List Step) (j k : ℕ) → j ≡ k → (lets : FlatLets) → Agree (calls_in_lets (aside ∷ path) lets) → depth_lets set v path j lets ≡ depth_lets set w path k lets
    same_lets path j k e no_lets h = e
    same_lets path j k e (more_lets q t others) h =
        let p = parts (calls_in (aside ∷ path) t) (calls_in_lets (aside ∷ path) others) h in
        let a = same_depth (aside ∷ path) t p.0 in let b = same_lets path j k e others p.1 in cc

    same_rows : (path : List Step) (rows : FlatRows) → Agree (calls_in_rows path rows) → depth_rows set v path rows ≡ depth_rows set w path rows
    same_rows path no_rows h = refl
    same_rows path (more_rows ps lets arms others) h =
        let p = parts (calls_in_lets (aside ∷ path) lets) (calls_in_arms path arms ++ calls_in_rows path others) h in
        let q = parts (calls_in_arms path arms) (calls_in_rows path others) p.1 in
        let a = same_lets path (depth_arms set v path arms) (depth_arms set w path arms) (same_arms path arms q.0) lets p.0 in
        let b = same_rows path others q.1 in cc

    same_arms : (path : List Step) (arms : FlatArms) → Agree (calls_in_arms path arms) → depth_arms set v path arms ≡ depth_arms set w path arms
    same_arms path (body_arm t) h = same_depth (inward ∷ path) t h
    same_arms path no_arms h = refl
    same_arms path (more_arms g t others) h =
        let p = parts (calls_in (aside ∷ path) g) (calls_in (inward ∷ path) t ++ calls_in_arms path others) h in
        let q = parts (calls_in (inward ∷ path) t) (calls_in_arms path others) p.1 in
        let a = same_depth (aside ∷ path) g p.0 in let b = same_depth (inward ∷ path) t q.0 in let d = same_arms path others q.1 in cc

-- == A number of a function that its body gives from those of whom it calls without a guard ==

module _ (functions : List FlatFunction) (ends : CallsEnd functions) (step : (ℕ → ℕ) → FlatFunction → ℕ) (local : (v w : ℕ → ℕ) (f : FlatFunction) → AgreeOn functions v w (calls_in [] f.body) → step v f ≡ step w f) where
  abbrev at : (ℕ → ℕ) → Option FlatFunction → ℕ
  at v None = 0
  at v (Some f) = step v f

  -- so many calls deep
  abbrev within : ℕ → ℕ → ℕ
  within zero i = 0
  within (suc k) i = at (within k) (function_at i functions)

  abbrev pub Meets : (ℕ → ℕ) → Type 0
  Meets v = (i : ℕ) (f : FlatFunction) → function_at i functions ≡ Some f → v i ≡ step v f

  same_below : (v w : ℕ → ℕ) (i : ℕ) → ((j : ℕ) → ends.rank j < ends.rank i → v j ≡ w j) → (x : Option FlatFunction) → function_at i functions ≡ x → at v x ≡ at w x
  same_below v w i h None e = refl
  same_below v w i h (Some f) e = local v w f (every_map (λ c. (Guarded functions c.path → ⊥) → ends.rank c.callee < ends.rank i) (λ c. (Guarded functions c.path → ⊥) → v c.callee ≡ w c.callee) (λ c l free. h c.callee (l free)) (calls_in [] f.body) (ends.falls i f e))

  settled : (j k i : ℕ) → ends.rank i < j → ends.rank i < k → within j i ≡ within k i
  settled zero k i l r = absurd (omega arith)
  settled (suc j) zero i l r = absurd (omega arith)
  settled (suc j) (suc k) i l r = same_below (within j) (within k) i (λ c s. settled j k c (omega arith) (omega arith)) (function_at i functions) refl

  pub number : ℕ → ℕ
  number i = within (suc ends.most) i

  pub number_meets : Meets number
  unfolding number
  number_meets i f e =
      let b = ends.bounded i in
      let a : at (within ends.most) (function_at i functions) ≡ at (within (suc ends.most)) (function_at i functions) = same_below (within ends.most) (within (suc ends.most)) i (λ c s. settled ends.most (suc ends.most) c (omega arith) (omega arith)) (function_at i functions) refl in
      subst (λ x. at (within ends.most) (function_at i functions) ≡ at (within (suc ends.most)) x) e a

  -- each call is of a function of the program
  module _ (present : CalleesAreThere functions) where
    each_callee : (P : ℕ → Type 0) (cs : List Held) → ((j : ℕ) → AnyByRecursion (λ c. (c.callee ≡ j) × OnAnyPath c.path) cs → P j) → AllByRecursion (λ c. P c.callee) cs
    each_callee P [] h = tt
    each_callee P (c ∷ cs) h = (h c.callee (inl (refl, tt)), each_callee P cs (λ j k. h j (inr k)))

    one_below : (v w : ℕ → ℕ) → Meets v → Meets w → (b i : ℕ) → ends.rank i < b → (f : FlatFunction) → function_at i functions ≡ Some f → v i ≡ w i
    one_below v w p q zero i l f e = absurd (omega arith)
    one_below v w p q (suc b) i l f e =
        let known = each_callee (λ j. (g : FlatFunction) × (function_at j functions ≡ Some g)) (calls_in [] f.body) (λ j k. present i j (f, e, k)) in
        let both = every_both (λ c. (Guarded functions c.path → ⊥) → ends.rank c.callee < ends.rank i) (λ c. (g : FlatFunction) × (function_at c.callee functions ≡ Some g)) (calls_in [] f.body) (ends.falls i f e) known in
        p i f e ∙ local v w f (every_map (λ c. ((Guarded functions c.path → ⊥) → ends.rank c.callee < ends.rank i) × ((g : FlatFunction) × (function_at c.callee functions ≡ Some g))) (λ c. (Guarded functions c.path → ⊥) → v c.callee ≡ w c.callee)
        (λ c k free. let s = k.0 free in one_below v w p q b c.callee (omega arith) (k.1).0 (k.1).1) (calls_in [] f.body) both) ∙ sym (q i f e)

    pub one_number : (v w : ℕ → ℕ) → Meets v → Meets w → (i : ℕ) (f : FlatFunction) → function_at i functions ≡ Some f → v i ≡ w i
    one_number v w p q i f e = one_below v w p q (suc (ends.rank i)) i (omega arith) f e

-- == Weights and depths ==

module _ (functions : List FlatFunction) (set : ℕ → Bool) (m : IsMustSignal functions set) (ends : CallsEnd functions) where
  abbrev weigh : (ℕ → ℕ) → FlatFunction → ℕ
  weigh v f = nodes f.body + weight_of_calls set v (calls_in [] f.body)

  abbrev fathom : (ℕ → ℕ) → FlatFunction → ℕ
  fathom v f = depth set v [] f.body

  weigh_local : (v w : ℕ → ℕ) (f : FlatFunction) → AgreeOn functions v w (calls_in [] f.body) → weigh v f ≡ weigh w f
  weigh_local v w f h = ap (λ n. nodes f.body + n) (same_weight functions set m v w (calls_in [] f.body) h)

  fathom_local : (v w : ℕ → ℕ) (f : FlatFunction) → AgreeOn functions v w (calls_in [] f.body) → fathom v f ≡ fathom w f
  fathom_local v w f h = same_depth functions set m v w [] f.body h

  pub weighed : (weights depths : ℕ → ℕ) × IsWeighed functions set weights depths
  weighed = (
    number functions ends weigh weigh_local,
    number functions ends fathom fathom_local,
    record {
      weight = number_meets functions ends weigh weigh_local;
      deep = number_meets functions ends fathom fathom_local;
    },
  )

  pub weighed_once : CalleesAreThere functions → (weights depths others deeps : ℕ → ℕ) → IsWeighed functions set weights depths → IsWeighed functions set others deeps
      → (i : ℕ) (f : FlatFunction) → function_at i functions ≡ Some f → (weights i ≡ others i) × (depths i ≡ deeps i)
  weighed_once present weights depths others deeps a b i f e = (
    one_number functions ends weigh weigh_local present weights others a.weight b.weight i f e,
    one_number functions ends fathom fathom_local present depths deeps a.deep b.deep i f e,
  )
