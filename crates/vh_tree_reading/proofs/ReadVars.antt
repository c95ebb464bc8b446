-- Types, variables, signals and parameters are read exactly.
use Rattle.std.proofs.Common.{◌≡◌, ℕ, suc, ◌<◌, ◌≤◌, Bool, true, false, not, nat_eq, List, [], ◌∷◌, ◌++◌, length, drop, Some, None, refl, sym, ap, subst, ◌∙◌, arith, inl, inr}
use Rattle.std.proofs.lemmas.Bool.Decides.{nat_tests}
use Rattle.vh_tree.specs.declared.token.Mark.{Mark}
use Rattle.vh_tree.specs.declared.token.Mark.TheVariants as m
use Rattle.vh_tree.specs.declared.token.Token.{Token}
use Rattle.vh_tree.specs.declared.token.Token.TheVariants as t
use Rattle.vh_tree.specs.declared.function.Var.{Var}
use Rattle.vh_tree.specs.VToken.{marks}
use Rattle.vh_tree.specs.Grammar.{IsSeparated, IsMany, IsVec, a_vec, IsVar, a_var, IsParam, a_param, IsParams, no_params, some_params}
use Rattle.vh_tree_reading.specs.Read.{Read, same_mark, sees, after, number_at, many_at}
use Rattle.vh_tree_reading.specs.ReadDesign.{after_all, id_at, zero_at, vec_at, var_at, vars_at, param_at, param_list_at, params_at}
use Rattle.vh_tree_reading.proofs.ScanSound.{bind_some, chosen, some_is, moved}
use Rattle.vh_tree_reading.proofs.ReadExact.{same_self, seen_is, after_is, after_mark, Exact, separated_exact, many_sound, many_read, many_shorter}
use Rattle.vh_tree_reading.proofs.ReadExprs.{not_true, number_is}
use Rattle.vh_tree_reading.proofs.ReadStmts.{Runs}

abbrev pub always : List Token → Bool
always ts = true

pub after_all_is : (list : List Mark) (ts rest : List Token) → after_all list ts ≡ Some rest → ts ≡ marks list ++ rest
unfolding after_all
after_all_is [] ts rest e = some_is ts rest e
after_all_is (a ∷ list) ts rest e =
    let b = bind_some (after a ts) (after_all list) rest e in
    after_is a ts b.0 b.1 ∙ ap (λ z. t.Mark a ∷ z) (after_all_is list b.0 rest b.2)

pub after_all_marks : (list : List Mark) (rest : List Token) → after_all list (marks list ++ rest) ≡ Some rest
unfolding after_all
after_all_marks [] rest = refl
after_all_marks (a ∷ list) rest = rw (after_mark a (marks list ++ rest)) (after_all_marks list rest)

pub id_found : (ts : List Token) (p : List ℕ × List Token) → id_at ts ≡ Some p → ts ≡ t.Id p.0 ∷ p.1
id_found [] p e = absurd (cc)
id_found (t.Id x ∷ ts) p e = ap (λ (q : List ℕ × List Token). t.Id q.0 ∷ q.1) (some_is (x, ts) p e)
id_found (t.Mark a ∷ ts) p e = absurd (cc)
id_found (t.Number n ∷ ts) p e = absurd (cc)
id_found (t.Bits b ∷ ts) p e = absurd (cc)

-- any number of what is read exactly
module _ {A : Type 0} (begins : List Token → Bool) (one : List Token → Read A) (One : List Token → A → List Token → Type 0) (exact : Exact one One always)
    (known : (ts : List Token) (a : A) (rest : List Token) → One ts a rest → begins ts ≡ true) where
  pub many_runs : Runs (λ ts. many_at begins one (length ts) ts) (IsMany One) (λ ts. not (begins ts))
  many_runs = record {
    sound = λ ts p e. many_sound begins one One always exact known (λ ts e. refl) (length ts) ts p e;
    complete = λ ts xs rest d h. many_read begins one One always exact known (λ ts e. refl) d (length ts) (omega arith) (not_true _ h) refl;
    shorter = λ ts xs rest d. many_shorter begins one One always exact known (λ ts e. refl) d;
  }

-- ---- types
zero_is : (n : ℕ) → nat_eq n 0 ≡ true → n ≡ 0
zero_is n e = grind (arith, nat_tests)

zero_found : (ts rest : List Token) → zero_at ts ≡ Some rest → ts ≡ t.Number 0 ∷ t.Mark m.Closes ∷ rest
unfolding zero_at
zero_found ts rest e =
    let b = bind_some (number_at ts) _ rest e in
    let r = bind_some (after m.Closes b.0.1) _ rest b.2 in
    elim (chosen (nat_eq b.0.0 0) _ _ _ r.2) [
      | inl c ↦ number_is ts b.0 b.1 ∙ ap (λ z. t.Number z ∷ b.0.1) (zero_is b.0.0 c.0) ∙ ap (λ z. t.Number 0 ∷ z) (after_is m.Closes b.0.1 r.0 r.1) ∙ ap (λ z. t.Number 0 ∷ t.Mark m.Closes ∷ z) (some_is _ _ c.1)
      | inr c ↦ absurd (let n : None ≡ Some rest = c.1 in cc)
    ]

zero_read : (rest : List Token) → zero_at (t.Number 0 ∷ t.Mark m.Closes ∷ rest) ≡ Some rest
unfolding zero_at
zero_read rest = rw (after_mark m.Closes rest)

vec_sound : (ts : List Token) (p : ℕ × List Token) → vec_at ts ≡ Some p → IsVec ts p.0 p.1
unfolding vec_at
vec_sound ts p e =
    let a = bind_some (after_all (m.StdLogicVector ∷ m.Opens ∷ []) ts) _ p e in
    let n = bind_some (number_at a.0) _ p a.2 in
    let r = bind_some (after m.Downto n.0.1) _ p n.2 in
    let z = bind_some (zero_at r.0) _ p r.2 in
    let whole : ts ≡ t.Mark m.StdLogicVector ∷ t.Mark m.Opens ∷ t.Number n.0.0 ∷ t.Mark m.Downto ∷ t.Number 0 ∷ t.Mark m.Closes ∷ z.0 =
    after_all_is (m.StdLogicVector ∷ m.Opens ∷ []) ts a.0 a.1 ∙ ap (λ q. t.Mark m.StdLogicVector ∷ t.Mark m.Opens ∷ q)
    (number_is a.0 n.0 n.1 ∙ ap (λ q. t.Number n.0.0 ∷ q) (after_is m.Downto n.0.1 r.0 r.1 ∙ ap (λ q. t.Mark m.Downto ∷ q) (zero_found r.0 z.0 z.1))) in
    moved (λ q. IsVec ts q.0 q.1) _ p z.2 (subst (λ q. IsVec q (suc n.0.0) z.0) (sym whole) (a_vec n.0.0 z.0))

vec_read : (n : ℕ) (rest : List Token) → vec_at (t.Mark m.StdLogicVector ∷ t.Mark m.Opens ∷ t.Number n ∷ t.Mark m.Downto ∷ t.Number 0 ∷ t.Mark m.Closes ∷ rest) ≡ Some (suc n, rest)
unfolding vec_at
vec_read n rest =
    rw (after_all_marks (m.StdLogicVector ∷ m.Opens ∷ []) (t.Number n ∷ t.Mark m.Downto ∷ t.Number 0 ∷ t.Mark m.Closes ∷ rest), after_mark m.Downto (t.Number 0 ∷ t.Mark m.Closes ∷ rest), zero_read rest)

vec_complete : (ts : List Token) (n : ℕ) (rest : List Token) → IsVec ts n rest → always rest ≡ true → vec_at ts ≡ Some (n, rest)
vec_complete _ _ _ (a_vec n rest) s = vec_read n rest

vec_shorter : (ts : List Token) (n : ℕ) (rest : List Token) → IsVec ts n rest → length rest < length ts
vec_shorter _ _ _ (a_vec n rest) = omega arith

pub vec_exact : Exact vec_at IsVec always
vec_exact = record { sound = vec_sound; complete = vec_complete; shorter = vec_shorter }

-- ---- variables and signals
module _ (keyword : Mark) where
  var_sound : (ts : List Token) (p : Var × List Token) → var_at keyword ts ≡ Some p → IsVar keyword ts p.0 p.1
  unfolding var_at
  var_sound ts p e =
      let a = bind_some (after keyword ts) _ p e in
      let x = bind_some (id_at a.0) _ p a.2 in
      let r = bind_some (after m.Colon x.0.1) _ p x.2 in
      let v = bind_some (vec_at r.0) _ p r.2 in
      let z = bind_some (after m.Semicolon v.0.1) _ p v.2 in
      let whole : ts ≡ t.Mark keyword ∷ t.Id x.0.0 ∷ t.Mark m.Colon ∷ r.0 =
      after_is keyword ts a.0 a.1 ∙ ap (λ q. t.Mark keyword ∷ q) (id_found a.0 x.0 x.1 ∙ ap (λ q. t.Id x.0.0 ∷ q) (after_is m.Colon x.0.1 r.0 r.1)) in
      moved (λ q. IsVar keyword ts q.0 q.1) _ p z.2
      (subst (λ q. IsVar keyword q (record { name = x.0.0; width = v.0.0 }) z.0) (sym whole)
      (a_var x.0.0 v.0.0 r.0 z.0 (subst (IsVec r.0 v.0.0) (after_is m.Semicolon v.0.1 z.0 z.1) (vec_sound r.0 v.0 v.1))))

  var_read : (name : List ℕ) (width : ℕ) (ts rest : List Token) → vec_at ts ≡ Some (width, t.Mark m.Semicolon ∷ rest)
      → var_at keyword (t.Mark keyword ∷ t.Id name ∷ t.Mark m.Colon ∷ ts) ≡ Some (record { name = name; width = width }, rest)
  unfolding var_at
  var_read name width ts rest h = rw (after_mark keyword (t.Id name ∷ t.Mark m.Colon ∷ ts), after_mark m.Colon ts, h, after_mark m.Semicolon rest)

  var_complete : (ts : List Token) (v : Var) (rest : List Token) → IsVar keyword ts v rest → always rest ≡ true → var_at keyword ts ≡ Some (v, rest)
  var_complete _ _ _ (a_var name width ts rest d) s = var_read name width ts rest (vec_complete ts width (t.Mark m.Semicolon ∷ rest) d refl)

  var_shorter : (ts : List Token) (v : Var) (rest : List Token) → IsVar keyword ts v rest → length rest < length ts
  var_shorter _ _ _ (a_var name width ts rest d) = let h = vec_shorter ts width (t.Mark m.Semicolon ∷ rest) d in omega arith

  pub var_exact : Exact (var_at keyword) (IsVar keyword) always
  var_exact = record { sound = var_sound; complete = var_complete; shorter = var_shorter }

  pub var_begins : (ts : List Token) (v : Var) (rest : List Token) → IsVar keyword ts v rest → sees keyword ts ≡ true
  var_begins _ _ _ (a_var name width ts rest d) = same_self keyword

pub vars_runs : Runs vars_at (IsMany (IsVar m.Variable)) (λ ts. not (sees m.Variable ts))
unfolding vars_at
vars_runs = many_runs (sees m.Variable) (var_at m.Variable) (IsVar m.Variable) (var_exact m.Variable) (var_begins m.Variable)

-- ---- parameters
param_sound : (ts : List Token) (p : List ℕ × List Token) → param_at ts ≡ Some p → IsParam ts p.0 p.1
unfolding param_at
param_sound ts p e =
    let x = bind_some (id_at ts) _ p e in
    let r = bind_some (after_all (m.Colon ∷ m.StdLogicVector ∷ []) x.0.1) _ p x.2 in
    let whole : ts ≡ t.Id x.0.0 ∷ t.Mark m.Colon ∷ t.Mark m.StdLogicVector ∷ r.0 = id_found ts x.0 x.1 ∙ ap (λ q. t.Id x.0.0 ∷ q) (after_all_is (m.Colon ∷ m.StdLogicVector ∷ []) x.0.1 r.0 r.1) in
    moved (λ q. IsParam ts q.0 q.1) _ p r.2 (subst (λ q. IsParam q x.0.0 r.0) (sym whole) (a_param x.0.0 r.0))

param_read : (name : List ℕ) (rest : List Token) → param_at (t.Id name ∷ t.Mark m.Colon ∷ t.Mark m.StdLogicVector ∷ rest) ≡ Some (name, rest)
unfolding param_at
param_read name rest = rw (after_all_marks (m.Colon ∷ m.StdLogicVector ∷ []) rest)

param_complete : (ts : List Token) (x : List ℕ) (rest : List Token) → IsParam ts x rest → always rest ≡ true → param_at ts ≡ Some (x, rest)
param_complete _ _ _ (a_param name rest) s = param_read name rest

param_shorter : (ts : List Token) (x : List ℕ) (rest : List Token) → IsParam ts x rest → length rest < length ts
param_shorter _ _ _ (a_param name rest) = omega arith

closes_ends : (ts : List Token) → not (sees m.Semicolon (t.Mark m.Closes ∷ ts)) ≡ true
unfolding same_mark
closes_ends ts = refl

param_list_exact : Exact param_list_at (IsSeparated m.Semicolon IsParam) (λ ts. not (sees m.Semicolon ts))
unfolding param_list_at
param_list_exact =
    separated_exact m.Semicolon param_at IsParam always (record { sound = param_sound; complete = param_complete; shorter = param_shorter }) (λ rest. refl) (λ ts. not (sees m.Semicolon ts))
    (λ rest e. not_true _ e) (λ rest e. refl)

params_sound : (ts : List Token) (p : List (List ℕ) × List Token) → params_at ts ≡ Some p → IsParams ts p.0 p.1
unfolding params_at
params_sound ts p e =
    elim (chosen (sees m.Opens ts) _ _ _ e) [
      | inl c ↦ let q = bind_some (param_list_at (drop 1 ts)) _ p c.1 in
          let r = bind_some (after m.Closes q.0.1) _ p q.2 in
          moved (λ y. IsParams ts y.0 y.1) _ p r.2
          (subst (λ y. IsParams y q.0.0 r.0) (sym (seen_is m.Opens ts c.0))
          (some_params (drop 1 ts) r.0 q.0.0 (subst (IsSeparated m.Semicolon IsParam (drop 1 ts) q.0.0) (after_is m.Closes q.0.1 r.0 r.1) (param_list_exact.sound (drop 1 ts) q.0 q.1))))
      | inr c ↦ moved (λ y. IsParams ts y.0 y.1) _ p c.1 (no_params ts)
    ]

some_read : (ts rest : List Token) (names : List (List ℕ)) → param_list_at ts ≡ Some (names, t.Mark m.Closes ∷ rest) → params_at (t.Mark m.Opens ∷ ts) ≡ Some (names, rest)
unfolding params_at
some_read ts rest names h = rw (same_self m.Opens, h, after_mark m.Closes rest)

none_read : (ts : List Token) → sees m.Opens ts ≡ false → params_at ts ≡ Some ([], ts)
unfolding params_at
none_read ts h = rw h

params_complete : (ts : List Token) (xs : List (List ℕ)) (rest : List Token) → IsParams ts xs rest → not (sees m.Opens rest) ≡ true → params_at ts ≡ Some (xs, rest)
params_complete _ _ _ (no_params ts) s = none_read ts (not_true _ s)
params_complete _ _ _ (some_params ts rest names d) s = some_read ts rest names (param_list_exact.complete ts names (t.Mark m.Closes ∷ rest) d (closes_ends rest))

params_shorter : (ts : List Token) (xs : List (List ℕ)) (rest : List Token) → IsParams ts xs rest → length rest ≤ length ts
params_shorter _ _ _ (no_params ts) = omega arith
params_shorter _ _ _ (some_params ts rest names d) = let h = param_list_exact.shorter ts names (t.Mark m.Closes ∷ rest) d in omega arith

pub params_runs : Runs params_at IsParams (λ ts. not (sees m.Opens ts))
params_runs = record { sound = params_sound; complete = params_complete; shorter = params_shorter }
