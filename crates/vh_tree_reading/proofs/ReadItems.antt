-- Functions and items are read exactly.
use Rattle.std.proofs.Common.{◌≡◌, ℕ, ◌<◌, true, false, not, ◌||◌, List, [], ◌∷◌, length, Some, None, refl, sym, ap, subst, ◌∙◌, arith, inl, inr}
use Rattle.std.specs.Str.{bytes_eq}
use Rattle.vh_tree.specs.declared.token.Mark.{Mark}
use Rattle.vh_tree.specs.declared.token.Mark.TheVariants as m
use Rattle.vh_tree.specs.declared.token.Token.{Token}
use Rattle.vh_tree.specs.declared.token.Token.TheVariants as t
use Rattle.vh_tree.specs.declared.token.Side.TheVariants as side
use Rattle.vh_tree.specs.declared.expr.VExpr.{VExpr}
use Rattle.vh_tree.specs.declared.stmt.VStmt.{VStmt}
use Rattle.vh_tree.specs.declared.function.Var.{Var}
use Rattle.vh_tree.specs.declared.function.Function.{Function}
use Rattle.vh_tree.specs.declared.design.Item.{Item}
use Rattle.vh_tree.specs.declared.design.Item.TheVariants as i
use Rattle.vh_tree.specs.Grammar.{IsMany, IsExpr, IsArgs, IsStmts, IsVar, IsParams, IsFunction, a_function, IsItem, a_signal, a_definition}
use Rattle.vh_tree_reading.specs.Read.{Read, same_mark, sees, after, expr_at, args_at, stmts_at, choice_levels}
use Rattle.vh_tree_reading.specs.ReadDesign.{after_all, id_at, var_at, vars_at, params_at, head_at, end_at, tail_at, function_at, item_at, begins_item, items_at}
use Rattle.vh_tree_reading.proofs.ScanSound.{bind_some, chosen, some_is, moved, same_bytes, bytes_self}
use Rattle.vh_tree_reading.proofs.ReadExact.{after_is, after_mark, Exact}
use Rattle.vh_tree_reading.proofs.ReadExprs.{ends_expr, expr_at_exact}
use Rattle.vh_tree_reading.proofs.ReadStmts.{Runs, ends_stmts, stmts_level}
use Rattle.vh_tree_reading.proofs.ReadVars.{always, after_all_is, after_all_marks, id_found, many_runs, var_exact, var_begins, vars_runs, params_runs}

-- what stands between the name of a function and its statements
data IsHead : List Token → List (List ℕ) × List Var → List Token → Type 0 where
  a_head : (ts declared rest : List Token) (params : List (List ℕ)) (vars : List Var) → IsParams ts params (t.Mark m.Return ∷ t.Mark m.StdLogicVector ∷ t.Mark m.Is ∷ declared)
      → IsMany (IsVar m.Variable) declared vars (t.Mark m.Begin ∷ rest) → IsHead ts (params, vars) rest

-- what stands behind it
data IsTail (levels : ℕ) (name : List ℕ) : List Token → List VStmt × VExpr → List Token → Type 0 where
  a_tail : (ts behind rest : List Token) (body : List VStmt) (result : VExpr) → IsStmts side.Function levels ts body (t.Mark m.Return ∷ behind)
      → IsExpr (IsArgs levels) behind result (t.Mark m.Semicolon ∷ t.Mark m.End ∷ t.Id name ∷ t.Mark m.Semicolon ∷ rest) → IsTail levels name ts (body, result) rest

return_marks : List Mark
return_marks = m.Return ∷ m.StdLogicVector ∷ m.Is ∷ []

return_no_opens : (ts : List Token) → not (sees m.Opens (t.Mark m.Return ∷ ts)) ≡ true
unfolding same_mark
return_no_opens ts = refl

begin_no_variable : (ts : List Token) → not (sees m.Variable (t.Mark m.Begin ∷ ts)) ≡ true
unfolding same_mark
begin_no_variable ts = refl

return_ends : (ts : List Token) → ends_stmts side.Function (t.Mark m.Return ∷ ts) ≡ true
unfolding same_mark
return_ends ts = refl

semicolon_ends : (ts : List Token) → ends_expr (t.Mark m.Semicolon ∷ ts) ≡ true
unfolding same_mark
semicolon_ends ts = refl

-- ---- the head
head_sound : (ts : List Token) (p : (List (List ℕ) × List Var) × List Token) → head_at ts ≡ Some p → IsHead ts p.0 p.1
unfolding head_at
head_sound ts p e =
    let a = bind_some (params_at ts) _ p e in
    let r = bind_some (after_all (m.Return ∷ m.StdLogicVector ∷ m.Is ∷ []) a.0.1) _ p a.2 in
    let v = bind_some (vars_at r.0) _ p r.2 in
    let z = bind_some (after m.Begin v.0.1) _ p v.2 in
    moved (λ q. IsHead ts q.0 q.1) _ p z.2
    (a_head ts r.0 z.0 a.0.0 v.0.0
    (subst (IsParams ts a.0.0) (after_all_is (m.Return ∷ m.StdLogicVector ∷ m.Is ∷ []) a.0.1 r.0 r.1) (params_runs.sound ts a.0 a.1))
    (subst (IsMany (IsVar m.Variable) r.0 v.0.0) (after_is m.Begin v.0.1 z.0 z.1) (vars_runs.sound r.0 v.0 v.1)))

head_read : (ts declared rest : List Token) (params : List (List ℕ)) (vars : List Var) → params_at ts ≡ Some (params, t.Mark m.Return ∷ t.Mark m.StdLogicVector ∷ t.Mark m.Is ∷ declared)
    → vars_at declared ≡ Some (vars, t.Mark m.Begin ∷ rest) → head_at ts ≡ Some ((params, vars), rest)
unfolding head_at
head_read ts declared rest params vars h k = rw (h, after_all_marks (m.Return ∷ m.StdLogicVector ∷ m.Is ∷ []) declared, k, after_mark m.Begin rest)

head_complete : (ts : List Token) (a : List (List ℕ) × List Var) (rest : List Token) → IsHead ts a rest → always rest ≡ true → head_at ts ≡ Some (a, rest)
head_complete _ _ _ (a_head ts declared rest params vars d k) s =
    head_read ts declared rest params vars (params_runs.complete ts params _ d (return_no_opens (t.Mark m.StdLogicVector ∷ t.Mark m.Is ∷ declared))) (vars_runs.complete declared vars _ k (begin_no_variable rest))

head_shorter : (ts : List Token) (a : List (List ℕ) × List Var) (rest : List Token) → IsHead ts a rest → length rest < length ts
head_shorter _ _ _ (a_head ts declared rest params vars d k) =
    let h = params_runs.shorter ts params (t.Mark m.Return ∷ t.Mark m.StdLogicVector ∷ t.Mark m.Is ∷ declared) d in
    let g = vars_runs.shorter declared vars (t.Mark m.Begin ∷ rest) k in omega arith

-- ---- the tail
end_found : (name : List ℕ) (ts rest : List Token) → end_at name ts ≡ Some rest → ts ≡ t.Mark m.Semicolon ∷ t.Mark m.End ∷ t.Id name ∷ t.Mark m.Semicolon ∷ rest
unfolding end_at
end_found name ts rest e =
    let a = bind_some (after_all (m.Semicolon ∷ m.End ∷ []) ts) _ rest e in
    let y = bind_some (id_at a.0) _ rest a.2 in
    let r = bind_some (after m.Semicolon y.0.1) _ rest y.2 in
    elim (chosen (bytes_eq y.0.0 name) _ _ _ r.2) [
      | inl c ↦ after_all_is (m.Semicolon ∷ m.End ∷ []) ts a.0 a.1 ∙ ap (λ z. t.Mark m.Semicolon ∷ t.Mark m.End ∷ z)
          (id_found a.0 y.0 y.1 ∙ ap (λ z. t.Id z ∷ y.0.1) (same_bytes y.0.0 name c.0) ∙ ap (λ z. t.Id name ∷ z) (after_is m.Semicolon y.0.1 r.0 r.1 ∙ ap (λ z. t.Mark m.Semicolon ∷ z) (some_is _ _ c.1)))
      | inr c ↦ absurd (let n : None ≡ Some rest = c.1 in cc)
    ]

end_read : (name : List ℕ) (rest : List Token) → end_at name (t.Mark m.Semicolon ∷ t.Mark m.End ∷ t.Id name ∷ t.Mark m.Semicolon ∷ rest) ≡ Some rest
unfolding end_at
end_read name rest = rw (after_all_marks (m.Semicolon ∷ m.End ∷ []) (t.Id name ∷ t.Mark m.Semicolon ∷ rest), after_mark m.Semicolon rest, bytes_self name)

module _ (levels : ℕ) where
  abbrev body_at : List Token → Read (List VStmt)
  body_at = stmts_at side.Function (args_at levels) (choice_levels side.Function levels)

  body_runs : Runs body_at (IsStmts side.Function levels) (ends_stmts side.Function)
  body_runs = stmts_level side.Function levels

  result_exact : Exact (expr_at (args_at levels)) (IsExpr (IsArgs levels)) ends_expr
  result_exact = expr_at_exact levels

  tail_sound : (name : List ℕ) (ts : List Token) (p : (List VStmt × VExpr) × List Token) → tail_at levels name ts ≡ Some p → IsTail levels name ts p.0 p.1
  unfolding tail_at
  tail_sound name ts p e =
      let b = bind_some (body_at ts) _ p e in
      let r = bind_some (after m.Return b.0.1) _ p b.2 in
      let v = bind_some (expr_at (args_at levels) r.0) _ p r.2 in
      let z = bind_some (end_at name v.0.1) _ p v.2 in
      moved (λ q. IsTail levels name ts q.0 q.1) _ p z.2
      (a_tail ts r.0 z.0 b.0.0 v.0.0 (subst (IsStmts side.Function levels ts b.0.0) (after_is m.Return b.0.1 r.0 r.1) (body_runs.sound ts b.0 b.1))
      (subst (IsExpr (IsArgs levels) r.0 v.0.0) (end_found name v.0.1 z.0 z.1) (result_exact.sound r.0 v.0 v.1)))

  tail_read : (name : List ℕ) (ts behind rest : List Token) (body : List VStmt) (result : VExpr) → body_at ts ≡ Some (body, t.Mark m.Return ∷ behind)
      → expr_at (args_at levels) behind ≡ Some (result, t.Mark m.Semicolon ∷ t.Mark m.End ∷ t.Id name ∷ t.Mark m.Semicolon ∷ rest) → tail_at levels name ts ≡ Some ((body, result), rest)
  unfolding tail_at
  tail_read name ts behind rest body result h k = rw (h, after_mark m.Return behind, k, end_read name rest)

  tail_complete : (name : List ℕ) (ts : List Token) (a : List VStmt × VExpr) (rest : List Token) → IsTail levels name ts a rest → tail_at levels name ts ≡ Some (a, rest)
  tail_complete name _ _ _ (a_tail ts behind rest body result d k) =
      tail_read name ts behind rest body result (body_runs.complete ts body _ d (return_ends behind)) (result_exact.complete behind result _ k (semicolon_ends (t.Mark m.End ∷ t.Id name ∷ t.Mark m.Semicolon ∷ rest)))

  tail_shorter : (name : List ℕ) (ts : List Token) (a : List VStmt × VExpr) (rest : List Token) → IsTail levels name ts a rest → length rest < length ts
  tail_shorter name _ _ _ (a_tail ts behind rest body result d k) =
      let h = body_runs.shorter ts body (t.Mark m.Return ∷ behind) d in
      let g = result_exact.shorter behind result (t.Mark m.Semicolon ∷ t.Mark m.End ∷ t.Id name ∷ t.Mark m.Semicolon ∷ rest) k in omega arith

  -- ---- functions
  joins : (name : List ℕ) (ts mid rest : List Token) (h : List (List ℕ) × List Var) (q : List VStmt × VExpr) → IsHead ts h mid → IsTail levels name mid q rest
      → IsFunction levels (t.Mark m.Function ∷ t.Id name ∷ ts) (record { name = name; params = h.0; vars = h.1; body = q.0; result = q.1 }) rest
  joins name _ _ rest _ q (a_head ts declared mid params vars d k) tail = second q tail
    where
      second : (q : List VStmt × VExpr) → IsTail levels name mid q rest → IsFunction levels (t.Mark m.Function ∷ t.Id name ∷ ts) (record { name = name; params = params; vars = vars; body = q.0; result = q.1 }) rest
      second _ (a_tail inside behind rest body result b e) = a_function name params vars body result ts declared inside behind rest d k b e

  function_sound : (ts : List Token) (p : Function × List Token) → function_at levels ts ≡ Some p → IsFunction levels ts p.0 p.1
  unfolding function_at
  function_sound ts p e =
      let r = bind_some (after m.Function ts) _ p e in
      let x = bind_some (id_at r.0) _ p r.2 in
      let h = bind_some (head_at x.0.1) _ p x.2 in
      let q = bind_some (tail_at levels x.0.0 h.0.1) _ p h.2 in
      let whole : ts ≡ t.Mark m.Function ∷ t.Id x.0.0 ∷ x.0.1 = after_is m.Function ts r.0 r.1 ∙ ap (λ z. t.Mark m.Function ∷ z) (id_found r.0 x.0 x.1) in
      moved (λ y. IsFunction levels ts y.0 y.1) _ p q.2
      (subst (λ z. IsFunction levels z (record { name = x.0.0; params = h.0.0.0; vars = h.0.0.1; body = q.0.0.0; result = q.0.0.1 }) q.0.1) (sym whole)
      (joins x.0.0 x.0.1 h.0.1 q.0.1 h.0.0 q.0.0 (head_sound x.0.1 h.0 h.1) (tail_sound x.0.0 h.0.1 q.0 q.1)))

  function_read : (name : List ℕ) (ts mid rest : List Token) (h : List (List ℕ) × List Var) (q : List VStmt × VExpr) → head_at ts ≡ Some (h, mid) → tail_at levels name mid ≡ Some (q, rest)
      → function_at levels (t.Mark m.Function ∷ t.Id name ∷ ts) ≡ Some (record { name = name; params = h.0; vars = h.1; body = q.0; result = q.1 }, rest)
  unfolding function_at
  function_read name ts mid rest h q e k = rw (after_mark m.Function (t.Id name ∷ ts), e, k)

  function_complete : (ts : List Token) (f : Function) (rest : List Token) → IsFunction levels ts f rest → always rest ≡ true → function_at levels ts ≡ Some (f, rest)
  function_complete _ _ _ (a_function name params vars body result ts declared inside behind rest dp dv db de) s =
      function_read name ts inside rest (params, vars) (body, result) (head_complete ts (params, vars) inside (a_head ts declared inside params vars dp dv) refl)
      (tail_complete name inside (body, result) rest (a_tail inside behind rest body result db de))

  function_shorter : (ts : List Token) (f : Function) (rest : List Token) → IsFunction levels ts f rest → length rest < length ts
  function_shorter _ _ _ (a_function name params vars body result ts declared inside behind rest dp dv db de) =
      let h = head_shorter ts (params, vars) inside (a_head ts declared inside params vars dp dv) in
      let g = tail_shorter name inside (body, result) rest (a_tail inside behind rest body result db de) in omega arith

  -- ---- items
  no_signal : {ts : List Token} {f : Function} {rest : List Token} → IsFunction levels ts f rest → sees m.Signal ts ≡ false
  unfolding same_mark
  no_signal (a_function name params vars body result ts declared inside behind rest dp dv db de) = refl

  item_sound : (ts : List Token) (p : Item × List Token) → item_at levels ts ≡ Some p → IsItem levels ts p.0 p.1
  unfolding item_at
  item_sound ts p e =
      elim (chosen (sees m.Signal ts) _ _ _ e) [
        | inl c ↦ let v = bind_some (var_at m.Signal ts) _ p c.1 in
            moved (λ q. IsItem levels ts q.0 q.1) _ p v.2 (a_signal ts v.0.1 v.0.0 ((var_exact m.Signal).sound ts v.0 v.1))
        | inr c ↦ let f = bind_some (function_at levels ts) _ p c.1 in
            moved (λ q. IsItem levels ts q.0 q.1) _ p f.2 (a_definition ts f.0.1 f.0.0 (function_sound ts f.0 f.1))
      ]

  signal_read : (ts rest : List Token) (v : Var) → sees m.Signal ts ≡ true → var_at m.Signal ts ≡ Some (v, rest) → item_at levels ts ≡ Some (i.Signal v, rest)
  unfolding item_at
  signal_read ts rest v s h = rw (s, h)

  definition_read : (ts rest : List Token) (f : Function) → sees m.Signal ts ≡ false → function_at levels ts ≡ Some (f, rest) → item_at levels ts ≡ Some (i.Function f, rest)
  unfolding item_at
  definition_read ts rest f s h = rw (s, h)

  item_complete : (ts : List Token) (x : Item) (rest : List Token) → IsItem levels ts x rest → always rest ≡ true → item_at levels ts ≡ Some (x, rest)
  item_complete _ _ _ (a_signal ts rest v d) s = signal_read ts rest v (var_begins m.Signal ts v rest d) ((var_exact m.Signal).complete ts v rest d refl)
  item_complete _ _ _ (a_definition ts rest f d) s = definition_read ts rest f (no_signal d) (function_complete ts f rest d refl)

  item_shorter : (ts : List Token) (x : Item) (rest : List Token) → IsItem levels ts x rest → length rest < length ts
  item_shorter _ _ _ (a_signal ts rest v d) = (var_exact m.Signal).shorter ts v rest d
  item_shorter _ _ _ (a_definition ts rest f d) = function_shorter ts f rest d

  function_begins : {ts : List Token} {f : Function} {rest : List Token} → IsFunction levels ts f rest → begins_item ts ≡ true
  unfolding same_mark
  function_begins (a_function name params vars body result ts declared inside behind rest dp dv db de) = refl

  item_begins : (ts : List Token) (x : Item) (rest : List Token) → IsItem levels ts x rest → begins_item ts ≡ true
  item_begins _ _ _ (a_signal ts rest v d) = ap (λ z. z || sees m.Function ts) (var_begins m.Signal ts v rest d)
  item_begins _ _ _ (a_definition ts rest f d) = function_begins d

  pub items_runs : Runs (items_at levels) (IsMany (IsItem levels)) (λ ts. not (begins_item ts))
  unfolding items_at
  items_runs = many_runs begins_item (item_at levels) (IsItem levels) (record { sound = item_sound; complete = item_complete; shorter = item_shorter }) item_begins
