-- The canonical tokens of declarations, processes and a whole design spell them.
use Rattle.std.proofs.Common.{◌≡◌, ℕ, suc, ◌-◌, List, [], ◌∷◌, ◌++◌, map, refl, sym, ap, subst, ◌∙◌, append_assoc, arith}
use Rattle.vh_tree.specs.declared.token.Mark.{Mark}
use Rattle.vh_tree.specs.declared.token.Mark.TheVariants as m
use Rattle.vh_tree.specs.declared.token.Token.{Token}
use Rattle.vh_tree.specs.declared.token.Token.TheVariants as t
use Rattle.vh_tree.specs.declared.token.Side.TheVariants as side
use Rattle.vh_tree.specs.declared.function.Var.{Var}
use Rattle.vh_tree.specs.declared.function.Function.{Function}
use Rattle.vh_tree.specs.declared.design.Item.{Item}
use Rattle.vh_tree.specs.VToken.{name_token}
use Rattle.vh_tree.specs.Grammar.{IsSeparated, the_last, and_more, IsMany, IsVec, a_vec, IsVar, a_var, IsParam, a_param, IsParams, no_params, some_params, IsFunction, a_function, IsItem, a_signal, a_definition}
use Rattle.vh_tree.specs.Canonical.{joined, separated, range_tokens, expr_tokens, stmts_tokens, vec_tokens, var_tokens, param_tokens, params_tokens, function_head, function_tail, function_end, item_tokens}
use Rattle.vh_tree_spelling.proofs.Texts.{IsToken, mark_token, AllTokens}
use Rattle.vh_tree_spelling.proofs.Names.{id_is}
use Rattle.vh_tree_spelling.proofs.Again.{Again, all_both, separated_again, many_again}
use Rattle.vh_tree_spelling.proofs.AgainExprs.{exprs_again}
use Rattle.vh_tree_spelling.proofs.AgainStmts.{stmts_again}

-- ---- types and declarations
before_suc : (n : ℕ) → suc n - 1 ≡ n
before_suc n = omega arith

pub vec_is : (n : ℕ) → vec_tokens (suc n) ≡ t.Mark m.StdLogicVector ∷ range_tokens n 0
unfolding vec_tokens
vec_is n = ap (λ z. t.Mark m.StdLogicVector ∷ range_tokens z 0) (before_suc n)

vec_once : (ts : List Token) (width : ℕ) (rest later : List Token) → AllTokens ts → IsVec ts width rest → IsVec (vec_tokens width ++ later) width later
vec_once _ _ _ later h (a_vec n rest) = subst (λ z. IsVec (z ++ later) (suc n) later) (sym (vec_is n)) (a_vec n later)

vec_front : (ts : List Token) (width : ℕ) (rest : List Token) → AllTokens ts → IsVec ts width rest → AllTokens (vec_tokens width)
vec_front _ _ _ h (a_vec n rest) =
    subst AllTokens (sym (vec_is n)) (mark_token m.StdLogicVector, (mark_token m.Opens, (h.1.1.0, (mark_token m.Downto, (h.1.1.1.1.0, (mark_token m.Closes, tt))))))

vec_behind : (ts : List Token) (width : ℕ) (rest : List Token) → AllTokens ts → IsVec ts width rest → AllTokens rest
vec_behind _ _ _ h (a_vec n rest) = h.1.1.1.1.1.1

pub vec_again : Again vec_tokens IsVec
vec_again = record { again = vec_once; front = vec_front; behind = vec_behind }

module _ (keyword : Mark) where
  var_named : (x : Token) (name : List ℕ) (width : ℕ) → x ≡ name_token name → t.Mark keyword ∷ x ∷ t.Mark m.Colon ∷ (vec_tokens width ++ t.Mark m.Semicolon ∷ []) ≡ var_tokens keyword (record { name = name; width = width })
  var_named x name width e = ap (λ z. t.Mark keyword ∷ z ∷ t.Mark m.Colon ∷ (vec_tokens width ++ t.Mark m.Semicolon ∷ [])) e

  var_once : (ts : List Token) (v : Var) (rest later : List Token) → AllTokens ts → IsVar keyword ts v rest → IsVar keyword (var_tokens keyword v ++ later) v later
  var_once _ _ _ later h (a_var name width ts rest d) =
      subst (λ z. IsVar keyword (z ++ later) (record { name = name; width = width }) later) (var_named (t.Id name) name width (id_is name h.1.0))
      (subst (λ z. IsVar keyword (t.Mark keyword ∷ t.Id name ∷ t.Mark m.Colon ∷ z) (record { name = name; width = width }) later) (sym (append_assoc (vec_tokens width) (t.Mark m.Semicolon ∷ []) later))
      (a_var name width (vec_tokens width ++ t.Mark m.Semicolon ∷ later) later (vec_again.again ts width (t.Mark m.Semicolon ∷ rest) (t.Mark m.Semicolon ∷ later) h.1.1.1 d)))

  var_front : (ts : List Token) (v : Var) (rest : List Token) → AllTokens ts → IsVar keyword ts v rest → AllTokens (var_tokens keyword v)
  var_front _ _ _ h (a_var name width ts rest d) =
      subst AllTokens (var_named (t.Id name) name width (id_is name h.1.0))
      (h.0, (h.1.0, (mark_token m.Colon, all_both (vec_tokens width) (t.Mark m.Semicolon ∷ []) (vec_again.front ts width (t.Mark m.Semicolon ∷ rest) h.1.1.1 d) (mark_token m.Semicolon, tt))))

  var_behind : (ts : List Token) (v : Var) (rest : List Token) → AllTokens ts → IsVar keyword ts v rest → AllTokens rest
  var_behind _ _ _ h (a_var name width ts rest d) = let k = vec_again.behind ts width (t.Mark m.Semicolon ∷ rest) h.1.1.1 d in k.1

  pub var_again : Again (var_tokens keyword) (IsVar keyword)
  var_again = record { again = var_once; front = var_front; behind = var_behind }

param_once : (ts : List Token) (x : List ℕ) (rest later : List Token) → AllTokens ts → IsParam ts x rest → IsParam (param_tokens x ++ later) x later
param_once _ _ _ later h (a_param name rest) = subst (λ z. IsParam (z ∷ t.Mark m.Colon ∷ t.Mark m.StdLogicVector ∷ later) name later) (id_is name h.0) (a_param name later)

param_front : (ts : List Token) (x : List ℕ) (rest : List Token) → AllTokens ts → IsParam ts x rest → AllTokens (param_tokens x)
param_front _ _ _ h (a_param name rest) = (subst IsToken (id_is name h.0) h.0, (mark_token m.Colon, (mark_token m.StdLogicVector, tt)))

pub param_behind : (ts : List Token) (x : List ℕ) (rest : List Token) → AllTokens ts → IsParam ts x rest → AllTokens rest
param_behind _ _ _ h (a_param name rest) = h.1.1.1

param_list : Again (λ (xs : List (List ℕ)). separated m.Semicolon (map param_tokens xs)) (IsSeparated m.Semicolon IsParam)
param_list = separated_again param_tokens m.Semicolon IsParam (record { again = param_once; front = param_front; behind = param_behind })

params_written : {ts : List Token} {xs : List (List ℕ)} {rest : List Token} → IsSeparated m.Semicolon IsParam ts xs rest
    → params_tokens xs ≡ t.Mark m.Opens ∷ (separated m.Semicolon (map param_tokens xs) ++ t.Mark m.Closes ∷ [])
params_written (the_last ts rest a d) = refl
params_written (and_more ts mid rest a others d ds) = refl

params_once : (ts : List Token) (xs : List (List ℕ)) (rest later : List Token) → AllTokens ts → IsParams ts xs rest → IsParams (params_tokens xs ++ later) xs later
params_once _ _ _ later h (no_params ts) = no_params later
params_once _ _ _ later h (some_params ts rest names d) =
    let list = separated m.Semicolon (map param_tokens names) in
    subst (λ z. IsParams (z ++ later) names later) (sym (params_written d))
    (subst (λ z. IsParams (t.Mark m.Opens ∷ z) names later) (sym (append_assoc list (t.Mark m.Closes ∷ []) later))
    (some_params (list ++ t.Mark m.Closes ∷ later) later names (param_list.again ts names (t.Mark m.Closes ∷ rest) (t.Mark m.Closes ∷ later) h.1 d)))

params_front : (ts : List Token) (xs : List (List ℕ)) (rest : List Token) → AllTokens ts → IsParams ts xs rest → AllTokens (params_tokens xs)
params_front _ _ _ h (no_params ts) = tt
params_front _ _ _ h (some_params ts rest names d) =
    subst AllTokens (sym (params_written d))
    (mark_token m.Opens, all_both (separated m.Semicolon (map param_tokens names)) (t.Mark m.Closes ∷ []) (param_list.front ts names (t.Mark m.Closes ∷ rest) h.1 d) (mark_token m.Closes, tt))

params_behind : (ts : List Token) (xs : List (List ℕ)) (rest : List Token) → AllTokens ts → IsParams ts xs rest → AllTokens rest
params_behind _ _ _ h (no_params ts) = h
params_behind _ _ _ h (some_params ts rest names d) = let k = param_list.behind ts names (t.Mark m.Closes ∷ rest) h.1 d in k.1

pub params_again : Again params_tokens IsParams
params_again = record { again = params_once; front = params_front; behind = params_behind }

pub vars_again : Again (λ (vs : List Var). joined (map (var_tokens m.Variable) vs)) (IsMany (IsVar m.Variable))
vars_again = let all = many_again (var_tokens m.Variable) (IsVar m.Variable) (var_again m.Variable) in record { again = all.again; front = all.front; behind = all.behind }

-- ---- functions
abbrev pub function_from : Token → List Token → List Token → List Token → List Token → List Token → List Token
function_from x p v b e later =
    t.Mark m.Function ∷ x ∷ (p ++ t.Mark m.Return ∷ t.Mark m.StdLogicVector ∷ t.Mark m.Is ∷ (v ++ t.Mark m.Begin ∷ (b ++ t.Mark m.Return ∷ (e ++ t.Mark m.Semicolon ∷ t.Mark m.End ∷ x ∷ t.Mark m.Semicolon ∷ later))))

pub function_whole : (x : Token) (p v b e later : List Token)
    → ((t.Mark m.Function ∷ x ∷ (p ++ t.Mark m.Return ∷ t.Mark m.StdLogicVector ∷ t.Mark m.Is ∷ v))
    ++ (t.Mark m.Begin ∷ (b ++ t.Mark m.Return ∷ (e ++ t.Mark m.Semicolon ∷ t.Mark m.End ∷ x ∷ t.Mark m.Semicolon ∷ [])))) ++ later ≡ function_from x p v b e later
function_whole x p v b e later = simp append_assoc

module _ (levels : ℕ) where
  function_once : (ts : List Token) (f : Function) (rest later : List Token) → AllTokens ts → IsFunction levels ts f rest → IsFunction levels ((function_head f ++ function_tail f) ++ later) f later
  function_once _ _ _ later h (a_function name params vars body result ts inner inside behind rest dp dv db de) =
      let body_again = stmts_again side.Function levels in
      let result_again = exprs_again levels in
      let hv = params_again.behind ts params _ h.1.1 dp in
      let hb = vars_again.behind inner vars (t.Mark m.Begin ∷ inside) hv.1.1.1 dv in
      let he = body_again.behind inside body (t.Mark m.Return ∷ behind) hb.1 db in
      let p = params_tokens params in
      let v = joined (map (var_tokens m.Variable) vars) in
      let b = stmts_tokens side.Function body in
      let e = expr_tokens result in
      let last = t.Mark m.Semicolon ∷ t.Mark m.End ∷ t.Id name ∷ t.Mark m.Semicolon ∷ later in
      let f : Function = record { name = name; params = params; vars = vars; body = body; result = result } in
      subst (λ z. IsFunction levels z f later) (ap (λ x. function_from x p v b e later) (id_is name h.1.0) ∙ sym (function_whole (name_token name) p v b e later))
      (a_function name params vars body result
      (p ++ t.Mark m.Return ∷ t.Mark m.StdLogicVector ∷ t.Mark m.Is ∷ (v ++ t.Mark m.Begin ∷ (b ++ t.Mark m.Return ∷ (e ++ last))))
      (v ++ t.Mark m.Begin ∷ (b ++ t.Mark m.Return ∷ (e ++ last))) (b ++ t.Mark m.Return ∷ (e ++ last)) (e ++ last) later
      (params_again.again ts params _ (t.Mark m.Return ∷ t.Mark m.StdLogicVector ∷ t.Mark m.Is ∷ (v ++ t.Mark m.Begin ∷ (b ++ t.Mark m.Return ∷ (e ++ last)))) h.1.1 dp)
      (vars_again.again inner vars (t.Mark m.Begin ∷ inside) (t.Mark m.Begin ∷ (b ++ t.Mark m.Return ∷ (e ++ last))) hv.1.1.1 dv)
      (body_again.again inside body (t.Mark m.Return ∷ behind) (t.Mark m.Return ∷ (e ++ last)) hb.1 db)
      (result_again.again behind result (t.Mark m.Semicolon ∷ t.Mark m.End ∷ t.Id name ∷ t.Mark m.Semicolon ∷ rest) last he.1 de))

  function_front : (ts : List Token) (f : Function) (rest : List Token) → AllTokens ts → IsFunction levels ts f rest → AllTokens (function_head f ++ function_tail f)
  function_front _ _ _ h (a_function name params vars body result ts inner inside behind rest dp dv db de) =
      let body_again = stmts_again side.Function levels in
      let result_again = exprs_again levels in
      let hv = params_again.behind ts params _ h.1.1 dp in
      let hb = vars_again.behind inner vars (t.Mark m.Begin ∷ inside) hv.1.1.1 dv in
      let he = body_again.behind inside body (t.Mark m.Return ∷ behind) hb.1 db in
      let named = subst IsToken (id_is name h.1.0) h.1.0 in
      let f : Function = record { name = name; params = params; vars = vars; body = body; result = result } in
      all_both (function_head f) (function_tail f) (
        mark_token m.Function,
        (
          named,
          all_both (params_tokens params) _ (params_again.front ts params _ h.1.1 dp)
              (mark_token m.Return, (mark_token m.StdLogicVector, (mark_token m.Is, vars_again.front inner vars (t.Mark m.Begin ∷ inside) hv.1.1.1 dv))),
        ),
      ) (
        mark_token m.Begin,
        all_both (stmts_tokens side.Function body) _ (body_again.front inside body (t.Mark m.Return ∷ behind) hb.1 db) (
          mark_token m.Return,
          all_both (expr_tokens result) (function_end name) (result_again.front behind result _ he.1 de)
              (mark_token m.Semicolon, (mark_token m.End, (named, (mark_token m.Semicolon, tt)))),
        ),
      )

  function_behind : (ts : List Token) (f : Function) (rest : List Token) → AllTokens ts → IsFunction levels ts f rest → AllTokens rest
  function_behind _ _ _ h (a_function name params vars body result ts inner inside behind rest dp dv db de) =
      let body_again = stmts_again side.Function levels in
      let result_again = exprs_again levels in
      let hv = params_again.behind ts params _ h.1.1 dp in
      let hb = vars_again.behind inner vars (t.Mark m.Begin ∷ inside) hv.1.1.1 dv in
      let he = body_again.behind inside body (t.Mark m.Return ∷ behind) hb.1 db in
      let k = result_again.behind behind result (t.Mark m.Semicolon ∷ t.Mark m.End ∷ t.Id name ∷ t.Mark m.Semicolon ∷ rest) he.1 de in
      k.1.1.1.1

  -- ---- items
  item_once : (ts : List Token) (x : Item) (rest later : List Token) → AllTokens ts → IsItem levels ts x rest → IsItem levels (item_tokens x ++ later) x later
  item_once _ _ _ later h (a_signal ts rest v d) = a_signal (var_tokens m.Signal v ++ later) later v (var_once m.Signal ts v rest later h d)
  item_once _ _ _ later h (a_definition ts rest f d) = a_definition ((function_head f ++ function_tail f) ++ later) later f (function_once ts f rest later h d)

  item_front : (ts : List Token) (x : Item) (rest : List Token) → AllTokens ts → IsItem levels ts x rest → AllTokens (item_tokens x)
  item_front _ _ _ h (a_signal ts rest v d) = var_front m.Signal ts v rest h d
  item_front _ _ _ h (a_definition ts rest f d) = function_front ts f rest h d

  item_behind : (ts : List Token) (x : Item) (rest : List Token) → AllTokens ts → IsItem levels ts x rest → AllTokens rest
  item_behind _ _ _ h (a_signal ts rest v d) = var_behind m.Signal ts v rest h d
  item_behind _ _ _ h (a_definition ts rest f d) = function_behind ts f rest h d

  pub item_again : Again item_tokens (IsItem levels)
  item_again = record { again = item_once; front = item_front; behind = item_behind }
