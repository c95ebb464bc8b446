-- The canonical text of a design that can be spelled spells it.
use Rattle.std.proofs.Common.{◌≡◌, ℕ, zero, suc, ◌<◌, ◌^◌, List, [], ◌∷◌, ◌++◌, map, refl, sym, ap, subst, ◌∙◌, append_assoc, append-nil, arith}
use Rattle.vh_tree.specs.declared.token.Mark.{Mark}
use Rattle.vh_tree.specs.declared.token.Mark.TheVariants as m
use Rattle.vh_tree.specs.declared.token.Token.{Token}
use Rattle.vh_tree.specs.declared.token.Token.TheVariants as t
use Rattle.vh_tree.specs.declared.token.Side.TheVariants as side
use Rattle.vh_tree.specs.declared.function.Var.{Var}
use Rattle.vh_tree.specs.declared.function.Function.{Function}
use Rattle.vh_tree.specs.declared.process.Process.{Process}
use Rattle.vh_tree.specs.declared.design.Item.{Item}
use Rattle.vh_tree.specs.declared.design.Design.{Design}
use Rattle.vh_tree.specs.VToken.{name_token, marks, library_marks, entity_marks, outp_marks, architecture_marks, end_marks}
use Rattle.vh_tree.specs.Grammar as g
use Rattle.vh_tree.specs.Spelling.{IsSpelled}
use Rattle.vh_tree.specs.Canonical.{joined, separated, expr_tokens, stmts_tokens, vec_tokens, var_tokens, param_tokens, params_tokens, function_head, function_tail, function_end, item_tokens, names_tokens, process_tokens, head_tokens, design_tokens, canonical_text}
use Rattle.vh_tree.specs.Spellable as f
use Rattle.vh_tree_spelling.proofs.Texts.{IsToken, mark_token, AllTokens, spelled_text, spelled_allowed}
use Rattle.vh_tree_spelling.proofs.Again.{all_both, all_marks}
use Rattle.vh_tree_spelling.proofs.Made.{Made, separated_made, many_made, id_made, id_name, number_made, sensitive_spelled, exprs_made}
use Rattle.vh_tree_spelling.proofs.MadeStmts.{stmts_made}
use Rattle.vh_tree_spelling.proofs.AgainDesign.{vec_is, function_from, function_whole}
use Rattle.vh_tree_spelling.proofs.AgainWhole.{process_whole, design_whole}

-- ---- types and declarations
vec_at : (n : ℕ) → f.WidthFits n → (k : ℕ) × (n ≡ suc k) × (k < 2 ^ 31)
vec_at zero h = absurd (omega arith)
vec_at (suc k) h = (k, refl, omega arith)

vec_spells : (n : ℕ) (later : List Token) → f.WidthFits n → g.IsVec (vec_tokens n ++ later) n later
vec_spells n later h =
    let k = vec_at n h in
    subst (λ z. g.IsVec (vec_tokens z ++ later) z later) (sym k.1) (subst (λ z. g.IsVec (z ++ later) (suc k.0) later) (sym (vec_is k.0)) (g.a_vec k.0 later))

vec_all : (n : ℕ) → f.WidthFits n → AllTokens (vec_tokens n)
vec_all n h =
    let k = vec_at n h in
    subst (λ z. AllTokens (vec_tokens z)) (sym k.1)
    (subst AllTokens (sym (vec_is k.0)) (mark_token m.StdLogicVector, (mark_token m.Opens, (number_made k.0 k.2, (mark_token m.Downto, (number_made 0 (omega arith), (mark_token m.Closes, tt)))))))

named : (x : List ℕ) → f.IdFits x → IsToken (name_token x)
named x h = subst IsToken (id_name x h) (id_made x h)

module _ (keyword : Mark) where
  var_spells : (v : Var) (later : List Token) → f.VarFits v → g.IsVar keyword (var_tokens keyword v ++ later) v later
  var_spells v later h =
      subst (λ z. g.IsVar keyword ((t.Mark keyword ∷ z ∷ t.Mark m.Colon ∷ (vec_tokens v.width ++ t.Mark m.Semicolon ∷ [])) ++ later) v later) (id_name v.name h.name)
      (subst (λ z. g.IsVar keyword (t.Mark keyword ∷ t.Id v.name ∷ t.Mark m.Colon ∷ z) v later) (sym (append_assoc (vec_tokens v.width) (t.Mark m.Semicolon ∷ []) later))
      (g.a_var v.name v.width (vec_tokens v.width ++ t.Mark m.Semicolon ∷ later) later (vec_spells v.width (t.Mark m.Semicolon ∷ later) h.width)))

  var_all : (v : Var) → f.VarFits v → AllTokens (var_tokens keyword v)
  var_all v h =
      (mark_token keyword, (named v.name h.name, (mark_token m.Colon, all_both (vec_tokens v.width) (t.Mark m.Semicolon ∷ []) (vec_all v.width h.width) (mark_token m.Semicolon, tt))))

  var_made : Made f.VarFits (var_tokens keyword) (g.IsVar keyword)
  var_made = record { spells = var_spells; all = var_all }

vars_made : Made (f.Each f.VarFits) (λ (vs : List Var). joined (map (var_tokens m.Variable) vs)) (g.IsMany (g.IsVar m.Variable))
vars_made = many_made f.VarFits (var_tokens m.Variable) (g.IsVar m.Variable) (var_made m.Variable)

param_spells : (x : List ℕ) (later : List Token) → f.IdFits x → g.IsParam (param_tokens x ++ later) x later
param_spells x later h = subst (λ z. g.IsParam (z ∷ t.Mark m.Colon ∷ t.Mark m.StdLogicVector ∷ later) x later) (id_name x h) (g.a_param x later)

param_all : (x : List ℕ) → f.IdFits x → AllTokens (param_tokens x)
param_all x h = (named x h, (mark_token m.Colon, (mark_token m.StdLogicVector, tt)))

param_list : Made (f.OneOrMore f.IdFits) (λ (xs : List (List ℕ)). separated m.Semicolon (map param_tokens xs)) (g.IsSeparated m.Semicolon g.IsParam)
param_list = separated_made f.IdFits param_tokens g.IsParam (record { spells = param_spells; all = param_all }) m.Semicolon

params_spells : (xs : List (List ℕ)) (later : List Token) → f.Each f.IdFits xs → g.IsParams (params_tokens xs ++ later) xs later
params_spells [] later h = g.no_params later
params_spells (x ∷ xs) later h =
    let list = separated m.Semicolon (map param_tokens (x ∷ xs)) in
    subst (λ z. g.IsParams (t.Mark m.Opens ∷ z) (x ∷ xs) later) (sym (append_assoc list (t.Mark m.Closes ∷ []) later))
    (g.some_params (list ++ t.Mark m.Closes ∷ later) later (x ∷ xs) (param_list.spells (x ∷ xs) (t.Mark m.Closes ∷ later) (omega arith, h)))

params_all : (xs : List (List ℕ)) → f.Each f.IdFits xs → AllTokens (params_tokens xs)
params_all [] h = tt
params_all (x ∷ xs) h =
    (mark_token m.Opens, all_both (separated m.Semicolon (map param_tokens (x ∷ xs))) (t.Mark m.Closes ∷ []) (param_list.all (x ∷ xs) (omega arith, h)) (mark_token m.Closes, tt))

module _ (levels : ℕ) where
  -- ---- functions and items
  function_spells : (d : Function) (later : List Token) → f.FunctionFits levels d → g.IsFunction levels ((function_head d ++ function_tail d) ++ later) d later
  function_spells d later h =
      let body_made = stmts_made side.Function levels in
      let result_made = exprs_made levels in
      let p = params_tokens d.params in
      let v = joined (map (var_tokens m.Variable) d.vars) in
      let b = stmts_tokens side.Function d.body in
      let e = expr_tokens d.result in
      let last = t.Mark m.Semicolon ∷ t.Mark m.End ∷ t.Id d.name ∷ t.Mark m.Semicolon ∷ later in
      subst (λ z. g.IsFunction levels z d later) (ap (λ x. function_from x p v b e later) (id_name d.name h.name) ∙ sym (function_whole (name_token d.name) p v b e later))
      (g.a_function d.name d.params d.vars d.body d.result
      (p ++ t.Mark m.Return ∷ t.Mark m.StdLogicVector ∷ t.Mark m.Is ∷ (v ++ t.Mark m.Begin ∷ (b ++ t.Mark m.Return ∷ (e ++ last))))
      (v ++ t.Mark m.Begin ∷ (b ++ t.Mark m.Return ∷ (e ++ last))) (b ++ t.Mark m.Return ∷ (e ++ last)) (e ++ last) later
      (params_spells d.params (t.Mark m.Return ∷ t.Mark m.StdLogicVector ∷ t.Mark m.Is ∷ (v ++ t.Mark m.Begin ∷ (b ++ t.Mark m.Return ∷ (e ++ last)))) h.params)
      (vars_made.spells d.vars (t.Mark m.Begin ∷ (b ++ t.Mark m.Return ∷ (e ++ last))) h.vars)
      (body_made.spells d.body (t.Mark m.Return ∷ (e ++ last)) h.body)
      (result_made.spells d.result last h.result))

  function_all : (d : Function) → f.FunctionFits levels d → AllTokens (function_head d ++ function_tail d)
  function_all d h =
      let body_made = stmts_made side.Function levels in
      let result_made = exprs_made levels in
      all_both (function_head d) (function_tail d) (
        mark_token m.Function,
        (
          named d.name h.name,
          all_both (params_tokens d.params) _ (params_all d.params h.params)
              (mark_token m.Return, (mark_token m.StdLogicVector, (mark_token m.Is, vars_made.all d.vars h.vars))),
        ),
      ) (
        mark_token m.Begin,
        all_both (stmts_tokens side.Function d.body) _ (body_made.all d.body h.body) (
          mark_token m.Return,
          all_both (expr_tokens d.result) (function_end d.name) (result_made.all d.result h.result)
              (mark_token m.Semicolon, (mark_token m.End, (named d.name h.name, (mark_token m.Semicolon, tt)))),
        ),
      )

  item_spells : (x : Item) (later : List Token) → f.ItemFits levels x → g.IsItem levels (item_tokens x ++ later) x later
  item_spells _ later (f.ItemFits.a_signal v h) = g.a_signal (var_tokens m.Signal v ++ later) later v (var_spells m.Signal v later h)
  item_spells _ later (f.ItemFits.a_function d h) = g.a_definition ((function_head d ++ function_tail d) ++ later) later d (function_spells d later h)

  item_all : (x : Item) → f.ItemFits levels x → AllTokens (item_tokens x)
  item_all _ (f.ItemFits.a_signal v h) = var_all m.Signal v h
  item_all _ (f.ItemFits.a_function d h) = function_all d h

  items_made : Made (f.Each (f.ItemFits levels)) (λ (xs : List Item). joined (map item_tokens xs)) (g.IsMany (g.IsItem levels))
  items_made = many_made (f.ItemFits levels) item_tokens (g.IsItem levels) (record { spells = item_spells; all = item_all })

-- ---- processes
sensitive_spells : (x : List ℕ) (later : List Token) → f.SensitiveFits x → g.IsSensitive (name_token x ∷ [] ++ later) x later
sensitive_spells x later h = g.a_sensitive (name_token x) x later (sensitive_spelled x h).0

sensitive_all : (x : List ℕ) → f.SensitiveFits x → AllTokens (name_token x ∷ [])
sensitive_all x h = ((sensitive_spelled x h).1, tt)

names_made : Made (f.OneOrMore f.SensitiveFits) names_tokens (g.IsSeparated m.Comma g.IsSensitive)
names_made =
    let all = separated_made f.SensitiveFits (λ (x : List ℕ). name_token x ∷ []) g.IsSensitive (record { spells = sensitive_spells; all = sensitive_all }) m.Comma in
    record { spells = all.spells; all = all.all }

module _ (levels : ℕ) where
  process_spells : (p : Process) (later : List Token) → f.ProcessFits levels p → g.IsProcess levels (process_tokens p ++ later) p later
  process_spells p later h =
      let body_made = stmts_made side.Process levels in
      let n = names_tokens p.sensitive in
      let b = stmts_tokens side.Process p.body in
      let last = t.Mark m.End ∷ t.Mark m.Process ∷ t.Mark m.Semicolon ∷ later in
      subst (λ z. g.IsProcess levels z p later) (sym (process_whole n b later))
      (g.a_process p.sensitive p.body (n ++ t.Mark m.Closes ∷ t.Mark m.Begin ∷ (b ++ last)) (b ++ last) later
      (names_made.spells p.sensitive (t.Mark m.Closes ∷ t.Mark m.Begin ∷ (b ++ last)) h.sensitive) (body_made.spells p.body last h.body))

  process_all : (p : Process) → f.ProcessFits levels p → AllTokens (process_tokens p)
  process_all p h =
      let body_made = stmts_made side.Process levels in (
        mark_token m.Process,
        (
          mark_token m.Opens,
          all_both (names_tokens p.sensitive) _ (names_made.all p.sensitive h.sensitive) (
            mark_token m.Closes,
            (
              mark_token m.Begin,
              all_both (stmts_tokens side.Process p.body) _ (body_made.all p.body h.body)
                  (mark_token m.End, (mark_token m.Process, (mark_token m.Semicolon, tt))),
            ),
          ),
        ),
      )

  processes_made : Made (f.Each (f.ProcessFits levels)) (λ (ps : List Process). joined (map process_tokens ps)) (g.IsMany (g.IsProcess levels))
  processes_made = many_made (f.ProcessFits levels) process_tokens (g.IsProcess levels) (record { spells = process_spells; all = process_all })

-- ---- the whole
design_spells : (d : Design) (later : List Token) → f.IsSpellable d → g.IsDesign g.max_levels (design_tokens d ++ later) d later
unfolding head_tokens
design_spells d later h =
    let x = joined (map item_tokens d.items) in
    let p = joined (map process_tokens d.processes) in
    let behind = p ++ (marks end_marks ++ later) in
    let inner = x ++ t.Mark m.Begin ∷ behind in
    let second = vec_tokens d.outp ++ (marks architecture_marks ++ inner) in
    let first = vec_tokens d.inp ++ (marks outp_marks ++ second) in
    subst (λ z. g.IsDesign g.max_levels z d later)
    (sym (design_whole (marks library_marks) (marks entity_marks) (vec_tokens d.inp) (marks outp_marks) (vec_tokens d.outp) (marks architecture_marks) x p (marks end_marks) later))
    (g.a_design d.inp d.outp d.items d.processes first second inner behind later (vec_spells d.inp (marks outp_marks ++ second) h.inp) (vec_spells d.outp (marks architecture_marks ++ inner) h.outp)
    ((items_made g.max_levels).spells d.items (t.Mark m.Begin ∷ behind) h.items) ((processes_made g.max_levels).spells d.processes (marks end_marks ++ later) h.processes))

head_all : (inp outp : ℕ) → f.WidthFits inp → f.WidthFits outp → AllTokens (head_tokens inp outp)
unfolding head_tokens
head_all inp outp h k =
    all_both (marks library_marks) _ (all_marks library_marks)
    (all_both (marks entity_marks) _ (all_marks entity_marks)
    (all_both (vec_tokens inp) _ (vec_all inp h) (all_both (marks outp_marks) _ (all_marks outp_marks) (all_both (vec_tokens outp) (marks architecture_marks) (vec_all outp k) (all_marks architecture_marks)))))

design_all : (d : Design) → f.IsSpellable d → AllTokens (design_tokens d)
design_all d h =
    all_both (head_tokens d.inp d.outp) _ (head_all d.inp d.outp h.inp h.outp)
    (all_both (joined (map item_tokens d.items)) _ ((items_made g.max_levels).all d.items h.items)
    (mark_token m.Begin, all_both (joined (map process_tokens d.processes)) (marks end_marks) ((processes_made g.max_levels).all d.processes h.processes) (all_marks end_marks)))

-- the canonical text of a design that can be spelled spells it
pub canonical_spelled : (d : Design) → f.IsSpellable d → IsSpelled (canonical_text d) d
canonical_spelled d h =
    let all = design_all d h in
    record {
      allowed = spelled_allowed (design_tokens d) all;
      tokens = design_tokens d;
      text = spelled_text (design_tokens d) all;
      tree = subst (λ z. g.IsDesign g.max_levels z d []) (append-nil (design_tokens d)) (design_spells d [] h);
    }
