-- A typed expression flattens to one term at most.
use Rattle.std.proofs.Common.{◌≡◌, ℕ, ◌+◌, Bool, true, false, List, Option, refl, arith, sym, ◌∙◌, subst}
use mathlib.Core.Path.{subst₂, subst₃}
use Rattle.rw_scope_rules.specs.declared.binding.Binding.{Binding}
use Rattle.rw_scope_rules.specs.declared.binding.Bound.{Bound}
use Rattle.rw_scope_rules.specs.Nodes.{bindings_of}
use Rattle.rw_scope_orders.specs.Groups.{Numbered}
use Rattle.rw_tree.specs.Patterns.{Pattern, Patterns}
use Rattle.rw_tree.specs.Trees.{Expression, do_block, Alternatives, RightSide, GuardedBodies, LocalBindings}
use Rattle.rw_tree.specs.Declarations.{Declaration}
use Rattle.rw_types_solving.specs.Types.{Ty}
use Rattle.rw_types_rules.specs.TypedTrees.{TypedNode}
use Rattle.rw_core_flat.specs.Terms.{FlatPattern, FlatPatterns, FlatTerm, FlatTerms, FlatLets, FlatRows, FlatArms}
use Rattle.inline_ho_rules.specs.Orders.{is_data, is_low}
use Rattle.inline_ho_rules.specs.Meants.{Meant, Meants, no_meants, joined_meants, placed_all, flats, Columns}
use Rattle.inline_ho_rules.specs.Meants.{IsPattern, is_any, is_variable, is_built, is_tuple, ArePatterns, none_are, more_are, AreColumns, none_in, matched_in, named_in, ignored_in, AreMatched, none_matched, flat_matched, other_matched, AreVariables, none_variable, more_variable}
use Rattle.inline_ho_rules.specs.TypedFlattening.{typed_binding, is_datum, are_variables, order_of, first_name, unplaced_names}
use Rattle.inline_ho_rules.specs.TypedFlattening.{IsTypedFlat, is_variable as is_name, is_constructor, is_application, is_tuple_of, is_lambda, is_let, is_case, is_if, is_last, is_run, is_bound, is_let_then, IsNamed, is_local, is_called, is_inlined, is_return, is_signal, is_put, is_get, is_lift, is_bind, is_then, is_extrude, IsLocal, is_flat, is_argument, is_used, IsDatum, suspended_datum, flat_datum, AreData, no_data, more_data, IsLambda, lambda_body, lambda_named, lambda_matched, IsInlined, is_group, AreParams, no_params, data_param, function_param, IsBody, plain_body, rows_body, AreRows, none_rows, some_rows, AreArms, one_arm, guarded_arms, AreGuarded, none_guarded, some_guarded, IsPlaced, all_placed, signature_placed, data_placed, use_placed, pattern_placed}

pub clash : (x : Bool) → x ≡ true → x ≡ false → ⊥
clash true e f = grind arith
clash false e f = grind arith

mutual
  pattern_once : {p : Pattern TypedNode} {q q' : FlatPattern} {n n' : ℕ} → IsPattern typed_binding p q n → IsPattern typed_binding p q' n' → (q ≡ q') × (n ≡ n')
  pattern_once is_any is_any = (refl, refl)
  pattern_once is_variable is_variable = (refl, refl)
  pattern_once (is_built e f) (is_built e' g) = let r = patterns_once f g in let s = r.0 in (cc, r.1)
  pattern_once (is_tuple f) (is_tuple g) = let r = patterns_once f g in let s = r.0 in (cc, r.1)

  patterns_once : {p : Patterns TypedNode} {q q' : FlatPatterns} {n n' : ℕ} → ArePatterns typed_binding p q n → ArePatterns typed_binding p q' n' → (q ≡ q') × (n ≡ n')
  patterns_once none_are none_are = (refl, refl)
  patterns_once (more_are p ps e) (more_are p' ps' e') =
      let r = pattern_once p p' in let s = patterns_once ps ps' in let r0 = r.0 in let r1 = r.1 in let s0 = s.0 in let s1 = s.1 in (cc, cc)

columns_once : {d : ℕ} {cols : Columns TypedNode} {ps : List (Pattern TypedNode)} {qs qs' : FlatPatterns} {ms ms' : Meants TypedNode} {e e' : ℕ} → AreColumns typed_binding d cols ps qs ms e → AreColumns typed_binding d cols ps qs' ms' e' → (qs ≡ qs') × (ms ≡ ms') × (e ≡ e')
columns_once none_in none_in = (refl, refl, refl)
columns_once (matched_in {d = d} {n = n} {cols = cols} {ps = ps} {ms = ms} p f) (matched_in {n = n'} {e = e'} {qs = qs'} {ms = ms'} p' g) =
    let r = pattern_once p p' in let r0 = r.0 in let r1 = r.1 in
    let s = columns_once f (subst (λ z. AreColumns typed_binding (z + d) cols ps qs' ms' e') (sym r1) g) in let s0 = s.0 in let s1 = s.1 in (cc, cc, s.2)
columns_once (named_in f) (named_in g) = let s = columns_once f g in let s1 = s.1 in (s.0, cc, s.2)
columns_once (ignored_in f) (ignored_in g) = columns_once f g

matched_once : {ms : Meants TypedNode} {cols cols' : Columns TypedNode} {ts ts' : FlatTerms} → AreMatched ms cols ts → AreMatched ms cols' ts' → (cols ≡ cols') × (ts ≡ ts')
matched_once none_matched none_matched = (refl, refl)
matched_once (flat_matched f) (flat_matched g) = let s = matched_once f g in let s0 = s.0 in let s1 = s.1 in (cc, cc)
matched_once (other_matched f) (other_matched g) = let s = matched_once f g in let s0 = s.0 in let s1 = s.1 in (cc, s1)

all_variables : {ps : List (Pattern TypedNode)} {ms : Meants TypedNode} → AreVariables ps ms → are_variables ps ≡ true
all_variables none_variable = refl
all_variables (more_variable f) = all_variables f

module _ (program : List (Declaration Bound)) (function_of : ℕ → List Ty → Option ℕ) (clauses_of : ℕ → List Ty → Option (Alternatives TypedNode)) (number_of : Ty → Option ℕ) where
  mutual
    pub flat_once : {d : ℕ} {E args : Meants TypedNode} {e : Expression TypedNode} {t u : FlatTerm} → IsTypedFlat program function_of clauses_of number_of d E e args t → IsTypedFlat program function_of clauses_of number_of d E e args u → t ≡ u
    flat_once (is_name {d = d} {E = E} {args = args} {a = a} e f) (is_name {t = u} e' g) = named_once f (subst (λ z. IsNamed program function_of clauses_of number_of d E a z args u) (sym e' ∙ e) g)
    flat_once (is_constructor e n c f) (is_constructor e' n' c' g) = let r = data_once f g in cc
    flat_once (is_application f) (is_application g) = flat_once f g
    flat_once (is_tuple_of n f) (is_tuple_of n' g) = let r = data_once f g in cc
    flat_once (is_lambda f) (is_lambda g) = lambda_once f g
    flat_once (is_let {E = E} {args = args} {body = body} f k) (is_let {t = u} g l) =
        let r = placed_once f g in let r0 = r.0 in let s = flat_once k (subst₂ (λ z w. IsTypedFlat program function_of clauses_of number_of z (joined_meants E w) body args u) (sym r.1) (sym r.2) l) in cc
    flat_once (is_case f k) (is_case g l) = let r = flat_once f g in let s = rows_once k l in cc
    flat_once (is_if f k m) (is_if g l n) = let r = flat_once f g in let s = flat_once k l in let t = flat_once m n in cc
    flat_once (is_last f) (is_last g) = flat_once f g
    flat_once (is_run f k) (is_run g l) = let r = flat_once f g in let s = flat_once k l in cc
    flat_once (is_bound f k) (is_bound g l) = let r = flat_once f g in let s = lambda_once k l in cc
    flat_once (is_let_then {E = E} {args = args} {a = a} {ss = ss} f k) (is_let_then {t = u} g l) =
        let r = placed_once f g in let r0 = r.0 in let s = flat_once k (subst₂ (λ z w. IsTypedFlat program function_of clauses_of number_of z (joined_meants E w) (do_block a ss) args u) (sym r.1) (sym r.2) l) in cc

    named_once : {d : ℕ} {E args : Meants TypedNode} {a : TypedNode} {b : Option Binding} {t u : FlatTerm} → IsNamed program function_of clauses_of number_of d E a b args t → IsNamed program function_of clauses_of number_of d E a b args u → t ≡ u
    named_once (is_local {d = d} {args = args} e f) (is_local {t = u} e' g) = local_once f (subst (λ z. IsLocal program function_of clauses_of number_of d z args u) (sym e' ∙ e) g)
    named_once (is_called e i c f) (is_called e' i' c' g) = let r = data_once f g in cc
    named_once (is_called {a = a} e i c f) (is_inlined e' i' g) = absurd (clash (is_low a.type) e e')
    named_once (is_inlined {a = a} e i f) (is_called e' i' c' g) = absurd (clash (is_low a.type) e' e)
    named_once (is_inlined {d = d} {args = args} {cs = cs} e i f) (is_inlined {cs = cs'} {t = u} e' i' g) =
        let w : cs' ≡ cs = cc in let r = inlined_once f (subst (λ z. IsInlined program function_of clauses_of number_of d no_meants z args u) w g) in cc
    named_once (is_return f) (is_return g) = let r = datum_once f g in cc
    named_once (is_signal f) (is_signal g) = let r = datum_once f g in cc
    named_once (is_put f) (is_put g) = let r = datum_once f g in cc
    named_once is_get is_get = refl
    named_once (is_lift f) (is_lift g) = let r = flat_once f g in cc
    named_once (is_bind f k) (is_bind g l) = let r = flat_once f g in let s = flat_once k l in cc
    named_once (is_then f k) (is_then g l) = let r = flat_once f g in let s = flat_once k l in cc
    named_once (is_extrude f k) (is_extrude g l) = let r = flat_once f g in let s = datum_once k l in cc

    local_once : {d : ℕ} {args : Meants TypedNode} {m : Option (Meant TypedNode)} {t u : FlatTerm} → IsLocal program function_of clauses_of number_of d m args t → IsLocal program function_of clauses_of number_of d m args u → t ≡ u
    local_once is_flat is_flat = refl
    local_once (is_argument f) (is_argument g) = flat_once f g
    local_once (is_used f) (is_used g) = let r = inlined_once f g in cc

    datum_once : {d : ℕ} {m : Meant TypedNode} {t u : FlatTerm} → IsDatum program function_of clauses_of number_of d m t → IsDatum program function_of clauses_of number_of d m u → t ≡ u
    datum_once (suspended_datum f) (suspended_datum g) = flat_once f g
    datum_once flat_datum flat_datum = refl

    data_once : {d : ℕ} {ms : Meants TypedNode} {t u : FlatTerms} → AreData program function_of clauses_of number_of d ms t → AreData program function_of clauses_of number_of d ms u → t ≡ u
    data_once no_data no_data = refl
    data_once (more_data f k) (more_data g l) = let r = datum_once f g in let s = data_once k l in cc

    lambda_once : {d : ℕ} {E args : Meants TypedNode} {ps : List (Pattern TypedNode)} {body : Expression TypedNode} {t u : FlatTerm} → IsLambda program function_of clauses_of number_of d E ps body args t → IsLambda program function_of clauses_of number_of d E ps body args u → t ≡ u
    lambda_once (lambda_body f) (lambda_body g) = flat_once f g
    lambda_once (lambda_named f) (lambda_named g) = lambda_once f g
    lambda_once (lambda_named f) (lambda_matched e i p g) = absurd (clash true refl e)
    lambda_once (lambda_matched e i p f) (lambda_named g) = absurd (clash true refl e)
    lambda_once (lambda_matched {d = d} {E = E} {args = args} {ps = ps} {body = body} e i p f) (lambda_matched {t = u} e' i' p' g) =
        let r = datum_once i i' in let s = pattern_once p p' in let s0 = s.0 in
        let v = lambda_once f (subst (λ z. IsLambda program function_of clauses_of number_of (z + d) (joined_meants E (flats d z)) ps body args u) (sym s.1) g) in cc

    inlined_once : {d : ℕ} {E args : Meants TypedNode} {cs : Alternatives TypedNode} {t u : FlatTerm} → IsInlined program function_of clauses_of number_of d E cs args t → IsInlined program function_of clauses_of number_of d E cs args u → t ≡ u
    inlined_once (is_group {E = E} {cs = cs} f k) (is_group {t = u} g l) =
        let r = params_once f g in let r0 = r.0 in let s = body_once k (subst₃ (λ x y z. IsBody program function_of clauses_of number_of x E cs y z u) (sym r.1) (sym r.2) (sym r.3) l) in cc

    params_once : {d n : ℕ} {args : Meants TypedNode} {lets lets' : FlatLets} {d' d'' : ℕ} {ps ps' rs rs' : Meants TypedNode} → AreParams program function_of clauses_of number_of d n args lets d' ps rs → AreParams program function_of clauses_of number_of d n args lets' d'' ps' rs'
        → (lets ≡ lets') × (d' ≡ d'') × (ps ≡ ps') × (rs ≡ rs')
    params_once no_params no_params = (refl, refl, refl, refl)
    params_once (data_param e i f) (data_param e' i' g) = let r = datum_once i i' in let s = params_once f g in let s0 = s.0 in let s2 = s.2 in (cc, s.1, cc, s.3)
    params_once (data_param {m = m} e i f) (function_param e' g) = absurd (clash (is_datum m) e e')
    params_once (function_param e f) (data_param {m = m} e' i' g) = absurd (clash (is_datum m) e' e)
    params_once (function_param e f) (function_param e' g) = let s = params_once f g in let s2 = s.2 in (s.0, s.1, cc, s.3)

    pub body_once : {d : ℕ} {E ps args : Meants TypedNode} {cs : Alternatives TypedNode} {t u : FlatTerm} → IsBody program function_of clauses_of number_of d E cs ps args t → IsBody program function_of clauses_of number_of d E cs ps args u → t ≡ u
    body_once (plain_body {E = E} {params = ps} {args = args} {e = e} v f k) (plain_body {t = u} v' g l) =
        let r = placed_once f g in let r0 = r.0 in let s = flat_once k (subst₂ (λ z w. IsTypedFlat program function_of clauses_of number_of z (joined_meants (joined_meants E ps) w) e args u) (sym r.1) (sym r.2) l) in cc
    body_once (plain_body {pats = pats} v f k) (rows_body e m l) = absurd (clash (are_variables pats) (all_variables v) e)
    body_once (rows_body e m l) (plain_body {pats = pats} v f k) = absurd (clash (are_variables pats) (all_variables v) e)
    body_once (rows_body {d = d} {E = E} {args = args} {cs = cs} e m f) (rows_body {frows = rows'} e' m' g) =
        let r = matched_once m m' in let r1 = r.1 in let s = rows_once f (subst (λ z. AreRows program function_of clauses_of number_of d E z cs args rows') (sym r.0) g) in cc

    rows_once : {d : ℕ} {E args : Meants TypedNode} {cols : Columns TypedNode} {cs : Alternatives TypedNode} {t u : FlatRows} → AreRows program function_of clauses_of number_of d E cols cs args t → AreRows program function_of clauses_of number_of d E cols cs args u → t ≡ u
    rows_once none_rows none_rows = refl
    rows_once (some_rows {E = E} {args = args} {ms = ms} {body = body} {wheres = wheres} c f k m) (some_rows {d'' = d2} {ns = ns} {lets = lets} {arms = arms} c' g l n) =
        let r = columns_once c c' in let r0 = r.0 in
        let s = placed_once f (subst₂ (λ z w. IsPlaced program function_of clauses_of number_of wheres (order_of wheres) z (joined_meants E w) (unplaced_names wheres) lets d2 ns) (sym r.2) (sym r.1) g) in let s0 = s.0 in
        let v = arms_once k (subst₃ (λ x y z. AreArms program function_of clauses_of number_of x (joined_meants (joined_meants E y) z) body args arms) (sym s.1) (sym r.1) (sym s.2) l) in
        let o = rows_once m n in cc

    arms_once : {d : ℕ} {E args : Meants TypedNode} {body : RightSide TypedNode} {t u : FlatArms} → AreArms program function_of clauses_of number_of d E body args t → AreArms program function_of clauses_of number_of d E body args u → t ≡ u
    arms_once (one_arm f) (one_arm g) = let r = flat_once f g in cc
    arms_once (guarded_arms f) (guarded_arms g) = guarded_once f g

    guarded_once : {d : ℕ} {E args : Meants TypedNode} {bodies : GuardedBodies TypedNode} {t u : FlatArms} → AreGuarded program function_of clauses_of number_of d E bodies args t → AreGuarded program function_of clauses_of number_of d E bodies args u → t ≡ u
    guarded_once none_guarded none_guarded = refl
    guarded_once (some_guarded f k m) (some_guarded g l n) = let r = flat_once f g in let s = flat_once k l in let v = guarded_once m n in cc

    pub placed_once : {group : LocalBindings TypedNode} {order : List (Numbered TypedNode)} {d : ℕ} {E ms : Meants TypedNode} {lets lets' : FlatLets} {d' d'' : ℕ} {ns ns' : Meants TypedNode} → IsPlaced program function_of clauses_of number_of group order d E ms lets d' ns → IsPlaced program function_of clauses_of number_of group order d E ms lets' d'' ns'
        → (lets ≡ lets') × (d' ≡ d'') × (ns ≡ ns')
    placed_once all_placed all_placed = (refl, refl, refl)
    placed_once (signature_placed f) (signature_placed g) = placed_once f g
    placed_once (data_placed e z b f) (data_placed e' z' b' g) = let r = body_once b b' in let s = placed_once f g in let s0 = s.0 in (cc, s.1, s.2)
    placed_once (data_placed {a = a} e z b f) (use_placed e' g) = absurd (clash (is_data a.type) e e')
    placed_once (use_placed e f) (data_placed {a = a} e' z' b' g) = absurd (clash (is_data a.type) e' e)
    placed_once (use_placed e f) (use_placed e' g) = placed_once f g
    placed_once (pattern_placed {n = k} {d = d} {E = E} {ms = ms} {inner = inner} {body = body} {group = group} {order = order} {lets = lets} p f m e o) (pattern_placed {d'' = d2} {ns = ns} {arms = arms} {others = others} p' g n e' q) =
        let r = pattern_once p p' in let r0 = r.0 in let s = placed_once f g in let s0 = s.0 in
        let v = arms_once m (subst₂ (λ x y. AreArms program function_of clauses_of number_of x (joined_meants (joined_meants E ms) y) body no_meants arms) (sym s.1) (sym s.2) n) in
        let w = placed_once o (subst (λ z. IsPlaced program function_of clauses_of number_of group order (z + d) E (placed_all (first_name (bindings_of group) k) (flats d z) ms) others d2 ns) (sym r.1) q) in let w0 = w.0 in (cc, w.1, w.2)
