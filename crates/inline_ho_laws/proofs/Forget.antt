-- What is flat by the types is flat.
use Rattle.std.proofs.Common.{◌≡◌, ℕ, suc, ◌+◌, List, ◌∷◌, ◌++◌, length, Option, Some, refl, arith, ap, sym, ◌∙◌, subst, length-append, append-nil}
use Rattle.std.specs.List.{AllByRecursion}
use Rattle.rw_scope_rules.specs.declared.binding.Binding.{Binding}
use Rattle.rw_scope_rules.specs.declared.binding.Binding.TheVariants.{Local}
use Rattle.rw_scope_rules.specs.declared.binding.Bound.{Bound}
use Rattle.rw_scope_rules.specs.Bindings.{pattern_variables, parts_variables, group_variables}
use Rattle.rw_scope_rules.specs.Nodes.{bindings_of}
use Rattle.rw_scope_orders.specs.Groups.{Numbered}
use Rattle.rw_tree.specs.Patterns.{Pattern, Patterns}
use Rattle.rw_tree.specs.Trees.{Expression, Expressions, variable, do_block, Alternatives, RightSide, GuardedBodies, LocalBindings}
use Rattle.rw_tree.specs.Declarations.{Declaration}
use Rattle.rw_core.specs.Options.{◌>>=◌}
use Rattle.rw_meaning.specs.Evaluation.{declaration_at}
use Rattle.rw_meaning.specs.Systems.{binding_of}
use Rattle.rw_types_solving.specs.Types.{Ty}
use Rattle.rw_types_rules.specs.TypedTrees.{TypedNode}
use Rattle.rw_types_rules.specs.Relabelled.{relabelled_pattern, relabelled_parts, relabelled_row, relabelled_expressions, relabelled_side, relabelled_bodies, relabelled_group}
use Rattle.rw_core_flat.specs.Terms.{FlatPattern, FlatPatterns, more_patterns as more_flat_patterns, FlatTerm, FlatTerms, FlatLets, FlatRows, FlatArms}
use Rattle.inline_ho_rules.specs.Meants.{Meant, flat, suspended, local_use, Meants, no_meants, more_meants, meant_at, joined_meants, all_unplaced, suspended_parts, placed, placed_all, flats, declared_clauses, Columns, value_column, StandsIn}
use Rattle.inline_ho_rules.specs.Meants.{IsPattern, is_any, is_variable, is_built, is_tuple, ArePatterns, none_are, more_are, AreColumns, none_in, matched_in, named_in, ignored_in, AreMatched, none_matched, flat_matched, other_matched, AreVariables, none_variable, more_variable}
use Rattle.inline_ho_rules.specs.Flattening as f
use Rattle.inline_ho_rules.specs.TypedFlattening.{typed_binding, first_name}
use Rattle.inline_ho_rules.specs.TypedFlattening.{IsTypedFlat, is_variable as is_name, is_constructor, is_application, is_tuple_of, is_lambda, is_let, is_case, is_if, is_last, is_run, is_bound, is_let_then, unplaced_names, IsNamed, is_local, is_called, is_inlined, is_return, is_signal, is_put, is_get, is_lift, is_bind, is_then, is_extrude, IsLocal, is_flat, is_argument, is_used, IsDatum, suspended_datum, flat_datum, AreData, no_data, more_data, IsLambda, lambda_body, lambda_named, lambda_matched, IsInlined, is_group, AreParams, no_params, data_param, function_param, IsBody, plain_body, rows_body, AreRows, none_rows, some_rows, AreArms, one_arm, guarded_arms, AreGuarded, none_guarded, some_guarded, IsPlaced, all_placed, signature_placed, data_placed, use_placed, pattern_placed}
use Rattle.inline_ho_rules.specs.Untyped.{node_of, bare_expression, bare_clauses, bare_meant, bare_meants, bare_columns}
use Rattle.inline_ho_laws.proofs.Orders.{stands_all}
use Rattle.inline_ho_laws.proofs.Bare.{bare_at, bare_joined, bare_count, bare_placed, bare_placed_all, bare_flats, bare_suspended, bare_names, bare_patterns, bare_stands, clauses_there}

mutual
  pub bare_pattern : {p : Pattern TypedNode} {q : FlatPattern} {n : ℕ} → IsPattern typed_binding p q n → IsPattern binding_of (relabelled_pattern node_of p) q n
  bare_pattern is_any = is_any
  bare_pattern is_variable = is_variable
  bare_pattern (is_built e i) = is_built e (bare_parts i)
  bare_pattern (is_tuple i) = is_tuple (bare_parts i)

  bare_parts : {p : Patterns TypedNode} {q : FlatPatterns} {n : ℕ} → ArePatterns typed_binding p q n → ArePatterns binding_of (relabelled_parts node_of p) q n
  bare_parts none_are = none_are
  bare_parts (more_are i j e) = more_are (bare_pattern i) (bare_parts j) e

mutual
  pattern_many : {p : Pattern Bound} {q : FlatPattern} {n : ℕ} → IsPattern binding_of p q n → length (pattern_variables p) ≡ n
  pattern_many is_any = refl
  pattern_many is_variable = refl
  pattern_many (is_built e i) = parts_many i
  pattern_many (is_tuple i) = parts_many i

  parts_many : {p : Patterns Bound} {q : FlatPatterns} {n : ℕ} → ArePatterns binding_of p q n → length (parts_variables p) ≡ n
  parts_many none_are = refl
  parts_many (more_are {p = p} {ps = ps} i j e) =
      let a = pattern_many i in let b = parts_many j in let c : length (pattern_variables p ++ parts_variables ps) ≡ length (pattern_variables p) + length (parts_variables ps) = length-append _ _ in omega arith

flats_joined : (E : Meants TypedNode) (d n : ℕ) → bare_meants (joined_meants E (flats d n)) ≡ joined_meants (bare_meants E) (flats d n)
flats_joined E d n = bare_joined E (flats d n) ∙ ap (joined_meants (bare_meants E)) (bare_flats d n)

two_joined : (E a b : Meants TypedNode) → bare_meants (joined_meants (joined_meants E a) b) ≡ joined_meants (joined_meants (bare_meants E) (bare_meants a)) (bare_meants b)
two_joined E a b = bare_joined (joined_meants E a) b ∙ ap (λ z. joined_meants z (bare_meants b)) (bare_joined E a)

parts_joined : (E args : Meants TypedNode) (es : Expressions TypedNode) → bare_meants (joined_meants (suspended_parts E es) args) ≡ joined_meants (suspended_parts (bare_meants E) (relabelled_expressions node_of es)) (bare_meants args)
parts_joined E args es = bare_joined (suspended_parts E es) args ∙ ap (λ z. joined_meants z (bare_meants args)) (bare_suspended E es)

bare_row : {d : ℕ} {cols : Columns TypedNode} {ps : List (Pattern TypedNode)} {qs : FlatPatterns} {ms : Meants TypedNode} {e : ℕ} → AreColumns typed_binding d cols ps qs ms e → AreColumns binding_of d (bare_columns cols) (relabelled_row node_of ps) qs (bare_meants ms) e
bare_row none_in = none_in
bare_row (matched_in {d = d} {n = n} {e = e} {cols = cols} {p = p} {ps = ps} {q = q} {qs = qs} {ms = ms} i j) =
    subst (λ z. AreColumns binding_of d (bare_columns (value_column cols)) (relabelled_row node_of (p ∷ ps)) (more_flat_patterns q qs) z e)
    (sym (bare_joined (flats d n) ms ∙ ap (λ z. joined_meants z (bare_meants ms)) (bare_flats d n))) (matched_in (bare_pattern i) (bare_row j))
bare_row (named_in j) = named_in (bare_row j)
bare_row (ignored_in j) = ignored_in (bare_row j)

bare_matched : {ms : Meants TypedNode} {cols : Columns TypedNode} {ts : FlatTerms} → AreMatched ms cols ts → AreMatched (bare_meants ms) (bare_columns cols) ts
bare_matched none_matched = none_matched
bare_matched (flat_matched i) = flat_matched (bare_matched i)
bare_matched (other_matched i) = other_matched (bare_matched i)

bare_variables : {ps : List (Pattern TypedNode)} {ms : Meants TypedNode} → AreVariables ps ms → AreVariables (relabelled_row node_of ps) (bare_meants ms)
bare_variables none_variable = none_variable
bare_variables (more_variable i) = more_variable (bare_variables i)

module _ (program : List (Declaration Bound)) (function_of : ℕ → List Ty → Option ℕ) (clauses_of : ℕ → List Ty → Option (Alternatives TypedNode)) (number_of : Ty → Option ℕ) (IsFunction : ℕ → ℕ → Type 0)
    (numbered : (n i : ℕ) (arguments : List Ty) → function_of n arguments ≡ Some i → IsFunction i n)
    (declared : (n : ℕ) (arguments : List Ty) (cs : Alternatives TypedNode) → clauses_of n arguments ≡ Some cs → (declaration_at n program >>= declared_clauses) ≡ Some (bare_clauses cs)) where
  pub group_bare : {d : ℕ} {E : Meants Bound} {lets : FlatLets} {d' : ℕ} {ns : Meants Bound} (group : LocalBindings TypedNode) → f.IsPlaced program IsFunction (relabelled_group node_of group) d E (bare_meants (unplaced_names group)) lets d' ns
      → f.IsPlaced program IsFunction (relabelled_group node_of group) d E (all_unplaced (length (group_variables (relabelled_group node_of group)))) lets d' ns
  group_bare {d = d} {E = E} {lets = lets} {d' = d'} {ns = ns} group i = subst (λ z. f.IsPlaced program IsFunction (relabelled_group node_of group) d E z lets d' ns) (bare_names group) i

  mutual
    pub forget : {d : ℕ} {E args : Meants TypedNode} {e : Expression TypedNode} {t : FlatTerm} → IsTypedFlat program function_of clauses_of number_of d E e args t → f.IsFlat program IsFunction d (bare_meants E) (bare_expression e) (bare_meants args) t
    forget (is_name {x = x} e i) = named_forget i x e
    forget (is_constructor {args = args} e n c i) = f.is_constructor e (c ∙ ap Some (sym (bare_count args))) (data_forget i)
    forget (is_application {d = d} {E = E} {args = args} {head = head} {parts = parts} {t = t} i) =
        f.is_application (subst (λ z. f.IsFlat program IsFunction d (bare_meants E) (bare_expression head) z t) (parts_joined E args parts) (forget i))
    forget (is_tuple_of {d = d} {E = E} {parts = parts} {ts = ts} n i) = f.is_tuple_of (subst (λ z. f.AreData program IsFunction d z ts) (bare_suspended E parts) (data_forget i))
    forget (is_lambda i) = f.is_lambda (lambda_forget i)
    forget (is_let {d' = d'} {E = E} {args = args} {ms = ms} {group = group} {body = body} {t = t} i j) =
        f.is_let (group_bare group (placed_forget group i (stands_all group))) (subst (λ z. f.IsFlat program IsFunction d' z (bare_expression body) (bare_meants args) t) (bare_joined E ms) (forget j))
    forget (is_case i j) = f.is_case (forget i) (rows_forget j)
    forget (is_if i j k) = f.is_if (forget i) (forget j) (forget k)
    forget (is_last i) = f.is_last (forget i)
    forget (is_run i j) = f.is_run (forget i) (forget j)
    forget (is_bound i j) = f.is_bound (forget i) (lambda_forget j)
    forget (is_let_then {d' = d'} {E = E} {args = args} {ms = ms} {a = a} {group = group} {ss = ss} {t = t} i j) =
        f.is_let_then (group_bare group (placed_forget group i (stands_all group))) (subst (λ z. f.IsFlat program IsFunction d' z (bare_expression (do_block a ss)) (bare_meants args) t) (bare_joined E ms) (forget j))

    named_forget : {d : ℕ} {E args : Meants TypedNode} {a : TypedNode} {b : Option Binding} {t : FlatTerm} → IsNamed program function_of clauses_of number_of d E a b args t → (x : List ℕ) → a.node.bound ≡ b
        → f.IsFlat program IsFunction d (bare_meants E) (variable a.node x) (bare_meants args) t
    named_forget (is_local {k = k} {E = E} {a = a} e i) x h = local_forget i k E a.node x h e
    named_forget (is_called {n = n} {i = j} {a = a} e c l i) x h = f.is_called h (numbered n j a.arguments c) (data_forget i)
    named_forget (is_inlined {n = n} {a = a} {cs = cs} e c i) x h = f.is_inlined h (declared n a.arguments cs c) (inlined_forget i)
    named_forget (is_return i) x h = f.is_return h (datum_forget i)
    named_forget (is_signal i) x h = f.is_signal h (datum_forget i)
    named_forget (is_put i) x h = f.is_put h (datum_forget i)
    named_forget is_get x h = f.is_get h
    named_forget (is_lift i) x h = f.is_lift h (forget i)
    named_forget (is_bind i j) x h = f.is_bind h (forget i) (forget j)
    named_forget (is_then i j) x h = f.is_then h (forget i) (forget j)
    named_forget (is_extrude i j) x h = f.is_extrude h (forget i) (datum_forget j)

    local_forget : {d : ℕ} {args : Meants TypedNode} {m : Option (Meant TypedNode)} {t : FlatTerm} → IsLocal program function_of clauses_of number_of d m args t → (k : ℕ) (E : Meants TypedNode) (a : Bound) (x : List ℕ) → a.bound ≡ Some (Local k) → meant_at k E ≡ m
        → f.IsFlat program IsFunction d (bare_meants E) (variable a x) (bare_meants args) t
    local_forget (is_flat {y = y}) k E a x h e = f.is_local h (bare_at k E (flat y) e)
    local_forget (is_argument {E = E'} {e = e'} i) k E a x h e = f.is_argument h (bare_at k E (suspended E' e') e) (forget i)
    local_forget (is_used {E = E'} {cs = cs} i) k E a x h e = f.is_used h (bare_at k E (local_use E' cs) e) (inlined_forget i)

    datum_forget : {d : ℕ} {m : Meant TypedNode} {t : FlatTerm} → IsDatum program function_of clauses_of number_of d m t → f.IsDatum program IsFunction d (bare_meant m) t
    datum_forget (suspended_datum i) = f.suspended_datum (forget i)
    datum_forget flat_datum = f.flat_datum

    data_forget : {d : ℕ} {ms : Meants TypedNode} {ts : FlatTerms} → AreData program function_of clauses_of number_of d ms ts → f.AreData program IsFunction d (bare_meants ms) ts
    data_forget no_data = f.no_data
    data_forget (more_data i j) = f.more_data (datum_forget i) (data_forget j)

    lambda_forget : {d : ℕ} {E args : Meants TypedNode} {ps : List (Pattern TypedNode)} {body : Expression TypedNode} {t : FlatTerm} → IsLambda program function_of clauses_of number_of d E ps body args t
        → f.IsLambda program IsFunction d (bare_meants E) (relabelled_row node_of ps) (bare_expression body) (bare_meants args) t
    lambda_forget (lambda_body i) = f.lambda_body (forget i)
    lambda_forget (lambda_named {d = d} {y = y} {E = E} {args = args} {ps = ps} {body = body} {t = t} i) =
        f.lambda_named (subst (λ z. f.IsLambda program IsFunction d z (relabelled_row node_of ps) (bare_expression body) (bare_meants args) t) (bare_joined E (more_meants (flat y) no_meants)) (lambda_forget i))
    lambda_forget (lambda_matched {d = d} {n = n} {E = E} {args = args} {ps = ps} {body = body} {t = t} e i p j) =
        f.lambda_matched (datum_forget i) (bare_pattern p) (subst (λ z. f.IsLambda program IsFunction (n + d) z (relabelled_row node_of ps) (bare_expression body) (bare_meants args) t) (flats_joined E d n) (lambda_forget j))

    inlined_forget : {d : ℕ} {E args : Meants TypedNode} {cs : Alternatives TypedNode} {t : FlatTerm} → IsInlined program function_of clauses_of number_of d E cs args t → f.IsInlined program IsFunction d (bare_meants E) (bare_clauses cs) (bare_meants args) t
    inlined_forget (is_group {d = d} {d' = d'} {args = args} {params = ps} {rest = rs} {cs = cs} {lets = lets} i j) =
        f.is_group (subst (λ z. f.AreParams program IsFunction d z (bare_meants args) lets d' (bare_meants ps) (bare_meants rs)) (sym (bare_patterns cs)) (params_forget i)) (body_forget j)

    params_forget : {d n : ℕ} {args : Meants TypedNode} {lets : FlatLets} {d' : ℕ} {ps rs : Meants TypedNode} → AreParams program function_of clauses_of number_of d n args lets d' ps rs → f.AreParams program IsFunction d n (bare_meants args) lets d' (bare_meants ps) (bare_meants rs)
    params_forget no_params = f.no_params
    params_forget (data_param e i j) = f.data_param (datum_forget i) (params_forget j)
    params_forget (function_param e j) = f.function_param (params_forget j)

    pub body_forget : {d : ℕ} {E ps args : Meants TypedNode} {cs : Alternatives TypedNode} {t : FlatTerm} → IsBody program function_of clauses_of number_of d E cs ps args t → f.IsBody program IsFunction d (bare_meants E) (bare_clauses cs) (bare_meants ps) (bare_meants args) t
    body_forget (plain_body {d = d} {d' = d'} {E = E} {params = ps} {args = args} {ms = ms} {e = e} {wheres = ws} {lets = lets} {t = t} v i j) =
        f.plain_body (bare_variables v) (subst (λ z. f.IsPlaced program IsFunction (relabelled_group node_of ws) d z (all_unplaced (length (group_variables (relabelled_group node_of ws)))) lets d' (bare_meants ms)) (bare_joined E ps) (group_bare ws (placed_forget ws i (stands_all ws))))
        (subst (λ z. f.IsFlat program IsFunction d' z (bare_expression e) (bare_meants args) t) (two_joined E ps ms) (forget j))
    body_forget (rows_body e m i) = f.rows_body (bare_matched m) (rows_forget i)

    rows_forget : {d : ℕ} {E args : Meants TypedNode} {cols : Columns TypedNode} {cs : Alternatives TypedNode} {rows : FlatRows} → AreRows program function_of clauses_of number_of d E cols cs args rows
        → f.AreRows program IsFunction d (bare_meants E) (bare_columns cols) (bare_clauses cs) (bare_meants args) rows
    rows_forget none_rows = f.none_rows
    rows_forget (some_rows {d' = d'} {d'' = d2} {E = E} {args = args} {ms = ms} {ns = ns} {body = body} {wheres = ws} {lets = lets} {arms = arms} c i j k) =
        f.some_rows (bare_row c) (subst (λ z. f.IsPlaced program IsFunction (relabelled_group node_of ws) d' z (all_unplaced (length (group_variables (relabelled_group node_of ws)))) lets d2 (bare_meants ns)) (bare_joined E ms) (group_bare ws (placed_forget ws i (stands_all ws))))
        (subst (λ z. f.AreArms program IsFunction d2 z (relabelled_side node_of body) (bare_meants args) arms) (two_joined E ms ns) (arms_forget j)) (rows_forget k)

    arms_forget : {d : ℕ} {E args : Meants TypedNode} {side : RightSide TypedNode} {arms : FlatArms} → AreArms program function_of clauses_of number_of d E side args arms → f.AreArms program IsFunction d (bare_meants E) (relabelled_side node_of side) (bare_meants args) arms
    arms_forget (one_arm i) = f.one_arm (forget i)
    arms_forget (guarded_arms i) = f.guarded_arms (guarded_forget i)

    guarded_forget : {d : ℕ} {E args : Meants TypedNode} {bodies : GuardedBodies TypedNode} {arms : FlatArms} → AreGuarded program function_of clauses_of number_of d E bodies args arms
        → f.AreGuarded program IsFunction d (bare_meants E) (relabelled_bodies node_of bodies) (bare_meants args) arms
    guarded_forget none_guarded = f.none_guarded
    guarded_forget (some_guarded i j k) = f.some_guarded (forget i) (forget j) (guarded_forget k)

    pub placed_forget : (group : LocalBindings TypedNode) {order : List (Numbered TypedNode)} {d : ℕ} {E ms : Meants TypedNode} {lets : FlatLets} {d' : ℕ} {ns : Meants TypedNode} → IsPlaced program function_of clauses_of number_of group order d E ms lets d' ns → AllByRecursion (λ x. StandsIn group (first_name (bindings_of group) x.0) x.1) order
        → f.IsPlaced program IsFunction (relabelled_group node_of group) d (bare_meants E) (bare_meants ms) lets d' (bare_meants ns)
    placed_forget group all_placed h = f.all_placed
    placed_forget group (signature_placed i) h = placed_forget group i h.1
    placed_forget group (data_placed {n = n} {d = d} {d' = d'} {E = E} {ms = ms} {ns = ns} {a = a} {x = x} {cs = cs} {t = t} {lets = lets} e z i j) h =
        let k = first_name (bindings_of group) n in
        f.data_placed k (clauses_there (relabelled_group node_of group) k a.node x (bare_clauses cs) (bare_stands h.0)) (bare_patterns cs ∙ z)
        (subst (λ y. f.IsBody program IsFunction d y (bare_clauses cs) no_meants no_meants t) (bare_joined E ms) (body_forget i))
        (subst (λ y. f.IsPlaced program IsFunction (relabelled_group node_of group) (suc d) (bare_meants E) y lets d' (bare_meants ns)) (bare_placed k (flat d) ms) (placed_forget group j h.1))
    placed_forget group (use_placed {n = n} {d = d} {d' = d'} {E = E} {ms = ms} {ns = ns} {a = a} {x = x} {cs = cs} {lets = lets} e j) h =
        let k = first_name (bindings_of group) n in
        f.use_placed k (clauses_there (relabelled_group node_of group) k a.node x (bare_clauses cs) (bare_stands h.0))
        (subst (λ y. f.IsPlaced program IsFunction (relabelled_group node_of group) d (bare_meants E) y lets d' (bare_meants ns))
        (bare_placed k (local_use (joined_meants E ms) cs) ms ∙ ap (λ z. placed k (local_use z (bare_clauses cs)) (bare_meants ms)) (bare_joined E ms)) (placed_forget group j h.1))
    placed_forget group (pattern_placed {n = n} {m = m} {d = d} {d' = d'} {d'' = d2} {E = E} {ms = ms} {ns = ns} {inner = inner} {p = p} {body = body} {wheres = ws} {arms = arms} {lets = lets} {others = others} i g j e l) h =
        let k = first_name (bindings_of group) n in
        f.pattern_placed k m (bare_stands h.0) (sym (ap length (append-nil (pattern_variables (relabelled_pattern node_of p))) ∙ pattern_many (bare_pattern i))) (bare_pattern i)
        (subst (λ z. f.IsPlaced program IsFunction (relabelled_group node_of ws) d z (all_unplaced (length (group_variables (relabelled_group node_of ws)))) lets d' (bare_meants inner)) (bare_joined E ms) (group_bare ws (placed_forget ws g (stands_all ws))))
        (subst (λ z. f.AreArms program IsFunction d' z (relabelled_side node_of body) no_meants arms) (two_joined E ms inner) (arms_forget j)) e
        (subst (λ z. f.IsPlaced program IsFunction (relabelled_group node_of group) (m + d) (bare_meants E) z others d2 (bare_meants ns))
        (bare_placed_all k (flats d m) ms ∙ ap (λ z. placed_all k z (bare_meants ms)) (bare_flats d m)) (placed_forget group l h.1))
