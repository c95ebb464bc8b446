-- A function of a static design gives a value of its result's width.
use Rattle.std.proofs.Common.{◌≡◌, ℕ, zero, suc, List, [], ◌∷◌, ◌++◌, length, take, drop, map, Bool, true, false, ◌&&◌, refl, ap, sym, subst, ◌∙◌, Option, Some, None, arith, length-take}
use Rattle.std.specs.List.{list_all}
use Rattle.std.proofs.lemmas.List.{length-map, take-append-drop}
use mathlib.Core.Bool.{true≢false}
use Rattle.vh_tree.specs.Bits.{Bytes, Bits, same_name, is_among}
use Rattle.vh_tree.specs.Functions.{Calls, Store, expr_of, scope_in, function_world, stmt_of, stmts_of, entered, function_value, parameter_widths, parameters_of, variable_of}
use Rattle.vh_tree.specs.StaticRules.{Names, Widths, Shape, has_arity, arity_in, result_of, functions_of, item_names, names_of, are_distinct, begins_with_copies, names_in_function, function_names_well, stmt_names_well, names_well, measured, fits_in, agree, stmt_fits, parameter_vars, widths_in_function, shape_of, is_width, function_fits, uses_earlier, stmt_uses_earlier, function_uses_earlier, copies, test_keeps}
use Rattle.vh_tree.specs.Widths.{HasWidth, GivesWidth, KeepsWidths, StoreHasWidths}
use Rattle.vh_tree_equations.specs.Equations.{stmt_of-Assign, expr_of-Name, measured-Name, keeps-Assign}
use Rattle.vh_tree.specs.declared.expr.VExpr.TheVariants.{Name}
use Rattle.vh_tree.specs.declared.stmt.VStmt.{VStmt}
use Rattle.vh_tree.specs.declared.function.Var.{Var}
use Rattle.vh_tree.specs.declared.function.Function.{Function}
use Rattle.vh_tree.specs.declared.design.Item.{Item}
use Rattle.vh_tree_laws.proofs.Comparisons.{both_left, both_right, either_left, either_right, name_self}
use Rattle.vh_tree_laws.proofs.Copies.{copy_is, enough_vars}
use Rattle.vh_tree_laws.proofs.Stores.{value_width, read_width, stored_width, append_widths, variables_width, parameters_width, among_later, among_earlier}
use Rattle.vh_tree_laws.proofs.ExprWidth.{carried, of_name, has_width}
use Rattle.vh_tree_laws.proofs.StmtWidth.{body_sound}

all_dropped : {A : Type 0} (p : A → Bool) (n : ℕ) (xs : List A) → list_all p xs ≡ true → list_all p (drop n xs) ≡ true
all_dropped p zero xs h = h
all_dropped p (suc n) [] h = h
all_dropped p (suc n) (x ∷ xs) h = all_dropped p n xs (both_right (p x) (list_all p xs) h)

order_append : (a b : List VStmt) (calls : Calls) (store : Store) → stmts_of Store (a ++ b) (function_world calls) store ≡ stmts_of Store b (function_world calls) (stmts_of Store a (function_world calls) store)
order_append [] b calls store = refl
order_append (s ∷ a) b calls store = order_append a b calls (stmt_of Store s (function_world calls) store)

none_left : (ns : List ℕ) → length ns ≡ 0 → [] ≡ ns
none_left [] e = refl
none_left (n ∷ ns) e = absurd (omega arith)

pub gives_bare : (shape : Option Shape) (call : List Bits → Bits) → GivesWidth shape 0 call → HasWidth (result_of shape) (call [])
gives_bare None call g = absurd g
gives_bare (Some shape) call g = g.1 [] (none_left shape.params g.0)

module _ (all : List Item) (f : Function) (known : Bytes → Option Shape) (calls : Calls) (usable : Bytes → Bool)
    (ready : (x : Bytes) (k : ℕ) → has_arity (arity_in (functions_of all) x) k ≡ true → usable x ≡ true → GivesWidth (known x) k (calls x))
    (named : function_names_well all f ≡ true) (fits : function_fits known f ≡ true) (order : function_uses_earlier usable f ≡ true) where
  abbrev vs : List Var
  vs = parameter_vars f.params f.vars ++ f.vars

  abbrev names : Names
  names = names_in_function all f

  abbrev ws : Widths
  ws = widths_in_function known f

  abbrev assignable : Bytes → Bool
  assignable x = is_among x (names_of f.vars)

  abbrev rest_named : Bool
  rest_named = list_all (stmt_names_well names assignable false) (drop (length f.params) f.body)

  begins : begins_with_copies f.params f.vars f.body ≡ true
  begins = both_right (are_distinct (item_names all ++ (f.params ++ names_of f.vars))) (begins_with_copies f.params f.vars f.body)
      (both_left (are_distinct (item_names all ++ (f.params ++ names_of f.vars)) && begins_with_copies f.params f.vars f.body) rest_named
      (both_left (are_distinct (item_names all ++ (f.params ++ names_of f.vars)) && begins_with_copies f.params f.vars f.body && rest_named) (names_well names f.result) named))

  rest_well : rest_named ≡ true
  rest_well = both_right (are_distinct (item_names all ++ (f.params ++ names_of f.vars)) && begins_with_copies f.params f.vars f.body) rest_named
      (both_left (are_distinct (item_names all ++ (f.params ++ names_of f.vars)) && begins_with_copies f.params f.vars f.body && rest_named) (names_well names f.result) named)

  result_well : names_well names f.result ≡ true
  result_well = both_right (are_distinct (item_names all ++ (f.params ++ names_of f.vars)) && begins_with_copies f.params f.vars f.body && rest_named) (names_well names f.result) named

  body_fits : list_all (stmt_fits ws) f.body ≡ true
  body_fits = both_right (list_all (λ v. is_width v.width) f.vars) (list_all (stmt_fits ws) f.body)
      (both_left (list_all (λ v. is_width v.width) f.vars && list_all (stmt_fits ws) f.body) (measured ws f.result).fits fits)

  result_fits : (measured ws f.result).fits ≡ true
  result_fits = both_right (list_all (λ v. is_width v.width) f.vars && list_all (stmt_fits ws) f.body) (measured ws f.result).fits fits

  scopes : (store : Store) → StoreHasWidths vs store → KeepsWidths names usable ws (scope_in calls store)
  scopes store h = record {
    reads = λ x r. read_width vs store h calls x (among_later x (parameter_vars f.params f.vars) f.vars r);
    bare = λ x a u. value_width vs store h calls x (known x) (gives_bare (known x) (calls x) (ready x 0 a u));
    calls = ready;
  }

  -- the statements that copy the parameters
  one_copied : (v p : Bytes) (s : VStmt) → copies v p s ≡ true → stmt_fits ws s ≡ true → is_among p (names_of vs) ≡ true →
      (store : Store) → StoreHasWidths vs store → StoreHasWidths vs (stmt_of Store s (function_world calls) store)
  one_copied v p s c k a store h =
      let is = copy_is v p s c in
      let fit : fits_in ws (ws.named v) (Name p) ≡ true = sym (keeps-Assign (λ x e. fits_in ws (ws.named x) e) (test_keeps (λ e bits. fits_in ws (Some (length bits)) e) true) v (Name p)) ∙ subst (λ t. stmt_fits ws t ≡ true) is k in
      subst (λ (t : VStmt). StoreHasWidths vs (stmt_of Store t (function_world calls) store)) (sym is)
      (subst (StoreHasWidths vs) (sym (stmt_of-Assign Store v (Name p) (function_world calls) store))
      (stored_width vs store h v (measured ws (Name p)).width (expr_of (Name p) (scope_in calls store)) (both_right (measured ws (Name p)).fits (agree (ws.named v) (measured ws (Name p)).width) fit)
      (carried _ _ _ _ (ap (λ m. m.width) (measured-Name ws p)) (expr_of-Name p (scope_in calls store)) (of_name (ws.named p) (known p) _ (read_width vs store h calls p a)))))

  copied : (ps : List Bytes) (vars : List Var) (body : List VStmt) → begins_with_copies ps vars body ≡ true → list_all (stmt_fits ws) body ≡ true →
      ((p : Bytes) → is_among p (names_of (parameter_vars ps vars)) ≡ true → is_among p (names_of vs) ≡ true) →
      (store : Store) → StoreHasWidths vs store → StoreHasWidths vs (stmts_of Store (take (length ps) body) (function_world calls) store)
  copied [] vars body b k seen store h = h
  copied (p ∷ ps) [] body b k seen store h = absurd (true≢false (sym b))
  copied (p ∷ ps) (v ∷ vars) [] b k seen store h = absurd (true≢false (sym b))
  copied (p ∷ ps) (v ∷ vars) (s ∷ body) b k seen store h =
      copied ps vars body (both_right (copies v.name p s) (begins_with_copies ps vars body) b) (both_right (stmt_fits ws s) (list_all (stmt_fits ws) body) k)
      (λ q a. seen q (either_right (same_name q p) (is_among q (names_of (parameter_vars ps vars))) a)) (stmt_of Store s (function_world calls) store)
      (one_copied v.name p s (both_left (copies v.name p s) (begins_with_copies ps vars body) b) (both_left (stmt_fits ws s) (list_all (stmt_fits ws) body) k)
      (seen p (either_left (same_name p p) (is_among p (names_of (parameter_vars ps vars))) (name_self p))) store h)

  entered_width : (args : List Bits) → map length args ≡ parameter_widths f → StoreHasWidths vs (entered f args)
  entered_width args e =
      append_widths (parameter_vars f.params f.vars) (parameters_of f.params args) f.vars (map variable_of f.vars) (parameters_width f.params f.vars args (enough_vars f.params f.vars f.body begins) e) (variables_width f.vars)

  early_body : list_all (stmt_uses_earlier usable) f.body ≡ true
  early_body = both_left (list_all (stmt_uses_earlier usable) f.body) (uses_earlier usable f.result) order

  body_keeps : (store : Store) → StoreHasWidths vs store → StoreHasWidths vs (stmts_of Store f.body (function_world calls) store)
  body_keeps store h =
      let n = length f.params in
      subst (λ (body : List VStmt). StoreHasWidths vs (stmts_of Store body (function_world calls) store)) (take-append-drop n f.body)
      (subst (StoreHasWidths vs) (sym (order_append (take n f.body) (drop n f.body) calls store))
      (body_sound calls vs names assignable usable ws (λ x. refl) scopes (drop n f.body) rest_well (all_dropped (stmt_uses_earlier usable) n f.body early_body) (all_dropped (stmt_fits ws) n f.body body_fits)
      (stmts_of Store (take n f.body) (function_world calls) store)
      (copied f.params f.vars f.body begins body_fits (λ p a. among_earlier p (parameter_vars f.params f.vars) f.vars a) store h)))

  pub function_width : (args : List Bits) → map length args ≡ parameter_widths f → HasWidth (shape_of known f).result (function_value calls f args)
  function_width args e =
      let store : Store = stmts_of Store f.body (function_world calls) (entered f args) in
      has_width names usable ws (scope_in calls store) (scopes store (body_keeps (entered f args) (entered_width args e))) f.result result_well
      (both_right (list_all (stmt_uses_earlier usable) f.body) (uses_earlier usable f.result) order) result_fits

  pub gives_width : GivesWidth (Some (shape_of known f)) (length f.params) (function_value calls f)
  gives_width = (
    let enough = enough_vars f.params f.vars f.body begins in
        omega (arith, enough, length-take (length f.params) (map (λ (v : Var). v.width) f.vars), length-map f.vars (λ (v : Var). v.width)),
    function_width,
  )
