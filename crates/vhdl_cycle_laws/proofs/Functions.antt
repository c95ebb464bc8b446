-- A frame that stands for a function of which the static rules hold gives what the function gives.
use Rattle.std.proofs.Common.{◌≡◌, ℕ, zero, suc, List, [], ◌∷◌, ◌++◌, length, take, drop, map, Bool, true, false, ◌&&◌, ◌⊎◌, inl, inr, refl, ap, sym, subst, ◌∙◌, Option, Some, None, arith, if◌then◌else◌}
use Rattle.std.specs.List.{list_all, flat_map}
use Rattle.std.proofs.lemmas.List.{take-append-drop}
use mathlib.Core.Bool.{true≢false}
use Rattle.vh_tree.specs.Bits.{Bytes, Bits, same_name, is_among}
use Rattle.vh_tree.specs.Functions.{Calls, Store, World, scope_in, function_world, stmt_of, stmts_of, entered, function_value, parameter_widths}
use Rattle.vh_tree.specs.StaticRules.{Names, Widths, Shape, has_arity, arity_in, functions_of, item_names, names_of, are_distinct, begins_with_copies, names_in_function, function_names_well, stmt_names_well, names_well, measured, width_among, stmt_fits, parameter_vars, widths_in_function, is_width, function_fits, uses_earlier, stmt_uses_earlier, function_uses_earlier, copies, test_keeps}
use Rattle.vh_tree.specs.Widths.{GivesWidth, KeepsWidths}
use Rattle.vh_tree_equations.specs.Equations.{names_well-Name, keeps-Assign}
use Rattle.vh_tree.specs.declared.expr.VExpr.TheVariants.{Name}
use Rattle.vh_tree.specs.declared.stmt.VStmt.{VStmt}
use Rattle.vh_tree.specs.declared.function.Var.{Var}
use Rattle.vh_tree.specs.declared.function.Function.{Function}
use Rattle.vh_tree.specs.declared.design.Item.{Item}
use Rattle.vh_tree_laws.proofs.Comparisons.{both_left, both_right, both_so, either_cases, either_left, either_right, name_self, name_turned}
use Rattle.vh_tree_laws.proofs.Copies.{copy_is}
use Rattle.vh_tree_laws.proofs.Stores.{value_width, read_width, among_later, among_earlier}
use Rattle.vh_tree_laws.proofs.FunctionWidth.{gives_bare}
use Rattle.vhdl_cycle_flat.specs.Agreeing.{GiveTheSame, ScopesAgree, WorldsAgree}
use Rattle.vhdl_cycle_flat.specs.Calling.{FramesGive}
use Rattle.vhdl_cycle_flat.specs.Flat.{Frame, entered as filled}
use Rattle.vhdl_cycle_flat.specs.Names.{Frames, called_over, slots_of, scope_over, function_world_over}
use Rattle.vhdl_cycle_flat.specs.Resolving.{frame_vars, IsFrameOf}
use Rattle.vhdl_cycle_laws.proofs.Expressions.{agrees}
use Rattle.vhdl_cycle_laws.proofs.Statements.{agreeing_stmts}
use Rattle.vhdl_cycle_laws.proofs.AgreeingPlaces.{Stands, read, write}
use Rattle.vhdl_cycle_laws.proofs.Entering.{entering}

all_taken : {A : Type 0} (p : A → Bool) (n : ℕ) (xs : List A) → list_all p xs ≡ true → list_all p (take n xs) ≡ true
all_taken p zero xs h = refl
all_taken p (suc n) [] h = h
all_taken p (suc n) (x ∷ xs) h = both_so (p x) (list_all p (take n xs)) (both_left (p x) (list_all p xs) h) (all_taken p n xs (both_right (p x) (list_all p xs) h))

all_dropped : {A : Type 0} (p : A → Bool) (n : ℕ) (xs : List A) → list_all p xs ≡ true → list_all p (drop n xs) ≡ true
all_dropped p zero xs h = h
all_dropped p (suc n) [] h = h
all_dropped p (suc n) (x ∷ xs) h = all_dropped p n xs (both_right (p x) (list_all p xs) h)

order_append : (S : Type 0) (a b : List VStmt) (w : World S) (s : S) → stmts_of S (a ++ b) w s ≡ stmts_of S b w (stmts_of S a w s)
order_append S [] b w s = refl
order_append S (x ∷ a) b w s = order_append S a b w (stmt_of S x w s)

-- the first statements, then the others
in_two : (S : Type 0) (n : ℕ) (body : List VStmt) (w : World S) (s : S) → stmts_of S (drop n body) w (stmts_of S (take n body) w s) ≡ stmts_of S body w s
in_two S n body w s = sym (order_append S (take n body) (drop n body) w s) ∙ ap (λ (b : List VStmt). stmts_of S b w s) (take-append-drop n body)

found : (b : Bool) (n : ℕ) (rest : Option ℕ) → (b ≡ false → (m : ℕ) × (rest ≡ Some m)) → (m : ℕ) × ((if b then Some n else rest) ≡ Some m)
found true n rest h = (n, refl)
found false n rest h = h refl

left_over : (x y : Bytes) (names : List Bytes) → same_name y x ≡ false → (same_name x y ≡ true) ⊎ (is_among x names ≡ true) → is_among x names ≡ true
left_over x y names ne (inl e) = absurd (true≢false (sym (name_turned x y e) ∙ ne))
left_over x y names ne (inr a) = a

-- a name among these has a width
has_a_width : (vs : List Var) (x : Bytes) → is_among x (names_of vs) ≡ true → (n : ℕ) × (width_among vs x ≡ Some n)
has_a_width [] x a = absurd (true≢false (sym a))
has_a_width (v ∷ vs) x a = found (same_name v.name x) v.width (width_among vs x) (λ ne. has_a_width vs x (left_over x v.name (names_of vs) ne (either_cases (same_name x v.name) (is_among x (names_of vs)) a)))

widthless : (vs : List Var) (x : Bytes) → is_among x (names_of vs) ≡ true → width_among vs x ≡ None → ⊥
widthless vs x a none = let some = has_a_width vs x a in let e : Some some.0 ≡ None = sym some.1 ∙ none in absurd (cc)

-- the first statements name what they may, where parameters may be read
copies_well : (names : Names) (assignable : Bytes → Bool) (ps : List Bytes) (vars : List Var) (body : List VStmt) → begins_with_copies ps vars body ≡ true →
    ((p : Bytes) → is_among p (names_of (parameter_vars ps vars)) ≡ true → names.reads p ≡ true) → ((x : Bytes) → is_among x (names_of vars) ≡ true → assignable x ≡ true) →
    list_all (stmt_names_well names assignable false) (take (length ps) body) ≡ true
copies_well names assignable [] vars body b may_read may_assign = refl
copies_well names assignable (p ∷ ps) [] body b may_read may_assign = absurd (true≢false (sym b))
copies_well names assignable (p ∷ ps) (v ∷ vars) [] b may_read may_assign = absurd (true≢false (sym b))
copies_well names assignable (p ∷ ps) (v ∷ vars) (s ∷ body) b may_read may_assign =
    let is = copy_is v.name p s (both_left (copies v.name p s) (begins_with_copies ps vars body) b) in
    let reads : names.reads p ≡ true = may_read p (either_left (same_name p p) (is_among p (names_of (parameter_vars ps vars))) (name_self p)) in
    let puts : assignable v.name ≡ true = may_assign v.name (either_left (same_name v.name v.name) (is_among v.name (names_of vars)) (name_self v.name)) in
    both_so (stmt_names_well names assignable false s) (list_all (stmt_names_well names assignable false) (take (length ps) body))
    (ap (stmt_names_well names assignable false) is
    ∙ keeps-Assign (λ x e. assignable x && names_well names e) (test_keeps (λ e bits. names_well names e) false) v.name (Name p)
    ∙ both_so (assignable v.name) (names_well names (Name p)) puts (names_well-Name names p ∙ either_left (names.reads p) (has_arity (names.arity p) 0) reads))
    (copies_well names assignable ps vars body (both_right (copies v.name p s) (begins_with_copies ps vars body) b)
    (λ q a. may_read q (either_right (same_name q p) (is_among q (names_of (parameter_vars ps vars))) a)) (λ x a. may_assign x (either_right (same_name x v.name) (is_among x (names_of vars)) a)))

none_left : (ns : List ℕ) → length ns ≡ 0 → [] ≡ ns
none_left [] e = refl
none_left (n ∷ ns) e = absurd (omega arith)

module _ (all : List Item) (f : Function) (known : Bytes → Option Shape) (frames : Frames) (calls : Calls) (usable : Bytes → Bool) (n : ℕ)
    (ready : (x : Bytes) (k : ℕ) → has_arity (arity_in (functions_of all) x) k ≡ true → usable x ≡ true → GivesWidth (known x) k (calls x)) (give : FramesGive known frames calls n)
    (named : function_names_well all f ≡ true) (fits : function_fits known f ≡ true) (order : function_uses_earlier usable f ≡ true) where
  abbrev vs : List Var
  vs = frame_vars f

  abbrev ws : Widths
  ws = widths_in_function known f

  abbrev assignable : Bytes → Bool
  assignable x = is_among x (names_of f.vars)

  abbrev over : World Bits
  over = function_world_over (slots_of vs) frames n

  abbrev rest_named : Bool
  rest_named = list_all (stmt_names_well (names_in_function all f) assignable false) (drop (length f.params) f.body)

  begins : begins_with_copies f.params f.vars f.body ≡ true
  begins = both_right (are_distinct (item_names all ++ (f.params ++ names_of f.vars))) (begins_with_copies f.params f.vars f.body)
      (both_left (are_distinct (item_names all ++ (f.params ++ names_of f.vars)) && begins_with_copies f.params f.vars f.body) rest_named
      (both_left (are_distinct (item_names all ++ (f.params ++ names_of f.vars)) && begins_with_copies f.params f.vars f.body && rest_named) (names_well (names_in_function all f) f.result) named))

  rest_well : rest_named ≡ true
  rest_well = both_right (are_distinct (item_names all ++ (f.params ++ names_of f.vars)) && begins_with_copies f.params f.vars f.body) rest_named
      (both_left (are_distinct (item_names all ++ (f.params ++ names_of f.vars)) && begins_with_copies f.params f.vars f.body && rest_named) (names_well (names_in_function all f) f.result) named)

  result_well : names_well (names_in_function all f) f.result ≡ true
  result_well = both_right (are_distinct (item_names all ++ (f.params ++ names_of f.vars)) && begins_with_copies f.params f.vars f.body && rest_named) (names_well (names_in_function all f) f.result) named

  body_fits : list_all (stmt_fits ws) f.body ≡ true
  body_fits = both_right (list_all (λ v. is_width v.width) f.vars) (list_all (stmt_fits ws) f.body)
      (both_left (list_all (λ v. is_width v.width) f.vars && list_all (stmt_fits ws) f.body) (measured ws f.result).fits fits)

  result_fits : (measured ws f.result).fits ≡ true
  result_fits = both_right (list_all (λ v. is_width v.width) f.vars && list_all (stmt_fits ws) f.body) (measured ws f.result).fits fits

  early_body : list_all (stmt_uses_earlier usable) f.body ≡ true
  early_body = both_left (list_all (stmt_uses_earlier usable) f.body) (uses_earlier usable f.result) order

  early_result : uses_earlier usable f.result ≡ true
  early_result = both_right (list_all (stmt_uses_earlier usable) f.body) (uses_earlier usable f.result) order

  -- calls, with arguments and without
  call_case : (x : Bytes) (shape : Option Shape) (k : ℕ) → known x ≡ shape → GivesWidth shape k (calls x) → GiveTheSame shape (λ args. called_over (frames x) n (flat_map (λ a. a) args)) (calls x)
  call_case x None k e g = g
  call_case x (Some shape) k e g = give x shape e

  bare_case : (x : Bytes) (shape : Option Shape) → known x ≡ shape → GivesWidth shape 0 (calls x) → called_over (frames x) n [] ≡ calls x []
  bare_case x None e g = absurd g
  bare_case x (Some shape) e g = give x shape e [] (none_left shape.params g.0)

  -- where what may be read is among the parameters and variables
  module _ (reads : Bytes → Bool) (seen : (x : Bytes) → reads x ≡ true → is_among x (names_of vs) ≡ true) where
    abbrev names : Names
    names = record { reads = reads; arity = arity_in (functions_of all) }

    scopes : (frame : Bits) (store : Store) → Stands vs frame store → ScopesAgree names usable ws (scope_over (slots_of vs) frames n frame) (scope_in calls store)
    scopes frame store h = record {
      reads = λ x r. read calls (frames x) n x vs store frame h (λ none. absurd (widthless vs x (seen x r) none));
      bare = λ x a u. read calls (frames x) n x vs store frame h (λ none. bare_case x (known x) refl (ready x 0 a u));
      calls = λ x k a u. call_case x (known x) k refl (ready x k a u);
    }

    widths : (frame : Bits) (store : Store) → Stands vs frame store → KeepsWidths names usable ws (scope_in calls store)
    widths frame store h = record {
      reads = λ x r. read_width vs store h.widths calls x (seen x r);
      bare = λ x a u. value_width vs store h.widths calls x (known x) (gives_bare (known x) (calls x) (ready x 0 a u));
      calls = ready;
    }

    worlds : WorldsAgree Bits Store (Stands vs) names assignable usable ws over (function_world calls)
    worlds = record {
      scopes = scopes;
      widths = widths;
      targets = λ x a. has_a_width vs x (among_later x (parameter_vars f.params f.vars) f.vars a);
      assign = λ x a value k frame store h. write x value vs store frame h k;
      rising = refl;
      reset = refl;
    }

  abbrev all_read : Bytes → Bool
  all_read x = is_among x (names_of vs)

  abbrev variables_read : Bytes → Bool
  variables_read x = is_among x (names_of f.vars)

  variables_seen : (x : Bytes) → variables_read x ≡ true → is_among x (names_of vs) ≡ true
  variables_seen x a = among_later x (parameter_vars f.params f.vars) f.vars a

  copied : (frame : Bits) (store : Store) → Stands vs frame store → Stands vs (stmts_of Bits (take (length f.params) f.body) over frame) (stmts_of Store (take (length f.params) f.body) (function_world calls) store)
  copied frame store h =
      agreeing_stmts Bits Store (Stands vs) (names all_read (λ x a. a)) assignable usable ws over (function_world calls) (worlds all_read (λ x a. a)) false (take (length f.params) f.body)
      (copies_well (names all_read (λ x a. a)) assignable f.params f.vars f.body begins (λ p a. among_earlier p (parameter_vars f.params f.vars) f.vars a) (λ x a. a))
      (all_taken (stmt_uses_earlier usable) (length f.params) f.body early_body) (all_taken (stmt_fits ws) (length f.params) f.body body_fits) frame store h

  body_stands : (frame : Bits) (store : Store) → Stands vs frame store → Stands vs (stmts_of Bits f.body over frame) (stmts_of Store f.body (function_world calls) store)
  body_stands frame store h =
      let k = length f.params in
      subst (λ (b : Bits). Stands vs b (stmts_of Store f.body (function_world calls) store)) (in_two Bits k f.body over frame)
      (subst (Stands vs (stmts_of Bits (drop k f.body) over (stmts_of Bits (take k f.body) over frame))) (in_two Store k f.body (function_world calls) store)
      (agreeing_stmts Bits Store (Stands vs) (names variables_read variables_seen) assignable usable ws over (function_world calls) (worlds variables_read variables_seen) false (drop k f.body)
      rest_well (all_dropped (stmt_uses_earlier usable) k f.body early_body) (all_dropped (stmt_fits ws) k f.body body_fits)
      (stmts_of Bits (take k f.body) over frame) (stmts_of Store (take k f.body) (function_world calls) store) (copied frame store h)))

  -- the result over the frame as the call finds it
  pub gives_value : (g : Frame) → IsFrameOf frames n f g → (args : List Bits) → map length args ≡ parameter_widths f → g.run.value n (filled g.size (flat_map (λ a. a) args)) ≡ function_value calls f args
  gives_value g is args e =
      let frame : Bits = stmts_of Bits f.body over (filled g.size (flat_map (λ a. a) args)) in
      let store : Store = stmts_of Store f.body (function_world calls) (entered f args) in
      let h : Stands vs frame store = body_stands (filled g.size (flat_map (λ a. a) args)) (entered f args) (entering f begins g.size is.fills args e) in
      is.gives n (filled g.size (flat_map (λ a. a) args))
      ∙ agrees (names variables_read variables_seen) usable ws (scope_over (slots_of vs) frames n frame) (scope_in calls store) (scopes variables_read variables_seen frame store h)
      (widths variables_read variables_seen frame store h) f.result result_well early_result result_fits
