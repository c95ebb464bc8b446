-- What functions and processes name, over what is known of the items of their design.
use Rattle.std.proofs.Common.{◌≡◌, ℕ, Bool, true, false, not, List, [], ◌∷◌, ◌++◌, length, drop, codes, is_some, refl, sym, ap, ◌∙◌}
use Rattle.std.specs.Prelude.{◌&&◌, ◌||◌}
use Rattle.std.specs.List.{list_all}
use Rattle.vh_tree.specs.Bits.{Bytes, is_among, same_name}
use Rattle.vh_tree.specs.StaticRules.{are_distinct, arity_in, begins_with_copies, breaks_names, declared_signals, function_names_well, functions_of, item_names, names_of, names_in_function, names_well, port, process_names_well, stmt_names_well, width_among}
use Rattle.vh_tree.specs.declared.function.Var.{Var}
use Rattle.vh_tree.specs.declared.function.Function.{Function}
use Rattle.vh_tree.specs.declared.design.Item.{Item}
use Rattle.vh_tree.specs.declared.design.Design.{Design}
use Rattle.vh_tree_static.specs.declared.names.Wires.{Wires}
use Rattle.rw_base_tables.specs.Tables.{Known}
use Rattle.vh_tree_static.specs.Named.{IsWires, are_apart, body_well, function_well, own_names, process_well, stmt_well}
use Rattle.vh_tree_static.proofs.Behind.{distinct_behind}
use Rattle.vh_tree_static.proofs.FromTheLast.{one_more}
use Rattle.rw_base_tables.proofs.Same.{swapped}

-- what has a width is one of the variables
has_width : (vars : List Var) (x : Bytes) → is_some (width_among vars x) ≡ is_among x (names_of vars)
has_width [] x = refl
has_width (v ∷ vars) x = one_more (same_name v.name x) v.width (width_among vars x) ∙ ap (λ b. b || is_some (width_among vars x)) (swapped v.name x) ∙ ap (λ b. same_name x v.name || b) (has_width vars x)

module _ (w : Wires) (d : Design) (h : IsWires w d) (arities : Known ℕ) (known : arities ≡ arity_in (functions_of d.items)) where
  abbrev heard : List Var
  heard = port (codes "clk") 1 ∷ port (codes "rst") 1 ∷ port (codes "inp") d.inp ∷ declared_signals d.items

  abbrev read : List Var
  read = port (codes "inp") d.inp ∷ declared_signals d.items

  abbrev driven : List Var
  driven = port (codes "outp") d.outp ∷ declared_signals d.items

  pub wired : process_well arities w ≡ process_names_well d.items
  wired = ap (λ (a : Known ℕ). process_well a w) known ∙ (λ i p. list_all (λ x. is_some (h.0 i x)) p.sensitive && are_distinct p.sensitive && list_all (stmt_well (arity_in (functions_of d.items)) (h.1 i) (h.2 i) true) p.body)
      ∙ (λ i p. list_all (λ x. has_width heard x i) p.sensitive && are_distinct p.sensitive
      && list_all (stmt_names_well (record { reads = λ x. has_width read x i; arity = arity_in (functions_of d.items) }) (λ x. has_width driven x i) true) p.body)

regroup : (a b c d : Bool) → (a && (b && c && d)) ≡ (a && b && c && d)
regroup true b c d = refl
regroup false b c d = refl

module _ (items : List Item) (declared : Known (Unit {0})) (distinct : are_distinct (item_names items) ≡ true) (known : (x : Bytes) → is_some (declared x) ≡ is_among x (item_names items)) where
  apart : (names : List Bytes) → are_apart declared names ≡ are_distinct (item_names items ++ names)
  apart names =
      (λ i. are_distinct names && list_all (λ x. not (known x i)) names)
      ∙ sym (distinct_behind (item_names items) names ∙ ap (λ b. b && (are_distinct names && list_all (λ y. not (is_among y (item_names items))) names)) distinct)

  over_variables : (f : Function) → body_well (arity_in (functions_of items)) (width_among f.vars) f ≡ (begins_with_copies f.params f.vars f.body
      && list_all (stmt_names_well (names_in_function items f) (λ x. is_among x (names_of f.vars)) false) (drop (length f.params) f.body)
      && names_well (names_in_function items f) f.result)
  over_variables f = λ i. begins_with_copies f.params f.vars f.body
      && list_all (stmt_names_well (record { reads = λ x. has_width f.vars x i; arity = arity_in (functions_of items) }) (λ x. has_width f.vars x i) false) (drop (length f.params) f.body)
      && names_well (record { reads = λ x. has_width f.vars x i; arity = arity_in (functions_of items) }) f.result

  functions_named : (arities : Known ℕ) → arities ≡ arity_in (functions_of items) → function_well declared arities ≡ function_names_well items
  functions_named arities a =
      ap (function_well declared) a ∙ (λ i f. apart (own_names f) i && over_variables f i)
      ∙ (λ i f. regroup (are_distinct (item_names items ++ own_names f)) (begins_with_copies f.params f.vars f.body)
      (list_all (stmt_names_well (names_in_function items f) (λ x. is_among x (names_of f.vars)) false) (drop (length f.params) f.body)) (names_well (names_in_function items f) f.result) i)

module _ (d : Design) (declared : Known (Unit {0})) (distinct : are_distinct (item_names d.items) ≡ true) (known : (x : Bytes) → is_some (declared x) ≡ is_among x (item_names d.items)) (arities : Known ℕ) (items : List Item)
    (is : items ≡ d.items) (known_arities : arities ≡ arity_in (functions_of items)) where
  functions_judged : (b : Bool) → list_all (function_well declared arities) (functions_of items) ≡ b → (are_distinct (item_names d.items) && list_all (function_names_well d.items) (functions_of d.items)) ≡ b
  functions_judged b h =
      ap (λ z. z && list_all (function_names_well d.items) (functions_of d.items)) distinct
      ∙ ap (λ (well : Function → Bool). list_all well (functions_of d.items)) (sym (functions_named d.items declared distinct known arities (known_arities ∙ ap (λ (s : List Item). arity_in (functions_of s)) is)))
      ∙ ap (λ (s : List Item). list_all (function_well declared arities) (functions_of s)) (sym is) ∙ h

  -- where the functions are named well, what counts is the processes
  pub names_judged : (b : Bool) → list_all (function_well declared arities) (functions_of items) ≡ true → b ≡ list_all (process_names_well d.items) d.processes → not b ≡ breaks_names d
  names_judged b f p = ap not p ∙ ap (λ z. not (z && list_all (process_names_well d.items) d.processes)) (sym (functions_judged true f))

  -- and where they aren't, it is broken
  pub names_broken : list_all (function_well declared arities) (functions_of items) ≡ false → true ≡ breaks_names d
  names_broken f = ap (λ z. not (z && list_all (process_names_well d.items) d.processes)) (sym (functions_judged false f))
