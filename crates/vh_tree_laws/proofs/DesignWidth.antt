-- In a static design each function, and each expression of a process, gives a value of its width.
use Rattle.std.proofs.Common.{◌≡◌, ℕ, List, [], ◌∷◌, length, map, Bool, true, false, not, ◌&&◌, ◌||◌, ◌⊎◌, inl, inr, refl, ap, sym, subst, ◌∙◌, Option, Some, None, is_some, eqb→eq, T, if◌then◌else◌, codes}
use Rattle.std.specs.List.{list_all, AllByRecursion}
use Rattle.std.proofs.Common.{eq-eqb}
use mathlib.Core.Bool.{true≢false}
use Rattle.vh_tree.specs.Bits.{Bytes, Bits, same_name, is_among}
use Rattle.vh_tree.specs.Functions.{Calls, Store, expr_of, scope_in, function_value, declared, calls_after, calls_of}
use Rattle.vh_tree.specs.StaticRules.{Shape, has_arity, arity_in, functions_of, item_names, names_of, signal_names, are_distinct, all_true, function_names_well, process_names_well, names_in_process, names_well, measured, stmt_fits, shape_of, shaped, is_width, function_fits, items_fit, shapes_after, shapes_of, uses_earlier, function_uses_earlier, all_use_earlier, process_vars, widths_in_process, IsStatic}
use Rattle.vh_tree.specs.Widths.{HasWidth, GivesWidth, KeepsWidths, StoreHasWidths}
use Rattle.vh_tree_equations.specs.Equations.{uses_earlier-Name, uses_earlier-Slice, uses_earlier-Literal, uses_earlier-Call, uses_earlier-Join}
use Rattle.vh_tree_equations.specs.Induction.{every_expr}
use Rattle.vh_tree.specs.declared.expr.VExpr.{VExpr}
use Rattle.vh_tree.specs.declared.function.Function.{Function}
use Rattle.vh_tree.specs.declared.design.Item.{Item}
use Rattle.vh_tree.specs.declared.design.Item.TheVariants.{Signal, Function as Declared}
use Rattle.vh_tree.specs.declared.design.Design.{Design}
use Rattle.vh_tree_laws.proofs.Comparisons.{both_left, both_right, both_so, either_cases, either_left, either_right, name_self, name_same, name_turned, not_false}
use Rattle.vh_tree_laws.proofs.Stores.{value_width, read_width}
use Rattle.vh_tree_laws.proofs.ExprWidth.{has_width}
use Rattle.vh_tree_laws.proofs.FunctionWidth.{gives_bare, gives_width}

abbrev function_names : List Function → List Bytes
function_names fs = map (λ g. g.name) fs

-- a name with an arity is a function's, and a function's name has one
named_step : (b : Bool) (x y : Bytes) (names : List Bytes) (n k : ℕ) (rest : Option ℕ) → same_name y x ≡ b → (has_arity rest k ≡ true → is_among x names ≡ true) →
    has_arity (if b then Some n else rest) k ≡ true → is_among x (y ∷ names) ≡ true
named_step true x y names n k rest e h a = either_left (same_name x y) (is_among x names) (name_turned y x e)
named_step false x y names n k rest e h a = either_right (same_name x y) (is_among x names) (h a)

arity_named : (fs : List Function) (x : Bytes) (k : ℕ) → has_arity (arity_in fs x) k ≡ true → is_among x (function_names fs) ≡ true
arity_named [] x k a = absurd (true≢false (sym a))
arity_named (f ∷ fs) x k a = named_step (same_name f.name x) x f.name (function_names fs) (length f.params) k (arity_in fs x) refl (arity_named fs x k) a

found_step : (b : Bool) (n : ℕ) (rest : Option ℕ) → (b ≡ false → (k : ℕ) × (has_arity rest k ≡ true)) → (k : ℕ) × (has_arity (if b then Some n else rest) k ≡ true)
found_step true n rest h = (n, eq-eqb n n refl)
found_step false n rest h = h refl

left_over : (x y : Bytes) (names : List Bytes) → same_name y x ≡ false → (same_name x y ≡ true) ⊎ (is_among x names ≡ true) → is_among x names ≡ true
left_over x y names ne (inl e) = absurd (true≢false (sym (name_turned x y e) ∙ ne))
left_over x y names ne (inr a) = a

named_arity : (fs : List Function) (x : Bytes) → is_among x (function_names fs) ≡ true → (k : ℕ) × (has_arity (arity_in fs x) k ≡ true)
named_arity [] x a = absurd (true≢false (sym a))
named_arity (f ∷ fs) x a =
    found_step (same_name f.name x) (length f.params) (arity_in fs x) (λ ne. named_arity fs x (left_over x f.name (function_names fs) ne (either_cases (same_name x f.name) (is_among x (function_names fs)) a)))

-- where names are distinct, each function's name has its arity
abbrev HasOwn : List Function → Function → Type 0
HasOwn fs g = arity_in fs g.name ≡ Some (length g.params)

neither_left : (a b : Bool) → not (a || b) ≡ true → a ≡ false
neither_left true b h = absurd (true≢false (sym h))
neither_left false b h = refl

neither_right : (a b : Bool) → not (a || b) ≡ true → not b ≡ true
neither_right true b h = absurd (true≢false (sym h))
neither_right false b h = h

lifted : (f : Function) (fs gs : List Function) → not (is_among f.name (function_names gs)) ≡ true → AllByRecursion (HasOwn fs) gs → AllByRecursion (HasOwn (f ∷ fs)) gs
lifted f fs [] h each = tt
lifted f fs (g ∷ gs) h each = (
  ap (λ b. if b then Some (length f.params) else arity_in fs g.name) (neither_left (same_name f.name g.name) (is_among f.name (function_names gs)) h) ∙ each.0,
  lifted f fs gs (neither_right (same_name f.name g.name) (is_among f.name (function_names gs)) h) each.1,
)

name_self' : (f : Function) → same_name f.name f.name ≡ true
name_self' f = name_self f.name

arities : (fs : List Function) → are_distinct (function_names fs) ≡ true → AllByRecursion (HasOwn fs) fs
arities [] h = tt
arities (f ∷ fs) h = (
  ap (λ b. if b then Some (length f.params) else arity_in fs f.name) (name_self' f),
  lifted f fs fs (both_left (not (is_among f.name (function_names fs))) (are_distinct (function_names fs)) h) (arities fs (both_right (not (is_among f.name (function_names fs))) (are_distinct (function_names fs)) h)),
)

fewer_step : (x y : Bytes) (names more : List Bytes) → (is_among x names ≡ true → is_among x more ≡ true) → (same_name x y ≡ true) ⊎ (is_among x names ≡ true) → is_among x (y ∷ more) ≡ true
fewer_step x y names more h (inl e) = either_left (same_name x y) (is_among x more) e
fewer_step x y names more h (inr a) = either_right (same_name x y) (is_among x more) (h a)

fewer : (x : Bytes) (items : List Item) → is_among x (function_names (functions_of items)) ≡ true → is_among x (item_names items) ≡ true
fewer x [] a = a
fewer x (Signal v ∷ items) a = either_right (same_name x v.name) (is_among x (item_names items)) (fewer x items a)
fewer x (Declared f ∷ items) a =
    fewer_step x f.name (function_names (functions_of items)) (item_names items) (fewer x items) (either_cases (same_name x f.name) (is_among x (function_names (functions_of items))) a)

not_fewer : (a b : Bool) → (a ≡ true → b ≡ true) → not b ≡ true → not a ≡ true
not_fewer true true h k = k
not_fewer true false h k = absurd (true≢false (sym (h refl)))
not_fewer false b h k = refl

distinct_functions : (items : List Item) → are_distinct (item_names items) ≡ true → are_distinct (function_names (functions_of items)) ≡ true
distinct_functions [] h = refl
distinct_functions (Signal v ∷ items) h = distinct_functions items (both_right (not (is_among v.name (item_names items))) (are_distinct (item_names items)) h)
distinct_functions (Declared f ∷ items) h =
    both_so (not (is_among f.name (function_names (functions_of items)))) (are_distinct (function_names (functions_of items)))
    (not_fewer (is_among f.name (function_names (functions_of items))) (is_among f.name (item_names items)) (fewer f.name items) (both_left (not (is_among f.name (item_names items))) (are_distinct (item_names items)) h))
    (distinct_functions items (both_right (not (is_among f.name (item_names items))) (are_distinct (item_names items)) h))

picked : (b : Bool) (k : ℕ) (shape : Shape) (known : Option Shape) (own other : List Bits → Bits) → (b ≡ true → GivesWidth (Some shape) k own) → (b ≡ false → GivesWidth known k other) →
    GivesWidth (if b then Some shape else known) k (λ args. if b then own args else other args)
picked true k shape known own other h g = h refl
picked false k shape known own other h g = g refl

module _ (all : List Item) where
  -- the functions that are declared give their widths
  abbrev Ready : (Bytes → Option Shape) → Calls → List Function → Type 0
  Ready known calls fs = (x : Bytes) (k : ℕ) → has_arity (arity_in (functions_of all) x) k ≡ true → not (is_among x (function_names fs)) ≡ true → GivesWidth (known x) k (calls x)

  own_arity : (f : Function) (x : Bytes) (k : ℕ) → HasOwn (functions_of all) f → has_arity (arity_in (functions_of all) x) k ≡ true → same_name f.name x ≡ true → length f.params ≡ k
  own_arity f x k own a e =
      eqb→eq (length f.params) k (subst T (sym (subst (λ w. has_arity w k ≡ true) (ap (arity_in (functions_of all)) (sym (name_same f.name x e)) ∙ own) a)) tt)

  one_more : (f : Function) (fs : List Function) (known : Bytes → Option Shape) (calls : Calls) → HasOwn (functions_of all) f → Ready known calls (f ∷ fs) →
      GivesWidth (Some (shape_of known f)) (length f.params) (function_value calls f) → Ready (shaped f known) (declared f calls) fs
  one_more f fs known calls own ready gives x k a u =
      picked (same_name f.name x) k (shape_of known f) (known x) (function_value calls f) (calls x)
      (λ e. subst (λ j. GivesWidth (Some (shape_of known f)) j (function_value calls f)) (own_arity f x k own a e) gives)
      (λ ne. ready x k a (not_fewer (is_among x (f.name ∷ function_names fs)) (is_among x (function_names fs)) (λ b. left_over x f.name (function_names fs) ne (either_cases (same_name x f.name) (is_among x (function_names fs)) b)) u))

  items_ready : (items : List Item) (known : Bytes → Option Shape) (calls : Calls) → items_fit known items ≡ true → list_all (function_names_well all) (functions_of items) ≡ true →
      all_use_earlier (functions_of items) ≡ true → AllByRecursion (HasOwn (functions_of all)) (functions_of items) → Ready known calls (functions_of items) → Ready (shapes_after known items) (calls_after calls items) []
  items_ready [] known calls fit named order own ready = ready
  items_ready (Signal v ∷ items) known calls fit named order own ready = items_ready items known calls (both_right (is_width v.width) (items_fit known items) fit) named order own ready
  items_ready (Declared f ∷ items) known calls fit named order own ready =
      let fs = functions_of items in
      let usable : Bytes → Bool = λ x. not (is_among x (function_names (f ∷ fs))) in
      items_ready items (shaped f known) (declared f calls) (both_right (function_fits known f) (items_fit (shaped f known) items) fit)
      (both_right (function_names_well all f) (list_all (function_names_well all) fs) named) (both_right (function_uses_earlier usable f) (all_use_earlier fs) order) own.1
      (one_more f fs known calls own.0 ready
      (gives_width all f known calls usable ready (both_left (function_names_well all f) (list_all (function_names_well all) fs) named) (both_left (function_fits known f) (items_fit (shaped f known) items) fit)
      (both_left (function_uses_earlier usable f) (all_use_earlier fs) order)))

none_ready : (all : List Item) → Ready all (λ x. None) (λ x args. []) (functions_of all)
none_ready all x k a u = absurd (true≢false (sym u ∙ ap not (arity_named (functions_of all) x k a)))

-- a known shape is a function's
step_shaped : (b : Bool) (x y : Bytes) (names : List Bytes) (shape known : Option Shape) → same_name y x ≡ b → is_some (if b then shape else known) ≡ true → (is_some known ≡ true) ⊎ (is_among x (y ∷ names) ≡ true)
step_shaped true x y names shape known e h = inr (either_left (same_name x y) (is_among x names) (name_turned y x e))
step_shaped false x y names shape known e h = inl h

shape_named : (items : List Item) (known : Bytes → Option Shape) (x : Bytes) → is_some (shapes_after known items x) ≡ true → (is_some (known x) ≡ true) ⊎ (is_among x (function_names (functions_of items)) ≡ true)
shape_named [] known x h = inl h
shape_named (Signal v ∷ items) known x h = shape_named items known x h
shape_named (Declared f ∷ items) known x h =
    elim (shape_named items (shaped f known) x h) [
      | inl e ↦ step_shaped (same_name f.name x) x f.name (function_names (functions_of items)) (Some (shape_of known f)) (known x) refl e
      | inr a ↦ inr (either_right (same_name x f.name) (is_among x (function_names (functions_of items))) a)
    ]

of_functions : (fs : List Function) (x : Bytes) → (false ≡ true) ⊎ (is_among x (function_names fs) ≡ true) → (k : ℕ) × (has_arity (arity_in fs x) k ≡ true)
of_functions fs x (inl e) = absurd (true≢false (sym e))
of_functions fs x (inr a) = named_arity fs x a

-- nothing is barred where all functions are declared
all_usable : (es : List VExpr) → AllByRecursion (λ e. uses_earlier (λ x. true) e ≡ true) es → all_true (map (uses_earlier (λ x. true)) es) ≡ true
all_usable [] each = refl
all_usable (e ∷ es) each = both_so (uses_earlier (λ x. true) e) (all_true (map (uses_earlier (λ x. true)) es)) each.0 (all_usable es each.1)

usable_all : (e : VExpr) → uses_earlier (λ x. true) e ≡ true
usable_all = every_expr (λ e. uses_earlier (λ x. true) e ≡ true) (record {
  name = λ x. uses_earlier-Name (λ x. true) x;
  slice = λ x a b. uses_earlier-Slice (λ x. true) x a b;
  literal = λ bits. uses_earlier-Literal (λ x. true) bits;
  call = λ f args each. uses_earlier-Call (λ x. true) f args ∙ all_usable args each;
  join = λ parts each. uses_earlier-Join (λ x. true) parts ∙ all_usable parts each;
})

module _ (d : Design) (static : IsStatic d) where
  names_hold : (are_distinct (item_names d.items) && list_all (function_names_well d.items) (functions_of d.items)) ≡ true
  names_hold = both_left (are_distinct (item_names d.items) && list_all (function_names_well d.items) (functions_of d.items)) (list_all (process_names_well d.items) d.processes)
      (not_false (are_distinct (item_names d.items) && list_all (function_names_well d.items) (functions_of d.items) && list_all (process_names_well d.items) d.processes) static.names)

  items_hold : items_fit (λ x. None) d.items ≡ true
  items_hold =
      let last = list_all (λ p. list_all (stmt_fits (widths_in_process d)) p.body) d.processes in
      both_right (is_width d.inp && is_width d.outp) (items_fit (λ x. None) d.items)
      (both_left (is_width d.inp && is_width d.outp && items_fit (λ x. None) d.items) last (not_false (is_width d.inp && is_width d.outp && items_fit (λ x. None) d.items && last) static.widths))

  pub ready : Ready d.items (shapes_of d.items) (calls_of d.items) []
  ready = items_ready d.items d.items (λ x. None) (λ x args. []) items_hold
      (both_right (are_distinct (item_names d.items)) (list_all (function_names_well d.items) (functions_of d.items)) names_hold)
      (not_false (all_use_earlier (functions_of d.items)) static.order)
      (arities (functions_of d.items) (distinct_functions d.items (both_left (are_distinct (item_names d.items)) (list_all (function_names_well d.items) (functions_of d.items)) names_hold)))
      (none_ready d.items)

  pub functions_width : (x : Bytes) (shape : Shape) → shapes_of d.items x ≡ Some shape → (args : List Bits) → map length args ≡ shape.params → HasWidth shape.result (calls_of d.items x args)
  functions_width x shape e args h =
      let named = of_functions (functions_of d.items) x (shape_named d.items (λ y. None) x (ap is_some e)) in
      (subst (λ w. GivesWidth w named.0 (calls_of d.items x)) e (ready x named.0 named.1 refl)).1 args h

  read_case : (x : Bytes) → (same_name x (codes "inp") ≡ true) ⊎ (is_among x (signal_names d.items) ≡ true) → is_among x (names_of (process_vars d)) ≡ true
  read_case x (inl e) =
      either_right (same_name x (codes "clk")) (is_among x (codes "rst" ∷ codes "inp" ∷ codes "outp" ∷ signal_names d.items))
      (either_right (same_name x (codes "rst")) (is_among x (codes "inp" ∷ codes "outp" ∷ signal_names d.items))
      (either_left (same_name x (codes "inp")) (is_among x (codes "outp" ∷ signal_names d.items)) e))
  read_case x (inr a) =
      either_right (same_name x (codes "clk")) (is_among x (codes "rst" ∷ codes "inp" ∷ codes "outp" ∷ signal_names d.items))
      (either_right (same_name x (codes "rst")) (is_among x (codes "inp" ∷ codes "outp" ∷ signal_names d.items))
      (either_right (same_name x (codes "inp")) (is_among x (codes "outp" ∷ signal_names d.items)) (either_right (same_name x (codes "outp")) (is_among x (signal_names d.items)) a)))

  pub process_scopes : (store : Store) → StoreHasWidths (process_vars d) store → KeepsWidths (names_in_process d.items) (λ x. true) (widths_in_process d) (scope_in (calls_of d.items) store)
  process_scopes store h = record {
    reads = λ x r. read_width (process_vars d) store h (calls_of d.items) x (read_case x (either_cases (same_name x (codes "inp")) (is_among x (signal_names d.items)) r));
    bare = λ x a u. value_width (process_vars d) store h (calls_of d.items) x (shapes_of d.items x) (gives_bare (shapes_of d.items x) (calls_of d.items x) (ready x 0 a refl));
    calls = λ x k a u. ready x k a refl;
  }

  pub processes_width : (store : Store) → StoreHasWidths (process_vars d) store → (e : VExpr) → names_well (names_in_process d.items) e ≡ true → (measured (widths_in_process d) e).fits ≡ true →
      HasWidth (measured (widths_in_process d) e).width (expr_of e (scope_in (calls_of d.items) store))
  processes_width store h e n f = has_width (names_in_process d.items) (λ x. true) (widths_in_process d) (scope_in (calls_of d.items) store) (process_scopes store h) e n (usable_all e) f
