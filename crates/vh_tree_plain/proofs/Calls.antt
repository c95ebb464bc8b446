-- The functions of items, one item longer.
use Rattle.std.proofs.Common.{◌≡◌, List, [], ◌∷◌, ◌++◌, map, Bool, true, false, if◌then◌else◌, refl, ap, sym, ◌∙◌}
use Rattle.vh_tree.specs.Bits.{Bytes, Bits, same_name}
use Rattle.vh_tree.specs.Functions.{Calls, Scope, Store, expr_of, scope_in, function_value, declared, calls_after, calls_of}
use Rattle.vh_tree_equations.specs.Equations.{expr_of-Call}
use Rattle.vh_tree.specs.declared.expr.VExpr.{VExpr}
use Rattle.vh_tree.specs.declared.expr.VExpr.TheVariants.{Call}
use Rattle.vh_tree.specs.declared.function.Function.{Function}
use Rattle.vh_tree.specs.declared.function.Var.{Var}
use Rattle.vh_tree.specs.declared.design.Item.{Item}
use Rattle.vh_tree.specs.declared.design.Item.TheVariants.{Signal, Function as Declared}

after_function : (calls : Calls) (items : List Item) (f : Function) → calls_after calls (items ++ Declared f ∷ []) ≡ declared f (calls_after calls items)
after_function calls [] f = refl
after_function calls (Signal v ∷ items) f = after_function calls items f
after_function calls (Declared g ∷ items) f = after_function (declared g calls) items f

after_signal : (calls : Calls) (items : List Item) (v : Var) → calls_after calls (items ++ Signal v ∷ []) ≡ calls_after calls items
after_signal calls [] v = refl
after_signal calls (Signal u ∷ items) v = after_signal calls items v
after_signal calls (Declared g ∷ items) v = after_signal (declared g calls) items v

pub calls_function : (items : List Item) (f : Function) → calls_of (items ++ Declared f ∷ []) ≡ declared f (calls_of items)
calls_function items f = after_function (λ x args. []) items f

pub calls_signal : (items : List Item) (v : Var) → calls_of (items ++ Signal v ∷ []) ≡ calls_of items
calls_signal items v = after_signal (λ x args. []) items v

pub last_signal : (items : List Item) (item : Item) (v : Var) → item ≡ Signal v → (x : Bytes) (args : List Bits) → calls_of items x args ≡ calls_of (items ++ item ∷ []) x args
last_signal items item v is x args = sym (ap (λ i. calls_of (items ++ i ∷ []) x args) is ∙ ap (λ (calls : Calls). calls x args) (calls_signal items v))

declared_case : (b : Bool) (f : Function) (calls : Calls) (x : Bytes) (args : List Bits) → same_name f.name x ≡ b → declared f calls x args ≡ (if b then function_value calls f args else calls x args)
declared_case b f calls x args e = ap (λ c. if c then function_value calls f args else calls x args) e

pub last_same : (items : List Item) (item : Item) (f : Function) → item ≡ Declared f → (x : Bytes) (args : List Bits) → same_name f.name x ≡ true → function_value (calls_of items) f args ≡ calls_of (items ++ item ∷ []) x args
last_same items item f is x args e =
    sym (ap (λ i. calls_of (items ++ i ∷ []) x args) is ∙ ap (λ (calls : Calls). calls x args) (calls_function items f) ∙ declared_case true f (calls_of items) x args e)

pub last_other : (items : List Item) (item : Item) (f : Function) → item ≡ Declared f → (x : Bytes) (args : List Bits) → same_name f.name x ≡ false → calls_of items x args ≡ calls_of (items ++ item ∷ []) x args
last_other items item f is x args e =
    sym (ap (λ i. calls_of (items ++ i ∷ []) x args) is ∙ ap (λ (calls : Calls). calls x args) (calls_function items f) ∙ declared_case false f (calls_of items) x args e)

each_valued : (args : List VExpr) (s : Scope) → map (λ (a : Scope → Bits). a s) (map expr_of args) ≡ map (λ a. expr_of a s) args
each_valued [] s = refl
each_valued (a ∷ args) s = ap (λ (vs : List Bits). expr_of a s ∷ vs) (each_valued args s)

pub call_value : (e : VExpr) (f : Bytes) (args : List VExpr) (vs : List Bits) (calls : Calls) (store : Store) → e ≡ Call f args → vs ≡ map (λ a. expr_of a (scope_in calls store)) args →
    calls f vs ≡ expr_of e (scope_in calls store)
call_value e f args vs calls store is values =
    sym (ap (λ t. expr_of t (scope_in calls store)) is ∙ expr_of-Call f args (scope_in calls store) ∙ ap (calls f) (each_valued args (scope_in calls store) ∙ sym values))
