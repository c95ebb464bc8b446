-- Tables that are filled from the last element back.
use Rattle.std.proofs.Common.{◌≡◌, ℕ, ◌+◌, ◌<◌, List, ◌∷◌, drop, length, get_or, Some, sym, ap, ◌∙◌, if◌then◌else◌}
use Rattle.vh_tree.specs.Bits.{Bytes, same_name}
use Rattle.vh_tree.specs.StaticRules.{arity_in, functions_of, width_among}
use Rattle.vh_tree.specs.declared.function.Var.{Var}
use Rattle.vh_tree.specs.declared.design.Item.{Item}
use Rattle.vh_tree.specs.declared.design.Item.TheVariants.{Signal, Function as Declared}
use Rattle.vh_tree_static.specs.Rules.{and_arity}
use Rattle.rw_base_tables.specs.Tables.{Known, put}
use Rattle.vh_tree_static.proofs.Here.{cons_at}

-- a variable more
pub var_more : (vars : List Var) (i j : ℕ) (v : Var) → j ≡ i + 1 → i < length vars → v ≡ get_or vars i v → (n x : Bytes) (old : Known ℕ) → n ≡ v.name → old x ≡ width_among (drop j vars) x → put n v.width old x ≡ width_among (drop i vars) x
var_more vars i j v next lt is n x old e h =
    ap (λ z. if same_name z x then Some v.width else old x) e ∙ ap (λ r. if same_name v.name x then Some v.width else r) h
    ∙ ap (λ (vs : List Var). width_among vs x) (sym (cons_at vars i v lt is ∙ ap (λ k. v ∷ drop k vars) (sym next)))

with_item : (item : Item) (items : List Item) (old : Known ℕ) (x : Bytes) → old x ≡ arity_in (functions_of items) x → and_arity item old x ≡ arity_in (functions_of (item ∷ items)) x
with_item (Signal v) items old x h = h
with_item (Declared f) items old x h = ap (λ r. if same_name f.name x then Some (length f.params) else r) h

-- an item more
pub item_more : (items : List Item) (i j : ℕ) (item : Item) → j ≡ i + 1 → i < length items → item ≡ get_or items i item → (x : Bytes) (old : Known ℕ) → old x ≡ arity_in (functions_of (drop j items)) x → and_arity item old x ≡ arity_in (functions_of (drop i items)) x
item_more items i j item next lt is x old h =
    with_item item (drop j items) old x h ∙ ap (λ (s : List Item). arity_in (functions_of s) x) (sym (cons_at items i item lt is ∙ ap (λ k. item ∷ drop k items) (sym next)))
