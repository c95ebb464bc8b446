-- What is placed of a group stands in the group.
use Rattle.std.proofs.Common.{◌≡◌, ℕ, zero, suc, ◌+◌, Bool, true, false, if◌then◌else◌, List, [], ◌∷◌, length, Option, Some, None, refl, arith, subst}
use Rattle.std.specs.List.{AllByRecursion}
use Rattle.std.specs.Option.{IfSome}
use Rattle.rw_scope_rules.specs.Nodes.{bindings_of}
use Rattle.rw_scope_orders.specs.Placing.{next, without_next, before, placed_in}
use Rattle.rw_scope_orders.specs.Groups.{Numbered, numbered, waits}
use Rattle.rw_tree.specs.Trees.{LocalBinding, LocalBindings, no_bindings, more_bindings}
use Rattle.rw_types_rules.specs.TypedTrees.{TypedNode}
use Rattle.inline_ho_rules.specs.Meants.{StandsIn, stands_here, stands_later}
use Rattle.inline_ho_rules.specs.TypedFlattening.{typed_binding, order_of, first_name}

module _ {B : Type 0} (P : B → Type 0) (waits : List B → B → Bool) where
  next_holds : (left bs : List B) → AllByRecursion P bs → IfSome (next waits left bs) P
  next_holds left [] h = tt
  next_holds left (b ∷ bs) h = by_test (waits left b) (next_holds left bs h.1)
    where
      by_test : (t : Bool) → IfSome (next waits left bs) P → IfSome (if t then next waits left bs else Some b) P
      by_test true k = k
      by_test false k = h.0

  others_hold : (left bs : List B) → AllByRecursion P bs → AllByRecursion P (without_next waits left bs)
  others_hold left [] h = tt
  others_hold left (b ∷ bs) h = by_test (waits left b) (others_hold left bs h.1)
    where
      by_test : (t : Bool) → AllByRecursion P (without_next waits left bs) → AllByRecursion P (if t then b ∷ without_next waits left bs else bs)
      by_test true k = (h.0, k)
      by_test false k = h.1

  before_holds : (x : Option B) (bs : List B) → IfSome x P → AllByRecursion P bs → AllByRecursion P (before waits x bs)
  before_holds None bs h k = tt
  before_holds (Some b) bs h k = (h, k)

  steps_hold : (n : ℕ) (left : List B) → AllByRecursion P left → AllByRecursion P (placed_in waits n left)
  steps_hold zero left h = tt
  steps_hold (suc n) left h = before_holds (next waits left left) (placed_in waits n (without_next waits left left)) (next_holds left left h) (steps_hold n (without_next waits left left) (others_hold left left h))

numbered_hold : (P : Numbered TypedNode → Type 0) (k : ℕ) (bs : LocalBindings TypedNode) → ((i : ℕ) (b : LocalBinding TypedNode) → StandsIn bs (first_name (bindings_of bs) i) b → P (k + i, b)) → AllByRecursion P (numbered k (bindings_of bs))
numbered_hold P k no_bindings h = tt
numbered_hold P k (more_bindings b bs) h = (
  let e : k + 0 ≡ k = omega arith in subst (λ z. P (z, b)) e (h 0 b stands_here),
  numbered_hold P (suc k) bs (λ i c s. let e : k + suc i ≡ suc k + i = omega arith in subst (λ z. P (z, c)) e (h (suc i) c (stands_later s refl))),
)

pub stands_all : (group : LocalBindings TypedNode) → AllByRecursion (λ x. StandsIn group (first_name (bindings_of group) x.0) x.1) (order_of group)
stands_all group =
    steps_hold (λ x. StandsIn group (first_name (bindings_of group) x.0) x.1) (waits typed_binding) (length (numbered 0 (bindings_of group))) (numbered 0 (bindings_of group))
    (numbered_hold (λ x. StandsIn group (first_name (bindings_of group) x.0) x.1) 0 group (λ i b s. let e : i ≡ 0 + i = omega arith in subst (λ z. StandsIn group (first_name (bindings_of group) z) b) e s))
