-- The most general assignment is of the kinds wanted exactly where some assignment is.
use Rattle.std.proofs.Common.{◌≡◌, ◌↔◌, ℕ, ◌<◌, Bool, true, false, IsTrue, List, map, length, sym, ◌∙◌, ap, subst, arith}
use Rattle.std.proofs.lemmas.List.{length-map}
use Rattle.rw_tree.specs.declared.decl.Decl.{Decl}
use Rattle.rw_types_solving.specs.declared.term.Sort.{Sort}
use Rattle.rw_types_solving.specs.declared.term.Term.{Term}
use Rattle.rw_types_solving.specs.Types.{Ty, plains, apply, Agrees, meaning}
use Rattle.rw_types_solving.specs.Sorts.{HasSort}
use Rattle.rw_types_solving.specs.Tables.{Small}
use Rattle.rw_types_solving.specs.Conditions.{is_state_monad}
use Rattle.rw_types_solving.specs.Closing.{sort_of}
use Rattle.rw_types_solving.proofs.StateMonads.{state_back}
use Rattle.rw_types.proofs.Sorting.{general_sort}
use Rattle.rw_types_rules.specs.declared.kind.VariableKind.{VariableKind}
use Rattle.rw_types_rules.specs.Schemes.{World}
use Rattle.rw_types_rules.specs.Typings.{kind_sort, heads_of, state_unknowns, leftover}
use Rattle.rw_types_equations.specs.declared.numbered.Numbered.{Numbered}
use Rattle.rw_types_shared.specs.Shared.{Node, type_at}
use Rattle.rw_types.specs.Inferred.{type_of}
use Rattle.rw_types.specs.Inside.{AreWithin, kind_at, slot_sorts, AreCarried, MayStand, AgreesBy, IsSolved, HasNoSolution}
use Rattle.rw_types.proofs.ByKind.{slot_sort, may_sort, may_small, may_stack}
use Rattle.rw_types.proofs.Closing.{closed_all}

module _ (world : World) (slots own : List VariableKind) where
  -- an assignment of these kinds gives each number a type of its sort
  stands_sorted : (v : ℕ → Sort) (y : ℕ → Bool) (t : ℕ → Ty) → MayStand v y own world slots t → (x : ℕ) → x < length slots → HasSort v (heads_of world own) (slot_sorts slots x) (t x)
  stands_sorted v y t may x l = subst (λ (k : Sort). HasSort v (heads_of world own) k (t x)) (sym (slot_sort slots x)) (may_sort v y own world (kind_at slots x) (t x) (may x l))

  -- so what it is an instance of is of these kinds
  pub instance_carried : (v : ℕ → Sort) (y : ℕ → Bool) (t : ℕ → Ty) (types : List Term) → Agrees t (meaning types) → length types ≡ length slots → AreWithin (length slots) types
      → MayStand v y own world slots t → AreCarried world slots own (meaning types)
  instance_carried v y t types a n within may = record {
    sorted = λ x l. general_sort v (heads_of world own) (slot_sorts slots) t (slot_sorts slots x) (meaning types x)
        (subst (HasSort v (heads_of world own) (slot_sorts slots x)) (a x) (stands_sorted v y t may x l))
        (λ z o. stands_sorted v y t may z (within x (omega arith) z o));
    stacked = λ x l e. state_back y (state_unknowns own) t (meaning types x) (subst (λ (u : Ty). is_state_monad y (state_unknowns own) u ≡ true) (a x) (may_stack v y own world (kind_at slots x) (t x) (may x l) e));
  }

module _ (world : World) (tree : Decl Numbered) (slots own : List VariableKind) where
  pub none_small : ((t : ℕ → Ty) → AgreesBy world tree t → Small (length slots) t → ⊥) → HasNoSolution world tree slots own
  none_small f v y t a may = f t a (λ x l. may_small v y own world (kind_at slots x) (t x) (may x l))

  pub none_carried : (types : List Term) → ((t : ℕ → Ty) → AgreesBy world tree t → Agrees t (meaning types)) → length types ≡ length slots → AreWithin (length slots) types
      → (AreCarried world slots own (meaning types) → ⊥) → HasNoSolution world tree slots own
  none_carried types general n within f v y t a may = f (instance_carried world slots own v y t types (general t a) n within may)

  pub is_solved : (types seen : List Term) (nodes : List Node) (made : List ℕ) (sorts ss : List Sort) → length types ≡ length slots → AgreesBy world tree (meaning types)
      → ((t : ℕ → Ty) → AgreesBy world tree t → Agrees t (meaning types)) → Small (length slots) (meaning types) → AreCarried world slots own (meaning types)
      → seen ≡ types → sorts ≡ map kind_sort slots → ss ≡ sorts → map (type_at nodes) made ≡ map (apply (leftover (sort_of ss))) (plains seen)
      → IsSolved world tree slots own (type_of nodes made)
  is_solved types seen nodes made sorts ss n agrees general small carried e f g closed = record {
    general = meaning types;
    agrees = agrees;
    most_general = general;
    small = small;
    carried = carried;
    closed = closed_all (map kind_sort slots) types nodes made (length-map slots kind_sort ∙ sym n)
        (closed ∙ ap (λ (ts : List Term). map (apply (leftover (sort_of ss))) (plains ts)) e ∙ ap (λ (zs : List Sort). map (apply (leftover (sort_of zs))) (plains types)) (g ∙ f));
  }

-- what the test says
pub are_carried : (world : World) (slots own : List VariableKind) (types seen : List Term) (r : Bool) → seen ≡ types → r ≡ true → (IsTrue r ↔ AreCarried world slots own (meaning seen)) → AreCarried world slots own (meaning types)
are_carried world slots own types seen r e f k = subst (λ (ts : List Term). AreCarried world slots own (meaning ts)) e (k.0 f)

pub not_carried : (world : World) (slots own : List VariableKind) (types seen : List Term) (r : Bool) → seen ≡ types → r ≡ false → (IsTrue r ↔ AreCarried world slots own (meaning seen)) → AreCarried world slots own (meaning types) → ⊥
not_carried world slots own types seen r e f k h =
    let g : r ≡ true = k.1 (subst (λ (ts : List Term). AreCarried world slots own (meaning ts)) (sym e) h) in let same : false ≡ true = sym f ∙ g in absurd (cc)
