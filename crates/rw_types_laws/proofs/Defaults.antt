-- A default typing is a typing without variables, and the only one.
use Rattle.std.proofs.Common.{◌≡◌, ℕ, zero, suc, ◌+◌, ◌<◌, ◌≤◌, Bool, true, false, ◌||◌, List, [], ◌∷◌, map, length, get_or, refl, sym, ◌∙◌, ap, subst, arith, inl, inr}
use Rattle.rw_scope_rules.specs.declared.binding.Bound.{Bound}
use Rattle.rw_tree.specs.Declarations.{Declaration}
use Rattle.rw_types_solving.specs.declared.term.Head.{Head}
use Rattle.rw_types_solving.specs.declared.term.Sort.{Sort}
use Rattle.rw_types_solving.specs.declared.term.Sort.TheVariants as s
use Rattle.rw_types_solving.specs.Types.{Ty, Tys, var, app, none, more, apply, apply_in, nodes, occurs, occurs_in, is_known_layer}
use Rattle.rw_types_solving.specs.Sorts.{Heads, HasSort, HasSorts, part_sort}
use Rattle.rw_types_solving.specs.Tables.{most}
use Rattle.rw_types_solving.specs.Conditions.{is_state_layer, is_state_monad}
use Rattle.rw_types_solving.specs.Closing.{closed_as}
use Rattle.rw_types_solving.proofs.Laws.{compose, alike_all}
use Rattle.rw_types_solving.proofs.MostGeneral.{in_or_out}
use Rattle.rw_types_solving.proofs.Defaults.{layer_one, bare, same_nodes}
use Rattle.rw_types_rules.specs.declared.kind.VariableKind.{VariableKind}
use Rattle.rw_types_rules.specs.declared.kind.VariableKind.TheVariants.{Plain, Monad, StateMonad, Layer}
use Rattle.rw_types_rules.specs.Words.{unit_type}
use Rattle.rw_types_rules.specs.Schemes.{World}
use Rattle.rw_types_rules.specs.TypedTrees.{TypedNode, substituted_node, substituted}
use Rattle.rw_types_rules.specs.Typings.{kind_sort, heads_of, state_unknowns, MayBe, IsTyping, IsInstanceOf, leftover, IsDefault}
use Rattle.rw_types_numbering.specs.Rows.{declaration_carried}
use Rattle.rw_types_numbering.specs.Slots.{declaration_slots}
use Rattle.rw_types_numbering.specs.Fits.{Fits, typed_declaration}
use Rattle.rw_types_numbering.proofs.Filling.{types_at, types_as_many, from_types}
use Rattle.rw_types_numbering.proofs.Instances.{instance_is}
use Rattle.rw_types_numbering.proofs.Relabelling.{twice_declaration, alike_declaration}
use Rattle.rw_types_laws.specs.Substitutions.{Keeps}
use Rattle.rw_types_laws.proofs.Typings.{declared_kinds, fits_typing, typing_kept}
use Rattle.rw_types_laws.proofs.Carried.{declaration_kept}
use Rattle.rw_types_laws.proofs.Closing.{neither}

-- == A typing ==

closed_sort : (w : ℕ → Sort) (u : Heads) (k : Sort) → HasSort w u k (closed_as k)
closed_sort w u s.Plain = (refl, tt)
closed_sort w u s.Monad = (refl, refl)
closed_sort w u s.Layer = (refl, ((refl, tt), refl))

closed_one : (k : Sort) → nodes (closed_as k) ≡ 1 + layer_one k
closed_one s.Plain = refl
closed_one s.Monad = refl
closed_one s.Layer = refl

layer_most : (k : Sort) → layer_one k ≤ 1
layer_most s.Layer = omega arith
layer_most _ = omega arith

bare_small : (t : Ty) (k : Sort) → nodes t ≤ most → nodes t + bare t k ≤ most
bare_small (var x) k l = let m = layer_most k in omega arith
bare_small (app h ts) k l = omega arith

-- closing keeps typings
module _ (own : List VariableKind) (world : World) (v : ℕ → Sort) (y : ℕ → Bool) (w : ℕ → Sort) (z : ℕ → Bool) where
  closing_small : (k : Sort) (t : Ty) → HasSort v (heads_of world own) k t → nodes t ≤ most → nodes (apply (leftover v) t) ≤ most
  closing_small k t g l =
      let e = same_nodes (leftover v) v (heads_of world own) (λ x. closed_one (v x)) (λ x q. ap (λ o. is_known_layer (closed_as o)) q) k t g in
      let b = bare_small t k l in omega arith

  closing_keeps : Keeps own world v y w z (leftover v)
  closing_keeps = record {
    sorted = λ x. closed_sort w (heads_of world own) (v x);
    stacked = λ x p e. ap (λ k. is_state_monad z (state_unknowns own) (closed_as k)) e;
    layered = λ x p e. ap (λ k. is_state_layer z (closed_as k)) e;
    small = λ k t h. closing_small k t h.0 h.1;
  }

pub default_typing : (world : World) (d : Declaration Bound) (typed : Declaration TypedNode) → IsDefault world d typed → (w : ℕ → Sort) (z : ℕ → Bool) → IsTyping w z world d typed
default_typing world d typed is w z =
    subst (IsTyping w z world d) (sym is.closed)
    (typing_kept is.sorts is.states w z (leftover is.sorts) world d is.general (closing_keeps (declared_kinds world d) world is.sorts is.states w z) is.typing)

-- == Without variables ==

closed_stays : (r : ℕ → Ty) (k : Sort) → apply r (closed_as k) ≡ closed_as k
closed_stays r s.Plain = refl
closed_stays r s.Monad = refl
closed_stays r s.Layer = refl

module _ (r : ℕ → Ty) (v : ℕ → Sort) where
  type_stays : (t : Ty) → apply r (apply (leftover v) t) ≡ apply (leftover v) t
  type_stays t = compose r (leftover v) t ∙ alike_all _ _ t (λ x. closed_stays r (v x))

  types_stay : (ts : List Ty) → map (apply r) (map (apply (leftover v)) ts) ≡ map (apply (leftover v)) ts
  types_stay [] = refl
  types_stay (t ∷ ts) = λ i. type_stays t i ∷ types_stay ts i

  node_stays : (a : TypedNode) → substituted_node r (substituted_node (leftover v) a) ≡ substituted_node (leftover v) a
  node_stays a = λ i. record { node = a.node; type = type_stays a.type i; arguments = types_stay a.arguments i }

  tree_stays : (d : Declaration TypedNode) → substituted r (substituted (leftover v) d) ≡ substituted (leftover v) d
  tree_stays d = twice_declaration (substituted_node (leftover v)) (substituted_node r) d ∙ alike_declaration (λ a. substituted_node r (substituted_node (leftover v) a)) (substituted_node (leftover v)) d node_stays

pub default_stays : (r : ℕ → Ty) (world : World) (d : Declaration Bound) (typed : Declaration TypedNode) → IsDefault world d typed → substituted r typed ≡ typed
default_stays r world d typed is = ap (substituted r) is.closed ∙ tree_stays r is.sorts is.general ∙ sym is.closed

-- a type that is of one sort whatever the sorts of variables are has none
neither_false : (a b : Bool) → a ≡ false → b ≡ false → (a || b) ≡ false
neither_false true b p q = absurd (cc)
neither_false false b p q = q

module _ (w : Heads) where
  mutual
    pub no_variable : (k : Sort) (t : Ty) → ((v : ℕ → Sort) → HasSort v w k t) → (x : ℕ) → occurs x t ≡ false
    no_variable k (var y) h x = let e : s.Plain ≡ s.Monad = h (λ n. s.Plain) ∙ sym (h (λ n. s.Monad)) in absurd (cc)
    no_variable k (app h ts) f x = no_variable_in h 0 ts (λ v. (f v).1) x

    no_variable_in : (h : Head) (i : ℕ) (ts : Tys) → ((v : ℕ → Sort) → HasSorts v w h i ts) → (x : ℕ) → occurs_in x ts ≡ false
    no_variable_in h i none f x = refl
    no_variable_in h i (more t ts) f x = neither_false (occurs x t) (occurs_in x ts) (no_variable (part_sort h i) t (λ v. (f v).0) x) (no_variable_in h (suc i) ts (λ v. (f v).1) x)

-- == The only one ==

-- types that are instances of one another are the same once they are closed
module _ (v1 v2 : ℕ → Sort) (u : Heads) (back : ℕ → Ty) where
  variable_closed : (k : Sort) (x : ℕ) (t : Ty) → v1 x ≡ k → HasSort v2 u k t → apply back t ≡ var x → closed_as (v1 x) ≡ apply (leftover v2) t
  variable_closed k x (var z) e g same = ap closed_as (e ∙ sym g)
  variable_closed k x (app h ts) e g same = absurd (cc)

  module _ (r : ℕ → Ty) where
    mutual
      type_closed : (k : Sort) (t : Ty) → HasSort v1 u k t → HasSort v2 u k (apply r t) → apply back (apply r t) ≡ t → apply (leftover v1) t ≡ apply (leftover v2) (apply r t)
      type_closed k (var x) g f e = variable_closed k x (r x) g f e
      type_closed k (app h ts) g f e = let q : apply_in back (apply_in r ts) ≡ ts = cc in ap (app h) (types_closed h 0 ts g.1 f.1 q)

      types_closed : (h : Head) (i : ℕ) (ts : Tys) → HasSorts v1 u h i ts → HasSorts v2 u h i (apply_in r ts) → apply_in back (apply_in r ts) ≡ ts
          → apply_in (leftover v1) ts ≡ apply_in (leftover v2) (apply_in r ts)
      types_closed h i none g f e = refl
      types_closed h i (more t ts) g f e =
          let p : apply back (apply r t) ≡ t = cc in let q : apply_in back (apply_in r ts) ≡ ts = cc in
          let a = type_closed (part_sort h i) t g.0 f.0 p in let b = types_closed h (suc i) ts g.1 f.1 q in
          λ j. more (a j) (b j)

may_sort : (v : ℕ → Sort) (y : ℕ → Bool) (own : List VariableKind) (world : World) (k : VariableKind) (t : Ty) → MayBe v y own world k t → HasSort v (heads_of world own) (kind_sort k) t
may_sort v y own world Plain t h = h.0
may_sort v y own world Monad t h = h.0
may_sort v y own world StateMonad t h = h.0.0
may_sort v y own world Layer t h = h.0

-- number by number
module _ (v1 v2 : ℕ → Sort) (y1 y2 : ℕ → Bool) (own : List VariableKind) (world : World) (back r t : ℕ → Ty) (turned : (n : ℕ) → apply back (apply r (t n)) ≡ t n) where
  number_closed : (n : ℕ) (kinds : List VariableKind) → Fits v1 y1 own world t n kinds → Fits v2 y2 own world (λ x. apply r (t x)) n kinds → (i m : ℕ) → m ≡ n + i → i < length kinds
      → apply (leftover v1) (t m) ≡ apply (leftover v2) (apply r (t m))
  number_closed n [] g f i m e l = absurd (omega arith)
  number_closed n (k ∷ ks) g f zero m e l =
      let same : n ≡ m = omega arith in
      let here = type_closed v1 v2 (heads_of world own) back r (kind_sort k) (t n) (may_sort v1 y1 own world k (t n) g.0) (may_sort v2 y2 own world k (apply r (t n)) f.0) (turned n) in
      subst (λ j. apply (leftover v1) (t j) ≡ apply (leftover v2) (apply r (t j))) same here
  number_closed n (k ∷ ks) g f (suc i) m e l = number_closed (suc n) ks g.1 f.1 i m (omega arith) (omega arith)

turned_at : (back r : ℕ → Ty) (types : List Ty) → map (apply back) (map (apply r) types) ≡ types → (n : ℕ) → apply back (apply r (types_at types n)) ≡ types_at types n
turned_at back r [] e n = refl
turned_at back r (t ∷ types) e zero = let p : apply back (apply r t) ≡ t = cc in p
turned_at back r (t ∷ types) e (suc n) = let q : map (apply back) (map (apply r) types) ≡ types = cc in turned_at back r types q n

unit_beyond : (types : List Ty) (n : ℕ) → length types ≤ n → types_at types n ≡ unit_type
unit_beyond [] n l = refl
unit_beyond (t ∷ types) zero l = absurd (omega arith)
unit_beyond (t ∷ types) (suc n) l = unit_beyond types n (omega arith)

module _ (world : World) (d : Declaration Bound) (one other : Declaration TypedNode) (is : IsDefault world d one) (two : IsDefault world d other) where
  there : IsInstanceOf is.general two.general
  there = is.most_general two.sorts two.states two.general two.typing

  back : IsInstanceOf two.general is.general
  back = two.most_general is.sorts is.states is.general is.typing

  abbrev types : List Ty
  types = declaration_carried is.general

  returns : is.general ≡ substituted back.by (substituted there.by is.general)
  returns = back.same ∙ ap (substituted back.by) there.same

  types_return : map (apply back.by) (map (apply there.by) types) ≡ types
  types_return = sym (ap declaration_carried returns ∙ declaration_kept (apply back.by) (substituted there.by is.general) ∙ ap (map (apply back.by)) (declaration_kept (apply there.by) is.general))

  abbrev at : ℕ → Ty
  at = types_at types

  abbrev at_other : ℕ → Ty
  at_other n = apply there.by (at n)

  one_is : is.general ≡ typed_declaration at world d
  one_is = from_types is.sorts is.states world d is.general is.typing

  other_is : two.general ≡ typed_declaration at_other world d
  other_is = there.same ∙ ap (substituted there.by) one_is ∙ sym (instance_is at_other at there.by world d (λ x. refl))

  closed_alike : (n : ℕ) → apply (leftover is.sorts) (at n) ≡ apply (leftover two.sorts) (at_other n)
  closed_alike n = elim (in_or_out n (length (declaration_slots world d))) [
    | inl l ↦ number_closed is.sorts two.sorts is.states two.states (declared_kinds world d) world back.by there.by at (turned_at back.by there.by types types_return) 0 (declaration_slots world d)
        (fits_typing is.sorts is.states world d at (subst (IsTyping is.sorts is.states world d) one_is is.typing))
        (fits_typing two.sorts two.states world d at_other (subst (IsTyping two.sorts two.states world d) other_is two.typing)) n n (omega arith) l
    | inr l ↦
        let many = types_as_many is.sorts is.states world d is.general is.typing in
        let u : at n ≡ unit_type = unit_beyond types n (omega arith) in
        ap (apply (leftover is.sorts)) u ∙ sym (ap (λ t. apply (leftover two.sorts) (apply there.by t)) u)
  ]

  pub one_default : one ≡ other
  one_default =
      is.closed ∙ ap (substituted (leftover is.sorts)) one_is
      ∙ sym (instance_is (λ n. apply (leftover is.sorts) (at n)) at (leftover is.sorts) world d (λ x. refl))
      ∙ (λ i. typed_declaration (λ n. closed_alike n i) world d)
      ∙ instance_is (λ n. apply (leftover two.sorts) (at_other n)) at_other (leftover two.sorts) world d (λ x. refl)
      ∙ ap (substituted (leftover two.sorts)) (sym other_is) ∙ sym two.closed
