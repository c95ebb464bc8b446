-- The rounds of making two types one.
use Rattle.std.proofs.Common.{◌≡◌, ℕ, ◌<◌, true, false, refl, sym, ◌∙◌, ap, subst, arith, inl, inr, Option, Some, List, length, set}
use Rattle.rw_types_solving.specs.declared.term.Sort.{Sort}
use Rattle.rw_types_solving.specs.Types.{Ty, var, app, apply, nodes, occurs}
use Rattle.rw_types_solving.specs.Sorts.{Heads, HasSort}
use Rattle.rw_types_solving.specs.Tables.{Solves, Uses, Narrowed, NoneWithin, IsSorted, IsTable}
use Rattle.rw_types_solving.specs.Inside.{Difference, Same, Clash, At, difference, ComesTo, IsLarger, opens}
use Rattle.rw_types_solving.proofs.Laws.{either, is_same, size_bound, size_grows, endless}
use Rattle.rw_types_solving.proofs.Telling.{Tells, seen, told}
use Rattle.rw_types_solving.proofs.Steps.{agreed, still_open, Step, uses_image, sort_apply}
use Rattle.rw_types_solving.proofs.Entries.{agrees_itself, Next, solves_back, solves_on, sorted_on, next_table, next_opens, length_set}

-- the table now stands between the old one and the solution
pub record Going (old : List (Option Ty)) (a b : Ty) (now : List (Option Ty)) : Type 0 where
  pub table : IsTable now
  pub as_many : length now ≡ length old
  pub back : (t : ℕ → Ty) → Solves t now → Solves t old
  pub on : (t : ℕ → Ty) → Solves t old → apply t a ≡ apply t b → Solves t now
  pub sorted : (v : ℕ → Sort) (w : Heads) (k : Sort) → IsSorted v w old → HasSort v w k a → HasSort v w k b → IsSorted v w now

pub going_start : (old : List (Option Ty)) (a b : Ty) → IsTable old → Going old a b old
going_start old a b h = record { table = h; as_many = refl; back = λ t k. k; on = λ t k e. k; sorted = λ v w k h i j. h }

never_in : (t : ℕ → Ty) (x : ℕ) (u : Ty) → occurs x u ≡ true → ((y : ℕ) → u ≡ var y → y < x) → t x ≡ apply t u → ⊥
never_in t x (var y) o n e = let l = n y refl in let same = is_same x y o in omega arith
never_in t x (app h ts) o n e = endless t x h ts o e

-- too many heads under the table are too many nodes in each solution
pub too_large : (old : List (Option Ty)) (a b : Ty) (now : List (Option Ty)) → Going old a b now → IsLarger now 2047 a → NoneWithin old a b
too_large old a b now g big t h e small =
    let agrees = g.table.general t (g.on t h e) in
    let few = big g.table.sub g.table.follows in
    let grows = size_grows t (apply g.table.sub a) in
    let bound = size_bound (apply t (apply g.table.sub a)) in
    let same : nodes (apply t (apply g.table.sub a)) ≡ nodes (apply t a) = ap nodes (agreed t g.table.sub a agrees) in
    omega arith

pub too_large_right : (old : List (Option Ty)) (a b : Ty) (now : List (Option Ty)) → Going old a b now → IsLarger now 2047 b → NoneWithin old a b
too_large_right old a b now g big t h e small =
    let agrees = g.table.general t (g.on t h e) in
    let few = big g.table.sub g.table.follows in
    let grows = size_grows t (apply g.table.sub b) in
    let bound = size_bound (apply t (apply g.table.sub b)) in
    let same : nodes (apply t (apply g.table.sub b)) ≡ nodes (apply t a) = ap nodes (agreed t g.table.sub b agrees ∙ sym e) in
    omega arith

-- the difference of what the two types come to
module _ (old : List (Option Ty)) (a b : Ty) (now : List (Option Ty)) (g : Going old a b now) (l r : Ty) (lc : ComesTo now a l) (rc : ComesTo now b r) where
  left_is : l ≡ apply g.table.sub a
  left_is = lc g.table.sub g.table.follows

  right_is : r ≡ apply g.table.sub b
  right_is = rc g.table.sub g.table.follows

  telling : (d : Difference) → difference l r ≡ d → Tells d l r
  telling d e = subst (λ z. Tells z l r) e (told l r)

  left_same : (t : ℕ → Ty) → Solves t now → apply t l ≡ apply t a
  left_same t h = ap (apply t) left_is ∙ agreed t g.table.sub a (g.table.general t h)

  right_same : (t : ℕ → Ty) → Solves t now → apply t r ≡ apply t b
  right_same t h = ap (apply t) right_is ∙ agreed t g.table.sub b (g.table.general t h)

  both_same : (t : ℕ → Ty) → Solves t old → apply t a ≡ apply t b → apply t l ≡ apply t r
  both_same t h e = left_same t (g.on t h e) ∙ e ∙ sym (right_same t (g.on t h e))

  pub going_done : difference l r ≡ Same → Narrowed old now a b
  going_done d t =
      let e : l ≡ r = telling Same d in
      ((λ h. (g.back t h, sym (left_same t h) ∙ ap (apply t) e ∙ right_same t h)), (λ h. g.on t h.0 h.1))

  pub going_clash : difference l r ≡ Clash → NoneWithin old a b
  going_clash d t h e small = telling Clash d t (both_same t h e)

  forced : (x : ℕ) (u : Ty) → difference l r ≡ At x u → (t : ℕ → Ty) → Solves t old → apply t a ≡ apply t b → t x ≡ apply t u
  forced x u d t h e = (telling (At x u) d).1 t (both_same t h e)

  pub going_endless : (x : ℕ) (u : Ty) → difference l r ≡ At x u → occurs x u ≡ true → NoneWithin old a b
  going_endless x u d o t h e small = never_in t x u o (telling (At x u) d).0.falls (forced x u d t h e)

  seen_below : Uses (length now) a → Uses (length now) b → (y : ℕ) → seen l r y ≡ true → y < length now
  seen_below ua ub y o = elim (either _ _ o) [
    | inl p ↦ uses_image (length now) g.table.sub a g.table.within ua y (ap (occurs y) (sym left_is) ∙ p)
    | inr p ↦ uses_image (length now) g.table.sub b g.table.within ub y (ap (occurs y) (sym right_is) ∙ p)
  ]

  seen_open : (y : ℕ) → seen l r y ≡ true → g.table.sub y ≡ var y
  seen_open y o = elim (either _ _ o) [
    | inl p ↦ still_open g.table.sub y a (agrees_itself now g.table) (ap (occurs y) (sym left_is) ∙ p)
    | inr p ↦ still_open g.table.sub y b (agrees_itself now g.table) (ap (occurs y) (sym right_is) ∙ p)
  ]

  module _ (x : ℕ) (u : Ty) (d : difference l r ≡ At x u) (absent : occurs x u ≡ false) (ua : Uses (length now) a) (ub : Uses (length now) b) where
    the_step : Step g.table.sub x u
    the_step = record {
      solved = agrees_itself now g.table;
      is_open = seen_open x (telling (At x u) d).0.here;
      kept = λ y o. seen_open y ((telling (At x u) d).0.within y o);
      absent = absent;
    }

    pub the_next : Next now x u
    the_next = record {
      solved = g.table;
      below = seen_below ua ub x (telling (At x u) d).0.here;
      uses = λ y o. seen_below ua ub y ((telling (At x u) d).0.within y o);
      falls = (telling (At x u) d).0.falls;
      step = the_step;
    }

    sorted_at : (v : ℕ → Sort) (w : Heads) (k : Sort) → IsSorted v w now → HasSort v w k a → HasSort v w k b → HasSort v w (v x) u
    sorted_at v w k h i j =
        let sub = g.table.sorted v w h in
        (telling (At x u) d).2 v w k (subst (HasSort v w k) (sym left_is) (sort_apply g.table.sub v v w k a sub i))
        (subst (HasSort v w k) (sym right_is) (sort_apply g.table.sub v v w k b sub j))

    pub going_on : Going old a b (set now x (Some u))
    going_on = record {
      table = next_table now x u the_next;
      as_many = length_set now x (Some u) ∙ g.as_many;
      back = λ t h. g.back t (solves_back now x u the_next t h);
      on = λ t h e. solves_on now x u the_next t (g.on t h e) (forced x u d t h e);
      sorted = λ v w k h i j. let s = g.sorted v w k h i j in sorted_on now x u the_next v w s (sorted_at v w k s i j);
    }

    pub going_falls : opens (set now x (Some u)) < opens now
    going_falls = next_opens now x u the_next
