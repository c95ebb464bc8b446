-- Statements, tests and rows of a process, one more at the end.
use Rattle.std.proofs.Common.{◌≡◌, ℕ, List, [], ◌∷◌, ◌++◌, max, false, cond, refl, sym, ap, ◌∙◌, arith}
use Rattle.vh_tree.specs.Bits.{Bits}
use Rattle.vh_tree.specs.Functions.{World, Choice, Effect as Means, first_taken as taken_means}
use Rattle.vhdl_cycle_flat.specs.Delta.{Coming, Effect, Taken, check_of, room_check, in_order, all_hold, first_taken, room_checks, room_in_order, room_first}
use Rattle.vhdl_cycle_flat.specs.declared.process.Check.{Check}
use Rattle.vhdl_cycle_flat.specs.declared.process.World.{World as Asked}
use Rattle.vhdl_cycle_resolve.specs.Over.{RowsAgree}
use Rattle.vhdl_cycle_resolve.proofs.Ordered.{both, same_test, same_choice}

pub in_order_more : (es : List Effect) (e : Effect) (w : Asked) (n : ℕ) (now : Bits) (c : Coming) → in_order (es ++ e ∷ []) w n now c ≡ e.after w n now (in_order es w n now c)
in_order_more [] e w n now c = refl
in_order_more (x ∷ es) e w n now c = in_order_more es e w n now (x.after w n now c)

pub room_in_order_more : (es : List Effect) (e : Effect) (n : ℕ) (now : Bits) → room_in_order (es ++ e ∷ []) n now ≡ max (room_in_order es n now) (e.room n now)
room_in_order_more [] e n now = omega arith
room_in_order_more (x ∷ es) e n now = omega (arith, room_in_order_more es e n now)

pub all_hold_more : (ts : List Check) (t : Check) (w : Asked) (n : ℕ) (now : Bits) → all_hold (ts ++ t ∷ []) w n now ≡ cond (all_hold ts w n now) (check_of t w n now) false
all_hold_more [] t w n now = sym (same_test (check_of t w n now))
all_hold_more (x ∷ ts) t w n now = ap (λ z. cond (check_of x w n now) z false) (all_hold_more ts t w n now) ∙ both (check_of x w n now) (all_hold ts w n now) (check_of t w n now)

pub room_checks_more : (ts : List Check) (t : Check) (n : ℕ) (now : Bits) → room_checks (ts ++ t ∷ []) n now ≡ max (room_checks ts n now) (room_check t n now)
room_checks_more [] t n now = omega arith
room_checks_more (x ∷ ts) t n now = omega (arith, room_checks_more ts t n now)

pub room_first_more : (bs : List Taken) (b : Taken) (n : ℕ) (now : Bits) → room_first (bs ++ b ∷ []) [] n now ≡ max (room_first bs [] n now) (max (room_checks b.checks n now) (room_in_order b.body n now))
room_first_more [] b n now = omega arith
room_first_more (x ∷ bs) b n now = omega (arith, room_first_more bs b n now)

-- the room of a choice is that of its rows or that of its last statements
pub room_first_split : (bs : List Taken) (other : List Effect) (n : ℕ) (now : Bits) → room_first bs other n now ≡ max (room_first bs [] n now) (room_in_order other n now)
room_first_split [] other n now = omega arith
room_first_split (x ∷ bs) other n now = omega (arith, room_first_split bs other n now)

module _ (v : World Coming) (w : Asked) (n : ℕ) (now : Bits) (c : Coming) where
  pub agree_more : (bs : List Taken) (ms : List (Choice Coming)) (b : Taken) (m : Choice Coming) →
      RowsAgree v w n now c bs ms → all_hold b.checks w n now ≡ m.0 v c → in_order b.body w n now c ≡ m.1 v c → RowsAgree v w n now c (bs ++ b ∷ []) (ms ++ m ∷ [])
  agree_more [] [] b m a t e = (t, e, tt)
  agree_more (x ∷ bs) (k ∷ ms) b m a t e = (a.0, a.1, agree_more bs ms b m a.2 t e)
  agree_more [] (k ∷ ms) b m a t e = absurd a
  agree_more (x ∷ bs) [] b m a t e = absurd a

  pub agree_taken : (bs : List Taken) (ms : List (Choice Coming)) (other : List Effect) (last : Means Coming) →
      RowsAgree v w n now c bs ms → in_order other w n now c ≡ last v c → first_taken bs other w n now c ≡ taken_means Coming ms last v c
  agree_taken [] [] other last a e = e
  agree_taken (b ∷ bs) (m ∷ ms) other last a e = same_choice _ _ _ _ _ _ a.0 a.1 (agree_taken bs ms other last a.2 e)
  agree_taken [] (m ∷ ms) other last a e = absurd a
  agree_taken (b ∷ bs) [] other last a e = absurd a
