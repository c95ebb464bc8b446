-- Statements, tests and branches over a frame, one more at the end.
use Rattle.std.proofs.Common.{◌≡◌, ℕ, List, [], ◌∷◌, ◌++◌, map, max, Bool, true, false, cond, refl, sym, ap, ◌∙◌, arith}
use Rattle.std.proofs.lemmas.List.{map-append}
use Rattle.vh_tree.specs.Bits.{Bits}
use Rattle.vh_tree.specs.Functions.{World, Choice, Effect as Means, first_taken as taken_means}
use Rattle.vhdl_cycle_flat.specs.Flat.{Effect, Holds, Taken, in_order, all_hold, first_taken, room_tests, room_in_order, room_first}
use Rattle.vhdl_cycle_resolve.specs.Over.{Agree}

-- what is made of a list that has one more
pub mapped_more : {A B : Type 0} (f : A → B) (xs ys : List A) (x : A) → ys ≡ xs ++ x ∷ [] → map f ys ≡ map f xs ++ f x ∷ []
mapped_more f xs ys x e = ap (map f) e ∙ map-append f xs (x ∷ [])

pub in_order_more : (es : List Effect) (e : Effect) (n : ℕ) (frame : Bits) → in_order (es ++ e ∷ []) n frame ≡ e.after n (in_order es n frame)
in_order_more [] e n frame = refl
in_order_more (x ∷ es) e n frame = in_order_more es e n (x.after n frame)

pub room_in_order_more : (es : List Effect) (e : Effect) (n : ℕ) (frame : Bits) → room_in_order (es ++ e ∷ []) n frame ≡ max (room_in_order es n frame) (e.room n (in_order es n frame))
room_in_order_more [] e n frame = omega arith
room_in_order_more (x ∷ es) e n frame = omega (arith, room_in_order_more es e n (x.after n frame))

-- tests that hold together, grouped from the left
pub both : (b : Bool) (x y : Bool) → cond b (cond x y false) false ≡ cond (cond b x false) y false
both true x y = refl
both false x y = refl

pub same_test : (b : Bool) → b ≡ cond b true false
same_test true = refl
same_test false = refl

pub all_hold_more : (ts : List Holds) (t : Holds) (n : ℕ) (frame : Bits) → all_hold (ts ++ t ∷ []) n frame ≡ cond (all_hold ts n frame) (t.holds n frame) false
all_hold_more [] t n frame = sym (same_test (t.holds n frame))
all_hold_more (x ∷ ts) t n frame = ap (λ z. cond (x.holds n frame) z false) (all_hold_more ts t n frame) ∙ both (x.holds n frame) (all_hold ts n frame) (t.holds n frame)

pub room_tests_more : (ts : List Holds) (t : Holds) (n : ℕ) (frame : Bits) → room_tests (ts ++ t ∷ []) n frame ≡ max (room_tests ts n frame) (t.room n frame)
room_tests_more [] t n frame = omega arith
room_tests_more (x ∷ ts) t n frame = omega (arith, room_tests_more ts t n frame)

pub room_first_more : (bs : List Taken) (b : Taken) (n : ℕ) (frame : Bits) → room_first (bs ++ b ∷ []) [] n frame ≡ max (room_first bs [] n frame) (max (room_tests b.tests n frame) (room_in_order b.body n frame))
room_first_more [] b n frame = omega arith
room_first_more (x ∷ bs) b n frame = omega (arith, room_first_more bs b n frame)

-- the room of a choice is that of its branches or that of its last statements
pub room_first_split : (bs : List Taken) (other : List Effect) (n : ℕ) (frame : Bits) → room_first bs other n frame ≡ max (room_first bs [] n frame) (room_in_order other n frame)
room_first_split [] other n frame = omega arith
room_first_split (x ∷ bs) other n frame = omega (arith, room_first_split bs other n frame)

pub agree_more : (w : World Bits) (n : ℕ) (frame : Bits) (bs : List Taken) (ms : List (Choice Bits)) (b : Taken) (m : Choice Bits) →
    Agree w n frame bs ms → all_hold b.tests n frame ≡ m.0 w frame → in_order b.body n frame ≡ m.1 w frame → Agree w n frame (bs ++ b ∷ []) (ms ++ m ∷ [])
agree_more w n frame [] [] b m a t e = (t, e, tt)
agree_more w n frame (c ∷ bs) (k ∷ ms) b m a t e = (a.0, a.1, agree_more w n frame bs ms b m a.2 t e)
agree_more w n frame [] (k ∷ ms) b m a t e = absurd a
agree_more w n frame (c ∷ bs) [] b m a t e = absurd a

pub same_choice : {S : Type 0} (a b : Bool) (x y u v : S) → a ≡ b → x ≡ y → u ≡ v → cond a x u ≡ cond b y v
same_choice a b x y u v e f g = ap (λ z. cond z x u) e ∙ ap (λ z. cond b z u) f ∙ ap (λ z. cond b y z) g

pub agree_taken : (w : World Bits) (n : ℕ) (frame : Bits) (bs : List Taken) (ms : List (Choice Bits)) (other : List Effect) (last : Means Bits) →
    Agree w n frame bs ms → in_order other n frame ≡ last w frame → first_taken bs other n frame ≡ taken_means Bits ms last w frame
agree_taken w n frame [] [] other last a e = e
agree_taken w n frame (b ∷ bs) (m ∷ ms) other last a e = same_choice _ _ _ _ _ _ a.0 a.1 (agree_taken w n frame bs ms other last a.2 e)
agree_taken w n frame [] (m ∷ ms) other last a e = absurd a
agree_taken w n frame (b ∷ bs) [] other last a e = absurd a
