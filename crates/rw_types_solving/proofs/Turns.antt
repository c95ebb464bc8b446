-- One round as the code sees it: each way out of it, and the table of the next.
use Rattle.std.proofs.Common.{◌≡◌, ℕ, ◌<◌, true, false, sym, ◌∙◌, ap, subst, refl, suc, Option, Some, List, [], ◌∷◌, length, set}
use Rattle.std.proofs.lemmas.List.{map-set}
use Rattle.rw_types_solving.specs.declared.term.Term.{Term}
use Rattle.rw_types_solving.specs.Types.{Ty, plain, occurs}
use Rattle.rw_types_solving.specs.Tables.{equation, equations, Uses, Narrowed, NoneWithin}
use Rattle.rw_types_solving.specs.Inside.{Same, Clash, At, difference, ComesTo, IsLarger, opens}
use Rattle.rw_types_solving.proofs.Rounds.{Going, too_large, too_large_right, going_done, going_clash, going_endless, the_next, going_on, going_falls}

pub length_equations : (es : List (Option Term)) → length (equations es) ≡ length es
length_equations [] = refl
length_equations (e ∷ es) = ap suc (length_equations es)

pub left_too_large : (old : List (Option Ty)) (a b : Ty) (es m : List (Option Term)) → Going old a b (equations es) → m ≡ es → IsLarger (equations m) 2047 a → NoneWithin old a b
left_too_large old a b es m g e big = too_large old a b (equations es) g (subst (λ z. IsLarger (equations z) 2047 a) e big)

pub right_too_large : (old : List (Option Ty)) (a b : Ty) (es m : List (Option Term)) → Going old a b (equations es) → m ≡ es → IsLarger (equations m) 2047 b → NoneWithin old a b
right_too_large old a b es m g e big = too_large_right old a b (equations es) g (subst (λ z. IsLarger (equations z) 2047 b) e big)

-- what a round knows: what both types come to
pub record Turn (first es : List (Option Term)) (a b l r : Ty) : Type 0 where
  pub going : Going (equations first) a b (equations es)
  pub left : ComesTo (equations es) a l
  pub right : ComesTo (equations es) b r
  pub a_uses : Uses (length first) a
  pub b_uses : Uses (length first) b

pub a_turn : (first es m k : List (Option Term)) (a b l r : Ty) → Going (equations first) a b (equations es) → m ≡ es → k ≡ es
    → ComesTo (equations m) a l → ComesTo (equations k) b r → Uses (length first) a → Uses (length first) b → Turn first es a b l r
a_turn first es m k a b l r g me ke lc rc ua ub = record {
  going = g;
  left = subst (λ z. ComesTo (equations z) a l) me lc;
  right = subst (λ z. ComesTo (equations z) b r) ke rc;
  a_uses = ua;
  b_uses = ub;
}

module _ (first es : List (Option Term)) (a b l r : Ty) (k : Turn first es a b l r) where
  pub turn_done : Same ≡ difference l r → Narrowed (equations first) (equations es) a b
  turn_done d = going_done (equations first) a b (equations es) k.going l r k.left k.right (sym d)

  pub turn_clash : Clash ≡ difference l r → NoneWithin (equations first) a b
  turn_clash d = going_clash (equations first) a b (equations es) k.going l r k.left k.right (sym d)

  pub turn_endless : (x : ℕ) (u : Ty) → At x u ≡ difference l r → occurs x u ≡ true → NoneWithin (equations first) a b
  turn_endless x u d o = going_endless (equations first) a b (equations es) k.going l r k.left k.right x u (sym d) o

  a_now : Uses (length (equations es)) a
  a_now = subst (λ n. Uses n a) (sym (k.going.as_many ∙ length_equations first)) k.a_uses

  b_now : Uses (length (equations es)) b
  b_now = subst (λ n. Uses n b) (sym (k.going.as_many ∙ length_equations first)) k.b_uses

  pub turn_below : (x : ℕ) (u : Ty) → At x u ≡ difference l r → occurs x u ≡ false → x < length es
  turn_below x u d o =
      let n = the_next (equations first) a b (equations es) k.going l r k.left k.right x u (sym d) o a_now b_now in
      subst (λ z. x < z) (length_equations es) n.below

  set_equation : (x : ℕ) (u : Ty) (q : List (Option Term)) (v : Term) → q ≡ set es x (Some v) → plain v ≡ u → set (equations es) x (Some u) ≡ equations q
  set_equation x u q v e p = sym (ap equations e ∙ map-set equation es x (Some v) ∙ ap (λ z. set (equations es) x (Some z)) p)

  pub turn_on : (x : ℕ) (u : Ty) (q : List (Option Term)) (v : Term) → At x u ≡ difference l r → occurs x u ≡ false → q ≡ set es x (Some v) → plain v ≡ u
      → Going (equations first) a b (equations q)
  turn_on x u q v d o e p =
      let n = going_on (equations first) a b (equations es) k.going l r k.left k.right x u (sym d) o a_now b_now in
      subst (Going (equations first) a b) (set_equation x u q v e p) n

  pub turn_falls : (x : ℕ) (u : Ty) (q : List (Option Term)) (v : Term) → At x u ≡ difference l r → occurs x u ≡ false → q ≡ set es x (Some v) → plain v ≡ u
      → opens (equations q) < opens (equations es)
  turn_falls x u q v d o e p =
      let n = going_falls (equations first) a b (equations es) k.going l r k.left k.right x u (sym d) o a_now b_now in
      subst (λ z. opens z < opens (equations es)) (set_equation x u q v e p) n
