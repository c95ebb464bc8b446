-- What follows from facts of what is told.
use Rattle.std.specs.Prelude.{◌≡◌, Option, Some, None}
use Rattle.std.proofs.Common.{subst, sym}
use Rattle.rw_base.specs.Outside.{Told, IfTold}

pub told_then : {A : Type 0} (I : A → Type 0) (P Q : A → A → Type 0) (a b : Option A) → ((x y : A) → I x → P x y → Q x y) → IfTold I a → Told P a b → Told Q a b
told_then I P Q None None f i p = tt
told_then I P Q (Some x) (Some y) f i p = f x y i p
told_then I P Q None (Some y) f i p = p
told_then I P Q (Some x) None f i p = p

-- after a call that left all as it was
pub told_after : {A : Type 0} (I : A → Type 0) (P Q : A → A → Type 0) (old mid new : Option A) → mid ≡ old → ((x y : A) → I x → P x y → Q x y) → IfTold I old → Told P mid new → Told Q old new
told_after I P Q old mid new e f i p = told_then I P Q old new f i (subst (λ m. Told P m new) e p)

pub told_any : {A : Type 0} (a : Option A) → IfTold (λ _. Unit {0}) a
told_any None = tt
told_any (Some a) = tt

pub told_same : {A : Type 0} (P : A → A → Type 0) (old new : Option A) → ((x : A) → P x x) → new ≡ old → Told P old new
told_same P None new f e = subst (Told P None) (sym e) tt
told_same P (Some a) new f e = subst (Told P (Some a)) (sym e) (f a)
