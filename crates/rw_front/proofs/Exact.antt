-- A stage is exact where its parts are.
use Rattle.std.proofs.Common.{◌≡◌, inl, inr, Result, Ok, Err, ap, subst}
use Rattle.rw_base.specs.Answers.{Fail}
use Rattle.rw_base.specs.declared.fail.Failure.TheVariants as fail
use Rattle.rw_base.specs.declared.fail.Refusal.{Refusal}
use Rattle.rw_front.specs.Stages.{Stage, ◌then◌, IsExactAt, AnswersBy}

abbrev good : {B : Type 0} → B → Result B Refusal
good made = Ok made

abbrev bad : (B : Type 0) → Refusal → Result B Refusal
bad B refusal = Err refusal

-- what was made, where something was
abbrev made_of : {B : Type 0} → B → Result B Refusal → B
made_of other (Ok made) = made
made_of other (Err refusal) = other

abbrev is_made : {B : Type 0} → Result B Refusal → Type 0
is_made (Ok made) = Unit {0}
is_made (Err refusal) = ⊥

abbrev refused_in : {B : Type 0} → Refusal → Result B Refusal → Refusal
refused_in other (Ok made) = other
refused_in other (Err refusal) = refusal

ok_is : {B : Type 0} (a b : B) → good a ≡ good b → a ≡ b
ok_is a b e = ap (made_of a) e

err_is : {B : Type 0} (r s : Refusal) → bad B r ≡ bad B s → r ≡ s
err_is r s e = ap (refused_in r) e

never : {B : Type 0} (a : B) (r : Refusal) → good a ≡ Err r → ⊥
never a r e = subst is_made e tt

pub then_exact : {A B C : Type 0} (Is : Stage A B) (Becomes : Stage B C) (given : A) → IsExactAt Is given → ((between : B) → Is given (Ok between) → IsExactAt Becomes between) → IsExactAt (Is then Becomes) given
then_exact Is Becomes given first second (Ok made) (Ok other) (b, p, q) (c, s, t) =
    let e : b ≡ c = ok_is b c (first (Ok b) (Ok c) p s) in
    second c s (Ok made) (Ok other) (subst (λ x. Becomes x (Ok made)) e q) t
then_exact Is Becomes given first second (Ok made) (Err r) (b, p, q) (inl s) = absurd (never b r (first (Ok b) (Err r) p s))
then_exact Is Becomes given first second (Ok made) (Err r) (b, p, q) (inr (c, s, t)) =
    second c s (Ok made) (Err r) (subst (λ x. Becomes x (Ok made)) (ok_is b c (first (Ok b) (Ok c) p s)) q) t
then_exact Is Becomes given first second (Err r) (Ok other) (inl p) (c, s, t) = absurd (never c r (first (Ok c) (Err r) s p))
then_exact Is Becomes given first second (Err r) (Ok other) (inr (b, p, q)) (c, s, t) =
    second c s (Err r) (Ok other) (subst (λ x. Becomes x (Err r)) (ok_is b c (first (Ok b) (Ok c) p s)) q) t
then_exact Is Becomes given first second (Err r) (Err x) (inl p) (inl q) = ap Err (err_is r x (first (Err r) (Err x) p q))
then_exact Is Becomes given first second (Err r) (Err x) (inl p) (inr (c, s, t)) = absurd (never c r (first (Ok c) (Err r) s p))
then_exact Is Becomes given first second (Err r) (Err x) (inr (b, p, q)) (inl s) = absurd (never b x (first (Ok b) (Err x) p s))
then_exact Is Becomes given first second (Err r) (Err x) (inr (b, p, q)) (inr (c, s, t)) =
    second c s (Err r) (Err x) (subst (λ y. Becomes y (Err r)) (ok_is b c (first (Ok b) (Ok c) p s)) q) t

-- ---- answers of stages, one after the other

-- what the second answers of what the first made
pub answers_after : {A B C X : Type 0} (Is : Stage A B) (Becomes : Stage B C) (see : X → C) (given : A) (between : B) → Is given (Ok between)
    → (r : Result X Fail) → AnswersBy Becomes see between r → AnswersBy (Is then Becomes) see given r
answers_after Is Becomes see given between p (Ok made) q = (between, p, q)
answers_after Is Becomes see given between p (Err (fail.Refused refusal)) q = inr (between, p, q)
answers_after Is Becomes see given between p (Err fail.OutOfMemory) q = tt

-- a refusal of the first is one of both
abbrev pub RefusedAs : {A B : Type 0} → Stage A B → A → Fail → Type 0
RefusedAs Is given (fail.Refused refusal) = Is given (Err refusal)
RefusedAs Is given fail.OutOfMemory = Unit {0}

pub refused_first : {A B C X : Type 0} (Is : Stage A B) (Becomes : Stage B C) (see : X → C) (given : A) (f : Fail) → RefusedAs Is given f → AnswersBy (Is then Becomes) see given (Err f)
refused_first Is Becomes see given (fail.Refused refusal) p = inl p
refused_first Is Becomes see given fail.OutOfMemory p = tt
