-- What was loaded, and what comes of it.
use Rattle.std.proofs.Common.{◌≡◌, ◌⊎◌, inl, inr, ℕ, List, [], Option, Some, None, Result, Ok, Err, take, refl, ap, sym, subst, ◌∙◌}
use Rattle.rw_base.specs.Outside.{Files, IfTold, Loads}
use Rattle.vhdl_bench.specs.Showing.{IsSimulated, IsUnlessMemory}
use Rattle.vhdl_bench.specs.declared.fail.BenchFail.{BenchFail}
use Rattle.vhdl_bench.specs.declared.fail.BenchFail.TheVariants as bench
use Rattle.rewire_top.specs.Commands.{Sim}
use Rattle.rewire_top.specs.Answers.{most_of_vhdl, most_of_trace, Simulates, Prints, CanBeDone, status_of}
use Rattle.rewire_top.specs.declared.status.Status.{Status}
use Rattle.rewire_top.specs.declared.status.Status.TheVariants as status

-- facts that are told of the same content
pub both_told : {A : Type 0} (P Q R : A → Type 0) (held : Option A) → ((a : A) → P a → Q a → R a) → IfTold P held → IfTold Q held → IfTold R held
both_told P Q R None make p q = tt
both_told P Q R (Some a) make p q = make a p q

-- a name holds one thing
abbrev content : List ℕ → Option (List ℕ) → List ℕ
content none None = none
content none (Some bytes) = bytes

pub one_load : (name : List ℕ) (most : ℕ) (a b : List ℕ) (files : Files) → Loads name most a files → Loads name most b files → a ≡ b
one_load name most a b files p q = p.2 ∙ ap (take most) (ap (content []) (sym p.1 ∙ q.1)) ∙ sym q.2

-- a status tells the failure
abbrev failure_of : Status → BenchFail
failure_of (status.VhdlRefused rule) = bench.VhdlRefused rule
failure_of (status.TraceRefused line) = bench.TraceRefused line
failure_of (status.NotSettled change) = bench.NotSettled change
failure_of _ = bench.OutOfMemory

failure_back : (fail : BenchFail) → failure_of (status_of fail) ≡ fail
failure_back (bench.VhdlRefused rule) = refl
failure_back (bench.TraceRefused line) = refl
failure_back (bench.NotSettled change) = refl
failure_back bench.OutOfMemory = refl

same_failure : (a b : BenchFail) → status_of a ≡ status_of b → a ≡ b
same_failure a b e = sym (failure_back a) ∙ ap failure_of e ∙ failure_back b

abbrev Answer : Type 0
Answer = Result (List ℕ) BenchFail

abbrev failure_in : Answer → BenchFail
failure_in (Ok text) = bench.OutOfMemory
failure_in (Err fail) = fail

abbrev failed : BenchFail → Answer
failed fail = Err fail

abbrev lines_in : List ℕ → Answer → List ℕ
lines_in none (Ok text) = text
lines_in none (Err fail) = none

-- a refusal of what was loaded
pub later : (vhdl trace text bytes : List ℕ) (held : Option Files) → IfTold (Loads vhdl most_of_vhdl text) held → IfTold (Loads trace most_of_trace bytes) held →
    (given : BenchFail) → (failed given ≡ Err bench.OutOfMemory) ⊎ IsSimulated text bytes (Err given) → (fail : BenchFail) → (fail ≡ bench.OutOfMemory → ⊥) → status_of given ≡ status_of fail →
    IfTold (λ files. Simulates (Some (Sim vhdl trace)) files (Err fail)) held
later vhdl trace text bytes held loaded read given answer fail other is =
    let same : given ≡ fail = same_failure given fail is in
    elim answer [
      | inl memory ↦ absurd (other (sym same ∙ ap failure_in memory))
      | inr cause ↦
          both_told (Loads vhdl most_of_vhdl text) (Loads trace most_of_trace bytes) (λ files. Simulates (Some (Sim vhdl trace)) files (Err fail)) held
          (λ files p q. (text, bytes, p, q, subst (λ f. IsSimulated text bytes (Err f)) same cause)) loaded read
    ]

-- the text of what was loaded
pub printed : (vhdl trace text bytes : List ℕ) (held : Option Files) → IfTold (Loads vhdl most_of_vhdl text) held → IfTold (Loads trace most_of_trace bytes) held →
    (lines : List ℕ) (given : Answer) → given ≡ Ok lines → (given ≡ Err bench.OutOfMemory) ⊎ IsSimulated text bytes given → IfTold (Prints (Some (Sim vhdl trace)) lines) held
printed vhdl trace text bytes held loaded read lines given is answer =
    elim answer [
      | inl memory ↦ absurd (cc)
      | inr cause ↦
          both_told (Loads vhdl most_of_vhdl text) (Loads trace most_of_trace bytes) (Prints (Some (Sim vhdl trace)) lines) held
          (λ files p q. (text, bytes, p, q, subst (λ r. IsSimulated text bytes r) is cause)) loaded read
    ]

-- what was loaded is what the files hold
told_of : {A : Type 0} (P : A → Type 0) (held : Option A) (a : A) → held ≡ Some a → IfTold P held → P a
told_of P held a is p = subst (IfTold P) is p

-- an answer of the files is the answer of what was loaded
pub exactly : (vhdl trace text bytes : List ℕ) (held : Option Files) → IfTold (Loads vhdl most_of_vhdl text) held → IfTold (Loads trace most_of_trace bytes) held →
    (given : Answer) → ((other : Answer) → IsSimulated text bytes other → IsUnlessMemory other given) → (files : Files) → held ≡ Some files → (fail : BenchFail) → Simulates (Some (Sim vhdl trace)) files (Err fail) →
    (given ≡ Err fail) ⊎ (given ≡ Err bench.OutOfMemory)
exactly vhdl trace text bytes held loaded read given only files is fail s =
    only (Err fail) (subst (λ b. IsSimulated text b (Err fail)) (sym (one_load trace most_of_trace bytes s.1 files (told_of _ held files is read) s.3))
    (subst (λ t. IsSimulated t s.1 (Err fail)) (sym (one_load vhdl most_of_vhdl text s.0 files (told_of _ held files is loaded) s.2)) s.4))

pub status_given : (given fail : BenchFail) → (failed given ≡ Err fail) ⊎ (failed given ≡ Err bench.OutOfMemory) →
    (status_of given ≡ status_of fail) ⊎ (status_of given ≡ status.ReadFault) ⊎ (status_of given ≡ status.OutOfMemory)
status_given given fail e = elim e [ inl same ↦ inl (ap (λ r. status_of (failure_in r)) same) | inr memory ↦ inr (inr (ap (λ r. status_of (failure_in r)) memory)) ]

pub never_failed : {X : Type 0} (lines : List ℕ) (given : Answer) (fail : BenchFail) → given ≡ Ok lines → (given ≡ Err fail) ⊎ (given ≡ Err bench.OutOfMemory) → X
never_failed lines given fail is e = elim e [ inl same ↦ absurd (cc) | inr memory ↦ absurd (cc) ]

-- what can be shown fails for want of memory alone
pub want_alone : (vhdl trace text bytes : List ℕ) (held : Option Files) → IfTold (Loads vhdl most_of_vhdl text) held → IfTold (Loads trace most_of_trace bytes) held →
    (given : BenchFail) → ((other : Answer) → IsSimulated text bytes other → IsUnlessMemory other (Err given)) → (files : Files) → held ≡ Some files → CanBeDone (Some (Sim vhdl trace)) files → status_of given ≡ status.OutOfMemory
want_alone vhdl trace text bytes held loaded read given only files is (lines, s) =
    elim (only (Ok lines) (subst (λ b. IsSimulated text b (Ok lines)) (sym (one_load trace most_of_trace bytes s.1 files (told_of _ held files is read) s.3))
    (subst (λ t. IsSimulated t s.1 (Ok lines)) (sym (one_load vhdl most_of_vhdl text s.0 files (told_of _ held files is loaded) s.2)) s.4))) [
      | inl same ↦ absurd (cc)
      | inr memory ↦ ap (λ r. status_of (failure_in r)) memory
    ]
