-- From what a command's own function says to what is promised of the command, and from its status to the status that stands after the line.
use Rattle.std.proofs.Common.{◌≡◌, ◌≢◌, ◌⊎◌, inl, inr, ℕ, List, [], Option, Some, None, Err, refl, sym, subst, append-nil}
use Rattle.rw_base.specs.Outside.{Files, Told, IfTold, Appended, AppendedPrefix, OthersKept}
use Rattle.rw_base.specs.Told.{told_same}
use Rattle.rw_base.specs.declared.rule.Rule.{Rule}
use Rattle.rw_base.specs.declared.place.Place.{Place}
use Rattle.vhdl_bench.specs.declared.fail.BenchFail.{BenchFail}
use Rattle.vhdl_bench.specs.declared.fail.BenchFail.TheVariants as bench
use Rattle.rewire_top.specs.Commands.{Command, Check, Compile, Sim, files_of, HoldsAll, KeepsOthers}
use Rattle.rewire_top.specs.Answers.{Compiles, CompilesInPart, IsRefusedAs, Simulates, Prints, CanBeDone, status_of, IsRefusal, IsLater}
use Rattle.rewire_top.specs.Answered.{Answered, IsUnlessOutside, IsFaultless}
use Rattle.rewire_top.specs.declared.status.Status.{Status}
use Rattle.rewire_top.specs.declared.status.Status.TheVariants as status

-- a fact of all content is told
told_all : {A : Type 0} (P : A → Type 0) (held : Option A) → ((a : A) → P a) → IfTold P held
told_all P None f = tt
told_all P (Some a) f = f a

-- a fact of the content with itself is told where nothing changed
told_alike : {A : Type 0} (P : A → A → Type 0) (old new : Option A) → new ≡ old → IfTold (λ a. P a a) old → Told P old new
told_alike P None new e h = subst (Told P None) (sym e) tt
told_alike P (Some a) new e h = subst (Told P (Some a)) (sym e) h

nothing_put : (before : Option (List ℕ)) → Told (Appended []) before before
nothing_put before = told_same (Appended []) before before (λ x. sym (append-nil x)) refl

no_prefix_put : (before : Option (List ℕ)) → Told (AppendedPrefix []) before before
no_prefix_put before = told_same (AppendedPrefix []) before before (λ x. (0, sym (append-nil x))) refl

is_later : (fail : BenchFail) → fail ≢ bench.OutOfMemory → IsLater (status_of fail)
is_later (bench.VhdlRefused rule) other = tt
is_later (bench.TraceRefused line) other = tt
is_later (bench.NotSettled change) other = tt
is_later bench.OutOfMemory other = absurd (other refl)

-- of a status that is none of `sim`'s
never_later : (s : Status) → (IsLater s → ⊥) → (fail : BenchFail) → fail ≢ bench.OutOfMemory → s ≡ status_of fail → ⊥
never_later s not fail other e = not (subst IsLater (sym e) (is_later fail other))

-- the same of a command that is this one
pub for_command : {sound loads saves puts : Type 0} {old new : Option Files} {before after : Option (List ℕ)} {s : Status} {a b : Option Command} → a ≡ b → Answered a sound loads saves puts old new before after s
    → Answered b sound loads saves puts old new before after s
for_command {sound} {loads} {saves} {puts} {old} {new} {before} {after} {s} e h = subst (λ (o : Option Command). Answered o sound loads saves puts old new before after s) e h

-- where nothing fails outside, no fault comes
no_fault : (command : Option Command) (sound loads saves puts : Type 0) (old : Option Files) (s : Status) → (s ≡ status.ReadFault → loads) → (sound → IfTold (HoldsAll (files_of command)) old → s ≢ status.ReadFault)
    → (s ≡ status.WriteFault → saves ⊎ puts) → (s ≡ status.WriteFault → sound → puts) → (files : Files) → old ≡ Some files → IsFaultless command sound loads saves puts files
    → (s ≡ status.Ok) ⊎ (s ≡ status.ReadFault) ⊎ (s ≡ status.WriteFault) ⊎ (s ≡ status.OutOfMemory) → (s ≡ status.Ok) ⊎ (s ≡ status.OutOfMemory)
no_fault command sound loads saves puts old s read read_sound write write_sound files held f (inl e) = inl e
no_fault command sound loads saves puts old s read read_sound write write_sound files held (inl f) (inr (inl e)) = absurd (f.0 (read e))
no_fault command sound loads saves puts old s read read_sound write write_sound files held (inr f) (inr (inl e)) =
    absurd (read_sound f.0 (subst (IfTold (HoldsAll (files_of command))) (sym held) f.1) e)
no_fault command sound loads saves puts old s read read_sound write write_sound files held (inl f) (inr (inr (inl e))) = elim (write e) [ inl x ↦ absurd (f.1 x) | inr x ↦ absurd (f.2 x) ]
no_fault command sound loads saves puts old s read read_sound write write_sound files held (inr f) (inr (inr (inl e))) = absurd (f.2 (write_sound e f.0))
no_fault command sound loads saves puts old s read read_sound write write_sound files held f (inr (inr (inr e))) = inr e

read_alone : (s : Status) → (s ≡ status.Ok) ⊎ (s ≡ status.ReadFault) ⊎ (s ≡ status.OutOfMemory) → (s ≡ status.Ok) ⊎ (s ≡ status.ReadFault) ⊎ (s ≡ status.WriteFault) ⊎ (s ≡ status.OutOfMemory)
read_alone s (inl e) = inl e
read_alone s (inr (inl e)) = inr (inl e)
read_alone s (inr (inr e)) = inr (inr (inr e))

module _ (sound loads saves puts : Type 0) (old new : Option Files) (before after : Option (List ℕ)) (s : Status) where
  pub of_usage : s ≡ status.Usage → new ≡ old → after ≡ before → Answered None sound loads saves puts old new before after s
  of_usage usage same quiet = record {
    read_fault = λ e. absurd (cc);
    read_fault_sound = λ _ _ e. absurd (cc);
    write_fault = λ e. absurd (cc);
    refused = λ rule place e. absurd (cc);
    refused_where = λ files rule place held r. absurd r;
    no_other = λ l. absurd (subst IsLater usage l);
    later = λ fail other e. absurd (never_later s (λ l. subst IsLater usage l) fail other e);
    later_where = λ files held fail r. absurd r;
    complete = λ files held can f. absurd can;
    ok = λ e. absurd (cc);
    part = λ e. absurd (cc);
    others = told_same (KeepsOthers None) old new (λ files name not. refl) same;
    kept = λ _ _. same;
    shown = λ e. absurd (cc);
    shown_part = λ e. absurd (cc);
    out_kept = λ _ _. quiet;
  }

  pub of_check : (file : List ℕ) → (s ≡ status.ReadFault → loads) → (sound → IfTold (HoldsAll (files_of (Some (Check file)))) old → s ≢ status.ReadFault) → s ≢ status.WriteFault → new ≡ old → after ≡ before
      → (s ≡ status.Ok → IfTold (λ files. Compiles (Some (Check file)) files files) old)
      → ((rule : Rule) (place : Place) → s ≡ status.Refused rule place → IfTold (λ files. IsRefusedAs (Some (Check file)) files rule place) old)
      → ((files : Files) (rule : Rule) (place : Place) → old ≡ Some files → IsRefusedAs (Some (Check file)) files rule place → IsUnlessOutside (status.Refused rule place) s)
      → (IsLater s → ⊥) → ((files : Files) → old ≡ Some files → CanBeDone (Some (Check file)) files → (s ≡ status.Ok) ⊎ (s ≡ status.ReadFault) ⊎ (s ≡ status.OutOfMemory)) → Answered (Some (Check file)) sound loads saves puts old new before after s
  of_check file read read_sound no_write same quiet ok refused refused_where not complete = record {
    read_fault = read;
    read_fault_sound = read_sound;
    write_fault = λ e. absurd (no_write e);
    refused = λ rule place e. (tt, refused rule place e);
    refused_where = refused_where;
    no_other = λ l. absurd (not l);
    later = λ fail other e. absurd (never_later s not fail other e);
    later_where = λ files held fail r. absurd r;
    complete = λ files held can f.
        no_fault (Some (Check file)) sound loads saves puts old s read read_sound (λ e. absurd (no_write e)) (λ e. absurd (no_write e)) files held f (read_alone s (complete files held can));
    ok = λ e. told_alike (Compiles (Some (Check file))) old new same (ok e);
    part = λ e. absurd (no_write e);
    others = told_same (KeepsOthers (Some (Check file))) old new (λ files name not. refl) same;
    kept = λ _ _. same;
    shown = λ e. ([], told_all (Prints (Some (Check file)) []) old (λ _. refl), subst (Told (Appended []) before) (sym quiet) (nothing_put before));
    shown_part = λ e. absurd (no_write e);
    out_kept = λ _ _. quiet;
  }

  pub of_compile : (file target : List ℕ) → (s ≡ status.ReadFault → loads) → (sound → IfTold (HoldsAll (files_of (Some (Compile file target)))) old → s ≢ status.ReadFault) → (s ≡ status.WriteFault → saves)
      → Told (OthersKept target) old new → (s ≢ status.Ok → s ≢ status.WriteFault → new ≡ old) → after ≡ before
      → (s ≡ status.Ok → Told (Compiles (Some (Compile file target))) old new) → (s ≡ status.WriteFault → Told (CompilesInPart (Some (Compile file target))) old new)
      → ((rule : Rule) (place : Place) → s ≡ status.Refused rule place → IfTold (λ files. IsRefusedAs (Some (Compile file target)) files rule place) old)
      → ((files : Files) (rule : Rule) (place : Place) → old ≡ Some files → IsRefusedAs (Some (Compile file target)) files rule place → IsUnlessOutside (status.Refused rule place) s)
      → (IsLater s → ⊥) → (sound → s ≢ status.WriteFault)
      → ((files : Files) → old ≡ Some files → CanBeDone (Some (Compile file target)) files → (s ≡ status.Ok) ⊎ (s ≡ status.ReadFault) ⊎ (s ≡ status.WriteFault) ⊎ (s ≡ status.OutOfMemory))
      → Answered (Some (Compile file target)) sound loads saves puts old new before after s
  of_compile file target read read_sound write others kept quiet ok part refused refused_where not write_sound complete = record {
    read_fault = read;
    read_fault_sound = read_sound;
    write_fault = write;
    refused = λ rule place e. (tt, refused rule place e);
    refused_where = refused_where;
    no_other = λ l. absurd (not l);
    later = λ fail other e. absurd (never_later s not fail other e);
    later_where = λ files held fail r. absurd r;
    complete = λ files held can f.
        no_fault (Some (Compile file target)) sound loads saves puts old s read read_sound (λ e. inl (write e)) (λ e is. absurd (write_sound is e)) files held f (complete files held can);
    ok = ok;
    part = part;
    others = others;
    kept = kept;
    shown = λ e. ([], told_all (Prints (Some (Compile file target)) []) old (λ _. refl), subst (Told (Appended []) before) (sym quiet) (nothing_put before));
    shown_part = λ e. ([], told_all (Prints (Some (Compile file target)) []) old (λ _. refl), subst (Told (AppendedPrefix []) before) (sym quiet) (no_prefix_put before));
    out_kept = λ _ _. quiet;
  }

  pub of_sim : (vhdl trace : List ℕ) → (s ≡ status.ReadFault → loads) → (sound → IfTold (HoldsAll (files_of (Some (Sim vhdl trace)))) old → s ≢ status.ReadFault) → (s ≡ status.WriteFault → puts) → new ≡ old
      → (IsRefusal s → ⊥) → ((fail : BenchFail) → fail ≢ bench.OutOfMemory → s ≡ status_of fail → IfTold (λ files. Simulates (Some (Sim vhdl trace)) files (Err fail)) old)
      → ((files : Files) → old ≡ Some files → (fail : BenchFail) → Simulates (Some (Sim vhdl trace)) files (Err fail) → IsUnlessOutside (status_of fail) s)
      → ((files : Files) → old ≡ Some files → CanBeDone (Some (Sim vhdl trace)) files → (s ≡ status.Ok) ⊎ (s ≡ status.ReadFault) ⊎ (s ≡ status.WriteFault) ⊎ (s ≡ status.OutOfMemory))
      → (s ≡ status.Ok → (text : List ℕ) × IfTold (Prints (Some (Sim vhdl trace)) text) old × Told (Appended text) before after)
      → (s ≡ status.WriteFault → (text : List ℕ) × IfTold (Prints (Some (Sim vhdl trace)) text) old × Told (AppendedPrefix text) before after)
      → (s ≢ status.Ok → s ≢ status.WriteFault → after ≡ before) → Answered (Some (Sim vhdl trace)) sound loads saves puts old new before after s
  of_sim vhdl trace read read_sound write same not later later_where complete shown part quiet = record {
    read_fault = read;
    read_fault_sound = read_sound;
    write_fault = write;
    refused = λ rule place e. absurd (not (subst IsRefusal (sym e) tt));
    refused_where = λ files rule place held r. absurd r;
    no_other = λ l. tt;
    later = later;
    later_where = later_where;
    complete = λ files held can f.
        no_fault (Some (Sim vhdl trace)) sound loads saves puts old s read read_sound (λ e. inr (write e)) (λ e _. write e) files held f (complete files held can);
    ok = λ e. told_same (Compiles (Some (Sim vhdl trace))) old new (λ _. tt) same;
    part = λ e. told_same (CompilesInPart (Some (Sim vhdl trace))) old new (λ _. tt) same;
    others = told_same (KeepsOthers (Some (Sim vhdl trace))) old new (λ files name not. refl) same;
    kept = λ _ _. same;
    shown = shown;
    shown_part = part;
    out_kept = quiet;
  }

-- the line changes a status to want of memory at most, and neither Ok nor a write fault
module _ (command : Option Command) (sound loads saves puts : Type 0) (old new : Option Files) (before after : Option (List ℕ)) where
  after_want : (given s : Status) → s ≡ status.OutOfMemory → (given ≡ status.Ok → s ≡ status.Ok) → (given ≡ status.WriteFault → s ≡ status.WriteFault)
      → Answered command sound loads saves puts old new before after given → Answered command sound loads saves puts old new before after s
  after_want given s memory still_ok still_write a = record {
    read_fault = λ e. absurd (cc);
    read_fault_sound = λ _ _ e. absurd (cc);
    write_fault = λ e. absurd (cc);
    refused = λ rule place e. absurd (cc);
    refused_where = λ files rule place held r. inr (inr memory);
    no_other = λ l. absurd (subst IsLater memory l);
    later = λ fail other e. absurd (never_later s (λ l. subst IsLater memory l) fail other e);
    later_where = λ files held fail r. inr (inr memory);
    complete = λ files held can f. inr memory;
    ok = λ e. absurd (cc);
    part = λ e. absurd (cc);
    others = a.others;
    kept = λ p q. a.kept (λ e. p (still_ok e)) (λ e. q (still_write e));
    shown = λ e. absurd (cc);
    shown_part = λ e. absurd (cc);
    out_kept = λ p q. a.out_kept (λ e. p (still_ok e)) (λ e. q (still_write e));
  }

  pub after_line : (given s : Status) → (s ≡ given) ⊎ (s ≡ status.OutOfMemory) → (given ≡ status.Ok → s ≡ status.Ok) → (given ≡ status.WriteFault → s ≡ status.WriteFault)
      → Answered command sound loads saves puts old new before after given → Answered command sound loads saves puts old new before after s
  after_line given s (inl same) still_ok still_write a = subst (Answered command sound loads saves puts old new before after) (sym same) a
  after_line given s (inr memory) still_ok still_write a = after_want given s memory still_ok still_write a
