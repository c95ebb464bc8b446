-- What a process reads in a cycle: from buffers, and from the ports and signals for which they stand.
use Rattle.std.proofs.Common.{◌≡◌, ℕ, List, [], ◌∷◌, length, true, ◌⊎◌, inl, inr, Option, Some, None, refl, sym, ◌∙◌, arith, codes}
use mathlib.Core.Bool.{true≢false}
use Rattle.vh_tree.specs.Bits.{Bytes, Bits, same_name, is_among}
use Rattle.vh_tree.specs.Functions.{scope_in, calls_of}
use Rattle.vh_tree.specs.StaticRules.{Shape, names_of, signal_names, driven_names, names_in_process, process_vars, widths_in_process, shapes_of, IsStatic}
use Rattle.vh_tree.specs.Widths.{GivesWidth, KeepsWidths}
use Rattle.vh_tree.specs.declared.design.Design.{Design}
use Rattle.vh_tree_laws.proofs.Comparisons.{either_cases, either_left, either_right}
use Rattle.vh_tree_laws.proofs.Stores.{value_width, read_width}
use Rattle.vh_tree_laws.proofs.FunctionWidth.{gives_bare}
use Rattle.vh_tree_laws.proofs.DesignWidth.{ready}
use Rattle.vhdl_cycle_flat.specs.Agreeing.{GiveTheSame, ScopesAgree}
use Rattle.vhdl_cycle_flat.specs.Calling.{FramesGive}
use Rattle.vhdl_cycle_flat.specs.Names.{Frames, slots_of, total_width, called_over, scope_over}
use Rattle.vhdl_cycle_laws.proofs.Places.{placed}
use Rattle.vhdl_cycle_laws.proofs.Reading.{held_at, held_widths, value_same}
use Rattle.vhdl_cycle_laws.proofs.Usable.{any}

-- what a process may read, and what it may assign to, are ports and signals
module _ (d : Design) (x : Bytes) where
  among_last : is_among x (signal_names d.items) ≡ true → is_among x (codes "outp" ∷ signal_names d.items) ≡ true
  among_last a = either_right (same_name x (codes "outp")) (is_among x (signal_names d.items)) a

  behind_reset : is_among x (codes "inp" ∷ codes "outp" ∷ signal_names d.items) ≡ true → is_among x (names_of (process_vars d)) ≡ true
  behind_reset a =
      either_right (same_name x (codes "clk")) (is_among x (codes "rst" ∷ codes "inp" ∷ codes "outp" ∷ signal_names d.items))
      (either_right (same_name x (codes "rst")) (is_among x (codes "inp" ∷ codes "outp" ∷ signal_names d.items)) a)

  read_case : (same_name x (codes "inp") ≡ true) ⊎ (is_among x (signal_names d.items) ≡ true) → is_among x (names_of (process_vars d)) ≡ true
  read_case (inl e) = behind_reset (either_left (same_name x (codes "inp")) (is_among x (codes "outp" ∷ signal_names d.items)) e)
  read_case (inr a) = behind_reset (either_right (same_name x (codes "inp")) (is_among x (codes "outp" ∷ signal_names d.items)) (among_last a))

  pub read_among : (names_in_process d.items).reads x ≡ true → is_among x (names_of (process_vars d)) ≡ true
  read_among r = read_case (either_cases (same_name x (codes "inp")) (is_among x (signal_names d.items)) r)

  pub driven_among : is_among x (driven_names d.items) ≡ true → is_among x (names_of (process_vars d)) ≡ true
  driven_among a = behind_reset (either_right (same_name x (codes "inp")) (is_among x (codes "outp" ∷ signal_names d.items)) a)

no_width : (ns : List ℕ) → length ns ≡ 0 → [] ≡ ns
no_width [] e = refl
no_width (n ∷ ns) e = absurd (omega arith)

module _ (d : Design) (static : IsStatic d) (frames : Frames) (n : ℕ) (gives : FramesGive (shapes_of d.items) frames (calls_of d.items) n) where
  -- a function of the design is called alike, by its name alone too
  bare_same : (x : Bytes) (shape : Option Shape) → shapes_of d.items x ≡ shape → GivesWidth shape 0 (calls_of d.items x) → called_over (frames x) n [] ≡ calls_of d.items x []
  bare_same x None e w = absurd w
  bare_same x (Some shape) e w = gives x shape e [] (no_width shape.params w.0)

  called_same : (x : Bytes) (k : ℕ) (now : Bits) (shape : Option Shape) → shapes_of d.items x ≡ shape → GivesWidth shape k (calls_of d.items x) →
      GiveTheSame shape ((scope_over (slots_of (process_vars d)) frames n now).call x) (calls_of d.items x)
  called_same x k now None e w = absurd w
  called_same x k now (Some shape) e w = gives x shape e

  pub scopes_agree : (now : Bits) → ScopesAgree (names_in_process d.items) any (widths_in_process d) (scope_over (slots_of (process_vars d)) frames n now) (scope_in (calls_of d.items) (held_at (process_vars d) now))
  scopes_agree now = record {
    reads = λ x r.
        value_same (calls_of d.items) (frames x) n x (process_vars d) now (slots_of (process_vars d) x) (placed x 0 0 (process_vars d)) (λ no. absurd (true≢false (sym (read_among d x r) ∙ no)));
    bare = λ x a u.
        value_same (calls_of d.items) (frames x) n x (process_vars d) now (slots_of (process_vars d) x) (placed x 0 0 (process_vars d)) (λ no. bare_same x (shapes_of d.items x) refl (ready d static x 0 a refl));
    calls = λ x k a u. called_same x k now (shapes_of d.items x) refl (ready d static x k a refl);
  }

  pub scopes_keep : (now : Bits) → length now ≡ total_width (process_vars d) → KeepsWidths (names_in_process d.items) any (widths_in_process d) (scope_in (calls_of d.items) (held_at (process_vars d) now))
  scopes_keep now e = record {
    reads = λ x r. read_width (process_vars d) (held_at (process_vars d) now) (held_widths (process_vars d) now e) (calls_of d.items) x (read_among d x r);
    bare = λ x a u. value_width (process_vars d) (held_at (process_vars d) now) (held_widths (process_vars d) now e) (calls_of d.items) x (shapes_of d.items x) (gives_bare (shapes_of d.items x) (calls_of d.items x) (ready d static x 0 a refl));
    calls = λ x k a u. ready d static x k a refl;
  }
