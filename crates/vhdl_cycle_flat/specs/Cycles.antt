-- Delta cycles over flat lists of bits, and settling.
use Rattle.std.specs.Prelude.{◌≡◌, ℕ, zero, suc, ◌≤◌, ◌<◌, List, [], ◌∷◌, length, replicate, Bool, true, false, not, ◌&&◌, Option, Some, None}
use Rattle.std.specs.List.{list_any}
use Rattle.vh_tree.specs.Bits.{Bits, same_bits}
use Rattle.vh_tree.specs.DeltaCycle.{rises}
use Rattle.rw_base.specs.declared.bit.Bit9.TheVariants.{One}
use Rattle.vhdl_cycle_flat.specs.Flat.{part_of}
use Rattle.vhdl_cycle_flat.specs.Delta.{ran}
use Rattle.vhdl_cycle_flat.specs.declared.process.Process.{Process}
use Rattle.vhdl_cycle_flat.specs.declared.process.World.{World}

-- the bits of all signals now, before this cycle and in the next; `clk` is the first bit and `rst` the second
pub record State : Type 0 where
  pub now : Bits
  pub before : Bits
  pub next : Bits
  pub pending : List Bool
  pub starting : Bool

abbrev pub world_of : Bool → Bits → Bits → World
world_of starting before now = record {
  rising = (not starting && not (same_bits (part_of 0 1 before) (part_of 0 1 now))) && rises (part_of 0 1 before) (part_of 0 1 now);
  reset = same_bits (part_of 1 1 now) (One ∷ []);
}

abbrev pub delta_of : List Process → ℕ → State → State
delta_of ps n s =
    let c = ran ps s.starting s.now (world_of s.starting s.now s.next) n s.next (record { next = s.next; pending = replicate (length s.pending) false }) in
    record { now = s.next; before = s.now; next = c.next; pending = c.pending; starting = false }

abbrev pub cycles_of : List Process → ℕ → ℕ → State → State
cycles_of ps n zero s = s
cycles_of ps n (suc k) s = delta_of ps n (cycles_of ps n k s)

abbrev pub is_quiet : State → Bool
is_quiet s = not s.starting && not (list_any (λ p. p) s.pending)

-- quiet after exactly k cycles
pub record Settles (ps : List Process) (n : ℕ) (k : ℕ) (s t : State) : Type 0 where
  pub reached : t ≡ cycles_of ps n k s
  pub quiet : is_quiet t ≡ true
  pub not_before : (j : ℕ) → j < k → is_quiet (cycles_of ps n j s) ≡ false

-- what settling answers, if at most this many cycles are tried
abbrev pub IsSettling : List Process → ℕ → ℕ → State → State → Option ℕ → Type 0
IsSettling ps n most s t (Some k) = (k ≤ most) × Settles ps n k s t
IsSettling ps n most s t None = (j : ℕ) → j ≤ most → is_quiet (cycles_of ps n j s) ≡ false

-- some number of cycles lead from one state to the other
abbrev pub Reaches : List Process → ℕ → State → State → Type 0
Reaches ps n s t = (k : ℕ) × (t ≡ cycles_of ps n k s)
