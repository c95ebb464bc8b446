-- What resolved processes mean, and delta cycles over flat lists of bits.
use Rattle.std.specs.Prelude.{ℕ, List, [], ◌∷◌, length, map, max, slice_set, nat_lt, Bool, true, false, not, ◌||◌, if◌then◌else◌}
use Rattle.std.specs.List.{list_any}
use Rattle.vh_tree.specs.Bits.{Bits, same_bits}
use Rattle.vhdl_cycle_flat.specs.Flat.{expr_of, test_of, part_of, written}
use Rattle.vhdl_cycle_flat.specs.declared.process.Check.{Check}
use Rattle.vhdl_cycle_flat.specs.declared.process.Check.TheVariants.{Equal, Rising, Reset}
use Rattle.vhdl_cycle_flat.specs.declared.process.Drive.{Drive}
use Rattle.vhdl_cycle_flat.specs.declared.process.Row.{Row}
use Rattle.vhdl_cycle_flat.specs.declared.process.Drive.TheOpen.{Drive-F, Assign, If, Row-F}
use Rattle.vhdl_cycle_flat.specs.declared.process.Drive.TheFolds.{fold-Drive, fold-Row}
use Rattle.vhdl_cycle_flat.specs.declared.process.Place.{Place}
use Rattle.vhdl_cycle_flat.specs.declared.process.Process.{Process}
use Rattle.vhdl_cycle_flat.specs.declared.process.World.{World}

-- what is to come: the next values of all signals, and which are pending
pub record Coming : Type 0 where
  pub next : Bits
  pub pending : List Bool

pub record Effect : Type 0 where
  pub after : World → ℕ → Bits → Coming → Coming
  pub room : ℕ → Bits → ℕ

pub record Taken : Type 0 where
  pub checks : List Check
  pub body : List Effect

abbrev pub check_of : Check → World → ℕ → Bits → Bool
check_of (Equal t) w n now = (test_of t).holds n now
check_of Rising w n now = w.rising
check_of Reset w n now = w.reset

abbrev pub room_check : Check → ℕ → Bits → ℕ
room_check (Equal t) n now = (test_of t).room n now
room_check Rising n now = 0
room_check Reset n now = 0

abbrev pub all_hold : List Check → World → ℕ → Bits → Bool
all_hold [] w n now = true
all_hold (c ∷ cs) w n now = if check_of c w n now then all_hold cs w n now else false

abbrev pub room_checks : List Check → ℕ → Bits → ℕ
room_checks [] n now = 0
room_checks (c ∷ cs) n now = max (room_check c n now) (room_checks cs n now)

abbrev pub raised : ℕ → List Bool → List Bool
raised at pending = if nat_lt at (length pending) then slice_set pending at true else pending

abbrev pub in_order : List Effect → World → ℕ → Bits → Coming → Coming
in_order [] w n now s = s
in_order (e ∷ es) w n now s = in_order es w n now (e.after w n now s)

abbrev pub room_in_order : List Effect → ℕ → Bits → ℕ
room_in_order [] n now = 0
room_in_order (e ∷ es) n now = max (e.room n now) (room_in_order es n now)

abbrev pub first_taken : List Taken → List Effect → World → ℕ → Bits → Coming → Coming
first_taken [] other w n now s = in_order other w n now s
first_taken (b ∷ bs) other w n now s = if all_hold b.checks w n now then in_order b.body w n now s else first_taken bs other w n now s

abbrev pub room_first : List Taken → List Effect → ℕ → Bits → ℕ
room_first [] other n now = room_in_order other n now
room_first (b ∷ bs) other n now = max (room_checks b.checks n now) (max (room_in_order b.body n now) (room_first bs other n now))

abbrev pub drive_step : Drive-F Effect Taken → Effect
drive_step (Assign at from e) = record {
  after = λ w n now s. record { next = written from ((expr_of e).value n now) s.next; pending = raised at s.pending };
  room = (expr_of e).room;
}
drive_step (If rows other) = record { after = first_taken rows other; room = room_first rows other }

abbrev pub row_step : Row-F Effect Taken → Taken
row_step r = record { checks = r.checks; body = r.body }

abbrev pub drive_of : Drive → Effect
drive_of = fold-Drive Effect Taken drive_step row_step

abbrev pub row_of : Row → Taken
row_of = fold-Row Effect Taken drive_step row_step

-- whether one of these places has other bits than before
abbrev pub has_event : Bits → Bits → List Place → Bool
has_event now before places = list_any (λ p. not (same_bits (part_of p.from p.len now) (part_of p.from p.len before))) places

-- the processes in order, each where it starts or has an event
abbrev pub ran : List Process → Bool → Bits → World → ℕ → Bits → Coming → Coming
ran [] starting before w n now s = s
ran (p ∷ ps) starting before w n now s =
    ran ps starting before w n now (if starting || has_event now before p.sensitive then in_order (map drive_of p.body) w n now s else s)

abbrev pub room_ran : List Process → ℕ → Bits → ℕ
room_ran [] n now = 0
room_ran (p ∷ ps) n now = max (room_in_order (map drive_of p.body) n now) (room_ran ps n now)
