-- The bench: which values the ports take, change by change, and what is read at `outp`.
use Rattle.std.specs.Prelude.{◌≡◌, ℕ, zero, suc, ◌+◌, List, [], ◌∷◌, replicate, true, Option, Some, None, Result, Ok, Err, codes, if◌then◌else◌}
use Rattle.vh_tree.specs.Bits.{Bytes, Bits}
use Rattle.vh_tree.specs.DeltaCycle.{Wires, Orders, AreOrders, put, seen, seen_at, delta_cycle, is_quiet}
use Rattle.rw_base.specs.declared.bit.Bit9.TheVariants.{U, Zero, One}
use Rattle.vh_tree.specs.declared.design.Design.{Design}
use Rattle.vh_tree.specs.declared.wire.Wire.{Wire}
use Rattle.vh_tree.specs.declared.wire.Settled.{Settled}
use Rattle.vh_tree.specs.declared.wire.State.{State}
use Rattle.vh_tree.specs.declared.design.Item.{Item}
use Rattle.vh_tree.specs.declared.design.Item.TheVariants.{Signal, Function as Declared}

-- a port or a signal before the start: all 'U'
abbrev pub fresh : Bytes → ℕ → Wire
fresh name width = record { name = name; value = replicate width U; pending = None }

-- the signals of the items
abbrev pub signals_of : List Item → Wires
signals_of [] = []
signals_of (Signal v ∷ items) = fresh v.name v.width ∷ signals_of items
signals_of (Declared f ∷ items) = signals_of items

-- the ports, then the signals
abbrev pub wires_of : Design → Wires
wires_of d = fresh (codes "clk") 1 ∷ fresh (codes "rst") 1 ∷ fresh (codes "inp") d.inp ∷ fresh (codes "outp") d.outp ∷ signals_of d.items

-- a port given a value from outside, which the next cycle makes current
abbrev pub set_port : Bytes → Bits → State → State
set_port x v s = record { wires = put x v s.wires; starting = s.starting }

-- change 1: the start, with `clk` '0', `rst` '1' and `inp` all '0'
abbrev pub start_of : Design → State
start_of d =
    set_port (codes "clk") (Zero ∷ []) (set_port (codes "rst") (One ∷ []) (set_port (codes "inp") (replicate d.inp Zero)
    (record { wires = wires_of d; starting = true })))

-- change 2, and each change 2k + 2: `clk` '1'
abbrev pub edge : State → State
edge s = set_port (codes "clk") (One ∷ []) s

-- change 2k + 1: `rst` '0', `clk` '0' and the k-th input
abbrev pub given : Bits → State → State
given input s = set_port (codes "rst") (Zero ∷ []) (set_port (codes "clk") (Zero ∷ []) (set_port (codes "inp") input s))

-- what is read
abbrev pub outp_of : State → Bits
outp_of s = seen_at (seen s.wires) (codes "outp")

-- one delta cycle more
abbrev pub one_later : Option Settled → Option Settled
one_later None = None
one_later (Some t) = Some (record { state = t.state; count = suc t.count })

-- the orders without the first
abbrev pub later : Orders → Orders
later orders k = orders (suc k)

-- the first quiet state, after at most this many delta cycles; None where there is none
abbrev pub settled : Design → Orders → ℕ → State → Option Settled
settled d orders zero s = if is_quiet s then Some (record { state = s; count = 0 }) else None
settled d orders (suc most) s =
    if is_quiet s then Some (record { state = s; count = 0 }) else one_later (settled d (later orders) most (delta_cycle d (orders 0) s))

-- for each change, counted from 1, the orders of its cycles
abbrev pub Schedule : Type 0
Schedule = ℕ → Orders

abbrev pub IsSchedule : Design → Schedule → Type 0
IsSchedule d schedule = (change : ℕ) → AreOrders d (schedule change)

-- in each cycle the order of the text
abbrev pub text_schedule : Design → Schedule
text_schedule d change k = d.processes

-- the state of a settling, or the number of the change that did not settle
abbrev pub or_change : ℕ → Option Settled → Result State ℕ
or_change change None = Err change
or_change change (Some t) = Ok t.state

-- what follows a change that settled
abbrev pub on_ok : {A B : Type 0} → Result A ℕ → (A → Result B ℕ) → Result B ℕ
on_ok (Ok a) next = next a
on_ok (Err change) next = Err change

-- a change with `clk` '0', and then one with `clk` '1', each settled within this many delta cycles
abbrev pub clocked : ℕ → Design → Schedule → ℕ → State → Result State ℕ
clocked most d schedule change s =
    on_ok (or_change change (settled d (schedule change) most s)) (λ low. or_change (change + 1) (settled d (schedule (change + 1)) most (edge low)))

-- a reading before those that follow it
abbrev pub read_first : Bits → Result (List Bits) ℕ → Result (List Bits) ℕ
read_first reading rest = on_ok rest (λ readings. Ok (reading ∷ readings))

-- the readings from a change on, whose port values are pending: one, and one more for each input
abbrev pub readings_from : ℕ → Design → Schedule → ℕ → State → List Bits → Result (List Bits) ℕ
readings_from most d schedule change s [] = on_ok (clocked most d schedule change s) (λ high. Ok (outp_of high ∷ []))
readings_from most d schedule change s (input ∷ inputs) =
    on_ok (clocked most d schedule change s) (λ high. read_first (outp_of high) (readings_from most d schedule (change + 2) (given input high) inputs))

-- what the bench reads on these inputs, where each change is quiet after at most `most` delta cycles, and else the
-- number of the first change that is not
abbrev pub bench_readings : ℕ → Design → Schedule → List Bits → Result (List Bits) ℕ
bench_readings most d schedule inputs = readings_from most d schedule 1 (start_of d) inputs

-- whatever the orders of the processes, the bench reads these
abbrev pub BenchInEveryOrder : ℕ → Design → List Bits → List Bits → Type 0
BenchInEveryOrder most d inputs readings = (schedule : Schedule) → IsSchedule d schedule → bench_readings most d schedule inputs ≡ Ok readings
