-- Delta cycles (IEEE Std 1076-1993, section 12.6.4, without time), under any order of the processes.
use Rattle.std.specs.Prelude.{ℕ, zero, suc, List, [], ◌∷◌, map, Bool, true, false, not, ◌&&◌, Some, None, unwrap_or, is_none, codes, if◌then◌else◌, IsPermutation}
use Rattle.std.specs.List.{list_any, list_all}
use Rattle.vh_tree.specs.Bits.{Bytes, Bits, same_bits, same_name, rises_to}
use Rattle.vh_tree.specs.Functions.{Calls, Store, World, held, scope_in, value_in, stmts_of, calls_of}
use Rattle.rw_base.specs.declared.bit.Bit9.TheVariants.{One}
use Rattle.vh_tree.specs.declared.process.Process.{Process}
use Rattle.vh_tree.specs.declared.design.Design.{Design}
use Rattle.vh_tree.specs.declared.wire.Wire.{Wire}
use Rattle.vh_tree.specs.declared.wire.Moment.{Moment}
use Rattle.vh_tree.specs.declared.wire.State.{State}

-- ports and signals
abbrev pub Wires : Type 0
Wires = List Wire

-- their values in one moment
abbrev pub seen : Wires → Store
seen ws = map (λ w. held w.name w.value) ws

-- a pending value becomes current
abbrev pub moved : Wire → Wire
moved w = record { name = w.name; value = unwrap_or w.pending w.value; pending = None }

-- the value of a port or a signal; nothing where there is none of this name
abbrev pub seen_at : Store → Bytes → Bits
seen_at store x = value_in store (λ _ _. []) x

-- an event: the value changed; in the start cycle nothing has one
abbrev pub has_event : Moment → Bytes → Bool
has_event m x = not m.starting && not (same_bits (seen_at m.before x) (seen_at m.current x))

-- from '0' to '1', as one bit
abbrev pub rises : Bits → Bits → Bool
rises (last ∷ []) (now ∷ []) = rises_to last now
rises last now = false

-- `rising_edge ( clk )`: an event on `clk`, which rises
abbrev pub clock_rises : Moment → Bool
clock_rises m = has_event m (codes "clk") && rises (seen_at m.before (codes "clk")) (seen_at m.current (codes "clk"))

-- an assignment to a signal or a port becomes pending, in place of an earlier one
abbrev pub put : Bytes → Bits → Wires → Wires
put x v [] = []
put x v (w ∷ ws) = if same_name w.name x then record { name = w.name; value = w.value; pending = Some v } ∷ ws else w ∷ put x v ws

-- the statements of a process read the moment's values alone
abbrev pub process_world : Calls → Moment → World Wires
process_world calls m = record {
  scope = λ _. scope_in calls m.current;
  assign = put;
  rising = clock_rises m;
  reset = same_bits (seen_at m.current (codes "rst")) (One ∷ []);
}

-- a process runs where a name of its sensitivity list has an event; in the start cycle each runs
abbrev pub runs : Moment → Process → Bool
runs m p = if m.starting then true else list_any (has_event m) p.sensitive

-- what one process does in a cycle
abbrev pub process_effect : Calls → Moment → Process → Wires → Wires
process_effect calls m p ws = if runs m p then stmts_of Wires p.body (process_world calls m) ws else ws

-- the processes in this order
abbrev pub all_effects : Calls → Moment → List Process → Wires → Wires
all_effects calls m [] ws = ws
all_effects calls m (p ∷ ps) ws = all_effects calls m ps (process_effect calls m p ws)

-- the moment of the cycle that follows a state
abbrev pub moment_of : State → Moment
moment_of s = record { starting = s.starting; before = seen s.wires; current = seen (map moved s.wires) }

-- one delta cycle, in which the processes that run do so in this order
abbrev pub delta_cycle : Design → List Process → State → State
delta_cycle d order s = record { wires = all_effects (calls_of d.items) (moment_of s) order (map moved s.wires); starting = false }

-- an order: all processes, each once
abbrev pub IsOrder : Design → List Process → Type 0
IsOrder d order = IsPermutation d.processes order

-- an order for each of the cycles that follow, counted from 0
abbrev pub Orders : Type 0
Orders = ℕ → List Process

abbrev pub AreOrders : Design → Orders → Type 0
AreOrders d orders = (k : ℕ) → IsOrder d (orders k)

-- the state after n delta cycles
abbrev pub cycles : Design → Orders → ℕ → State → State
cycles d orders zero s = s
cycles d orders (suc n) s = delta_cycle d (orders n) (cycles d orders n s)

-- quiet: the start cycle has run, and nothing is pending; a pending value that equals the current one is pending
abbrev pub is_quiet : State → Bool
is_quiet s = not s.starting && list_all (λ w. is_none w.pending) s.wires
