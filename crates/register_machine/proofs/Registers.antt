-- A design with one register shows the outputs of its two expressions.
use Rattle.std.proofs.Common.{◌≡◌, ℕ, ◌+◌, List, [], ◌∷◌, refl, ap, sym, subst, Bool, true, false, ◌∙◌, Option, Some, None, Ok, arith, replicate, inl, inr}
use Rattle.std.specs.Prelude.{codes, ◌&&◌, ◌||◌, not, if◌then◌else◌, unwrap_or}
use Rattle.std.specs.List.Sorted.{IsPermutation}
use Rattle.vh_tree.specs.Bits.{Bytes, Bits, same_bits}
use Rattle.vh_tree.specs.Functions.{Calls, Store, held, expr_of, stmts_of, scope_in, calls_of}
use Rattle.vh_tree.specs.DeltaCycle.{Wires, moment_of, rises, put, process_world, process_effect, all_effects}
use Rattle.vh_tree.specs.Bench.{signals_of, fresh, set_port, start_of, edge, given, outp_of, on_ok, read_first, readings_from, Schedule, IsSchedule, BenchInEveryOrder}
use Rattle.vh_tree_equations.specs.Equations.{expr_of-Literal, stmt_of-Assign, stmt_of-If, branch_of-Branch}
use Rattle.rw_base.specs.declared.bit.Bit9.TheVariants.{U, Zero, One}
use Rattle.vh_tree.specs.declared.process.Process.{Process}
use Rattle.vh_tree.specs.declared.design.Design.{Design}
use Rattle.vh_tree.specs.declared.wire.Moment.{Moment}
use Rattle.vh_tree.specs.declared.wire.Wire.{Wire}
use Rattle.vh_tree.specs.declared.wire.State.{State}
use Rattle.register_machine.specs.OneRegister.{OneRegister, HasOneSignal, Computes, clocked, showing, design_of, register_outputs}
use Rattle.register_machine.proofs.Permuted.{Either, turned, two_permuted}
use Rattle.register_machine.proofs.SameBits.{bits_equal, bits_self}
use Rattle.register_machine.proofs.Settling.{Steps, goes, Settles, done, one_more, SettlesWithin, clocked-settles}

-- a wire without its name
record Reg : Type 0 where
  now : Bits
  pending : Option Bits

abbrev named : Bytes → Reg → Wire
named x g = record { name = x; value = g.now; pending = g.pending }

abbrev five : Reg → Reg → Reg → Reg → Reg → Wires
five k r i o s = named (codes "clk") k ∷ named (codes "rst") r ∷ named (codes "inp") i ∷ named (codes "outp") o ∷ named (codes "s0") s ∷ []

abbrev state : Bool → Reg → Reg → Reg → Reg → Reg → State
state b k r i o s = record { wires = five k r i o s; starting = b }

abbrev still : Bits → Reg
still v = record { now = v; pending = None }

abbrev waiting : Bits → Reg → Reg
waiting v g = record { now = g.now; pending = Some v }

abbrev waiting_if : Bool → Bits → Reg → Reg
waiting_if false v g = g
waiting_if true v g = waiting v g

-- what the start of a cycle makes of it
abbrev current : Reg → Reg
current g = record { now = unwrap_or g.pending g.now; pending = None }

-- whether it has an event then
abbrev event : Bool → Reg → Bool
event b g = not b && not (same_bits g.now (current g).now)

abbrev wakes : Bool → Reg → Bool
wakes b g = if b then true else (event b g || false)

abbrev low : Bits
low = Zero ∷ []

abbrev high : Bits
high = One ∷ []

and_true : (b : Bool) → (b && true) ≡ b
and_true true = refl
and_true false = refl

module _ (m : OneRegister) (next : Bits → Bits → Bits) (shown : Bits → Bits) (computes : Computes m next shown) where
  abbrev d : Design
  d = design_of m

  abbrev keeper : Process
  keeper = clocked m.reset m.next

  abbrev shower : Process
  shower = showing m.shown

  -- what the two processes do
  abbrev keep : Bool → Bool → Bits → Wires → Wires
  keep p q v ws = if p then (if q then put (codes "s0") m.reset ws else put (codes "s0") v ws) else ws

  abbrev keep_if : Bool → Bool → Bool → Bits → Wires → Wires
  keep_if x p q v ws = if x then keep p q v ws else ws

  abbrev show_if : Bool → Bits → Wires → Wires
  show_if y u ws = if y then put (codes "outp") u ws else ws

  keeper_does : (calls : Calls) (mo : Moment) (ws : Wires) → stmts_of Wires keeper.body (process_world calls mo) ws
      ≡ keep (process_world calls mo).rising (process_world calls mo).reset (expr_of m.next (scope_in calls mo.current)) ws
  keeper_does calls mo ws = rw (stmt_of-If, branch_of-Branch, and_true, stmt_of-If, branch_of-Branch, and_true, stmt_of-Assign, expr_of-Literal, stmt_of-Assign) refl

  shower_does : (calls : Calls) (mo : Moment) (ws : Wires) → stmts_of Wires shower.body (process_world calls mo) ws ≡ put (codes "outp") (expr_of m.shown (scope_in calls mo.current)) ws
  shower_does calls mo ws = rw stmt_of-Assign refl

  -- both, in either order
  placed : (x p q y : Bool) (v u : Bits) (k r i o s : Reg) →
      show_if y u (keep_if x p q v (five k r i o s)) ≡ five k r i (waiting_if y u o) (waiting_if (x && p) (if q then m.reset else v) s)
  placed true true true true v u k r i o s = refl
  placed true true true false v u k r i o s = refl
  placed true true false true v u k r i o s = refl
  placed true true false false v u k r i o s = refl
  placed true false q true v u k r i o s = refl
  placed true false q false v u k r i o s = refl
  placed false p q true v u k r i o s = refl
  placed false p q false v u k r i o s = refl

  turned_round : (x p q y : Bool) (v u : Bits) (k r i o s : Reg) →
      keep_if x p q v (show_if y u (five k r i o s)) ≡ five k r i (waiting_if y u o) (waiting_if (x && p) (if q then m.reset else v) s)
  turned_round true true true true v u k r i o s = refl
  turned_round true true true false v u k r i o s = refl
  turned_round true true false true v u k r i o s = refl
  turned_round true true false false v u k r i o s = refl
  turned_round true false q true v u k r i o s = refl
  turned_round true false q false v u k r i o s = refl
  turned_round false p q true v u k r i o s = refl
  turned_round false p q false v u k r i o s = refl

  -- one cycle
  abbrev after : Bool → Reg → Reg → Reg → Reg → Reg → State
  after b k r i o s = state false (current k) (current r) (current i)
      (waiting_if (wakes b s) (shown (current s).now) (current o))
      (waiting_if (wakes b k && (event b k && rises k.now (current k).now)) (if same_bits (current r).now high then m.reset else next (current i).now (current s).now) (current s))

  abbrev store : Reg → Reg → Reg → Reg → Reg → Store
  store k r i o s = held (codes "clk") k.now ∷ held (codes "rst") r.now ∷ held (codes "inp") i.now ∷ held (codes "outp") o.now ∷ held (codes "s0") s.now ∷ []

  abbrev calls : Calls
  calls = calls_of m.items

  -- the wires, over what the two expressions give
  abbrev ended : Bool → Reg → Reg → Reg → Reg → Reg → Bits → Bits → Wires
  ended b k r i o s v u = five (current k) (current r) (current i) (waiting_if (wakes b s) u (current o))
      (waiting_if (wakes b k && (event b k && rises k.now (current k).now)) (if same_bits (current r).now high then m.reset else v) (current s))

  abbrev next_value : Reg → Reg → Reg → Reg → Reg → Bits
  next_value k r i o s = expr_of m.next (scope_in calls (store (current k) (current r) (current i) (current o) (current s)))

  abbrev shown_value : Reg → Reg → Reg → Reg → Reg → Bits
  shown_value k r i o s = expr_of m.shown (scope_in calls (store (current k) (current r) (current i) (current o) (current s)))

  in_one_order : (b : Bool) (k r i o s : Reg) → all_effects calls (moment_of (state b k r i o s)) (keeper ∷ shower ∷ []) (five (current k) (current r) (current i) (current o) (current s))
      ≡ ended b k r i o s (next_value k r i o s) (shown_value k r i o s)
  in_one_order b k r i o s =
      let mo : Moment = moment_of (state b k r i o s) in
      let ws : Wires = five (current k) (current r) (current i) (current o) (current s) in
      let p : Bool = event b k && rises k.now (current k).now in
      let q : Bool = same_bits (current r).now high in
      let kept : Wires = keep_if (wakes b k) p q (next_value k r i o s) ws in
      ap (λ (vs : Wires). process_effect calls mo shower (if wakes b k then vs else ws)) (keeper_does calls mo ws)
      ∙ ap (λ (vs : Wires). if wakes b s then vs else kept) (shower_does calls mo kept)
      ∙ placed (wakes b k) p q (wakes b s) (next_value k r i o s) (shown_value k r i o s) (current k) (current r) (current i) (current o) (current s)

  in_the_other : (b : Bool) (k r i o s : Reg) → all_effects calls (moment_of (state b k r i o s)) (shower ∷ keeper ∷ []) (five (current k) (current r) (current i) (current o) (current s))
      ≡ ended b k r i o s (next_value k r i o s) (shown_value k r i o s)
  in_the_other b k r i o s =
      let mo : Moment = moment_of (state b k r i o s) in
      let ws : Wires = five (current k) (current r) (current i) (current o) (current s) in
      let p : Bool = event b k && rises k.now (current k).now in
      let q : Bool = same_bits (current r).now high in
      let shows : Wires = show_if (wakes b s) (shown_value k r i o s) ws in
      ap (λ (vs : Wires). process_effect calls mo keeper (if wakes b s then vs else ws)) (shower_does calls mo ws)
      ∙ ap (λ (vs : Wires). if wakes b k then vs else shows) (keeper_does calls mo shows)
      ∙ turned_round (wakes b k) p q (wakes b s) (next_value k r i o s) (shown_value k r i o s) (current k) (current r) (current i) (current o) (current s)

  orders_are : (first : Bool) (order : List Process) → IsPermutation (if first then keeper ∷ shower ∷ [] else shower ∷ keeper ∷ []) order → Either keeper shower order
  orders_are true order h = two_permuted keeper shower order h
  orders_are false order h = turned keeper shower order (two_permuted shower keeper order h)

  in_any : (b : Bool) (k r i o s : Reg) (order : List Process) → Either keeper shower order →
      all_effects calls (moment_of (state b k r i o s)) order (five (current k) (current r) (current i) (current o) (current s))
      ≡ ended b k r i o s (next_value k r i o s) (shown_value k r i o s)
  in_any b k r i o s order (inl e) =
      ap (λ (ps : List Process). all_effects calls (moment_of (state b k r i o s)) ps (five (current k) (current r) (current i) (current o) (current s))) e ∙ in_one_order b k r i o s
  in_any b k r i o s order (inr e) =
      ap (λ (ps : List Process). all_effects calls (moment_of (state b k r i o s)) ps (five (current k) (current r) (current i) (current o) (current s))) e ∙ in_the_other b k r i o s

  one_cycle : (b : Bool) (k r i o s : Reg) → Steps d (state b k r i o s) (after b k r i o s)
  one_cycle b k r i o s = record {
    to = λ order h. ap (λ (ws : Wires). record { wires = ws; starting = false })
        (in_any b k r i o s order (orders_are m.clocked_first order h)
        ∙ ap (λ (v : Bits). ended b k r i o s v (shown_value k r i o s)) (computes.steps (store (current k) (current r) (current i) (current o) (current s)))
        ∙ ap (λ (u : Bits). ended b k r i o s (next (current i).now (current s).now) u) (computes.shows (store (current k) (current r) (current i) (current o) (current s))));
  }

  -- quiet, with this clock, reset, input and state
  abbrev quiet : Bits → Bits → Bits → Bits → State
  quiet k r i s = state false (still k) (still r) (still i) (still (shown s)) (still s)

  -- an input, with a falling clock
  falls : (j r i s : Bits) → SettlesWithin 4 d (given j (quiet high r i s)) (quiet low low j s)
  falls j r i s = record {
    count = 1;
    few = omega arith;
    settles = one_more d 0 (given j (quiet high r i s)) (quiet low low j s) (quiet low low j s)
        (goes (one_cycle false (waiting low (still high)) (waiting low (still r)) (waiting j (still i)) (still (shown s)) (still s))
        (ap (λ (t : Bool). state false (still low) (still low) (still j) (waiting_if (not t || false) (shown s) (still (shown s))) (still s)) (bits_self s)))
        refl
        (done d (quiet low low j s) refl);
  }

  -- the state that a rising clock leads to
  abbrev taken : Bits → Bits → Bits → Bits
  taken r i s = if same_bits r high then m.reset else next i s

  -- after a rising clock it is pending
  abbrev risen : Bits → Bits → Bits → State
  risen r i s = state false (still high) (still r) (still i) (still (shown s)) (waiting (taken r i s) (still s))

  rise : (r i s : Bits) → Steps d (edge (quiet low r i s)) (risen r i s)
  rise r i s =
      goes (one_cycle false (waiting high (still low)) (still r) (still i) (still (shown s)) (still s))
      (ap (λ (t : Bool). state false (still high) (still r) (still i) (waiting_if (not t || false) (shown s) (still (shown s))) (waiting (taken r i s) (still s))) (bits_self s))

  -- and then shows, if it is another one
  abbrev showed : Bits → Bits → Bits → Bits → State
  showed r i s u = state false (still high) (still r) (still i) (waiting u (still (shown s))) (still (taken r i s))

  shows_new : (r i s : Bits) → same_bits s (taken r i s) ≡ false → Settles d 2 (risen r i s) (quiet high r i (taken r i s))
  shows_new r i s e =
      one_more d 1 (risen r i s) (showed r i s (shown (taken r i s))) (quiet high r i (taken r i s))
      (goes (one_cycle false (still high) (still r) (still i) (still (shown s)) (waiting (taken r i s) (still s)))
      (ap (λ (t : Bool). state false (still high) (still r) (still i) (waiting_if (not t || false) (shown (taken r i s)) (still (shown s))) (still (taken r i s))) e))
      refl
      (one_more d 0 (showed r i s (shown (taken r i s))) (quiet high r i (taken r i s)) (quiet high r i (taken r i s))
      (goes (one_cycle false (still high) (still r) (still i) (waiting (shown (taken r i s)) (still (shown s))) (still (taken r i s)))
      (ap (λ (t : Bool). state false (still high) (still r) (still i) (waiting_if (not t || false) (shown (taken r i s)) (still (shown (taken r i s)))) (still (taken r i s))) (bits_self (taken r i s))))
      refl
      (done d (quiet high r i (taken r i s)) refl))

  shows_old : (r i s : Bits) → same_bits s (taken r i s) ≡ true → Settles d 1 (risen r i s) (quiet high r i (taken r i s))
  shows_old r i s e =
      one_more d 0 (risen r i s) (quiet high r i (taken r i s)) (quiet high r i (taken r i s))
      (goes (one_cycle false (still high) (still r) (still i) (still (shown s)) (waiting (taken r i s) (still s)))
      (ap (λ (t : Bool). state false (still high) (still r) (still i) (waiting_if (not t || false) (shown (taken r i s)) (still (shown s))) (still (taken r i s))) e
      ∙ ap (λ (v : Bits). state false (still high) (still r) (still i) (still (shown v)) (still (taken r i s))) (bits_equal s (taken r i s) e)))
      refl
      (done d (quiet high r i (taken r i s)) refl)

  rises_so : (r i s : Bits) (t : Bool) → same_bits s (taken r i s) ≡ t → SettlesWithin 4 d (edge (quiet low r i s)) (quiet high r i (taken r i s))
  rises_so r i s true e = record {
    count = 2;
    few = omega arith;
    settles = one_more d 1 (edge (quiet low r i s)) (risen r i s) (quiet high r i (taken r i s)) (rise r i s) refl (shows_old r i s e);
  }
  rises_so r i s false e = record {
    count = 3;
    few = omega arith;
    settles = one_more d 2 (edge (quiet low r i s)) (risen r i s) (quiet high r i (taken r i s)) (rise r i s) refl (shows_new r i s e);
  }

  -- a rising clock
  rising : (r i s : Bits) → SettlesWithin 4 d (edge (quiet low r i s)) (quiet high r i (taken r i s))
  rising r i s = rises_so r i s (same_bits s (taken r i s)) refl

  -- the start
  abbrev unset : ℕ → Reg
  unset n = still (replicate n U)

  begin : ℕ → State
  begin n = state true (waiting low (unset 1)) (waiting high (unset 1)) (waiting (replicate m.inp Zero) (unset m.inp)) (unset m.outp) (unset n)

  begins : (n : ℕ) → signals_of m.items ≡ fresh (codes "s0") n ∷ [] → start_of d ≡ begin n
  unfolding begin
  begins n e = ap (λ (ws : Wires). set_port (codes "clk") low (set_port (codes "rst") high (set_port (codes "inp") (replicate m.inp Zero)
      (record { wires = fresh (codes "clk") 1 ∷ fresh (codes "rst") 1 ∷ fresh (codes "inp") m.inp ∷ fresh (codes "outp") m.outp ∷ ws; starting = true })))) e

  starts : (n : ℕ) → SettlesWithin 4 d (begin n) (quiet low high (replicate m.inp Zero) (replicate n U))
  unfolding begin
  starts n =
      let zeros : Bits = replicate m.inp Zero in
      let unknown : Bits = replicate n U in
      let between : State = state false (still low) (still high) (still zeros) (waiting (shown unknown) (unset m.outp)) (still unknown) in
      record {
        count = 2;
        few = omega arith;
        settles = one_more d 1 _ between _
            (one_cycle true (waiting low (unset 1)) (waiting high (unset 1)) (waiting zeros (unset m.inp)) (unset m.outp) (unset n))
            refl
            (one_more d 0 between _ _
            (goes (one_cycle false (still low) (still high) (still zeros) (waiting (shown unknown) (unset m.outp)) (still unknown))
            (ap (λ (t : Bool). state false (still low) (still high) (still zeros) (waiting_if (not t || false) (shown unknown) (still (shown unknown))) (still unknown)) (bits_self unknown)))
            refl
            (done d _ refl));
      }

  -- the readings from a change with a low clock on
  reads : (schedule : Schedule) → IsSchedule d schedule → (change : ℕ) (x : State) (r i s : Bits) (inputs : List Bits) →
      SettlesWithin 4 d x (quiet low r i s) → readings_from 4 d schedule change x inputs ≡ Ok (register_outputs next shown (taken r i s) inputs)
  reads schedule are change x r i s [] settles =
      ap (λ h. on_ok h (λ t. Ok (outp_of t ∷ []))) (clocked-settles 4 d schedule change x (quiet low r i s) (quiet high r i (taken r i s)) are settles (rising r i s))
  reads schedule are change x r i s (j ∷ js) settles =
      ap (λ h. on_ok h (λ t. read_first (outp_of t) (readings_from 4 d schedule (change + 2) (given j t) js)))
      (clocked-settles 4 d schedule change x (quiet low r i s) (quiet high r i (taken r i s)) are settles (rising r i s))
      ∙ ap (read_first (shown (taken r i s)))
      (reads schedule are (change + 2) (given j (quiet high r i (taken r i s))) low j (taken r i s) js (falls j r i (taken r i s)))

  pub register_reads : HasOneSignal m.items → (inputs : List Bits) → BenchInEveryOrder 4 d inputs (register_outputs next shown m.reset inputs)
  register_reads (n, e) inputs = λ schedule are.
      reads schedule are 1 (start_of d) high (replicate m.inp Zero) (replicate n U) inputs
      (subst (λ (x : State). SettlesWithin 4 d x (quiet low high (replicate m.inp Zero) (replicate n U))) (sym (begins n e)) (starts n))
