-- The start of the bench: what the ports are given.
use Rattle.std.proofs.Common.{◌≡◌, [], ◌∷◌, length, replicate, codes, refl, ap, ◌∙◌}
use Rattle.std.proofs.lemmas.List.{length-replicate}
use Rattle.rw_base.specs.declared.bit.Bit9.TheVariants.{Zero, One}
use Rattle.vh_tree.specs.Bits.{Bits}
use Rattle.vh_tree.specs.Bench.{set_port}
use Rattle.vh_tree.specs.declared.design.Design.{Design}
use Rattle.vhdl_cycle_flat.specs.declared.slot.Slot.{Slot}
use Rattle.vhdl_cycle.specs.Simulating.{StandsAt}
use Rattle.vhdl_cycle.proofs.Changing.{inp_wide}
use Rattle.vhdl_cycle.proofs.sim.Sim.new.Goals as goal

as_wide : (d : Design) (at : Slot) (zeros given : Bits) → StandsAt d (codes "inp") at → given ≡ zeros → zeros ≡ replicate d.inp Zero → length given ≡ at.len
as_wide d at zeros given stands same filled = ap length (same ∙ filled) ∙ (length-replicate d.inp Zero ∙ inp_wide d at stands)

pub returns-clause-runs : goal.returns-clause-runs
returns-clause-runs c =
    let d = c.args.design.now in
    let runs = c.in_ok-sim.ensures.runs in
    let wide = as_wide d c.in_ok-sim.sim.inp c.in_ok-zeros.zeros.items c.as_slice.result.now runs.inp c.as_slice.ensures.value c.in_ok-zeros.ensures in
    let inp = c.give.ensures.runs d runs (codes "inp") runs.inp wide in
    let rst = c.give-2.ensures.runs d inp (codes "rst") (record { place = (c.port_law.ensures.places d).rst }) refl in
    c.give-3.ensures.runs d rst (codes "clk") (record { place = (c.port_law.ensures.places d).clk }) refl

pub returns-clause-starts : goal.returns-clause-starts
returns-clause-starts c =
    let d = c.args.design.now in
    let runs = c.in_ok-sim.ensures.runs in
    let wide = as_wide d c.in_ok-sim.sim.inp c.in_ok-zeros.zeros.items c.as_slice.result.now runs.inp c.as_slice.ensures.value c.in_ok-zeros.ensures in
    let inp = c.give.ensures.runs d runs (codes "inp") runs.inp wide in
    let rst = c.give-2.ensures.runs d inp (codes "rst") (record { place = (c.port_law.ensures.places d).rst }) refl in
    c.give-3.ensures.given d rst (codes "clk") (record { place = (c.port_law.ensures.places d).clk }) refl
    ∙ ap (set_port (codes "clk") (Zero ∷ []))
    (c.give-2.ensures.given d inp (codes "rst") (record { place = (c.port_law.ensures.places d).rst }) refl
    ∙ ap (set_port (codes "rst") (One ∷ []))
    (c.give.ensures.given d runs (codes "inp") runs.inp wide
    ∙ (λ i. set_port (codes "inp") ((c.as_slice.ensures.value ∙ c.in_ok-zeros.ensures) i) (c.in_ok-sim.ensures.stands i))))
