-- The ports, then the signals.
use Rattle.std.proofs.Common.{◌∷◌, codes, subst}
use Rattle.vh_tree.specs.StaticRules.{declared_signals, port, process_vars}
use Rattle.vhdl_cycle_resolve.specs.Laid.{IsLaid}
use Rattle.vhdl_cycle_resolve.proofs.Laying.{laid_first, laid_more}
use Rattle.vhdl_cycle_resolve.proofs.layout.wires_of.Goals as goal

pub returns : goal.returns
returns c =
    let d = c.args.design.now in
    let end = c.add_signals.new.self in
    let signals = declared_signals d.items in
    let a = c.new-layout.result in
    let b = c.add.new.self in
    let e = c.add-2.new.self in
    let f = c.add-3.new.self in
    let g = c.add-4.new.self in
    let last : IsLaid g signals end = subst (λ items. IsLaid g (declared_signals items) end) c.as_slice.ensures c.in_ok-add_signals.ensures in
    let clk = port (codes "clk") 1 in
    let rst = port (codes "rst") 1 in
    let inp = port (codes "inp") d.inp in
    let outp = port (codes "outp") d.outp in
    laid_first (process_vars d) a end c.new-layout.ensures (laid_more a b end clk (rst ∷ inp ∷ outp ∷ signals) c.in_ok-add.ensures (laid_more b e end rst (inp ∷ outp ∷ signals) c.in_ok-add-2.ensures
    (laid_more e f end inp (outp ∷ signals) c.in_ok-add-3.ensures (laid_more f g end outp signals c.in_ok-add-4.ensures last))))
