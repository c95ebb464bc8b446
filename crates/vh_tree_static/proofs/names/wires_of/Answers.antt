-- The ports before the signals.
use Rattle.std.proofs.Common.{◌≡◌, ◌∷◌, ◌++◌, codes, rules, ap, ◌∙◌}
use Rattle.vh_tree.specs.StaticRules.{declared_signals, port, width_among}
use Rattle.vh_tree_static.proofs.names.wires_of.Goals as goal

pub returns : goal.returns
returns c =
    let d = c.args.design.now in
    let signals = declared_signals d.items in
    let these = declared_signals c.as_slice-items.result.now in
    let heard : c.in_ok-heard.heard.items ++ these ≡ port (codes "clk") 1 ∷ port (codes "rst") 1 ∷ port (codes "inp") d.inp ∷ signals = search rules in
    let read : c.in_ok-read.read.items ++ these ≡ port (codes "inp") d.inp ∷ signals = search rules in
    let driven : c.in_ok-driven.driven.items ++ these ≡ port (codes "outp") d.outp ∷ signals = search rules in
    (c.in_ok-with_signals.ensures ∙ ap width_among heard, c.in_ok-with_signals-2.ensures ∙ ap width_among read, c.in_ok-with_signals-3.ensures ∙ ap width_among driven)
