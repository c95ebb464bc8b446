use Rattle.std.proofs.Common.{map, subst}
use Rattle.vhdl_bench.specs.Showing.{IsShown, inputs_of}
use Rattle.vhdl_bench.proofs.Deciding.{exact_shown}
use Rattle.vhdl_bench.proofs.whole.simulate.Goals as goal

pub returns-in-Ok-clause-exactly : goal.returns-in-Ok-clause-exactly
returns-in-Ok-clause-exactly c =
    let bits = map (λ line. line.items) c.in-Ok.inputs.items in
    let shown : IsShown c.in_ok-design.design (inputs_of bits) c.show.result =
    subst (λ lines. IsShown c.in_ok-design.design (inputs_of (map (λ line. line.items) lines)) c.show.result) c.as_slice.ensures.value c.show.ensures in
    exact_shown c.order_law.ensures.in_text c.args.vhdl.now c.args.trace.now c.read_text.result c.read_text.ensures c.in_ok-design.design c.in_ok-design.was bits c.in-Ok.ensures.answers c.show.result shown
