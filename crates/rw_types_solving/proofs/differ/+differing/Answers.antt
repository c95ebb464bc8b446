-- Where one list of parts is longer, the heads clash.
use Rattle.std.proofs.Common.{arith, ◌∙◌, sym}
use Rattle.rw_types_solving.proofs.Plains.{longer}
use Rattle.rw_types_solving.proofs.differ.+differing.Goals as goal

pub first_of_all-returns-then-ts-us : goal.first_of_all-returns-then-ts-us
first_of_all-returns-then-ts-us t c =
    let e = longer c.args.ts.now c.args.us.now c.loop-i.i (omega arith) (omega arith) in sym e ∙ c.loop-i.invariant
