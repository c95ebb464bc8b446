-- One part more is longer by its value, and takes its room behind the others.
use Rattle.std.proofs.Common.{arith, ◌≡◌, List, ◌++◌, map, ap, ◌∙◌, length, length-append}
use Rattle.vhdl_cycle_flat.specs.Flat.{expr_of, joined, room_joined}
use Rattle.vhdl_cycle_flat.specs.declared.resolved.Expr.{Expr}
use Rattle.vhdl_cycle_resolve.proofs.Joined.{joined_one_more, room_one_more}
use Rattle.vhdl_cycle_resolve.proofs.sized.Parts.push.Goals as goal

pub invariant_of-self-2 : goal.invariant_of-self-2
invariant_of-self-2 c = record {
  narrow = λ n frame.
      let es = c.args.self.now.exprs in
      let e = c.args.part.expr in
      let longer : joined (map expr_of c.push.new.self) n frame ≡ joined (map expr_of es) n frame ++ (expr_of e).value n frame =
      ap (λ (xs : List Expr). joined (map expr_of xs) n frame) c.in_ok-push.ensures.ok ∙ joined_one_more es e n frame in
      omega (arith, ap length longer, length-append (joined (map expr_of es) n frame) ((expr_of e).value n frame), c.args.self.now.narrow n frame, c.args.part.narrow n frame, c.in_ok-width.ensures);
  light = λ n frame.
      let es = c.args.self.now.exprs in
      let e = c.args.part.expr in
      let more : room_joined (map expr_of c.push.new.self) n frame ≡ _ =
      ap (λ (xs : List Expr). room_joined (map expr_of xs) n frame) c.in_ok-push.ensures.ok ∙ room_one_more es e n frame in
      omega (arith, more, c.args.self.now.narrow n frame, c.args.part.narrow n frame, c.args.self.now.light n frame, c.args.part.light n frame, c.in_ok-room.ensures);
}

pub returns : goal.returns
returns c = λ n frame. ap (λ (xs : List Expr). joined (map expr_of xs) n frame) c.in_ok-push.ensures.ok ∙ joined_one_more c.args.self.now.exprs c.args.part.expr n frame
