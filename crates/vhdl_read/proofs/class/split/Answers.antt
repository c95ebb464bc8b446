use Rattle.std.proofs.lemmas.List.Sums.{prefix_len-le-length}
use Rattle.std.proofs.Common.{arith}
use Rattle.vhdl_read.specs.Kinds.{is_in}
use Rattle.vhdl_read.proofs.class.split.Goals as goal

pub split_at-requires : goal.split_at-requires
split_at-requires c = omega (arith, c.run_len-n.ensures, prefix_len-le-length (is_in c.args.class) c.args.bytes.now)
