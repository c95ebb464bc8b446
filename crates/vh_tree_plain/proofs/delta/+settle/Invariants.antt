-- Each call has one cycle less.
use Rattle.vh_tree_plain.proofs.delta.+settle.Given as goal

abbrev pub decreases-settle : goal.decreases-settle
decreases-settle l = l.most
