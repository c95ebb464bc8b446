-- By the node with this number.
use Rattle.std.proofs.Common.{ℕ, List, nat_eq, length, ap, ◌∙◌}
use Rattle.specialise_types.proofs.Nodes.{state_at, device_at}
use Rattle.specialise_types.proofs.counting.is_known_layer.Goals as goal

pub returns-in-StateT : goal.returns-in-StateT
returns-in-StateT c =
    ap (λ (z : List ℕ). nat_eq (length z) 1) c.as_slice.ensures.value
    ∙ state_at c.args.nodes.now c.args.n c.in-Some.node.now c.requires c.in-Some.ensures.lookup.3.0 c.in-Some.ensures.lookup.1 c.in-StateT.is

pub returns-in-ReT : goal.returns-in-ReT
returns-in-ReT c =
    ap (λ (z : List ℕ). nat_eq (length z) 2) c.as_slice-in-ReT.ensures.value
    ∙ device_at c.args.nodes.now c.args.n c.in-Some.node.now c.requires c.in-Some.ensures.lookup.3.0 c.in-Some.ensures.lookup.1 c.in-ReT.is
