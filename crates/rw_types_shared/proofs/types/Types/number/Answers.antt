-- The set takes the node, or has it.
use Rattle.std.proofs.Common.{List, length, sym, subst}
use Rattle.rw_types_shared.specs.Shared.{Node, AreBelow, IsProper}
use Rattle.rw_types_shared.proofs.Adding.{proper_after, stored_at}
use Rattle.rw_types_shared.proofs.types.Types.number.Goals as goal

pub returns-clause-proper : goal.returns-clause-proper
returns-clause-proper c =
    let e = c.in_ok-n.ensures in let before = sym c.self.view_is in
    proper_after _ c.self.inside.nodes.keys _ c.args.node (subst IsProper before c.requires.proper)
    (subst (λ (z : List Node). AreBelow (length z) c.args.node.parts.items) before c.requires.earlier) e.keys e.unique

pub returns-clause-at : goal.returns-clause-at
returns-clause-at c = let s = c.in_ok-n.ensures.stored in stored_at _ c.in_ok-n.n s.0 c.args.node s.1 s.2
