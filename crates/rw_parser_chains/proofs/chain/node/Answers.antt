-- The two kinds of node.
use Rattle.std.proofs.Common.{◌∙◌, sym}
use Rattle.rw_parser_chains.proofs.Steps.{applied_is, called_is}
use Rattle.rw_parser_chains.proofs.chain.node.Goals as goal

pub returns-then-applies : goal.returns-then-applies
returns-then-applies c = rw (applied_is c.args.operator c.args.left c.args.right (sym c.applies.ensures ∙ c.if-applies.true)) c.application.ensures

pub returns-else-applies : goal.returns-else-applies
returns-else-applies c = rw (called_is c.args.operator c.args.left c.args.right (sym c.applies.ensures ∙ c.if-applies.false)) c.call.ensures
