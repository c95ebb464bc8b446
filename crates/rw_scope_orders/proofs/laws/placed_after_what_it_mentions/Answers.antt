-- Each binding is placed after what it mentions.
use Rattle.rw_scope_orders.proofs.Groups.{mentioned_earlier, order_is_whole}
use Rattle.rw_scope_orders.proofs.laws.placed_after_what_it_mentions.Goals as goal

pub returns-clause-earlier : goal.returns-clause-earlier
returns-clause-earlier g c = mentioned_earlier

pub returns-clause-all : goal.returns-clause-all
returns-clause-all g c = order_is_whole
