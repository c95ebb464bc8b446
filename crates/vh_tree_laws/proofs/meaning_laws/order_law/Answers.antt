-- The law of every order, clause by clause.
use Rattle.vh_tree_laws.proofs.Orders.{every_order}
use Rattle.vh_tree_laws.proofs.Settling.{cycles_alike, settled_alike, bench_alike, text_is_schedule}
use Rattle.vh_tree_laws.proofs.meaning_laws.order_law.Goals as goal

pub returns-clause-one_cycle : goal.returns-clause-one_cycle
returns-clause-one_cycle c = every_order

pub returns-clause-each_cycle : goal.returns-clause-each_cycle
returns-clause-each_cycle c = cycles_alike

pub returns-clause-settles : goal.returns-clause-settles
returns-clause-settles c = settled_alike

pub returns-clause-reads : goal.returns-clause-reads
returns-clause-reads c = bench_alike

pub returns-clause-in_text : goal.returns-clause-in_text
returns-clause-in_text c = text_is_schedule
