-- What stands inside something is shorter.
use Rattle.rw_parser_laws.proofs.Narrow.{item_narrow}
use Rattle.rw_parser_laws.proofs.laws.items_need_no_more.Goals as goal

pub returns : goal.returns
returns c = λ k n tokens rest item h d. item_narrow k n tokens item rest h d
