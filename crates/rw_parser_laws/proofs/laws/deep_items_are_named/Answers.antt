-- What is kept, and what stands behind it.
use Rattle.rw_parser_laws.proofs.ReadProgram.{item_sound, items_sound}
use Rattle.rw_parser_laws.proofs.Shallow.{items_no_functions, place_of_item, none_deep, earlier_broken, deep_broken}
use Rattle.rw_parser_laws.proofs.laws.deep_items_are_named.Goals as goal

pub returns-clause-none : goal.returns-clause-none
returns-clause-none c = none_deep

pub returns-clause-earlier : goal.returns-clause-earlier
returns-clause-earlier c = λ n runs items at place e f b. earlier_broken items at place (items_no_functions (items_sound n runs items e)) f b

pub returns-clause-there : goal.returns-clause-there
returns-clause-there c = λ n runs items at program e f r. deep_broken items at program (items_no_functions (items_sound n runs items e)) f r

pub returns-clause-place : goal.returns-clause-place
returns-clause-place c = λ n run end item e. place_of_item n (item_sound n run end item e)
