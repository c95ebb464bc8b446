-- What a call gives, its declaration gives, by what is asked.
use Rattle.inline_ho_laws.proofs.Outputs.{value_given, action_done, device_traced}
use Rattle.inline_ho_laws.proofs.laws.flat_functions_mean_their_declarations.Goals as goal

pub returns-clause-values : goal.returns-clause-values
returns-clause-values c program origins functions flattened budget i n of around a x b vs ts s v e = value_given program origins functions flattened budget i n of around a x b vs ts s v e

pub returns-clause-actions : goal.returns-clause-actions
returns-clause-actions c program origins functions flattened budget i n of around a x b vs ts s states v after e before h =
    action_done program origins functions flattened budget i n of around a x b vs ts s states v after e before h

pub returns-clause-devices : goal.returns-clause-devices
returns-clause-devices c program origins functions flattened budget i n of around a x b vs ts s states inputs outputs end e before h =
    device_traced program origins functions flattened budget i n of around a x b vs ts s states inputs outputs end e before h
