-- By induction on types.
use Rattle.std.proofs.Common.{ap, sym, ◌∙◌}
use Rattle.specialise_rules.specs.Instances.{same_type, same_instance}
use Rattle.specialise_laws.proofs.Same.{type_is, type_self, instance_is, instance_self}
use Rattle.specialise_laws.proofs.laws.same_law.Goals as goal

pub returns-clause-types : goal.returns-clause-types
returns-clause-types c t u = (type_is t u, λ e. ap (same_type t) (sym e) ∙ type_self t)

pub returns-clause-instances : goal.returns-clause-instances
returns-clause-instances c i j = (instance_is i j, λ e. ap (same_instance i) (sym e) ∙ instance_self i)
