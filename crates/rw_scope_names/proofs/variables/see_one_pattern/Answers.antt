-- Nothing comes before a pattern and after it.
use Rattle.std.proofs.Common.{refl}
use Rattle.rw_tree.specs.Views.{itself}
use Rattle.rw_tree.specs.Patterns.{pattern}
use Rattle.rw_scope_rules.specs.Bindings.{pattern_variables}
use Rattle.rw_scope_names.proofs.Behind.{at_last}
use Rattle.rw_scope_names.proofs.variables.see_one_pattern.Goals as goal

pub returns : goal.returns
returns c =
    at_last c.see_pattern.result c.new-seen.result c.see_pattern.new.seen c.args.places.now.items c.see_pattern.new.places.items _ (pattern_variables (pattern itself c.args.pat.now))
    c.new-seen.ensures refl c.see_pattern.ensures
