-- No local name is bound outside.
use Rattle.std.proofs.Common.{ap, map}
use Rattle.rw_types_solving.specs.Types.{apply}
use Rattle.rw_types_solving.proofs.Plains.{plain_var}
use Rattle.rw_tree.specs.Trees.{alternative_of}
use Rattle.rw_types_equations.specs.Numbered.{typed_by}
use Rattle.rw_types_equations.specs.Seen.{seen_world}
use Rattle.rw_types_equations.proofs.Adding.{adds_as}
use Rattle.rw_types_equations.proofs.Own.{clauses_at_top}
use Rattle.rw_types_equations.proofs.declaration.add_all_clauses.Goals as goal

pub returns : goal.returns
returns c = adds_as _ _ _ _ c.in_ok-add_clauses.ensures.agrees
    (λ t. clauses_at_top (seen_world c.args.world.now) _ _ (t c.args.number) (map (alternative_of (typed_by t)) c.args.trees.now) (ap (map t) c.new-locals.ensures) (ap (apply t) (plain_var c.args.number)))
