-- The names in the fields of one constructor are not all known.
use Rattle.std.proofs.Common.{◌∙◌, flat_map, map, sym, ap, arith}
use Rattle.rw_tree.specs.Types.{writtens}
use Rattle.rw_tree.specs.Declarations.{plain_constructor}
use Rattle.rw_scope_rules.specs.Scope.{are_among, type_constructors}
use Rattle.rw_scope_names.proofs.Written.{fails, fields-listed}
use Rattle.rw_scope_names.proofs.types.field_constructors_are.Goals as goal

pub returns-then-not-all_constructors_are : goal.returns-then-not-all_constructors_are
returns-then-not-all_constructors_are c =
    fails (λ k. flat_map type_constructors k.field_types) plain_constructor c.args.constructors.now c.loop-constructor.constructor-index c.constructor-item.result c.args.known.now (omega arith) c.constructor-item.is
    (sym c.if-not-all_constructors_are.true ∙ c.all_constructors_are.ensures.list ∙ ap (λ ts. are_among (flat_map type_constructors (writtens ts)) c.args.known.now) c.as_slice.ensures)
    ∙ ap (λ ns. are_among ns c.args.known.now) (sym (fields-listed type_constructors (map plain_constructor c.args.constructors.now)))
