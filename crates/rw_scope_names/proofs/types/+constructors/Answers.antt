-- The names of one type are not all known, and the list as the parts of a type.
use Rattle.std.proofs.Common.{rules, ◌≡◌, ◌∙◌, true, flat_map, sym, ap, arith}
use Rattle.std.proofs.lemmas.Grind.{common_steps}
use Rattle.rw_tree.specs.Types.{written, writtens}
use Rattle.rw_scope_rules.specs.Scope.{are_among, type_constructors}
use Rattle.rw_scope_names.proofs.Written.{fails, types_constructors-listed}
use Rattle.rw_scope_names.proofs.types.+constructors.Goals as goal

pub all_constructors_are-returns-then-not-constructors_are-clause-list : goal.all_constructors_are-returns-then-not-constructors_are-clause-list
all_constructors_are-returns-then-not-constructors_are-clause-list t c =
    fails type_constructors written c.args.types.now c.loop-written.written-index c.written-item.result c.args.known.now (omega arith) c.written-item.is (sym c.if-not-constructors_are.true ∙ c.constructors_are.ensures)

pub all_constructors_are-returns-then-not-constructors_are-clause-parts : goal.all_constructors_are-returns-then-not-constructors_are-clause-parts
all_constructors_are-returns-then-not-constructors_are-clause-parts t c =
    fails type_constructors written c.args.types.now c.loop-written.written-index c.written-item.result c.args.known.now (omega arith) c.written-item.is (sym c.if-not-constructors_are.true ∙ c.constructors_are.ensures)
    ∙ ap (λ ns. are_among ns c.args.known.now) (sym (types_constructors-listed (writtens c.args.types.now)))

pub all_constructors_are-returns-clause-parts : goal.all_constructors_are-returns-clause-parts
all_constructors_are-returns-clause-parts t c =
    let listed : true ≡ are_among (flat_map type_constructors (writtens c.args.types.now)) c.args.known.now = first_of (search rules, grind (arith, common_steps)) in
    listed ∙ ap (λ ns. are_among ns c.args.known.now) (sym (types_constructors-listed (writtens c.args.types.now)))
