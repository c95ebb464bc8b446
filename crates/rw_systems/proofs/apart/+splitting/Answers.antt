-- What is no system is a leaf, and arguments are put before others.
use Rattle.std.proofs.Common.{◌≡◌, IfOk, map, [], ◌++◌, sym, ◌∙◌, ap, subst, arith}
use Rattle.std.proofs.lemmas.Grind.{common_steps}
use Rattle.rw_tree.specs.Views.{itself}
use Rattle.rw_tree.specs.Trees.{application, expression_parts}
use Rattle.rw_tree.proofs.Plains.{expression-Apply}
use Rattle.rw_core.specs.Systems.{leaf}
use Rattle.rw_meaning.specs.Systems.{system_with, with_systems, system_of}
use Rattle.rw_systems.specs.Shown.{shown, seen, argument}
use Rattle.rw_systems.proofs.Heads.{leaf_alone, systems_before, shown_leaf}
use Rattle.rw_systems.proofs.apart.+splitting.Goals as goal

pub parts_of-returns-then-not-heads_system : goal.parts_of-returns-then-not-heads_system
parts_of-returns-then-not-heads_system g t c =
    let alone : system_of g.A.Binds.bound (seen c.args.whole.now) ≡ leaf (seen c.args.whole.now) = leaf_alone g.A.Binds.bound (seen c.args.whole.now) (seen c.args.whole.now) [] (sym c.if-not-heads_system.ensures) in
    shown_leaf c.args.whole ∙ sym alone

pub without_arguments-returns-in-Apply : goal.without_arguments-returns-in-Apply
without_arguments-returns-in-Apply g t c =
    let parts = expression_parts (map seen c.in-Apply.parts) in
    let whole = seen c.args.whole.now in
    let given = map argument c.args.arguments in
    let form : seen c.args.expression.now ≡ application c.in-Apply.field-0 (seen c.in-Apply.head) parts = ap seen c.in-Apply.is ∙ expression-Apply itself c.in-Apply.field-0 c.in-Apply.head c.in-Apply.parts in
    let all : map argument c.append.new.self ≡ with_systems g.A.Binds.bound parts [] ++ given = grind (arith, common_steps) in
    let more : map argument c.append.new.self ≡ with_systems g.A.Binds.bound parts given = all ∙ sym (systems_before g.A.Binds.bound parts given) in
    let done : IfOk c.without_arguments.result (λ made. shown made ≡ system_with g.A.Binds.bound whole (seen c.in-Apply.head) (map argument c.append.new.self)) =
    subst (λ z. IfOk c.without_arguments.result (λ made. shown made ≡ system_with g.A.Binds.bound whole (seen z) (map argument c.append.new.self))) c.get.ensures c.without_arguments.ensures in
    let same : IfOk c.without_arguments.result (λ made. shown made ≡ system_with g.A.Binds.bound whole (seen c.in-Apply.head) (with_systems g.A.Binds.bound parts given)) =
    subst (λ z. IfOk c.without_arguments.result (λ made. shown made ≡ system_with g.A.Binds.bound whole (seen c.in-Apply.head) z)) more done in
    subst (λ z. IfOk c.without_arguments.result (λ made. shown made ≡ system_with g.A.Binds.bound whole z given)) (sym form) same

pub parts_of-returns-in_ok-arguments-in-Apply : goal.parts_of-returns-in_ok-arguments-in-Apply
parts_of-returns-in_ok-arguments-in-Apply g t c =
    let parts = expression_parts (map seen c.in-Apply.parts) in
    let whole = seen c.args.whole.now in
    let made_of = c.in_ok-arguments-in-Apply.arguments in
    let form : whole ≡ application c.in-Apply.field-0 (seen c.in-Apply.head) parts = ap seen c.in-Apply.is ∙ expression-Apply itself c.in-Apply.field-0 c.in-Apply.head c.in-Apply.parts in
    let all : map argument made_of ≡ with_systems g.A.Binds.bound parts [] = c.in_ok-arguments-in-Apply.ensures ∙ ap (λ z. with_systems g.A.Binds.bound (expression_parts (map seen z)) []) c.as_slice.ensures in
    let done : IfOk c.without_arguments.result (λ made. shown made ≡ system_with g.A.Binds.bound whole (seen c.in-Apply.head) (map argument made_of)) =
    subst (λ z. IfOk c.without_arguments.result (λ made. shown made ≡ system_with g.A.Binds.bound whole (seen z) (map argument made_of))) c.get.ensures c.without_arguments.ensures in
    let same : IfOk c.without_arguments.result (λ made. shown made ≡ system_with g.A.Binds.bound whole (seen c.in-Apply.head) (with_systems g.A.Binds.bound parts [])) =
    subst (λ z. IfOk c.without_arguments.result (λ made. shown made ≡ system_with g.A.Binds.bound whole (seen c.in-Apply.head) z)) all done in
    subst (λ z. IfOk c.without_arguments.result (λ made. shown made ≡ system_with g.A.Binds.bound whole z [])) (sym form) same
