-- A declaration that declares the name, and one that doesn't.
use Rattle.std.proofs.Common.{◌∙◌, sym}
use Rattle.rw_scope_rules.specs.Bindings.{declared_constructors}
use Rattle.rw_cover.proofs.Found.{declaration_passed, declaration_found}
use Rattle.rw_cover.proofs.named.constructor_named.Goals as goal

pub returns-then-is_some : goal.returns-then-is_some
returns-then-is_some c =
    declaration_found declared_constructors c.args.name.now c.loop-at.at c.args.decls.now c.index-decls-at.result c.loop-at-test.true c.index-decls-at.is
    c.in_ok-found.found c.in_ok-found.ensures c.if-is_some.ensures
    ∙ c.loop-at.invariant

pub loop-at-preserved : goal.loop-at-preserved
loop-at-preserved c =
    sym (declaration_passed declared_constructors c.args.name.now c.loop-at.at c.args.decls.now c.index-decls-at.result c.loop-at-test.true c.index-decls-at.is
    c.in_ok-found.found c.in_ok-found.ensures c.if-is_some.ensures)
    ∙ c.loop-at.invariant
