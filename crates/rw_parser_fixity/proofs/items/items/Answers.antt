-- One declaration more at each turn.
use Rattle.std.proofs.Common.{sym, subst, arith}
use Rattle.std.proofs.lemmas.Result.{err_from_is_err_and}
use Rattle.rw_parser_grammar.specs.Resolution.{IsDeclarationResolved, IsShallow, AreDeclarationsResolved, FirstDeclarationBroken}
use Rattle.rw_parser_chains.specs.Fixities.{strength_at}
use Rattle.rw_parser_fixity.proofs.Listed.{SoFar, IsBroken, broken_of, none_so_far, declaration_broken, declaration_made, declarations_made}
use Rattle.rw_parser_fixity.proofs.items.items.Goals as goal

pub loop-decl-init : goal.loop-decl-init
loop-decl-init c = let s = strength_at c.args.fixities.now in subst (λ z. SoFar s c.args.decls.now z 0) (sym c.new-made.ensures) (none_so_far s c.args.decls.now)

pub returns-in_err-item : goal.returns-in_err-item
returns-in_err-item c =
    let p = err_from_is_err_and c.from_residual.result c.from_residual.ensures.1 in
    let s = strength_at c.args.fixities.now in
    rw (p.1, p.2) (broken_of (λ made. IsDeclarationResolved s c.decl-item.result made × IsShallow made) (AreDeclarationsResolved s c.args.decls.now) (IsBroken s c.decl-item.result) (FirstDeclarationBroken s c.args.decls.now)
    (λ place b. declaration_broken s c.args.decls.now c.loop-decl.made c.loop-decl.decl-index c.decl-item.result (omega arith) c.decl-item.is c.loop-decl.invariant place b)
    c.in_err-item.field-0.0 c.in_err-item.ensures)

pub loop-decl-preserved : goal.loop-decl-preserved
loop-decl-preserved c =
    let h = c.in_ok-item.ensures in
    declaration_made (strength_at c.args.fixities.now) c.args.decls.now c.loop-decl.made c.loop-decl.decl-index c.decl-item.result (omega arith) c.decl-item.is c.loop-decl.invariant c.push.new.self c.in_ok-item.field-0 c.in_ok-push.ensures.ok h.0 h.1

pub returns : goal.returns
returns c = declarations_made (strength_at c.args.fixities.now) c.args.decls.now c.loop-decl.made c.loop-decl.decl-index (omega arith) c.loop-decl.invariant
