-- A signature more: its names are put in.
use Rattle.std.proofs.Common.{◌∙◌, [], sym, ap, arith}
use Rattle.rw_tree.specs.Views.{itself}
use Rattle.rw_tree.specs.Declarations.{declaration}
use Rattle.rw_scope_rules.specs.Names.{is_among}
use Rattle.rw_scope_rules.specs.Bindings.{names_of}
use Rattle.rw_scope_rules.specs.Scope.{signatures_at}
use Rattle.rw_scope_names.proofs.Sets.{declared_put, names_of-spread, no_signatures}
use Rattle.rw_scope_names.proofs.gather.put_signatures.Goals as goal
use Rattle.rw_scope_names.proofs.gather.put_signatures.Goals.{in-Sig+in_ok-put_all, in_default}

pub loop-decl-preserved : goal.loop-decl-preserved
loop-decl-preserved c = λ x.
    elim c.match-decl.branch [
      | in-Sig+in_ok-put_all w ↦
          declared_put signatures_at c.args.decls.now c.loop-decl.decl-index c.decl-item.result c.match-decl.set c.loop-decl.set w.as_slice.result.now x _ (omega arith) c.decl-item.is
          (ap (λ d. names_of (signatures_at (declaration itself d))) w.in-Sig.is ∙ names_of-spread _ _ ∙ sym w.as_slice.ensures)
          (ap (is_among x) w.set-is ∙ w.in_ok-put_all.ensures x) (c.loop-decl.invariant x)
      | in_default w ↦
          declared_put signatures_at c.args.decls.now c.loop-decl.decl-index c.decl-item.result c.match-decl.set c.loop-decl.set [] x _ (omega arith) c.decl-item.is
          (ap names_of (no_signatures c.decl-item.result w.in_default.not-Sig)) (ap (is_among x) w.set-is) (c.loop-decl.invariant x)
    ]
