-- A data type more: its constructors are put in.
use Rattle.std.proofs.Common.{◌∙◌, [], sym, ap, map, arith}
use Rattle.rw_tree.specs.Views.{itself}
use Rattle.rw_tree.specs.Declarations.{declaration, plain_constructor}
use Rattle.rw_scope_rules.specs.Names.{is_among}
use Rattle.rw_scope_rules.specs.Bindings.{names_of}
use Rattle.rw_scope_rules.specs.Scope.{constructors_at}
use Rattle.rw_scope_names.proofs.Sets.{declared_put, names_of-spread, no_constructors}
use Rattle.rw_scope_names.proofs.gather.put_constructors.Goals as goal
use Rattle.rw_scope_names.proofs.gather.put_constructors.Goals.{in-Data+in_ok-put_made, in_default}

pub loop-decl-preserved : goal.loop-decl-preserved
loop-decl-preserved c = λ x.
    elim c.match-decl.branch [
      | in-Data+in_ok-put_made w ↦
          declared_put constructors_at c.args.decls.now c.loop-decl.decl-index c.decl-item.result c.match-decl.set c.loop-decl.set
          (map (λ k. k.constructor_name) (map plain_constructor w.as_slice.result.now)) x _ (omega arith) c.decl-item.is
          (ap (λ d. names_of (constructors_at (declaration itself d))) w.in-Data.is ∙ names_of-spread _ _ ∙ ap (λ ks. map (λ k. k.constructor_name) (map plain_constructor ks)) (sym w.as_slice.ensures))
          (ap (is_among x) w.set-is ∙ w.in_ok-put_made.ensures x) (c.loop-decl.invariant x)
      | in_default w ↦
          declared_put constructors_at c.args.decls.now c.loop-decl.decl-index c.decl-item.result c.match-decl.set c.loop-decl.set [] x _ (omega arith) c.decl-item.is
          (ap names_of (no_constructors c.decl-item.result w.in_default.not-Data)) (ap (is_among x) w.set-is) (c.loop-decl.invariant x)
    ]
