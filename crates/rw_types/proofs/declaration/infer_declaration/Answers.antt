-- What solves the equations of the numbered declaration is its default typing, and where nothing does it has none.
use Rattle.std.proofs.Common.{◌∙◌, ap}
use Rattle.std.proofs.lemmas.Result.{err_from_is_err_and}
use Rattle.rw_scope_rules.specs.declared.binding.Bound.{Bound}
use Rattle.rw_tree.specs.Views.{itself}
use Rattle.rw_tree.specs.Declarations.{declaration}
use Rattle.rw_types_rules.specs.Relabelled.{relabelled_declaration}
use Rattle.rw_types_rules.specs.Schemes.{scheme_at}
use Rattle.rw_types_rules.specs.Typings.{scheme_kinds}
use Rattle.rw_types_equations.specs.Numbered.{typed_by}
use Rattle.rw_types_equations.specs.Seen.{seen_world}
use Rattle.rw_types_numbering.specs.Numbering.{numbered_declaration}
use Rattle.rw_types.proofs.Default.{default_is, untypable}
use Rattle.rw_types.proofs.declaration.infer_declaration.Goals as goal

pub returns-in_err-nodes-clause-refused : goal.returns-in_err-nodes-clause-refused
returns-in_err-nodes-clause-refused c = λ h.
    let p = err_from_is_err_and c.from_residual-in_err-nodes.result c.from_residual-in_err-nodes.ensures.1 in
    let world = seen_world c.args.world.now in
    let d = declaration itself c.args.decl.now in
    untypable world d c.in_ok-tree.tree (numbered_declaration world 0 d) c.as_slice.result.now c.as_slice-2.result.now
    (c.erased_law.ensures world 0 d) (λ v y typed. c.assignment_law.ensures v y world d typed) (λ v y t. c.typing_law.ensures v y world t d) (λ t s r. c.instance_law.ensures t s r (numbered_declaration world 0 d))
    (λ t. c.seen_law.ensures t c.in_ok-tree.tree ∙ ap (relabelled_declaration (typed_by t)) c.in_ok-tree.ensures.numbered)
    (c.as_slice.ensures ∙ c.in_ok-tree.ensures.slots) (c.as_slice-2.ensures ∙ c.in_ok-own.ensures ∙ ap (λ (a : Bound). scheme_kinds (scheme_at world a.bound)) c.label.ensures)
    (c.in_err-nodes.ensures.refused (cc))

pub returns-clause-default : goal.returns-clause-default
returns-clause-default c =
    let world = seen_world c.args.world.now in
    let d = declaration itself c.args.decl.now in
    default_is world d c.in_ok-tree.tree (numbered_declaration world 0 d) c.as_slice.result.now c.as_slice-2.result.now
    (c.erased_law.ensures world 0 d) (λ v y typed. c.assignment_law.ensures v y world d typed) (λ v y t. c.typing_law.ensures v y world t d) (λ t s r. c.instance_law.ensures t s r (numbered_declaration world 0 d))
    (λ t. c.seen_law.ensures t c.in_ok-tree.tree ∙ ap (relabelled_declaration (typed_by t)) c.in_ok-tree.ensures.numbered)
    (c.as_slice.ensures ∙ c.in_ok-tree.ensures.slots) (c.as_slice-2.ensures ∙ c.in_ok-own.ensures ∙ ap (λ (a : Bound). scheme_kinds (scheme_at world a.bound)) c.label.ensures)
    _ c.in_ok-nodes.ensures.solved
