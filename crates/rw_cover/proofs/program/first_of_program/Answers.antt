-- The functions at top level and the nodes together.
use Rattle.std.proofs.Common.{◌∙◌, ap}
use Rattle.rw_scope_rules.specs.declared.binding.Bound.{Bound}
use Rattle.rw_scope_nodes.specs.Plain.{plain_nodes}
use Rattle.rw_cover.proofs.Whole.{whole_first}
use Rattle.rw_cover.proofs.program.first_of_program.Goals as goal

pub returns : goal.returns
returns c =
    whole_first c.args.program.now.decls c.as_slice-decls.result.now c.in_ok-counts.counts.items c.as_slice.result.now c.as_slice-2.result.now c.in_ok-known.known
    (plain_nodes c.as_slice-3.result.now) c.in_ok-own.own c.in_ok-inner.inner c.sooner.result
    c.as_slice-decls.ensures c.in_ok-counts.ensures c.as_slice.ensures.value c.as_slice-2.ensures.value c.in_ok-known.ensures
    (ap (plain_nodes {A = Bound}) c.as_slice-3.ensures.value ∙ c.in_ok-nodes.ensures)
    c.in_ok-own.ensures c.in_ok-inner.ensures c.sooner.ensures
