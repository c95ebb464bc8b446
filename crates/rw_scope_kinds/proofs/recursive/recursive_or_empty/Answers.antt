-- All data types were judged.
use Rattle.std.proofs.Common.{◌∙◌, ap, map, flat_map}
use Rattle.rw_tree.specs.Views.{itself}
use Rattle.rw_tree.specs.Declarations.{declaration}
use Rattle.rw_scope_kinds.specs.Mentions.{made_of}
use Rattle.rw_scope_uses.proofs.Walking.{on_ok}
use Rattle.rw_scope_kinds.proofs.Circles.{ill_found}
use Rattle.rw_scope_kinds.proofs.recursive.recursive_or_empty.Goals as goal

pub returns : goal.returns
returns c =
    on_ok c.ill_places.result
    (λ places h. ill_found (map (declaration itself) c.args.program.now.decls) c.in_ok-all.all.items c.as_slice-2.result.now c.as_slice-3.result.now c.as_slice-6.result.now c.in_ok-table.table c.in_ok-graph.graph
    c.as_slice-4.result.now c.in_ok-marks.marks.items c.as_slice-5.result.now places.items (c.in_ok-all.ensures ∙ ap (λ ds. flat_map made_of (map (declaration itself) ds)) c.as_slice.ensures) c.as_slice-2.ensures.value
    c.as_slice-3.ensures.value c.as_slice-6.ensures.value c.as_slice-5.ensures.value c.in_ok-table.ensures c.in_ok-graph.ensures c.as_slice-4.ensures c.in_ok-marks.ensures h)
    c.ill_places.ensures
