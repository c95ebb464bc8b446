-- A search begins.
use Rattle.std.proofs.Common.{[], sym, ap}
use Rattle.rw_scope_graph.specs.Search.{is_new}
use Rattle.rw_scope_graph.proofs.Searching.{begun_first, begun_kept, begun_known}
use Rattle.rw_scope_graph.proofs.search.search.Goals as goal

pub loop-frame-init : goal.loop-frame-init
loop-frame-init c =
    let new = sym (ap is_new c.in-New.ensures) in
    record {
      searched = rw (c.in_ok-push.ensures, c.requires.empty) (begun_first c.args.graph.now c.args.states.now c.requires.searched c.args.node new);
      kept = begun_kept c.args.graph.now c.args.states.now [] c.requires.searched c.args.node new;
      known = begun_known c.args.graph.now c.args.states.now [] c.requires.searched c.args.node new;
    }
