-- One step: a node is free, the search goes on, it has come round, or a search begins above it.
use Rattle.std.proofs.Common.{sym, ap, refl, arith}
use Rattle.rw_scope_graph.specs.Search.{is_free, is_held, is_new}
use Rattle.rw_scope_graph.proofs.Searching.{freed_one, freed_kept, freed_less, went_on, went_less, came_round, begun_above, begun_kept, begun_less}
use Rattle.rw_scope_graph.proofs.search.step.Goals as goal

pub overflow_add-done : goal.overflow_add-done
overflow_add-done c = let f = c.in-Some.ensures.counted in omega (arith, f)

pub returns-in-None-clause-searched : goal.returns-in-None-clause-searched
returns-in-None-clause-searched c = freed_one c.args.graph.now c.args.states.now c.args.frame c.args.stack.now c.requires (sym c.in-None.ensures.wanted)

pub returns-in-None-clause-kept : goal.returns-in-None-clause-kept
returns-in-None-clause-kept c = freed_kept c.args.graph.now c.args.states.now c.args.frame c.args.stack.now c.requires (sym c.in-None.ensures.wanted)

pub returns-in-None-clause-less : goal.returns-in-None-clause-less
returns-in-None-clause-less c = freed_less c.args.graph.now c.args.states.now c.args.frame c.args.stack.now c.requires (sym c.in-None.ensures.wanted)

pub returns-in_ok-push-in-Free-clause-searched : goal.returns-in_ok-push-in-Free-clause-searched
returns-in_ok-push-in-Free-clause-searched c =
    rw c.in_ok-push-in-Free.ensures (went_on c.args.graph.now c.args.states.now c.args.frame c.args.stack.now c.requires _ (sym c.in-Some.ensures.wanted) _ refl (sym (ap is_free c.in-Free.ensures)))

pub returns-in_ok-push-in-Free-clause-less : goal.returns-in_ok-push-in-Free-clause-less
returns-in_ok-push-in-Free-clause-less c =
    rw c.in_ok-push-in-Free.ensures (went_less c.args.graph.now c.args.states.now c.args.frame c.args.stack.now c.requires _ (sym c.in-Some.ensures.wanted) _ refl)

pub returns-in-Held-clause-searched : goal.returns-in-Held-clause-searched
returns-in-Held-clause-searched c =
    rw c.clear.ensures (came_round c.args.graph.now c.args.states.now c.args.frame c.args.stack.now c.requires _ (sym c.in-Some.ensures.wanted) (sym (ap is_held c.in-Held.ensures)))

pub returns-in_ok-push-in-New-2-clause-searched : goal.returns-in_ok-push-in-New-2-clause-searched
returns-in_ok-push-in-New-2-clause-searched c =
    rw (c.in_ok-push-in-New-2.ensures, c.in_ok-push-in-New.ensures) (begun_above c.args.graph.now c.args.states.now c.args.frame c.args.stack.now c.requires c.in-Some.next (sym c.in-Some.ensures.wanted) (sym (ap is_new c.in-New.ensures)))

pub returns-in_ok-push-in-New-2-clause-kept : goal.returns-in_ok-push-in-New-2-clause-kept
returns-in_ok-push-in-New-2-clause-kept c = begun_kept c.args.graph.now c.args.states.now _ c.requires c.in-Some.next (sym (ap is_new c.in-New.ensures))

pub returns-in_ok-push-in-New-2-clause-less : goal.returns-in_ok-push-in-New-2-clause-less
returns-in_ok-push-in-New-2-clause-less c =
    rw (c.in_ok-push-in-New-2.ensures, c.in_ok-push-in-New.ensures) (begun_less c.args.graph.now c.args.states.now _ c.requires c.in-Some.next (sym (ap is_new c.in-New.ensures)))
