-- What the loop keeps: what was found, before what is left to be found, is the whole.
use Rattle.std.proofs.Common.{◌≡◌, ◌++◌, drop, map, flat_map}
use Rattle.std.specs.Prelude.{nat_eq, not}
use Rattle.rw_tree.specs.Views.{itself}
use Rattle.rw_tree.specs.Trees.{alternative_of}
use Rattle.rw_scope_rules.specs.Names.{at_if}
use Rattle.rw_scope_rules.specs.Scope.{arity, clause_place}
use Rattle.rw_scope_names.proofs.uneven.see_others.Given as goal

abbrev pub invariant-loop-clause : goal.invariant-loop-clause
invariant-loop-clause l =
    l.places.items ++ flat_map (λ d. at_if (not (nat_eq (arity d) l.count)) (clause_place d)) (map (alternative_of itself) (drop l.clause-index l.clauses))
    ≡ l.fn.places.items ++ flat_map (λ d. at_if (not (nat_eq (arity d) l.count)) (clause_place d)) (map (alternative_of itself) l.clauses)
