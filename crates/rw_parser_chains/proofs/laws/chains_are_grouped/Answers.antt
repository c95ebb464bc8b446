-- Both directions.
use Rattle.std.proofs.Common.{subst}
use Rattle.rw_parser_grammar.specs.Chains.{IsGrouped}
use Rattle.rw_parser_chains.specs.Grouping.{counted}
use Rattle.std.proofs.Common.{map}
use Rattle.rw_parser_chains.proofs.Found.{found}
use Rattle.rw_parser_chains.proofs.Grouped.{grouped, counted_fair, counted_trees}
use Rattle.rw_parser_chains.proofs.laws.chains_are_grouped.Goals as goal

pub returns : goal.returns
returns c = record {
  grouped = λ strength operands operators tree levels e.
      let r = grouped strength (map counted operators) (map counted operands) (tree, levels) (counted_fair operators) (counted_fair operands) e in
      subst (λ z. IsGrouped strength z operators tree) (counted_trees operands) (subst (λ z. IsGrouped strength (map (λ c. c.0) (map counted operands)) z tree) (counted_trees operators) r.0);
  found = λ strength operands operators tree d l. found strength operands operators tree d l;
}
