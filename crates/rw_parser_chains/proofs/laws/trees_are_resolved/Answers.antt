-- Both directions, on trees.
use Rattle.rw_parser_chains.proofs.Made.{expression_is}
use Rattle.rw_parser_chains.proofs.Sound.{expression_sound}
use Rattle.rw_parser_chains.proofs.laws.trees_are_resolved.Goals as goal

pub returns : goal.returns
returns c = record {
  resolved = λ strength tree made e. (expression_sound strength tree made e).0;
  levels = λ strength tree made e. (expression_sound strength tree made e).1.0;
  within = λ strength tree made e. (expression_sound strength tree made e).1.1;
  found = λ strength tree other d l. expression_is strength d l;
}
