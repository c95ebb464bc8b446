use Rattle.std.proofs.Common.{◌≡◌, ◌++◌, drop}
use Rattle.rw_parser_grammar.specs.Lexemes.{lexemes_from}
use Rattle.rw_parser_patterns.proofs.number.number_tokens.Given as goal

-- what was made so far, put before what the other tokens give, is what all give
abbrev pub invariant-loop-token : goal.invariant-loop-token
invariant-loop-token l = record {
  all : l.all ++ lexemes_from l.token-index (drop l.token-index l.tokens) ≡ lexemes_from 0 l.tokens;
  number : l.number ≡ l.token-index;
}
