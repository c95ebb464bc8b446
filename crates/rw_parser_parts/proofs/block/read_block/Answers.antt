use Rattle.std.proofs.lemmas.Result.{err_from_is_err_and}
use Rattle.rw_parser_reading.specs.Read.{after}
use Rattle.rw_parser_grammar.specs.declared.lexeme.Mark.TheVariants as m
use Rattle.rw_base.proofs.Answers.{fails_on}
use Rattle.rw_parser_parts.proofs.Blocks.{block_open, block_none}
use Rattle.rw_parser_parts.proofs.block.read_block.Goals as goal

pub returns-in_err-rest : goal.returns-in_err-rest
returns-in_err-rest g c at h =
    let p = err_from_is_err_and c.from_residual.result c.from_residual.ensures.1 in
    rw (p.1, p.2) (fails_on c.in_err-rest.field-0.0 (after m.OpensBlock c.args.tokens.now) _ c.in_err-rest.ensures.read (λ k. block_none at c.args.tokens.now k))

pub returns : goal.returns
returns g c at h = rw (block_open at c.args.tokens.now c.in_ok-rest.rest.now c.in_ok-rest.ensures.read) (c.entries.ensures at h)
