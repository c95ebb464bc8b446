-- What the loop over operands and operators keeps.
use Rattle.std.proofs.Common.{◌≡◌, length, ◌-◌}
use Rattle.rw_parser_parts.specs.Steps.{links_at}
use Rattle.rw_parser_clauses.specs.Inside.{operand_inside}
use Rattle.rw_parser_clauses.proofs.Links.{with_links}
use Rattle.rw_parser_clauses.proofs.inside.Inside.links.Given as goal

-- what was read so far, put before what is read from here on, is what is read in all
abbrev pub invariant-loop-turn : goal.invariant-loop-turn
invariant-loop-turn g l =
    let one = operand_inside l.self.levels l.self.room in
    with_links l.operands l.operators (links_at one (l._turn-end - l._turn) l.rest) ≡ links_at one (length l.tokens) l.tokens
