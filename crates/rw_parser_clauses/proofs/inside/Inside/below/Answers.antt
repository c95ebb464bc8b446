-- An expression one level below.
use Rattle.std.proofs.Common.{rules, ◌≡◌, ◌+◌, ◌-◌, pred, arith}
use Rattle.rw_parser_clauses.proofs.Beneath.{expression_beneath_none, expression_beneath_some}
use Rattle.rw_parser_clauses.proofs.inside.Inside.below.Goals as goal

pub returns-then-self-eq0 : goal.returns-then-self-eq0
returns-then-self-eq0 g c = expression_beneath_none c.args.self.now.levels (pred c.args.self.now.room) c.args.tokens.now (search rules)

pub returns : goal.returns
returns g c =
    let n = c.args.self.now.levels in
    let e : n ≡ (n - 1) + 1 = omega arith in
    rw (expression_beneath_some n (n - 1) (pred c.args.self.now.room) c.args.tokens.now e, ← c.one_less.ensures)
    (c.requires.reads c.args.self.now.alloc (n - 1) c.one_less.result c.args.tokens c.expression.result c.expression.ensures)
