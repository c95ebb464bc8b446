-- A block one level below.
use Rattle.std.proofs.Common.{rules, ◌≡◌, ◌+◌, ◌-◌, arith}
use Rattle.rw_parser_clauses.proofs.Beneath.{locals_beneath_none, locals_beneath_some}
use Rattle.rw_parser_clauses.proofs.inside.Inside.lower.Goals as goal

pub returns-then-self-eq0 : goal.returns-then-self-eq0
returns-then-self-eq0 g c = locals_beneath_none c.args.self.now.levels c.args.self.now.room c.args.tokens.now (search rules)

pub returns : goal.returns
returns g c =
    let n = c.args.self.now.levels in
    let e : n ≡ (n - 1) + 1 = omega arith in
    rw (locals_beneath_some n (n - 1) c.args.self.now.room c.args.tokens.now e) (c.requires.locals_read c.args.self.now.alloc (n - 1) c.args.self.now.room c.args.tokens c.locals.result c.locals.ensures)
