-- The table says of each name what the declarations say.
use Rattle.rw_scope_binding.proofs.Whole.{program_bound}
use Rattle.rw_scope_binding.proofs.program.bind.Goals as goal

pub returns : goal.returns
returns c =
    program_bound c.in_ok-tops.tops c.args.program.now.decls _ _ _ c.as_slice.ensures c.as_slice-2.ensures
    c.in_ok-tops.ensures.variables c.in_ok-tops.ensures.constructors c.in_ok-decls.ensures
