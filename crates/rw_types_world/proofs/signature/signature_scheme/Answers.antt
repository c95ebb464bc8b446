-- By the parts.
use Rattle.rw_tree.specs.Types.{written}
use Rattle.rw_types_equations.specs.Seen.{seen_types}
use Rattle.rw_types_world.proofs.Making.{scheme_made}
use Rattle.rw_types_world.proofs.signature.signature_scheme.Goals as goal

pub returns : goal.returns
returns c = λ decls s.
    scheme_made decls c.args.known.now.context.now s.context (written c.args.ty.now) (seen_types c.args.known.now.types.now) c.in_ok-variables.variables _ _ _ _ _
    c.in_ok-variables.ensures s.types c.as_slice.ensures c.as_slice-2.ensures c.in_ok-kinds.ensures c.new.ensures c.in_ok-gives.ensures
