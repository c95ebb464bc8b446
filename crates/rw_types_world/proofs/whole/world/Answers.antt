-- What is known is of the program: its signatures are seen by the spans of its nodes.
use Rattle.std.proofs.Common.{◌∙◌, ap}
use Rattle.rw_base.specs.declared.place.Span.{Span}
use Rattle.rw_scope_rules.specs.declared.binding.Bound.{Bound}
use Rattle.rw_types_equations.specs.Seen.{seen_types}
use Rattle.rw_types_world.proofs.whole.world.Goals as goal

pub declared_schemes-requires : goal.declared_schemes-requires
declared_schemes-requires c =
    let see : Bound → Span = λ a. a.span in
    record {
      context = c.in_ok-context.ensures see;
      types = ap seen_types c.as_slice.ensures ∙ c.in_ok-types.ensures;
      signatures = c.in_ok-signatures.ensures;
    }
