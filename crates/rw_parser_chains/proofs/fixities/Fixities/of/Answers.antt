-- The program's own declarations count before those of the prelude.
use Rattle.std.proofs.Common.{◌∙◌, ◌++◌, ap, sym}
use mathlib.Core.Path.{fun_ext}
use Rattle.rw_prelude.specs.PreludeText.{prelude}
use Rattle.rw_parser_chains.specs.Fixities.{first_of, declared_in, or_left_nine, strength_at}
use Rattle.rw_parser_chains.proofs.Entries.{declared_joined, declared_strength}
use Rattle.rw_parser_chains.proofs.fixities.Fixities.of.Goals as goal

pub returns : goal.returns
unfolding strength_at
returns c = fun_ext (λ x.
    ap or_left_nine (c.in_ok-add_all-2.ensures x ∙ ap (λ z. first_of z (declared_in c.as_slice.result.now x)) (c.in_ok-add_all.ensures x ∙ ap (λ z. first_of z (declared_in c.args.decls.now x)) (c.new-fixities.ensures x))
    ∙ ap (λ z. first_of (declared_in c.args.decls.now x) (declared_in z x)) (c.as_slice.ensures ∙ c.in_ok-prelude.ensures) ∙ sym (declared_joined c.args.decls.now prelude x)) ∙ sym (declared_strength (c.args.decls.now ++ prelude) x))
