use Rattle.std.proofs.Common.{◌≡◌, ℕ, List, ap, ◌∙◌}
use Rattle.vh_tree.specs.Canonical.{canonical_text}
use Rattle.vh_tree.specs.declared.design.Design.{Design}
use Rattle.register_machine.specs.Design.{machine_design}
use Rattle.register_machine.specs.declared.machine.Machine.{Machine}
use Rattle.explicit_form.specs.Explicit.{IsMachineOfSource, IsCompiled}
use Rattle.explicit_form.proofs.source.compile.Goals as goal

compiled : (source text : List ℕ) (m : Machine) (d : Design) → IsMachineOfSource source m → d ≡ machine_design m → text ≡ canonical_text d → IsCompiled source text
compiled source text m d f made printed = (f.0, f.1, printed ∙ ap canonical_text (made ∙ ap machine_design f.2))

pub returns-clause-compiled : goal.returns-clause-compiled
returns-clause-compiled c = compiled _ _ _ _ c.in_ok-machine.ensures.found c.in_ok-design.ensures c.in_ok-print.ensures.bytes

pub returns-clause-right : goal.returns-clause-right
returns-clause-right c = c.compiled_law.ensures _ _ (compiled _ _ _ _ c.in_ok-machine.ensures.found c.in_ok-design.ensures c.in_ok-print.ensures.bytes)
