-- By computing: the equation of each production, as often as they fit.
use Rattle.std.proofs.Common.{refl}
use Rattle.vhdl_worked.proofs.Folds.{at-Assign, at-If, at-Branch, at-Name, at-Literal}
use Rattle.vhdl_worked.proofs.accepted.oscillator_is_static.Goals as goal

pub returns-clause-rules : goal.returns-clause-rules
returns-clause-rules c = record {
  names = simp (at-Assign, at-If, at-Branch, at-Name, at-Literal);
  widths = simp (at-Assign, at-If, at-Branch, at-Name, at-Literal);
  drivers = simp (at-Assign, at-If, at-Branch);
  order = refl;
  ports = refl;
}

pub returns-clause-first : goal.returns-clause-first
returns-clause-first c = simp (at-Assign, at-If, at-Branch, at-Name, at-Literal)
