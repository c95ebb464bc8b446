-- The law as it is proved.
use Rattle.std.proofs.Common.{refl}
use Rattle.register_machine.proofs.Static.{is_static, code_width-most}
use Rattle.register_machine.proofs.laws.static_law.Goals as goal

pub returns : goal.returns
returns c = λ m is. record {
  static = is_static m is;
  inp = refl;
  outp = refl;
  narrow_inp = code_width-most m.inputs is.few_inputs;
  narrow_outp = code_width-most m.outputs is.few_outputs;
}
