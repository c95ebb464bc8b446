-- When a text is right for a source: the design that it spells shows the outputs of the source.
use Rattle.std.specs.Prelude.{◌≡◌, ℕ, true, List, map, All}
use Rattle.vh_tree.specs.Bench.{BenchInEveryOrder}
use Rattle.vh_tree.specs.Spelling.{IsSpelled}
use Rattle.vh_tree.specs.StaticRules.{IsStatic}
use Rattle.vh_tree.specs.declared.design.Design.{Design}
use Rattle.explicit_form.specs.declared.form.Form.{Form}
use Rattle.explicit_form.specs.Fit.{is_among, inputs_of, outputs_of}
use Rattle.explicit_form.specs.Explicit.{IsExplicit, IsCompiled}
use Rattle.explicit_form.specs.Outputs.{form_outputs, plain_width, encoded}

-- the inputs are constructors of the input type
abbrev pub AreInputs : Form → List (List ℕ) → Type 0
AreInputs form inputs = All (λ input. is_among input (inputs_of form) ≡ true) inputs

-- the design shows the outputs of the tree for every list of inputs and all orders of the processes: after the reset
-- the first output, and after each input the next one, each change being quiet after at most four delta cycles
abbrev pub ShowsOutputs : Form → Design → Type 0
ShowsOutputs form design = (inputs : List (List ℕ)) → AreInputs form inputs →
    BenchInEveryOrder 4 design (map (encoded (inputs_of form)) inputs) (map (encoded (outputs_of form)) (form_outputs form inputs))

-- the source is of the explicit form, with one tree; the text spells one design, which keeps the static rules, has
-- ports of the widths of the two types, and shows the outputs of the tree
pub record IsRight (source text : List ℕ) : Type 0 where
  pub form : Form
  pub explicit : IsExplicit source form
  pub one_form : (other : Form) → IsExplicit source other → other ≡ form
  pub design : Design
  pub spelled : IsSpelled text design
  pub one_design : (other : Design) → IsSpelled text other → other ≡ design
  pub static : IsStatic design
  pub inp : design.inp ≡ plain_width (inputs_of form)
  pub outp : design.outp ≡ plain_width (outputs_of form)
  pub shows : ShowsOutputs form design

-- what is compiled is right
abbrev pub CompiledLaw : Type 0
CompiledLaw = (source text : List ℕ) → IsCompiled source text → IsRight source text
