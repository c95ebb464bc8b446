-- The law as it is proved.
use Rattle.explicit_form.proofs.Right.{Laws, compiled_right}
use Rattle.explicit_form.proofs.law.compiled_law.Goals as goal

pub returns : goal.returns
returns c =
    let laws : Laws = record {
      machine = c.machine_law.ensures;
      static = c.static_law.ensures;
      spellable = c.spellable_law.ensures;
      code = c.code_law.ensures;
      spelled = c.spellable_designs_are_spelled.ensures;
      one_design = c.one_design_for_a_text.ensures;
      one_list = c.one_token_list.ensures;
    } in
    compiled_right laws
