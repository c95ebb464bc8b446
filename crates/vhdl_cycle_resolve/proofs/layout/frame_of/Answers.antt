-- The parameters, then the variables.
use Rattle.std.proofs.Common.{List, subst}
use Rattle.vh_tree.specs.Bits.{Bytes}
use Rattle.vh_tree.specs.StaticRules.{parameter_vars}
use Rattle.vh_tree.specs.declared.function.Var.{Var}
use Rattle.vhdl_cycle_flat.specs.Resolving.{frame_vars}
use Rattle.vhdl_cycle_resolve.specs.Laid.{IsLaid}
use Rattle.vhdl_cycle_resolve.proofs.Laying.{laid_first, laid_append}
use Rattle.vhdl_cycle_resolve.proofs.layout.frame_of.Goals as goal

pub returns : goal.returns
returns c =
    let f = c.args.function.now in
    let a = c.new-layout.result in
    let b = c.add_params.new.self in
    let end = c.add_vars.new.self in
    let first : IsLaid a (parameter_vars f.params f.vars) b =
    subst (λ (ps : List Bytes). IsLaid a (parameter_vars ps f.vars) b) c.as_slice.ensures (subst (λ (vs : List Var). IsLaid a (parameter_vars c.as_slice.result.now vs) b) c.as_slice-vars.ensures c.in_ok-add_params.ensures) in
    let later : IsLaid b f.vars end = subst (λ (vs : List Var). IsLaid b vs end) c.as_slice-vars.ensures c.in_ok-add_vars.ensures in
    laid_first (frame_vars f) a end c.new-layout.ensures (laid_append (parameter_vars f.params f.vars) f.vars a b end first later)
