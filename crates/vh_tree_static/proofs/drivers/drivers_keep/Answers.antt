-- One driver of `outp`, and of each signal.
use Rattle.std.proofs.Common.{◌≡◌, List, not, codes, sym, ap, ◌∙◌}
use Rattle.std.specs.Prelude.{◌&&◌}
use Rattle.std.specs.List.{list_all}
use Rattle.vh_tree.specs.Bits.{Bytes}
use Rattle.vh_tree.specs.StaticRules.{signal_names}
use Rattle.vh_tree.specs.declared.design.Item.{Item}
use Rattle.vh_tree_static.specs.Drivers.{is_one}
use Rattle.rw_base_tables.specs.Tables.{known_in}
use Rattle.vh_tree_static.proofs.Driven.{judged}
use Rattle.vh_tree_static.proofs.drivers.drivers_keep.Goals as goal
use Rattle.vh_tree_static.proofs.drivers.drivers_keep.Goals.{then-has_one_driver, else-has_one_driver}

pub returns : goal.returns
returns c =
    let d = c.args.design.now in
    let driven = λ (x : Bytes). is_one (known_in c.in_ok-drivers.drivers x) in
    let outp : driven (codes "outp") ≡ c.has_one_driver.result = ap driven (sym c.in_ok-outp.ensures) ∙ sym c.has_one_driver.ensures in
    let rest = list_all driven (signal_names d.items) in
    elim c.if-has_one_driver.branch [
      | then-has_one_driver w ↦
          ap not (w.result-is ∙ w.signals_are_driven.ensures ∙ ap (λ (s : List Item). list_all driven (signal_names s)) w.as_slice-then-has_one_driver.ensures
          ∙ ap (λ b. b && rest) (sym (outp ∙ w.if-has_one_driver.true))) ∙ judged (known_in c.in_ok-drivers.drivers) d c.as_slice.result.now c.as_slice.ensures c.in_ok-drivers.ensures
      | else-has_one_driver w ↦
          ap not (w.result-is ∙ w.if-has_one_driver.false ∙ ap (λ b. b && rest) (sym (outp ∙ w.if-has_one_driver.false))) ∙ judged (known_in c.in_ok-drivers.drivers) d c.as_slice.result.now c.as_slice.ensures c.in_ok-drivers.ensures
    ]
