-- There is no first broken rule exactly where all static rules hold.
use Rattle.std.proofs.Common.{◌≡◌, ◌↔◌, Bool, true, false, refl, ap, if◌then◌else◌, Option, Some, None, is_some}
use mathlib.Core.Bool.{true≢false}
use Rattle.rw_base.specs.declared.rule.VRule.{VRule}
use Rattle.rw_base.specs.declared.rule.VRule.TheVariants.{V4, V5, V6, V7, V8}
use Rattle.vh_tree.specs.StaticRules.{IsStatic, first_broken, breaks_names, breaks_widths, breaks_drivers, breaks_order, breaks_ports}
use Rattle.vh_tree.specs.declared.design.Design.{Design}

passed : (b : Bool) (v : VRule) (rest : Option VRule) → (if b then Some v else rest) ≡ None → (b ≡ false) × (rest ≡ None)
passed true v rest e = absurd (true≢false (ap is_some e))
passed false v rest e = (refl, e)

pub first_broken_tells : (d : Design) → (first_broken d ≡ None) ↔ IsStatic d
first_broken_tells d = (
  λ e.
      let names = passed (breaks_names d) V4 _ e in
      let widths = passed (breaks_widths d) V5 _ names.1 in
      let drivers = passed (breaks_drivers d) V6 _ widths.1 in
      let order = passed (breaks_order d) V7 _ drivers.1 in
      let ports = passed (breaks_ports d) V8 None order.1 in
      record { names = names.0; widths = widths.0; drivers = drivers.0; order = order.0; ports = ports.0 },
  λ s. rw (s.names, s.widths, s.drivers, s.order, s.ports) refl,
)
