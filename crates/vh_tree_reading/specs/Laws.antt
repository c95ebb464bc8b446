-- The law of the first broken rule, the contract of a public function.
use Rattle.std.specs.Prelude.{◌≡◌, ◌↔◌, None}
use Rattle.vh_tree.specs.StaticRules.{IsStatic, first_broken}
use Rattle.vh_tree.specs.declared.design.Design.{Design}

-- no rule is broken exactly where all hold
abbrev pub FirstBrokenLaw : Type 0
FirstBrokenLaw = (d : Design) → (first_broken d ≡ None) ↔ IsStatic d
