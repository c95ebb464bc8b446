-- The parts of a system as the system that they are.
use Rattle.rw_tree.specs.Views.{itself}
use Rattle.rw_tree.specs.declared.expr.Expr.{Expr}
use Rattle.rw_tree.specs.Trees.{Expression, expression}
use Rattle.rw_core.specs.Systems.{leaf, side_by_side, fed_back}
use Rattle.rw_meaning.specs.Systems.{SystemOver}
use Rattle.rw_systems.specs.declared.parts.Parts.{Parts, fold-Parts}
use Rattle.rw_systems.specs.declared.parts.Parts.TheOpen.{Parts-F}
use Rattle.rw_systems.specs.declared.parts.Argument.{Argument}

module _ {A : Type 0} where
  -- an expression without where it lies in memory
  abbrev pub seen : Expr A → Expression A
  seen = expression itself

  -- one level, with each part already shown
  abbrev pub parts_step : Parts-F A (SystemOver A) → SystemOver A
  parts_step (Parts-F.Leaf e) = leaf (seen e.now)
  parts_step (Parts-F.Par d e) = side_by_side d e
  parts_step (Parts-F.Refold f g d) = fed_back (seen f.now) (seen g.now) d

  -- the system that parts are
  abbrev pub shown : Parts A → SystemOver A
  shown = fold-Parts A (SystemOver A) parts_step

  -- an argument with its own system
  abbrev pub argument : Argument A → Expression A × SystemOver A
  argument a = (seen a.expression.now, shown a.parts)
