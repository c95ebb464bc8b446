-- The system of an annotated tree beside that of the tree with other annotations.
use Rattle.std.specs.Prelude.{◌≡◌}
use Rattle.rw_tree.specs.Trees.{Expression}
use Rattle.rw_types_rules.specs.Relabelled.{relabelled_expression, relabelled_group}
use Rattle.rw_core.specs.Systems.{AreAlike}
use Rattle.rw_meaning.specs.Systems.{SystemOver, Body}

module _ {A B : Type 0} (f : A → B) where
  -- the second expression is the first with f of what stood at each node
  abbrev pub IsRelabelled : Expression A → Expression B → Type 0
  IsRelabelled e d = relabelled_expression f e ≡ d

  -- two systems of one shape, each part of the second one of the first with f of what stood at each node
  abbrev pub IsRelabelledSystem : SystemOver A → SystemOver B → Type 0
  IsRelabelledSystem = AreAlike IsRelabelled IsRelabelled IsRelabelled

  -- so a body
  abbrev pub relabelled_start : Body A → Body B
  relabelled_start body = record { expression = relabelled_expression f body.expression; wheres = relabelled_group f body.wheres }
