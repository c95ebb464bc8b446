-- What the call's answer says of the rules, and when both are kept.
use Rattle.std.specs.Prelude.{◌≡◌, ℕ, ◌+◌, [], Option, None}
use Rattle.rw_base.specs.declared.fail.Failure.TheVariants as fail
use Rattle.rw_base.specs.declared.fail.Refusal.{Refusal}
use Rattle.rw_base.specs.declared.rule.Rule.TheVariants.{E15, E16}
use Rattle.rw_tree.specs.Declarations.{PlainProgram}
use Rattle.rw_scope_rules.specs.declared.binding.Bound.{Bound}
use Rattle.rw_scope_rules.specs.Names.{earliest}
use Rattle.rw_scope_rules.specs.Verdict.{broken_first}
use Rattle.rw_core.specs.Systems.{leaf, side_by_side, fed_back}
use Rattle.rw_meaning.specs.Systems.{SourceSystem}
use Rattle.rw_start.specs.Start.{improper_start}
use Rattle.rw_start.specs.Positions.{misplaced}

-- E15 and E16 hold
pub record IsStarted (program : PlainProgram Bound) : Type 0 where
  pub start_is_proper : improper_start program ≡ []
  pub systems_are_in_place : misplaced program ≡ []

-- the first of the two that is broken, at its first place
abbrev pub first_broken_of_two : PlainProgram Bound → Option Refusal
first_broken_of_two program = broken_first E15 (earliest (improper_start program)) (broken_first E16 (earliest (misplaced program)) None)

-- how many applications of `par` and `refold` make a system
abbrev pub applications : SourceSystem → ℕ
applications (leaf e) = 0
applications (side_by_side d e) = 1 + (applications d + applications e)
applications (fed_back f g d) = 1 + applications d
