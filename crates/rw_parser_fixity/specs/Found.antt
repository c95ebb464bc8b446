-- What a call of this crate answers of an item or of several: what they resolve to, or the first place that is broken.
use Rattle.std.specs.Prelude.{◌≡◌, ◌≤◌, ◌+◌, ℕ, List, map, Result, Ok, Err}
use Rattle.rw_base.specs.declared.place.Place.{Place}
use Rattle.rw_base.specs.declared.place.Span.{Span}
use Rattle.rw_base.specs.Answers.{Fail}
use Rattle.rw_base.specs.declared.fail.Failure.TheVariants as fail
use Rattle.rw_base.specs.declared.rule.Rule.TheVariants as rule
use Rattle.rw_tree.specs.declared.clause.Alt.{Alt, out-Alt}
use Rattle.rw_tree.specs.declared.decl.Decl.{Decl}
use Rattle.rw_tree.specs.Trees.{alternative_of}
use Rattle.rw_parser_grammar.specs.Chains.{Strength}
use Rattle.rw_parser_grammar.specs.Levels.{max_levels, alternative_levels, rows_levels}
use Rattle.rw_parser_grammar.specs.Resolved.{IsRowResolved, AreRowsResolved}
use Rattle.rw_parser_grammar.specs.Resolution.{IsDeclarationResolved, IsShallow, AreDeclarationsResolved, IsRowBroken, FirstRowBroken, FirstDeclarationBroken}

-- what was answered is good, or E05 is broken at a place of which this holds; want of memory says nothing
abbrev pub Finds : {X : Type 0} → (X → Type 0) → (Place → Type 0) → Result X Fail → Type 0
Finds good broken (Ok x) = good x
Finds good broken (Err (fail.Refused refusal)) = (refusal.rule ≡ rule.E05) × broken refusal.place
Finds good broken (Err fail.OutOfMemory) = Unit {0}
