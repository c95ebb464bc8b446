-- Rules one after the other: where those on names are not broken, those on types decide.
use Rattle.std.proofs.Common.{rules, ◌≡◌, refl, ◌∙◌, Option, Some, None}
use Rattle.rw_base.specs.declared.place.Place.{Place}
use Rattle.rw_base.specs.declared.place.Span.{Span}
use Rattle.rw_base.specs.declared.rule.Rule.{Rule}
use Rattle.rw_base.specs.declared.rule.Rule.TheVariants.{E06, E07, E08, E09}
use Rattle.rw_base.specs.declared.fail.Refusal.{Refusal}
use Rattle.rw_tree.specs.Declarations.{PlainProgram}
use Rattle.rw_scope_rules.specs.Names.{earliest}
use Rattle.rw_scope_rules.specs.Scope.{unknown_modules, declared_twice, unbound, unpaired}
use Rattle.rw_scope_rules.specs.Verdict.{broken_first, first_broken}
use Rattle.rw_scope.specs.Rules.{broken_names, broken_types}

-- four rules that aren't broken leave what comes after them
pub all_pass : (p q r s : Option Place) (after : Option Refusal) → broken_first E06 p (broken_first E07 q (broken_first E08 r (broken_first E09 s None))) ≡ None → broken_first E06 p (broken_first E07 q (broken_first E08 r (broken_first E09 s after))) ≡ after
all_pass None None None None after h = refl
all_pass (Some p) q r s after h = search rules
all_pass None (Some q) r s after h = search rules
all_pass None None (Some r) s after h = search rules
all_pass None None None (Some s) after h = search rules

-- so no rule is broken
pub none_is_broken : (program : PlainProgram Span) → broken_names program None ≡ None → broken_types program ≡ None → first_broken program ≡ None
none_is_broken program names types =
    all_pass (earliest (unknown_modules program)) (earliest (declared_twice program)) (earliest (unbound program)) (earliest (unpaired program)) (broken_types program) names ∙ types
