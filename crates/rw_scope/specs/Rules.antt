-- The rules in two parts: on names, E06 to E09, and on types and groups, E10 to E12.
use Rattle.std.specs.Prelude.{Option, None}
use Rattle.rw_base.specs.declared.place.Span.{Span}
use Rattle.rw_base.specs.declared.rule.Rule.TheVariants.{E06, E07, E08, E09, E10, E11, E12}
use Rattle.rw_base.specs.declared.fail.Refusal.{Refusal}
use Rattle.rw_tree.specs.Declarations.{PlainProgram}
use Rattle.rw_scope_rules.specs.Names.{earliest}
use Rattle.rw_scope_rules.specs.Scope.{unknown_modules, declared_twice, unbound, unpaired}
use Rattle.rw_scope_rules.specs.Kinds.{misused, recursive_or_empty}
use Rattle.rw_scope_rules.specs.Groups.{cyclic}
use Rattle.rw_scope_rules.specs.Verdict.{broken_first}

-- the first of E06 to E09, or what comes after
abbrev pub broken_names : PlainProgram Span → Option Refusal → Option Refusal
broken_names program after =
    broken_first E06 (earliest (unknown_modules program))
    (broken_first E07 (earliest (declared_twice program))
    (broken_first E08 (earliest (unbound program))
    (broken_first E09 (earliest (unpaired program)) after)))

-- the first of E10 to E12
abbrev pub broken_types : PlainProgram Span → Option Refusal
broken_types program =
    broken_first E10 (earliest (misused program))
    (broken_first E11 (earliest (recursive_or_empty program))
    (broken_first E12 (earliest (cyclic program)) None))
