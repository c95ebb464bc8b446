-- When a program is well scoped, and the first of the rules E06 to E12 that it breaks, at its first place.
use Rattle.std.specs.Prelude.{◌≡◌, [], Option, Some, None}
use Rattle.rw_base.specs.declared.place.Place.{Place}
use Rattle.rw_base.specs.declared.place.Span.{Span}
use Rattle.rw_base.specs.declared.rule.Rule.{Rule}
use Rattle.rw_base.specs.declared.rule.Rule.TheVariants.{E06, E07, E08, E09, E10, E11, E12}
use Rattle.rw_base.specs.declared.fail.Refusal.{Refusal}
use Rattle.rw_tree.specs.Declarations.{PlainProgram}
use Rattle.rw_scope_rules.specs.Names.{earliest}
use Rattle.rw_scope_rules.specs.Scope.{unknown_modules, declared_twice, unbound, unpaired}
use Rattle.rw_scope_rules.specs.Kinds.{misused, recursive_or_empty}
use Rattle.rw_scope_rules.specs.Groups.{cyclic}

-- E06 to E12 hold of a program that begins with the prelude's declarations
pub record IsScoped (program : PlainProgram Span) : Type 0 where
  pub modules_are_known : unknown_modules program ≡ []
  pub names_are_declared_once : declared_twice program ≡ []
  pub names_are_bound : unbound program ≡ []
  pub signatures_and_bindings_pair : unpaired program ≡ []
  pub types_are_kinded : misused program ≡ []
  pub data_types_are_founded : recursive_or_empty program ≡ []
  pub groups_are_ordered : cyclic program ≡ []

-- a rule is broken at the first of these places, or what comes after it is the answer
abbrev pub broken_first : Rule → Option Place → Option Refusal → Option Refusal
broken_first rule None after = after
broken_first rule (Some place) after = Some (record { rule = rule; place = place })

-- the first rule that a program breaks, and the first place where it does
abbrev pub first_broken : PlainProgram Span → Option Refusal
first_broken program =
    broken_first E06 (earliest (unknown_modules program))
    (broken_first E07 (earliest (declared_twice program))
    (broken_first E08 (earliest (unbound program))
    (broken_first E09 (earliest (unpaired program))
    (broken_first E10 (earliest (misused program))
    (broken_first E11 (earliest (recursive_or_empty program))
    (broken_first E12 (earliest (cyclic program)) None))))))
