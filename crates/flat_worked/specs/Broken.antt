-- Flat programs of one function, at 1:1, each of which breaks a rule first:
--
--     loop = loop              a function that calls itself
--     spin = spin              a device that calls itself without a signal
--     start = return ()        a device that returns before a signal
use Rattle.std.specs.Prelude.{List, [], ◌∷◌, codes}
use Rattle.rw_base.specs.declared.place.Place.{Place}
use Rattle.rw_base.specs.declared.rule.Rule.{Rule}
use Rattle.rw_base.specs.declared.fail.Refusal.{Refusal}
use Rattle.rw_core.specs.declared.types.DataTy.{DataTy}
use Rattle.rw_core.specs.Systems.{leaf}
use Rattle.rw_core_flat.specs.Terms.{built_term, call_term, return_term, no_terms}
use Rattle.rw_core_flat.specs.Programs.{FlatFunction, FlatProgram, device}
use Rattle.flat_worked.specs.Toggle.{loop}

abbrev pub only : Place
only = record { line = 1; column = 1 }

-- by this rule, at the one place
abbrev pub refused : Rule → Refusal
refused rule = record { rule = rule; place = only }

-- type 0 is the unit type
abbrev pub unit_alone : List DataTy
unit_alone = record { constructors = [] ∷ [] } ∷ []

abbrev pub spin : FlatFunction
spin = record { name = codes "spin"; place = only; kind = device 0 0 []; params = []; result = 0; body = call_term 0 no_terms }

abbrev pub return_unit : FlatFunction
return_unit = record { name = codes "start"; place = only; kind = device 0 0 []; params = []; result = 0; body = return_term (built_term 0 0 no_terms) }

abbrev pub alone : FlatFunction → FlatProgram
alone f = record { types = unit_alone; functions = f ∷ []; system = leaf 0; input = 0; output = 0 }

abbrev pub recursing : FlatProgram
recursing = alone loop

abbrev pub spinning : FlatProgram
spinning = alone spin

abbrev pub returning : FlatProgram
returning = alone return_unit
