-- A toggle whose output is fed back, in each language of the middle:
--
--     flip b = case b of { False -> True ; True -> False }
--     differs o j = case o of { False -> j ; True -> flip j }
--     device x = signal x >>= \i -> device (flip i)
--     start = refold flip differs (device False)
use Rattle.std.specs.Prelude.{ℕ, List, [], ◌∷◌}
use Rattle.rw_core.specs.declared.types.DataTy.{DataTy}
use Rattle.rw_core.specs.Values.{Val, val, none}
use Rattle.rw_core.specs.Systems.{System, leaf, fed_back}
use Rattle.rw_core_flat.specs.Terms.{built_pattern, no_patterns, more_patterns}
use Rattle.rw_core_layered.specs.Pures.{PureTerm, pure_local, pure_con, pure_case, pure_call, PureTerms, no_pures, more_pures, no_pure_lets, PureRows, no_pure_rows, more_pure_rows, pure_body}
use Rattle.rw_core_layered.specs.Calls.{Function}
use Rattle.rw_core_layered.specs.Devices.{Device, device_signal, device_bind, device_call}
use Rattle.rw_core_layered.specs.Layered.{LayeredProgram}
use Rattle.rw_core_layered.specs.Machines.{MachineLeaf, PureMachine}
use Rattle.rw_core_selected.specs.Trees.{SelectTerm, select_local, select_con, select_call, SelectTerms, no_selects, more_selects, Tree, tree_switch, tree_result, other_branch, more_branches, TreeMachine}
use Rattle.rw_core_selected.specs.Plans.{PlainPlan}

-- == Types and values ==

-- type 0 is that of `False` and `True`, type 1 the unit type
abbrev pub types : List DataTy
types = record { constructors = [] ∷ [] ∷ [] } ∷ record { constructors = [] ∷ [] } ∷ []

abbrev pub off : Val
off = val 0 none

abbrev pub on : Val
on = val 1 none

abbrev pub inputs : List Val
inputs = on ∷ on ∷ off ∷ []

abbrev pub outputs : List Val
outputs = on ∷ on ∷ on ∷ off ∷ []

-- the first leaf, whose output is seen through function 0, and whose input is what function 1 makes of its output and the outer input
abbrev pub system : System ℕ ℕ
system = fed_back 0 1 (leaf 0)

-- == As a layered program ==

abbrev pub one : PureTerm → PureTerms
one t = more_pures t no_pures

-- a case on `False` and `True`
abbrev pub by_bit : PureTerm → PureTerm → PureTerm → PureTerm
by_bit t first second =
    pure_case (one t) (more_pure_rows (more_patterns (built_pattern 0 no_patterns) no_patterns) no_pure_lets (pure_body first)
    (more_pure_rows (more_patterns (built_pattern 1 no_patterns) no_patterns) no_pure_lets (pure_body second) no_pure_rows))

abbrev pub flip : Function PureTerm
flip = record { params = 0 ∷ []; result = 0; body = by_bit (pure_local 0) (pure_con 0 1 no_pures) (pure_con 0 0 no_pures) }

abbrev pub differs : Function PureTerm
differs = record { params = 0 ∷ 0 ∷ []; result = 0; body = by_bit (pure_local 0) (pure_local 1) (pure_call 0 (one (pure_local 1))) }

abbrev pub start : Device
start = record { params = []; result = 1; input = 0; output = 0; body = device_call 1 (one (pure_con 0 0 no_pures)) }

abbrev pub toggle : Device
toggle = record { params = 0 ∷ []; result = 1; input = 0; output = 0; body = device_bind (device_signal (pure_local 0)) (device_call 1 (one (pure_call 0 (one (pure_local 1))))) }

abbrev pub layered : LayeredProgram
layered = record { types = types; pures = flip ∷ differs ∷ []; devices = start ∷ toggle ∷ []; system = system; input = 0; output = 0 }

-- == As a machine: the state is the output ==

abbrev pub reset : Function PureTerm
reset = record { params = []; result = 0; body = pure_con 0 0 no_pures }

abbrev pub next : Function PureTerm
next = record { params = 0 ∷ 0 ∷ []; result = 0; body = pure_call 0 (one (pure_local 1)) }

abbrev pub shown : Function PureTerm
shown = record { params = 0 ∷ []; result = 0; body = pure_local 0 }

abbrev pub leaves : List MachineLeaf
leaves = record { input = 0; output = 0; state = 0; reset = 2; next = 3; shown = 4 } ∷ []

abbrev pub machine : PureMachine
machine = record { types = types; functions = flip ∷ differs ∷ reset ∷ next ∷ shown ∷ []; leaves = leaves; system = system; input = 0; output = 0 }

-- == As trees of decisions ==

abbrev pub one_select : SelectTerm → SelectTerms
one_select t = more_selects t no_selects

abbrev pub switch_bit : SelectTerm → SelectTerm → SelectTerm → Tree
switch_bit t first second = tree_switch t (more_branches 0 (tree_result first) (other_branch (tree_result second)))

abbrev pub flip_tree : Function Tree
flip_tree = record { params = 0 ∷ []; result = 0; body = switch_bit (select_local 0) (select_con 0 1 no_selects) (select_con 0 0 no_selects) }

abbrev pub differs_tree : Function Tree
differs_tree = record { params = 0 ∷ 0 ∷ []; result = 0; body = switch_bit (select_local 0) (select_local 1) (select_call 0 (one_select (select_local 1))) }

abbrev pub reset_tree : Function Tree
reset_tree = record { params = []; result = 0; body = tree_result (select_con 0 0 no_selects) }

abbrev pub next_tree : Function Tree
next_tree = record { params = 0 ∷ 0 ∷ []; result = 0; body = tree_result (select_call 0 (one_select (select_local 1))) }

abbrev pub shown_tree : Function Tree
shown_tree = record { params = 0 ∷ []; result = 0; body = tree_result (select_local 0) }

abbrev pub selected : TreeMachine
selected = record { types = types; functions = flip_tree ∷ differs_tree ∷ reset_tree ∷ next_tree ∷ shown_tree ∷ []; leaves = leaves; system = system; input = 0; output = 0 }

-- == As a plan ==

-- the whole shows the negation of the leaf's output
abbrev pub whole : Function Tree
whole = record { params = 0 ∷ []; result = 0; body = tree_result (select_call 0 (one_select (select_local 0))) }

-- the leaf is given whether its output differs from the outer input
abbrev pub given : Function Tree
given = record { params = 0 ∷ 0 ∷ []; result = 0; body = tree_result (select_call 1 (more_selects (select_local 0) (one_select (select_local 1)))) }

abbrev pub plan : PlainPlan
plan = record { machine = selected; wiring = record { shown = whole; inputs = given ∷ [] } }
