-- Small devices whose outputs are computed. None has the prelude before it: each begins with `data Bool = False | True`.
use Rattle.std.specs.Prelude.{ℕ, List, [], ◌∷◌, map, codes}
use Prim.Native.String.{String}
use Rattle.rw_base.specs.declared.place.Span.{Span}
use Rattle.rw_scope_rules.specs.declared.binding.Bound.{Bound}
use Rattle.rw_scope_rules.specs.Bindings.{bound_program}
use Rattle.rw_core.specs.Values.{Val, val, none}
use Rattle.rw_tree.specs.Patterns.{Pattern, variable_pattern, constructor_pattern, tuple_pattern, pattern_parts}
use Rattle.rw_tree.specs.Trees.{Expression, variable, constructor, application, tuple, case_of, do_block, expression_parts}
use Rattle.rw_tree.specs.Trees.{Alternative, alternative, alternative_parts, plain_side, guarded_side, guarded_body, body_parts, no_bindings, Statement, bind_statement, run_statement, statement_parts}
use Rattle.rw_tree.specs.Declarations.{Declaration, data_declaration, function_declaration}

-- places don't matter here
abbrev pub here : Span
here = record { first = record { line = 1; column = 1 }; from = 0; to = 0 }

abbrev pub name : String → Expression Span
name x = variable here (codes x)

abbrev pub made : String → Expression Span
made c = constructor here (codes c)

abbrev pub call : Expression Span → List (Expression Span) → Expression Span
call f parts = application here f (expression_parts parts)

abbrev pub pair : Expression Span → Expression Span → Expression Span
pair a b = tuple here (expression_parts (a ∷ b ∷ []))

abbrev pub var : String → Pattern Span
var x = variable_pattern here (codes x)

abbrev pub is : String → Pattern Span
is c = constructor_pattern here (codes c) (pattern_parts [])

abbrev pub both : Pattern Span → Pattern Span → Pattern Span
both p q = tuple_pattern here (pattern_parts (p ∷ q ∷ []))

abbrev pub clause : List (Pattern Span) → Expression Span → Alternative Span
clause pats body = alternative here pats (plain_side body) no_bindings

-- a clause with one guard
abbrev pub clause_if : List (Pattern Span) → Expression Span → Expression Span → Alternative Span
clause_if pats test body = alternative here pats (guarded_side (body_parts (guarded_body test body ∷ []))) no_bindings

abbrev pub function : String → List (Alternative Span) → Declaration Span
function x clauses = function_declaration here (codes x) clauses

abbrev pub steps : List (Statement Span) → Expression Span
steps statements = do_block here (statement_parts statements)

abbrev pub bind : String → Expression Span → Statement Span
bind x e = bind_statement here (var x) e

abbrev pub run : Expression Span → Statement Span
run e = run_statement here e

abbrev pub choose : Expression Span → List (Alternative Span) → Expression Span
choose e rows = case_of here e (alternative_parts rows)

-- data Bool = False | True, and these functions, with their names bound
abbrev pub device : List (Declaration Span) → List (Declaration Bound)
device functions = (bound_program (record {
  declarations = data_declaration here (codes "Bool") [] (record { constructor_name = codes "False"; field_types = [] } ∷ record { constructor_name = codes "True"; field_types = [] } ∷ []) ∷ functions;
})).declarations

-- the two values of Bool, and lists of them
abbrev pub bit : ℕ → Val
bit n = val n none

abbrev pub bits : List ℕ → List Val
bits ns = map bit ns

-- start = off
-- off = do { i <- signal False; case i of { True -> on; False -> off } }
-- on = do { i <- signal True; case i of { True -> off; False -> on } }
abbrev pub switch : List (Declaration Bound)
switch = device (
    function "start" (clause [] (name "off") ∷ [])
    ∷ function "off" (clause [] (steps (bind "i" (call (name "signal") (made "False" ∷ [])) ∷ run (choose (name "i") (clause (is "True" ∷ []) (name "on") ∷ clause (is "False" ∷ []) (name "off") ∷ [])) ∷ [])) ∷ [])
    ∷ function "on" (clause [] (steps (bind "i" (call (name "signal") (made "True" ∷ [])) ∷ run (choose (name "i") (clause (is "True" ∷ []) (name "off") ∷ clause (is "False" ∷ []) (name "on") ∷ [])) ∷ [])) ∷ [])
    ∷ [])

-- start = do { signal False; signal True; return () }
abbrev pub short : List (Declaration Bound)
short = device (function "start" (clause [] (steps (run (call (name "signal") (made "False" ∷ [])) ∷ run (call (name "signal") (made "True" ∷ [])) ∷ run (call (name "return") (tuple here (expression_parts []) ∷ [])) ∷ [])) ∷ []) ∷ [])

-- start = extrude (extrude turn False) True
-- turn = do { a <- lift get; b <- lift (lift get); lift (put b); lift (lift (put a)); signal a; turn }
abbrev pub two_states : List (Declaration Bound)
two_states = device (
    function "start" (clause [] (call (name "extrude") (call (name "extrude") (name "turn" ∷ made "False" ∷ []) ∷ made "True" ∷ [])) ∷ [])
    ∷ function "turn" (clause [] (steps (
    bind "a" (call (name "lift") (name "get" ∷ []))
    ∷ bind "b" (call (name "lift") (call (name "lift") (name "get" ∷ []) ∷ []))
    ∷ run (call (name "lift") (call (name "put") (name "b" ∷ []) ∷ []))
    ∷ run (call (name "lift") (call (name "lift") (call (name "put") (name "a" ∷ []) ∷ []) ∷ []))
    ∷ run (call (name "signal") (name "a" ∷ []))
    ∷ run (name "turn") ∷ [])) ∷ [])
    ∷ [])

-- start = turn False
-- turn x = do { i <- signal (next x); turn i }
-- next x | x = False
-- next False = True
abbrev pub falls_through : List (Declaration Bound)
falls_through = device (
    function "start" (clause [] (call (name "turn") (made "False" ∷ [])) ∷ [])
    ∷ function "turn" (clause (var "x" ∷ []) (steps (bind "i" (call (name "signal") (call (name "next") (name "x" ∷ []) ∷ [])) ∷ run (call (name "turn") (name "i" ∷ [])) ∷ [])) ∷ [])
    ∷ function "next" (clause_if (var "x" ∷ []) (name "x") (made "False") ∷ clause (is "False" ∷ []) (made "True") ∷ [])
    ∷ [])

-- start = refold later earlier (par (keep False) (keep False))
-- keep x = do { i <- signal x; keep i }
-- later (a, b) = b
-- earlier (a, b) j = (j, a)
abbrev pub two_registers : List (Declaration Bound)
two_registers = device (
    function "start" (clause [] (call (name "refold") (name "later" ∷ name "earlier" ∷ call (name "par") (call (name "keep") (made "False" ∷ []) ∷ call (name "keep") (made "False" ∷ []) ∷ []) ∷ [])) ∷ [])
    ∷ function "keep" (clause (var "x" ∷ []) (steps (bind "i" (call (name "signal") (name "x" ∷ [])) ∷ run (call (name "keep") (name "i" ∷ [])) ∷ [])) ∷ [])
    ∷ function "later" (clause (both (var "a") (var "b") ∷ []) (name "b") ∷ [])
    ∷ function "earlier" (clause (both (var "a") (var "b") ∷ var "j" ∷ []) (pair (name "j") (name "a")) ∷ [])
    ∷ [])
