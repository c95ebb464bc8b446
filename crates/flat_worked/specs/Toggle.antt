-- A toggle as a flat program, and a loop that shows nothing:
--
--     flip b = case b of { False -> True ; True -> False }
--     device x = signal x >>= \i -> device (flip i)
--     start = device False
use Rattle.std.specs.Prelude.{ℕ, zero, suc, List, [], ◌∷◌, Option, Some, None, codes}
use Rattle.rw_core.specs.Values.{Val, val, none}
use Rattle.rw_core_flat.specs.Terms.{local_term, built_term, case_term, call_term, bind_term, signal_term, no_terms, more_terms, FlatRows, no_rows, more_rows, no_lets, body_arm, built_pattern, no_patterns, more_patterns}
use Rattle.rw_core_flat.specs.Programs.{FlatFunction, pure, device}
use Rattle.rw_core_flat.specs.WellTyped.{Sign, signs_of}

-- type 0 is that of `False` and `True`, type 1 the unit type
abbrev pub fields : ℕ → ℕ → Option (List ℕ)
fields zero zero = Some []
fields zero (suc zero) = Some []
fields zero (suc (suc tag)) = None
fields (suc zero) zero = Some []
fields (suc zero) (suc tag) = None
fields (suc (suc d)) tag = None

abbrev pub rows : FlatRows
rows = more_rows (more_patterns (built_pattern 0 no_patterns) no_patterns) no_lets (body_arm (built_term 0 1 no_terms))
    (more_rows (more_patterns (built_pattern 1 no_patterns) no_patterns) no_lets (body_arm (built_term 0 0 no_terms)) no_rows)

abbrev pub flip : FlatFunction
flip = record { name = codes "flip"; place = record { line = 1; column = 1 }; kind = pure; params = 0 ∷ []; result = 0; body = case_term (more_terms (local_term 0) no_terms) rows }

abbrev pub toggle : FlatFunction
toggle = record {
  name = codes "device";
  place = record { line = 2; column = 1 };
  kind = device 0 0 [];
  params = 0 ∷ [];
  result = 1;
  body = bind_term (signal_term (local_term 0)) (call_term 1 (more_terms (call_term 0 (more_terms (local_term 1) no_terms)) no_terms));
}

abbrev pub start : FlatFunction
start = record {
  name = codes "start";
  place = record { line = 3; column = 1 };
  kind = device 0 0 [];
  params = [];
  result = 1;
  body = call_term 1 (more_terms (built_term 0 0 no_terms) no_terms);
}

abbrev pub functions : List FlatFunction
functions = flip ∷ toggle ∷ start ∷ []

abbrev pub signs : ℕ → Option Sign
signs = signs_of functions

abbrev pub off : Val
off = val 0 none

abbrev pub on : Val
on = val 1 none

-- a function that calls itself and nothing else
abbrev pub loop : FlatFunction
loop = record { name = codes "loop"; place = record { line = 1; column = 1 }; kind = pure; params = []; result = 0; body = call_term 0 no_terms }
