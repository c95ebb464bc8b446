use Rattle.std.proofs.Common.{◌≡◌, ◌++◌, drop, take}
use Rattle.std.specs.Prelude.{bytes_eq}
use Rattle.explicit_form.specs.Fit.{are_new, taken_functions, names_of}
use Rattle.explicit_form.proofs.judge.function_names.Given as goal

-- what is left is new beside what was seen exactly where all are new
abbrev pub invariant-loop-function : goal.invariant-loop-function
invariant-loop-function l = record {
  judged : are_new bytes_eq taken_functions (names_of l.functions) ≡ are_new bytes_eq (taken_functions ++ l.names) (names_of (drop l.function-index l.functions));
  names : l.names ≡ names_of (take l.function-index l.functions);
}
