use Rattle.std.proofs.Common.{◌≡◌, ◌++◌, drop, map}
use Rattle.std.specs.Prelude.{bytes_eq}
use Rattle.explicit_form.specs.Fit.{are_new, taken_types}
use Rattle.explicit_form.proofs.judge.judge_types.Given as goal

-- what is left is new beside what was seen exactly where all are new
abbrev pub invariant-loop-data : goal.invariant-loop-data
invariant-loop-data l = are_new bytes_eq taken_types (map (λ d. d.name) l.datas) ≡ are_new bytes_eq (taken_types ++ l.seen) (map (λ d. d.name) (drop l.data-index l.datas))
