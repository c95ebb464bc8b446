use Rattle.std.proofs.Common.{◌≡◌, ◌++◌, drop}
use Rattle.std.specs.Prelude.{bytes_eq, flat_map}
use Rattle.explicit_form.specs.Fit.{are_new, taken_constructors}
use Rattle.explicit_form.proofs.judge.judge_constructors.Given as goal

-- what is left is new beside what was seen exactly where all are new
abbrev pub invariant-loop-data : goal.invariant-loop-data
invariant-loop-data l =
    are_new bytes_eq taken_constructors (flat_map (λ d. d.constructors) l.datas) ≡ are_new bytes_eq (taken_constructors ++ l.seen) (flat_map (λ d. d.constructors) (drop l.data-index l.datas))
