use Rattle.std.proofs.Common.{◌≡◌, ◌++◌, drop, take}
use Rattle.std.specs.Prelude.{bytes_eq}
use Rattle.explicit_form.specs.Fit.{are_new}
use Rattle.explicit_form.specs.Judged.{taken_of}
use Rattle.explicit_form.proofs.judge.add_all.Given as goal

-- what is left is new beside what was seen exactly where all are new beside what was seen first
abbrev pub invariant-loop-name : goal.invariant-loop-name
invariant-loop-name l = record {
  judged : are_new bytes_eq (taken_of l.kind ++ l.initial.seen) l.names ≡ are_new bytes_eq (taken_of l.kind ++ l.seen) (drop l.name-index l.names);
  names : l.seen ≡ l.initial.seen ++ take l.name-index l.names;
}
