-- So many `}` were inserted.
use Rattle.std.proofs.Common.{◌≡◌, ◌++◌}
use Rattle.std.specs.Prelude.{replicate}
use Rattle.rw_layout.specs.Layout.{closing}
use Rattle.rw_layout.proofs.step.Layout.close.Given as goal

abbrev pub invariant-loop : goal.invariant-loop
invariant-loop l = record {
  out : l.self.out.items ≡ l.fn.self.out.items ++ replicate l.counter (closing l.at);
  stack : l.self.stack ≡ l.fn.self.stack;
  before : l.self.before ≡ l.fn.self.before;
}
