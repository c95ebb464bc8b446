use Rattle.std.proofs.Common.{◌≡◌, drop}
use Rattle.std.specs.Prelude.{bytes_eq, find}
use Rattle.explicit_form.proofs.judge.declared.Given as goal

-- no declaration before this one has the name
abbrev pub invariant-loop-data : goal.invariant-loop-data
invariant-loop-data l = find (λ d. bytes_eq d.name l.name) l.datas ≡ find (λ d. bytes_eq d.name l.name) (drop l.data-index l.datas)
