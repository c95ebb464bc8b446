use Rattle.std.proofs.Common.{subst, rules, ◌≡◌, List, Result}
use Rattle.rw_base.specs.Answers.{Fail}
use Rattle.rw_tree.specs.Declarations.{plain_program}
use Rattle.rw_tree.specs.declared.program.Program.{Program}
use Rattle.rw_scope_rules.specs.declared.binding.Bound.{Bound}
use Rattle.rw_types.specs.declared.typed.TypedDecl.{TypedDecl}
use Rattle.rw_front.specs.declared.source.Checked.{Checked}
use Rattle.rw_front.specs.Fronts.{Fronts}
use Rattle.rw_front.proofs.Answered.{names_err, types_err, patterns_err, start_err, all_ok, failed}
use Rattle.rw_front.proofs.source.front.Goals as goal

pub returns-in_err-bound : goal.returns-in_err-bound
returns-in_err-bound c =
    let e : failed c.in_err-bound.field-0.0 ≡ c.from_residual-in_err-bound.result = search (rules, c.from_residual-in_err-bound.ensures) in
    record {
      verdict = subst (λ (r : Result Checked Fail). Fronts c.args.bytes.now r) e
          (names_err c.args.bytes.now c.in_ok-program.program (plain_program (λ span. span) c.in_ok-whole.whole) c.in_ok-program.ensures c.in_ok-whole.ensures
          {X = Program Bound} (λ _. plain_program (λ span. span) c.in_ok-whole.whole) c.in_err-bound.field-0.0 c.in_err-bound.ensures.answers);
    }

pub returns-in_err-typed : goal.returns-in_err-typed
returns-in_err-typed c =
    let e : failed c.in_err-typed.field-0.0 ≡ c.from_residual-in_err-typed.result = search (rules, c.from_residual-in_err-typed.ensures) in
    record {
      verdict = subst (λ (r : Result Checked Fail). Fronts c.args.bytes.now r) e
          (types_err c.args.bytes.now c.in_ok-program.program (plain_program (λ span. span) c.in_ok-whole.whole) c.in_ok-program.ensures c.in_ok-whole.ensures c.in_ok-bound.ensures.answers
          {X = List TypedDecl} (λ _. plain_program (λ span. span) c.in_ok-whole.whole) c.in_err-typed.field-0.0 c.in_err-typed.ensures.answers);
    }

pub returns-in_err-covered : goal.returns-in_err-covered
returns-in_err-covered c =
    let e : failed c.in_err-covered.field-0.0 ≡ c.from_residual-in_err-covered.result = search (rules, c.from_residual-in_err-covered.ensures) in
    record {
      verdict = subst (λ (r : Result Checked Fail). Fronts c.args.bytes.now r) e
          (patterns_err c.args.bytes.now c.in_ok-program.program (plain_program (λ span. span) c.in_ok-whole.whole) c.in_ok-program.ensures c.in_ok-whole.ensures c.in_ok-bound.ensures.answers
          c.in_ok-typed.ensures.answers {X = Unit} (λ _. plain_program (λ span. span) c.in_ok-whole.whole) c.in_err-covered.field-0.0 c.in_err-covered.ensures);
    }

pub returns-in_err-started : goal.returns-in_err-started
returns-in_err-started c =
    let e : failed c.in_err-started.field-0.0 ≡ c.from_residual-in_err-started.result = search (rules, c.from_residual-in_err-started.ensures) in
    record {
      verdict = subst (λ (r : Result Checked Fail). Fronts c.args.bytes.now r) e
          (start_err c.args.bytes.now c.in_ok-program.program (plain_program (λ span. span) c.in_ok-whole.whole) c.in_ok-program.ensures c.in_ok-whole.ensures c.in_ok-bound.ensures.answers
          c.in_ok-typed.ensures.answers c.in_ok-covered.ensures {X = Unit} (λ _. plain_program (λ span. span) c.in_ok-whole.whole) c.in_err-started.field-0.0 c.in_err-started.ensures);
    }

pub returns : goal.returns
returns c =
    record {
      verdict = all_ok c.args.bytes.now c.in_ok-program.program (plain_program (λ span. span) c.in_ok-whole.whole) c.in_ok-program.ensures c.in_ok-whole.ensures c.in_ok-bound.ensures.answers
          c.in_ok-typed.ensures.answers c.in_ok-covered.ensures c.in_ok-started.ensures (record { program = c.in_ok-bound.bound; typed = c.in_ok-typed.typed })
          (c.in_ok-bound.ensures.bound, search (rules, c.in_ok-typed.ensures.typed, c.in_ok-bound.ensures.bound));
    }
