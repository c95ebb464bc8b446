use Rattle.std.proofs.Common.{List, ℕ, Some, subst, rules}
use Rattle.rw_base.specs.Outside.{Saved, SavedInPart, Loads}
use Rattle.rw_base.specs.Told.{told_after}
use Rattle.explicit_form.specs.Explicit.{IsCompiled}
use Rattle.explicit_form.specs.Right.{IsRight}
use Rattle.rewire_top.specs.Commands.{Compile}
use Rattle.rewire_top.specs.Answers.{most_of_source, Compiles, CompilesInPart}
use Rattle.rewire_top.proofs.compile.compile.Goals as goal

pub returns-in-Ok-save-clause-ok : goal.returns-in-Ok-save-clause-ok
returns-in-Ok-save-clause-ok g c _ =
    let source = c.in-Ok.source.items in
    let text = c.in-Ok-compile.text.items in
    let compiled : IsCompiled source text = subst (λ (s : List ℕ). IsCompiled s text) c.deref.ensures.value c.in-Ok-compile.ensures.compiled in
    let right : IsRight source text = subst (λ (s : List ℕ). IsRight s text) c.deref.ensures.value c.in-Ok-compile.ensures.right in
    told_after (Loads c.args.file.now most_of_source source) (Saved c.args.target.now c.deref-2.result.now) (Compiles (Some (Compile c.args.file.now c.args.target.now))) _ _ _ c.load.ensures.held
    (λ a b i s. (source, text, i, compiled, right, subst (λ (t : List ℕ). Saved c.args.target.now t a b) c.deref-2.ensures.value s)) (search (rules, c.in-Ok.ensures.bytes)) c.in-Ok-save.ensures.saved

pub returns-in-Err-Failed-save-clause-part : goal.returns-in-Err-Failed-save-clause-part
returns-in-Err-Failed-save-clause-part g c _ =
    let source = c.in-Ok.source.items in
    let text = c.in-Ok-compile.text.items in
    let compiled : IsCompiled source text = subst (λ (s : List ℕ). IsCompiled s text) c.deref.ensures.value c.in-Ok-compile.ensures.compiled in
    let right : IsRight source text = subst (λ (s : List ℕ). IsRight s text) c.deref.ensures.value c.in-Ok-compile.ensures.right in
    told_after (Loads c.args.file.now most_of_source source) (SavedInPart c.args.target.now c.deref-2.result.now) (CompilesInPart (Some (Compile c.args.file.now c.args.target.now))) _ _ _ c.load.ensures.held
    (λ a b i s. (source, text, i, compiled, right, subst (λ (t : List ℕ). SavedInPart c.args.target.now t a b) c.deref-2.ensures.value s)) (search (rules, c.in-Ok.ensures.bytes)) (search (rules, c.in-Err-Failed-save.ensures.part))
