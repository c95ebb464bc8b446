use Rattle.std.proofs.Common.{List, subst}
use Rattle.rw_lex.specs.declared.token.Token.{Token}
use Rattle.explicit_form.specs.Words.{words_of}
use Rattle.rw_base.specs.Answers.{Gives}
use Rattle.explicit_form.specs.Read.{form_at}
use Rattle.explicit_form.proofs.Wholes.{tree_found, tree_refused, tree_only}
use Rattle.explicit_form.proofs.source.read_tree.Goals as goal

pub returns-clause-found : goal.returns-clause-found
returns-clause-found c =
    let g = subst (λ (ts : List Token). Gives (λ x. x) c.read_form.result (form_at (words_of ts))) c.deref.ensures.value c.read_form.ensures in
    tree_found c.args.source.now c.in_ok-tokens.tokens.items c.read_form.result g c.in_ok-tokens.ensures.found

pub returns-clause-refused : goal.returns-clause-refused
returns-clause-refused c =
    let g = subst (λ (ts : List Token). Gives (λ x. x) c.read_form.result (form_at (words_of ts))) c.deref.ensures.value c.read_form.ensures in
    tree_refused c.args.source.now c.in_ok-tokens.tokens.items c.read_form.result g c.in_ok-tokens.ensures.only

pub returns-clause-only : goal.returns-clause-only
returns-clause-only c =
    let g = subst (λ (ts : List Token). Gives (λ x. x) c.read_form.result (form_at (words_of ts))) c.deref.ensures.value c.read_form.ensures in
    tree_only c.args.source.now c.in_ok-tokens.tokens.items c.read_form.result g c.in_ok-tokens.ensures.only
