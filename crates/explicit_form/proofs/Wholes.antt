-- From the tokens of a source to its tree and its machine.
use Rattle.std.proofs.Common.{◌≡◌, ℕ, ◌<◌, ◌^◌, Bool, true, false, List, length, Some, None, Result, Ok, Err, sym, ap, subst, arith}
use Rattle.std.specs.Prelude.{IfOk, IsErrOf}
use Rattle.std.proofs.lemmas.List.{length-map}
use Rattle.rw_lex.specs.declared.token.Token.{Token}
use Rattle.register_machine.specs.declared.machine.Machine.{Machine}
use Rattle.register_machine.specs.Machine.{IsMachine}
use Rattle.explicit_form.specs.declared.form.Form.{Form}
use Rattle.rw_base.specs.Answers.{Unread}
use Rattle.rw_base.specs.declared.fail.Failure.TheVariants as fail
use Rattle.explicit_form.specs.Words.{word_of, words_of}
use Rattle.explicit_form.specs.Grammar.{IsForm}
use Rattle.explicit_form.specs.Fit.{is_fit, machine_of}
use Rattle.explicit_form.specs.Explicit.{HasTokens, Spells}
use Rattle.rw_base.specs.Answers.{Gives}
use Rattle.explicit_form.specs.Read.{form_at}
use Rattle.explicit_form.proofs.Forms.{form_sound, form_complete}
use Rattle.explicit_form.proofs.Machines.{machine_fits}
use Rattle.explicit_form.proofs.Sizes.{tokens_few}

-- the source's only tokens are these
abbrev pub HasOnly : List ℕ → List Token → Type 0
HasOnly source tokens = (others : List Token) → HasTokens source others → others ≡ tokens

-- what is read of them is the tree
pub tree_found : (source : List ℕ) (tokens : List Token) (r : Result Form Unread) → Gives (λ x. x) r (form_at (words_of tokens)) → HasTokens source tokens → IfOk r (λ form. Spells source form)
tree_found source tokens (Ok form) g h = record { tokens = tokens; has = h; spells = form_sound (words_of tokens) form g }
tree_found source tokens (Err e) g h = tt

-- a tree is read wherever there is one
tree_read : (source : List ℕ) (tokens : List Token) (form : Form) → HasOnly source tokens → Spells source form → form_at (words_of tokens) ≡ Some form
tree_read source tokens form only s =
    form_complete (words_of tokens) form (subst (λ ts. IsForm (words_of ts) form) (only s.tokens s.has) s.spells)

nothing_read : (source : List ℕ) (tokens : List Token) (form : Form) → HasOnly source tokens → Spells source form → form_at (words_of tokens) ≡ None → ⊥
nothing_read source tokens form only s none = let some = tree_read source tokens form only s in cc

pub tree_refused : (source : List ℕ) (tokens : List Token) (r : Result Form Unread) → Gives (λ x. x) r (form_at (words_of tokens)) → HasOnly source tokens
    → IsErrOf r (fail.Refused (record {})) → (form : Form) → Spells source form → ⊥
tree_refused source tokens (Ok found) g only e form s = cc
tree_refused source tokens (Err (fail.Refused r)) g only e form s = nothing_read source tokens form only s g
tree_refused source tokens (Err fail.OutOfMemory) g only e form s = cc

pub tree_only : (source : List ℕ) (tokens : List Token) (r : Result Form Unread) → Gives (λ x. x) r (form_at (words_of tokens)) → HasOnly source tokens
    → IfOk r (λ found. (form : Form) → Spells source form → form ≡ found)
tree_only source tokens (Ok found) g only = λ form s. let some = tree_read source tokens form only s in cc
tree_only source tokens (Err e) g only = tt

-- a test tells things apart
pub apart : {A : Type 0} (test : A → Bool) (a b : A) → b ≡ a → test a ≡ false → test b ≡ true → ⊥
apart test a b e f t = let g = ap test e in cc

-- the machine of a source is well formed
pub short_words : (source : List ℕ) (tokens : List Token) → HasTokens source tokens → length (words_of tokens) < 2 ^ 31
short_words source tokens h =
    let few = tokens_few source tokens h.listed in
    let same = length-map tokens word_of in
    let short = h.short in
    omega arith

pub machine_well : (source : List ℕ) (form : Form) (r : Result Machine Unread) → Spells source form → IfOk r (λ m. (is_fit form ≡ true) × (m ≡ machine_of form)) → IfOk r IsMachine
machine_well source form (Ok m) s found =
    subst IsMachine (sym found.1) (machine_fits (words_of s.tokens) form s.spells (short_words source s.tokens s.has) found.0)
machine_well source form (Err e) s found = tt

-- a refusal is the same whatever was to be read
pub same_refusal : {A B : Type 0} (x y : Unread) → IsErrOf {T = A} (Err x) y → IsErrOf {T = B} (Err x) y
same_refusal x y e = let same : x ≡ y = cc in ap Err same
