-- When a source is of the explicit form, and which text it is compiled to.
use Rattle.std.specs.Prelude.{◌≡◌, ℕ, ◌≤◌, Bool, true, not, ◌||◌, nat_eq, List, length, filter}
use Rattle.std.specs.List.{flat_map}
use Rattle.rw_lex.specs.declared.token.Token.{Token}
use Rattle.rw_lex.specs.Tokens.{IsTokenList}
use Rattle.vh_tree.specs.Canonical.{canonical_text}
use Rattle.register_machine.specs.Design.{machine_design}
use Rattle.register_machine.specs.declared.machine.Machine.{Machine}
use Rattle.explicit_form.specs.declared.form.Form.{Form}
use Rattle.explicit_form.specs.Words.{words_of}
use Rattle.explicit_form.specs.Grammar.{IsForm}
use Rattle.explicit_form.specs.Fit.{is_fit, machine_of}

-- white space: tab, LF, form feed, CR and space
abbrev pub is_white : ℕ → Bool
is_white byte = nat_eq byte 32 || (nat_eq byte 10 || (nat_eq byte 9 || (nat_eq byte 13 || nat_eq byte 12)))

-- nothing but white space stands between the tokens, so no comment does: without it, the source is their bytes
abbrev pub HasNoComment : List ℕ → List Token → Type 0
HasNoComment source tokens = flat_map (λ t. t.text) tokens ≡ filter (λ b. not (is_white b)) source

-- how many bytes a source may have
abbrev pub most_bytes : ℕ
most_bytes = 262144

-- these are the tokens of the source, which has no comment and is not too long
pub record HasTokens (source : List ℕ) (tokens : List Token) : Type 0 where
  pub short : length source ≤ most_bytes
  pub listed : IsTokenList source tokens
  pub bare : HasNoComment source tokens

-- the tokens of the source spell this tree
pub record Spells (source : List ℕ) (form : Form) : Type 0 where
  pub tokens : List Token
  pub has : HasTokens source tokens
  pub spells : IsForm (words_of tokens) form

-- the source is of the explicit form, and this is its tree
pub record IsExplicit (source : List ℕ) (form : Form) : Type 0 where
  pub spelled : Spells source form
  pub fits : is_fit form ≡ true

-- the source is of the explicit form
abbrev pub IsExplicitSource : List ℕ → Type 0
IsExplicitSource source = (form : Form) × IsExplicit source form

-- the source is of the explicit form, and this is its machine
abbrev pub IsMachineOfSource : List ℕ → Machine → Type 0
IsMachineOfSource source m = (form : Form) × IsExplicit source form × (m ≡ machine_of form)

-- the source is of the explicit form, and the text is the canonical one of the design of its machine
abbrev pub IsCompiled : List ℕ → List ℕ → Type 0
IsCompiled source text = (form : Form) × IsExplicit source form × (text ≡ canonical_text (machine_design (machine_of form)))
