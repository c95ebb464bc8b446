-- An answer to a text is the one that its spelling, or the rule that it breaks, asks for.
use Rattle.std.proofs.Common.{◌≡◌, ◌↔◌, ℕ, true, false, List, Some, None, Result, Ok, Err, sym, ap, subst, ◌∙◌, refl, inl, inr}
use Rattle.rw_base.specs.declared.rule.VRule.TheVariants as v
use Rattle.vh_tree.specs.declared.token.Token.{Token}
use Rattle.vh_tree.specs.declared.design.Design.{Design}
use Rattle.vh_tree.specs.Text.{all_allowed, IsText}
use Rattle.vh_tree.specs.Spelling.{IsSpelled, SpellsDesign, BreaksBytes, BreaksTokens, BreaksGrammar}
use Rattle.vh_tree_reading.specs.Scan.{scanned}
use Rattle.vh_tree_reading.specs.ReadDesign.{design_of}
use Rattle.rw_base.specs.Answers.{VFail}
use Rattle.rw_base.specs.declared.fail.Failure.TheVariants as fail
use Rattle.rw_base.specs.Answers.{IsUnlessMemory}
use Rattle.vhdl_read.specs.Reading.{IsAnswer}

-- bytes are not both allowed and not
pub not_both : (bytes : List ℕ) → all_allowed bytes ≡ true → all_allowed bytes ≡ false → ⊥
not_both bytes h n = cc

-- what is found is the same
same_some : {A : Type 0} (a b : A) → Some a ≡ Some b → a ≡ b
same_some a b e = ap (λ o. elim o [ Some x ↦ x | None ↦ a ]) e

-- the two laws of `vh_tree` that are used: tokens are found by scanning, and designs by reading
abbrev pub TokensAreScanned : Type 0
TokensAreScanned = (bytes : List ℕ) (tokens : List Token) → IsText bytes tokens ↔ (scanned bytes ≡ Some tokens)

abbrev pub DesignsAreRead : Type 0
DesignsAreRead = (tokens : List Token) (design : Design) → SpellsDesign tokens design ↔ (design_of tokens ≡ Some design)

-- a text has one list of tokens
one_text : TokensAreScanned → (bytes : List ℕ) (a b : List Token) → IsText bytes a → IsText bytes b → a ≡ b
one_text law bytes a b s u = same_some a b (sym ((law bytes a).0 s) ∙ (law bytes b).0 u)

-- ---- from what the two readers give

pub tokens_refused : TokensAreScanned → (bytes : List ℕ) → all_allowed bytes ≡ true → scanned bytes ≡ None → BreaksTokens bytes
tokens_refused law bytes h e = record { allowed = h; no_tokens = λ ts d. let k : None ≡ Some ts = sym e ∙ (law bytes ts).0 d in cc }

pub grammar_refused : TokensAreScanned → DesignsAreRead → (bytes : List ℕ) (ts : List Token) → all_allowed bytes ≡ true → scanned bytes ≡ Some ts → design_of ts ≡ None → BreaksGrammar bytes
grammar_refused law read bytes ts h e n = record { allowed = h; tokens = ts; text = (law bytes ts).1 e; no_design = λ design s. let k : None ≡ Some design = sym n ∙ (read ts design).0 s in cc }

pub design_found : TokensAreScanned → DesignsAreRead → (bytes : List ℕ) (ts : List Token) (design : Design) → all_allowed bytes ≡ true → scanned bytes ≡ Some ts → design_of ts ≡ Some design → IsSpelled bytes design
design_found law read bytes ts design h e n = record { allowed = h; tokens = ts; text = (law bytes ts).1 e; tree = (read ts design).1 n }

-- ---- to what a clause says of the answer

pub answer_spelled : ((bytes : List ℕ) (a b : Design) → IsSpelled bytes a → IsSpelled bytes b → a ≡ b) → TokensAreScanned
    → (bytes : List ℕ) (r : Result Design VFail) → IsAnswer bytes r → (design : Design) → IsSpelled bytes design → IsUnlessMemory (Ok design) r
answer_spelled one law bytes (Ok d) a design s = inl (ap Ok (one bytes d design a s))
answer_spelled one law bytes (Err fail.OutOfMemory) a design s = inr refl
answer_spelled one law bytes (Err (fail.Refused v.V1)) a design s = absurd (not_both bytes s.allowed a)
answer_spelled one law bytes (Err (fail.Refused v.V2)) a design s = absurd (a.no_tokens s.tokens s.text)
answer_spelled one law bytes (Err (fail.Refused v.V3)) a design s =
    absurd (a.no_design design (subst (λ z. SpellsDesign z design) (one_text law bytes s.tokens a.tokens s.text a.text) s.tree))
answer_spelled one law bytes (Err (fail.Refused v.V4)) a design s = absurd a
answer_spelled one law bytes (Err (fail.Refused v.V5)) a design s = absurd a
answer_spelled one law bytes (Err (fail.Refused v.V6)) a design s = absurd a
answer_spelled one law bytes (Err (fail.Refused v.V7)) a design s = absurd a
answer_spelled one law bytes (Err (fail.Refused v.V8)) a design s = absurd a

pub answer_bytes : (bytes : List ℕ) (r : Result Design VFail) → IsAnswer bytes r → BreaksBytes bytes → r ≡ Err (fail.Refused v.V1)
answer_bytes bytes (Ok d) a b = absurd (not_both bytes a.allowed b)
answer_bytes bytes (Err fail.OutOfMemory) a b = absurd (not_both bytes a b)
answer_bytes bytes (Err (fail.Refused v.V1)) a b = refl
answer_bytes bytes (Err (fail.Refused v.V2)) a b = absurd (not_both bytes a.allowed b)
answer_bytes bytes (Err (fail.Refused v.V3)) a b = absurd (not_both bytes a.allowed b)
answer_bytes bytes (Err (fail.Refused v.V4)) a b = absurd a
answer_bytes bytes (Err (fail.Refused v.V5)) a b = absurd a
answer_bytes bytes (Err (fail.Refused v.V6)) a b = absurd a
answer_bytes bytes (Err (fail.Refused v.V7)) a b = absurd a
answer_bytes bytes (Err (fail.Refused v.V8)) a b = absurd a

pub answer_tokens : (bytes : List ℕ) (r : Result Design VFail) → IsAnswer bytes r → BreaksTokens bytes → IsUnlessMemory (Err (fail.Refused v.V2)) r
answer_tokens bytes (Ok d) a b = absurd (b.no_tokens a.tokens a.text)
answer_tokens bytes (Err fail.OutOfMemory) a b = inr refl
answer_tokens bytes (Err (fail.Refused v.V1)) a b = absurd (not_both bytes b.allowed a)
answer_tokens bytes (Err (fail.Refused v.V2)) a b = inl refl
answer_tokens bytes (Err (fail.Refused v.V3)) a b = absurd (b.no_tokens a.tokens a.text)
answer_tokens bytes (Err (fail.Refused v.V4)) a b = absurd a
answer_tokens bytes (Err (fail.Refused v.V5)) a b = absurd a
answer_tokens bytes (Err (fail.Refused v.V6)) a b = absurd a
answer_tokens bytes (Err (fail.Refused v.V7)) a b = absurd a
answer_tokens bytes (Err (fail.Refused v.V8)) a b = absurd a

pub answer_grammar : TokensAreScanned → (bytes : List ℕ) (r : Result Design VFail) → IsAnswer bytes r → BreaksGrammar bytes → IsUnlessMemory (Err (fail.Refused v.V3)) r
answer_grammar law bytes (Ok d) a b = absurd (b.no_design d (subst (λ z. SpellsDesign z d) (one_text law bytes a.tokens b.tokens a.text b.text) a.tree))
answer_grammar law bytes (Err fail.OutOfMemory) a b = inr refl
answer_grammar law bytes (Err (fail.Refused v.V1)) a b = absurd (not_both bytes b.allowed a)
answer_grammar law bytes (Err (fail.Refused v.V2)) a b = absurd (a.no_tokens b.tokens b.text)
answer_grammar law bytes (Err (fail.Refused v.V3)) a b = inl refl
answer_grammar law bytes (Err (fail.Refused v.V4)) a b = absurd a
answer_grammar law bytes (Err (fail.Refused v.V5)) a b = absurd a
answer_grammar law bytes (Err (fail.Refused v.V6)) a b = absurd a
answer_grammar law bytes (Err (fail.Refused v.V7)) a b = absurd a
answer_grammar law bytes (Err (fail.Refused v.V8)) a b = absurd a
