-- Which design a text spells, and which of the rules V1 to V3 a text breaks that spells none.
use Rattle.std.specs.Prelude.{◌≡◌, ℕ, true, false, List, []}
use Rattle.vh_tree.specs.declared.token.Token.{Token}
use Rattle.vh_tree.specs.declared.design.Design.{Design}
use Rattle.vh_tree.specs.Text.{all_allowed, IsText}
use Rattle.vh_tree.specs.Grammar.{IsDesign, max_levels}

-- the tokens spell the design, all of them
abbrev pub SpellsDesign : List Token → Design → Type 0
SpellsDesign tokens design = IsDesign max_levels tokens design []

-- the text spells the design: its bytes are allowed, it spells tokens, and they spell the design
pub record IsSpelled (bytes : List ℕ) (design : Design) : Type 0 where
  pub allowed : all_allowed bytes ≡ true
  pub tokens : List Token
  pub text : IsText bytes tokens
  pub tree : SpellsDesign tokens design

-- V1: a byte that is not allowed stands anywhere
abbrev pub BreaksBytes : List ℕ → Type 0
BreaksBytes bytes = all_allowed bytes ≡ false

-- V2, where V1 is kept: the text spells no tokens
pub record BreaksTokens (bytes : List ℕ) : Type 0 where
  pub allowed : all_allowed bytes ≡ true
  pub no_tokens : (tokens : List Token) → IsText bytes tokens → ⊥

-- V3, where V1 and V2 are kept: the tokens of the text spell no design
pub record BreaksGrammar (bytes : List ℕ) : Type 0 where
  pub allowed : all_allowed bytes ≡ true
  pub tokens : List Token
  pub text : IsText bytes tokens
  pub no_design : (design : Design) → SpellsDesign tokens design → ⊥

-- what a text is: it spells a design, or breaks one of V1, V2 and V3, which are judged in this order
pub data IsJudged (bytes : List ℕ) : Type 0 where
  spelled : (design : Design) → IsSpelled bytes design → IsJudged bytes
  bytes_broken : BreaksBytes bytes → IsJudged bytes
  tokens_broken : BreaksTokens bytes → IsJudged bytes
  grammar_broken : BreaksGrammar bytes → IsJudged bytes
