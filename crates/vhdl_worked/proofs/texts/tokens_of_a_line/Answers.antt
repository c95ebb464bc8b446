-- By reading.
use Rattle.std.proofs.Common.{◌∷◌, [], refl}
use Rattle.std.specs.Prelude.{codes}
use Rattle.rw_base.specs.declared.bit.Bit9.TheVariants.{One, X}
use Rattle.vh_tree.specs.declared.token.Mark.TheVariants as m
use Rattle.vh_tree.specs.declared.token.Token.TheVariants as t
use Rattle.vh_tree_reading.specs.Scan.{scanned, tokens_at, front, string_at, symbol_at, word_token, number_of, value_of}
use Rattle.vh_tree_reading.proofs.ScanComplete.{scanned_sound}
use Rattle.vhdl_worked.proofs.texts.tokens_of_a_line.Goals as goal

pub returns-clause-spelled : goal.returns-clause-spelled
unfolding scanned tokens_at front string_at symbol_at word_token number_of value_of
returns-clause-spelled c = scanned_sound (codes "If v0_A=\"1X\"then 3downto--b") (t.Mark m.If ∷ t.Id (codes "v0_a") ∷ t.Mark m.Equal ∷ t.Bits (One ∷ X ∷ []) ∷ t.Mark m.Then ∷ t.Number 3 ∷ t.Mark m.Downto ∷ []) refl

pub returns-clause-joined : goal.returns-clause-joined
unfolding scanned tokens_at front string_at symbol_at word_token number_of value_of
returns-clause-joined c = refl

pub returns-clause-underscores : goal.returns-clause-underscores
unfolding scanned tokens_at front string_at symbol_at word_token number_of value_of
returns-clause-underscores c = refl

pub returns-clause-zero : goal.returns-clause-zero
unfolding scanned tokens_at front string_at symbol_at word_token number_of value_of
returns-clause-zero c = refl

pub returns-clause-plain : goal.returns-clause-plain
unfolding scanned tokens_at front string_at symbol_at word_token number_of value_of
returns-clause-plain c = refl
