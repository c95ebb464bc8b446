-- The kinds of bytes that runs are of, and the words that begin with a letter.
use Rattle.std.specs.Prelude.{ℕ, Bool, nat_eq, List, [], ◌∷◌, if◌then◌else◌}
use Rattle.std.specs.Char.{is_ascii_digit}
use Rattle.vh_tree.specs.Text.{in_word, in_line}
use Rattle.vh_tree_reading.specs.Scan.{is_bit}
use Rattle.vh_tree.specs.declared.token.Mark.{Mark}
use Rattle.vh_tree.specs.declared.token.Mark.TheVariants as m
use Rattle.vhdl_read.specs.declared.class.Class.{Class}
use Rattle.vhdl_read.specs.declared.class.Class.TheVariants as class

-- the bytes of words, of numbers, of comments and of strings
abbrev pub is_in : Class → ℕ → Bool
is_in class.Word b = in_word b
is_in class.Digit b = is_ascii_digit b
is_in class.Line b = in_line b
is_in class.Bit b = is_bit b

-- the words of the grammar that begin with this letter, but for `std_logic_1164`
abbrev pub words_from : ℕ → List Mark
words_from b =
    if nat_eq b 97 then m.All ∷ m.And ∷ m.Architecture ∷ []
    else (if nat_eq b 98 then m.Begin ∷ m.Behaviour ∷ []
    else (if nat_eq b 99 then m.Clk ∷ []
    else (if nat_eq b 100 then m.Downto ∷ []
    else (if nat_eq b 101 then m.Else ∷ m.Elsif ∷ m.End ∷ m.Entity ∷ []
    else (if nat_eq b 102 then m.Function ∷ []
    else (if nat_eq b 105 then m.Ieee ∷ m.If ∷ m.In ∷ m.Inp ∷ m.Is ∷ []
    else (if nat_eq b 108 then m.Library ∷ []
    else (if nat_eq b 111 then m.Of ∷ m.Out ∷ m.Outp ∷ []
    else (if nat_eq b 112 then m.Port ∷ m.Process ∷ []
    else (if nat_eq b 114 then m.Return ∷ m.Rewire ∷ m.RisingEdge ∷ m.Rst ∷ []
    else (if nat_eq b 115 then m.Signal ∷ m.StdLogic ∷ m.StdLogicVector ∷ []
    else (if nat_eq b 116 then m.Then ∷ [] else (if nat_eq b 117 then m.Use ∷ [] else (if nat_eq b 118 then m.Variable ∷ [] else []))))))))))))))
