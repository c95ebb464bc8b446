-- The tokens of the VHDL subset: how each is spelled in lower case (IEEE Std 1076-1993, sections 13.2 to 13.9).
use Rattle.std.specs.Prelude.{ℕ, Bool, true, false, List, [], ◌∷◌, ◌++◌, map, codes, decimal, if◌then◌else◌, bytes_eq}
use Rattle.rw_base.specs.declared.bit.Bit9.{Bit9}
use Rattle.rw_base.specs.declared.bit.Bit9.TheVariants.{U, X, Zero, One, Z, W, L, H, Dash}
use Rattle.vh_tree.specs.declared.token.Mark.{Mark}
use Rattle.vh_tree.specs.declared.token.Mark.TheVariants as m
use Rattle.vh_tree.specs.declared.token.Side.{Side}
use Rattle.vh_tree.specs.declared.token.Side.TheVariants as side
use Rattle.vh_tree.specs.declared.token.Token.{Token}
use Rattle.vh_tree.specs.declared.token.Token.TheVariants as t

-- the letter of a value of a wire (IEEE Std 1164-1993, `std_ulogic`)
abbrev pub letter : Bit9 → ℕ
letter U = 85
letter X = 88
letter Zero = 48
letter One = 49
letter Z = 90
letter W = 87
letter L = 76
letter H = 72
letter Dash = 45

-- the bytes of a token that has one spelling only
abbrev pub spelling : Mark → List ℕ
spelling m.All = codes "all"
spelling m.And = codes "and"
spelling m.Architecture = codes "architecture"
spelling m.Begin = codes "begin"
spelling m.Behaviour = codes "behaviour"
spelling m.Clk = codes "clk"
spelling m.Downto = codes "downto"
spelling m.Else = codes "else"
spelling m.Elsif = codes "elsif"
spelling m.End = codes "end"
spelling m.Entity = codes "entity"
spelling m.Function = codes "function"
spelling m.Ieee = codes "ieee"
spelling m.If = codes "if"
spelling m.In = codes "in"
spelling m.Inp = codes "inp"
spelling m.Is = codes "is"
spelling m.Library = codes "library"
spelling m.Of = codes "of"
spelling m.Out = codes "out"
spelling m.Outp = codes "outp"
spelling m.Port = codes "port"
spelling m.Process = codes "process"
spelling m.Return = codes "return"
spelling m.Rewire = codes "rewire"
spelling m.RisingEdge = codes "rising_edge"
spelling m.Rst = codes "rst"
spelling m.Signal = codes "signal"
spelling m.StdLogic = codes "std_logic"
spelling m.StdLogic1164 = codes "std_logic_1164"
spelling m.StdLogicVector = codes "std_logic_vector"
spelling m.Then = codes "then"
spelling m.Use = codes "use"
spelling m.Variable = codes "variable"
spelling m.Opens = codes "("
spelling m.Closes = codes ")"
spelling m.Comma = codes ","
spelling m.Semicolon = codes ";"
spelling m.Colon = codes ":"
spelling m.Dot = codes "."
spelling m.Amp = codes "&"
spelling m.Equal = codes "="
spelling m.Assign = codes ":="
spelling m.Drive = codes "<="
spelling m.High = codes "'1'"

-- the bytes of a token
abbrev pub bytes_of : Token → List ℕ
bytes_of (t.Mark a) = spelling a
bytes_of (t.Id name) = name
bytes_of (t.Number n) = decimal n
bytes_of (t.Bits bits) = 34 ∷ (map letter bits ++ 34 ∷ [])

-- the token of a name of a design: a port has a token of its own
unfoldable pub name_token : List ℕ → Token
name_token name =
    if bytes_eq name (codes "inp") then t.Mark m.Inp
    else (if bytes_eq name (codes "outp") then t.Mark m.Outp
    else (if bytes_eq name (codes "clk") then t.Mark m.Clk else (if bytes_eq name (codes "rst") then t.Mark m.Rst else t.Id name)))

-- the symbols, and the character literal: marks that are no words
abbrev pub is_symbol : Mark → Bool
is_symbol m.Opens = true
is_symbol m.Closes = true
is_symbol m.Comma = true
is_symbol m.Semicolon = true
is_symbol m.Colon = true
is_symbol m.Dot = true
is_symbol m.Amp = true
is_symbol m.Equal = true
is_symbol m.Assign = true
is_symbol m.Drive = true
is_symbol m.High = true
is_symbol _ = false

-- marks as tokens
abbrev pub marks : List Mark → List Token
marks = map (λ (a : Mark). t.Mark a)

-- the mark of an assignment
abbrev pub assign_mark : Side → Mark
assign_mark side.Function = m.Assign
assign_mark side.Process = m.Drive

-- ---- what every text has

-- the library and the package that every text uses
unfoldable pub library_marks : List Mark
library_marks = m.Library ∷ m.Ieee ∷ m.Semicolon ∷ m.Use ∷ m.Ieee ∷ m.Dot ∷ m.StdLogic1164 ∷ m.Dot ∷ m.All ∷ m.Semicolon ∷ []

-- the entity up to the type of `inp`
unfoldable pub entity_marks : List Mark
entity_marks =
    m.Entity ∷ m.Rewire ∷ m.Is ∷ m.Port ∷ m.Opens ∷ m.Clk ∷ m.Colon ∷ m.In ∷ m.StdLogic ∷ m.Semicolon ∷ m.Rst ∷ m.Colon ∷ m.In ∷ m.StdLogic ∷ m.Semicolon ∷ m.Inp ∷ m.Colon ∷ m.In ∷ []

-- from there to the type of `outp`
unfoldable pub outp_marks : List Mark
outp_marks = m.Semicolon ∷ m.Outp ∷ m.Colon ∷ m.Out ∷ []

-- the end of the entity and the head of the architecture
unfoldable pub architecture_marks : List Mark
architecture_marks = m.Closes ∷ m.Semicolon ∷ m.End ∷ m.Rewire ∷ m.Semicolon ∷ m.Architecture ∷ m.Behaviour ∷ m.Of ∷ m.Rewire ∷ m.Is ∷ []

-- the end of the architecture
unfoldable pub end_marks : List Mark
end_marks = m.End ∷ m.Behaviour ∷ m.Semicolon ∷ []
