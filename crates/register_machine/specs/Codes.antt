-- How a number among n stands on wires: as the bits of a data type's constructor without fields.
use Rattle.std.specs.Prelude.{ℕ, max, Bool, true, false, map}
use Rattle.rw_core.specs.Bits.{tag_width, binary}
use Rattle.vh_tree.specs.Bits.{Bits}
use Rattle.rw_base.specs.declared.bit.Bit9.{Bit9}
use Rattle.rw_base.specs.declared.bit.Bit9.TheVariants.{Zero, One}

-- a bit on a wire
abbrev pub wire_bit : Bool → Bit9
wire_bit false = Zero
wire_bit true = One

-- a number in this many bits, most significant first
abbrev pub number_bits : ℕ → ℕ → Bits
number_bits width k = map wire_bit (binary width k)

-- how many bits tell n numbers apart, but at least one
abbrev pub code_width : ℕ → ℕ
code_width n = max 1 (tag_width n)

-- the code of number k among n
abbrev pub code : ℕ → ℕ → Bits
code n k = number_bits (code_width n) k
