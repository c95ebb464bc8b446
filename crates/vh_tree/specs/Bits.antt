-- Lists of the nine values, and what tests and slices say of them (IEEE Std 1164-1993, sections 3 and 4).
use Rattle.std.specs.Prelude.{ℕ, ◌+◌, ◌-◌, List, length, take, drop, Bool, true, false, ◌&&◌, nat_eq}
use Rattle.std.specs.List.{list_any}
use lib.Pointwise.{pointwise}
use Rattle.rw_base.specs.declared.bit.Bit9.{Bit9}
use Rattle.rw_base.specs.declared.bit.Bit9.TheVariants.{U, X, Zero, One, Z, W, L, H, Dash}

-- a name: its bytes, in lower case
abbrev pub Bytes : Type 0
Bytes = List ℕ

-- a value: its bits, the leftmost first
abbrev pub Bits : Type 0
Bits = List Bit9

-- the place of a value among the nine, from 0
abbrev pub bit_number : Bit9 → ℕ
bit_number U = 0
bit_number X = 1
bit_number Zero = 2
bit_number One = 3
bit_number Z = 4
bit_number W = 5
bit_number L = 6
bit_number H = 7
bit_number Dash = 8

-- whether two of the nine values are the same: '-' is no wildcard
abbrev pub same_bit : Bit9 → Bit9 → Bool
same_bit a b = nat_eq (bit_number a) (bit_number b)

-- `=`: as long, and the same element by element
abbrev pub same_bits : Bits → Bits → Bool
same_bits = pointwise same_bit

-- whether two names are the same
abbrev pub same_name : Bytes → Bytes → Bool
same_name = pointwise nat_eq

-- whether a name is one of these
abbrev pub is_among : Bytes → List Bytes → Bool
is_among x names = list_any (same_name x) names

-- '0', forced or weak
abbrev pub is_low : Bit9 → Bool
is_low Zero = true
is_low L = true
is_low _ = false

-- '1', forced or weak
abbrev pub is_high : Bit9 → Bool
is_high One = true
is_high H = true
is_high _ = false

-- from '0' to '1', each forced or weak: what `rising_edge` asks of the two values of its event
abbrev pub rises_to : Bit9 → Bit9 → Bool
rises_to last now = is_low last && is_high now

-- the bits from place a down to place b, where the last bit has place 0
abbrev pub slice_of : ℕ → ℕ → Bits → Bits
slice_of a b bits = take (a + 1 - b) (drop (length bits - (a + 1)) bits)
