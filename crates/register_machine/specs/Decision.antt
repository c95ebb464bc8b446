-- Balanced decisions: nested tests on the bits of a value, the highest first.
use Rattle.std.specs.Prelude.{ℕ, zero, suc, ◌+◌, ◌^◌, List, [], ◌∷◌, nat_lt, if◌then◌else◌}
use Rattle.vh_tree.specs.Bits.{Bytes}
use Rattle.rw_base.specs.declared.bit.Bit9.TheVariants.{Zero}
use Rattle.vh_tree.specs.declared.expr.VExpr.TheVariants.{Slice}
use Rattle.vh_tree.specs.declared.stmt.Test.TheVariants.{Equal}
use Rattle.vh_tree.specs.declared.stmt.VStmt.{VStmt}
use Rattle.vh_tree.specs.declared.stmt.VStmt.TheVariants.{If}

-- `if x ( k downto k ) = "0" then low else high end if ;`
abbrev pub either : Bytes → ℕ → List VStmt → List VStmt → List VStmt
either x k low high = If (record { tests = Equal (Slice x k k) (Zero ∷ []) ∷ []; body = low } ∷ []) high ∷ []

-- the statements of the number, counted from base, that the last k bits of x spell; where no number from base + 2^k
-- on is below n, the highest of these bits is '0' and not tested
abbrev pub decide : Bytes → ℕ → ℕ → ℕ → (ℕ → List VStmt) → List VStmt
decide x n zero base leaf = leaf base
decide x n (suc k) base leaf =
    if nat_lt (base + 2 ^ k) n then either x k (decide x n k base leaf) (decide x n k (base + 2 ^ k) leaf) else decide x n k base leaf
