-- What resolved expressions, statements and functions mean, over flat lists of bits.
use Rattle.std.specs.Prelude.{ℕ, ◌+◌, ◌-◌, List, [], ◌∷◌, ◌++◌, length, take, drop, replicate, min, max, Bool, true, false, if◌then◌else◌}
use Rattle.vh_tree.specs.Bits.{Bits, same_bits, slice_of}
use Rattle.rw_base.specs.declared.bit.Bit9.TheVariants.{U}
use Rattle.vhdl_cycle_flat.specs.declared.resolved.Expr.{Expr}
use Rattle.vhdl_cycle_flat.specs.declared.resolved.Stmt.{Stmt}
use Rattle.vhdl_cycle_flat.specs.declared.resolved.Branch.{Branch}
use Rattle.vhdl_cycle_flat.specs.declared.resolved.Fun.{Fun}
use Rattle.vhdl_cycle_flat.specs.declared.resolved.Test.{Test}
use Rattle.vhdl_cycle_flat.specs.declared.resolved.Bit.{Bit}
use Rattle.vhdl_cycle_flat.specs.declared.resolved.Expr.TheOpen.{Expr-F, Part, Slice, Cut, Literal, Call, Join, Test-F, Stmt-F, Assign, If, When, Branch-F, Fun-F}
use Rattle.vhdl_cycle_flat.specs.declared.resolved.Expr.TheFolds.{fold-Expr, fold-Stmt, fold-Branch, fold-Test, fold-Fun}

-- the value of an expression over a frame, where the store for functions has this length, and the room that it takes on the way
pub record Value : Type 0 where
  pub value : ℕ → Bits → Bits
  pub room : ℕ → Bits → ℕ

-- a frame after a statement
pub record Effect : Type 0 where
  pub after : ℕ → Bits → Bits
  pub room : ℕ → Bits → ℕ

pub record Holds : Type 0 where
  pub holds : ℕ → Bits → Bool
  pub room : ℕ → Bits → ℕ

pub record Taken : Type 0 where
  pub tests : List Holds
  pub body : List Effect

-- where a function's frame begins in the store, how long it is, and what the body and the result give over it
pub record Frame : Type 0 where
  pub from : ℕ
  pub size : ℕ
  pub run : Value

abbrev pub part_of : ℕ → ℕ → Bits → Bits
part_of from len frame = take len (drop from frame)

-- whether a bit of a part has this value
abbrev pub has_bit : Bit → Bits → Bool
has_bit b frame = same_bits (slice_of b.place b.place (part_of b.from b.len frame)) (b.value ∷ [])

-- these bits, written from there on, as far as they fit
abbrev pub written : ℕ → Bits → Bits → Bits
written from bits frame = take from frame ++ take (length frame - from) bits ++ drop (from + length bits) frame

-- a frame of this size as a call finds it
abbrev pub entered : ℕ → Bits → Bits
entered size args = take size args ++ replicate (size - length args) U

abbrev pub joined : List Value → ℕ → Bits → Bits
joined [] n frame = []
joined (v ∷ vs) n frame = v.value n frame ++ joined vs n frame

abbrev pub room_joined : List Value → ℕ → Bits → ℕ
room_joined [] n frame = 0
room_joined (v ∷ vs) n frame = max (v.room n frame) (length (v.value n frame) + room_joined vs n frame)

-- a function over its arguments, where the store has this length: its frame stands above those of earlier functions
abbrev pub called : Frame → ℕ → Bits → Bits
called f n args = f.run.value (min n f.from) (entered (min (n - min n f.from) f.size) args)

abbrev pub room_called : Frame → ℕ → Bits → ℕ
room_called f n args = f.run.room (min n f.from) (entered (min (n - min n f.from) f.size) args)

abbrev pub expr_step : Expr-F Value Effect Taken Frame Holds → Value
expr_step (Part from len) = record { value = λ n frame. part_of from len frame; room = λ n frame. length (part_of from len frame) }
expr_step (Slice from len high low) = record {
  value = λ n frame. slice_of high low (part_of from len frame);
  room = λ n frame. length (slice_of high low (part_of from len frame));
}
expr_step (Cut e high low) = record { value = λ n frame. slice_of high low (e.value n frame); room = e.room }
expr_step (Literal bits) = record { value = λ n frame. bits; room = λ n frame. length bits }
expr_step (Call f args) = record {
  value = λ n frame. called f.value n (joined args n frame);
  room = λ n frame. max (room_joined args n frame) (room_called f.value n (joined args n frame));
}
expr_step (Join parts) = record { value = joined parts; room = room_joined parts }

abbrev pub test_step : Test-F Value Effect Taken Frame Holds → Holds
test_step t = record { holds = λ n frame. same_bits (t.left.value n frame) t.bits; room = t.left.room }

abbrev pub all_hold : List Holds → ℕ → Bits → Bool
all_hold [] n frame = true
all_hold (t ∷ ts) n frame = if t.holds n frame then all_hold ts n frame else false

abbrev pub room_tests : List Holds → ℕ → Bits → ℕ
room_tests [] n frame = 0
room_tests (t ∷ ts) n frame = max (t.room n frame) (room_tests ts n frame)

abbrev pub in_order : List Effect → ℕ → Bits → Bits
in_order [] n frame = frame
in_order (e ∷ es) n frame = in_order es n (e.after n frame)

abbrev pub room_in_order : List Effect → ℕ → Bits → ℕ
room_in_order [] n frame = 0
room_in_order (e ∷ es) n frame = max (e.room n frame) (room_in_order es n (e.after n frame))

abbrev pub first_taken : List Taken → List Effect → ℕ → Bits → Bits
first_taken [] other n frame = in_order other n frame
first_taken (b ∷ bs) other n frame = if all_hold b.tests n frame then in_order b.body n frame else first_taken bs other n frame

abbrev pub room_first : List Taken → List Effect → ℕ → Bits → ℕ
room_first [] other n frame = room_in_order other n frame
room_first (b ∷ bs) other n frame = max (room_tests b.tests n frame) (max (room_in_order b.body n frame) (room_first bs other n frame))

abbrev pub stmt_step : Stmt-F Value Effect Taken Frame Holds → Effect
stmt_step (Assign from e) = record { after = λ n frame. written from (e.value n frame) frame; room = e.room }
stmt_step (If branches other) = record { after = first_taken branches other; room = room_first branches other }
stmt_step (When b body other) = record {
  after = λ n frame. if has_bit b frame then in_order body n frame else in_order other n frame;
  room = λ n frame. max (room_in_order body n frame) (room_in_order other n frame);
}

abbrev pub branch_step : Branch-F Value Effect Taken Frame Holds → Taken
branch_step b = record { tests = b.tests; body = b.body }

abbrev pub fun_step : Fun-F Value Effect Taken Frame Holds → Frame
fun_step f = record {
  from = f.from;
  size = f.size;
  run = record {
    value = λ n own. f.result.value n (in_order f.body n own);
    room = λ n own. max (room_in_order f.body n own) (f.result.room n (in_order f.body n own));
  };
}

abbrev pub expr_of : Expr → Value
expr_of = fold-Expr Value Effect Taken Frame Holds expr_step stmt_step branch_step fun_step test_step

abbrev pub stmt_of : Stmt → Effect
stmt_of = fold-Stmt Value Effect Taken Frame Holds expr_step stmt_step branch_step fun_step test_step

abbrev pub branch_of : Branch → Taken
branch_of = fold-Branch Value Effect Taken Frame Holds expr_step stmt_step branch_step fun_step test_step

abbrev pub fun_of : Fun → Frame
fun_of = fold-Fun Value Effect Taken Frame Holds expr_step stmt_step branch_step fun_step test_step

abbrev pub test_of : Test → Holds
test_of = fold-Test Value Effect Taken Frame Holds expr_step stmt_step branch_step fun_step test_step
