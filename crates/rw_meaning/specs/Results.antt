-- What an expression evaluates to, and what is kept of an expression that is not evaluated yet (Haskell 2010 Report,
-- section 3: arguments, fields and the names of a `let` are evaluated when they are needed).
use Rattle.std.specs.Prelude.{ℕ, zero, suc, List, Option, Some, None}
use Rattle.rw_scope_rules.specs.declared.binding.Operation.{Operation}
use Rattle.rw_scope_rules.specs.declared.binding.Operation.TheVariants.{Return, Bind, Then, Get, Put, Lift, Signal, Extrude, Par, Refold}
use Rattle.rw_scope_rules.specs.declared.binding.Bound.{Bound}
use Rattle.rw_tree.specs.Patterns.{Pattern}
use Rattle.rw_tree.specs.Trees.{Expression, Alternatives, RightSide, LocalBindings}
use Rattle.rw_core.specs.Values.{Val, Vals, val, none, more}

mutual
  -- a result: a constructor, by its place in its declaration, with its fields; a function that waits for further arguments; or an
  -- action with its arguments. A tuple and `()` are constructors with place 0
  pub data Outcome : Type 0 where
    datum : ℕ → Thunks → Outcome
    waiting_for_more : Function → Thunks → Outcome
    action : Operation → Thunks → Outcome

  -- what can be applied: clauses or a lambda where they stand, a constructor with so many fields, or an operation
  pub data Function : Type 0 where
    of_clauses : Thunks → Alternatives Bound → Function
    of_lambda : Thunks → List (Pattern Bound) → Expression Bound → Function
    of_constructor : ℕ → ℕ → Function
    of_operation : Operation → Function

  -- what is kept and evaluated when it is needed: an expression; a right side with what is bound after its `where`; the name with this number in a let
  -- group, each with the environment around it; a function applied to arguments; or a result that is there already
  pub data Thunk : Type 0 where
    kept : Thunks → Expression Bound → Thunk
    kept_side : Thunks → RightSide Bound → LocalBindings Bound → Thunk
    kept_name : Thunks → LocalBindings Bound → ℕ → Thunk
    kept_call : Thunk → Thunks → Thunk
    known : Outcome → Thunk

  -- a list of them. As an environment it has what each local name stands for, by the number of the name
  pub data Thunks : Type 0 where
    nothing : Thunks
    and_then : Thunk → Thunks → Thunks

abbrev pub joined : Thunks → Thunks → Thunks
joined nothing more_thunks = more_thunks
joined (and_then t ts) more_thunks = and_then t (joined ts more_thunks)

abbrev pub how_many : Thunks → ℕ
how_many nothing = 0
how_many (and_then t ts) = suc (how_many ts)

abbrev pub thunk_at : ℕ → Thunks → Option Thunk
thunk_at n nothing = None
thunk_at zero (and_then t ts) = Some t
thunk_at (suc n) (and_then t ts) = thunk_at n ts

abbrev pub first_thunks : ℕ → Thunks → Thunks
first_thunks zero ts = nothing
first_thunks (suc n) nothing = nothing
first_thunks (suc n) (and_then t ts) = and_then t (first_thunks n ts)

abbrev pub later_thunks : ℕ → Thunks → Thunks
later_thunks zero ts = ts
later_thunks (suc n) nothing = nothing
later_thunks (suc n) (and_then t ts) = later_thunks n ts

-- how many arguments an operation takes
abbrev pub arguments_of : Operation → ℕ
arguments_of Return = 1
arguments_of Bind = 2
arguments_of Then = 2
arguments_of Get = 0
arguments_of Put = 1
arguments_of Lift = 1
arguments_of Signal = 1
arguments_of Extrude = 2
arguments_of Par = 2
arguments_of Refold = 3

-- a value as a result, with all that is in it
abbrev mutual
  pub held : Val → Outcome
  held (val place fields) = datum place (held_fields fields)

  pub held_fields : Vals → Thunks
  held_fields none = nothing
  held_fields (more v vs) = and_then (known (held v)) (held_fields vs)
