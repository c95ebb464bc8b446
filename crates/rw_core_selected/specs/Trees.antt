-- Trees of decisions, and their values: only what is taken is evaluated.
use Rattle.std.specs.Prelude.{ℕ, zero, suc, nat_eq, List, [], ◌∷◌, ◌++◌, Option, Some, None, if◌then◌else◌}
use Rattle.rw_core.specs.Values.{Val, Vals, val, none, more, vals}
use Rattle.rw_core.specs.Options.{◌>>=◌}
use Rattle.rw_core_flat.specs.Meaning.{value_at}
use Rattle.rw_core_layered.specs.Pures.{Calling}
use Rattle.rw_core_layered.specs.Machines.{MachineOf, MachineDenotes}

mutual
  -- what is evaluated in one step
  pub data SelectTerm : Type 0 where
    -- a variable
    select_local : ℕ → SelectTerm
    -- a data type, by its number in the table, and a constructor of it, by its place, with all its fields
    select_con : ℕ → ℕ → SelectTerms → SelectTerm
    -- of a value with the constructor of the first place, the field of the second
    select_field : ℕ → ℕ → SelectTerm → SelectTerm
    -- a function, by its number, with all its arguments
    select_call : ℕ → SelectTerms → SelectTerm

  pub data SelectTerms : Type 0 where
    no_selects : SelectTerms
    more_selects : SelectTerm → SelectTerms → SelectTerms

mutual
  pub data Tree : Type 0 where
    -- the branch of the constructor that the value has
    tree_switch : SelectTerm → Branches → Tree
    -- one variable more, and what follows
    tree_let : SelectTerm → Tree → Tree
    tree_result : SelectTerm → Tree

  -- by the places of constructors; behind them nothing, or what stands for all others
  pub data Branches : Type 0 where
    no_branches : Branches
    other_branch : Tree → Branches
    more_branches : ℕ → Tree → Branches → Branches

-- the field with this number
abbrev pub field_at : ℕ → Vals → Option Val
field_at place none = None
field_at zero (more v vs) = Some v
field_at (suc place) (more v vs) = field_at place vs

-- a field of a value with this constructor
abbrev pub field_in : ℕ → ℕ → Val → Option Val
field_in tag place (val other fields) = if nat_eq other tag then field_at place fields else None

abbrev pub tag_of : Val → ℕ
tag_of (val tag fields) = tag

module _ (calls : Calling) where
  abbrev mutual
    pub select_value : SelectTerm → List Val → Option Val
    select_value (select_local k) env = value_at k env
    select_value (select_con type place ts) env = do vs ← select_values ts env; Some (val place (vals vs))
    select_value (select_field tag place t) env = do v ← select_value t env; field_in tag place v
    select_value (select_call i ts) env = do vs ← select_values ts env; calls i vs

    pub select_values : SelectTerms → List Val → Option (List Val)
    select_values no_selects env = Some []
    select_values (more_selects t ts) env = do v ← select_value t env; vs ← select_values ts env; Some (v ∷ vs)

  abbrev mutual
    pub tree_value : Tree → List Val → Option Val
    tree_value (tree_switch t branches) env = do v ← select_value t env; branch_value branches (tag_of v) env
    tree_value (tree_let t rest) env = do v ← select_value t env; tree_value rest (env ++ v ∷ [])
    tree_value (tree_result t) env = select_value t env

    pub branch_value : Branches → ℕ → List Val → Option Val
    branch_value no_branches tag env = None
    branch_value (other_branch t) tag env = tree_value t env
    branch_value (more_branches place t others) tag env = if nat_eq tag place then tree_value t env else branch_value others tag env

-- a machine whose functions are trees
abbrev pub TreeMachine : Type 0
TreeMachine = MachineOf Tree

-- a selected program denotes these outputs on these inputs
abbrev pub SelectedDenotes : TreeMachine → List Val → List Val → Type 0
SelectedDenotes m inputs outputs = MachineDenotes tree_value m inputs outputs
