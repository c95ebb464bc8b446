-- Which flat programs are for a source.
use Rattle.std.specs.Prelude.{◌≡◌, ℕ, List, length, get_or, Option, Some, None}
use Rattle.rw_scope_rules.specs.declared.binding.Bound.{Bound}
use Rattle.rw_scope_rules.specs.Bindings.{group_variables}
use Rattle.rw_tree.specs.Trees.{Expression, Alternatives, LocalBindings}
use Rattle.rw_tree.specs.Declarations.{Declaration}
use Rattle.rw_core.specs.Options.{◌>>=◌}
use Rattle.rw_core.specs.Systems.{System, AreAlike}
use Rattle.rw_meaning.specs.Evaluation.{declaration_at}
use Rattle.rw_meaning.specs.Systems.{binding_of, Body, system_of, start_of}
use Rattle.rw_core_flat.specs.Terms.{FlatTerm, let_term, FlatLets}
use Rattle.rw_core_flat.specs.Programs.{FlatFunction, function_at}
use Rattle.inline_ho_rules.specs.Meants.{Meants, no_meants, flats, all_unplaced, declared_clauses}
use Rattle.inline_ho_rules.specs.Flattening.{IsFlat, IsPlaced, IsWhole}

-- what the flat functions are of, in their order: a declaration, by its number, or none where it is a part of `start`
abbrev pub IsOf : List (Option ℕ) → ℕ → ℕ → Type 0
IsOf origins i n = get_or origins i None ≡ Some n

-- each flat function that is of a declaration is one for its clauses
pub record AreFlattened (program : List (Declaration Bound)) (origins : List (Option ℕ)) (functions : List FlatFunction) : Type 0 where
  pub each_is : (i n : ℕ) (f : FlatFunction) → function_at i functions ≡ Some f → IsOf origins i n
      → (cs : Alternatives Bound) × ((declaration_at n program >>= declared_clauses) ≡ Some cs) × IsWhole program (IsOf origins) cs f

module _ (program : List (Declaration Bound)) (origins : List (Option ℕ)) (functions : List FlatFunction) (wheres : LocalBindings Bound) where
  -- the flat function with this number is for a part of `start`, with so many parameters: it is read inside what is bound after the `where` of `start`
  pub record IsPart (parameters i : ℕ) (e : Expression Bound) : Type 0 where
    pub function : FlatFunction
    pub found : function_at i functions ≡ Some function
    pub counted : length function.params ≡ parameters
    pub next : ℕ
    pub inside : Meants Bound
    pub lets : FlatLets
    pub term : FlatTerm
    pub body : function.body ≡ let_term lets term
    pub placed : IsPlaced program (IsOf origins) wheres parameters no_meants (all_unplaced (length (group_variables wheres))) lets next inside
    pub flattened : IsFlat program (IsOf origins) next inside e (flats 0 parameters) term

-- a flat program for a source: its functions are for declarations, and its system has a function for each part of that of the source
pub record IsFlatProgram (program : List (Declaration Bound)) (origins : List (Option ℕ)) (functions : List FlatFunction) (system : System ℕ ℕ) : Type 0 where
  pub flattened : AreFlattened program origins functions
  pub start : Body Bound
  pub found : start_of program ≡ Some start
  pub parts : AreAlike (IsPart program origins functions start.wheres 0) (IsPart program origins functions start.wheres 1) (IsPart program origins functions start.wheres 2)
      system (system_of binding_of start.expression)
