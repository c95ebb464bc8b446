-- The rule on `start`, E15: it is declared by one equation without patterns and guards, and is a device of closed data
-- (of Haskell 2010 Report, section 4.4.3, the simple pattern bindings).
use Rattle.std.specs.Prelude.{ℕ, suc, List, [], ◌∷◌, Bool, true, false, not, ◌&&◌, codes, Option, Some, None, if◌then◌else◌}
use Rattle.rw_base.specs.declared.place.Place.{Place}
use Rattle.rw_tree.specs.Types.{WrittenType}
use Rattle.rw_tree.specs.Trees.{Alternative}
use Rattle.rw_tree.specs.Declarations.{Declaration, signature_declaration, function_declaration, PlainProgram}
use Rattle.rw_scope_rules.specs.declared.binding.Bound.{Bound}
use Rattle.rw_scope_rules.specs.Names.{is_among, at_if}
use Rattle.rw_meaning.specs.Systems.{Body, body_of}
use Rattle.rw_start.specs.Device.{is_device}

-- what declares `start`: the number of its declaration, the place of its first clause, and its clauses
pub record Start : Type 0 where
  pub number : ℕ
  pub place : Place
  pub clauses : List (Alternative Bound)

-- the first declaration of `start` among these, which are numbered from n on
abbrev pub start_from : ℕ → List (Declaration Bound) → Option Start
start_from n [] = None
start_from n (function_declaration a x clauses ∷ ds) =
    if is_among x (codes "start" ∷ []) then Some (record { number = n; place = a.span.first; clauses = clauses }) else start_from (suc n) ds
start_from n (d ∷ ds) = start_from (suc n) ds

-- the type of the first signature of `start`
abbrev pub type_of_start : List (Declaration Bound) → Option WrittenType
type_of_start [] = None
type_of_start (signature_declaration a names type ∷ ds) = if is_among (codes "start") names then Some type else type_of_start ds
type_of_start (d ∷ ds) = type_of_start ds

-- one clause without patterns and guards
abbrev pub has_body : Option (Body Bound) → Bool
has_body None = false
has_body (Some body) = true

abbrev pub is_device_if : Option WrittenType → Bool
is_device_if None = false
is_device_if (Some type) = is_device type

abbrev pub improper : Option WrittenType → Option Start → List Place
improper type None = record { line = 1; column = 1 } ∷ []
improper type (Some start) = at_if (not (has_body (body_of start.clauses) && is_device_if type)) start.place

-- E15 is broken at these places: where `start` is declared, or at 1:1 where it isn't
abbrev pub improper_start : PlainProgram Bound → List Place
improper_start program = improper (type_of_start program.declarations) (start_from 0 program.declarations)
