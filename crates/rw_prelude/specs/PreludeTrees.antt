-- The declarations that stand before those of every source (Haskell 2010 Report, chapter 9, in this project's profile).
use Rattle.std.specs.Prelude.{◌≡◌, ℕ, List, [], ◌∷◌, Result, IfOk}
use Rattle.rw_base.specs.declared.place.Span.{Span}
use Rattle.rw_base.specs.declared.fail.OutOfMemory.{OutOfMemory}
use Rattle.rw_tree.specs.declared.types.Written.{Written}
use Rattle.rw_tree.specs.declared.pattern.Pat.{Pat}
use Rattle.rw_tree.specs.declared.expr.Expr.{Expr}
use Rattle.rw_tree.specs.declared.clause.Alt.{Alt}
use Rattle.rw_tree.specs.declared.clause.Rhs.TheVariants as rhs
use Rattle.rw_tree.specs.declared.decl.Constructor.{Constructor}
use Rattle.rw_tree.specs.declared.decl.Side.{Side}
use Rattle.rw_tree.specs.declared.decl.Decl.{Decl}
use Rattle.rw_tree.specs.declared.decl.Decl.TheVariants as decl

-- an answer is this value, or memory ran out
unfoldable pub Gives : {T : Type 0} → Result T OutOfMemory → T → Type 0
Gives answer value = IfOk answer (λ made. made ≡ value)

-- the span of what no source declares
abbrev pub nowhere : Span
nowhere = record { first = record { line = 0; column = 0 }; from = 0; to = 0 }

-- a clause without guards and without local bindings
abbrev pub plain_clause : List (Pat Span) → Expr Span → Alt Span
plain_clause pats body = record { at = nowhere; pats = pats; rhs = rhs.Plain body; wheres = [] }

-- a constructor of a data type
abbrev pub constructor_named : List ℕ → List Written → Constructor
constructor_named name fields = record { name = name; fields = fields }

-- a data type
abbrev pub data_named : List ℕ → List (List ℕ) → List Constructor → List (Decl Span)
data_named name params constructors = decl.Data nowhere record { name = name; params = params; constructors = constructors } ∷ []

-- the side and the strength of operators
abbrev pub strength_of : Side → ℕ → List (List ℕ) → Decl Span
strength_of side strength names = decl.Fixity nowhere side strength names

-- a function: its signature, then its clauses
abbrev pub function_named : List ℕ → Written → List (Alt Span) → List (Decl Span)
function_named name written clauses = decl.Sig nowhere (name ∷ []) written ∷ decl.Fun nowhere name clauses ∷ []
