-- Nodes from their parts, each part with its levels: a node is one level above the highest, where the bound allows it.
use Rattle.std.specs.Prelude.{ℕ, max, List, ◌∷◌, Option, Some}
use Rattle.rw_base.specs.declared.place.Span.{Span}
use Rattle.rw_tree.specs.declared.types.Written.{Written}
use Rattle.rw_tree.specs.declared.pattern.Pat.{Pat}
use Rattle.rw_tree.specs.declared.expr.Expr.{Expr}
use Rattle.rw_tree.specs.declared.expr.Expr.TheVariants as e
use Rattle.rw_tree.specs.declared.clause.Local.{Local}
use Rattle.rw_tree.specs.declared.clause.Local.TheVariants as l
use Rattle.rw_tree.specs.declared.clause.Alt.{Alt, out-Alt}
use Rattle.rw_tree.specs.declared.clause.Rhs.{Rhs}
use Rattle.rw_tree.specs.declared.clause.Stmt.{Stmt}
use Rattle.rw_tree.specs.declared.clause.Stmt.TheVariants as s
use Rattle.rw_parser_reading.specs.Read.{◌>>=◌}
use Rattle.rw_parser_grammar.specs.Chains.{Strength}
use Rattle.rw_parser_chains.specs.Grouping.{Counted, Waiting, above, settled}
use Rattle.rw_parser_chains.specs.Resolving.{Made}

-- expressions
abbrev pub applied : Span → Counted → List (Expr Span) × ℕ → Made (Expr Span)
applied x p q = above (max p.1 q.1) >>= (λ m. Some (e.Apply x p.0 q.0, m))

abbrev pub tupled : Span → List (Expr Span) × ℕ → Made (Expr Span)
tupled x q = above q.1 >>= (λ m. Some (e.Tuple x q.0, m))

abbrev pub abstracted : Span → List (Pat Span) → ℕ → Counted → Made (Expr Span)
abstracted x pats n p = above (max n p.1) >>= (λ m. Some (e.Lambda x pats p.0, m))

abbrev pub declared : Span → List (Local Span) × ℕ → Counted → Made (Expr Span)
declared x q p = above (max q.1 p.1) >>= (λ m. Some (e.Let x q.0 p.0, m))

abbrev pub chosen : Span → Counted → Counted → Counted → Made (Expr Span)
chosen x p q t = above (max p.1 (max q.1 t.1)) >>= (λ m. Some (e.If x p.0 q.0 t.0, m))

abbrev pub examined : Span → Counted → List (Alt Span) × ℕ → Made (Expr Span)
examined x p q = above (max p.1 q.1) >>= (λ m. Some (e.Case x p.0 q.0, m))

-- clauses and local declarations
abbrev pub clause_of : Alt Span → ℕ → Rhs Span × ℕ → List (Local Span) × ℕ → Made (Alt Span)
clause_of a n p q = above (max n (max p.1 q.1)) >>= (λ m. Some (record { at = a.at; pats = a.pats; rhs = p.0; wheres = q.0 }, m))

abbrev pub signature : Span → List ℕ → Written → ℕ → Made (Local Span)
signature x name type n = above n >>= (λ m. Some (l.Sig x name type, m))

abbrev pub function : Span → List ℕ → List (Alt Span) × ℕ → Made (Local Span)
function x name q = above q.1 >>= (λ m. Some (l.Fun x name q.0, m))

abbrev pub bound : Span → Alt Span × ℕ → Made (Local Span)
bound x p = above p.1 >>= (λ m. Some (l.Pattern x p.0, m))

-- statements
abbrev pub bind : Span → Pat Span → ℕ → Counted → Made (Stmt Span)
bind x pat n p = above (max n p.1) >>= (λ m. Some (s.Bind x pat p.0, m))

abbrev pub let_statement : Span → List (Local Span) × ℕ → Made (Stmt Span)
let_statement x q = above q.1 >>= (λ m. Some (s.Let x q.0, m))

abbrev pub run : Span → Counted → Made (Stmt Span)
run x p = above p.1 >>= (λ m. Some (s.Run x p.0, m))

-- what waits after an operand and the operator behind it
abbrev pub turned : (List ℕ → Strength) → Counted → List Waiting → Counted → Option (List Waiting)
turned strength o ws x = settled strength o ws x >>= (λ p. Some ((p.1, o) ∷ p.0))
