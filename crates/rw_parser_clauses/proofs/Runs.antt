-- Which statements are an expression alone, and whether the last of some is.
use Rattle.std.proofs.Common.{◌≡◌, Bool, true, false, List, [], ◌∷◌, refl, ap}
use Rattle.rw_base.specs.declared.place.Span.{Span}
use Rattle.rw_tree.specs.declared.pattern.Pat.{Pat}
use Rattle.rw_tree.specs.declared.expr.Expr.{Expr}
use Rattle.rw_tree.specs.declared.clause.Local.{Local}
use Rattle.rw_tree.specs.declared.clause.Stmt.{Stmt}
use Rattle.rw_tree.specs.declared.clause.Stmt.TheVariants as s
use Rattle.rw_parser_grammar.specs.Clauses.{runs_step, ends_in_run}
use Rattle.rw_parser_clauses.specs.Last.{runs}

pub runs-Bind : (x : Span) (pat : Pat Span) (body : Expr Span) → runs (s.Bind x pat body) ≡ false
runs-Bind x pat body = ap runs_step (s.outs-Bind x pat body)

pub runs-Let : (x : Span) (locals : List (Local Span)) → runs (s.Let x locals) ≡ false
runs-Let x locals = ap runs_step (s.outs-Let x locals)

pub runs-Run : (x : Span) (body : Expr Span) → runs (s.Run x body) ≡ true
runs-Run x body = ap runs_step (s.outs-Run x body)

pub ruleset run_tests = (runs-Bind, runs-Let, runs-Run)

-- whether the last of some is, where that is known of those before them
abbrev pub ends_behind : Bool → List (Stmt Span) → Bool
ends_behind found [] = found
ends_behind found (a ∷ others) = ends_in_run (a ∷ others)

pub ends_more : (found : Bool) (a : Stmt Span) (others : List (Stmt Span)) → ends_behind (runs a) others ≡ ends_behind found (a ∷ others)
ends_more found a [] = refl
ends_more found a (b ∷ others) = refl

pub ends_all : (all : List (Stmt Span)) → ends_behind false all ≡ ends_in_run all
ends_all [] = refl
ends_all (a ∷ others) = refl
