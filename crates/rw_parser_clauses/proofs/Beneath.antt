-- What is read inside one level, by how many there are.
use Rattle.std.proofs.Common.{◌≡◌, ℕ, zero, suc, ◌+◌, Bool, true, false, List, Some, None, refl, add-one, arith}
use Rattle.rw_base.specs.declared.place.Span.{Span}
use Rattle.rw_tree.specs.declared.expr.Expr.{Expr}
use Rattle.rw_parser_grammar.specs.declared.lexeme.Lexeme.{Lexeme}
use Rattle.rw_parser_reading.specs.ReadClauses.{locals_over_at}
use Rattle.rw_parser_parts.specs.Within.{expression_within, locals_within, expression_beneath, locals_beneath}
use Rattle.rw_parser_parts.specs.declared.frame.Frame.{Frame}
use Rattle.rw_parser_parts.specs.declared.frame.Step.TheVariants as step
use Rattle.rw_parser_parts.proofs.Frames.{last_part as part_under, under, step_of, frames_open, frames_cut}
use Rattle.rw_parser_clauses.specs.Inside.{local_inside}
use Rattle.rw_parser_clauses.specs.Last.{last_part, with_frame}

pub expression_beneath_none : (n room : ℕ) (ts : List Lexeme) → n ≡ 0 → expression_beneath n room ts ≡ None
unfolding expression_beneath
expression_beneath_none n room ts e = rw e

pub expression_beneath_some : (n k room : ℕ) (ts : List Lexeme) → n ≡ k + 1 → expression_beneath n room ts ≡ expression_within k room ts
unfolding expression_beneath
expression_beneath_some n k room ts e = rw (e, add-one k)

pub locals_beneath_none : (n room : ℕ) (ts : List Lexeme) → n ≡ 0 → locals_beneath n room ts ≡ None
unfolding locals_beneath
locals_beneath_none n room ts e = rw e

pub locals_beneath_some : (n k room : ℕ) (ts : List Lexeme) → n ≡ k + 1 → locals_beneath n room ts ≡ locals_within k room ts
unfolding locals_beneath
locals_beneath_some n k room ts e = rw (e, add-one k)

pub no_locals : (n room : ℕ) (ts : List Lexeme) → n ≡ 0 → locals_within n room ts ≡ None
unfolding locals_within
no_locals n room ts e = rw e

pub locals_once : (n k room : ℕ) (ts : List Lexeme) → n ≡ k + 1 → locals_within n room ts ≡ locals_over_at (local_inside k room) ts
unfolding locals_within
locals_once n k room ts e = rw (e, add-one k)

-- ---- one turn of the loop over frames
pub last_same : (is_cut : Bool) (tree : Expr Span) → last_part is_cut tree ≡ part_under is_cut tree
last_same true tree = refl
last_same false tree = refl

pub frames_on : (n k room : ℕ) (ts : List Lexeme) (frames : List Frame) (is_cut : Bool) (frame : Frame) (rest : List Lexeme) → n ≡ k + 1 → (is_cut ≡ true → room ≡ 0) → step_of k room ts ≡ Some (step.Opens frame, rest)
    → under (with_frame room is_cut frames frame).0 (with_frame room is_cut frames frame).2 (expression_within k (with_frame room is_cut frames frame).1 rest) ≡ under frames is_cut (expression_within n room ts)
frames_on n k zero ts frames is_cut frame rest e c h = frames_cut n k ts frames is_cut frame rest e h
frames_on n k (suc room) ts frames true frame rest e c h = absurd (let i = c refl in omega arith)
frames_on n k (suc room) ts frames false frame rest e c h = frames_open n k room ts frames frame rest e h

pub cut_on : (room : ℕ) (is_cut : Bool) (frames : List Frame) (frame : Frame) → (is_cut ≡ true → room ≡ 0) → (with_frame room is_cut frames frame).2 ≡ true → (with_frame room is_cut frames frame).1 ≡ 0
cut_on zero is_cut frames frame c h = refl
cut_on (suc room) is_cut frames frame c h = absurd (let i = c h in omega arith)
