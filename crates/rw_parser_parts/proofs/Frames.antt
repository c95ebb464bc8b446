-- One turn of the loop over the frames that an expression stands in.
use Rattle.std.proofs.Common.{◌≡◌, ℕ, suc, pred, ◌+◌, Bool, true, false, List, [], ◌∷◌, ◌++◌, Some, None, refl, sym, ◌∙◌, ap, add-one}
use Rattle.rw_base.specs.declared.place.Span.{Span}
use Rattle.rw_tree.specs.declared.expr.Expr.{Expr}
use Rattle.rw_parser_grammar.specs.declared.lexeme.Lexeme.{Lexeme}
use Rattle.rw_parser_reading.specs.Read.{◌>>=◌, Read}
use Rattle.rw_parser_parts.specs.declared.frame.Frame.{Frame}
use Rattle.rw_parser_parts.specs.declared.frame.Step.{Step}
use Rattle.rw_parser_parts.specs.declared.frame.Step.TheVariants as step
use Rattle.rw_parser_parts.specs.Steps.{cut_off, closed, all_closed}
use Rattle.rw_parser_parts.specs.Within.{went_on, step_within, expression_within, locals_within, locals_beneath, expression_beneath}

-- the last part of frames, which is cut off where one of them had no room
abbrev pub last_part : Bool → Expr Span → Expr Span
last_part true body = cut_off
last_part false body = body

-- what is read under frames
abbrev pub under : List Frame → Bool → Read (Expr Span) → Read (Expr Span)
under frames is_cut None = None
under frames is_cut (Some p) = Some (all_closed frames (last_part is_cut p.0) p.1, p.1)

-- closing begins with the innermost
pub closed_last : (frames : List Frame) (frame : Frame) (body : Expr Span) (rest : List Lexeme) → all_closed (frames ++ frame ∷ []) body rest ≡ all_closed frames (closed frame body rest) rest
closed_last [] frame body rest = refl
closed_last (f ∷ frames) frame body rest = ap (λ x. closed f x rest) (closed_last frames frame body rest)

-- one step of an expression
abbrev pub step_of : ℕ → ℕ → List Lexeme → Read Step
step_of n room = step_within room (expression_within n room) (locals_within n room) (locals_beneath n room) (expression_beneath n (pred room))

expression_once : (n room : ℕ) (ts : List Lexeme) → expression_within (suc n) room ts ≡ (step_of n room ts >>= λ x. went_on room (expression_within n (pred room)) x)
unfolding expression_within
expression_once n room ts = refl

once : (n k room : ℕ) (ts : List Lexeme) → n ≡ k + 1 → expression_within n room ts ≡ (step_of k room ts >>= λ x. went_on room (expression_within k (pred room)) x)
once n k room ts e = ap (λ x. expression_within x room ts) (e ∙ add-one k) ∙ expression_once k room ts

pub frames_none : (n room : ℕ) (ts : List Lexeme) (frames : List Frame) (is_cut : Bool) → n ≡ 0 → under frames is_cut (expression_within n room ts) ≡ None
unfolding expression_within
frames_none n room ts frames is_cut e = rw e

pub frames_fail : (n k room : ℕ) (ts : List Lexeme) (frames : List Frame) (is_cut : Bool) → n ≡ k + 1 → step_of k room ts ≡ None → under frames is_cut (expression_within n room ts) ≡ None
frames_fail n k room ts frames is_cut e h = rw (once n k room ts e, h)

pub frames_whole : (n k room : ℕ) (ts : List Lexeme) (frames : List Frame) (is_cut : Bool) (tree : Expr Span) (rest : List Lexeme) → n ≡ k + 1 → step_of k room ts ≡ Some (step.Whole tree, rest)
    → under frames is_cut (expression_within n room ts) ≡ Some (all_closed frames (last_part is_cut tree) rest, rest)
frames_whole n k room ts frames is_cut tree rest e h = rw (once n k room ts e, h)

under_frame : (frames : List Frame) (frame : Frame) (r : Read (Expr Span)) → under (frames ++ frame ∷ []) false r ≡ under frames false (r >>= λ b. Some (closed frame b.0 b.1, b.1))
under_frame frames frame None = refl
under_frame frames frame (Some p) = rw (closed_last frames frame p.0 p.1)

under_cut : (frames : List Frame) (is_cut : Bool) (r : Read (Expr Span)) → under frames true r ≡ under frames is_cut (r >>= λ b. Some (cut_off, b.1))
under_cut frames true None = refl
under_cut frames false None = refl
under_cut frames true (Some p) = refl
under_cut frames false (Some p) = refl

-- with room, the frame is kept
pub frames_open : (n k room : ℕ) (ts : List Lexeme) (frames : List Frame) (frame : Frame) (rest : List Lexeme) → n ≡ k + 1 → step_of k (suc room) ts ≡ Some (step.Opens frame, rest)
    → under (frames ++ frame ∷ []) false (expression_within k room rest) ≡ under frames false (expression_within n (suc room) ts)
frames_open n k room ts frames frame rest e h = under_frame frames frame (expression_within k room rest) ∙ sym (ap (under frames false) (once n k (suc room) ts e ∙ ap (λ z. z >>= λ x. went_on (suc room) (expression_within k room) x) h))

-- with no room, it is not
pub frames_cut : (n k : ℕ) (ts : List Lexeme) (frames : List Frame) (is_cut : Bool) (frame : Frame) (rest : List Lexeme) → n ≡ k + 1 → step_of k 0 ts ≡ Some (step.Opens frame, rest)
    → under frames true (expression_within k 0 rest) ≡ under frames is_cut (expression_within n 0 ts)
frames_cut n k ts frames is_cut frame rest e h = under_cut frames is_cut (expression_within k 0 rest) ∙ sym (ap (under frames is_cut) (once n k 0 ts e ∙ ap (λ z. z >>= λ x. went_on 0 (expression_within k 0) x) h))
