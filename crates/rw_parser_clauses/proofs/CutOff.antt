-- What is read where there is so much room is what the grammar reads, cut off where there is no room.
use Rattle.std.proofs.Common.{◌≡◌, ℕ, zero, suc, pred, List, refl, sym, subst, arith}
use Rattle.rw_base.specs.declared.place.Span.{Span}
use Rattle.rw_tree.specs.declared.expr.Expr.{Expr}
use Rattle.rw_tree.specs.declared.clause.Local.{Local}
use Rattle.rw_parser_grammar.specs.declared.lexeme.Lexeme.{Lexeme}
use Rattle.rw_parser_reading.specs.Frames.{most, frames_of_expression, frames_of_local, frames_of_bound}
use Rattle.rw_parser_reading.specs.Read.{◌>>=◌, Read}
use Rattle.rw_parser_reading.specs.ReadExpressions.{closing_at}
use Rattle.rw_parser_reading.specs.ReadClauses.{alternative_at, alternatives_at, locals_over_at, statement_at, statements_at}
use Rattle.rw_parser_patterns.specs.Depth.{any_type_at, any_pattern_at}
use Rattle.rw_parser_parts.specs.declared.frame.Head.{Head}
use Rattle.rw_parser_parts.specs.declared.frame.Frame.{Frame}
use Rattle.rw_parser_parts.specs.declared.frame.Step.{Step}
use Rattle.rw_parser_parts.specs.declared.frame.Step.TheVariants as step
use Rattle.rw_parser_parts.specs.Steps.{closed, head_at, step_at}
use Rattle.rw_parser_parts.specs.Within.{any_left_side_at, any_binding_at, signature_within, alternatives_within, clause_within, local_within, statement_within, closed_within, went_on, operand_within, step_within, expression_within, locals_within, expression_beneath, locals_beneath}
use Rattle.rw_parser_clauses.specs.Clause.{frames_of_clause}
use Rattle.rw_parser_clauses.specs.Last.{runs}
use Rattle.rw_parser_clauses.proofs.Small.{unseen, Small, small_two, small_last, small_nowhere, Together, neither, both, together_bind}
use Rattle.rw_parser_clauses.proofs.Counts.{frames_of_frame, frames_of_step, frames-closed}
use Rattle.rw_parser_clauses.proofs.SmallExpressions.{operand_small, head_small, is_open, step_small}
use Rattle.rw_parser_clauses.proofs.SmallClauses.{alternatives_small, clause_small, local_small, locals_over_small, signatures_small, statement_small, statements_small}
use Rattle.rw_parser_clauses.proofs.Whole.{clause_any, local_any, operand_any, expression_any, locals_any, expression_low, locals_low}
use Rattle.rw_parser_clauses.proofs.Closing.{go_on, closing_is, expression_is}

-- ---- a step and its last part
whole_is : (a b : Expr Span) → step.Whole a ≡ step.Whole b → a ≡ b
whole_is a b e = cc

frame_is : (a b : Frame) → step.Opens a ≡ step.Opens b → a ≡ b
frame_is a b e = cc

whole_small : {room : ℕ} (a b : Expr Span) → Small frames_of_step is_open room (step.Whole a) (step.Whole b) → Small frames_of_expression unseen room a b
whole_small a b s = record { alike = refl; same = λ h. whole_is a b (s.same h); deep = s.deep }

frame_small : {room : ℕ} (a b : Frame) → Small frames_of_step is_open room (step.Opens a) (step.Opens b) → Small frames_of_frame unseen room a b
frame_small a b s = record { alike = refl; same = λ h. frame_is a b (s.same h); deep = s.deep }

closed_small : (room : ℕ) (a b : Frame) (c d : Expr Span) (rest : List Lexeme) → Small frames_of_frame unseen room a b → Small frames_of_expression unseen (pred room) c d
    → Small frames_of_expression unseen room (closed_within room a c rest) (closed b d rest)
closed_small zero a b c d rest s r = small_nowhere refl (let i = frames-closed b d rest in omega arith)
closed_small (suc room) a b c d rest s r = small_two frames_of_expression unseen (λ x y. closed x y rest) (λ x y. frames-closed x y rest) refl s (small_last r)

went_small : (room : ℕ) (f g : List Lexeme → Read (Expr Span)) → ((ts : List Lexeme) → Together frames_of_expression unseen (pred room) (f ts) (g ts)) → (a b : Step) (rest : List Lexeme)
    → Small frames_of_step is_open room a b → Together frames_of_expression unseen room (went_on room f (a, rest)) (go_on g (b, rest))
went_small room f g t (step.Whole a) (step.Whole b) rest s = both a b rest (whole_small a b s)
went_small room f g t (step.Whole a) (step.Opens b) rest s = absurd (let e = s.alike in cc)
went_small room f g t (step.Opens a) (step.Whole b) rest s = absurd (let e = s.alike in cc)
went_small room f g t (step.Opens a) (step.Opens b) rest s = together_bind (f rest) (g rest) _ _ (t rest) (λ c d next r. both _ _ next (closed_small room a b c d next (frame_small a b s) r))

-- ---- the levels
module _ (room : ℕ) (f g : List Lexeme → Read (Expr Span)) (inner : (ts : List Lexeme) → Together frames_of_expression unseen room (f ts) (g ts))
    (u v : List Lexeme → Read (List (Local Span))) (locals : (ts : List Lexeme) → Together (most frames_of_local) unseen room (u ts) (v ts)) where
  pub clauses_small : (ts : List Lexeme) → Together frames_of_clause (λ clause. clause.0) room (clause_within f u ts) (clause_any g v ts)
  clauses_small ts = clause_small room f g inner u v locals any_left_side_at ts

  entry_small : (ts : List Lexeme) → Together frames_of_bound unseen room (local_within f u room ts) (local_any g v ts)
  entry_small ts = local_small room f g inner u v locals any_binding_at (signature_within room) any_type_at (signatures_small room) (clause_within f u) (clause_any g v) clauses_small ts

  block_small : (ts : List Lexeme) → Together (most frames_of_local) unseen room (locals_over_at (local_within f u room) ts) (locals_over_at (local_any g v) ts)
  block_small ts = locals_over_small room (local_within f u room) (local_any g v) entry_small ts

  module _ (s r : List Lexeme → Read (List (Local Span))) (lower : (ts : List Lexeme) → Together (most frames_of_local) unseen room (s ts) (r ts))
      (a b : List Lexeme → Read (Expr Span)) (below : (ts : List Lexeme) → Together frames_of_expression unseen (pred room) (a ts) (b ts)) where
    operands_small : (ts : List Lexeme) → Together frames_of_expression unseen room (operand_within room f u s a ts) (operand_any g r b ts)
    operands_small ts =
        operand_small room f g inner runs (alternatives_within f) (alternatives_at (alternative_at any_pattern_at g)) (alternatives_small room f g inner any_pattern_at)
        (statements_at (statement_within room f s a)) (statements_at (statement_at any_pattern_at g r b))
        (statements_small room (statement_within room f s a) (statement_at any_pattern_at g r b) (statement_small room f g inner s r lower a b below)) ts

    steps_small : (ts : List Lexeme) → Together frames_of_step is_open room (step_within room f u s a ts) (step_at (operand_any g r b) (head_at any_pattern_at g v) ts)
    steps_small ts =
        step_small room (operand_within room f u s a) (operand_any g r b) operands_small (head_at any_pattern_at f u) (head_at any_pattern_at g v) (head_small room f g inner u v locals any_pattern_at) ts

mutual
  unfolding expression_within locals_within expression_beneath locals_beneath expression_any locals_any expression_low locals_low

  pub expressions_small : (n room : ℕ) (ts : List Lexeme) → Together frames_of_expression unseen room (expression_within n room ts) (expression_any n ts)
  expressions_small zero room ts = neither
  expressions_small (suc n) room ts =
      let operand : List Lexeme → Read (Expr Span) = operand_any (expression_any n) (locals_low n) (expression_low n) in
      let head : List Lexeme → Read Head = head_at any_pattern_at (expression_any n) (locals_any n) in
      subst (λ z. Together frames_of_expression unseen room (step_within room (expression_within n room) (locals_within n room) (locals_beneath n room) (expression_beneath n (pred room)) ts >>= λ x. went_on room (expression_within n (pred room)) x) z)
      (sym (expression_is (expression_any n) head operand (closing_at any_pattern_at (expression_any n) (locals_any n)) (closing_is (expression_any n) any_pattern_at (locals_any n)) ts))
      (together_bind (step_within room (expression_within n room) (locals_within n room) (locals_beneath n room) (expression_beneath n (pred room)) ts) (step_at operand head ts) _ _
      (steps_small room (expression_within n room) (expression_any n) (expressions_small n room) (locals_within n room) (locals_any n) (all_locals_small n room)
      (locals_beneath n room) (locals_low n) (lower_small n room) (expression_beneath n (pred room)) (expression_low n) (below_small n (pred room)) ts)
      (λ a b rest s. went_small room (expression_within n (pred room)) (expression_any n) (expressions_small n (pred room)) a b rest s))

  pub all_locals_small : (n room : ℕ) (ts : List Lexeme) → Together (most frames_of_local) unseen room (locals_within n room ts) (locals_any n ts)
  all_locals_small zero room ts = neither
  all_locals_small (suc n) room ts = block_small room (expression_within n room) (expression_any n) (expressions_small n room) (locals_within n room) (locals_any n) (all_locals_small n room) ts

  below_small : (n room : ℕ) (ts : List Lexeme) → Together frames_of_expression unseen room (expression_beneath n room ts) (expression_low n ts)
  below_small zero room ts = neither
  below_small (suc n) room ts = expressions_small n room ts

  lower_small : (n room : ℕ) (ts : List Lexeme) → Together (most frames_of_local) unseen room (locals_beneath n room ts) (locals_low n ts)
  lower_small zero room ts = neither
  lower_small (suc n) room ts = all_locals_small n room ts
