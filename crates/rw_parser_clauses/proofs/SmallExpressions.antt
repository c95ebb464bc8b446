-- Expressions that are cut off where there is no room, part by part.
use Rattle.std.proofs.Common.{◌≡◌, ℕ, zero, suc, max, Bool, true, false, List, [], ◌∷◌, length, map, drop, Some, refl, sym, ap, ◌∙◌, arith}
use Rattle.rw_base.specs.declared.place.Span.{Span}
use Rattle.rw_tree.specs.declared.pattern.Pat.{Pat}
use Rattle.rw_tree.specs.declared.expr.Expr.{Expr}
use Rattle.rw_tree.specs.declared.expr.Expr.TheVariants as e
use Rattle.rw_tree.specs.declared.clause.Alt.{Alt}
use Rattle.rw_tree.specs.declared.clause.Local.{Local}
use Rattle.rw_tree.specs.declared.clause.Stmt.{Stmt}
use Rattle.rw_parser_grammar.specs.declared.lexeme.Mark.TheVariants as m
use Rattle.rw_parser_grammar.specs.declared.lexeme.Spot.{Spot}
use Rattle.rw_parser_grammar.specs.declared.lexeme.Lexeme.{Lexeme}
use Rattle.rw_parser_grammar.specs.declared.lexeme.Lexeme.TheVariants as t
use Rattle.rw_parser_grammar.specs.Lexemes.{span_at, span_of}
use Rattle.rw_parser_grammar.specs.Types.{few}
use Rattle.rw_parser_grammar.specs.Expressions.{grouped_expression, applied_expression, chained}
use Rattle.rw_parser_reading.specs.Frames.{most, frames_of_expression, frames_of_row, frames_of_local, frames_of_statement}
use Rattle.rw_parser_reading.specs.Read.{Read, same_mark, sees, after, separated_at, begins_operator}
use Rattle.rw_parser_reading.specs.ReadNames.{begins_op, op_at}
use Rattle.rw_parser_reading.specs.ReadExpressions.{begins_aexp, operator_group_at, some_expressions_at, group_at, aexp_at, aexps_at, application_at, case_at, do_at, operand_at, begins_last}
use Rattle.rw_parser_reading.proofs.FramesOf.{frames-Case, frames-Do, frames-grouped, frames-applied, frames-chained}
use Rattle.rw_parser_parts.specs.declared.frame.Head.{Head}
use Rattle.rw_parser_parts.specs.declared.frame.Head.TheVariants as h
use Rattle.rw_parser_parts.specs.declared.frame.Chain.{Chain}
use Rattle.rw_parser_parts.specs.declared.frame.Step.{Step}
use Rattle.rw_parser_parts.specs.declared.frame.Step.TheVariants as step
use Rattle.rw_parser_parts.specs.Steps.{longer, links_at, lambda_head_at, let_head_at, if_head_at, head_at, framed, ended_at, step_at}
use Rattle.rw_parser_clauses.proofs.Small.{unseen, Small, small_one, small_two, Together, neither, both, together_self, together_bind, same_bind, together_if, together_when, separated_together, many_together}
use Rattle.rw_parser_clauses.proofs.Counts.{frames_of_head, frames_of_chain, frames_of_step}

-- lists that are alike have one length
map_length : {A X : Type 0} (look : A → X) (xs : List A) → length (map look xs) ≡ length xs
map_length look [] = refl
map_length look (a ∷ xs) = ap suc (map_length look xs)

few_alike : {A X : Type 0} (look : A → X) (xs ys : List A) → map look xs ≡ map look ys → few xs ≡ few ys
few_alike look xs ys e =
    let same : length xs ≡ length ys = sym (map_length look xs) ∙ ap length e ∙ map_length look ys in
    rw same

module _ (room : ℕ) (f g : List Lexeme → Read (Expr Span)) (inner : (ts : List Lexeme) → Together frames_of_expression unseen room (f ts) (g ts)) where
  operator_group_small : (ts : List Lexeme) → Together frames_of_expression unseen room (operator_group_at f ts) (operator_group_at g ts)
  unfolding operator_group_at
  operator_group_small ts = together_self (operator_group_at f ts)

  some_expressions_small : (v : Spot) (ts : List Lexeme) → Together frames_of_expression unseen room (some_expressions_at f v ts) (some_expressions_at g v ts)
  unfolding some_expressions_at
  some_expressions_small v ts =
      together_bind (separated_at m.Comma f (length ts) ts) (separated_at m.Comma g (length ts) ts) _ _ (separated_together frames_of_expression unseen room f g inner m.Comma (length ts) ts)
      (λ xs ys rest s. same_bind (after m.Closes rest) _ _
      (λ r. together_when (few xs) (few ys) _ _ _ _ (few_alike unseen xs ys s.alike)
      (both _ _ r (small_one frames_of_expression unseen (grouped_expression (span_at v r)) (frames-grouped (span_at v r)) refl s)) neither))

  group_small : (v : Spot) (ts : List Lexeme) → Together frames_of_expression unseen room (group_at f v ts) (group_at g v ts)
  unfolding group_at
  group_small v ts =
      together_if (sees m.Closes ts) _ _ _ _ (together_self (Some (e.Tuple (span_at v (drop 1 ts)) [], drop 1 ts)))
      (together_if (begins_operator ts) _ _ _ _ (operator_group_small ts) (some_expressions_small v ts))

  aexp_small : (ts : List Lexeme) → Together frames_of_expression unseen room (aexp_at f ts) (aexp_at g ts)
  aexp_small [] = neither
  aexp_small (t.Mark w a ∷ ts) = together_if (same_mark a m.Opens) _ _ _ _ (group_small w ts) neither
  aexp_small (t.Variable w name ∷ ts) = together_self (Some (e.Var (span_at w ts) name, ts))
  aexp_small (t.Constructor w name ∷ ts) = together_self (Some (e.Con (span_at w ts) name, ts))
  aexp_small (t.Operator w name ∷ ts) = neither
  aexp_small (t.Number w digits ∷ ts) = neither

  aexps_small : (ts : List Lexeme) → Together (most frames_of_expression) (map unseen) room (aexps_at f ts) (aexps_at g ts)
  unfolding aexps_at
  aexps_small ts = many_together frames_of_expression unseen room (aexp_at f) (aexp_at g) aexp_small begins_aexp (length ts) ts

  application_small : (ts : List Lexeme) → Together frames_of_expression unseen room (application_at f ts) (application_at g ts)
  unfolding application_at
  application_small ts =
      together_bind (aexp_at f ts) (aexp_at g ts) _ _ (aexp_small ts)
      (λ a b mid s. together_bind (aexps_at f mid) (aexps_at g mid) _ _ (aexps_small mid)
      (λ xs ys rest r. both _ _ rest (small_two frames_of_expression unseen (applied_expression (span_of ts rest)) (frames-applied (span_of ts rest)) refl s r)))

  module _ {X : Type 0} (look : Stmt Span → X) (a b : List Lexeme → Read (List (Alt Span))) (rows : (ts : List Lexeme) → Together (most frames_of_row) (map unseen) room (a ts) (b ts))
      (u v : List Lexeme → Read (List (Stmt Span))) (statements : (ts : List Lexeme) → Together (most frames_of_statement) (map look) room (u ts) (v ts)) where
    case_small : (ts : List Lexeme) → Together frames_of_expression unseen room (case_at f a u ts) (case_at g b v ts)
    unfolding case_at
    case_small ts =
        together_bind (f (drop 1 ts)) (g (drop 1 ts)) _ _ (inner (drop 1 ts))
        (λ x z mid s. same_bind (after m.Of mid) _ _
        (λ r. together_bind (a r) (b r) _ _ (rows r) (λ xs ys rest q. both _ _ rest (small_two frames_of_expression unseen (e.Case (span_of ts rest)) (frames-Case (span_of ts rest)) refl s q))))

    do_small : (ts : List Lexeme) → Together frames_of_expression unseen room (do_at f a u ts) (do_at g b v ts)
    unfolding do_at
    do_small ts =
        together_bind (u (drop 1 ts)) (v (drop 1 ts)) _ _ (statements (drop 1 ts))
        (λ xs ys rest s. both _ _ rest (small_one frames_of_expression unseen (e.Do (span_of ts rest)) (frames-Do (span_of ts rest)) refl s))

    pub operand_small : (ts : List Lexeme) → Together frames_of_expression unseen room (operand_at f a u ts) (operand_at g b v ts)
    unfolding operand_at
    operand_small ts = together_if (sees m.Case ts) _ _ _ _ (case_small ts) (together_if (sees m.Do ts) _ _ _ _ (do_small ts) (application_small ts))

  -- ---- heads
  if_head_small : (ts : List Lexeme) → Together frames_of_head unseen room (if_head_at f ts) (if_head_at g ts)
  unfolding if_head_at
  if_head_small ts =
      together_bind (f ts) (g ts) _ _ (inner ts)
      (λ a b mid s. same_bind (after m.Then mid) _ _
      (λ r. together_bind (f r) (g r) _ _ (inner r)
      (λ c d next q. same_bind (after m.Else next) _ _ (λ rest. both (h.If a c) (h.If b d) rest (small_two frames_of_head unseen h.If (λ x z. refl) refl s q)))))

  module _ (u v : List Lexeme → Read (List (Local Span))) (locals : (ts : List Lexeme) → Together (most frames_of_local) unseen room (u ts) (v ts)) where
    let_head_small : (ts : List Lexeme) → Together frames_of_head unseen room (let_head_at u ts) (let_head_at v ts)
    unfolding let_head_at
    let_head_small ts =
        together_bind (u ts) (v ts) _ _ (locals ts) (λ xs ys mid s. same_bind (after m.In mid) _ _ (λ rest. both (h.Let xs) (h.Let ys) rest (small_one frames_of_head unseen h.Let (λ x. refl) refl s)))

    pub head_small : (pattern : List Lexeme → Read (Pat Span)) (ts : List Lexeme) → Together frames_of_head unseen room (head_at pattern f u ts) (head_at pattern g v ts)
    unfolding head_at
    head_small pattern ts =
        together_if (sees m.Backslash ts) _ _ _ _ (together_self (lambda_head_at pattern (drop 1 ts)))
        (together_if (sees m.Let ts) _ _ _ _ (let_head_small (drop 1 ts)) (if_head_small (drop 1 ts)))

-- ---- steps
most_alone : (n : ℕ) → max n 0 ≡ n
most_alone n = omega arith

-- the last part follows
abbrev pub is_open : Step → Bool
is_open (step.Whole tree) = false
is_open (step.Opens frame) = true

module _ (room : ℕ) (f g : List Lexeme → Read (Expr Span)) (operands : (ts : List Lexeme) → Together frames_of_expression unseen room (f ts) (g ts)) where
  links_small : (n : ℕ) (ts : List Lexeme) → Together frames_of_chain (λ chain. chain.is_open) room (links_at f n ts) (links_at g n ts)
  unfolding links_at
  links_small zero ts = neither
  links_small (suc n) ts =
      together_if (begins_last ts) _ _ _ _ (together_self (Some (record { operands = []; operators = []; is_open = true }, ts)))
      (together_bind (f ts) (g ts) _ _ (operands ts)
      (λ a b mid s. together_if (begins_op mid) _ _ _ _
      (same_bind (op_at mid) _ _
      (λ o. together_bind (links_at f n o.1) (links_at g n o.1) _ _ (links_small n o.1)
      (λ c d rest q. both (longer a o.0 c) (longer b o.0 d) rest (small_two frames_of_chain (λ chain. chain.is_open) (λ x z. longer x o.0 z) (λ x z. refl) q.alike s q))))
      (both _ _ mid (small_one frames_of_chain (λ chain. chain.is_open) (λ x. record { operands = x ∷ []; operators = []; is_open = false }) (λ x. most_alone (frames_of_expression x)) refl s))))

  module _ (u v : List Lexeme → Read Head) (heads : (ts : List Lexeme) → Together frames_of_head unseen room (u ts) (v ts)) where
    ended_small : (ts : List Lexeme) (a b : Chain) (mid : List Lexeme) → Small frames_of_chain (λ chain. chain.is_open) room a b
        → Together frames_of_step is_open room (ended_at f u ts (a, mid)) (ended_at g v ts (b, mid))
    ended_small ts a b mid s =
        together_when a.is_open b.is_open _ _ _ _ s.alike
        (together_bind (u mid) (v mid) _ _ (heads mid)
        (λ c d rest q. both _ _ rest (small_two frames_of_step is_open (λ x z. step.Opens (framed ts x mid z)) (λ x z. refl) refl s q)))
        (both _ _ mid (small_one frames_of_step is_open (λ x. step.Whole (chained (span_of ts mid) x.operands x.operators)) (λ x. frames-chained (span_of ts mid) x.operands x.operators) refl s))

    pub step_small : (ts : List Lexeme) → Together frames_of_step is_open room (step_at f u ts) (step_at g v ts)
    unfolding step_at
    step_small ts = together_bind (links_at f (length ts) ts) (links_at g (length ts) ts) _ _ (links_small (length ts) ts) (λ a b mid s. ended_small ts a b mid s)
