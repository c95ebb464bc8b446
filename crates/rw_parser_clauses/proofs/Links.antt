-- One turn of the loop over the operands and operators of a chain.
use Rattle.std.proofs.Common.{◌≡◌, ℕ, suc, ◌+◌, true, false, List, [], ◌∷◌, ◌++◌, Some, None, refl, sym, ◌∙◌, ap, append_assoc, append-nil, add-one}
use Rattle.rw_base.specs.declared.place.Span.{Span}
use Rattle.rw_tree.specs.declared.expr.Expr.{Expr}
use Rattle.rw_parser_grammar.specs.declared.lexeme.Lexeme.{Lexeme}
use Rattle.rw_parser_reading.specs.Read.{◌>>=◌, Read}
use Rattle.rw_parser_reading.specs.ReadNames.{begins_op, op_at}
use Rattle.rw_parser_reading.specs.ReadExpressions.{begins_last}
use Rattle.rw_parser_parts.specs.declared.frame.Chain.{Chain}
use Rattle.rw_parser_parts.specs.Steps.{longer, links_at}

-- a chain behind operands and operators
abbrev pub behind : List (Expr Span) → List (Expr Span) → Chain → Chain
behind operands operators chain = record { operands = operands ++ chain.operands; operators = operators ++ chain.operators; is_open = chain.is_open }

-- what is read from here on, behind what was read before
abbrev pub with_links : List (Expr Span) → List (Expr Span) → Read Chain → Read Chain
with_links operands operators None = None
with_links operands operators (Some p) = Some (behind operands operators p.0, p.1)

pub links_all : (r : Read Chain) → with_links [] [] r ≡ r
links_all None = refl
links_all (Some p) = refl

behind_again : (operands operators : List (Expr Span)) (a o : Expr Span) (chain : Chain) → behind (operands ++ a ∷ []) (operators ++ o ∷ []) chain ≡ behind operands operators (longer a o chain)
behind_again operands operators a o chain =
    ap (λ z. record { operands = z; operators = (operators ++ o ∷ []) ++ chain.operators; is_open = chain.is_open }) (append_assoc operands (a ∷ []) chain.operands)
    ∙ ap (λ z. record { operands = operands ++ a ∷ chain.operands; operators = z; is_open = chain.is_open }) (append_assoc operators (o ∷ []) chain.operators)

again : (operands operators : List (Expr Span)) (a o : Expr Span) (r : Read Chain) → with_links (operands ++ a ∷ []) (operators ++ o ∷ []) r ≡ with_links operands operators (r >>= λ q. Some (longer a o q.0, q.1))
again operands operators a o None = refl
again operands operators a o (Some q) = ap (λ z. Some (z, q.1)) (behind_again operands operators a o q.0)

module _ (operand : List Lexeme → Read (Expr Span)) (operands operators : List (Expr Span)) where
  pub links_none : (n : ℕ) (ts : List Lexeme) → n ≡ 0 → with_links operands operators (links_at operand n ts) ≡ None
  unfolding links_at
  links_none n ts e = rw e

  pub links_open : (n m : ℕ) (ts : List Lexeme) → n ≡ m + 1 → begins_last ts ≡ true
      → with_links operands operators (links_at operand n ts) ≡ Some (record { operands = operands; operators = operators; is_open = true }, ts)
  unfolding links_at
  links_open n m ts e h = rw (e, add-one m, h, append-nil operands, append-nil operators)

  pub links_fail : (n m : ℕ) (ts : List Lexeme) → n ≡ m + 1 → begins_last ts ≡ false → operand ts ≡ None → with_links operands operators (links_at operand n ts) ≡ None
  unfolding links_at
  links_fail n m ts e h k = rw (e, add-one m, h, k)

  pub links_whole : (n m : ℕ) (ts : List Lexeme) (a : Expr Span) (rest : List Lexeme) → n ≡ m + 1 → begins_last ts ≡ false → operand ts ≡ Some (a, rest) → begins_op rest ≡ false
      → with_links operands operators (links_at operand n ts) ≡ Some (record { operands = operands ++ a ∷ []; operators = operators; is_open = false }, rest)
  unfolding links_at
  links_whole n m ts a rest e h k i = rw (e, add-one m, h, k, i, append-nil operators)

  pub links_stuck : (n m : ℕ) (ts : List Lexeme) (a : Expr Span) (rest : List Lexeme) → n ≡ m + 1 → begins_last ts ≡ false → operand ts ≡ Some (a, rest) → begins_op rest ≡ true → op_at rest ≡ None
      → with_links operands operators (links_at operand n ts) ≡ None
  unfolding links_at
  links_stuck n m ts a rest e h k i j = rw (e, add-one m, h, k, i, j)

  go : (m : ℕ) (ts : List Lexeme) (a : Expr Span) (rest : List Lexeme) (o : Expr Span) (next : List Lexeme) → begins_last ts ≡ false → operand ts ≡ Some (a, rest) → begins_op rest ≡ true → op_at rest ≡ Some (o, next)
      → links_at operand (suc m) ts ≡ (links_at operand m next >>= λ q. Some (longer a o q.0, q.1))
  unfolding links_at
  go m ts a rest o next h k i j = rw (h, k, i, j)

  pub links_step : (n m : ℕ) (ts : List Lexeme) (a : Expr Span) (rest : List Lexeme) (o : Expr Span) (next : List Lexeme) → n ≡ m + 1 → begins_last ts ≡ false → operand ts ≡ Some (a, rest) → begins_op rest ≡ true → op_at rest ≡ Some (o, next)
      → with_links (operands ++ a ∷ []) (operators ++ o ∷ []) (links_at operand m next) ≡ with_links operands operators (links_at operand n ts)
  links_step n m ts a rest o next e h k i j =
      again operands operators a o (links_at operand m next) ∙ sym (ap (with_links operands operators) (ap (λ x. links_at operand x ts) (e ∙ add-one m) ∙ go m ts a rest o next h k i j))
