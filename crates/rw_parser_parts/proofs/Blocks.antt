-- One turn of the loop over the entries of a block.
use Rattle.std.proofs.Common.{◌≡◌, ℕ, suc, ◌+◌, true, false, List, [], ◌∷◌, ◌++◌, drop, Some, None, refl, sym, ◌∙◌, ap, append-nil, add-one, length}
use Rattle.rw_base.specs.declared.place.Span.{Span}
use Rattle.rw_tree.specs.declared.expr.Expr.{Expr}
use Rattle.rw_parser_grammar.specs.declared.lexeme.Mark.{Mark}
use Rattle.rw_parser_grammar.specs.declared.lexeme.Mark.TheVariants as m
use Rattle.rw_parser_grammar.specs.declared.lexeme.Lexeme.{Lexeme}
use Rattle.rw_parser_reading.specs.Read.{◌>>=◌, Read, sees, after, many_at, entries_at, block_at}
use Rattle.rw_parser_reading.specs.ReadExpressions.{begins_aexp, aexp_at, aexps_at}
use Rattle.rw_parser_reading.specs.ReadClauses.{guard_at, guards_at}
use Rattle.rw_parser_patterns.proofs.Turns.{with_front, front_again}

module _ {A : Type 0} (one : List Lexeme → Read A) where
  pub entries_none : (n : ℕ) (ts : List Lexeme) (front : List A) → n ≡ 0 → with_front front (entries_at one n ts) ≡ None
  unfolding entries_at
  entries_none n ts front e = rw e

  pub entries_end : (n k : ℕ) (ts : List Lexeme) (front : List A) → n ≡ k + 1 → sees m.ClosesBlock ts ≡ true → with_front front (entries_at one n ts) ≡ Some (front, drop 1 ts)
  unfolding entries_at
  entries_end n k ts front e h = rw (e, add-one k, h, append-nil)

  pub entries_skip : (n k : ℕ) (ts : List Lexeme) (front : List A) → n ≡ k + 1 → sees m.ClosesBlock ts ≡ false → sees m.Semicolon ts ≡ true
      → with_front front (entries_at one k (drop 1 ts)) ≡ with_front front (entries_at one n ts)
  unfolding entries_at
  entries_skip n k ts front e h s = rw (e, add-one k, h, s)

  pub entries_fail : (n k : ℕ) (ts : List Lexeme) (front : List A) → n ≡ k + 1 → sees m.ClosesBlock ts ≡ false → sees m.Semicolon ts ≡ false → one ts ≡ None
      → with_front front (entries_at one n ts) ≡ None
  unfolding entries_at
  entries_fail n k ts front e h s o = rw (e, add-one k, h, s, o)

  pub entries_last : (n k : ℕ) (ts : List Lexeme) (front : List A) (a : A) (rest : List Lexeme) → n ≡ k + 1 → sees m.ClosesBlock ts ≡ false → sees m.Semicolon ts ≡ false → one ts ≡ Some (a, rest)
      → sees m.ClosesBlock rest ≡ true → with_front front (entries_at one n ts) ≡ Some (front ++ a ∷ [], drop 1 rest)
  unfolding entries_at
  entries_last n k ts front a rest e h s o c = rw (e, add-one k, h, s, o, c)

  pub entries_stuck : (n k : ℕ) (ts : List Lexeme) (front : List A) (a : A) (rest : List Lexeme) → n ≡ k + 1 → sees m.ClosesBlock ts ≡ false → sees m.Semicolon ts ≡ false → one ts ≡ Some (a, rest)
      → sees m.ClosesBlock rest ≡ false → after m.Semicolon rest ≡ None → with_front front (entries_at one n ts) ≡ None
  unfolding entries_at
  entries_stuck n k ts front a rest e h s o c w = rw (e, add-one k, h, s, o, c, w)

  entries_go : (k : ℕ) (ts : List Lexeme) (a : A) (rest next : List Lexeme) → sees m.ClosesBlock ts ≡ false → sees m.Semicolon ts ≡ false → one ts ≡ Some (a, rest)
      → sees m.ClosesBlock rest ≡ false → after m.Semicolon rest ≡ Some next → entries_at one (suc k) ts ≡ (entries_at one k next >>= λ q. Some (a ∷ q.0, q.1))
  unfolding entries_at
  entries_go k ts a rest next h s o c w = rw (h, s, o, c, w)

  pub entries_step : (n k : ℕ) (ts : List Lexeme) (front : List A) (a : A) (rest next : List Lexeme) → n ≡ k + 1 → sees m.ClosesBlock ts ≡ false → sees m.Semicolon ts ≡ false → one ts ≡ Some (a, rest)
      → sees m.ClosesBlock rest ≡ false → after m.Semicolon rest ≡ Some next → with_front (front ++ a ∷ []) (entries_at one k next) ≡ with_front front (entries_at one n ts)
  entries_step n k ts front a rest next e h s o c w =
      front_again front a (entries_at one k next) ∙ sym (ap (with_front front) (ap (λ x. entries_at one x ts) (e ∙ add-one k) ∙ entries_go k ts a rest next h s o c w))

  pub block_open : (ts r : List Lexeme) → after m.OpensBlock ts ≡ Some r → block_at one ts ≡ entries_at one (length r) r
  unfolding block_at
  block_open ts r h = rw h

  pub block_none : (ts : List Lexeme) → after m.OpensBlock ts ≡ None → block_at one ts ≡ None
  unfolding block_at
  block_none ts h = rw h

-- as many turns as there are tokens
pub aexps_turns : (inner : List Lexeme → Read (Expr Span)) (ts : List Lexeme) → aexps_at inner ts ≡ many_at begins_aexp (aexp_at inner) (length ts) ts
unfolding aexps_at
aexps_turns inner ts = refl

pub guards_turns : (arrow : Mark) (inner : List Lexeme → Read (Expr Span)) (ts : List Lexeme) → guards_at arrow inner ts ≡ many_at (sees m.Bar) (guard_at arrow inner) (length ts) ts
unfolding guards_at
guards_turns arrow inner ts = refl
