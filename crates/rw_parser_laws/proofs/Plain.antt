-- What stands before what: patterns are made of plain tokens, and before a `<-` no expression ends.
use Rattle.std.proofs.Common.{◌≡◌, ℕ, zero, suc, Bool, true, false, ◌||◌, List, [], ◌∷◌, refl, sym, ap, subst, ◌∙◌, ◌⊎◌, inl, inr}
use Rattle.rw_base.specs.declared.place.Span.{Span}
use Rattle.rw_tree.specs.declared.pattern.Pat.{Pat}
use Rattle.rw_tree.specs.declared.expr.Expr.{Expr}
use Rattle.rw_tree.specs.declared.clause.Alt.{Alt}
use Rattle.rw_tree.specs.declared.clause.Local.{Local}
use Rattle.rw_tree.specs.declared.clause.Stmt.{Stmt}
use Rattle.rw_parser_grammar.specs.declared.lexeme.Mark.TheVariants as m
use Rattle.rw_parser_grammar.specs.declared.lexeme.Spot.{Spot}
use Rattle.rw_parser_grammar.specs.declared.lexeme.Lexeme.{Lexeme}
use Rattle.rw_parser_grammar.specs.declared.lexeme.Lexeme.TheVariants as t
use Rattle.rw_parser_grammar.specs.Lists.{IsSeparated, the_last, and_more, IsMany, no_more, one_more}
use Rattle.rw_parser_grammar.specs.Patterns.{IsApat, a_variable_pattern, a_wildcard, a_constant_pattern, a_unit_pattern, a_pattern_group, IsPatternOver, an_apat, a_constructor_pattern, IsPattern}
use Rattle.rw_parser_grammar.specs.Expressions.{IsAexp, a_variable, an_operator_variable, a_constructor, a_unit, a_group, IsOp, a_symbol, a_quoted_variable, a_quoted_constructor}
use Rattle.rw_parser_grammar.specs.Expressions.{IsOperand, an_application, a_case, a_do, IsLast, an_operand, a_lambda, a_let, an_if, IsChain, no_operator, an_operator, IsExpressionOver, an_expression}
use Rattle.rw_parser_reading.specs.Read.{same_mark, sees, begins_operator}
use Rattle.rw_parser_reading.specs.ReadTypes.{begins_apat}
use Rattle.rw_parser_reading.specs.ReadNames.{beyond}
use Rattle.rw_parser_reading.specs.ReadClauses.{opens_operator, begins_bind}
use Rattle.rw_parser_reading.proofs.ReadExact.{is_same}
use Rattle.rw_parser_laws.proofs.ReadExpressions.{Begins}

either : (a b : Bool) → (a || b) ≡ true → (a ≡ true) ⊎ (b ≡ true)
either true b h = inl refl
either false b h = inr h

-- what begins a pattern begins no block's end, no operator and no closing parenthesis
pub apat_is : (ts : List Lexeme) → begins_apat ts ≡ true → Begins ts
unfolding same_mark
apat_is [] h = absurd (cc)
apat_is (t.Mark w a ∷ ts) h =
    elim (either (same_mark a m.Opens) (same_mark a m.Underscore) h) [
      | inl k ↦ subst (λ z. Begins (t.Mark w z ∷ ts)) (sym (is_same a m.Opens k)) (record { no_close = refl; no_operator = refl; no_block_end = refl; no_semicolon = refl })
      | inr k ↦ subst (λ z. Begins (t.Mark w z ∷ ts)) (sym (is_same a m.Underscore k)) (record { no_close = refl; no_operator = refl; no_block_end = refl; no_semicolon = refl })
    ]
apat_is (t.Variable w name ∷ ts) h = record { no_close = refl; no_operator = refl; no_block_end = refl; no_semicolon = refl }
apat_is (t.Constructor w name ∷ ts) h = record { no_close = refl; no_operator = refl; no_block_end = refl; no_semicolon = refl }
apat_is (t.Operator w name ∷ ts) h = absurd (cc)
apat_is (t.Number w digits ∷ ts) h = absurd (cc)

-- ---- tokens that patterns are made of
pub beyond_opens : (w : Spot) (ts : List Lexeme) → beyond (t.Mark w m.Opens ∷ ts) ≡ beyond ts
unfolding same_mark
beyond_opens w ts = refl

pub beyond_closes : (w : Spot) (ts : List Lexeme) → beyond (t.Mark w m.Closes ∷ ts) ≡ beyond ts
unfolding same_mark
beyond_closes w ts = refl

pub beyond_comma : (w : Spot) (ts : List Lexeme) → beyond (t.Mark w m.Comma ∷ ts) ≡ beyond ts
unfolding same_mark
beyond_comma w ts = refl

pub beyond_wildcard : (w : Spot) (ts : List Lexeme) → beyond (t.Mark w m.Underscore ∷ ts) ≡ beyond ts
unfolding same_mark
beyond_wildcard w ts = refl

-- what is true of a pattern's tokens
pub record IsPlainly (ts rest : List Lexeme) : Type 0 where
  pub same : beyond ts ≡ beyond rest
  pub begins : begins_apat ts ≡ true
  pub bare : opens_operator ts ≡ false

module _ (Inner : List Lexeme → Pat Span → List Lexeme → Type 0) (plain : (ts : List Lexeme) (pat : Pat Span) (rest : List Lexeme) → Inner ts pat rest → IsPlainly ts rest) where
  pub separated_beyond : {ts : List Lexeme} {pats : List (Pat Span)} {rest : List Lexeme} → IsSeparated m.Comma Inner ts pats rest → beyond ts ≡ beyond rest
  separated_beyond (the_last ts rest a d) = (plain ts a rest d).same
  separated_beyond (and_more ts mid rest w a others d ds) = (plain ts a _ d).same ∙ beyond_comma w mid ∙ separated_beyond ds

  pub separated_begins : {ts : List Lexeme} {pats : List (Pat Span)} {rest : List Lexeme} → IsSeparated m.Comma Inner ts pats rest → begins_operator ts ≡ false
  separated_begins (the_last ts rest a d) = (apat_is ts (plain ts a rest d).begins).no_operator
  separated_begins (and_more ts mid rest w a others d ds) = (apat_is ts (plain ts a _ d).begins).no_operator

  opens_bare : (w : Spot) (ts : List Lexeme) → begins_operator ts ≡ false → opens_operator (t.Mark w m.Opens ∷ ts) ≡ false
  unfolding same_mark
  opens_bare w ts h = h

  pub apat_plain : (ts : List Lexeme) (pat : Pat Span) (rest : List Lexeme) → IsApat Inner ts pat rest → IsPlainly ts rest
  unfolding same_mark
  apat_plain _ _ _ (a_variable_pattern w name rest) = record { same = refl; begins = refl; bare = refl }
  apat_plain _ _ _ (a_wildcard w rest) = record { same = refl; begins = refl; bare = refl }
  apat_plain _ _ _ (a_constant_pattern w name rest) = record { same = refl; begins = refl; bare = refl }
  apat_plain _ _ _ (a_unit_pattern v w rest) = record { same = refl; begins = refl; bare = refl }
  apat_plain _ _ _ (a_pattern_group v w ts rest parts d f) = record { same = beyond_opens v ts ∙ separated_beyond d ∙ beyond_closes w rest; begins = refl; bare = opens_bare v ts (separated_begins d) }

  pub apats_beyond : {ts : List Lexeme} {pats : List (Pat Span)} {rest : List Lexeme} → IsMany (IsApat Inner) ts pats rest → beyond ts ≡ beyond rest
  apats_beyond (no_more ts) = refl
  apats_beyond (one_more ts mid rest a others d ds) = (apat_plain ts a mid d).same ∙ apats_beyond ds

  pub over_plain : (ts : List Lexeme) (pat : Pat Span) (rest : List Lexeme) → IsPatternOver Inner ts pat rest → IsPlainly ts rest
  over_plain _ _ _ (an_apat ts rest pat d) = apat_plain ts pat rest d
  over_plain _ _ _ (a_constructor_pattern w name ts rest part parts ds) = record { same = apats_beyond ds; begins = refl; bare = refl }

pub pattern_plain : (n : ℕ) (ts : List Lexeme) (pat : Pat Span) (rest : List Lexeme) → IsPattern n ts pat rest → IsPlainly ts rest
pattern_plain zero ts pat rest d = absurd d
pattern_plain (suc n) ts pat rest d = over_plain (IsPattern n) (pattern_plain n) ts pat rest d

-- ---- expressions: all their tokens are plain, or one that is not plain comes before any `<-`
abbrev pub Passes : List Lexeme → List Lexeme → Type 0
Passes ts rest = (begins_bind ts ≡ false) ⊎ (beyond ts ≡ beyond rest)

pub passes_on : (ts mid rest : List Lexeme) → Passes ts mid → Passes mid rest → Passes ts rest
passes_on ts mid rest (inl h) q = inl h
passes_on ts mid rest (inr h) (inl k) = inl (ap (sees m.FromArrow) h ∙ k)
passes_on ts mid rest (inr h) (inr k) = inr (h ∙ k)

op_passes : (ts : List Lexeme) (o : Expr Span) (rest : List Lexeme) → IsOp ts o rest → begins_bind ts ≡ false
unfolding same_mark
op_passes _ _ _ (a_symbol w name rest) = refl
op_passes _ _ _ (a_quoted_variable u v w name rest) = refl
op_passes _ _ _ (a_quoted_constructor u v w name rest) = refl

module _ (Inner : List Lexeme → Expr Span → List Lexeme → Type 0) (passes : (ts : List Lexeme) (a : Expr Span) (rest : List Lexeme) → Inner ts a rest → Passes ts rest) where
  separated_passes : {ts : List Lexeme} {parts : List (Expr Span)} {rest : List Lexeme} → IsSeparated m.Comma Inner ts parts rest → Passes ts rest
  separated_passes (the_last ts rest a d) = passes ts a rest d
  separated_passes (and_more ts mid rest w a others d ds) = passes_on ts (t.Mark w m.Comma ∷ mid) rest (passes ts a _ d) (passes_on (t.Mark w m.Comma ∷ mid) mid rest (inr (beyond_comma w mid)) (separated_passes ds))

  aexp_passes : (ts : List Lexeme) (a : Expr Span) (rest : List Lexeme) → IsAexp Inner ts a rest → Passes ts rest
  unfolding same_mark
  aexp_passes _ _ _ (a_variable w name rest) = inr refl
  aexp_passes _ _ _ (an_operator_variable u v w name rest) = inl refl
  aexp_passes _ _ _ (a_constructor w name rest) = inr refl
  aexp_passes _ _ _ (a_unit v w rest) = inr refl
  aexp_passes _ _ _ (a_group v w ts rest parts d f) =
      passes_on (t.Mark v m.Opens ∷ ts) ts rest (inr (beyond_opens v ts)) (passes_on ts (t.Mark w m.Closes ∷ rest) rest (separated_passes d) (inr (beyond_closes w rest)))

  aexps_passes : {ts : List Lexeme} {parts : List (Expr Span)} {rest : List Lexeme} → IsMany (IsAexp Inner) ts parts rest → Passes ts rest
  aexps_passes (no_more ts) = inr refl
  aexps_passes (one_more ts mid rest a others d ds) = passes_on ts mid rest (aexp_passes ts a mid d) (aexps_passes ds)

  module _ (Alternatives : List Lexeme → List (Alt Span) → List Lexeme → Type 0) (Statements : List Lexeme → List (Stmt Span) → List Lexeme → Type 0) where
    pub operand_passes : (ts : List Lexeme) (a : Expr Span) (rest : List Lexeme) → IsOperand Inner Alternatives Statements ts a rest → Passes ts rest
    unfolding same_mark
    operand_passes _ _ _ (an_application ts mid rest head parts d ds) = passes_on ts mid rest (aexp_passes ts head mid d) (aexps_passes ds)
    operand_passes _ _ _ (a_case v w ts mid rest a alts d ds) = inl refl
    operand_passes _ _ _ (a_do v ts rest all d) = inl refl

module _ (Pattern : List Lexeme → Pat Span → List Lexeme → Type 0) (Inner : List Lexeme → Expr Span → List Lexeme → Type 0) (Locals : List Lexeme → List (Local Span) → List Lexeme → Type 0)
    (Operand : List Lexeme → Expr Span → List Lexeme → Type 0) (passes : (ts : List Lexeme) (a : Expr Span) (rest : List Lexeme) → Operand ts a rest → Passes ts rest) where
  last_passes : (ts rest : List Lexeme) (a : Expr Span) → IsLast Pattern Inner Locals Operand ts a rest → Passes ts rest
  unfolding same_mark
  last_passes _ _ _ (an_operand ts rest a d) = passes ts a rest d
  last_passes _ _ _ (a_lambda v w ts mid rest pat pats body ds d) = inl refl
  last_passes _ _ _ (a_let v w ts mid rest all body ds d) = inl refl
  last_passes _ _ _ (an_if u v w ts first second rest test one other a b d) = inl refl

  chain_passes : {ts : List Lexeme} {p : List (Expr Span) × List (Expr Span)} {rest : List Lexeme} → IsChain Operand (IsLast Pattern Inner Locals Operand) ts p rest → Passes ts rest
  chain_passes (no_operator ts rest a d) = last_passes ts rest a d
  chain_passes (an_operator ts mid next rest a o others ops d k ds) = passes_on ts mid rest (passes ts a mid d) (inl (op_passes mid o next k))

  pub over_passes : (ts : List Lexeme) (a : Expr Span) (rest : List Lexeme) → IsExpressionOver Operand (IsLast Pattern Inner Locals Operand) ts a rest → Passes ts rest
  over_passes _ _ _ (an_expression ts rest others ops d) = chain_passes d
