-- Reading with a level for each token reads all that more levels would.
use Rattle.std.proofs.Common.{◌≡◌, ℕ, zero, suc, ◌-◌, ◌≤◌, List, [], ◌∷◌, length, drop, refl, arith}
use Rattle.rw_base.specs.declared.place.Span.{Span}
use Rattle.rw_tree.specs.declared.types.Written.{Written}
use Rattle.rw_tree.specs.declared.expr.Expr.{Expr}
use Rattle.rw_tree.specs.declared.clause.Alt.{Alt}
use Rattle.rw_tree.specs.declared.clause.Local.{Local}
use Rattle.rw_parser_grammar.specs.declared.lexeme.Lexeme.{Lexeme}
use Rattle.rw_parser_grammar.specs.declared.lexeme.Mark.TheVariants as m
use Rattle.rw_parser_grammar.specs.declared.lexeme.Lexeme.TheVariants as t
use Rattle.rw_parser_reading.specs.Read.{Read, sees, after, separated_at, constructor_at}
use Rattle.rw_parser_reading.specs.ReadTypes.{atype_at, atypes_at, type_at, apats_at, pattern_at}
use Rattle.rw_parser_reading.specs.ReadClauses.{binding_at}
use Rattle.rw_parser_reading.specs.ReadLevels.{clause_over, local_over, alternatives_over, operand_over, expression_over, expression_at, locals_at, expression_below, locals_below}
use Rattle.rw_parser_reading.specs.ReadDeclarations.{parameters_at, data_constructor_at, constructors_at, deriving_at, data_at, newtype_at, data_or_newtype_at, import_at, fixity_at, monad_at, monads_at, given_context_at, begins_context, context_at, signed_name_at, signature_at, begins_signed, begins_fixity, named_item_at, item_over_at, item_at}
use Rattle.rw_parser_laws.proofs.ReadData.{parameters_runs, deriving_runs}
use Rattle.rw_parser_laws.proofs.ReadHeads.{import_exact, fixity_exact}
use Rattle.rw_parser_laws.proofs.ReadSignatures.{monad_exact, signed_exact}
use Rattle.rw_parser_reading.proofs.Alike.{Alike, alike_none, alike_some, alike_if, alike_bind, alike_after, exact_alike, runs_alike, left, Agree, Pass, drop_shorter, separated_alike, atype_alike, atypes_alike, apats_alike}
use Rattle.rw_parser_reading.proofs.Agree.{shorter_agree, shorter_pass, nothing_alike, types_agree, patterns_agree, no_expression, no_locals, no_below, no_lower}
use Rattle.rw_parser_reading.proofs.AlikeExpressions.{operand_alike, closing_alike, expression_over_alike, left_side_alike, binding_alike, clause_alike, local_alike, alternatives_alike, locals_over_alike, statements_alike}

-- ---- expressions
-- what stands one level up, over readers that agree
module _ (k n j : ℕ) (g : k ≤ n) (h : k ≤ j) (f e : List Lexeme → Read (Expr Span)) (agree : Agree k f e) (u v : List Lexeme → Read (List (Local Span))) (locals : Agree k u v) where
  apats_agree : Pass (suc k) (apats_at (pattern_at n)) (apats_at (pattern_at j))
  apats_agree = apats_alike k (pattern_at n) (pattern_at j) (patterns_agree k n j g h)

  simple : Pass k (apats_at (pattern_at n)) (apats_at (pattern_at j))
  simple = shorter_pass (suc k) k (omega arith) apats_agree

  pub clauses_agree : Agree k (clause_over n f u) (clause_over j e v)
  clauses_agree = clause_alike k f e agree u v locals _ _ (left_side_alike k (pattern_at n) (pattern_at j) (patterns_agree k n j g h) (apats_at (pattern_at n)) (apats_at (pattern_at j)) simple)

  bindings_agree : Agree k (binding_at (pattern_at n) (apats_at (pattern_at n))) (binding_at (pattern_at j) (apats_at (pattern_at j)))
  bindings_agree = shorter_agree (suc k) k (omega arith) (binding_alike k (pattern_at n) (pattern_at j) (patterns_agree k n j g h) (apats_at (pattern_at n)) (apats_at (pattern_at j)) simple)

  entries_agree : Agree k (local_over n f u) (local_over j e v)
  entries_agree = local_alike k f e agree u v locals _ _ bindings_agree (type_at n) (type_at j) (types_agree k n j g h) _ _ clauses_agree

  rows_agree : Agree k (alternatives_over n f u) (alternatives_over j e v)
  rows_agree = alternatives_alike k f e agree u v locals (pattern_at n) (pattern_at j) (patterns_agree k n j g h)

  module _ (s r : List Lexeme → Read (List (Local Span))) (lower : Agree (k - 1) s r) (a b : List Lexeme → Read (Expr Span)) (below : Agree (k - 1) a b) where
    operands_agree : Agree (suc k) (operand_over n f u s a) (operand_over j e v r b)
    operands_agree = operand_alike k f e agree _ _ rows_agree _ _ (statements_alike k (pattern_at n) (pattern_at j) (patterns_agree k n j g h) f e agree s r lower a b below)

    over_agree : Agree (suc k) (expression_over n f u s a) (expression_over j e v r b)
    over_agree = expression_over_alike (suc k) _ _ operands_agree _ _ (closing_alike k f e agree (pattern_at n) (pattern_at j) simple u v locals)

mutual
  unfolding expression_at locals_at expression_below locals_below

  pub expressions_agree : (n k j : ℕ) → k ≤ n → k ≤ j → Agree k (expression_at n) (expression_at j)
  expressions_agree n k j g h [] l = nothing_alike (expression_at n []) (expression_at j []) (no_expression n) (no_expression j)
  expressions_agree zero k j g h (x ∷ xs) l = absurd (omega arith)
  expressions_agree (suc n) zero j g h (x ∷ xs) l = absurd (omega arith)
  expressions_agree (suc n) (suc k) zero g h (x ∷ xs) l = absurd (omega arith)
  expressions_agree (suc n) (suc k) (suc j) g h (x ∷ xs) l =
      over_agree k n j (omega arith) (omega arith) (expression_at n) (expression_at j) (expressions_agree n k j (omega arith) (omega arith)) (locals_at n) (locals_at j) (locals_agree n k j (omega arith) (omega arith))
      (locals_below n) (locals_below j) (lower_agree n k j (omega arith) (omega arith)) (expression_below n) (expression_below j) (below_agree n k j (omega arith) (omega arith)) (x ∷ xs) l

  pub locals_agree : (n k j : ℕ) → k ≤ n → k ≤ j → Agree k (locals_at n) (locals_at j)
  locals_agree n k j g h [] l = nothing_alike (locals_at n []) (locals_at j []) (no_locals n) (no_locals j)
  locals_agree zero k j g h (x ∷ xs) l = absurd (omega arith)
  locals_agree (suc n) zero j g h (x ∷ xs) l = absurd (omega arith)
  locals_agree (suc n) (suc k) zero g h (x ∷ xs) l = absurd (omega arith)
  locals_agree (suc n) (suc k) (suc j) g h (x ∷ xs) l =
      locals_over_alike k _ _ (entries_agree k n j (omega arith) (omega arith) (expression_at n) (expression_at j) (expressions_agree n k j (omega arith) (omega arith)) (locals_at n) (locals_at j)
      (locals_agree n k j (omega arith) (omega arith))) (x ∷ xs) l

  below_agree : (n k j : ℕ) → k ≤ n → k ≤ j → Agree (k - 1) (expression_below n) (expression_below j)
  below_agree n k j g h [] l = nothing_alike (expression_below n []) (expression_below j []) (no_below n) (no_below j)
  below_agree zero k j g h (x ∷ xs) l = absurd (omega arith)
  below_agree (suc n) k zero g h (x ∷ xs) l = absurd (omega arith)
  below_agree (suc n) k (suc j) g h (x ∷ xs) l = expressions_agree n (k - 1) j (omega arith) (omega arith) (x ∷ xs) l

  lower_agree : (n k j : ℕ) → k ≤ n → k ≤ j → Agree (k - 1) (locals_below n) (locals_below j)
  lower_agree n k j g h [] l = nothing_alike (locals_below n []) (locals_below j []) (no_lower n) (no_lower j)
  lower_agree zero k j g h (x ∷ xs) l = absurd (omega arith)
  lower_agree (suc n) k zero g h (x ∷ xs) l = absurd (omega arith)
  lower_agree (suc n) k (suc j) g h (x ∷ xs) l = locals_agree n (k - 1) j (omega arith) (omega arith) (x ∷ xs) l

-- ---- items
constructor_alike : (ts : List Lexeme) → Alike left (length ts) (constructor_at ts) (constructor_at ts)
constructor_alike [] = alike_none
constructor_alike (t.Mark w a ∷ ts) = alike_none
constructor_alike (t.Variable w name ∷ ts) = alike_none
constructor_alike (t.Constructor w name ∷ ts) = alike_some _ (omega arith)
constructor_alike (t.Operator w name ∷ ts) = alike_none
constructor_alike (t.Number w digits ∷ ts) = alike_none

monads_alike : (ts : List Lexeme) → Alike left (suc (length ts)) (monads_at ts) (monads_at ts)
unfolding monads_at
monads_alike ts =
    alike_bind (separated_at m.Comma monad_at (length ts) ts) (separated_at m.Comma monad_at (length ts) ts) _ _ (separated_alike (length ts) monad_at monad_at (λ xs l. exact_alike monad_exact xs) m.Comma (length ts) ts (omega arith))
    (λ p i. alike_bind (after m.Closes p.1) (after m.Closes p.1) _ _ (alike_after m.Closes p.1) (λ r j. alike_bind (after m.Implies r) (after m.Implies r) _ _ (alike_after m.Implies r) (λ x l. alike_some _ (omega arith))))

given_alike : (ts : List Lexeme) → Alike left (suc (length ts)) (given_context_at ts) (given_context_at ts)
unfolding given_context_at
given_alike ts =
    let d = drop_shorter ts in
    alike_if (sees m.Opens ts) _ _ _ _ (let r = monads_alike (drop 1 ts) in record { same = refl; less = λ p e. let i = r.less p e in omega arith })
    (alike_bind (monad_at ts) (monad_at ts) _ _ (exact_alike monad_exact ts) (λ p i. alike_bind (after m.Implies p.1) (after m.Implies p.1) _ _ (alike_after m.Implies p.1) (λ r j. alike_some _ (omega arith))))

context_alike : (ts : List Lexeme) → Alike left (suc (length ts)) (context_at ts) (context_at ts)
unfolding context_at
context_alike ts = alike_if (begins_context ts) _ _ _ _ (given_alike ts) (alike_some _ (omega arith))

module _ (k : ℕ) (f g : List Lexeme → Read Written) (agree : Agree k f g) where
  made_alike : Agree (suc k) (data_constructor_at f) (data_constructor_at g)
  unfolding data_constructor_at
  made_alike ts h = alike_bind (constructor_at ts) (constructor_at ts) _ _ (constructor_alike ts) (λ c i. alike_bind (atypes_at f c.1) (atypes_at g c.1) _ _ (atypes_alike k f g agree c.1 (omega arith)) (λ x j. alike_some _ (omega arith)))

  all_made_alike : Pass (suc k) (constructors_at f) (constructors_at g)
  unfolding constructors_at
  all_made_alike ts h =
      let d = drop_shorter ts in
      alike_if (sees m.Equal ts) _ _ _ _
      (let r = separated_alike (suc k) (data_constructor_at f) (data_constructor_at g) made_alike m.Bar (length (drop 1 ts)) (drop 1 ts) (omega arith) in record { same = r.same; less = λ p e. let i = r.less p e in omega arith })
      (alike_some _ (omega arith))

  pub data_alike : Agree k (data_at f) (data_at g)
  unfolding data_at
  data_alike ts h =
      let d = drop_shorter ts in
      alike_bind (constructor_at (drop 1 ts)) (constructor_at (drop 1 ts)) _ _ (constructor_alike (drop 1 ts))
      (λ c i. alike_bind (parameters_at c.1) (parameters_at c.1) _ _ (runs_alike parameters_runs c.1)
      (λ p j. alike_bind (constructors_at f p.1) (constructors_at g p.1) _ _ (all_made_alike p.1 (omega arith))
      (λ q l. alike_bind (deriving_at q.1) (deriving_at q.1) _ _ (runs_alike deriving_runs q.1) (λ x n. alike_some _ (omega arith)))))

  pub newtype_alike : Agree k (newtype_at f) (newtype_at g)
  unfolding newtype_at
  newtype_alike ts h =
      let d = drop_shorter ts in
      alike_bind (constructor_at (drop 1 ts)) (constructor_at (drop 1 ts)) _ _ (constructor_alike (drop 1 ts))
      (λ c i. alike_bind (parameters_at c.1) (parameters_at c.1) _ _ (runs_alike parameters_runs c.1)
      (λ p j. alike_bind (after m.Equal p.1) (after m.Equal p.1) _ _ (alike_after m.Equal p.1)
      (λ r l. alike_bind (constructor_at r) (constructor_at r) _ _ (constructor_alike r)
      (λ y n. alike_bind (atype_at f y.1) (atype_at g y.1) _ _ (atype_alike k f g agree y.1 (omega arith))
      (λ z o. alike_bind (deriving_at z.1) (deriving_at z.1) _ _ (runs_alike deriving_runs z.1) (λ x q. alike_some _ (omega arith)))))))

  type_declaration_alike : Agree k (data_or_newtype_at f) (data_or_newtype_at g)
  unfolding data_or_newtype_at
  type_declaration_alike ts h = alike_if (sees m.Data ts) _ _ _ _ (data_alike ts h) (alike_if (sees m.Newtype ts) _ _ _ _ (newtype_alike ts h) alike_none)

  pub signature_alike : Agree k (signature_at f) (signature_at g)
  unfolding signature_at
  signature_alike ts h =
      alike_bind (separated_at m.Comma signed_name_at (length ts) ts) (separated_at m.Comma signed_name_at (length ts) ts) _ _ (separated_alike (length ts) signed_name_at signed_name_at (λ xs l. exact_alike signed_exact xs) m.Comma (length ts) ts (omega arith))
      (λ p i. alike_bind (after m.Colons p.1) (after m.Colons p.1) _ _ (alike_after m.Colons p.1)
      (λ r j. alike_bind (context_at r) (context_at r) _ _ (context_alike r) (λ c l. alike_bind (f c.1) (g c.1) _ _ (agree c.1 (omega arith)) (λ a n. alike_some _ (omega arith)))))

  module _ (a b : List Lexeme → Read (List ℕ × Alt Span)) (clauses : Agree k a b) where
    named_alike : Agree k (named_item_at f a) (named_item_at g b)
    unfolding named_item_at
    named_alike ts h =
        alike_if (begins_signed ts) _ _ _ _ (alike_bind (signature_at f ts) (signature_at g ts) _ _ (signature_alike ts h) (λ p i. alike_some _ (omega arith)))
        (alike_bind (a ts) (b ts) _ _ (clauses ts h) (λ c i. alike_some _ (omega arith)))

    item_over_alike : Agree k (item_over_at f a) (item_over_at g b)
    unfolding item_over_at
    item_over_alike ts h =
        alike_if (sees m.Import ts) _ _ _ _ (alike_bind (import_at ts) (import_at ts) _ _ (exact_alike import_exact ts) (λ p i. alike_some _ (omega arith)))
        (alike_if _ _ _ _ _ (alike_bind (data_or_newtype_at f ts) (data_or_newtype_at g ts) _ _ (type_declaration_alike ts h) (λ p i. alike_some _ (omega arith)))
        (alike_if (begins_fixity ts) _ _ _ _ (alike_bind (fixity_at ts) (fixity_at ts) _ _ (exact_alike fixity_exact ts) (λ p i. alike_some _ (omega arith))) (named_alike ts h)))

pub items_agree : (k n j : ℕ) → k ≤ n → k ≤ j → Agree k (item_at n) (item_at j)
unfolding item_at
items_agree k n j g h ts l =
    item_over_alike k (type_at n) (type_at j) (types_agree k n j g h) _ _ (clauses_agree k n j g h (expression_at n) (expression_at j) (expressions_agree n k j g h) (locals_at n) (locals_at j) (locals_agree n k j g h)) ts l

-- a level for each token is enough
pub enough : {A : Type 0} {read : ℕ → List Lexeme → Read A} → ((k n j : ℕ) → k ≤ n → k ≤ j → Agree k (read n) (read j)) → (n : ℕ) (ts : List Lexeme) → length ts ≤ n → read n ts ≡ read (length ts) ts
enough agree n ts h = (agree (length ts) n (length ts) h (omega arith) ts (omega arith)).same
