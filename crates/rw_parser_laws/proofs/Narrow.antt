-- What is spelled to any depth is spelled with as many levels as there are tokens: what stands inside something is shorter.
use Rattle.std.proofs.Common.{ℕ, zero, suc, ◌<◌, ◌≤◌, List, ◌∷◌, length, arith}
use Rattle.rw_base.specs.declared.place.Span.{Span}
use Rattle.rw_tree.specs.declared.types.Written.{Written}
use Rattle.rw_tree.specs.declared.pattern.Pat.{Pat}
use Rattle.rw_tree.specs.declared.expr.Expr.{Expr}
use Rattle.rw_tree.specs.declared.clause.Alt.{Alt}
use Rattle.rw_tree.specs.declared.clause.Guard.{Guard}
use Rattle.rw_tree.specs.declared.clause.Local.{Local}
use Rattle.rw_tree.specs.declared.clause.Stmt.{Stmt}
use Rattle.rw_tree.specs.declared.decl.Decl.{Decl}
use Rattle.rw_parser_grammar.specs.declared.item.Bound.{Bound}
use Rattle.rw_parser_grammar.specs.declared.item.Item.{Item}
use Rattle.rw_parser_grammar.specs.declared.lexeme.Mark.{Mark}
use Rattle.rw_parser_grammar.specs.declared.lexeme.Mark.TheVariants as m
use Rattle.rw_parser_grammar.specs.declared.lexeme.Spot.{Spot}
use Rattle.rw_parser_grammar.specs.declared.lexeme.Lexeme.{Lexeme}
use Rattle.rw_parser_grammar.specs.declared.lexeme.Lexeme.TheVariants as t
use Rattle.rw_parser_grammar.specs.Lists.{IsSeparated, the_last, and_more, IsMany, no_more, one_more, IsEntries, no_entry, skipped, last_entry, next_entry, IsBlock, a_block}
use Rattle.rw_parser_grammar.specs.Names.{IsVariableName, a_name, an_operator_name, IsVariableOperator, a_symbol_operator, a_named_operator}
use Rattle.rw_parser_grammar.specs.Types.{IsAtype, a_type_constructor, a_type_variable, a_unit_type, a_type_group, IsBtype, a_btype, IsTypeOver, no_arrow, an_arrow, IsType}
use Rattle.rw_parser_grammar.specs.Patterns.{IsApat, a_variable_pattern, a_wildcard, a_constant_pattern, a_unit_pattern, a_pattern_group, IsPatternOver, an_apat, a_constructor_pattern, IsPattern, IsBindingPattern, binds_constructor, binds_group}
use Rattle.rw_parser_grammar.specs.Expressions.{IsAexp, a_variable, an_operator_variable, a_constructor, a_unit, a_group, IsOp, a_symbol, a_quoted_variable, a_quoted_constructor, IsOperand, an_application, a_case, a_do, IsLast, an_operand, a_lambda, a_let, an_if, IsChain, no_operator, an_operator, IsExpressionOver, an_expression}
use Rattle.rw_parser_grammar.specs.Clauses.{IsGuard, a_guard, IsRightSide, unguarded, guarded, IsWhere, no_where, a_where, IsLeftSide, a_prefix, an_infix, IsClause, a_clause, IsAlternative, an_alternative, IsAlternatives, alternatives}
use Rattle.rw_parser_grammar.specs.Clauses.{IsLocal, a_local_signature, a_local_clause, a_local_pattern, IsLocalsOver, some_locals, IsStatement, a_bind, a_let_statement, a_run, IsStatements, statements, IsExpression, IsLocals, IsLocalsBelow}
use Rattle.rw_parser_grammar.specs.Declarations.{IsParameter, a_parameter, IsConstructor, a_data_constructor, IsConstructors, no_constructors, some_constructors, IsData, a_data, a_newtype, IsMonad, a_monad, IsContext, no_context, one_monad, some_monads, IsSignedName, a_signed_name, IsSignature, a_signature, an_import_item, a_data_item, a_fixity_item, a_signature_item, a_clause_item}
use Rattle.rw_parser_grammar.specs.Grammar.{IsItem}
use Rattle.rw_parser_laws.proofs.ReadTypes.{type_level}
use Rattle.rw_parser_laws.proofs.ReadPatterns.{pattern_level}
use Rattle.rw_parser_laws.proofs.ReadLevels.{level}

-- at lists of so many tokens at most, whatever one relation holds of, the other does, and something is taken
abbrev pub Fed : {A : Type 0} → ℕ → (List Lexeme → A → List Lexeme → Type 0) → (List Lexeme → A → List Lexeme → Type 0) → Type 0
Fed {A} k P Q = (ts : List Lexeme) (a : A) (rest : List Lexeme) → length ts ≤ k → P ts a rest → Q ts a rest × (length rest < length ts)

-- the same, where nothing may be taken
abbrev pub Passed : {A : Type 0} → ℕ → (List Lexeme → A → List Lexeme → Type 0) → (List Lexeme → A → List Lexeme → Type 0) → Type 0
Passed {A} k P Q = (ts : List Lexeme) (a : A) (rest : List Lexeme) → length ts ≤ k → P ts a rest → Q ts a rest × (length rest ≤ length ts)

-- ---- lists
module _ {A : Type 0} (k : ℕ) (P Q : List Lexeme → A → List Lexeme → Type 0) (f : Fed k P Q) where
  separated_narrow : (between : Mark) → Fed k (IsSeparated between P) (IsSeparated between Q)
  separated_narrow between _ _ _ s (the_last ts rest a d) = let h = f ts a rest s d in (the_last ts rest a h.0, h.1)
  separated_narrow between _ _ _ s (and_more ts mid rest w a others d ds) =
      let h = f ts a (t.Mark w between ∷ mid) s d in
      let i = h.1 in
      let g = separated_narrow between mid others rest (omega arith) ds in
      let j = g.1 in
      (and_more ts mid rest w a others h.0 g.0, omega arith)

  many_narrow : Passed k (IsMany P) (IsMany Q)
  many_narrow _ _ _ s (no_more ts) = (no_more ts, omega arith)
  many_narrow _ _ _ s (one_more ts mid rest a others d ds) =
      let h = f ts a mid s d in
      let i = h.1 in
      let g = many_narrow mid others rest (omega arith) ds in
      let j = g.1 in
      (one_more ts mid rest a others h.0 g.0, omega arith)

  entries_narrow : Fed k (IsEntries P) (IsEntries Q)
  entries_narrow _ _ _ s (no_entry w rest) = (no_entry w rest, omega arith)
  entries_narrow _ _ _ s (skipped w ts rest others ds) = let g = entries_narrow ts others rest (omega arith) ds in let j = g.1 in (skipped w ts rest others g.0, omega arith)
  entries_narrow _ _ _ s (last_entry ts rest w a d) = let h = f ts a (t.Mark w m.ClosesBlock ∷ rest) s d in let i = h.1 in (last_entry ts rest w a h.0, omega arith)
  entries_narrow _ _ _ s (next_entry ts mid rest w a others d ds) =
      let h = f ts a (t.Mark w m.Semicolon ∷ mid) s d in
      let i = h.1 in
      let g = entries_narrow mid others rest (omega arith) ds in
      let j = g.1 in
      (next_entry ts mid rest w a others h.0 g.0, omega arith)

  block_narrow : Fed (suc k) (IsBlock P) (IsBlock Q)
  block_narrow _ _ _ s (a_block w ts rest entries ds) = let g = entries_narrow ts entries rest (omega arith) ds in let j = g.1 in (a_block w ts rest entries g.0, omega arith)

-- ---- names
name_shorter : {ts : List Lexeme} {name : Spot × List ℕ} {rest : List Lexeme} → IsVariableName ts name rest → length rest < length ts
name_shorter (a_name w name rest) = omega arith
name_shorter (an_operator_name u v w name rest) = omega arith

variable_operator_shorter : {ts : List Lexeme} {name : List ℕ} {rest : List Lexeme} → IsVariableOperator ts name rest → length rest < length ts
variable_operator_shorter (a_symbol_operator w name rest) = omega arith
variable_operator_shorter (a_named_operator u v w name rest) = omega arith

op_shorter : {ts : List Lexeme} {o : Expr Span} {rest : List Lexeme} → IsOp ts o rest → length rest < length ts
op_shorter (a_symbol w name rest) = omega arith
op_shorter (a_quoted_variable u v w name rest) = omega arith
op_shorter (a_quoted_constructor u v w name rest) = omega arith

-- ---- parts of declarations that hold nothing
parameters_shorter : {ts : List Lexeme} {params : List (List ℕ)} {rest : List Lexeme} → IsMany IsParameter ts params rest → length rest ≤ length ts
parameters_shorter (no_more ts) = omega arith
parameters_shorter (one_more _ _ rest _ others (a_parameter w name mid) ds) = let h = parameters_shorter ds in omega arith

names_shorter : {ts : List Lexeme} {names : List (List ℕ)} {rest : List Lexeme} → IsSeparated m.Comma IsSignedName ts names rest → length rest < length ts
names_shorter (the_last _ _ _ (a_signed_name ts rest w name d)) = name_shorter d
names_shorter (and_more _ mid rest x _ others (a_signed_name ts _ w name d) ds) = let h = name_shorter d in let g = names_shorter ds in omega arith

monads_shorter : {ts : List Lexeme} {names : List (List ℕ)} {rest : List Lexeme} → IsSeparated m.Comma IsMonad ts names rest → length rest < length ts
monads_shorter (the_last _ _ _ (a_monad v w class name rest e)) = omega arith
monads_shorter (and_more _ mid rest x _ others (a_monad v w class name _ e) ds) = let h = monads_shorter ds in omega arith

context_shorter : {ts : List Lexeme} {names : List (List ℕ)} {rest : List Lexeme} → IsContext ts names rest → length rest ≤ length ts
context_shorter (no_context ts) = omega arith
context_shorter (one_monad w _ rest _ (a_monad x y class name _ e)) = omega arith
context_shorter (some_monads u v w ts rest names ds) = let h = monads_shorter ds in omega arith

-- ---- types
module _ (k : ℕ) (P Q : List Lexeme → Written → List Lexeme → Type 0) (f : Fed k P Q) where
  atype_narrow : Fed (suc k) (IsAtype P) (IsAtype Q)
  atype_narrow _ _ _ s (a_type_constructor w name rest) = (a_type_constructor w name rest, omega arith)
  atype_narrow _ _ _ s (a_type_variable w name rest) = (a_type_variable w name rest, omega arith)
  atype_narrow _ _ _ s (a_unit_type v w rest) = (a_unit_type v w rest, omega arith)
  atype_narrow _ _ _ s (a_type_group v w ts rest parts d e) =
      let g = separated_narrow k P Q f m.Comma ts parts (t.Mark w m.Closes ∷ rest) (omega arith) d in let j = g.1 in (a_type_group v w ts rest parts g.0 e, omega arith)

  btype_narrow : Fed (suc k) (IsBtype P) (IsBtype Q)
  btype_narrow _ _ _ s (a_btype ts mid rest head parts d ds) =
      let h = atype_narrow ts head mid s d in
      let i = h.1 in
      let g = many_narrow (suc k) (IsAtype P) (IsAtype Q) atype_narrow mid parts rest (omega arith) ds in
      let j = g.1 in
      (a_btype ts mid rest head parts h.0 g.0, omega arith)

  type_over_narrow : Fed (suc k) (IsTypeOver P) (IsTypeOver Q)
  type_over_narrow _ _ _ s (no_arrow ts rest type d) = let h = btype_narrow ts type rest s d in (no_arrow ts rest type h.0, h.1)
  type_over_narrow _ _ _ s (an_arrow ts mid rest w from to d e) =
      let h = btype_narrow ts from (t.Mark w m.Arrow ∷ mid) s d in
      let i = h.1 in
      let g = f mid to rest (omega arith) e in
      let j = g.1 in
      (an_arrow ts mid rest w from to h.0 g.0, omega arith)

  constructor_narrow : Fed (suc k) (IsConstructor P) (IsConstructor Q)
  constructor_narrow _ _ _ s (a_data_constructor w name ts rest fields ds) =
      let g = many_narrow (suc k) (IsAtype P) (IsAtype Q) atype_narrow ts fields rest (omega arith) ds in let j = g.1 in (a_data_constructor w name ts rest fields g.0, omega arith)

  constructors_narrow : Passed (suc k) (IsConstructors P) (IsConstructors Q)
  constructors_narrow _ _ _ s (no_constructors ts) = (no_constructors ts, omega arith)
  constructors_narrow _ _ _ s (some_constructors w ts rest all ds) =
      let g = separated_narrow (suc k) (IsConstructor P) (IsConstructor Q) constructor_narrow m.Bar ts all rest (omega arith) ds in let j = g.1 in (some_constructors w ts rest all g.0, omega arith)

  data_narrow : (ts : List Lexeme) (a : Decl Span) (rest : List Lexeme) → length ts ≤ suc k → IsData P ts a rest → IsData Q ts a rest
  data_narrow _ _ _ s (a_data v w name ts mid next rest params classes all ds d x) =
      let h = parameters_shorter ds in a_data v w name ts mid next rest params classes all ds (constructors_narrow mid all next (omega arith) d).0 x
  data_narrow _ _ _ s (a_newtype u v w x name made ts mid next rest params classes field ds d y) =
      let h = parameters_shorter ds in a_newtype u v w x name made ts mid next rest params classes field ds (atype_narrow mid field next (omega arith) d).0 y

  signature_narrow : (ts : List Lexeme) (a : Decl Span) (rest : List Lexeme) → length ts ≤ suc k → IsSignature P ts a rest → IsSignature Q ts a rest
  signature_narrow _ _ _ s (a_signature w ts mid next rest names monads type xs c y) =
      let h = names_shorter xs in let g = context_shorter c in a_signature w ts mid next rest names monads type xs c (f next type rest (omega arith) y).0

pub type_narrow : (n k : ℕ) → Fed k (IsType n) (IsType k)
type_narrow zero k ts a rest s d = absurd d
type_narrow (suc n) zero ts a rest s d = let h = (type_level (suc n)).0.shorter ts a rest d in absurd (omega arith)
type_narrow (suc n) (suc k) ts a rest s d = type_over_narrow k (IsType n) (IsType k) (type_narrow n k) ts a rest s d

-- ---- patterns
module _ (k : ℕ) (P Q : List Lexeme → Pat Span → List Lexeme → Type 0) (f : Fed k P Q) where
  apat_narrow : Fed (suc k) (IsApat P) (IsApat Q)
  apat_narrow _ _ _ s (a_variable_pattern w name rest) = (a_variable_pattern w name rest, omega arith)
  apat_narrow _ _ _ s (a_wildcard w rest) = (a_wildcard w rest, omega arith)
  apat_narrow _ _ _ s (a_constant_pattern w name rest) = (a_constant_pattern w name rest, omega arith)
  apat_narrow _ _ _ s (a_unit_pattern v w rest) = (a_unit_pattern v w rest, omega arith)
  apat_narrow _ _ _ s (a_pattern_group v w ts rest parts d e) =
      let g = separated_narrow k P Q f m.Comma ts parts (t.Mark w m.Closes ∷ rest) (omega arith) d in let j = g.1 in (a_pattern_group v w ts rest parts g.0 e, omega arith)

  apats_narrow : Passed (suc k) (IsMany (IsApat P)) (IsMany (IsApat Q))
  apats_narrow = many_narrow (suc k) (IsApat P) (IsApat Q) apat_narrow

  pattern_over_narrow : Fed (suc k) (IsPatternOver P) (IsPatternOver Q)
  pattern_over_narrow _ _ _ s (an_apat ts rest pat d) = let h = apat_narrow ts pat rest s d in (an_apat ts rest pat h.0, h.1)
  pattern_over_narrow _ _ _ s (a_constructor_pattern w name ts rest part parts ds) =
      let g = apats_narrow ts (part ∷ parts) rest (omega arith) ds in let j = g.1 in (a_constructor_pattern w name ts rest part parts g.0, omega arith)

  binding_narrow : Fed (suc k) (IsBindingPattern P) (IsBindingPattern Q)
  binding_narrow _ _ _ s (binds_constructor w name ts rest parts ds) = let g = apats_narrow ts parts rest (omega arith) ds in let j = g.1 in (binds_constructor w name ts rest parts g.0, omega arith)
  binding_narrow _ _ _ s (binds_group v w ts rest parts d e x) =
      let g = separated_narrow k P Q f m.Comma ts parts (t.Mark w m.Closes ∷ rest) (omega arith) d in let j = g.1 in (binds_group v w ts rest parts g.0 e x, omega arith)

  left_narrow : Fed k (IsLeftSide P (IsApat P)) (IsLeftSide Q (IsApat Q))
  left_narrow _ _ _ s (a_prefix ts mid rest w name pats d ds) =
      let i = name_shorter d in let g = apats_narrow mid pats rest (omega arith) ds in let j = g.1 in (a_prefix ts mid rest w name pats d g.0, omega arith)
  left_narrow _ _ _ s (an_infix ts mid next rest name left right d o e) =
      let h = f ts left mid s d in
      let i = h.1 in
      let q = variable_operator_shorter o in
      let g = f next right rest (omega arith) e in
      let j = g.1 in
      (an_infix ts mid next rest name left right h.0 o g.0, omega arith)

pub pattern_narrow : (n k : ℕ) → Fed k (IsPattern n) (IsPattern k)
pattern_narrow zero k ts a rest s d = absurd d
pattern_narrow (suc n) zero ts a rest s d = let h = (pattern_level (suc n)).0.shorter ts a rest d in absurd (omega arith)
pattern_narrow (suc n) (suc k) ts a rest s d = pattern_over_narrow k (IsPattern n) (IsPattern k) (pattern_narrow n k) ts a rest s d

-- ---- expressions
module _ (k : ℕ) (P Q : List Lexeme → Expr Span → List Lexeme → Type 0) (f : Fed k P Q) where
  aexp_narrow : Fed (suc k) (IsAexp P) (IsAexp Q)
  aexp_narrow _ _ _ s (a_variable w name rest) = (a_variable w name rest, omega arith)
  aexp_narrow _ _ _ s (an_operator_variable u v w name rest) = (an_operator_variable u v w name rest, omega arith)
  aexp_narrow _ _ _ s (a_constructor w name rest) = (a_constructor w name rest, omega arith)
  aexp_narrow _ _ _ s (a_unit v w rest) = (a_unit v w rest, omega arith)
  aexp_narrow _ _ _ s (a_group v w ts rest parts d e) =
      let g = separated_narrow k P Q f m.Comma ts parts (t.Mark w m.Closes ∷ rest) (omega arith) d in let j = g.1 in (a_group v w ts rest parts g.0 e, omega arith)

  guard_narrow : (sign : Mark) → Fed (suc k) (IsGuard sign P) (IsGuard sign Q)
  guard_narrow sign _ _ _ s (a_guard v w ts mid rest test body d e) =
      let h = f ts test (t.Mark w sign ∷ mid) (omega arith) d in
      let i = h.1 in
      let g = f mid body rest (omega arith) e in
      let j = g.1 in
      (a_guard v w ts mid rest test body h.0 g.0, omega arith)

  guards_shorter : {guard : Guard Span} {guards : List (Guard Span)} (sign : Mark) (ts rest : List Lexeme) → length ts ≤ suc k → IsMany (IsGuard sign P) ts (guard ∷ guards) rest → length rest < length ts
  guards_shorter sign _ _ s (one_more ts mid rest a others d ds) =
      let h = (guard_narrow sign ts a mid s d).1 in let g = (many_narrow (suc k) (IsGuard sign P) (IsGuard sign Q) (guard_narrow sign) mid others rest (omega arith) ds).1 in omega arith

  side_narrow : (sign : Mark) → Fed (suc k) (IsRightSide sign P) (IsRightSide sign Q)
  side_narrow sign _ _ _ s (unguarded w ts rest body d) = let h = f ts body rest (omega arith) d in let i = h.1 in (unguarded w ts rest body h.0, omega arith)
  side_narrow sign _ _ _ s (guarded ts rest guard guards ds) =
      (guarded ts rest guard guards (many_narrow (suc k) (IsGuard sign P) (IsGuard sign Q) (guard_narrow sign) ts (guard ∷ guards) rest s ds).0, guards_shorter sign ts rest s ds)

  module _ (A B : List Lexeme → List (Alt Span) → List Lexeme → Type 0) (g : Fed k A B) (S T : List Lexeme → List (Stmt Span) → List Lexeme → Type 0) (h : Fed k S T) where
    operand_narrow : Fed (suc k) (IsOperand P A S) (IsOperand Q B T)
    operand_narrow _ _ _ s (an_application ts mid rest head parts d ds) =
        let x = aexp_narrow ts head mid s d in
        let i = x.1 in
        let y = many_narrow (suc k) (IsAexp P) (IsAexp Q) aexp_narrow mid parts rest (omega arith) ds in
        let j = y.1 in
        (an_application ts mid rest head parts x.0 y.0, omega arith)
    operand_narrow _ _ _ s (a_case v w ts mid rest a alts d ds) =
        let x = f ts a (t.Mark w m.Of ∷ mid) (omega arith) d in
        let i = x.1 in
        let y = g mid alts rest (omega arith) ds in
        let j = y.1 in
        (a_case v w ts mid rest a alts x.0 y.0, omega arith)
    operand_narrow _ _ _ s (a_do v ts rest all d) = let x = h ts all rest (omega arith) d in let i = x.1 in (a_do v ts rest all x.0, omega arith)

  module _ (R S : List Lexeme → Pat Span → List Lexeme → Type 0) (g : Fed k R S) where
    alternative_narrow : Fed k (IsAlternative R P) (IsAlternative S Q)
    alternative_narrow _ _ _ s (an_alternative ts mid rest pat rhs d e) =
        let x = g ts pat mid s d in
        let i = x.1 in
        let y = side_narrow m.Arrow mid rhs rest (omega arith) e in
        let j = y.1 in
        (an_alternative ts mid rest pat rhs x.0 y.0, omega arith)

    alternatives_narrow : Fed k (IsAlternatives (IsAlternative R P)) (IsAlternatives (IsAlternative S Q))
    alternatives_narrow _ _ _ s (alternatives ts rest a others d) =
        let x = block_narrow k (IsAlternative R P) (IsAlternative S Q) alternative_narrow ts (a ∷ others) rest (omega arith) d in (alternatives ts rest a others x.0, x.1)

    module _ (L M : List Lexeme → List (Local Span) → List Lexeme → Type 0) (h : (ts : List Lexeme) (a : List (Local Span)) (rest : List Lexeme) → suc (length ts) ≤ k → L ts a rest → M ts a rest × (length rest < length ts)) where
      statement_narrow : Fed k (IsStatement R P L) (IsStatement S Q M)
      statement_narrow _ _ _ s (a_bind w ts mid rest pat body d e) =
          let x = g ts pat (t.Mark w m.FromArrow ∷ mid) s d in
          let i = x.1 in
          let y = f mid body rest (omega arith) e in
          let j = y.1 in
          (a_bind w ts mid rest pat body x.0 y.0, omega arith)
      statement_narrow _ _ _ s (a_let_statement w ts rest all d) = let x = h ts all rest (omega arith) d in let i = x.1 in (a_let_statement w ts rest all x.0, omega arith)
      statement_narrow _ _ _ s (a_run ts rest body d) = let x = f ts body rest s d in (a_run ts rest body x.0, x.1)

      statements_narrow : Fed k (IsStatements (IsStatement R P L)) (IsStatements (IsStatement S Q M))
      statements_narrow _ _ _ s (statements ts rest all d e) =
          let x = block_narrow k (IsStatement R P L) (IsStatement S Q M) statement_narrow ts all rest (omega arith) d in (statements ts rest all x.0 e, x.1)

    module _ (L M : List Lexeme → List (Local Span) → List Lexeme → Type 0) (h : Fed k L M) where
      module _ (O U : List Lexeme → Expr Span → List Lexeme → Type 0) (o : Fed (suc k) O U) where
        last_narrow : Fed (suc k) (IsLast R P L O) (IsLast S Q M U)
        last_narrow _ _ _ s (an_operand ts rest a d) = let x = o ts a rest s d in (an_operand ts rest a x.0, x.1)
        last_narrow _ _ _ s (a_lambda v w ts mid rest pat pats body ds d) =
            let x = apats_narrow k R S g ts (pat ∷ pats) (t.Mark w m.Arrow ∷ mid) (omega arith) ds in
            let i = x.1 in
            let y = f mid body rest (omega arith) d in
            let j = y.1 in
            (a_lambda v w ts mid rest pat pats body x.0 y.0, omega arith)
        last_narrow _ _ _ s (a_let v w ts mid rest all body ds d) =
            let x = h ts all (t.Mark w m.In ∷ mid) (omega arith) ds in
            let i = x.1 in
            let y = f mid body rest (omega arith) d in
            let j = y.1 in
            (a_let v w ts mid rest all body x.0 y.0, omega arith)
        last_narrow _ _ _ s (an_if u v w ts first second rest test one other a b d) =
            let x = f ts test (t.Mark v m.Then ∷ first) (omega arith) a in
            let i = x.1 in
            let y = f first one (t.Mark w m.Else ∷ second) (omega arith) b in
            let j = y.1 in
            let z = f second other rest (omega arith) d in
            let l = z.1 in
            (an_if u v w ts first second rest test one other x.0 y.0 z.0, omega arith)

        chain_narrow : Fed (suc k) (IsChain O (IsLast R P L O)) (IsChain U (IsLast S Q M U))
        chain_narrow _ _ _ s (no_operator ts rest a d) = let x = last_narrow ts a rest s d in (no_operator ts rest a x.0, x.1)
        chain_narrow _ _ _ s (an_operator ts mid next rest a b others ops d e ds) =
            let x = o ts a mid s d in
            let i = x.1 in
            let q = op_shorter e in
            let y = chain_narrow next (others, ops) rest (omega arith) ds in
            let j = y.1 in
            (an_operator ts mid next rest a b others ops x.0 e y.0, omega arith)

        expression_over_narrow : Fed (suc k) (IsExpressionOver O (IsLast R P L O)) (IsExpressionOver U (IsLast S Q M U))
        expression_over_narrow _ _ _ s (an_expression ts rest others ops d) = let x = chain_narrow ts (others, ops) rest s d in (an_expression ts rest others ops x.0, x.1)

      where_narrow : Passed k (IsWhere L) (IsWhere M)
      where_narrow _ _ _ s (no_where ts) = (no_where ts, omega arith)
      where_narrow _ _ _ s (a_where w ts rest all d) = let x = h ts all rest (omega arith) d in let i = x.1 in (a_where w ts rest all x.0, omega arith)

      clause_narrow : Fed k (IsClause (IsLeftSide R (IsApat R)) P L) (IsClause (IsLeftSide S (IsApat S)) Q M)
      clause_narrow _ _ _ s (a_clause ts mid next rest name pats rhs wheres d e w) =
          let x = left_narrow k R S g ts (name, pats) mid s d in
          let i = x.1 in
          let y = side_narrow m.Equal mid rhs next (omega arith) e in
          let j = y.1 in
          let z = where_narrow next wheres rest (omega arith) w in
          let l = z.1 in
          (a_clause ts mid next rest name pats rhs wheres x.0 y.0 z.0, omega arith)

      module _ (Y Z : List Lexeme → Written → List Lexeme → Type 0) (y : Fed k Y Z) where
        abbrev One : List Lexeme → Bound → List Lexeme → Type 0
        One = IsLocal (IsBindingPattern R) Y (IsClause (IsLeftSide R (IsApat R)) P L) P L

        abbrev Two : List Lexeme → Bound → List Lexeme → Type 0
        Two = IsLocal (IsBindingPattern S) Z (IsClause (IsLeftSide S (IsApat S)) Q M) Q M

        local_narrow : Fed k One Two
        local_narrow _ _ _ s (a_local_signature v w name ts rest type d) = let x = y ts type rest (omega arith) d in let i = x.1 in (a_local_signature v w name ts rest type x.0, omega arith)
        local_narrow _ _ _ s (a_local_clause ts rest name row d e) = let x = clause_narrow ts (name, row) rest s d in (a_local_clause ts rest name row x.0 e, x.1)
        local_narrow _ _ _ s (a_local_pattern ts mid next rest pat rhs wheres d e w) =
            let x = binding_narrow k R S g ts pat mid (omega arith) d in
            let i = x.1 in
            let y = side_narrow m.Equal mid rhs next (omega arith) e in
            let j = y.1 in
            let z = where_narrow next wheres rest (omega arith) w in
            let l = z.1 in
            (a_local_pattern ts mid next rest pat rhs wheres x.0 y.0 z.0, omega arith)

        locals_over_narrow : Fed (suc k) (IsLocalsOver One) (IsLocalsOver Two)
        locals_over_narrow _ _ _ s (some_locals ts rest entries d) = let x = block_narrow k One Two local_narrow ts entries rest s d in (some_locals ts rest entries x.0, x.1)

mutual
  pub expression_narrow : (n k : ℕ) → Fed k (IsExpression n) (IsExpression k)
  expression_narrow zero k ts a rest s d = absurd d
  expression_narrow (suc n) zero ts a rest s d = let h = (level (suc n)).expression.shorter ts a rest d in absurd (omega arith)
  expression_narrow (suc n) (suc k) ts a rest s d =
      let f = expression_narrow n k in
      let g = pattern_narrow n k in
      expression_over_narrow k (IsExpression n) (IsExpression k) f (IsPattern n) (IsPattern k) g (IsLocals n) (IsLocals k) (locals_narrow n k) _ _
      (operand_narrow k (IsExpression n) (IsExpression k) f _ _ (alternatives_narrow k (IsExpression n) (IsExpression k) f (IsPattern n) (IsPattern k) g) _ _
      (statements_narrow k (IsExpression n) (IsExpression k) f (IsPattern n) (IsPattern k) g (IsLocalsBelow n) (IsLocalsBelow k) (lower_narrow n k))) ts a rest s d

  pub locals_narrow : (n k : ℕ) → Fed k (IsLocals n) (IsLocals k)
  locals_narrow zero k ts a rest s d = absurd d
  locals_narrow (suc n) zero ts a rest s d = let h = (level (suc n)).locals.shorter ts a rest d in absurd (omega arith)
  locals_narrow (suc n) (suc k) ts a rest s d =
      locals_over_narrow k (IsExpression n) (IsExpression k) (expression_narrow n k) (IsPattern n) (IsPattern k) (pattern_narrow n k) (IsLocals n) (IsLocals k) (locals_narrow n k) (IsType n) (IsType k) (type_narrow n k) ts a rest s d

  lower_narrow : (n k : ℕ) (ts : List Lexeme) (a : List (Local Span)) (rest : List Lexeme) → suc (length ts) ≤ k → IsLocalsBelow n ts a rest → IsLocalsBelow k ts a rest × (length rest < length ts)
  lower_narrow zero k ts a rest s d = absurd d
  lower_narrow (suc n) zero ts a rest s d = absurd (omega arith)
  lower_narrow (suc n) (suc k) ts a rest s d = locals_narrow n k ts a rest (omega arith) d

-- an item needs no more levels than it has tokens
pub item_narrow : (n k : ℕ) (ts : List Lexeme) (a : Item) (rest : List Lexeme) → length ts ≤ k → IsItem n ts a rest → IsItem k ts a rest
item_narrow n k _ _ _ s (an_import_item ts rest a x) = an_import_item ts rest a x
item_narrow n k _ _ _ s (a_data_item ts rest a x) = a_data_item ts rest a (data_narrow k (IsType n) (IsType k) (type_narrow n k) ts a rest (omega arith) x)
item_narrow n k _ _ _ s (a_fixity_item ts rest a x) = a_fixity_item ts rest a x
item_narrow n k _ _ _ s (a_signature_item ts rest a x) = a_signature_item ts rest a (signature_narrow k (IsType n) (IsType k) (type_narrow n k) ts a rest (omega arith) x)
item_narrow n k _ _ _ s (a_clause_item ts rest name row x) =
    a_clause_item ts rest name row (clause_narrow k (IsExpression n) (IsExpression k) (expression_narrow n k) (IsPattern n) (IsPattern k) (pattern_narrow n k) (IsLocals n) (IsLocals k) (locals_narrow n k) ts (name, row) rest s x).0
