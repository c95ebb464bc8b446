-- What is spelled with some levels inside is spelled with more.
use Rattle.std.proofs.Common.{◌≡◌, ℕ, zero, suc, ◌+◌, List, refl, subst, arith}
use Rattle.rw_base.specs.declared.place.Span.{Span}
use Rattle.rw_tree.specs.declared.types.Written.{Written}
use Rattle.rw_tree.specs.declared.pattern.Pat.{Pat}
use Rattle.rw_tree.specs.declared.expr.Expr.{Expr}
use Rattle.rw_tree.specs.declared.clause.Alt.{Alt}
use Rattle.rw_tree.specs.declared.clause.Local.{Local}
use Rattle.rw_tree.specs.declared.clause.Stmt.{Stmt}
use Rattle.rw_parser_grammar.specs.declared.item.Bound.{Bound}
use Rattle.rw_parser_grammar.specs.declared.lexeme.Mark.{Mark}
use Rattle.rw_parser_grammar.specs.declared.lexeme.Lexeme.{Lexeme}
use Rattle.rw_parser_grammar.specs.Lists.{IsSeparated, the_last, and_more, IsMany, no_more, one_more, IsEntries, no_entry, skipped, last_entry, next_entry, IsBlock, a_block}
use Rattle.rw_parser_grammar.specs.Types.{IsAtype, a_type_constructor, a_type_variable, a_unit_type, a_type_group, IsBtype, a_btype, IsTypeOver, no_arrow, an_arrow, IsType}
use Rattle.rw_parser_grammar.specs.Patterns.{IsApat, a_variable_pattern, a_wildcard, a_constant_pattern, a_unit_pattern, a_pattern_group, IsPatternOver, an_apat, a_constructor_pattern, IsPattern, IsBindingPattern, binds_constructor, binds_group}
use Rattle.rw_parser_grammar.specs.Expressions.{IsAexp, a_variable, an_operator_variable, a_constructor, a_unit, a_group, IsOperand, an_application, a_case, a_do, IsLast, an_operand, a_lambda, a_let, an_if, IsChain, no_operator, an_operator, IsExpressionOver, an_expression}
use Rattle.rw_parser_grammar.specs.Clauses.{IsGuard, a_guard, IsRightSide, unguarded, guarded, IsWhere, no_where, a_where, IsLeftSide, a_prefix, an_infix, IsClause, a_clause, IsAlternative, an_alternative, IsAlternatives, alternatives}
use Rattle.rw_parser_grammar.specs.Clauses.{IsLocal, a_local_signature, a_local_clause, a_local_pattern, IsLocalsOver, some_locals, IsStatement, a_bind, a_let_statement, a_run, IsStatements, statements, IsExpression, IsLocals, IsLocalsBelow}
use Rattle.rw_parser_grammar.specs.Declarations.{IsConstructor, a_data_constructor, IsConstructors, no_constructors, some_constructors, IsData, a_data, a_newtype, IsSignature, a_signature, an_import_item, a_data_item, a_fixity_item, a_signature_item, a_clause_item}
use Rattle.rw_parser_grammar.specs.Grammar.{IsItem}

-- whatever one relation holds of, the other does
abbrev pub Within : {A : Type 0} → (List Lexeme → A → List Lexeme → Type 0) → (List Lexeme → A → List Lexeme → Type 0) → Type 0
Within {A} P Q = (ts : List Lexeme) (a : A) (rest : List Lexeme) → P ts a rest → Q ts a rest

-- ---- lists
module _ {A : Type 0} (P Q : List Lexeme → A → List Lexeme → Type 0) (f : Within P Q) where
  pub separated_deeper : (between : Mark) → Within (IsSeparated between P) (IsSeparated between Q)
  separated_deeper between _ _ _ (the_last ts rest a d) = the_last ts rest a (f ts a rest d)
  separated_deeper between _ _ _ (and_more ts mid rest w a others d ds) = and_more ts mid rest w a others (f ts a _ d) (separated_deeper between mid others rest ds)

  pub many_deeper : Within (IsMany P) (IsMany Q)
  many_deeper _ _ _ (no_more ts) = no_more ts
  many_deeper _ _ _ (one_more ts mid rest a others d ds) = one_more ts mid rest a others (f ts a mid d) (many_deeper mid others rest ds)

  entries_deeper : Within (IsEntries P) (IsEntries Q)
  entries_deeper _ _ _ (no_entry w rest) = no_entry w rest
  entries_deeper _ _ _ (skipped w ts rest others ds) = skipped w ts rest others (entries_deeper ts others rest ds)
  entries_deeper _ _ _ (last_entry ts rest w a d) = last_entry ts rest w a (f ts a _ d)
  entries_deeper _ _ _ (next_entry ts mid rest w a others d ds) = next_entry ts mid rest w a others (f ts a _ d) (entries_deeper mid others rest ds)

  pub block_deeper : Within (IsBlock P) (IsBlock Q)
  block_deeper _ _ _ (a_block w ts rest entries ds) = a_block w ts rest entries (entries_deeper ts entries rest ds)

-- ---- types
module _ (P Q : List Lexeme → Written → List Lexeme → Type 0) (f : Within P Q) where
  pub atype_deeper : Within (IsAtype P) (IsAtype Q)
  atype_deeper _ _ _ (a_type_constructor w name rest) = a_type_constructor w name rest
  atype_deeper _ _ _ (a_type_variable w name rest) = a_type_variable w name rest
  atype_deeper _ _ _ (a_unit_type v w rest) = a_unit_type v w rest
  atype_deeper _ _ _ (a_type_group v w ts rest parts d k) = a_type_group v w ts rest parts (separated_deeper P Q f _ ts parts _ d) k

  btype_deeper : Within (IsBtype P) (IsBtype Q)
  btype_deeper _ _ _ (a_btype ts mid rest head parts d ds) = a_btype ts mid rest head parts (atype_deeper ts head mid d) (many_deeper (IsAtype P) (IsAtype Q) atype_deeper mid parts rest ds)

  pub type_over_deeper : Within (IsTypeOver P) (IsTypeOver Q)
  type_over_deeper _ _ _ (no_arrow ts rest type d) = no_arrow ts rest type (btype_deeper ts type rest d)
  type_over_deeper _ _ _ (an_arrow ts mid rest w from to d k) = an_arrow ts mid rest w from to (btype_deeper ts from _ d) (f mid to rest k)

  constructor_deeper : Within (IsConstructor P) (IsConstructor Q)
  constructor_deeper _ _ _ (a_data_constructor w name ts rest fields ds) = a_data_constructor w name ts rest fields (many_deeper (IsAtype P) (IsAtype Q) atype_deeper ts fields rest ds)

  constructors_deeper : Within (IsConstructors P) (IsConstructors Q)
  constructors_deeper _ _ _ (no_constructors ts) = no_constructors ts
  constructors_deeper _ _ _ (some_constructors w ts rest all ds) = some_constructors w ts rest all (separated_deeper (IsConstructor P) (IsConstructor Q) constructor_deeper _ ts all rest ds)

  pub data_deeper : Within (IsData P) (IsData Q)
  data_deeper _ _ _ (a_data v w name ts mid next rest params classes all ds k x) = a_data v w name ts mid next rest params classes all ds (constructors_deeper mid all next k) x
  data_deeper _ _ _ (a_newtype u v w x name made ts mid next rest params classes field ds k y) = a_newtype u v w x name made ts mid next rest params classes field ds (atype_deeper mid field next k) y

  pub signature_deeper : Within (IsSignature P) (IsSignature Q)
  signature_deeper _ _ _ (a_signature w ts mid next rest names monads type xs c y) = a_signature w ts mid next rest names monads type xs c (f next type rest y)

pub type_deeper : (n : ℕ) → Within (IsType n) (IsType (suc n))
type_deeper zero ts a rest d = absurd d
type_deeper (suc n) ts a rest d = type_over_deeper (IsType n) (IsType (suc n)) (type_deeper n) ts a rest d

-- ---- patterns
module _ (P Q : List Lexeme → Pat Span → List Lexeme → Type 0) (f : Within P Q) where
  pub apat_deeper : Within (IsApat P) (IsApat Q)
  apat_deeper _ _ _ (a_variable_pattern w name rest) = a_variable_pattern w name rest
  apat_deeper _ _ _ (a_wildcard w rest) = a_wildcard w rest
  apat_deeper _ _ _ (a_constant_pattern w name rest) = a_constant_pattern w name rest
  apat_deeper _ _ _ (a_unit_pattern v w rest) = a_unit_pattern v w rest
  apat_deeper _ _ _ (a_pattern_group v w ts rest parts d k) = a_pattern_group v w ts rest parts (separated_deeper P Q f _ ts parts _ d) k

  pub apats_deeper : Within (IsMany (IsApat P)) (IsMany (IsApat Q))
  apats_deeper = many_deeper (IsApat P) (IsApat Q) apat_deeper

  pub pattern_over_deeper : Within (IsPatternOver P) (IsPatternOver Q)
  pattern_over_deeper _ _ _ (an_apat ts rest pat d) = an_apat ts rest pat (apat_deeper ts pat rest d)
  pattern_over_deeper _ _ _ (a_constructor_pattern w name ts rest part parts ds) = a_constructor_pattern w name ts rest part parts (apats_deeper ts _ rest ds)

  pub binding_deeper : Within (IsBindingPattern P) (IsBindingPattern Q)
  binding_deeper _ _ _ (binds_constructor w name ts rest parts ds) = binds_constructor w name ts rest parts (apats_deeper ts parts rest ds)
  binding_deeper _ _ _ (binds_group v w ts rest parts d k t) = binds_group v w ts rest parts (separated_deeper P Q f _ ts parts _ d) k t

  pub left_deeper : Within (IsLeftSide P (IsApat P)) (IsLeftSide Q (IsApat Q))
  left_deeper _ _ _ (a_prefix ts mid rest w name pats d ds) = a_prefix ts mid rest w name pats d (apats_deeper mid pats rest ds)
  left_deeper _ _ _ (an_infix ts mid next rest name left right d o k) = an_infix ts mid next rest name left right (f ts left mid d) o (f next right rest k)

pub pattern_deeper : (n : ℕ) → Within (IsPattern n) (IsPattern (suc n))
pattern_deeper zero ts a rest d = absurd d
pattern_deeper (suc n) ts a rest d = pattern_over_deeper (IsPattern n) (IsPattern (suc n)) (pattern_deeper n) ts a rest d

-- ---- expressions
module _ (P Q : List Lexeme → Expr Span → List Lexeme → Type 0) (f : Within P Q) where
  aexp_deeper : Within (IsAexp P) (IsAexp Q)
  aexp_deeper _ _ _ (a_variable w name rest) = a_variable w name rest
  aexp_deeper _ _ _ (an_operator_variable u v w name rest) = an_operator_variable u v w name rest
  aexp_deeper _ _ _ (a_constructor w name rest) = a_constructor w name rest
  aexp_deeper _ _ _ (a_unit v w rest) = a_unit v w rest
  aexp_deeper _ _ _ (a_group v w ts rest parts d k) = a_group v w ts rest parts (separated_deeper P Q f _ ts parts _ d) k

  guard_deeper : (sign : Mark) → Within (IsGuard sign P) (IsGuard sign Q)
  guard_deeper sign _ _ _ (a_guard v w ts mid rest test body d k) = a_guard v w ts mid rest test body (f ts test _ d) (f mid body rest k)

  pub side_deeper : (sign : Mark) → Within (IsRightSide sign P) (IsRightSide sign Q)
  side_deeper sign _ _ _ (unguarded w ts rest body d) = unguarded w ts rest body (f ts body rest d)
  side_deeper sign _ _ _ (guarded ts rest guard guards ds) = guarded ts rest guard guards (many_deeper (IsGuard sign P) (IsGuard sign Q) (guard_deeper sign) ts _ rest ds)

  module _ (A B : List Lexeme → List (Alt Span) → List Lexeme → Type 0) (g : Within A B) (S T : List Lexeme → List (Stmt Span) → List Lexeme → Type 0) (h : Within S T) where
    pub operand_deeper : Within (IsOperand P A S) (IsOperand Q B T)
    operand_deeper _ _ _ (an_application ts mid rest head parts d ds) = an_application ts mid rest head parts (aexp_deeper ts head mid d) (many_deeper (IsAexp P) (IsAexp Q) aexp_deeper mid parts rest ds)
    operand_deeper _ _ _ (a_case v w ts mid rest a alts d ds) = a_case v w ts mid rest a alts (f ts a _ d) (g mid alts rest ds)
    operand_deeper _ _ _ (a_do v ts rest all d) = a_do v ts rest all (h ts all rest d)

  module _ (R S : List Lexeme → Pat Span → List Lexeme → Type 0) (g : Within R S) (L M : List Lexeme → List (Local Span) → List Lexeme → Type 0) (h : Within L M) where
    module _ (O U : List Lexeme → Expr Span → List Lexeme → Type 0) (k : Within O U) where
      last_deeper : Within (IsLast R P L O) (IsLast S Q M U)
      last_deeper _ _ _ (an_operand ts rest a d) = an_operand ts rest a (k ts a rest d)
      last_deeper _ _ _ (a_lambda v w ts mid rest pat pats body ds d) = a_lambda v w ts mid rest pat pats body (apats_deeper R S g ts _ _ ds) (f mid body rest d)
      last_deeper _ _ _ (a_let v w ts mid rest all body ds d) = a_let v w ts mid rest all body (h ts all _ ds) (f mid body rest d)
      last_deeper _ _ _ (an_if u v w ts first second rest test one other a b d) = an_if u v w ts first second rest test one other (f ts test _ a) (f first one _ b) (f second other rest d)

      chain_deeper : Within (IsChain O (IsLast R P L O)) (IsChain U (IsLast S Q M U))
      chain_deeper _ _ _ (no_operator ts rest a d) = no_operator ts rest a (last_deeper ts a rest d)
      chain_deeper _ _ _ (an_operator ts mid next rest a o others ops d i ds) = an_operator ts mid next rest a o others ops (k ts a mid d) i (chain_deeper next _ rest ds)

      pub expression_over_deeper : Within (IsExpressionOver O (IsLast R P L O)) (IsExpressionOver U (IsLast S Q M U))
      expression_over_deeper _ _ _ (an_expression ts rest others ops d) = an_expression ts rest others ops (chain_deeper ts _ rest d)

    pub where_deeper : Within (IsWhere L) (IsWhere M)
    where_deeper _ _ _ (no_where ts) = no_where ts
    where_deeper _ _ _ (a_where w ts rest all d) = a_where w ts rest all (h ts all rest d)

    pub clause_deeper : Within (IsClause (IsLeftSide R (IsApat R)) P L) (IsClause (IsLeftSide S (IsApat S)) Q M)
    clause_deeper _ _ _ (a_clause ts mid next rest name pats rhs wheres d i w) = a_clause ts mid next rest name pats rhs wheres (left_deeper R S g ts _ mid d) (side_deeper _ mid rhs next i) (where_deeper next wheres rest w)

    alternative_deeper : Within (IsAlternative R P) (IsAlternative S Q)
    alternative_deeper _ _ _ (an_alternative ts mid rest pat rhs d i) = an_alternative ts mid rest pat rhs (g ts pat mid d) (side_deeper _ mid rhs rest i)

    pub alternatives_deeper : Within (IsAlternatives (IsAlternative R P)) (IsAlternatives (IsAlternative S Q))
    alternatives_deeper _ _ _ (alternatives ts rest a others d) = alternatives ts rest a others (block_deeper (IsAlternative R P) (IsAlternative S Q) alternative_deeper ts _ rest d)

    statement_deeper : Within (IsStatement R P L) (IsStatement S Q M)
    statement_deeper _ _ _ (a_bind w ts mid rest pat body d i) = a_bind w ts mid rest pat body (g ts pat _ d) (f mid body rest i)
    statement_deeper _ _ _ (a_let_statement w ts rest all d) = a_let_statement w ts rest all (h ts all rest d)
    statement_deeper _ _ _ (a_run ts rest body d) = a_run ts rest body (f ts body rest d)

    pub statements_deeper : Within (IsStatements (IsStatement R P L)) (IsStatements (IsStatement S Q M))
    statements_deeper _ _ _ (statements ts rest all d k) = statements ts rest all (block_deeper (IsStatement R P L) (IsStatement S Q M) statement_deeper ts all rest d) k

    module _ (Y Z : List Lexeme → Written → List Lexeme → Type 0) (y : Within Y Z) where
      abbrev One : List Lexeme → Bound → List Lexeme → Type 0
      One = IsLocal (IsBindingPattern R) Y (IsClause (IsLeftSide R (IsApat R)) P L) P L

      abbrev Two : List Lexeme → Bound → List Lexeme → Type 0
      Two = IsLocal (IsBindingPattern S) Z (IsClause (IsLeftSide S (IsApat S)) Q M) Q M

      local_deeper : Within One Two
      local_deeper _ _ _ (a_local_signature v w name ts rest type d) = a_local_signature v w name ts rest type (y ts type rest d)
      local_deeper _ _ _ (a_local_clause ts rest name row d k) = a_local_clause ts rest name row (clause_deeper ts _ rest d) k
      local_deeper _ _ _ (a_local_pattern ts mid next rest pat rhs wheres d i w) = a_local_pattern ts mid next rest pat rhs wheres (binding_deeper R S g ts pat mid d) (side_deeper _ mid rhs next i) (where_deeper next wheres rest w)

      pub locals_over_deeper : Within (IsLocalsOver One) (IsLocalsOver Two)
      locals_over_deeper _ _ _ (some_locals ts rest entries d) = some_locals ts rest entries (block_deeper One Two local_deeper ts entries rest d)

mutual
  pub expression_deeper : (n : ℕ) → Within (IsExpression n) (IsExpression (suc n))
  expression_deeper zero ts a rest d = absurd d
  expression_deeper (suc n) ts a rest d =
      let g = pattern_deeper n in
      let h = locals_deeper n in
      let f = expression_deeper n in
      expression_over_deeper (IsExpression n) (IsExpression (suc n)) f (IsPattern n) (IsPattern (suc n)) g (IsLocals n) (IsLocals (suc n)) h _ _
      (operand_deeper (IsExpression n) (IsExpression (suc n)) f _ _ (alternatives_deeper (IsExpression n) (IsExpression (suc n)) f (IsPattern n) (IsPattern (suc n)) g (IsLocals n) (IsLocals (suc n)) h) _ _
      (statements_deeper (IsExpression n) (IsExpression (suc n)) f (IsPattern n) (IsPattern (suc n)) g (IsLocalsBelow n) (IsLocalsBelow (suc n)) (lower_deeper n))) ts a rest d

  pub locals_deeper : (n : ℕ) → Within (IsLocals n) (IsLocals (suc n))
  locals_deeper zero ts a rest d = absurd d
  locals_deeper (suc n) ts a rest d =
      locals_over_deeper (IsExpression n) (IsExpression (suc n)) (expression_deeper n) (IsPattern n) (IsPattern (suc n)) (pattern_deeper n) (IsLocals n) (IsLocals (suc n)) (locals_deeper n) (IsType n) (IsType (suc n)) (type_deeper n) ts a rest d

  lower_deeper : (n : ℕ) → Within (IsLocalsBelow n) (IsLocalsBelow (suc n))
  lower_deeper zero ts a rest d = absurd d
  lower_deeper (suc n) ts a rest d = locals_deeper n ts a rest d

item_one_deeper : (n : ℕ) → Within (IsItem n) (IsItem (suc n))
item_one_deeper n _ _ _ (an_import_item ts rest a x) = an_import_item ts rest a x
item_one_deeper n _ _ _ (a_data_item ts rest a x) = a_data_item ts rest a (data_deeper (IsType n) (IsType (suc n)) (type_deeper n) ts a rest x)
item_one_deeper n _ _ _ (a_fixity_item ts rest a x) = a_fixity_item ts rest a x
item_one_deeper n _ _ _ (a_signature_item ts rest a x) = a_signature_item ts rest a (signature_deeper (IsType n) (IsType (suc n)) (type_deeper n) ts a rest x)
item_one_deeper n _ _ _ (a_clause_item ts rest name row x) =
    a_clause_item ts rest name row (clause_deeper (IsExpression n) (IsExpression (suc n)) (expression_deeper n) (IsPattern n) (IsPattern (suc n)) (pattern_deeper n) (IsLocals n) (IsLocals (suc n)) (locals_deeper n) ts _ rest x)

-- by any number of levels
pub item_deeper : (k n j : ℕ) → j ≡ k + n → Within (IsItem n) (IsItem j)
item_deeper zero n j e ts a rest d = let q : n ≡ j = omega arith in subst (λ z. IsItem z ts a rest) q d
item_deeper (suc k) n j e ts a rest d = let q : suc (k + n) ≡ j = omega arith in subst (λ z. IsItem z ts a rest) q (item_one_deeper (k + n) ts a rest (item_deeper k n (k + n) refl ts a rest d))
