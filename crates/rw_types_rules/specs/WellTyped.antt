-- When the types of a tree agree: one case for each kind of node (of Haskell 2010 Report, chapters 3 and 4, with one type for each local name).
use Rattle.std.specs.Prelude.{◌≡◌, ℕ, List, [], ◌∷◌, ◌++◌, length, map, get_or, slice_get, Bool, true, false, Option, Some, None}
use Rattle.rw_scope_rules.specs.declared.binding.Binding.{Binding}
use Rattle.rw_scope_rules.specs.declared.binding.Binding.TheVariants.{Local}
use Rattle.rw_tree.specs.Patterns.{Pattern, wildcard, variable_pattern, constructor_pattern, tuple_pattern, Patterns, no_patterns, more_patterns}
use Rattle.rw_tree.specs.Trees.{Expression, variable, constructor, application, tuple, chain, lambda, let_in, if_then_else, case_of, do_block, Expressions, no_expressions, more_expressions}
use Rattle.rw_tree.specs.Trees.{Alternative, alternative, Alternatives, no_alternatives, more_alternatives, RightSide, plain_side, guarded_side, GuardedBody, guarded_body, GuardedBodies, no_bodies, more_bodies}
use Rattle.rw_tree.specs.Trees.{LocalBinding, local_signature, local_function, local_pattern, LocalBindings, no_bindings, more_bindings, Statement, bind_statement, let_statement, run_statement, Statements, no_statements, more_statements}
use Rattle.rw_tree.specs.Declarations.{Declaration, import_declaration, data_declaration, fixity_declaration, signature_declaration, function_declaration}
use Rattle.rw_types_solving.specs.Types.{Ty, apply}
use Rattle.rw_types_rules.specs.Words.{function, functions, tuple_type, unit_type, computation, unknown}
use Rattle.rw_types_rules.specs.Written.{type_of}
use Rattle.rw_types_rules.specs.Schemes.{Scheme, scheme_type, World, bool_type, scheme_at}
use Rattle.rw_types_rules.specs.TypedTrees.{TypedNode, alternative_label, pattern_type, row_types, parts_types, expression_type, expressions_types, row_locals, group_locals, statement_locals, are_none}

-- == Instances ==

-- a variable of a signature stands for the argument with its number: there is one for each
abbrev pub given : List Ty → ℕ → Ty
given arguments x = get_or arguments x unit_type

-- a name of this scheme has this type, for these arguments
abbrev pub IsInstance : Option Scheme → List Ty → Ty → Type 0
IsInstance None arguments type = ⊥
IsInstance (Some s) arguments type = (length arguments ≡ length s.kinds) × (type ≡ apply (given arguments) (scheme_type s))

-- a constructor of this scheme is matched: its fields have these types, one for each, and the whole has this type
abbrev pub IsMatched : Option Scheme → List Ty → List Ty → Ty → Type 0
IsMatched None arguments parts type = ⊥
IsMatched (Some s) arguments parts type =
    (length arguments ≡ length s.kinds) × (parts ≡ map (apply (given arguments)) s.takes) × (type ≡ apply (given arguments) s.gives)

-- `p <- e` in a block is `>>=`, at these arguments: e is a computation, p has the type of its result, and the block is a computation of the same monad
abbrev pub IsBind : List Ty → Ty → Ty → Ty → Type 0
IsBind (n ∷ a ∷ b ∷ []) e p block = (e ≡ computation n a) × (p ≡ a) × (block ≡ computation n b)
IsBind _ e p block = ⊥

-- `e` in a block, before another statement, is `>>`
abbrev pub IsThen : List Ty → Ty → Ty → Type 0
IsThen (n ∷ a ∷ b ∷ []) e block = (e ≡ computation n a) × (block ≡ computation n b)
IsThen _ e block = ⊥

-- a declaration's own signature holds with its variables as unknown types
abbrev pub IsOwnType : Option Scheme → Ty → Type 0
IsOwnType None type = ⊥
IsOwnType (Some s) type = type ≡ apply unknown (scheme_type s)

-- == Local signatures ==

-- the type of a local signature is the type of the name that it is for
abbrev pub IsSigned : List Ty → Option Binding → Ty → Type 0
IsSigned locals (Some (Local k)) type = slice_get locals k ≡ Some type
IsSigned locals _ type = Unit {0}

-- == Trees ==

module _ (world : World) where
  -- the parts of a pattern agree; its variables and `_` are of any type
  abbrev mutual
    pub PatternAgrees : Pattern TypedNode → Type 0
    PatternAgrees (wildcard a) = Unit {0}
    PatternAgrees (variable_pattern a x) = Unit {0}
    PatternAgrees (constructor_pattern a c parts) = IsMatched (scheme_at world a.node.bound) a.arguments (parts_types parts) a.type × PartsAgree parts
    PatternAgrees (tuple_pattern a parts) = (a.type ≡ tuple_type (parts_types parts)) × PartsAgree parts

    pub PartsAgree : Patterns TypedNode → Type 0
    PartsAgree no_patterns = Unit {0}
    PartsAgree (more_patterns p ps) = PatternAgrees p × PartsAgree ps

  abbrev pub RowAgrees : List (Pattern TypedNode) → Type 0
  RowAgrees [] = Unit {0}
  RowAgrees (p ∷ ps) = PatternAgrees p × RowAgrees ps

  -- a name has its binder's type where it is local, and else an instance of its scheme
  abbrev pub NameAgrees : List Ty → Option Binding → TypedNode → Type 0
  NameAgrees locals (Some (Local k)) a = slice_get locals k ≡ Some a.type
  NameAgrees locals binding a = IsInstance (scheme_at world binding) a.arguments a.type

  -- where the local names have these types, by their numbers
  abbrev mutual
    pub ExpressionAgrees : List Ty → Expression TypedNode → Type 0
    ExpressionAgrees locals (variable a x) = NameAgrees locals a.node.bound a
    ExpressionAgrees locals (constructor a c) = IsInstance (scheme_at world a.node.bound) a.arguments a.type
    ExpressionAgrees locals (application a head parts) =
        (expression_type head ≡ functions (expressions_types parts) a.type) × ExpressionAgrees locals head × ExpressionsAgree locals parts
    ExpressionAgrees locals (tuple a parts) = (a.type ≡ tuple_type (expressions_types parts)) × ExpressionsAgree locals parts
    -- a chain that is not grouped has no type
    ExpressionAgrees locals (chain a operands operators) = ⊥
    ExpressionAgrees locals (lambda a pats body) =
        (a.type ≡ functions (row_types pats) (expression_type body)) × RowAgrees pats × ExpressionAgrees (locals ++ row_locals pats) body
    ExpressionAgrees locals (let_in a group body) =
        (a.type ≡ expression_type body) × GroupAgrees (locals ++ group_locals group) group × ExpressionAgrees (locals ++ group_locals group) body
    ExpressionAgrees locals (if_then_else a test first second) =
        ((expression_type test ≡ bool_type world) × (a.type ≡ expression_type first) × (a.type ≡ expression_type second))
        × ExpressionAgrees locals test × ExpressionAgrees locals first × ExpressionAgrees locals second
    ExpressionAgrees locals (case_of a scrutinee rows) =
        ExpressionAgrees locals scrutinee × ClausesAgree locals (function (expression_type scrutinee) a.type) rows
    ExpressionAgrees locals (do_block a statements) = StatementsAgree locals a.type statements

    pub ExpressionsAgree : List Ty → Expressions TypedNode → Type 0
    ExpressionsAgree locals no_expressions = Unit {0}
    ExpressionsAgree locals (more_expressions e es) = ExpressionAgrees locals e × ExpressionsAgree locals es

    -- a clause or an alternative has the type of a function from its patterns to each of its bodies
    pub ClauseAgrees : List Ty → Alternative TypedNode → Type 0
    ClauseAgrees locals (alternative a pats side wheres) =
        RowAgrees pats × SideAgrees ((locals ++ row_locals pats) ++ group_locals wheres) (row_types pats) a.type side
        × GroupAgrees ((locals ++ row_locals pats) ++ group_locals wheres) wheres

    -- clauses of one type
    pub ClausesAgree : List Ty → Ty → Alternatives TypedNode → Type 0
    ClausesAgree locals type no_alternatives = Unit {0}
    ClausesAgree locals type (more_alternatives c cs) = ((alternative_label c).type ≡ type) × ClauseAgrees locals c × ClausesAgree locals type cs

    -- a right side whose bodies, as functions of these types, are of one type
    pub SideAgrees : List Ty → List Ty → Ty → RightSide TypedNode → Type 0
    SideAgrees locals from type (plain_side body) = (type ≡ functions from (expression_type body)) × ExpressionAgrees locals body
    SideAgrees locals from type (guarded_side bodies) = BodiesAgree locals from type bodies

    pub BodyAgrees : List Ty → List Ty → Ty → GuardedBody TypedNode → Type 0
    BodyAgrees locals from type (guarded_body test body) =
        ((expression_type test ≡ bool_type world) × (type ≡ functions from (expression_type body)))
        × ExpressionAgrees locals test × ExpressionAgrees locals body

    pub BodiesAgree : List Ty → List Ty → Ty → GuardedBodies TypedNode → Type 0
    BodiesAgree locals from type no_bodies = Unit {0}
    BodiesAgree locals from type (more_bodies b bs) = BodyAgrees locals from type b × BodiesAgree locals from type bs

    -- a binding of a group: the names of the group are among the local ones
    pub BindingAgrees : List Ty → LocalBinding TypedNode → Type 0
    BindingAgrees locals (local_signature a x type) = (a.type ≡ type_of world.types [] type) × IsSigned locals a.node.bound a.type
    BindingAgrees locals (local_function a x clauses) = ClausesAgree locals a.type clauses
    BindingAgrees locals (local_pattern a bound) = BoundPatternAgrees locals a.type bound

    -- a bound pattern and its right side are of this type
    pub BoundPatternAgrees : List Ty → Ty → Alternative TypedNode → Type 0
    BoundPatternAgrees locals type (alternative a pats side wheres) =
        ((a.type ≡ type) × (row_types pats ≡ type ∷ []) × RowAgrees pats)
        × SideAgrees (locals ++ group_locals wheres) [] type side × GroupAgrees (locals ++ group_locals wheres) wheres

    pub GroupAgrees : List Ty → LocalBindings TypedNode → Type 0
    GroupAgrees locals no_bindings = Unit {0}
    GroupAgrees locals (more_bindings b bs) = BindingAgrees locals b × GroupAgrees locals bs

    -- a statement of a block of this type, the last one or another. Each has the block's type, which is the type of what is left of the block there
    pub StatementAgrees : List Ty → Ty → Bool → Statement TypedNode → Type 0
    StatementAgrees locals block true (run_statement a e) = ((a.type ≡ block) × (a.arguments ≡ []) × (expression_type e ≡ block)) × ExpressionAgrees locals e
    StatementAgrees locals block true _ = ⊥
    StatementAgrees locals block false (run_statement a e) = ((a.type ≡ block) × IsThen a.arguments (expression_type e) block) × ExpressionAgrees locals e
    StatementAgrees locals block false (bind_statement a p e) =
        ((a.type ≡ block) × IsBind a.arguments (expression_type e) (pattern_type p) block) × PatternAgrees p × ExpressionAgrees locals e
    StatementAgrees locals block false (let_statement a group) = (a.type ≡ block) × GroupAgrees (locals ++ group_locals group) group

    pub StatementsAgree : List Ty → Ty → Statements TypedNode → Type 0
    StatementsAgree locals block no_statements = Unit {0}
    StatementsAgree locals block (more_statements s ss) = StatementAgrees locals block (are_none ss) s × StatementsAgree (locals ++ statement_locals s) block ss

  -- the clauses of a declaration
  abbrev pub AllClausesAgree : Ty → List (Alternative TypedNode) → Type 0
  AllClausesAgree type [] = Unit {0}
  AllClausesAgree type (c ∷ cs) = ((alternative_label c).type ≡ type) × ClauseAgrees [] c × AllClausesAgree type cs

  -- the types of a declaration agree; one that is no function is of no type, which the unit type stands for
  abbrev pub DeclarationAgrees : Declaration TypedNode → Type 0
  DeclarationAgrees (import_declaration a m) = a.type ≡ unit_type
  DeclarationAgrees (data_declaration a x params constructors) = a.type ≡ unit_type
  DeclarationAgrees (fixity_declaration a side strength names) = a.type ≡ unit_type
  DeclarationAgrees (signature_declaration a names type) = a.type ≡ unit_type
  DeclarationAgrees (function_declaration a x clauses) = IsOwnType (scheme_at world a.node.bound) a.type × AllClausesAgree a.type clauses
