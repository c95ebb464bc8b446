-- Typings of a declaration: when it has one, the most general one, and the default.
use Rattle.std.specs.Prelude.{◌≡◌, ℕ, ◌≤◌, Bool, true, false, List, [], ◌∷◌, length, get_or, Option, Some, None}
use Rattle.rw_scope_rules.specs.declared.binding.Operation.TheVariants.{Bind, Then}
use Rattle.rw_scope_rules.specs.declared.binding.Binding.TheVariants.{Constructor as Constructs}
use Rattle.rw_scope_rules.specs.declared.binding.Bound.{Bound}
use Rattle.rw_scope_rules.specs.Nodes.{Node, expression_node, pattern_node, clause_node, group_node, binding_node, statement_node, declaration_nodes}
use Rattle.rw_tree.specs.Patterns.{Pattern, constructor_pattern}
use Rattle.rw_tree.specs.Trees.{Expression, variable, constructor, alternative, local_signature, local_function, local_pattern, bind_statement, let_statement, run_statement}
use Rattle.rw_tree.specs.Declarations.{Declaration, import_declaration, data_declaration, fixity_declaration, signature_declaration, function_declaration}
use Rattle.rw_types_solving.specs.declared.term.Sort.{Sort}
use Rattle.rw_types_solving.specs.declared.term.Sort.TheVariants as s
use Rattle.rw_types_solving.specs.Types.{Ty, nodes}
use Rattle.rw_types_solving.specs.Sorts.{Heads, HasSort}
use Rattle.rw_types_solving.specs.Tables.{most}
use Rattle.rw_types_solving.specs.Conditions.{is_state_monad}
use Rattle.rw_types_solving.specs.Closing.{closed_as}
use Rattle.rw_types_rules.specs.declared.kind.VariableKind.{VariableKind}
use Rattle.rw_types_rules.specs.declared.kind.VariableKind.TheVariants.{Plain, Monad, StateMonad, Layer}
use Rattle.rw_types_rules.specs.Schemes.{Scheme, operation_scheme, World, scheme_at}
use Rattle.rw_types_rules.specs.TypedTrees.{TypedNode, erased, substituted, pattern_label, expression_label}
use Rattle.rw_types_rules.specs.WellTyped.{DeclarationAgrees}

-- == Kinds of types ==

abbrev pub kind_sort : VariableKind → Sort
kind_sort Plain = s.Plain
kind_sort Monad = s.Monad
kind_sort StateMonad = s.Monad
kind_sort Layer = s.Layer

abbrev pub is_state_kind : VariableKind → Bool
is_state_kind StateMonad = true
is_state_kind _ = false

-- what the unknown types of a declaration are, whose signature has variables of these kinds
abbrev pub unknown_sorts : List VariableKind → ℕ → Sort
unknown_sorts own n = kind_sort (get_or own n Plain)

abbrev pub state_unknowns : List VariableKind → ℕ → Bool
state_unknowns own n = is_state_kind (get_or own n Plain)

-- the kinds of the variables of what a name is bound to
abbrev pub scheme_kinds : Option Scheme → List VariableKind
scheme_kinds None = []
scheme_kinds (Some scheme) = scheme.kinds

-- how many variables the scheme of a constructor has: one for each parameter of its data type
abbrev pub as_many_kinds : Option Scheme → Option ℕ
as_many_kinds None = None
as_many_kinds (Some scheme) = Some (length scheme.kinds)

-- how many parameters the data declaration with this number has; none where it is no data declaration. Each has a constructor
abbrev pub arity_of : World → ℕ → Option ℕ
arity_of world n = as_many_kinds (scheme_at world (Some (Constructs n 0)))

-- what is known of heads in a declaration whose signature has variables of these kinds
abbrev pub heads_of : World → List VariableKind → Heads
heads_of world own = record { unknowns = unknown_sorts own; arity = arity_of world }

-- over the sorts of the variables of a typing, which of them stand for state monads or for layers `StateT s`, the kinds of the unknown types, and the world
module _ (sorts : ℕ → Sort) (states : ℕ → Bool) (own : List VariableKind) (world : World) where
  -- a type of this sort, of at most 1,024 nodes
  abbrev pub IsType : Sort → Ty → Type 0
  IsType sort type = HasSort sorts (heads_of world own) sort type × (nodes type ≤ most)

  -- what a variable of this kind may stand for
  abbrev pub MayBe : VariableKind → Ty → Type 0
  MayBe StateMonad type = IsType s.Monad type × (is_state_monad states (state_unknowns own) type ≡ true)
  MayBe kind type = IsType (kind_sort kind) type

  -- what variables of these kinds may stand for, where anything has to
  abbrev pub MayAllBe : List VariableKind → List Ty → Type 0
  MayAllBe kinds [] = Unit {0}
  MayAllBe [] (type ∷ types) = ⊥
  MayAllBe (kind ∷ kinds) (type ∷ types) = MayBe kind type × MayAllBe kinds types

  abbrev pub Carries : List VariableKind → TypedNode → Type 0
  Carries kinds a = IsType s.Plain a.type × MayAllBe kinds a.arguments

  -- == Nodes ==

  -- the kinds of the arguments of a node
  abbrev pub expression_kinds : Expression TypedNode → List VariableKind
  expression_kinds (variable a x) = scheme_kinds (scheme_at world a.node.bound)
  expression_kinds (constructor a c) = scheme_kinds (scheme_at world a.node.bound)
  expression_kinds _ = []

  abbrev pub pattern_kinds : Pattern TypedNode → List VariableKind
  pattern_kinds (constructor_pattern a c parts) = scheme_kinds (scheme_at world a.node.bound)
  pattern_kinds _ = []

  -- each node carries a type, and arguments for its instance, if it is of one
  abbrev pub NodeCarries : Node TypedNode → Type 0
  NodeCarries (expression_node e) = Carries (expression_kinds e) (expression_label e)
  NodeCarries (pattern_node p) = Carries (pattern_kinds p) (pattern_label p)
  NodeCarries (clause_node (alternative a pats side wheres)) = Carries [] a
  NodeCarries (group_node group) = Unit {0}
  NodeCarries (binding_node (local_signature a x type)) = Carries [] a
  NodeCarries (binding_node (local_function a x clauses)) = Carries [] a
  NodeCarries (binding_node (local_pattern a bound)) = Carries [] a
  NodeCarries (statement_node (bind_statement a p e)) = Carries (operation_scheme Bind).kinds a
  NodeCarries (statement_node (let_statement a group)) = Carries [] a
  NodeCarries (statement_node (run_statement a e)) = Carries (operation_scheme Then).kinds a

  abbrev pub NodesCarry : List (Node TypedNode) → Type 0
  NodesCarry [] = Unit {0}
  NodesCarry (n ∷ ns) = NodeCarries n × NodesCarry ns

-- == Typings ==

abbrev pub declaration_label : {X : Type 0} → Declaration X → X
declaration_label (import_declaration a m) = a
declaration_label (data_declaration a x params constructors) = a
declaration_label (fixity_declaration a side strength names) = a
declaration_label (signature_declaration a names type) = a
declaration_label (function_declaration a x clauses) = a

-- the kinds of the variables of a declaration's own signature
abbrev pub own_kinds : World → Declaration TypedNode → List VariableKind
own_kinds world d = scheme_kinds (scheme_at world (declaration_label d).node.bound)

-- A typing of a declaration: the declaration with types at its nodes, which agree. It may have variables, which stand for every type of their sorts
pub record IsTyping (sorts : ℕ → Sort) (states : ℕ → Bool) (world : World) (d : Declaration Bound) (typed : Declaration TypedNode) : Type 0 where
  pub erases : erased typed ≡ d
  pub agrees : DeclarationAgrees world typed
  pub carries : Carries sorts states (own_kinds world typed) world [] (declaration_label typed)
  pub nodes_carry : NodesCarry sorts states (own_kinds world typed) world (declaration_nodes typed)

-- a declaration that has a typing
pub record IsTypable (world : World) (d : Declaration Bound) : Type 0 where
  pub sorts : ℕ → Sort
  pub states : ℕ → Bool
  pub typed : Declaration TypedNode
  pub typing : IsTyping sorts states world d typed

-- one typed tree is the other, with its variables replaced
pub record IsInstanceOf (general typed : Declaration TypedNode) : Type 0 where
  pub by : ℕ → Ty
  pub same : typed ≡ substituted by general

-- a variable that is left stands for `()`, `I` or `StateT ()`, as its sort is
abbrev pub leftover : (ℕ → Sort) → ℕ → Ty
leftover sorts x = closed_as (sorts x)

-- the default typing: the most general one, of which each typing is an instance, with its leftover variables closed
pub record IsDefault (world : World) (d : Declaration Bound) (typed : Declaration TypedNode) : Type 0 where
  pub general : Declaration TypedNode
  pub sorts : ℕ → Sort
  pub states : ℕ → Bool
  pub typing : IsTyping sorts states world d general
  pub most_general : (v : ℕ → Sort) (y : ℕ → Bool) (other : Declaration TypedNode) → IsTyping v y world d other → IsInstanceOf general other
  pub closed : typed ≡ substituted (leftover sorts) general
