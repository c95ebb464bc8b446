-- Which flat term a typed expression, with closed types at its nodes, flattens to: at most one.
use Rattle.std.specs.Prelude.{◌≡◌, ℕ, zero, suc, ◌+◌, Bool, true, false, List, [], ◌∷◌, length, Option, Some}
use Rattle.rw_scope_rules.specs.declared.binding.Operation.TheVariants.{Return, Bind, Then, Get, Put, Lift, Signal, Extrude}
use Rattle.rw_scope_rules.specs.declared.binding.Binding.{Binding}
use Rattle.rw_scope_rules.specs.declared.binding.Binding.TheVariants.{Declared, Operation as Operates, Constructor as Constructs, Local}
use Rattle.rw_scope_rules.specs.declared.binding.Bound.{Bound}
use Rattle.rw_scope_rules.specs.Bindings.{binding_variables, group_variables}
use Rattle.rw_scope_rules.specs.Nodes.{bindings_of}
use Rattle.rw_scope_orders.specs.Groups.{Numbered, in_order}
use Rattle.rw_tree.specs.Patterns.{Pattern, variable_pattern}
use Rattle.rw_tree.specs.Trees.{Expression, variable, constructor, application, tuple, lambda, let_in, if_then_else, case_of, do_block, Expressions}
use Rattle.rw_tree.specs.Trees.{alternative, Alternatives, no_alternatives, more_alternatives, RightSide, plain_side, guarded_side, GuardedBody, guarded_body, GuardedBodies, no_bodies, more_bodies}
use Rattle.rw_tree.specs.Trees.{LocalBinding, local_signature, local_function, local_pattern, LocalBindings, bind_statement, let_statement, run_statement, Statement, Statements, no_statements, more_statements}
use Rattle.rw_tree.specs.Types.{WrittenType}
use Rattle.rw_tree.specs.Declarations.{Declaration}
use Rattle.rw_core.specs.Options.{◌>>=◌}
use Rattle.rw_meaning.specs.Evaluation.{declaration_at, fields_at, constructors_in}
use Rattle.rw_types_solving.specs.Types.{Ty}
use Rattle.rw_types_rules.specs.TypedTrees.{TypedNode, expression_type}
use Rattle.rw_core_flat.specs.Terms.{FlatPattern, bound_pattern, FlatPatterns}
use Rattle.rw_core_flat.specs.Terms.{FlatTerm, local_term, built_term, case_term, let_term, call_term, mark_term, return_term, get_term, put_term, lift_term, bind_term, signal_term, extrude_term, FlatTerms, no_terms, more_terms}
use Rattle.rw_core_flat.specs.Terms.{FlatLets, no_lets, more_lets, FlatRows, no_rows, more_rows, FlatArms, body_arm, no_arms, more_arms}
use Rattle.inline_ho_rules.specs.Meants.{Meant, flat, suspended, local_use, Meants, no_meants, more_meants, meant_at, joined_meants, meant_count, placed, placed_all, all_unplaced, suspended_parts, flats, IsPattern, Columns, no_columns, value_column, AreColumns, AreMatched, AreVariables}
use Rattle.inline_ho_rules.specs.Flattening.{if_rows, side_term}
use Rattle.inline_ho_rules.specs.Orders.{is_data, is_low, parameters_of, result_of}

-- == What types and forms decide ==

abbrev pub typed_binding : TypedNode → Option Binding
typed_binding a = a.node.bound

-- whether an argument is data. A flat variable always is
abbrev pub is_datum : Meant TypedNode → Bool
is_datum (flat y) = true
is_datum (suspended E e) = is_data (expression_type e)
is_datum _ = false

-- a variable that is a flat variable from now on, without a let
abbrev pub is_named_at_once : Pattern TypedNode → Meant TypedNode → Bool
is_named_at_once (variable_pattern a x) (flat y) = true
is_named_at_once _ _ = false

abbrev pub are_variables : List (Pattern TypedNode) → Bool
are_variables [] = true
are_variables (variable_pattern a x ∷ ps) = are_variables ps
are_variables (_ ∷ ps) = false

-- one clause with variables alone and no guard
abbrev pub is_plain : Alternatives TypedNode → Bool
is_plain (more_alternatives (alternative a pats (plain_side e) wheres) no_alternatives) = are_variables pats
is_plain _ = false

-- how many patterns clauses have
abbrev pub patterns_before : Alternatives TypedNode → ℕ
patterns_before no_alternatives = 0
patterns_before (more_alternatives (alternative a pats side wheres) rows) = length pats

-- == Groups ==

-- the bindings of a group in the order in which they are placed
abbrev pub order_of : LocalBindings TypedNode → List (Numbered TypedNode)
order_of group = in_order typed_binding (bindings_of group)

-- the number of the first name that the binding with this place in its group binds
abbrev pub first_name : List (LocalBinding TypedNode) → ℕ → ℕ
first_name bs zero = 0
first_name [] (suc n) = 0
first_name (b ∷ bs) (suc n) = length (binding_variables b) + first_name bs n

abbrev pub unplaced_names : LocalBindings TypedNode → Meants TypedNode
unplaced_names group = all_unplaced (length (group_variables group))

-- == Terms ==

-- over a program, the number of the flat function of an instance, if it has one, and the clauses of an instance, with closed types: by the number of its declaration and its
-- arguments; and the numbers of data types in the table
module _ (program : List (Declaration Bound)) (function_of : ℕ → List Ty → Option ℕ) (clauses_of : ℕ → List Ty → Option (Alternatives TypedNode)) (number_of : Ty → Option ℕ) where
  mutual
    -- the next flat variable has this number; the names stand for this; the expression, applied to these arguments, flattens to this term
    pub data IsTypedFlat : ℕ → Meants TypedNode → Expression TypedNode → Meants TypedNode → FlatTerm → Type 0 where
      is_variable : {d : ℕ} {E args : Meants TypedNode} {a : TypedNode} {x : List ℕ} {b : Option Binding} {t : FlatTerm} → a.node.bound ≡ b → IsNamed d E a b args t → IsTypedFlat d E (variable a x) args t
      is_constructor : {d : ℕ} {E args : Meants TypedNode} {a : TypedNode} {c : List ℕ} {n place type : ℕ} {ts : FlatTerms}
          → a.node.bound ≡ Some (Constructs n place) → number_of (result_of a.type) ≡ Some type → (declaration_at n program >>= λ d. fields_at place (constructors_in d)) ≡ Some (meant_count args) → AreData d args ts
          → IsTypedFlat d E (constructor a c) args (built_term type place ts)
      is_application : {d : ℕ} {E args : Meants TypedNode} {a : TypedNode} {head : Expression TypedNode} {parts : Expressions TypedNode} {t : FlatTerm}
          → IsTypedFlat d E head (joined_meants (suspended_parts E parts) args) t → IsTypedFlat d E (application a head parts) args t
      is_tuple_of : {d type : ℕ} {E : Meants TypedNode} {a : TypedNode} {parts : Expressions TypedNode} {ts : FlatTerms} → number_of a.type ≡ Some type → AreData d (suspended_parts E parts) ts → IsTypedFlat d E (tuple a parts) no_meants (built_term type 0 ts)
      is_lambda : {d : ℕ} {E args : Meants TypedNode} {a : TypedNode} {p : Pattern TypedNode} {pats : List (Pattern TypedNode)} {body : Expression TypedNode} {t : FlatTerm}
          → IsLambda d E (p ∷ pats) body args t → IsTypedFlat d E (lambda a (p ∷ pats) body) args t
      is_let : {d d' : ℕ} {E args ms : Meants TypedNode} {a : TypedNode} {group : LocalBindings TypedNode} {body : Expression TypedNode} {lets : FlatLets} {t : FlatTerm}
          → IsPlaced group (order_of group) d E (unplaced_names group) lets d' ms → IsTypedFlat d' (joined_meants E ms) body args t → IsTypedFlat d E (let_in a group body) args (let_term lets t)
      is_case : {d : ℕ} {E args : Meants TypedNode} {a : TypedNode} {e : Expression TypedNode} {rows : Alternatives TypedNode} {s : FlatTerm} {frows : FlatRows}
          → IsTypedFlat d E e no_meants s → AreRows d E (value_column no_columns) rows args frows → IsTypedFlat d E (case_of a e rows) args (case_term (more_terms s no_terms) frows)
      is_if : {d : ℕ} {E args : Meants TypedNode} {a : TypedNode} {b e e' : Expression TypedNode} {s t u : FlatTerm} → IsTypedFlat d E b no_meants s → IsTypedFlat d E e args t → IsTypedFlat d E e' args u
          → IsTypedFlat d E (if_then_else a b e e') args (case_term (more_terms s no_terms) (if_rows t u))
      -- statements
      is_last : {d : ℕ} {E args : Meants TypedNode} {a b : TypedNode} {e : Expression TypedNode} {t : FlatTerm} → IsTypedFlat d E e args t → IsTypedFlat d E (do_block a (more_statements (run_statement b e) no_statements)) args t
      is_run : {d : ℕ} {E : Meants TypedNode} {a b : TypedNode} {e : Expression TypedNode} {s : Statement TypedNode} {ss : Statements TypedNode} {t u : FlatTerm} → IsTypedFlat d E e no_meants t
          → IsTypedFlat (suc d) E (do_block a (more_statements s ss)) no_meants u → IsTypedFlat d E (do_block a (more_statements (run_statement b e) (more_statements s ss))) no_meants (bind_term t u)
      is_bound : {d : ℕ} {E : Meants TypedNode} {a b : TypedNode} {p : Pattern TypedNode} {e : Expression TypedNode} {ss : Statements TypedNode} {t u : FlatTerm} → IsTypedFlat d E e no_meants t
          → IsLambda (suc d) E (p ∷ []) (do_block a ss) (more_meants (flat d) no_meants) u → IsTypedFlat d E (do_block a (more_statements (bind_statement b p e) ss)) no_meants (bind_term t u)
      is_let_then : {d d' : ℕ} {E args ms : Meants TypedNode} {a b : TypedNode} {group : LocalBindings TypedNode} {ss : Statements TypedNode} {lets : FlatLets} {t : FlatTerm}
          → IsPlaced group (order_of group) d E (unplaced_names group) lets d' ms → IsTypedFlat d' (joined_meants E ms) (do_block a ss) args t
          → IsTypedFlat d E (do_block a (more_statements (let_statement b group) ss)) args (let_term lets t)

    -- a name that is bound to this
    pub data IsNamed : ℕ → Meants TypedNode → TypedNode → Option Binding → Meants TypedNode → FlatTerm → Type 0 where
      is_local : {d k : ℕ} {E args : Meants TypedNode} {a : TypedNode} {m : Option (Meant TypedNode)} {t : FlatTerm} → meant_at k E ≡ m → IsLocal d m args t → IsNamed d E a (Some (Local k)) args t
      is_called : {d n i : ℕ} {E args : Meants TypedNode} {a : TypedNode} {ts : FlatTerms} → is_low a.type ≡ true → function_of n a.arguments ≡ Some i → length (parameters_of a.type) ≡ meant_count args → AreData d args ts
          → IsNamed d E a (Some (Declared n)) args (call_term i ts)
      is_inlined : {d n : ℕ} {E args : Meants TypedNode} {a : TypedNode} {cs : Alternatives TypedNode} {t : FlatTerm} → is_low a.type ≡ false → clauses_of n a.arguments ≡ Some cs → IsInlined d no_meants cs args t
          → IsNamed d E a (Some (Declared n)) args (mark_term t)
      -- operations
      is_return : {d : ℕ} {E : Meants TypedNode} {a : TypedNode} {m : Meant TypedNode} {t : FlatTerm} → IsDatum d m t → IsNamed d E a (Some (Operates Return)) (more_meants m no_meants) (return_term t)
      is_signal : {d : ℕ} {E : Meants TypedNode} {a : TypedNode} {m : Meant TypedNode} {t : FlatTerm} → IsDatum d m t → IsNamed d E a (Some (Operates Signal)) (more_meants m no_meants) (signal_term t)
      is_put : {d : ℕ} {E : Meants TypedNode} {a : TypedNode} {m : Meant TypedNode} {t : FlatTerm} → IsDatum d m t → IsNamed d E a (Some (Operates Put)) (more_meants m no_meants) (put_term t)
      is_get : {d : ℕ} {E : Meants TypedNode} {a : TypedNode} → IsNamed d E a (Some (Operates Get)) no_meants get_term
      is_lift : {d : ℕ} {E E' : Meants TypedNode} {a : TypedNode} {e : Expression TypedNode} {t : FlatTerm} → IsTypedFlat d E' e no_meants t
          → IsNamed d E a (Some (Operates Lift)) (more_meants (suspended E' e) no_meants) (lift_term t)
      is_bind : {d : ℕ} {E E' E'' : Meants TypedNode} {a : TypedNode} {e k : Expression TypedNode} {t u : FlatTerm} → IsTypedFlat d E' e no_meants t → IsTypedFlat (suc d) E'' k (more_meants (flat d) no_meants) u
          → IsNamed d E a (Some (Operates Bind)) (more_meants (suspended E' e) (more_meants (suspended E'' k) no_meants)) (bind_term t u)
      is_then : {d : ℕ} {E E' E'' : Meants TypedNode} {a : TypedNode} {e k : Expression TypedNode} {t u : FlatTerm} → IsTypedFlat d E' e no_meants t → IsTypedFlat (suc d) E'' k no_meants u
          → IsNamed d E a (Some (Operates Then)) (more_meants (suspended E' e) (more_meants (suspended E'' k) no_meants)) (bind_term t u)
      is_extrude : {d : ℕ} {E E' : Meants TypedNode} {a : TypedNode} {e : Expression TypedNode} {m : Meant TypedNode} {t u : FlatTerm} → IsTypedFlat d E' e no_meants t → IsDatum d m u
          → IsNamed d E a (Some (Operates Extrude)) (more_meants (suspended E' e) (more_meants m no_meants)) (extrude_term t u)

    -- a local name that stands for this
    pub data IsLocal : ℕ → Option (Meant TypedNode) → Meants TypedNode → FlatTerm → Type 0 where
      is_flat : {d y : ℕ} → IsLocal d (Some (flat y)) no_meants (local_term y)
      is_argument : {d : ℕ} {E args : Meants TypedNode} {e : Expression TypedNode} {t : FlatTerm} → IsTypedFlat d E e args t → IsLocal d (Some (suspended E e)) args t
      is_used : {d : ℕ} {E args : Meants TypedNode} {cs : Alternatives TypedNode} {t : FlatTerm} → IsInlined d E cs args t → IsLocal d (Some (local_use E cs)) args (mark_term t)

    -- the term of a data argument
    pub data IsDatum : ℕ → Meant TypedNode → FlatTerm → Type 0 where
      suspended_datum : {d : ℕ} {E : Meants TypedNode} {e : Expression TypedNode} {t : FlatTerm} → IsTypedFlat d E e no_meants t → IsDatum d (suspended E e) t
      flat_datum : {d y : ℕ} → IsDatum d (flat y) (local_term y)

    pub data AreData : ℕ → Meants TypedNode → FlatTerms → Type 0 where
      no_data : {d : ℕ} → AreData d no_meants no_terms
      more_data : {d : ℕ} {m : Meant TypedNode} {args : Meants TypedNode} {t : FlatTerm} {ts : FlatTerms} → IsDatum d m t → AreData d args ts → AreData d (more_meants m args) (more_terms t ts)

    -- a lambda of which these patterns are left
    pub data IsLambda : ℕ → Meants TypedNode → List (Pattern TypedNode) → Expression TypedNode → Meants TypedNode → FlatTerm → Type 0 where
      lambda_body : {d : ℕ} {E args : Meants TypedNode} {body : Expression TypedNode} {t : FlatTerm} → IsTypedFlat d E body args t → IsLambda d E [] body args t
      lambda_named : {d y : ℕ} {E args : Meants TypedNode} {a : TypedNode} {x : List ℕ} {ps : List (Pattern TypedNode)} {body : Expression TypedNode} {t : FlatTerm}
          → IsLambda d (joined_meants E (more_meants (flat y) no_meants)) ps body args t → IsLambda d E (variable_pattern a x ∷ ps) body (more_meants (flat y) args) t
      lambda_matched : {d n : ℕ} {E args : Meants TypedNode} {m : Meant TypedNode} {p : Pattern TypedNode} {ps : List (Pattern TypedNode)} {body : Expression TypedNode} {q : FlatPattern} {s t : FlatTerm} → is_named_at_once p m ≡ false
          → IsDatum d m s → IsPattern typed_binding p q n → IsLambda (n + d) (joined_meants E (flats d n)) ps body args t
          → IsLambda d E (p ∷ ps) body (more_meants m args) (let_term (more_lets q s no_lets) t)

    -- clauses put in place of a call: data arguments are bound first
    pub data IsInlined : ℕ → Meants TypedNode → Alternatives TypedNode → Meants TypedNode → FlatTerm → Type 0 where
      is_group : {d d' : ℕ} {E args params rest : Meants TypedNode} {cs : Alternatives TypedNode} {lets : FlatLets} {t : FlatTerm}
          → AreParams d (patterns_before cs) args lets d' params rest → IsBody d' E cs params rest t → IsInlined d E cs args (let_term lets t)

    -- so many of the arguments as parameters, and the rest of them
    pub data AreParams : ℕ → ℕ → Meants TypedNode → FlatLets → ℕ → Meants TypedNode → Meants TypedNode → Type 0 where
      no_params : {d : ℕ} {args : Meants TypedNode} → AreParams d 0 args no_lets d no_meants args
      data_param : {d d' n : ℕ} {m : Meant TypedNode} {args params rest : Meants TypedNode} {t : FlatTerm} {lets : FlatLets} → is_datum m ≡ true → IsDatum d m t → AreParams (suc d) n args lets d' params rest
          → AreParams d (suc n) (more_meants m args) (more_lets bound_pattern t lets) d' (more_meants (flat d) params) rest
      function_param : {d d' n : ℕ} {E args params rest : Meants TypedNode} {e : Expression TypedNode} {lets : FlatLets} → is_datum (suspended E e) ≡ false → AreParams d n args lets d' params rest
          → AreParams d (suc n) (more_meants (suspended E e) args) lets d' (more_meants (suspended E e) params) rest

    -- clauses over their parameters, applied to further arguments
    pub data IsBody : ℕ → Meants TypedNode → Alternatives TypedNode → Meants TypedNode → Meants TypedNode → FlatTerm → Type 0 where
      plain_body : {d d' : ℕ} {E params args ms : Meants TypedNode} {a : TypedNode} {pats : List (Pattern TypedNode)} {e : Expression TypedNode} {wheres : LocalBindings TypedNode} {lets : FlatLets} {t : FlatTerm}
          → AreVariables pats params → IsPlaced wheres (order_of wheres) d (joined_meants E params) (unplaced_names wheres) lets d' ms
          → IsTypedFlat d' (joined_meants (joined_meants E params) ms) e args t
          → IsBody d E (more_alternatives (alternative a pats (plain_side e) wheres) no_alternatives) params args (let_term lets t)
      rows_body : {d : ℕ} {E params args : Meants TypedNode} {cs : Alternatives TypedNode} {cols : Columns TypedNode} {ts : FlatTerms} {frows : FlatRows}
          → is_plain cs ≡ false → AreMatched params cols ts → AreRows d E cols cs args frows → IsBody d E cs params args (case_term ts frows)

    pub data AreRows : ℕ → Meants TypedNode → Columns TypedNode → Alternatives TypedNode → Meants TypedNode → FlatRows → Type 0 where
      none_rows : {d : ℕ} {E args : Meants TypedNode} {cols : Columns TypedNode} → AreRows d E cols no_alternatives args no_rows
      some_rows : {d d' d'' : ℕ} {E args ms ns : Meants TypedNode} {cols : Columns TypedNode} {a : TypedNode} {pats : List (Pattern TypedNode)} {body : RightSide TypedNode} {wheres : LocalBindings TypedNode} {others : Alternatives TypedNode}
          {qs : FlatPatterns} {lets : FlatLets} {arms : FlatArms} {frows : FlatRows}
          → AreColumns typed_binding d cols pats qs ms d' → IsPlaced wheres (order_of wheres) d' (joined_meants E ms) (unplaced_names wheres) lets d'' ns
          → AreArms d'' (joined_meants (joined_meants E ms) ns) body args arms → AreRows d E cols others args frows
          → AreRows d E cols (more_alternatives (alternative a pats body wheres) others) args (more_rows qs lets arms frows)

    pub data AreArms : ℕ → Meants TypedNode → RightSide TypedNode → Meants TypedNode → FlatArms → Type 0 where
      one_arm : {d : ℕ} {E args : Meants TypedNode} {e : Expression TypedNode} {t : FlatTerm} → IsTypedFlat d E e args t → AreArms d E (plain_side e) args (body_arm t)
      -- there is a first guard
      guarded_arms : {d : ℕ} {E args : Meants TypedNode} {b : GuardedBody TypedNode} {bodies : GuardedBodies TypedNode} {arms : FlatArms} → AreGuarded d E (more_bodies b bodies) args arms → AreArms d E (guarded_side (more_bodies b bodies)) args arms

    pub data AreGuarded : ℕ → Meants TypedNode → GuardedBodies TypedNode → Meants TypedNode → FlatArms → Type 0 where
      none_guarded : {d : ℕ} {E args : Meants TypedNode} → AreGuarded d E no_bodies args no_arms
      some_guarded : {d : ℕ} {E args : Meants TypedNode} {g e : Expression TypedNode} {others : GuardedBodies TypedNode} {s t : FlatTerm} {arms : FlatArms}
          → IsTypedFlat d E g no_meants s → IsTypedFlat d E e args t → AreGuarded d E others args arms → AreGuarded d E (more_bodies (guarded_body g e) others) args (more_arms s t arms)

    -- bindings in the order in which they are placed: the environment before the group, what its names stand for so far, what is bound, the next number after it, and what the names stand for at last
    pub data IsPlaced : LocalBindings TypedNode → List (Numbered TypedNode) → ℕ → Meants TypedNode → Meants TypedNode → FlatLets → ℕ → Meants TypedNode → Type 0 where
      all_placed : {group : LocalBindings TypedNode} {d : ℕ} {E ms : Meants TypedNode} → IsPlaced group [] d E ms no_lets d ms
      signature_placed : {n d d' : ℕ} {E ms ns : Meants TypedNode} {a : TypedNode} {x : List ℕ} {type : WrittenType} {group : LocalBindings TypedNode} {order : List (Numbered TypedNode)} {lets : FlatLets}
          → IsPlaced group order d E ms lets d' ns → IsPlaced group ((n, local_signature a x type) ∷ order) d E ms lets d' ns
      data_placed : {n d d' : ℕ} {E ms ns : Meants TypedNode} {a : TypedNode} {x : List ℕ} {cs : Alternatives TypedNode} {group : LocalBindings TypedNode} {order : List (Numbered TypedNode)} {t : FlatTerm} {lets : FlatLets}
          → is_data a.type ≡ true → patterns_before cs ≡ 0 → IsBody d (joined_meants E ms) cs no_meants no_meants t
          → IsPlaced group order (suc d) E (placed (first_name (bindings_of group) n) (flat d) ms) lets d' ns → IsPlaced group ((n, local_function a x cs) ∷ order) d E ms (more_lets bound_pattern t lets) d' ns
      use_placed : {n d d' : ℕ} {E ms ns : Meants TypedNode} {a : TypedNode} {x : List ℕ} {cs : Alternatives TypedNode} {group : LocalBindings TypedNode} {order : List (Numbered TypedNode)} {lets : FlatLets}
          → is_data a.type ≡ false → IsPlaced group order d E (placed (first_name (bindings_of group) n) (local_use (joined_meants E ms) cs) ms) lets d' ns → IsPlaced group ((n, local_function a x cs) ∷ order) d E ms lets d' ns
      pattern_placed : {n m d d' d'' : ℕ} {E ms ns inner : Meants TypedNode} {a b : TypedNode} {p : Pattern TypedNode} {body : RightSide TypedNode} {wheres : LocalBindings TypedNode} {group : LocalBindings TypedNode} {order : List (Numbered TypedNode)} {q : FlatPattern} {arms : FlatArms} {lets others : FlatLets} {t : FlatTerm}
          → IsPattern typed_binding p q m
          → IsPlaced wheres (order_of wheres) d (joined_meants E ms) (unplaced_names wheres) lets d' inner → AreArms d' (joined_meants (joined_meants E ms) inner) body no_meants arms → t ≡ side_term lets arms
          → IsPlaced group order (m + d) E (placed_all (first_name (bindings_of group) n) (flats d m) ms) others d'' ns
          → IsPlaced group ((n, (local_pattern a (alternative b (p ∷ []) body wheres))) ∷ order) d E ms (more_lets q t others) d'' ns
