-- Which flat terms an expression flattens to. A relation over the tree in which names are bound: it says what may be built, and that something may be
-- built it doesn't say. It looks at no type, so choices that types make are open in it: which arguments are bound by a let, which calls are expanded,
-- in which order the bindings of a group are made, and which number a data type has.
use Rattle.std.specs.Prelude.{◌≡◌, ℕ, suc, ◌+◌, ◌≤◌, List, [], ◌∷◌, length, Some}
use Rattle.rw_scope_rules.specs.declared.binding.Operation.TheVariants.{Return, Bind, Then, Get, Put, Lift, Signal, Extrude}
use Rattle.rw_scope_rules.specs.declared.binding.Binding.TheVariants.{Declared, Operation as Operates, Constructor as Constructs, Local}
use Rattle.rw_scope_rules.specs.declared.binding.Bound.{Bound}
use Rattle.rw_scope_rules.specs.Bindings.{binding_variables, group_variables}
use Rattle.rw_tree.specs.Patterns.{Pattern, variable_pattern}
use Rattle.rw_tree.specs.Trees.{Expression, variable, constructor, application, tuple, lambda, let_in, if_then_else, case_of, do_block, Expressions}
use Rattle.rw_tree.specs.Trees.{alternative, Alternatives, no_alternatives, more_alternatives, RightSide, plain_side, guarded_side, guarded_body, GuardedBodies, no_bodies, more_bodies}
use Rattle.rw_tree.specs.Trees.{Statement, local_pattern, LocalBindings, bind_statement, let_statement, run_statement, Statements, no_statements, more_statements}
use Rattle.rw_tree.specs.Declarations.{Declaration}
use Rattle.rw_core.specs.Options.{◌>>=◌}
use Rattle.rw_meaning.specs.Evaluation.{patterns_before, declaration_at, fields_at, constructors_in}
use Rattle.rw_core_flat.specs.Programs.{FlatFunction}
use Rattle.rw_core_flat.specs.Terms.{FlatPattern, bound_pattern, built_pattern, FlatPatterns, no_patterns as no_flat_patterns, more_patterns as more_flat_patterns}
use Rattle.rw_core_flat.specs.Terms.{FlatTerm, local_term, built_term, case_term, let_term, call_term, mark_term, return_term, get_term, put_term, lift_term, bind_term, signal_term, extrude_term, FlatTerms, no_terms, more_terms}
use Rattle.rw_core_flat.specs.Terms.{FlatLets, no_lets, more_lets, FlatRows, no_rows, more_rows, FlatArms, body_arm, no_arms, more_arms}
use Rattle.rw_meaning.specs.Systems.{binding_of}
use Rattle.inline_ho_rules.specs.Meants.{Meant, flat, suspended, local_use, Meants, no_meants, more_meants, meant_at, joined_meants, meant_count, placed, all_unplaced, suspended_parts, flats, first_meants, later_meants, IsPattern, Columns, no_columns, value_column, AreColumns, AreMatched, AreVariables, clauses_at, StandsIn, placed_all, declared_clauses}

-- == Tests ==

-- the rows of a test
abbrev pub if_rows : FlatTerm → FlatTerm → FlatRows
if_rows t u = more_rows (more_flat_patterns (built_pattern 1 no_flat_patterns) no_flat_patterns) no_lets (body_arm t) (more_rows (more_flat_patterns (built_pattern 0 no_flat_patterns) no_flat_patterns) no_lets (body_arm u) no_rows)

-- == Right sides ==

-- the term of a right side that stands by itself, inside the bindings of its `where`: without guards it is its body
abbrev pub side_term : FlatLets → FlatArms → FlatTerm
side_term lets (body_arm t) = let_term lets t
side_term lets arms = case_term no_terms (more_rows no_flat_patterns lets arms no_rows)

-- == Terms ==

-- over a program, and which flat function stands for which declaration
module _ (program : List (Declaration Bound)) (IsFunction : ℕ → ℕ → Type 0) where
  mutual
    -- the next flat variable has this number; the names stand for this; the expression, applied to these arguments, flattens to this term
    pub data IsFlat : ℕ → Meants Bound → Expression Bound → Meants Bound → FlatTerm → Type 0 where
      is_local : {d : ℕ} {E : Meants Bound} {a : Bound} {x : List ℕ} {k y : ℕ} → a.bound ≡ Some (Local k) → meant_at k E ≡ Some (flat y) → IsFlat d E (variable a x) no_meants (local_term y)
      is_argument : {d : ℕ} {E args : Meants Bound} {a : Bound} {x : List ℕ} {k : ℕ} {E' : Meants Bound} {e : Expression Bound} {t : FlatTerm}
          → a.bound ≡ Some (Local k) → meant_at k E ≡ Some (suspended E' e) → IsFlat d E' e args t → IsFlat d E (variable a x) args t
      is_used : {d : ℕ} {E args : Meants Bound} {a : Bound} {x : List ℕ} {k : ℕ} {E' : Meants Bound} {cs : Alternatives Bound} {t : FlatTerm}
          → a.bound ≡ Some (Local k) → meant_at k E ≡ Some (local_use E' cs) → IsInlined d E' cs args t → IsFlat d E (variable a x) args (mark_term t)
      is_called : {d : ℕ} {E args : Meants Bound} {a : Bound} {x : List ℕ} {n i : ℕ} {ts : FlatTerms}
          → a.bound ≡ Some (Declared n) → IsFunction i n → AreData d args ts → IsFlat d E (variable a x) args (call_term i ts)
      is_inlined : {d : ℕ} {E args : Meants Bound} {a : Bound} {x : List ℕ} {n : ℕ} {cs : Alternatives Bound} {t : FlatTerm}
          → a.bound ≡ Some (Declared n) → (declaration_at n program >>= declared_clauses) ≡ Some cs → IsInlined d no_meants cs args t → IsFlat d E (variable a x) args (mark_term t)
      is_constructor : {d : ℕ} {E args : Meants Bound} {a : Bound} {c : List ℕ} {n place type : ℕ} {ts : FlatTerms}
          → a.bound ≡ Some (Constructs n place) → (declaration_at n program >>= λ d. fields_at place (constructors_in d)) ≡ Some (meant_count args) → AreData d args ts
          → IsFlat d E (constructor a c) args (built_term type place ts)
      is_application : {d : ℕ} {E args : Meants Bound} {a : Bound} {head : Expression Bound} {parts : Expressions Bound} {t : FlatTerm}
          → IsFlat d E head (joined_meants (suspended_parts E parts) args) t → IsFlat d E (application a head parts) args t
      is_tuple_of : {d type : ℕ} {E : Meants Bound} {a : Bound} {parts : Expressions Bound} {ts : FlatTerms} → AreData d (suspended_parts E parts) ts → IsFlat d E (tuple a parts) no_meants (built_term type 0 ts)
      is_lambda : {d : ℕ} {E args : Meants Bound} {a : Bound} {p : Pattern Bound} {pats : List (Pattern Bound)} {body : Expression Bound} {t : FlatTerm} → IsLambda d E (p ∷ pats) body args t → IsFlat d E (lambda a (p ∷ pats) body) args t
      is_let : {d d' : ℕ} {E args ms : Meants Bound} {a : Bound} {group : LocalBindings Bound} {body : Expression Bound} {lets : FlatLets} {t : FlatTerm}
          → IsPlaced group d E (all_unplaced (length (group_variables group))) lets d' ms → IsFlat d' (joined_meants E ms) body args t → IsFlat d E (let_in a group body) args (let_term lets t)
      is_case : {d : ℕ} {E args : Meants Bound} {a : Bound} {e : Expression Bound} {rows : Alternatives Bound} {s : FlatTerm} {frows : FlatRows}
          → IsFlat d E e no_meants s → AreRows d E (value_column no_columns) rows args frows → IsFlat d E (case_of a e rows) args (case_term (more_terms s no_terms) frows)
      is_if : {d : ℕ} {E args : Meants Bound} {a : Bound} {b e e' : Expression Bound} {s t u : FlatTerm} → IsFlat d E b no_meants s → IsFlat d E e args t → IsFlat d E e' args u
          → IsFlat d E (if_then_else a b e e') args (case_term (more_terms s no_terms) (if_rows t u))
      -- statements
      is_last : {d : ℕ} {E args : Meants Bound} {a b : Bound} {e : Expression Bound} {t : FlatTerm} → IsFlat d E e args t → IsFlat d E (do_block a (more_statements (run_statement b e) no_statements)) args t
      is_run : {d : ℕ} {E : Meants Bound} {a b : Bound} {e : Expression Bound} {s : Statement Bound} {ss : Statements Bound} {t u : FlatTerm} → IsFlat d E e no_meants t → IsFlat (suc d) E (do_block a (more_statements s ss)) no_meants u
          → IsFlat d E (do_block a (more_statements (run_statement b e) (more_statements s ss))) no_meants (bind_term t u)
      is_bound : {d : ℕ} {E : Meants Bound} {a b : Bound} {p : Pattern Bound} {e : Expression Bound} {ss : Statements Bound} {t u : FlatTerm} → IsFlat d E e no_meants t
          → IsLambda (suc d) E (p ∷ []) (do_block a ss) (more_meants (flat d) no_meants) u → IsFlat d E (do_block a (more_statements (bind_statement b p e) ss)) no_meants (bind_term t u)
      is_let_then : {d d' : ℕ} {E args ms : Meants Bound} {a b : Bound} {group : LocalBindings Bound} {ss : Statements Bound} {lets : FlatLets} {t : FlatTerm}
          → IsPlaced group d E (all_unplaced (length (group_variables group))) lets d' ms → IsFlat d' (joined_meants E ms) (do_block a ss) args t
          → IsFlat d E (do_block a (more_statements (let_statement b group) ss)) args (let_term lets t)
      -- operations
      is_return : {d : ℕ} {E : Meants Bound} {a : Bound} {x : List ℕ} {m : Meant Bound} {t : FlatTerm} → a.bound ≡ Some (Operates Return) → IsDatum d m t → IsFlat d E (variable a x) (more_meants m no_meants) (return_term t)
      is_signal : {d : ℕ} {E : Meants Bound} {a : Bound} {x : List ℕ} {m : Meant Bound} {t : FlatTerm} → a.bound ≡ Some (Operates Signal) → IsDatum d m t → IsFlat d E (variable a x) (more_meants m no_meants) (signal_term t)
      is_put : {d : ℕ} {E : Meants Bound} {a : Bound} {x : List ℕ} {m : Meant Bound} {t : FlatTerm} → a.bound ≡ Some (Operates Put) → IsDatum d m t → IsFlat d E (variable a x) (more_meants m no_meants) (put_term t)
      is_get : {d : ℕ} {E : Meants Bound} {a : Bound} {x : List ℕ} → a.bound ≡ Some (Operates Get) → IsFlat d E (variable a x) no_meants get_term
      is_lift : {d : ℕ} {E E' : Meants Bound} {a : Bound} {x : List ℕ} {e : Expression Bound} {t : FlatTerm} → a.bound ≡ Some (Operates Lift) → IsFlat d E' e no_meants t
          → IsFlat d E (variable a x) (more_meants (suspended E' e) no_meants) (lift_term t)
      is_bind : {d : ℕ} {E E' E'' : Meants Bound} {a : Bound} {x : List ℕ} {e k : Expression Bound} {t u : FlatTerm} → a.bound ≡ Some (Operates Bind) → IsFlat d E' e no_meants t
          → IsFlat (suc d) E'' k (more_meants (flat d) no_meants) u → IsFlat d E (variable a x) (more_meants (suspended E' e) (more_meants (suspended E'' k) no_meants)) (bind_term t u)
      is_then : {d : ℕ} {E E' E'' : Meants Bound} {a : Bound} {x : List ℕ} {e k : Expression Bound} {t u : FlatTerm} → a.bound ≡ Some (Operates Then) → IsFlat d E' e no_meants t
          → IsFlat (suc d) E'' k no_meants u → IsFlat d E (variable a x) (more_meants (suspended E' e) (more_meants (suspended E'' k) no_meants)) (bind_term t u)
      is_extrude : {d : ℕ} {E E' : Meants Bound} {a : Bound} {x : List ℕ} {e : Expression Bound} {m : Meant Bound} {t u : FlatTerm} → a.bound ≡ Some (Operates Extrude) → IsFlat d E' e no_meants t
          → IsDatum d m u → IsFlat d E (variable a x) (more_meants (suspended E' e) (more_meants m no_meants)) (extrude_term t u)

    -- the term of a data argument
    pub data IsDatum : ℕ → Meant Bound → FlatTerm → Type 0 where
      suspended_datum : {d : ℕ} {E : Meants Bound} {e : Expression Bound} {t : FlatTerm} → IsFlat d E e no_meants t → IsDatum d (suspended E e) t
      flat_datum : {d y : ℕ} → IsDatum d (flat y) (local_term y)

    pub data AreData : ℕ → Meants Bound → FlatTerms → Type 0 where
      no_data : {d : ℕ} → AreData d no_meants no_terms
      more_data : {d : ℕ} {m : Meant Bound} {args : Meants Bound} {t : FlatTerm} {ts : FlatTerms} → IsDatum d m t → AreData d args ts → AreData d (more_meants m args) (more_terms t ts)

    -- a lambda of which these patterns are left
    pub data IsLambda : ℕ → Meants Bound → List (Pattern Bound) → Expression Bound → Meants Bound → FlatTerm → Type 0 where
      lambda_body : {d : ℕ} {E args : Meants Bound} {body : Expression Bound} {t : FlatTerm} → IsFlat d E body args t → IsLambda d E [] body args t
      lambda_named : {d y : ℕ} {E args : Meants Bound} {a : Bound} {x : List ℕ} {ps : List (Pattern Bound)} {body : Expression Bound} {t : FlatTerm}
          → IsLambda d (joined_meants E (more_meants (flat y) no_meants)) ps body args t → IsLambda d E (variable_pattern a x ∷ ps) body (more_meants (flat y) args) t
      lambda_matched : {d n : ℕ} {E args : Meants Bound} {m : Meant Bound} {p : Pattern Bound} {ps : List (Pattern Bound)} {body : Expression Bound} {q : FlatPattern} {s t : FlatTerm}
          → IsDatum d m s → IsPattern binding_of p q n → IsLambda (n + d) (joined_meants E (flats d n)) ps body args t
          → IsLambda d E (p ∷ ps) body (more_meants m args) (let_term (more_lets q s no_lets) t)

    -- clauses put in place of a call: data arguments are bound first
    pub data IsInlined : ℕ → Meants Bound → Alternatives Bound → Meants Bound → FlatTerm → Type 0 where
      is_group : {d d' : ℕ} {E args params rest : Meants Bound} {cs : Alternatives Bound} {lets : FlatLets} {t : FlatTerm}
          → AreParams d (patterns_before cs) args lets d' params rest → IsBody d' E cs params rest t → IsInlined d E cs args (let_term lets t)

    -- so many of the arguments as parameters, and the rest of them
    pub data AreParams : ℕ → ℕ → Meants Bound → FlatLets → ℕ → Meants Bound → Meants Bound → Type 0 where
      no_params : {d : ℕ} {args : Meants Bound} → AreParams d 0 args no_lets d no_meants args
      data_param : {d d' n : ℕ} {m : Meant Bound} {args params rest : Meants Bound} {t : FlatTerm} {lets : FlatLets}
          → IsDatum d m t → AreParams (suc d) n args lets d' params rest
          → AreParams d (suc n) (more_meants m args) (more_lets bound_pattern t lets) d' (more_meants (flat d) params) rest
      function_param : {d d' n : ℕ} {E args params rest : Meants Bound} {e : Expression Bound} {lets : FlatLets}
          → AreParams d n args lets d' params rest → AreParams d (suc n) (more_meants (suspended E e) args) lets d' (more_meants (suspended E e) params) rest

    -- clauses over their parameters, applied to further arguments
    pub data IsBody : ℕ → Meants Bound → Alternatives Bound → Meants Bound → Meants Bound → FlatTerm → Type 0 where
      plain_body : {d d' : ℕ} {E params args ms : Meants Bound} {a : Bound} {pats : List (Pattern Bound)} {e : Expression Bound} {wheres : LocalBindings Bound} {lets : FlatLets} {t : FlatTerm}
          → AreVariables pats params → IsPlaced wheres d (joined_meants E params) (all_unplaced (length (group_variables wheres))) lets d' ms
          → IsFlat d' (joined_meants (joined_meants E params) ms) e args t
          → IsBody d E (more_alternatives (alternative a pats (plain_side e) wheres) no_alternatives) params args (let_term lets t)
      rows_body : {d : ℕ} {E params args : Meants Bound} {cs : Alternatives Bound} {cols : Columns Bound} {ts : FlatTerms} {frows : FlatRows}
          → AreMatched params cols ts → AreRows d E cols cs args frows → IsBody d E cs params args (case_term ts frows)

    pub data AreRows : ℕ → Meants Bound → Columns Bound → Alternatives Bound → Meants Bound → FlatRows → Type 0 where
      none_rows : {d : ℕ} {E args : Meants Bound} {cols : Columns Bound} → AreRows d E cols no_alternatives args no_rows
      some_rows : {d d' d'' : ℕ} {E args ms ns : Meants Bound} {cols : Columns Bound} {a : Bound} {pats : List (Pattern Bound)} {body : RightSide Bound} {wheres : LocalBindings Bound} {others : Alternatives Bound}
          {qs : FlatPatterns} {lets : FlatLets} {arms : FlatArms} {frows : FlatRows}
          → AreColumns binding_of d cols pats qs ms d' → IsPlaced wheres d' (joined_meants E ms) (all_unplaced (length (group_variables wheres))) lets d'' ns
          → AreArms d'' (joined_meants (joined_meants E ms) ns) body args arms → AreRows d E cols others args frows
          → AreRows d E cols (more_alternatives (alternative a pats body wheres) others) args (more_rows qs lets arms frows)

    pub data AreArms : ℕ → Meants Bound → RightSide Bound → Meants Bound → FlatArms → Type 0 where
      one_arm : {d : ℕ} {E args : Meants Bound} {e : Expression Bound} {t : FlatTerm} → IsFlat d E e args t → AreArms d E (plain_side e) args (body_arm t)
      guarded_arms : {d : ℕ} {E args : Meants Bound} {bodies : GuardedBodies Bound} {arms : FlatArms} → AreGuarded d E bodies args arms → AreArms d E (guarded_side bodies) args arms

    pub data AreGuarded : ℕ → Meants Bound → GuardedBodies Bound → Meants Bound → FlatArms → Type 0 where
      none_guarded : {d : ℕ} {E args : Meants Bound} → AreGuarded d E no_bodies args no_arms
      some_guarded : {d : ℕ} {E args : Meants Bound} {g e : Expression Bound} {others : GuardedBodies Bound} {s t : FlatTerm} {arms : FlatArms}
          → IsFlat d E g no_meants s → IsFlat d E e args t → AreGuarded d E others args arms → AreGuarded d E (more_bodies (guarded_body g e) others) args (more_arms s t arms)

    -- a let group: the environment before it, what its names stand for so far, the bindings that are still made, the next number after them, and what the names stand for at last
    pub data IsPlaced : LocalBindings Bound → ℕ → Meants Bound → Meants Bound → FlatLets → ℕ → Meants Bound → Type 0 where
      all_placed : {d : ℕ} {E ms : Meants Bound} {group : LocalBindings Bound} → IsPlaced group d E ms no_lets d ms
      data_placed : (k : ℕ) {d d' : ℕ} {E ms ns : Meants Bound} {group : LocalBindings Bound} {cs : Alternatives Bound} {t : FlatTerm} {lets : FlatLets}
          → clauses_at group k ≡ Some cs → patterns_before cs ≡ 0 → IsBody d (joined_meants E ms) cs no_meants no_meants t
          → IsPlaced group (suc d) E (placed k (flat d) ms) lets d' ns → IsPlaced group d E ms (more_lets bound_pattern t lets) d' ns
      use_placed : (k : ℕ) {d d' : ℕ} {E ms ns : Meants Bound} {group : LocalBindings Bound} {cs : Alternatives Bound} {lets : FlatLets}
          → clauses_at group k ≡ Some cs → IsPlaced group d E (placed k (local_use (joined_meants E ms) cs) ms) lets d' ns → IsPlaced group d E ms lets d' ns
      pattern_placed : (k n : ℕ) {d d' d'' : ℕ} {E ms ns inner : Meants Bound} {group wheres : LocalBindings Bound} {a b : Bound} {p : Pattern Bound} {body : RightSide Bound} {q : FlatPattern} {arms : FlatArms} {lets others : FlatLets} {t : FlatTerm}
          → StandsIn group k (local_pattern a (alternative b (p ∷ []) body wheres)) → n ≡ length (binding_variables (local_pattern a (alternative b (p ∷ []) body wheres))) → IsPattern binding_of p q n
          → IsPlaced wheres d (joined_meants E ms) (all_unplaced (length (group_variables wheres))) lets d' inner → AreArms d' (joined_meants (joined_meants E ms) inner) body no_meants arms → t ≡ side_term lets arms
          → IsPlaced group (n + d) E (placed_all k (flats d n) ms) others d'' ns → IsPlaced group d E ms (more_lets q t others) d'' ns

  -- a flat function for clauses: its parameters are the first flat variables; those without a pattern are further arguments
  pub record IsWhole (cs : Alternatives Bound) (f : FlatFunction) : Type 0 where
    pub patterned : patterns_before cs ≤ length f.params
    pub flattened : IsBody (length f.params) no_meants cs (first_meants (patterns_before cs) (flats 0 (length f.params))) (later_meants (patterns_before cs) (flats 0 (length f.params))) f.body
