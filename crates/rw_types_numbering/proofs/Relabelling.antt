-- Relabelling a tree: twice, and after numbering it.
use Rattle.std.proofs.Common.{◌≡◌, ◌∙◌, ℕ, suc, ◌+◌, Bool, true, false, List, [], ◌∷◌, length, map, refl, ap}
use Rattle.rw_scope_rules.specs.declared.binding.Bound.{Bound}
use Rattle.rw_tree.specs.Patterns.{Pattern, wildcard, variable_pattern, constructor_pattern, tuple_pattern, Patterns, no_patterns, more_patterns}
use Rattle.rw_tree.specs.Trees.{Expression, variable, constructor, application, tuple, chain, lambda, let_in, if_then_else, case_of, do_block, Expressions, no_expressions, more_expressions}
use Rattle.rw_tree.specs.Trees.{Alternative, alternative, Alternatives, no_alternatives, more_alternatives, RightSide, plain_side, guarded_side, GuardedBody, guarded_body, GuardedBodies, no_bodies, more_bodies}
use Rattle.rw_tree.specs.Trees.{LocalBinding, local_signature, local_function, local_pattern, LocalBindings, no_bindings, more_bindings, Statement, bind_statement, let_statement, run_statement, Statements, no_statements, more_statements}
use Rattle.rw_tree.specs.Declarations.{Declaration, import_declaration, data_declaration, fixity_declaration, signature_declaration, function_declaration}
use Rattle.rw_types_rules.specs.Relabelled.{relabelled_pattern, relabelled_parts, relabelled_row, relabelled_expression, relabelled_expressions, relabelled_alternative, relabelled_alternatives, relabelled_side, relabelled_body, relabelled_bodies, relabelled_binding, relabelled_group, relabelled_statement, relabelled_statements, relabelled_declaration}
use Rattle.rw_scope_rules.specs.declared.binding.Operation.TheVariants.{Bind, Then}
use Rattle.rw_types_rules.specs.Schemes.{World, operation_scheme}
use Rattle.rw_types_rules.specs.TypedTrees.{are_none}
use Rattle.rw_types_numbering.specs.Labelled.{labelled_pattern, labelled_parts, labelled_row, labelled_expression, labelled_expressions, labelled_clause, labelled_clauses, labelled_side, labelled_body, labelled_bodies, labelled_binding, labelled_group, labelled_statement, labelled_statements, labelled_all_clauses, labelled_declaration}
use Rattle.rw_types_numbering.specs.Slots.{name_kinds, pattern_slots, row_slots, expression_slots, expressions_slots, clause_slots, side_slots, body_slots, binding_slots, group_slots, statement_slots}

pub same2 : {A B C : Type 0} {x x' : A} {y y' : B} (f : A → B → C) → x ≡ x' → y ≡ y' → f x y ≡ f x' y'
same2 f p q = λ i. f (p i) (q i)

pub same3 : {A B C D : Type 0} {x x' : A} {y y' : B} {z z' : C} (f : A → B → C → D) → x ≡ x' → y ≡ y' → z ≡ z' → f x y z ≡ f x' y' z'
same3 f p q r = λ i. f (p i) (q i) (r i)

-- twice
module _ {X Y Z : Type 0} (f : X → Y) (g : Y → Z) where
  mutual
    twice_pattern : (z : Pattern X) → relabelled_pattern g (relabelled_pattern f z) ≡ relabelled_pattern (λ a. g (f a)) z
    twice_pattern (wildcard a) = refl
    twice_pattern (variable_pattern a x) = refl
    twice_pattern (constructor_pattern a c parts) = ap (constructor_pattern (g (f a)) c) (twice_parts parts)
    twice_pattern (tuple_pattern a parts) = ap (tuple_pattern (g (f a))) (twice_parts parts)

    twice_parts : (z : Patterns X) → relabelled_parts g (relabelled_parts f z) ≡ relabelled_parts (λ a. g (f a)) z
    twice_parts no_patterns = refl
    twice_parts (more_patterns p ps) = same2 more_patterns (twice_pattern p) (twice_parts ps)

  twice_row : (z : List (Pattern X)) → relabelled_row g (relabelled_row f z) ≡ relabelled_row (λ a. g (f a)) z
  twice_row [] = refl
  twice_row (p ∷ ps) = same2 ◌∷◌ (twice_pattern p) (twice_row ps)

  mutual
    twice_expression : (z : Expression X) → relabelled_expression g (relabelled_expression f z) ≡ relabelled_expression (λ a. g (f a)) z
    twice_expression (variable a x) = refl
    twice_expression (constructor a c) = refl
    twice_expression (application a head parts) = same2 (application (g (f a))) (twice_expression head) (twice_expressions parts)
    twice_expression (tuple a parts) = ap (tuple (g (f a))) (twice_expressions parts)
    twice_expression (chain a operands operators) = same2 (chain (g (f a))) (twice_expressions operands) (twice_expressions operators)
    twice_expression (lambda a pats body) = same2 (lambda (g (f a))) (twice_row pats) (twice_expression body)
    twice_expression (let_in a group body) = same2 (let_in (g (f a))) (twice_group group) (twice_expression body)
    twice_expression (if_then_else a test first second) = same3 (if_then_else (g (f a))) (twice_expression test) (twice_expression first) (twice_expression second)
    twice_expression (case_of a scrutinee rows) = same2 (case_of (g (f a))) (twice_expression scrutinee) (twice_clauses rows)
    twice_expression (do_block a statements) = ap (do_block (g (f a))) (twice_statements statements)

    twice_expressions : (z : Expressions X) → relabelled_expressions g (relabelled_expressions f z) ≡ relabelled_expressions (λ a. g (f a)) z
    twice_expressions no_expressions = refl
    twice_expressions (more_expressions e es) = same2 more_expressions (twice_expression e) (twice_expressions es)

    twice_clause : (z : Alternative X) → relabelled_alternative g (relabelled_alternative f z) ≡ relabelled_alternative (λ a. g (f a)) z
    twice_clause (alternative a pats side wheres) = same3 (alternative (g (f a))) (twice_row pats) (twice_side side) (twice_group wheres)

    twice_clauses : (z : Alternatives X) → relabelled_alternatives g (relabelled_alternatives f z) ≡ relabelled_alternatives (λ a. g (f a)) z
    twice_clauses no_alternatives = refl
    twice_clauses (more_alternatives c cs) = same2 more_alternatives (twice_clause c) (twice_clauses cs)

    twice_side : (z : RightSide X) → relabelled_side g (relabelled_side f z) ≡ relabelled_side (λ a. g (f a)) z
    twice_side (plain_side body) = ap plain_side (twice_expression body)
    twice_side (guarded_side bodies) = ap guarded_side (twice_bodies bodies)

    twice_body : (z : GuardedBody X) → relabelled_body g (relabelled_body f z) ≡ relabelled_body (λ a. g (f a)) z
    twice_body (guarded_body test body) = same2 guarded_body (twice_expression test) (twice_expression body)

    twice_bodies : (z : GuardedBodies X) → relabelled_bodies g (relabelled_bodies f z) ≡ relabelled_bodies (λ a. g (f a)) z
    twice_bodies no_bodies = refl
    twice_bodies (more_bodies b bs) = same2 more_bodies (twice_body b) (twice_bodies bs)

    twice_binding : (z : LocalBinding X) → relabelled_binding g (relabelled_binding f z) ≡ relabelled_binding (λ a. g (f a)) z
    twice_binding (local_signature a x type) = refl
    twice_binding (local_function a x clauses) = ap (local_function (g (f a)) x) (twice_clauses clauses)
    twice_binding (local_pattern a bound) = ap (local_pattern (g (f a))) (twice_clause bound)

    twice_group : (z : LocalBindings X) → relabelled_group g (relabelled_group f z) ≡ relabelled_group (λ a. g (f a)) z
    twice_group no_bindings = refl
    twice_group (more_bindings b bs) = same2 more_bindings (twice_binding b) (twice_group bs)

    twice_statement : (z : Statement X) → relabelled_statement g (relabelled_statement f z) ≡ relabelled_statement (λ a. g (f a)) z
    twice_statement (bind_statement a p e) = same2 (bind_statement (g (f a))) (twice_pattern p) (twice_expression e)
    twice_statement (let_statement a group) = ap (let_statement (g (f a))) (twice_group group)
    twice_statement (run_statement a e) = ap (run_statement (g (f a))) (twice_expression e)

    twice_statements : (z : Statements X) → relabelled_statements g (relabelled_statements f z) ≡ relabelled_statements (λ a. g (f a)) z
    twice_statements no_statements = refl
    twice_statements (more_statements s ss) = same2 more_statements (twice_statement s) (twice_statements ss)

  twice_all : (cs : List (Alternative X)) → map (relabelled_alternative g) (map (relabelled_alternative f) cs) ≡ map (relabelled_alternative (λ a. g (f a))) cs
  twice_all [] = refl
  twice_all (c ∷ cs) = same2 ◌∷◌ (twice_clause c) (twice_all cs)

  pub twice_declaration : (d : Declaration X) → relabelled_declaration g (relabelled_declaration f d) ≡ relabelled_declaration (λ a. g (f a)) d
  twice_declaration (import_declaration a m) = refl
  twice_declaration (data_declaration a x params constructors) = refl
  twice_declaration (fixity_declaration a side strength names) = refl
  twice_declaration (signature_declaration a names type) = refl
  twice_declaration (function_declaration a x clauses) = ap (function_declaration (g (f a)) x) (twice_all clauses)

-- by the same function
pub alike_declaration : {X Y : Type 0} (f g : X → Y) (d : Declaration X) → ((a : X) → f a ≡ g a) → relabelled_declaration f d ≡ relabelled_declaration g d
alike_declaration f g d h = λ i. relabelled_declaration (λ a. h a i) d

-- after numbering
module _ {L M : Type 0} (label : Bound → ℕ → ℕ → L) (f : L → M) (world : World) where
  mutual
    fused_pattern : (n : ℕ) (z : Pattern Bound) → relabelled_pattern f (labelled_pattern label world n z) ≡ labelled_pattern (λ b m k. f (label b m k)) world n z
    fused_pattern n (wildcard a) = refl
    fused_pattern n (variable_pattern a x) = refl
    fused_pattern n (constructor_pattern a c parts) = ap (constructor_pattern (f (label a n (length (name_kinds world a)))) c) (fused_parts (suc n + length (name_kinds world a)) parts)
    fused_pattern n (tuple_pattern a parts) = ap (tuple_pattern (f (label a n 0))) (fused_parts (suc n) parts)

    fused_parts : (n : ℕ) (z : Patterns Bound) → relabelled_parts f (labelled_parts label world n z) ≡ labelled_parts (λ b m k. f (label b m k)) world n z
    fused_parts n no_patterns = refl
    fused_parts n (more_patterns p ps) = same2 more_patterns (fused_pattern n p) (fused_parts (n + length (pattern_slots world p)) ps)

  fused_row : (n : ℕ) (z : List (Pattern Bound)) → relabelled_row f (labelled_row label world n z) ≡ labelled_row (λ b m k. f (label b m k)) world n z
  fused_row n [] = refl
  fused_row n (p ∷ ps) = same2 ◌∷◌ (fused_pattern n p) (fused_row (n + length (pattern_slots world p)) ps)

  mutual
    fused_expression : (n : ℕ) (z : Expression Bound) → relabelled_expression f (labelled_expression label world n z) ≡ labelled_expression (λ b m k. f (label b m k)) world n z
    fused_expression n (variable a x) = refl
    fused_expression n (constructor a c) = refl
    fused_expression n (application a head parts) = same2 (application (f (label a n 0))) (fused_expression (suc n) head) (fused_expressions (suc n + length (expression_slots world head)) parts)
    fused_expression n (tuple a parts) = ap (tuple (f (label a n 0))) (fused_expressions (suc n) parts)
    fused_expression n (chain a operands operators) = same2 (chain (f (label a n 0))) (fused_expressions (suc n) operands) (fused_expressions (suc n + length (expressions_slots world operands)) operators)
    fused_expression n (lambda a pats body) = same2 (lambda (f (label a n 0))) (fused_row (suc n) pats) (fused_expression (suc n + length (row_slots world pats)) body)
    fused_expression n (let_in a group body) = same2 (let_in (f (label a n 0))) (fused_group (suc n) group) (fused_expression (suc n + length (group_slots world group)) body)
    fused_expression n (if_then_else a test first second) = same3 (if_then_else (f (label a n 0))) (fused_expression (suc n) test) (fused_expression (suc n + length (expression_slots world test)) first) (fused_expression ((suc n + length (expression_slots world test)) + length (expression_slots world first)) second)
    fused_expression n (case_of a scrutinee rows) = same2 (case_of (f (label a n 0))) (fused_expression (suc n) scrutinee) (fused_clauses (suc n + length (expression_slots world scrutinee)) rows)
    fused_expression n (do_block a statements) = ap (do_block (f (label a n 0))) (fused_statements (suc n) statements)

    fused_expressions : (n : ℕ) (z : Expressions Bound) → relabelled_expressions f (labelled_expressions label world n z) ≡ labelled_expressions (λ b m k. f (label b m k)) world n z
    fused_expressions n no_expressions = refl
    fused_expressions n (more_expressions e es) = same2 more_expressions (fused_expression n e) (fused_expressions (n + length (expression_slots world e)) es)

    fused_clause : (n : ℕ) (z : Alternative Bound) → relabelled_alternative f (labelled_clause label world n z) ≡ labelled_clause (λ b m k. f (label b m k)) world n z
    fused_clause n (alternative a pats side wheres) = same3 (alternative (f (label a n 0))) (fused_row (suc n) pats) (fused_side (suc n + length (row_slots world pats)) side) (fused_group ((suc n + length (row_slots world pats)) + length (side_slots world side)) wheres)

    fused_clauses : (n : ℕ) (z : Alternatives Bound) → relabelled_alternatives f (labelled_clauses label world n z) ≡ labelled_clauses (λ b m k. f (label b m k)) world n z
    fused_clauses n no_alternatives = refl
    fused_clauses n (more_alternatives c cs) = same2 more_alternatives (fused_clause n c) (fused_clauses (n + length (clause_slots world c)) cs)

    fused_side : (n : ℕ) (z : RightSide Bound) → relabelled_side f (labelled_side label world n z) ≡ labelled_side (λ b m k. f (label b m k)) world n z
    fused_side n (plain_side body) = ap plain_side (fused_expression n body)
    fused_side n (guarded_side bodies) = ap guarded_side (fused_bodies n bodies)

    fused_body : (n : ℕ) (z : GuardedBody Bound) → relabelled_body f (labelled_body label world n z) ≡ labelled_body (λ b m k. f (label b m k)) world n z
    fused_body n (guarded_body test body) = same2 guarded_body (fused_expression n test) (fused_expression (n + length (expression_slots world test)) body)

    fused_bodies : (n : ℕ) (z : GuardedBodies Bound) → relabelled_bodies f (labelled_bodies label world n z) ≡ labelled_bodies (λ b m k. f (label b m k)) world n z
    fused_bodies n no_bodies = refl
    fused_bodies n (more_bodies b bs) = same2 more_bodies (fused_body n b) (fused_bodies (n + length (body_slots world b)) bs)

    fused_binding : (n : ℕ) (z : LocalBinding Bound) → relabelled_binding f (labelled_binding label world n z) ≡ labelled_binding (λ b m k. f (label b m k)) world n z
    fused_binding n (local_signature a x type) = refl
    fused_binding n (local_function a x clauses) = ap (local_function (f (label a n 0)) x) (fused_clauses (suc n) clauses)
    fused_binding n (local_pattern a bound) = ap (local_pattern (f (label a n 0))) (fused_clause (suc n) bound)

    fused_group : (n : ℕ) (z : LocalBindings Bound) → relabelled_group f (labelled_group label world n z) ≡ labelled_group (λ b m k. f (label b m k)) world n z
    fused_group n no_bindings = refl
    fused_group n (more_bindings b bs) = same2 more_bindings (fused_binding n b) (fused_group (n + length (binding_slots world b)) bs)

    fused_statement : (last : Bool) (n : ℕ) (z : Statement Bound) → relabelled_statement f (labelled_statement label world last n z) ≡ labelled_statement (λ b m k. f (label b m k)) world last n z
    fused_statement last n (bind_statement a p e) = same2 (bind_statement (f (label a n (length (operation_scheme Bind).kinds)))) (fused_pattern (suc n + length (operation_scheme Bind).kinds) p) (fused_expression ((suc n + length (operation_scheme Bind).kinds) + length (pattern_slots world p)) e)
    fused_statement last n (let_statement a group) = ap (let_statement (f (label a n 0))) (fused_group (suc n) group)
    fused_statement true n (run_statement a e) = ap (run_statement (f (label a n 0))) (fused_expression (suc n) e)
    fused_statement false n (run_statement a e) = ap (run_statement (f (label a n (length (operation_scheme Then).kinds)))) (fused_expression (suc n + length (operation_scheme Then).kinds) e)

    fused_statements : (n : ℕ) (z : Statements Bound) → relabelled_statements f (labelled_statements label world n z) ≡ labelled_statements (λ b m k. f (label b m k)) world n z
    fused_statements n no_statements = refl
    fused_statements n (more_statements s ss) = same2 more_statements (fused_statement (are_none ss) n s) (fused_statements (n + length (statement_slots world (are_none ss) s)) ss)

  fused_all : (n : ℕ) (cs : List (Alternative Bound)) → map (relabelled_alternative f) (labelled_all_clauses label world n cs) ≡ labelled_all_clauses (λ b m k. f (label b m k)) world n cs
  fused_all n [] = refl
  fused_all n (c ∷ cs) = same2 ◌∷◌ (fused_clause n c) (fused_all (n + length (clause_slots world c)) cs)

  pub fused_declaration : (n : ℕ) (d : Declaration Bound) → relabelled_declaration f (labelled_declaration label world n d) ≡ labelled_declaration (λ b m k. f (label b m k)) world n d
  fused_declaration n (import_declaration a m) = refl
  fused_declaration n (data_declaration a x params constructors) = refl
  fused_declaration n (fixity_declaration a side strength names) = refl
  fused_declaration n (signature_declaration a names type) = refl
  fused_declaration n (function_declaration a x clauses) = ap (function_declaration (f (label a n 0)) x) (fused_all (suc n) clauses)

-- numbered, with what stood there
module _ (world : World) where
  mutual
    same_pattern : (n : ℕ) (z : Pattern Bound) → labelled_pattern (λ b m k. b) world n z ≡ z
    same_pattern n (wildcard a) = refl
    same_pattern n (variable_pattern a x) = refl
    same_pattern n (constructor_pattern a c parts) = ap (constructor_pattern a c) (same_parts (suc n + length (name_kinds world a)) parts)
    same_pattern n (tuple_pattern a parts) = ap (tuple_pattern a) (same_parts (suc n) parts)

    same_parts : (n : ℕ) (z : Patterns Bound) → labelled_parts (λ b m k. b) world n z ≡ z
    same_parts n no_patterns = refl
    same_parts n (more_patterns p ps) = same2 more_patterns (same_pattern n p) (same_parts (n + length (pattern_slots world p)) ps)

  same_row : (n : ℕ) (z : List (Pattern Bound)) → labelled_row (λ b m k. b) world n z ≡ z
  same_row n [] = refl
  same_row n (p ∷ ps) = same2 ◌∷◌ (same_pattern n p) (same_row (n + length (pattern_slots world p)) ps)

  mutual
    same_expression : (n : ℕ) (z : Expression Bound) → labelled_expression (λ b m k. b) world n z ≡ z
    same_expression n (variable a x) = refl
    same_expression n (constructor a c) = refl
    same_expression n (application a head parts) = same2 (application a) (same_expression (suc n) head) (same_expressions (suc n + length (expression_slots world head)) parts)
    same_expression n (tuple a parts) = ap (tuple a) (same_expressions (suc n) parts)
    same_expression n (chain a operands operators) = same2 (chain a) (same_expressions (suc n) operands) (same_expressions (suc n + length (expressions_slots world operands)) operators)
    same_expression n (lambda a pats body) = same2 (lambda a) (same_row (suc n) pats) (same_expression (suc n + length (row_slots world pats)) body)
    same_expression n (let_in a group body) = same2 (let_in a) (same_group (suc n) group) (same_expression (suc n + length (group_slots world group)) body)
    same_expression n (if_then_else a test first second) = same3 (if_then_else a) (same_expression (suc n) test) (same_expression (suc n + length (expression_slots world test)) first) (same_expression ((suc n + length (expression_slots world test)) + length (expression_slots world first)) second)
    same_expression n (case_of a scrutinee rows) = same2 (case_of a) (same_expression (suc n) scrutinee) (same_clauses (suc n + length (expression_slots world scrutinee)) rows)
    same_expression n (do_block a statements) = ap (do_block a) (same_statements (suc n) statements)

    same_expressions : (n : ℕ) (z : Expressions Bound) → labelled_expressions (λ b m k. b) world n z ≡ z
    same_expressions n no_expressions = refl
    same_expressions n (more_expressions e es) = same2 more_expressions (same_expression n e) (same_expressions (n + length (expression_slots world e)) es)

    same_clause : (n : ℕ) (z : Alternative Bound) → labelled_clause (λ b m k. b) world n z ≡ z
    same_clause n (alternative a pats side wheres) = same3 (alternative a) (same_row (suc n) pats) (same_side (suc n + length (row_slots world pats)) side) (same_group ((suc n + length (row_slots world pats)) + length (side_slots world side)) wheres)

    same_clauses : (n : ℕ) (z : Alternatives Bound) → labelled_clauses (λ b m k. b) world n z ≡ z
    same_clauses n no_alternatives = refl
    same_clauses n (more_alternatives c cs) = same2 more_alternatives (same_clause n c) (same_clauses (n + length (clause_slots world c)) cs)

    same_side : (n : ℕ) (z : RightSide Bound) → labelled_side (λ b m k. b) world n z ≡ z
    same_side n (plain_side body) = ap plain_side (same_expression n body)
    same_side n (guarded_side bodies) = ap guarded_side (same_bodies n bodies)

    same_body : (n : ℕ) (z : GuardedBody Bound) → labelled_body (λ b m k. b) world n z ≡ z
    same_body n (guarded_body test body) = same2 guarded_body (same_expression n test) (same_expression (n + length (expression_slots world test)) body)

    same_bodies : (n : ℕ) (z : GuardedBodies Bound) → labelled_bodies (λ b m k. b) world n z ≡ z
    same_bodies n no_bodies = refl
    same_bodies n (more_bodies b bs) = same2 more_bodies (same_body n b) (same_bodies (n + length (body_slots world b)) bs)

    same_binding : (n : ℕ) (z : LocalBinding Bound) → labelled_binding (λ b m k. b) world n z ≡ z
    same_binding n (local_signature a x type) = refl
    same_binding n (local_function a x clauses) = ap (local_function a x) (same_clauses (suc n) clauses)
    same_binding n (local_pattern a bound) = ap (local_pattern a) (same_clause (suc n) bound)

    same_group : (n : ℕ) (z : LocalBindings Bound) → labelled_group (λ b m k. b) world n z ≡ z
    same_group n no_bindings = refl
    same_group n (more_bindings b bs) = same2 more_bindings (same_binding n b) (same_group (n + length (binding_slots world b)) bs)

    same_statement : (last : Bool) (n : ℕ) (z : Statement Bound) → labelled_statement (λ b m k. b) world last n z ≡ z
    same_statement last n (bind_statement a p e) = same2 (bind_statement a) (same_pattern (suc n + length (operation_scheme Bind).kinds) p) (same_expression ((suc n + length (operation_scheme Bind).kinds) + length (pattern_slots world p)) e)
    same_statement last n (let_statement a group) = ap (let_statement a) (same_group (suc n) group)
    same_statement true n (run_statement a e) = ap (run_statement a) (same_expression (suc n) e)
    same_statement false n (run_statement a e) = ap (run_statement a) (same_expression (suc n + length (operation_scheme Then).kinds) e)

    same_statements : (n : ℕ) (z : Statements Bound) → labelled_statements (λ b m k. b) world n z ≡ z
    same_statements n no_statements = refl
    same_statements n (more_statements s ss) = same2 more_statements (same_statement (are_none ss) n s) (same_statements (n + length (statement_slots world (are_none ss) s)) ss)

  same_all : (n : ℕ) (cs : List (Alternative Bound)) → labelled_all_clauses (λ b m k. b) world n cs ≡ cs
  same_all n [] = refl
  same_all n (c ∷ cs) = same2 ◌∷◌ (same_clause n c) (same_all (n + length (clause_slots world c)) cs)

  pub same_declaration : (n : ℕ) (d : Declaration Bound) → labelled_declaration (λ b m k. b) world n d ≡ d
  same_declaration n (import_declaration a m) = refl
  same_declaration n (data_declaration a x params constructors) = refl
  same_declaration n (fixity_declaration a side strength names) = refl
  same_declaration n (signature_declaration a names type) = refl
  same_declaration n (function_declaration a x clauses) = ap (function_declaration a x) (same_all (suc n) clauses)

-- so a tree that is numbered is the tree again, where the label keeps what stood there
pub kept_declaration : {L : Type 0} (label : Bound → ℕ → ℕ → L) (node : L → Bound) (world : World) → ((b : Bound) (n k : ℕ) → node (label b n k) ≡ b) → (n : ℕ) (d : Declaration Bound)
    → relabelled_declaration node (labelled_declaration label world n d) ≡ d
kept_declaration label node world h n d =
    fused_declaration label node world n d ∙ (λ i. labelled_declaration (λ b m k. h b m k i) world n d) ∙ same_declaration world n d
