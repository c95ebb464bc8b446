-- Lists of trees, numbered one after the other: what a loop over them keeps, and the same lists as the parts of a tree.
use Rattle.std.proofs.Common.{◌≡◌, ◌∙◌, ℕ, zero, suc, ◌+◌, ◌<◌, ◌≤◌, Bool, true, false, nat_eq, List, [], ◌∷◌, ◌++◌, append_assoc, length, map, drop, get_or, refl, sym, ap, arith}
use Rattle.std.proofs.lemmas.Bool.Decides.{nat_tests}
use Rattle.std.proofs.lemmas.List.{map-append}
use Rattle.rw_scope_rules.specs.declared.binding.Bound.{Bound}
use Rattle.rw_tree.specs.Patterns.{Pattern, pattern_parts, more_patterns}
use Rattle.rw_tree.specs.Trees.{Expression, Alternative, GuardedBody, LocalBinding, Statement, expression_parts, alternative_parts, body_parts, binding_parts, statement_parts, more_expressions, more_alternatives, more_bodies, more_bindings, more_statements}
use Rattle.rw_types_rules.specs.declared.kind.VariableKind.{VariableKind}
use Rattle.rw_types_rules.specs.Schemes.{World}
use Rattle.rw_types_rules.specs.TypedTrees.{are_none}
use Rattle.rw_types_equations.proofs.Rows.{mapped_next, mapped_none}
use Rattle.rw_types_numbering.specs.Slots.{pattern_slots, parts_slots, row_slots, expression_slots, expressions_slots, clause_slots, clauses_slots, all_clauses_slots, body_slots, bodies_slots, binding_slots, group_slots, statement_slots, statements_slots}
use Rattle.rw_types_numbering.specs.Numbering.{numbered_pattern, numbered_parts, numbered_row, numbered_expression, numbered_expressions, numbered_clause, numbered_clauses, numbered_all_clauses, numbered_body, numbered_bodies, numbered_binding, numbered_group, numbered_statement, numbered_statements}
use Rattle.rw_types_numbering.specs.Each.{is_nil, each_slots, each_numbered}

length_joined : {Y : Type 0} (a b : List Y) → length (a ++ b) ≡ length a + length b
length_joined [] b = omega arith
length_joined (x ∷ a) b = let i = length_joined a b in omega arith

append_none : {Y : Type 0} (a : List Y) → a ++ [] ≡ a
append_none [] = refl
append_none (x ∷ a) = ap (λ z. x ∷ z) (append_none a)

-- == Loops ==

module _ {A S T M : Type 0} (see : A → S) (look : M → T) (slots : Bool → S → List VariableKind) (one : Bool → ℕ → S → T) where
  -- one tree more
  pub each_next : (xs : List A) (i : ℕ) (x : A) (made new : List M) (m : M) (kinds more : List VariableKind) (last : Bool) (whole : List T)
      → i < length xs → x ≡ get_or xs i x → last ≡ is_nil (map see (drop (i + 1) xs)) → new ≡ made ++ m ∷ [] → look m ≡ one last (length kinds) (see x) → more ≡ kinds ++ slots last (see x)
      → map look made ++ each_numbered slots one (length kinds) (map see (drop i xs)) ≡ whole → map look new ++ each_numbered slots one (length more) (map see (drop (i + 1) xs)) ≡ whole
  each_next xs i x made new m kinds more last whole within read end pushed is took so_far =
      let n : length more ≡ length kinds + length (slots last (see x)) = ap length took ∙ length_joined kinds (slots last (see x)) in
      ap (λ z. map look z ++ each_numbered slots one (length more) (map see (drop (i + 1) xs))) pushed
      ∙ ap (λ z. z ++ each_numbered slots one (length more) (map see (drop (i + 1) xs))) (map-append look made (m ∷ []))
      ∙ append_assoc (map look made) (look m ∷ []) (each_numbered slots one (length more) (map see (drop (i + 1) xs)))
      ∙ (λ j. map look made ++ is j ∷ each_numbered slots one (n j) (map see (drop (i + 1) xs)))
      ∙ ap (λ b. map look made ++ one b (length kinds) (see x) ∷ each_numbered slots one (length kinds + length (slots b (see x))) (map see (drop (i + 1) xs))) end
      ∙ ap (λ z. map look made ++ each_numbered slots one (length kinds) z) (sym (mapped_next see xs i x within read))
      ∙ so_far

  pub each_done : (xs : List A) (i : ℕ) (made : List M) (n : ℕ) (whole : List T) → length xs ≤ i → map look made ++ each_numbered slots one n (map see (drop i xs)) ≡ whole → map look made ≡ whole
  each_done xs i made n whole end so_far =
      sym (append_none (map look made)) ∙ ap (λ z. map look made ++ each_numbered slots one n z) (sym (mapped_none see xs i end)) ∙ so_far

module _ {A S : Type 0} (see : A → S) (slots : Bool → S → List VariableKind) where
  pub kinds_next : (xs : List A) (i : ℕ) (x : A) (kinds more : List VariableKind) (last : Bool) (whole : List VariableKind)
      → i < length xs → x ≡ get_or xs i x → last ≡ is_nil (map see (drop (i + 1) xs)) → more ≡ kinds ++ slots last (see x)
      → kinds ++ each_slots slots (map see (drop i xs)) ≡ whole → more ++ each_slots slots (map see (drop (i + 1) xs)) ≡ whole
  kinds_next xs i x kinds more last whole within read end took so_far =
      ap (λ z. z ++ each_slots slots (map see (drop (i + 1) xs))) took
      ∙ append_assoc kinds (slots last (see x)) (each_slots slots (map see (drop (i + 1) xs)))
      ∙ ap (λ b. kinds ++ (slots b (see x) ++ each_slots slots (map see (drop (i + 1) xs)))) end
      ∙ ap (λ z. kinds ++ each_slots slots z) (sym (mapped_next see xs i x within read))
      ∙ so_far

  pub kinds_done : (xs : List A) (i : ℕ) (kinds whole : List VariableKind) → length xs ≤ i → kinds ++ each_slots slots (map see (drop i xs)) ≡ whole → kinds ≡ whole
  kinds_done xs i kinds whole end so_far = sym (append_none kinds) ∙ ap (λ z. kinds ++ each_slots slots z) (sym (mapped_none see xs i end)) ∙ so_far

-- == The last of a list ==

nil_at_end : {A : Type 0} (xs : List A) (j : ℕ) → j ≡ length xs → is_nil (drop j xs) ≡ true
nil_at_end [] zero e = refl
nil_at_end [] (suc j) e = absurd (omega arith)
nil_at_end (x ∷ xs) zero e = absurd (omega arith)
nil_at_end (x ∷ xs) (suc j) e = nil_at_end xs j (omega arith)

nil_before : {A : Type 0} (xs : List A) (j : ℕ) → j < length xs → is_nil (drop j xs) ≡ false
nil_before [] zero l = absurd (omega arith)
nil_before [] (suc j) l = absurd (omega arith)
nil_before (x ∷ xs) zero l = refl
nil_before (x ∷ xs) (suc j) l = nil_before xs j (omega arith)

nil_mapped : {A B : Type 0} (f : A → B) (xs : List A) → is_nil (map f xs) ≡ is_nil xs
nil_mapped f [] = refl
nil_mapped f (x ∷ xs) = refl

is_number : (x y : ℕ) → nat_eq x y ≡ true → x ≡ y
is_number x y e = grind (arith, nat_tests)

is_not : (x y : ℕ) → nat_eq x y ≡ false → x ≡ y → ⊥
is_not x y e p = grind (arith, nat_tests)

last_when : {A B : Type 0} (f : A → B) (xs : List A) (i : ℕ) (b : Bool) → i < length xs → nat_eq (i + 1) (length xs) ≡ b → b ≡ is_nil (map f (drop (i + 1) xs))
last_when f xs i true l e = sym (nil_mapped f (drop (i + 1) xs) ∙ nil_at_end xs (i + 1) (is_number (i + 1) (length xs) e))
last_when f xs i false l e =
    let apart : i + 1 ≡ length xs → ⊥ = is_not (i + 1) (length xs) e in
    let before : i + 1 < length xs = omega arith in
    sym (nil_mapped f (drop (i + 1) xs) ∙ nil_before xs (i + 1) before)

-- one is the last where its number is
pub last_is : {A B : Type 0} (f : A → B) (xs : List A) (i : ℕ) → i < length xs → nat_eq (i + 1) (length xs) ≡ is_nil (map f (drop (i + 1) xs))
last_is f xs i l = last_when f xs i (nat_eq (i + 1) (length xs)) l refl

-- == Parts ==

none_is_nil : (ss : List (Statement Bound)) → are_none (statement_parts ss) ≡ is_nil ss
none_is_nil [] = refl
none_is_nil (x ∷ ss) = refl

module _ (w : World) where
  pub row_slots_each : (zs : List (Pattern Bound)) → row_slots w zs ≡ each_slots (λ b z. pattern_slots w z) zs
  row_slots_each [] = refl
  row_slots_each (z ∷ zs) = ap (λ r. pattern_slots w z ++ r) (row_slots_each zs)

  pub row_each : (n : ℕ) (zs : List (Pattern Bound)) → each_numbered (λ b z. pattern_slots w z) (λ b m z. numbered_pattern w m z) n zs ≡ numbered_row w n zs
  row_each n [] = refl
  row_each n (z ∷ zs) = ap (λ r. numbered_pattern w n z ∷ r) (row_each (n + length (pattern_slots w z)) zs)

  pub parts_slots_each : (zs : List (Pattern Bound)) → parts_slots w (pattern_parts zs) ≡ each_slots (λ b z. pattern_slots w z) zs
  parts_slots_each [] = refl
  parts_slots_each (z ∷ zs) = ap (λ r. pattern_slots w z ++ r) (parts_slots_each zs)

  pub parts_each : (n : ℕ) (zs : List (Pattern Bound)) → pattern_parts (each_numbered (λ b z. pattern_slots w z) (λ b m z. numbered_pattern w m z) n zs) ≡ numbered_parts w n (pattern_parts zs)
  parts_each n [] = refl
  parts_each n (z ∷ zs) = ap (λ r. more_patterns (numbered_pattern w n z) r) (parts_each (n + length (pattern_slots w z)) zs)

  pub expressions_slots_each : (zs : List (Expression Bound)) → expressions_slots w (expression_parts zs) ≡ each_slots (λ b z. expression_slots w z) zs
  expressions_slots_each [] = refl
  expressions_slots_each (z ∷ zs) = ap (λ r. expression_slots w z ++ r) (expressions_slots_each zs)

  pub expressions_each : (n : ℕ) (zs : List (Expression Bound)) → expression_parts (each_numbered (λ b z. expression_slots w z) (λ b m z. numbered_expression w m z) n zs) ≡ numbered_expressions w n (expression_parts zs)
  expressions_each n [] = refl
  expressions_each n (z ∷ zs) = ap (λ r. more_expressions (numbered_expression w n z) r) (expressions_each (n + length (expression_slots w z)) zs)

  pub all_clauses_slots_each : (zs : List (Alternative Bound)) → all_clauses_slots w zs ≡ each_slots (λ b z. clause_slots w z) zs
  all_clauses_slots_each [] = refl
  all_clauses_slots_each (z ∷ zs) = ap (λ r. clause_slots w z ++ r) (all_clauses_slots_each zs)

  pub all_clauses_each : (n : ℕ) (zs : List (Alternative Bound)) → each_numbered (λ b z. clause_slots w z) (λ b m z. numbered_clause w m z) n zs ≡ numbered_all_clauses w n zs
  all_clauses_each n [] = refl
  all_clauses_each n (z ∷ zs) = ap (λ r. numbered_clause w n z ∷ r) (all_clauses_each (n + length (clause_slots w z)) zs)

  pub clauses_slots_each : (zs : List (Alternative Bound)) → clauses_slots w (alternative_parts zs) ≡ each_slots (λ b z. clause_slots w z) zs
  clauses_slots_each [] = refl
  clauses_slots_each (z ∷ zs) = ap (λ r. clause_slots w z ++ r) (clauses_slots_each zs)

  pub clauses_each : (n : ℕ) (zs : List (Alternative Bound)) → alternative_parts (each_numbered (λ b z. clause_slots w z) (λ b m z. numbered_clause w m z) n zs) ≡ numbered_clauses w n (alternative_parts zs)
  clauses_each n [] = refl
  clauses_each n (z ∷ zs) = ap (λ r. more_alternatives (numbered_clause w n z) r) (clauses_each (n + length (clause_slots w z)) zs)

  pub bodies_slots_each : (zs : List (GuardedBody Bound)) → bodies_slots w (body_parts zs) ≡ each_slots (λ b z. body_slots w z) zs
  bodies_slots_each [] = refl
  bodies_slots_each (z ∷ zs) = ap (λ r. body_slots w z ++ r) (bodies_slots_each zs)

  pub bodies_each : (n : ℕ) (zs : List (GuardedBody Bound)) → body_parts (each_numbered (λ b z. body_slots w z) (λ b m z. numbered_body w m z) n zs) ≡ numbered_bodies w n (body_parts zs)
  bodies_each n [] = refl
  bodies_each n (z ∷ zs) = ap (λ r. more_bodies (numbered_body w n z) r) (bodies_each (n + length (body_slots w z)) zs)

  pub group_slots_each : (zs : List (LocalBinding Bound)) → group_slots w (binding_parts zs) ≡ each_slots (λ b z. binding_slots w z) zs
  group_slots_each [] = refl
  group_slots_each (z ∷ zs) = ap (λ r. binding_slots w z ++ r) (group_slots_each zs)

  pub group_each : (n : ℕ) (zs : List (LocalBinding Bound)) → binding_parts (each_numbered (λ b z. binding_slots w z) (λ b m z. numbered_binding w m z) n zs) ≡ numbered_group w n (binding_parts zs)
  group_each n [] = refl
  group_each n (z ∷ zs) = ap (λ r. more_bindings (numbered_binding w n z) r) (group_each (n + length (binding_slots w z)) zs)

  pub statements_slots_each : (zs : List (Statement Bound)) → statements_slots w (statement_parts zs) ≡ each_slots (λ b z. statement_slots w b z) zs
  statements_slots_each [] = refl
  statements_slots_each (z ∷ zs) = λ i. statement_slots w (none_is_nil zs i) z ++ statements_slots_each zs i

  pub statements_each : (n : ℕ) (zs : List (Statement Bound)) → statement_parts (each_numbered (λ b z. statement_slots w b z) (λ b m z. numbered_statement w b m z) n zs) ≡ numbered_statements w n (statement_parts zs)
  statements_each n [] = refl
  statements_each n (z ∷ zs) =
      ap (λ r. more_statements (numbered_statement w (is_nil zs) n z) r) (statements_each (n + length (statement_slots w (is_nil zs) z)) zs)
      ∙ ap (λ b. more_statements (numbered_statement w b n z) (numbered_statements w (n + length (statement_slots w b z)) (statement_parts zs))) (sym (none_is_nil zs))
