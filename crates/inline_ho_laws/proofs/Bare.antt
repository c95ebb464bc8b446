-- Each word on what names stand for is the same without types.
use Rattle.std.proofs.Common.{◌≡◌, ℕ, zero, suc, ◌+◌, ◌-◌, nat_le, false, List, [], ◌∷◌, ◌++◌, length, map, Option, Some, None, refl, arith, ap, sym, ◌∙◌, subst, length-append, if◌then◌else◌}
use Rattle.std.proofs.lemmas.Bool.Decides.{nat_tests}
use Rattle.rw_scope_rules.specs.declared.binding.Bound.{Bound}
use Rattle.rw_scope_rules.specs.Bindings.{pattern_variables, parts_variables, row_variables, binding_variables, group_variables}
use Rattle.rw_tree.specs.Patterns.{Pattern, wildcard, variable_pattern, constructor_pattern, tuple_pattern, Patterns, no_patterns, more_patterns}
use Rattle.rw_tree.specs.Trees.{Expressions, no_expressions, more_expressions, alternative, Alternatives, no_alternatives, more_alternatives, LocalBinding, local_signature, local_function, local_pattern, LocalBindings, no_bindings, more_bindings}
use Rattle.rw_meaning.specs.Evaluation.{patterns_before as bare_patterns_before}
use Rattle.rw_types_rules.specs.TypedTrees.{TypedNode}
use Rattle.rw_types_rules.specs.Relabelled.{relabelled_pattern, relabelled_parts, relabelled_row, relabelled_expressions, relabelled_binding, relabelled_group}
use Rattle.inline_ho_rules.specs.Meants.{Meant, flat, suspended, unplaced, Meants, no_meants, more_meants, meant_at, joined_meants, meant_count, placed, placed_all, all_unplaced, suspended_parts, flats, StandsIn, stands_here, stands_later, clauses_at}
use Rattle.inline_ho_rules.specs.TypedFlattening.{unplaced_names, patterns_before}
use Rattle.inline_ho_rules.specs.Untyped.{node_of, bare_expression, bare_clauses, bare_meant, bare_meants}

pub bare_at : (k : ℕ) (E : Meants TypedNode) (m : Meant TypedNode) → meant_at k E ≡ Some m → meant_at k (bare_meants E) ≡ Some (bare_meant m)
bare_at k no_meants m e = absurd (none_some e)
  where
    none_some : {A : Type 0} {x : A} → None ≡ Some x → ⊥
    none_some e = grind arith
bare_at zero (more_meants n ms) m e = let g : n ≡ m = cc in ap (λ z. Some (bare_meant z)) g
bare_at (suc k) (more_meants n ms) m e = bare_at k ms m e

pub bare_joined : (a b : Meants TypedNode) → bare_meants (joined_meants a b) ≡ joined_meants (bare_meants a) (bare_meants b)
bare_joined no_meants b = refl
bare_joined (more_meants m a) b = ap (more_meants (bare_meant m)) (bare_joined a b)

pub bare_count : (a : Meants TypedNode) → meant_count (bare_meants a) ≡ meant_count a
bare_count no_meants = refl
bare_count (more_meants m a) = ap suc (bare_count a)

pub bare_placed : (k : ℕ) (m : Meant TypedNode) (a : Meants TypedNode) → bare_meants (placed k m a) ≡ placed k (bare_meant m) (bare_meants a)
bare_placed zero m no_meants = refl
bare_placed (suc k) m no_meants = refl
bare_placed zero m (more_meants n a) = refl
bare_placed (suc k) m (more_meants n a) = ap (more_meants (bare_meant n)) (bare_placed k m a)

pub bare_placed_all : (k : ℕ) (a b : Meants TypedNode) → bare_meants (placed_all k a b) ≡ placed_all k (bare_meants a) (bare_meants b)
bare_placed_all k no_meants b = refl
bare_placed_all k (more_meants m a) b = bare_placed_all (suc k) a (placed k m b) ∙ ap (placed_all (suc k) (bare_meants a)) (bare_placed k m b)

pub bare_unplaced : (n : ℕ) → bare_meants (all_unplaced n) ≡ all_unplaced n
bare_unplaced zero = refl
bare_unplaced (suc n) = ap (more_meants unplaced) (bare_unplaced n)

pub bare_flats : (d n : ℕ) → bare_meants (flats d n) ≡ flats d n
bare_flats d zero = refl
bare_flats d (suc n) = ap (more_meants (flat d)) (bare_flats (suc d) n)

pub bare_suspended : (E : Meants TypedNode) (es : Expressions TypedNode) → bare_meants (suspended_parts E es) ≡ suspended_parts (bare_meants E) (relabelled_expressions node_of es)
bare_suspended E no_expressions = refl
bare_suspended E (more_expressions e es) = ap (more_meants (suspended (bare_meants E) (bare_expression e))) (bare_suspended E es)

-- == Names ==

both_long : {A B : Type 0} (xs ys : List A) (us vs : List B) → length xs ≡ length us → length ys ≡ length vs → length (xs ++ ys) ≡ length (us ++ vs)
both_long xs ys us vs e g = length-append xs ys ∙ (let h : length xs + length ys ≡ length us + length vs = omega arith in h) ∙ sym (length-append us vs)

mutual
  pattern_long : (p : Pattern TypedNode) → length (pattern_variables (relabelled_pattern node_of p)) ≡ length (pattern_variables p)
  pattern_long (wildcard a) = refl
  pattern_long (variable_pattern a x) = refl
  pattern_long (constructor_pattern a c ps) = parts_long ps
  pattern_long (tuple_pattern a ps) = parts_long ps

  parts_long : (ps : Patterns TypedNode) → length (parts_variables (relabelled_parts node_of ps)) ≡ length (parts_variables ps)
  parts_long no_patterns = refl
  parts_long (more_patterns p ps) = both_long _ _ _ _ (pattern_long p) (parts_long ps)

row_long : (ps : List (Pattern TypedNode)) → length (row_variables (relabelled_row node_of ps)) ≡ length (row_variables ps)
row_long [] = refl
row_long (p ∷ ps) = both_long _ _ _ _ (pattern_long p) (row_long ps)

pub binding_long : (b : LocalBinding TypedNode) → length (binding_variables (relabelled_binding node_of b)) ≡ length (binding_variables b)
binding_long (local_signature a x type) = refl
binding_long (local_function a x cs) = refl
binding_long (local_pattern a (alternative b pats side wheres)) = row_long pats

group_long : (bs : LocalBindings TypedNode) → length (group_variables (relabelled_group node_of bs)) ≡ length (group_variables bs)
group_long no_bindings = refl
group_long (more_bindings b bs) = both_long _ _ _ _ (binding_long b) (group_long bs)

pub bare_names : (bs : LocalBindings TypedNode) → bare_meants (unplaced_names bs) ≡ all_unplaced (length (group_variables (relabelled_group node_of bs)))
bare_names bs = bare_unplaced (length (group_variables bs)) ∙ ap all_unplaced (sym (group_long bs))

map_long : {A B : Type 0} (g : A → B) (xs : List A) → length (map g xs) ≡ length xs
map_long g [] = refl
map_long g (x ∷ xs) = ap suc (map_long g xs)

pub bare_patterns : (cs : Alternatives TypedNode) → bare_patterns_before (bare_clauses cs) ≡ patterns_before cs
bare_patterns no_alternatives = refl
bare_patterns (more_alternatives (alternative a pats side wheres) cs) = map_long (relabelled_pattern node_of) pats

pub bare_stands : {bs : LocalBindings TypedNode} {k : ℕ} {b : LocalBinding TypedNode} → StandsIn bs k b → StandsIn (relabelled_group node_of bs) k (relabelled_binding node_of b)
bare_stands stands_here = stands_here
bare_stands (stands_later {c = c} {k = k} s e) = stands_later (bare_stands s) (e ∙ ap (λ z. z + k) (sym (binding_long c)))

-- the clauses of a name of a group
skipped : (n k : ℕ) (x : Option (Alternatives Bound)) (y : ℕ → Option (Alternatives Bound)) → y k ≡ x → (if nat_le (suc (n + k)) n then None else y ((n + k) - n)) ≡ x
skipped n k x y e = let g : nat_le (suc (n + k)) n ≡ false = grind (arith, nat_tests) in let h : (n + k) - n ≡ k = omega arith in rw (g, h, e)

pub clauses_there : (bs : LocalBindings Bound) (k : ℕ) (a : Bound) (x : List ℕ) (cs : Alternatives Bound) → StandsIn bs k (local_function a x cs) → clauses_at bs k ≡ Some cs
clauses_there bs k a x cs stands_here = refl
clauses_there (more_bindings (local_signature b y type) bs) m a x cs (stands_later {k = k} s e) = let g : k ≡ 0 + k = omega arith in subst (λ z. clauses_at bs z ≡ Some cs) (g ∙ sym e) (clauses_there bs k a x cs s)
clauses_there (more_bindings (local_function b y ds) bs) m a x cs (stands_later {k = k} s e) =
    let g : suc k ≡ 1 + k = omega arith in subst (λ z. clauses_at (more_bindings (local_function b y ds) bs) z ≡ Some cs) (g ∙ sym e) (clauses_there bs k a x cs s)
clauses_there (more_bindings (local_pattern b (alternative c pats side wheres)) bs) m a x cs (stands_later {k = k} s e) =
    rw e (skipped (length (row_variables pats)) k (Some cs) (clauses_at bs) (clauses_there bs k a x cs s))
