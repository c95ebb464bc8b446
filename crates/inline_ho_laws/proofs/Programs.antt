-- The flat program of a typed program is one of the program without its types.
use Rattle.std.proofs.Common.{◌≡◌, ℕ, zero, suc, ◌+◌, ◌≤◌, nat_eq, ◌&&◌, Bool, true, false, if◌then◌else◌, List, [], ◌∷◌, ◌++◌, map, length, Option, Some, None, refl, arith, ap, sym, ◌∙◌, subst}
use Rattle.std.specs.List.{AllByRecursion}
use Rattle.std.specs.Prelude.{get_or, slice_get, codes}
use Rattle.std.specs.Option.{option_map}
use Rattle.std.proofs.lemmas.Bool.Decides.{nat_tests}
use Rattle.rw_base.specs.declared.place.Place.{Place}
use Rattle.rw_scope_rules.specs.declared.binding.Operation.TheVariants.{Return, Bind, Then, Get, Put, Lift, Signal, Extrude, Par, Refold}
use Rattle.rw_scope_rules.specs.declared.binding.Binding.{Binding}
use Rattle.rw_scope_rules.specs.declared.binding.Binding.TheVariants.{Declared, Operation as Operates, Constructor as Constructs, Local}
use Rattle.rw_scope_rules.specs.declared.binding.Bound.{Bound}
use Rattle.rw_scope_rules.specs.Names.{is_among as is_named}
use Rattle.rw_tree.specs.Patterns.{Pattern}
use Rattle.rw_tree.specs.Trees.{Expression, variable, constructor, application, tuple, chain, lambda, let_in, if_then_else, case_of, do_block}
use Rattle.rw_tree.specs.Trees.{Alternative, alternative, Alternatives, more_alternatives, alternative_parts, plain_side, guarded_side}
use Rattle.rw_tree.specs.Declarations.{Declaration, import_declaration, data_declaration, fixity_declaration, signature_declaration, function_declaration}
use Rattle.rw_core.specs.Options.{◌>>=◌}
use Rattle.rw_core.specs.Systems.{System, leaf, side_by_side, fed_back, AreAlike}
use Rattle.rw_meaning.specs.Evaluation.{declaration_at, patterns_before as bare_patterns_before}
use Rattle.rw_meaning.specs.Systems.{Body, binding_of, body_of, start_of, system_of, operated, system_with, with_systems}
use Rattle.rw_types_solving.specs.Types.{Ty}
use Rattle.rw_types_rules.specs.Schemes.{World}
use Rattle.rw_types_rules.specs.TypedTrees.{TypedNode, erased}
use Rattle.rw_types_rules.specs.Relabelled.{relabelled_alternative, relabelled_group, relabelled_expression}
use Rattle.rw_types_numbering.proofs.Relabelling.{twice_declaration}
use Rattle.rw_types_instances.specs.Instances.{closed_node, in_instance}
use Rattle.rw_systems_laws.specs.Annotated.{IsRelabelledSystem, relabelled_start}
use Rattle.rw_systems_laws.proofs.Annotated.{system_alike, start_alike}
use Rattle.rw_core_flat.specs.Programs.{FlatFunction, function_at, FlatDenotes}
use Rattle.specialise_rules.specs.Instances.{Instance, same_instance, same_list, start_from, declared_in}
use Rattle.inline_ho_rules.specs.Meants.{Meants, no_meants, more_meants, meant_count, flats, first_meants, later_meants, Columns, no_columns, value_column, other_column, AreColumns, none_in, matched_in, named_in, ignored_in, AreMatched, none_matched, flat_matched, other_matched, AreVariables, none_variable, more_variable, declared_clauses}
use Rattle.inline_ho_rules.specs.Flattening as f
use Rattle.inline_ho_rules.specs.FlatPrograms.{IsOf as IsOfNumber, IsPart, IsFlatProgram}
use Rattle.inline_ho_rules.specs.TypedFlattening.{typed_binding, patterns_before, IsBody, plain_body, rows_body, none_rows, some_rows}
use Rattle.inline_ho_rules.specs.TypedPrograms.{Origin, whole, part, numbers_of, parts_of, numbered_system, position, clauses_in, start_body, declared_place, origins, named_origins, named_first, others_of, function_of, clauses_of, number_of, IsOf, IsOfDeclaration, AreOf, IsFlatOf}
use Rattle.inline_ho_rules.specs.Untyped.{node_of, bare_expression, bare_clauses, bare_meant, bare_meants, clauses_declared}
use Rattle.rw_core.specs.Values.{Val}
use Rattle.rw_core.proofs.Eventually.{reached_once}
use Rattle.rw_meaning.specs.Outputs.{outputs_within, Denotes}
use Rattle.rw_core_flat.specs.Terms.{let_term}
use Rattle.rw_core_flat.specs.WellTyped.{Sign, DataTypes, Fits}
use Rattle.rw_guard_laws.specs.Guarded.{IsGuarded}
use Rattle.rw_guard_laws.proofs.Outputs.{denoted as guarded}
use Rattle.inline_ho_laws.proofs.Outputs.{denoted}
use Rattle.inline_ho_laws.proofs.Orders.{stands_all}
use Rattle.inline_ho_laws.proofs.Bare.{bare_patterns, bare_flats}
use Rattle.inline_ho_laws.proofs.Forget.{forget, body_forget, placed_forget, group_bare}

-- == Trees ==

parts_relabelled : (cs : List (Alternative TypedNode)) → bare_clauses (alternative_parts cs) ≡ alternative_parts (map (relabelled_alternative node_of) cs)
parts_relabelled [] = refl
parts_relabelled (c ∷ cs) = ap (more_alternatives (relabelled_alternative node_of c)) (parts_relabelled cs)

-- an instance without its types is the declaration without them
erased_instance : (us : List Ty) (d : Declaration TypedNode) → erased (in_instance us d) ≡ erased d
erased_instance us d = twice_declaration (closed_node us) node_of d

clauses_erased : (d : Declaration TypedNode) → declared_clauses (erased d) ≡ option_map bare_clauses (declared_clauses d)
clauses_erased (import_declaration a m) = refl
clauses_erased (data_declaration a x params constructors) = refl
clauses_erased (fixity_declaration a side strength names) = refl
clauses_erased (signature_declaration a names type) = refl
clauses_erased (function_declaration a x clauses) = ap Some (sym (parts_relabelled clauses))

at_erased : (n : ℕ) (ds : List (Declaration TypedNode)) → declaration_at n (map erased ds) ≡ option_map erased (slice_get ds n)
at_erased n [] = refl
at_erased zero (d ∷ ds) = refl
at_erased (suc n) (d ∷ ds) = at_erased n ds

by_declaration : (us : List Ty) (cs : Alternatives TypedNode) (x : Option (Declaration TypedNode)) → clauses_in (x >>= λ d. Some (in_instance us d)) ≡ Some cs → (option_map erased x >>= declared_clauses) ≡ Some (bare_clauses cs)
by_declaration us cs None e = absurd (cc)
by_declaration us cs (Some d) e = ap declared_clauses (sym (erased_instance us d)) ∙ clauses_erased (in_instance us d) ∙ ap (option_map bare_clauses) e

-- the clauses of an instance are those of its declaration
pub clauses_are_declared : (typed : List (Declaration TypedNode)) (n : ℕ) (us : List Ty) (cs : Alternatives TypedNode) → clauses_in (declared_in typed (record { declaration = n; arguments = us })) ≡ Some cs
    → clauses_declared (map erased typed) n ≡ Some (bare_clauses cs)
clauses_are_declared typed n us cs e = ap (λ z. z >>= declared_clauses) (at_erased n typed) ∙ by_declaration us cs (slice_get typed n) e

-- == `start` ==

record Started (n : ℕ) (ds : List (Declaration TypedNode)) (i : Instance) : Type 0 where
  pub place : ℕ
  pub is : i ≡ record { declaration = n + place; arguments = [] }
  pub body : (d : Declaration TypedNode) → slice_get ds place ≡ Some d → start_of (map (in_instance []) ds) ≡ start_body (in_instance [] d)

later : (n : ℕ) (d : Declaration TypedNode) (ds : List (Declaration TypedNode)) (i : Instance) → start_of (map (in_instance []) (d ∷ ds)) ≡ start_of (map (in_instance []) ds) → Started (suc n) ds i → Started n (d ∷ ds) i
later n d ds i same s = record {
  place = suc s.place;
  is = s.is ∙ ap (λ z. record { declaration = z; arguments = [] }) (let e : suc n + s.place ≡ n + suc s.place = omega arith in e);
  body = λ e h. same ∙ s.body e h;
}

one_first : (i j : Instance) → i ∷ [] ≡ j ∷ [] → j ≡ i
one_first i j e = cc

by_name : (n : ℕ) (a : TypedNode) (x : List ℕ) (clauses : List (Alternative TypedNode)) (ds : List (Declaration TypedNode)) (i : Instance) → (start_from (suc n) ds ≡ i ∷ [] → Started (suc n) ds i) → (b : Bool) → is_named x (codes "start" ∷ []) ≡ b
    → (if b then record { declaration = n; arguments = [] } ∷ [] else start_from (suc n) ds) ≡ i ∷ [] → Started n (function_declaration a x clauses ∷ ds) i
by_name n a x clauses ds i again true t e = record {
  place = 0;
  is = one_first _ _ e ∙ ap (λ z. record { declaration = z; arguments = [] }) (let e : n ≡ n + 0 = omega arith in e);
  body = λ d h. (rw t refl) ∙ ap (λ z. start_body (in_instance [] z)) (let g : function_declaration a x clauses ≡ d = cc in g);
}
by_name n a x clauses ds i again false t e = later n (function_declaration a x clauses) ds i (rw t refl) (again e)

started : (n : ℕ) (ds : List (Declaration TypedNode)) (i : Instance) → start_from n ds ≡ i ∷ [] → Started n ds i
started n [] i e = absurd (cc)
started n (import_declaration a m ∷ ds) i e = later n (import_declaration a m) ds i refl (started (suc n) ds i e)
started n (data_declaration a x params constructors ∷ ds) i e = later n (data_declaration a x params constructors) ds i refl (started (suc n) ds i e)
started n (fixity_declaration a side strength names ∷ ds) i e = later n (fixity_declaration a side strength names) ds i refl (started (suc n) ds i e)
started n (signature_declaration a names type ∷ ds) i e = later n (signature_declaration a names type) ds i refl (started (suc n) ds i e)
started n (function_declaration a x clauses ∷ ds) i e = by_name n a x clauses ds i (started (suc n) ds i) (is_named x (codes "start" ∷ [])) refl e

all_erased : (us : List Ty) (ds : List (Declaration TypedNode)) → map erased (map (in_instance us) ds) ≡ map erased ds
all_erased us [] = refl
all_erased us (d ∷ ds) = λ i. erased_instance us d i ∷ all_erased us ds i

body_held : (x : Option (Declaration TypedNode)) (declared : Declaration TypedNode) → (x >>= λ d. Some (in_instance [] d)) ≡ Some declared → (d : Declaration TypedNode) × (x ≡ Some d) × (in_instance [] d ≡ declared)
body_held None declared e = absurd (cc)
body_held (Some d) declared e = (d, refl, cc)

pub start_is : (typed : List (Declaration TypedNode)) (i : Instance) (declared : Declaration TypedNode) (start : Body TypedNode) → start_from 0 typed ≡ i ∷ [] → declared_in typed i ≡ Some declared → start_body declared ≡ Some start
    → start_of (map erased typed) ≡ Some (relabelled_start node_of start)
start_is typed i declared start e g h =
    let s = started 0 typed i e in
    let k : declared_in typed (record { declaration = s.place; arguments = [] }) ≡ Some declared = subst (λ z. declared_in typed z ≡ Some declared) (s.is ∙ ap (λ z. record { declaration = z; arguments = [] }) (let e : 0 + s.place ≡ s.place = omega arith in e)) g in
    let b = body_held (slice_get typed s.place) declared k in
    let t : start_of (map (in_instance []) typed) ≡ Some start = s.body b.0 b.1 ∙ ap start_body b.2 ∙ h in
    ap start_of (sym (all_erased [] typed)) ∙ start_alike node_of (map (in_instance []) typed) ∙ ap (option_map (relabelled_start node_of)) t

-- == Positions ==

same_number : (a b : ℕ) (c : Bool) → (nat_eq a b && c) ≡ true → b ≡ a
same_number a b c e = grind (arith, nat_tests)

record Stands (m : ℕ) (os : List Origin) (j : Instance) (i : ℕ) : Type 0 where
  pub place : ℕ
  pub is : i ≡ m + place
  pub of_it : get_or (numbers_of os) place None ≡ Some j.declaration

further : (m : ℕ) (o : Origin) (os : List Origin) (j : Instance) (i : ℕ) → Stands (suc m) os j i → Stands m (o ∷ os) j i
further m o os j i s = record { place = suc s.place; is = s.is ∙ (let e : suc m + s.place ≡ m + suc s.place = omega arith in e); of_it = s.of_it }

by_same : (m : ℕ) (k : Instance) (os : List Origin) (j : Instance) (i : ℕ) → (position (suc m) os j ≡ Some i → Stands (suc m) os j i) → (b : Bool) → same_instance j k ≡ b → (if b then Some m else position (suc m) os j) ≡ Some i
    → Stands m (whole k ∷ os) j i
by_same m k os j i again true t e = record { place = 0; is = (let g : i ≡ m = cc in let h : m ≡ m + 0 = omega arith in g ∙ h); of_it = ap Some (same_number j.declaration k.declaration (same_list j.arguments k.arguments) t) }
by_same m k os j i again false t e = further m (whole k) os j i (again e)

position_stands : (m : ℕ) (os : List Origin) (j : Instance) (i : ℕ) → position m os j ≡ Some i → Stands m os j i
position_stands m [] j i e = absurd (cc)
position_stands m (whole k ∷ os) j i e = by_same m k os j i (position_stands (suc m) os j i) (same_instance j k) refl e
position_stands m (part n e' ∷ os) j i e = further m (part n e') os j i (position_stands (suc m) os j i e)

pub position_is_of : (os : List Origin) (n : ℕ) (us : List Ty) (i : ℕ) → position 0 os (record { declaration = n; arguments = us }) ≡ Some i → IsOfNumber (numbers_of os) i n
position_is_of os n us i e = let s = position_stands 0 os (record { declaration = n; arguments = us }) i e in subst (λ z. get_or (numbers_of os) z None ≡ Some n) (sym (s.is ∙ (let e : 0 + s.place ≡ s.place = omega arith in e))) s.of_it

-- == Counts ==

abbrev column_count : Columns TypedNode → ℕ
column_count no_columns = 0
column_count (value_column cols) = suc (column_count cols)
column_count (other_column m cols) = suc (column_count cols)

columns_count : {d : ℕ} {cols : Columns TypedNode} {ps : List (Pattern TypedNode)} {qs : _} {ms : Meants TypedNode} {e : ℕ} → AreColumns typed_binding d cols ps qs ms e → length ps ≡ column_count cols
columns_count none_in = refl
columns_count (matched_in p f) = ap suc (columns_count f)
columns_count (named_in f) = ap suc (columns_count f)
columns_count (ignored_in f) = ap suc (columns_count f)

matched_count : {ms : Meants TypedNode} {cols : Columns TypedNode} {ts : _} → AreMatched ms cols ts → column_count cols ≡ meant_count ms
matched_count none_matched = refl
matched_count (flat_matched f) = ap suc (matched_count f)
matched_count (other_matched f) = ap suc (matched_count f)

variables_count : {ps : List (Pattern TypedNode)} {ms : Meants TypedNode} → AreVariables ps ms → length ps ≡ meant_count ms
variables_count none_variable = refl
variables_count (more_variable f) = ap suc (variables_count f)

first_flats_count : (n m d : ℕ) → meant_count {X = TypedNode} (first_meants n (flats d m)) ≤ m
first_flats_count zero m d = omega arith
first_flats_count (suc n) zero d = omega arith
first_flats_count (suc n) (suc m) d = let h = first_flats_count n m (suc d) in omega arith

body_counts : {program : List (Declaration Bound)} {function_of : ℕ → List Ty → Option ℕ} {clauses_of : ℕ → List Ty → Option (Alternatives TypedNode)} {number_of : Ty → Option ℕ} {d : ℕ} {E params args : Meants TypedNode} {cs : Alternatives TypedNode} {t : _}
    → IsBody program function_of clauses_of number_of d E cs params args t → patterns_before cs ≤ meant_count params
body_counts (plain_body v f k) = let h = variables_count v in omega arith
body_counts (rows_body e m none_rows) = omega arith
body_counts (rows_body e m (some_rows c f k others)) = let h = columns_count c in let g = matched_count m in omega arith

-- == Parts of environments ==

bare_first : (n : ℕ) (ms : Meants TypedNode) → bare_meants (first_meants n ms) ≡ first_meants n (bare_meants ms)
bare_first zero ms = refl
bare_first (suc n) no_meants = refl
bare_first (suc n) (more_meants m ms) = ap (more_meants (bare_meant m)) (bare_first n ms)

bare_later : (n : ℕ) (ms : Meants TypedNode) → bare_meants (later_meants n ms) ≡ later_meants n (bare_meants ms)
bare_later zero ms = refl
bare_later (suc n) no_meants = refl
bare_later (suc n) (more_meants m ms) = bare_later n ms

-- == One device by itself ==

abbrev LeafIs : {A : Type 0} → Expression A → System (Expression A) (Expression A) → Type 0
LeafIs x (leaf e) = e ≡ x
LeafIs x (side_by_side d e) = Unit {0}
LeafIs x (fed_back f g d) = Unit {0}

operated_leaf : (x : Expression TypedNode) (b : Option Binding) (us : List (Expression TypedNode × System (Expression TypedNode) (Expression TypedNode))) → LeafIs x (operated x b us)
operated_leaf x None us = refl
operated_leaf x (Some (Declared n)) us = refl
operated_leaf x (Some (Constructs n p)) us = refl
operated_leaf x (Some (Local k)) us = refl
operated_leaf x (Some (Operates Return)) us = refl
operated_leaf x (Some (Operates Bind)) us = refl
operated_leaf x (Some (Operates Then)) us = refl
operated_leaf x (Some (Operates Get)) us = refl
operated_leaf x (Some (Operates Put)) us = refl
operated_leaf x (Some (Operates Lift)) us = refl
operated_leaf x (Some (Operates Signal)) us = refl
operated_leaf x (Some (Operates Extrude)) us = refl
operated_leaf x (Some (Operates Par)) [] = refl
operated_leaf x (Some (Operates Par)) (a ∷ []) = refl
operated_leaf x (Some (Operates Par)) (a ∷ b ∷ []) = tt
operated_leaf x (Some (Operates Par)) (a ∷ b ∷ c ∷ us) = refl
operated_leaf x (Some (Operates Refold)) [] = refl
operated_leaf x (Some (Operates Refold)) (a ∷ []) = refl
operated_leaf x (Some (Operates Refold)) (a ∷ b ∷ []) = refl
operated_leaf x (Some (Operates Refold)) (a ∷ b ∷ c ∷ []) = tt
operated_leaf x (Some (Operates Refold)) (a ∷ b ∷ c ∷ d ∷ us) = refl

leaf_is_whole : (x e : Expression TypedNode) (us : List (Expression TypedNode × System (Expression TypedNode) (Expression TypedNode))) → LeafIs x (system_with typed_binding x e us)
leaf_is_whole x (application a head parts) us = leaf_is_whole x head (with_systems typed_binding parts us)
leaf_is_whole x (variable a y) us = operated_leaf x (typed_binding a) us
leaf_is_whole x (constructor a c) us = refl
leaf_is_whole x (tuple a parts) us = refl
leaf_is_whole x (chain a operands operators) us = refl
leaf_is_whole x (lambda a pats body) us = refl
leaf_is_whole x (let_in a group body) us = refl
leaf_is_whole x (if_then_else a test first second) us = refl
leaf_is_whole x (case_of a scrutinee rows) us = refl
leaf_is_whole x (do_block a steps) us = refl

-- the one clause of a body
one_clause : (clauses : List (Alternative TypedNode)) (start : Body TypedNode) → body_of clauses ≡ Some start → (a : TypedNode) × (clauses ≡ alternative a [] (plain_side start.expression) start.wheres ∷ [])
one_clause [] start e = absurd (cc)
one_clause (alternative a [] (plain_side x) wheres ∷ []) start e = let k : record { expression = x; wheres = wheres } ≡ start = cc in (a, ap (λ z. alternative a [] (plain_side z.expression) z.wheres ∷ []) k)
one_clause (alternative a [] (plain_side x) wheres ∷ c ∷ cs) start e = absurd (cc)
one_clause (alternative a [] (guarded_side bodies) wheres ∷ cs) start e = absurd (cc)
one_clause (alternative a (p ∷ ps) side wheres ∷ cs) start e = absurd (cc)

-- == Functions at their places ==

get_front : {A : Type 0} (xs ys : List A) (k : ℕ) (x : A) → slice_get xs k ≡ Some x → slice_get (xs ++ ys) k ≡ Some x
get_front [] ys k x e = absurd (cc)
get_front (y ∷ xs) ys zero x e = e
get_front (y ∷ xs) ys (suc k) x e = get_front xs ys k x e

get_back : {A : Type 0} (xs ys : List A) (k : ℕ) → slice_get (xs ++ ys) (length xs + k) ≡ slice_get ys k
get_back [] ys k = ap (slice_get ys) (let e : 0 + k ≡ k = omega arith in e)
get_back (x ∷ xs) ys k = ap (slice_get (x ∷ (xs ++ ys))) (let e : suc (length xs) + k ≡ suc (length xs + k) = omega arith in e) ∙ get_back xs ys k

module _ (world : World) (typed : List (Declaration TypedNode)) (instances : List Instance) (table : List Ty) (start : Body TypedNode) (place : Place) where
  abbrev all : List Origin
  all = named_origins world typed instances table start place

  abbrev Of : Origin → FlatFunction → Type 0
  Of o g = IsOf world typed instances table start place o g

  -- a function for each of these origins, from this number on
  record Holds (functions : List FlatFunction) (n : ℕ) (os : List Origin) : Type 0 where
    pub at : (k : ℕ) (o : Origin) → slice_get os k ≡ Some o → (g : FlatFunction) × (function_at (n + k) functions ≡ Some g) × Of o g

  first_holds : (os : List Origin) (functions : List FlatFunction) → AreOf world typed instances table start place os functions → (k : ℕ) (o : Origin) → slice_get os k ≡ Some o → (g : FlatFunction) × (function_at k functions ≡ Some g) × Of o g
  first_holds [] functions h k o e = absurd (cc)
  first_holds (p ∷ os) [] h k o e = absurd h
  first_holds (p ∷ os) (g ∷ gs) h zero o e = let q : p ≡ o = cc in (g, refl, subst (λ z. Of z g) q h.0)
  first_holds (p ∷ os) (g ∷ gs) h (suc k) o e = first_holds os gs h.1 k o e

  all_hold : (os : List Origin) (functions : List FlatFunction) → AreOf world typed instances table start place os functions → Holds functions 0 os
  all_hold os functions h = record {
    at = λ k o e. let g = first_holds os functions h k o e in (g.0, subst (λ z. function_at z functions ≡ Some g.0) (let q : k ≡ 0 + k = omega arith in q) g.1, g.2);
  }

  front_holds : (functions : List FlatFunction) (n : ℕ) (xs ys : List Origin) → Holds functions n (xs ++ ys) → Holds functions n xs
  front_holds functions n xs ys h = record { at = λ k o e. h.at k o (get_front xs ys k o e) }

  back_holds : (functions : List FlatFunction) (n : ℕ) (xs ys : List Origin) → Holds functions n (xs ++ ys) → Holds functions (n + length xs) ys
  back_holds functions n xs ys h = record {
    at = λ k o e. let g = h.at (length xs + k) o (get_back xs ys k ∙ e) in
        (g.0, subst (λ z. function_at z functions ≡ Some g.0) (let q : n + (length xs + k) ≡ (n + length xs) + k = omega arith in q) g.1, g.2);
  }

  -- what is of a declaration
  record AtOrigin (functions : List FlatFunction) (n : ℕ) (g : FlatFunction) : Type 0 where
    pub instance_of : Instance
    pub is : instance_of.declaration ≡ n
    pub of_it : Of (whole instance_of) g

  at_origin : (os : List Origin) (functions : List FlatFunction) → AreOf world typed instances table start place os functions → (i n : ℕ) (g : FlatFunction) → function_at i functions ≡ Some g → get_or (numbers_of os) i None ≡ Some n → AtOrigin functions n g
  at_origin [] functions h i n g e k = absurd (cc)
  at_origin (o ∷ os) [] h i n g e k = absurd h
  at_origin (whole j ∷ os) (g' ∷ gs) h zero n g e k = record { instance_of = j; is = (let q : j.declaration ≡ n = cc in q); of_it = subst (λ z. Of (whole j) z) (let q : g' ≡ g = cc in q) h.0 }
  at_origin (part m x ∷ os) (g' ∷ gs) h zero n g e k = absurd (cc)
  at_origin (o ∷ os) (g' ∷ gs) h (suc i) n g e k = let r = at_origin os gs h.1 i n g e k in record { instance_of = r.instance_of; is = r.is; of_it = r.of_it }

  abbrev bare : List (Declaration Bound)
  bare = map erased typed

  abbrev numbers : List (Option ℕ)
  numbers = numbers_of all

  abbrev fo : ℕ → List Ty → Option ℕ
  fo = function_of world typed instances table start place

  abbrev co : ℕ → List Ty → Option (Alternatives TypedNode)
  co = clauses_of world typed instances table start place

  abbrev no : Ty → Option ℕ
  no = number_of world typed instances table

  of_clauses : (n : ℕ) (j : Instance) → j.declaration ≡ n → (g : FlatFunction) (x : Option (Declaration TypedNode)) → declared_in typed j ≡ x → IsOfDeclaration world typed instances table start place x g
      → (cs : Alternatives Bound) × ((declaration_at n bare >>= declared_clauses) ≡ Some cs) × f.IsWhole bare (IsOfNumber numbers) cs g
  of_clauses n j q g None e h = absurd h
  of_clauses n j q g (Some (import_declaration a m)) e h = absurd h
  of_clauses n j q g (Some (data_declaration a x params constructors)) e h = absurd h
  of_clauses n j q g (Some (fixity_declaration a side strength names)) e h = absurd h
  of_clauses n j q g (Some (signature_declaration a names type)) e h = absurd h
  of_clauses n j q g (Some (function_declaration a x clauses)) e h =
      let cs = alternative_parts clauses in
      let m = length g.params in
      let d : clauses_declared bare j.declaration ≡ Some (bare_clauses cs) = clauses_are_declared typed j.declaration j.arguments cs (ap clauses_in e) in
      let p = bare_patterns cs in
      let b = body_forget bare fo co no (IsOfNumber numbers) (λ n i us. position_is_of all n us i) (λ n us cs. clauses_are_declared typed n us cs) h.3 in
      let le = body_counts h.3 in
      let lm = first_flats_count (patterns_before cs) m 0 in (
        bare_clauses cs,
        subst (λ z. clauses_declared bare z ≡ Some (bare_clauses cs)) q d,
        record {
          patterned = (let r : bare_patterns_before (bare_clauses cs) ≡ patterns_before cs = p in omega arith);
          flattened =
              subst (λ z. f.IsBody bare (IsOfNumber numbers) m no_meants (bare_clauses cs) (first_meants z (flats 0 m)) (later_meants z (flats 0 m)) g.body) (sym p)
              (subst (λ z. f.IsBody bare (IsOfNumber numbers) m no_meants (bare_clauses cs) z (later_meants (patterns_before cs) (flats 0 m)) g.body) (bare_first (patterns_before cs) (flats 0 m) ∙ ap (first_meants (patterns_before cs)) (bare_flats 0 m))
              (subst (λ z. f.IsBody bare (IsOfNumber numbers) m no_meants (bare_clauses cs) (bare_meants (first_meants (patterns_before cs) (flats 0 m))) z g.body) (bare_later (patterns_before cs) (flats 0 m) ∙ ap (later_meants (patterns_before cs)) (bare_flats 0 m)) b));
        },
      )

  -- where `start` is one device by itself, its function is that of its clauses
  start_whole : (i : Instance) (declared : Declaration TypedNode) → declared_in typed i ≡ Some declared → start_body declared ≡ Some start → (e : Expression TypedNode) → e ≡ start.expression → (g : FlatFunction) → Of (part 0 e) g
      → (cs : Alternatives Bound) × ((declaration_at i.declaration bare >>= declared_clauses) ≡ Some cs) × f.IsWhole bare (IsOfNumber numbers) cs g
  start_whole i (import_declaration a m) h k e q g o = absurd (cc)
  start_whole i (data_declaration a x params constructors) h k e q g o = absurd (cc)
  start_whole i (fixity_declaration a side strength names) h k e q g o = absurd (cc)
  start_whole i (signature_declaration a names type) h k e q g o = absurd (cc)
  start_whole i (function_declaration a x clauses) h k e q g o =
      let c = one_clause clauses start k in
      let one = alternative c.0 [] (plain_side start.expression) start.wheres ∷ [] in
      let d : clauses_declared bare i.declaration ≡ Some (bare_clauses (alternative_parts clauses)) = clauses_are_declared typed i.declaration i.arguments (alternative_parts clauses) (ap clauses_in h) in
      let r = o.3 in
      let placed =
      group_bare bare fo co no (IsOfNumber numbers) (λ n i us. position_is_of all n us i) (λ n us cs. clauses_are_declared typed n us cs) start.wheres
      (placed_forget bare fo co no (IsOfNumber numbers) (λ n i us. position_is_of all n us i) (λ n us cs. clauses_are_declared typed n us cs) start.wheres r.placed (stands_all start.wheres)) in
      let flattened =
      subst (λ z. f.IsFlat bare (IsOfNumber numbers) r.next (bare_meants r.inside) (bare_expression z) no_meants r.term) q
      (forget bare fo co no (IsOfNumber numbers) (λ n i us. position_is_of all n us i) (λ n us cs. clauses_are_declared typed n us cs) r.flattened) in
      let body : f.IsBody bare (IsOfNumber numbers) 0 no_meants (bare_clauses (alternative_parts one)) no_meants no_meants (let_term r.lets r.term) = f.plain_body none_variable placed flattened in
      let moved : f.IsBody bare (IsOfNumber numbers) 0 no_meants (bare_clauses (alternative_parts one)) no_meants no_meants g.body = subst (λ z. f.IsBody bare (IsOfNumber numbers) 0 no_meants (bare_clauses (alternative_parts one)) no_meants no_meants z) (sym r.body) body in (
        bare_clauses (alternative_parts one),
        subst (λ z. clauses_declared bare i.declaration ≡ Some (bare_clauses (alternative_parts z))) c.1 d,
        record {
          patterned = omega arith;
          flattened = subst (λ z. f.IsBody bare (IsOfNumber numbers) z no_meants (bare_clauses (alternative_parts one)) no_meants (flats 0 z) g.body) (sym r.counted) moved;
        },
      )

  module _ (functions : List FlatFunction) where
    abbrev BarePart : ℕ → ℕ → Expression Bound → Type 0
    BarePart n i e = IsPart bare numbers functions (relabelled_group node_of start.wheres) n i e

    -- the flat function of a part, without types
    part_is : (n i : ℕ) (e : Expression TypedNode) (d : Expression Bound) → relabelled_expression node_of e ≡ d → (g : FlatFunction) → function_at i functions ≡ Some g → Of (part n e) g → BarePart n i d
    part_is n i e d q g at o = record {
      function = g;
      found = at;
      counted = o.3.counted;
      next = o.3.next;
      inside = bare_meants o.3.inside;
      lets = o.3.lets;
      term = o.3.term;
      body = o.3.body;
      placed =
          group_bare bare fo co no (IsOfNumber numbers) (λ n i us. position_is_of all n us i) (λ n us cs. clauses_are_declared typed n us cs) start.wheres
          (placed_forget bare fo co no (IsOfNumber numbers) (λ n i us. position_is_of all n us i) (λ n us cs. clauses_are_declared typed n us cs) start.wheres o.3.placed (stands_all start.wheres));
      flattened =
          subst (λ z. f.IsFlat bare (IsOfNumber numbers) o.3.next (bare_meants o.3.inside) z (flats 0 n) o.3.term) q
          (subst (λ z. f.IsFlat bare (IsOfNumber numbers) o.3.next (bare_meants o.3.inside) (bare_expression e) z o.3.term) (bare_flats 0 n)
          (forget bare fo co no (IsOfNumber numbers) (λ n i us. position_is_of all n us i) (λ n us cs. clauses_are_declared typed n us cs) o.3.flattened));
    }

    part_at : (n m k : ℕ) (os : List Origin) → Holds functions m os → (e : Expression TypedNode) (d : Expression Bound) → relabelled_expression node_of e ≡ d → slice_get os k ≡ Some (part n e) → (i : ℕ) → m + k ≡ i → BarePart n i d
    part_at n m k os h e d q at i p = let g = h.at k (part n e) at in part_is n i e d q g.0 (subst (λ z. function_at z functions ≡ Some g.0) p g.1) g.2

    system_is : (m : ℕ) (s : System (Expression TypedNode) (Expression TypedNode)) (t : System (Expression Bound) (Expression Bound)) → IsRelabelledSystem node_of s t → Holds functions m (parts_of s)
        → AreAlike (BarePart 0) (BarePart 1) (BarePart 2) (numbered_system m s) t
    system_is m (leaf e) (leaf d) q h = part_at 0 m 0 (parts_of (leaf e)) h e d q refl m (omega arith)
    system_is m (leaf e) (side_by_side d x) q h = absurd q
    system_is m (leaf e) (fed_back f' g' d) q h = absurd q
    system_is m (side_by_side d e) (leaf x) q h = absurd q
    system_is m (side_by_side d e) (side_by_side x y) q h =
        (system_is m d x q.0 (front_holds functions m (parts_of d) (parts_of e) h), system_is (m + length (parts_of d)) e y q.1 (back_holds functions m (parts_of d) (parts_of e) h))
    system_is m (side_by_side d e) (fed_back f' g' x) q h = absurd q
    system_is m (fed_back a b d) (leaf x) q h = absurd q
    system_is m (fed_back a b d) (side_by_side x y) q h = absurd q
    system_is m (fed_back a b d) (fed_back x y z) q h = (
      part_at 1 m 0 (parts_of (fed_back a b d)) h a x q.0 refl m (omega arith),
      part_at 2 m 1 (parts_of (fed_back a b d)) h b y q.1 refl (suc m) (omega arith),
      system_is (suc (suc m)) d z q.2 (let r : m + 2 ≡ suc (suc m) = omega arith in subst (λ z. Holds functions z (parts_of d)) r (back_holds functions m (part 1 a ∷ part 2 b ∷ []) (parts_of d) h)),
    )

-- == Programs ==

module _ (world : World) (typed : List (Declaration TypedNode)) (i : Instance) (others : List Instance) (table : List Ty) (start : Body TypedNode) (place : Place) (declared : Declaration TypedNode) (first : declared_in typed i ≡ Some declared)
    (found : start_body declared ≡ Some start) where
  abbrev rest : List Origin
  rest = others_of world typed (i ∷ others) table start place (i ∷ others)

  abbrev Wholly : ℕ → FlatFunction → Type 0
  Wholly n g =
      (cs : Alternatives Bound) × ((declaration_at n (map erased typed) >>= declared_clauses) ≡ Some cs)
      × f.IsWhole (map erased typed) (IsOfNumber (numbers_of (named_origins world typed (i ∷ others) table start place))) cs g

  by_origin : (os : List Origin) (functions : List FlatFunction) → AreOf world typed (i ∷ others) table start place os functions → (k n : ℕ) (g : FlatFunction) → function_at k functions ≡ Some g → get_or (numbers_of os) k None ≡ Some n → Wholly n g
  by_origin os functions h k n g at of =
      let r = at_origin world typed (i ∷ others) table start place os functions h k n g at of in
      of_clauses world typed (i ∷ others) table start place n r.instance_of r.is g (declared_in typed r.instance_of) refl r.of_it

  each_whole : (s : System (Expression TypedNode) (Expression TypedNode)) → LeafIs start.expression s → (functions : List FlatFunction) → AreOf world typed (i ∷ others) table start place (parts_of s ++ rest) functions → (k n : ℕ) (g : FlatFunction)
      → function_at k functions ≡ Some g → get_or (numbers_of (named_first s (i ∷ others) ++ rest)) k None ≡ Some n → Wholly n g
  each_whole (leaf e) q [] h k n g at of = absurd h
  each_whole (leaf e) q (g' ∷ gs) h zero n g at of =
      let r : g' ≡ g = cc in let m : i.declaration ≡ n = cc in
      subst (λ z. Wholly z g) m (subst (λ z. Wholly i.declaration z) r (start_whole world typed (i ∷ others) table start place i declared first found e q g' h.0))
  each_whole (leaf e) q (g' ∷ gs) h (suc k) n g at of = by_origin rest gs h.1 k n g at of
  each_whole (side_by_side d e) q functions h k n g at of = by_origin (parts_of (side_by_side d e) ++ rest) functions h k n g at of
  each_whole (fed_back a b d) q functions h k n g at of = by_origin (parts_of (fed_back a b d) ++ rest) functions h k n g at of

pub flat_of : (world : World) (typed : List (Declaration TypedNode)) (i : Instance) (others : List Instance) (table : List Ty) (functions : List FlatFunction) (system : System ℕ ℕ) → start_from 0 typed ≡ i ∷ []
    → (h : IsFlatOf world typed (i ∷ others) table functions system) → IsFlatProgram (map erased typed) (numbers_of (named_origins world typed (i ∷ others) table h.start (declared_place h.declared))) functions system
flat_of world typed i others table functions system e h =
    let place = declared_place h.declared in
    let os = origins world typed (i ∷ others) table h.start place in
    let ns = numbers_of (named_origins world typed (i ∷ others) table h.start place) in
    record {
      flattened = record {
        each_is = λ k n g at of. each_whole world typed i others table h.start place h.declared h.first h.found (system_of typed_binding h.start.expression) (leaf_is_whole h.start.expression h.start.expression []) functions h.made k n g at of;
      };
      start = relabelled_start node_of h.start;
      found = start_is typed i h.declared h.start e h.first h.found;
      parts = subst (λ z. AreAlike (IsPart (map erased typed) ns functions (relabelled_group node_of h.start.wheres) 0) (IsPart (map erased typed) ns functions (relabelled_group node_of h.start.wheres) 1)
          (IsPart (map erased typed) ns functions (relabelled_group node_of h.start.wheres) 2) z (system_of binding_of (relabelled_expression node_of h.start.expression))) (sym h.numbered)
          (system_is world typed (i ∷ others) table h.start place functions 0 (system_of typed_binding h.start.expression) (system_of binding_of (relabelled_expression node_of h.start.expression)) (system_alike node_of binding_of h.start.expression)
          (front_holds world typed (i ∷ others) table h.start place functions 0 (parts_of (system_of typed_binding h.start.expression)) _ (all_hold world typed (i ∷ others) table h.start place os functions h.made)));
    }

-- == Both ways ==

-- what a source denotes, a guarded flat program for it denotes
pub denoted_by : (program : List (Declaration Bound)) (origins : List (Option ℕ)) (functions : List FlatFunction) (system : System ℕ ℕ) → IsFlatProgram program origins functions system → (types : DataTypes) (signs : ℕ → Option Sign) (i o : ℕ)
    → IsGuarded types functions signs system i o → (inputs : List Val) → AllByRecursion (Fits types i) inputs → (outputs : List Val) → Denotes program inputs outputs → FlatDenotes functions system inputs outputs
denoted_by program origins functions system f types signs i o g inputs h outputs d =
    let q = guarded types functions signs system i o g inputs h in
    let e : q.0 ≡ outputs = reached_once (λ n. outputs_within program n inputs) q.0 outputs (denoted program origins functions system f inputs q.0 q.1) d in
    subst (FlatDenotes functions system inputs) e q.1
