-- A flat pattern matches a value as its source matches what stands for the value.
use Rattle.std.proofs.Common.{◌≡◌, ℕ, zero, suc, ◌+◌, nat_eq, Bool, true, false, if◌then◌else◌, List, [], ◌∷◌, ◌++◌, length, Option, Some, refl, arith, ◌∙◌, append_assoc, append-nil, length-append}
use Rattle.std.proofs.lemmas.Bool.Decides.{nat_tests}
use Rattle.rw_scope_rules.specs.declared.binding.Binding.{Binding}
use Rattle.rw_scope_rules.specs.declared.binding.Binding.TheVariants.{Constructor as Constructs}
use Rattle.rw_scope_rules.specs.declared.binding.Bound.{Bound}
use Rattle.rw_tree.specs.Patterns.{Pattern, constructor_pattern, tuple_pattern, Patterns}
use Rattle.rw_tree.specs.Declarations.{Declaration}
use Rattle.rw_core.specs.Values.{Val, Vals, val, none, more, vals}
use Rattle.rw_meaning.specs.Options.{Tried, stuck, passed_over, taken, and_try, tried}
use Rattle.rw_meaning.specs.Results.{Outcome, datum, Thunk, Thunks, nothing, and_then, joined}
use Rattle.rw_meaning.specs.Evaluation.{force, result_within, match, match_parts, match_row, fields_if, fields_of}
use Rattle.rw_core_flat.specs.Terms.{FlatPattern, built_pattern, FlatPatterns}
use Rattle.rw_core_flat.specs.Meaning.{are_as_many, matched, parts_matched, row_matched}
use Rattle.inline_ho_rules.specs.Meants.{Meant, Meants, no_meants, more_meants, joined_meants, flats, IsPattern, is_any, is_variable, is_built, is_tuple, ArePatterns, none_are, more_are, Columns, no_columns, value_column, other_column, AreColumns, none_in, matched_in, named_in, ignored_in}
use Rattle.rw_core.specs.Eventually.{Eventually}
use Rattle.rw_core.proofs.Eventually.{always, mapped, mapped_two}
use Rattle.rw_meaning.specs.Options.{Whichever}
use Rattle.rw_meaning.proofs.Tried.{whichever_map, whichever_on}
use Rattle.rw_meaning.specs.Steps.{Gives, Stands, FieldsStand, AllStand}
use Rattle.inline_ho_laws.proofs.Stands.{MeantBy, AllMeant, meant_more, all_more, all_joined, flats_meant}
use Rattle.rw_meaning.specs.Systems.{binding_of}

built_goes : (bound : Option Binding) (x : Option Outcome) (tag place declared : ℕ) (ts : Thunks) (k : Thunks → Tried Thunks) → bound ≡ Some (Constructs declared place) → nat_eq tag place ≡ true → x ≡ Some (datum tag ts)
    → and_try (tried x) (λ r. and_try (fields_if bound r) k) ≡ k ts
built_goes bound x tag place declared ts k e c h = rw (h, e, c)

built_passes : (bound : Option Binding) (x : Option Outcome) (tag place declared : ℕ) (ts : Thunks) (k : Thunks → Tried Thunks) → bound ≡ Some (Constructs declared place) → nat_eq tag place ≡ false → x ≡ Some (datum tag ts)
    → and_try (tried x) (λ r. and_try (fields_if bound r) k) ≡ passed_over
built_passes bound x tag place declared ts k e c h = rw (h, e, c)

tuple_goes : (x : Option Outcome) (ts : Thunks) (k : Thunks → Tried Thunks) → x ≡ Some (datum zero ts) → and_try (tried x) (λ r. and_try (fields_of r) k) ≡ k ts
tuple_goes x ts k h = rw h

tuple_passes : (x : Option Outcome) (tag : ℕ) (ts : Thunks) (k : Thunks → Tried Thunks) → x ≡ Some (datum (suc tag) ts) → and_try (tried x) (λ r. and_try (fields_of r) k) ≡ passed_over
tuple_passes x tag ts k h = rw h

two_taken : (x y : Tried Thunks) (xs ys : Thunks) → x ≡ taken xs → y ≡ taken ys → and_try x (λ a. and_try y (λ b. taken (joined a b))) ≡ taken (joined xs ys)
two_taken x y xs ys e f = rw (e, f)

first_passed : (x : Tried Thunks) (k : Thunks → Tried Thunks) → x ≡ passed_over → and_try x k ≡ passed_over
first_passed x k e = rw e

second_passed : (x y : Tried Thunks) (xs : Thunks) → x ≡ taken xs → y ≡ passed_over → and_try x (λ a. and_try y (λ b. taken (joined a b))) ≡ passed_over
second_passed x y xs e f = rw (e, f)

suc_is_not_zero : (n : ℕ) → nat_eq (suc n) 0 ≡ false
suc_is_not_zero n = grind (arith, nat_tests)

module _ (program : List (Declaration Bound)) where
  stand_joined : (xs ys : Thunks) (ws us : List Val) → AllStand program xs ws → AllStand program ys us → AllStand program (joined xs ys) (ws ++ us)
  stand_joined nothing ys [] us h k = k
  stand_joined nothing ys (w ∷ ws) us h k = absurd h
  stand_joined (and_then x xs) ys [] us h k = absurd h
  stand_joined (and_then x xs) ys (w ∷ ws) us h k = (h.0, stand_joined xs ys ws us h.1 k)

  -- what a pattern has taken: it is taken by the source too, from some budget on, and stands for the same
  pub record Takes (n : ℕ) (source : ℕ → Tried Thunks) (ws : List Val) : Type 0 where
    pub them : Thunks
    pub had : Eventually (λ b. source b ≡ taken them)
    pub stand : AllStand program them ws
    pub many : length ws ≡ n

  abbrev pub Passes : (ℕ → Tried Thunks) → Type 0
  Passes source = Eventually (λ b. source b ≡ passed_over)

  abbrev pub matching : Pattern Bound → Thunk → ℕ → Tried Thunks
  matching p t b = match program (result_within program b) p t

  abbrev matching_parts : Patterns Bound → Thunks → ℕ → Tried Thunks
  matching_parts ps ts b = match_parts program (result_within program b) ps ts

  -- where the number of fields is asked first, less is matched
  abbrev counted_match : FlatPatterns → Vals → Tried (List Val)
  counted_match pats fields = if are_as_many pats fields then parts_matched pats fields else stuck

  counted : (P : Type 0) (Q : List Val → Type 0) (b : Bool) (x : Tried (List Val)) → Whichever x P Q → Whichever (if b then x else stuck) P Q
  counted P Q true x h = h
  counted P Q false x h = tt

  -- the cases of a tag, by the test that both sides make
  built_by : (a : Bound) (c : List ℕ) (parts : Patterns Bound) (pats : FlatPatterns) (n declared place : ℕ) → a.bound ≡ Some (Constructs declared place) → (t : Thunk) (tag : ℕ) (fields : Vals) (ts : Thunks)
      → Gives program (force t) (datum tag ts) → Whichever (counted_match pats fields) (Passes (matching_parts parts ts)) (Takes n (matching_parts parts ts)) → (b : Bool) → nat_eq tag place ≡ b
      → Whichever (if b then counted_match pats fields else passed_over) (Passes (matching (constructor_pattern a c parts) t)) (Takes n (matching (constructor_pattern a c parts) t))
  built_by a c parts pats n declared place e t tag fields ts g h true k =
      whichever_map _ _ (Takes n (matching_parts parts ts)) (Takes n (matching (constructor_pattern a c parts) t)) _ (λ p. mapped_two (λ m x y. built_goes _ _ _ _ _ ts _ e k x ∙ y) g p)
      (λ ws w. record { them = w.them; had = mapped_two (λ m x y. built_goes _ _ _ _ _ ts _ e k x ∙ y) g w.had; stand = w.stand; many = w.many }) h
  built_by a c parts pats n declared place e t tag fields ts g h false k = mapped (λ m x. built_passes _ _ _ _ _ ts _ e k x) g

  tuple_by : (a : Bound) (parts : Patterns Bound) (pats : FlatPatterns) (n : ℕ) (t : Thunk) (tag : ℕ) (fields : Vals) (ts : Thunks)
      → Gives program (force t) (datum tag ts) → Whichever (counted_match pats fields) (Passes (matching_parts parts ts)) (Takes n (matching_parts parts ts))
      → Whichever (matched (built_pattern 0 pats) (val tag fields)) (Passes (matching (tuple_pattern a parts) t)) (Takes n (matching (tuple_pattern a parts) t))
  tuple_by a parts pats n t zero fields ts g h =
      whichever_map _ _ (Takes n (matching_parts parts ts)) (Takes n (matching (tuple_pattern a parts) t)) _ (λ p. mapped_two (λ m x y. tuple_goes _ ts _ x ∙ y) g p)
      (λ ws w. record { them = w.them; had = mapped_two (λ m x y. tuple_goes _ ts _ x ∙ y) g w.had; stand = w.stand; many = w.many }) h
  tuple_by a parts pats n t (suc tag) fields ts g h = rw (suc_is_not_zero tag) (mapped (λ m x. tuple_passes _ tag ts _ x) g)

  -- two matches one after the other
  both_by : (n m k : ℕ) (x y : ℕ → Tried Thunks) (f g : Tried (List Val)) → k ≡ n + m → Whichever f (Passes x) (Takes n x) → Whichever g (Passes y) (Takes m y)
      → Whichever (and_try f (λ xs. and_try g (λ ys. taken (xs ++ ys)))) (Passes (λ b. and_try (x b) (λ xs. and_try (y b) (λ ys. taken (joined xs ys)))))
      (Takes k (λ b. and_try (x b) (λ xs. and_try (y b) (λ ys. taken (joined xs ys)))))
  both_by n m k x y f g e h j =
      whichever_on (Passes x) _ (Takes n x) (Takes k (λ b. and_try (x b) (λ xs. and_try (y b) (λ ys. taken (joined xs ys))))) f _ h (λ p. mapped (λ b. first_passed _ _) p)
      (λ ws w. whichever_on (Passes y) _ (Takes m y) (Takes k (λ b. and_try (x b) (λ xs. and_try (y b) (λ ys. taken (joined xs ys))))) g _ j (λ p. mapped_two (λ b. second_passed _ _ _) w.had p)
      (λ us u. record {
        them = joined w.them u.them;
        had = mapped_two (λ b. two_taken _ _ _ _) w.had u.had;
        stand = stand_joined w.them u.them ws us w.stand u.stand;
        many = let l : length (ws ++ us) ≡ length ws + length us = length-append ws us in let a = w.many in let c = u.many in omega arith;
      }))

  mutual
    pub pattern_is_matched : {p : Pattern Bound} {q : FlatPattern} {n : ℕ} → IsPattern binding_of p q n → (t : Thunk) (v : Val) → Stands program t v → Whichever (matched q v) (Passes (matching p t)) (Takes n (matching p t))
    pattern_is_matched is_any t v h = record { them = nothing; had = always (λ b. refl); stand = tt; many = refl }
    pattern_is_matched is_variable t v h = record { them = and_then t nothing; had = always (λ b. refl); stand = (h, tt); many = refl }
    pattern_is_matched (is_built {a = a} {c = c} {parts = parts} {pats = pats} {n = n} {declared = declared} {place = place} e ps) t (val tag fields) h = built_by a c parts pats n declared place e t tag fields h.0 h.1 (counted _ _ (are_as_many pats fields) _ (parts_are_matched ps h.0 fields h.2)) (nat_eq tag place) refl
    pattern_is_matched (is_tuple {a = a} {parts = parts} {pats = pats} {n = n} ps) t (val tag fields) h = tuple_by a parts pats n t tag fields h.0 h.1 (counted _ _ (are_as_many pats fields) _ (parts_are_matched ps h.0 fields h.2))

    pub parts_are_matched : {ps : Patterns Bound} {qs : FlatPatterns} {n : ℕ} → ArePatterns binding_of ps qs n → (ts : Thunks) (fields : Vals) → FieldsStand program ts fields
        → Whichever (parts_matched qs fields) (Passes (matching_parts ps ts)) (Takes n (matching_parts ps ts))
    parts_are_matched none_are nothing none h = record { them = nothing; had = always (λ b. refl); stand = tt; many = refl }
    parts_are_matched none_are nothing (more v vs) h = absurd h
    parts_are_matched none_are (and_then t ts) none h = absurd h
    parts_are_matched none_are (and_then t ts) (more v vs) h = tt
    parts_are_matched (more_are p ps e) nothing none h = tt
    parts_are_matched (more_are p ps e) nothing (more v vs) h = absurd h
    parts_are_matched (more_are p ps e) (and_then t ts) none h = absurd h
    parts_are_matched (more_are {n = n} {m = m} {k = k} p ps e) (and_then t ts) (more v vs) h = both_by n m k _ _ _ _ e (pattern_is_matched p t v h.0) (parts_are_matched ps ts vs h.1)

  -- == (Columns Bound) ==

  abbrev pub ColumnsMeant : List Val → Columns Bound → Thunks → List Val → Type 0
  ColumnsMeant env no_columns nothing [] = Unit {0}
  ColumnsMeant env (value_column cols) (and_then t ts) (v ∷ vs) = Stands program t v × ColumnsMeant env cols ts vs
  ColumnsMeant env (other_column m cols) (and_then t ts) vs = MeantBy program env m t × ColumnsMeant env cols ts vs
  ColumnsMeant env _ _ _ = ⊥

  columns_more : (env others : List Val) (cols : Columns Bound) (ts : Thunks) (vs : List Val) → ColumnsMeant env cols ts vs → ColumnsMeant (env ++ others) cols ts vs
  columns_more env others no_columns nothing [] h = tt
  columns_more env others no_columns nothing (v ∷ vs) h = absurd h
  columns_more env others no_columns (and_then t ts) vs h = absurd h
  columns_more env others (value_column cols) nothing vs h = absurd h
  columns_more env others (value_column cols) (and_then t ts) [] h = absurd h
  columns_more env others (value_column cols) (and_then t ts) (v ∷ vs) h = (h.0, columns_more env others cols ts vs h.1)
  columns_more env others (other_column m cols) nothing vs h = absurd h
  columns_more env others (other_column m cols) (and_then t ts) vs h = (meant_more program env others m t h.0, columns_more env others cols ts vs h.1)

  abbrev pub matching_row : List (Pattern Bound) → Thunks → ℕ → Tried Thunks
  matching_row ps ts b = match_row program (result_within program b) ps ts

  -- what a row has taken in an environment
  pub record RowTakes (env : List Val) (d : ℕ) (ms : Meants Bound) (source : ℕ → Tried Thunks) (ws : List Val) : Type 0 where
    pub them : Thunks
    pub had : Eventually (λ b. source b ≡ taken them)
    pub stand : AllMeant program (env ++ ws) ms them
    pub many : length (env ++ ws) ≡ d

  row_none : (env : List Val) (d : ℕ) → length env ≡ d → RowTakes env d no_meants (matching_row [] nothing) []
  row_none env d e = record { them = nothing; had = always (λ b. refl); stand = tt; many = rw append-nil e }

  row_more : (env : List Val) (d n e : ℕ) (ms : Meants Bound) (x y : ℕ → Tried Thunks) (ws us : List Val) → length env ≡ d → (w : Takes n x ws) → RowTakes (env ++ ws) e ms y us
      → RowTakes env e (joined_meants (flats d n) ms) (λ b. and_try (x b) (λ xs. and_try (y b) (λ ys. taken (joined xs ys)))) (ws ++ us)
  row_more env d n e ms x y ws us l w u = record {
    them = joined w.them u.them;
    had = mapped_two (λ b. two_taken _ _ _ _) w.had u.had;
    stand =
        let f : AllMeant program (env ++ ws) (flats d n) w.them = flats_meant program env ws w.them d n l w.many w.stand in
        let g : AllMeant program ((env ++ ws) ++ us) (flats d n) w.them = all_more program (env ++ ws) us (flats d n) w.them f in
        let h : AllMeant program ((env ++ ws) ++ us) (joined_meants (flats d n) ms) (joined w.them u.them) = all_joined program ((env ++ ws) ++ us) (flats d n) ms w.them u.them g u.stand in
        rw (append_assoc) at h;
    many = let h : length ((env ++ ws) ++ us) ≡ e = u.many in rw append_assoc at h;
  }

  row_named : (env : List Val) (m : Meant Bound) (t : Thunk) (e : ℕ) (ms : Meants Bound) (y : ℕ → Tried Thunks) (us : List Val) → MeantBy program env m t → RowTakes env e ms y us
      → RowTakes env e (more_meants m ms) (λ b. and_try (taken (and_then t nothing)) (λ xs. and_try (y b) (λ ys. taken (joined xs ys)))) us
  row_named env m t e ms y us h u = record {
    them = and_then t u.them;
    had = mapped (λ b. two_taken _ _ (and_then t nothing) _ refl) u.had;
    stand = (meant_more program env us m t h, u.stand);
    many = u.many;
  }

  row_ignored : (env : List Val) (e : ℕ) (ms : Meants Bound) (y : ℕ → Tried Thunks) (us : List Val) → RowTakes env e ms y us
      → RowTakes env e ms (λ b. and_try (taken nothing) (λ xs. and_try (y b) (λ ys. taken (joined xs ys)))) us
  row_ignored env e ms y us u = record { them = u.them; had = mapped (λ b. two_taken _ _ nothing _ refl) u.had; stand = u.stand; many = u.many }

  row_parts_matched : {d e : ℕ} {cols : Columns Bound} {ps : List (Pattern Bound)} {qs : FlatPatterns} {ms : Meants Bound} → AreColumns binding_of d cols ps qs ms e → (env : List Val) (ts : Thunks) (vs : List Val) → length env ≡ d
      → ColumnsMeant env cols ts vs → Whichever (parts_matched qs (vals vs)) (Passes (matching_row ps ts)) (RowTakes env e ms (matching_row ps ts))
  row_parts_matched none_in env nothing [] l h = row_none env _ l
  row_parts_matched none_in env nothing (v ∷ vs) l h = absurd h
  row_parts_matched none_in env (and_then t ts) vs l h = absurd h
  row_parts_matched (matched_in p ps) env nothing vs l h = absurd h
  row_parts_matched (matched_in p ps) env (and_then t ts) [] l h = absurd h
  row_parts_matched (matched_in {d = d} {n = n} {e = e} {cols = cols} {p = sp} {ps = sps} {q = q} {qs = qs} {ms = ms} p ps) env (and_then t ts) (v ∷ vs) l h =
      whichever_on (Passes (matching sp t)) _ (Takes n (matching sp t)) (RowTakes env e (joined_meants (flats d n) ms) (matching_row (sp ∷ sps) (and_then t ts))) (matched q v) _ (pattern_is_matched p t v h.0)
      (λ k. mapped (λ b. first_passed _ _) k)
      (λ ws w. whichever_on (Passes (matching_row sps ts)) _ (RowTakes (env ++ ws) e ms (matching_row sps ts)) (RowTakes env e (joined_meants (flats d n) ms) (matching_row (sp ∷ sps) (and_then t ts))) (parts_matched qs (vals vs)) _
      (row_parts_matched ps (env ++ ws) ts vs (let k : length (env ++ ws) ≡ length env + length ws = length-append env ws in let m = w.many in omega arith) (columns_more env ws cols ts vs h.1))
      (λ k. mapped_two (λ b. second_passed _ _ _) w.had k)
      (λ us u. row_more env d n e ms (matching sp t) (matching_row sps ts) ws us l w u))
  row_parts_matched (named_in ps) env nothing vs l h = absurd h
  row_parts_matched (named_in {e = e} {m = m} {ps = sps} {qs = qs} {ms = ms} ps) env (and_then t ts) vs l h =
      whichever_map (Passes (matching_row sps ts)) _ (RowTakes env e ms (matching_row sps ts)) _ (parts_matched qs (vals vs))
      (λ k. mapped (λ b. second_passed _ _ (and_then t nothing) refl) k) (λ us u. row_named env m t e ms (matching_row sps ts) us h.0 u) (row_parts_matched ps env ts vs l h.1)
  row_parts_matched (ignored_in ps) env nothing vs l h = absurd h
  row_parts_matched (ignored_in {e = e} {m = m} {ps = sps} {qs = qs} {ms = ms} ps) env (and_then t ts) vs l h =
      whichever_map (Passes (matching_row sps ts)) _ (RowTakes env e ms (matching_row sps ts)) _ (parts_matched qs (vals vs))
      (λ k. mapped (λ b. second_passed _ _ nothing refl) k) (λ us u. row_ignored env e ms (matching_row sps ts) us u) (row_parts_matched ps env ts vs l h.1)

  pub row_is_matched : {d e : ℕ} {cols : Columns Bound} {ps : List (Pattern Bound)} {qs : FlatPatterns} {ms : Meants Bound} → AreColumns binding_of d cols ps qs ms e → (env : List Val) (ts : Thunks) (vs : List Val) → length env ≡ d
      → ColumnsMeant env cols ts vs → Whichever (row_matched qs vs) (Passes (matching_row ps ts)) (RowTakes env e ms (matching_row ps ts))
  row_is_matched {qs = qs} p env ts vs l h = counted _ _ (are_as_many qs (vals vs)) _ (row_parts_matched p env ts vs l h)
