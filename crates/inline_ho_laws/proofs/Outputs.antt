-- What calls of flat functions give, their sources give; so does what is read of the parts of a system.
use Rattle.std.proofs.Common.{◌≡◌, ℕ, zero, suc, ◌≤◌, nat_eq, Bool, true, false, if◌then◌else◌, List, [], ◌∷◌, length, Option, Some, None, refl, arith, ap, subst, sym, ◌∙◌}
use Rattle.std.proofs.lemmas.Bool.Decides.{nat_tests}
use Rattle.std.specs.Option.{IfSome}
use Rattle.rw_scope_rules.specs.declared.binding.Bound.{Bound}
use Rattle.rw_scope_rules.specs.Bindings.{group_variables}
use Rattle.rw_scope_rules.specs.declared.binding.Binding.TheVariants.{Declared}
use Rattle.rw_tree.specs.Trees.{Expression, variable, Alternatives, LocalBindings}
use Rattle.rw_tree.specs.Declarations.{Declaration}
use Rattle.rw_core.specs.Values.{Val}
use Rattle.rw_core.specs.Options.{◌>>=◌}
use Rattle.rw_core.specs.Eventually.{GrowsInTime}
use Rattle.rw_core.specs.Traces.{End, waits, finished, Trace, shown}
use Rattle.rw_core.specs.Systems.{System, leaf, side_by_side, fed_back, AreAlike}
use Rattle.rw_core.proofs.Eventually.{if_on, if_map}
use Rattle.rw_meaning.specs.Results.{Thunk, kept, kept_call, known, Thunks, nothing, and_then, how_many, first_thunks, later_thunks, held}
use Rattle.rw_meaning.specs.Evaluation.{evaluate, force, inside_names, patterns_before, declaration_at}
use Rattle.rw_meaning.specs.Outputs.{value_of_call, reading_in}
use Rattle.rw_meaning.specs.Steps.{Gives, Stands, AllStand, EachStands, Acts, Traces, Shows, IsRealised}
use Rattle.rw_meaning.proofs.Acting.{as_a_value, held_stands, shows, realised}
use Rattle.rw_meaning.specs.Outputs.{Denotes}
use Rattle.rw_core_flat.specs.Meaning.{Mode, valued, acting, tracing, Answer, a_value, done, traced as a_trace, as_value, as_trace, meaning, bound}
use Rattle.rw_core_flat.specs.Terms.{let_term}
use Rattle.rw_core_flat.specs.Programs.{FlatFunction, function_at, call_within, read_by, FlatDenotes}
use Rattle.inline_ho_rules.specs.Meants.{Meants, no_meants, more_meants, flats, first_meants, later_meants, declared_clauses}
use Rattle.inline_ho_rules.specs.Flattening.{IsWhole}
use Rattle.inline_ho_rules.specs.FlatPrograms.{IsOf, AreFlattened, IsPart, IsFlatProgram}
use Rattle.inline_ho_laws.proofs.Stands.{EndStands, ReachesAnswer, AllMeant, flats_meant}
use Rattle.inline_ho_laws.proofs.Heads.{Declares, ClausesGive, reach_on, value_stands, unplaced_meant, clauses_declare, clauses_reached, declared_given, kept_given}
use Rattle.inline_ho_laws.proofs.Devices.{ForceReaches, acted_by, traced_by, call_reaches}
use Rattle.inline_ho_laws.proofs.Denoted.{CallsAreRight, body_law, flat_law, placed_law, kept_meant}

nat_eq_same : (a b : ℕ) → nat_eq a b ≡ true → a ≡ b
nat_eq_same a b e = grind (arith, nat_tests)

module _ (program : List (Declaration Bound)) where
  first_meant : (env : List Val) (n : ℕ) (ms : Meants Bound) (ts : Thunks) → AllMeant program env ms ts → AllMeant program env (first_meants n ms) (first_thunks n ts)
  first_meant env zero ms ts h = tt
  first_meant env (suc n) no_meants nothing h = tt
  first_meant env (suc n) no_meants (and_then t ts) h = absurd h
  first_meant env (suc n) (more_meants m ms) nothing h = absurd h
  first_meant env (suc n) (more_meants m ms) (and_then t ts) h = (h.0, first_meant env n ms ts h.1)

  later_meant : (env : List Val) (n : ℕ) (ms : Meants Bound) (ts : Thunks) → AllMeant program env ms ts → AllMeant program env (later_meants n ms) (later_thunks n ts)
  later_meant env zero ms ts h = h
  later_meant env (suc n) no_meants nothing h = tt
  later_meant env (suc n) no_meants (and_then t ts) h = absurd h
  later_meant env (suc n) (more_meants m ms) nothing h = absurd h
  later_meant env (suc n) (more_meants m ms) (and_then t ts) h = later_meant env n ms ts h.1

  stand_many : (ts : Thunks) (vs : List Val) → AllStand program ts vs → length vs ≡ how_many ts
  stand_many nothing [] h = refl
  stand_many nothing (v ∷ vs) h = absurd h
  stand_many (and_then t ts) [] h = absurd h
  stand_many (and_then t ts) (v ∷ vs) h = ap suc (stand_many ts vs h.1)

  -- == Calls ==

  module _ (origins : List (Option ℕ)) (functions : List FlatFunction) (flattened : AreFlattened program origins functions) where
    by_count : (budget : ℕ) → CallsAreRight program (IsOf origins) (call_within functions budget) → (n : ℕ) (cs : Alternatives Bound) (f : FlatFunction) → (declaration_at n program >>= declared_clauses) ≡ Some cs → IsWhole program (IsOf origins) cs f
        → (mode : Mode) (vs : List Val) (ts : Thunks) → AllStand program ts vs → (b : Bool) → nat_eq (length vs) (length f.params) ≡ b
        → IfSome (if b then meaning (call_within functions budget) f.body mode vs else None) (ReachesAnswer program (Declares program n) ts mode)
    by_count budget right n cs f e w mode vs ts s false k = tt
    by_count budget right n cs f e w mode vs ts s true k =
        let l : length vs ≡ length f.params = nat_eq_same (length vs) (length f.params) k in
        let m : AllMeant program vs (flats 0 (length f.params)) ts = flats_meant program [] vs ts 0 (length f.params) refl l s in
        let c : length vs ≡ how_many ts = stand_many ts vs s in
        let p : patterns_before cs ≤ length f.params = w.patterned in
        let q : patterns_before cs ≤ how_many ts = omega arith in
        reach_on program (ClausesGive program nothing cs) _ ts mode (meaning (call_within functions budget) f.body mode vs) (λ r g. clauses_declare program n cs r e g)
        (clauses_reached program nothing cs ts mode (meaning (call_within functions budget) f.body mode vs) q
        (body_law program (IsOf origins) (call_within functions budget) right w.flattened vs nothing (first_thunks (patterns_before cs) ts) (later_thunks (patterns_before cs) ts) mode l tt
        (first_meant vs (patterns_before cs) (flats 0 (length f.params)) ts m) (later_meant vs (patterns_before cs) (flats 0 (length f.params)) ts m)))

    by_function : (budget : ℕ) → CallsAreRight program (IsOf origins) (call_within functions budget) → (i n : ℕ) → IsOf origins i n → (mode : Mode) (vs : List Val) (ts : Thunks) → AllStand program ts vs
        → (x : Option FlatFunction) → function_at i functions ≡ x
        → IfSome (x >>= λ f. if nat_eq (length vs) (length f.params) then meaning (call_within functions budget) f.body mode vs else None) (ReachesAnswer program (Declares program n) ts mode)
    by_function budget right i n g mode vs ts s None e = tt
    by_function budget right i n g mode vs ts s (Some f) e =
        let w = flattened.each_is i n f e g in by_count budget right n w.0 f w.1 w.2 mode vs ts s (nat_eq (length vs) (length f.params)) refl

    pub calls_are_right : (budget : ℕ) → CallsAreRight program (IsOf origins) (call_within functions budget)
    unfolding call_within
    calls_are_right zero i n g mode vs ts s = tt
    calls_are_right (suc budget) i n g mode vs ts s = by_function budget (calls_are_right budget) i n g mode vs ts s (function_at i functions) refl

    -- == Functions ==

    -- a name of a declaration, applied to arguments, does what a call of its flat function does
    pub function_reaches : (budget i n : ℕ) → IsOf origins i n → (around : Thunks) (a : Bound) (x : List ℕ) → a.bound ≡ Some (Declared n) → (vs : List Val) (ts : Thunks) → AllStand program ts vs → (mode : Mode)
        → IfSome (call_within functions budget mode i vs) (ForceReaches program (kept_call (kept around (variable a x)) ts) mode)
    function_reaches budget i n g around a x b vs ts s mode =
        let call = call_within functions budget mode i vs in
        call_reaches program (kept around (variable a x)) ts mode call
        (reach_on program _ (Gives program (force (kept around (variable a x)))) ts mode call (λ f h. kept_given program around (variable a x) f h)
        (reach_on program (Declares program n) _ ts mode call (λ f d. declared_given program around a x n f b d) (calls_are_right budget i n g mode vs ts s)))

    -- == Parts of `start` ==

    module _ (wheres : LocalBindings Bound) where
      abbrev env : Thunks
      env = inside_names nothing wheres

      abbrev Part : ℕ → ℕ → Expression Bound → Type 0
      Part n i e = IsPart program origins functions wheres n i e

      body_reached : (budget : ℕ) {n i : ℕ} {e : Expression Bound} (p : Part n i e) (vs : List Val) (ts : Thunks) (mode : Mode) → length vs ≡ n → AllStand program ts vs
          → IfSome (meaning (call_within functions budget) (let_term p.lets p.term) mode vs) (ReachesAnswer program (Gives program (evaluate env e)) ts mode)
      body_reached budget {n} {i} {e} p vs ts mode l s =
          let calls = call_within functions budget in
          if_on _ _ (bound calls p.lets vs) _
          (placed_law program (IsOf origins) calls (calls_are_right budget) p.placed vs nothing l tt (unplaced_meant program vs nothing wheres 0 (length (group_variables wheres))))
          (λ inner w. flat_law program (IsOf origins) calls (calls_are_right budget) p.flattened inner env ts mode w.long w.meant
          (kept_meant program (IsOf origins) calls vs w.others inner (flats 0 n) ts w.grown (flats_meant program [] vs ts 0 n refl l s)))

      tested : (budget : ℕ) {n i : ℕ} {e : Expression Bound} (p : Part n i e) (vs : List Val) (ts : Thunks) (mode : Mode) → length vs ≡ n → AllStand program ts vs → (b : Bool)
          → IfSome (if b then meaning (call_within functions budget) p.function.body mode vs else None) (ReachesAnswer program (Gives program (evaluate env e)) ts mode)
      tested budget p vs ts mode l s false = tt
      tested budget {n} {i} {e} p vs ts mode l s true =
          subst (λ b. IfSome (meaning (call_within functions budget) b mode vs) (ReachesAnswer program (Gives program (evaluate env e)) ts mode)) (sym p.body) (body_reached budget p vs ts mode l s)

      -- a call of a part
      part_called : (budget : ℕ) {n i : ℕ} {e : Expression Bound} (p : Part n i e) (vs : List Val) (ts : Thunks) (mode : Mode) → length vs ≡ n → AllStand program ts vs
          → IfSome (call_within functions budget mode i vs) (ReachesAnswer program (Gives program (evaluate env e)) ts mode)
      unfolding call_within
      part_called zero p vs ts mode l s = tt
      part_called (suc budget) p vs ts mode l s = rw p.found (tested budget p vs ts mode l s (nat_eq (length vs) (length p.function.params)))

      -- a function of one value or two
      value_read : (budget : ℕ) {n i : ℕ} {e : Expression Bound} (p : Part n i e) (vs : List Val) (ts : Thunks) → length vs ≡ n → AllStand program ts vs
          → GrowsInTime (call_within functions budget valued i vs >>= as_value) (λ m. value_of_call program m (kept env e) ts)
      value_read budget {n} {i} {e} p vs ts l s =
          let x = call_within functions budget valued i vs in
          if_map _ _ (x >>= as_value) (λ v k. as_a_value program v (kept_call (kept env e) ts) k)
          (value_stands program (Gives program (force (kept_call (kept env e) ts))) (kept_call (kept env e) ts) x (λ f g. g)
          (call_reaches program (kept env e) ts valued x
          (reach_on program _ (Gives program (force (kept env e))) ts valued x (λ f g. kept_given program env e f g) (part_called budget p vs ts valued l s))))

      shown_alike : (inputs : ℕ) (outputs made : List Val) (end : End Thunk Thunks) (other : End Val (List Val)) → EndStands program end other → shown inputs other outputs ≡ Some made → shown inputs end outputs ≡ Some made
      shown_alike inputs outputs made waits waits h e = e
      shown_alike inputs outputs made waits (finished v states left) h e = absurd h
      shown_alike inputs outputs made (finished t ss left) waits h e = absurd h
      shown_alike inputs outputs made (finished t ss left) (finished v states left') h e = e

      device_shows : (e : Expression Bound) (inputs : List Val) (x : Option Answer) → IfSome x (ForceReaches program (kept env e) (tracing [] inputs))
          → IfSome ((x >>= as_trace) >>= λ t. shown (length inputs) t.end t.outputs) (Shows program (kept env e) inputs)
      device_shows e inputs None r = tt
      device_shows e inputs (Some (a_value v)) r = tt
      device_shows e inputs (Some (done v states)) r = tt
      device_shows e inputs (Some (a_trace outputs end)) r = by_shown (shown (length inputs) end outputs) refl
        where
          by_shown : (y : Option (List Val)) → shown (length inputs) end outputs ≡ y → IfSome y (Shows program (kept env e) inputs)
          by_shown None k = tt
          by_shown (Some made) k =
              let p = traced_by program (kept env e) [] inputs outputs end r nothing tt in
              shows program (kept env e) inputs outputs made p.0 p.1 p.2 (shown_alike (length inputs) outputs made p.0.end end p.3 k)

      leaf_read : (budget : ℕ) {i : ℕ} {e : Expression Bound} (p : Part 0 i e) (inputs : List Val) → GrowsInTime ((read_by (call_within functions budget)).outputs i inputs) (λ n. (reading_in program n env).outputs e inputs)
      leaf_read budget {i} {e} p inputs =
          let x = call_within functions budget (tracing [] inputs) i [] in
          device_shows e inputs x
          (reach_on program _ (Gives program (force (kept env e))) nothing (tracing [] inputs) x (λ f g. kept_given program env e f g) (part_called budget p [] nothing (tracing [] inputs) refl tt))

      pub parts_read : (budget : ℕ) (s : System ℕ ℕ) (t : System (Expression Bound) (Expression Bound)) → AreAlike (Part 0) (Part 1) (Part 2) s t → IsRealised program (read_by (call_within functions budget)) env s t
      parts_read budget (leaf i) (leaf e) p = λ inputs. leaf_read budget p inputs
      parts_read budget (leaf i) (side_by_side d e) p = absurd p
      parts_read budget (leaf i) (fed_back f g d) p = absurd p
      parts_read budget (side_by_side a b) (leaf e) p = absurd p
      parts_read budget (side_by_side a b) (side_by_side d e) p = (parts_read budget a d p.0, parts_read budget b e p.1)
      parts_read budget (side_by_side a b) (fed_back f g d) p = absurd p
      parts_read budget (fed_back i j a) (leaf e) p = absurd p
      parts_read budget (fed_back i j a) (side_by_side d e) p = absurd p
      parts_read budget (fed_back i j a) (fed_back f g d) p = (
        λ v. value_read budget p.0 (v ∷ []) (and_then (known (held v)) nothing) refl (held_stands program v, tt),
        λ v w. value_read budget p.1 (v ∷ w ∷ []) (and_then (known (held v)) (and_then (known (held w)) nothing)) refl (held_stands program v, (held_stands program w, tt)),
        parts_read budget a d p.2,
      )

-- what a flat program denotes, its source denotes
pub denoted : (program : List (Declaration Bound)) (origins : List (Option ℕ)) (functions : List FlatFunction) (system : System ℕ ℕ) → IsFlatProgram program origins functions system → (inputs outputs : List Val)
    → FlatDenotes functions system inputs outputs → Denotes program inputs outputs
denoted program origins functions system f inputs outputs d =
    realised program (read_by (call_within functions d.from)) system f.start f.found (parts_read program origins functions f.flattened f.start.wheres d.from system _ f.parts) inputs outputs (d.holds d.from (omega arith))

-- == Functions, by what is asked of them ==

held_by : {A : Type 0} (P : A → Type 0) (x : Option A) (a : A) → IfSome x P → x ≡ Some a → P a
held_by P None a h e = absurd (cc)
held_by P (Some b) a h e = let k : b ≡ a = cc in subst P k h

ends_alike : (program : List (Declaration Bound)) (end : End Thunk Thunks) (other : End Val (List Val)) → EndStands program end other
    → (other ≡ waits → end ≡ waits) × ((v : Val) (states left : List Val) → other ≡ finished v states left → (t : Thunk) × (after : Thunks) × (end ≡ finished t after left) × Stands program t v × AllStand program after states)
ends_alike program waits waits h = (λ e. refl, λ v states left e. absurd (cc))
ends_alike program waits (finished v states left) h = absurd h
ends_alike program (finished t ss left) waits h = absurd h
ends_alike program (finished t ss left) (finished v states inputs) h = (λ e. absurd (cc), λ w others rest e. finishes w others rest e)
  where
    finishes : (w : Val) (others rest : List Val) → finished v states inputs ≡ finished w others rest → (u : Thunk) × (after : Thunks) × (finished t ss left ≡ finished u after rest) × Stands program u w × AllStand program after others
    finishes w others rest e =
        let a : v ≡ w = cc in let b : states ≡ others = cc in let c : inputs ≡ rest = cc in
        (t, ss, ap (finished t ss) (h.2 ∙ c), subst (Stands program t) a h.0, subst (AllStand program ss) b h.1)

module _ (program : List (Declaration Bound)) (origins : List (Option ℕ)) (functions : List FlatFunction) (flattened : AreFlattened program origins functions) (budget i n : ℕ) (of : IsOf origins i n) (around : Thunks) (a : Bound) (x : List ℕ)
    (b : a.bound ≡ Some (Declared n)) (vs : List Val) (ts : Thunks) (s : AllStand program ts vs) where
  abbrev called : Thunk
  called = kept_call (kept around (variable a x)) ts

  pub value_given : (v : Val) → call_within functions budget valued i vs ≡ Some (a_value v) → Stands program called v
  value_given v e =
      value_stands program (Gives program (force called)) called (Some (a_value v)) (λ f g. g)
      (held_by (ForceReaches program called valued) (call_within functions budget valued i vs) (a_value v) (function_reaches program origins functions flattened budget i n of around a x b vs ts s valued) e)

  pub action_done : (states : List Val) (v : Val) (after : List Val) → call_within functions budget (acting states) i vs ≡ Some (done v after) → (before : Thunks) → AllStand program before states
      → (t : Thunk) × (left : Thunks) × Acts program called before t left × Stands program t v × AllStand program left after
  action_done states v after e before h =
      acted_by program called states v after
      (held_by (ForceReaches program called (acting states)) (call_within functions budget (acting states) i vs) (done v after) (function_reaches program origins functions flattened budget i n of around a x b vs ts s (acting states)) e) before h

  pub device_traced : (states inputs outputs : List Val) (end : End Val (List Val)) → call_within functions budget (tracing states inputs) i vs ≡ Some (a_trace outputs end) → (before : Thunks) → AllStand program before states
      → (t : Trace Thunk Thunks) × Traces program called before inputs t × EachStands program t.outputs outputs × (end ≡ waits → t.end ≡ waits)
      × ((v : Val) (after left : List Val) → end ≡ finished v after left → (u : Thunk) × (rest : Thunks) × (t.end ≡ finished u rest left) × Stands program u v × AllStand program rest after)
  device_traced states inputs outputs end e before h =
      let r = traced_by program called states inputs outputs end
      (held_by (ForceReaches program called (tracing states inputs)) (call_within functions budget (tracing states inputs) i vs) (a_trace outputs end) (function_reaches program origins functions flattened budget i n of around a x b vs ts s (tracing states inputs)) e) before h in
      let z = ends_alike program r.0.end end r.3 in
      (r.0, r.1, r.2, z.0, z.1)
