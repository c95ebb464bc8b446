-- What the forms of an expression give, from what their parts give.
use Rattle.std.proofs.Common.{◌≡◌, ℕ, zero, suc, ◌+◌, ◌-◌, ◌≤◌, nat_eq, nat_le, Bool, true, false, if◌then◌else◌, List, [], ◌∷◌, ◌++◌, length, Option, Some, None, refl, arith, ap, sym, ◌∙◌, subst}
use Rattle.std.proofs.lemmas.Bool.Decides.{nat_tests}
use Rattle.rw_scope_rules.specs.declared.binding.Operation.TheVariants.{Bind, Then}
use Rattle.rw_scope_rules.specs.declared.binding.Binding.{Binding}
use Rattle.rw_scope_rules.specs.declared.binding.Binding.TheVariants.{Declared, Constructor as Constructs, Local}
use Rattle.rw_scope_rules.specs.declared.binding.Bound.{Bound}
use Rattle.rw_scope_rules.specs.Bindings.{binding_variables}
use Rattle.rw_tree.specs.Patterns.{Pattern}
use Rattle.rw_tree.specs.Trees.{Expression, variable, constructor, application, tuple, lambda, let_in, case_of, if_then_else, do_block, Expressions, no_expressions, more_expressions}
use Rattle.rw_tree.specs.Trees.{Alternative, alternative, Alternatives, no_alternatives, more_alternatives, alternative_parts, RightSide, plain_side, guarded_body, GuardedBodies, more_bodies}
use Rattle.rw_tree.specs.Trees.{Statement, Statements, no_statements, more_statements, run_statement, bind_statement, let_statement}
use Rattle.rw_tree.specs.Trees.{local_signature, local_function, local_pattern, LocalBindings, no_bindings, more_bindings}
use Rattle.rw_tree.specs.Declarations.{Declaration, import_declaration, data_declaration, fixity_declaration, signature_declaration, function_declaration}
use Rattle.rw_core.specs.Values.{Val, Vals, val, vals}
use Rattle.rw_core.specs.Options.{◌>>=◌}
use Rattle.rw_meaning.specs.Options.{Tried, stuck, passed_over, taken, and_try, or_try, tried, what_is_taken}
use Rattle.rw_meaning.specs.Results.{Outcome, datum, waiting_for_more, action, of_clauses, of_lambda, of_constructor, Thunk, kept, kept_name, kept_side, known, Thunks, nothing, and_then, joined, how_many, thunk_at, first_thunks, later_thunks}
use Rattle.rw_meaning.specs.Evaluation.{Task, evaluate, force, apply, step, result_within, applied, clauses_there, row, rows, side, guards, name_in, kept_parts, kept_names, inside_names, patterns_before, declaration_at, declared_there, fields_at, constructors_in, constructed, match, match_row, if_true}
use Rattle.rw_core_flat.specs.Meaning.{Mode, valued, Answer, a_value, done, traced as a_trace, as_value, if_holds, value_at}
use Rattle.inline_ho_rules.specs.Meants.{Meant, flat, Meants, no_meants, more_meants, meant_count, placed, all_unplaced, suspended_parts, flats, clauses_at, declared_clauses, StandsIn, stands_here, stands_later, placed_all}
use Rattle.rw_core.specs.Eventually.{Eventually}
use Rattle.rw_core.proofs.Eventually.{always, mapped, mapped_two, later, if_map}
use Rattle.std.specs.Option.{IfSome}
use Rattle.rw_meaning.specs.Options.{Whichever}
use Rattle.rw_meaning.proofs.Tried.{whichever_map, whichever_or, whichever_tried}
use Rattle.rw_meaning.specs.Steps.{Gives, Stands, AllStand}
use Rattle.inline_ho_laws.proofs.Stands.{ShowsValue, Observed, ReachesAnswer, Has, MeantBy, AllMeant, stands_by, fields_stand}
use Rattle.rw_meaning.proofs.Applying.{applied_to_nothing, gives_step, in_parts}
use Rattle.inline_ho_laws.proofs.Rules.{mapped_three, given_to_nothing, joined_assoc, joined_nothing}

local_goes : (R : Task → Option Outcome) (bound : Option Binding) (k : ℕ) (ρ : Thunks) (t : Thunk) (f : Outcome) (a : Bound) (x : List ℕ) (program : List (Declaration Bound)) → a.bound ≡ Some (Local k) → thunk_at k ρ ≡ Some t → R (force t) ≡ Some f
    → step program R (evaluate ρ (variable a x)) ≡ Some f
local_goes R bound k ρ t f a x program e g h = rw (e, g) h

declared_goes : (R : Task → Option Outcome) (n : ℕ) (ρ : Thunks) (f : Outcome) (a : Bound) (x : List ℕ) (program : List (Declaration Bound)) → a.bound ≡ Some (Declared n)
    → (declaration_at n program >>= declared_there program R) ≡ Some f → step program R (evaluate ρ (variable a x)) ≡ Some f
declared_goes R n ρ f a x program e h = rw e h

clauses_declared : (program : List (Declaration Bound)) (R : Task → Option Outcome) (d : Option (Declaration Bound)) (cs : Alternatives Bound) → (d >>= declared_clauses) ≡ Some cs
    → (d >>= declared_there program R) ≡ clauses_there program R nothing cs
clauses_declared program R None cs e = absurd (cc)
clauses_declared program R (Some (import_declaration a m)) cs e = absurd (cc)
clauses_declared program R (Some (data_declaration a x params constructors)) cs e = absurd (cc)
clauses_declared program R (Some (fixity_declaration a s n names)) cs e = absurd (cc)
clauses_declared program R (Some (signature_declaration a names type)) cs e = absurd (cc)
clauses_declared program R (Some (function_declaration a x clauses)) cs e = let k : alternative_parts clauses ≡ cs = cc in ap (clauses_there program R nothing) k

fields_known : (d : Option (Declaration Bound)) (place n : ℕ) → (d >>= λ d. fields_at place (constructors_in d)) ≡ Some n
    → (d >>= λ d. fields_at place (constructors_in d) >>= λ fields. Some (constructed place fields)) ≡ Some (constructed place n)
fields_known None place n e = absurd (cc)
fields_known (Some d) place n e = rw e

constructor_goes : (R : Task → Option Outcome) (n place m : ℕ) (ρ : Thunks) (a : Bound) (c : List ℕ) (program : List (Declaration Bound)) → a.bound ≡ Some (Constructs n place)
    → (declaration_at n program >>= λ d. fields_at place (constructors_in d)) ≡ Some m → step program R (evaluate ρ (constructor a c)) ≡ Some (constructed place m)
constructor_goes R n place m ρ a c program e h = rw e (fields_known (declaration_at n program) place m h)

application_goes : (R : Task → Option Outcome) (program : List (Declaration Bound)) (ρ : Thunks) (a : Bound) (head : Expression Bound) (parts : Expressions Bound) (f m : Outcome) → R (evaluate ρ head) ≡ Some f
    → R (apply f (kept_parts ρ parts)) ≡ Some m → step program R (evaluate ρ (application a head parts)) ≡ Some m
application_goes R program ρ a head parts f m e g = rw (e, g)

all_first : (ts : Thunks) → first_thunks (how_many ts) ts ≡ ts
all_first nothing = refl
all_first (and_then t ts) = ap (and_then t) (all_first ts)

none_later : (ts : Thunks) → later_thunks (how_many ts) ts ≡ nothing
none_later nothing = refl
none_later (and_then t ts) = none_later ts

constructed_goes : (R : Task → Option Outcome) (program : List (Declaration Bound)) (place n : ℕ) (ts : Thunks) → how_many ts ≡ n → ((r : Outcome) → R (apply r nothing) ≡ Some r)
    → applied program R (constructed place n) ts ≡ Some (datum place ts)
constructed_goes R program place zero nothing e h = refl
constructed_goes R program place zero (and_then t ts) e h = absurd (cc)
constructed_goes R program place (suc n) nothing e h = absurd (cc)
constructed_goes R program place (suc n) (and_then t ts) e h =
    let k : how_many ts ≡ n = omega arith in
    let a : first_thunks n ts ≡ ts = subst (λ z. first_thunks z ts ≡ ts) k (all_first ts) in
    let b : later_thunks n ts ≡ nothing = subst (λ z. later_thunks z ts ≡ nothing) k (none_later ts) in
    let g : applied program R (waiting_for_more (of_constructor place (suc n)) nothing) (and_then t ts) ≡ Some (datum place (and_then t ts)) =
    rw (not_less (how_many ts) n k, a, b) (h (datum place (and_then t ts))) in g
  where
    not_less : (a n : ℕ) → a ≡ n → nat_le (suc (suc a)) (suc n) ≡ false
    not_less a n e = grind (arith, nat_tests)

module _ (program : List (Declaration Bound)) where
  pub local_given : (ρ : Thunks) (a : Bound) (x : List ℕ) (k : ℕ) (t : Thunk) (f : Outcome) → a.bound ≡ Some (Local k) → thunk_at k ρ ≡ Some t → Gives program (force t) f → Gives program (evaluate ρ (variable a x)) f
  local_given ρ a x k t f e g h = gives_step program _ f (mapped (λ n i. local_goes (result_within program n) a.bound k ρ t f a x program e g i) h)

  -- what is kept gives what it is like, one budget later
  pub forced_given : (t : Thunk) (like : ℕ → Option Outcome) (f : Outcome) → ((n : ℕ) → result_within program (suc n) (force t) ≡ like n) → Has program like f → Gives program (force t) f
  forced_given t like f e h = later (λ n. result_within program n (force t) ≡ Some f) (mapped (λ n i. e n ∙ i) h)

  -- the outcome of a declaration
  abbrev pub Declares : ℕ → Outcome → Type 0
  Declares n = Has program (λ b. declaration_at n program >>= declared_there program (result_within program b))

  abbrev pub ClausesGive : Thunks → Alternatives Bound → Outcome → Type 0
  ClausesGive ρ cs = Has program (λ n. clauses_there program (result_within program n) ρ cs)

  abbrev pub RowsGive : Thunks → Alternatives Bound → Thunks → Outcome → Type 0
  RowsGive ρ cs ps = Has program (λ n. what_is_taken (rows program (result_within program n) ρ cs ps))

  pub declared_given : (ρ : Thunks) (a : Bound) (x : List ℕ) (n : ℕ) (f : Outcome) → a.bound ≡ Some (Declared n) → Declares n f → Gives program (evaluate ρ (variable a x)) f
  declared_given ρ a x n f e h = gives_step program _ f (mapped (λ b i. declared_goes (result_within program b) n ρ f a x program e i) h)

  pub clauses_declare : (n : ℕ) (cs : Alternatives Bound) (f : Outcome) → (declaration_at n program >>= declared_clauses) ≡ Some cs → ClausesGive nothing cs f → Declares n f
  clauses_declare n cs f e h = mapped (λ b i. clauses_declared program (result_within program b) (declaration_at n program) cs e ∙ i) h

  pub reach_on : (H H' : Outcome → Type 0) (ts : Thunks) (mode : Mode) (x : Option Answer) → ((f : Outcome) → H f → H' f) → IfSome x (ReachesAnswer program H ts mode) → IfSome x (ReachesAnswer program H' ts mode)
  reach_on H H' ts mode x k h = if_map _ _ x (λ a r. record { head = r.head; had = k r.head r.had; result = r.result; given = r.given; observed = r.observed }) h

  -- a value that is reached without arguments
  pub value_shown : (H : Outcome → Type 0) (x : Option Answer) → IfSome x (ReachesAnswer program H nothing valued) → IfSome (x >>= as_value) (λ v. (r : Outcome) × H r × ShowsValue program r v)
  value_shown H None h = tt
  value_shown H (Some (a_value v)) h = let e : h.head ≡ h.result = given_to_nothing program h.head h.result h.given in (h.result, subst H e h.had, h.observed)
  value_shown H (Some (done v states)) h = tt
  value_shown H (Some (a_trace outputs end)) h = tt

  pub value_stands : (H : Outcome → Type 0) (t : Thunk) (x : Option Answer) → ((f : Outcome) → H f → Gives program (force t) f) → IfSome x (ReachesAnswer program H nothing valued) → IfSome (x >>= as_value) (Stands program t)
  value_stands H t x k h = if_map _ _ (x >>= as_value) (λ v p. stands_by program t p.0 v (k p.0 p.1) p.2) (value_shown H x h)

  stands_gives : (t : Thunk) (v : Val) → Stands program t v → (r : Outcome) × Gives program (force t) r × ShowsValue program r v
  stands_gives t (val place fields) h = (datum place h.0, h.1, (refl, h.2))

  -- a flat variable
  pub local_reached : (env : List Val) (y : ℕ) (H : Outcome → Type 0) (t : Thunk) (x : Option Val) (mode : Mode) → ((f : Outcome) → Gives program (force t) f → H f) → (v : Val) → x ≡ Some v → Stands program t v
      → IfSome (x >>= λ v. Some (a_value v)) (ReachesAnswer program H nothing valued)
  local_reached env y H t x mode k v e h = let g = stands_gives t v h in
      rw e (record { head = g.0; had = k g.0 g.1; result = g.0; given = applied_to_nothing program g.0; observed = g.2 })

  applied_once : (b : ℕ) (r : Outcome) → result_within program (suc b) (apply r nothing) ≡ Some r
  unfolding result_within
  applied_once b r = refl

  pub constructor_reached : (ρ : Thunks) (a : Bound) (c : List ℕ) (n place : ℕ) (ts : Thunks) (vs : List Val) → a.bound ≡ Some (Constructs n place)
      → (declaration_at n program >>= λ d. fields_at place (constructors_in d)) ≡ Some (how_many ts) → AllStand program ts vs
      → ReachesAnswer program (Gives program (evaluate ρ (constructor a c))) ts valued (a_value (val place (vals vs)))
  constructor_reached ρ a c n place ts vs e h s = record {
    head = constructed place (how_many ts);
    had = gives_step program _ _ (always (λ b. constructor_goes (result_within program b) n place (how_many ts) ρ a c program e h));
    result = datum place ts;
    given = gives_step program _ _ (later _ (always (λ b. constructed_goes (result_within program (suc b)) program place (how_many ts) ts refl (applied_once b))));
    observed = (refl, fields_stand program ts vs s);
  }

  pub parts_meant : (env : List Val) (E : Meants Bound) (ρ : Thunks) (parts : Expressions Bound) → AllMeant program env E ρ → AllMeant program env (suspended_parts E parts) (kept_parts ρ parts)
  unfolding result_within
  parts_meant env E ρ no_expressions h = tt
  parts_meant env E ρ (more_expressions e es) h = ((ρ, (λ n. refl), h), parts_meant env E ρ es h)

  pub application_reached : (ρ : Thunks) (a : Bound) (head : Expression Bound) (parts : Expressions Bound) (ts : Thunks) (mode : Mode) (x : Option Answer)
      → IfSome x (ReachesAnswer program (Gives program (evaluate ρ head)) (joined (kept_parts ρ parts) ts) mode) → IfSome x (ReachesAnswer program (Gives program (evaluate ρ (application a head parts))) ts mode)
  application_reached ρ a head parts ts mode x h = if_map _ _ x (λ y r.
      let p = in_parts program r.head (kept_parts ρ parts) ts r.result r.given in
      record { head = p.0; had = gives_step program _ _ (mapped_two (λ n. application_goes (result_within program n) program ρ a head parts r.head p.0) r.had p.1); result = r.result; given = p.2; observed = r.observed }) h

  pub tuple_reached : (ρ : Thunks) (a : Bound) (parts : Expressions Bound) (vs : List Val) → AllStand program (kept_parts ρ parts) vs
      → ReachesAnswer program (Gives program (evaluate ρ (tuple a parts))) nothing valued (a_value (val 0 (vals vs)))
  tuple_reached ρ a parts vs s = record {
    head = datum 0 (kept_parts ρ parts);
    had = gives_step program _ _ (always (λ n. refl));
    result = datum 0 (kept_parts ρ parts);
    given = applied_to_nothing program _;
    observed = (refl, fields_stand program (kept_parts ρ parts) vs s);
  }

  pub meant_many : (env : List Val) (ms : Meants Bound) (ts : Thunks) → AllMeant program env ms ts → meant_count ms ≡ how_many ts
  meant_many env no_meants nothing h = refl
  meant_many env no_meants (and_then t ts) h = absurd h
  meant_many env (more_meants m ms) nothing h = absurd h
  meant_many env (more_meants m ms) (and_then t ts) h = ap suc (meant_many env ms ts h.1)

  -- == Clauses ==

  suc_not_zero : (n : ℕ) → nat_eq (suc n) 0 ≡ false
  suc_not_zero n = grind (arith, nat_tests)

  not_enough : (a n : ℕ) → suc n ≤ a → nat_le (suc a) (suc n) ≡ false
  not_enough a n h = grind (arith, nat_tests)

  clauses_apply : (R : Task → Option Outcome) (ρ : Thunks) (cs : Alternatives Bound) (n : ℕ) (ts : Thunks) (f r : Outcome) → patterns_before cs ≡ suc n → suc n ≤ how_many ts
      → what_is_taken (rows program R ρ cs (first_thunks (suc n) ts)) ≡ Some f → R (apply f (later_thunks (suc n) ts)) ≡ Some r → applied program R (waiting_for_more (of_clauses ρ cs) nothing) ts ≡ Some r
  clauses_apply R ρ cs n nothing f r e h g k = absurd (omega arith)
  clauses_apply R ρ cs n (and_then t ts) f r e h g k = rw (e, not_enough (suc (how_many ts)) n h, g) k

  -- clauses without patterns, and with some
  clauses_cases : (ρ : Thunks) (cs : Alternatives Bound) (ts : Thunks) (mode : Mode) (x : Option Answer) (n : ℕ) → patterns_before cs ≡ n → n ≤ how_many ts
      → IfSome x (ReachesAnswer program (RowsGive ρ cs (first_thunks n ts)) (later_thunks n ts) mode) → IfSome x (ReachesAnswer program (ClausesGive ρ cs) ts mode)
  clauses_cases ρ cs ts mode x zero e k h = reach_on _ _ ts mode x (λ f g. mapped (λ b i. rw e i) g) h
  clauses_cases ρ cs ts mode x (suc n) e k h = if_map _ _ x (λ a r. record {
    head = waiting_for_more (of_clauses ρ cs) nothing;
    had = always (λ b. rw (e, suc_not_zero n));
    result = r.result;
    given = gives_step program _ _ (mapped_two (λ b i j. clauses_apply (result_within program b) ρ cs n ts r.head r.result e k i j) r.had r.given);
    observed = r.observed;
  }) h

  pub clauses_reached : (ρ : Thunks) (cs : Alternatives Bound) (ts : Thunks) (mode : Mode) (x : Option Answer) → patterns_before cs ≤ how_many ts
      → IfSome x (ReachesAnswer program (RowsGive ρ cs (first_thunks (patterns_before cs) ts)) (later_thunks (patterns_before cs) ts) mode) → IfSome x (ReachesAnswer program (ClausesGive ρ cs) ts mode)
  clauses_reached ρ cs ts mode x k h = clauses_cases ρ cs ts mode x (patterns_before cs) refl k h

  -- == Lambdas ==

  pub record LambdaReaches (ρ : Thunks) (ps : List (Pattern Bound)) (body : Expression Bound) (ts : Thunks) (mode : Mode) (a : Answer) : Type 0 where
    pub them : Thunks
    pub had : Eventually (λ b. match_row program (result_within program b) ps (first_thunks (length ps) ts) ≡ taken them)
    pub enough : length ps ≤ how_many ts
    pub reached : ReachesAnswer program (Gives program (evaluate (joined ρ them) body)) (later_thunks (length ps) ts) mode a

  lambda_apply : (R : Task → Option Outcome) (ρ : Thunks) (p : Pattern Bound) (ps : List (Pattern Bound)) (body : Expression Bound) (ts xs : Thunks) (f r : Outcome) → length (p ∷ ps) ≤ how_many ts
      → match_row program R (p ∷ ps) (first_thunks (length (p ∷ ps)) ts) ≡ taken xs → R (evaluate (joined ρ xs) body) ≡ Some f → R (apply f (later_thunks (length (p ∷ ps)) ts)) ≡ Some r
      → applied program R (waiting_for_more (of_lambda ρ (p ∷ ps) body) nothing) ts ≡ Some r
  lambda_apply R ρ p ps body nothing xs f r h e g k = absurd (omega arith)
  lambda_apply R ρ p ps body (and_then t ts) xs f r h e g k = rw (not_enough (suc (how_many ts)) (length ps) h, e, g) k

  pub lambda_reached : (ρ : Thunks) (a : Bound) (p : Pattern Bound) (ps : List (Pattern Bound)) (body : Expression Bound) (ts : Thunks) (mode : Mode) (x : Option Answer)
      → IfSome x (LambdaReaches ρ (p ∷ ps) body ts mode) → IfSome x (ReachesAnswer program (Gives program (evaluate ρ (lambda a (p ∷ ps) body))) ts mode)
  lambda_reached ρ a p ps body ts mode x h = if_map _ _ x (λ y r. record {
    head = waiting_for_more (of_lambda ρ (p ∷ ps) body) nothing;
    had = gives_step program _ _ (always (λ b. refl));
    result = r.reached.result;
    given = gives_step program _ _ (mapped_three (λ b i j k. lambda_apply (result_within program b) ρ p ps body ts r.them r.reached.head r.reached.result r.enough i j k) r.had r.reached.had r.reached.given);
    observed = r.reached.observed;
  }) h

  -- == Cases and lets ==

  pub case_given : (ρ : Thunks) (a : Bound) (e : Expression Bound) (cs : Alternatives Bound) (f : Outcome) → RowsGive ρ cs (and_then (kept ρ e) nothing) f → Gives program (evaluate ρ (case_of a e cs)) f
  case_given ρ a e cs f h = gives_step program _ f h

  pub let_given : (ρ : Thunks) (a : Bound) (group : LocalBindings Bound) (e : Expression Bound) (f : Outcome) → Gives program (evaluate (inside_names ρ group) e) f → Gives program (evaluate ρ (let_in a group e)) f
  let_given ρ a group e f h = gives_step program _ f h

  pub kept_given : (ρ : Thunks) (e : Expression Bound) (f : Outcome) → Gives program (evaluate ρ e) f → Gives program (force (kept ρ e)) f
  kept_given ρ e f h = gives_step program _ f h

  skipped : (c : Bool) (x y : Option Outcome) (z : Option (Alternatives Bound)) (cs : Alternatives Bound) (w : Option Outcome) → (if c then None else z) ≡ Some cs → (z ≡ Some cs → y ≡ w) → (if c then x else y) ≡ w
  skipped true x y z cs w e h = absurd (cc)
  skipped false x y z cs w e h = h e

  -- the name of a group that has clauses
  name_goes : (R : Task → Option Outcome) (env : Thunks) (group : LocalBindings Bound) (k : ℕ) (cs : Alternatives Bound) → clauses_at group k ≡ Some cs → name_in program R env group k ≡ clauses_there program R env cs
  name_goes R env no_bindings k cs e = absurd (cc)
  name_goes R env (more_bindings (local_signature a x type) others) k cs e = name_goes R env others k cs e
  name_goes R env (more_bindings (local_function a x clauses) others) zero cs e = let i : clauses ≡ cs = cc in ap (clauses_there program R env) i
  name_goes R env (more_bindings (local_function a x clauses) others) (suc k) cs e = name_goes R env others k cs e
  name_goes R env (more_bindings (local_pattern a (alternative b pats body wheres)) others) k cs e =
      skipped (nat_le (suc k) (length (binding_variables (local_pattern a (alternative b pats body wheres))))) _ _ _ cs _ e (name_goes R env others (k - length (binding_variables (local_pattern a (alternative b pats body wheres)))) cs)

  pub name_given : (ρ : Thunks) (group : LocalBindings Bound) (k : ℕ) (cs : Alternatives Bound) (f : Outcome) → clauses_at group k ≡ Some cs → ClausesGive (inside_names ρ group) cs f → Gives program (force (kept_name ρ group k)) f
  name_given ρ group k cs f e h = gives_step program _ f (mapped (λ n i. name_goes (result_within program n) (inside_names ρ group) group k cs e ∙ i) h)

  pub name_like : (ρ : Thunks) (group : LocalBindings Bound) (k : ℕ) (cs : Alternatives Bound) → clauses_at group k ≡ Some cs → (n : ℕ)
      → result_within program (suc n) (force (kept_name ρ group k)) ≡ clauses_there program (result_within program n) (inside_names ρ group) cs
  unfolding result_within
  name_like ρ group k cs e n = name_goes (result_within program n) (inside_names ρ group) group k cs e

  pub rows_there : (ρ : Thunks) (cs : Alternatives Bound) (f : Outcome) → patterns_before cs ≡ 0 → RowsGive ρ cs nothing f → ClausesGive ρ cs f
  rows_there ρ cs f e h = mapped (λ n i. rw e i) h

  pub placed_meant : (env : List Val) (m : Meant Bound) (ρ : Thunks) (group : LocalBindings Bound) (k : ℕ) (ms : Meants Bound) (j n : ℕ) → AllMeant program env ms (kept_names ρ group j n) → MeantBy program env m (kept_name ρ group (j + k))
      → AllMeant program env (placed k m ms) (kept_names ρ group j n)
  placed_meant env m ρ group k no_meants j zero h i = tt
  placed_meant env m ρ group k no_meants j (suc n) h i = absurd h
  placed_meant env m ρ group zero (more_meants x ms) j zero h i = absurd h
  placed_meant env m ρ group (suc k) (more_meants x ms) j zero h i = absurd h
  placed_meant env m ρ group zero (more_meants x ms) j (suc n) h i = let e : j + 0 ≡ j = omega arith in (subst (λ z. MeantBy program env m (kept_name ρ group z)) e i, h.1)
  placed_meant env m ρ group (suc k) (more_meants x ms) j (suc n) h i =
      let e : j + suc k ≡ suc j + k = omega arith in (h.0, placed_meant env m ρ group k ms (suc j) n h.1 (subst (λ z. MeantBy program env m (kept_name ρ group z)) e i))

  pub placed_first : (env : List Val) (m : Meant Bound) (ρ : Thunks) (group : LocalBindings Bound) (k : ℕ) (ms : Meants Bound) (n : ℕ) → AllMeant program env ms (kept_names ρ group 0 n) → MeantBy program env m (kept_name ρ group k)
      → AllMeant program env (placed k m ms) (kept_names ρ group 0 n)
  placed_first env m ρ group k ms n h i = let e : k ≡ 0 + k = omega arith in placed_meant env m ρ group k ms 0 n h (subst (λ z. MeantBy program env m (kept_name ρ group z)) e i)

  pub unplaced_meant : (env : List Val) (ρ : Thunks) (group : LocalBindings Bound) (j n : ℕ) → AllMeant program env (all_unplaced n) (kept_names ρ group j n)
  unplaced_meant env ρ group j zero = tt
  unplaced_meant env ρ group j (suc n) = (tt, unplaced_meant env ρ group (suc j) n)

  -- == Rows ==

  abbrev pub Passes : (ℕ → Tried Outcome) → Type 0
  Passes k = Eventually (λ n. k n ≡ passed_over)

  abbrev pub Taken : (ℕ → Tried Outcome) → Outcome → Type 0
  Taken k f = Eventually (λ n. k n ≡ taken f)

  abbrev pub the_row : Thunks → Alternative Bound → Thunks → ℕ → Tried Outcome
  the_row ρ c ps n = row program (result_within program n) ρ c ps

  abbrev pub the_rows : Thunks → Alternatives Bound → Thunks → ℕ → Tried Outcome
  the_rows ρ cs ps n = rows program (result_within program n) ρ cs ps

  abbrev pub the_side : Thunks → RightSide Bound → ℕ → Tried Outcome
  the_side ρ body n = side program (result_within program n) ρ body

  abbrev pub the_guards : Thunks → GuardedBodies Bound → ℕ → Tried Outcome
  the_guards ρ bodies n = guards program (result_within program n) ρ bodies

  row_is : (R : Task → Option Outcome) (ρ : Thunks) (a : Bound) (pats : List (Pattern Bound)) (body : RightSide Bound) (wheres : LocalBindings Bound) (ps xs : Thunks) (s : Tried Outcome)
      → match_row program R pats ps ≡ taken xs → side program R (inside_names (joined ρ xs) wheres) body ≡ s → row program R ρ (alternative a pats body wheres) ps ≡ s
  row_is R ρ a pats body wheres ps xs s e h = rw e h

  pub row_passes : (ρ : Thunks) (a : Bound) (pats : List (Pattern Bound)) (body : RightSide Bound) (wheres : LocalBindings Bound) (ps xs : Thunks)
      → Eventually (λ n. match_row program (result_within program n) pats ps ≡ taken xs) → Passes (the_side (inside_names (joined ρ xs) wheres) body) → Passes (the_row ρ (alternative a pats body wheres) ps)
  row_passes ρ a pats body wheres ps xs h g = mapped_two (λ n i j. row_is (result_within program n) ρ a pats body wheres ps xs passed_over i j) h g

  pub row_takes : (ρ : Thunks) (a : Bound) (pats : List (Pattern Bound)) (body : RightSide Bound) (wheres : LocalBindings Bound) (ps xs : Thunks) (f : Outcome)
      → Eventually (λ n. match_row program (result_within program n) pats ps ≡ taken xs) → Taken (the_side (inside_names (joined ρ xs) wheres) body) f → Taken (the_row ρ (alternative a pats body wheres) ps) f
  row_takes ρ a pats body wheres ps xs f h g = mapped_two (λ n i j. row_is (result_within program n) ρ a pats body wheres ps xs (taken f) i j) h g

  row_unmatched : (R : Task → Option Outcome) (ρ : Thunks) (a : Bound) (pats : List (Pattern Bound)) (body : RightSide Bound) (wheres : LocalBindings Bound) (ps : Thunks)
      → match_row program R pats ps ≡ passed_over → row program R ρ (alternative a pats body wheres) ps ≡ passed_over
  row_unmatched R ρ a pats body wheres ps e = rw e

  pub row_not_matched : (ρ : Thunks) (a : Bound) (pats : List (Pattern Bound)) (body : RightSide Bound) (wheres : LocalBindings Bound) (ps : Thunks)
      → Eventually (λ n. match_row program (result_within program n) pats ps ≡ passed_over) → Passes (the_row ρ (alternative a pats body wheres) ps)
  row_not_matched ρ a pats body wheres ps h = mapped (λ n i. row_unmatched (result_within program n) ρ a pats body wheres ps i) h

  or_first : (x y : Tried Outcome) (f : Outcome) → x ≡ taken f → or_try x y ≡ taken f
  or_first x y f e = rw e

  or_second : (x y z : Tried Outcome) → x ≡ passed_over → y ≡ z → or_try x y ≡ z
  or_second x y z e h = rw e h

  pub reach_taken : (H H' : Outcome → Type 0) (ts : Thunks) (mode : Mode) (a : Answer) → ((f : Outcome) → H f → H' f) → ReachesAnswer program H ts mode a → ReachesAnswer program H' ts mode a
  reach_taken H H' ts mode a k r = record { head = r.head; had = k r.head r.had; result = r.result; given = r.given; observed = r.observed }

  -- a first row and the others
  pub rows_reached : (ρ : Thunks) (c : Alternative Bound) (cs : Alternatives Bound) (ps ts : Thunks) (mode : Mode) (x y : Tried Answer)
      → Whichever x (Passes (the_row ρ c ps)) (ReachesAnswer program (Taken (the_row ρ c ps)) ts mode) → Whichever y (Passes (the_rows ρ cs ps)) (ReachesAnswer program (Taken (the_rows ρ cs ps)) ts mode)
      → Whichever (or_try x y) (Passes (the_rows ρ (more_alternatives c cs) ps)) (ReachesAnswer program (Taken (the_rows ρ (more_alternatives c cs) ps)) ts mode)
  rows_reached ρ c cs ps ts mode x y h k =
      whichever_or _ _ _ (ReachesAnswer program (Taken (the_row ρ c ps)) ts mode) (ReachesAnswer program (Taken (the_rows ρ cs ps)) ts mode) (ReachesAnswer program (Taken (the_rows ρ (more_alternatives c cs) ps)) ts mode) x y h (λ p. k)
      (λ a r. reach_taken _ _ ts mode a (λ f g. mapped (λ n. or_first _ _ f) g) r)
      (λ p q. mapped_two (λ n i j. or_second _ _ passed_over i j) p q)
      (λ a p r. reach_taken _ _ ts mode a (λ f g. mapped_two (λ n i j. or_second _ _ (taken f) i j) p g) r)

  what_was_taken : (x : Tried Outcome) (f : Outcome) → x ≡ taken f → what_is_taken x ≡ Some f
  what_was_taken x f e = rw e

  pub rows_given : (ρ : Thunks) (cs : Alternatives Bound) (ps : Thunks) (f : Outcome) → Taken (the_rows ρ cs ps) f → RowsGive ρ cs ps f
  rows_given ρ cs ps f h = mapped (λ n i. what_was_taken _ f i) h

  tried_some : (x : Option Outcome) (f : Outcome) → x ≡ Some f → tried x ≡ taken f
  tried_some x f e = rw e

  pub plain_taken : (ρ : Thunks) (e : Expression Bound) (f : Outcome) → Gives program (evaluate ρ e) f → Taken (the_side ρ (plain_side e)) f
  plain_taken ρ e f h = mapped (λ n i. tried_some _ f i) h

  guard_fails : (x : Option Outcome) (place : ℕ) (ts : Thunks) (y z : Tried Outcome) (s : Tried Outcome) → place ≡ 0 → x ≡ Some (datum place ts) → z ≡ s → and_try (tried x) (λ r. if_true r y z stuck) ≡ s
  guard_fails x place ts y z s e h k = rw (h, e) k

  guard_holds : (x : Option Outcome) (place : ℕ) (ts : Thunks) (y : Option Outcome) (z : Tried Outcome) (f : Outcome) → place ≡ 1 → x ≡ Some (datum place ts) → y ≡ Some f → and_try (tried x) (λ r. if_true r (tried y) z stuck) ≡ taken f
  guard_holds x place ts y z f e h k = rw (h, e, k)

  pub guard_reached : (ρ : Thunks) (g e : Expression Bound) (others : GuardedBodies Bound) (ts : Thunks) (mode : Mode) (x : Option Answer) (y : Tried Answer) (v : Val) (r : Outcome) → Gives program (evaluate ρ g) r → ShowsValue program r v
      → IfSome x (ReachesAnswer program (Gives program (evaluate ρ e)) ts mode) → Whichever y (Passes (the_guards ρ others)) (ReachesAnswer program (Taken (the_guards ρ others)) ts mode)
      → Whichever (if_holds v (tried x) y stuck) (Passes (the_guards ρ (more_bodies (guarded_body g e) others))) (ReachesAnswer program (Taken (the_guards ρ (more_bodies (guarded_body g e) others))) ts mode)
  guard_reached ρ g e others ts mode x y (val zero fields) (datum place us) i s h k =
      whichever_map _ _ (ReachesAnswer program (Taken (the_guards ρ others)) ts mode) _ y (λ p. mapped_two (λ n a b. guard_fails _ place us _ _ passed_over s.0 a b) i p)
      (λ a r. reach_taken _ _ ts mode a (λ f t. mapped_two (λ n a b. guard_fails _ place us _ _ (taken f) s.0 a b) i t) r) k
  guard_reached ρ g e others ts mode x y (val (suc zero) fields) (datum place us) i s h k =
      whichever_tried _ _ x (if_map _ _ x (λ a r. reach_taken _ _ ts mode a (λ f t. mapped_two (λ n a b. guard_holds _ place us _ _ f s.0 a b) i t) r) h)
  guard_reached ρ g e others ts mode x y (val (suc (suc tag)) fields) (datum place us) i s h k = tt
  guard_reached ρ g e others ts mode x y (val tag fields) (waiting_for_more f us) i s h k = absurd s
  guard_reached ρ g e others ts mode x y (val tag fields) (action o us) i s h k = absurd s

  row_only : (x : Tried Outcome) (f : Outcome) → x ≡ taken f → what_is_taken (or_try x passed_over) ≡ Some f
  row_only x f e = rw e

  pub only_row : (ρ : Thunks) (c : Alternative Bound) (ps : Thunks) (f : Outcome) → Taken (the_row ρ c ps) f → RowsGive ρ (more_alternatives c no_alternatives) ps f
  only_row ρ c ps f h = mapped (λ n i. row_only _ f i) h

  -- == Lambdas, pattern by pattern ==

  pub lambda_ends : (ρ : Thunks) (body : Expression Bound) (ts : Thunks) (mode : Mode) (x : Option Answer) → IfSome x (ReachesAnswer program (Gives program (evaluate ρ body)) ts mode) → IfSome x (LambdaReaches ρ [] body ts mode)
  lambda_ends ρ body ts mode x h = if_map _ _ x (λ a r. record {
    them = nothing;
    had = always (λ n. refl);
    enough = omega arith;
    reached = subst (λ z. ReachesAnswer program (Gives program (evaluate z body)) ts mode a) (sym (joined_nothing ρ)) r;
  }) h

  two_taken : (x y : Tried Thunks) (xs ys : Thunks) → x ≡ taken xs → y ≡ taken ys → and_try x (λ a. and_try y (λ b. taken (joined a b))) ≡ taken (joined xs ys)
  two_taken x y xs ys e f = rw (e, f)

  pub lambda_steps : (ρ xs : Thunks) (p : Pattern Bound) (ps : List (Pattern Bound)) (body : Expression Bound) (t : Thunk) (ts : Thunks) (mode : Mode) (x : Option Answer)
      → Eventually (λ n. match program (result_within program n) p t ≡ taken xs) → IfSome x (LambdaReaches (joined ρ xs) ps body ts mode) → IfSome x (LambdaReaches ρ (p ∷ ps) body (and_then t ts) mode)
  lambda_steps ρ xs p ps body t ts mode x m h = if_map _ _ x (λ a r. record {
    them = joined xs r.them;
    had = mapped_two (λ n i j. two_taken _ _ _ _ i j) m r.had;
    enough = let e = r.enough in omega arith;
    reached = subst (λ z. ReachesAnswer program (Gives program (evaluate z body)) (later_thunks (length ps) ts) mode a) (joined_assoc ρ xs r.them) r.reached;
  }) h

  -- == Tests ==

  if_first : (x y z : Option Outcome) (place : ℕ) (us : Thunks) (f : Outcome) → place ≡ 1 → x ≡ Some (datum place us) → y ≡ Some f → (x >>= λ r. if_true r y z None) ≡ Some f
  if_first x y z place us f e h k = rw (h, e) k

  if_second : (x y z : Option Outcome) (place : ℕ) (us : Thunks) (f : Outcome) → place ≡ 0 → x ≡ Some (datum place us) → z ≡ Some f → (x >>= λ r. if_true r y z None) ≡ Some f
  if_second x y z place us f e h k = rw (h, e) k

  pub then_given : (ρ : Thunks) (a : Bound) (b e e' : Expression Bound) (r : Outcome) (tag : ℕ) (fields : Vals) (f : Outcome) → tag ≡ 1 → Gives program (evaluate ρ b) r → ShowsValue program r (val tag fields) → Gives program (evaluate ρ e) f
      → Gives program (evaluate ρ (if_then_else a b e e')) f
  then_given ρ a b e e' (datum place us) tag fields f k g s h = gives_step program _ f (mapped_two (λ n i j. if_first _ _ _ place us f (s.0 ∙ k) i j) g h)
  then_given ρ a b e e' (waiting_for_more o us) tag fields f k g s h = absurd s
  then_given ρ a b e e' (action o us) tag fields f k g s h = absurd s

  pub else_given : (ρ : Thunks) (a : Bound) (b e e' : Expression Bound) (r : Outcome) (tag : ℕ) (fields : Vals) (f : Outcome) → tag ≡ 0 → Gives program (evaluate ρ b) r → ShowsValue program r (val tag fields) → Gives program (evaluate ρ e') f
      → Gives program (evaluate ρ (if_then_else a b e e')) f
  else_given ρ a b e e' (datum place us) tag fields f k g s h = gives_step program _ f (mapped_two (λ n i j. if_second _ _ _ place us f (s.0 ∙ k) i j) g h)
  else_given ρ a b e e' (waiting_for_more o us) tag fields f k g s h = absurd s
  else_given ρ a b e e' (action o us) tag fields f k g s h = absurd s

  -- == Statements ==

  pub last_given : (ρ : Thunks) (a b : Bound) (e : Expression Bound) (f : Outcome) → Gives program (evaluate ρ e) f → Gives program (evaluate ρ (do_block a (more_statements (run_statement b e) no_statements))) f
  last_given ρ a b e f h = gives_step program _ f h

  pub let_then_given : (ρ : Thunks) (a b : Bound) (group : LocalBindings Bound) (ss : Statements Bound) (f : Outcome) → Gives program (evaluate (inside_names ρ group) (do_block a ss)) f
      → Gives program (evaluate ρ (do_block a (more_statements (let_statement b group) ss))) f
  let_then_given ρ a b group ss f h = gives_step program _ f h

  -- an expression that is an action
  pub action_reached : (ρ : Thunks) (e : Expression Bound) (r : Outcome) (mode : Mode) (y : Option Answer) → Gives program (evaluate ρ e) r → IfSome y (Observed program mode r) → IfSome y (ReachesAnswer program (Gives program (evaluate ρ e)) nothing mode)
  action_reached ρ e r mode y g h = if_map _ _ y (λ b k. record { head = r; had = g; result = r; given = applied_to_nothing program r; observed = k }) h

  pub run_given : (ρ : Thunks) (a b : Bound) (e : Expression Bound) (s : Statement Bound) (ss : Statements Bound)
      → Gives program (evaluate ρ (do_block a (more_statements (run_statement b e) (more_statements s ss)))) (action Then (and_then (kept ρ e) (and_then (kept ρ (do_block a (more_statements s ss))) nothing)))
  run_given ρ a b e s ss = gives_step program _ _ (always (λ n. refl))

  abbrev pub rest_of : Thunks → Pattern Bound → Expression Bound → Thunk
  rest_of ρ p body = known (waiting_for_more (of_lambda ρ (p ∷ []) body) nothing)

  pub bind_given : (ρ : Thunks) (a b : Bound) (p : Pattern Bound) (e : Expression Bound) (ss : Statements Bound)
      → Gives program (evaluate ρ (do_block a (more_statements (bind_statement b p e) ss))) (action Bind (and_then (kept ρ e) (and_then (rest_of ρ p (do_block a ss)) nothing)))
  bind_given ρ a b p e ss = gives_step program _ _ (always (λ n. refl))

  pub rest_reached : (ρ : Thunks) (p : Pattern Bound) (body : Expression Bound) (ts : Thunks) (mode : Mode) (x : Option Answer)
      → IfSome x (LambdaReaches ρ (p ∷ []) body ts mode) → IfSome x (ReachesAnswer program (Gives program (force (rest_of ρ p body))) ts mode)
  rest_reached ρ p body ts mode x h = if_map _ _ x (λ y r. record {
    head = waiting_for_more (of_lambda ρ (p ∷ []) body) nothing;
    had = gives_step program _ _ (always (λ b. refl));
    result = r.reached.result;
    given = gives_step program _ _ (mapped_three (λ b i j k. lambda_apply (result_within program b) ρ p [] body ts r.them r.reached.head r.reached.result r.enough i j k) r.had r.reached.had r.reached.given);
    observed = r.reached.observed;
  }) h

  -- == Pattern bindings ==

  -- what a name of a pattern binding gives
  abbrev by_pattern : (Task → Option Outcome) → Thunks → Pattern Bound → RightSide Bound → LocalBindings Bound → ℕ → Option Outcome
  by_pattern R ρ p body wheres j = what_is_taken (match_row program R (p ∷ []) (and_then (kept_side ρ body wheres) nothing)) >>= λ xs. thunk_at j xs >>= λ t. R (force t)

  chosen : (c : Bool) (x y z : Option Outcome) → c ≡ true → x ≡ z → (if c then x else y) ≡ z
  chosen c x y z e h = rw e h

  other : (c : Bool) (x y z : Option Outcome) → c ≡ false → y ≡ z → (if c then x else y) ≡ z
  other c x y z e h = rw e h

  below : (j n : ℕ) → suc j ≤ n → nat_le (suc j) n ≡ true
  below j n h = grind (arith, nat_tests)

  above : (j n : ℕ) → n ≤ j → nat_le (suc j) n ≡ false
  above j n h = grind (arith, nat_tests)

  pattern_name : {group : LocalBindings Bound} {k : ℕ} {a b : Bound} {p : Pattern Bound} {body : RightSide Bound} {wheres : LocalBindings Bound} → StandsIn group k (local_pattern a (alternative b (p ∷ []) body wheres))
      → (R : Task → Option Outcome) (ρ : Thunks) (j m : ℕ) → suc j ≤ length (binding_variables (local_pattern a (alternative b (p ∷ []) body wheres))) → m ≡ k + j
      → name_in program R ρ group m ≡ by_pattern R ρ p body wheres j
  pattern_name {a = a} {b = b} {p = p} {body = body} {wheres = wheres} (stands_here {bs = bs}) R ρ j m h e =
      let i : j ≡ m = omega arith in
      subst (λ z. name_in program R ρ (more_bindings (local_pattern a (alternative b (p ∷ []) body wheres)) bs) z ≡ by_pattern R ρ p body wheres j) i
      (chosen _ _ _ _ (below j (length (binding_variables (local_pattern a (alternative b (p ∷ []) body wheres)))) h) refl)
  pattern_name (stands_later {c = local_signature c x type} s f) R ρ j m h e = pattern_name s R ρ j m h (omega arith)
  pattern_name (stands_later {c = local_function c x clauses} s f) R ρ j zero h e = absurd (omega arith)
  pattern_name (stands_later {c = local_function c x clauses} s f) R ρ j (suc m) h e = pattern_name s R ρ j m h (omega arith)
  pattern_name (stands_later {c = local_pattern c (alternative d pats side others)} s f) R ρ j m h e =
      other _ _ _ _ (above m (length (binding_variables (local_pattern c (alternative d pats side others)))) (omega arith))
      (pattern_name s R ρ j (m - length (binding_variables (local_pattern c (alternative d pats side others)))) h (omega arith))

  name_by : (R : Task → Option Outcome) (ρ : Thunks) (p : Pattern Bound) (body : RightSide Bound) (wheres : LocalBindings Bound) (j : ℕ) (xs : Thunks) (t : Thunk) (r : Outcome)
      → match program R p (kept_side ρ body wheres) ≡ taken xs → thunk_at j (joined xs nothing) ≡ Some t → R (force t) ≡ Some r → by_pattern R ρ p body wheres j ≡ Some r
  name_by R ρ p body wheres j xs t r e h g = rw (e, h) g

  pub pattern_name_stands : {group : LocalBindings Bound} {k : ℕ} {a b : Bound} {p : Pattern Bound} {body : RightSide Bound} {wheres : LocalBindings Bound} → StandsIn group k (local_pattern a (alternative b (p ∷ []) body wheres))
      → (ρ : Thunks) (j : ℕ) → suc j ≤ length (binding_variables (local_pattern a (alternative b (p ∷ []) body wheres))) → (xs : Thunks) (t : Thunk) (v : Val)
      → Eventually (λ n. match program (result_within program n) p (kept_side (inside_names ρ group) body wheres) ≡ taken xs) → thunk_at j xs ≡ Some t → Stands program t v → Stands program (kept_name ρ group (k + j)) v
  pattern_name_stands {group = group} {k = k} {p = p} {body = body} {wheres = wheres} s ρ j h xs t (val place fields) m g w = (
    w.0,
    gives_step program _ _ (mapped_two (λ n x y. pattern_name s (result_within program n) (inside_names ρ group) j (k + j) h refl
        ∙ name_by (result_within program n) (inside_names ρ group) p body wheres j xs t _ x (subst (λ z. thunk_at j z ≡ Some t) (sym (joined_nothing xs)) g) y) m w.1),
    w.2,
  )

  what_was : (x : Tried Outcome) (f : Outcome) → x ≡ taken f → what_is_taken x ≡ Some f
  what_was x f e = rw e

  pub side_given : (ρ : Thunks) (body : RightSide Bound) (wheres : LocalBindings Bound) (f : Outcome) → Taken (the_side (inside_names ρ wheres) body) f → Gives program (force (kept_side ρ body wheres)) f
  side_given ρ body wheres f h = gives_step program _ f (mapped (λ n e. what_was _ f e) h)

  -- all names of a pattern binding are placed
  pub all_placed_meant : (env : List Val) (ρ : Thunks) (group : LocalBindings Bound) (many n k d : ℕ) (ms : Meants Bound) → ((i : ℕ) → suc i ≤ n → MeantBy program env (flat (d + i)) (kept_name ρ group (k + i)))
      → AllMeant program env ms (kept_names ρ group 0 many) → AllMeant program env (placed_all k (flats d n) ms) (kept_names ρ group 0 many)
  all_placed_meant env ρ group many zero k d ms h i = i
  all_placed_meant env ρ group many (suc n) k d ms h i =
      let e : k + 0 ≡ k = omega arith in
      let f : d + 0 ≡ d = omega arith in
      let m : MeantBy program env (flat d) (kept_name ρ group k) = subst (λ z. MeantBy program env (flat z) (kept_name ρ group k)) f (subst (λ z. MeantBy program env (flat (d + 0)) (kept_name ρ group z)) e (h 0 (omega arith))) in
      all_placed_meant env ρ group many n (suc k) (suc d) (placed k (flat d) ms)
      (λ j l. let g : k + suc j ≡ suc k + j = omega arith in let q : d + suc j ≡ suc d + j = omega arith in
      subst (λ z. MeantBy program env (flat z) (kept_name ρ group (suc k + j))) q (subst (λ z. MeantBy program env (flat (d + suc j)) (kept_name ρ group z)) g (h (suc j) (omega arith))))
      (placed_first env (flat d) ρ group k ms many i m)

  value_past : (env ws : List Val) (j : ℕ) → value_at (length env + j) (env ++ ws) ≡ value_at j ws
  value_past [] ws j = let e : 0 + j ≡ j = omega arith in ap (λ z. value_at z ws) e
  value_past (w ∷ env) ws j = let e : suc (length env) + j ≡ suc (length env + j) = omega arith in ap (λ z. value_at z (w ∷ (env ++ ws))) e ∙ value_past env ws j

  one_of : (j : ℕ) (xs : Thunks) (ws : List Val) → suc j ≤ length ws → AllStand program xs ws → (t : Thunk) × (v : Val) × (thunk_at j xs ≡ Some t) × (value_at j ws ≡ Some v) × Stands program t v
  one_of j nothing [] h s = absurd (omega arith)
  one_of j nothing (w ∷ ws) h s = absurd s
  one_of j (and_then x xs) [] h s = absurd s
  one_of zero (and_then x xs) (w ∷ ws) h s = (x, w, refl, refl, s.0)
  one_of (suc j) (and_then x xs) (w ∷ ws) h s = one_of j xs ws (omega arith) s.1

  pub pattern_names_meant : {group : LocalBindings Bound} {k : ℕ} {a b : Bound} {p : Pattern Bound} {body : RightSide Bound} {wheres : LocalBindings Bound} → StandsIn group k (local_pattern a (alternative b (p ∷ []) body wheres))
      → (ρ : Thunks) (n d : ℕ) → n ≡ length (binding_variables (local_pattern a (alternative b (p ∷ []) body wheres))) → (env ws : List Val) (xs : Thunks) → length env ≡ d → length ws ≡ n → AllStand program xs ws
      → Eventually (λ n. match program (result_within program n) p (kept_side (inside_names ρ group) body wheres) ≡ taken xs)
      → (j : ℕ) → suc j ≤ n → MeantBy program (env ++ ws) (flat (d + j)) (kept_name ρ group (k + j))
  pattern_names_meant s ρ n d e env ws xs l m h t j i =
      let o = one_of j xs ws (omega arith) h in
      (o.1, subst (λ z. value_at (z + j) (env ++ ws) ≡ Some o.1) l (value_past env ws j ∙ o.3), pattern_name_stands s ρ j (subst (λ z. suc j ≤ z) e i) xs o.0 o.1 t o.2 o.4)
