-- Instances at the arguments of a node, and constructors that are matched there.
use Rattle.std.proofs.Common.{◌≡◌, ◌↔◌, ℕ, suc, ◌≤◌, List, ◌∷◌, map, drop, length, Option, Some, None, refl, sym, ◌∙◌, ap, subst, arith}
use Rattle.std.proofs.lemmas.List.{length-map}
use Rattle.std.proofs.Math.ListN.{drop_of_length-le}
use Rattle.rw_types_solving.specs.declared.term.Term.{Term}
use Rattle.rw_types_solving.specs.Types.{Ty, var, apply, plain, plains}
use Rattle.rw_types_rules.specs.Words.{functions}
use Rattle.rw_types_rules.specs.Schemes.{Scheme, scheme_type}
use Rattle.rw_types_rules.specs.WellTyped.{given, IsInstance, IsMatched}
use Rattle.rw_types_equations.specs.declared.numbered.Numbered.{Numbered}
use Rattle.rw_types_equations.specs.Numbered.{argument_numbers}
use Rattle.rw_types_equations.proofs.Instances.{instance_at, functions_under, numbers_length}

-- an instance at the arguments of a node
pub is_instance : (s : Scheme) (a : Numbered) (ns : List ℕ) (ts : List Ty) (g : Ty) → ns ≡ argument_numbers a → a.arguments ≡ length s.kinds → ts ≡ map (apply (given (map var ns))) s.takes → g ≡ apply (given (map var ns)) s.gives
    → (t : ℕ → Ty) → (t a.number ≡ apply t (functions ts g)) ↔ IsInstance (Some s) (map t (argument_numbers a)) (t a.number)
is_instance s a ns ts g e l p r t =
    let whole : functions ts g ≡ apply (given (map var ns)) (scheme_type s) = ap (λ z. functions z g) p ∙ ap (functions (map (apply (given (map var ns))) s.takes)) r ∙ sym (functions_under (given (map var ns)) s.takes s.gives) in
    let q : apply t (functions ts g) ≡ apply (given (map t (argument_numbers a))) (scheme_type s) = ap (apply t) whole ∙ instance_at t ns (scheme_type s) ∙ ap (λ z. apply (given (map t z)) (scheme_type s)) e in
    ((λ h. (length-map (argument_numbers a) t ∙ numbers_length (suc a.number) a.arguments ∙ l, h ∙ q)), (λ h. h.1 ∙ sym q))

pub as_many_arguments : (t : ℕ → Ty) (a : Numbered) → length (map t (argument_numbers a)) ≡ a.arguments
as_many_arguments t a = length-map (argument_numbers a) t ∙ numbers_length (suc a.number) a.arguments

pub no_instance : (s : Scheme) (a : Numbered) → (a.arguments ≡ length s.kinds → ⊥) → (t : ℕ → Ty) → ⊥ ↔ IsInstance (Some s) (map t (argument_numbers a)) (t a.number)
no_instance s a f t = ((λ b. absurd b), (λ h. f (sym (as_many_arguments t a) ∙ h.0)))

-- fields, one after the other
abbrev pub FieldsAre : (ℕ → Ty) → List ℕ → List ℕ → List Ty → Type 0
FieldsAre t ns parts takes = map t parts ≡ map (apply (given (map t ns))) takes

heads_and_rest : (x y : Ty) (xs ys : List Ty) → (x ∷ xs ≡ y ∷ ys) ↔ ((x ≡ y) × (xs ≡ ys))
heads_and_rest x y xs ys = ((λ h. let p : x ≡ y = cc in let q : xs ≡ ys = cc in (p, q)), (λ h. let p = h.0 in let q = h.1 in cc))

pub field_step : (ns parts later : List ℕ) (takes rest : List Term) (p : ℕ) (k : Term) (u : Ty) → parts ≡ p ∷ later → takes ≡ k ∷ rest → u ≡ apply (given (map var ns)) (plain k)
    → (t : ℕ → Ty) → FieldsAre t ns parts (plains takes) ↔ ((t p ≡ apply t u) × FieldsAre t ns later (plains rest))
field_step ns parts later takes rest p k u e f q t =
    let v : apply t u ≡ apply (given (map t ns)) (plain k) = ap (apply t) q ∙ instance_at t ns (plain k) in
    rw (e, f) (
      (λ h. let both = (heads_and_rest (t p) (apply (given (map t ns)) (plain k)) (map t later) (map (apply (given (map t ns))) (plains rest))).0 h in (both.0 ∙ sym v, both.1)),
      (λ h. (heads_and_rest (t p) (apply (given (map t ns)) (plain k)) (map t later) (map (apply (given (map t ns))) (plains rest))).1 (h.0 ∙ v, h.1)),
    )

pub fields_done : (ns parts : List ℕ) (takes : List Term) (i : ℕ) → length parts ≡ length takes → length takes ≤ i → (t : ℕ → Ty) → FieldsAre t ns (drop i parts) (plains (drop i takes))
fields_done ns parts takes i e l t = rw (drop_of_length-le parts {i = i} (omega arith), drop_of_length-le takes {i = i} l) refl

-- a constructor that is matched
pub is_matched : (s : Scheme) (a : Numbered) (ns parts : List ℕ) (ts : List Ty) (g : Ty) → ns ≡ argument_numbers a → ts ≡ s.takes → a.arguments ≡ length s.kinds → g ≡ apply (given (map var ns)) s.gives
    → (t : ℕ → Ty) → (FieldsAre t ns parts ts × (t a.number ≡ apply t g)) ↔ IsMatched (Some s) (map t (argument_numbers a)) (map t parts) (t a.number)
is_matched s a ns parts ts g e k l p t =
    let q : apply t g ≡ apply (given (map t ns)) s.gives = ap (apply t) p ∙ instance_at t ns s.gives in
    rw (sym e, k) (
      (λ h. (ap (λ z. length (map t z)) e ∙ as_many_arguments t a ∙ l, h.0, h.1 ∙ q)),
      (λ h. (h.1, h.2 ∙ sym q)),
    )

pub no_match : (s : Scheme) (a : Numbered) (parts : List ℕ) → ((a.arguments ≡ length s.kinds) → (length parts ≡ length s.takes) → ⊥)
    → (t : ℕ → Ty) → ⊥ ↔ IsMatched (Some s) (map t (argument_numbers a)) (map t parts) (t a.number)
no_match s a parts f t =
    ((λ b. absurd b), (λ h. f (sym (as_many_arguments t a) ∙ h.0) (sym (length-map parts t) ∙ ap length h.1 ∙ length-map s.takes (apply (given (map t (argument_numbers a)))))))

pub as_many_takes : (ts : List Term) → length (plains ts) ≡ length ts
as_many_takes ts = length-map ts plain

-- the same said of what a scheme is equal to
pub instance_as : (x y : Option Scheme) (arguments : List Ty) (type : Ty) → x ≡ y → IsInstance x arguments type ↔ IsInstance y arguments type
instance_as x y arguments type e = ((λ h. subst (λ z. IsInstance z arguments type) e h), (λ h. subst (λ z. IsInstance z arguments type) (sym e) h))

pub match_as : (x y : Option Scheme) (arguments parts : List Ty) (type : Ty) → x ≡ y → IsMatched x arguments parts type ↔ IsMatched y arguments parts type
match_as x y arguments parts type e = ((λ h. subst (λ z. IsMatched z arguments parts type) e h), (λ h. subst (λ z. IsMatched z arguments parts type) (sym e) h))

pub no_instance_of : (x : Option Scheme) (arguments : List Ty) (type : Ty) → x ≡ None → ⊥ ↔ IsInstance x arguments type
no_instance_of x arguments type e = ((λ b. absurd b), (λ h. subst (λ z. IsInstance z arguments type) e h))

pub no_match_of : (x : Option Scheme) (arguments parts : List Ty) (type : Ty) → x ≡ None → ⊥ ↔ IsMatched x arguments parts type
no_match_of x arguments parts type e = ((λ b. absurd b), (λ h. subst (λ z. IsMatched z arguments parts type) e h))
