-- Names that are the same, and lists of so many types.
use Rattle.std.proofs.Common.{◌≡◌, ◌↔◌, ℕ, suc, ◌+◌, ◌<◌, ◌≤◌, Bool, true, false, ◌&&◌, nat_eq, List, [], ◌∷◌, length, drop, get_or, Some, refl, sym, ◌∙◌, ap, arith}
use Rattle.std.specs.Bool.{if◌then◌else◌}
use Rattle.std.proofs.lemmas.Bool.Decides.{nat_tests}
use Rattle.rw_types_solving.specs.declared.term.Term.{Term}
use Rattle.rw_types_solving.specs.Types.{Ty, var, plains}
use Rattle.rw_scope_rules.specs.Names.{same_name, first_named}
use Rattle.rw_types_equations.specs.declared.scheme.DataName.{DataName}
use Rattle.rw_types_equations.specs.Seen.{seen_types}
use Rattle.rw_types_equations.proofs.Rows.{mapped_next, drop_next}
use Rattle.rw_types_rules.specs.Words.{unit_type, identity}
use Rattle.rw_types_rules.specs.Written.{variable_applied, identity_applied, state_applied, device_applied, variable_from}

same_digit : (x y : ℕ) → x ≡ y → nat_eq x y ≡ true
same_digit x y e = grind (arith, nat_tests)

is_digit : (x y : ℕ) → nat_eq x y ≡ true → x ≡ y
is_digit x y e = grind (arith, nat_tests)

pub name_is : (xs ys : List ℕ) → xs ≡ ys → same_name xs ys ≡ true
name_is [] [] e = refl
name_is [] (y ∷ ys) e = absurd (cc)
name_is (x ∷ xs) [] e = absurd (cc)
name_is (x ∷ xs) (y ∷ ys) e = let p : x ≡ y = cc in let q : xs ≡ ys = cc in rw (same_digit x y p, name_is xs ys q) refl

both_true : (a b : Bool) → (a && b) ≡ true → (a ≡ true) × (b ≡ true)
both_true true b e = (refl, e)
both_true false b e = absurd (cc)

same_is : (xs ys : List ℕ) → same_name xs ys ≡ true → xs ≡ ys
same_is [] [] e = refl
same_is [] (y ∷ ys) e = absurd (cc)
same_is (x ∷ xs) [] e = absurd (cc)
same_is (x ∷ xs) (y ∷ ys) e =
    let h = both_true (nat_eq x y) (same_name xs ys) e in let p = is_digit x y h.0 in let q = same_is xs ys h.1 in cc

or_not : (xs ys : List ℕ) (b : Bool) → same_name xs ys ≡ b → (xs ≡ ys → ⊥) → b ≡ false
or_not xs ys true e f = absurd (f (same_is xs ys e))
or_not xs ys false e f = refl

pub name_is_not : (xs ys : List ℕ) → (xs ≡ ys → ⊥) → same_name xs ys ≡ false
name_is_not xs ys f = or_not xs ys (same_name xs ys) refl f

pub ruleset same_names = (name_is, name_is_not)

-- so many arguments
pub variable_more : (x : Ty) (ts : List Term) → 2 ≤ length ts → variable_applied x (plains ts) ≡ unit_type
variable_more x [] l = absurd (omega arith)
variable_more x (a ∷ []) l = absurd (omega arith)
variable_more x (a ∷ b ∷ ts) l = refl

pub identity_less : (ts : List Term) → length ts < 1 → identity_applied (plains ts) ≡ identity
identity_less [] l = refl
identity_less (a ∷ ts) l = absurd (omega arith)

pub identity_more : (ts : List Term) → 2 ≤ length ts → identity_applied (plains ts) ≡ identity
identity_more [] l = refl
identity_more (a ∷ []) l = absurd (omega arith)
identity_more (a ∷ b ∷ ts) l = refl

pub state_less : (ts : List Term) → length ts < 2 → state_applied (plains ts) ≡ unit_type
state_less [] l = refl
state_less (a ∷ []) l = refl
state_less (a ∷ b ∷ ts) l = absurd (omega arith)

pub state_more : (ts : List Term) → 4 ≤ length ts → state_applied (plains ts) ≡ unit_type
state_more [] l = refl
state_more (a ∷ []) l = refl
state_more (a ∷ b ∷ []) l = absurd (omega arith)
state_more (a ∷ b ∷ c ∷ []) l = absurd (omega arith)
state_more (a ∷ b ∷ c ∷ d ∷ ts) l = refl

pub device_less : (ts : List Term) → length ts < 3 → device_applied (plains ts) ≡ unit_type
device_less [] l = refl
device_less (a ∷ []) l = refl
device_less (a ∷ b ∷ []) l = refl
device_less (a ∷ b ∷ c ∷ ts) l = absurd (omega arith)

pub device_more : (ts : List Term) → 5 ≤ length ts → device_applied (plains ts) ≡ unit_type
device_more [] l = refl
device_more (a ∷ []) l = refl
device_more (a ∷ b ∷ []) l = refl
device_more (a ∷ b ∷ c ∷ []) l = absurd (omega arith)
device_more (a ∷ b ∷ c ∷ d ∷ []) l = absurd (omega arith)
device_more (a ∷ b ∷ c ∷ d ∷ e ∷ ts) l = refl

pub ruleset so_many = (variable_more, identity_less, identity_more, state_less, state_more, device_less, device_more)

-- a name that is looked for
told_true : (b : Bool) (P : Type 0) → (b ≡ true ↔ P) → b ≡ true → P
told_true b P h e = h.0 e

pub told_false : (b : Bool) (P : Type 0) → (b ≡ true ↔ P) → b ≡ false → P → ⊥
told_false b P h e p = let q : true ≡ false = sym (h.1 p) ∙ e in absurd (cc)

pub found_here : (ds : List DataName) (i : ℕ) (d : DataName) (x : List ℕ) (r : Bool) → i < length ds → d ≡ get_or ds i d → (r ≡ true ↔ (d.name ≡ x)) → r ≡ true
    → first_named x (seen_types (drop i ds)) ≡ Some d.number
found_here ds i d x r l e h b =
    let n = name_is x d.name (sym (h.0 b)) in
    ap (first_named x) (mapped_next (λ z. (z.name, z.number)) ds i d l e) ∙ ap (λ z. if z then Some d.number else first_named x (seen_types (drop (i + 1) ds))) n

pub found_later : (ds : List DataName) (i : ℕ) (d : DataName) (x : List ℕ) (r : Bool) → i < length ds → d ≡ get_or ds i d → (r ≡ true ↔ (d.name ≡ x)) → r ≡ false
    → first_named x (seen_types (drop i ds)) ≡ first_named x (seen_types (drop (i + 1) ds))
found_later ds i d x r l e h b =
    let n = name_is_not x d.name (λ q. told_false r (d.name ≡ x) h b (sym q)) in
    ap (first_named x) (mapped_next (λ z. (z.name, z.number)) ds i d l e) ∙ ap (λ z. if z then Some d.number else first_named x (seen_types (drop (i + 1) ds))) n

pub variable_here : (ns : List (List ℕ)) (i at : ℕ) (n x y : List ℕ) (r : Bool) (whole : Ty) → i < length ns → n ≡ get_or ns i n → y ≡ n → (r ≡ true ↔ (x ≡ y)) → r ≡ true
    → variable_from at x (drop i ns) ≡ whole → var at ≡ whole
variable_here ns i at n x y r whole l e p h b k =
    let s = name_is x n (h.0 b ∙ p) in
    sym (ap (variable_from at x) (drop_next ns i (i + 1) n l refl e) ∙ ap (λ v. if v then var at else variable_from (suc at) x (drop (i + 1) ns)) s) ∙ k

pub variable_later : (ns : List (List ℕ)) (i at : ℕ) (n x y : List ℕ) (r : Bool) (whole : Ty) → i < length ns → n ≡ get_or ns i n → y ≡ n → (r ≡ true ↔ (x ≡ y)) → r ≡ false
    → variable_from at x (drop i ns) ≡ whole → variable_from (at + 1) x (drop (i + 1) ns) ≡ whole
variable_later ns i at n x y r whole l e p h b k =
    let s = name_is_not x n (λ q. told_false r (x ≡ y) h b (q ∙ sym p)) in
    let z : suc at ≡ at + 1 = omega arith in
    sym (ap (variable_from at x) (drop_next ns i (i + 1) n l refl e) ∙ ap (λ v. if v then var at else variable_from (suc at) x (drop (i + 1) ns)) s ∙ ap (λ v. variable_from v x (drop (i + 1) ns)) z) ∙ k
