-- Laws of substitution, and of the nodes of a type: an instance never has fewer.
use Rattle.std.proofs.Common.{◌≡◌, ℕ, suc, ◌+◌, ◌≤◌, Bool, true, false, cond, ◌&&◌, ◌||◌, nat_eq, refl, ◌∙◌, ap, arith, ◌⊎◌, inl, inr}
use Rattle.std.proofs.lemmas.Bool.Decides.{nat_tests}
use Rattle.rw_types_solving.specs.declared.term.Head.{Head}
use Rattle.rw_types_solving.specs.declared.term.Head.TheVariants as h
use Rattle.rw_types_solving.specs.Types.{Ty, Tys, var, app, none, more, apply, apply_in, nodes, nodes_in, own, parts, is_known_layer, occurs, occurs_in, single, after, same_head}
use Rattle.rw_types_solving.specs.Inside.{size, size_in}

pub true_or_false : (b : Bool) → (b ≡ true) ⊎ (b ≡ false)
true_or_false true = inl refl
true_or_false false = inr refl

pub or_right : (a b : Bool) → b ≡ true → (a || b) ≡ true
or_right true b e = refl
or_right false b e = e

pub either : (a b : Bool) → (a || b) ≡ true → (a ≡ true) ⊎ (b ≡ true)
either true b e = inl refl
either false b e = inr e

both_last : (a b : Bool) → (a && b) ≡ true → b ≡ true
both_last true b e = e
both_last false b e = absurd (cc)

pub is_same : (x y : ℕ) → nat_eq x y ≡ true → x ≡ y
is_same x y e = grind (arith, nat_tests)

pub same_is : (x y : ℕ) → x ≡ y → nat_eq x y ≡ true
same_is x y e = grind (arith, nat_tests)

pub itself : (x : ℕ) → nat_eq x x ≡ true
itself x = same_is x x refl

-- heads that are the same
pub head_is : (h k : Head) → same_head h k ≡ true → h ≡ k
head_is h.Tuple h.Tuple e = refl
head_is h.Fun h.Fun e = refl
head_is (h.Data m) (h.Data n) e = ap h.Data (is_same m n e)
head_is h.Comp h.Comp e = refl
head_is h.I h.I e = refl
head_is h.Layer h.Layer e = refl
head_is h.StateT h.StateT e = refl
head_is h.ReT h.ReT e = refl
head_is (h.Unknown m) (h.Unknown n) e = ap h.Unknown (is_same m n e)
head_is _ _ e = absurd (cc)

pub head_self : (h : Head) → same_head h h ≡ true
head_self (h.Data m) = itself m
head_self (h.Unknown m) = itself m
head_self _ = refl

-- nodes
own_none : (h : Head) → own h none ≡ 1
own_none h.Layer = refl
own_none _ = refl

own_or_parts : (h : Head) (ts : Tys) → 1 ≤ parts ts + own h ts
own_or_parts h none = let e = own_none h in omega arith
own_or_parts h (more t ts) = omega arith

mutual
  pub nodes_positive : (t : Ty) → 1 ≤ nodes t
  nodes_positive (var x) = omega arith
  nodes_positive (app h ts) = let i = parts_positive ts in let j = own_or_parts h ts in omega arith

  pub parts_positive : (ts : Tys) → parts ts ≤ nodes_in ts
  parts_positive none = omega arith
  parts_positive (more t ts) = let i = nodes_positive t in let j = parts_positive ts in omega arith

known_two : (t : Ty) → is_known_layer t ≡ true → 2 ≤ nodes t
known_two (var x) e = absurd (cc)
known_two (app h.StateT ts) e = let i = parts_positive ts in let j = is_same _ _ e in omega arith
known_two (app h.ReT ts) e = let i = parts_positive ts in let j = is_same _ _ e in omega arith
known_two (app _ ts) e = absurd (cc)

pub parts_apply : (s : ℕ → Ty) (ts : Tys) → parts (apply_in s ts) ≡ parts ts
parts_apply s none = refl
parts_apply s (more t ts) = ap suc (parts_apply s ts)

known_apply : (s : ℕ → Ty) (h : Head) (ts : Tys) → is_known_layer (app h (apply_in s ts)) ≡ is_known_layer (app h ts)
known_apply s h.StateT ts = ap (λ n. nat_eq n 1) (parts_apply s ts)
known_apply s h.ReT ts = ap (λ n. nat_eq n 2) (parts_apply s ts)
known_apply s _ ts = refl

own_known_or : (l : Ty) (ms : Tys) → (is_known_layer l ≡ true) ⊎ (own h.Layer (more l ms) ≡ 1)
own_known_or l ms = elim (true_or_false (is_known_layer l)) [
  | inl e ↦ inl e
  | inr e ↦ inr (rw e refl)
]

own_most : (h : Head) (ts : Tys) → own h ts ≤ 1
own_most h none = let e = own_none h in omega arith
own_most h.Layer (more t ts) = elim (is_known_layer t && nat_eq (parts ts) 1) as (λ b. cond b 0 1 ≤ 1) [ true ↦ omega arith | false ↦ omega arith ]
own_most _ (more t ts) = omega arith

pub own_apply : (s : ℕ → Ty) (k : Head) (us ts : Tys) → own h.Layer (more (app k (apply_in s us)) (apply_in s ts)) ≡ own h.Layer (more (app k us) ts)
own_apply s k us ts = rw (known_apply s k us, parts_apply s ts) refl

own_step : (s : ℕ → Ty) (h : Head) (t : Ty) (ts : Tys) → nodes t ≤ nodes (apply s t) → nodes_in ts ≤ nodes_in (apply_in s ts)
    → nodes t + nodes_in ts + own h (more t ts) ≤ nodes (apply s t) + nodes_in (apply_in s ts) + own h (more (apply s t) (apply_in s ts))
own_step s h.Layer (var x) ts i j = elim (own_known_or (s x) (apply_in s ts)) [
  | inl e ↦ let two = known_two (s x) e in omega arith
  | inr e ↦ omega arith
]
own_step s h.Layer (app k us) ts i j = let e = own_apply s k us ts in omega arith
own_step s _ t ts i j = omega arith

-- an instance never has fewer nodes
mutual
  pub instance_grows : (s : ℕ → Ty) (t : Ty) → nodes t ≤ nodes (apply s t)
  instance_grows s (var x) = nodes_positive (s x)
  instance_grows s (app h ts) = (parts_grow s ts).1 h

  pub parts_grow : (s : ℕ → Ty) (ts : Tys) → (nodes_in ts ≤ nodes_in (apply_in s ts)) × ((h : Head) → nodes_in ts + own h ts ≤ nodes_in (apply_in s ts) + own h (apply_in s ts))
  parts_grow s none = (omega arith, λ h. omega arith)
  parts_grow s (more t ts) = let i = instance_grows s t in let j = (parts_grow s ts).0 in (omega arith, λ h. own_step s h t ts i j)

-- sizes
two_with : (n : ℕ) (b : Bool) → (b ≡ true → n ≡ 1) → 2 ≤ suc n + cond b 0 1 + cond b 0 1
two_with n true h = let one = h refl in omega arith
two_with n false h = omega arith

own_two : (h : Head) (ts : Tys) → 2 ≤ parts ts + own h ts + own h ts
own_two h none = let e = own_none h in omega arith
own_two h.Layer (more t ts) = two_with (parts ts) (is_known_layer t && nat_eq (parts ts) 1) (λ e. is_same _ _ (both_last _ _ e))
own_two _ (more t ts) = omega arith

mutual
  pub size_bound : (t : Ty) → size t + 1 ≤ nodes t + nodes t
  size_bound (var x) = omega arith
  size_bound (app h ts) = let i = size_bound_in ts in let j = own_two h ts in omega arith

  pub size_bound_in : (ts : Tys) → size_in ts + parts ts ≤ nodes_in ts + nodes_in ts
  size_bound_in none = omega arith
  size_bound_in (more t ts) = let i = size_bound t in let j = size_bound_in ts in omega arith

pub size_positive : (t : Ty) → 1 ≤ size t
size_positive (var x) = omega arith
size_positive (app h ts) = omega arith

mutual
  pub size_grows : (s : ℕ → Ty) (t : Ty) → size t ≤ size (apply s t)
  size_grows s (var x) = size_positive (s x)
  size_grows s (app h ts) = let i = size_grows_in s ts in omega arith

  pub size_grows_in : (s : ℕ → Ty) (ts : Tys) → size_in ts ≤ size_in (apply_in s ts)
  size_grows_in s none = omega arith
  size_grows_in s (more t ts) = let i = size_grows s t in let j = size_grows_in s ts in omega arith

-- composition
mutual
  pub compose : (r s : ℕ → Ty) (t : Ty) → apply r (apply s t) ≡ apply (after r s) t
  compose r s (var x) = refl
  compose r s (app h ts) = ap (app h) (compose_in r s ts)

  pub compose_in : (r s : ℕ → Ty) (ts : Tys) → apply_in r (apply_in s ts) ≡ apply_in (after r s) ts
  compose_in r s none = refl
  compose_in r s (more t ts) = let a = compose r s t in let b = compose_in r s ts in cc

-- only what a substitution does to the variables of a type counts
mutual
  pub alike : (r s : ℕ → Ty) (t : Ty) → ((x : ℕ) → occurs x t ≡ true → r x ≡ s x) → apply r t ≡ apply s t
  alike r s (var x) h = h x (grind (arith, nat_tests))
  alike r s (app k ts) h = ap (app k) (alike_in r s ts h)

  pub alike_in : (r s : ℕ → Ty) (ts : Tys) → ((x : ℕ) → occurs_in x ts ≡ true → r x ≡ s x) → apply_in r ts ≡ apply_in s ts
  alike_in r s none h = refl
  alike_in r s (more t ts) h =
      let a = alike r s t (λ x e. h x (rw e refl)) in
      let b = alike_in r s ts (λ x e. h x (or_right (occurs x t) (occurs_in x ts) e)) in cc

pub alike_all : (r s : ℕ → Ty) (t : Ty) → ((x : ℕ) → r x ≡ s x) → apply r t ≡ apply s t
alike_all r s t h = alike r s t (λ x e. h x)

-- the substitution that leaves each variable
mutual
  pub stays : (t : Ty) → apply var t ≡ t
  stays (var x) = refl
  stays (app h ts) = ap (app h) (stays_in ts)

  pub stays_in : (ts : Tys) → apply_in var ts ≡ ts
  stays_in none = refl
  stays_in (more t ts) = let a = stays t in let b = stays_in ts in cc

single_other : (x : ℕ) (u : Ty) (y : ℕ) → nat_eq x y ≡ false → single x u y ≡ var y
single_other x u y e = rw e refl

pub single_there : (x : ℕ) (u : Ty) → single x u x ≡ u
single_there x u = rw (itself x) refl

differ_here : (x y : ℕ) (t : Ty) → occurs x t ≡ false → occurs y t ≡ true → nat_eq x y ≡ false
differ_here x y t a b = elim (true_or_false (nat_eq x y)) [
  | inl e ↦ let same = is_same x y e in absurd (cc)
  | inr e ↦ e
]

-- a variable that does not occur is not replaced
pub not_there : (x : ℕ) (u t : Ty) → occurs x t ≡ false → apply (single x u) t ≡ t
not_there x u t h = alike (single x u) var t (λ y e. single_other x u y (differ_here x y t h e)) ∙ stays t

-- a variable is no larger than what it occurs in, under each substitution
mutual
  pub inside : (s : ℕ → Ty) (x : ℕ) (t : Ty) → occurs x t ≡ true → size (s x) ≤ size (apply s t)
  inside s x (var y) e = let same = is_same x y e in rw same (omega arith)
  inside s x (app h ts) e = let i = inside_in s x ts e in omega arith

  pub inside_in : (s : ℕ → Ty) (x : ℕ) (ts : Tys) → occurs_in x ts ≡ true → size (s x) ≤ size_in (apply_in s ts)
  inside_in s x none e = absurd (cc)
  inside_in s x (more t ts) e = elim (either _ _ e) [
    | inl a ↦ let i = inside s x t a in omega arith
    | inr b ↦ let i = inside_in s x ts b in omega arith
  ]

-- the occurs check
pub endless : (s : ℕ → Ty) (x : ℕ) (h : Head) (ts : Tys) → occurs_in x ts ≡ true → s x ≡ apply s (app h ts) → ⊥
endless s x h ts e same =
    let i = inside_in s x ts e in let n : size (s x) ≡ suc (size_in (apply_in s ts)) = ap size same in omega arith
