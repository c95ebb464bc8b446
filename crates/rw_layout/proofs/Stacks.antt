-- The stack as a list: its top, its runs, its lowest opener.
use Rattle.std.proofs.Common.{◌≡◌, ℕ, suc, zero, ◌+◌, ◌-◌, ◌≤◌, List, [], ◌∷◌, ◌++◌, length, take, drop, Option, Some, None, Bool, true, false, refl, sym, ap, ◌∙◌, subst, arith, inl, inr}
use Rattle.std.specs.Prelude.{reverse, unwrap_or}
use Rattle.std.specs.List.{slice_get, prefix_len}
use Rattle.std.proofs.lemmas.Bool.{cases_lt}
use Rattle.std.proofs.lemmas.List.{reverse-append, length-reverse, take-append-drop, length-drop, drop_all}
use Rattle.std.proofs.Math.Seq.{drop-append_seam}
use Rattle.rw_base.specs.declared.place.Place.{Place}
use Rattle.rw_layout.specs.declared.entry.Opener.{Opener}
use Rattle.rw_layout.specs.declared.entry.Opener.TheVariants as o
use Rattle.rw_layout.specs.declared.entry.Entry.{Entry}
use Rattle.rw_layout.specs.declared.entry.Entry.TheVariants as e
use Rattle.rw_layout.specs.Layout.{enclosing, lowest_opener}
use Rattle.rw_layout.specs.Steps.{is_inner, column_met}

seam : {A : Type 0} (xs ys : List A) (n : ℕ) → length xs ≡ n → drop n (xs ++ ys) ≡ ys
seam xs ys n same = subst (λ m. drop m (xs ++ ys) ≡ ys) same (drop-append_seam xs ys)

whole : {A : Type 0} (k : ℕ) (xs : List A) → reverse xs ≡ reverse (drop k xs) ++ reverse (take k xs)
whole k xs = ap reverse (sym (take-append-drop k xs)) ∙ reverse-append (take k xs) (drop k xs)

-- what is left when so many entries are taken from the end
pub reverse-take : {A : Type 0} (xs : List A) (n : ℕ) → reverse (take (length xs - n) xs) ≡ drop n (reverse xs)
reverse-take xs n = elim (cases_lt (length xs) n) [
  | inl few ↦ (let none : length xs - n ≡ 0 = omega arith in
      let short : length (reverse xs) ≤ n = subst (λ m. m ≤ n) (sym (length-reverse xs)) (omega arith) in
      rw none (sym (drop_all n (reverse xs) short)))
  | inr enough ↦ (let some : length (reverse (drop (length xs - n) xs)) ≡ n = length-reverse (drop (length xs - n) xs) ∙ (length-drop (length xs - n) xs ∙ omega arith) in
      sym (ap (drop n) (whole (length xs - n) xs) ∙ seam (reverse (drop (length xs - n) xs)) (reverse (take (length xs - n) xs)) n some))
]

-- an entry, and what is under it
pub drop_get : {A : Type 0} (xs : List A) (n : ℕ) (x : A) → slice_get xs n ≡ Some x → drop n xs ≡ x ∷ drop (suc n) xs
drop_get [] n x is = absurd (cc)
drop_get (y ∷ ys) zero x is = cc
drop_get (y ∷ ys) (suc n) x is = drop_get ys n x is

pub drop_none : {A : Type 0} (xs : List A) (n : ℕ) → slice_get xs n ≡ None → drop n xs ≡ []
drop_none [] zero is = refl
drop_none [] (suc n) is = refl
drop_none (y ∷ ys) zero is = absurd (cc)
drop_none (y ∷ ys) (suc n) is = drop_none ys n is

-- a run goes on, or ends
pub run_on : {A : Type 0} (p : A → Bool) (xs : List A) (n : ℕ) (x : A) → slice_get xs n ≡ Some x → p x ≡ true → n + prefix_len p (drop n xs) ≡ n + 1 + prefix_len p (drop (n + 1) xs)
run_on p xs n x is has =
    let next : n + 1 ≡ suc n = omega arith in
    rw (drop_get xs n x is, has, next) (omega arith)

pub run_ends : {A : Type 0} (p : A → Bool) (xs : List A) (n : ℕ) (x : A) → slice_get xs n ≡ Some x → p x ≡ false → n + prefix_len p (drop n xs) ≡ n
run_ends p xs n x is has = rw (drop_get xs n x is, has) (omega arith)

pub run_past : {A : Type 0} (p : A → Bool) (xs : List A) (n : ℕ) → slice_get xs n ≡ None → n + prefix_len p (drop n xs) ≡ n
run_past p xs n is = rw (drop_none xs n is) (omega arith)

one_more : (n : ℕ) → 1 + n ≡ suc n
one_more n = omega arith

pub enclosing_run : (stack : List Entry) → enclosing stack ≡ column_met (slice_get stack (prefix_len is_inner stack))
enclosing_run [] = refl
enclosing_run (e.Block n of_let ∷ stack) = refl
enclosing_run (e.Open o.Brace at ∷ stack) = refl
enclosing_run (e.Open o.LetBrace at ∷ stack) = refl
enclosing_run (e.Open o.Paren at ∷ stack) = rw (one_more (prefix_len is_inner stack)) (enclosing_run stack)
enclosing_run (e.Open o.Case at ∷ stack) = rw (one_more (prefix_len is_inner stack)) (enclosing_run stack)
enclosing_run (e.Open o.If at ∷ stack) = rw (one_more (prefix_len is_inner stack)) (enclosing_run stack)
enclosing_run (e.Open o.Then at ∷ stack) = rw (one_more (prefix_len is_inner stack)) (enclosing_run stack)

abbrev pub or_else : Option Place → Option Place → Option Place
or_else None other = other
or_else (Some at) other = Some at

pub lowest-append : (xs ys : List Entry) → lowest_opener (xs ++ ys) ≡ or_else (lowest_opener ys) (lowest_opener xs)
lowest-append [] ys = elim (lowest_opener ys) as (λ v. v ≡ or_else v None) [ None ↦ refl | Some at ↦ refl ]
lowest-append (e.Block n of_let ∷ xs) ys = lowest-append xs ys
lowest-append (e.Open opener at ∷ xs) ys = ap (λ v. Some (unwrap_or v at)) (lowest-append xs ys) ∙ elim (lowest_opener ys) as (λ v. Some (unwrap_or (or_else v (lowest_opener xs)) at) ≡ or_else v (Some (unwrap_or (lowest_opener xs) at))) [ None ↦ refl | Some low ↦ refl ]

-- the lowest opener is the first from the other end
pub lowest_first : (entries : List Entry) (i : ℕ) (opener : Opener) (at : Place) → lowest_opener (reverse (take i entries)) ≡ None → drop i entries ≡ e.Open opener at ∷ drop (suc i) entries → lowest_opener (reverse entries) ≡ Some at
lowest_first entries i opener at none here =
    let parts : reverse entries ≡ (reverse (drop (suc i) entries) ++ (e.Open opener at ∷ [])) ++ reverse (take i entries) = whole i entries ∙ ap (λ es. es ++ reverse (take i entries)) (ap reverse here ∙ reverse-append (e.Open opener at ∷ []) (drop (suc i) entries)) in
    ap lowest_opener parts ∙ (lowest-append (reverse (drop (suc i) entries) ++ (e.Open opener at ∷ [])) (reverse (take i entries))
    ∙ (ap (λ v. or_else v (lowest_opener (reverse (drop (suc i) entries) ++ (e.Open opener at ∷ [])))) none ∙ lowest-append (reverse (drop (suc i) entries)) (e.Open opener at ∷ [])))
