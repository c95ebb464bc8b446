-- Uses agree two by two exactly where each agrees with the first one of its name.
use Rattle.std.proofs.Common.{◌≡◌, ◌⊎◌, inl, inr, Bool, true, false, not, ◌&&◌, ◌||◌, List, [], ◌∷◌, ◌++◌, append-nil, append_assoc, Option, Some, None, refl, sym, ap, ◌∙◌, if◌then◌else◌}
use Rattle.std.specs.List.{list_all}
use Rattle.rw_tree.specs.declared.types.Kind.{Kind}
use Rattle.rw_tree.specs.declared.types.Kind.TheVariants.{Plain, StateMonad, Monad}
use Rattle.rw_scope_rules.specs.Names.{Bytes, same_name, first_named}
use Rattle.rw_scope_rules.specs.Kinds.{kinds_agree, uses_agree}
use Rattle.rw_scope_kinds.specs.Agreeing.{agrees_with, agree_after}
use Rattle.rw_scope_rules.proofs.Basics.{true_or_false, clash, one_name, same_is, swapped, In, in_front, in_back, in_parts}
use Rattle.rw_scope_kinds.proofs.Basics.{all_of, all_if, none_all}

abbrev Use : Type 0
Use = Bytes × Kind

abbrev pub all_pairs : List Use → Bool
all_pairs us = list_all (λ u. list_all (uses_agree u) us) us

-- agreeing is an equivalence
agree_itself : (k : Kind) → kinds_agree k k ≡ true
agree_itself Plain = refl
agree_itself StateMonad = refl
agree_itself Monad = refl

agree_swapped : (k l : Kind) → kinds_agree k l ≡ kinds_agree l k
agree_swapped Plain Plain = refl
agree_swapped Plain StateMonad = refl
agree_swapped Plain Monad = refl
agree_swapped StateMonad Plain = refl
agree_swapped StateMonad StateMonad = refl
agree_swapped StateMonad Monad = refl
agree_swapped Monad Plain = refl
agree_swapped Monad StateMonad = refl
agree_swapped Monad Monad = refl

abbrev is_type : Kind → Bool
is_type Plain = true
is_type StateMonad = false
is_type Monad = false

agree_alike : (k l : Kind) → kinds_agree k l ≡ true → is_type k ≡ is_type l
agree_alike Plain Plain h = refl
agree_alike Plain StateMonad h = absurd (cc)
agree_alike Plain Monad h = absurd (cc)
agree_alike StateMonad Plain h = absurd (cc)
agree_alike StateMonad StateMonad h = refl
agree_alike StateMonad Monad h = refl
agree_alike Monad Plain h = absurd (cc)
agree_alike Monad StateMonad h = refl
agree_alike Monad Monad h = refl

alike_agree : (k l : Kind) → is_type k ≡ is_type l → kinds_agree k l ≡ true
alike_agree Plain Plain h = refl
alike_agree Plain StateMonad h = absurd (cc)
alike_agree Plain Monad h = absurd (cc)
alike_agree StateMonad Plain h = absurd (cc)
alike_agree StateMonad StateMonad h = refl
alike_agree StateMonad Monad h = refl
alike_agree Monad Plain h = absurd (cc)
alike_agree Monad StateMonad h = refl
alike_agree Monad Monad h = refl

agree_along : (k l m : Kind) → kinds_agree k l ≡ true → kinds_agree l m ≡ true → kinds_agree k m ≡ true
agree_along k l m h g = alike_agree k m (agree_alike k l h ∙ agree_alike l m g)

-- what two uses that agree say
of_one_name : (u v : Use) → uses_agree u v ≡ true → same_name u.0 v.0 ≡ true → kinds_agree u.1 v.1 ≡ true
of_one_name u v h s = sym (ap (λ b. not b || kinds_agree u.1 v.1) s) ∙ h

agree_if : (u v : Use) → (same_name u.0 v.0 ≡ true → kinds_agree u.1 v.1 ≡ true) → uses_agree u v ≡ true
agree_if u v h = elim (true_or_false (same_name u.0 v.0)) [
  | inl s ↦ ap (λ b. not b || kinds_agree u.1 v.1) s ∙ h s
  | inr s ↦ ap (λ b. not b || kinds_agree u.1 v.1) s
]

-- the first use of a name
first_is_in : (x : Bytes) (us : List Use) (k : Kind) → first_named x us ≡ Some k → (u : Use) × In u us × (same_name x u.0 ≡ true) × (u.1 ≡ k)
first_is_in x [] k h = absurd (cc)
first_is_in x (u ∷ us) k h = elim (true_or_false (same_name x u.0)) [
  | inl s ↦ let e : Some u.1 ≡ Some k = sym (ap (λ b. if b then Some u.1 else first_named x us) s) ∙ h in let f : u.1 ≡ k = cc in (u, inl refl, s, f)
  | inr s ↦ let r = first_is_in x us k (sym (ap (λ b. if b then Some u.1 else first_named x us) s) ∙ h) in (r.0, inr r.1, r.2, r.3)
]

no_first : (x : Bytes) (us : List Use) → first_named x us ≡ None → (u : Use) → In u us → same_name x u.0 ≡ false
no_first x [] h u i = absurd i
no_first x (v ∷ vs) h u i = elim (true_or_false (same_name x v.0)) [
  | inl s ↦ let e : Some v.1 ≡ None = sym (ap (λ b. if b then Some v.1 else first_named x vs) s) ∙ h in absurd (cc)
  | inr s ↦ elim i [
    | inl e ↦ ap (λ (w : Use). same_name x w.0) e ∙ s
    | inr r ↦ no_first x vs (sym (ap (λ b. if b then Some v.1 else first_named x vs) s) ∙ h) u r
  ]
]

module _ (us : List Use) (all : all_pairs us ≡ true) (u : Use) where
  pair : (v w : Use) → In v us → In w us → uses_agree v w ≡ true
  pair v w i j = all_of (uses_agree v) us (all_of (λ x. list_all (uses_agree x) us) us all v i) w j

  -- one that agrees with the first agrees with each
  with_each : (r : Option Kind) → first_named u.0 us ≡ r → agrees_with r u.1 ≡ true → (v : Use) → In v us → same_name v.0 u.0 ≡ true → kinds_agree v.1 u.1 ≡ true
  with_each None e a v i s = clash (same_name v.0 u.0) s (swapped v.0 u.0 ∙ no_first u.0 us e v i)
  with_each (Some k) e a v i s =
      let f = first_is_in u.0 us k e in
      let same : same_name v.0 f.0.0 ≡ true = same_is v.0 f.0.0 (one_name v.0 u.0 s ∙ one_name u.0 f.0.0 f.2) in
      agree_along v.1 k u.1 (ap (kinds_agree v.1) (sym f.3) ∙ of_one_name v f.0 (pair v f.0 i f.1) same) a

  pub one_more : agrees_with (first_named u.0 us) u.1 ≡ true → all_pairs (us ++ u ∷ []) ≡ true
  one_more a =
      all_if (λ x. list_all (uses_agree x) (us ++ u ∷ [])) (us ++ u ∷ []) (λ v i. all_if (uses_agree v) (us ++ u ∷ []) (λ w j. by v w (in_parts v us (u ∷ []) i) (in_parts w us (u ∷ []) j)))
    where
      each : (v : Use) → In v us → same_name v.0 u.0 ≡ true → kinds_agree v.1 u.1 ≡ true
      each v i s = with_each (first_named u.0 us) refl a v i s

      is_u : (v : Use) → In v (u ∷ []) → v ≡ u
      is_u v (inl e) = e
      is_u v (inr r) = absurd r

      by : (v w : Use) → (In v us) ⊎ (In v (u ∷ [])) → (In w us) ⊎ (In w (u ∷ [])) → uses_agree v w ≡ true
      by v w (inl i) (inl j) = pair v w i j
      by v w (inl i) (inr j) = ap (uses_agree v) (is_u w j) ∙ agree_if v u (each v i)
      by v w (inr i) (inl j) =
          ap (λ x. uses_agree x w) (is_u v i) ∙ agree_if u w (λ s. agree_swapped u.1 w.1 ∙ each w j (swapped w.0 u.0 ∙ s))
      by v w (inr i) (inr j) = ap (λ x. uses_agree x w) (is_u v i) ∙ ap (uses_agree u) (is_u w j) ∙ agree_if u u (λ s. agree_itself u.1)

  pub one_wrong : (rest : List Use) → agrees_with (first_named u.0 us) u.1 ≡ false → all_pairs (us ++ u ∷ rest) ≡ false
  one_wrong rest a = by (first_named u.0 us) refl a
    where
      by : (r : Option Kind) → first_named u.0 us ≡ r → agrees_with r u.1 ≡ false → all_pairs (us ++ u ∷ rest) ≡ false
      by None e b = absurd (cc)
      by (Some k) e b =
          let f = first_is_in u.0 us k e in
          none_all (λ x. list_all (uses_agree x) (us ++ u ∷ rest)) (us ++ u ∷ rest) f.0 (in_front f.0 us (u ∷ rest) f.1)
          (none_all (uses_agree f.0) (us ++ u ∷ rest) u (in_back u us (u ∷ rest) (inl refl))
          (ap (λ c. not c || kinds_agree f.0.1 u.1) (swapped f.0.0 u.0 ∙ f.2) ∙ ap (λ l. kinds_agree l u.1) f.3 ∙ b))

agree_pairs : (us before : List Use) → all_pairs before ≡ true → agree_after before us ≡ all_pairs (before ++ us)
agree_pairs [] before h = sym (ap all_pairs (append-nil before) ∙ h)
agree_pairs (u ∷ us) before h = elim (true_or_false (agrees_with (first_named u.0 before) u.1)) [
  | inl a ↦ ap (λ b. b && agree_after (before ++ u ∷ []) us) a ∙ agree_pairs us (before ++ u ∷ []) (one_more before h u a) ∙ ap all_pairs (append_assoc before (u ∷ []) us)
  | inr a ↦ ap (λ b. b && agree_after (before ++ u ∷ []) us) a ∙ sym (one_wrong before h u us a)
]

pub agree_all : (us : List Use) → agree_after [] us ≡ all_pairs us
agree_all us = agree_pairs us [] refl
