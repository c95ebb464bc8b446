-- A type by its head: what it is at a kind is told by the head, and by the arguments at the kinds that the head takes.
use Rattle.std.proofs.Common.{◌≡◌, suc, ◌-◌, Bool, true, false, ◌||◌, List, [], ◌∷◌, ◌++◌, append-nil, append_assoc, length, take, drop, Option, Some, None, refl, sym, ap, ◌∙◌, if◌then◌else◌}
use Rattle.rw_tree.specs.declared.types.Kind.{Kind}
use Rattle.rw_tree.specs.declared.types.Kind.TheVariants.{Plain, StateMonad, Monad}
use Rattle.rw_tree.specs.Types.{WrittenType, WrittenTypes, variable_type, constructor_type, applied_type, function_type, tuple_type, no_types, more_types}
use Rattle.rw_scope_rules.specs.Names.{Bytes}
use Rattle.rw_scope_rules.specs.Kinds.{Uses, both, at_kinds, all_plain, variable_uses, constructor_uses, whole_type, uses_of, parts_uses}
use Rattle.rw_scope_uses.specs.Spine.{PlainHead, variable_head, constructor_head, other_head, head_of, has_types, is_applied, count_types, variable_kind, variable_takes, none_left, inner_uses, IsPlanned}
use Rattle.rw_scope_uses.proofs.Joining.{both_assoc, both_nothing, nothing_both, both_none, split_kinds}

abbrev has_some : List (Kind → Uses) → Bool
has_some [] = false
has_some (a ∷ as_) = true

some_append : (as_ ps : List (Kind → Uses)) → has_some (as_ ++ ps) ≡ (has_some ps || has_some as_)
some_append [] [] = refl
some_append [] (p ∷ ps) = refl
some_append (a ∷ as_) [] = refl
some_append (a ∷ as_) (p ∷ ps) = refl

-- a variable and its arguments
variable_some : (x : Bytes) (as_ : List (Kind → Uses)) (kind k : Kind) → variable_kind (has_some as_) kind ≡ Some k
    → variable_uses x as_ kind ≡ both (Some ((x, k) ∷ [])) (at_kinds as_ (variable_takes (has_some as_)))
variable_some x [] Plain k h = let e : Plain ≡ k = cc in ap (λ z. Some ((x, z) ∷ [])) e
variable_some x [] StateMonad k h = let e : StateMonad ≡ k = cc in ap (λ z. Some ((x, z) ∷ [])) e
variable_some x [] Monad k h = absurd (cc)
variable_some x (a ∷ []) Plain k h =
    let e : Monad ≡ k = cc in
    ap (λ z. both (Some ((x, z) ∷ [])) (a Plain)) e ∙ ap (both (Some ((x, k) ∷ []))) (sym (both_nothing (a Plain)))
variable_some x (a ∷ b ∷ as_) Plain k h = sym (ap (both (Some ((x, k) ∷ []))) (both_none (a Plain)))
variable_some x (a ∷ as_) StateMonad k h = absurd (cc)
variable_some x (a ∷ as_) Monad k h = absurd (cc)

variable_none : (x : Bytes) (as_ : List (Kind → Uses)) (kind : Kind) → variable_kind (has_some as_) kind ≡ None → variable_uses x as_ kind ≡ None
variable_none x [] Plain h = absurd (cc)
variable_none x [] StateMonad h = absurd (cc)
variable_none x [] Monad h = refl
variable_none x (a ∷ as_) Plain h = absurd (cc)
variable_none x (a ∷ []) StateMonad h = refl
variable_none x (a ∷ []) Monad h = refl
variable_none x (a ∷ b ∷ as_) StateMonad h = refl
variable_none x (a ∷ b ∷ as_) Monad h = refl

whole_none : (as_ : List (Kind → Uses)) (kind : Kind) → whole_type as_ kind None ≡ None
whole_none [] Plain = refl
whole_none [] StateMonad = refl
whole_none [] Monad = refl
whole_none (a ∷ as_) kind = refl

none_at_all : (kinds : List Kind) (a : Uses) → none_left kinds a ≡ both a (at_kinds [] kinds)
none_at_all [] a = sym (both_nothing a)
none_at_all (k ∷ ks) a = sym (both_none a)

module _ (takes : Bytes → Kind → Option (List Kind)) (arrows : Bool) where
  -- the arguments of a type, and what stands in its head
  abbrev spine_arguments : WrittenType → List (Kind → Uses)
  spine_arguments (variable_type x) = []
  spine_arguments (constructor_type c) = []
  spine_arguments (applied_type t parts) = spine_arguments t ++ parts_uses takes arrows parts
  spine_arguments (function_type from to) = []
  spine_arguments (tuple_type parts) = []

  abbrev head_part : WrittenType → Uses
  head_part (variable_type x) = Some []
  head_part (constructor_type c) = Some []
  head_part (applied_type t parts) = head_part t
  head_part (function_type from to) = if arrows then both (uses_of takes arrows from [] Plain) (uses_of takes arrows to [] Plain) else None
  head_part (tuple_type parts) = all_plain (parts_uses takes arrows parts)

  count_uses : (parts : WrittenTypes) → length (parts_uses takes arrows parts) ≡ count_types parts
  count_uses no_types = refl
  count_uses (more_types t ts) = ap suc (count_uses ts)

  inner_split : (t : WrittenType) (kinds : List Kind) → inner_uses takes arrows t kinds ≡ both (head_part t) (at_kinds (spine_arguments t) kinds)
  inner_split (variable_type x) kinds = none_at_all kinds (Some [])
  inner_split (constructor_type c) kinds = none_at_all kinds (Some [])
  inner_split (applied_type t parts) kinds =
      let n = length kinds - count_types parts in
      let ps = parts_uses takes arrows parts in
      ap (λ u. both u (at_kinds ps (drop n kinds))) (inner_split t (take n kinds))
      ∙ both_assoc (head_part t) (at_kinds (spine_arguments t) (take n kinds)) (at_kinds ps (drop n kinds))
      ∙ ap (both (head_part t)) (ap (λ m. both (at_kinds (spine_arguments t) (take (length kinds - m) kinds)) (at_kinds ps (drop (length kinds - m) kinds))) (sym (count_uses parts))
      ∙ split_kinds (spine_arguments t) ps kinds)
  inner_split (function_type from to) kinds = none_at_all kinds (head_part (function_type from to))
  inner_split (tuple_type parts) kinds = none_at_all kinds (head_part (tuple_type parts))

  abbrev from_head : PlainHead → Uses → List (Kind → Uses) → Kind → Uses
  from_head (variable_head x) inner as_ kind = variable_uses x as_ kind
  from_head (constructor_head c) inner as_ kind = constructor_uses (takes c kind) as_
  from_head other_head inner as_ kind = whole_type as_ kind inner

  by_head : (t : WrittenType) (as_ : List (Kind → Uses)) (kind : Kind) → uses_of takes arrows t as_ kind ≡ from_head (head_of t) (head_part t) (spine_arguments t ++ as_) kind
  by_head (variable_type x) as_ kind = refl
  by_head (constructor_type c) as_ kind = refl
  by_head (applied_type t parts) as_ kind =
      by_head t (parts_uses takes arrows parts ++ as_) kind
      ∙ ap (λ bs. from_head (head_of t) (head_part t) bs kind) (sym (append_assoc (spine_arguments t) (parts_uses takes arrows parts) as_))
  by_head (function_type from to) as_ kind = by arrows refl
    where
      by : (b : Bool) → arrows ≡ b
          → (if b then whole_type as_ kind (both (uses_of takes arrows from [] Plain) (uses_of takes arrows to [] Plain)) else None)
          ≡ whole_type as_ kind (if b then both (uses_of takes arrows from [] Plain) (uses_of takes arrows to [] Plain) else None)
      by true e = refl
      by false e = sym (whole_none as_ kind)
  by_head (tuple_type parts) as_ kind = refl

  -- the same of a type that has no further arguments
  alone : (t : WrittenType) (h : PlainHead) (kind : Kind) → head_of t ≡ h → uses_of takes arrows t [] kind ≡ from_head h (head_part t) (spine_arguments t) kind
  alone t h kind e = by_head t [] kind ∙ ap (λ as_. from_head (head_of t) (head_part t) as_ kind) (append-nil (spine_arguments t)) ∙ ap (λ g. from_head g (head_part t) (spine_arguments t) kind) e

  some_parts : (parts : WrittenTypes) → has_some (parts_uses takes arrows parts) ≡ has_types parts
  some_parts no_types = refl
  some_parts (more_types t ts) = refl

  some_arguments : (t : WrittenType) → has_some (spine_arguments t) ≡ is_applied t
  some_arguments (variable_type x) = refl
  some_arguments (constructor_type c) = refl
  some_arguments (applied_type t parts) =
      some_append (spine_arguments t) (parts_uses takes arrows parts) ∙ ap (λ b. b || has_some (spine_arguments t)) (some_parts parts) ∙ ap (λ b. has_types parts || b) (some_arguments t)
  some_arguments (function_type from to) = refl
  some_arguments (tuple_type parts) = refl

  -- a name at the head has nothing in it
  abbrev named : PlainHead → Bool
  named (variable_head x) = true
  named (constructor_head c) = true
  named other_head = false

  no_head_part : (t : WrittenType) → named (head_of t) ≡ true → head_part t ≡ Some []
  no_head_part (variable_type x) h = refl
  no_head_part (constructor_type c) h = refl
  no_head_part (applied_type t parts) h = no_head_part t h
  no_head_part (function_type from to) h = absurd (cc)
  no_head_part (tuple_type parts) h = absurd (cc)

  inner_named : (t : WrittenType) (kinds : List Kind) → named (head_of t) ≡ true → inner_uses takes arrows t kinds ≡ at_kinds (spine_arguments t) kinds
  inner_named t kinds h = inner_split t kinds ∙ ap (λ u. both u (at_kinds (spine_arguments t) kinds)) (no_head_part t h) ∙ nothing_both (at_kinds (spine_arguments t) kinds)

  -- the four ways to plan
  pub planned_constructor : (t : WrittenType) (c : Bytes) (kind : Kind) (found : Option (List Kind)) (uses : List (Bytes × Kind)) → head_of t ≡ constructor_head c → found ≡ takes c kind
      → IsPlanned takes arrows t kind found uses uses
  planned_constructor t c kind None uses h e = alone t (constructor_head c) kind h ∙ ap (λ f. constructor_uses f (spine_arguments t)) (sym e)
  planned_constructor t c kind (Some kinds) uses h e =
      ap (both (Some uses)) (alone t (constructor_head c) kind h ∙ ap (λ f. constructor_uses f (spine_arguments t)) (sym e) ∙ sym (inner_named t kinds (ap named h)))

  pub planned_variable : (t : WrittenType) (x : Bytes) (kind k : Kind) (applied : Bool) (kinds : List Kind) (old new : List (Bytes × Kind)) → head_of t ≡ variable_head x → applied ≡ is_applied t
      → Some k ≡ variable_kind applied kind → kinds ≡ variable_takes applied → new ≡ old ++ (x, k) ∷ []
      → IsPlanned takes arrows t kind (Some kinds) old new
  planned_variable t x kind k applied kinds old new h app e ks more =
      let same : has_some (spine_arguments t) ≡ applied = some_arguments t ∙ sym app in
      ap (both (Some old)) (alone t (variable_head x) kind h ∙ variable_some x (spine_arguments t) kind k (ap (λ b. variable_kind b kind) same ∙ sym e))
      ∙ sym (both_assoc (Some old) (Some ((x, k) ∷ [])) (at_kinds (spine_arguments t) (variable_takes (has_some (spine_arguments t)))))
      ∙ ap (λ us. both (Some us) (at_kinds (spine_arguments t) (variable_takes (has_some (spine_arguments t))))) (sym more)
      ∙ ap (both (Some new)) (ap (at_kinds (spine_arguments t)) (ap variable_takes same ∙ sym ks) ∙ sym (inner_named t kinds (ap named h)))

  pub misplanned_variable : (t : WrittenType) (x : Bytes) (kind : Kind) (applied : Bool) → head_of t ≡ variable_head x → applied ≡ is_applied t → None ≡ variable_kind applied kind
      → uses_of takes arrows t [] kind ≡ None
  misplanned_variable t x kind applied h app e =
      let same : has_some (spine_arguments t) ≡ applied = some_arguments t ∙ sym app in
      alone t (variable_head x) kind h ∙ variable_none x (spine_arguments t) kind (ap (λ b. variable_kind b kind) same ∙ sym e)

  no_arguments : (as_ : List (Kind → Uses)) → has_some as_ ≡ false → as_ ≡ []
  no_arguments [] h = refl
  no_arguments (a ∷ as_) h = absurd (cc)

  pub planned_other : (t : WrittenType) (kinds : List Kind) (uses : List (Bytes × Kind)) → head_of t ≡ other_head → false ≡ is_applied t → kinds ≡ []
      → IsPlanned takes arrows t Plain (Some kinds) uses uses
  planned_other t kinds uses h app ks =
      let none : spine_arguments t ≡ [] = no_arguments (spine_arguments t) (some_arguments t ∙ sym app) in
      ap (both (Some uses)) (alone t other_head Plain h ∙ ap (λ as_. whole_type as_ Plain (head_part t)) none
      ∙ sym (inner_split t kinds ∙ ap (λ as_. both (head_part t) (at_kinds as_ kinds)) none ∙ ap (λ l. both (head_part t) (at_kinds [] l)) ks ∙ both_nothing (head_part t)))

  whole_applied : (as_ : List (Kind → Uses)) (kind : Kind) (u : Uses) → has_some as_ ≡ true → whole_type as_ kind u ≡ None
  whole_applied [] kind u h = absurd (cc)
  whole_applied (a ∷ as_) kind u h = refl

  pub applied_other : (t : WrittenType) (kind : Kind) → head_of t ≡ other_head → true ≡ is_applied t → uses_of takes arrows t [] kind ≡ None
  applied_other t kind h app = alone t other_head kind h ∙ whole_applied (spine_arguments t) kind (head_part t) (some_arguments t ∙ sym app)

  whole_state : (as_ : List (Kind → Uses)) (u : Uses) → whole_type as_ StateMonad u ≡ None
  whole_state [] u = refl
  whole_state (a ∷ as_) u = refl

  whole_monad : (as_ : List (Kind → Uses)) (u : Uses) → whole_type as_ Monad u ≡ None
  whole_monad [] u = refl
  whole_monad (a ∷ as_) u = refl

  pub state_other : (t : WrittenType) → head_of t ≡ other_head → uses_of takes arrows t [] StateMonad ≡ None
  state_other t h = alone t other_head StateMonad h ∙ whole_state (spine_arguments t) (head_part t)

  pub monad_other : (t : WrittenType) → head_of t ≡ other_head → uses_of takes arrows t [] Monad ≡ None
  monad_other t h = alone t other_head Monad h ∙ whole_monad (spine_arguments t) (head_part t)
