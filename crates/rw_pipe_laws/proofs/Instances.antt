-- One default typing of each declaration, and one list of instances, or one first that is too much.
use Rattle.std.proofs.Common.{◌≡◌, ◌∙◌, refl, sym, ap, subst, arith, ℕ, zero, suc, ◌+◌, ◌-◌, ◌<◌, ◌≤◌, List, [], ◌∷◌, ◌++◌, slice_get, Option, Some, Ok, Err, inl, inr, ◌⊎◌, ⊎_elim}
use Rattle.rw_base.specs.declared.place.Span.{Span}
use Rattle.rw_base.specs.declared.rule.Rule.TheVariants.{E17}
use Rattle.rw_tree.specs.Declarations.{Declaration, PlainProgram}
use Rattle.rw_scope_rules.specs.declared.binding.Bound.{Bound}
use Rattle.rw_scope_rules.specs.Bindings.{bound_program}
use Rattle.rw_types_rules.specs.Schemes.{World}
use Rattle.rw_types_rules.specs.TypedTrees.{TypedNode}
use Rattle.rw_types_rules.specs.Typings.{IsDefault}
use Rattle.rw_types.specs.Inferred.{AreDefault}
use Rattle.specialise_rules.specs.Instances.{Instance, first_instances, next_instance}
use Rattle.specialise_rules.specs.Limits.{most_instances, AreInstances, IsFirstTooMuch}
use Rattle.specialise_laws.proofs.Listing.{grows, stays}
use Rattle.rw_front.specs.Stages.{IsExactAt}
use Rattle.rw_front.specs.Verdict.{reported}
use Rattle.rw_pipe_rules.specs.Verdict.{TypedProgram, HasTypes, world_in, InstancedProgram, HasInstances, place_of_instance}

pub in_order : (n m : ℕ) → (n < m) ⊎ ((m < n) ⊎ (n ≡ m))
in_order zero zero = inr (inr refl)
in_order zero (suc m) = inl (omega arith)
in_order (suc n) zero = inr (inl (omega arith))
in_order (suc n) (suc m) = higher n m (in_order n m)
  where
    higher : (n m : ℕ) → (n < m) ⊎ ((m < n) ⊎ (n ≡ m)) → (suc n < suc m) ⊎ ((suc m < suc n) ⊎ (suc n ≡ suc m))
    higher n m (inl h) = inl (omega arith)
    higher n m (inr (inl h)) = inr (inl (omega arith))
    higher n m (inr (inr h)) = inr (inr (ap suc h))

-- == Types ==

abbrev pub OneDefault : Type 0
OneDefault = (world : World) (d : Declaration Bound) (one other : Declaration TypedNode) → IsDefault world d one → IsDefault world d other → one ≡ other

module _ (once : OneDefault) (world : World) where
  same_typings : (ds : List (Declaration Bound)) (one other : List (Declaration TypedNode)) → AreDefault world ds one → AreDefault world ds other → one ≡ other
  same_typings [] [] [] h k = refl
  same_typings [] [] (y ∷ ys) h k = absurd k
  same_typings [] (x ∷ xs) ys h k = absurd h
  same_typings (d ∷ ds) [] ys h k = absurd h
  same_typings (d ∷ ds) (x ∷ xs) [] h k = absurd k
  same_typings (d ∷ ds) (x ∷ xs) (y ∷ ys) h k = ap (λ z. z ∷ xs) (once world d x y h.0 k.0) ∙ ap (λ z. y ∷ z) (same_typings ds xs ys h.1 k.1)

abbrev typed_of : PlainProgram Span → List (Declaration TypedNode) → TypedProgram
typed_of program typed = record { program = program; typed = typed }

pub types_exact : OneDefault → (program : PlainProgram Span) → IsExactAt HasTypes program
types_exact once program (Ok x) (Ok y) h k =
    ap Ok (ap (λ z. typed_of z x.typed) (h.0 ∙ sym k.0) ∙ ap (typed_of y.program) (same_typings once (world_in program) (bound_program program).declarations x.typed y.typed h.1 k.1))
types_exact once program (Ok x) (Err r) h k = absurd k
types_exact once program (Err r) y h k = absurd h

-- == Instances ==

slice_get-front : {X : Type 0} (xs ys : List X) (n : ℕ) (x : X) → slice_get xs n ≡ Some x → slice_get (xs ++ ys) n ≡ Some x
slice_get-front [] ys zero x h = absurd (cc)
slice_get-front [] ys (suc n) x h = absurd (cc)
slice_get-front (y ∷ xs) ys zero x h = h
slice_get-front (y ∷ xs) ys (suc n) x h = slice_get-front xs ys n x h

pub same_held : {A : Type 0} (x : Option A) (a b : A) → x ≡ Some a → x ≡ Some b → a ≡ b
same_held x a b e h = cc

module _ (world : World) (typed : List (Declaration TypedNode)) where
  -- what is listed within some number is listed in the whole list
  listed_in : (list : List Instance) (n : ℕ) (i : Instance) → AreInstances world typed list → slice_get (first_instances typed (suc n)) n ≡ Some i → slice_get list n ≡ Some i
  listed_in list n i a e = ⊎_elim (λ (l : suc n ≤ most_instances). within l) (λ (l : most_instances ≤ suc n). behind l) either
    where
      by_order : (n < most_instances) ⊎ ((most_instances < n) ⊎ (n ≡ most_instances)) → (suc n ≤ most_instances) ⊎ (most_instances ≤ suc n)
      by_order (inl h) = inl (omega arith)
      by_order (inr (inl h)) = inr (omega arith)
      by_order (inr (inr h)) = inr (omega arith)

      either : (suc n ≤ most_instances) ⊎ (most_instances ≤ suc n)
      either = by_order (in_order n most_instances)

      within : suc n ≤ most_instances → slice_get list n ≡ Some i
      within l =
          let k : suc n + (most_instances - suc n) ≡ most_instances = omega arith in
          let more = grows typed (suc n) (most_instances - suc n) in
          let whole : list ≡ first_instances typed (suc n) ++ more.0 = a.listed ∙ ap (first_instances typed) (sym k) ∙ more.1 in
          subst (λ z. slice_get z n ≡ Some i) (sym whole) (slice_get-front (first_instances typed (suc n)) more.0 n i e)

      behind : most_instances ≤ suc n → slice_get list n ≡ Some i
      behind l =
          let k : most_instances + (suc n - most_instances) ≡ suc n = omega arith in
          let same = stays typed most_instances (suc n - most_instances) (subst (λ z. next_instance typed z ≡ []) a.listed a.all) in
          let whole : first_instances typed (suc n) ≡ list = ap (first_instances typed) (sym k) ∙ same ∙ sym a.listed in
          subst (λ z. slice_get z n ≡ Some i) whole e

  pub never_both : (list : List Instance) (n : ℕ) (i : Instance) → AreInstances world typed list → IsFirstTooMuch world typed n i → ⊥
  never_both list n i a h = a.none n i (listed_in list n i a h.listed) h.much

  pub first_once : (n m : ℕ) (i j : Instance) → IsFirstTooMuch world typed n i → IsFirstTooMuch world typed m j → i ≡ j
  first_once n m i j h k = ⊎_elim (λ (l : n < m). absurd (k.first n i l h.listed h.much)) (λ other. ⊎_elim (λ (l : m < n). absurd (h.first m j l k.listed k.much)) (λ (e : n ≡ m). alike e) other) either
    where
      either : (n < m) ⊎ ((m < n) ⊎ (n ≡ m))
      either = in_order n m

      alike : n ≡ m → i ≡ j
      alike e = same_held (slice_get (first_instances typed (suc m)) m) i j (subst (λ z. slice_get (first_instances typed (suc z)) z ≡ Some i) e h.listed) k.listed

abbrev instanced_of : PlainProgram Span → List (Declaration TypedNode) → List Instance → InstancedProgram
instanced_of program typed instances = record { program = program; typed = typed; instances = instances }

pub instances_exact : (given : TypedProgram) → IsExactAt HasInstances given
instances_exact given (Ok x) (Ok y) h k =
    ap Ok (ap (λ z. instanced_of z x.typed x.instances) (h.0 ∙ sym k.0) ∙ ap (λ z. instanced_of y.program z x.instances) (h.1 ∙ sym k.1) ∙ ap (instanced_of y.program y.typed) (h.2.listed ∙ sym k.2.listed))
instances_exact given (Ok x) (Err r) h (n, i, k, e) = absurd (never_both (world_in given.program) given.typed x.instances n i h.2 k)
instances_exact given (Err r) (Ok y) (n, i, h, e) k = absurd (never_both (world_in given.program) given.typed y.instances n i k.2 h)
instances_exact given (Err r) (Err s) (n, i, h, e) (m, j, k, f) =
    let same : i ≡ j = first_once (world_in given.program) given.typed n m i j h k in
    ap Err (e ∙ ap (λ z. reported given.program (record { rule = E17; place = place_of_instance given.typed z })) same ∙ sym f)
