-- Each type has a shape at each instance, and one alone: data types are unfolded step by step.
use Rattle.std.proofs.Common.{◌≡◌, refl, sym, subst, ℕ, zero, suc, List, [], ◌∷◌, map}
use Rattle.rw_types_solving.specs.declared.term.Head.TheVariants as h
use Rattle.rw_types_solving.specs.Types.{Ty, var, app, Tys, none, more, apply, apply_in}
use Rattle.rw_types_solving.proofs.Laws.{stays}
use Rattle.rw_types_rules.specs.Words.{unit_type}
use Rattle.rw_types_rules.specs.WellTyped.{given}
use Rattle.rw_cover_matrix.specs.Values.{Shape, opaque, data_of, Shapes, no_shapes, more_shapes, Choices, one_choice, more_choices}
use Rattle.rw_cover_laws.specs.Shapes.{listed, HasShape, HaveShapes, HaveChoices}
use Rattle.rw_cover_laws.proofs.Unfolding.{AllData, AllDataIn, AllTypes, AllFields, Ends, all_data}

module _ (fields : ℕ → List (List Ty)) (variables unknowns : ℕ → Shape) where
  abbrev Shaped : Ty → Type 0
  Shaped t = (shape : Shape) × HasShape fields variables unknowns shape t

  abbrev AllShaped : List Ty → Type 0
  AllShaped ts = (columns : Shapes) × HaveShapes fields variables unknowns columns ts

  unit_shaped : Shaped unit_type
  unit_shaped = (data_of (one_choice no_shapes), tt)

  -- what variables of a head stand for
  given_shaped : (ts : List Ty) → AllShaped ts → (x : ℕ) → Shaped (given ts x)
  given_shaped [] s x = unit_shaped
  given_shaped (t ∷ ts) (no_shapes, h) x = absurd h
  given_shaped (t ∷ ts) (more_shapes shape columns, h) zero = (shape, h.0)
  given_shaped (t ∷ ts) (more_shapes shape columns, h) (suc x) = given_shaped ts (columns, h.1) x

  -- types whose data types are unfolded in fewer than so many steps have shapes, where the types for their variables have
  abbrev Within : ℕ → Type 0
  Within k = (s : ℕ → Ty) → ((x : ℕ) → Shaped (s x)) → (t : Ty) → AllData (Ends fields k) t → Shaped (apply s t)

  abbrev Unfolded : ℕ → Type 0
  Unfolded k = (n : ℕ) (parts : Tys) → ((x : ℕ) → Shaped (given (listed parts) x)) → Ends fields k n → Shaped (app (h.Data n) parts)

  module _ (k : ℕ) (unfolded : Unfolded k) (s : ℕ → Ty) (each : (x : ℕ) → Shaped (s x)) where
    mutual
      shaped : (t : Ty) → AllData (Ends fields k) t → Shaped (apply s t)
      shaped (var x) a = each x
      shaped (app (h.Data n) parts) a = unfolded n (apply_in s parts) (given_shaped (listed (apply_in s parts)) (shaped_in parts a.1)) a.0
      shaped (app h.Tuple parts) a = let r = shaped_in parts a.1 in (data_of (one_choice r.0), r.1)
      shaped (app h.Fun parts) a = (opaque, tt)
      shaped (app h.Comp parts) a = (opaque, tt)
      shaped (app h.I parts) a = (opaque, tt)
      shaped (app h.Layer parts) a = (opaque, tt)
      shaped (app h.StateT parts) a = (opaque, tt)
      shaped (app h.ReT parts) a = (opaque, tt)
      shaped (app (h.Unknown n) parts) a = (unknowns n, refl)

      shaped_in : (ts : Tys) → AllDataIn (Ends fields k) ts → AllShaped (listed (apply_in s ts))
      shaped_in none a = (no_shapes, tt)
      shaped_in (more t ts) a =
          let first = shaped t a.0 in
          let rest = shaped_in ts a.1 in
          (more_shapes first.0 rest.0, (first.1, rest.1))

  module _ (k : ℕ) (within : Within k) (arguments : List Ty) (each : (x : ℕ) → Shaped (given arguments x)) where
    columns_shaped : (ts : List Ty) → AllTypes (Ends fields k) ts → AllShaped (map (apply (given arguments)) ts)
    columns_shaped [] a = (no_shapes, tt)
    columns_shaped (t ∷ ts) a =
        let first = within (given arguments) each t a.0 in
        let rest = columns_shaped ts a.1 in
        (more_shapes first.0 rest.0, (first.1, rest.1))

    choices_shaped : (takes : List Ty) (rest : List (List Ty)) → AllFields (Ends fields k) (takes ∷ rest) → (choices : Choices) × HaveChoices fields variables unknowns choices arguments (takes ∷ rest)
    choices_shaped takes [] a = let r = columns_shaped takes a.0 in (one_choice r.0, r.1)
    choices_shaped takes (next ∷ rest) a =
        let r = columns_shaped takes a.0 in
        let others = choices_shaped next rest a.1 in
        (more_choices r.0 others.0, (r.1, others.1))

  data_shaped : (k : ℕ) → Within k → Unfolded (suc k)
  data_shaped k within n parts each a = by (fields n) refl
    where
      by : (all : List (List Ty)) → fields n ≡ all → Shaped (app (h.Data n) parts)
      by [] e = (opaque, e)
      by (takes ∷ rest) e =
          let r = choices_shaped k within (listed parts) each takes rest (subst (λ (all : List (List Ty)). AllFields (Ends fields k) all) e a) in
          (data_of r.0, subst (λ (all : List (List Ty)). HaveChoices fields variables unknowns r.0 (listed parts) all) (sym e) r.1)

  within : (k : ℕ) → Within k
  within zero = λ s each t a. shaped zero (λ n parts all ends. absurd ends) s each t a
  within (suc k) = λ s each t a. shaped (suc k) (data_shaped k (within k)) s each t a

  pub has_shape : (k : ℕ) → ((n : ℕ) → Ends fields k n) → (t : Ty) → Shaped t
  has_shape k all t = subst Shaped (stays t) (within k var (λ x. (variables x, refl)) t (all_data (Ends fields k) all t))

  pub have_shapes : (k : ℕ) → ((n : ℕ) → Ends fields k n) → (ts : List Ty) → AllShaped ts
  have_shapes k all [] = (no_shapes, tt)
  have_shapes k all (t ∷ ts) =
      let first = has_shape k all t in
      let rest = have_shapes k all ts in
      (more_shapes first.0 rest.0, (first.1, rest.1))
