-- The values of a type are those that the table has.
use Rattle.std.proofs.Common.{◌≡◌, ℕ, List, [], ◌∷◌, Some, sym, subst, ◌∙◌}
use Rattle.std.specs.Prelude.{slice_get}
use Rattle.std.proofs.lemmas.Option.{slice_get-get_or, get_or_from_slice_get, slice_get_within}
use Rattle.rw_core.specs.declared.types.DataTy.{DataTy}
use Rattle.rw_core.specs.Values.{Val, Vals, val, none, more}
use Rattle.rw_core.specs.Bits.{constructors_of, fields_of, IsValue, AreValues}
use Rattle.rw_core_flat.specs.WellTyped.{DataTypes, AreInTable, Fits, FieldsFit}

module _ (types : DataTypes) (table : List DataTy) (h : AreInTable types table) where
  mutual
    pub value_of_fit : (d : ℕ) (v : Val) → Fits types d v → IsValue table d v
    value_of_fit d (val tag vs) (ds, e, f) =
        let k : slice_get (constructors_of table d) tag ≡ Some ds = sym (h d tag) ∙ e in
        (slice_get_within (constructors_of table d) tag ds k, subst (λ z. AreValues table z vs) (sym (get_or_from_slice_get (constructors_of table d) tag ds [] k)) (values_of_fit ds vs f))

    values_of_fit : (ds : List ℕ) (vs : Vals) → FieldsFit types ds vs → AreValues table ds vs
    values_of_fit [] none f = tt
    values_of_fit [] (more v vs) f = absurd f
    values_of_fit (d ∷ ds) none f = absurd f
    values_of_fit (d ∷ ds) (more v vs) f = (value_of_fit d v f.0, values_of_fit ds vs f.1)

  mutual
    pub fit_of_value : (d : ℕ) (v : Val) → IsValue table d v → Fits types d v
    fit_of_value d (val tag vs) (less, f) = (fields_of table d tag, h d tag ∙ slice_get-get_or (constructors_of table d) tag [] less, fits_of_values (fields_of table d tag) vs f)

    fits_of_values : (ds : List ℕ) (vs : Vals) → AreValues table ds vs → FieldsFit types ds vs
    fits_of_values [] none f = tt
    fits_of_values [] (more v vs) f = absurd f
    fits_of_values (d ∷ ds) none f = absurd f
    fits_of_values (d ∷ ds) (more v vs) f = (fit_of_value d v f.0, fits_of_values ds vs f.1)
