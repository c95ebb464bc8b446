-- Values of closed data as values of the matrix, and lists of what stands for values.
use Rattle.std.proofs.Common.{◌≡◌, refl, ap, ◌∙◌, ℕ, List}
use Rattle.rw_scope_rules.specs.declared.binding.Bound.{Bound}
use Rattle.rw_tree.specs.Declarations.{Declaration}
use Rattle.rw_core.specs.Values.{Val, Vals, val, none, more}
use Rattle.rw_cover_matrix.specs.Values.{Value, built, Values, no_values, more_values}
use Rattle.rw_meaning.specs.Results.{Thunk, Thunks, nothing, and_then, joined}
use Rattle.rw_meaning.specs.Steps.{Stands, FieldsStand}
use Rattle.rw_meaning_matching.specs.Standing.{matrix_value, matrix_values, StandsFor, StandForEach, values_joined}

same_place : (p q : ℕ) (fs gs : Values) → built p fs ≡ built q gs → p ≡ q
same_place p q fs gs e = cc

same_fields : (p q : ℕ) (fs gs : Values) → built p fs ≡ built q gs → fs ≡ gs
same_fields p q fs gs e = cc

same_first : (v w : Value) (vs ws : Values) → more_values v vs ≡ more_values w ws → v ≡ w
same_first v w vs ws e = cc

same_rest : (v w : Value) (vs ws : Values) → more_values v vs ≡ more_values w ws → vs ≡ ws
same_rest v w vs ws e = cc

mutual
  pub embedded_once : (v w : Val) → matrix_value v ≡ matrix_value w → v ≡ w
  embedded_once (val p fs) (val q gs) e =
      ap (λ (n : ℕ). val n fs) (same_place p q (matrix_values fs) (matrix_values gs) e) ∙ ap (val q) (fields_once fs gs (same_fields p q (matrix_values fs) (matrix_values gs) e))

  fields_once : (fs gs : Vals) → matrix_values fs ≡ matrix_values gs → fs ≡ gs
  fields_once none none e = refl
  fields_once none (more w ws) e = absurd (cc)
  fields_once (more v vs) none e = absurd (cc)
  fields_once (more v vs) (more w ws) e =
      ap (λ (z : Val). more z vs) (embedded_once v w (same_first (matrix_value v) (matrix_value w) (matrix_values vs) (matrix_values ws) e))
      ∙ ap (more w) (fields_once vs ws (same_rest (matrix_value v) (matrix_value w) (matrix_values vs) (matrix_values ws) e))

module _ (program : List (Declaration Bound)) where
  mutual
    pub embedded : (v : Val) (t : Thunk) → Stands program t v → StandsFor program t (matrix_value v)
    embedded (val place fields) t h = (h.0, h.1, fields_embedded fields h.0 h.2)

    fields_embedded : (vs : Vals) (ts : Thunks) → FieldsStand program ts vs → StandForEach program ts (matrix_values vs)
    fields_embedded none nothing h = tt
    fields_embedded none (and_then t ts) h = absurd h
    fields_embedded (more v vs) nothing h = absurd h
    fields_embedded (more v vs) (and_then t ts) h = (embedded v t h.0, fields_embedded vs ts h.1)

  mutual
    pub taken_back : (v : Val) (t : Thunk) → StandsFor program t (matrix_value v) → Stands program t v
    taken_back (val place fields) t h = (h.0, h.1, fields_back fields h.0 h.2)

    fields_back : (vs : Vals) (ts : Thunks) → StandForEach program ts (matrix_values vs) → FieldsStand program ts vs
    fields_back none nothing h = tt
    fields_back none (and_then t ts) h = absurd h
    fields_back (more v vs) nothing h = absurd h
    fields_back (more v vs) (and_then t ts) h = (taken_back v t h.0, fields_back vs ts h.1)

  pub stand_joined : (xs : Thunks) (seen : Values) (ys : Thunks) (others : Values) → StandForEach program xs seen → StandForEach program ys others → StandForEach program (joined xs ys) (values_joined seen others)
  stand_joined nothing no_values ys others h k = k
  stand_joined nothing (more_values v vs) ys others h k = absurd h
  stand_joined (and_then t ts) no_values ys others h k = absurd h
  stand_joined (and_then t ts) (more_values v vs) ys others h k = (h.0, stand_joined ts vs ys others h.1 k)
