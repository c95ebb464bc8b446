-- Every encoding has the width of its type.
use Rattle.std.proofs.Common.{◌≡◌, ℕ, List, [], ◌∷◌, ◌++◌, length, refl, arith, length-append}
use Rattle.std.specs.Prelude.{sum_by}
use Rattle.std.proofs.lemmas.List.Sums.{sum_by-cons}
use Rattle.rw_core.specs.declared.types.DataTy.{DataTy}
use Rattle.rw_core.specs.Values.{Val, Vals, val, none, more}
use Rattle.rw_core.specs.Bits.{constructors_of, fields_of, IsTable, IsValue, AreValues, tag_width, width_of, binary, encoding, encodings}
use Rattle.bit_layout.proofs.Shapes.{fields_fit}
use Rattle.bit_layout.proofs.Pieces.{length-binary, length-padded}

mutual
  pub length-encoding : (types : List DataTy) → IsTable types → (ty : ℕ) (v : Val) → IsValue types ty v → length (encoding types ty v) ≡ width_of types ty
  length-encoding types table ty (val tag fields) h =
      let t = tag_width (length (constructors_of types ty)) in
      let e = length-encodings types table (fields_of types ty tag) fields h.1 in
      let f = fields_fit types table ty tag in
      let b = length-binary t tag in
      let front = binary t tag ++ encodings types (fields_of types ty tag) fields in
      length-padded (width_of types ty) front (omega (arith, length-append (binary t tag) (encodings types (fields_of types ty tag) fields)))

  pub length-encodings : (types : List DataTy) → IsTable types → (tys : List ℕ) (vs : Vals) → AreValues types tys vs → length (encodings types tys vs) ≡ sum_by (width_of types) tys
  length-encodings types table [] none h = refl
  length-encodings types table [] (more v vs) h = absurd h
  length-encodings types table (ty ∷ tys) none h = absurd h
  length-encodings types table (ty ∷ tys) (more v vs) h =
      let a = length-encoding types table ty v h.0 in
      let b = length-encodings types table tys vs h.1 in
      omega (arith, length-append (encoding types ty v) (encodings types tys vs), sum_by-cons (width_of types) ty tys)
