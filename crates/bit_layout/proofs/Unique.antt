-- Two values of a type with one encoding are equal.
use Rattle.std.proofs.Common.{◌≡◌, ℕ, ◌<◌, List, [], ◌∷◌, length, refl, ap, sym, ◌∙◌}
use Rattle.rw_core.specs.declared.types.DataTy.{DataTy}
use Rattle.rw_core.specs.Values.{Val, Vals, val, none, more}
use Rattle.rw_core.specs.Bits.{constructors_of, fields_of, IsTable, IsValue, AreValues, binary, encoding, encodings}
use Rattle.bit_layout.specs.Parts.{number_of}
use Rattle.bit_layout.proofs.Pieces.{fronts_same, backs_same, length-binary, number_of-binary}
use Rattle.bit_layout.proofs.Lengths.{length-encoding, length-encodings}
use Rattle.bit_layout.proofs.Parts.{tag_of, tag_small, encoding-tagged}

-- equal bits have equal tags
pub tags_same : (types : List DataTy) (ty a b : ℕ) (vs ws : Vals) → a < length (constructors_of types ty) → b < length (constructors_of types ty) → encoding types ty (val a vs) ≡ encoding types ty (val b ws) → a ≡ b
tags_same types ty a b vs ws ha hb e =
    let t = tag_of types ty in
    let s = sym (encoding-tagged types ty a vs) ∙ e ∙ encoding-tagged types ty b ws in
    let f = fronts_same (binary t a) (binary t b) _ _ (length-binary t a ∙ sym (length-binary t b)) s in
    sym (number_of-binary t a (tag_small types ty a ha)) ∙ ap number_of f ∙ number_of-binary t b (tag_small types ty b hb)

mutual
  pub encoding-same : (types : List DataTy) → IsTable types → (ty : ℕ) (v w : Val) → IsValue types ty v → IsValue types ty w → encoding types ty v ≡ encoding types ty w → v ≡ w
  encoding-same types table ty (val a vs) (val b ws) hv hw e =
      let t = tag_of types ty in
      let tags : a ≡ b = tags_same types ty a b vs ws hv.0 hw.0 e in
      let hw' : AreValues types (fields_of types ty a) ws = rw tags hw.1 in
      let s = sym (encoding-tagged types ty a vs) ∙ e ∙ ap (λ n. encoding types ty (val n ws)) (sym tags) ∙ encoding-tagged types ty a ws in
      let back = backs_same (binary t a) (binary t a) _ _ refl s in
      let lv = length-encodings types table (fields_of types ty a) vs hv.1 in
      let lw = length-encodings types table (fields_of types ty a) ws hw' in
      let inner = fronts_same (encodings types (fields_of types ty a) vs) (encodings types (fields_of types ty a) ws) _ _ (lv ∙ sym lw) back in
      let fields = encodings-same types table (fields_of types ty a) vs ws hv.1 hw' inner in cc

  pub encodings-same : (types : List DataTy) → IsTable types → (tys : List ℕ) (vs ws : Vals) → AreValues types tys vs → AreValues types tys ws → encodings types tys vs ≡ encodings types tys ws → vs ≡ ws
  encodings-same types table [] none none hv hw e = refl
  encodings-same types table [] none (more w ws) hv hw e = absurd hw
  encodings-same types table [] (more v vs) ws hv hw e = absurd hv
  encodings-same types table (ty ∷ tys) none ws hv hw e = absurd hv
  encodings-same types table (ty ∷ tys) (more v vs) none hv hw e = absurd hw
  encodings-same types table (ty ∷ tys) (more v vs) (more w ws) hv hw e =
      let l = length-encoding types table ty v hv.0 ∙ sym (length-encoding types table ty w hw.0) in
      let here = encoding-same types table ty v w hv.0 hw.0 (fronts_same (encoding types ty v) (encoding types ty w) (encodings types tys vs) (encodings types tys ws) l e) in
      let others = encodings-same types table tys vs ws hv.1 hw.1 (backs_same (encoding types ty v) (encoding types ty w) (encodings types tys vs) (encodings types tys ws) l e) in cc
