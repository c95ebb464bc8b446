-- The code of a number is the encoding of a constructor without fields.
use Rattle.std.proofs.Common.{◌≡◌, ℕ, zero, suc, ◌+◌, ◌-◌, ◌%◌, ◌^◌, ◌<◌, max, List, [], ◌∷◌, ◌++◌, length, map, nat_eq, refl, ap, sym, ◌∙◌, arith, append-nil}
use Rattle.std.specs.Prelude.{sum_by, All}
use Rattle.rw_core.specs.declared.types.DataTy.{DataTy}
use Rattle.rw_core.specs.Values.{val, none}
use Rattle.rw_core.specs.Bits.{constructors_of, width_of, width_within, tag_width, greatest, binary, padded, encoding}
use Rattle.rw_core.specs.TagWidths.{tag_width-enough}
use Rattle.register_machine.specs.Codes.{wire_bit, code, code_width}
use Rattle.register_machine.proofs.Choices.{length-binary}

-- fields that are none take no bits
greatest-none : (width : ℕ → ℕ) (constructors : List (List ℕ)) → All (λ fields. fields ≡ []) constructors → greatest (map (sum_by width) constructors) ≡ 0
greatest-none width [] h = refl
greatest-none width (fields ∷ constructors) h =
    let here : fields ≡ [] = h 0 [] (omega arith) in
    let nothing : sum_by width fields ≡ 0 = ap (sum_by width) here in
    let rest : greatest (map (sum_by width) constructors) ≡ 0 = greatest-none width constructors (λ k d g. h (suc k) d (omega arith)) in
    omega (arith, nothing, rest)

pub width_of-none : (types : List DataTy) (ty : ℕ) → All (λ fields. fields ≡ []) (constructors_of types ty) → width_of types ty ≡ code_width (length (constructors_of types ty))
unfolding width_within
width_of-none types ty h =
    let nothing = greatest-none (width_within types ty) (constructors_of types ty) h in
    ap (λ (g : ℕ). max 1 (tag_width (length (constructors_of types ty)) + g)) nothing
    ∙ (let same : max 1 (tag_width (length (constructors_of types ty)) + 0) ≡ max 1 (tag_width (length (constructors_of types ty))) = omega arith in same)

-- a tag, and zeros up to one bit
padded_binary : (t tag : ℕ) → tag < 2 ^ t → padded (max 1 t) (binary t tag ++ []) ≡ binary (max 1 t) tag
padded_binary zero tag h = let first : 0 ≡ tag = omega arith in ap (λ (k : ℕ). nat_eq (k % 2) 1 ∷ []) first
padded_binary (suc t) tag h =
    let greater : max 1 (suc t) ≡ suc t = omega arith in
    let full : suc t - length (binary (suc t) tag) ≡ 0 = omega (arith, length-binary (suc t) tag) in
    rw (greater, append-nil, full, append-nil) refl

pub code-encoding : (types : List DataTy) (ty tag : ℕ) → All (λ fields. fields ≡ []) (constructors_of types ty) → tag < length (constructors_of types ty) →
    code (length (constructors_of types ty)) tag ≡ map wire_bit (encoding types ty (val tag none))
code-encoding types ty tag h within =
    let n = length (constructors_of types ty) in
    let small : tag < 2 ^ tag_width n = omega (arith, tag_width-enough n) in
    ap (map wire_bit) (sym (ap (λ (w : ℕ). padded w (binary (tag_width n) tag ++ [])) (width_of-none types ty h) ∙ padded_binary (tag_width n) tag small))
