-- The bits of a value are its tag and what the fields fill, and the bits of fields come off one by one.
use Rattle.std.proofs.Common.{◌≡◌, ℕ, ◌-◌, ◌<◌, ◌^◌, List, ◌∷◌, ◌++◌, length, take, drop, Bool, arith, ap, sym, ◌∙◌, length-drop}
use Rattle.std.proofs.lemmas.List.{take-append-drop, length-take-le}
use Rattle.rw_core.specs.declared.types.DataTy.{DataTy}
use Rattle.rw_core.specs.Values.{Val, Vals, val, more}
use Rattle.rw_core.specs.Bits.{constructors_of, fields_of, IsTable, Encodes, tag_width, width_of, binary, padded, encoding, encodings}
use Rattle.bit_layout.specs.Parts.{number_of, Fill}
use Rattle.rw_core.specs.TagWidths.{tag_width-enough}
use Rattle.bit_layout.proofs.Shapes.{fields_fit}
use Rattle.bit_layout.proofs.Pieces.{take_front, drop_front, length-binary, number_of-binary, binary-number_of, padded-append, length-padded}
use Rattle.bit_layout.proofs.Lengths.{length-encoding, length-encodings}

-- the bits of the tag of type number ty
abbrev pub tag_of : List DataTy → ℕ → ℕ
tag_of types ty = tag_width (length (constructors_of types ty))

-- the bits of a value begin with its tag
pub encoding-tagged : (types : List DataTy) (ty tag : ℕ) (vs : Vals) →
    encoding types ty (val tag vs) ≡ binary (tag_of types ty) tag ++ padded (width_of types ty - tag_of types ty) (encodings types (fields_of types ty tag) vs)
encoding-tagged types ty tag vs =
    padded-append (width_of types ty) (binary (tag_of types ty) tag) (encodings types (fields_of types ty tag) vs)
    ∙ ap (λ n. binary (tag_of types ty) tag ++ padded (width_of types ty - n) (encodings types (fields_of types ty tag) vs)) (length-binary (tag_of types ty) tag)

pub tag_small : (types : List DataTy) (ty tag : ℕ) → tag < length (constructors_of types ty) → tag < 2 ^ tag_of types ty
tag_small types ty tag h = let e = tag_width-enough (length (constructors_of types ty)) in omega arith

-- a value's tag is the number that the first bits spell
pub tag_read : (types : List DataTy) → IsTable types → (ty tag : ℕ) (vs : Vals) (bits : List Bool) → Encodes types ty (val tag vs) bits → number_of (take (tag_of types ty) bits) ≡ tag
tag_read types table ty tag vs bits h =
    let e : bits ≡ binary (tag_of types ty) tag ++ padded (width_of types ty - tag_of types ty) (encodings types (fields_of types ty tag) vs) = sym h.1 ∙ encoding-tagged types ty tag vs in
    let f = take_front (tag_of types ty) bits (binary (tag_of types ty) tag) _ e (length-binary (tag_of types ty) tag) in
    ap number_of f ∙ number_of-binary (tag_of types ty) tag (tag_small types ty tag h.0.0)

-- and its fields fill the others
pub fields_read : (types : List DataTy) → IsTable types → (ty tag : ℕ) (vs : Vals) (bits : List Bool) → Encodes types ty (val tag vs) bits → Fill types (fields_of types ty tag) vs (drop (tag_of types ty) bits)
fields_read types table ty tag vs bits h =
    let rest = padded (width_of types ty - tag_of types ty) (encodings types (fields_of types ty tag) vs) in
    let e : bits ≡ binary (tag_of types ty) tag ++ rest = sym h.1 ∙ encoding-tagged types ty tag vs in
    let f : drop (tag_of types ty) bits ≡ rest = drop_front (tag_of types ty) bits (binary (tag_of types ty) tag) rest e (length-binary (tag_of types ty) tag) in
    let fit = fields_fit types table ty tag in
    let len = length-encodings types table (fields_of types ty tag) vs h.0.1 in
    let long = length-padded (width_of types ty - tag_of types ty) (encodings types (fields_of types ty tag) vs) (omega arith) in
    let l : length (drop (tag_of types ty) bits) ≡ width_of types ty - tag_of types ty = ap length f ∙ long in
    (h.0.1, ap (λ n. padded n (encodings types (fields_of types ty tag) vs)) l ∙ sym f)

-- a tag and fields that fill the other bits make a value
pub value_made : (types : List DataTy) → IsTable types → (ty tag : ℕ) (vs : Vals) (bits : List Bool) → tag < length (constructors_of types ty) → length bits ≡ width_of types ty →
    number_of (take (tag_of types ty) bits) ≡ tag → Fill types (fields_of types ty tag) vs (drop (tag_of types ty) bits) → Encodes types ty (val tag vs) bits
value_made types table ty tag vs bits low len is fill =
    let fit = fields_fit types table ty tag in
    let t = tag_of types ty in
    let tl : length (take t bits) ≡ t = length-take-le t bits (omega arith) in
    let dl : length (drop t bits) ≡ width_of types ty - t = length-drop t bits ∙ ap (λ n. n - t) len in
    let b : binary t tag ≡ take t bits = ap (binary t) (sym is) ∙ binary-number_of (take t bits) t tl in
    let r : padded (width_of types ty - t) (encodings types (fields_of types ty tag) vs) ≡ drop t bits = ap (λ n. padded n (encodings types (fields_of types ty tag) vs)) (sym dl) ∙ fill.1 in
    ((low, fill.0), encoding-tagged types ty tag vs ∙ ap (λ front. front ++ padded (width_of types ty - t) (encodings types (fields_of types ty tag) vs)) b ∙ ap (λ back. take t bits ++ back) r ∙ take-append-drop t bits)

-- the first field comes off
pub first_read : (types : List DataTy) → IsTable types → (ty : ℕ) (tys : List ℕ) (v : Val) (vs : Vals) (bits : List Bool) → Fill types (ty ∷ tys) (more v vs) bits →
    Encodes types ty v (take (width_of types ty) bits) × Fill types tys vs (drop (width_of types ty) bits)
first_read types table ty tys v vs bits h =
    let w = width_of types ty in
    let len : length (encoding types ty v) ≡ w = length-encoding types table ty v h.0.0 in
    let rest = padded (length bits - w) (encodings types tys vs) in
    let e : bits ≡ encoding types ty v ++ rest = sym h.1 ∙ padded-append (length bits) (encoding types ty v) (encodings types tys vs) ∙ ap (λ n. encoding types ty v ++ padded (length bits - n) (encodings types tys vs)) len in
    let f : take w bits ≡ encoding types ty v = take_front w bits (encoding types ty v) rest e len in
    let d : drop w bits ≡ rest = drop_front w bits (encoding types ty v) rest e len in
    ((h.0.0, sym f), (h.0.1, ap (λ n. padded n (encodings types tys vs)) (length-drop w bits) ∙ sym d))

-- a first field is put before the others
pub first_put : (types : List DataTy) → IsTable types → (ty : ℕ) (tys : List ℕ) (v : Val) (vs : Vals) (bits : List Bool) → Encodes types ty v (take (width_of types ty) bits) →
    Fill types tys vs (drop (width_of types ty) bits) → Fill types (ty ∷ tys) (more v vs) bits
first_put types table ty tys v vs bits here fill =
    let w = width_of types ty in
    let len : length (encoding types ty v) ≡ w = length-encoding types table ty v here.0 in
    let r : padded (length bits - w) (encodings types tys vs) ≡ drop w bits = ap (λ n. padded n (encodings types tys vs)) (sym (length-drop w bits)) ∙ fill.1 in (
      (here.0, fill.0),
      padded-append (length bits) (encoding types ty v) (encodings types tys vs) ∙ ap (λ n. encoding types ty v ++ padded (length bits - n) (encodings types tys vs)) len
          ∙ ap (λ front. front ++ padded (length bits - w) (encodings types tys vs)) here.1 ∙ ap (λ back. take w bits ++ back) r ∙ take-append-drop w bits,
    )
