-- How a value of a closed data type becomes bits: a tag, the fields, and zeros on the right.
use Rattle.std.specs.Prelude.{◌≡◌, ℕ, zero, suc, ◌+◌, ◌-◌, ◌/◌, ◌%◌, ◌^◌, ◌<◌, max, Bool, false, nat_eq, nat_le, if◌then◌else◌, List, [], ◌∷◌, ◌++◌, length, map, replicate, sum_by, slice_index_or, All}
use Rattle.rw_core.specs.declared.types.DataTy.{DataTy}
use Rattle.rw_core.specs.Values.{Val, Vals, val, none, more}

-- the constructors of type number ty: for each the types of its fields
abbrev pub constructors_of : List DataTy → ℕ → List (List ℕ)
constructors_of types ty = (slice_index_or types ty (record { constructors = [] })).constructors

-- the types of the fields of constructor number tag of type number ty
abbrev pub fields_of : List DataTy → ℕ → ℕ → List ℕ
fields_of types ty tag = slice_index_or (constructors_of types ty) tag []

-- a table of data types: each has from 1 to 2^32 - 1 constructors, and its fields name earlier types
pub record IsTable (types : List DataTy) : Type 0 where
  pub some : (ty : ℕ) → ty < length types → 0 < length (constructors_of types ty)
  pub few : (ty : ℕ) → ty < length types → length (constructors_of types ty) < 2 ^ 32
  pub earlier : (ty tag : ℕ) → All (λ field. field < ty) (fields_of types ty tag)

-- the values of type number ty: a constructor of the type, with values of the types of its fields
abbrev mutual
  pub IsValue : List DataTy → ℕ → Val → Type 0
  IsValue types ty (val tag fields) =
      (tag < length (constructors_of types ty)) × AreValues types (fields_of types ty tag) fields

  pub AreValues : List DataTy → List ℕ → Vals → Type 0
  AreValues types [] none = Unit {0}
  AreValues types [] (more v vs) = ⊥
  AreValues types (ty ∷ tys) none = ⊥
  AreValues types (ty ∷ tys) (more v vs) = IsValue types ty v × AreValues types tys vs

-- the first number from t on, within so many steps, whose power of two is at least n
abbrev pub power_from : ℕ → ℕ → ℕ → ℕ
power_from zero t n = t
power_from (suc steps) t n = if nat_le n (2 ^ t) then t else power_from steps (t + 1) n

-- the bits of a tag that tells n constructors apart: the least t with 2^t at least n
unfoldable pub tag_width : ℕ → ℕ
tag_width n = power_from n 0 n

-- the greatest number of a list, or 0
abbrev pub greatest : List ℕ → ℕ
greatest [] = 0
greatest (n ∷ ns) = max n (greatest ns)

-- the bits of a type with these constructors: a tag and the longest list of fields, and at least one
abbrev pub shape_width : (ℕ → ℕ) → List (List ℕ) → ℕ
shape_width width constructors =
    max 1 (tag_width (length constructors) + greatest (map (sum_by width) constructors))

-- the width of type number ty, whose types nest so deep
unfoldable pub width_within : List DataTy → ℕ → ℕ → ℕ
width_within types zero ty = 0
width_within types (suc depth) ty = shape_width (width_within types depth) (constructors_of types ty)

-- the width of type number ty, in bits: a field is of an earlier type, so ty and all that it names nest ty + 1 deep
abbrev pub width_of : List DataTy → ℕ → ℕ
width_of types ty = width_within types (suc ty) ty

-- the lowest t bits of a number, most significant first: the last one tells whether the number is odd
abbrev pub binary : ℕ → ℕ → List Bool
binary zero n = []
binary (suc t) n = binary t (n / 2) ++ nat_eq (n % 2) 1 ∷ []

-- zeros fill up on the right
abbrev pub padded : ℕ → List Bool → List Bool
padded width bits = bits ++ replicate (width - length bits) false

-- the bits of a value of type number ty: the tag, the fields in order, and zeros up to the width
abbrev mutual
  pub encoding : List DataTy → ℕ → Val → List Bool
  encoding types ty (val tag fields) =
      padded (width_of types ty) (binary (tag_width (length (constructors_of types ty))) tag ++ encodings types (fields_of types ty tag) fields)

  pub encodings : List DataTy → List ℕ → Vals → List Bool
  encodings types tys none = []
  encodings types [] (more v vs) = []
  encodings types (ty ∷ tys) (more v vs) = encoding types ty v ++ encodings types tys vs

-- the bits stand for the value
abbrev pub Encodes : List DataTy → ℕ → Val → List Bool → Type 0
Encodes types ty v bits = IsValue types ty v × (encoding types ty v ≡ bits)
