-- What one step of writing a value keeps, and that the steps come to an end.
use Rattle.std.proofs.Common.{◌≡◌, ℕ, ◌+◌, ◌-◌, ◌*◌, ◌<◌, ◌≤◌, List, [], ◌∷◌, ◌++◌, length, Bool, refl, arith, ap, sym, ◌∙◌, append_assoc, ◌⊎◌, inl, inr}
use Rattle.std.specs.Prelude.{sum_by, All}
use Rattle.std.proofs.Math.Nat.{mul-le-mul_left}
use Rattle.std.proofs.lemmas.List.{append-nil}
use Rattle.std.proofs.lemmas.List.Sums.{sum_by-cons, sum_by-append}
use Rattle.rw_core.specs.declared.types.DataTy.{DataTy}
use Rattle.rw_core.specs.declared.value.Value.{Value}
use Rattle.rw_core.specs.Values.{Vals, val, none, more, vals, plain, plains}
use Rattle.rw_core.specs.Bits.{fields_of, IsTable, AreValues, width_of, binary, padded, encoding, encodings}
use Rattle.bit_layout.specs.declared.encoding.Writing.{Writing}
use Rattle.bit_layout.specs.Widths.{AreShort, cost, cost_open}
use Rattle.bit_layout.specs.Encoding.{closed, all_closed, IsWriting, cost_all}
use Rattle.bit_layout.proofs.Shapes.{all_head, all_tail, All-below, fields_fit, width_of-positive}
use Rattle.bit_layout.proofs.Pieces.{padded-append}
use Rattle.bit_layout.proofs.Parts.{tag_of}

-- a value whose tag is written, with its fields, gives its encoding
pub value_closed : (types : List DataTy) (ty tag : ℕ) (vs : Vals) (old new : List Bool) (end_ : ℕ) → end_ ≡ length old + width_of types ty → new ≡ old ++ binary (tag_of types ty) tag →
    padded end_ (new ++ encodings types (fields_of types ty tag) vs) ≡ old ++ encoding types ty (val tag vs)
value_closed types ty tag vs old new end_ ee en =
    let fields = encodings types (fields_of types ty tag) vs in
    let front = binary (tag_of types ty) tag in
    let w : end_ - length old ≡ width_of types ty = omega arith in
    ap (λ bits. padded end_ (bits ++ fields)) en ∙ ap (padded end_) (append_assoc old front fields) ∙ padded-append end_ old (front ++ fields) ∙ ap (λ n. old ++ padded n (front ++ fields)) w

pub all_closed-append : (types : List DataTy) (stack : List Writing) (top : Writing) (bits : List Bool) → all_closed types (stack ++ top ∷ []) bits ≡ all_closed types stack (closed types top bits)
all_closed-append types [] top bits = refl
all_closed-append types (outer ∷ stack) top bits = ap (closed types outer) (all_closed-append types stack top bits)

-- a field that is begun is what its parent had first
pub step_closed : (types : List DataTy) (old new rest : List Writing) (top outer inner : Writing) (ty : ℕ) (v : Value) (bits bits' : List Bool) → old ≡ rest ++ top ∷ [] →
    new ≡ (rest ++ outer ∷ []) ++ inner ∷ [] → top.fields.now ≡ ty ∷ outer.fields.now → top.values.now ≡ v ∷ outer.values.now → outer.end ≡ top.end →
    closed types inner bits' ≡ bits ++ encoding types ty (plain v) → all_closed types new bits' ≡ all_closed types old bits
step_closed types old new rest top outer inner ty v bits bits' eo en ef ev ee e =
    let fields = encodings types outer.fields.now (vals (plains outer.values.now)) in
    let one = encoding types ty (plain v) in
    let same : closed types outer (bits ++ one) ≡ closed types top bits =
    ap (λ n. padded n ((bits ++ one) ++ fields)) ee ∙ ap (padded top.end) (append_assoc bits one fields)
    ∙ ap (λ values. padded top.end (bits ++ encodings types (ty ∷ outer.fields.now) (vals (plains values)))) (sym ev)
    ∙ ap (λ tys. padded top.end (bits ++ encodings types tys (vals (plains top.values.now)))) (sym ef) in
    ap (λ stack. all_closed types stack bits') en ∙ all_closed-append types (rest ++ outer ∷ []) inner bits' ∙ all_closed-append types rest outer (closed types inner bits')
    ∙ ap (λ b. all_closed types rest (closed types outer b)) e ∙ ap (all_closed types rest) same ∙ sym (all_closed-append types rest top bits) ∙ ap (λ stack. all_closed types stack bits) (sym eo)

-- a value without fields to come is filled up
pub fill_closed : (types : List DataTy) (old rest : List Writing) (top : Writing) (bits bits' : List Bool) → old ≡ rest ++ top ∷ [] → encodings types top.fields.now (vals (plains top.values.now)) ≡ [] →
    bits' ≡ padded top.end bits → all_closed types rest bits' ≡ all_closed types old bits
fill_closed types old rest top bits bits' eo ef eb =
    let same : bits' ≡ closed types top bits = eb ∙ ap (padded top.end) (sym (append-nil bits)) ∙ ap (λ back. padded top.end (bits ++ back)) (sym ef) in
    ap (all_closed types rest) same ∙ sym (all_closed-append types rest top bits) ∙ ap (λ stack. all_closed types stack bits) (sym eo)

-- the fields that are left are still typed
pub outer_typed : (types : List DataTy) (count ty : ℕ) (v : Value) (top outer : Writing) → IsWriting types count top → top.fields.now ≡ ty ∷ outer.fields.now → top.values.now ≡ v ∷ outer.values.now → IsWriting types count outer
outer_typed types count ty v top outer h ef ev =
    let known : All (λ field. field < count) (ty ∷ outer.fields.now) = rw ef at h.known in
    let typed : AreValues types (ty ∷ outer.fields.now) (vals (plains top.values.now)) = rw ef at h.typed in
    let typed' : AreValues types (ty ∷ outer.fields.now) (more (plain v) (vals (plains outer.values.now))) = rw ev at typed in
    let narrow : sum_by (width_of types) (ty ∷ outer.fields.now) ≤ 1024 = rw ef at h.narrow in
    record { known = all_tail (λ field. field < count) ty outer.fields.now known; typed = typed'.1; narrow = omega (arith, sum_by-cons (width_of types) ty outer.fields.now) }

pub first_narrow : (types : List DataTy) (count ty : ℕ) (top : Writing) (tys : List ℕ) → IsWriting types count top → top.fields.now ≡ ty ∷ tys → width_of types ty ≤ 1024
first_narrow types count ty top tys h ef =
    let narrow : sum_by (width_of types) (ty ∷ tys) ≤ 1024 = rw ef at h.narrow in omega (arith, sum_by-cons (width_of types) ty tys)

-- earlier types that fit a width cost less than it
pub costs_short : (types : List DataTy) (ty : ℕ) (fields : List ℕ) → All (λ field. field < ty) fields → sum_by (cost types) fields ≤ sum_by (width_of types) fields * (2 * ty)
costs_short types ty [] h = omega arith
costs_short types ty (x ∷ xs) h =
    let low : x < ty = all_head (λ field. field < ty) x xs h in
    let r = costs_short types ty xs (all_tail (λ field. field < ty) x xs h) in
    let m : width_of types x * (2 * x + 2) ≤ width_of types x * (2 * ty) = mul-le-mul_left (width_of types x) (omega arith) in
    let w : sum_by (width_of types) (x ∷ xs) * (2 * ty) ≡ (width_of types x + sum_by (width_of types) xs) * (2 * ty) = ap (λ n. n * (2 * ty)) (sum_by-cons (width_of types) x xs) in
    omega (arith, sum_by-cons (cost types) x xs)

pub cost_short : (types : List DataTy) → IsTable types → (ty : ℕ) (fields : List ℕ) → AreShort types ty fields → cost_open types fields < cost types ty
cost_short types table ty fields h =
    let a = costs_short types ty fields h.earlier in
    let p = width_of-positive types table ty in
    let b : 2 * ty * sum_by (width_of types) fields ≤ 2 * ty * width_of types ty = mul-le-mul_left (2 * ty) (omega (arith, h.fit)) in
    omega arith

pub step_costs : (types : List DataTy) → IsTable types → (old new rest : List Writing) (top outer inner : Writing) (ty : ℕ) → old ≡ rest ++ top ∷ [] →
    new ≡ (rest ++ outer ∷ []) ++ inner ∷ [] → top.fields.now ≡ ty ∷ outer.fields.now → AreShort types ty inner.fields.now → cost_all types new < cost_all types old
step_costs types table old new rest top outer inner ty eo en ef short =
    let f = λ (w : Writing). cost_open types w.fields.now in
    let o = ap (cost_all types) eo in
    let n = ap (cost_all types) en in
    let t = ap (sum_by (cost types)) ef in
    let s = cost_short types table ty inner.fields.now short in
    omega (arith, sum_by-append f rest (top ∷ []), sum_by-append f (rest ++ outer ∷ []) (inner ∷ []), sum_by-append f rest (outer ∷ []), sum_by-cons (cost types) ty outer.fields.now)

-- a value that is begun has typed fields, which are earlier and fit its width
pub begun_typed : (types : List DataTy) → IsTable types → (ty tag count : ℕ) (begun : Writing) → begun.fields.now ≡ fields_of types ty tag → {vs : Vals} → vals (plains begun.values.now) ≡ vs → ty < count → width_of types ty ≤ 1024 →
    AreValues types (fields_of types ty tag) vs → IsWriting types count begun
begun_typed types table ty tag count begun ef {vs} ev low narrow typed =
    let known : All (λ field. field < count) (fields_of types ty tag) = All-below (λ field. field < count) ty (fields_of types ty tag) (table.earlier ty tag) (λ x h. omega arith) in
    let fit = fields_fit types table ty tag in
    let s = ap (sum_by (width_of types)) ef in
    record { known = rw ef known; typed = rw (ef, ev) typed; narrow = omega arith }

pub begun_short : (types : List DataTy) → IsTable types → (ty tag : ℕ) (fields : List ℕ) → fields ≡ fields_of types ty tag → AreShort types ty fields
begun_short types table ty tag fields ef = rw ef (record { earlier = table.earlier ty tag; fit = fields_fit types table ty tag })

pub no_types : (types : List DataTy) (vs : Vals) → encodings types [] vs ≡ []
no_types types none = refl
no_types types (more v vs) = refl

-- where no field or no value is left, there are no bits to come
pub nothing_left : (types : List DataTy) (top : Writing) → (top.fields.now ≡ []) ⊎ (top.values.now ≡ []) → encodings types top.fields.now (vals (plains top.values.now)) ≡ []
nothing_left types top (inl e) = rw e (no_types types (vals (plains top.values.now)))
nothing_left types top (inr e) = rw e refl
