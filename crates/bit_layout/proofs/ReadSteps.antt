-- What one step of reading a value keeps, and that the steps come to an end.
use Rattle.std.proofs.Common.{◌≡◌, ℕ, zero, suc, ◌+◌, ◌-◌, ◌<◌, ◌≤◌, ◌↔◌, List, [], ◌∷◌, ◌++◌, length, take, drop, Bool, true, false, refl, subst, arith, ap, sym, ◌∙◌, length-drop}
use Rattle.std.specs.Prelude.{sum_by, All, replicate, slice_index}
use Rattle.std.specs.List.{list_any}
use mathlib.Core.Bool.{beq}
use Rattle.std.proofs.Math.ListN.{get_or-eq_default}
use Rattle.std.proofs.lemmas.List.Sums.{sum_by-cons, sum_by-append}
use Rattle.rw_core.specs.declared.types.DataTy.{DataTy}
use Rattle.rw_core.specs.declared.value.Value.{Value}
use Rattle.rw_core.specs.Values.{Val, Vals, val, none, more, vals, plain, plains}
use Rattle.rw_core.specs.Bits.{constructors_of, fields_of, IsTable, IsValue, Encodes, width_of}
use Rattle.bit_layout.specs.declared.decoding.Reading.{Reading}
use Rattle.bit_layout.specs.Parts.{number_of, Fill, joined}
use Rattle.bit_layout.specs.Widths.{AreWidths, AreShort, cost, cost_open}
use Rattle.bit_layout.specs.Decoding.{ReadsTo, Takes, Ends, Finishes, IsReading, IsRoomy, reading_cost}
use Rattle.bit_layout.proofs.Shapes.{all_head, all_tail, All-below}
use Rattle.bit_layout.proofs.Parts.{tag_of, tag_read, fields_read, value_made, first_read, first_put}
use Rattle.bit_layout.proofs.Writes.{cost_short}

-- values before others
pub joined-append : (ws : List Val) (w : Val) (vs : Vals) → joined (ws ++ w ∷ []) vs ≡ joined ws (more w vs)
joined-append [] w vs = refl
joined-append (v ∷ ws) w vs = ap (more v) (joined-append ws w vs)

pub joined-none : (ws : List Val) → joined ws none ≡ vals ws
joined-none [] = refl
joined-none (w ∷ ws) = ap (more w) (joined-none ws)

pub plains-append : (values : List Value) (value : Value) → plains (values ++ value ∷ []) ≡ plains values ++ plain value ∷ []
plains-append [] value = refl
plains-append (v ∷ values) value = ap (λ vs. plain v ∷ vs) (plains-append values value)

-- a stack with one more value that is being read
pub ends_in : (types : List DataTy) (stack : List Reading) (outer : Reading) (field v : Val) → Ends types (stack ++ outer ∷ []) field v → (inner : Val) × Takes types outer field inner × Ends types stack inner v
ends_in types [] outer field v h = (v, subst (λ (x : Val). Takes types outer x v) (sym h.1) h.2, refl)
ends_in types (r ∷ stack) outer field v h =
    let g = ends_in types stack outer field h.0 h.1 in (g.0, g.1, (h.0, g.2, h.2))

pub ends_out : (types : List DataTy) (stack : List Reading) (outer : Reading) (field inner v : Val) → Takes types outer field inner → Ends types stack inner v → Ends types (stack ++ outer ∷ []) field v
ends_out types [] outer field inner v t h = (field, refl, subst (λ (x : Val). Takes types outer field x) h t)
ends_out types (r ∷ stack) outer field inner v t h = (h.0, ends_out types stack outer field inner h.0 t h.1, h.2)

-- a tag without a constructor is that of no value
pub no_tag : (types : List DataTy) → IsTable types → (ty tag : ℕ) (bits : List Bool) → number_of (take (tag_of types ty) bits) ≡ tag → length (constructors_of types ty) ≤ tag → (v : Val) → Encodes types ty v bits → ⊥
no_tag types table ty tag bits is high (val n vs) h = let e = tag_read types table ty n vs bits h in let low = h.0.0 in absurd (omega arith)

begun_to : (types : List DataTy) → IsTable types → (ty : ℕ) (bits : List Bool) (reading : Reading) → number_of (take (tag_of types ty) bits) ≡ reading.tag →
    reading.fields.now ≡ fields_of types ty reading.tag → reading.rest.now ≡ drop (tag_of types ty) bits → reading.built ≡ [] → (v : Val) → Encodes types ty v bits → ReadsTo types reading v
begun_to types table ty bits reading is ef er eb (val n vs) h =
    let e : reading.tag ≡ n = sym is ∙ tag_read types table ty n vs bits h in
    let f : Fill types (fields_of types ty n) vs (drop (tag_of types ty) bits) = fields_read types table ty n vs bits h in
    let g : Fill types reading.fields.now vs reading.rest.now = rw (ef, er, e) f in
    (vs, g, ap (λ m. val m vs) (sym e) ∙ ap (λ built. val reading.tag (joined (plains built) vs)) (sym eb))

begun_from : (types : List DataTy) → IsTable types → (ty : ℕ) (bits : List Bool) (reading : Reading) → length bits ≡ width_of types ty → number_of (take (tag_of types ty) bits) ≡ reading.tag → reading.tag < length (constructors_of types ty) →
    reading.fields.now ≡ fields_of types ty reading.tag → reading.rest.now ≡ drop (tag_of types ty) bits → reading.built ≡ [] → (v : Val) → ReadsTo types reading v → Encodes types ty v bits
begun_from types table ty bits reading len is low ef er eb v h =
    let vs = h.0 in
    let f : Fill types (fields_of types ty reading.tag) vs (drop (tag_of types ty) bits) = rw (← ef, ← er) h.1 in
    let made = value_made types table ty reading.tag vs bits low len is f in
    let e : val reading.tag vs ≡ v = ap (λ built. val reading.tag (joined (plains built) vs)) (sym eb) ∙ sym h.2 in
    subst (λ (x : Val). Encodes types ty x bits) e made

-- the tag and the rest of the bits are those of the value
pub begun_exact : (types : List DataTy) → IsTable types → (ty : ℕ) (bits : List Bool) (reading : Reading) → length bits ≡ width_of types ty → number_of (take (tag_of types ty) bits) ≡ reading.tag → reading.tag < length (constructors_of types ty) →
    reading.fields.now ≡ fields_of types ty reading.tag → reading.rest.now ≡ drop (tag_of types ty) bits → reading.built ≡ [] → (v : Val) → Encodes types ty v bits ↔ ReadsTo types reading v
begun_exact types table ty bits reading len is low ef er eb v = (begun_to types table ty bits reading is ef er eb v, begun_from types table ty bits reading len is low ef er eb v)

-- the values of a list of fields that isn't empty
first_of_fields : (types : List DataTy) → IsTable types → (ty : ℕ) (tys : List ℕ) (vs : Vals) (bits : List Bool) → Fill types (ty ∷ tys) vs bits →
    (v : Val) × (ws : Vals) × (vs ≡ more v ws) × Encodes types ty v (take (width_of types ty) bits) × Fill types tys ws (drop (width_of types ty) bits)
first_of_fields types table ty tys none bits h = absurd h.0
first_of_fields types table ty tys (more v ws) bits h = let r = first_read types table ty tys v ws bits h in (v, ws, refl, r.0, r.1)

-- how a value that is being read goes on: its first field is read inside, and it waits
pub record IsInside (types : List DataTy) (ty : ℕ) (top outer inner : Reading) : Type 0 where
  pub fields : top.fields.now ≡ ty ∷ outer.fields.now
  pub rest : outer.rest.now ≡ drop (width_of types ty) top.rest.now
  pub tag : outer.tag ≡ top.tag
  pub built : outer.built ≡ top.built
  pub exact : (x : Val) → Encodes types ty x (take (width_of types ty) top.rest.now) ↔ ReadsTo types inner x

down_to : (types : List DataTy) → IsTable types → (ty : ℕ) (top outer inner : Reading) (stack : List Reading) → IsInside types ty top outer inner → (v : Val) → Finishes types top stack v → Finishes types inner (stack ++ outer ∷ []) v
down_to types table ty top outer inner stack is v h =
    let fill : Fill types (ty ∷ outer.fields.now) h.1.0 top.rest.now = subst (λ (tys : List ℕ). Fill types tys h.1.0 top.rest.now) is.fields h.1.1 in
    let r = first_of_fields types table ty outer.fields.now h.1.0 top.rest.now fill in
    let left : Fill types outer.fields.now r.1 outer.rest.now = subst (λ (bits : List Bool). Fill types outer.fields.now r.1 bits) (sym is.rest) r.4 in
    let e : h.0 ≡ val outer.tag (joined (plains outer.built) (more r.0 r.1)) =
    h.1.2 ∙ ap (λ n. val n (joined (plains top.built) h.1.0)) (sym is.tag) ∙ ap (λ built. val outer.tag (joined (plains built) h.1.0)) (sym is.built) ∙ ap (λ vs. val outer.tag (joined (plains outer.built) vs)) r.2 in
    (r.0, (is.exact r.0).0 r.3, ends_out types stack outer r.0 h.0 v (r.1, left, e) h.2)

down_from : (types : List DataTy) → IsTable types → (ty : ℕ) (top outer inner : Reading) (stack : List Reading) → IsInside types ty top outer inner → (v : Val) → Finishes types inner (stack ++ outer ∷ []) v → Finishes types top stack v
down_from types table ty top outer inner stack is v h =
    let g = ends_in types stack outer h.0 v h.2 in
    let left : Fill types outer.fields.now g.1.0 (drop (width_of types ty) top.rest.now) = subst (λ (bits : List Bool). Fill types outer.fields.now g.1.0 bits) is.rest g.1.1 in
    let fill = first_put types table ty outer.fields.now h.0 g.1.0 top.rest.now ((is.exact h.0).1 h.1) left in
    let whole : Fill types top.fields.now (more h.0 g.1.0) top.rest.now = subst (λ (tys : List ℕ). Fill types tys (more h.0 g.1.0) top.rest.now) (sym is.fields) fill in
    let e : g.0 ≡ val top.tag (joined (plains top.built) (more h.0 g.1.0)) =
    g.1.2 ∙ ap (λ n. val n (joined (plains outer.built) (more h.0 g.1.0))) is.tag ∙ ap (λ built. val top.tag (joined (plains built) (more h.0 g.1.0))) is.built in
    (g.0, (more h.0 g.1.0, whole, e), g.2)

-- a field that is begun: what is read ends as before
pub down_exact : (types : List DataTy) → IsTable types → (ty : ℕ) (top outer inner : Reading) (stack : List Reading) → IsInside types ty top outer inner → (v : Val) → Finishes types top stack v ↔ Finishes types inner (stack ++ outer ∷ []) v
down_exact types table ty top outer inner stack is v = (down_to types table ty top outer inner stack is v, down_from types table ty top outer inner stack is v)

-- a field that is no value: nothing is read
pub down_none : (types : List DataTy) → IsTable types → (ty : ℕ) (tys : List ℕ) (top : Reading) (stack : List Reading) → top.fields.now ≡ ty ∷ tys → ((x : Val) → Encodes types ty x (take (width_of types ty) top.rest.now) → ⊥) →
    (v : Val) → Finishes types top stack v → ⊥
down_none types table ty tys top stack ef bad v h =
    let fill : Fill types (ty ∷ tys) h.1.0 top.rest.now = subst (λ (fields : List ℕ). Fill types fields h.1.0 top.rest.now) ef h.1.1 in
    let r = first_of_fields types table ty tys h.1.0 top.rest.now fill in bad r.0 r.3

-- without fields, only zeros are filled
pub no_fields : (types : List DataTy) (vs : Vals) (bits : List Bool) → Fill types [] vs bits → (vs ≡ none) × (replicate (length bits) false ≡ bits)
no_fields types none bits h = let z : length bits - 0 ≡ length bits = omega arith in (refl, ap (λ n. replicate n false) (sym z) ∙ h.1)
no_fields types (more v vs) bits h = absurd h.0

pub zeros_fill : (types : List DataTy) (bits : List Bool) → replicate (length bits) false ≡ bits → Fill types [] none bits
zeros_fill types bits e = let z : length bits - 0 ≡ length bits = omega arith in (tt, ap (λ n. replicate n false) z ∙ e)

-- how a value that is read is put into the one that it is inside
pub record IsPut (top outer outer' : Reading) (value : Value) : Type 0 where
  pub none_left : top.fields.now ≡ []
  pub zeros : replicate (length top.rest.now) false ≡ top.rest.now
  pub read : plain value ≡ val top.tag (vals (plains top.built))
  pub tag : outer'.tag ≡ outer.tag
  pub fields : outer'.fields.now ≡ outer.fields.now
  pub rest : outer'.rest.now ≡ outer.rest.now
  pub built : outer'.built ≡ outer.built ++ value ∷ []

-- the value that is read, where it has no fields left
pub read_whole : (types : List DataTy) (top : Reading) (value : Value) → top.fields.now ≡ [] → replicate (length top.rest.now) false ≡ top.rest.now → plain value ≡ val top.tag (vals (plains top.built)) → ReadsTo types top (plain value)
read_whole types top value ef zeros er =
    let fill : Fill types top.fields.now none top.rest.now = subst (λ (fields : List ℕ). Fill types fields none top.rest.now) (sym ef) (zeros_fill types top.rest.now zeros) in
    (none, fill, er ∙ ap (val top.tag) (sym (joined-none (plains top.built))))

pub read_only : (types : List DataTy) (top : Reading) (value : Value) (x : Val) → top.fields.now ≡ [] → plain value ≡ val top.tag (vals (plains top.built)) → ReadsTo types top x → x ≡ plain value
read_only types top value x ef er h =
    let fill : Fill types [] h.0 top.rest.now = subst (λ (fields : List ℕ). Fill types fields h.0 top.rest.now) ef h.1 in
    h.2 ∙ ap (λ vs. val top.tag (joined (plains top.built) vs)) (no_fields types h.0 top.rest.now fill).0 ∙ ap (val top.tag) (joined-none (plains top.built)) ∙ sym er

put_same : (outer outer' top : Reading) (value : Value) (vs : Vals) → IsPut top outer outer' value → val outer'.tag (joined (plains outer'.built) vs) ≡ val outer.tag (joined (plains outer.built) (more (plain value) vs))
put_same outer outer' top value vs is =
    ap (λ n. val n (joined (plains outer'.built) vs)) is.tag ∙ ap (λ built. val outer.tag (joined (plains built) vs)) is.built
    ∙ ap (λ built. val outer.tag (joined built vs)) (plains-append outer.built value) ∙ ap (val outer.tag) (joined-append (plains outer.built) (plain value) vs)

up_to : (types : List DataTy) (top outer outer' : Reading) (value : Value) (stack : List Reading) → IsPut top outer outer' value → (v : Val) → Finishes types top (stack ++ outer ∷ []) v → Finishes types outer' stack v
up_to types top outer outer' value stack is v h =
    let x = read_only types top value h.0 is.none_left is.read h.1 in
    let g = ends_in types stack outer h.0 v h.2 in
    let fill : Fill types outer'.fields.now g.1.0 outer'.rest.now = rw (is.fields, is.rest) g.1.1 in
    (g.0, (g.1.0, fill, g.1.2 ∙ ap (λ field. val outer.tag (joined (plains outer.built) (more field g.1.0))) x ∙ sym (put_same outer outer' top value g.1.0 is)), g.2)

up_from : (types : List DataTy) (top outer outer' : Reading) (value : Value) (stack : List Reading) → IsPut top outer outer' value → (v : Val) → Finishes types outer' stack v → Finishes types top (stack ++ outer ∷ []) v
up_from types top outer outer' value stack is v h =
    let fill : Fill types outer.fields.now h.1.0 outer.rest.now = rw (← is.fields, ← is.rest) h.1.1 in
    (plain value, read_whole types top value is.none_left is.zeros is.read, ends_out types stack outer (plain value) h.0 v (h.1.0, fill, h.1.2 ∙ put_same outer outer' top value h.1.0 is) h.2)

-- a value that is read: what it is inside of ends as before
pub up_exact : (types : List DataTy) (top outer outer' : Reading) (value : Value) (stack : List Reading) → IsPut top outer outer' value → (v : Val) → Finishes types top (stack ++ outer ∷ []) v ↔ Finishes types outer' stack v
up_exact types top outer outer' value stack is v = (up_to types top outer outer' value stack is v, up_from types top outer outer' value stack is v)

-- a one among the zeros: nothing is read
pub up_none : (types : List DataTy) (top : Reading) (stack : List Reading) → top.fields.now ≡ [] → (replicate (length top.rest.now) false ≡ top.rest.now → ⊥) → (v : Val) → Finishes types top stack v → ⊥
up_none types top stack ef ones v h =
    let fill : Fill types [] h.1.0 top.rest.now = subst (λ (fields : List ℕ). Fill types fields h.1.0 top.rest.now) ef h.1.1 in ones (no_fields types h.1.0 top.rest.now fill).1

-- the steps come to an end
pub down_costs : (types : List DataTy) → IsTable types → (top outer inner : Reading) (old new : List Reading) (ty : ℕ) → new ≡ old ++ outer ∷ [] → top.fields.now ≡ ty ∷ outer.fields.now → AreShort types ty inner.fields.now →
    cost_open types inner.fields.now + reading_cost types new < cost_open types top.fields.now + reading_cost types old
down_costs types table top outer inner old new ty en ef short =
    let f = λ (r : Reading). cost_open types r.fields.now in
    let n = ap (reading_cost types) en in
    let t = ap (sum_by (cost types)) ef in
    let s = cost_short types table ty inner.fields.now short in
    omega (arith, sum_by-append f old (outer ∷ []), sum_by-cons (cost types) ty outer.fields.now)

pub up_costs : (types : List DataTy) (top outer outer' : Reading) (old new : List Reading) → old ≡ new ++ outer ∷ [] → outer'.fields.now ≡ outer.fields.now →
    cost_open types outer'.fields.now + reading_cost types new < cost_open types top.fields.now + reading_cost types old
up_costs types top outer outer' old new eo ef =
    let f = λ (r : Reading). cost_open types r.fields.now in
    let n = ap (reading_cost types) eo in
    let t = ap (sum_by (cost types)) ef in
    omega (arith, sum_by-append f new (outer ∷ []))

-- the first field fits, and what is left too
pub first_roomy : (types : List DataTy) (count most ty : ℕ) (top : Reading) (tys : List ℕ) → IsReading types count most top → top.fields.now ≡ ty ∷ tys → (ty < count) × (width_of types ty ≤ length top.rest.now)
first_roomy types count most ty top tys h ef =
    let s = ap (sum_by (width_of types)) ef in
    let known : All (λ field. field < count) (ty ∷ tys) = subst (All (λ field. field < count)) ef h.known in
    let room = h.roomy.room in
    (all_head (λ field. field < count) ty tys known, omega (arith, sum_by-cons (width_of types) ty tys))

pub outer_roomy : (types : List DataTy) (count most ty : ℕ) (top outer : Reading) → IsReading types count most top → top.fields.now ≡ ty ∷ outer.fields.now → outer.rest.now ≡ drop (width_of types ty) top.rest.now → IsReading types count most outer
outer_roomy types count most ty top outer h ef er =
    let s = ap (sum_by (width_of types)) ef in
    let l = ap length er ∙ length-drop (width_of types ty) top.rest.now in
    let room = h.roomy.room in
    let narrow = h.roomy.narrow in
    let known : All (λ field. field < count) (ty ∷ outer.fields.now) = subst (All (λ field. field < count)) ef h.known in
    record { known = all_tail (λ field. field < count) ty outer.fields.now known; roomy = record { room = omega (arith, sum_by-cons (width_of types) ty outer.fields.now); narrow = omega arith } }

pub inner_roomy : (types : List DataTy) (count most less ty : ℕ) (inner : Reading) → AreShort types ty inner.fields.now → IsRoomy types less inner → ty < count → less ≤ most → IsReading types count most inner
inner_roomy types count most less ty inner short roomy low le =
    let narrow = roomy.narrow in
    record { known = All-below (λ field. field < count) ty inner.fields.now short.earlier (λ x h. omega arith); roomy = record { room = roomy.room; narrow = omega arith } }

pub put_roomy : (types : List DataTy) (count most : ℕ) (outer outer' : Reading) → outer'.fields.now ≡ outer.fields.now → outer'.rest.now ≡ outer.rest.now → IsReading types count most outer → IsReading types count most outer'
put_roomy types count most outer outer' ef er h =
    let s = ap (sum_by (width_of types)) ef in
    let l = ap length er in
    let room = h.roomy.room in
    let narrow = h.roomy.narrow in
    record { known = subst (All (λ field. field < count)) (sym ef) h.known; roomy = record { room = omega arith; narrow = omega arith } }

-- the width of the first field, which stands at no limit
pub first_width : (types : List DataTy) (count most ty : ℕ) (top : Reading) (tys widths : List ℕ) → AreWidths (most + 1) types count widths → IsReading types count most top → top.fields.now ≡ ty ∷ tys → slice_index widths ty ≡ width_of types ty
first_width types count most ty top tys widths are h ef =
    let fits = first_roomy types count most ty top tys h ef in
    let low : ty < count = fits.0 in
    let short : width_of types ty ≤ length top.rest.now = fits.1 in
    let narrow = h.roomy.narrow in
    let e = are.each ty low in omega arith

-- what is begun alone ends as itself
pub alone_exact : (types : List DataTy) (ty : ℕ) (bits : List Bool) (first : Reading) (stack : List Reading) → stack ≡ [] → ((v : Val) → Encodes types ty v bits ↔ ReadsTo types first v) → (v : Val) → Encodes types ty v bits ↔ Finishes types first stack v
alone_exact types ty bits first stack e exact v =
    let empty : Encodes types ty v bits ↔ Finishes types first [] v = ((λ h. (v, (exact v).0 h, refl)), (λ h. (exact v).1 (subst (λ (x : Val). ReadsTo types first x) h.2 h.1))) in
    subst (λ (s : List Reading). Encodes types ty v bits ↔ Finishes types first s v) (sym e) empty

-- one thing is as another, which is as a third
pub both_ways : {A B C : Type 0} → A ↔ B → B ↔ C → A ↔ C
both_ways p q = ((λ a. q.0 (p.0 a)), (λ c. p.1 (q.1 c)))

pub none_long : {X : Type 0} (xs : List X) → length xs ≡ 0 → xs ≡ []
none_long [] e = refl
none_long (x ∷ xs) e = absurd (omega arith)

-- a type that isn't in the table has no value
pub no_type : (types : List DataTy) (ty : ℕ) → length types ≤ ty → (v : Val) → IsValue types ty v → ⊥
no_type types ty high (val tag fields) h =
    let e = ap (λ (t : DataTy). length t.constructors) (get_or-eq_default types (record { constructors = [] }) high) in
    let low = h.0 in absurd (omega arith)

-- bits without a one are zeros, and zeros have no one
pub zeros_of : (bits : List Bool) → list_any (λ y. beq y true) bits ≡ false → replicate (length bits) false ≡ bits
zeros_of [] h = refl
zeros_of (true ∷ bits) h = cc
zeros_of (false ∷ bits) h = ap (λ ys. false ∷ ys) (zeros_of bits h)

pub no_one : (n : ℕ) → list_any (λ y. beq y true) (replicate n false) ≡ false
no_one zero = refl
no_one (suc n) = no_one n

pub ones_of : (bits : List Bool) → list_any (λ y. beq y true) bits ≡ true → replicate (length bits) false ≡ bits → ⊥
ones_of bits h e = let z = no_one (length bits) in let f = ap (list_any (λ y. beq y true)) e in cc
