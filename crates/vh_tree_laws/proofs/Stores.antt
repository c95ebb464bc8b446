-- Stores whose values have their widths: what is read has its width, and an assignment that agrees keeps them.
use Rattle.std.proofs.Common.{◌≡◌, ℕ, suc, ◌≤◌, List, [], ◌∷◌, ◌++◌, length, get_or, take, drop, map, Bool, true, false, ◌⊎◌, inl, inr, refl, ap, sym, subst, ◌∙◌, Option, Some, None, arith, eqb→eq, T, if◌then◌else◌}
use Rattle.std.proofs.lemmas.List.{length-replicate}
use mathlib.Core.Bool.{true≢false}
use Rattle.vh_tree.specs.Bits.{Bytes, Bits, same_name, is_among}
use Rattle.vh_tree.specs.Functions.{Calls, Store, held, stored, value_in, variable_of, parameters_of}
use Rattle.vh_tree.specs.StaticRules.{Width, Shape, width_of_name, result_of, agree, width_among, parameter_vars, names_of}
use Rattle.vh_tree.specs.Widths.{HasWidth, StoreHasWidths}
use Rattle.vh_tree.specs.declared.function.Var.{Var}
use Rattle.vh_tree.specs.declared.wire.Held.{Held}
use Rattle.vh_tree_laws.proofs.Comparisons.{either_cases, either_left, either_right, name_turned}

named_step : (b c : Bool) → c ≡ b → (n : ℕ) (w : Width) (shape : Option Shape) (u r : Bits) → length u ≡ n → HasWidth (width_of_name w shape) r →
    HasWidth (width_of_name (if b then Some n else w) shape) (if c then u else r)
named_step true true e n w shape u r h k = h
named_step false false e n w shape u r h k = k
named_step true false e n w shape u r h k = absurd (true≢false (sym e))
named_step false true e n w shape u r h k = absurd (true≢false e)

-- the value of a name, also where the name is a function's
pub value_width : (vs : List Var) (store : Store) → StoreHasWidths vs store → (calls : Calls) (x : Bytes) (shape : Option Shape) → HasWidth (result_of shape) (calls x []) →
    HasWidth (width_of_name (width_among vs x) shape) (value_in store calls x)
value_width [] [] h calls x shape k = k
value_width [] (a ∷ hs) h calls x shape k = absurd h
value_width (v ∷ vs) [] h calls x shape k = absurd h
value_width (v ∷ vs) (a ∷ hs) h calls x shape k =
    named_step (same_name v.name x) (same_name a.name x) (ap (λ n. same_name n x) h.0) v.width (width_among vs x) shape a.value (value_in hs calls x) h.1 (value_width vs hs h.2 calls x shape k)

read_step : (b c : Bool) → c ≡ b → (n : ℕ) (w : Width) (u r : Bits) → length u ≡ n → (b ≡ false → HasWidth w r) → HasWidth (if b then Some n else w) (if c then u else r)
read_step true true e n w u r h k = h
read_step false false e n w u r h k = k refl
read_step true false e n w u r h k = absurd (true≢false (sym e))
read_step false true e n w u r h k = absurd (true≢false e)

among_rest : (x y : Bytes) (names : List Bytes) → same_name y x ≡ false → (same_name x y ≡ true) ⊎ (is_among x names ≡ true) → is_among x names ≡ true
among_rest x y names ne (inl e) = absurd (true≢false (sym (name_turned x y e) ∙ ne))
among_rest x y names ne (inr a) = a

-- the value of a name of the store
pub read_width : (vs : List Var) (store : Store) → StoreHasWidths vs store → (calls : Calls) (x : Bytes) → is_among x (names_of vs) ≡ true → HasWidth (width_among vs x) (value_in store calls x)
read_width [] [] h calls x a = absurd (true≢false (sym a))
read_width [] (b ∷ hs) h calls x a = absurd h
read_width (v ∷ vs) [] h calls x a = absurd h
read_width (v ∷ vs) (b ∷ hs) h calls x a =
    read_step (same_name v.name x) (same_name b.name x) (ap (λ n. same_name n x) h.0) v.width (width_among vs x) b.value (value_in hs calls x) h.1
    (λ ne. read_width vs hs h.2 calls x (among_rest x v.name (names_of vs) ne (either_cases (same_name x v.name) (is_among x (names_of vs)) a)))

agreed_with : (n : ℕ) (w : Width) (value : Bits) → agree (Some n) w ≡ true → HasWidth w value → length value ≡ n
agreed_with n None value a h = absurd h
agreed_with n (Some m) value a h = h ∙ sym (eqb→eq n m (subst T (sym a) tt))

stored_step : (v : Var) (vs : List Var) (a : Held) (hs : Store) (x : Bytes) (w : Width) (value : Bits) (b c : Bool) → c ≡ b → StoreHasWidths (v ∷ vs) (a ∷ hs) →
    agree (if b then Some v.width else width_among vs x) w ≡ true → HasWidth w value → (agree (width_among vs x) w ≡ true → StoreHasWidths vs (stored x value hs)) →
    StoreHasWidths (v ∷ vs) (if c then held a.name value ∷ hs else a ∷ stored x value hs)
stored_step v vs a hs x w value true true e h g k rest = (h.0, agreed_with v.width w value g k, h.2)
stored_step v vs a hs x w value false false e h g k rest = (h.0, h.1, rest g)
stored_step v vs a hs x w value true false e h g k rest = absurd (true≢false (sym e))
stored_step v vs a hs x w value false true e h g k rest = absurd (true≢false e)

pub stored_width : (vs : List Var) (store : Store) → StoreHasWidths vs store → (x : Bytes) (w : Width) (value : Bits) → agree (width_among vs x) w ≡ true → HasWidth w value → StoreHasWidths vs (stored x value store)
stored_width [] [] h x w value g k = tt
stored_width [] (a ∷ hs) h x w value g k = absurd h
stored_width (v ∷ vs) [] h x w value g k = absurd h
stored_width (v ∷ vs) (a ∷ hs) h x w value g k =
    stored_step v vs a hs x w value (same_name v.name x) (same_name a.name x) (ap (λ n. same_name n x) h.0) h g k (λ g'. stored_width vs hs h.2 x w value g' k)

pub append_widths : (vs : List Var) (s : Store) (us : List Var) (t : Store) → StoreHasWidths vs s → StoreHasWidths us t → StoreHasWidths (vs ++ us) (s ++ t)
append_widths [] [] us t h k = k
append_widths [] (a ∷ s) us t h k = absurd h
append_widths (v ∷ vs) [] us t h k = absurd h
append_widths (v ∷ vs) (a ∷ s) us t h k = (h.0, h.1, append_widths vs s us t h.2 k)

pub variables_width : (vs : List Var) → StoreHasWidths vs (map variable_of vs)
variables_width [] = tt
variables_width (v ∷ vs) = (refl, length-replicate _ _, variables_width vs)

pub parameters_width : (ps : List Bytes) (vs : List Var) (args : List Bits) → length ps ≤ length vs → map length args ≡ take (length ps) (map (λ v. v.width) vs) →
    StoreHasWidths (parameter_vars ps vs) (parameters_of ps args)
parameters_width [] vs args long e = tt
parameters_width (p ∷ ps) [] args long e = absurd (omega arith)
parameters_width (p ∷ ps) (v ∷ vs) [] long e = absurd (let l : 0 ≡ suc (length (take (length ps) (map (λ (u : Var). u.width) vs))) = ap length e in omega arith)
parameters_width (p ∷ ps) (v ∷ vs) (a ∷ args) long e =
    (refl, ap (λ (ns : List ℕ). get_or ns 0 0) e, parameters_width ps vs args (omega arith) (ap (λ (ns : List ℕ). drop 1 ns) e))

pub among_later : (x : Bytes) (us vs : List Var) → is_among x (names_of vs) ≡ true → is_among x (names_of (us ++ vs)) ≡ true
among_later x [] vs a = a
among_later x (u ∷ us) vs a = either_right (same_name x u.name) (is_among x (names_of (us ++ vs))) (among_later x us vs a)

among_first : (x y : Bytes) (names more : List Bytes) → (is_among x names ≡ true → is_among x more ≡ true) → (same_name x y ≡ true) ⊎ (is_among x names ≡ true) → is_among x (y ∷ more) ≡ true
among_first x y names more rest (inl e) = either_left (same_name x y) (is_among x more) e
among_first x y names more rest (inr a) = either_right (same_name x y) (is_among x more) (rest a)

pub among_earlier : (x : Bytes) (us vs : List Var) → is_among x (names_of us) ≡ true → is_among x (names_of (us ++ vs)) ≡ true
among_earlier x [] vs a = absurd (true≢false (sym a))
among_earlier x (u ∷ us) vs a = among_first x u.name (names_of us) (names_of (us ++ vs)) (among_earlier x us vs) (either_cases (same_name x u.name) (is_among x (names_of us)) a)
