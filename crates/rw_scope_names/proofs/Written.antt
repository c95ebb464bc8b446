-- The names in several types: all are known, or those of one type are not.
use Rattle.std.proofs.Common.{◌≡◌, ◌∙◌, ℕ, suc, zero, ◌<◌, refl, sym, ap, List, [], ◌∷◌, ◌++◌, get_or, length, map, flat_map, arith, Bool, true, false, ◌&&◌}
use Rattle.std.proofs.lemmas.List.Folds.{list_all-append}
use Rattle.std.proofs.lemmas.List.Concat.{flat_map-append}
use Rattle.rw_tree.specs.Types.{WrittenType, type_parts}
use Rattle.rw_tree.specs.Declarations.{PlainConstructor}
use Rattle.rw_scope_rules.specs.Names.{Bytes, is_among}
use Rattle.rw_scope_rules.specs.Scope.{are_among, fields_of, type_constructors, type_variables, types_constructors, types_variables}

pub types_constructors-listed : (ts : List WrittenType) → types_constructors (type_parts ts) ≡ flat_map type_constructors ts
types_constructors-listed [] = refl
types_constructors-listed (t ∷ ts) = ap (λ ns. type_constructors t ++ ns) (types_constructors-listed ts)

pub types_variables-listed : (ts : List WrittenType) → types_variables (type_parts ts) ≡ flat_map type_variables ts
types_variables-listed [] = refl
types_variables-listed (t ∷ ts) = ap (λ ns. type_variables t ++ ns) (types_variables-listed ts)

pub fields-listed : (names : WrittenType → List Bytes) (cs : List PlainConstructor) → flat_map names (fields_of cs) ≡ flat_map (λ c. flat_map names c.field_types) cs
fields-listed names [] = refl
fields-listed names (c ∷ cs) = flat_map-append names c.field_types (fields_of cs) ∙ ap (λ ns. flat_map names c.field_types ++ ns) (fields-listed names cs)

first_fails : (a b : Bool) → false ≡ a → false ≡ (a && b)
first_fails a b miss = ap (λ v. v && b) miss

last_fails : (a b : Bool) → false ≡ b → false ≡ (a && b)
last_fails true b miss = miss
last_fails false b miss = refl

-- the names of one are not all known
pub fails : {T S : Type 0} (names : S → List Bytes) (plain : T → S) (ts : List T) (i : ℕ) (t : T) (known : List Bytes) → i < length ts → t ≡ get_or ts i t
    → false ≡ are_among (names (plain t)) known → false ≡ are_among (flat_map names (map plain ts)) known
fails names plain [] i t known within read miss = absurd (omega arith)
fails names plain (u ∷ ts) zero t known within read miss =
    first_fails (are_among (names (plain u)) known) (are_among (flat_map names (map plain ts)) known) (miss ∙ ap (λ v. are_among (names (plain v)) known) read)
    ∙ sym (list_all-append (λ x. is_among x known) (names (plain u)) (flat_map names (map plain ts)))
fails names plain (u ∷ ts) (suc i) t known within read miss =
    last_fails (are_among (names (plain u)) known) (are_among (flat_map names (map plain ts)) known) (fails names plain ts i t known (omega arith) read miss)
    ∙ sym (list_all-append (λ x. is_among x known) (names (plain u)) (flat_map names (map plain ts)))
