-- What a program's declarations say of its data types agrees.
use Rattle.std.proofs.Common.{◌≡◌, ◌∙◌, refl, sym, ap, subst, arith, ℕ, zero, suc, ◌+◌, List, [], ◌∷◌, map, length, get_or, slice_get, Some}
use Rattle.rw_base.specs.declared.place.Span.{Span}
use Rattle.rw_tree.specs.Declarations.{PlainConstructor, Declaration, import_declaration, data_declaration, fixity_declaration, signature_declaration, function_declaration}
use Rattle.rw_scope_rules.specs.Names.{Bytes}
use Rattle.rw_types_solving.specs.Types.{Ty, var}
use Rattle.rw_types_rules.specs.declared.kind.VariableKind.TheVariants.{Plain}
use Rattle.rw_types_rules.specs.Words.{data_type, variables_from}
use Rattle.rw_types_rules.specs.Written.{data_types_from}
use Rattle.rw_types_rules.specs.Relabelled.{relabelled_declaration}
use Rattle.rw_types_rules.specs.TypedTrees.{TypedNode, erased}
use Rattle.rw_types_rules.specs.Schemes.{Scheme, world_of, constructor_scheme, constructor_schemes, constructed_from}
use Rattle.rw_cover.specs.Rows.{constructor_count, counts_of}
use Rattle.rw_cover_laws.specs.Shapes.{IsWorld}
use Rattle.rw_cover_laws.specs.Columns.{world_in}

plain_variables : (n : ℕ) (params : List Bytes) → variables_from n params ≡ variables_from n (map (λ (p : Bytes). Plain) params)
plain_variables n [] = refl
plain_variables n (p ∷ ps) = ap (λ (ts : List Ty). var n ∷ ts) (plain_variables (suc n) ps)

scheme_gives : (types : List (Bytes × ℕ)) (n : ℕ) (params : List Bytes) (constructors : List PlainConstructor) (place : ℕ) (s : Scheme)
    → slice_get (map (constructor_scheme types n params) constructors) place ≡ Some s → s.gives ≡ data_type n (variables_from 0 s.kinds)
scheme_gives types n params [] place s e = absurd (cc)
scheme_gives types n params (c ∷ cs) zero s e =
    let f : constructor_scheme types n params c ≡ s = cc in
    subst (λ (x : Scheme). x.gives ≡ data_type n (variables_from 0 x.kinds)) f (ap (data_type n) (plain_variables 0 params))
scheme_gives types n params (c ∷ cs) (suc place) s e = scheme_gives types n params cs place s e

schemes_give : (types : List (Bytes × ℕ)) (n : ℕ) (d : Declaration Span) (place : ℕ) (s : Scheme) → slice_get (constructor_schemes types n d) place ≡ Some s → s.gives ≡ data_type n (variables_from 0 s.kinds)
schemes_give types n (data_declaration a x params constructors) place s e = scheme_gives types n params constructors place s e
schemes_give types n (import_declaration a m) place s e = absurd (cc)
schemes_give types n (fixity_declaration a side strength names) place s e = absurd (cc)
schemes_give types n (signature_declaration a names type) place s e = absurd (cc)
schemes_give types n (function_declaration a x clauses) place s e = absurd (cc)

all_give : (types : List (Bytes × ℕ)) (from : ℕ) (ds : List (Declaration Span)) (n place : ℕ) (s : Scheme) → slice_get (get_or (constructed_from types from ds) n []) place ≡ Some s
    → s.gives ≡ data_type (from + n) (variables_from 0 s.kinds)
all_give types from [] n place s e = absurd (cc)
all_give types from (d ∷ ds) zero place s e =
    subst (λ (k : ℕ). s.gives ≡ data_type k (variables_from 0 s.kinds)) (let z : from ≡ from + 0 = omega arith in z) (schemes_give types from d place s e)
all_give types from (d ∷ ds) (suc n) place s e =
    subst (λ (k : ℕ). s.gives ≡ data_type k (variables_from 0 s.kinds)) (let z : suc from + n ≡ from + suc n = omega arith in z) (all_give types (suc from) ds n place s e)

length_of : {X Y : Type 0} (f : X → Y) (xs : List X) → length xs ≡ length (map f xs)
length_of f [] = refl
length_of f (x ∷ xs) = ap suc (length_of f xs)

count_is : (types : List (Bytes × ℕ)) (n : ℕ) (d : Declaration Span) → constructor_count d ≡ length (constructor_schemes types n d)
count_is types n (data_declaration a x params constructors) = length_of (constructor_scheme types n params) constructors
count_is types n (import_declaration a m) = refl
count_is types n (fixity_declaration a side strength names) = refl
count_is types n (signature_declaration a names type) = refl
count_is types n (function_declaration a x clauses) = refl

counts_are : (types : List (Bytes × ℕ)) (from : ℕ) (ds : List (Declaration Span)) (n : ℕ) → get_or (counts_of ds) n 0 ≡ length (get_or (constructed_from types from ds) n [])
counts_are types from [] n = refl
counts_are types from (d ∷ ds) zero = count_is types from d
counts_are types from (d ∷ ds) (suc n) = counts_are types (suc from) ds n

pub world_is : (decls : List (Declaration Span)) → IsWorld (world_of decls) (counts_of decls)
world_is decls = record {
  gives = λ n place s e. subst (λ (k : ℕ). s.gives ≡ data_type k (variables_from 0 s.kinds)) (let z : 0 + n ≡ n = omega arith in z) (all_give (data_types_from 0 decls) 0 decls n place s e);
  counted = counts_are (data_types_from 0 decls) 0 decls;
}

-- other things at the nodes change no number
same_counts : {X Y : Type 0} (see : X → Y) (ds : List (Declaration X)) → counts_of (map (relabelled_declaration see) ds) ≡ counts_of ds
same_counts see [] = refl
same_counts see (import_declaration a m ∷ ds) = ap (λ (ns : List ℕ). 0 ∷ ns) (same_counts see ds)
same_counts see (data_declaration a x params constructors ∷ ds) = ap (λ (ns : List ℕ). length constructors ∷ ns) (same_counts see ds)
same_counts see (fixity_declaration a side strength names ∷ ds) = ap (λ (ns : List ℕ). 0 ∷ ns) (same_counts see ds)
same_counts see (signature_declaration a names type ∷ ds) = ap (λ (ns : List ℕ). 0 ∷ ns) (same_counts see ds)
same_counts see (function_declaration a x clauses ∷ ds) = ap (λ (ns : List ℕ). 0 ∷ ns) (same_counts see ds)

pub typed_world_is : (typed : List (Declaration TypedNode)) → IsWorld (world_in typed) (counts_of (map erased typed))
typed_world_is typed =
    subst (IsWorld (world_in typed)) (same_counts (λ (a : TypedNode). a.node.span) typed ∙ sym (same_counts (λ (a : TypedNode). a.node) typed))
    (world_is (map (relabelled_declaration (λ (a : TypedNode). a.node.span)) typed))
