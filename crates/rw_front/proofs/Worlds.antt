-- The world of a program does not depend on what stands at its nodes, nor on the clauses of its functions.
use Rattle.std.proofs.Common.{◌≡◌, ◌∙◌, refl, sym, ap, ℕ, suc, List, [], ◌∷◌, ◌++◌, map, flat_map, Option, Some, None}
use mathlib.Core.Path.{fun_ext}
use Rattle.rw_base.specs.declared.place.Span.{Span}
use Rattle.rw_tree.specs.Views.{itself}
use Rattle.rw_tree.specs.declared.decl.Decl.{Decl}
use Rattle.rw_tree.specs.declared.decl.Decl.TheVariants.{Import, Data, Fixity, Sig, Fun}
use Rattle.rw_tree.specs.declared.types.Kind.{Kind}
use Rattle.rw_tree.specs.declared.types.Kind.TheVariants as k
use Rattle.rw_tree.specs.Types.{WrittenType}
use Rattle.rw_tree.specs.Declarations.{Declaration, import_declaration, data_declaration, fixity_declaration, signature_declaration, function_declaration, declaration}
use Rattle.rw_scope_rules.specs.declared.binding.Bound.{Bound}
use Rattle.rw_scope_rules.specs.Names.{Bytes, first_named}
use Rattle.rw_scope_rules.specs.Bindings.{Tops, bound_declarations}
use Rattle.rw_scope_rules.specs.Kinds.{data_kinds, computations, takes_in_signature}
use Rattle.rw_types_rules.specs.Written.{data_types_from}
use Rattle.rw_types_rules.specs.Schemes.{Scheme, World, signatures_in, signature_scheme, scheme_if, declared_scheme, constructor_schemes, constructed_from, world_of}

abbrev pub nowhere : Span
nowhere = record { first = record { line = 0; column = 0 }; from = 0; to = 0 }

-- what a world needs of a declaration
abbrev pub bare : {X : Type 0} → Declaration X → Declaration Span
bare (import_declaration a m) = import_declaration nowhere m
bare (data_declaration a x params constructors) = data_declaration nowhere x params constructors
bare (fixity_declaration a side strength names) = fixity_declaration nowhere side strength names
bare (signature_declaration a names type) = signature_declaration nowhere names type
bare (function_declaration a x clauses) = function_declaration nowhere x []

types_same : (n : ℕ) (ds : List (Declaration Span)) → data_types_from n (map bare ds) ≡ data_types_from n ds
types_same n [] = refl
types_same n (import_declaration a m ∷ ds) = types_same (suc n) ds
types_same n (data_declaration a x params constructors ∷ ds) = ap (λ (ts : List (Bytes × ℕ)). (x, n) ∷ ts) (types_same (suc n) ds)
types_same n (fixity_declaration a side strength names ∷ ds) = types_same (suc n) ds
types_same n (signature_declaration a names type ∷ ds) = types_same (suc n) ds
types_same n (function_declaration a x clauses ∷ ds) = types_same (suc n) ds

kinds_same : (ds : List (Declaration Span)) → flat_map data_kinds (map bare ds) ≡ flat_map data_kinds ds
kinds_same [] = refl
kinds_same (import_declaration a m ∷ ds) = kinds_same ds
kinds_same (data_declaration a x params constructors ∷ ds) = ap (λ ts. data_kinds (data_declaration a x params constructors) ++ ts) (kinds_same ds)
kinds_same (fixity_declaration a side strength names ∷ ds) = kinds_same ds
kinds_same (signature_declaration a names type ∷ ds) = kinds_same ds
kinds_same (function_declaration a x clauses ∷ ds) = kinds_same ds

signatures_same : (ds : List (Declaration Span)) → flat_map signatures_in (map bare ds) ≡ flat_map signatures_in ds
signatures_same [] = refl
signatures_same (import_declaration a m ∷ ds) = signatures_same ds
signatures_same (data_declaration a x params constructors ∷ ds) = signatures_same ds
signatures_same (fixity_declaration a side strength names ∷ ds) = signatures_same ds
signatures_same (signature_declaration a names type ∷ ds) = ap (λ ts. signatures_in (signature_declaration a names type) ++ ts) (signatures_same ds)
signatures_same (function_declaration a x clauses ∷ ds) = signatures_same ds

made_same : (types : List (Bytes × ℕ)) (n : ℕ) (ds : List (Declaration Span)) → constructed_from types n (map bare ds) ≡ constructed_from types n ds
made_same types n [] = refl
made_same types n (import_declaration a m ∷ ds) = ap (λ (ss : List (List Scheme)). [] ∷ ss) (made_same types (suc n) ds)
made_same types n (data_declaration a x params constructors ∷ ds) =
    ap (λ ss. constructor_schemes types n (data_declaration a x params constructors) ∷ ss) (made_same types (suc n) ds)
made_same types n (fixity_declaration a side strength names ∷ ds) = ap (λ (ss : List (List Scheme)). [] ∷ ss) (made_same types (suc n) ds)
made_same types n (signature_declaration a names type ∷ ds) = ap (λ (ss : List (List Scheme)). [] ∷ ss) (made_same types (suc n) ds)
made_same types n (function_declaration a x clauses ∷ ds) = ap (λ (ss : List (List Scheme)). [] ∷ ss) (made_same types (suc n) ds)

takes_at : (ds : List (Declaration Span)) (c : Bytes) (kind : Kind) → takes_in_signature (map bare ds) c kind ≡ takes_in_signature ds c kind
takes_at ds c k.Plain = ap (λ ts. first_named c (computations ++ ts)) (kinds_same ds)
takes_at ds c k.StateMonad = refl
takes_at ds c k.Monad = refl

takes_same : (ds : List (Declaration Span)) → takes_in_signature (map bare ds) ≡ takes_in_signature ds
takes_same ds = fun_ext (λ c. fun_ext (λ kind. takes_at ds c kind))

scheme_same : (ds : List (Declaration Span)) (type : WrittenType) → signature_scheme (map bare ds) type ≡ signature_scheme ds type
scheme_same ds type = cc_schemes (takes_same ds) (types_same 0 ds)
  where
    cc_schemes : takes_in_signature (map bare ds) ≡ takes_in_signature ds → data_types_from 0 (map bare ds) ≡ data_types_from 0 ds → signature_scheme (map bare ds) type ≡ signature_scheme ds type
    cc_schemes takes types = rw takes (rw types refl)

scheme_if_same : (ds : List (Declaration Span)) (type : Option WrittenType) → scheme_if (map bare ds) type ≡ scheme_if ds type
scheme_if_same ds None = refl
scheme_if_same ds (Some type) = ap Some (scheme_same ds type)

declared_at : (ds : List (Declaration Span)) (d : Declaration Span) → declared_scheme (map bare ds) (bare d) ≡ declared_scheme ds d
declared_at ds (import_declaration a m) = refl
declared_at ds (data_declaration a x params constructors) = refl
declared_at ds (fixity_declaration a side strength names) = refl
declared_at ds (signature_declaration a names type) = refl
declared_at ds (function_declaration a x clauses) =
    scheme_if_same ds (first_named x (flat_map signatures_in (map bare ds))) ∙ ap (λ ts. scheme_if ds (first_named x ts)) (signatures_same ds)

declared_same : (ds es : List (Declaration Span)) → map (declared_scheme (map bare ds)) (map bare es) ≡ map (declared_scheme ds) es
declared_same ds [] = refl
declared_same ds (e ∷ es) = rw (declared_at ds e) (ap (λ rest. declared_scheme ds e ∷ rest) (declared_same ds es))

world_with : List (Bytes × ℕ) → List (Option Scheme) → List (List Scheme) → World
world_with types declared constructed = record { types = types; declared = declared; constructed = constructed }

pub world_bare : (ds : List (Declaration Span)) → world_of (map bare ds) ≡ world_of ds
unfolding world_with
world_bare ds = rw (types_same 0 ds) (rw (declared_same ds ds) (rw (made_same (data_types_from 0 ds) 0 ds) refl))

-- what is seen at the nodes is of no account
seen_bare : {A X Y : Type 0} (f : A → X) (g : A → Y) (ds : List (Decl A)) → map bare (map (declaration f) ds) ≡ map bare (map (declaration g) ds)
seen_bare f g [] = refl
seen_bare f g (Import a m ∷ ds) = ap (λ es. bare (declaration f (Import a m)) ∷ es) (seen_bare f g ds)
seen_bare f g (Data a made ∷ ds) = ap (λ es. bare (declaration f (Data a made)) ∷ es) (seen_bare f g ds)
seen_bare f g (Fixity a side strength names ∷ ds) = ap (λ es. bare (declaration f (Fixity a side strength names)) ∷ es) (seen_bare f g ds)
seen_bare f g (Sig a names type ∷ ds) = ap (λ es. bare (declaration f (Sig a names type)) ∷ es) (seen_bare f g ds)
seen_bare f g (Fun a name clauses ∷ ds) = ap (λ es. bare (declaration f (Fun a name clauses)) ∷ es) (seen_bare f g ds)

bound_bare : (tops : Tops) (n : ℕ) (ds : List (Declaration Span)) → map bare (bound_declarations tops n ds) ≡ map bare ds
bound_bare tops n [] = refl
bound_bare tops n (import_declaration a m ∷ ds) = ap (λ es. import_declaration nowhere m ∷ es) (bound_bare tops (suc n) ds)
bound_bare tops n (data_declaration a x params constructors ∷ ds) = ap (λ es. data_declaration nowhere x params constructors ∷ es) (bound_bare tops (suc n) ds)
bound_bare tops n (fixity_declaration a side strength names ∷ ds) = ap (λ es. fixity_declaration nowhere side strength names ∷ es) (bound_bare tops (suc n) ds)
bound_bare tops n (signature_declaration a names type ∷ ds) = ap (λ es. signature_declaration nowhere names type ∷ es) (bound_bare tops (suc n) ds)
bound_bare tops n (function_declaration a x clauses ∷ ds) = ap (λ es. function_declaration nowhere x [] ∷ es) (bound_bare tops (suc n) ds)

-- the world of a bound tree is that of the tree before
pub bound_world : (decls : List (Decl Bound)) (tops : Tops) (ds : List (Declaration Span)) → map (declaration itself) decls ≡ bound_declarations tops 0 ds
    → world_of (map (declaration (λ a. a.span)) decls) ≡ world_of ds
bound_world decls tops ds e =
    sym (world_bare (map (declaration (λ a. a.span)) decls))
    ∙ ap world_of (seen_bare (λ (a : Bound). a.span) (λ (a : Bound). a) decls ∙ ap (map bare) e ∙ bound_bare tops 0 ds)
    ∙ world_bare ds
