-- Declarations one after the other.
use Rattle.std.proofs.Common.{◌≡◌, ℕ, suc, List, [], ◌∷◌, ◌++◌, map, refl, ap, ◌∙◌}
use Rattle.rw_base.specs.declared.place.Span.{Span}
use Rattle.rw_tree.specs.declared.types.Kind.TheVariants as k
use Rattle.rw_tree.specs.Types.{WrittenType}
use Rattle.rw_tree.specs.Declarations.{Declaration, import_declaration, data_declaration, fixity_declaration, signature_declaration, function_declaration}
use Rattle.rw_scope_rules.specs.Names.{Bytes}
use Rattle.rw_scope_rules.specs.Kinds.{uses_of}
use Rattle.rw_types_solving.specs.declared.term.Term.{Term}
use Rattle.rw_types_solving.specs.Types.{Ty, plains}
use Rattle.rw_types_rules.specs.declared.kind.VariableKind.{VariableKind}
use Rattle.rw_types_rules.specs.Written.{data_types_from, type_of, kind_in, known_uses, signature_variables, signature_kinds}
use Rattle.rw_types_rules.specs.Schemes.{Scheme, signature_scheme}
use Rattle.rw_scope_uses.specs.declared.context.Context.{Context}
use Rattle.rw_scope_uses.specs.Contexts.{takes_in, IsOfSignatures}
use Rattle.rw_types_world.specs.Parts.{data_type_at}

pub one_type_more : (n : ℕ) (d : Declaration Span) (ds : List (Declaration Span)) → data_types_from n (d ∷ ds) ≡ data_type_at n d ++ data_types_from (suc n) ds
one_type_more n (import_declaration a m) ds = refl
one_type_more n (data_declaration a x params constructors) ds = refl
one_type_more n (fixity_declaration a side strength names) ds = refl
one_type_more n (signature_declaration a names type) ds = refl
one_type_more n (function_declaration a x clauses) ds = refl

abbrev scheme_with : List VariableKind → List Ty → Ty → Scheme
scheme_with kinds takes gives = record { kinds = kinds; takes = takes; gives = gives }

-- the type of a signature
pub scheme_made : (decls : List (Declaration Span)) (context : Context) → IsOfSignatures decls context → (type : WrittenType) (types : List (Bytes × ℕ)) (variables first second : List Bytes) (kinds : List VariableKind) (takes : List Term) (gives : Ty)
    → variables ≡ signature_variables type → types ≡ data_types_from 0 decls → first ≡ variables → second ≡ variables
    → kinds ≡ map (kind_in (known_uses (uses_of (takes_in context) context.arrows type [] k.Plain))) first → takes ≡ [] → gives ≡ type_of types second type
    → scheme_with kinds (plains takes) gives ≡ signature_scheme decls type
scheme_made decls context s type types variables first second kinds takes gives v t f g e n h =
    ap (λ z. scheme_with z (plains takes) gives)
    (e ∙ ap (map (kind_in (known_uses (uses_of (takes_in context) context.arrows type [] k.Plain)))) (f ∙ v)
    ∙ (λ i. map (kind_in (known_uses (uses_of (s.takes i) (s.arrows i) type [] k.Plain))) (signature_variables type)))
    ∙ ap (λ z. scheme_with (signature_kinds decls type) (plains z) gives) n
    ∙ ap (scheme_with (signature_kinds decls type) []) (h ∙ ap (λ z. type_of types z type) (g ∙ v) ∙ ap (λ z. type_of z (signature_variables type) type) t)
