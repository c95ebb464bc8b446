-- The two contexts.
use Rattle.std.proofs.Common.{◌≡◌, true, false, List, [], ◌++◌, append_assoc, flat_map, refl, sym, ap, ◌∙◌}
use Rattle.rw_base.specs.declared.place.Span.{Span}
use Rattle.rw_tree.specs.declared.types.Kind.{Kind}
use Rattle.rw_tree.specs.declared.types.Kind.TheVariants.{Plain, StateMonad, Monad}
use Rattle.rw_tree.specs.Declarations.{Declaration}
use Rattle.rw_scope_rules.specs.Names.{Bytes, first_named}
use Rattle.rw_scope_rules.specs.Kinds.{data_kinds, computations, state_monads, takes_in_signature, takes_in_field}
use Rattle.rw_scope_uses.specs.declared.context.Context.{Context}
use Rattle.rw_scope_uses.specs.Contexts.{takes_in, IsOfSignatures, IsOfFields}
use Rattle.rw_scope_uses.proofs.Tables.{by_itself}

module _ (decls : List (Declaration Span)) where
  field_takes : (context : Context) → ((x : Bytes) → first_named x context.types ≡ first_named x (flat_map data_kinds decls)) → context.monads ≡ [] → (c : Bytes) (k : Kind) → takes_in context c k ≡ takes_in_field decls c k
  field_takes context h none c Plain = h c
  field_takes context h none c StateMonad = ap (first_named c) none
  field_takes context h none c Monad = refl

  signature_takes : (context : Context) → ((x : Bytes) → first_named x context.types ≡ first_named x (computations ++ flat_map data_kinds decls)) → ((x : Bytes) → first_named x context.monads ≡ first_named x state_monads)
      → (c : Bytes) (k : Kind) → takes_in context c k ≡ takes_in_signature decls c k
  signature_takes context h g c Plain = h c
  signature_takes context h g c StateMonad = g c
  signature_takes context h g c Monad = refl

  pub of_fields_made : (context : Context) (first : List (Bytes × List Kind)) → first ≡ []
      → ((x : Bytes) (rest : List (Bytes × List Kind)) → first_named x (context.types ++ rest) ≡ first_named x (first ++ (flat_map data_kinds decls ++ rest)))
      → context.monads ≡ [] → context.arrows ≡ false → IsOfFields decls context
  of_fields_made context first none says monads arrows = record {
    takes = λ i. λ c k. field_takes context (λ x. by_itself x context.types (flat_map data_kinds decls) (λ rest. says x rest ∙ ap (λ es. first_named x (es ++ (flat_map data_kinds decls ++ rest))) none)) monads c k i;
    arrows = arrows;
  }

  pub of_signatures_made : (context : Context) (first second third : List (Bytes × List Kind)) → first ≡ [] → third ≡ []
      → ((x : Bytes) (rest : List (Bytes × List Kind)) → first_named x (second ++ rest) ≡ first_named x (first ++ (computations ++ rest)))
      → ((x : Bytes) (rest : List (Bytes × List Kind)) → first_named x (context.types ++ rest) ≡ first_named x (second ++ (flat_map data_kinds decls ++ rest)))
      → ((x : Bytes) (rest : List (Bytes × List Kind)) → first_named x (context.monads ++ rest) ≡ first_named x (third ++ (state_monads ++ rest)))
      → context.arrows ≡ true → IsOfSignatures decls context
  of_signatures_made context first second third none nothing before says monads arrows = record {
    takes = λ i. λ c k. signature_takes context
        (λ x. by_itself x context.types (computations ++ flat_map data_kinds decls)
        (λ rest. says x rest ∙ before x (flat_map data_kinds decls ++ rest) ∙ ap (λ es. first_named x (es ++ (computations ++ (flat_map data_kinds decls ++ rest)))) none
        ∙ ap (first_named x) (sym (append_assoc computations (flat_map data_kinds decls) rest))))
        (λ x. by_itself x context.monads state_monads (λ rest. monads x rest ∙ ap (λ es. first_named x (es ++ (state_monads ++ rest))) nothing))
        c k i;
    arrows = arrows;
  }
