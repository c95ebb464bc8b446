-- A whole program, from its table of names and its declarations.
use Rattle.std.proofs.Common.{◌≡◌, List, map, refl, ap, ◌∙◌}
use Rattle.rw_base.specs.declared.place.Span.{Span}
use Rattle.rw_tree.specs.Views.{itself}
use Rattle.rw_tree.specs.declared.decl.Decl.{Decl}
use Rattle.rw_tree.specs.Declarations.{Declaration, declaration, PlainProgram}
use Rattle.rw_scope_rules.specs.declared.binding.Bound.{Bound}
use Rattle.rw_scope_rules.specs.Names.{Bytes, first_named}
use Rattle.rw_scope_rules.specs.Bindings.{tops_of, bound_declarations, bound_program}
use Rattle.rw_scope_binding.specs.declared.tops.Tops.{Tops as Table}
use Rattle.rw_scope_binding.specs.Numbered.{known}
use Rattle.rw_scope_binding.proofs.Alike.{declarations_alike}

pub program_bound : (table : Table) (decls first second : List (Decl Span)) (made : List (Declaration Bound)) → first ≡ decls → second ≡ decls
    → ((x : Bytes) → first_named x table.variables ≡ first_named x (tops_of (map (declaration itself) first)).variables)
    → ((x : Bytes) → first_named x table.constructors ≡ first_named x (tops_of (map (declaration itself) first)).constructors)
    → made ≡ bound_declarations (known table) 0 (map (declaration itself) second)
    → (let bound : PlainProgram Bound = record { declarations = made } in bound)
    ≡ bound_program (record { declarations = map (declaration itself) decls })
program_bound table decls first second made first_is second_is variables constructors is =
    let whole : made ≡ bound_declarations (tops_of (map (declaration itself) decls)) 0 (map (declaration itself) decls) =
    is ∙ ap (λ ds. bound_declarations (known table) 0 (map (declaration itself) ds)) second_is
    ∙ declarations_alike (known table) (tops_of (map (declaration itself) decls))
    (λ x. variables x ∙ ap (λ ds. first_named x (tops_of (map (declaration itself) ds)).variables) first_is)
    (λ x. constructors x ∙ ap (λ ds. first_named x (tops_of (map (declaration itself) ds)).constructors) first_is)
    0 (map (declaration itself) decls) in
    rw whole refl
