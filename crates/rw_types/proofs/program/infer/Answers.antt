-- What the answer says both ways.
use Rattle.std.proofs.Common.{◌∙◌, ap, map, List}
use Rattle.rw_scope_rules.specs.declared.binding.Bound.{Bound}
use Rattle.rw_tree.specs.Views.{itself}
use Rattle.rw_tree.specs.declared.decl.Decl.{Decl}
use Rattle.rw_tree.specs.Declarations.{declaration}
use Rattle.rw_types_rules.specs.Schemes.{world_of}
use Rattle.rw_types.proofs.Programs.{inferred_of, ok_unless, refused_unless}
use Rattle.rw_types.proofs.program.infer.Goals as goal

pub returns-clause-typable : goal.returns-clause-typable
returns-clause-typable c =
    ok_unless _ _ _ (inferred_of _ _ _ _ _ (c.in_ok-world.ensures ∙ ap (λ (ds : List (Decl Bound)). world_of (map (declaration (λ a. a.span)) ds)) c.as_slice-decls.ensures)
    (ap (map (declaration itself)) c.as_slice-decls.ensures) c.infer_all.ensures.inferred)

pub returns-clause-untypable : goal.returns-clause-untypable
returns-clause-untypable c =
    refused_unless _ _ _ (inferred_of _ _ _ _ _ (c.in_ok-world.ensures ∙ ap (λ (ds : List (Decl Bound)). world_of (map (declaration (λ a. a.span)) ds)) c.as_slice-decls.ensures)
    (ap (map (declaration itself)) c.as_slice-decls.ensures) c.infer_all.ensures.inferred)
