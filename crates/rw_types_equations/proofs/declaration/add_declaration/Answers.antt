-- By the kind of declaration.
use Rattle.std.proofs.Common.{ap, sym, ◌∙◌, map}
use Rattle.rw_tree.specs.Declarations.{declaration, function_declaration}
use Rattle.rw_tree.specs.Trees.{alternative_of}
use Rattle.rw_types_equations.specs.Numbered.{typed_by}
use Rattle.rw_types_equations.specs.Seen.{seen_world}
use Rattle.rw_types_equations.proofs.Adding.{adds_as, adds_two}
use Rattle.rw_types_equations.proofs.Own.{declaration_as}
use Rattle.rw_types_equations.proofs.declaration.add_declaration.Goals as goal

pub returns-in_ok-add_unit-in-Import : goal.returns-in_ok-add_unit-in-Import
returns-in_ok-add_unit-in-Import c = adds_as _ _ _ _ c.in_ok-add_unit-in-Import.ensures (λ t. declaration_as (seen_world c.args.world.now) _ _ (ap (declaration (typed_by t)) c.in-Import.is))

pub returns-in_ok-add_unit-in-Data : goal.returns-in_ok-add_unit-in-Data
returns-in_ok-add_unit-in-Data c = adds_as _ _ _ _ c.in_ok-add_unit-in-Data.ensures (λ t. declaration_as (seen_world c.args.world.now) _ _ (ap (declaration (typed_by t)) c.in-Data.is))

pub returns-in_ok-add_unit-in-Fixity : goal.returns-in_ok-add_unit-in-Fixity
returns-in_ok-add_unit-in-Fixity c = adds_as _ _ _ _ c.in_ok-add_unit-in-Fixity.ensures (λ t. declaration_as (seen_world c.args.world.now) _ _ (ap (declaration (typed_by t)) c.in-Fixity.is))

pub returns-in_ok-add_unit-in-Sig : goal.returns-in_ok-add_unit-in-Sig
returns-in_ok-add_unit-in-Sig c = adds_as _ _ _ _ c.in_ok-add_unit-in-Sig.ensures (λ t. declaration_as (seen_world c.args.world.now) _ _ (ap (declaration (typed_by t)) c.in-Sig.is))

pub returns-in_ok-add_all_clauses-in-Fun : goal.returns-in_ok-add_all_clauses-in-Fun
returns-in_ok-add_all_clauses-in-Fun c = adds_as _ _ _ _ (adds_two _ _ _ _ _ c.in_ok-add_own_bound-in-Fun.ensures c.in_ok-add_all_clauses-in-Fun.ensures)
    (λ t. declaration_as (seen_world c.args.world.now) _ (function_declaration (typed_by t c.in-Fun.at) _ (map (alternative_of (typed_by t)) c.as_slice.result.now))
    (ap (declaration (typed_by t)) c.in-Fun.is ∙ ap (λ z. function_declaration (typed_by t c.in-Fun.at) c.in-Fun.field-1 (map (alternative_of (typed_by t)) z)) (sym c.as_slice.ensures)))
