-- No rule is broken exactly where all hold.
use Rattle.std.proofs.Common.{rules, ◌≡◌, refl, List, [], ◌∷◌, Option, None}
use Rattle.rw_base.specs.declared.place.Place.{Place}
use Rattle.rw_base.specs.declared.place.Span.{Span}
use Rattle.rw_base.specs.declared.rule.Rule.{Rule}
use Rattle.rw_base.specs.declared.rule.Rule.TheVariants.{E06, E07, E08, E09, E10, E11, E12}
use Rattle.rw_base.specs.declared.fail.Refusal.{Refusal}
use Rattle.rw_tree.specs.Declarations.{PlainProgram}
use Rattle.rw_scope_rules.specs.Names.{earliest}
use Rattle.rw_scope_rules.specs.Verdict.{IsScoped, first_broken, broken_first}

-- an unbroken rule has no place, and the answer is what comes after it
pub unbroken : (rule : Rule) (places : List Place) (after : Option Refusal) → broken_first rule (earliest places) after ≡ None → (places ≡ []) × (after ≡ None)
unbroken rule [] after h = (refl, h)
unbroken rule (p ∷ ps) after h = search rules

pub holds_where_none_is_broken : (program : PlainProgram Span) → first_broken program ≡ None → IsScoped program
holds_where_none_is_broken program h =
    let a = unbroken E06 _ _ h in
    let b = unbroken E07 _ _ a.1 in
    let c = unbroken E08 _ _ b.1 in
    let d = unbroken E09 _ _ c.1 in
    let e = unbroken E10 _ _ d.1 in
    let f = unbroken E11 _ _ e.1 in
    let g = unbroken E12 _ _ f.1 in
    record {
      modules_are_known = a.0;
      names_are_declared_once = b.0;
      names_are_bound = c.0;
      signatures_and_bindings_pair = d.0;
      types_are_kinded = e.0;
      data_types_are_founded = f.0;
      groups_are_ordered = g.0;
    }
