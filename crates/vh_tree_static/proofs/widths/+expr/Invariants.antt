-- What is left fits exactly where all does; the sum is that of the parts that were passed.
use Rattle.std.proofs.Common.{◌≡◌, drop, take, map}
use Rattle.std.specs.Prelude.{◌&&◌}
use Rattle.std.specs.List.{list_all}
use Rattle.vh_tree.specs.StaticRules.{Measured, all_agree, joined_width, measured}
use Rattle.vh_tree_static.specs.Measures.{capped, widths_over}
use Rattle.rw_base_tables.specs.Tables.{known_in}
use Rattle.vh_tree_static.proofs.widths.+expr.Given as goal

abbrev pub invariant-arguments_fit-loop-argument : goal.invariant-arguments_fit-loop-argument
invariant-arguments_fit-loop-argument l =
    let here = map (measured (widths_over (known_in l.vars) l.callees)) (drop l.argument-index l.arguments) in
    let all = map (measured (widths_over (known_in l.vars) l.callees)) l.arguments in
    (list_all (λ (m : Measured). m.fits) here && all_agree (map (λ (m : Measured). m.width) here) l.left)
    ≡ (list_all (λ (m : Measured). m.fits) all && all_agree (map (λ (m : Measured). m.width) all) l.params)

abbrev pub invariant-parts_width-loop-part : goal.invariant-parts_width-loop-part
invariant-parts_width-loop-part l =
    let m = measured (widths_over (known_in l.vars) l.callees) in
    record {
      fits : list_all (λ (m : Measured). m.fits) (map m (drop l.part-index l.parts)) ≡ list_all (λ (m : Measured). m.fits) (map m l.parts);
      total : l.total ≡ capped (joined_width (map (λ (m : Measured). m.width) (map m (take l.part-index l.parts))));
    }

abbrev pub invariant-each_fits-loop-part : goal.invariant-each_fits-loop-part
invariant-each_fits-loop-part l =
    let m = measured (widths_over (known_in l.vars) l.callees) in
    list_all (λ (m : Measured). m.fits) (map m (drop l.part-index l.parts)) ≡ list_all (λ (m : Measured). m.fits) (map m l.parts)
