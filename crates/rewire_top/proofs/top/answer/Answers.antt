use Rattle.std.proofs.Common.{refl}
use Rattle.rewire_top.proofs.Answering.{for_command, of_usage, of_check, of_compile, of_sim}
use Rattle.rewire_top.proofs.top.answer.Goals as goal

pub returns-in-Check-clause-answered : goal.returns-in-Check-clause-answered
returns-in-Check-clause-answered g c =
    let e = c.check.ensures in
    for_command c.in-Check.ensures
    (of_check _ _ _ _ _ _ _ _ _ c.in-Check.file.now e.read_fault e.read_fault_sound e.write_fault e.kept refl e.ok e.refused e.refused_where e.no_other e.complete)

pub returns-in-Compile-clause-answered : goal.returns-in-Compile-clause-answered
returns-in-Compile-clause-answered g c =
    let e = c.compile.ensures in
    for_command c.in-Compile.ensures
    (of_compile _ _ _ _ _ _ _ _ _ c.in-Compile.file.now c.in-Compile.target.now e.read_fault e.read_fault_sound e.write_fault e.others e.kept refl e.ok e.part e.refused e.refused_where e.no_other e.write_fault_sound e.complete)

pub returns-in-Sim-clause-answered : goal.returns-in-Sim-clause-answered
returns-in-Sim-clause-answered g c =
    let e = c.sim.ensures in
    for_command c.in-Sim.ensures
    (of_sim _ _ _ _ _ _ _ _ _ c.in-Sim.vhdl.now c.in-Sim.trace.now e.read_fault e.read_fault_sound e.write_fault e.kept e.refused e.later e.later_where e.complete e.shown e.shown_part e.out_kept)

pub returns-in-Nothing-clause-answered : goal.returns-in-Nothing-clause-answered
returns-in-Nothing-clause-answered g c =
    for_command c.in-Nothing.ensures (of_usage _ _ _ _ _ _ _ _ _ refl refl refl)
