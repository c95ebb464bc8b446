use Rattle.std.proofs.Common.{rules, ◌≡◌, List, ℕ, Err, ◌⊎◌, inr, subst, sym, ◌∙◌}
use Rattle.rw_base.specs.Outside.{IfTold, Loads, Told, Appended, AppendedPrefix}
use Rattle.rewire_top.specs.Answers.{most_of_vhdl, most_of_trace, status_of}
use Rattle.rewire_top.specs.declared.status.Status.TheVariants as status
use Rattle.rewire_top.proofs.Loading as l
use Rattle.rewire_top.proofs.simulated.sim.Goals as goal

pub returns-in-Err-clause-later : goal.returns-in-Err-clause-later
returns-in-Err-clause-later g c =
    let held = g.S.Store.held c.args.store.now in
    let text = c.as_slice.result.now in
    let bytes = c.as_slice-2.result.now in
    let loaded : IfTold (Loads c.args.vhdl.now most_of_vhdl text) held = subst (λ (t : List ℕ). IfTold (Loads c.args.vhdl.now most_of_vhdl t) held) (sym c.as_slice.ensures.value) c.in-Ok.ensures.bytes in
    let read : IfTold (Loads c.args.trace.now most_of_trace bytes) held =
    subst (λ h. IfTold (Loads c.args.trace.now most_of_trace bytes) h) c.load.ensures.held
    (subst (λ (t : List ℕ). IfTold (Loads c.args.trace.now most_of_trace t) (g.S.Store.held c.load.new.self)) (sym c.as_slice-2.ensures.value) c.in-Ok-load.ensures.bytes) in
    λ fail other is. l.later c.args.vhdl.now c.args.trace.now text bytes held loaded read c.in-Err.fail c.in-Err.ensures.answer fail other (sym c.told.ensures ∙ is)

pub returns-in-Err-clause-complete : goal.returns-in-Err-clause-complete
returns-in-Err-clause-complete g c =
    let held = g.S.Store.held c.args.store.now in
    let text = c.as_slice.result.now in
    let bytes = c.as_slice-2.result.now in
    let loaded : IfTold (Loads c.args.vhdl.now most_of_vhdl text) held = subst (λ (t : List ℕ). IfTold (Loads c.args.vhdl.now most_of_vhdl t) held) (sym c.as_slice.ensures.value) c.in-Ok.ensures.bytes in
    let read : IfTold (Loads c.args.trace.now most_of_trace bytes) held =
    subst (λ h. IfTold (Loads c.args.trace.now most_of_trace bytes) h) c.load.ensures.held
    (subst (λ (t : List ℕ). IfTold (Loads c.args.trace.now most_of_trace t) (g.S.Store.held c.load.new.self)) (sym c.as_slice-2.ensures.value) c.in-Ok-load.ensures.bytes) in
    λ files is can. inr (inr (inr (c.told.ensures ∙ l.want_alone c.args.vhdl.now c.args.trace.now text bytes held loaded read c.in-Err.fail c.in-Err.ensures.exactly files is can)))

pub returns-in-Err-clause-later_where : goal.returns-in-Err-clause-later_where
returns-in-Err-clause-later_where g c =
    let held = g.S.Store.held c.args.store.now in
    let text = c.as_slice.result.now in
    let bytes = c.as_slice-2.result.now in
    let loaded : IfTold (Loads c.args.vhdl.now most_of_vhdl text) held = subst (λ (t : List ℕ). IfTold (Loads c.args.vhdl.now most_of_vhdl t) held) (sym c.as_slice.ensures.value) c.in-Ok.ensures.bytes in
    let read : IfTold (Loads c.args.trace.now most_of_trace bytes) held =
    subst (λ h. IfTold (Loads c.args.trace.now most_of_trace bytes) h) c.load.ensures.held
    (subst (λ (t : List ℕ). IfTold (Loads c.args.trace.now most_of_trace t) (g.S.Store.held c.load.new.self)) (sym c.as_slice-2.ensures.value) c.in-Ok-load.ensures.bytes) in
    λ files is fail s. subst (λ r. (r ≡ status_of fail) ⊎ (r ≡ status.ReadFault) ⊎ (r ≡ status.OutOfMemory)) (sym c.told.ensures)
    (l.status_given c.in-Err.fail fail (l.exactly c.args.vhdl.now c.args.trace.now text bytes held loaded read (Err c.in-Err.fail) c.in-Err.ensures.exactly files is fail s))

pub returns-in-Ok-put-clause-later_where : goal.returns-in-Ok-put-clause-later_where
returns-in-Ok-put-clause-later_where g c =
    let held = g.S.Store.held c.args.store.now in
    let text = c.as_slice.result.now in
    let bytes = c.as_slice-2.result.now in
    let loaded : IfTold (Loads c.args.vhdl.now most_of_vhdl text) held = subst (λ (t : List ℕ). IfTold (Loads c.args.vhdl.now most_of_vhdl t) held) (sym c.as_slice.ensures.value) c.in-Ok.ensures.bytes in
    let read : IfTold (Loads c.args.trace.now most_of_trace bytes) held =
    subst (λ h. IfTold (Loads c.args.trace.now most_of_trace bytes) h) c.load.ensures.held
    (subst (λ (t : List ℕ). IfTold (Loads c.args.trace.now most_of_trace t) (g.S.Store.held c.load.new.self)) (sym c.as_slice-2.ensures.value) c.in-Ok-load.ensures.bytes) in
    λ files is fail s. l.never_failed c.in-Ok-simulate.lines c.simulate.result fail c.in-Ok-simulate.is
    (l.exactly c.args.vhdl.now c.args.trace.now text bytes held loaded read c.simulate.result c.simulate.ensures.exactly files is fail s)

pub returns-in-Err-Failed-put-clause-later_where : goal.returns-in-Err-Failed-put-clause-later_where
returns-in-Err-Failed-put-clause-later_where g c =
    let held = g.S.Store.held c.args.store.now in
    let text = c.as_slice.result.now in
    let bytes = c.as_slice-2.result.now in
    let loaded : IfTold (Loads c.args.vhdl.now most_of_vhdl text) held = subst (λ (t : List ℕ). IfTold (Loads c.args.vhdl.now most_of_vhdl t) held) (sym c.as_slice.ensures.value) c.in-Ok.ensures.bytes in
    let read : IfTold (Loads c.args.trace.now most_of_trace bytes) held =
    subst (λ h. IfTold (Loads c.args.trace.now most_of_trace bytes) h) c.load.ensures.held
    (subst (λ (t : List ℕ). IfTold (Loads c.args.trace.now most_of_trace t) (g.S.Store.held c.load.new.self)) (sym c.as_slice-2.ensures.value) c.in-Ok-load.ensures.bytes) in
    λ files is fail s. l.never_failed c.in-Ok-simulate.lines c.simulate.result fail c.in-Ok-simulate.is
    (l.exactly c.args.vhdl.now c.args.trace.now text bytes held loaded read c.simulate.result c.simulate.ensures.exactly files is fail s)

pub returns-in-Ok-put-clause-shown : goal.returns-in-Ok-put-clause-shown
returns-in-Ok-put-clause-shown g c _ =
    let held = g.S.Store.held c.args.store.now in
    let text = c.as_slice.result.now in
    let bytes = c.as_slice-2.result.now in
    let loaded : IfTold (Loads c.args.vhdl.now most_of_vhdl text) held = subst (λ (t : List ℕ). IfTold (Loads c.args.vhdl.now most_of_vhdl t) held) (sym c.as_slice.ensures.value) c.in-Ok.ensures.bytes in
    let read : IfTold (Loads c.args.trace.now most_of_trace bytes) held =
    subst (λ h. IfTold (Loads c.args.trace.now most_of_trace bytes) h) c.load.ensures.held
    (subst (λ (t : List ℕ). IfTold (Loads c.args.trace.now most_of_trace t) (g.S.Store.held c.load.new.self)) (sym c.as_slice-2.ensures.value) c.in-Ok-load.ensures.bytes) in (
      c.in-Ok-simulate.lines,
      l.printed c.args.vhdl.now c.args.trace.now text bytes held loaded read c.in-Ok-simulate.lines c.simulate.result c.in-Ok-simulate.is c.simulate.ensures.answer,
      subst (λ (t : List ℕ). Told (Appended t) (g.O.Sink.written c.args.out.now) (g.O.Sink.written c.put.new.self)) c.bytes.ensures c.in-Ok-put.ensures.ok,
    )

pub returns-in-Err-Failed-put-clause-shown_part : goal.returns-in-Err-Failed-put-clause-shown_part
returns-in-Err-Failed-put-clause-shown_part g c _ =
    let held = g.S.Store.held c.args.store.now in
    let text = c.as_slice.result.now in
    let bytes = c.as_slice-2.result.now in
    let loaded : IfTold (Loads c.args.vhdl.now most_of_vhdl text) held = subst (λ (t : List ℕ). IfTold (Loads c.args.vhdl.now most_of_vhdl t) held) (sym c.as_slice.ensures.value) c.in-Ok.ensures.bytes in
    let read : IfTold (Loads c.args.trace.now most_of_trace bytes) held =
    subst (λ h. IfTold (Loads c.args.trace.now most_of_trace bytes) h) c.load.ensures.held
    (subst (λ (t : List ℕ). IfTold (Loads c.args.trace.now most_of_trace t) (g.S.Store.held c.load.new.self)) (sym c.as_slice-2.ensures.value) c.in-Ok-load.ensures.bytes) in (
      c.in-Ok-simulate.lines,
      l.printed c.args.vhdl.now c.args.trace.now text bytes held loaded read c.in-Ok-simulate.lines c.simulate.result c.in-Ok-simulate.is c.simulate.ensures.answer,
      subst (λ (t : List ℕ). Told (AppendedPrefix t) (g.O.Sink.written c.args.out.now) (g.O.Sink.written c.put.new.self)) c.bytes.ensures (search (rules, c.in-Err-Failed-put.ensures.part)),
    )
