-- One item more.
use Rattle.std.proofs.Common.{arith, ◌≡◌, ◌+◌, ℕ, List, ◌∷◌, drop, sym, ap, ◌∙◌, subst}
use Rattle.std.proofs.lemmas.Grind.{common_steps}
use Rattle.vh_tree.specs.Bits.{Bytes}
use Rattle.vh_tree.specs.declared.design.Item.{Item}
use Rattle.vhdl_cycle_flat.specs.Flat.{fun_of}
use Rattle.vhdl_cycle_flat.specs.Names.{Frames, with_frame}
use Rattle.vhdl_cycle_resolve.specs.Framed.{IsFramed}
use Rattle.vhdl_cycle_resolve.specs.Over.{frames_in}
use Rattle.vhdl_cycle_resolve.specs.declared.sized.Known.{Known}
use Rattle.vhdl_cycle_resolve.proofs.Framing.{frames_more, framed_signal, framed_more}
use Rattle.vhdl_cycle_resolve.proofs.function.functions_of.Goals as goal
use Rattle.vhdl_cycle_resolve.proofs.function.functions_of.Goals.{in-Signal, in-Function+in_ok-known-in-Function+in_ok-put-in-Function}

pub loop-item-preserved : goal.loop-item-preserved
loop-item-preserved c = λ end later.
    let before = frames_in c.loop-item.funs in
    let from = c.loop-item.store in
    let rest = drop (c.loop-item.item-index + 1) c.args.items.now in
    let cut : drop c.loop-item.item-index c.args.items.now ≡ c.item-item.result ∷ rest = grind (arith, common_steps) in
    let P : List Item → Type 0 = λ items. IsFramed before from items end in
    let L : List (Bytes × Known) → ℕ → Type 0 = λ funs store. IsFramed (frames_in funs) store rest end in
    c.loop-item.invariant end (subst P (sym cut) (elim c.match-item.branch [
      | in-Signal w ↦ subst (λ item. P (item ∷ rest)) (sym w.in-Signal.is)
          (framed_signal before from _ rest end (subst (λ funs. L funs from) w.funs-is (subst (L c.match-item.funs) w.store-is later)))
      | in-Function+in_ok-known-in-Function+in_ok-put-in-Function w ↦ subst (λ item. P (item ∷ rest)) (sym w.in-Function.is)
          (let f = w.in-Function.function in
          let k = w.in_ok-known-in-Function.known in
          let g = fun_of k.fun.value in
          let frames : frames_in w.put.new.self ≡ with_frame f.name g before =
          frames_more c.loop-item.funs w.put.new.self w.as_slice.result.now k w.in_ok-put-in-Function.ensures ∙ ap (λ (n : Bytes). with_frame n g before) w.as_slice.ensures in
          let moved : L w.put.new.self w.resolve_function.new.store = subst (λ funs. L funs w.resolve_function.new.store) w.funs-is (subst (L c.match-item.funs) w.store-is later) in
          let next : IsFramed (with_frame f.name g before) (from + g.size) rest end =
          subst (λ (fs : Frames). IsFramed fs (from + g.size) rest end) frames (subst (L w.put.new.self) w.in_ok-known-in-Function.ensures.store moved) in
          framed_more before from f g rest end w.in_ok-known-in-Function.ensures.frame next)
    ]))
