-- The head of the source, and then one device after the other, each with the next two draws.
use Rattle.std.proofs.Common.{◌≡◌, ◌+◌, ◌*◌, ◌++◌, codes, ap, sym, ◌∙◌, arith, append_assoc, add-one}
use Rattle.std.proofs.lemmas.List.{append-nil}
use Rattle.rw_gen.specs.Workload.{generator_at, draw, line, data_line, signature_line, device_line, devices_below}
use Rattle.rw_gen.proofs.Steps.{pushed_more}
use Rattle.rw_gen.proofs.workload.source.Goals as goal

pub loop-device-init : goal.loop-device-init
loop-device-init c =
    let one = line (codes "start :: ReT Bool S I ()") in
    let two = line (codes "start = d0") in
    record {
      at = c.generator-rng.ensures;
      so_far = c.in_ok-extend_from_slice.ensures.items ∙ ap (λ t. t ++ (one ++ two)) (c.in_ok-push_states.ensures ∙ ap (λ t. t ++ data_line c.args.size) c.new-text.ensures.items)
          ∙ sym (append_assoc (data_line c.args.size) one two) ∙ sym (append-nil (data_line c.args.size ++ one ++ two));
    }

pub loop-device-preserved : goal.loop-device-preserved
loop-device-preserved c =
    let number = c.args.number in
    let size = c.args.size in
    let k = c.loop-device.device in
    let head = data_line size ++ line (codes "start :: ReT Bool S I ()") ++ line (codes "start = d0") in
    let before = devices_below number size k in
    let at_one = c.draw_below-on_false.ensures.moved number (2 * k) c.loop-device.invariant.at in
    let n : 2 * k + 1 + 1 ≡ 2 * (k + 1) = omega arith in
    let a = pushed_more head before c.loop-device.text.items c.push_signature.new.text.items (signature_line k) c.loop-device.invariant.so_far c.in_ok-push_signature.ensures in
    let b = pushed_more head (before ++ signature_line k) c.push_signature.new.text.items c.push_device.new.text.items (device_line k c.draw_below-on_false.result c.draw_below-on_true.result) a c.in_ok-push_device.ensures in
    let on_false = c.draw_below-on_false.ensures.value number (2 * k) c.loop-device.invariant.at in
    let on_true = c.draw_below-on_true.ensures.value number (2 * k + 1) at_one in
    record {
      at = c.draw_below-on_true.ensures.moved number (2 * k + 1) at_one ∙ ap (generator_at number) n;
      so_far = b ∙ ap (λ d. head ++ ((before ++ signature_line k) ++ device_line k d c.draw_below-on_true.result)) on_false
          ∙ ap (λ d. head ++ ((before ++ signature_line k) ++ device_line k (draw number (2 * k) size) d)) on_true ∙ ap (λ m. head ++ devices_below number size m) (sym (add-one k));
    }
