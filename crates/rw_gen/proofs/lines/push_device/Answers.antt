-- The pieces of the line, one after the other.
use Rattle.std.proofs.Common.{[], ◌∷◌, ◌++◌, codes, ap, sym, ◌∙◌, append_assoc}
use Rattle.rw_gen.specs.Workload.{named}
use Rattle.rw_gen.proofs.Steps.{pushed_more}
use Rattle.rw_gen.proofs.lines.push_device.Goals as goal

pub returns : goal.returns
returns c =
    let old = c.args.text.now.items in
    let one = named (codes "d") c.args.device in
    let two = named (codes " = signal S") c.args.device in
    let three = named (codes " >>= \\x -> case x of { False -> d") c.args.on_false in
    let four = named (codes " ; True -> d") c.args.on_true in
    let a = pushed_more old one c.push_name.new.text.items c.push_name-2.new.text.items two c.in_ok-push_name.ensures c.in_ok-push_name-2.ensures in
    let b = pushed_more old (one ++ two) c.push_name-2.new.text.items c.push_name-3.new.text.items three a c.in_ok-push_name-3.ensures in
    let d = pushed_more old (one ++ two ++ three) c.push_name-3.new.text.items c.push_name-4.new.text.items four b c.in_ok-push_name-4.ensures in
    let e = pushed_more old (one ++ two ++ three ++ four) c.push_name-4.new.text.items c.extend_from_slice.new.self.items (codes " }" ++ 10 ∷ []) d c.in_ok-extend_from_slice.ensures.items in
    e ∙ ap (λ pieces. old ++ pieces) (sym (append_assoc (one ++ two ++ three ++ four) (codes " }") (10 ∷ [])))
