use Rattle.std.proofs.Common.{◌≡◌, List, ℕ, length, subst, ◌∙◌, arith}
use Rattle.std.proofs.lemmas.Grind.{common_steps}
use Rattle.rw_base.specs.Outside.{Told, Appended, AppendedPrefix}
use Rattle.rw_base.specs.Told.{told_then, told_any}
use Rattle.rewire_top.specs.Printed.{line_of}
use Rattle.rewire_top.proofs.top.tell.Goals as goal

-- all of the bytes are a prefix of them
all_of : (bytes old new : List ℕ) → Appended bytes old new → AppendedPrefix bytes old new
all_of bytes old new e = (length bytes, grind (arith, common_steps))

pub returns-in-Ok-put-clause-line : goal.returns-in-Ok-put-clause-line
returns-in-Ok-put-clause-line g c =
    let line : c.bytes.result.now ≡ line_of c.args.status = c.bytes.ensures ∙ c.in-Ok.ensures in
    told_then (λ _. Unit {0}) (Appended (line_of c.args.status)) (AppendedPrefix (line_of c.args.status)) _ _ (λ a b i p. all_of (line_of c.args.status) a b p) (told_any _)
    (subst (λ (t : List ℕ). Told (Appended t) (g.E.Sink.written c.args.err.now) (g.E.Sink.written c.put.new.self)) line c.in-Ok-put.ensures.ok)
