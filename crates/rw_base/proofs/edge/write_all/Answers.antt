-- What was written before a fault is a prefix, and each piece follows what is done.
use Rattle.std.proofs.Common.{◌≡◌, List, ◌++◌, rules, length, take, drop}
use Rattle.std.specs.Io.KnownBytes.{Appends}
use Rattle.std.proofs.KnownBytes.{Appends-trans, Appends-kept}
use Rattle.rw_base.proofs.Written.{moves_front, wrote_part}
use Rattle.rw_base.proofs.edge.write_all.Goals as goal

pub returns-in-Err-clause-part : goal.returns-in-Err-clause-part
returns-in-Err-clause-part g c =
    let (done, split, appended) = c.loop-rest.invariant.1 in
    wrote_part _ _ _ done _ split (Appends-kept _ _ _ done appended c.in-Err.ensures.bytes)

pub returns-then-count-eq0-clause-part : goal.returns-then-count-eq0-clause-part
returns-then-count-eq0-clause-part g c =
    let (done, split, appended) = c.loop-rest.invariant.1 in
    let n = c.in-Ok.count in
    wrote_part _ _ _ (done ++ take n c.loop-rest.rest.now) _ (moves_front _ done c.loop-rest.rest.now n split) (Appends-trans _ _ _ _ _ appended c.in-Ok.ensures.bytes)

pub loop-rest-preserved : goal.loop-rest-preserved
loop-rest-preserved g c =
    let (done, split, appended) = c.loop-rest.invariant.1 in
    let n = c.in-Ok.count in
    let rest = c.loop-rest.rest.now in
    (c.loop-rest.invariant.0, (done ++ take n rest, moves_front _ done rest n split, Appends-trans _ _ _ _ _ appended c.in-Ok.ensures.bytes))

pub returns-in-Err-flush-clause-part : goal.returns-in-Err-flush-clause-part
returns-in-Err-flush-clause-part g c =
    let (done, split, appended) = c.loop-rest.invariant.1 in
    wrote_part _ _ _ done _ split (Appends-kept _ _ _ done appended c.in-Err-flush.ensures.bytes)
