-- The name is new, or it was there.
use Rattle.rw_scope_names.proofs.Behind.{put_in}
use Rattle.rw_scope_names.proofs.names.Names.put.Goals as goal

pub returns : goal.returns
returns c = put_in c.in_ok-add.field-0 c.args.name c.args.self.now c.add.new.self c.in_ok-add.ensures.added c.in_ok-add.ensures.names
