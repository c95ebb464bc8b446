-- What was emitted, put before what is to come, is the layout of the whole.
use Rattle.std.proofs.Common.{◌≡◌, take, drop}
use Rattle.rw_layout.specs.Layout.{in_front, layout_from, layout_of, last_place}
use Rattle.rw_layout.proofs.layout.lay_out.Given as goal

abbrev pub invariant-loop-token : goal.invariant-loop-token
invariant-loop-token l = record {
  whole : in_front l.layout.out.items (layout_from (last_place l.tokens) (drop l.token-index l.tokens) l.layout.before l.layout.stack) ≡ layout_of l.tokens;
  last : l.last ≡ last_place (take l.token-index l.tokens);
}
