use Rattle.std.proofs.Common.{◌≡◌, take}
use Rattle.std.specs.List.{flat_map}
use Rattle.explicit_form.proofs.source.token_bytes.Given as goal

-- the bytes so far are those of the tokens so far
abbrev pub invariant-loop-token : goal.invariant-loop-token
invariant-loop-token l = l.bytes.items ≡ flat_map (λ t. t.text) (take l.token-index l.tokens)
