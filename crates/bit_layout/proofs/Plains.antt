-- The plain form of a value, one level deep.
use Rattle.std.proofs.Common.{◌≡◌}
use Rattle.rw_core.specs.declared.value.Value.{Value, out-Value}
use Rattle.rw_core.specs.declared.value.Value.TheFolds.{fold_out-Value}
use Rattle.rw_core.specs.Values.{Val, val, vals, plain, plains, plain_step}

pub plain_value : (v : Value) → plain v ≡ val (out-Value v).tag (vals (plains (out-Value v).fields))
plain_value v = fold_out-Value Val plain_step v
