use Rattle.std.proofs.Common.{◌≡◌, ◌++◌, ℕ, map, drop}
use Rattle.std.specs.List.{flat_map}
use Rattle.vh_tree.specs.Bits.{Bits}
use Rattle.vh_tree.specs.Functions.{expr_of as means}
use Rattle.vhdl_cycle_flat.specs.Flat.{expr_of, joined}
use Rattle.vhdl_cycle_flat.specs.Names.{scope_over}
use Rattle.vhdl_cycle_resolve.specs.Over.{slots_in, frames_in}
use Rattle.vhdl_cycle_resolve.proofs.expr.+resolve.Given as goal

abbrev pub invariant-resolve_all-loop-part : goal.invariant-resolve_all-loop-part
invariant-resolve_all-loop-part l = (n : ℕ) (frame : Bits) →
    joined (map expr_of l.out.exprs) n frame ++ flat_map (λ p. p (scope_over (slots_in l.slots) (frames_in l.funs) n frame)) (map means (drop l.part-index l.parts))
    ≡ flat_map (λ p. p (scope_over (slots_in l.slots) (frames_in l.funs) n frame)) (map means l.parts)
