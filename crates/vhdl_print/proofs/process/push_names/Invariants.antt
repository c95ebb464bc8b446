-- What is appended so far, and what is to come, is the whole.
use Rattle.std.proofs.Common.{◌≡◌, ℕ, List, [], ◌∷◌, ◌++◌, map, drop}
use Rattle.vh_tree.specs.declared.token.Mark.TheVariants as m
use Rattle.vh_tree.specs.VToken.{name_token}
use Rattle.vh_tree.specs.Canonical.{each_after, names_tokens, spelled}
use Rattle.vhdl_print.proofs.process.push_names.Given as goal

abbrev pub invariant-loop-name : goal.invariant-loop-name
invariant-loop-name l =
    l.text.items ++ spelled (each_after m.Comma (map (λ (name : List ℕ). name_token name ∷ []) (drop l.name-index l.others))) ≡ l.fn.text.items ++ spelled (names_tokens l.names)
