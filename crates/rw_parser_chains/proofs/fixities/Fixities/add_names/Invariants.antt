-- What the table said, with the names so far and those to come, is what it says with all of them.
use Rattle.std.proofs.Common.{◌≡◌, ℕ, List, drop}
use Rattle.rw_parser_chains.specs.Fixities.{known_in, first_of, said_of}
use Rattle.rw_parser_chains.proofs.fixities.Fixities.add_names.Given as goal

abbrev pub invariant-loop-name : goal.invariant-loop-name
invariant-loop-name l = (x : List ℕ) → first_of (known_in l.self x) (said_of (drop l.name-index l.names) l.strength x) ≡ first_of (known_in l.fn.self x) (said_of l.names l.strength x)
