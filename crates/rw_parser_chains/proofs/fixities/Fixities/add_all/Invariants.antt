-- What the table said, with the declarations so far and those to come, is what it says with all of them.
use Rattle.std.proofs.Common.{◌≡◌, ℕ, List, drop}
use Rattle.rw_parser_chains.specs.Fixities.{known_in, first_of, declared_in}
use Rattle.rw_parser_chains.proofs.fixities.Fixities.add_all.Given as goal

abbrev pub invariant-loop-decl : goal.invariant-loop-decl
invariant-loop-decl l = (x : List ℕ) → first_of (known_in l.self x) (declared_in (drop l.decl-index l.decls) x) ≡ first_of (known_in l.fn.self x) (declared_in l.decls x)
