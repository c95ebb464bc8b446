-- Data types and signatures are read alike with a level for each token of theirs and with any more.
use Rattle.std.proofs.Common.{◌≡◌, ℕ, ◌≤◌, List, length, sym, arith}
use Rattle.rw_parser_grammar.specs.declared.lexeme.Lexeme.{Lexeme}
use Rattle.rw_parser_reading.specs.ReadTypes.{type_at}
use Rattle.rw_parser_reading.specs.ReadDeclarations.{data_at, newtype_at, signature_at}
use Rattle.rw_parser_reading.proofs.Alike.{Agree}
use Rattle.rw_parser_laws.proofs.Enough.{data_alike, newtype_alike, signature_alike}
use Rattle.rw_parser_patterns.specs.Depth.{any_type_at}
use Rattle.rw_parser_patterns.proofs.Enough.{type_enough, any_type_shrinks}

any_types_alike : (k n : ℕ) → k ≤ n → Agree k any_type_at (type_at n)
any_types_alike k n g ts l = record { same = sym (type_enough n ts (omega arith)); less = λ p e. any_type_shrinks ts p e }

module _ (n : ℕ) (ts : List Lexeme) (h : length ts ≤ n) where
  pub data_enough : data_at any_type_at ts ≡ data_at (type_at n) ts
  data_enough = (data_alike n any_type_at (type_at n) (any_types_alike n n (omega arith)) ts h).same

  pub newtype_enough : newtype_at any_type_at ts ≡ newtype_at (type_at n) ts
  newtype_enough = (newtype_alike n any_type_at (type_at n) (any_types_alike n n (omega arith)) ts h).same

  pub signature_enough : signature_at any_type_at ts ≡ signature_at (type_at n) ts
  signature_enough = (signature_alike n any_type_at (type_at n) (any_types_alike n n (omega arith)) ts h).same
