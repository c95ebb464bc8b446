-- Clauses that are items: what is made of one decides whether it is broken.
use Rattle.std.proofs.Common.{◌≡◌, ◌∙◌, ℕ, List, ◌+◌, ◌<◌, ◌≤◌, nat_le, Bool, true, false, refl, sym, ap, arith, Some, None}
use Rattle.std.proofs.lemmas.Bool.Decides.{nat_tests}
use Rattle.rw_base.specs.declared.place.Span.{Span}
use Rattle.rw_tree.specs.declared.clause.Alt.{Alt}
use Rattle.rw_tree.specs.Trees.{alternative_of}
use Rattle.rw_parser_grammar.specs.Chains.{Strength}
use Rattle.rw_parser_grammar.specs.Levels.{max_levels, alternative_levels}
use Rattle.rw_parser_grammar.specs.Resolved.{IsRowResolved}
use Rattle.rw_parser_grammar.specs.Resolution.{IsRowBroken}
use Rattle.rw_parser_reading.proofs.ReadExact.{some_is}
use Rattle.rw_parser_chains.specs.Resolving.{row_made}
use Rattle.rw_parser_chains.proofs.Sizes.{row_size}
use Rattle.rw_parser_chains.proofs.Made.{row_is}
use Rattle.rw_parser_chains.proofs.Sound.{row_sound}
use Rattle.rw_parser_chains.proofs.Programs.{row_levels}

module _ (strength : List ℕ → Strength) (row : Alt Span) where
  -- what is made has levels left above it
  pub clause_kept : (made : Alt Span) (n : ℕ) → row_made strength row ≡ Some (made, n) → n < 512 → IsRowResolved strength row made × (alternative_levels (alternative_of (λ span. span) made) + 1 ≤ max_levels)
  clause_kept made n e l =
      let s = row_sound strength row (made, n) e in
      let t = row_levels made in
      (s.0, omega (arith, s.1.0, t, l))

  -- every tree is too deep where those of at most 512 levels are
  broken_where : ((other : Alt Span) → row_made strength row ≡ Some (other, row_size other) → max_levels < row_size other + 1) → IsRowBroken strength row
  broken_where h other r = go (nat_le (row_size other) max_levels) refl
    where
      go : (b : Bool) → nat_le (row_size other) max_levels ≡ b → max_levels < alternative_levels (alternative_of (λ span. span) other) + 1
      go true e =
          let within : row_size other ≤ max_levels = grind (arith, nat_tests) in
          let deep = h other (row_is strength r within) in
          let t = row_levels other in
          omega (arith, deep, t)
      go false e =
          let deep : max_levels < row_size other = grind (arith, nat_tests) in
          let t = row_levels other in
          omega (arith, deep, t)

  pub clause_none : row_made strength row ≡ None → IsRowBroken strength row
  clause_none e = broken_where (λ other m. let f : None ≡ Some (other, row_size other) = sym e ∙ m in absurd (cc))

  pub clause_deep : (made : Alt Span) (n : ℕ) → row_made strength row ≡ Some (made, n) → 512 ≤ n → IsRowBroken strength row
  clause_deep made n e l = broken_where (λ other m. let f : n ≡ row_size other = ap (λ p. p.1) (some_is (made, n) (other, row_size other) (sym e ∙ m)) in omega (arith, f, l))
