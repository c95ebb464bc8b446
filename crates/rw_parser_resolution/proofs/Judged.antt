-- A clause, a declaration and a program: each resolves within its levels, or its first broken item has a place.
use Rattle.std.proofs.Common.{◌≡◌, ◌⊎◌, inl, inr, ℕ, ◌+◌, ◌≤◌, ◌<◌, nat_lt, nat_le, Bool, true, false, refl, arith, List, [], ◌∷◌, map, Some, None}
use Rattle.std.proofs.lemmas.Bool.Decides.{nat_tests}
use Rattle.rw_base.specs.declared.place.Place.{Place}
use Rattle.rw_base.specs.declared.place.Span.{Span}
use Rattle.rw_tree.specs.declared.clause.Alt.{Alt}
use Rattle.rw_tree.specs.declared.decl.Decl.{Decl}
use Rattle.rw_tree.specs.declared.decl.Decl.TheVariants as decl
use Rattle.rw_tree.specs.declared.program.Program.{Program}
use Rattle.rw_tree.specs.Trees.{alternative_of}
use Rattle.rw_tree.specs.Declarations.{declaration}
use Rattle.rw_parser_grammar.specs.Chains.{Strength, strength_of_name}
use Rattle.rw_parser_grammar.specs.Levels.{max_levels, alternative_levels, rows_levels, declaration_levels}
use Rattle.rw_parser_grammar.specs.Resolved.{IsRowResolved, AreRowsResolved, no_rows_resolved, more_rows_resolved}
use Rattle.rw_parser_grammar.specs.Resolution as p
use Rattle.rw_parser_grammar.specs.Resolution.{IsDeclarationResolved, IsShallow, AreDeclarationsResolved, IsProgramResolved, IsRowBroken, FirstRowBroken, FirstDeclarationBroken}
use Rattle.rw_parser_chains.specs.Resolving.{Made, row_made}
use Rattle.rw_parser_chains.proofs.Clauses.{clause_kept, clause_none, clause_deep}

abbrev row_levels : Alt Span → ℕ
row_levels row = alternative_levels (alternative_of (λ span. span) row)

abbrev all_levels : List (Alt Span) → ℕ
all_levels rows = rows_levels (map (alternative_of (λ span. span)) rows)

module _ (strength : List ℕ → Strength) where
  -- a clause resolves with a level left above it, or is broken
  abbrev RowJudged : Alt Span → Type 0
  RowJudged row = ((other : Alt Span) × IsRowResolved strength row other × (row_levels other + 1 ≤ max_levels)) ⊎ IsRowBroken strength row

  row_by_levels : (row made : Alt Span) (n : ℕ) (b : Bool) → nat_lt n 512 ≡ b → row_made strength row ≡ Some (made, n) → RowJudged row
  row_by_levels row made n true l e = let k = clause_kept strength row made n e (grind (arith, nat_tests)) in inl (made, k.0, k.1)
  row_by_levels row made n false l e = inr (clause_deep strength row made n e (grind (arith, nat_tests)))

  row_by : (row : Alt Span) (made : Made (Alt Span)) → row_made strength row ≡ made → RowJudged row
  row_by row None e = inr (clause_none strength row e)
  row_by row (Some (made, n)) e = row_by_levels row made n (nat_lt n 512) refl e

  row_judged : (row : Alt Span) → RowJudged row
  row_judged row = row_by row (row_made strength row) refl

  -- clauses
  abbrev RowsJudged : List (Alt Span) → Type 0
  RowsJudged rows = ((others : List (Alt Span)) × AreRowsResolved strength rows others × (all_levels others + 1 ≤ max_levels)) ⊎ ((at : Place) × FirstRowBroken strength rows at)

  row_before : (row : Alt Span) (rows : List (Alt Span)) → RowJudged row → RowsJudged rows → RowsJudged (row ∷ rows)
  row_before row rows (inr broken) rest = inr (_, p.this_row row rows broken)
  row_before row rows (inl (other, r, l)) (inr (at, broken)) = inr (at, p.later_row row other rows at r l broken)
  row_before row rows (inl (other, r, l)) (inl (others, rs, m)) = inl (other ∷ others, more_rows_resolved row other rows others r rs, omega (arith, l, m))

  rows_judged : (rows : List (Alt Span)) → RowsJudged rows
  rows_judged [] = inl ([], no_rows_resolved, omega arith)
  rows_judged (row ∷ rows) = row_before row rows (row_judged row) (rows_judged rows)

  -- a declaration resolves, or is broken, whatever stands behind it
  abbrev DeclarationJudged : Decl Span → Type 0
  DeclarationJudged a = ((b : Decl Span) × IsDeclarationResolved strength a b × IsShallow b) ⊎ ((decls : List (Decl Span)) → (at : Place) × FirstDeclarationBroken strength (a ∷ decls) at)

  stays_by : (a : Decl Span) (b : Bool) → nat_le (declaration_levels (declaration (λ span. span) a)) max_levels ≡ b → IsDeclarationResolved strength a a → p.is_function a ≡ false → DeclarationJudged a
  stays_by a true l r e = let within : IsShallow a = grind (arith, nat_tests) in inl (a, r, within)
  stays_by a false l r e =
      let deep : max_levels < declaration_levels (declaration (λ span. span) a) = grind (arith, nat_tests) in
      inr (λ decls. (_, p.this_declaration a decls e deep))

  stays : (a : Decl Span) → IsDeclarationResolved strength a a → p.is_function a ≡ false → DeclarationJudged a
  stays a r e = stays_by a (nat_le (declaration_levels (declaration (λ span. span) a)) max_levels) refl r e

  function_judged : (x : Span) (name : List ℕ) (rows : List (Alt Span)) → RowsJudged rows → DeclarationJudged (decl.Fun x name rows)
  function_judged x name rows (inl (others, rs, l)) = inl (decl.Fun x name others, p.clauses_resolved x name rows others rs, omega (arith, l))
  function_judged x name rows (inr (at, broken)) = inr (λ decls. (at, p.this_clause x name rows decls at broken))

  declaration_judged : (a : Decl Span) → DeclarationJudged a
  declaration_judged (decl.Import x name) = stays (decl.Import x name) (p.import_stays x name) refl
  declaration_judged (decl.Data x made) = stays (decl.Data x made) (p.data_stays x made) refl
  declaration_judged (decl.Fixity x at n names) = stays (decl.Fixity x at n names) (p.fixity_stays x at n names) refl
  declaration_judged (decl.Sig x names type) = stays (decl.Sig x names type) (p.signature_stays x names type) refl
  declaration_judged (decl.Fun x name rows) = function_judged x name rows (rows_judged rows)

  -- declarations
  abbrev DeclarationsJudged : List (Decl Span) → Type 0
  DeclarationsJudged decls = ((others : List (Decl Span)) × AreDeclarationsResolved strength decls others) ⊎ ((at : Place) × FirstDeclarationBroken strength decls at)

  declaration_before : (a : Decl Span) (decls : List (Decl Span)) → DeclarationJudged a → DeclarationsJudged decls → DeclarationsJudged (a ∷ decls)
  declaration_before a decls (inr broken) rest = inr (broken decls)
  declaration_before a decls (inl (b, r, l)) (inr (at, broken)) = inr (at, p.later_declaration a b decls at r l broken)
  declaration_before a decls (inl (b, r, l)) (inl (others, rs)) = inl (b ∷ others, p.more_declarations_resolved a b decls others r l rs)

  declarations_judged : (decls : List (Decl Span)) → DeclarationsJudged decls
  declarations_judged [] = inl ([], p.no_declarations_resolved)
  declarations_judged (a ∷ decls) = declaration_before a decls (declaration_judged a) (declarations_judged decls)

abbrev ProgramJudged : Program Span → Type 0
ProgramJudged program = ((other : Program Span) × IsProgramResolved program other) ⊎ ((at : Place) × FirstDeclarationBroken (strength_of_name program.decls) program.decls at)

program_by : (program : Program Span) → DeclarationsJudged (strength_of_name program.decls) program.decls → ProgramJudged program
program_by program (inl (others, rs)) = inl (record { decls = others }, p.program_resolved program.decls others rs)
program_by program (inr broken) = inr broken

pub program_judged : (program : Program Span) → ProgramJudged program
program_judged program = program_by program (declarations_judged (strength_of_name program.decls) program.decls)
