-- A program resolves to one program at most, has one first item that is broken at most, and not both.
use Rattle.std.proofs.Common.{◌≡◌, ◌∙◌, ℕ, ◌+◌, ◌≤◌, ◌<◌, false, refl, sym, ap, subst, arith, List, [], ◌∷◌, map}
use Rattle.rw_base.specs.declared.place.Place.{Place}
use Rattle.rw_base.specs.declared.place.Span.{Span}
use Rattle.rw_tree.specs.declared.clause.Alt.{Alt}
use Rattle.rw_tree.specs.declared.decl.Decl.{Decl}
use Rattle.rw_tree.specs.declared.decl.Decl.TheVariants as decl
use Rattle.rw_tree.specs.declared.program.Program.{Program}
use Rattle.rw_tree.specs.Trees.{alternative_of}
use Rattle.rw_tree.specs.Declarations.{declaration}
use Rattle.rw_parser_grammar.specs.Chains.{Strength, strength_of_name}
use Rattle.rw_parser_grammar.specs.Levels.{max_levels, alternative_levels, rows_levels, declaration_levels}
use Rattle.rw_parser_grammar.specs.Resolved as d
use Rattle.rw_parser_grammar.specs.Resolved.{IsRowResolved, AreRowsResolved}
use Rattle.rw_parser_grammar.specs.Resolution as p
use Rattle.rw_parser_grammar.specs.Resolution.{IsDeclarationResolved, IsShallow, AreDeclarationsResolved, IsProgramResolved, IsRowBroken, FirstRowBroken, FirstDeclarationBroken}
use Rattle.rw_parser_reading.proofs.ReadExact.{some_is}
use Rattle.rw_parser_chains.proofs.Sizes.{row_size, all_size}
use Rattle.rw_parser_chains.proofs.Made.{rows_are}

pub row_levels : (row : Alt Span) → alternative_levels (alternative_of (λ span. span) row) ≡ row_size row
unfolding row_size
row_levels row = refl

pub rows_size : (rows : List (Alt Span)) → rows_levels (map (alternative_of (λ span. span)) rows) ≡ all_size row_size rows
rows_size [] = refl
rows_size (row ∷ rows) = let a = row_levels row in let b = rows_size rows in omega (arith, a, b)

-- more than 512 levels
abbrev IsDeep : Decl Span → Type 0
IsDeep a = max_levels < declaration_levels (declaration (λ span. span) a)

module _ {strength : List ℕ → Strength} where
  one_rows : {rows others more : List (Alt Span)} → AreRowsResolved strength rows others → AreRowsResolved strength rows more → all_size row_size others ≤ max_levels → all_size row_size more ≤ max_levels → others ≡ more
  one_rows a b l m = ap (λ q. q.0) (some_is _ _ (sym (rows_are strength a l) ∙ rows_are strength b m))

  one_declaration : {a b c : Decl Span} → IsDeclarationResolved strength a b → IsShallow b → IsDeclarationResolved strength a c → IsShallow c → b ≡ c
  one_declaration (p.import_stays x name) l (p.import_stays x2 name2) m = refl
  one_declaration (p.data_stays x made) l (p.data_stays x2 made2) m = refl
  one_declaration (p.fixity_stays x at n names) l (p.fixity_stays x2 at2 n2 names2) m = refl
  one_declaration (p.signature_stays x names type) l (p.signature_stays x2 names2 type2) m = refl
  one_declaration (p.clauses_resolved x name rows others rs) l (p.clauses_resolved x2 name2 rows2 more ts) m =
      let s = rows_size others in
      let t = rows_size more in
      ap (λ z. decl.Fun x name z) (one_rows rs ts (omega (arith, s, l)) (omega (arith, t, m)))

  one_list : {a b c : List (Decl Span)} → AreDeclarationsResolved strength a b → AreDeclarationsResolved strength a c → b ≡ c
  one_list p.no_declarations_resolved p.no_declarations_resolved = refl
  one_list (p.more_declarations_resolved a b decls others r l rs) (p.more_declarations_resolved a2 c decls2 more t m ts) =
      let e = one_declaration r l t m in
      let f = one_list rs ts in
      cc

  -- a row can't be broken and resolved
  row_apart : {row other : Alt Span} → IsRowBroken strength row → IsRowResolved strength row other → row_size other + 1 ≤ max_levels → ⊥
  row_apart {row} {other} b r l = let h = b other r in let s = row_levels other in omega (arith, h, s, l)

  rows_apart : {rows others : List (Alt Span)} {at : Place} → AreRowsResolved strength rows others → FirstRowBroken strength rows at → all_size row_size others + 1 ≤ max_levels → ⊥
  rows_apart d.no_rows_resolved x l = elim x [ ]
  rows_apart (d.more_rows_resolved a b lefts rights r rs) (p.this_row row rows broken) l = row_apart broken r (omega (arith, l))
  rows_apart (d.more_rows_resolved a b lefts rights r rs) (p.later_row row other rows at t m more) l = rows_apart rs more (omega (arith, l))

  one_row_place : {rows : List (Alt Span)} {first second : Place} → FirstRowBroken strength rows first → FirstRowBroken strength rows second → first ≡ second
  one_row_place (p.this_row row rows b) (p.this_row row2 rows2 b2) = refl
  one_row_place (p.this_row row rows b) (p.later_row row2 other rows2 at r l more) = let s = row_levels other in absurd (row_apart b r (omega (arith, s, l)))
  one_row_place (p.later_row row other rows at r l more) (p.this_row row2 rows2 b) = let s = row_levels other in absurd (row_apart b r (omega (arith, s, l)))
  one_row_place (p.later_row row other rows at r l more) (p.later_row row2 other2 rows2 at2 r2 l2 more2) = one_row_place more more2

  function_apart : {x : Span} {name : List ℕ} {rows : List (Alt Span)} {b : Decl Span} {at : Place} → IsDeclarationResolved strength (decl.Fun x name rows) b → IsShallow b → FirstRowBroken strength rows at → ⊥
  function_apart (p.clauses_resolved x name rows others rs) l broken = let s = rows_size others in rows_apart rs broken (omega (arith, s, l))

  -- what is no function resolves to itself
  stays : {a b : Decl Span} → IsDeclarationResolved strength a b → p.is_function a ≡ false → a ≡ b
  stays (p.import_stays x name) e = refl
  stays (p.data_stays x made) e = refl
  stays (p.fixity_stays x at n names) e = refl
  stays (p.signature_stays x names type) e = refl
  stays (p.clauses_resolved x name rows others rs) e = absurd (cc)

  deep_apart : {a b : Decl Span} → IsDeclarationResolved strength a b → IsShallow b → p.is_function a ≡ false → IsDeep a → ⊥
  deep_apart {a} {b} r l e h = let m : IsShallow a = subst IsShallow (sym (stays r e)) l in omega (arith, h, m)

  list_apart : {decls others : List (Decl Span)} {at : Place} → AreDeclarationsResolved strength decls others → FirstDeclarationBroken strength decls at → ⊥
  list_apart p.no_declarations_resolved x = elim x [ ]
  list_apart (p.more_declarations_resolved a b decls others r l rs) (p.this_clause x name rows decls2 at broken) = function_apart r l broken
  list_apart (p.more_declarations_resolved a b decls others r l rs) (p.this_declaration a2 decls2 e h) = deep_apart r l e h
  list_apart (p.more_declarations_resolved a b decls others r l rs) (p.later_declaration a2 b2 decls2 at t m more) = list_apart rs more

  list_one_place : {decls : List (Decl Span)} {first second : Place} → FirstDeclarationBroken strength decls first → FirstDeclarationBroken strength decls second → first ≡ second
  list_one_place (p.this_clause x name rows decls at broken) (p.this_clause x2 name2 rows2 decls2 at2 broken2) = one_row_place broken broken2
  list_one_place (p.this_clause x name rows decls at broken) (p.this_declaration a2 decls2 e h) = absurd (cc)
  list_one_place (p.this_clause x name rows decls at broken) (p.later_declaration a2 b2 decls2 at2 t m more) = absurd (function_apart t m broken)
  list_one_place (p.this_declaration a decls e h) (p.this_clause x name rows decls2 at broken) = absurd (cc)
  list_one_place (p.this_declaration a decls e h) (p.this_declaration a2 decls2 e2 h2) = refl
  list_one_place (p.this_declaration a decls e h) (p.later_declaration a2 b2 decls2 at2 t m more) = absurd (deep_apart t m e h)
  list_one_place (p.later_declaration a b decls at t m more) (p.this_clause x name rows decls2 at2 broken) = absurd (function_apart t m broken)
  list_one_place (p.later_declaration a b decls at t m more) (p.this_declaration a2 decls2 e h) = absurd (deep_apart t m e h)
  list_one_place (p.later_declaration a b decls at t m more) (p.later_declaration a2 b2 decls2 at2 t2 m2 more2) = list_one_place more more2

pub one_program : {program first second : Program Span} → IsProgramResolved program first → IsProgramResolved program second → first ≡ second
one_program (p.program_resolved decls others rs) (p.program_resolved decls2 more ts) = ap (λ z. record { decls = z }) (one_list rs ts)

pub apart : {program other : Program Span} {at : Place} → IsProgramResolved program other → FirstDeclarationBroken (strength_of_name program.decls) program.decls at → ⊥
apart (p.program_resolved decls others rs) broken = list_apart rs broken

pub one_place : (program : Program Span) {first second : Place} → FirstDeclarationBroken (strength_of_name program.decls) program.decls first → FirstDeclarationBroken (strength_of_name program.decls) program.decls second → first ≡ second
one_place program a b = list_one_place a b
