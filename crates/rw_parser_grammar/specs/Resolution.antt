-- Programs with their chains grouped, and which declaration has none or is too deep (Haskell 2010 Report, section 10.6).
use Rattle.std.specs.Prelude.{◌≡◌, ℕ, ◌+◌, ◌≤◌, ◌<◌, Bool, true, false, List, [], ◌∷◌}
use Rattle.rw_base.specs.declared.place.Place.{Place}
use Rattle.rw_base.specs.declared.place.Span.{Span}
use Rattle.rw_tree.specs.declared.types.Written.{Written}
use Rattle.rw_tree.specs.declared.clause.Alt.{Alt, out-Alt}
use Rattle.rw_tree.specs.declared.decl.Side.{Side}
use Rattle.rw_tree.specs.declared.decl.DataDecl.{DataDecl}
use Rattle.rw_tree.specs.declared.decl.Decl.{Decl}
use Rattle.rw_tree.specs.declared.decl.Decl.TheVariants.{Import, Data, Fixity, Sig, Fun}
use Rattle.rw_tree.specs.declared.decl.Decl.TheVariants as d
use Rattle.rw_tree.specs.declared.program.Program.{Program}
use Rattle.rw_tree.specs.Declarations.{declaration}
use Rattle.rw_tree.specs.Trees.{alternative_of}
use Rattle.rw_parser_grammar.specs.Chains.{Strength, strength_of_name}
use Rattle.rw_parser_grammar.specs.Levels.{max_levels, declaration_levels, alternative_levels}
use Rattle.rw_parser_grammar.specs.Resolved.{IsRowResolved, AreRowsResolved}

-- a declaration with its chains grouped
pub data IsDeclarationResolved (strength : List ℕ → Strength) : Decl Span → Decl Span → Type 0 where
  import_stays : (x : Span) (name : List ℕ) → IsDeclarationResolved strength (d.Import x name) (d.Import x name)
  data_stays : (x : Span) (made : DataDecl) → IsDeclarationResolved strength (d.Data x made) (d.Data x made)
  fixity_stays : (x : Span) (at : Side) (n : ℕ) (names : List (List ℕ)) → IsDeclarationResolved strength (d.Fixity x at n names) (d.Fixity x at n names)
  signature_stays : (x : Span) (names : List (List ℕ)) (type : Written) → IsDeclarationResolved strength (d.Sig x names type) (d.Sig x names type)
  clauses_resolved : (x : Span) (name : List ℕ) (rows others : List (Alt Span)) → AreRowsResolved strength rows others → IsDeclarationResolved strength (d.Fun x name rows) (d.Fun x name others)

-- it has 512 levels at most
abbrev pub IsShallow : Decl Span → Type 0
IsShallow decl = declaration_levels (declaration (λ span. span) decl) ≤ max_levels

pub data AreDeclarationsResolved (strength : List ℕ → Strength) : List (Decl Span) → List (Decl Span) → Type 0 where
  no_declarations_resolved : AreDeclarationsResolved strength [] []
  more_declarations_resolved : (a b : Decl Span) (decls others : List (Decl Span)) → IsDeclarationResolved strength a b → IsShallow b → AreDeclarationsResolved strength decls others
      → AreDeclarationsResolved strength (a ∷ decls) (b ∷ others)

-- a program with its chains grouped, of at most 512 levels
pub data IsProgramResolved : Program Span → Program Span → Type 0 where
  program_resolved : (decls others : List (Decl Span)) → AreDeclarationsResolved (strength_of_name decls) decls others
      → IsProgramResolved (record { decls = decls }) (record { decls = others })

-- ---- what has no tree, and where

-- a clause, as the only one of a function, has no tree of at most 512 levels
abbrev pub IsRowBroken : (List ℕ → Strength) → Alt Span → Type 0
IsRowBroken strength row = (other : Alt Span) → IsRowResolved strength row other → max_levels < alternative_levels (alternative_of (λ span. span) other) + 1

-- the first of the clauses that is broken so stands at this place
pub data FirstRowBroken (strength : List ℕ → Strength) : List (Alt Span) → Place → Type 0 where
  this_row : (row : Alt Span) (rows : List (Alt Span)) → IsRowBroken strength row → FirstRowBroken strength (row ∷ rows) (out-Alt Span row).at.first
  later_row : (row other : Alt Span) (rows : List (Alt Span)) (at : Place) → IsRowResolved strength row other → alternative_levels (alternative_of (λ span. span) other) + 1 ≤ max_levels
      → FirstRowBroken strength rows at → FirstRowBroken strength (row ∷ rows) at

-- the span of a declaration
abbrev pub declaration_span : Decl Span → Span
declaration_span (Import span name) = span
declaration_span (Data span made) = span
declaration_span (Fixity span at n names) = span
declaration_span (Sig span names type) = span
declaration_span (Fun span name rows) = span

-- a function's items are its clauses
abbrev pub is_function : Decl Span → Bool
is_function (Import span name) = false
is_function (Data span made) = false
is_function (Fixity span at n names) = false
is_function (Sig span names type) = false
is_function (Fun span name rows) = true

-- the first item that is broken so stands at this place: a clause is an item of its own
pub data FirstDeclarationBroken (strength : List ℕ → Strength) : List (Decl Span) → Place → Type 0 where
  this_clause : (x : Span) (name : List ℕ) (rows : List (Alt Span)) (decls : List (Decl Span)) (at : Place) → FirstRowBroken strength rows at → FirstDeclarationBroken strength (d.Fun x name rows ∷ decls) at
  this_declaration : (a : Decl Span) (decls : List (Decl Span)) → is_function a ≡ false → max_levels < declaration_levels (declaration (λ span. span) a)
      → FirstDeclarationBroken strength (a ∷ decls) (declaration_span a).first
  later_declaration : (a b : Decl Span) (decls : List (Decl Span)) (at : Place) → IsDeclarationResolved strength a b → IsShallow b → FirstDeclarationBroken strength decls at → FirstDeclarationBroken strength (a ∷ decls) at
