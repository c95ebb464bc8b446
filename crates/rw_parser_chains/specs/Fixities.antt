-- What a table of fixities says of names, and what declarations say of them.
use Rattle.std.specs.Prelude.{ℕ, List, [], ◌∷◌, Option, Some, None, if◌then◌else◌}
use Rattle.std.specs.Str.{bytes_eq}
use Rattle.rw_base.specs.declared.place.Span.{Span}
use Rattle.rw_tree.specs.declared.decl.Side.TheVariants as side
use Rattle.rw_tree.specs.declared.decl.Decl.{Decl}
use Rattle.rw_tree.specs.declared.decl.Decl.TheVariants.{Import, Data, Fixity, Sig, Fun}
use Rattle.rw_parser_grammar.specs.Chains.{Strength, is_named}

-- names with their strengths; the first of a name counts
abbrev pub known_in : List (List ℕ × Strength) → List ℕ → Option Strength
known_in [] name = None
known_in (e ∷ es) name = if bytes_eq name e.0 then Some e.1 else known_in es name

-- the first of two that is there
abbrev pub first_of : Option Strength → Option Strength → Option Strength
first_of None second = second
first_of (Some x) second = Some x

-- what a declaration of these names says
abbrev pub said_of : List (List ℕ) → Strength → List ℕ → Option Strength
said_of names strength name = if is_named name names then Some strength else None

-- what declarations say
abbrev pub declared_in : List (Decl Span) → List ℕ → Option Strength
declared_in [] name = None
declared_in (Fixity span at n names ∷ decls) name = first_of (said_of names (at, n) name) (declared_in decls name)
declared_in (Import span module_name ∷ decls) name = declared_in decls name
declared_in (Data span made ∷ decls) name = declared_in decls name
declared_in (Sig span names type ∷ decls) name = declared_in decls name
declared_in (Fun span fun rows ∷ decls) name = declared_in decls name

-- what is not declared is `infixl 9`
abbrev pub or_left_nine : Option Strength → Strength
or_left_nine None = (side.Left, 9)
or_left_nine (Some strength) = strength

unfoldable pub strength_at : List (List ℕ × Strength) → List ℕ → Strength
strength_at known name = or_left_nine (known_in known name)
