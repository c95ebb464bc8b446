-- How many levels each variant of patterns and types has, and those beside one another.
use Rattle.std.proofs.Common.{◌≡◌, ◌∙◌, ℕ, suc, max, refl, ap, List, [], ◌∷◌}
use Rattle.rw_base.specs.declared.place.Span.{Span}
use Rattle.rw_tree.specs.declared.types.Written.{Written}
use Rattle.rw_tree.specs.declared.types.Written.TheVariants as type
use Rattle.rw_tree.specs.declared.pattern.Pat.{Pat}
use Rattle.rw_tree.specs.declared.pattern.Pat.TheVariants as pat
use Rattle.rw_tree.specs.Types.{type_parts, writtens}
use Rattle.rw_tree.specs.Patterns.{Pattern, pattern_parts, patterns}
use Rattle.rw_tree.proofs.Plains as plain
use Rattle.rw_parser_grammar.specs.Levels.{type_levels, types_levels, pattern_levels, patterns_levels, row_patterns_levels}
use Rattle.rw_parser_chains.specs.Sizes.{pattern_size, patterns_size, type_size, types_size}

row_size : (ps : List (Pattern Span)) → patterns_levels (pattern_parts ps) ≡ row_patterns_levels ps
row_size [] = refl
row_size (p ∷ ps) = ap (max (pattern_levels p)) (row_size ps)

pub pattern-Wild : (x : Span) → pattern_size (pat.Wild x) ≡ 1
pattern-Wild x = ap pattern_levels (plain.pattern-Wild (λ span. span) x)

pub pattern-Var : (x : Span) (name : List ℕ) → pattern_size (pat.Var x name) ≡ 1
pattern-Var x name = ap pattern_levels (plain.pattern-Var (λ span. span) x name)

pub pattern-Con : (x : Span) (name : List ℕ) (parts : List (Pat Span)) → pattern_size (pat.Con x name parts) ≡ suc (patterns_size parts)
pattern-Con x name parts = ap pattern_levels (plain.pattern-Con (λ span. span) x name parts) ∙ ap suc (row_size (patterns (λ span. span) parts))

pub pattern-Tuple : (x : Span) (parts : List (Pat Span)) → pattern_size (pat.Tuple x parts) ≡ suc (patterns_size parts)
pattern-Tuple x parts = ap pattern_levels (plain.pattern-Tuple (λ span. span) x parts) ∙ ap suc (row_size (patterns (λ span. span) parts))

parts_size : (types : List Written) → types_levels (type_parts (writtens types)) ≡ types_size types
parts_size [] = refl
parts_size (type ∷ types) = ap (max (type_size type)) (parts_size types)

pub type-Var : (name : List ℕ) → type_size (type.Var name) ≡ 1
type-Var name = ap type_levels (plain.written-Var name)

pub type-Con : (name : List ℕ) → type_size (type.Con name) ≡ 1
type-Con name = ap type_levels (plain.written-Con name)

pub type-Apply : (head : Written) (parts : List Written) → type_size (type.Apply head parts) ≡ suc (max (type_size head) (types_size parts))
type-Apply head parts = ap type_levels (plain.written-Apply head parts) ∙ ap (λ n. suc (max (type_size head) n)) (parts_size parts)

pub type-Fun : (from to : Written) → type_size (type.Fun from to) ≡ suc (max (type_size from) (type_size to))
type-Fun from to = ap type_levels (plain.written-Fun from to)

pub type-Tuple : (parts : List Written) → type_size (type.Tuple parts) ≡ suc (types_size parts)
type-Tuple parts = ap type_levels (plain.written-Tuple parts) ∙ ap suc (parts_size parts)

pub ruleset pattern_counts = (pattern-Wild, pattern-Var, pattern-Con, pattern-Tuple)

pub ruleset type_counts = (type-Var, type-Con, type-Apply, type-Fun, type-Tuple)
