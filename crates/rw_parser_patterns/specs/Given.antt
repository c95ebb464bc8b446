-- What a reader of the code gives, held against a function on lists.
use Rattle.std.specs.Prelude.{ℕ, ◌++◌, List, [], ◌∷◌, length, Option, Some, None}
use Rattle.rw_parser_grammar.specs.declared.lexeme.Lexeme.{Lexeme}
use Rattle.rw_parser_reading.specs.Frames.{most, kept}
use Rattle.rw_parser_reading.specs.Read.{Read}
use Rattle.rw_tree.specs.declared.types.Written.{Written}
use Rattle.rw_tree.specs.declared.types.Written.TheVariants as y
use Rattle.rw_base.specs.declared.fail.Failure.TheVariants as fail

-- ---- trees that may not be kept

-- made of two, if both were kept
abbrev pub both : {A B C : Type 0} → (A → B → C) → Option A → Option B → Option C
both f None b = None
both f (Some a) None = None
both f (Some a) (Some b) = Some (f a b)

-- one more behind others
abbrev pub behind : {A : Type 0} → List A → A → List A
behind others a = others ++ a ∷ []

-- a type behind arrows, with the types before them
abbrev pub arrowed : List Written → Written → Written
arrowed [] type = type
arrowed (side ∷ sides) type = y.Fun side (arrowed sides type)

-- parts that were read, with their number, and kept if there is room for them
abbrev pub counted : {A : Type 0} → (A → ℕ) → ℕ → Read (List A) → Option (ℕ × (Option (List A) × List Lexeme))
counted frames room None = None
counted frames room (Some p) = Some (length p.0, (kept (most frames) room p.0, p.1))
