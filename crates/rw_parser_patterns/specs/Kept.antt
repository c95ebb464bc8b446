-- Reading types, where a tree is kept only if there is room for its arrows, as functions on lists.
use Rattle.std.specs.Prelude.{ℕ, zero, suc, nat_le, List, [], ◌∷◌, length, drop, Option, Some, None, if◌then◌else◌}
use Rattle.rw_tree.specs.declared.types.Written.{Written}
use Rattle.rw_tree.specs.declared.types.Written.TheVariants as y
use Rattle.rw_parser_grammar.specs.declared.lexeme.Mark.TheVariants as m
use Rattle.rw_parser_grammar.specs.declared.lexeme.Lexeme.{Lexeme}
use Rattle.rw_parser_grammar.specs.declared.lexeme.Lexeme.TheVariants as t
use Rattle.rw_parser_reading.specs.Frames.{frames_of_type, most, cut}
use Rattle.rw_parser_grammar.specs.Types.{grouped_type, applied_type}
use Rattle.rw_parser_reading.specs.Read.{◌>>=◌, Read, same_mark, sees, after, separated_at}
use Rattle.rw_parser_reading.specs.ReadTypes.{atypes_at}
use Rattle.rw_parser_patterns.specs.Given.{both, behind, counted}
use Rattle.rw_parser_patterns.specs.Depth.{any_type_at}

-- parts in parentheses as one type, if they were kept
abbrev pub regrouped : Option (List Written) → Option Written
regrouped None = None
regrouped (Some parts) = Some (grouped_type parts)

-- one or more types in parentheses, behind the opening one
unfoldable pub some_types_kept : ℕ → List Lexeme → Read (Option Written)
some_types_kept room ts = do
  p ← counted frames_of_type room (separated_at m.Comma any_type_at (length ts) ts)
  r ← after m.Closes p.1.1
  if nat_le p.0 8 then Some (regrouped p.1.0, r) else None

-- types in parentheses, behind the opening one
unfoldable pub type_group_kept : ℕ → List Lexeme → Read (Option Written)
type_group_kept room ts = if sees m.Closes ts then Some (Some (y.Tuple []), drop 1 ts) else some_types_kept room ts

-- an atype
abbrev pub atype_kept : ℕ → List Lexeme → Read (Option Written)
atype_kept room [] = None
atype_kept room (t.Mark w a ∷ ts) = if same_mark a m.Opens then type_group_kept room ts else None
atype_kept room (t.Variable w name ∷ ts) = Some (Some (y.Var name), ts)
atype_kept room (t.Constructor w name ∷ ts) = Some (Some (y.Con name), ts)
atype_kept room (t.Operator w name ∷ ts) = None
atype_kept room (t.Number w digits ∷ ts) = None

-- a btype
unfoldable pub btype_kept : ℕ → List Lexeme → Read (Option Written)
btype_kept room ts = do
  p ← atype_kept room ts
  q ← cut (most frames_of_type) room (atypes_at any_type_at p.1)
  Some (both applied_type p.0 q.0, q.1)

-- the types before arrows, with one more, where there is room for its arrow
abbrev pub side_behind : ℕ → Option (List Written) → Option Written → Option (List Written)
side_behind zero sides side = None
side_behind (suc room) sides side = both behind sides side
