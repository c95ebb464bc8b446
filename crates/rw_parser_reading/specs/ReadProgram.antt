-- Reading the frame of a program, the runs of its items and its tree, as functions on lists.
use Rattle.std.specs.Prelude.{ℕ, zero, suc, Bool, true, false, ◌&&◌, nat_eq, List, [], ◌∷◌, length, drop, Option, Some, None, Result, Ok, Err, if◌then◌else◌}
use Rattle.rw_base.specs.declared.place.Place.{Place}
use Rattle.rw_base.specs.declared.place.Span.{Span}
use Rattle.rw_tree.specs.declared.program.Program.{Program}
use Rattle.rw_lex.specs.declared.token.Token.{Token}
use Rattle.rw_parser_grammar.specs.declared.item.Item.{Item}
use Rattle.rw_parser_grammar.specs.declared.lexeme.Mark.{Mark}
use Rattle.rw_parser_grammar.specs.declared.lexeme.Mark.TheVariants as m
use Rattle.rw_parser_grammar.specs.declared.lexeme.Spot.{Spot}
use Rattle.rw_parser_grammar.specs.declared.lexeme.Lexeme.{Lexeme}
use Rattle.rw_parser_grammar.specs.declared.lexeme.Lexeme.TheVariants as t
use Rattle.rw_parser_grammar.specs.Lexemes.{lexemes, next_spot}
use Rattle.rw_parser_grammar.specs.Grammar.{whole_run, item_groups, declarations_of, first_place}
use Rattle.rw_parser_reading.specs.Read.{◌>>=◌, same_mark, sees, after}
use Rattle.rw_parser_reading.specs.ReadDeclarations.{module_name_at, exports_at, item_at}

-- the tokens behind a header, if there is one
unfoldable pub header_at : List Lexeme → Option (List Lexeme)
header_at ts = if sees m.Module ts then (do p ← module_name_at (drop 1 ts); e ← exports_at p.1; after m.Where e.1) else Some ts

-- a run of tokens, the token that ends it, and what follows
abbrev pub Run : Type 0
Run = List Lexeme × (Lexeme × List Lexeme)

-- a token before a run
abbrev pub run_before : Lexeme → Option Run → Option Run
run_before x None = None
run_before x (Some r) = Some (x ∷ r.0, r.1)

-- a run behind a closing brace, with so many open before it
abbrev pub closed_run : Spot → ℕ → List Lexeme → (ℕ → Option Run) → Option Run
closed_run w zero ts next = Some ([], (t.Mark w m.ClosesBlock, ts))
closed_run w (suc d) ts next = run_before (t.Mark w m.ClosesBlock) (next d)

-- a run behind a semicolon, with so many braces open before it
abbrev pub semicolon_run : Spot → ℕ → List Lexeme → (ℕ → Option Run) → Option Run
semicolon_run w zero ts next = Some ([], (t.Mark w m.Semicolon, ts))
semicolon_run w (suc d) ts next = run_before (t.Mark w m.Semicolon) (next (suc d))

-- the run that tokens begin with, with so many braces open
abbrev pub run_at : ℕ → List Lexeme → Option Run
run_at d [] = None
run_at d (t.Mark w a ∷ ts) =
    if same_mark a m.OpensBlock then run_before (t.Mark w a) (run_at (suc d) ts)
    else (if same_mark a m.ClosesBlock then closed_run w d ts (λ k. run_at k ts) else (if same_mark a m.Semicolon then semicolon_run w d ts (λ k. run_at k ts) else run_before (t.Mark w a) (run_at d ts)))
run_at d (t.Variable w name ∷ ts) = run_before (t.Variable w name) (run_at d ts)
run_at d (t.Constructor w name ∷ ts) = run_before (t.Constructor w name) (run_at d ts)
run_at d (t.Operator w name ∷ ts) = run_before (t.Operator w name) (run_at d ts)
run_at d (t.Number w digits ∷ ts) = run_before (t.Number w digits) (run_at d ts)

-- a list that has nothing
abbrev pub is_none : {A : Type 0} → List A → Bool
is_none [] = true
is_none (a ∷ others) = false

-- the runs of items up to the closing brace, which is the last token; the number bounds the turns
unfoldable pub runs_at : ℕ → List Lexeme → Option (List (List Lexeme × Lexeme))
runs_at zero ts = None
runs_at (suc n) ts = do
  r ← run_at 0 ts
  if sees m.ClosesBlock (r.1.0 ∷ []) then (if is_none r.1.1 then Some ((r.0, r.1.0) ∷ []) else None) else (do q ← runs_at n r.1.1; Some ((r.0, r.1.0) ∷ q))

-- the runs of items of a program
unfoldable pub frame_at : List Lexeme → Option (List (List Lexeme × Lexeme))
frame_at ts = do
  r ← header_at ts
  x ← after m.OpensBlock r
  runs_at (length x) x

-- ---- items

-- the same spot
abbrev pub same_spot : Spot → Spot → Bool
same_spot v w = nat_eq v.number w.number && (nat_eq v.place.line w.place.line && nat_eq v.place.column w.place.column)

-- the same mark at the same spot
abbrev pub is_mark_at : Spot → Mark → Lexeme → Bool
is_mark_at v a (t.Mark w b) = same_spot v w && same_mark a b
is_mark_at v a (t.Variable w name) = false
is_mark_at v a (t.Constructor w name) = false
is_mark_at v a (t.Operator w name) = false
is_mark_at v a (t.Number w digits) = false

-- this token is the last, and it is this mark
abbrev pub is_last : Lexeme → List Lexeme → Bool
is_last (t.Mark v a) (x ∷ []) = is_mark_at v a x
is_last _ _ = false

-- the item of a run: it goes on to the token that ends the run
unfoldable pub item_of : ℕ → List Lexeme × Lexeme → Option Item
item_of n run = do
  p ← item_at n (whole_run run.0 run.1)
  if is_last run.1 p.1 then Some p.0 else None

-- an item before others, or the place of the first that is none: this one stands here
abbrev pub item_before : Place → Option Item → Result (List Item) Place → Result (List Item) Place
item_before at None others = Err at
item_before at (Some item) (Err later) = Err later
item_before at (Some item) (Ok items) = Ok (item ∷ items)

-- the items of runs, or the place of the first that spells none; a run of nothing is no item
abbrev pub items_at : ℕ → List (List Lexeme × Lexeme) → Result (List Item) Place
items_at n [] = Ok []
items_at n (([], end) ∷ runs) = items_at n runs
items_at n ((x ∷ xs, end) ∷ runs) = item_before (next_spot (x ∷ xs)).place (item_of n (x ∷ xs, end)) (items_at n runs)

-- ---- the tree

-- the program of items
abbrev pub program_of : Result (List Item) Place → Result (Program Span) Place
program_of (Ok items) = Ok (record { decls = declarations_of (item_groups items) })
program_of (Err at) = Err at

-- the program of runs; without them the place of the first token
abbrev pub framed : ℕ → List Lexeme → Option (List (List Lexeme × Lexeme)) → Result (Program Span) Place
framed n ts None = Err (first_place ts)
framed n ts (Some runs) = program_of (items_at n runs)

-- the program that tokens spell, or the place where they spell none, with at most so many levels inside an item
unfoldable pub program_at : ℕ → List Token → Result (Program Span) Place
program_at n tokens = framed n (lexemes tokens) (frame_at (lexemes tokens))
