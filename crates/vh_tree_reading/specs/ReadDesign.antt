-- Reading declarations, processes and a whole design from the front of a list of tokens, as functions on lists.
use Rattle.std.specs.Prelude.{ℕ, suc, nat_eq, Bool, ◌||◌, List, [], ◌∷◌, length, drop, Option, Some, None, if◌then◌else◌, bytes_eq}
use Rattle.vh_tree.specs.declared.token.Mark.{Mark}
use Rattle.vh_tree.specs.declared.token.Mark.TheVariants as m
use Rattle.vh_tree.specs.declared.token.Token.{Token}
use Rattle.vh_tree.specs.declared.token.Token.TheVariants as t
use Rattle.vh_tree.specs.declared.token.Side.TheVariants as side
use Rattle.vh_tree.specs.declared.expr.VExpr.{VExpr}
use Rattle.vh_tree.specs.declared.stmt.VStmt.{VStmt}
use Rattle.vh_tree.specs.declared.function.Var.{Var}
use Rattle.vh_tree.specs.declared.function.Function.{Function}
use Rattle.vh_tree.specs.declared.process.Process.{Process}
use Rattle.vh_tree.specs.declared.design.Item.{Item}
use Rattle.vh_tree.specs.declared.design.Item.TheVariants as i
use Rattle.vh_tree.specs.declared.design.Design.{Design}
use Rattle.vh_tree.specs.VToken.{library_marks, entity_marks, outp_marks, architecture_marks, end_marks}
use Rattle.vh_tree.specs.Grammar.{sensitive_of, max_levels}
use Rattle.vh_tree_reading.specs.Scan.{◌>>=◌, scanned}
use Rattle.vh_tree_reading.specs.Read.{Read, sees, after, number_at, separated_at, many_at, args_at, expr_at, stmts_at, choice_levels, if_whole}

-- the tokens after these marks
unfoldable pub after_all : List Mark → List Token → Option (List Token)
after_all [] ts = Some ts
after_all (a ∷ others) ts = after a ts >>= after_all others

-- a declared name
abbrev pub id_at : List Token → Read (List ℕ)
id_at [] = None
id_at (t.Id x ∷ ts) = Some (x, ts)
id_at (t.Mark a ∷ ts) = None
id_at (t.Number n ∷ ts) = None
id_at (t.Bits b ∷ ts) = None

-- `0 )`, the end of a type
unfoldable pub zero_at : List Token → Option (List Token)
zero_at ts = do
  b ← number_at ts
  r ← after m.Closes b.1
  if nat_eq b.0 0 then Some r else None

-- a type
unfoldable pub vec_at : List Token → Read ℕ
vec_at ts = do
  r ← after_all (m.StdLogicVector ∷ m.Opens ∷ []) ts
  a ← number_at r
  r ← after m.Downto a.1
  r ← zero_at r
  Some (suc a.0, r)

-- a declaration of a variable or a signal
unfoldable pub var_at : Mark → List Token → Read Var
var_at keyword ts = do
  r ← after keyword ts
  x ← id_at r
  r ← after m.Colon x.1
  v ← vec_at r
  r ← after m.Semicolon v.1
  Some (record { name = x.0; width = v.0 }, r)

-- declarations of variables
unfoldable pub vars_at : List Token → Read (List Var)
vars_at ts = many_at (sees m.Variable) (var_at m.Variable) (length ts) ts

-- a parameter
unfoldable pub param_at : List Token → Read (List ℕ)
param_at ts = do
  x ← id_at ts
  r ← after_all (m.Colon ∷ m.StdLogicVector ∷ []) x.1
  Some (x.0, r)

-- parameters with `;` between two
unfoldable pub param_list_at : List Token → Read (List (List ℕ))
param_list_at ts = separated_at m.Semicolon param_at (length ts) ts

-- parameters in parentheses, if there are any
unfoldable pub params_at : List Token → Read (List (List ℕ))
params_at ts =
    if sees m.Opens ts then (do p ← param_list_at (drop 1 ts); r ← after m.Closes p.1; Some (p.0, r)) else Some ([], ts)

-- what stands between the name of a function and its statements
unfoldable pub head_at : List Token → Read (List (List ℕ) × List Var)
head_at ts = do
  p ← params_at ts
  r ← after_all (m.Return ∷ m.StdLogicVector ∷ m.Is ∷ []) p.1
  v ← vars_at r
  r ← after m.Begin v.1
  Some ((p.0, v.0), r)

-- the end of a function of this name, from the `;` behind what it returns
unfoldable pub end_at : List ℕ → List Token → Option (List Token)
end_at name ts = do
  r ← after_all (m.Semicolon ∷ m.End ∷ []) ts
  y ← id_at r
  r ← after m.Semicolon y.1
  if bytes_eq y.0 name then Some r else None

-- the statements of a function, and what it returns
unfoldable pub tail_at : ℕ → List ℕ → List Token → Read (List VStmt × VExpr)
tail_at levels name ts = do
  b ← stmts_at side.Function (args_at levels) (choice_levels side.Function levels) ts
  r ← after m.Return b.1
  e ← expr_at (args_at levels) r
  r ← end_at name e.1
  Some ((b.0, e.0), r)

-- a function
unfoldable pub function_at : ℕ → List Token → Read Function
function_at levels ts = do
  r ← after m.Function ts
  x ← id_at r
  h ← head_at x.1
  q ← tail_at levels x.0 h.1
  Some (record { name = x.0; params = h.0.0; vars = h.0.1; body = q.0.0; result = q.0.1 }, q.1)

-- a declaration in the architecture
unfoldable pub item_at : ℕ → List Token → Read Item
item_at levels ts =
    if sees m.Signal ts then (do v ← var_at m.Signal ts; Some (i.Signal v.0, v.1)) else (do f ← function_at levels ts; Some (i.Function f.0, f.1))

-- the tokens begin a declaration in the architecture
abbrev pub begins_item : List Token → Bool
begins_item ts = sees m.Signal ts || sees m.Function ts

-- the declarations in the architecture
unfoldable pub items_at : ℕ → List Token → Read (List Item)
items_at levels ts = many_at begins_item (item_at levels) (length ts) ts

-- a name of a sensitivity list
unfoldable pub sensitive_at : List Token → Read (List ℕ)
sensitive_at [] = None
sensitive_at (x ∷ ts) = sensitive_of x >>= λ name. Some (name, ts)

-- a sensitivity list
unfoldable pub names_at : List Token → Read (List (List ℕ))
names_at ts = separated_at m.Comma sensitive_at (length ts) ts

-- a process
unfoldable pub process_at : ℕ → List Token → Read Process
process_at levels ts = do
  r ← after_all (m.Process ∷ m.Opens ∷ []) ts
  n ← names_at r
  r ← after_all (m.Closes ∷ m.Begin ∷ []) n.1
  b ← stmts_at side.Process (args_at levels) (choice_levels side.Process levels) r
  r ← after_all (m.End ∷ m.Process ∷ m.Semicolon ∷ []) b.1
  Some (record { sensitive = n.0; body = b.0 }, r)

-- the processes
unfoldable pub processes_at : ℕ → List Token → Read (List Process)
processes_at levels ts = many_at (sees m.Process) (process_at levels) (length ts) ts

-- what stands before the declarations: the widths of `inp` and `outp`
unfoldable pub ports_at : List Token → Read (ℕ × ℕ)
ports_at ts = do
  r ← after_all library_marks ts
  r ← after_all entity_marks r
  a ← vec_at r
  r ← after_all outp_marks a.1
  b ← vec_at r
  r ← after_all architecture_marks b.1
  Some ((a.0, b.0), r)

-- a design
unfoldable pub design_at : ℕ → List Token → Read Design
design_at levels ts = do
  w ← ports_at ts
  x ← items_at levels w.1
  r ← after m.Begin x.1
  p ← processes_at levels r
  r ← after_all end_marks p.1
  Some (record { inp = w.0.0; outp = w.0.1; items = x.0; processes = p.0 }, r)

-- the design that tokens spell, all of them
unfoldable pub design_of : List Token → Option Design
design_of ts = design_at max_levels ts >>= if_whole

-- the design that a text spells whose bytes are allowed
abbrev pub read_text : List ℕ → Option Design
read_text bytes = scanned bytes >>= design_of
