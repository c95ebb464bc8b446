-- The grammar, a constructor for each alternative. `IsExpr Args ts e rest`: the tokens ts begin with a spelling of e, and rest follows it.
-- Args is the same for what stands in the parentheses of a call, one level deeper, and Choice for what stands behind an `if`.
use Rattle.std.specs.Prelude.{◌≡◌, ℕ, zero, suc, List, [], ◌∷◌, ◌++◌, Option, Some, None, codes}
use Rattle.rw_base.specs.declared.bit.Bit9.{Bit9}
use Rattle.vh_tree.specs.declared.token.Mark.{Mark}
use Rattle.vh_tree.specs.declared.token.Mark.TheVariants as m
use Rattle.vh_tree.specs.declared.token.Token.{Token}
use Rattle.vh_tree.specs.declared.token.Token.TheVariants as t
use Rattle.vh_tree.specs.declared.token.Side.{Side}
use Rattle.vh_tree.specs.declared.token.Side.TheVariants as side
use Rattle.vh_tree.specs.declared.expr.VExpr.{VExpr}
use Rattle.vh_tree.specs.declared.expr.VExpr.TheVariants as w
use Rattle.vh_tree.specs.declared.stmt.Test.{Test}
use Rattle.vh_tree.specs.declared.stmt.Test.TheVariants as c
use Rattle.vh_tree.specs.declared.stmt.VStmt.{VStmt}
use Rattle.vh_tree.specs.declared.stmt.VStmt.TheVariants as s
use Rattle.vh_tree.specs.declared.stmt.Branch.{Branch}
use Rattle.vh_tree.specs.declared.function.Var.{Var}
use Rattle.vh_tree.specs.declared.function.Function.{Function}
use Rattle.vh_tree.specs.declared.process.Process.{Process}
use Rattle.vh_tree.specs.declared.design.Item.{Item}
use Rattle.vh_tree.specs.declared.design.Item.TheVariants as i
use Rattle.vh_tree.specs.declared.design.Design.{Design}
use Rattle.vh_tree.specs.VToken.{assign_mark, marks, library_marks, entity_marks, outp_marks, architecture_marks, end_marks}

-- ---- names and lists

-- name ::= id | `inp`
abbrev pub name_of_mark : Mark → Option (List ℕ)
name_of_mark m.Inp = Some (codes "inp")
name_of_mark _ = None

-- the name that a token is, in an expression
abbrev pub name_of : Token → Option (List ℕ)
name_of (t.Id x) = Some x
name_of (t.Mark a) = name_of_mark a
name_of (t.Number n) = None
name_of (t.Bits bits) = None

-- one or more, with a mark between two
pub data IsSeparated {A : Type 0} (between : Mark) (One : List Token → A → List Token → Type 0) : List Token → List A → List Token → Type 0 where
  the_last : (ts rest : List Token) (a : A) → One ts a rest → IsSeparated between One ts (a ∷ []) rest
  and_more : (ts mid rest : List Token) (a : A) (others : List A) → One ts a (t.Mark between ∷ mid) → IsSeparated between One mid others rest → IsSeparated between One ts (a ∷ others) rest

-- any number
pub data IsMany {A : Type 0} (One : List Token → A → List Token → Type 0) : List Token → List A → List Token → Type 0 where
  no_more : (ts : List Token) → IsMany One ts [] ts
  one_more : (ts mid rest : List Token) (a : A) (others : List A) → One ts a mid → IsMany One mid others rest → IsMany One ts (a ∷ others) rest

-- ---- expressions

-- a join of one part is the part
abbrev pub join_of : List VExpr → VExpr
join_of [] = w.Join []
join_of (e ∷ []) = e
join_of (e ∷ f ∷ es) = w.Join (e ∷ f ∷ es)

-- ref ::= name | name `(` number `downto` number `)` | id `(` expr (`,` expr)* `)`
pub data IsRef (Args : List Token → List VExpr → List Token → Type 0) : List Token → VExpr → List Token → Type 0 where
  a_name : (x : Token) (name : List ℕ) (rest : List Token) → name_of x ≡ Some name → IsRef Args (x ∷ rest) (w.Name name) rest
  a_slice : (x : Token) (name : List ℕ) (a b : ℕ) (rest : List Token) → name_of x ≡ Some name
      → IsRef Args (x ∷ t.Mark m.Opens ∷ t.Number a ∷ t.Mark m.Downto ∷ t.Number b ∷ t.Mark m.Closes ∷ rest) (w.Slice name a b) rest
  a_call : (name : List ℕ) (ts rest : List Token) (es : List VExpr) → Args ts es (t.Mark m.Closes ∷ rest)
      → IsRef Args (t.Id name ∷ t.Mark m.Opens ∷ ts) (w.Call name es) rest

-- term ::= ref | string
pub data IsTerm (Args : List Token → List VExpr → List Token → Type 0) : List Token → VExpr → List Token → Type 0 where
  a_ref : (ts rest : List Token) (e : VExpr) → IsRef Args ts e rest → IsTerm Args ts e rest
  a_literal : (bits : List Bit9) (rest : List Token) → IsTerm Args (t.Bits bits ∷ rest) (w.Literal bits) rest

-- expr ::= term (`&` term)*
pub data IsExpr (Args : List Token → List VExpr → List Token → Type 0) : List Token → VExpr → List Token → Type 0 where
  an_expr : (ts rest : List Token) (parts : List VExpr) → IsSeparated m.Amp (IsTerm Args) ts parts rest → IsExpr Args ts (join_of parts) rest

-- what stands in a call's parentheses, with at most so many levels there, the call's own among them
abbrev pub IsArgs : ℕ → List Token → List VExpr → List Token → Type 0
IsArgs zero ts es rest = ⊥
IsArgs (suc n) ts es rest = IsSeparated m.Comma (IsExpr (IsArgs n)) ts es rest

-- ---- statements

-- test ::= ref `=` string | `rising_edge ( clk )` | `rst = '1'`
pub data IsTest (Args : List Token → List VExpr → List Token → Type 0) : List Token → Test → List Token → Type 0 where
  equal : (ts rest : List Token) (e : VExpr) (bits : List Bit9) → IsRef Args ts e (t.Mark m.Equal ∷ t.Bits bits ∷ rest) → IsTest Args ts (c.Equal e bits) rest
  rising : (rest : List Token) → IsTest Args (t.Mark m.RisingEdge ∷ t.Mark m.Opens ∷ t.Mark m.Clk ∷ t.Mark m.Closes ∷ rest) c.Rising rest
  reset : (rest : List Token) → IsTest Args (t.Mark m.Rst ∷ t.Mark m.Equal ∷ t.Mark m.High ∷ rest) c.Reset rest

-- what an assignment may go to beside a declared name: in a process, `outp`
abbrev pub target_of_mark : Side → Mark → Option (List ℕ)
target_of_mark side.Process m.Outp = Some (codes "outp")
target_of_mark _ _ = None

-- the name that a token is, on the left of an assignment
abbrev pub target_of : Side → Token → Option (List ℕ)
target_of at (t.Id x) = Some x
target_of at (t.Mark a) = target_of_mark at a
target_of at (t.Number n) = None
target_of at (t.Bits bits) = None

-- cond `then` s*, where cond ::= test (`and` test)*
pub data IsBranch (Args : List Token → List VExpr → List Token → Type 0) (Stmts : List Token → List VStmt → List Token → Type 0) : List Token → Branch → List Token → Type 0 where
  a_branch : (ts mid rest : List Token) (tests : List Test) (body : List VStmt) → IsSeparated m.And (IsTest Args) ts tests (t.Mark m.Then ∷ mid) → Stmts mid body rest
      → IsBranch Args Stmts ts (record { tests = tests; body = body }) rest

-- [`else` s*]: an absent one is an empty one
pub data IsElse (Stmts : List Token → List VStmt → List Token → Type 0) : List Token → List VStmt → List Token → Type 0 where
  absent : (ts : List Token) → IsElse Stmts ts [] ts
  present : (ts rest : List Token) (body : List VStmt) → Stmts ts body rest → IsElse Stmts (t.Mark m.Else ∷ ts) body rest

-- what follows an `if`: cond `then` s* (`elsif` cond `then` s*)* [`else` s*] `end if ;`
pub data IsChoice (Args : List Token → List VExpr → List Token → Type 0) (Stmts : List Token → List VStmt → List Token → Type 0)
    : List Token → List Branch × List VStmt → List Token → Type 0 where
  a_choice : (ts mid rest : List Token) (branches : List Branch) (other : List VStmt) → IsSeparated m.Elsif (IsBranch Args Stmts) ts branches mid
      → IsElse Stmts mid other (t.Mark m.End ∷ t.Mark m.If ∷ t.Mark m.Semicolon ∷ rest) → IsChoice Args Stmts ts (branches, other) rest

-- fstmt ::= id `:=` expr `;` | if of fstmt, and pstmt ::= (id | `outp`) `<=` expr `;` | if of pstmt
pub data IsStmt (at : Side) (Args : List Token → List VExpr → List Token → Type 0) (Choice : List Token → List Branch × List VStmt → List Token → Type 0)
    : List Token → VStmt → List Token → Type 0 where
  an_assignment : (x : Token) (name : List ℕ) (ts rest : List Token) (e : VExpr) → target_of at x ≡ Some name → IsExpr Args ts e (t.Mark m.Semicolon ∷ rest)
      → IsStmt at Args Choice (x ∷ t.Mark (assign_mark at) ∷ ts) (s.Assign name e) rest
  an_if : (ts rest : List Token) (branches : List Branch) (other : List VStmt) → Choice ts (branches, other) rest
      → IsStmt at Args Choice (t.Mark m.If ∷ ts) (s.If branches other) rest

-- what follows an `if`, with at most so many levels there, its own among them: `if` and calls count together
abbrev pub IsChoiceAt : Side → ℕ → List Token → List Branch × List VStmt → List Token → Type 0
IsChoiceAt at zero ts p rest = ⊥
IsChoiceAt at (suc n) ts p rest = IsChoice (IsArgs n) (IsMany (IsStmt at (IsArgs n) (IsChoiceAt at n))) ts p rest

-- statements, with at most so many levels inside
abbrev pub IsStmts : Side → ℕ → List Token → List VStmt → List Token → Type 0
IsStmts at n = IsMany (IsStmt at (IsArgs n) (IsChoiceAt at n))

-- ---- declarations, processes, and the whole

-- vec ::= `std_logic_vector (` number `downto 0 )`: one wire more than the number
pub data IsVec : List Token → ℕ → List Token → Type 0 where
  a_vec : (n : ℕ) (rest : List Token) → IsVec (t.Mark m.StdLogicVector ∷ t.Mark m.Opens ∷ t.Number n ∷ t.Mark m.Downto ∷ t.Number 0 ∷ t.Mark m.Closes ∷ rest) (suc n) rest

-- `signal` or `variable`, and id `:` vec `;`
pub data IsVar (keyword : Mark) : List Token → Var → List Token → Type 0 where
  a_var : (name : List ℕ) (width : ℕ) (ts rest : List Token) → IsVec ts width (t.Mark m.Semicolon ∷ rest)
      → IsVar keyword (t.Mark keyword ∷ t.Id name ∷ t.Mark m.Colon ∷ ts) (record { name = name; width = width }) rest

-- param ::= id `: std_logic_vector`
pub data IsParam : List Token → List ℕ → List Token → Type 0 where
  a_param : (name : List ℕ) (rest : List Token) → IsParam (t.Id name ∷ t.Mark m.Colon ∷ t.Mark m.StdLogicVector ∷ rest) name rest

-- [`(` param (`;` param)* `)`]
pub data IsParams : List Token → List (List ℕ) → List Token → Type 0 where
  no_params : (ts : List Token) → IsParams ts [] ts
  some_params : (ts rest : List Token) (names : List (List ℕ)) → IsSeparated m.Semicolon IsParam ts names (t.Mark m.Closes ∷ rest) → IsParams (t.Mark m.Opens ∷ ts) names rest

-- function ::= `function` id params `return std_logic_vector is` (`variable` ..)* `begin` fstmt* `return` expr `;` `end` id `;`, where both ids are one
pub data IsFunction (levels : ℕ) : List Token → Function → List Token → Type 0 where
  a_function : (name : List ℕ) (params : List (List ℕ)) (vars : List Var) (body : List VStmt) (result : VExpr) (ts declared inside behind rest : List Token)
      → IsParams ts params (t.Mark m.Return ∷ t.Mark m.StdLogicVector ∷ t.Mark m.Is ∷ declared)
      → IsMany (IsVar m.Variable) declared vars (t.Mark m.Begin ∷ inside)
      → IsStmts side.Function levels inside body (t.Mark m.Return ∷ behind)
      → IsExpr (IsArgs levels) behind result (t.Mark m.Semicolon ∷ t.Mark m.End ∷ t.Id name ∷ t.Mark m.Semicolon ∷ rest)
      → IsFunction levels (t.Mark m.Function ∷ t.Id name ∷ ts) (record { name = name; params = params; vars = vars; body = body; result = result }) rest

-- item ::= `signal` id `:` vec `;` | function
pub data IsItem (levels : ℕ) : List Token → Item → List Token → Type 0 where
  a_signal : (ts rest : List Token) (v : Var) → IsVar m.Signal ts v rest → IsItem levels ts (i.Signal v) rest
  a_definition : (ts rest : List Token) (f : Function) → IsFunction levels ts f rest → IsItem levels ts (i.Function f) rest

-- sens ::= id | `clk` | `rst` | `inp`
abbrev pub sensitive_of_mark : Mark → Option (List ℕ)
sensitive_of_mark m.Clk = Some (codes "clk")
sensitive_of_mark m.Rst = Some (codes "rst")
sensitive_of_mark m.Inp = Some (codes "inp")
sensitive_of_mark _ = None

-- the name that a token is, in a sensitivity list
abbrev pub sensitive_of : Token → Option (List ℕ)
sensitive_of (t.Id x) = Some x
sensitive_of (t.Mark a) = sensitive_of_mark a
sensitive_of (t.Number n) = None
sensitive_of (t.Bits bits) = None

-- one name of a sensitivity list
pub data IsSensitive : List Token → List ℕ → List Token → Type 0 where
  a_sensitive : (x : Token) (name : List ℕ) (rest : List Token) → sensitive_of x ≡ Some name → IsSensitive (x ∷ rest) name rest

-- process ::= `process (` sens (`,` sens)* `) begin` pstmt* `end process ;`
pub data IsProcess (levels : ℕ) : List Token → Process → List Token → Type 0 where
  a_process : (names : List (List ℕ)) (body : List VStmt) (ts inside rest : List Token)
      → IsSeparated m.Comma IsSensitive ts names (t.Mark m.Closes ∷ t.Mark m.Begin ∷ inside)
      → IsStmts side.Process levels inside body (t.Mark m.End ∷ t.Mark m.Process ∷ t.Mark m.Semicolon ∷ rest)
      → IsProcess levels (t.Mark m.Process ∷ t.Mark m.Opens ∷ ts) (record { sensitive = names; body = body }) rest

-- design ::= the library, the entity with the types of its ports, and the architecture: item* `begin` process* `end behaviour ;`
pub data IsDesign (levels : ℕ) : List Token → Design → List Token → Type 0 where
  a_design : (inp outp : ℕ) (items : List Item) (processes : List Process) (first second declared behind rest : List Token)
      → IsVec first inp (marks outp_marks ++ second)
      → IsVec second outp (marks architecture_marks ++ declared)
      → IsMany (IsItem levels) declared items (t.Mark m.Begin ∷ behind)
      → IsMany (IsProcess levels) behind processes (marks end_marks ++ rest)
      → IsDesign levels (marks library_marks ++ (marks entity_marks ++ first)) (record { inp = inp; outp = outp; items = items; processes = processes }) rest

-- so many levels of `if` and calls may stand around one another
abbrev pub max_levels : ℕ
max_levels = 4096
