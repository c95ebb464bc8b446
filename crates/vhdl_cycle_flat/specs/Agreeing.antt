-- Expressions and statements in two worlds that agree: what one of them reads and does is what the other does.
use Rattle.std.specs.Prelude.{◌≡◌, ℕ, List, map, length, Bool, true, Option, Some, None}
use Rattle.std.specs.List.{list_all}
use Rattle.vh_tree.specs.Bits.{Bytes, Bits}
use Rattle.vh_tree.specs.Functions.{Scope, World, expr_of, stmts_of}
use Rattle.vh_tree.specs.StaticRules.{Names, Widths, Shape, has_arity, names_well, stmt_names_well, uses_earlier, stmt_uses_earlier, measured, stmt_fits}
use Rattle.vh_tree.specs.Widths.{HasWidth, KeepsWidths}
use Rattle.vh_tree.specs.declared.expr.VExpr.{VExpr}
use Rattle.vh_tree.specs.declared.stmt.VStmt.{VStmt}

-- two functions give the same of arguments of the parameters' widths
abbrev pub GiveTheSame : Option Shape → (List Bits → Bits) → (List Bits → Bits) → Type 0
GiveTheSame None a b = ⊥
GiveTheSame (Some shape) a b = (args : List Bits) → map length args ≡ shape.params → a args ≡ b args

-- two scopes agree on all that may be named and used
pub record ScopesAgree (names : Names) (usable : Bytes → Bool) (ws : Widths) (a b : Scope) : Type 0 where
  pub reads : (x : Bytes) → names.reads x ≡ true → a.value x ≡ b.value x
  pub bare : (x : Bytes) → has_arity (names.arity x) 0 ≡ true → usable x ≡ true → a.value x ≡ b.value x
  pub calls : (f : Bytes) (k : ℕ) → has_arity (names.arity f) k ≡ true → usable f ≡ true → GiveTheSame (ws.known f) (a.call f) (b.call f)

-- an expression of which the static rules hold has one value in scopes that agree
abbrev pub AgreeingExprLaw : Type 0
AgreeingExprLaw = (names : Names) (usable : Bytes → Bool) (ws : Widths) (a b : Scope) → ScopesAgree names usable ws a b → KeepsWidths names usable ws b →
    (e : VExpr) → names_well names e ≡ true → uses_earlier usable e ≡ true → (measured ws e).fits ≡ true → expr_of e a ≡ expr_of e b

-- two worlds agree on states that stand for one another, and keep to that
pub record WorldsAgree (S T : Type 0) (R : S → T → Type 0) (names : Names) (assignable usable : Bytes → Bool) (ws : Widths) (v : World S) (w : World T) : Type 0 where
  pub scopes : (s : S) (t : T) → R s t → ScopesAgree names usable ws (v.scope s) (w.scope t)
  pub widths : (s : S) (t : T) → R s t → KeepsWidths names usable ws (w.scope t)
  pub targets : (x : Bytes) → assignable x ≡ true → (n : ℕ) × (ws.named x ≡ Some n)
  pub assign : (x : Bytes) → assignable x ≡ true → (value : Bits) → HasWidth (ws.named x) value → (s : S) (t : T) → R s t → R (v.assign x value s) (w.assign x value t)
  pub rising : v.rising ≡ w.rising
  pub reset : v.reset ≡ w.reset

-- statements of which the static rules hold do the same in worlds that agree
abbrev pub AgreeingStmtsLaw : Type 1
AgreeingStmtsLaw = (S T : Type 0) (R : S → T → Type 0) (names : Names) (assignable usable : Bytes → Bool) (ws : Widths) (v : World S) (w : World T) →
    WorldsAgree S T R names assignable usable ws v w →
    (in_process : Bool) (body : List VStmt) → list_all (stmt_names_well names assignable in_process) body ≡ true →
    list_all (stmt_uses_earlier usable) body ≡ true → list_all (stmt_fits ws) body ≡ true →
    (s : S) (t : T) → R s t → R (stmts_of S body v s) (stmts_of T body w t)
