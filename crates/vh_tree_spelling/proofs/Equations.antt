-- The tokens of each form of expression and statement: a fold doesn't compute by itself.
use Rattle.std.proofs.Common.{◌≡◌, ℕ, List, [], ◌∷◌, ◌++◌, map, sym, ap, ◌∙◌, append-nil}
use Rattle.rw_base.specs.declared.bit.Bit9.{Bit9}
use Rattle.vh_tree.specs.declared.token.Mark.TheVariants as m
use Rattle.vh_tree.specs.declared.token.Token.{Token}
use Rattle.vh_tree.specs.declared.token.Token.TheVariants as t
use Rattle.vh_tree.specs.declared.token.Side.{Side}
use Rattle.vh_tree.specs.declared.expr.VExpr.{VExpr}
use Rattle.vh_tree.specs.declared.expr.VExpr.TheVariants as w
use Rattle.vh_tree.specs.declared.expr.VExpr.TheOpen.{Name, Slice, Literal, Call, Join}
use Rattle.vh_tree.specs.declared.expr.VExpr.TheFolds.{fold-roll-VExpr}
use Rattle.vh_tree.specs.declared.stmt.Test.{Test}
use Rattle.vh_tree.specs.declared.stmt.VStmt.{VStmt}
use Rattle.vh_tree.specs.declared.stmt.VStmt.TheVariants as s
use Rattle.vh_tree.specs.declared.stmt.VStmt.TheOpen as so
use Rattle.vh_tree.specs.declared.stmt.VStmt.TheFolds.{fold-roll-VStmt, fold-roll-Branch}
use Rattle.vh_tree.specs.declared.stmt.Branch.{Branch}
use Rattle.vh_tree.specs.VToken.{name_token, marks, assign_mark}
use Rattle.vh_tree.specs.Grammar.{join_of}
use Rattle.vh_tree.specs.Canonical.{separated, range_tokens, expr_step, expr_tokens, test_tokens, else_tokens, branch_step, stmt_step, stmt_tokens, branch_tokens, stmts_tokens}

pub tokens_name : (x : List ℕ) → expr_tokens (w.Name x) ≡ name_token x ∷ []
tokens_name x = ap expr_tokens (sym (w.rolls-Name x)) ∙ fold-roll-VExpr (List Token) expr_step (Name x)

pub tokens_slice : (x : List ℕ) (a b : ℕ) → expr_tokens (w.Slice x a b) ≡ name_token x ∷ range_tokens a b
tokens_slice x a b = ap expr_tokens (sym (w.rolls-Slice x a b)) ∙ fold-roll-VExpr (List Token) expr_step (Slice x a b)

pub tokens_literal : (bits : List Bit9) → expr_tokens (w.Literal bits) ≡ t.Bits bits ∷ []
tokens_literal bits = ap expr_tokens (sym (w.rolls-Literal bits)) ∙ fold-roll-VExpr (List Token) expr_step (Literal bits)

pub tokens_call : (f : List ℕ) (es : List VExpr) → expr_tokens (w.Call f es) ≡ name_token f ∷ t.Mark m.Opens ∷ (separated m.Comma (map expr_tokens es) ++ t.Mark m.Closes ∷ [])
tokens_call f es = ap expr_tokens (sym (w.rolls-Call f es)) ∙ fold-roll-VExpr (List Token) expr_step (Call f es)

pub tokens_join : (es : List VExpr) → expr_tokens (w.Join es) ≡ separated m.Amp (map expr_tokens es)
tokens_join es = ap expr_tokens (sym (w.rolls-Join es)) ∙ fold-roll-VExpr (List Token) expr_step (Join es)

-- a join of one part is the part
pub tokens_join_of : (es : List VExpr) → expr_tokens (join_of es) ≡ separated m.Amp (map expr_tokens es)
tokens_join_of [] = tokens_join []
tokens_join_of (e ∷ []) = sym (append-nil (expr_tokens e))
tokens_join_of (e ∷ f ∷ es) = tokens_join (e ∷ f ∷ es)

pub tokens_assign : (at : Side) (x : List ℕ) (e : VExpr) → stmt_tokens at (s.Assign x e) ≡ name_token x ∷ t.Mark (assign_mark at) ∷ (expr_tokens e ++ t.Mark m.Semicolon ∷ [])
tokens_assign at x e = ap (stmt_tokens at) (sym (s.rolls-Assign x e)) ∙ fold-roll-VStmt (List Token) (List Token) (stmt_step at) branch_step (so.Assign x e)

pub tokens_if : (at : Side) (branches : List Branch) (other : List VStmt)
    → stmt_tokens at (s.If branches other)
    ≡ t.Mark m.If ∷ (separated m.Elsif (map (branch_tokens at) branches) ++ (else_tokens (map (stmt_tokens at) other) ++ marks (m.End ∷ m.If ∷ m.Semicolon ∷ [])))
tokens_if at branches other = ap (stmt_tokens at) (sym (s.rolls-If branches other)) ∙ fold-roll-VStmt (List Token) (List Token) (stmt_step at) branch_step (so.If branches other)

pub tokens_branch : (at : Side) (tests : List Test) (body : List VStmt)
    → branch_tokens at (record { tests = tests; body = body }) ≡ separated m.And (map test_tokens tests) ++ t.Mark m.Then ∷ stmts_tokens at body
tokens_branch at tests body = fold-roll-Branch (List Token) (List Token) (stmt_step at) branch_step (record { tests = tests; body = body })
