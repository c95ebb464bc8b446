-- The canonical tokens of statements that can be spelled spell them.
use Rattle.std.proofs.Common.{◌≡◌, ℕ, zero, suc, List, [], ◌∷◌, ◌++◌, map, sym, ap, subst, ◌∙◌, append_assoc}
use Rattle.vh_tree.specs.declared.token.Mark.TheVariants as m
use Rattle.vh_tree.specs.declared.token.Token.{Token}
use Rattle.vh_tree.specs.declared.token.Token.TheVariants as t
use Rattle.vh_tree.specs.declared.token.Side.{Side}
use Rattle.vh_tree.specs.declared.expr.VExpr.{VExpr}
use Rattle.vh_tree.specs.declared.stmt.Test.{Test}
use Rattle.vh_tree.specs.declared.stmt.Test.TheVariants as c
use Rattle.vh_tree.specs.declared.stmt.VStmt.{VStmt}
use Rattle.vh_tree.specs.declared.stmt.VStmt.TheVariants as s
use Rattle.vh_tree.specs.declared.stmt.Branch.{Branch}
use Rattle.vh_tree.specs.VToken.{name_token, marks, assign_mark}
use Rattle.vh_tree.specs.Grammar as g
use Rattle.vh_tree.specs.Canonical.{separated, expr_tokens, test_tokens, else_tokens, stmt_tokens, branch_tokens, stmts_tokens}
use Rattle.vh_tree.specs.Spellable as f
use Rattle.vh_tree_spelling.proofs.Texts.{mark_token, bits_token, AllTokens}
use Rattle.vh_tree_spelling.proofs.Equations.{tokens_assign, tokens_if, tokens_branch}
use Rattle.vh_tree_spelling.proofs.Again.{all_both}
use Rattle.vh_tree_spelling.proofs.Made.{Made, separated_made, many_made, target_spelled, refs_made, exprs_made}
use Rattle.vh_tree_spelling.proofs.AgainStmts.{choice_tokens}

module _ (ArgsFits : List VExpr → Type 0) (Args : List Token → List VExpr → List Token → Type 0) (refs : Made (f.RefFits ArgsFits) expr_tokens (g.IsRef Args)) where
  test_spells : (e : Test) (later : List Token) → f.TestFits ArgsFits e → g.IsTest Args (test_tokens e ++ later) e later
  test_spells _ later (f.TestFits.equal e bits h k) =
      subst (λ z. g.IsTest Args z (c.Equal e bits) later) (sym (append_assoc (expr_tokens e) (t.Mark m.Equal ∷ t.Bits bits ∷ []) later))
      (g.equal (expr_tokens e ++ t.Mark m.Equal ∷ t.Bits bits ∷ later) later e bits (refs.spells e (t.Mark m.Equal ∷ t.Bits bits ∷ later) h))
  test_spells _ later f.TestFits.rising = g.rising later
  test_spells _ later f.TestFits.reset = g.reset later

  test_all : (e : Test) → f.TestFits ArgsFits e → AllTokens (test_tokens e)
  test_all _ (f.TestFits.equal e bits h k) = all_both (expr_tokens e) (t.Mark m.Equal ∷ t.Bits bits ∷ []) (refs.all e h) (mark_token m.Equal, (bits_token bits k, tt))
  test_all _ f.TestFits.rising = (mark_token m.RisingEdge, (mark_token m.Opens, (mark_token m.Clk, (mark_token m.Closes, tt))))
  test_all _ f.TestFits.reset = (mark_token m.Rst, (mark_token m.Equal, (mark_token m.High, tt)))

  pub tests_made : Made (f.OneOrMore (f.TestFits ArgsFits)) (λ (es : List Test). separated m.And (map test_tokens es)) (g.IsSeparated m.And (g.IsTest Args))
  tests_made = separated_made (f.TestFits ArgsFits) test_tokens (g.IsTest Args) (record { spells = test_spells; all = test_all }) m.And

module _ (at : Side) (ArgsFits : List VExpr → Type 0) (Args : List Token → List VExpr → List Token → Type 0) (refs : Made (f.RefFits ArgsFits) expr_tokens (g.IsRef Args))
    (StmtsFits : List VStmt → Type 0) (Stmts : List Token → List VStmt → List Token → Type 0) (stmts : Made StmtsFits (stmts_tokens at) Stmts) where
  branch_spells : (b : Branch) (later : List Token) → f.BranchFits ArgsFits StmtsFits b → g.IsBranch Args Stmts (branch_tokens at b ++ later) b later
  branch_spells _ later (f.BranchFits.a_branch tests body h k) =
      let all = tests_made ArgsFits Args refs in
      let front = separated m.And (map test_tokens tests) in
      let next = stmts_tokens at body ++ later in
      subst (λ z. g.IsBranch Args Stmts (z ++ later) (record { tests = tests; body = body }) later) (sym (tokens_branch at tests body))
      (subst (λ z. g.IsBranch Args Stmts z (record { tests = tests; body = body }) later) (sym (append_assoc front (t.Mark m.Then ∷ stmts_tokens at body) later))
      (g.a_branch (front ++ t.Mark m.Then ∷ next) next later tests body (all.spells tests (t.Mark m.Then ∷ next) h) (stmts.spells body later k)))

  branch_all : (b : Branch) → f.BranchFits ArgsFits StmtsFits b → AllTokens (branch_tokens at b)
  branch_all _ (f.BranchFits.a_branch tests body h k) =
      let all = tests_made ArgsFits Args refs in
      subst AllTokens (sym (tokens_branch at tests body))
      (all_both (separated m.And (map test_tokens tests)) (t.Mark m.Then ∷ stmts_tokens at body) (all.all tests h) (mark_token m.Then, stmts.all body k))

  branches_made : Made (f.OneOrMore (f.BranchFits ArgsFits StmtsFits)) (λ (bs : List Branch). separated m.Elsif (map (branch_tokens at) bs)) (g.IsSeparated m.Elsif (g.IsBranch Args Stmts))
  branches_made = separated_made (f.BranchFits ArgsFits StmtsFits) (branch_tokens at) (g.IsBranch Args Stmts) (record { spells = branch_spells; all = branch_all }) m.Elsif

  else_spells : (body : List VStmt) (later : List Token) → StmtsFits body → g.IsElse Stmts (else_tokens (map (stmt_tokens at) body) ++ later) body later
  else_spells [] later h = g.absent later
  else_spells (x ∷ body) later h = g.present (stmts_tokens at (x ∷ body) ++ later) later (x ∷ body) (stmts.spells (x ∷ body) later h)

  else_all : (body : List VStmt) → StmtsFits body → AllTokens (else_tokens (map (stmt_tokens at) body))
  else_all [] h = tt
  else_all (x ∷ body) h = (mark_token m.Else, stmts.all (x ∷ body) h)

  choice_spells : (p : List Branch × List VStmt) (later : List Token) → f.OneOrMore (f.BranchFits ArgsFits StmtsFits) p.0 × StmtsFits p.1 → g.IsChoice Args Stmts (choice_tokens at p ++ later) p later
  choice_spells (branches, other) later h =
      let front = separated m.Elsif (map (branch_tokens at) branches) in
      let last = else_tokens (map (stmt_tokens at) other) in
      let end = t.Mark m.End ∷ t.Mark m.If ∷ t.Mark m.Semicolon ∷ later in
      let whole : (front ++ (last ++ marks (m.End ∷ m.If ∷ m.Semicolon ∷ []))) ++ later ≡ front ++ (last ++ end) =
      append_assoc front (last ++ marks (m.End ∷ m.If ∷ m.Semicolon ∷ [])) later ∙ ap (λ z. front ++ z) (append_assoc last (marks (m.End ∷ m.If ∷ m.Semicolon ∷ [])) later) in
      subst (λ z. g.IsChoice Args Stmts z (branches, other) later) (sym whole)
      (g.a_choice (front ++ (last ++ end)) (last ++ end) later branches other (branches_made.spells branches (last ++ end) h.0) (else_spells other end h.1))

  choice_all : (p : List Branch × List VStmt) → f.OneOrMore (f.BranchFits ArgsFits StmtsFits) p.0 × StmtsFits p.1 → AllTokens (choice_tokens at p)
  choice_all (branches, other) h =
      all_both (separated m.Elsif (map (branch_tokens at) branches)) (else_tokens (map (stmt_tokens at) other) ++ marks (m.End ∷ m.If ∷ m.Semicolon ∷ [])) (branches_made.all branches h.0)
      (all_both (else_tokens (map (stmt_tokens at) other)) (marks (m.End ∷ m.If ∷ m.Semicolon ∷ [])) (else_all other h.1) (mark_token m.End, (mark_token m.If, (mark_token m.Semicolon, tt))))

module _ (at : Side) (ArgsFits : List VExpr → Type 0) (Args : List Token → List VExpr → List Token → Type 0) (exprs : Made (f.ExprFits ArgsFits) expr_tokens (g.IsExpr Args))
    (ChoiceFits : List Branch × List VStmt → Type 0) (Choice : List Token → List Branch × List VStmt → List Token → Type 0) (choice : Made ChoiceFits (choice_tokens at) Choice) where
  stmt_spells : (e : VStmt) (later : List Token) → f.StmtFits at ArgsFits ChoiceFits e → g.IsStmt at Args Choice (stmt_tokens at e ++ later) e later
  stmt_spells _ later (f.StmtFits.an_assignment x e h k) =
      subst (λ z. g.IsStmt at Args Choice (z ++ later) (s.Assign x e) later) (sym (tokens_assign at x e))
      (subst (λ z. g.IsStmt at Args Choice (name_token x ∷ t.Mark (assign_mark at) ∷ z) (s.Assign x e) later) (sym (append_assoc (expr_tokens e) (t.Mark m.Semicolon ∷ []) later))
      (g.an_assignment (name_token x) x (expr_tokens e ++ t.Mark m.Semicolon ∷ later) later e (target_spelled at x h).0 (exprs.spells e (t.Mark m.Semicolon ∷ later) k)))
  stmt_spells _ later (f.StmtFits.an_if branches other h) =
      subst (λ z. g.IsStmt at Args Choice (z ++ later) (s.If branches other) later) (sym (tokens_if at branches other))
      (g.an_if (choice_tokens at (branches, other) ++ later) later branches other (choice.spells (branches, other) later h))

  stmt_all : (e : VStmt) → f.StmtFits at ArgsFits ChoiceFits e → AllTokens (stmt_tokens at e)
  stmt_all _ (f.StmtFits.an_assignment x e h k) =
      subst AllTokens (sym (tokens_assign at x e))
      ((target_spelled at x h).1, (mark_token (assign_mark at), all_both (expr_tokens e) (t.Mark m.Semicolon ∷ []) (exprs.all e k) (mark_token m.Semicolon, tt)))
  stmt_all _ (f.StmtFits.an_if branches other h) = subst AllTokens (sym (tokens_if at branches other)) (mark_token m.If, choice.all (branches, other) h)

level_made : (at : Side) (n : ℕ) → Made (f.ChoiceFits at n) (choice_tokens at) (g.IsChoiceAt at n) → Made (f.StmtsFit at n) (stmts_tokens at) (g.IsStmts at n)
level_made at n choices =
    many_made (f.StmtFits at (f.ArgsFit n) (f.ChoiceFits at n)) (stmt_tokens at) (g.IsStmt at (g.IsArgs n) (g.IsChoiceAt at n))
    (record {
      spells = stmt_spells at (f.ArgsFit n) (g.IsArgs n) (exprs_made n) (f.ChoiceFits at n) (g.IsChoiceAt at n) choices;
      all = stmt_all at (f.ArgsFit n) (g.IsArgs n) (exprs_made n) (f.ChoiceFits at n) (g.IsChoiceAt at n) choices;
    })

choices_made : (at : Side) (n : ℕ) → Made (f.ChoiceFits at n) (choice_tokens at) (g.IsChoiceAt at n)
choices_made at zero = record { spells = λ p later h. absurd h; all = λ p h. absurd h }
choices_made at (suc n) =
    let stmts = level_made at n (choices_made at n) in
    record {
      spells = choice_spells at (f.ArgsFit n) (g.IsArgs n) (refs_made n) (f.StmtsFit at n) (g.IsStmts at n) stmts;
      all = choice_all at (f.ArgsFit n) (g.IsArgs n) (refs_made n) (f.StmtsFit at n) (g.IsStmts at n) stmts;
    }

-- at every level
pub stmts_made : (at : Side) (n : ℕ) → Made (f.StmtsFit at n) (stmts_tokens at) (g.IsStmts at n)
stmts_made at n = level_made at n (choices_made at n)
