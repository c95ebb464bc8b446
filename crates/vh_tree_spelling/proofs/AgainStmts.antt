-- The canonical tokens of statements spell them.
use Rattle.std.proofs.Common.{◌≡◌, ℕ, zero, suc, List, [], ◌∷◌, ◌++◌, map, sym, ap, subst, ◌∙◌, append_assoc}
use Rattle.vh_tree.specs.declared.token.Mark.TheVariants as m
use Rattle.vh_tree.specs.declared.token.Token.{Token}
use Rattle.vh_tree.specs.declared.token.Token.TheVariants as t
use Rattle.vh_tree.specs.declared.token.Side.{Side}
use Rattle.vh_tree.specs.declared.expr.VExpr.{VExpr}
use Rattle.vh_tree.specs.declared.stmt.Test.{Test}
use Rattle.vh_tree.specs.declared.stmt.Test.TheVariants as c
use Rattle.vh_tree.specs.declared.stmt.VStmt.{VStmt}
use Rattle.vh_tree.specs.declared.stmt.VStmt.TheVariants as s
use Rattle.vh_tree.specs.declared.stmt.Branch.{Branch}
use Rattle.vh_tree.specs.VToken.{marks, assign_mark}
use Rattle.vh_tree.specs.Grammar.{IsRef, IsExpr, IsArgs, IsSeparated, IsTest, equal, rising, reset, IsBranch, a_branch, IsElse, absent, present, IsChoice, a_choice, IsStmt, an_assignment, an_if, IsChoiceAt, IsStmts}
use Rattle.vh_tree.specs.Canonical.{separated, expr_tokens, test_tokens, else_tokens, stmt_tokens, branch_tokens, stmts_tokens}
use Rattle.vh_tree_spelling.proofs.Texts.{mark_token, AllTokens}
use Rattle.vh_tree_spelling.proofs.Names.{target_is}
use Rattle.vh_tree_spelling.proofs.Equations.{tokens_assign, tokens_if, tokens_branch}
use Rattle.vh_tree_spelling.proofs.Again.{Again, all_both, separated_again, many_again}
use Rattle.vh_tree_spelling.proofs.AgainExprs.{refs_again, exprs_again}

-- what stands behind an `if`
abbrev pub choice_tokens : Side → List Branch × List VStmt → List Token
choice_tokens at p = separated m.Elsif (map (branch_tokens at) p.0) ++ (else_tokens (map (stmt_tokens at) p.1) ++ marks (m.End ∷ m.If ∷ m.Semicolon ∷ []))

-- ---- tests
module _ (Args : List Token → List VExpr → List Token → Type 0) (refs : Again expr_tokens (IsRef Args)) where
  test_once : (ts : List Token) (e : Test) (rest later : List Token) → AllTokens ts → IsTest Args ts e rest → IsTest Args (test_tokens e ++ later) e later
  test_once _ _ _ later h (equal ts rest e bits d) =
      subst (λ z. IsTest Args z (c.Equal e bits) later) (sym (append_assoc (expr_tokens e) (t.Mark m.Equal ∷ t.Bits bits ∷ []) later))
      (equal (expr_tokens e ++ t.Mark m.Equal ∷ t.Bits bits ∷ later) later e bits (refs.again ts e _ (t.Mark m.Equal ∷ t.Bits bits ∷ later) h d))
  test_once _ _ _ later h (rising rest) = rising later
  test_once _ _ _ later h (reset rest) = reset later

  test_front : (ts : List Token) (e : Test) (rest : List Token) → AllTokens ts → IsTest Args ts e rest → AllTokens (test_tokens e)
  test_front _ _ _ h (equal ts rest e bits d) =
      let k = refs.behind ts e (t.Mark m.Equal ∷ t.Bits bits ∷ rest) h d in
      all_both (expr_tokens e) (t.Mark m.Equal ∷ t.Bits bits ∷ []) (refs.front ts e (t.Mark m.Equal ∷ t.Bits bits ∷ rest) h d) (mark_token m.Equal, (k.1.0, tt))
  test_front _ _ _ h (rising rest) = (mark_token m.RisingEdge, (mark_token m.Opens, (mark_token m.Clk, (mark_token m.Closes, tt))))
  test_front _ _ _ h (reset rest) = (mark_token m.Rst, (mark_token m.Equal, (mark_token m.High, tt)))

  pub test_behind : (ts : List Token) (e : Test) (rest : List Token) → AllTokens ts → IsTest Args ts e rest → AllTokens rest
  test_behind _ _ _ h (equal ts rest e bits d) = let k = refs.behind ts e (t.Mark m.Equal ∷ t.Bits bits ∷ rest) h d in k.1.1
  test_behind _ _ _ h (rising rest) = h.1.1.1.1
  test_behind _ _ _ h (reset rest) = h.1.1.1

  pub tests_again : Again (λ (tests : List Test). separated m.And (map test_tokens tests)) (IsSeparated m.And (IsTest Args))
  tests_again = separated_again test_tokens m.And (IsTest Args) (record { again = test_once; front = test_front; behind = test_behind })

-- ---- branches and `if`
module _ (at : Side) (Args : List Token → List VExpr → List Token → Type 0) (refs : Again expr_tokens (IsRef Args))
    (Stmts : List Token → List VStmt → List Token → Type 0) (stmts : Again (stmts_tokens at) Stmts) where
  branch_once : (ts : List Token) (b : Branch) (rest later : List Token) → AllTokens ts → IsBranch Args Stmts ts b rest → IsBranch Args Stmts (branch_tokens at b ++ later) b later
  branch_once _ _ _ later h (a_branch ts mid rest tests body d k) =
      let all = tests_again Args refs in
      let f = all.behind ts tests (t.Mark m.Then ∷ mid) h d in
      let front = separated m.And (map test_tokens tests) in
      let next = stmts_tokens at body ++ later in
      subst (λ z. IsBranch Args Stmts (z ++ later) (record { tests = tests; body = body }) later) (sym (tokens_branch at tests body))
      (subst (λ z. IsBranch Args Stmts z (record { tests = tests; body = body }) later) (sym (append_assoc front (t.Mark m.Then ∷ stmts_tokens at body) later))
      (a_branch (front ++ t.Mark m.Then ∷ next) next later tests body (all.again ts tests (t.Mark m.Then ∷ mid) (t.Mark m.Then ∷ next) h d) (stmts.again mid body rest later f.1 k)))

  branch_front : (ts : List Token) (b : Branch) (rest : List Token) → AllTokens ts → IsBranch Args Stmts ts b rest → AllTokens (branch_tokens at b)
  branch_front _ _ _ h (a_branch ts mid rest tests body d k) =
      let all = tests_again Args refs in
      let f = all.behind ts tests (t.Mark m.Then ∷ mid) h d in
      subst AllTokens (sym (tokens_branch at tests body))
      (all_both (separated m.And (map test_tokens tests)) (t.Mark m.Then ∷ stmts_tokens at body) (all.front ts tests (t.Mark m.Then ∷ mid) h d) (mark_token m.Then, stmts.front mid body rest f.1 k))

  pub branch_behind : (ts : List Token) (b : Branch) (rest : List Token) → AllTokens ts → IsBranch Args Stmts ts b rest → AllTokens rest
  branch_behind _ _ _ h (a_branch ts mid rest tests body d k) =
      let all = tests_again Args refs in
      let f = all.behind ts tests (t.Mark m.Then ∷ mid) h d in
      stmts.behind mid body rest f.1 k

  pub branches_again : Again (λ (bs : List Branch). separated m.Elsif (map (branch_tokens at) bs)) (IsSeparated m.Elsif (IsBranch Args Stmts))
  branches_again = separated_again (branch_tokens at) m.Elsif (IsBranch Args Stmts) (record { again = branch_once; front = branch_front; behind = branch_behind })

  -- an empty `else` is not written
  else_written : (body : List VStmt) (later : List Token) → Stmts (stmts_tokens at body ++ later) body later → IsElse Stmts (else_tokens (map (stmt_tokens at) body) ++ later) body later
  else_written [] later d = absent later
  else_written (x ∷ body) later d = present (stmts_tokens at (x ∷ body) ++ later) later (x ∷ body) d

  else_once : {ts : List Token} {body : List VStmt} {rest : List Token} → IsElse Stmts ts body rest → AllTokens ts → (later : List Token) → IsElse Stmts (else_tokens (map (stmt_tokens at) body) ++ later) body later
  else_once (absent ts) h later = absent later
  else_once (present ts rest body d) h later = else_written body later (stmts.again ts body rest later h.1 d)

  else_all : (body : List VStmt) → AllTokens (stmts_tokens at body) → AllTokens (else_tokens (map (stmt_tokens at) body))
  else_all [] h = tt
  else_all (x ∷ body) h = (mark_token m.Else, h)

  else_front : {ts : List Token} {body : List VStmt} {rest : List Token} → IsElse Stmts ts body rest → AllTokens ts → AllTokens (else_tokens (map (stmt_tokens at) body))
  else_front (absent ts) h = tt
  else_front (present ts rest body d) h = else_all body (stmts.front ts body rest h.1 d)

  pub else_behind : {ts : List Token} {body : List VStmt} {rest : List Token} → IsElse Stmts ts body rest → AllTokens ts → AllTokens rest
  else_behind (absent ts) h = h
  else_behind (present ts rest body d) h = stmts.behind ts body rest h.1 d

  choice_once : (ts : List Token) (p : List Branch × List VStmt) (rest later : List Token) → AllTokens ts → IsChoice Args Stmts ts p rest → IsChoice Args Stmts (choice_tokens at p ++ later) p later
  choice_once _ _ _ later h (a_choice ts mid rest branches other d k) =
      let all = branches_again in
      let f = all.behind ts branches mid h d in
      let front = separated m.Elsif (map (branch_tokens at) branches) in
      let last = else_tokens (map (stmt_tokens at) other) in
      let end = t.Mark m.End ∷ t.Mark m.If ∷ t.Mark m.Semicolon ∷ later in
      let whole : (front ++ (last ++ marks (m.End ∷ m.If ∷ m.Semicolon ∷ []))) ++ later ≡ front ++ (last ++ end) =
      append_assoc front (last ++ marks (m.End ∷ m.If ∷ m.Semicolon ∷ [])) later ∙ ap (λ z. front ++ z) (append_assoc last (marks (m.End ∷ m.If ∷ m.Semicolon ∷ [])) later) in
      subst (λ z. IsChoice Args Stmts z (branches, other) later) (sym whole)
      (a_choice (front ++ (last ++ end)) (last ++ end) later branches other (all.again ts branches mid (last ++ end) h d) (else_once k f end))

  choice_front : (ts : List Token) (p : List Branch × List VStmt) (rest : List Token) → AllTokens ts → IsChoice Args Stmts ts p rest → AllTokens (choice_tokens at p)
  choice_front _ _ _ h (a_choice ts mid rest branches other d k) =
      let all = branches_again in
      let f = all.behind ts branches mid h d in
      all_both (separated m.Elsif (map (branch_tokens at) branches)) (else_tokens (map (stmt_tokens at) other) ++ marks (m.End ∷ m.If ∷ m.Semicolon ∷ [])) (all.front ts branches mid h d)
      (all_both (else_tokens (map (stmt_tokens at) other)) (marks (m.End ∷ m.If ∷ m.Semicolon ∷ [])) (else_front k f) (mark_token m.End, (mark_token m.If, (mark_token m.Semicolon, tt))))

  choice_behind : (ts : List Token) (p : List Branch × List VStmt) (rest : List Token) → AllTokens ts → IsChoice Args Stmts ts p rest → AllTokens rest
  choice_behind _ _ _ h (a_choice ts mid rest branches other d k) =
      let all = branches_again in
      let f = all.behind ts branches mid h d in
      let g = else_behind k f in
      g.1.1.1

  pub choice_again : Again (choice_tokens at) (IsChoice Args Stmts)
  choice_again = record { again = choice_once; front = choice_front; behind = choice_behind }

-- ---- statements
module _ (at : Side) (Args : List Token → List VExpr → List Token → Type 0) (exprs : Again expr_tokens (IsExpr Args))
    (Choice : List Token → List Branch × List VStmt → List Token → Type 0) (choice : Again (choice_tokens at) Choice) where
  stmt_once : (ts : List Token) (e : VStmt) (rest later : List Token) → AllTokens ts → IsStmt at Args Choice ts e rest → IsStmt at Args Choice (stmt_tokens at e ++ later) e later
  stmt_once _ _ _ later h (an_assignment x name ts rest e n d) =
      subst (λ z. IsStmt at Args Choice (z ++ later) (s.Assign name e) later)
      (ap (λ z. z ∷ t.Mark (assign_mark at) ∷ (expr_tokens e ++ t.Mark m.Semicolon ∷ [])) (target_is at x name h.0 n) ∙ sym (tokens_assign at name e))
      (subst (λ z. IsStmt at Args Choice (x ∷ t.Mark (assign_mark at) ∷ z) (s.Assign name e) later) (sym (append_assoc (expr_tokens e) (t.Mark m.Semicolon ∷ []) later))
      (an_assignment x name (expr_tokens e ++ t.Mark m.Semicolon ∷ later) later e n (exprs.again ts e (t.Mark m.Semicolon ∷ rest) (t.Mark m.Semicolon ∷ later) h.1.1 d)))
  stmt_once _ _ _ later h (an_if ts rest branches other d) =
      subst (λ z. IsStmt at Args Choice (z ++ later) (s.If branches other) later) (sym (tokens_if at branches other))
      (an_if (choice_tokens at (branches, other) ++ later) later branches other (choice.again ts (branches, other) rest later h.1 d))

  stmt_front : (ts : List Token) (e : VStmt) (rest : List Token) → AllTokens ts → IsStmt at Args Choice ts e rest → AllTokens (stmt_tokens at e)
  stmt_front _ _ _ h (an_assignment x name ts rest e n d) =
      subst AllTokens (ap (λ z. z ∷ t.Mark (assign_mark at) ∷ (expr_tokens e ++ t.Mark m.Semicolon ∷ [])) (target_is at x name h.0 n) ∙ sym (tokens_assign at name e))
      (h.0, (mark_token (assign_mark at), all_both (expr_tokens e) (t.Mark m.Semicolon ∷ []) (exprs.front ts e (t.Mark m.Semicolon ∷ rest) h.1.1 d) (mark_token m.Semicolon, tt)))
  stmt_front _ _ _ h (an_if ts rest branches other d) = subst AllTokens (sym (tokens_if at branches other)) (mark_token m.If, choice.front ts (branches, other) rest h.1 d)

  stmt_behind : (ts : List Token) (e : VStmt) (rest : List Token) → AllTokens ts → IsStmt at Args Choice ts e rest → AllTokens rest
  stmt_behind _ _ _ h (an_assignment x name ts rest e n d) = let k = exprs.behind ts e (t.Mark m.Semicolon ∷ rest) h.1.1 d in k.1
  stmt_behind _ _ _ h (an_if ts rest branches other d) = choice.behind ts (branches, other) rest h.1 d

  pub stmt_again : Again (stmt_tokens at) (IsStmt at Args Choice)
  stmt_again = record { again = stmt_once; front = stmt_front; behind = stmt_behind }

-- ---- at every level
level_again : (at : Side) (n : ℕ) → Again (choice_tokens at) (IsChoiceAt at n) → Again (stmts_tokens at) (IsStmts at n)
level_again at n choices = many_again (stmt_tokens at) (IsStmt at (IsArgs n) (IsChoiceAt at n)) (stmt_again at (IsArgs n) (exprs_again n) (IsChoiceAt at n) choices)

pub choices_again : (at : Side) (n : ℕ) → Again (choice_tokens at) (IsChoiceAt at n)
choices_again at zero = record { again = λ ts p rest later h d. absurd d; front = λ ts p rest h d. absurd d; behind = λ ts p rest h d. absurd d }
choices_again at (suc n) = let next = choice_again at (IsArgs n) (refs_again n) (IsStmts at n) (level_again at n (choices_again at n)) in record { again = next.again; front = next.front; behind = next.behind }

pub stmts_again : (at : Side) (n : ℕ) → Again (stmts_tokens at) (IsStmts at n)
stmts_again at n = level_again at n (choices_again at n)
