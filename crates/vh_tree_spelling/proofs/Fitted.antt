-- A design that some text spells can be spelled: `Spellable` asks no more than the grammar does.
use Rattle.std.proofs.Common.{◌≡◌, ◌≢◌, ℕ, zero, suc, ◌<◌, ◌^◌, true, List, [], ◌∷◌, length, Some, refl, subst, arith}
use Rattle.std.specs.Prelude.{codes}
use Rattle.rw_base.specs.declared.bit.Bit9.{Bit9}
use Rattle.vh_tree.specs.declared.token.Mark.{Mark}
use Rattle.vh_tree.specs.declared.token.Mark.TheVariants as m
use Rattle.vh_tree.specs.declared.token.Token.{Token}
use Rattle.vh_tree.specs.declared.token.Token.TheVariants as t
use Rattle.vh_tree.specs.declared.token.Side.{Side}
use Rattle.vh_tree.specs.declared.token.Side.TheVariants as side
use Rattle.vh_tree.specs.declared.expr.VExpr.{VExpr}
use Rattle.vh_tree.specs.declared.stmt.Test.{Test}
use Rattle.vh_tree.specs.declared.stmt.VStmt.{VStmt}
use Rattle.vh_tree.specs.declared.stmt.Branch.{Branch}
use Rattle.vh_tree.specs.declared.function.Var.{Var}
use Rattle.vh_tree.specs.declared.function.Function.{Function}
use Rattle.vh_tree.specs.declared.process.Process.{Process}
use Rattle.vh_tree.specs.declared.design.Item.{Item}
use Rattle.vh_tree.specs.declared.design.Design.{Design}
use Rattle.vh_tree.specs.VToken.{marks, library_marks, entity_marks, outp_marks, architecture_marks}
use Rattle.vh_tree.specs.Text.{single_underscores, IsWord, of_grammar, declared}
use Rattle.vh_tree.specs.Grammar as g
use Rattle.vh_tree.specs.Spelling.{IsSpelled}
use Rattle.vh_tree.specs.Spellable as f
use Rattle.vh_tree_spelling.proofs.Texts.{IsToken, mark_token, id_token, number_token, bits_token, AllTokens, text_tokens}
use Rattle.vh_tree_spelling.proofs.Again.{all_behind}
use Rattle.vh_tree_spelling.proofs.AgainExprs.{term_again, args_again, refs_again, exprs_again}
use Rattle.vh_tree_spelling.proofs.AgainStmts.{test_behind, tests_again, branch_behind, branches_again, stmt_again, stmts_again, choices_again}
use Rattle.vh_tree_spelling.proofs.AgainDesign.{vec_again, var_again, vars_again, param_behind, params_again, item_again}
use Rattle.vh_tree_spelling.proofs.AgainWhole.{sensitive_behind, names_again, process_behind, items_again}

-- what is spelled by tokens of a text fits, and what follows it are tokens of a text
pub record Fitted {A : Type 0} (Fits : A → Type 0) (Is : List Token → A → List Token → Type 0) : Type 0 where
  pub fits : (ts : List Token) (a : A) (rest : List Token) → AllTokens ts → Is ts a rest → Fits a
  pub behind : (ts : List Token) (a : A) (rest : List Token) → AllTokens ts → Is ts a rest → AllTokens rest

-- ---- lists
module _ {A : Type 0} (Fits : A → Type 0) (One : List Token → A → List Token → Type 0) (one : Fitted Fits One) where
  each_fits : {between : Mark} {ts : List Token} {xs : List A} {rest : List Token} → g.IsSeparated between One ts xs rest → AllTokens ts → f.Each Fits xs
  each_fits (g.the_last ts rest a d) h = (one.fits ts a rest h d, tt)
  each_fits (g.and_more ts mid rest a others d ds) h = let k = one.behind ts a _ h d in (one.fits ts a _ h d, each_fits ds k.1)

  is_some : {between : Mark} {ts : List Token} {xs : List A} {rest : List Token} → g.IsSeparated between One ts xs rest → 0 < length xs
  is_some (g.the_last ts rest a d) = omega arith
  is_some (g.and_more ts mid rest a others d ds) = omega arith

  pub separated_fits : {between : Mark} {ts : List Token} {xs : List A} {rest : List Token} → g.IsSeparated between One ts xs rest → AllTokens ts → f.OneOrMore Fits xs
  separated_fits d h = (is_some d, each_fits d h)

  pub many_fits : {ts : List Token} {xs : List A} {rest : List Token} → g.IsMany One ts xs rest → AllTokens ts → f.Each Fits xs
  many_fits (g.no_more ts) h = tt
  many_fits (g.one_more ts mid rest a others d ds) h = (one.fits ts a mid h d, many_fits ds (one.behind ts a mid h d))

-- ---- tokens
word_fits : (w : List ℕ) (x : Token) → IsWord w x → x ≡ t.Id w → (single_underscores w ≡ true) × (w ≢ codes "std_logic_1164")
word_fits _ _ (of_grammar a e) h = absurd (cc)
word_fits _ _ (declared w d s n) h = (s, n)

token_id : (x : Token) → IsToken x → (name : List ℕ) → x ≡ t.Id name → f.IdFits name
token_id _ (mark_token a) name e = absurd (cc)
token_id _ (id_token y b a l k d) name e =
    let same : y ≡ name = cc in let q = word_fits y (t.Id y) k refl in subst f.IdFits same (record { begins = b; word = a; low = l; digit = d; single = q.0; other = q.1 })
token_id _ (number_token n l a) name e = absurd (cc)
token_id _ (bits_token bits some) name e = absurd (cc)

pub id_fits : (name : List ℕ) → IsToken (t.Id name) → f.IdFits name
id_fits name k = token_id (t.Id name) k name refl

token_number : (x : Token) → IsToken x → (n : ℕ) → x ≡ t.Number n → n < 2 ^ 31
token_number _ (mark_token a) n e = absurd (cc)
token_number _ (id_token y b a l k d) n e = absurd (cc)
token_number _ (number_token k l a) n e = let same : k ≡ n = cc in subst (λ z. z < 2 ^ 31) same l
token_number _ (bits_token bits some) n e = absurd (cc)

number_fits : (n : ℕ) → IsToken (t.Number n) → n < 2 ^ 31
number_fits n k = token_number (t.Number n) k n refl

token_bits : (x : Token) → IsToken x → (bits : List Bit9) → x ≡ t.Bits bits → 0 < length bits
token_bits _ (mark_token a) bits e = absurd (cc)
token_bits _ (id_token y b a l k d) bits e = absurd (cc)
token_bits _ (number_token k l a) bits e = absurd (cc)
token_bits _ (bits_token all some) bits e = let same : all ≡ bits = cc in subst (λ (z : List Bit9). 0 < length z) same some

bits_fit : (bits : List Bit9) → IsToken (t.Bits bits) → 0 < length bits
bits_fit bits k = token_bits (t.Bits bits) k bits refl

name_fits : (x : Token) (name : List ℕ) → IsToken x → g.name_of x ≡ Some name → f.NameFits name
name_fits _ name (mark_token m.Inp) e = let same : codes "inp" ≡ name = cc in subst f.NameFits same f.NameFits.the_input
name_fits _ name (mark_token a) e = absurd (cc)
name_fits _ name (id_token y b a l k d) e = let same : y ≡ name = cc in subst f.NameFits same (f.NameFits.an_id y (id_fits y (id_token y b a l k d)))
name_fits _ name (number_token n l a) e = absurd (cc)
name_fits _ name (bits_token bits some) e = absurd (cc)

target_fits : (at : Side) (x : Token) (name : List ℕ) → IsToken x → g.target_of at x ≡ Some name → f.TargetFits at name
target_fits side.Process _ name (mark_token m.Outp) e = let same : codes "outp" ≡ name = cc in subst (f.TargetFits side.Process) same f.TargetFits.the_output
target_fits side.Process _ name (mark_token a) e = absurd (cc)
target_fits side.Function _ name (mark_token a) e = absurd (cc)
target_fits at _ name (id_token y b a l k d) e = let same : y ≡ name = cc in subst (f.TargetFits at) same (f.TargetFits.an_id at y (id_fits y (id_token y b a l k d)))
target_fits at _ name (number_token n l a) e = absurd (cc)
target_fits at _ name (bits_token bits some) e = absurd (cc)

sensitive_name : (x : Token) (name : List ℕ) → IsToken x → g.sensitive_of x ≡ Some name → f.SensitiveFits name
sensitive_name _ name (mark_token m.Clk) e = let same : codes "clk" ≡ name = cc in subst f.SensitiveFits same f.SensitiveFits.the_clock
sensitive_name _ name (mark_token m.Rst) e = let same : codes "rst" ≡ name = cc in subst f.SensitiveFits same f.SensitiveFits.the_reset
sensitive_name _ name (mark_token m.Inp) e = let same : codes "inp" ≡ name = cc in subst f.SensitiveFits same f.SensitiveFits.the_input
sensitive_name _ name (mark_token a) e = absurd (cc)
sensitive_name _ name (id_token y b a l k d) e = let same : y ≡ name = cc in subst f.SensitiveFits same (f.SensitiveFits.an_id y (id_fits y (id_token y b a l k d)))
sensitive_name _ name (number_token n l a) e = absurd (cc)
sensitive_name _ name (bits_token bits some) e = absurd (cc)

-- ---- expressions
parts_fit : (Args : List VExpr → Type 0) (parts : List VExpr) → f.OneOrMore (f.TermFits Args) parts → f.ExprFits Args (g.join_of parts)
parts_fit Args [] h = absurd (let k : 0 < 0 = h.0 in omega arith)
parts_fit Args (e ∷ []) h = f.ExprFits.a_term e h.1.0
parts_fit Args (e ∷ k ∷ es) h = f.ExprFits.a_join e k es h.1

module _ (n : ℕ) (args : (ts : List Token) (es : List VExpr) (rest : List Token) → AllTokens ts → g.IsArgs n ts es rest → f.ArgsFit n es) where
  ref_fits : (ts : List Token) (e : VExpr) (rest : List Token) → AllTokens ts → g.IsRef (g.IsArgs n) ts e rest → f.RefFits (f.ArgsFit n) e
  ref_fits _ _ _ h (g.a_name x name rest e) = f.RefFits.a_name name (name_fits x name h.0 e)
  ref_fits _ _ _ h (g.a_slice x name a b rest e) = f.RefFits.a_slice name a b (name_fits x name h.0 e) (number_fits a h.1.1.0) (number_fits b h.1.1.1.1.0)
  ref_fits _ _ _ h (g.a_call name ts rest es d) = f.RefFits.a_call name es (id_fits name h.0) (args ts es _ h.1.1 d)

  term_fits : (ts : List Token) (e : VExpr) (rest : List Token) → AllTokens ts → g.IsTerm (g.IsArgs n) ts e rest → f.TermFits (f.ArgsFit n) e
  term_fits _ _ _ h (g.a_ref ts rest e d) = f.TermFits.a_ref e (ref_fits ts e rest h d)
  term_fits _ _ _ h (g.a_literal bits rest) = f.TermFits.a_literal bits (bits_fit bits h.0)

  term_fitted : Fitted (f.TermFits (f.ArgsFit n)) (g.IsTerm (g.IsArgs n))
  term_fitted = record { fits = term_fits; behind = (term_again (g.IsArgs n) (args_again n)).behind }

  expr_fits : (ts : List Token) (e : VExpr) (rest : List Token) → AllTokens ts → g.IsExpr (g.IsArgs n) ts e rest → f.ExprFits (f.ArgsFit n) e
  expr_fits _ _ _ h (g.an_expr ts rest parts d) = parts_fit (f.ArgsFit n) parts (separated_fits (f.TermFits (f.ArgsFit n)) (g.IsTerm (g.IsArgs n)) term_fitted d h)

  expr_fitted : Fitted (f.ExprFits (f.ArgsFit n)) (g.IsExpr (g.IsArgs n))
  expr_fitted = record { fits = expr_fits; behind = (exprs_again n).behind }

args_fit : (n : ℕ) (ts : List Token) (es : List VExpr) (rest : List Token) → AllTokens ts → g.IsArgs n ts es rest → f.ArgsFit n es
args_fit zero ts es rest h d = absurd d
args_fit (suc n) ts es rest h d = separated_fits (f.ExprFits (f.ArgsFit n)) (g.IsExpr (g.IsArgs n)) (expr_fitted n (args_fit n)) d h

refs_fit : (n : ℕ) (ts : List Token) (e : VExpr) (rest : List Token) → AllTokens ts → g.IsRef (g.IsArgs n) ts e rest → f.RefFits (f.ArgsFit n) e
refs_fit n = ref_fits n (args_fit n)

exprs_fit : (n : ℕ) (ts : List Token) (e : VExpr) (rest : List Token) → AllTokens ts → g.IsExpr (g.IsArgs n) ts e rest → f.ExprFits (f.ArgsFit n) e
exprs_fit n = expr_fits n (args_fit n)

-- ---- statements
test_fits : (n : ℕ) (ts : List Token) (e : Test) (rest : List Token) → AllTokens ts → g.IsTest (g.IsArgs n) ts e rest → f.TestFits (f.ArgsFit n) e
test_fits n _ _ _ h (g.equal ts rest e bits d) =
    let k = (refs_again n).behind ts e (t.Mark m.Equal ∷ t.Bits bits ∷ rest) h d in f.TestFits.equal e bits (refs_fit n ts e (t.Mark m.Equal ∷ t.Bits bits ∷ rest) h d) (bits_fit bits k.1.0)
test_fits n _ _ _ h (g.rising rest) = f.TestFits.rising
test_fits n _ _ _ h (g.reset rest) = f.TestFits.reset

module _ (at : Side) (n : ℕ) (stmts : (ts : List Token) (body : List VStmt) (rest : List Token) → AllTokens ts → g.IsStmts at n ts body rest → f.StmtsFit at n body) where
  branch_fits : (ts : List Token) (b : Branch) (rest : List Token) → AllTokens ts → g.IsBranch (g.IsArgs n) (g.IsStmts at n) ts b rest → f.BranchFits (f.ArgsFit n) (f.StmtsFit at n) b
  branch_fits _ _ _ h (g.a_branch ts mid rest tests body d k) =
      let q = (tests_again (g.IsArgs n) (refs_again n)).behind ts tests (t.Mark m.Then ∷ mid) h d in
      f.BranchFits.a_branch tests body
      (separated_fits (f.TestFits (f.ArgsFit n)) (g.IsTest (g.IsArgs n)) (record { fits = test_fits n; behind = test_behind (g.IsArgs n) (refs_again n) }) d h) (stmts mid body rest q.1 k)

  else_fits : {ts : List Token} {body : List VStmt} {rest : List Token} → g.IsElse (g.IsStmts at n) ts body rest → AllTokens ts → f.StmtsFit at n body
  else_fits (g.absent ts) h = tt
  else_fits (g.present ts rest body d) h = stmts ts body rest h.1 d

  choice_fits : (ts : List Token) (p : List Branch × List VStmt) (rest : List Token) → AllTokens ts → g.IsChoice (g.IsArgs n) (g.IsStmts at n) ts p rest → f.ChoiceFits at (suc n) p
  choice_fits _ _ _ h (g.a_choice ts mid rest branches other d k) =
      let q = (branches_again at (g.IsArgs n) (refs_again n) (g.IsStmts at n) (stmts_again at n)).behind ts branches mid h d in (
        separated_fits (f.BranchFits (f.ArgsFit n) (f.StmtsFit at n)) (g.IsBranch (g.IsArgs n) (g.IsStmts at n))
            (record { fits = branch_fits; behind = branch_behind at (g.IsArgs n) (refs_again n) (g.IsStmts at n) (stmts_again at n) }) d h,
        else_fits k q,
      )

module _ (at : Side) (n : ℕ) (choice : (ts : List Token) (p : List Branch × List VStmt) (rest : List Token) → AllTokens ts → g.IsChoiceAt at n ts p rest → f.ChoiceFits at n p) where
  stmt_fits : (ts : List Token) (e : VStmt) (rest : List Token) → AllTokens ts → g.IsStmt at (g.IsArgs n) (g.IsChoiceAt at n) ts e rest → f.StmtFits at (f.ArgsFit n) (f.ChoiceFits at n) e
  stmt_fits _ _ _ h (g.an_assignment x name ts rest e k d) = f.StmtFits.an_assignment name e (target_fits at x name h.0 k) (exprs_fit n ts e (t.Mark m.Semicolon ∷ rest) h.1.1 d)
  stmt_fits _ _ _ h (g.an_if ts rest branches other d) = f.StmtFits.an_if branches other (choice ts (branches, other) rest h.1 d)

  body_fits : (ts : List Token) (body : List VStmt) (rest : List Token) → AllTokens ts → g.IsStmts at n ts body rest → f.StmtsFit at n body
  body_fits ts body rest h d =
      many_fits (f.StmtFits at (f.ArgsFit n) (f.ChoiceFits at n)) (g.IsStmt at (g.IsArgs n) (g.IsChoiceAt at n))
      (record { fits = stmt_fits; behind = (stmt_again at (g.IsArgs n) (exprs_again n) (g.IsChoiceAt at n) (choices_again at n)).behind }) d h

choices_fit : (at : Side) (n : ℕ) (ts : List Token) (p : List Branch × List VStmt) (rest : List Token) → AllTokens ts → g.IsChoiceAt at n ts p rest → f.ChoiceFits at n p
choices_fit at zero ts p rest h d = absurd d
choices_fit at (suc n) ts p rest h d = choice_fits at n (body_fits at n (choices_fit at n)) ts p rest h d

stmts_fit : (at : Side) (n : ℕ) (ts : List Token) (body : List VStmt) (rest : List Token) → AllTokens ts → g.IsStmts at n ts body rest → f.StmtsFit at n body
stmts_fit at n = body_fits at n (choices_fit at n)

-- ---- declarations, processes, and the whole
vec_fits : (ts : List Token) (width : ℕ) (rest : List Token) → AllTokens ts → g.IsVec ts width rest → f.WidthFits width
vec_fits _ _ _ h (g.a_vec n rest) = let k = number_fits n h.1.1.0 in (omega arith, omega arith)

var_fits : (keyword : Mark) (ts : List Token) (v : Var) (rest : List Token) → AllTokens ts → g.IsVar keyword ts v rest → f.VarFits v
var_fits keyword _ _ _ h (g.a_var name width ts rest d) = record { name = id_fits name h.1.0; width = vec_fits ts width (t.Mark m.Semicolon ∷ rest) h.1.1.1 d }

param_fits : (ts : List Token) (x : List ℕ) (rest : List Token) → AllTokens ts → g.IsParam ts x rest → f.IdFits x
param_fits _ _ _ h (g.a_param name rest) = id_fits name h.0

params_fit : (ts : List Token) (xs : List (List ℕ)) (rest : List Token) → AllTokens ts → g.IsParams ts xs rest → f.Each f.IdFits xs
params_fit _ _ _ h (g.no_params ts) = tt
params_fit _ _ _ h (g.some_params ts rest names d) = let k = separated_fits f.IdFits g.IsParam (record { fits = param_fits; behind = param_behind }) d h.1 in k.1

function_fits : (n : ℕ) (ts : List Token) (d : Function) (rest : List Token) → AllTokens ts → g.IsFunction n ts d rest → f.FunctionFits n d
function_fits n _ _ _ h (g.a_function name params vars body result ts inner inside behind rest dp dv db de) =
    let hv = params_again.behind ts params _ h.1.1 dp in
    let hb = vars_again.behind inner vars (t.Mark m.Begin ∷ inside) hv.1.1.1 dv in
    let he = (stmts_again side.Function n).behind inside body (t.Mark m.Return ∷ behind) hb.1 db in
    record {
      name = id_fits name h.1.0;
      params = params_fit ts params _ h.1.1 dp;
      vars = many_fits f.VarFits (g.IsVar m.Variable) (record { fits = var_fits m.Variable; behind = (var_again m.Variable).behind }) dv hv.1.1.1;
      body = stmts_fit side.Function n inside body (t.Mark m.Return ∷ behind) hb.1 db;
      result = exprs_fit n behind result _ he.1 de;
    }

item_fits : (n : ℕ) (ts : List Token) (x : Item) (rest : List Token) → AllTokens ts → g.IsItem n ts x rest → f.ItemFits n x
item_fits n _ _ _ h (g.a_signal ts rest v d) = f.ItemFits.a_signal v (var_fits m.Signal ts v rest h d)
item_fits n _ _ _ h (g.a_definition ts rest d k) = f.ItemFits.a_function d (function_fits n ts d rest h k)

sensitive_fits : (ts : List Token) (x : List ℕ) (rest : List Token) → AllTokens ts → g.IsSensitive ts x rest → f.SensitiveFits x
sensitive_fits _ _ _ h (g.a_sensitive x name rest e) = sensitive_name x name h.0 e

process_fits : (n : ℕ) (ts : List Token) (p : Process) (rest : List Token) → AllTokens ts → g.IsProcess n ts p rest → f.ProcessFits n p
process_fits n _ _ _ h (g.a_process names body ts inside rest dn db) =
    let hb = names_again.behind ts names (t.Mark m.Closes ∷ t.Mark m.Begin ∷ inside) h.1.1 dn in
    record {
      sensitive = separated_fits f.SensitiveFits g.IsSensitive (record { fits = sensitive_fits; behind = sensitive_behind }) dn h.1.1;
      body = stmts_fit side.Process n inside body _ hb.1.1 db;
    }

design_fits : (ts : List Token) (d : Design) (rest : List Token) → AllTokens ts → g.IsDesign g.max_levels ts d rest → f.IsSpellable d
design_fits _ _ _ h (g.a_design inp outp items processes first second inner behind rest di do_ dx dp) =
    let n = g.max_levels in
    let h1 = all_behind (marks entity_marks) first (all_behind (marks library_marks) _ h) in
    let h2 = all_behind (marks outp_marks) second (vec_again.behind first inp _ h1 di) in
    let h3 = all_behind (marks architecture_marks) inner (vec_again.behind second outp _ h2 do_) in
    let h4 = (items_again n).behind inner items (t.Mark m.Begin ∷ behind) h3 dx in
    record {
      inp = vec_fits first inp _ h1 di;
      outp = vec_fits second outp _ h2 do_;
      items = many_fits (f.ItemFits n) (g.IsItem n) (record { fits = item_fits n; behind = (item_again n).behind }) dx h3;
      processes = many_fits (f.ProcessFits n) (g.IsProcess n) (record { fits = process_fits n; behind = process_behind n }) dp h4.1;
    }

-- what some text spells can be spelled
pub spelled_fits : (bytes : List ℕ) (d : Design) → IsSpelled bytes d → f.IsSpellable d
spelled_fits bytes d s = design_fits s.tokens d [] (text_tokens s.text) s.tree
