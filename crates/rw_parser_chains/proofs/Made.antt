-- A tree of at most 512 levels that a tree resolves to is what is made of it.
use Rattle.std.proofs.Common.{◌≡◌, ◌∙◌, ℕ, suc, max, ◌+◌, ◌≤◌, nat_le, true, refl, sym, ap, arith, List, [], ◌∷◌, map, Some}
use Rattle.std.proofs.lemmas.Bool.Decides.{nat_tests}
use Rattle.rw_base.specs.declared.place.Span.{Span}
use Rattle.rw_tree.specs.declared.types.Written.{Written}
use Rattle.rw_tree.specs.declared.pattern.Pat.{Pat}
use Rattle.rw_tree.specs.declared.expr.Expr.{Expr}
use Rattle.rw_tree.specs.declared.expr.Expr.TheVariants as expr
use Rattle.rw_tree.specs.declared.clause.Local.{Local}
use Rattle.rw_tree.specs.declared.clause.Local.TheVariants as local
use Rattle.rw_tree.specs.declared.clause.Alt.{Alt}
use Rattle.rw_tree.specs.declared.clause.Guard.{Guard}
use Rattle.rw_tree.specs.declared.clause.Rhs.{Rhs}
use Rattle.rw_tree.specs.declared.clause.Rhs.TheVariants as rhs
use Rattle.rw_tree.specs.declared.clause.Stmt.{Stmt}
use Rattle.rw_tree.specs.declared.clause.Stmt.TheVariants as stmt
use Rattle.rw_parser_grammar.specs.Levels.{max_levels}
use Rattle.rw_parser_grammar.specs.Chains.{Strength}
use Rattle.rw_parser_grammar.specs.Resolved as d
use Rattle.rw_parser_grammar.specs.Resolved.{IsResolved, AreResolved, IsRowResolved, AreRowsResolved, IsSideResolved, AreGuardsResolved, AreLocalsResolved, AreStatementsResolved}
use Rattle.rw_parser_chains.specs.Grouping.{levels_of, counted}
use Rattle.rw_parser_chains.specs.Resolving.{Made, fits, pattern_fits, patterns_fit, type_fits, all_of, each_of, below_of, expression_made, row_made, side_made, guard_made, local_made, statement_made}
use Rattle.rw_parser_chains.proofs.Nodes.{above_is}
use Rattle.rw_parser_chains.proofs.Found.{found}
use Rattle.rw_parser_chains.proofs.Forms as form
use Rattle.rw_parser_chains.proofs.Sizes as size
use Rattle.rw_parser_chains.proofs.Sizes.{type_size, pattern_size, patterns_size, row_size, side_size, guard_size, local_size, statement_size, all_size, below_size}
use Rattle.rw_parser_chains.proofs.Parts.{chain_parts}

pub fits_is : (n : ℕ) → n ≤ max_levels → fits n ≡ Some n
unfolding fits
fits_is n l = let h : nat_le n max_levels ≡ true = grind (arith, nat_tests) in rw h refl

type_is : (type : Written) → type_size type ≤ max_levels → type_fits type ≡ Some (type_size type)
unfolding type_fits
type_is type l = fits_is (type_size type) l

pattern_is : (pat : Pat Span) → pattern_size pat ≤ max_levels → pattern_fits pat ≡ Some (pattern_size pat)
unfolding pattern_fits
pattern_is pat l = fits_is (pattern_size pat) l

patterns_are : (pats : List (Pat Span)) → patterns_size pats ≤ max_levels → patterns_fit pats ≡ Some (patterns_size pats)
unfolding patterns_fit
patterns_are pats l = fits_is (patterns_size pats) l

module _ {T : Type 0} where
  no_more : (n : ℕ) → n ≡ 0 → all_of {T = T} [] ≡ Some ([], n)
  unfolding all_of
  no_more n e = rw e refl

  one_more : (x : Made T) (xs : List (Made T)) (t : T) (ts : List T) (n m : ℕ) → x ≡ Some (t, n) → all_of xs ≡ Some (ts, m) → all_of (x ∷ xs) ≡ Some (t ∷ ts, max n m)
  unfolding all_of
  one_more x xs t ts n m e f = rw (e, f) refl

  none_each : each_of {T = T} [] ≡ Some []
  unfolding each_of
  none_each = refl

  one_each : (x : Made T) (xs : List (Made T)) (t : T × ℕ) (ts : List (T × ℕ)) → x ≡ Some t → each_of xs ≡ Some ts → each_of (x ∷ xs) ≡ Some (t ∷ ts)
  unfolding each_of
  one_each x xs t ts e f = rw (e, f) refl

  none_below : (k : ℕ) → k + 1 ≤ max_levels → below_of {T = T} k [] ≡ Some ([], k + 1)
  unfolding below_of
  none_below k l = let e : suc k ≡ k + 1 = omega arith in rw (fits_is (suc k) (omega (arith, l)), e) refl

  one_below : (k : ℕ) (x : Made T) (xs : List (Made T)) (t : T) (ts : List T) (n m : ℕ) → x ≡ Some (t, n) → below_of (suc k) xs ≡ Some (ts, suc k + m) → k + suc (max n m) ≤ max_levels
      → below_of k (x ∷ xs) ≡ Some (t ∷ ts, k + suc (max n m))
  unfolding below_of
  one_below k x xs t ts n m e f l =
      let s : max (suc k + n) (suc k + m) ≡ k + suc (max n m) = omega arith in
      rw (e, fits_is (suc k + n) (omega (arith, l)), f, s) refl

module _ (strength : List ℕ → Strength) where
  mutual
    pub expression_is : {a b : Expr Span} → IsResolved strength a b → levels_of b ≤ max_levels → expression_made strength a ≡ Some (b, levels_of b)
    expression_is (d.variable_resolved x name) l = form.expression-Var strength x name ∙ ap (λ n. Some (expr.Var x name, n)) (sym (size.levels-Var x name))
    expression_is (d.constructor_resolved x name) l = form.expression-Con strength x name ∙ ap (λ n. Some (expr.Con x name, n)) (sym (size.levels-Con x name))
    expression_is (d.application_resolved x a b parts others r rs) l =
        let s = size.levels-Apply x b others in
        let e = expression_is r (omega (arith, s, l)) in
        let f = expressions_are rs (omega (arith, s, l)) in
        form.expression-Apply strength x a parts ∙ rw (e, f, above_is (max (levels_of b) (all_size levels_of others)) (levels_of (expr.Apply x b others)) s l) refl
    expression_is (d.tuple_resolved x parts others rs) l =
        let s = size.levels-Tuple x others in
        let f = expressions_are rs (omega (arith, s, l)) in
        form.expression-Tuple strength x parts ∙ rw (f, above_is (all_size levels_of others) (levels_of (expr.Tuple x others)) s l) refl
    expression_is (d.chain_resolved x operands operators others between tree rs os g) l =
        let p = chain_parts strength g l in
        let e = each_are rs p.0 in
        let f = each_are os p.1 in
        form.expression-Chain strength x operands operators ∙ rw (e, f) (found strength others between tree g l)
    expression_is (d.lambda_resolved x pats a b r) l =
        let s = size.levels-Lambda x pats b in
        let h = patterns_are pats (omega (arith, s, l)) in
        let e = expression_is r (omega (arith, s, l)) in
        form.expression-Lambda strength x pats a ∙ rw (h, e, above_is (max (patterns_size pats) (levels_of b)) (levels_of (expr.Lambda x pats b)) s l) refl
    expression_is (d.let_resolved x locals others a b rs r) l =
        let s = size.levels-Let x others b in
        let f = locals_are rs (omega (arith, s, l)) in
        let e = expression_is r (omega (arith, s, l)) in
        form.expression-Let strength x locals a ∙ rw (f, e, above_is (max (all_size local_size others) (levels_of b)) (levels_of (expr.Let x others b)) s l) refl
    expression_is (d.if_resolved x a b c i f g q r t) l =
        let s = size.levels-If x b i g in
        let e = expression_is q (omega (arith, s, l)) in
        let h = expression_is r (omega (arith, s, l)) in
        let k = expression_is t (omega (arith, s, l)) in
        form.expression-If strength x a c f ∙ rw (e, h, k, above_is (max (levels_of b) (max (levels_of i) (levels_of g))) (levels_of (expr.If x b i g)) s l) refl
    expression_is (d.case_resolved x a b rows others r rs) l =
        let s = size.levels-Case x b others in
        let e = expression_is r (omega (arith, s, l)) in
        let f = rows_are rs (omega (arith, s, l)) in
        form.expression-Case strength x a rows ∙ rw (e, f, above_is (max (levels_of b) (all_size row_size others)) (levels_of (expr.Case x b others)) s l) refl
    expression_is (d.do_resolved x statements others rs) l =
        let s = size.levels-Do x others in
        let f = statements_are rs 0 (omega (arith, s, l)) in
        let z : 0 + below_size statement_size others ≡ levels_of (expr.Do x others) = omega (arith, s) in
        form.expression-Do strength x statements ∙ rw f (ap (λ n. Some (expr.Do x others, n)) z)

    pub expressions_are : {a b : List (Expr Span)} → AreResolved strength a b → all_size levels_of b ≤ max_levels → all_of (map (expression_made strength) a) ≡ Some (b, all_size levels_of b)
    expressions_are d.none_resolved l = no_more 0 refl
    expressions_are (d.more_resolved a b lefts rights r rs) l = one_more _ _ _ _ _ _ (expression_is r (omega (arith, l))) (expressions_are rs (omega (arith, l)))

    pub each_are : {a b : List (Expr Span)} → AreResolved strength a b → all_size levels_of b ≤ max_levels → each_of (map (expression_made strength) a) ≡ Some (map counted b)
    each_are d.none_resolved l = none_each
    each_are (d.more_resolved a b lefts rights r rs) l = one_each _ _ _ _ (expression_is r (omega (arith, l))) (each_are rs (omega (arith, l)))

    pub row_is : {a b : Alt Span} → IsRowResolved strength a b → row_size b ≤ max_levels → row_made strength a ≡ Some (b, row_size b)
    row_is (d.row_resolved x pats rhs other locals others r rs) l =
        let row : Alt Span = record { at = x; pats = pats; rhs = rhs; wheres = locals } in
        let made : Alt Span = record { at = x; pats = pats; rhs = other; wheres = others } in
        let s : row_size made ≡ suc (max (patterns_size pats) (max (side_size other) (all_size local_size others))) = size.row-parts made in
        let h = patterns_are pats (omega (arith, s, l)) in
        let e = side_is r (omega (arith, s, l)) in
        let f = locals_are rs (omega (arith, s, l)) in
        form.row-parts strength row ∙ rw (h, e, f, above_is (max (patterns_size pats) (max (side_size other) (all_size local_size others))) (row_size made) s l) refl

    pub rows_are : {a b : List (Alt Span)} → AreRowsResolved strength a b → all_size row_size b ≤ max_levels → all_of (map (row_made strength) a) ≡ Some (b, all_size row_size b)
    rows_are d.no_rows_resolved l = no_more 0 refl
    rows_are (d.more_rows_resolved a b lefts rights r rs) l = one_more _ _ _ _ _ _ (row_is r (omega (arith, l))) (rows_are rs (omega (arith, l)))

    pub side_is : {a b : Rhs Span} → IsSideResolved strength a b → side_size b ≤ max_levels → side_made strength a ≡ Some (b, side_size b)
    side_is (d.plain_resolved a b r) l =
        let s = size.side-Plain b in
        let e = expression_is r (omega (arith, s, l)) in
        form.side-Plain strength a ∙ rw e (ap (λ n. Some (rhs.Plain b, n)) (sym s))
    side_is (d.guarded_resolved guards others rs) l =
        let s = size.side-Guarded others in
        let f = guards_are rs (omega (arith, s, l)) in
        form.side-Guarded strength guards ∙ rw f (ap (λ n. Some (rhs.Guarded others, n)) (sym s))

    pub guards_are : {a b : List (Guard Span)} → AreGuardsResolved strength a b → all_size guard_size b ≤ max_levels → all_of (map (guard_made strength) a) ≡ Some (b, all_size guard_size b)
    guards_are d.no_guards_resolved l = no_more 0 refl
    guards_are (d.more_guards_resolved a b c i guards others r t rs) l =
        let guard : Guard Span = record { test = a; body = c } in
        let made : Guard Span = record { test = b; body = i } in
        let s : guard_size made ≡ max (levels_of b) (levels_of i) = size.guard-parts made in
        let e = expression_is r (omega (arith, s, l)) in
        let f = expression_is t (omega (arith, s, l)) in
        one_more _ _ _ _ _ _ (form.guard-parts strength guard ∙ rw (e, f) (ap (λ n. Some (made, n)) (sym s))) (guards_are rs (omega (arith, l)))

    pub locals_are : {a b : List (Local Span)} → AreLocalsResolved strength a b → all_size local_size b ≤ max_levels → all_of (map (local_made strength) a) ≡ Some (b, all_size local_size b)
    locals_are d.no_locals_resolved l = no_more 0 refl
    locals_are (d.signature_resolved x name type locals others rs) l =
        let s = size.local-Sig x name type in
        let h = type_is type (omega (arith, s, l)) in
        one_more _ _ _ _ _ _ (form.local-Sig strength x name type ∙ rw (h, above_is (type_size type) (local_size (local.Sig x name type)) s (omega (arith, l))) refl) (locals_are rs (omega (arith, l)))
    locals_are (d.function_resolved x name rows changed locals others r rs) l =
        let s = size.local-Fun x name changed in
        let f = rows_are r (omega (arith, s, l)) in
        one_more _ _ _ _ _ _ (form.local-Fun strength x name rows ∙ rw (f, above_is (all_size row_size changed) (local_size (local.Fun x name changed)) s (omega (arith, l))) refl) (locals_are rs (omega (arith, l)))
    locals_are (d.pattern_resolved x row changed locals others r rs) l =
        let s = size.local-Pattern x changed in
        let f = row_is r (omega (arith, s, l)) in
        one_more _ _ _ _ _ _ (form.local-Pattern strength x row ∙ rw (f, above_is (row_size changed) (local_size (local.Pattern x changed)) s (omega (arith, l))) refl) (locals_are rs (omega (arith, l)))

    pub statements_are : {a b : List (Stmt Span)} → AreStatementsResolved strength a b → (k : ℕ) → k + below_size statement_size b ≤ max_levels
        → below_of k (map (statement_made strength) a) ≡ Some (b, k + below_size statement_size b)
    statements_are d.no_statements_resolved k l = none_below k l
    statements_are (d.bind_resolved x pat a b statements others r rs) k l =
        let s = size.statement-Bind x pat b in
        let h = pattern_is pat (omega (arith, s, l)) in
        let e = expression_is r (omega (arith, s, l)) in
        one_below k _ _ _ _ _ _ (form.statement-Bind strength x pat a ∙ rw (h, e, above_is (max (pattern_size pat) (levels_of b)) (statement_size (stmt.Bind x pat b)) s (omega (arith, l))) refl)
        (statements_are rs (suc k) (omega (arith, l))) l
    statements_are (d.let_statement_resolved x locals changed statements others r rs) k l =
        let s = size.statement-Let x changed in
        let f = locals_are r (omega (arith, s, l)) in
        one_below k _ _ _ _ _ _ (form.statement-Let strength x locals ∙ rw (f, above_is (all_size local_size changed) (statement_size (stmt.Let x changed)) s (omega (arith, l))) refl)
        (statements_are rs (suc k) (omega (arith, l))) l
    statements_are (d.run_resolved x a b statements others r rs) k l =
        let s = size.statement-Run x b in
        let e = expression_is r (omega (arith, s, l)) in
        one_below k _ _ _ _ _ _ (form.statement-Run strength x a ∙ rw (e, above_is (levels_of b) (statement_size (stmt.Run x b)) s (omega (arith, l))) refl)
        (statements_are rs (suc k) (omega (arith, l))) l
