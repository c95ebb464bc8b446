-- What is made of a tree is a tree of at most 512 levels that it resolves to, with how many levels that has.
use Rattle.std.proofs.Common.{◌≡◌, ◌∙◌, ℕ, suc, max, ◌+◌, ◌≤◌, nat_le, refl, sym, arith, List, [], ◌∷◌, map, Some, None, inl, inr}
use Rattle.std.proofs.lemmas.Bool.Decides.{nat_tests}
use Rattle.std.specs.List.{AllByRecursion}
use Rattle.rw_base.specs.declared.place.Span.{Span}
use Rattle.rw_tree.specs.declared.types.Written.{Written}
use Rattle.rw_tree.specs.declared.pattern.Pat.{Pat}
use Rattle.rw_tree.specs.declared.expr.Expr.{Expr}
use Rattle.rw_tree.specs.declared.expr.Expr.TheVariants as expr
use Rattle.rw_tree.specs.declared.clause.Local.{Local}
use Rattle.rw_tree.specs.declared.clause.Local.TheVariants as local
use Rattle.rw_tree.specs.declared.clause.Alt.{Alt}
use Rattle.rw_tree.specs.declared.clause.Guard.{Guard}
use Rattle.rw_tree.specs.declared.clause.Rhs.{Rhs}
use Rattle.rw_tree.specs.declared.clause.Rhs.TheVariants as rhs
use Rattle.rw_tree.specs.declared.clause.Stmt.{Stmt}
use Rattle.rw_tree.specs.declared.clause.Stmt.TheVariants as stmt
use Rattle.rw_parser_grammar.specs.Levels.{max_levels}
use Rattle.rw_parser_grammar.specs.Chains.{Strength}
use Rattle.rw_parser_grammar.specs.Resolved as d
use Rattle.rw_parser_grammar.specs.Resolved.{IsResolved, AreResolved, IsRowResolved, AreRowsResolved, IsSideResolved, AreGuardsResolved, AreLocalsResolved, AreStatementsResolved}
use Rattle.rw_parser_reading.proofs.ReadExact.{bind_some, chosen, some_is, moved}
use Rattle.rw_parser_chains.specs.Grouping.{levels_of, Counted, above}
use Rattle.rw_parser_chains.specs.Resolving.{Made, fits, pattern_fits, patterns_fit, type_fits, all_of, each_of, below_of, expression_made, row_made, side_made, guard_made, local_made, statement_made}
use Rattle.rw_parser_chains.proofs.Nodes.{above_gave, AllFair}
use Rattle.rw_parser_chains.proofs.Grouped.{grouped, AllWithin, grouped_within}
use Rattle.rw_parser_chains.proofs.Forms as form
use Rattle.rw_parser_chains.proofs.Sizes as size
use Rattle.rw_parser_chains.proofs.Sizes.{type_size, pattern_size, patterns_size, row_size, side_size, guard_size, local_size, statement_size, all_size, below_size}
use Rattle.rw_parser_chains.proofs.Induction.{Claims, every_expression, every_row}

pub fits_gave : (n m : ℕ) → fits n ≡ Some m → (m ≡ n) × (m ≤ max_levels)
unfolding fits
fits_gave n m e =
    elim (chosen (nat_le n max_levels) _ _ _ e) [
      | inl h ↦ let s = some_is _ _ h.1 in let t = h.0 in (sym s, grind (arith, nat_tests))
      | inr h ↦ absurd (let f : None ≡ Some m = h.1 in cc)
    ]

type_gave : (type : Written) (m : ℕ) → type_fits type ≡ Some m → m ≡ type_size type
unfolding type_fits
type_gave type m e = (fits_gave (type_size type) m e).0

pattern_gave : (pat : Pat Span) (m : ℕ) → pattern_fits pat ≡ Some m → m ≡ pattern_size pat
unfolding pattern_fits
pattern_gave pat m e = (fits_gave (pattern_size pat) m e).0

patterns_gave : (pats : List (Pat Span)) (m : ℕ) → patterns_fit pats ≡ Some m → m ≡ patterns_size pats
unfolding patterns_fit
patterns_gave pats m e = (fits_gave (patterns_size pats) m e).0

-- so many levels, which the bound allows
abbrev pub Sized : {T : Type 0} → (T → ℕ) → T × ℕ → Type 0
Sized size p = (p.1 ≡ size p.0) × (p.1 ≤ max_levels)

-- what is made of a tree stands behind it in its relation
abbrev pub Sound : {T : Type 0} → (T → Made T) → (T → ℕ) → (T → T → Type 0) → T → Type 0
Sound {T} make size Is a = (p : T × ℕ) → make a ≡ Some p → Is a p.0 × Sized size p

-- the same of relations of lists alone
abbrev pub Heads : {T : Type 0} → (List T → List T → Type 0) → T → T → Type 0
Heads {T} Are a b = (xs ys : List T) → Are xs ys → Are (a ∷ xs) (b ∷ ys)

module _ {T : Type 0} (make : T → Made T) (size : T → ℕ) (Are : List T → List T → Type 0) (none : Are [] []) where
  all_sound : (xs : List T) → AllByRecursion (Sound make size (Heads Are)) xs → (p : List T × ℕ) → all_of (map make xs) ≡ Some p → Are xs p.0 × Sized (all_size size) p
  unfolding all_of
  all_sound [] h p e = moved (λ q. Are [] q.0 × Sized (all_size size) q) ([], 0) p e (none, (refl, omega arith))
  all_sound (x ∷ xs) h p e =
      let a = bind_some (make x) _ p e in
      let b = bind_some (all_of (map make xs)) _ p a.2 in
      let f = h.0 a.0 a.1 in
      let g = all_sound xs h.1 b.0 b.1 in
      moved (λ q. Are (x ∷ xs) q.0 × Sized (all_size size) q) (a.0.0 ∷ b.0.0, max a.0.1 b.0.1) p b.2 (f.0 xs b.0.0 g.0, (omega (arith, f.1.0, g.1.0), omega (arith, f.1.1, g.1.1)))

  below_sound : (k : ℕ) (xs : List T) → AllByRecursion (Sound make size (Heads Are)) xs → (p : List T × ℕ) → below_of k (map make xs) ≡ Some p
      → Are xs p.0 × (p.1 ≡ k + below_size size p.0) × (p.1 ≤ max_levels)
  unfolding below_of
  below_sound k [] h p e =
      let a = bind_some (fits (suc k)) _ p e in
      let g = fits_gave (suc k) a.0 a.1 in
      moved (λ q. Are [] q.0 × (q.1 ≡ k + below_size size q.0) × (q.1 ≤ max_levels)) ([], a.0) p a.2 (none, omega (arith, g.0), g.1)
  below_sound k (x ∷ xs) h p e =
      let a = bind_some (make x) _ p e in
      let b = bind_some (fits (suc k + a.0.1)) _ p a.2 in
      let c = bind_some (below_of (suc k) (map make xs)) _ p b.2 in
      let f = h.0 a.0 a.1 in
      let i = fits_gave (suc k + a.0.1) b.0 b.1 in
      let g = below_sound (suc k) xs h.1 c.0 c.1 in
      moved (λ q. Are (x ∷ xs) q.0 × (q.1 ≡ k + below_size size q.0) × (q.1 ≤ max_levels)) (a.0.0 ∷ c.0.0, max b.0 c.0.1) p c.2
      (f.0 xs c.0.0 g.0, omega (arith, f.1.0, i.0, g.1), omega (arith, i.1, g.2))

-- a claim on trees for one on the heads of lists
weaker : {T : Type 0} (P Q : T → Type 0) → ((a : T) → P a → Q a) → (xs : List T) → AllByRecursion P xs → AllByRecursion Q xs
weaker P Q f [] h = tt
weaker P Q f (x ∷ xs) h = (f x h.0, weaker P Q f xs h.1)

module _ (strength : List ℕ → Strength) where
  abbrev SoundExpression : Expr Span → Type 0
  SoundExpression = Sound (expression_made strength) levels_of (IsResolved strength)

  abbrev SoundRow : Alt Span → Type 0
  SoundRow = Sound (row_made strength) row_size (IsRowResolved strength)

  abbrev SoundSide : Rhs Span → Type 0
  SoundSide = Sound (side_made strength) side_size (IsSideResolved strength)

  abbrev SoundGuard : Guard Span → Type 0
  SoundGuard = Sound (guard_made strength) guard_size (Heads (AreGuardsResolved strength))

  abbrev SoundLocal : Local Span → Type 0
  SoundLocal = Sound (local_made strength) local_size (Heads (AreLocalsResolved strength))

  abbrev SoundStatement : Stmt Span → Type 0
  SoundStatement = Sound (statement_made strength) statement_size (Heads (AreStatementsResolved strength))

  expressions_sound : (xs : List (Expr Span)) → AllByRecursion SoundExpression xs → (p : List (Expr Span) × ℕ) → all_of (map (expression_made strength) xs) ≡ Some p → AreResolved strength xs p.0 × Sized (all_size levels_of) p
  expressions_sound xs h = all_sound (expression_made strength) levels_of (AreResolved strength) d.none_resolved xs
      (weaker SoundExpression (Sound (expression_made strength) levels_of (Heads (AreResolved strength))) (λ a s p e. let r = s p e in ((λ ys zs rs. d.more_resolved a p.0 ys zs r.0 rs), r.1)) xs h)

  rows_sound : (xs : List (Alt Span)) → AllByRecursion SoundRow xs → (p : List (Alt Span) × ℕ) → all_of (map (row_made strength) xs) ≡ Some p → AreRowsResolved strength xs p.0 × Sized (all_size row_size) p
  rows_sound xs h = all_sound (row_made strength) row_size (AreRowsResolved strength) d.no_rows_resolved xs
      (weaker SoundRow (Sound (row_made strength) row_size (Heads (AreRowsResolved strength))) (λ a s p e. let r = s p e in ((λ ys zs rs. d.more_rows_resolved a p.0 ys zs r.0 rs), r.1)) xs h)

  guards_sound : (xs : List (Guard Span)) → AllByRecursion SoundGuard xs → (p : List (Guard Span) × ℕ) → all_of (map (guard_made strength) xs) ≡ Some p → AreGuardsResolved strength xs p.0 × Sized (all_size guard_size) p
  guards_sound = all_sound (guard_made strength) guard_size (AreGuardsResolved strength) d.no_guards_resolved

  locals_sound : (xs : List (Local Span)) → AllByRecursion SoundLocal xs → (p : List (Local Span) × ℕ) → all_of (map (local_made strength) xs) ≡ Some p → AreLocalsResolved strength xs p.0 × Sized (all_size local_size) p
  locals_sound = all_sound (local_made strength) local_size (AreLocalsResolved strength) d.no_locals_resolved

  each_sound : (xs : List (Expr Span)) → AllByRecursion SoundExpression xs → (ps : List Counted) → each_of (map (expression_made strength) xs) ≡ Some ps → AreResolved strength xs (map (λ c. c.0) ps) × AllFair ps × AllWithin strength ps
  unfolding each_of
  each_sound [] h p e = moved (λ q. AreResolved strength [] (map (λ c. c.0) q) × AllFair q × AllWithin strength q) [] p e (d.none_resolved, tt, tt)
  each_sound (x ∷ xs) h p e =
      let a = bind_some (expression_made strength x) _ p e in
      let b = bind_some (each_of (map (expression_made strength) xs)) _ p a.2 in
      let f = h.0 a.0 a.1 in
      let g = each_sound xs h.1 b.0 b.1 in
      moved (λ q. AreResolved strength (x ∷ xs) (map (λ c. c.0) q) × AllFair q × AllWithin strength q) (a.0 ∷ b.0) p b.2
      (d.more_resolved x a.0.0 xs (map (λ c. c.0) b.0) f.0 g.0, (f.1.0, g.1), (f.1.1, g.2))

  expression-Apply : (x : Span) (head : Expr Span) (parts : List (Expr Span)) → SoundExpression head → AllByRecursion SoundExpression parts → SoundExpression (expr.Apply x head parts)
  expression-Apply x head parts i j p e =
      let h = sym (form.expression-Apply strength x head parts) ∙ e in
      let a = bind_some (expression_made strength head) _ p h in
      let b = bind_some (all_of (map (expression_made strength) parts)) _ p a.2 in
      let z = bind_some (above (max a.0.1 b.0.1)) _ p b.2 in
      let ah = i a.0 a.1 in
      let bh = expressions_sound parts j b.0 b.1 in
      let s = size.levels-Apply x a.0.0 b.0.0 in
      let u = above_gave _ z.0 z.1 in
      moved (λ q. IsResolved strength (expr.Apply x head parts) q.0 × Sized levels_of q) (expr.Apply x a.0.0 b.0.0, z.0) p z.2
      (d.application_resolved x head a.0.0 parts b.0.0 ah.0 bh.0, (omega (arith, s, ah.1.0, bh.1.0, u.0), u.1))

  expression-Tuple : (x : Span) (parts : List (Expr Span)) → AllByRecursion SoundExpression parts → SoundExpression (expr.Tuple x parts)
  expression-Tuple x parts j p e =
      let h = sym (form.expression-Tuple strength x parts) ∙ e in
      let b = bind_some (all_of (map (expression_made strength) parts)) _ p h in
      let z = bind_some (above b.0.1) _ p b.2 in
      let bh = expressions_sound parts j b.0 b.1 in
      let s = size.levels-Tuple x b.0.0 in
      let u = above_gave _ z.0 z.1 in
      moved (λ q. IsResolved strength (expr.Tuple x parts) q.0 × Sized levels_of q) (expr.Tuple x b.0.0, z.0) p z.2
      (d.tuple_resolved x parts b.0.0 bh.0, (omega (arith, s, bh.1.0, u.0), u.1))

  expression-Lambda : (x : Span) (pats : List (Pat Span)) (body : Expr Span) → SoundExpression body → SoundExpression (expr.Lambda x pats body)
  expression-Lambda x pats body i p e =
      let h = sym (form.expression-Lambda strength x pats body) ∙ e in
      let n = bind_some (patterns_fit pats) _ p h in
      let a = bind_some (expression_made strength body) _ p n.2 in
      let z = bind_some (above (max n.0 a.0.1)) _ p a.2 in
      let nh = patterns_gave pats n.0 n.1 in
      let ah = i a.0 a.1 in
      let s = size.levels-Lambda x pats a.0.0 in
      let u = above_gave _ z.0 z.1 in
      moved (λ q. IsResolved strength (expr.Lambda x pats body) q.0 × Sized levels_of q) (expr.Lambda x pats a.0.0, z.0) p z.2
      (d.lambda_resolved x pats body a.0.0 ah.0, (omega (arith, s, nh, ah.1.0, u.0), u.1))

  expression-Let : (x : Span) (locals : List (Local Span)) (body : Expr Span) → AllByRecursion SoundLocal locals → SoundExpression body → SoundExpression (expr.Let x locals body)
  expression-Let x locals body j i p e =
      let h = sym (form.expression-Let strength x locals body) ∙ e in
      let b = bind_some (all_of (map (local_made strength) locals)) _ p h in
      let a = bind_some (expression_made strength body) _ p b.2 in
      let z = bind_some (above (max b.0.1 a.0.1)) _ p a.2 in
      let bh = locals_sound locals j b.0 b.1 in
      let ah = i a.0 a.1 in
      let s = size.levels-Let x b.0.0 a.0.0 in
      let u = above_gave _ z.0 z.1 in
      moved (λ q. IsResolved strength (expr.Let x locals body) q.0 × Sized levels_of q) (expr.Let x b.0.0 a.0.0, z.0) p z.2
      (d.let_resolved x locals b.0.0 body a.0.0 bh.0 ah.0, (omega (arith, s, bh.1.0, ah.1.0, u.0), u.1))

  expression-If : (x : Span) (test first second : Expr Span) → SoundExpression test → SoundExpression first → SoundExpression second → SoundExpression (expr.If x test first second)
  expression-If x test first second i j k p e =
      let h = sym (form.expression-If strength x test first second) ∙ e in
      let a = bind_some (expression_made strength test) _ p h in
      let b = bind_some (expression_made strength first) _ p a.2 in
      let c = bind_some (expression_made strength second) _ p b.2 in
      let z = bind_some (above (max a.0.1 (max b.0.1 c.0.1))) _ p c.2 in
      let ah = i a.0 a.1 in
      let bh = j b.0 b.1 in
      let ch = k c.0 c.1 in
      let s = size.levels-If x a.0.0 b.0.0 c.0.0 in
      let u = above_gave _ z.0 z.1 in
      moved (λ q. IsResolved strength (expr.If x test first second) q.0 × Sized levels_of q) (expr.If x a.0.0 b.0.0 c.0.0, z.0) p z.2
      (d.if_resolved x test a.0.0 first b.0.0 second c.0.0 ah.0 bh.0 ch.0, (omega (arith, s, ah.1.0, bh.1.0, ch.1.0, u.0), u.1))

  expression-Case : (x : Span) (scrutinee : Expr Span) (rows : List (Alt Span)) → SoundExpression scrutinee → AllByRecursion SoundRow rows → SoundExpression (expr.Case x scrutinee rows)
  expression-Case x scrutinee rows i j p e =
      let h = sym (form.expression-Case strength x scrutinee rows) ∙ e in
      let a = bind_some (expression_made strength scrutinee) _ p h in
      let b = bind_some (all_of (map (row_made strength) rows)) _ p a.2 in
      let z = bind_some (above (max a.0.1 b.0.1)) _ p b.2 in
      let ah = i a.0 a.1 in
      let bh = rows_sound rows j b.0 b.1 in
      let s = size.levels-Case x a.0.0 b.0.0 in
      let u = above_gave _ z.0 z.1 in
      moved (λ q. IsResolved strength (expr.Case x scrutinee rows) q.0 × Sized levels_of q) (expr.Case x a.0.0 b.0.0, z.0) p z.2
      (d.case_resolved x scrutinee a.0.0 rows b.0.0 ah.0 bh.0, (omega (arith, s, ah.1.0, bh.1.0, u.0), u.1))

  expression-Do : (x : Span) (statements : List (Stmt Span)) → AllByRecursion SoundStatement statements → SoundExpression (expr.Do x statements)
  expression-Do x statements j p e =
      let h = sym (form.expression-Do strength x statements) ∙ e in
      let b = bind_some (below_of 0 (map (statement_made strength) statements)) _ p h in
      let bh = below_sound (statement_made strength) statement_size (AreStatementsResolved strength) d.no_statements_resolved 0 statements j b.0 b.1 in
      let s = size.levels-Do x b.0.0 in
      moved (λ q. IsResolved strength (expr.Do x statements) q.0 × Sized levels_of q) (expr.Do x b.0.0, b.0.1) p b.2
      (d.do_resolved x statements b.0.0 bh.0, (omega (arith, s, bh.1), bh.2))

  side-Plain : (body : Expr Span) → SoundExpression body → SoundSide (rhs.Plain body)
  side-Plain body i p e =
      let h = sym (form.side-Plain strength body) ∙ e in
      let a = bind_some (expression_made strength body) _ p h in
      let ah = i a.0 a.1 in
      let s = size.side-Plain a.0.0 in
      moved (λ q. IsSideResolved strength (rhs.Plain body) q.0 × Sized side_size q) (rhs.Plain a.0.0, a.0.1) p a.2
      (d.plain_resolved body a.0.0 ah.0, (omega (arith, s, ah.1.0), ah.1.1))

  side-Guarded : (bodies : List (Guard Span)) → AllByRecursion SoundGuard bodies → SoundSide (rhs.Guarded bodies)
  side-Guarded bodies j p e =
      let h = sym (form.side-Guarded strength bodies) ∙ e in
      let b = bind_some (all_of (map (guard_made strength) bodies)) _ p h in
      let bh = guards_sound bodies j b.0 b.1 in
      let s = size.side-Guarded b.0.0 in
      moved (λ q. IsSideResolved strength (rhs.Guarded bodies) q.0 × Sized side_size q) (rhs.Guarded b.0.0, b.0.1) p b.2
      (d.guarded_resolved bodies b.0.0 bh.0, (omega (arith, s, bh.1.0), bh.1.1))

  local-Sig : (x : Span) (name : List ℕ) (type : Written) → SoundLocal (local.Sig x name type)
  local-Sig x name type p e =
      let h = sym (form.local-Sig strength x name type) ∙ e in
      let n = bind_some (type_fits type) _ p h in
      let z = bind_some (above n.0) _ p n.2 in
      let nh = type_gave type n.0 n.1 in
      let s = size.local-Sig x name type in
      let u = above_gave _ z.0 z.1 in
      moved (λ q. Heads (AreLocalsResolved strength) (local.Sig x name type) q.0 × Sized local_size q) (local.Sig x name type, z.0) p z.2
      ((λ xs ys rs. d.signature_resolved x name type xs ys rs), (omega (arith, s, nh, u.0), u.1))

  local-Fun : (x : Span) (name : List ℕ) (rows : List (Alt Span)) → AllByRecursion SoundRow rows → SoundLocal (local.Fun x name rows)
  local-Fun x name rows j p e =
      let h = sym (form.local-Fun strength x name rows) ∙ e in
      let b = bind_some (all_of (map (row_made strength) rows)) _ p h in
      let z = bind_some (above b.0.1) _ p b.2 in
      let bh = rows_sound rows j b.0 b.1 in
      let s = size.local-Fun x name b.0.0 in
      let u = above_gave _ z.0 z.1 in
      moved (λ q. Heads (AreLocalsResolved strength) (local.Fun x name rows) q.0 × Sized local_size q) (local.Fun x name b.0.0, z.0) p z.2
      ((λ xs ys rs. d.function_resolved x name rows b.0.0 xs ys bh.0 rs), (omega (arith, s, bh.1.0, u.0), u.1))

  local-Pattern : (x : Span) (row : Alt Span) → SoundRow row → SoundLocal (local.Pattern x row)
  local-Pattern x row i p e =
      let h = sym (form.local-Pattern strength x row) ∙ e in
      let a = bind_some (row_made strength row) _ p h in
      let z = bind_some (above a.0.1) _ p a.2 in
      let ah = i a.0 a.1 in
      let s = size.local-Pattern x a.0.0 in
      let u = above_gave _ z.0 z.1 in
      moved (λ q. Heads (AreLocalsResolved strength) (local.Pattern x row) q.0 × Sized local_size q) (local.Pattern x a.0.0, z.0) p z.2
      ((λ xs ys rs. d.pattern_resolved x row a.0.0 xs ys ah.0 rs), (omega (arith, s, ah.1.0, u.0), u.1))

  statement-Bind : (x : Span) (pat : Pat Span) (body : Expr Span) → SoundExpression body → SoundStatement (stmt.Bind x pat body)
  statement-Bind x pat body i p e =
      let h = sym (form.statement-Bind strength x pat body) ∙ e in
      let n = bind_some (pattern_fits pat) _ p h in
      let a = bind_some (expression_made strength body) _ p n.2 in
      let z = bind_some (above (max n.0 a.0.1)) _ p a.2 in
      let nh = pattern_gave pat n.0 n.1 in
      let ah = i a.0 a.1 in
      let s = size.statement-Bind x pat a.0.0 in
      let u = above_gave _ z.0 z.1 in
      moved (λ q. Heads (AreStatementsResolved strength) (stmt.Bind x pat body) q.0 × Sized statement_size q) (stmt.Bind x pat a.0.0, z.0) p z.2
      ((λ xs ys rs. d.bind_resolved x pat body a.0.0 xs ys ah.0 rs), (omega (arith, s, nh, ah.1.0, u.0), u.1))

  statement-Let : (x : Span) (locals : List (Local Span)) → AllByRecursion SoundLocal locals → SoundStatement (stmt.Let x locals)
  statement-Let x locals j p e =
      let h = sym (form.statement-Let strength x locals) ∙ e in
      let b = bind_some (all_of (map (local_made strength) locals)) _ p h in
      let z = bind_some (above b.0.1) _ p b.2 in
      let bh = locals_sound locals j b.0 b.1 in
      let s = size.statement-Let x b.0.0 in
      let u = above_gave _ z.0 z.1 in
      moved (λ q. Heads (AreStatementsResolved strength) (stmt.Let x locals) q.0 × Sized statement_size q) (stmt.Let x b.0.0, z.0) p z.2
      ((λ xs ys rs. d.let_statement_resolved x locals b.0.0 xs ys bh.0 rs), (omega (arith, s, bh.1.0, u.0), u.1))

  statement-Run : (x : Span) (body : Expr Span) → SoundExpression body → SoundStatement (stmt.Run x body)
  statement-Run x body i p e =
      let h = sym (form.statement-Run strength x body) ∙ e in
      let a = bind_some (expression_made strength body) _ p h in
      let z = bind_some (above a.0.1) _ p a.2 in
      let ah = i a.0 a.1 in
      let s = size.statement-Run x a.0.0 in
      let u = above_gave _ z.0 z.1 in
      moved (λ q. Heads (AreStatementsResolved strength) (stmt.Run x body) q.0 × Sized statement_size q) (stmt.Run x a.0.0, z.0) p z.2
      ((λ xs ys rs. d.run_resolved x body a.0.0 xs ys ah.0 rs), (omega (arith, s, ah.1.0, u.0), u.1))

  name-Var : (x : Span) (name : List ℕ) → SoundExpression (expr.Var x name)
  name-Var x name p e =
      let s = size.levels-Var x name in
      moved (λ q. IsResolved strength (expr.Var x name) q.0 × Sized levels_of q) (expr.Var x name, 1) p (sym (form.expression-Var strength x name) ∙ e) (d.variable_resolved x name, (sym s, omega arith))

  name-Con : (x : Span) (name : List ℕ) → SoundExpression (expr.Con x name)
  name-Con x name p e =
      let s = size.levels-Con x name in
      moved (λ q. IsResolved strength (expr.Con x name) q.0 × Sized levels_of q) (expr.Con x name, 1) p (sym (form.expression-Con strength x name) ∙ e) (d.constructor_resolved x name, (sym s, omega arith))

  chain-Chain : (x : Span) (operands operators : List (Expr Span)) → AllByRecursion SoundExpression operands → AllByRecursion SoundExpression operators → SoundExpression (expr.Chain x operands operators)
  chain-Chain x operands operators i j p e =
      let h = sym (form.expression-Chain strength x operands operators) ∙ e in
      let a = bind_some (each_of (map (expression_made strength) operands)) _ p h in
      let b = bind_some (each_of (map (expression_made strength) operators)) _ p a.2 in
      let ah = each_sound operands i a.0 a.1 in
      let bh = each_sound operators j b.0 b.1 in
      let g = grouped strength b.0 a.0 p bh.1 ah.1 b.2 in
      (d.chain_resolved x operands operators (map (λ c. c.0) a.0) (map (λ c. c.0) b.0) p.0 ah.0 bh.0 g.0, (g.1, grouped_within strength [] b.0 a.0 p ah.2 b.2))

  row-Row : (row : Alt Span) → SoundSide row.rhs → AllByRecursion SoundLocal row.wheres → SoundRow row
  row-Row row i j p e =
      let h = sym (form.row-parts strength row) ∙ e in
      let n = bind_some (patterns_fit row.pats) _ p h in
      let a = bind_some (side_made strength row.rhs) _ p n.2 in
      let b = bind_some (all_of (map (local_made strength) row.wheres)) _ p a.2 in
      let z = bind_some (above (max n.0 (max a.0.1 b.0.1))) _ p b.2 in
      let nh = patterns_gave row.pats n.0 n.1 in
      let ah = i a.0 a.1 in
      let bh = locals_sound row.wheres j b.0 b.1 in
      let u = above_gave _ z.0 z.1 in
      let made : Alt Span = record { at = row.at; pats = row.pats; rhs = a.0.0; wheres = b.0.0 } in
      let s : row_size made ≡ suc (max (patterns_size row.pats) (max (side_size a.0.0) (all_size local_size b.0.0))) = size.row-parts made in
      moved (λ q. IsRowResolved strength row q.0 × Sized row_size q) (made, z.0) p z.2
      (d.row_resolved row.at row.pats row.rhs a.0.0 row.wheres b.0.0 ah.0 bh.0, (omega (arith, s, nh, ah.1.0, bh.1.0, u.0), u.1))

  guard-Guard : (guard : Guard Span) → SoundExpression guard.test → SoundExpression guard.body → SoundGuard guard
  guard-Guard guard i j p e =
      let h = sym (form.guard-parts strength guard) ∙ e in
      let a = bind_some (expression_made strength guard.test) _ p h in
      let b = bind_some (expression_made strength guard.body) _ p a.2 in
      let ah = i a.0 a.1 in
      let bh = j b.0 b.1 in
      let made : Guard Span = record { test = a.0.0; body = b.0.0 } in
      let s : guard_size made ≡ max (levels_of a.0.0) (levels_of b.0.0) = size.guard-parts made in
      moved (λ q. Heads (AreGuardsResolved strength) guard q.0 × Sized guard_size q) (made, max a.0.1 b.0.1) p b.2
      ((λ xs ys rs. d.more_guards_resolved guard.test a.0.0 guard.body b.0.0 xs ys ah.0 bh.0 rs), (omega (arith, s, ah.1.0, bh.1.0), omega (arith, ah.1.1, bh.1.1)))

  claims : Claims SoundLocal SoundSide SoundStatement SoundExpression SoundRow SoundGuard
  claims = record {
    variable = name-Var;
    constructor = name-Con;
    application = expression-Apply;
    tuple = expression-Tuple;
    chain = chain-Chain;
    lambda = expression-Lambda;
    let_in = expression-Let;
    if_then_else = expression-If;
    case_of = expression-Case;
    do_block = expression-Do;
    plain = side-Plain;
    guarded = side-Guarded;
    signature = local-Sig;
    function = local-Fun;
    bound = local-Pattern;
    bind = statement-Bind;
    let_statement = statement-Let;
    run = statement-Run;
    row = row-Row;
    guard = guard-Guard;
  }

  pub expression_sound : (a : Expr Span) → SoundExpression a
  expression_sound = every_expression SoundLocal SoundSide SoundStatement SoundExpression SoundRow SoundGuard claims

  pub row_sound : (row : Alt Span) → SoundRow row
  row_sound = every_row SoundLocal SoundSide SoundStatement SoundExpression SoundRow SoundGuard claims
