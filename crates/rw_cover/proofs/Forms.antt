-- The group of a declaration and of each kind of node, from their forms in the tree.
use Rattle.std.proofs.Common.{◌≡◌, ◌∙◌, refl, sym, ap, subst, append-nil, ℕ, suc, List, [], ◌∷◌, map, length, Bool, Option, Some, None, if◌then◌else◌, Result, Ok, Err, IfOk, arith}
use Rattle.rw_base.specs.declared.place.Place.{Place}
use Rattle.rw_base.specs.declared.fail.OutOfMemory.{OutOfMemory}
use Rattle.rw_scope_rules.specs.declared.binding.Bound.{Bound}
use Rattle.rw_scope_rules.specs.Nodes.{expression_node, binding_node, statement_node, clauses_of}
use Rattle.rw_tree.specs.Views.{itself}
use Rattle.rw_tree.specs.declared.pattern.Pat.{Pat}
use Rattle.rw_tree.specs.declared.types.Written.{Written}
use Rattle.rw_tree.specs.declared.expr.Expr.{Expr}
use Rattle.rw_tree.specs.declared.expr.Expr.TheVariants as expr
use Rattle.rw_tree.specs.declared.clause.Alt.{Alt}
use Rattle.rw_tree.specs.declared.clause.Local.{Local}
use Rattle.rw_tree.specs.declared.clause.Local.TheVariants as local
use Rattle.rw_tree.specs.declared.clause.Stmt.{Stmt}
use Rattle.rw_tree.specs.declared.clause.Stmt.TheVariants as stmt
use Rattle.rw_tree.specs.Patterns.{patterns}
use Rattle.rw_tree.specs.Trees.{Expression, Alternative, alternative_parts, alternative_of, expression, local_binding, statement}
use Rattle.rw_tree.proofs.Plains.{expression-Case, expression-Lambda, local_binding-Sig, local_binding-Fun, local_binding-Pattern, statement-Bind, statement-Let, statement-Run, alternative-parts}
use Rattle.rw_cover_matrix.specs.Matching.{PlainPattern}
use Rattle.rw_cover_matrix.specs.Coverage.{Decides}
use Rattle.rw_cover.specs.declared.known.Known.{Known}
use Rattle.rw_cover.specs.Rows.{matrix_row, counted_row, counted_rows}
use Rattle.rw_cover.specs.Coverage.{Group, clauses_group, node_group}
use Rattle.rw_cover.specs.Correct.{IsFirst}
use Rattle.rw_cover.proofs.Groups.{no_groups, one_group}

-- one group, of which it is known whether it covers
told : (groups : List Group) (g : Group) (covered : Bool) (first : Option Place) → groups ≡ g ∷ [] → Decides covered g.rows → first ≡ (if covered then None else Some g.place) → IsFirst groups first
told groups g covered first e d f =
    subst (λ (gs : List Group). IsFirst gs first) (sym e) (subst (IsFirst (g ∷ [])) (sym f) (one_group g covered d))

-- no group
pub no_group : (groups : List Group) → groups ≡ [] → IsFirst groups None
no_group groups e = subst (λ (gs : List Group). IsFirst gs None) (sym e) no_groups

-- the same groups, written otherwise
pub same_groups : (result : Result (Option Place) OutOfMemory) (groups others : List Group) → groups ≡ others → IfOk result (λ first. IsFirst groups first) → IfOk result (λ first. IsFirst others first)
same_groups (Ok first) groups others e h = subst (λ (gs : List Group). IsFirst gs first) e h
same_groups (Err x) groups others e h = h

clauses-parts : (cs : List (Alternative Bound)) → clauses_of (alternative_parts cs) ≡ cs
clauses-parts [] = refl
clauses-parts (c ∷ cs) = ap (λ (ds : List (Alternative Bound)). c ∷ ds) (clauses-parts cs)

module _ (counts : List ℕ) (known : Known) where
  -- no clauses
  pub no_clauses : (cs : List (Alt Bound)) → length cs ≡ 0 → IsFirst (clauses_group counts known (map (alternative_of itself) cs)) None
  no_clauses [] h = no_groups
  no_clauses (c ∷ cs) h = absurd (let more : suc (length cs) ≡ 0 = h in omega arith)

  -- the clauses of a function
  pub clauses_first : (cs rest : List (Alt Bound)) (c : Alt Bound) (covered : Bool) (first : Option Place) → cs ≡ c ∷ rest
      → Decides covered (counted_rows counts known (map (alternative_of itself) cs)) → first ≡ (if covered then None else Some c.at.span.first)
      → IsFirst (clauses_group counts known (map (alternative_of itself) cs)) first
  clauses_first cs rest c covered first e d f =
      let rows = counted_rows counts known (map (alternative_of itself) cs) in
      let parts = alternative-parts itself c in
      told (clauses_group counts known (map (alternative_of itself) cs)) (record { place = c.at.span.first; rows = rows }) covered first
      (ap (λ (xs : List (Alt Bound)). clauses_group counts known (map (alternative_of itself) xs)) e
      ∙ ap (λ (x : Alternative Bound). clauses_group counts known (x ∷ map (alternative_of itself) rest)) parts
      ∙ ap (λ (r : List (List PlainPattern)). let g : Group = record { place = c.at.span.first; rows = r } in g ∷ [])
      (sym (ap (λ (x : Alternative Bound). counted_rows counts known (x ∷ map (alternative_of itself) rest)) parts)
      ∙ sym (ap (λ (xs : List (Alt Bound)). counted_rows counts known (map (alternative_of itself) xs)) e)))
      d f

  -- a `case`
  pub case_first : (t : Expr Bound) (a : Bound) (x : Expr Bound) (rows slice : List (Alt Bound)) (covered : Bool) (first : Option Place) → t ≡ expr.Case a x rows → slice ≡ rows
      → Decides covered (counted_rows counts known (map (alternative_of itself) slice)) → first ≡ (if covered then None else Some a.span.first)
      → IsFirst (node_group counts known (expression_node (expression itself t))) first
  case_first t a x rows slice covered first e s d f =
      told (node_group counts known (expression_node (expression itself t))) (record { place = a.span.first; rows = counted_rows counts known (map (alternative_of itself) slice) }) covered first
      (ap (λ (u : Expr Bound). node_group counts known (expression_node (expression itself u))) e
      ∙ ap (λ u. node_group counts known (expression_node u)) (expression-Case itself a x rows)
      ∙ ap (λ (cs : List (Alternative Bound)). let g : Group = record { place = a.span.first; rows = counted_rows counts known cs } in g ∷ [])
      (clauses-parts (map (alternative_of itself) rows) ∙ sym (ap (λ (xs : List (Alt Bound)). map (alternative_of itself) xs) s)))
      d f

  -- a lambda
  pub lambda_first : (t : Expr Bound) (a : Bound) (pats slice : List (Pat Bound)) (x : Expr Bound) (covered : Bool) (first : Option Place) → t ≡ expr.Lambda a pats x → slice ≡ pats
      → Decides covered (matrix_row counts (patterns itself slice) ∷ []) → first ≡ (if covered then None else Some a.span.first)
      → IsFirst (node_group counts known (expression_node (expression itself t))) first
  lambda_first t a pats slice x covered first e s d f =
      told (node_group counts known (expression_node (expression itself t))) (record { place = a.span.first; rows = matrix_row counts (patterns itself slice) ∷ [] }) covered first
      (ap (λ (u : Expr Bound). node_group counts known (expression_node (expression itself u))) e
      ∙ ap (λ u. node_group counts known (expression_node u)) (expression-Lambda itself a pats x)
      ∙ ap (λ (ps : List (Pat Bound)). let g : Group = record { place = a.span.first; rows = matrix_row counts (patterns itself ps) ∷ [] } in g ∷ []) (sym s))
      d f

  -- another expression
  pub expression_is : (t u : Expr Bound) (e : Expression Bound) → t ≡ u → expression itself u ≡ e → node_group counts known (expression_node e) ≡ [] → node_group counts known (expression_node (expression itself t)) ≡ []
  expression_is t u e same form none =
      ap (λ (v : Expr Bound). node_group counts known (expression_node (expression itself v))) same ∙ ap (λ (v : Expression Bound). node_group counts known (expression_node v)) form ∙ none

  -- a local function
  pub local_is : (t : Local Bound) (a : Bound) (n : List ℕ) (rows slice : List (Alt Bound)) → t ≡ local.Fun a n rows → slice ≡ rows
      → clauses_group counts known (map (alternative_of itself) slice) ≡ node_group counts known (binding_node (local_binding itself t))
  local_is t a n rows slice e s =
      ap (λ (xs : List (Alt Bound)). clauses_group counts known (map (alternative_of itself) xs)) s
      ∙ ap (clauses_group counts known) (sym (clauses-parts (map (alternative_of itself) rows)))
      ∙ sym (ap (λ (u : Local Bound). node_group counts known (binding_node (local_binding itself u))) e
      ∙ ap (λ u. node_group counts known (binding_node u)) (local_binding-Fun itself a n rows))

  -- a pattern binding
  pub binding_first : (t : Local Bound) (a : Bound) (row : Alt Bound) (slice : List (Alt Bound)) (covered : Bool) (first : Option Place) → t ≡ local.Pattern a row → slice ≡ row ∷ []
      → Decides covered (counted_rows counts known (map (alternative_of itself) slice)) → first ≡ (if covered then None else Some a.span.first)
      → IsFirst (node_group counts known (binding_node (local_binding itself t))) first
  binding_first t a row slice covered first e s d f =
      told (node_group counts known (binding_node (local_binding itself t))) (record { place = a.span.first; rows = counted_rows counts known (map (alternative_of itself) slice) }) covered first
      (ap (λ (u : Local Bound). node_group counts known (binding_node (local_binding itself u))) e
      ∙ ap (λ u. node_group counts known (binding_node u)) (local_binding-Pattern itself a row)
      ∙ ap (λ (r : List (List PlainPattern)). let g : Group = record { place = a.span.first; rows = r } in g ∷ [])
      (sym (append-nil (counted_row counts known (alternative_of itself row)))
      ∙ sym (ap (λ (xs : List (Alt Bound)). counted_rows counts known (map (alternative_of itself) xs)) s)))
      d f

  -- a local signature
  pub signature_is : (t : Local Bound) (a : Bound) (n : List ℕ) (w : Written) → t ≡ local.Sig a n w → node_group counts known (binding_node (local_binding itself t)) ≡ []
  signature_is t a n w e =
      ap (λ (u : Local Bound). node_group counts known (binding_node (local_binding itself u))) e
      ∙ ap (λ u. node_group counts known (binding_node u)) (local_binding-Sig itself a n w)

  -- a `let` in a `do`, and an expression alone
  pub let_is : (t : Stmt Bound) (a : Bound) (ls : List (Local Bound)) → t ≡ stmt.Let a ls → node_group counts known (statement_node (statement itself t)) ≡ []
  let_is t a ls e =
      ap (λ (u : Stmt Bound). node_group counts known (statement_node (statement itself u))) e
      ∙ ap (λ u. node_group counts known (statement_node u)) (statement-Let itself a ls)

  pub run_is : (t : Stmt Bound) (a : Bound) (x : Expr Bound) → t ≡ stmt.Run a x → node_group counts known (statement_node (statement itself t)) ≡ []
  run_is t a x e =
      ap (λ (u : Stmt Bound). node_group counts known (statement_node (statement itself u))) e
      ∙ ap (λ u. node_group counts known (statement_node u)) (statement-Run itself a x)

  -- a `<-`
  pub statement_first : (t : Stmt Bound) (a : Bound) (p : Pat Bound) (x : Expr Bound) (slice : List (Pat Bound)) (covered : Bool) (first : Option Place) → t ≡ stmt.Bind a p x → slice ≡ p ∷ []
      → Decides covered (matrix_row counts (patterns itself slice) ∷ []) → first ≡ (if covered then None else Some a.span.first)
      → IsFirst (node_group counts known (statement_node (statement itself t))) first
  statement_first t a p x slice covered first e s d f =
      told (node_group counts known (statement_node (statement itself t))) (record { place = a.span.first; rows = matrix_row counts (patterns itself slice) ∷ [] }) covered first
      (ap (λ (u : Stmt Bound). node_group counts known (statement_node (statement itself u))) e
      ∙ ap (λ u. node_group counts known (statement_node u)) (statement-Bind itself a p x)
      ∙ ap (λ (ps : List (Pat Bound)). let g : Group = record { place = a.span.first; rows = matrix_row counts (patterns itself ps) ∷ [] } in g ∷ []) (sym s))
      d f
