-- Clauses, local declarations and statements that are cut off where there is no room, part by part.
use Rattle.std.proofs.Common.{◌≡◌, ℕ, zero, suc, pred, max, nat_le, ◌≤◌, Bool, true, false, not, ◌&&◌, cond, List, [], ◌∷◌, length, map, drop, Some, None, refl, sym, ap, ◌∙◌, arith}
use Rattle.std.proofs.lemmas.Bool.Decides.{nat_tests}
use Rattle.rw_base.specs.declared.place.Span.{Span}
use Rattle.rw_tree.specs.declared.types.Written.{Written}
use Rattle.rw_tree.specs.declared.pattern.Pat.{Pat}
use Rattle.rw_tree.specs.declared.expr.Expr.{Expr}
use Rattle.rw_tree.specs.declared.expr.Expr.TheVariants as e
use Rattle.rw_tree.specs.declared.clause.Alt.{Alt}
use Rattle.rw_tree.specs.declared.clause.Rhs.TheVariants as r
use Rattle.rw_tree.specs.declared.clause.Local.{Local}
use Rattle.rw_tree.specs.declared.clause.Local.TheVariants as l
use Rattle.rw_tree.specs.declared.clause.Stmt.{Stmt}
use Rattle.rw_tree.specs.declared.clause.Stmt.TheVariants as s
use Rattle.rw_parser_grammar.specs.declared.item.Bound.{Bound}
use Rattle.rw_parser_grammar.specs.declared.item.Bound.TheVariants as b
use Rattle.rw_parser_grammar.specs.declared.lexeme.Mark.{Mark}
use Rattle.rw_parser_grammar.specs.declared.lexeme.Mark.TheVariants as m
use Rattle.rw_parser_grammar.specs.declared.lexeme.Lexeme.{Lexeme}
use Rattle.rw_parser_grammar.specs.Lexemes.{span_of}
use Rattle.rw_parser_grammar.specs.Clauses.{may_be_local, local_groups, locals_of, ends_in_run}
use Rattle.rw_parser_reading.specs.Frames.{most, frames_of_type, frames_of_expression, frames_of_row, frames_of_side, frames_of_guard, frames_of_local, frames_of_statement, frames_of_bound, kept, cut}
use Rattle.rw_parser_reading.specs.Read.{◌>>=◌, Read, sees, after, block_at, variable_at}
use Rattle.rw_parser_reading.specs.ReadClauses.{is_some, guard_at, guards_at, right_side_at, where_at, clause_at, alternative_at, alternatives_at, begins_infix, begins_binding}
use Rattle.rw_parser_reading.specs.ReadClauses.{begins_signature, local_signature_at, local_clause_at, local_pattern_at, local_at, locals_over_at, begins_bind, bind_at, let_statement_at, run_at, statement_at, statements_at}
use Rattle.rw_parser_reading.proofs.FramesOf.{frames-Plain, frames-Guarded, frames-guard, frames-row, frames-local-Sig, frames-local-Pattern, frames-Let, frames-Bind, frames-statement-Let, frames-Run}
use Rattle.rw_parser_patterns.specs.Depth.{any_type_at, any_pattern_at}
use Rattle.rw_parser_parts.specs.Within.{in_place, signature_within, let_within, let_statement_within, statement_within}
use Rattle.rw_parser_clauses.specs.Clause.{frames_of_clause}
use Rattle.rw_parser_clauses.specs.Last.{runs}
use Rattle.rw_parser_clauses.proofs.Runs.{runs-Bind, runs-Let, runs-Run}
use Rattle.rw_parser_clauses.proofs.Small.{unseen, Small, small_one, small_two, small_last, small_nowhere, Together, neither, both, together_self, together_bind, same_bind, together_if, together_when, many_together, block_together}
use Rattle.rw_parser_clauses.proofs.Counts.{frames-deep_type, frames-locals}

-- lists that are alike are both empty, or both not
some_alike : {A X : Type 0} (look : A → X) (xs ys : List A) → map look xs ≡ map look ys → is_some xs ≡ is_some ys
some_alike look [] [] e = refl
some_alike look [] (b ∷ ys) e = absurd (cc)
some_alike look (a ∷ xs) [] e = absurd (cc)
some_alike look (a ∷ xs) (b ∷ ys) e = refl

none_more : (n : ℕ) → max n 0 ≡ n
none_more n = omega arith

-- ---- right sides and clauses
module _ (room : ℕ) (f g : List Lexeme → Read (Expr Span)) (inner : (ts : List Lexeme) → Together frames_of_expression unseen room (f ts) (g ts)) where
  guard_small : (arrow : Mark) (ts : List Lexeme) → Together frames_of_guard unseen room (guard_at arrow f ts) (guard_at arrow g ts)
  unfolding guard_at
  guard_small arrow ts =
      same_bind (after m.Bar ts) _ _
      (λ x. together_bind (f x) (g x) _ _ (inner x)
      (λ a c mid h. same_bind (after arrow mid) _ _
      (λ y. together_bind (f y) (g y) _ _ (inner y)
      (λ d k rest i. both _ _ rest (small_two frames_of_guard unseen (λ x z. record { test = x; body = z }) (λ x z. frames-guard (record { test = x; body = z })) refl h i)))))

  guards_small : (arrow : Mark) (ts : List Lexeme) → Together (most frames_of_guard) (map unseen) room (guards_at arrow f ts) (guards_at arrow g ts)
  unfolding guards_at
  guards_small arrow ts = many_together frames_of_guard unseen room (guard_at arrow f) (guard_at arrow g) (guard_small arrow) (sees m.Bar) (length ts) ts

  right_side_small : (arrow : Mark) (ts : List Lexeme) → Together frames_of_side unseen room (right_side_at arrow f ts) (right_side_at arrow g ts)
  unfolding right_side_at
  right_side_small arrow ts =
      together_if (sees m.Bar ts) _ _ _ _
      (together_bind (guards_at arrow f ts) (guards_at arrow g ts) _ _ (guards_small arrow ts)
      (λ xs ys rest h. together_when (is_some xs) (is_some ys) _ _ _ _ (some_alike unseen xs ys h.alike) (both _ _ rest (small_one frames_of_side unseen r.Guarded frames-Guarded refl h)) neither))
      (same_bind (after arrow ts) _ _ (λ x. together_bind (f x) (g x) _ _ (inner x) (λ a c rest h. both _ _ rest (small_one frames_of_side unseen r.Plain frames-Plain refl h))))

  alternative_small : (pattern : List Lexeme → Read (Pat Span)) (ts : List Lexeme) → Together frames_of_row unseen room (alternative_at pattern f ts) (alternative_at pattern g ts)
  unfolding alternative_at
  alternative_small pattern ts =
      same_bind (pattern ts) _ _
      (λ p. together_bind (right_side_at m.Arrow f p.1) (right_side_at m.Arrow g p.1) _ _ (right_side_small m.Arrow p.1)
      (λ a c rest h. both _ _ rest (small_one frames_of_row unseen (λ x. record { at = span_of ts rest; pats = p.0 ∷ []; rhs = x; wheres = [] })
      (λ x. frames-row (record { at = span_of ts rest; pats = p.0 ∷ []; rhs = x; wheres = [] }) ∙ none_more (frames_of_side x)) refl h)))

  pub alternatives_small : (pattern : List Lexeme → Read (Pat Span)) (ts : List Lexeme) → Together (most frames_of_row) (map unseen) room (alternatives_at (alternative_at pattern f) ts) (alternatives_at (alternative_at pattern g) ts)
  unfolding alternatives_at
  alternatives_small pattern ts =
      together_bind (block_at (alternative_at pattern f) ts) (block_at (alternative_at pattern g) ts) _ _ (block_together frames_of_row unseen room (alternative_at pattern f) (alternative_at pattern g) (alternative_small pattern) ts)
      (λ xs ys rest h. together_when (is_some xs) (is_some ys) _ _ _ _ (some_alike unseen xs ys h.alike) (both xs ys rest h) neither)

  module _ (u v : List Lexeme → Read (List (Local Span))) (locals : (ts : List Lexeme) → Together (most frames_of_local) unseen room (u ts) (v ts)) where
    where_small : (ts : List Lexeme) → Together (most frames_of_local) unseen room (where_at u ts) (where_at v ts)
    unfolding where_at
    where_small ts = together_if (sees m.Where ts) _ _ _ _ (locals (drop 1 ts)) (together_self (Some ([], ts)))

    pub clause_small : (left : List Lexeme → Read (List ℕ × List (Pat Span))) (ts : List Lexeme) → Together frames_of_clause (λ clause. clause.0) room (clause_at left f u ts) (clause_at left g v ts)
    unfolding clause_at
    clause_small left ts =
        same_bind (left ts) _ _
        (λ p. together_bind (right_side_at m.Equal f p.1) (right_side_at m.Equal g p.1) _ _ (right_side_small m.Equal p.1)
        (λ a c mid h. together_bind (where_at u mid) (where_at v mid) _ _ (where_small mid)
        (λ xs ys rest i. both _ _ rest (small_two frames_of_clause (λ clause. clause.0) (λ x z. (p.0.0, record { at = span_of ts rest; pats = p.0.1; rhs = x; wheres = z }))
        (λ x z. frames-row (record { at = span_of ts rest; pats = p.0.1; rhs = x; wheres = z })) refl h i))))

    -- ---- local declarations
    module _ (binding : List Lexeme → Read (Pat Span)) (c d : List Lexeme → Read Written) (signatures : (ts : List Lexeme) → Together frames_of_type unseen room (c ts) (d ts))
        (x z : List Lexeme → Read (List ℕ × Alt Span)) (clauses : (ts : List Lexeme) → Together frames_of_clause (λ clause. clause.0) room (x ts) (z ts)) where
      signature_small : (ts : List Lexeme) → Together frames_of_bound unseen room (local_signature_at binding c x f u ts) (local_signature_at binding d z g v ts)
      unfolding local_signature_at
      signature_small ts =
          same_bind (variable_at ts) _ _
          (λ p. same_bind (after m.Colons p.1) _ _
          (λ y. together_bind (c y) (d y) _ _ (signatures y)
          (λ a k rest h. both _ _ rest (small_one frames_of_bound unseen (λ o. b.Whole (l.Sig (span_of ts rest) p.0.1 o)) (λ o. frames-local-Sig (span_of ts rest) p.0.1 o) refl h))))

      local_clause_small : (ts : List Lexeme) → Together frames_of_bound unseen room (local_clause_at binding c x f u ts) (local_clause_at binding d z g v ts)
      unfolding local_clause_at
      local_clause_small ts =
          together_bind (x ts) (z ts) _ _ (clauses ts)
          (λ a k rest h. together_when (may_be_local a.0) (may_be_local k.0) _ _ _ _ (ap may_be_local h.alike) (both _ _ rest (small_one frames_of_bound unseen (λ o. b.Clause o.0 o.1) (λ o. refl) refl h)) neither)

      local_pattern_small : (ts : List Lexeme) → Together frames_of_bound unseen room (local_pattern_at binding c x f u ts) (local_pattern_at binding d z g v ts)
      unfolding local_pattern_at
      local_pattern_small ts =
          same_bind (binding ts) _ _
          (λ p. together_bind (right_side_at m.Equal f p.1) (right_side_at m.Equal g p.1) _ _ (right_side_small m.Equal p.1)
          (λ a k mid h. together_bind (where_at u mid) (where_at v mid) _ _ (where_small mid)
          (λ xs ys rest i. both _ _ rest (small_two frames_of_bound unseen (λ o q. b.Whole (l.Pattern (span_of ts rest) (record { at = span_of ts rest; pats = p.0 ∷ []; rhs = o; wheres = q })))
          (λ o q. frames-local-Pattern (span_of ts rest) (record { at = span_of ts rest; pats = p.0 ∷ []; rhs = o; wheres = q }) ∙ frames-row (record { at = span_of ts rest; pats = p.0 ∷ []; rhs = o; wheres = q })) refl h i))))

      pub local_small : (ts : List Lexeme) → Together frames_of_bound unseen room (local_at binding c x f u ts) (local_at binding d z g v ts)
      unfolding local_at
      local_small ts = together_if (begins_signature ts) _ _ _ _ (signature_small ts) (together_if (not (begins_infix ts) && begins_binding ts) _ _ _ _ (local_pattern_small ts) (local_clause_small ts))

pub locals_over_small : (room : ℕ) (f g : List Lexeme → Read Bound) → ((ts : List Lexeme) → Together frames_of_bound unseen room (f ts) (g ts)) → (ts : List Lexeme)
    → Together (most frames_of_local) unseen room (locals_over_at f ts) (locals_over_at g ts)
unfolding locals_over_at
locals_over_small room f g entries ts =
    together_bind (block_at f ts) (block_at g ts) _ _ (block_together frames_of_bound unseen room f g entries ts)
    (λ xs ys rest h. both _ _ rest (small_one (most frames_of_local) unseen (λ o. locals_of (local_groups o)) frames-locals refl h))

-- ---- types of local names
least : (n room : ℕ) → n ≤ room → nat_le n room ≡ true
least n room h = grind (arith, nat_tests)

over : (n room : ℕ) → nat_le n room ≡ false → room ≤ n
over n room h = grind (arith, nat_tests)

in_place_small : (room : ℕ) (type : Written) → Small frames_of_type unseen room (in_place room (kept frames_of_type room type)) type
unfolding kept
in_place_small room type =
    record {
      alike = refl;
      same = λ h. ap (λ z. in_place room (cond z (Some type) None)) (least (frames_of_type type) room h);
      deep = λ h. deep_at (nat_le (frames_of_type type) room) h;
    }
  where
    deep_at : (z : Bool) → room ≤ frames_of_type type → room ≤ frames_of_type (in_place room (cond z (Some type) None))
    deep_at true h = h
    deep_at false h = let d = frames-deep_type room in omega arith

pub signatures_small : (room : ℕ) (ts : List Lexeme) → Together frames_of_type unseen room (signature_within room ts) (any_type_at ts)
unfolding signature_within
signatures_small room ts = go (any_type_at ts)
  where
    go : (o : Read Written) → Together frames_of_type unseen room (cut frames_of_type room o >>= λ p. Some (in_place room p.0, p.1)) o
    go None = neither
    go (Some p) = both _ _ p.1 (in_place_small room p.0)

-- ---- statements
-- the last of a list
abbrev last_is : List Bool → Bool
last_is [] = false
last_is (a ∷ []) = a
last_is (a ∷ c ∷ others) = last_is (c ∷ others)

ends_is : (all : List (Stmt Span)) → ends_in_run all ≡ last_is (map runs all)
ends_is [] = refl
ends_is (a ∷ []) = refl
ends_is (a ∷ c ∷ others) = ends_is (c ∷ others)

module _ (room : ℕ) (f g : List Lexeme → Read (Expr Span)) (inner : (ts : List Lexeme) → Together frames_of_expression unseen room (f ts) (g ts))
    (u v : List Lexeme → Read (List (Local Span))) (locals : (ts : List Lexeme) → Together (most frames_of_local) unseen room (u ts) (v ts))
    (a k : List Lexeme → Read (Expr Span)) (below : (ts : List Lexeme) → Together frames_of_expression unseen (pred room) (a ts) (k ts)) (pattern : List Lexeme → Read (Pat Span)) where
  bind_small : (ts : List Lexeme) → Together frames_of_statement runs room (bind_at pattern f u a ts) (bind_at pattern g v k ts)
  unfolding bind_at
  bind_small ts =
      same_bind (pattern ts) _ _
      (λ p. same_bind (after m.FromArrow p.1) _ _
      (λ x. together_bind (f x) (g x) _ _ (inner x)
      (λ c d rest h. both _ _ rest (small_one frames_of_statement runs (s.Bind (span_of ts rest) p.0) (frames-Bind (span_of ts rest) p.0) (runs-Bind (span_of ts rest) p.0 c ∙ sym (runs-Bind (span_of ts rest) p.0 d)) h))))

  run_small : (ts : List Lexeme) → Together frames_of_statement runs room (run_at pattern f u a ts) (run_at pattern g v k ts)
  unfolding run_at
  run_small ts =
      together_bind (f ts) (g ts) _ _ (inner ts)
      (λ c d rest h. both _ _ rest (small_one frames_of_statement runs (s.Run (span_of ts rest)) (frames-Run (span_of ts rest)) (runs-Run (span_of ts rest) c ∙ sym (runs-Run (span_of ts rest) d)) h))

  let_small : (x : Span) (xs ys : List (Local Span)) (c d : Expr Span) → Small (most frames_of_local) unseen room xs ys → Small frames_of_expression unseen (pred room) c d
      → Small frames_of_statement runs room (s.Run x (let_within room x xs c)) (s.Run x (e.Let x ys d))
  let_small x xs ys c d h i = by_room room h i
    where
      frames : (xs : List (Local Span)) (c : Expr Span) → frames_of_statement (s.Run x (e.Let x xs c)) ≡ max (most frames_of_local xs) (suc (frames_of_expression c))
      frames xs c = frames-Run x (e.Let x xs c) ∙ frames-Let x xs c

      by_room : (n : ℕ) → Small (most frames_of_local) unseen n xs ys → Small frames_of_expression unseen (pred n) c d → Small frames_of_statement runs n (s.Run x (let_within n x xs c)) (s.Run x (e.Let x ys d))
      by_room zero h i = small_nowhere (runs-Run x (let_within zero x xs c) ∙ sym (runs-Run x (e.Let x ys d))) (let j = frames ys d in omega arith)
      by_room (suc n) h i = small_two frames_of_statement runs (λ o q. s.Run x (e.Let x o q)) frames (runs-Run x (e.Let x xs c) ∙ sym (runs-Run x (e.Let x ys d))) h (small_last i)

  let_statement_small : (ts : List Lexeme) → Together frames_of_statement runs room (let_statement_within room f u a ts) (let_statement_at pattern g v k ts)
  unfolding let_statement_within let_statement_at
  let_statement_small ts =
      together_bind (u (drop 1 ts)) (v (drop 1 ts)) _ _ (locals (drop 1 ts))
      (λ xs ys mid h. together_if (sees m.In mid) _ _ _ _
      (together_bind (a (drop 1 mid)) (k (drop 1 mid)) _ _ (below (drop 1 mid)) (λ c d rest i. both _ _ rest (let_small (span_of ts rest) xs ys c d h i)))
      (both _ _ mid (small_one frames_of_statement runs (s.Let (span_of ts mid)) (frames-statement-Let (span_of ts mid)) (runs-Let (span_of ts mid) xs ∙ sym (runs-Let (span_of ts mid) ys)) h)))

-- a statement
pub statement_small : (room : ℕ) (f g : List Lexeme → Read (Expr Span)) (inner : (ts : List Lexeme) → Together frames_of_expression unseen room (f ts) (g ts))
    (u v : List Lexeme → Read (List (Local Span))) (locals : (ts : List Lexeme) → Together (most frames_of_local) unseen room (u ts) (v ts))
    (a k : List Lexeme → Read (Expr Span)) (below : (ts : List Lexeme) → Together frames_of_expression unseen (pred room) (a ts) (k ts)) (ts : List Lexeme)
    → Together frames_of_statement runs room (statement_within room f u a ts) (statement_at any_pattern_at g v k ts)
unfolding statement_within statement_at
statement_small room f g inner u v locals a k below ts =
    together_if (begins_bind ts) _ _ _ _ (bind_small room f g inner u v locals a k below any_pattern_at ts)
    (together_if (sees m.Let ts) _ _ _ _ (let_statement_small room f g inner u v locals a k below any_pattern_at ts) (run_small room f g inner u v locals a k below any_pattern_at ts))

module _ (room : ℕ) (f g : List Lexeme → Read (Stmt Span)) (one : (ts : List Lexeme) → Together frames_of_statement runs room (f ts) (g ts)) where
  pub statements_small : (ts : List Lexeme) → Together (most frames_of_statement) (map runs) room (statements_at f ts) (statements_at g ts)
  unfolding statements_at
  statements_small ts =
      together_bind (block_at f ts) (block_at g ts) _ _ (block_together frames_of_statement runs room f g one ts)
      (λ xs ys rest h. together_when (ends_in_run xs) (ends_in_run ys) _ _ _ _ (ends_is xs ∙ ap last_is h.alike ∙ sym (ends_is ys)) (both xs ys rest h) neither)
