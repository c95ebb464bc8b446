-- The loops over lists of trees: one tree more, and the end of a list.
use Rattle.std.proofs.Common.{◌≡◌, ◌↔◌, ℕ, zero, suc, ◌+◌, ◌<◌, ◌≤◌, true, false, List, [], ◌∷◌, ◌++◌, map, drop, length, get_or, refl, sym, ◌∙◌, ap, subst, arith}
use Rattle.rw_tree.specs.declared.expr.Expr.{Expr}
use Rattle.rw_tree.specs.declared.clause.Alt.{Alt}
use Rattle.rw_tree.specs.declared.clause.Guard.{Guard}
use Rattle.rw_tree.specs.declared.clause.Local.{Local}
use Rattle.rw_tree.specs.declared.clause.Stmt.{Stmt}
use Rattle.rw_tree.specs.Types.{WrittenType}
use Rattle.rw_tree.specs.Trees.{Statement, expression, expression_parts, alternative_of, alternative_parts, guarded, body_parts, local_binding, binding_parts, statement, statement_parts}
use Rattle.rw_tree.proofs.Plains.{alternative-parts}
use Rattle.rw_scope_rules.specs.Names.{Bytes}
use Rattle.rw_types_solving.specs.Types.{Ty, apply}
use Rattle.rw_types_rules.specs.Words.{function}
use Rattle.rw_types_rules.specs.Written.{type_of}
use Rattle.rw_types_rules.specs.Schemes.{World}
use Rattle.rw_types_rules.specs.TypedTrees.{TypedNode, alternative_label, statement_locals, are_none}
use Rattle.rw_types_rules.specs.WellTyped.{ExpressionAgrees, ExpressionsAgree, ClauseAgrees, ClausesAgree, BodyAgrees, BodiesAgree, BindingAgrees, GroupAgrees, StatementAgrees, StatementsAgree}
use Rattle.rw_types_equations.specs.declared.numbered.Numbered.{Numbered}
use Rattle.rw_types_equations.specs.Numbered.{typed_by}
use Rattle.rw_types_equations.specs.declared.equation.Equation.{Equation}
use Rattle.rw_types_equations.specs.Equations.{Adds, Entered}
use Rattle.rw_types_equations.proofs.Adding.{Walked, walked_step}
use Rattle.rw_types_equations.proofs.Entering.{Longer, longer_same, longer_step, entered_types}
use Rattle.rw_types_equations.proofs.Rows.{mapped_next, mapped_none}

pub function_is : (u a b x y : Ty) → u ≡ function a b → a ≡ x → b ≡ y → u ≡ function x y
function_is u a b x y e p q = e ∙ ap (λ z. function z b) p ∙ ap (function x) q

pub written_as : (u : Ty) (xs ys : List (Bytes × ℕ)) (ns : List Bytes) (s : WrittenType) → u ≡ type_of xs ns s → xs ≡ ys → u ≡ type_of ys ns s
written_as u xs ys ns s e p = e ∙ ap (λ z. type_of z ns s) p

pub entered_from : (l k j : List ℕ) (X Y : (ℕ → Ty) → List Ty) → k ≡ l → Entered k j X → ((t : ℕ → Ty) → X t ≡ Y t) → Entered l j Y
entered_from l k j X Y p e f = record { more = e.more; kept = e.kept ∙ ap (λ z. z ++ e.more) p; names = λ t. e.names t ∙ f t }

pub entered_then : (l k j : List ℕ) (X Y : (ℕ → Ty) → List Ty) → Entered l k X → j ≡ k → ((t : ℕ → Ty) → X t ≡ Y t) → Entered l j Y
entered_then l k j X Y e p f = record { more = e.more; kept = p ∙ e.kept; names = λ t. e.names t ∙ f t }

module _ (w : World) where
  pub expressions_step : (l k : List ℕ) (xs : List (Expr Numbered)) (i : ℕ) (x : Expr Numbered) → k ≡ l → i < length xs → x ≡ get_or xs i x
      → (t : ℕ → Ty) → ExpressionsAgree w (map t l) (expression_parts (map (expression (typed_by t)) (drop i xs)))
      ↔ (ExpressionAgrees w (map t k) (expression (typed_by t) x) × ExpressionsAgree w (map t l) (expression_parts (map (expression (typed_by t)) (drop (i + 1) xs))))
  expressions_step l k xs i x o lt e t =
      let q = mapped_next (expression (typed_by t)) xs i x lt e in (
        (λ h. let g = subst (λ z. ExpressionsAgree w (map t l) (expression_parts z)) q h in (subst (λ z. ExpressionAgrees w (map t z) (expression (typed_by t) x)) (sym o) g.0, g.1)),
        (λ h. subst (λ z. ExpressionsAgree w (map t l) (expression_parts z)) (sym q) (subst (λ z. ExpressionAgrees w (map t z) (expression (typed_by t) x)) o h.0, h.1)),
      )

  pub expressions_done : (l : List ℕ) (xs : List (Expr Numbered)) (i : ℕ) → length xs ≤ i → (t : ℕ → Ty) → ExpressionsAgree w (map t l) (expression_parts (map (expression (typed_by t)) (drop i xs)))
  expressions_done l xs i lt t = subst (λ z. ExpressionsAgree w (map t l) (expression_parts z)) (sym (mapped_none (expression (typed_by t)) xs i lt)) tt

  label_is : (x : Alt Numbered) (t : ℕ → Ty) → (alternative_label (alternative_of (typed_by t) x)).type ≡ t x.at.number
  label_is x t = ap (λ z. (alternative_label {X = TypedNode} z).type) (alternative-parts (typed_by t) x)

  pub clauses_step : (l k : List ℕ) (u v : Ty) (xs : List (Alt Numbered)) (i : ℕ) (x : Alt Numbered) → k ≡ l → v ≡ u → i < length xs → x ≡ get_or xs i x
      → (t : ℕ → Ty) → ClausesAgree w (map t l) (apply t u) (alternative_parts (map (alternative_of (typed_by t)) (drop i xs)))
      ↔ (((t x.at.number ≡ apply t v) × ClauseAgrees w (map t k) (alternative_of (typed_by t) x)) × ClausesAgree w (map t l) (apply t u) (alternative_parts (map (alternative_of (typed_by t)) (drop (i + 1) xs))))
  clauses_step l k u v xs i x o c lt e t =
      let q = mapped_next (alternative_of (typed_by t)) xs i x lt e in (
        (λ h. let g = subst (λ z. ClausesAgree w (map t l) (apply t u) (alternative_parts z)) q h in ((sym (label_is x t) ∙ g.0 ∙ ap (apply t) (sym c), subst (λ z. ClauseAgrees w (map t z) (alternative_of (typed_by t) x)) (sym o) g.1), g.2)),
        (λ h. subst (λ z. ClausesAgree w (map t l) (apply t u) (alternative_parts z)) (sym q) (label_is x t ∙ h.0.0 ∙ ap (apply t) c, subst (λ z. ClauseAgrees w (map t z) (alternative_of (typed_by t) x)) o h.0.1, h.1)),
      )

  pub clauses_done : (l : List ℕ) (u : Ty) (xs : List (Alt Numbered)) (i : ℕ) → length xs ≤ i → (t : ℕ → Ty) → ClausesAgree w (map t l) (apply t u) (alternative_parts (map (alternative_of (typed_by t)) (drop i xs)))
  clauses_done l u xs i lt t = subst (λ z. ClausesAgree w (map t l) (apply t u) (alternative_parts z)) (sym (mapped_none (alternative_of (typed_by t)) xs i lt)) tt

  pub bodies_step : (l k : List ℕ) (from : List ℕ) (n : ℕ) (xs : List (Guard Numbered)) (i : ℕ) (x : Guard Numbered) → k ≡ l → i < length xs → x ≡ get_or xs i x
      → (t : ℕ → Ty) → BodiesAgree w (map t l) (map t from) (t n) (body_parts (map (guarded (typed_by t)) (drop i xs)))
      ↔ (BodyAgrees w (map t k) (map t from) (t n) (guarded (typed_by t) x) × BodiesAgree w (map t l) (map t from) (t n) (body_parts (map (guarded (typed_by t)) (drop (i + 1) xs))))
  bodies_step l k from n xs i x o lt e t =
      let q = mapped_next (guarded (typed_by t)) xs i x lt e in (
        (λ h. let g = subst (λ z. BodiesAgree w (map t l) (map t from) (t n) (body_parts z)) q h in (subst (λ z. BodyAgrees w (map t z) (map t from) (t n) (guarded (typed_by t) x)) (sym o) g.0, g.1)),
        (λ h. subst (λ z. BodiesAgree w (map t l) (map t from) (t n) (body_parts z)) (sym q) (subst (λ z. BodyAgrees w (map t z) (map t from) (t n) (guarded (typed_by t) x)) o h.0, h.1)),
      )

  pub bodies_done : (l from : List ℕ) (n : ℕ) (xs : List (Guard Numbered)) (i : ℕ) → length xs ≤ i → (t : ℕ → Ty) → BodiesAgree w (map t l) (map t from) (t n) (body_parts (map (guarded (typed_by t)) (drop i xs)))
  bodies_done l from n xs i lt t = subst (λ z. BodiesAgree w (map t l) (map t from) (t n) (body_parts z)) (sym (mapped_none (guarded (typed_by t)) xs i lt)) tt

  pub group_step : (l k : List ℕ) (xs : List (Local Numbered)) (i : ℕ) (x : Local Numbered) → k ≡ l → i < length xs → x ≡ get_or xs i x
      → (t : ℕ → Ty) → GroupAgrees w (map t l) (binding_parts (map (local_binding (typed_by t)) (drop i xs)))
      ↔ (BindingAgrees w (map t k) (local_binding (typed_by t) x) × GroupAgrees w (map t l) (binding_parts (map (local_binding (typed_by t)) (drop (i + 1) xs))))
  group_step l k xs i x o lt e t =
      let q = mapped_next (local_binding (typed_by t)) xs i x lt e in (
        (λ h. let g = subst (λ z. GroupAgrees w (map t l) (binding_parts z)) q h in (subst (λ z. BindingAgrees w (map t z) (local_binding (typed_by t) x)) (sym o) g.0, g.1)),
        (λ h. subst (λ z. GroupAgrees w (map t l) (binding_parts z)) (sym q) (subst (λ z. BindingAgrees w (map t z) (local_binding (typed_by t) x)) o h.0, h.1)),
      )

  pub group_done : (l : List ℕ) (xs : List (Local Numbered)) (i : ℕ) → length xs ≤ i → (t : ℕ → Ty) → GroupAgrees w (map t l) (binding_parts (map (local_binding (typed_by t)) (drop i xs)))
  group_done l xs i lt t = subst (λ z. GroupAgrees w (map t l) (binding_parts z)) (sym (mapped_none (local_binding (typed_by t)) xs i lt)) tt

  -- statements
  some_left : {A B : Type 0} (f : A → Statement B) (xs : List A) (i : ℕ) → i < length xs → are_none (statement_parts (map f (drop i xs))) ≡ false
  some_left f [] i lt = absurd (omega arith)
  some_left f (x ∷ xs) zero lt = refl
  some_left f (x ∷ xs) (suc i) lt = some_left f xs i (omega arith)

  none_left : {A B : Type 0} (f : A → Statement B) (xs : List A) (i : ℕ) → length xs ≤ i → are_none (statement_parts (map f (drop i xs))) ≡ true
  none_left f xs i lt = ap (λ z. are_none (statement_parts z)) (mapped_none f xs i lt)

  pub last_step : (l k : List ℕ) (n : ℕ) (xs : List (Stmt Numbered)) (i : ℕ) (x : Stmt Numbered) → k ≡ l → i + 1 ≡ length xs → i < length xs → x ≡ get_or xs i x
      → (t : ℕ → Ty) → StatementsAgree w (map t l) (t n) (statement_parts (map (statement (typed_by t)) (drop i xs)))
      ↔ (StatementAgrees w (map t l) (t n) true (statement (typed_by t) x) × StatementsAgree w (map t k) (t n) (statement_parts (map (statement (typed_by t)) (drop (i + 1) xs))))
  last_step l k n xs i x o last lt e t =
      let see = typed_by t in
      let q = mapped_next (statement see) xs i x lt e in
      let r = mapped_none (statement see) xs (i + 1) (omega arith) in
      let s = none_left (statement see) xs (i + 1) (omega arith) in (
        (λ h. let g = subst (λ z. StatementsAgree w (map t l) (t n) (statement_parts z)) q h in (subst (λ z. StatementAgrees w (map t l) (t n) z (statement see x)) s g.0, subst (λ z. StatementsAgree w (map t k) (t n) (statement_parts z)) (sym r) tt)),
        (λ h. subst (λ z. StatementsAgree w (map t l) (t n) (statement_parts z)) (sym q) (subst (λ z. StatementAgrees w (map t l) (t n) z (statement see x)) (sym s) h.0, subst (λ z. StatementsAgree w (map t l ++ statement_locals (statement see x)) (t n) (statement_parts z)) (sym r) tt)),
      )

  pub statement_step : (l k : List ℕ) (n : ℕ) (xs : List (Stmt Numbered)) (i : ℕ) (x : Stmt Numbered) → Entered l k (λ t. statement_locals (statement (typed_by t) x)) → (i + 1 ≡ length xs → ⊥) → i < length xs → x ≡ get_or xs i x
      → (t : ℕ → Ty) → StatementsAgree w (map t l) (t n) (statement_parts (map (statement (typed_by t)) (drop i xs)))
      ↔ (StatementAgrees w (map t l) (t n) false (statement (typed_by t) x) × StatementsAgree w (map t k) (t n) (statement_parts (map (statement (typed_by t)) (drop (i + 1) xs))))
  statement_step l k n xs i x o more lt e t =
      let see = typed_by t in
      let q = mapped_next (statement see) xs i x lt e in
      let s = some_left (statement see) xs (i + 1) (omega arith) in
      let types = entered_types l k (λ t. statement_locals (statement (typed_by t) x)) o t in
      let rest = statement_parts (map (statement see) (drop (i + 1) xs)) in (
        (λ h. let g = subst (λ z. StatementsAgree w (map t l) (t n) (statement_parts z)) q h in (subst (λ z. StatementAgrees w (map t l) (t n) z (statement see x)) s g.0, subst (λ z. StatementsAgree w z (t n) rest) (sym types) g.1)),
        (λ h. subst (λ z. StatementsAgree w (map t l) (t n) (statement_parts z)) (sym q) (subst (λ z. StatementAgrees w (map t l) (t n) z (statement see x)) (sym s) h.0, subst (λ z. StatementsAgree w z (t n) rest) types h.1)),
      )

  pub statements_done : (l : List ℕ) (n : ℕ) (xs : List (Stmt Numbered)) (i : ℕ) → length xs ≤ i → (t : ℕ → Ty) → StatementsAgree w (map t l) (t n) (statement_parts (map (statement (typed_by t)) (drop i xs)))
  statements_done l n xs i lt t = subst (λ z. StatementsAgree w (map t l) (t n) (statement_parts z)) (sym (mapped_none (statement (typed_by t)) xs i lt)) tt

  -- what the loop over statements keeps, after the last one and after another
  pub last_kept : (outer l k k2 : List ℕ) (old now next next2 : List Equation) (Whole : (ℕ → Ty) → Type 0) (n : ℕ) (xs : List (Stmt Numbered)) (i : ℕ) (x : Stmt Numbered)
      → Walked old now Whole (λ t. StatementsAgree w (map t l) (t n) (statement_parts (map (statement (typed_by t)) (drop i xs)))) → Longer outer l
      → Adds now next (λ t. StatementAgrees w (map t l) (t n) true (statement (typed_by t) x)) → k ≡ l → next2 ≡ next → k2 ≡ k → i + 1 ≡ length xs → i < length xs → x ≡ get_or xs i x
      → Walked old next2 Whole (λ t. StatementsAgree w (map t k2) (t n) (statement_parts (map (statement (typed_by t)) (drop (i + 1) xs)))) × Longer outer k2
  last_kept outer l k k2 old now next next2 Whole n xs i x a b c o p q last lt e =
      let d = subst (λ z. Adds now z (λ t. StatementAgrees w (map t l) (t n) true (statement (typed_by t) x))) (sym p) c in
      (walked_step _ _ _ _ _ _ _ a d (last_step l k2 n xs i x (q ∙ o) last lt e), longer_same outer l k2 b (q ∙ o))

  pub statement_kept : (outer l k k2 : List ℕ) (old now next next2 : List Equation) (Whole : (ℕ → Ty) → Type 0) (n : ℕ) (xs : List (Stmt Numbered)) (i : ℕ) (x : Stmt Numbered)
      → Walked old now Whole (λ t. StatementsAgree w (map t l) (t n) (statement_parts (map (statement (typed_by t)) (drop i xs)))) → Longer outer l
      → Adds now next (λ t. StatementAgrees w (map t l) (t n) false (statement (typed_by t) x)) → Entered l k (λ t. statement_locals (statement (typed_by t) x)) → next2 ≡ next → k2 ≡ k → (i + 1 ≡ length xs → ⊥) → i < length xs → x ≡ get_or xs i x
      → Walked old next2 Whole (λ t. StatementsAgree w (map t k2) (t n) (statement_parts (map (statement (typed_by t)) (drop (i + 1) xs)))) × Longer outer k2
  statement_kept outer l k k2 old now next next2 Whole n xs i x a b c o p q more lt e =
      let d = subst (λ z. Adds now z (λ t. StatementAgrees w (map t l) (t n) false (statement (typed_by t) x))) (sym p) c in
      let s = entered_then l k k2 (λ t. statement_locals (statement (typed_by t) x)) (λ t. statement_locals (statement (typed_by t) x)) o q (λ t. refl) in
      (walked_step _ _ _ _ _ _ _ a d (statement_step l k2 n xs i x s more lt e), longer_step outer l k2 _ b s)
