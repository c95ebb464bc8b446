-- What expressions of each kind agree in.
use Rattle.std.proofs.Common.{◌≡◌, ◌↔◌, ℕ, List, map, sym, ◌∙◌, ap, subst}
use Rattle.rw_tree.specs.declared.pattern.Pat.{Pat}
use Rattle.rw_tree.specs.declared.expr.Expr.{Expr}
use Rattle.rw_tree.specs.declared.expr.Expr.TheVariants as expr
use Rattle.rw_tree.specs.declared.clause.Local.{Local}
use Rattle.rw_tree.specs.declared.clause.Alt.{Alt}
use Rattle.rw_tree.specs.declared.clause.Stmt.{Stmt}
use Rattle.rw_tree.specs.Patterns.{patterns}
use Rattle.rw_tree.specs.Trees.{Expression, application, tuple, lambda, let_in, if_then_else, case_of, do_block, expression, expression_parts, alternative_of, alternative_parts, local_binding, binding_parts, statement, statement_parts}
use Rattle.rw_tree.proofs.Plains.{expression-Var, expression-Con, expression-Apply, expression-Tuple, expression-Chain, expression-Lambda, expression-Let, expression-If, expression-Case, expression-Do}
use Rattle.rw_types_solving.specs.Types.{Ty, var, apply}
use Rattle.rw_types_rules.specs.Words.{function, functions, tuple_type}
use Rattle.rw_types_rules.specs.Schemes.{World, scheme_at, bool_type}
use Rattle.rw_types_rules.specs.TypedTrees.{TypedNode, row_types, expression_type, expressions_types, row_locals, group_locals}
use Rattle.rw_types_rules.specs.WellTyped.{IsInstance, NameAgrees, RowAgrees, ExpressionAgrees, ExpressionsAgree, ClausesAgree, GroupAgrees, StatementsAgree}
use Rattle.rw_types_equations.specs.declared.numbered.Numbered.{Numbered}
use Rattle.rw_types_equations.specs.Numbered.{typed_by, argument_numbers}
use Rattle.rw_types_equations.specs.Equations.{Entered}
use Rattle.rw_types_equations.proofs.Instances.{tuple_at}
use Rattle.rw_types_equations.proofs.Entering.{entered_types}

-- the types of variables, under an assignment
pub functions_are : (t : ℕ → Ty) (ms ns : List ℕ) (n : ℕ) (types : List Ty) → ms ≡ ns → types ≡ map t ns → functions (map t ms) (t n) ≡ functions types (t n)
functions_are t ms ns n types m f = ap (λ z. functions z (t n)) (ap (map t) m ∙ sym f)

pub tuple_are : (t : ℕ → Ty) (u : Ty) (ms ns : List ℕ) (types : List Ty) → u ≡ tuple_type (map var ms) → ms ≡ ns → types ≡ map t ns → apply t u ≡ tuple_type types
tuple_are t u ms ns types e m f = ap (apply t) e ∙ tuple_at t ms ∙ ap tuple_type (ap (map t) m ∙ sym f)

module _ (w : World) where
  -- what an expression agrees in, as its plain form says
  from_plain : (ls : List Ty) (x y : Expression TypedNode) → x ≡ y → ExpressionAgrees w ls x → ExpressionAgrees w ls y
  from_plain ls x y e h = subst (λ z. ExpressionAgrees w ls z) e h

  to_plain : (ls : List Ty) (x y : Expression TypedNode) → x ≡ y → ExpressionAgrees w ls y → ExpressionAgrees w ls x
  to_plain ls x y e h = subst (λ z. ExpressionAgrees w ls z) (sym e) h

  -- the same local names
  pub here_expression : (t : ℕ → Ty) (l k : List ℕ) (x : Expression TypedNode) → l ≡ k → ExpressionAgrees w (map t l) x ↔ ExpressionAgrees w (map t k) x
  here_expression t l k x e = ((λ h. subst (λ z. ExpressionAgrees w (map t z) x) e h), (λ h. subst (λ z. ExpressionAgrees w (map t z) x) (sym e) h))

  -- local names that were bound
  inside_expression : (ls ks : List Ty) (x : Expression TypedNode) → ls ≡ ks → ExpressionAgrees w ls x ↔ ExpressionAgrees w ks x
  inside_expression ls ks x e = ((λ h. subst (λ z. ExpressionAgrees w z x) e h), (λ h. subst (λ z. ExpressionAgrees w z x) (sym e) h))

  pub is_variable : (l : List ℕ) (E : Expr Numbered) (a : Numbered) (n : List ℕ) → E ≡ expr.Var a n
      → (t : ℕ → Ty) → NameAgrees w (map t l) a.node.bound (typed_by t a) ↔ ExpressionAgrees w (map t l) (expression (typed_by t) E)
  is_variable l E a n e t =
      let p = ap (expression (typed_by t)) e ∙ expression-Var (typed_by t) a n in
      ((λ h. to_plain (map t l) _ _ p h), (λ h. from_plain (map t l) _ _ p h))

  pub is_constructor : (l : List ℕ) (E : Expr Numbered) (a : Numbered) (n : List ℕ) → E ≡ expr.Con a n
      → (t : ℕ → Ty) → IsInstance (scheme_at w a.node.bound) (map t (argument_numbers a)) (t a.number) ↔ ExpressionAgrees w (map t l) (expression (typed_by t) E)
  is_constructor l E a n e t =
      let p = ap (expression (typed_by t)) e ∙ expression-Con (typed_by t) a n in
      ((λ h. to_plain (map t l) _ _ p h), (λ h. from_plain (map t l) _ _ p h))

  pub is_chain : (l : List ℕ) (E : Expr Numbered) (a : Numbered) (xs os : List (Expr Numbered)) → E ≡ expr.Chain a xs os
      → (t : ℕ → Ty) → ⊥ ↔ ExpressionAgrees w (map t l) (expression (typed_by t) E)
  is_chain l E a xs os e t =
      let p = ap (expression (typed_by t)) e ∙ expression-Chain (typed_by t) a xs os in
      ((λ h. absurd h), (λ h. from_plain (map t l) _ _ p h))

  pub is_application : (l k : List ℕ) (E : Expr Numbered) (a : Numbered) (h g : Expr Numbered) (xs ys : List (Expr Numbered)) (n : ℕ) (ms ns : List ℕ)
      → E ≡ expr.Apply a h xs → g ≡ h → ys ≡ xs → k ≡ l → ((t : ℕ → Ty) → expression_type (expression (typed_by t) g) ≡ t n)
      → ((t : ℕ → Ty) → expressions_types (expression_parts (map (expression (typed_by t)) ys)) ≡ map t ns) → ms ≡ ns
      → (t : ℕ → Ty) → (((t n ≡ functions (map t ms) (t a.number)) × ExpressionAgrees w (map t l) (expression (typed_by t) g)) × ExpressionsAgree w (map t k) (expression_parts (map (expression (typed_by t)) ys)))
      ↔ ExpressionAgrees w (map t l) (expression (typed_by t) E)
  is_application l k E a h g xs ys n ms ns e p q r f fs m t =
      let see = typed_by t in
      let path : expression see E ≡ application (see a) (expression see g) (expression_parts (map (expression see) ys)) =
      ap (expression see) e ∙ expression-Apply see a h xs ∙ ap (λ z. application (see a) (expression see z) (expression_parts (map (expression see) xs))) (sym p)
      ∙ ap (λ z. application (see a) (expression see g) (expression_parts (map (expression see) z))) (sym q) in
      let c = functions_are t ms ns a.number _ m (fs t) in (
        (λ x. to_plain (map t l) _ _ path (f t ∙ x.0.0 ∙ c, x.0.1, subst (λ z. ExpressionsAgree w (map t z) (expression_parts (map (expression see) ys))) r x.1)),
        (λ x. let y = from_plain (map t l) _ _ path x in ((sym (f t) ∙ y.0 ∙ sym c, y.1), subst (λ z. ExpressionsAgree w (map t z) (expression_parts (map (expression see) ys))) (sym r) y.2)),
      )

  pub is_tuple : (l : List ℕ) (E : Expr Numbered) (a : Numbered) (xs ys : List (Expr Numbered)) (ms ns : List ℕ) (u : Ty)
      → E ≡ expr.Tuple a xs → ys ≡ xs → ((t : ℕ → Ty) → expressions_types (expression_parts (map (expression (typed_by t)) ys)) ≡ map t ns) → ms ≡ ns → u ≡ tuple_type (map var ms)
      → (t : ℕ → Ty) → ((t a.number ≡ apply t u) × ExpressionsAgree w (map t l) (expression_parts (map (expression (typed_by t)) ys))) ↔ ExpressionAgrees w (map t l) (expression (typed_by t) E)
  is_tuple l E a xs ys ms ns u e q fs m v t =
      let see = typed_by t in
      let path : expression see E ≡ tuple (see a) (expression_parts (map (expression see) ys)) =
      ap (expression see) e ∙ expression-Tuple see a xs ∙ ap (λ z. tuple (see a) (expression_parts (map (expression see) z))) (sym q) in
      let c = tuple_are t u ms ns _ v m (fs t) in (
        (λ x. to_plain (map t l) _ _ path (x.0 ∙ c, x.1)),
        (λ x. let y = from_plain (map t l) _ _ path x in (y.0 ∙ sym c, y.1)),
      )

  pub is_lambda : (l k : List ℕ) (E : Expr Numbered) (a : Numbered) (ps qs : List (Pat Numbered)) (b d : Expr Numbered) (n : ℕ) (ms ns : List ℕ)
      → E ≡ expr.Lambda a ps b → qs ≡ ps → d ≡ b → Entered l k (λ t. row_locals (patterns (typed_by t) qs)) → ((t : ℕ → Ty) → expression_type (expression (typed_by t) d) ≡ t n)
      → ((t : ℕ → Ty) → row_types (patterns (typed_by t) qs) ≡ map t ns) → ms ≡ ns
      → (t : ℕ → Ty) → (((t a.number ≡ functions (map t ms) (t n)) × RowAgrees w (patterns (typed_by t) qs)) × ExpressionAgrees w (map t k) (expression (typed_by t) d)) ↔ ExpressionAgrees w (map t l) (expression (typed_by t) E)
  is_lambda l k E a ps qs b d n ms ns e p q r f fs m t =
      let see = typed_by t in
      let path : expression see E ≡ lambda (see a) (patterns see qs) (expression see d) =
      ap (expression see) e ∙ expression-Lambda see a ps b ∙ ap (λ z. lambda (see a) (patterns see z) (expression see b)) (sym p) ∙ ap (λ z. lambda (see a) (patterns see qs) (expression see z)) (sym q) in
      let c = functions_are t ms ns n _ m (fs t) ∙ ap (functions (row_types (patterns see qs))) (sym (f t)) in
      let i = inside_expression _ _ (expression see d) (entered_types l k (λ t. row_locals (patterns (typed_by t) qs)) r t) in (
        (λ x. to_plain (map t l) _ _ path (x.0.0 ∙ c, x.0.1, i.0 x.1)),
        (λ x. let y = from_plain (map t l) _ _ path x in ((y.0 ∙ sym c, y.1), i.1 y.2)),
      )

  pub is_let : (l k j : List ℕ) (E : Expr Numbered) (a : Numbered) (gs hs : List (Local Numbered)) (b d : Expr Numbered) (n : ℕ)
      → E ≡ expr.Let a gs b → hs ≡ gs → d ≡ b → Entered l k (λ t. group_locals (binding_parts (map (local_binding (typed_by t)) hs))) → j ≡ k → ((t : ℕ → Ty) → expression_type (expression (typed_by t) d) ≡ t n)
      → (t : ℕ → Ty) → (((t a.number ≡ t n) × GroupAgrees w (map t k) (binding_parts (map (local_binding (typed_by t)) hs))) × ExpressionAgrees w (map t j) (expression (typed_by t) d)) ↔ ExpressionAgrees w (map t l) (expression (typed_by t) E)
  is_let l k j E a gs hs b d n e p q r o f t =
      let see = typed_by t in
      let group = binding_parts (map (local_binding see) hs) in
      let path : expression see E ≡ let_in (see a) group (expression see d) =
      ap (expression see) e ∙ expression-Let see a gs b ∙ ap (λ z. let_in (see a) (binding_parts (map (local_binding see) z)) (expression see b)) (sym p) ∙ ap (λ z. let_in (see a) group (expression see z)) (sym q) in
      let types = entered_types l k (λ t. group_locals (binding_parts (map (local_binding (typed_by t)) hs))) r t in
      let i = inside_expression _ _ (expression see d) (ap (map t) o ∙ types) in (
        (λ x. to_plain (map t l) _ _ path (x.0.0 ∙ sym (f t), subst (λ z. GroupAgrees w z group) types x.0.1, i.0 x.1)),
        (λ x. let y = from_plain (map t l) _ _ path x in ((y.0 ∙ f t, subst (λ z. GroupAgrees w z group) (sym types) y.1), i.1 y.2)),
      )

  pub is_if : (l k j : List ℕ) (E : Expr Numbered) (a : Numbered) (x0 y0 z0 x y z : Expr Numbered) (xn yn zn : ℕ) (u : Ty)
      → E ≡ expr.If a x0 y0 z0 → x ≡ x0 → y ≡ y0 → z ≡ z0 → k ≡ l → j ≡ k
      → ((t : ℕ → Ty) → expression_type (expression (typed_by t) x) ≡ t xn) → ((t : ℕ → Ty) → expression_type (expression (typed_by t) y) ≡ t yn) → ((t : ℕ → Ty) → expression_type (expression (typed_by t) z) ≡ t zn)
      → u ≡ bool_type w → ((t : ℕ → Ty) → apply t (bool_type w) ≡ bool_type w)
      → (t : ℕ → Ty) → ((((((t xn ≡ apply t u) × (t a.number ≡ t yn)) × (t a.number ≡ t zn)) × ExpressionAgrees w (map t l) (expression (typed_by t) x)) × ExpressionAgrees w (map t k) (expression (typed_by t) y)) × ExpressionAgrees w (map t j) (expression (typed_by t) z))
      ↔ ExpressionAgrees w (map t l) (expression (typed_by t) E)
  is_if l k j E a x0 y0 z0 x y z xn yn zn u e p q r o m fx fy fz v b t =
      let see = typed_by t in
      let path : expression see E ≡ if_then_else (see a) (expression see x) (expression see y) (expression see z) =
      ap (expression see) e ∙ expression-If see a x0 y0 z0 ∙ ap (λ v. if_then_else (see a) (expression see v) (expression see y0) (expression see z0)) (sym p)
      ∙ ap (λ v. if_then_else (see a) (expression see x) (expression see v) (expression see z0)) (sym q) ∙ ap (λ v. if_then_else (see a) (expression see x) (expression see y) (expression see v)) (sym r) in
      let c : apply t u ≡ bool_type w = ap (apply t) v ∙ b t in
      let first = here_expression t k l (expression see y) o in
      let second = here_expression t j l (expression see z) (m ∙ o) in (
        (λ h. to_plain (map t l) _ _ path ((fx t ∙ h.0.0.0.0.0 ∙ c, h.0.0.0.0.1 ∙ sym (fy t), h.0.0.0.1 ∙ sym (fz t)), h.0.0.1, first.0 h.0.1, second.0 h.1)),
        (λ h. let g = from_plain (map t l) _ _ path h in (((((sym (fx t) ∙ g.0.0 ∙ sym c, g.0.1 ∙ fy t), g.0.2 ∙ fz t), g.1), first.1 g.2), second.1 g.3)),
      )

  pub is_case : (l k : List ℕ) (E : Expr Numbered) (a : Numbered) (s0 s : Expr Numbered) (rs qs : List (Alt Numbered)) (n : ℕ) (u : Ty)
      → E ≡ expr.Case a s0 rs → s ≡ s0 → qs ≡ rs → k ≡ l → ((t : ℕ → Ty) → expression_type (expression (typed_by t) s) ≡ t n) → u ≡ function (var n) (var a.number)
      → (t : ℕ → Ty) → (ExpressionAgrees w (map t l) (expression (typed_by t) s) × ClausesAgree w (map t k) (apply t u) (alternative_parts (map (alternative_of (typed_by t)) qs)))
      ↔ ExpressionAgrees w (map t l) (expression (typed_by t) E)
  is_case l k E a s0 s rs qs n u e p q o f v t =
      let see = typed_by t in
      let rows = alternative_parts (map (alternative_of see) qs) in
      let path : expression see E ≡ case_of (see a) (expression see s) rows =
      ap (expression see) e ∙ expression-Case see a s0 rs ∙ ap (λ z. case_of (see a) (expression see z) (alternative_parts (map (alternative_of see) rs))) (sym p)
      ∙ ap (λ z. case_of (see a) (expression see s) (alternative_parts (map (alternative_of see) z))) (sym q) in
      let c : apply t u ≡ function (expression_type (expression see s)) (t a.number) = ap (apply t) v ∙ ap (λ z. function z (t a.number)) (sym (f t)) in (
        (λ h. to_plain (map t l) _ _ path (h.0, subst (λ z. ClausesAgree w (map t l) z rows) c (subst (λ z. ClausesAgree w (map t z) (apply t u) rows) o h.1))),
        (λ h. let g = from_plain (map t l) _ _ path h in (g.0, subst (λ z. ClausesAgree w (map t z) (apply t u) rows) (sym o) (subst (λ z. ClausesAgree w (map t l) z rows) (sym c) g.1))),
      )

  pub is_do : (l : List ℕ) (E : Expr Numbered) (a : Numbered) (ss rs : List (Stmt Numbered)) → E ≡ expr.Do a ss → rs ≡ ss
      → (t : ℕ → Ty) → StatementsAgree w (map t l) (t a.number) (statement_parts (map (statement (typed_by t)) rs)) ↔ ExpressionAgrees w (map t l) (expression (typed_by t) E)
  is_do l E a ss rs e q t =
      let see = typed_by t in
      let path : expression see E ≡ do_block (see a) (statement_parts (map (statement see) rs)) =
      ap (expression see) e ∙ expression-Do see a ss ∙ ap (λ z. do_block (see a) (statement_parts (map (statement see) z))) (sym q) in
      ((λ h. to_plain (map t l) _ _ path h), (λ h. from_plain (map t l) _ _ path h))
