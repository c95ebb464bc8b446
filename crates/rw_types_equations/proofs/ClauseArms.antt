-- What clauses, right sides, local bindings and statements agree in.
use Rattle.std.proofs.Common.{◌≡◌, ◌↔◌, ℕ, Bool, true, false, List, [], ◌∷◌, ◌++◌, map, refl, sym, ◌∙◌, ap, subst}
use Rattle.std.proofs.lemmas.List.{map-append}
use Rattle.rw_scope_rules.specs.Bindings.{binding_variables, group_variables}
use Rattle.rw_tree.specs.declared.pattern.Pat.{Pat}
use Rattle.rw_tree.specs.declared.expr.Expr.{Expr}
use Rattle.rw_tree.specs.declared.clause.Local.{Local}
use Rattle.rw_tree.specs.declared.clause.Local.TheVariants as local
use Rattle.rw_tree.specs.declared.clause.Alt.{Alt}
use Rattle.rw_tree.specs.declared.clause.Rhs.{Rhs}
use Rattle.rw_tree.specs.declared.clause.Rhs.TheVariants as rhs
use Rattle.rw_tree.specs.declared.clause.Guard.{Guard}
use Rattle.rw_tree.specs.declared.clause.Stmt.{Stmt}
use Rattle.rw_tree.specs.declared.clause.Stmt.TheVariants as stmt
use Rattle.rw_tree.specs.declared.types.Written.{Written}
use Rattle.rw_tree.specs.Types.{written}
use Rattle.rw_tree.specs.Patterns.{pattern, patterns}
use Rattle.rw_tree.specs.Trees.{alternative, plain_side, guarded_side, LocalBinding, local_signature, local_function, local_pattern, Statement, bind_statement, let_statement, run_statement}
use Rattle.rw_tree.specs.Trees.{expression, alternative_of, alternative_parts, right_side, guarded, body_parts, local_binding, binding_parts, statement}
use Rattle.rw_tree.proofs.Plains.{alternative-parts, right_side-Plain, right_side-Guarded, guarded-parts, local_binding-Sig, local_binding-Fun, local_binding-Pattern, statement-Bind, statement-Let, statement-Run}
use Rattle.rw_types_solving.specs.Types.{Ty, var, apply}
use Rattle.rw_types_rules.specs.Words.{functions}
use Rattle.rw_types_rules.specs.Written.{type_of}
use Rattle.rw_types_rules.specs.Schemes.{World, bool_type}
use Rattle.rw_types_rules.specs.TypedTrees.{TypedNode, pattern_type, row_types, expression_type, pattern_locals, row_locals, binding_locals, group_locals, statement_locals}
use Rattle.rw_types_rules.specs.WellTyped.{IsBind, IsThen, IsSigned, PatternAgrees, RowAgrees, ExpressionAgrees, ClauseAgrees, ClausesAgree, SideAgrees, BodyAgrees, BodiesAgree, BindingAgrees, BoundPatternAgrees, GroupAgrees, StatementAgrees}
use Rattle.rw_types_equations.specs.declared.numbered.Numbered.{Numbered}
use Rattle.rw_types_equations.specs.Numbered.{typed_by, argument_numbers}
use Rattle.rw_types_equations.specs.Equations.{Entered}
use Rattle.rw_types_equations.proofs.Entering.{entered_types}
use Rattle.rw_types_equations.proofs.ExprArms.{here_expression}

-- the form of a clause
clause_is : (C : Alt Numbered) (qs : List (Pat Numbered)) (ws : List (Local Numbered)) → qs ≡ C.pats → ws ≡ C.wheres
    → (t : ℕ → Ty) → alternative_of (typed_by t) C ≡ alternative (typed_by t C.at) (patterns (typed_by t) qs) (right_side (typed_by t) C.rhs) (binding_parts (map (local_binding (typed_by t)) ws))
clause_is C qs ws p q t =
    let see = typed_by t in
    alternative-parts see C ∙ ap (λ z. alternative (see C.at) (patterns see z) (right_side see C.rhs) (binding_parts (map (local_binding see) C.wheres))) (sym p)
    ∙ ap (λ z. alternative (see C.at) (patterns see qs) (right_side see C.rhs) (binding_parts (map (local_binding see) z))) (sym q)

module _ (w : World) where
  pub is_clause : (l k j i : List ℕ) (C : Alt Numbered) (qs : List (Pat Numbered)) (ws : List (Local Numbered)) (ms ns : List ℕ)
      → qs ≡ C.pats → ws ≡ C.wheres → Entered l k (λ t. row_locals (patterns (typed_by t) qs)) → Entered k j (λ t. group_locals (binding_parts (map (local_binding (typed_by t)) ws))) → i ≡ j
      → ((t : ℕ → Ty) → row_types (patterns (typed_by t) qs) ≡ map t ns) → ms ≡ ns
      → (t : ℕ → Ty) → ((RowAgrees w (patterns (typed_by t) qs) × SideAgrees w (map t j) (map t ms) (t C.at.number) (right_side (typed_by t) C.rhs)) × GroupAgrees w (map t i) (binding_parts (map (local_binding (typed_by t)) ws)))
      ↔ ClauseAgrees w (map t l) (alternative_of (typed_by t) C)
  is_clause l k j i C qs ws ms ns p q r s o f m t =
      let see = typed_by t in
      let group = binding_parts (map (local_binding see) ws) in
      let path = clause_is C qs ws p q t in
      let outer : map t j ≡ (map t l ++ row_locals (patterns see qs)) ++ group_locals group =
      entered_types k j (λ t. group_locals (binding_parts (map (local_binding (typed_by t)) ws))) s t ∙ ap (λ z. z ++ group_locals group) (entered_types l k (λ t. row_locals (patterns (typed_by t) qs)) r t) in
      let inner : map t i ≡ (map t l ++ row_locals (patterns see qs)) ++ group_locals group = ap (map t) o ∙ outer in
      let from : map t ms ≡ row_types (patterns see qs) = ap (map t) m ∙ sym (f t) in (
        (λ h. subst (λ z. ClauseAgrees w (map t l) z) (sym path) (h.0.0, subst (λ z. SideAgrees w z (row_types (patterns see qs)) (t C.at.number) (right_side see C.rhs)) outer (subst (λ z. SideAgrees w (map t j) z (t C.at.number) (right_side see C.rhs)) from h.0.1), subst (λ z. GroupAgrees w z group) inner h.1)),
        (λ h. let g = subst (λ z. ClauseAgrees w (map t l) z) path h in ((g.0, subst (λ z. SideAgrees w (map t j) z (t C.at.number) (right_side see C.rhs)) (sym from) (subst (λ z. SideAgrees w z (row_types (patterns see qs)) (t C.at.number) (right_side see C.rhs)) (sym outer) g.1)), subst (λ z. GroupAgrees w z group) (sym inner) g.2)),
      )

  pub is_plain_side : (l : List ℕ) (S : Rhs Numbered) (b d : Expr Numbered) (from : List ℕ) (n m : ℕ) → S ≡ rhs.Plain b → d ≡ b → ((t : ℕ → Ty) → expression_type (expression (typed_by t) d) ≡ t m)
      → (t : ℕ → Ty) → ((t n ≡ functions (map t from) (t m)) × ExpressionAgrees w (map t l) (expression (typed_by t) d)) ↔ SideAgrees w (map t l) (map t from) (t n) (right_side (typed_by t) S)
  is_plain_side l S b d from n m e p f t =
      let see = typed_by t in
      let path : right_side see S ≡ plain_side (expression see d) = ap (right_side see) e ∙ right_side-Plain see b ∙ ap (λ z. plain_side (expression see z)) (sym p) in
      let c = ap (functions (map t from)) (sym (f t)) in (
        (λ h. subst (λ z. SideAgrees w (map t l) (map t from) (t n) z) (sym path) (h.0 ∙ c, h.1)),
        (λ h. let g = subst (λ z. SideAgrees w (map t l) (map t from) (t n) z) path h in (g.0 ∙ sym c, g.1)),
      )

  pub is_guarded_side : (l : List ℕ) (S : Rhs Numbered) (gs hs : List (Guard Numbered)) (from : List ℕ) (n : ℕ) → S ≡ rhs.Guarded gs → hs ≡ gs
      → (t : ℕ → Ty) → BodiesAgree w (map t l) (map t from) (t n) (body_parts (map (guarded (typed_by t)) hs)) ↔ SideAgrees w (map t l) (map t from) (t n) (right_side (typed_by t) S)
  is_guarded_side l S gs hs from n e p t =
      let see = typed_by t in
      let path : right_side see S ≡ guarded_side (body_parts (map (guarded see) hs)) = ap (right_side see) e ∙ right_side-Guarded see gs ∙ ap (λ z. guarded_side (body_parts (map (guarded see) z))) (sym p) in (
        (λ h. subst (λ z. SideAgrees w (map t l) (map t from) (t n) z) (sym path) h),
        (λ h. subst (λ z. SideAgrees w (map t l) (map t from) (t n) z) path h),
      )

  pub is_body : (l k : List ℕ) (G : Guard Numbered) (from : List ℕ) (n m i : ℕ) (u : Ty) → k ≡ l
      → ((t : ℕ → Ty) → expression_type (expression (typed_by t) G.test) ≡ t m) → ((t : ℕ → Ty) → expression_type (expression (typed_by t) G.body) ≡ t i)
      → u ≡ bool_type w → ((t : ℕ → Ty) → apply t (bool_type w) ≡ bool_type w)
      → (t : ℕ → Ty) → ((((t m ≡ apply t u) × (t n ≡ functions (map t from) (t i))) × ExpressionAgrees w (map t l) (expression (typed_by t) G.test)) × ExpressionAgrees w (map t k) (expression (typed_by t) G.body))
      ↔ BodyAgrees w (map t l) (map t from) (t n) (guarded (typed_by t) G)
  is_body l k G from n m i u o f g p b t =
      let see = typed_by t in
      let path = guarded-parts see G in
      let c : apply t u ≡ bool_type w = ap (apply t) p ∙ b t in
      let d = ap (functions (map t from)) (sym (g t)) in
      let last = here_expression w t k l (expression see G.body) o in (
        (λ h. subst (λ z. BodyAgrees w (map t l) (map t from) (t n) z) (sym path) ((f t ∙ h.0.0.0 ∙ c, h.0.0.1 ∙ d), h.0.1, last.0 h.1)),
        (λ h. let x = subst (λ z. BodyAgrees w (map t l) (map t from) (t n) z) path h in (((sym (f t) ∙ x.0.0 ∙ sym c, x.0.1 ∙ sym d), x.1), last.1 x.2)),
      )

  pub is_signature : (l : List ℕ) (B : Local Numbered) (a : Numbered) (x : List ℕ) (s s0 : Written) (u : Ty) → B ≡ local.Sig a x s0 → s ≡ s0 → u ≡ type_of w.types [] (written s) → ((t : ℕ → Ty) → apply t (type_of w.types [] (written s)) ≡ type_of w.types [] (written s))
      → (t : ℕ → Ty) → ((t a.number ≡ apply t u) × IsSigned (map t l) a.node.bound (t a.number)) ↔ BindingAgrees w (map t l) (local_binding (typed_by t) B)
  is_signature l B a x s s0 u e p q f t =
      let see = typed_by t in
      let path : local_binding see B ≡ local_signature (see a) x (written s) = ap (local_binding see) e ∙ local_binding-Sig see a x s0 ∙ ap (λ z. local_signature (see a) x (written z)) (sym p) in
      let c : apply t u ≡ type_of w.types [] (written s) = ap (apply t) q ∙ f t in (
        (λ h. subst (λ z. BindingAgrees w (map t l) z) (sym path) (h.0 ∙ c, h.1)),
        (λ h. let g = subst (λ z. BindingAgrees w (map t l) z) path h in (g.0 ∙ sym c, g.1)),
      )

  pub is_function : (l : List ℕ) (B : Local Numbered) (a : Numbered) (x : List ℕ) (rs qs : List (Alt Numbered)) (u : Ty) → B ≡ local.Fun a x rs → qs ≡ rs → u ≡ var a.number
      → (t : ℕ → Ty) → ClausesAgree w (map t l) (apply t u) (alternative_parts (map (alternative_of (typed_by t)) qs)) ↔ BindingAgrees w (map t l) (local_binding (typed_by t) B)
  is_function l B a x rs qs u e p q t =
      let see = typed_by t in
      let rows = alternative_parts (map (alternative_of see) qs) in
      let path : local_binding see B ≡ local_function (see a) x rows = ap (local_binding see) e ∙ local_binding-Fun see a x rs ∙ ap (λ z. local_function (see a) x (alternative_parts (map (alternative_of see) z))) (sym p) in
      let c : apply t u ≡ t a.number = ap (apply t) q in (
        (λ h. subst (λ z. BindingAgrees w (map t l) z) (sym path) (subst (λ z. ClausesAgree w (map t l) z rows) c h)),
        (λ h. subst (λ z. ClausesAgree w (map t l) z rows) (sym c) (subst (λ z. BindingAgrees w (map t l) z) path h)),
      )

  pub is_pattern : (l : List ℕ) (B : Local Numbered) (a : Numbered) (C D : Alt Numbered) → B ≡ local.Pattern a C → D ≡ C
      → (t : ℕ → Ty) → BoundPatternAgrees w (map t l) (t a.number) (alternative_of (typed_by t) D) ↔ BindingAgrees w (map t l) (local_binding (typed_by t) B)
  is_pattern l B a C D e p t =
      let see = typed_by t in
      let path : local_binding see B ≡ local_pattern (see a) (alternative_of see D) = ap (local_binding see) e ∙ local_binding-Pattern see a C ∙ ap (λ z. local_pattern (see a) (alternative_of see z)) (sym p) in (
        (λ h. subst (λ z. BindingAgrees w (map t l) z) (sym path) h),
        (λ h. subst (λ z. BindingAgrees w (map t l) z) path h),
      )

  pub is_bound_pattern : (l k j : List ℕ) (C : Alt Numbered) (qs : List (Pat Numbered)) (ws : List (Local Numbered)) (n : ℕ) (ms ns es : List ℕ)
      → qs ≡ C.pats → ws ≡ C.wheres → Entered l k (λ t. group_locals (binding_parts (map (local_binding (typed_by t)) ws))) → j ≡ k → ((t : ℕ → Ty) → row_types (patterns (typed_by t) qs) ≡ map t ns) → ms ≡ ns → es ≡ []
      → (t : ℕ → Ty) → (((((t C.at.number ≡ t n) × (map t ms ≡ t n ∷ [])) × RowAgrees w (patterns (typed_by t) qs)) × SideAgrees w (map t k) (map t es) (t n) (right_side (typed_by t) C.rhs)) × GroupAgrees w (map t j) (binding_parts (map (local_binding (typed_by t)) ws)))
      ↔ BoundPatternAgrees w (map t l) (t n) (alternative_of (typed_by t) C)
  is_bound_pattern l k j C qs ws n ms ns es p q r o f m x t =
      let see = typed_by t in
      let group = binding_parts (map (local_binding see) ws) in
      let path = clause_is C qs ws p q t in
      let outer : map t k ≡ map t l ++ group_locals group = entered_types l k (λ t. group_locals (binding_parts (map (local_binding (typed_by t)) ws))) r t in
      let inner : map t j ≡ map t l ++ group_locals group = ap (map t) o ∙ outer in
      let from : map t es ≡ [] = ap (map t) x in
      let row : row_types (patterns see qs) ≡ map t ms = f t ∙ ap (map t) (sym m) in (
        (λ h. subst (λ z. BoundPatternAgrees w (map t l) (t n) z) (sym path) ((h.0.0.0.0, row ∙ h.0.0.0.1, h.0.0.1), subst (λ z. SideAgrees w z [] (t n) (right_side see C.rhs)) outer (subst (λ z. SideAgrees w (map t k) z (t n) (right_side see C.rhs)) from h.0.1), subst (λ z. GroupAgrees w z group) inner h.1)),
        (λ h. let g = subst (λ z. BoundPatternAgrees w (map t l) (t n) z) path h in ((((g.0.0, sym row ∙ g.0.1), g.0.2), subst (λ z. SideAgrees w (map t k) z (t n) (right_side see C.rhs)) (sym from) (subst (λ z. SideAgrees w z [] (t n) (right_side see C.rhs)) (sym outer) g.1)), subst (λ z. GroupAgrees w z group) (sym inner) g.2)),
      )

  -- statements
  statement_from : (ls : List Ty) (b : Ty) (o : Bool) (x y : Statement TypedNode) → x ≡ y → StatementAgrees w ls b o x ↔ StatementAgrees w ls b o y
  statement_from ls b o x y e = ((λ h. subst (λ z. StatementAgrees w ls b o z) e h), (λ h. subst (λ z. StatementAgrees w ls b o z) (sym e) h))

  pub is_last_bind : (l : List ℕ) (S : Stmt Numbered) (a : Numbered) (p : Pat Numbered) (b : Expr Numbered) (n : ℕ) → S ≡ stmt.Bind a p b
      → (t : ℕ → Ty) → ⊥ ↔ StatementAgrees w (map t l) (t n) true (statement (typed_by t) S)
  is_last_bind l S a p b n e t = ((λ h. absurd h), (λ h. (statement_from (map t l) (t n) true _ _ (ap (statement (typed_by t)) e ∙ statement-Bind (typed_by t) a p b)).0 h))

  pub is_last_let : (l : List ℕ) (S : Stmt Numbered) (a : Numbered) (gs : List (Local Numbered)) (n : ℕ) → S ≡ stmt.Let a gs
      → (t : ℕ → Ty) → ⊥ ↔ StatementAgrees w (map t l) (t n) true (statement (typed_by t) S)
  is_last_let l S a gs n e t = ((λ h. absurd h), (λ h. (statement_from (map t l) (t n) true _ _ (ap (statement (typed_by t)) e ∙ statement-Let (typed_by t) a gs)).0 h))

  pub is_last : (l : List ℕ) (S : Stmt Numbered) (a : Numbered) (b d : Expr Numbered) (n m : ℕ) → S ≡ stmt.Run a b → d ≡ b → ((t : ℕ → Ty) → expression_type (expression (typed_by t) d) ≡ t m)
      → (t : ℕ → Ty) → (((t a.number ≡ t n) × (map t (argument_numbers a) ≡ []) × (t m ≡ t n)) × ExpressionAgrees w (map t l) (expression (typed_by t) d)) ↔ StatementAgrees w (map t l) (t n) true (statement (typed_by t) S)
  is_last l S a b d n m e p f t =
      let see = typed_by t in
      let path : statement see S ≡ run_statement (see a) (expression see d) = ap (statement see) e ∙ statement-Run see a b ∙ ap (λ z. run_statement (see a) (expression see z)) (sym p) in (
        (λ h. (statement_from (map t l) (t n) true _ _ path).1 ((h.0.0, h.0.1, f t ∙ h.0.2), h.1)),
        (λ h. let g = (statement_from (map t l) (t n) true _ _ path).0 h in ((g.0.0, g.0.1, sym (f t) ∙ g.0.2), g.1)),
      )

  pub is_then : (l : List ℕ) (S : Stmt Numbered) (a : Numbered) (b d : Expr Numbered) (n m : ℕ) → S ≡ stmt.Run a b → d ≡ b → ((t : ℕ → Ty) → expression_type (expression (typed_by t) d) ≡ t m)
      → (t : ℕ → Ty) → (((t a.number ≡ t n) × IsThen (map t (argument_numbers a)) (t m) (t n)) × ExpressionAgrees w (map t l) (expression (typed_by t) d)) ↔ StatementAgrees w (map t l) (t n) false (statement (typed_by t) S)
  is_then l S a b d n m e p f t =
      let see = typed_by t in
      let path : statement see S ≡ run_statement (see a) (expression see d) = ap (statement see) e ∙ statement-Run see a b ∙ ap (λ z. run_statement (see a) (expression see z)) (sym p) in (
        (λ h. (statement_from (map t l) (t n) false _ _ path).1 ((h.0.0, subst (λ z. IsThen (map t (argument_numbers a)) z (t n)) (sym (f t)) h.0.1), h.1)),
        (λ h. let g = (statement_from (map t l) (t n) false _ _ path).0 h in ((g.0.0, subst (λ z. IsThen (map t (argument_numbers a)) z (t n)) (f t) g.0.1), g.1)),
      )

  pub is_bind : (l : List ℕ) (S : Stmt Numbered) (a : Numbered) (p0 p : Pat Numbered) (b d : Expr Numbered) (n m i : ℕ) → S ≡ stmt.Bind a p0 b → p ≡ p0 → d ≡ b
      → ((t : ℕ → Ty) → expression_type (expression (typed_by t) d) ≡ t m) → ((t : ℕ → Ty) → pattern_type (pattern (typed_by t) p) ≡ t i)
      → (t : ℕ → Ty) → ((((t a.number ≡ t n) × IsBind (map t (argument_numbers a)) (t m) (t i) (t n)) × PatternAgrees w (pattern (typed_by t) p)) × ExpressionAgrees w (map t l) (expression (typed_by t) d)) ↔ StatementAgrees w (map t l) (t n) false (statement (typed_by t) S)
  is_bind l S a p0 p b d n m i e q r f g t =
      let see = typed_by t in
      let path : statement see S ≡ bind_statement (see a) (pattern see p) (expression see d) =
      ap (statement see) e ∙ statement-Bind see a p0 b ∙ ap (λ z. bind_statement (see a) (pattern see z) (expression see b)) (sym q) ∙ ap (λ z. bind_statement (see a) (pattern see p) (expression see z)) (sym r) in (
        (λ h. (statement_from (map t l) (t n) false _ _ path).1 ((h.0.0.0, subst (λ z. IsBind (map t (argument_numbers a)) z (pattern_type (pattern see p)) (t n)) (sym (f t)) (subst (λ z. IsBind (map t (argument_numbers a)) (t m) z (t n)) (sym (g t)) h.0.0.1)), h.0.1, h.1)),
        (λ h. let x = (statement_from (map t l) (t n) false _ _ path).0 h in (((x.0.0, subst (λ z. IsBind (map t (argument_numbers a)) (t m) z (t n)) (g t) (subst (λ z. IsBind (map t (argument_numbers a)) z (pattern_type (pattern see p)) (t n)) (f t) x.0.1)), x.1), x.2)),
      )

  pub is_let_statement : (l k : List ℕ) (S : Stmt Numbered) (a : Numbered) (gs hs : List (Local Numbered)) (n : ℕ) → S ≡ stmt.Let a gs → hs ≡ gs → Entered l k (λ t. group_locals (binding_parts (map (local_binding (typed_by t)) hs)))
      → (t : ℕ → Ty) → ((t a.number ≡ t n) × GroupAgrees w (map t k) (binding_parts (map (local_binding (typed_by t)) hs))) ↔ StatementAgrees w (map t l) (t n) false (statement (typed_by t) S)
  is_let_statement l k S a gs hs n e p r t =
      let see = typed_by t in
      let group = binding_parts (map (local_binding see) hs) in
      let path : statement see S ≡ let_statement (see a) group = ap (statement see) e ∙ statement-Let see a gs ∙ ap (λ z. let_statement (see a) (binding_parts (map (local_binding see) z))) (sym p) in
      let types = entered_types l k (λ t. group_locals (binding_parts (map (local_binding (typed_by t)) hs))) r t in (
        (λ h. (statement_from (map t l) (t n) false _ _ path).1 (h.0, subst (λ z. GroupAgrees w z group) types h.1)),
        (λ h. let g = (statement_from (map t l) (t n) false _ _ path).0 h in (g.0, subst (λ z. GroupAgrees w z group) (sym types) g.1)),
      )

-- the names that a statement binds
pub bind_locals : (S : Stmt Numbered) (a : Numbered) (p0 p : Pat Numbered) (b : Expr Numbered) → S ≡ stmt.Bind a p0 b → p ≡ p0 → (t : ℕ → Ty) → pattern_locals (pattern (typed_by t) p) ≡ statement_locals (statement (typed_by t) S)
bind_locals S a p0 p b e q t = sym (ap statement_locals (ap (statement (typed_by t)) e ∙ statement-Bind (typed_by t) a p0 b) ∙ ap (λ z. pattern_locals (pattern (typed_by t) z)) (sym q))

pub let_locals : (S : Stmt Numbered) (a : Numbered) (gs hs : List (Local Numbered)) → S ≡ stmt.Let a gs → hs ≡ gs → (t : ℕ → Ty) → group_locals (binding_parts (map (local_binding (typed_by t)) hs)) ≡ statement_locals (statement (typed_by t) S)
let_locals S a gs hs e q t = sym (ap statement_locals (ap (statement (typed_by t)) e ∙ statement-Let (typed_by t) a gs) ∙ ap (λ z. group_locals (binding_parts (map (local_binding (typed_by t)) z))) (sym q))

pub run_locals : (S : Stmt Numbered) (a : Numbered) (b : Expr Numbered) → S ≡ stmt.Run a b → (t : ℕ → Ty) → statement_locals (statement (typed_by t) S) ≡ []
run_locals S a b e t = ap statement_locals (ap (statement (typed_by t)) e ∙ statement-Run (typed_by t) a b)

-- the names that a local binding binds
pub signature_locals : (B : Local Numbered) (a : Numbered) (x : List ℕ) (s : Written) → B ≡ local.Sig a x s → (t : ℕ → Ty) → binding_locals (local_binding (typed_by t) B) ≡ []
signature_locals B a x s e t = ap binding_locals (ap (local_binding (typed_by t)) e ∙ local_binding-Sig (typed_by t) a x s)

pub group_more : (b : LocalBinding TypedNode) (bs : List (LocalBinding TypedNode)) → group_locals (binding_parts (b ∷ bs)) ≡ binding_locals b ++ group_locals (binding_parts bs)
group_more b bs = map-append (λ v. v.1.type) (binding_variables b) (group_variables (binding_parts bs))

pub function_locals : (B : Local Numbered) (a : Numbered) (x : List ℕ) (rs : List (Alt Numbered)) → B ≡ local.Fun a x rs → (t : ℕ → Ty) → binding_locals (local_binding (typed_by t) B) ≡ t a.number ∷ []
function_locals B a x rs e t = ap binding_locals (ap (local_binding (typed_by t)) e ∙ local_binding-Fun (typed_by t) a x rs)

pub pattern_binding_locals : (B : Local Numbered) (a : Numbered) (C : Alt Numbered) (qs : List (Pat Numbered)) → B ≡ local.Pattern a C → qs ≡ C.pats → (t : ℕ → Ty) → row_locals (patterns (typed_by t) qs) ≡ binding_locals (local_binding (typed_by t) B)
pattern_binding_locals B a C qs e q t =
    sym (ap binding_locals (ap (local_binding (typed_by t)) e ∙ local_binding-Pattern (typed_by t) a C ∙ ap (local_pattern (typed_by t a)) (clause_is C qs C.wheres q refl t)))
