-- What patterns of each kind agree in.
use Rattle.std.proofs.Common.{◌≡◌, ◌↔◌, ℕ, List, [], ◌∷◌, ◌++◌, map, refl, sym, ◌∙◌, ap, subst}
use Rattle.rw_tree.specs.declared.pattern.Pat.{Pat}
use Rattle.rw_tree.specs.declared.pattern.Pat.TheVariants as pat
use Rattle.rw_tree.specs.Patterns.{Pattern, constructor_pattern, tuple_pattern, pattern_parts, pattern, patterns}
use Rattle.rw_tree.proofs.Plains.{pattern-Con, pattern-Tuple}
use Rattle.rw_scope_rules.specs.Bindings.{parts_variables, row_variables, pattern_variables}
use Rattle.rw_types_solving.specs.Types.{Ty, var, apply}
use Rattle.rw_types_rules.specs.Words.{tuple_type}
use Rattle.rw_types_rules.specs.Schemes.{World, scheme_at}
use Rattle.rw_types_rules.specs.TypedTrees.{TypedNode, parts_types, row_types, pattern_type, pattern_locals, row_locals}
use Rattle.rw_types_rules.specs.WellTyped.{IsMatched, PatternAgrees, PartsAgree, RowAgrees}
use Rattle.rw_types_equations.specs.declared.numbered.Numbered.{Numbered}
use Rattle.rw_types_equations.specs.Numbered.{typed_by, argument_numbers}
use Rattle.rw_types_equations.proofs.Instances.{tuple_at}

parts_row : (w : World) (ps : List (Pattern TypedNode)) → PartsAgree w (pattern_parts ps) ↔ RowAgrees w ps
parts_row w [] = ((λ h. tt), (λ h. tt))
parts_row w (p ∷ ps) = ((λ h. (h.0, (parts_row w ps).0 h.1)), (λ h. (h.0, (parts_row w ps).1 h.1)))

types_of_parts : (ps : List (Pattern TypedNode)) → parts_types (pattern_parts ps) ≡ row_types ps
types_of_parts [] = refl
types_of_parts (p ∷ ps) = ap (λ z. pattern_type p ∷ z) (types_of_parts ps)

variables_of_parts : {X : Type 0} (ps : List (Pattern X)) → parts_variables (pattern_parts ps) ≡ row_variables ps
variables_of_parts [] = refl
variables_of_parts (p ∷ ps) = ap (λ z. pattern_variables p ++ z) (variables_of_parts ps)

pattern_as : (w : World) (x y : Pattern TypedNode) → x ≡ y → PatternAgrees w y → PatternAgrees w x
pattern_as w x y e h = subst (λ z. PatternAgrees w z) (sym e) h

pattern_from : (w : World) (x y : Pattern TypedNode) → x ≡ y → PatternAgrees w x → PatternAgrees w y
pattern_from w x y e h = subst (λ z. PatternAgrees w z) e h

con_agrees : (w : World) (a : TypedNode) (n : List ℕ) (row : List (Pattern TypedNode)) (types : List Ty) → row_types row ≡ types
    → (IsMatched (scheme_at w a.node.bound) a.arguments types a.type × RowAgrees w row) ↔ PatternAgrees w (constructor_pattern a n (pattern_parts row))
con_agrees w a n row types e =
    let q : parts_types (pattern_parts row) ≡ types = types_of_parts row ∙ e in (
      (λ h. (subst (λ z. IsMatched (scheme_at w a.node.bound) a.arguments z a.type) (sym q) h.0, (parts_row w row).1 h.1)),
      (λ h. (subst (λ z. IsMatched (scheme_at w a.node.bound) a.arguments z a.type) q h.0, (parts_row w row).0 h.1)),
    )

tuple_agrees : (w : World) (a : TypedNode) (row : List (Pattern TypedNode)) (types : List Ty) → row_types row ≡ types
    → ((a.type ≡ tuple_type types) × RowAgrees w row) ↔ PatternAgrees w (tuple_pattern a (pattern_parts row))
tuple_agrees w a row types e =
    let q : parts_types (pattern_parts row) ≡ types = types_of_parts row ∙ e in (
      (λ h. (h.0 ∙ ap tuple_type (sym q), (parts_row w row).1 h.1)),
      (λ h. (h.0 ∙ ap tuple_type q, (parts_row w row).0 h.1)),
    )

con_is : (P : Pat Numbered) (a : Numbered) (n : List ℕ) (ps qs : List (Pat Numbered)) → P ≡ pat.Con a n ps → qs ≡ ps
    → (t : ℕ → Ty) → pattern (typed_by t) P ≡ constructor_pattern (typed_by t a) n (pattern_parts (patterns (typed_by t) qs))
con_is P a n ps qs e q t = ap (pattern (typed_by t)) e ∙ pattern-Con (typed_by t) a n ps ∙ ap (λ z. constructor_pattern (typed_by t a) n (pattern_parts (patterns (typed_by t) z))) (sym q)

tuple_is : (P : Pat Numbered) (a : Numbered) (ps qs : List (Pat Numbered)) → P ≡ pat.Tuple a ps → qs ≡ ps
    → (t : ℕ → Ty) → pattern (typed_by t) P ≡ tuple_pattern (typed_by t a) (pattern_parts (patterns (typed_by t) qs))
tuple_is P a ps qs e q t = ap (pattern (typed_by t)) e ∙ pattern-Tuple (typed_by t) a ps ∙ ap (λ z. tuple_pattern (typed_by t a) (pattern_parts (patterns (typed_by t) z))) (sym q)

pub is_con : (w : World) (P : Pat Numbered) (a : Numbered) (n : List ℕ) (ps qs : List (Pat Numbered)) (ns ms : List ℕ) → P ≡ pat.Con a n ps → qs ≡ ps → ms ≡ ns
    → ((t : ℕ → Ty) → row_types (patterns (typed_by t) qs) ≡ map t ns)
    → (t : ℕ → Ty) → (IsMatched (scheme_at w a.node.bound) (map t (argument_numbers a)) (map t ms) (t a.number) × RowAgrees w (patterns (typed_by t) qs)) ↔ PatternAgrees w (pattern (typed_by t) P)
is_con w P a n ps qs ns ms e q m f t =
    let k = con_agrees w (typed_by t a) n (patterns (typed_by t) qs) (map t ms) (f t ∙ ap (map t) (sym m)) in
    let p = con_is P a n ps qs e q t in
    ((λ h. pattern_as w _ _ p (k.0 h)), (λ h. k.1 (pattern_from w _ _ p h)))

pub is_tuple : (w : World) (P : Pat Numbered) (a : Numbered) (ps qs : List (Pat Numbered)) (ns ms : List ℕ) (u : Ty) → P ≡ pat.Tuple a ps → qs ≡ ps → ms ≡ ns
    → ((t : ℕ → Ty) → row_types (patterns (typed_by t) qs) ≡ map t ns) → u ≡ tuple_type (map var ms)
    → (t : ℕ → Ty) → ((t a.number ≡ apply t u) × RowAgrees w (patterns (typed_by t) qs)) ↔ PatternAgrees w (pattern (typed_by t) P)
is_tuple w P a ps qs ns ms u e q m f v t =
    let k = tuple_agrees w (typed_by t a) (patterns (typed_by t) qs) (map t ms) (f t ∙ ap (map t) (sym m)) in
    let p = tuple_is P a ps qs e q t in
    let x : apply t u ≡ tuple_type (map t ms) = ap (apply t) v ∙ tuple_at t ms in
    ((λ h. pattern_as w _ _ p (k.0 (h.0 ∙ x, h.1))), (λ h. let r = k.1 (pattern_from w _ _ p h) in (r.0 ∙ sym x, r.1)))

pub con_locals : (P : Pat Numbered) (a : Numbered) (n : List ℕ) (ps qs : List (Pat Numbered)) → P ≡ pat.Con a n ps → qs ≡ ps
    → (t : ℕ → Ty) → row_locals (patterns (typed_by t) qs) ≡ pattern_locals (pattern (typed_by t) P)
con_locals P a n ps qs e q t =
    sym (ap pattern_locals (con_is P a n ps qs e q t) ∙ ap (map (λ v. v.1.type)) (variables_of_parts (patterns (typed_by t) qs)))

pub tuple_locals : (P : Pat Numbered) (a : Numbered) (ps qs : List (Pat Numbered)) → P ≡ pat.Tuple a ps → qs ≡ ps
    → (t : ℕ → Ty) → row_locals (patterns (typed_by t) qs) ≡ pattern_locals (pattern (typed_by t) P)
tuple_locals P a ps qs e q t =
    sym (ap pattern_locals (tuple_is P a ps qs e q t) ∙ ap (map (λ v. v.1.type)) (variables_of_parts (patterns (typed_by t) qs)))
