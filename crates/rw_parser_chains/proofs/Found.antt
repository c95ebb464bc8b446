-- The tree that a chain is, is found by grouping from left to right.
use Rattle.std.proofs.Common.{◌≡◌, ℕ, ◌≤◌, Bool, true, List, [], ◌∷◌, ◌++◌, map, Some, refl, sym, ap, ◌∙◌, append_assoc, append-nil}
use Rattle.std.proofs.lemmas.List.{map-append}
use Rattle.std.specs.List.{list_all}
use Rattle.rw_base.specs.declared.place.Span.{Span}
use Rattle.rw_tree.specs.declared.expr.Expr.{Expr}
use Rattle.rw_parser_grammar.specs.Levels.{max_levels}
use Rattle.rw_parser_grammar.specs.Chains.{Strength, operator_name, groups_left, groups_right, operation, IsGrouped, one_operand, grouped_at}
use Rattle.rw_parser_chains.specs.Grouping.{levels_of, Counted, counted, Waiting, operated, strength_of, settled, closed, grouped_from, grouped_of}
use Rattle.rw_parser_chains.proofs.Strengths.{both, not_left, all_parts}
use Rattle.rw_parser_chains.proofs.Nodes.{operands_levels, operated_is}

module _ (strength : List ℕ → Strength) where
  abbrev pub at_operator : Expr Span → Strength
  at_operator o = strength (operator_name o)

  abbrev pub all_left : List (Expr Span) → Strength → Bool
  all_left os b = list_all (λ p. groups_left (strength (operator_name p)) b) os

  abbrev pub all_right : List (Expr Span) → Strength → Bool
  all_right os b = list_all (λ p. groups_right (strength (operator_name p)) b) os

  -- all these may stand in the right operand of what waits last
  abbrev pub Under : List Waiting → List (Expr Span) → Type 0
  Under [] os = Unit {0}
  Under (w ∷ ws) os = all_right os (strength_of strength w.1) ≡ true

  -- and this one
  abbrev pub Takes : List Waiting → Strength → Type 0
  Takes [] b = Unit {0}
  Takes (w ∷ ws) b = groups_right b (strength_of strength w.1) ≡ true

  -- all these may stand in the left operand of what comes next
  abbrev pub Before : List (Expr Span) → List Counted → Type 0
  Before os [] = Unit {0}
  Before os (q ∷ qs) = all_left os (strength_of strength q) ≡ true

  -- and this one
  abbrev pub Ahead : Strength → List Counted → Type 0
  Ahead a [] = Unit {0}
  Ahead a (q ∷ qs) = groups_left a (strength_of strength q) ≡ true

  under_parts : (ws : List Waiting) (os : List (Expr Span)) (o : Expr Span) (ps : List (Expr Span)) → Under ws (os ++ o ∷ ps) → Under ws os × Takes ws (at_operator o)
  under_parts [] os o ps u = (tt, tt)
  under_parts (w ∷ ws) os o ps u =
      let test : Expr Span → Bool = λ p. groups_right (strength (operator_name p)) (strength_of strength w.1) in
      let p = all_parts test os (o ∷ ps) u in
      (p.0, (both (test o) (list_all test ps) p.1).0)

  before_parts : (qs : List Counted) (os : List (Expr Span)) (o : Expr Span) (ps : List (Expr Span)) → Before (os ++ o ∷ ps) qs → Before ps qs × Ahead (at_operator o) qs
  before_parts [] os o ps u = (tt, tt)
  before_parts (q ∷ qs) os o ps u =
      let test : Expr Span → Bool = λ p. groups_left (strength (operator_name p)) (strength_of strength q) in
      let p = all_parts test os (o ∷ ps) u in
      let r = both (test o) (list_all test ps) p.1 in
      (r.1, r.0)

  -- nothing that waits is taken away from the next operator
  kept : (ws : List Waiting) (q x : Counted) → Takes ws (strength_of strength q) → settled strength q ws x ≡ Some (ws, x)
  unfolding settled
  kept [] q x u = refl
  kept (w ∷ ws) q x u = rw (not_left (strength_of strength q) (strength_of strength w.1) u, u) refl

  pushed : (ws : List Waiting) (q x : Counted) (qs xs : List Counted) → Takes ws (strength_of strength q)
      → grouped_from strength ws (q ∷ qs) (x ∷ xs) ≡ grouped_from strength ((x, q) ∷ ws) qs xs
  unfolding grouped_from
  pushed ws q x qs xs u = rw (kept ws q x u) refl

  -- what waits last takes its right operand
  reduced : (ws : List Waiting) (o a b c : Counted) (qs ys : List Counted) → operated o a b ≡ Some c → Ahead (strength_of strength o) qs
      → grouped_from strength ((a, o) ∷ ws) qs (b ∷ ys) ≡ grouped_from strength ws qs (c ∷ ys)
  unfolding grouped_from closed settled
  reduced ws o a b c [] [] e h = rw e refl
  reduced ws o a b c [] (y ∷ ys) e h = refl
  reduced ws o a b c (q ∷ qs) ys e h = rw (h, e) refl

  -- a part of a chain may be replaced by its tree
  pub segment : {xs os : List (Expr Span)} {t : Expr Span} → IsGrouped strength xs os t → levels_of t ≤ max_levels → (ws : List Waiting) (qs ys : List Counted) → Under ws os → Before os qs
      → grouped_from strength ws (map counted os ++ qs) (map counted xs ++ ys) ≡ grouped_from strength ws qs (counted t ∷ ys)
  segment (one_operand a) l ws qs ys u b = refl
  segment (grouped_at o a b lefts rights os ps d f h k) l ws qs ys u w =
      let under = operands_levels o a b l in
      let us = under_parts ws os o ps u in
      let bs = before_parts qs os o ps w in
      let operators : map counted (os ++ o ∷ ps) ++ qs ≡ map counted os ++ (counted o ∷ (map counted ps ++ qs)) = ap (λ z. z ++ qs) (map-append counted os (o ∷ ps)) ∙ append_assoc (map counted os) (map counted (o ∷ ps)) qs in
      let operands : map counted (lefts ++ rights) ++ ys ≡ map counted lefts ++ (map counted rights ++ ys) = ap (λ z. z ++ ys) (map-append counted lefts rights) ∙ append_assoc (map counted lefts) (map counted rights) ys in
      ap (λ z. grouped_from strength ws z (map counted (lefts ++ rights) ++ ys)) operators
      ∙ ap (λ z. grouped_from strength ws (map counted os ++ (counted o ∷ (map counted ps ++ qs))) z) operands
      ∙ segment d under.0 ws (counted o ∷ (map counted ps ++ qs)) (map counted rights ++ ys) us.0 h
      ∙ pushed ws (counted o) (counted a) (map counted ps ++ qs) (map counted rights ++ ys) us.1
      ∙ segment f under.1 ((counted a, counted o) ∷ ws) qs ys k bs.0
      ∙ reduced ws (counted o) (counted a) (counted b) (counted (operation o a b)) qs ys (operated_is o a b l) bs.1

  -- the whole
  pub found : (xs os : List (Expr Span)) (t : Expr Span) → IsGrouped strength xs os t → levels_of t ≤ max_levels → grouped_of strength (map counted os) (map counted xs) ≡ Some (counted t)
  unfolding grouped_from closed
  found xs os t d l =
      ap (λ z. grouped_from strength [] z (map counted xs)) (sym (append-nil (map counted os)))
      ∙ ap (λ z. grouped_from strength [] (map counted os ++ []) z) (sym (append-nil (map counted xs)))
      ∙ segment d l [] [] [] tt tt
