-- What grouping from left to right finds is the tree that the chain is.
use Rattle.std.proofs.Common.{◌≡◌, ℕ, ◌≤◌, Bool, true, List, [], ◌∷◌, ◌++◌, map, Some, None, refl, sym, ap, subst, inl, inr, append_assoc, append-nil}
use Rattle.std.specs.List.{list_all}
use Rattle.rw_base.specs.declared.place.Span.{Span}
use Rattle.rw_tree.specs.declared.expr.Expr.{Expr}
use Rattle.rw_parser_grammar.specs.Levels.{max_levels}
use Rattle.rw_parser_grammar.specs.Chains.{Strength, operator_name, groups_left, groups_right, operation, IsGrouped, one_operand, grouped_at}
use Rattle.rw_parser_reading.proofs.ReadExact.{bind_some, chosen, some_is}
use Rattle.rw_parser_chains.specs.Grouping.{Counted, counted, Waiting, operated, strength_of, settled, closed, grouped_from, grouped_of}
use Rattle.rw_parser_chains.proofs.Strengths.{from_both, all_left_through, all_right_through, all_joined}
use Rattle.rw_parser_chains.proofs.Nodes.{Fair, AllFair, operated_gave, operated_within}
use Rattle.rw_parser_chains.proofs.Found.{all_left, all_right, Takes}

module _ (strength : List ℕ → Strength) where
  -- What waits, and the operand behind it, are these operands and operators grouped so far; of these operators the last ones stand in the operand.
  pub data Held : List Waiting → List (Expr Span) → List (Expr Span) → List (Expr Span) → Counted → Type 0 where
    bottom : (xs os : List (Expr Span)) (b : Counted) → IsGrouped strength xs os b.0 → Fair b → Held [] xs os os b
    over : (ws : List Waiting) (xs os last ys ps : List (Expr Span)) (a o b : Counted) → Held ws xs os last a → all_left strength last (strength_of strength o) ≡ true → Takes strength ws (strength_of strength o) → Fair o
        → IsGrouped strength ys ps b.0 → all_right strength ps (strength_of strength o) ≡ true → Fair b → Held ((a, o) ∷ ws) (xs ++ ys) (os ++ o.0 ∷ ps) ps b

  fair_held : {ws : List Waiting} {xs os last : List (Expr Span)} {b : Counted} → Held ws xs os last b → Fair b
  fair_held (bottom xs os b g f) = f
  fair_held (over ws xs os last ys ps a o b h l t fo g r f) = f

  bottom_is : {ws : List Waiting} {xs os last : List (Expr Span)} {b : Counted} → Held ws xs os last b → ws ≡ [] → IsGrouped strength xs os b.0 × Fair b
  bottom_is (bottom xs os b g f) e = (g, f)
  bottom_is (over ws xs os last ys ps a o b h l t fo g r f) e = absurd (cc)

  moved_held : (ws : List Waiting) (xs ys os ps last : List (Expr Span)) (b : Counted) → xs ≡ ys → os ≡ ps → Held ws xs os last b → Held ws ys ps last b
  moved_held ws xs ys os ps last b e f h = subst (λ z. Held ws z ps last b) e (subst (λ z. Held ws xs z last b) f h)

  grouped_node : (ys zs ps qs : List (Expr Span)) (a o b c : Counted) → IsGrouped strength ys ps a.0 → IsGrouped strength zs qs b.0 → all_left strength ps (strength_of strength o) ≡ true
      → all_right strength qs (strength_of strength o) ≡ true → c.0 ≡ operation o.0 a.0 b.0 → IsGrouped strength (ys ++ zs) (ps ++ o.0 ∷ qs) c.0
  grouped_node ys zs ps qs a o b c d f l r e = subst (λ t. IsGrouped strength (ys ++ zs) (ps ++ o.0 ∷ qs) t) (sym e) (grouped_at o.0 a.0 b.0 ys zs ps qs d f l r)

  -- the operand in front of an operator, and the operand behind it, as one
  rejoin : {ws : List Waiting} {xs os last : List (Expr Span)} {a : Counted} → Held ws xs os last a → (o b c : Counted) (zs qs : List (Expr Span)) → all_left strength last (strength_of strength o) ≡ true
      → Takes strength ws (strength_of strength o) → Fair o → IsGrouped strength zs qs b.0 → all_right strength qs (strength_of strength o) ≡ true → Fair b → operated o a b ≡ Some c
      → Held ws (xs ++ zs) (os ++ o.0 ∷ qs) (last ++ o.0 ∷ qs) c
  rejoin (bottom xs os a g f) o b c zs qs l t fo d r fb e =
      let p = operated_gave o a b c fo f fb e in
      bottom (xs ++ zs) (os ++ o.0 ∷ qs) c (grouped_node xs zs os qs a o b c g d l r p.0) p.1
  rejoin (over ws xs os last ys ps a1 o1 a h l1 t1 f1 g r1 f) o b c zs qs l t fo d r fb e =
      let p = operated_gave o a b c fo f fb e in
      let node = grouped_node ys zs ps qs a o b c g d l r p.0 in
      let test : Expr Span → Bool = λ p. groups_right (strength (operator_name p)) (strength_of strength o1) in
      let right : all_right strength (ps ++ o.0 ∷ qs) (strength_of strength o1) ≡ true =
      all_joined test ps (o.0 ∷ qs) r1 (from_both (test o.0) (list_all test qs) t (all_right_through at_o qs (strength_of strength o) (strength_of strength o1) r t)) in
      moved_held ((a1, o1) ∷ ws) (xs ++ (ys ++ zs)) ((xs ++ ys) ++ zs) (os ++ (o1.0 ∷ (ps ++ o.0 ∷ qs))) ((os ++ o1.0 ∷ ps) ++ o.0 ∷ qs) (ps ++ o.0 ∷ qs) c
      (sym (append_assoc xs ys zs)) (sym (append_assoc os (o1.0 ∷ ps) (o.0 ∷ qs)))
      (over ws xs os last (ys ++ zs) (ps ++ o.0 ∷ qs) a1 o1 c h l1 t1 f1 node right p.1)
    where
      at_o : Expr Span → Strength
      at_o = λ p. strength (operator_name p)

  -- what stands in front of the next operator once all that is tighter has taken its operands
  abbrev Settled : List Waiting → List (Expr Span) → List (Expr Span) → Counted → Strength → Type 0
  Settled ws xs os b s = (last : List (Expr Span)) × Held ws xs os last b × (all_left strength last s ≡ true) × Takes strength ws s

  rejoined : {ws : List Waiting} {w : Waiting} {xs os last : List (Expr Span)} {b : Counted} → Held (w ∷ ws) xs os last b → (c : Counted) (s : Strength) → operated w.1 w.0 b ≡ Some c
      → all_left strength last s ≡ true → groups_left (strength_of strength w.1) s ≡ true → (last : List (Expr Span)) × Held ws xs os last c × (all_left strength last s ≡ true)
  rejoined (over ws xs os last ys ps a o b h l t fo g r f) c s e ls os_left =
      let test : Expr Span → Bool = λ p. groups_left (strength (operator_name p)) s in (
        last ++ o.0 ∷ ps,
        rejoin h o b c ys ps l t fo g r f e,
        all_joined test last (o.0 ∷ ps) (all_left_through (λ p. strength (operator_name p)) last (strength_of strength o) s l os_left) (from_both (test o.0) (list_all test ps) os_left ls),
      )

  settles : (ws : List Waiting) {xs os last : List (Expr Span)} {b : Counted} → Held ws xs os last b → (next : Counted) (p : List Waiting × Counted) → all_left strength last (strength_of strength next) ≡ true
      → settled strength next ws b ≡ Some p → Settled p.0 xs os p.1 (strength_of strength next)
  unfolding settled
  settles [] {xs} {os} {last} {b} h next p l e =
      subst (λ q. Settled q.0 xs os q.1 (strength_of strength next)) (some_is ([], b) p e) (last, h, l, tt)
  settles (w ∷ ws) {xs} {os} {last} {b} h next p l e =
      elim (chosen (groups_left (strength_of strength w.1) (strength_of strength next)) _ _ _ e) [
        | inl s ↦
            let q = bind_some (operated w.1 w.0 b) (settled strength next ws) p s.1 in
            let r = rejoined h q.0 (strength_of strength next) q.1 l s.0 in
            settles ws r.1 next p r.2 q.2
        | inr s ↦
            elim (chosen (groups_right (strength_of strength next) (strength_of strength w.1)) _ _ _ s.1) [
              | inl t ↦ subst (λ q. Settled q.0 xs os q.1 (strength_of strength next)) (some_is (w ∷ ws, b) p t.1) (last, h, l, t.0)
              | inr t ↦ absurd (let f : None ≡ Some p = t.1 in cc)
            ]
      ]

  closes : (ws : List Waiting) {xs os last : List (Expr Span)} {b : Counted} → Held ws xs os last b → (t : Counted) → closed ws b ≡ Some t → IsGrouped strength xs os t.0 × Fair t
  unfolding closed
  closes [] {xs} {os} {last} {b} h t e = subst (λ q. IsGrouped strength xs os q.0 × Fair q) (some_is b t e) (bottom_is h refl)
  closes (w ∷ ws) {xs} {os} {last} {b} h t e =
      let q = bind_some (operated w.1 w.0 b) (closed ws) t e in
      let r = closes_step h q.0 q.1 in
      closes ws {last = r.0} r.1 t q.2
    where
      closes_step : {ws : List Waiting} {w : Waiting} {xs os last : List (Expr Span)} {b : Counted} → Held (w ∷ ws) xs os last b → (c : Counted) → operated w.1 w.0 b ≡ Some c
          → (last : List (Expr Span)) × Held ws xs os last c
      closes_step (over ws xs os last ys ps a o b h l t fo g r f) c e = (last ++ o.0 ∷ ps, rejoin h o b c ys ps l t fo g r f e)

  -- what waits when an operator has been taken up: these operands and operators so far
  data Pending : List Waiting → List (Expr Span) → List (Expr Span) → Type 0 where
    nothing : Pending [] [] []
    one_more : (ws : List Waiting) (xs os last : List (Expr Span)) (a o : Counted) → Held ws xs os last a → all_left strength last (strength_of strength o) ≡ true → Takes strength ws (strength_of strength o) → Fair o
        → Pending ((a, o) ∷ ws) xs (os ++ o.0 ∷ [])

  opened : {ws : List Waiting} {xs os : List (Expr Span)} → Pending ws xs os → (y : Counted) → Fair y → Held ws (xs ++ y.0 ∷ []) os [] y
  opened nothing y f = bottom (y.0 ∷ []) [] y (one_operand y.0) f
  opened (one_more ws xs os last a o h l t fo) y f = over ws xs os last (y.0 ∷ []) [] a o y h l t fo (one_operand y.0) refl f

  grouped_held : (qs ys : List Counted) {ws : List Waiting} {xs os : List (Expr Span)} → Pending ws xs os → AllFair qs → AllFair ys → (t : Counted) → grouped_from strength ws qs ys ≡ Some t
      → IsGrouped strength (xs ++ map (λ c. c.0) ys) (os ++ map (λ c. c.0) qs) t.0 × Fair t
  unfolding grouped_from
  grouped_held [] [] p fq fy t e = absurd (cc)
  grouped_held [] (y ∷ []) {ws} {xs} {os} p fq fy t e =
      let r = closes ws (opened p y fy.0) t e in
      (subst (λ z. IsGrouped strength (xs ++ y.0 ∷ []) z t.0) (sym (append-nil os)) r.0, r.1)
  grouped_held [] (y ∷ z ∷ zs) p fq fy t e = absurd (cc)
  grouped_held (q ∷ qs) [] p fq fy t e = absurd (cc)
  grouped_held (q ∷ qs) (y ∷ ys) {ws} {xs} {os} p fq fy t e =
      let b = bind_some (settled strength q ws y) (λ r. grouped_from strength ((r.1, q) ∷ r.0) qs ys) t e in
      let s = settles ws (opened p y fy.0) q b.0 refl b.1 in
      let r = grouped_held qs ys (one_more b.0.0 (xs ++ y.0 ∷ []) os s.0 b.0.1 q s.1 s.2 s.3 fq.0) fq.1 fy.1 t b.2 in (
        subst (λ z. IsGrouped strength z (os ++ q.0 ∷ map (λ c. c.0) qs) t.0) (append_assoc xs (y.0 ∷ []) (map (λ c. c.0) ys))
            (subst (λ z. IsGrouped strength ((xs ++ y.0 ∷ []) ++ map (λ c. c.0) ys) z t.0) (append_assoc os (q.0 ∷ []) (map (λ c. c.0) qs)) r.0),
        r.1,
      )

  -- the whole
  pub grouped : (qs ys : List Counted) (t : Counted) → AllFair qs → AllFair ys → grouped_of strength qs ys ≡ Some t → IsGrouped strength (map (λ c. c.0) ys) (map (λ c. c.0) qs) t.0 × Fair t
  grouped qs ys t fq fy e = grouped_held qs ys nothing fq fy t e

  -- ---- levels
  abbrev pub AllWithin : List Counted → Type 0
  AllWithin [] = Unit {0}
  AllWithin (c ∷ cs) = (c.1 ≤ max_levels) × AllWithin cs

  settled_within : (ws : List Waiting) (next b : Counted) (p : List Waiting × Counted) → b.1 ≤ max_levels → settled strength next ws b ≡ Some p → p.1.1 ≤ max_levels
  unfolding settled
  settled_within [] next b p l e = subst (λ q. q.1.1 ≤ max_levels) (some_is ([], b) p e) l
  settled_within (w ∷ ws) next b p l e =
      elim (chosen (groups_left (strength_of strength w.1) (strength_of strength next)) _ _ _ e) [
        | inl s ↦ let q = bind_some (operated w.1 w.0 b) (settled strength next ws) p s.1 in settled_within ws next q.0 p (operated_within w.1 w.0 b q.0 q.1) q.2
        | inr s ↦
            elim (chosen (groups_right (strength_of strength next) (strength_of strength w.1)) _ _ _ s.1) [
              | inl t ↦ subst (λ q. q.1.1 ≤ max_levels) (some_is (w ∷ ws, b) p t.1) l
              | inr t ↦ absurd (let f : None ≡ Some p = t.1 in cc)
            ]
      ]

  closed_within : (ws : List Waiting) (b t : Counted) → b.1 ≤ max_levels → closed ws b ≡ Some t → t.1 ≤ max_levels
  unfolding closed
  closed_within [] b t l e = subst (λ q. q.1 ≤ max_levels) (some_is b t e) l
  closed_within (w ∷ ws) b t l e = let q = bind_some (operated w.1 w.0 b) (closed ws) t e in closed_within ws q.0 t (operated_within w.1 w.0 b q.0 q.1) q.2

  pub grouped_within : (ws : List Waiting) (qs ys : List Counted) (t : Counted) → AllWithin ys → grouped_from strength ws qs ys ≡ Some t → t.1 ≤ max_levels
  unfolding grouped_from
  grouped_within ws [] [] t a e = absurd (cc)
  grouped_within ws [] (y ∷ []) t a e = closed_within ws y t a.0 e
  grouped_within ws [] (y ∷ z ∷ zs) t a e = absurd (cc)
  grouped_within ws (q ∷ qs) [] t a e = absurd (cc)
  grouped_within ws (q ∷ qs) (y ∷ ys) t a e =
      let b = bind_some (settled strength q ws y) (λ r. grouped_from strength ((r.1, q) ∷ r.0) qs ys) t e in
      grouped_within ((b.0.1, q) ∷ b.0.0) qs ys t a.1 b.2

pub counted_fair : (xs : List (Expr Span)) → AllFair (map counted xs)
counted_fair [] = tt
counted_fair (x ∷ xs) = (refl, counted_fair xs)

pub counted_trees : (xs : List (Expr Span)) → map (λ c. c.0) (map counted xs) ≡ xs
counted_trees [] = refl
counted_trees (x ∷ xs) = ap (λ zs. x ∷ zs) (counted_trees xs)
