-- Lambdas, `let`, `if` and chains of operands are read exactly, where what stands inside them is.
use Rattle.std.proofs.Common.{◌≡◌, ℕ, zero, suc, ◌<◌, ◌≤◌, Bool, true, false, ◌||◌, List, [], ◌∷◌, length, drop, Some, None, refl, sym, ap, subst, ◌∙◌, arith, inl, inr}
use Rattle.rw_base.specs.declared.place.Span.{Span}
use Rattle.rw_tree.specs.declared.pattern.Pat.{Pat}
use Rattle.rw_tree.specs.declared.expr.Expr.{Expr}
use Rattle.rw_tree.specs.declared.expr.Expr.TheVariants as e
use Rattle.rw_tree.specs.declared.clause.Local.{Local}
use Rattle.rw_parser_grammar.specs.declared.lexeme.Mark.TheVariants as m
use Rattle.rw_parser_grammar.specs.declared.lexeme.Spot.{Spot}
use Rattle.rw_parser_grammar.specs.declared.lexeme.Lexeme.{Lexeme}
use Rattle.rw_parser_grammar.specs.declared.lexeme.Lexeme.TheVariants as t
use Rattle.rw_parser_grammar.specs.Lexemes.{next_spot, span_at, span_of}
use Rattle.rw_parser_grammar.specs.Lists.{IsMany, no_more, one_more}
use Rattle.rw_parser_grammar.specs.Patterns.{IsApat}
use Rattle.rw_parser_grammar.specs.Expressions.{chained, IsLast, an_operand, a_lambda, a_let, an_if, IsChain, no_operator, an_operator, IsExpressionOver, an_expression}
use Rattle.rw_parser_reading.specs.Read.{Read, same_mark, sees, after}
use Rattle.rw_parser_reading.specs.ReadTypes.{ends_pattern, begins_apat, apats_at}
use Rattle.rw_parser_reading.specs.ReadNames.{begins_op, op_at}
use Rattle.rw_parser_reading.specs.ReadExpressions.{ends_operand, ends_expression, lambda_at, let_at, if_at, begins_last, closing_at, chain_at, expression_over_at}
use Rattle.rw_parser_reading.proofs.ReadExact.{bind_some, chosen, moved, not_true, same_self, seen_is, after_is, after_mark, always, Exact}
use Rattle.rw_parser_laws.proofs.ReadPatterns.{apat_begins, apats_runs}
use Rattle.rw_parser_reading.proofs.ReadNames.{op_exact, op_begins}
use Rattle.rw_parser_laws.proofs.ReadExpressions.{expression_no_op, expression_ends_operand, op_ends, Begins}

then_ends : (w : Spot) (rest : List Lexeme) → ends_expression (t.Mark w m.Then ∷ rest) ≡ true
unfolding same_mark
then_ends w rest = refl

else_ends : (w : Spot) (rest : List Lexeme) → ends_expression (t.Mark w m.Else ∷ rest) ≡ true
unfolding same_mark
else_ends w rest = refl

arrow_ends_pattern : (w : Spot) (rest : List Lexeme) → ends_pattern (t.Mark w m.Arrow ∷ rest) ≡ true
unfolding same_mark
arrow_ends_pattern w rest = refl

-- what is no lambda, no `let` and no `if`
pub no_last : (ts : List Lexeme) → begins_last ts ≡ false → (sees m.Backslash ts ≡ false) × ((sees m.Let ts ≡ false) × (sees m.If ts ≡ false))
no_last ts h = go (sees m.Backslash ts) (sees m.Let ts) (sees m.If ts) h
  where
    go : (a b c : Bool) → (a || (b || c)) ≡ false → (a ≡ false) × ((b ≡ false) × (c ≡ false))
    go true b c h = absurd (cc)
    go false true c h = absurd (cc)
    go false false true h = absurd (cc)
    go false false false h = (refl, (refl, refl))

module _ (pattern : List Lexeme → Read (Pat Span)) (Pattern : List Lexeme → Pat Span → List Lexeme → Type 0) (pats_exact : Exact pattern Pattern ends_pattern)
    (opens : (ts : List Lexeme) (pat : Pat Span) (rest : List Lexeme) → Pattern ts pat rest → sees m.Closes ts ≡ false)
    (inner : List Lexeme → Read (Expr Span)) (Inner : List Lexeme → Expr Span → List Lexeme → Type 0) (exact : Exact inner Inner ends_expression)
    (locals : List Lexeme → Read (List (Local Span))) (Locals : List Lexeme → List (Local Span) → List Lexeme → Type 0) (bound : Exact locals Locals always)
    (operand : List Lexeme → Read (Expr Span)) (Operand : List Lexeme → Expr Span → List Lexeme → Type 0) (operands : Exact operand Operand ends_operand)
    (operand_begins : (ts : List Lexeme) (a : Expr Span) (rest : List Lexeme) → Operand ts a rest → Begins ts × (begins_last ts ≡ false)) where
  -- ---- lambdas
  lambda_of : (v w : Spot) (ts mid rest : List Lexeme) (pats : List (Pat Span)) (body : Expr Span) → begins_apat ts ≡ true → IsMany (IsApat Pattern) ts pats (t.Mark w m.Arrow ∷ mid) → Inner mid body rest
      → IsLast Pattern Inner Locals Operand (t.Mark v m.Backslash ∷ ts) (e.Lambda (span_at v rest) pats body) rest
  lambda_of v w ts mid rest [] body b ds d = absurd (none ds b)
    where
      arrow_begins : begins_apat (t.Mark w m.Arrow ∷ mid) ≡ false
      arrow_begins = not_true _ (arrow_ends_pattern w mid)

      stays : {xs behind : List Lexeme} {ps : List (Pat Span)} → IsMany (IsApat Pattern) xs ps behind → ps ≡ [] → xs ≡ behind
      stays (no_more xs) q = refl
      stays (one_more xs mids behind a others i is) q = absurd (cc)

      none : IsMany (IsApat Pattern) ts [] (t.Mark w m.Arrow ∷ mid) → begins_apat ts ≡ true → ⊥
      none ds b = let s : ts ≡ t.Mark w m.Arrow ∷ mid = stays ds refl in let f : true ≡ false = sym b ∙ ap begins_apat s ∙ arrow_begins in cc
  lambda_of v w ts mid rest (pat ∷ pats) body b ds d = a_lambda v w ts mid rest pat pats body ds d

  lambda_sound : (ts : List Lexeme) (p : Expr Span × List Lexeme) → sees m.Backslash ts ≡ true → lambda_at pattern inner locals ts ≡ Some p → IsLast Pattern Inner Locals Operand ts p.0 p.1
  unfolding lambda_at
  lambda_sound ts p c h =
      let a = bind_some (apats_at pattern (drop 1 ts)) _ p h in
      let r = bind_some (after m.Arrow a.0.1) _ p a.2 in
      let q = bind_some (inner r.0) _ p r.2 in
      elim (chosen (begins_apat (drop 1 ts)) _ _ _ q.2) [
        | inl k ↦ moved (λ z. IsLast Pattern Inner Locals Operand ts z.0 z.1) _ p k.1
            (subst (λ z. IsLast Pattern Inner Locals Operand z (e.Lambda (span_of ts q.0.1) a.0.0 q.0.0) q.0.1) (sym (seen_is m.Backslash ts c))
            (lambda_of (next_spot ts) (next_spot a.0.1) (drop 1 ts) r.0 q.0.1 a.0.0 q.0.0 k.0
            (subst (IsMany (IsApat Pattern) (drop 1 ts) a.0.0) (after_is m.Arrow a.0.1 r.0 r.1) ((apats_runs pattern Pattern pats_exact opens).sound (drop 1 ts) a.0 a.1)) (exact.sound r.0 q.0 q.1)))
        | inr k ↦ absurd (let n : None ≡ Some p = k.1 in cc)
      ]

  lambda_read : (v w : Spot) (ts mid rest : List Lexeme) (pats : List (Pat Span)) (body : Expr Span) → begins_apat ts ≡ true → apats_at pattern ts ≡ Some (pats, t.Mark w m.Arrow ∷ mid) → inner mid ≡ Some (body, rest)
      → closing_at pattern inner locals (t.Mark v m.Backslash ∷ ts) ≡ Some (e.Lambda (span_at v rest) pats body, rest)
  unfolding closing_at lambda_at
  lambda_read v w ts mid rest pats body b h g = rw (same_self m.Backslash, h, after_mark m.Arrow w mid, g, b)

  -- ---- `let`
  let_sound : (ts : List Lexeme) (p : Expr Span × List Lexeme) → sees m.Let ts ≡ true → let_at pattern inner locals ts ≡ Some p → IsLast Pattern Inner Locals Operand ts p.0 p.1
  unfolding let_at
  let_sound ts p c h =
      let a = bind_some (locals (drop 1 ts)) _ p h in
      let r = bind_some (after m.In a.0.1) _ p a.2 in
      let q = bind_some (inner r.0) _ p r.2 in
      moved (λ z. IsLast Pattern Inner Locals Operand ts z.0 z.1) _ p q.2
      (subst (λ z. IsLast Pattern Inner Locals Operand z (e.Let (span_of ts q.0.1) a.0.0 q.0.0) q.0.1) (sym (seen_is m.Let ts c))
      (a_let (next_spot ts) (next_spot a.0.1) (drop 1 ts) r.0 q.0.1 a.0.0 q.0.0 (subst (Locals (drop 1 ts) a.0.0) (after_is m.In a.0.1 r.0 r.1) (bound.sound (drop 1 ts) a.0 a.1)) (exact.sound r.0 q.0 q.1)))

  let_no_lambda : (v : Spot) (ts : List Lexeme) → sees m.Backslash (t.Mark v m.Let ∷ ts) ≡ false
  unfolding same_mark
  let_no_lambda v ts = refl

  let_read : (v w : Spot) (ts mid rest : List Lexeme) (all : List (Local Span)) (body : Expr Span) → locals ts ≡ Some (all, t.Mark w m.In ∷ mid) → inner mid ≡ Some (body, rest)
      → closing_at pattern inner locals (t.Mark v m.Let ∷ ts) ≡ Some (e.Let (span_at v rest) all body, rest)
  unfolding closing_at let_at
  let_read v w ts mid rest all body h g = rw (let_no_lambda v ts, same_self m.Let, h, after_mark m.In w mid, g)

  -- ---- `if`
  if_sound : (ts : List Lexeme) (p : Expr Span × List Lexeme) → sees m.If ts ≡ true → if_at pattern inner locals ts ≡ Some p → IsLast Pattern Inner Locals Operand ts p.0 p.1
  unfolding if_at
  if_sound ts p c h =
      let a = bind_some (inner (drop 1 ts)) _ p h in
      let r = bind_some (after m.Then a.0.1) _ p a.2 in
      let b = bind_some (inner r.0) _ p r.2 in
      let s = bind_some (after m.Else b.0.1) _ p b.2 in
      let d = bind_some (inner s.0) _ p s.2 in
      moved (λ z. IsLast Pattern Inner Locals Operand ts z.0 z.1) _ p d.2
      (subst (λ z. IsLast Pattern Inner Locals Operand z (e.If (span_of ts d.0.1) a.0.0 b.0.0 d.0.0) d.0.1) (sym (seen_is m.If ts c))
      (an_if (next_spot ts) (next_spot a.0.1) (next_spot b.0.1) (drop 1 ts) r.0 s.0 d.0.1 a.0.0 b.0.0 d.0.0 (subst (Inner (drop 1 ts) a.0.0) (after_is m.Then a.0.1 r.0 r.1) (exact.sound (drop 1 ts) a.0 a.1))
      (subst (Inner r.0 b.0.0) (after_is m.Else b.0.1 s.0 s.1) (exact.sound r.0 b.0 b.1)) (exact.sound s.0 d.0 d.1)))

  if_no_lambda : (v : Spot) (ts : List Lexeme) → sees m.Backslash (t.Mark v m.If ∷ ts) ≡ false
  unfolding same_mark
  if_no_lambda v ts = refl

  if_no_let : (v : Spot) (ts : List Lexeme) → sees m.Let (t.Mark v m.If ∷ ts) ≡ false
  unfolding same_mark
  if_no_let v ts = refl

  if_read : (u v w : Spot) (ts first second rest : List Lexeme) (test one other : Expr Span) → inner ts ≡ Some (test, t.Mark v m.Then ∷ first) → inner first ≡ Some (one, t.Mark w m.Else ∷ second) → inner second ≡ Some (other, rest)
      → closing_at pattern inner locals (t.Mark u m.If ∷ ts) ≡ Some (e.If (span_at u rest) test one other, rest)
  unfolding closing_at if_at
  if_read u v w ts first second rest test one other h g k = rw (if_no_lambda u ts, if_no_let u ts, h, after_mark m.Then v first, g, after_mark m.Else w second, k)

  -- ---- the last of a chain
  closing_sound : (ts : List Lexeme) (p : Expr Span × List Lexeme) → begins_last ts ≡ true → closing_at pattern inner locals ts ≡ Some p → IsLast Pattern Inner Locals Operand ts p.0 p.1
  unfolding closing_at
  closing_sound ts p b h =
      elim (chosen (sees m.Backslash ts) _ _ _ h) [
        | inl a ↦ lambda_sound ts p a.0 a.1
        | inr a ↦ elim (chosen (sees m.Let ts) _ _ _ a.1) [ inl c ↦ let_sound ts p c.0 c.1 | inr c ↦ if_sound ts p (left (sees m.Backslash ts) (sees m.Let ts) (sees m.If ts) b a.0 c.0) c.1 ]
      ]
    where
      left : (a b c : Bool) → (a || (b || c)) ≡ true → a ≡ false → b ≡ false → c ≡ true
      left true b c h f g = absurd (cc)
      left false true c h f g = absurd (cc)
      left false false c h f g = h

  chain_sound : (n : ℕ) (ts : List Lexeme) (p : (List (Expr Span) × List (Expr Span)) × List Lexeme) → chain_at operand (closing_at pattern inner locals) n ts ≡ Some p
      → IsChain Operand (IsLast Pattern Inner Locals Operand) ts (p.0.0, p.0.1) p.1
  unfolding chain_at
  chain_sound zero ts p h = absurd (cc)
  chain_sound (suc n) ts p h =
      elim (chosen (begins_last ts) _ _ _ h) [
        | inl k ↦ let a = bind_some (closing_at pattern inner locals ts) _ p k.1 in
            moved (λ z. IsChain Operand (IsLast Pattern Inner Locals Operand) ts (z.0.0, z.0.1) z.1) _ p a.2 (no_operator ts a.0.1 a.0.0 (closing_sound ts a.0 k.0 a.1))
        | inr k ↦ let a = bind_some (operand ts) _ p k.1 in
            let first = operands.sound ts a.0 a.1 in
            elim (chosen (begins_op a.0.1) _ _ _ a.2) [
              | inl b ↦ let o = bind_some (op_at a.0.1) _ p b.1 in
                  let q = bind_some (chain_at operand (closing_at pattern inner locals) n o.0.1) _ p o.2 in
                  moved (λ z. IsChain Operand (IsLast Pattern Inner Locals Operand) ts (z.0.0, z.0.1) z.1) _ p q.2
                  (an_operator ts a.0.1 o.0.1 q.0.1 a.0.0 o.0.0 q.0.0.0 q.0.0.1 first (op_exact.sound a.0.1 o.0 o.1) (chain_sound n o.0.1 q.0 q.1))
              | inr b ↦ moved (λ z. IsChain Operand (IsLast Pattern Inner Locals Operand) ts (z.0.0, z.0.1) z.1) _ p b.1 (no_operator ts a.0.1 a.0.0 (an_operand ts a.0.1 a.0.0 first))
            ]
      ]

  closing_chain : (n : ℕ) (ts rest : List Lexeme) (a : Expr Span) → begins_last ts ≡ true → closing_at pattern inner locals ts ≡ Some (a, rest)
      → chain_at operand (closing_at pattern inner locals) (suc n) ts ≡ Some ((a ∷ [], []), rest)
  unfolding chain_at
  closing_chain n ts rest a b h = rw (b, h)

  alone_chain : (n : ℕ) (ts rest : List Lexeme) (a : Expr Span) → begins_last ts ≡ false → operand ts ≡ Some (a, rest) → begins_op rest ≡ false
      → chain_at operand (closing_at pattern inner locals) (suc n) ts ≡ Some ((a ∷ [], []), rest)
  unfolding chain_at
  alone_chain n ts rest a b h o = rw (b, h, o)

  longer_chain : (n : ℕ) (ts mid next rest : List Lexeme) (a o : Expr Span) (others ops : List (Expr Span)) → begins_last ts ≡ false → operand ts ≡ Some (a, mid) → begins_op mid ≡ true → op_at mid ≡ Some (o, next)
      → chain_at operand (closing_at pattern inner locals) n next ≡ Some ((others, ops), rest) → chain_at operand (closing_at pattern inner locals) (suc n) ts ≡ Some ((a ∷ others, o ∷ ops), rest)
  unfolding chain_at
  longer_chain n ts mid next rest a o others ops b h c k g = rw (b, h, c, k, g)

  first_begins : (ts rest : List Lexeme) (pat : Pat Span) (pats : List (Pat Span)) → IsMany (IsApat Pattern) ts (pat ∷ pats) rest → begins_apat ts ≡ true
  first_begins _ _ _ _ (one_more ts mid rest a others d ds) = apat_begins pattern Pattern pats_exact opens ts a mid d

  lambda_begins : (v : Spot) (ts : List Lexeme) → begins_last (t.Mark v m.Backslash ∷ ts) ≡ true
  unfolding same_mark
  lambda_begins v ts = refl

  let_begins : (v : Spot) (ts : List Lexeme) → begins_last (t.Mark v m.Let ∷ ts) ≡ true
  unfolding same_mark
  let_begins v ts = refl

  if_begins : (v : Spot) (ts : List Lexeme) → begins_last (t.Mark v m.If ∷ ts) ≡ true
  unfolding same_mark
  if_begins v ts = refl

  last_chain : (n : ℕ) (ts rest : List Lexeme) (a : Expr Span) → IsLast Pattern Inner Locals Operand ts a rest → ends_expression rest ≡ true
      → chain_at operand (closing_at pattern inner locals) (suc n) ts ≡ Some ((a ∷ [], []), rest)
  last_chain n _ _ _ (an_operand ts rest a d) s = alone_chain n ts rest a (operand_begins ts a rest d).1 (operands.complete ts a rest d (expression_ends_operand rest s)) (expression_no_op rest s)
  last_chain n _ _ _ (a_lambda v w ts mid rest pat pats body ds d) s =
      closing_chain n (t.Mark v m.Backslash ∷ ts) rest (e.Lambda (span_at v rest) (pat ∷ pats) body) (lambda_begins v ts)
      (lambda_read v w ts mid rest (pat ∷ pats) body (first_begins ts _ pat pats ds) ((apats_runs pattern Pattern pats_exact opens).complete ts (pat ∷ pats) _ ds (arrow_ends_pattern w mid)) (exact.complete mid body rest d s))
  last_chain n _ _ _ (a_let v w ts mid rest all body ds d) s =
      closing_chain n (t.Mark v m.Let ∷ ts) rest (e.Let (span_at v rest) all body) (let_begins v ts) (let_read v w ts mid rest all body (bound.complete ts all _ ds refl) (exact.complete mid body rest d s))
  last_chain n _ _ _ (an_if u v w ts first second rest test one other a b d) s =
      closing_chain n (t.Mark u m.If ∷ ts) rest (e.If (span_at u rest) test one other) (if_begins u ts)
      (if_read u v w ts first second rest test one other (exact.complete ts test _ a (then_ends v first)) (exact.complete first one _ b (else_ends w second)) (exact.complete second other rest d s))

  last_shorter : (ts rest : List Lexeme) (a : Expr Span) → IsLast Pattern Inner Locals Operand ts a rest → length rest < length ts
  last_shorter _ _ _ (an_operand ts rest a d) = operands.shorter ts a rest d
  last_shorter _ _ _ (a_lambda v w ts mid rest pat pats body ds d) = let h = (apats_runs pattern Pattern pats_exact opens).shorter ts (pat ∷ pats) _ ds in let k = exact.shorter mid body rest d in omega arith
  last_shorter _ _ _ (a_let v w ts mid rest all body ds d) = let h = bound.shorter ts all _ ds in let k = exact.shorter mid body rest d in omega arith
  last_shorter _ _ _ (an_if u v w ts first second rest test one other a b d) = let h = exact.shorter ts test _ a in let k = exact.shorter first one _ b in let l = exact.shorter second other rest d in omega arith

  chain_shorter : {ts : List Lexeme} {p : List (Expr Span) × List (Expr Span)} {rest : List Lexeme} → IsChain Operand (IsLast Pattern Inner Locals Operand) ts p rest → length rest < length ts
  chain_shorter (no_operator ts rest a d) = last_shorter ts rest a d
  chain_shorter (an_operator ts mid next rest a o others ops d k ds) = let h = operands.shorter ts a mid d in let i = op_exact.shorter mid o next k in let j = chain_shorter ds in omega arith

  chain_read : {ts : List Lexeme} {p : List (Expr Span) × List (Expr Span)} {rest : List Lexeme} → IsChain Operand (IsLast Pattern Inner Locals Operand) ts p rest → (n : ℕ) → length ts ≤ n → ends_expression rest ≡ true
      → chain_at operand (closing_at pattern inner locals) n ts ≡ Some (p, rest)
  chain_read (no_operator ts rest a d) zero h s = let k = last_shorter ts rest a d in absurd (omega arith)
  chain_read (no_operator ts rest a d) (suc n) h s = last_chain n ts rest a d s
  chain_read (an_operator ts mid next rest a o others ops d k ds) zero h s = let i = operands.shorter ts a mid d in absurd (omega arith)
  chain_read (an_operator ts mid next rest a o others ops d k ds) (suc n) h s =
      let i = operands.shorter ts a mid d in
      let j = op_exact.shorter mid o next k in
      longer_chain n ts mid next rest a o others ops (operand_begins ts a mid d).1 (operands.complete ts a mid d (op_ends mid o next k)) (op_begins mid o next k) (op_exact.complete mid o next k refl)
      (chain_read ds n (omega arith) s)

  -- ---- expressions
  over_sound : (ts : List Lexeme) (p : Expr Span × List Lexeme) → expression_over_at operand (closing_at pattern inner locals) ts ≡ Some p → IsExpressionOver Operand (IsLast Pattern Inner Locals Operand) ts p.0 p.1
  unfolding expression_over_at
  over_sound ts p h =
      let a = bind_some (chain_at operand (closing_at pattern inner locals) (length ts) ts) _ p h in
      moved (λ z. IsExpressionOver Operand (IsLast Pattern Inner Locals Operand) ts z.0 z.1) _ p a.2 (an_expression ts a.0.1 a.0.0.0 a.0.0.1 (chain_sound (length ts) ts a.0 a.1))

  over_read : (ts rest : List Lexeme) (others ops : List (Expr Span)) → chain_at operand (closing_at pattern inner locals) (length ts) ts ≡ Some ((others, ops), rest)
      → expression_over_at operand (closing_at pattern inner locals) ts ≡ Some (chained (span_of ts rest) others ops, rest)
  unfolding expression_over_at
  over_read ts rest others ops h = rw h

  over_complete : (ts : List Lexeme) (a : Expr Span) (rest : List Lexeme) → IsExpressionOver Operand (IsLast Pattern Inner Locals Operand) ts a rest → ends_expression rest ≡ true
      → expression_over_at operand (closing_at pattern inner locals) ts ≡ Some (a, rest)
  over_complete _ _ _ (an_expression ts rest others ops d) s = over_read ts rest others ops (chain_read d (length ts) (omega arith) s)

  over_shorter : (ts : List Lexeme) (a : Expr Span) (rest : List Lexeme) → IsExpressionOver Operand (IsLast Pattern Inner Locals Operand) ts a rest → length rest < length ts
  over_shorter _ _ _ (an_expression ts rest others ops d) = chain_shorter d

  pub over_exact : Exact (expression_over_at operand (closing_at pattern inner locals)) (IsExpressionOver Operand (IsLast Pattern Inner Locals Operand)) ends_expression
  over_exact = record { sound = over_sound; complete = over_complete; shorter = over_shorter }

  last_begins : (ts rest : List Lexeme) (a : Expr Span) → IsLast Pattern Inner Locals Operand ts a rest → Begins ts
  unfolding same_mark
  last_begins _ _ _ (an_operand ts rest a d) = (operand_begins ts a rest d).0
  last_begins _ _ _ (a_lambda v w ts mid rest pat pats body ds d) = record { no_close = refl; no_operator = refl; no_block_end = refl; no_semicolon = refl }
  last_begins _ _ _ (a_let v w ts mid rest all body ds d) = record { no_close = refl; no_operator = refl; no_block_end = refl; no_semicolon = refl }
  last_begins _ _ _ (an_if u v w ts first second rest test one other a b d) = record { no_close = refl; no_operator = refl; no_block_end = refl; no_semicolon = refl }

  chain_begins : {ts : List Lexeme} {p : List (Expr Span) × List (Expr Span)} {rest : List Lexeme} → IsChain Operand (IsLast Pattern Inner Locals Operand) ts p rest → Begins ts
  chain_begins (no_operator ts rest a d) = last_begins ts rest a d
  chain_begins (an_operator ts mid next rest a o others ops d k ds) = (operand_begins ts a mid d).0

  pub over_begins : (ts : List Lexeme) (a : Expr Span) (rest : List Lexeme) → IsExpressionOver Operand (IsLast Pattern Inner Locals Operand) ts a rest → Begins ts
  over_begins _ _ _ (an_expression ts rest others ops d) = chain_begins d
