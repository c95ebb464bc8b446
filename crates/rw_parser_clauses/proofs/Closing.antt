-- An expression is a step and its last part: what ends a chain is a head and what follows it.
use Rattle.std.proofs.Common.{◌≡◌, ℕ, zero, suc, Bool, true, false, cond, List, [], ◌∷◌, ◌++◌, length, drop, Option, Some, None, refl, ap, ◌∙◌}
use Rattle.rw_base.specs.declared.place.Span.{Span}
use Rattle.rw_tree.specs.declared.pattern.Pat.{Pat}
use Rattle.rw_tree.specs.declared.expr.Expr.{Expr}
use Rattle.rw_tree.specs.declared.expr.Expr.TheVariants as e
use Rattle.rw_tree.specs.declared.clause.Local.{Local}
use Rattle.rw_parser_grammar.specs.declared.lexeme.Mark.TheVariants as m
use Rattle.rw_parser_grammar.specs.declared.lexeme.Lexeme.{Lexeme}
use Rattle.rw_parser_grammar.specs.Lexemes.{span_of}
use Rattle.rw_parser_grammar.specs.Expressions.{chained}
use Rattle.rw_parser_reading.specs.Read.{◌>>=◌, Read, sees, after}
use Rattle.rw_parser_reading.specs.ReadTypes.{begins_apat, apats_at}
use Rattle.rw_parser_reading.specs.ReadNames.{begins_op, op_at}
use Rattle.rw_parser_reading.specs.ReadExpressions.{lambda_at, let_at, if_at, begins_last, closing_at, chain_at, expression_over_at}
use Rattle.rw_parser_parts.specs.declared.frame.Head.{Head}
use Rattle.rw_parser_parts.specs.declared.frame.Head.TheVariants as h
use Rattle.rw_parser_parts.specs.declared.frame.Chain.{Chain}
use Rattle.rw_parser_parts.specs.declared.frame.Step.{Step}
use Rattle.rw_parser_parts.specs.declared.frame.Step.TheVariants as step
use Rattle.rw_parser_parts.specs.Steps.{headed, closed, longer, links_at, lambda_head_at, let_head_at, if_head_at, head_at, framed, ended_at, step_at}

-- a step and its last part
abbrev pub go_on : (List Lexeme → Read (Expr Span)) → Step × List Lexeme → Read (Expr Span)
go_on inner (step.Whole tree, rest) = Some (tree, rest)
go_on inner (step.Opens frame, rest) = inner rest >>= λ b. Some (closed frame b.0 b.1, b.1)

-- ---- what ends a chain
module _ (inner : List Lexeme → Read (Expr Span)) where
  -- a head that began at ts, with its last part
  abbrev with_body : List Lexeme → Head → Expr Span × List Lexeme → Read (Expr Span)
  with_body ts head b = Some (headed head (span_of ts b.1) b.0, b.1)

  abbrev behind_head : List Lexeme → Head × List Lexeme → Read (Expr Span)
  behind_head ts p = inner p.1 >>= with_body ts p.0

  -- a lambda
  abbrev as_lambda : List Lexeme → Bool → List (Pat Span) → Expr Span × List Lexeme → Read (Expr Span)
  as_lambda ts begins pats q = cond begins (Some (e.Lambda (span_of ts q.1) pats q.0, q.1)) None

  abbrev lambda_body : List Lexeme → Bool → List (Pat Span) → List Lexeme → Read (Expr Span)
  lambda_body ts begins pats r = inner r >>= as_lambda ts begins pats

  abbrev lambda_rest : List Lexeme → Bool → List (Pat Span) × List Lexeme → Read (Expr Span)
  lambda_rest ts begins p = after m.Arrow p.1 >>= lambda_body ts begins p.0

  abbrev lambda_opens : List (Pat Span) → List Lexeme → Read Head
  lambda_opens pats r = Some (h.Lambda pats, r)

  abbrev lambda_arrow : List (Pat Span) × List Lexeme → Read Head
  lambda_arrow p = after m.Arrow p.1 >>= lambda_opens p.0

  no_lambda : (ts : List Lexeme) (pats : List (Pat Span)) (r : Read (Expr Span)) → (r >>= as_lambda ts false pats) ≡ None
  no_lambda ts pats None = refl
  no_lambda ts pats (Some q) = refl

  lambda_from : (ts : List Lexeme) (begins : Bool) (pats : List (Pat Span)) (a : Option (List Lexeme)) → (a >>= lambda_body ts begins pats) ≡ (cond begins (a >>= lambda_opens pats) None >>= behind_head ts)
  lambda_from ts true pats None = refl
  lambda_from ts true pats (Some r) = refl
  lambda_from ts false pats None = refl
  lambda_from ts false pats (Some r) = no_lambda ts pats (inner r)

  lambda_all : (ts : List Lexeme) (begins : Bool) (o : Read (List (Pat Span))) → (o >>= lambda_rest ts begins) ≡ (cond begins (o >>= lambda_arrow) None >>= behind_head ts)
  lambda_all ts true None = refl
  lambda_all ts false None = refl
  lambda_all ts true (Some p) = lambda_from ts true p.0 (after m.Arrow p.1)
  lambda_all ts false (Some p) = lambda_from ts false p.0 (after m.Arrow p.1)

  -- a `let`
  abbrev let_body : List Lexeme → List (Local Span) → List Lexeme → Read (Expr Span)
  let_body ts all r = inner r >>= with_body ts (h.Let all)

  abbrev let_rest : List Lexeme → List (Local Span) × List Lexeme → Read (Expr Span)
  let_rest ts p = after m.In p.1 >>= let_body ts p.0

  abbrev let_opens : List (Local Span) → List Lexeme → Read Head
  let_opens all r = Some (h.Let all, r)

  abbrev let_in : List (Local Span) × List Lexeme → Read Head
  let_in p = after m.In p.1 >>= let_opens p.0

  let_from : (ts : List Lexeme) (all : List (Local Span)) (a : Option (List Lexeme)) → (a >>= let_body ts all) ≡ ((a >>= let_opens all) >>= behind_head ts)
  let_from ts all None = refl
  let_from ts all (Some r) = refl

  let_all : (ts : List Lexeme) (o : Read (List (Local Span))) → (o >>= let_rest ts) ≡ ((o >>= let_in) >>= behind_head ts)
  let_all ts None = refl
  let_all ts (Some p) = let_from ts p.0 (after m.In p.1)

  -- an `if`
  abbrev else_body : List Lexeme → Expr Span → Expr Span → List Lexeme → Read (Expr Span)
  else_body ts test first r = inner r >>= with_body ts (h.If test first)

  abbrev else_rest : List Lexeme → Expr Span → Expr Span × List Lexeme → Read (Expr Span)
  else_rest ts test q = after m.Else q.1 >>= else_body ts test q.0

  abbrev then_body : List Lexeme → Expr Span → List Lexeme → Read (Expr Span)
  then_body ts test r = inner r >>= else_rest ts test

  abbrev then_rest : List Lexeme → Expr Span × List Lexeme → Read (Expr Span)
  then_rest ts p = after m.Then p.1 >>= then_body ts p.0

  abbrev else_opens : Expr Span → Expr Span → List Lexeme → Read Head
  else_opens test first r = Some (h.If test first, r)

  abbrev else_in : Expr Span → Expr Span × List Lexeme → Read Head
  else_in test q = after m.Else q.1 >>= else_opens test q.0

  abbrev then_opens : Expr Span → List Lexeme → Read Head
  then_opens test r = inner r >>= else_in test

  abbrev then_in : Expr Span × List Lexeme → Read Head
  then_in p = after m.Then p.1 >>= then_opens p.0

  else_from : (ts : List Lexeme) (test first : Expr Span) (a : Option (List Lexeme)) → (a >>= else_body ts test first) ≡ ((a >>= else_opens test first) >>= behind_head ts)
  else_from ts test first None = refl
  else_from ts test first (Some r) = refl

  first_from : (ts : List Lexeme) (test : Expr Span) (o : Read (Expr Span)) → (o >>= else_rest ts test) ≡ ((o >>= else_in test) >>= behind_head ts)
  first_from ts test None = refl
  first_from ts test (Some q) = else_from ts test q.0 (after m.Else q.1)

  then_from : (ts : List Lexeme) (test : Expr Span) (a : Option (List Lexeme)) → (a >>= then_body ts test) ≡ ((a >>= then_opens test) >>= behind_head ts)
  then_from ts test None = refl
  then_from ts test (Some r) = first_from ts test (inner r)

  if_all : (ts : List Lexeme) (o : Read (Expr Span)) → (o >>= then_rest ts) ≡ ((o >>= then_in) >>= behind_head ts)
  if_all ts None = refl
  if_all ts (Some p) = then_from ts p.0 (after m.Then p.1)

  chosen_head : (c : Bool) (x y : Read (Expr Span)) (u v : Read Head) (ts : List Lexeme) → x ≡ (u >>= behind_head ts) → y ≡ (v >>= behind_head ts) → cond c x y ≡ (cond c u v >>= behind_head ts)
  chosen_head true x y u v ts g k = g
  chosen_head false x y u v ts g k = k

  module _ (pattern : List Lexeme → Read (Pat Span)) (locals : List Lexeme → Read (List (Local Span))) where
    lambda_is : (ts : List Lexeme) → lambda_at pattern inner locals ts ≡ (lambda_head_at pattern (drop 1 ts) >>= behind_head ts)
    unfolding lambda_at lambda_head_at
    lambda_is ts = lambda_all ts (begins_apat (drop 1 ts)) (apats_at pattern (drop 1 ts))

    let_is : (ts : List Lexeme) → let_at pattern inner locals ts ≡ (let_head_at locals (drop 1 ts) >>= behind_head ts)
    unfolding let_at let_head_at
    let_is ts = let_all ts (locals (drop 1 ts))

    if_is : (ts : List Lexeme) → if_at pattern inner locals ts ≡ (if_head_at inner (drop 1 ts) >>= behind_head ts)
    unfolding if_at if_head_at
    if_is ts = if_all ts (inner (drop 1 ts))

    -- what ends a chain is a head and what follows it
    pub closing_is : (ts : List Lexeme) → closing_at pattern inner locals ts ≡ (head_at pattern inner locals ts >>= behind_head ts)
    unfolding closing_at head_at
    closing_is ts =
        chosen_head (sees m.Backslash ts) _ _ (lambda_head_at pattern (drop 1 ts)) (cond (sees m.Let ts) (let_head_at locals (drop 1 ts)) (if_head_at inner (drop 1 ts))) ts (lambda_is ts)
        (chosen_head (sees m.Let ts) _ _ (let_head_at locals (drop 1 ts)) (if_head_at inner (drop 1 ts)) ts (let_is ts) (if_is ts))

-- ---- chains
-- operands, and the operators between them
abbrev Links : Type 0
Links = List (Expr Span) × List (Expr Span)

abbrev only : Expr Span × List Lexeme → Read Links
only p = Some ((p.0 ∷ [], []), p.1)

abbrev one_more : Expr Span → Expr Span → Links × List Lexeme → Read Links
one_more a o q = Some ((a ∷ q.0.0, o ∷ q.0.1), q.1)

abbrev one_longer : Expr Span → Expr Span → Chain × List Lexeme → Read Chain
one_longer a o q = Some (longer a o q.0, q.1)

-- a chain with the last part of what ends it
abbrev last_body : List (Expr Span) → List (Expr Span) → List Lexeme → Head → Expr Span × List Lexeme → Read Links
last_body operands operators mid head b = Some ((operands ++ headed head (span_of mid b.1) b.0 ∷ [], operators), b.1)

module _ (inner : List Lexeme → Read (Expr Span)) (head : List Lexeme → Read Head) where
  abbrev last_head : List (Expr Span) → List (Expr Span) → List Lexeme → Head × List Lexeme → Read Links
  last_head operands operators mid p = inner p.1 >>= last_body operands operators mid p.0

  abbrev finished : Chain × List Lexeme → Read Links
  finished c = cond c.0.is_open (head c.1 >>= last_head c.0.operands c.0.operators c.1) (Some ((c.0.operands, c.0.operators), c.1))

  -- nothing but what ends it
  only_body : (ts : List Lexeme) (a : Head) (r : Read (Expr Span)) → ((r >>= with_body inner ts a) >>= only) ≡ (r >>= last_body [] [] ts a)
  only_body ts a None = refl
  only_body ts a (Some b) = refl

  only_head : (ts : List Lexeme) (o : Read Head) → ((o >>= behind_head inner ts) >>= only) ≡ (o >>= last_head [] [] ts)
  only_head ts None = refl
  only_head ts (Some p) = only_body ts p.0 (inner p.1)

  -- one operand and one operator more
  more_body : (a o : Expr Span) (operands operators : List (Expr Span)) (mid : List Lexeme) (p : Head) (r : Read (Expr Span))
      → ((r >>= last_body operands operators mid p) >>= one_more a o) ≡ (r >>= last_body (a ∷ operands) (o ∷ operators) mid p)
  more_body a o operands operators mid p None = refl
  more_body a o operands operators mid p (Some b) = refl

  more_head : (a o : Expr Span) (operands operators : List (Expr Span)) (mid : List Lexeme) (r : Read Head)
      → ((r >>= last_head operands operators mid) >>= one_more a o) ≡ (r >>= last_head (a ∷ operands) (o ∷ operators) mid)
  more_head a o operands operators mid None = refl
  more_head a o operands operators mid (Some p) = more_body a o operands operators mid p.0 (inner p.1)

  more_end : (a o : Expr Span) (operands operators : List (Expr Span)) (mid : List Lexeme) (c : Bool)
      → (cond c (head mid >>= last_head operands operators mid) (Some ((operands, operators), mid)) >>= one_more a o)
      ≡ cond c (head mid >>= last_head (a ∷ operands) (o ∷ operators) mid) (Some ((a ∷ operands, o ∷ operators), mid))
  more_end a o operands operators mid true = more_head a o operands operators mid (head mid)
  more_end a o operands operators mid false = refl

  longer_is : (a o : Expr Span) (links : Read Chain) → ((links >>= finished) >>= one_more a o) ≡ ((links >>= one_longer a o) >>= finished)
  longer_is a o None = refl
  longer_is a o (Some c) = more_end a o c.0.operands c.0.operators c.1 c.0.is_open

  module _ (operand closing : List Lexeme → Read (Expr Span)) (closes : (ts : List Lexeme) → closing ts ≡ (head ts >>= behind_head inner ts)) where
    -- over what is read of the operands behind the first
    module _ (chain : List Lexeme → Read Links) (links : List Lexeme → Read Chain) (same : (ts : List Lexeme) → chain ts ≡ (links ts >>= finished)) where
      abbrev chain_op : Expr Span → Expr Span × List Lexeme → Read Links
      chain_op a o = chain o.1 >>= one_more a o.0

      abbrev links_op : Expr Span → Expr Span × List Lexeme → Read Chain
      links_op a o = links o.1 >>= one_longer a o.0

      abbrev chain_operand : Expr Span × List Lexeme → Read Links
      chain_operand p = cond (begins_op p.1) (op_at p.1 >>= chain_op p.0) (only p)

      abbrev links_operand : Expr Span × List Lexeme → Read Chain
      links_operand p = cond (begins_op p.1) (op_at p.1 >>= links_op p.0) (Some (record { operands = p.0 ∷ []; operators = []; is_open = false }, p.1))

      op_is : (a : Expr Span) (r : Read (Expr Span)) → (r >>= chain_op a) ≡ ((r >>= links_op a) >>= finished)
      op_is a None = refl
      op_is a (Some o) = ap (λ (z : Read Links). z >>= one_more a o.0) (same o.1) ∙ longer_is a o.0 (links o.1)

      begin_is : (a : Expr Span) (mid : List Lexeme) (c : Bool)
          → cond c (op_at mid >>= chain_op a) (only (a, mid)) ≡ (cond c (op_at mid >>= links_op a) (Some (record { operands = a ∷ []; operators = []; is_open = false }, mid)) >>= finished)
      begin_is a mid true = op_is a (op_at mid)
      begin_is a mid false = refl

      operand_is : (r : Read (Expr Span)) → (r >>= chain_operand) ≡ ((r >>= links_operand) >>= finished)
      operand_is None = refl
      operand_is (Some p) = begin_is p.0 p.1 (begins_op p.1)

      turn_is : (ts : List Lexeme) (c : Bool)
          → cond c (closing ts >>= only) (operand ts >>= chain_operand) ≡ (cond c (Some (record { operands = []; operators = []; is_open = true }, ts)) (operand ts >>= links_operand) >>= finished)
      turn_is ts true = ap (λ (z : Read (Expr Span)). z >>= only) (closes ts) ∙ only_head ts (head ts)
      turn_is ts false = operand_is (operand ts)

    chain_is : (n : ℕ) (ts : List Lexeme) → chain_at operand closing n ts ≡ (links_at operand n ts >>= finished)
    unfolding chain_at links_at
    chain_is zero ts = refl
    chain_is (suc n) ts = turn_is (chain_at operand closing n) (links_at operand n) (chain_is n) ts (begins_last ts)

    -- an expression that began at ts
    abbrev as_tree : List Lexeme → Links × List Lexeme → Read (Expr Span)
    as_tree ts p = Some (chained (span_of ts p.1) p.0.0 p.0.1, p.1)

    abbrev as_frame : List Lexeme → Chain → List Lexeme → Head × List Lexeme → Read Step
    as_frame ts chain mid p = Some (step.Opens (framed ts chain mid p.0), p.1)

    tree_body : (ts : List Lexeme) (c : Chain) (mid : List Lexeme) (p : Head) (r : Read (Expr Span))
        → ((r >>= last_body c.operands c.operators mid p) >>= as_tree ts) ≡ (r >>= λ b. Some (closed (framed ts c mid p) b.0 b.1, b.1))
    unfolding closed
    tree_body ts c mid p None = refl
    tree_body ts c mid p (Some b) = refl

    tree_head : (ts : List Lexeme) (c : Chain) (mid : List Lexeme) (r : Read Head)
        → ((r >>= last_head c.operands c.operators mid) >>= as_tree ts) ≡ ((r >>= as_frame ts c mid) >>= go_on inner)
    tree_head ts c mid None = refl
    tree_head ts c mid (Some p) = tree_body ts c mid p.0 (inner p.1)

    tree_end : (ts : List Lexeme) (c : Chain) (mid : List Lexeme) (is_open : Bool)
        → (cond is_open (head mid >>= last_head c.operands c.operators mid) (Some ((c.operands, c.operators), mid)) >>= as_tree ts)
        ≡ (cond is_open (head mid >>= as_frame ts c mid) (Some (step.Whole (chained (span_of ts mid) c.operands c.operators), mid)) >>= go_on inner)
    tree_end ts c mid true = tree_head ts c mid (head mid)
    tree_end ts c mid false = refl

    tree_is : (ts : List Lexeme) (links : Read Chain) → ((links >>= finished) >>= as_tree ts) ≡ ((links >>= ended_at operand head ts) >>= go_on inner)
    tree_is ts None = refl
    tree_is ts (Some c) = tree_end ts c.0 c.1 c.0.is_open

    -- an expression is a step and its last part
    pub expression_is : (ts : List Lexeme) → expression_over_at operand closing ts ≡ (step_at operand head ts >>= go_on inner)
    unfolding expression_over_at step_at
    expression_is ts = ap (λ (z : Read Links). z >>= as_tree ts) (chain_is (length ts) ts) ∙ tree_is ts (links_at operand (length ts) ts)
