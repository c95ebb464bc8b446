-- The levels of a node of a chain, and when it is made.
use Rattle.std.proofs.Common.{◌≡◌, ℕ, suc, max, ◌≤◌, nat_lt, Bool, true, false, cond, if◌then◌else◌, List, [], ◌∷◌, Some, None, refl, sym, ap, subst, ◌∙◌, arith, inl, inr, codes}
use Rattle.std.proofs.lemmas.Bool.Decides.{nat_tests}
use Rattle.std.specs.Str.{bytes_eq}
use Rattle.rw_base.specs.declared.place.Span.{Span}
use Rattle.rw_tree.specs.declared.expr.Expr.{Expr}
use Rattle.rw_tree.specs.declared.expr.Expr.TheVariants as e
use Rattle.rw_tree.proofs.Plains.{expression-Apply}
use Rattle.rw_parser_grammar.specs.Lexemes.{span_over}
use Rattle.rw_parser_grammar.specs.Levels.{max_levels, expression_levels}
use Rattle.rw_parser_grammar.specs.Chains.{operator_name, expression_span, operation}
use Rattle.rw_parser_reading.proofs.ReadExact.{bind_some, chosen, some_is}
use Rattle.rw_parser_chains.specs.Grouping.{levels_of, Counted, counted, above, operated}

-- what is counted of a tree is how many levels it has
abbrev pub Fair : Counted → Type 0
Fair c = c.1 ≡ levels_of c.0

abbrev pub AllFair : List Counted → Type 0
AllFair [] = Unit {0}
AllFair (c ∷ cs) = Fair c × AllFair cs

apply_one : (x : Span) (a b : Expr Span) → levels_of (e.Apply x a (b ∷ [])) ≡ suc (max (levels_of a) (levels_of b))
unfolding levels_of
apply_one x a b =
    let h : levels_of (e.Apply x a (b ∷ [])) ≡ suc (max (levels_of a) (max (levels_of b) 0)) = ap expression_levels (expression-Apply (λ span. span) x a (b ∷ [])) in
    omega (arith, h)

apply_two : (x : Span) (o a b : Expr Span) → levels_of (e.Apply x o (a ∷ b ∷ [])) ≡ suc (max (levels_of o) (max (levels_of a) (levels_of b)))
unfolding levels_of
apply_two x o a b =
    let h : levels_of (e.Apply x o (a ∷ b ∷ [])) ≡ suc (max (levels_of o) (max (levels_of a) (max (levels_of b) 0))) = ap expression_levels (expression-Apply (λ span. span) x o (a ∷ b ∷ [])) in
    omega (arith, h)

chosen_levels : (d : Bool) (x : Span) (o a b : Expr Span) → levels_of (cond d (e.Apply x a (b ∷ [])) (e.Apply x o (a ∷ b ∷ []))) ≡ suc (cond d (max (levels_of a) (levels_of b)) (max (levels_of o) (max (levels_of a) (levels_of b))))
chosen_levels true x o a b = apply_one x a b
chosen_levels false x o a b = apply_two x o a b

-- an operation stands one level above its parts
pub node_levels : (o a b : Expr Span) → levels_of (operation o a b) ≡ suc (if bytes_eq (operator_name o) (codes "$") then max (levels_of a) (levels_of b) else max (levels_of o) (max (levels_of a) (levels_of b)))
node_levels o a b = chosen_levels (bytes_eq (operator_name o) (codes "$")) (span_over (expression_span a) (expression_span b)) o a b

under_chosen : (d : Bool) (l m n : ℕ) → (m ≤ cond d (max m n) (max l (max m n))) × (n ≤ cond d (max m n) (max l (max m n)))
under_chosen true l m n = (omega arith, omega arith)
under_chosen false l m n = (omega arith, omega arith)

-- operands have fewer levels
pub operands_levels : (o a b : Expr Span) → levels_of (operation o a b) ≤ max_levels → (levels_of a ≤ max_levels) × (levels_of b ≤ max_levels)
operands_levels o a b h =
    let p = under_chosen (bytes_eq (operator_name o) (codes "$")) (levels_of o) (levels_of a) (levels_of b) in
    let s = node_levels o a b in
    (omega (arith, p.0, s, h), omega (arith, p.1, s, h))

pub above_is : (n m : ℕ) → m ≡ suc n → m ≤ max_levels → above n ≡ Some m
unfolding above
above_is n m e l = let h : nat_lt n max_levels ≡ true = grind (arith, nat_tests) in rw (h, e) refl

pub above_gave : (n m : ℕ) → above n ≡ Some m → (m ≡ suc n) × (m ≤ max_levels)
unfolding above
above_gave n m e =
    elim (chosen (nat_lt n max_levels) _ _ _ e) [
      | inl h ↦ let s = some_is _ _ h.1 in let t = h.0 in (sym s, grind (arith, nat_tests))
      | inr h ↦ absurd (let f : None ≡ Some m = h.1 in cc)
    ]

-- a node of at most 512 levels is made
pub operated_is : (o a b : Expr Span) → levels_of (operation o a b) ≤ max_levels → operated (counted o) (counted a) (counted b) ≡ Some (counted (operation o a b))
unfolding operated
operated_is o a b l = rw (above_is _ _ (node_levels o a b) l) refl

-- and what is made is the node
pub operated_gave : (o a b c : Counted) → Fair o → Fair a → Fair b → operated o a b ≡ Some c → (c.0 ≡ operation o.0 a.0 b.0) × Fair c
unfolding operated
operated_gave o a b c f g h e =
    let p = bind_some (above (if bytes_eq (operator_name o.0) (codes "$") then max a.1 b.1 else max o.1 (max a.1 b.1))) (λ n. Some (operation o.0 a.0 b.0, n)) c e in
    let q = some_is _ _ p.2 in
    let tree : c.0 ≡ operation o.0 a.0 b.0 = sym (ap (λ r. r.0) q) in
    let levels : c.1 ≡ suc (if bytes_eq (operator_name o.0) (codes "$") then max a.1 b.1 else max o.1 (max a.1 b.1)) = sym (ap (λ r. r.1) q) ∙ (above_gave _ _ p.1).0 in
    let fair : levels_of (operation o.0 a.0 b.0) ≡ suc (if bytes_eq (operator_name o.0) (codes "$") then max a.1 b.1 else max o.1 (max a.1 b.1)) = rw (f, g, h) (node_levels o.0 a.0 b.0) in
    (tree, levels ∙ sym fair ∙ ap levels_of (sym tree))

pub operated_within : (o a b c : Counted) → operated o a b ≡ Some c → c.1 ≤ max_levels
unfolding operated
operated_within o a b c e =
    let p = bind_some (above (if bytes_eq (operator_name o.0) (codes "$") then max a.1 b.1 else max o.1 (max a.1 b.1))) (λ n. Some (operation o.0 a.0 b.0, n)) c e in
    let q = some_is _ _ p.2 in
    subst (λ n. n ≤ max_levels) (ap (λ r. r.1) q) (above_gave _ _ p.1).1
