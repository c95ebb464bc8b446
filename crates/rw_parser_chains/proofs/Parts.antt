-- The operands and operators of a chain have no more levels than its tree may have.
use Rattle.std.proofs.Common.{◌≡◌, ◌∙◌, ℕ, suc, max, ◌≤◌, Bool, true, false, cond, refl, sym, ap, arith, List, [], ◌∷◌, ◌++◌, codes}
use Rattle.std.specs.Str.{bytes_eq}
use Rattle.rw_base.specs.declared.place.Span.{Span}
use Rattle.rw_tree.specs.declared.expr.Expr.{Expr}
use Rattle.rw_tree.specs.declared.expr.Expr.TheVariants as expr
use Rattle.rw_parser_grammar.specs.Levels.{max_levels}
use Rattle.rw_parser_grammar.specs.Chains.{Strength, operator_name, operator_step, operation, IsGrouped, one_operand, grouped_at}
use Rattle.rw_parser_chains.specs.Grouping.{levels_of}
use Rattle.rw_parser_chains.proofs.Nodes.{node_levels, operands_levels}
use Rattle.rw_parser_chains.proofs.Induction.{Claims, every_expression}
use Rattle.rw_parser_chains.proofs.Sizes as size
use Rattle.rw_parser_chains.proofs.Sizes.{all_size}

joined_size : (xs ys : List (Expr Span)) → all_size levels_of (xs ++ ys) ≡ max (all_size levels_of xs) (all_size levels_of ys)
joined_size [] ys = omega arith
joined_size (x ∷ xs) ys = let e = joined_size xs ys in omega (arith, e)

nameless : (name : List ℕ) → name ≡ [] → bytes_eq name (codes "$") ≡ true → ⊥
nameless name n e = let h : false ≡ true = ap (λ z. bytes_eq z (codes "$")) (sym n) ∙ e in absurd (cc)

-- what has a name is a name, one level of a tree
abbrev OneLevel : Expr Span → Type 0
OneLevel o = bytes_eq (operator_name o) (codes "$") ≡ true → levels_of o ≡ 1

named : Claims (λ _. Unit {0}) (λ _. Unit {0}) (λ _. Unit {0}) OneLevel (λ _. Unit {0}) (λ _. Unit {0})
named = record {
  variable = λ x name e. size.levels-Var x name;
  constructor = λ x name e. size.levels-Con x name;
  application = λ x head parts _ _ e. absurd (nameless (operator_name (expr.Apply x head parts)) (ap operator_step (expr.outs-Apply x head parts)) e);
  tuple = λ x parts _ e. absurd (nameless (operator_name (expr.Tuple x parts)) (ap operator_step (expr.outs-Tuple x parts)) e);
  chain = λ x operands operators _ _ e. absurd (nameless (operator_name (expr.Chain x operands operators)) (ap operator_step (expr.outs-Chain x operands operators)) e);
  lambda = λ x pats body _ e. absurd (nameless (operator_name (expr.Lambda x pats body)) (ap operator_step (expr.outs-Lambda x pats body)) e);
  let_in = λ x locals body _ _ e. absurd (nameless (operator_name (expr.Let x locals body)) (ap operator_step (expr.outs-Let x locals body)) e);
  if_then_else = λ x test first second _ _ _ e. absurd (nameless (operator_name (expr.If x test first second)) (ap operator_step (expr.outs-If x test first second)) e);
  case_of = λ x scrutinee rows _ _ e. absurd (nameless (operator_name (expr.Case x scrutinee rows)) (ap operator_step (expr.outs-Case x scrutinee rows)) e);
  do_block = λ x statements _ e. absurd (nameless (operator_name (expr.Do x statements)) (ap operator_step (expr.outs-Do x statements)) e);
  plain = λ body _. tt;
  guarded = λ bodies _. tt;
  signature = λ x name type. tt;
  function = λ x name rows _. tt;
  bound = λ x row _. tt;
  bind = λ x pat body _. tt;
  let_statement = λ x locals _. tt;
  run = λ x body _. tt;
  row = λ row _ _. tt;
  guard = λ guard _ _. tt;
}

named_levels : (o : Expr Span) → bytes_eq (operator_name o) (codes "$") ≡ true → levels_of o ≡ 1
named_levels = every_expression (λ _. Unit {0}) (λ _. Unit {0}) (λ _. Unit {0}) OneLevel (λ _. Unit {0}) (λ _. Unit {0}) named

-- an operator that is named `$` is a name, and any other is a part of the node
operator_levels : (o a b : Expr Span) → levels_of (operation o a b) ≤ max_levels → levels_of o ≤ max_levels
operator_levels o a b l = go (bytes_eq (operator_name o) (codes "$")) refl
  where
    go : (d : Bool) → bytes_eq (operator_name o) (codes "$") ≡ d → levels_of o ≤ max_levels
    go true e = let n = named_levels o e in omega (arith, n)
    go false e =
        let s : levels_of (operation o a b) ≡ suc (max (levels_of o) (max (levels_of a) (levels_of b))) =
        node_levels o a b ∙ ap (λ d. suc (cond d (max (levels_of a) (levels_of b)) (max (levels_of o) (max (levels_of a) (levels_of b))))) e in
        omega (arith, s, l)

pub chain_parts : (strength : List ℕ → Strength) {xs os : List (Expr Span)} {t : Expr Span} → IsGrouped strength xs os t → levels_of t ≤ max_levels
    → (all_size levels_of xs ≤ max_levels) × (all_size levels_of os ≤ max_levels)
chain_parts strength (one_operand a) l = (omega (arith, l), omega arith)
chain_parts strength (grouped_at o a b lefts rights os ps d f h k) l =
    let under = operands_levels o a b l in
    let p = chain_parts strength d under.0 in
    let q = chain_parts strength f under.1 in
    let e = joined_size lefts rights in
    let g = joined_size os (o ∷ ps) in
    let n = operator_levels o a b l in
    (omega (arith, p.0, q.0, e), omega (arith, p.1, q.1, g, n))
