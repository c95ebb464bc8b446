-- The equations of expressions; a call's arguments and a join's parts, each by its value.
use Rattle.std.proofs.Common.{◌≡◌, List, [], ◌∷◌, ◌++◌, refl, ap, map, ◌∙◌}
use Rattle.std.specs.List.{flat_map}
use Rattle.vh_tree.specs.Bits.{Bits}
use Rattle.vh_tree.specs.Functions.{Scope, expr_of}
use Rattle.vh_tree_equations.specs.Equations.{expr_of-Name, expr_of-Slice, expr_of-Literal, expr_of-Call, expr_of-Join}
use Rattle.vh_tree.specs.declared.expr.VExpr.{VExpr}
use Rattle.vh_tree_equations.proofs.equation_laws.expression_law.Goals as goal

each_valued : (args : List VExpr) (s : Scope) → map (λ (a : Scope → Bits). a s) (map expr_of args) ≡ map (λ a. expr_of a s) args
each_valued [] s = refl
each_valued (a ∷ args) s = ap (λ (vs : List Bits). expr_of a s ∷ vs) (each_valued args s)

each_joined : (parts : List VExpr) (s : Scope) → flat_map (λ (p : Scope → Bits). p s) (map expr_of parts) ≡ flat_map (λ p. expr_of p s) parts
each_joined [] s = refl
each_joined (p ∷ parts) s = ap (λ (bits : Bits). expr_of p s ++ bits) (each_joined parts s)

pub returns-clause-name : goal.returns-clause-name
returns-clause-name c = expr_of-Name

pub returns-clause-slice : goal.returns-clause-slice
returns-clause-slice c = expr_of-Slice

pub returns-clause-literal : goal.returns-clause-literal
returns-clause-literal c = expr_of-Literal

pub returns-clause-call : goal.returns-clause-call
returns-clause-call c f args s = expr_of-Call f args s ∙ ap (s.call f) (each_valued args s)

pub returns-clause-join : goal.returns-clause-join
returns-clause-join c parts s = expr_of-Join parts s ∙ each_joined parts s
