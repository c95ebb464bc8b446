-- The names that an expression's system leaves out are the heads of its applications; and no rule is broken exactly where both hold.
use Rattle.std.proofs.Common.{◌≡◌, ◌∙◌, ℕ, ◌+◌, sym, ap, List, [], ◌∷◌, ◌++◌, length, length-append, append-nil, Option, Some, None, Result, Ok, Err, OnOk, arith}
use Rattle.rw_base.specs.declared.place.Place.{Place}
use Rattle.rw_base.specs.declared.rule.Rule.TheVariants.{E15, E16}
use Rattle.rw_base.specs.Answers.{Fail}
use Rattle.rw_scope_rules.specs.declared.binding.Operation.TheVariants.{Return, Bind, Then, Get, Put, Lift, Signal, Extrude, Par, Refold}
use Rattle.rw_scope_rules.specs.declared.binding.Binding.{Binding}
use Rattle.rw_scope_rules.specs.declared.binding.Binding.TheVariants.{Declared, Operation as Operates, Constructor as Constructs, Local}
use Rattle.rw_scope_rules.specs.declared.binding.Bound.{Bound}
use Rattle.rw_tree.specs.Trees.{Expression, variable, constructor, application, tuple, chain, lambda, let_in, if_then_else, case_of, do_block, Expressions, no_expressions, more_expressions}
use Rattle.rw_tree.specs.Declarations.{PlainProgram}
use Rattle.rw_scope_rules.specs.Names.{at_if, earliest}
use Rattle.rw_scope_rules.specs.Nodes.{Node, expression_nodes, expressions_nodes}
use Rattle.rw_scope_rules.specs.Verdict.{broken_first}
use Rattle.rw_core.specs.Systems.{leaf}
use Rattle.rw_meaning.specs.Systems.{binding_of, SourceSystem, operated, system_with, with_systems, system_of}
use Rattle.rw_start.specs.Positions.{inner_nodes, is_stray, misplaced, strays}
use Rattle.rw_start.specs.Start.{improper_start}
use Rattle.rw_base.specs.Answers.{IsJudged}
use Rattle.rw_start.specs.Judged.{IsStarted, applications, first_broken_of_two}
use Rattle.rw_scope_rules.proofs.FirstBroken.{unbroken}
use Rattle.rw_start.proofs.Found.{parted}

module _ (s : Option ℕ) where
  -- how many names stand out of place in some nodes, in an expression and in a system
  abbrev in_nodes : List (Node Bound) → ℕ
  in_nodes ms = length (strays s ms)

  abbrev in_tree : Expression Bound → ℕ
  in_tree e = in_nodes (expression_nodes e)

  abbrev in_system : SourceSystem → ℕ
  in_system y = applications y + in_nodes (inner_nodes y)

  in_both : (ms ns : List (Node Bound)) → in_nodes (ms ++ ns) ≡ in_nodes ms + in_nodes ns
  in_both ms ns = ap length (parted s ms ns) ∙ length-append (strays s ms) (strays s ns)

  -- in arguments
  abbrev in_arguments : List (Expression Bound × SourceSystem) → ℕ
  in_arguments [] = 0
  in_arguments (v ∷ vs) = in_tree v.0 + in_arguments vs

  -- the law holds of each of these
  abbrev Fit : List (Expression Bound × SourceSystem) → Type 0
  Fit [] = Unit
  Fit (v ∷ vs) = (in_tree v.0 ≡ in_system v.1) × Fit vs

  in_more : (es : Expressions Bound) (others : List (Expression Bound × SourceSystem)) → in_arguments (with_systems binding_of es others) ≡ in_nodes (expressions_nodes es) + in_arguments others
  in_more no_expressions others = omega arith
  in_more (more_expressions e es) others =
      let rest : in_arguments (with_systems binding_of es others) ≡ in_nodes (expressions_nodes es) + in_arguments others = in_more es others in
      let both : in_nodes (expression_nodes e ++ expressions_nodes es) ≡ in_tree e + in_nodes (expressions_nodes es) = in_both (expression_nodes e) (expressions_nodes es) in
      omega (arith, rest, both)

  module _ (whole : Expression Bound) where
    alone : in_tree whole ≡ in_system (leaf whole)
    alone = omega arith

    -- what a name that is bound to this makes of these arguments
    by_name : (b : Option Binding) (p : Place) (vs : List (Expression Bound × SourceSystem)) → Fit vs → in_tree whole ≡ length (at_if (is_stray s b) p) + in_arguments vs → in_tree whole ≡ in_system (operated whole b vs)
    by_name None p vs fit h = alone
    by_name (Some (Declared n)) p vs fit h = alone
    by_name (Some (Constructs n k)) p vs fit h = alone
    by_name (Some (Local k)) p vs fit h = alone
    by_name (Some (Operates Return)) p vs fit h = alone
    by_name (Some (Operates Bind)) p vs fit h = alone
    by_name (Some (Operates Then)) p vs fit h = alone
    by_name (Some (Operates Get)) p vs fit h = alone
    by_name (Some (Operates Put)) p vs fit h = alone
    by_name (Some (Operates Lift)) p vs fit h = alone
    by_name (Some (Operates Signal)) p vs fit h = alone
    by_name (Some (Operates Extrude)) p vs fit h = alone
    by_name (Some (Operates Par)) p [] fit h = alone
    by_name (Some (Operates Par)) p (d ∷ []) fit h = alone
    by_name (Some (Operates Par)) p (d ∷ e ∷ []) fit h =
        let both : in_nodes (inner_nodes d.1 ++ inner_nodes e.1) ≡ in_nodes (inner_nodes d.1) + in_nodes (inner_nodes e.1) = in_both (inner_nodes d.1) (inner_nodes e.1) in
        let first : in_tree d.0 ≡ in_system d.1 = fit.0 in
        let second : in_tree e.0 ≡ in_system e.1 = fit.1.0 in
        let sum : in_tree whole ≡ 1 + (in_tree d.0 + (in_tree e.0 + 0)) = h in
        omega (arith, both, first, second, sum)
    by_name (Some (Operates Par)) p (d ∷ e ∷ v ∷ vs) fit h = alone
    by_name (Some (Operates Refold)) p [] fit h = alone
    by_name (Some (Operates Refold)) p (f ∷ []) fit h = alone
    by_name (Some (Operates Refold)) p (f ∷ g ∷ []) fit h = alone
    by_name (Some (Operates Refold)) p (f ∷ g ∷ d ∷ []) fit h =
        let outer : in_nodes (expression_nodes f.0 ++ (expression_nodes g.0 ++ inner_nodes d.1)) ≡ in_tree f.0 + in_nodes (expression_nodes g.0 ++ inner_nodes d.1) = in_both (expression_nodes f.0) (expression_nodes g.0 ++ inner_nodes d.1) in
        let inner : in_nodes (expression_nodes g.0 ++ inner_nodes d.1) ≡ in_tree g.0 + in_nodes (inner_nodes d.1) = in_both (expression_nodes g.0) (inner_nodes d.1) in
        let third : in_tree d.0 ≡ in_system d.1 = fit.1.1.0 in
        let sum : in_tree whole ≡ 1 + (in_tree f.0 + (in_tree g.0 + (in_tree d.0 + 0))) = h in
        omega (arith, outer, inner, third, sum)
    by_name (Some (Operates Refold)) p (f ∷ g ∷ d ∷ v ∷ vs) fit h = alone

  mutual
    -- an expression, of which this is left when these arguments are taken off
    taken_off : (whole e : Expression Bound) (vs : List (Expression Bound × SourceSystem)) → Fit vs → in_tree whole ≡ in_tree e + in_arguments vs → in_tree whole ≡ in_system (system_with binding_of whole e vs)
    taken_off whole (application a head parts) vs fit h =
        let more : in_arguments (with_systems binding_of parts vs) ≡ in_nodes (expressions_nodes parts) + in_arguments vs = in_more parts vs in
        let both : in_nodes (expression_nodes head ++ expressions_nodes parts) ≡ in_tree head + in_nodes (expressions_nodes parts) = in_both (expression_nodes head) (expressions_nodes parts) in
        let sum : in_tree whole ≡ in_nodes (expression_nodes head ++ expressions_nodes parts) + in_arguments vs = h in
        taken_off whole head (with_systems binding_of parts vs) (fit_more parts vs fit) (omega (arith, more, both, sum))
    taken_off whole (variable a x) vs fit h = by_name whole a.bound a.span.first vs fit (h ∙ ap (λ k. k + in_arguments vs) (ap length (append-nil (at_if (is_stray s a.bound) a.span.first))))
    taken_off whole (constructor a c) vs fit h = alone whole
    taken_off whole (tuple a parts) vs fit h = alone whole
    taken_off whole (chain a operands operators) vs fit h = alone whole
    taken_off whole (lambda a pats body) vs fit h = alone whole
    taken_off whole (let_in a group body) vs fit h = alone whole
    taken_off whole (if_then_else a test first second) vs fit h = alone whole
    taken_off whole (case_of a scrutinee rows) vs fit h = alone whole
    taken_off whole (do_block a steps) vs fit h = alone whole

    fit_more : (es : Expressions Bound) (others : List (Expression Bound × SourceSystem)) → Fit others → Fit (with_systems binding_of es others)
    fit_more no_expressions others fit = fit
    fit_more (more_expressions e es) others fit = (taken_off e e [] tt (omega arith), fit_more es others fit)

  pub heads_left_out : (e : Expression Bound) → in_tree e ≡ in_system (system_of binding_of e)
  heads_left_out e = taken_off e e [] tt (omega arith)

pub both_hold : (program : PlainProgram Bound) → first_broken_of_two program ≡ None → IsStarted program
both_hold program h =
    let a = unbroken E15 _ _ h in
    let b = unbroken E16 _ _ a.1 in
    record { start_is_proper = a.0; systems_are_in_place = b.0 }

-- both hold where each call found nothing
pub both_judged : (program : PlainProgram Bound) (places given : List Place) (r : Result Unit Fail) → broken_first E15 (earliest (improper_start program)) None ≡ None
    → places ≡ misplaced program → given ≡ places → IsJudged (broken_first E16 (earliest given) None) r → OnOk r (IsStarted program)
both_judged program places given (Ok x) first is same second =
    record {
      start_is_proper = (unbroken E15 (improper_start program) None first).0;
      systems_are_in_place = sym is ∙ sym same ∙ (unbroken E16 given None second).0;
    }
both_judged program places given (Err e) first is same second = tt
