-- What is no application of `par` or `refold` is a leaf, and arguments are put before others.
use Rattle.std.proofs.Common.{◌≡◌, false, List, [], ◌∷◌, ◌++◌, Option, Some, None, refl, ap, sym, ◌∙◌, Bor}
use Rattle.rw_scope_rules.specs.declared.binding.Operation.TheVariants.{Return, Bind, Then, Get, Put, Lift, Signal, Extrude, Par, Refold}
use Rattle.rw_scope_rules.specs.declared.binding.Binding.{Binding}
use Rattle.rw_scope_rules.specs.declared.binding.Binding.TheVariants.{Declared, Operation as Operates, Constructor as Constructs, Local}
use Rattle.rw_tree.specs.Trees.{Expression, variable, constructor, application, tuple, chain, lambda, let_in, if_then_else, case_of, do_block, Expressions, no_expressions, more_expressions}
use Rattle.rw_core.specs.Systems.{leaf}
use Rattle.rw_meaning.specs.Systems.{SystemOver, operated, system_with, with_systems}
use Rattle.rw_tree.specs.declared.expr.Expr.{Expr}
use Rattle.rw_systems.specs.Heads.{joins, heads_system}
use Rattle.rw_systems.specs.declared.parts.Parts.TheVariants as p
use Rattle.rw_systems.specs.declared.parts.Parts.TheOpen.{Parts-F}
use Rattle.rw_systems.specs.declared.parts.Parts.TheFolds.{fold-roll-Parts}
use Rattle.rw_systems.specs.Shown.{seen, shown, parts_step}

module _ {A : Type 0} where
  joins_not : (whole : Expression A) (b : Option Binding) (arguments : List (Expression A × SystemOver A)) → joins b ≡ false → operated whole b arguments ≡ leaf whole
  joins_not whole None arguments h = refl
  joins_not whole (Some (Declared n)) arguments h = refl
  joins_not whole (Some (Constructs n k)) arguments h = refl
  joins_not whole (Some (Local k)) arguments h = refl
  joins_not whole (Some (Operates Return)) arguments h = refl
  joins_not whole (Some (Operates Bind)) arguments h = refl
  joins_not whole (Some (Operates Then)) arguments h = refl
  joins_not whole (Some (Operates Get)) arguments h = refl
  joins_not whole (Some (Operates Put)) arguments h = refl
  joins_not whole (Some (Operates Lift)) arguments h = refl
  joins_not whole (Some (Operates Signal)) arguments h = refl
  joins_not whole (Some (Operates Extrude)) arguments h = refl
  joins_not whole (Some (Operates Par)) arguments h = absurd (cc)
  joins_not whole (Some (Operates Refold)) arguments h = absurd (cc)

  module _ (binding : A → Option Binding) where
    pub leaf_alone : (whole e : Expression A) (arguments : List (Expression A × SystemOver A)) → heads_system binding e ≡ false → system_with binding whole e arguments ≡ leaf whole
    leaf_alone whole (application a head parts) arguments h = leaf_alone whole head (with_systems binding parts arguments) h
    leaf_alone whole (variable a x) arguments h = joins_not whole (binding a) arguments h
    leaf_alone whole (constructor a c) arguments h = refl
    leaf_alone whole (tuple a parts) arguments h = refl
    leaf_alone whole (chain a operands operators) arguments h = refl
    leaf_alone whole (lambda a pats body) arguments h = refl
    leaf_alone whole (let_in a group body) arguments h = refl
    leaf_alone whole (if_then_else a test first second) arguments h = refl
    leaf_alone whole (case_of a scrutinee rows) arguments h = refl
    leaf_alone whole (do_block a body) arguments h = refl

    pub systems_before : (es : Expressions A) (others : List (Expression A × SystemOver A)) → with_systems binding es others ≡ with_systems binding es [] ++ others
    systems_before no_expressions others = refl
    systems_before (more_expressions e es) others = ap (λ z. (e, system_with binding e e []) ∷ z) (systems_before es others)

  pub shown_leaf : (e : Bor (Expr A)) → shown (p.Leaf e) ≡ leaf (seen e.now)
  shown_leaf e = ap shown (sym (p.rolls-Leaf e)) ∙ fold-roll-Parts A (SystemOver A) parts_step (Parts-F.Leaf e)
