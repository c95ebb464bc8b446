-- The system that the body of `start` is: devices side by side, and devices whose outputs are fed back. `par` and `refold` stand only as heads
-- of applications on the way to a leaf.
use Rattle.std.specs.Prelude.{List, [], ◌∷◌, codes, Option, Some, None, if◌then◌else◌}
use Rattle.rw_scope_rules.specs.declared.binding.Operation.TheVariants.{Par, Refold}
use Rattle.rw_scope_rules.specs.declared.binding.Binding.{Binding}
use Rattle.rw_scope_rules.specs.declared.binding.Binding.TheVariants.{Operation as Operates}
use Rattle.rw_scope_rules.specs.declared.binding.Bound.{Bound}
use Rattle.rw_scope_rules.specs.Names.{is_among}
use Rattle.rw_tree.specs.Trees.{Expression, variable, application, Expressions, no_expressions, more_expressions, Alternative, alternative, plain_side, LocalBindings}
use Rattle.rw_tree.specs.Declarations.{Declaration, function_declaration}
use Rattle.rw_core.specs.Systems.{System, leaf, side_by_side, fed_back}

-- a system of expressions with these annotations
abbrev pub SystemOver : Type 0 → Type 0
SystemOver A = System (Expression A) (Expression A)

-- that of a source whose names are bound
abbrev pub SourceSystem : Type 0
SourceSystem = SystemOver Bound

-- what a name makes of these arguments, each with its own system; `whole` is the application
abbrev pub operated : {A : Type 0} → Expression A → Option Binding → List (Expression A × SystemOver A) → SystemOver A
operated whole (Some (Operates Par)) (d ∷ e ∷ []) = side_by_side d.1 e.1
operated whole (Some (Operates Refold)) (f ∷ g ∷ d ∷ []) = fed_back f.0 g.0 d.1
operated whole _ arguments = leaf whole

-- over any annotation that tells what its name is bound to
module _ {A : Type 0} (binding : A → Option Binding) where
  -- the system of an expression: `whole` is it, and `e` what is left of it when these arguments are taken off
  abbrev mutual
    pub system_with : Expression A → Expression A → List (Expression A × SystemOver A) → SystemOver A
    system_with whole (application a head parts) arguments = system_with whole head (with_systems parts arguments)
    system_with whole (variable a x) arguments = operated whole (binding a) arguments
    system_with whole _ arguments = leaf whole

    -- arguments, each with its own system, before others
    pub with_systems : Expressions A → List (Expression A × SystemOver A) → List (Expression A × SystemOver A)
    with_systems no_expressions others = others
    with_systems (more_expressions e es) others = (e, system_with e e []) ∷ with_systems es others

  abbrev pub system_of : Expression A → SystemOver A
  system_of e = system_with e e []

-- what a name is bound to
abbrev pub binding_of : Bound → Option Binding
binding_of a = a.bound

-- the body of `start`: one clause without patterns and guards; with what is bound after its `where`
pub record Body (A : Type 0) : Type 0 where
  pub expression : Expression A
  pub wheres : LocalBindings A

abbrev pub body_of : {A : Type 0} → List (Alternative A) → Option (Body A)
body_of (alternative a [] (plain_side e) wheres ∷ []) = Some (record { expression = e; wheres = wheres })
body_of _ = None

-- that of the first declaration of `start`
abbrev pub start_of : {A : Type 0} → List (Declaration A) → Option (Body A)
start_of [] = None
start_of (function_declaration a x clauses ∷ ds) = if is_among x (codes "start" ∷ []) then body_of clauses else start_of ds
start_of (d ∷ ds) = start_of ds
