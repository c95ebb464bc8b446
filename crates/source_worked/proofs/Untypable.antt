-- That a device which shows `()` in place of a `Bit` has no typing.
use Rattle.std.proofs.Common.{◌≡◌, List, [], ◌∷◌, codes, Some, refl, sym, ◌∙◌, ap, subst, map}
use Rattle.rw_scope_rules.specs.declared.binding.Bound.{Bound}
use Rattle.rw_scope_rules.specs.declared.binding.Binding.TheVariants.{Declared, Operation as Operates}
use Rattle.rw_scope_rules.specs.declared.binding.Operation.TheVariants.{Signal}
use Rattle.rw_tree.specs.Trees.{Expression, variable, application, tuple, Expressions, no_expressions, more_expressions, Alternative, alternative, RightSide, plain_side, LocalBindings, no_bindings}
use Rattle.rw_tree.specs.Declarations.{Declaration, function_declaration}
use Rattle.rw_types_solving.specs.Types.{Ty}
use Rattle.rw_types_rules.specs.Words.{function, functions, tuple_type, computation, device, identity, unit_type}
use Rattle.rw_types_rules.specs.Schemes.{scheme_at}
use Rattle.rw_types_rules.specs.Relabelled.{relabelled_expression, relabelled_expressions, relabelled_alternative, relabelled_side, relabelled_group}
use Rattle.rw_types_rules.specs.TypedTrees.{TypedNode, erased, expression_label, expression_type, expressions_types, group_locals}
use Rattle.rw_types_rules.specs.WellTyped.{given, NameAgrees, ExpressionAgrees, ExpressionsAgree, SideAgrees, IsOwnType, AllClausesAgree, DeclarationAgrees}
use Rattle.source_worked.specs.TypedPrograms.{device_world, shows_unit, plain_node, naming, bit}

-- the parts of the right side, without their types
abbrev shown : Expressions Bound
shown = more_expressions (tuple plain_node no_expressions) no_expressions

abbrev signal : Expression Bound
signal = variable (naming (Operates Signal)) (codes "signal")

-- the type of the device
abbrev wanted : Ty
wanted = computation (device bit bit identity) unit_type

nothing_left : (es : Expressions TypedNode) → relabelled_expressions (λ a. a.node) es ≡ no_expressions → es ≡ no_expressions
nothing_left no_expressions p = refl
nothing_left (more_expressions e es) p = absurd (cc)

unit_typed : (e : Expression TypedNode) → relabelled_expression (λ a. a.node) e ≡ tuple plain_node no_expressions → ExpressionAgrees device_world [] e → expression_type e ≡ unit_type
unit_typed (tuple a es) p h =
    let q : relabelled_expressions (λ b. b.node) es ≡ no_expressions = cc in
    h.0 ∙ ap (λ z. tuple_type (expressions_types z)) (nothing_left es q)
unit_typed _ p _ = absurd (cc)

unit_alone : (es : Expressions TypedNode) → relabelled_expressions (λ a. a.node) es ≡ shown → ExpressionsAgree device_world [] es → expressions_types es ≡ unit_type ∷ []
unit_alone no_expressions p _ = absurd (cc)
unit_alone (more_expressions e es) p h =
    let q : relabelled_expression (λ b. b.node) e ≡ tuple plain_node no_expressions = cc in
    let r : relabelled_expressions (λ b. b.node) es ≡ no_expressions = cc in
    ap (λ z. z ∷ expressions_types es) (unit_typed e q h.0) ∙ ap (λ z. unit_type ∷ expressions_types z) (nothing_left es r)

signals : (e : Expression TypedNode) → relabelled_expression (λ a. a.node) e ≡ signal → ExpressionAgrees device_world [] e
    → expression_type e ≡ function (given (expression_label e).arguments 0) (computation (device (given (expression_label e).arguments 1) (given (expression_label e).arguments 0) (given (expression_label e).arguments 2)) (given (expression_label e).arguments 1))
signals (variable a x) p h =
    let q : a.node ≡ naming (Operates Signal) = cc in
    let i : NameAgrees device_world [] (Some (Operates Signal)) a = subst (λ z. NameAgrees device_world [] z.bound a) q h in
    i.1
signals _ p _ = absurd (cc)

shows_no_bit : (e c i o m : Ty) → e ≡ function unit_type c → e ≡ function o (computation (device i o m) i) → c ≡ wanted → ⊥
shows_no_bit e c i o m p q r =
    let u : unit_type ≡ o = cc in let v : o ≡ bit = cc in absurd (cc)

body_clashes : (e : Expression TypedNode) → relabelled_expression (λ a. a.node) e ≡ application plain_node signal shown → ExpressionAgrees device_world [] e → expression_type e ≡ wanted → ⊥
body_clashes (application a head parts) p h w =
    let q : relabelled_expression (λ b. b.node) head ≡ signal = cc in
    let r : relabelled_expressions (λ b. b.node) parts ≡ shown = cc in
    shows_no_bit _ a.type _ _ _ (h.0 ∙ ap (λ z. functions z a.type) (unit_alone parts r h.2)) (signals head q h.1) w
body_clashes _ p _ w = absurd (cc)

side_clashes : (side : RightSide TypedNode) (type : Ty) → relabelled_side (λ a. a.node) side ≡ plain_side (application plain_node signal shown) → SideAgrees device_world [] [] type side → type ≡ wanted → ⊥
side_clashes (plain_side e) type p h w = body_clashes e (cc) h.1 (sym h.0 ∙ w)
side_clashes _ type p _ w = absurd (cc)

no_group : (group : LocalBindings TypedNode) → relabelled_group (λ a. a.node) group ≡ no_bindings → group ≡ no_bindings
no_group no_bindings p = refl
no_group _ p = absurd (cc)

abbrev body : Alternative Bound
body = alternative plain_node [] (plain_side (application plain_node signal shown)) no_bindings

clauses_clash : (cs : List (Alternative TypedNode)) (type : Ty) → map (relabelled_alternative (λ a. a.node)) cs ≡ body ∷ [] → AllClausesAgree device_world type cs → type ≡ wanted → ⊥
clauses_clash [] type p _ w = absurd (cc)
clauses_clash (alternative b [] side wheres ∷ cs) type p h w =
    let q : relabelled_side (λ a. a.node) side ≡ plain_side (application plain_node signal shown) = cc in
    let r : relabelled_group (λ a. a.node) wheres ≡ no_bindings = cc in
    side_clashes side b.type q (subst (λ z. SideAgrees device_world (group_locals z) [] b.type side) (no_group wheres r) h.1.1) (h.0 ∙ w)
clauses_clash (alternative b (pat ∷ pats) side wheres ∷ cs) type p _ w = absurd (cc)

pub never_agrees : (typed : Declaration TypedNode) → erased typed ≡ shows_unit → DeclarationAgrees device_world typed → ⊥
never_agrees (function_declaration a x cs) p h =
    let q : a.node ≡ naming (Declared 2) = cc in
    let r : map (relabelled_alternative (λ b. b.node)) cs ≡ body ∷ [] = cc in
    let own : a.type ≡ wanted = subst (λ z. IsOwnType (scheme_at device_world z.bound) a.type) q h.0 in
    clauses_clash cs a.type r h.1 own
never_agrees _ p _ = absurd (cc)
