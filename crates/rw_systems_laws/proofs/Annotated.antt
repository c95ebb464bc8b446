-- What stands at the nodes of a tree, but for what its names are bound to, does not matter to its system.
use Rattle.std.proofs.Common.{◌≡◌, List, [], ◌∷◌, map, Bool, true, false, if◌then◌else◌, codes, Option, Some, None, refl}
use Rattle.std.specs.Option.{option_map}
use Rattle.rw_scope_rules.specs.declared.binding.Operation.TheVariants.{Return, Bind, Then, Get, Put, Lift, Signal, Extrude, Par, Refold}
use Rattle.rw_scope_rules.specs.declared.binding.Binding.{Binding}
use Rattle.rw_scope_rules.specs.declared.binding.Binding.TheVariants.{Declared, Operation as Operates, Constructor as Constructs, Local}
use Rattle.rw_scope_rules.specs.Names.{is_among}
use Rattle.rw_tree.specs.Trees.{Expression, variable, constructor, application, tuple, chain, lambda, let_in, if_then_else, case_of, do_block, Expressions, no_expressions, more_expressions, Alternative, alternative, plain_side, guarded_side}
use Rattle.rw_tree.specs.Declarations.{Declaration, import_declaration, data_declaration, fixity_declaration, signature_declaration, function_declaration}
use Rattle.rw_types_rules.specs.Relabelled.{relabelled_expression, relabelled_expressions, relabelled_alternative, relabelled_declaration}
use Rattle.rw_meaning.specs.Systems.{SystemOver, operated, system_with, with_systems, system_of, Body, body_of, start_of}
use Rattle.rw_systems_laws.specs.Annotated.{IsRelabelled, IsRelabelledSystem, relabelled_start}

module _ {A B : Type 0} (f : A → B) where
  -- arguments with their systems, one by one
  abbrev AreRelabelled : List (Expression A × SystemOver A) → List (Expression B × SystemOver B) → Type 0
  AreRelabelled [] [] = Unit {0}
  AreRelabelled (u ∷ us) (v ∷ vs) = (IsRelabelled f u.0 v.0 × IsRelabelledSystem f u.1 v.1) × AreRelabelled us vs
  AreRelabelled _ _ = ⊥

  operated_alike : (e : Expression A) (b : Option Binding) (us : List (Expression A × SystemOver A)) (vs : List (Expression B × SystemOver B)) → AreRelabelled us vs
      → IsRelabelledSystem f (operated e b us) (operated (relabelled_expression f e) b vs)
  operated_alike e None us vs h = refl
  operated_alike e (Some (Declared n)) us vs h = refl
  operated_alike e (Some (Constructs n k)) us vs h = refl
  operated_alike e (Some (Local k)) us vs h = refl
  operated_alike e (Some (Operates Return)) us vs h = refl
  operated_alike e (Some (Operates Bind)) us vs h = refl
  operated_alike e (Some (Operates Then)) us vs h = refl
  operated_alike e (Some (Operates Get)) us vs h = refl
  operated_alike e (Some (Operates Put)) us vs h = refl
  operated_alike e (Some (Operates Lift)) us vs h = refl
  operated_alike e (Some (Operates Signal)) us vs h = refl
  operated_alike e (Some (Operates Extrude)) us vs h = refl
  operated_alike e (Some (Operates Par)) [] [] h = refl
  operated_alike e (Some (Operates Par)) [] (v ∷ vs) h = absurd h
  operated_alike e (Some (Operates Par)) (u ∷ us) [] h = absurd h
  operated_alike e (Some (Operates Par)) (u ∷ []) (v ∷ []) h = refl
  operated_alike e (Some (Operates Par)) (u ∷ []) (v ∷ w ∷ vs) h = absurd (h.1)
  operated_alike e (Some (Operates Par)) (u ∷ t ∷ us) (v ∷ []) h = absurd (h.1)
  operated_alike e (Some (Operates Par)) (u ∷ t ∷ []) (v ∷ w ∷ []) h = (h.0.1, h.1.0.1)
  operated_alike e (Some (Operates Par)) (u ∷ t ∷ []) (v ∷ w ∷ x ∷ vs) h = absurd (h.1.1)
  operated_alike e (Some (Operates Par)) (u ∷ t ∷ s ∷ us) (v ∷ w ∷ []) h = absurd (h.1.1)
  operated_alike e (Some (Operates Par)) (u ∷ t ∷ s ∷ us) (v ∷ w ∷ x ∷ vs) h = refl
  operated_alike e (Some (Operates Refold)) [] [] h = refl
  operated_alike e (Some (Operates Refold)) [] (v ∷ vs) h = absurd h
  operated_alike e (Some (Operates Refold)) (u ∷ us) [] h = absurd h
  operated_alike e (Some (Operates Refold)) (u ∷ []) (v ∷ []) h = refl
  operated_alike e (Some (Operates Refold)) (u ∷ []) (v ∷ w ∷ vs) h = absurd (h.1)
  operated_alike e (Some (Operates Refold)) (u ∷ t ∷ us) (v ∷ []) h = absurd (h.1)
  operated_alike e (Some (Operates Refold)) (u ∷ t ∷ []) (v ∷ w ∷ []) h = refl
  operated_alike e (Some (Operates Refold)) (u ∷ t ∷ []) (v ∷ w ∷ x ∷ vs) h = absurd (h.1.1)
  operated_alike e (Some (Operates Refold)) (u ∷ t ∷ s ∷ us) (v ∷ w ∷ []) h = absurd (h.1.1)
  operated_alike e (Some (Operates Refold)) (u ∷ t ∷ s ∷ []) (v ∷ w ∷ x ∷ []) h = (h.0.0, h.1.0.0, h.1.1.0.1)
  operated_alike e (Some (Operates Refold)) (u ∷ t ∷ s ∷ []) (v ∷ w ∷ x ∷ y ∷ vs) h = absurd (h.1.1.1)
  operated_alike e (Some (Operates Refold)) (u ∷ t ∷ s ∷ r ∷ us) (v ∷ w ∷ x ∷ []) h = absurd (h.1.1.1)
  operated_alike e (Some (Operates Refold)) (u ∷ t ∷ s ∷ r ∷ us) (v ∷ w ∷ x ∷ y ∷ vs) h = refl

  module _ (binding : B → Option Binding) where
    mutual
      with_alike : (whole e : Expression A) (us : List (Expression A × SystemOver A)) (vs : List (Expression B × SystemOver B)) → AreRelabelled us vs
          → IsRelabelledSystem f (system_with (λ a. binding (f a)) whole e us) (system_with binding (relabelled_expression f whole) (relabelled_expression f e) vs)
      with_alike whole (application a head parts) us vs h = with_alike whole head (with_systems (λ a. binding (f a)) parts us) (with_systems binding (relabelled_expressions f parts) vs) (arguments_alike parts us vs h)
      with_alike whole (variable a x) us vs h = operated_alike whole (binding (f a)) us vs h
      with_alike whole (constructor a c) us vs h = refl
      with_alike whole (tuple a parts) us vs h = refl
      with_alike whole (chain a operands operators) us vs h = refl
      with_alike whole (lambda a pats body) us vs h = refl
      with_alike whole (let_in a group body) us vs h = refl
      with_alike whole (if_then_else a test first second) us vs h = refl
      with_alike whole (case_of a scrutinee rows) us vs h = refl
      with_alike whole (do_block a steps) us vs h = refl

      arguments_alike : (es : Expressions A) (us : List (Expression A × SystemOver A)) (vs : List (Expression B × SystemOver B)) → AreRelabelled us vs
          → AreRelabelled (with_systems (λ a. binding (f a)) es us) (with_systems binding (relabelled_expressions f es) vs)
      arguments_alike no_expressions us vs h = h
      arguments_alike (more_expressions e es) us vs h = ((refl, with_alike e e [] [] tt), arguments_alike es us vs h)

    pub system_alike : (e : Expression A) → IsRelabelledSystem f (system_of (λ a. binding (f a)) e) (system_of binding (relabelled_expression f e))
    system_alike e = with_alike e e [] [] tt

  -- == The body of `start` ==

  body_alike : (clauses : List (Alternative A)) → body_of (map (relabelled_alternative f) clauses) ≡ option_map (relabelled_start f) (body_of clauses)
  body_alike [] = refl
  body_alike (alternative a [] (plain_side e) wheres ∷ []) = refl
  body_alike (alternative a [] (guarded_side guards) wheres ∷ []) = refl
  body_alike (alternative a (p ∷ ps) (plain_side e) wheres ∷ []) = refl
  body_alike (alternative a (p ∷ ps) (guarded_side guards) wheres ∷ []) = refl
  body_alike (alternative a [] (plain_side e) wheres ∷ c ∷ cs) = refl
  body_alike (alternative a [] (guarded_side guards) wheres ∷ c ∷ cs) = refl
  body_alike (alternative a (p ∷ ps) (plain_side e) wheres ∷ c ∷ cs) = refl
  body_alike (alternative a (p ∷ ps) (guarded_side guards) wheres ∷ c ∷ cs) = refl

  by_test : (b : Bool) (x : Option (Body B)) (y : Option (Body A)) (xs : Option (Body B)) (ys : Option (Body A)) → x ≡ option_map (relabelled_start f) y → xs ≡ option_map (relabelled_start f) ys
      → (if b then x else xs) ≡ option_map (relabelled_start f) (if b then y else ys)
  by_test true x y xs ys e h = e
  by_test false x y xs ys e h = h

  pub start_alike : (ds : List (Declaration A)) → start_of (map (relabelled_declaration f) ds) ≡ option_map (relabelled_start f) (start_of ds)
  start_alike [] = refl
  start_alike (import_declaration a m ∷ ds) = start_alike ds
  start_alike (data_declaration a x params constructors ∷ ds) = start_alike ds
  start_alike (fixity_declaration a s n names ∷ ds) = start_alike ds
  start_alike (signature_declaration a names type ∷ ds) = start_alike ds
  start_alike (function_declaration a x clauses ∷ ds) = by_test (is_among x (codes "start" ∷ [])) _ (body_of clauses) _ (start_of ds) (body_alike clauses) (start_alike ds)
