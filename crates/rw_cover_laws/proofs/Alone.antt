-- A type has no more than one shape at an instance.
use Rattle.std.proofs.Common.{◌≡◌, refl, sym, ap, subst, ◌∙◌, ℕ, List, [], ◌∷◌, map}
use Rattle.rw_types_solving.specs.declared.term.Head.TheVariants as head
use Rattle.rw_types_solving.specs.Types.{Ty, var, app, apply}
use Rattle.rw_types_rules.specs.WellTyped.{given}
use Rattle.rw_cover_matrix.specs.Values.{Shape, opaque, data_of, Shapes, no_shapes, more_shapes, Choices, one_choice, more_choices}
use Rattle.rw_cover_laws.specs.Shapes.{listed, HasShape, HaveShapes, HaveChoices}

module _ (fields : ℕ → List (List Ty)) (variables unknowns : ℕ → Shape) where
  no_choices : (c : Choices) (arguments : List Ty) → HaveChoices fields variables unknowns c arguments [] → ⊥
  no_choices (one_choice columns) arguments h = h
  no_choices (more_choices columns others) arguments h = h

  no_data : (c : Choices) (n : ℕ) (arguments : List Ty) → fields n ≡ [] → HaveChoices fields variables unknowns c arguments (fields n) → ⊥
  no_data c n arguments e h = no_choices c arguments (subst (λ (all : List (List Ty)). HaveChoices fields variables unknowns c arguments all) e h)

  mutual
    pub one_shape : (s o : Shape) (t : Ty) → HasShape fields variables unknowns s t → HasShape fields variables unknowns o t → s ≡ o
    one_shape s o (var x) h k = h ∙ sym k
    one_shape s o (app (head.Unknown n) parts) h k = h ∙ sym k
    one_shape opaque opaque t h k = refl
    one_shape opaque (data_of d) (app (head.Data n) parts) h k = absurd (no_data d n (listed parts) h k)
    one_shape opaque (data_of d) (app head.Tuple parts) h k = absurd h
    one_shape opaque (data_of d) t h k = absurd k
    one_shape (data_of c) opaque (app (head.Data n) parts) h k = absurd (no_data c n (listed parts) k h)
    one_shape (data_of c) opaque (app head.Tuple parts) h k = absurd k
    one_shape (data_of c) opaque t h k = absurd h
    one_shape (data_of c) (data_of d) (app (head.Data n) parts) h k = ap data_of (same_choices c d (listed parts) (fields n) h k)
    one_shape (data_of (one_choice columns)) (data_of (one_choice others)) (app head.Tuple parts) h k = ap (λ (ss : Shapes). data_of (one_choice ss)) (same_shapes columns others (listed parts) h k)
    one_shape (data_of (one_choice columns)) (data_of (more_choices others ds)) (app head.Tuple parts) h k = absurd k
    one_shape (data_of (more_choices columns cs)) (data_of d) (app head.Tuple parts) h k = absurd h
    one_shape (data_of c) (data_of d) t h k = absurd h

    same_shapes : (ss os : Shapes) (ts : List Ty) → HaveShapes fields variables unknowns ss ts → HaveShapes fields variables unknowns os ts → ss ≡ os
    same_shapes no_shapes no_shapes ts h k = refl
    same_shapes no_shapes (more_shapes o os) [] h k = absurd k
    same_shapes no_shapes (more_shapes o os) (t ∷ ts) h k = absurd h
    same_shapes (more_shapes s ss) no_shapes [] h k = absurd h
    same_shapes (more_shapes s ss) no_shapes (t ∷ ts) h k = absurd k
    same_shapes (more_shapes s ss) (more_shapes o os) [] h k = absurd h
    same_shapes (more_shapes s ss) (more_shapes o os) (t ∷ ts) h k =
        ap (λ (z : Shape). more_shapes z ss) (one_shape s o t h.0 k.0) ∙ ap (more_shapes o) (same_shapes ss os ts h.1 k.1)

    same_choices : (cs ds : Choices) (arguments : List Ty) (all : List (List Ty)) → HaveChoices fields variables unknowns cs arguments all → HaveChoices fields variables unknowns ds arguments all → cs ≡ ds
    same_choices (one_choice ss) ds arguments [] h k = absurd h
    same_choices (one_choice ss) (one_choice os) arguments (takes ∷ []) h k = ap one_choice (same_shapes ss os (map (apply (given arguments)) takes) h k)
    same_choices (one_choice ss) (more_choices os ds) arguments (takes ∷ []) h k = absurd (no_choices ds arguments k.1)
    same_choices (one_choice ss) ds arguments (takes ∷ next ∷ rest) h k = absurd h
    same_choices (more_choices ss cs) ds arguments [] h k = absurd h
    same_choices (more_choices ss cs) (one_choice os) arguments (takes ∷ []) h k = absurd (no_choices cs arguments h.1)
    same_choices (more_choices ss cs) (one_choice os) arguments (takes ∷ next ∷ rest) h k = absurd k
    same_choices (more_choices ss cs) (more_choices os ds) arguments (takes ∷ rest) h k =
        ap (λ (z : Shapes). more_choices z cs) (same_shapes ss os (map (apply (given arguments)) takes) h.0 k.0) ∙ ap (more_choices os) (same_choices cs ds arguments rest h.1 k.1)
