-- What each stage answers is what the front answers.
use Rattle.std.proofs.Common.{◌≡◌, ℕ, List, [], ◌∷◌, Option, Some, None, Result, Ok, Err, refl, sym, ap, subst}
use Rattle.rw_base.specs.declared.place.Span.{Span}
use Rattle.rw_base.specs.Answers.{Fail}
use Rattle.rw_base.specs.declared.fail.Failure.TheVariants as fail
use Rattle.rw_base.specs.declared.fail.Refusal.{Refusal}
use Rattle.rw_tree.specs.Views.{itself}
use Rattle.rw_tree.specs.declared.program.Program.{Program}
use Rattle.rw_tree.specs.Declarations.{Declaration, PlainProgram, plain_program}
use Rattle.rw_scope_rules.specs.declared.binding.Bound.{Bound}
use Rattle.rw_scope_rules.specs.Bindings.{tops_of, bound_program}
use Rattle.rw_types_rules.specs.Schemes.{World, world_of}
use Rattle.rw_types_rules.specs.TypedTrees.{TypedNode}
use Rattle.rw_types_rules.specs.Typings.{IsTypable, IsDefault}
use Rattle.rw_types.specs.declared.typed.TypedDecl.{TypedDecl}
use Rattle.rw_types.specs.Inferred.{AreDefault, AreTypable, IsInferred}
use Rattle.rw_front.specs.declared.source.Checked.{Checked}
use Rattle.rw_front.specs.Stages.{Stage, ◌then◌, AnswersBy}
use Rattle.rw_front.specs.Verdict.{IsRead, with_prelude, told_of, BeginsWithPrelude, Keeps, IsScopedAs, IsTypedAs, IsCoveredAs, StartsAs, Verdict}
use Rattle.rw_front.specs.Fronts.{IsFrontOf, Fronts}
use Rattle.rw_front.proofs.Exact.{answers_after, RefusedAs, refused_first}
use Rattle.rw_front.proofs.Worlds.{bound_world}

-- == One stage ==

abbrev pub err_of : Fail → Result Unit Fail
err_of f = Err f

-- a rule is broken, and told as it is reported
pub keeps_err : {X : Type 0} (Is : PlainProgram Span → Option Refusal → Type 0) (view : X → PlainProgram Span) (program : PlainProgram Span) (f t : Fail) → t ≡ told_of program f
    → ((r : Refusal) → f ≡ fail.Refused r → Is program (Some r)) → AnswersBy (Keeps Is) view program (Err t)
keeps_err {X} Is view program (fail.Refused r) t e is = subst (λ (x : Fail). AnswersBy {X = X} (Keeps Is) view program (Err x)) (sym e) (r, refl, is r refl)
keeps_err {X} Is view program fail.OutOfMemory t e is = subst (λ (x : Fail). AnswersBy {X = X} (Keeps Is) view program (Err x)) (sym e) tt

-- the world and the declarations of a bound program are those of the program
pub inferred_as : (program : PlainProgram Span) (bound : Program Bound) → plain_program itself bound ≡ bound_program program → (r : Result (List TypedDecl) Fail)
    → IsInferred (world_of (plain_program (λ a. a.span) bound).declarations) (plain_program itself bound).declarations r
    → IsInferred (world_of program.declarations) (bound_program program).declarations r
inferred_as program bound e r p =
    let same : (plain_program itself bound).declarations ≡ (bound_program program).declarations = ap (λ (x : PlainProgram Bound). x.declarations) e in
    subst (λ (ds : List (Declaration Bound)). IsInferred (world_of program.declarations) ds r) same
    (subst (λ (w : World). IsInferred w (plain_program itself bound).declarations r) (bound_world bound.decls (tops_of program.declarations) program.declarations same) p)

pub same_default : (program : PlainProgram Span) (bound : Program Bound) → plain_program itself bound ≡ bound_program program → (typed : List (Declaration TypedNode))
    → AreDefault (world_of (plain_program (λ a. a.span) bound).declarations) (plain_program itself bound).declarations typed
    → AreDefault (world_of program.declarations) (plain_program itself bound).declarations typed
same_default program bound e typed p =
    subst (λ (w : World). AreDefault w (plain_program itself bound).declarations typed)
    (bound_world bound.decls (tops_of program.declarations) program.declarations (ap (λ (x : PlainProgram Bound). x.declarations) e)) p

one_typable : (world : World) (d : Declaration Bound) (typed : Declaration TypedNode) → IsDefault world d typed → IsTypable world d
one_typable world d typed p = record { sorts = p.sorts; states = p.states; typed = p.general; typing = p.typing }

all_typable : (world : World) (ds : List (Declaration Bound)) (typed : List (Declaration TypedNode)) → AreDefault world ds typed → AreTypable world ds
all_typable world [] [] p = tt
all_typable world [] (t ∷ ts) p = absurd p
all_typable world (d ∷ ds) [] p = absurd p
all_typable world (d ∷ ds) (t ∷ ts) (p, ps) = (one_typable world d t p, all_typable world ds ts ps)

pub typed_ok : (program : PlainProgram Span) (bound : Program Bound) → plain_program itself bound ≡ bound_program program → (typed : List (Declaration TypedNode))
    → AreDefault (world_of (plain_program (λ a. a.span) bound).declarations) (plain_program itself bound).declarations typed → IsTypedAs program None
typed_ok program bound e typed p =
    subst (AreTypable (world_of program.declarations)) (ap (λ (x : PlainProgram Bound). x.declarations) e)
    (all_typable (world_of program.declarations) (plain_program itself bound).declarations typed (same_default program bound e typed p))

typed_by_refusal : (program : PlainProgram Span) (f : Fail) (r : Refusal) → f ≡ fail.Refused r → IsInferred (world_of program.declarations) (bound_program program).declarations (Err f) → IsTypedAs program (Some r)
typed_by_refusal program f r e p = subst (λ (x : Fail). IsInferred (world_of program.declarations) (bound_program program).declarations (Err x)) e p

pub typed_err : {X : Type 0} (view : X → PlainProgram Span) (program : PlainProgram Span) (bound : Program Bound) → plain_program itself bound ≡ bound_program program → (f t : Fail) → t ≡ told_of program f
    → IsInferred (world_of (plain_program (λ a. a.span) bound).declarations) (plain_program itself bound).declarations (Err f) → AnswersBy (Keeps IsTypedAs) view program (Err t)
typed_err view program bound e f t told p = keeps_err IsTypedAs view program f t told (λ r is. typed_by_refusal program f r is (inferred_as program bound e (Err f) p))

-- == The whole ==

abbrev pub failed : Fail → Result Checked Fail
failed f = Err f

refused_as : {A B X : Type 0} (Is : Stage A B) (view : X → B) (given : A) (f : Fail) → AnswersBy Is view given (Err f) → RefusedAs Is given f
refused_as Is view given (fail.Refused r) p = p
refused_as Is view given fail.OutOfMemory p = tt

abbrev from_types : Stage (PlainProgram Span) (PlainProgram Span)
from_types = Keeps IsTypedAs then (Keeps IsCoveredAs then Keeps StartsAs)

abbrev from_names : Stage (PlainProgram Span) (PlainProgram Span)
from_names = Keeps IsScopedAs then from_types

module _ (bytes : List ℕ) (program : Program Span) (whole : PlainProgram Span) (read : IsRead bytes (Ok program)) (begins : whole ≡ with_prelude program) where
  abbrev whole_of : Checked → PlainProgram Span
  whole_of made = whole

  fronts_err : (f : Fail) → AnswersBy Verdict whole_of bytes (Err f) → Fronts bytes (Err f)
  fronts_err (fail.Refused r) p = p
  fronts_err fail.OutOfMemory p = tt

  from_whole : (f : Fail) → AnswersBy from_names whole_of whole (Err f) → Fronts bytes (Err f)
  from_whole f p =
      fronts_err f (answers_after IsRead (BeginsWithPrelude then from_names) whole_of bytes program read (Err f)
      (answers_after BeginsWithPrelude from_names whole_of program whole begins (Err f) p))

  pub names_err : {X : Type 0} (view : X → PlainProgram Span) (f : Fail) → AnswersBy (Keeps IsScopedAs) view whole (Err f) → Fronts bytes (Err f)
  names_err view f p = from_whole f (refused_first (Keeps IsScopedAs) from_types whole_of whole f (refused_as (Keeps IsScopedAs) view whole f p))

  module _ (names : Keeps IsScopedAs whole (Ok whole)) where
    from_typed : (f : Fail) → AnswersBy from_types whole_of whole (Err f) → Fronts bytes (Err f)
    from_typed f p = from_whole f (answers_after (Keeps IsScopedAs) from_types whole_of whole whole names (Err f) p)

    pub types_err : {X : Type 0} (view : X → PlainProgram Span) (f : Fail) → AnswersBy (Keeps IsTypedAs) view whole (Err f) → Fronts bytes (Err f)
    types_err view f p = from_typed f (refused_first (Keeps IsTypedAs) (Keeps IsCoveredAs then Keeps StartsAs) whole_of whole f (refused_as (Keeps IsTypedAs) view whole f p))

    module _ (types : Keeps IsTypedAs whole (Ok whole)) where
      from_covered : (f : Fail) → AnswersBy (Keeps IsCoveredAs then Keeps StartsAs) whole_of whole (Err f) → Fronts bytes (Err f)
      from_covered f p = from_typed f (answers_after (Keeps IsTypedAs) (Keeps IsCoveredAs then Keeps StartsAs) whole_of whole whole types (Err f) p)

      pub patterns_err : {X : Type 0} (view : X → PlainProgram Span) (f : Fail) → AnswersBy (Keeps IsCoveredAs) view whole (Err f) → Fronts bytes (Err f)
      patterns_err view f p = from_covered f (refused_first (Keeps IsCoveredAs) (Keeps StartsAs) whole_of whole f (refused_as (Keeps IsCoveredAs) view whole f p))

      module _ (patterns : Keeps IsCoveredAs whole (Ok whole)) where
        to_own : {X : Type 0} (view : X → PlainProgram Span) (f : Fail) → AnswersBy (Keeps StartsAs) view whole (Err f) → AnswersBy (Keeps StartsAs) whole_of whole (Err f)
        to_own view (fail.Refused r) p = p
        to_own view fail.OutOfMemory p = tt

        pub start_err : {X : Type 0} (view : X → PlainProgram Span) (f : Fail) → AnswersBy (Keeps StartsAs) view whole (Err f) → Fronts bytes (Err f)
        start_err view f p = from_covered f (answers_after (Keeps IsCoveredAs) (Keeps StartsAs) whole_of whole whole patterns (Err f) (to_own view f p))

        pub all_ok : Keeps StartsAs whole (Ok whole) → (made : Checked) → IsFrontOf whole made → Fronts bytes (Ok made)
        all_ok start made is = (whole, (program, read, (whole, begins, (whole, names, (whole, types, (whole, patterns, start))))), is)
