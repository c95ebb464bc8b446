-- The toggle's instances, its table and its flat program.
use Rattle.std.proofs.Common.{◌≡◌, Bool, true, false, List, [], ◌∷◌, refl, ◌&&◌}
use Rattle.std.specs.List.{list_all, list_any}
use Rattle.rw_core.specs.Systems.{leaf}
use Rattle.rw_tree.specs.Trees.{no_bindings}
use Rattle.rw_types_solving.specs.Types.{Ty}
use Rattle.specialise_rules.specs.Instances.{same_type, first_instances, next_instance}
use Rattle.specialise_rules.specs.Tables.{Sees, sees_nothing, sees_known, sees_new, IsTableOf}
use Rattle.rw_core_flat.specs.Terms.{built_term, call_term, no_terms, more_terms, no_lets}
use Rattle.inline_ho_rules.specs.Meants.{no_meants, is_built, none_are, none_in, matched_in, more_variable, none_variable}
use Rattle.inline_ho_rules.specs.TypedFlattening.{is_variable as is_name, is_constructor, is_application, is_lambda, is_case, is_local, is_called, is_signal, is_bind, is_flat, suspended_datum, no_data, more_data, lambda_body, lambda_named, plain_body, none_rows, some_rows, one_arm, all_placed}
use Rattle.inline_ho_rules.specs.TypedPrograms.{IsFlatOf}
use Rattle.flat_worked.specs.TypedToggle.{typed, world, instances, table, functions, start_declared, start_body}

pub listed : first_instances typed 5 ≡ instances
listed = refl

-- types that are there already change nothing
known : (seen types : List Ty) → list_all (λ t. list_any (same_type t) seen) types ≡ true → Sees world seen types seen
known seen [] e = sees_nothing
known seen (t ∷ ts) e = by_first (list_any (same_type t) seen) refl e (λ k. known seen ts k)
  where
    by_first : (b : Bool) → list_any (same_type t) seen ≡ b → (b && list_all (λ t. list_any (same_type t) seen) ts) ≡ true → (list_all (λ t. list_any (same_type t) seen) ts ≡ true → Sees world seen ts seen) → Sees world seen (t ∷ ts) seen
    by_first true h k again = sees_known h (again k)
    by_first false h k again = absurd (cc)

pub all_listed : next_instance typed instances ≡ []
all_listed = refl

pub tabled : IsTableOf world typed instances table
tabled = sees_new refl sees_nothing (sees_known refl (sees_new refl sees_nothing (known table _ refl)))

pub flattened : IsFlatOf world typed instances table functions (leaf 0)
flattened = record {
  tabled = tabled;
  declared = start_declared;
  first = refl;
  start = record { expression = start_body; wheres = no_bindings };
  found = refl;
  made = (
    (
      refl,
      refl,
      (refl, refl),
      record {
        counted = refl;
        next = 0;
        inside = no_meants;
        lets = no_lets;
        term = call_term 1 (more_terms (built_term 0 0 no_terms) no_terms);
        body = refl;
        placed = all_placed;
        flattened = is_application (is_name refl (is_called refl refl refl (more_data (suspended_datum (is_constructor refl refl refl no_data)) no_data)));
      },
    ),
    (
      (
        refl,
        refl,
        (refl, refl),
        plain_body (more_variable none_variable) all_placed (is_application (is_name refl (is_bind (is_application (is_name refl (is_signal (suspended_datum (is_name refl (is_local refl is_flat))))))
            (is_lambda (lambda_named (lambda_body (is_application (is_name refl (is_called refl refl refl (more_data (suspended_datum (is_application (is_name refl (is_called refl refl refl (more_data (suspended_datum (is_name refl (is_local refl is_flat))) no_data))))) no_data)))))))))),
      ),
      (
        (
          refl,
          refl,
          (refl, refl),
          plain_body (more_variable none_variable) all_placed (is_case (is_name refl (is_local refl is_flat))
              (some_rows (matched_in (is_built refl none_are) none_in) all_placed (one_arm (is_constructor refl refl refl no_data))
              (some_rows (matched_in (is_built refl none_are) none_in) all_placed (one_arm (is_constructor refl refl refl no_data)) none_rows))),
        ),
        tt,
      ),
    ),
  );
  numbered = refl;
}
