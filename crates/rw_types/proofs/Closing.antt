-- Types whose leftover variables are closed.
use Rattle.std.proofs.Common.{◌≡◌, ℕ, zero, suc, ◌<◌, ◌≤◌, List, [], ◌∷◌, map, length, get_or, refl, sym, ◌∙◌, ap, inl, inr, arith}
use Rattle.std.proofs.lemmas.List.{length-map}
use Rattle.rw_types_solving.specs.declared.term.Sort.{Sort}
use Rattle.rw_types_solving.specs.declared.term.Sort.TheVariants as s
use Rattle.rw_types_solving.specs.declared.term.Term.{Term}
use Rattle.rw_types_solving.specs.Types.{Ty, var, plains, apply, meaning}
use Rattle.rw_types_solving.specs.Closing.{closed_as, sort_of}
use Rattle.rw_types_solving.proofs.MostGeneral.{plains_length, meaning_beyond, in_or_out}
use Rattle.rw_types_rules.specs.Words.{unit_type}
use Rattle.rw_types_rules.specs.Typings.{leftover}
use Rattle.rw_types_shared.specs.Shared.{Node, type_at}
use Rattle.rw_types.specs.Inferred.{type_of}

sort_beyond : (sorts : List Sort) (x : ℕ) → length sorts ≤ x → sort_of sorts x ≡ s.Plain
sort_beyond [] x l = refl
sort_beyond (k ∷ ks) zero l = absurd (omega arith)
sort_beyond (k ∷ ks) (suc x) l = sort_beyond ks x (omega arith)

at_map : (f : Ty → Ty) (xs : List Ty) (z : ℕ) (d e : Ty) → z < length xs → get_or (map f xs) z d ≡ f (get_or xs z e)
at_map f [] z d e l = absurd (omega arith)
at_map f (x ∷ xs) zero d e l = refl
at_map f (x ∷ xs) (suc z) d e l = at_map f xs z d e (omega arith)

at_beyond : (xs : List Ty) (z : ℕ) (e : Ty) → length xs ≤ z → get_or xs z e ≡ e
at_beyond [] z e l = refl
at_beyond (x ∷ xs) zero e l = absurd (omega arith)
at_beyond (x ∷ xs) (suc z) e l = at_beyond xs z e (omega arith)

module _ (sorts : List Sort) (types : List Term) (nodes : List Node) (made : List ℕ) (n : length sorts ≡ length types)
    (closed : map (type_at nodes) made ≡ map (apply (leftover (sort_of sorts))) (plains types)) where
  closed_in : (x : ℕ) → x < length types → type_of nodes made x ≡ apply (leftover (sort_of sorts)) (meaning types x)
  closed_in x l =
      let m = plains_length types in
      ap (λ (ts : List Ty). get_or ts x unit_type) closed ∙ at_map (apply (leftover (sort_of sorts))) (plains types) x unit_type (var x) (omega arith)

  closed_out : (x : ℕ) → length types ≤ x → type_of nodes made x ≡ apply (leftover (sort_of sorts)) (meaning types x)
  closed_out x l =
      let m = plains_length types in let many = length-map (plains types) (apply (leftover (sort_of sorts))) in
      ap (λ (ts : List Ty). get_or ts x unit_type) closed ∙ at_beyond (map (apply (leftover (sort_of sorts))) (plains types)) x unit_type (omega arith)
      ∙ sym (ap closed_as (sort_beyond sorts x (omega arith))) ∙ sym (ap (apply (leftover (sort_of sorts))) (meaning_beyond types x l))

  pub closed_all : (x : ℕ) → type_of nodes made x ≡ apply (leftover (sort_of sorts)) (meaning types x)
  closed_all x = elim (in_or_out x (length types)) [
    | inl l ↦ closed_in x l
    | inr l ↦ closed_out x l
  ]
