-- An item is read as the functions on lists say, with its tree kept where it has 512 frames at most.
use Rattle.std.proofs.Common.{◌≡◌, ◌∙◌, ℕ, ◌≤◌, List, length, Some, None, refl, sym, ap, nat_le, codes, inl, inr}
use Rattle.std.proofs.lemmas.Bool.{cases_Bool}
use Rattle.rw_base.specs.declared.place.Span.{Span}
use Rattle.rw_tree.specs.declared.clause.Alt.{Alt}
use Rattle.rw_tree.specs.declared.decl.Decl.{Decl}
use Rattle.rw_parser_grammar.specs.declared.item.Item.TheVariants as i
use Rattle.rw_parser_grammar.specs.declared.lexeme.Mark.TheVariants as m
use Rattle.rw_parser_grammar.specs.declared.lexeme.Lexeme.{Lexeme}
use Rattle.rw_parser_reading.specs.Frames.{frames_of_declaration, frames_of_item, kept, cut}
use Rattle.rw_parser_grammar.specs.Levels.{max_levels}
use Rattle.rw_parser_reading.specs.Read.{◌>>=◌, Read, sees, after, separated_at}
use Rattle.rw_parser_reading.specs.ReadTypes.{type_at}
use Rattle.rw_parser_reading.specs.ReadDeclarations.{module_name_at, behind_word, behind_as, exports_at, import_at, side_at, strength_at, operator_name_at, fixity_at, data_at, newtype_at, data_or_newtype_at, signature_at, whole_item, begins_signed, begins_fixity, named_item_at, item_over_at, item_at}
use Rattle.rw_parser_reading.specs.ReadLevels.{clause_over, expression_at, locals_at}
use Rattle.rw_parser_reading.proofs.ReadExact.{bind_some, moved}
use Rattle.rw_parser_items.specs.Kept.{data_kept, newtype_kept, signature_kept}
use Rattle.rw_parser_items.proofs.Cut.{data_cut, newtype_cut, signature_cut}
use Rattle.rw_parser.specs.Clauses.{frames_of_clause}
use Rattle.rw_parser.specs.Kept.{whole, clause_of, named_item_kept, item_kept}
use Rattle.rw_parser.proofs.Agree.{data_enough, newtype_enough, signature_enough}

-- a declaration that is kept as an item
whole_kept : (a : Decl Span) → whole (kept frames_of_declaration max_levels a) ≡ kept frames_of_item max_levels (i.Whole a)
unfolding kept
whole_kept a =
    elim (cases_Bool (nat_le (frames_of_declaration a) max_levels)) [
      | inl h ↦ rw h refl
      | inr h ↦ rw h refl
    ]

clause_kept : (c : List ℕ × Alt Span) → clause_of (kept frames_of_clause max_levels c) ≡ kept frames_of_item max_levels (i.Clause c.0 c.1)
unfolding kept
clause_kept c =
    elim (cases_Bool (nat_le (frames_of_clause c) max_levels)) [
      | inl h ↦ rw h refl
      | inr h ↦ rw h refl
    ]

whole_cut : (r : Read (Decl Span)) → (cut frames_of_declaration max_levels r >>= (λ p. Some (whole p.0, p.1))) ≡ cut frames_of_item max_levels (r >>= whole_item)
whole_cut None = refl
whole_cut (Some p) = ap (λ z. Some (z, p.1)) (whole_kept p.0)

clause_cut : (r : Read (List ℕ × Alt Span)) → (cut frames_of_clause max_levels r >>= (λ p. Some (clause_of p.0, p.1))) ≡ cut frames_of_item max_levels (r >>= (λ c. Some (i.Clause c.0.0 c.0.1, c.1)))
clause_cut None = refl
clause_cut (Some p) = ap (λ z. Some (z, p.1)) (clause_kept p.0)

-- a declaration without frames is kept
flat : (a : Decl Span) → frames_of_declaration a ≡ 0 → kept frames_of_item max_levels (i.Whole a) ≡ Some (i.Whole a)
unfolding kept
flat a h = rw h refl

flat_cut : (r : Read (Decl Span)) → ((p : Decl Span × List Lexeme) → r ≡ Some p → frames_of_declaration p.0 ≡ 0) → (r >>= (λ p. Some (Some (i.Whole p.0), p.1))) ≡ cut frames_of_item max_levels (r >>= whole_item)
flat_cut None h = refl
flat_cut (Some p) h = ap (λ z. Some (z, p.1)) (sym (flat p.0 (h p refl)))

import_flat : (ts : List Lexeme) (p : Decl Span × List Lexeme) → import_at ts ≡ Some p → frames_of_declaration p.0 ≡ 0
unfolding import_at
import_flat ts p e =
    let b = bind_some (after m.Import ts) _ p e in
    let c = bind_some (module_name_at (behind_word (codes "qualified") b.0)) _ p b.2 in
    let f = bind_some (behind_as c.0.1) _ p c.2 in
    let g = bind_some (exports_at (behind_word (codes "hiding") f.0)) _ p f.2 in
    moved (λ z. frames_of_declaration z.0 ≡ 0) _ p g.2 refl

fixity_flat : (ts : List Lexeme) (p : Decl Span × List Lexeme) → fixity_at ts ≡ Some p → frames_of_declaration p.0 ≡ 0
unfolding fixity_at
fixity_flat ts p e =
    let b = bind_some (side_at ts) _ p e in
    let c = bind_some (strength_at b.0.1) _ p b.2 in
    let f = bind_some (separated_at m.Comma operator_name_at (length c.0.1) c.0.1) _ p c.2 in
    moved (λ z. frames_of_declaration z.0 ≡ 0) _ p f.2 refl

module _ (n : ℕ) (ts : List Lexeme) (l : length ts ≤ n) where
  signature_read : signature_kept max_levels ts ≡ cut frames_of_declaration max_levels (signature_at (type_at n) ts)
  signature_read = signature_cut max_levels ts ∙ ap (cut frames_of_declaration max_levels) (signature_enough n ts l)

  data_read : data_kept max_levels ts ≡ cut frames_of_declaration max_levels (data_at (type_at n) ts)
  data_read = data_cut max_levels ts ∙ ap (cut frames_of_declaration max_levels) (data_enough n ts l)

  newtype_read : newtype_kept max_levels ts ≡ cut frames_of_declaration max_levels (newtype_at (type_at n) ts)
  newtype_read = newtype_cut max_levels ts ∙ ap (cut frames_of_declaration max_levels) (newtype_enough n ts l)

  named_cut : named_item_kept n ts ≡ cut frames_of_item max_levels (named_item_at (type_at n) (clause_over n (expression_at n) (locals_at n)) ts)
  unfolding named_item_kept named_item_at
  named_cut =
      elim (cases_Bool (begins_signed ts)) [
        | inl h ↦ rw (h, signature_read) (whole_cut (signature_at (type_at n) ts))
        | inr h ↦ rw h (clause_cut (clause_over n (expression_at n) (locals_at n) ts))
      ]

  pub item_cut : item_kept n ts ≡ cut frames_of_item max_levels (item_at n ts)
  unfolding item_kept item_at item_over_at data_or_newtype_at
  item_cut =
      elim (cases_Bool (sees m.Import ts)) [
        | inl h ↦ rw h (flat_cut (import_at ts) (import_flat ts))
        | inr h ↦ elim (cases_Bool (sees m.Data ts)) [
          | inl k ↦ rw (h, k, data_read) (whole_cut (data_at (type_at n) ts))
          | inr k ↦ elim (cases_Bool (sees m.Newtype ts)) [
            | inl j ↦ rw (h, k, j, newtype_read) (whole_cut (newtype_at (type_at n) ts))
            | inr j ↦ elim (cases_Bool (begins_fixity ts)) [
              | inl f ↦ rw (h, k, j, f) (flat_cut (fixity_at ts) (fixity_flat ts))
              | inr f ↦ rw (h, k, j, f) named_cut
            ]
          ]
        ]
      ]
