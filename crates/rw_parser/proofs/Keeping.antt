-- What is kept of items, one after the other, is what the items before the first that is too deep are joined to, with the fixity declarations behind.
use Rattle.std.proofs.Common.{◌≡◌, ◌∙◌, ℕ, Bool, true, false, not, cond, is_some, List, [], ◌∷◌, ◌++◌, Option, Some, None, Result, Ok, Err, refl, sym, ap, nat_le, append-nil}
use Rattle.std.proofs.lemmas.Bool.{cases_Bool}
use Rattle.std.proofs.Common.{inl, inr}
use Rattle.rw_base.specs.declared.place.Place.{Place}
use Rattle.rw_base.specs.declared.place.Span.{Span}
use Rattle.rw_tree.specs.declared.decl.Decl.{Decl}
use Rattle.rw_tree.specs.declared.decl.Decl.TheVariants.{Import, Data, Fixity, Sig, Fun}
use Rattle.rw_parser_grammar.specs.declared.item.Item.{Item}
use Rattle.rw_parser_grammar.specs.declared.item.Item.TheVariants as i
use Rattle.rw_parser_grammar.specs.declared.lexeme.Lexeme.{Lexeme}
use Rattle.rw_parser_reading.specs.Frames.{frames_of_item, kept}
use Rattle.rw_parser_grammar.specs.Levels.{max_levels}
use Rattle.rw_parser_grammar.specs.Grammar.{item_groups, declarations_of}
use Rattle.rw_parser_reading.specs.ReadProgram.{items_at, item_before}
use Rattle.rw_parser_reading.specs.Shallow.{is_fixity, fixities, is_shallow, shallow, item_place, first_deep}
use Rattle.rw_parser_parts.specs.declared.joined.Group.{Group}
use Rattle.rw_parser.specs.Joined.{closed, with_item}
use Rattle.rw_parser.specs.Shallow.{Kept, with_kept, nothing, keeping, kept_behind}
use Rattle.rw_parser.proofs.Joins.{all_of, item_joined, all_joined}

-- items behind what was joined
with_items : List (Decl Span) × Option Group → List Item → List (Decl Span) × Option Group
with_items made [] = made
with_items made (item ∷ items) = with_items (with_item made item) items

items_joined : (made : List (Decl Span) × Option Group) (items : List Item) → closed (with_items made items) ≡ all_of made items
unfolding with_items
items_joined (all, going) [] = sym (all_joined all going)
items_joined made (item ∷ items) = items_joined (with_item made item) items ∙ item_joined made item items

all_items_joined : (items : List Item) → closed (with_items ([], None) items) ≡ declarations_of (item_groups items)
all_items_joined items = items_joined ([], None) items

keeps : (item : Item) → is_shallow item ≡ true → kept frames_of_item max_levels item ≡ Some item
unfolding kept
keeps item h = rw h

drops : (item : Item) → is_shallow item ≡ false → kept frames_of_item max_levels item ≡ None
unfolding kept
drops item h = rw h

deep_no_fixity : (item : Item) → is_shallow item ≡ false → is_fixity item ≡ false
deep_no_fixity (i.Clause name row) h = refl
deep_no_fixity (i.Whole (Import span name)) h = refl
deep_no_fixity (i.Whole (Data span made)) h = refl
deep_no_fixity (i.Whole (Fixity span at k names)) h = absurd (cc)
deep_no_fixity (i.Whole (Sig span names type)) h = refl
deep_no_fixity (i.Whole (Fun span name rows)) h = refl

module _ (made : List (Decl Span) × Option Group) (at : Place) where
  -- one item behind another that is too deep
  one_behind : (item : Item) (items : List Item) → with_items (with_kept (made, Some at) (item_place item) (kept frames_of_item max_levels item)).0 (fixities items) ≡ with_items made (fixities (item ∷ items))
  unfolding with_items
  one_behind item items =
      elim (cases_Bool (is_shallow item)) [
        | inl h ↦ elim (cases_Bool (is_fixity item)) [
          | inl k ↦ rw (keeps item h, k) refl
          | inr k ↦ rw (keeps item h, k) refl
        ]
        | inr h ↦ rw (drops item h, deep_no_fixity item h) refl
      ]

  still_deep : (item : Item) → (with_kept (made, Some at) (item_place item) (kept frames_of_item max_levels item)).1 ≡ Some at
  still_deep item =
      elim (cases_Bool (is_shallow item)) [
        | inl h ↦ elim (cases_Bool (is_fixity item)) [
          | inl k ↦ rw (keeps item h, k) refl
          | inr k ↦ rw (keeps item h, k) refl
        ]
        | inr h ↦ rw (drops item h) refl
      ]

-- behind an item that is too deep
behind_deep : (made : List (Decl Span) × Option Group) (at : Place) (items : List Item) → keeping (made, Some at) items ≡ (with_items made (fixities items), Some at)
unfolding with_items
behind_deep made at [] = refl
behind_deep made at (item ∷ items) =
    let next : Kept = with_kept (made, Some at) (item_place item) (kept frames_of_item max_levels item) in
    let step : next ≡ (next.0, Some at) = ap (λ z. (next.0, z)) (still_deep made at item) in
    ap (λ z. keeping z items) step ∙ behind_deep next.0 at items ∙ ap (λ z. (z, Some at)) (one_behind made at item items)

-- what is kept of items
all_kept : (made : List (Decl Span) × Option Group) (items : List Item) → keeping (made, None) items ≡ (with_items made (shallow items), first_deep items)
unfolding with_items
all_kept made [] = refl
all_kept made (item ∷ items) =
    elim (cases_Bool (is_shallow item)) [
      | inl h ↦ rw (keeps item h, h) (all_kept (with_item made item) items)
      | inr h ↦ rw (drops item h, h) (behind_deep made (item_place item) items)
    ]

pub kept_declarations : (items : List Item) → closed (keeping nothing items).0 ≡ declarations_of (item_groups (shallow items))
kept_declarations items = ap (λ z. closed z.0) (all_kept ([], None) items) ∙ all_items_joined (shallow items)

pub kept_deep : (items : List Item) → (keeping nothing items).1 ≡ first_deep items
kept_deep items = ap (λ z. z.1) (all_kept ([], None) items)

-- ---- one item behind what is kept
pub kept_next : (before : Kept) (item : Item) (at : Place) (others : Result (List Item) Place)
    → kept_behind before (item_before at (Some item) others) ≡ kept_behind (with_kept before (item_place item) (kept frames_of_item max_levels item)) others
kept_next before item at (Ok items) = refl
kept_next before item at (Err later) = refl
