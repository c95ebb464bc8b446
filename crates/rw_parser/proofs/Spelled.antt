-- One run, from what its item is if it is kept.
use Rattle.std.proofs.Common.{◌≡◌, ◌∙◌, ℕ, ◌≤◌, Bool, true, false, cond, List, [], ◌∷◌, length, Option, Some, None, Err, refl, sym, ap}
use Rattle.rw_base.specs.declared.place.Place.{Place}
use Rattle.rw_parser_grammar.specs.declared.item.Item.{Item}
use Rattle.rw_parser_grammar.specs.declared.lexeme.Lexeme.{Lexeme}
use Rattle.rw_parser_reading.specs.Frames.{frames_of_item, kept, cut}
use Rattle.rw_parser_grammar.specs.Levels.{max_levels}
use Rattle.rw_parser_grammar.specs.Grammar.{whole_run}
use Rattle.rw_parser_grammar.specs.Lexemes.{next_spot}
use Rattle.rw_parser_reading.specs.Read.{◌>>=◌, Read}
use Rattle.rw_parser_reading.specs.ReadDeclarations.{item_at}
use Rattle.rw_parser_reading.specs.ReadProgram.{is_last, item_of, item_before, items_at}
use Rattle.rw_parser_reading.specs.Shallow.{item_place}
use Rattle.rw_parser_laws.proofs.ReadProgram.{item_sound}
use Rattle.rw_parser_laws.proofs.Shallow.{place_of_item}
use Rattle.rw_parser.specs.Kept.{item_kept}
use Rattle.rw_parser.specs.Shallow.{Kept, with_kept, kept_behind}
use Rattle.rw_parser.specs.Reading.{run_kept}
use Rattle.rw_parser.proofs.Items.{item_cut}
use Rattle.rw_parser.proofs.Keeping.{kept_next}

-- ---- the item of a run, as the code finds it
module _ (n : ℕ) (ts run : List Lexeme) (end : Lexeme) (w : ts ≡ whole_run run end) where
  pub run_none : item_kept n ts ≡ None → run_kept n run end ≡ None
  unfolding run_kept
  run_none e = let f : item_kept n (whole_run run end) ≡ None = ap (item_kept n) (sym w) ∙ e in rw f refl

  pub run_is : (o : Option Item) (rest : List Lexeme) → item_kept n ts ≡ Some (o, rest) → is_last end rest ≡ true → run_kept n run end ≡ Some o
  unfolding run_kept
  run_is o rest e h = let f : item_kept n (whole_run run end) ≡ Some (o, rest) = ap (item_kept n) (sym w) ∙ e in rw (f, h) refl

  pub run_other : (o : Option Item) (rest : List Lexeme) → item_kept n ts ≡ Some (o, rest) → is_last end rest ≡ false → run_kept n run end ≡ None
  unfolding run_kept
  run_other o rest e h = let f : item_kept n (whole_run run end) ≡ Some (o, rest) = ap (item_kept n) (sym w) ∙ e in rw (f, h) refl

-- ---- what it tells of the grammar

-- the same item, cut or not
ending : (end : Lexeme) (r : Read Item) → (cut frames_of_item max_levels r >>= (λ p. cond (is_last end p.1) (Some p.0) None)) ≡ ((r >>= (λ p. cond (is_last end p.1) (Some p.0) None)) >>= (λ item. Some (kept frames_of_item max_levels item)))
ending end None = refl
ending end (Some p) = by_end (is_last end p.1)
  where
    by_end : (x : Bool) → cond x (Some (kept frames_of_item max_levels p.0)) None ≡ (cond x (Some p.0) None >>= (λ item. Some (kept frames_of_item max_levels item)))
    by_end true = refl
    by_end false = refl

pub run_cut : (n : ℕ) (run : List Lexeme) (end : Lexeme) → length (whole_run run end) ≤ n → run_kept n run end ≡ (item_of n (run, end) >>= (λ item. Some (kept frames_of_item max_levels item)))
unfolding run_kept item_of
run_cut n run end l =
    ap (λ z. z >>= (λ p. cond (is_last end p.1) (Some p.0) None)) (item_cut n (whole_run run end) l) ∙ ending end (item_at n (whole_run run end))

module _ (n : ℕ) (x : Lexeme) (xs : List Lexeme) (end : Lexeme) (runs : List (List Lexeme × Lexeme)) (before : Kept) where
  by_item : (r : Option Item) (o : Option Item) → item_of n (x ∷ xs, end) ≡ r → (r >>= (λ item. Some (kept frames_of_item max_levels item))) ≡ Some o
      → kept_behind before (items_at n ((x ∷ xs, end) ∷ runs)) ≡ kept_behind (with_kept before (next_spot (x ∷ xs)).place o) (items_at n runs)
  by_item None o e f = absurd (let g : None ≡ Some o = f in cc)
  by_item (Some item) o e f =
      let k : kept frames_of_item max_levels item ≡ o = cc in
      let place : item_place item ≡ (next_spot (x ∷ xs)).place = place_of_item n (item_sound n (x ∷ xs) end item e) in
      ap (λ z. kept_behind before (item_before (next_spot (x ∷ xs)).place z (items_at n runs))) e ∙ kept_next before item (next_spot (x ∷ xs)).place (items_at n runs)
      ∙ ap (λ z. kept_behind (with_kept before z (kept frames_of_item max_levels item)) (items_at n runs)) place ∙ ap (λ z. kept_behind (with_kept before (next_spot (x ∷ xs)).place z) (items_at n runs)) k

  no_item : (r : Option Item) → item_of n (x ∷ xs, end) ≡ r → (r >>= (λ item. Some (kept frames_of_item max_levels item))) ≡ None → kept_behind before (items_at n ((x ∷ xs, end) ∷ runs)) ≡ Err (next_spot (x ∷ xs)).place
  no_item None e f = ap (λ z. kept_behind before (item_before (next_spot (x ∷ xs)).place z (items_at n runs))) e
  no_item (Some item) e f = absurd (let g : Some (kept frames_of_item max_levels item) ≡ None = f in cc)

-- ---- a run that is not empty
module _ (n : ℕ) (run : List Lexeme) (end : Lexeme) (place : Place) (before : Kept) (l : length (whole_run run end) ≤ n) (some : (run ≡ []) → ⊥) (first : place ≡ (next_spot run).place) (runs : List (List Lexeme × Lexeme)) where
  pub run_next : (o : Option Item) → run_kept n run end ≡ Some o → kept_behind before (items_at n ((run, end) ∷ runs)) ≡ kept_behind (with_kept before place o) (items_at n runs)
  run_next o e = go run l some first e
    where
      go : (ys : List Lexeme) → length (whole_run ys end) ≤ n → ((ys ≡ []) → ⊥) → place ≡ (next_spot ys).place → run_kept n ys end ≡ Some o
          → kept_behind before (items_at n ((ys, end) ∷ runs)) ≡ kept_behind (with_kept before place o) (items_at n runs)
      go [] h k f g = absurd (k refl)
      go (x ∷ xs) h k f g =
          by_item n x xs end runs before (item_of n (x ∷ xs, end)) o refl (sym (run_cut n (x ∷ xs) end h) ∙ g) ∙ ap (λ z. kept_behind (with_kept before z o) (items_at n runs)) (sym f)

  pub run_refused : run_kept n run end ≡ None → kept_behind before (items_at n ((run, end) ∷ runs)) ≡ Err place
  run_refused e = go run l some first e
    where
      go : (ys : List Lexeme) → length (whole_run ys end) ≤ n → ((ys ≡ []) → ⊥) → place ≡ (next_spot ys).place → run_kept n ys end ≡ None → kept_behind before (items_at n ((ys, end) ∷ runs)) ≡ Err place
      go [] h k f g = absurd (k refl)
      go (x ∷ xs) h k f g = no_item n x xs end runs before (item_of n (x ∷ xs, end)) refl (sym (run_cut n (x ∷ xs) end h) ∙ g) ∙ ap Err (sym f)
