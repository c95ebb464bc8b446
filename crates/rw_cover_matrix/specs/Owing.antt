-- What has to cover in the place of rows: a list of others, of fewer patterns.
use Rattle.std.specs.Prelude.{ℕ, suc, zero, ◌+◌, ◌*◌, ◌^◌, ◌≡◌, ◌<◌, ◌⊎◌, Bool, true, false, List, [], ◌∷◌, ◌++◌, map, length}
use Rattle.rw_cover_matrix.specs.Matching.{PlainPattern, plain_rows}
use Rattle.rw_cover_matrix.specs.Coverage.{Decides}
use Rattle.rw_cover_matrix.specs.Columns.{HasMissing, rows_nodes}
use Rattle.rw_cover_matrix.specs.declared.sort.Sorted.{Sorted}
use Rattle.rw_cover_matrix.specs.declared.decide.Seen.{Seen}
use Rattle.rw_cover_matrix.specs.declared.decide.Seen.TheVariants.{Answer, Fewer}

-- all of these rows cover, and some don't
abbrev pub AllCover : List (List (List PlainPattern)) → Type 0
AllCover [] = Unit {0}
AllCover (rows ∷ others) = Decides true rows × AllCover others

abbrev pub SomeFails : List (List (List PlainPattern)) → Type 0
SomeFails [] = ⊥
SomeFails (rows ∷ others) = Decides false rows ⊎ SomeFails others

-- some rows stand for others: these cover if those do, and where some of those don't
pub record StandFor (others these : List (List (List PlainPattern))) : Type 0 where
  pub covers : AllCover these → AllCover others
  pub fails : SomeFails these → SomeFails others

-- each group, with the shorter rows behind it
abbrev pub left_of : List (List (List PlainPattern)) → List (List PlainPattern) → List (List (List PlainPattern))
left_of groups shorter = map (λ group. group ++ shorter) groups

abbrev pub left_in : Sorted → List (List (List PlainPattern))
left_in all = left_of (map plain_rows all.groups.items) (plain_rows all.shorter)

abbrev pub owed_in : List Sorted → List (List (List PlainPattern))
owed_in [] = []
owed_in (all ∷ others) = left_in all ++ owed_in others

-- how long it takes at most: rows with a pattern less are much less, more than there are groups
unfoldable pub weight : ℕ → ℕ
weight zero = 1
weight (suc n) = 2 ^ 65 * weight n

abbrev pub weights : List (List (List PlainPattern)) → ℕ
weights [] = 0
weights (rows ∷ others) = weight (rows_nodes rows) + weights others

abbrev pub owed_weight : List Sorted → ℕ
owed_weight [] = 0
owed_weight (all ∷ others) = 1 + weights (left_in all) + owed_weight others

-- what is seen of rows
pub record AreFewer (rows : List (List PlainPattern)) (fewer : Sorted) : Type 0 where
  pub stand : StandFor (rows ∷ []) (left_in fewer)
  pub less : 1 + weights (left_in fewer) < weight (rows_nodes rows)

abbrev pub IsSeen : List (List PlainPattern) → Seen → Type 0
IsSeen rows (Answer answer) = Decides answer rows
IsSeen rows (Fewer fewer) = AreFewer rows fewer

-- a step: what is owed behind it stands for what was owed, and is less, or something that was owed doesn't cover
pub record IsStep (before : List Sorted) (last : Sorted) (after : List Sorted) : Type 0 where
  pub stand : StandFor (owed_in before ++ left_in last) (owed_in after)
  pub less : owed_weight after < owed_weight before + 1 + weights (left_in last)

abbrev pub IsAsked : List Sorted → Sorted → List Sorted → Bool → Type 0
IsAsked before last after true = IsStep before last after
IsAsked before last after false = SomeFails (owed_in before ++ left_in last)

-- all groups where there are some, each with rows; the shorter rows alone where one has none
abbrev pub IsNeeded : Sorted → Sorted → Type 0
IsNeeded all needed =
    ((needed ≡ all) × (0 < length all.groups.items) × (length all.groups.items < 2 ^ 64))
    ⊎ (HasMissing (map plain_rows all.groups.items) × (needed.groups.items ≡ [] ∷ []) × (needed.shorter ≡ all.shorter))
