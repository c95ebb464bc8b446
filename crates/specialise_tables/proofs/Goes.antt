-- How steps go on, over the plain types.
use Rattle.std.proofs.Common.{◌≡◌, ◌+◌, ◌≤◌, Bool, true, false, ◌||◌, List, [], ◌∷◌, ◌++◌, map, length, refl, sym, ◌∙◌, ap, subst, arith}
use Rattle.std.specs.List.{flat_map, list_any}
use Rattle.std.proofs.lemmas.List.{length-append}
use Rattle.std.proofs.lemmas.List.Folds.{list_any-append}
use Rattle.rw_types_solving.specs.Types.{Ty}
use Rattle.rw_types_solving.proofs.Laws.{or_right}
use Rattle.rw_types_rules.specs.Schemes.{World}
use Rattle.specialise_rules.specs.Instances.{same_type}
use Rattle.specialise_rules.specs.Tables.{data_in, fields_of, Sees, sees_nothing, sees_known, sees_new}
use Rattle.specialise_laws.proofs.Same.{type_self}
use Rattle.specialise_laws.proofs.Seeing.{sees_once, sees_more, sees_longer, sees_both, sees_split}
use Rattle.specialise_tables.specs.Tabled.{AreIn}
use Rattle.specialise_tables.specs.Going.{Step, see, put, Goes, GoesOn, puts, IsOpened}

pub or_first : (a b : Bool) → a ≡ true → (a || b) ≡ true
or_first true b e = refl
or_first false b e = absurd (cc)

clash : (b : Bool) → b ≡ true → b ≡ false → ⊥
clash b d e = absurd (cc)

-- == What is in a table ==

pub in_more : (t : Ty) (table more : List Ty) → list_any (same_type t) table ≡ true → list_any (same_type t) (table ++ more) ≡ true
in_more t table more e = list_any-append (same_type t) table more ∙ or_first (list_any (same_type t) table) (list_any (same_type t) more) e

pub in_last : (t : Ty) (table : List Ty) → list_any (same_type t) (table ++ t ∷ []) ≡ true
in_last t table =
    list_any-append (same_type t) table (t ∷ []) ∙ or_right (list_any (same_type t) table) (list_any (same_type t) (t ∷ [])) (or_first (same_type t t) false (type_self t))

pub are_in_more : (table more ts : List Ty) → AreIn table ts → AreIn (table ++ more) ts
are_in_more table more [] a = tt
are_in_more table more (t ∷ ts) a = (in_more t table more a.0, are_in_more table more ts a.1)

pub are_in_both : (table ts us : List Ty) → AreIn table ts → AreIn table us → AreIn table (ts ++ us)
are_in_both table [] us a b = b
are_in_both table (t ∷ ts) us a b = (a.0, are_in_both table ts us a.1 b)

pub all_known : (world : World) (table ts : List Ty) → AreIn table ts → Sees world table ts table
all_known world table [] a = sees_nothing
all_known world table (t ∷ ts) a = sees_known a.0 (all_known world table ts a.1)

stays_in : {world : World} {table types after : List Ty} (t : Ty) → Sees world table types after → list_any (same_type t) table ≡ true → list_any (same_type t) after ≡ true
stays_in {table = table} t s e = let m = sees_more s in ap (list_any (same_type t)) m.1 ∙ in_more t table m.0 e

-- what was seen is there
pub what_is_seen : {world : World} {table types after : List Ty} → Sees world table types after → AreIn after types
what_is_seen sees_nothing = tt
what_is_seen (sees_known {t = t} e f) = (stays_in t f e, what_is_seen f)
what_is_seen (sees_new {inner = inner} {t = t} e h f) = (stays_in t f (in_last t inner), what_is_seen f)

-- a data type that is not there: its fields are seen, and then it is put behind
of_new : {world : World} {table after : List Ty} {t : Ty} → list_any (same_type t) table ≡ false → Sees world table (t ∷ []) after
    → (inner : List Ty) × Sees world table (flat_map data_in (flat_map (λ fields. fields) (fields_of world t))) inner × (after ≡ inner ++ t ∷ [])
of_new {table = table} {t = t} e (sees_known d f) = absurd (clash (list_any (same_type t) table) d e)
of_new e (sees_new {inner = inner} d h f) = (inner, h, sees_once f sees_nothing)

module _ (world : World) where
  -- == Steps in turn ==

  in_turn : (ts : List Ty) (steps : List Step) (table after : List Ty) → Goes world (map see ts ++ steps) table after
      → (between : List Ty) × Sees world table (flat_map data_in ts) between × Goes world steps between after
  in_turn [] steps table after g = (table, sees_nothing, g)
  in_turn (t ∷ ts) steps table after g = let rest = in_turn ts steps g.0 after g.2 in (rest.0, sees_both g.1 rest.1, rest.2)

  by_turn : (ts : List Ty) (steps : List Step) (table between after : List Ty) → Sees world table (flat_map data_in ts) between → Goes world steps between after
      → Goes world (map see ts ++ steps) table after
  by_turn [] steps table between after s g = subst (λ (z : List Ty). Goes world steps z after) (sees_once s sees_nothing) g
  by_turn (t ∷ ts) steps table between after s g = let two = sees_split (data_in t) (flat_map data_in ts) s in (two.0, two.1, by_turn ts steps two.0 between after two.2 g)

  -- the first steps are those of a list of types
  pub begun : (ts : List Ty) (table after : List Ty) → Sees world table (flat_map data_in ts) after → Goes world (map see ts ++ []) table after
  begun ts table after s = by_turn ts [] table after after s refl

  pub finished : (ts : List Ty) (table after : List Ty) → Goes world (map see ts ++ []) table after → Sees world table (flat_map data_in ts) after
  finished ts table after g = let two = in_turn ts [] table after g in subst (λ (z : List Ty). Sees world table (flat_map data_in ts) z) (sym two.2) two.1

  -- == One step ==

  pub goes_itself : (steps : List Step) (table : List Ty) → GoesOn world steps table steps table
  goes_itself steps table = record { on = λ after g. g; back = λ after g. g }

  pub goes_both : (a b c : List Step) (x y z : List Ty) → GoesOn world a x b y → GoesOn world b y c z → GoesOn world a x c z
  goes_both a b c x y z g h = record { on = λ after k. h.on after (g.on after k); back = λ after k. g.back after (h.back after k) }

  -- a type whose data types are there is passed over
  pub passed : (t : Ty) (steps : List Step) (table : List Ty) → AreIn table (data_in t) → GoesOn world (see t ∷ steps) table steps table
  passed t steps table a = record {
    on = λ after g. subst (λ (z : List Ty). Goes world steps z after) (sees_once g.1 (all_known world table (data_in t) a)) g.2;
    back = λ after g. (table, all_known world table (data_in t) a, g);
  }

  pub placed : (t : Ty) (steps : List Step) (table : List Ty) → GoesOn world (put t ∷ steps) table steps (table ++ t ∷ [])
  placed t steps table = record { on = λ after g. g; back = λ after g. g }

  -- of a data type that is not there its fields are seen, and then it goes into the table
  pub entered : (t : Ty) (parts : List Ty) (steps : List Step) (table : List Ty) → list_any (same_type t) table ≡ false → IsOpened world true t parts
      → GoesOn world (see t ∷ steps) table (map see parts ++ (put t ∷ steps)) table
  entered t parts steps table e o = record {
    on = λ after g. let n = of_new e (subst (λ (z : List Ty). Sees world table z g.0) o.0 g.1) in
        by_turn parts (put t ∷ steps) table n.0 after (subst (λ (z : List Ty). Sees world table (flat_map data_in z) n.0) (sym o.1) n.1) (subst (λ (z : List Ty). Goes world steps z after) n.2 g.2);
    back = λ after g. let two = in_turn parts (put t ∷ steps) table after g in
        (two.0 ++ t ∷ [], subst (λ (z : List Ty). Sees world table z (two.0 ++ t ∷ [])) (sym o.0) (sees_new e (subst (λ (z : List Ty). Sees world table (flat_map data_in z) two.0) o.1 two.1) sees_nothing), two.2);
  }

  -- of another type its parts are seen, and then it is looked at again, in vain
  pub looked_twice : (t : Ty) (parts : List Ty) (steps : List Step) (table : List Ty) → IsOpened world false t parts
      → GoesOn world (see t ∷ steps) table (map see parts ++ (see t ∷ steps)) table
  looked_twice t parts steps table o = record {
    on = λ after g. by_turn parts (see t ∷ steps) table g.0 after (subst (λ (z : List Ty). Sees world table z g.0) o g.1) (g.0, all_known world g.0 (data_in t) (what_is_seen g.1), g.2);
    back = λ after g. let two = in_turn parts (see t ∷ steps) table after g in let seen = subst (λ (z : List Ty). Sees world table z two.0) (sym o) two.1 in
        (two.0, seen, subst (λ (z : List Ty). Goes world steps z after) (sees_once two.2.1 (all_known world two.0 (data_in t) (what_is_seen seen))) two.2.2);
  }

  -- == How long a table grows ==

  pub goes_longer : (steps : List Step) (table after : List Ty) → Goes world steps table after → length table + puts steps ≤ length after
  goes_longer [] table after g = let e = ap length g in omega arith
  goes_longer (see t ∷ steps) table after g = let one = sees_longer g.1 in let rest = goes_longer steps g.0 after g.2 in omega arith
  goes_longer (put t ∷ steps) table after g = let rest = goes_longer steps (table ++ t ∷ []) after g in let both = length-append table (t ∷ []) in omega arith

pub puts-sees : (ts : List Ty) (steps : List Step) → puts (map see ts ++ steps) ≡ puts steps
puts-sees [] steps = refl
puts-sees (t ∷ ts) steps = puts-sees ts steps
