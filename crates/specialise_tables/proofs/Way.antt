-- How a search goes on: what is under way stays so.
use Rattle.std.proofs.Common.{◌≡◌, ◌+◌, ◌<◌, ℕ, Bool, true, false, List, [], ◌∷◌, ◌++◌, map, length, refl, sym, ◌∙◌, ap, subst, arith, ⊎_elim}
use Rattle.std.specs.List.{flat_map}
use Rattle.std.proofs.lemmas.List.{map_push, length_push, length-map}
use Rattle.rw_types_solving.specs.Types.{Ty}
use Rattle.rw_types_rules.specs.Schemes.{World}
use Rattle.rw_types_shared.specs.Shared.{Node, type_at, AreBelow, IsProper, Extends}
use Rattle.rw_types_shared.proofs.Levels.{below_further, type_kept, types_kept}
use Rattle.rw_types_shared.proofs.Sharing.{no_shorter}
use Rattle.specialise_rules.specs.Tables.{data_in, Sees}
use Rattle.specialise_rules.specs.Limits.{most_types}
use Rattle.specialise_tables.specs.Fields.{world_with}
use Rattle.specialise_tables.specs.Tabled.{is_marked, AreMarked, tabled, IsLooked}
use Rattle.specialise_tables.specs.Going.{Step, see, put, Goes, GoesOn, puts, ArePut, IsOpened, number_of, steps_of, IsPassed, IsUnderWay}
use Rattle.specialise_tables.specs.declared.stack.Task.{Task}
use Rattle.specialise_tables.specs.declared.stack.Task.TheVariants as task
use Rattle.specialise_tables.proofs.Goes.{passed, placed, entered, looked_twice, goes_itself, goes_longer, begun, finished, puts-sees}
use Rattle.specialise_tables.proofs.Looked.{IsMarkedToo, new_type, looked_kept, looked_put, looked_passed, passed_in}

-- == Types stay ==

pub steps_kept : (old new : List Node) → IsProper old → Extends old new → (tasks : List Task) → AreBelow (length old) (map number_of tasks) → steps_of old tasks ≡ steps_of new tasks
steps_kept old new p e [] b = refl
steps_kept old new p e (task.See n ∷ tasks) b =
    let one = type_kept old new p e n b.0 in let rest = steps_kept old new p e tasks b.1 in λ i. see (sym one i) ∷ rest i
steps_kept old new p e (task.Put n ∷ tasks) b =
    let one = type_kept old new p e n b.0 in let rest = steps_kept old new p e tasks b.1 in λ i. put (sym one i) ∷ rest i

pub way_kept : (old new : List Node) (numbers : List ℕ) (marks : List Bool) (tasks : List Task) (room : ℕ) → IsProper new → Extends old new → IsUnderWay old numbers marks tasks room → IsUnderWay new numbers marks tasks room
way_kept old new numbers marks tasks room q e w =
    let same = steps_kept old new w.proper e tasks w.within in record {
      proper = q;
      looked = looked_kept old new numbers marks w.proper e w.looked;
      within = below_further (length old) (length new) (no_shorter old new e) (map number_of tasks) w.within;
      fit = subst ArePut same w.fit;
      narrow = ap (λ (z : List Step). room + (length numbers + puts z)) (sym same) ∙ w.narrow;
    }

-- == Tasks more ==

pub steps_sees : (types : List Node) (ks : List ℕ) (tasks : List Task) → steps_of types (map task.See ks ++ tasks) ≡ map see (map (type_at types) ks) ++ steps_of types tasks
steps_sees types [] tasks = refl
steps_sees types (k ∷ ks) tasks = ap (λ (z : List Step). see (type_at types k) ∷ z) (steps_sees types ks tasks)

below_sees : (n : ℕ) (ks : List ℕ) (tasks : List Task) → AreBelow n ks → AreBelow n (map number_of tasks) → AreBelow n (map number_of (map task.See ks ++ tasks))
below_sees n [] tasks b c = c
below_sees n (k ∷ ks) tasks b c = (b.0, below_sees n ks tasks b.1 c)

put_sees : (ts : List Ty) (steps : List Step) → ArePut steps → ArePut (map see ts ++ steps)
put_sees [] steps a = a
put_sees (t ∷ ts) steps a = put_sees ts steps a

-- types are seen first
pub way_sees : (types : List Node) (numbers : List ℕ) (marks : List Bool) (ks : List ℕ) (tasks after : List Task) (room : ℕ) → AreBelow (length types) ks → after ≡ map task.See ks ++ tasks
    → IsUnderWay types numbers marks tasks room → IsUnderWay types numbers marks after room
way_sees types numbers marks ks tasks after room b e w =
    let same = ap (steps_of types) e ∙ steps_sees types ks tasks in record {
      proper = w.proper;
      looked = w.looked;
      within = subst (λ (z : List Task). AreBelow (length types) (map number_of z)) (sym e) (below_sees (length types) ks tasks b w.within);
      fit = subst ArePut (sym same) (put_sees (map (type_at types) ks) (steps_of types tasks) w.fit);
      narrow = ap (λ (z : List Step). room + (length numbers + puts z)) same
          ∙ ap (λ (z : ℕ). room + (length numbers + z)) (puts-sees (map (type_at types) ks) (steps_of types tasks)) ∙ w.narrow;
    }

way_see : (types : List Node) (numbers : List ℕ) (marks : List Bool) (n : ℕ) (tasks : List Task) (room : ℕ) → n < length types
    → IsUnderWay types numbers marks tasks room → IsUnderWay types numbers marks (task.See n ∷ tasks) room
way_see types numbers marks n tasks room l w = record { proper = w.proper; looked = w.looked; within = (l, w.within); fit = w.fit; narrow = w.narrow }

way_put : (types : List Node) (numbers : List ℕ) (marks : List Bool) (n : ℕ) (tasks : List Task) (room left : ℕ) → n < length types → data_in (type_at types n) ≡ type_at types n ∷ [] → left + 1 ≡ room
    → IsUnderWay types numbers marks tasks room → IsUnderWay types numbers marks (task.Put n ∷ tasks) left
way_put types numbers marks n tasks room left l d e w = record {
  proper = w.proper;
  looked = w.looked;
  within = (l, w.within);
  fit = (d, w.fit);
  narrow = let narrow = w.narrow in omega arith;
}

-- == A turn ==

module _ (world : World) where
  -- the table and the steps are the same after types were added
  moved : (old new : List Node) (numbers : List ℕ) (marks : List Bool) (tasks : List Task) (room n : ℕ) (later : List Step) (grown : List Ty) → Extends old new → IsUnderWay old numbers marks tasks room → n < length old
      → GoesOn world (see (type_at new n) ∷ steps_of new tasks) (tabled new numbers) later grown → GoesOn world (see (type_at old n) ∷ steps_of old tasks) (tabled old numbers) later grown
  moved old new numbers marks tasks room n later grown e w l g =
      subst (λ (z : List Ty). GoesOn world (see (type_at old n) ∷ steps_of old tasks) z later grown) (types_kept old new w.proper e numbers w.looked.within)
      (subst (λ (z : List Step). GoesOn world z (tabled new numbers) later grown) (sym (steps_kept old new w.proper e (task.See n ∷ tasks) (l, w.within))) g)

  pub look_passed : (types : List Node) (numbers : List ℕ) (marks : List Bool) (tasks : List Task) (room n : ℕ) → IsUnderWay types numbers marks tasks room → is_marked marks n ≡ true
      → GoesOn world (see (type_at types n) ∷ steps_of types tasks) (tabled types numbers) (steps_of types tasks) (tabled types numbers)
  look_passed types numbers marks tasks room n w m = passed world (type_at types n) (steps_of types tasks) (tabled types numbers) (w.looked.known n m)

  pub look_entered : (old new : List Node) (numbers : List ℕ) (marks : List Bool) (tasks after : List Task) (room n : ℕ) (parts : List ℕ) → IsProper new → Extends old new → IsUnderWay old numbers marks tasks room → n < length old
      → is_marked marks n ≡ false → IsOpened world true (type_at new n) (map (type_at new) parts) → after ≡ map task.See parts ++ (task.Put n ∷ tasks)
      → GoesOn world (see (type_at old n) ∷ steps_of old tasks) (tabled old numbers) (steps_of new after) (tabled new numbers)
  look_entered old new numbers marks tasks after room n parts q e w l m o is =
      let kept = way_kept old new numbers marks tasks room q e w in let longer = no_shorter old new e in
      moved old new numbers marks tasks room n (steps_of new after) (tabled new numbers) e w l
      (subst (λ (z : List Step). GoesOn world (see (type_at new n) ∷ steps_of new tasks) (tabled new numbers) z (tabled new numbers)) (sym (ap (steps_of new) is ∙ steps_sees new parts (task.Put n ∷ tasks)))
      (entered world (type_at new n) (map (type_at new) parts) (steps_of new tasks) (tabled new numbers) (new_type new numbers marks n q kept.looked (omega arith) m) o))

  pub look_again : (old new : List Node) (numbers : List ℕ) (marks : List Bool) (tasks after : List Task) (room n : ℕ) (parts : List ℕ) → IsProper new → Extends old new → IsUnderWay old numbers marks tasks room → n < length old
      → IsOpened world false (type_at new n) (map (type_at new) parts) → after ≡ map task.See parts ++ (task.See n ∷ tasks)
      → GoesOn world (see (type_at old n) ∷ steps_of old tasks) (tabled old numbers) (steps_of new after) (tabled new numbers)
  look_again old new numbers marks tasks after room n parts q e w l o is =
      moved old new numbers marks tasks room n (steps_of new after) (tabled new numbers) e w l
      (subst (λ (z : List Step). GoesOn world (see (type_at new n) ∷ steps_of new tasks) (tabled new numbers) z (tabled new numbers)) (sym (ap (steps_of new) is ∙ steps_sees new parts (task.See n ∷ tasks)))
      (looked_twice world (type_at new n) (map (type_at new) parts) (steps_of new tasks) (tabled new numbers) o))

  pub look_done : (old new : List Node) (numbers : List ℕ) (marks : List Bool) (tasks : List Task) (room n : ℕ) (parts : List ℕ) → IsProper new → Extends old new → IsUnderWay old numbers marks tasks room → n < length old
      → IsOpened world false (type_at new n) (map (type_at new) parts) → AreMarked marks parts
      → GoesOn world (see (type_at old n) ∷ steps_of old tasks) (tabled old numbers) (steps_of new tasks) (tabled new numbers)
  look_done old new numbers marks tasks room n parts q e w l o a =
      let kept = way_kept old new numbers marks tasks room q e w in
      moved old new numbers marks tasks room n (steps_of new tasks) (tabled new numbers) e w l
      (passed world (type_at new n) (steps_of new tasks) (tabled new numbers) (passed_in new numbers parts marks n kept.looked o a))

  -- where there is no room, a data type that is not there makes the table too long
  pub look_full : (old new : List Node) (numbers : List ℕ) (marks : List Bool) (tasks : List Task) (n : ℕ) (parts : List ℕ) → IsProper new → Extends old new → IsUnderWay old numbers marks tasks 0 → n < length old
      → is_marked marks n ≡ false → IsOpened world true (type_at new n) (map (type_at new) parts)
      → (after : List Ty) → Goes world (see (type_at old n) ∷ steps_of old tasks) (tabled old numbers) after → most_types < length after
  look_full old new numbers marks tasks n parts q e w l m o after g =
      let on = look_entered old new numbers marks tasks (map task.See parts ++ (task.Put n ∷ tasks)) 0 n parts q e w l m o refl in
      let long = goes_longer world (steps_of new (map task.See parts ++ (task.Put n ∷ tasks))) (tabled new numbers) after (on.on after g) in
      let same = ap puts (steps_sees new parts (task.Put n ∷ tasks)) ∙ puts-sees (map (type_at new) parts) (steps_of new (task.Put n ∷ tasks)) in
      let kept = ap puts (steps_kept old new w.proper e tasks w.within) in let many = length-map numbers (type_at new) in let narrow = w.narrow in omega arith

pub way_entered : (old new : List Node) (numbers : List ℕ) (marks : List Bool) (tasks after : List Task) (room left n : ℕ) (parts : List ℕ) → IsProper new → Extends old new → IsUnderWay old numbers marks tasks room → n < length old
    → AreBelow (length new) parts → data_in (type_at new n) ≡ type_at new n ∷ [] → left + 1 ≡ room → after ≡ map task.See parts ++ (task.Put n ∷ tasks) → IsUnderWay new numbers marks after left
way_entered old new numbers marks tasks after room left n parts q e w l b d f is =
    let longer = no_shorter old new e in
    way_sees new numbers marks parts (task.Put n ∷ tasks) after left b is (way_put new numbers marks n tasks room left (omega arith) d f (way_kept old new numbers marks tasks room q e w))

pub way_again : (old new : List Node) (numbers : List ℕ) (marks : List Bool) (tasks after : List Task) (room n : ℕ) (parts : List ℕ) → IsProper new → Extends old new → IsUnderWay old numbers marks tasks room → n < length old
    → AreBelow (length new) parts → after ≡ map task.See parts ++ (task.See n ∷ tasks) → IsUnderWay new numbers marks after room
way_again old new numbers marks tasks after room n parts q e w l b is =
    let longer = no_shorter old new e in
    way_sees new numbers marks parts (task.See n ∷ tasks) after room b is (way_see new numbers marks n tasks room (omega arith) (way_kept old new numbers marks tasks room q e w))

pub way_done : (old new : List Node) (numbers : List ℕ) (marks grown : List Bool) (tasks : List Task) (room n : ℕ) (parts : List ℕ) → IsProper new → Extends old new → IsUnderWay old numbers marks tasks room → n < length old
    → data_in (type_at new n) ≡ flat_map data_in (map (type_at new) parts) → AreMarked marks parts → IsMarkedToo n marks grown → IsUnderWay new numbers grown tasks room
way_done old new numbers marks grown tasks room n parts q e w l d a m =
    let kept = way_kept old new numbers marks tasks room q e w in let longer = no_shorter old new e in record {
      proper = q;
      looked = looked_passed new numbers parts marks grown n kept.looked (omega arith) d a m;
      within = kept.within;
      fit = kept.fit;
      narrow = kept.narrow;
    }

module _ (fields : List (List (List Ty))) where
  pub way_passed : (old new : List Node) (numbers made : List ℕ) (marks grown : List Bool) (tasks after : List Task) (room n : ℕ) (parts listed : List ℕ) → IsProper new → Extends old new
      → IsUnderWay old numbers marks tasks room → n < length old → AreBelow (length new) parts → IsOpened (world_with fields) false (type_at new n) (map (type_at new) parts) → listed ≡ parts → made ≡ numbers
      → IsPassed n listed marks grown tasks after → IsUnderWay new made grown after room
  way_passed old new numbers made marks grown tasks after room n parts listed q e w l b o same kept passing =
      subst (λ (z : List ℕ). IsUnderWay new z grown after room) (sym kept) (
      ⊎_elim
      (λ done. subst (λ (z : List Task). IsUnderWay new numbers grown z room) (sym done.1)
      (way_done old new numbers marks grown tasks room n parts q e w l o (subst (AreMarked marks) same done.0) done.2))
      (λ again. subst (λ (z : List Bool). IsUnderWay new numbers z after room) (sym again.0)
      (way_again old new numbers marks tasks after room n parts q e w l b (again.1 ∙ ap (λ (z : List ℕ). map task.See z ++ (task.See n ∷ tasks)) same)))
      passing
      )

  pub goes_passed : (old new : List Node) (numbers made : List ℕ) (marks grown : List Bool) (tasks after : List Task) (room n : ℕ) (parts listed : List ℕ) → IsProper new → Extends old new
      → IsUnderWay old numbers marks tasks room → n < length old → IsOpened (world_with fields) false (type_at new n) (map (type_at new) parts) → listed ≡ parts → made ≡ numbers
      → IsPassed n listed marks grown tasks after
      → GoesOn (world_with fields) (see (type_at old n) ∷ steps_of old tasks) (tabled old numbers) (steps_of new after) (tabled new made)
  goes_passed old new numbers made marks grown tasks after room n parts listed q e w l o same kept passing =
      subst (λ (z : List ℕ). GoesOn (world_with fields) (see (type_at old n) ∷ steps_of old tasks) (tabled old numbers) (steps_of new after) (tabled new z)) (sym kept) (
      ⊎_elim
      (λ done. subst (λ (z : List Task). GoesOn (world_with fields) (see (type_at old n) ∷ steps_of old tasks) (tabled old numbers) (steps_of new z) (tabled new numbers)) (sym done.1)
      (look_done (world_with fields) old new numbers marks tasks room n parts q e w l o (subst (AreMarked marks) same done.0)))
      (λ again. look_again (world_with fields) old new numbers marks tasks after room n parts q e w l o (again.1 ∙ ap (λ (z : List ℕ). map task.See z ++ (task.See n ∷ tasks)) same))
      passing
      )

-- a data type goes into the table
pub way_placed : (types : List Node) (numbers made : List ℕ) (marks grown : List Bool) (n : ℕ) (tasks : List Task) (room : ℕ) → IsUnderWay types numbers marks (task.Put n ∷ tasks) room
    → made ≡ numbers ++ n ∷ [] → IsMarkedToo n marks grown → IsUnderWay types made grown tasks room
way_placed types numbers made marks grown n tasks room w e m = record {
  proper = w.proper;
  looked = looked_put types numbers made marks grown n w.looked w.within.0 w.fit.0 e m;
  within = w.within.1;
  fit = w.fit.1;
  narrow = let narrow = w.narrow in let many = ap length e ∙ length_push numbers n in omega arith;
}

pub turn_placed : (world : World) (types : List Node) (numbers made : List ℕ) (n : ℕ) (tasks : List Task) → made ≡ numbers ++ n ∷ []
    → GoesOn world (steps_of types (task.Put n ∷ tasks)) (tabled types numbers) (steps_of types tasks) (tabled types made)
turn_placed world types numbers made n tasks e =
    subst (λ (z : List Ty). GoesOn world (put (type_at types n) ∷ steps_of types tasks) (tabled types numbers) (steps_of types tasks) z) (sym (ap (tabled types) e ∙ map_push (type_at types) numbers n))
    (placed world (type_at types n) (steps_of types tasks) (tabled types numbers))

-- == Beginning and end ==

pub way_begun : (types : List Node) (numbers : List ℕ) (marks : List Bool) (ks : List ℕ) (tasks after : List Task) (room : ℕ) → IsProper types → IsLooked types numbers marks → AreBelow (length types) ks
    → tasks ≡ [] → after ≡ map task.See ks ++ tasks → room + length numbers ≡ most_types → IsUnderWay types numbers marks after room
way_begun types numbers marks ks tasks after room p k b e is f =
    way_sees types numbers marks ks [] after room b (is ∙ ap (λ (z : List Task). map task.See ks ++ z) e)
    (record { proper = p; looked = k; within = tt; fit = tt; narrow = omega arith })

pub goes_begun : (world : World) (types : List Node) (numbers ks : List ℕ) (tasks after : List Task) → tasks ≡ [] → after ≡ map task.See ks ++ tasks
    → GoesOn world (map see (map (type_at types) ks) ++ []) (tabled types numbers) (steps_of types after) (tabled types numbers)
goes_begun world types numbers ks tasks after e is =
    subst (λ (z : List Step). GoesOn world (map see (map (type_at types) ks) ++ []) (tabled types numbers) z (tabled types numbers))
    (sym (ap (steps_of types) (is ∙ ap (λ (z : List Task). map task.See ks ++ z) e) ∙ steps_sees types ks []))
    (goes_itself world (map see (map (type_at types) ks) ++ []) (tabled types numbers))

pub seen_at_end : (world : World) (ts table grown : List Ty) (types : List Node) (tasks : List Task) → GoesOn world (map see ts ++ []) table (steps_of types tasks) grown → tasks ≡ []
    → Sees world table (flat_map data_in ts) grown
seen_at_end world ts table grown types tasks g e = finished world ts table grown (g.back grown (subst (λ (z : List Task). Goes world (steps_of types z) grown grown) (sym e) refl))

pub full_next : (world : World) (ts table mid : List Ty) (types : List Node) (tasks : List Task) (first : Task) (rest : List Task) → tasks ≡ first ∷ rest
    → GoesOn world (map see ts ++ []) table (steps_of types tasks) mid → ((after : List Ty) → Goes world (steps_of types (first ∷ rest)) mid after → most_types < length after)
    → (after : List Ty) → Sees world table (flat_map data_in ts) after → most_types < length after
full_next world ts table mid types tasks first rest e g much after s =
    much after (subst (λ (z : List Task). Goes world (steps_of types z) mid after) e (g.on after (begun world ts table after s)))
