-- What was looked at, and what is in the table.
use Rattle.std.proofs.Common.{◌≡◌, ◌<◌, ◌+◌, ◌⊎◌, ℕ, zero, suc, Bool, true, false, ◌||◌, nat_eq, List, [], ◌∷◌, ◌++◌, map, length, take, get_or, set, refl, sym, ◌∙◌, ap, subst, arith, ⊎_elim, inl, inr}
use Rattle.std.specs.List.{flat_map, list_any}
use Rattle.std.proofs.lemmas.Bool.Decides.{nat_tests}
use Rattle.std.proofs.lemmas.List.{map_push, take_more}
use Rattle.rw_types_solving.specs.Types.{Ty}
use Rattle.rw_types_solving.proofs.Laws.{or_right, is_same, same_is, itself}
use Rattle.rw_types_shared.specs.Shared.{Node, type_at, AreBelow, IsProper, Extends}
use Rattle.rw_types_shared.proofs.Levels.{below_further, type_kept, types_kept}
use Rattle.rw_types_shared.proofs.Numbers.{told_apart}
use Rattle.rw_types_shared.proofs.Sharing.{extends_itself, no_shorter, below_next}
use Rattle.specialise_rules.specs.Instances.{same_type}
use Rattle.specialise_rules.specs.Tables.{data_in}
use Rattle.specialise_laws.proofs.Same.{type_is}
use Rattle.specialise_tables.specs.Tabled.{AreIn, is_marked, AreMarked, tabled, IsLooked}
use Rattle.specialise_tables.proofs.Goes.{or_first, in_last, are_in_more, are_in_both}

unlike : (b : Bool) → (b ≡ true → ⊥) → b ≡ false
unlike true h = absurd (h refl)
unlike false h = refl

neither : (a b : Bool) → a ≡ false → b ≡ false → (a || b) ≡ false
neither true b e f = absurd (cc)
neither false b e f = f

-- == What has no mark is not there ==

not_there : (types : List Node) (marks : List Bool) (n : ℕ) → IsProper types → n < length types → is_marked marks n ≡ false
    → (ks : List ℕ) → AreBelow (length types) ks → AreMarked marks ks → list_any (same_type (type_at types n)) (map (type_at types) ks) ≡ false
not_there types marks n p l e [] b m = refl
not_there types marks n p l e (k ∷ ks) b m =
    neither (same_type (type_at types n) (type_at types k)) (list_any (same_type (type_at types n)) (map (type_at types) ks))
    (unlike (same_type (type_at types n) (type_at types k)) apart) (not_there types marks n p l e ks b.1 m.1)
  where
    apart : same_type (type_at types n) (type_at types k) ≡ true → ⊥
    apart s =
        let same = told_apart types p n k l b.0 (type_is (type_at types n) (type_at types k) s) in
        let marked : is_marked marks n ≡ true = ap (is_marked marks) same ∙ m.0 in absurd (cc)

pub new_type : (types : List Node) (numbers : List ℕ) (marks : List Bool) (n : ℕ) → IsProper types → IsLooked types numbers marks → n < length types → is_marked marks n ≡ false
    → list_any (same_type (type_at types n)) (tabled types numbers) ≡ false
new_type types numbers marks n p k l e = not_there types marks n p l e numbers k.within k.marked

-- == Types stay ==

pub looked_kept : (old new : List Node) (numbers : List ℕ) (marks : List Bool) → IsProper old → Extends old new → IsLooked old numbers marks → IsLooked new numbers marks
looked_kept old new numbers marks p e k = record {
  within = below_further (length old) (length new) (no_shorter old new e) numbers k.within;
  marked = k.marked;
  below = λ n m. let b = k.below n m in let more = no_shorter old new e in omega arith;
  known = λ n m. subst (λ (z : List Ty). AreIn z (data_in (type_at new n))) (sym (types_kept old new p e numbers k.within))
      (subst (λ (t : Ty). AreIn (tabled old numbers) (data_in t)) (sym (type_kept old new p e n (k.below n m))) (k.known n m));
}

-- == One mark more ==

-- the number n is marked too
abbrev pub IsMarkedToo : ℕ → List Bool → List Bool → Type 0
IsMarkedToo n old new = (k : ℕ) → is_marked new k ≡ (nat_eq n k || is_marked old k)

still : (n : ℕ) (old new : List Bool) → IsMarkedToo n old new → (k : ℕ) → is_marked old k ≡ true → is_marked new k ≡ true
still n old new m k e = m k ∙ or_right (nat_eq n k) (is_marked old k) e

now : (n : ℕ) (old new : List Bool) → IsMarkedToo n old new → is_marked new n ≡ true
now n old new m = m n ∙ or_first (nat_eq n n) (is_marked old n) (itself n)

all_still : (old new : List Bool) → ((k : ℕ) → is_marked old k ≡ true → is_marked new k ≡ true) → (ks : List ℕ) → AreMarked old ks → AreMarked new ks
all_still old new s [] a = tt
all_still old new s (k ∷ ks) a = (s k a.0, all_still old new s ks a.1)

and_one : (marks : List Bool) (n : ℕ) (ks : List ℕ) → AreMarked marks ks → is_marked marks n ≡ true → AreMarked marks (ks ++ n ∷ [])
and_one marks n [] a e = (e, tt)
and_one marks n (k ∷ ks) a e = (a.0, and_one marks n ks a.1 e)

which : (n k : ℕ) (old new : List Bool) → IsMarkedToo n old new → is_marked new k ≡ true → (n ≡ k) ⊎ (is_marked old k ≡ true)
which n k old new m e = by_test (nat_eq n k) (is_marked old k) refl (sym (m k) ∙ e)
  where
    by_test : (a b : Bool) → nat_eq n k ≡ a → (a || b) ≡ true → (n ≡ k) ⊎ (b ≡ true)
    by_test true b f h = inl (is_same n k f)
    by_test false b f h = inr h

-- a data type goes into the table
pub looked_put : (types : List Node) (numbers made : List ℕ) (old new : List Bool) (n : ℕ) → IsLooked types numbers old → n < length types → data_in (type_at types n) ≡ type_at types n ∷ []
    → made ≡ numbers ++ n ∷ [] → IsMarkedToo n old new → IsLooked types made new
looked_put types numbers made old new n k l d e m = record {
  within = below_next types types numbers made n (extends_itself types) k.within l e;
  marked = subst (AreMarked new) (sym e) (and_one new n numbers (all_still old new (still n old new m) numbers k.marked) (now n old new m));
  below = λ j f. ⊎_elim (λ (s : n ≡ j). subst (λ (z : ℕ). z < length types) s l) (λ (s : is_marked old j ≡ true). k.below j s) (which n j old new m f);
  known = λ j f. subst (λ (z : List Ty). AreIn z (data_in (type_at types j))) (sym (ap (tabled types) e ∙ map_push (type_at types) numbers n))
      (⊎_elim
      (λ (s : n ≡ j). subst (λ (z : ℕ). AreIn (tabled types numbers ++ type_at types n ∷ []) (data_in (type_at types z))) s
      (subst (AreIn (tabled types numbers ++ type_at types n ∷ [])) (sym d) (in_last (type_at types n) (tabled types numbers), tt)))
      (λ (s : is_marked old j ≡ true). are_in_more (tabled types numbers) (type_at types n ∷ []) (data_in (type_at types j)) (k.known j s)) (which n j old new m f));
}

all_in : (types : List Node) (numbers : List ℕ) (marks : List Bool) → IsLooked types numbers marks → (ks : List ℕ) → AreMarked marks ks → AreIn (tabled types numbers) (flat_map data_in (map (type_at types) ks))
all_in types numbers marks k [] a = tt
all_in types numbers marks k (n ∷ ns) a =
    are_in_both (tabled types numbers) (data_in (type_at types n)) (flat_map data_in (map (type_at types) ns)) (k.known n a.0) (all_in types numbers marks k ns a.1)

-- another type whose parts are marked is marked
pub looked_passed : (types : List Node) (numbers parts : List ℕ) (old new : List Bool) (n : ℕ) → IsLooked types numbers old → n < length types
    → data_in (type_at types n) ≡ flat_map data_in (map (type_at types) parts) → AreMarked old parts → IsMarkedToo n old new → IsLooked types numbers new
looked_passed types numbers parts old new n k l d a m = record {
  within = k.within;
  marked = all_still old new (still n old new m) numbers k.marked;
  below = λ j f. ⊎_elim (λ (s : n ≡ j). subst (λ (z : ℕ). z < length types) s l) (λ (s : is_marked old j ≡ true). k.below j s) (which n j old new m f);
  known = λ j f. ⊎_elim
      (λ (s : n ≡ j). subst (λ (z : ℕ). AreIn (tabled types numbers) (data_in (type_at types z))) s (subst (AreIn (tabled types numbers)) (sym d) (all_in types numbers old k parts a)))
      (λ (s : is_marked old j ≡ true). k.known j s) (which n j old new m f);
}

pub passed_in : (types : List Node) (numbers parts : List ℕ) (marks : List Bool) (n : ℕ) → IsLooked types numbers marks
    → data_in (type_at types n) ≡ flat_map data_in (map (type_at types) parts) → AreMarked marks parts → AreIn (tabled types numbers) (data_in (type_at types n))
passed_in types numbers parts marks n k d a = subst (AreIn (tabled types numbers)) (sym d) (all_in types numbers marks k parts a)

-- == Marks as they are kept ==

pub unmarked_more : (marks : List Bool) (k : ℕ) → is_marked (marks ++ false ∷ []) k ≡ is_marked marks k
unmarked_more [] zero = refl
unmarked_more [] (suc k) = refl
unmarked_more (m ∷ ms) zero = refl
unmarked_more (m ∷ ms) (suc k) = unmarked_more ms k

zero_apart : (k : ℕ) → nat_eq 0 (suc k) ≡ false
zero_apart k = grind (arith, nat_tests)

apart_zero : (n : ℕ) → nat_eq (suc n) 0 ≡ false
apart_zero n = grind (arith, nat_tests)

same_next : (n k : ℕ) → nat_eq (suc n) (suc k) ≡ nat_eq n k
same_next n k = by_test (nat_eq n k) refl
  where
    by_test : (b : Bool) → nat_eq n k ≡ b → nat_eq (suc n) (suc k) ≡ b
    by_test true e = same_is (suc n) (suc k) (ap suc (is_same n k e))
    by_test false e = unlike (nat_eq (suc n) (suc k)) (λ f. let s = is_same (suc n) (suc k) f in let t = same_is n k (omega arith) in absurd (cc))

pub marked_at : (marks : List Bool) (n : ℕ) → n < length marks → (k : ℕ) → is_marked (set marks n true) k ≡ (nat_eq n k || is_marked marks k)
marked_at [] n l k = absurd (omega arith)
marked_at (m ∷ ms) zero l zero = refl
marked_at (m ∷ ms) zero l (suc k) = ap (λ (b : Bool). b || is_marked ms k) (sym (zero_apart k))
marked_at (m ∷ ms) (suc n) l zero = ap (λ (b : Bool). b || m) (sym (apart_zero n))
marked_at (m ∷ ms) (suc n) l (suc k) = marked_at ms n (omega arith) k ∙ ap (λ (b : Bool). b || is_marked ms k) (sym (same_next n k))

pub marked_next : (marks : List Bool) (ks : List ℕ) (i d : ℕ) → i < length ks → is_marked marks (get_or ks i d) ≡ true → AreMarked marks (take i ks) → AreMarked marks (take (i + 1) ks)
marked_next marks ks i d l m a = subst (AreMarked marks) (sym (take_more ks i d l)) (and_one marks (get_or ks i d) (take i ks) a m)
