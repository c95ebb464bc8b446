-- The kinds of numbers: sorts and state monads by kinds, and what may stand for a variable of a kind.
use Rattle.std.proofs.Common.{◌≡◌, ◌↔◌, ℕ, zero, suc, ◌<◌, ◌≤◌, Bool, true, false, IsTrue, List, [], ◌∷◌, map, length, refl, sym, ◌∙◌, ap, subst}
use Rattle.rw_types_solving.specs.declared.term.Sort.{Sort}
use Rattle.rw_types_solving.specs.Types.{Ty, nodes}
use Rattle.rw_types_solving.specs.Sorts.{HasSort}
use Rattle.rw_types_solving.specs.Tables.{most}
use Rattle.rw_types_solving.specs.Conditions.{is_state_monad, any, listed}
use Rattle.rw_types_solving.specs.Closing.{sort_of}
use Rattle.rw_types_rules.specs.declared.kind.VariableKind.{VariableKind}
use Rattle.rw_types_rules.specs.declared.kind.VariableKind.TheVariants.{Plain, Monad, StateMonad, Layer}
use Rattle.rw_types_rules.specs.Schemes.{World}
use Rattle.rw_types_rules.specs.Typings.{kind_sort, is_state_kind, heads_of, state_unknowns, MayBe}
use Rattle.rw_types.specs.Inside.{kind_at, slot_sorts, AreCarried}

pub slot_sort : (slots : List VariableKind) (x : ℕ) → slot_sorts slots x ≡ kind_sort (kind_at slots x)
slot_sort [] x = refl
slot_sort (k ∷ ks) zero = refl
slot_sort (k ∷ ks) (suc x) = slot_sort ks x

listed_at : (own : List VariableKind) (n : ℕ) → listed (map is_state_kind own) n ≡ state_unknowns own n
listed_at [] n = refl
listed_at (k ∷ ks) zero = refl
listed_at (k ∷ ks) (suc n) = listed_at ks n

pub listed_states : (own : List VariableKind) → listed (map is_state_kind own) ≡ state_unknowns own
listed_states own = λ i. λ n. listed_at own n i

-- what may stand for a variable of a kind
module _ (v : ℕ → Sort) (y : ℕ → Bool) (own : List VariableKind) (world : World) where
  pub may_sort : (k : VariableKind) (u : Ty) → MayBe v y own world k u → HasSort v (heads_of world own) (kind_sort k) u
  may_sort Plain u h = h.0
  may_sort Monad u h = h.0
  may_sort StateMonad u h = h.0.0
  may_sort Layer u h = h.0

  pub may_small : (k : VariableKind) (u : Ty) → MayBe v y own world k u → nodes u ≤ most
  may_small Plain u h = h.1
  may_small Monad u h = h.1
  may_small StateMonad u h = h.0.1
  may_small Layer u h = h.1

  pub may_stack : (k : VariableKind) (u : Ty) → MayBe v y own world k u → is_state_kind k ≡ true → is_state_monad y (state_unknowns own) u ≡ true
  may_stack Plain u h e = absurd (cc)
  may_stack Monad u h e = absurd (cc)
  may_stack StateMonad u h e = h.1
  may_stack Layer u h e = absurd (cc)

  pub may_be : (k : VariableKind) (u : Ty) → HasSort v (heads_of world own) (kind_sort k) u → nodes u ≤ most → (is_state_kind k ≡ true → is_state_monad y (state_unknowns own) u ≡ true) → MayBe v y own world k u
  may_be Plain u s n f = (s, n)
  may_be Monad u s n f = (s, n)
  may_be StateMonad u s n f = ((s, n), f refl)
  may_be Layer u s n f = (s, n)

-- as the code tests it
module _ (world : World) (slots own : List VariableKind) (s : ℕ → Ty) (n : ℕ) (sorts rs : List Sort) (states us : List Bool) (a b : Bool) where
  pub carried_both : n ≡ length slots → sorts ≡ map kind_sort slots → rs ≡ sorts → states ≡ map is_state_kind own → us ≡ states
      → (IsTrue a ↔ ((x : ℕ) → x < n → HasSort (sort_of rs) (heads_of world own) (sort_of rs x) (s x)))
      → (IsTrue b ↔ ((x : ℕ) → x < n → is_state_kind (kind_at slots x) ≡ true → is_state_monad any (listed us) (s x) ≡ true))
      → (IsTrue a × IsTrue b) ↔ AreCarried world slots own s
  carried_both e f g h k p q =
      let sorted : (IsTrue a) ↔ ((x : ℕ) → x < length slots → HasSort (slot_sorts slots) (heads_of world own) (slot_sorts slots x) (s x)) =
      subst (λ (m : ℕ). IsTrue a ↔ ((x : ℕ) → x < m → HasSort (slot_sorts slots) (heads_of world own) (slot_sorts slots x) (s x))) e
      (subst (λ (ss : List Sort). IsTrue a ↔ ((x : ℕ) → x < n → HasSort (sort_of ss) (heads_of world own) (sort_of ss x) (s x))) (g ∙ f) p) in
      let stacked : (IsTrue b) ↔ ((x : ℕ) → x < length slots → is_state_kind (kind_at slots x) ≡ true → is_state_monad any (state_unknowns own) (s x) ≡ true) =
      subst (λ (m : ℕ). IsTrue b ↔ ((x : ℕ) → x < m → is_state_kind (kind_at slots x) ≡ true → is_state_monad any (state_unknowns own) (s x) ≡ true)) e
      (subst (λ (u : ℕ → Bool). IsTrue b ↔ ((x : ℕ) → x < n → is_state_kind (kind_at slots x) ≡ true → is_state_monad any u (s x) ≡ true)) (ap listed (k ∙ h) ∙ listed_states own) q) in
      ((λ t. record { sorted = sorted.0 t.0; stacked = stacked.0 t.1 }), (λ c. (sorted.1 c.sorted, stacked.1 c.stacked)))

pub first_then : (r a b : Bool) (P : Type 0) → a ≡ true → r ≡ b → (IsTrue a × IsTrue b) ↔ P → IsTrue r ↔ P
first_then r a b P e f k = ((λ h. k.0 (e, sym f ∙ h)), (λ p. f ∙ (k.1 p).1))

pub first_else : (r a b : Bool) (P : Type 0) → a ≡ false → r ≡ false → (IsTrue a × IsTrue b) ↔ P → IsTrue r ↔ P
first_else r a b P e f k = ((λ h. absurd (let g : false ≡ true = sym f ∙ h in cc)), (λ p. let h : IsTrue a = (k.1 p).0 in absurd (let g : false ≡ true = sym e ∙ h in cc)))
