-- What a store of named bytes and a sink mean, and what their calls may change.
use Rattle.std.specs.Prelude.{◌≡◌, ◌≢◌, ◌⊎◌, ℕ, ◌+◌, ◌-◌, ◌^◌, ◌≤◌, min, List, ◌++◌, take, Option, Some, None}

-- what each name holds, if it holds something
abbrev pub Files : Type 0
Files = List ℕ → Option (List ℕ)

-- a fact of the content before and after, where it is told; it is told after exactly where it was told before
abbrev pub Told : {A : Type 0} → (A → A → Type 0) → Option A → Option A → Type 0
Told p None None = Unit {0}
Told p (Some a) (Some b) = p a b
Told p None (Some b) = ⊥
Told p (Some a) None = ⊥

-- a fact of the content, where it is told
abbrev pub IfTold : {A : Type 0} → (A → Type 0) → Option A → Type 0
IfTold p None = Unit {0}
IfTold p (Some a) = p a

-- the last value of a count
abbrev pub last_count : ℕ
last_count = 2 ^ 64 - 1

-- one more, or the last value
abbrev pub next_count : ℕ → ℕ
next_count n = min (n + 1) last_count

-- a count rose, or stands at its last value
abbrev pub Rose : ℕ → ℕ → Type 0
Rose old new = next_count old ≤ new

-- the new content is the old one with these bytes at its end
abbrev pub Appended : List ℕ → List ℕ → List ℕ → Type 0
Appended bytes old new = new ≡ old ++ bytes

-- the new content is the old one with a prefix of these bytes at its end
abbrev pub AppendedPrefix : List ℕ → List ℕ → List ℕ → Type 0
AppendedPrefix bytes old new = (n : ℕ) × (new ≡ old ++ take n bytes)

-- every other name holds what it held
abbrev pub OthersKept : List ℕ → Files → Files → Type 0
OthersKept name old new = (other : List ℕ) → other ≢ name → new other ≡ old other

-- the name holds exactly these bytes, and every other name what it held
pub record Saved (name bytes : List ℕ) (old new : Files) : Type 0 where
  pub named : new name ≡ Some bytes
  pub others : OthersKept name old new

-- the name holds what it held, or a prefix of these bytes, and every other name what it held
pub record SavedInPart (name bytes : List ℕ) (old new : Files) : Type 0 where
  pub named : (new name ≡ old name) ⊎ ((n : ℕ) × (new name ≡ Some (take n bytes)))
  pub others : OthersKept name old new

-- the name holds something, and these are its first bytes, at most so many
abbrev pub Loads : List ℕ → ℕ → List ℕ → Files → Type 0
Loads name most found files = (all : List ℕ) × (files name ≡ Some all) × (found ≡ take most all)

-- the name holds nothing
abbrev pub HoldsNothing : List ℕ → Files → Type 0
HoldsNothing name files = files name ≡ None
