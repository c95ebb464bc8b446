-- Lists of what words spell: one or more with a word between two, and any number.
use Rattle.std.specs.Prelude.{List, [], ◌∷◌}
use Rattle.explicit_form.specs.Words.{Word}

-- one or more, with a word between two
pub data IsSeparated {A : Type 0} (between : Word) (One : List Word → A → List Word → Type 0) : List Word → List A → List Word → Type 0 where
  the_last : (ts rest : List Word) (a : A) → One ts a rest → IsSeparated between One ts (a ∷ []) rest
  and_more : (ts mid rest : List Word) (a : A) (others : List A) → One ts a (between ∷ mid) → IsSeparated between One mid others rest → IsSeparated between One ts (a ∷ others) rest

-- any number
pub data IsMany {A : Type 0} (One : List Word → A → List Word → Type 0) : List Word → List A → List Word → Type 0 where
  no_more : (ts : List Word) → IsMany One ts [] ts
  one_more : (ts mid rest : List Word) (a : A) (others : List A) → One ts a mid → IsMany One mid others rest → IsMany One ts (a ∷ others) rest
