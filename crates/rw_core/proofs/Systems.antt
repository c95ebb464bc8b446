-- Two readings that agree on each leaf and function of a system agree on the system; and a system shows one output more than inputs.
use Rattle.std.proofs.Common.{◌≡◌, ℕ, suc, ◌+◌, List, [], ◌∷◌, ◌++◌, length, Option, Some, None, refl, ap, arith, length-append}
use Rattle.rw_core.specs.Values.{Val, val, none, more}
use Rattle.rw_core.specs.Options.{◌>>=◌, each, Grows}
use Rattle.rw_core.specs.Eventually.{GrowsInTime}
use Rattle.rw_core.specs.Systems.{System, leaf, side_by_side, fed_back, first_part, second_part, paired, last_of, Reading, fed, system_outputs, AreAlike, Agrees, Follows, FollowsInTime, EachLeaf, LeavesShowOneMore}
use Rattle.rw_core.proofs.Options.{grows_same, grows_on, bind_some, length-each}
use Rattle.rw_core.proofs.Eventually.{grows_in_time, in_time_on}

-- what corresponds in one way corresponds in another
pub alike_map : {L F M G : Type 0} (leaves others : L → M → Type 0) (ones ones_too twos twos_too : F → G → Type 0) → ((l : L) (m : M) → leaves l m → others l m) → ((f : F) (g : G) → ones f g → ones_too f g)
    → ((f : F) (g : G) → twos f g → twos_too f g) → (s : System L F) (t : System M G) → AreAlike leaves ones twos s t → AreAlike others ones_too twos_too s t
alike_map leaves others ones ones_too twos twos_too a b c (leaf l) (leaf m) h = a l m h
alike_map leaves others ones ones_too twos twos_too a b c (side_by_side d e) (side_by_side x y) h =
    (alike_map leaves others ones ones_too twos twos_too a b c d x h.0, alike_map leaves others ones ones_too twos twos_too a b c e y h.1)
alike_map leaves others ones ones_too twos twos_too a b c (fed_back f g d) (fed_back i j x) h = (b f i h.0, c g j h.1, alike_map leaves others ones ones_too twos twos_too a b c d x h.2)
alike_map leaves others ones ones_too twos twos_too a b c (leaf l) (side_by_side x y) h = absurd h
alike_map leaves others ones ones_too twos twos_too a b c (leaf l) (fed_back i j x) h = absurd h
alike_map leaves others ones ones_too twos twos_too a b c (side_by_side d e) (leaf m) h = absurd h
alike_map leaves others ones ones_too twos twos_too a b c (side_by_side d e) (fed_back i j x) h = absurd h
alike_map leaves others ones ones_too twos twos_too a b c (fed_back f g d) (leaf m) h = absurd h
alike_map leaves others ones ones_too twos twos_too a b c (fed_back f g d) (side_by_side x y) h = absurd h

-- a system corresponds to itself
pub alike_same : {L F : Type 0} (leaves : L → L → Type 0) (ones twos : F → F → Type 0) → ((l : L) → leaves l l) → ((f : F) → ones f f) → ((f : F) → twos f f) → (s : System L F) → AreAlike leaves ones twos s s
alike_same leaves ones twos a b c (leaf l) = a l
alike_same leaves ones twos a b c (side_by_side d e) = (alike_same leaves ones twos a b c d, alike_same leaves ones twos a b c e)
alike_same leaves ones twos a b c (fed_back f g d) = (b f, c g, alike_same leaves ones twos a b c d)

-- what holds of every leaf holds of those of a system
pub each_leaf : {L F : Type 0} (P : L → Type 0) → ((l : L) → P l) → (s : System L F) → EachLeaf P s
each_leaf P h (leaf l) = h l
each_leaf P h (side_by_side d e) = (each_leaf P h d, each_leaf P h e)
each_leaf P h (fed_back f g d) = each_leaf P h d

-- == Any comparison of results that goes on with them ==

module _ (R : (B : Type 0) → Option B → (ℕ → Option B) → Type 0) (same : (B : Type 0) (x : Option B) → R B x (λ n. x))
    (on : (A B : Type 0) (x : Option A) (y : ℕ → Option A) (f : A → Option B) (g : ℕ → A → Option B) → R A x y → ((a : A) → R B (f a) (λ n. g n a)) → R B (x >>= f) (λ n. y n >>= g n)) where
  each_compared : (A B : Type 0) (f : A → Option B) (g : ℕ → A → Option B) → ((a : A) → R B (f a) (λ n. g n a)) → (xs : List A) → R (List B) (each f xs) (λ n. each (g n) xs)
  each_compared A B f g h [] = same (List B) (Some [])
  each_compared A B f g h (x ∷ xs) =
      on B (List B) (f x) (λ n. g n x) _ (λ n y. each (g n) xs >>= λ ys. Some (y ∷ ys)) (h x)
      (λ y. on (List B) (List B) (each f xs) (λ n. each (g n) xs) _ (λ n ys. Some (y ∷ ys)) (each_compared A B f g h xs) (λ ys. same (List B) (Some (y ∷ ys))))

  fed_compared : (F : List Val → Option (List Val)) (S : ℕ → List Val → Option (List Val)) (f : Val → Val → Option Val) (g : ℕ → Val → Val → Option Val) → ((inputs : List Val) → R (List Val) (F inputs) (λ n. S n inputs))
      → ((v w : Val) → R Val (f v w) (λ n. g n v w)) → (inner outer : List Val) → R (List Val) (fed F f inner outer) (λ n. fed (S n) (g n) inner outer)
  fed_compared F S f g h k inner [] = same (List Val) (Some inner)
  fed_compared F S f g h k inner (j ∷ outer) =
      on (List Val) (List Val) (F inner) (λ n. S n inner) _ (λ n outputs. last_of outputs >>= λ o. g n o j >>= λ i. fed (S n) (g n) (inner ++ i ∷ []) outer) (h inner)
      (λ outputs. on Val (List Val) (last_of outputs) (λ n. last_of outputs) _ (λ n o. g n o j >>= λ i. fed (S n) (g n) (inner ++ i ∷ []) outer) (same Val (last_of outputs))
      (λ o. on Val (List Val) (f o j) (λ n. g n o j) _ (λ n i. fed (S n) (g n) (inner ++ i ∷ []) outer) (k o j) (λ i. fed_compared F S f g h k (inner ++ i ∷ []) outer)))

  module _ {L F M G : Type 0} (first : Reading L F) (within : ℕ → Reading M G) where
    abbrev pub Compares : System L F → System M G → Type 0
    Compares =
        AreAlike (λ l m. (inputs : List Val) → R (List Val) (first.outputs l inputs) (λ n. (within n).outputs m inputs))
        (λ f g. (v : Val) → R Val (first.one f v) (λ n. (within n).one g v)) (λ f g. (v w : Val) → R Val (first.two f v w) (λ n. (within n).two g v w))

    pub compared : (s : System L F) (t : System M G) → Compares s t → (inputs : List Val) → R (List Val) (system_outputs first s inputs) (λ n. system_outputs (within n) t inputs)
    compared (leaf l) (leaf m) h inputs = h inputs
    compared (side_by_side d e) (side_by_side x y) h inputs =
        on (List Val) (List Val) (each first_part inputs) (λ n. each first_part inputs) _
        (λ n firsts. each second_part inputs >>= λ seconds. system_outputs (within n) x firsts >>= λ outputs. system_outputs (within n) y seconds >>= λ others. paired outputs others)
        (same (List Val) (each first_part inputs))
        (λ firsts. on (List Val) (List Val) (each second_part inputs) (λ n. each second_part inputs) _
        (λ n seconds. system_outputs (within n) x firsts >>= λ outputs. system_outputs (within n) y seconds >>= λ others. paired outputs others) (same (List Val) (each second_part inputs))
        (λ seconds. on (List Val) (List Val) (system_outputs first d firsts) (λ n. system_outputs (within n) x firsts) _
        (λ n outputs. system_outputs (within n) y seconds >>= λ others. paired outputs others) (compared d x h.0 firsts)
        (λ outputs. on (List Val) (List Val) (system_outputs first e seconds) (λ n. system_outputs (within n) y seconds) _ (λ n others. paired outputs others) (compared e y h.1 seconds)
        (λ others. same (List Val) (paired outputs others)))))
    compared (fed_back f g d) (fed_back i j x) h inputs =
        on (List Val) (List Val) (fed (system_outputs first d) (first.two g) [] inputs) (λ n. fed (system_outputs (within n) x) ((within n).two j) [] inputs) _
        (λ n inner. system_outputs (within n) x inner >>= λ outputs. each ((within n).one i) outputs)
        (fed_compared (system_outputs first d) (λ n. system_outputs (within n) x) (first.two g) (λ n. (within n).two j) (compared d x h.2) h.1 [] inputs)
        (λ inner. on (List Val) (List Val) (system_outputs first d inner) (λ n. system_outputs (within n) x inner) _ (λ n outputs. each ((within n).one i) outputs) (compared d x h.2 inner)
        (λ outputs. each_compared Val Val (first.one f) (λ n. (within n).one i) h.0 outputs))
    compared (leaf l) (side_by_side x y) h inputs = absurd h
    compared (leaf l) (fed_back i j x) h inputs = absurd h
    compared (side_by_side d e) (leaf m) h inputs = absurd h
    compared (side_by_side d e) (fed_back i j x) h inputs = absurd h
    compared (fed_back f g d) (leaf m) h inputs = absurd h
    compared (fed_back f g d) (side_by_side x y) h inputs = absurd h

-- == The three comparisons ==

pub system_follows_in_time : {L F M G : Type 0} (first : Reading L F) (within : ℕ → Reading M G) (s : System L F) (t : System M G) → FollowsInTime first within s t
    → (inputs : List Val) → GrowsInTime (system_outputs first s inputs) (λ n. system_outputs (within n) t inputs)
system_follows_in_time first within s t h inputs = compared (λ B. GrowsInTime {A = B}) (λ B. grows_in_time {A = B}) (λ A B. in_time_on {A = A} {B = B}) first within s t h inputs

pub system_follows : {L F M G : Type 0} (first : Reading L F) (second : Reading M G) (s : System L F) (t : System M G) → Follows first second s t
    → (inputs : List Val) → Grows (system_outputs first s inputs) (system_outputs second t inputs)
system_follows first second s t h inputs =
    compared (λ B x y. Grows x (y 0)) (λ B x. grows_same x) (λ A B x y f g. grows_on x (y 0) f (g 0)) first (λ n. second) s t h inputs

on_equal : {A B : Type 0} (x y : Option A) (f g : A → Option B) → x ≡ y → ((a : A) → f a ≡ g a) → (x >>= f) ≡ (y >>= g)
on_equal x None f g e h = rw e refl
on_equal x (Some a) f g e h = rw e (h a)

pub system_agrees : {L F M G : Type 0} (first : Reading L F) (second : Reading M G) (s : System L F) (t : System M G) → Agrees first second s t
    → (inputs : List Val) → system_outputs first s inputs ≡ system_outputs second t inputs
system_agrees first second s t h inputs =
    compared (λ B x y. x ≡ y 0) (λ B x. refl) (λ A B x y f g. on_equal x (y 0) f (g 0)) first (λ n. second) s t h inputs

-- == One output more ==

length-paired : (vs ws zs : List Val) → paired vs ws ≡ Some zs → length zs ≡ length vs
length-paired [] [] zs e = let k : zs ≡ [] = cc in rw k refl
length-paired [] (w ∷ ws) zs e = absurd (cc)
length-paired (v ∷ vs) [] zs e = absurd (cc)
length-paired (v ∷ vs) (w ∷ ws) zs e =
    let r = bind_some (paired vs ws) _ zs e in
    let k : zs ≡ val 0 (more v (more w none)) ∷ r.0 = cc in
    rw k (ap suc (length-paired vs ws r.0 r.1))

length-fed : (outputs_on : List Val → Option (List Val)) (two : Val → Val → Option Val) (inner outer made : List Val) → fed outputs_on two inner outer ≡ Some made → length made ≡ length inner + length outer
length-fed outputs_on two inner [] made e = let k : made ≡ inner = cc in rw k (omega arith)
length-fed outputs_on two inner (j ∷ outer) made e =
    let outputs = bind_some (outputs_on inner) _ made e in
    let o = bind_some (last_of outputs.0) _ made outputs.2 in
    let i = bind_some (two o.0 j) _ made o.2 in
    let h : length made ≡ length (inner ++ i.0 ∷ []) + length outer = length-fed outputs_on two (inner ++ i.0 ∷ []) outer made i.2 in
    let l : length (inner ++ i.0 ∷ []) ≡ length inner + length (i.0 ∷ []) = length-append inner (i.0 ∷ []) in
    omega arith

length-fed_all : (outputs_on : List Val → Option (List Val)) (two : Val → Val → Option Val) (outer made : List Val) → fed outputs_on two [] outer ≡ Some made → length made ≡ length outer
length-fed_all outputs_on two outer made e = let nothing_yet : List Val = [] in let h : length made ≡ length nothing_yet + length outer = length-fed outputs_on two nothing_yet outer made e in omega arith

pub length-system_outputs : {L F : Type 0} (reading : Reading L F) (s : System L F) → LeavesShowOneMore reading s → (inputs outputs : List Val) → system_outputs reading s inputs ≡ Some outputs → length outputs ≡ suc (length inputs)
length-system_outputs reading (leaf l) h inputs outputs e = h inputs outputs e
length-system_outputs reading (side_by_side d x) h inputs outputs e =
    let firsts = bind_some (each first_part inputs) _ outputs e in
    let seconds = bind_some (each second_part inputs) _ outputs firsts.2 in
    let made = bind_some (system_outputs reading d firsts.0) _ outputs seconds.2 in
    let others = bind_some (system_outputs reading x seconds.0) _ outputs made.2 in
    let a : length firsts.0 ≡ length inputs = length-each first_part inputs firsts.0 firsts.1 in
    let b : length made.0 ≡ suc (length firsts.0) = length-system_outputs reading d h.0 firsts.0 made.0 made.1 in
    let c : length outputs ≡ length made.0 = length-paired made.0 others.0 outputs others.2 in
    omega arith
length-system_outputs reading (fed_back f g d) h inputs outputs e =
    let inner = bind_some (fed (system_outputs reading d) (reading.two g) [] inputs) _ outputs e in
    let made = bind_some (system_outputs reading d inner.0) _ outputs inner.2 in
    let a : length inner.0 ≡ length inputs = length-fed_all (system_outputs reading d) (reading.two g) inputs inner.0 inner.1 in
    let b : length made.0 ≡ suc (length inner.0) = length-system_outputs reading d h inner.0 made.0 made.1 in
    let c : length outputs ≡ length made.0 = length-each (reading.one f) made.0 outputs made.2 in
    omega arith
