-- Systems of devices: side by side, and fed back. One definition for each language that has devices: of its leaves and of its functions it needs
-- only how they are read.
use Rattle.std.specs.Prelude.{◌≡◌, ℕ, suc, List, [], ◌∷◌, ◌++◌, length, Option, Some, None}
use Rattle.rw_core.specs.Values.{Val, val, none, more}
use Rattle.rw_core.specs.Options.{◌>>=◌, each, Grows}
use Rattle.rw_core.specs.Eventually.{GrowsInTime}

-- a system: a device by itself; two side by side; one whose output is seen through the first function, and whose input is what the second makes of
-- that output and an outer input
pub data System (L F : Type 0) : Type 0 where
  leaf : L → System L F
  side_by_side : System L F → System L F → System L F
  fed_back : F → F → System L F → System L F

-- == Pairs ==

abbrev pub first_part : Val → Option Val
first_part (val place (more v (more w none))) = Some v
first_part _ = None

abbrev pub second_part : Val → Option Val
second_part (val place (more v (more w none))) = Some w
second_part _ = None

-- the pairs of two lists of one length
abbrev pub paired : List Val → List Val → Option (List Val)
paired [] [] = Some []
paired (v ∷ vs) (w ∷ ws) = do rest ← paired vs ws; Some (val 0 (more v (more w none)) ∷ rest)
paired _ _ = None

abbrev pub last_of : List Val → Option Val
last_of [] = None
last_of (v ∷ []) = Some v
last_of (v ∷ w ∷ vs) = last_of (w ∷ vs)

-- == Outputs ==

-- how leaves and functions are read: the outputs of a leaf on a list of inputs, and what a function makes of one value and of two
pub record Reading (L F : Type 0) : Type 0 where
  pub outputs : L → List Val → Option (List Val)
  pub one : F → Val → Option Val
  pub two : F → Val → Val → Option Val

-- the inputs of a device that is fed back, from left to right: to these, for each outer input, what `two` makes of the output shown before and of it
abbrev pub fed : (List Val → Option (List Val)) → (Val → Val → Option Val) → List Val → List Val → Option (List Val)
fed outputs_on two inner [] = Some inner
fed outputs_on two inner (j ∷ outer) = do
  outputs ← outputs_on inner
  o ← last_of outputs
  i ← two o j
  fed outputs_on two (inner ++ i ∷ []) outer

-- the outputs of a system on a list of inputs
abbrev pub system_outputs : {L F : Type 0} → Reading L F → System L F → List Val → Option (List Val)
system_outputs reading (leaf l) inputs = reading.outputs l inputs
system_outputs reading (side_by_side d e) inputs = do
  firsts ← each first_part inputs
  seconds ← each second_part inputs
  outputs ← system_outputs reading d firsts
  others ← system_outputs reading e seconds
  paired outputs others
system_outputs reading (fed_back f g d) inputs = do
  inner ← fed (system_outputs reading d) (reading.two g) [] inputs
  outputs ← system_outputs reading d inner
  each (reading.one f) outputs

-- == Two systems of one shape ==

-- two systems of one shape, whose leaves, functions of one value and functions of two values correspond
abbrev pub AreAlike : {L F M G : Type 0} → (L → M → Type 0) → (F → G → Type 0) → (F → G → Type 0) → System L F → System M G → Type 0
AreAlike leaves ones twos (leaf l) (leaf m) = leaves l m
AreAlike leaves ones twos (side_by_side d e) (side_by_side x y) = AreAlike leaves ones twos d x × AreAlike leaves ones twos e y
AreAlike leaves ones twos (fed_back f g d) (fed_back i j x) = ones f i × twos g j × AreAlike leaves ones twos d x
AreAlike leaves ones twos _ _ = ⊥

-- of each leaf and function the two readings give the same
abbrev pub Agrees : {L F M G : Type 0} → Reading L F → Reading M G → System L F → System M G → Type 0
Agrees first second =
    AreAlike (λ l m. (inputs : List Val) → first.outputs l inputs ≡ second.outputs m inputs) (λ f g. (v : Val) → first.one f v ≡ second.one g v)
    (λ f g. (v w : Val) → first.two f v w ≡ second.two g v w)

-- what the first reading gives of a leaf or a function, the second gives too
abbrev pub Follows : {L F M G : Type 0} → Reading L F → Reading M G → System L F → System M G → Type 0
Follows first second =
    AreAlike (λ l m. (inputs : List Val) → Grows (first.outputs l inputs) (second.outputs m inputs)) (λ f g. (v : Val) → Grows (first.one f v) (second.one g v))
    (λ f g. (v w : Val) → Grows (first.two f v w) (second.two g v w))

-- what the first reading gives of a leaf or a function, the second reaches
abbrev pub FollowsInTime : {L F M G : Type 0} → Reading L F → (ℕ → Reading M G) → System L F → System M G → Type 0
FollowsInTime first within =
    AreAlike (λ l m. (inputs : List Val) → GrowsInTime (first.outputs l inputs) (λ n. (within n).outputs m inputs))
    (λ f g. (v : Val) → GrowsInTime (first.one f v) (λ n. (within n).one g v)) (λ f g. (v w : Val) → GrowsInTime (first.two f v w) (λ n. (within n).two g v w))

-- == One system ==

-- P holds of each leaf
abbrev pub EachLeaf : {L F : Type 0} → (L → Type 0) → System L F → Type 0
EachLeaf P (leaf l) = P l
EachLeaf P (side_by_side d e) = EachLeaf P d × EachLeaf P e
EachLeaf P (fed_back f g d) = EachLeaf P d

-- each leaf shows one output more than it was given inputs
abbrev pub LeavesShowOneMore : {L F : Type 0} → Reading L F → System L F → Type 0
LeavesShowOneMore reading = EachLeaf (λ l. (inputs outputs : List Val) → reading.outputs l inputs ≡ Some outputs → length outputs ≡ suc (length inputs))
