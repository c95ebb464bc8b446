-- The trace of a device: its outputs, and how it ends. V is what stands for a value and S what stands for the states, which differ from language
-- to language; inputs are values.
use Rattle.std.specs.Prelude.{◌≡◌, ℕ, zero, suc, ◌+◌, List, [], ◌∷◌, ◌++◌, length, replicate, Option, Some, None}
use Rattle.rw_core.specs.Values.{Val}
use Rattle.rw_core.specs.Options.{◌>>=◌}

-- how a trace ends: it waits for an input, or it is finished with a value, the states after it, and the inputs that are left
pub data End (V S : Type 0) : Type 0 where
  waits : End V S
  finished : V → S → List Val → End V S

-- the outputs one after the other, and the end
pub record Trace (V S : Type 0) : Type 0 where
  pub outputs : List V
  pub end : End V S

-- an action that shows nothing
abbrev pub silent : {V S : Type 0} → V → S → List Val → Trace V S
silent v states inputs = record { outputs = []; end = finished v states inputs }

-- a signal: it shows a value, and its own value is the next input, which stands for itself
abbrev pub signalled : {V S : Type 0} → (Val → V) → V → S → List Val → Trace V S
signalled itself v states [] = record { outputs = v ∷ []; end = waits }
signalled itself v states (i ∷ inputs) = record { outputs = v ∷ []; end = finished (itself i) states inputs }

-- a finished trace goes on with another; one that waits is all there is
abbrev pub and_on : {V S : Type 0} → List V → End V S → (V → S → List Val → Option (Trace V S)) → Option (Trace V S)
and_on outputs waits next = Some (record { outputs = outputs; end = waits })
and_on outputs (finished v states inputs) next = do t ← next v states inputs; Some (record { outputs = outputs ++ t.outputs; end = t.end })

-- the state of an `extrude`, the first one, is dropped at its end: `rest` has the others
abbrev pub without_state : {V S : Type 0} → (S → Option S) → List V → End V S → Option (Trace V S)
without_state rest outputs waits = Some (record { outputs = outputs; end = waits })
without_state rest outputs (finished v states inputs) = do others ← rest states; Some (record { outputs = outputs; end = finished v others inputs })

-- == What a whole device shows ==

-- the last of a list, repeated until there are so many and one more
abbrev pub last_repeated : {V : Type 0} → ℕ → List V → Option (List V)
last_repeated many [] = None
last_repeated zero (v ∷ []) = Some (v ∷ [])
last_repeated (suc many) (v ∷ []) = Some (v ∷ replicate (suc many) v)
last_repeated zero (v ∷ w ∷ vs) = do rest ← last_repeated zero (w ∷ vs); Some (v ∷ rest)
last_repeated (suc many) (v ∷ w ∷ vs) = do rest ← last_repeated many (w ∷ vs); Some (v ∷ rest)

-- a device that waits has shown all its outputs, one more than inputs; one that is finished keeps the last
abbrev pub shown : {V S O : Type 0} → ℕ → End V S → List O → Option (List O)
shown inputs waits outputs = Some outputs
shown inputs (finished v states left) outputs = last_repeated inputs outputs

-- a trace over so many inputs has an output for each input that it used, and where it waits one more
abbrev pub Counts : {V S : Type 0} → ℕ → List V → End V S → Type 0
Counts inputs outputs waits = length outputs ≡ suc inputs
Counts inputs outputs (finished v states left) = length outputs + length left ≡ inputs
