-- A trace has an output for each input that it used, and where it waits one more; so a device shows one output more than inputs.
use Rattle.std.proofs.Common.{◌≡◌, ℕ, zero, suc, ◌+◌, ◌≤◌, List, [], ◌∷◌, ◌++◌, length, replicate, Option, Some, refl, ap, arith, length-append}
use Rattle.std.proofs.lemmas.List.{length-replicate}
use Rattle.rw_core.specs.Values.{Val}
use Rattle.rw_core.specs.Traces.{End, waits, finished, Trace, silent, signalled, and_on, without_state, last_repeated, shown, Counts}
use Rattle.rw_core.proofs.Options.{bind_some}

pub counts_silent : {V S : Type 0} (v : V) (states : S) (inputs : List Val) → Counts (length inputs) (silent v states inputs).outputs (silent v states inputs).end
counts_silent v states inputs = omega arith

pub counts_signalled : {V S : Type 0} (itself : Val → V) (v : V) (states : S) (inputs : List Val) → Counts (length inputs) (signalled itself v states inputs).outputs (signalled itself v states inputs).end
counts_signalled itself v states [] = refl
counts_signalled itself v states (i ∷ inputs) = omega arith

counts_more : {V S : Type 0} (n : ℕ) (before outputs : List V) (end : End V S) (left : ℕ) → length before + left ≡ n → Counts left outputs end → Counts n (before ++ outputs) end
counts_more n before outputs waits left e h = let l : length (before ++ outputs) ≡ length before + length outputs = length-append before outputs in omega arith
counts_more n before outputs (finished v states inputs) left e h = let l : length (before ++ outputs) ≡ length before + length outputs = length-append before outputs in omega arith

pub counts_and_on : {V S : Type 0} (n : ℕ) (outputs : List V) (end : End V S) (next : V → S → List Val → Option (Trace V S)) (t : Trace V S) → Counts n outputs end
    → ((v : V) (states : S) (left : List Val) (u : Trace V S) → next v states left ≡ Some u → Counts (length left) u.outputs u.end) → and_on outputs end next ≡ Some t → Counts n t.outputs t.end
counts_and_on n outputs waits next t h k e = let i : t ≡ record { outputs = outputs; end = waits } = cc in rw i h
counts_and_on n outputs (finished v states left) next t h k e =
    let u = bind_some (next v states left) _ t e in
    let i : t ≡ record { outputs = outputs ++ u.0.outputs; end = u.0.end } = cc in
    rw i (counts_more n outputs u.0.outputs u.0.end (length left) h (k v states left u.0 u.1))

pub counts_without_state : {V S : Type 0} (n : ℕ) (rest : S → Option S) (outputs : List V) (end : End V S) (t : Trace V S) → Counts n outputs end → without_state rest outputs end ≡ Some t → Counts n t.outputs t.end
counts_without_state n rest outputs waits t h e = let i : t ≡ record { outputs = outputs; end = waits } = cc in rw i h
counts_without_state n rest outputs (finished v states left) t h e =
    let s = bind_some (rest states) _ t e in
    let i : t ≡ record { outputs = outputs; end = finished v s.0 left } = cc in
    rw i h

length-last_repeated : {V : Type 0} (n : ℕ) (vs made : List V) → length vs ≤ suc n → last_repeated n vs ≡ Some made → length made ≡ suc n
length-last_repeated n [] made h e = absurd (cc)
length-last_repeated zero (v ∷ []) made h e = let k : made ≡ v ∷ [] = cc in rw k refl
length-last_repeated (suc n) (v ∷ []) made h e = let k : made ≡ v ∷ replicate (suc n) v = cc in rw k (ap suc (length-replicate (suc n) v))
length-last_repeated zero (v ∷ w ∷ vs) made h e = absurd (omega arith)
length-last_repeated (suc n) (v ∷ w ∷ vs) made h e =
    let r = bind_some (last_repeated n (w ∷ vs)) _ made e in
    let k : made ≡ v ∷ r.0 = cc in
    rw k (ap suc (length-last_repeated n (w ∷ vs) r.0 (omega arith) r.1))

-- the outputs of the trace may have been read as others, one for each
pub length-shown : {V S O : Type 0} (n : ℕ) (outputs : List V) (end : End V S) (read made : List O) → Counts n outputs end → length read ≡ length outputs → shown n end read ≡ Some made → length made ≡ suc n
length-shown n outputs waits read made h l e = let k : made ≡ read = cc in rw k (omega arith)
length-shown n outputs (finished v states left) read made h l e = length-last_repeated n read made (omega arith) e
