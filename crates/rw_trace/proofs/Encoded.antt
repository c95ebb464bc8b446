-- Lines that encode values stand before those that are left.
use Rattle.std.proofs.Common.{◌≡◌, ℕ, suc, ◌+◌, List, [], ◌∷◌, ◌++◌, Bool, sym, arith, subst, append_assoc}
use Rattle.rw_core.specs.declared.types.DataTy.{DataTy}
use Rattle.rw_core.specs.Values.{Val}
use Rattle.rw_core.specs.Bits.{Encodes}
use Rattle.rw_trace.specs.TraceValues.{AreEncoded, FirstWithoutValue, later_line}

-- these lines are left, behind lines that encode these values: what holds of them holds of all
pub record Left (types : List DataTy) (ty : ℕ) (all left : List (List Bool)) (done : List Val) (number : ℕ) : Type 0 where
  pub encoded : (vs : List Val) → AreEncoded types ty left vs → AreEncoded types ty all (done ++ vs)
  pub bad : (k : ℕ) → FirstWithoutValue types ty left (suc k) → FirstWithoutValue types ty all (number + k)

-- at first all are left
pub all_left : (types : List DataTy) (ty : ℕ) (all : List (List Bool)) → Left types ty all all [] 1
all_left types ty all = record {
  encoded = λ vs h. h;
  bad = λ k h. let e : 1 + k ≡ suc k = omega arith in subst (λ n. FirstWithoutValue types ty all n) (sym e) h;
}

-- and then all but one more
pub one_less : (types : List DataTy) (ty : ℕ) (all left : List (List Bool)) (line : List Bool) (done : List Val) (v : Val) (number : ℕ) → Encodes types ty v line
    → Left types ty all (line ∷ left) done number → Left types ty all left (done ++ v ∷ []) (number + 1)
one_less types ty all left line done v number e h = record {
  encoded = λ vs k. rw (append_assoc done (v ∷ []) vs) (h.encoded (v ∷ vs) (e, k));
  bad = λ k b. let s : number + 1 + k ≡ number + suc k = omega arith in rw s (h.bad (suc k) (later_line line left v (suc k) e b));
}
