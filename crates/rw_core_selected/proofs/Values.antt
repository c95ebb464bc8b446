-- What well-typed trees give is of their types.
use Rattle.std.proofs.Common.{◌≡◌, refl, sym, subst, arith, ℕ, zero, suc, ◌+◌, nat_eq, Bool, true, false, if◌then◌else◌, List, [], ◌∷◌, ◌++◌, map, length, Option, Some, None, append-nil, append_assoc, length-append}
use Rattle.std.proofs.lemmas.Bool.Decides.{nat_tests}
use Rattle.std.proofs.lemmas.Option.{get_or_from_slice_get, slice_get_within}
use Rattle.rw_core.specs.declared.types.DataTy.{DataTy}
use Rattle.rw_core.specs.Values.{Val, Vals, val, none, more, vals}
use Rattle.rw_core.specs.Bits.{constructors_of, IsValue, AreValues}
use Rattle.rw_core.proofs.Options.{bind_some}
use Rattle.rw_core_flat.specs.Meaning.{value_at}
use Rattle.rw_core_flat.specs.WellTyped.{type_at, fields_in}
use Rattle.rw_core_layered.specs.Pures.{Calling}
use Rattle.rw_core_layered.specs.Calls.{Function, no_calls, and_function, calls_from, calls_of}
use Rattle.rw_core_selected.specs.Trees.{SelectTerm, SelectTerms, Tree, Branches}
use Rattle.rw_core_selected.specs.Trees.{field_at, field_in, tag_of, select_value, select_values, tree_value, branch_value}
use Rattle.rw_core_layered.specs.Wired.{Signature, signature_of, signature_at, KeepsTypes}
use Rattle.rw_core_selected.specs.Typed.{SelectTyped, local_typed, con_typed, field_typed, call_typed, SelectsTyped, no_selects_typed, more_selects_typed, TreeTyped, switch_typed, let_typed, result_typed}
use Rattle.rw_core_selected.specs.Typed.{BranchesTyped, no_branches_typed, other_branch_typed, more_branches_typed, AreTypedBehind}

same_held : {A : Type 0} (x : Option A) (a b : A) → x ≡ Some a → x ≡ Some b → a ≡ b
same_held x a b e h = cc

module _ (types : List DataTy) where
  looked_up : (g : List ℕ) (env : List Val) → AreValues types g (vals env) → (k d : ℕ) (v : Val) → type_at k g ≡ Some d → value_at k env ≡ Some v → IsValue types d v
  looked_up [] env h k d v e f = absurd (cc)
  looked_up (c ∷ g) [] h k d v e f = absurd h
  looked_up (c ∷ g) (w ∷ env) h zero d v e f = let a : c ≡ d = cc in let b : w ≡ v = cc in subst (λ z. IsValue types z v) a (subst (λ z. IsValue types c z) b h.0)
  looked_up (c ∷ g) (w ∷ env) h (suc k) d v e f = looked_up g env h.1 k d v e f

  field_found : (ds : List ℕ) (fields : Vals) → AreValues types ds fields → (place e : ℕ) (v : Val) → type_at place ds ≡ Some e → field_at place fields ≡ Some v → IsValue types e v
  field_found [] fields h place e v a b = absurd (cc)
  field_found (d ∷ ds) none h place e v a b = absurd h
  field_found (d ∷ ds) (more w ws) h zero e v a b = let k : d ≡ e = cc in let l : w ≡ v = cc in subst (λ z. IsValue types z v) k (subst (λ z. IsValue types d z) l h.0)
  field_found (d ∷ ds) (more w ws) h (suc place) e v a b = field_found ds ws h.1 place e v a b

  joined : (g ds : List ℕ) (env vs : List Val) → AreValues types g (vals env) → AreValues types ds (vals vs) → AreValues types (g ++ ds) (vals (env ++ vs))
  joined [] ds [] vs h k = k
  joined [] ds (v ∷ env) vs h k = absurd h
  joined (c ∷ g) ds [] vs h k = absurd h
  joined (c ∷ g) ds (v ∷ env) vs h k = (h.0, joined g ds env vs h.1 k)

  built : (d place : ℕ) (ds : List ℕ) (vs : Vals) → fields_in types d place ≡ Some ds → AreValues types ds vs → IsValue types d (val place vs)
  built d place ds vs e h =
      (slice_get_within (constructors_of types d) place ds e, subst (λ z. AreValues types z vs) (sym (get_or_from_slice_get (constructors_of types d) place ds [] e)) h)

  parts : (d tag : ℕ) (ds : List ℕ) (vs : Vals) → fields_in types d tag ≡ Some ds → IsValue types d (val tag vs) → AreValues types ds vs
  parts d tag ds vs e h = subst (λ z. AreValues types z vs) (get_or_from_slice_get (constructors_of types d) tag ds [] e) h.1

  -- a field of a value with the constructor that is asked for
  picked : (d tag place e : ℕ) (ds : List ℕ) (w v : Val) → fields_in types d tag ≡ Some ds → type_at place ds ≡ Some e → IsValue types d w → field_in tag place w ≡ Some v → IsValue types e v
  picked d tag place e ds (val other fields) v a b h k = by_tag (nat_eq other tag) refl k
    where
      equal_numbers : (m n : ℕ) → nat_eq m n ≡ true → m ≡ n
      equal_numbers m n z = grind (arith, nat_tests)

      by_tag : (c : Bool) → nat_eq other tag ≡ c → (if c then field_at place fields else None) ≡ Some v → IsValue types e v
      by_tag true x y = field_found ds fields (parts d tag ds fields a (subst (λ z. IsValue types d (val z fields)) (equal_numbers other tag x) h)) place e v b y
      by_tag false x y = absurd (cc)

  either : (c : Bool) (x y : Option Val) (d : ℕ) (v : Val) → (x ≡ Some v → IsValue types d v) → (y ≡ Some v → IsValue types d v) → (if c then x else y) ≡ Some v → IsValue types d v
  either true x y d v h k e = h e
  either false x y d v h k e = k e

  module _ (signatures : List Signature) (calls : Calling) (h : KeepsTypes types signatures calls) where
    mutual
      pub select_gives : {g : List ℕ} {t : SelectTerm} {d : ℕ} → SelectTyped types signatures g t d → (env : List Val) → AreValues types g (vals env) → (v : Val) → select_value calls t env ≡ Some v → IsValue types d v
      select_gives (local_typed {g = g} {k = k} {d = d} a) env fit v e = looked_up g env fit k d v a e
      select_gives (con_typed {place = place} {d = d} {ts = ts} ds a typed) env fit v e =
          let vs = bind_some (select_values calls ts env) _ v e in
          let same : val place (vals vs.0) ≡ v = cc in
          subst (λ z. IsValue types d z) same (built d place ds (vals vs.0) a (selects_give typed env fit vs.0 vs.1))
      select_gives (field_typed {tag = tag} {place = place} {e = f} {t = t} d ds typed a b) env fit v e =
          let w = bind_some (select_value calls t env) _ v e in
          picked d tag place f ds w.0 v a b (select_gives typed env fit w.0 w.1) w.2
      select_gives (call_typed {i = i} {ts = ts} s a typed) env fit v e =
          let vs = bind_some (select_values calls ts env) _ v e in
          h i s a vs.0 (selects_give typed env fit vs.0 vs.1) v vs.2

      selects_give : {g : List ℕ} {ts : SelectTerms} {ds : List ℕ} → SelectsTyped types signatures g ts ds → (env : List Val) → AreValues types g (vals env) → (vs : List Val) → select_values calls ts env ≡ Some vs → AreValues types ds (vals vs)
      selects_give no_selects_typed env fit vs e = let same : [] ≡ vs = cc in subst (λ z. AreValues types [] (vals z)) same tt
      selects_give (more_selects_typed {t = t} {ts = ts} {d = d} {ds = ds} typed others) env fit vs e =
          let w = bind_some (select_value calls t env) _ vs e in
          let ws = bind_some (select_values calls ts env) _ vs w.2 in
          let same : w.0 ∷ ws.0 ≡ vs = cc in
          subst (λ z. AreValues types (d ∷ ds) (vals z)) same (select_gives typed env fit w.0 w.1, selects_give others env fit ws.0 ws.1)

    mutual
      pub tree_gives : {g : List ℕ} {t : Tree} {d : ℕ} → TreeTyped types signatures g t d → (env : List Val) → AreValues types g (vals env) → (v : Val) → tree_value calls t env ≡ Some v → IsValue types d v
      tree_gives (switch_typed {t = t} {branches = branches} d typed others) env fit v e = let w = bind_some (select_value calls t env) _ v e in branch_gives others (tag_of w.0) env fit v w.2
      tree_gives (let_typed {g = g} {t = t} {rest = rest} d typed others) env fit v e =
          let w = bind_some (select_value calls t env) _ v e in
          tree_gives others (env ++ w.0 ∷ []) (joined g (d ∷ []) env (w.0 ∷ []) fit (select_gives typed env fit w.0 w.1, tt)) v w.2
      tree_gives (result_typed typed) env fit v e = select_gives typed env fit v e

      branch_gives : {g : List ℕ} {n : ℕ} {branches : Branches} {d : ℕ} → BranchesTyped types signatures g n branches d → (tag : ℕ) (env : List Val) → AreValues types g (vals env) → (v : Val) → branch_value calls branches tag env ≡ Some v → IsValue types d v
      branch_gives no_branches_typed tag env fit v e = absurd (cc)
      branch_gives (other_branch_typed typed) tag env fit v e = tree_gives typed env fit v e
      branch_gives (more_branches_typed {tag = place} {e = d} {t = t} {others = others} less typed rest) tag env fit v e =
          either (nat_eq tag place) (tree_value calls t env) (branch_value calls others tag env) d v (λ x. tree_gives typed env fit v x) (λ x. branch_gives rest tag env fit v x) e

  -- == Functions in call order ==

  behind_all : (xs ys : List Signature) (y s : Signature) → signature_at (length xs) (xs ++ y ∷ ys) ≡ Some s → y ≡ s
  behind_all [] ys y s e = cc
  behind_all (x ∷ xs) ys y s e = behind_all xs ys y s e

  lower : (m n : ℕ) → nat_eq (suc m) (suc n) ≡ false → nat_eq m n ≡ false
  lower m n e = grind (arith, nat_tests)

  among_all : (xs : List Signature) (y s : Signature) (i : ℕ) → nat_eq i (length xs) ≡ false → signature_at i (xs ++ y ∷ []) ≡ Some s → signature_at i xs ≡ Some s
  among_all [] y s zero a e = absurd (cc)
  among_all [] y s (suc i) a e = absurd (cc)
  among_all (x ∷ xs) y s zero a e = e
  among_all (x ∷ xs) y s (suc i) a e = among_all xs y s i (lower i (length xs) a) e

  one_more : (signatures : List Signature) (calls : Calling) (f : Function Tree) → KeepsTypes types signatures calls → TreeTyped types signatures f.params f.body f.result
      → KeepsTypes types (signatures ++ signature_of f ∷ []) (and_function tree_value calls (length signatures) f)
  one_more signatures calls f h typed i s a vs fit v e = by_number (nat_eq i (length signatures)) refl e
    where
      equal_numbers : (m n : ℕ) → nat_eq m n ≡ true → m ≡ n
      equal_numbers m n z = grind (arith, nat_tests)

      given : signature_of f ≡ s → (c : Bool) → (if c then tree_value calls f.body vs else None) ≡ Some v → IsValue types s.result v
      given same true x = subst (λ (z : Signature). IsValue types z.result v) same (tree_gives signatures calls h typed vs (subst (λ (z : Signature). AreValues types z.params (vals vs)) (sym same) fit) v x)
      given same false x = absurd (cc)

      by_number : (c : Bool) → nat_eq i (length signatures) ≡ c → (if c then (if nat_eq (length vs) (length f.params) then tree_value calls f.body vs else None) else calls i vs) ≡ Some v → IsValue types s.result v
      by_number true x y = given (behind_all signatures [] (signature_of f) s (subst (λ z. signature_at z (signatures ++ signature_of f ∷ []) ≡ Some s) (equal_numbers i (length signatures) x) a)) (nat_eq (length vs) (length f.params)) y
      by_number false x y = h i s (among_all signatures (signature_of f) s i x a) vs fit v y

  nothing_more : (xs : List Signature) → xs ++ [] ≡ xs
  nothing_more xs = append-nil xs

  again : (xs : List Signature) (y : Signature) (ys : List Signature) → (xs ++ y ∷ []) ++ ys ≡ xs ++ y ∷ ys
  again xs y ys = append_assoc xs (y ∷ []) ys

  all_more : (functions : List (Function Tree)) (signatures : List Signature) (calls : Calling) (n : ℕ) → n ≡ length signatures → KeepsTypes types signatures calls → AreTypedBehind types signatures functions
      → KeepsTypes types (signatures ++ map signature_of functions) (calls_from tree_value calls n functions)
  all_more [] signatures calls n e h typed = subst (λ z. KeepsTypes types z calls) (sym (nothing_more signatures)) h
  all_more (f ∷ fs) signatures calls n e h typed =
      subst (λ z. KeepsTypes types z (calls_from tree_value (and_function tree_value calls n f) (suc n) fs)) (again signatures (signature_of f) (map signature_of fs))
      (all_more fs (signatures ++ signature_of f ∷ []) (and_function tree_value calls n f) (suc n) longer (subst (λ z. KeepsTypes types (signatures ++ signature_of f ∷ []) (and_function tree_value calls z f)) (sym e) (one_more signatures calls f h typed.0)) typed.1)
    where
      longer : suc n ≡ length (signatures ++ signature_of f ∷ [])
      longer = let k : length (signatures ++ signature_of f ∷ []) ≡ length signatures + 1 = length-append signatures (signature_of f ∷ []) in omega arith

  pub functions_keep : (functions : List (Function Tree)) → AreTypedBehind types [] functions → KeepsTypes types (map signature_of functions) (calls_of tree_value functions)
  functions_keep functions typed = all_more functions [] no_calls 0 refl (λ i s a vs fit v e. absurd (cc)) typed
