-- Well-typed trees of decisions, over a table of data types: each call is of an earlier function. A field has a value only where its constructor is the
-- one that stands there, so types alone don't say that a tree has one.
use Rattle.std.specs.Prelude.{◌≡◌, ℕ, ◌<◌, List, [], ◌∷◌, ◌++◌, map, length, Some}
use Rattle.rw_core.specs.declared.types.DataTy.{DataTy}
use Rattle.rw_core.specs.Bits.{IsTable, constructors_of}
use Rattle.rw_core_flat.specs.WellTyped.{fields_in, type_at}
use Rattle.rw_core_layered.specs.Calls.{Function}
use Rattle.rw_core_layered.specs.Machines.{MachineLeaf, leaf_at}
use Rattle.rw_core_layered.specs.Wired.{Signature, signature_of, signature_at, LeafTyped, WiredTyped}
use Rattle.rw_core_selected.specs.Trees.{SelectTerm, select_local, select_con, select_field, select_call, SelectTerms, no_selects, more_selects, Tree, tree_switch, tree_let, tree_result, Branches, no_branches, other_branch, more_branches, TreeMachine}
use Rattle.rw_core_selected.specs.Plans.{PlainPlan}

module _ (types : List DataTy) (signatures : List Signature) where
  mutual
    pub data SelectTyped : List ℕ → SelectTerm → ℕ → Type 0 where
      local_typed : {g : List ℕ} {k d : ℕ} → type_at k g ≡ Some d → SelectTyped g (select_local k) d
      con_typed : {g : List ℕ} {place d : ℕ} {ts : SelectTerms} (ds : List ℕ) → fields_in types d place ≡ Some ds → SelectsTyped g ts ds → SelectTyped g (select_con d place ts) d
      field_typed : {g : List ℕ} {tag place e : ℕ} {t : SelectTerm} (d : ℕ) (ds : List ℕ) → SelectTyped g t d → fields_in types d tag ≡ Some ds → type_at place ds ≡ Some e → SelectTyped g (select_field tag place t) e
      call_typed : {g : List ℕ} {i : ℕ} {ts : SelectTerms} (s : Signature) → signature_at i signatures ≡ Some s → SelectsTyped g ts s.params → SelectTyped g (select_call i ts) s.result

    pub data SelectsTyped : List ℕ → SelectTerms → List ℕ → Type 0 where
      no_selects_typed : {g : List ℕ} → SelectsTyped g no_selects []
      more_selects_typed : {g : List ℕ} {t : SelectTerm} {ts : SelectTerms} {d : ℕ} {ds : List ℕ} → SelectTyped g t d → SelectsTyped g ts ds → SelectsTyped g (more_selects t ts) (d ∷ ds)

  mutual
    pub data TreeTyped : List ℕ → Tree → ℕ → Type 0 where
      switch_typed : {g : List ℕ} {t : SelectTerm} {branches : Branches} {e : ℕ} (d : ℕ) → SelectTyped g t d → BranchesTyped g (length (constructors_of types d)) branches e → TreeTyped g (tree_switch t branches) e
      let_typed : {g : List ℕ} {t : SelectTerm} {rest : Tree} {e : ℕ} (d : ℕ) → SelectTyped g t d → TreeTyped (g ++ d ∷ []) rest e → TreeTyped g (tree_let t rest) e
      result_typed : {g : List ℕ} {t : SelectTerm} {e : ℕ} → SelectTyped g t e → TreeTyped g (tree_result t) e

    -- on a value of so many constructors
    pub data BranchesTyped : List ℕ → ℕ → Branches → ℕ → Type 0 where
      no_branches_typed : {g : List ℕ} {n e : ℕ} → BranchesTyped g n no_branches e
      other_branch_typed : {g : List ℕ} {n e : ℕ} {t : Tree} → TreeTyped g t e → BranchesTyped g n (other_branch t) e
      more_branches_typed : {g : List ℕ} {n tag e : ℕ} {t : Tree} {others : Branches} → tag < n → TreeTyped g t e → BranchesTyped g n others e → BranchesTyped g n (more_branches tag t others) e

module _ (types : List DataTy) where
  -- functions in call order, behind those with these signatures
  abbrev pub AreTypedBehind : List Signature → List (Function Tree) → Type 0
  AreTypedBehind earlier [] = Unit {0}
  AreTypedBehind earlier (f ∷ fs) = TreeTyped types earlier f.params f.body f.result × AreTypedBehind (earlier ++ signature_of f ∷ []) fs

-- a selected program is well typed: each function calls earlier ones alone
pub record IsSelected (m : TreeMachine) : Type 0 where
  pub tabled : IsTable m.types
  pub typed : AreTypedBehind m.types [] m.functions
  pub leaves : (k : ℕ) (l : MachineLeaf) → leaf_at k m.leaves ≡ Some l → LeafTyped (map signature_of m.functions) l
  pub system : WiredTyped m.types (map signature_of m.functions) m.leaves m.system m.input m.output

-- the types of the leaves' inputs and outputs
abbrev pub input_types : List MachineLeaf → List ℕ
input_types ls = map (λ l. l.input) ls

abbrev pub output_types : List MachineLeaf → List ℕ
output_types ls = map (λ l. l.output) ls

-- functions of these parameters, one for each type of a value
abbrev pub AreTypedTo : List DataTy → List Signature → List ℕ → List (Function Tree) → List ℕ → Type 0
AreTypedTo types signatures params [] [] = Unit {0}
AreTypedTo types signatures params (f ∷ fs) (d ∷ ds) = (f.params ≡ params) × (f.result ≡ d) × TreeTyped types signatures params f.body d × AreTypedTo types signatures params fs ds
AreTypedTo types signatures params _ _ = ⊥

-- a plan is well typed
pub record IsPlan (p : PlainPlan) : Type 0 where
  pub selected : IsSelected p.machine
  pub shown : AreTypedTo p.machine.types (map signature_of p.machine.functions) (output_types p.machine.leaves) (p.wiring.shown ∷ []) (p.machine.output ∷ [])
  pub inputs : AreTypedTo p.machine.types (map signature_of p.machine.functions) (output_types p.machine.leaves ++ p.machine.input ∷ []) p.wiring.inputs (input_types p.machine.leaves)
