-- What is known of a name by the processes that assign to it.
use Rattle.std.proofs.Common.{◌≡◌, ℕ, ◌+◌, ◌<◌, Bool, true, false, cond, not, List, [], ◌∷◌, drop, length, get_or, Option, Some, None, refl, sym, ap, subst, ◌∙◌, arith, if◌then◌else◌}
use Rattle.std.specs.Prelude.{◌==◌, ◌||◌, count_by}
use Rattle.std.specs.List.{list_all, list_any}
use Rattle.std.proofs.lemmas.List.Sums.{sum_by-cons}
use Rattle.vh_tree.specs.Bits.{Bytes, same_name}
use Rattle.vh_tree.specs.StaticRules.{assigns, breaks_drivers, driven_names, drives}
use Rattle.vh_tree_equations.specs.Equations.{branch_assigns}
use Rattle.vh_tree.specs.declared.stmt.Branch.{Branch}
use Rattle.vh_tree.specs.declared.stmt.VStmt.{VStmt}
use Rattle.vh_tree.specs.declared.stmt.VStmt.TheVariants.{If}
use Rattle.vh_tree.specs.declared.process.Process.{Process}
use Rattle.vh_tree.specs.declared.design.Design.{Design}
use Rattle.rw_base_tables.specs.Tables.{Known, put}
use Rattle.vh_tree_static.specs.Drivers.{and_process, and_processes, driver_in, is_one}
use Rattle.vh_tree_static.specs.declared.drivers.Driver.{Driver}
use Rattle.vh_tree_static.specs.declared.drivers.Driver.TheVariants.{One, Several}
use Rattle.vh_tree_static.proofs.Here.{cons_at}
use Rattle.rw_base_tables.proofs.Same.{one_name, swapped}
use Rattle.vh_tree_static.proofs.Statements.{ways, branch_ways}

itself : (n : ℕ) → (n == n) ≡ true
itself n = grind arith

other : (n m : ℕ) → n < m → (n == m) ≡ false
other n m h = grind arith

again : (p q : ℕ) (b : Bool) → (q == p) ≡ b → and_process p true (if b then Some (One q) else Some Several) ≡ (if b then Some (One q) else Some Several)
again p q true e = ap (λ b. if b then Some (One q) else Some Several) e
again p q false e = refl

-- a process that assigns twice is noted once
twice : (p : ℕ) (a b : Bool) (known : Option Driver) → and_process p b (and_process p a known) ≡ and_process p (a || b) known
twice p false b known = refl
twice p true false known = refl
twice p true true None = ap (λ b. if b then Some (One p) else Some Several) (itself p)
twice p true true (Some Several) = refl
twice p true true (Some (One q)) = again p q (q == p) refl

module _ (p : ℕ) (t x : Bytes) (known : Known Driver) where
  noted_by : (d : Driver) (b : Bool) → same_name t x ≡ b → and_process p true (known t) ≡ Some d → (if b then Some d else known x) ≡ and_process p b (known x)
  noted_by d true e h = sym h ∙ ap (λ z. and_process p true (known z)) (one_name t x e)
  noted_by d false e h = refl

  -- an assignment to a name of which this is new
  pub noted : (d : Driver) → and_process p true (known t) ≡ Some d → put t d known x ≡ and_process p (same_name x t) (known x)
  noted d h = noted_by d (same_name t x) refl h ∙ ap (λ b. and_process p b (known x)) (swapped t x)

  kept_by : (b : Bool) → same_name t x ≡ b → and_process p true (known t) ≡ known t → known x ≡ and_process p b (known x)
  kept_by true e h = subst (λ z. known z ≡ and_process p true (known z)) (one_name t x e) (sym h)
  kept_by false e h = refl

  -- and to one of which it isn't
  pub kept : and_process p true (known t) ≡ known t → known x ≡ and_process p (same_name x t) (known x)
  kept h = kept_by (same_name t x) refl h ∙ ap (λ b. and_process p b (known x)) (swapped t x)

-- one of a list, and those behind it
pub one_more : {A : Type 0} (p : ℕ) (f : A → Bool) (xs : List A) (i : ℕ) (a : A) → i < length xs → a ≡ get_or xs i a → (old new : Option Driver) → new ≡ and_process p (f a) old
    → and_process p (list_any f (drop (i + 1) xs)) new ≡ and_process p (list_any f (drop i xs)) old
one_more {A} p f xs i a lt is old new h =
    ap (and_process p (list_any f (drop (i + 1) xs))) h ∙ twice p (f a) (list_any f (drop (i + 1) xs)) old ∙ ap (λ (ys : List A). and_process p (list_any f ys) old) (sym (cons_at xs i a lt is))

-- an `if` assigns by its branches and its `else`
pub in_choice : (p : ℕ) (x : Bytes) (s : VStmt) (bs cs : List Branch) (os us : List VStmt) (old mid new : Option Driver) → s ≡ If bs os → cs ≡ bs → us ≡ os
    → mid ≡ and_process p (list_any (branch_assigns x) cs) old → new ≡ and_process p (list_any (assigns x) us) mid → new ≡ and_process p (assigns x s) old
in_choice p x s bs cs os us old mid new is c u f g =
    g ∙ ap (and_process p (list_any (assigns x) us)) f ∙ twice p (list_any (branch_assigns x) cs) (list_any (assigns x) us) old
    ∙ ap (λ (ds : List Branch). and_process p (list_any (branch_assigns x) ds || list_any (assigns x) us) old) c
    ∙ ap (λ (vs : List VStmt). and_process p (list_any (branch_assigns x) bs || list_any (assigns x) vs) old) u
    ∙ ap (λ b. and_process p b old) (sym (ways x s bs os is))

-- and a branch by its statements
pub in_branch : (b : Branch) (ss : List VStmt) → ss ≡ b.body → ◌≡◌ {A = Bytes → Bool} (λ x. list_any (assigns x) ss) (λ x. branch_assigns x b)
in_branch b ss u =
    let each = λ (x : Bytes). ap (λ (vs : List VStmt). list_any (assigns x) vs) u ∙ sym (branch_ways x b) in
    λ i x. each x i

-- a process more
pub one_process : (x : Bytes) (ps : List Process) (i : ℕ) (a : Process) (ss : List VStmt) → i < length ps → a ≡ get_or ps i a → ss ≡ a.body → (old new : Option Driver) → new ≡ and_process i (list_any (assigns x) ss) old
    → and_processes x (i + 1) (drop (i + 1) ps) new ≡ and_processes x i (drop i ps) old
one_process x ps i a ss lt is u old new h =
    ap (and_processes x (i + 1) (drop (i + 1) ps)) (h ∙ ap (λ (vs : List VStmt). and_process i (list_any (assigns x) vs) old) u)
    ∙ ap (λ (qs : List Process). and_processes x i qs old) (sym (cons_at ps i a lt is))

stays : (n : ℕ) (b : Bool) → and_process n b (Some Several) ≡ Some Several
stays n true = refl
stays n false = refl

several : (x : Bytes) (n : ℕ) (ps : List Process) → and_processes x n ps (Some Several) ≡ Some Several
several x n [] = refl
several x n (p ∷ ps) = ap (and_processes x (n + 1) ps) (stays n (drives x p)) ∙ several x (n + 1) ps

from_zero : (c : ℕ) → c ≡ 0 + c
from_zero c = omega arith

first_counted : (x : Bytes) (p : Process) (ps : List Process) → count_by (drives x) (p ∷ ps) ≡ cond (drives x p) 1 0 + count_by (drives x) ps
first_counted x p ps = sum_by-cons (λ (q : Process). cond (drives x q) 1 0) p ps

not_zero : (c : ℕ) → (1 + c == 0) ≡ false
not_zero c = grind arith

one_is : (c : ℕ) → (c == 0) ≡ (1 + c == 1)
one_is c = grind arith

alone_by : (x : Bytes) (n q : ℕ) (ps : List Process) (b : Bool) → q < n → is_one (and_processes x (n + 1) ps (Some (One q))) ≡ (count_by (drives x) ps == 0)
    → is_one (and_processes x (n + 1) ps (and_process n b (Some (One q)))) ≡ (cond b 1 0 + count_by (drives x) ps == 0)
alone_by x n q ps true lt h =
    ap (λ b. is_one (and_processes x (n + 1) ps (if b then Some (One q) else Some Several))) (other q n lt) ∙ ap is_one (several x (n + 1) ps) ∙ sym (not_zero (count_by (drives x) ps))
alone_by x n q ps false lt h = h ∙ ap (λ c. c == 0) (from_zero (count_by (drives x) ps))

alone : (x : Bytes) (n q : ℕ) (ps : List Process) → q < n → is_one (and_processes x n ps (Some (One q))) ≡ (count_by (drives x) ps == 0)
alone x n q [] lt = refl
alone x n q (p ∷ ps) lt = alone_by x n q ps (drives x p) lt (alone x (n + 1) q ps (omega arith)) ∙ ap (λ c. c == 0) (sym (first_counted x p ps))

none_by : (x : Bytes) (n : ℕ) (ps : List Process) (b : Bool) → is_one (and_processes x (n + 1) ps None) ≡ (count_by (drives x) ps == 1)
    → is_one (and_processes x (n + 1) ps (and_process n b None)) ≡ (cond b 1 0 + count_by (drives x) ps == 1)
none_by x n ps true h = alone x (n + 1) n ps (omega arith) ∙ one_is (count_by (drives x) ps)
none_by x n ps false h = h ∙ ap (λ c. c == 1) (from_zero (count_by (drives x) ps))

none : (x : Bytes) (n : ℕ) (ps : List Process) → is_one (and_processes x n ps None) ≡ (count_by (drives x) ps == 1)
none x n [] = refl
none x n (p ∷ ps) = none_by x n ps (drives x p) (none x (n + 1) ps) ∙ ap (λ c. c == 1) (sym (first_counted x p ps))

counted : (x : Bytes) (ps : List Process) → is_one (driver_in ps x) ≡ (count_by (drives x) ps == 1)
counted x ps = none x 0 ps

-- each driven name is known to have one driver exactly where one process is counted
pub judged : (known : Known Driver) (d : Design) (ps : List Process) → ps ≡ d.processes → ((x : Bytes) → known x ≡ driver_in ps x) → not (list_all (λ x. is_one (known x)) (driven_names d.items)) ≡ breaks_drivers d
judged known d ps u h =
    let each = λ (x : Bytes). ap is_one (h x) ∙ ap (λ (qs : List Process). is_one (driver_in qs x)) u ∙ counted x d.processes in
    λ i. not (list_all (λ x. each x i) (driven_names d.items))
