-- The state after a delta cycle is the same in every order of the processes.
use Rattle.std.proofs.Common.{◌≡◌, List, [], ◌∷◌, Bool, true, false, ◌&&◌, ◌==◌, refl, map, ap, sym, subst, ◌∙◌, swap, count_by, if◌then◌else◌}
use Rattle.std.specs.List.{list_all, AllByRecursion}
use Rattle.std.specs.List.Sorted.{IsPermutation}
use Rattle.std.proofs.lemmas.List.Sorted.{IsPermutation-keeps}
use Rattle.vh_tree.specs.Bits.{Bytes, Bits, same_name}
use Rattle.vh_tree.specs.Functions.{Calls, World, stmts_of, calls_of}
use Rattle.vh_tree.specs.DeltaCycle.{Wires, IsOrder, put, moved, moment_of, process_world, process_effect, all_effects, delta_cycle, runs}
use Rattle.vh_tree.specs.StaticRules.{drives, breaks_names, are_distinct, item_names, function_names_well, functions_of, process_names_well, driven_names, IsStatic}
use Rattle.vh_tree.specs.declared.wire.Wire.{Wire}
use Rattle.vh_tree.specs.declared.wire.Moment.{Moment}
use Rattle.vh_tree.specs.declared.wire.State.{State}
use Rattle.vh_tree.specs.declared.process.Process.{Process}
use Rattle.vh_tree.specs.declared.design.Design.{Design}
use Rattle.vh_tree_laws.proofs.Comparisons.{both_right, not_false, name_same}
use Rattle.vh_tree_laws.proofs.Commute.{stmts_follow}
use Rattle.vh_tree_laws.proofs.Swaps.{IsTurning, swapped}
use Rattle.vh_tree_laws.proofs.Apart.{Apart, AllApart, driven_apart}

-- two assignments to different names, in either order
put_case : (x y : Bytes) (v u : Bits) (w : Wire) (ws : Wires) (a b : Bool) → same_name w.name x ≡ a → same_name w.name y ≡ b → (x ≡ y → ⊥) → put x v (put y u ws) ≡ put y u (put x v ws) →
    put x v (put y u (w ∷ ws)) ≡ put y u (put x v (w ∷ ws))
put_case x y v u w ws true true ea eb ne rest = absurd (ne (sym (name_same w.name x ea) ∙ name_same w.name y eb))
put_case x y v u w ws true false ea eb ne rest = rw (eb, ea, eb) refl
put_case x y v u w ws false true ea eb ne rest = rw (eb, ea, eb) refl
put_case x y v u w ws false false ea eb ne rest = rw (eb, ea, eb) (ap (λ vs. w ∷ vs) rest)

put_apart : (x y : Bytes) → (x ≡ y → ⊥) → (v u : Bits) (ws : Wires) → put x v (put y u ws) ≡ put y u (put x v ws)
put_apart x y ne v u [] = refl
put_apart x y ne v u (w ∷ ws) = put_case x y v u w ws (same_name w.name x) (same_name w.name y) refl refl ne (put_apart x y ne v u ws)

module _ (calls : Calls) (m : Moment) where
  abbrev pub world : World Wires
  world = process_world calls m

  -- one assignment and a process that does not assign to its name
  put_process : (q : Process) (x : Bytes) → (drives x q ≡ true → ⊥) → (v : Bits) (ws : Wires) → stmts_of Wires q.body world (put x v ws) ≡ put x v (stmts_of Wires q.body world ws)
  put_process q x free v ws =
      stmts_follow world (λ s t. refl) (put x v) q.body (λ y a u t. put_apart y x (λ e. free (subst (λ z. drives z q ≡ true) e a)) u v t) ws

  two_processes : (p q : Process) → Apart p q → (ws : Wires) → stmts_of Wires p.body world (stmts_of Wires q.body world ws) ≡ stmts_of Wires q.body world (stmts_of Wires p.body world ws)
  two_processes p q apart ws = stmts_follow world (λ s t. refl) (stmts_of Wires q.body world) p.body (λ x a v t. sym (put_process q x (apart x a) v t)) ws

  two_if : (a b : Bool) (p q : Process) → Apart p q → (ws : Wires) →
      (if a then stmts_of Wires p.body world (if b then stmts_of Wires q.body world ws else ws) else (if b then stmts_of Wires q.body world ws else ws))
      ≡ (if b then stmts_of Wires q.body world (if a then stmts_of Wires p.body world ws else ws) else (if a then stmts_of Wires p.body world ws else ws))
  two_if true true p q apart ws = two_processes p q apart ws
  two_if true false p q apart ws = refl
  two_if false true p q apart ws = refl
  two_if false false p q apart ws = refl

  pub record Turned (ps qs : List Process) : Type 0 where
    pub each : (p : Process) → AllByRecursion (Apart p) ps → AllByRecursion (Apart p) qs
    pub apart : AllApart ps → AllApart qs
    pub alike : AllApart ps → (ws : Wires) → all_effects calls m qs ws ≡ all_effects calls m ps ws

  turned : IsTurning Turned
  turned = record {
    same = λ xs. record { each = λ p h. h; apart = λ h. h; alike = λ h ws. refl };
    skip = λ x xs ys t. record {
      each = λ p h. (h.0, t.each p h.1);
      apart = λ h. (t.each x h.0, t.apart h.1);
      alike = λ h ws. t.alike h.1 (process_effect calls m x ws);
    };
    turn = λ x y xs. record {
      each = λ p h. (h.1.0, (h.0, h.1.1));
      apart = λ h. ((λ z a b. h.0.0 z b a, h.1.0), (h.0.1, h.1.1));
      alike = λ h ws. ap (all_effects calls m xs) (two_if (runs m x) (runs m y) x y h.0.0 ws);
    };
    on = λ xs ys zs t u. record {
      each = λ p h. u.each p (t.each p h);
      apart = λ h. u.apart (t.apart h);
      alike = λ h ws. u.alike (t.apart h) ws ∙ t.alike h ws;
    };
  }

  pub ordered : (ps qs : List Process) → AllApart ps → IsPermutation ps qs → Turned ps qs
  ordered ps qs apart perm = IsPermutation-keeps ps (Turned ps) (turned.same ps) (λ l i j p q t. turned.on ps l (swap l i j) t (swapped Turned turned l i j p q)) qs perm

processes_named : (d : Design) → breaks_names d ≡ false → list_all (process_names_well d.items) d.processes ≡ true
processes_named d h =
    let last = list_all (process_names_well d.items) d.processes in
    let middle = list_all (function_names_well d.items) (functions_of d.items) in
    both_right (are_distinct (item_names d.items) && middle) last (not_false (are_distinct (item_names d.items) && middle && last) h)

static_apart : (d : Design) → IsStatic d → AllApart d.processes
static_apart d static = driven_apart d.items d.processes (processes_named d static.names) (not_false (list_all (λ x. count_by (drives x) d.processes == 1) (driven_names d.items)) static.drivers)

pub every_order : (d : Design) → IsStatic d → (s : State) (order : List Process) → IsOrder d order → delta_cycle d order s ≡ delta_cycle d d.processes s
every_order d static s order is =
    ap (λ (ws : Wires). record { wires = ws; starting = false })
    (let t = ordered (calls_of d.items) (moment_of s) d.processes order (static_apart d static) is in t.alike (static_apart d static) (map moved s.wires))
