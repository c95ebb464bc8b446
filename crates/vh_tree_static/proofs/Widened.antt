-- Sums of widths, and what a function more is to those behind it.
use Rattle.std.proofs.Common.{◌≡◌, ℕ, ◌<◌, min, Bool, true, false, List, [], ◌∷◌, ◌++◌, map, take, length, Option, Some, None, refl, sym, ap, ◌∙◌, arith, if◌then◌else◌}
use Rattle.std.specs.Option.{option_map}
use Rattle.vh_tree.specs.Bits.{Bytes, same_name}
use Rattle.vh_tree.specs.StaticRules.{Width, all_agree, joined_width, sum_widths, shaped, shape_of, shapes_of, process_vars, width_among, widths_in_process}
use Rattle.vh_tree.specs.declared.function.Var.{Var}
use Rattle.vh_tree.specs.declared.design.Design.{Design}
use Rattle.std.proofs.lemmas.List.{take_min, take-map}
use Rattle.vh_tree.specs.declared.function.Function.{Function}
use Rattle.rw_base_tables.specs.Tables.{Known, known_in, put}
use Rattle.vh_tree_static.specs.declared.widths.Callee.{Callee}
use Rattle.vh_tree_static.specs.Measures.{capped, known_by, shape_at, widths_over}

pub no_params : (ws : List Width) → all_agree ws [] ≡ true
no_params [] = refl
no_params (w ∷ ws) = refl

pub no_more : (w : Width) (ws : List Width) (ns : List ℕ) → length ns < 1 → all_agree (w ∷ ws) ns ≡ all_agree ws ns
no_more w ws [] h = sym (no_params ws)
no_more w ws (n ∷ ns) h = absurd (omega arith)

sum_none : (w : Width) → sum_widths w None ≡ None
sum_none None = refl
sum_none (Some n) = refl

sum_zero : (w : Width) → sum_widths w (Some 0) ≡ w
sum_zero None = refl
sum_zero (Some n) = ap Some (omega arith)

sum_along : (a b c : Width) → sum_widths a (sum_widths b c) ≡ sum_widths (sum_widths a b) c
sum_along None b c = refl
sum_along (Some n) None c = refl
sum_along (Some n) (Some m) None = refl
sum_along (Some n) (Some m) (Some k) = ap Some (omega arith)

joined_last : (ws : List Width) (w : Width) → joined_width (ws ++ w ∷ []) ≡ sum_widths (joined_width ws) w
joined_last [] None = refl
joined_last [] (Some n) = ap Some (omega arith)
joined_last (v ∷ ws) w = ap (sum_widths v) (joined_last ws w) ∙ sum_along v (joined_width ws) w

capped_sum : (a b : Width) → capped (sum_widths (capped a) b) ≡ capped (sum_widths a b)
capped_sum None b = refl
capped_sum (Some n) None = refl
capped_sum (Some n) (Some m) = ap Some (omega arith)

pub one_part_more : (ws : List Width) (w : Width) → capped (joined_width (ws ++ w ∷ [])) ≡ capped (sum_widths (capped (joined_width ws)) w)
one_part_more ws w = ap capped (joined_last ws w) ∙ sym (capped_sum (joined_width ws) w)

put_mapped : (b : Bool) (callee : Callee) (r : Option Callee) → option_map shape_at (if b then Some callee else r) ≡ (if b then Some (shape_at callee) else option_map shape_at r)
put_mapped true callee r = refl
put_mapped false callee r = refl

-- a table with a function more knows what is known behind it
pub one_more : (old new : List (Bytes × Callee)) (f : Function) (callee : Callee) → ((x : Bytes) → known_in new x ≡ put f.name callee (known_in old) x) → shape_at callee ≡ shape_of (known_by old) f
    → known_by new ≡ shaped f (known_by old)
one_more old new f callee h e = λ i x.
    let p : known_by new x ≡ shaped f (known_by old) x =
    ap (option_map shape_at) (h x) ∙ put_mapped (same_name f.name x) callee (known_in old x) ∙ ap (λ s. if same_name f.name x then Some s else known_by old x) e in
    p i

pub first_widths : (n : ℕ) (vars : List Var) → map (λ (v : Var). v.width) (take (min n (length vars)) vars) ≡ take n (map (λ (v : Var). v.width) vars)
first_widths n vars = ap (map (λ (v : Var). v.width)) (take_min n vars) ∙ sym (take-map (λ (v : Var). v.width) n vars)

-- the widths of ports and signals, and of the functions, are those of the processes
pub around : (vars : Known ℕ) (callees : List (Bytes × Callee)) (d : Design) → vars ≡ width_among (process_vars d) → known_by callees ≡ shapes_of d.items → widths_over vars callees ≡ widths_in_process d
around vars callees d v k = λ i. record { named = v i; known = k i }
