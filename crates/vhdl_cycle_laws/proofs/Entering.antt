-- A frame as a call finds it stands for a function's store as a call finds it.
use Rattle.std.proofs.Common.{◌≡◌, ℕ, suc, ◌+◌, ◌-◌, ◌≤◌, List, [], ◌∷◌, ◌++◌, length, get_or, take, drop, map, replicate, true, refl, ap, sym, ◌∙◌, arith, length-append}
use Rattle.std.proofs.lemmas.List.{take_all, replicate-append-replicate}
use Rattle.std.proofs.lemmas.Grind.{flat_map-append}
use Rattle.std.specs.List.{flat_map}
use Rattle.rw_base.specs.declared.bit.Bit9.TheVariants.{U}
use Rattle.vh_tree.specs.Bits.{Bytes, Bits}
use Rattle.vh_tree.specs.Functions.{parameters_of, variable_of, parameter_widths, entered}
use Rattle.vh_tree.specs.StaticRules.{parameter_vars, begins_with_copies}
use Rattle.vh_tree.specs.declared.function.Var.{Var}
use Rattle.vh_tree.specs.declared.function.Function.{Function}
use Rattle.vh_tree.specs.declared.wire.Held.{Held}
use Rattle.vh_tree_laws.proofs.Copies.{enough_vars}
use Rattle.vh_tree_laws.proofs.Stores.{append_widths, variables_width, parameters_width}
use Rattle.vhdl_cycle_flat.specs.Flat.{entered as filled}
use Rattle.vhdl_cycle_flat.specs.Names.{total_width}
use Rattle.vhdl_cycle_flat.specs.Resolving.{frame_vars}
use Rattle.vhdl_cycle_laws.proofs.AgreeingPlaces.{values_of, Stands}

total_append : (vs us : List Var) → total_width (vs ++ us) ≡ total_width vs + total_width us
total_append [] us = omega arith
total_append (v ∷ vs) us = let rest = total_append vs us in omega arith

-- the variables are all 'U'
variables_hold : (vs : List Var) → values_of (map variable_of vs) ≡ replicate (total_width vs) U
variables_hold [] = refl
variables_hold (v ∷ vs) = ap (λ (bits : Bits). replicate v.width U ++ bits) (variables_hold vs) ∙ replicate-append-replicate v.width (total_width vs) U

-- the parameters are the arguments, one after another
parameters_hold : (ps : List Bytes) (vs : List Var) (args : List Bits) → length ps ≤ length vs → map length args ≡ take (length ps) (map (λ v. v.width) vs) →
    (values_of (parameters_of ps args) ≡ flat_map (λ a. a) args) × (length (flat_map (λ (a : Bits). a) args) ≡ total_width (parameter_vars ps vs))
parameters_hold [] vs [] long e = (refl, refl)
parameters_hold [] vs (a ∷ args) long e = absurd (let l : suc (length (map (λ (b : Bits). length b) args)) ≡ 0 = ap length e in omega arith)
parameters_hold (p ∷ ps) [] args long e = absurd (omega arith)
parameters_hold (p ∷ ps) (v ∷ vs) [] long e = absurd (let l : 0 ≡ suc (length (take (length ps) (map (λ (u : Var). u.width) vs))) = ap length e in omega arith)
parameters_hold (p ∷ ps) (v ∷ vs) (a ∷ args) long e =
    let first : length a ≡ v.width = ap (λ (ns : List ℕ). get_or ns 0 0) e in
    let rest = parameters_hold ps vs args (omega arith) (ap (λ (ns : List ℕ). drop 1 ns) e) in
    (ap (λ (bits : Bits). a ++ bits) rest.0, omega (arith, first, rest.1, length-append a (flat_map (λ (b : Bits). b) args)))

filled_up : (bits : Bits) (size more : ℕ) → size ≡ length bits + more → filled size bits ≡ bits ++ replicate more U
filled_up bits size more e =
    ap (λ (b : Bits). b ++ replicate (size - length bits) U) (take_all size bits (omega arith)) ∙ ap (λ (n : ℕ). bits ++ replicate n U) (let k : size - length bits ≡ more = omega arith in k)

pub entering : (f : Function) → begins_with_copies f.params f.vars f.body ≡ true → (size : ℕ) → size ≡ total_width (frame_vars f) → (args : List Bits) → map length args ≡ parameter_widths f →
    Stands (frame_vars f) (filled size (flat_map (λ a. a) args)) (entered f args)
entering f begins size is args e =
    let enough = enough_vars f.params f.vars f.body begins in
    let held = parameters_hold f.params f.vars args enough e in
    let joined : Bits = flat_map (λ a. a) args in
    record {
      widths = append_widths (parameter_vars f.params f.vars) (parameters_of f.params args) f.vars (map variable_of f.vars) (parameters_width f.params f.vars args enough e) (variables_width f.vars);
      bits =
          filled_up joined size (total_width f.vars) (omega (arith, is, held.1, total_append (parameter_vars f.params f.vars) f.vars))
          ∙ ap (λ (bits : Bits). joined ++ bits) (sym (variables_hold f.vars))
          ∙ ap (λ (bits : Bits). bits ++ values_of (map variable_of f.vars)) (sym held.0)
          ∙ sym (flat_map-append (λ (h : Held). h.value) (parameters_of f.params args) (map variable_of f.vars));
    }
