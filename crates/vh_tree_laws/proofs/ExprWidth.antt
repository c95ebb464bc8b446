-- The value of an expression of which the static rules hold has its static width.
use Rattle.std.proofs.Common.{◌≡◌, ℕ, ◌+◌, ◌-◌, ◌<◌, ◌≤◌, List, [], ◌∷◌, ◌++◌, length, drop, map, Bool, true, ◌&&◌, ◌⊎◌, inl, inr, nat_lt, nat_le, refl, ap, sym, subst, ◌∙◌, Option, Some, None, arith, length-append, length-take, length-drop, eqb→eq, ltb→lt, leb→le, T}
use Rattle.std.proofs.lemmas.List.{length-map}
use Rattle.std.specs.List.{list_all, flat_map, AllByRecursion}
use Rattle.vh_tree.specs.Bits.{Bytes, Bits, slice_of}
use Rattle.vh_tree.specs.Functions.{Scope, expr_of}
use Rattle.vh_tree.specs.StaticRules.{Names, Width, Widths, Shape, has_arity, all_true, width_of_name, result_of, slice_lies, agree, all_agree, arguments_agree, joined_width, sum_widths, is_within, names_well, uses_earlier, measured}
use Rattle.vh_tree.specs.Widths.{HasWidth, GivesWidth, KeepsWidths}
use Rattle.vh_tree_equations.specs.Equations.{expr_of-Name, expr_of-Slice, expr_of-Literal, expr_of-Call, expr_of-Join, names_well-Name, names_well-Slice, names_well-Call, names_well-Join, measured-Name, measured-Slice, measured-Literal, measured-Call, measured-Join, uses_earlier-Name, uses_earlier-Call, uses_earlier-Join}
use Rattle.vh_tree_equations.specs.Induction.{every_expr}
use Rattle.vh_tree.specs.declared.expr.VExpr.{VExpr}
use Rattle.vh_tree.specs.declared.expr.VExpr.TheVariants.{Name, Slice, Literal, Call, Join}
use Rattle.vh_tree_laws.proofs.Comparisons.{both_left, both_right, either_cases}

-- a width and a value, each known by an equation
pub carried : (w u : Width) (value other : Bits) → w ≡ u → value ≡ other → HasWidth u other → HasWidth w value
carried w u value other e f h = subst (λ z. HasWidth z value) (sym e) (subst (λ z. HasWidth u z) (sym f) h)

pub of_name : (w : Width) (shape : Option Shape) (value : Bits) → HasWidth w value → HasWidth (width_of_name w shape) value
of_name None shape value h = absurd h
of_name (Some n) shape value h = h

lies_in : (n a b : ℕ) → (nat_lt a n && nat_le b a) ≡ true → (a < n) × (b ≤ a)
lies_in n a b h = (ltb→lt a n (subst T (sym (both_left (nat_lt a n) (nat_le b a) h)) tt), leb→le b a (subst T (sym (both_right (nat_lt a n) (nat_le b a) h)) tt))

sliced : (w : Width) (a b : ℕ) (value : Bits) → slice_lies w a b ≡ true → HasWidth w value → length (slice_of a b value) ≡ a + 1 - b
sliced None a b value h k = absurd k
sliced (Some n) a b value h k =
    let lies = lies_in n a b h in
    let low = lies.0 in
    let high = lies.1 in
    omega (arith, length-take (a + 1 - b) (drop (length value - (a + 1)) value), length-drop (length value - (a + 1)) value)

summed : (w u : Width) (value rest : Bits) → HasWidth w value → HasWidth u rest → HasWidth (sum_widths w u) (value ++ rest)
summed None u value rest h k = absurd h
summed (Some n) None value rest h k = absurd k
summed (Some n) (Some m) value rest h k = omega (arith, length-append value rest)

agreed : (w : Width) (n : ℕ) (value : Bits) → agree w (Some n) ≡ true → HasWidth w value → length value ≡ n
agreed None n value a h = absurd h
agreed (Some m) n value a h = h ∙ eqb→eq m n (subst T (sym a) tt)

module _ (names : Names) (usable : Bytes → Bool) (ws : Widths) (s : Scope) (keeps : KeepsWidths names usable ws s) where
  abbrev IsMeasured : VExpr → Type 0
  IsMeasured e = names_well names e ≡ true → uses_earlier usable e ≡ true → (measured ws e).fits ≡ true → HasWidth (measured ws e).width (expr_of e s)

  name_case : (x : Bytes) → (names.reads x ≡ true) ⊎ (has_arity (names.arity x) 0 ≡ true) → usable x ≡ true → HasWidth (width_of_name (ws.named x) (ws.known x)) (s.value x)
  name_case x (inl r) u = of_name (ws.named x) (ws.known x) (s.value x) (keeps.reads x r)
  name_case x (inr a) u = keeps.bare x a u

  name_measured : (x : Bytes) → IsMeasured (Name x)
  name_measured x n u f =
      carried _ _ _ _ (ap (λ m. m.width) (measured-Name ws x)) (expr_of-Name x s)
      (name_case x (either_cases (names.reads x) (has_arity (names.arity x) 0) (sym (names_well-Name names x) ∙ n)) (sym (uses_earlier-Name usable x) ∙ u))

  slice_measured : (x : Bytes) (a b : ℕ) → IsMeasured (Slice x a b)
  slice_measured x a b n u f =
      carried _ _ _ _ (ap (λ m. m.width) (measured-Slice ws x a b)) (expr_of-Slice x a b s)
      (sliced (ws.named x) a b (s.value x) (sym (ap (λ m. m.fits) (measured-Slice ws x a b)) ∙ f) (keeps.reads x (sym (names_well-Slice names x a b) ∙ n)))

  literal_measured : (bits : Bits) → IsMeasured (Literal bits)
  literal_measured bits n u f = carried _ _ _ _ (ap (λ m. m.width) (measured-Literal ws bits)) (expr_of-Literal bits s) refl

  -- the arguments of a call have its parameters' widths
  arguments : (args : List VExpr) (ns : List ℕ) → AllByRecursion IsMeasured args → all_true (map (names_well names) args) ≡ true → all_true (map (uses_earlier usable) args) ≡ true →
      list_all (λ m. m.fits) (map (measured ws) args) ≡ true → all_agree (map (λ m. m.width) (map (measured ws) args)) ns ≡ true → length ns ≡ length args →
      map length (map (λ (a : Scope → Bits). a s) (map expr_of args)) ≡ ns
  arguments [] [] each n u f a l = refl
  arguments [] (k ∷ ns) each n u f a l = absurd (omega arith)
  arguments (e ∷ args) [] each n u f a l = absurd (omega arith)
  arguments (e ∷ args) (k ∷ ns) each n u f a l =
      let one : length (expr_of e s) ≡ k = agreed (measured ws e).width k (expr_of e s) (both_left (agree (measured ws e).width (Some k)) (all_agree (map (λ m. m.width) (map (measured ws) args)) ns) a)
      (each.0 (both_left (names_well names e) (all_true (map (names_well names) args)) n) (both_left (uses_earlier usable e) (all_true (map (uses_earlier usable) args)) u) (both_left (measured ws e).fits (list_all (λ m. m.fits) (map (measured ws) args)) f)) in
      let rest = arguments args ns each.1 (both_right (names_well names e) (all_true (map (names_well names) args)) n) (both_right (uses_earlier usable e) (all_true (map (uses_earlier usable) args)) u)
      (both_right (measured ws e).fits (list_all (λ m. m.fits) (map (measured ws) args)) f) (both_right (agree (measured ws e).width (Some k)) (all_agree (map (λ m. m.width) (map (measured ws) args)) ns) a) (omega arith) in
      ap (λ (j : ℕ). j ∷ map length (map (λ (a : Scope → Bits). a s) (map expr_of args))) one ∙ ap (λ (js : List ℕ). k ∷ js) rest

  call_case : (f : Bytes) (args : List VExpr) (shape : Option Shape) → GivesWidth shape (length args) (s.call f) → AllByRecursion IsMeasured args → all_true (map (names_well names) args) ≡ true →
      all_true (map (uses_earlier usable) args) ≡ true → list_all (λ m. m.fits) (map (measured ws) args) ≡ true → arguments_agree (map (λ m. m.width) (map (measured ws) args)) shape ≡ true →
      HasWidth (result_of shape) (s.call f (map (λ (a : Scope → Bits). a s) (map expr_of args)))
  call_case f args None g each n u fits a = absurd g
  call_case f args (Some shape) g each n u fits a = g.1 (map (λ (a : Scope → Bits). a s) (map expr_of args)) (arguments args shape.params each n u fits a g.0)

  call_measured : (f : Bytes) (args : List VExpr) → AllByRecursion IsMeasured args → IsMeasured (Call f args)
  call_measured f args each n u fits =
      let n' = sym (names_well-Call names f args) ∙ n in
      let u' = sym (uses_earlier-Call usable f args) ∙ u in
      let fits' = sym (ap (λ m. m.fits) (measured-Call ws f args)) ∙ fits in
      let known = both_left (has_arity (names.arity f) (length (map (names_well names) args))) (all_true (map (names_well names) args)) n' in
      carried _ _ _ _ (ap (λ m. m.width) (measured-Call ws f args)) (expr_of-Call f args s)
      (call_case f args (ws.known f)
      (keeps.calls f (length args) (subst (λ (k : ℕ). has_arity (names.arity f) k ≡ true) (length-map args (names_well names)) known) (both_left (usable f) (all_true (map (uses_earlier usable) args)) u'))
      each
      (both_right (has_arity (names.arity f) (length (map (names_well names) args))) (all_true (map (names_well names) args)) n')
      (both_right (usable f) (all_true (map (uses_earlier usable) args)) u')
      (both_left (list_all (λ m. m.fits) (map (measured ws) args)) (arguments_agree (map (λ m. m.width) (map (measured ws) args)) (ws.known f)) fits')
      (both_right (list_all (λ m. m.fits) (map (measured ws) args)) (arguments_agree (map (λ m. m.width) (map (measured ws) args)) (ws.known f)) fits'))

  joined : (parts : List VExpr) → AllByRecursion IsMeasured parts → all_true (map (names_well names) parts) ≡ true → all_true (map (uses_earlier usable) parts) ≡ true →
      list_all (λ m. m.fits) (map (measured ws) parts) ≡ true → HasWidth (joined_width (map (λ m. m.width) (map (measured ws) parts))) (flat_map (λ (p : Scope → Bits). p s) (map expr_of parts))
  joined [] each n u f = refl
  joined (e ∷ parts) each n u f =
      summed (measured ws e).width (joined_width (map (λ m. m.width) (map (measured ws) parts))) (expr_of e s) (flat_map (λ (p : Scope → Bits). p s) (map expr_of parts))
      (each.0 (both_left (names_well names e) (all_true (map (names_well names) parts)) n) (both_left (uses_earlier usable e) (all_true (map (uses_earlier usable) parts)) u) (both_left (measured ws e).fits (list_all (λ m. m.fits) (map (measured ws) parts)) f))
      (joined parts each.1 (both_right (names_well names e) (all_true (map (names_well names) parts)) n) (both_right (uses_earlier usable e) (all_true (map (uses_earlier usable) parts)) u)
      (both_right (measured ws e).fits (list_all (λ m. m.fits) (map (measured ws) parts)) f))

  join_measured : (parts : List VExpr) → AllByRecursion IsMeasured parts → IsMeasured (Join parts)
  join_measured parts each n u f =
      carried _ _ _ _ (ap (λ m. m.width) (measured-Join ws parts)) (expr_of-Join parts s)
      (joined parts each (sym (names_well-Join names parts) ∙ n) (sym (uses_earlier-Join usable parts) ∙ u)
      (both_left (list_all (λ m. m.fits) (map (measured ws) parts)) (is_within (joined_width (map (λ m. m.width) (map (measured ws) parts)))) (sym (ap (λ m. m.fits) (measured-Join ws parts)) ∙ f)))

  pub has_width : (e : VExpr) → IsMeasured e
  has_width = every_expr IsMeasured (record { name = name_measured; slice = slice_measured; literal = literal_measured; call = call_measured; join = join_measured })
