-- Expressions of which the static rules hold have one value in scopes that agree.
use Rattle.std.proofs.Common.{◌≡◌, ℕ, List, [], ◌∷◌, ◌++◌, length, map, Bool, true, ◌⊎◌, inl, inr, refl, ap, sym, subst, ◌∙◌, Option, Some, None, arith, eqb→eq, T}
use Rattle.std.proofs.lemmas.List.{length-map}
use Rattle.std.specs.List.{list_all, flat_map, AllByRecursion}
use Rattle.vh_tree.specs.Bits.{Bytes, Bits, slice_of}
use Rattle.vh_tree.specs.Functions.{Scope, expr_of}
use Rattle.vh_tree.specs.StaticRules.{Names, Width, Widths, Shape, has_arity, all_true, agree, all_agree, arguments_agree, joined_width, is_within, names_well, uses_earlier, measured}
use Rattle.vh_tree.specs.Widths.{HasWidth, GivesWidth, KeepsWidths}
use Rattle.vh_tree_equations.specs.Equations.{expr_of-Name, expr_of-Slice, expr_of-Literal, expr_of-Call, expr_of-Join, names_well-Name, names_well-Slice, names_well-Call, names_well-Join, measured-Call, measured-Join, uses_earlier-Name, uses_earlier-Call, uses_earlier-Join}
use Rattle.vh_tree_equations.specs.Induction.{every_expr}
use Rattle.vh_tree.specs.declared.expr.VExpr.{VExpr}
use Rattle.vh_tree.specs.declared.expr.VExpr.TheVariants.{Name, Slice, Literal, Call, Join}
use Rattle.vh_tree_laws.proofs.Comparisons.{both_left, both_right, either_cases}
use Rattle.vh_tree_laws.proofs.ExprWidth.{has_width}
use Rattle.vhdl_cycle_flat.specs.Agreeing.{GiveTheSame, ScopesAgree}

agreed : (w : Width) (n : ℕ) (value : Bits) → agree w (Some n) ≡ true → HasWidth w value → length value ≡ n
agreed None n value a h = absurd h
agreed (Some m) n value a h = h ∙ eqb→eq m n (subst T (sym a) tt)

module _ (names : Names) (usable : Bytes → Bool) (ws : Widths) (a b : Scope) (same : ScopesAgree names usable ws a b) (keeps : KeepsWidths names usable ws b) where
  abbrev Agrees : VExpr → Type 0
  Agrees e = names_well names e ≡ true → uses_earlier usable e ≡ true → (measured ws e).fits ≡ true → expr_of e a ≡ expr_of e b

  name_case : (x : Bytes) → (names.reads x ≡ true) ⊎ (has_arity (names.arity x) 0 ≡ true) → usable x ≡ true → a.value x ≡ b.value x
  name_case x (inl r) u = same.reads x r
  name_case x (inr k) u = same.bare x k u

  name_agrees : (x : Bytes) → Agrees (Name x)
  name_agrees x n u f =
      expr_of-Name x a ∙ name_case x (either_cases (names.reads x) (has_arity (names.arity x) 0) (sym (names_well-Name names x) ∙ n)) (sym (uses_earlier-Name usable x) ∙ u) ∙ sym (expr_of-Name x b)

  slice_agrees : (x : Bytes) (i j : ℕ) → Agrees (Slice x i j)
  slice_agrees x i j n u f = expr_of-Slice x i j a ∙ ap (slice_of i j) (same.reads x (sym (names_well-Slice names x i j) ∙ n)) ∙ sym (expr_of-Slice x i j b)

  literal_agrees : (bits : Bits) → Agrees (Literal bits)
  literal_agrees bits n u f = expr_of-Literal bits a ∙ sym (expr_of-Literal bits b)

  abbrev values : List VExpr → Scope → List Bits
  values es s = map (λ (m : Scope → Bits). m s) (map expr_of es)

  -- each of these has one value
  values_agree : (es : List VExpr) → AllByRecursion Agrees es → all_true (map (names_well names) es) ≡ true → all_true (map (uses_earlier usable) es) ≡ true →
      list_all (λ m. m.fits) (map (measured ws) es) ≡ true → values es a ≡ values es b
  values_agree [] each n u f = refl
  values_agree (e ∷ es) each n u f =
      let one : expr_of e a ≡ expr_of e b = each.0 (both_left (names_well names e) (all_true (map (names_well names) es)) n) (both_left (uses_earlier usable e) (all_true (map (uses_earlier usable) es)) u)
      (both_left (measured ws e).fits (list_all (λ m. m.fits) (map (measured ws) es)) f) in
      let rest = values_agree es each.1 (both_right (names_well names e) (all_true (map (names_well names) es)) n) (both_right (uses_earlier usable e) (all_true (map (uses_earlier usable) es)) u)
      (both_right (measured ws e).fits (list_all (λ m. m.fits) (map (measured ws) es)) f) in
      ap (λ (v : Bits). v ∷ values es a) one ∙ ap (λ (vs : List Bits). expr_of e b ∷ vs) rest

  -- the arguments of a call have its parameters' widths
  argument_widths : (es : List VExpr) (ns : List ℕ) → all_true (map (names_well names) es) ≡ true → all_true (map (uses_earlier usable) es) ≡ true →
      list_all (λ m. m.fits) (map (measured ws) es) ≡ true → all_agree (map (λ m. m.width) (map (measured ws) es)) ns ≡ true → length ns ≡ length es → map length (values es b) ≡ ns
  argument_widths [] [] n u f g l = refl
  argument_widths [] (k ∷ ns) n u f g l = absurd (omega arith)
  argument_widths (e ∷ es) [] n u f g l = absurd (omega arith)
  argument_widths (e ∷ es) (k ∷ ns) n u f g l =
      let one : length (expr_of e b) ≡ k = agreed (measured ws e).width k (expr_of e b) (both_left (agree (measured ws e).width (Some k)) (all_agree (map (λ m. m.width) (map (measured ws) es)) ns) g)
      (has_width names usable ws b keeps e (both_left (names_well names e) (all_true (map (names_well names) es)) n) (both_left (uses_earlier usable e) (all_true (map (uses_earlier usable) es)) u)
      (both_left (measured ws e).fits (list_all (λ m. m.fits) (map (measured ws) es)) f)) in
      let rest = argument_widths es ns (both_right (names_well names e) (all_true (map (names_well names) es)) n) (both_right (uses_earlier usable e) (all_true (map (uses_earlier usable) es)) u)
      (both_right (measured ws e).fits (list_all (λ m. m.fits) (map (measured ws) es)) f) (both_right (agree (measured ws e).width (Some k)) (all_agree (map (λ m. m.width) (map (measured ws) es)) ns) g) (omega arith) in
      ap (λ (j : ℕ). j ∷ map length (values es b)) one ∙ ap (λ (js : List ℕ). k ∷ js) rest

  call_case : (f : Bytes) (args : List VExpr) (shape : Option Shape) → GiveTheSame shape (a.call f) (b.call f) → GivesWidth shape (length args) (b.call f) → AllByRecursion Agrees args →
      all_true (map (names_well names) args) ≡ true → all_true (map (uses_earlier usable) args) ≡ true → list_all (λ m. m.fits) (map (measured ws) args) ≡ true →
      arguments_agree (map (λ m. m.width) (map (measured ws) args)) shape ≡ true → a.call f (values args a) ≡ b.call f (values args b)
  call_case f args None g h each n u fits k = absurd g
  call_case f args (Some shape) g h each n u fits k = ap (a.call f) (values_agree args each n u fits) ∙ g (values args b) (argument_widths args shape.params n u fits k h.0)

  call_agrees : (f : Bytes) (args : List VExpr) → AllByRecursion Agrees args → Agrees (Call f args)
  call_agrees f args each n u fits =
      let n' = sym (names_well-Call names f args) ∙ n in
      let u' = sym (uses_earlier-Call usable f args) ∙ u in
      let fits' = sym (ap (λ m. m.fits) (measured-Call ws f args)) ∙ fits in
      let known = subst (λ (k : ℕ). has_arity (names.arity f) k ≡ true) (length-map args (names_well names)) (both_left (has_arity (names.arity f) (length (map (names_well names) args))) (all_true (map (names_well names) args)) n') in
      let usable' = both_left (usable f) (all_true (map (uses_earlier usable) args)) u' in
      expr_of-Call f args a
      ∙ call_case f args (ws.known f) (same.calls f (length args) known usable') (keeps.calls f (length args) known usable') each
      (both_right (has_arity (names.arity f) (length (map (names_well names) args))) (all_true (map (names_well names) args)) n')
      (both_right (usable f) (all_true (map (uses_earlier usable) args)) u')
      (both_left (list_all (λ m. m.fits) (map (measured ws) args)) (arguments_agree (map (λ m. m.width) (map (measured ws) args)) (ws.known f)) fits')
      (both_right (list_all (λ m. m.fits) (map (measured ws) args)) (arguments_agree (map (λ m. m.width) (map (measured ws) args)) (ws.known f)) fits')
      ∙ sym (expr_of-Call f args b)

  joined_values : (es : List VExpr) (s : Scope) → flat_map (λ (p : Scope → Bits). p s) (map expr_of es) ≡ flat_map (λ (v : Bits). v) (values es s)
  joined_values [] s = refl
  joined_values (e ∷ es) s = ap (λ (v : Bits). expr_of e s ++ v) (joined_values es s)

  join_agrees : (parts : List VExpr) → AllByRecursion Agrees parts → Agrees (Join parts)
  join_agrees parts each n u f =
      let fits = both_left (list_all (λ m. m.fits) (map (measured ws) parts)) (is_within (joined_width (map (λ m. m.width) (map (measured ws) parts)))) (sym (ap (λ m. m.fits) (measured-Join ws parts)) ∙ f) in
      expr_of-Join parts a ∙ joined_values parts a
      ∙ ap (flat_map (λ (v : Bits). v)) (values_agree parts each (sym (names_well-Join names parts) ∙ n) (sym (uses_earlier-Join usable parts) ∙ u) fits)
      ∙ sym (joined_values parts b) ∙ sym (expr_of-Join parts b)

  pub agrees : (e : VExpr) → Agrees e
  agrees = every_expr Agrees (record { name = name_agrees; slice = slice_agrees; literal = literal_agrees; call = call_agrees; join = join_agrees })
