-- Nodes that carry what they may exactly where an assignment fits kinds: how such parts are joined.
use Rattle.std.proofs.Common.{◌≡◌, ◌↔◌, ℕ, suc, ◌+◌, Bool, List, [], ◌∷◌, ◌++◌, length, refl, sym, subst, arith}
use Rattle.rw_scope_rules.specs.Nodes.{Node, group_node}
use Rattle.rw_tree.specs.Trees.{LocalBindings}
use Rattle.rw_types_solving.specs.declared.term.Sort.{Sort}
use Rattle.rw_types_solving.specs.declared.term.Sort.TheVariants as s
use Rattle.rw_types_solving.specs.Types.{Ty}
use Rattle.rw_types_rules.specs.declared.kind.VariableKind.{VariableKind}
use Rattle.rw_types_rules.specs.declared.kind.VariableKind.TheVariants.{Plain}
use Rattle.rw_types_rules.specs.Schemes.{World}
use Rattle.rw_types_rules.specs.TypedTrees.{TypedNode}
use Rattle.rw_types_rules.specs.Typings.{IsType, MayAllBe, NodeCarries, NodesCarry}
use Rattle.rw_types_numbering.specs.Fits.{Fits, types_from}

module _ (sorts : ℕ → Sort) (states : ℕ → Bool) (own : List VariableKind) (world : World) (t : ℕ → Ty) where
  -- the nodes carry what they may exactly where the numbers from n on fit the kinds
  pub record Exact (nodes : List (Node TypedNode)) (n : ℕ) (kinds : List VariableKind) : Type 0 where
    pub is : NodesCarry sorts states own world nodes ↔ Fits sorts states own world t n kinds

  carry_both : (xs ys : List (Node TypedNode)) → NodesCarry sorts states own world (xs ++ ys) ↔ (NodesCarry sorts states own world xs × NodesCarry sorts states own world ys)
  carry_both [] ys = ((λ h. (tt, h)), (λ h. h.1))
  carry_both (x ∷ xs) ys = ((λ h. let r = (carry_both xs ys).0 h.1 in ((h.0, r.0), r.1)), (λ h. (h.0.0, (carry_both xs ys).1 (h.0.1, h.1))))

  fits_both : (n m : ℕ) (ks ls : List VariableKind) → m ≡ n + length ks → Fits sorts states own world t n (ks ++ ls) ↔ (Fits sorts states own world t n ks × Fits sorts states own world t m ls)
  fits_both n m [] ls e =
      let same : n ≡ m = omega arith in
      ((λ h. (tt, subst (λ z. Fits sorts states own world t z ls) same h)), (λ h. subst (λ z. Fits sorts states own world t z ls) (sym same) h.1))
  fits_both n m (k ∷ ks) ls e =
      let r = fits_both (suc n) m ks ls (omega arith) in
      ((λ h. let both = r.0 h.1 in ((h.0, both.0), both.1)), (λ h. (h.0.0, r.1 (h.0.1, h.1))))

  -- arguments may be what their numbers fit
  all_fit : (n : ℕ) (ks : List VariableKind) → MayAllBe sorts states own world ks (types_from t n (length ks)) ↔ Fits sorts states own world t n ks
  all_fit n [] = ((λ h. tt), (λ h. tt))
  all_fit n (k ∷ ks) = ((λ h. (h.0, (all_fit (suc n) ks).0 h.1)), (λ h. (h.0, (all_fit (suc n) ks).1 h.1)))

  pub nothing : (n : ℕ) → Exact [] n []
  nothing n = record { is = ((λ h. tt), (λ h. tt)) }

  -- two parts, one after the other
  pub joined : {xs ys : List (Node TypedNode)} {n : ℕ} {ks ls : List VariableKind} → Exact xs n ks → Exact ys (n + length ks) ls → Exact (xs ++ ys) n (ks ++ ls)
  joined {xs = xs} {ys = ys} {n = n} {ks = ks} {ls = ls} p q =
      let c = carry_both xs ys in let f = fits_both n (n + length ks) ks ls refl in
      record { is = ((λ h. let b = c.0 h in f.1 (p.is.0 b.0, q.is.0 b.1)), (λ h. let b = f.0 h in c.1 (p.is.1 b.0, q.is.1 b.1))) }

  -- a node without arguments over parts
  pub above : {xs : List (Node TypedNode)} {n : ℕ} {ks : List VariableKind} (x : Node TypedNode) → (NodeCarries sorts states own world x ↔ IsType sorts states own world s.Plain (t n))
      → Exact xs (suc n) ks → Exact (x ∷ xs) n (Plain ∷ ks)
  above x h p = record { is = ((λ c. (h.0 c.0, p.is.0 c.1)), (λ f. (h.1 f.0, p.is.1 f.1))) }

  -- a node with arguments of these kinds over parts
  pub over : {xs : List (Node TypedNode)} {n : ℕ} {ls : List VariableKind} (x : Node TypedNode) (ks : List VariableKind)
      → (NodeCarries sorts states own world x ↔ (IsType sorts states own world s.Plain (t n) × MayAllBe sorts states own world ks (types_from t (suc n) (length ks))))
      → Exact xs (suc n + length ks) ls → Exact (x ∷ xs) n (Plain ∷ ks ++ ls)
  over {xs = xs} {n = n} {ls = ls} x ks h p =
      let f = fits_both (suc n) (suc n + length ks) ks ls refl in let a = all_fit (suc n) ks in
      record {
        is = (
          (λ c. let b = h.0 c.0 in (b.0, f.1 (a.0 b.1, p.is.0 c.1))),
          (λ z. let b = f.0 z.1 in (h.1 (z.0, a.1 b.0), p.is.1 b.1)),
        );
      }

  -- and over none
  pub leaf : {n : ℕ} (x : Node TypedNode) (ks : List VariableKind)
      → (NodeCarries sorts states own world x ↔ (IsType sorts states own world s.Plain (t n) × MayAllBe sorts states own world ks (types_from t (suc n) (length ks))))
      → Exact (x ∷ []) n (Plain ∷ ks)
  leaf {n = n} x ks h =
      let a = all_fit (suc n) ks in
      record { is = ((λ c. let b = h.0 c.0 in (b.0, a.0 b.1)), (λ z. (h.1 (z.0, a.1 z.1), tt))) }

  -- a group is of no number
  pub grouped : {xs : List (Node TypedNode)} {n : ℕ} {ks : List VariableKind} (g : LocalBindings TypedNode) → Exact xs n ks → Exact (group_node g ∷ xs) n ks
  grouped g p = record { is = ((λ c. p.is.0 c.1), (λ f. (tt, p.is.1 f))) }

  -- what a node carries that has a type and no arguments, and one that has both
  pub plain : (n : ℕ) → (IsType sorts states own world s.Plain (t n) × Unit {0}) ↔ IsType sorts states own world s.Plain (t n)
  plain n = ((λ h. h.0), (λ h. (h, tt)))

  pub bearing : (n : ℕ) (ks : List VariableKind) → (IsType sorts states own world s.Plain (t n) × MayAllBe sorts states own world ks (types_from t (suc n) (length ks))) ↔ (IsType sorts states own world s.Plain (t n) × MayAllBe sorts states own world ks (types_from t (suc n) (length ks)))
  bearing n ks = ((λ h. h), (λ h. h))
