-- In a proper table types are told apart by their numbers.
use Rattle.std.proofs.Common.{◌≡◌, ℕ, zero, suc, ◌<◌, List, [], ◌∷◌, map, length, refl, sym, ◌∙◌, arith}
use Rattle.rw_types_solving.specs.declared.term.Head.{Head}
use Rattle.rw_types_solving.specs.Types.{Ty, Tys, app, tys}
use Rattle.rw_types_shared.specs.Shared.{Node, node_at, type_at, AreBelow, IsProper}
use Rattle.rw_types_shared.proofs.Levels.{in_nodes}

same_app : (h k : Head) (ts us : Tys) → app h ts ≡ app k us → (h ≡ k) × (ts ≡ us)
same_app h k ts us e = (cc, cc)

module _ (f : ℕ → Ty) (m n : ℕ) (one : (j k : ℕ) → j < m → k < n → f j ≡ f k → j ≡ k) where
  same_parts : (js ks : List ℕ) → AreBelow m js → AreBelow n ks → tys (map f js) ≡ tys (map f ks) → js ≡ ks
  same_parts [] [] a b e = refl
  same_parts [] (k ∷ ks) a b e = absurd (cc)
  same_parts (j ∷ js) [] a b e = absurd (cc)
  same_parts (j ∷ js) (k ∷ ks) a b e =
      let head : f j ≡ f k = cc in let rest : tys (map f js) ≡ tys (map f ks) = cc in
      let same = one j k a.0 b.0 head in let others = same_parts js ks a.1 b.1 rest in cc

module _ (nodes : List Node) (p : IsProper nodes) where
  by_levels : (d m n : ℕ) → m < d → m < length nodes → n < length nodes → type_at nodes m ≡ type_at nodes n → m ≡ n
  by_levels zero m n a k l e = absurd (omega arith)
  by_levels (suc d) m n a k l e =
      let two = same_app (node_at nodes m).0 (node_at nodes n).0 (tys (map (type_at nodes) (node_at nodes m).1)) (tys (map (type_at nodes) (node_at nodes n).1))
      (sym (in_nodes nodes p.earlier m) ∙ e ∙ in_nodes nodes p.earlier n) in
      let parts = same_parts (type_at nodes) m n (λ i j x y f. by_levels d i j (omega arith) (omega arith) (omega arith) f) (node_at nodes m).1 (node_at nodes n).1 (p.earlier m) (p.earlier n) two.1 in
      p.distinct m n k l (λ i. (two.0 i, parts i))

  pub told_apart : (m n : ℕ) → m < length nodes → n < length nodes → type_at nodes m ≡ type_at nodes n → m ≡ n
  told_apart m n k l e = by_levels (length nodes) m n k k l e
