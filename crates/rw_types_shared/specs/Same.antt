-- The test of nodes tells which are the same, so that it is an equality and the same nodes hash alike.
use Rattle.std.proofs.Common.{◌≡◌, true, refl, sym, ◌∙◌, ap}
use Rattle.std.specs.Prelude.{bytes_eq}
use Rattle.std.specs.Cmp.{IsEquivalence, both_ways}
use Rattle.std.proofs.lemmas.Slice.Eq.{bytes_eq-Decides}
use Rattle.rw_types_solving.specs.Types.{same_head}
use Rattle.rw_types_solving.proofs.Laws.{head_is, head_self}
use Rattle.rw_types_solving.proofs.StateMonads.{both, and_true}
use Rattle.rw_types_shared.specs.Shared.{Node}
use Rattle.rw_types_shared.specs.Hashed.{same_node, hashed}

pub same_is : (a b : Node) → same_node a b ≡ true → a ≡ b
same_is a b e =
    let two = both (same_head a.0 b.0) (bytes_eq a.1 b.1) e in let heads = head_is a.0 b.0 two.0 in let parts = (bytes_eq-Decides a.1 b.1).0 two.1 in
    λ i. (heads i, parts i)

pub same_self : (a : Node) → same_node a a ≡ true
same_self a = and_true (same_head a.0 a.0) (bytes_eq a.1 a.1) (head_self a.0) ((bytes_eq-Decides a.1 a.1).1 refl)

pub is_same : (a b : Node) → a ≡ b → same_node a b ≡ true
is_same a b e = ap (same_node a) (sym e) ∙ same_self a

pub same_equiv : IsEquivalence same_node
same_equiv = record {
  refl = same_self;
  symm = λ a b. both_ways (same_node a b) (same_node b a) (λ e. is_same b a (sym (same_is a b e))) (λ e. is_same a b (sym (same_is b a e)));
  congr = λ a b c e. ap (λ (z : Node). same_node z c) (same_is a b e);
}

pub same_hashed : (a b : Node) → same_node a b ≡ true → hashed a ≡ hashed b
same_hashed a b e = ap hashed (same_is a b e)
