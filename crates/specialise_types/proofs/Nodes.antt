-- How many nodes a type has, by those of its parts.
use Rattle.std.proofs.Common.{◌≡◌, ℕ, suc, ◌+◌, ◌-◌, ◌<◌, ◌≤◌, min, Bool, true, false, cond, ◌&&◌, nat_eq, List, [], ◌∷◌, ◌++◌, map, length, get_or, take, refl, sym, ◌∙◌, ap, arith}
use Rattle.std.proofs.lemmas.Bool.Decides.{nat_tests}
use Rattle.std.specs.List.{sum_by}
use Rattle.std.proofs.lemmas.List.{map_more, take_more, take_all}
use Rattle.std.proofs.lemmas.List.Sums.{sum_by_push}
use Rattle.rw_types_solving.specs.declared.term.Head.{Head}
use Rattle.rw_types_solving.specs.declared.term.Head.TheVariants as h
use Rattle.rw_types_solving.specs.Types.{Ty, app, tys, parts, own, nodes, nodes_in, is_known_layer}
use Rattle.rw_types_shared.specs.declared.node.Node.{Node as Kept}
use Rattle.rw_types_shared.specs.Shared.{Node, shown, node_at, type_at, IsProper}
use Rattle.rw_types_shared.proofs.Levels.{in_nodes, type_of_node}
use Rattle.specialise_types.proofs.Below.{type_kept_at, kept_at, kept_past}

parts_many : (ts : List Ty) → parts (tys ts) ≡ length ts
parts_many [] = refl
parts_many (t ∷ ts) = ap suc (parts_many ts)

many_map : {A B : Type 0} (f : A → B) (xs : List A) → length (map f xs) ≡ length xs
many_map f [] = refl
many_map f (x ∷ xs) = ap suc (many_map f xs)

-- == Known layers ==

known_state : (head : Head) (ts : List Ty) → head ≡ h.StateT → is_known_layer (app head (tys ts)) ≡ nat_eq (length ts) 1
known_state head ts e = ap (λ (z : Head). is_known_layer (app z (tys ts))) e ∙ ap (λ (z : ℕ). nat_eq z 1) (parts_many ts)

known_device : (head : Head) (ts : List Ty) → head ≡ h.ReT → is_known_layer (app head (tys ts)) ≡ nat_eq (length ts) 2
known_device head ts e = ap (λ (z : Head). is_known_layer (app z (tys ts))) e ∙ ap (λ (z : ℕ). nat_eq z 2) (parts_many ts)

pub state_at : (keys : List Kept) (n : ℕ) (node : Kept) → IsProper (map shown keys) → n < length keys → node ≡ get_or keys n node → node.head ≡ h.StateT
    → nat_eq (length node.parts.items) 1 ≡ is_known_layer (type_at (map shown keys) n)
state_at keys n node p l e s =
    sym (ap is_known_layer (type_kept_at keys n node p l e) ∙ known_state node.head (map (type_at (map shown keys)) node.parts.items) s
    ∙ ap (λ (z : ℕ). nat_eq z 1) (many_map (type_at (map shown keys)) node.parts.items))

pub device_at : (keys : List Kept) (n : ℕ) (node : Kept) → IsProper (map shown keys) → n < length keys → node ≡ get_or keys n node → node.head ≡ h.ReT
    → nat_eq (length node.parts.items) 2 ≡ is_known_layer (type_at (map shown keys) n)
device_at keys n node p l e s =
    sym (ap is_known_layer (type_kept_at keys n node p l e) ∙ known_device node.head (map (type_at (map shown keys)) node.parts.items) s
    ∙ ap (λ (z : ℕ). nat_eq z 2) (many_map (type_at (map shown keys)) node.parts.items))

-- == A head beside its parts ==

pub own_known : (t : ℕ → Ty) (ks : List ℕ) → length ks ≡ 2 → is_known_layer (t (get_or ks 0 0)) ≡ true → own h.Layer (tys (map t ks)) ≡ 0
own_known t [] e b = absurd (omega arith)
own_known t (l ∷ []) e b = absurd (omega arith)
own_known t (l ∷ m ∷ []) e b = ap (λ (z : Bool). cond (z && true) 0 1) b
own_known t (l ∷ m ∷ n ∷ ns) e b = absurd (omega arith)

pub own_unknown : (t : ℕ → Ty) (ks : List ℕ) → length ks ≡ 2 → is_known_layer (t (get_or ks 0 0)) ≡ false → own h.Layer (tys (map t ks)) ≡ 1
own_unknown t [] e b = absurd (omega arith)
own_unknown t (l ∷ []) e b = absurd (omega arith)
own_unknown t (l ∷ m ∷ []) e b = ap (λ (z : Bool). cond (z && true) 0 1) b
own_unknown t (l ∷ m ∷ n ∷ ns) e b = absurd (omega arith)

and_false : (b : Bool) → (b && false) ≡ false
and_false true = refl
and_false false = refl

abbrev picked_by : Bool → ℕ
picked_by b = cond b 0 1

picked : (b : Bool) → b ≡ false → picked_by b ≡ 1
picked true e = absurd (cc)
picked false e = refl

never_one : (x : ℕ) → nat_eq (suc (suc x)) 1 ≡ false
never_one x = grind (arith, nat_tests)

pub own_other : (t : ℕ → Ty) (ks : List ℕ) → (length ks ≡ 2 → ⊥) → own h.Layer (tys (map t ks)) ≡ 1
own_other t [] apart = refl
own_other t (l ∷ []) apart = picked (is_known_layer (t l) && false) (and_false (is_known_layer (t l)))
own_other t (l ∷ m ∷ []) apart = absurd (apart refl)
own_other t (l ∷ m ∷ n ∷ ns) apart =
    picked (is_known_layer (t l) && nat_eq (suc (suc (parts (tys (map t ns))))) 1) (ap (λ (z : Bool). is_known_layer (t l) && z) (never_one (parts (tys (map t ns)))) ∙ and_false (is_known_layer (t l)))

-- == Sums ==

-- the head of a node beside its parts, and these of its parts
abbrev pub so_far : List Node → ℕ → List ℕ → ℕ
so_far table n ks = nodes_in (tys (map (type_at table) ks)) + own (node_at table n).0 (tys (map (type_at table) (node_at table n).1))

nodes_last : (t : ℕ → Ty) (ks : List ℕ) (k : ℕ) → nodes_in (tys (map t (ks ++ k ∷ []))) ≡ nodes_in (tys (map t ks)) + nodes (t k)
nodes_last t [] k = omega arith
nodes_last t (j ∷ js) k = let rest = nodes_last t js k in omega arith

pub capped_more : (limit before this sum made : ℕ) → sum ≡ min limit before → made ≡ sum + min (limit - sum) this → made ≡ min limit (before + this)
capped_more limit before this sum made e f = grind arith

pub capped_within : (limit before sum : ℕ) → sum ≡ min limit before → sum ≤ limit
capped_within limit before sum e = omega arith

pub so_far_last : (table : List Node) (n : ℕ) (items : List ℕ) (i : ℕ) → i < length items → so_far table n (take (i + 1) items) ≡ so_far table n (take i items) + nodes (type_at table (get_or items i 0))
so_far_last table n items i l =
    let e = nodes_last (type_at table) (take i items) (get_or items i 0) in
    ap (so_far table n) (take_more items i 0 l) ∙ omega arith

pub so_far_first : (keys : List Kept) (n : ℕ) (node : Kept) (sum limit beside : ℕ) (items : List ℕ) → n < length keys → node ≡ get_or keys n node → sum ≡ min limit beside
    → beside ≡ own node.head (tys (map (type_at (map shown keys)) node.parts.items)) → sum ≡ min limit (so_far (map shown keys) n (take 0 items))
so_far_first keys n node sum limit beside items l e f g =
    let same = g ∙ ap (λ (z : Node). own z.0 (tys (map (type_at (map shown keys)) z.1))) (sym (kept_at keys n node l e)) in
    f ∙ ap (min limit) (omega arith)

pub so_far_all : (table : List Node) (n i : ℕ) (items : List ℕ) → IsProper table → items ≡ (node_at table n).1 → length items ≤ i → so_far table n (take i items) ≡ nodes (type_at table n)
so_far_all table n i items p e l = ap (so_far table n) (take_all i items l ∙ e) ∙ sym (ap nodes (in_nodes table p.earlier n))

pub nodes_past : (keys : List Kept) (n : ℕ) → IsProper (map shown keys) → length keys ≤ n → nodes (type_at (map shown keys) n) ≡ 1
nodes_past keys n p l = ap nodes (type_of_node (map shown keys) n (h.Tuple, []) p (kept_past keys n l))

-- == Lists ==

pub list_last : (table : List Node) (ks : List ℕ) (i : ℕ) → i < length ks → sum_by nodes (map (type_at table) (take (i + 1) ks)) ≡ sum_by nodes (map (type_at table) (take i ks)) + nodes (type_at table (get_or ks i 0))
list_last table ks i l = ap (sum_by nodes) (map_more (type_at table) ks i 0 l) ∙ sum_by_push nodes (map (type_at table) (take i ks)) (type_at table (get_or ks i 0))
