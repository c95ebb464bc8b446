-- One flat program of instances, or one first that breaks E18; and one verdict on it.
use Rattle.std.proofs.Common.{◌≡◌, ◌∙◌, refl, sym, ap, subst, arith, ℕ, zero, suc, ◌+◌, ◌<◌, ◌≤◌, List, [], ◌∷◌, ◌++◌, take, slice_get, Option, Some, None, Ok, Err, inl, inr, ⊎_elim}
use Rattle.std.specs.List.{flat_map, sum_by}
use Rattle.std.proofs.lemmas.List.Sums.{sum_by-cons}
use Rattle.rw_base.specs.declared.place.Place.{Place}
use Rattle.rw_base.specs.declared.place.Span.{Span}
use Rattle.rw_base.specs.declared.rule.Rule.TheVariants.{E18}
use Rattle.rw_base.specs.declared.fail.Refusal.{Refusal}
use Rattle.rw_tree.specs.Declarations.{Declaration, PlainProgram}
use Rattle.rw_core.specs.declared.types.DataTy.{DataTy}
use Rattle.rw_core.specs.Systems.{System}
use Rattle.rw_meaning.specs.Systems.{Body, system_of}
use Rattle.rw_types_solving.specs.Types.{Ty}
use Rattle.rw_types_rules.specs.Schemes.{World}
use Rattle.rw_types_rules.specs.TypedTrees.{TypedNode}
use Rattle.rw_core_flat.specs.Programs.{FunctionKind, device, FlatFunction, FlatProgram}
use Rattle.rw_guard_rules.specs.Rules.{nodes}
use Rattle.rw_guard_rules.specs.Verdict.{GuardsAs}
use Rattle.specialise_rules.specs.Instances.{Instance, declared_in}
use Rattle.specialise_rules.specs.Tables.{number_in}
use Rattle.specialise_laws.proofs.Seeing.{sees_once}
use Rattle.inline_ho_rules.specs.TypedFlattening.{typed_binding}
use Rattle.inline_ho_rules.specs.TypedPrograms.{IsFlatOf, kind_of, declared_place, first_declared, start_body, Origin, parts_of, whole_if_low, type_if, others_of, origins, AreOf}
use Rattle.inline_ho_rules.specs.OrderRules.{BreaksOrders, ExpandsWithin, most_flat_nodes}
use Rattle.rw_front.specs.Stages.{IsExactAt}
use Rattle.rw_front.specs.Verdict.{reported}
use Rattle.rw_pipe_laws.proofs.Instances.{in_order, same_held}
use Rattle.rw_pipe_rules.specs.Verdict.{InstancedProgram, world_in, place_of_instance, JudgedProgram, numbered_table, type_of_declared, IsFlat, AllKeepOrders, Expands, BreaksFlattening, Flattens, IsGuardedAs}

-- of two first ones
abbrev FirstOf : (ℕ → Instance → Type 0) → Type 0
FirstOf P = (n m : ℕ) (i j : Instance) → P n i → P m j → i ≡ j

-- == Flat functions of the instances up to one ==

module _ (world : World) (typed : List (Declaration TypedNode)) (instances : List Instance) (table : List Ty) (start : Body TypedNode) (place : Place) where
  -- the functions of origins are those of the first ones, and of the others
  first_part : (os more : List Origin) (fs : List FlatFunction) → AreOf world typed instances table start place (os ++ more) fs
      → (gs : List FlatFunction) × AreOf world typed instances table start place os gs × (sum_by (λ (f : FlatFunction). nodes f.body) gs ≤ sum_by (λ (f : FlatFunction). nodes f.body) fs)
  first_part [] more fs h = ([], tt, omega arith)
  first_part (o ∷ os) more [] h = absurd h
  first_part (o ∷ os) more (f ∷ fs) h =
      let rest = first_part os more fs h.1 in
      let l = rest.2 in
      let a : sum_by (λ (f : FlatFunction). nodes f.body) (f ∷ rest.0) ≡ nodes f.body + sum_by (λ (f : FlatFunction). nodes f.body) rest.0 = sum_by-cons (λ (f : FlatFunction). nodes f.body) f rest.0 in
      let b : sum_by (λ (f : FlatFunction). nodes f.body) (f ∷ fs) ≡ nodes f.body + sum_by (λ (f : FlatFunction). nodes f.body) fs = sum_by-cons (λ (f : FlatFunction). nodes f.body) f fs in
      (f ∷ rest.0, (h.0, rest.1), omega arith)

  -- those of more instances are behind those of some
  others_more : (is : List Instance) (n : ℕ)
      → (more : List Origin) × (others_of world typed instances table start place is ≡ others_of world typed instances table start place (take (suc n) is) ++ more)
  others_more [] n = ([], refl)
  others_more (i ∷ is) n = part_of is n
    where
      joined : (xs ys zs : List Origin) → (xs ++ ys) ++ zs ≡ xs ++ (ys ++ zs)
      joined [] ys zs = refl
      joined (x ∷ xs) ys zs = ap (λ z. x ∷ z) (joined xs ys zs)

      part_of : (is : List Instance) (n : ℕ)
          → (more : List Origin) × (flat_map (λ j. whole_if_low j (type_if (declared_in typed j))) is ≡ flat_map (λ j. whole_if_low j (type_if (declared_in typed j))) (take n is) ++ more)
      part_of is zero = (flat_map (λ j. whole_if_low j (type_if (declared_in typed j))) is, refl)
      part_of [] (suc n) = ([], refl)
      part_of (j ∷ js) (suc n) =
          let rest = part_of js n in
          (rest.0, ap (λ z. whole_if_low j (type_if (declared_in typed j)) ++ z) rest.1 ∙ sym (joined (whole_if_low j (type_if (declared_in typed j))) (flat_map (λ j. whole_if_low j (type_if (declared_in typed j))) (take n js)) rest.0))

  again : (xs ys zs : List Origin) → (xs ++ ys) ++ zs ≡ xs ++ (ys ++ zs)
  again [] ys zs = refl
  again (x ∷ xs) ys zs = ap (λ z. x ∷ z) (again xs ys zs)

  -- where all functions aren't too large together, those up to any instance aren't
  pub expands : (fs : List FlatFunction) → AreOf world typed instances table start place (origins world typed instances table start place) fs → sum_by (λ (f : FlatFunction). nodes f.body) fs ≤ most_flat_nodes
      → (n : ℕ) → ExpandsWithin world typed instances table start place n
  expands fs h small n =
      let more = others_more instances n in
      let parts = parts_of (system_of typed_binding start.expression) in
      let whole : parts ++ others_of world typed instances table start place instances ≡ (parts ++ others_of world typed instances table start place (take (suc n) instances)) ++ more.0 =
      ap (λ z. parts ++ z) more.1 ∙ sym (again parts (others_of world typed instances table start place (take (suc n) instances)) more.0) in
      let some = first_part (parts ++ others_of world typed instances table start place (take (suc n) instances)) more.0 fs (subst (λ z. AreOf world typed instances table start place z fs) whole h) in
      let l = some.2 in
      (some.0, some.1, omega arith)

-- == One flat program ==

abbrev pub OneFlat : Type 0
OneFlat =
    (world : World) (typed : List (Declaration TypedNode)) (instances : List Instance) (first second : List Ty) (functions others : List FlatFunction) (system another : System ℕ ℕ)
    → IsFlatOf world typed instances first functions system → IsFlatOf world typed instances second others another → (first ≡ second) × (functions ≡ others) × (system ≡ another)

abbrev flat_of : List DataTy → List FlatFunction → System ℕ ℕ → ℕ → ℕ → FlatProgram
flat_of types functions system input output = record { types = types; functions = functions; system = system; input = input; output = output }

abbrev input_of : FunctionKind → ℕ
input_of (device i o layers) = i
input_of k = 0

abbrev output_of : FunctionKind → ℕ
output_of (device i o layers) = o
output_of k = 0

module _ (once : OneFlat) (given : InstancedProgram) where
  same_ports : (t u : List Ty) (a b : Ty) (x y : FunctionKind × ℕ) → t ≡ u → a ≡ b → kind_of (number_in 0 t) a ≡ Some x → kind_of (number_in 0 u) b ≡ Some y → x ≡ y
  same_ports t u a b x y e f h k = cc

  same_flat : (a b : FlatProgram) → IsFlat given a → IsFlat given b → a ≡ b
  same_flat a b h k =
      let s = once (world_in given.program) given.typed given.instances h.table k.table a.functions b.functions a.system b.system h.flattened k.flattened in
      let types : a.types ≡ b.types = same_held (numbered_table (world_in given.program) k.table) a.types b.types (subst (λ z. numbered_table (world_in given.program) z ≡ Some a.types) s.0 h.types) k.types in
      let start : h.start ≡ k.start = same_held (first_declared given.typed given.instances) h.start k.start h.first k.first in
      let type : h.type ≡ k.type = same_type start h.typed k.typed in
      let ports : (device a.input a.output [], h.unit) ≡ (device b.input b.output [], k.unit) = same_ports h.table k.table h.type k.type (device a.input a.output [], h.unit) (device b.input b.output [], k.unit) s.0 type h.ports k.ports in
      ap (λ z. flat_of z a.functions a.system a.input a.output) types ∙ ap (λ z. flat_of b.types z a.system a.input a.output) s.1 ∙ ap (λ z. flat_of b.types b.functions z a.input a.output) s.2
      ∙ ap (λ z. flat_of b.types b.functions b.system z a.output) (ap (λ (p : FunctionKind × ℕ). input_of p.0) ports) ∙ ap (flat_of b.types b.functions b.system b.input) (ap (λ (p : FunctionKind × ℕ). output_of p.0) ports)
    where
      same_type : h.start ≡ k.start → type_of_declared h.start ≡ Some h.type → type_of_declared k.start ≡ Some k.type → h.type ≡ k.type
      same_type e f g = cc

  -- == The first that breaks the rule ==

  orders_once : FirstOf (BreaksOrders given.typed given.instances)
  orders_once n m i j h k =
      ⊎_elim (λ (l : n < m). absurd (h.broken (k.first n i l h.listed))) (λ other. ⊎_elim (λ (l : m < n). absurd (k.broken (h.first m j l k.listed)))
      (λ (e : n ≡ m). same_held (slice_get given.instances m) i j (subst (λ z. slice_get given.instances z ≡ Some i) e h.listed) k.listed) other) (in_order n m)

  -- the table and the body of `start` are the same wherever it expands
  moved : (n m p : ℕ) (i j : Instance) (h : Expands given n i) (k : Expands given m j) → ExpandsWithin (world_in given.program) given.typed given.instances h.table h.start (declared_place h.declared) p
      → ExpandsWithin (world_in given.program) given.typed given.instances k.table k.start (declared_place k.declared) p
  moved n m p i j h k x =
      let table : h.table ≡ k.table = sees_once h.tabled k.tabled in
      let declared : h.declared ≡ k.declared = same_held (first_declared given.typed given.instances) h.declared k.declared h.first k.first in
      let start : h.start ≡ k.start = same_held (start_body k.declared) h.start k.start (subst (λ z. start_body z ≡ Some h.start) declared h.body) k.body in
      subst (λ z. ExpandsWithin (world_in given.program) given.typed given.instances k.table k.start (declared_place z) p) declared
      (subst (λ z. ExpandsWithin (world_in given.program) given.typed given.instances k.table z (declared_place h.declared) p) start
      (subst (λ z. ExpandsWithin (world_in given.program) given.typed given.instances z h.start (declared_place h.declared) p) table x))

  expands_once : FirstOf (Expands given)
  expands_once n m i j h k =
      ⊎_elim (λ (l : n < m). absurd (h.much.broken (moved m n n j i k h (k.much.first n l)))) (λ other. ⊎_elim (λ (l : m < n). absurd (k.much.broken (moved n m m i j h k (h.much.first m l))))
      (λ (e : n ≡ m). same_held (slice_get given.instances m) i j (subst (λ z. slice_get given.instances z ≡ Some i) e h.much.listed) k.much.listed) other) (in_order n m)

  breaks_once : FirstOf (BreaksFlattening given)
  breaks_once n m i j (inl h) (inl k) = orders_once n m i j h k
  breaks_once n m i j (inl h) (inr k) = absurd (h.broken (k.0 n i h.listed))
  breaks_once n m i j (inr h) (inl k) = absurd (k.broken (h.0 m j k.listed))
  breaks_once n m i j (inr h) (inr k) = expands_once n m i j h.1 k.1

  -- what has a flat program that isn't too large expands nowhere
  never_expands : (flat : FlatProgram) (n : ℕ) (i : Instance) → IsFlat given flat → Expands given n i → ⊥
  never_expands flat n i h k =
      let world = world_in given.program in
      let made : h.table ≡ k.table = sees_once h.flattened.tabled k.tabled in
      let declared : h.flattened.declared ≡ k.declared = same_held (first_declared given.typed given.instances) h.flattened.declared k.declared h.flattened.first k.first in
      let start : h.flattened.start ≡ k.start = same_held (start_body k.declared) h.flattened.start k.start (subst (λ z. start_body z ≡ Some h.flattened.start) declared h.flattened.found) k.body in
      k.much.broken (subst (λ z. ExpandsWithin world given.typed given.instances k.table k.start (declared_place z) n) declared
      (subst (λ z. ExpandsWithin world given.typed given.instances k.table z (declared_place h.flattened.declared) n) start
      (subst (λ z. ExpandsWithin world given.typed given.instances z h.flattened.start (declared_place h.flattened.declared) n) made
      (expands world given.typed given.instances h.table h.flattened.start (declared_place h.flattened.declared) flat.functions h.flattened.made h.small n))))

  never_both : (flat : FlatProgram) (n : ℕ) (i : Instance) → AllKeepOrders given → IsFlat given flat → BreaksFlattening given n i → ⊥
  never_both flat n i a h (inl k) = k.broken (a n i k.listed)
  never_both flat n i a h (inr k) = never_expands flat n i h k.1

abbrev judged_of : PlainProgram Span → List (Declaration TypedNode) → List Instance → FlatProgram → JudgedProgram
judged_of program typed instances flat = record { program = program; typed = typed; instances = instances; flat = flat }

pub flattens_exact : OneFlat → (given : InstancedProgram) → IsExactAt Flattens given
flattens_exact once given (Ok x) (Ok y) h k =
    ap Ok (ap (λ z. judged_of z x.typed x.instances x.flat) (h.0 ∙ sym k.0) ∙ ap (λ z. judged_of y.program z x.instances x.flat) (h.1 ∙ sym k.1) ∙ ap (λ z. judged_of y.program y.typed z x.flat) (h.2 ∙ sym k.2)
    ∙ ap (judged_of y.program y.typed y.instances) (same_flat once given x.flat y.flat h.4 k.4))
flattens_exact once given (Ok x) (Err r) h (n, i, k, e) = absurd (never_both once given x.flat n i h.3 h.4 k)
flattens_exact once given (Err r) (Ok y) (n, i, h, e) k = absurd (never_both once given y.flat n i k.3 k.4 h)
flattens_exact once given (Err r) (Err s) (n, i, h, e) (m, j, k, f) =
    let same : i ≡ j = breaks_once once given n m i j h k in
    ap Err (e ∙ ap (λ z. reported given.program (record { rule = E18; place = place_of_instance given.typed z })) same ∙ sym f)

-- == Guarded ==

abbrev pub OneGuard : Type 0
OneGuard = (program : FlatProgram) (found other : Option Refusal) → GuardsAs program found → GuardsAs program other → found ≡ other

pub guarded_exact : OneGuard → (given : JudgedProgram) → IsExactAt IsGuardedAs given
guarded_exact once given (Ok x) (Ok y) h k = ap Ok (h.0 ∙ sym k.0)
guarded_exact once given (Ok x) (Err r) h k = absurd (let e : None ≡ Some r = once given.flat None (Some r) h.1 k in cc)
guarded_exact once given (Err r) (Ok y) h k = absurd (let e : None ≡ Some r = once given.flat None (Some r) k.1 h in cc)
guarded_exact once given (Err r) (Err s) h k = let e : Some r ≡ Some s = once given.flat (Some r) (Some s) h k in let f : r ≡ s = cc in ap Err f
