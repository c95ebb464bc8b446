-- The frames of a static design's functions, one after another, give what its functions give.
use Rattle.std.proofs.Common.{◌≡◌, ℕ, ◌+◌, ◌-◌, ◌≤◌, min, List, [], ◌∷◌, length, map, Bool, true, false, not, ◌&&◌, refl, ap, sym, subst, ◌∙◌, Option, Some, None, arith, if◌then◌else◌}
use Rattle.std.specs.List.{list_all, flat_map}
use mathlib.Core.Bool.{true≢false}
use Rattle.vh_tree.specs.Bits.{Bytes, Bits, same_name, is_among}
use Rattle.vh_tree.specs.Functions.{Calls, function_value, declared, calls_after, parameter_widths}
use Rattle.vh_tree.specs.StaticRules.{Shape, has_arity, arity_in, functions_of, item_names, are_distinct, function_names_well, process_names_well, stmt_fits, shape_of, shaped, is_width, function_fits, items_fit, shapes_after, function_uses_earlier, all_use_earlier, widths_in_process, IsStatic}
use Rattle.vh_tree.specs.Widths.{HasWidth, GivesWidth}
use Rattle.vh_tree.specs.declared.function.Function.{Function}
use Rattle.vh_tree.specs.declared.design.Item.{Item}
use Rattle.vh_tree.specs.declared.design.Item.TheVariants.{Signal, Function as Declared}
use Rattle.vh_tree.specs.declared.design.Design.{Design}
use Rattle.vh_tree_laws.proofs.Comparisons.{both_left, both_right, either_left, either_right, name_turned, not_false, not_true}
use Rattle.vh_tree_laws.proofs.DesignWidth.{ready}
use Rattle.vhdl_cycle_flat.specs.Calling.{FramesGive, FramesLaw}
use Rattle.vhdl_cycle_flat.specs.Flat.{Frame, called, entered as filled}
use Rattle.vhdl_cycle_flat.specs.Names.{Frames, no_frames, with_frame, called_over}
use Rattle.vhdl_cycle_flat.specs.Resolving.{AreFrames, frames_after, total_size}
use Rattle.vhdl_cycle_laws.proofs.Functions.{gives_value}

abbrev names : List Function → List Bytes
names fs = map (λ g. g.name) fs

-- a store in which a frame stands whole
called_whole : (g : Frame) (from n : ℕ) → g.from ≡ from → from + g.size ≤ n → (args : Bits) → called g n args ≡ g.run.value from (filled g.size args)
called_whole g from n e h args =
    let low : min n g.from ≡ from = omega arith in
    let size : min (n - min n g.from) g.size ≡ g.size = omega arith in
    ap (λ (k : ℕ). g.run.value k (filled (min (n - min n g.from) g.size) args)) low ∙ ap (λ (k : ℕ). g.run.value from (filled k args)) size

if_not : (b : Bool) → (b ≡ true → ⊥) → b ≡ false
if_not true h = absurd (h refl)
if_not false h = refl

apart_first : (x y : Bytes) (names : List Bytes) → is_among x (y ∷ names) ≡ false → same_name y x ≡ false
apart_first x y names h = if_not (same_name y x) (λ e. true≢false (sym (either_left (same_name x y) (is_among x names) (name_turned y x e)) ∙ h))

apart_rest : (x y : Bytes) (names : List Bytes) → is_among x (y ∷ names) ≡ false → is_among x names ≡ false
apart_rest x y names h = if_not (is_among x names) (λ e. true≢false (sym (either_right (same_name x y) (is_among x names) e) ∙ h))

-- what is known of a name stays, where no later function has it
shape_stays : (items : List Item) (known : Bytes → Option Shape) (x : Bytes) → is_among x (names (functions_of items)) ≡ false → shapes_after known items x ≡ known x
shape_stays [] known x h = refl
shape_stays (Signal v ∷ items) known x h = shape_stays items known x h
shape_stays (Declared f ∷ items) known x h =
    shape_stays items (shaped f known) x (apart_rest x f.name (names (functions_of items)) h)
    ∙ ap (λ b. if b then Some (shape_of known f) else known x) (apart_first x f.name (names (functions_of items)) h)

call_stays : (items : List Item) (calls : Calls) (x : Bytes) (args : List Bits) → is_among x (names (functions_of items)) ≡ false → calls_after calls items x args ≡ calls x args
call_stays [] calls x args h = refl
call_stays (Signal v ∷ items) calls x args h = call_stays items calls x args h
call_stays (Declared f ∷ items) calls x args h =
    call_stays items (declared f calls) x args (apart_rest x f.name (names (functions_of items)) h)
    ∙ ap (λ b. if b then function_value calls f args else calls x args) (apart_first x f.name (names (functions_of items)) h)

gives_alike : (shape : Option Shape) (k : ℕ) (a b : List Bits → Bits) → ((args : List Bits) → a args ≡ b args) → GivesWidth shape k a → GivesWidth shape k b
gives_alike None k a b same h = absurd h
gives_alike (Some shape) k a b same h = (h.0, λ args l. subst (HasWidth shape.result) (same args) (h.1 args l))

-- one function more
more_case : (b : Bool) (own other : Option Shape) (g : Frame) (before : Option Frame) (a c : List Bits → Bits) (n : ℕ) →
    ((shape : Shape) → own ≡ Some shape → (args : List Bits) → map length args ≡ shape.params → called g n (flat_map (λ z. z) args) ≡ a args) →
    ((shape : Shape) → other ≡ Some shape → (args : List Bits) → map length args ≡ shape.params → called_over before n (flat_map (λ z. z) args) ≡ c args) →
    (shape : Shape) → (if b then own else other) ≡ Some shape → (args : List Bits) → map length args ≡ shape.params →
    called_over (if b then Some g else before) n (flat_map (λ z. z) args) ≡ (if b then a args else c args)
more_case true own other g before a c n h k = h
more_case false own other g before a c n h k = k

module _ (all : List Item) where
  -- functions give their widths when all are declared
  abbrev Ready : (Bytes → Option Shape) → Calls → Type 0
  Ready known calls = (x : Bytes) (k : ℕ) → has_arity (arity_in (functions_of all) x) k ≡ true → not (is_among x []) ≡ true → GivesWidth (known x) k (calls x)

  usable_ready : (items : List Item) (known : Bytes → Option Shape) (calls : Calls) → Ready (shapes_after known items) (calls_after calls items) →
      (x : Bytes) (k : ℕ) → has_arity (arity_in (functions_of all) x) k ≡ true → not (is_among x (names (functions_of items))) ≡ true → GivesWidth (known x) k (calls x)
  usable_ready items known calls r x k a u =
      let apart = not_true (is_among x (names (functions_of items))) u in
      gives_alike (known x) k (calls_after calls items x) (calls x) (λ args. call_stays items calls x args apart)
      (subst (λ shape. GivesWidth shape k (calls_after calls items x)) (shape_stays items known x apart) (r x k a refl))

  frames_give : (items : List Item) (known : Bytes → Option Shape) (frames : Frames) (calls : Calls) (from : ℕ) (gs : List Frame) → items_fit known items ≡ true →
      list_all (function_names_well all) (functions_of items) ≡ true → all_use_earlier (functions_of items) ≡ true → Ready (shapes_after known items) (calls_after calls items) →
      ((n : ℕ) → from ≤ n → FramesGive known frames calls n) → AreFrames frames from items gs → (n : ℕ) → from + total_size gs ≤ n →
      FramesGive (shapes_after known items) (frames_after frames items gs) (calls_after calls items) n
  frames_give [] known frames calls from gs fit named order r give are n h = give n (omega arith)
  frames_give (Signal v ∷ items) known frames calls from gs fit named order r give are n h =
      frames_give items known frames calls from gs (both_right (is_width v.width) (items_fit known items) fit) named order r give are n h
  frames_give (Declared f ∷ items) known frames calls from [] fit named order r give are n h = absurd are
  frames_give (Declared f ∷ items) known frames calls from (g ∷ gs) fit named order r give are n h =
      let fs = functions_of items in
      let usable : Bytes → Bool = λ x. not (is_among x (names (f ∷ fs))) in
      let value : (args : List Bits) → map length args ≡ parameter_widths f → g.run.value from (filled g.size (flat_map (λ a. a) args)) ≡ function_value calls f args =
      gives_value all f known frames calls usable from (usable_ready (Declared f ∷ items) known calls r) (give from (omega arith))
      (both_left (function_names_well all f) (list_all (function_names_well all) fs) named) (both_left (function_fits known f) (items_fit (shaped f known) items) fit)
      (both_left (function_uses_earlier usable f) (all_use_earlier fs) order) g are.0 in
      frames_give items (shaped f known) (with_frame f.name g frames) (declared f calls) (from + g.size) gs
      (both_right (function_fits known f) (items_fit (shaped f known) items) fit) (both_right (function_names_well all f) (list_all (function_names_well all) fs) named)
      (both_right (function_uses_earlier usable f) (all_use_earlier fs) order) r
      (λ m l x. more_case (same_name f.name x) (Some (shape_of known f)) (known x) g (frames x) (function_value calls f) (calls x) m
      (λ shape e args k. called_whole g from m are.0.begins l (flat_map (λ a. a) args) ∙ value args (k ∙ (let same : shape.params ≡ parameter_widths f = cc in same))) (give m (omega arith) x))
      are.1 n (omega arith)

names_hold : (d : Design) → IsStatic d → list_all (function_names_well d.items) (functions_of d.items) ≡ true
names_hold d static =
    let distinct = are_distinct (item_names d.items) in
    let functions = list_all (function_names_well d.items) (functions_of d.items) in
    let processes = list_all (process_names_well d.items) d.processes in
    both_right distinct functions (both_left (distinct && functions) processes (not_false (distinct && functions && processes) static.names))

widths_hold : (d : Design) → IsStatic d → items_fit (λ x. None) d.items ≡ true
widths_hold d static =
    let ports = is_width d.inp && is_width d.outp in
    let items = items_fit (λ x. None) d.items in
    let processes = list_all (λ p. list_all (stmt_fits (widths_in_process d)) p.body) d.processes in
    both_right ports items (both_left (ports && items) processes (not_false (ports && items && processes) static.widths))

pub frames_give_calls : FramesLaw
frames_give_calls d static gs are n h =
    frames_give d.items d.items (λ x. None) no_frames (λ x args. []) 0 gs (widths_hold d static) (names_hold d static) (not_false (all_use_earlier (functions_of d.items)) static.order) (ready d static)
    (λ m l x shape e. absurd (cc)) are n (omega arith)
