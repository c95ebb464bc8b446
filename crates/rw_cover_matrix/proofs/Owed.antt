-- What is owed, step by step: rows that stand for others, and how much is left.
use Rattle.std.proofs.Common.{◌≡◌, ◌∙◌, ℕ, suc, zero, ◌+◌, ◌-◌, ◌*◌, ◌^◌, ◌≤◌, ◌<◌, ◌⊎◌, inl, inr, true, false, List, [], ◌∷◌, ◌++◌, length, map, get_or, reverse, sym, ap, subst, arith}
use Rattle.std.proofs.lemmas.List.{map-append, append-nil, append_assoc, length-map}
use Rattle.std.proofs.lemmas.Nat.{mul-le}
use Rattle.rw_cover_matrix.specs.declared.pattern.Pattern.{Pattern}
use Rattle.rw_cover_matrix.specs.declared.sort.Sorted.{Sorted}
use Rattle.rw_cover_matrix.specs.Matching.{PlainPattern, plain_row, plain_rows}
use Rattle.rw_cover_matrix.specs.Coverage.{Decides}
use Rattle.rw_cover_matrix.specs.Columns.{group, shorter_rows, column_count, AreWithin, IsReached, AreGroups, HasMissing, rows_nodes}
use Rattle.rw_cover_matrix.specs.Owing.{AllCover, SomeFails, StandFor, left_of, left_in, owed_in, weight, weights, owed_weight, AreFewer, IsStep, IsNeeded}
use Rattle.rw_cover_matrix.proofs.Popped.{answer_uncovered, answer_all, answer_missing, group_less, shorter_less}

abbrev Rows : Type 0
Rows = List (List PlainPattern)

-- == Lists of rows one behind the other ==

all_front : (a b : List Rows) → AllCover (a ++ b) → AllCover a × AllCover b
all_front [] b h = (tt, h)
all_front (m ∷ a) b h = ((h.0, (all_front a b h.1).0), (all_front a b h.1).1)

all_append : (a b : List Rows) → AllCover a → AllCover b → AllCover (a ++ b)
all_append [] b h k = k
all_append (m ∷ a) b h k = (h.0, all_append a b h.1 k)

some_front : (a b : List Rows) → SomeFails (a ++ b) → SomeFails a ⊎ SomeFails b
some_front [] b h = inr h
some_front (m ∷ a) b (inl d) = inl (inl d)
some_front (m ∷ a) b (inr h) =
    elim (some_front a b h) [
      | inl x ↦ inl (inr x)
      | inr x ↦ inr x
    ]

some_left : (a b : List Rows) → SomeFails a → SomeFails (a ++ b)
some_left [] b h = absurd h
some_left (m ∷ a) b (inl d) = inl d
some_left (m ∷ a) b (inr h) = inr (some_left a b h)

some_right : (a b : List Rows) → SomeFails b → SomeFails (a ++ b)
some_right [] b h = h
some_right (m ∷ a) b h = inr (some_right a b h)

pub stand_same : (a : List Rows) → StandFor a a
stand_same a = record { covers = λ h. h; fails = λ h. h }

pub stand_on : (a b c : List Rows) → StandFor a b → StandFor b c → StandFor a c
stand_on a b c f g = record { covers = λ h. f.covers (g.covers h); fails = λ h. f.fails (g.fails h) }

-- behind the same rows
pub stand_behind : (a b c : List Rows) → StandFor b c → StandFor (a ++ b) (a ++ c)
stand_behind a b c f = record {
  covers = λ h. let k = all_front a c h in all_append a b k.0 (f.covers k.1);
  fails = λ h. elim (some_front a c h) [
    | inl x ↦ some_left a b x
    | inr x ↦ some_right a b (f.fails x)
  ];
}

-- rows that cover are owed no more
pub stand_covered : (a : List Rows) (m : Rows) → Decides true m → StandFor (a ++ m ∷ []) a
stand_covered a m d = record {
  covers = λ h. all_append a (m ∷ []) h (d, tt);
  fails = λ h. some_left a (m ∷ []) h;
}

pub fails_last : (a : List Rows) (m : Rows) → Decides false m → SomeFails (a ++ m ∷ [])
fails_last a m d = some_right a (m ∷ []) (inl d)

-- == What is owed ==

pub left-append : (a b : List Rows) (shorter : Rows) → left_of (a ++ b) shorter ≡ left_of a shorter ++ left_of b shorter
left-append a b shorter = map-append (λ group. group ++ shorter) a b

pub owed-push : (all : List Sorted) (last : Sorted) → owed_in (all ++ last ∷ []) ≡ owed_in all ++ left_in last
owed-push [] last = append-nil (left_in last)
owed-push (one ∷ all) last = ap (λ x. left_in one ++ x) (owed-push all last) ∙ sym (append_assoc (left_in one) (owed_in all) (left_in last))

pub weights-append : (a b : List Rows) → weights (a ++ b) ≡ weights a + weights b
weights-append [] b = omega arith
weights-append (m ∷ a) b = omega (arith, weights-append a b)

pub owed_weight-push : (all : List Sorted) (last : Sorted) → owed_weight (all ++ last ∷ []) ≡ owed_weight all + 1 + weights (left_in last)
owed_weight-push [] last = omega arith
owed_weight-push (one ∷ all) last = omega (arith, owed_weight-push all last)

-- == Weights ==

pub weight_some : (n : ℕ) → 0 < weight n
unfolding weight
weight_some zero = omega arith
weight_some (suc n) = omega (arith, weight_some n)

weight_grows : (n k : ℕ) → weight n ≤ weight (k + n)
unfolding weight
weight_grows n zero = let e : 0 + n ≡ n = omega arith in subst (λ x. weight n ≤ weight x) (sym e) (omega arith)
weight_grows n (suc k) =
    let e : suc k + n ≡ suc (k + n) = omega arith in
    subst (λ x. weight n ≤ weight x) (sym e) (omega (arith, weight_grows n k))

weight_to : (m n : ℕ) → m ≤ n → weight m ≤ weight n
weight_to m n h =
    let e : (n - m) + m ≡ n = omega arith in
    subst (λ x. weight m ≤ weight x) e (weight_grows m (n - m))

-- rows that all have fewer patterns than this
abbrev pub AreBelow : ℕ → List Rows → Type 0
AreBelow n [] = Unit {0}
AreBelow n (m ∷ ms) = (rows_nodes m ≤ n) × AreBelow n ms

weights_below : (n : ℕ) (ms : List Rows) → AreBelow n ms → weights ms ≤ length ms * weight n
weights_below n [] h = omega arith
weights_below n (m ∷ ms) h =
    let first = weight_to (rows_nodes m) n h.0 in
    let others = weights_below n ms h.1 in
    let e : suc (length ms) * weight n ≡ length ms * weight n + weight n = grind arith in
    omega (arith, first, others, e)

pub weights_less : (n : ℕ) (ms : List Rows) → length ms < 2 ^ 64 → AreBelow n ms → 1 + weights ms < weight (suc n)
unfolding weight
weights_less n ms h below =
    let all = weights_below n ms below in
    let most : length ms * weight n ≤ 2 ^ 64 * weight n = mul-le (length ms) (weight n) (2 ^ 64) (weight n) (omega arith) (omega arith) in
    omega (arith, all, most, weight_some n)

-- == What stands for sorted rows ==

groups_below : (n : ℕ) (groups : List Rows) (shorter : Rows) → ((tag : ℕ) → tag < length groups → rows_nodes (get_or groups tag [] ++ shorter) ≤ n) → AreBelow n (left_of groups shorter)
groups_below n [] shorter h = tt
groups_below n (g ∷ groups) shorter h = (h 0 (omega arith), groups_below n groups shorter (λ tag lt. h (suc tag) (omega arith)))

all_at : (groups : List Rows) (shorter : Rows) (tag : ℕ) → tag < length groups → AllCover (left_of groups shorter) → Decides true (get_or groups tag [] ++ shorter)
all_at [] shorter tag lt h = absurd (omega arith)
all_at (g ∷ groups) shorter zero lt h = h.0
all_at (g ∷ groups) shorter (suc tag) lt h = all_at groups shorter tag (omega arith) h.1

some_at : (groups : List Rows) (shorter : Rows) → SomeFails (left_of groups shorter) → (tag : ℕ) × (tag < length groups) × Decides false (get_or groups tag [] ++ shorter)
some_at [] shorter h = absurd h
some_at (g ∷ groups) shorter (inl d) = (0, omega arith, d)
some_at (g ∷ groups) shorter (inr h) = let w = some_at groups shorter h in (suc w.0, (let lt : w.0 < length groups = w.1 in omega arith), w.2)

module _ (n : ℕ) (rows : Rows) (within : AreWithin (n + 1) rows) (reached : IsReached (n + 1) rows) (groups : List Rows) (shorter : Rows) (are : AreGroups n (reverse rows) groups) (count : length groups ≡ column_count n rows) (short : shorter ≡ shorter_rows n (reverse rows)) where
  group_left : (tag : ℕ) → tag < length groups → get_or groups tag [] ++ shorter ≡ group n tag (reverse rows) ++ shorter_rows n (reverse rows)
  group_left tag lt = ap (λ g. g ++ shorter) (are tag lt) ∙ ap (λ s. group n tag (reverse rows) ++ s) short

  all_stand : 0 < length groups → StandFor (rows ∷ []) (left_of groups shorter)
  all_stand some = record {
    covers = λ h. (answer_all n rows within reached (omega arith) (λ tag lt. subst (Decides true) (group_left tag (omega arith)) (all_at groups shorter tag (omega arith) h)), tt);
    fails = λ h. let w = some_at groups shorter h in
        let lt : w.0 < length groups = w.1 in
        inl (answer_uncovered n rows within reached w.0 (get_or groups w.0 [] ++ shorter) (omega arith) (group_left w.0 lt) w.2);
  }

  short_stands : HasMissing groups → StandFor (rows ∷ []) (left_of ([] ∷ []) shorter)
  short_stands (inl z) = record {
    covers = λ h. (answer_missing n rows within reached true shorter short h.0 (inl (omega arith)), tt);
    fails = λ h. elim h [
      | inl d ↦ inl (answer_missing n rows within reached false shorter short d (inl (omega arith)))
      | inr x ↦ absurd x
    ];
  }
  short_stands (inr w) =
      let lt : w.0 < length groups = w.1 in
      let none = sym (are w.0 lt) ∙ w.2 in
      record {
        covers = λ h. (answer_missing n rows within reached true shorter short h.0 (inr (w.0, omega arith, none)), tt);
        fails = λ h. elim h [
          | inl d ↦ inl (answer_missing n rows within reached false shorter short d (inr (w.0, omega arith, none)))
          | inr x ↦ absurd x
        ];
      }

  less_all : length groups < 2 ^ 64 → 1 + weights (left_of groups shorter) < weight (rows_nodes rows)
  less_all few =
      let less = shorter_less n rows within reached shorter short in
      let e : rows_nodes rows ≡ suc (rows_nodes rows - 1) = omega (arith, less) in
      subst (λ x. 1 + weights (left_of groups shorter) < weight x) (sym e)
      (weights_less (rows_nodes rows - 1) (left_of groups shorter) (subst (λ x. x < 2 ^ 64) (sym (length-map groups (λ g. g ++ shorter))) few)
      (groups_below (rows_nodes rows - 1) groups shorter (λ tag lt.
      let k = group_less n rows within reached tag (get_or groups tag [] ++ shorter) (group_left tag lt) in omega (arith, k))))

  less_short : 1 + weights (left_of ([] ∷ []) shorter) < weight (rows_nodes rows)
  less_short =
      let less = shorter_less n rows within reached shorter short in
      let e : rows_nodes rows ≡ suc (rows_nodes rows - 1) = omega (arith, less) in
      subst (λ x. 1 + weights (left_of ([] ∷ []) shorter) < weight x) (sym e)
      (weights_less (rows_nodes rows - 1) (left_of ([] ∷ []) shorter) (omega arith) (omega (arith, less), tt))

  pub fewer : (all needed : Sorted) → groups ≡ map plain_rows all.groups.items → shorter ≡ plain_rows all.shorter → IsNeeded all needed → AreFewer rows needed
  fewer all needed is_groups is_shorter (inl h) =
      let same : left_in needed ≡ left_of groups shorter =
      ap left_in h.0 ∙ ap (λ g. left_of g (plain_rows all.shorter)) (sym is_groups) ∙ ap (left_of groups) (sym is_shorter) in
      let size : length groups ≡ length all.groups.items = ap length is_groups ∙ length-map all.groups.items plain_rows in
      let some : 0 < length all.groups.items = h.1 in
      let few : length all.groups.items < 2 ^ 64 = h.2 in
      record {
        stand = subst (StandFor (rows ∷ [])) (sym same) (all_stand (omega arith));
        less = subst (λ x. 1 + weights x < weight (rows_nodes rows)) (sym same) (less_all (omega arith));
      }
  fewer all needed is_groups is_shorter (inr h) =
      let same : left_in needed ≡ left_of ([] ∷ []) shorter =
      ap (λ g. left_of (map plain_rows g) (plain_rows needed.shorter)) h.1 ∙ ap (λ s. left_of ([] ∷ []) (plain_rows s)) h.2 ∙ ap (left_of ([] ∷ [])) (sym is_shorter) in
      record {
        stand = subst (StandFor (rows ∷ [])) (sym same) (short_stands (subst HasMissing (sym is_groups) h.0));
        less = subst (λ x. 1 + weights x < weight (rows_nodes rows)) (sym same) less_short;
      }

-- == One step ==

-- the last group of these, and what is left without it
pub left-pop : (all left : Sorted) (group slice rows : List (List Pattern)) → all.groups.items ≡ left.groups.items ++ group ∷ [] → left.shorter ≡ all.shorter → rows ≡ group ++ slice → slice ≡ all.shorter → left_in all ≡ left_in left ++ plain_rows rows ∷ []
left-pop all left group slice rows e s is whole =
    ap (λ g. left_of (map plain_rows g) (plain_rows all.shorter)) e
    ∙ ap (λ g. left_of g (plain_rows all.shorter)) (map-append plain_rows left.groups.items (group ∷ []))
    ∙ left-append (map plain_rows left.groups.items) (plain_rows group ∷ []) (plain_rows all.shorter)
    ∙ ap (λ x. left_of (map plain_rows left.groups.items) (plain_rows x) ++ (plain_rows group ++ plain_rows all.shorter) ∷ []) (sym s)
    ∙ ap (λ x. left_in left ++ x ∷ []) (sym (ap plain_rows (is ∙ ap (λ x. group ++ x) whole) ∙ map-append plain_row group all.shorter))

-- nothing was owed
pub step_none : (before : List Sorted) (last : Sorted) → last.groups.items ≡ [] → IsStep before last before
step_none before last e =
    let none : left_in last ≡ [] = ap (λ g. left_of (map plain_rows g) (plain_rows last.shorter)) e in
    record {
      stand = subst (λ x. StandFor (owed_in before ++ x) (owed_in before)) (sym none) (subst (λ x. StandFor x (owed_in before)) (sym (append-nil (owed_in before))) (stand_same (owed_in before)));
      less = omega arith;
    }

-- what was owed is what was owed before, what is left of the last, and rows
owed_split : (before : List Sorted) (last left : Sorted) (rows : Rows) → left_in last ≡ left_in left ++ rows ∷ [] → owed_in before ++ left_in last ≡ owed_in (before ++ left ∷ []) ++ rows ∷ []
owed_split before last left rows e =
    ap (λ x. owed_in before ++ x) e ∙ sym (append_assoc (owed_in before) (left_in left) (rows ∷ [])) ∙ ap (λ x. x ++ rows ∷ []) (sym (owed-push before left))

weight_split : (last left : Sorted) (rows : Rows) → left_in last ≡ left_in left ++ rows ∷ [] → weights (left_in last) ≡ weights (left_in left) + weight (rows_nodes rows)
weight_split last left rows e = let a = ap weights e ∙ weights-append (left_in left) (rows ∷ []) in omega (arith, a)

pub step_covered : (before : List Sorted) (last left : Sorted) (rows : Rows) → left_in last ≡ left_in left ++ rows ∷ [] → Decides true rows → IsStep before last (before ++ left ∷ [])
step_covered before last left rows e d = record {
  stand = subst (λ x. StandFor x (owed_in (before ++ left ∷ []))) (sym (owed_split before last left rows e)) (stand_covered (owed_in (before ++ left ∷ [])) rows d);
  less = omega (arith, owed_weight-push before left, weight_split last left rows e, weight_some (rows_nodes rows));
}

pub step_fails : (before : List Sorted) (last left : Sorted) (rows : Rows) → left_in last ≡ left_in left ++ rows ∷ [] → Decides false rows → SomeFails (owed_in before ++ left_in last)
step_fails before last left rows e d =
    subst SomeFails (sym (owed_split before last left rows e)) (fails_last (owed_in (before ++ left ∷ [])) rows d)

pub step_fewer : (before : List Sorted) (last left fewer : Sorted) (rows : Rows) → left_in last ≡ left_in left ++ rows ∷ [] → AreFewer rows fewer → IsStep before last ((before ++ left ∷ []) ++ fewer ∷ [])
step_fewer before last left fewer rows e f = record {
  stand =
      subst (λ x. StandFor x (owed_in ((before ++ left ∷ []) ++ fewer ∷ []))) (sym (owed_split before last left rows e))
      (subst (StandFor (owed_in (before ++ left ∷ []) ++ rows ∷ [])) (sym (owed-push (before ++ left ∷ []) fewer)) (stand_behind (owed_in (before ++ left ∷ [])) (rows ∷ []) (left_in fewer) f.stand));
  less = omega (arith, owed_weight-push before left, owed_weight-push (before ++ left ∷ []) fewer, weight_split last left rows e, f.less);
}
