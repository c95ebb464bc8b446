-- Lines cut at the first LF.
use Rattle.std.proofs.Common.{◌≡◌, ℕ, zero, suc, ◌+◌, ◌<◌, List, [], ◌∷◌, ◌++◌, take, drop, length, get_or, Bool, true, false, not, ◌&&◌, nat_eq, refl, ap, sym, ◌∙◌, Some, None, Result, Ok, Err, arith}
use Rattle.std.proofs.lemmas.Grind.{common_steps}
use Rattle.std.specs.List.{list_all}
use Rattle.rw_trace.specs.Traces.{lines_of, lines_read, line_read, begins_line, read_before}

and_left : (a b : Bool) → (a && b) ≡ true → a ≡ true
and_left true b e = refl
and_left false b e = e

and_right : (a b : Bool) → (a && b) ≡ true → b ≡ true
and_right true b e = e
and_right false b e = grind (arith, common_steps)

both_true : (a b : Bool) → a ≡ true → b ≡ true → (a && b) ≡ true
both_true true b e f = f
both_true false b e f = e

-- lines that were read, before those that are still to be read
abbrev pub read_behind : List (List Bool) → Result (List (List Bool)) ℕ → Result (List (List Bool)) ℕ
read_behind done (Ok lines) = Ok (done ++ lines)
read_behind done (Err number) = Err number

-- no LF is among these
abbrev pub no_end : List ℕ → Bool
no_end bytes = list_all (λ b. not (nat_eq b 10)) bytes

-- a line that ends with its LF, and what follows
pub lines_of_line : (line rest : List ℕ) → no_end line ≡ true → lines_of (line ++ (10 ∷ rest)) ≡ (line ++ (10 ∷ [])) ∷ lines_of rest
lines_of_line [] rest none = refl
lines_of_line (b ∷ bs) rest none = grind (arith, common_steps, lines_of_line bs rest)

-- a line that ends with the text
pub lines_of_last : (b : ℕ) (bs : List ℕ) → no_end (b ∷ bs) ≡ true → lines_of (b ∷ bs) ≡ (b ∷ bs) ∷ []
lines_of_last b [] none = grind (arith, common_steps)
lines_of_last b (c ∷ cs) none = grind (arith, common_steps, lines_of_last c cs)

-- a line that is its LF alone
at_once : (b : ℕ) (bs : List ℕ) → b ≡ 10 → lines_of (b ∷ bs) ≡ (b ∷ []) ∷ lines_of bs
at_once b bs is = rw is refl

-- cut behind the first byte
takes_one : (b : ℕ) (bs : List ℕ) (at : ℕ) → take (suc at + 1) (b ∷ bs) ≡ b ∷ take (at + 1) bs
takes_one b bs at = grind (arith, common_steps)

drops_one : (b : ℕ) (bs : List ℕ) (at : ℕ) → drop (suc at + 1) (b ∷ bs) ≡ drop (at + 1) bs
drops_one b bs at = grind (arith, common_steps)

-- a byte that is no LF begins the first line
begins : (b : ℕ) (bs : List ℕ) → not (nat_eq b 10) ≡ true → lines_of (b ∷ bs) ≡ begins_line b (lines_of bs)
begins b bs other = grind (arith, common_steps)

-- the first line ends at the first LF
pub cut_at : (bytes : List ℕ) (at : ℕ) → at < length bytes → get_or bytes at 0 ≡ 10 → no_end (take at bytes) ≡ true → lines_of bytes ≡ take (at + 1) bytes ∷ lines_of (drop (at + 1) bytes)
cut_at [] at within is none = absurd (grind (arith, common_steps))
cut_at (b ∷ bs) zero within is none = at_once b bs is
cut_at (b ∷ bs) (suc at) within is none =
    let inner : at < length bs = omega (arith, within) in
    let rest : lines_of bs ≡ take (at + 1) bs ∷ lines_of (drop (at + 1) bs) = cut_at bs at inner is (and_right _ _ none) in
    begins b bs (and_left _ _ none) ∙ ap (begins_line b) rest ∙ sym (ap (λ x. x ∷ lines_of (drop (suc at + 1) (b ∷ bs))) (takes_one b bs at) ∙ ap (λ x. (b ∷ take (at + 1) bs) ∷ lines_of x) (drops_one b bs at))

-- no LF is among the bytes so far, and none is the next byte
pub none_further : (bytes : List ℕ) (at : ℕ) → at < length bytes → (get_or bytes at 0 ≡ 10 → ⊥) → no_end (take at bytes) ≡ true → no_end (take (at + 1) bytes) ≡ true
none_further [] at within not_there none = absurd (grind (arith, common_steps))
none_further (b ∷ bs) zero within not_there none = grind (arith, common_steps)
none_further (b ∷ bs) (suc at) within not_there none =
    let inner : at < length bs = omega (arith, within) in
    ap no_end (takes_one b bs at) ∙ both_true _ _ (and_left _ _ none) (none_further bs at inner not_there (and_right _ _ none))

-- a text without LF is one line
pub one_line : (bytes : List ℕ) → (bytes ≡ [] → ⊥) → no_end bytes ≡ true → lines_of bytes ≡ bytes ∷ []
one_line [] some none = absurd (some refl)
one_line (b ∷ bs) some none = lines_of_last b bs none

-- no LF was found up to the end
pub one_line_at : (bytes : List ℕ) (at : ℕ) → (bytes ≡ [] → ⊥) → at ≡ length bytes → no_end (take at bytes) ≡ true → lines_of bytes ≡ take (length bytes) bytes ∷ lines_of (drop (length bytes) bytes)
one_line_at bytes at some end none =
    let whole : take at bytes ≡ bytes = grind (arith, common_steps) in
    let kept : no_end bytes ≡ true = ap no_end (sym whole) ∙ none in
    let one : lines_of bytes ≡ bytes ∷ [] = one_line bytes some kept in
    grind (arith, common_steps, one)

read_behind_one : (done : List (List Bool)) (bits : List Bool) (rest : Result (List (List Bool)) ℕ) (number : ℕ) →
    read_behind (done ++ (bits ∷ [])) rest ≡ read_behind done (read_before number (Some bits) rest)
read_behind_one done bits (Ok lines) number = grind (arith, common_steps)
read_behind_one done bits (Err later) number = refl

-- one line more was read
pub line_more : (done : List (List Bool)) (bits : List Bool) (width number behind last : ℕ) (line rest later : List ℕ) → lines_of rest ≡ line ∷ lines_of later →
    last ≡ behind + length line → line_read width number last line ≡ Some bits →
    read_behind (done ++ (bits ∷ [])) (lines_read width (number + 1) last (lines_of later)) ≡ read_behind done (lines_read width number behind (lines_of rest))
line_more done bits width number behind last line rest later cut end read =
    read_behind_one done bits (lines_read width (number + 1) last (lines_of later)) number
    ∙ sym (ap (λ ls. read_behind done (lines_read width number behind ls)) cut
    ∙ ap (λ e. read_behind done (read_before number (line_read width number e line) (lines_read width (number + 1) e (lines_of later)))) (sym end)
    ∙ ap (λ r. read_behind done (read_before number r (lines_read width (number + 1) last (lines_of later)))) read)

-- a line that is refused
pub line_refused : (done : List (List Bool)) (width number behind last : ℕ) (line rest later : List ℕ) → lines_of rest ≡ line ∷ lines_of later →
    last ≡ behind + length line → line_read width number last line ≡ None → read_behind done (lines_read width number behind (lines_of rest)) ≡ Err number
line_refused done width number behind last line rest later cut end read =
    ap (λ ls. read_behind done (lines_read width number behind ls)) cut
    ∙ ap (λ e. read_behind done (read_before number (line_read width number e line) (lines_read width (number + 1) e (lines_of later)))) (sym end)
    ∙ ap (λ r. read_behind done (read_before number r (lines_read width (number + 1) last (lines_of later)))) read
