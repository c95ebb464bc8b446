-- The longest piece that starts at a byte is found, and nothing else is.
use Rattle.std.proofs.Common.{◌≡◌, ◌≢◌, ℕ, ◌+◌, ◌-◌, ◌<◌, ◌≤◌, min, true, false, cond, ◌&&◌, nat_eq, nat_lt, List, [], ◌∷◌, ◌++◌, length, take, drop, Option, Some, None, refl, sym, ap, ◌∙◌, subst, arith, append_assoc, append-nil, length-append, length-take, length-drop, inl, inr}
use Rattle.std.proofs.Math.Seq.{take-append_seam}
use Rattle.std.proofs.lemmas.List.{take-append-drop, take-append-le}
use Rattle.std.proofs.lemmas.List.Sums.{prefix_len-le-length}
use Rattle.std.proofs.lemmas.Bool.Decides.{nat_tests}
use Rattle.std.specs.List.{prefix_len, list_all}
use Rattle.rw_lex.specs.declared.bytes.Class.{Class}
use Rattle.rw_lex.specs.declared.bytes.Class.TheVariants as class
use Rattle.rw_lex.specs.declared.bytes.Run.TheVariants as run
use Rattle.rw_lex.specs.declared.token.TokenKind.{TokenKind}
use Rattle.rw_lex.specs.declared.token.TokenKind.TheVariants as kind
use Rattle.rw_lex.specs.declared.piece.Piece.{Piece}
use Rattle.rw_lex.specs.declared.piece.Piece.TheVariants as p
use Rattle.rw_lex.specs.Bytes.{class_of, is_in, is_run, stops}
use Rattle.rw_lex.specs.Tokens.{opens, closes, Closes, ClosesNever, is_dashes, begins_word, word_kind, Sort, gap, token, unclosed, IsPiece, white, line_comment, block_comment, open_comment, word, number, operator, special, IsLongest, StartsNoPiece}
use Rattle.rw_lex.specs.Scan.{begins_comment, closing_len, commented, len_of, special_at, symbols_at, word_at, piece_of, piece_at}
use Rattle.rw_lex.proofs.Tools.{both, same_number, chosen, some_is, further_some}
use Rattle.rw_lex.proofs.Runs.{run_within}
use Rattle.rw_lex.proofs.Comments.{closes_there}
use Rattle.rw_lex.proofs.Pieces.{IsMaximal, a_white, a_line_comment, a_block_comment, a_word, a_number, an_operator, a_special, There, class_again, letter_class, digit_class, symbol_class, symbol_again, dashes_some, list_some, piece_again, piece_there, unclosed_again}

-- ---- dashes are symbols
all_dashes : (piece : List ℕ) → list_all (nat_eq 45) piece ≡ true → is_run run.Symbols piece ≡ true
all_dashes [] e = refl
all_dashes (b ∷ piece) e =
    let k = both (nat_eq 45 b) (list_all (nat_eq 45) piece) e in
    let f : 45 ≡ b = same_number 45 b k.0 in
    let s : is_in run.Symbols b ≡ true = subst (λ z. is_in run.Symbols z ≡ true) f refl in
    ap (λ z. z && is_run run.Symbols piece) s ∙ all_dashes piece k.1

dashes_run : (piece : List ℕ) → is_dashes piece ≡ true → is_run run.Symbols piece ≡ true
dashes_run piece e = all_dashes piece (both (list_all (nat_eq 45) piece) _ e).0

-- ---- a piece alone is found
-- what is found for a piece of this sort and length
abbrev pub sorted : Sort → ℕ → Piece
sorted gap n = p.Gap n
sorted (token kind) n = p.Token kind n
sorted unclosed n = p.Unclosed

alone : (sort : Sort) (piece : List ℕ) → piece_at (piece ++ []) ≡ sorted sort (length piece) → piece_at piece ≡ sorted sort (length piece)
alone sort piece e = sym (ap piece_at (append-nil piece)) ∙ e

line_alone : (dashes line : List ℕ) → stops run.Symbols line ≡ true → stops run.Symbols (line ++ []) ≡ true
line_alone dashes line e = ap (stops run.Symbols) (append-nil line) ∙ e

piece_alone : {sort : Sort} {piece : List ℕ} → IsPiece sort piece → piece_at piece ≡ sorted sort (length piece)
piece_alone (white b e) = alone gap (b ∷ []) (piece_again (a_white b [] e))
piece_alone (line_comment dashes line d s l) =
    alone gap (dashes ++ line) (piece_again (a_line_comment dashes line [] d (record { all = (dashes_run dashes d); stop = line_alone dashes line s }) (record { all = l; stop = refl })))
piece_alone (block_comment inside d) = alone gap (123 ∷ 45 ∷ inside) (piece_again (a_block_comment inside [] d))
piece_alone (open_comment inside never) = unclosed_again inside never
piece_alone (word piece b w) = alone (token (word_kind piece)) piece (piece_again (a_word piece [] b (record { all = w; stop = refl })))
piece_alone (number piece e w) = alone (token kind.Number) piece (piece_again (a_number piece [] e (record { all = w; stop = refl })))
piece_alone (operator piece e w d) = alone (token kind.Operator) piece (piece_again (an_operator piece [] e d (record { all = w; stop = refl })))
piece_alone (special b e) = alone (token kind.Special) (b ∷ []) (piece_again (a_special b [] e refl))

-- ---- no piece goes further than what is found

-- how far what is found goes
abbrev reach : Piece → List ℕ → ℕ
reach (p.Gap n) bytes = n
reach (p.Token kind n) bytes = n
reach p.Unclosed bytes = length bytes
reach p.Nothing bytes = 0

reach_by : (n : ℕ) (bytes : List ℕ) (found : Piece) → piece_at bytes ≡ found → n ≤ reach found bytes → n ≤ reach (piece_at bytes) bytes
reach_by n bytes found e h = subst (λ z. n ≤ reach z bytes) (sym e) h

symbols_reach : (n : ℕ) (bytes : List ℕ) → n ≤ reach (symbols_at n bytes) bytes
unfolding symbols_at
symbols_reach n bytes = elim (is_dashes (take n bytes)) as (λ v. n ≤ reach (cond v (p.Gap (n + prefix_len (is_in run.Line) (drop n bytes))) (p.Token kind.Operator n)) bytes) [ true ↦ omega arith | false ↦ omega arith ]

symbol_reach : (piece more : List ℕ) → piece ≢ [] → is_run run.Symbols piece ≡ true → length piece ≤ reach (piece_at (piece ++ more)) (piece ++ more)
symbol_reach [] more e w = absurd (e refl)
symbol_reach (b ∷ piece) more e w =
    let n = prefix_len (is_in run.Symbols) (b ∷ (piece ++ more)) in
    let f = run_within run.Symbols (b ∷ piece) more w in
    let g = symbols_reach n (b ∷ (piece ++ more)) in
    reach_by (length (b ∷ piece)) (b ∷ (piece ++ more)) (symbols_at n (b ∷ (piece ++ more))) (class_again class.Symbol b (piece ++ more) (symbol_class (class_of b) (both (is_in run.Symbols b) _ w).0)) (le_trans _ n _ f g)
  where
    le_trans : (a b c : ℕ) → a ≤ b → b ≤ c → a ≤ c
    le_trans a b c h g = omega arith

word_reach : (piece more : List ℕ) → begins_word piece ≡ true → is_run run.Word piece ≡ true → length piece ≤ reach (piece_at (piece ++ more)) (piece ++ more)
unfolding word_at
word_reach [] more e w = absurd (cc)
word_reach (b ∷ piece) more e w =
    let n = prefix_len (is_in run.Word) (b ∷ (piece ++ more)) in
    let f = run_within run.Word (b ∷ piece) more w in
    elim (letter_class (class_of b) e) [
      | inl c ↦ reach_by (length (b ∷ piece)) (b ∷ (piece ++ more)) (word_at n (b ∷ (piece ++ more))) (class_again class.Small b (piece ++ more) c) f
      | inr c ↦ reach_by (length (b ∷ piece)) (b ∷ (piece ++ more)) (word_at n (b ∷ (piece ++ more))) (class_again class.Capital b (piece ++ more) c) f
    ]

number_reach : (piece more : List ℕ) → piece ≢ [] → is_run run.Digits piece ≡ true → length piece ≤ reach (piece_at (piece ++ more)) (piece ++ more)
number_reach [] more e w = absurd (e refl)
number_reach (b ∷ piece) more e w =
    reach_by (length (b ∷ piece)) (b ∷ (piece ++ more)) (p.Token kind.Number (prefix_len (is_in run.Digits) (b ∷ (piece ++ more)))) (class_again class.Digit b (piece ++ more) (digit_class (class_of b) (both (is_in run.Digits b) _ w).0))
    (run_within run.Digits (b ∷ piece) more w)

line_reach : (dashes line more : List ℕ) → is_dashes dashes ≡ true → is_run run.Symbols dashes ≡ true → stops run.Symbols line ≡ true → is_run run.Line line ≡ true
    → length (dashes ++ line) ≤ reach (piece_at (dashes ++ (line ++ more))) (dashes ++ (line ++ more))
line_reach dashes [] more d w s l = let f = symbol_reach dashes more (dashes_some dashes d) w in subst (λ z. length z ≤ reach (piece_at (dashes ++ more)) (dashes ++ more)) (sym (append-nil dashes)) f
line_reach dashes (c ∷ line) more d w s l =
    let f = run_within run.Line (c ∷ line) more l in
    let found : piece_at (dashes ++ (c ∷ (line ++ more))) ≡ p.Gap (length dashes + prefix_len (is_in run.Line) (c ∷ (line ++ more))) =
    symbol_again dashes (c ∷ (line ++ more)) (dashes_some dashes d) (record { all = w; stop = s }) ∙ ap (λ z. cond z (p.Gap (length dashes + prefix_len (is_in run.Line) (c ∷ (line ++ more)))) (p.Token kind.Operator (length dashes))) d in
    reach_by (length (dashes ++ (c ∷ line))) (dashes ++ (c ∷ (line ++ more))) _ found (omega (arith, length-append dashes (c ∷ line), f))

-- a comment that never closes isn't closed within its own bytes
never_within : (inside more : List ℕ) (n : ℕ) → ClosesNever inside → closing_len 1 0 (inside ++ more) ≡ Some n → length inside < n
never_within inside more n never e =
    elim (nat_lt (length inside) n) as (λ v. v ≡ nat_lt (length inside) n → length inside < n) [
      | true ↦ (λ h. let k : nat_lt (length inside) n ≡ true = sym h in grind (arith, nat_tests))
      | false ↦ (λ h. let k : nat_lt (length inside) n ≡ false = sym h in
          let within : n ≤ length inside = grind (arith, nat_tests) in
          let same : take n (inside ++ more) ≡ take n inside = take-append-le n inside more within in
          absurd (never (take n inside) (drop n inside) (subst (Closes 1) same (closes_there (inside ++ more) n e)) (take-append-drop n inside)))
    ] refl

open_reach : (inside more : List ℕ) (found : Option ℕ) → ClosesNever inside → closing_len 1 0 (inside ++ more) ≡ found → length (123 ∷ 45 ∷ inside) ≤ reach (commented found) (123 ∷ 45 ∷ (inside ++ more))
open_reach inside more None never e = omega (arith, length-append inside more)
open_reach inside more (Some n) never e = let f = never_within inside more n never e in omega arith

special_reach : (b : ℕ) (more : List ℕ) → 1 ≤ reach (special_at (b ∷ more)) (b ∷ more)
unfolding special_at
special_reach b more =
    elim (begins_comment (b ∷ more)) as (λ v. 1 ≤ reach (cond v (commented (closing_len 1 0 (drop 2 (b ∷ more)))) (p.Token kind.Special 1)) (b ∷ more)) [
      | true ↦ elim (closing_len 1 0 (drop 2 (b ∷ more))) as (λ f. 1 ≤ reach (commented f) (b ∷ more)) [ None ↦ omega arith | Some n ↦ omega arith ]
      | false ↦ omega arith
    ]

open_found : (inside more : List ℕ) → ClosesNever inside → length (123 ∷ 45 ∷ inside) ≤ reach (special_at (123 ∷ 45 ∷ (inside ++ more))) (123 ∷ 45 ∷ (inside ++ more))
unfolding special_at
open_found inside more never = open_reach inside more (closing_len 1 0 (inside ++ more)) never refl

reaches : {sort : Sort} {piece : List ℕ} → IsPiece sort piece → (more : List ℕ) → length piece ≤ reach (piece_at (piece ++ more)) (piece ++ more)
reaches (white b e) more = reach_by 1 (b ∷ more) (p.Gap 1) (class_again class.White b more e) (omega arith)
reaches (line_comment dashes line d s l) more =
    subst (λ z. length (dashes ++ line) ≤ reach (piece_at z) z) (sym (append_assoc dashes line more)) (line_reach dashes line more d (dashes_run dashes d) s l)
reaches (block_comment inside d) more = reach_by _ (123 ∷ 45 ∷ (inside ++ more)) _ (piece_again (a_block_comment inside more d)) (omega arith)
reaches (open_comment inside never) more = reach_by _ (123 ∷ 45 ∷ (inside ++ more)) _ (class_again class.Special 123 (45 ∷ (inside ++ more)) refl) (open_found inside more never)
reaches (word piece b w) more = word_reach piece more b w
reaches (number piece e w) more = number_reach piece more e w
reaches (operator piece e w d) more = symbol_reach piece more e w
reaches (special b e) more = reach_by 1 (b ∷ more) _ (class_again class.Special b more e) (special_reach b more)

-- ---- what is found lies within the bytes
closing_within : (bs : List ℕ) (n before k : ℕ) → closing_len n before bs ≡ Some k → k ≤ length bs
unfolding closing_len
closing_within [] n before k e = absurd (cc e)
closing_within (b ∷ bs) n before k e =
    elim (chosen (opens before b) _ _ _ e) [
      | inl o ↦ let f = further_some 1 k (closing_len (n + 1) 0 bs) o.1 in let h = closing_within bs (n + 1) 0 f.0 f.1 in omega (arith, f.2)
      | inr o ↦ elim (chosen (closes before b) _ _ _ o.1) [
        | inl c ↦ elim (chosen (nat_eq n 1) _ _ _ c.1) [
          | inl l ↦ omega (arith, some_is 1 k l.1)
          | inr l ↦ let f = further_some 1 k (closing_len (n - 1) 0 bs) l.1 in let h = closing_within bs (n - 1) 0 f.0 f.1 in omega (arith, f.2)
        ]
        | inr c ↦ let f = further_some 1 k (closing_len n b bs) c.1 in let h = closing_within bs n b f.0 f.1 in omega (arith, f.2)
      ]
    ]

commented_within : (bytes inside : List ℕ) (found : Option ℕ) → closing_len 1 0 inside ≡ found → length inside + 2 ≤ length bytes → len_of (commented found) ≤ length bytes
commented_within bytes inside None e h = omega arith
commented_within bytes inside (Some n) e h = let f = closing_within inside 1 0 n e in omega arith

begun_long : (b : ℕ) (bs : List ℕ) → begins_comment (b ∷ bs) ≡ true → length (drop 2 (b ∷ bs)) + 2 ≤ length (b ∷ bs)
begun_long b [] e = absurd (cc)
begun_long b (c ∷ bs) e = omega arith

special_within : (b : ℕ) (bs : List ℕ) → len_of (special_at (b ∷ bs)) ≤ length (b ∷ bs)
unfolding special_at
special_within b bs =
    elim (begins_comment (b ∷ bs)) as (λ v. v ≡ begins_comment (b ∷ bs) → len_of (cond v (commented (closing_len 1 0 (drop 2 (b ∷ bs)))) (p.Token kind.Special 1)) ≤ length (b ∷ bs)) [
      | true ↦ (λ e. commented_within (b ∷ bs) (drop 2 (b ∷ bs)) (closing_len 1 0 (drop 2 (b ∷ bs))) refl (begun_long b bs (sym e)))
      | false ↦ (λ e. omega arith)
    ] refl

symbols_within : (n : ℕ) (bytes : List ℕ) → n ≤ length bytes → len_of (symbols_at n bytes) ≤ length bytes
unfolding symbols_at
symbols_within n bytes h =
    let f = prefix_len-le-length (is_in run.Line) (drop n bytes) in
    elim (is_dashes (take n bytes)) as (λ v. len_of (cond v (p.Gap (n + prefix_len (is_in run.Line) (drop n bytes))) (p.Token kind.Operator n)) ≤ length bytes) [ true ↦ omega (arith, f, length-drop n bytes) | false ↦ h ]

within_class : (c : Class) (b : ℕ) (bs : List ℕ) → len_of (piece_of c (b ∷ bs)) ≤ length (b ∷ bs)
unfolding word_at
within_class class.White b bs = omega arith
within_class class.Small b bs = prefix_len-le-length (is_in run.Word) (b ∷ bs)
within_class class.Capital b bs = prefix_len-le-length (is_in run.Word) (b ∷ bs)
within_class class.Digit b bs = prefix_len-le-length (is_in run.Digits) (b ∷ bs)
within_class class.Symbol b bs = symbols_within (prefix_len (is_in run.Symbols) (b ∷ bs)) (b ∷ bs) (prefix_len-le-length (is_in run.Symbols) (b ∷ bs))
within_class class.Special b bs = special_within b bs
within_class class.Other b bs = omega arith

piece_within : (bytes : List ℕ) → len_of (piece_at bytes) ≤ length bytes
unfolding piece_at
piece_within [] = omega arith
piece_within (b ∷ bs) = within_class (class_of b) b bs

-- ---- what is found is the longest piece
abbrev sort_of : Option TokenKind → Sort
sort_of None = gap
sort_of (Some kind) = token kind

line_stops : (line rest : List ℕ) → stops run.Symbols (line ++ rest) ≡ true → stops run.Symbols line ≡ true
line_stops [] rest e = refl
line_stops (c ∷ line) rest e = e

maximal_piece : {kind : Option TokenKind} {piece rest : List ℕ} → IsMaximal kind piece rest → IsPiece (sort_of kind) piece
maximal_piece (a_white b rest e) = white b e
maximal_piece (a_line_comment dashes line rest d r l) = line_comment dashes line d (line_stops line rest r.stop) l.all
maximal_piece (a_block_comment inside rest d) = block_comment inside d
maximal_piece (a_word piece rest b r) = word piece b r.all
maximal_piece (a_number piece rest e r) = number piece e r.all
maximal_piece (an_operator piece rest e d r) = operator piece e r.all d
maximal_piece (a_special b rest e n) = special b e

word_full : (piece : List ℕ) → begins_word piece ≡ true → 0 < length piece
word_full [] e = absurd (cc)
word_full (b ∷ piece) e = omega arith

pub piece_full : {sort : Sort} {piece : List ℕ} → IsPiece sort piece → 0 < length piece
piece_full (white b e) = omega arith
piece_full (line_comment dashes line d s l) = let some = list_some dashes (dashes_some dashes d) in omega (arith, length-append dashes line)
piece_full (block_comment inside d) = omega arith
piece_full (open_comment inside never) = omega arith
piece_full (word piece b w) = word_full piece b
piece_full (number piece e w) = list_some piece e
piece_full (operator piece e w d) = list_some piece e
piece_full (special b e) = omega arith

-- how long a piece at the front of these bytes can be
record Limit (bytes : List ℕ) (found : Piece) (piece : List ℕ) : Type 0 where
  reached : length piece ≤ reach found bytes
  within : length piece ≤ length bytes

limit : (bytes : List ℕ) (found : Piece) → piece_at bytes ≡ found → (other : Sort) (piece more : List ℕ) → IsPiece other piece → piece ++ more ≡ bytes → Limit bytes found piece
limit bytes found e other piece more d h =
    let r : length piece ≤ reach (piece_at bytes) bytes = subst (λ z. length piece ≤ reach (piece_at z) z) h (reaches d more) in
    let w : length piece + length more ≡ length bytes = sym (length-append piece more) ∙ ap length h in
    record { reached = subst (λ z. length piece ≤ reach z bytes) e r; within = omega arith }

-- what these bytes begin with
abbrev pub Stands : List ℕ → Piece → Type 0
Stands bytes (p.Gap n) = (0 < n) × IsLongest gap (take n bytes) (drop n bytes)
Stands bytes (p.Token kind n) = (0 < n) × IsLongest (token kind) (take n bytes) (drop n bytes)
Stands bytes p.Unclosed = IsLongest unclosed bytes []
Stands bytes p.Nothing = StartsNoPiece bytes

taken_longest : (n : ℕ) (bytes : List ℕ) (found : Piece) (sort : Sort) → piece_at bytes ≡ found → reach found bytes ≡ n → IsPiece sort (take n bytes) → IsLongest sort (take n bytes) (drop n bytes)
taken_longest n bytes found sort e r d = record {
  is = d;
  longest = λ other piece more f h.
      let l = limit bytes found e other piece more f (h ∙ take-append-drop n bytes) in
      let t = length-take n bytes in
      omega (arith, l.reached, l.within, r, t);
}

stands : (bytes : List ℕ) (found : Piece) → piece_at bytes ≡ found → There bytes found → Stands bytes found
stands bytes (p.Gap n) e t = (t.0, taken_longest n bytes (p.Gap n) gap e refl (maximal_piece t.1))
stands bytes (p.Token kind n) e t = (t.0, taken_longest n bytes (p.Token kind n) (token kind) e refl (maximal_piece t.1))
stands bytes p.Unclosed e t = record {
  is = subst (IsPiece unclosed) (sym t.1) (open_comment t.0 t.2);
  longest = λ other piece more f h. (limit bytes p.Unclosed e other piece more f (h ∙ append-nil bytes)).within;
}
stands bytes p.Nothing e t = λ sort piece rest d h. let l = (limit bytes p.Nothing e sort piece rest d h).reached in let f = piece_full d in absurd (omega arith)

pub longest_there : (b : ℕ) (bs : List ℕ) → Stands (b ∷ bs) (piece_at (b ∷ bs))
longest_there b bs = stands (b ∷ bs) (piece_at (b ∷ bs)) refl (piece_there b bs)

-- ---- the longest piece is found
full_stands : (bytes : List ℕ) → 0 < length bytes → Stands bytes (piece_at bytes)
full_stands [] e = absurd (omega arith)
full_stands (b ∷ bs) e = longest_there b bs

-- two longest pieces at one place are one
taken_again : (n : ℕ) (found : Piece) (one sort : Sort) (piece rest : List ℕ) → piece_at (piece ++ rest) ≡ found → reach found (piece ++ rest) ≡ n → len_of found ≡ n → IsPiece one (take n (piece ++ rest)) → IsLongest sort piece rest
    → sorted one n ≡ sorted sort (length piece)
taken_again n found one sort piece rest e r m d l =
    let bytes = piece ++ rest in
    let low : length (take n bytes) ≤ length piece = l.longest one (take n bytes) (drop n bytes) d (take-append-drop n bytes) in
    let lim = limit bytes found e sort piece rest l.is refl in
    let within : len_of found ≤ length bytes = subst (λ z. len_of z ≤ length bytes) e (piece_within bytes) in
    let t : length (take n bytes) ≡ min n (length bytes) = length-take n bytes in
    let same : n ≡ length piece = omega (arith, lim.reached, r, m, t) in
    let text : take n bytes ≡ piece = ap (λ z. take z bytes) same ∙ take-append_seam piece rest in
    ap (sorted one) (same ∙ ap length (sym text)) ∙ sym (piece_alone d) ∙ ap piece_at text ∙ piece_alone l.is

no_rest : (piece rest : List ℕ) → length (piece ++ rest) ≤ length piece → piece ++ rest ≡ piece
no_rest piece [] h = append-nil piece
no_rest piece (b ∷ rest) h = absurd (omega (arith, length-append piece (b ∷ rest)))

found_again : (found : Piece) (sort : Sort) (piece rest : List ℕ) → piece_at (piece ++ rest) ≡ found → Stands (piece ++ rest) found → IsLongest sort piece rest → found ≡ sorted sort (length piece)
found_again (p.Gap n) sort piece rest e s l = taken_again n (p.Gap n) gap sort piece rest e refl refl s.1.is l
found_again (p.Token kind n) sort piece rest e s l = taken_again n (p.Token kind n) (token kind) sort piece rest e refl refl s.1.is l
found_again p.Unclosed sort piece rest e s l =
    let low = l.longest unclosed (piece ++ rest) [] s.is (append-nil (piece ++ rest)) in
    sym e ∙ ap piece_at (no_rest piece rest low) ∙ piece_alone l.is
found_again p.Nothing sort piece rest e s l = absurd (s sort piece rest l.is refl)

pub longest_again : {sort : Sort} {piece rest : List ℕ} → IsLongest sort piece rest → piece_at (piece ++ rest) ≡ sorted sort (length piece)
longest_again {sort = sort} {piece = piece} {rest = rest} l =
    let some = piece_full l.is in
    found_again (piece_at (piece ++ rest)) sort piece rest refl (full_stands (piece ++ rest) (omega (arith, length-append piece rest))) l

none_found : (bytes : List ℕ) (found : Piece) → Stands bytes found → StartsNoPiece bytes → found ≡ p.Nothing
none_found bytes (p.Gap n) t s = absurd (s gap (take n bytes) (drop n bytes) t.1.is (take-append-drop n bytes))
none_found bytes (p.Token kind n) t s = absurd (s (token kind) (take n bytes) (drop n bytes) t.1.is (take-append-drop n bytes))
none_found bytes p.Unclosed t s = absurd (s unclosed bytes [] t.is (append-nil bytes))
none_found bytes p.Nothing t s = refl

-- where no piece starts, none is found
pub nothing_again : (b : ℕ) (rest : List ℕ) → StartsNoPiece (b ∷ rest) → piece_at (b ∷ rest) ≡ p.Nothing
nothing_again b rest s = none_found (b ∷ rest) (piece_at (b ∷ rest)) (longest_there b rest) s
