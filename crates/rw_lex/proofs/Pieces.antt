-- The piece that bytes begin with, said by runs that can't be made longer, is found, and nothing else is.
use Rattle.std.proofs.Common.{◌≡◌, ◌≢◌, ℕ, ◌+◌, ◌<◌, true, false, cond, ◌||◌, nat_eq, List, [], ◌∷◌, ◌++◌, length, take, drop, Option, Some, None, refl, sym, ap, ◌∙◌, subst, arith, append_assoc, length-append, ◌⊎◌, inl, inr}
use Rattle.std.proofs.Math.Seq.{take-append_seam, drop-append_seam, take-add}
use Rattle.std.proofs.lemmas.List.{take-append-drop, drop-drop}
use Rattle.std.specs.List.{prefix_len}
use Rattle.rw_lex.specs.declared.bytes.Class.{Class}
use Rattle.rw_lex.specs.declared.bytes.Class.TheVariants as class
use Rattle.rw_lex.specs.declared.bytes.Run.{Run}
use Rattle.rw_lex.specs.declared.bytes.Run.TheVariants as run
use Rattle.rw_lex.specs.declared.token.TokenKind.{TokenKind}
use Rattle.rw_lex.specs.declared.token.TokenKind.TheVariants as kind
use Rattle.rw_lex.specs.declared.piece.Piece.{Piece}
use Rattle.rw_lex.specs.declared.piece.Piece.TheVariants as p
use Rattle.rw_lex.specs.Bytes.{class_of, is_letter_class, is_word_class, is_digit_class, is_symbol_class, is_in}
use Rattle.rw_lex.specs.Tokens.{Closes, is_dashes, begins_word, word_kind, ClosesNever}
use Rattle.rw_lex.specs.Scan.{begins_comment, closing_len, commented, special_at, symbols_at, word_at, piece_of, piece_at}
use Rattle.rw_lex.proofs.Tools.{both, same_number, take_one, drop_one}
use Rattle.rw_lex.proofs.Runs.{IsRun, run_again, run_there}
use Rattle.rw_lex.proofs.Comments.{closes_again, closes_there}

-- a gap (no kind) or a token that can't be made longer before this rest
pub data IsMaximal : Option TokenKind → List ℕ → List ℕ → Type 0 where
  a_white : (b : ℕ) (rest : List ℕ) → class_of b ≡ class.White → IsMaximal None (b ∷ []) rest
  a_line_comment : (dashes line rest : List ℕ) → is_dashes dashes ≡ true → IsRun run.Symbols dashes (line ++ rest) → IsRun run.Line line rest → IsMaximal None (dashes ++ line) rest
  a_block_comment : (inside rest : List ℕ) → Closes 1 inside → IsMaximal None (123 ∷ 45 ∷ inside) rest
  a_word : (piece rest : List ℕ) → begins_word piece ≡ true → IsRun run.Word piece rest → IsMaximal (Some (word_kind piece)) piece rest
  a_number : (piece rest : List ℕ) → piece ≢ [] → IsRun run.Digits piece rest → IsMaximal (Some kind.Number) piece rest
  an_operator : (piece rest : List ℕ) → piece ≢ [] → is_dashes piece ≡ false → IsRun run.Symbols piece rest → IsMaximal (Some kind.Operator) piece rest
  a_special : (b : ℕ) (rest : List ℕ) → class_of b ≡ class.Special → begins_comment (b ∷ rest) ≡ false → IsMaximal (Some kind.Special) (b ∷ []) rest

-- ---- classes
pub letter_class : (c : Class) → is_letter_class c ≡ true → (c ≡ class.Small) ⊎ (c ≡ class.Capital)
letter_class class.Small e = inl refl
letter_class class.Capital e = inr refl
letter_class c e = absurd (cc)

pub digit_class : (c : Class) → is_digit_class c ≡ true → c ≡ class.Digit
digit_class class.Digit e = refl
digit_class c e = absurd (cc)

pub symbol_class : (c : Class) → is_symbol_class c ≡ true → c ≡ class.Symbol
symbol_class class.Symbol e = refl
symbol_class c e = absurd (cc)

-- ---- what is a piece is found

-- a piece of this kind and length
abbrev pub sized : Option TokenKind → ℕ → Piece
sized None n = p.Gap n
sized (Some kind) n = p.Token kind n

pub class_again : (c : Class) (b : ℕ) (bs : List ℕ) → class_of b ≡ c → piece_at (b ∷ bs) ≡ piece_of c (b ∷ bs)
unfolding piece_at
class_again c b bs e = ap (λ z. piece_of z (b ∷ bs)) e

word_again : (piece rest : List ℕ) → IsRun run.Word piece rest → word_at (prefix_len (is_in run.Word) (piece ++ rest)) (piece ++ rest) ≡ p.Token (word_kind piece) (length piece)
unfolding word_at
word_again piece rest r =
    ap (λ n. p.Token (word_kind (take n (piece ++ rest))) n) (run_again run.Word piece rest r) ∙ ap (λ z. p.Token (word_kind z) (length piece)) (take-append_seam piece rest)

symbols_again : (piece rest : List ℕ) → IsRun run.Symbols piece rest
    → symbols_at (prefix_len (is_in run.Symbols) (piece ++ rest)) (piece ++ rest) ≡ cond (is_dashes piece) (p.Gap (length piece + prefix_len (is_in run.Line) rest)) (p.Token kind.Operator (length piece))
unfolding symbols_at
symbols_again piece rest r =
    ap (λ n. symbols_at n (piece ++ rest)) (run_again run.Symbols piece rest r)
    ∙ ap (λ z. cond (is_dashes z) (p.Gap (length piece + prefix_len (is_in run.Line) (drop (length piece) (piece ++ rest)))) (p.Token kind.Operator (length piece))) (take-append_seam piece rest)
    ∙ ap (λ z. cond (is_dashes piece) (p.Gap (length piece + prefix_len (is_in run.Line) z)) (p.Token kind.Operator (length piece))) (drop-append_seam piece rest)

comment_again : (inside rest : List ℕ) → Closes 1 inside → special_at (123 ∷ 45 ∷ (inside ++ rest)) ≡ p.Gap (length inside + 2)
unfolding special_at
comment_again inside rest d = ap commented (closes_again d rest)

special_again : (b : ℕ) (rest : List ℕ) → begins_comment (b ∷ rest) ≡ false → special_at (b ∷ rest) ≡ p.Token kind.Special 1
unfolding special_at
special_again b rest e = ap (λ z. cond z (commented (closing_len 1 0 (drop 2 (b ∷ rest)))) (p.Token kind.Special 1)) e

words_again : (piece rest : List ℕ) → begins_word piece ≡ true → IsRun run.Word piece rest → piece_at (piece ++ rest) ≡ p.Token (word_kind piece) (length piece)
words_again [] rest e r = absurd (cc)
words_again (b ∷ piece) rest e r =
    elim (letter_class (class_of b) e) [
      | inl c ↦ class_again class.Small b (piece ++ rest) c ∙ word_again (b ∷ piece) rest r
      | inr c ↦ class_again class.Capital b (piece ++ rest) c ∙ word_again (b ∷ piece) rest r
    ]

number_again : (piece rest : List ℕ) → piece ≢ [] → IsRun run.Digits piece rest → piece_at (piece ++ rest) ≡ p.Token kind.Number (length piece)
number_again [] rest e r = absurd (e refl)
number_again (b ∷ piece) rest e r =
    class_again class.Digit b (piece ++ rest) (digit_class (class_of b) (both (is_in run.Digits b) _ r.all).0) ∙ ap (p.Token kind.Number) (run_again run.Digits (b ∷ piece) rest r)

pub symbol_again : (piece rest : List ℕ) → piece ≢ [] → IsRun run.Symbols piece rest
    → piece_at (piece ++ rest) ≡ cond (is_dashes piece) (p.Gap (length piece + prefix_len (is_in run.Line) rest)) (p.Token kind.Operator (length piece))
symbol_again [] rest e r = absurd (e refl)
symbol_again (b ∷ piece) rest e r = class_again class.Symbol b (piece ++ rest) (symbol_class (class_of b) (both (is_in run.Symbols b) _ r.all).0) ∙ symbols_again (b ∷ piece) rest r

pub dashes_some : (piece : List ℕ) → is_dashes piece ≡ true → piece ≢ []
dashes_some [] e = absurd (cc)
dashes_some (b ∷ piece) e = λ h. cc

line_again : (dashes line rest : List ℕ) → is_dashes dashes ≡ true → IsRun run.Symbols dashes (line ++ rest) → IsRun run.Line line rest → piece_at ((dashes ++ line) ++ rest) ≡ p.Gap (length (dashes ++ line))
line_again dashes line rest d r l =
    ap piece_at (append_assoc dashes line rest)
    ∙ symbol_again dashes (line ++ rest) (dashes_some dashes d) r
    ∙ ap (λ z. cond z (p.Gap (length dashes + prefix_len (is_in run.Line) (line ++ rest))) (p.Token kind.Operator (length dashes))) d
    ∙ ap (λ z. p.Gap (length dashes + z)) (run_again run.Line line rest l)
    ∙ ap p.Gap (sym (length-append dashes line))

pub piece_again : {kind : Option TokenKind} {piece rest : List ℕ} → IsMaximal kind piece rest → piece_at (piece ++ rest) ≡ sized kind (length piece)
piece_again (a_white b rest e) = class_again class.White b rest e
piece_again (a_line_comment dashes line rest d r l) = line_again dashes line rest d r l
piece_again (a_block_comment inside rest d) = class_again class.Special 123 (45 ∷ (inside ++ rest)) refl ∙ comment_again inside rest d ∙ ap p.Gap (omega arith)
piece_again (a_word piece rest e r) = words_again piece rest e r
piece_again (a_number piece rest e r) = number_again piece rest e r
piece_again (an_operator piece rest e d r) = symbol_again piece rest e r ∙ ap (λ z. cond z (p.Gap (length piece + prefix_len (is_in run.Line) rest)) (p.Token kind.Operator (length piece))) d
piece_again (a_special b rest e n) = class_again class.Special b rest e ∙ special_again b rest n

-- ---- what is found is a piece
abbrev pub There : List ℕ → Piece → Type 0
There bytes (p.Gap n) = (0 < n) × IsMaximal None (take n bytes) (drop n bytes)
There bytes (p.Token kind n) = (0 < n) × IsMaximal (Some kind) (take n bytes) (drop n bytes)
There bytes p.Unclosed = (rest : List ℕ) × (bytes ≡ 123 ∷ 45 ∷ rest) × ClosesNever rest
There bytes p.Nothing = Unit {0}

-- a run that the first byte is of has that byte
record Begun (kind : Run) (b : ℕ) (bs : List ℕ) : Type 0 where
  some : 0 < prefix_len (is_in kind) (b ∷ bs)
  first : take (prefix_len (is_in kind) (b ∷ bs)) (b ∷ bs) ≡ b ∷ take (prefix_len (is_in kind) bs) bs

begun : (kind : Run) (b : ℕ) (bs : List ℕ) → is_in kind b ≡ true → Begun kind b bs
begun kind b bs e =
    let n : prefix_len (is_in kind) (b ∷ bs) ≡ 1 + prefix_len (is_in kind) bs = ap (λ v. cond v (1 + prefix_len (is_in kind) bs) 0) e in
    record { some = omega arith; first = ap (λ z. take z (b ∷ bs)) n ∙ take_one b (prefix_len (is_in kind) bs) bs }

word_there : (b : ℕ) (bs : List ℕ) → is_letter_class (class_of b) ≡ true → is_in run.Word b ≡ true → There (b ∷ bs) (word_at (prefix_len (is_in run.Word) (b ∷ bs)) (b ∷ bs))
unfolding word_at
word_there b bs l e =
    let g = begun run.Word b bs e in
    let begins : begins_word (take (prefix_len (is_in run.Word) (b ∷ bs)) (b ∷ bs)) ≡ true = ap begins_word g.first ∙ l in
    (g.some, a_word _ _ begins (run_there run.Word (b ∷ bs)))

not_empty : (b : ℕ) (bs cs : List ℕ) → cs ≡ b ∷ bs → cs ≢ []
not_empty b bs cs e h = let f : b ∷ bs ≡ [] = sym e ∙ h in absurd (cc)

number_there : (b : ℕ) (bs : List ℕ) → is_in run.Digits b ≡ true → There (b ∷ bs) (p.Token kind.Number (prefix_len (is_in run.Digits) (b ∷ bs)))
number_there b bs e = let g = begun run.Digits b bs e in (g.some, a_number _ _ (not_empty b _ _ g.first) (run_there run.Digits (b ∷ bs)))

comment_there : (n m : ℕ) (bytes : List ℕ) → is_dashes (take n bytes) ≡ true → IsRun run.Symbols (take n bytes) (drop n bytes) → IsRun run.Line (take m (drop n bytes)) (drop m (drop n bytes))
    → IsMaximal None (take (n + m) bytes) (drop (n + m) bytes)
comment_there n m bytes d r l =
    let joined : drop n bytes ≡ take m (drop n bytes) ++ drop m (drop n bytes) = sym (take-append-drop m (drop n bytes)) in
    let piece : take n bytes ++ take m (drop n bytes) ≡ take (n + m) bytes = sym (take-add n m bytes) in
    let rest : drop m (drop n bytes) ≡ drop (n + m) bytes = drop-drop m n bytes in
    subst (λ z. IsMaximal None z (drop (n + m) bytes)) piece
    (subst (λ z. IsMaximal None (take n bytes ++ take m (drop n bytes)) z) rest
    (a_line_comment (take n bytes) (take m (drop n bytes)) (drop m (drop n bytes)) d (subst (λ z. IsRun run.Symbols (take n bytes) z) joined r) l))

symbols_there : (b : ℕ) (bs : List ℕ) → is_in run.Symbols b ≡ true → There (b ∷ bs) (symbols_at (prefix_len (is_in run.Symbols) (b ∷ bs)) (b ∷ bs))
unfolding symbols_at
symbols_there b bs e =
    let g = begun run.Symbols b bs e in
    let n = prefix_len (is_in run.Symbols) (b ∷ bs) in
    let m = prefix_len (is_in run.Line) (drop n (b ∷ bs)) in
    let r = run_there run.Symbols (b ∷ bs) in
    elim (is_dashes (take n (b ∷ bs))) as (λ v. v ≡ is_dashes (take n (b ∷ bs)) → There (b ∷ bs) (cond v (p.Gap (n + m)) (p.Token kind.Operator n))) [
      | true ↦ (λ d. (omega (arith, g.some), comment_there n m (b ∷ bs) (sym d) r (run_there run.Line (drop n (b ∷ bs)))))
      | false ↦ (λ d. (g.some, an_operator _ _ (not_empty b _ _ g.first) (sym d) r))
    ] refl

never : (rest : List ℕ) → closing_len 1 0 rest ≡ None → ClosesNever rest
never rest e inside later d h = let f : Some (length inside) ≡ None = sym (closes_again d later) ∙ ap (closing_len 1 0) h ∙ e in absurd (cc)

commented_there : (rest : List ℕ) → There (123 ∷ 45 ∷ rest) (commented (closing_len 1 0 rest))
commented_there rest = elim (closing_len 1 0 rest) as (λ v. v ≡ closing_len 1 0 rest → There (123 ∷ 45 ∷ rest) (commented v)) [
  | None ↦ (λ e. (rest, refl, never rest (sym e)))
  | Some n ↦ (λ e. let two : n + 2 ≡ 1 + (1 + n) = omega arith in
      let piece : take (n + 2) (123 ∷ 45 ∷ rest) ≡ 123 ∷ 45 ∷ take n rest = ap (λ z. take z (123 ∷ 45 ∷ rest)) two ∙ take_one 123 (1 + n) (45 ∷ rest) ∙ ap (λ z. 123 ∷ z) (take_one 45 n rest) in
      let behind : drop (n + 2) (123 ∷ 45 ∷ rest) ≡ drop n rest = ap (λ z. drop z (123 ∷ 45 ∷ rest)) two ∙ drop_one 123 (1 + n) (45 ∷ rest) ∙ drop_one 45 n rest in
      (omega arith, subst (λ z. IsMaximal None z (drop (n + 2) (123 ∷ 45 ∷ rest))) (sym piece) (subst (λ z. IsMaximal None (123 ∷ 45 ∷ take n rest) z) (sym behind) (a_block_comment (take n rest) (drop n rest) (closes_there rest n (sym e))))))
] refl

opened : (b : ℕ) (bs : List ℕ) → begins_comment (b ∷ bs) ≡ true → b ∷ bs ≡ 123 ∷ 45 ∷ drop 1 bs
opened b [] e = absurd (cc)
opened b (c ∷ bs) e =
    let k = both (nat_eq b 123) (nat_eq c 45) e in
    let f : b ≡ 123 = same_number b 123 k.0 in
    let g : c ≡ 45 = same_number c 45 k.1 in
    cc

special_there : (b : ℕ) (bs : List ℕ) → class_of b ≡ class.Special → There (b ∷ bs) (special_at (b ∷ bs))
unfolding special_at
special_there b bs s =
    elim (begins_comment (b ∷ bs)) as (λ v. v ≡ begins_comment (b ∷ bs) → There (b ∷ bs) (cond v (commented (closing_len 1 0 (drop 2 (b ∷ bs)))) (p.Token kind.Special 1))) [
      | true ↦ (λ e. subst (λ z. There z (commented (closing_len 1 0 (drop 2 z)))) (sym (opened b bs (sym e))) (commented_there (drop 1 bs)))
      | false ↦ (λ e. (omega arith, a_special b bs s (sym e)))
    ] refl

there_in : (c : Class) (b : ℕ) (bs : List ℕ) → class_of b ≡ c → There (b ∷ bs) (piece_of c (b ∷ bs))
there_in class.White b bs e = (omega arith, a_white b bs e)
there_in class.Small b bs e = word_there b bs (ap is_letter_class e) (ap (λ z. is_word_class z || nat_eq b 39) e)
there_in class.Capital b bs e = word_there b bs (ap is_letter_class e) (ap (λ z. is_word_class z || nat_eq b 39) e)
there_in class.Digit b bs e = number_there b bs (ap is_digit_class e)
there_in class.Symbol b bs e = symbols_there b bs (ap is_symbol_class e)
there_in class.Special b bs e = special_there b bs e
there_in class.Other b bs e = tt

pub piece_there : (b : ℕ) (bs : List ℕ) → There (b ∷ bs) (piece_at (b ∷ bs))
unfolding piece_at
piece_there b bs = there_in (class_of b) b bs refl

-- ---- a comment that never closes is found
not_found : (rest : List ℕ) (found : Option ℕ) → closing_len 1 0 rest ≡ found → ClosesNever rest → commented found ≡ p.Unclosed
not_found rest None e never = refl
not_found rest (Some n) e never = absurd (never (take n rest) (drop n rest) (closes_there rest n e) (take-append-drop n rest))

open_again : (rest : List ℕ) → ClosesNever rest → special_at (123 ∷ 45 ∷ rest) ≡ p.Unclosed
unfolding special_at
open_again rest never = not_found rest (closing_len 1 0 rest) refl never

pub unclosed_again : (rest : List ℕ) → ClosesNever rest → piece_at (123 ∷ 45 ∷ rest) ≡ p.Unclosed
unclosed_again rest never = class_again class.Special 123 (45 ∷ rest) refl ∙ open_again rest never

-- ---- tools
pub list_some : (piece : List ℕ) → piece ≢ [] → 0 < length piece
list_some [] e = absurd (e refl)
list_some (b ∷ piece) e = omega arith
