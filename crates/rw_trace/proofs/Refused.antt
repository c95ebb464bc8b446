-- Reading line by line finds the first refused line, or the bits of each.
use Rattle.std.proofs.Common.{◌≡◌, ◌≢◌, ◌∙◌, ℕ, suc, zero, ◌+◌, ◌<◌, List, [], ◌∷◌, take, length, get_or, Bool, Option, Some, None, Result, Ok, Err, refl, sym, ap, subst, arith}
use Rattle.rw_trace.specs.Traces.{line_read, read_before, lines_read, lines_of}
use Rattle.rw_trace.specs.Refused.{bytes_in, line_at, IsFirstRefused, AreRead, RefusedLaw, ReadLaw}

-- a line behind the first is one of the others
behind_first : (width number behind : ℕ) (line : List ℕ) (lines : List (List ℕ)) (before : ℕ) → line_at width number behind (line ∷ lines) (suc before) ≡ line_at width (number + 1) (behind + length line) lines before
behind_first width number behind line lines before =
    let n : number + suc before ≡ number + 1 + before = omega arith in
    let b : behind + (length line + bytes_in (take (suc before) lines)) ≡ behind + length line + bytes_in (take (suc before) lines) = omega arith in
    ap (λ x. line_read width x (behind + (length line + bytes_in (take (suc before) lines))) (get_or lines before [])) n
    ∙ ap (λ x. line_read width (number + 1 + before) x (get_or lines before [])) b

first_line : (width number behind : ℕ) (line : List ℕ) (lines : List (List ℕ)) → line_at width number behind (line ∷ lines) 0 ≡ line_read width number (behind + length line) line
first_line width number behind line lines =
    let n : number + 0 ≡ number = omega arith in
    let b : behind + (length line + 0) ≡ behind + length line = omega arith in
    ap (λ x. line_read width x (behind + (length line + 0)) line) n ∙ ap (λ x. line_read width number x line) b

-- == Where a line is refused ==

this_refused : (width number behind : ℕ) (line : List ℕ) (lines : List (List ℕ)) (refused : ℕ) → refused ≡ number → line_read width number (behind + length line) line ≡ None → IsFirstRefused width number behind (line ∷ lines) refused
this_refused width number behind line lines refused e none = record {
  before = 0;
  within = omega arith;
  numbered = omega (arith, e);
  this = first_line width number behind line lines ∙ none;
  earlier = λ other lt. absurd (omega arith);
}

not_first : (width number behind : ℕ) (line : List ℕ) (lines : List (List ℕ)) (bits : List Bool) (before : ℕ) → line_read width number (behind + length line) line ≡ Some bits
    → ((other : ℕ) → other < before → line_at width (number + 1) (behind + length line) lines other ≢ None) → (other : ℕ) → other < suc before → line_at width number behind (line ∷ lines) other ≢ None
not_first width number behind line lines bits before some f zero lt e = let k = sym some ∙ sym (first_line width number behind line lines) ∙ e in cc
not_first width number behind line lines bits before some f (suc other) lt e = f other (omega arith) (sym (behind_first width number behind line lines other) ∙ e)

later_refused : (width number behind : ℕ) (line : List ℕ) (lines : List (List ℕ)) (bits : List Bool) (refused : ℕ) → line_read width number (behind + length line) line ≡ Some bits
    → IsFirstRefused width (number + 1) (behind + length line) lines refused → IsFirstRefused width number behind (line ∷ lines) refused
later_refused width number behind line lines bits refused some r = record {
  before = suc r.before;
  within = (let h : r.before < length lines = r.within in omega arith);
  numbered = (let h : refused ≡ number + 1 + r.before = r.numbered in omega arith);
  this = behind_first width number behind line lines r.before ∙ r.this;
  earlier = not_first width number behind line lines bits r.before some r.earlier;
}

refused_at : (width number behind : ℕ) (line : List ℕ) (lines : List (List ℕ)) (refused : ℕ) (read : Option (List Bool)) (rest : Result (List (List Bool)) ℕ)
    → line_read width number (behind + length line) line ≡ read → lines_read width (number + 1) (behind + length line) lines ≡ rest
    → ((later : ℕ) → rest ≡ Err later → IsFirstRefused width (number + 1) (behind + length line) lines later)
    → read_before number read rest ≡ Err refused → IsFirstRefused width number behind (line ∷ lines) refused
refused_at width number behind line lines refused None rest e f g is = this_refused width number behind line lines refused (let k : Err number ≡ Err refused = is in cc) e
refused_at width number behind line lines refused (Some bits) (Ok read) e f g is = absurd (let k : Ok (bits ∷ read) ≡ Err refused = is in cc)
refused_at width number behind line lines refused (Some bits) (Err later) e f g is = later_refused width number behind line lines bits refused e (g refused is)

refused_in : (width number behind : ℕ) (lines : List (List ℕ)) (refused : ℕ) → lines_read width number behind lines ≡ Err refused → IsFirstRefused width number behind lines refused
refused_in width number behind [] refused is = absurd (let k : Ok [] ≡ Err refused = is in cc)
refused_in width number behind (line ∷ lines) refused is =
    refused_at width number behind line lines refused (line_read width number (behind + length line) line) (lines_read width (number + 1) (behind + length line) lines) refl refl
    (λ later e. refused_in width (number + 1) (behind + length line) lines later e) is

-- and back
some_first : (number : ℕ) (read : Option (List Bool)) (rest : Result (List (List Bool)) ℕ) (refused : ℕ) → read ≢ None → rest ≡ Err refused → read_before number read rest ≡ Err refused
some_first number None rest refused not e = absurd (not refl)
some_first number (Some bits) rest refused not e = ap (read_before number (Some bits)) e

refused_from : (width number behind : ℕ) (lines : List (List ℕ)) (before refused : ℕ) → before < length lines → refused ≡ number + before → line_at width number behind lines before ≡ None
    → ((other : ℕ) → other < before → line_at width number behind lines other ≢ None) → lines_read width number behind lines ≡ Err refused
refused_from width number behind [] before refused lt e none f = absurd (omega arith)
refused_from width number behind (line ∷ lines) zero refused lt e none f =
    ap (λ r. read_before number r (lines_read width (number + 1) (behind + length line) lines)) (sym (first_line width number behind line lines) ∙ none)
    ∙ ap Err (omega (arith, e))
refused_from width number behind (line ∷ lines) (suc before) refused lt e none f =
    some_first number (line_read width number (behind + length line) line) (lines_read width (number + 1) (behind + length line) lines) refused
    (λ z. f 0 (omega arith) (first_line width number behind line lines ∙ z))
    (refused_from width (number + 1) (behind + length line) lines before refused (omega arith) (omega (arith, e)) (sym (behind_first width number behind line lines before) ∙ none)
    (λ other less z. f (suc other) (omega arith) (behind_first width number behind line lines other ∙ z)))

-- == Where each line is read ==

each_more : (width number behind : ℕ) (line : List ℕ) (lines : List (List ℕ)) (bits : List Bool) (read : List (List Bool)) → line_read width number (behind + length line) line ≡ Some bits
    → ((before : ℕ) → before < length lines → line_at width (number + 1) (behind + length line) lines before ≡ Some (get_or read before []))
    → (before : ℕ) → before < length (line ∷ lines) → line_at width number behind (line ∷ lines) before ≡ Some (get_or (bits ∷ read) before [])
each_more width number behind line lines bits read some f zero lt = first_line width number behind line lines ∙ some
each_more width number behind line lines bits read some f (suc before) lt = behind_first width number behind line lines before ∙ f before (omega arith)

all_at : (width number behind : ℕ) (line : List ℕ) (lines : List (List ℕ)) (all : List (List Bool)) (read : Option (List Bool)) (rest : Result (List (List Bool)) ℕ)
    → line_read width number (behind + length line) line ≡ read
    → ((others : List (List Bool)) → rest ≡ Ok others → AreRead width (number + 1) (behind + length line) lines others)
    → read_before number read rest ≡ Ok all → AreRead width number behind (line ∷ lines) all
all_at width number behind line lines all None rest e g is = absurd (let k : Err number ≡ Ok all = is in cc)
all_at width number behind line lines all (Some bits) (Err later) e g is = absurd (let k : Err later ≡ Ok all = is in cc)
all_at width number behind line lines all (Some bits) (Ok others) e g is =
    let r = g others refl in
    let same : bits ∷ others ≡ all = (let k : Ok (bits ∷ others) ≡ Ok all = is in cc) in
    subst (AreRead width number behind (line ∷ lines)) same (record { count = ap suc r.count; each = each_more width number behind line lines bits others e r.each })

all_read : (width number behind : ℕ) (lines : List (List ℕ)) (read : List (List Bool)) → lines_read width number behind lines ≡ Ok read → AreRead width number behind lines read
all_read width number behind [] read is =
    let same : [] ≡ read = (let k : Ok [] ≡ Ok read = is in cc) in
    subst (AreRead width number behind []) same (record { count = refl; each = λ before lt. absurd (omega arith) })
all_read width number behind (line ∷ lines) read is =
    all_at width number behind line lines read (line_read width number (behind + length line) line) (lines_read width (number + 1) (behind + length line) lines) refl
    (λ others e. all_read width (number + 1) (behind + length line) lines others e) is

read_from : (width number behind : ℕ) (lines : List (List ℕ)) (read : List (List Bool)) → length read ≡ length lines
    → ((before : ℕ) → before < length lines → line_at width number behind lines before ≡ Some (get_or read before [])) → lines_read width number behind lines ≡ Ok read
read_from width number behind [] [] e f = refl
read_from width number behind [] (bits ∷ read) e f = absurd (omega arith)
read_from width number behind (line ∷ lines) [] e f = absurd (omega arith)
read_from width number behind (line ∷ lines) (bits ∷ read) e f =
    ap (λ r. read_before number r (lines_read width (number + 1) (behind + length line) lines)) (sym (first_line width number behind line lines) ∙ f 0 (omega arith))
    ∙ ap (read_before number (Some bits))
    (read_from width (number + 1) (behind + length line) lines read (omega arith)
    (λ before lt. sym (behind_first width number behind line lines before) ∙ f (suc before) (omega arith)))

pub refused_law : RefusedLaw
refused_law width bytes refused = (
  (λ e. refused_in width 1 0 (lines_of bytes) refused e),
  (λ r. refused_from width 1 0 (lines_of bytes) r.before refused r.within r.numbered r.this r.earlier),
)

pub read_law : ReadLaw
read_law width bytes read =
    ((λ e. all_read width 1 0 (lines_of bytes) read e), (λ r. read_from width 1 0 (lines_of bytes) read r.count r.each))
