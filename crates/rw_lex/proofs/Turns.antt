-- One turn of the scan.
use Rattle.std.proofs.Common.{◌≡◌, ℕ, ◌<◌, List, [], ◌∷◌, ◌++◌, length, take, drop, Option, Some, None, Result, Ok, Err, refl, sym, ap, ◌∙◌, subst, arith, append_assoc, append-nil}
use Rattle.rw_base.specs.declared.place.Place.{Place}
use Rattle.rw_base.specs.Answers.{Fail}
use Rattle.rw_base.specs.declared.fail.Failure.TheVariants as fail
use Rattle.rw_base.specs.declared.fail.Refusal.{Refusal}
use Rattle.rw_lex.specs.declared.token.Token.{Token}
use Rattle.rw_lex.specs.declared.piece.Piece.{Piece}
use Rattle.rw_lex.specs.declared.piece.Piece.TheVariants as p
use Rattle.rw_base.specs.Answers.{Answers}
use Rattle.rw_lex.specs.Scan.{piece_at, len_of, place_from, tokens_of, last_line, refusal_of, in_front, unless, tokens_from, FailsBy}
use Rattle.rw_lex.proofs.Longest.{Stands, longest_there}
use Rattle.rw_lex.proofs.Sources.{next, tokens_next, tokens_end}

in_front_again : (before more : List Token) (r : Result (List Token) Refusal) → in_front (before ++ more) r ≡ in_front before (in_front more r)
in_front_again before more (Ok tokens) = ap Ok (append_assoc before more tokens)
in_front_again before more (Err refusal) = refl

-- the tokens of a piece and what follows it, where it breaks no rule
goes_on : (piece : Piece) (at : Place) (line : ℕ) (bytes : List ℕ) → 0 < length bytes → piece ≡ piece_at bytes → refusal_of piece at ≡ None
    → in_front (tokens_of piece (take (len_of piece) bytes) at line) (tokens_from (place_from at (take (len_of piece) bytes)) (last_line piece at line) (drop (len_of piece) bytes)) ≡ tokens_from at line bytes
goes_on piece at line bytes some e none =
    let after = in_front (tokens_of piece (take (len_of piece) bytes) at line) (tokens_from (place_from at (take (len_of piece) bytes)) (last_line piece at line) (drop (len_of piece) bytes)) in
    sym (tokens_next at line bytes some ∙ ap (λ z. next tokens_from z at line bytes) (sym e) ∙ ap (λ z. unless z after) none)

pub turn_on : (piece : Piece) (at next_at : Place) (line next_line : ℕ) (bytes text behind : List ℕ) (before tokens : List Token) → 0 < length bytes → piece ≡ piece_at bytes → refusal_of piece at ≡ None
    → text ≡ take (len_of piece) bytes → behind ≡ drop (len_of piece) bytes → tokens ≡ before ++ tokens_of piece text at line → next_at ≡ place_from at text → next_line ≡ last_line piece at line
    → in_front tokens (tokens_from next_at next_line behind) ≡ in_front before (tokens_from at line bytes)
turn_on piece at next_at line next_line bytes text behind before tokens some e none t b g h l =
    ap (λ z. in_front z (tokens_from next_at next_line behind)) g
    ∙ ap (λ z. in_front (before ++ tokens_of piece text at line) (tokens_from z next_line behind)) h
    ∙ ap (λ z. in_front (before ++ tokens_of piece text at line) (tokens_from (place_from at text) z behind)) l
    ∙ ap (λ z. in_front (before ++ tokens_of piece z at line) (tokens_from (place_from at z) (last_line piece at line) behind)) t
    ∙ ap (λ z. in_front (before ++ tokens_of piece (take (len_of piece) bytes) at line) (tokens_from (place_from at (take (len_of piece) bytes)) (last_line piece at line) z)) b
    ∙ in_front_again before (tokens_of piece (take (len_of piece) bytes) at line) (tokens_from (place_from at (take (len_of piece) bytes)) (last_line piece at line) (drop (len_of piece) bytes))
    ∙ ap (in_front before) (goes_on piece at line bytes some e none)

pub turn_fails : (piece : Piece) (at : Place) (line : ℕ) (bytes : List ℕ) (before : List Token) (refusal : Refusal) → 0 < length bytes → piece ≡ piece_at bytes → refusal_of piece at ≡ Some refusal
    → in_front before (tokens_from at line bytes) ≡ Err refusal
turn_fails piece at line bytes before refusal some e h =
    let after = in_front (tokens_of piece (take (len_of piece) bytes) at line) (tokens_from (place_from at (take (len_of piece) bytes)) (last_line piece at line) (drop (len_of piece) bytes)) in
    ap (in_front before) (tokens_next at line bytes some ∙ ap (λ z. next tokens_from z at line bytes) (sym e) ∙ ap (λ z. unless z after) h)

some_there : (bytes : List ℕ) (piece : Piece) (at : Place) → Stands bytes piece → refusal_of piece at ≡ None → 0 < len_of piece
some_there bytes (p.Gap n) at t e = t.0
some_there bytes (p.Token kind n) at t e = t.0
some_there bytes p.Unclosed at t e = absurd (cc)
some_there bytes p.Nothing at t e = absurd (cc)

pub turn_some : (piece : Piece) (at : Place) (bytes : List ℕ) → 0 < length bytes → piece ≡ piece_at bytes → refusal_of piece at ≡ None → 0 < len_of piece
turn_some piece at [] some e none = absurd (omega arith)
turn_some piece at (b ∷ bs) some e none = some_there (b ∷ bs) piece at (subst (Stands (b ∷ bs)) (sym e) (longest_there b bs)) none

pub turn_end : (at : Place) (line : ℕ) (bytes : List ℕ) (before : List Token) → length bytes ≡ 0 → in_front before (tokens_from at line bytes) ≡ Ok before
turn_end at line [] before e = ap (in_front before) (tokens_end at line) ∙ ap Ok (append-nil before)
turn_end at line (b ∷ bs) before e = absurd (omega arith)

-- a call that refuses makes the whole refuse
pub fails_on : {X : Type 0} (view : X → List Token) (e : Fail) (by : Option Refusal) (found : Result (List Token) Refusal) → FailsBy (Err e) by → ((refusal : Refusal) → by ≡ Some refusal → found ≡ Err refusal) → Answers view (Err e) found
fails_on view (fail.Refused refusal) by found f h = h refusal f
fails_on view fail.OutOfMemory by found f h = tt
