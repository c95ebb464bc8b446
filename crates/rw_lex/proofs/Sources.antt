-- The tokens of a source, or the rule that it breaks, are found, and nothing else is.
use Rattle.std.proofs.Common.{◌≡◌, ℕ, zero, suc, ◌<◌, ◌≤◌, List, [], ◌∷◌, ◌++◌, length, take, drop, Result, Ok, Err, refl, sym, ap, ◌∙◌, subst, arith, length-append, length-drop, append-nil}
use Rattle.std.proofs.Math.Seq.{take-append_seam, drop-append_seam}
use Rattle.std.proofs.lemmas.List.{take-append-drop}
use Rattle.std.proofs.lemmas.List.Sums.{fold-append}
use Rattle.rw_base.specs.declared.place.Place.{Place}
use Rattle.rw_base.specs.declared.fail.Refusal.{Refusal}
use Rattle.rw_base.specs.Places.{next_line, next_column, place_after}
use Rattle.rw_lex.specs.declared.token.TokenKind.{TokenKind}
use Rattle.rw_lex.specs.declared.token.Token.{Token}
use Rattle.rw_lex.specs.declared.piece.Piece.{Piece}
use Rattle.rw_lex.specs.declared.piece.Piece.TheVariants as p
use Rattle.rw_lex.specs.Tokens.{gap, token, IsLongest, token_of, IsTokensBehind, the_end, a_gap, a_token, BreaksBehind, not_a_token, not_closed, after_gap, after_token}
use Rattle.rw_lex.specs.Scan.{piece_at, len_of, place_from, tokens_of, last_line, refusal_of, in_front, unless, tokens_within, tokens_from}
use Rattle.rw_lex.proofs.Longest.{Stands, longest_again, longest_there, nothing_again, piece_full}

-- what a piece at the front gives, where the bytes behind it are read by `more`
abbrev pub next : (Place → ℕ → List ℕ → Result (List Token) Refusal) → Piece → Place → ℕ → List ℕ → Result (List Token) Refusal
next more piece at line bytes =
    unless (refusal_of piece at) (in_front (tokens_of piece (take (len_of piece) bytes) at line) (more (place_from at (take (len_of piece) bytes)) (last_line piece at line) (drop (len_of piece) bytes)))

next_same : (more other : Place → ℕ → List ℕ → Result (List Token) Refusal) (piece : Piece) (at : Place) (line : ℕ) (bytes : List ℕ) → Stands bytes piece
    → ((k : ℕ) (at : Place) (line : ℕ) → 0 < k → more at line (drop k bytes) ≡ other at line (drop k bytes)) → next more piece at line bytes ≡ next other piece at line bytes
next_same more other (p.Gap k) at line bytes t h = ap (in_front []) (h k (place_from at (take k bytes)) line t.0)
next_same more other (p.Token kind k) at line bytes t h = ap (in_front (token_of kind (take k bytes) at line ∷ [])) (h k (place_from at (take k bytes)) at.line t.0)
next_same more other p.Unclosed at line bytes t h = refl
next_same more other p.Nothing at line bytes t h = refl

-- a number that is large enough tells nothing
within_same : (n m : ℕ) (at : Place) (line : ℕ) (bytes : List ℕ) → length bytes ≤ n → length bytes ≤ m → tokens_within n at line bytes ≡ tokens_within m at line bytes
unfolding tokens_within
within_same zero zero at line [] h g = refl
within_same zero (suc m) at line [] h g = refl
within_same (suc n) zero at line [] h g = refl
within_same (suc n) (suc m) at line [] h g = refl
within_same zero m at line (b ∷ bs) h g = absurd (omega arith)
within_same (suc n) zero at line (b ∷ bs) h g = absurd (omega arith)
within_same (suc n) (suc m) at line (b ∷ bs) h g =
    next_same (tokens_within n) (tokens_within m) (piece_at (b ∷ bs)) at line (b ∷ bs) (longest_there b bs)
    (λ k at line some. within_same n m at line (drop k (b ∷ bs)) (omega (arith, length-drop k (b ∷ bs))) (omega (arith, length-drop k (b ∷ bs))))

-- the tokens are those of the first piece and those of what follows it
pub tokens_next : (at : Place) (line : ℕ) (bytes : List ℕ) → 0 < length bytes → tokens_from at line bytes ≡ next tokens_from (piece_at bytes) at line bytes
unfolding tokens_within tokens_from
tokens_next at line [] some = absurd (omega arith)
tokens_next at line (b ∷ bs) some =
    next_same (tokens_within (length bs)) tokens_from (piece_at (b ∷ bs)) at line (b ∷ bs) (longest_there b bs)
    (λ k at line some. within_same (length bs) (length (drop k (b ∷ bs))) at line (drop k (b ∷ bs)) (omega (arith, length-drop k (b ∷ bs))) (omega arith))

pub tokens_end : (at : Place) (line : ℕ) → tokens_from at line [] ≡ Ok []
unfolding tokens_within tokens_from
tokens_end at line = refl

place_joined : (front piece : List ℕ) → place_from (place_after front) piece ≡ place_after (front ++ piece)
place_joined front piece = rw (fold-append next_line 1 front piece, fold-append next_column 1 front piece)

-- ---- what is a token list, or breaks a rule, is found
gap_again : (front piece rest : List ℕ) (line : ℕ) → IsLongest gap piece rest → tokens_from (place_after front) line (piece ++ rest) ≡ in_front [] (tokens_from (place_after (front ++ piece)) line rest)
gap_again front piece rest line d =
    let some = piece_full d.is in
    tokens_next (place_after front) line (piece ++ rest) (omega (arith, length-append piece rest))
    ∙ ap (λ z. next tokens_from z (place_after front) line (piece ++ rest)) (longest_again d)
    ∙ ap (λ z. in_front [] (tokens_from (place_from (place_after front) z) line (drop (length piece) (piece ++ rest)))) (take-append_seam piece rest)
    ∙ ap (λ z. in_front [] (tokens_from (place_from (place_after front) piece) line z)) (drop-append_seam piece rest)
    ∙ ap (λ z. in_front [] (tokens_from z line rest)) (place_joined front piece)

token_again : (front piece rest : List ℕ) (line : ℕ) (kind : TokenKind) → IsLongest (token kind) piece rest
    → tokens_from (place_after front) line (piece ++ rest) ≡ in_front (token_of kind piece (place_after front) line ∷ []) (tokens_from (place_after (front ++ piece)) (place_after front).line rest)
token_again front piece rest line kind d =
    let some = piece_full d.is in
    tokens_next (place_after front) line (piece ++ rest) (omega (arith, length-append piece rest))
    ∙ ap (λ z. next tokens_from z (place_after front) line (piece ++ rest)) (longest_again d)
    ∙ ap (λ z. in_front (token_of kind z (place_after front) line ∷ []) (tokens_from (place_from (place_after front) z) (place_after front).line (drop (length piece) (piece ++ rest)))) (take-append_seam piece rest)
    ∙ ap (λ z. in_front (token_of kind piece (place_after front) line ∷ []) (tokens_from (place_from (place_after front) piece) (place_after front).line z)) (drop-append_seam piece rest)
    ∙ ap (λ z. in_front (token_of kind piece (place_after front) line ∷ []) (tokens_from z (place_after front).line rest)) (place_joined front piece)

pub list_again : {front : List ℕ} {line : ℕ} {bytes : List ℕ} {tokens : List Token} → IsTokensBehind front line bytes tokens → tokens_from (place_after front) line bytes ≡ Ok tokens
list_again (the_end front line) = tokens_end (place_after front) line
list_again (a_gap front piece rest line tokens d e) = gap_again front piece rest line d ∙ ap (in_front []) (list_again e)
list_again (a_token front piece rest line kind tokens d e) = token_again front piece rest line kind d ∙ ap (in_front (token_of kind piece (place_after front) line ∷ [])) (list_again e)

pub breaks_again : {front : List ℕ} {bytes : List ℕ} {refusal : Refusal} → BreaksBehind front bytes refusal → (line : ℕ) → tokens_from (place_after front) line bytes ≡ Err refusal
breaks_again (not_a_token front b rest s) line =
    tokens_next (place_after front) line (b ∷ rest) (omega arith) ∙ ap (λ z. next tokens_from z (place_after front) line (b ∷ rest)) (nothing_again b rest s)
breaks_again (not_closed front piece rest d) line =
    let some = piece_full d.is in
    tokens_next (place_after front) line (piece ++ rest) (omega (arith, length-append piece rest)) ∙ ap (λ z. next tokens_from z (place_after front) line (piece ++ rest)) (longest_again d)
breaks_again (after_gap front piece rest refusal d e) line = gap_again front piece rest line d ∙ ap (in_front []) (breaks_again e line)
breaks_again (after_token front piece rest kind refusal d e) line = token_again front piece rest line kind d ∙ ap (in_front (token_of kind piece (place_after front) line ∷ [])) (breaks_again e (place_after front).line)

-- ---- what is found is a token list, or breaks a rule
abbrev pub Right : List ℕ → ℕ → List ℕ → Result (List Token) Refusal → Type 0
Right front line bytes (Ok tokens) = IsTokensBehind front line bytes tokens
Right front line bytes (Err refusal) = BreaksBehind front bytes refusal

gap_right : (front piece rest : List ℕ) (line : ℕ) (r : Result (List Token) Refusal) → IsLongest gap piece rest → Right (front ++ piece) line rest r → Right front line (piece ++ rest) (in_front [] r)
gap_right front piece rest line (Ok tokens) d e = a_gap front piece rest line tokens d e
gap_right front piece rest line (Err refusal) d e = after_gap front piece rest refusal d e

token_right : (front piece rest : List ℕ) (line : ℕ) (kind : TokenKind) (r : Result (List Token) Refusal) → IsLongest (token kind) piece rest → Right (front ++ piece) (place_after front).line rest r
    → Right front line (piece ++ rest) (in_front (token_of kind piece (place_after front) line ∷ []) r)
token_right front piece rest line kind (Ok tokens) d e = a_token front piece rest line kind tokens d e
token_right front piece rest line kind (Err refusal) d e = after_token front piece rest kind refusal d e

next_right : (more : Place → ℕ → List ℕ → Result (List Token) Refusal) (piece : Piece) (front : List ℕ) (line b : ℕ) (bs : List ℕ) → Stands (b ∷ bs) piece
    → ((k : ℕ) (front : List ℕ) (line : ℕ) → 0 < k → Right front line (drop k (b ∷ bs)) (more (place_after front) line (drop k (b ∷ bs)))) → Right front line (b ∷ bs) (next more piece (place_after front) line (b ∷ bs))
next_right more (p.Gap k) front line b bs t h =
    subst (λ z. Right front line z (next more (p.Gap k) (place_after front) line (b ∷ bs))) (take-append-drop k (b ∷ bs))
    (gap_right front (take k (b ∷ bs)) (drop k (b ∷ bs)) line (more (place_from (place_after front) (take k (b ∷ bs))) line (drop k (b ∷ bs))) t.1
    (subst (λ z. Right (front ++ take k (b ∷ bs)) line (drop k (b ∷ bs)) (more z line (drop k (b ∷ bs)))) (sym (place_joined front (take k (b ∷ bs)))) (h k (front ++ take k (b ∷ bs)) line t.0)))
next_right more (p.Token kind k) front line b bs t h =
    let last = (place_after front).line in
    subst (λ z. Right front line z (next more (p.Token kind k) (place_after front) line (b ∷ bs))) (take-append-drop k (b ∷ bs))
    (token_right front (take k (b ∷ bs)) (drop k (b ∷ bs)) line kind (more (place_from (place_after front) (take k (b ∷ bs))) last (drop k (b ∷ bs))) t.1
    (subst (λ z. Right (front ++ take k (b ∷ bs)) last (drop k (b ∷ bs)) (more z last (drop k (b ∷ bs)))) (sym (place_joined front (take k (b ∷ bs)))) (h k (front ++ take k (b ∷ bs)) last t.0)))
next_right more p.Unclosed front line b bs t h = subst (λ z. Right front line z (next more p.Unclosed (place_after front) line (b ∷ bs))) (append-nil (b ∷ bs)) (not_closed front (b ∷ bs) [] t)
next_right more p.Nothing front line b bs t h = not_a_token front b bs t

within_right : (n : ℕ) (front : List ℕ) (line : ℕ) (bytes : List ℕ) → length bytes ≤ n → Right front line bytes (tokens_within n (place_after front) line bytes)
unfolding tokens_within
within_right zero front line [] h = the_end front line
within_right (suc n) front line [] h = the_end front line
within_right zero front line (b ∷ bs) h = absurd (omega arith)
within_right (suc n) front line (b ∷ bs) h =
    next_right (tokens_within n) (piece_at (b ∷ bs)) front line b bs (longest_there b bs) (λ k front line some. within_right n front line (drop k (b ∷ bs)) (omega (arith, length-drop k (b ∷ bs))))

pub source_right : (bytes : List ℕ) → Right [] 0 bytes (tokens_from (place_after []) 0 bytes)
unfolding tokens_from
source_right bytes = within_right (length bytes) [] 0 bytes (omega arith)
