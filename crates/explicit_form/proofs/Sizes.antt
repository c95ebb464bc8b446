-- How much a source can hold: no more tokens than bytes, and no more constructors of one type than words.
use Rattle.std.proofs.Common.{◌≡◌, ◌≢◌, ℕ, ◌+◌, ◌<◌, ◌≤◌, Bool, true, false, List, [], ◌∷◌, length, refl, arith, length-append}
use Rattle.std.specs.Prelude.{All, codes}
use Rattle.std.proofs.lemmas.List.Elements.{All-nil, All-cons}
use Rattle.rw_lex.specs.declared.token.Token.{Token}
use Rattle.rw_lex.specs.declared.token.TokenKind.{TokenKind}
use Rattle.rw_lex.specs.Tokens.{begins_word, Sort, gap, token, unclosed, IsPiece, white, line_comment, block_comment, open_comment, word, number, IsTokensBehind, the_end, a_gap, a_token, IsTokenList}
use Rattle.rw_lex.specs.Tokens as pieces
use Rattle.explicit_form.specs.declared.form.Data.{Data}
use Rattle.explicit_form.specs.declared.form.Form.{Form}
use Rattle.explicit_form.specs.Words.{Word, operator, special}
use Rattle.explicit_form.specs.Lists.{IsSeparated, the_last, and_more, IsMany, no_more, one_more}
use Rattle.explicit_form.specs.Grammar.{IsConstructor, a_constructor, IsData, a_data, IsForm, a_form}

-- ---- tokens
not_empty : (piece : List ℕ) → piece ≢ [] → 0 < length piece
not_empty [] h = absurd (h refl)
not_empty (b ∷ bs) h = omega arith

word_not_empty : (piece : List ℕ) → begins_word piece ≡ true → 0 < length piece
word_not_empty [] h = absurd (cc)
word_not_empty (b ∷ bs) h = omega arith

is_token : Sort → Bool
is_token gap = false
is_token (token kind) = true
is_token unclosed = false

-- a token has bytes
token_not_empty : {sort : Sort} {piece : List ℕ} → IsPiece sort piece → is_token sort ≡ true → 0 < length piece
unfolding is_token
token_not_empty (white b c) e = absurd (cc)
token_not_empty (line_comment dashes line d s r) e = absurd (cc)
token_not_empty (block_comment inside c) e = absurd (cc)
token_not_empty (open_comment inside c) e = absurd (cc)
token_not_empty (word piece b r) e = word_not_empty piece b
token_not_empty (number piece n r) e = not_empty piece n
token_not_empty (pieces.operator bytes n r d) e = not_empty bytes n
token_not_empty (pieces.special b c) e = omega arith

token_some : (kind : TokenKind) (bytes : List ℕ) → IsPiece (token kind) bytes → 0 < length bytes
unfolding is_token
token_some kind bytes p = token_not_empty p refl

tokens_few_behind : {front : List ℕ} {line : ℕ} {bytes : List ℕ} {tokens : List Token} → IsTokensBehind front line bytes tokens → length tokens ≤ length bytes
tokens_few_behind (the_end front line) = omega arith
tokens_few_behind (a_gap front piece rest line tokens p d) = let h = tokens_few_behind d in let l = length-append piece rest in omega arith
tokens_few_behind (a_token front piece rest line kind tokens p d) =
    let h = tokens_few_behind d in let l = length-append piece rest in let some = token_some kind piece p.is in omega arith

-- a source has no more tokens than bytes
pub tokens_few : (bytes : List ℕ) (tokens : List Token) → IsTokenList bytes tokens → length tokens ≤ length bytes
tokens_few bytes tokens d = tokens_few_behind d

-- ---- constructors
constructors_few : {ts : List Word} {cs : List (List ℕ)} {rest : List Word} → IsSeparated (operator (codes "|")) IsConstructor ts cs rest → (0 < length cs) × (length cs + length rest ≤ length ts)
constructors_few (the_last _ _ _ (a_constructor name rest)) = (omega arith, omega arith)
constructors_few (and_more _ mid rest _ others (a_constructor name _) d) = let h = constructors_few d in (omega arith, omega (arith, h.1))

-- a type has constructors, and so many at most
abbrev pub HasFew : ℕ → Data → Type 0
HasFew n declared = (0 < length declared.constructors) × (length declared.constructors ≤ n)

data_few : {ts : List Word} {declared : Data} {rest : List Word} → IsData ts declared rest → HasFew (length ts) declared × (length rest ≤ length ts)
data_few (a_data name cs ts rest d) = let h = constructors_few d in ((h.0, omega (arith, h.1)), omega (arith, h.1))

few_more : (n m : ℕ) (declared : Data) → n ≤ m → HasFew n declared → HasFew m declared
few_more n m declared l h = (h.0, omega (arith, l, h.1))

datas_few : (n : ℕ) {ts : List Word} {datas : List Data} {rest : List Word} → IsMany IsData ts datas rest → length ts ≤ n → All (HasFew n) datas
datas_few n (no_more ts) l = All-nil (HasFew n)
datas_few n (one_more ts mid rest declared others d ds) l =
    let h = data_few d in All-cons (HasFew n) declared others (few_more (length ts) n declared l h.0) (datas_few n ds (omega (arith, l, h.1)))

-- each type of a tree has constructors, and no more than the source has words
pub form_few : (words : List Word) (form : Form) → IsForm words form → All (HasFew (length words)) form.datas
form_few _ _ (a_form ports start datas functions ts mid d f some) = datas_few (length (special (codes "{") ∷ ts)) d (omega arith)
