-- From what the list function finds to what a clause says of an answer; and the laws of token lists.
use Rattle.std.proofs.Common.{◌≡◌, ℕ, List, [], Result, Ok, Err, IfOk, subst, ◌⊎◌, inl, inr}
use Rattle.rw_base.specs.Answers.{Fail}
use Rattle.rw_base.specs.declared.fail.Failure.TheVariants as fail
use Rattle.rw_base.specs.declared.fail.Refusal.{Refusal}
use Rattle.rw_base.specs.Places.{place_after}
use Rattle.rw_lex.specs.declared.token.Token.{Token}
use Rattle.rw_base.specs.Answers.{Answers}
use Rattle.rw_lex.specs.Tokens.{IsTokenList, Breaks, IfRefused}
use Rattle.rw_lex.specs.Scan.{tokens_from}
use Rattle.rw_lex.proofs.Sources.{Right, source_right, list_again, breaks_again}

-- what the whole source gives
abbrev pub tokens_of_source : List ℕ → Result (List Token) Refusal
tokens_of_source bytes = tokens_from (place_after []) 0 bytes

pub answers_ok : {X : Type 0} (view : X → List Token) (P : List Token → Type 0) (r : Result X Fail) (found : Result (List Token) Refusal) → Answers view r found → ((tokens : List Token) → found ≡ Ok tokens → P tokens) → IfOk r (λ x. P (view x))
answers_ok view P (Ok x) found a h = h (view x) a
answers_ok view P (Err e) found a h = tt

pub answers_refused : {X : Type 0} (view : X → List Token) (P : Refusal → Type 0) (r : Result X Fail) (found : Result (List Token) Refusal) → Answers view r found → ((refusal : Refusal) → found ≡ Err refusal → P refusal) → IfRefused r P
answers_refused view P (Ok x) found a h = tt
answers_refused view P (Err (fail.Refused refusal)) found a h = h refusal a
answers_refused view P (Err fail.OutOfMemory) found a h = tt

pub answers_same : {X : Type 0} (view : X → List Token) (r : Result X Fail) (found other : Result (List Token) Refusal) → Answers view r found → found ≡ other → Answers view r other
answers_same view r found other a e = subst (Answers view r) e a

pub list_there : (bytes : List ℕ) (tokens : List Token) → tokens_of_source bytes ≡ Ok tokens → IsTokenList bytes tokens
list_there bytes tokens e = subst (Right [] 0 bytes) e (source_right bytes)

pub breaks_there : (bytes : List ℕ) (refusal : Refusal) → tokens_of_source bytes ≡ Err refusal → Breaks bytes refusal
breaks_there bytes refusal e = subst (Right [] 0 bytes) e (source_right bytes)

pub list_found : (bytes : List ℕ) (tokens : List Token) → IsTokenList bytes tokens → tokens_of_source bytes ≡ Ok tokens
list_found bytes tokens d = list_again d

pub breaks_found : (bytes : List ℕ) (refusal : Refusal) → Breaks bytes refusal → tokens_of_source bytes ≡ Err refusal
breaks_found bytes refusal d = breaks_again d 0

-- ---- laws
pub one_token_list : (bytes : List ℕ) (a b : List Token) → IsTokenList bytes a → IsTokenList bytes b → a ≡ b
one_token_list bytes a b d e = let f = list_found bytes a d in let g = list_found bytes b e in cc

pub one_refusal : (bytes : List ℕ) (a b : Refusal) → Breaks bytes a → Breaks bytes b → a ≡ b
one_refusal bytes a b d e = let f = breaks_found bytes a d in let g = breaks_found bytes b e in cc

pub never_both : (bytes : List ℕ) (tokens : List Token) (refusal : Refusal) → IsTokenList bytes tokens → Breaks bytes refusal → ⊥
never_both bytes tokens refusal d e = let f = list_found bytes tokens d in let g = breaks_found bytes refusal e in cc

pub one_or_other : (bytes : List ℕ) → ((tokens : List Token) × IsTokenList bytes tokens) ⊎ ((refusal : Refusal) × Breaks bytes refusal)
one_or_other bytes = of (tokens_of_source bytes) (source_right bytes)
  where
    of : (found : Result (List Token) Refusal) → Right [] 0 bytes found → ((tokens : List Token) × IsTokenList bytes tokens) ⊎ ((refusal : Refusal) × Breaks bytes refusal)
    of (Ok tokens) r = inl (tokens, r)
    of (Err refusal) r = inr (refusal, r)
