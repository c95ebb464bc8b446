-- The frame of a program, as the code finds it.
use Rattle.std.proofs.Common.{◌≡◌, ◌∙◌, ℕ, List, length, is_some, true, false, Option, Some, None, Result, Err, refl, sym, ap, subst}
use Rattle.rw_base.specs.declared.place.Place.{Place}
use Rattle.rw_base.specs.Answers.{Fail}
use Rattle.rw_base.specs.declared.fail.Failure.TheVariants as fail
use Rattle.rw_base.specs.declared.rule.Rule.TheVariants as rule
use Rattle.rw_parser_grammar.specs.declared.lexeme.Mark.TheVariants as m
use Rattle.rw_parser_grammar.specs.declared.lexeme.Lexeme.{Lexeme}
use Rattle.rw_parser_grammar.specs.Grammar.{first_place}
use Rattle.rw_parser_reading.specs.Read.{◌>>=◌, after}
use Rattle.rw_parser_reading.specs.ReadProgram.{header_at, runs_at, frame_at, items_at}
use Rattle.rw_parser.specs.Shallow.{Kept, nothing, kept_behind}
use Rattle.rw_parser.specs.Frame.{frame_tokens, kept_framed}
use Rattle.rw_parser.specs.Reading.{KeepsAll}

-- ---- the frame
frame_by : (o : Option (List Lexeme)) → (o >>= (λ r. after m.OpensBlock r >>= (λ x. runs_at (length x) x))) ≡ ((o >>= (λ r. after m.OpensBlock r)) >>= (λ x. runs_at (length x) x))
frame_by None = refl
frame_by (Some r) = refl

pub frame_is : (ts : List Lexeme) → frame_at ts ≡ (frame_tokens ts >>= (λ x. runs_at (length x) x))
unfolding frame_at frame_tokens
frame_is ts = frame_by (header_at ts)

pub no_frame : (ts : List Lexeme) → frame_tokens ts ≡ None → frame_at ts ≡ None
no_frame ts e = frame_is ts ∙ ap (λ z. z >>= (λ x. runs_at (length x) x)) e

pub a_frame : (ts rest : List Lexeme) → frame_tokens ts ≡ Some rest → frame_at ts ≡ runs_at (length rest) rest
a_frame ts rest e = frame_is ts ∙ ap (λ z. z >>= (λ x. runs_at (length x) x)) e

-- ---- an option that is there
pub some_of : {A : Type 0} (o : Option A) → is_some o ≡ true → (a : A) × (o ≡ Some a)
some_of None e = absurd (cc)
some_of (Some a) e = (a, refl)

pub none_of : {A : Type 0} (o : Option A) → is_some o ≡ false → o ≡ None
none_of None e = refl
none_of (Some a) e = absurd (cc)

-- ---- what is answered
pub no_runs : (ts rest : List Lexeme) → frame_tokens ts ≡ Some rest → is_some (runs_at (length rest) rest) ≡ false → frame_at ts ≡ None
no_runs ts rest e f = a_frame ts rest e ∙ none_of (runs_at (length rest) rest) f

pub with_frame : (n : ℕ) (ts rest : List Lexeme) (runs : List (List Lexeme × Lexeme)) (result : Result Kept Fail) → frame_tokens ts ≡ Some rest → runs_at (length rest) rest ≡ Some runs
    → KeepsAll result (kept_behind nothing (items_at n runs)) → KeepsAll result (kept_framed n ts (frame_at ts))
with_frame n ts rest runs result e f h = subst (λ z. KeepsAll result (kept_framed n ts z)) (sym (a_frame ts rest e ∙ f)) h

pub without_frame : (n : ℕ) (ts : List Lexeme) (place : Place) → frame_at ts ≡ None → place ≡ first_place ts → KeepsAll (Err (fail.Refused (record { rule = rule.E05; place = place }))) (kept_framed n ts (frame_at ts))
without_frame n ts place e f = (refl, ap (kept_framed n ts) e ∙ ap Err (sym f))
