-- As many turns as there are tokens.
use Rattle.std.proofs.Common.{◌≡◌, List, length, ap}
use Rattle.std.specs.Prelude.{codes}
use Rattle.std.proofs.lemmas.List.{length-map}
use Rattle.rw_lex.specs.declared.token.Token.{Token}
use Rattle.rw_lex.specs.declared.token.TokenKind.TheVariants.{Constructor}
use Rattle.explicit_form.specs.declared.form.Ports.{Ports}
use Rattle.explicit_form.specs.Words.{word_of, words_of, keyword, operator, special}
use Rattle.explicit_form.specs.Read.{separated_at, many_at, name_at, constructors_at, data_at, datas_at, arm_at, arms_at, function_at, functions_at}

pub constructors_turns : (ts : List Token) → constructors_at (words_of ts) ≡ separated_at (operator (codes "|")) (name_at Constructor) (length ts) (words_of ts)
unfolding constructors_at
constructors_turns ts = ap (λ n. separated_at (operator (codes "|")) (name_at Constructor) n (words_of ts)) (length-map ts word_of)

pub datas_turns : (ts : List Token) → datas_at (words_of ts) ≡ many_at (keyword (codes "data")) data_at (length ts) (words_of ts)
unfolding datas_at
datas_turns ts = ap (λ n. many_at (keyword (codes "data")) data_at n (words_of ts)) (length-map ts word_of)

pub arms_turns : (ts : List Token) → arms_at (words_of ts) ≡ separated_at (special (codes ";")) arm_at (length ts) (words_of ts)
unfolding arms_at
arms_turns ts = ap (λ n. separated_at (special (codes ";")) arm_at n (words_of ts)) (length-map ts word_of)

pub functions_turns : (ports : Ports) (ts : List Token) → functions_at ports (words_of ts) ≡ many_at (special (codes ";")) (function_at ports) (length ts) (words_of ts)
unfolding functions_at
functions_turns ports ts = ap (λ n. many_at (special (codes ";")) (function_at ports) n (words_of ts)) (length-map ts word_of)
