-- The canonical tokens of what can be spelled spell it: lists, names and expressions.
use Rattle.std.proofs.Common.{◌≡◌, ℕ, zero, suc, ◌<◌, ◌^◌, true, ◌&&◌, List, [], ◌∷◌, ◌++◌, map, Some, refl, sym, ap, subst, ◌∙◌, append_assoc, append-nil, arith}
use Rattle.std.specs.Prelude.{decimal}
use Rattle.std.specs.List.{list_all}
use Rattle.std.specs.Char.{is_ascii_digit}
use Rattle.std.specs.Str.{all_ascii_digits}
use Rattle.std.specs.Str.Parse.{digits_value}
use Rattle.std.proofs.lemmas.Fmt.{digits_decimal}
use Rattle.std.proofs.lemmas.Str.Parse.{IsNumeralModel, numerals_by_value, tells_all_ascii_digits}
use Rattle.vh_tree.specs.declared.token.Mark.{Mark}
use Rattle.vh_tree.specs.declared.token.Mark.TheVariants as m
use Rattle.vh_tree.specs.declared.token.Token.{Token}
use Rattle.vh_tree.specs.declared.token.Token.TheVariants as t
use Rattle.vh_tree.specs.declared.token.Side.{Side}
use Rattle.vh_tree.specs.declared.token.Side.TheVariants as side
use Rattle.vh_tree.specs.declared.expr.VExpr.{VExpr}
use Rattle.vh_tree.specs.declared.expr.VExpr.TheVariants as w
use Rattle.vh_tree.specs.VToken.{name_token}
use Rattle.vh_tree.specs.Text.{declared}
use Rattle.vh_tree.specs.Grammar as g
use Rattle.vh_tree.specs.Canonical.{joined, each_after, separated, expr_tokens}
use Rattle.vh_tree.specs.Spellable as f
use Rattle.vh_tree_spelling.proofs.Texts.{both, IsToken, mark_token, id_token, number_token, bits_token, AllTokens}
use Rattle.vh_tree_spelling.proofs.Names.{id_named, inp_named, outp_named, clk_named, rst_named}
use Rattle.vh_tree_spelling.proofs.Equations.{tokens_name, tokens_slice, tokens_literal, tokens_call, tokens_join}
use Rattle.vh_tree_spelling.proofs.Again.{all_both}
use Rattle.vh_tree_spelling.proofs.AgainExprs.{args_tokens}

-- what fits has tokens, which spell it before anything
pub record Made {A : Type 0} (Fits : A → Type 0) (tokens : A → List Token) (Is : List Token → A → List Token → Type 0) : Type 0 where
  pub spells : (a : A) (later : List Token) → Fits a → Is (tokens a ++ later) a later
  pub all : (a : A) → Fits a → AllTokens (tokens a)

module _ {A : Type 0} (Fits : A → Type 0) (tokens : A → List Token) (One : List Token → A → List Token → Type 0) (one : Made Fits tokens One) where
  list_spells : (between : Mark) (x : A) (xs : List A) (later : List Token) → f.Each Fits (x ∷ xs) → g.IsSeparated between One (separated between (map tokens (x ∷ xs)) ++ later) (x ∷ xs) later
  list_spells between x [] later h = subst (λ z. g.IsSeparated between One (z ++ later) (x ∷ []) later) (sym (append-nil (tokens x))) (g.the_last (tokens x ++ later) later x (one.spells x later h.0))
  list_spells between x (y ∷ ys) later h =
      let next = separated between (map tokens (y ∷ ys)) ++ later in
      subst (λ z. g.IsSeparated between One z (x ∷ y ∷ ys) later) (sym (append_assoc (tokens x) (each_after between (map tokens (y ∷ ys))) later))
      (g.and_more (tokens x ++ t.Mark between ∷ next) next later x (y ∷ ys) (one.spells x (t.Mark between ∷ next) h.0) (list_spells between y ys later h.1))

  more_all : (between : Mark) (xs : List A) → f.Each Fits xs → AllTokens (each_after between (map tokens xs))
  more_all between [] h = tt
  more_all between (x ∷ xs) h = (mark_token between, all_both (tokens x) (each_after between (map tokens xs)) (one.all x h.0) (more_all between xs h.1))

  separated_spells : (between : Mark) (xs : List A) (later : List Token) → f.OneOrMore Fits xs → g.IsSeparated between One (separated between (map tokens xs) ++ later) xs later
  separated_spells between [] later h = absurd (let k : 0 < 0 = h.0 in omega arith)
  separated_spells between (x ∷ xs) later h = list_spells between x xs later h.1

  separated_all : (between : Mark) (xs : List A) → f.OneOrMore Fits xs → AllTokens (separated between (map tokens xs))
  separated_all between [] h = tt
  separated_all between (x ∷ xs) h = all_both (tokens x) (each_after between (map tokens xs)) (one.all x h.1.0) (more_all between xs h.1.1)

  pub separated_made : (between : Mark) → Made (f.OneOrMore Fits) (λ (xs : List A). separated between (map tokens xs)) (g.IsSeparated between One)
  separated_made between = record { spells = separated_spells between; all = separated_all between }

  many_spells : (xs : List A) (later : List Token) → f.Each Fits xs → g.IsMany One (joined (map tokens xs) ++ later) xs later
  many_spells [] later h = g.no_more later
  many_spells (x ∷ xs) later h =
      let next = joined (map tokens xs) ++ later in
      subst (λ z. g.IsMany One z (x ∷ xs) later) (sym (append_assoc (tokens x) (joined (map tokens xs)) later)) (g.one_more (tokens x ++ next) next later x xs (one.spells x next h.0) (many_spells xs later h.1))

  many_all : (xs : List A) → f.Each Fits xs → AllTokens (joined (map tokens xs))
  many_all [] h = tt
  many_all (x ∷ xs) h = all_both (tokens x) (joined (map tokens xs)) (one.all x h.0) (many_all xs h.1)

  pub many_made : Made (f.Each Fits) (λ (xs : List A). joined (map tokens xs)) (g.IsMany One)
  many_made = record { spells = many_spells; all = many_all }

-- ---- tokens
pub id_made : (x : List ℕ) → f.IdFits x → IsToken (t.Id x)
id_made x h = id_token x h.begins h.word h.low (declared x h.digit h.single h.other) h.digit

pub id_name : (x : List ℕ) → f.IdFits x → t.Id x ≡ name_token x
id_name x h = sym (id_named x h.digit)

digits_all : (ds : List ℕ) → all_ascii_digits ds ≡ true → list_all is_ascii_digit ds ≡ true
digits_all [] h = refl
digits_all (d ∷ ds) h = let k = both (is_ascii_digit d) (all_ascii_digits ds) h in ap (λ z. z && list_all is_ascii_digit ds) k.0 ∙ digits_all ds k.1

own : IsNumeralModel (λ ds. all_ascii_digits ds ≡ true) (digits_value 10)
own = numerals_by_value _ tells_all_ascii_digits

pub number_made : (n : ℕ) → n < 2 ^ 31 → IsToken (t.Number n)
number_made n h = number_token n h (digits_all (decimal n) (digits_decimal own n (omega arith)))

name_spelled : (x : List ℕ) → f.NameFits x → (g.name_of (name_token x) ≡ Some x) × IsToken (name_token x)
name_spelled _ (f.NameFits.an_id x h) = (subst (λ z. g.name_of z ≡ Some x) (id_name x h) refl, subst IsToken (id_name x h) (id_made x h))
name_spelled _ f.NameFits.the_input = (ap g.name_of inp_named, subst IsToken (sym inp_named) (mark_token m.Inp))

pub target_spelled : (at : Side) (x : List ℕ) → f.TargetFits at x → (g.target_of at (name_token x) ≡ Some x) × IsToken (name_token x)
target_spelled _ _ (f.TargetFits.an_id at x h) = (subst (λ z. g.target_of at z ≡ Some x) (id_name x h) refl, subst IsToken (id_name x h) (id_made x h))
target_spelled _ _ f.TargetFits.the_output = (ap (g.target_of side.Process) outp_named, subst IsToken (sym outp_named) (mark_token m.Outp))

pub sensitive_spelled : (x : List ℕ) → f.SensitiveFits x → (g.sensitive_of (name_token x) ≡ Some x) × IsToken (name_token x)
sensitive_spelled _ (f.SensitiveFits.an_id x h) = (subst (λ z. g.sensitive_of z ≡ Some x) (id_name x h) refl, subst IsToken (id_name x h) (id_made x h))
sensitive_spelled _ f.SensitiveFits.the_clock = (ap g.sensitive_of clk_named, subst IsToken (sym clk_named) (mark_token m.Clk))
sensitive_spelled _ f.SensitiveFits.the_reset = (ap g.sensitive_of rst_named, subst IsToken (sym rst_named) (mark_token m.Rst))
sensitive_spelled _ f.SensitiveFits.the_input = (ap g.sensitive_of inp_named, subst IsToken (sym inp_named) (mark_token m.Inp))

-- ---- expressions
module _ (ArgsFits : List VExpr → Type 0) (Args : List Token → List VExpr → List Token → Type 0) (args : Made ArgsFits args_tokens Args) where
  ref_spells : (e : VExpr) (later : List Token) → f.RefFits ArgsFits e → g.IsRef Args (expr_tokens e ++ later) e later
  ref_spells _ later (f.RefFits.a_name x h) = subst (λ z. g.IsRef Args (z ++ later) (w.Name x) later) (sym (tokens_name x)) (g.a_name (name_token x) x later (name_spelled x h).0)
  ref_spells _ later (f.RefFits.a_slice x a b h k l) = subst (λ z. g.IsRef Args (z ++ later) (w.Slice x a b) later) (sym (tokens_slice x a b)) (g.a_slice (name_token x) x a b later (name_spelled x h).0)
  ref_spells _ later (f.RefFits.a_call x es h k) =
      let inner = args_tokens es in
      subst (λ z. g.IsRef Args (z ++ later) (w.Call x es) later) (ap (λ z. z ∷ t.Mark m.Opens ∷ (inner ++ t.Mark m.Closes ∷ [])) (id_name x h) ∙ sym (tokens_call x es))
      (subst (λ z. g.IsRef Args (t.Id x ∷ t.Mark m.Opens ∷ z) (w.Call x es) later) (sym (append_assoc inner (t.Mark m.Closes ∷ []) later))
      (g.a_call x (inner ++ t.Mark m.Closes ∷ later) later es (args.spells es (t.Mark m.Closes ∷ later) k)))

  ref_all : (e : VExpr) → f.RefFits ArgsFits e → AllTokens (expr_tokens e)
  ref_all _ (f.RefFits.a_name x h) = subst AllTokens (sym (tokens_name x)) ((name_spelled x h).1, tt)
  ref_all _ (f.RefFits.a_slice x a b h k l) =
      subst AllTokens (sym (tokens_slice x a b)) ((name_spelled x h).1, (mark_token m.Opens, (number_made a k, (mark_token m.Downto, (number_made b l, (mark_token m.Closes, tt))))))
  ref_all _ (f.RefFits.a_call x es h k) =
      subst AllTokens (sym (tokens_call x es))
      (subst IsToken (id_name x h) (id_made x h), (mark_token m.Opens, all_both (args_tokens es) (t.Mark m.Closes ∷ []) (args.all es k) (mark_token m.Closes, tt)))

  pub ref_made : Made (f.RefFits ArgsFits) expr_tokens (g.IsRef Args)
  ref_made = record { spells = ref_spells; all = ref_all }

  term_spells : (e : VExpr) (later : List Token) → f.TermFits ArgsFits e → g.IsTerm Args (expr_tokens e ++ later) e later
  term_spells _ later (f.TermFits.a_ref e h) = g.a_ref (expr_tokens e ++ later) later e (ref_spells e later h)
  term_spells _ later (f.TermFits.a_literal bits h) = subst (λ z. g.IsTerm Args (z ++ later) (w.Literal bits) later) (sym (tokens_literal bits)) (g.a_literal bits later)

  term_all : (e : VExpr) → f.TermFits ArgsFits e → AllTokens (expr_tokens e)
  term_all _ (f.TermFits.a_ref e h) = ref_all e h
  term_all _ (f.TermFits.a_literal bits h) = subst AllTokens (sym (tokens_literal bits)) (bits_token bits h, tt)

  terms_made : Made (f.OneOrMore (f.TermFits ArgsFits)) (λ (es : List VExpr). separated m.Amp (map expr_tokens es)) (g.IsSeparated m.Amp (g.IsTerm Args))
  terms_made = separated_made (f.TermFits ArgsFits) expr_tokens (g.IsTerm Args) (record { spells = term_spells; all = term_all }) m.Amp

  expr_spells : (e : VExpr) (later : List Token) → f.ExprFits ArgsFits e → g.IsExpr Args (expr_tokens e ++ later) e later
  expr_spells _ later (f.ExprFits.a_term e h) = g.an_expr (expr_tokens e ++ later) later (e ∷ []) (g.the_last (expr_tokens e ++ later) later e (term_spells e later h))
  expr_spells _ later (f.ExprFits.a_join e k es h) =
      subst (λ z. g.IsExpr Args (z ++ later) (w.Join (e ∷ k ∷ es)) later) (sym (tokens_join (e ∷ k ∷ es)))
      (g.an_expr (separated m.Amp (map expr_tokens (e ∷ k ∷ es)) ++ later) later (e ∷ k ∷ es) (terms_made.spells (e ∷ k ∷ es) later (omega arith, h)))

  expr_all : (e : VExpr) → f.ExprFits ArgsFits e → AllTokens (expr_tokens e)
  expr_all _ (f.ExprFits.a_term e h) = term_all e h
  expr_all _ (f.ExprFits.a_join e k es h) = subst AllTokens (sym (tokens_join (e ∷ k ∷ es))) (terms_made.all (e ∷ k ∷ es) (omega arith, h))

  pub expr_made : Made (f.ExprFits ArgsFits) expr_tokens (g.IsExpr Args)
  expr_made = record { spells = expr_spells; all = expr_all }

-- at every level
pub args_made : (n : ℕ) → Made (f.ArgsFit n) args_tokens (g.IsArgs n)
args_made zero = record { spells = λ es later h. absurd h; all = λ es h. absurd h }
args_made (suc n) =
    let next = separated_made (f.ExprFits (f.ArgsFit n)) expr_tokens (g.IsExpr (g.IsArgs n)) (expr_made (f.ArgsFit n) (g.IsArgs n) (args_made n)) m.Comma in
    record { spells = next.spells; all = next.all }

pub refs_made : (n : ℕ) → Made (f.RefFits (f.ArgsFit n)) expr_tokens (g.IsRef (g.IsArgs n))
refs_made n = ref_made (f.ArgsFit n) (g.IsArgs n) (args_made n)

pub exprs_made : (n : ℕ) → Made (f.ExprFits (f.ArgsFit n)) expr_tokens (g.IsExpr (g.IsArgs n))
exprs_made n = expr_made (f.ArgsFit n) (g.IsArgs n) (args_made n)
