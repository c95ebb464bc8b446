-- The canonical tokens of an expression spell it.
use Rattle.std.proofs.Common.{ℕ, zero, suc, List, [], ◌∷◌, ◌++◌, map, sym, ap, subst, ◌∙◌, append_assoc}
use Rattle.vh_tree.specs.declared.token.Mark.TheVariants as m
use Rattle.vh_tree.specs.declared.token.Token.{Token}
use Rattle.vh_tree.specs.declared.token.Token.TheVariants as t
use Rattle.vh_tree.specs.declared.expr.VExpr.{VExpr}
use Rattle.vh_tree.specs.declared.expr.VExpr.TheVariants as w
use Rattle.vh_tree.specs.Grammar.{join_of, IsRef, a_name, a_slice, a_call, IsTerm, a_ref, a_literal, IsExpr, an_expr, IsArgs, IsSeparated}
use Rattle.vh_tree.specs.Canonical.{separated, range_tokens, expr_tokens}
use Rattle.vh_tree_spelling.proofs.Texts.{mark_token, AllTokens}
use Rattle.vh_tree_spelling.proofs.Names.{id_is, name_is}
use Rattle.vh_tree_spelling.proofs.Equations.{tokens_name, tokens_slice, tokens_literal, tokens_call, tokens_join_of}
use Rattle.vh_tree_spelling.proofs.Again.{Again, all_both, separated_again}

abbrev pub args_tokens : List VExpr → List Token
args_tokens es = separated m.Comma (map expr_tokens es)

module _ (Args : List Token → List VExpr → List Token → Type 0) (args : Again args_tokens Args) where
  ref_once : (ts : List Token) (e : VExpr) (rest later : List Token) → AllTokens ts → IsRef Args ts e rest → IsRef Args (expr_tokens e ++ later) e later
  ref_once _ _ _ later h (a_name x name rest e) =
      subst (λ z. IsRef Args (z ++ later) (w.Name name) later) (ap (λ z. z ∷ []) (name_is x name h.0 e) ∙ sym (tokens_name name)) (a_name x name later e)
  ref_once _ _ _ later h (a_slice x name a b rest e) =
      subst (λ z. IsRef Args (z ++ later) (w.Slice name a b) later) (ap (λ z. z ∷ range_tokens a b) (name_is x name h.0 e) ∙ sym (tokens_slice name a b)) (a_slice x name a b later e)
  ref_once _ _ _ later h (a_call name ts rest es d) =
      subst (λ z. IsRef Args (z ++ later) (w.Call name es) later) (ap (λ z. z ∷ t.Mark m.Opens ∷ (args_tokens es ++ t.Mark m.Closes ∷ [])) (id_is name h.0) ∙ sym (tokens_call name es))
      (subst (λ z. IsRef Args (t.Id name ∷ t.Mark m.Opens ∷ z) (w.Call name es) later) (sym (append_assoc (args_tokens es) (t.Mark m.Closes ∷ []) later))
      (a_call name (args_tokens es ++ t.Mark m.Closes ∷ later) later es (args.again ts es (t.Mark m.Closes ∷ rest) (t.Mark m.Closes ∷ later) h.1.1 d)))

  ref_front : (ts : List Token) (e : VExpr) (rest : List Token) → AllTokens ts → IsRef Args ts e rest → AllTokens (expr_tokens e)
  ref_front _ _ _ h (a_name x name rest e) = subst AllTokens (ap (λ z. z ∷ []) (name_is x name h.0 e) ∙ sym (tokens_name name)) (h.0, tt)
  ref_front _ _ _ h (a_slice x name a b rest e) =
      subst AllTokens (ap (λ z. z ∷ range_tokens a b) (name_is x name h.0 e) ∙ sym (tokens_slice name a b))
      (h.0, (mark_token m.Opens, (h.1.1.0, (mark_token m.Downto, (h.1.1.1.1.0, (mark_token m.Closes, tt))))))
  ref_front _ _ _ h (a_call name ts rest es d) =
      subst AllTokens (ap (λ z. z ∷ t.Mark m.Opens ∷ (args_tokens es ++ t.Mark m.Closes ∷ [])) (id_is name h.0) ∙ sym (tokens_call name es))
      (h.0, (mark_token m.Opens, all_both (args_tokens es) (t.Mark m.Closes ∷ []) (args.front ts es _ h.1.1 d) (mark_token m.Closes, tt)))

  ref_behind : (ts : List Token) (e : VExpr) (rest : List Token) → AllTokens ts → IsRef Args ts e rest → AllTokens rest
  ref_behind _ _ _ h (a_name x name rest e) = h.1
  ref_behind _ _ _ h (a_slice x name a b rest e) = h.1.1.1.1.1.1
  ref_behind _ _ _ h (a_call name ts rest es d) = let k = args.behind ts es (t.Mark m.Closes ∷ rest) h.1.1 d in k.1

  pub ref_again : Again expr_tokens (IsRef Args)
  ref_again = record { again = ref_once; front = ref_front; behind = ref_behind }

  pub term_again : Again expr_tokens (IsTerm Args)
  term_again = record { again = again; front = front; behind = behind }
    where
      again : (ts : List Token) (e : VExpr) (rest later : List Token) → AllTokens ts → IsTerm Args ts e rest → IsTerm Args (expr_tokens e ++ later) e later
      again _ _ _ later h (a_ref ts rest e d) = a_ref (expr_tokens e ++ later) later e (ref_once ts e rest later h d)
      again _ _ _ later h (a_literal bits rest) = subst (λ z. IsTerm Args (z ++ later) (w.Literal bits) later) (sym (tokens_literal bits)) (a_literal bits later)

      front : (ts : List Token) (e : VExpr) (rest : List Token) → AllTokens ts → IsTerm Args ts e rest → AllTokens (expr_tokens e)
      front _ _ _ h (a_ref ts rest e d) = ref_front ts e rest h d
      front _ _ _ h (a_literal bits rest) = subst AllTokens (sym (tokens_literal bits)) (h.0, tt)

      behind : (ts : List Token) (e : VExpr) (rest : List Token) → AllTokens ts → IsTerm Args ts e rest → AllTokens rest
      behind _ _ _ h (a_ref ts rest e d) = ref_behind ts e rest h d
      behind _ _ _ h (a_literal bits rest) = h.1

  terms_again : Again (λ (es : List VExpr). separated m.Amp (map expr_tokens es)) (IsSeparated m.Amp (IsTerm Args))
  terms_again = separated_again expr_tokens m.Amp (IsTerm Args) term_again

  pub expr_again : Again expr_tokens (IsExpr Args)
  expr_again = record { again = again; front = front; behind = behind }
    where
      again : (ts : List Token) (e : VExpr) (rest later : List Token) → AllTokens ts → IsExpr Args ts e rest → IsExpr Args (expr_tokens e ++ later) e later
      again _ _ _ later h (an_expr ts rest parts d) =
          subst (λ z. IsExpr Args (z ++ later) (join_of parts) later) (sym (tokens_join_of parts)) (an_expr (separated m.Amp (map expr_tokens parts) ++ later) later parts (terms_again.again ts parts rest later h d))

      front : (ts : List Token) (e : VExpr) (rest : List Token) → AllTokens ts → IsExpr Args ts e rest → AllTokens (expr_tokens e)
      front _ _ _ h (an_expr ts rest parts d) = subst AllTokens (sym (tokens_join_of parts)) (terms_again.front ts parts rest h d)

      behind : (ts : List Token) (e : VExpr) (rest : List Token) → AllTokens ts → IsExpr Args ts e rest → AllTokens rest
      behind _ _ _ h (an_expr ts rest parts d) = terms_again.behind ts parts rest h d

-- at every level
pub args_again : (n : ℕ) → Again args_tokens (IsArgs n)
args_again zero = record { again = λ ts es rest later h d. absurd d; front = λ ts es rest h d. absurd d; behind = λ ts es rest h d. absurd d }
args_again (suc n) =
    let next = separated_again expr_tokens m.Comma (IsExpr (IsArgs n)) (expr_again (IsArgs n) (args_again n)) in
    record { again = next.again; front = next.front; behind = next.behind }

pub refs_again : (n : ℕ) → Again expr_tokens (IsRef (IsArgs n))
refs_again n = ref_again (IsArgs n) (args_again n)

pub exprs_again : (n : ℕ) → Again expr_tokens (IsExpr (IsArgs n))
exprs_again n = expr_again (IsArgs n) (args_again n)
