-- Where tokens spell something, the canonical tokens of that thing spell it before anything. First for lists of any kind.
use Rattle.std.proofs.Common.{◌≡◌, List, [], ◌∷◌, ◌++◌, map, refl, sym, ap, subst, ◌∙◌, append_assoc, append-nil}
use Rattle.vh_tree.specs.declared.token.Mark.{Mark}
use Rattle.vh_tree.specs.declared.token.Token.{Token}
use Rattle.vh_tree.specs.declared.token.Token.TheVariants as t
use Rattle.vh_tree.specs.VToken.{marks}
use Rattle.vh_tree.specs.Grammar.{IsSeparated, the_last, and_more, IsMany, no_more, one_more}
use Rattle.vh_tree.specs.Canonical.{joined, each_after, separated}
use Rattle.vh_tree_spelling.proofs.Texts.{mark_token, AllTokens}

-- f gives the canonical tokens of what Is spells; `again` says so, and the two others carry that all are tokens of a text
pub record Again {A : Type 0} (f : A → List Token) (Is : List Token → A → List Token → Type 0) : Type 0 where
  pub again : (ts : List Token) (a : A) (rest later : List Token) → AllTokens ts → Is ts a rest → Is (f a ++ later) a later
  pub front : (ts : List Token) (a : A) (rest : List Token) → AllTokens ts → Is ts a rest → AllTokens (f a)
  pub behind : (ts : List Token) (a : A) (rest : List Token) → AllTokens ts → Is ts a rest → AllTokens rest

pub all_both : (a b : List Token) → AllTokens a → AllTokens b → AllTokens (a ++ b)
all_both [] b h k = k
all_both (x ∷ a) b h k = (h.0, all_both a b h.1 k)

pub all_behind : (a b : List Token) → AllTokens (a ++ b) → AllTokens b
all_behind [] b h = h
all_behind (x ∷ a) b h = all_behind a b h.1

pub all_marks : (list : List Mark) → AllTokens (marks list)
all_marks [] = tt
all_marks (a ∷ list) = (mark_token a, all_marks list)

module _ {A : Type 0} (f : A → List Token) (between : Mark) (One : List Token → A → List Token → Type 0) (one : Again f One) where
  more_is : {ts : List Token} {xs : List A} {rest : List Token} → IsSeparated between One ts xs rest → each_after between (map f xs) ≡ t.Mark between ∷ separated between (map f xs)
  more_is (the_last ts rest a d) = refl
  more_is (and_more ts mid rest a others d ds) = refl

  list_again : {ts : List Token} {xs : List A} {rest : List Token} → IsSeparated between One ts xs rest → AllTokens ts → (later : List Token)
      → IsSeparated between One (separated between (map f xs) ++ later) xs later
  list_again (the_last ts rest a d) h later =
      subst (λ z. IsSeparated between One (z ++ later) (a ∷ []) later) (sym (append-nil (f a))) (the_last (f a ++ later) later a (one.again ts a rest later h d))
  list_again (and_more ts mid rest a others d ds) h later =
      let k = one.behind ts a (t.Mark between ∷ mid) h d in
      let next = separated between (map f others) ++ later in
      let whole : (f a ++ each_after between (map f others)) ++ later ≡ f a ++ t.Mark between ∷ next =
      append_assoc (f a) (each_after between (map f others)) later ∙ ap (λ z. f a ++ (z ++ later)) (more_is ds) in
      subst (λ z. IsSeparated between One z (a ∷ others) later) (sym whole)
      (and_more (f a ++ t.Mark between ∷ next) next later a others (one.again ts a (t.Mark between ∷ mid) (t.Mark between ∷ next) h d) (list_again ds k.1 later))

  list_front : {ts : List Token} {xs : List A} {rest : List Token} → IsSeparated between One ts xs rest → AllTokens ts → AllTokens (separated between (map f xs))
  list_front (the_last ts rest a d) h = all_both (f a) [] (one.front ts a rest h d) tt
  list_front (and_more ts mid rest a others d ds) h =
      let k = one.behind ts a (t.Mark between ∷ mid) h d in
      all_both (f a) (each_after between (map f others)) (one.front ts a (t.Mark between ∷ mid) h d) (subst AllTokens (sym (more_is ds)) (mark_token between, list_front ds k.1))

  list_behind : {ts : List Token} {xs : List A} {rest : List Token} → IsSeparated between One ts xs rest → AllTokens ts → AllTokens rest
  list_behind (the_last ts rest a d) h = one.behind ts a rest h d
  list_behind (and_more ts mid rest a others d ds) h = let k = one.behind ts a (t.Mark between ∷ mid) h d in list_behind ds k.1

  pub separated_again : Again (λ (xs : List A). separated between (map f xs)) (IsSeparated between One)
  separated_again = record {
    again = λ ts xs rest later h d. list_again d h later;
    front = λ ts xs rest h d. list_front d h;
    behind = λ ts xs rest h d. list_behind d h;
  }

module _ {A : Type 0} (f : A → List Token) (One : List Token → A → List Token → Type 0) (one : Again f One) where
  run_again : {ts : List Token} {xs : List A} {rest : List Token} → IsMany One ts xs rest → AllTokens ts → (later : List Token) → IsMany One (joined (map f xs) ++ later) xs later
  run_again (no_more ts) h later = no_more later
  run_again (one_more ts mid rest a others d ds) h later =
      let next = joined (map f others) ++ later in
      subst (λ z. IsMany One z (a ∷ others) later) (sym (append_assoc (f a) (joined (map f others)) later))
      (one_more (f a ++ next) next later a others (one.again ts a mid next h d) (run_again ds (one.behind ts a mid h d) later))

  run_front : {ts : List Token} {xs : List A} {rest : List Token} → IsMany One ts xs rest → AllTokens ts → AllTokens (joined (map f xs))
  run_front (no_more ts) h = tt
  run_front (one_more ts mid rest a others d ds) h = all_both (f a) (joined (map f others)) (one.front ts a mid h d) (run_front ds (one.behind ts a mid h d))

  run_behind : {ts : List Token} {xs : List A} {rest : List Token} → IsMany One ts xs rest → AllTokens ts → AllTokens rest
  run_behind (no_more ts) h = h
  run_behind (one_more ts mid rest a others d ds) h = run_behind ds (one.behind ts a mid h d)

  pub many_again : Again (λ (xs : List A). joined (map f xs)) (IsMany One)
  many_again = record {
    again = λ ts xs rest later h d. run_again d h later;
    front = λ ts xs rest h d. run_front d h;
    behind = λ ts xs rest h d. run_behind d h;
  }
