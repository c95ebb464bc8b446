-- The token of a name has the bytes of the name, whether it is that of a port or not.
use Rattle.std.proofs.Common.{◌≡◌, ℕ, true, false, cond, List, [], ◌∷◌, ◌++◌, refl, sym, ap, ◌∙◌}
use Rattle.std.specs.Str.{bytes_eq}
use Rattle.std.proofs.lemmas.Slice.Eq.{bytes_eq-Decides}
use Rattle.vh_tree.specs.declared.token.Mark.{Mark}
use Rattle.vh_tree.specs.declared.token.Mark.TheVariants as m
use Rattle.vh_tree.specs.declared.token.Token.{Token}
use Rattle.vh_tree.specs.declared.token.Token.TheVariants as t
use Rattle.vh_tree.specs.VToken.{name_token, spelling}
use Rattle.vh_tree.specs.Canonical.{with_separator}

-- a token that a name has as its bytes, with a space behind
abbrev Shows : List ℕ → Token → Type 0
Shows x a = with_separator a ≡ x ++ 32 ∷ []

port_shows : (x : List ℕ) (a : Mark) (other : Token) → with_separator (t.Mark a) ≡ spelling a ++ 32 ∷ [] → Shows x other → Shows x (cond (bytes_eq x (spelling a)) (t.Mark a) other)
unfolding with_separator
port_shows x a other s h =
    elim (bytes_eq x (spelling a)) as (λ v. v ≡ bytes_eq x (spelling a) → Shows x (cond v (t.Mark a) other)) [
      | true ↦ (λ e. s ∙ ap (λ z. z ++ 32 ∷ []) (sym ((bytes_eq-Decides x (spelling a)).0 (sym e))))
      | false ↦ (λ e. h)
    ] refl

pub name_shows : (x : List ℕ) → with_separator (name_token x) ≡ x ++ 32 ∷ []
unfolding name_token with_separator
name_shows x = port_shows x m.Inp _ refl (port_shows x m.Outp _ refl (port_shows x m.Clk _ refl (port_shows x m.Rst (t.Id x) refl refl)))
