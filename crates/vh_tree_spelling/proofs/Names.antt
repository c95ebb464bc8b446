-- The token of a name that a text spells is that token.
use Rattle.std.proofs.Common.{◌≡◌, ℕ, Bool, true, false, cond, List, Some, refl, sym, ap, subst, ◌∙◌}
use Rattle.std.specs.Prelude.{codes, bytes_eq}
use Rattle.std.specs.List.{list_any}
use Rattle.std.specs.Char.{is_ascii_digit}
use Rattle.std.proofs.lemmas.Slice.Eq.{bytes_eq-Decides}
use Rattle.vh_tree.specs.declared.token.Mark.{Mark}
use Rattle.vh_tree.specs.declared.token.Mark.TheVariants as m
use Rattle.vh_tree.specs.declared.token.Token.{Token}
use Rattle.vh_tree.specs.declared.token.Token.TheVariants as t
use Rattle.vh_tree.specs.declared.token.Side.{Side}
use Rattle.vh_tree.specs.declared.token.Side.TheVariants as side
use Rattle.vh_tree.specs.VToken.{spelling, name_token}
use Rattle.vh_tree.specs.Grammar.{name_of, target_of, sensitive_of}
use Rattle.vh_tree_spelling.proofs.Texts.{IsToken, mark_token, id_token, number_token, bits_token}

-- a word with a digit is none without
no_port : (a : Mark) → list_any is_ascii_digit (spelling a) ≡ false → (x : List ℕ) → list_any is_ascii_digit x ≡ true → bytes_eq x (spelling a) ≡ false
no_port a n x d = elim (bytes_eq x (spelling a)) as (λ v. v ≡ bytes_eq x (spelling a) → v ≡ false) [
  | true ↦ (λ e. let s : x ≡ spelling a = (bytes_eq-Decides x (spelling a)).0 (sym e) in absurd (let f : list_any is_ascii_digit (spelling a) ≡ true = subst (λ z. list_any is_ascii_digit z ≡ true) s d in cc))
  | false ↦ (λ e. refl)
] refl

other : (c : Bool) (x y : Token) → c ≡ false → cond c x y ≡ y
other c x y e = ap (λ z. cond z x y) e

pub id_named : (x : List ℕ) → list_any is_ascii_digit x ≡ true → name_token x ≡ t.Id x
unfolding name_token
id_named x d =
    other _ (t.Mark m.Inp) _ (no_port m.Inp refl x d) ∙ other _ (t.Mark m.Outp) _ (no_port m.Outp refl x d)
    ∙ other _ (t.Mark m.Clk) _ (no_port m.Clk refl x d) ∙ other _ (t.Mark m.Rst) _ (no_port m.Rst refl x d)

pub inp_named : name_token (codes "inp") ≡ t.Mark m.Inp
unfolding name_token
inp_named = refl

pub outp_named : name_token (codes "outp") ≡ t.Mark m.Outp
unfolding name_token
outp_named = refl

pub clk_named : name_token (codes "clk") ≡ t.Mark m.Clk
unfolding name_token
clk_named = refl

pub rst_named : name_token (codes "rst") ≡ t.Mark m.Rst
unfolding name_token
rst_named = refl

port_is : (a : Mark) (port name : List ℕ) → name_token port ≡ t.Mark a → Some port ≡ Some name → t.Mark a ≡ name_token name
port_is a port name e h = let s : port ≡ name = cc in sym e ∙ ap name_token s

named_is : (y name : List ℕ) → list_any is_ascii_digit y ≡ true → Some y ≡ Some name → t.Id y ≡ name_token name
named_is y name d h = let s : y ≡ name = cc in sym (id_named y d) ∙ ap name_token s

pub id_is : (name : List ℕ) → IsToken (t.Id name) → t.Id name ≡ name_token name
id_is name k = at (t.Id name) k name refl
  where
    at : (x : Token) → IsToken x → (name : List ℕ) → x ≡ t.Id name → x ≡ name_token name
    at _ (mark_token a) name e = absurd (cc)
    at _ (id_token y b a l k d) name e = let s : y ≡ name = cc in named_is y name d (ap Some s)
    at _ (number_token n l a) name e = absurd (cc)
    at _ (bits_token bits some) name e = absurd (cc)

pub name_is : (x : Token) (name : List ℕ) → IsToken x → name_of x ≡ Some name → x ≡ name_token name
name_is _ name (mark_token m.Inp) e = port_is m.Inp (codes "inp") name inp_named e
name_is _ name (mark_token a) e = absurd (cc)
name_is _ name (id_token y b a l k d) e = named_is y name d e
name_is _ name (number_token n l a) e = absurd (cc)
name_is _ name (bits_token bits some) e = absurd (cc)

pub target_is : (at : Side) (x : Token) (name : List ℕ) → IsToken x → target_of at x ≡ Some name → x ≡ name_token name
target_is side.Process _ name (mark_token m.Outp) e = port_is m.Outp (codes "outp") name outp_named e
target_is side.Process _ name (mark_token a) e = absurd (cc)
target_is side.Function _ name (mark_token a) e = absurd (cc)
target_is at _ name (id_token y b a l k d) e = named_is y name d e
target_is at _ name (number_token n l a) e = absurd (cc)
target_is at _ name (bits_token bits some) e = absurd (cc)

pub sensitive_is : (x : Token) (name : List ℕ) → IsToken x → sensitive_of x ≡ Some name → x ≡ name_token name
sensitive_is _ name (mark_token m.Clk) e = port_is m.Clk (codes "clk") name clk_named e
sensitive_is _ name (mark_token m.Rst) e = port_is m.Rst (codes "rst") name rst_named e
sensitive_is _ name (mark_token m.Inp) e = port_is m.Inp (codes "inp") name inp_named e
sensitive_is _ name (mark_token a) e = absurd (cc)
sensitive_is _ name (id_token y b a l k d) e = named_is y name d e
sensitive_is _ name (number_token n l a) e = absurd (cc)
sensitive_is _ name (bits_token bits some) e = absurd (cc)
