-- Signatures are read exactly.
use Rattle.std.proofs.Common.{◌≡◌, ℕ, zero, suc, ◌<◌, ◌≤◌, Bool, true, false, ◌||◌, List, [], ◌∷◌, length, drop, Some, None, refl, sym, ap, subst, ◌∙◌, arith, ◌⊎◌, inl, inr}
use Rattle.std.specs.Prelude.{codes}
use Rattle.std.specs.Str.{bytes_eq}
use Rattle.rw_base.specs.declared.place.Span.{Span}
use Rattle.rw_tree.specs.declared.types.Written.{Written}
use Rattle.rw_tree.specs.declared.decl.Decl.{Decl}
use Rattle.rw_tree.specs.declared.decl.Decl.TheVariants as d
use Rattle.rw_parser_grammar.specs.declared.lexeme.Mark.TheVariants as m
use Rattle.rw_parser_grammar.specs.declared.lexeme.Spot.{Spot}
use Rattle.rw_parser_grammar.specs.declared.lexeme.Lexeme.{Lexeme}
use Rattle.rw_parser_grammar.specs.declared.lexeme.Lexeme.TheVariants as t
use Rattle.rw_parser_grammar.specs.Lexemes.{next_spot, span_of}
use Rattle.rw_parser_grammar.specs.Lists.{IsSeparated, the_last, and_more, IsMany, no_more, one_more}
use Rattle.rw_parser_grammar.specs.Types.{IsAtype, a_type_constructor, a_type_variable, a_unit_type, a_type_group, IsBtype, a_btype, IsTypeOver, no_arrow, an_arrow, IsType}
use Rattle.rw_parser_grammar.specs.Declarations.{IsMonad, a_monad, IsContext, no_context, one_monad, some_monads, IsSignedName, a_signed_name, IsSignature, a_signature}
use Rattle.rw_parser_reading.specs.Read.{Read, same_mark, sees, after, separated_at, variable_at}
use Rattle.rw_parser_reading.specs.ReadTypes.{ends_type}
use Rattle.rw_parser_reading.specs.ReadNames.{beyond}
use Rattle.rw_parser_reading.specs.ReadClauses.{ends_entry, variable_name_at}
use Rattle.rw_parser_reading.specs.ReadDeclarations.{class_name_at, monad_at, monads_at, given_context_at, begins_context, context_at, signed_name_at, signature_at}
use Rattle.rw_parser_reading.proofs.ReadExact.{bind_some, chosen, moved, is_same, same_self, seen_is, after_is, after_mark, always, Exact, separated_sound, separated_read, separated_shorter}
use Rattle.rw_parser_laws.proofs.Plain.{beyond_opens, beyond_closes, beyond_comma}
use Rattle.rw_parser_reading.proofs.ReadNames.{name_exact}
use Rattle.rw_parser_laws.proofs.ReadSides.{variable_is}
use Rattle.rw_parser_laws.proofs.ReadImports.{class_is, class_read}
use Rattle.rw_parser_laws.proofs.ReadLocals.{entry_ends}

-- ---- types before `=>`
abbrev pub TypePasses : List Lexeme → List Lexeme → Type 0
TypePasses ts rest = (begins_context ts ≡ false) ⊎ (beyond ts ≡ beyond rest)

type_passes_on : (ts mid rest : List Lexeme) → TypePasses ts mid → TypePasses mid rest → TypePasses ts rest
type_passes_on ts mid rest (inl h) q = inl h
type_passes_on ts mid rest (inr h) (inl k) = inl (ap (sees m.Implies) h ∙ k)
type_passes_on ts mid rest (inr h) (inr k) = inr (h ∙ k)

arrow_no_context : (w : Spot) (ts : List Lexeme) → begins_context (t.Mark w m.Arrow ∷ ts) ≡ false
unfolding same_mark
arrow_no_context w ts = refl

module _ (Inner : List Lexeme → Written → List Lexeme → Type 0) (passes : (ts : List Lexeme) (a : Written) (rest : List Lexeme) → Inner ts a rest → TypePasses ts rest) where
  separated_passes : {ts : List Lexeme} {parts : List Written} {rest : List Lexeme} → IsSeparated m.Comma Inner ts parts rest → TypePasses ts rest
  separated_passes (the_last ts rest a x) = passes ts a rest x
  separated_passes (and_more ts mid rest w a others x xs) = type_passes_on ts (t.Mark w m.Comma ∷ mid) rest (passes ts a _ x) (type_passes_on (t.Mark w m.Comma ∷ mid) mid rest (inr (beyond_comma w mid)) (separated_passes xs))

  atype_passes : (ts : List Lexeme) (a : Written) (rest : List Lexeme) → IsAtype Inner ts a rest → TypePasses ts rest
  unfolding same_mark
  atype_passes _ _ _ (a_type_constructor w name rest) = inr refl
  atype_passes _ _ _ (a_type_variable w name rest) = inr refl
  atype_passes _ _ _ (a_unit_type v w rest) = inr refl
  atype_passes _ _ _ (a_type_group v w ts rest parts x f) =
      type_passes_on (t.Mark v m.Opens ∷ ts) ts rest (inr (beyond_opens v ts)) (type_passes_on ts (t.Mark w m.Closes ∷ rest) rest (separated_passes x) (inr (beyond_closes w rest)))

  atypes_passes : {ts : List Lexeme} {parts : List Written} {rest : List Lexeme} → IsMany (IsAtype Inner) ts parts rest → TypePasses ts rest
  atypes_passes (no_more ts) = inr refl
  atypes_passes (one_more ts mid rest a others x xs) = type_passes_on ts mid rest (atype_passes ts a mid x) (atypes_passes xs)

  btype_passes : (ts : List Lexeme) (a : Written) (rest : List Lexeme) → IsBtype Inner ts a rest → TypePasses ts rest
  btype_passes _ _ _ (a_btype ts mid rest head parts x xs) = type_passes_on ts mid rest (atype_passes ts head mid x) (atypes_passes xs)

  over_passes : (ts : List Lexeme) (a : Written) (rest : List Lexeme) → IsTypeOver Inner ts a rest → TypePasses ts rest
  over_passes _ _ _ (no_arrow ts rest type x) = btype_passes ts type rest x
  over_passes _ _ _ (an_arrow ts mid rest w from to x y) = type_passes_on ts (t.Mark w m.Arrow ∷ mid) rest (btype_passes ts from _ x) (inl (arrow_no_context w mid))

pub type_passes : (n : ℕ) (ts : List Lexeme) (a : Written) (rest : List Lexeme) → IsType n ts a rest → TypePasses ts rest
type_passes zero ts a rest x = absurd x
type_passes (suc n) ts a rest x = over_passes (IsType n) (type_passes n) ts a rest x

entry_no_context : (ts : List Lexeme) → ends_entry ts ≡ true → begins_context ts ≡ false
unfolding same_mark
entry_no_context [] h = absurd (cc)
entry_no_context (t.Mark w a ∷ ts) h =
    elim (one_of (same_mark a m.Semicolon) (same_mark a m.ClosesBlock) h) [
      | inl k ↦ subst (λ z. begins_context (t.Mark w z ∷ ts) ≡ false) (sym (is_same a m.Semicolon k)) refl
      | inr k ↦ subst (λ z. begins_context (t.Mark w z ∷ ts) ≡ false) (sym (is_same a m.ClosesBlock k)) refl
    ]
  where
    one_of : (a b : Bool) → (a || b) ≡ true → (a ≡ true) ⊎ (b ≡ true)
    one_of true b h = inl refl
    one_of false b h = inr h
entry_no_context (t.Variable w name ∷ ts) h = absurd (cc)
entry_no_context (t.Constructor w name ∷ ts) h = absurd (cc)
entry_no_context (t.Operator w name ∷ ts) h = absurd (cc)
entry_no_context (t.Number w digits ∷ ts) h = absurd (cc)

no_context_here : (ts rest : List Lexeme) → TypePasses ts rest → ends_entry rest ≡ true → begins_context ts ≡ false
no_context_here ts rest (inl h) s = h
no_context_here ts rest (inr h) s = ap (sees m.Implies) h ∙ entry_no_context rest s

-- ---- contexts
monad_sound : (ts : List Lexeme) (p : List ℕ × List Lexeme) → monad_at ts ≡ Some p → IsMonad ts p.0 p.1
unfolding monad_at
monad_sound ts p h =
    let c = bind_some (class_name_at ts) _ p h in
    let v = bind_some (variable_at c.0.1) _ p c.2 in
    let x = class_is ts c.0 c.1 in
    elim (chosen (bytes_eq c.0.0 (codes "Monad")) _ _ _ v.2) [
      | inl k ↦ moved (λ z. IsMonad ts z.0 z.1) _ p k.1
          (subst (λ z. IsMonad z v.0.0.1 v.0.1) (sym (x.1 ∙ ap (λ z. t.Constructor x.0 c.0.0 ∷ z) (variable_is c.0.1 v.0 v.1))) (a_monad x.0 v.0.0.0 c.0.0 v.0.0.1 v.0.1 k.0))
      | inr k ↦ absurd (let n : None ≡ Some p = k.1 in cc)
    ]

monad_complete : (ts : List Lexeme) (a : List ℕ) (rest : List Lexeme) → IsMonad ts a rest → always rest ≡ true → monad_at ts ≡ Some (a, rest)
unfolding monad_at
monad_complete _ _ _ (a_monad v w class name rest b) s = rw (class_read v class (t.Variable w name ∷ rest), b)

monad_shorter : (ts : List Lexeme) (a : List ℕ) (rest : List Lexeme) → IsMonad ts a rest → length rest < length ts
monad_shorter _ _ _ (a_monad v w class name rest b) = omega arith

pub monad_exact : Exact monad_at IsMonad always
monad_exact = record { sound = monad_sound; complete = monad_complete; shorter = monad_shorter }

monad_stands : (ts : List Lexeme) (a : List ℕ) (rest : List Lexeme) → IsMonad ts a rest → (beyond ts ≡ beyond rest) × (sees m.Opens ts ≡ false)
monad_stands _ _ _ (a_monad v w class name rest b) = (refl, refl)

monads_beyond : {ts : List Lexeme} {names : List (List ℕ)} {rest : List Lexeme} → IsSeparated m.Comma IsMonad ts names rest → beyond ts ≡ beyond rest
monads_beyond (the_last ts rest a x) = (monad_stands ts a rest x).0
monads_beyond (and_more ts mid rest w a others x xs) = (monad_stands ts a _ x).0 ∙ beyond_comma w mid ∙ monads_beyond xs

closes_no_comma : (w : Spot) (rest : List Lexeme) → sees m.Comma (t.Mark w m.Closes ∷ rest) ≡ false
unfolding same_mark
closes_no_comma w rest = refl

implies_here : (w : Spot) (ts : List Lexeme) → begins_context (t.Mark w m.Implies ∷ ts) ≡ true
unfolding same_mark
implies_here w ts = refl

context_sound : (ts : List Lexeme) (p : List (List ℕ) × List Lexeme) → context_at ts ≡ Some p → IsContext ts p.0 p.1
unfolding context_at given_context_at monads_at
context_sound ts p h =
    elim (chosen (begins_context ts) _ _ _ h) [
      | inl k ↦ elim (chosen (sees m.Opens ts) _ _ _ k.1) [
        | inl b ↦ let a = bind_some (separated_at m.Comma monad_at (length (drop 1 ts)) (drop 1 ts)) _ p b.1 in
            let r = bind_some (after m.Closes a.0.1) _ p a.2 in
            let x = bind_some (after m.Implies r.0) _ p r.2 in
            moved (λ z. IsContext ts z.0 z.1) _ p x.2
            (subst (λ z. IsContext z a.0.0 x.0) (sym (seen_is m.Opens ts b.0))
            (some_monads (next_spot ts) (next_spot a.0.1) (next_spot r.0) (drop 1 ts) x.0 a.0.0
            (subst (IsSeparated m.Comma IsMonad (drop 1 ts) a.0.0) (after_is m.Closes a.0.1 r.0 r.1 ∙ ap (λ z. t.Mark (next_spot a.0.1) m.Closes ∷ z) (after_is m.Implies r.0 x.0 x.1))
            (separated_sound m.Comma monad_at IsMonad always monad_exact (λ w rest. refl) (length (drop 1 ts)) (drop 1 ts) a.0 a.1))))
        | inr b ↦ let a = bind_some (monad_at ts) _ p b.1 in
            let x = bind_some (after m.Implies a.0.1) _ p a.2 in
            moved (λ z. IsContext ts z.0 z.1) _ p x.2 (one_monad (next_spot a.0.1) ts x.0 a.0.0 (subst (IsMonad ts a.0.0) (after_is m.Implies a.0.1 x.0 x.1) (monad_sound ts a.0 a.1)))
      ]
      | inr k ↦ moved (λ z. IsContext ts z.0 z.1) _ p k.1 (no_context ts)
    ]

absent_read : (ts : List Lexeme) → begins_context ts ≡ false → context_at ts ≡ Some ([], ts)
unfolding context_at
absent_read ts h = rw h

one_read : (w : Spot) (ts rest : List Lexeme) (name : List ℕ) → begins_context ts ≡ true → sees m.Opens ts ≡ false → monad_at ts ≡ Some (name, t.Mark w m.Implies ∷ rest) → context_at ts ≡ Some (name ∷ [], rest)
unfolding context_at given_context_at
one_read w ts rest name b o h = rw (b, o, h, after_mark m.Implies w rest)

some_read : (u v w : Spot) (ts rest : List Lexeme) (names : List (List ℕ)) → begins_context ts ≡ true → separated_at m.Comma monad_at (length ts) ts ≡ Some (names, t.Mark v m.Closes ∷ t.Mark w m.Implies ∷ rest)
    → context_at (t.Mark u m.Opens ∷ ts) ≡ Some (names, rest)
unfolding context_at given_context_at monads_at
some_read u v w ts rest names b h = rw (opens_context u ts, b, same_self m.Opens, h, after_mark m.Closes v (t.Mark w m.Implies ∷ rest), after_mark m.Implies w rest)
  where
    opens_context : (u : Spot) (ts : List Lexeme) → begins_context (t.Mark u m.Opens ∷ ts) ≡ begins_context ts
    opens_context u ts = ap (sees m.Implies) (beyond_opens u ts)

context_complete : (ts : List Lexeme) (a : List (List ℕ)) (rest : List Lexeme) → IsContext ts a rest → begins_context rest ≡ false → context_at ts ≡ Some (a, rest)
context_complete _ _ _ (no_context ts) s = absent_read ts s
context_complete _ _ _ (one_monad w ts rest name x) s = one_read w ts rest name (ap (sees m.Implies) (monad_stands ts name _ x).0 ∙ implies_here w rest) (monad_stands ts name _ x).1 (monad_complete ts name _ x refl)
context_complete _ _ _ (some_monads u v w ts rest names xs) s =
    some_read u v w ts rest names (ap (sees m.Implies) (monads_beyond xs ∙ beyond_closes v (t.Mark w m.Implies ∷ rest)) ∙ implies_here w rest)
    (separated_read m.Comma monad_at IsMonad always monad_exact (λ y ys. refl) xs (length ts) (omega arith) (closes_no_comma v (t.Mark w m.Implies ∷ rest)) refl)

context_shorter : (ts : List Lexeme) (a : List (List ℕ)) (rest : List Lexeme) → IsContext ts a rest → length rest ≤ length ts
context_shorter _ _ _ (no_context ts) = omega arith
context_shorter _ _ _ (one_monad w ts rest name x) = let h = monad_shorter ts name _ x in omega arith
context_shorter _ _ _ (some_monads u v w ts rest names xs) = let h = separated_shorter m.Comma monad_at IsMonad always monad_exact (λ y ys. refl) xs in omega arith

-- ---- signatures
signed_sound : (ts : List Lexeme) (p : List ℕ × List Lexeme) → signed_name_at ts ≡ Some p → IsSignedName ts p.0 p.1
unfolding signed_name_at
signed_sound ts p h = let v = bind_some (variable_name_at ts) _ p h in moved (λ z. IsSignedName ts z.0 z.1) _ p v.2 (a_signed_name ts v.0.1 v.0.0.0 v.0.0.1 (name_exact.sound ts v.0 v.1))

signed_read : (ts rest : List Lexeme) (w : Spot) (name : List ℕ) → variable_name_at ts ≡ Some ((w, name), rest) → signed_name_at ts ≡ Some (name, rest)
unfolding signed_name_at
signed_read ts rest w name h = rw h

signed_complete : (ts : List Lexeme) (a : List ℕ) (rest : List Lexeme) → IsSignedName ts a rest → always rest ≡ true → signed_name_at ts ≡ Some (a, rest)
signed_complete _ _ _ (a_signed_name ts rest w name x) s = signed_read ts rest w name (name_exact.complete ts (w, name) rest x refl)

signed_shorter : (ts : List Lexeme) (a : List ℕ) (rest : List Lexeme) → IsSignedName ts a rest → length rest < length ts
signed_shorter _ _ _ (a_signed_name ts rest w name x) = name_exact.shorter ts (w, name) rest x

pub signed_exact : Exact signed_name_at IsSignedName always
signed_exact = record { sound = signed_sound; complete = signed_complete; shorter = signed_shorter }

colons_no_comma : (w : Spot) (rest : List Lexeme) → sees m.Comma (t.Mark w m.Colons ∷ rest) ≡ false
unfolding same_mark
colons_no_comma w rest = refl

module _ (inner : List Lexeme → Read Written) (Inner : List Lexeme → Written → List Lexeme → Type 0) (exact : Exact inner Inner ends_type)
    (passes : (ts : List Lexeme) (a : Written) (rest : List Lexeme) → Inner ts a rest → TypePasses ts rest) where
  signature_sound : (ts : List Lexeme) (p : Decl Span × List Lexeme) → signature_at inner ts ≡ Some p → IsSignature Inner ts p.0 p.1
  unfolding signature_at
  signature_sound ts p h =
      let a = bind_some (separated_at m.Comma signed_name_at (length ts) ts) _ p h in
      let r = bind_some (after m.Colons a.0.1) _ p a.2 in
      let c = bind_some (context_at r.0) _ p r.2 in
      let y = bind_some (inner c.0.1) _ p c.2 in
      moved (λ z. IsSignature Inner ts z.0 z.1) _ p y.2
      (a_signature (next_spot a.0.1) ts r.0 c.0.1 y.0.1 a.0.0 c.0.0 y.0.0
      (subst (IsSeparated m.Comma IsSignedName ts a.0.0) (after_is m.Colons a.0.1 r.0 r.1) (separated_sound m.Comma signed_name_at IsSignedName always signed_exact (λ w rest. refl) (length ts) ts a.0 a.1))
      (context_sound r.0 c.0 c.1) (exact.sound c.0.1 y.0 y.1))

  signature_read : (w : Spot) (ts mid next rest : List Lexeme) (names monads : List (List ℕ)) (type : Written) → separated_at m.Comma signed_name_at (length ts) ts ≡ Some (names, t.Mark w m.Colons ∷ mid)
      → context_at mid ≡ Some (monads, next) → inner next ≡ Some (type, rest) → signature_at inner ts ≡ Some (d.Sig (span_of ts rest) names type, rest)
  unfolding signature_at
  signature_read w ts mid next rest names monads type h g k = rw (h, after_mark m.Colons w mid, g, k)

  signature_complete : (ts : List Lexeme) (a : Decl Span) (rest : List Lexeme) → IsSignature Inner ts a rest → ends_entry rest ≡ true → signature_at inner ts ≡ Some (a, rest)
  signature_complete _ _ _ (a_signature w ts mid next rest names monads type xs c y) s =
      signature_read w ts mid next rest names monads type (separated_read m.Comma signed_name_at IsSignedName always signed_exact (λ z zs. refl) xs (length ts) (omega arith) (colons_no_comma w mid) refl)
      (context_complete mid monads next c (no_context_here next rest (passes next type rest y) s)) (exact.complete next type rest y (entry_ends rest s).type)

  signature_shorter : (ts : List Lexeme) (a : Decl Span) (rest : List Lexeme) → IsSignature Inner ts a rest → length rest < length ts
  signature_shorter _ _ _ (a_signature w ts mid next rest names monads type xs c y) =
      let h = separated_shorter m.Comma signed_name_at IsSignedName always signed_exact (λ z zs. refl) xs in let j = context_shorter mid monads next c in let k = exact.shorter next type rest y in omega arith

  pub signature_exact : Exact (signature_at inner) (IsSignature Inner) ends_entry
  signature_exact = record { sound = signature_sound; complete = signature_complete; shorter = signature_shorter }
