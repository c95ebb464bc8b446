-- Types are read exactly.
use Rattle.std.proofs.Common.{◌≡◌, ℕ, zero, suc, ◌<◌, true, false, List, [], ◌∷◌, length, drop, Some, None, refl, sym, subst, ◌∙◌, arith, inl, inr}
use Rattle.rw_tree.specs.declared.types.Written.{Written}
use Rattle.rw_tree.specs.declared.types.Written.TheVariants as y
use Rattle.rw_parser_grammar.specs.declared.lexeme.Mark.TheVariants as m
use Rattle.rw_parser_grammar.specs.declared.lexeme.Spot.{Spot}
use Rattle.rw_parser_grammar.specs.declared.lexeme.Lexeme.{Lexeme}
use Rattle.rw_parser_grammar.specs.declared.lexeme.Lexeme.TheVariants as t
use Rattle.rw_parser_grammar.specs.Lexemes.{next_spot}
use Rattle.rw_parser_grammar.specs.Lists.{IsSeparated, IsMany}
use Rattle.rw_parser_grammar.specs.Types.{few, grouped_type, applied_type, IsAtype, a_type_constructor, a_type_variable, a_unit_type, a_type_group, IsBtype, a_btype, IsTypeOver, no_arrow, an_arrow, IsType}
use Rattle.rw_parser_reading.specs.Read.{Read, same_mark, sees, after, separated_at}
use Rattle.rw_parser_reading.specs.ReadTypes.{ends_btype, ends_type, begins_atype, some_types_at, type_group_at, atype_at, atypes_at, btype_at, type_over_at, type_at}
use Rattle.rw_parser_reading.proofs.ReadExact.{bind_some, chosen, moved, not_true, neither, is_same, same_self, seen_is, after_is, after_mark, always, Exact, Runs, separated_sound, separated_read, separated_shorter, first_has, many_runs}

-- ---- what may follow
pub type_no_arrow : (ts : List Lexeme) → ends_type ts ≡ true → sees m.Arrow ts ≡ false
type_no_arrow ts e = (neither (sees m.Arrow ts) (begins_atype ts) e).0

pub type_ends_btype : (ts : List Lexeme) → ends_type ts ≡ true → ends_btype ts ≡ true
type_ends_btype ts e = (neither (sees m.Arrow ts) (begins_atype ts) e).1

comma_ends : (w : Spot) (rest : List Lexeme) → ends_type (t.Mark w m.Comma ∷ rest) ≡ true
unfolding same_mark
comma_ends w rest = refl

closes_ends : (w : Spot) (rest : List Lexeme) → ends_type (t.Mark w m.Closes ∷ rest) ≡ true
unfolding same_mark
closes_ends w rest = refl

closes_no_comma : (w : Spot) (rest : List Lexeme) → sees m.Comma (t.Mark w m.Closes ∷ rest) ≡ false
unfolding same_mark
closes_no_comma w rest = refl

arrow_ends_btype : (w : Spot) (rest : List Lexeme) → ends_btype (t.Mark w m.Arrow ∷ rest) ≡ true
unfolding same_mark
arrow_ends_btype w rest = refl

module _ (inner : List Lexeme → Read Written) (Inner : List Lexeme → Written → List Lexeme → Type 0) (exact : Exact inner Inner ends_type)
    (opens : (ts : List Lexeme) (type : Written) (rest : List Lexeme) → Inner ts type rest → sees m.Closes ts ≡ false) where
  -- ---- atype
  some_sound : (w : Spot) (ts : List Lexeme) (p : Written × List Lexeme) → some_types_at inner ts ≡ Some p → IsAtype Inner (t.Mark w m.Opens ∷ ts) p.0 p.1
  unfolding some_types_at
  some_sound w ts p e =
      let q = bind_some (separated_at m.Comma inner (length ts) ts) _ p e in
      let r = bind_some (after m.Closes q.0.1) _ p q.2 in
      elim (chosen (few q.0.0) _ _ _ r.2) [
        | inl h ↦ moved (λ z. IsAtype Inner (t.Mark w m.Opens ∷ ts) z.0 z.1) _ p h.1
            (a_type_group w (next_spot q.0.1) ts r.0 q.0.0
            (subst (IsSeparated m.Comma Inner ts q.0.0) (after_is m.Closes q.0.1 r.0 r.1) (separated_sound m.Comma inner Inner ends_type exact comma_ends (length ts) ts q.0 q.1)) h.0)
        | inr h ↦ absurd (let n : None ≡ Some p = h.1 in cc)
      ]

  group_sound : (w : Spot) (ts : List Lexeme) (p : Written × List Lexeme) → type_group_at inner ts ≡ Some p → IsAtype Inner (t.Mark w m.Opens ∷ ts) p.0 p.1
  unfolding type_group_at
  group_sound w ts p e =
      elim (chosen (sees m.Closes ts) _ _ _ e) [
        | inl h ↦ subst (λ z. IsAtype Inner (t.Mark w m.Opens ∷ z) p.0 p.1) (sym (seen_is m.Closes ts h.0))
            (moved (λ z. IsAtype Inner (t.Mark w m.Opens ∷ t.Mark (next_spot ts) m.Closes ∷ drop 1 ts) z.0 z.1) _ p h.1 (a_unit_type w (next_spot ts) (drop 1 ts)))
        | inr h ↦ some_sound w ts p h.1
      ]

  pub atype_sound : (ts : List Lexeme) (p : Written × List Lexeme) → atype_at inner ts ≡ Some p → IsAtype Inner ts p.0 p.1
  atype_sound [] p e = absurd (cc)
  atype_sound (t.Mark w a ∷ ts) p e =
      elim (chosen (same_mark a m.Opens) _ _ _ e) [
        | inl h ↦ subst (λ z. IsAtype Inner (t.Mark w z ∷ ts) p.0 p.1) (sym (is_same a m.Opens h.0)) (group_sound w ts p h.1)
        | inr h ↦ absurd (let n : None ≡ Some p = h.1 in cc)
      ]
  atype_sound (t.Variable w name ∷ ts) p e = moved (λ z. IsAtype Inner (t.Variable w name ∷ ts) z.0 z.1) _ p e (a_type_variable w name ts)
  atype_sound (t.Constructor w name ∷ ts) p e = moved (λ z. IsAtype Inner (t.Constructor w name ∷ ts) z.0 z.1) _ p e (a_type_constructor w name ts)
  atype_sound (t.Operator w name ∷ ts) p e = absurd (cc)
  atype_sound (t.Number w digits ∷ ts) p e = absurd (cc)

  opened_read : (w : Spot) (ts : List Lexeme) → atype_at inner (t.Mark w m.Opens ∷ ts) ≡ type_group_at inner ts
  opened_read w ts = rw (same_self m.Opens)

  unit_read : (w : Spot) (rest : List Lexeme) → type_group_at inner (t.Mark w m.Closes ∷ rest) ≡ Some (y.Tuple [], rest)
  unfolding type_group_at
  unit_read w rest = rw (same_self m.Closes)

  group_read : (w : Spot) (ts rest : List Lexeme) (parts : List Written) → sees m.Closes ts ≡ false → separated_at m.Comma inner (length ts) ts ≡ Some (parts, t.Mark w m.Closes ∷ rest) → few parts ≡ true
      → type_group_at inner ts ≡ Some (grouped_type parts, rest)
  unfolding type_group_at some_types_at
  group_read w ts rest parts c h f = rw (c, h, after_mark m.Closes w rest, f)

  pub atype_complete : (ts : List Lexeme) (type : Written) (rest : List Lexeme) → IsAtype Inner ts type rest → always rest ≡ true → atype_at inner ts ≡ Some (type, rest)
  atype_complete _ _ _ (a_type_constructor w name rest) s = refl
  atype_complete _ _ _ (a_type_variable w name rest) s = refl
  atype_complete _ _ _ (a_unit_type v w rest) s = opened_read v (t.Mark w m.Closes ∷ rest) ∙ unit_read w rest
  atype_complete _ _ _ (a_type_group v w ts rest parts d f) s =
      opened_read v ts
      ∙ group_read w ts rest parts (first_has (sees m.Closes) false opens d)
      (separated_read m.Comma inner Inner ends_type exact comma_ends d (length ts) (omega arith) (closes_no_comma w rest) (closes_ends w rest)) f

  pub atype_shorter : (ts : List Lexeme) (type : Written) (rest : List Lexeme) → IsAtype Inner ts type rest → length rest < length ts
  atype_shorter _ _ _ (a_type_constructor w name rest) = omega arith
  atype_shorter _ _ _ (a_type_variable w name rest) = omega arith
  atype_shorter _ _ _ (a_unit_type v w rest) = omega arith
  atype_shorter _ _ _ (a_type_group v w ts rest parts d f) = let h = separated_shorter m.Comma inner Inner ends_type exact comma_ends d in omega arith

  pub atype_exact : Exact (atype_at inner) (IsAtype Inner) always
  atype_exact = record { sound = atype_sound; complete = atype_complete; shorter = atype_shorter }

  pub atype_begins : (ts : List Lexeme) (type : Written) (rest : List Lexeme) → IsAtype Inner ts type rest → begins_atype ts ≡ true
  unfolding same_mark
  atype_begins _ _ _ (a_type_constructor w name rest) = refl
  atype_begins _ _ _ (a_type_variable w name rest) = refl
  atype_begins _ _ _ (a_unit_type v w rest) = refl
  atype_begins _ _ _ (a_type_group v w ts rest parts d f) = refl

  atype_opens : (ts : List Lexeme) (type : Written) (rest : List Lexeme) → IsAtype Inner ts type rest → sees m.Closes ts ≡ false
  unfolding same_mark
  atype_opens _ _ _ (a_type_constructor w name rest) = refl
  atype_opens _ _ _ (a_type_variable w name rest) = refl
  atype_opens _ _ _ (a_unit_type v w rest) = refl
  atype_opens _ _ _ (a_type_group v w ts rest parts d f) = refl

  -- ---- btype
  pub atypes_runs : Runs (atypes_at inner) (IsMany (IsAtype Inner)) ends_btype
  unfolding atypes_at
  atypes_runs = many_runs begins_atype (atype_at inner) (IsAtype Inner) always atype_exact atype_begins (λ ts b. refl) ends_btype (λ rest e. not_true _ e) (λ rest e. refl)

  btype_sound : (ts : List Lexeme) (p : Written × List Lexeme) → btype_at inner ts ≡ Some p → IsBtype Inner ts p.0 p.1
  unfolding btype_at
  btype_sound ts p e =
      let a = bind_some (atype_at inner ts) _ p e in
      let q = bind_some (atypes_at inner a.0.1) _ p a.2 in
      moved (λ z. IsBtype Inner ts z.0 z.1) _ p q.2 (a_btype ts a.0.1 q.0.1 a.0.0 q.0.0 (atype_sound ts a.0 a.1) (atypes_runs.sound a.0.1 q.0 q.1))

  btype_read : (ts mid rest : List Lexeme) (head : Written) (parts : List Written) → atype_at inner ts ≡ Some (head, mid) → atypes_at inner mid ≡ Some (parts, rest) → btype_at inner ts ≡ Some (applied_type head parts, rest)
  unfolding btype_at
  btype_read ts mid rest head parts h g = rw (h, g)

  btype_complete : (ts : List Lexeme) (type : Written) (rest : List Lexeme) → IsBtype Inner ts type rest → ends_btype rest ≡ true → btype_at inner ts ≡ Some (type, rest)
  btype_complete _ _ _ (a_btype ts mid rest head parts d ds) s = btype_read ts mid rest head parts (atype_complete ts head mid d refl) (atypes_runs.complete mid parts rest ds s)

  btype_shorter : (ts : List Lexeme) (type : Written) (rest : List Lexeme) → IsBtype Inner ts type rest → length rest < length ts
  btype_shorter _ _ _ (a_btype ts mid rest head parts d ds) = let h = atype_shorter ts head mid d in let k = atypes_runs.shorter mid parts rest ds in omega arith

  btype_opens : (ts : List Lexeme) (type : Written) (rest : List Lexeme) → IsBtype Inner ts type rest → sees m.Closes ts ≡ false
  btype_opens _ _ _ (a_btype ts mid rest head parts d ds) = atype_opens ts head mid d

  -- ---- type
  over_sound : (ts : List Lexeme) (p : Written × List Lexeme) → type_over_at inner ts ≡ Some p → IsTypeOver Inner ts p.0 p.1
  unfolding type_over_at
  over_sound ts p e =
      let a = bind_some (btype_at inner ts) _ p e in
      elim (chosen (sees m.Arrow a.0.1) _ _ _ a.2) [
        | inl h ↦ let q = bind_some (inner (drop 1 a.0.1)) _ p h.1 in
            moved (λ z. IsTypeOver Inner ts z.0 z.1) _ p q.2
            (an_arrow ts (drop 1 a.0.1) q.0.1 (next_spot a.0.1) a.0.0 q.0.0 (subst (IsBtype Inner ts a.0.0) (seen_is m.Arrow a.0.1 h.0) (btype_sound ts a.0 a.1)) (exact.sound (drop 1 a.0.1) q.0 q.1))
        | inr h ↦ moved (λ z. IsTypeOver Inner ts z.0 z.1) _ p h.1 (no_arrow ts a.0.1 a.0.0 (btype_sound ts a.0 a.1))
      ]

  alone_read : (ts rest : List Lexeme) (type : Written) → btype_at inner ts ≡ Some (type, rest) → sees m.Arrow rest ≡ false → type_over_at inner ts ≡ Some (type, rest)
  unfolding type_over_at
  alone_read ts rest type h c = rw (h, c)

  arrow_read : (w : Spot) (ts mid rest : List Lexeme) (from to : Written) → btype_at inner ts ≡ Some (from, t.Mark w m.Arrow ∷ mid) → inner mid ≡ Some (to, rest) → type_over_at inner ts ≡ Some (y.Fun from to, rest)
  unfolding type_over_at
  arrow_read w ts mid rest from to h g = rw (h, same_self m.Arrow, g)

  over_complete : (ts : List Lexeme) (type : Written) (rest : List Lexeme) → IsTypeOver Inner ts type rest → ends_type rest ≡ true → type_over_at inner ts ≡ Some (type, rest)
  over_complete _ _ _ (no_arrow ts rest type d) s = alone_read ts rest type (btype_complete ts type rest d (type_ends_btype rest s)) (type_no_arrow rest s)
  over_complete _ _ _ (an_arrow ts mid rest w from to d h) s = arrow_read w ts mid rest from to (btype_complete ts from _ d (arrow_ends_btype w mid)) (exact.complete mid to rest h s)

  over_shorter : (ts : List Lexeme) (type : Written) (rest : List Lexeme) → IsTypeOver Inner ts type rest → length rest < length ts
  over_shorter _ _ _ (no_arrow ts rest type d) = btype_shorter ts type rest d
  over_shorter _ _ _ (an_arrow ts mid rest w from to d h) = let a = btype_shorter ts from _ d in let b = exact.shorter mid to rest h in omega arith

  pub over_exact : Exact (type_over_at inner) (IsTypeOver Inner) ends_type
  over_exact = record { sound = over_sound; complete = over_complete; shorter = over_shorter }

  pub over_opens : (ts : List Lexeme) (type : Written) (rest : List Lexeme) → IsTypeOver Inner ts type rest → sees m.Closes ts ≡ false
  over_opens _ _ _ (no_arrow ts rest type d) = btype_opens ts type rest d
  over_opens _ _ _ (an_arrow ts mid rest w from to d h) = btype_opens ts from _ d

-- ---- at each level
abbrev pub TypeLevel : ℕ → Type 0
TypeLevel n = Exact (type_at n) (IsType n) ends_type × ((ts : List Lexeme) (type : Written) (rest : List Lexeme) → IsType n ts type rest → sees m.Closes ts ≡ false)

level_zero : TypeLevel 0
unfolding type_at
level_zero = (record { sound = λ ts p e. absurd (cc); complete = λ ts type rest d s. absurd d; shorter = λ ts type rest d. absurd d }, λ ts type rest d. absurd d)

level_next : (n : ℕ) → TypeLevel n → TypeLevel (suc n)
unfolding type_at
level_next n h = (over_exact (type_at n) (IsType n) h.0 h.1, over_opens (type_at n) (IsType n) h.0 h.1)

pub type_level : (n : ℕ) → TypeLevel n
type_level zero = level_zero
type_level (suc n) = level_next n (type_level n)
