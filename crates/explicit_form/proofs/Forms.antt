-- The readers of the explicit form are exact.
use Rattle.std.proofs.Common.{◌≡◌, ℕ, ◌<◌, true, false, List, [], ◌∷◌, length, Some, None, refl, sym, ap, subst, ◌∙◌, arith, inl, inr}
use Rattle.std.specs.Prelude.{codes, nat_lt}
use Rattle.rw_lex.specs.declared.token.TokenKind.TheVariants.{Variable, Constructor}
use Rattle.explicit_form.specs.declared.form.Data.{Data}
use Rattle.explicit_form.specs.declared.form.Ports.{Ports}
use Rattle.explicit_form.specs.declared.form.Arm.{Arm}
use Rattle.explicit_form.specs.declared.form.Function.{Function}
use Rattle.explicit_form.specs.declared.form.Form.{Form}
use Rattle.explicit_form.specs.Words.{Word, same_kind, sees, variable, constructor, keyword, operator, special}
use Rattle.explicit_form.specs.Lists.{IsSeparated, IsMany}
use Rattle.explicit_form.specs.Grammar.{IsConstructor, a_constructor, IsData, a_data, type_then, signature_then, body_then, IsArm, an_arm, IsFunction, a_function, IsForm, a_form}
use Rattle.explicit_form.specs.Read.{after, name_at, separated_at, constructors_at, data_at, datas_at, unit_at, ports_at, type_at, binding_at, start_at, arm_at, arms_at, signature_at, signal_at, lambda_at, case_at, choice_at, function_at, functions_at, if_ended, form_at}
use Rattle.explicit_form.proofs.Exact.{bind_some, chosen, some_is, moved, word_seen, after_is, after_word, name_is, name_word_read, Exact, separated_sound, separated_shorter, separated_read, many_sound, many_read}

-- ---- C
constructor_sound : (ts : List Word) (p : List ℕ × List Word) → name_at Constructor ts ≡ Some p → IsConstructor ts p.0 p.1
constructor_sound ts p e = subst (λ z. IsConstructor z p.0 p.1) (sym (name_is Constructor ts p e)) (a_constructor p.0 p.1)

constructor_complete : (ts : List Word) (name : List ℕ) (rest : List Word) → IsConstructor ts name rest → name_at Constructor ts ≡ Some (name, rest)
constructor_complete _ _ _ (a_constructor name rest) = name_word_read Constructor name rest

constructor_shorter : (ts : List Word) (name : List ℕ) (rest : List Word) → IsConstructor ts name rest → length rest < length ts
constructor_shorter _ _ _ (a_constructor name rest) = omega arith

constructor_exact : Exact (name_at Constructor) IsConstructor
constructor_exact = record { sound = constructor_sound; complete = constructor_complete; shorter = constructor_shorter }

-- ---- data
data_sound : (ts : List Word) (p : Data × List Word) → data_at ts ≡ Some p → IsData ts p.0 p.1
unfolding data_at constructors_at
data_sound ts p e =
    let a = bind_some (after (keyword (codes "data")) ts) _ p e in
    let b = bind_some (name_at Constructor a.0) _ p a.2 in
    let c = bind_some (after (operator (codes "=")) b.0.1) _ p b.2 in
    let d = bind_some (separated_at (operator (codes "|")) (name_at Constructor) (length c.0) c.0) _ p c.2 in
    let f = bind_some (after (special (codes ";")) d.0.1) _ p d.2 in
    let inside : IsSeparated (operator (codes "|")) IsConstructor c.0 d.0.0 (special (codes ";") ∷ f.0) =
    subst (λ z. IsSeparated (operator (codes "|")) IsConstructor c.0 d.0.0 z) (after_is (special (codes ";")) d.0.1 f.0 f.1) (separated_sound (operator (codes "|")) (name_at Constructor) IsConstructor constructor_exact (length c.0) c.0 d.0 d.1) in
    let whole : ts ≡ keyword (codes "data") ∷ constructor b.0.0 ∷ operator (codes "=") ∷ c.0 =
    after_is (keyword (codes "data")) ts a.0 a.1 ∙ ap (λ z. keyword (codes "data") ∷ z) (name_is Constructor a.0 b.0 b.1 ∙ ap (λ z. constructor b.0.0 ∷ z) (after_is (operator (codes "=")) b.0.1 c.0 c.1)) in
    moved (λ q. IsData ts q.0 q.1) _ p f.2 (subst (λ z. IsData z (record { name = b.0.0; constructors = d.0.0 }) f.0) (sym whole) (a_data b.0.0 d.0.0 c.0 f.0 inside))

data_parts : (name : List ℕ) (cs : List (List ℕ)) (ts rest : List Word) → constructors_at ts ≡ Some (cs, special (codes ";") ∷ rest)
    → data_at (keyword (codes "data") ∷ constructor name ∷ operator (codes "=") ∷ ts) ≡ Some (record { name = name; constructors = cs }, rest)
unfolding data_at
data_parts name cs ts rest h =
    rw (after_word (keyword (codes "data")) (constructor name ∷ operator (codes "=") ∷ ts), name_word_read Constructor name (operator (codes "=") ∷ ts), after_word (operator (codes "=")) ts, h, after_word (special (codes ";")) rest)

bar_no_semicolon : (rest : List Word) → sees (operator (codes "|")) (special (codes ";") ∷ rest) ≡ false
unfolding same_kind
bar_no_semicolon rest = refl

constructors_read : (ts : List Word) (cs : List (List ℕ)) (rest : List Word) → IsSeparated (operator (codes "|")) IsConstructor ts cs (special (codes ";") ∷ rest)
    → constructors_at ts ≡ Some (cs, special (codes ";") ∷ rest)
unfolding constructors_at
constructors_read ts cs rest d = separated_read (operator (codes "|")) (name_at Constructor) IsConstructor constructor_exact d (length ts) (omega arith) (bar_no_semicolon rest)

data_complete : (ts : List Word) (data' : Data) (rest : List Word) → IsData ts data' rest → data_at ts ≡ Some (data', rest)
data_complete _ _ _ (a_data name cs ts rest d) = data_parts name cs ts rest (constructors_read ts cs rest d)

data_shorter : (ts : List Word) (data' : Data) (rest : List Word) → IsData ts data' rest → length rest < length ts
data_shorter _ _ _ (a_data name cs ts rest d) = let h = separated_shorter (operator (codes "|")) (name_at Constructor) IsConstructor constructor_exact d in omega arith

data_exact : Exact data_at IsData
data_exact = record { sound = data_sound; complete = data_complete; shorter = data_shorter }

data_begins : (ts : List Word) (data' : Data) (rest : List Word) → IsData ts data' rest → sees (keyword (codes "data")) ts ≡ true
data_begins _ _ _ (a_data name cs ts rest d) = word_seen (keyword (codes "data")) (constructor name ∷ operator (codes "=") ∷ ts)

-- ---- types and signatures
unit_is : (ts rest : List Word) → unit_at ts ≡ Some rest → ts ≡ constructor (codes "I") ∷ special (codes "(") ∷ special (codes ")") ∷ rest
unfolding unit_at
unit_is ts rest e =
    let a = bind_some (after (constructor (codes "I")) ts) _ rest e in
    let b = bind_some (after (special (codes "(")) a.0) _ rest a.2 in
    after_is (constructor (codes "I")) ts a.0 a.1 ∙ ap (λ z. constructor (codes "I") ∷ z) (after_is (special (codes "(")) a.0 b.0 b.1 ∙ ap (λ z. special (codes "(") ∷ z) (after_is (special (codes ")")) b.0 rest b.2))

unit_read : (rest : List Word) → unit_at (constructor (codes "I") ∷ special (codes "(") ∷ special (codes ")") ∷ rest) ≡ Some rest
unfolding unit_at
unit_read rest =
    rw (after_word (constructor (codes "I")) (special (codes "(") ∷ special (codes ")") ∷ rest), after_word (special (codes "(")) (special (codes ")") ∷ rest)) (after_word (special (codes ")")) rest)

ports_is : (ts : List Word) (p : Ports × List Word) → ports_at ts ≡ Some p → ts ≡ type_then p.0 p.1
unfolding ports_at
ports_is ts p e =
    let a = bind_some (after (constructor (codes "ReT")) ts) _ p e in
    let b = bind_some (name_at Constructor a.0) _ p a.2 in
    let c = bind_some (name_at Constructor b.0.1) _ p b.2 in
    let d = bind_some (unit_at c.0.1) _ p c.2 in
    let whole : ts ≡ type_then (record { input = b.0.0; output = c.0.0 }) d.0 =
    after_is (constructor (codes "ReT")) ts a.0 a.1
    ∙ ap (λ z. constructor (codes "ReT") ∷ z) (name_is Constructor a.0 b.0 b.1 ∙ ap (λ z. constructor b.0.0 ∷ z) (name_is Constructor b.0.1 c.0 c.1 ∙ ap (λ z. constructor c.0.0 ∷ z) (unit_is c.0.1 d.0 d.1))) in
    whole ∙ ap (λ (q : Ports × List Word). type_then q.0 q.1) (some_is _ p d.2)

ports_read : (ports : Ports) (rest : List Word) → ports_at (type_then ports rest) ≡ Some (ports, rest)
unfolding ports_at
ports_read ports rest =
    let unit = constructor (codes "I") ∷ special (codes "(") ∷ special (codes ")") ∷ rest in
    rw (after_word (constructor (codes "ReT")) (constructor ports.input ∷ constructor ports.output ∷ unit), name_word_read Constructor ports.input (constructor ports.output ∷ unit), name_word_read Constructor ports.output unit, unit_read rest)

type_is : (ports : Ports) (ts rest : List Word) → type_at ports ts ≡ Some rest → ts ≡ type_then ports rest
unfolding type_at
type_is ports ts rest e =
    let a = bind_some (after (constructor (codes "ReT")) ts) _ rest e in
    let b = bind_some (after (constructor ports.input) a.0) _ rest a.2 in
    let c = bind_some (after (constructor ports.output) b.0) _ rest b.2 in
    after_is (constructor (codes "ReT")) ts a.0 a.1
    ∙ ap (λ z. constructor (codes "ReT") ∷ z) (after_is (constructor ports.input) a.0 b.0 b.1 ∙ ap (λ z. constructor ports.input ∷ z) (after_is (constructor ports.output) b.0 c.0 c.1 ∙ ap (λ z. constructor ports.output ∷ z) (unit_is c.0 rest c.2)))

type_read : (ports : Ports) (rest : List Word) → type_at ports (type_then ports rest) ≡ Some rest
unfolding type_at
type_read ports rest =
    let unit = constructor (codes "I") ∷ special (codes "(") ∷ special (codes ")") ∷ rest in
    rw (after_word (constructor (codes "ReT")) (constructor ports.input ∷ constructor ports.output ∷ unit), after_word (constructor ports.input) (constructor ports.output ∷ unit), after_word (constructor ports.output) unit) (unit_read rest)

abbrev bound_then : List ℕ → List Word → List Word
bound_then name rest = special (codes ";") ∷ variable name ∷ operator (codes "=") ∷ rest

binding_is : (name : List ℕ) (ts rest : List Word) → binding_at name ts ≡ Some rest → ts ≡ bound_then name rest
unfolding binding_at
binding_is name ts rest e =
    let a = bind_some (after (special (codes ";")) ts) _ rest e in
    let b = bind_some (after (variable name) a.0) _ rest a.2 in
    after_is (special (codes ";")) ts a.0 a.1 ∙ ap (λ z. special (codes ";") ∷ z) (after_is (variable name) a.0 b.0 b.1 ∙ ap (λ z. variable name ∷ z) (after_is (operator (codes "=")) b.0 rest b.2))

binding_read : (name : List ℕ) (rest : List Word) → binding_at name (bound_then name rest) ≡ Some rest
unfolding binding_at
binding_read name rest =
    rw (after_word (special (codes ";")) (variable name ∷ operator (codes "=") ∷ rest), after_word (variable name) (operator (codes "=") ∷ rest)) (after_word (operator (codes "=")) rest)

start_is : (ts : List Word) (p : (Ports × List ℕ) × List Word) → start_at ts ≡ Some p → ts ≡ signature_then (codes "start") p.0.0 (variable p.0.1 ∷ p.1)
unfolding start_at
start_is ts p e =
    let a = bind_some (after (variable (codes "start")) ts) _ p e in
    let b = bind_some (after (operator (codes "::")) a.0) _ p a.2 in
    let c = bind_some (ports_at b.0) _ p b.2 in
    let d = bind_some (binding_at (codes "start") c.0.1) _ p c.2 in
    let f = bind_some (name_at Variable d.0) _ p d.2 in
    let whole : ts ≡ signature_then (codes "start") c.0.0 (variable f.0.0 ∷ f.0.1) =
    after_is (variable (codes "start")) ts a.0 a.1
    ∙ ap (λ z. variable (codes "start") ∷ z) (after_is (operator (codes "::")) a.0 b.0 b.1
    ∙ ap (λ z. operator (codes "::") ∷ z) (ports_is b.0 c.0 c.1 ∙ ap (λ z. type_then c.0.0 z) (binding_is (codes "start") c.0.1 d.0 d.1 ∙ ap (λ z. bound_then (codes "start") z) (name_is Variable d.0 f.0 f.1)))) in
    whole ∙ ap (λ (q : (Ports × List ℕ) × List Word). signature_then (codes "start") q.0.0 (variable q.0.1 ∷ q.1)) (some_is _ p f.2)

start_read : (ports : Ports) (start : List ℕ) (rest : List Word) → start_at (signature_then (codes "start") ports (variable start ∷ rest)) ≡ Some ((ports, start), rest)
unfolding start_at
start_read ports start rest =
    let bound = bound_then (codes "start") (variable start ∷ rest) in
    rw (after_word (variable (codes "start")) (operator (codes "::") ∷ type_then ports bound), after_word (operator (codes "::")) (type_then ports bound), ports_read ports bound, binding_read (codes "start") (variable start ∷ rest), name_word_read Variable start rest)

signature_is : (ports : Ports) (ts : List Word) (p : List ℕ × List Word) → signature_at ports ts ≡ Some p → ts ≡ special (codes ";") ∷ signature_then p.0 ports p.1
unfolding signature_at
signature_is ports ts p e =
    let a = bind_some (after (special (codes ";")) ts) _ p e in
    let b = bind_some (name_at Variable a.0) _ p a.2 in
    let c = bind_some (after (operator (codes "::")) b.0.1) _ p b.2 in
    let d = bind_some (type_at ports c.0) _ p c.2 in
    let f = bind_some (binding_at b.0.0 d.0) _ p d.2 in
    let whole : ts ≡ special (codes ";") ∷ signature_then b.0.0 ports f.0 =
    after_is (special (codes ";")) ts a.0 a.1
    ∙ ap (λ z. special (codes ";") ∷ z) (name_is Variable a.0 b.0 b.1
    ∙ ap (λ z. variable b.0.0 ∷ z) (after_is (operator (codes "::")) b.0.1 c.0 c.1
    ∙ ap (λ z. operator (codes "::") ∷ z) (type_is ports c.0 d.0 d.1 ∙ ap (λ z. type_then ports z) (binding_is b.0.0 d.0 f.0 f.1)))) in
    whole ∙ ap (λ (q : List ℕ × List Word). special (codes ";") ∷ signature_then q.0 ports q.1) (some_is _ p f.2)

signature_read : (ports : Ports) (name : List ℕ) (rest : List Word) → signature_at ports (special (codes ";") ∷ signature_then name ports rest) ≡ Some (name, rest)
unfolding signature_at
signature_read ports name rest =
    let bound = bound_then name rest in
    rw (after_word (special (codes ";")) (signature_then name ports rest), name_word_read Variable name (operator (codes "::") ∷ type_then ports bound), after_word (operator (codes "::")) (type_then ports bound), type_read ports bound, binding_read name rest)

-- ---- bodies
arm_sound : (ts : List Word) (p : Arm × List Word) → arm_at ts ≡ Some p → IsArm ts p.0 p.1
unfolding arm_at
arm_sound ts p e =
    let a = bind_some (name_at Constructor ts) _ p e in
    let b = bind_some (after (operator (codes "->")) a.0.1) _ p a.2 in
    let c = bind_some (name_at Variable b.0) _ p b.2 in
    let whole : ts ≡ constructor a.0.0 ∷ operator (codes "->") ∷ variable c.0.0 ∷ c.0.1 =
    name_is Constructor ts a.0 a.1 ∙ ap (λ z. constructor a.0.0 ∷ z) (after_is (operator (codes "->")) a.0.1 b.0 b.1 ∙ ap (λ z. operator (codes "->") ∷ z) (name_is Variable b.0 c.0 c.1)) in
    moved (λ q. IsArm ts q.0 q.1) _ p c.2 (subst (λ z. IsArm z (record { constructor = a.0.0; target = c.0.0 }) c.0.1) (sym whole) (an_arm a.0.0 c.0.0 c.0.1))

arm_read : (name target : List ℕ) (rest : List Word) → arm_at (constructor name ∷ operator (codes "->") ∷ variable target ∷ rest) ≡ Some (record { constructor = name; target = target }, rest)
unfolding arm_at
arm_read name target rest =
    rw (name_word_read Constructor name (operator (codes "->") ∷ variable target ∷ rest), after_word (operator (codes "->")) (variable target ∷ rest), name_word_read Variable target rest)

arm_complete : (ts : List Word) (arm : Arm) (rest : List Word) → IsArm ts arm rest → arm_at ts ≡ Some (arm, rest)
arm_complete _ _ _ (an_arm name target rest) = arm_read name target rest

arm_shorter : (ts : List Word) (arm : Arm) (rest : List Word) → IsArm ts arm rest → length rest < length ts
arm_shorter _ _ _ (an_arm name target rest) = omega arith

arm_exact : Exact arm_at IsArm
arm_exact = record { sound = arm_sound; complete = arm_complete; shorter = arm_shorter }

semicolon_no_brace : (rest : List Word) → sees (special (codes ";")) (special (codes "}") ∷ rest) ≡ false
unfolding same_kind
semicolon_no_brace rest = refl

arms_read : (ts : List Word) (arms : List Arm) (rest : List Word) → IsSeparated (special (codes ";")) IsArm ts arms (special (codes "}") ∷ rest) → arms_at ts ≡ Some (arms, special (codes "}") ∷ rest)
unfolding arms_at
arms_read ts arms rest d = separated_read (special (codes ";")) arm_at IsArm arm_exact d (length ts) (omega arith) (semicolon_no_brace rest)

arms_sound : (ts : List Word) (p : List Arm × List Word) → arms_at ts ≡ Some p → IsSeparated (special (codes ";")) IsArm ts p.0 p.1
unfolding arms_at
arms_sound ts p e = separated_sound (special (codes ";")) arm_at IsArm arm_exact (length ts) ts p e

signal_is : (ts : List Word) (p : List ℕ × List Word) → signal_at ts ≡ Some p → ts ≡ variable (codes "signal") ∷ constructor p.0 ∷ p.1
unfolding signal_at
signal_is ts p e =
    let a = bind_some (after (variable (codes "signal")) ts) _ p e in
    after_is (variable (codes "signal")) ts a.0 a.1 ∙ ap (λ z. variable (codes "signal") ∷ z) (name_is Constructor a.0 p a.2)

signal_read : (shown : List ℕ) (rest : List Word) → signal_at (variable (codes "signal") ∷ constructor shown ∷ rest) ≡ Some (shown, rest)
unfolding signal_at
signal_read shown rest = rw (after_word (variable (codes "signal")) (constructor shown ∷ rest)) (name_word_read Constructor shown rest)

abbrev lambda_then : List ℕ → List Word → List Word
lambda_then bound rest = operator (codes ">>=") ∷ operator (codes "\\") ∷ variable bound ∷ operator (codes "->") ∷ rest

lambda_is : (ts : List Word) (p : List ℕ × List Word) → lambda_at ts ≡ Some p → ts ≡ lambda_then p.0 p.1
unfolding lambda_at
lambda_is ts p e =
    let a = bind_some (after (operator (codes ">>=")) ts) _ p e in
    let b = bind_some (after (operator (codes "\\")) a.0) _ p a.2 in
    let c = bind_some (name_at Variable b.0) _ p b.2 in
    let d = bind_some (after (operator (codes "->")) c.0.1) _ p c.2 in
    let whole : ts ≡ lambda_then c.0.0 d.0 =
    after_is (operator (codes ">>=")) ts a.0 a.1
    ∙ ap (λ z. operator (codes ">>=") ∷ z) (after_is (operator (codes "\\")) a.0 b.0 b.1 ∙ ap (λ z. operator (codes "\\") ∷ z) (name_is Variable b.0 c.0 c.1 ∙ ap (λ z. variable c.0.0 ∷ z) (after_is (operator (codes "->")) c.0.1 d.0 d.1))) in
    whole ∙ ap (λ (q : List ℕ × List Word). lambda_then q.0 q.1) (some_is _ p d.2)

lambda_read : (bound : List ℕ) (rest : List Word) → lambda_at (lambda_then bound rest) ≡ Some (bound, rest)
unfolding lambda_at
lambda_read bound rest =
    rw (after_word (operator (codes ">>=")) (operator (codes "\\") ∷ variable bound ∷ operator (codes "->") ∷ rest), after_word (operator (codes "\\")) (variable bound ∷ operator (codes "->") ∷ rest), name_word_read Variable bound (operator (codes "->") ∷ rest), after_word (operator (codes "->")) rest)

abbrev case_then : List ℕ → List Word → List Word
case_then bound rest = keyword (codes "case") ∷ variable bound ∷ keyword (codes "of") ∷ special (codes "{") ∷ rest

case_is : (bound : List ℕ) (ts rest : List Word) → case_at bound ts ≡ Some rest → ts ≡ case_then bound rest
unfolding case_at
case_is bound ts rest e =
    let a = bind_some (after (keyword (codes "case")) ts) _ rest e in
    let b = bind_some (after (variable bound) a.0) _ rest a.2 in
    let c = bind_some (after (keyword (codes "of")) b.0) _ rest b.2 in
    after_is (keyword (codes "case")) ts a.0 a.1
    ∙ ap (λ z. keyword (codes "case") ∷ z) (after_is (variable bound) a.0 b.0 b.1 ∙ ap (λ z. variable bound ∷ z) (after_is (keyword (codes "of")) b.0 c.0 c.1 ∙ ap (λ z. keyword (codes "of") ∷ z) (after_is (special (codes "{")) c.0 rest c.2)))

case_read : (bound : List ℕ) (rest : List Word) → case_at bound (case_then bound rest) ≡ Some rest
unfolding case_at
case_read bound rest =
    rw (after_word (keyword (codes "case")) (variable bound ∷ keyword (codes "of") ∷ special (codes "{") ∷ rest), after_word (variable bound) (keyword (codes "of") ∷ special (codes "{") ∷ rest), after_word (keyword (codes "of")) (special (codes "{") ∷ rest)) (after_word (special (codes "{")) rest)

record Choice (ts : List Word) (p : (List ℕ × List Arm) × List Word) : Type 0 where
  inside : List Word
  begins : ts ≡ lambda_then p.0.0 (case_then p.0.0 inside)
  arms : IsSeparated (special (codes ";")) IsArm inside p.0.1 (special (codes "}") ∷ p.1)

choice_is : (ts : List Word) (p : (List ℕ × List Arm) × List Word) → choice_at ts ≡ Some p → Choice ts p
unfolding choice_at
choice_is ts p e =
    let a = bind_some (lambda_at ts) _ p e in
    let b = bind_some (case_at a.0.0 a.0.1) _ p a.2 in
    let c = bind_some (arms_at b.0) _ p b.2 in
    let d = bind_some (after (special (codes "}")) c.0.1) _ p c.2 in
    moved (λ q. Choice ts q) _ p d.2 (record {
      inside = b.0;
      begins = lambda_is ts a.0 a.1 ∙ ap (λ z. lambda_then a.0.0 z) (case_is a.0.0 a.0.1 b.0 b.1);
      arms = subst (λ z. IsSeparated (special (codes ";")) IsArm b.0 c.0.0 z) (after_is (special (codes "}")) c.0.1 d.0 d.1) (arms_sound b.0 c.0 c.1);
    })

choice_read : (bound : List ℕ) (arms : List Arm) (ts rest : List Word) → IsSeparated (special (codes ";")) IsArm ts arms (special (codes "}") ∷ rest)
    → choice_at (lambda_then bound (case_then bound ts)) ≡ Some ((bound, arms), rest)
unfolding choice_at
choice_read bound arms ts rest d = rw (lambda_read bound (case_then bound ts), case_read bound ts, arms_read ts arms rest d, after_word (special (codes "}")) rest)

-- ---- functions
function_sound : (ports : Ports) (ts : List Word) (p : Function × List Word) → function_at ports ts ≡ Some p → IsFunction ports ts p.0 p.1
unfolding function_at
function_sound ports ts p e =
    let a = bind_some (signature_at ports ts) _ p e in
    let b = bind_some (signal_at a.0.1) _ p a.2 in
    let c = bind_some (choice_at b.0.1) _ p b.2 in
    let choice = choice_is b.0.1 c.0 c.1 in
    let whole : ts ≡ special (codes ";") ∷ signature_then a.0.0 ports (body_then b.0.0 c.0.0.0 choice.inside) =
    signature_is ports ts a.0 a.1
    ∙ ap (λ z. special (codes ";") ∷ signature_then a.0.0 ports z) (signal_is a.0.1 b.0 b.1 ∙ ap (λ z. variable (codes "signal") ∷ constructor b.0.0 ∷ z) choice.begins) in
    moved (λ q. IsFunction ports ts q.0 q.1) _ p c.2
    (subst (λ z. IsFunction ports z (record { name = a.0.0; shown = b.0.0; bound = c.0.0.0; arms = c.0.0.1 }) c.0.1) (sym whole) (a_function a.0.0 b.0.0 c.0.0.0 c.0.0.1 choice.inside c.0.1 choice.arms))

function_read : (ports : Ports) (name shown bound : List ℕ) (arms : List Arm) (ts rest : List Word) → IsSeparated (special (codes ";")) IsArm ts arms (special (codes "}") ∷ rest)
    → function_at ports (special (codes ";") ∷ signature_then name ports (body_then shown bound ts)) ≡ Some (record { name = name; shown = shown; bound = bound; arms = arms }, rest)
unfolding function_at
function_read ports name shown bound arms ts rest d =
    rw (signature_read ports name (body_then shown bound ts), signal_read shown (lambda_then bound (case_then bound ts)), choice_read bound arms ts rest d)

function_complete : (ports : Ports) (ts : List Word) (f : Function) (rest : List Word) → IsFunction ports ts f rest → function_at ports ts ≡ Some (f, rest)
function_complete ports _ _ _ (a_function name shown bound arms ts rest d) = function_read ports name shown bound arms ts rest d

function_shorter : (ports : Ports) (ts : List Word) (f : Function) (rest : List Word) → IsFunction ports ts f rest → length rest < length ts
function_shorter ports _ _ _ (a_function name shown bound arms ts rest d) = let h = separated_shorter (special (codes ";")) arm_at IsArm arm_exact d in omega arith

function_exact : (ports : Ports) → Exact (function_at ports) (IsFunction ports)
function_exact ports = record { sound = function_sound ports; complete = function_complete ports; shorter = function_shorter ports }

function_begins : (ports : Ports) (ts : List Word) (f : Function) (rest : List Word) → IsFunction ports ts f rest → sees (special (codes ";")) ts ≡ true
function_begins ports _ _ _ (a_function name shown bound arms ts rest d) = word_seen (special (codes ";")) (signature_then name ports (body_then shown bound ts))

-- ---- the whole
ended_is : (form f : Form) (ws : List Word) → if_ended form ws ≡ Some f → (form ≡ f) × (ws ≡ []) × (nat_lt 0 (length form.functions) ≡ true)
ended_is form f [] e =
    elim (chosen (nat_lt 0 (length form.functions)) _ _ _ e) [
      | inl h ↦ (some_is form f h.1, refl, h.0)
      | inr h ↦ absurd (let n : None ≡ Some f = h.1 in cc)
    ]
ended_is form f (w ∷ ws) e = absurd (cc)

data_no_start : (ports : Ports) (rest : List Word) → sees (keyword (codes "data")) (signature_then (codes "start") ports rest) ≡ false
unfolding same_kind
data_no_start ports rest = refl

datas_read : (ts : List Word) (datas : List Data) (ports : Ports) (rest : List Word) → IsMany IsData ts datas (signature_then (codes "start") ports rest)
    → datas_at ts ≡ Some (datas, signature_then (codes "start") ports rest)
unfolding datas_at
datas_read ts datas ports rest d = many_read (keyword (codes "data")) data_at IsData data_exact data_begins d (length ts) (omega arith) (data_no_start ports rest)

datas_sound : (ts : List Word) (p : List Data × List Word) → datas_at ts ≡ Some p → IsMany IsData ts p.0 p.1
unfolding datas_at
datas_sound ts p e = many_sound (keyword (codes "data")) data_at IsData data_exact data_begins (length ts) ts p e

functions_read : (ports : Ports) (ts : List Word) (fs : List Function) → IsMany (IsFunction ports) ts fs (special (codes "}") ∷ []) → functions_at ports ts ≡ Some (fs, special (codes "}") ∷ [])
unfolding functions_at
functions_read ports ts fs d = many_read (special (codes ";")) (function_at ports) (IsFunction ports) (function_exact ports) (function_begins ports) d (length ts) (omega arith) (semicolon_no_brace [])

functions_sound : (ports : Ports) (ts : List Word) (p : List Function × List Word) → functions_at ports ts ≡ Some p → IsMany (IsFunction ports) ts p.0 p.1
unfolding functions_at
functions_sound ports ts p e = many_sound (special (codes ";")) (function_at ports) (IsFunction ports) (function_exact ports) (function_begins ports) (length ts) ts p e

some_function : (n : ℕ) → nat_lt 0 n ≡ true → 0 < n
some_function n e = grind arith

pub form_sound : (ts : List Word) (form : Form) → form_at ts ≡ Some form → IsForm ts form
unfolding form_at
form_sound ts form e =
    let a = bind_some (after (special (codes "{")) ts) _ form e in
    let b = bind_some (datas_at a.0) _ form a.2 in
    let c = bind_some (start_at b.0.1) _ form b.2 in
    let d = bind_some (functions_at c.0.0.0 c.0.1) _ form c.2 in
    let f = bind_some (after (special (codes "}")) d.0.1) _ form d.2 in
    let g = ended_is _ form f.0 f.2 in
    let behind : d.0.1 ≡ special (codes "}") ∷ [] = after_is (special (codes "}")) d.0.1 f.0 f.1 ∙ ap (λ z. special (codes "}") ∷ z) g.1 in
    subst (λ z. IsForm ts z) g.0
    (subst (λ z. IsForm z (record { datas = b.0.0; ports = c.0.0.0; start = c.0.0.1; functions = d.0.0 })) (sym (after_is (special (codes "{")) ts a.0 a.1))
    (a_form c.0.0.0 c.0.0.1 b.0.0 d.0.0 a.0 c.0.1 (subst (λ z. IsMany IsData a.0 b.0.0 z) (start_is b.0.1 c.0 c.1) (datas_sound a.0 b.0 b.1)) (subst (λ z. IsMany (IsFunction c.0.0.0) c.0.1 d.0.0 z) behind (functions_sound c.0.0.0 c.0.1 d.0 d.1)) (some_function _ g.2)))

more_than_none : (n : ℕ) → 0 < n → nat_lt 0 n ≡ true
more_than_none n h = grind arith

form_read : (ports : Ports) (start : List ℕ) (datas : List Data) (functions : List Function) (ts mid : List Word) → datas_at ts ≡ Some (datas, signature_then (codes "start") ports (variable start ∷ mid))
    → functions_at ports mid ≡ Some (functions, special (codes "}") ∷ []) → nat_lt 0 (length functions) ≡ true
    → form_at (special (codes "{") ∷ ts) ≡ Some (record { datas = datas; ports = ports; start = start; functions = functions })
unfolding form_at
form_read ports start datas functions ts mid d f some =
    rw (after_word (special (codes "{")) ts, d, start_read ports start mid, f, after_word (special (codes "}")) [], some)

pub form_complete : (ts : List Word) (form : Form) → IsForm ts form → form_at ts ≡ Some form
form_complete _ _ (a_form ports start datas functions ts mid d f some) =
    form_read ports start datas functions ts mid (datas_read ts datas ports (variable start ∷ mid) d) (functions_read ports mid functions f) (more_than_none (length functions) some)
