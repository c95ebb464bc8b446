-- What is compiled is right, by the laws of machines, of texts and of token lists.
use Rattle.std.proofs.Common.{◌≡◌, ℕ, ◌<◌, true, List, [], ◌∷◌, map, length, refl, sym, ◌∙◌, ap, subst, arith}
use Rattle.std.specs.Prelude.{All, bytes_eq}
use Rattle.std.proofs.lemmas.List.{length-map}
use Rattle.std.proofs.lemmas.List.Elements.{All-head, All-tail, All-map}
use Rattle.rw_lex.specs.declared.token.Token.{Token}
use Rattle.rw_lex.specs.Tokens.{IsTokenList}
use Rattle.rw_core.specs.declared.types.DataTy.{DataTy}
use Rattle.rw_core.specs.Bits.{constructors_of}
use Rattle.vh_tree.specs.Bits.{Bits}
use Rattle.vh_tree.specs.Bench.{BenchInEveryOrder}
use Rattle.vh_tree.specs.Spelling.{IsSpelled}
use Rattle.vh_tree.specs.Spellable.{IsSpellable}
use Rattle.vh_tree.specs.Canonical.{canonical_text}
use Rattle.vh_tree.specs.declared.design.Design.{Design}
use Rattle.register_machine.specs.Codes.{code, code_width}
use Rattle.register_machine.specs.Machine.{IsMachine}
use Rattle.register_machine.specs.Design.{machine_design}
use Rattle.register_machine.specs.Laws.{MachineLaw, StaticLaw, SpellableLaw, CodeLaw}
use Rattle.register_machine.specs.declared.machine.Machine.{Machine}
use Rattle.explicit_form.specs.declared.form.Form.{Form}
use Rattle.explicit_form.specs.Words.{words_of}
use Rattle.explicit_form.specs.Fit.{is_among, place_of, inputs_of, outputs_of, machine_of}
use Rattle.explicit_form.specs.Grammar.{IsForm}
use Rattle.explicit_form.specs.Explicit.{Spells, IsExplicit}
use Rattle.explicit_form.specs.Outputs.{form_outputs, plain_type, plain_width, encoded}
use Rattle.explicit_form.specs.Right.{ShowsOutputs, CompiledLaw}
use Rattle.explicit_form.proofs.Exact.{some_is}
use Rattle.explicit_form.proofs.Forms.{form_complete}
use Rattle.explicit_form.proofs.Machines.{machine_fits, form_fits}
use Rattle.explicit_form.proofs.Outputs.{form_outputs-places, form_outputs-among}
use Rattle.explicit_form.proofs.Slots.{place_within}
use Rattle.explicit_form.proofs.Wholes.{short_words}

-- the laws of other crates that this one rests on
pub record Laws : Type 0 where
  pub machine : MachineLaw
  pub static : StaticLaw
  pub spellable : SpellableLaw
  pub code : CodeLaw
  pub spelled : (design : Design) → IsSpellable design → IsSpelled (canonical_text design) design
  pub one_design : (bytes : List ℕ) (a b : Design) → IsSpelled bytes a → IsSpelled bytes b → a ≡ b
  pub one_list : (bytes : List ℕ) (a b : List Token) → IsTokenList bytes a → IsTokenList bytes b → a ≡ b

well : (source : List ℕ) (form : Form) → IsExplicit source form → IsMachine (machine_of form)
well source form e =
    let s = e.spelled in
    machine_fits (words_of s.tokens) form s.spells (short_words source s.tokens s.has) e.fits

module _ (laws : Laws) where
  -- ---- one tree
  one_form : (source : List ℕ) (a b : Form) → Spells source a → Spells source b → b ≡ a
  one_form source a b first second =
      let same = laws.one_list source second.tokens first.tokens second.has.listed first.has.listed in
      let again = subst (λ (ts : List Token). IsForm (words_of ts) b) same second.spells in
      some_is b a (sym (form_complete (words_of first.tokens) b again) ∙ form_complete (words_of first.tokens) a first.spells)

  -- ---- constructors as codes
  abbrev table : List (List ℕ) → List DataTy
  table names = plain_type names ∷ []

  abbrev no_fields : List ℕ → List ℕ
  no_fields name = []

  plain_count : (names : List (List ℕ)) → length (constructors_of (table names) 0) ≡ length names
  plain_count names = length-map names no_fields

  plain_fields : (names : List (List ℕ)) → All (λ fields. fields ≡ []) (constructors_of (table names) 0)
  plain_fields names = All-map (λ (fields : List ℕ). fields ≡ []) no_fields names (λ k d h. refl)

  width_is : (names : List (List ℕ)) → plain_width names ≡ code_width (length names)
  width_is names = (laws.code (table names) 0 (plain_fields names)).0 ∙ ap code_width (plain_count names)

  encoded_is : (names : List (List ℕ)) (name : List ℕ) → is_among name names ≡ true → encoded names name ≡ code (length names) (place_of names name)
  encoded_is names name h =
      let count = plain_count names in
      let within : place_of names name < length (constructors_of (table names) 0) = omega (arith, count, place_within (bytes_eq name) names h) in
      (laws.code (table names) 0 (plain_fields names)).1 (place_of names name) within ∙ ap (λ (n : ℕ). code n (place_of names name)) count

  all_encoded : (names xs : List (List ℕ)) → All (λ x. is_among x names ≡ true) xs → map (code (length names)) (map (place_of names) xs) ≡ map (encoded names) xs
  all_encoded names [] h = refl
  all_encoded names (x ∷ xs) h =
      ap (λ (bits : Bits). bits ∷ map (code (length names)) (map (place_of names) xs)) (sym (encoded_is names x (All-head (λ x. is_among x names ≡ true) x xs h)))
      ∙ ap (λ (rest : List Bits). encoded names x ∷ rest) (all_encoded names xs (All-tail (λ x. is_among x names ≡ true) x xs h))

  -- ---- what is shown
  shows : (source : List ℕ) (form : Form) → IsExplicit source form → ShowsOutputs form (machine_design (machine_of form))
  shows source form e inputs all =
      let fits = form_fits form e.fits in
      let m : Machine = machine_of form in
      let small : All (λ i. i < m.inputs) (map (place_of (inputs_of form)) inputs) =
      All-map (λ i. i < m.inputs) (place_of (inputs_of form)) inputs (λ k d h. place_within (bytes_eq _) (inputs_of form) (all k d h)) in
      let bench = laws.machine m (well source form e) (map (place_of (inputs_of form)) inputs) small in
      let named = subst (λ (numbers : List ℕ). BenchInEveryOrder 4 (machine_design m) (map (code m.inputs) (map (place_of (inputs_of form)) inputs)) (map (code m.outputs) numbers)) (sym (form_outputs-places form fits inputs all)) bench in
      let out = subst (λ (readings : List Bits). BenchInEveryOrder 4 (machine_design m) (map (code m.inputs) (map (place_of (inputs_of form)) inputs)) readings) (all_encoded (outputs_of form) (form_outputs form inputs) (form_outputs-among form fits inputs all)) named in
      subst (λ (given : List Bits). BenchInEveryOrder 4 (machine_design m) given (map (encoded (outputs_of form)) (form_outputs form inputs))) (all_encoded (inputs_of form) inputs all) out

  pub compiled_right : CompiledLaw
  compiled_right source text compiled =
      let form : Form = compiled.0 in
      let e = compiled.1 in
      let is = well source form e in
      let d : Design = machine_design (machine_of form) in
      let spelled : IsSpelled text d = subst (λ (bytes : List ℕ). IsSpelled bytes d) (sym compiled.2) (laws.spelled d (laws.spellable (machine_of form) is)) in
      let codes = laws.static (machine_of form) is in
      record {
        form = form;
        explicit = e;
        one_form = λ other h. one_form source form other e.spelled h.spelled;
        design = d;
        spelled = spelled;
        one_design = λ other h. laws.one_design text other d h spelled;
        static = codes.static;
        inp = codes.inp ∙ sym (width_is (inputs_of form));
        outp = codes.outp ∙ sym (width_is (outputs_of form));
        shows = shows source form e;
      }
