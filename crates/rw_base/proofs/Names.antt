-- Names and the files that they hold.
use Rattle.std.proofs.Common.{◌≡◌, ◌≢◌, ℕ, List, [], ◌∷◌, ◌++◌, Option, Some, None, Bool, true, false, cond, refl, sym, ap, ◌∙◌, rules, arith, subst}
use Rattle.std.specs.Prelude.{bytes_eq}
use Rattle.std.specs.Cmp.Lexicographic.{same_text}
use Rattle.std.proofs.lemmas.Cmp.{nat_list_eq_equiv}
use Rattle.rw_base.specs.declared.memory.store.File.{File}
use Rattle.rw_base.specs.Memory.{find_file}
use Rattle.rw_base.specs.Outside.{Saved}

-- equal names pass the test, and others do not
pub same_name : (a b : List ℕ) → a ≡ b → bytes_eq a b ≡ true
same_name a b h = subst (λ x. bytes_eq a x ≡ true) h (nat_list_eq_equiv.refl a)

pub other_name : (a b : List ℕ) → b ≢ a → bytes_eq a b ≡ false
other_name a b h = elim (bytes_eq a b) as (λ v. v ≡ bytes_eq a b → v ≡ false) [ true ↦ (λ e. absurd (h (sym (same_text a b e)))) | false ↦ (λ e. refl) ] refl

-- the file in front holds for its name
pub saved_in_front : (file : File) (files : List File) → Saved file.name file.bytes (find_file files) (find_file (file ∷ files))
saved_in_front file files = record {
  named = ap (λ b. cond b (Some file.bytes) (find_file files file.name)) (same_name file.name file.name refl);
  others = λ other ne. ap (λ b. cond b (Some file.bytes) (find_file files other)) (other_name file.name other ne);
}
