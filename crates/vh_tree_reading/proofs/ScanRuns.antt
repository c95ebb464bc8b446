-- Runs of bytes of a kind.
use Rattle.std.proofs.Common.{◌≡◌, ℕ, Bool, true, false, not, cond, ◌&&◌, List, [], ◌∷◌, ◌++◌, refl, sym, ap, ◌∙◌}
use Rattle.std.specs.List.{list_all}
use Rattle.vh_tree.specs.Text.{stops, IsRun}
use Rattle.vh_tree_reading.specs.Scan.{run, behind}

pub both : (a b : Bool) → (a && b) ≡ true → (a ≡ true) × (b ≡ true)
both true b h = (refl, h)
both false b h = absurd (cc h)

pub is_not : (a : Bool) → not a ≡ true → a ≡ false
is_not true e = absurd (cc)
is_not false e = refl

-- a run and what is behind it are found again
pub run_again : (c : ℕ → Bool) (w bs : List ℕ) → IsRun c w bs → run c (w ++ bs) ≡ w
run_again c [] [] r = refl
run_again c [] (b ∷ bs) r = ap (λ v. cond v (b ∷ run c bs) []) (is_not _ r.stop)
run_again c (b ∷ w) bs r =
    let h = both (c b) (list_all c w) r.all in
    ap (λ v. cond v (b ∷ run c (w ++ bs)) []) h.0 ∙ ap (λ z. b ∷ z) (run_again c w bs (record { all = h.1; stop = r.stop }))

pub behind_again : (c : ℕ → Bool) (w bs : List ℕ) → IsRun c w bs → behind c (w ++ bs) ≡ bs
behind_again c [] [] r = refl
behind_again c [] (b ∷ bs) r = ap (λ v. cond v (behind c bs) (b ∷ bs)) (is_not _ r.stop)
behind_again c (b ∷ w) bs r =
    let h = both (c b) (list_all c w) r.all in
    ap (λ v. cond v (behind c (w ++ bs)) (b ∷ (w ++ bs))) h.0 ∙ behind_again c w bs (record { all = h.1; stop = r.stop })

-- what was split makes the whole
pub split_joins : (c : ℕ → Bool) (bs : List ℕ) → run c bs ++ behind c bs ≡ bs
split_joins c [] = refl
split_joins c (b ∷ bs) = elim (c b) as (λ v. cond v (b ∷ run c bs) [] ++ cond v (behind c bs) (b ∷ bs) ≡ b ∷ bs) [ true ↦ ap (λ z. b ∷ z) (split_joins c bs) | false ↦ refl ]

pub run_all : (c : ℕ → Bool) (bs : List ℕ) → list_all c (run c bs) ≡ true
run_all c [] = refl
run_all c (b ∷ bs) =
    elim (c b) as (λ v. v ≡ c b → list_all c (cond v (b ∷ run c bs) []) ≡ true) [ true ↦ (λ e. ap (λ z. z && list_all c (run c bs)) (sym e) ∙ run_all c bs) | false ↦ (λ e. refl) ] refl

behind_stops : (c : ℕ → Bool) (bs : List ℕ) → stops c (behind c bs) ≡ true
behind_stops c [] = refl
behind_stops c (b ∷ bs) =
    elim (c b) as (λ v. v ≡ c b → stops c (cond v (behind c bs) (b ∷ bs)) ≡ true) [ true ↦ (λ e. behind_stops c bs) | false ↦ (λ e. ap not (sym e)) ] refl

pub split_run : (c : ℕ → Bool) (bs : List ℕ) → IsRun c (run c bs) (behind c bs)
split_run c bs = record { all = run_all c bs; stop = behind_stops c bs }
