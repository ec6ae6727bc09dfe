-- Parts of a function as lists.
use Rattle.std.proofs.Common.{◌≡◌, ℕ, zero, suc, ◌+◌, ◌-◌, ◌<◌, ◌≤◌, eqb, ◌∷◌, ◌++◌, length, sym, refl, ap, ◌∙◌, subst, inl, inr, add-zero, suc-add, zero-add, arith}
use Rattle.std.proofs.lemmas.Bool.Decides.{nat_tests, eqb_tells}
use Rattle.std.proofs.lemmas.Bool.{eq-eqb}
use Rattle.routes.specs.Memory.{set_at}
use Rattle.routes.specs.Counts.Counts.{bit, cnt, seg}
use Rattle.routes.proofs.Basics.Places.{set_at_hit, set_at_miss}
use Rattle.routes.proofs.Counts.Lists.{cnt-++}

-- It has as many as it says.
pub length-seg : (f : ℕ → ℕ) (i k : ℕ) → length (seg f i k) ≡ k
unfolding seg
length-seg f i zero = refl
length-seg f i (suc k) = ap suc (length-seg f (suc i) k)

-- The first of one and more.
pub seg_first : (f : ℕ → ℕ) (i k : ℕ) → seg f i (1 + k) ≡ f i ∷ seg f (suc i) k
unfolding seg
seg_first f i k = let q : 1 + k ≡ suc k = omega arith in rw q

-- Functions that agree there have the same part.
pub seg_same : (f g : ℕ → ℕ) (i l n : ℕ) → ((j : ℕ) → j < n → f (i + j) ≡ g (l + j)) → seg f i n ≡ seg g l n
unfolding seg
seg_same f g i l zero h = refl
seg_same f g i l (suc n) h =
    let a : f i ≡ g l = rw (add-zero i, add-zero l) at (h 0 (omega arith)) in
    let ih = seg_same f g (suc i) (suc l) n (λ j k. (let q : suc i + j ≡ i + suc j = omega arith in let q' : suc l + j ≡ l + suc j = omega arith in rw (q, q') (h (suc j) (omega arith)))) in
    cc

-- A part in two parts.
pub seg_split : (f : ℕ → ℕ) (i m n : ℕ) → seg f i (m + n) ≡ seg f i m ++ seg f (i + m) n
unfolding seg
seg_split f i zero n = rw (zero-add n, add-zero i)
seg_split f i (suc m) n = let q : suc i + m ≡ i + suc m = omega arith in rw (suc-add m n, ← q) (ap (λ z. f i ∷ z) (seg_split f (suc i) m n))

-- Counted in two parts.
pub cnt_split : (b : ℕ) (f : ℕ → ℕ) (i m n : ℕ) → cnt b (seg f i (m + n)) ≡ cnt b (seg f i m) + cnt b (seg f (i + m) n)
cnt_split b f i m n = ap (cnt b) (seg_split f i m n) ∙ cnt-++ b (seg f i m) (seg f (i + m) n)

-- What is put behind the end is counted with it.
pub cnt-put : (b : ℕ) (f : ℕ → ℕ) (i n x : ℕ) → cnt b (seg (set_at (i + n) x f) i (n + 1)) ≡ cnt b (seg f i n) + bit (eqb b x)
unfolding seg cnt
cnt-put b f i n x =
    let front : seg (set_at (i + n) x f) i n ≡ seg f i n = seg_same (set_at (i + n) x f) f i i n (λ j l. set_at_miss (i + n) (i + j) x f (omega arith)) in
    let last : set_at (i + n) x f (i + n) ≡ x = set_at_hit (i + n) (i + n) x f refl in
    cnt_split b (set_at (i + n) x f) i n 1 ∙ rw (front, last) (omega arith)

-- Each of it is counted.
pub seg_in : (f : ℕ → ℕ) (i n j : ℕ) → j < n → 1 ≤ cnt (f (i + j)) (seg f i n)
unfolding seg cnt
seg_in f i zero j l = absurd (omega arith)
seg_in f i (suc n) zero l = let q : i + 0 ≡ i = omega arith in rw q (rw (eq-eqb (f i) (f i) refl) (omega arith))
seg_in f i (suc n) (suc j) l =
    let q : suc i + j ≡ i + suc j = omega arith in
    let ih : 1 ≤ cnt (f (i + suc j)) (seg f (suc i) n) = subst (λ z. 1 ≤ cnt (f z) (seg f (suc i) n)) q (seg_in f (suc i) n j (omega arith)) in
    omega arith

-- What is counted stands somewhere.
pub seg-find : (f : ℕ → ℕ) (i n b : ℕ) → 1 ≤ cnt b (seg f i n) → (j : ℕ) × (j < n) × (f (i + j) ≡ b)
unfolding seg cnt
seg-find f i zero b h = absurd (omega arith)
seg-find f i (suc n) b h = elim (eqb_tells b (f i)) [
  | inl e ↦ (0, omega arith, ap f (add-zero i) ∙ sym e.1)
  | inr e ↦
      let r = seg-find f (suc i) n b (grind (arith, nat_tests)) in
      let q : i + suc r.0 ≡ suc i + r.0 = omega arith in
      (suc r.0, omega arith, ap f q ∙ r.2)
]

-- What stands nowhere is not counted.
pub seg_none : (f : ℕ → ℕ) (i n b : ℕ) → ((j : ℕ) → j < n → f (i + j) ≡ b → ⊥) → cnt b (seg f i n) ≡ 0
unfolding seg cnt
seg_none f i zero b h = refl
seg_none f i (suc n) b h =
    let ih : cnt b (seg f (suc i) n) ≡ 0 = seg_none f (suc i) n b (λ j l e. let q : suc i + j ≡ i + suc j = omega arith in h (suc j) (omega arith) (ap f (sym q) ∙ e)) in
    let here : f i ≡ b → ⊥ = (λ e. h 0 (omega arith) (ap f (add-zero i) ∙ e)) in
    grind (arith, nat_tests)

-- If nothing is counted twice, different places differ.
pub seg_apart : (f : ℕ → ℕ) (i n j k : ℕ) → ((b : ℕ) → cnt b (seg f i n) ≤ 1) → j < k → k < n → f (i + j) ≡ f (i + k) → ⊥
seg_apart f i n j k once l h e =
    let front : n ≡ k + (n - k) = omega arith in
    let two : cnt (f (i + k)) (seg f i (k + (n - k))) ≤ 1 = subst (λ z. cnt (f (i + k)) (seg f i z) ≤ 1) front (once (f (i + k))) in
    let one : 1 ≤ cnt (f (i + k)) (seg f i k) = subst (λ z. 1 ≤ cnt z (seg f i k)) e (seg_in f i k j l) in
    let other : 1 ≤ cnt (f (i + k + 0)) (seg f (i + k) (n - k)) = seg_in f (i + k) (n - k) 0 (omega arith) in
    let same : 1 ≤ cnt (f (i + k)) (seg f (i + k) (n - k)) = subst (λ z. 1 ≤ cnt (f z) (seg f (i + k) (n - k))) (add-zero (i + k)) other in
    omega (arith, cnt_split (f (i + k)) f i k (n - k))
