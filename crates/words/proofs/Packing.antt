-- A slot word holds its child and its fit, and nothing is lost.
use Rattle.std.proofs.Common.{◌≡◌, ℕ, zero, suc, ◌/◌, ◌%◌, ◌^◌, ◌<◌, ◌≤◌, true, false, eqb, Some, None, Option, refl, ap, ◌∙◌, inl, inr, arith}
use Rattle.std.proofs.lemmas.Bool.{cases_Bool}
use Rattle.std.proofs.lemmas.Bool.Decides.{nat_tests}
use Rattle.words.specs.declared.slot.Fit.{Fit}
use Rattle.words.specs.Address.{candidate}
use Rattle.words.specs.Slots.{InRange, UnpacksWhatItPacks, route_word, fit_or, fit_below, best_fit, slot_word, child_of, fit_of}
use Rattle.words.proofs.Addresses.{candidate_small}

-- A block that a word names is below 2^20.
pub child_small : (x : ℕ) → child_of x < 2 ^ 20
unfolding child_of
child_small x = omega arith

-- A block is its own word.
pub child_same : (b : ℕ) → b < 2 ^ 20 → child_of b ≡ b
unfolding child_of
child_same b h = omega arith

-- What a word has as its fit is in range.
pub fit_inside : (x : ℕ) → InRange (fit_of x)
unfolding fit_of
fit_inside x = elim (cases_Bool (eqb (x / 2 ^ 54 % 2) 1)) [ inl e ↦ rw e (omega arith, omega arith) | inr e ↦ rw e tt ]

-- A slot word fits in 64 bits.
pub slot_small : (c : ℕ) (f : Option Fit) → c < 2 ^ 20 → InRange f → slot_word c f < 2 ^ 64
unfolding slot_word
slot_small c None h k = omega arith
slot_small c (Some f) h k = omega arith

-- The child of a slot comes back.
pub child_slot : (c : ℕ) (f : Option Fit) → c < 2 ^ 20 → child_of (slot_word c f) ≡ c
unfolding child_of slot_word
child_slot c None h = omega arith
child_slot c (Some f) h = omega arith

-- The fit of a slot comes back.
pub fit_slot : (c : ℕ) (f : Option Fit) → c < 2 ^ 20 → InRange f → fit_of (slot_word c f) ≡ f
unfolding fit_of slot_word
fit_slot c None h k = let e : eqb (c / 2 ^ 54 % 2) 1 ≡ false = grind (arith, nat_tests) in rw e
fit_slot c (Some f) h k =
    let w = slot_word c (Some f) in
    let there : eqb (w / 2 ^ 54 % 2) 1 ≡ true = grind (arith, nat_tests) in
    let long : w / 2 ^ 52 % 4 ≡ f.extra = omega arith in
    let told : w / 2 ^ 20 % 2 ^ 32 ≡ f.tells = omega arith in
    rw (there, long, told)

-- Unpacking a packed slot gives the slot.
pub unpacks : UnpacksWhatItPacks
unpacks s h k = λ i. record { child = child_slot s.child s.fit h i; fit = fit_slot s.child s.fit h k i }

-- A route word is not 0.
pub route_some : (t : ℕ) → 0 < route_word t
unfolding route_word
route_some t = omega arith

-- A route word fits in 64 bits.
pub route_small : (t : ℕ) → t < 2 ^ 32 → route_word t < 2 ^ 64
unfolding route_word
route_small t h = omega arith

-- What a route word tells comes back.
pub route_tells : (t : ℕ) → t < 2 ^ 32 → route_word t % 2 ^ 32 ≡ t
unfolding route_word
route_tells t h = omega arith

-- One more candidate leaves a fit in range.
pub or_inside : (x w : ℕ) (best : Option Fit) → x < 4 → InRange best → InRange (fit_or x w best)
unfolding fit_or
or_inside x w best h k = elim (cases_Bool (eqb w 0)) [ inl e ↦ rw e k | inr e ↦ rw e (h, omega arith) ]

-- The longest fit of the first k extra lengths is in range.
pub below_inside : (k : ℕ) (rs : ℕ → ℕ) (n : ℕ) → k ≤ 4 → InRange (fit_below k rs n)
unfolding fit_below
below_inside zero rs n h = tt
below_inside (suc k) rs n h = or_inside k (rs (candidate k n)) (fit_below k rs n) (omega arith) (below_inside k rs n (omega arith))

-- The longest fit is in range.
pub best_inside : (rs : ℕ → ℕ) (n : ℕ) → InRange (best_fit rs n)
best_inside rs n = below_inside 4 rs n (omega arith)

-- The longest fit of the first k extra lengths looks at the 15 route words only.
pub below_same : (k : ℕ) (rs qs : ℕ → ℕ) (n : ℕ) → k ≤ 4 → n < 16 → ((x : ℕ) → x < 15 → rs x ≡ qs x) → fit_below k rs n ≡ fit_below k qs n
unfolding fit_below
below_same zero rs qs n h l s = refl
below_same (suc k) rs qs n h l s =
    let ih = below_same k rs qs n (omega arith) l s in
    let e = s (candidate k n) (candidate_small k n (omega arith) l) in
    ap (λ z. fit_or k z (fit_below k rs n)) e ∙ ap (λ z. fit_or k (qs (candidate k n)) z) ih

-- The longest fit looks at the 15 route words only.
pub best_same : (rs qs : ℕ → ℕ) (n : ℕ) → n < 16 → ((x : ℕ) → x < 15 → rs x ≡ qs x) → best_fit rs n ≡ best_fit qs n
best_same rs qs n = below_same 4 rs qs n (omega arith)
