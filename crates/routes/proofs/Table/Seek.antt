-- A question is answered by lookups of the address's own prefixes, the longest first.
use Rattle.std.proofs.Common.{◌≡◌, ℕ, zero, suc, ◌≤◌, true, List, sym, refl, ◌∙◌, inl, inr, arith}
use mathlib.Core.List.{Memᴰ}
use Rattle.std.proofs.lemmas.Bool.Decides.{nat_tests as tests}
use Rattle.std.proofs.lemmas.Bool.{cases_lt}
use Rattle.words.specs.Slots.{route_word}
use Rattle.routes.specs.declared.Answer.TheVariants.{Found, Nothing}
use Rattle.routes.specs.Routes.{Route}
use Rattle.routes.specs.Table.Tables.{Fine}
use Rattle.routes.specs.Table.Lookups.{lookup, masked, lookups, seek}
use Rattle.routes.specs.Table.Laws.{FindByLookups}
use Rattle.routes.proofs.Basics.Tests.{T_true}
use Rattle.routes.proofs.Table.Longest.{fitting, AllBelow, outcome}
use Rattle.routes.proofs.Table.Lookups.{lookup_in, lookup_is}
use Rattle.routes.proofs.Table.Masks.{masked-fits, fits-masked}
use Rattle.routes.proofs.Table.Sound.{clean-parts}

-- Words that agree are sought alike.
pub seek_same : (f g : ℕ → ℕ) (k : ℕ) → ((i : ℕ) → suc i ≤ k → f i ≡ g i) → seek f k ≡ seek g k
unfolding seek
seek_same f g zero h = refl
seek_same f g (suc k) h = rw (h k (omega arith), seek_same f g k (λ i l. h i (omega arith)))

module _ (a : ℕ) (rs : List Route) (f : Fine rs) where
  -- Past all that fit, nothing is looked up.
  seek_none : (n k : ℕ) → AllBelow a rs n → n ≤ k → lookups a rs k ≡ 0
  seek_none n k h le = elim (lookup_in k (masked k a) rs) [
    | inl z ↦ z
    | inr i ↦ (let fit : fitting a i.0 ≡ true = rw (i.2, i.3) (masked-fits k a) in absurd (omega (arith, h i.0 i.1 fit)))
  ]

  -- So longer prefixes may be left out.
  seek_down : (n k : ℕ) → AllBelow a rs n → n ≤ k → seek (lookups a rs) k ≡ seek (lookups a rs) n
  unfolding seek
  seek_down n zero h le = let e : n ≡ 0 = omega arith in rw e
  seek_down n (suc k) h le = elim (cases_lt k n) [
    | inl l ↦ (let e : n ≡ suc k = omega arith in rw e)
    | inr l ↦ (let z = seek_none n k h l in rw z (seek_down n k h l))
  ]

  -- A route that fits is found at its length.
  seek_at : (r : Route) → Memᴰ r rs → fitting a r ≡ true → seek (lookups a rs) (suc r.len) ≡ Found r.len r.tells
  unfolding seek route_word
  seek_at r m fit =
      let c = clean-parts r.len r.bits (T_true _ (f.tidy r m)) in
      let b : r.bits ≡ masked r.len a = fits-masked r.len r.bits a c.rest fit in
      let w : lookup r.len (masked r.len a) rs ≡ route_word r.tells = rw b at (lookup_is rs f r m) in
      rw w (grind (arith, tests))

-- What is found for an address is the first of its own prefixes that is there, the longest first.
pub find-lookups : FindByLookups
unfolding seek
find-lookups a rs f = elim (outcome a rs Nothing 0) [
  | inl o ↦ seek_down a rs f 0 33 o.1 (omega arith) ∙ sym o.0
  | inr b ↦
      let c = clean-parts b.route.len b.route.bits (T_true _ (f.tidy b.route b.member)) in
      seek_down a rs f (suc b.route.len) 33 b.most (omega (arith, c.short)) ∙ seek_at a rs f b.route b.member b.fit ∙ sym b.is
]
