-- A walk down a tree, by the route words of the address's own prefixes.
use Rattle.std.proofs.Common.{◌≡◌, ℕ, zero, suc, ◌+◌, ◌-◌, ◌*◌, ◌/◌, ◌%◌, ◌^◌, ◌<◌, ◌≤◌, cond, eqb, Option, ap, ◌∙◌, inl, inr, add-zero, suc-add, zero-add, arith}
use native.Mathlib.Numerals.{unary_clauses}
use Rattle.std.proofs.lemmas.Bool.Decides.{eqb_tells}
use Rattle.words.specs.declared.slot.Fit.{Fit}
use Rattle.words.specs.Address.{nib, place, candidate}
use Rattle.words.specs.Slots.{fit_or, fit_below, best_fit}
use Rattle.words.proofs.Addresses.{nib_small}
use Rattle.routes.specs.declared.Answer.{Answer}
use Rattle.routes.specs.declared.Answer.TheVariants.{Found, Nothing}
use Rattle.routes.specs.Table.Lookups.{masked, seek}
use Rattle.routes.specs.Keys.Keys.{nibs, way_of}
use Rattle.routes.specs.Tree.Trees.{Tree, routes_of, look}
use Rattle.routes.specs.Tree.Walks.{down, better, walk}
use Rattle.routes.proofs.Keys.Nibs.{nibs-masked}
use Rattle.routes.proofs.Keys.Place.{place_last, place-masked}

-- A look by an address's nibbles is at the node that they lead to.
pub look_down : (k d a x : ℕ) (t : Tree) → look (nibs d k a) x (down a d t) ≡ routes_of (down a (d + k) t) x
unfolding look nibs down
look_down zero d a x t = rw add-zero
look_down (suc k) d a x t = let q : suc d + k ≡ d + suc k = omega arith in look_down k (suc d) a x t ∙ ap (λ z. routes_of (down a z t) x) q

-- the route word of an address's own prefix of each length
abbrev pub words : ℕ → Tree → ℕ → ℕ
words a t len = look (way_of len (masked len a)) (place len (masked len a)) t

-- Of the lengths of a level it is the node's candidate at the address's nibble.
pub word_level : (e x a : ℕ) (t : Tree) → x < 4 → e < 8 → words a t (4 * e + x) ≡ routes_of (down a e t) (candidate x (nib e a))
unfolding down
word_level e x a t h l =
    let d : (4 * e + x) / 4 ≡ e = omega arith in
    rw (d, place-masked e x a h l, nibs-masked (4 * e + x) a 0 e (omega arith) (omega arith)) (rw zero-add at (look_down e 0 a (candidate x (nib e a)) t))

-- Of length 32 it is the first of the last level.
pub word_last : (a : ℕ) (t : Tree) → words a t 32 ≡ routes_of (down a 8 t) 0
unfolding down
word_last a t = rw (nibs-masked 32 a 0 8 (omega arith) (omega arith), place_last (masked 32 a)) (look_down 8 0 a 0 t)

-- a route word of length len goes before what was best
abbrev ahead : ℕ → ℕ → Answer → Answer
ahead len w best = cond (eqb w 0) best (Found len (w % 2 ^ 32))

-- So does a node's word, in the order of the extra lengths.
better_or : (d x w : ℕ) (f : Option Fit) (best : Answer) → better d (fit_or x w f) best ≡ ahead (4 * d + x) w (better d f best)
unfolding fit_or
better_or d x w f best = elim (eqb_tells w 0) [ inl e ↦ rw e.0 | inr e ↦ rw e.0 ]

-- The best of a node is the best of its four candidates.
pub better_four : (d n : ℕ) (rs : ℕ → ℕ) (best : Answer) → better d (best_fit rs n) best ≡
    ahead (4 * d + 3) (rs (candidate 3 n)) (ahead (4 * d + 2) (rs (candidate 2 n)) (ahead (4 * d + 1) (rs (candidate 1 n)) (ahead (4 * d + 0) (rs (candidate 0 n)) best)))
unfolding fit_below
better_four d n rs best = simp better_or

-- Seeking goes the same way, four lengths at a time.
seek_four : (f : ℕ → ℕ) (k : ℕ) → ((x : ℕ) → x < 4 → f (k + x) % 2 ^ 32 ≡ f (k + x) - 2 ^ 32) →
    seek f (k + 4) ≡ ahead (k + 3) (f (k + 3)) (ahead (k + 2) (f (k + 2)) (ahead (k + 1) (f (k + 1)) (ahead (k + 0) (f (k + 0)) (seek f k))))
unfolding seek
seek_four f k low = rw (low 3 (omega arith), low 2 (omega arith), low 1 (omega arith), low 0 (omega arith)) (simp unary_clauses)

-- A walk of an address; each route word of its prefixes tells its low 32 bits; at the last level there is only the first.
module _ (a : ℕ) (t : Tree) (low : (len : ℕ) → len ≤ 32 → words a t len % 2 ^ 32 ≡ words a t len - 2 ^ 32) (last : (x : ℕ) → 0 < x → x < 15 → routes_of (down a 8 t) x ≡ 0) where
  -- One level.
  walk_level : (e : ℕ) → e < 8 → better e (best_fit (routes_of (down a e t)) (nib e a)) (seek (words a t) (4 * e)) ≡ seek (words a t) (4 * suc e)
  walk_level e h =
      let q : 4 * suc e ≡ 4 * e + 4 = omega arith in
      better_four e (nib e a) (routes_of (down a e t)) (seek (words a t) (4 * e))
      ∙ rw (
        q,
        seek_four (words a t) (4 * e) (λ x l. low (4 * e + x) (omega arith)),
        word_level e 3 a t (omega arith) h,
        word_level e 2 a t (omega arith) h,
        word_level e 1 a t (omega arith) h,
        word_level e 0 a t (omega arith) h,
      )

  -- The last level.
  walk_last : better 8 (best_fit (routes_of (down a 8 t)) (nib 8 a)) (seek (words a t) 32) ≡ seek (words a t) 33
  unfolding seek candidate
  walk_last =
      let n = nib_small 8 a in
      let q : nib 8 a / 16 ≡ 0 = omega arith in
      better_four 8 (nib 8 a) (routes_of (down a 8 t)) (seek (words a t) 32)
      ∙ rw (
        last (7 + nib 8 a / 2) (omega arith) (omega arith),
        last (3 + nib 8 a / 4) (omega arith) (omega arith),
        last (1 + nib 8 a / 8) (omega arith) (omega arith),
        q,
        ← low 32 (omega arith),
        word_last a t,
      )

  -- Levels above the last, k of them.
  walk_levels : (k e j : ℕ) → e + k ≤ 8 → walk (k + j) e a (down a e t) (seek (words a t) (4 * e)) ≡ walk j (e + k) a (down a (e + k) t) (seek (words a t) (4 * (e + k)))
  unfolding walk down
  walk_levels zero e j h = rw (add-zero e, zero-add j)
  walk_levels (suc k) e j h =
      let q : suc e + k ≡ e + suc k = omega arith in
      ap (λ z. walk z e a (down a e t) (seek (words a t) (4 * e))) (suc-add k j) ∙ ap (λ z. walk (k + j) (suc e) a (down a (suc e) t) z) (walk_level e (omega arith))
      ∙ walk_levels k (suc e) j (omega arith) ∙ ap (λ z. walk j z a (down a z t) (seek (words a t) (4 * z))) q

  -- A walk finds the longest of the address's own prefixes that the tree has.
  pub walk_words : walk 9 0 a t Nothing ≡ seek (words a t) 33
  unfolding walk down seek
  walk_words = walk_levels 8 0 1 (omega arith) ∙ walk_last
