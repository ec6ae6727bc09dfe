-- From move to move.
-- Assumes nothing.
use Rattle.std.proofs.Common.{◌≡◌, ℕ, suc, zero, ◌+◌, ◌-◌, ◌*◌, ◌/◌, ◌<◌, ◌≤◌, Bool, true, false, T, List, [], length, get_or, take, drop, refl, ap, ◌∙◌, length-drop, length-take-le, arith}
use Rattle.std.specs.Bool.{MatchBool}
use Rattle.std.specs.List.{AllWithin, HoldsAt}
use Rattle.std.specs.Simd.{first_chunks}
use Rattle.std.proofs.lemmas.List.{drop-drop, get_or-take, get_or-drop}
use Rattle.moves.specs.declared.listed.Listed.{Listed}
use Rattle.moves.specs.Moves.{width_of, PiecesFit, IsMove, AllMoves, end, more}

-- one move stands at a place
move_same : (cpus : ℕ) (ws : List ℕ) (at : ℕ) (l k : Listed) → IsMove cpus ws at l → IsMove cpus ws at k → l ≡ k
move_same cpus ws at l k a b = let e = a.head in let f = b.head in cc

-- moves from a place on are that move, and moves behind it
pub moves_behind : (cpus : ℕ) (ws : List ℕ) (at : ℕ) (l : Listed) → IsMove cpus ws at l → AllMoves cpus ws at → AllMoves cpus ws (at + width_of l)
moves_behind cpus ws at l h end = absurd (let x = h.inside in omega arith)
moves_behind cpus ws at l h (more k m rest) = let e = move_same cpus ws at l k h m in rw e rest

-- there are none at a place where no move stands
pub moves_not : (cpus : ℕ) (ws : List ℕ) (at : ℕ) → at < length ws → ((l : Listed) → IsMove cpus ws at l → ⊥) → AllMoves cpus ws at → ⊥
moves_not cpus ws at h never end = omega arith
moves_not cpus ws at h never (more k m rest) = never k m

-- at the end there are no more
pub moves_end : (cpus : ℕ) (ws : List ℕ) (at : ℕ) → at ≡ length ws → AllMoves cpus ws at
moves_end cpus ws at e = rw e end

-- the k-th of n pairs is two words, from twice k on
pair_at : (n k : ℕ) (ws : List ℕ) → k < n → get_or (first_chunks 2 n ws) k [] ≡ take 2 (drop (2 * k) ws)
pair_at zero k ws h = absurd (omega (arith, h))
pair_at (suc n) zero ws h = refl
pair_at (suc n) (suc k) ws h =
    let place : 2 + 2 * k ≡ 2 * suc k = omega arith in
    pair_at n k (drop 2 ws) (omega (arith, h)) ∙ ap (take 2) (drop-drop (2 * k) 2 ws ∙ ap (λ j. drop j ws) place)

module _ (n at : ℕ) (ws xs : List ℕ) (fits : at + 2 * n ≤ length ws) (part : xs ≡ take (at + 2 * n - at) (drop at ws)) where
  -- the words from a place on, two by two, are n pairs
  pub pair_count : length xs / 2 ≡ n
  pair_count =
      let long : length xs ≡ at + 2 * n - at = ap length part ∙ length-take-le (at + 2 * n - at) (drop at ws) (rw (length-drop at ws) (omega (arith, fits))) in
      omega (arith, long)

  module _ (ps : List (List ℕ)) (front : ps ≡ first_chunks 2 (length xs / 2) xs) where
    -- and these are their words
    pub pair_word : (k j : ℕ) → k < n → j < 2 → get_or (get_or ps k []) j 0 ≡ get_or ws (at + (2 * k + j)) 0
    pair_word k j h i =
        ap (λ qs. get_or (get_or qs k []) j 0) front
        ∙ (ap (λ p. get_or p j 0) (pair_at (length xs / 2) k xs (rw pair_count h))
        ∙ (get_or-take 2 (drop (2 * k) xs) j 0 i
        ∙ (get_or-drop (2 * k) xs j 0
        ∙ (ap (λ l. get_or l (2 * k + j) 0) part
        ∙ (get_or-take (at + 2 * n - at) (drop at ws) (2 * k + j) 0 (omega (arith, h, i)) ∙ get_or-drop at ws (2 * k + j) 0)))))

    -- the first word of a pair
    pub pair_first : (k : ℕ) → k < n → get_or (get_or ps k []) 0 0 ≡ get_or ws (at + 2 * k) 0
    pair_first k h = let place : at + (2 * k + 0) ≡ at + 2 * k = omega arith in pair_word k 0 h (omega arith) ∙ ap (λ j. get_or ws j 0) place

    -- and the second
    pub pair_second : (k : ℕ) → k < n → get_or (get_or ps k []) 1 0 ≡ get_or ws (at + 2 * k + 1) 0
    pair_second k h = let place : at + (2 * k + 1) ≡ at + 2 * k + 1 = omega arith in pair_word k 1 h (omega arith) ∙ ap (λ j. get_or ws j 0) place

    -- pieces fit just if the first words of all pairs are low
    pub fit_told : (r : Bool) → MatchBool r (AllWithin (λ p. get_or p 0 0 < 512) ps 0 (length ps)) ((k : ℕ) × (k < length ps) × HoldsAt (λ p. 512 ≤ get_or p 0 0) ps k) → length ps ≡ length xs / 2 → (T r → PiecesFit n ws at) × (PiecesFit n ws at → T r)
    fit_told true all long = (λ t. record { long = fits; low = λ k h. rw (pair_first k h) at (all k [] (omega arith) (omega (arith, h, long, pair_count))) }, λ f. tt)
    fit_told false (k, h, high) long =
        let inside : k < n = omega (arith, h, long, pair_count) in
        (λ t. absurd t, λ f. absurd (omega (arith, f.low k inside, rw (pair_first k inside) at (high []))))
