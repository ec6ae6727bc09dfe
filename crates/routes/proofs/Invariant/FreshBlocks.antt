-- The fresh blocks among the own words: one more, one less, and what such a write leaves.
use Rattle.std.proofs.Common.{◌≡◌, ℕ, suc, ◌+◌, ◌-◌, ◌*◌, ◌<◌, ◌≤◌, eqb, List, length, set, sym, refl, ap, ◌∙◌, subst, arith, length-set}
use Rattle.own.specs.Layout.{words_of, fresh_at, piece_at, put}
use Rattle.own.specs.Pieces.{piece_of}
use Rattle.own.proofs.Words.{words_set, put_miss}
use Rattle.routes.specs.declared.Piece.{Piece}
use Rattle.routes.specs.declared.update.job.Job.{Job}
use Rattle.routes.specs.Counts.Counts.{bit, cnt, seg}
use Rattle.routes.specs.Machine.Jobs.{having, using'}
use Rattle.routes.specs.Invariant.Ghosts.{Ghost}
use Rattle.routes.specs.Invariant.Readers.{Pending}
use Rattle.routes.specs.Invariant.Holders.{got_blocks, rest_blocks}
use Rattle.routes.proofs.Invariant.Apart.{uses}
use Rattle.routes.proofs.Counts.Segments.{seg_first, seg_in, cnt_split, cnt-put}

-- A piece is four words.
piece_same : (f g : ℕ → ℕ) (k : ℕ) → ((i : ℕ) → i < 4 * k + 4 → f i ≡ g i) → piece_of f k ≡ piece_of g k
piece_same f g k same =
    rw (same (piece_at k 0) (omega arith), same (piece_at k 1) (omega arith), same (piece_at k 2) (omega arith), same (piece_at k 3) (omega arith)) refl

module _ (o : List ℕ) (j : Job) (b : ℕ) (room : length o ≡ 4096) (few : j.got < 72) where
  -- block b stands behind those got so far
  abbrev pub more : List ℕ
  more = set o (fresh_at j.got) b

  -- Only that word is another.
  words_more : words_of more ≡ put (fresh_at j.got) b (words_of o)
  words_more = words_set o (fresh_at j.got) b (omega arith)

  -- Then it is counted with them.
  pub got_more : (c : ℕ) → cnt c (got_blocks more (having (j.got + 1) j)) ≡ cnt c (got_blocks o j) + bit (eqb c b)
  got_more c = subst (λ f. cnt c (seg f 320 (j.got + 1)) ≡ cnt c (seg (words_of o) 320 j.got) + bit (eqb c b)) (sym words_more) (cnt-put c (words_of o) 320 j.got b)

  -- The pieces stay.
  pub pending_more : (size : ℕ) (ps : List Piece) → Pending o size ps → Pending more size ps
  pending_more size ps p = record {
    length' = p.length';
    some = p.some;
    few = p.few;
    fits = p.fits;
    words = λ k l. (let eight = p.few in piece_same (words_of more) (words_of o) k (λ i h. ap (λ f. f i) words_more ∙ put_miss (fresh_at j.got) b (words_of o) i (λ e. omega arith)) ∙ p.words k l);
  }

  -- The own words are as many.
  pub room_more : length more ≡ 4096
  room_more = length-set o (fresh_at j.got) b ∙ room

module _ (o : List ℕ) (j : Job) where
  -- The last of those got is one of them, and the others are counted without it.
  pub got_less : 0 < j.got → (c : ℕ) → cnt c (got_blocks o j) ≡ cnt c (got_blocks o (having (j.got - 1) j)) + bit (eqb c (words_of o (fresh_at (j.got - 1))))
  unfolding seg cnt
  got_less some c =
      let q : j.got - 1 + 1 ≡ j.got = omega arith in
      ap (λ n. cnt c (seg (words_of o) 320 n)) (sym q) ∙ (cnt_split c (words_of o) 320 (j.got - 1) 1 ∙ (omega arith))

  -- So it is fresh.
  pub got_last : 0 < j.got → 1 ≤ cnt (words_of o (fresh_at (j.got - 1))) (got_blocks o j)
  got_last some = seg_in (words_of o) 320 j.got (j.got - 1) (omega arith)

  -- The first of those not used, and the rest.
  pub rest_less : j.used < j.got → (c : ℕ) → cnt c (rest_blocks o j) ≡ cnt c (rest_blocks o (using' (j.used + 1) j)) + bit (eqb c (words_of o (fresh_at j.used)))
  unfolding cnt
  rest_less some c =
      let q : 1 + (j.got - (j.used + 1)) ≡ j.got - j.used = omega arith in
      let next : suc (fresh_at j.used) ≡ fresh_at (j.used + 1) = omega arith in
      ap (λ n. cnt c (seg (words_of o) (fresh_at j.used) n)) (sym q) ∙
      (ap (cnt c) (seg_first (words_of o) (fresh_at j.used) (j.got - (j.used + 1))) ∙
      (ap (λ i. bit (eqb c (words_of o (fresh_at j.used))) + cnt c (seg (words_of o) i (j.got - (j.used + 1)))) next ∙ (omega arith)))

  -- So it is fresh.
  pub rest_first : j.used < j.got → 1 ≤ cnt (words_of o (fresh_at j.used)) (rest_blocks o j)
  rest_first some =
      let in' = seg_in (words_of o) (fresh_at j.used) (j.got - j.used) 0 (omega arith) in
      let q : fresh_at j.used + 0 ≡ fresh_at j.used = omega arith in
      subst (λ i. 1 ≤ cnt (words_of o i) (rest_blocks o j)) q in'

-- A fresh block is in use.
pub fresh_used : (g : Ghost) (xs : List ℕ) (b : ℕ) → g.fresh ≡ xs → 1 ≤ cnt b xs → 1 ≤ uses g b
fresh_used g xs b e n = let z : cnt b g.fresh ≡ cnt b xs = ap (cnt b) e in omega arith
