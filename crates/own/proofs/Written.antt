-- A piece that was written is read as it was, and other pieces stay.
use Rattle.std.proofs.Common.{◌≡◌, ℕ, ◌<◌, Bool, true, false, cond, not, eqb, List, length, refl, ap, ◌∙◌, arith, length-set}
use Rattle.std.proofs.lemmas.Bool.Decides.{nat_tests as tells}
use Rattle.own.specs.declared.piece.PieceWords.{PieceWords}
use Rattle.own.specs.Layout.{piece_at, words_of, put}
use Rattle.own.specs.Pieces.{piece_of, piece_written, ReadsWhatItWrote}
use Rattle.own.proofs.Words.{words_set, words_then}

-- Writing a piece keeps the number of words.
pub length_written : (o : List ℕ) (k : ℕ) (p : PieceWords) → length (piece_written o k p) ≡ length o
unfolding piece_written
length_written o k p = simp length-set

-- The four words that writing a piece changes.
abbrev pub piece_put : ℕ → PieceWords → (ℕ → ℕ) → ℕ → ℕ
piece_put k p f = put (piece_at k 3) p.tells (put (piece_at k 2) p.bits (put (piece_at k 1) p.len (put (piece_at k 0) (cond p.puts 1 0) f)))

-- Writing a piece, of words as a function.
pub words_written : (o : List ℕ) (k : ℕ) (p : PieceWords) → length o ≡ 4096 → k < 8 → words_of (piece_written o k p) ≡ piece_put k p (words_of o)
unfolding piece_written
words_written o k p h l =
    words_then _ (piece_at k 3) p.tells _ (simp length-set (omega arith))
    (words_then _ (piece_at k 2) p.bits _ (simp length-set (omega arith))
    (words_then _ (piece_at k 1) p.len _ (simp length-set (omega arith)) (words_set o (piece_at k 0) (cond p.puts 1 0) (omega arith))))

-- A flag comes back.
flag : (b : Bool) → not (eqb (cond b 1 0) 0) ≡ b
flag true = refl
flag false = refl

-- The piece itself.
pub piece_hit : (f : ℕ → ℕ) (k : ℕ) (p : PieceWords) → piece_of (piece_put k p f) k ≡ p
piece_hit f k p =
    let puts : piece_put k p f (piece_at k 0) ≡ cond p.puts 1 0 = grind (arith, tells) in
    let len : piece_put k p f (piece_at k 1) ≡ p.len = grind (arith, tells) in
    let bits : piece_put k p f (piece_at k 2) ≡ p.bits = grind (arith, tells) in
    let tells : piece_put k p f (piece_at k 3) ≡ p.tells = grind (arith, tells) in
    λ i. record { puts = (ap (λ z. not (eqb z 0)) puts ∙ flag p.puts) i; len = len i; bits = bits i; tells = tells i }

-- A word of another piece stays.
other : (f : ℕ → ℕ) (k j i : ℕ) (p : PieceWords) → (j ≡ k → ⊥) → i < 4 → piece_put k p f (piece_at j i) ≡ f (piece_at j i)
other f k j i p ne h = grind (arith, tells)

-- Other pieces stay.
pub piece_miss : (f : ℕ → ℕ) (k j : ℕ) (p : PieceWords) → (j ≡ k → ⊥) → piece_of (piece_put k p f) j ≡ piece_of f j
piece_miss f k j p ne =
    let same : (i : ℕ) → i < 4 → piece_put k p f (piece_at j i) ≡ f (piece_at j i) = λ i. other f k j i p ne in
    λ i. record { puts = not (eqb (same 0 (omega arith) i) 0); len = same 1 (omega arith) i; bits = same 2 (omega arith) i; tells = same 3 (omega arith) i }

-- Both, of the words themselves.
pub reads : ReadsWhatItWrote
reads o k p h l =
    let e = words_written o k p h l in
    (ap (λ f. piece_of f k) e ∙ piece_hit (words_of o) k p, λ j ne. ap (λ f. piece_of f j) e ∙ piece_miss (words_of o) k j p ne)
