-- One word or two after the first are read back, and nothing more is expected.
use Rattle.std.proofs.Common.{◌≡◌, ℕ, List, [], ◌∷◌, Ok, Result, refl}
use Rattle.script.specs.declared.expected.Expected.{Expected}
use Rattle.script.specs.Reading.{◌>>=◌, end_of}
use Rattle.script.specs.Shown.{after}
use Rattle.script.specs.Words.{word, past}
use Rattle.script.proofs.Back.Plain.{Plain, reads_next, stops}

-- The first of some words is read, and the others are left.
pub reads_after : (w : List ℕ) (ws : List (List ℕ)) → Plain w → (word (after 32 (w ∷ ws)) ≡ w) × (past (after 32 (w ∷ ws)) ≡ after 32 ws)
unfolding after
reads_after w ws p = reads_next w (after 32 ws) p (stops ws)

-- Where no word is left, the end is read.
ends : (e : Expected) → end_of e (after 32 []) ≡ Ok tt
unfolding after word
ends e = refl

-- One word.
pub one_back : {A C : Type 0} (f : List ℕ → Result A Expected) (e : Expected) (k : A → C) (v : List ℕ) (a : A) → Plain v → f v ≡ Ok a →
    (f (word (after 32 (v ∷ []))) >>= λ x. end_of e (past (after 32 (v ∷ []))) >>= λ _. Ok (k x)) ≡ Ok (k a)
one_back f e k v a p h = let r = reads_after v [] p in rw (r.0, r.1, h, ends e) refl

-- Two words.
pub two_back : {A B C : Type 0} (f : List ℕ → Result A Expected) (g : List ℕ → Result B Expected) (e : Expected) (k : A → B → C) (v w : List ℕ) (a : A) (b : B) → Plain v → Plain w → f v ≡ Ok a → g w ≡ Ok b →
    (f (word (after 32 (v ∷ w ∷ []))) >>= λ x. g (word (past (after 32 (v ∷ w ∷ [])))) >>= λ y. end_of e (past (past (after 32 (v ∷ w ∷ [])))) >>= λ _. Ok (k x y)) ≡ Ok (k a b)
two_back f g e k v w a b p q h j = let r = reads_after v (w ∷ []) p in let s = reads_after w [] q in rw (r.0, r.1, s.0, s.1, h) (rw (j, ends e) refl)
