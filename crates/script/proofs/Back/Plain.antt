-- Words that are read back from where they are shown: some bytes, each behind the blanks, the comma and the carriage return.
use Rattle.std.proofs.Common.{◌≡◌, ℕ, ◌+◌, ◌<◌, true, false, List, [], ◌∷◌, ◌++◌, length, All, refl, ◌∙◌, one-add, arith}
use Rattle.std.proofs.lemmas.List.Elements.{All-nil, All-cons, All-head, All-tail, All-append, All-weaker}
use Rattle.std.proofs.lemmas.List.{take_at, drop_at}
use Rattle.std.proofs.lemmas.Bool.Decides.{nat_tests}
use Rattle.std.specs.List.{prefix_len}
use Rattle.script.specs.Bytes.{blank, letter}
use Rattle.script.specs.Shown.{after}
use Rattle.script.specs.Words.{word, past, extent}

pub record Plain (w : List ℕ) : Type 0 where
  pub some : 0 < length w
  pub high : All (λ b. 44 < b) w

-- Such bytes are letters of a word.
letters : (w t : List ℕ) → All (λ b. 44 < b) w → prefix_len letter (w ++ t) ≡ length w + prefix_len letter t
letters [] t h = omega arith
letters (c ∷ cs) t h =
    let is : letter c ≡ true = (let high = All-head (λ b. 44 < b) c cs h in grind (arith, nat_tests)) in
    rw is (omega (arith, letters cs t (All-tail (λ b. 44 < b) c cs h)))

-- A word with a blank, a comma or nothing behind it is read, and what follows is left.
pub reads : (w t : List ℕ) → Plain w → prefix_len letter t ≡ 0 → (word (w ++ t) ≡ w) × (past (w ++ t) ≡ t)
unfolding word past
reads [] t p ends = absurd (omega (arith, p.some))
reads (c ∷ cs) t p ends =
    let w = c ∷ cs in
    let high = All-head (λ b. 44 < b) c cs p.high in
    let solid : blank c ≡ false = grind (arith, nat_tests) in
    let long : extent (w ++ t) ≡ length w = (let front = letters w t p.high in grind (arith, nat_tests)) in
    rw (solid, long) (take_at w t _ refl, drop_at w t _ refl)

-- A blank in front is passed over.
pub reads_blank : (t : List ℕ) → (word (32 ∷ t) ≡ word t) × (past (32 ∷ t) ≡ past t)
unfolding word past
reads_blank t = rw one-add (refl, refl)

-- The same of a word that follows another.
pub reads_next : (w t : List ℕ) → Plain w → prefix_len letter t ≡ 0 → (word (32 ∷ (w ++ t)) ≡ w) × (past (32 ∷ (w ++ t)) ≡ t)
reads_next w t p ends = let r = reads w t p ends in let b = reads_blank (w ++ t) in (b.0 ∙ r.0, b.1 ∙ r.1)

-- What begins with a blank is no part of the word before it.
pub stops : (ws : List (List ℕ)) → prefix_len letter (after 32 ws) ≡ 0
unfolding after
stops [] = refl
stops (w ∷ ws) = refl

-- What holds of the byte between and of each other byte holds of all.
pub all_after : (P : ℕ → Type 0) (b : ℕ) (ws : List (List ℕ)) → P b → All (All P) ws → All P (after b ws)
unfolding after
all_after P b [] here h = All-nil P
all_after P b (w ∷ ws) here h =
    let behind = all_after P b ws here (All-tail (All P) w ws h) in
    All-cons P b (w ++ after b ws) here (All-append P w (after b ws) (All-head (All P) w ws h) behind)

-- What holds of all that stands behind the comma holds of each byte of such words.
pub all_high : (P : ℕ → Type 0) → ((x : ℕ) → 44 < x → P x) → (ws : List (List ℕ)) → All Plain ws → All (All P) ws
all_high P high [] h = All-nil (All P)
all_high P high (w ∷ ws) h =
    let first = All-weaker (λ x. 44 < x) P high w (All-head Plain w ws h).high in
    All-cons (All P) w ws first (all_high P high ws (All-tail Plain w ws h))
