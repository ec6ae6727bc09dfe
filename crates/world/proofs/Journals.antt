-- What one more word, and one more event, make of a journal.
-- Assumes nothing.
use Rattle.std.proofs.Common.{◌≡◌, ℕ, zero, suc, ◌+◌, ◌-◌, ◌<◌, ◌≤◌, min, true, false, ltb, leb, ◌≢◌, List, [], ◌∷◌, length, take, set, refl, ap, inl, inr, add-one, arith, get_or-set_other, get_or-set_same}
use Rattle.std.proofs.lemmas.List.{take_all}
use Rattle.std.proofs.lemmas.Bool.{cases_Bool}
use Rattle.std.proofs.lemmas.Bool.Decides.{nat_tests}
use Rattle.routes.specs.declared.Ask.TheVariants.{Find, Change}
use Rattle.routes.specs.declared.Piece.{Piece}
use Rattle.routes.specs.Asked.{pieces_of}
use Rattle.routes.specs.Routes.{Asked, Told, Turned}
use Rattle.world.specs.Notes.{piece_of, read_pieces, skip_pieces, told_of}
use Rattle.world.specs.Journals.{stack_of, events_of, top, below, kept, spread}

-- a write above leaves the stack
pub stack_same : (xs : List ℕ) (m v n : ℕ) → n ≤ m → stack_of (set xs m v) n ≡ stack_of xs n
unfolding stack_of
stack_same xs m v zero l = refl
stack_same xs m v (suc n) l =
    let ne : n ≢ m = omega arith in
    let e = get_or-set_other xs m n v 0 ne in
    let ih = stack_same xs m v n (omega arith) in
    cc

-- a write at its end is a push
pub stack_push : (xs : List ℕ) (n v : ℕ) → n < length xs → stack_of (set xs n v) (n + 1) ≡ v ∷ stack_of xs n
unfolding stack_of
stack_push xs n v l =
    rw (add-one) (let e = get_or-set_same xs n v 0 l in let s = stack_same xs n v n (omega arith) in cc)

-- a turn
pub turned_seen : (p : ℕ) (ks ws : List ℕ) → p < 16 → events_of (p ∷ ks) ws ≡ Turned p ∷ events_of ks ws
unfolding events_of
turned_seen p ks ws l = let e : ltb p 16 ≡ true = grind (arith, nat_tests) in rw e

-- something is told
pub told_seen : (p x : ℕ) (ks ws : List ℕ) → p < 16 → events_of ((16 + p) ∷ ks) (x ∷ ws) ≡ Told p (told_of x) ∷ events_of ks ws
unfolding events_of top below
told_seen p x ks ws l =
    let a : ltb (16 + p) 16 ≡ false = grind (arith, nat_tests) in
    let b : ltb (16 + p) 32 ≡ true = grind (arith, nat_tests) in
    let d : 16 + p - 16 ≡ p = omega arith in
    rw (a, b) (ap (λ q. Told q (told_of x) ∷ events_of ks ws) d)

-- a lookup is asked
pub find_seen : (p x : ℕ) (ks ws : List ℕ) → p < 16 → events_of ((32 + p) ∷ ks) (x ∷ ws) ≡ Asked p (Find x) [] ∷ events_of ks ws
unfolding events_of top below
find_seen p x ks ws l =
    let a : ltb (32 + p) 16 ≡ false = grind (arith, nat_tests) in
    let b : ltb (32 + p) 32 ≡ false = grind (arith, nat_tests) in
    let e : ltb (32 + p) 48 ≡ true = grind (arith, nat_tests) in
    let d : 32 + p - 32 ≡ p = omega arith in
    rw (a, b, e) (ap (λ q. Asked q (Find x) [] ∷ events_of ks ws) d)

-- an update is asked
pub change_seen : (p n : ℕ) (ks ws : List ℕ) → p < 16 →
    events_of ((48 + p) ∷ ks) (n ∷ ws) ≡ Asked p (Change n) (spread n (read_pieces (kept n) ws)) ∷ events_of ks (skip_pieces (kept n) ws)
unfolding events_of top below
change_seen p n ks ws l =
    let a : ltb (48 + p) 16 ≡ false = grind (arith, nat_tests) in
    let b : ltb (48 + p) 32 ≡ false = grind (arith, nat_tests) in
    let e : ltb (48 + p) 48 ≡ false = grind (arith, nat_tests) in
    let d : 48 + p - 48 ≡ p = omega arith in
    rw (a, b, e) (ap (λ q. Asked q (Change n) (spread n (read_pieces (kept n) ws)) ∷ events_of ks (skip_pieces (kept n) ws)) d)

-- the noted pieces are those of the update
pub spread-pieces : (n : ℕ) (ps : List Piece) → length ps ≡ 8 → spread n (take (kept n) ps) ≡ pieces_of (Change n) ps
unfolding pieces_of
spread-pieces n ps l = elim (cases_Bool (leb n 8)) [
  | inl e ↦
      let k : min n 8 ≡ n = grind (arith, nat_tests) in
      rw (e, k) refl
  | inr e ↦
      let k : min n 8 ≡ 8 = grind (arith, nat_tests) in
      let a : take 8 ps ≡ ps = take_all 8 ps (omega arith) in
      rw (e, k, a) refl
]

-- a piece's words on top are the piece
pub piece_read : (x y : ℕ) (ws : List ℕ) (a : Piece) → piece_of x y ≡ a → (n : ℕ) → read_pieces (suc n) (x ∷ y ∷ ws) ≡ a ∷ read_pieces n ws
unfolding read_pieces
piece_read x y ws a e n = ap (λ z. z ∷ read_pieces n ws) e

pub piece_skipped : (x y n : ℕ) (ws : List ℕ) → skip_pieces (suc n) (x ∷ y ∷ ws) ≡ skip_pieces n ws
unfolding skip_pieces
piece_skipped x y n ws = refl

-- no piece is past the last
pub read_none : (n : ℕ) (ws : List ℕ) → read_pieces (n - n) ws ≡ []
unfolding read_pieces
read_none n ws = let z : n - n ≡ 0 = omega arith in rw z refl

pub skip_none : (n : ℕ) (ws : List ℕ) → skip_pieces (n - n) ws ≡ ws
unfolding skip_pieces
skip_none n ws = let z : n - n ≡ 0 = omega arith in rw z refl
