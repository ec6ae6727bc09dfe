-- What may come next stays so while stores arrive.
-- Assumes nothing.
use Rattle.std.proofs.Common.{◌≡◌, ℕ, ◌<◌, not, T, List, [], ◌∷◌, sym, refl, ap, ◌∙◌, subst}
use Rattle.routes.specs.declared.Ask.{Ask}
use Rattle.routes.specs.declared.Piece.{Piece}
use Rattle.routes.specs.declared.Turn.{Turn}
use Rattle.routes.specs.declared.Turn.TheVariants.{Begin, Go, Over}
use Rattle.routes.specs.Asked.{Next, pieces_of}
use Rattle.routes.specs.Memory.{Mem, Store, Arrives, MayTouch, rest, one, oldest, allowed, fenced}
use Rattle.routes.specs.Routes.{Event, Asked, under}

-- the oldest store that arrives is the same whosever turn it is
oldest-allowed : (p q : ℕ) (m : Mem) → allowed p (oldest q (m.late q) m) ≡ oldest q ((allowed p m).late q) (allowed p m)
unfolding oldest
oldest-allowed p q m = go (m.late q)
  where
    go : (row : List Store) → allowed p (oldest q row m) ≡ oldest q row (allowed p m)
    go [] = refl
    go (s ∷ ss) = refl

-- stores arrive, and then it is somebody's turn: or the other way round
pub arrives_allowed : (p : ℕ) {m n : Mem} → Arrives m n → Arrives (allowed p m) (allowed p n)
arrives_allowed p (rest m) = rest (allowed p m)
arrives_allowed p (one {m = m} {n = n} q a) = one q (subst (λ k. Arrives k (allowed p n)) (oldest-allowed p q m) (arrives_allowed p a))

-- no processor comes or goes
pub arrives_cpus : {m n : Mem} → Arrives m n → n.cpus ≡ m.cpus
unfolding oldest
arrives_cpus (rest m) = refl
arrives_cpus (one {m = m} {n = n} q a) = arrives_cpus a ∙ go (m.late q)
  where
    go : (row : List Store) → (oldest q row m).cpus ≡ m.cpus
    go [] = refl
    go (s ∷ ss) = refl

-- whose turn it is can be said before stores arrive
pub next_arrived : (t : Turn) (p : ℕ) (ps : List Piece) {m n : Mem} (es fs gs : List Event) → Arrives m n → gs ≡ es → Next t p ps n gs fs → Next t p ps m es fs
unfolding Next
next_arrived t p ps {m} {n} es fs gs a e h = go t (subst (λ z. Next t p ps n z fs) e h)
  where
    go : (u : Turn) → Next u p ps n es fs → Next u p ps m es fs
    go (Begin k) x = (rw (arrives_cpus a) at x.0, x.1, x.2)
    go Go x = (rw (arrives_cpus a) at x.0, x.1, x.2)
    go Over x = x

-- all is over, and nothing new was seen
pub next_over : (r : ℕ × Turn) (ps : List Piece) (m : Mem) (es fs : List Event) → r ≡ (0, Over) → fs ≡ es → Next r.1 r.0 ps m es fs
unfolding Next
next_over r ps m es fs e same = subst (λ (z : ℕ × Turn). Next z.1 z.0 ps m es fs) (sym e) same

-- a processor that has something under way goes on
pub next_go : (r : ℕ × Turn) (p : ℕ) (ps : List Piece) (m : Mem) (es fs : List Event) → r ≡ (p, Go) → p < m.cpus → T (under p es) → fs ≡ es → Next r.1 r.0 ps m es fs
unfolding Next
next_go r p ps m es fs e h busy same = subst (λ (z : ℕ × Turn). Next z.1 z.0 ps m es fs) (sym e) (h, busy, same)

-- something begins on one that has not
pub next_begin : (k : Ask) (p : ℕ) (ps : List Piece) (m : Mem) (es fs : List Event) → p < m.cpus → T (not (under p es)) → fs ≡ Asked p k (pieces_of k ps) ∷ es → Next (Begin k) p ps m es fs
unfolding Next
next_begin k p ps m es fs h idle seen = (h, idle, seen)

-- stores arrive, and it is somebody's turn
pub turn_given : (p : ℕ) {m n k : Mem} → Arrives m n → k ≡ allowed p n → Arrives (allowed p m) k
turn_given p {m} a e = subst (Arrives (allowed p m)) (sym e) (arrives_allowed p a)

-- what may be touched before stores of a fence arrive may be touched after
pub touch_fenced : (p q b w : ℕ) (m n : Mem) → fenced p n ≡ fenced p m → MayTouch m q b w → MayTouch n q b w
touch_fenced p q b w m n e h =
    let left : n.left ≡ m.left = ap (λ (k : Mem). k.left) e in
    let who : n.who ≡ m.who = ap (λ (k : Mem). k.who) e in
    let cpus : n.cpus ≡ m.cpus = ap (λ (k : Mem). k.cpus) e in
    let blocks : n.blocks ≡ m.blocks = ap (λ (k : Mem). k.blocks) e in
    let held : n.held b ≡ m.held b = ap (λ (k : Mem). k.held b) e in
    (rw left h.0, h.1 ∙ sym who, rw cpus h.2, rw blocks h.3, rw held h.4, h.5)
