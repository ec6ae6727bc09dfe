-- The memory that processors share, each with a row of its own stores that haven't arrived; and the pool of its blocks.
-- Assumes nothing.
use Rattle.std.specs.Prelude.{◌≡◌, ℕ, ◌-◌, ◌<◌, ◌≤◌, Bool, true, false, cond, not, ◌&&◌, T, List, [], ◌∷◌, ◌++◌, Some, None, ◌==◌, ◌≢◌}

pub record Store : Type 0 where
  pub block : ℕ
  pub word : ℕ
  pub x : ℕ

-- held: was got from the pool and not given back. late: stores of a processor that haven't arrived, the oldest first.
pub record Mem : Type 0 where
  pub cpus : ℕ
  pub blocks : ℕ
  pub val : ℕ → ℕ → ℕ
  pub held : ℕ → Bool
  pub late : ℕ → List Store
  -- how often it may still be asked in this turn
  pub left : ℕ
  -- whose turn it is
  pub who : ℕ

abbrev pub set_val : ℕ → ℕ → ℕ → (ℕ → ℕ → ℕ) → ℕ → ℕ → ℕ
set_val b w x v c j = cond (c == b && j == w) x (v c j)

abbrev pub set_at : {A : Type 0} → ℕ → A → (ℕ → A) → ℕ → A
set_at p y f q = cond (q == p) y (f q)

abbrev pub with' : (ℕ → ℕ → ℕ) → (ℕ → Bool) → (ℕ → List Store) → Mem → Mem
with' v h l m = record { cpus = m.cpus; blocks = m.blocks; val = v; held = h; late = l; left = m.left; who = m.who }

abbrev pub counted : Mem → Mem
counted m = record { cpus = m.cpus; blocks = m.blocks; val = m.val; held = m.held; late = m.late; left = m.left - 1; who = m.who }

abbrev pub allowed : ℕ → Mem → Mem
allowed p m = record { cpus = m.cpus; blocks = m.blocks; val = m.val; held = m.held; late = m.late; left = 1; who = p }

-- a processor sees its own latest store that hasn't arrived, or what is there
unfoldable pub last_late : ℕ → ℕ → List Store → ℕ → ℕ
last_late b w [] old = old
last_late b w (s ∷ ss) old = last_late b w ss (cond (b == s.block && w == s.word) s.x old)

abbrev pub sees : ℕ → ℕ → ℕ → Mem → ℕ
sees p b w m = last_late b w (m.late p) (m.val b w)

unfoldable pub arrived : List Store → (ℕ → ℕ → ℕ) → ℕ → ℕ → ℕ
arrived [] v = v
arrived (s ∷ ss) v = arrived ss (set_val s.block s.word s.x v)

abbrev pub stored : ℕ → ℕ → ℕ → ℕ → Mem → Mem
stored p b w x m = with' m.val m.held (set_at p (m.late p ++ (record { block = b; word = w; x = x } ∷ [])) m.late) m

-- all of a processor's stores have arrived
abbrev pub fenced : ℕ → Mem → Mem
fenced p m = with' (arrived (m.late p) m.val) m.held (set_at p [] m.late) m

abbrev pub swapped : ℕ → ℕ → ℕ → ℕ → ℕ → Mem → Mem
swapped p b w old new m = cond ((fenced p m).val b w == old) (with' (set_val b w new (fenced p m).val) m.held (fenced p m).late m) (fenced p m)

-- by itself, at any time: the oldest store of some processor arrives
unfoldable pub oldest : ℕ → List Store → Mem → Mem
oldest p [] m = m
oldest p (s ∷ ss) m = with' (set_val s.block s.word s.x m.val) m.held (set_at p ss m.late) m

pub data Arrives : Mem → Mem → Type 0 where
  rest : (m : Mem) → Arrives m m
  one : {m n : Mem} (p : ℕ) → Arrives (oldest p (m.late p) m) n → Arrives m n

unfoldable pub none_to : ℕ → List Store → Bool
none_to b [] = true
none_to b (s ∷ ss) = not (b == s.block) && none_to b ss

-- what may be asked
abbrev pub MayTouch : Mem → (p b w : ℕ) → Type 0
MayTouch m p b w = (0 < m.left) × (p ≡ m.who) × (p < m.cpus) × (b < m.blocks) × T (m.held b) × (w < 48)

-- a block may be given back when no store to it is on its way
abbrev pub MayRelease : Mem → (p b : ℕ) → Type 0
MayRelease m p b = (0 < m.left) × (p ≡ m.who) × (p < m.cpus) × (0 < b) × (b < m.blocks) × T (m.held b) × ((q : ℕ) → T (none_to b (m.late q)))

abbrev pub released : ℕ → Mem → Mem
released b m = with' m.val (set_at b false m.held) m.late m

-- a block that is got holds anything; none is got only if all are held
pub data Obtains (m : Mem) : Rattle.std.specs.declared.option.Option.Option ℕ → Mem → Type 0 where
  got : (b : ℕ) (v : ℕ → ℕ → ℕ) (n : Mem) → b < m.blocks → m.held b ≡ false → ((c w : ℕ) → (c ≢ b) → v c w ≡ m.val c w) → ((w : ℕ) → v b w < 18446744073709551616) →
      Arrives (counted (with' v (set_at b true m.held) m.late m)) n → Obtains m (Some b) n
  out : (n : Mem) → ((b : ℕ) → b < m.blocks → T (m.held b)) → Arrives (counted m) n → Obtains m None n

-- as it starts: only block 0 is held, and it's noughts
abbrev pub AtStart : Mem → Type 0
AtStart m = (1 ≤ m.cpus) × (m.cpus ≤ 16) × (256 ≤ m.blocks) × (m.blocks ≤ 1048576) × ((w : ℕ) → m.val 0 w ≡ 0) × T (m.held 0) × ((b : ℕ) → 0 < b → m.held b ≡ false) × ((p : ℕ) → m.late p ≡ [])
