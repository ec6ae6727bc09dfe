-- What is promised of all that is known between two turns, each a theorem that a contract names. `turns` is these, over lists.
-- Assumes nothing.
use Rattle.std.specs.Prelude.{◌≡◌, ℕ, suc, ◌^◌, ◌<◌, true, false, List, [], ◌∷◌, length}
use Rattle.routes.specs.declared.Ask.{Ask}
use Rattle.routes.specs.declared.Piece.{Piece}
use Rattle.routes.specs.Memory.{Mem, AtStart, Arrives, allowed}
use Rattle.routes.specs.Routes.{Event, Asked, under}
use Rattle.routes.specs.Asked.{pieces_of}
use Rattle.routes.specs.Machine.Acts.{Did}
use Rattle.routes.specs.Machine.Begins.{AskFits, begin_work, begin_words}
use Rattle.routes.specs.Machine.Cpus.{Ready, WorkOk, act, work_after, words_after, told_after}
use Rattle.routes.specs.Invariant.Inv.{Cpus, set_cpu}
use Rattle.routes.specs.Invariant.Known.{Known, After, idle_cpus}

-- 1. All is known at the start, with nothing seen.
abbrev pub KnownStarts : Type 0
KnownStarts = (m : Mem) (own : ℕ → List ℕ) → AtStart m → ((q : ℕ) → q < m.cpus → length (own q) ≡ 4096) → Known m [] 0 (idle_cpus own)

-- 2. It stays known when a turn is given to somebody and stores arrive,
abbrev pub KnownStays : Type 0
KnownStays = (m n : Mem) (es : List Event) (t : ℕ) (c : Cpus) (p : ℕ) → Known m es t c → Arrives (allowed p m) n → Known n es t c

--    and when a lookup or an update begins.
abbrev pub KnownBegins : Type 0
KnownBegins =
    (m : Mem) (es : List Event) (t : ℕ) (c : Cpus) (p : ℕ) (k : Ask) (ps : List Piece) → Known m es t c → p < m.cpus → under p es ≡ false → length ps ≡ 8 → AskFits k ps →
    Known m (Asked p k (pieces_of k ps) ∷ es) t (set_cpu p (begin_work k) (begin_words k ps (c.own p)) c)

-- 3. It lets a turn be taken.
abbrev pub KnownAllows : Type 0
KnownAllows =
    (m : Mem) (es : List Event) (t : ℕ) (c : Cpus) (p : ℕ) → Known m es t c → p < m.cpus → 0 < m.left → p ≡ m.who → suc t < 2 ^ 64 →
    Ready m p (record { work = c.work p }) (c.own p)

-- 4. After the turn, whatever was the reply, that it was taken is explained; and with what was told in it, all is known again, with one turn more.
abbrev pub KnownSteps : Type 0
KnownSteps =
    (m n : Mem) (es : List Event) (t : ℕ) (c : Cpus) (p x : ℕ) → Known m es t c → under p es ≡ true → WorkOk (c.work p) (c.own p) → Did p (act p (c.work p) (c.own p)) m x n →
    After n es (suc t) (set_cpu p (work_after m.cpus (c.work p) (c.own p) x) (words_after (c.work p) (c.own p) x) c) p (told_after m.cpus (c.work p) (c.own p) x)
