-- As it starts: no tree, nothing retired, all idle. And what a new turn may ask changes nothing.
use Rattle.std.proofs.Common.{◌≡◌, ℕ, ◌+◌, ◌<◌, false, List, [], length, sym, refl, ◌∙◌, inl, inr, arith}
use Rattle.std.proofs.lemmas.Bool.Decides.{eqb_tells}
use Rattle.std.proofs.lemmas.Bool.{true≢false}
use Rattle.routes.specs.Memory.{Mem, AtStart, allowed}
use Rattle.routes.specs.Routes.{State, fresh}
use Rattle.routes.specs.Counts.Counts.{cnt}
use Rattle.routes.specs.Late.View.{masked, view}
use Rattle.routes.specs.Repr.Repr.{Repr}
use Rattle.routes.specs.Tree.Trees.{none, block_of, count}
use Rattle.routes.specs.Invariant.Ghosts.{Ghost, still}
use Rattle.routes.specs.Invariant.Memories.{Chain, last_from, RowOk, Core}
use Rattle.routes.specs.Invariant.Readers.{Does}
use Rattle.routes.specs.Invariant.Registers.{holds, loaded, announced, passed}
use Rattle.routes.specs.Invariant.Writers.{Writer}
use Rattle.routes.specs.Invariant.Inv.{Lock, Cpus, Inv}
use Rattle.routes.specs.Invariant.Known.{idle_cpus}
use Rattle.routes.proofs.Basics.Tests.{T_true}
use Rattle.routes.proofs.Late.View.{view_none, view-allowed}
use Rattle.routes.proofs.Tree.Good.{good_none}
use Rattle.routes.proofs.Invariant.Local.{Touches, touch_core}
use Rattle.routes.proofs.Invariant.Rely.{leaves_same, reader_stays}
use Rattle.routes.proofs.Invariant.Steps.{lock_of}

-- nothing is published or retired
abbrev pub empty_ghost : Ghost
empty_ghost = record { tree = none; chain = []; loose = []; fresh = []; stamps = λ b. 0; torn = false; row = still }

module _ (m : Mem) (a : AtStart m) where
  -- The header is noughts.
  start_view : (w : ℕ) → masked 0 w ≡ false → view 0 m 0 w ≡ 0
  start_view w e = view_none 0 m 0 w (a.7 0) e ∙ a.4 w

  -- Only the header is held.
  start_held : (b : ℕ) → (b ≡ 0 → ⊥) → m.held b ≡ false
  start_held b ne = a.6 b (omega arith)

  -- What holds of the memory.
  start_core : Core m 0 false empty_ghost [] 0
  unfolding RowOk Repr block_of count cnt Chain last_from
  start_core = record {
    sizes = record { someone = a.0; cpus = a.1; blocks = a.3 };
    others = λ q ne. a.7 q;
    row = a.7 0;
    writer = a.4 0;
    root = a.4 1;
    repr = tt;
    good = good_none;
    blocks = λ b. elim (eqb_tells b 0) [
      | inl e ↦ rw (e.1, T_true (m.held 0) a.5) refl
      | inr e ↦ rw (e.0, start_held b e.1) refl
    ];
    inside = λ b h. elim (eqb_tells b 0) [
      | inl e ↦ omega (arith, e.1, a.2)
      | inr e ↦ absurd (true≢false (sym h ∙ start_held b e.1))
    ];
    sight = record {
      ahead = rw (a.4 2) (omega arith);
      early = rw (start_view 2 refl) (omega arith);
      linked = start_view 3 refl;
      ending = λ w. start_view 4 refl;
      stamped = λ b u. absurd (omega arith);
      newest = λ b u. absurd (omega arith);
    };
  }

  -- The invariant as it starts.
  pub start_inv : (own : ℕ → List ℕ) → ((q : ℕ) → q < m.cpus → length (own q) ≡ 4096) → Inv m (lock_of 0 false) empty_ghost (λ q. []) fresh 0 (idle_cpus own)
  unfolding Does announced loaded holds Writer passed cnt
  start_inv own room = record {
    core = start_core;
    readers = λ q. record { active = a.4 (16 + q); old = omega arith; does = (refl, refl); safe = λ b u. absurd (omega arith); clear = λ b u. absurd (omega arith) };
    leads = λ q. refl;
    holding = λ q. refl;
    outside = λ q l. refl;
    room = room;
    writer = record { has = record { row = refl; loose = refl; fresh = refl }; whole = refl };
    scanned = λ q b l. absurd (omega arith);
  }

-- A new turn of anybody, before it asks.
pub allowed_inv : {m : Mem} {k : Lock} {g : Ghost} {trail : ℕ → List ℕ} {s : State} {t : ℕ} {c : Cpus} (p : ℕ) → Inv m k g trail s t c → Inv (allowed p m) k g trail s t c
allowed_inv {m} {k} {g} {trail} {s} {t} {c} p i = record {
  core = touch_core same i.core;
  readers = λ q. reader_stays (leaves_same g (trail q) q refl) (i.readers q);
  leads = i.leads;
  holding = i.holding;
  outside = i.outside;
  room = i.room;
  writer = rw (view-allowed k.who p m) i.writer;
  scanned = i.scanned;
}
  where
    same : Touches m (allowed p m) p
    same = record { vals = λ b w ne. refl; held = refl; late = refl; cpus = refl; blocks = refl }
