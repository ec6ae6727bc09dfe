-- What `turns` needs of the invariant: it starts, it stays when stores arrive and when something begins, it lets a turn be taken, and it holds again after the turn, with what was seen explained.
use Rattle.std.proofs.Common.{◌≡◌, ℕ, suc, true, T, List, ◌∷◌, Some, None, Option, sym, refl, ◌∙◌, subst, arith}
use Rattle.routes.specs.declared.Answer.{Answer}
use Rattle.routes.specs.declared.work.Work.{Work}
use Rattle.routes.specs.Memory.{Mem, allowed}
use Rattle.routes.specs.Routes.{Event, Turned, Explained, State, Run, begin, busy, young}
use Rattle.routes.specs.Asked.{pieces_of}
use Rattle.routes.specs.Machine.Cpus.{act, work_after, words_after, told_after}
use Rattle.routes.specs.Invariant.Ages.{Aged}
use Rattle.routes.specs.Invariant.Inv.{Cpus, set_cpu}
use Rattle.routes.specs.Invariant.Known.{Known, seen_of}
use Rattle.routes.specs.Invariant.Laws.{KnownStarts, KnownStays, KnownBegins, KnownAllows, KnownSteps}
use Rattle.routes.proofs.Invariant.Arriving.{Still, arrives_inv}
use Rattle.routes.proofs.Invariant.Begins.{begin_run, begin_inv, seen_busy}
use Rattle.routes.proofs.Invariant.CpuReady.{cpu_ready}
use Rattle.routes.proofs.Invariant.CpuTurns.{cpu_turn}
use Rattle.routes.proofs.Invariant.Explains.{turn_explained, told_explained}
use Rattle.routes.proofs.Invariant.InTime.{aged_start, aged_asked}
use Rattle.routes.proofs.Invariant.Sizes.{did_sizes}
use Rattle.routes.proofs.Invariant.Starts.{start_inv, allowed_inv}
use Rattle.routes.proofs.Invariant.Steps.{Turn, inv_later}
use Rattle.routes.proofs.Invariant.TurnsInTime.{still_aged, young_turn, turn_aged}
use Rattle.routes.proofs.Late.Arriving.{Later, arrives_later}
use Rattle.routes.proofs.Run.Always.{under_is}

-- A run of as many processors and blocks.
run_sizes : {c c' b b' : ℕ} {es : List Event} {s : State} → c' ≡ c → b' ≡ b → Run c b es s → Run c' b' es s
run_sizes {c' = c'} {b = b} {es = es} {s = s} e f r = subst (λ z. Run c' z es s) (sym f) (subst (λ z. Run z b es s) (sym e) r)

-- Ages of as many processors.
aged_sizes : {c c' : ℕ} (s : State) (work : ℕ → Work) → c' ≡ c → Aged c s work → Aged c' s work
aged_sizes s work e a = subst (λ z. Aged z s work) (sym e) a

-- 1. It holds at the start.
pub known_start : KnownStarts
known_start m own a room = record { lock = _; ghosts = _; trail = _; state = _; run = begin; inv = start_inv m a own room; aged = aged_start m.cpus }

-- 2. It stays when a turn is given to somebody and stores arrive,
pub known_next : KnownStays
known_next m n es t c p k a = record {
  lock = k.lock;
  ghosts = s.ghost;
  trail = k.trail;
  state = s.state;
  run = run_sizes l.cpus l.blocks s.run;
  inv = s.inv;
  aged = aged_sizes s.state c.work l.cpus (still_aged s k.aged);
}
  where
    s : Still (allowed p m) k.lock k.ghosts k.trail k.state t c m.cpus m.blocks es n
    s = arrives_inv a (allowed_inv p k.inv) k.run

    l : Later (allowed p m) n
    l = arrives_later a

--    and when something begins.
pub known_begin : KnownBegins
known_begin m es t c p ask ps k small u eight fits = record {
  lock = k.lock;
  ghosts = k.ghosts;
  trail = _;
  state = _;
  run = begin_run p k.inv k.run ask ps small u;
  inv = begin_inv p k.inv k.run ask ps small u eight fits;
  aged = aged_asked m.cpus p k.state c.work ask (pieces_of ask ps) k.inv.core.sizes.cpus k.aged;
}

-- 3. It lets a turn be taken.
pub known_ready : KnownAllows
known_ready m es t c p k small left mine soon = cpu_ready k.inv left mine small soon

-- 4. It holds again after the turn.
pub known_step : KnownSteps
known_step m n es t c p x k u ok d = record {
  known = record {
    lock = turn.lock;
    ghosts = turn.ghost;
    trail = turn.trail;
    state = turn.state;
    run = run_sizes size.0 size.1 turn.run;
    inv = turn.inv;
    aged = aged_sizes turn.state c'.work size.0 (turn_aged k.inv k.aged p ok x n d turn refl);
  };
  turned = let b = before (told_after m.cpus (c.work p) (c.own p) x) turn in (b.0, run_sizes size.0 size.1 b.1);
}
  where
    size : (n.cpus ≡ m.cpus) × (n.blocks ≡ m.blocks)
    size = did_sizes p (act p (c.work p) (c.own p)) m x n d

    busy' : busy (k.state.now' p) ≡ true
    busy' = sym (under_is k.run p) ∙ u

    soon : T (young (k.state.now' p))
    soon = rw (young_turn k.inv k.aged p ok busy') tt

    c' : Cpus
    c' = set_cpu p (work_after m.cpus (c.work p) (c.own p) x) (words_after (c.work p) (c.own p) x) c

    turn : Turn n (suc t) c' m.cpus m.blocks (seen_of p (told_after m.cpus (c.work p) (c.own p) x) es) p k.state
    turn = cpu_turn p k.inv k.run soon x n (seen_busy p k.inv k.run u) d

    before : (a : Option Answer) → Turn n (suc t) c' m.cpus m.blocks (seen_of p a es) p k.state → Explained m.cpus m.blocks (Turned p ∷ es)
    before None w = turn_explained w
    before (Some a) w = told_explained w

-- It may be said for a later turn.
pub known_later : {m : Mem} {es : List Event} {t : ℕ} {c : Cpus} → Known m es t c → Known m es (suc t) c
known_later k = record { lock = k.lock; ghosts = k.ghosts; trail = k.trail; state = k.state; run = k.run; inv = inv_later (omega arith) k.inv; aged = k.aged }
