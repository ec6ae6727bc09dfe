-- One block more is there: on to the next, or to Build.
use Rattle.std.proofs.Common.{◌≡◌, ℕ, ◌+◌, ◌<◌, true, false, List, [], length, refl, inl, inr, arith}
use Rattle.std.proofs.lemmas.Bool.{cases_lt, lt-ltb, le-ltb}
use Rattle.routes.specs.declared.update.job.Job.{Job}
use Rattle.routes.specs.Memory.{Mem}
use Rattle.routes.specs.Routes.{Route, Now}
use Rattle.routes.specs.Machine.Cpus.{work_of_update}
use Rattle.routes.specs.Machine.Obtains.{gathering, undoing}
use Rattle.routes.specs.Invariant.Ghosts.{Ghost, heads}
use Rattle.routes.specs.Invariant.Holders.{Has, got_blocks}
use Rattle.routes.specs.Machine.Jobs.{having}
use Rattle.routes.proofs.Invariant.FreshBlocks.{more, pending_more}
use Rattle.routes.specs.Invariant.Memories.{Core}
use Rattle.routes.specs.Invariant.Gathering.{Gathered, Gathers, Undoes, ObtainFacts}
use Rattle.routes.specs.Invariant.Building.{BuildFacts}
use Rattle.routes.specs.Invariant.Registers.{holds, holds_in, passed, passed_in}
use Rattle.routes.specs.Invariant.Writers.{Writer, PhaseFacts}
use Rattle.routes.proofs.Invariant.Rely.{Leaves}
use Rattle.routes.proofs.Invariant.HeadCores.{calmed, core_calm}
use Rattle.routes.proofs.Invariant.HolderSteps.{HolderStep}

-- With one block more among the own words, one more is got.
pub gathered_more : {g g' : Ghost} {o : List ℕ} {rs : List Route} {n : Now} {j : Job} (room : length o ≡ 4096) (few : j.got < 72) → Gathers g o rs n j → (b : ℕ) → Has g' heads [] (got_blocks (more o j b room few) (having (j.got + 1) j)) →
    Gathered g' (more o j b room few) rs n (having (j.got + 1) j)
gathered_more {o = o} {j = j} room few f b h = record {
  has = h;
  ps = f.gathered.ps;
  qs = f.gathered.qs;
  awaits = f.gathered.awaits;
  sure = record { pending = pending_more o j b room few j.size f.gathered.ps f.gathered.sure.pending; makes = f.gathered.sure.makes; need = f.gathered.sure.need };
  enough = omega (arith, f.wants');
  used = f.gathered.used;
  retired = f.gathered.retired;
}

module _ {m : Mem} {p : ℕ} {g : Ghost} {trail : ℕ → List ℕ} {rs : List Route} {t : ℕ} {n : Now} {m' : Mem} {own : List ℕ} (g' : Ghost) (j : Job)
    (core : Core m' p true g' rs t) (leaves : (q : ℕ) → Leaves m g m' g' (trail q) q) where
  -- Where one more is wanted it goes on, else it builds, and any calm store may be late.
  pub gathers_on : Gathered g' own rs n j → g'.torn ≡ false → HolderStep m p g trail rs t n m' own (work_of_update (gathering j))
  unfolding Writer PhaseFacts ObtainFacts BuildFacts holds holds_in passed passed_in
  gathers_on f whole = elim (cases_lt j.got j.need) [
    | inl l ↦ rw (lt-ltb j.got j.need l) (record
        { ghost = g'; core = core; leaves = leaves; facts = record { gathered = f; whole = whole; wants' = l }; scanned = λ q b i. absurd (omega arith); holding = refl })
    | inr l ↦ rw (le-ltb j.got j.need l) (record {
      ghost = calmed g';
      core = core_calm core f.has.row;
      leaves = λ q. (let a = leaves q in record { epochs = a.epochs; active = a.active; words = a.words; safe = a.safe; clear = a.clear });
      facts = (f.ps, f.qs, record { has = record { row = refl; loose = f.has.loose; fresh = f.has.fresh }; whole = whole; awaits = f.awaits; sure = f.sure; all = omega (arith, f.enough) }, f.used, f.retired);
      scanned = λ q b i. absurd (omega arith);
      holding = refl;
    })
  ]

  -- What was got goes back, one by one.
  pub undoes_on : Undoes g' own n j → HolderStep m p g trail rs t n m' own (work_of_update (undoing j))
  unfolding Writer PhaseFacts ObtainFacts holds holds_in passed passed_in
  undoes_on f = elim (cases_lt 0 j.got) [
    | inl l ↦ rw (lt-ltb 0 j.got l) (record
        { ghost = g'; core = core; leaves = leaves; facts = (f, l); scanned = λ q b i. absurd (omega arith); holding = refl })
    | inr l ↦ rw (le-ltb 0 j.got l) (record
        { ghost = g'; core = core; leaves = leaves; facts = (f, omega arith); scanned = λ q b i. absurd (omega arith); holding = refl })
  ]
