-- The facts of Retire let its turns be taken.
use Rattle.std.proofs.Common.{◌≡◌, ℕ, suc, ◌^◌, ◌<◌, ◌≤◌, Bool, List, length, ap, ◌∙◌, arith}
use Rattle.words.proofs.Packing.{child_same}
use Rattle.own.specs.Layout.{words_of, retired_at}
use Rattle.routes.specs.declared.update.job.Job.{Job}
use Rattle.routes.specs.declared.update.retire.Retire.{Retire}
use Rattle.routes.specs.declared.update.retire.Retire.TheVariants.{Epoch, SetEpoch, SetAt, SetNext, Tail, SetHead, Link, SetTail, Fence}
use Rattle.routes.specs.Memory.{Mem}
use Rattle.routes.specs.Routes.{Route, Now}
use Rattle.routes.specs.Machine.Acts.{MayDo}
use Rattle.routes.specs.Machine.Retires.{RetireOk, RetireReady, retire_act, retired_in}
use Rattle.routes.specs.Counts.Counts.{cnt}
use Rattle.routes.specs.Late.View.{view}
use Rattle.routes.specs.Invariant.Ghosts.{Ghost}
use Rattle.routes.specs.Invariant.Holders.{replaced_blocks}
use Rattle.routes.specs.Invariant.Memories.{Core}
use Rattle.routes.specs.Invariant.Retiring.{RetireFacts, replaced_at}
use Rattle.routes.proofs.Counts.Segments.{seg_in}
use Rattle.routes.proofs.Invariant.Chains.{last_of}
use Rattle.routes.proofs.Invariant.Apart.{used_small}
use Rattle.routes.proofs.Invariant.Touching.{MayAsk, used_touch, header_touch}

-- A replaced block is loose.
pub replaced_loose : (g : Ghost) (o : List ℕ) (j : Job) (i : ℕ) → g.loose ≡ replaced_blocks o j → i < j.retired → 1 ≤ cnt (replaced_at o i) g.loose
replaced_loose g o j i e l = omega (arith, ap (cnt (replaced_at o i)) e, seg_in (words_of o) (retired_at 0) j.retired i l)

module _ (m : Mem) (h : ℕ) (locked : Bool) (g : Ghost) (rs : List Route) (t : ℕ) (c : Core m h locked g rs t) (o : List ℕ) (n : Now) (j : Job) where
  -- It is read as it stands.
  pub replaced_in : (i : ℕ) → g.loose ≡ replaced_blocks o j → i < j.retired → retired_in o i ≡ replaced_at o i
  replaced_in i e l = child_same (replaced_at o i) (used_small c (replaced_at o i) (omega (arith, replaced_loose g o j i e l)))

  -- Registers are in their ranges; the epoch too, as long as turns are.
  pub retire_ok : suc t < 2 ^ 64 → (s : Retire) → RetireFacts (view h m) g o n j s → RetireOk j s
  unfolding RetireFacts
  retire_ok few Epoch f = tt
  retire_ok few (SetEpoch e) f = omega (arith, f.3, c.sight.early)
  retire_ok few (SetAt i e) f = omega (arith, f.here, f.retires.short)
  retire_ok few (SetNext i e) f = omega (arith, f.0.here, f.0.retires.short)
  retire_ok few Tail f = tt
  retire_ok few SetHead f = tt
  retire_ok few (Link b) f = tt
  retire_ok few SetTail f = (omega (arith, f.1), f.0.short)
  retire_ok few Fence f = tt

  -- What it asks may be asked.
  retire_may : MayAsk m h → (s : Retire) → RetireFacts (view h m) g o n j s → MayDo m h (retire_act j s o)
  unfolding RetireFacts
  retire_may a Epoch f = header_touch c a 2 (omega arith)
  retire_may a (SetEpoch e) f = header_touch c a 2 (omega arith)
  retire_may a (SetAt i e) f =
      let l = f.retires.has.loose in
      rw (replaced_in i l f.here) (used_touch c a (replaced_at o i) 31 (omega (arith, replaced_loose g o j i l f.here)) (omega arith))
  retire_may a (SetNext i e) f =
      let l = f.0.retires.has.loose in
      rw (replaced_in i l f.0.here) (used_touch c a (replaced_at o i) 32 (omega (arith, replaced_loose g o j i l f.0.here)) (omega arith))
  retire_may a Tail f = header_touch c a 4 (omega arith)
  retire_may a SetHead f = header_touch c a 3 (omega arith)
  retire_may a (Link b) f =
      let u = last_of g.chain (λ z. f.2 (f.1 ∙ z)) in
      used_touch c a b 32 (omega (arith, ap (λ z. cnt z g.chain) f.1)) (omega arith)
  retire_may a SetTail f = header_touch c a 4 (omega arith)
  retire_may a Fence f = (a.once, a.turn, a.inside)

  -- So its turns may be taken.
  pub retire_ready : suc t < 2 ^ 64 → MayAsk m h → length o ≡ 4096 → (s : Retire) → RetireFacts (view h m) g o n j s → RetireReady m h j s o
  retire_ready few a r s f = record { ok = retire_ok few s f; room = r; may = retire_may a s f }
