-- What an update in hand rests on among the own words, and that other own words do not matter.
use Rattle.std.proofs.Common.{◌≡◌, ℕ, ◌+◌, ◌<◌, ◌≤◌, ◌⊎◌, List, sym, ◌∙◌, inl, inr, arith}
use Rattle.own.specs.Layout.{words_of, piece_at, fresh_at, retired_at}
use Rattle.own.specs.Pieces.{piece_of}
use Rattle.routes.specs.declared.Piece.{Piece}
use Rattle.routes.specs.declared.update.job.Job.{Job}
use Rattle.routes.specs.Routes.{Route, Now}
use Rattle.routes.specs.Build.Writes.{fresh_blocks}
use Rattle.routes.specs.Repr.Images.{Own}
use Rattle.routes.specs.Invariant.Building.{Equipped}
use Rattle.routes.specs.Invariant.Ghosts.{Ghost, Row}
use Rattle.routes.specs.Invariant.Readers.{Pending}
use Rattle.routes.proofs.Counts.Segments.{seg_same}
use Rattle.routes.proofs.Invariant.Needs.{need_few}

-- the pieces, the fresh blocks and so many replaced ones are the same
abbrev pub SameBut : Own → Own → ℕ → Type 0
SameBut own own' retired = (i : ℕ) → (i < 32) ⊎ ((fresh_at 0 ≤ i) × (i < retired_at retired)) → own' i ≡ own i

-- A piece stays.
pub piece-stays : (own own' : Own) (k : ℕ) → k < 8 → ((i : ℕ) → i < 32 → own' i ≡ own i) → piece_of own' k ≡ piece_of own k
piece-stays own own' k l s =
    let a = s (piece_at k 0) (omega arith) in let b = s (piece_at k 1) (omega arith) in
    let c = s (piece_at k 2) (omega arith) in let d = s (piece_at k 3) (omega arith) in
    rw (a, b, c, d)

-- All pieces do.
pub pending_stays : (o o' : List ℕ) (size : ℕ) (ps : List Piece) → ((i : ℕ) → i < 32 → words_of o' i ≡ words_of o i) → Pending o size ps → Pending o' size ps
pending_stays o o' size ps s p = record {
  length' = p.length';
  some = p.some;
  few = p.few;
  fits = p.fits;
  words = λ k l. piece-stays (words_of o) (words_of o') k (omega (arith, p.few)) s ∙ p.words k l;
}

-- An update stays equipped.
pub equipped_stays : (g : Ghost) (o o' : List ℕ) (rs : List Route) (n : Now) (j : Job) (row : Row) (ps : List Piece) (qs : List Route) (retired : ℕ) →
    SameBut (words_of o) (words_of o') retired → Equipped g o rs n j row ps qs → Equipped g o' rs n j row ps qs
equipped_stays g o o' rs n j row ps qs retired s e =
    let few = need_few e.sure in
    let same : fresh_blocks (words_of o') j.got ≡ fresh_blocks (words_of o) j.got = seg_same (words_of o') (words_of o) (fresh_at 0) (fresh_at 0) j.got (λ i l. s (fresh_at 0 + i) (inr (omega arith, omega (arith, e.all)))) in
    record {
      whole = e.whole;
      awaits = e.awaits;
      all = e.all;
      has = record { row = e.has.row; loose = e.has.loose; fresh = e.has.fresh ∙ sym same };
      sure = record { makes = e.sure.makes; need = e.sure.need; pending = pending_stays o o' j.size ps (λ i l. s i (inl l)) e.sure.pending };
    }
