use Rattle.std.proofs.Common.{◌≡◌, ℕ, List, ap, subst, ◌∙◌}
use Rattle.routes.specs.declared.Ask.TheVariants.{Change}
use Rattle.routes.specs.declared.Piece.{Piece}
use Rattle.routes.specs.declared.work.Work.{Work}
use Rattle.routes.specs.Machine.Begins.{noted, begin_update, PiecesFit}
use Rattle.routes.specs.Machine.Cpus.{Begun}
use Rattle.routes.proofs.Cpu.begin.Goals as goal

-- An update has begun when its pieces are noted among the same own words.
changes : {n : ℕ} {ps qs : List Piece} {o v u : List ℕ} {w : Work} → qs ≡ ps → v ≡ o → w ≡ begin_update n → u ≡ noted qs v 8 → PiecesFit qs 8 → Begun (Change n) ps o (record { work = w }) u
changes {ps = ps} {v = v} e f w u p = record { work = w; words = u ∙ ap (λ z. noted z v 8) e ∙ ap (λ z. noted ps z 8) f; fits = subst (λ z. PiecesFit z 8) e p }

pub returns-in-Some-as_array : goal.returns-in-Some-as_array
returns-in-Some-as_array c =
    rw c.in-Change.is (record { begun = changes c.in-Some-as_array.ensures.cases.same c.in-Some.ensures.cases.same c.begin_update-self.ensures c.note_pieces.ensures.words c.note_pieces.ensures.fits })
