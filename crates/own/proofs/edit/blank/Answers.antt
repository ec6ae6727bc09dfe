use Rattle.std.proofs.Common.{arith, ◌≡◌, ℕ, zero, suc, ◌+◌, ◌-◌, ◌≤◌, List, [], length, set, add-one, ◌∙◌, sym, ap}
use Rattle.std.proofs.Math.ListN.{replicate}
use Rattle.std.proofs.Math.Seq.{paste}
use Rattle.std.proofs.lemmas.List.{length-replicate, length-take, length-drop}
use Rattle.std.proofs.lemmas.List.Edits.{fill_from_more, paste_none}
use Rattle.std.proofs.lemmas.Slice.{put_mid-paste}
use borrow.Rule.Slice.PartMut.{mid_of}
use Rattle.own.specs.Edits.{blank}
use Rattle.own.proofs.edit.blank.Goals as goal

-- Words that are blanked are a row of noughts in their place.
blank_is_noughts : (o : List ℕ) (start n : ℕ) → start + n ≤ length o → paste o start (replicate n 0) n ≡ blank o start n
unfolding blank
blank_is_noughts o start zero h = sym (paste_none o start [])
blank_is_noughts o start (suc n) h =
    let more : paste o start (replicate (n + 1) 0) (n + 1) ≡ set (blank o start n) (start + n) 0 = sym (fill_from_more o start n 0 (omega arith)) ∙ ap (λ z. set z (start + n) 0) (blank_is_noughts o start n (omega arith)) in
    rw add-one at more

pub returns : goal.returns
returns c =
    let filled = c.fill.ensures.after (λ y e. e) in
    let many : length (mid_of c.args.start (c.args.start + c.args.many - c.args.start) c.args.own.now) ≡ c.args.many = simp (length-take, length-drop) (omega arith) in
    put_mid-paste c.args.start _ c.args.own.now _ (replicate c.args.many 0) c.args.many (filled ∙ ap (λ n. replicate n 0) many) (omega arith) (sym (length-replicate c.args.many 0))
    ∙ blank_is_noughts c.args.own.now c.args.start c.args.many (omega arith)
