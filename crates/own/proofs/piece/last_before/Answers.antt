use Rattle.std.proofs.Common.{◌≡◌, ℕ, ◌+◌, refl, ap, ◌∙◌, add-one, rules}
use Rattle.own.specs.declared.piece.Earlier.{Earlier}
use Rattle.own.specs.declared.piece.PieceWords.{PieceWords}
use Rattle.own.specs.Layout.{words_of}
use Rattle.own.specs.Pieces.{piece_of, later_of, earlier_of}
use Rattle.own.proofs.piece.last_before.Goals as goal

-- One more piece was looked at.
more : (f : ℕ → ℕ) (p q : PieceWords) (j : ℕ) (seen r : Earlier) → seen ≡ earlier_of f p j → q ≡ piece_of f j → r ≡ later_of seen p q → r ≡ earlier_of f p (j + 1)
unfolding earlier_of
more f p q j seen r before here e = rw add-one (e ∙ ap (λ z. later_of z p q) before ∙ ap (λ z. later_of (earlier_of f p j) p z) here)

pub loop-j-init : goal.loop-j-init
unfolding earlier_of
loop-j-init c = refl

pub loop-j-preserved : goal.loop-j-preserved
loop-j-preserved c = more (words_of c.args.own.now) c.piece_at-piece.result c.piece_at.result c.loop-j.j _ _ c.loop-j.invariant (search rules) (search rules)
