use Rattle.std.proofs.Common.{◌≡◌, ℕ, ◌+◌, ◌<◌, List, get_or, Option, ap, ◌∙◌, arith, rules}
use Rattle.std.specs.List.{between}
use Rattle.std.proofs.lemmas.List.Edits.{get_or-between}
use Rattle.std.proofs.lemmas.Bool.{lt-ltb}
use Rattle.words.specs.declared.slot.Fit.{Fit}
use Rattle.words.specs.Slots.{best_fit, slot_word, child_of}
use Rattle.words.proofs.Packing.{best_same}
use Rattle.own.specs.Layout.{image_at, words_of}
use Rattle.own.specs.Images.{packed, image_word}
use Rattle.own.proofs.image.slot_word.Goals as goal

-- The longest fit of the part that is the image's route words is that of the image.
fits : (o : List ℕ) (d n i j : ℕ) → n < 16 → i ≡ image_at d 16 → j ≡ image_at d 31 → best_fit (λ x. get_or (between i j o) x 0) n ≡ best_fit (λ x. words_of o (image_at d (16 + x))) n
fits o d n i j h p q = best_same _ _ n h (λ x k. let e : i + x ≡ image_at d (16 + x) = omega arith in get_or-between o i j x 0 (omega arith) ∙ ap (words_of o) e)

-- A slot that is packed of that fit and of the image's child is the image's.
packs : (o : List ℕ) (d n i j l child r : ℕ) (fit : Option Fit) → n < 16 → i ≡ image_at d 16 → j ≡ image_at d 31 → l ≡ image_at d n →
    fit ≡ best_fit (λ x. get_or (between i j o) x 0) n → child ≡ child_of (words_of o l) → r ≡ slot_word child fit → r ≡ image_word (words_of o) d n
unfolding packed
packs o d n i j l child r fit h p q s f k e = rw (lt-ltb n 16 h) (let g = fits o d n i j h p q in cc)

pub returns : goal.returns
returns c = packs c.args.own.now c.args.d c.args.n c.image_at.result c.image_at-2.result c.image_at-3.result c.block_of.result c.pack.result c.best_fit-fit.result
    (search rules) (search rules) (search rules) (search rules) c.best_fit-fit.ensures.value (search rules) (search rules)
