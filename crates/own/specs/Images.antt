-- Images of nodes among the own words.
-- Assumes nothing.
use Rattle.std.specs.Prelude.{ℕ, zero, suc, ◌+◌, Bool, true, cond, ◌&&◌, List, ◌==◌, nat_lt, slice_set}
use Rattle.words.specs.Slots.{best_fit, slot_word, child_of}
use Rattle.own.specs.Layout.{image_at}

-- what an image has of word i of a node: of a slot only the child
abbrev pub taken : ℕ → ℕ → ℕ
taken i x = cond (nat_lt i 16) (child_of x) x

-- word i of a node goes into the image of level d
abbrev pub noted : List ℕ → ℕ → ℕ → ℕ → List ℕ
noted o d i x = slice_set o (image_at d i) (taken i x)

-- the words of a node whose children and route words are those of an image
unfoldable pub packed : (ℕ → ℕ) → ℕ → ℕ
packed im i = cond (nat_lt i 16) (slot_word (child_of (im i)) (best_fit (λ x. im (16 + x)) i)) (im i)

-- word i of the node that the image of level d is to become
abbrev pub image_word : (ℕ → ℕ) → ℕ → ℕ → ℕ
image_word f d i = packed (λ j. f (image_at d j)) i

-- are the first n values 0
unfoldable pub noughts : ℕ → (ℕ → ℕ) → Bool
noughts zero f = true
noughts (suc n) f = noughts n f && f n == 0

-- does the image of level d hold no child and no route
abbrev pub bare : (ℕ → ℕ) → ℕ → Bool
bare f d = noughts 31 (λ i. f (image_at d i))
