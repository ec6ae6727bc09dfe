-- Images of nodes among a processor's own words: 16 kids and 15 route words for each level.
-- Assumes nothing.
use Rattle.std.specs.Prelude.{◌≡◌, ℕ, suc, ◌+◌, ◌-◌, ◌^◌, ◌<◌, cond, List, [], ◌∷◌, nat_lt}
use Rattle.own.specs.Layout.{image_at}
use Rattle.own.specs.Images.{packed, bare}
use Rattle.routes.specs.Memory.{set_at}
use Rattle.routes.specs.Tree.Trees.{Tree, routes_of, kids_of, block_of}
use Rattle.routes.specs.Tree.Edits.{RouteEdit}

-- a processor's own words
abbrev pub Own : Type 0
Own = ℕ → ℕ

-- the image of a tree's first node; noughts if there is none
unfoldable pub image_of : Tree → ℕ → ℕ
image_of t i = cond (nat_lt i 16) (block_of (kids_of t i)) (routes_of t (i - 16))

-- the image of level d is that of a tree's first node
abbrev pub Image : Own → ℕ → Tree → Type 0
Image own d t = (i : ℕ) → i < 31 → own (image_at d i) ≡ image_of t i

-- the images from level d on are those of the nodes on a way
unfoldable pub Images : Own → ℕ → List ℕ → Tree → Type 0
Images own d [] t = Image own d t
Images own d (n ∷ ns) t = Image own d t × Images own (suc d) ns (kids_of t n)

-- an edit of images: the route word is set; then from the bottom up each level points at the new block of the next one, or at 0 if that holds nothing
unfoldable pub edit_images : RouteEdit → ℕ → List ℕ → Own → Own
edit_images c d [] own = set_at (image_at d (16 + c.place)) c.word own
edit_images c d (n ∷ ns) own =
    set_at (image_at d n) (cond (bare (edit_images c (suc d) ns own) (suc d)) 0 (c.fresh (suc d))) (edit_images c (suc d) ns own)

-- which level is behind the last one left
unfoldable pub levels_left : RouteEdit → ℕ → List ℕ → Own → ℕ
levels_left c d [] own = suc d
levels_left c d (n ∷ ns) own = cond (bare (edit_images c (suc d) ns own) (suc d)) (suc d) (levels_left c (suc d) ns own)

-- a block holds the node of which level d is the image
pub record Laid (val : ℕ → ℕ → ℕ) (own : Own) (d b : ℕ) : Type 0 where
  pub real : 0 < b
  pub small : b < 2 ^ 20
  pub words : (i : ℕ) → i < 31 → val b i ≡ packed (λ j. own (image_at d j)) i
