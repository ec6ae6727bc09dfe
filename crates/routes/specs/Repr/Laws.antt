-- What is proved of trees in memory.
-- Assumes nothing.
use Rattle.std.specs.Prelude.{◌≡◌, ℕ, ◌+◌, ◌<◌, ◌≤◌, List, length, ◌≢◌}
use Rattle.own.specs.Images.{taken}
use Rattle.routes.specs.declared.Answer.TheVariants.{Nothing}
use Rattle.routes.specs.Counts.Counts.{cnt}
use Rattle.routes.specs.Keys.Keys.{Nibbles}
use Rattle.routes.specs.Tree.Trees.{Tree, block_of, count, depth, Deep}
use Rattle.routes.specs.Tree.Edits.{RouteEdit, edit}
use Rattle.routes.specs.Tree.Walks.{walk}
use Rattle.routes.specs.Repr.Repr.{Repr, Follow}
use Rattle.routes.specs.Repr.Images.{Own, image_of, Images, edit_images, Laid}

-- A tree stands as long as words 0 to 30 of its blocks do.
abbrev pub ReprStays : Type 0
ReprStays = (u v : ℕ → ℕ → ℕ) (t : Tree) → ((b i : ℕ) → 1 ≤ count b t → i < 31 → v b i ≡ u b i) → Repr u t → Repr v t

-- In memory a walk touches blocks of the tree only, and tells what it tells of the tree.
abbrev pub WalksFollow : Type 0
WalksFollow =
    (val : ℕ → ℕ → ℕ) (a : ℕ) (t : Tree) → Deep 9 t → Repr val t →
    (trail : List ℕ) × Follow val a 0 (block_of t) Nothing trail (walk 9 0 a t Nothing) × ((b : ℕ) → 1 ≤ cnt b trail → 1 ≤ count b t)

-- A node that is read whole gives its image.
abbrev pub NodesRead : Type 0
NodesRead = (val : ℕ → ℕ → ℕ) (t : Tree) (i : ℕ) → i < 31 → Repr val t → (block_of t ≢ 0) → taken i (val (block_of t) i) ≡ image_of t i

-- Images on a way, edited, are the images of the edited tree.
abbrev pub ImagesEdited : Type 0
ImagesEdited =
    (c : RouteEdit) (d : ℕ) (ns : List ℕ) (own : Own) (t : Tree) → c.place < 15 → Nibbles ns → ((e : ℕ) → d ≤ e → e ≤ d + length ns → c.fresh e ≢ 0) → count 0 t ≡ 0 →
    Images own d ns t → Images (edit_images c d ns own) d ns (edit c d ns t)

-- Once these images are laid in the new blocks, the edited tree stands.
abbrev pub NodesWritten : Type 0
NodesWritten =
    (val : ℕ → ℕ → ℕ) (own : Own) (c : RouteEdit) (d : ℕ) (ns : List ℕ) (t : Tree) → Nibbles ns → Repr val t → Images own d ns (edit c d ns t) →
    ((e : ℕ) → d ≤ e → e < d + depth ns (edit c d ns t) → Laid val own e (c.fresh e)) → Repr val (edit c d ns t)
