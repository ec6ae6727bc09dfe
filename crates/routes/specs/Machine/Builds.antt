-- Build: a copy of the nodes on the way to each piece, in fresh blocks.
-- Assumes nothing.
use Rattle.std.specs.Prelude.{ℕ, ◌+◌, ◌/◌, ◌<◌, ◌≤◌, cond, ◌||◌, List, ◌==◌, nat_lt, slice_set}
use Rattle.words.specs.Address.{nib}
use Rattle.words.specs.Slots.{child_of}
use Rattle.own.specs.Layout.{words_of, image_at, retired_at}
use Rattle.own.specs.Images.{noted, image_word}
use Rattle.own.specs.Edits.{edited, levels_edited}
use Rattle.routes.specs.declared.act.Act.{Act}
use Rattle.routes.specs.declared.act.Act.TheVariants.{Load, Store, Pause}
use Rattle.routes.specs.declared.update.job.Job.{Job}
use Rattle.routes.specs.declared.update.build.Build.{Build}
use Rattle.routes.specs.declared.update.build.Build.TheVariants.{Root, Read, Edit, Write}
use Rattle.routes.specs.declared.update.publish.Publish.TheVariants.{FenceNodes}
use Rattle.routes.specs.declared.update.Phase.TheVariants.{Build as InBuild, Publish as InPublish}
use Rattle.routes.specs.Memory.{Mem}
use Rattle.routes.specs.Machine.Acts.{PhaseReady, MovedOwn}
use Rattle.routes.specs.Machine.Checks.{CleanIn, piece_in}
use Rattle.routes.specs.Machine.Jobs.{rooted, rebuilt}
use Rattle.routes.specs.Machine.Obtains.{fresh_in}
use Rattle.routes.specs.Machine.Nexts.{UpdateNext}
use Rattle.std.specs.declared.ops.ControlFlow.TheVariants.{Continue}

-- the level at which the route of piece k ends
abbrev pub deep_in : List ℕ → ℕ → ℕ
deep_in o k = (piece_in o k).len / 4

-- piece k is next
abbrev pub starting : Job → ℕ → UpdateNext
starting j k = cond (j.root == 0) (Continue (j, InBuild (Edit k 0))) (Continue (j, InBuild (Read k 0 0 j.root)))

-- after a word of a node: the next word, the next node on the way, or the edit
abbrev pub after_read : Job → ℕ → ℕ → ℕ → ℕ → ℕ → ℕ → UpdateNext
after_read j k d i b deep child =
    cond (nat_lt i 30) (Continue (j, InBuild (Read k d (i + 1) b)))
    (cond (d == deep || child == 0) (Continue (j, InBuild (Edit k (d + 1)))) (Continue (j, InBuild (Read k (d + 1) 0 child))))

-- the images are edited
abbrev pub after_edit : Job → ℕ → ℕ → ℕ → ℕ → UpdateNext
after_edit j k have levels root = Continue (rebuilt (j.used + levels) (j.retired + have) root j, InBuild (Write k j.used 0 0))

-- after a word of an image: the next word, the next level, the next piece, or all is built
abbrev pub after_write : Job → ℕ → ℕ → ℕ → ℕ → UpdateNext
after_write j k first d i =
    cond (nat_lt i 30) (Continue (j, InBuild (Write k first d (i + 1))))
    (cond (nat_lt (first + d + 1) j.used) (Continue (j, InBuild (Write k first (d + 1) 0)))
    (cond (nat_lt (k + 1) j.size) (starting j (k + 1)) (Continue (j, InPublish FenceNodes))))

-- a word of a node was loaded: it goes into the image, and the node's block behind the replaced ones
abbrev pub read_words : Job → ℕ → ℕ → ℕ → List ℕ → ℕ → List ℕ
read_words j d i b o x = slice_set (noted o d i x) (retired_at (j.retired + d)) b

-- piece k is in hand; the pieces are clean
abbrev pub Building : Job → ℕ → List ℕ → Type 0
Building j k o = (k < j.size) × (j.size ≤ 8) × CleanIn o k

abbrev pub BuildOk : Job → Build → List ℕ → Type 0
BuildOk j Root o = Unit {0}
BuildOk j (Read k d i b) o = Building j k o × (d ≤ deep_in o k) × (i < 31) × (j.retired ≤ 72)
BuildOk j (Edit k have) o = Building j k o × (have ≤ deep_in o k + 1) × (j.retired ≤ 72) × (j.used + deep_in o k < 72)
BuildOk j (Write k first d i) o = (k < j.size) × (j.size ≤ 8) × (d ≤ 8) × (first + d < 72) × (i < 31)

abbrev pub build_act : Build → List ℕ → Act
build_act Root o = Load 0 1
build_act (Read k d i b) o = Load b i
build_act (Edit k have) o = Pause
build_act (Write k first d i) o = Store (fresh_in o (first + d)) i (image_word (words_of o) d i)

abbrev pub child_in : List ℕ → ℕ → ℕ → ℕ
child_in o d n = child_of (words_of o (image_at d n))

abbrev pub build_after : Job → Build → List ℕ → ℕ → UpdateNext
build_after j Root o x = starting (rooted (child_of x) j) 0
build_after j (Read k d i b) o x = after_read j k d i b (deep_in o k) (child_in (read_words j d i b o x) d (nib d (piece_in o k).bits))
build_after j (Edit k have) o x = after_edit j k have (levels_edited o k have j.used) (fresh_in o j.used)
build_after j (Write k first d i) o x = after_write j k first d i

abbrev pub build_words : Job → Build → List ℕ → ℕ → List ℕ
build_words j Root o x = o
build_words j (Read k d i b) o x = read_words j d i b o x
build_words j (Edit k have) o x = edited o k have j.used
build_words j (Write k first d i) o x = o

abbrev pub BuildReady : Mem → ℕ → Job → Build → List ℕ → Type 0
BuildReady m p j s o = PhaseReady m p (build_act s o) (BuildOk j s o) o

abbrev pub BuildMoved : ℕ → Job → Build → Mem → List ℕ → UpdateNext → Mem → List ℕ → Type 0
BuildMoved p j s m o r n u = MovedOwn p (build_act s o) (build_after j s o) (build_words j s o) m r n u
