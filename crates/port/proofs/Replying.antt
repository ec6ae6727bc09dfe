-- A memory that replies one number: what it does when it is asked.
use Rattle.std.proofs.Common.{◌≡◌, ℕ, ◌<◌, Bool, true, false, cond, eqb, Some, None, Option, sym, refl, ap, ◌∙◌, subst, arith}
use Rattle.std.proofs.lemmas.Bool.Decides.{nat_tests}
use Rattle.std.specs.Option.{ForSome}
use Rattle.routes.specs.declared.act.Act.{Act}
use Rattle.routes.specs.declared.act.Act.TheVariants.{Load, Store, Fence, Swap, Obtain, Release, Pause}
use Rattle.routes.specs.Memory.{Mem, Arrives, rest, Obtains, got, out, counted, sees, fenced, swapped, last_late, arrived}
use Rattle.port.specs.declared.reply.one.OneReply.{OneReply}
use Rattle.port.specs.Replies.{waiting, done as done_to, obtained, after, mem_of}

-- as it was before it was asked
abbrev pub before : OneReply → Mem
before r = waiting r.cpus r.who r.value r.free

cond_left : (b : Bool) (m n : Mem) → m.left ≡ 1 → n.left ≡ 1 → (cond b m n).left ≡ 1
cond_left true m n p q = p
cond_left false m n p q = q

obtained_left : (free : Option ℕ) (m : Mem) → m.left ≡ 1 → (obtained free m).left ≡ 1
obtained_left None m p = p
obtained_left (Some b) m p = p

-- Once it was asked, it may not be asked again.
left_over : (a : Act) (p : ℕ) (free : Option ℕ) (m : Mem) → m.left ≡ 1 → 0 < (done_to a p free m).left → done_to a p free m ≡ m
left_over (Load b w) p free m one h = absurd (omega arith)
left_over (Store b w x) p free m one h = absurd (omega arith)
left_over Fence p free m one h = absurd (omega arith)
left_over (Swap b w old new) p free m one h =
    let same : (swapped p b w old new m).left ≡ 1 = cond_left (eqb ((fenced p m).val b w) old) _ _ one one in
    absurd (omega arith)
left_over Obtain p free m one h = let same : (obtained free m).left ≡ 1 = obtained_left free m one in absurd (omega arith)
left_over (Release b) p free m one h = absurd (omega arith)
left_over Pause p free m one h = refl

after_left : (asked : Option Act) (p : ℕ) (free : Option ℕ) (m : Mem) → m.left ≡ 1 → 0 < (after asked p free m).left → after asked p free m ≡ m
after_left None p free m one h = refl
after_left (Some a) p free m one h = left_over a p free m one h

-- While it may be asked, it is as it was.
pub unasked : (r : OneReply) → 0 < (mem_of r).left → mem_of r ≡ before r
unasked r h = after_left r.asked r.who r.free (before r) refl h

arrives_same : {m n : Mem} → m ≡ n → Arrives m n
arrives_same {m = m} e = subst (λ k. Arrives m k) e (rest m)

-- What is done to it is done to what it was, by the processor whose turn it is.
pub done : (r : OneReply) (p : ℕ) (does : ℕ → Mem → Mem) → 0 < (mem_of r).left → p ≡ (mem_of r).who → Arrives (does p (mem_of r)) (does r.who (before r))
done r p does h q =
    let e = unasked r h in
    let whose : p ≡ r.who = q ∙ ap (λ m. m.who) e in
    arrives_same (ap (λ z. does z (mem_of r)) whose ∙ ap (does r.who) e)

-- What it hands back is its value.
pub loads : (r : OneReply) (p b w : ℕ) → 0 < (mem_of r).left → r.value ≡ sees p b w (mem_of r)
unfolding last_late
loads r p b w h = ap (λ m. sees p b w m) (sym (unasked r h))

pub swaps : (r : OneReply) (p b w : ℕ) → 0 < (mem_of r).left → r.value ≡ (fenced p (mem_of r)).val b w
unfolding arrived
swaps r p b w h = ap (λ m. (fenced p m).val b w) (sym (unasked r h))

-- The free block is got, or none where none is.
obtains_free : (cpus who value : ℕ) (free : Option ℕ) → ForSome free (λ b. b < 1048576) →
    Obtains (waiting cpus who value free) free (counted (obtained free (waiting cpus who value free)))
obtains_free cpus who value None small = out _ (λ b lt. tt) (rest _)
obtains_free cpus who value (Some b) small =
    let m = waiting cpus who value (Some b) in
    got b (obtained (Some b) m).val (counted (obtained (Some b) m)) (small b refl) (grind (arith, nat_tests)) (λ c w ne. grind (arith, nat_tests)) (λ w. grind (arith, nat_tests)) (rest _)

pub obtains : (r : OneReply) → 0 < (mem_of r).left → Obtains (mem_of r) r.free (counted (obtained r.free (before r)))
obtains r h =
    subst (λ m. Obtains m r.free (counted (obtained r.free (before r)))) (sym (unasked r h)) (obtains_free r.cpus r.who r.value r.free r.in_memory)
