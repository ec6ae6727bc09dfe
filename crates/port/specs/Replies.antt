-- A memory that is asked one thing and replies a given number.
-- Assumes nothing.
use Rattle.std.specs.Prelude.{ℕ, ◌<◌, ◌≤◌, Bool, true, false, cond, not, [], Some, None, Option, ◌==◌}
use Rattle.routes.specs.declared.act.Act.{Act}
use Rattle.routes.specs.declared.act.Act.TheVariants.{Load, Store, Fence, Swap, Obtain, Release, Pause}
use Rattle.routes.specs.Memory.{Mem, set_at, with', counted, stored, fenced, swapped, released}
use Rattle.routes.specs.Machine.Acts.{got_of}
use Rattle.port.specs.declared.reply.one.OneReply.{OneReply}

-- where nothing is handed back, the reply is 0
abbrev pub reply_to : Act → ℕ → ℕ
reply_to (Load b w) x = x
reply_to (Store b w y) x = 0
reply_to Fence x = 0
reply_to (Swap b w old new) x = x
reply_to Obtain x = x
reply_to (Release b) x = 0
reply_to Pause x = 0

-- what is asked is a word of a block, or a block but the header
abbrev pub InMemory : Act → Type 0
InMemory (Load b w) = (b < 1048576) × (w < 48)
InMemory (Store b w y) = (b < 1048576) × (w < 48)
InMemory Fence = Unit {0}
InMemory (Swap b w old new) = (b < 1048576) × (w < 48)
InMemory Obtain = Unit {0}
InMemory (Release b) = (0 < b) × (b < 1048576)
InMemory Pause = Unit {0}

-- of a block that was got its number and 1
abbrev pub ReplyFits : Act → ℕ → Type 0
ReplyFits (Load b w) x = Unit {0}
ReplyFits (Store b w y) x = Unit {0}
ReplyFits Fence x = Unit {0}
ReplyFits (Swap b w old new) x = Unit {0}
ReplyFits Obtain x = x ≤ 1048576
ReplyFits (Release b) x = Unit {0}
ReplyFits Pause x = Unit {0}

-- which block is free: that one which the reply hands out
abbrev pub free_for : Act → ℕ → Option ℕ
free_for (Load b w) x = None
free_for (Store b w y) x = None
free_for Fence x = None
free_for (Swap b w old new) x = None
free_for Obtain x = got_of x
free_for (Release b) x = None
free_for Pause x = None

abbrev pub is_free : Option ℕ → ℕ → Bool
is_free None b = false
is_free (Some free) b = b == free

-- before it is asked: each word holds the value, and each block is held but the free one
abbrev pub waiting : ℕ → ℕ → ℕ → Option ℕ → Mem
waiting cpus who value free = record { cpus = cpus; blocks = 1048576; val = λ b w. value; held = λ b. not (is_free free b); late = λ q. []; left = 1; who = who }

-- a block is got, if there is one, and it holds noughts
abbrev pub obtained : Option ℕ → Mem → Mem
obtained None m = m
obtained (Some b) m = with' (λ c w. cond (c == b) 0 (m.val c w)) (set_at b true m.held) m.late m

-- what processor p asked has been done
abbrev pub done : Act → ℕ → Option ℕ → Mem → Mem
done (Load b w) p free m = counted m
done (Store b w x) p free m = counted (stored p b w x m)
done Fence p free m = counted (fenced p m)
done (Swap b w old new) p free m = counted (swapped p b w old new m)
done Obtain p free m = counted (obtained free m)
done (Release b) p free m = counted (released b m)
done Pause p free m = m

abbrev pub after : Option Act → ℕ → Option ℕ → Mem → Mem
after None p free m = m
after (Some a) p free m = done a p free m

abbrev pub mem_of : OneReply → Mem
mem_of r = after r.asked r.who r.free (waiting r.cpus r.who r.value r.free)
