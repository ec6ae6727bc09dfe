-- A turn on a memory that replies one number: it may be taken, and the reply is that number.
use Rattle.std.proofs.Common.{◌≡◌, ℕ, zero, suc, ◌<◌, ◌≤◌, List, Option, refl, ap, ◌∙◌, subst, arith}
use Rattle.std.proofs.lemmas.Bool.{eq-eqb}
use Rattle.std.proofs.lemmas.Bool.Decides.{nat_tests}
use Rattle.routes.specs.declared.Answer.{Answer}
use Rattle.routes.specs.declared.Cpu.{Cpu}
use Rattle.routes.specs.declared.act.Act.{Act}
use Rattle.routes.specs.declared.act.Act.TheVariants.{Load, Store, Fence, Swap, Obtain, Release, Pause}
use Rattle.routes.specs.Memory.{Mem, Obtains, got, out, last_late, arrived, none_to}
use Rattle.routes.specs.Machine.Acts.{MayDo, Did, got_of}
use Rattle.routes.specs.Machine.Cpus.{Ready, Stepped, act, work_after, words_after, told_after}
use Rattle.port.specs.declared.reply.one.OneReply.{OneReply}
use Rattle.port.specs.Replies.{InMemory, ReplyFits, free_for, reply_to, waiting, mem_of}
use Rattle.port.specs.Turns.{Asks, Replied}

-- What is in memory may be asked of it.
may_ask : (a : Act) (p cpus x : ℕ) → p < cpus → InMemory a → MayDo (waiting cpus p x (free_for a x)) p a
unfolding none_to
may_ask (Load b w) p cpus x h i = (omega arith, refl, h, i.0, grind (arith, nat_tests), i.1)
may_ask (Store b w y) p cpus x h i = (omega arith, refl, h, i.0, grind (arith, nat_tests), i.1)
may_ask Fence p cpus x h i = (omega arith, refl, h)
may_ask (Swap b w old new) p cpus x h i = (omega arith, refl, h, i.0, grind (arith, nat_tests), i.1)
may_ask Obtain p cpus x h i = (omega arith, refl, h)
may_ask (Release b) p cpus x h i = (omega arith, refl, h, i.0, i.1, grind (arith, nat_tests), λ q. tt)
may_ask Pause p cpus x h i = tt

-- The block that is handed out is the free one.
obtained : (p cpus x y : ℕ) (n : Mem) → x ≤ 1048576 → Obtains (waiting cpus p x (got_of x)) (got_of y) n → y ≡ x
obtained p cpus zero zero n fits o = refl
obtained p cpus zero (suc y) n fits (got _ v _ lt free _ _ _) = grind (arith, nat_tests)
obtained p cpus (suc x) zero n fits (out _ all _) = let same = eq-eqb x x refl in absurd (rw same at (all x (omega arith)))
obtained p cpus (suc x) (suc y) n fits (got _ v _ lt free _ _ _) = grind (arith, nat_tests)

-- The reply is the given one.
reply_is : (a : Act) (p cpus x y : ℕ) (n : Mem) → ReplyFits a x → Did p a (waiting cpus p x (free_for a x)) y n → y ≡ reply_to a x
unfolding last_late arrived
reply_is (Load b w) p cpus x y n fits d = d.0
reply_is (Store b w z) p cpus x y n fits d = d.0
reply_is Fence p cpus x y n fits d = d.0
reply_is (Swap b w old new) p cpus x y n fits d = d.0
reply_is Obtain p cpus x y n fits d = obtained p cpus x y n fits d
reply_is (Release b) p cpus x y n fits d = d.0
reply_is Pause p cpus x y n fits d = d.0

module _ {p cpus x : ℕ} {c : Cpu} {o : List ℕ} {a : Act} (w : OneReply) (asks : Asks p cpus c.work o a) (fits : ReplyFits a x) (is : mem_of w ≡ waiting cpus p x (free_for a x)) where
  -- The turn may be taken.
  pub ready : Ready (mem_of w) p c o
  ready = record { ok = asks.ok; room = asks.words; may = rw is (rw asks.asked (may_ask (act p c.work o) p cpus x asks.number.0 asks.memory)) }

  -- It was taken with the given reply.
  pub replied : {t : Option Answer} {n : Mem} {d : Cpu} {u : List ℕ} → Stepped p (mem_of w) c o t n d u → Replied p cpus c o x t d u
  replied {n = n} s =
      let k = c.work in
      let asked = asks.asked in
      let did : Did p (act p k o) (waiting cpus p x (free_for (act p k o) x)) s.reply n =
      subst (λ m. Did p (act p k o) m s.reply n) (is ∙ ap (λ z. waiting cpus p x (free_for z x)) asked) s.did in
      let e : s.reply ≡ reply_to (act p k o) x = reply_is (act p k o) p cpus x s.reply n (subst (λ z. ReplyFits z x) asked fits) did in
      let many : (mem_of w).cpus ≡ cpus = ap (λ m. m.cpus) is in
      record {
        work = s.work ∙ ap (λ z. work_after z k o s.reply) many ∙ ap (work_after cpus k o) e;
        words = s.words ∙ ap (words_after k o) e;
        told = s.told ∙ ap (λ z. told_after z k o s.reply) many ∙ ap (told_after cpus k o) e;
      }
