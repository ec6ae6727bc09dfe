-- A lookup or an update begins.
use Rattle.std.proofs.Common.{◌≡◌, ℕ, zero, suc, ◌+◌, ◌<◌, ◌≤◌, true, false, ◌||◌, eqb, ltb, leb, List, [], ◌∷◌, length, get_or, take, sym, refl, ap, ◌∙◌, subst, inl, inr, arith, length-append}
use Rattle.std.proofs.lemmas.Bool.Decides.{nat_tests as tests, eqb_tells, leb_tells}
use Rattle.std.proofs.lemmas.Bool.{cases_Bool, false≢true}
use Rattle.own.specs.Layout.{words_of}
use Rattle.own.specs.Pieces.{piece_of}
use Rattle.own.proofs.Written.{length_written, words_written, piece_hit, piece_miss}
use Rattle.routes.specs.declared.Ask.{Ask}
use Rattle.routes.specs.declared.Ask.TheVariants.{Find, Change}
use Rattle.routes.specs.declared.Piece.{Piece}
use Rattle.routes.specs.declared.lookup.Lookup.{Lookup}
use Rattle.routes.specs.declared.lookup.Lookup.TheVariants.{Epoch, Announce, Root, Node, Leave}
use Rattle.routes.specs.declared.update.job.Job.{Job}
use Rattle.routes.specs.declared.update.Phase.{Phase}
use Rattle.routes.specs.declared.update.Phase.TheVariants.{Refuse, Lock as AtLock, Check, Obtain, Recycle, Scan, Build, Publish, Retire, Reclaim, Finish}
use Rattle.routes.specs.declared.work.Work.{Work}
use Rattle.routes.specs.declared.work.Work.TheVariants.{Idle, Lookup as Looking, Update as Updating}
use Rattle.routes.specs.Asked.{pieces_of}
use Rattle.routes.specs.Memory.{Mem, set_at}
use Rattle.routes.specs.Routes.{Event, Asked, Now, Quiet, Under, Over, State, Run, asks, busy, under}
use Rattle.routes.specs.Counts.Counts.{cnt}
use Rattle.routes.specs.Machine.Begins.{blank, stored, noted, begin_update, begin_work, begin_words, PieceFits, PiecesFit, AskFits}
use Rattle.routes.specs.Machine.Checks.{piece_in}
use Rattle.routes.specs.Run.Nows.{is_change}
use Rattle.routes.specs.Run.Steps.{asked_at}
use Rattle.routes.specs.Invariant.Ghosts.{Ghost}
use Rattle.routes.specs.Invariant.Readers.{Pending, LooksUp, Updates, Does}
use Rattle.routes.specs.Invariant.Registers.{holds, holds_in, loaded, loaded_in, announced, announced_in}
use Rattle.routes.specs.Invariant.Inv.{Lock, Cpus, Inv, set_cpu}
use Rattle.routes.proofs.Run.Always.{under_is}
use Rattle.routes.proofs.Run.Nows.{quiet_is}
use Rattle.routes.proofs.Run.Steps.{now_own, now_other}
use Rattle.routes.proofs.Invariant.Local.{Touches, local_inv}

-- Of a list that is long enough so many are taken.
take-length : {A : Type 0} (n : ℕ) (xs : List A) → n ≤ length xs → length (take n xs) ≡ n
take-length zero xs l = refl
take-length (suc n) [] l = absurd (omega arith)
take-length (suc n) (x ∷ xs) l = ap suc (take-length n xs (omega arith))

-- They are the first ones.
take_get : {A : Type 0} (n k : ℕ) (xs : List A) (d : A) → k < n → get_or (take n xs) k d ≡ get_or xs k d
take_get zero k xs d l = absurd (omega arith)
take_get (suc n) k [] d l = refl
take_get (suc n) zero (x ∷ xs) d l = refl
take_get (suc n) (suc k) (x ∷ xs) d l = take_get n k xs d (omega arith)

-- To note pieces keeps the number of own words.
noted-length : (ps : List Piece) (o : List ℕ) (n : ℕ) → length (noted ps o n) ≡ length o
unfolding noted
noted-length ps o zero = refl
noted-length ps o (suc n) = length_written (noted ps o n) n (stored (get_or ps n blank)) ∙ noted-length ps o n

-- A piece that was noted stands among them.
noted_in : (ps : List Piece) (o : List ℕ) (n k : ℕ) → length o ≡ 4096 → n ≤ 8 → k < n → piece_in (noted ps o n) k ≡ stored (get_or ps k blank)
unfolding noted
noted_in ps o zero k h few l = absurd (omega arith)
noted_in ps o (suc n) k h few l =
    let e = words_written (noted ps o n) n (stored (get_or ps n blank)) (noted-length ps o n ∙ h) (omega arith) in
    ap (λ f. piece_of f k) e ∙ elim (eqb_tells k n) [
      | inl z ↦ rw z.1 (piece_hit (words_of (noted ps o n)) n (stored (get_or ps n blank)))
      | inr z ↦ piece_miss (words_of (noted ps o n)) n k (stored (get_or ps n blank)) z.1 ∙ noted_in ps o n k h (omega arith) (omega (arith, z.1))
    ]

-- The pieces of an update are as many as it says.
pieces-taken : (n : ℕ) (ps : List Piece) → n ≤ 8 → pieces_of (Change n) ps ≡ take n ps
unfolding pieces_of
pieces-taken n ps l = let e : leb n 8 ≡ true = grind (arith, tests) in rw e refl

-- An update of none or of more than 8 has none or more than 8.
pieces_refused : (n : ℕ) (ps : List Piece) → length ps ≡ 8 → (eqb n 0 || ltb 8 n) ≡ true → (eqb (length (pieces_of (Change n) ps)) 0 || ltb 8 (length (pieces_of (Change n) ps))) ≡ true
unfolding pieces_of
pieces_refused n ps eight test = elim (leb_tells n 8) [
  | inl z ↦ rw z.0 (rw (take-length n ps (omega (arith, z.1, eight))) test)
  | inr z ↦ rw z.0 (rw (length-append ps ps, eight) refl)
]

-- What a lookup does is something under way.
lookup_busy : (v : ℕ → ℕ → ℕ) (l : Lookup) (trail : List ℕ) (n : Now) → LooksUp v l trail n → busy n ≡ true
unfolding LooksUp busy
lookup_busy v (Epoch a) trail n d = ap busy d.2.2
lookup_busy v (Announce a e) trail n d = ap busy d.2.2
lookup_busy v (Root a e) trail n d = ap busy d.2.2
lookup_busy v (Node a e l b best) trail n d = ap busy d.1.1
lookup_busy v (Leave e best) trail n d = ap busy d.1.1.1

-- So is a change.
change_busy : (n : Now) → is_change n ≡ true → busy n ≡ true
unfolding is_change busy
change_busy Quiet e = e
change_busy (Under k ps g) e = refl
change_busy (Over k a g) e = refl

-- So is what an update does.
update_busy : (o : List ℕ) (j : Job) (s : Phase) (n : Now) → Updates o j s n → busy n ≡ true
unfolding Updates busy
update_busy o j Refuse n d = ap busy d.1.2
update_busy o j AtLock n d = ap busy d.1.2
update_busy o j (Check s) n d = change_busy n d
update_busy o j (Obtain s) n d = change_busy n d
update_busy o j (Recycle s) n d = change_busy n d
update_busy o j (Scan s) n d = change_busy n d
update_busy o j (Build s) n d = change_busy n d
update_busy o j (Publish s) n d = change_busy n d
update_busy o j (Retire s) n d = change_busy n d
update_busy o j (Reclaim s) n d = change_busy n d
update_busy o j (Finish s) n d = change_busy n d

-- Where nothing is under way the registers are idle.
quiet_idle : (v : ℕ → ℕ → ℕ) (work : Work) (o trail : List ℕ) (n : Now) → busy n ≡ false → Does v work o trail n → work ≡ Idle
unfolding Does
quiet_idle v Idle o trail n q d = refl
quiet_idle v (Looking l) o trail n q d = absurd (false≢true (sym q ∙ lookup_busy v l trail n d))
quiet_idle v (Updating j s) o trail n q d = absurd (false≢true (sym q ∙ update_busy o j s n d.1))

-- What an update that begins has to do.
begin_update_lem : (n : ℕ) (ps : List Piece) (o : List ℕ) (now : Now) → length o ≡ 4096 → length ps ≡ 8 → PiecesFit ps 8 → now ≡ Under (Change n) (pieces_of (Change n) ps) 0 →
    (v : ℕ → ℕ → ℕ) → Does v (begin_update n) (noted ps o 8) [] now × (holds (begin_update n) ≡ false) × (announced (begin_update n) ≡ 0) × (loaded (begin_update n) ≡ 0)
unfolding Does Updates holds holds_in announced loaded
begin_update_lem n ps o now h eight fits e v = elim (cases_Bool (eqb n 0 || ltb 8 n)) [
  | inl z ↦ rw z ((refl, (pieces_of (Change n) ps, (n, 0, e), pieces_refused n ps eight z)), refl, refl, refl)
  | inr z ↦ (let low : 1 ≤ n = grind (arith, tests) in let few : n ≤ 8 = grind (arith, tests) in
      rw z ((refl, (pieces_of (Change n) ps, (n, 0, e), pending low few, refl)), refl, refl, refl))
]
  where
    pending : 1 ≤ n → n ≤ 8 → Pending (noted ps o 8) n (pieces_of (Change n) ps)
    pending low few = rw (pieces-taken n ps few) (record {
      length' = take-length n ps (omega (arith, eight));
      some = low;
      few = few;
      words = λ k l. noted_in ps o 8 k h (omega arith) (omega arith) ∙ ap stored (sym (take_get n k ps blank l));
      fits = λ k l. subst PieceFits (sym (take_get n k ps blank l)) (fits k (omega arith));
    })

module _ {m : Mem} {k : Lock} {g : Ghost} {trail : ℕ → List ℕ} {s : State} {t : ℕ} {c : Cpus} {cpus blocks : ℕ} {es : List Event} (p : ℕ) (i : Inv m k g trail s t c) (r : Run cpus blocks es s) where
  -- Who has nothing under way, by what was seen, is idle.
  pub unseen_idle : under p es ≡ false → c.work p ≡ Idle
  unseen_idle u = quiet_idle m.val (c.work p) (c.own p) (trail p) (s.now' p) (sym (under_is r p) ∙ u) (i.readers p).does

  -- Who has something under way is not.
  pub seen_busy : under p es ≡ true → c.work p ≡ Idle → ⊥
  unfolding Does busy
  seen_busy u e =
      let d : Does m.val Idle (c.own p) (trail p) (s.now' p) = subst (λ w. Does m.val w (c.own p) (trail p) (s.now' p)) e (i.readers p).does in
      false≢true (sym (ap busy d.1) ∙ (sym (under_is r p) ∙ u))

  -- Something begins: what was seen may be seen.
  pub begin_run : (ask : Ask) (ps : List Piece) → p < cpus → under p es ≡ false → Run cpus blocks (Asked p ask (pieces_of ask ps) ∷ es) (asked_at p ask (pieces_of ask ps) s)
  begin_run ask ps l u = asks p ask (pieces_of ask ps) r l (quiet_is (s.now' p) (sym (under_is r p) ∙ u))

  -- The invariant holds then.
  pub begin_inv : (ask : Ask) (ps : List Piece) → p < m.cpus → under p es ≡ false → length ps ≡ 8 → AskFits ask ps →
      Inv m k g (set_at p [] trail) (asked_at p ask (pieces_of ask ps) s) t (set_cpu p (begin_work ask) (begin_words ask ps (c.own p)) c)
  unfolding holds announced announced_in loaded loaded_in cnt Does LooksUp
  begin_inv ask ps small u eight fits = go ask fits
    where
      room : length (c.own p) ≡ 4096
      room = i.room p small

      idle : c.work p ≡ Idle
      idle = unseen_idle u

      silent : m.val 0 (16 + p) ≡ 0
      silent = (i.readers p).active ∙ ap announced idle

      now : (a : Ask) → (asked_at p a (pieces_of a ps) s).now' p ≡ Under a (pieces_of a ps) 0
      now a = now_own p (Under a (pieces_of a ps) 0) s.table s

      same : Touches m m p
      same = record { vals = λ b w ne. refl; held = refl; late = refl; cpus = refl; blocks = refl }

      go : (a : Ask) → AskFits a ps → Inv m k g (set_at p [] trail) (asked_at p a (pieces_of a ps) s) t (set_cpu p (begin_work a) (begin_words a ps (c.own p)) c)
      go (Find a) f = local_inv i (record {
        touches = same;
        table = refl;
        lead = refl;
        nows = λ q ne. now_other p q _ s.table s ne;
        free = ap holds idle;
        free' = refl;
        small = small;
        room = room;
        reader = record { active = silent; old = omega arith; does = (refl, f, (pieces_of (Find a) ps, 0, now (Find a))); safe = λ b v. absurd (omega arith); clear = λ b v. absurd (omega arith) };
        near = λ b v. absurd (omega arith);
      })
      go (Change n) f =
          let b = begin_update_lem n ps (c.own p) ((asked_at p (Change n) (pieces_of (Change n) ps) s).now' p) room eight f (now (Change n)) m.val in
          local_inv i (record {
            touches = same;
            table = refl;
            lead = refl;
            nows = λ q ne. now_other p q _ s.table s ne;
            free = ap holds idle;
            free' = b.1;
            small = small;
            room = noted-length ps (c.own p) 8 ∙ room;
            reader = record { active = silent ∙ sym b.2; old = omega (arith, b.3); does = b.0; safe = λ b v. absurd (omega arith); clear = λ b v. absurd (omega arith) };
            near = λ b v. absurd (omega arith);
          })
