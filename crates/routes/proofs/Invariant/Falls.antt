-- The potential falls with each turn that goes on, whatever the memory replies.
use Rattle.std.proofs.Common.{◌≡◌, ℕ, zero, suc, ◌+◌, ◌-◌, ◌*◌, ◌/◌, ◌<◌, ◌≤◌, Bool, true, false, cond, ◌||◌, eqb, ltb, List, Ok, refl, ap, ◌∙◌, inl, inr, mul-le-mul_right, arith}
use Rattle.std.proofs.lemmas.Bool.{cases_Bool, ltb-true, ltb-false}
use Rattle.words.specs.Address.{nib}
use Rattle.words.specs.Slots.{child_of}
use Rattle.own.specs.declared.piece.Earlier.{Earlier}
use Rattle.own.specs.declared.piece.Earlier.TheVariants.{Never, Put, Taken}
use Rattle.routes.specs.declared.update.job.Job.{Job}
use Rattle.routes.specs.declared.update.check.Check.{Check as CheckState}
use Rattle.routes.specs.declared.update.check.Check.TheVariants.{Piece, Root as CheckRoot, Slot, Route, Reject}
use Rattle.routes.specs.declared.update.obtain.Obtain.{Obtain as ObtainState}
use Rattle.routes.specs.declared.update.obtain.Obtain.TheVariants.{Get, Undo, Full}
use Rattle.routes.specs.declared.update.recycle.Recycle.{Recycle as RecycleState}
use Rattle.routes.specs.declared.update.recycle.Recycle.TheVariants.{Head as RecycleHead, RetiredAt as RecycleAt, Next as RecycleNext, SetHead as RecycleSetHead, SetTail as RecycleSetTail}
use Rattle.routes.specs.declared.update.scan.Scan.{Scan as ScanState}
use Rattle.routes.specs.declared.update.scan.Scan.TheVariants.{ForNode, ForLimit}
use Rattle.routes.specs.declared.update.build.Build.{Build as BuildState}
use Rattle.routes.specs.declared.update.build.Build.TheVariants.{Root as BuildRoot, Read, Edit, Write}
use Rattle.routes.specs.declared.update.publish.Publish.{Publish as PublishState}
use Rattle.routes.specs.declared.update.publish.Publish.TheVariants.{FenceNodes, SetRoot, FenceRoot}
use Rattle.routes.specs.declared.update.retire.Retire.{Retire as RetireState}
use Rattle.routes.specs.declared.update.retire.Retire.TheVariants.{Epoch, SetEpoch, SetAt, SetNext, Tail, SetHead as ToHead, Link, SetTail as ToTail, Fence}
use Rattle.routes.specs.declared.update.reclaim.Reclaim.{Reclaim as ReclaimState}
use Rattle.routes.specs.declared.update.reclaim.Reclaim.TheVariants.{Head, RetiredAt, Next, SetHead, SetTail, Release}
use Rattle.routes.specs.declared.update.finish.Finish.{Finish as FinishState}
use Rattle.routes.specs.declared.update.finish.Finish.TheVariants.{Unused, Unlock}
use Rattle.routes.specs.declared.update.Phase.{Phase}
use Rattle.routes.specs.declared.update.Phase.TheVariants.{Refuse, Lock, Check, Obtain, Recycle, Scan, Build, Publish, Retire, Reclaim, Finish}
use Rattle.routes.specs.declared.work.Work.{Work}
use Rattle.routes.specs.declared.work.Work.TheVariants.{Idle, Lookup as Looking, Update as Updating}
use Rattle.routes.specs.Routes.{clean}
use Rattle.routes.specs.Machine.Laws.{turns_after}
use Rattle.routes.specs.Machine.Checks.{CheckOk, AtPiece, check_after, piece_in, earlier_in, passed, taking, decided, entered}
use Rattle.routes.specs.Machine.Obtains.{ObtainOk, obtain_after, after_get, gathering, undoing}
use Rattle.routes.specs.Machine.Recycles.{recycle_after}
use Rattle.routes.specs.Machine.Scans.{scan_after}
use Rattle.routes.specs.Machine.Builds.{BuildOk, build_after, starting, deep_in, child_in, read_words}
use Rattle.routes.specs.Machine.Publishes.{publish_after}
use Rattle.routes.specs.Machine.Retires.{RetireOk, retire_after}
use Rattle.routes.specs.Machine.Reclaims.{reclaim_after}
use Rattle.routes.specs.Machine.Finishes.{FinishOk, finish_after, finishing}
use Rattle.routes.specs.Machine.Jobs.{having, rooted}
use Rattle.routes.specs.Machine.Lookups.{lookup_after}
use Rattle.routes.specs.Machine.Updates.{UpdateOk, update_after}
use Rattle.routes.specs.Machine.Cpus.{WorkOk, work_after, work_of_lookup, work_of_update}
use Rattle.routes.specs.Invariant.Ages.{from_publish, from_build, from_get, pot_check, pot_obtain, pot_recycle, pot_scan, pot_build, pot_publish, pot_retire, pot_reclaim, pot_finish, pot_update, pot, stays_scan, stays_update, stays}
use Rattle.routes.proofs.Machine.Turns.{lookups_end_lem}
use Rattle.routes.proofs.Table.Sound.{clean-parts}
use Rattle.routes.specs.Machine.Nexts.{LookupNext, UpdateNext}
use Rattle.std.specs.declared.ops.ControlFlow.TheVariants.{Continue, Break}

-- what is left when a turn of an update is over
unfoldable pub pot_next : ℕ → (ℕ → ℕ → Bool) → UpdateNext → ℕ
pot_next cpus unawaited (Continue n) = pot_update cpus unawaited n.0 n.1
pot_next cpus unawaited (Break a) = 0

-- A block more to get costs as many turns as a scan of all processors, and a few.
get_suc : (c n : ℕ) → from_get c (suc n) ≡ from_get c n + (2 * c + 6)
unfolding from_get
get_suc c n = omega arith

-- The last of 72.
get_top : (c : ℕ) → from_get c 72 ≡ from_get c 71 + (2 * c + 6)
unfolding from_get
get_top c = omega arith

-- Fewer blocks cost less.
get_le : (c n m : ℕ) → n ≤ m → from_get c n ≤ from_get c m
unfolding from_get
get_le c n m h = omega (arith, mul-le-mul_right (2 * c + 6) h)

-- When all are there it builds.
get_least : (c n : ℕ) → from_build c ≤ from_get c n
unfolding from_get
get_least c n = omega arith

-- One of those still to get.
get_next : (c need got : ℕ) → got < need → from_get c (need - got) ≡ from_get c (need - suc got) + (2 * c + 6)
get_next c need got l = ap (from_get c) (omega arith) ∙ get_suc c (need - suc got)

module _ (c : ℕ) (v : ℕ → ℕ → Bool) where
  -- When a piece has passed, the rest of the pieces is left.
  passed_left : (j : Job) (k len : ℕ) → AtPiece j k → len ≤ 32 → pot_next c v (passed j k len) ≤ from_get c 72 + 11 * (8 - suc k)
  unfolding pot_next pot_update pot_check pot_obtain
  passed_left j k len (here, few, need) short = elim (cases_Bool (ltb (k + 1) j.size)) [
    | inl e ↦ rw e (omega arith)
    | inr e ↦ rw e (omega (arith, get_top c, get_le c (j.need + len / 4 + 1 - suc j.got) 71 (omega arith)))
  ]

  -- So it is if an earlier piece decides; or the tree is asked.
  taking_left : (j : Job) (k len : ℕ) (e : Earlier) → AtPiece j k → len ≤ 32 → suc (pot_next c v (decided j (taking j k len e))) ≤ from_get c 72 + 11 * (8 - k)
  unfolding pot_next pot_update pot_check
  taking_left j k len Put at short = omega (arith, passed_left j k len at short, at.0, at.1)
  taking_left j k len Taken at short = omega (arith, get_least c 72)
  taking_left j k len Never at short = omega (arith, get_least c 72, at.0, at.1)

  -- A clean piece puts in or takes out.
  clean_left : (j : Job) (k len : ℕ) (puts : Bool) (e : Earlier) → AtPiece j k → len ≤ 32 → suc (pot_next c v (decided j (cond puts (Ok (passed j k len)) (taking j k len e)))) ≤ from_get c 72 + 11 * (8 - k)
  clean_left j k len true e at short = omega (arith, passed_left j k len at short, at.0, at.1)
  clean_left j k len false e at short = taking_left j k len e at short

  -- The way goes on by a level, or ends.
  entered_left : (j : Job) (k len d b : ℕ) → d ≤ 8 → suc (pot_next c v (decided j (entered j k len d b))) ≤ suc (from_get c 72 + 11 * (8 - k) - (2 + d))
  unfolding pot_next pot_update pot_check
  entered_left j k len d b low = elim (cases_Bool (eqb b 0)) [
    | inl e ↦ rw e (omega (arith, get_least c 72))
    | inr e ↦ rw e (elim (cases_Bool (eqb d (len / 4))) [
      | inl f ↦ rw f (omega (arith, get_least c 72))
      | inr f ↦ rw f (omega arith)
    ])
  ]

  -- Check.
  check_falls : (j : Job) (s : CheckState) (o : List ℕ) (x : ℕ) → CheckOk j s o → suc (pot_next c v (check_after j s o x)) ≤ pot_check c s
  unfolding pot_next pot_update pot_check
  check_falls j (Piece k) o x ok = elim (cases_Bool (clean (piece_in o k).len (piece_in o k).bits)) [
    | inl e ↦ rw e (clean_left j k (piece_in o k).len (piece_in o k).puts (earlier_in o k) ok (clean-parts (piece_in o k).len (piece_in o k).bits e).short)
    | inr e ↦ rw e (omega (arith, get_least c 72))
  ]
  check_falls j (CheckRoot k) o x ok = omega (arith, entered_left j k (piece_in o k).len 0 (child_of x) (omega arith), get_least c 72)
  check_falls j (Slot k d b) o x ok =
      let short = (clean-parts (piece_in o k).len (piece_in o k).bits ok.1).short in
      let low : d < 8 = omega (arith, ok.2) in
      omega (arith, entered_left j k (piece_in o k).len (d + 1) (child_of x) (omega arith), get_least c 72)
  check_falls j (Route k b) o x ok =
      let short = (clean-parts (piece_in o k).len (piece_in o k).bits ok.1).short in
      elim (cases_Bool (eqb x 0)) [
        | inl e ↦ rw e (omega (arith, get_least c 72))
        | inr e ↦ rw e (omega (arith, passed_left j k (piece_in o k).len ok.0 short, ok.0.0, ok.0.1))
      ]
  check_falls j (Reject why) o x ok = omega arith

  -- With one block more, the rest of the blocks is left.
  gathering_left : (j : Job) → pot_next c v (gathering j) ≤ from_get c (j.need - j.got)
  unfolding pot_next pot_update pot_obtain pot_build
  gathering_left j = elim (cases_Bool (ltb j.got j.need)) [
    | inl e ↦ rw e (omega (arith, get_next c j.need j.got (ltb-true _ _ e)))
    | inr e ↦ rw e (omega (arith, get_least c (j.need - j.got)))
  ]

  -- What was got goes back in so many turns.
  undoing_left : (j : Job) → pot_next c v (undoing j) ≤ 74 - (73 - j.got)
  unfolding pot_next pot_update pot_obtain
  undoing_left j = elim (cases_Bool (ltb 0 j.got)) [ inl e ↦ rw e (omega arith) | inr e ↦ rw e (omega arith) ]

  -- One block is got, or none is left and the oldest retired node is looked for.
  get_falls : (j : Job) (x : ℕ) → suc (pot_next c v (after_get j x)) ≤ from_get c (j.need - suc j.got) + (2 * c + 6)
  unfolding pot_next pot_update pot_recycle
  get_falls j zero = omega arith
  get_falls j (suc b) = let left : pot_next c v (gathering (having (j.got + 1) j)) ≤ from_get c (j.need - (j.got + 1)) = gathering_left (having (j.got + 1) j) in omega (arith, ap (from_get c) (same j))
    where
      same : (j : Job) → j.need - (j.got + 1) ≡ j.need - suc j.got
      same j = omega arith

  -- Obtain.
  obtain_falls : (j : Job) (s : ObtainState) (x : ℕ) → ObtainOk j s → suc (pot_next c v (obtain_after j s x)) ≤ pot_obtain c j s
  unfolding pot_next pot_obtain
  obtain_falls j Get x ok = get_falls j x
  obtain_falls j Undo x ok = let left : pot_next c v (undoing (having (j.got - 1) j)) ≤ 74 - (73 - (j.got - 1)) = undoing_left (having (j.got - 1) j) in omega (arith, ok.0, ok.1)
  obtain_falls j Full x ok = omega arith

  -- Recycle; a scan that begins may find the first processor in the way.
  recycle_falls : (j : Job) (s : RecycleState) (x : ℕ) → 1 ≤ c → suc (pot_next c v (recycle_after j s x)) ≤ pot_recycle c j s
  unfolding pot_next pot_update pot_recycle pot_scan
  recycle_falls j RecycleHead x some = elim (cases_Bool (eqb (child_of x) 0)) [
    | inl e ↦ rw e (omega (arith, undoing_left j, get_least c (j.need - suc j.got)))
    | inr e ↦ rw e (omega arith)
  ]
  recycle_falls j (RecycleAt b) x some = elim (cases_Bool (v x 0)) [ inl e ↦ rw e (omega arith) | inr e ↦ rw e (omega arith) ]
  recycle_falls j (RecycleNext b grace) x some = omega arith
  recycle_falls j (RecycleSetHead b next grace) x some =
      let same : from_get c (j.need - (j.got + 1)) ≡ from_get c (j.need - suc j.got) = ap (from_get c) (omega arith) in
      let left : pot_next c v (gathering (having (j.got + 1) j)) ≤ from_get c (j.need - (j.got + 1)) = gathering_left (having (j.got + 1) j) in
      elim (cases_Bool (eqb next 0)) [ inl e ↦ rw e (omega arith) | inr e ↦ rw e (omega arith) ]
  recycle_falls j RecycleSetTail x some = omega (arith, gathering_left j)

  -- A scan that goes on.
  scan_falls : (u : ℕ → ℕ → Bool) (j : Job) (s : ScanState) (x : ℕ) → stays_scan s x ≡ false → suc (pot_update c v j (scan_after c s x)) ≤ pot_scan c u j s
  unfolding stays_scan pot_update pot_recycle pot_scan pot_reclaim
  scan_falls u j (ForNode q b stamp) x on = rw on (elim (cases_Bool (ltb (q + 1) c)) [
    | inl e ↦ rw e (elim (cases_Bool (v stamp (q + 1))) [
      | inl f ↦ rw f (let l = ltb-true _ _ e in omega arith)
      | inr f ↦ rw f (let l = ltb-true _ _ e in omega arith)
    ])
    | inr e ↦ rw e (omega arith)
  ])
  scan_falls u j (ForLimit q limit) x on = elim (cases_Bool (ltb (q + 1) c)) [
    | inl e ↦ rw e (let l = ltb-true _ _ e in omega arith)
    | inr e ↦ rw e (omega arith)
  ]

  -- A piece that is next has so much left.
  starting_left : (j : Job) (k : ℕ) → pot_next c v (starting j k) ≤ from_publish c + 559 * (7 - k) + 559
  unfolding pot_next pot_update pot_build
  starting_left j k = elim (cases_Bool (eqb j.root 0)) [ inl e ↦ rw e (omega arith) | inr e ↦ rw e (omega arith) ]

  -- Build.
  build_falls : (j : Job) (s : BuildState) (o : List ℕ) (x : ℕ) → BuildOk j s o → suc (pot_next c v (build_after j s o x)) ≤ pot_build c s
  unfolding pot_next pot_update pot_build pot_publish
  build_falls j BuildRoot o x ok = omega (arith, starting_left (rooted (child_of x) j) 0)
  build_falls j (Read k d i b) o x (at, deep, word, few) =
      let short = (clean-parts (piece_in o k).len (piece_in o k).bits at.2).short in
      elim (cases_Bool (ltb i 30)) [
        | inl e ↦ rw e (omega arith)
        | inr e ↦ rw e (let last = ltb-false _ _ e in elim (cases_Bool (eqb d (deep_in o k) || eqb (child_in (read_words j d i b o x) d (nib d (piece_in o k).bits)) 0)) [
          | inl f ↦ rw f (omega arith)
          | inr f ↦ rw f (omega arith)
        ])
      ]
  build_falls j (Edit k have) o x ok = omega arith
  build_falls j (Write k first d i) o x (here, few, low, room, word) = elim (cases_Bool (ltb i 30)) [
    | inl e ↦ rw e (omega arith)
    | inr e ↦ rw e (let last = ltb-false _ _ e in elim (cases_Bool (ltb (first + d + 1) j.used)) [
      | inl f ↦ rw f (omega arith)
      | inr f ↦ rw f (elim (cases_Bool (ltb (k + 1) j.size)) [
        | inl h ↦ rw h (let l = ltb-true _ _ h in omega (arith, starting_left j (k + 1)))
        | inr h ↦ rw h (omega arith)
      ])
    ])
  ]

  -- Publish.
  publish_falls : (j : Job) (s : PublishState) (x : ℕ) → suc (pot_update c v j (publish_after s x)) ≤ pot_publish c s
  unfolding pot_update pot_publish pot_retire
  publish_falls j FenceNodes x = omega arith
  publish_falls j SetRoot x = omega arith
  publish_falls j FenceRoot x = omega arith

  -- Retire.
  retire_falls : (j : Job) (s : RetireState) (x : ℕ) → 1 ≤ c → RetireOk j s → suc (pot_update c v j (retire_after j s x)) ≤ pot_retire c s
  unfolding pot_update pot_retire pot_scan
  retire_falls j Epoch x some ok = omega arith
  retire_falls j (SetEpoch e) x some ok = elim (cases_Bool (ltb 0 j.retired)) [ inl h ↦ rw h (omega arith) | inr h ↦ rw h (omega arith) ]
  retire_falls j (SetAt i e) x some ok = omega arith
  retire_falls j (SetNext i e) x some ok = elim (cases_Bool (ltb (i + 1) j.retired)) [ inl h ↦ rw h (omega arith) | inr h ↦ rw h (omega arith) ]
  retire_falls j Tail x some ok = elim (cases_Bool (eqb (child_of x) 0)) [ inl h ↦ rw h (omega arith) | inr h ↦ rw h (omega arith) ]
  retire_falls j ToHead x some ok = omega arith
  retire_falls j (Link t) x some ok = omega arith
  retire_falls j ToTail x some ok = omega arith
  retire_falls j Fence x some ok = omega arith

  -- The end has so much left.
  finishing_left : (j : Job) → pot_update c v j (finishing j) ≤ 73
  unfolding pot_update pot_finish
  finishing_left j = elim (cases_Bool (ltb j.used j.got)) [ inl e ↦ rw e (omega arith) | inr e ↦ rw e (omega arith) ]

  -- Reclaim.
  reclaim_falls : (j : Job) (s : ReclaimState) (x : ℕ) → suc (pot_update c v j (reclaim_after j s x)) ≤ pot_reclaim s
  unfolding pot_update pot_reclaim
  reclaim_falls j (Head grace left) x = elim (cases_Bool (eqb (child_of x) 0)) [ inl e ↦ rw e (omega (arith, finishing_left j)) | inr e ↦ rw e (omega arith) ]
  reclaim_falls j (RetiredAt grace left b) x = elim (cases_Bool (ltb x grace.before)) [ inl e ↦ rw e (omega arith) | inr e ↦ rw e (omega (arith, finishing_left j)) ]
  reclaim_falls j (Next grace left b) x = omega arith
  reclaim_falls j (SetHead grace left b next) x = elim (cases_Bool (eqb next 0)) [ inl e ↦ rw e (omega arith) | inr e ↦ rw e (omega arith) ]
  reclaim_falls j (SetTail grace left b) x = omega arith
  reclaim_falls j (Release grace left b) x = elim (cases_Bool (ltb 1 left)) [
    | inl e ↦ rw e (let l = ltb-true _ _ e in omega arith)
    | inr e ↦ rw e (omega (arith, finishing_left j))
  ]

  -- Finish.
  finish_falls : (j : Job) (s : FinishState) (x : ℕ) → FinishOk j s → suc (pot_next c v (finish_after j s x)) ≤ pot_finish j s
  unfolding pot_next pot_update pot_finish
  finish_falls j Unused x ok = elim (cases_Bool (ltb (j.used + 1) j.got)) [ inl e ↦ rw e (omega arith) | inr e ↦ rw e (omega arith) ]
  finish_falls j Unlock x ok = omega arith

  -- Each turn of an update that does not stay where it is brings it nearer to its end.
  pub update_falls : (u : ℕ → ℕ → Bool) (j : Job) (s : Phase) (o : List ℕ) (x : ℕ) → 1 ≤ c → UpdateOk j s o → stays_update s x ≡ false → suc (pot_next c v (update_after c j s o x)) ≤ pot_update c u j s
  unfolding stays_update pot_next pot_update pot_check
  update_falls u j Refuse o x some ok on = omega arith
  update_falls u j Lock o x some ok on = elim (cases_Bool (eqb x 0)) [ inl e ↦ rw e (omega arith) | inr e ↦ (let z : ◌≡◌ {A = ℕ} 0 1 = cc (rw e at on) in absurd (omega arith)) ]
  update_falls u j (Check s) o x some ok on = check_falls j s o x ok
  update_falls u j (Obtain s) o x some ok on = obtain_falls j s x ok
  update_falls u j (Recycle s) o x some ok on = recycle_falls j s x some
  update_falls u j (Scan s) o x some ok on = scan_falls u j s x on
  update_falls u j (Build s) o x some ok on = build_falls j s o x ok
  update_falls u j (Publish s) o x some ok on = publish_falls j s x
  update_falls u j (Retire s) o x some ok on = retire_falls j s x some ok
  update_falls u j (Reclaim s) o x some ok on = reclaim_falls j s x
  update_falls u j (Finish s) o x some ok on = finish_falls j s x ok

  -- What is left is that of the registers then.
  update_next : (r : UpdateNext) → pot c v (work_of_update r) ≡ pot_next c v r
  unfolding pot pot_next
  update_next (Continue n) = refl
  update_next (Break a) = refl

  -- The same of a lookup.
  lookup_next : (r : LookupNext) → pot c v (work_of_lookup r) ≡ turns_after r
  unfolding pot
  lookup_next (Continue l) = refl
  lookup_next (Break a) = refl

  -- Each turn that does not stay where it is brings what is under way nearer to its end.
  pub pot_falls : (u : ℕ → ℕ → Bool) (w : Work) (o : List ℕ) (x : ℕ) → 1 ≤ c → WorkOk w o → stays w x ≡ false → suc (pot c v (work_after c w o x)) ≤ pot c u w
  unfolding stays pot
  pot_falls u Idle o x some ok on = let z : ◌≡◌ {A = ℕ} 0 1 = cc in absurd (omega arith)
  pot_falls u (Looking l) o x some ok on = omega (arith, lookup_next (lookup_after l x), lookups_end_lem l x ok)
  pot_falls u (Updating j s) o x some ok on = omega (arith, update_next (update_after c j s o x), update_falls u j s o x some ok on)
