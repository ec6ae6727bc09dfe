-- A turn that leaves the registers as they are, and who is in the way of a scan that stands.
use Rattle.std.proofs.Common.{◌≡◌, ℕ, suc, ◌+◌, ◌<◌, ◌≤◌, Bool, true, not, ◌||◌, eqb, ◌⊎◌, List, [], refl, ap, ◌∙◌, inl, inr, arith}
use Rattle.std.proofs.lemmas.Bool.Decides.{nat_tests as tests, eqb_tells}
use Rattle.std.proofs.lemmas.Bool.{cases_Bool, ne_eqb}
use Rattle.words.specs.Slots.{child_of}
use Rattle.routes.specs.declared.lookup.Lookup.{Lookup}
use Rattle.routes.specs.declared.lookup.Lookup.TheVariants.{Epoch, Announce, Root, Node, Leave}
use Rattle.routes.specs.declared.update.job.Job.{Job}
use Rattle.routes.specs.declared.update.scan.Scan.TheVariants.{ForNode, ForLimit}
use Rattle.routes.specs.declared.update.Phase.TheVariants.{Refuse, Lock, Check, Obtain, Recycle, Scan, Build, Publish, Retire, Reclaim, Finish}
use Rattle.routes.specs.declared.work.Work.{Work}
use Rattle.routes.specs.declared.work.Work.TheVariants.{Idle, Lookup as Looking, Update as Updating}
use Rattle.routes.specs.Memory.{set_at}
use Rattle.routes.specs.Routes.{Now, State, is_question, asking, gone}
use Rattle.routes.specs.Machine.Cpus.{WorkOk, work_after, work_of_lookup, work_of_update}
use Rattle.routes.specs.Machine.Lookups.{lookup_after}
use Rattle.routes.specs.Machine.Scans.{announced_before}
use Rattle.routes.specs.Machine.Updates.{update_after}
use Rattle.routes.specs.Run.Nows.{in_list}
use Rattle.routes.specs.Invariant.Ages.{pot_scan, pot_update, pot, in_way, unawaited_in, stays_scan, stays_update, stays, SameWork}
use Rattle.routes.specs.Invariant.Registers.{loaded, loaded_in, announced, announced_in}
use Rattle.routes.proofs.Basics.Places.{set_at_miss}
use Rattle.routes.proofs.Run.Waits.{in_asking, in_gone}
use Rattle.routes.proofs.Invariant.Falls.{pot_falls}
use Rattle.routes.specs.Machine.Nexts.{UpdateNext}
use Rattle.std.specs.declared.ops.ControlFlow.TheVariants.{Continue, Break}

-- how a turn may leave the registers as they are: nothing is under way, the lock was not free, or a scan stands
pub data Stay (w : Work) (x : ℕ) : Type 0 where
  rests : w ≡ Idle → Stay w x
  fails : (j : Job) → w ≡ Updating j Lock → (x ≡ 0 → ⊥) → Stay w x
  stands : (r b stamp : ℕ) (j : Job) → w ≡ Updating j (Scan (ForNode r b stamp)) → announced_before x (stamp + 1) ≡ true → Stay w x

-- There is no other way.
pub stay_is : (w : Work) (x : ℕ) → stays w x ≡ true → Stay w x
unfolding stays stays_update stays_scan
stay_is Idle x e = rests refl
stay_is (Looking l) x e = let z : ◌≡◌ {A = ℕ} 0 1 = cc in absurd (omega arith)
stay_is (Updating j Refuse) x e = let z : ◌≡◌ {A = ℕ} 0 1 = cc in absurd (omega arith)
stay_is (Updating j Lock) x e = fails j refl (λ z. (let y : not (eqb 0 0) ≡ true = rw z at e in let n : ◌≡◌ {A = ℕ} 0 1 = cc in omega arith))
stay_is (Updating j (Check s)) x e = let z : ◌≡◌ {A = ℕ} 0 1 = cc in absurd (omega arith)
stay_is (Updating j (Obtain s)) x e = let z : ◌≡◌ {A = ℕ} 0 1 = cc in absurd (omega arith)
stay_is (Updating j (Recycle s)) x e = let z : ◌≡◌ {A = ℕ} 0 1 = cc in absurd (omega arith)
stay_is (Updating j (Scan (ForNode r b stamp))) x e = stands r b stamp j refl e
stay_is (Updating j (Scan (ForLimit r limit))) x e = let z : ◌≡◌ {A = ℕ} 0 1 = cc in absurd (omega arith)
stay_is (Updating j (Build s)) x e = let z : ◌≡◌ {A = ℕ} 0 1 = cc in absurd (omega arith)
stay_is (Updating j (Publish s)) x e = let z : ◌≡◌ {A = ℕ} 0 1 = cc in absurd (omega arith)
stay_is (Updating j (Retire s)) x e = let z : ◌≡◌ {A = ℕ} 0 1 = cc in absurd (omega arith)
stay_is (Updating j (Reclaim s)) x e = let z : ◌≡◌ {A = ℕ} 0 1 = cc in absurd (omega arith)
stay_is (Updating j (Finish s)) x e = let z : ◌≡◌ {A = ℕ} 0 1 = cc in absurd (omega arith)

-- The registers are then as they were.
pub stay_same : (c : ℕ) (w : Work) (o : List ℕ) (x : ℕ) → Stay w x → work_after c w o x ≡ w
stay_same c w o x (rests e) = rw e refl
stay_same c w o x (fails j e n) = rw e (rw (ne_eqb x 0 n) refl)
stay_same c w o x (stands r b stamp j e t) = rw e (rw t refl)

-- No reply of 0 leaves what is under way as it is.
stay_none : (w : Work) → (w ≡ Idle → ⊥) → Stay w 0 → ⊥
stay_none w busy (rests e) = busy e
stay_none w busy (fails j e n) = n refl
stay_none w busy (stands r b stamp j e t) = let z : ◌≡◌ {A = ℕ} 0 1 = cc in omega arith

-- What is under way has a turn to come.
pub pot_some : (c : ℕ) (u : ℕ → ℕ → Bool) (w : Work) (o : List ℕ) → 1 ≤ c → WorkOk w o → (w ≡ Idle → ⊥) → 1 ≤ pot c u w
pot_some c u w o some ok busy = elim (cases_Bool (stays w 0)) [
  | inl e ↦ absurd (stay_none w busy (stay_is w 0 e))
  | inr e ↦ omega (arith, pot_falls c u u w o 0 some ok e)
]

-- Who has loaded an epoch asks.
pub loads_asks : (w : Work) (n : Now) → SameWork w n → 1 ≤ loaded w → is_question n ≡ true
unfolding SameWork loaded
loads_asks Idle n k l = absurd (omega arith)
loads_asks (Looking l) n k h = k
loads_asks (Updating j s) n k l = absurd (omega arith)

-- What is announced is what was loaded.
pub announced-loaded : (w : Work) → (announced w ≡ 0) ⊎ (announced w ≡ loaded w)
unfolding announced announced_in loaded loaded_in
announced-loaded Idle = inl refl
announced-loaded (Looking (Epoch a)) = inl refl
announced-loaded (Looking (Announce a e)) = inl refl
announced-loaded (Looking (Root a e)) = inr refl
announced-loaded (Looking (Node a e d b best)) = inr refl
announced-loaded (Looking (Leave e best)) = inr refl
announced-loaded (Updating j s) = inl refl

-- Who has announced an epoch at or before a stamp is in the way.
pub stand_sees : (stamp : ℕ) (w : Work) → announced_before (announced w) (stamp + 1) ≡ true → in_way stamp w ≡ true
unfolding in_way
stand_sees stamp w t = elim (announced-loaded w) [
  | inl e ↦ (let z : announced_before 0 (stamp + 1) ≡ true = rw e at t in cc)
  | inr e ↦ grind (arith, tests)
]

-- Who is in the way has loaded an epoch.
pub way_loads : (stamp : ℕ) (w : Work) → in_way stamp w ≡ true → 1 ≤ loaded w
unfolding in_way
way_loads stamp w t = grind (arith, tests)

-- An update has loaded none.
update_loads : (r : UpdateNext) → loaded (work_of_update r) ≡ 0
unfolding loaded
update_loads (Continue n) = refl
update_loads (Break a) = refl

-- A turn of a lookup past its load leaves what it has loaded, or ends it.
lookup_loads : (l : Lookup) (x : ℕ) → 1 ≤ loaded_in l → (loaded (work_of_lookup (lookup_after l x)) ≡ 0) ⊎ (loaded (work_of_lookup (lookup_after l x)) ≡ loaded_in l)
unfolding loaded loaded_in
lookup_loads (Epoch a) x h = absurd (omega arith)
lookup_loads (Announce a e) x h = inr refl
lookup_loads (Root a e) x h = elim (cases_Bool (eqb (child_of x) 0)) [ inl f ↦ rw f (inr refl) | inr f ↦ rw f (inr refl) ]
lookup_loads (Node a e d b best) x h = elim (cases_Bool (eqb (child_of x) 0 || eqb d 8)) [ inl f ↦ rw f (inr refl) | inr f ↦ rw f (inr refl) ]
lookup_loads (Leave e best) x h = inl refl

-- Nobody comes into the way: who loads EPOCH now loads one past the stamp.
pub way_after : (c stamp epoch : ℕ) (w : Work) (o : List ℕ) (x : ℕ) → stamp < epoch → ((a : ℕ) → w ≡ Looking (Epoch a) → x ≡ epoch) → in_way stamp (work_after c w o x) ≡ true → in_way stamp w ≡ true
unfolding in_way loaded loaded_in
way_after c stamp epoch Idle o x past loads t = t
way_after c stamp epoch (Looking (Epoch a)) o x past loads t = let e = loads a refl in grind (arith, tests)
way_after c stamp epoch (Looking (Announce a e)) o x past loads t = t
way_after c stamp epoch (Looking (Root a e)) o x past loads t = let h = lookup_loads (Root a e) x (omega arith) in grind (arith, tests)
way_after c stamp epoch (Looking (Node a e d b best)) o x past loads t = let h = lookup_loads (Node a e d b best) x (omega arith) in grind (arith, tests)
way_after c stamp epoch (Looking (Leave e best)) o x past loads t = let h = lookup_loads (Leave e best) x (omega arith) in grind (arith, tests)
way_after c stamp epoch (Updating j s) o x past loads t = let h = update_loads (update_after c j s o x) in grind (arith, tests)

-- What is left depends on who is in the way only while a scan stands.
pub pot_less : (c : ℕ) (u v : ℕ → ℕ → Bool) (w : Work) → ((r b stamp : ℕ) (j : Job) → w ≡ Updating j (Scan (ForNode r b stamp)) → u stamp r ≡ true → v stamp r ≡ true) → pot c u w ≤ pot c v w
unfolding pot pot_update pot_scan
pot_less c u v Idle h = omega arith
pot_less c u v (Looking l) h = omega arith
pot_less c u v (Updating j Refuse) h = omega arith
pot_less c u v (Updating j Lock) h = omega arith
pot_less c u v (Updating j (Check s)) h = omega arith
pot_less c u v (Updating j (Obtain s)) h = omega arith
pot_less c u v (Updating j (Recycle s)) h = omega arith
pot_less c u v (Updating j (Scan (ForNode r b stamp))) h = elim (cases_Bool (u stamp r)) [
  | inl e ↦ rw (e, h r b stamp j refl e) (omega arith)
  | inr e ↦ rw e (omega arith)
]
pot_less c u v (Updating j (Scan (ForLimit r limit))) h = omega arith
pot_less c u v (Updating j (Build s)) h = omega arith
pot_less c u v (Updating j (Publish s)) h = omega arith
pot_less c u v (Updating j (Retire s)) h = omega arith
pot_less c u v (Updating j (Reclaim s)) h = omega arith
pot_less c u v (Updating j (Finish s)) h = omega arith

-- Another's step that does not bring it into the way leaves no more.
pub other_left : (c p : ℕ) (w' : Work) (work : ℕ → Work) (ws : List ℕ) (w : Work) → ((r b stamp : ℕ) (j : Job) → w ≡ Updating j (Scan (ForNode r b stamp)) → in_way stamp w' ≡ true → in_way stamp (work p) ≡ true) →
    pot c (unawaited_in (set_at p w' work) ws) w ≤ pot c (unawaited_in work ws) w
unfolding unawaited_in
other_left c p w' work ws w h = pot_less c _ _ w (λ r b stamp j e t. elim (eqb_tells r p) [
  | inl i ↦ (let way = h r b stamp j e in let same : work r ≡ work p = ap work i.1 in rw same (grind (arith, tests)))
  | inr i ↦ rw (set_at_miss p r w' work i.1) at t
])

-- Who has told its answer is in nobody's way, and is waited for by nobody.
pub told_left : (c p : ℕ) (work : ℕ → Work) (ws : List ℕ) (w : Work) → work p ≡ Idle → pot c (unawaited_in work (gone p ws)) w ≤ pot c (unawaited_in work ws) w
unfolding unawaited_in in_way loaded
told_left c p work ws w idle = pot_less c _ _ w (λ r b stamp j e t. (let g = in_gone r p ws in elim (eqb_tells r p) [
  | inl i ↦ (let none : loaded (work r) ≡ 0 = rw (ap work i.1 ∙ idle) refl in grind (arith, tests))
  | inr i ↦ grind (arith, tests)
]))

-- A scan that stands, in a turn that counts: it waits for who is in the way from now on.
pub stand_counts : (c : ℕ) (work : ℕ → Work) (s : State) (j : Job) (r b stamp : ℕ) → r < c → in_way stamp (work r) ≡ true → is_question (s.now' r) ≡ true →
    suc (pot_scan c (unawaited_in work (asking c s)) j (ForNode r b stamp)) ≤ pot_scan c (unawaited_in work []) j (ForNode r b stamp)
unfolding pot_scan unawaited_in in_list
stand_counts c work s j r b stamp small way asks = let e = in_asking r c s in
    let waited : in_list r (asking c s) ≡ true = grind (arith, tests) in
    rw (way, waited) (omega arith)
