-- The five steps of a lookup.
use Rattle.std.proofs.Common.{◌≡◌, ℕ, suc, ◌+◌, ◌<◌, ◌≤◌, false, ◌||◌, T, eqb, ◌⊎◌, List, [], ◌∷◌, None, sym, refl, ap, ◌∙◌, subst, inl, inr, arith}
use Rattle.std.proofs.lemmas.Bool.Decides.{eqb_tells}
use Rattle.std.proofs.lemmas.Bool.{cases_Bool, eq-eqb}
use Rattle.words.specs.Address.{nib}
use Rattle.words.specs.Slots.{child_of, fit_of}
use Rattle.words.proofs.Packing.{child_same}
use Rattle.routes.specs.declared.Answer.{Answer}
use Rattle.routes.specs.declared.Answer.TheVariants.{Nothing}
use Rattle.routes.specs.declared.Ask.TheVariants.{Find}
use Rattle.routes.specs.declared.lookup.Lookup.{Lookup}
use Rattle.routes.specs.declared.lookup.Lookup.TheVariants.{Epoch, Announce, Root, Node, Leave}
use Rattle.routes.specs.declared.work.Work.TheVariants.{Idle, Lookup as Looking}
use Rattle.routes.specs.Memory.{Mem, sees, swapped, counted}
use Rattle.routes.specs.Routes.{Event, Told, Turned, Over, State, Run, young, limit, find}
use Rattle.routes.specs.Counts.Counts.{cnt}
use Rattle.routes.specs.Machine.Acts.{Did}
use Rattle.routes.specs.Machine.Cpus.{work_of_lookup}
use Rattle.std.specs.ControlFlow.{break_value}
use Rattle.routes.specs.Machine.Lookups.{after_root, after_slot, lookup_act, lookup_after}
use Rattle.routes.specs.Late.Steps.{set_word}
use Rattle.routes.specs.Repr.Repr.{Follow}
use Rattle.routes.specs.Run.Steps.{settled_at, turned_at}
use Rattle.routes.specs.Tree.Trees.{block_of, count}
use Rattle.routes.specs.Tree.Walks.{better, walk}
use Rattle.routes.specs.Invariant.Ghosts.{Ghost, limbo}
use Rattle.routes.specs.Invariant.Readers.{Asks, Answered, LooksUp, Does, Reader}
use Rattle.routes.specs.Invariant.Registers.{holds, loaded, loaded_in, announced, announced_in}
use Rattle.routes.specs.Invariant.Inv.{Lock, Cpus, Inv, set_cpu}
use Rattle.routes.specs.Invariant.Known.{seen_of}
use Rattle.routes.proofs.Basics.Places.{set_val_hit, set_val_miss, set_at_same}
use Rattle.routes.proofs.Late.Fence.{swap_none}
use Rattle.routes.proofs.Late.Sees.{sees_none}
use Rattle.routes.proofs.Repr.Nodes.{repr_block}
use Rattle.routes.proofs.Repr.Trails.{follow_walk, follow_node, follow_end}
use Rattle.routes.proofs.Run.Make.{settle_found}
use Rattle.routes.proofs.Run.Steps.{now_own, now_other, turned_under, turned_over}
use Rattle.routes.proofs.Tree.Good.{walk-find}
use Rattle.routes.proofs.Invariant.Alike.{Alike, alike_same, alike_settled, alike_hidden}
use Rattle.routes.proofs.Invariant.Apart.{tree_apart}
use Rattle.routes.proofs.Invariant.Arriving.{turn_arrives}
use Rattle.routes.proofs.Invariant.Local.{Touches, quiet_late, local_inv}
use Rattle.routes.proofs.Invariant.Steps.{Turn, turn_on, turn_told, busy_small}

-- To ask the memory changes no word.
pub touch_none : (m : Mem) (p : ℕ) → Touches m (counted m) p
touch_none m p = record { vals = λ b w ne. refl; held = refl; late = refl; cpus = refl; blocks = refl }

-- To announce changes one.
pub touch_word : (m : Mem) (p x : ℕ) → Touches m (counted (set_word 0 (16 + p) x m)) p
touch_word m p x = record { vals = λ b w ne. set_val_miss 0 (16 + p) x m.val b w ne; held = refl; late = refl; cpus = refl; blocks = refl }

-- A swap of a word that is as expected, where nothing is late.
pub swap_hits : (m : Mem) (p w old x : ℕ) → m.late p ≡ [] → m.val 0 w ≡ old → counted (swapped p 0 w old x m) ≡ counted (set_word 0 w x m)
swap_hits m p w old x late e = ap counted (swap_none p 0 w old x m late ∙ rw (eq-eqb (m.val 0 w) old e) refl)

-- Nothing is on an empty trail.
trail_none : (b : ℕ) (trail : List ℕ) → trail ≡ [] → 1 ≤ cnt b trail → ⊥
unfolding cnt
trail_none b trail e u = omega (arith, u, ap (cnt b) e)

-- Nothing is told after ROOT is loaded.
root_told : (a e b : ℕ) → break_value (after_root a e b) ≡ None
root_told a e b = elim (cases_Bool (eqb b 0)) [ inl z ↦ rw z refl | inr z ↦ rw z refl ]

-- Nothing is told after a slot is loaded.
slot_told : (a e d child : ℕ) (best : Answer) → break_value (after_slot a e d child best) ≡ None
slot_told a e d child best = elim (cases_Bool (eqb child 0 || eqb d 8)) [ inl z ↦ rw z refl | inr z ↦ rw z refl ]

module _ {m : Mem} {k : Lock} {g : Ghost} {trail : ℕ → List ℕ} {s : State} {t : ℕ} {c : Cpus} {cpus blocks : ℕ} {es : List Event} (p : ℕ) (i : Inv m k g trail s t c) (r : Run cpus blocks es s) where
  -- What is known of p.
  reads : (l : Lookup) → c.work p ≡ Looking l → Reader m g (trail p) p (Looking l) (c.own p) (s.now' p)
  reads l e = subst (λ w. Reader m g (trail p) p w (c.own p) (s.now' p)) e (i.readers p)

  -- It has nothing late.
  late_none : (l : Lookup) → c.work p ≡ Looking l → m.late p ≡ []
  unfolding holds
  late_none l e = quiet_late p i (ap holds e)

  -- It is a processor that there is.
  small : (l : Lookup) → c.work p ≡ Looking l → p < m.cpus
  small l e = busy_small i p (λ z. let y : Looking l ≡ Idle = sym e ∙ z in let x : ◌≡◌ {A = ℕ} 0 1 = cc in absurd (omega arith))

  -- A step after which it still looks up.
  go_on : {s' : State} (l l' : Lookup) (m' : Mem) (trail' : List ℕ) → c.work p ≡ Looking l → Alike p s s' → Run cpus blocks es s' → T (young (s'.now' p)) → Touches m m' p →
      Reader m' g trail' p (Looking l') (c.own p) ((turned_at cpus p s').now' p) → ((b : ℕ) → 1 ≤ cnt b trail' → (1 ≤ cnt b (trail p)) ⊎ (limbo g b ≡ 0)) →
      Turn m' t (set_cpu p (Looking l') (c.own p) c) cpus blocks (Turned p ∷ es) p s
  unfolding holds
  go_on {s'} l l' m' trail' e a r' y touch reader near = turn_on (alike_hidden a) r' y (local_inv i (record {
    touches = touch;
    table = a.table;
    lead = a.lead;
    nows = λ q ne. now_other p q _ s'.table s' ne ∙ a.nows q ne;
    free = ap holds e;
    free' = refl;
    small = small l e;
    room = i.room p (small l e);
    reader = reader;
    near = near;
  }))

  -- A turn leaves what is asked.
  asks_on : (a : ℕ) → Asks a (s.now' p) → Asks a ((turned_at cpus p s).now' p)
  asks_on a n = (n.0, _, turned_under cpus p s (Find a) n.0 n.1 n.2)

  -- It leaves the answer.
  answered_on : (a : ℕ) (told : Answer) → Answered a told (s.now' p) → Answered a told ((turned_at cpus p s).now' p)
  answered_on a told n = (_, turned_over cpus p s (Find a) told n.0 n.1)

  -- It loads EPOCH.
  pub look_epoch : (a : ℕ) → c.work p ≡ Looking (Epoch a) → T (young (s.now' p)) → Turn (counted m) t (set_cpu p (Looking (Announce a (sees p 0 2 m))) (c.own p) c) cpus blocks (Turned p ∷ es) p s
  unfolding Does LooksUp announced announced_in loaded loaded_in
  look_epoch a e y =
      let l = reads (Epoch a) e in
      let n = sees_none p 0 2 m (late_none (Epoch a) e) in
      go_on (Epoch a) (Announce a (sees p 0 2 m)) (counted m) (trail p) e (alike_same p s) r y (touch_none m p)
      (record { active = l.active; old = omega (arith, n); does = (l.does.0, l.does.1, asks_on a l.does.2); safe = l.safe; clear = λ b u. absurd (trail_none b (trail p) l.does.0 u) })
      (λ b u. inl u)

  -- It announces the epoch.
  pub look_announce : (a x : ℕ) → c.work p ≡ Looking (Announce a x) → T (young (s.now' p)) → Turn (counted (swapped p 0 (16 + p) 0 (x + 1) m)) t (set_cpu p (Looking (Root a x)) (c.own p) c) cpus blocks (Turned p ∷ es) p s
  unfolding Does LooksUp announced announced_in loaded loaded_in
  look_announce a x e y =
      let l = reads (Announce a x) e in
      let next : x + 1 ≡ suc x = omega arith in
      rw (swap_hits m p (16 + p) 0 (x + 1) (late_none (Announce a x) e) l.active, next)
      (go_on (Announce a x) (Root a x) (counted (set_word 0 (16 + p) (suc x) m)) (trail p) e (alike_same p s) r y (touch_word m p (suc x))
      (record {
        active = set_val_hit 0 (16 + p) (suc x) m.val;
        old = rw ((touch_word m p (suc x)).vals 0 2 (λ d. omega (arith, d.1))) l.old;
        does = (l.does.0, l.does.1, asks_on a l.does.2);
        safe = l.safe;
        clear = l.clear;
      })
      (λ b u. inl u))

  -- It loads ROOT, and takes effect.
  pub look_root : (a x : ℕ) → c.work p ≡ Looking (Root a x) → T (young (s.now' p)) → Turn (counted m) t (set_cpu p (work_of_lookup (lookup_after (Root a x) (sees p 0 1 m))) (c.own p) c) cpus blocks (Turned p ∷ es) p s
  unfolding Does LooksUp announced announced_in loaded loaded_in young limit
  look_root a x e y = elim (eqb_tells (child_of (sees p 0 1 m)) 0) [
    | inl z ↦ rw z.0
        (let end = follow_end m.val a 0 Nothing f.0 (walk 9 0 a g.tree Nothing) (subst (λ b. Follow m.val a 0 b Nothing f.0 (walk 9 0 a g.tree Nothing)) (sym is ∙ z.1) f.1) in
        go_on (Root a x) (Leave x Nothing) (counted m) (trail p) e like r' y' (touch_none m p)
        (record { active = l.active; old = l.old; does = (l.does.0, (a, subst (λ w. Answered a w ((turned_at cpus p s').now' p)) (sym (end.1 ∙ found)) now)); safe = l.safe; clear = l.clear })
        (λ b u. inl u))
    | inr z ↦ rw z.0
        (go_on (Root a x) (Node a x 0 (child_of (sees p 0 1 m)) Nothing) (counted m) f.0 e like r' y' (touch_none m p)
        (record {
          active = l.active;
          old = l.old;
          does = (find a s.table, now, rw is (subst (λ w. Follow m.val a 0 (block_of g.tree) Nothing f.0 w) found f.1), z.1);
          safe = λ b u. (let w = f.2 b u in omega arith);
          clear = λ b u w. absurd (omega (arith, w, (tree_apart i.core b (f.2 b u)).0));
        })
        (λ b u. inr (tree_apart i.core b (f.2 b u)).0))
  ]
    where
      l : Reader m g (trail p) p (Looking (Root a x)) (c.own p) (s.now' p)
      l = reads (Root a x) e

      is : child_of (sees p 0 1 m) ≡ block_of g.tree
      is = rw (sees_none p 0 1 m (late_none (Root a x) e) ∙ i.core.root) (child_same (block_of g.tree) (repr_block m.val g.tree i.core.repr))

      f : (way : List ℕ) × Follow m.val a 0 (block_of g.tree) Nothing way (walk 9 0 a g.tree Nothing) × ((b : ℕ) → 1 ≤ cnt b way → 1 ≤ count b g.tree)
      f = follow_walk m.val a g.tree i.core.good.deep i.core.repr

      found : walk 9 0 a g.tree Nothing ≡ find a s.table
      found = walk-find a g.tree s.table l.does.1 i.core.good

      u : Asks a (s.now' p)
      u = l.does.2

      s' : State
      s' = settled_at p (Find a) (find a s.table) u.1 s.table s

      like : Alike p s s'
      like = alike_settled p (Find a) u.0 (find a s.table) u.1 s u.2

      r' : Run cpus blocks es s'
      r' = settle_found r p a u.0 u.1 u.2

      now0 : s'.now' p ≡ Over (Find a) (find a s.table) u.1
      now0 = now_own p (Over (Find a) (find a s.table) u.1) s.table s

      y' : T (young (s'.now' p))
      y' = rw now0 (rw u.2 at y)

      now : Answered a (find a s.table) ((turned_at cpus p s').now' p)
      now = (_, turned_over cpus p s' (Find a) (find a s.table) u.1 now0)

  -- It loads a slot of a node.
  pub look_node : (a x d b : ℕ) (best : Answer) → c.work p ≡ Looking (Node a x d b best) → T (young (s.now' p)) →
      Turn (counted m) t (set_cpu p (work_of_lookup (lookup_after (Node a x d b best) (sees p b (nib d a) m))) (c.own p) c) cpus blocks (Turned p ∷ es) p s
  unfolding Does LooksUp announced announced_in loaded loaded_in cnt
  look_node a x d b best e y = rw n (elim (eqb_tells (child_of (m.val b (nib d a))) 0) [
    | inl z ↦ rw z.0
        (let end = follow_end m.val a (suc d) best' f.0 told (subst (λ w. Follow m.val a (suc d) w best' f.0 told) z.1 f.3) in
        go_on (Node a x d b best) (Leave x best') (counted m) f.0 e (alike_same p s) r y (touch_none m p)
        (record { active = l.active; old = l.old; does = (end.0, (a, subst (λ w. Answered a w ((turned_at cpus p s).now' p)) (sym end.1) now)); safe = λ w u. l.safe w (sub w u); clear = λ w u. l.clear w (sub w u) })
        (λ w u. inl (sub w u)))
    | inr z ↦ elim (eqb_tells d 8) [
      | inl h ↦ absurd (let w = follow_node m.val a (suc d) (child_of (m.val b (nib d a))) best' f.0 told z.1 f.3 in omega (arith, w.2, h.1))
      | inr h ↦ rw (z.0, h.0)
          (let next : d + 1 ≡ suc d = omega arith in
          rw next (go_on (Node a x d b best) (Node a x (suc d) (child_of (m.val b (nib d a))) best') (counted m) f.0 e (alike_same p s) r y (touch_none m p)
          (record { active = l.active; old = l.old; does = (told, now, f.3, z.1); safe = λ w u. l.safe w (sub w u); clear = λ w u. l.clear w (sub w u) })
          (λ w u. inl (sub w u))))
    ]
  ])
    where
      l : Reader m g (trail p) p (Looking (Node a x d b best)) (c.own p) (s.now' p)
      l = reads (Node a x d b best) e

      n : sees p b (nib d a) m ≡ m.val b (nib d a)
      n = sees_none p b (nib d a) m (late_none (Node a x d b best) e)

      told : Answer
      told = l.does.0

      now : Answered a told ((turned_at cpus p s).now' p)
      now = answered_on a told l.does.1

      best' : Answer
      best' = better d (fit_of (m.val b (nib d a))) best

      f : (cs : List ℕ) × (trail p ≡ b ∷ cs) × (d < 9) × Follow m.val a (suc d) (child_of (m.val b (nib d a))) best' cs told
      f = follow_node m.val a d b best (trail p) told l.does.3 l.does.2

      sub : (w : ℕ) → 1 ≤ cnt w f.0 → 1 ≤ cnt w (trail p)
      sub w u = omega (arith, u, ap (cnt w) f.1)

  -- It leaves, and tells its answer.
  pub look_leave : (x : ℕ) (best : Answer) → c.work p ≡ Looking (Leave x best) → T (young (s.now' p)) →
      Turn (counted (swapped p 0 (16 + p) (x + 1) 0 m)) t (set_cpu p Idle (c.own p) c) cpus blocks (Told p best ∷ Turned p ∷ es) p s
  unfolding Does LooksUp announced announced_in loaded loaded_in holds
  look_leave x best e y =
      let l = reads (Leave x best) e in
      let next : suc x ≡ x + 1 = omega arith in
      let low = small (Leave x best) e in
      rw (swap_hits m p (16 + p) (x + 1) 0 (late_none (Leave x best) e) (l.active ∙ next))
      (turn_told (Find l.does.1.0) best l.does.1.1.0 (alike_hidden (alike_same p s)) r y l.does.1.1.1 (local_inv i (record {
        touches = touch_word m p 0;
        table = refl;
        lead = set_at_same p false s.lead (i.leads p ∙ (sym (i.holding p) ∙ ap holds e));
        nows = λ q ne. now_other p q _ s.table (turned_at cpus p s) ne ∙ now_other p q _ s.table s ne;
        free = ap holds e;
        free' = refl;
        small = low;
        room = i.room p low;
        reader = record { active = set_val_hit 0 (16 + p) 0 m.val; old = omega arith; does = (l.does.0, now_own p _ s.table (turned_at cpus p s)); safe = l.safe; clear = λ b u w. omega arith };
        near = λ b u. inl u;
      })))

  -- Any turn of a lookup, with what arrives after it.
  pub lookup_turn : (l : Lookup) (x : ℕ) (n : Mem) → c.work p ≡ Looking l → T (young (s.now' p)) → Did p (lookup_act p l) m x n →
      Turn n t (set_cpu p (work_of_lookup (lookup_after l x)) (c.own p) c) cpus blocks (seen_of p (break_value (lookup_after l x)) es) p s
  lookup_turn (Epoch a) x n e y d = turn_arrives d.1 (rw d.0 (look_epoch a e y))
  lookup_turn (Announce a z) x n e y d = turn_arrives d.1 (look_announce a z e y)
  lookup_turn (Root a z) x n e y d = rw (root_told a z (child_of x)) (turn_arrives d.1 (rw d.0 (look_root a z e y)))
  lookup_turn (Node a z h b best) x n e y d = rw (slot_told a z h (child_of x) (better h (fit_of x) best)) (turn_arrives d.1 (rw d.0 (look_node a z h b best e y)))
  lookup_turn (Leave z best) x n e y d = turn_arrives d.1 (look_leave z best e y)
