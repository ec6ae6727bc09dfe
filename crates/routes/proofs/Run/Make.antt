-- Runs made longer: what may be seen next, and what may take effect unseen.
use Rattle.std.proofs.Common.{◌≡◌, ℕ, ◌<◌, true, false, List, ◌∷◌, sym, refl, ◌∙◌}
use Rattle.std.proofs.lemmas.Bool.{lt-ltb, false≢true}
use Rattle.routes.specs.declared.Ask.{Ask}
use Rattle.routes.specs.declared.Ask.TheVariants.{Find, Change}
use Rattle.routes.specs.declared.Answer.{Answer}
use Rattle.routes.specs.declared.Answer.TheVariants.{Done, Full, No}
use Rattle.routes.specs.declared.Piece.{Piece}
use Rattle.routes.specs.Routes.{Route, Event, Asked, Told, Turned, Now, Quiet, Under, Over, State, Run, asks, finds, changes, full, leads, leads_still, turns, tells, Table, Wrong, changed, answer_of, table_of, too_much, find, leader, led, under}
use Rattle.routes.specs.Run.Nows.{is_change, age_of, limit_of}
use Rattle.routes.specs.Run.Steps.{asked_at, settled_at, turned_at, told_at}
use Rattle.routes.proofs.Run.Nows.{quiet_is, young_is}
use Rattle.routes.proofs.Run.Steps.{turned_over}
use Rattle.routes.proofs.Run.Always.{under_is}

module _ {cpus blocks : ℕ} {es : List Event} {s : State} (r : Run cpus blocks es s) (p : ℕ) where
  -- What has nothing under way may be asked.
  pub explained_ask : (k : Ask) (ps : List Piece) → p < cpus → under p es ≡ false → Run cpus blocks (Asked p k ps ∷ es) (asked_at p k ps s)
  explained_ask k ps l e = asks p k ps r l (quiet_is (s.now' p) (sym (under_is r p) ∙ e))

  -- What is younger than it may be may have a turn.
  pub explained_turn : age_of (s.now' p) < limit_of (s.now' p) → Run cpus blocks (Turned p ∷ es) (turned_at cpus p s)
  explained_turn l = turns p r (rw (young_is (s.now' p) ∙ lt-ltb _ _ l) tt)

  -- What has taken effect may have a turn and be told in it.
  pub explained_told : (k : Ask) (a : Answer) (g : ℕ) → s.now' p ≡ Over k a g → age_of (s.now' p) < limit_of (s.now' p) → Run cpus blocks (Told p a ∷ Turned p ∷ es) (told_at p (turned_at cpus p s))
  explained_told k a g e l = tells p (explained_turn l) (turned_over cpus p s k a g e)

  -- A question takes effect: its answer is what the table has now.
  pub settle_found : (a : ℕ) (ps : List Piece) (g : ℕ) → s.now' p ≡ Under (Find a) ps g → Run cpus blocks es (settled_at p (Find a) (find a s.table) g s.table s)
  settle_found a ps g e = finds p r e

  -- A change that comes to a table takes effect: all of it at once.
  pub settle_done : (n : ℕ) (ps : List Piece) (g : ℕ) (qs : List Route) → s.now' p ≡ Under (Change n) ps g → changed ps s.table ≡ Table qs → Run cpus blocks es (settled_at p (Change n) Done g qs s)
  unfolding answer_of table_of
  settle_done n ps g qs e c = rw c at (changes p r e)

  -- A change that does not come to a table is turned away, and the table stays.
  pub settle_no : (n : ℕ) (ps : List Piece) (g why : ℕ) → s.now' p ≡ Under (Change n) ps g → changed ps s.table ≡ Wrong why → Run cpus blocks es (settled_at p (Change n) (No why) g s.table s)
  unfolding answer_of table_of
  settle_no n ps g why e c = rw c at (changes p r e)

  -- A change that is too much for the pool may be told so, and the table stays.
  pub settle_full : (n : ℕ) (ps : List Piece) (g : ℕ) (qs : List Route) → s.now' p ≡ Under (Change n) ps g → changed ps s.table ≡ Table qs → too_much blocks s.table qs ≡ true →
      Run cpus blocks es (settled_at p (Change n) Full g s.table s)
  settle_full n ps g qs e c t = full p r e c (rw t tt)

  -- Where no other leads, a change may begin to.
  pub take_lead : is_change (s.now' p) ≡ true → leader cpus p s ≡ false → Run cpus blocks es (led p s)
  unfolding is_change
  take_lead c l = go (s.now' p) refl c
    where
      go : (n : Now) → s.now' p ≡ n → is_change n ≡ true → Run cpus blocks es (led p s)
      go Quiet e c = absurd (false≢true c)
      go (Under (Find a) ps g) e c = absurd (false≢true c)
      go (Under (Change n) ps g) e c = leads p r e (rw l tt)
      go (Over (Find a) x g) e c = absurd (false≢true c)
      go (Over (Change n) x g) e c = leads_still p r e (rw l tt)
