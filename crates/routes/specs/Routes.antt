-- A table of routes, what a question finds in it, what a change of several makes of it, and what may be seen of many processors at once.
-- Assumes nothing.
use Rattle.std.specs.Prelude.{◌≡◌, ℕ, zero, suc, ◌+◌, ◌-◌, ◌*◌, ◌/◌, ◌%◌, ◌^◌, ◌<◌, Bool, true, false, cond, not, ◌&&◌, ◌||◌, T, List, [], ◌∷◌, length, ◌==◌, nat_le, nat_lt}
use Rattle.routes.specs.declared.Ask.{Ask}
use Rattle.routes.specs.declared.Ask.TheVariants.{Find, Change}
use Rattle.routes.specs.declared.Answer.{Answer}
use Rattle.routes.specs.declared.Answer.TheVariants.{Found, Nothing, Done, Full, No}
use Rattle.routes.specs.declared.Piece.{Piece}

-- a route: the first len of 32 bits, in front, and what is told
pub record Route : Type 0 where
  pub len : ℕ
  pub bits : ℕ
  pub tells : ℕ

-- is a route of that length and those bits right for an address
abbrev pub fits : ℕ → ℕ → ℕ → Bool
fits len bits a = a / 2 ^ (32 - len) == bits / 2 ^ (32 - len)

-- bits behind the first len are 0
abbrev pub clean : ℕ → ℕ → Bool
clean len bits = nat_le len 32 && nat_lt bits 4294967296 && bits % 2 ^ (32 - len) == 0

unfoldable pub longest : ℕ → List Route → Answer → ℕ → Answer
longest a [] best n = best
longest a (r ∷ rs) best n = cond (fits r.len r.bits a && nat_le n r.len) (longest a rs (Found r.len r.tells) (r.len + 1)) (longest a rs best n)

abbrev pub find : ℕ → List Route → Answer
find a rs = longest a rs Nothing 0

unfoldable pub without : ℕ → ℕ → List Route → List Route
without len bits [] = []
without len bits (r ∷ rs) = cond (len == r.len && bits == r.bits) (without len bits rs) (r ∷ without len bits rs)

unfoldable pub has : ℕ → ℕ → List Route → Bool
has len bits [] = false
has len bits (r ∷ rs) = (len == r.len && bits == r.bits) || has len bits rs

-- one piece of a change after the other: put in, or taken out, which must be there
pub data After : Type 0 where
  Table : List Route → After
  Wrong : ℕ → After

unfoldable pub piece : Piece → List Route → After
piece p rs =
    cond (not (clean p.len p.bits)) (Wrong 2)
    (cond p.puts (Table (record { len = p.len; bits = p.bits; tells = p.tells } ∷ without p.len p.bits rs))
    (cond (has p.len p.bits rs) (Table (without p.len p.bits rs)) (Wrong 3)))

unfoldable pub pieces : List Piece → After → After
pieces [] t = t
pieces (p ∷ ps) (Wrong k) = Wrong k
pieces (p ∷ ps) (Table rs) = pieces ps (piece p rs)

abbrev pub changed : List Piece → List Route → After
changed ps rs = cond (length ps == 0 || nat_lt 8 (length ps)) (Wrong 1) (pieces ps (Table rs))

-- Full may be told only where the routes before and after are more than the pool surely has room for.
abbrev pub too_much : ℕ → List Route → List Route → Bool
too_much blocks rs qs = nat_lt blocks (192 + 5 * (length rs + length qs))

pub data Event : Type 0 where
  Asked : (cpu : ℕ) → Ask → List Piece → Event
  Told : (cpu : ℕ) → Answer → Event
  -- a processor that has something under way had a turn
  Turned : (cpu : ℕ) → Event

-- age: turns of a question; of a change, those that count: in which no other change leads, and every question that was under way at the last that counted has been told
pub data Now : Type 0 where
  Quiet : Now
  Under : Ask → List Piece → (age : ℕ) → Now
  Over : Ask → Answer → (age : ℕ) → Now

pub record State : Type 0 where
  pub table : List Route
  pub now' : ℕ → Now
  -- the questions that a change still waits for: those under way at its last counted turn, and not told since
  pub waits : ℕ → List ℕ
  -- the change that other changes may wait for; at most one
  pub lead : ℕ → Bool

abbrev pub fresh : State
fresh = record { table = []; now' = λ p. Quiet; waits = λ p. []; lead = λ p. false }

abbrev pub set : ℕ → Now → List Route → State → State
set p n t s = record { table = t; now' = λ q. cond (q == p) n (s.now' q); waits = s.waits; lead = s.lead }

unfoldable pub busy : Now → Bool
busy Quiet = false
busy (Under k ps g) = true
busy (Over k a g) = true

unfoldable pub is_question : Now → Bool
is_question Quiet = false
is_question (Under (Find a) ps g) = true
is_question (Under (Change n) ps g) = false
is_question (Over (Find a) r g) = true
is_question (Over (Change n) r g) = false

-- the questions under way
unfoldable pub asking : ℕ → State → List ℕ
asking zero s = []
asking (suc n) s = cond (is_question (s.now' n)) (n ∷ asking n s) (asking n s)

unfoldable pub leader : ℕ → ℕ → State → Bool
leader zero p s = false
leader (suc n) p s = leader n p s || (not (n == p) && s.lead n)

unfoldable pub none : List ℕ → Bool
none [] = true
none (q ∷ qs) = false

-- a change may wait
abbrev pub must_wait : ℕ → ℕ → State → Bool
must_wait n p s = not (none (s.waits p)) || leader n p s

unfoldable pub gone : ℕ → List ℕ → List ℕ
gone p [] = []
gone p (q ∷ qs) = cond (p == q) (gone p qs) (q ∷ gone p qs)

-- a change's turn that counts starts a new wait, for what is under way now
abbrev pub waited : ℕ → ℕ → State → State → State
waited n p s t = record { table = t.table; now' = t.now'; lead = t.lead; waits = λ q. cond (q == p && not (must_wait n p s)) (asking n s) (t.waits q) }

abbrev pub left' : ℕ → State → State
left' p s = record { table = s.table; now' = s.now'; lead = λ q. cond (q == p) false (s.lead q); waits = λ q. gone p (s.waits q) }

abbrev pub led : ℕ → State → State
led p s = record { table = s.table; now' = s.now'; waits = s.waits; lead = λ q. cond (q == p) true (s.lead q) }

unfoldable pub limit : Ask → ℕ
limit (Find a) = 32
limit (Change n) = 32768

unfoldable pub ages : Ask → Bool → Bool
ages (Find a) others = true
ages (Change n) others = not others

unfoldable pub older : Bool → Now → Now
older o Quiet = Quiet
older o (Under k ps g) = Under k ps (cond (ages k o) (g + 1) g)
older o (Over k a g) = Over k a (cond (ages k o) (g + 1) g)

unfoldable pub young : Now → Bool
young Quiet = false
young (Under k ps g) = nat_lt g (limit k)
young (Over k a g) = nat_lt g (limit k)

-- what a change comes to at the moment when it takes effect
unfoldable pub answer_of : After → Answer
answer_of (Table rs) = Done
answer_of (Wrong k) = No k

unfoldable pub table_of : After → List Route → List Route
table_of (Table qs) rs = qs
table_of (Wrong k) rs = rs

-- What may be seen of so many processors and blocks, the latest first.
pub data Run (cpus blocks : ℕ) : List Event → State → Type 0 where
  begin : Run cpus blocks [] fresh
  asks : {es : List Event} {s : State} (p : ℕ) (k : Ask) (ps : List Piece) → Run cpus blocks es s → p < cpus → s.now' p ≡ Quiet → Run cpus blocks (Asked p k ps ∷ es) (set p (Under k ps 0) s.table s)
  -- inside, not seen: the one moment at which it takes effect
  finds : {es : List Event} {s : State} {a g : ℕ} {ps : List Piece} (p : ℕ) → Run cpus blocks es s → s.now' p ≡ Under (Find a) ps g → Run cpus blocks es (set p (Over (Find a) (find a s.table) g) s.table s)
  changes : {es : List Event} {s : State} {n g : ℕ} {ps : List Piece} (p : ℕ) → Run cpus blocks es s → s.now' p ≡ Under (Change n) ps g →
      Run cpus blocks es (set p (Over (Change n) (answer_of (changed ps s.table)) g) (table_of (changed ps s.table) s.table) s)
  full : {es : List Event} {s : State} {n g : ℕ} {ps : List Piece} {qs : List Route} (p : ℕ) → Run cpus blocks es s → s.now' p ≡ Under (Change n) ps g → changed ps s.table ≡ Table qs → T (too_much blocks s.table qs) →
      Run cpus blocks es (set p (Over (Change n) Full g) s.table s)
  -- inside, not seen: a change becomes the one that others may wait for
  leads : {es : List Event} {s : State} {n g : ℕ} {ps : List Piece} (p : ℕ) → Run cpus blocks es s → s.now' p ≡ Under (Change n) ps g → T (not (leader cpus p s)) → Run cpus blocks es (led p s)
  leads_still : {es : List Event} {s : State} {n g : ℕ} {a : Answer} (p : ℕ) → Run cpus blocks es s → s.now' p ≡ Over (Change n) a g → T (not (leader cpus p s)) → Run cpus blocks es (led p s)
  turns : {es : List Event} {s : State} (p : ℕ) → Run cpus blocks es s → T (young (s.now' p)) → Run cpus blocks (Turned p ∷ es) (waited cpus p s (set p (older (must_wait cpus p s) (s.now' p)) s.table s))
  tells : {es : List Event} {s : State} {k : Ask} {a : Answer} {g : ℕ} (p : ℕ) → Run cpus blocks es s → s.now' p ≡ Over k a g → Run cpus blocks (Told p a ∷ es) (left' p (set p Quiet s.table s))

abbrev pub Explained : ℕ → ℕ → List Event → Type 0
Explained cpus blocks es = (s : State) × Run cpus blocks es s

-- does a processor have something under way, by what was seen
unfoldable pub under : ℕ → List Event → Bool
under p [] = false
under p (Asked q k ps ∷ es) = p == q || under p es
under p (Told q a ∷ es) = not (p == q) && under p es
under p (Turned q ∷ es) = under p es
