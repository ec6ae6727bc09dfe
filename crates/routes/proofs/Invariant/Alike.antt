-- States of a run that differ only in what one processor has under way.
use Rattle.std.proofs.Common.{◌≡◌, ℕ, ◌+◌, Bool, true, cond, not, T, List, refl, ap}
use Rattle.routes.specs.declared.Answer.{Answer}
use Rattle.routes.specs.declared.Answer.TheVariants.{Done}
use Rattle.routes.specs.declared.Ask.{Ask}
use Rattle.routes.specs.declared.Ask.TheVariants.{Change}
use Rattle.routes.specs.declared.Piece.{Piece}
use Rattle.routes.specs.Routes.{Now, Under, Over, State, older, ages, young, limit, led}
use Rattle.routes.specs.Run.Nows.{age_of, limit_of}
use Rattle.routes.specs.Run.Steps.{settled_at, turned_at, told_at}
use Rattle.routes.specs.Invariant.Readers.{Awaits, Settled}
use Rattle.routes.proofs.Basics.Places.{set_at_miss}
use Rattle.routes.proofs.Run.Nows.{SameKind, kind_same}
use Rattle.routes.proofs.Run.Steps.{now_other, settled_kind, settled_age}

-- s' is s but for what p has under way, which is of the same kind and age
pub record Alike (p : ℕ) (s s' : State) : Type 0 where
  pub table : s'.table ≡ s.table
  pub lead : s'.lead ≡ s.lead
  pub waits : s'.waits ≡ s.waits
  pub nows : (q : ℕ) → (q ≡ p → ⊥) → s'.now' q ≡ s.now' q
  pub kind : SameKind (s.now' p) (s'.now' p)
  pub age : age_of (s'.now' p) ≡ age_of (s.now' p)

-- A state is like itself.
pub alike_same : (p : ℕ) (s : State) → Alike p s s
alike_same p s = record { table = refl; lead = refl; waits = refl; nows = λ q ne. refl; kind = kind_same (s.now' p); age = refl }

-- What takes effect and leaves the table leaves a state alike.
pub alike_settled : (p : ℕ) (k : Ask) (ps : List Piece) (a : Answer) (age : ℕ) (s : State) → s.now' p ≡ Under k ps age → Alike p s (settled_at p k a age s.table s)
alike_settled p k ps a age s e = record { table = refl; lead = refl; waits = refl; nows = λ q ne. now_other p q _ s.table s ne; kind = settled_kind p p k ps a age s.table s e; age = settled_age p p k ps a age s.table s e }

-- s' is s after steps of p that are not seen: p may have begun to lead, and what it has under way may have taken effect
pub record Hidden (p : ℕ) (s s' : State) : Type 0 where
  pub lead : (q : ℕ) → (q ≡ p → ⊥) → s'.lead q ≡ s.lead q
  pub waits : s'.waits ≡ s.waits
  pub nows : (q : ℕ) → (q ≡ p → ⊥) → s'.now' q ≡ s.now' q
  pub kind : SameKind (s.now' p) (s'.now' p)
  pub age : age_of (s'.now' p) ≡ age_of (s.now' p)

-- States that are alike differ by such steps.
pub alike_hidden : {p : ℕ} {s s' : State} → Alike p s s' → Hidden p s s'
alike_hidden a = record { lead = λ q ne. ap (λ f. f q) a.lead; waits = a.waits; nows = a.nows; kind = a.kind; age = a.age }

-- To begin to lead is one.
pub hidden_led : (p : ℕ) (s : State) → Hidden p s (led p s)
hidden_led p s = record { lead = λ q ne. set_at_miss p q true s.lead ne; waits = refl; nows = λ q ne. refl; kind = kind_same (s.now' p); age = refl }

-- a turn of p is counted, and p may have told its answer
pub data Ends (cpus p : ℕ) (s : State) : State → Type 0 where
  on : Ends cpus p s (turned_at cpus p s)
  told : Ends cpus p s (told_at p (turned_at cpus p s))

-- what is under way stays, or a change takes effect
pub data Passes : Now → Now → Type 0 where
  same : {n : Now} → Passes n n
  over : {size age : ℕ} {ps : List Piece} → Passes (Under (Change size) ps age) (Over (Change size) Done age)

-- One after the other.
pub passes_on : {a b c : Now} → Passes a b → Passes b c → Passes a c
passes_on same q = q
passes_on over same = over

-- What is young stays so.
pub young_passes : {a b : Now} → Passes a b → T (young a) → T (young b)
unfolding young limit
young_passes same y = y
young_passes over y = y

-- Ages and kinds stay.
pub passes_age : {a b : Now} → Passes a b → (age_of b ≡ age_of a) × (limit_of b ≡ limit_of a)
unfolding age_of limit_of limit
passes_age same = (refl, refl)
passes_age over = (refl, refl)

-- what is said of a change before is said of it after
pub record Saying (n n' : Now) : Type 0 where
  pub awaits : (ps : List Piece) → Awaits ps n → Awaits ps n'
  pub settled : (a : Answer) → Settled a n → Settled a n'

-- To grow older changes nothing of what is said of a change.
pub saying_older : (o : Bool) (n : Now) → Saying n (older o n)
unfolding older ages
saying_older o n = record {
  awaits = λ ps e. (e.0, cond (not o) (e.1 + 1) e.1, rw e.2 refl);
  settled = λ a e. (e.0, cond (not o) (e.1 + 1) e.1, rw e.2 refl);
}
