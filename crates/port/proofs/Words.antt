-- Registers that were written to words are read from them.
use Rattle.std.proofs.Common.{◌≡◌, ℕ, ◌%◌, ◌<◌, true, List, [], ◌∷◌, Some, arith}
use Rattle.std.proofs.lemmas.Bool.Decides.{nat_tests}
use Rattle.routes.specs.declared.update.job.Job.{Job}
use Rattle.port.specs.declared.fields.Registers.{Registers}
use Rattle.port.specs.Registers.{narrow, low, best_in, fields_in, registers_of}

-- each number is one that its type holds
pub record Fit (r : Registers) : Type 0 where
  pub phase : r.phase < 4294967296
  pub state : r.fields.state < 4294967296
  pub size : r.job.size < 4294967296
  pub need : r.job.need < 4294967296
  pub got : r.job.got < 4294967296
  pub used : r.job.used < 4294967296
  pub retired : r.job.retired < 4294967296
  pub root : r.job.root < 4294967296
  pub epoch : r.fields.epoch < 18446744073709551616
  pub index : r.fields.index < 4294967296
  pub node : r.fields.node < 4294967296
  pub next : r.fields.next < 4294967296
  pub level : r.fields.level < 256
  pub word : r.fields.word < 4294967296
  pub first : r.fields.first < 4294967296

abbrev pub written : Registers → ℕ → List ℕ
written r best =
    r.phase ∷ r.fields.state ∷ r.job.size ∷ r.job.need ∷ r.job.got ∷ r.job.used ∷ r.job.retired ∷ r.job.root ∷ r.fields.epoch ∷
    r.fields.index ∷ r.fields.node ∷ r.fields.next ∷ r.fields.level ∷ r.fields.word ∷ r.fields.first ∷ best ∷ []

-- Then no word is more than it can be.
all_narrow : (r : Registers) (best : ℕ) → Fit r → best < 281474976710656 → narrow (written r best) ≡ true
all_narrow r best f h = grind (arith, nat_tests)

low_is : (x : ℕ) → x < 4294967296 → low x ≡ x
low_is x h = omega arith

same_job : (j : Job) → j.size < 4294967296 → j.need < 4294967296 → j.got < 4294967296 → j.used < 4294967296 → j.retired < 4294967296 → j.root < 4294967296 →
    ◌≡◌ {A = Job} (record { size = low j.size; need = low j.need; got = low j.got; used = low j.used; retired = low j.retired; root = low j.root }) j
same_job j a b c d e f =
    λ i. record { size = low_is j.size a i; need = low_is j.need b i; got = low_is j.got c i; used = low_is j.used d i; retired = low_is j.retired e i; root = low_is j.root f i }

same_fields : (r : Registers) (best : ℕ) → Fit r → best_in best ≡ r.fields.best → fields_in (written r best) ≡ r.fields
same_fields r best f e =
    let s = r.fields in
    let level : s.level % 256 ≡ s.level = omega arith in
    λ i. record {
      state = low_is s.state f.state i;
      epoch = s.epoch;
      index = low_is s.index f.index i;
      node = low_is s.node f.node i;
      next = low_is s.next f.next i;
      level = level i;
      word = low_is s.word f.word i;
      first = low_is s.first f.first i;
      best = e i;
    }

-- What is read is what was written.
pub reads : (r : Registers) (best : ℕ) → Fit r → best < 281474976710656 → best_in best ≡ r.fields.best → registers_of (written r best) ≡ Some r
reads r best f h e =
    let job = same_job r.job f.size f.need f.got f.used f.retired f.root in
    let fields = same_fields r best f e in
    let phase = low_is r.phase f.phase in
    rw (all_narrow r best f h) (λ i. Some (record { phase = phase i; job = job i; fields = fields i }))
