-- What is under way: of which kind, how old, and what a turn makes of it.
use Rattle.std.proofs.Common.{◌≡◌, ℕ, ◌+◌, Bool, true, false, cond, not, ◌&&◌, ◌||◌, ltb, List, sym, refl, ap, ◌∙◌, arith}
use Rattle.routes.specs.declared.Ask.{Ask}
use Rattle.routes.specs.declared.Ask.TheVariants.{Find, Change}
use Rattle.routes.specs.declared.Answer.{Answer}
use Rattle.routes.specs.declared.Piece.{Piece}
use Rattle.routes.specs.Routes.{Now, Quiet, Under, Over, busy, is_question, older, ages, young, limit}
use Rattle.routes.specs.Run.Nows.{is_change, age_of, limit_of}

-- What is under way is a question or a change.
pub busy_is : (n : Now) → busy n ≡ (is_question n || is_change n)
unfolding busy is_question is_change
busy_is Quiet = refl
busy_is (Under (Find a) ps g) = refl
busy_is (Under (Change n) ps g) = refl
busy_is (Over (Find a) r g) = refl
busy_is (Over (Change n) r g) = refl

-- No change is a question.
pub change_asks : (n : Now) → is_change n ≡ true → is_question n ≡ false
unfolding is_question is_change
change_asks Quiet e = refl
change_asks (Under (Find a) ps g) e = sym e
change_asks (Under (Change n) ps g) e = refl
change_asks (Over (Find a) r g) e = sym e
change_asks (Over (Change n) r g) e = refl

-- Nothing under way is Quiet.
pub quiet_is : (n : Now) → busy n ≡ false → n ≡ Quiet
unfolding busy
quiet_is Quiet e = refl
quiet_is (Under k ps g) e = cc
quiet_is (Over k r g) e = cc

-- Young is younger than it may be.
pub young_is : (n : Now) → young n ≡ ltb (age_of n) (limit_of n)
unfolding young age_of limit_of
young_is Quiet = refl
young_is (Under k ps g) = refl
young_is (Over k r g) = refl

-- A question may have 32 turns.
pub question_limit : (n : Now) → is_question n ≡ true → limit_of n ≡ 32
unfolding is_question limit_of limit
question_limit Quiet e = cc
question_limit (Under (Find a) ps g) e = refl
question_limit (Under (Change n) ps g) e = cc
question_limit (Over (Find a) r g) e = refl
question_limit (Over (Change n) r g) e = cc

-- A change may have 32,768 that count.
pub change_limit : (n : Now) → is_change n ≡ true → limit_of n ≡ 32768
unfolding is_change limit_of limit
change_limit Quiet e = cc
change_limit (Under (Find a) ps g) e = cc
change_limit (Under (Change n) ps g) e = refl
change_limit (Over (Find a) r g) e = cc
change_limit (Over (Change n) r g) e = refl

-- both are a question, or both a change, or neither
pub record SameKind (n k : Now) : Type 0 where
  pub question : is_question k ≡ is_question n
  pub change : is_change k ≡ is_change n
  pub limits : limit_of k ≡ limit_of n

-- It is of its own kind.
pub kind_same : (n : Now) → SameKind n n
kind_same n = record { question = refl; change = refl; limits = refl }

-- What has taken effect is of the kind that it was.
pub kind_settled : (k : Ask) (ps : List Piece) (g : ℕ) (a : Answer) → SameKind (Under k ps g) (Over k a g)
unfolding is_question is_change limit_of
kind_settled (Find x) ps g a = record { question = refl; change = refl; limits = refl }
kind_settled (Change n) ps g a = record { question = refl; change = refl; limits = refl }

-- So is what has grown older.
pub kind_older : (o : Bool) (n : Now) → SameKind n (older o n)
unfolding is_question is_change limit_of older
kind_older o Quiet = record { question = refl; change = refl; limits = refl }
kind_older o (Under (Find a) ps g) = record { question = refl; change = refl; limits = refl }
kind_older o (Under (Change n) ps g) = record { question = refl; change = refl; limits = refl }
kind_older o (Over (Find a) r g) = record { question = refl; change = refl; limits = refl }
kind_older o (Over (Change n) r g) = record { question = refl; change = refl; limits = refl }

-- Of one kind, both are under way or neither.
pub kind_busy : {n k : Now} → SameKind n k → busy k ≡ busy n
kind_busy {n} {k} e = busy_is k ∙ (ap (λ b. b || is_change k) e.question ∙ (ap (λ b. is_question n || b) e.change ∙ sym (busy_is n)))

-- A turn makes a question older by one, and a change if it need not wait.
pub older_age : (o : Bool) (n : Now) → age_of (older o n) ≡ age_of n + cond (is_question n || (is_change n && not o)) 1 0
unfolding is_question is_change age_of older ages
older_age o Quiet = refl
older_age o (Under (Find a) ps g) = refl
older_age true (Under (Change n) ps g) = omega arith
older_age false (Under (Change n) ps g) = refl
older_age o (Over (Find a) r g) = refl
older_age true (Over (Change n) r g) = omega arith
older_age false (Over (Change n) r g) = refl
