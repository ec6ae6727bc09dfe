-- Stores arrive: what stays, in general, and where only one processor has any.
use Rattle.std.proofs.Common.{◌≡◌, ℕ, List, [], ◌∷◌, sym, refl, ◌∙◌, inl, inr}
use mathlib.Core.List.{IsSuffix, suffix_refl, suffix-cons, IsSuffix-trans}
use Rattle.std.proofs.lemmas.Bool.Decides.{eqb_tells}
use Rattle.routes.specs.Memory.{Mem, Store, Arrives, rest, one, oldest, sees}
use Rattle.routes.specs.Late.Rows.{AllRow, OnlyLate}
use Rattle.routes.specs.Late.Steps.{landed}
use Rattle.routes.proofs.Late.Rows.{all_suffix, suffix_none}
use Rattle.routes.proofs.Late.Sees.{sees-landed, sees_untouched}

-- Of an empty row nothing arrives.
pub oldest_none : (q : ℕ) (m : Mem) → m.late q ≡ [] → oldest q (m.late q) m ≡ m
unfolding oldest
oldest_none q m e = rw e refl

-- Of any other its oldest store does.
pub oldest_some : (q : ℕ) (s : Store) (ss : List Store) (m : Mem) → m.late q ≡ s ∷ ss → oldest q (m.late q) m ≡ landed q s ss m
unfolding oldest
oldest_some q s ss m e = rw e refl

-- Arriving may go on.
pub arrives_on : {k m n : Mem} → Arrives k m → Arrives m n → Arrives k n
arrives_on (rest m) b = b
arrives_on (one p a) b = one p (arrives_on a b)

-- Where nothing is late, arriving changes nothing.
pub arrives_none : {m n : Mem} → Arrives m n → ((q : ℕ) → m.late q ≡ []) → n ≡ m
arrives_none (rest m) none = refl
arrives_none (one {m = m} q a) none = let e = oldest_none q m (none q) in arrives_none a (rw e none) ∙ e

-- n is m later: only words have changed, and rows have lost some of their oldest stores
pub record Later (m n : Mem) : Type 0 where
  pub cpus : n.cpus ≡ m.cpus
  pub blocks : n.blocks ≡ m.blocks
  pub held : n.held ≡ m.held
  pub left : n.left ≡ m.left
  pub who : n.who ≡ m.who
  pub rows : (q : ℕ) → IsSuffix (n.late q) (m.late q)

-- It is so at once.
later_same : (m : Mem) → Later m m
later_same m = record { cpus = refl; blocks = refl; held = refl; left = refl; who = refl; rows = λ q. suffix_refl (m.late q) }

-- It is so when one has arrived.
later_oldest : (p : ℕ) (m : Mem) → Later m (oldest p (m.late p) m)
unfolding oldest
later_oldest p m = go (m.late p) refl
  where
    go : (row : List Store) → m.late p ≡ row → Later m (oldest p row m)
    go [] e = later_same m
    go (s ∷ ss) e = record {
      cpus = refl;
      blocks = refl;
      held = refl;
      left = refl;
      who = refl;
      rows = λ q. elim (eqb_tells q p) [
        | inl i ↦ rw (i.0, i.1, e) (suffix-cons s ss)
        | inr i ↦ rw i.0 (suffix_refl (m.late q))
      ];
    }

-- It goes on.
pub later_on : {k m n : Mem} → Later k m → Later m n → Later k n
later_on a b = record {
  cpus = b.cpus ∙ a.cpus;
  blocks = b.blocks ∙ a.blocks;
  held = b.held ∙ a.held;
  left = b.left ∙ a.left;
  who = b.who ∙ a.who;
  rows = λ q. IsSuffix-trans (b.rows q) (a.rows q);
}

-- Arriving is no more than that.
pub arrives_later : {m n : Mem} → Arrives m n → Later m n
arrives_later (rest m) = later_same m
arrives_later (one {m = m} p a) = later_on (later_oldest p m) (arrives_later a)

-- What holds of all stores of a row still does.
pub arrives_all : (P : ℕ → ℕ → ℕ → Type 0) (q : ℕ) {m n : Mem} → Arrives m n → AllRow P (m.late q) → AllRow P (n.late q)
arrives_all P q a = all_suffix P ((arrives_later a).rows q)

-- Who has no late stores gets none.
pub arrives_empty : (q : ℕ) {m n : Mem} → Arrives m n → m.late q ≡ [] → n.late q ≡ []
arrives_empty q {n = n} a e = suffix_none (rw e at ((arrives_later a).rows q))

-- If only h has late stores, only h still does.
pub arrives_only : (h : ℕ) {m n : Mem} → Arrives m n → OnlyLate h m → OnlyLate h n
arrives_only h a only q ne = arrives_empty q a (only q ne)

-- If only h has late stores, then what each arrival of its oldest keeps is kept by arriving.
pub arrives_keep : (h : ℕ) (P : Mem → Type 0) → ((m : Mem) (s : Store) (ss : List Store) → OnlyLate h m → m.late h ≡ s ∷ ss → P m → P (landed h s ss m)) →
    {m n : Mem} → Arrives m n → OnlyLate h m → P m → P n
unfolding oldest
arrives_keep h P keep (rest m) only here = here
arrives_keep h P keep (one {m = m} q a) only here = elim (eqb_tells q h) [
  | inl e ↦ arrives_keep h P keep a (arrives_only h (one q (rest _)) only) (rw e.1 (own (m.late h) refl))
  | inr e ↦ (let z = oldest_none q m (only q e.1) in arrives_keep h P keep a (rw z only) (rw z here))
]
  where
    own : (row : List Store) → m.late h ≡ row → P (oldest h row m)
    own [] e = here
    own (s ∷ ss) e = keep m s ss only e here

-- So h sees the same before and after.
pub arrives_sees : (h b w : ℕ) {m n : Mem} → Arrives m n → OnlyLate h m → sees h b w n ≡ sees h b w m
arrives_sees h b w {m = m} a only = arrives_keep h (λ k. sees h b w k ≡ sees h b w m) (λ k s ss o e same. sees-landed h b w s ss k e ∙ same) a only refl

-- A word to which none of h's late stores goes does not change.
pub arrives_untouched : (P : ℕ → ℕ → ℕ → Type 0) (h b w : ℕ) → ((x : ℕ) → P b w x → ⊥) → {m n : Mem} → Arrives m n → OnlyLate h m → AllRow P (m.late h) → n.val b w ≡ m.val b w
arrives_untouched P h b w never {m} {n} a only all =
    sym (sees_untouched P h b w n never (arrives_all P h a all)) ∙ (arrives_sees h b w a only ∙ sees_untouched P h b w m never all)
