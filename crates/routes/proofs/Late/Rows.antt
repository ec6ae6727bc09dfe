-- What holds of each store of a row.
use Rattle.std.proofs.Common.{◌≡◌, ℕ, true, cond, ◌&&◌, eqb, List, [], ◌∷◌, ◌++◌, sym, refl, subst, arith}
use mathlib.Core.List.{IsSuffix}
use Rattle.std.proofs.lemmas.Bool.Decides.{nat_tests}
use Rattle.std.proofs.lemmas.Bool.{and_parts, ne_eqb, not-true, eqb-false}
use Rattle.routes.specs.Memory.{Store, none_to, last_late}
use Rattle.routes.specs.Late.Rows.{AllRow, store_of}

-- What follows from P holds of each store if P does.
pub all_weaker : (P Q : ℕ → ℕ → ℕ → Type 0) → ((b w x : ℕ) → P b w x → Q b w x) → (ss : List Store) → AllRow P ss → AllRow Q ss
unfolding AllRow
all_weaker P Q f [] a = tt
all_weaker P Q f (s ∷ ss) a = (f s.block s.word s.x a.0, all_weaker P Q f ss a.1)

-- One more store at the end.
pub all_end : (P : ℕ → ℕ → ℕ → Type 0) (ss : List Store) (b w x : ℕ) → AllRow P ss → P b w x → AllRow P (ss ++ (store_of b w x ∷ []))
unfolding AllRow
all_end P [] b w x a e = (e, tt)
all_end P (s ∷ ss) b w x a e = (a.0, all_end P ss b w x a.1 e)

-- What is behind some older stores.
all_behind : (P : ℕ → ℕ → ℕ → Type 0) (front ss : List Store) → AllRow P (front ++ ss) → AllRow P ss
unfolding AllRow
all_behind P [] ss a = a
all_behind P (s ∷ front) ss a = all_behind P front ss a.1

-- When the oldest have arrived, it holds of those that are left.
pub all_suffix : (P : ℕ → ℕ → ℕ → Type 0) {ss row : List Store} → IsSuffix ss row → AllRow P row → AllRow P ss
all_suffix P {ss} i a = all_behind P i.0 ss (subst (AllRow P) (sym i.1) a)

-- Nothing is left of an empty row.
pub suffix_none : {ss : List Store} → IsSuffix ss [] → ss ≡ []
suffix_none {ss} i = go i.0 i.1
  where
    go : (front : List Store) → front ++ ss ≡ [] → ss ≡ []
    go [] e = e
    go (s ∷ front) e = cc

-- No store of a row goes to block b if P never holds there.
pub none_to_lem : (P : ℕ → ℕ → ℕ → Type 0) (b : ℕ) → ((w x : ℕ) → P b w x → ⊥) → (ss : List Store) → AllRow P ss → none_to b ss ≡ true
unfolding AllRow none_to
none_to_lem P b never [] a = refl
none_to_lem P b never (s ∷ ss) a = rw (ne_eqb b s.block (λ e. never s.word s.x (subst (λ c. P c s.word s.x) (sym e) a.0))) (none_to_lem P b never ss a.1)

-- And back: then each store goes to another block.
pub to_others : (b : ℕ) (ss : List Store) → none_to b ss ≡ true → AllRow (λ c w x. b ≡ c → ⊥) ss
unfolding AllRow none_to
to_others b [] e = tt
to_others b (s ∷ ss) e = let h = and_parts _ _ e in (eqb-false b s.block (not-true _ h.0), to_others b ss h.1)

-- A word to which no store goes is seen as it was.
pub last_untouched : (P : ℕ → ℕ → ℕ → Type 0) (b w : ℕ) → ((x : ℕ) → P b w x → ⊥) → (ss : List Store) (old : ℕ) → AllRow P ss → last_late b w ss old ≡ old
unfolding AllRow last_late
last_untouched P b w never [] old a = refl
last_untouched P b w never (s ∷ ss) old a =
    let other : (b ≡ s.block) × (w ≡ s.word) → ⊥ = λ e. never s.x (subst (λ c. P c w s.x) (sym e.0) (subst (λ v. P s.block v s.x) (sym e.1) a.0)) in
    let here : cond (eqb b s.block && eqb w s.word) s.x old ≡ old = grind (arith, nat_tests) in
    rw here (last_untouched P b w never ss old a.1)
