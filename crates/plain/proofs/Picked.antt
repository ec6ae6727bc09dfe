-- What `max_by_key` picks of a chain: the last item of those with the greatest key.
use Rattle.std.proofs.Common.{◌≡◌, ℕ, List, [], ◌∷◌, map, fold, sym, ap, ◌∙◌, subst, refl, Option, Some, None, Ordering, Less, Equal, Greater}
use Rattle.std.proofs.lemmas.Iterator.{YieldsList, items_from_drains}
use Rattle.std.specs.Fn.{CalledAt}
use Rattle.std.specs.Iterator.{KeyTurn, PicksMaxByKey}
use Rattle.std.specs.List.{FoldsTo, reduce}
use Rattle.std.specs.Option.{option_map}
use Rattle.std.specs.Ordering.{nat_cmp, max_by_ordering}
use denote.Param.Members.{Mut}
use denote.Ref.{Bor}

-- of two items the later one, unless its key is less
abbrev pub later : {B : Type 0} → (B → ℕ) → B → B → B
later key a b = max_by_ordering (nat_cmp (key a) (key b)) a b

module _ {A B : Type 0} (v : A → B) where
  -- What is seen of the item that an order picks is picked of what is seen.
  seen_pick : (o : Ordering) (a b : A) → v (max_by_ordering o a b) ≡ max_by_ordering o (v a) (v b)
  seen_pick Less a b = refl
  seen_pick Equal a b = refl
  seen_pick Greater a b = refl

module _ {A B F : Type 0} (v : A → B) (key : B → ℕ) (g : Mut F (Bor A × Unit {0}) ℕ) (f : F) (keyed : (x : A) (k : ℕ) (q : F) → CalledAt g f x k q → (q ≡ f) × (k ≡ key (v x))) where
  -- Turns of `max_by_key` fold what is seen of the items.
  turns : (xs : List A) (p q : (F × ℕ) × A) → p.0.0 ≡ f → p.0.1 ≡ key (v p.1) → FoldsTo {P = (F × ℕ) × A} (KeyTurn max_by_ordering max_by_ordering g nat_cmp) p xs q → v q.1 ≡ fold (later key) (v p.1) (map v xs)
  turns [] p q same kept h = ap (λ z. v z.1) (sym h)
  turns (x ∷ xs) p q same kept h =
      let called = keyed x h.1.0 h.0.0.0 (subst (λ w. CalledAt g w x h.1.0 h.0.0.0) same h.1.2) in
      let order : nat_cmp (key (v p.1)) (key (v x)) ≡ h.1.1 = rw (← kept, ← called.1) h.1.3 in
      let next : v h.0.1 ≡ later key (v p.1) (v x) = ap v h.1.5 ∙ seen_pick v h.1.1 p.1 x ∙ ap (λ o. max_by_ordering o (v p.1) (v x)) (sym order) in
      let keeps : h.0.0.1 ≡ key (v h.0.1) = h.1.4 ∙ (λ i. max_by_ordering h.1.1 (kept i) (called.1 i)) ∙ sym (seen_pick (λ z. key (v z)) h.1.1 p.1 x) ∙ sym (ap (λ z. key (v z)) h.1.5) in
      turns xs h.0 q called.0 keeps h.2 ∙ ap (λ b. fold (later key) b (map v xs)) next

  -- What is seen of the item that it picks.
  picks : {S : Type 0} {steps : S → Option A → S → Type 0} {s : S} {all : List B} (r : Option A) → PicksMaxByKey steps g nat_cmp s f r → YieldsList steps v s all → option_map v r ≡ reduce (later key) all
  picks None h e = ap (reduce (later key)) (items_from_drains [] (h.1.0, h.1.1, λ _. (h.0, h.1.2)) e)
  picks (Some y) h e =
      let first = keyed h.0 h.2 h.3 h.6 in
      ap Some (turns h.1 ((h.3, h.2), h.0) (h.4, y) first.0 first.1 h.7)
      ∙ ap (reduce (later key)) (items_from_drains (h.0 ∷ h.1) (h.5.1.0, h.5.1.1, λ _. (h.5.0, h.5.1.2)) e)

-- The result of `max_by_key`, by its clause `ran`, the chain proof, and what the closure computes.
pub max_by_key_from_yields_List : {S A B F : Type 0} {steps : S → Option A → S → Type 0} {v : A → B} {s : S} {all : List B} {g : Mut F (Bor A × Unit {0}) ℕ} {f : F} (key : B → ℕ) (r : Option A) →
    PicksMaxByKey steps g nat_cmp s f r → YieldsList steps v s all → ((x : A) (k : ℕ) (q : F) → CalledAt g f x k q → (q ≡ f) × (k ≡ key (v x))) → option_map v r ≡ reduce (later key) all
max_by_key_from_yields_List {v = v} {g = g} {f = f} key r h e k = picks v key g f k r h e
