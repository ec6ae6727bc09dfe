-- What is looked up in a table, and what a piece does to it.
use Rattle.std.proofs.Common.{◌≡◌, ℕ, ◌-◌, ◌%◌, ◌^◌, cond, not, ◌&&◌, eqb, ◌⊎◌, List, [], ◌∷◌, refl, ap, ◌∙◌, inl, inr, arith}
use mathlib.Core.List.Memᴰ
use mathlib.Core.List.{Memᴰ}
use Rattle.std.proofs.lemmas.Bool.Decides.{nat_tests as tests}
use Rattle.std.proofs.lemmas.Bool.{cases_Bool}
use Rattle.words.specs.Slots.{route_word}
use Rattle.routes.specs.Routes.{Route, without, has}
use Rattle.routes.specs.Table.Tables.{Fine, Small}
use Rattle.routes.specs.Table.Lookups.{lookup}
use Rattle.routes.specs.Table.Laws.{PieceLookups}
use Rattle.routes.proofs.Table.Pieces.{piece_table}

-- Taking out leaves nothing to look up there, and all else.
pub lookup-without : (l b m c : ℕ) (rs : List Route) → lookup l b (without m c rs) ≡ cond (eqb l m && eqb b c) 0 (lookup l b rs)
unfolding lookup without
lookup-without l b m c [] = grind (arith, tests)
lookup-without l b m c (r ∷ rs) = let ih = lookup-without l b m c rs in grind (arith, tests)

-- A route is there if its word is not 0.
pub has-lookup : (l b : ℕ) (rs : List Route) → has l b rs ≡ not (eqb (lookup l b rs) 0)
unfolding lookup has route_word
has-lookup l b [] = refl
has-lookup l b (r ∷ rs) = let ih = has-lookup l b rs in grind (arith, tests)

-- A piece changes the lookup of its own length and bits, and no other.
pub piece-lookup : PieceLookups
unfolding lookup
piece-lookup p rs qs e l b =
    let w = lookup-without l b p.len p.bits rs in
    let c = piece_table p rs qs e in
    grind arith

-- What is looked up is a route of the table.
pub lookup_in : (l b : ℕ) (rs : List Route) → (lookup l b rs ≡ 0) ⊎ ((r : Route) × Memᴰ r rs × (r.len ≡ l) × (r.bits ≡ b) × (lookup l b rs ≡ route_word r.tells))
unfolding lookup
lookup_in l b [] = inl refl
lookup_in l b (r ∷ rs) = elim (cases_Bool (eqb l r.len && eqb b r.bits)) [
  | inl e ↦ inr (r, Memᴰ.head refl, grind (arith, tests), grind (arith, tests), rw e refl)
  | inr e ↦ rw e (elim (lookup_in l b rs) [ inl z ↦ inl z | inr i ↦ inr (i.0, Memᴰ.tail i.1, i.2, i.3, i.4) ])
]

-- A route of the table is looked up.
pub lookup-there : (rs : List Route) (q : Route) → Memᴰ q rs → lookup q.len q.bits rs ≡ 0 → ⊥
unfolding lookup route_word
lookup-there [] q m z = absurd (Memᴰ.not-nil m)
lookup-there (r ∷ rs) q m z = elim (Memᴰ.cases_cons m) [
  | inl e ↦ (let x : q.len ≡ r.len = cc in let y : q.bits ≡ r.bits = cc in grind (arith, tests))
  | inr k ↦ (let ih : lookup q.len q.bits rs ≡ 0 → ⊥ = lookup-there rs q k in grind (arith, tests))
]

-- Where there is one route for a length and its bits, it is the one that is looked up.
pub lookup_is : (rs : List Route) → Fine rs → (q : Route) → Memᴰ q rs → lookup q.len q.bits rs ≡ route_word q.tells
lookup_is rs f q m = elim (lookup_in q.len q.bits rs) [
  | inl z ↦ absurd (lookup-there rs q m z)
  | inr i ↦ (let e : i.0 ≡ q = f.alone i.0 q i.1 m i.2 i.3 in i.4 ∙ ap (λ r. route_word r.tells) e)
]

-- The low 32 bits of a route word are what is told.
pub lookup-low : (l b : ℕ) (rs : List Route) → Small rs → lookup l b rs % 2 ^ 32 ≡ lookup l b rs - 2 ^ 32
unfolding route_word
lookup-low l b rs s = elim (lookup_in l b rs) [
  | inl z ↦ rw z
  | inr i ↦ (let h = s i.0 i.1 in let e = i.4 in omega arith)
]
