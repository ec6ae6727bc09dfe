-- What is found is the longest route that fits, and nothing only if none does.
use Rattle.std.proofs.Common.{◌≡◌, ℕ, suc, ◌+◌, ◌<◌, ◌≤◌, Bool, true, false, ◌&&◌, T, leb, ◌⊎◌, List, [], ◌∷◌, refl, inl, inr, arith}
use mathlib.Core.List.Memᴰ
use mathlib.Core.List.{Memᴰ}
use Rattle.std.proofs.lemmas.Bool.Decides.{nat_tests}
use Rattle.std.proofs.lemmas.Bool.{cases_Bool, and_parts, and_cases, leb-true}
use Rattle.routes.specs.declared.Answer.{Answer}
use Rattle.routes.specs.declared.Answer.TheVariants.{Found, Nothing}
use Rattle.routes.specs.Routes.{Route, fits, longest, find}
use Rattle.routes.specs.Promise.{FindsLongest}
use Rattle.routes.proofs.Basics.Tests.{T_true}

-- does a route fit an address
abbrev pub fitting : ℕ → Route → Bool
fitting a r = fits r.len r.bits a

-- every route that fits is shorter than n
abbrev pub AllBelow : ℕ → List Route → ℕ → Type 0
AllBelow a rs n = (q : Route) → Memᴰ q rs → fitting a q ≡ true → q.len < n

-- a route of the list, of length n at least, that fits, is told, and has none longer beside it
pub record Best (a : ℕ) (rs : List Route) (n : ℕ) (told : Answer) : Type 0 where
  pub route : Route
  pub member : Memᴰ route rs
  pub is : told ≡ Found route.len route.tells
  pub fit : fitting a route ≡ true
  pub least : n ≤ route.len
  pub most : AllBelow a rs (suc route.len)

-- One more route keeps the bound if it keeps it itself.
all_cons : (a : ℕ) (r : Route) (rs : List Route) (n : ℕ) → (fitting a r ≡ true → r.len < n) → AllBelow a rs n → AllBelow a (r ∷ rs) n
all_cons a r rs n here there q m f = elim (Memᴰ.cases_cons m) [
  | inl e ↦ rw e (here (rw (← e) f))
  | inr k ↦ there q k f
]

-- A larger bound holds too.
all_more : (a : ℕ) (rs : List Route) (n m : ℕ) → n ≤ m → AllBelow a rs n → AllBelow a rs m
all_more a rs n m le h q k f = omega (arith, h q k f)

-- `longest` stays at what was best, with nothing of length n or more that fits, or it is a best route of the list
abbrev Outcome : ℕ → List Route → Answer → ℕ → Type 0
Outcome a rs best n = ((longest a rs best n ≡ best) × AllBelow a rs n) ⊎ Best a rs n (longest a rs best n)

-- One of the two is always so.
pub outcome : (a : ℕ) (rs : List Route) (best : Answer) (n : ℕ) → Outcome a rs best n
unfolding longest
outcome a [] best n = inl (refl, λ q m f. absurd (Memᴰ.not-nil m))
outcome a (r ∷ rs) best n = elim (cases_Bool (fitting a r && leb n r.len)) [
  | inl e ↦ rw e (taken (and_parts _ _ e) (outcome a rs (Found r.len r.tells) (r.len + 1)))
  | inr e ↦ rw e (passed (and_cases _ _ e) (outcome a rs best n))
]
  where
    taken : (fitting a r ≡ true) × (leb n r.len ≡ true) → Outcome a rs (Found r.len r.tells) (r.len + 1) →
        ((longest a rs (Found r.len r.tells) (r.len + 1) ≡ best) × AllBelow a (r ∷ rs) n) ⊎ Best a (r ∷ rs) n (longest a rs (Found r.len r.tells) (r.len + 1))
    taken t (inl o) = inr (record {
      route = r;
      member = Memᴰ.head refl;
      is = o.0;
      fit = t.0;
      least = leb-true _ _ t.1;
      most = all_cons a r rs _ (λ _. omega arith) (all_more a rs _ _ (omega arith) o.1);
    })
    taken t (inr o) = inr (record {
      route = o.route;
      member = Memᴰ.tail o.member;
      is = o.is;
      fit = o.fit;
      least = omega (arith, leb-true, o.least);
      most = all_cons a r rs _ (λ _. omega (arith, o.least)) o.most;
    })

    passed : (fitting a r ≡ false) ⊎ (leb n r.len ≡ false) → Outcome a rs best n →
        ((longest a rs best n ≡ best) × AllBelow a (r ∷ rs) n) ⊎ Best a (r ∷ rs) n (longest a rs best n)
    passed t (inl o) = inl (o.0, all_cons a r rs _ (λ f. grind (arith, nat_tests)) o.1)
    passed t (inr o) = inr (record {
      route = o.route;
      member = Memᴰ.tail o.member;
      is = o.is;
      fit = o.fit;
      least = o.least;
      most = all_cons a r rs _ (λ f. grind (arith, nat_tests)) o.most;
    })

-- So `find` finds the longest.
pub finds_longest_lem : FindsLongest
finds_longest_lem a rs = (some, nothing)
  where
    some : (n t : ℕ) → find a rs ≡ Found n t → (r : Route) × Memᴰ r rs × (r.len ≡ n) × (r.tells ≡ t) × T (fitting a r) × ((q : Route) → Memᴰ q rs → T (fitting a q) → q.len ≤ n)
    some n t e = elim (outcome a rs Nothing 0) [
      | inl o ↦ (let z : ◌≡◌ {A = ℕ} 0 1 = cc in absurd (omega arith))
      | inr b ↦ let l : b.route.len ≡ n = cc in (b.route, b.member, l, (cc), rw b.fit tt, λ q m f. omega (arith, b.most q m (T_true _ f)))
    ]

    nothing : find a rs ≡ Nothing → (q : Route) → Memᴰ q rs → fitting a q ≡ false
    nothing e q m = elim (outcome a rs Nothing 0) [
      | inl o ↦ elim (cases_Bool (fitting a q)) [ inl f ↦ absurd (omega (arith, o.1 q m f)) | inr f ↦ f ]
      | inr b ↦ cc b.is
    ]
