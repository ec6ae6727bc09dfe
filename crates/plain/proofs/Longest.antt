-- The longest route that fits an address, by the entries: the last of the longest of those that fit.
use Rattle.std.proofs.Common.{◌≡◌, ℕ, ◌+◌, Bool, cond, ◌&&◌, leb, ltb, eqb, List, [], ◌∷◌, map, reverse, filter, fold, refl, ap, ◌∙◌, inl, inr, Option, Some, None, arith}
use Rattle.std.proofs.lemmas.Bool.{cases_Bool, ltb-true, ltb-false, eqb-true, eqb-false, le-leb, lt-leb}
use Rattle.std.proofs.lemmas.Bool.Decides.{nat_tests}
use Rattle.std.proofs.lemmas.List.{reverse-append}
use Rattle.std.proofs.lemmas.List.Sums.{fold_push}
use Rattle.std.specs.List.{reduce}
use Rattle.routes.specs.declared.Answer.{Answer}
use Rattle.routes.specs.declared.Answer.TheVariants.{Found, Nothing}
use Rattle.routes.specs.Routes.{fits, longest, find}
use Rattle.plain.specs.declared.entry.Entry.{Entry}
use Rattle.plain.specs.Entries.{route_of, routes_of}
use Rattle.plain.proofs.Picked.{later}

-- what is told of the best entry so far
abbrev pub found_of : Option Entry → Answer
found_of None = Nothing
found_of (Some e) = Found e.prefix.len e.tells

-- the least length that goes before it
abbrev least_of : Option Entry → ℕ
least_of None = 0
least_of (Some e) = e.prefix.len + 1

-- does an entry fit an address
abbrev pub fits_at : ℕ → Entry → Bool
fits_at a e = fits e.prefix.len e.prefix.bits a

-- an entry that fits and is longer goes before it
abbrev better_of : ℕ → Option Entry → Entry → Option Entry
better_of a best e = cond (fits_at a e && leb (least_of best) e.prefix.len) (Some e) best

-- the longer of two entries, the second where they are equally long
abbrev longer : Entry → Entry → Entry
longer = later (λ e. e.prefix.len)

-- The longest route of a row is the best of its entries, each in turn.
longest_from : (a : ℕ) (best : Option Entry) (es : List Entry) → found_of (fold (better_of a) best es) ≡ longest a (map route_of es) (found_of best) (least_of best)
unfolding longest
longest_from a best [] = refl
longest_from a best (e ∷ es) = elim (cases_Bool (fits_at a e && leb (least_of best) e.prefix.len)) [
  | inl t ↦ rw t (longest_from a (Some e) es)
  | inr f ↦ rw f (longest_from a best es)
]

-- The longer of two, by a test of their lengths.
longer_is : (x y : Entry) → longer x y ≡ cond (leb x.prefix.len y.prefix.len) y x
longer_is x y =
    let m = x.prefix.len in
    let n = y.prefix.len in
    elim (cases_Bool (ltb m n)) [
      | inl t ↦ rw (t, le-leb m n (omega (arith, ltb-true m n t))) refl
      | inr f ↦ elim (cases_Bool (eqb m n)) [
        | inl e ↦ rw (f, e, le-leb m n (omega (arith, eqb-true m n e))) refl
        | inr d ↦ rw (f, d, lt-leb m n (omega (arith, ltb-false m n f, eqb-false m n d))) refl
      ]
    ]

-- Of three, it does not matter which two are compared first.
longer_of_three : (x y z : Entry) → longer (longer x y) z ≡ longer x (longer y z)
longer_of_three x y z = rw (longer_is (longer x y) z, longer_is x y, longer_is x (longer y z), longer_is y z) (grind (arith, nat_tests))

-- The longest of a row is the longer of its first and the longest of the others.
longest_first : (x y : Entry) (es : List Entry) → fold longer x (y ∷ es) ≡ longer x (fold longer y es)
longest_first x y [] = refl
longest_first x y (z ∷ es) = ap (λ w. fold longer w es) (longer_of_three x y z) ∙ longest_first x (longer y z) es

-- One entry more, before the others, goes before their best only if it is longer.
best_more : (a : ℕ) (e : Entry) (es : List Entry) → better_of a (reduce longer es) e ≡ reduce longer (cond (fits_at a e) (e ∷ es) es)
best_more a e [] = elim (cases_Bool (fits_at a e)) [ inl t ↦ rw (t, le-leb 0 e.prefix.len (omega arith)) refl | inr f ↦ rw f refl ]
best_more a e (y ∷ es) = elim (cases_Bool (fits_at a e)) [
  | inl t ↦ rw (t, longest_first e y es, longer_is) (grind (arith, nat_tests))
  | inr f ↦ rw f refl
]

-- From the newest to the oldest, the best is the last of the longest that fit.
best_is : (a : ℕ) (es : List Entry) → fold (better_of a) None (reverse es) ≡ reduce longer (filter (fits_at a) es)
best_is a [] = refl
best_is a (e ∷ es) = rw (reverse-append (e ∷ []) es, fold_push, best_is a es) (best_more a e (filter (fits_at a) es))

-- The last of the longest entries that fit is what is found.
pub longest_found : (a : ℕ) (es : List Entry) → found_of (reduce longer (filter (fits_at a) es)) ≡ find a (routes_of es)
longest_found a es = rw (← best_is a es) (longest_from a None (reverse es))
