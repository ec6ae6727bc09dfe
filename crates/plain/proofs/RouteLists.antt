-- The routes of a row of entries: which are left without a prefix, and whether one has it.
use Rattle.std.proofs.Common.{◌≡◌, not, eqb, ◌&&◌, Bool, List, [], ◌∷◌, map, reverse, filter, refl, ap, ◌∙◌, sym, inl, inr, append-nil}
use Rattle.std.specs.List.{list_any}
use Rattle.std.proofs.lemmas.Bool.{cases_Bool}
use Rattle.std.proofs.lemmas.List.{reverse-append}
use Rattle.std.proofs.lemmas.List.Elements.{filter-append}
use Rattle.std.proofs.lemmas.List.Sorted.{IsPermutation-reverse, list_any-IsPermutation}
use Rattle.routes.specs.declared.prefix.Prefix.{Prefix}
use Rattle.routes.specs.Routes.{has, without}
use Rattle.plain.specs.declared.entry.Entry.{Entry}
use Rattle.plain.specs.Entries.{route_of, routes_of}

-- is it the route of that prefix
abbrev pub has_prefix : Prefix → Entry → Bool
has_prefix p e = eqb p.len e.prefix.len && eqb p.bits e.prefix.bits

-- A filter of a row, read from its end.
reverse-filter : (test : Entry → Bool) (es : List Entry) → reverse (filter test es) ≡ filter test (reverse es)
reverse-filter test [] = refl
reverse-filter test (e ∷ es) =
    let ih = reverse-filter test es in
    rw (reverse-append (e ∷ []) es, filter-append) (elim (cases_Bool (test e)) [
      | inl t ↦ rw (t, reverse-append (e ∷ []), ih) refl
      | inr f ↦ rw (f, ih) (sym (append-nil (filter test (reverse es))))
    ])

-- The routes of the entries of other prefixes, in the order of the row.
filtered_routes : (p : Prefix) (es : List Entry) → map route_of (filter (λ e. not (has_prefix p e)) es) ≡ without p.len p.bits (map route_of es)
unfolding without
filtered_routes p [] = refl
filtered_routes p (e ∷ es) =
    let ih = filtered_routes p es in
    elim (cases_Bool (has_prefix p e)) [
      | inl t ↦ rw (t) ih
      | inr f ↦ rw (f, ih) refl
    ]

-- Without the entries of a prefix there are the routes without those of it.
pub routes_without : (p : Prefix) (es : List Entry) → routes_of (filter (λ e. not (has_prefix p e)) es) ≡ without p.len p.bits (routes_of es)
routes_without p es = ap (map route_of) (reverse-filter (λ e. not (has_prefix p e)) es) ∙ filtered_routes p (reverse es)

-- Some entry has the prefix if a route has it, in the order of the row.
any_has : (p : Prefix) (es : List Entry) → list_any (has_prefix p) es ≡ has p.len p.bits (map route_of es)
unfolding has
any_has p [] = refl
any_has p (e ∷ es) = rw (any_has p es) refl

-- A route of a prefix is there where an entry has the prefix.
pub routes_have : (p : Prefix) (es : List Entry) → list_any (has_prefix p) es ≡ has p.len p.bits (routes_of es)
routes_have p es = list_any-IsPermutation (has_prefix p) es (reverse es) (IsPermutation-reverse es) ∙ any_has p (reverse es)
