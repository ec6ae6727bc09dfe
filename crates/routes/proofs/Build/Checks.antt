-- Whether a route is there to be taken out: by earlier pieces, or looked up in memory.
use Rattle.std.proofs.Common.{◌≡◌, ℕ, suc, ◌+◌, ◌/◌, ◌<◌, ◌≤◌, Bool, true, false, cond, not, eqb, List, [], ◌∷◌, length, sym, refl, ap, ◌∙◌, add-zero, zero-add, arith}
use Rattle.words.specs.Address.{place}
use Rattle.words.proofs.Addresses.{place_small}
use Rattle.own.specs.declared.piece.PieceWords.{PieceWords}
use Rattle.own.specs.declared.piece.Earlier.{Earlier}
use Rattle.own.specs.declared.piece.Earlier.TheVariants.{Put, Taken}
use Rattle.own.specs.Layout.{piece_at}
use Rattle.own.specs.Pieces.{piece_of, same_route, later_of, earlier_of}
use Rattle.routes.specs.declared.Piece.{Piece}
use Rattle.routes.specs.Routes.{Route, has}
use Rattle.routes.specs.Table.Tables.{Clean}
use Rattle.routes.specs.Table.Lookups.{lookup, decides}
use Rattle.routes.specs.Tree.Trees.{Tree, none, routes_of, block_of}
use Rattle.routes.specs.Tree.Walks.{down, Good}
use Rattle.routes.specs.Repr.Repr.{Repr}
use Rattle.routes.specs.Repr.Images.{Own}
use Rattle.routes.specs.Build.Checks.{Noted, there_after}
use Rattle.routes.specs.Build.Laws.{EarlierDecide}
use Rattle.routes.proofs.Table.Lookups.{has-lookup}
use Rattle.routes.proofs.Tree.Walks.{look_down}
use Rattle.routes.proofs.Repr.Nodes.{repr_down, repr_none, route_word_lem}
use Rattle.routes.proofs.Build.Reads.{none_below}

-- The table's lookup is the node's at the end of the way.
lookup_down : (t : Tree) (rs : List Route) (l b : ℕ) → Good t rs → Clean l b → routes_of (down b (l / 4) t) (place l b) ≡ lookup l b rs
unfolding down
lookup_down t rs l b g k = sym (ap (λ z. routes_of (down b z t) (place l b)) (zero-add (l / 4))) ∙ sym (look_down (l / 4) 0 b (place l b) t) ∙ g.looks l b k

-- The route word in memory is the table's.
pub check_word : (val : ℕ → ℕ → ℕ) (t : Tree) (rs : List Route) (l b c : ℕ) → Repr val t → Good t rs → Clean l b → c ≡ block_of (down b (l / 4) t) → (c ≡ 0 → ⊥) → val c (16 + place l b) ≡ lookup l b rs
check_word val t rs l b c r g k e z =
    rw e (route_word_lem val (down b (l / 4) t) (place l b) (place_small l b) (repr_down val b (l / 4) t r) (λ y. z (e ∙ y))) ∙ lookup_down t rs l b g k

-- So it says whether the route is there.
pub check_has : (val : ℕ → ℕ → ℕ) (t : Tree) (rs : List Route) (l b c : ℕ) → Repr val t → Good t rs → Clean l b → c ≡ block_of (down b (l / 4) t) → (c ≡ 0 → ⊥) → has l b rs ≡ not (eqb (val c (16 + place l b)) 0)
check_has val t rs l b c r g k e z = has-lookup l b rs ∙ ap (λ w. not (eqb w 0)) (sym (check_word val t rs l b c r g k e z))

-- A way that ends before has no route.
pub check_none : (val : ℕ → ℕ → ℕ) (t : Tree) (rs : List Route) (l b e : ℕ) → Repr val t → Good t rs → Clean l b → e ≤ l / 4 → block_of (down b e t) ≡ 0 → has l b rs ≡ false
unfolding routes_of
check_none val t rs l b e r g k h z =
    let m : down b (l / 4) t ≡ none = none_below b e (l / 4) t h (repr_none val (down b e t) (repr_down val b e t r) z) in
    let w : lookup l b rs ≡ 0 = sym (lookup_down t rs l b g k) ∙ ap (λ z. routes_of z (place l b)) m in
    rw (has-lookup l b rs, w)

-- A piece stays as long as its words do.
piece-stays : (own own' : Own) (k : ℕ) → k < 8 → ((i : ℕ) → i < 32 → own' i ≡ own i) → piece_of own' k ≡ piece_of own k
piece-stays own own' k h s =
    let e : (i : ℕ) → i < 4 → own' (piece_at k i) ≡ own (piece_at k i) = λ i l. s (piece_at k i) (omega arith) in
    λ i. record { puts = not (eqb (e 0 (omega arith) i) 0); len = e 1 (omega arith) i; bits = e 2 (omega arith) i; tells = e 3 (omega arith) i }

-- So do all.
pub noted-stays : (own own' : Own) (k : ℕ) (ps : List Piece) → k + length ps ≤ 8 → ((i : ℕ) → i < 32 → own' i ≡ own i) → Noted own k ps → Noted own' k ps
unfolding Noted
noted-stays own own' k [] h s n = tt
noted-stays own own' k (p ∷ ps) h s n = (piece-stays own own' k (omega arith) s ∙ n.0, noted-stays own own' (suc k) ps (omega arith) s n.1)

-- One more piece decides, or else those before it.
later_decides : (e : Earlier) (w q : PieceWords) (before : Bool) → there_after (later_of e w q) before ≡ cond (same_route w q) q.puts (there_after e before)
unfolding there_after
later_decides e w q before = go (same_route w q) q.puts
  where
    go : (s u : Bool) → there_after (cond s (cond u Put Taken) e) before ≡ cond s u (there_after e before)
    go true true = refl
    go true false = refl
    go false u = refl

-- Pieces from number k on, behind those before.
earlier_from : (own : Own) (w : PieceWords) (k : ℕ) (ps : List Piece) (before : Bool) → Noted own k ps → there_after (earlier_of own w (k + length ps)) before ≡ decides w.len w.bits ps (there_after (earlier_of own w k) before)
unfolding Noted decides earlier_of
earlier_from own w k [] before n = ap (λ z. there_after (earlier_of own w z) before) (add-zero k)
earlier_from own w k (p ∷ ps) before n =
    let q : k + suc (length ps) ≡ suc k + length ps = omega arith in
    ap (λ z. there_after (earlier_of own w z) before) q ∙ earlier_from own w (suc k) ps before n.1
    ∙ ap (λ z. decides w.len w.bits ps z) (later_decides (earlier_of own w k) w (piece_of own k) before ∙ ap (λ z. cond (same_route w z) z.puts (there_after (earlier_of own w k) before)) n.0)

-- The last earlier piece with a route says whether it is there.
pub earlier_decide : EarlierDecide
unfolding earlier_of there_after
earlier_decide own w ps before n = ap (λ z. there_after (earlier_of own w z) before) (sym (zero-add (length ps))) ∙ earlier_from own w 0 ps before n
