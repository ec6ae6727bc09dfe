-- A change piece by piece, as its pieces stand among the own words: the first pass, and what the one in hand comes to.
use Rattle.std.proofs.Common.{◌≡◌, ℕ, zero, suc, ◌+◌, ◌/◌, ◌<◌, ◌≤◌, true, false, cond, List, [], ◌∷◌, ◌++◌, length, get_or, take, drop, sym, refl, ap, ◌∙◌, subst, arith}
use Rattle.own.specs.Layout.{words_of}
use Rattle.own.specs.Pieces.{piece_of, earlier_of}
use Rattle.routes.specs.declared.Piece.{Piece}
use Rattle.routes.specs.Routes.{Route, Table, Wrong, has, clean, without, piece, pieces, changed}
use Rattle.routes.specs.Table.Lookups.{decides}
use Rattle.routes.specs.Machine.Begins.{blank, stored}
use Rattle.routes.specs.Machine.Checks.{CleanIn, piece_in, earlier_in}
use Rattle.routes.specs.Build.Stages.{wants}
use Rattle.routes.specs.Build.Checks.{Noted, there_after}
use Rattle.routes.specs.Invariant.Readers.{Pending}
use Rattle.routes.proofs.Table.Takes.{pieces_stop, pieces_more, changed_is, takes_decided}
use Rattle.routes.proofs.Build.Checks.{earlier_decide}

-- The pieces before k, piece k, and those behind it.
split_at : (k : ℕ) (ps : List Piece) → k < length ps → ps ≡ take k ps ++ (get_or ps k blank ∷ drop (suc k) ps)
split_at zero [] h = absurd (omega arith)
split_at (suc k) [] h = absurd (omega arith)
split_at zero (p ∷ ps) h = refl
split_at (suc k) (p ∷ ps) h = ap (λ z. p ∷ z) (split_at k ps (omega arith))

-- One more than k.
take_next : (k : ℕ) (ps : List Piece) → k < length ps → take (suc k) ps ≡ take k ps ++ (get_or ps k blank ∷ [])
take_next zero [] h = absurd (omega arith)
take_next (suc k) [] h = absurd (omega arith)
take_next zero (p ∷ ps) h = refl
take_next (suc k) (p ∷ ps) h = ap (λ z. p ∷ z) (take_next k ps (omega arith))

-- All of them.
pub take_all : (k : ℕ) (ps : List Piece) → k ≡ length ps → take k ps ≡ ps
take_all zero [] h = refl
take_all (suc k) [] h = absurd (omega arith)
take_all zero (p ∷ ps) h = absurd (omega arith)
take_all (suc k) (p ∷ ps) h = ap (λ z. p ∷ z) (take_all k ps (omega arith))

-- The first k are k.
pub take-length : (k : ℕ) (ps : List Piece) → k ≤ length ps → length (take k ps) ≡ k
take-length zero ps h = refl
take-length (suc k) [] h = absurd (omega arith)
take-length (suc k) (p ∷ ps) h = ap suc (take-length k ps (omega arith))

-- One piece more wants the levels of its way.
wants_more : (ps : List Piece) (p : Piece) → wants (ps ++ (p ∷ [])) ≡ wants ps + p.len / 4 + 1
unfolding wants
wants_more [] p = omega arith
wants_more (q ∷ ps) p = omega (arith, wants_more ps p)

-- The first k pieces stand among the own words.
noted_first : (own : ℕ → ℕ) (i k : ℕ) (ps : List Piece) → ((e : ℕ) → e < k → piece_of own (i + e) ≡ stored (get_or ps e blank)) → k ≤ length ps → Noted own i (take k ps)
unfolding Noted
noted_first own i zero ps w h = tt
noted_first own i (suc k) [] w h = absurd (omega arith)
noted_first own i (suc k) (p ∷ ps) w h =
    let z : i + 0 ≡ i = omega arith in (
      subst (λ e. piece_of own e ≡ stored p) z (w 0 (omega arith)),
      noted_first own (suc i) k ps (λ e l. (let y : i + suc e ≡ suc i + e = omega arith in subst (λ f. piece_of own f ≡ stored (get_or ps e blank)) y (w (suc e) (omega arith)))) (omega arith),
    )

-- Piece k is in hand: those before it make qs of rs.
module _ (o : List ℕ) (size : ℕ) (ps : List Piece) (w : Pending o size ps) (k : ℕ) (h : k < size) (rs qs : List Route) (e : pieces (take k ps) (Table rs) ≡ Table qs) where
  -- the piece in hand
  abbrev pub in_hand : Piece
  in_hand = get_or ps k blank

  -- There is such a piece.
  inside : k < length ps
  inside = omega (arith, w.length')

  -- A wrong piece turns the change away.
  pub stops : (why : ℕ) → piece in_hand qs ≡ Wrong why → changed ps rs ≡ Wrong why
  stops why x =
      changed_is ps rs (omega (arith, w.length', w.some)) (omega (arith, w.length', w.few))
      ∙ ap (λ z. pieces z (Table rs)) (split_at k ps inside) ∙ pieces_stop (take k ps) (drop (suc k) ps) in_hand rs qs why e x

  -- The pieces up to it are those before it and itself.
  next : take (k + 1) ps ≡ take k ps ++ (in_hand ∷ [])
  next = let z : k + 1 ≡ suc k = omega arith in ap (λ i. take i ps) z ∙ take_next k ps inside

  -- Else there is one more that passes.
  pub goes : (ts : List Route) → piece in_hand qs ≡ Table ts → pieces (take (k + 1) ps) (Table rs) ≡ Table ts
  goes ts x = ap (λ z. pieces z (Table rs)) next ∙ pieces_more (take k ps) in_hand rs qs ts e x

  -- It wants the levels of its way.
  pub wants_next : wants (take (k + 1) ps) ≡ wants (take k ps) + (piece_in o k).len / 4 + 1
  wants_next = ap wants next ∙ wants_more (take k ps) in_hand ∙ ap (λ z. wants (take k ps) + z.len / 4 + 1) (sym (w.words k h))

  -- If it is not clean it is wrong.
  pub unclean : clean (piece_in o k).len (piece_in o k).bits ≡ false → piece in_hand qs ≡ Wrong 2
  unfolding piece
  unclean c =
      let d : clean in_hand.len in_hand.bits ≡ false = subst (λ z. clean z.len z.bits ≡ false) (w.words k h) c in rw d

  -- If it is clean and puts it passes.
  pub puts_pass : CleanIn o k → (piece_in o k).puts ≡ true → (ts : List Route) × (piece in_hand qs ≡ Table ts)
  unfolding piece
  puts_pass c u =
      let d : clean in_hand.len in_hand.bits ≡ true = subst (λ z. clean z.len z.bits ≡ true) (w.words k h) c in
      let v : in_hand.puts ≡ true = subst (λ z. z.puts ≡ true) (w.words k h) u in
      (record { len = in_hand.len; bits = in_hand.bits; tells = in_hand.tells } ∷ without in_hand.len in_hand.bits qs, rw (d, v))

  -- If it is clean and takes out, the last earlier piece with its route decides, or else the table before.
  pub takes_by : CleanIn o k → (piece_in o k).puts ≡ false →
      piece in_hand qs ≡ cond (there_after (earlier_in o k) (has (piece_in o k).len (piece_in o k).bits rs)) (Table (without in_hand.len in_hand.bits qs)) (Wrong 3)
  takes_by c u =
      takes_decided (take k ps) in_hand rs qs e (subst (λ z. clean z.len z.bits ≡ true) (w.words k h) c) (subst (λ z. z.puts ≡ false) (w.words k h) u)
      ∙ ap (λ z. cond z (Table (without in_hand.len in_hand.bits qs)) (Wrong 3)) (sym earlier)
    where
      count_is : length (take k ps) ≡ k
      count_is = take-length k ps (omega (arith, inside))

      noted : Noted (words_of o) 0 (take k ps)
      noted = noted_first (words_of o) 0 k ps (λ i l. (let z : 0 + i ≡ i = omega arith in subst (λ f. piece_of (words_of o) f ≡ stored (get_or ps i blank)) (sym z) (w.words i (omega arith)))) (omega (arith, inside))

      earlier : there_after (earlier_in o k) (has (piece_in o k).len (piece_in o k).bits rs) ≡ decides in_hand.len in_hand.bits (take k ps) (has in_hand.len in_hand.bits rs)
      earlier =
          ap (λ z. there_after (earlier_of (words_of o) z k) (has z.len z.bits rs)) (w.words k h)
          ∙ ap (λ z. there_after (earlier_of (words_of o) (stored in_hand) z) (has in_hand.len in_hand.bits rs)) (sym count_is)
          ∙ earlier_decide (words_of o) (stored in_hand) (take k ps) (has in_hand.len in_hand.bits rs) noted
