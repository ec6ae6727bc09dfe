-- Pieces that are shown are read back.
use Rattle.std.proofs.Common.{◌≡◌, ℕ, suc, ◌+◌, ◌-◌, ◌^◌, ◌<◌, ◌≤◌, min, Bool, true, false, eqb, List, [], ◌∷◌, ◌++◌, map, length, take, set, replicate, Ok, codes, decimal, fold, All, sym, refl, ap, ◌∙◌, append_assoc, append-nil, zero-add, arith, lit<}
use Rattle.std.proofs.lemmas.List.Elements.{All-nil, All-cons, All-head, All-tail, All-from_recursion}
use Rattle.std.proofs.lemmas.List.{length_push, length-take-le, set_at, take-append-drop}
use Rattle.std.proofs.lemmas.Bool.{ne_eqb}
use Rattle.std.specs.List.{prefix_len}
use Rattle.routes.specs.declared.Piece.{Piece}
use Rattle.script.specs.declared.expected.Expected.TheVariants as expected
use Rattle.script.specs.declared.pieces.Change.{Change}
use Rattle.script.specs.declared.processor.Processor.{Processor}
use Rattle.script.specs.Bytes.{letter}
use Rattle.script.specs.Lines.{ask_of, changes_of}
use Rattle.script.specs.Pieces.{parts, piece_of, blank_piece, no_pieces, with_piece, gathered, change_of}
use Rattle.script.specs.Reading.{count_of, prefix_of}
use Rattle.script.specs.Shown.{after, shown_prefix, piece_words, shown_piece, shown_pieces, FitsPiece, FitsChange}
use Rattle.script.proofs.Back.Numerals.{decimal_plain, decimal_below, prefix_plain, prefix_back}
use Rattle.script.proofs.Back.Plain.{Plain, all_after, all_high, reads_next}
use Rattle.script.proofs.Back.Sentences.{reads_after, one_back, two_back}

put_plain : Plain (codes "put")
put_plain = record { some = lit< tt; high = All-from_recursion (λ b. 44 < b) (codes "put") (lit< tt, (lit< tt, (lit< tt, tt))) }

take_plain : Plain (codes "take")
take_plain = record { some = lit< tt; high = All-from_recursion (λ b. 44 < b) (codes "take") (lit< tt, (lit< tt, (lit< tt, (lit< tt, tt)))) }

module _ (p : Piece) (f : FitsPiece p) where
  prefix_word : Plain (shown_prefix p.bits p.len)
  prefix_word = prefix_plain p.bits p.len f.bits f.len

  -- The words of a piece are words.
  pub piece_plain : All Plain (piece_words p)
  piece_plain = by p.puts
    where
      by : (b : Bool) → All Plain (piece_words (record { puts = b; len = p.len; bits = p.bits; tells = p.tells }))
      by true = All-from_recursion Plain (codes "put" ∷ shown_prefix p.bits p.len ∷ decimal p.tells ∷ []) (put_plain, (prefix_word, (decimal_plain p.tells (omega (arith, f.tells)), tt)))
      by false = All-from_recursion Plain (codes "take" ∷ shown_prefix p.bits p.len ∷ []) (take_plain, (prefix_word, tt))

  -- A piece is read back.
  pub piece_back : piece_of (shown_piece p) ≡ Ok p
  piece_back = by p.puts p.tells f.tells f.silent
    where
      by : (b : Bool) (t : ℕ) → t < 2 ^ 32 → (b ≡ false → t ≡ 0) → piece_of (shown_piece (record { puts = b; len = p.len; bits = p.bits; tells = t })) ≡ Ok (record { puts = b; len = p.len; bits = p.bits; tells = t })
      by true t h s =
          let r = reads_after (codes "put") (shown_prefix p.bits p.len ∷ decimal t ∷ []) put_plain in
          rw (r.0, r.1) (two_back prefix_of count_of expected.CommaOrEnd (λ x n. record { puts = true; len = x.len; bits = x.bits; tells = n }) _ _ _ _ prefix_word (decimal_plain t (omega arith)) (prefix_back p.bits p.len f.bits f.len) (decimal_below t (omega arith) (2 ^ 32) expected.Count h))
      by false t h s =
          let r = reads_after (codes "take") (shown_prefix p.bits p.len ∷ []) take_plain in
          rw (r.0, r.1, s refl) (one_back prefix_of expected.CommaOrEnd (λ x. record { puts = false; len = x.len; bits = x.bits; tells = 0 }) _ _ prefix_word (prefix_back p.bits p.len f.bits f.len))

-- A text without commas is a part by itself.
part_back : (t : List ℕ) (ts : List (List ℕ)) → All (λ b. eqb b 44 ≡ false) t → All (All (λ b. eqb b 44 ≡ false)) ts → parts (t ++ after 44 ts) ≡ t ∷ ts
unfolding after
part_back [] [] h hs = refl
part_back [] (u ∷ ts) h hs =
    let P : ℕ → Type 0 = λ b. eqb b 44 ≡ false in
    ap (λ ps. [] ∷ ps) (part_back u ts (All-head (All P) u ts hs) (All-tail (All P) u ts hs))
part_back (c ∷ cs) ts h hs =
    let P : ℕ → Type 0 = λ b. eqb b 44 ≡ false in
    rw (All-head P c cs h) (rw (part_back cs ts (All-tail P c cs h) hs) refl)

-- What holds of a blank and of all that stands behind the comma holds of each byte of a piece.
pub piece_all : (P : ℕ → Type 0) → P 32 → ((x : ℕ) → 44 < x → P x) → (p : Piece) → FitsPiece p → All P (shown_piece p)
piece_all P here high p f = all_after P 32 (piece_words p) here (all_high P high (piece_words p) (piece_plain p f))

-- The same of some pieces.
pub pieces_all : (P : ℕ → Type 0) → P 32 → ((x : ℕ) → 44 < x → P x) → (ps : List Piece) → All FitsPiece ps → All (All P) (map shown_piece ps)
pieces_all P here high [] f = All-nil (All P)
pieces_all P here high (p ∷ ps) f =
    let first = piece_all P here high p (All-head FitsPiece p ps f) in
    All-cons (All P) (shown_piece p) (map shown_piece ps) first (pieces_all P here high ps (All-tail FitsPiece p ps f))

-- Pieces with commas between them are parted again.
pieces_parted : (p : Piece) (ps : List Piece) → All FitsPiece (p ∷ ps) → parts (shown_pieces (p ∷ ps)) ≡ map shown_piece (p ∷ ps)
pieces_parted p ps f =
    let P : ℕ → Type 0 = λ b. eqb b 44 ≡ false in
    let whole = pieces_all P refl (λ x h. ne_eqb x 44 (omega arith)) (p ∷ ps) f in
    let first = All-head (All P) (shown_piece p) (map shown_piece ps) whole in
    part_back (shown_piece p) (map shown_piece ps) first (All-tail (All P) (shown_piece p) (map shown_piece ps) whole)

-- Each is read back and gathered.
pieces-gathered : (c : Change) (ps : List Piece) → All FitsPiece ps → gathered c (map shown_piece ps) ≡ Ok (fold with_piece c ps)
unfolding gathered
pieces-gathered c [] f = refl
pieces-gathered c (p ∷ ps) f = rw (piece_back p (All-head FitsPiece p ps f)) (pieces-gathered (with_piece c p) ps (All-tail FitsPiece p ps f))

-- a row that begins with ps, with so many blank pieces behind
abbrev row : List Piece → ℕ → Change
row ps m = record { count = length ps; pieces = ps ++ replicate m blank_piece }

-- One goes in place of the first blank one.
row_more : (qs : List Piece) (p : Piece) (k : ℕ) → length qs < 8 → with_piece (row qs (suc k)) p ≡ row (qs ++ (p ∷ [])) k
row_more qs p k h =
    let counted : min (length qs + 1) (2 ^ 32 - 1) ≡ length (qs ++ (p ∷ [])) = omega (arith, length_push qs p) in
    let kept : set (qs ++ replicate (suc k) blank_piece) (length qs) p ≡ (qs ++ (p ∷ [])) ++ replicate k blank_piece =
    set_at qs blank_piece (replicate k blank_piece) p _ refl ∙ sym (append_assoc qs (p ∷ []) (replicate k blank_piece)) in
    λ i. record { count = counted i; pieces = kept i }

-- Gathered pieces stand in front of the row.
pieces_kept : (qs ps : List Piece) (m : ℕ) → length qs + length ps ≤ 8 → fold with_piece (row qs (length ps + m)) ps ≡ row (qs ++ ps) m
pieces_kept qs [] m h = rw (zero-add, append-nil) refl
pieces_kept qs (p ∷ ps) m h =
    let more : suc (length ps) + m ≡ suc (length ps + m) = omega arith in
    ap (λ n. fold with_piece (with_piece (row qs n) p) ps) more ∙
    ap (λ c. fold with_piece c ps) (row_more qs p (length ps + m) (omega arith)) ∙
    pieces_kept (qs ++ (p ∷ [])) ps m (omega (arith, length_push qs p)) ∙
    ap (λ l. row l m) (append_assoc qs (p ∷ []) ps)

-- Pieces that are shown are read back into a row.
change_back : (ps : List Piece) (m : ℕ) → 0 < length ps → length ps + m ≡ 8 → All FitsPiece ps → change_of (shown_pieces ps) ≡ Ok (row ps m)
change_back [] m some h f = absurd (omega arith)
change_back (p ∷ ps) m some h f =
    ap (gathered no_pieces) (pieces_parted p ps f) ∙ pieces-gathered no_pieces (p ∷ ps) f ∙
    ap (λ n. Ok (fold with_piece (row [] n) (p ∷ ps))) (sym h) ∙ ap Ok (pieces_kept [] (p ∷ ps) m (omega arith))

-- That is the row that they came from.
pub pieces_back : (n : ℕ) (ps : List Piece) → FitsChange n ps → change_of (shown_pieces (take n ps)) ≡ Ok (record { count = n; pieces = ps })
pieces_back n ps f =
    let long = length-take-le n ps (omega (arith, f.row, f.few)) in
    let same : take n ps ++ replicate (8 - n) blank_piece ≡ ps = ap (λ l. take n ps ++ l) (sym f.behind) ∙ take-append-drop n ps in
    change_back (take n ps) (8 - n) (omega (arith, f.some)) (omega (arith, f.few)) f.each ∙ (λ i. Ok (record { count = long i; pieces = same i }))

-- A piece is no part of the word before it.
pub piece_stops : (p : Piece) (t : List ℕ) → prefix_len letter (shown_piece p ++ t) ≡ 0
unfolding after
piece_stops p t = by p.puts
  where
    by : (b : Bool) → prefix_len letter (shown_piece (record { puts = b; len = p.len; bits = p.bits; tells = p.tells }) ++ t) ≡ 0
    by true = refl
    by false = refl

-- What begins with a piece is a change.
pub asks_change : {cpus : ℕ} (cpu : Processor cpus) (p : Piece) (t : List ℕ) → ask_of cpu (shown_piece p ++ t) ≡ changes_of cpu (shown_piece p ++ t)
unfolding after
asks_change cpu p t = by p.puts
  where
    by : (b : Bool) → let s = shown_piece (record { puts = b; len = p.len; bits = p.bits; tells = p.tells }) ++ t in ask_of cpu s ≡ changes_of cpu s
    by true = let r = reads_next (codes "put") (after 32 (shown_prefix p.bits p.len ∷ decimal p.tells ∷ []) ++ t) put_plain refl in rw r.0 refl
    by false = let r = reads_next (codes "take") (after 32 (shown_prefix p.bits p.len ∷ []) ++ t) take_plain refl in rw r.0 refl
