-- What a piece makes of the images, on own words as a function; all else stays.
use Rattle.std.proofs.Common.{◌≡◌, ℕ, zero, suc, ◌+◌, ◌-◌, ◌*◌, ◌<◌, ◌≤◌, cond, ◌&&◌, ltb, leb, ◌⊎◌, List, length, refl, ap, ◌∙◌, inl, inr, arith, length-set}
use mathlib.Core.Path.{fun_ext}
use Rattle.std.proofs.lemmas.Bool.Decides.{nat_tests}
use Rattle.words.specs.Address.{nib, place}
use Rattle.words.proofs.Addresses.{nib_small, place_small}
use Rattle.own.specs.declared.piece.PieceWords.{PieceWords}
use Rattle.own.specs.Layout.{image_at, words_of}
use Rattle.own.specs.Pieces.{piece_of}
use Rattle.own.specs.Edits.{blank, blanked, deep_of, bits_of, leaves_word, route_set, pointed, levels_left, point_all, levels_all, prepared, edited, levels_edited}
use Rattle.own.specs.Functions.{blanked_in, route_in, pointed_in, point_all_in, levels_all_in, prepared_in, edited_in, levels_in}
use Rattle.own.proofs.Words.{words_set}
use Rattle.own.proofs.Imaged.{image_outside}

-- Blanking keeps the number of words.
pub length_blank : (o : List ℕ) (start n : ℕ) → length (blank o start n) ≡ length o
unfolding blank
length_blank o start zero = refl
length_blank o start (suc n) = length-set (blank o start n) (start + n) 0 ∙ length_blank o start n

-- Pointing keeps the number of words.
pub length_point_all : (o : List ℕ) (a first d : ℕ) → length (point_all o a first d) ≡ length o
unfolding point_all
length_point_all o a first zero = refl
length_point_all o a first (suc d) = length_point_all (pointed o a first d) a first d ∙ simp length-set

-- An edit keeps the number of words.
pub length-edited : (o : List ℕ) (k have first : ℕ) → length (edited o k have first) ≡ length o
unfolding edited prepared
length-edited o k have first = length_point_all _ _ first _ ∙ length-set _ _ _ ∙ length_blank o _ _

-- So many words from start on are 0.
abbrev blank_in : ℕ → ℕ → (ℕ → ℕ) → ℕ → ℕ
blank_in start n f i = cond (leb start i && ltb i (start + n)) 0 (f i)

-- Blanking words that there are makes just these 0.
words_blank : (o : List ℕ) (start n : ℕ) → start + n ≤ length o → words_of (blank o start n) ≡ blank_in start n (words_of o)
unfolding blank
words_blank o start zero h = fun_ext (λ i. grind (arith, nat_tests))
words_blank o start (suc n) h =
    words_set (blank o start n) (start + n) 0 (omega (arith, length_blank o start n))
    ∙ fun_ext (λ i. let ih = ap (λ f. f i) (words_blank o start n (omega arith)) in grind (arith, nat_tests))

-- Blanked images are noughts, and all else stays.
pub words_blanked : (o : List ℕ) (have deep : ℕ) → length o ≡ 4096 → have ≤ 9 → deep ≤ 8 → words_of (blanked o have deep) ≡ blanked_in have deep (words_of o)
words_blanked o have deep h k l = words_blank o (32 + 32 * have) (32 * (deep + 1 - have)) (omega arith) ∙ fun_ext (λ i. grind (arith, nat_tests))

-- Blanking leaves what stands outside the images.
pub blanked_outside : (have deep : ℕ) (f : ℕ → ℕ) (i : ℕ) → deep ≤ 8 → (i < 32) ⊎ (320 ≤ i) → blanked_in have deep f i ≡ f i
blanked_outside have deep f i h (inl l) = grind (arith, nat_tests)
blanked_outside have deep f i h (inr l) = grind (arith, nat_tests)

-- The route word is set, and all else stays.
pub words_route : (o : List ℕ) (p : PieceWords) → length o ≡ 4096 → p.len ≤ 32 → words_of (route_set o p) ≡ route_in p (words_of o)
words_route o p h k = words_set o (image_at (deep_of p) (16 + place p.len (bits_of p))) (leaves_word p) (omega (arith, place_small p.len (bits_of p)))

-- One level points.
pub words_pointed : (o : List ℕ) (a first d : ℕ) → length o ≡ 4096 → d < 8 → words_of (pointed o a first d) ≡ pointed_in a first d (words_of o)
words_pointed o a first d h k = words_set o (image_at d (nib d a)) _ (omega (arith, nib_small d a))

-- All levels above d point.
pub words_point_all : (o : List ℕ) (a first d : ℕ) → length o ≡ 4096 → d ≤ 8 → words_of (point_all o a first d) ≡ point_all_in a first d (words_of o)
unfolding point_all point_all_in
words_point_all o a first zero h k = refl
words_point_all o a first (suc d) h k =
    words_point_all (pointed o a first d) a first d (simp length-set h) (omega arith) ∙ ap (point_all_in a first d) (words_pointed o a first d h (omega arith))

-- How many levels are left.
pub levels_all_lem : (o : List ℕ) (a first d levels : ℕ) → length o ≡ 4096 → d ≤ 8 → levels_all o a first d levels ≡ levels_all_in a first d (words_of o) levels
unfolding levels_all levels_all_in
levels_all_lem o a first zero levels h k = refl
levels_all_lem o a first (suc d) levels h k =
    levels_all_lem (pointed o a first d) a first d (levels_left o d levels) (simp length-set h) (omega arith)
    ∙ ap (λ f. levels_all_in a first d f (levels_left o d levels)) (words_pointed o a first d h (omega arith))

-- At least one level is left, and at most those that there were.
pub levels_between : (o : List ℕ) (a first d levels most : ℕ) → 1 ≤ levels → levels ≤ most → d ≤ most → (1 ≤ levels_all o a first d levels) × (levels_all o a first d levels ≤ most)
unfolding levels_all
levels_between o a first zero levels most h k l = (h, k)
levels_between o a first (suc d) levels most h k l =
    levels_between (pointed o a first d) a first d (levels_left o d levels) most (grind arith) (grind arith) (omega arith)

-- Pointing leaves what stands outside the images.
pub point_all_outside : (a first d : ℕ) (f : ℕ → ℕ) (i : ℕ) → d ≤ 8 → (i < 32) ⊎ (320 ≤ i) → point_all_in a first d f i ≡ f i
unfolding point_all_in
point_all_outside a first zero f i h out = refl
point_all_outside a first (suc d) f i h out =
    point_all_outside a first d (pointed_in a first d f) i (omega arith) out ∙ image_outside f d (nib d a) _ i (omega arith) (omega (arith, nib_small d a)) out

module _ (o : List ℕ) (k have first : ℕ) (room : length o ≡ 4096) (few : have ≤ 9) (short : (piece_of (words_of o) k).len ≤ 32) where
  abbrev p : PieceWords
  p = piece_of (words_of o) k

  -- What stands before the levels point, of words as a function.
  words_prepared : words_of (prepared o k have) ≡ prepared_in p have (words_of o)
  unfolding prepared
  words_prepared = words_route (blanked o have (deep_of p)) p (length_blank o _ _ ∙ room) short ∙ ap (route_in p) (words_blanked o have (deep_of p) room few (omega arith))

  -- Until then there are as many words as before.
  length-prepared : length (prepared o k have) ≡ 4096
  unfolding prepared
  length-prepared = length-set _ _ _ ∙ length_blank o _ _ ∙ room

  -- What an edit leaves, of words as a function.
  pub words_edited : words_of (edited o k have first) ≡ edited_in p have first (words_of o)
  unfolding edited
  words_edited = words_point_all (prepared o k have) (bits_of p) first (deep_of p) length-prepared (omega arith) ∙ ap (point_all_in (bits_of p) first (deep_of p)) words_prepared

  -- How many levels it leaves, of words as a function.
  pub levels_edited_lem : levels_edited o k have first ≡ levels_in p have first (words_of o)
  unfolding levels_edited
  levels_edited_lem =
      let q : deep_of p + 1 ≡ suc (deep_of p) = omega arith in
      levels_all_lem (prepared o k have) (bits_of p) first (deep_of p) (deep_of p + 1) length-prepared (omega arith)
      ∙ ap (λ f. levels_all_in (bits_of p) first (deep_of p) f (deep_of p + 1)) words_prepared
      ∙ ap (levels_all_in (bits_of p) first (deep_of p) (prepared_in p have (words_of o))) q

  -- It leaves the pieces and the blocks as they are.
  pub edited_outside : (i : ℕ) → (i < 32) ⊎ (320 ≤ i) → words_of (edited o k have first) i ≡ words_of o i
  edited_outside i out =
      ap (λ f. f i) words_edited
      ∙ point_all_outside (bits_of p) first (deep_of p) (prepared_in p have (words_of o)) i (omega arith) out
      ∙ image_outside (blanked_in have (deep_of p) (words_of o)) (deep_of p) (16 + place p.len (bits_of p)) (leaves_word p) i (omega arith) (omega (arith, place_small p.len (bits_of p))) out
      ∙ blanked_outside have (deep_of p) (words_of o) i (omega arith) out
