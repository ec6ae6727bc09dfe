-- The loop that edits images from the bottom up is the edit of a way from the top down.
use Rattle.std.proofs.Common.{◌≡◌, ℕ, zero, suc, ◌+◌, ◌%◌, ◌^◌, ◌<◌, ◌≤◌, cond, sym, ap, ◌∙◌, inr, add-zero, zero-add, arith}
use Rattle.words.specs.Address.{nib}
use Rattle.words.proofs.Addresses.{place_small}
use Rattle.own.specs.declared.piece.PieceWords.{PieceWords}
use Rattle.own.specs.Layout.{image_at, fresh_at}
use Rattle.own.specs.Images.{bare}
use Rattle.own.specs.Edits.{deep_of, bits_of}
use Rattle.own.specs.Functions.{blanked_in, pointed_in, point_all_in, levels_all_in, edited_in, levels_in}
use Rattle.own.proofs.Edited.{blanked_outside}
use Rattle.routes.specs.declared.Piece.{Piece}
use Rattle.routes.specs.Memory.{set_at}
use Rattle.routes.specs.Keys.Keys.{nibs}
use Rattle.routes.specs.Tree.Edits.{RouteEdit, edit_of}
use Rattle.routes.specs.Repr.Images.{Own, edit_images, levels_left}
use Rattle.routes.specs.Build.Reads.{edited}
use Rattle.routes.specs.Build.Stages.{words_edit}
use Rattle.routes.proofs.Keys.Nibs.{nibs_ok, nibs-length}
use Rattle.routes.proofs.Repr.Edits.{edit_behind}

-- own: the own words before the first level; the new blocks stand among them
module _ (own : Own) (c : RouteEdit) (a first : ℕ) (hx : c.place < 15) (new : (e : ℕ) → c.fresh e ≡ own (fresh_at (first + e))) where
  -- the levels from d on are done, k of them behind it
  abbrev done : ℕ → ℕ → Own
  done d k = edit_images c d (nibs d k a) own

  -- One turn of the loop does one level more.
  pointed_done : (d k : ℕ) → suc d + k ≤ 8 → pointed_in a first d (done (suc d) k) ≡ done d (suc k)
  unfolding edit_images nibs
  pointed_done d k h =
      ap (λ z. set_at (image_at d (nib d a)) (cond (bare (done (suc d) k) (suc d)) 0 z) (done (suc d) k))
      (edit_behind c (suc d) (nibs (suc d) k a) own (fresh_at (first + suc d)) hx (nibs_ok (suc d) k a) (omega (arith, nibs-length (suc d) k a)) (omega arith) ∙ sym (new (suc d)))

  -- All turns do all levels.
  points_done : (d k : ℕ) → d + k ≤ 8 → point_all_in a first d (done d k) ≡ done 0 (d + k)
  unfolding point_all_in
  points_done zero k h = ap (λ z. done 0 z) (sym (zero-add k))
  points_done (suc d) k h =
      let q : d + suc k ≡ suc d + k = omega arith in
      ap (λ z. point_all_in a first d z) (pointed_done d k h) ∙ points_done d (suc k) (omega arith) ∙ ap (λ z. done 0 z) q

  -- And count the levels left.
  levels_done : (d k : ℕ) → d + k ≤ 8 → levels_all_in a first d (done d k) (levels_left c d (nibs d k a) own) ≡ levels_left c 0 (nibs 0 (d + k) a) own
  unfolding levels_all_in levels_left nibs
  levels_done zero k h = ap (λ z. levels_left c 0 (nibs 0 z a) own) (sym (zero-add k))
  levels_done (suc d) k h =
      let q : d + suc k ≡ suc d + k = omega arith in
      ap (λ z. levels_all_in a first d z (cond (bare (done (suc d) k) (suc d)) (suc d) (levels_left c (suc d) (nibs (suc d) k a) own))) (pointed_done d k h)
      ∙ levels_done d (suc k) (omega arith) ∙ ap (λ z. levels_left c 0 (nibs 0 z a) own) q

-- a piece among the own words
module _ (p : PieceWords) (have first : ℕ) (own : Own) (short : p.len ≤ 32) where
  -- its edit, and the own words without images of nodes that are not there
  abbrev c : RouteEdit
  c = words_edit p (λ e. own (fresh_at (first + e)))

  abbrev blank : Own
  blank = blanked_in have (deep_of p) own

  -- The new blocks stand there too.
  fresh_blank : (e : ℕ) → c.fresh e ≡ blank (fresh_at (first + e))
  fresh_blank e = sym (blanked_outside have (deep_of p) own (fresh_at (first + e)) (omega arith) (inr (omega arith)))

  -- Its edit is that of its way.
  pub edit-piece : edited_in p have first own ≡ edited c (nibs 0 (deep_of p) (bits_of p)) have (deep_of p) own
  unfolding edit_images nibs
  edit-piece = points_done blank c (bits_of p) first (place_small p.len (bits_of p)) fresh_blank (deep_of p) 0 (omega arith) ∙ ap (λ z. edit_images c 0 (nibs 0 z (bits_of p)) blank) (add-zero (deep_of p))

  -- And so are the levels left.
  pub levels_piece : levels_in p have first own ≡ levels_left c 0 (nibs 0 (deep_of p) (bits_of p)) blank
  unfolding edit_images nibs levels_left
  levels_piece = levels_done blank c (bits_of p) first (place_small p.len (bits_of p)) fresh_blank (deep_of p) 0 (omega arith) ∙ ap (λ z. levels_left c 0 (nibs 0 z (bits_of p)) blank) (add-zero (deep_of p))

-- A piece of a change and its words make the same edit.
pub words_edit_lem : (w : PieceWords) (p : Piece) (fresh : ℕ → ℕ) → w.puts ≡ p.puts → w.len ≡ p.len → w.bits ≡ p.bits → w.tells ≡ p.tells → p.bits < 2 ^ 32 → p.tells < 2 ^ 32 → words_edit w fresh ≡ edit_of p fresh
words_edit_lem w p fresh u l b t hb ht =
    let x : p.bits % 2 ^ 32 ≡ p.bits = omega arith in
    let y : p.tells % 2 ^ 32 ≡ p.tells = omega arith in
    rw (u, l, b, t, x, y)
