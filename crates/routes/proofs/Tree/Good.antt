-- Trees that hold a table's routes: the empty one, after a piece of a change, and what a walk finds.
use Rattle.std.proofs.Common.{◌≡◌, ℕ, ◌/◌, ◌<◌, ◌≤◌, true, cond, ◌&&◌, eqb, List, [], length, sym, refl, ap, ◌∙◌, inl, inr, arith}
use Rattle.std.proofs.lemmas.Bool.Decides.{nat_tests as tests}
use Rattle.std.proofs.lemmas.Bool.{cases_Bool, and_parts, eqb-true}
use Rattle.words.specs.Address.{place}
use Rattle.words.specs.Slots.{route_word}
use Rattle.words.proofs.Addresses.{place_small}
use Rattle.routes.specs.declared.Piece.{Piece}
use Rattle.routes.specs.Routes.{Route, Table, piece}
use Rattle.routes.specs.Table.Tables.{Clean}
use Rattle.routes.specs.Table.Lookups.{lookup, masked, lookups, word_after}
use Rattle.routes.specs.Keys.Keys.{nibs, way_of, same}
use Rattle.routes.specs.Tree.Trees.{Tree, none, kids_of, look, routes, Kept}
use Rattle.routes.specs.Tree.Edits.{edit, edit_of}
use Rattle.routes.specs.Tree.Walks.{down, Good}
use Rattle.routes.specs.Tree.Laws.{PiecesEdit, WalksFind}
use Rattle.routes.proofs.Table.Pieces.{piece-clean}
use Rattle.routes.proofs.Table.Lookups.{has-lookup, lookup-low, piece-lookup}
use Rattle.routes.proofs.Table.Lengths.{piece-length}
use Rattle.routes.proofs.Table.Sound.{clean-parts, sound_none, sound_piece}
use Rattle.routes.proofs.Table.Masks.{masked-clean}
use Rattle.routes.proofs.Table.Seek.{seek_same, find-lookups}
use Rattle.routes.proofs.Keys.Nibs.{nibs_ok, nibs-length}
use Rattle.routes.proofs.Keys.Apart.{same_eq, keys_apart, prefix_key}
use Rattle.routes.proofs.Tree.Trees.{look_none}
use Rattle.routes.proofs.Tree.Edits.{look-edit, routes-edit, proper_edit}
use Rattle.routes.proofs.Tree.Nodes.{deep_none, deep_edit}
use Rattle.routes.proofs.Tree.Walks.{words, look_down, walk_words}

-- No tree has the routes of the empty table.
pub good_none : Good none []
unfolding lookup routes kids_of Kept
good_none = record {
  looks = λ l b c. look_none (way_of l b) (place l b);
  last = λ ns x ok s h l. look_none ns x;
  many = refl;
  proper = λ n h. tt;
  deep = deep_none 9;
  sound = sound_none;
}

-- A piece of a change, and a tree of the table before it.
module _ (p : Piece) (fresh : ℕ → ℕ) (t : Tree) (rs qs : List Route) (e : piece p rs ≡ Table qs) (g : Good t rs) where
  -- the tree after it
  abbrev after : Tree
  after = edit (edit_of p fresh) 0 (way_of p.len p.bits) t

  -- The piece is clean.
  clean' : Clean p.len p.bits
  clean' = clean-parts p.len p.bits (piece-clean p rs qs e)

  -- Looks are lookups.
  looks_after : (l b : ℕ) → Clean l b → look (way_of l b) (place l b) after ≡ lookup l b qs
  looks_after l b u =
      look-edit (edit_of p fresh) 0 (way_of p.len p.bits) (way_of l b) (place l b) t (nibs_ok 0 (l / 4) b) (place_small l b)
      ∙ rw (keys_apart l b p.len p.bits u clean', piece-lookup p rs qs e l b) (ap (λ z. cond (eqb l p.len && eqb b p.bits) (word_after p) z) (g.looks l b u))

  -- The last level has only one place.
  last_after : (ns : List ℕ) (x : ℕ) → length ns ≡ 8 → 0 < x → (same ns (way_of p.len p.bits) && eqb x (place p.len p.bits)) ≡ true → ⊥
  last_after ns x s h f =
      let i = and_parts (same ns (way_of p.len p.bits)) (eqb x (place p.len p.bits)) f in
      let k : length (way_of p.len p.bits) ≡ 8 = sym (ap length (same_eq ns (way_of p.len p.bits) i.0)) ∙ s in
      omega (arith, (prefix_key p.len p.bits clean').last k, eqb-true x (place p.len p.bits) i.1)

  -- As many routes come and go as in the table.
  many_after : routes after ≡ length qs
  unfolding route_word
  many_after =
      let a = routes-edit (edit_of p fresh) 0 (way_of p.len p.bits) t (nibs_ok 0 (p.len / 4) p.bits) (place_small p.len p.bits) in
      let b = g.looks p.len p.bits clean' in
      let d = has-lookup p.len p.bits rs in
      let f = piece-length p rs qs g.sound.unique e in
      let h = g.many in
      grind (arith, tests)

-- A piece of a change makes a tree of the new table.
pub good_piece : PiecesEdit
good_piece p fresh t rs qs h e g = record {
  looks = looks_after p fresh t rs qs e g;
  last = λ ns x ok s i l. look-edit (edit_of p fresh) 0 (way_of p.len p.bits) ns x t ok l
      ∙ elim (cases_Bool (same ns (way_of p.len p.bits) && eqb x (place p.len p.bits))) [
        | inl f ↦ absurd (last_after p fresh t rs qs e g ns x s i f)
        | inr f ↦ rw f (g.last ns x ok s i l)
      ];
  many = many_after p fresh t rs qs e g;
  proper = proper_edit (edit_of p fresh) 0 (way_of p.len p.bits) t (nibs_ok 0 (p.len / 4) p.bits) g.proper;
  deep = deep_edit (edit_of p fresh) 0 8 (way_of p.len p.bits) t (prefix_key p.len p.bits (clean-parts p.len p.bits (piece-clean p rs qs e))).levels g.deep;
  sound = sound_piece p rs qs h e g.sound;
}

-- A walk down a table's tree finds what the table has for the address.
pub walk-find : WalksFind
unfolding down
walk-find a t rs l g =
    let same' : (k : ℕ) → k ≤ 32 → words a t k ≡ lookups a rs k = λ k h. g.looks k (masked k a) (masked-clean k a h l) in
    walk_words a t (λ k h. rw (same' k h) (lookup-low k (masked k a) rs g.sound.small))
    (λ x h m. sym (look_down 8 0 a x t) ∙ g.last (nibs 0 8 a) x (nibs_ok 0 8 a) (nibs-length 0 8 a) h m)
    ∙ seek_same (words a t) (lookups a rs) 33 (λ i h. same' i (omega arith)) ∙ find-lookups a rs g.sound.fine
