-- A row of late stores to LIMBO_HEAD and LIMBO_TAIL hides nothing else.
use Rattle.std.proofs.Common.{◌≡◌, ℕ, ◌+◌, ◌≤◌, Bool, false, T, List, sym, refl, ◌∙◌, subst, arith}
use Rattle.routes.specs.Memory.{Mem, sees, counted, stored, none_to}
use Rattle.routes.specs.Routes.{Route}
use Rattle.routes.specs.Late.Rows.{AllRow, OnlyLate}
use Rattle.routes.specs.Late.View.{masked, view}
use Rattle.routes.specs.Invariant.Ghosts.{Ghost, heads, calm}
use Rattle.routes.specs.Invariant.Memories.{HeadStore, CalmStore, RowOk, Core}
use Rattle.routes.proofs.Late.Rows.{all_weaker, all_end, none_to_lem}
use Rattle.routes.proofs.Late.Only.{row-stored, only_none_to}
use Rattle.routes.proofs.Late.Sees.{sees_untouched}
use Rattle.routes.proofs.Late.View.{view_open}

-- the late stores of h go to LIMBO_HEAD and LIMBO_TAIL
abbrev pub HeadsRow : ℕ → Mem → Type 0
HeadsRow h m = AllRow HeadStore (m.late h)

-- A row of that kind is one.
pub heads_row : (m : Mem) (h : ℕ) (l : Bool) (g : Ghost) (rs : List Route) (t : ℕ) → Core m h l g rs t → g.row ≡ heads → HeadsRow h m
unfolding RowOk
heads_row m h l g rs t o e = subst (λ z. RowOk z m h g (view h m 0 2)) e o.row

-- And back.
pub row_heads : (m : Mem) (h : ℕ) (g : Ghost) (epoch : ℕ) → g.row ≡ heads → HeadsRow h m → RowOk g.row m h g epoch
unfolding RowOk
row_heads m h g epoch e r = subst (λ z. RowOk z m h g epoch) (sym e) r

-- It is calm, whatever is fresh.
pub heads_calm : (m : Mem) (h : ℕ) (g : Ghost) (epoch : ℕ) → g.row ≡ calm → HeadsRow h m → RowOk g.row m h g epoch
unfolding RowOk
heads_calm m h g epoch e r = subst (λ z. RowOk z m h g epoch) (sym e)
    (all_weaker HeadStore (CalmStore g.fresh epoch) (λ b w x s. ((λ z. (omega (arith, s.1), s.2, λ two. absurd (omega (arith, s.1)))), (λ n k. absurd (n s.0)))) (m.late h) r)

-- Other words are seen as they are there.
pub heads_sees : (m : Mem) (h b w : ℕ) → HeadsRow h m → ((b ≡ 0) × (3 ≤ w) × (w ≤ 4) → ⊥) → sees h b w m ≡ m.val b w
heads_sees m h b w r n = sees_untouched HeadStore h b w m (λ x s. n s) r

-- What is viewed of them is there.
pub heads_view : (m : Mem) (h b w : ℕ) → HeadsRow h m → ((b ≡ 0) × (3 ≤ w) × (w ≤ 4) → ⊥) → masked b w ≡ false → view h m b w ≡ m.val b w
heads_view m h b w r n shows = view_open h m b w shows ∙ heads_sees m h b w r n

-- EPOCH as others see it is the holder's.
pub heads_epoch : (m : Mem) (h : ℕ) → HeadsRow h m → view h m 0 2 ≡ m.val 0 2
heads_epoch m h r = heads_view m h 0 2 r (λ s. omega (arith, s.1)) refl

-- What a processor has announced is seen.
pub heads_active : (m : Mem) (h q : ℕ) → HeadsRow h m → sees h 0 (16 + q) m ≡ m.val 0 (16 + q)
heads_active m h q r = heads_sees m h 0 (16 + q) r (λ s. omega (arith, s.2))

-- A block but the header is seen as it is there.
pub heads_block : (m : Mem) (h b w : ℕ) → HeadsRow h m → (b ≡ 0 → ⊥) → sees h b w m ≡ m.val b w
heads_block m h b w r n = heads_sees m h b w r (λ s. n s.0)

-- No late store of anybody goes to it.
pub heads_none_to : (m : Mem) (h b : ℕ) → OnlyLate h m → HeadsRow h m → (b ≡ 0 → ⊥) → (q : ℕ) → T (none_to b (m.late q))
heads_none_to m h b only r n = only_none_to h b m only (none_to_lem HeadStore b (λ w x s. n s.0) (m.late h) r)

-- One more store of that kind.
pub heads_stored : (m : Mem) (h w x : ℕ) → 3 ≤ w → w ≤ 4 → HeadsRow h m → HeadsRow h (counted (stored h 0 w x m))
heads_stored m h w x l k r = subst (AllRow HeadStore) (sym (row-stored h 0 w x m)) (all_end HeadStore (m.late h) 0 w x r (refl, l, k))
