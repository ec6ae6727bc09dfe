-- Retired nodes linked in memory: what a chain looks at, its end, and chains put together.
use Rattle.std.proofs.Common.{◌≡◌, ℕ, zero, suc, ◌+◌, ◌<◌, ◌≤◌, false, eqb, ◌⊎◌, List, [], ◌∷◌, ◌++◌, sym, refl, ap, ◌∙◌, inl, inr, arith}
use Rattle.std.proofs.lemmas.Bool.Decides.{nat_tests}
use Rattle.std.proofs.lemmas.Bool.{eq-eqb, ne_eqb}
use Rattle.routes.specs.Memory.{set_val}
use Rattle.routes.specs.Counts.Counts.{cnt, seg}
use Rattle.routes.specs.Invariant.Memories.{Chain, last_from}

-- A chain stays if the links of its nodes do.
pub chain_stays : (v u : ℕ → ℕ → ℕ) (x : ℕ) (bs : List ℕ) → ((b : ℕ) → 1 ≤ cnt b bs → u b 32 ≡ v b 32) → Chain v x bs → Chain u x bs
unfolding Chain cnt
chain_stays v u x [] h k = k
chain_stays v u x (b ∷ bs) h k = (k.0, k.1, rw (h b (rw (eq-eqb b b refl) (omega arith))) (chain_stays v u _ bs (λ c n. h c (omega arith)) k.2))

-- Its nodes are blocks other than 0.
pub chain_real : (v : ℕ → ℕ → ℕ) (x : ℕ) (bs : List ℕ) → Chain v x bs → (b : ℕ) → 1 ≤ cnt b bs → b ≡ 0 → ⊥
unfolding Chain cnt
chain_real v x [] k b n z = omega arith
chain_real v x (c ∷ bs) k b n z =
    let first : c ≡ 0 → ⊥ = λ e. k.1 (k.0 ∙ e) in
    let later : 1 ≤ cnt b bs → ⊥ = λ n. chain_real v (v c 32) bs k.2 b n z in
    grind (arith, nat_tests)

-- It does not look at the header.
pub chain_header : (v u : ℕ → ℕ → ℕ) (x : ℕ) (bs : List ℕ) → ((b : ℕ) → (b ≡ 0 → ⊥) → u b 32 ≡ v b 32) → Chain v x bs → Chain u x bs
chain_header v u x bs h k = chain_stays v u x bs (λ b n. h b (chain_real v x bs k b n)) k

-- It stays if a word of a block is set that it has not.
pub chain_set : (v : ℕ → ℕ → ℕ) (x b w y : ℕ) (bs : List ℕ) → cnt b bs ≡ 0 → Chain v x bs → Chain (set_val b w y v) x bs
chain_set v x b w y bs n k = chain_stays v (set_val b w y v) x bs (λ c m. rw (ne_eqb c b (λ e. (let z : cnt c bs ≡ cnt b bs = ap (λ d. cnt d bs) e in omega arith))) refl) k

-- Nothing begins an empty chain, and its first node any other.
pub chain_first : (v : ℕ → ℕ → ℕ) (x : ℕ) (bs : List ℕ) → Chain v x bs → ((x ≡ 0) × (bs ≡ [])) ⊎ ((x ≡ 0 → ⊥) × ((cs : List ℕ) × (bs ≡ x ∷ cs)))
unfolding Chain
chain_first v x [] k = inl (k, refl)
chain_first v x (b ∷ bs) k = inr (k.1, (bs, ap (λ z. z ∷ bs) (sym k.0)))

-- Without its first node it begins at the next.
pub chain_rest : (v : ℕ → ℕ → ℕ) (x b : ℕ) (bs : List ℕ) → Chain v x (b ∷ bs) → Chain v (v b 32) bs
unfolding Chain
chain_rest v x b bs k = k.2

-- Where nothing follows, nothing is left.
pub chain_none : (v : ℕ → ℕ → ℕ) (x : ℕ) (bs : List ℕ) → Chain v x bs → x ≡ 0 → bs ≡ []
chain_none v x bs k e = elim (chain_first v x bs k) [ inl f ↦ f.1 | inr f ↦ absurd (f.0 e) ]

-- Where something follows, the last node is the last of the rest.
pub last_rest : (v : ℕ → ℕ → ℕ) (x y z : ℕ) (bs : List ℕ) → Chain v x bs → (x ≡ 0 → ⊥) → last_from y bs ≡ last_from z bs
unfolding Chain last_from
last_rest v x y z [] k n = absurd (n k)
last_rest v x y z (b ∷ bs) k n = refl

-- The last node stands in the list.
pub last_in : (c : ℕ) (bs : List ℕ) → 1 ≤ cnt (last_from c bs) (c ∷ bs)
unfolding last_from cnt
last_in c [] = rw (eq-eqb c c refl) (omega arith)
last_in c (d ∷ bs) = omega (arith, last_in d bs)

-- So does that of a list with an end.
pub last_of : (bs : List ℕ) → (last_from 0 bs ≡ 0 → ⊥) → 1 ≤ cnt (last_from 0 bs) bs
unfolding last_from
last_of [] n = absurd (n refl)
last_of (b ∷ bs) n = last_in b bs

-- The last of one joined to the first of the other makes one chain.
chain_join : (v : ℕ → ℕ → ℕ) (x y c : ℕ) (bs ls : List ℕ) → ((b : ℕ) → cnt b (c ∷ bs) + cnt b ls ≤ 1) → Chain v x (c ∷ bs) → Chain v y ls →
    Chain (set_val (last_from c bs) 32 y v) x ((c ∷ bs) ++ ls)
unfolding Chain cnt last_from
chain_join v x y c [] ls u k l =
    let n : cnt c ls ≡ 0 = (let z = u c in let q = eq-eqb c c refl in grind (arith, nat_tests)) in
    (k.0, k.1, rw (eq-eqb c c refl) (chain_set v y c 32 y ls n l))
chain_join v x y c (d ∷ bs) ls u k l =
    let ih = chain_join v (v c 32) y d bs ls (λ b. (let z = u b in omega arith)) k.2 l in
    let n : eqb c (last_from d bs) ≡ false = ne_eqb c (last_from d bs) (λ e. (let a = last_in d bs in let z = u (last_from d bs) in let q = eq-eqb (last_from d bs) c (sym e) in grind (arith, nat_tests))) in
    (k.0, k.1, rw n ih)

-- The same, of a chain that is not empty.
pub join_chain : (v : ℕ → ℕ → ℕ) (x y b : ℕ) (bs ls : List ℕ) → (b ≡ 0 → ⊥) → b ≡ last_from 0 bs → ((k : ℕ) → cnt k bs + cnt k ls ≤ 1) → Chain v x bs → Chain v y ls → Chain (set_val b 32 y v) x (bs ++ ls)
unfolding last_from
join_chain v x y b [] ls n e u k l = absurd (n e)
join_chain v x y b (c ∷ bs) ls n e u k l = rw e (chain_join v x y c bs ls u k l)

-- The last of two lists is the last of the second, if it has one.
pub last-++ : (x y c : ℕ) (bs ls : List ℕ) → last_from x (bs ++ (c ∷ ls)) ≡ last_from y (c ∷ ls)
unfolding last_from
last-++ x y c [] ls = refl
last-++ x y c (b ∷ bs) ls = last-++ b y c bs ls

-- Words that are linked one to the next, and the last to nothing, are a chain.
pub chain_seg : (v : ℕ → ℕ → ℕ) (f : ℕ → ℕ) (i n : ℕ) → ((j : ℕ) → j < suc n → f (i + j) ≡ 0 → ⊥) → ((j : ℕ) → j < n → v (f (i + j)) 32 ≡ f (i + suc j)) → v (f (i + n)) 32 ≡ 0 → Chain v (f i) (seg f i (suc n))
unfolding Chain seg
chain_seg v f i zero nz h e =
    let q : i + 0 ≡ i = omega arith in
    (refl, rw q at (nz 0 (omega arith)), rw q at e)
chain_seg v f i (suc n) nz h e =
    let q : i + 0 ≡ i = omega arith in
    let q1 : i + 1 ≡ suc i = omega arith in
    let g : v (f i) 32 ≡ f (suc i) = rw (q, q1) at (h 0 (omega arith)) in
    let ih : Chain v (f (suc i)) (seg f (suc i) (suc n)) = chain_seg v f (suc i) n
    (λ j l. (let k : suc i + j ≡ i + suc j = omega arith in rw k (nz (suc j) (omega arith))))
    (λ j l. (let k : suc i + j ≡ i + suc j = omega arith in let k1 : suc i + suc j ≡ i + suc (suc j) = omega arith in rw (k, k1) (h (suc j) (omega arith))))
    (let k : suc i + n ≡ i + suc n = omega arith in rw k e) in
    (refl, rw q at (nz 0 (omega arith)), (g, λ z. ih.1 (sym g ∙ z), ih.2))

-- The last of a part of a function.
pub last_seg : (f : ℕ → ℕ) (x i n : ℕ) → last_from x (seg f i (suc n)) ≡ f (i + n)
unfolding last_from seg
last_seg f x i zero = let q : i + 0 ≡ i = omega arith in rw q refl
last_seg f x i (suc n) = let q : i + suc n ≡ suc i + n = omega arith in rw q (last_seg f (f i) (suc i) n)

-- From a node on, a chain does not end in 0.
last_real : (v : ℕ → ℕ → ℕ) (x y : ℕ) (bs : List ℕ) → Chain v x bs → (y ≡ 0 → ⊥) → last_from y bs ≡ 0 → ⊥
unfolding Chain last_from
last_real v x y [] k n e = n e
last_real v x y (b ∷ bs) k n e = last_real v (v b 32) b bs k.2 (λ z. k.1 (k.0 ∙ z)) e

-- Only an empty chain ends in 0.
pub ends_empty : (v : ℕ → ℕ → ℕ) (x : ℕ) (bs : List ℕ) → Chain v x bs → last_from 0 bs ≡ 0 → bs ≡ []
unfolding Chain last_from
ends_empty v x [] k e = refl
ends_empty v x (b ∷ bs) k e = absurd (last_real v (v b 32) b bs k.2 (λ z. k.1 (k.0 ∙ z)) e)
