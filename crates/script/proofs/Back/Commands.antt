-- Commands that are shown are read back.
use Rattle.std.proofs.Common.{◌≡◌, ℕ, ◌-◌, ◌^◌, ◌<◌, false, ltb, List, [], ◌∷◌, ◌++◌, map, length, get_or, take, replicate, Some, Ok, codes, decimal, All, refl, sym, ap, ◌∙◌, arith, lit<}
use Rattle.std.proofs.lemmas.List.Elements.{All-head, All-tail, All-from_recursion, All-append, All-weaker, All-get_or}
use Rattle.std.proofs.lemmas.List.{length-take-le}
use Rattle.std.proofs.lemmas.Bool.{ne_eqb, lt-ltb}
use Rattle.std.proofs.lemmas.Fmt.{decimal_is_IsNumeral}
use Rattle.std.specs.Option.{ok_or}
use Rattle.std.specs.List.{prefix_len}
use Rattle.routes.specs.declared.Ask.{Ask}
use Rattle.routes.specs.declared.Ask.TheVariants.{Find, Change}
use Rattle.routes.specs.declared.Piece.{Piece}
use Rattle.script.specs.declared.command.Command.{Command}
use Rattle.script.specs.declared.command.Command.TheVariants.{Begin, Go, On, Any, Arrive}
use Rattle.script.specs.declared.expected.Expected.TheVariants as expected
use Rattle.script.specs.declared.processor.Processor.{Processor}
use Rattle.script.specs.Bytes.{letter}
use Rattle.script.specs.Lines.{counted_of, command_of, ask_of, passed, chomped, line_from, line_of}
use Rattle.script.specs.Numbers.{address_of}
use Rattle.script.specs.Pieces.{blank_piece, change_of}
use Rattle.script.specs.Reading.{processor_of, count_of, seed_of}
use Rattle.script.specs.Shown.{after, sentence, hexadecimal, shown_piece, shown_pieces, shown_ask, shown, FitsPiece, FitsChange, FitsAsk, Fits, Among, ReadsBack, ReadsBackAmong}
use Rattle.script.proofs.Numbered.{numbered_is}
use Rattle.script.proofs.Back.Numerals.{decimal_plain, decimal_digits, decimal_below, decimal_other, hexadecimal_plain, address_back}
use Rattle.script.proofs.Back.Pieces.{pieces_all, pieces_back, piece_stops, asks_change}
use Rattle.script.proofs.Back.Plain.{Plain, reads, stops, all_after, all_high}
use Rattle.script.proofs.Back.Sentences.{reads_after, one_back, two_back}

-- A text that has no carriage return loses none.
chomped_same : (t : List ℕ) → All (λ b. 13 < b) t → chomped t ≡ t
chomped_same [] h = refl
chomped_same (c ∷ cs) h =
    let last = All-get_or (λ b. 13 < b) (c ∷ cs) (length (c ∷ cs) - 1) 0 (omega arith) h in
    rw (ne_eqb (get_or (c ∷ cs) (length (c ∷ cs) - 1) 0) 13 (omega arith)) refl

-- A line is its first word and a command after it.
line_back : (most cpus : ℕ) (w t : List ℕ) (c : Command most) → Plain w → All (λ b. 13 < b) t → prefix_len letter t ≡ 0 → passed w ≡ false → command_of most cpus w t ≡ Ok c → line_of most cpus (w ++ t) ≡ Ok (Some c)
line_back most cpus w t c p sound ends other h =
    let r = reads w t p ends in
    let high = All-weaker (λ b. 44 < b) (λ b. 13 < b) (λ x l. omega arith) w p.high in
    ap (line_from most cpus) (chomped_same (w ++ t) (All-append (λ b. 13 < b) w t high sound)) ∙ rw (r.0, r.1, other, h) refl

-- The same of words with blanks between them.
sentence_back : (most cpus : ℕ) (w : List ℕ) (ws : List (List ℕ)) (c : Command most) → Plain w → All Plain ws → passed w ≡ false → command_of most cpus w (after 32 ws) ≡ Ok c → line_of most cpus (sentence (w ∷ ws)) ≡ Ok (Some c)
sentence_back most cpus w ws c p ps other h =
    line_back most cpus w (after 32 ws) c p (all_after (λ b. 13 < b) 32 ws (lit< tt) (all_high (λ b. 13 < b) (λ x l. omega arith) ws ps)) (stops ws) other h

go_plain : Plain (codes "go")
go_plain = record { some = lit< tt; high = All-from_recursion (λ b. 44 < b) (codes "go") (lit< tt, (lit< tt, tt)) }

on_plain : Plain (codes "on")
on_plain = record { some = lit< tt; high = All-from_recursion (λ b. 44 < b) (codes "on") (lit< tt, (lit< tt, tt)) }

any_plain : Plain (codes "any")
any_plain = record { some = lit< tt; high = All-from_recursion (λ b. 44 < b) (codes "any") (lit< tt, (lit< tt, (lit< tt, tt))) }

arrive_plain : Plain (codes "arrive")
arrive_plain = record { some = lit< tt; high = All-from_recursion (λ b. 44 < b) (codes "arrive") (lit< tt, (lit< tt, (lit< tt, (lit< tt, (lit< tt, (lit< tt, tt)))))) }

find_plain : Plain (codes "find")
find_plain = record { some = lit< tt; high = All-from_recursion (λ b. 44 < b) (codes "find") (lit< tt, (lit< tt, (lit< tt, (lit< tt, tt)))) }

-- A number below 2 ^ 32 is read back.
count_back : (n : ℕ) → n < 2 ^ 32 → count_of (decimal n) ≡ Ok n
count_back n h = decimal_below n (omega arith) (2 ^ 32) expected.Count h

count_plain : (n : ℕ) → n < 2 ^ 32 → Plain (decimal n)
count_plain n h = decimal_plain n (omega arith)

module _ (most cpus : ℕ) (few : most < 256) where
  module _ (p : Processor most) (there : p.number < cpus) where
    small : p.number < 2 ^ 64
    small = omega (arith, p.there)

    -- A processor is read back.
    cpu_back : processor_of most cpus (decimal p.number) ≡ Ok p
    unfolding processor_of
    cpu_back =
        let number = (decimal_is_IsNumeral p.number small).1 in
        let below = ap (λ n. ltb n cpus) number ∙ lt-ltb p.number cpus there in
        rw (decimal_digits p.number small, below) (ap (λ o. ok_or o (expected.Processor cpus)) (numbered_is most p _ (sym number)))

    cpu_plain : Plain (decimal p.number)
    cpu_plain = decimal_plain p.number small

    -- What begins on it is read back, if what follows its number is.
    begin_back : (t : List ℕ) (c : Command most) → ask_of p t ≡ Ok c → command_of most cpus (decimal p.number) t ≡ Ok c
    begin_back t c e = rw ((decimal_other p.number small).0, cpu_back, decimal_digits p.number small) e

    find_back : (a : ℕ) → a < 2 ^ 32 → line_of most cpus (sentence (decimal p.number ∷ codes "find" ∷ hexadecimal 8 a ∷ [])) ≡ Ok (Some (Begin p (record { ask = Find a; pieces = replicate 8 blank_piece })))
    find_back a b =
        let plain = hexadecimal_plain 8 a (lit< tt) in
        let r = reads_after (codes "find") (hexadecimal 8 a ∷ []) find_plain in
        let told : ok_or (address_of (hexadecimal 8 a)) expected.Address ≡ Ok a = ap (λ o. ok_or o expected.Address) (address_back a b) in
        let each = All-from_recursion Plain (codes "find" ∷ hexadecimal 8 a ∷ []) (find_plain, (plain, tt)) in
        sentence_back most cpus (decimal p.number) (codes "find" ∷ hexadecimal 8 a ∷ []) _ cpu_plain each (decimal_other p.number small).1
        (begin_back _ _ (rw (r.0, r.1) (one_back (λ w. ok_or (address_of w) expected.Address) expected.End (λ x. Begin p (record { ask = Find x; pieces = replicate 8 blank_piece })) (hexadecimal 8 a) a plain told)))

    change_back : (n : ℕ) (ps : List Piece) → FitsChange n ps → line_of most cpus (decimal p.number ++ shown_pieces (take n ps)) ≡ Ok (Some (Begin p (record { ask = Change n; pieces = ps })))
    change_back n ps f = by (take n ps) (omega (arith, length-take-le n ps (omega (arith, f.row, f.few)), f.some)) f.each (pieces_back n ps f)
      where
        by : (qs : List Piece) → 0 < length qs → All FitsPiece qs → change_of (shown_pieces qs) ≡ Ok (record { count = n; pieces = ps }) → line_of most cpus (decimal p.number ++ shown_pieces qs) ≡ Ok (Some (Begin p (record { ask = Change n; pieces = ps })))
        by [] some g e = absurd (omega arith)
        by (q ∷ qs) some g e =
            let all = pieces_all (λ b. 13 < b) (lit< tt) (λ x l. omega arith) (q ∷ qs) g in
            let others = after 44 (map shown_piece qs) in
            let first = All-head (All (λ b. 13 < b)) (shown_piece q) (map shown_piece qs) all in
            let behind = All-tail (All (λ b. 13 < b)) (shown_piece q) (map shown_piece qs) all in
            let sound = All-append (λ b. 13 < b) (shown_piece q) others first (all_after (λ b. 13 < b) 44 (map shown_piece qs) (lit< tt) behind) in
            line_back most cpus (decimal p.number) (shown_pieces (q ∷ qs)) _ cpu_plain sound (piece_stops q others) (decimal_other p.number small).1
            (begin_back _ _ (asks_change p q others ∙ rw e refl))

    -- Whatever is asked of it is read back.
    asked_back : (k : Ask) (ps : List Piece) → FitsAsk k ps → line_of most cpus (shown_ask p.number k ps) ≡ Ok (Some (Begin p (record { ask = k; pieces = ps })))
    asked_back (Find a) ps f = rw f.1 (find_back a f.0)
    asked_back (Change n) ps f = change_back n ps f

  -- A processor and how many are read back.
  counted_back : (p : Processor most) (n : ℕ) → p.number < cpus → n < 2 ^ 32 → counted_of most cpus (after 32 (decimal p.number ∷ decimal n ∷ [])) ≡ Ok (p, n)
  unfolding counted_of
  counted_back p n there f = two_back (processor_of most cpus) count_of expected.End (λ q m. (q, m)) _ _ p n (cpu_plain p there) (count_plain n f) (cpu_back p there) (count_back n f)

  pub read_back : (c : Command most) → Among cpus c → Fits c → line_of most cpus (shown c) ≡ Ok (Some c)
  read_back (Begin p r) a f = asked_back p a r.ask r.pieces f
  read_back (Go p n) a f =
      let each = All-from_recursion Plain (decimal p.number ∷ decimal n ∷ []) (cpu_plain p a, (count_plain n f, tt)) in
      sentence_back most cpus (codes "go") (decimal p.number ∷ decimal n ∷ []) _ go_plain each refl
      (rw (counted_back p n a f) refl)
  read_back (On p) a f =
      let each = All-from_recursion Plain (decimal p.number ∷ []) (cpu_plain p a, tt) in
      sentence_back most cpus (codes "on") (decimal p.number ∷ []) _ on_plain each refl
      (one_back (processor_of most cpus) expected.End On _ p (cpu_plain p a) (cpu_back p a))
  read_back (Any s n) a f =
      let each = All-from_recursion Plain (decimal s ∷ decimal n ∷ []) (decimal_plain s f.0, (count_plain n f.1, tt)) in
      sentence_back most cpus (codes "any") (decimal s ∷ decimal n ∷ []) _ any_plain each refl
      (two_back seed_of count_of expected.End Any _ _ s n (decimal_plain s f.0) (count_plain n f.1) (decimal_below s f.0 (2 ^ 64) expected.Seed f.0) (count_back n f.1))
  read_back (Arrive p n) a f =
      let each = All-from_recursion Plain (decimal p.number ∷ decimal n ∷ []) (cpu_plain p a, (count_plain n f, tt)) in
      sentence_back most cpus (codes "arrive") (decimal p.number ∷ decimal n ∷ []) _ arrive_plain each refl
      (rw (counted_back p n a f) refl)

-- Its processor is one of as many as its type says.
own_among : (cpus : ℕ) (c : Command cpus) → Among cpus c
own_among cpus (Begin p r) = p.there
own_among cpus (Go p n) = p.there
own_among cpus (On p) = p.there
own_among cpus (Any s n) = tt
own_among cpus (Arrive p n) = p.there

-- The promises.
pub reads_back_among : ReadsBackAmong
reads_back_among = read_back

pub reads_back_lem : ReadsBack
reads_back_lem cpus few c f = read_back cpus cpus few c (own_among cpus c) f
