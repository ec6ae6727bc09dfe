use Rattle.std.proofs.Common.{◌<◌, ◌≢◌, length, refl, arith, get_or-set_other, get_or-set_same, below_more}
use Rattle.moves.proofs.Moves.{pair_count, pair_first, pair_second}
use Rattle.moves.proofs.list.read_pieces.Goals as goal

pub read_piece-requires : goal.read_piece-requires
read_piece-requires c =
    let fit = c.requires.0 in
    let inside : c.loop-k.k < c.args.count = omega (arith, c.loop-k-test.true, c.as_chunks.ensures.front_len, pair_count c.args.count c.args.at c.args.words.now _ fit.long refl) in
    rw (pair_first c.args.count c.args.at c.args.words.now _ fit.long refl c.as_chunks.result.0.now c.as_chunks.ensures.front c.loop-k.k inside) (fit.low c.loop-k.k inside)

pub loop-k-preserved : goal.loop-k-preserved
loop-k-preserved c =
    let fit = c.requires.0 in
    let inside : c.loop-k.k < c.args.count = omega (arith, c.loop-k-test.true, c.as_chunks.ensures.front_len, pair_count c.args.count c.args.at c.args.words.now _ fit.long refl) in
    let first = pair_first c.args.count c.args.at c.args.words.now _ fit.long refl c.as_chunks.result.0.now c.as_chunks.ensures.front c.loop-k.k inside in
    let second = pair_second c.args.count c.args.at c.args.words.now _ fit.long refl c.as_chunks.result.0.now c.as_chunks.ensures.front c.loop-k.k inside in
    let room : c.loop-k.k < length c.loop-k.row = omega (arith, inside, c.requires.1, c.loop-k.auto.row) in
    below_more _ _
    (λ k h. let ne : k ≢ c.loop-k.k = omega (arith, h) in rw get_or-set_other (c.loop-k.invariant k h))
    (rw get_or-set_same (rw (first, second) at c.read_piece.ensures))
