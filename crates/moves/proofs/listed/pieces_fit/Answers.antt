use Rattle.std.proofs.Common.{◌<◌, ◌≤◌, get_or, rules}
use borrow.Author.Tests.{tests}
use Rattle.std.proofs.lemmas.Iterator.{cases_from_all, YieldsList-from_slice}
use Rattle.moves.proofs.Moves.{fit_told}
use Rattle.moves.proofs.listed.pieces_fit.Goals as goal

pub returns : goal.returns
returns c =
    let pairs = c.as_chunks.result.0.now in
    let told = cases_from_all _ _ _ (λ pair. get_or pair 0 0 < 512) (λ pair. 512 ≤ get_or pair 0 0) c.all.ensures.ran (YieldsList-from_slice pairs c.iter.ensures.rest) (λ x q k. search (rules, tests)) (λ x q k. search (rules, tests)) in
    let fit = fit_told c.args.count c.args.at c.args.words.now c.in-Some.pieces.now c.in-Some.ensures.lookup.0.1 c.in-Some.ensures.lookup.0.2 pairs c.as_chunks.ensures.front c.all.result told c.as_chunks.ensures.front_len in
    record { sound = fit.0; exact = fit.1 }
