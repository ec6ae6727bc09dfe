use Rattle.std.proofs.Common.{◌≡◌, length, inl, inr, arith}
use Rattle.std.proofs.lemmas.Bool.{cases_lt, eq-eqb}
use Rattle.std.proofs.lemmas.Bool.Decides.{nat_tests}
use Rattle.moves.specs.Moves.{width_of, more}
use Rattle.moves.proofs.Moves.{moves_behind, moves_not, moves_end}
use Rattle.moves.proofs.listed.all_moves.Goals as goal

pub loop-listed-preserved : goal.loop-listed-preserved
loop-listed-preserved c =
    let m = c.in-Some.ensures in
    let w : c.width-at.result ≡ width_of c.in-Some.listed = c.width-at.ensures.value in
    let i = c.loop-listed.invariant in
    record {
      inside = omega (arith, m.body.long, w);
      before = λ a. i.before (more c.in-Some.listed m (rw w at a));
      behind = λ a. rw w (moves_behind c.args.cpus c.args.words.now c.loop-listed.at c.in-Some.listed m (i.behind a));
    }

pub returns : goal.returns
returns c =
    let i = c.loop-listed.invariant in
    record {
      sound = λ t. i.before (moves_end c.args.cpus c.args.words.now c.loop-listed.at (let e : c.loop-listed.at ≡ length c.args.words.now = grind (arith, nat_tests, t) in e));
      exact = λ a. elim (cases_lt c.loop-listed.at (length c.args.words.now)) [
        | inl h ↦ absurd (moves_not c.args.cpus c.args.words.now c.loop-listed.at h c.in_default.ensures (i.behind a))
        | inr h ↦ rw (eq-eqb c.loop-listed.at (length c.args.words.now) (omega (arith, h, i.inside))) tt
      ];
    }
