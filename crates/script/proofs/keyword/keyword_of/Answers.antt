use Rattle.std.proofs.Common.{◌≡◌, codes, refl, arith}
use Rattle.std.proofs.lemmas.Slice.Eq.{text_from_reads}
use Rattle.script.proofs.keyword.keyword_of.Goals as goal

pub returns-in-find : goal.returns-in-find
returns-in-find c =
    let is : c.args.word.now ≡ codes "find" = text_from_reads _ _ (omega arith) (omega arith, (omega arith, (omega arith, (omega arith, tt)))) in
    rw is refl

pub returns-in-take : goal.returns-in-take
returns-in-take c =
    let is : c.args.word.now ≡ codes "take" = text_from_reads _ _ (omega arith) (omega arith, (omega arith, (omega arith, (omega arith, tt)))) in
    rw is refl

pub returns-in-arrive : goal.returns-in-arrive
returns-in-arrive c =
    let is : c.args.word.now ≡ codes "arrive" = text_from_reads _ _ (omega arith) (omega arith, (omega arith, (omega arith, (omega arith, (omega arith, (omega arith, tt)))))) in
    rw is refl
