use Rattle.std.proofs.Common.{replicate, ap, ◌∙◌, length-take-le, rules}
use Rattle.memory.proofs.Starts.{first_cleared}
use Rattle.memory.proofs.start.clear_first.Goals as goal

pub returns : goal.returns
returns c =
    let cleared = first_cleared c.fill.new.self c.args.words.now (c.fill.ensures.after (λ y e. search rules) ∙ ap (λ n. replicate n 0) (length-take-le 48 _ c.requires)) in
    record { noughts = cleared.0; kept = cleared.1 }
