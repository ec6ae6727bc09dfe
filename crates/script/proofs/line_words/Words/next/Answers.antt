use Rattle.std.proofs.Common.{◌≡◌, take, drop, ap, ◌∙◌}
use Rattle.script.specs.Words.{word, past, started, extent}
use Rattle.script.proofs.line_words.Words.next.Goals as goal

pub returns : goal.returns
unfolding word past
returns c =
    let text : c.split_at.result.1.now ≡ started c.args.self.now.rest.now =
    c.split_at.ensures.back ∙ ap (λ n. drop n c.args.self.now.rest.now) c.blanks.ensures.value in
    record {
      word = c.split_at-2.ensures.front ∙ ap (λ n. take n c.split_at.result.1.now) c.word_len.ensures.value ∙ ap (λ t. take (extent t) t) text;
      rest = c.split_at-2.ensures.back ∙ ap (λ n. drop n c.split_at.result.1.now) c.word_len.ensures.value ∙ ap (λ t. drop (extent t) t) text;
    }
