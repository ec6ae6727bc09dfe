use Rattle.std.proofs.Common.{arith}
use Rattle.port.proofs.Words.{Fit, reads}
use Rattle.port.proofs.registers.RegisterWordsFromRegisters.from.Goals as goal

fit : (c : goal.After-best_word) → Fit c.args.r
fit c = record {
  phase = grind arith;
  state = grind arith;
  size = grind arith;
  need = grind arith;
  got = grind arith;
  used = grind arith;
  retired = grind arith;
  root = grind arith;
  epoch = grind arith;
  index = grind arith;
  node = grind arith;
  next = grind arith;
  level = grind arith;
  word = grind arith;
  first = grind arith;
}

pub returns : goal.returns
returns c = reads c.args.r c.best_word.result (fit c) c.best_word.ensures.small c.best_word.ensures.same
