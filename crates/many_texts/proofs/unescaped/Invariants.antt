-- What is left of the text with escapes gets shorter in each turn.
use Rattle.std.proofs.Common.{length}
use Rattle.many_texts.proofs.unescaped.Given as goal

abbrev pub decreases-loop-rest : goal.decreases-loop-rest
decreases-loop-rest l = length l.rest
