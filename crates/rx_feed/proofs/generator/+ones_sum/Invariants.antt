use Rattle.std.proofs.Common.{length}
use Rattle.rx_feed.proofs.generator.+ones_sum.Given as goal

abbrev pub decreases-ones_sum : goal.decreases-ones_sum
decreases-ones_sum l = length l.words.now
