use Rattle.std.proofs.Common.{◌≡◌, ◌≢◌, None, Ok, rules}
use Rattle.rx_feed.specs.declared.fault.FeedFault.TheVariants.{Read}
use Rattle.rx_feed.specs.declared.stream.Answer.TheVariants.{Stop}
use Rattle.rx_feed.proofs.Streaming.{admitted_since}
use Rattle.rx_feed.proofs.stream.Stream.next.Goals as goal

pub returns-in-Frame-clause-since : goal.returns-in-Frame-clause-since
returns-in-Frame-clause-since g c = λ left takes since.
    let sound : c.pull.new.self.fault ≡ None = search rules in
    let other : c.pull.result ≢ Ok (Stop Read) = search rules in
    admitted_since left _ takes _ c.pull.new.self c.admit.new.self c.admit.result c.admit.ensures.some c.admit.ensures.none
    sound c.admit.ensures.same.1 c.admit.ensures.same.2 (c.pull.ensures.since other left takes since)
