use Rattle.rx_feed.proofs.Stopping.{broken_capture, failed_take, large_capture, whole_capture}
use Rattle.rx_feed.proofs.laws.what_stopped_a_port_stands_in_its_capture.Goals as goal

pub returns-clause-ended : goal.returns-clause-ended
returns-clause-ended c = whole_capture

pub returns-clause-broken : goal.returns-clause-broken
returns-clause-broken c = broken_capture

pub returns-clause-too_many : goal.returns-clause-too_many
returns-clause-too_many c = large_capture

pub returns-clause-read : goal.returns-clause-read
returns-clause-read c = failed_take
