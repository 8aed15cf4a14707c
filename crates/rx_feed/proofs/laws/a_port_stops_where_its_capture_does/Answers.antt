use Rattle.rx_feed.proofs.Stopping.{breaks_where_it_does, ends_where_it_does, passes_where_it_does}
use Rattle.rx_feed.proofs.laws.a_port_stops_where_its_capture_does.Goals as goal

pub returns-clause-ended : goal.returns-clause-ended
returns-clause-ended c = ends_where_it_does

pub returns-clause-broken : goal.returns-clause-broken
returns-clause-broken c = breaks_where_it_does

pub returns-clause-too_many : goal.returns-clause-too_many
returns-clause-too_many c = passes_where_it_does
