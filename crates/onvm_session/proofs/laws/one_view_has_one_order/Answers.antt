use Rattle.onvm_session.proofs.Reading.{one_order, others_are}
use Rattle.onvm_session.proofs.laws.one_view_has_one_order.Goals as goal

pub returns-clause-told : goal.returns-clause-told
returns-clause-told c setting = others_are setting.layout

pub returns-clause-same : goal.returns-clause-same
returns-clause-same c setting = one_order setting.layout
