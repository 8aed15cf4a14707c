use Rattle.std.proofs.Common.{◌∙◌, ap, refl}
use Rattle.nf_exec.specs.Stations.{functions_of}
use Rattle.onvm_session.proofs.NewRoles.{core_new}
use Rattle.onvm_session.proofs.new_roles.handler.Goals as goal

pub returns : goal.returns
returns g c = λ site plan units feeds first core of new long own.
    let start = c.start.ensures in
    core_new _ _ _ _ _ site plan units feeds first core _ c.start.result of refl long
    (ap (λ stations. functions_of stations.items) start.stations ∙ new.stations.functions_are)
    (start.units ∙ c.from_vec.ensures ∙ own) (start.began ∙ c.from_vec.ensures ∙ own)
    (λ token fresh. start.role site plan core token new fresh)
