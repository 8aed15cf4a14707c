-- A manager is one whatever spans its clock may tell.
use Rattle.std.proofs.Common.{ℕ, [], ◌∷◌}
use Rattle.onvm_base.specs.declared.ids.RingId.TheVariants.{Lane, Output, Mail}
use Rattle.onvm_base.specs.declared.plan.Plan.{Plan}
use Rattle.onvm_core.specs.declared.step.Act.{Act}
use Rattle.onvm_core.specs.declared.step.Act.TheVariants.{Split, Join, Take, Give, Push, Full, Pop, Empty, Look, Post}
use Rattle.onvm_core.specs.declared.step.Item.TheVariants.{Buffer, Number}
use Rattle.onvm_core.specs.Logs.{Log}
use Rattle.onvm_board.specs.Tokens.{BoardView, TokenView, split_token}
use Rattle.nf_api.specs.Acts.{Acts}
use Rattle.nf_api.specs.Tree.{Tree}
use Rattle.onvm_promises.specs.Sampling.{AreTimed, MayTime}
use Rattle.onvm_session.specs.declared.manager.Manager.{Manager}
use Rattle.onvm_session.specs.declared.role.Role.{Role}
use Rattle.onvm_session.specs.declared.role.Role.TheVariants.{Receive, Send, Handle, Tick}
use Rattle.onvm_session.specs.Managers.{IsManager}
use Rattle.onvm_session.specs.RoleStates.{IsReady}
use Rattle.onvm_session.specs.Runs.{any_span}

may_time : (cost_may_take : ℕ → ℕ → Type 0) (plan : Plan) (act : Act) → MayTime cost_may_take plan act
    → MayTime any_span plan act
may_time cost_may_take plan (Push (Mail f) (Number n)) may = (may.0, tt, may.2)
may_time cost_may_take plan (Push (Mail f) (Buffer b p)) may = tt
may_time cost_may_take plan (Push (Lane f a) item) may = tt
may_time cost_may_take plan (Push (Output f) item) may = tt
may_time cost_may_take plan (Split a) may = tt
may_time cost_may_take plan (Join a) may = tt
may_time cost_may_take plan (Take a) may = tt
may_time cost_may_take plan (Give a b p) may = tt
may_time cost_may_take plan (Full a) may = tt
may_time cost_may_take plan (Pop a b) may = tt
may_time cost_may_take plan (Empty a) may = tt
may_time cost_may_take plan (Look a b d) may = tt
may_time cost_may_take plan (Post a b) may = tt

timed : (cost_may_take : ℕ → ℕ → Type 0) (plan : Plan) (log : Log) → AreTimed cost_may_take plan log
    → AreTimed any_span plan log
timed cost_may_take plan [] are = tt
timed cost_may_take plan (act ∷ before) are =
    (may_time cost_may_take plan act are.0, timed cost_may_take plan before are.1)

ready : {I N : Type 0} (acts : N → Acts) (state : N → Tree) (cost_may_take : ℕ → ℕ → Type 0) (site : BoardView)
    (plan : Plan) (token : TokenView) (role : Role I N) → IsReady acts state cost_may_take site plan token role
    → IsReady acts state any_span site plan token role
ready acts state cost_may_take site plan token (Receive rx) is = is
ready acts state cost_may_take site plan token (Send tx) is = is
ready acts state cost_may_take site plan token (Handle core) is = (is.0, timed cost_may_take plan token.log is.1)
ready acts state cost_may_take site plan token (Tick tick) is = is

pub any_spans : {I N : Type 0} (acts : N → Acts) (state : N → Tree) (cost_may_take : ℕ → ℕ → Type 0) (plan : Plan)
    (manager : Manager I N) → IsManager acts state cost_may_take plan manager
    → IsManager acts state any_span plan manager
any_spans acts state cost_may_take plan manager is = record {
  layout_is = is.layout_is;
  layout_of = is.layout_of;
  ranges = is.ranges;
  registry = is.registry;
  first = is.first;
  joined = is.joined;
  kept = is.kept;
  many = is.many;
  places = is.places;
  ready = λ r role found.
      ready acts state cost_may_take manager.board plan (split_token r manager.first) role (is.ready r role found);
}
