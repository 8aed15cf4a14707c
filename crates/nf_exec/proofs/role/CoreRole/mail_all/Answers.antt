use Rattle.std.proofs.Common.{◌<◌, ◌∙◌, refl, subst, arith, List, length}
use Rattle.nf_exec.specs.declared.station.Station.{Station}
use Rattle.nf_exec.specs.Roles.{HasMailed}
use Rattle.nf_exec.proofs.Mailing.{done_next, mailed_next, mailed_none, rest_next}
use Rattle.nf_exec.proofs.StationLists.{as_long, item_there}
use Rattle.nf_exec.proofs.role.CoreRole.mail_all.Goals as goal

pub loop-at-init : goal.loop-at-init
loop-at-init g c = record {
  mailed = mailed_none c.args.board.now c.args.self.now.stations.items c.args.token.now;
  done = λ i s below under s_is. absurd (omega (arith, below));
  ahead = λ i s above under s_is. s_is;
  functions = refl;
  work = c.requires.work;
  units = (refl, refl);
  kept = refl;
}

pub mail_at-requires-clause-few : goal.mail_at-requires-clause-few
mail_at-requires-clause-few g c s s_is =
    let was = c.loop-at.invariant in
    let less : c.loop-at.at < c.len-at-end.result = c.loop-at-test.true in
    let long = as_long c.args.self.now.stations.items c.loop-at.self.stations.items was.functions in
    let known : c.loop-at.at < length c.args.self.now.stations.items = omega (arith, less, c.len-at-end.ensures) in
    let first = was.ahead c.loop-at.at s (omega arith) (omega (arith, known, long)) s_is in
    let few = c.requires.few c.loop-at.at s known first in
    (omega (arith, few), c.requires.times c.loop-at.at s known first)

pub loop-at-preserved : goal.loop-at-preserved
loop-at-preserved g c =
    let was = c.loop-at.invariant in
    let is = c.mail_at.ensures in
    let stations : List Station = c.loop-at.self.stations.items in
    let first : List Station = c.args.self.now.stations.items in
    let less : c.loop-at.at < c.len-at-end.result = c.loop-at-test.true in
    let long = as_long first stations was.functions in
    let known : c.loop-at.at < length first = omega (arith, less, c.len-at-end.ensures) in
    let here : c.loop-at.at < length stations = omega (arith, known, long) in
    let s = item_there stations c.loop-at.at here in
    let s_first = was.ahead c.loop-at.at s.0 (omega arith) here s.1 in
    let sent = is.mailed s.0 s.1 in
    record {
      mailed = mailed_next c.args.board.now first c.loop-at.at s.0 sent.0 c.args.token.now c.loop-at.token
          c.mail_at.new.token known s_first c.requires.work.functions
          (was.work.stations.each c.loop-at.at s.0 here s.1).count (c.requires.times c.loop-at.at s.0 known s_first)
          was.mailed sent.1;
      done = done_next stations c.mail_at.new.self.stations.items c.loop-at.at is.others is.count was.done;
      ahead = rest_next first stations c.mail_at.new.self.stations.items c.loop-at.at is.others was.ahead;
      functions = is.others.functions ∙ was.functions;
      work = is.work;
      units = (is.units.0 ∙ was.units.0, is.units.1 ∙ was.units.1);
      kept = is.kept ∙ was.kept;
    }

pub returns-clause-mailed : goal.returns-clause-mailed
returns-clause-mailed g c =
    subst (λ n. HasMailed c.args.board.now c.args.self.now.stations.items n c.args.token.now c.loop-at.token)
    (omega (arith, c.loop-at-test.false, c.loop-at.auto.at-end, c.len-at-end.ensures)) c.loop-at.invariant.mailed
