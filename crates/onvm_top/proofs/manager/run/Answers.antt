use Rattle.std.proofs.Common.{◌≡◌, sym, subst, map, Option, rules}
use Rattle.std.specs.Prelude.{string_bytes}
use Rattle.onvm_base.specs.declared.status.Status.{Status}
use Rattle.onvm_host.specs.Files.{Entries}
use Rattle.chain_file.specs.Guests.{names_of}
use Rattle.onvm_top.specs.Answers.{IsTrueStatus}
use Rattle.onvm_top.specs.Fault.{line_of}
use Rattle.onvm_top.proofs.Answered.{IsTrueStatus-done, IsTrueStatus-stopped}
use Rattle.onvm_top.proofs.Faults.{faults_of-stopped}
use Rattle.onvm_top.proofs.Running.{IsStoppedRun-line, says_once}
use Rattle.onvm_top.proofs.manager.run.Goals as goal

pub returns-in-Ok-clause-answer : goal.returns-in-Ok-clause-answer
returns-in-Ok-clause-answer g c = IsTrueStatus-done _ _ _ _ _ _ _ _ _ _ _ _ c.in-Ok.ensures.done.2

pub returns-in-Err-clause-answer : goal.returns-in-Err-clause-answer
returns-in-Err-clause-answer g c =
    let told = g.H.Host.files c.args.host.now in
    let read = g.H.Host.files c.replay.new.host in
    let names = names_of c.args.guests.items in
    let stops = c.in-Err.ensures.stopped in
    let Answer : Option Entries → Status → Type 0 = IsTrueStatus (map string_bytes c.args.words.now) names told in
    let tells : Answer read c.status.result =
    subst (Answer read) (sym c.status.ensures)
    (IsTrueStatus-stopped _ _ _ _ _ c.args.guests.items told read stops.2.0 stops.0 c.in-Err.fault stops.2.2) in
    let Now : Option Entries → Type 0 = λ now. Answer now c.status.result in
    subst Now (sym c.say_all.ensures.files) tells

pub returns-in-Err-clause-stopped : goal.returns-in-Err-clause-stopped
returns-in-Err-clause-stopped g c = λ _.
    let lined : c.as_bytes.result.now ≡ line_of c.in-Err.fault = search rules in
    IsStoppedRun-line _ _ _ _ c.args.guests.items (map string_bytes c.args.words.now) (g.H.Host.files c.args.host.now)
    (g.H.Host.files c.replay.new.host) (g.H.Host.files c.say_all.new.host)
    (g.H.Host.said c.args.host.now) (g.H.Host.said c.replay.new.host) (g.H.Host.said c.say_all.new.host)
    (g.H.Host.deeds c.args.host.now) (g.H.Host.deeds c.replay.new.host) (g.H.Host.deeds c.say_all.new.host)
    c.in-Err.fault c.status.result c.as_bytes.result.now c.say_all.ensures.files c.status.ensures lined
    c.in-Err.ensures.stopped
    (says_once c.say_all.result _ _ _ _ _ c.say_all.ensures.ok c.say_all.ensures.err)

pub returns-in-Err-clause-faults : goal.returns-in-Err-clause-faults
returns-in-Err-clause-faults g c = λ blamed.
    let lined : c.as_bytes.result.now ≡ line_of c.in-Err.fault = search rules in
    let stopped =
    IsStoppedRun-line _ _ _ _ c.args.guests.items (map string_bytes c.args.words.now) (g.H.Host.files c.args.host.now)
    (g.H.Host.files c.replay.new.host) (g.H.Host.files c.say_all.new.host)
    (g.H.Host.said c.args.host.now) (g.H.Host.said c.replay.new.host) (g.H.Host.said c.say_all.new.host)
    (g.H.Host.deeds c.args.host.now) (g.H.Host.deeds c.replay.new.host) (g.H.Host.deeds c.say_all.new.host)
    c.in-Err.fault c.status.result c.as_bytes.result.now c.say_all.ensures.files c.status.ensures lined
    c.in-Err.ensures.stopped
    (says_once c.say_all.result _ _ _ _ _ c.say_all.ensures.ok c.say_all.ensures.err) in
    faults_of-stopped _ _ _ _ _ _ _ _ _ _ _ _ _ stopped blamed
