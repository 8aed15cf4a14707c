use Rattle.std.proofs.lemmas.Result.{err_from_is_err_and}
use Rattle.onvm_top.specs.Accounts.{capture_text}
use Rattle.onvm_top.proofs.Leaving.{leaves_all, leaves_none, leaves_part}
use Rattle.onvm_top.proofs.output.leave.Goals as goal

pub returns-in_err-write_output-clause-err : goal.returns-in_err-write_output-clause-err
returns-in_err-write_output-clause-err g c =
    let passed = err_from_is_err_and c.from_residual.result c.from_residual.ensures.1 in
    let stops =
    leaves_none (g.H.Host.deeds c.args.host.now) (g.H.Host.deeds c.write_output.new.host) c.args.name.now
    (capture_text c.args.sent.now) c.args.report.now (g.H.Host.files c.args.host.now)
    (g.H.Host.files c.write_output.new.host)
    (g.H.Host.said c.args.host.now) (g.H.Host.said c.write_output.new.host) c.in_err-write_output.field-0.0
    c.in_err-write_output.ensures.said c.in_err-write_output.ensures.err in
    rw (passed.1, passed.2) stops

pub returns-in-Ok-clause-ok : goal.returns-in-Ok-clause-ok
returns-in-Ok-clause-ok g c =
    leaves_all (g.H.Host.deeds c.args.host.now) (g.H.Host.deeds c.write_output.new.host)
    (g.H.Host.deeds c.say_all.new.host)
    c.args.name.now (capture_text c.args.sent.now) c.args.report.now (g.H.Host.files c.args.host.now)
    (g.H.Host.files c.write_output.new.host) (g.H.Host.files c.say_all.new.host)
    (g.H.Host.said c.args.host.now) (g.H.Host.said c.write_output.new.host) (g.H.Host.said c.say_all.new.host)
    c.in_ok-write_output.ensures.written c.in_ok-write_output.ensures.ok c.in_ok-write_output.ensures.said
    c.in-Ok.ensures.files c.in-Ok.ensures.ok

pub returns-in-Err-clause-err : goal.returns-in-Err-clause-err
returns-in-Err-clause-err g c =
    leaves_part (g.H.Host.deeds c.args.host.now) (g.H.Host.deeds c.write_output.new.host)
    (g.H.Host.deeds c.say_all.new.host)
    c.args.name.now (capture_text c.args.sent.now) c.args.report.now (g.H.Host.files c.args.host.now)
    (g.H.Host.files c.write_output.new.host) (g.H.Host.files c.say_all.new.host)
    (g.H.Host.said c.args.host.now) (g.H.Host.said c.write_output.new.host) (g.H.Host.said c.say_all.new.host)
    c.in_ok-write_output.ensures.written c.in_ok-write_output.ensures.ok c.in_ok-write_output.ensures.said
    c.in-Err.ensures.files c.in-Err.ensures.err
