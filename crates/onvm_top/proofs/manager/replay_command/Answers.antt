use Rattle.std.proofs.Common.{◌≡◌, ◌∙◌, subst, List, ℕ, rules}
use Rattle.std.proofs.lemmas.Result.{err_from_is_err_and}
use Rattle.chain_file.specs.Guests.{HaveGuests, names_of}
use Rattle.onvm_top.proofs.HandedIn.{handed_in}
use Rattle.onvm_top.proofs.Running.{Adds-captures, Adds-chain, Adds-Done, Adds-memory, Adds-output, Adds-Replayed, Adds-unreported}
use Rattle.onvm_top.proofs.manager.replay_command.Goals as goal

pub returns-in_err-plan-clause-stopped : goal.returns-in_err-plan-clause-stopped
returns-in_err-plan-clause-stopped g c =
    let passed = err_from_is_err_and c.from_residual.result c.from_residual.ensures.1 in
    let named : names_of c.as_slice.result.now ≡ names_of c.args.guests.items = search rules in
    rw (passed.1, passed.2)
    (Adds-chain _ _ _ _ c.args.guests.items (g.H.Host.files c.args.host.now) (g.H.Host.files c.read_plan.new.host)
    (g.H.Host.said c.args.host.now) (g.H.Host.said c.read_plan.new.host)
    (g.H.Host.deeds c.args.host.now) (g.H.Host.deeds c.read_plan.new.host)
    c.args.command.now c.in_err-plan.field-0.0 (names_of c.as_slice.result.now) c.in_err-plan.ensures.files
    c.in_err-plan.ensures.said named c.in_err-plan.ensures.err)

pub units-requires : goal.units-requires
units-requires g c =
    let named : names_of c.as_slice.result.now ≡ names_of c.args.guests.items = search rules in
    let Have : List (List ℕ) → Type 0 = λ names. HaveGuests names c.in_ok-plan.plan.functions in
    handed_in c.in_ok-plan.plan.functions c.args.guests.items (subst Have named c.in_ok-plan.ensures.guests)

pub returns-in_default-clause-stopped : goal.returns-in_default-clause-stopped
returns-in_default-clause-stopped g c =
    Adds-memory _ _ _ _ c.args.guests.items (g.H.Host.files c.args.host.now) (g.H.Host.files c.read_plan.new.host)
    (g.H.Host.said c.args.host.now) (g.H.Host.said c.read_plan.new.host)
    (g.H.Host.deeds c.args.host.now) (g.H.Host.deeds c.read_plan.new.host)
    c.args.command.now c.in_ok-plan.ensures.files c.in_ok-plan.ensures.said c.in_ok-plan.ensures.read

pub returns-in_err-run-clause-stopped : goal.returns-in_err-run-clause-stopped
returns-in_err-run-clause-stopped g c =
    let passed = err_from_is_err_and c.from_residual-in_err-run.result c.from_residual-in_err-run.ensures.1 in
    let named : names_of c.as_slice.result.now ≡ names_of c.args.guests.items = search rules in
    let those : c.as_slice-captures.result.now ≡ c.args.command.now.captures.items = search rules in
    rw (passed.1, passed.2)
    (Adds-captures _ _ _ _ c.args.guests.items (g.H.Host.files c.args.host.now) (g.H.Host.files c.read_plan.new.host)
    (g.H.Host.files c.replay_captures.new.host)
    (g.H.Host.said c.args.host.now) (g.H.Host.said c.read_plan.new.host) (g.H.Host.said c.replay_captures.new.host)
    (g.H.Host.deeds c.args.host.now) (g.H.Host.deeds c.read_plan.new.host) (g.H.Host.deeds c.replay_captures.new.host)
    c.args.command.now c.in_ok-plan.plan c.in_err-run.field-0.0 (names_of c.as_slice.result.now)
    c.as_slice-captures.result.now c.in_ok-plan.ensures.files c.in_err-run.ensures.files c.in_ok-plan.ensures.said
    c.in_err-run.ensures.said named those c.in_ok-plan.ensures.plan c.in_ok-plan.ensures.read c.in_err-run.ensures.err)

pub returns-in_default-report_of-clause-stopped : goal.returns-in_default-report_of-clause-stopped
returns-in_default-report_of-clause-stopped g c =
    let named : names_of c.as_slice.result.now ≡ names_of c.args.guests.items = search rules in
    let those : c.as_slice-captures.result.now ≡ c.args.command.now.captures.items = search rules in
    Adds-unreported _ _ _ _ c.args.guests.items (g.H.Host.files c.args.host.now) (g.H.Host.files c.replay_captures.new.host)
    (g.H.Host.said c.args.host.now) (g.H.Host.said c.replay_captures.new.host)
    (g.H.Host.deeds c.args.host.now) (g.H.Host.deeds c.replay_captures.new.host)
    c.args.command.now c.in_ok-plan.plan c.in_ok-run.run' (c.in_ok-run.ensures.files ∙ c.in_ok-plan.ensures.files)
    (c.in_ok-run.ensures.said ∙ c.in_ok-plan.ensures.said)
    (Adds-Replayed _ _ _ _ c.args.guests.items (g.H.Host.files c.args.host.now) (g.H.Host.files c.read_plan.new.host)
    (g.H.Host.deeds c.args.host.now) (g.H.Host.deeds c.read_plan.new.host) (g.H.Host.deeds c.replay_captures.new.host)
    c.args.command.now c.in_ok-plan.plan c.in-Ok.units c.in_ok-run.run' (names_of c.as_slice.result.now)
    c.as_slice-captures.result.now c.in_ok-plan.ensures.files named those c.in_ok-plan.ensures.plan
    c.in_ok-plan.ensures.ports c.in-Ok.ensures c.in_ok-plan.ensures.read c.in_ok-run.ensures.done)

pub returns-in_err-leave-clause-stopped : goal.returns-in_err-leave-clause-stopped
returns-in_err-leave-clause-stopped g c =
    let passed = err_from_is_err_and c.from_residual-in_err-leave.result c.from_residual-in_err-leave.ensures.1 in
    let named : names_of c.as_slice.result.now ≡ names_of c.args.guests.items = search rules in
    let those : c.as_slice-captures.result.now ≡ c.args.command.now.captures.items = search rules in
    let is_text : c.as_slice-2.result.now ≡ c.in-Ok-report_of.report = search rules in
    rw (passed.1, passed.2)
    (Adds-output _ _ _ _ c.args.guests.items (g.H.Host.files c.args.host.now) (g.H.Host.files c.replay_captures.new.host)
    (g.H.Host.files c.leave.new.host)
    (g.H.Host.said c.args.host.now) (g.H.Host.said c.replay_captures.new.host) (g.H.Host.said c.leave.new.host)
    (g.H.Host.deeds c.args.host.now) (g.H.Host.deeds c.replay_captures.new.host) (g.H.Host.deeds c.leave.new.host)
    c.args.command.now c.in_ok-plan.plan c.in_ok-run.run' c.in-Ok-report_of.report c.as_slice-2.result.now
    c.in_err-leave.field-0.0 (c.in_ok-run.ensures.files ∙ c.in_ok-plan.ensures.files)
    (c.in_ok-run.ensures.said ∙ c.in_ok-plan.ensures.said) is_text
    (Adds-Replayed _ _ _ _ c.args.guests.items (g.H.Host.files c.args.host.now) (g.H.Host.files c.read_plan.new.host)
    (g.H.Host.deeds c.args.host.now) (g.H.Host.deeds c.read_plan.new.host) (g.H.Host.deeds c.replay_captures.new.host)
    c.args.command.now c.in_ok-plan.plan c.in-Ok.units c.in_ok-run.run' (names_of c.as_slice.result.now)
    c.as_slice-captures.result.now c.in_ok-plan.ensures.files named those c.in_ok-plan.ensures.plan
    c.in_ok-plan.ensures.ports c.in-Ok.ensures c.in_ok-plan.ensures.read c.in_ok-run.ensures.done)
    c.in-Ok-report_of.ensures c.in_err-leave.ensures.err)

pub returns-clause-done : goal.returns-clause-done
returns-clause-done g c =
    let named : names_of c.as_slice.result.now ≡ names_of c.args.guests.items = search rules in
    let those : c.as_slice-captures.result.now ≡ c.args.command.now.captures.items = search rules in
    let is_text : c.as_slice-2.result.now ≡ c.in-Ok-report_of.report = search rules in
    Adds-Done _ _ _ _ c.args.guests.items (g.H.Host.files c.args.host.now) (g.H.Host.files c.replay_captures.new.host)
    (g.H.Host.files c.leave.new.host)
    (g.H.Host.said c.args.host.now) (g.H.Host.said c.replay_captures.new.host) (g.H.Host.said c.leave.new.host)
    (g.H.Host.deeds c.args.host.now) (g.H.Host.deeds c.replay_captures.new.host) (g.H.Host.deeds c.leave.new.host)
    c.args.command.now c.in_ok-plan.plan c.in_ok-run.run' c.in-Ok-report_of.report c.as_slice-2.result.now
    (c.in_ok-run.ensures.files ∙ c.in_ok-plan.ensures.files)
    (c.in_ok-run.ensures.said ∙ c.in_ok-plan.ensures.said) is_text
    (Adds-Replayed _ _ _ _ c.args.guests.items (g.H.Host.files c.args.host.now) (g.H.Host.files c.read_plan.new.host)
    (g.H.Host.deeds c.args.host.now) (g.H.Host.deeds c.read_plan.new.host) (g.H.Host.deeds c.replay_captures.new.host)
    c.args.command.now c.in_ok-plan.plan c.in-Ok.units c.in_ok-run.run' (names_of c.as_slice.result.now)
    c.as_slice-captures.result.now c.in_ok-plan.ensures.files named those c.in_ok-plan.ensures.plan
    c.in_ok-plan.ensures.ports c.in-Ok.ensures c.in_ok-plan.ensures.read c.in_ok-run.ensures.done)
    c.in-Ok-report_of.ensures c.in_ok-leave.ensures.ok
