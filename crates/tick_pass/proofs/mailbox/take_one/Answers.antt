use Rattle.std.proofs.Common.{◌∙◌, ap, sym, subst, false, List}
use Rattle.onvm_base.specs.declared.ids.FnId.{FnId}
use Rattle.load_estimate.specs.declared.sample.Sample.{Sample}
use Rattle.load_estimate.specs.Windows.{WindowState}
use Rattle.onvm_promises.specs.Lines.{samples_of}
use Rattle.tick_pass.specs.Roles.{HasWindow}
use Rattle.tick_pass.specs.Taking.{HasTaken}
use Rattle.tick_pass.proofs.Takes.{found_none, took_one}
use Rattle.tick_pass.proofs.Windowing.{samples_own, window_took}
use Rattle.tick_pass.proofs.mailbox.take_one.Goals as goal

pub returns-in-Some-clause-taken : goal.returns-in-Some-clause-taken
returns-in-Some-clause-taken c =
    let samples : List Sample = c.args.samples.now.items in
    subst (λ (all : List Sample).
    HasTaken c.args.function c.args.now 1 false c.args.token.now c.take_sample.new.token samples all)
    (sym c.append.ensures.items)
    (took_one c.args.board.now c.args.mail.now.spot.ring c.args.function c.args.now c.in-Some.number c.args.token.now
    c.take_sample.new.token samples c.sample_of-sample.result c.requires.ring c.in-Some.ensures.popped
    c.sample_of-sample.ensures.tells)

pub returns-in-Some-clause-window : goal.returns-in-Some-clause-window
returns-in-Some-clause-window c =
    let f = c.args.function.0 in
    let samples : List Sample = c.args.samples.now.items in
    let sample : Sample = c.sample_of-sample.result in
    let own = ap (λ (g : FnId). g.0) c.sample_of-sample.ensures.function in
    let all = sym (ap (samples_of f) c.append.ensures.items ∙ samples_own f samples sample own) in
    let taken = sym c.add.ensures.sample in
    subst (λ (z : List Sample × WindowState). HasWindow c.args.now z.0 z.1) (λ i. (all i, taken i))
    (window_took c.args.now (samples_of f samples) c.args.window.now sample c.sample_of-sample.ensures.moment
    c.sample_of-sample.ensures.mailed c.requires.window)

pub returns-in-None-clause-taken : goal.returns-in-None-clause-taken
returns-in-None-clause-taken c =
    found_none c.args.board.now c.args.mail.now.spot.ring c.args.function c.args.now c.args.token.now
    c.take_sample.new.token c.args.samples.now.items c.requires.ring c.in-None.ensures.empty
