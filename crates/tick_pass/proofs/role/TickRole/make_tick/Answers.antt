use Rattle.std.proofs.Common.{◌≡◌, ◌∙◌, ap, arith, sym, subst, List, ◌++◌, ◌∷◌, [], length, map, ◌+◌}
use Rattle.std.proofs.lemmas.List.{length-map}
use Rattle.onvm_board.specs.Tokens.{grown}
use Rattle.load_estimate.specs.declared.tick.Tick.{Tick}
use Rattle.load_estimate.specs.declared.tick.TickLine.{TickLine}
use Rattle.load_estimate.specs.Windows.{WindowState, without_old}
use Rattle.onvm_promises.specs.Lines.{lines_of}
use Rattle.tick_pass.specs.Roles.{AreWindows, LastInForce}
use Rattle.tick_pass.specs.Telling.{AreCurrent, AreLoaded, posts_from}
use Rattle.tick_pass.proofs.Windowing.{are_current, are_loaded, windows_aged, written_whole}
use Rattle.tick_pass.proofs.role.TickRole.make_tick.Goals as goal

pub tell_lines-lines-requires-clause-windows : goal.tell_lines-lines-requires-clause-windows
tell_lines-lines-requires-clause-windows c =
    let windows : List WindowState = c.args.self.now.room.windows.items in
    let old = c.deref_mut.ensures.value in
    let aged = c.age_out.ensures ∙ ap (map (without_old c.args.now)) old in
    let whole =
    written_whole c.age_out.new.windows windows c.args.self.now.room.windows.len
    (ap length (sym old) ∙ c.deref_mut.ensures.len)
    (ap length aged ∙ length-map windows (without_old c.args.now)) in
    subst (AreLoaded c.args.plan.now) (sym (c.deref.ensures.value ∙ whole ∙ aged))
    (are_loaded c.args.plan.now c.args.now c.args.self.now.room.samples.items windows c.requires.role.windows)

pub tell_lines-lines-requires-clause-last : goal.tell_lines-lines-requires-clause-last
tell_lines-lines-requires-clause-last c =
    subst (LastInForce c.args.plan.now) (sym c.deref-2.ensures.value) c.requires.in_force

pub returns-clause-tick : goal.returns-clause-tick
returns-clause-tick c =
    let plan = c.args.plan.now in
    let samples = c.args.self.now.room.samples.items in
    let ticks : List Tick = c.args.self.now.room.ticks.items in
    let windows : List WindowState = c.args.self.now.room.windows.items in
    let old = c.deref_mut.ensures.value in
    let aged = c.age_out.ensures ∙ ap (map (without_old c.args.now)) old in
    let whole =
    written_whole c.age_out.new.windows windows c.args.self.now.room.windows.len
    (ap length (sym old) ∙ c.deref_mut.ensures.len)
    (ap length aged ∙ length-map windows (without_old c.args.now)) in
    let current : AreCurrent plan samples c.args.now c.deref.result.now =
    subst (AreCurrent plan samples c.args.now) (sym (c.deref.ensures.value ∙ whole ∙ aged))
    (are_current plan c.args.now samples windows c.requires.role.windows) in
    let lines =
    c.from_vec.ensures ∙ c.tell_lines-lines.ensures.lines samples c.args.now current
    ∙ ap (λ (ts : List Tick). lines_of plan ts samples c.args.now) c.deref-2.ensures.value in
    let number : c.len.result + 1 ≡ length ticks + 1 = omega (arith, c.len.ensures, c.args.self.now.room.ticks.ok) in
    let taken : c.len-2.result ≡ length samples = omega (arith, c.len-2.ensures, c.args.self.now.room.samples.ok) in
    c.append.ensures.items
    ∙ ap (λ (tick : Tick). ticks ++ tick ∷ [])
    (λ i. record { number = number i; moment = c.args.now; taken = taken i; lines = lines i })

pub returns-clause-posted : goal.returns-clause-posted
returns-clause-posted c =
    let plan = c.args.plan.now in
    let samples = c.args.self.now.room.samples.items in
    let windows : List WindowState = c.args.self.now.room.windows.items in
    let old = c.deref_mut.ensures.value in
    let aged = c.age_out.ensures ∙ ap (map (without_old c.args.now)) old in
    let whole =
    written_whole c.age_out.new.windows windows c.args.self.now.room.windows.len
    (ap length (sym old) ∙ c.deref_mut.ensures.len)
    (ap length aged ∙ length-map windows (without_old c.args.now)) in
    let current : AreCurrent plan samples c.args.now c.deref.result.now =
    subst (AreCurrent plan samples c.args.now) (sym (c.deref.ensures.value ∙ whole ∙ aged))
    (are_current plan c.args.now samples windows c.requires.role.windows) in
    let lines =
    c.tell_lines-lines.ensures.lines samples c.args.now current
    ∙ ap (λ (ts : List Tick). lines_of plan ts samples c.args.now) c.deref-2.ensures.value in
    c.tell_lines-lines.ensures.posted
    ∙ ap (λ (ls : List TickLine). grown (posts_from 0 ls) c.args.token.now.hand c.args.token.now) lines

pub returns-clause-windows : goal.returns-clause-windows
returns-clause-windows c =
    let windows : List WindowState = c.args.self.now.room.windows.items in
    let old = c.deref_mut.ensures.value in
    let aged = c.age_out.ensures ∙ ap (map (without_old c.args.now)) old in
    let whole =
    written_whole c.age_out.new.windows windows c.args.self.now.room.windows.len
    (ap length (sym old) ∙ c.deref_mut.ensures.len)
    (ap length aged ∙ length-map windows (without_old c.args.now)) in
    subst (AreWindows c.args.plan.now c.args.now c.args.self.now.room.samples.items) (sym (whole ∙ aged))
    (windows_aged c.args.plan.now c.args.now c.args.self.now.room.samples.items windows c.requires.role.windows)
