use Rattle.std.proofs.Common.{◌≡◌, ℕ, ◌+◌, ◌-◌, false}
use Rattle.onvm_base.specs.declared.ids.RingId.TheVariants.{Mail as MailRing}
use Rattle.desc_ring.specs.Ends.{IsMailHead}
use Rattle.onvm_promises.specs.Lines.{samples_of}
use Rattle.tick_pass.specs.Roles.{HasRoom, HasWindow}
use Rattle.tick_pass.specs.Taking.{HasTaken}
use Rattle.tick_pass.proofs.mailbox.take_waiting.Given as goal

abbrev pub invariant-loop-taken : goal.invariant-loop-taken
invariant-loop-taken l = record {
  taken : HasTaken l.function l.now l.taken false l.initial.token l.token l.initial.samples.items l.samples.items;
  window : HasWindow l.now (samples_of l.function.0 l.samples.items) l.window;
  span : l.window.span ≡ l.initial.window.span;
  mail : IsMailHead l.board l.mail l.token;
  ring : l.mail.spot.ring ≡ MailRing l.function;
  room : HasRoom (64 - l.taken) l.samples;
  rooms : (n : ℕ) → HasRoom (n + 64) l.initial.samples → HasRoom (n + (64 - l.taken)) l.samples;
}
