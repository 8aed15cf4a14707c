use Rattle.std.proofs.Common.{sym, refl, inl, inr, map, [], append-nil, rules}
use Rattle.std.specs.Prelude.{string_bytes}
use Rattle.onvm_host.proofs.Bytes.{Appends-nothing}
use Rattle.command_words.specs.Commands.{IsCommand}
use Rattle.onvm_top.proofs.Running.{Adds-words, IfNone-is}
use Rattle.onvm_top.proofs.manager.replay.Goals as goal

pub returns-in-Ok-None-clause-stopped : goal.returns-in-Ok-None-clause-stopped
returns-in-Ok-None-clause-stopped g c = (
  [],
  sym (append-nil _),
  ([], Appends-nothing _, inl (refl, refl, inl (refl, IfNone-is _ _ (search rules) c.in-Ok-None.ensures.none, refl))),
)

pub returns-in-Err-clause-stopped : goal.returns-in-Err-clause-stopped
returns-in-Err-clause-stopped g c =
    ([], sym (append-nil _), ([], Appends-nothing _, inl (refl, refl, inr (inl (refl, refl)))))

pub returns-in-Ok-Some-clause-done : goal.returns-in-Ok-Some-clause-done
returns-in-Ok-Some-clause-done g c =
    let is : IsCommand (map string_bytes c.args.words.now) c.in-Ok-Some.command = search rules in
    Adds-words _ _ _ _ c.args.guests.items (g.H.Host.files c.args.host.now) (g.H.Host.files c.replay_command.new.host)
    (g.H.Host.said c.args.host.now) (g.H.Host.said c.replay_command.new.host)
    (g.H.Host.deeds c.args.host.now) (g.H.Host.deeds c.replay_command.new.host)
    c.in-Ok-Some.command (map string_bytes c.args.words.now) c.replay_command.result is c.replay_command.ensures.done
