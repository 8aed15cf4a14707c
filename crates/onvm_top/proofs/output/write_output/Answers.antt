use Rattle.std.proofs.Common.{◌∙◌, sym, refl, inr, []}
use Rattle.std.proofs.lemmas.List.{append-nil}
use Rattle.onvm_top.specs.Accounts.{capture_text}
use Rattle.onvm_top.specs.Put.{PutsAll, PutsPart}
use Rattle.onvm_top.proofs.Kept.{CannotFinish-keep, CannotFinish-put, kept_there}
use Rattle.onvm_top.proofs.Put.{OnErr-is, OnOk-is}
use Rattle.onvm_top.proofs.output.write_output.Goals as goal

-- all was put, and keep failed
pub returns-in_default-clause-err : goal.returns-in_default-clause-err
returns-in_default-clause-err g c =
    let text = capture_text c.args.sent.now in
    let named = c.put_capture-put.ensures.named ∙ c.in-Ok.ensures.named in
    let all =
    OnOk-is c.put_capture-put.result c.in_default.field-0-0
    (PutsAll (g.H.Output.Sink.held c.in-Ok.output) (g.H.Output.Sink.held c.put_capture-put.new.sink)
    (g.H.Output.Sink.puts c.in-Ok.output) (g.H.Output.Sink.puts c.put_capture-put.new.sink) text)
    c.in_default.is-0 c.put_capture-put.ensures.ok in
    let calls =
    CannotFinish-keep (g.H.Host.deeds c.args.host.now) (g.H.Host.deeds c.create_output.new.self)
    (g.H.Host.deeds c.keep-kept.new.self)
    c.args.name.now (g.H.Output.Sink.name c.put_capture-put.new.sink) text (g.H.Output.Sink.held c.in-Ok.output)
    (g.H.Output.Sink.held c.put_capture-put.new.sink)
    (g.H.Output.Sink.puts c.in-Ok.output)
    (g.H.Output.Sink.puts c.put_capture-put.new.sink) c.keep-kept.result c.in_default.field-0-1 c.in_default.is-1
    c.in-Ok.ensures.told c.keep-kept.ensures.told named c.in-Ok.ensures.fresh all in (
      calls.0,
      calls.1,
      inr (inr (
        refl,
        calls.2,
        (
          text,
          [],
          sym (append-nil text),
          λ files told.
              kept_there c.args.name.now (g.H.Output.Sink.name c.put_capture-put.new.sink) text files
              (g.H.Host.files c.args.host.now)
              (g.H.Host.files c.create_output.new.self) (g.H.Host.files c.keep-kept.new.self)
              (g.H.Output.Sink.held c.in-Ok.output)
              (g.H.Output.Sink.held c.put_capture-put.new.sink) told c.in-Ok.ensures.made c.in-Ok.ensures.empty
              all.2.appended c.keep-kept.ensures.files named,
        ),
      )),
    )

-- a put failed
pub returns-in_default-2-clause-err : goal.returns-in_default-2-clause-err
returns-in_default-2-clause-err g c =
    let text = capture_text c.args.sent.now in
    let named = c.put_capture-put.ensures.named ∙ c.in-Ok.ensures.named in
    let part =
    OnErr-is c.put_capture-put.result c.in_default.field-0-0
    (PutsPart (g.H.Output.Sink.held c.in-Ok.output) (g.H.Output.Sink.held c.put_capture-put.new.sink)
    (g.H.Output.Sink.puts c.in-Ok.output) (g.H.Output.Sink.puts c.put_capture-put.new.sink) text)
    c.in_default.is-0 c.put_capture-put.ensures.err in
    let calls =
    CannotFinish-put (g.H.Host.deeds c.args.host.now) (g.H.Host.deeds c.create_output.new.self)
    (g.H.Host.deeds c.keep-kept.new.self)
    c.args.name.now (g.H.Output.Sink.name c.put_capture-put.new.sink) text (g.H.Output.Sink.held c.in-Ok.output)
    (g.H.Output.Sink.held c.put_capture-put.new.sink)
    (g.H.Output.Sink.puts c.in-Ok.output) (g.H.Output.Sink.puts c.put_capture-put.new.sink) c.keep-kept.result
    c.in-Ok.ensures.told c.keep-kept.ensures.told named c.in-Ok.ensures.fresh part in (
      calls.0,
      calls.1,
      inr (inr (
        refl,
        calls.2,
        (
          part.2.front,
          part.2.rest,
          part.2.split,
          λ files told.
              kept_there c.args.name.now (g.H.Output.Sink.name c.put_capture-put.new.sink) part.2.front files
              (g.H.Host.files c.args.host.now)
              (g.H.Host.files c.create_output.new.self) (g.H.Host.files c.keep-kept.new.self)
              (g.H.Output.Sink.held c.in-Ok.output)
              (g.H.Output.Sink.held c.put_capture-put.new.sink) told c.in-Ok.ensures.made c.in-Ok.ensures.empty
              part.2.appended c.keep-kept.ensures.files named,
        ),
      )),
    )
