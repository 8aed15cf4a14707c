use Rattle.std.proofs.Common.{◌∙◌, ap, subst, ℕ, List, length}
use Rattle.pcap_in.specs.Emitted.{emitted_head}
use Rattle.onvm_top.specs.Put.{PutsAll, PutsPart}
use Rattle.onvm_top.proofs.Put.{OnErr-always, PutsAll-append, PutsPart-first, PutsPart-second}
use Rattle.onvm_top.proofs.output.put_frame.Goals as goal

pub returns-in_err-put_all-clause-err : goal.returns-in_err-put_all-clause-err
returns-in_err-put_all-clause-err g c =
    let P : List ℕ → Type 0 = PutsPart (g.K.Sink.held c.args.sink.now) (g.K.Sink.held c.put_all.new.sink)
    (g.K.Sink.puts c.args.sink.now) (g.K.Sink.puts c.put_all.new.sink) in
    let head_is =
    c.frame_head.ensures ∙ ap (λ t. emitted_head c.args.frame.now.stamp (length t)) c.bytes-bytes.ensures.same in
    OnErr-always _ _
    (PutsPart-first _ _ _ _
    (emitted_head c.args.frame.now.stamp (length c.args.frame.now.packet)) c.args.frame.now.packet
    (subst P head_is c.in_err-put_all.ensures.err))

pub returns-in_err-put_all-2-clause-err : goal.returns-in_err-put_all-2-clause-err
returns-in_err-put_all-2-clause-err g c =
    let Head : List ℕ → Type 0 = PutsAll (g.K.Sink.held c.args.sink.now) (g.K.Sink.held c.put_all.new.sink)
    (g.K.Sink.puts c.args.sink.now) (g.K.Sink.puts c.put_all.new.sink) in
    let Body : List ℕ → Type 0 = PutsPart (g.K.Sink.held c.put_all.new.sink) (g.K.Sink.held c.put_all-2.new.sink)
    (g.K.Sink.puts c.put_all.new.sink) (g.K.Sink.puts c.put_all-2.new.sink) in
    let head_is =
    c.frame_head.ensures ∙ ap (λ t. emitted_head c.args.frame.now.stamp (length t)) c.bytes-bytes.ensures.same in
    OnErr-always _ _
    (PutsPart-second _ _ _ _ _ _
    (emitted_head c.args.frame.now.stamp (length c.args.frame.now.packet)) c.args.frame.now.packet
    (subst Head head_is c.in_ok-put_all.ensures.ok)
    (subst Body c.bytes-bytes.ensures.same c.in_err-put_all-2.ensures.err))

pub returns-clause-ok : goal.returns-clause-ok
returns-clause-ok g c =
    let Head : List ℕ → Type 0 = PutsAll (g.K.Sink.held c.args.sink.now) (g.K.Sink.held c.put_all.new.sink)
    (g.K.Sink.puts c.args.sink.now) (g.K.Sink.puts c.put_all.new.sink) in
    let Body : List ℕ → Type 0 = PutsAll (g.K.Sink.held c.put_all.new.sink) (g.K.Sink.held c.put_all-2.new.sink)
    (g.K.Sink.puts c.put_all.new.sink) (g.K.Sink.puts c.put_all-2.new.sink) in
    let head_is =
    c.frame_head.ensures ∙ ap (λ t. emitted_head c.args.frame.now.stamp (length t)) c.bytes-bytes.ensures.same in
    PutsAll-append _ _ _ _ _ _
    (emitted_head c.args.frame.now.stamp (length c.args.frame.now.packet)) c.args.frame.now.packet
    (subst Head head_is c.in_ok-put_all.ensures.ok)
    (subst Body c.bytes-bytes.ensures.same c.in_ok-put_all-2.ensures.ok)
