use Rattle.std.proofs.Common.{subst, List, ℕ, arith, rules}
use Rattle.std.specs.List.{flat_map}
use Rattle.pcap_in.specs.Emitted.{emitted_header}
use Rattle.onvm_top.specs.Put.{PutsAll, PutsPart}
use Rattle.onvm_top.proofs.Emitting.{PutsAll-flat_map_all, PutsAll-flat_map_more, PutsPart-flat_map, capture_text-each, emitted_sent}
use Rattle.onvm_top.proofs.Put.{OnErr-always, PutsPart-first}
use Rattle.onvm_top.proofs.output.put_capture.Goals as goal

pub returns-in_err-put_all-clause-err : goal.returns-in_err-put_all-clause-err
returns-in_err-put_all-clause-err g c =
    let before = g.K.Sink.held c.args.sink.now in
    let after = g.K.Sink.held c.put_all.new.sink in
    let P : List ℕ → Type 0 =
    PutsPart before after (g.K.Sink.puts c.args.sink.now) (g.K.Sink.puts c.put_all.new.sink) in
    OnErr-always _ _ (subst P (capture_text-each c.args.sent.now)
    (PutsPart-first before after _ _ emitted_header (flat_map emitted_sent c.args.sent.now)
    (subst P c.header.ensures c.in_err-put_all.ensures.err)))

pub loop-frame-init : goal.loop-frame-init
loop-frame-init g c =
    let P : List ℕ → Type 0 = PutsAll (g.K.Sink.held c.args.sink.now) (g.K.Sink.held c.put_all.new.sink)
    (g.K.Sink.puts c.args.sink.now) (g.K.Sink.puts c.put_all.new.sink) in
    record {
      named = search rules;
      put = subst P c.header.ensures c.in_ok-put_all.ensures.ok;
    }

pub loop-frame-preserved : goal.loop-frame-preserved
loop-frame-preserved g c = record {
  named = search rules;
  put =
      PutsAll-flat_map_more (g.K.Sink.held c.args.sink.now) (g.K.Sink.held c.loop-frame.sink)
      (g.K.Sink.held c.put_frame.new.sink)
      (g.K.Sink.puts c.args.sink.now) (g.K.Sink.puts c.loop-frame.sink) (g.K.Sink.puts c.put_frame.new.sink)
      emitted_header emitted_sent c.as_slice-frame-items.result.now c.loop-frame.frame-index c.frame-item.result
      (omega arith) c.frame-item.is c.loop-frame.invariant.put c.in_ok-put_frame.ensures.ok;
}

pub returns-in_err-put_frame-clause-err : goal.returns-in_err-put_frame-clause-err
returns-in_err-put_frame-clause-err g c =
    let P : List ℕ → Type 0 = PutsPart (g.K.Sink.held c.args.sink.now) (g.K.Sink.held c.put_frame.new.sink)
    (g.K.Sink.puts c.args.sink.now) (g.K.Sink.puts c.put_frame.new.sink) in
    OnErr-always _ _ (subst P (capture_text-each c.args.sent.now)
    (PutsPart-flat_map (g.K.Sink.held c.args.sink.now) (g.K.Sink.held c.loop-frame.sink)
    (g.K.Sink.held c.put_frame.new.sink)
    (g.K.Sink.puts c.args.sink.now) (g.K.Sink.puts c.loop-frame.sink) (g.K.Sink.puts c.put_frame.new.sink)
    emitted_header emitted_sent c.as_slice-frame-items.result.now c.args.sent.now c.loop-frame.frame-index
    c.frame-item.result
    (omega arith) c.frame-item.is c.as_slice-frame-items.ensures c.loop-frame.invariant.put
    c.in_err-put_frame.ensures.err))

pub returns-clause-ok : goal.returns-clause-ok
returns-clause-ok g c =
    let P : List ℕ → Type 0 = PutsAll (g.K.Sink.held c.args.sink.now) (g.K.Sink.held c.loop-frame.sink)
    (g.K.Sink.puts c.args.sink.now) (g.K.Sink.puts c.loop-frame.sink) in
    subst P (capture_text-each c.args.sent.now)
    (PutsAll-flat_map_all (g.K.Sink.held c.args.sink.now) (g.K.Sink.held c.loop-frame.sink)
    (g.K.Sink.puts c.args.sink.now) (g.K.Sink.puts c.loop-frame.sink)
    emitted_header emitted_sent c.as_slice-frame-items.result.now c.args.sent.now c.loop-frame.frame-index
    (omega arith) c.as_slice-frame-items.ensures c.loop-frame.invariant.put)
