use Rattle.std.proofs.Common.{◌≡◌, ◌++◌, take}
use Rattle.std.specs.List.{flat_map}
use Rattle.pcap_in.specs.Emitted.{emitted_header}
use Rattle.onvm_top.specs.Put.{PutsAll}
use Rattle.onvm_top.proofs.Emitting.{emitted_sent}
use Rattle.onvm_top.proofs.output.put_capture.Given as goal

-- the header and the frames so far were put
abbrev pub invariant-loop-frame : goal.invariant-loop-frame
invariant-loop-frame g l = record {
  named : g.K.Sink.name l.sink ≡ g.K.Sink.name l.fn.sink;
  put : PutsAll (g.K.Sink.held l.fn.sink) (g.K.Sink.held l.sink) (g.K.Sink.puts l.fn.sink) (g.K.Sink.puts l.sink)
      (emitted_header ++ flat_map emitted_sent (take l.frame-index l.frame-items));
}
