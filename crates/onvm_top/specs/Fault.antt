-- How a run ends that a fault stops, and the line that says it.
use Rattle.std.specs.Prelude.{ℕ, List, ◌++◌, ◌∷◌, [], codes}
use Rattle.std.specs.Fmt.{decimal}
use Rattle.onvm_base.specs.declared.status.Status.{Status}
use Rattle.onvm_base.specs.declared.status.Status.TheVariants as status
use Rattle.onvm_host.specs.declared.fault.HostFault.{HostFault}
use Rattle.onvm_host.specs.declared.fault.HostFault.TheVariants as host
use Rattle.pcap_in.specs.declared.pull.PcapFault.{PcapFault}
use Rattle.pcap_in.specs.declared.pull.PcapFault.TheVariants.{Magic, Version, Link, Torn, TooLong, Fraction}
use Rattle.onvm_base.specs.declared.ids.PortId.{PortId}
use Rattle.chain_file.specs.Messages.{fault_text}
use Rattle.chain_file.specs.declared.fault.FileFault.{FileFault}
use Rattle.chain_file.specs.declared.fault.FileFault.TheVariants as file
use Rattle.rx_feed.specs.declared.fault.FeedFault.{FeedFault}
use Rattle.rx_feed.specs.declared.fault.FeedFault.TheVariants as feed
use Rattle.onvm_session.specs.declared.run.Stop.{Stop}
use Rattle.onvm_session.specs.declared.run.Stop.TheVariants as stop
use Rattle.onvm_top.specs.declared.fault.Fault.{Fault}
use Rattle.onvm_top.specs.declared.fault.Fault.TheVariants.{Words, Plan, Broken, TooMany, ReadChain, ReadCapture, Write, Memory}

abbrev pub status_of : Fault → Status
status_of Words = status.Words
status_of (Plan cause) = status.Plan
status_of (Broken port fault) = status.Capture
status_of (TooMany port) = status.Capture
status_of ReadChain = status.Read
status_of (ReadCapture port) = status.Read
status_of Write = status.Write
status_of Memory = status.Memory

-- what stops a run where the host made no input or output: this fault, unless memory was wanting
abbrev pub unless_memory : Fault → HostFault → Fault
unless_memory fault host.Failed = fault
unless_memory fault host.Memory = Memory

-- what stops a run whose chain file is no plan
abbrev pub fault_of_file : FileFault → Fault
fault_of_file file.Json = Plan file.Json
fault_of_file (file.Shape place) = Plan (file.Shape place)
fault_of_file (file.Unknown place) = Plan (file.Unknown place)
fault_of_file (file.Limit place) = Plan (file.Limit place)
fault_of_file (file.Twice place) = Plan (file.Twice place)
fault_of_file (file.Marks place) = Plan (file.Marks place)
fault_of_file file.Memory = Memory

-- what stops a run where this stopped a port
abbrev pub fault_of_feed : PortId → FeedFault → Fault
fault_of_feed port feed.Read = ReadCapture port
fault_of_feed port (feed.Capture fault) = Broken port fault
fault_of_feed port feed.TooMany = TooMany port

-- what stops a run where this stopped its session
abbrev pub fault_of_stop : Stop → Fault
fault_of_stop (stop.Read port) = ReadCapture port
fault_of_stop (stop.Capture port fault) = Broken port fault
fault_of_stop (stop.TooMany port) = TooMany port
fault_of_stop stop.Memory = Memory

-- what is wrong with a capture, and where a record is named its offset
unfoldable pub cause_of : PcapFault → List ℕ
cause_of Magic = codes "magic"
cause_of Version = codes "version"
cause_of Link = codes "link"
cause_of (Torn at) = codes "torn " ++ decimal at
cause_of (TooLong at len) = codes "too-long " ++ decimal at ++ codes " " ++ decimal len
cause_of (Fraction at) = codes "fraction " ++ decimal at

-- a line without its line feed
unfoldable pub text_of : Fault → List ℕ
text_of Words = codes "usage: onvm [--serial] [--records] [--throttle-log] [--shares] CHAIN OUT CAPTURE..."
text_of (Plan cause) = codes "fault plan " ++ fault_text cause
text_of (Broken port fault) = codes "fault capture " ++ decimal port.0 ++ codes " " ++ cause_of fault
text_of (TooMany port) = codes "fault capture " ++ decimal port.0 ++ codes " too-many"
text_of ReadChain = codes "fault read chain"
text_of (ReadCapture port) = codes "fault read " ++ decimal port.0
text_of Write = codes "fault write"
text_of Memory = codes "fault memory"

abbrev pub line_of : Fault → List ℕ
line_of fault = text_of fault ++ 10 ∷ []
