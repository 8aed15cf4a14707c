-- What was taken of a source and pulled of that, in order.
use Rattle.std.specs.Prelude.{ℕ, List, [], ◌∷◌, ◌++◌, take}
use Rattle.onvm_base.specs.declared.frame.Frame.{Frame}
use Rattle.rx_feed.specs.declared.history.TakenBytes.{TakenBytes}
use Rattle.rx_feed.specs.declared.history.TakenBytes.TheVariants as taken
use Rattle.rx_feed.specs.declared.history.PulledFrames.{PulledFrames}
use Rattle.rx_feed.specs.declared.history.PulledFrames.TheVariants as pulled

abbrev pub bytes_in : TakenBytes → List ℕ
bytes_in taken.None = []
bytes_in (taken.Then' marker before piece count) = bytes_in before ++ take count piece.value.items

abbrev pub frames_in : PulledFrames → List Frame
frames_in pulled.None = []
frames_in (pulled.Then' marker before frame) = frames_in before ++ frame.value ∷ []
