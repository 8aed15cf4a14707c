use Rattle.std.proofs.Common.{◌<◌, arith, refl}
use Rattle.std.proofs.lemmas.List.Elements.{All-replicate}
use Rattle.onvm_core.proofs.state.tests.layout.Goals as goal

pub returns : goal.returns
returns c = record {
  ports = (omega arith, omega arith);
  transmit = (omega arith, omega arith);
  cores = (omega arith, omega arith);
  functions = (omega arith, omega arith);
  buffers = (omega arith, omega arith);
  ring = (omega arith, omega arith);
  output = (omega arith, omega arith);
  places = refl;
  core_of = All-replicate (λ core. core < 1) 32 0 (omega arith);
}
