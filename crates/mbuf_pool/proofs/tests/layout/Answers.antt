use Rattle.std.proofs.Common.{◌<◌, arith, refl}
use Rattle.std.proofs.lemmas.List.Elements.{All-replicate}
use Rattle.mbuf_pool.proofs.tests.layout.Goals as goal

pub returns-clause-ranges : goal.returns-clause-ranges
returns-clause-ranges c = record {
  ports = (omega arith, omega arith);
  transmit = (omega arith, omega arith);
  cores = (omega arith, omega arith);
  functions = (omega arith, omega arith);
  buffers = (c.requires.0, omega (arith, c.requires.1));
  ring = (omega arith, omega arith);
  output = (omega arith, omega arith);
  places = refl;
  core_of = All-replicate (λ core. core < 1) 32 0 (omega arith);
}
