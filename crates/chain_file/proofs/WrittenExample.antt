-- What the written form of a small plan is, byte by byte.
use Rattle.std.proofs.Common.{◌≡◌, List, [], ◌∷◌, ◌++◌, codes, refl}
use Rattle.std.specs.Fmt.{digits}
use Rattle.json.specs.Print.{escape_byte}
use Rattle.onvm_base.specs.declared.chain.ChainPlan.{ChainPlan}
use Rattle.onvm_base.specs.declared.chain.ChainStep.TheVariants as step
use Rattle.onvm_base.specs.declared.function.FunctionPlan.{FunctionPlan}
use Rattle.onvm_base.specs.declared.function.Kind.TheVariants as kind
use Rattle.onvm_base.specs.declared.plan.Plan.{Plan}
use Rattle.onvm_base.specs.Plan.{IsPlan, Sizes}
use Rattle.chain_file.specs.Written.{written}

sizes : Sizes
sizes = record {
  version = 1;
  ports = 1;
  transmit = 1;
  cores = 1;
  buffers = 1024;
  ring = 128;
  output = 128;
  burst = 32;
  high = 96;
  low = 32;
  age = 100000;
  window = 100000000;
  tick = 10000000;
}

functions : List FunctionPlan
functions = record { name = 102 ∷ []; service = 1; core = 0; kind = kind.Forward; priority = 1; weight = 1024; cost = 100 } ∷ []

chains : List ChainPlan
chains = record { name = 97 ∷ []; steps = step.To 1 ∷ step.Out 0 ∷ [] } ∷ []

plan : IsPlan sizes functions chains [] (record { 0 = 0 }) → Plan
unfolding sizes functions chains
plan kept = record {
  version = 1;
  ports = 1;
  transmit = 1;
  cores = 1;
  buffers = 1024;
  ring = 128;
  output = 128;
  burst = 32;
  high = 96;
  low = 32;
  age = 100000;
  window = 100000000;
  tick = 10000000;
  functions = functions;
  chains = chains;
  rules = [];
  default = record { 0 = 0 };
  kept = kept;
}

every_key_is_written : (kept : IsPlan sizes functions chains [] (record { 0 = 0 })) → written (plan kept) ≡
    (codes "{\"version\":1,\"ports\":1,\"transmit\":1,\"cores\":1,\"buffers\":1024,\"ring\":128,\"output\":128,"
    ++ codes "\"burst\":32,\"high\":96,\"low\":32,\"age\":100000,\"window\":100000000,\"tick\":10000000,"
    ++ codes "\"functions\":[{\"name\":\"f\",\"service\":1,\"core\":0,\"kind\":\"forward\","
    ++ codes "\"priority\":1,\"weight\":1024,\"cost\":100}],"
    ++ codes "\"chains\":[{\"name\":\"a\",\"steps\":[{\"to\":1},{\"out\":0}]}],\"rules\":[],\"default\":\"a\"}")
unfolding plan sizes functions chains digits escape_byte
every_key_is_written kept = refl
