-- Small plans for examples: of one the functions have the priorities 1 and 2, and of one the marks want an age.
use Rattle.std.proofs.Common.{[], ◌∷◌, refl, arith}
use Rattle.std.specs.Prelude.{All}
use Rattle.onvm_base.specs.declared.function.FunctionPlan.{FunctionPlan}
use Rattle.onvm_base.specs.declared.plan.Plan.{Plan}
use Rattle.onvm_base.specs.Plan.{AreDifferent, IsChainPlan, IsFunction}
use Rattle.onvm_core.proofs.Plans.{differ_is, forwarding, forwards, is_forwarding, is_letter, is_through, narrow, pairs, through, two}

abbrev pub first : FunctionPlan
first = forwarding 102 1

-- with priority 2
abbrev pub second : FunctionPlan
second = record (forwarding 103 2) { priority = 2 }

pub is_second : IsFunction 1 second
is_second = record {
  name = is_letter 103 refl;
  service = (omega arith, omega arith);
  core = omega arith;
  kind = forwards;
  priority = (omega arith, omega arith);
  weight = (omega arith, omega arith);
  cost = omega arith;
}

pub are_chains : All (IsChainPlan 1 (first ∷ second ∷ [])) (through 97 1 ∷ through 98 2 ∷ [])
are_chains =
    two (IsChainPlan 1 (first ∷ second ∷ [])) (through 97 1) (through 98 2)
    (is_through 97 1 (first ∷ second ∷ []) refl (λ e. cc)) (is_through 98 2 (first ∷ second ∷ []) refl (λ e. cc))

pub differ : AreDifferent first second
differ = record { names = differ_is.names; services = differ_is.services; guests = differ_is.guests }

abbrev pub weighted : Plan
weighted = record narrow {
  functions = first ∷ second ∷ [];
  kept = record {
    sizes_are = narrow.kept.sizes_are;
    function_count = (omega arith, omega arith);
    functions_are = two (IsFunction 1) first second (is_forwarding 102 1 refl (omega arith) (omega arith)) is_second;
    functions_differ = pairs AreDifferent first second differ;
    chain_count = narrow.kept.chain_count;
    chains_are = are_chains;
    chains_differ = narrow.kept.chains_differ;
    rule_count = narrow.kept.rule_count;
    rules_are = narrow.kept.rules_are;
    default_is = narrow.kept.default_is;
  };
}

-- a burst and a high mark of two, and a reading throttles from 1,000 nanoseconds on
abbrev pub patient : Plan
patient = record narrow {
  burst = 2;
  age = 1000;
  kept = record {
    sizes_are = record {
      version = narrow.kept.sizes_are.version;
      ports = narrow.kept.sizes_are.ports;
      transmit = narrow.kept.sizes_are.transmit;
      cores = narrow.kept.sizes_are.cores;
      buffers = narrow.kept.sizes_are.buffers;
      ring = narrow.kept.sizes_are.ring;
      output = narrow.kept.sizes_are.output;
      burst = (omega arith, omega arith);
      low = narrow.kept.sizes_are.low;
      marks = narrow.kept.sizes_are.marks;
      high = narrow.kept.sizes_are.high;
      age = omega arith;
      window = narrow.kept.sizes_are.window;
      tick = narrow.kept.sizes_are.tick;
    };
    function_count = narrow.kept.function_count;
    functions_are = narrow.kept.functions_are;
    functions_differ = narrow.kept.functions_differ;
    chain_count = narrow.kept.chain_count;
    chains_are = narrow.kept.chains_are;
    chains_differ = narrow.kept.chains_differ;
    rule_count = narrow.kept.rule_count;
    rules_are = narrow.kept.rules_are;
    default_is = narrow.kept.default_is;
  };
}
