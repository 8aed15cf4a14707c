-- The top object.
use Rattle.std.specs.Prelude.{ℕ, ◌-◌, ◌/◌, ◌&&◌, nat_le, nat_lt, max, Option, Some, None, List, [], ◌∷◌, codes}
use Rattle.serde_json.specs.Data.{Data}
use Rattle.serde_json.specs.Find.{get}
use Rattle.onvm_base.specs.declared.limits.TheConstants.{MAX_AGE, MAX_BUFFERS, MAX_BURST, MAX_CHAINS, MAX_CORES, MAX_FUNCTIONS, MAX_PORTS, MAX_RING, MAX_RULES, MAX_TICK, MAX_TRANSMIT_ROLES, MAX_WINDOW, MIN_RING, MIN_TICK}
use Rattle.chain_file.specs.declared.fault.Cause.{Cause}
use Rattle.chain_file.specs.declared.fault.Cause.TheVariants.{Limit, Marks}
use Rattle.chain_file.specs.declared.judged.Judged.{Judged}
use Rattle.chain_file.specs.declared.top.Sizes.{Sizes}
use Rattle.chain_file.specs.declared.top.Roles.{Roles}
use Rattle.chain_file.specs.declared.top.Rings.{Rings}
use Rattle.chain_file.specs.declared.top.Times.{Times}
use Rattle.chain_file.specs.Causes.{first_of, unless}
use Rattle.chain_file.specs.Values.{number, number_or, list_in, list_at, name_at, only}

abbrev pub top_keys : List (List ℕ)
top_keys =
    codes "version" ∷ codes "ports" ∷ codes "transmit" ∷ codes "cores" ∷ codes "buffers" ∷ codes "ring" ∷ codes "output"
    ∷ codes "burst" ∷ codes "high" ∷ codes "low" ∷ codes "age" ∷ codes "window" ∷ codes "tick" ∷ codes "functions"
    ∷ codes "chains" ∷ codes "rules" ∷ codes "default" ∷ []

abbrev pub roles_in : (captures : ℕ) → Data → Judged Roles
roles_in captures d = record {
  cause = first_of (
      (number (codes "version") 1 1 d).cause
      ∷ (number (codes "ports") 1 MAX_PORTS d).cause
      ∷ unless (nat_le captures (number (codes "ports") 1 MAX_PORTS d).value) Limit
      ∷ (number_or (codes "transmit") 1 MAX_TRANSMIT_ROLES 1 d).cause
      ∷ (number_or (codes "cores") 1 MAX_CORES 1 d).cause
      ∷ []
      );
  value = record {
    version = (number (codes "version") 1 1 d).value;
    ports = (number (codes "ports") 1 MAX_PORTS d).value;
    transmit = (number_or (codes "transmit") 1 MAX_TRANSMIT_ROLES 1 d).value;
    cores = (number_or (codes "cores") 1 MAX_CORES 1 d).value;
  };
}

abbrev pub ring_in : Data → Judged ℕ
ring_in d = number_or (codes "ring") MIN_RING MAX_RING 128 d

abbrev pub high_in : Data → Judged ℕ
high_in d = number_or (codes "high") 1 MAX_RING ((ring_in d).value - (ring_in d).value / 4) d

abbrev pub low_in : Data → Judged ℕ
low_in d = number_or (codes "low") 1 MAX_RING (max ((ring_in d).value / 4) 1) d

abbrev pub rings_in : Data → Judged Rings
rings_in d = record {
  cause = first_of (
      (number_or (codes "buffers") 1 MAX_BUFFERS 1024 d).cause
      ∷ (ring_in d).cause
      ∷ (number_or (codes "output") MIN_RING MAX_RING (ring_in d).value d).cause
      ∷ (number_or (codes "burst") 1 MAX_BURST 32 d).cause
      ∷ (high_in d).cause
      ∷ (low_in d).cause
      ∷ unless (nat_lt (low_in d).value (high_in d).value && nat_le (high_in d).value (ring_in d).value) Marks
      ∷ []
      );
  value = record {
    buffers = (number_or (codes "buffers") 1 MAX_BUFFERS 1024 d).value;
    ring = (ring_in d).value;
    output = (number_or (codes "output") MIN_RING MAX_RING (ring_in d).value d).value;
    burst = (number_or (codes "burst") 1 MAX_BURST 32 d).value;
    high = (high_in d).value;
    low = (low_in d).value;
  };
}

abbrev pub times_in : Data → Judged Times
times_in d = record {
  cause = first_of (
      (number_or (codes "age") 0 MAX_AGE 100000 d).cause
      ∷ (number_or (codes "window") 1 MAX_WINDOW 100000000 d).cause
      ∷ (number_or (codes "tick") MIN_TICK MAX_TICK 10000000 d).cause
      ∷ []
      );
  value = record {
    age = (number_or (codes "age") 0 MAX_AGE 100000 d).value;
    window = (number_or (codes "window") 1 MAX_WINDOW 100000000 d).value;
    tick = (number_or (codes "tick") MIN_TICK MAX_TICK 10000000 d).value;
  };
}

-- a list that needn't be there
abbrev pub list_or_none : (first last : ℕ) → Option Data → Option Cause
list_or_none first last None = None
list_or_none first last (Some d) = list_in first last d

-- the lists, their items aside, and the name of the default chain
abbrev pub lists_cause : Data → Option Cause
lists_cause d = first_of (
    list_at 1 MAX_FUNCTIONS (get (codes "functions") d)
    ∷ list_at 1 MAX_CHAINS (get (codes "chains") d)
    ∷ list_or_none 0 MAX_RULES (get (codes "rules") d)
    ∷ (name_at (get (codes "default") d)).cause
    ∷ []
    )

-- the top object of a file that is read for so many captures
unfoldable pub top_in : (captures : ℕ) → Data → Judged Sizes
top_in captures d = record {
  cause = first_of (
      only top_keys [] d ∷ (roles_in captures d).cause ∷ (rings_in d).cause ∷ (times_in d).cause ∷ lists_cause d ∷ []
      );
  value = record {
    version = (roles_in captures d).value.version;
    ports = (roles_in captures d).value.ports;
    transmit = (roles_in captures d).value.transmit;
    cores = (roles_in captures d).value.cores;
    buffers = (rings_in d).value.buffers;
    ring = (rings_in d).value.ring;
    output = (rings_in d).value.output;
    burst = (rings_in d).value.burst;
    high = (rings_in d).value.high;
    low = (rings_in d).value.low;
    age = (times_in d).value.age;
    window = (times_in d).value.window;
    tick = (times_in d).value.tick;
  };
}
