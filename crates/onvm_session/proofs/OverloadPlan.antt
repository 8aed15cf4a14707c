-- What a run under overload is of: five frames of a port, for a function that handles one frame a pass and whose lane
-- takes three. A burst is four, the high mark two, and a reading counts from 1,000 nanoseconds on, which is a round of
-- a serial run.
use Rattle.std.proofs.Common.{◌≡◌, ◌≢◌, ℕ, zero, suc, ◌<◌, ◌≤◌, false, [], ◌∷◌, length, refl, sym, ap, arith, Some, None}
use Rattle.std.specs.Prelude.{◌==◌, All, IsBitSet, replicate}
use Rattle.std.proofs.lemmas.Bool.{ne_eqb}
use Rattle.std.proofs.lemmas.List.Elements.{All-cons, All-replicate}
use Rattle.onvm_base.specs.declared.function.FunctionPlan.{FunctionPlan}
use Rattle.onvm_base.specs.declared.ids.BufId.{BufId}
use Rattle.onvm_base.specs.declared.limits.TheConstants.{MAX_PORT_FRAMES}
use Rattle.onvm_base.specs.declared.plan.Plan.{Plan}
use Rattle.onvm_base.specs.Plan.{IsChainPlan, IsFunction}
use Rattle.onvm_base.specs.Services.{instances}
use Rattle.onvm_core.specs.declared.entry.Entry.{Entry}
use Rattle.onvm_core.specs.declared.layout.Layout.{Layout}
use Rattle.onvm_core.specs.Layouts.{IsLayout}
use Rattle.onvm_core.specs.Logs.{IsNumbered, Setting, entries_of_port}
use Rattle.onvm_core.specs.Settings.{IsSetting}
use Rattle.onvm_core.proofs.Crowd.{frame_on}
use Rattle.onvm_core.proofs.Plans.{forwarding, forwards, is_letter, is_through, no_pair, one, smallest, through, two}

abbrev pub layout : Layout
layout =
    record {
      ports = 1;
      transmit = 1;
      cores = 1;
      functions = 1;
      buffers = 4;
      ring = 3;
      output = 2;
      core_of = replicate 32 0;
    }

-- with the least weight, which is a budget of one frame a pass
abbrev pub slow : FunctionPlan
slow = record (forwarding 102 1) { weight = 1 }

pub is_slow : IsFunction 1 slow
is_slow = record {
  name = is_letter 102 refl;
  service = (omega arith, omega arith);
  core = omega arith;
  kind = forwards;
  priority = (omega arith, omega arith);
  weight = (omega arith, omega arith);
  cost = omega arith;
}

pub offered : instances 1 (slow ∷ []) ≢ []
offered e = cc

abbrev pub plan : Plan
plan = record smallest {
  buffers = 4;
  ring = 3;
  output = 2;
  burst = 4;
  high = 2;
  low = 1;
  age = 1000;
  functions = slow ∷ [];
  kept = record {
    sizes_are = record {
      version = refl;
      ports = (omega arith, omega arith);
      transmit = (omega arith, omega arith);
      cores = (omega arith, omega arith);
      buffers = (omega arith, omega arith);
      ring = (omega arith, omega arith);
      output = (omega arith, omega arith);
      burst = (omega arith, omega arith);
      low = omega arith;
      marks = omega arith;
      high = omega arith;
      age = omega arith;
      window = (omega arith, omega arith);
      tick = (omega arith, omega arith);
    };
    function_count = (omega arith, omega arith);
    functions_are = one (IsFunction 1) slow is_slow;
    functions_differ = λ i j f g less at_i at_j. absurd (no_pair slow g i j less at_j);
    chain_count = smallest.kept.chain_count;
    chains_are = one (IsChainPlan 1 (slow ∷ [])) (through 97 1) (is_through 97 1 (slow ∷ []) refl offered);
    chains_differ = smallest.kept.chains_differ;
    rule_count = smallest.kept.rule_count;
    rules_are = smallest.kept.rules_are;
    default_is = smallest.kept.default_is;
  };
}

abbrev pub b3 : BufId
b3 = record { 0 = 3 }

abbrev pub e1 : Entry
e1 = frame_on 1 0

abbrev pub e2 : Entry
e2 = frame_on 2 0

abbrev pub e3 : Entry
e3 = frame_on 3 0

abbrev pub e4 : Entry
e4 = frame_on 4 0

abbrev pub e5 : Entry
e5 = frame_on 5 0

abbrev pub setting : Setting
setting = record { layout = layout; plan = plan; entries = e1 ∷ e2 ∷ e3 ∷ e4 ∷ e5 ∷ [] }

-- The setting is one of a run

pub ranges : IsLayout layout
ranges = record {
  ports = (omega arith, omega arith);
  transmit = (omega arith, omega arith);
  cores = (omega arith, omega arith);
  functions = (omega arith, omega arith);
  buffers = (omega arith, omega arith);
  ring = (omega arith, omega arith);
  output = (omega arith, omega arith);
  places = refl;
  core_of = All-replicate (λ core. core < 1) 32 0 (omega arith);
}

apart : (k : ℕ) → (0 == suc k) ≡ false
apart k = ne_eqb 0 (suc k) (λ e. omega (arith, e))

same_entry : (x e : Entry) → Some x ≡ Some e → x.frame ≡ e.frame
same_entry x e found = let same : x ≡ e = cc in ap (λ (y : Entry). y.frame) same

numbered : IsNumbered setting
numbered zero zero e found = sym (same_entry e1 e found)
numbered zero (suc zero) e found = sym (same_entry e2 e found)
numbered zero (suc (suc zero)) e found = sym (same_entry e3 e found)
numbered zero (suc (suc (suc zero))) e found = sym (same_entry e4 e found)
numbered zero (suc (suc (suc (suc zero)))) e found = sym (same_entry e5 e found)
numbered zero (suc (suc (suc (suc (suc n))))) e found = absurd (let off : None ≡ Some e = found in cc)
numbered (suc p) done e found = absurd (let off : None ≡ Some e = (rw (apart p) at found) in cc)

few : (port : ℕ) → length (entries_of_port port setting.entries) ≤ MAX_PORT_FRAMES
few zero = omega arith
few (suc p) = rw (apart p) (omega arith)

all_five : (P : Entry → Type 0) → P e1 → P e2 → P e3 → P e4 → P e5 → All P (e1 ∷ e2 ∷ e3 ∷ e4 ∷ e5 ∷ [])
all_five P p1 p2 p3 p4 p5 =
    All-cons P e1 (e2 ∷ e3 ∷ e4 ∷ e5 ∷ []) p1
    (All-cons P e2 (e3 ∷ e4 ∷ e5 ∷ []) p2 (All-cons P e3 (e4 ∷ e5 ∷ []) p3 (two P e4 e5 p4 p5)))

pub setting_is : IsSetting setting
setting_is = record {
  layout = record {
    ports = refl;
    transmit = refl;
    cores = refl;
    functions = refl;
    buffers = refl;
    ring = refl;
    output = refl;
    core_of = refl;
  };
  numbered = numbered;
  ports = all_five (λ (e : Entry). e.frame.port.0 < 1) (omega arith) (omega arith) (omega arith) (omega arith)
      (omega arith);
  chains = all_five (λ (e : Entry). e.chain.0 < 1) (omega arith) (omega arith) (omega arith) (omega arith)
      (omega arith);
  few = few;
}

-- The bits of the pool word, as buffers 0 to 3 leave it one after another

pub bit_15 : IsBitSet 15 0
bit_15 h = let off : 1 ≡ 0 = h in absurd (omega (arith, off))

pub bit_14 : IsBitSet 14 1
bit_14 h = let off : 2 ≡ 0 = h in absurd (omega (arith, off))

pub bit_12 : IsBitSet 12 2
bit_12 h = let off : 4 ≡ 0 = h in absurd (omega (arith, off))

pub bit_8 : IsBitSet 8 3
bit_8 h = let off : 8 ≡ 0 = h in absurd (omega (arith, off))

pub lowest_15 : (k : ℕ) → k < 0 → ¬ IsBitSet 15 k
lowest_15 k less = absurd (omega (arith, less))

pub lowest_14 : (k : ℕ) → k < 1 → ¬ IsBitSet 14 k
lowest_14 zero less h = h refl
lowest_14 (suc k) less h = absurd (omega (arith, less))

pub lowest_12 : (k : ℕ) → k < 2 → ¬ IsBitSet 12 k
lowest_12 zero less h = h refl
lowest_12 (suc zero) less h = h refl
lowest_12 (suc (suc k)) less h = absurd (omega (arith, less))

pub lowest_8 : (k : ℕ) → k < 3 → ¬ IsBitSet 8 k
lowest_8 zero less h = h refl
lowest_8 (suc zero) less h = h refl
lowest_8 (suc (suc zero)) less h = h refl
lowest_8 (suc (suc (suc k))) less h = absurd (omega (arith, less))
