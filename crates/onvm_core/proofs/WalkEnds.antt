-- The walk of one frame is of a setting, and ends with as many records as frames: the premises of the laws on ends and
-- trails are met together.
use Rattle.std.proofs.Common.{◌≡◌, ℕ, ◌+◌, ◌<◌, ◌≤◌, zero, suc, inl, inr, [], ◌∷◌, length, refl, sym, ◌∙◌, ap, arith, Some, None}
use Rattle.std.specs.Prelude.{◌==◌, slice_get}
use Rattle.std.proofs.lemmas.Bool.{cases_Bool, eqb-true}
use Rattle.onvm_base.specs.declared.limits.TheConstants.{MAX_PORT_FRAMES}
use Rattle.onvm_core.specs.declared.entry.Entry.{Entry}
use Rattle.onvm_core.specs.Frames.{AllEnded, AllInPool, HasOneRecordEach}
use Rattle.onvm_core.specs.Logs.{IsNumbered, entries_of_port}
use Rattle.onvm_core.specs.Records.{records_in}
use Rattle.onvm_core.specs.Settings.{HasFewFrames, IsSetting, frame_count}
use Rattle.onvm_core.proofs.Complete.{all_back, all_ended, one_each}
use Rattle.onvm_core.proofs.Plans.{one}
use Rattle.onvm_core.proofs.Walk.{walk, walk_is_lawful}
use Rattle.onvm_core.proofs.WalkLogs.{entry, setting, walk_follows}

numbered_at : (port done : ℕ) (e : Entry) → 0 ≡ port → slice_get (entry ∷ []) done ≡ Some e
    → e.frame ≡ record { port = record { 0 = port }; number = done + 1 }
numbered_at port zero e at found =
    let same : entry ≡ e = cc in
    ap (λ (x : Entry). x.frame) (sym same)
    ∙ ap (λ (p : ℕ). record { port = record { 0 = p }; number = 1 }) at
numbered_at port (suc k) e at found = absurd (let off : None ≡ Some e = found in cc)

walk_is_numbered : IsNumbered setting
walk_is_numbered port done e found =
    elim (cases_Bool (0 == port)) [
      | inl met ↦ numbered_at port done e (eqb-true 0 port met) (rw met at found)
      | inr unmet ↦ absurd (let off : None ≡ Some e = rw unmet at found in cc)
    ]

few_on : (port : ℕ) → length (entries_of_port port (entry ∷ [])) ≤ MAX_PORT_FRAMES
few_on port =
    elim (cases_Bool (0 == port)) [ inl met ↦ rw met (omega arith) | inr unmet ↦ rw unmet (omega arith) ]

pub walk_is_setting : IsSetting setting
walk_is_setting = record {
  layout = record {
    ports = refl;
    transmit = refl;
    cores = refl;
    functions = refl;
    buffers = refl;
    ring = refl;
    output = refl;
    core_of = refl;
  };
  numbered = walk_is_numbered;
  ports = one (λ (e : Entry). e.frame.port.0 < setting.layout.ports) entry (omega arith);
  chains = one (λ (e : Entry). e.chain.0 < length setting.plan.chains) entry (omega arith);
  few = few_on;
}

pub walk_is_few : HasFewFrames setting
walk_is_few = omega arith

as_many : length (records_in walk) ≡ frame_count setting
as_many = refl

pub walk_has_ended : AllEnded setting walk
walk_has_ended = all_ended setting walk walk_is_numbered walk_is_lawful walk_follows as_many

pub walk_is_back : AllInPool setting walk
walk_is_back = all_back setting walk walk_is_numbered walk_is_lawful walk_follows as_many

pub walk_has_one_each : HasOneRecordEach setting walk
walk_has_one_each = one_each setting walk walk_is_numbered walk_is_lawful walk_follows as_many
