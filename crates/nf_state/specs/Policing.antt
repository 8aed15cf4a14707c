-- A token bucket: what a frame finds in it, and what it leaves.
use Rattle.std.specs.Prelude.{ℕ, ◌+◌, ◌-◌, ◌*◌, min, max, nat_lt, if◌then◌else◌, Option, Some, None}
use Rattle.onvm_base.specs.declared.frame.Stamp.{Stamp}
use Rattle.onvm_base.specs.declared.outcome.Verdict.{Verdict}
use Rattle.onvm_base.specs.declared.outcome.Verdict.TheVariants.{Drop, Next}
use Rattle.nf_state.specs.declared.policer.Bucket.{Bucket}

-- in nanoseconds
abbrev pub moment_of : Stamp → ℕ
moment_of stamp = stamp.seconds * 1000000000 + stamp.nanos

-- full at the first frame, and from then on so many tokens more for each nanosecond; a frame whose stamp is
-- earlier than the last moment comes at that moment
abbrev pub filled : (rate depth : ℕ) → Option Bucket → ℕ → Bucket
filled rate depth None moment = record { tokens = depth * 1000000000; last = moment }
filled rate depth (Some bucket) moment =
    record {
      tokens = min (bucket.tokens + (moment - bucket.last) * rate) (depth * 1000000000);
      last = max moment bucket.last;
    }

-- what a frame of this length takes off, where there is enough
abbrev pub taken_from : ℕ → Bucket → Bucket
taken_from length bucket =
    if nat_lt bucket.tokens (length * 1000000000) then bucket
    else record { tokens = bucket.tokens - length * 1000000000; last = bucket.last }

abbrev pub bucket_after : (rate depth : ℕ) → Option Bucket → (moment length : ℕ) → Option Bucket
bucket_after rate depth bucket moment length = Some (taken_from length (filled rate depth bucket moment))

abbrev pub verdict_of : (rate depth : ℕ) → Option Bucket → (moment length : ℕ) → Verdict
verdict_of rate depth bucket moment length =
    if nat_lt (filled rate depth bucket moment).tokens (length * 1000000000) then Drop else Next
