-- The mark of the example is raised by moments: the two frames entered at 0, and the marks pass is at 1,000, the age.
use Rattle.std.proofs.Common.{◌≡◌, ℕ, true, false, [], ◌∷◌, ◌++◌, refl, arith}
use Rattle.onvm_core.specs.Logs.{Log}
use Rattle.onvm_core.proofs.HeldSteps.{held}
use Rattle.onvm_promises.specs.declared.pass.Pass.TheVariants.{Did, Idle}
use Rattle.onvm_promises.specs.Kept.{FeederKeeps, moment_then}
use Rattle.onvm_promises.specs.Roles.{IsReceivePromise}
use Rattle.onvm_promises.specs.Times.{aged_by, reading_time}
use Rattle.onvm_promises.proofs.ExampleHeld.{clearing, entered, first_is, holding, raising, second_is, setting, third_is}

abbrev pub at_first : ℕ → ℕ
at_first number = 0

abbrev pub held_log : Log
held_log = holding ++ raising ++ entered

abbrev pub cleared_log : Log
cleared_log = clearing ++ held_log

-- of two frames in the lane, and a high mark of two, the older one's time counts
time_is : reading_time setting 0 0 1000 at_first entered ≡ 1000
time_is = refl

-- the reading of pass 0 has the age at 1,000, and at 999 it hasn't
pub old : aged_by setting 0 (moment_then at_first 10 1000) held_log 0 0 ≡ true
old = refl

pub young : aged_by setting 0 (moment_then at_first 10 999) held_log 0 0 ≡ false
young = refl

-- it stays so in later passes
old_still : aged_by setting 0 (moment_then (moment_then at_first 10 1000) 14 2000) cleared_log 0 0 ≡ true
old_still = refl

-- The promises

receives_two : IsReceivePromise setting 0 0 at_first [] entered
    (record { outcomes = record { records = []; sent = [] }; posts = [] }) (Did 2)
receives_two = record {
  added = entered;
  grown = refl;
  so_far = record { rests = (first_is _).rests; kept = record { records = refl; sent = refl; posts = refl } };
  whole = λ e. first_is _;
  tells = (omega arith, refl);
}

-- the frame is recorded as held, and the post has its number, its moment and the function's bit
abbrev held_keeps : FeederKeeps
held_keeps = record {
  outcomes = record { records = held ∷ []; sent = [] };
  posts = record { feeder = 0; number = 1; moment = 1000; bits = 1 } ∷ [];
}

pub holds_one : IsReceivePromise setting 0 1000 at_first entered held_log held_keeps (Did 1)
holds_one = record {
  added = holding ++ raising;
  grown = refl;
  so_far = record { rests = (second_is _ old).rests; kept = record { records = refl; sent = refl; posts = refl } };
  whole = λ e. second_is _ old;
  tells = (omega arith, refl);
}

abbrev cleared_keeps : FeederKeeps
cleared_keeps = record {
  outcomes = held_keeps.outcomes;
  posts = record { feeder = 0; number = 1; moment = 1000; bits = 1 }
      ∷ record { feeder = 0; number = 2; moment = 2000; bits = 0 }
      ∷ [];
}

pub clears : IsReceivePromise setting 0 2000 (moment_then at_first 10 1000) held_log cleared_log cleared_keeps Idle
clears = record {
  added = clearing;
  grown = refl;
  so_far =
      record { rests = (third_is _ old_still).rests; kept = record { records = refl; sent = refl; posts = refl } };
  whole = λ e. third_is _ old_still;
  tells = (refl, refl);
}
