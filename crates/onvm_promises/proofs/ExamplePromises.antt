-- The four passes of one frame are what the roles' passes promise, each with the answer that one thing was done.
use Rattle.std.proofs.Common.{◌≡◌, ℕ, ◌+◌, false, [], ◌∷◌, refl, subst, arith, None, Some}
use Rattle.onvm_base.specs.declared.ids.FnId.{FnId}
use Rattle.onvm_base.specs.declared.ids.RingId.TheVariants.{Mail}
use Rattle.onvm_base.specs.declared.limits.TheConstants.{MAIL_RING}
use Rattle.onvm_base.specs.declared.outcome.Outcome.TheVariants.{Sent}
use Rattle.onvm_base.specs.declared.outcome.Verdict.TheVariants.{Next}
use Rattle.onvm_core.specs.declared.layout.Word.TheVariants.{Weight}
use Rattle.onvm_core.specs.declared.step.Act.TheVariants.{Post}
use Rattle.onvm_core.specs.Logs.{Log}
use Rattle.onvm_core.specs.Journals.{GoesThrough, Handling, journal}
use Rattle.onvm_core.proofs.Steps.{◌◂◌}
use Rattle.onvm_core.proofs.Walk.{f, entered}
use Rattle.onvm_core.proofs.WalkLogs.{setting}
use Rattle.load_estimate.specs.declared.sample.Sample.{Sample}
use Rattle.load_estimate.specs.declared.tick.Share.{Share}
use Rattle.load_estimate.specs.declared.tick.Tick.{Tick}
use Rattle.onvm_promises.specs.declared.pass.Pass.TheVariants.{Did}
use Rattle.onvm_promises.specs.Kept.{FeederKeeps}
use Rattle.onvm_promises.specs.Passes.{IsDrained, IsTickPass}
use Rattle.onvm_promises.specs.Roles.{IsCorePromise, IsReceivePromise, IsSendPromise, IsTickPromise}
use Rattle.onvm_promises.specs.Sampling.{is_cost}
use Rattle.onvm_promises.specs.Lines.{weights_posted}
use Rattle.onvm_promises.specs.Ticks.{weights_in}
use Rattle.onvm_promises.proofs.ExamplePasses.{only, moved, moved_is, received, received_is, served, served_is, taken, taken_is}

-- a frame got a block. It has no record yet
pub receives_one : (now : ℕ) (moment : ℕ → ℕ)
    → IsReceivePromise setting 0 now moment [] received
    (record { outcomes = record { records = []; sent = [] }; posts = [] }) (Did 1)
receives_one now moment = record {
  added = received;
  grown = refl;
  so_far = record { rests = (received_is _).rests; kept = record { records = refl; sent = refl; posts = refl } };
  whole = λ e. received_is _;
  tells = (omega arith, refl);
}

-- a function whose state counts what it handled, and whose verdict is Next
abbrev pub counts : ℕ → ℕ → Handling → ℕ → Type 0
counts function was handling now =
    (now ≡ was + 1) × (handling.verdict ≡ Next) × (handling.bytes ≡ handling.before.packet)

-- a frame was handled, and its function went from 0 to 1. The sample's time is the function's cost
pub handles_one : IsCorePromise counts (λ g. 0) (λ g. 1) is_cost setting 2 None [] served
    (record { yields = 0; lost = 0 }) (Did 1)
handles_one = record {
  added = served;
  grown = refl;
  first = tt;
  so_far = record {
    rests = served_is.rests;
    timed = (100, refl, refl) ◂ tt ◂ tt ◂ tt ◂ tt ◂ tt ◂ tt ◂ tt ◂ tt;
    journals = λ g mine.
        subst (λ (h : FnId). GoesThrough (counts h.0) 0 (journal h served) 1) (only g mine.known)
        (1, (refl, refl, refl), refl);
    kept = record { yields = refl; lost = refl };
  };
  whole = λ e. (refl, served_is);
  tells = (omega arith, refl);
}

-- a frame was moved, and recorded and sent as it left
abbrev sent_one : FeederKeeps
sent_one = record {
  outcomes = record {
    records = record { frame = entered.frame; outcome = Sent 0 } ∷ [];
    sent = record { frame = entered.frame; stamp = entered.stamp; packet = entered.packet } ∷ [];
  };
  posts = [];
}

pub moves_one : (now : ℕ) (moment : ℕ → ℕ) → IsSendPromise setting 1 now moment [] moved sent_one (Did 1)
moves_one now moment = record {
  added = moved;
  grown = refl;
  so_far = record { rests = (moved_is _).rests; kept = record { records = refl; sent = refl; posts = refl } };
  whole = λ e. moved_is _;
  tells = (omega arith, refl);
}

-- a sample was taken, and no tick was due

abbrev sample : ℕ → Sample
sample moment = record { function = f; moment = moment; count = 1; time = 100 }

pub takes_one : IsTickPromise setting 3 0 9999999 false (λ number. 0) [] taken (sample 9999999 ∷ []) [] [] (Did 1)
takes_one = record {
  added = taken;
  grown = refl;
  so_far = record { blocks = taken_is.blocks; kept = refl };
  ticked = refl;
  posts = λ g known. refl;
  whole = λ e. taken_is;
  tells = (omega arith, refl);
}

-- a nanosecond later one is: all of the core is the function's, and a whole burst is its weight

abbrev ticked : Log
ticked = Post (Weight f) 1024 ∷ taken

ticked_is : IsTickPass setting 3 [] ticked
ticked_is = record {
  blocks = omega arith ◂ taken_is.blocks;
  drained = λ g known.
      subst (λ (h : FnId). IsDrained (Mail h) MAIL_RING ticked) (only g known)
      (record { bounded = omega arith; fewer = λ less. refl });
}

abbrev whole_share : Share
whole_share = record { num = 100; den = 100; weight = 1024 }

abbrev tick : Tick
tick = record {
  number = 1;
  moment = 10000000;
  taken = 1;
  lines =
      record { arrivals = 1; median = Some 100; share = Some whole_share; weight = 1024 }
      ∷ [];
}

pub ticks_once : IsTickPromise setting 3 0 10000000 false (λ number. 0) [] ticked (sample 10000000 ∷ []) []
    (tick ∷ []) (Did 2)
ticks_once = record {
  added = ticked;
  grown = refl;
  so_far = record { blocks = ticked_is.blocks; kept = refl };
  ticked = refl;
  posts = λ g known. subst (λ (h : FnId). weights_in h ticked ≡ weights_posted h.0 (tick ∷ [])) (only g known) refl;
  whole = λ e. ticked_is;
  tells = (omega arith, refl);
}
