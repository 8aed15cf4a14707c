-- Passes without a frame: each is whole, and its answer may be Idle.
use Rattle.std.proofs.Common.{◌≡◌, ℕ, zero, suc, ◌<◌, true, false, inl, inr, [], ◌∷◌, refl, subst, arith, None}
use Rattle.onvm_base.specs.declared.ids.FnId.{FnId}
use Rattle.onvm_base.specs.declared.ids.RingId.TheVariants.{Lane, Output, Mail}
use Rattle.onvm_base.specs.declared.limits.TheConstants.{MAIL_RING}
use Rattle.onvm_core.specs.declared.layout.Word.TheVariants.{Cell, Weight}
use Rattle.onvm_core.specs.declared.step.Act.TheVariants.{Empty, Look}
use Rattle.onvm_core.specs.Logs.{Log, Setting}
use Rattle.onvm_core.specs.Handling.{IsOwn}
use Rattle.onvm_core.specs.Journals.{Handling}
use Rattle.onvm_core.specs.Marks.{Ages}
use Rattle.onvm_core.proofs.Marked.{no_bit}
use Rattle.onvm_core.proofs.Steps.{◌◂◌}
use Rattle.onvm_core.proofs.Walk.{f}
use Rattle.onvm_core.proofs.WalkLogs as walk
use Rattle.onvm_promises.specs.declared.pass.Pass.TheVariants.{Idle}
use Rattle.onvm_promises.specs.Acts.IsMoveStep.{AnEmpty}
use Rattle.onvm_promises.specs.Answers.{IsIdleCore}
use Rattle.onvm_promises.specs.Kept.{FeederKeeps}
use Rattle.onvm_promises.specs.Passes.{IsCorePass, IsDrained, IsMarksPass, IsReceivePass, IsSendPass, IsServed, IsTickPass, ran_dry}
use Rattle.onvm_promises.specs.Passes.EndsWithEmpties.{NoEmpty, OneEmpty}
use Rattle.onvm_promises.specs.Rests.{IsSettledFeeder}
use Rattle.onvm_promises.specs.Roles.{IsCorePromise, IsReceivePromise, IsSendPromise, IsTickPromise}
use Rattle.onvm_promises.specs.Sampling.{is_cost}
use Rattle.onvm_promises.proofs.ExamplePasses.{only}

-- the setting of one frame, without it
abbrev pub setting : Setting
setting = record walk.setting { entries = [] }

pub settled : (feeder : ℕ) (aged : Ages) → IsSettledFeeder setting feeder aged []
settled feeder aged = record { marked = tt; ended = tt; paid = inl no_bit; paced = tt }

no_marks : (feeder : ℕ) (aged : Ages) → IsMarksPass setting feeder aged [] []
no_marks feeder aged =
    record { marks = tt; settled = settled feeder aged; one = λ some. absurd (some refl); none = λ e. refl }

abbrev pub nothing_kept : FeederKeeps
nothing_kept = record { outcomes = record { records = []; sent = [] }; posts = [] }

-- The receive role has no frame to begin, and no lane to look at: it makes no step

pub receive_is : (aged : Ages) → IsReceivePass setting 0 aged [] []
receive_is aged = record {
  marks = [];
  blocks = [];
  parts = refl;
  pass = no_marks 0 aged;
  steps = tt;
  count = refl;
  rests = record { blocks = tt; between = refl; feeder = settled 0 aged };
}

pub receives_none : (now : ℕ) (moment : ℕ → ℕ) → IsReceivePromise setting 0 now moment [] [] nothing_kept Idle
receives_none now moment = record {
  added = [];
  grown = refl;
  so_far = record { rests = (receive_is _).rests; kept = record { records = refl; sent = refl; posts = refl } };
  whole = λ e. receive_is _;
  tells = (refl, refl);
}

-- The core looks at the weight word, sees room, and finds both lanes empty

abbrev pub core_log : Log
core_log = Empty (Lane f 1) ∷ Empty (Lane f 0) ∷ Look (Cell (Output f) 0) 0 None ∷ Look (Weight f) 0 None ∷ []

pub own : IsOwn setting 2 f
own = record { known = omega arith; core = refl }

served_once : IsServed setting f [] core_log
served_once = record {
  earlier = [];
  service = Empty (Lane f 1) ∷ Empty (Lane f 0) ∷ Look (Cell (Output f) 0) 0 None ∷ [];
  later = [];
  seen = 0;
  parts = refl;
  ends = inr (inr (OneEmpty f 1 1 _ refl (OneEmpty f 0 0 _ refl (NoEmpty _))));
  once = refl;
  alone = refl;
  barred_once = omega arith;
  behind = λ none. refl;
}

pub core_is : IsCorePass setting 2 [] core_log
core_is = record {
  served = λ g mine. subst (λ (h : FnId). IsServed setting h [] core_log) (only g mine.known) served_once;
  samples = λ g mine. refl;
  rests = record {
    blocks = (own, omega arith) ◂ (own, omega arith) ◂ ((own, omega arith), refl) ◂ (own, refl) ◂ tt;
    hand = refl;
    tries = refl ◂ refl ◂ tt ◂ tt ◂ tt;
    looks = tt ◂ tt ◂ refl ◂ tt ◂ tt;
    samples = tt ◂ tt ◂ tt ◂ tt ◂ tt;
    sampled = λ g mine. refl;
  };
}

lanes_dry : (feeder : ℕ) → feeder < 2 → ran_dry (Lane f feeder) core_log ≡ true
lanes_dry zero less = refl
lanes_dry (suc zero) less = refl
lanes_dry (suc (suc k)) less = absurd (omega (arith, less))

none_waits : IsIdleCore setting 2 core_log
none_waits g mine =
    inr (subst (λ (h : FnId). (feeder : ℕ) → feeder < 2 → ran_dry (Lane h feeder) core_log ≡ true) (only g mine.known)
    lanes_dry)

-- whatever its functions do
pub handles_none : {S : Type 0} (acts : ℕ → S → Handling → S → Type 0) (start : ℕ → S)
    → IsCorePromise acts start start is_cost setting 2 None [] core_log (record { yields = 0; lost = 0 }) Idle
handles_none acts start = record {
  added = core_log;
  grown = refl;
  first = tt;
  so_far = record {
    rests = core_is.rests;
    timed = tt ◂ tt ◂ tt ◂ tt ◂ tt;
    journals = λ g mine. refl;
    kept = record { yields = refl; lost = refl };
  };
  whole = λ e. (refl, core_is);
  tells = (refl, none_waits);
}

-- The transmit role finds the output ring empty

abbrev pub send_log : Log
send_log = Empty (Output f) ∷ []

pub send_settled : (aged : Ages) → IsSettledFeeder setting 1 aged send_log
send_settled aged = record {
  marked = inl no_bit ◂ tt;
  ended = tt;
  paid = inl no_bit;
  paced = ((λ less. absurd (omega (arith, less))), λ g. omega arith) ◂ tt;
}

pub send_is : (aged : Ages) → IsSendPass setting 1 aged [] send_log
send_is aged = record {
  marks = [];
  moves = send_log;
  parts = refl;
  pass = no_marks 1 aged;
  steps = AnEmpty f (omega arith) ◂ tt;
  few = λ g. omega arith;
  drained = λ g reads.
      subst (λ (h : FnId). IsDrained (Output h) 32 send_log) (only g reads.known)
      (record { bounded = omega arith; fewer = λ less. refl });
  rests = record {
    blocks = record { known = omega arith; consumes = refl } ◂ tt;
    free = refl;
    feeder = send_settled aged;
  };
}

pub moves_none : (now : ℕ) (moment : ℕ → ℕ) → IsSendPromise setting 1 now moment [] send_log nothing_kept Idle
moves_none now moment = record {
  added = send_log;
  grown = refl;
  so_far = record { rests = (send_is _).rests; kept = record { records = refl; sent = refl; posts = refl } };
  whole = λ e. send_is _;
  tells = (
    refl,
    λ g reads. subst (λ (h : FnId). ran_dry (Output h) send_log ≡ true) (only g reads.known) refl,
  );
}

-- The tick role finds the mail ring empty, and no tick is due

abbrev pub tick_log : Log
tick_log = Empty (Mail f) ∷ []

pub tick_is : IsTickPass setting 3 [] tick_log
tick_is = record {
  blocks = omega arith ◂ tt;
  drained = λ g known.
      subst (λ (h : FnId). IsDrained (Mail h) MAIL_RING tick_log) (only g known)
      (record { bounded = omega arith; fewer = λ less. refl });
}

pub takes_none : IsTickPromise setting 3 0 9999999 false (λ number. 0) [] tick_log [] [] [] Idle
takes_none = record {
  added = tick_log;
  grown = refl;
  so_far = record { blocks = tick_is.blocks; kept = refl };
  ticked = refl;
  posts = λ g known. refl;
  whole = λ e. tick_is;
  tells = (refl, tt);
}
