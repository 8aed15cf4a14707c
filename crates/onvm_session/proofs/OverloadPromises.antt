-- The twelve turns of the run under overload are what passes promise, each with its answer and what the role keeps.
use Rattle.std.proofs.Common.{ℕ, false, List, [], ◌∷◌, ◌++◌, refl, subst, arith, None}
use Rattle.onvm_base.specs.declared.frame.SentFrame.{SentFrame}
use Rattle.onvm_base.specs.declared.ids.FnId.{FnId}
use Rattle.onvm_base.specs.declared.ids.RingId.TheVariants.{Lane}
use Rattle.onvm_base.specs.declared.outcome.Outcome.TheVariants.{RingFull, Sent}
use Rattle.onvm_base.specs.declared.outcome.Record.{Record}
use Rattle.onvm_core.specs.declared.entry.Entry.{Entry}
use Rattle.onvm_core.specs.Journals.{GoesThrough, journal}
use Rattle.onvm_core.proofs.Crowd.{f}
use Rattle.onvm_core.proofs.Steps.{◌◂◌}
use Rattle.load_estimate.specs.declared.sample.Sample.{Sample}
use Rattle.onvm_promises.specs.declared.pass.Pass.TheVariants.{Did, Idle}
use Rattle.onvm_promises.specs.Kept.{FeederKeeps, moment_then}
use Rattle.onvm_promises.specs.Roles.{IsCorePromise, IsReceivePromise, IsSendPromise, IsTickPromise}
use Rattle.onvm_promises.specs.Sampling.{is_cost}
use Rattle.onvm_promises.proofs.ExamplePromises.{counts}
use Rattle.onvm_session.proofs.OverloadCore.{core_log, first_served, first_served_is, only, second_served, second_served_is, third_served, third_served_is, two_served}
use Rattle.onvm_session.proofs.OverloadPlan.{e1, e2, e3, e4, setting}
use Rattle.onvm_session.proofs.OverloadReceive.{first_is, held, held_log, holding, raising, receive_log, second_is, staying, third_is, turned_back}
use Rattle.onvm_session.proofs.OverloadSend.{first_moved, first_moved_is, second_moved, second_moved_is, send_log, third_moved, third_moved_is, two_moved}
use Rattle.onvm_session.proofs.OverloadTick.{first_taken_is, second_taken_is, taken, third_taken_is, three_taken, two_taken}

-- Received. The moments of the frames are those of the round in which they entered

abbrev pub turned_keeps : FeederKeeps
turned_keeps = record {
  outcomes = record { records = record { frame = e4.frame; outcome = RingFull (Lane f 0) } ∷ []; sent = [] };
  posts = [];
}

abbrev pub held_keeps : FeederKeeps
held_keeps = record {
  outcomes = record {
    records = record { frame = e4.frame; outcome = RingFull (Lane f 0) } ∷ held ∷ [];
    sent = [];
  };
  posts = record { feeder = 0; number = 1; moment = 1000; bits = 1 } ∷ [];
}

abbrev pub at_first : ℕ → ℕ
at_first = moment_then (λ number. 0) 0 0

abbrev pub at_second : ℕ → ℕ
at_second = moment_then at_first 21 1000

pub receives_four : IsReceivePromise setting 0 0 (λ number. 0) [] turned_back turned_keeps (Did 4)
receives_four = record {
  added = turned_back;
  grown = refl;
  so_far = record { rests = (first_is _).rests; kept = record { records = refl; sent = refl; posts = refl } };
  whole = λ e. first_is _;
  tells = (omega arith, refl);
}

pub holds_one : IsReceivePromise setting 0 1000 at_first turned_back held_log held_keeps (Did 1)
holds_one = record {
  added = holding ++ raising;
  grown = refl;
  so_far = record { rests = (second_is _ refl).rests; kept = record { records = refl; sent = refl; posts = refl } };
  whole = λ e. second_is _ refl;
  tells = (omega arith, refl);
}

-- no frame is left
pub stays_raised : IsReceivePromise setting 0 2000 at_second held_log receive_log held_keeps Idle
stays_raised = record {
  added = staying;
  grown = refl;
  so_far = record { rests = (third_is _ refl).rests; kept = record { records = refl; sent = refl; posts = refl } };
  whole = λ e. third_is _ refl;
  tells = (refl, refl);
}

-- Handled: the function goes from 0 to 3

pub handles_first : IsCorePromise counts (λ g. 0) (λ g. 1) is_cost setting 2 None [] first_served
    (record { yields = 0; lost = 0 }) (Did 1)
handles_first = record {
  added = first_served;
  grown = refl;
  first = tt;
  so_far = record {
    rests = first_served_is.rests;
    timed = (100, refl, refl) ◂ tt ◂ tt ◂ tt ◂ tt ◂ tt;
    journals = λ g mine.
        subst (λ (h : FnId). GoesThrough (counts h.0) 0 (journal h first_served) 1) (only g mine.known)
        (1, (refl, refl, refl), refl);
    kept = record { yields = refl; lost = refl };
  };
  whole = λ e. (refl, first_served_is);
  tells = (omega arith, refl);
}

pub handles_second : IsCorePromise counts (λ g. 0) (λ g. 2) is_cost setting 2 None first_served two_served
    (record { yields = 0; lost = 0 }) (Did 1)
handles_second = record {
  added = second_served;
  grown = refl;
  first = tt;
  so_far = record {
    rests = second_served_is.rests;
    timed = (100, refl, refl) ◂ tt ◂ tt ◂ tt ◂ tt ◂ tt ◂ (100, refl, refl) ◂ tt ◂ tt ◂ tt ◂ tt ◂ tt;
    journals = λ g mine.
        subst (λ (h : FnId). GoesThrough (counts h.0) 0 (journal h two_served) 2) (only g mine.known)
        (1, (refl, refl, refl), (2, (refl, refl, refl), refl));
    kept = record { yields = refl; lost = refl };
  };
  whole = λ e. (refl, second_served_is);
  tells = (omega arith, refl);
}

pub handles_third : IsCorePromise counts (λ g. 0) (λ g. 3) is_cost setting 2 None two_served core_log
    (record { yields = 0; lost = 0 }) (Did 1)
handles_third = record {
  added = third_served;
  grown = refl;
  first = tt;
  so_far = record {
    rests = third_served_is.rests;
    timed = (100, refl, refl) ◂ tt ◂ tt ◂ tt ◂ tt ◂ tt ◂ (100, refl, refl) ◂ tt ◂ tt ◂ tt ◂ tt ◂ tt
        ◂ (100, refl, refl)
        ◂ tt
        ◂ tt
        ◂ tt
        ◂ tt
        ◂ tt;
    journals = λ g mine.
        subst (λ (h : FnId). GoesThrough (counts h.0) 0 (journal h core_log) 3) (only g mine.known)
        (1, (refl, refl, refl), (2, (refl, refl, refl), (3, (refl, refl, refl), refl)));
    kept = record { yields = refl; lost = refl };
  };
  whole = λ e. (refl, third_served_is);
  tells = (omega arith, refl);
}

-- Moved

abbrev pub told : Entry → Record
told e = record { frame = e.frame; outcome = Sent 0 }

abbrev pub sent_as : Entry → SentFrame
sent_as e = record { frame = e.frame; stamp = e.stamp; packet = e.packet }

abbrev pub one_sent : FeederKeeps
one_sent = record {
  outcomes = record { records = told e1 ∷ []; sent = sent_as e1 ∷ [] };
  posts = [];
}

abbrev pub two_sent : FeederKeeps
two_sent = record {
  outcomes = record { records = told e1 ∷ told e2 ∷ []; sent = sent_as e1 ∷ sent_as e2 ∷ [] };
  posts = [];
}

abbrev pub three_sent : FeederKeeps
three_sent = record {
  outcomes = record { records = told e1 ∷ told e2 ∷ told e3 ∷ []; sent = sent_as e1 ∷ sent_as e2 ∷ sent_as e3 ∷ [] };
  posts = [];
}

pub moves_first : (now : ℕ) (moment : ℕ → ℕ)
    → IsSendPromise setting 1 now moment [] first_moved one_sent (Did 1)
moves_first now moment = record {
  added = first_moved;
  grown = refl;
  so_far = record { rests = (first_moved_is _).rests; kept = record { records = refl; sent = refl; posts = refl } };
  whole = λ e. first_moved_is _;
  tells = (omega arith, refl);
}

pub moves_second : (now : ℕ) (moment : ℕ → ℕ)
    → IsSendPromise setting 1 now moment first_moved two_moved two_sent (Did 1)
moves_second now moment = record {
  added = second_moved;
  grown = refl;
  so_far = record { rests = (second_moved_is _).rests; kept = record { records = refl; sent = refl; posts = refl } };
  whole = λ e. second_moved_is _;
  tells = (omega arith, refl);
}

pub moves_third : (now : ℕ) (moment : ℕ → ℕ)
    → IsSendPromise setting 1 now moment two_moved send_log three_sent (Did 1)
moves_third now moment = record {
  added = third_moved;
  grown = refl;
  so_far = record { rests = (third_moved_is _).rests; kept = record { records = refl; sent = refl; posts = refl } };
  whole = λ e. third_moved_is _;
  tells = (omega arith, refl);
}

-- Taken: no tick is due before 10,000,000 nanoseconds

abbrev pub sample : ℕ → Sample
sample moment = record { function = f; moment = moment; count = 1; time = 100 }

abbrev pub one_sample : List Sample
one_sample = sample 0 ∷ []

abbrev pub two_samples : List Sample
two_samples = sample 0 ∷ sample 1000 ∷ []

abbrev pub three_samples : List Sample
three_samples = sample 0 ∷ sample 1000 ∷ sample 2000 ∷ []

pub takes_first : IsTickPromise setting 3 0 0 false (λ number. 0) [] taken
    one_sample [] [] (Did 1)
takes_first = record {
  added = taken;
  grown = refl;
  so_far = record { blocks = first_taken_is.blocks; kept = refl };
  ticked = refl;
  posts = λ g known. refl;
  whole = λ e. first_taken_is;
  tells = (omega arith, refl);
}

pub takes_second : IsTickPromise setting 3 0 1000 false (moment_then (λ number. 0) 0 0) taken two_taken
    two_samples [] [] (Did 1)
takes_second = record {
  added = taken;
  grown = refl;
  so_far = record { blocks = second_taken_is.blocks; kept = refl };
  ticked = refl;
  posts = λ g known. refl;
  whole = λ e. second_taken_is;
  tells = (omega arith, refl);
}

pub takes_third : IsTickPromise setting 3 0 2000 false (moment_then (moment_then (λ number. 0) 0 0) 2 1000) two_taken
    three_taken three_samples [] [] (Did 1)
takes_third = record {
  added = taken;
  grown = refl;
  so_far = record { blocks = third_taken_is.blocks; kept = refl };
  ticked = refl;
  posts = λ g known. refl;
  whole = λ e. third_taken_is;
  tells = (omega arith, refl);
}
