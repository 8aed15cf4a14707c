-- A serial run without a frame: one round and the closing turn. So what is asked of a run can be met.
use Rattle.std.proofs.Common.{◌≡◌, ℕ, zero, suc, ◌<◌, true, false, inl, inr, [], ◌∷◌, ◌++◌, length, refl, sym, ap, subst, arith, length-append, None}
use Rattle.onvm_base.specs.declared.ids.FnId.{FnId}
use Rattle.onvm_base.specs.declared.ids.RingId.TheVariants.{Lane, Output, Mail}
use Rattle.onvm_core.specs.declared.layout.Word.TheVariants.{Cell, Weight}
use Rattle.onvm_core.specs.declared.step.Act.{Act}
use Rattle.onvm_core.specs.declared.step.Act.TheVariants.{Empty, Look}
use Rattle.onvm_core.proofs.WalkLogs as walk
use Rattle.onvm_session.specs.Views.AreTurns.{NoTurn, ATurn}
use Rattle.onvm_promises.specs.Passes.EndsBarred.{ABar}
use Rattle.onvm_promises.specs.Passes.EndsWithEmpties.{NoEmpty, OneEmpty}
use Rattle.onvm_promises.specs.Acts.IsMoveStep.{AnEmpty}
use Rattle.onvm_core.proofs.Marked.{no_bit}
use Rattle.onvm_core.proofs.Walk.{layout, f}
use Rattle.onvm_core.specs.Handling.{IsOwn}
use Rattle.onvm_core.specs.Logs.{Setting, Log}
use Rattle.onvm_core.specs.Marks.{Ages}
use Rattle.onvm_promises.specs.Passes.{EndsBarred, EndsService, EndsWithEmpties, IsReceivePass, IsSendPass, IsCorePass, IsTickPass, IsServed, IsDrained}
use Rattle.onvm_promises.specs.Rests.{IsSettledFeeder}
use Rattle.onvm_session.specs.Accounts.{AreWhole}
use Rattle.onvm_session.specs.Views.{FinalView, turns_in, turn_of, IsSerialLead}

abbrev pub setting : Setting
setting = record walk.setting { entries = [] }

abbrev pub core_log : Log
core_log = Empty (Lane f 1) ∷ Empty (Lane f 0) ∷ Look (Cell (Output f) 0) 0 None ∷ Look (Weight f) 0 None ∷ []

abbrev pub send_log : Log
send_log = Empty (Output f) ∷ []

abbrev pub tick_log : Log
tick_log = Empty (Mail f) ∷ Empty (Mail f) ∷ []

abbrev pub logs : ℕ → Log
logs zero = []
logs (suc zero) = send_log
logs (suc (suc zero)) = core_log
logs (suc (suc (suc zero))) = tick_log
logs (suc (suc (suc (suc n)))) = []

abbrev pub rounds : Log
rounds = turn_of 3 18446744073709551615 ++ turn_of 1 18446744073709551615 ++ turn_of 2 18446744073709551615
    ++ turn_of 0 18446744073709551615 ++ []

abbrev pub final : FinalView
final =
    record { lead = turn_of 3 18446744073709551615 ++ rounds; logs = logs; counts = 2 ∷ 1 ∷ 1 ∷ 4 ∷ 0 ∷ [] }

pub lead_is : IsSerialLead layout (turn_of 3 18446744073709551615 ++ rounds)
lead_is = record {
  rounds = rounds;
  seen = 18446744073709551615;
  turns = ATurn 18446744073709551615 (turn_of 1 18446744073709551615 ++ turn_of 2 18446744073709551615
      ++ turn_of 0 18446744073709551615 ++ [])
      (ATurn 18446744073709551615 (turn_of 2 18446744073709551615 ++ turn_of 0 18446744073709551615 ++ [])
      (ATurn 18446744073709551615 (turn_of 0 18446744073709551615 ++ []) (ATurn 18446744073709551615 [] NoTurn)));
  whole = refl;
  closed = refl;
}

read : turns_in final
    ≡ record { role = 3; count = 2 } ∷ record { role = 3; count = 1 } ∷ record { role = 1; count = 1 }
    ∷ record { role = 2; count = 4 } ∷ record { role = 0; count = 0 } ∷ []
read = refl

-- the one function
pub only : (g : FnId) → g.0 < 1 → f ≡ g
only g less = let zero_is : 0 ≡ g.0 = omega (arith, less) in ap (λ (n : ℕ). record { 0 = n }) zero_is

pub settled : (feeder : ℕ) (aged : Ages) → IsSettledFeeder setting feeder aged []
settled feeder aged = record { marked = tt; ended = tt; paid = inl no_bit; paced = tt }

pub receive_is : (aged : Ages) → IsReceivePass setting 0 aged [] []
receive_is aged = record {
  marks = [];
  blocks = [];
  parts = refl;
  pass = record {
    marks = tt;
    settled = settled 0 aged;
    one = λ some. absurd (some refl);
    none = λ e. refl;
  };
  steps = tt;
  count = refl;
  rests = record { blocks = tt; between = refl; feeder = settled 0 aged };
}

core_served : IsServed setting f [] core_log
core_served = record {
  earlier = [];
  service = Empty (Lane f 1) ∷ Empty (Lane f 0) ∷ Look (Cell (Output f) 0) 0 None ∷ [];
  later = [];
  seen = 0;
  parts = refl;
  ends = inr (inr (OneEmpty f 1 1 _ refl (OneEmpty f 0 0 _ refl (NoEmpty _))));
  once = refl;
  alone = refl;
  barred_once = omega arith;
  behind = λ none. refl;
}

pub own : IsOwn setting 2 f
own = record { known = omega arith; core = refl }

pub core_is : IsCorePass setting 2 [] core_log
core_is = record {
  served = λ g mine. subst (λ (h : FnId). IsServed setting h [] core_log) (only g mine.known) core_served;
  samples = λ g mine. refl;
  rests = record {
    blocks = (
      (own, omega arith),
      ((own, omega arith), (((own, omega arith), refl), ((own, refl), tt))),
    );
    hand = refl;
    tries = (refl, (refl, (tt, (tt, tt))));
    looks = (tt, (tt, (refl, (tt, tt))));
    samples = (tt, (tt, (tt, (tt, tt))));
    sampled = λ g mine. refl;
  };
}

pub send_settled : (aged : Ages) → IsSettledFeeder setting 1 aged send_log
send_settled aged = record {
  marked = (inl no_bit, tt);
  ended = tt;
  paid = inl no_bit;
  paced = (((λ less. absurd (omega (arith, less))), λ g. omega arith), tt);
}

pub send_is : (aged : Ages) → IsSendPass setting 1 aged [] send_log
send_is aged = record {
  marks = [];
  moves = send_log;
  parts = refl;
  pass = record {
    marks = tt;
    settled = settled 1 aged;
    one = λ some. absurd (some refl);
    none = λ e. refl;
  };
  steps = (AnEmpty f (omega arith), tt);
  few = λ g. omega arith;
  drained = λ g reads.
      subst (λ (h : FnId). IsDrained (Output h) 32 send_log) (only g reads.known)
      (record { bounded = omega arith; fewer = λ less. refl });
  rests = record {
    blocks = (record { known = omega arith; consumes = refl }, tt);
    free = refl;
    feeder = send_settled aged;
  };
}

pub tick_is : IsTickPass setting 3 (Empty (Mail f) ∷ []) (Empty (Mail f) ∷ []) × IsTickPass setting 3 [] (Empty
    (Mail f) ∷ [])
tick_is = (
  record {
    blocks = (omega arith, (omega arith, tt));
    drained = λ g known.
        subst (λ (h : FnId). IsDrained (Mail h) 64 (Empty (Mail f) ∷ [])) (only g known)
        (record { bounded = omega arith; fewer = λ less. refl });
  },
  record {
    blocks = (omega arith, tt);
    drained = λ g known.
        subst (λ (h : FnId). IsDrained (Mail h) 64 (Empty (Mail f) ∷ [])) (only g known)
        (record { bounded = omega arith; fewer = λ less. refl });
  },
)

pub whole : (aged : ℕ → Ages) → AreWhole setting aged logs (turns_in final)
whole aged = (tick_is.0, (tick_is.1, (send_is (aged 1), (core_is, (receive_is (aged 0), tt)))))

-- Wrong passes

not_barred : {log : Log} → log ≡ Look (Weight f) 0 None ∷ [] → EndsBarred f log → ⊥
not_barred e (ABar g at seen told before same some) =
    let off : Look (Cell (Output g) at) seen told ∷ before ≡ Look (Weight f) 0 None ∷ [] = e in cc

not_dry : {n : ℕ} {log : Log} → n ≡ 2 → log ≡ Look (Weight f) 0 None ∷ [] → EndsWithEmpties f n log → ⊥
not_dry two e (NoEmpty log) = let off : 0 ≡ 2 = two in omega (arith, off)
not_dry two e (OneEmpty g feeder n before same more) =
    let off : Empty (Lane g feeder) ∷ before ≡ Look (Weight f) 0 None ∷ [] = e in cc

-- a core that looks at the weight word and leaves hasn't served its function
cut_short : (later service earlier : Log) (seen : ℕ)
    → ◌≡◌ {A = Log} (Look (Weight f) 0 None ∷ []) (later ++ service ++ Look (Weight f) seen None ∷ earlier)
    → EndsService setting f (earlier ++ []) (service ++ Look (Weight f) seen None ∷ [])
    → ⊥
cut_short (act ∷ later) service earlier seen parts ends =
    absurd (omega (arith, ap length parts, length-append (later ++ service) (Look (Weight f) seen None ∷ earlier)))
cut_short [] (act ∷ service) earlier seen parts ends =
    absurd (omega (arith, ap length parts, length-append service (Look (Weight f) seen None ∷ earlier)))
cut_short [] [] (act ∷ earlier) seen parts ends = absurd (omega (arith, ap length parts))
cut_short [] [] [] seen parts ends =
    let same : ◌≡◌ {A = Act} (Look (Weight f) 0 None) (Look (Weight f) seen None) = cc in
    let zero_is : 0 ≡ seen = cc in
    let at : EndsService setting f [] (Look (Weight f) 0 None ∷ []) =
    subst (λ (n : ℕ). EndsService setting f [] (Look (Weight f) n None ∷ [])) (sym zero_is) ends in
    elim at [
      | inl spent ↦ let off : 32 ≡ 0 = spent in absurd (omega (arith, off))
      | inr (inl barred) ↦ not_barred refl barred
      | inr (inr dry) ↦ not_dry refl refl dry
    ]

leaves_at_once : IsServed setting f [] (Look (Weight f) 0 None ∷ []) → ⊥
leaves_at_once has = cut_short has.later has.service has.earlier has.seen has.parts has.ends

nil_front : (xs ys : Log) → ◌≡◌ {A = Log} [] (xs ++ ys) → xs ≡ []
nil_front [] ys e = refl
nil_front (x ∷ xs) ys e = absurd (let off : ◌≡◌ {A = Log} [] (x ∷ (xs ++ ys)) = e in cc)

-- a transmit role that doesn't look at its ring isn't whole
never_looks : (aged : Ages) → IsSendPass setting 1 aged [] [] → ⊥
never_looks aged is =
    let none : is.moves ≡ [] = nil_front is.moves is.marks is.parts in
    let drained : IsDrained (Output f) 32 [] =
    subst (IsDrained (Output f) 32) none (is.drained f (record { known = omega arith; consumes = refl })) in
    let dry : false ≡ true = drained.fewer (omega arith) in
    cc
