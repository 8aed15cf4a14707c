-- A serial run of one frame, as its first token saw it: one round, and the turn that closes the run. Each turn is a
-- whole pass.
use Rattle.std.proofs.Common.{◌≡◌, ℕ, zero, suc, [], ◌∷◌, ◌++◌, refl, arith, subst}
use Rattle.onvm_base.specs.declared.ids.FnId.{FnId}
use Rattle.onvm_base.specs.declared.ids.RingId.TheVariants.{Mail}
use Rattle.onvm_base.specs.declared.limits.TheConstants.{MAIL_RING}
use Rattle.onvm_core.specs.declared.layout.Word.TheVariants.{Weight}
use Rattle.onvm_core.specs.declared.step.Act.TheVariants.{Empty, Post}
use Rattle.onvm_core.specs.Logs.{Log}
use Rattle.onvm_core.specs.Marks.{Ages}
use Rattle.onvm_core.proofs.Steps.{◌◂◌}
use Rattle.onvm_core.proofs.Walk.{layout, f}
use Rattle.onvm_core.proofs.WalkLogs.{setting}
use Rattle.onvm_promises.specs.Passes.{IsDrained, IsTickPass}
use Rattle.onvm_promises.proofs.ExamplePasses.{moved, moved_is, only, received, received_is, served, served_is, taken, taken_is}
use Rattle.onvm_session.specs.Accounts.{AreWhole}
use Rattle.onvm_session.specs.Views.{FinalView, IsSerialLead, turn_of, turns_in}
use Rattle.onvm_session.specs.Views.AreTurns.{NoTurn, ATurn}

-- The logs

-- in the turn that closes the run there is no sample left, and the function's weight is posted
abbrev pub closing_pass : Log
closing_pass = Post (Weight f) 1024 ∷ Empty (Mail f) ∷ []

abbrev pub tick_log : Log
tick_log = closing_pass ++ taken

abbrev pub logs : ℕ → Log
logs zero = received
logs (suc zero) = moved
logs (suc (suc zero)) = served
logs (suc (suc (suc zero))) = tick_log
logs (suc (suc (suc (suc n)))) = []

-- The first token's log: behind each turn it looks at the first word of the pool. Buffer 0 is out of it for two turns

abbrev pub all_free : ℕ
all_free = 18446744073709551615

abbrev pub all_but_one : ℕ
all_but_one = 18446744073709551614

abbrev after_receive : Log
after_receive = turn_of 0 all_but_one ++ []

abbrev after_core : Log
after_core = turn_of 2 all_but_one ++ after_receive

abbrev after_send : Log
after_send = turn_of 1 all_free ++ after_core

abbrev round : Log
round = turn_of 3 all_free ++ after_send

abbrev pub lead : Log
lead = turn_of 3 all_free ++ round

abbrev pub final : FinalView
final = record { lead = lead; logs = logs; counts = 4 ∷ 2 ∷ 3 ∷ 8 ∷ 5 ∷ [] }

pub lead_is : IsSerialLead layout lead
lead_is = record {
  rounds = round;
  seen = all_free;
  turns = ATurn all_free after_send
      (ATurn all_free after_core (ATurn all_but_one after_receive (ATurn all_but_one [] NoTurn)));
  whole = refl;
  closed = refl;
}

pub turns_are : turns_in final
    ≡ record { role = 3; count = 4 } ∷ record { role = 3; count = 2 } ∷ record { role = 1; count = 3 }
    ∷ record { role = 2; count = 8 } ∷ record { role = 0; count = 5 } ∷ []
turns_are = refl

-- The turns

pub closing_is : IsTickPass setting 3 taken closing_pass
closing_is = record {
  blocks = omega arith ◂ omega arith ◂ taken_is.blocks;
  drained = λ g known.
      subst (λ (h : FnId). IsDrained (Mail h) MAIL_RING closing_pass) (only g known)
      (record { bounded = omega arith; fewer = λ less. refl });
}

pub whole : (aged : ℕ → Ages) → AreWhole setting aged logs (turns_in final)
whole aged = closing_is ◂ taken_is ◂ moved_is (aged 1) ◂ served_is ◂ received_is (aged 0) ◂ tt
