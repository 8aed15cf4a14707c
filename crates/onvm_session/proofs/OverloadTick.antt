-- The tick role's passes under overload: each takes the one sample, and the one that closes the run takes none and
-- posts the function's weight.
use Rattle.std.proofs.Common.{◌+◌, ◌^◌, ◌<◌, [], ◌∷◌, ◌++◌, refl, subst, arith}
use Rattle.onvm_base.specs.declared.ids.FnId.{FnId}
use Rattle.onvm_base.specs.declared.ids.RingId.TheVariants.{Mail}
use Rattle.onvm_base.specs.declared.limits.TheConstants.{MAIL_RING}
use Rattle.onvm_core.specs.declared.layout.Word.TheVariants.{Weight}
use Rattle.onvm_core.specs.declared.step.Act.TheVariants.{Pop, Empty, Post}
use Rattle.onvm_core.specs.declared.step.Item.TheVariants.{Number}
use Rattle.onvm_core.specs.Logs.{Log}
use Rattle.onvm_core.proofs.Crowd.{f}
use Rattle.onvm_core.proofs.Steps.{◌◂◌}
use Rattle.onvm_promises.specs.Passes.{IsDrained, IsTickPass}
use Rattle.onvm_session.proofs.OverloadPlan.{setting}
use Rattle.onvm_session.proofs.OverloadCore.{only}

abbrev pub taken : Log
taken = Empty (Mail f) ∷ Pop (Mail f) (Number (2 ^ 40 + 100)) ∷ []

abbrev pub closing_pass : Log
closing_pass = Post (Weight f) 1024 ∷ Empty (Mail f) ∷ []

abbrev pub two_taken : Log
two_taken = taken ++ taken

abbrev pub three_taken : Log
three_taken = taken ++ two_taken

abbrev pub tick_log : Log
tick_log = closing_pass ++ three_taken

drains : (g : FnId) → g.0 < 1 → IsDrained (Mail g) MAIL_RING taken
drains g known =
    subst (λ (h : FnId). IsDrained (Mail h) MAIL_RING taken) (only g known)
    (record { bounded = omega arith; fewer = λ less. refl })

pub first_taken_is : IsTickPass setting 3 [] taken
first_taken_is = record { blocks = omega arith ◂ omega arith ◂ tt; drained = drains }

pub second_taken_is : IsTickPass setting 3 taken taken
second_taken_is = record { blocks = omega arith ◂ omega arith ◂ first_taken_is.blocks; drained = drains }

pub third_taken_is : IsTickPass setting 3 two_taken taken
third_taken_is = record { blocks = omega arith ◂ omega arith ◂ second_taken_is.blocks; drained = drains }

pub closing_is : IsTickPass setting 3 three_taken closing_pass
closing_is = record {
  blocks = omega arith ◂ omega arith ◂ third_taken_is.blocks;
  drained = λ g known.
      subst (λ (h : FnId). IsDrained (Mail h) MAIL_RING closing_pass) (only g known)
      (record { bounded = omega arith; fewer = λ less. refl });
}
