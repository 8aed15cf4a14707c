-- What a whole service adds: the look at the weight word, and its turns.
use Rattle.std.proofs.Common.{◌≡◌, ℕ, ◌<◌, false, List, [], ◌∷◌, ◌++◌, None, refl, ap, subst, arith}
use Rattle.onvm_base.specs.declared.ids.FnId.{FnId}
use Rattle.onvm_base.specs.declared.plan.Plan.{Plan}
use Rattle.onvm_core.specs.declared.entry.Entry.{Entry}
use Rattle.onvm_core.specs.declared.layout.Word.TheVariants.{Weight}
use Rattle.onvm_core.specs.declared.step.Act.{Act}
use Rattle.onvm_core.specs.declared.step.Act.TheVariants.{Look}
use Rattle.onvm_core.specs.Layouts.{core_role, feeder_count}
use Rattle.onvm_core.specs.Logs.{Log}
use Rattle.onvm_core.specs.Places.{how_many, one_if}
use Rattle.onvm_core.proofs.Once.{how_many-append}
use Rattle.onvm_board.specs.Tokens.{BoardView, TokenView, grown}
use Rattle.onvm_board.proofs.Stretches.{grown_twice}
use Rattle.onvm_promises.specs.Answers.{is_handled}
use Rattle.onvm_promises.specs.Kept.{is_lost, is_yield}
use Rattle.onvm_promises.specs.Passes.{is_mailed, saw_full}
use Rattle.onvm_promises.specs.Roles.{setting_of}
use Rattle.nf_exec.specs.declared.turn.Turn.{Turn}
use Rattle.nf_exec.specs.Serving.{EndsBy, IsService, is_barred}
use Rattle.nf_exec.specs.Steps.{AreServiceSteps, DoesFrom, IsServiceStep}
use Rattle.nf_exec.specs.Steps.IsServiceStep.{AWeigh, AGlance, APop, AnEmpty, APush}
use Rattle.nf_exec.proofs.Doing.{does_append}
use Rattle.nf_exec.proofs.Elsewhere.{none_of}
use Rattle.nf_exec.proofs.Servings.{ends_over}
use Rattle.nf_exec.proofs.Glancing.{steps_append}

-- What a whole service adds

-- no act of a service is a sample
unmailed_step : (f g : FnId) (act : Act) → IsServiceStep f act → (is_mailed g act ≡ false) × (is_lost act ≡ false)
unmailed_step f g act (AWeigh seen) = (refl, refl)
unmailed_step f g act (AGlance at seen) = (refl, refl)
unmailed_step f g act (APop feeder buf parcel) = (refl, refl)
unmailed_step f g act (AnEmpty feeder) = (refl, refl)
unmailed_step f g act (APush buf parcel) = (refl, refl)

pub unmailed_steps : (f g : FnId) (log : Log) → AreServiceSteps f log → how_many (is_mailed g) log ≡ 0
unmailed_steps f g [] are = refl
unmailed_steps f g (act ∷ log) are =
    none_of (is_mailed g) act (how_many (is_mailed g) log) (unmailed_step f g act are.0).0 (unmailed_steps f g log are.1)

pub unlost_steps : (f : FnId) (log : Log) → AreServiceSteps f log → how_many is_lost log ≡ 0
unlost_steps f [] are = refl
unlost_steps f (act ∷ log) are =
    none_of is_lost act (how_many is_lost log) (unmailed_step f f act are.0).1 (unlost_steps f log are.1)

module _ (site : BoardView) (plan : Plan) (f : FnId) (k : ℕ) (last : Turn) (before after : TokenView)
    (own : (f.0 < site.layout.functions) × (core_role site.layout f.0 ≡ before.role))
    (is : IsService site plan f k last before after) where
  abbrev pub look : Act
  look = Look (Weight f) is.seen None

  abbrev pub service : Log
  service = is.serving.added ++ look ∷ []

  pub service_grew : after ≡ grown service after.hand before
  service_grew =
      grown_twice (look ∷ []) is.serving.added before.hand after.hand before is.looked after is.look is.serving.grew

  pub service_steps : AreServiceSteps f service
  service_steps = steps_append f is.serving.added (look ∷ []) is.serving.steps (AWeigh is.seen, tt)

  looked_log : is.looked.log ≡ look ∷ before.log
  looked_log = ap (λ (t : TokenView). t.log) is.look

  looked_role : is.looked.role ≡ before.role
  looked_role = ap (λ (t : TokenView). t.role) is.look

  pub service_does : (entries : List Entry)
      → DoesFrom (setting_of site.layout plan entries) before.role before.log service
  service_does entries =
      does_append (setting_of site.layout plan entries) before.role before.log (look ∷ []) is.serving.added (
        record {
          handles = (record { known = own.0; core = own.1 }, refl);
          tries = tt;
          looks = tt;
          samples = tt;
        },
        tt,
      )
      (subst (λ (z : ℕ × Log). DoesFrom (setting_of site.layout plan entries) z.0 z.1 is.serving.added)
      (λ i. (looked_role i, looked_log i)) (is.serving.does entries))

  pub service_handles : how_many is_handled service ≡ k
  service_handles =
      omega (arith, how_many-append is_handled is.serving.added (look ∷ []), is.serving.handles)

  pub service_yields : how_many is_yield service ≡ one_if (is_barred last)
  service_yields = omega (arith, how_many-append is_yield is.serving.added (look ∷ []), is.serving.yields)

  pub service_full : how_many (saw_full f) service ≡ one_if (is_barred last)
  service_full = omega (arith, how_many-append (saw_full f) is.serving.added (look ∷ []), is.serving.barred)

  pub service_ends : EndsBy (feeder_count site.layout) f last service
  service_ends = ends_over (feeder_count site.layout) f last is.serving.added (look ∷ []) is.serving.ends
