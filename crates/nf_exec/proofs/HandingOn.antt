-- A parcel in hand is handled and goes on.
use Rattle.std.proofs.Common.{◌≡◌, ◌<◌, List, [], ◌∷◌, ◌++◌, Some, None, Option, refl, ap, ◌∙◌}
use Rattle.std.specs.Prelude.{◌==◌, if◌then◌else◌}
use Rattle.std.proofs.lemmas.Bool.{eq-eqb}
use Rattle.onvm_base.specs.declared.ids.BufId.{BufId}
use Rattle.onvm_base.specs.declared.ids.FnId.{FnId}
use Rattle.onvm_base.specs.declared.ids.RingId.TheVariants.{Output}
use Rattle.onvm_base.specs.declared.plan.Plan.{Plan}
use Rattle.onvm_core.specs.declared.entry.Entry.{Entry}
use Rattle.onvm_core.specs.declared.parcel.Parcel.{Parcel}
use Rattle.onvm_core.specs.declared.step.Act.{Act}
use Rattle.onvm_core.specs.declared.step.Act.TheVariants.{Push}
use Rattle.onvm_core.specs.declared.step.Item.TheVariants.{Buffer}
use Rattle.onvm_core.specs.Handling.{budget_left, core_hand, crumb_place, is_push_on}
use Rattle.onvm_core.specs.Journals.{Handling, handling, journal, last_popped_parcel, verdict_in}
use Rattle.onvm_core.specs.Layouts.{core_role}
use Rattle.onvm_core.specs.Places.{how_many}
use Rattle.onvm_core.proofs.Lists.{last_of_push}
use Rattle.onvm_board.specs.Tokens.{BoardView, TokenView, parcel_in}
use Rattle.nf_api.specs.Acts.{Acts}
use Rattle.nf_api.specs.Tree.{Tree}
use Rattle.onvm_promises.specs.Roles.{setting_of}
use Rattle.nf_exec.specs.Handing.{HasGoneOn, handled_parcel}
use Rattle.nf_exec.specs.Serving.{HasPassedOn}
use Rattle.nf_exec.specs.Stations.{IsToHandle, Stands}
use Rattle.nf_exec.specs.Steps.{MayDo}
use Rattle.nf_exec.proofs.Glancing.{no_hand}

module _ {N : Type 0} (acts : N → Acts) (state : N → Tree) (site : BoardView) (plan : Plan) (f : FnId) (buf : BufId)
    (was now : N) (before after : TokenView)
    (own : (f.0 < site.layout.functions) × (core_role site.layout f.0 ≡ before.role))
    (stands : Stands site.layout (Some (record { function = f; buf = buf.0; parcel = parcel_in before })) before)
    (done : HasPassedOn acts state f buf was now before after) where
  abbrev pub made : Parcel
  made = handled_parcel f (crumb_place f before.log) done.verdict done.bytes (parcel_in before)

  abbrev pub pass_act : Act
  pass_act = Push (Output f) (Buffer buf made)

  ready : IsToHandle site.layout (record { function = f; buf = buf.0; parcel = parcel_in before }) before.log
  ready = stands.ready (record { function = f; buf = buf.0; parcel = parcel_in before }) refl

  pub pass_does : (entries : List Entry)
      → MayDo (setting_of site.layout plan entries) before.role before.log pass_act
  pass_does entries = record {
    handles = record {
      own = record { known = own.0; core = own.1 };
      hand = record { function = f; buf = buf.0; parcel = parcel_in before };
      held = stands.logged;
      function = refl;
      same = refl;
      handled = record { verdict = done.verdict; same = refl };
    };
    tries = tt;
    looks = tt;
    samples = tt;
  }

  pub pass_stands : Stands site.layout None after
  pass_stands = record {
    hand = ap (λ (t : TokenView). t.hand) done.grew;
    logged = ap (λ (t : TokenView). core_hand t.log) done.grew;
    ready = λ hand e. no_hand hand e;
  }

  pub pass_left : budget_left plan f after.log ≡ budget_left plan f before.log
  pass_left = ap (λ (t : TokenView). budget_left plan f t.log) done.grew

  abbrev pub entry : Handling
  entry = record { before = parcel_in before; verdict = done.verdict; bytes = done.bytes }

  pub pass_journal : HasGoneOn acts state f was now before.log after.log
  pass_journal = record {
    entries = entry ∷ [];
    grown =
        ap (λ (t : TokenView). journal f t.log) done.grew
        ∙ ap (λ (hs : List Handling). journal f before.log ++ hs) entry_is;
    goes = (state now, done.acted, refl);
    narrows = done.narrows;
  }
    where
      entry_is : (if f.0 == f.0 then handling (last_popped_parcel buf.0 before.log) made else []) ≡ entry ∷ []
      entry_is =
          rw (eq-eqb f.0 f.0 refl)
          (ap (λ (o : Option Parcel). handling o made) ready.popped
          ∙ ap (λ o. record { before = parcel_in before; verdict = verdict_in o; bytes = done.bytes } ∷ [])
          (last_of_push (parcel_in before).trail
          (record { function = f; place = crumb_place f before.log; verdict = done.verdict })))

  pub pass_pushes : how_many (is_push_on (Output f)) (pass_act ∷ []) ≡ 1
  pass_pushes = rw (eq-eqb f.0 f.0 refl) refl
