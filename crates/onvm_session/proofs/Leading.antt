-- The first token's log is made of its blocks, and tells and handles nothing.
use Rattle.std.proofs.Common.{◌≡◌, ℕ, zero, suc, ◌+◌, Bool, true, false, [], ◌∷◌, ◌++◌, refl, sym, ap, subst, arith, Option}
use Rattle.std.proofs.lemmas.Bool.{ne_eqb, le-ltb}
use Rattle.onvm_base.specs.declared.ids.FnId.{FnId}
use Rattle.onvm_base.specs.declared.outcome.Record.{Record}
use Rattle.onvm_core.specs.declared.layout.Layout.{Layout}
use Rattle.onvm_core.specs.declared.step.Act.{Act}
use Rattle.onvm_core.specs.declared.step.Act.TheVariants.{Split, Join, Take, Give, Push, Full, Pop, Empty, Look, Post}
use Rattle.onvm_core.specs.Blocks.RoleKind.{Leads}
use Rattle.onvm_session.specs.Views.AreTurns.{NoTurn, ATurn}
use Rattle.onvm_session.specs.Views.ArePhases.{NoPhase, APhase}
use Rattle.onvm_core.specs.Blocks.{RoleKind, MayLead, MayFollow, kind_of, IsOfBlocks}
use Rattle.onvm_core.specs.Journals.{journal}
use Rattle.onvm_core.specs.Layouts.{first_role, tick_role}
use Rattle.onvm_core.specs.Logs.{Setting, Log}
use Rattle.onvm_core.specs.Records.{records_of_act, sent_frames_of_act}
use Rattle.onvm_promises.specs.Kept.{kept_at, records_by, sent_by}
use Rattle.onvm_session.specs.Views.{IsLead, AreTurns, ArePhases, splits, joins}

abbrev pub AreLed : Log → Type 0
AreLed [] = Unit {0}
AreLed (act ∷ before) = MayLead act × AreLed before

led_append : (later before : Log) → AreLed later → AreLed before → AreLed (later ++ before)
led_append [] before led earlier = earlier
led_append (act ∷ later) before led earlier = (led.0, led_append later before led.1 earlier)

led_splits : (n role : ℕ) → AreLed (splits n role)
led_splits zero role = tt
led_splits (suc n) role = (tt, led_splits n (role + 1))

led_joins : (n : ℕ) → AreLed (joins n)
led_joins zero = tt
led_joins (suc n) = (tt, led_joins n)

led_turns : (layout : Layout) (lead : Log) → AreTurns layout lead → AreLed lead
led_turns layout lead NoTurn = tt
led_turns layout lead (ATurn seen before are) = (refl, (tt, (tt, led_turns layout before are)))

led_phases : (layout : Layout) (lead : Log) → ArePhases layout lead → AreLed lead
led_phases layout lead NoPhase = tt
led_phases layout lead (APhase seen before are) = (
  refl,
  led_append (joins (first_role layout) ++ splits (first_role layout) 0) before
      (led_append (joins (first_role layout)) (splits (first_role layout) 0) (led_joins (first_role layout))
      (led_splits (first_role layout) 0))
      (led_phases layout before are),
)

pub led : (serial : Bool) (layout : Layout) (lead : Log) → IsLead serial layout lead → AreLed lead
led true layout lead is =
    subst AreLed (sym is.closed) (refl, (tt, (tt, led_turns layout is.rounds is.turns)))
led false layout lead is =
    subst AreLed (sym is.closed) (refl, (tt, (tt, led_phases layout is.phases is.are)))

kind_first : (layout : Layout) → kind_of layout (first_role layout) ≡ Leads
kind_first layout =
    rw (
      le-ltb (first_role layout) layout.ports (omega arith),
      le-ltb (first_role layout) (layout.ports + layout.transmit) (omega arith),
      le-ltb (first_role layout) (layout.ports + layout.transmit + layout.cores) (omega arith),
      ne_eqb (first_role layout) (tick_role layout) (λ e. omega (arith, e)),
    ) refl

pub led_blocks : (setting : Setting) (lead : Log) → AreLed lead
    → IsOfBlocks setting (first_role setting.layout) lead
led_blocks setting [] are = tt
led_blocks setting (act ∷ before) are = (
  subst (λ (kind : RoleKind). MayFollow setting (first_role setting.layout) kind before act)
      (sym (kind_first setting.layout)) are.0,
  led_blocks setting before are.1,
)

told_none : (act : Act) → MayLead act → records_of_act act ≡ []
told_none (Look word seen told) may = ap (λ (t : Option Record). records_of_act (Look word seen t)) may
told_none (Split a) may = refl
told_none (Join a) may = refl
told_none (Take a) may = absurd may
told_none (Give a b c) may = absurd may
told_none (Push a b) may = absurd may
told_none (Full a) may = absurd may
told_none (Pop a b) may = absurd may
told_none (Empty a) may = absurd may
told_none (Post a b) may = absurd may

pub led_tells : (moment : ℕ → ℕ) (lead : Log) → AreLed lead → kept_at records_by moment lead ≡ []
led_tells moment [] are = refl
led_tells moment (act ∷ before) are =
    rw (led_tells moment before are.1, told_none act are.0) refl

sent_none : (act : Act) → MayLead act → sent_frames_of_act act ≡ []
sent_none (Look word seen told) may = refl
sent_none (Split a) may = refl
sent_none (Join a) may = refl
sent_none (Take a) may = absurd may
sent_none (Give a b c) may = absurd may
sent_none (Push a b) may = absurd may
sent_none (Full a) may = absurd may
sent_none (Pop a b) may = absurd may
sent_none (Empty a) may = absurd may
sent_none (Post a b) may = absurd may

pub led_sends : (moment : ℕ → ℕ) (lead : Log) → AreLed lead → kept_at sent_by moment lead ≡ []
led_sends moment [] are = refl
led_sends moment (act ∷ before) are =
    rw (led_sends moment before are.1, sent_none act are.0) refl

pub led_handles : (f : FnId) (lead : Log) → AreLed lead → journal f lead ≡ []
led_handles f [] are = refl
led_handles f (Look word seen told ∷ before) are = rw (led_handles f before are.1) refl
led_handles f (Split a ∷ before) are = rw (led_handles f before are.1) refl
led_handles f (Join a ∷ before) are = rw (led_handles f before are.1) refl
led_handles f (Take a ∷ before) are = absurd are.0
led_handles f (Give a b c ∷ before) are = absurd are.0
led_handles f (Push a b ∷ before) are = absurd are.0
led_handles f (Full a ∷ before) are = absurd are.0
led_handles f (Pop a b ∷ before) are = absurd are.0
led_handles f (Empty a ∷ before) are = absurd are.0
led_handles f (Post a b ∷ before) are = absurd are.0
