-- A buffer in which nothing is, is in the pool.
use Rattle.std.proofs.Common.{◌≡◌, ℕ, Bool, true, false, if◌then◌else◌, inl, inr, [], ◌∷◌, refl, sym, ◌∙◌, subst, Option, Some, None}
use Rattle.std.specs.Prelude.{◌==◌, ◌⊎◌, unwrap_or}
use Rattle.std.proofs.lemmas.Bool.{cases_Bool}
use Rattle.onvm_base.specs.declared.ids.FrameId.{FrameId}
use Rattle.onvm_core.specs.declared.place.Place.{Place}
use Rattle.onvm_core.specs.declared.place.Place.TheVariants.{Pool, Ring, Role}
use Rattle.onvm_core.specs.declared.step.Act.{Act}
use Rattle.onvm_core.specs.declared.step.Act.TheVariants.{Take, Give, Push, Pop}
use Rattle.onvm_core.specs.declared.step.Item.TheVariants.{Buffer, Number}
use Rattle.onvm_core.specs.Layouts.{IsBuffer}
use Rattle.onvm_core.specs.History.{History, place_by, place_of}
use Rattle.onvm_core.specs.Lawful.{IsLawful}
use Rattle.onvm_core.specs.Logs.{Setting, log_of}
use Rattle.onvm_core.specs.Frames.{Load, block_frame, load, load_after}
use Rattle.onvm_core.specs.Frames.Load.{Fresh, Loaded}
use Rattle.onvm_core.proofs.Lists.{if_met, if_unmet}
use Rattle.onvm_core.proofs.Logged.{Known, place_known, ring_known}

no_load : (b : Bool) (what : Load) (was : Option Load) → b ≡ true → (if b then Some what else was) ≡ None → ⊥
no_load b what was met none = let off : Some what ≡ None = sym (if_met b (Some what) was met) ∙ none in cc

kept_load : (b : Bool) (what was : Option Load) → b ≡ false → (if b then what else was) ≡ None → was ≡ None
kept_load b what was unmet none = sym (if_unmet b what was unmet) ∙ none

unloaded_step : (buf role : ℕ) (fresh : FrameId) (act : Act) (place : Place) (was : Option Load)
    → (was ≡ None → place ≡ Pool) → load_after buf fresh act was ≡ None
    → unwrap_or (place_by buf role act) place ≡ Pool
unloaded_step buf role fresh (Take b) place was earlier none =
    elim (cases_Bool (b.0 == buf)) [
      | inl met ↦ absurd (no_load (b.0 == buf) (Fresh fresh) was met none)
      | inr unmet ↦ rw unmet (earlier (kept_load (b.0 == buf) (Some (Fresh fresh)) was unmet none))
    ]
unloaded_step buf role fresh (Give b outcome parcel) place was earlier none =
    elim (cases_Bool (b.0 == buf)) [
      | inl met ↦ rw met refl
      | inr unmet ↦ rw unmet (earlier (kept_load (b.0 == buf) None was unmet none))
    ]
unloaded_step buf role fresh (Push ring (Buffer b parcel)) place was earlier none =
    elim (cases_Bool (b.0 == buf)) [
      | inl met ↦ absurd (no_load (b.0 == buf) (Loaded parcel) was met none)
      | inr unmet ↦ rw unmet (earlier (kept_load (b.0 == buf) (Some (Loaded parcel)) was unmet none))
    ]
unloaded_step buf role fresh (Pop ring (Buffer b parcel)) place was earlier none =
    elim (cases_Bool (b.0 == buf)) [
      | inl met ↦ absurd (no_load (b.0 == buf) (Loaded parcel) was met none)
      | inr unmet ↦ rw unmet (earlier (kept_load (b.0 == buf) (Some (Loaded parcel)) was unmet none))
    ]
unloaded_step buf role fresh (Push ring (Number n)) place was earlier none = earlier none
unloaded_step buf role fresh (Pop ring (Number n)) place was earlier none = earlier none
unloaded_step buf role fresh act place was earlier none = earlier none

pub unloaded : (setting : Setting) (past : History) (buf : ℕ) → load setting buf past ≡ None
    → place_of buf past ≡ Pool
unloaded setting [] buf none = refl
unloaded setting (step ∷ before) buf none =
    unloaded_step buf step.role (block_frame setting step.role (log_of step.role before)) step.act
    (place_of buf before) (load setting buf before) (unloaded setting before buf) none

-- only a buffer of the layout is out of the pool
pub known_buffer : (setting : Setting) (past : History) (buf : ℕ) (there : Place) → IsLawful setting.layout past
    → place_of buf past ≡ there
    → (there ≡ Pool) ⊎ IsBuffer setting.layout buf
known_buffer setting past buf Pool lawful at = inl refl
known_buffer setting past buf (Ring ring) lawful at =
    inr (ring_known setting.layout buf ring
    (subst (Known setting.layout buf) at (place_known setting.layout past lawful buf)))
known_buffer setting past buf (Role role) lawful at =
    let known : Known setting.layout buf (Role role) =
    subst (Known setting.layout buf) at (place_known setting.layout past lawful buf) in
    inr known
