-- Examples, one line a step, the newest first: `now ◂ before` says what is shown of a step, and of those before.
use Rattle.std.proofs.Common.{◌≡◌, ℕ, ◌<◌, ◌≤◌, true, false, Option, Some}
use Rattle.std.specs.Prelude.{◌≢◌, length, slice_get}
use Rattle.onvm_base.specs.declared.ids.BufId.{BufId}
use Rattle.onvm_base.specs.declared.ids.FnId.{FnId}
use Rattle.onvm_base.specs.declared.ids.RingId.{RingId}
use Rattle.onvm_base.specs.declared.ids.RingId.TheVariants.{Lane, Output}
use Rattle.onvm_base.specs.declared.limits.TheConstants.{MAX_HOPS}
use Rattle.onvm_base.specs.declared.outcome.Outcome.{Outcome}
use Rattle.onvm_base.specs.declared.outcome.Record.{Record}
use Rattle.onvm_core.specs.declared.layout.Layout.{Layout}
use Rattle.onvm_core.specs.declared.layout.Word.{Word}
use Rattle.onvm_core.specs.declared.parcel.Parcel.{Parcel}
use Rattle.onvm_core.specs.declared.place.Place.TheVariants.{Pool, Role}
use Rattle.onvm_core.specs.declared.step.Act.{Act}
use Rattle.onvm_core.specs.declared.step.Act.TheVariants.{Split, Join, Take, Give, Push, Full, Pop, Look, Post}
use Rattle.onvm_core.specs.declared.step.Item.{Item}
use Rattle.onvm_core.specs.declared.step.Item.TheVariants.{Buffer}
use Rattle.onvm_core.specs.declared.step.Step.{Step}
use Rattle.onvm_core.specs.Layouts.{IsBuffer, IsRing, IsWord, consumer, first_role, port_of, producer, ring_size}
use Rattle.onvm_core.specs.History.{History, content_of, is_live, latest_look, place_of}
use Rattle.onvm_core.specs.Words.{value_of}
use Rattle.onvm_core.specs.Lawful.{Allows, AllowsPost, HoldsNothing, NamesRing, NamesRingIn, Showed}

infixr 20 ◌◂◌
abbrev pub ◌◂◌ : {A B : Type 0} → A → B → A × B
now ◂ before = (now, before)

abbrev pub by : ℕ → Act → Step
by role act = record { role = role; act = act }

-- What each act asks for, in the order in which a line gives it; first that the role is live

pub splits : {layout : Layout} {before : History} {role other : ℕ}
    → is_live layout role before ≡ true → role ≡ first_role layout → other < first_role layout
    → is_live layout other before ≡ false
    → Allows layout before (by role (Split other))
splits live first below not_live =
    record { live = live; allowed = record { first = first; below = below; not_live = not_live } }

pub joins : {layout : Layout} {before : History} {role other : ℕ}
    → is_live layout role before ≡ true → role ≡ first_role layout → other ≢ first_role layout
    → is_live layout other before ≡ true → HoldsNothing layout before other
    → Allows layout before (by role (Join other))
joins live first another joined nothing =
    record {
      live = live;
      allowed = record { first = first; another = another; live = joined; empty_handed = nothing };
    }

pub takes : {layout : Layout} {before : History} {role : ℕ} {b : BufId}
    → is_live layout role before ≡ true → IsBuffer layout b.0 → place_of b.0 before ≡ Pool
    → role ≡ port_of layout b.0 → Showed layout b.0 (latest_look role before)
    → Allows layout before (by role (Take b))
takes live known in_pool own_port shown =
    record { live = live; allowed = record { known = known; in_pool = in_pool; own_port = own_port; shown = shown } }

pub gives : {layout : Layout} {before : History} {role : ℕ} {b : BufId} {outcome : Outcome} {parcel : Parcel}
    → is_live layout role before ≡ true → IsBuffer layout b.0 → place_of b.0 before ≡ Role role
    → NamesRing layout outcome
    → Allows layout before (by role (Give b outcome parcel))
gives live known holder names =
    record { live = live; allowed = record { holds = record { known = known; holder = holder }; names = names } }

pub enters : {layout : Layout} {before : History} {role feeder : ℕ} {f : FnId} {b : BufId} {parcel : Parcel}
    → is_live layout role before ≡ true → IsRing layout (Lane f feeder) → role ≡ producer layout (Lane f feeder)
    → length (content_of (Lane f feeder) before) < ring_size layout (Lane f feeder)
    → IsBuffer layout b.0 → place_of b.0 before ≡ Role role → length parcel.trail < MAX_HOPS
    → Allows layout before (by role (Push (Lane f feeder) (Buffer b parcel)))
enters live ring own_end room known holder short =
    record {
      live = live;
      allowed = record {
        known = ring;
        own_end = own_end;
        room = room;
        suits = (record { known = known; holder = holder }, short);
      };
    }

pub leaves : {layout : Layout} {before : History} {role : ℕ} {f : FnId} {b : BufId} {parcel : Parcel}
    → is_live layout role before ≡ true → IsRing layout (Output f) → role ≡ producer layout (Output f)
    → length (content_of (Output f) before) < ring_size layout (Output f)
    → IsBuffer layout b.0 → place_of b.0 before ≡ Role role
    → (1 ≤ length parcel.trail) × (length parcel.trail ≤ MAX_HOPS)
    → Allows layout before (by role (Push (Output f) (Buffer b parcel)))
leaves live ring own_end room known holder handled =
    record {
      live = live;
      allowed = record {
        known = ring;
        own_end = own_end;
        room = room;
        suits = (record { known = known; holder = holder }, handled.0, handled.1);
      };
    }

pub finds_full : {layout : Layout} {before : History} {role : ℕ} {ring : RingId}
    → is_live layout role before ≡ true → IsRing layout ring → role ≡ producer layout ring
    → length (content_of ring before) ≡ ring_size layout ring
    → Allows layout before (by role (Full ring))
finds_full live known own_end full =
    record { live = live; allowed = record { known = known; own_end = own_end; full = full } }

pub pops : {layout : Layout} {before : History} {role : ℕ} {ring : RingId} {item : Item}
    → is_live layout role before ≡ true → IsRing layout ring → role ≡ consumer layout ring
    → slice_get (content_of ring before) 0 ≡ Some item
    → Allows layout before (by role (Pop ring item))
pops live known own_end first =
    record { live = live; allowed = record { known = known; own_end = own_end; first = first } }

pub looks : {layout : Layout} {before : History} {role seen : ℕ} {word : Word} {told : Option Record}
    → is_live layout role before ≡ true → IsWord layout word → seen ≡ value_of layout before word
    → NamesRingIn layout told
    → Allows layout before (by role (Look word seen told))
looks live known true_value names =
    record { live = live; allowed = record { known = known; true_value = true_value; names = names } }

pub posts : {layout : Layout} {before : History} {role value : ℕ} {word : Word}
    → is_live layout role before ≡ true → AllowsPost layout before role word value
    → Allows layout before (by role (Post word value))
posts live allowed = record { live = live; allowed = allowed }
