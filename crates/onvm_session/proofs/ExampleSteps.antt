-- The steps of the serial run of one frame, turn after turn, are lawful, and are those that the first token saw.
use Rattle.std.proofs.Common.{◌≡◌, ◌≢◌, ℕ, zero, suc, ◌<◌, true, inl, inr, [], ◌∷◌, ◌++◌, refl, sym, ◌∙◌, arith, None}
use Rattle.std.specs.Prelude.{◌==◌}
use Rattle.std.proofs.lemmas.Bool.{cases_Bool}
use Rattle.onvm_base.specs.declared.ids.RingId.{RingId}
use Rattle.onvm_base.specs.declared.ids.RingId.TheVariants.{Lane, Output, Mail}
use Rattle.onvm_core.specs.declared.layout.Layout.{Layout}
use Rattle.onvm_core.specs.declared.layout.Word.TheVariants.{Pool as PoolWord}
use Rattle.onvm_core.specs.declared.place.Place.TheVariants.{Pool, Ring, Role}
use Rattle.onvm_core.specs.declared.step.Act.TheVariants.{Empty, Join, Look, Push, Split}
use Rattle.onvm_core.specs.declared.step.Item.TheVariants.{Number}
use Rattle.onvm_core.specs.declared.step.Step.{Step}
use Rattle.onvm_core.specs.History.{History, content_of, is_live, place_of}
use Rattle.onvm_core.specs.Layouts.{IsRing, consumer}
use Rattle.onvm_core.specs.Lawful.{Allows, IsLawful}
use Rattle.onvm_core.specs.Logs.{log_of}
use Rattle.onvm_core.specs.Words.{pool_bits}
use Rattle.onvm_core.proofs.Steps.{◌◂◌, by, enters, gives, joins, leaves, looks, pops, posts, splits, takes}
use Rattle.onvm_core.proofs.Walk.{first_bit, layout}
use Rattle.onvm_promises.proofs.ExamplePasses.{moved, received, served, taken}
use Rattle.onvm_session.specs.Turns.{steps_of}
use Rattle.onvm_session.specs.Views.{IsHistoryOf}
use Rattle.onvm_session.proofs.ExampleTurns.{all_but_one, all_free, closing_pass, final, logs}

-- what each act asks for that Steps has no line for

pub finds_empty : {layout : Layout} {before : History} {role : ℕ} {ring : RingId}
    → is_live layout role before ≡ true → IsRing layout ring → role ≡ consumer layout ring
    → content_of ring before ≡ []
    → Allows layout before (by role (Empty ring))
finds_empty live known own_end empty =
    record { live = live; allowed = record { known = known; own_end = own_end; empty = empty } }

-- the first mail of the function
mails : {before : History} {number : ℕ}
    → is_live layout 2 before ≡ true → content_of (Mail (record { 0 = 0 })) before ≡ []
    → Allows layout before (by 2 (Push (Mail (record { 0 = 0 })) (Number number)))
mails live empty =
    record {
      live = live;
      allowed = record { known = omega arith; own_end = refl; room = rw empty (omega arith); suits = tt };
    }

-- The steps, turn by turn

abbrev look : ℕ → Step
look seen = by 4 (Look (PoolWord (record { 0 = 0 }) 0) seen None)

abbrev receives : History
receives = steps_of 0 received ++ by 4 (Split 0) ∷ []

abbrev after_receive : History
after_receive = look all_but_one ∷ by 4 (Join 0) ∷ receives

abbrev handles : History
handles = steps_of 2 served ++ by 4 (Split 2) ∷ after_receive

abbrev after_core : History
after_core = look all_but_one ∷ by 4 (Join 2) ∷ handles

abbrev sends : History
sends = steps_of 1 moved ++ by 4 (Split 1) ∷ after_core

abbrev after_send : History
after_send = look all_free ∷ by 4 (Join 1) ∷ sends

abbrev ticks : History
ticks = steps_of 3 taken ++ by 4 (Split 3) ∷ after_send

abbrev after_tick : History
after_tick = look all_free ∷ by 4 (Join 3) ∷ ticks

abbrev closes : History
closes = steps_of 3 closing_pass ++ by 4 (Split 3) ∷ after_tick

abbrev pub past : History
past = look all_free ∷ by 4 (Join 3) ∷ closes

-- Where the buffers are: no joined role has one

in_lane : (role b : ℕ) → place_of b receives ≢ Role role
in_lane role b at =
    elim (cases_Bool (0 == b)) [
      | inl hit ↦ let off : Ring (Lane (record { 0 = 0 }) 0) ≡ Role role = (rw hit at at) in cc
      | inr miss ↦ let off : Pool ≡ Role role = (rw miss at at) in cc
    ]

on_output : (role b : ℕ) → place_of b handles ≢ Role role
on_output role b at =
    elim (cases_Bool (0 == b)) [
      | inl hit ↦ let off : Ring (Output (record { 0 = 0 })) ≡ Role role = (rw hit at at) in cc
      | inr miss ↦ let off : Pool ≡ Role role = (rw miss at at) in cc
    ]

pub all_back : (b : ℕ) → place_of b past ≡ Pool
all_back b = elim (cases_Bool (0 == b)) [ inl hit ↦ rw hit refl | inr miss ↦ rw miss refl ]

back : (role b : ℕ) → place_of b past ≢ Role role
back role b at = let off : Pool ≡ Role role = sym (all_back b) ∙ at in cc

-- The turns are lawful

receive_is : IsLawful layout after_receive
unfolding pool_bits
receive_is =
    looks refl (omega arith, omega arith) refl tt
    ◂ joins refl refl (λ e. omega (arith, e)) refl (λ b known. in_lane 0 b)
    ◂ enters refl (omega arith, omega arith) refl (omega arith) (omega arith) refl (omega arith)
    ◂ takes refl (omega arith) refl refl (refl, first_bit)
    ◂ looks refl (omega arith, omega arith) refl tt
    ◂ looks refl (omega arith) refl tt
    ◂ looks refl (omega arith) refl tt
    ◂ splits refl refl (omega arith) refl
    ◂ tt

core_is : IsLawful layout after_core
unfolding pool_bits
core_is =
    looks refl (omega arith, omega arith) refl tt
    ◂ joins refl refl (λ e. omega (arith, e)) refl (λ b known. on_output 2 b)
    ◂ mails refl refl
    ◂ finds_empty refl (omega arith, omega arith) refl refl
    ◂ finds_empty refl (omega arith, omega arith) refl refl
    ◂ looks refl (omega arith, omega arith) refl tt
    ◂ leaves refl (omega arith) refl (omega arith) (omega arith) refl (omega arith, omega arith)
    ◂ pops refl (omega arith, omega arith) refl refl
    ◂ looks refl (omega arith, omega arith) refl tt
    ◂ looks refl (omega arith) refl tt
    ◂ splits refl refl (omega arith) refl
    ◂ receive_is

send_is : IsLawful layout after_send
unfolding pool_bits
send_is =
    looks refl (omega arith, omega arith) refl tt
    ◂ joins refl refl (λ e. omega (arith, e)) refl (λ b known. back 1 b)
    ◂ finds_empty refl (omega arith) refl refl
    ◂ gives refl (omega arith) refl tt
    ◂ pops refl (omega arith) refl refl
    ◂ splits refl refl (omega arith) refl
    ◂ core_is

tick_is : IsLawful layout after_tick
unfolding pool_bits
tick_is =
    looks refl (omega arith, omega arith) refl tt
    ◂ joins refl refl (λ e. omega (arith, e)) refl (λ b known. back 3 b)
    ◂ finds_empty refl (omega arith) refl refl
    ◂ pops refl (omega arith) refl refl
    ◂ splits refl refl (omega arith) refl
    ◂ send_is

pub past_is_lawful : IsLawful layout past
unfolding pool_bits
past_is_lawful =
    looks refl (omega arith, omega arith) refl tt
    ◂ joins refl refl (λ e. omega (arith, e)) refl (λ b known. back 3 b)
    ◂ posts refl (omega arith, refl)
    ◂ finds_empty refl (omega arith) refl refl
    ◂ splits refl refl (omega arith) refl
    ◂ tick_is

-- The final view is the history's

logs_are : (role : ℕ) → role < 4 → logs role ≡ log_of role past
logs_are zero less = refl
logs_are (suc zero) less = refl
logs_are (suc (suc zero)) less = refl
logs_are (suc (suc (suc zero))) less = refl
logs_are (suc (suc (suc (suc n)))) less = absurd (omega (arith, less))

pub history_is : IsHistoryOf layout final past
history_is = record { lawful = past_is_lawful; lead = refl; logs = logs_are; counts = refl }
