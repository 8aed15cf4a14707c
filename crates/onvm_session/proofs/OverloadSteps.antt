-- The steps of the serial run under overload, turn after turn, are lawful.
use Rattle.std.proofs.Common.{◌≡◌, ◌≢◌, ℕ, zero, suc, Bool, true, false, [], ◌∷◌, ◌++◌, refl, sym, ◌∙◌, ap, arith, None}
use Rattle.onvm_base.specs.declared.ids.RingId.TheVariants.{Mail}
use Rattle.onvm_core.specs.declared.layout.Word.TheVariants.{Pool as PoolWord}
use Rattle.onvm_core.specs.declared.place.Place.{Place}
use Rattle.onvm_core.specs.declared.place.Place.TheVariants.{Pool, Ring, Role}
use Rattle.onvm_core.specs.declared.step.Act.TheVariants.{Join, Look, Push, Split}
use Rattle.onvm_core.specs.declared.step.Item.TheVariants.{Number}
use Rattle.onvm_core.specs.declared.step.Step.{Step}
use Rattle.onvm_core.specs.History.{History, content_of, is_live, place_of}
use Rattle.onvm_core.specs.Lawful.{Allows, HoldsNothing, IsLawful}
use Rattle.onvm_core.specs.Layouts.{IsBuffer}
use Rattle.onvm_core.specs.Words.{pool_bits}
use Rattle.onvm_core.proofs.Crowd.{f}
use Rattle.onvm_core.proofs.Steps.{◌◂◌, by, enters, finds_full, gives, joins, leaves, looks, pops, posts, splits, takes}
use Rattle.onvm_session.specs.Turns.{steps_of}
use Rattle.onvm_session.proofs.ExampleSteps.{finds_empty}
use Rattle.onvm_session.proofs.OverloadCore.{first_served, second_served, third_served}
use Rattle.onvm_session.proofs.OverloadPlan.{bit_12, bit_14, bit_15, bit_8, layout}
use Rattle.onvm_session.proofs.OverloadReceive.{holding, raising, second_entered, staying, turned_back}
use Rattle.onvm_session.proofs.OverloadSend.{first_moved, second_moved, third_moved}
use Rattle.onvm_session.proofs.OverloadTick.{closing_pass, taken}

-- what a mailed sample asks for
mails : {before : History} {number : ℕ}
    → is_live layout 2 before ≡ true → content_of (Mail f) before ≡ []
    → Allows layout before (by 2 (Push (Mail f) (Number number)))
mails live empty =
    record {
      live = live;
      allowed = record { known = omega arith; own_end = refl; room = rw empty (omega arith); suits = tt };
    }

-- The steps, turn by turn

abbrev look : ℕ → Step
look seen = by 4 (Look (PoolWord (record { 0 = 0 }) 0) seen None)

abbrev first_receive_steps : History
first_receive_steps = steps_of 0 turned_back ++ by 4 (Split 0) ∷ []

abbrev after_first_receive : History
after_first_receive = look 8 ∷ by 4 (Join 0) ∷ first_receive_steps

abbrev first_core_steps : History
first_core_steps = steps_of 2 first_served ++ by 4 (Split 2) ∷ after_first_receive

abbrev after_first_core : History
after_first_core = look 8 ∷ by 4 (Join 2) ∷ first_core_steps

abbrev first_send_steps : History
first_send_steps = steps_of 1 first_moved ++ by 4 (Split 1) ∷ after_first_core

abbrev after_first_send : History
after_first_send = look 9 ∷ by 4 (Join 1) ∷ first_send_steps

abbrev first_tick_steps : History
first_tick_steps = steps_of 3 taken ++ by 4 (Split 3) ∷ after_first_send

abbrev after_first_tick : History
after_first_tick = look 9 ∷ by 4 (Join 3) ∷ first_tick_steps

abbrev second_receive_steps : History
second_receive_steps = steps_of 0 (holding ++ raising) ++ by 4 (Split 0) ∷ after_first_tick

abbrev after_second_receive : History
after_second_receive = look 9 ∷ by 4 (Join 0) ∷ second_receive_steps

abbrev second_core_steps : History
second_core_steps = steps_of 2 second_served ++ by 4 (Split 2) ∷ after_second_receive

abbrev after_second_core : History
after_second_core = look 9 ∷ by 4 (Join 2) ∷ second_core_steps

abbrev second_send_steps : History
second_send_steps = steps_of 1 second_moved ++ by 4 (Split 1) ∷ after_second_core

abbrev after_second_send : History
after_second_send = look 11 ∷ by 4 (Join 1) ∷ second_send_steps

abbrev second_tick_steps : History
second_tick_steps = steps_of 3 taken ++ by 4 (Split 3) ∷ after_second_send

abbrev after_second_tick : History
after_second_tick = look 11 ∷ by 4 (Join 3) ∷ second_tick_steps

abbrev third_receive_steps : History
third_receive_steps = steps_of 0 staying ++ by 4 (Split 0) ∷ after_second_tick

abbrev after_third_receive : History
after_third_receive = look 11 ∷ by 4 (Join 0) ∷ third_receive_steps

abbrev third_core_steps : History
third_core_steps = steps_of 2 third_served ++ by 4 (Split 2) ∷ after_third_receive

abbrev after_third_core : History
after_third_core = look 11 ∷ by 4 (Join 2) ∷ third_core_steps

abbrev third_send_steps : History
third_send_steps = steps_of 1 third_moved ++ by 4 (Split 1) ∷ after_third_core

abbrev after_third_send : History
after_third_send = look 15 ∷ by 4 (Join 1) ∷ third_send_steps

abbrev third_tick_steps : History
third_tick_steps = steps_of 3 taken ++ by 4 (Split 3) ∷ after_third_send

abbrev after_third_tick : History
after_third_tick = look 15 ∷ by 4 (Join 3) ∷ third_tick_steps

abbrev closing_steps : History
closing_steps = steps_of 3 closing_pass ++ by 4 (Split 3) ∷ after_third_tick

abbrev pub past : History
past = look 15 ∷ by 4 (Join 3) ∷ closing_steps

-- Where the four buffers are: no joined role has one

all_four : (P : ℕ → Type 0) → P 0 → P 1 → P 2 → P 3 → (b : ℕ) → IsBuffer layout b → P b
all_four P p0 p1 p2 p3 zero known = p0
all_four P p0 p1 p2 p3 (suc zero) known = p1
all_four P p0 p1 p2 p3 (suc (suc zero)) known = p2
all_four P p0 p1 p2 p3 (suc (suc (suc zero))) known = p3
all_four P p0 p1 p2 p3 (suc (suc (suc (suc n)))) known = absurd (omega (arith, known))

abbrev is_role : Place → Bool
is_role Pool = false
is_role (Ring ring) = false
is_role (Role role) = true

not_role : (p : Place) (role : ℕ) → is_role p ≡ false → p ≢ Role role
not_role p role away at = let off : false ≡ true = sym away ∙ ap is_role at in cc

empty_handed : (before : History) (role : ℕ)
    → is_role (place_of 0 before) ≡ false → is_role (place_of 1 before) ≡ false → is_role (place_of 2 before) ≡ false
    → is_role (place_of 3 before) ≡ false
    → HoldsNothing layout before role
empty_handed before role p0 p1 p2 p3 b known =
    not_role (place_of b before) role (all_four (λ n. is_role (place_of n before) ≡ false) p0 p1 p2 p3 b known)

pub all_back : (b : ℕ) → IsBuffer layout b → place_of b past ≡ Pool
all_back = all_four (λ n. place_of n past ≡ Pool) refl refl refl refl

-- The turns are lawful

two_enter : IsLawful layout (steps_of 0 second_entered ++ by 4 (Split 0) ∷ [])
unfolding pool_bits
two_enter =
    enters refl (omega arith, omega arith) refl (omega arith) (omega arith) refl (omega arith)
    ◂ takes refl (omega arith) refl refl (refl, bit_14)
    ◂ looks refl (omega arith, omega arith) refl tt
    ◂ looks refl (omega arith) refl tt
    ◂ looks refl (omega arith) refl tt
    ◂ enters refl (omega arith, omega arith) refl (omega arith) (omega arith) refl (omega arith)
    ◂ takes refl (omega arith) refl refl (refl, bit_15)
    ◂ looks refl (omega arith, omega arith) refl tt
    ◂ looks refl (omega arith) refl tt
    ◂ looks refl (omega arith) refl tt
    ◂ splits refl refl (omega arith) refl
    ◂ tt

first_receive_is : IsLawful layout after_first_receive
unfolding pool_bits
first_receive_is =
    looks refl (omega arith, omega arith) refl tt
    ◂ joins refl refl (λ e. omega (arith, e)) refl (empty_handed first_receive_steps 0 refl refl refl refl)
    ◂ gives refl (omega arith) refl (omega arith, omega arith)
    ◂ finds_full refl (omega arith, omega arith) refl refl
    ◂ takes refl (omega arith) refl refl (refl, bit_8)
    ◂ looks refl (omega arith, omega arith) refl tt
    ◂ looks refl (omega arith) refl tt
    ◂ looks refl (omega arith) refl tt
    ◂ enters refl (omega arith, omega arith) refl (omega arith) (omega arith) refl (omega arith)
    ◂ takes refl (omega arith) refl refl (refl, bit_12)
    ◂ looks refl (omega arith, omega arith) refl tt
    ◂ looks refl (omega arith) refl tt
    ◂ looks refl (omega arith) refl tt
    ◂ two_enter

first_core_is : IsLawful layout after_first_core
unfolding pool_bits
first_core_is =
    looks refl (omega arith, omega arith) refl tt
    ◂ joins refl refl (λ e. omega (arith, e)) refl (empty_handed first_core_steps 2 refl refl refl refl)
    ◂ mails refl refl
    ◂ leaves refl (omega arith) refl (omega arith) (omega arith) refl (omega arith, omega arith)
    ◂ pops refl (omega arith, omega arith) refl refl
    ◂ looks refl (omega arith, omega arith) refl tt
    ◂ looks refl (omega arith) refl tt
    ◂ splits refl refl (omega arith) refl
    ◂ first_receive_is

first_send_is : IsLawful layout after_first_send
unfolding pool_bits
first_send_is =
    looks refl (omega arith, omega arith) refl tt
    ◂ joins refl refl (λ e. omega (arith, e)) refl (empty_handed first_send_steps 1 refl refl refl refl)
    ◂ finds_empty refl (omega arith) refl refl
    ◂ gives refl (omega arith) refl tt
    ◂ pops refl (omega arith) refl refl
    ◂ splits refl refl (omega arith) refl
    ◂ first_core_is

first_tick_is : IsLawful layout after_first_tick
unfolding pool_bits
first_tick_is =
    looks refl (omega arith, omega arith) refl tt
    ◂ joins refl refl (λ e. omega (arith, e)) refl (empty_handed first_tick_steps 3 refl refl refl refl)
    ◂ finds_empty refl (omega arith) refl refl
    ◂ pops refl (omega arith) refl refl
    ◂ splits refl refl (omega arith) refl
    ◂ first_send_is

second_receive_is : IsLawful layout after_second_receive
unfolding pool_bits
second_receive_is =
    looks refl (omega arith, omega arith) refl tt
    ◂ joins refl refl (λ e. omega (arith, e)) refl (empty_handed second_receive_steps 0 refl refl refl refl)
    ◂ looks refl (omega arith) refl tt
    ◂ posts refl (omega arith, refl, refl)
    ◂ looks refl ((omega arith, omega arith), omega arith) refl tt
    ◂ looks refl ((omega arith, omega arith), omega arith) refl tt
    ◂ splits refl refl (omega arith) refl
    ◂ first_tick_is

second_core_is : IsLawful layout after_second_core
unfolding pool_bits
second_core_is =
    looks refl (omega arith, omega arith) refl tt
    ◂ joins refl refl (λ e. omega (arith, e)) refl (empty_handed second_core_steps 2 refl refl refl refl)
    ◂ mails refl refl
    ◂ leaves refl (omega arith) refl (omega arith) (omega arith) refl (omega arith, omega arith)
    ◂ pops refl (omega arith, omega arith) refl refl
    ◂ finds_empty refl (omega arith, omega arith) refl refl
    ◂ looks refl (omega arith, omega arith) refl tt
    ◂ looks refl (omega arith) refl tt
    ◂ splits refl refl (omega arith) refl
    ◂ second_receive_is

second_send_is : IsLawful layout after_second_send
unfolding pool_bits
second_send_is =
    looks refl (omega arith, omega arith) refl tt
    ◂ joins refl refl (λ e. omega (arith, e)) refl (empty_handed second_send_steps 1 refl refl refl refl)
    ◂ finds_empty refl (omega arith) refl refl
    ◂ gives refl (omega arith) refl tt
    ◂ pops refl (omega arith) refl refl
    ◂ splits refl refl (omega arith) refl
    ◂ second_core_is

second_tick_is : IsLawful layout after_second_tick
unfolding pool_bits
second_tick_is =
    looks refl (omega arith, omega arith) refl tt
    ◂ joins refl refl (λ e. omega (arith, e)) refl (empty_handed second_tick_steps 3 refl refl refl refl)
    ◂ finds_empty refl (omega arith) refl refl
    ◂ pops refl (omega arith) refl refl
    ◂ splits refl refl (omega arith) refl
    ◂ second_send_is

third_receive_is : IsLawful layout after_third_receive
unfolding pool_bits
third_receive_is =
    looks refl (omega arith, omega arith) refl tt
    ◂ joins refl refl (λ e. omega (arith, e)) refl (empty_handed third_receive_steps 0 refl refl refl refl)
    ◂ looks refl ((omega arith, omega arith), omega arith) refl tt
    ◂ looks refl ((omega arith, omega arith), omega arith) refl tt
    ◂ splits refl refl (omega arith) refl
    ◂ second_tick_is

third_core_is : IsLawful layout after_third_core
unfolding pool_bits
third_core_is =
    looks refl (omega arith, omega arith) refl tt
    ◂ joins refl refl (λ e. omega (arith, e)) refl (empty_handed third_core_steps 2 refl refl refl refl)
    ◂ mails refl refl
    ◂ leaves refl (omega arith) refl (omega arith) (omega arith) refl (omega arith, omega arith)
    ◂ pops refl (omega arith, omega arith) refl refl
    ◂ finds_empty refl (omega arith, omega arith) refl refl
    ◂ looks refl (omega arith, omega arith) refl tt
    ◂ looks refl (omega arith) refl tt
    ◂ splits refl refl (omega arith) refl
    ◂ third_receive_is

third_send_is : IsLawful layout after_third_send
unfolding pool_bits
third_send_is =
    looks refl (omega arith, omega arith) refl tt
    ◂ joins refl refl (λ e. omega (arith, e)) refl (empty_handed third_send_steps 1 refl refl refl refl)
    ◂ finds_empty refl (omega arith) refl refl
    ◂ gives refl (omega arith) refl tt
    ◂ pops refl (omega arith) refl refl
    ◂ splits refl refl (omega arith) refl
    ◂ third_core_is

third_tick_is : IsLawful layout after_third_tick
unfolding pool_bits
third_tick_is =
    looks refl (omega arith, omega arith) refl tt
    ◂ joins refl refl (λ e. omega (arith, e)) refl (empty_handed third_tick_steps 3 refl refl refl refl)
    ◂ finds_empty refl (omega arith) refl refl
    ◂ pops refl (omega arith) refl refl
    ◂ splits refl refl (omega arith) refl
    ◂ third_send_is

pub past_is_lawful : IsLawful layout past
unfolding pool_bits
past_is_lawful =
    looks refl (omega arith, omega arith) refl tt
    ◂ joins refl refl (λ e. omega (arith, e)) refl (empty_handed closing_steps 3 refl refl refl refl)
    ◂ posts refl (omega arith, refl)
    ◂ finds_empty refl (omega arith) refl refl
    ◂ splits refl refl (omega arith) refl
    ◂ third_tick_is
