-- Worked windows, shares, lines and ticks, of two functions with priorities 1 and 2 on one core.
use Rattle.std.proofs.Common.{◌≡◌, ℕ, true, false, List, [], ◌∷◌, refl, Some, None}
use Rattle.load_estimate.specs.declared.sample.Sample.{Sample}
use Rattle.load_estimate.specs.declared.tick.Share.{Share}
use Rattle.load_estimate.specs.declared.tick.Tick.{Tick}
use Rattle.load_estimate.specs.declared.tick.TickLine.{TickLine}
use Rattle.load_estimate.specs.Windows.{arrivals_of, median_of}
use Rattle.cpu_shares.specs.Shares.{load_of}
use Rattle.onvm_promises.specs.Lines.{function_load, function_share, function_window, lines_of, weights_posted}
use Rattle.onvm_promises.specs.Ticks.{is_due, new_ticks, tick_at}
use Rattle.onvm_promises.proofs.ExamplePlans.{first, second, weighted}

abbrev pub sample : (function moment count time : ℕ) → Sample
sample f moment count time = record { function = record { 0 = f }; moment = moment; count = count; time = time }

-- of function 0 four samples of 25 frames, not in order of times; of function 1 one of 100 frames, between them
abbrev pub five : List Sample
five =
    sample 0 0 25 40 ∷ sample 0 1 25 10 ∷ sample 1 1 100 5 ∷ sample 0 2 25 30 ∷ sample 0 3 25 20 ∷ []

-- Windows

-- the four have 100 frames, and of the two middle times the lower
four_arrive : arrivals_of (function_window weighted five 3 0) ≡ 100
four_arrive = refl

lower_of_two : median_of (function_window weighted five 3 0) ≡ Some 20
lower_of_two = refl

one_arrives : arrivals_of (function_window weighted five 3 1) ≡ 100
one_arrives = refl

its_own_time : median_of (function_window weighted five 3 1) ≡ Some 5
its_own_time = refl

-- a window of 100 milliseconds has no sample that is so old: at 100,000,001 those of the moments 0 and 1 are gone
two_left : arrivals_of (function_window weighted five 100000001 0) ≡ 50
two_left = refl

lower_of_those : median_of (function_window weighted five 100000001 0) ≡ Some 20
lower_of_those = refl

none_left : median_of (function_window weighted five 100000001 1) ≡ None
none_left = refl

-- Shares

loads : (load_of (function_load weighted five 3 0) ≡ 2000) × (load_of (function_load weighted five 3 1) ≡ 500)
loads = (refl, refl)

-- of the core's 2,500 function 0 has 2,000, and 819 of 1,024
larger_share : function_share weighted five 3 0 first ≡ Some (record { num = 2000; den = 2500; weight = 819 })
larger_share = refl

-- function 1 has 500, which its priority doubles
doubled_share : function_share weighted five 3 1 second ≡ Some (record { num = 1000; den = 2500; weight = 409 })
doubled_share = refl

-- without a frame there is no share
no_share : function_share weighted [] 3 0 first ≡ None
no_share = refl

-- Ticks

abbrev share_for : (num weight : ℕ) → Share
share_for num weight = record { num = num; den = 2500; weight = weight }

-- the lines of these samples
abbrev lines : List TickLine
lines =
    record { arrivals = 100; median = Some 20; share = Some (share_for 2000 819); weight = 819 }
    ∷ record { arrivals = 100; median = Some 5; share = Some (share_for 1000 409); weight = 409 }
    ∷ []

abbrev first_tick : Tick
first_tick = record { number = 1; moment = 3; taken = 5; lines = lines }

its_lines : tick_at weighted [] five 3 ≡ first_tick
its_lines = refl

-- where nothing is left in a window the plan's weights stay in force, and none is posted
plain_lines : lines_of weighted [] five 200000000
    ≡ record { arrivals = 0; median = None; share = None; weight = 1024 }
    ∷ record { arrivals = 0; median = None; share = None; weight = 1024 } ∷ []
plain_lines = refl

-- and after an earlier tick its weights do
later_lines : lines_of weighted (first_tick ∷ []) five 200000000
    ≡ record { arrivals = 0; median = None; share = None; weight = 819 }
    ∷ record { arrivals = 0; median = None; share = None; weight = 409 } ∷ []
later_lines = refl

abbrev second_tick : Tick
second_tick = tick_at weighted (first_tick ∷ []) five 200000000

posted_once : (weights_posted 0 (first_tick ∷ second_tick ∷ []) ≡ 819 ∷ [])
    × (weights_posted 1 (first_tick ∷ second_tick ∷ []) ≡ 409 ∷ [])
posted_once = (refl, refl)

-- A tick is 10 milliseconds: the first is due that long after the first moment, the next one that long after the last

first_due : (is_due weighted 1000 10000999 [] ≡ false) × (is_due weighted 1000 10001000 [] ≡ true)
first_due = (refl, refl)

next_due : (is_due weighted 1000 10000002 (first_tick ∷ []) ≡ false)
    × (is_due weighted 1000 10000003 (first_tick ∷ []) ≡ true)
next_due = (refl, refl)

made_where_due : (new_ticks weighted 0 9999999 false [] [] ≡ [])
    × (new_ticks weighted 0 10000000 false [] [] ≡ tick_at weighted [] [] 10000000 ∷ [])
made_where_due = (refl, refl)

-- the pass that closes the run makes one at any moment
closing_makes_one : new_ticks weighted 0 0 true [] [] ≡ tick_at weighted [] [] 0 ∷ []
closing_makes_one = refl
