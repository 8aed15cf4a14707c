-- A crowd: of five frames of a port with three buffers two stand in a lane, the third finds it full, the fourth goes to
-- another function, and the fifth finds the pool empty. The steps are lawful and follow the pattern.
use Rattle.std.proofs.Common.{◌≡◌, ℕ, zero, suc, ◌<◌, inl, inr, [], ◌∷◌, refl, arith, Some, None}
use Rattle.std.specs.Prelude.{◌==◌, IsBitSet, replicate}
use Rattle.std.proofs.lemmas.Bool.{cases_Bool}
use Rattle.onvm_base.specs.declared.ids.BufId.{BufId}
use Rattle.onvm_base.specs.declared.ids.FnId.{FnId}
use Rattle.onvm_base.specs.declared.ids.PortId.{PortId}
use Rattle.onvm_base.specs.declared.ids.RingId.TheVariants.{Lane}
use Rattle.onvm_base.specs.declared.outcome.Outcome.TheVariants.{RingFull, PoolEmpty}
use Rattle.onvm_core.specs.declared.entry.Entry.{Entry}
use Rattle.onvm_core.specs.declared.layout.Layout.{Layout}
use Rattle.onvm_core.specs.declared.layout.Word.TheVariants.{Pool as PoolWord, Post as PostWord}
use Rattle.onvm_core.specs.declared.step.Act.TheVariants.{Split, Take, Give, Push, Full, Look}
use Rattle.onvm_core.specs.declared.step.Item.TheVariants.{Buffer}
use Rattle.onvm_core.specs.History.{History}
use Rattle.onvm_core.specs.Words.{pool_bits}
use Rattle.onvm_core.specs.Lawful.{IsLawful}
use Rattle.onvm_core.specs.Logs.{Setting, entry_parcel, log_of}
use Rattle.onvm_core.specs.Blocks.{AllOfBlocks, IsOfBlocks}
use Rattle.onvm_core.proofs.Plans.{narrow}
use Rattle.onvm_core.proofs.Steps.{◌◂◌, by, splits, takes, gives, enters, finds_full, looks}
use Rattle.onvm_core.proofs.WalkLogs.{no_bit, at_role}

-- one port, one transmit role, one core with two functions; three buffers, rings of two
abbrev pub layout : Layout
layout =
    record {
      ports = 1;
      transmit = 1;
      cores = 1;
      functions = 2;
      buffers = 3;
      ring = 2;
      output = 2;
      core_of = replicate 32 0;
    }

abbrev pub port : PortId
port = record { 0 = 0 }

abbrev pub f : FnId
f = record { 0 = 0 }

abbrev pub g : FnId
g = record { 0 = 1 }

abbrev pub b0 : BufId
b0 = record { 0 = 0 }

abbrev pub b1 : BufId
b1 = record { 0 = 1 }

abbrev pub b2 : BufId
b2 = record { 0 = 2 }

-- frame number n of the port, on this chain
abbrev pub frame_on : (n chain : ℕ) → Entry
frame_on n chain =
    record {
      frame = record { port = port; number = n };
      stamp = record { seconds = 1; nanos = 0; tail = 0 };
      packet = n ∷ [];
      chain = record { 0 = chain };
      hash = 5;
    }

abbrev pub e1 : Entry
e1 = frame_on 1 0

abbrev pub e2 : Entry
e2 = frame_on 2 0

abbrev pub e3 : Entry
e3 = frame_on 3 0

abbrev pub e4 : Entry
e4 = frame_on 4 1

abbrev pub e5 : Entry
e5 = frame_on 5 0

abbrev pub setting : Setting
setting = record { layout = layout; plan = narrow; entries = e1 ∷ e2 ∷ e3 ∷ e4 ∷ e5 ∷ [] }

-- The steps by frames. Each block begins with looks at the post words of both feeders

-- frame 1 enters by the lane to f
abbrev first : History
first =
    by 0 (Push (Lane f 0) (Buffer b0 (entry_parcel e1)))
    ∷ by 0 (Take b0)
    ∷ by 0 (Look (PoolWord port 0) 7 None)
    ∷ by 0 (Look (PostWord 1) 0 None)
    ∷ by 0 (Look (PostWord 0) 0 None)
    ∷ by 4 (Split 0)
    ∷ []

-- so does frame 2
abbrev second : History
second =
    by 0 (Push (Lane f 0) (Buffer b1 (entry_parcel e2)))
    ∷ by 0 (Take b1)
    ∷ by 0 (Look (PoolWord port 0) 6 None)
    ∷ by 0 (Look (PostWord 1) 0 None)
    ∷ by 0 (Look (PostWord 0) 0 None)
    ∷ first

-- frame 3 finds that lane full, and its buffer goes back
abbrev third : History
third =
    by 0 (Give b2 (RingFull (Lane f 0)) (entry_parcel e3))
    ∷ by 0 (Full (Lane f 0))
    ∷ by 0 (Take b2)
    ∷ by 0 (Look (PoolWord port 0) 4 None)
    ∷ by 0 (Look (PostWord 1) 0 None)
    ∷ by 0 (Look (PostWord 0) 0 None)
    ∷ second

-- frame 4 enters by the lane to g
abbrev fourth : History
fourth =
    by 0 (Push (Lane g 0) (Buffer b2 (entry_parcel e4)))
    ∷ by 0 (Take b2)
    ∷ by 0 (Look (PoolWord port 0) 4 None)
    ∷ by 0 (Look (PostWord 1) 0 None)
    ∷ by 0 (Look (PostWord 0) 0 None)
    ∷ third

-- frame 5 finds the pool empty
abbrev pub crowd : History
crowd =
    by 0 (Look (PoolWord port 0) 0 (Some (record { frame = e5.frame; outcome = PoolEmpty })))
    ∷ by 0 (Look (PostWord 1) 0 None)
    ∷ by 0 (Look (PostWord 0) 0 None)
    ∷ fourth

pub bit_7_0 : IsBitSet 7 0
bit_7_0 h = let off : 1 ≡ 0 = h in absurd (omega (arith, off))

pub bit_6_1 : IsBitSet 6 1
bit_6_1 h = let off : 2 ≡ 0 = h in absurd (omega (arith, off))

pub bit_4_2 : IsBitSet 4 2
bit_4_2 h = let off : 4 ≡ 0 = h in absurd (omega (arith, off))

pub lowest_7 : (k : ℕ) → k < 0 → ¬ IsBitSet 7 k
lowest_7 k less = absurd (omega (arith, less))

pub lowest_6 : (k : ℕ) → k < 1 → ¬ IsBitSet 6 k
lowest_6 zero less h = h refl
lowest_6 (suc k) less h = absurd (omega (arith, less))

pub lowest_4 : (k : ℕ) → k < 2 → ¬ IsBitSet 4 k
lowest_4 zero less h = h refl
lowest_4 (suc zero) less h = h refl
lowest_4 (suc (suc k)) less h = absurd (omega (arith, less))

pub crowd_is_lawful : IsLawful layout crowd
unfolding pool_bits
crowd_is_lawful =
    -- frame 5 finds the pool empty
    looks refl (omega arith, omega arith) refl tt
    ◂ looks refl (omega arith) refl tt
    ◂ looks refl (omega arith) refl tt
    -- frame 4 enters
    ◂ enters refl (omega arith, omega arith) refl (omega arith) (omega arith) refl (omega arith)
    ◂ takes refl (omega arith) refl refl (refl, bit_4_2)
    ◂ looks refl (omega arith, omega arith) refl tt
    ◂ looks refl (omega arith) refl tt
    ◂ looks refl (omega arith) refl tt
    -- frame 3 finds the lane full
    ◂ gives refl (omega arith) refl (omega arith, omega arith)
    ◂ finds_full refl (omega arith, omega arith) refl refl
    ◂ takes refl (omega arith) refl refl (refl, bit_4_2)
    ◂ looks refl (omega arith, omega arith) refl tt
    ◂ looks refl (omega arith) refl tt
    ◂ looks refl (omega arith) refl tt
    -- frame 2 enters
    ◂ enters refl (omega arith, omega arith) refl (omega arith) (omega arith) refl (omega arith)
    ◂ takes refl (omega arith) refl refl (refl, bit_6_1)
    ◂ looks refl (omega arith, omega arith) refl tt
    ◂ looks refl (omega arith) refl tt
    ◂ looks refl (omega arith) refl tt
    -- frame 1 enters
    ◂ enters refl (omega arith, omega arith) refl (omega arith) (omega arith) refl (omega arith)
    ◂ takes refl (omega arith) refl refl (refl, bit_7_0)
    ◂ looks refl (omega arith, omega arith) refl tt
    ◂ looks refl (omega arith) refl tt
    ◂ looks refl (omega arith) refl tt
    ◂ splits refl refl (omega arith) refl
    ◂ tt

-- the blocks of the receive role, by frames

first_is : IsOfBlocks setting 0 (log_of 0 first)
first_is =
    inr (e1, refl, (refl, refl, record { function = f; cursor = 0; move = refl; lane = refl }))
    ◂ inr (e1, refl, record { known = omega arith; word = refl; shown = bit_7_0; lowest = lowest_7 })
    ◂ inr (e1, refl, (refl, λ none. absurd (omega (arith, none))))
    ◂ inr (e1, refl, (refl, λ k raised. no_bit k raised.bit))
    ◂ inr (e1, refl, (refl, λ k raised. no_bit k raised.bit))
    ◂ tt

second_is : IsOfBlocks setting 0 (log_of 0 second)
second_is =
    inr (e2, refl, (refl, refl, record { function = f; cursor = 0; move = refl; lane = refl }))
    ◂ inr (e2, refl, record { known = omega arith; word = refl; shown = bit_6_1; lowest = lowest_6 })
    ◂ inr (e2, refl, (refl, λ none. absurd (omega (arith, none))))
    ◂ inr (e2, refl, (refl, λ k raised. no_bit k raised.bit))
    ◂ inr (e2, refl, (refl, λ k raised. no_bit k raised.bit))
    ◂ first_is

third_is : IsOfBlocks setting 0 (log_of 0 third)
third_is =
    inr (e3, refl, (refl, refl, refl))
    ◂ inr (e3, refl, record { function = f; cursor = 0; move = refl; lane = refl })
    ◂ inr (e3, refl, record { known = omega arith; word = refl; shown = bit_4_2; lowest = lowest_4 })
    ◂ inr (e3, refl, (refl, λ none. absurd (omega (arith, none))))
    ◂ inr (e3, refl, (refl, λ k raised. no_bit k raised.bit))
    ◂ inr (e3, refl, (refl, λ k raised. no_bit k raised.bit))
    ◂ second_is

fourth_is : IsOfBlocks setting 0 (log_of 0 fourth)
fourth_is =
    inr (e4, refl, (refl, refl, record { function = g; cursor = 0; move = refl; lane = refl }))
    ◂ inr (e4, refl, record { known = omega arith; word = refl; shown = bit_4_2; lowest = lowest_4 })
    ◂ inr (e4, refl, (refl, λ none. absurd (omega (arith, none))))
    ◂ inr (e4, refl, (refl, λ k raised. no_bit k raised.bit))
    ◂ inr (e4, refl, (refl, λ k raised. no_bit k raised.bit))
    ◂ third_is

receive_is : IsOfBlocks setting 0 (log_of 0 crowd)
receive_is =
    inr (e5, refl, (refl, record { none = refl; last = omega arith; told_is = refl }))
    ◂ inr (e5, refl, (refl, λ k raised. no_bit k raised.bit))
    ◂ inr (e5, refl, (refl, λ k raised. no_bit k raised.bit))
    ◂ fourth_is

lead_is : IsOfBlocks setting 4 (log_of 4 crowd)
lead_is = tt ◂ tt

pub crowd_follows : AllOfBlocks setting crowd
crowd_follows role =
    elim (cases_Bool (0 == role)) [
      | inl met ↦ at_role setting crowd 0 role receive_is met
      | inr not_receive ↦ elim (cases_Bool (4 == role)) [
        | inl met ↦ at_role setting crowd 4 role lead_is met
        | inr not_lead ↦ rw (not_receive, not_lead) tt
      ]
    ]
