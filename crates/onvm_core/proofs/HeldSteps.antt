-- Steps of which each is lawful: two frames stand in a lane whose high mark is 2, the third is throttled, the function
-- takes the two, and the fourth is asked for in vain no more.
use Rattle.std.proofs.Common.{ℕ, [], ◌∷◌, refl, arith, Some, None}
use Rattle.onvm_base.specs.declared.ids.RingId.TheVariants.{Lane, Output}
use Rattle.onvm_base.specs.declared.outcome.Outcome.TheVariants.{Throttled}
use Rattle.onvm_base.specs.declared.outcome.Record.{Record}
use Rattle.onvm_base.specs.declared.outcome.Verdict.TheVariants.{Next}
use Rattle.onvm_core.specs.declared.entry.Entry.{Entry}
use Rattle.onvm_core.specs.declared.layout.Word.TheVariants.{Pool as PoolWord, Cell, Post as PostWord, Weight}
use Rattle.onvm_core.specs.declared.parcel.Parcel.{Parcel}
use Rattle.onvm_core.specs.declared.step.Act.TheVariants.{Split, Take, Push, Pop, Look, Post}
use Rattle.onvm_core.specs.declared.step.Item.TheVariants.{Buffer}
use Rattle.onvm_core.specs.History.{History}
use Rattle.onvm_core.specs.Words.{pool_bits}
use Rattle.onvm_core.specs.Lawful.{IsLawful}
use Rattle.onvm_core.specs.Logs.{entry_parcel}
use Rattle.onvm_core.proofs.Steps.{◌◂◌, by, splits, takes, enters, leaves, pops, looks, posts}
use Rattle.onvm_core.proofs.Crowd.{layout, port, f, b0, b1, e1, e2, e3, bit_7_0, bit_6_1}

-- the parcel after the function answered Next
abbrev pub handled : Entry → ℕ → Parcel
handled e n = record (entry_parcel e) { trail = record { function = f; place = n; verdict = Next } ∷ [] }

-- the third frame is held by the first post of feeder 0, for function f
abbrev pub held : Record
held = record { frame = e3.frame; outcome = Throttled 0 1 f }

abbrev opened : History
opened =
    -- frame 1 enters by the lane to f
    by 0 (Push (Lane f 0) (Buffer b0 (entry_parcel e1)))
    ∷ by 0 (Take b0)
    ∷ by 0 (Look (PoolWord port 0) 7 None)
    ∷ by 0 (Look (PostWord 1) 0 None)
    ∷ by 0 (Look (PostWord 0) 0 None)
    -- the receive role and the core are given away
    ∷ by 4 (Split 2)
    ∷ by 4 (Split 0)
    ∷ []

-- up to the look with which the second block begins
abbrev pub second_begun : History
second_begun = by 0 (Look (PostWord 0) 0 None) ∷ opened

-- up to the post that raises the mark
abbrev pub raised : History
raised =
    -- a marks pass finds high and low, and the mark is raised
    by 0 (Post (PostWord 0) 4294967297)
    ∷ by 0 (Look (Cell (Lane f 0) 1) 2 None)
    ∷ by 0 (Look (Cell (Lane f 0) 0) 1 None)
    -- frame 2 enters by the lane to f
    ∷ by 0 (Push (Lane f 0) (Buffer b1 (entry_parcel e2)))
    ∷ by 0 (Take b1)
    ∷ by 0 (Look (PoolWord port 0) 6 None)
    ∷ by 0 (Look (PostWord 1) 0 None)
    ∷ second_begun

-- up to the look that finds the lane empty
abbrev pub emptied : History
emptied =
    -- a marks pass finds neither mark
    by 0 (Look (Cell (Lane f 0) 1) 0 None)
    ∷ by 0 (Look (Cell (Lane f 0) 0) 0 None)
    -- the function handles both frames
    ∷ by 2 (Push (Output f) (Buffer b1 (handled e2 1)))
    ∷ by 2 (Pop (Lane f 0) (Buffer b1 (entry_parcel e2)))
    ∷ by 2 (Look (Cell (Output f) 1) 0 None)
    ∷ by 2 (Push (Output f) (Buffer b0 (handled e1 0)))
    ∷ by 2 (Pop (Lane f 0) (Buffer b0 (entry_parcel e1)))
    ∷ by 2 (Look (Cell (Output f) 0) 0 None)
    ∷ by 2 (Look (Weight f) 0 None)
    -- frame 3 is held
    ∷ by 0 (Look (PostWord 0) 4294967297 (Some held))
    ∷ raised

-- up to the post that clears the mark
abbrev pub cleared : History
cleared = by 0 (Post (PostWord 0) 8589934592) ∷ emptied

-- the look that asks for frame 4 finds no bit
abbrev pub whole : History
whole = by 0 (Look (PostWord 0) 8589934592 None) ∷ cleared

pub whole_is_lawful : IsLawful layout whole
unfolding pool_bits
whole_is_lawful =
    -- frame 4 is asked for
    looks refl (omega arith) refl tt
    -- a marks pass finds neither mark, and the mark is cleared
    ◂ posts refl (omega arith, refl, refl)
    ◂ looks refl ((omega arith, omega arith), omega arith) refl tt
    ◂ looks refl ((omega arith, omega arith), omega arith) refl tt
    -- the function handles both frames
    ◂ leaves refl (omega arith) refl (omega arith) (omega arith) refl (omega arith, omega arith)
    ◂ pops refl (omega arith, omega arith) refl refl
    ◂ looks refl (omega arith, omega arith) refl tt
    ◂ leaves refl (omega arith) refl (omega arith) (omega arith) refl (omega arith, omega arith)
    ◂ pops refl (omega arith, omega arith) refl refl
    ◂ looks refl (omega arith, omega arith) refl tt
    ◂ looks refl (omega arith) refl tt
    -- frame 3 is held
    ◂ looks refl (omega arith) refl tt
    -- a marks pass finds high and low, and the mark is raised
    ◂ posts refl (omega arith, refl, refl)
    ◂ looks refl ((omega arith, omega arith), omega arith) refl tt
    ◂ looks refl ((omega arith, omega arith), omega arith) refl tt
    -- frame 2 enters
    ◂ enters refl (omega arith, omega arith) refl (omega arith) (omega arith) refl (omega arith)
    ◂ takes refl (omega arith) refl refl (refl, bit_6_1)
    ◂ looks refl (omega arith, omega arith) refl tt
    ◂ looks refl (omega arith) refl tt
    ◂ looks refl (omega arith) refl tt
    -- frame 1 enters
    ◂ enters refl (omega arith, omega arith) refl (omega arith) (omega arith) refl (omega arith)
    ◂ takes refl (omega arith) refl refl (refl, bit_7_0)
    ◂ looks refl (omega arith, omega arith) refl tt
    ◂ looks refl (omega arith) refl tt
    ◂ looks refl (omega arith) refl tt
    -- the receive role and the core are given away
    ◂ splits refl refl (omega arith) refl
    ◂ splits refl refl (omega arith) refl
    ◂ tt
