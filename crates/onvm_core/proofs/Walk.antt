-- One frame from its capture to its transmission, through one function that answers Next: 17 steps, which are lawful.
-- So the laws speak of something.
use Rattle.std.proofs.Common.{◌≡◌, ◌≢◌, ℕ, inl, inr, [], ◌∷◌, refl, sym, ◌∙◌, arith, None}
use Rattle.std.specs.Prelude.{◌==◌, replicate, IsBitSet}
use Rattle.std.proofs.lemmas.Bool.{cases_Bool}
use Rattle.onvm_base.specs.declared.ids.BufId.{BufId}
use Rattle.onvm_base.specs.declared.ids.FnId.{FnId}
use Rattle.onvm_base.specs.declared.ids.RingId.TheVariants.{Lane, Output}
use Rattle.onvm_base.specs.declared.outcome.Outcome.TheVariants.{Sent}
use Rattle.onvm_base.specs.declared.outcome.Verdict.TheVariants.{Next}
use Rattle.onvm_core.specs.declared.layout.Layout.{Layout}
use Rattle.onvm_core.specs.declared.layout.Word.TheVariants.{Pool as PoolWord, Cell, Post as PostWord, Weight}
use Rattle.onvm_core.specs.declared.parcel.Parcel.{Parcel}
use Rattle.onvm_core.specs.declared.step.Act.TheVariants.{Split, Join, Take, Give, Push, Pop, Look}
use Rattle.onvm_core.specs.declared.step.Item.TheVariants.{Buffer}
use Rattle.onvm_core.specs.declared.place.Place.TheVariants.{Pool, Role}
use Rattle.onvm_core.specs.History.{History, place_of}
use Rattle.onvm_core.specs.Words.{pool_bits}
use Rattle.onvm_core.specs.Lawful.{IsLawful}
use Rattle.onvm_core.proofs.Steps.{◌◂◌, by, splits, joins, takes, gives, enters, leaves, pops, looks}

-- a port, a transmit role, a core, a function; 1024 buffers, rings of 128
abbrev pub layout : Layout
layout =
    record {
      ports = 1;
      transmit = 1;
      cores = 1;
      functions = 1;
      buffers = 1024;
      ring = 128;
      output = 128;
      core_of = replicate 32 0;
    }

abbrev pub f : FnId
f = record { 0 = 0 }

abbrev pub buf : BufId
buf = record { 0 = 0 }

-- the frame of 16 bytes, as it enters and as it was handled
abbrev pub entered : Parcel
entered = record {
  frame = record { port = record { 0 = 0 }; number = 1 };
  stamp = record { seconds = 1; nanos = 2000; tail = 0 };
  packet = 2 ∷ 0 ∷ 0 ∷ 0 ∷ 0 ∷ 1 ∷ 2 ∷ 0 ∷ 0 ∷ 0 ∷ 0 ∷ 2 ∷ 136 ∷ 181 ∷ 1 ∷ 2 ∷ [];
  chain = record { 0 = 0 };
  cursor = 0;
  hash = 84696351;
  trail = [];
}

abbrev pub handled : Parcel
handled = record entered { trail = record { function = f; place = 0; verdict = Next } ∷ [] }

-- the receive role is 0, the transmit role 1, the core 2, that of the first token 4
abbrev pub split_all : History
split_all = by 4 (Split 2) ∷ by 4 (Split 1) ∷ by 4 (Split 0) ∷ []

abbrev pub looked : History
looked =
    by 0 (Look (PoolWord (record { 0 = 0 }) 0) 18446744073709551615 None)
    ∷ by 0 (Look (PostWord 1) 0 None)
    ∷ by 0 (Look (PostWord 0) 0 None)
    ∷ split_all

abbrev pub received : History
received = by 0 (Push (Lane f 0) (Buffer buf entered)) ∷ by 0 (Take buf) ∷ looked

abbrev pub served : History
served =
    by 2 (Push (Output f) (Buffer buf handled))
    ∷ by 2 (Pop (Lane f 0) (Buffer buf entered))
    ∷ by 2 (Look (Cell (Output f) 0) 0 None)
    ∷ by 2 (Look (Weight f) 0 None)
    ∷ received

abbrev pub transmitted : History
transmitted = by 1 (Give buf (Sent 0) handled) ∷ by 1 (Pop (Output f) (Buffer buf handled)) ∷ served

abbrev pub walk : History
walk = by 4 (Join 2) ∷ by 4 (Join 1) ∷ by 4 (Join 0) ∷ transmitted

pub first_bit : IsBitSet 18446744073709551615 0
first_bit h = let off : 1 ≡ 0 = h in absurd (omega (arith, off))

-- all 64 buffers of the part's first word are in the pool
transmitted_is : IsLawful layout transmitted
unfolding pool_bits
transmitted_is =
    -- the transmit role sends it
    gives refl (omega arith) refl tt
    ◂ pops refl (omega arith) refl refl
    -- the core handles it
    ◂ leaves refl (omega arith) refl (omega arith) (omega arith) refl (omega arith, omega arith)
    ◂ pops refl (omega arith, omega arith) refl refl
    ◂ looks refl (omega arith, omega arith) refl tt
    ◂ looks refl (omega arith) refl tt
    -- the receive role asks the feeders, and takes the buffer of the lowest bit
    ◂ enters refl (omega arith, omega arith) refl (omega arith) (omega arith) refl (omega arith)
    ◂ takes refl (omega arith) refl refl (refl, first_bit)
    ◂ looks refl (omega arith, omega arith) refl tt
    ◂ looks refl (omega arith) refl tt
    ◂ looks refl (omega arith) refl tt
    -- the first token gives the roles away
    ◂ splits refl refl (omega arith) refl
    ◂ splits refl refl (omega arith) refl
    ◂ splits refl refl (omega arith) refl
    ◂ tt

-- every buffer is in the pool again
all_back : (b : ℕ) → place_of b transmitted ≡ Pool
all_back b = elim (cases_Bool (0 == b)) [ inl hit ↦ rw hit refl | inr miss ↦ rw miss refl ]

not_held : (role b : ℕ) → place_of b transmitted ≢ Role role
not_held role b held = let gone : Pool ≡ Role role = sym (all_back b) ∙ held in cc

pub walk_is_lawful : IsLawful layout walk
walk_is_lawful =
    -- the first token takes the roles back
    joins refl refl (λ e. omega (arith, e)) refl (λ b known. not_held 2 b)
    ◂ joins refl refl (λ e. omega (arith, e)) refl (λ b known. not_held 1 b)
    ◂ joins refl refl (λ e. omega (arith, e)) refl (λ b known. not_held 0 b)
    ◂ transmitted_is
