-- What a function is handed, and what it makes of it.
use Rattle.std.specs.Prelude.{ℕ, ◌≡◌, ◌==◌, ◌++◌, if◌then◌else◌, List, [], ◌∷◌, length, Option, Some, None}
use Rattle.onvm_base.specs.declared.ids.FnId.{FnId}
use Rattle.onvm_base.specs.declared.outcome.Verdict.{Verdict}
use Rattle.onvm_core.specs.declared.parcel.Parcel.{Parcel}
use Rattle.onvm_core.specs.Journals.{GoesThrough, Handling, journal}
use Rattle.onvm_core.specs.Logs.{Log}
use Rattle.onvm_board.specs.Tokens.{TokenView, parcel_in}
use Rattle.nf_api.specs.Acts.{Acts, Narrows}
use Rattle.nf_api.specs.Tree.{Tree, nothing}
use Rattle.nf_api.specs.declared.meta.Meta.{Meta}

-- what a function is told of a parcel beside its bytes
abbrev pub meta_of : Parcel → Meta
meta_of parcel =
    record {
      frame = parcel.frame;
      stamp = parcel.stamp;
      chain = parcel.chain;
      hops = length parcel.trail;
      hash = parcel.hash;
    }

-- a function that acts so made this of a parcel
abbrev pub by_handling : Acts → Tree → Handling → Tree → Type 0
by_handling acts was handling now =
    acts was handling.before.packet (meta_of handling.before) handling.verdict handling.bytes now

-- the parcel after a function handled it
abbrev pub handled_parcel : FnId → (place : ℕ) → Verdict → List ℕ → Parcel → Parcel
handled_parcel function place verdict bytes parcel =
    record parcel {
      packet = bytes;
      trail = parcel.trail ++ record { function = function; place = place; verdict = verdict } ∷ [];
    }

-- a buffer in hand, with a parcel in its slot
abbrev pub holding : ℕ → Parcel → TokenView → TokenView
holding buf parcel token = record token { hand = (buf, Some parcel) ∷ [] }

module _ {N : Type 0} (acts : N → Acts) (state : N → Tree) where
  -- the function handled the parcel in hand in its slot, and left a crumb with this place
  pub record HasHandled (function : FnId) (place buf : ℕ) (was now : N) (before after : TokenView) : Type 0 where
    pub verdict : Verdict
    pub bytes : List ℕ
    pub acted : acts was (state was) (parcel_in before).packet (meta_of (parcel_in before)) verdict bytes (state now)
    pub narrows : Narrows (acts now) (acts was)
    pub left : after ≡ holding buf (handled_parcel function place verdict bytes (parcel_in before)) before

  -- it is as it was, for all that can be seen of it
  pub record IsUnmoved (was now : N) : Type 0 where
    pub state_is : state now ≡ state was
    pub narrows : Narrows (acts now) (acts was)

  -- between these two logs of its core it went through the handlings that were added to its journal
  pub record HasGoneOn (function : FnId) (was now : N) (before after : Log) : Type 0 where
    pub entries : List Handling
    pub grown : journal function after ≡ journal function before ++ entries
    pub goes : GoesThrough (by_handling (acts was)) (state was) entries (state now)
    pub narrows : Narrows (acts now) (acts was)

  -- the function of a number, where unit i is that of function i of a list
  abbrev pub unit_of : List FnId → List N → ℕ → Option N
  unit_of [] units f = None
  unit_of (g ∷ gs) [] f = None
  unit_of (g ∷ gs) (unit ∷ units) f = if g.0 == f then Some unit else unit_of gs units f

  abbrev pub acts_in : Option N → Tree → Handling → Tree → Type 0
  acts_in None was handling now = ⊥
  acts_in (Some unit) was handling now = by_handling (acts unit) was handling now

  abbrev pub state_in : Option N → Tree
  state_in None = nothing
  state_in (Some unit) = state unit
