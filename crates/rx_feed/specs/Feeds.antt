-- A feed, and where a port stands with it.
use Rattle.std.specs.Prelude.{ℕ, ◌≡◌, ◌-◌, ◌≤◌, Bool, true, false, List, [], Option, Some, None, length}
use Rattle.onvm_base.specs.declared.limits.TheConstants.{MAX_PORT_FRAMES}
use Rattle.onvm_host.specs.Deeds.{Amounts}
use Rattle.rx_feed.specs.Made.{Making, made_frames}
use Rattle.rx_feed.specs.Standing.{IsStanding, IsTakenSince, Standing}
use Rattle.rx_feed.specs.Streams.{IsStream, standing_of}
use Rattle.rx_feed.specs.declared.feed.Feed.{Feed}
use Rattle.rx_feed.specs.declared.feed.Feed.TheVariants as feed
use Rattle.rx_feed.specs.declared.feed.Kind.{Kind}
use Rattle.rx_feed.specs.declared.feed.Kind.TheVariants as kind

abbrev pub feed_in : {I : Type 0} → Kind I → Option (Feed I)
feed_in kind.Nothing = None
feed_in (kind.Live source stream) = Some (feed.Live source)
feed_in (kind.Made generator ended) = Some (feed.Made generator)

-- of a generator so many frames were pulled. Nothing is taken of it, and nothing stops it but its end
abbrev pub made_standing : Making → Bool → Standing
made_standing g ended =
    record { taken = []; complete = ended; pulled = made_frames g.seed g.given; ended = ended; fault = None }

-- a port without a feed has no frame and is at its end
abbrev pub no_standing : Standing
no_standing = record { taken = []; complete = true; pulled = []; ended = true; fault = None }

abbrev pub standing_in : {I : Type 0} → Kind I → Standing
standing_in kind.Nothing = no_standing
standing_in (kind.Live source stream) = standing_of stream
standing_in (kind.Made generator ended) = made_standing generator ended

-- each frame was given, as many as a port takes at most
abbrev pub IsAllGiven : Making → Type 0
IsAllGiven g = (g.given ≡ g.count) × (g.count ≤ MAX_PORT_FRAMES)

abbrev pub IsKind : {I : Type 0} → Kind I → Type 0
IsKind kind.Nothing = Unit {0}
IsKind (kind.Live source stream) = IsStream stream
IsKind (kind.Made g ended) = ended ≡ true → IsAllGiven g

-- what was pulled of a feed is its frames: the reading of what was taken, or those that are made
abbrev pub IsPulledOf : {I : Type 0} → Option (Feed I) → Standing → Type 0
IsPulledOf None s = s ≡ no_standing
IsPulledOf (Some (feed.Live source)) s = IsStanding s
IsPulledOf (Some (feed.Made g)) s =
    (s ≡ made_standing g s.ended) × (s.ended ≡ true → g.given ≡ g.count) × (g.given ≤ g.count) × (g.count ≤ MAX_PORT_FRAMES)

-- since a moment, when these bytes were left and these takes had been made, just the bytes taken came of a live feed
abbrev pub IsTakenFrom : {I : Type 0} → (I → Option (List ℕ)) → (I → Amounts) → Option (List ℕ) → Amounts → Option (Feed I)
    → Standing → Type 0
IsTakenFrom left_of takes_of left takes None s = Unit {0}
IsTakenFrom left_of takes_of left takes (Some (feed.Live source)) s =
    IsTakenSince left (left_of source) takes (takes_of source) s
IsTakenFrom left_of takes_of left takes (Some (feed.Made g)) s = Unit {0}

-- it is the same feed
abbrev pub StaysFeed : {I : Type 0} → (I → List ℕ) → Option (Feed I) → Option (Feed I) → Type 0
StaysFeed name_of None new = new ≡ None
StaysFeed {I} name_of (Some (feed.Live source)) new =
    (later : I) × (new ≡ Some (feed.Live later)) × (name_of later ≡ name_of source)
StaysFeed name_of (Some (feed.Made g)) new =
    (later : Making) × (new ≡ Some (feed.Made later)) × (later.seed ≡ g.seed) × (later.count ≡ g.count)

-- at most so many frames more are pulled
abbrev pub most_left : {I : Type 0} → Option (Feed I) → Standing → ℕ
most_left None s = 0
most_left (Some (feed.Live source)) s = MAX_PORT_FRAMES - length s.pulled
most_left (Some (feed.Made g)) s = g.count - length s.pulled

-- Before the first frame

-- a generator has given no frame, and gives at most as many as a port takes
abbrev pub IsFreshFeed : {I : Type 0} → Option (Feed I) → Type 0
IsFreshFeed None = Unit {0}
IsFreshFeed (Some (feed.Live source)) = Unit {0}
IsFreshFeed (Some (feed.Made g)) = (g.given ≡ 0) × (g.count ≤ MAX_PORT_FRAMES)

abbrev pub fresh_standing : {I : Type 0} → Option (Feed I) → Standing
fresh_standing None = no_standing
fresh_standing (Some feed) = record { taken = []; complete = false; pulled = []; ended = false; fault = None }

-- these bytes are left of a live feed, and it had these takes
abbrev pub WasLeft : {I : Type 0} → (I → Option (List ℕ)) → (I → Amounts) → Option (List ℕ) → Amounts → Option (Feed I)
    → Type 0
WasLeft left_of takes_of left takes None = Unit {0}
WasLeft left_of takes_of left takes (Some (feed.Live source)) = (left_of source ≡ left) × (takes_of source ≡ takes)
WasLeft left_of takes_of left takes (Some (feed.Made g)) = Unit {0}
