-- Where ports stand before the first take of their feeds.
use Rattle.std.proofs.Common.{◌≡◌, ℕ, false, inl, List, [], refl, sym, subst, arith, append-nil, Some, None, Option}
use Rattle.std.specs.Io.KnownBytes.{Consumes}
use Rattle.std.specs.Prelude.{slice_get}
use Rattle.onvm_base.specs.declared.plan.Plan.{Plan}
use Rattle.onvm_host.specs.Deeds.{Amounts}
use Rattle.rx_feed.specs.declared.feed.Feed.{Feed}
use Rattle.rx_feed.specs.declared.feed.Feed.TheVariants.{Live, Made}
use Rattle.rx_feed.proofs.Feeding.{stays_refl}
use Rattle.rx_feed.proofs.Streaming.{going_stands}
use Rattle.rx_feed.specs.Feeds.{IsFreshFeed, IsPulledOf, IsTakenFrom, WasLeft, fresh_standing}
use Rattle.rx_feed.specs.Made.{made_frames}
use Rattle.rx_feed.specs.Standing.{IsTakenSince, Standing}
use Rattle.onvm_session.specs.RoleStates.{IsFedBy}
use Rattle.onvm_session.specs.Rooms.{AreFresh}
use Rattle.onvm_session.specs.Runs.{AllStand}

-- nothing was taken
abbrev nothing_taken : Standing
nothing_taken = record { taken = []; complete = false; pulled = []; ended = false; fault = None }

fresh_at : {I : Type 0} (feed : Option (Feed I))
    → ((given : Feed I) → feed ≡ Some given → IsFreshFeed (Some given)) → IsFreshFeed feed
fresh_at None each = tt
fresh_at (Some feed) each = each feed refl

none_pulled : {I : Type 0} (feed : Option (Feed I)) → IsFreshFeed feed → IsPulledOf feed (fresh_standing feed)
none_pulled None fresh = refl
none_pulled (Some (Live source)) fresh =
    going_stands nothing_taken (record { begins = inl refl; few = omega arith })
    (record { few = omega arith; small = omega arith }) refl refl
none_pulled (Some (Made g)) fresh = (
  (λ i. record nothing_taken { pulled = made_frames g.seed (sym fresh.0 i) }),
  (λ ended. absurd (cc ended)),
  omega (arith, fresh.0),
  fresh.1,
)

module _ {I : Type 0} (name_of : I → List ℕ) (left_of : I → Option (List ℕ)) (takes_of : I → Amounts) where
  consumes_none : (left : Option (List ℕ)) → Consumes left left []
  consumes_none None = tt
  consumes_none (Some bytes) = refl

  taken_since : (source : I) → IsTakenSince (left_of source) (left_of source) (takes_of source) (takes_of source)
      nothing_taken
  taken_since source = record {
    consumed = consumes_none (left_of source);
    earlier = [];
    calls = sym (append-nil (takes_of source));
    moved = refl;
    at_end = λ ended. absurd (cc ended);
  }

  none_taken : (feed : Option (Feed I)) (left : Option (List ℕ)) (takes : Amounts)
      → WasLeft left_of takes_of left takes feed → IsTakenFrom left_of takes_of left takes feed (fresh_standing feed)
  none_taken None left takes was = tt
  none_taken (Some (Live source)) left takes was =
      subst (λ (l : Option (List ℕ)). IsTakenSince l (left_of source) takes (takes_of source) nothing_taken) was.0
      (subst (λ (t : Amounts). IsTakenSince (left_of source) (left_of source) t (takes_of source) nothing_taken) was.1
      (taken_since source))
  none_taken (Some (Made g)) left takes was = tt

  fed_fresh : (feed : Option (Feed I)) → IsFreshFeed feed
      → IsFedBy name_of left_of takes_of feed feed (fresh_standing feed)
  fed_fresh feed fresh = record {
    pulled = none_pulled feed fresh;
    stays = stays_refl name_of feed;
    since = none_taken feed;
  }

  pub all_fresh : (plan : Plan) (feeds : List (Feed I)) → AreFresh feeds
      → AllStand name_of left_of takes_of plan feeds feeds
  all_fresh plan feeds fresh = record {
    stand = λ port known. (
      fresh_standing (slice_get feeds port),
      fed_fresh (slice_get feeds port) (fresh_at (slice_get feeds port) (fresh port)),
    );
  }
