-- What roles leave: their feeds, and the lists that they kept.
use Rattle.std.specs.Prelude.{◌≡◌, ◌+◌, true, List, [], ◌∷◌, ◌++◌, option_to_list, vec_capacity}
use Rattle.load_estimate.specs.declared.sample.Sample.{Sample}
use Rattle.load_estimate.specs.declared.tick.Tick.{Tick as TickView}
use Rattle.onvm_promises.specs.Kept.{at_most_64_bits}
use Rattle.rx_feed.specs.declared.feed.Feed.{Feed}
use Rattle.tick_pass.specs.Roles.{logged, ticked}
use Rattle.onvm_session.specs.declared.leaving.Leavings.{Leavings}
use Rattle.onvm_session.specs.declared.role.Role.{Role}
use Rattle.onvm_session.specs.declared.role.Role.TheVariants.{Receive, Send, Handle, Tick}
use Rattle.onvm_session.specs.RoleStates.{feed_of, keeps_of}
use Rattle.onvm_session.specs.Sessions.{Keeps}

-- their feeds, in the order of the roles
abbrev pub feeds_of : {I N : Type 0} → List (Role I N) → List (Feed I)
feeds_of [] = []
feeds_of (role ∷ roles) = option_to_list (feed_of role) ++ feeds_of roles

-- what they kept, role by role
abbrev pub kept_of : {A I N : Type 0} → (Keeps → List A) → List (Role I N) → List A
kept_of part [] = []
kept_of part (role ∷ roles) = part (keeps_of role) ++ kept_of part roles

-- the samples and ticks of a tick role, which are told whole

abbrev pub samples_after : {I N : Type 0} → Role I N → List Sample → List Sample
samples_after (Receive rx) was = was
samples_after (Send tx) was = was
samples_after (Handle core) was = was
samples_after (Tick tick) was = logged tick

abbrev pub ticks_after : {I N : Type 0} → Role I N → List TickView → List TickView
ticks_after (Receive rx) was = was
ticks_after (Send tx) was = was
ticks_after (Handle core) was = was
ticks_after (Tick tick) was = ticked tick

-- a role has left
pub record HasLeft {I N : Type 0} (role : Role I N) (old new : Leavings I) : Type 0 where
  pub feeds : new.feeds.items ≡ old.feeds.items ++ option_to_list (feed_of role)
  pub room : vec_capacity new.feeds ≡ vec_capacity old.feeds
  pub complete : new.complete ≡ true → old.complete ≡ true
  pub records : new.complete ≡ true
      → new.gathered.records.items ≡ old.gathered.records.items ++ (keeps_of role).feeder.outcomes.records
  pub sent : new.complete ≡ true
      → new.gathered.sent.items ≡ old.gathered.sent.items ++ (keeps_of role).feeder.outcomes.sent
  pub posts : new.complete ≡ true
      → new.gathered.posts.items ≡ old.gathered.posts.items ++ (keeps_of role).feeder.posts
  pub yields : new.gathered.yields ≡ at_most_64_bits (old.gathered.yields + (keeps_of role).core.yields)
  pub lost : new.gathered.lost ≡ at_most_64_bits (old.gathered.lost + (keeps_of role).core.lost)
  pub samples : new.samples ≡ samples_after role old.samples
  pub ticks : new.ticks ≡ ticks_after role old.ticks

-- these roles have left, in order
abbrev pub HaveLeft : {I N : Type 0} → List (Role I N) → (old new : Leavings I) → Type 0
HaveLeft [] old new = new ≡ old
HaveLeft {I} (role ∷ roles) old new = (next : Leavings I) × HasLeft role old next × HaveLeft roles next new
