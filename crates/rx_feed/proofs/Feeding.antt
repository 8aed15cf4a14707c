-- A feed stays the same, and its frames come to an end.
use Rattle.std.proofs.Common.{◌≡◌, ◌∙◌, sym, ap, subst, refl, ℕ, ◌+◌, ◌-◌, ◌<◌, ◌≤◌, List, [], ◌∷◌, ◌++◌, length, Option, Some, None, append_assoc, arith}
use Rattle.std.proofs.lemmas.List.{append-nil, length-append}
use Rattle.onvm_base.specs.declared.frame.Frame.{Frame}
use Rattle.rx_feed.specs.Feeds.{IsPulledOf, StaysFeed, most_left, no_standing}
use Rattle.rx_feed.specs.Made.{Making}
use Rattle.rx_feed.specs.Standing.{Standing}
use Rattle.rx_feed.specs.declared.feed.Feed.{Feed}
use Rattle.rx_feed.specs.declared.feed.Feed.TheVariants as feed
use Rattle.rx_feed.proofs.Making.{length-made_frames}

pub stays_refl : {I : Type 0} (name : I → List ℕ) (f : Option (Feed I)) → StaysFeed name f f
stays_refl name None = refl
stays_refl name (Some (feed.Live source)) = (source, refl, refl)
stays_refl name (Some (feed.Made g)) = (g, refl, refl, refl)

pub stays_then : {I : Type 0} (name : I → List ℕ) (a b c : Option (Feed I)) → StaysFeed name a b → StaysFeed name b c
    → StaysFeed name a c
stays_then {I} name None b c first then =
    let P : Option (Feed I) → Type 0 = λ f. StaysFeed name f c in
    subst P first then
stays_then {I} name (Some (feed.Live source)) b c (later, is, named) then =
    let P : Option (Feed I) → Type 0 = λ f. StaysFeed name f c in
    let behind = subst P is then in
    (behind.0, behind.1, behind.2 ∙ named)
stays_then {I} name (Some (feed.Made g)) b c (later, is, seed, count) then =
    let P : Option (Feed I) → Type 0 = λ f. StaysFeed name f c in
    let behind = subst P is then in
    (behind.0, behind.1, behind.2 ∙ seed, behind.3 ∙ count)

pub frames_then : (a b c more : List Frame) (frame : Frame) → b ≡ a ++ more → c ≡ b ++ frame ∷ [] → c ≡ a ++ (more ++ frame ∷ [])
frames_then a b c more frame first then = then ∙ ap (λ t. t ++ frame ∷ []) first ∙ append_assoc a more (frame ∷ [])

-- a frame more was pulled, so fewer are left
pub fewer_left : {I : Type 0} (name : I → List ℕ) (f f' : Option (Feed I)) (s s' : Standing) (frame : Frame) → StaysFeed name f f'
    → IsPulledOf f' s' → s'.pulled ≡ s.pulled ++ frame ∷ [] → most_left f' s' < most_left f s
fewer_left {I} name None f' s s' frame same pulled grew =
    let P : Option (Feed I) → Type 0 = λ x. IsPulledOf x s' in
    let none = ap (λ (t : Standing). length t.pulled) (subst P same pulled) in
    absurd (omega (arith, none, ap (length {A = Frame}) grew, length-append s.pulled (frame ∷ [])))
fewer_left {I} name (Some (feed.Live source)) f' s s' frame (later, is, named) pulled grew =
    let P : Option (Feed I) → Type 0 = λ x. IsPulledOf x s' in
    let left = ap (λ (x : Option (Feed I)). most_left x s') is in
    omega (
      arith,
      left,
      (subst P is pulled).within.few,
      ap (length {A = Frame}) grew,
      length-append s.pulled (frame ∷ []),
    )
fewer_left {I} name (Some (feed.Made g)) f' s s' frame (later, is, seed, count) pulled grew =
    let P : Option (Feed I) → Type 0 = λ x. IsPulledOf x s' in
    let made = subst P is pulled in
    let left = ap (λ (x : Option (Feed I)). most_left x s') is in
    omega (
      arith,
      left,
      count,
      made.2,
      ap (λ (t : Standing). length t.pulled) made.0,
      length-made_frames later.seed later.given,
      ap (length {A = Frame}) grew,
      length-append s.pulled (frame ∷ []),
    )
