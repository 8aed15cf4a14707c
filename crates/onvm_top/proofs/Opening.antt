-- Captures and their feeds, side by side: how they are opened and shut.
use Rattle.std.proofs.Common.{◌≡◌, ℕ, zero, suc, ◌<◌, arith, take, drop, slice_index_or, List, [], ◌∷◌, ◌++◌, length, map, refl, sym, ◌∙◌, ap, subst, Some, Option, Ok, Err, Bor, inl, inr}
use Rattle.std.specs.Prelude.{slice_get}
use Rattle.std.proofs.lemmas.List.{append-nil, append_assoc, map-append}
use Rattle.onvm_base.specs.declared.ids.PortId.{PortId}
use Rattle.onvm_host.specs.Deeds.{Amounts, Deed, Opened, OpenFailed, Shut}
use Rattle.onvm_host.specs.Files.{Entries}
use Rattle.onvm_host.specs.Names.{SameNames}
use Rattle.onvm_host.specs.declared.fault.HostFault.{HostFault}
use Rattle.onvm_host.specs.declared.fault.HostFault.TheVariants.{Failed, Memory}
use Rattle.onvm_session.proofs.Growing.{some_inj}
use Rattle.rx_feed.specs.Made.{Making}
use Rattle.rx_feed.specs.declared.feed.Feed.{Feed}
use Rattle.rx_feed.specs.declared.feed.Feed.TheVariants.{Live, Made}
use Rattle.command_words.specs.declared.capture.CaptureWord.{CaptureWord}
use Rattle.command_words.specs.declared.capture.CaptureWord.TheVariants.{File, Generated}
use Rattle.onvm_top.specs.Calls.{Adds, names_in}
use Rattle.onvm_top.specs.Fault.{unless_memory}
use Rattle.onvm_top.specs.Inputs.{AreFeedsOf, IsFeedOf, StopsAtOpens, opens_of, shuts_of}
use Rattle.onvm_top.specs.declared.fault.Fault.TheVariants.{ReadCapture}

-- names that are the same twice
pub names_later : (opens creates opens' creates' opens'' creates'' : List ℕ → Type 0)
    → SameNames opens creates opens' creates' → SameNames opens' creates' opens'' creates''
    → SameNames opens creates opens'' creates''
names_later opens creates opens' creates' opens'' creates'' first later = record {
  still_opens = λ name may. later.still_opens name (first.still_opens name may);
  opened_before = λ name may. first.opened_before name (later.opened_before name may);
  still_creates = λ name may. later.still_creates name (first.still_creates name may);
  created_before = λ name may. first.created_before name (later.created_before name may);
}

-- Places

pub only_one : {A : Type 0} (x y : A) (at : ℕ) → slice_get (x ∷ []) at ≡ Some y → x ≡ y
only_one x y zero found = some_inj x y found
only_one x y (suc at) found = absurd (cc found)

-- what stands before a place, there and behind it
pub split_at : {A : Type 0} (xs : List A) (at : ℕ) (d : A) → at < length xs
    → xs ≡ take at xs ++ slice_index_or xs at d ∷ drop (suc at) xs
split_at [] at d less = absurd (omega (arith, less))
split_at (x ∷ xs) zero d less = refl
split_at (x ∷ xs) (suc at) d less = ap (λ ys. x ∷ ys) (split_at xs at d (omega (arith, less)))

-- Opening and shutting

pub names_append : (xs ys : List CaptureWord) → names_in (xs ++ ys) ≡ names_in xs ++ names_in ys
names_append [] ys = refl
names_append (File name ∷ xs) ys = ap (λ names. name.now ∷ names) (names_append xs ys)
names_append (Generated seed count ∷ xs) ys = names_append xs ys

one_opened : {T : Type 0} (capture : CaptureWord) (end : T)
    → map Opened (names_in (capture ∷ [])) ≡ opens_of capture (Ok end)
one_opened (File name) end = refl
one_opened (Generated seed count) end = refl

-- one capture more was opened
pub opened_more : {T : Type 0} (start now next : List Deed) (before after : List CaptureWord) (capture : CaptureWord) (end : T)
    → now ≡ start ++ map Opened (names_in before) → next ≡ now ++ opens_of capture (Ok end)
    → after ≡ before ++ capture ∷ []
    → next ≡ start ++ map Opened (names_in after)
opened_more start now next before after capture end is more grown =
    more ∙ ap (λ ds. ds ++ opens_of capture (Ok end)) is
    ∙ append_assoc start (map Opened (names_in before)) (opens_of capture (Ok end))
    ∙ ap (λ ds. start ++ (map Opened (names_in before) ++ ds)) (sym (one_opened capture end))
    ∙ ap (λ ds. start ++ ds) (sym (map-append Opened (names_in before) (names_in (capture ∷ []))))
    ∙ ap (λ names. start ++ map Opened names) (sym (names_append before (capture ∷ [])))
    ∙ ap (λ cs. start ++ map Opened (names_in cs)) (sym grown)

module _ {I : Type 0} (name_of : I → List ℕ) (left_of : I → Option (List ℕ)) (takes_of : I → Amounts) where
  pub shuts_append : (feeds more : List (Feed I)) → shuts_of name_of left_of takes_of (feeds ++ more)
      ≡ shuts_of name_of left_of takes_of feeds ++ shuts_of name_of left_of takes_of more
  shuts_append [] more = refl
  shuts_append (Live input ∷ feeds) more =
      ap (λ ds. Shut (name_of input) (takes_of input) ∷ ds) (shuts_append feeds more)
  shuts_append (Made generator ∷ feeds) more = shuts_append feeds more

  shut_more : (start now next : List Deed) (feeds : List (Feed I)) (feed : Feed I)
      → now ≡ start ++ shuts_of name_of left_of takes_of feeds
      → next ≡ now ++ shuts_of name_of left_of takes_of (feed ∷ [])
      → next ≡ start ++ shuts_of name_of left_of takes_of (feeds ++ feed ∷ [])
  shut_more start now next feeds feed is more =
      more ∙ ap (λ ds. ds ++ shuts_of name_of left_of takes_of (feed ∷ [])) is
      ∙ append_assoc start (shuts_of name_of left_of takes_of feeds) (shuts_of name_of left_of takes_of (feed ∷ []))
      ∙ ap (λ ds. start ++ ds) (sym (shuts_append feeds (feed ∷ [])))

  -- one input more was shut
  pub shut_live : (start now next : List Deed) (feeds : List (Feed I)) (feed : Feed I) (input : I)
      → feed ≡ Live input → now ≡ start ++ shuts_of name_of left_of takes_of feeds
      → next ≡ now ++ Shut (name_of input) (takes_of input) ∷ []
      → next ≡ start ++ shuts_of name_of left_of takes_of (feeds ++ feed ∷ [])
  shut_live start now next feeds feed input live is told =
      shut_more start now next feeds feed is
      (told ∙ ap (λ (f : Feed I). now ++ shuts_of name_of left_of takes_of (f ∷ [])) (sym live))

  -- of a generator nothing is shut
  pub shut_made : (start now : List Deed) (feeds : List (Feed I)) (feed : Feed I) (generator : Making)
      → feed ≡ Made generator → now ≡ start ++ shuts_of name_of left_of takes_of feeds
      → now ≡ start ++ shuts_of name_of left_of takes_of (feeds ++ feed ∷ [])
  shut_made start now feeds feed generator made is =
      shut_more start now now feeds feed is
      (sym (append-nil now) ∙ ap (λ (f : Feed I). now ++ shuts_of name_of left_of takes_of (f ∷ [])) (sym made))

  module _ (told : Option Entries) where
    -- each feed is that of the capture in its place, and nothing was taken of it
    abbrev pub ArePairs : List CaptureWord → List (Feed I) → Type 0
    ArePairs [] [] = Unit {0}
    ArePairs [] (feed ∷ feeds) = ⊥
    ArePairs (capture ∷ captures) [] = ⊥
    ArePairs (capture ∷ captures) (feed ∷ feeds) =
        IsFeedOf name_of left_of takes_of told capture feed × ArePairs captures feeds

    pub pairs_more : (captures : List CaptureWord) (feeds : List (Feed I)) (capture : CaptureWord) (feed : Feed I)
        → ArePairs captures feeds → IsFeedOf name_of left_of takes_of told capture feed
        → ArePairs (captures ++ capture ∷ []) (feeds ++ feed ∷ [])
    pairs_more [] [] capture feed pairs one = (one, tt)
    pairs_more [] (f ∷ feeds) capture feed pairs one = absurd pairs
    pairs_more (c ∷ captures) [] capture feed pairs one = absurd pairs
    pairs_more (c ∷ captures) (f ∷ feeds) capture feed pairs one =
        (pairs.0, pairs_more captures feeds capture feed pairs.1 one)

    pairs_many : (captures : List CaptureWord) (feeds : List (Feed I)) → ArePairs captures feeds
        → length feeds ≡ length captures
    pairs_many [] [] pairs = refl
    pairs_many [] (f ∷ feeds) pairs = absurd pairs
    pairs_many (c ∷ captures) [] pairs = absurd pairs
    pairs_many (c ∷ captures) (f ∷ feeds) pairs = ap suc (pairs_many captures feeds pairs.1)

    pairs_at : (captures : List CaptureWord) (feeds : List (Feed I)) (port : ℕ) (capture : CaptureWord) (feed : Feed I)
        → ArePairs captures feeds → slice_get captures port ≡ Some capture → slice_get feeds port ≡ Some feed
        → IsFeedOf name_of left_of takes_of told capture feed
    pairs_at [] feeds port capture feed pairs at with = absurd (cc at)
    pairs_at (c ∷ captures) [] port capture feed pairs at with = absurd pairs
    pairs_at (c ∷ captures) (f ∷ feeds) zero capture feed pairs at with =
        subst (λ k. IsFeedOf name_of left_of takes_of told k feed) (some_inj c capture at)
        (subst (λ k. IsFeedOf name_of left_of takes_of told c k) (some_inj f feed with) pairs.0)
    pairs_at (c ∷ captures) (f ∷ feeds) (suc port) capture feed pairs at with =
        pairs_at captures feeds port capture feed pairs.1 at with

    pub pairs_are : (captures : List CaptureWord) (feeds : List (Feed I)) → ArePairs captures feeds
        → AreFeedsOf name_of left_of takes_of told captures feeds
    pairs_are captures feeds pairs = record {
      many = pairs_many captures feeds pairs;
      each = λ port capture feed at with. pairs_at captures feeds port capture feed pairs at with;
    }

    -- shutting them again
    pairs_shut : (captures : List CaptureWord) (feeds : List (Feed I)) → ArePairs captures feeds
        → shuts_of name_of left_of takes_of feeds ≡ map (λ name. Shut name []) (names_in captures)
    pairs_shut [] [] pairs = refl
    pairs_shut [] (f ∷ feeds) pairs = absurd pairs
    pairs_shut (c ∷ captures) [] pairs = absurd pairs
    pairs_shut (File name ∷ captures) (Live input ∷ feeds) pairs =
        ap (λ n. Shut n (takes_of input) ∷ shuts_of name_of left_of takes_of feeds) pairs.0.0
        ∙ ap (λ takes. Shut name.now takes ∷ shuts_of name_of left_of takes_of feeds) pairs.0.1
        ∙ ap (λ ds. Shut name.now [] ∷ ds) (pairs_shut captures feeds pairs.1)
    pairs_shut (File name ∷ captures) (Made generator ∷ feeds) pairs = absurd pairs.0
    pairs_shut (Generated seed count ∷ captures) (Live input ∷ feeds) pairs = absurd pairs.0
    pairs_shut (Generated seed count ∷ captures) (Made generator ∷ feeds) pairs = pairs_shut captures feeds pairs.1

    stops_at : (captures before after : List CaptureWord) (name : Bor (List ℕ)) (feeds : List (Feed I)) (why : HostFault)
        (port : PortId)
        → captures ≡ before ++ File name ∷ after → length before ≡ port.0 → ArePairs before feeds
        → StopsAtOpens captures (map Opened (names_in before)
        ++ (opens_of {T = Feed I} (File name) (Err why) ++ shuts_of name_of left_of takes_of feeds))
        (unless_memory (ReadCapture port) why)
    stops_at captures before after name feeds Failed port split place pairs = inl (
      port,
      refl,
      record {
        before = before;
        name = name;
        after = after;
        split = split;
        place = place;
        calls = (
          map Opened (names_in before),
          OpenFailed name.now ∷ shuts_of name_of left_of takes_of feeds,
          refl,
          refl,
          (shuts_of name_of left_of takes_of feeds, refl, pairs_shut before feeds pairs),
        );
      },
    )
    stops_at captures before after name feeds Memory port split place pairs = inr (
      refl,
      record {
        before = before;
        after = File name ∷ after;
        split = split;
        calls = (
          map Opened (names_in before),
          shuts_of name_of left_of takes_of feeds,
          refl,
          refl,
          pairs_shut before feeds pairs,
        );
      },
    )

    -- the next one could not be opened, and those before it were shut again
    pub stops_opening : (start now failed last : List Deed) (captures before after : List CaptureWord)
        (capture : CaptureWord) (feeds : List (Feed I)) (why : HostFault) (port : PortId)
        → now ≡ start ++ map Opened (names_in before)
        → failed ≡ now ++ opens_of {T = Feed I} capture (Err why)
        → last ≡ failed ++ shuts_of name_of left_of takes_of feeds
        → captures ≡ before ++ capture ∷ after → length before ≡ port.0
        → (name : Bor (List ℕ)) × (capture ≡ File name) → ArePairs before feeds
        → Adds start last (λ deeds. StopsAtOpens captures deeds (unless_memory (ReadCapture port) why))
    stops_opening start now failed last captures before after capture feeds why port is fails shut split place file pairs =
        let name = file.0 in
        let opened = map Opened (names_in before) in
        let refused = opens_of {T = Feed I} (File name) (Err why) in
        let shuts = shuts_of name_of left_of takes_of feeds in
        let named : failed ≡ now ++ refused =
        fails ∙ ap (λ c. now ++ opens_of {T = Feed I} c (Err why)) file.1 in (
          opened ++ (refused ++ shuts),
          shut ∙ ap (λ ds. ds ++ shuts) (named ∙ ap (λ ds. ds ++ refused) is)
              ∙ append_assoc (start ++ opened) refused shuts ∙ append_assoc start opened (refused ++ shuts),
          stops_at captures before after name feeds why port (split ∙ ap (λ c. before ++ c ∷ after) file.1) place pairs,
        )
