-- Captures that were replayed: what their ports stand for, and how their inputs were shut.
use Rattle.std.proofs.Common.{◌≡◌, ℕ, suc, ◌+◌, ◌<◌, ◌≤◌, arith, Bool, true, List, [], ◌∷◌, ◌++◌, length, refl, sym, ◌∙◌, ap, subst, Some, None, Option, Bor, inl, inr, All}
use Rattle.std.specs.Prelude.{if◌then◌else◌, slice_get}
use Rattle.std.specs.Io.KnownBytes.{Consumes, IsAtEnd}
use Rattle.std.proofs.lemmas.Bool.{cases_lt, ne_eqb}
use Rattle.std.proofs.lemmas.List.{append_assoc}
use Rattle.std.proofs.lemmas.Option.{get_or_from_slice_get}
use Rattle.onvm_base.specs.declared.frame.Frame.{Frame}
use Rattle.onvm_base.specs.declared.ids.PortId.{PortId}
use Rattle.onvm_base.specs.declared.limits.TheConstants.{MAX_PORT_FRAMES}
use Rattle.onvm_base.specs.declared.plan.Plan.{Plan}
use Rattle.onvm_core.specs.declared.entry.Entry.{Entry}
use Rattle.onvm_core.specs.Logs.{Setting, entries_of_port}
use Rattle.onvm_host.specs.Deeds.{Amounts, Deed, Shut}
use Rattle.onvm_host.specs.Files.{Entries}
use Rattle.onvm_promises.specs.Entries.{IsRunOf, entries_from}
use Rattle.rx_feed.specs.Feeds.{IsFreshFeed, no_standing}
use Rattle.rx_feed.specs.Made.{Making, made_frames}
use Rattle.rx_feed.specs.Standing.{Standing}
use Rattle.rx_feed.specs.declared.fault.FeedFault.{FeedFault}
use Rattle.rx_feed.specs.declared.feed.Feed.{Feed}
use Rattle.rx_feed.specs.declared.feed.Feed.TheVariants.{Live, Made}
use Rattle.rx_feed.proofs.Stopping.{whole_capture}
use Rattle.onvm_session.specs.RoleStates.{IsFedBy}
use Rattle.onvm_session.specs.Rooms.{AreFresh}
use Rattle.onvm_session.specs.Runs.{AreHandedBack}
use Rattle.onvm_session.proofs.Growing.{got_below, got_none, got_some}
use Rattle.command_words.specs.Commands.{IsCapture}
use Rattle.command_words.specs.declared.capture.CaptureWord.{CaptureWord}
use Rattle.command_words.specs.declared.capture.CaptureWord.TheVariants.{File, Generated}
use Rattle.onvm_top.specs.Calls.{Adds, BringsTo, Opens, ReadsTo, Shuts}
use Rattle.onvm_top.specs.Captures.{AreFramesOf}
use Rattle.onvm_top.specs.Inputs.{AreFeedsOf, IsFeedOf, shuts_of}

-- Ports behind those of the plan

none_of_port : (ports port : ℕ) (es : List Entry) → All (λ e. e.frame.port.0 < ports) es → ports ≤ port
    → entries_of_port port es ≡ []
none_of_port ports port [] all past = refl
none_of_port ports port (e ∷ es) all past =
    let less = all 0 e (omega arith) in
    ap (λ (b : Bool). if b then e ∷ entries_of_port port es else entries_of_port port es)
    (ne_eqb e.frame.port.0 port (λ is. absurd (omega (arith, is, less, past))))
    ∙ none_of_port ports port es (λ k d below. all (suc k) d (omega (arith, below))) past

no_entry : (plan : Plan) (port : PortId) (done : ℕ) (frames : List Frame) → entries_from plan port done frames ≡ []
    → frames ≡ []
no_entry plan port done [] none = refl
no_entry plan port done (frame ∷ frames) none = absurd (cc none)

-- they have no frame in a run of the plan
pub no_frames : (plan : Plan) (frames : ℕ → List Frame) (setting : Setting) (port : ℕ) → IsRunOf plan frames setting
    → plan.ports ≤ port → frames port ≡ []
no_frames plan frames setting port run past =
    let layout = run.setting_is.layout.ports ∙ ap (λ (p : Plan). p.ports) run.plan_is in
    let none = none_of_port setting.layout.ports port setting.entries run.setting_is.ports
    (omega (arith, layout, past)) in
    no_entry plan (record { 0 = port }) 0 (frames port) (sym (run.enter port) ∙ none)

-- Standings of all ports

-- what each port below has, a function of ports has
pub stand_all : (n : ℕ) (P : ℕ → Standing → Type 0) → ((port : ℕ) → port < n → (s : Standing) × P port s)
    → (port : ℕ) → (s : Standing) × (port < n → P port s)
stand_all n P each port = elim (cases_lt port n) [
  | inl below ↦ let at = each port below in (at.0, λ less. at.1)
  | inr past ↦ (no_standing, λ less. absurd (omega (arith, less, past)))
]

-- what a port, those below and those above have, each has
pub three_ways : (n told : ℕ) (P : ℕ → Standing → Type 0) (Q R : Standing → Type 0)
    → ((s : Standing) × P told s × Q s)
    → ((port : ℕ) → port < told → (s : Standing) × P port s × R s)
    → ((port : ℕ) → port < n → (s : Standing) × P port s)
    → (port : ℕ) → port < n → (s : Standing) × (P port s × (port ≡ told → Q s) × (port < told → R s))
three_ways n told P Q R here lower others port known = elim (cases_lt port told) [
  | inl below ↦
      let at = lower port below in
      (at.0, (at.1, λ is. absurd (omega (arith, is, below)), λ less. at.2))
  | inr from ↦ elim (cases_lt told port) [
    | inl above ↦
        let at = others port known in
        (at.0, (at.1, λ is. absurd (omega (arith, is, above)), λ less. absurd (omega (arith, less, above))))
    | inr upto ↦
        let same : told ≡ port = omega (arith, from, upto) in
        (here.0, (subst (λ (k : ℕ). P k here.0) same here.1, λ is. here.2, λ less. absurd (omega (arith, less, from))))
  ]
]

-- what is left of a told text
told_rest : (left : Option (List ℕ)) (text taken : List ℕ) → Consumes (Some text) left taken
    → (more : List ℕ) × (left ≡ Some more) × (text ≡ taken ++ more)
told_rest None text taken is = absurd is
told_rest (Some more) text taken is = (more, refl, is)

module _ {I : Type 0} (name_of : I → List ℕ) (left_of : I → Option (List ℕ)) (takes_of : I → Amounts)
    (told : Option Entries) where
  fresh_one : (capture : CaptureWord) (feed : Feed I) → IsFeedOf name_of left_of takes_of told capture feed
      → IsCapture capture → IsFreshFeed (Some feed)
  fresh_one (File name) (Live input) is known = tt
  fresh_one (File name) (Made generator) is known = absurd is
  fresh_one (Generated seed count) (Live input) is known = absurd is
  fresh_one (Generated seed count) (Made generator) is known = (
    ap (λ (g : Making). g.given) is,
    subst (λ (n : ℕ). n ≤ MAX_PORT_FRAMES) (sym (ap (λ (g : Making). g.count) is)) known.1,
  )

  -- the feeds of captures are fresh
  pub fresh_feeds : (captures : List CaptureWord) (feeds : List (Feed I))
      → AreFeedsOf name_of left_of takes_of told captures feeds → All IsCapture captures → AreFresh feeds
  fresh_feeds captures feeds are known port feed found =
      let below = got_below feeds port feed found in
      let many = are.many in
      let at = got_some captures port (omega (arith, below, many)) in
      fresh_one at.0 feed (are.each port at.0 feed at.1 found)
      (subst IsCapture (get_or_from_slice_get captures port at.0 at.0 at.1)
      (known port at.0 (omega (arith, below, many))))

  -- One port

  abbrev IsFedOne : Option (Feed I) → Option (Feed I) → Standing → Type 0
  IsFedOne = IsFedBy name_of left_of takes_of

  -- the takes of an input brought its port where it stands
  brings : (name : Bor (List ℕ)) (input now : I) (s : Standing)
      → IsFeedOf name_of left_of takes_of told (File name) (Live input) → IsFedOne (Some (Live input)) (Some (Live now)) s
      → BringsTo told s name.now (takes_of now)
  brings name input now s is fed =
      let since = fed.since (left_of input) [] (refl, is.1) in
      record {
        stands = fed.pulled;
        earlier = since.earlier;
        in_order = since.calls;
        moved = since.moved;
        file = λ files known.
            let opened = is.2 files known in
            let all = fed.since (Some opened.0) [] (opened.2, is.1) in
            let rest = told_rest (left_of now) opened.0 s.taken all.consumed in
            (rest.0, opened.1 ∙ ap Some rest.2, λ complete. subst IsAtEnd rest.1 (all.at_end complete));
      }

  -- a file that was read to its end is a capture of what was pulled
  good_file : (name : Bor (List ℕ)) (input : I) (back : Option (Feed I)) (s : Standing)
      → IsFeedOf name_of left_of takes_of told (File name) (Live input) → IsFedOne (Some (Live input)) back s
      → s.ended ≡ true → AreFramesOf told (Some (File name)) s.pulled
  good_file name input None s is fed ended = absurd (cc fed.stays.1)
  good_file name input (Some (Made generator)) s is fed ended = absurd (cc fed.stays.1)
  good_file name input (Some (Live now)) s is fed ended = (
    fed.pulled.within,
    λ files known.
        let opened = is.2 files known in
        record {
          text = opened.0;
          file = opened.1;
          is_capture = whole_capture (left_of now) [] (takes_of now) s opened.0 fed.pulled
              (fed.since (Some opened.0) [] (opened.2, is.1)) ended;
          within = fed.pulled.within;
        },
  )

  -- of a generator all its frames were pulled
  good_made : (seed count : ℕ) (generator : Making) (back : Option (Feed I)) (s : Standing)
      → IsFeedOf name_of left_of takes_of told (Generated seed count) (Made generator)
      → IsFedOne (Some (Made generator)) back s → s.ended ≡ true → s.pulled ≡ made_frames seed count
  good_made seed count generator None s is fed ended = absurd (cc fed.stays.1)
  good_made seed count generator (Some (Live now)) s is fed ended = absurd (cc fed.stays.1)
  good_made seed count generator (Some (Made now)) s is fed ended =
      let later = fed.stays.0 in
      let same : now ≡ later = cc fed.stays.1 in
      let of_seed : now.seed ≡ seed =
      ap (λ (g : Making). g.seed) same ∙ fed.stays.2 ∙ ap (λ (g : Making). g.seed) is in
      let of_count : now.given ≡ count =
      fed.pulled.1 ended ∙ ap (λ (g : Making). g.count) same ∙ fed.stays.3 ∙ ap (λ (g : Making). g.count) is in
      ap (λ (t : Standing). t.pulled) fed.pulled.0
      ∙ ap (λ (n : ℕ). made_frames n now.given) of_seed ∙ ap (made_frames seed) of_count

  good_one : (capture : CaptureWord) (feed : Feed I) (back : Option (Feed I)) (s : Standing)
      → IsFeedOf name_of left_of takes_of told capture feed → IsFedOne (Some feed) back s → s.ended ≡ true
      → AreFramesOf told (Some capture) s.pulled
  good_one (File name) (Live input) back s is fed ended = good_file name input back s is fed ended
  good_one (File name) (Made generator) back s is fed ended = absurd is
  good_one (Generated seed count) (Live input) back s is fed ended = absurd is
  good_one (Generated seed count) (Made generator) back s is fed ended =
      good_made seed count generator back s is fed ended

  -- a port without a feed has nothing
  alone : (back : Option (Feed I)) (s : Standing) → IsFedOne None back s → s ≡ no_standing
  alone None s fed = fed.pulled
  alone (Some feed) s fed = absurd (cc fed.stays)

  -- only a file has a fault
  made_fault : (generator : Making) (back : Option (Feed I)) (s : Standing) → IsFedOne (Some (Made generator)) back s
      → s.fault ≡ None
  made_fault generator None s fed = absurd (cc fed.stays.1)
  made_fault generator (Some (Live now)) s fed = absurd (cc fed.stays.1)
  made_fault generator (Some (Made now)) s fed = ap (λ (t : Standing). t.fault) fed.pulled.0

  faulty_one : (capture : CaptureWord) (feed : Feed I) (back : Option (Feed I)) (s : Standing) (cause : FeedFault)
      → IsFeedOf name_of left_of takes_of told capture feed → IsFedOne (Some feed) back s → s.fault ≡ Some cause
      → (name : Bor (List ℕ)) × (capture ≡ File name)
  faulty_one (File name) feed back s cause is fed fault = (name, refl)
  faulty_one (Generated seed count) (Live input) back s cause is fed fault = absurd is
  faulty_one (Generated seed count) (Made generator) back s cause is fed fault =
      let none = made_fault generator back s fed in absurd (cc (none, fault))

  -- All ports

  module _ (captures : List CaptureWord) (feeds back : List (Feed I))
      (are : AreFeedsOf name_of left_of takes_of told captures feeds) where
    abbrev StandsAt : ℕ → Standing → Type 0
    StandsAt port s = IsFedOne (slice_get feeds port) (slice_get back port) s

    -- a port that stands at its end has the frames of its capture
    pub frames_at : (port : ℕ) (s : Standing) → StandsAt port s → s.ended ≡ true
        → AreFramesOf told (slice_get captures port) s.pulled
    frames_at port s stands ended = elim (cases_lt port (length captures)) [
      | inl below ↦
          let many = are.many in
          let capture = got_some captures port below in
          let feed = got_some feeds port (omega (arith, below, many)) in
          subst (λ (c : Option CaptureWord). AreFramesOf told c s.pulled) (sym capture.1)
          (good_one capture.0 feed.0 (slice_get back port) s (are.each port capture.0 feed.0 capture.1 feed.1)
          (subst (λ (f : Option (Feed I)). IsFedOne f (slice_get back port) s) feed.1 stands) ended)
      | inr past ↦
          let many = are.many in
          let none = got_none feeds port (omega (arith, past, many)) in
          let same = alone (slice_get back port) s
          (subst (λ (f : Option (Feed I)). IsFedOne f (slice_get back port) s) none stands) in
          subst (λ (c : Option CaptureWord). AreFramesOf told c s.pulled) (sym (got_none captures port past))
          (ap (λ (t : Standing). t.pulled) same)
    ]

    -- a port that has a fault reads a file
    pub file_at : (port : ℕ) (s : Standing) (cause : FeedFault) → StandsAt port s → s.fault ≡ Some cause
        → (name : Bor (List ℕ)) × (slice_get captures port ≡ Some (File name))
    file_at port s cause stands fault = elim (cases_lt port (length captures)) [
      | inl below ↦
          let many = are.many in
          let capture = got_some captures port below in
          let feed = got_some feeds port (omega (arith, below, many)) in
          let file = faulty_one capture.0 feed.0 (slice_get back port) s cause
          (are.each port capture.0 feed.0 capture.1 feed.1)
          (subst (λ (f : Option (Feed I)). IsFedOne f (slice_get back port) s) feed.1 stands) fault in
          (file.0, capture.1 ∙ ap Some file.1)
      | inr past ↦
          let many = are.many in
          let none = got_none feeds port (omega (arith, past, many)) in
          let same = alone (slice_get back port) s
          (subst (λ (f : Option (Feed I)). IsFedOne f (slice_get back port) s) none stands) in
          let no_fault : s.fault ≡ None = ap (λ (t : Standing). t.fault) same in
          absurd (cc (no_fault, fault))
    ]

  -- Shutting

  module _ (standings : ℕ → Standing) where
    abbrev Brings : ℕ → List ℕ → Amounts → Type 0
    Brings port = BringsTo told (standings port)

    -- the feeds from this port on
    record AreFed (from : ℕ) (captures : List CaptureWord) (feeds back : List (Feed I)) : Type 0 where
      are : AreFeedsOf name_of left_of takes_of told captures feeds
      many : length back ≡ length feeds
      fed : (k : ℕ) → k < length captures → IsFedOne (slice_get feeds k) (slice_get back k) (standings (from + k))

    later_fed : (from : ℕ) (c : CaptureWord) (captures : List CaptureWord) (f : Feed I) (feeds : List (Feed I)) (b : Feed I)
        (back : List (Feed I)) → AreFed from (c ∷ captures) (f ∷ feeds) (b ∷ back)
        → AreFed (from + 1) captures feeds back
    later_fed from c captures f feeds b back fed =
        let first = fed.are.many in
        let second = fed.many in
        record {
          are = record {
            many = omega (arith, first);
            each = λ port capture feed at with. fed.are.each (suc port) capture feed at with;
          };
          many = omega (arith, second);
          fed = λ k below.
              subst (λ (n : ℕ). IsFedOne (slice_get feeds k) (slice_get back k) (standings n)) (omega arith)
              (fed.fed (suc k) (omega (arith, below)));
        }

    first_fed : (from : ℕ) (c : CaptureWord) (captures : List CaptureWord) (f : Feed I) (feeds : List (Feed I)) (b : Feed I)
        (back : List (Feed I)) → AreFed from (c ∷ captures) (f ∷ feeds) (b ∷ back)
        → IsFeedOf name_of left_of takes_of told c f × IsFedOne (Some f) (Some b) (standings from)
    first_fed from c captures f feeds b back fed = (
      fed.are.each 0 c f refl refl,
      subst (λ (n : ℕ). IsFedOne (Some f) (Some b) (standings n)) (omega arith) (fed.fed 0 (omega arith)),
    )

    shuts_file : (from : ℕ) (name : Bor (List ℕ)) (captures : List CaptureWord) (input : I) (b : Feed I)
        (back : List (Feed I)) → IsFeedOf name_of left_of takes_of told (File name) (Live input)
        → IsFedOne (Some (Live input)) (Some b) (standings from)
        → Shuts Brings (from + 1) captures (shuts_of name_of left_of takes_of back)
        → Shuts Brings from (File name ∷ captures) (shuts_of name_of left_of takes_of (b ∷ back))
    shuts_file from name captures input (Made generator) back is fed rest = absurd (cc fed.stays.1)
    shuts_file from name captures input (Live now) back is fed rest =
        let same : now ≡ fed.stays.0 = cc fed.stays.1 in (
          takes_of now,
          shuts_of name_of left_of takes_of back,
          ap (λ n. Shut n (takes_of now) ∷ shuts_of name_of left_of takes_of back)
              (ap name_of same ∙ fed.stays.2 ∙ is.0),
          brings name input now (standings from) is fed,
          rest,
        )

    shuts_made : (from seed count : ℕ) (captures : List CaptureWord) (generator : Making) (b : Feed I)
        (back : List (Feed I)) → IsFedOne (Some (Made generator)) (Some b) (standings from)
        → Shuts Brings (from + 1) captures (shuts_of name_of left_of takes_of back)
        → Shuts Brings from (Generated seed count ∷ captures) (shuts_of name_of left_of takes_of (b ∷ back))
    shuts_made from seed count captures generator (Live now) back fed rest = absurd (cc fed.stays.1)
    shuts_made from seed count captures generator (Made now) back fed rest = rest

    shuts_fed : (from : ℕ) (captures : List CaptureWord) (feeds back : List (Feed I)) → AreFed from captures feeds back
        → Shuts Brings from captures (shuts_of name_of left_of takes_of back)
    shuts_fed from [] [] [] fed = refl
    shuts_fed from [] [] (b ∷ back) fed = (let many = fed.many in absurd (omega (arith, many)))
    shuts_fed from [] (f ∷ feeds) back fed = (let many = fed.are.many in absurd (omega (arith, many)))
    shuts_fed from (c ∷ captures) [] back fed = (let many = fed.are.many in absurd (omega (arith, many)))
    shuts_fed from (c ∷ captures) (f ∷ feeds) [] fed = (let many = fed.many in absurd (omega (arith, many)))
    shuts_fed from (File name ∷ captures) (Live input ∷ feeds) (b ∷ back) fed =
        let first = first_fed from (File name) captures (Live input) feeds b back fed in
        shuts_file from name captures input b back first.0 first.1
        (shuts_fed (from + 1) captures feeds back
        (later_fed from (File name) captures (Live input) feeds b back fed))
    shuts_fed from (File name ∷ captures) (Made generator ∷ feeds) (b ∷ back) fed =
        absurd (first_fed from (File name) captures (Made generator) feeds b back fed).0
    shuts_fed from (Generated seed count ∷ captures) (Live input ∷ feeds) (b ∷ back) fed =
        absurd (first_fed from (Generated seed count) captures (Live input) feeds b back fed).0
    shuts_fed from (Generated seed count ∷ captures) (Made generator ∷ feeds) (b ∷ back) fed =
        let first = first_fed from (Generated seed count) captures (Made generator) feeds b back fed in
        shuts_made from seed count captures generator b back first.1
        (shuts_fed (from + 1) captures feeds back
        (later_fed from (Generated seed count) captures (Made generator) feeds b back fed))

    -- the captures were opened, read until their ports stood so, and shut
    pub reads_to : (start mid last : List Deed) (captures : List CaptureWord) (feeds back : List (Feed I))
        → AreFeedsOf name_of left_of takes_of told captures feeds → AreHandedBack name_of feeds back
        → ((port : ℕ) → port < length captures → IsFedOne (slice_get feeds port) (slice_get back port) (standings port))
        → Adds start mid (Opens captures) → last ≡ mid ++ shuts_of name_of left_of takes_of back
        → Adds start last (ReadsTo told standings captures)
    reads_to start mid last captures feeds back are handed stand opened shut =
        let shuts = shuts_of name_of left_of takes_of back in (
          opened.0 ++ shuts,
          shut ∙ ap (λ ds. ds ++ shuts) opened.1 ∙ append_assoc start opened.0 shuts,
          (
            opened.0,
            shuts,
            refl,
            opened.2,
            shuts_fed 0 captures feeds back (record {
              are = are;
              many = handed.many;
              fed = λ k below.
                  subst (λ (n : ℕ). IsFedOne (slice_get feeds k) (slice_get back k) (standings n)) (omega arith)
                  (stand k below);
            }),
          ),
        )
