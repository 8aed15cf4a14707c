-- The report: which lines it has, and what stands in each.
use Rattle.std.specs.Prelude.{◌≡◌, ℕ, length, ◌+◌, ◌*◌, ◌/◌, ◌%◌, ◌^◌, ◌==◌, Bool, true, false, List, [], ◌∷◌, ◌++◌, Option, Some, None, slice_get, if◌then◌else◌, codes, decimal, count_by, zip, flat_map, filter_map, IsPermutation}
use Rattle.std.specs.List.{enumerate_from, join_by}
use Rattle.std.specs.List.Sorted.{IsNonDecreasingBy, IsStableByKey}
use Rattle.std.specs.Ordering.{nat_cmp}
use Rattle.onvm_base.specs.declared.function.FunctionPlan.{FunctionPlan}
use Rattle.onvm_base.specs.declared.outcome.Why.{Why}
use Rattle.onvm_base.specs.declared.outcome.Why.TheVariants.{Asked, ChainEnd, NoService, NoPort, Hops}
use Rattle.onvm_base.specs.declared.outcome.Outcome.{Outcome}
use Rattle.onvm_base.specs.declared.outcome.Outcome.TheVariants.{Sent, Dropped, Throttled, RingFull, PoolEmpty}
use Rattle.onvm_base.specs.declared.outcome.Record.{Record}
use Rattle.onvm_base.specs.declared.ids.RingId.{RingId}
use Rattle.onvm_base.specs.declared.ids.RingId.TheVariants.{Lane, Output, Mail}
use Rattle.onvm_base.specs.declared.post.Post.{Post}
use Rattle.load_estimate.specs.declared.tick.Share.{Share}
use Rattle.load_estimate.specs.declared.tick.TickLine.{TickLine}
use Rattle.load_estimate.specs.declared.tick.Tick.{Tick}
use Rattle.onvm_report.specs.declared.tally.Tally.{Tally}
use Rattle.onvm_report.specs.declared.options.Options.{Options}
use Rattle.onvm_report.specs.declared.printed.Printed.{Printed}

-- words, a space before each
abbrev pub spaced : List (List ℕ) → List ℕ
spaced words = flat_map (λ word. codes " " ++ word) words

-- a word and others behind it, a space between each, and a line feed
abbrev pub line : List ℕ → List (List ℕ) → List ℕ
line word words = word ++ spaced words ++ 10 ∷ []

-- The summary

-- the outcomes have their lines in this order
abbrev pub row_of : Outcome → ℕ
row_of (Sent port) = 0
row_of (Dropped f Asked) = 1
row_of (Dropped f ChainEnd) = 2
row_of (Dropped f NoService) = 3
row_of (Dropped f NoPort) = 4
row_of (Dropped f Hops) = 5
row_of (Throttled feeder post f) = 6
row_of (RingFull ring) = 7
row_of PoolEmpty = 8

-- the records that are counted in a line
abbrev pub counted : ℕ → List Record → ℕ
counted row records = count_by (λ item. row_of item.outcome == row) records

abbrev pub tally_of : List Record → Tally
tally_of records = record {
  sent = counted 0 records;
  asked = counted 1 records;
  chain_end = counted 2 records;
  no_service = counted 3 records;
  no_port = counted 4 records;
  hops = counted 5 records;
  throttled = counted 6 records;
  ring_full = counted 7 records;
  pool_empty = counted 8 records;
}

abbrev pub count_line : List ℕ → ℕ → List ℕ
count_line word number = line word (decimal number ∷ [])

unfoldable pub drop_lines : Tally → List ℕ
drop_lines tally =
    count_line (codes "asked") tally.asked
    ++ count_line (codes "chain-end") tally.chain_end
    ++ count_line (codes "no-service") tally.no_service
    ++ count_line (codes "no-port") tally.no_port
    ++ count_line (codes "hops") tally.hops

unfoldable pub outcome_lines : Tally → List ℕ
outcome_lines tally =
    count_line (codes "sent") tally.sent
    ++ drop_lines tally
    ++ count_line (codes "throttled") tally.throttled
    ++ count_line (codes "ring-full") tally.ring_full
    ++ count_line (codes "pool-empty") tally.pool_empty

unfoldable pub counter_lines : Printed → List ℕ
counter_lines printed =
    count_line (codes "posts") (length printed.posts.now)
    ++ count_line (codes "ticks") (length printed.ticks.now)
    ++ count_line (codes "lost") printed.lost
    ++ count_line (codes "yields") printed.yields

unfoldable pub summary : Printed → List ℕ
summary printed =
    count_line (codes "frames") printed.frames
    ++ outcome_lines (tally_of printed.records.now)
    ++ counter_lines printed

-- Records

abbrev pub name_in : Option FunctionPlan → List ℕ
name_in (Some function) = function.name
name_in None = []

-- a function's name; of a number that no function has, nothing
abbrev pub name_of : List FunctionPlan → ℕ → List ℕ
name_of functions f = name_in (slice_get functions f)

abbrev pub cause_of : Why → List ℕ
cause_of Asked = codes "asked"
cause_of ChainEnd = codes "chain-end"
cause_of NoService = codes "no-service"
cause_of NoPort = codes "no-port"
cause_of Hops = codes "hops"

-- a record names a lane where a ring was full; of another ring its function is told
abbrev pub ring_words : List FunctionPlan → RingId → List (List ℕ)
ring_words functions (Lane f feeder) = name_of functions f.0 ∷ decimal feeder ∷ []
ring_words functions (Output f) = name_of functions f.0 ∷ []
ring_words functions (Mail f) = name_of functions f.0 ∷ []

abbrev pub outcome_words : List FunctionPlan → Outcome → List (List ℕ)
outcome_words functions (Sent port) = codes "sent" ∷ decimal port ∷ []
outcome_words functions (Dropped f why) = codes "dropped" ∷ name_of functions f.0 ∷ cause_of why ∷ []
outcome_words functions (Throttled feeder post f) =
    codes "throttled" ∷ decimal feeder ∷ decimal post ∷ name_of functions f.0 ∷ []
outcome_words functions (RingFull ring) = codes "ring-full" ∷ ring_words functions ring
outcome_words functions PoolEmpty = codes "pool-empty" ∷ []

unfoldable pub record_line : List FunctionPlan → Record → List ℕ
record_line functions item =
    line (codes "record") (decimal item.frame.port.0 ∷ decimal item.frame.number
    ∷ outcome_words functions item.outcome)

-- Posts

-- the names of the functions that have their bit among these
abbrev pub names_among : List FunctionPlan → ℕ → List (List ℕ)
names_among functions bits =
    filter_map (λ item. if bits / 2 ^ item.0 % 2 == 1 then Some item.1.name else None) (enumerate_from 0 functions)

abbrev pub with_commas : List (List ℕ) → List ℕ
with_commas [] = codes "-"
with_commas (name ∷ names) = join_by (λ name. name) (codes ",") (name ∷ names)

unfoldable pub post_line : List FunctionPlan → Post → List ℕ
post_line functions post =
    line (codes "post") (decimal post.feeder ∷ decimal post.number ∷ decimal post.moment
    ∷ with_commas (names_among functions post.bits) ∷ [])

-- Ticks

abbrev pub median_word : Option ℕ → List ℕ
median_word None = codes "-"
median_word (Some median) = decimal median

abbrev pub share_word : Option Share → List ℕ
share_word None = codes "-"
share_word (Some share) = decimal share.num ++ codes "/" ++ decimal share.den

unfoldable pub share_line : FunctionPlan × TickLine → List ℕ
share_line item =
    line (codes "share") (item.0.name ∷ decimal item.1.arrivals ∷ median_word item.1.median
    ∷ decimal item.0.priority ∷ share_word item.1.share ∷ decimal item.1.weight ∷ [])

abbrev pub tick_lines : List FunctionPlan → Tick → List ℕ
tick_lines functions tick =
    line (codes "tick") (decimal tick.number ∷ decimal tick.moment ∷ [])
    ++ flat_map share_line (zip functions tick.lines)

-- The whole

-- the same items, ordered by their keys; those of one key keep their order
pub record AreOrdered {X : Type 0} (key : X → ℕ) (given ordered : List X) : Type 0 where
  pub same : IsPermutation given ordered
  pub rising : IsNonDecreasingBy key ordered
  pub stable : IsStableByKey key nat_cmp given ordered

-- frames by port, then by number
abbrev pub record_key : Record → ℕ
record_key item = item.frame.port.0 * 2 ^ 32 + item.frame.number

-- posts by feeder, then by number
abbrev pub post_key : Post → ℕ
post_key post = post.feeder * 2 ^ 32 + post.number

-- a line for each item, in the order of their keys
pub record AreLines {X : Type 0} (key : X → ℕ) (line_of : X → List ℕ) (items : List X) (text : List ℕ) : Type 0 where
  pub ordered : List X
  pub are_ordered : AreOrdered key items ordered
  pub is : text ≡ flat_map line_of ordered

-- the text is longer by such a part
pub record IsLongerBy (Is : List ℕ → Type 0) (before after : List ℕ) : Type 0 where
  pub part : List ℕ
  pub part_is : Is part
  pub is : after ≡ before ++ part

-- a part of the text that is there where it is asked for
abbrev pub WhereAsked : Bool → (List ℕ → Type 0) → List ℕ → Type 0
WhereAsked true Is text = Is text
WhereAsked false Is text = text ≡ []

pub record IsReport (functions : List FunctionPlan) (printed : Printed) (options : Options) (text : List ℕ) : Type 0 where
  pub records : List ℕ
  pub posts : List ℕ
  pub shares : List ℕ
  pub records_are : WhereAsked options.records (AreLines record_key (record_line functions) printed.records.now) records
  pub posts_are : WhereAsked options.throttle_log (AreLines post_key (post_line functions) printed.posts.now) posts
  pub shares_are : WhereAsked options.shares (λ text. text ≡ flat_map (tick_lines functions) printed.ticks.now) shares
  pub is : text ≡ summary printed ++ records ++ posts ++ shares
