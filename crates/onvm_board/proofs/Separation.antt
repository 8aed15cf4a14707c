-- Two words of a board lie at two places.
use Rattle.std.proofs.Common.{◌≡◌, ◌≢◌, ℕ, zero, suc, ◌+◌, ◌*◌, ◌<◌, ◌≤◌, ◌-◌, true, false, inl, inr, sym, refl, ap, ◌∙◌, subst, arith, mul-le-mul_right, suc-mul, true≢false}
use Rattle.std.proofs.lemmas.Bool.{eq-eqb, cases_order}
use Rattle.onvm_base.specs.declared.ids.RingId.{RingId}
use Rattle.onvm_base.specs.declared.ids.RingId.TheVariants.{Lane, Output, Mail}
use Rattle.onvm_core.specs.declared.layout.Layout.{Layout}
use Rattle.onvm_core.specs.declared.layout.Word.{Word}
use Rattle.onvm_core.specs.declared.layout.Word.TheVariants.{Pool, Cell, Post, Weight}
use Rattle.onvm_base.specs.declared.limits.TheConstants.{MAIL_RING}
use Rattle.onvm_core.specs.Layouts.{IsWord, same_word, feeder_count}
use Rattle.onvm_board.specs.Addresses.{part_words, lanes_at, outputs_at, mails_at, posts_at, weights_at, word_count, address}

-- Grids: row a of n places each, and place b in it

row_before : (a m n : ℕ) → a < m → a * n + n ≤ m * n
row_before a m n less = let rows : suc a * n ≤ m * n = mul-le-mul_right n less in omega (arith, suc-mul a n)

pub grid_below : (a m b n : ℕ) → a < m → b < n → a * n + b < m * n
grid_below a m b n row place =
    let x : ℕ = a * n in
    let y : ℕ = m * n in
    let rows : x + n ≤ y = row_before a m n row in
    let goal : x + b < y = omega arith in goal

row_apart : (a c n b d : ℕ) → a < c → b < n → a * n + b ≢ c * n + d
row_apart a c n b d less place e =
    let x : ℕ = a * n in
    let y : ℕ = c * n in
    let rows : x + n ≤ y = row_before a c n less in
    let same : x + b ≡ y + d = e in
    absurd (omega arith)

-- two places of a grid are one only where row and place are
pub grid_same : (a c n b d : ℕ) → b < n → d < n → a * n + b ≡ c * n + d → (a ≡ c) × (b ≡ d)
grid_same a c n b d place other e =
    elim (cases_order a c) [
      | inl same ↦
          let x : ℕ = a * n in
          let y : ℕ = c * n in
          let rows : x ≡ y = ap (λ k. k * n) same in
          let both : x + b ≡ y + d = e in
          (same, omega arith)
      | inr (inl less) ↦ absurd (row_apart a c n b d less place e)
      | inr (inr more) ↦ absurd (row_apart c a n d b more other (sym e))
    ]

-- Regions

-- the number of the region that a word lies in
abbrev pub ring_region : RingId → ℕ
ring_region (Lane f feeder) = 1
ring_region (Output f) = 2
ring_region (Mail f) = 3

abbrev pub region : Word → ℕ
region (Pool port index) = 0
region (Cell ring at) = ring_region ring
region (Post feeder) = 4
region (Weight f) = 5

-- where a region begins
abbrev pub start : Layout → ℕ → ℕ
start layout zero = 1
start layout (suc zero) = lanes_at layout
start layout (suc (suc zero)) = outputs_at layout
start layout (suc (suc (suc zero))) = mails_at layout
start layout (suc (suc (suc (suc zero)))) = posts_at layout
start layout (suc (suc (suc (suc (suc zero))))) = weights_at layout
start layout (suc (suc (suc (suc (suc (suc n)))))) = word_count layout

-- the regions follow one another
start_next : (layout : Layout) (n : ℕ) → start layout n ≤ start layout (suc n)
unfolding lanes_at outputs_at mails_at posts_at weights_at word_count
start_next layout zero = let x : ℕ = layout.ports * part_words layout in let goal : 1 ≤ 1 + x = omega arith in goal
start_next layout (suc zero) =
    let x : ℕ = layout.functions * feeder_count layout * layout.ring in
    let s : ℕ = 1 + layout.ports * part_words layout in
    let goal : s ≤ s + x = omega arith in goal
start_next layout (suc (suc zero)) =
    let x : ℕ = layout.functions * layout.output in
    let s : ℕ = outputs_at layout in
    let goal : s ≤ s + x = omega arith in goal
start_next layout (suc (suc (suc zero))) =
    let x : ℕ = layout.functions * MAIL_RING in
    let s : ℕ = mails_at layout in
    let goal : s ≤ s + x = omega arith in goal
start_next layout (suc (suc (suc (suc zero)))) =
    let x : ℕ = feeder_count layout in
    let s : ℕ = posts_at layout in
    let goal : s ≤ s + x = omega arith in goal
start_next layout (suc (suc (suc (suc (suc zero))))) =
    let x : ℕ = layout.functions in
    let s : ℕ = weights_at layout in
    let goal : s ≤ s + x = omega arith in goal
start_next layout (suc (suc (suc (suc (suc (suc n)))))) = omega arith

start_more : (layout : Layout) (n k : ℕ) → start layout n ≤ start layout (n + k)
start_more layout n zero =
    let is : n ≡ n + zero = omega arith in
    subst (λ k. start layout n ≤ start layout k) is (omega arith)
start_more layout n (suc k) =
    let is : suc (n + k) ≡ n + suc k = omega arith in
    let both : start layout n ≤ start layout (suc (n + k)) =
    omega (arith, start_more layout n k, start_next layout (n + k)) in
    subst (λ m. start layout n ≤ start layout m) is both

pub start_order : (layout : Layout) (n m : ℕ) → n ≤ m → start layout n ≤ start layout m
start_order layout n m le =
    let all : start layout n ≤ start layout (n + (m - n)) = start_more layout n (m - n) in
    let is : n + (m - n) ≡ m = omega arith in
    subst (λ k. start layout n ≤ start layout k) is all

-- a word lies in its region
pub in_region : (layout : Layout) (word : Word) → IsWord layout word
    → (start layout (region word) ≤ address layout word) × (address layout word < start layout (suc (region word)))
unfolding lanes_at outputs_at mails_at posts_at weights_at word_count
in_region layout (Pool port index) known =
    let w : ℕ = part_words layout in
    let place : index < w = omega (arith, known.1) in
    let below : port.0 * w + index < layout.ports * w = grid_below port.0 layout.ports index w known.0 place in
    let x : ℕ = port.0 * w in
    let y : ℕ = layout.ports * w in
    let less : x + index < y = below in
    let goal : (1 ≤ 1 + (x + index)) × (1 + (x + index) < 1 + y) = (omega arith, omega arith) in goal
in_region layout (Cell (Lane f feeder) at) known =
    let n : ℕ = feeder_count layout in
    let lanes : ℕ = layout.functions * n in
    let lane : f.0 * n + feeder < lanes = grid_below f.0 layout.functions feeder n known.0.0 known.0.1 in
    let row : ℕ = f.0 * n + feeder in
    let below : row * layout.ring + at < lanes * layout.ring = grid_below row lanes at layout.ring lane known.1 in
    let x : ℕ = row * layout.ring in
    let y : ℕ = lanes * layout.ring in
    let s : ℕ = lanes_at layout in
    let less : x + at < y = below in
    let goal : (s ≤ s + (x + at)) × (s + (x + at) < s + y) = (omega arith, omega arith) in goal
in_region layout (Cell (Output f) at) known =
    let below : f.0 * layout.output + at < layout.functions * layout.output =
    grid_below f.0 layout.functions at layout.output known.0 known.1 in
    let x : ℕ = f.0 * layout.output in
    let y : ℕ = layout.functions * layout.output in
    let s : ℕ = outputs_at layout in
    let less : x + at < y = below in
    let goal : (s ≤ s + (x + at)) × (s + (x + at) < s + y) = (omega arith, omega arith) in goal
in_region layout (Cell (Mail f) at) known =
    let below : f.0 * MAIL_RING + at < layout.functions * MAIL_RING =
    grid_below f.0 layout.functions at MAIL_RING known.0 known.1 in
    let x : ℕ = f.0 * MAIL_RING in
    let y : ℕ = layout.functions * MAIL_RING in
    let s : ℕ = mails_at layout in
    let less : x + at < y = below in
    let goal : (s ≤ s + (x + at)) × (s + (x + at) < s + y) = (omega arith, omega arith) in goal
in_region layout (Post feeder) known =
    let s : ℕ = posts_at layout in
    let n : ℕ = feeder_count layout in
    let less : feeder < n = known in
    let goal : (s ≤ s + feeder) × (s + feeder < s + n) = (omega arith, omega arith) in goal
in_region layout (Weight f) known =
    let s : ℕ = weights_at layout in
    let goal : (s ≤ s + f.0) × (s + f.0 < s + layout.functions) = (omega arith, omega arith) in goal

region_below : (word : Word) → region word ≤ 5
region_below (Pool port index) = omega arith
region_below (Cell (Lane f feeder) at) = omega arith
region_below (Cell (Output f) at) = omega arith
region_below (Cell (Mail f) at) = omega arith
region_below (Post feeder) = omega arith
region_below (Weight f) = omega arith

-- a board has the word
pub address_below : (layout : Layout) (word : Word) → IsWord layout word → address layout word < word_count layout
address_below layout word known =
    let within = in_region layout word known in
    let last : start layout (suc (region word)) ≤ start layout 6 =
    start_order layout (suc (region word)) 6 (omega (arith, region_below word)) in
    omega (arith, within.1, last)

region_less : (layout : Layout) (u w : Word) → IsWord layout u → IsWord layout w → region u < region w
    → address layout u < address layout w
region_less layout u w known other less =
    let a = in_region layout u known in
    let b = in_region layout w other in
    let on : start layout (suc (region u)) ≤ start layout (region w) =
    start_order layout (suc (region u)) (region w) less in
    omega (arith, a.1, b.0, on)

-- two words of one region at one place are one
within_region : (layout : Layout) (u w : Word) → IsWord layout u → IsWord layout w → region u ≡ region w
    → address layout u ≡ address layout w → same_word u w ≡ true
within_region layout (Pool p i) (Pool q j) known other same e =
    let n : ℕ = part_words layout in
    let x : ℕ = p.0 * n in
    let y : ℕ = q.0 * n in
    let at : 1 + (x + i) ≡ 1 + (y + j) = e in
    let flat : x + i ≡ y + j = omega arith in
    let both : (p.0 ≡ q.0) × (i ≡ j) =
    grid_same p.0 q.0 n i j (omega (arith, known.1)) (omega (arith, other.1)) flat in
    rw (eq-eqb p.0 q.0 both.0, eq-eqb i j both.1) refl
within_region layout (Pool p i) (Cell (Lane g q) b) known other same e = absurd (omega (arith, same))
within_region layout (Pool p i) (Cell (Output g) b) known other same e = absurd (omega (arith, same))
within_region layout (Pool p i) (Cell (Mail g) b) known other same e = absurd (omega (arith, same))
within_region layout (Pool p i) (Post m) known other same e = absurd (omega (arith, same))
within_region layout (Pool p i) (Weight g) known other same e = absurd (omega (arith, same))
within_region layout (Cell (Lane f p) a) (Pool q j) known other same e = absurd (omega (arith, same))
within_region layout (Cell (Lane f p) a) (Cell (Lane g q) b) known other same e =
    let n : ℕ = feeder_count layout in
    let x : ℕ = (f.0 * n + p) * layout.ring in
    let y : ℕ = (g.0 * n + q) * layout.ring in
    let s : ℕ = lanes_at layout in
    let at : s + (x + a) ≡ s + (y + b) = e in
    let flat : x + a ≡ y + b = omega arith in
    let rows : (f.0 * n + p ≡ g.0 * n + q) × (a ≡ b) =
    grid_same (f.0 * n + p) (g.0 * n + q) layout.ring a b known.1 other.1 flat in
    let both : (f.0 ≡ g.0) × (p ≡ q) = grid_same f.0 g.0 n p q known.0.1 other.0.1 rows.0 in
    rw (eq-eqb f.0 g.0 both.0, eq-eqb p q both.1, eq-eqb a b rows.1) refl
within_region layout (Cell (Lane f p) a) (Cell (Output g) b) known other same e = absurd (omega (arith, same))
within_region layout (Cell (Lane f p) a) (Cell (Mail g) b) known other same e = absurd (omega (arith, same))
within_region layout (Cell (Lane f p) a) (Post m) known other same e = absurd (omega (arith, same))
within_region layout (Cell (Lane f p) a) (Weight g) known other same e = absurd (omega (arith, same))
within_region layout (Cell (Output f) a) (Pool q j) known other same e = absurd (omega (arith, same))
within_region layout (Cell (Output f) a) (Cell (Lane g q) b) known other same e = absurd (omega (arith, same))
within_region layout (Cell (Output f) a) (Cell (Output g) b) known other same e =
    let x : ℕ = f.0 * layout.output in
    let y : ℕ = g.0 * layout.output in
    let s : ℕ = outputs_at layout in
    let at : s + (x + a) ≡ s + (y + b) = e in
    let flat : x + a ≡ y + b = omega arith in
    let both : (f.0 ≡ g.0) × (a ≡ b) = grid_same f.0 g.0 layout.output a b known.1 other.1 flat in
    rw (eq-eqb f.0 g.0 both.0, eq-eqb a b both.1) refl
within_region layout (Cell (Output f) a) (Cell (Mail g) b) known other same e = absurd (omega (arith, same))
within_region layout (Cell (Output f) a) (Post m) known other same e = absurd (omega (arith, same))
within_region layout (Cell (Output f) a) (Weight g) known other same e = absurd (omega (arith, same))
within_region layout (Cell (Mail f) a) (Pool q j) known other same e = absurd (omega (arith, same))
within_region layout (Cell (Mail f) a) (Cell (Lane g q) b) known other same e = absurd (omega (arith, same))
within_region layout (Cell (Mail f) a) (Cell (Output g) b) known other same e = absurd (omega (arith, same))
within_region layout (Cell (Mail f) a) (Cell (Mail g) b) known other same e =
    let x : ℕ = f.0 * MAIL_RING in
    let y : ℕ = g.0 * MAIL_RING in
    let s : ℕ = mails_at layout in
    let at : s + (x + a) ≡ s + (y + b) = e in
    let flat : x + a ≡ y + b = omega arith in
    let both : (f.0 ≡ g.0) × (a ≡ b) = grid_same f.0 g.0 MAIL_RING a b known.1 other.1 flat in
    rw (eq-eqb f.0 g.0 both.0, eq-eqb a b both.1) refl
within_region layout (Cell (Mail f) a) (Post m) known other same e = absurd (omega (arith, same))
within_region layout (Cell (Mail f) a) (Weight g) known other same e = absurd (omega (arith, same))
within_region layout (Post n) (Pool q j) known other same e = absurd (omega (arith, same))
within_region layout (Post n) (Cell (Lane g q) b) known other same e = absurd (omega (arith, same))
within_region layout (Post n) (Cell (Output g) b) known other same e = absurd (omega (arith, same))
within_region layout (Post n) (Cell (Mail g) b) known other same e = absurd (omega (arith, same))
within_region layout (Post n) (Post m) known other same e =
    let s : ℕ = posts_at layout in
    let at : s + n ≡ s + m = e in
    eq-eqb n m (omega arith)
within_region layout (Post n) (Weight g) known other same e = absurd (omega (arith, same))
within_region layout (Weight f) (Pool q j) known other same e = absurd (omega (arith, same))
within_region layout (Weight f) (Cell (Lane g q) b) known other same e = absurd (omega (arith, same))
within_region layout (Weight f) (Cell (Output g) b) known other same e = absurd (omega (arith, same))
within_region layout (Weight f) (Cell (Mail g) b) known other same e = absurd (omega (arith, same))
within_region layout (Weight f) (Post m) known other same e = absurd (omega (arith, same))
within_region layout (Weight f) (Weight g) known other same e =
    let s : ℕ = weights_at layout in
    let at : s + f.0 ≡ s + g.0 = e in
    eq-eqb f.0 g.0 (omega arith)

-- two words at one place are one
pub address_same : (layout : Layout) (u w : Word) → IsWord layout u → IsWord layout w
    → address layout u ≡ address layout w → same_word u w ≡ true
address_same layout u w known other e =
    elim (cases_order (region u) (region w)) [
      | inl same ↦ within_region layout u w known other same e
      | inr (inl less) ↦ absurd (omega (arith, region_less layout u w known other less, e))
      | inr (inr more) ↦ absurd (omega (arith, region_less layout w u other known more, e))
    ]

-- two words lie at two places
pub address_apart : (layout : Layout) (u w : Word) → IsWord layout u → IsWord layout w → same_word u w ≡ false
    → address layout u ≢ address layout w
address_apart layout u w known other apart e = true≢false (sym (address_same layout u w known other e) ∙ apart)

-- word 0 is none of them
pub address_above : (layout : Layout) (word : Word) → IsWord layout word → 1 ≤ address layout word
address_above layout word known =
    let first : start layout 0 ≤ start layout (region word) = start_order layout 0 (region word) (omega arith) in
    omega (arith, (in_region layout word known).0, first)

-- a board has a word for split and join
pub some_words : (layout : Layout) → 0 < word_count layout
some_words layout =
    let first : start layout 0 ≤ start layout 6 = start_order layout 0 6 (omega arith) in omega (arith, first)
