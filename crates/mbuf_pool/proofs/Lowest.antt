-- The lowest bit of a part's word is a buffer of the part.
use Rattle.std.proofs.Common.{◌≡◌, ◌≢◌, ℕ, ◌+◌, ◌*◌, ◌/◌, ◌%◌, ◌^◌, ◌<◌, true, ◌∷◌, sym, ap, ◌∙◌, subst, arith, mod-lt}
use Rattle.std.specs.Prelude.{nat_lt, None, IsBitSet}
use Rattle.std.specs.Int.{bit_at, trailing_zeros, w64}
use Rattle.std.proofs.lemmas.Bool.{and_parts, ltb-true}
use Rattle.std.proofs.lemmas.Nat.Bits.{bit_at-trailing_zeros}
use Rattle.std.proofs.Math.Nat.{div-add-mod'}
use Rattle.onvm_core.specs.declared.layout.Layout.{Layout}
use Rattle.onvm_core.specs.declared.layout.Word.TheVariants.{Pool}
use Rattle.onvm_core.specs.declared.step.Act.TheVariants.{Look}
use Rattle.onvm_core.specs.Layouts.{word_of, bit_of, port_of, buffer_of_bit}
use Rattle.onvm_core.specs.History.{History, place_of}
use Rattle.onvm_core.specs.Receiving.{IsLowest}
use Rattle.onvm_core.specs.Words.{is_free, is_pool, pool_bits}
use Rattle.onvm_board.specs.Tokens.{BoardView, TokenView, MakesStep, SawBit}
use Rattle.onvm_board.proofs.Separation.{grid_same, grid_below}
use Rattle.onvm_board.proofs.Judgements.{bit_of_set, set_of_bit}
use Rattle.onvm_board.proofs.Pools.{set_holds}
use Rattle.mbuf_pool.specs.Parts.{part_word}

-- a bit that is set in a word of the pool is a buffer of the part
pub bit_within : (layout : Layout) (past : History) (port index bit : ℕ) → bit < 64
    → IsBitSet (pool_bits layout past port index) bit → 64 * index + bit < layout.buffers
unfolding pool_bits
bit_within layout past port index bit below set =
    let free : is_free layout past port index bit ≡ true =
    set_holds (is_free layout past port index) 64 bit below set in
    let both = and_parts (nat_lt (64 * index + bit) layout.buffers)
    (is_pool (place_of (buffer_of_bit layout port index bit) past)) free in
    ltb-true (64 * index + bit) layout.buffers both.0

-- the port, the word and the bit of a buffer of the part
pub buffer_parts : (layout : Layout) (port index bit : ℕ) → bit < 64 → 64 * index + bit < layout.buffers
    → (port_of layout (buffer_of_bit layout port index bit) ≡ port)
    × (buffer_of_bit layout port index bit % layout.buffers / 64 ≡ index)
    × (bit_of layout (buffer_of_bit layout port index bit) ≡ bit)
buffer_parts layout port index bit below within =
    let n : ℕ = layout.buffers in
    let left : ℕ = 64 * index + bit in
    let buf : ℕ = port * n + 64 * index + bit in
    let whole : buf / n * n + buf % n ≡ buf = div-add-mod' buf n in
    let x : ℕ = port * n in
    let flat : buf ≡ x + left = (let goal : x + 64 * index + bit ≡ x + (64 * index + bit) = omega arith in goal) in
    let inside : buf % n < n = mod-lt buf (omega (arith, within)) in
    let both : (buf / n ≡ port) × (buf % n ≡ left) =
    grid_same (buf / n) port n (buf % n) left inside within (whole ∙ flat) in
    let index_is : left / 64 ≡ index = omega (arith, below) in
    let bit_is : left % 64 ≡ bit = omega (arith, below) in
    (both.0, ap (λ r. r / 64) both.1 ∙ index_is, ap (λ r. r % 64) both.1 ∙ bit_is)

-- a buffer that a look at its word showed as the lowest one
pub record IsSeen (site : BoardView) (port index seen : ℕ) (after : TokenView) (buf : ℕ) : Type 0 where
  pub lowest : IsLowest site.layout port index seen buf
  pub own_port : port ≡ port_of site.layout buf
  pub saw : SawBit site.layout buf after

pub lowest_is : (site : BoardView) (port index seen buffers : ℕ) (before after : TokenView) → buffers ≡ site.layout.buffers
    → port < site.layout.ports → seen ≢ 0
    → seen < 2 ^ 64 → MakesStep site (Look (part_word port index) seen None) before after
    → IsSeen site port index seen after (port * buffers + 64 * index + trailing_zeros w64 seen)
lowest_is site port index seen buffers before after same known some_seen small made =
    let layout : Layout = site.layout in
    let bit : ℕ = trailing_zeros w64 seen in
    let found = bit_at-trailing_zeros w64 seen (omega (arith, some_seen)) small in
    let below : bit < 64 = found.0 in
    let set : IsBitSet seen bit = set_of_bit seen bit found.1 in
    let within : 64 * index + bit < layout.buffers =
    bit_within layout made.happened.before port index bit below
    (subst (λ n. IsBitSet n bit) made.happened.lawful.0.allowed.true_value set) in
    let parts = buffer_parts layout port index bit below within in
    let n : ℕ = layout.buffers in
    let flat : port * n + (64 * index + bit) < layout.ports * n =
    grid_below port layout.ports (64 * index + bit) n known within in
    let x : ℕ = port * n in
    let y : ℕ = layout.ports * n in
    let whole : x + (64 * index + bit) < y = flat in
    let buf : ℕ = buffer_of_bit layout port index bit in
    let word : word_of layout buf ≡ part_word port index =
    ap (λ (z : ℕ × ℕ). Pool (record { 0 = z.0 }) z.1) (λ i. (parts.0 i, parts.1 i)) in
    subst (λ b. IsSeen site port index seen after (port * b + 64 * index + bit)) (sym same)
    (record {
      lowest =
          record {
            known = (let goal : x + 64 * index + bit < y = omega arith in goal);
            word = word;
            shown = subst (IsBitSet seen) (sym parts.2) set;
            lowest = λ k less raised.
                let off : bit_at seen k ≡ 0 = found.2 k (subst (λ b. k < b) parts.2 less) in
                absurd (omega (arith, off, bit_of_set seen k raised));
          };
      own_port = sym parts.0;
      saw =
          record {
            seen = seen;
            told = None;
            earlier = before.log;
            last =
                ap (λ (t : TokenView). t.log) made.grew
                ∙ ap (λ w. Look w seen None ∷ before.log) (sym word);
            shown = subst (IsBitSet seen) (sym parts.2) set;
          };
    })
