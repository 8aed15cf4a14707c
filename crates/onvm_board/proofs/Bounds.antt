-- The words of a board are few.
use Rattle.std.proofs.Common.{◌≡◌, ℕ, ◌+◌, ◌*◌, ◌<◌, sym, subst, arith}
use Rattle.onvm_base.specs.declared.ids.FnId.{FnId}
use Rattle.onvm_base.specs.declared.ids.RingId.{RingId}
use Rattle.onvm_base.specs.declared.ids.RingId.TheVariants.{Lane, Output, Mail}
use Rattle.onvm_core.specs.declared.layout.Layout.{Layout}
use Rattle.onvm_core.specs.declared.layout.Word.{Word}
use Rattle.onvm_core.specs.declared.layout.Word.TheVariants.{Cell, Post, Weight}
use Rattle.onvm_base.specs.declared.limits.TheConstants.{MAIL_RING}
use Rattle.onvm_core.specs.Layouts.{IsWord, feeder_count}
use Rattle.onvm_board.specs.declared.regions.Regions.{Regions}
use Rattle.onvm_board.specs.Addresses.{word_count, address, cell_address, lanes_at, outputs_at, mails_at}
use Rattle.onvm_board.specs.Regions.{IsRegions}
use Rattle.onvm_board.proofs.Separation.{address_below}

pub word_small : (layout : Layout) (regions : Regions) (word : Word) → IsRegions layout regions → IsWord layout word
    → address layout word < 4294967296
word_small layout regions word is known =
    let small : word_count layout < 4294967296 = subst (λ n. n < 4294967296) is.end is.small in
    let below : address layout word < word_count layout = address_below layout word known in
    let x : ℕ = address layout word in
    let y : ℕ = word_count layout in
    let one : x < y = below in
    let two : y < 4294967296 = small in
    let goal : x < 4294967296 = omega arith in goal

pub lane_small : (layout : Layout) (regions : Regions) (f : FnId) (feeder at : ℕ) → IsRegions layout regions
    → IsWord layout (Cell (Lane f feeder) at)
    → regions.lanes + ((f.0 * regions.feeders + feeder) * layout.ring + at) < 4294967296
lane_small layout regions f feeder at is known =
    subst (λ (z : ℕ × ℕ). z.0 + ((f.0 * z.1 + feeder) * layout.ring + at) < 4294967296)
    (λ i. (sym is.lanes i, sym is.feeders i)) (word_small layout regions (Cell (Lane f feeder) at) is known)

pub output_small : (layout : Layout) (regions : Regions) (f : FnId) (at : ℕ) → IsRegions layout regions
    → IsWord layout (Cell (Output f) at) → regions.outputs + (f.0 * layout.output + at) < 4294967296
output_small layout regions f at is known =
    subst (λ n. n + (f.0 * layout.output + at) < 4294967296) (sym is.outputs)
    (word_small layout regions (Cell (Output f) at) is known)

pub mail_small : (layout : Layout) (regions : Regions) (f : FnId) (at : ℕ) → IsRegions layout regions
    → IsWord layout (Cell (Mail f) at) → regions.mails + (f.0 * MAIL_RING + at) < 4294967296
mail_small layout regions f at is known =
    subst (λ n. n + (f.0 * MAIL_RING + at) < 4294967296) (sym is.mails)
    (word_small layout regions (Cell (Mail f) at) is known)

pub post_small : (layout : Layout) (regions : Regions) (feeder : ℕ) → IsRegions layout regions
    → IsWord layout (Post feeder) → regions.posts + feeder < 4294967296
post_small layout regions feeder is known =
    subst (λ n. n + feeder < 4294967296) (sym is.posts) (word_small layout regions (Post feeder) is known)

pub weight_small : (layout : Layout) (regions : Regions) (f : FnId) → IsRegions layout regions
    → IsWord layout (Weight f) → regions.weights + f.0 < 4294967296
weight_small layout regions f is known =
    subst (λ n. n + f.0 < 4294967296) (sym is.weights) (word_small layout regions (Weight f) is known)

-- a cell lies behind the ring's first one
pub cell_from : (layout : Layout) (ring : RingId) (at : ℕ)
    → cell_address layout ring 0 + at ≡ cell_address layout ring at
cell_from layout (Lane f feeder) at =
    let a : ℕ = lanes_at layout in
    let x : ℕ = (f.0 * feeder_count layout + feeder) * layout.ring in
    let goal : a + (x + 0) + at ≡ a + (x + at) = omega arith in goal
cell_from layout (Output f) at =
    let a : ℕ = outputs_at layout in
    let x : ℕ = f.0 * layout.output in
    let goal : a + (x + 0) + at ≡ a + (x + at) = omega arith in goal
cell_from layout (Mail f) at =
    let a : ℕ = mails_at layout in
    let x : ℕ = f.0 * MAIL_RING in
    let goal : a + (x + 0) + at ≡ a + (x + at) = omega arith in goal
