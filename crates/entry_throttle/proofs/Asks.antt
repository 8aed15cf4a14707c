-- A look at one more post.
use Rattle.std.proofs.Common.{◌≡◌, ◌≢◌, ℕ, ◌+◌, ◌/◌, ◌^◌, [], ◌∷◌, length, refl, sym, ap, ◌∙◌, arith, Option, Some, None}
use Rattle.std.specs.Int.{trailing_zeros, w32}
use Rattle.std.proofs.lemmas.Bool.{eq-eqb, ne_eqb}
use Rattle.onvm_base.specs.declared.ids.FrameId.{FrameId}
use Rattle.onvm_base.specs.declared.outcome.Record.{Record}
use Rattle.onvm_core.specs.declared.layout.Word.TheVariants.{Post}
use Rattle.onvm_core.specs.declared.step.Act.TheVariants.{Look}
use Rattle.onvm_board.specs.declared.ask.Ask.TheVariants.{Hold}
use Rattle.onvm_board.specs.Asking.{masked_bits, record_of, throttle_record}
use Rattle.onvm_board.specs.Tokens.{BoardView, TokenView, token_after, MakesStep}
use Rattle.onvm_board.proofs.Judgements.{lowest_held}
use Rattle.entry_throttle.specs.Admissions.{FoundNone, IsHeldBack}

pub none_asked : (mask : ℕ) (token : TokenView) → FoundNone 0 mask token token
none_asked mask token = record { values = []; all = refl; free = tt; grew = refl }

records_none : (mask feeder seen : ℕ) (frame : FrameId) → masked_bits mask seen ≡ 0
    → record_of (Hold feeder mask) frame seen ≡ None
records_none mask feeder seen frame e = rw (eq-eqb (masked_bits mask seen) 0 e) refl

records_some : (mask feeder seen : ℕ) (frame : FrameId) → masked_bits mask seen ≢ 0
    → record_of (Hold feeder mask) frame seen ≡ Some (throttle_record frame feeder mask seen)
records_some mask feeder seen frame more = rw (ne_eqb (masked_bits mask seen) 0 more) refl

-- one more post without a bit of the mask
pub one_asked : (site : BoardView) (mask feeder seen : ℕ) (frame : FrameId) (before between after : TokenView)
    → FoundNone feeder mask before between → masked_bits mask seen ≡ 0
    → MakesStep site (Look (Post feeder) seen (record_of (Hold feeder mask) frame seen)) between after
    → FoundNone (feeder + 1) mask before after
one_asked site mask feeder seen frame before between after until free made = record {
  values = seen ∷ until.values;
  all = (let long : length until.values ≡ feeder = until.all in omega (arith, long));
  free = (free, until.free);
  grew =
      made.grew
      ∙ ap (λ (o : Option Record). token_after (Look (Post feeder) seen o) between)
      (records_none mask feeder seen frame free)
      ∙ ap (λ (z : ℕ × TokenView). token_after (Look (Post z.0) seen None) z.1) (λ i. (sym until.all i, until.grew i));
}

-- the first post that has one
pub held_back : (site : BoardView) (mask feeder seen : ℕ) (frame : FrameId) (before between after : TokenView)
    → FoundNone feeder mask before between → masked_bits mask seen ≢ 0
    → MakesStep site (Look (Post feeder) seen (record_of (Hold feeder mask) frame seen)) between after
    → IsHeldBack frame mask feeder (seen / 2 ^ 32) (trailing_zeros w32 (masked_bits mask seen)) before after
held_back site mask feeder seen frame before between after until more made = record {
  values = until.values;
  seen = seen;
  earlier = until.all;
  free = until.free;
  number = refl;
  lowest = lowest_held mask seen more;
  grew =
      made.grew
      ∙ ap (λ (o : Option Record). token_after (Look (Post feeder) seen o) between)
      (records_some mask feeder seen frame more)
      ∙ ap (token_after (Look (Post feeder) seen (Some (throttle_record frame feeder mask seen)))) until.grew;
}
