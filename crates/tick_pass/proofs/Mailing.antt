-- A core's ends of mail rings, when it mails a sample.
use Rattle.std.proofs.Common.{◌≡◌, ℕ, ◌<◌, List, sym, ◌∙◌, ap}
use Rattle.std.specs.Prelude.{slice_set}
use Rattle.onvm_core.specs.Layouts.{producer, same_ring}
use Rattle.onvm_board.specs.Tokens.{BoardView, TokenView}
use Rattle.desc_ring.specs.declared.mail.Mail.{Mail}
use Rattle.desc_ring.specs.Arrays.{AreMailTails, IsMailTailAt, mail_of}
use Rattle.desc_ring.specs.Ends.{IsMailTail, LeavesOthers}
use Rattle.desc_ring.proofs.InArrays.{ends_moved, mails_apart}

pub mails_mailed : (site : BoardView) (mails : List Mail) (f : ℕ) (mail : Mail) (before after : TokenView)
    → f < site.layout.functions → before.role ≡ producer site.layout (mail_of f) → mail.spot.ring ≡ mail_of f
    → IsMailTail site mail after → LeavesOthers site (mail_of f) before after → AreMailTails site mails before
    → AreMailTails site (slice_set mails f mail) after
mails_mailed site mails f mail before after known mine ring own others =
    ends_moved IsMailTailAt site mail_of site.layout.functions mails before after f mail known
    (λ g other less apart was. record {
      ring_is = was.ring_is;
      own = λ mine_then.
          let is =
          was.own (mine ∙ sym (ap (producer site.layout) ring) ∙ sym own.end.mine ∙ mine_then) in
          record {
            numbers = is.numbers;
            end = others.tails other.spot (ap (same_ring (mail_of f)) was.ring_is ∙ mails_apart f g apart) is.end;
          };
    })
    (record { ring_is = ring; own = λ mine_then. own })
