-- A marks pass and the drained rings are what a pass promises.
use Rattle.std.proofs.Common.{◌≡◌, ℕ, ◌-◌, ◌<◌, true, false, [], ◌∷◌, length, sym, ◌∙◌, subst, refl, arith}
use Rattle.onvm_base.specs.declared.ids.FnId.{FnId}
use Rattle.onvm_core.specs.declared.layout.Layout.{Layout}
use Rattle.onvm_core.specs.declared.layout.Word.TheVariants.{Post as PostWord}
use Rattle.onvm_core.specs.declared.step.Act.{Act}
use Rattle.onvm_core.specs.Blocks.{kind_of}
use Rattle.onvm_core.specs.Blocks.RoleKind.{Sends}
use Rattle.onvm_core.specs.Logs.{Log, Setting}
use Rattle.onvm_core.proofs.Agreeing.{Agree}
use Rattle.onvm_core.proofs.RoleKinds.{kind_sends}
use Rattle.onvm_board.specs.Known.{post_count_in}
use Rattle.onvm_promises.specs.declared.pass.Pass.TheVariants.{Wanting}
use Rattle.onvm_promises.specs.Acts.{AreMoveSteps, IsMoveStep}
use Rattle.onvm_promises.specs.Acts.IsMoveStep.{APop, AnEmpty, APush, AFull, AGive}
use Rattle.onvm_promises.specs.Kept.{FeederKeeps, moment_then, posts_by, records_by, sent_by}
use Rattle.onvm_promises.specs.Roles.{IsSendPromise, IsSenderSoFar}
use Rattle.onvm_promises.specs.Times.{aged_by, passes_in}
use Rattle.onvm_promises.proofs.Aging.{aged_stays, feeder_same}
use Rattle.onvm_promises.proofs.Keeping.{earlier_moment, kept_same}
use Rattle.entry_throttle.specs.Feeders.{FeederView}
use Rattle.entry_throttle.specs.Moments.{KeepsMoments}
use Rattle.entry_throttle.specs.Throttles.{AreMarksOf}
use Rattle.entry_throttle.proofs.MarksPasses.{marks_same}
use Rattle.entry_throttle.proofs.OtherActs.{moments_extended}
use Rattle.tx_pass.specs.declared.role.TxRole.{TxRole}
use Rattle.tx_pass.specs.Roles.{IsInOrder, IsTransmit, keeps_of}

pub is_sending : (layout : Layout) (role : ℕ) → IsTransmit layout role → kind_of layout role ≡ Sends
is_sending layout role is =
    kind_sends layout role (role - layout.ports) (omega (arith, is.from)) (omega (arith, is.from, is.below))

-- Moves post nothing

move_posts_none : (may : FnId → Type 0) (feeder : ℕ) (act : Act) → IsMoveStep may act
    → post_count_in (PostWord feeder) (act ∷ []) ≡ 0
move_posts_none may feeder act (APop g item is) = refl
move_posts_none may feeder act (AnEmpty g is) = refl
move_posts_none may feeder act (APush g p item) = refl
move_posts_none may feeder act (AFull g p) = refl
move_posts_none may feeder act (AGive buf outcome parcel) = refl

pub moves_post_none : (may : FnId → Type 0) (feeder : ℕ) (moves : Log) → AreMoveSteps may moves
    → post_count_in (PostWord feeder) moves ≡ 0
moves_post_none may feeder [] are = refl
moves_post_none may feeder (act ∷ moves) are = by_act act are.0 (moves_post_none may feeder moves are.1)
  where
    by_act : (act : Act) → IsMoveStep may act → post_count_in (PostWord feeder) moves ≡ 0
        → post_count_in (PostWord feeder) (act ∷ moves) ≡ 0
    by_act act (APop g item is) rest = rest
    by_act act (AnEmpty g is) rest = rest
    by_act act (APush g p item) rest = rest
    by_act act (AFull g p) rest = rest
    by_act act (AGive buf outcome parcel) rest = rest

-- A log that doesn't grow, where later moments come to it

module _ (setting : Setting) (role : ℕ) (moment later : ℕ → ℕ) (log : Log)
    (same : (number : ℕ) → number < length log → later number ≡ moment number) where
  pub agree_later : Agree (aged_by setting role moment log) (aged_by setting role later log) (passes_in setting role log)
  agree_later pass f less = sym (aged_stays setting role moment later [] log pass f same less)

  pub so_far_later : (keeps : FeederKeeps) → IsSenderSoFar setting role moment log keeps
      → IsSenderSoFar setting role later log keeps
  so_far_later keeps is = record {
    rests = record {
      blocks = is.rests.blocks;
      free = is.rests.free;
      feeder =
          feeder_same setting role (aged_by setting role moment log) (aged_by setting role later log) log agree_later
          is.rests.feeder;
    };
    kept = record {
      records = is.kept.records ∙ kept_same records_by moment later log (λ number less. sym (same number less));
      sent = is.kept.sent ∙ kept_same sent_by moment later log (λ number less. sym (same number less));
      posts = is.kept.posts ∙ kept_same posts_by moment later log (λ number less. sym (same number less));
    };
  }

  pub in_order_later : (tx : TxRole) → IsInOrder setting role moment log tx → IsInOrder setting role later log tx
  in_order_later tx is = record {
    so_far = so_far_later (keeps_of tx) is.so_far;
    marks =
        marks_same setting role (aged_by setting role moment log) (aged_by setting role later log)
        tx.outlet.feeder.marks (length tx.outlet.feeder.posts) log agree_later is.marks;
    moments = moments_extended moment later tx.outlet.feeder log same is.moments;
  }

-- Memory was wanting

module _ (setting : Setting) (role now : ℕ) (moment : ℕ → ℕ) (before after : Log) (old new : TxRole)
    (keeps : keeps_of new ≡ keeps_of old)
    (feeder : new.outlet.feeder ≡ record old.outlet.feeder { room = new.outlet.feeder.room })
    (same : after ≡ before) (is : IsInOrder setting role moment before old) where
  abbrev then_ : ℕ → ℕ
  then_ = moment_then moment (length before) now

  earlier : (number : ℕ) → number < length before → then_ number ≡ moment number
  earlier number less = earlier_moment moment (length before) now number less

  old_later : IsInOrder setting role then_ before old
  old_later = in_order_later setting role moment then_ before earlier old is

  pub wanting_in_order : IsInOrder setting role then_ after new
  wanting_in_order =
      subst (λ (log : Log). IsInOrder setting role then_ log new) (sym same)
      (record {
        so_far = subst (IsSenderSoFar setting role then_ before) (sym keeps) old_later.so_far;
        marks =
            subst (λ (fed : FeederView). AreMarksOf setting role (aged_by setting role then_ before) fed.marks
            (length fed.posts) before) (sym feeder) old_later.marks;
        moments = subst (λ (fed : FeederView). KeepsMoments then_ fed before) (sym feeder) old_later.moments;
      })

  pub wanting_promise : IsSendPromise setting role now moment before after (keeps_of new) Wanting
  wanting_promise = record {
    added = [];
    grown = same;
    so_far = wanting_in_order.so_far;
    whole = λ complete. let off : false ≡ true = complete in cc;
    tells = tt;
  }
