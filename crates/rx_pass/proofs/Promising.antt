-- What a receive role knows of its log, at later moments, and where memory was wanting.
use Rattle.std.proofs.Common.{◌≡◌, ℕ, ◌-◌, ◌<◌, ◌≤◌, Bool, true, false, List, [], ◌∷◌, ◌++◌, length, sym, ap, ◌∙◌, subst, refl, arith}
use Rattle.onvm_base.specs.declared.post.Post.{Post}
use Rattle.onvm_core.specs.declared.layout.Layout.{Layout}
use Rattle.onvm_core.specs.declared.layout.Word.TheVariants.{Post as PostWord}
use Rattle.onvm_core.specs.declared.step.Act.{Act}
use Rattle.onvm_core.specs.Blocks.{kind_of}
use Rattle.onvm_core.specs.Blocks.RoleKind.{Receives}
use Rattle.onvm_core.specs.Logs.{Log, Setting}
use Rattle.onvm_core.specs.Receiving.{receive_phase}
use Rattle.onvm_core.specs.Receiving.ReceivePhase.{Between}
use Rattle.onvm_core.proofs.Agreeing.{Agree}
use Rattle.onvm_board.specs.Known.{post_count_in}
use Rattle.onvm_promises.specs.declared.pass.Pass.TheVariants.{Wanting}
use Rattle.onvm_promises.specs.Acts.{AreBlockSteps, IsBlockStep}
use Rattle.onvm_promises.specs.Acts.IsBlockStep.{AnAsk, ASeek, ATake, APush, AFull, AGive}
use Rattle.onvm_promises.specs.Kept.{FeederKeeps, kept_at, moment_then, posts_by, records_by, sent_by}
use Rattle.onvm_promises.specs.Roles.{IsReceivePromise, IsReceiverSoFar}
use Rattle.onvm_promises.specs.Times.{aged_by, passes_in}
use Rattle.onvm_promises.proofs.Aging.{aged_stays, feeder_same}
use Rattle.onvm_promises.proofs.Keeping.{earlier_moment, kept_same}
use Rattle.entry_throttle.specs.Feeders.{FeederView}
use Rattle.entry_throttle.specs.Moments.{KeepsMoments}
use Rattle.entry_throttle.specs.Throttles.{AreMarksOf}
use Rattle.entry_throttle.proofs.MarksPasses.{marks_same}
use Rattle.entry_throttle.proofs.OtherActs.{moments_extended}
use Rattle.rx_pass.specs.Keeping.{outcomes_of}

-- blocks post nothing

pub blocks_post_none : (feeder : ℕ) (blocks : Log) → AreBlockSteps blocks → post_count_in (PostWord feeder) blocks ≡ 0
blocks_post_none feeder [] are = refl
blocks_post_none feeder (act ∷ blocks) are = by_act act are.0 (blocks_post_none feeder blocks are.1)
  where
    by_act : (act : Act) → IsBlockStep act → post_count_in (PostWord feeder) blocks ≡ 0
        → post_count_in (PostWord feeder) (act ∷ blocks) ≡ 0
    by_act act (AnAsk p seen told) rest = rest
    by_act act (ASeek port index seen told) rest = rest
    by_act act (ATake buf) rest = rest
    by_act act (APush g p item) rest = rest
    by_act act (AFull g p) rest = rest
    by_act act (AGive buf outcome parcel) rest = rest

-- what a role knows, apart from what it is
pub record Knowing (setting : Setting) (port : ℕ) (moment : ℕ → ℕ) (log : Log) (keeps : FeederKeeps) (feeder : FeederView)
    (done : ℕ) : Type 0 where
  pub so_far : IsReceiverSoFar setting port moment log keeps
  pub phase : receive_phase setting log ≡ Between done
  pub marks : AreMarksOf setting port (aged_by setting port moment log) feeder.marks (length feeder.posts) log
  pub moments : KeepsMoments moment feeder log

module _ (setting : Setting) (port : ℕ) (moment later : ℕ → ℕ) (log : Log)
    (same : (number : ℕ) → number < length log → later number ≡ moment number) where
  agree_later : Agree (aged_by setting port moment log) (aged_by setting port later log) (passes_in setting port log)
  agree_later pass f less = sym (aged_stays setting port moment later [] log pass f same less)

  pub knowing_later : (keeps : FeederKeeps) (feeder : FeederView) (done : ℕ)
      → Knowing setting port moment log keeps feeder done → Knowing setting port later log keeps feeder done
  knowing_later keeps feeder done is = record {
    so_far = record {
      rests = record {
        blocks = is.so_far.rests.blocks;
        between = is.so_far.rests.between;
        feeder =
            feeder_same setting port (aged_by setting port moment log) (aged_by setting port later log) log agree_later
            is.so_far.rests.feeder;
      };
      kept = record {
        records =
            is.so_far.kept.records ∙ kept_same records_by moment later log (λ number less. sym (same number less));
        sent = is.so_far.kept.sent ∙ kept_same sent_by moment later log (λ number less. sym (same number less));
        posts = is.so_far.kept.posts ∙ kept_same posts_by moment later log (λ number less. sym (same number less));
      };
    };
    phase = is.phase;
    marks =
        marks_same setting port (aged_by setting port moment log) (aged_by setting port later log) feeder.marks
        (length feeder.posts) log agree_later is.marks;
    moments = moments_extended moment later feeder log same is.moments;
  }

-- nothing was stepped: a promise of want of memory, and of nothing else
module _ (setting : Setting) (port now : ℕ) (moment : ℕ → ℕ) (log : Log) (keeps : FeederKeeps) (feeder : FeederView)
    (done : ℕ) (is : Knowing setting port moment log keeps feeder done) where
  pub unstepped : Knowing setting port (moment_then moment (length log) now) log keeps feeder done
  unstepped =
      knowing_later setting port moment (moment_then moment (length log) now) log
      (λ number less. earlier_moment moment (length log) now number less) keeps feeder done is

  pub wanting_promise : IsReceivePromise setting port now moment log log keeps Wanting
  wanting_promise = record {
    added = [];
    grown = refl;
    so_far = unstepped.so_far;
    whole = λ complete. let off : false ≡ true = complete in cc;
    tells = tt;
  }
