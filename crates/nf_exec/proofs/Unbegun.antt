-- The promise of a pass that wanted memory before anything was done.
use Rattle.std.proofs.Common.{◌≡◌, ℕ, List, [], Some, None, Option, sym, ap, subst}
use Rattle.std.proofs.lemmas.Bool.{true≢false}
use Rattle.onvm_base.specs.declared.plan.Plan.{Plan}
use Rattle.onvm_core.specs.declared.entry.Entry.{Entry}
use Rattle.onvm_core.specs.Handling.{core_hand}
use Rattle.onvm_core.specs.Logs.{Hand, Log}
use Rattle.onvm_board.specs.Tokens.{BoardView, TokenView}
use Rattle.nf_api.specs.Acts.{Acts}
use Rattle.nf_api.specs.Tree.{Tree}
use Rattle.onvm_promises.specs.declared.pass.Pass.TheVariants.{Wanting}
use Rattle.onvm_promises.specs.Rests.{RestsHandling}
use Rattle.onvm_promises.specs.Roles.{HandsFirst, IsCorePromise, setting_of}
use Rattle.onvm_promises.specs.Sampling.{AreTimed}
use Rattle.nf_exec.specs.declared.role.CoreRole.{CoreRole}
use Rattle.nf_exec.specs.Roles.{IsAtWork, IsCoreRole, acts_of, counted, start_of, state_of}
use Rattle.nf_exec.specs.Stations.{functions_of}
use Rattle.nf_exec.proofs.UnitJournals.{journals_of}

hands_none : (hand : Option Hand) → HandsFirst hand []
hands_none None = tt
hands_none (Some hand) = tt

pub wanting_promise : {N : Type 0} (acts : N → Acts) (state : N → Tree) (may_span : ℕ → ℕ → Type 0) (site : BoardView)
    (plan : Plan) (before after : TokenView) (role now : CoreRole N) → after ≡ before
    → IsCoreRole acts state site plan before role → AreTimed may_span plan before.log
    → IsAtWork acts state site after now → functions_of now.stations.items ≡ functions_of role.stations.items
    → now.began ≡ role.began → (entries : List Entry)
    → IsCorePromise (acts_of acts state role) (start_of acts state role) (state_of acts state now) may_span
    (setting_of site.layout plan entries) before.role (core_hand after.log) before.log after.log (counted now) Wanting
wanting_promise acts state may_span site plan before after role now same is timed work functions began entries =
    let log_is : after.log ≡ before.log = ap (λ (t : TokenView). t.log) same in
    record {
      added = [];
      grown = log_is;
      first = hands_none (core_hand before.log);
      so_far = record {
        rests = subst (λ (log : Log). RestsHandling (setting_of site.layout plan entries) before.role (core_hand log) log)
            (sym log_is) (is.rests entries);
        timed = subst (AreTimed may_span plan) (sym log_is) timed;
        journals = journals_of acts state site plan entries before after role now is work functions began;
        kept = record { yields = work.yields; lost = work.lost };
      };
      whole = λ e. absurd (true≢false (sym e));
      tells = tt;
    }

pub wanting_role : {N : Type 0} (acts : N → Acts) (state : N → Tree) (site : BoardView) (plan : Plan)
    (before after : TokenView) (role now : CoreRole N) → after ≡ before → IsCoreRole acts state site plan before role
    → IsAtWork acts state site after now → IsCoreRole acts state site plan after now
wanting_role acts state site plan before after role now same is work = record {
  layout_of = is.layout_of;
  work = work;
  rests = λ entries.
      subst (λ (t : TokenView). RestsHandling (setting_of site.layout plan entries) t.role (core_hand t.log) t.log)
      (sym same) (is.rests entries);
}
