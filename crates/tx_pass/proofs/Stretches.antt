-- Moves, one after another.
use Rattle.std.proofs.Common.{◌≡◌, ℕ, ◌+◌, ◌<◌, Bool, true, false, List, [], ◌∷◌, ◌++◌, sym, ap, ◌∙◌, subst, refl, arith, append-nil, Some}
use Rattle.std.proofs.lemmas.Bool.{eq-eqb}
use Rattle.onvm_base.specs.declared.ids.BufId.{BufId}
use Rattle.onvm_base.specs.declared.ids.FnId.{FnId}
use Rattle.onvm_base.specs.declared.ids.RingId.{RingId}
use Rattle.onvm_base.specs.declared.ids.RingId.TheVariants.{Lane, Output}
use Rattle.onvm_base.specs.declared.moves.Move.TheVariants.{To}
use Rattle.onvm_base.specs.declared.outcome.Outcome.{Outcome}
use Rattle.onvm_base.specs.declared.outcome.Outcome.TheVariants.{RingFull}
use Rattle.onvm_base.specs.declared.plan.Plan.{Plan}
use Rattle.onvm_core.specs.declared.entry.Entry.{Entry}
use Rattle.onvm_core.specs.declared.layout.Layout.{Layout}
use Rattle.onvm_core.specs.declared.parcel.Parcel.{Parcel}
use Rattle.onvm_core.specs.declared.step.Act.{Act}
use Rattle.onvm_core.specs.declared.step.Act.TheVariants.{Give, Pop, Empty}
use Rattle.onvm_core.specs.declared.step.Item.TheVariants.{Buffer}
use Rattle.onvm_core.specs.Layouts.{consumer}
use Rattle.onvm_core.specs.Logs.{Hand, Log, with_cursor}
use Rattle.onvm_core.specs.Places.{how_many, one_if}
use Rattle.onvm_core.specs.Sending.{MaySendOn, SendPhase}
use Rattle.onvm_core.specs.Sending.SendPhase.{Free, Moves}
use Rattle.onvm_core.proofs.Once.{how_many-append}
use Rattle.onvm_board.specs.Tokens.{BoardView, TokenView, MakesStep, grown, parcel_in}
use Rattle.onvm_board.proofs.Stretches.{grown_twice}
use Rattle.onvm_promises.specs.Acts.{AreMoveSteps, IsMoveStep}
use Rattle.onvm_promises.specs.Acts.IsMoveStep.{APop, AnEmpty, APush, AFull, AGive}
use Rattle.onvm_promises.specs.Answers.{is_moved}
use Rattle.onvm_promises.specs.Follows.{SendsFrom, send_phase_from}
use Rattle.onvm_promises.specs.Kept.{Outcomes, Told, kept_now, records_by, sent_by}
use Rattle.onvm_promises.specs.Passes.{is_pop_of}
use Rattle.onvm_promises.specs.Roles.{setting_of}
use Rattle.onvm_promises.proofs.Following.{send_phase_append, sends_append}
use Rattle.onvm_promises.proofs.Keeping.{told_nothing, told_then}
use Rattle.onvm_promises.proofs.Moving.{dry_more, moves_append, moves_weaker, no_pops}
use Rattle.entry_throttle.specs.Feeders.{FeederView}
use Rattle.tx_pass.specs.declared.outlet.Outlet.{Outlet}
use Rattle.tx_pass.specs.Keeping.{outcomes_of}
use Rattle.tx_pass.specs.Moving.{GoFrom, IsMoved, IsMoveOf, never, went_on}
use Rattle.tx_pass.specs.Noting.{HasNoted}
use Rattle.tx_pass.specs.Passing.{IsDrain, IsStretch}
use Rattle.tx_pass.proofs.Noted.{noted_none, noted_then}

-- Stretches

pub go_then : (layout : Layout) (plan : Plan) (role : ℕ) (phase : SendPhase) (added more : Log)
    → GoFrom layout plan role phase added → GoFrom layout plan role Free more
    → GoFrom layout plan role phase (more ++ added)
go_then layout plan role phase added more first second = record {
  follows = λ entries.
      sends_append (setting_of layout plan entries) role phase added more (first.follows entries)
      (subst (λ (p : SendPhase). SendsFrom (setting_of layout plan entries) role p more) (sym first.free)
      (second.follows entries));
  free =
      send_phase_append phase added more ∙ ap (λ (p : SendPhase). send_phase_from p more) first.free ∙ second.free;
}

pub stretch_then : (site : BoardView) (plan : Plan) (now : ℕ) (added more : Log) (a b c : TokenView)
    (old mid new : Outlet) → IsStretch site plan now added a b old mid → IsStretch site plan now more b c mid new
    → IsStretch site plan now (more ++ added) a c old new
stretch_then site plan now added more a b c old mid new first second = record {
  grew = grown_twice added more [] [] a b c first.grew second.grew;
  told = told_then added more (outcomes_of old.kept) (outcomes_of mid.kept) (outcomes_of new.kept) first.told second.told;
  noted =
      noted_then now added more a.log old.feeder mid.feeder new.feeder first.noted
      (subst (λ (log : Log). HasNoted now more log mid.feeder new.feeder)
      (ap (λ (t : TokenView). t.log) first.grew) second.noted);
  goes =
      go_then site.layout plan a.role Free added more first.goes
      (subst (λ (r : ℕ). GoFrom site.layout plan r Free more) (ap (λ (t : TokenView). t.role) first.grew) second.goes);
}

pub no_stretch : (site : BoardView) (plan : Plan) (now : ℕ) (a : TokenView) (outlet : Outlet) → a.hand ≡ []
    → IsStretch site plan now [] a a outlet outlet
no_stretch site plan now a outlet empty = record {
  grew = ap (λ h. record a { hand = h }) empty;
  told = told_nothing (outcomes_of outlet.kept);
  noted = noted_none now [] a.log outlet.feeder (λ f. refl);
  goes = record { follows = λ entries. tt; free = refl };
}

-- One try of an output ring

told_none : (added : Log) (outcomes : Outcomes) → kept_now records_by 0 added ≡ [] → kept_now sent_by 0 added ≡ []
    → Told added outcomes outcomes
told_none added outcomes records sent = record {
  records = sym (append-nil outcomes.records) ∙ ap (λ xs. outcomes.records ++ xs) (sym records);
  sent = sym (append-nil outcomes.sent) ∙ ap (λ xs. outcomes.sent ++ xs) (sym sent);
}

move_moves_none : (act : Act) → IsMoveStep never act → is_moved act ≡ false
move_moves_none act (APop g item no_try) = absurd no_try
move_moves_none act (AnEmpty g no_try) = absurd no_try
move_moves_none act (APush g p item) = refl
move_moves_none act (AFull g p) = refl
move_moves_none act (AGive buf outcome parcel) = refl

moves_none : (xs : Log) → AreMoveSteps never xs → how_many is_moved xs ≡ 0
moves_none [] are = refl
moves_none (act ∷ xs) are =
    let one : one_if (is_moved act) ≡ 0 = ap one_if (move_moves_none act are.0) in
    let rest = moves_none xs are.1 in
    omega (arith, one, rest)

module _ (site : BoardView) (plan : Plan) (now : ℕ) (f : FnId) (known : f.0 < site.layout.functions) where
  -- a parcel was popped and moved
  pub one_moved : (buf : BufId) (parcel : Parcel) (a t b : TokenView) (old new : Outlet)
      → a.role ≡ consumer site.layout (Output f) → a.hand ≡ []
      → MakesStep site (Pop (Output f) (Buffer buf parcel)) a t
      → IsMoved site plan now (record { function = f; buf = buf.0; parcel = parcel }) t b old new
      → IsDrain site plan now f 1 false a b old new
  one_moved buf parcel a t b old new own empty made moved =
      let pop : Act = Pop (Output f) (Buffer buf parcel) in
      let hand : Hand = record { function = f; buf = buf.0; parcel = parcel } in
      let ring : RingId = Output f in
      let goes : GoFrom site.layout plan a.role (Moves hand) moved.added =
      subst (λ (r : ℕ). GoFrom site.layout plan r (Moves hand) moved.added)
      (ap (λ (x : TokenView). x.role) made.grew) moved.goes in
      let pops : how_many (is_pop_of ring) (moved.added ++ pop ∷ [])
      ≡ how_many (is_pop_of ring) moved.added + how_many (is_pop_of ring) (pop ∷ []) =
      how_many-append (is_pop_of ring) moved.added (pop ∷ []) in
      let none : how_many (is_pop_of ring) moved.added ≡ 0 =
      no_pops never f (λ g no_try. absurd no_try) moved.added moved.steps in
      let one : how_many (is_pop_of ring) (pop ∷ []) ≡ 1 = ap (λ (b : Bool). one_if b + 0) (eq-eqb f.0 f.0 refl) in
      let moves : how_many is_moved (moved.added ++ pop ∷ [])
      ≡ how_many is_moved moved.added + how_many is_moved (pop ∷ []) =
      how_many-append is_moved moved.added (pop ∷ []) in
      let still : how_many is_moved moved.added ≡ 0 = moves_none moved.added moved.steps in record {
        added = moved.added ++ pop ∷ [];
        stretch = record {
          grew = grown_twice (pop ∷ []) moved.added ((buf.0, Some parcel) ∷ a.hand) [] a t b made.grew moved.grew;
          told = told_then (pop ∷ []) moved.added (outcomes_of old.kept) (outcomes_of old.kept) (outcomes_of new.kept)
              (told_none (pop ∷ []) (outcomes_of old.kept) refl refl) moved.told;
          noted =
              noted_then now (pop ∷ []) moved.added a.log old.feeder old.feeder new.feeder
              (noted_none now (pop ∷ []) a.log old.feeder (λ g. refl))
              (subst (λ (log : Log). HasNoted now moved.added log old.feeder new.feeder)
              (ap (λ (x : TokenView). x.log) made.grew) moved.noted);
          goes = record {
            follows = λ entries.
                sends_append (setting_of site.layout plan entries) a.role Free (pop ∷ []) moved.added
                (record { known = known; consumes = sym own }, tt) (goes.follows entries);
            free = send_phase_append Free (pop ∷ []) moved.added ∙ goes.free;
          };
        };
        steps =
            moves_append (λ g. g.0 ≡ f.0) moved.added (pop ∷ [])
            (moves_weaker never (λ g. g.0 ≡ f.0) (λ g no_try. absurd no_try) moved.added moved.steps)
            (APop f (Buffer buf parcel) refl, tt);
        pops = omega (arith, pops, none, one);
        moves = omega (arith, moves, still);
        dries = λ e. cc;
      }

  -- the ring was empty
  pub one_empty : (a b : TokenView) (outlet : Outlet) → a.role ≡ consumer site.layout (Output f) → a.hand ≡ []
      → MakesStep site (Empty (Output f)) a b → IsDrain site plan now f 0 true a b outlet outlet
  one_empty a b outlet own empty made = record {
    added = Empty (Output f) ∷ [];
    stretch = record {
      grew = made.grew ∙ ap (λ h. grown (Empty (Output f) ∷ []) h a) empty;
      told = told_none (Empty (Output f) ∷ []) (outcomes_of outlet.kept) refl refl;
      noted = noted_none now (Empty (Output f) ∷ []) a.log outlet.feeder (λ g. refl);
      goes = record { follows = λ entries. (record { known = known; consumes = sym own }, tt); free = refl };
    };
    steps = (AnEmpty f refl, tt);
    pops = refl;
    moves = refl;
    dries = λ e. rw (eq-eqb f.0 f.0 refl) refl;
  }

-- One ring

-- nothing was moved yet
pub none_moved : (site : BoardView) (plan : Plan) (now : ℕ) (f : FnId) (a : TokenView) (outlet : Outlet) → a.hand ≡ []
    → IsDrain site plan now f 0 false a a outlet outlet
none_moved site plan now f a outlet empty = record {
  added = [];
  stretch = no_stretch site plan now a outlet empty;
  steps = tt;
  pops = refl;
  moves = refl;
  dries = λ e. cc;
}

-- the same by another number, and said to be dry less often
pub drain_as : (site : BoardView) (plan : Plan) (now : ℕ) (f : FnId) (m n : ℕ) (dry less : Bool) (a b : TokenView)
    (old new : Outlet) → m ≡ n → (less ≡ true → dry ≡ true) → IsDrain site plan now f m dry a b old new
    → IsDrain site plan now f n less a b old new
drain_as site plan now f m n dry less a b old new same dries is = record {
  added = is.added;
  stretch = is.stretch;
  steps = is.steps;
  pops = is.pops ∙ same;
  moves = is.moves ∙ same;
  dries = λ e. is.dries (dries e);
}

pub drain_then : (site : BoardView) (plan : Plan) (now : ℕ) (f : FnId) (m n : ℕ) (dry : Bool) (a b c : TokenView)
    (old mid new : Outlet) → IsDrain site plan now f m false a b old mid → IsDrain site plan now f n dry b c mid new
    → IsDrain site plan now f (m + n) dry a c old new
drain_then site plan now f m n dry a b c old mid new first second =
    let ring : RingId = Output f in
    let pops = how_many-append (is_pop_of ring) second.added first.added in
    let moves = how_many-append is_moved second.added first.added in record {
      added = second.added ++ first.added;
      stretch = stretch_then site plan now first.added second.added a b c old mid new first.stretch second.stretch;
      steps = moves_append (λ g. g.0 ≡ f.0) second.added first.added second.steps first.steps;
      pops = omega (arith, pops, first.pops, second.pops);
      moves = omega (arith, moves, first.moves, second.moves);
      dries = λ e. dry_more ring second.added first.added (second.dries e);
    }

-- A parcel that goes on or turns back

pub went_steps : (f : FnId) (role : ℕ) (buf : BufId) (parcel : Parcel) (went : Bool)
    → AreMoveSteps never (went_on (Lane f role) buf parcel went)
went_steps f role buf parcel true = (APush f role (Buffer buf parcel), tt)
went_steps f role buf parcel false = (AGive buf (RingFull (Lane f role)) parcel, (AFull f role, tt))

pub went_goes : (layout : Layout) (plan : Plan) (role : ℕ) (function : FnId) (buf : BufId) (parcel : Parcel) (f : FnId)
    (cursor : ℕ) → IsMoveOf plan parcel (To f cursor) → (went : Bool)
    → GoFrom layout plan role (Moves (record { function = function; buf = buf.0; parcel = parcel }))
    (went_on (Lane f role) buf (with_cursor cursor parcel) went)
went_goes layout plan role function buf parcel f cursor is true = record {
  follows = λ entries. (
    (
      refl,
      (
        cursor,
        record {
          function = f;
          next = record { crumb = is.crumb; last = is.last; moved = sym is.moved };
          lane = refl;
        },
        refl,
      ),
    ),
    tt,
  );
  free = refl;
}
went_goes layout plan role function buf parcel f cursor is false = record {
  follows = λ entries. (
    (
      refl,
      refl,
      (
        cursor,
        record {
          function = f;
          next = record { crumb = is.crumb; last = is.last; moved = sym is.moved };
          lane = refl;
        },
        refl,
      ),
    ),
    (
      (
        cursor,
        record {
          function = f;
          next = record { crumb = is.crumb; last = is.last; moved = sym is.moved };
          lane = refl;
        },
      ),
      tt,
    ),
  );
  free = refl;
}

-- A parcel that leaves the board

pub give_moved : (site : BoardView) (plan : Plan) (now : ℕ) (function : FnId) (buf : BufId) (outcome : Outcome)
    (a b : TokenView) (old new : Outlet) → b ≡ grown (Give buf outcome (parcel_in a) ∷ []) [] a
    → Told (Give buf outcome (parcel_in a) ∷ []) (outcomes_of old.kept) (outcomes_of new.kept)
    → new.feeder ≡ old.feeder
    → ((entries : List Entry) → MaySendOn (setting_of site.layout plan entries) a.role
    (record { function = function; buf = buf.0; parcel = parcel_in a }) (Give buf outcome (parcel_in a)))
    → IsMoved site plan now (record { function = function; buf = buf.0; parcel = parcel_in a }) a b old new
give_moved site plan now function buf outcome a b old new grew told fed may = record {
  added = Give buf outcome (parcel_in a) ∷ [];
  grew = grew;
  told = told;
  noted =
      subst (λ (f : FeederView). HasNoted now (Give buf outcome (parcel_in a) ∷ []) a.log old.feeder f) (sym fed)
      (noted_none now (Give buf outcome (parcel_in a) ∷ []) a.log old.feeder (λ f. refl));
  goes = record { follows = λ entries. (may entries, tt); free = refl };
  steps = (AGive buf outcome (parcel_in a), tt);
}
