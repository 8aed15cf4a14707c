-- Lists of acts of one class: put together, and what they don't tell.
use Rattle.std.proofs.Common.{◌≡◌, ℕ, inl, inr, Bool, true, false, [], ◌∷◌, ◌++◌, sym, ap, ◌∙◌, refl, arith, append-nil}
use Rattle.std.specs.Prelude.{◌≢◌, ◌==◌, if◌then◌else◌}
use Rattle.std.proofs.lemmas.Bool.{cases_Bool, ne_eqb}
use Rattle.onvm_base.specs.declared.ids.FnId.{FnId}
use Rattle.onvm_base.specs.declared.ids.RingId.{RingId}
use Rattle.onvm_base.specs.declared.ids.RingId.TheVariants.{Output}
use Rattle.onvm_core.specs.declared.step.Act.{Act}
use Rattle.onvm_core.specs.declared.step.Act.TheVariants.{Split, Join, Take, Give, Push, Full, Pop, Empty, Look, Post}
use Rattle.onvm_core.specs.Layouts.{same_ring}
use Rattle.onvm_core.specs.History.{pops}
use Rattle.onvm_core.specs.Logs.{Log, Setting}
use Rattle.onvm_core.specs.Potential.{popped_in}
use Rattle.onvm_core.specs.Places.{how_many, one_if}
use Rattle.onvm_core.specs.Receiving.{IsMarkAct}
use Rattle.onvm_promises.specs.Acts.{AreBlockSteps, AreMarkSteps, AreMoveSteps, IsBlockStep, IsMarkStep, IsMoveStep}
use Rattle.onvm_promises.specs.Acts.IsBlockStep.{AnAsk, ASeek, ATake, APush as BlockPush, AFull as BlockFull, AGive as BlockGive}
use Rattle.onvm_promises.specs.Acts.IsMarkStep.{ALook, APost}
use Rattle.onvm_promises.specs.Acts.IsMoveStep.{APop, AnEmpty, APush, AFull, AGive}
use Rattle.onvm_promises.specs.Answers.{is_moved}
use Rattle.onvm_promises.specs.Kept.{kept_now, posts_by, records_by, sent_by}
use Rattle.onvm_promises.specs.Passes.{dry_after, is_pop_of, ran_dry}

-- Steps of a marks pass

-- by the core's word
pub mark_is : (setting : Setting) (feeder : ℕ) (act : Act) → IsMarkStep setting feeder act
    → IsMarkAct setting feeder act
mark_is setting feeder act (ALook f at seen known within) = (known, refl, within, refl)
mark_is setting feeder act (APost value) = refl

pub marks_append : (setting : Setting) (feeder : ℕ) (xs ys : Log) → AreMarkSteps setting feeder xs
    → AreMarkSteps setting feeder ys → AreMarkSteps setting feeder (xs ++ ys)
marks_append setting feeder [] ys first second = second
marks_append setting feeder (act ∷ xs) ys first second =
    (first.0, marks_append setting feeder xs ys first.1 second)

-- they record and send nothing, and move nothing
pub record IsMarkQuiet (act : Act) : Type 0 where
  pub records : (m : ℕ) → records_by m act ≡ []
  pub sent : (m : ℕ) → sent_by m act ≡ []
  pub moved : is_moved act ≡ false

mark_quiet : (setting : Setting) (feeder : ℕ) (act : Act) → IsMarkStep setting feeder act → IsMarkQuiet act
mark_quiet setting feeder act (ALook f at seen known within) =
    record { records = λ m. refl; sent = λ m. refl; moved = refl }
mark_quiet setting feeder act (APost value) = record { records = λ m. refl; sent = λ m. refl; moved = refl }

pub marks_quiet : (setting : Setting) (feeder now : ℕ) (made : Log) → AreMarkSteps setting feeder made
    → (kept_now records_by now made ≡ []) × (kept_now sent_by now made ≡ []) × (how_many is_moved made ≡ 0)
marks_quiet setting feeder now [] are = (refl, refl, refl)
marks_quiet setting feeder now (act ∷ made) are =
    let rest = marks_quiet setting feeder now made are.1 in
    let one = mark_quiet setting feeder act are.0 in
    let none : one_if (is_moved act) ≡ 0 = ap one_if one.moved in (
      ap (λ xs. xs ++ records_by now act) rest.0 ∙ one.records now,
      ap (λ xs. xs ++ sent_by now act) rest.1 ∙ one.sent now,
      omega (arith, none, rest.2),
    )

-- Steps of blocks, and of moves

pub blocks_append : (xs ys : Log) → AreBlockSteps xs → AreBlockSteps ys → AreBlockSteps (xs ++ ys)
blocks_append [] ys first second = second
blocks_append (act ∷ xs) ys first second = (first.0, blocks_append xs ys first.1 second)

block_quiet : (now : ℕ) (act : Act) → IsBlockStep act → posts_by now act ≡ []
block_quiet now act (AnAsk feeder seen told) = refl
block_quiet now act (ASeek port index seen told) = refl
block_quiet now act (ATake buf) = refl
block_quiet now act (BlockPush f feeder item) = refl
block_quiet now act (BlockFull f feeder) = refl
block_quiet now act (BlockGive buf outcome parcel) = refl

-- they post nothing
pub blocks_quiet : (now : ℕ) (blocks : Log) → AreBlockSteps blocks → kept_now posts_by now blocks ≡ []
blocks_quiet now [] are = refl
blocks_quiet now (act ∷ blocks) are =
    ap (λ xs. xs ++ posts_by now act) (blocks_quiet now blocks are.1) ∙ block_quiet now act are.0

pub moves_append : (may : FnId → Type 0) (xs ys : Log) → AreMoveSteps may xs → AreMoveSteps may ys
    → AreMoveSteps may (xs ++ ys)
moves_append may [] ys first second = second
moves_append may (act ∷ xs) ys first second = (first.0, moves_append may xs ys first.1 second)

move_weaker : (may can : FnId → Type 0) → ((g : FnId) → may g → can g) → (act : Act) → IsMoveStep may act
    → IsMoveStep can act
move_weaker may can weaker act (APop g item is) = APop g item (weaker g is)
move_weaker may can weaker act (AnEmpty g is) = AnEmpty g (weaker g is)
move_weaker may can weaker act (APush g p item) = APush g p item
move_weaker may can weaker act (AFull g p) = AFull g p
move_weaker may can weaker act (AGive buf outcome parcel) = AGive buf outcome parcel

pub moves_weaker : (may can : FnId → Type 0) → ((g : FnId) → may g → can g) → (xs : Log) → AreMoveSteps may xs
    → AreMoveSteps can xs
moves_weaker may can weaker [] is = tt
moves_weaker may can weaker (act ∷ xs) is =
    (move_weaker may can weaker act is.0, moves_weaker may can weaker xs is.1)

move_quiet : (may : FnId → Type 0) (now : ℕ) (act : Act) → IsMoveStep may act → posts_by now act ≡ []
move_quiet may now act (APop g item is) = refl
move_quiet may now act (AnEmpty g is) = refl
move_quiet may now act (APush g p item) = refl
move_quiet may now act (AFull g p) = refl
move_quiet may now act (AGive buf outcome parcel) = refl

pub moves_quiet : (may : FnId → Type 0) (now : ℕ) (moves : Log) → AreMoveSteps may moves
    → kept_now posts_by now moves ≡ []
moves_quiet may now [] are = refl
moves_quiet may now (act ∷ moves) are =
    ap (λ xs. xs ++ posts_by now act) (moves_quiet may now moves are.1) ∙ move_quiet may now act are.0

-- Moves that don't try the output ring of a function

record IsOff (f : FnId) (act : Act) : Type 0 where
  pub pop : is_pop_of (Output f) act ≡ false
  pub dry : (was : Bool) → dry_after (Output f) act was ≡ was
  pub none : pops (Output f) act ≡ []

off : (may : FnId → Type 0) (f : FnId) → ((g : FnId) → may g → g.0 ≢ f.0) → (act : Act) → IsMoveStep may act
    → IsOff f act
off may f other act (APop g item is) =
    let no : (g.0 == f.0) ≡ false = ne_eqb g.0 f.0 (other g is) in
    record { pop = no; dry = λ was. rw no refl; none = rw no refl }
off may f other act (AnEmpty g is) =
    let no : (g.0 == f.0) ≡ false = ne_eqb g.0 f.0 (other g is) in
    record { pop = refl; dry = λ was. rw no refl; none = refl }
off may f other act (APush g p item) = record { pop = refl; dry = λ was. refl; none = refl }
off may f other act (AFull g p) = record { pop = refl; dry = λ was. refl; none = refl }
off may f other act (AGive buf outcome parcel) = record { pop = refl; dry = λ was. refl; none = refl }

pub no_pops : (may : FnId → Type 0) (f : FnId) → ((g : FnId) → may g → g.0 ≢ f.0) → (xs : Log) → AreMoveSteps may xs
    → how_many (is_pop_of (Output f)) xs ≡ 0
no_pops may f other [] is = refl
no_pops may f other (act ∷ xs) is =
    let one : one_if (is_pop_of (Output f) act) ≡ 0 = ap one_if (off may f other act is.0).pop in
    let rest = no_pops may f other xs is.1 in
    omega (arith, one, rest)

pub dry_past : (may : FnId → Type 0) (f : FnId) → ((g : FnId) → may g → g.0 ≢ f.0) → (xs ys : Log)
    → AreMoveSteps may xs
    → ran_dry (Output f) (xs ++ ys) ≡ ran_dry (Output f) ys
dry_past may f other [] ys is = refl
dry_past may f other (act ∷ xs) ys is =
    (off may f other act is.0).dry (ran_dry (Output f) (xs ++ ys)) ∙ dry_past may f other xs ys is.1

pub popped_past : (may : FnId → Type 0) (f : FnId) → ((g : FnId) → may g → g.0 ≢ f.0) → (xs log : Log)
    → AreMoveSteps may xs
    → popped_in (Output f) (xs ++ log) ≡ popped_in (Output f) log
popped_past may f other [] log is = refl
popped_past may f other (act ∷ xs) log is =
    ap (λ ys. popped_in (Output f) (xs ++ log) ++ ys) (off may f other act is.0).none
    ∙ append-nil (popped_in (Output f) (xs ++ log)) ∙ popped_past may f other xs log is.1

-- A ring that was found empty stays so, whatever was before

by_test : (b was : Bool) → (if b then true else false) ≡ true → (if b then true else was) ≡ true
by_test true was e = refl
by_test false was e = cc

by_none : (b was : Bool) → (if b then false else false) ≡ true → (if b then false else was) ≡ true
by_none true was e = cc
by_none false was e = cc

stays_dry : (ring : RingId) (act : Act) (was : Bool) → dry_after ring act false ≡ true → dry_after ring act was ≡ true
stays_dry ring (Pop r item) was e = by_none (same_ring r ring) was e
stays_dry ring (Empty r) was e = by_test (same_ring r ring) was e
stays_dry ring (Push r item) was e = cc
stays_dry ring (Full r) was e = cc
stays_dry ring (Give buf outcome parcel) was e = cc
stays_dry ring (Split role) was e = cc
stays_dry ring (Join role) was e = cc
stays_dry ring (Take buf) was e = cc
stays_dry ring (Look word seen told) was e = cc
stays_dry ring (Post word value) was e = cc

pub dry_more : (ring : RingId) (xs ys : Log) → ran_dry ring xs ≡ true → ran_dry ring (xs ++ ys) ≡ true
dry_more ring [] ys e = cc
dry_more ring (act ∷ xs) ys e =
    elim (cases_Bool (ran_dry ring xs)) [
      | inl met ↦
          let same : ran_dry ring (xs ++ ys) ≡ ran_dry ring xs = dry_more ring xs ys met ∙ sym met in
          ap (dry_after ring act) same ∙ e
      | inr unmet ↦
          stays_dry ring act (ran_dry ring (xs ++ ys)) (ap (dry_after ring act) (sym unmet) ∙ e)
    ]
