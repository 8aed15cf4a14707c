-- What a call tells of its token.
use Rattle.std.proofs.Common.{◌≡◌, ℕ, ◌+◌, ◌*◌, ◌%◌, ◌^◌, ◌<◌, eqb, Bool, true, List, [], ◌∷◌, sym, refl, ap, ◌∙◌, subst}
use Rattle.std.specs.Prelude.{Option, None, if◌then◌else◌}
use Rattle.std.proofs.lemmas.Bool.{eq-eqb}
use prog.Atomic.{either}
use Rattle.atomic_table.specs.Seated.{TableId}
use Rattle.atomic_table.specs.Table.{Allows as TableAllows}
use Rattle.atomic_table.specs.Table.{Splits, Joins}
use Rattle.onvm_base.specs.declared.outcome.Outcome.{Outcome}
use Rattle.onvm_base.specs.declared.outcome.Record.{Record}
use Rattle.onvm_core.specs.declared.layout.Word.{Word}
use Rattle.onvm_core.specs.Layouts.{IsBuffer, IsWord, port_of, word_of, bit_of}
use Rattle.onvm_core.specs.Lawful.{NamesRing, NamesRingIn}
use Rattle.std.specs.Prelude.{bit_and, bit_or}
use Rattle.std.specs.Int.{bit_not, w64}
use Rattle.onvm_base.specs.declared.ids.BufId.{BufId}
use Rattle.onvm_core.specs.declared.layout.Layout.{Layout}
use Rattle.onvm_core.specs.declared.parcel.Parcel.{Parcel}
use Rattle.onvm_core.specs.declared.step.Item.TheVariants.{Buffer, Number}
use Rattle.onvm_core.specs.declared.step.Act.{Act}
use Rattle.onvm_core.specs.declared.step.Act.TheVariants.{Split, Join, Take, Give, Push, Full, Pop, Empty, Look, Post}
use Rattle.onvm_core.specs.Places.{without}
use Rattle.onvm_core.specs.Logs.{Log}
use Rattle.onvm_board.specs.declared.spot.Spot.{Spot}
use Rattle.onvm_board.specs.Addresses.{address, cell_address}
use Rattle.onvm_board.specs.Known.{held_buffers_in}
use Rattle.onvm_board.specs.Rule.{HasHistory, Hand, hand_after, SeatState, MakesAct, IsLastStep, FitsRing, view_after, split_view, view_after_join, spent_view, TellsPush, TellsUnmail, TellsPop, TellsAct}
use Rattle.onvm_board.specs.Tokens.{BoardView, TokenView, token_of, buffers_of, IsTied, MakesStep, IsTail, IsHead, IsMailRing, IsBufferRing, Carries, first_parcel, SawBit, MayPost, TellsLook, IsFirstToken, IsUnsplit, IsRoleOf}
use Rattle.onvm_board.proofs.Bits.{take_asks, give_asks}
use Rattle.onvm_board.proofs.Splits.{split_allowed}
use Rattle.onvm_board.proofs.Joins.{join_allowed}
use Rattle.onvm_board.proofs.Hands.{mail_asks, unmail_asks, push_asks, pop_asks}
use Rattle.onvm_board.proofs.Looks.{look_asks, post_asks}

-- the hand that an act asks for
abbrev pub Suiting : Act → Hand → Type 0
Suiting (Take b) hand = hand ≡ []
Suiting (Give b outcome parcel) hand = (x : Option Parcel) × (hand ≡ (b.0, x) ∷ [])
Suiting (Push ring (Buffer b parcel)) hand = (x : Option Parcel) × (hand ≡ (b.0, x) ∷ [])
Suiting (Pop ring (Buffer b parcel)) hand = hand ≡ []
Suiting _ hand = Unit {0}

without_it : (b : ℕ) (held : List ℕ) → held ≡ b ∷ [] → without b held ≡ []
without_it b held e = ap (without b) e ∙ ap (λ (t : Bool). if t then [] else b ∷ []) (eq-eqb b b refl)

-- the hand stays what the log says
held_tied : (act : Act) (log : Log) (hand : Hand) → Suiting act hand → held_buffers_in log ≡ buffers_of hand
    → held_buffers_in (act ∷ log) ≡ buffers_of (hand_after act hand)
held_tied (Take b) log hand suits tied = ap (λ (bufs : List ℕ). b.0 ∷ bufs) tied
held_tied (Give b outcome parcel) log hand suits tied =
    without_it b.0 (held_buffers_in log) (tied ∙ ap buffers_of suits.1)
held_tied (Push ring (Buffer b parcel)) log hand suits tied =
    without_it b.0 (held_buffers_in log) (tied ∙ ap buffers_of suits.1)
held_tied (Push ring (Number n)) log hand suits tied = tied
held_tied (Pop ring (Buffer b parcel)) log hand suits tied = ap (λ (bufs : List ℕ). b.0 ∷ bufs) tied
held_tied (Pop ring (Number n)) log hand suits tied = tied
held_tied (Split a) log hand suits tied = tied
held_tied (Join a) log hand suits tied = tied
held_tied (Full a) log hand suits tied = tied
held_tied (Empty a) log hand suits tied = tied
held_tied (Look a b c) log hand suits tied = tied
held_tied (Post a b) log hand suits tied = tied

abbrev pub IsKept : SeatState → Type 0
IsKept me = (me.0.live ≡ true) × IsTied me.0.log me.1 me.0.logs

-- a token that made an act is still one
pub did_kept : (layout : Layout) (act : Act) (me after : SeatState) → IsKept me → Suiting act me.1
    → MakesAct layout act me after → IsKept after
did_kept layout act me after kept suits did =
    subst IsKept (sym did.0)
    (kept.0, record { holds = held_tied act me.0.log me.1 suits kept.1.holds; empty = kept.1.empty })

-- the call tells what the step told
pub did_made : (site : BoardView) (layout : Layout) (act : Act) (table new : TableId) (me after : SeatState) (before : TokenView)
    → token_of table me ≡ before → layout ≡ site.layout → new ≡ table → MakesAct layout act me after
    → MakesStep site act before (token_of new after)
did_made site layout act table new me after before is same kept did =
    subst (λ (z : TokenView × TableId). MakesStep site act z.0 (token_of z.1 after)) (λ i. (is i, sym kept i))
    (record {
      grew = ap (token_of table) did.0;
      happened = subst (λ l. IsLastStep l me.0.role act me.0.log) same did.1;
    })

-- As the calls ask for them

module _ (site : BoardView) (layout : Layout) (same : layout ≡ site.layout) (slots id : ℕ) (me : SeatState) (table : TableId)
    (kept : IsKept me) where
  pub mail_call : (spot : Spot) (n : ℕ) → IsTail site spot (token_of table me) → IsMailRing spot.ring → 0 < n
      → TableAllows (HasHistory layout) slots id me (cell_address layout spot.ring spot.cell) (λ m. either (eqb m 0) n m)
      (TellsPush layout spot.ring (Number n) me)
  mail_call spot n tail mail above =
      subst (λ l. TableAllows (HasHistory l) slots id me (cell_address l spot.ring spot.cell) (λ m. either (eqb m 0) n m)
      (TellsPush l spot.ring (Number n) me)) (sym same)
      (mail_asks site.layout spot.ring tail.known slots id spot.cell me.0 kept.0 me.1 n tail.mine tail.stands.cell mail
      above)

  pub unmail_call : (spot : Spot) → IsHead site spot (token_of table me) → IsMailRing spot.ring
      → TableAllows (HasHistory layout) slots id me (cell_address layout spot.ring spot.cell) (λ _. 0)
      (TellsUnmail layout spot.ring me)
  unmail_call spot head mail =
      subst (λ l. TableAllows (HasHistory l) slots id me (cell_address l spot.ring spot.cell) (λ _. 0)
      (TellsUnmail l spot.ring me)) (sym same)
      (unmail_asks site.layout spot.ring head.known slots id spot.cell me.0 kept.0 me.1 head.mine head.stands.cell mail)

  pub push_call : (spot : Spot) (buf : BufId) → IsTail site spot (token_of table me) → IsBuffer site.layout buf.0
      → Carries buf.0 (token_of table me) → FitsRing spot.ring (first_parcel me.1)
      → TableAllows (HasHistory layout) slots id me (cell_address layout spot.ring spot.cell)
      (λ m. either (eqb m 0) (buf.0 + 1) m) (TellsPush layout spot.ring (Buffer buf (first_parcel me.1)) me)
  push_call spot buf tail known carries fits =
      let parcel : Parcel = first_parcel me.1 in
      subst (λ (z : Layout × Hand). TableAllows (HasHistory z.0) slots id (me.0, z.1)
      (cell_address z.0 spot.ring spot.cell) (λ m. either (eqb m 0) (buf.0 + 1) m)
      (TellsPush z.0 spot.ring (Buffer buf (first_parcel z.1)) (me.0, z.1)))
      (λ i. (sym same i, sym carries i))
      (push_asks site.layout spot.ring tail.known slots id spot.cell me.0 kept.0 buf parcel tail.mine tail.stands.cell
      known fits (kept.1.holds ∙ ap buffers_of carries))

  pub pop_call : (spot : Spot) → IsHead site spot (token_of table me) → IsBufferRing spot.ring → me.1 ≡ []
      → TableAllows (HasHistory layout) slots id me (cell_address layout spot.ring spot.cell) (λ _. 0)
      (TellsPop layout spot.ring me)
  pop_call spot head buffers empty =
      subst (λ (z : Layout × Hand). TableAllows (HasHistory z.0) slots id (me.0, z.1)
      (cell_address z.0 spot.ring spot.cell) (λ _. 0) (TellsPop z.0 spot.ring (me.0, z.1)))
      (λ i. (sym same i, sym empty i))
      (pop_asks site.layout spot.ring head.known slots id spot.cell me.0 kept.0 head.mine head.stands.cell buffers)

  pub take_call : (buf : BufId) → IsBuffer site.layout buf.0 → me.0.role ≡ port_of site.layout buf.0
      → SawBit site.layout buf.0 (token_of table me) → me.1 ≡ []
      → TableAllows (HasHistory layout) slots id me (address layout (word_of layout buf.0))
      (λ n. bit_and n (bit_not w64 (1 * 2 ^ bit_of layout buf.0 % 2 ^ 64))) (TellsAct layout (Take buf) me)
  take_call buf known mine saw empty =
      subst (λ (z : Layout × Hand). TableAllows (HasHistory z.0) slots id (me.0, z.1) (address z.0 (word_of z.0 buf.0))
      (λ n. bit_and n (bit_not w64 (1 * 2 ^ bit_of z.0 buf.0 % 2 ^ 64))) (TellsAct z.0 (Take buf) (me.0, z.1)))
      (λ i. (sym same i, sym empty i))
      (take_asks site.layout slots id me.0 kept.0 buf known saw.seen saw.told saw.earlier mine saw.last saw.shown)

  pub give_call : (buf : BufId) (outcome : Outcome) (parcel : Parcel) → IsBuffer site.layout buf.0
      → me.1 ≡ (buf.0, None) ∷ [] → NamesRing site.layout outcome
      → TableAllows (HasHistory layout) slots id me (address layout (word_of layout buf.0))
      (λ n. bit_or n (1 * 2 ^ bit_of layout buf.0 % 2 ^ 64)) (TellsAct layout (Give buf outcome parcel) me)
  give_call buf outcome parcel known holds names =
      subst (λ (z : Layout × Hand). TableAllows (HasHistory z.0) slots id (me.0, z.1) (address z.0 (word_of z.0 buf.0))
      (λ n. bit_or n (1 * 2 ^ bit_of z.0 buf.0 % 2 ^ 64)) (TellsAct z.0 (Give buf outcome parcel) (me.0, z.1)))
      (λ i. (sym same i, sym holds i))
      (give_asks site.layout slots id me.0 kept.0 buf known outcome parcel (kept.1.holds ∙ ap buffers_of holds) names)

  pub look_call : (word : Word) (told : ℕ → Option Record) → IsWord site.layout word
      → ((seen : ℕ) → NamesRingIn site.layout (told seen))
      → TableAllows (HasHistory layout) slots id me (address layout word) (λ n. n) (TellsLook layout word told me)
  look_call word told known names =
      subst (λ l. TableAllows (HasHistory l) slots id me (address l word) (λ n. n) (TellsLook l word told me)) (sym same)
      (look_asks site.layout slots id me.0 me.1 kept.0 word told known names)

  pub post_call : (word : Word) (value : ℕ) → MayPost site.layout me.0.role me.0.log word value
      → TableAllows (HasHistory layout) slots id me (address layout word) (λ _. value)
      (λ _. TellsAct layout (Post word value) me value)
  post_call word value may =
      subst (λ l. TableAllows (HasHistory l) slots id me (address l word) (λ _. value)
      (λ _. TellsAct l (Post word value) me value)) (sym same)
      (post_asks site.layout slots id me.0 me.1 kept.0 word value may)

  pub split_call : (role : ℕ) → IsFirstToken site (token_of table me) → IsUnsplit site role (token_of table me)
      → Splits (HasHistory layout) id me.0 (view_after (Split role) me.0) (split_view role me.0)
  split_call role first whole =
      subst (λ l. Splits (HasHistory l) id me.0 (view_after (Split role) me.0) (split_view role me.0)) (sym same)
      (split_allowed site.layout id role me.0 kept.0 first.role whole.below whole.joined)

  pub join_call : (other : ℕ) (joining : SeatState) (its : TableId) → IsKept joining → IsFirstToken site (token_of table me)
      → IsRoleOf site (token_of its joining) → joining.1 ≡ []
      → Joins (HasHistory layout) id me.0 other joining.0 (view_after_join me.0 joining.0) spent_view
  join_call other joining its too first role empty =
      subst (λ l. Joins (HasHistory l) id me.0 other joining.0 (view_after_join me.0 joining.0) spent_view) (sym same)
      (join_allowed site.layout id other me.0 joining.0 kept.0 first.role too.0 role.below
      (too.1.holds ∙ ap buffers_of empty))
