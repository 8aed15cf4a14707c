-- Where there are as many records as frames, each frame has one, every block has ended, and every buffer is in the
-- pool.
use Rattle.std.proofs.Common.{◌≡◌, ℕ, zero, suc, ◌+◌, ◌-◌, ◌*◌, ◌<◌, ◌≤◌, Bool, true, false, inl, inr, [], length, refl, sym, ◌∙◌, ap, subst, arith, Option, Some, None}
use Rattle.std.specs.Prelude.{◌==◌, ◌⊎◌, nat_lt}
use Rattle.std.proofs.lemmas.Bool.{cases_Bool, eqb-true, eqb-false, ltb-true, ltb-false}
use Rattle.std.proofs.lemmas.Option.{slice_get_within}
use Rattle.onvm_base.specs.declared.ids.FrameId.{FrameId}
use Rattle.onvm_core.specs.declared.place.Place.{Place}
use Rattle.onvm_core.specs.declared.place.Place.TheVariants.{Pool, Role}
use Rattle.onvm_core.specs.Layouts.{IsBuffer}
use Rattle.onvm_core.specs.History.{History}
use Rattle.onvm_core.specs.Lawful.{IsLawful}
use Rattle.onvm_core.specs.Places.{how_many, numbers_below, one_if}
use Rattle.onvm_core.specs.Records.{records_in}
use Rattle.onvm_core.specs.Logs.{Setting, IsNumbered, entries_of_port, log_of}
use Rattle.onvm_core.specs.Receiving.{ReceivePhase, receive_phase}
use Rattle.onvm_core.specs.Receiving.ReceivePhase.{Asks, Barred, Between, Seeks, Sees, Took}
use Rattle.onvm_core.specs.Blocks.{AllOfBlocks}
use Rattle.onvm_core.specs.Blocks.RoleKind.{Receives}
use Rattle.onvm_core.specs.Frames.{AllEnded, AllInPool, HasOneRecordEach, Load, begun_count, buffer_count, frame_of, has_begun, has_frame, load, record_count, same_frame}
use Rattle.onvm_core.specs.Frames.Load.{Fresh}
use Rattle.onvm_core.specs.Potential.{sum_below}
use Rattle.onvm_core.specs.Settings.{frame_count}
use Rattle.onvm_core.proofs.Balance.{one_record_or_buffer}
use Rattle.onvm_core.proofs.Hands.{HasTaken, IsKind, receive_has}
use Rattle.onvm_core.proofs.Loads.{Each, Each_map, HasLoad, own_load, own_load_is}
use Rattle.onvm_core.proofs.PerFrame.{InRange, counted_all, each_counted, frame_at, same_frame_self}
use Rattle.onvm_core.proofs.Rooms.{HasRoom, begun_in_range, begun_parts, has_room, no_other_frame, receive_kind}
use Rattle.onvm_core.proofs.Unloaded.{known_buffer, unloaded}
use Rattle.onvm_core.proofs.Sums.{sum_full, sum_le, sum_ones}

one_bound : (b : Bool) → one_if b ≤ 1
one_bound true = omega arith
one_bound false = omega arith

some_one : (b : Bool) → 1 ≤ one_if b → b ≡ true
some_one true h = refl
some_one false h = absurd (omega (arith, h))

counted_below : (test : ℕ → Bool) (buf n : ℕ) → buf < n → test buf ≡ true → 1 ≤ how_many test (numbers_below n)
counted_below test buf zero less met = absurd (omega (arith, less))
counted_below test buf (suc n) less met =
    elim (cases_Bool (buf == n)) [
      | inl same ↦
          let top : one_if (test n) ≡ 1 =
          ap one_if (subst (λ (k : ℕ). test k ≡ true) (eqb-true buf n same) met) in
          omega (arith, top)
      | inr other ↦
          omega (arith, counted_below test buf n (omega (arith, less, eqb-false buf n other)) met)
    ]

some_or_none_load : (l : Option Load) → (l ≡ None) ⊎ ((what : Load) × (l ≡ Some what))
some_or_none_load None = inl refl
some_or_none_load (Some what) = inr (what, refl)

module _ (setting : Setting) (past : History) (numbered : IsNumbered setting) (lawful : IsLawful setting.layout past)
    (blocks : AllOfBlocks setting past) (many : length (records_in past) ≡ frame_count setting) where
  told_begun : (frame : FrameId) → 1 ≤ record_count frame past → has_begun setting frame past ≡ true
  told_begun frame some =
      some_one (has_begun setting frame past)
      (omega (arith, some, one_record_or_buffer setting frame past numbered lawful blocks))

  at_most_one : (frame : FrameId) → record_count frame past ≤ 1
  at_most_one frame =
      omega (
        arith,
        one_record_or_buffer setting frame past numbered lawful blocks,
        one_bound (has_begun setting frame past),
      )

  told_within : Each (λ r. InRange (λ port. length (entries_of_port port setting.entries)) setting.layout.ports r.frame)
      (records_in past)
  told_within =
      Each_map (λ r. 1 ≤ how_many (λ q. same_frame q.frame r.frame) (records_in past))
      (λ r. InRange (λ port. length (entries_of_port port setting.entries)) setting.layout.ports r.frame)
      (records_in past)
      (λ r some. begun_in_range setting past r.frame blocks (told_begun r.frame some))
      (each_counted [] (records_in past))

  pub one_at : (port done : ℕ) → port < setting.layout.ports → done < length (entries_of_port port setting.entries)
      → record_count (frame_at port done) past ≡ 1
  one_at port done known less =
      let total : sum_below (λ p.
      sum_below (λ k. record_count (frame_at p k) past) (length (entries_of_port p setting.entries)))
      setting.layout.ports
      ≡ sum_below (λ p. length (entries_of_port p setting.entries)) setting.layout.ports
      = counted_all (λ p. length (entries_of_port p setting.entries)) setting.layout.ports (records_in past) told_within
      ∙ many in
      let inner : sum_below (λ k. record_count (frame_at port k) past) (length (entries_of_port port setting.entries))
      ≡ length (entries_of_port port setting.entries)
      = sum_full (λ p. sum_below (λ k. record_count (frame_at p k) past) (length (entries_of_port p setting.entries)))
      (λ p. length (entries_of_port p setting.entries)) setting.layout.ports
      (λ p below.
      omega (
        arith,
        sum_le (λ k. record_count (frame_at p k) past) (λ k. 1) (length (entries_of_port p setting.entries))
            (λ k within. at_most_one (frame_at p k)),
        sum_ones (length (entries_of_port p setting.entries)),
      ))
      total port known in
      sum_full (λ k. record_count (frame_at port k) past) (λ k. 1) (length (entries_of_port port setting.entries))
      (λ k within. at_most_one (frame_at port k))
      (inner ∙ sym (sum_ones (length (entries_of_port port setting.entries)))) done less

  -- each frame has one record, and nothing else has one
  pub one_each : HasOneRecordEach setting past
  one_each = record {
    each = λ port done e known found.
        ap (λ (frame : FrameId). record_count frame past) (numbered port done e found)
        ∙ one_at port done known (slice_get_within (entries_of_port port setting.entries) done e found);
    no_other = λ frame other. (no_other_frame setting past numbered lawful blocks frame other).0;
  }

  -- a frame in a buffer would have no record
  no_buffer : (buf : ℕ) (what : Load) → IsBuffer setting.layout buf → load setting buf past ≡ Some what → ⊥
  no_buffer buf what known has =
      let there : has_frame (frame_of what) (load setting buf past) ≡ true =
      ap (has_frame (frame_of what)) has ∙ same_frame_self (frame_of what) in
      let some : 1 ≤ buffer_count setting (frame_of what) past =
      counted_below (λ b. has_frame (frame_of what) (load setting b past)) buf
      (setting.layout.ports * setting.layout.buffers) known there in
      let total : record_count (frame_of what) past + buffer_count setting (frame_of what) past
      ≡ one_if (has_begun setting (frame_of what) past)
      = one_record_or_buffer setting (frame_of what) past numbered lawful blocks in
      let begun : has_begun setting (frame_of what) past ≡ true =
      some_one (has_begun setting (frame_of what) past) (omega (arith, some, total)) in
      let within : InRange (λ p. length (entries_of_port p setting.entries)) setting.layout.ports (frame_of what) =
      begun_in_range setting past (frame_of what) blocks begun in
      let number : (frame_of what).number - 1 + 1 ≡ (frame_of what).number = omega (arith, within.1) in
      let one : record_count (frame_of what) past ≡ 1 =
      ap (λ (n : ℕ). record_count (record { port = (frame_of what).port; number = n }) past) (sym number)
      ∙ one_at (frame_of what).port.0 ((frame_of what).number - 1) within.0 (omega (arith, within.1, within.2)) in
      omega (arith, one, some, total, one_bound (has_begun setting (frame_of what) past))

  -- every buffer is back
  pub all_back : AllInPool setting past
  all_back buf known =
      elim (some_or_none_load (load setting buf past)) [
        | inl none ↦ unloaded setting past buf none
        | inr (what, has) ↦ absurd (no_buffer buf what known has)
      ]

  -- the last block has begun
  all_begun : (port : ℕ) → port < setting.layout.ports
      → length (entries_of_port port setting.entries) ≤ begun_count (receive_phase setting (log_of port past))
  all_begun port known =
      elim (cases_Bool (nat_lt 0 (length (entries_of_port port setting.entries)))) [
        | inl some ↦
            let last : ℕ = length (entries_of_port port setting.entries) - 1 in
            let less : last < length (entries_of_port port setting.entries) =
            omega (arith, ltb-true 0 (length (entries_of_port port setting.entries)) some) in
            let parts : (port < setting.layout.ports) × (0 < last + 1)
            × (last + 1 ≤ begun_count (receive_phase setting (log_of port past)))
            = begun_parts setting past (frame_at port last)
            (told_begun (frame_at port last) (omega (arith, one_at port last known less))) in
            omega (arith, parts.2)
        | inr none ↦
            omega (arith, ltb-false 0 (length (entries_of_port port setting.entries)) none)
      ]

  not_taken : (port done buf : ℕ)
      → own_load setting port (log_of port past) ≡ Some (buf, Fresh (frame_at port done))
      → ⊥
  not_taken port done buf own =
      let has : HasLoad setting past port buf (Fresh (frame_at port done)) =
      own_load_is setting past lawful port buf (Fresh (frame_at port done)) own in
      elim (known_buffer setting past buf (Role port) lawful has.holder) [
        | inl pooled ↦ let off : ◌≡◌ {A = Place} (Role port) Pool = pooled in cc
        | inr known ↦ no_buffer buf (Fresh (frame_at port done)) known has.has
      ]

  settled : (port frames : ℕ) (phase : ReceivePhase)
      → HasRoom frames phase → HasTaken port (own_load setting port (log_of port past)) phase
      → frames ≤ begun_count phase
      → phase ≡ Between frames
  settled port frames (Between done) room taken all =
      let same : done ≡ frames = omega (arith, room, all) in ap (λ (n : ℕ). Between n) same
  settled port frames (Asks done k) room taken all = absurd (omega (arith, room, all))
  settled port frames (Seeks done k) room taken all = absurd (omega (arith, room, all))
  settled port frames (Sees done index seen) room taken all = absurd (omega (arith, room, all))
  settled port frames (Took done buf) room taken all = absurd (not_taken port done buf taken)
  settled port frames (Barred done buf ring) room taken all = absurd (not_taken port done buf taken)

  -- every block has ended
  pub all_ended : AllEnded setting past
  all_ended port known =
      let kind : IsKind setting port Receives (log_of port past) = receive_kind setting past port blocks known in
      settled port (length (entries_of_port port setting.entries)) (receive_phase setting (log_of port past))
      (has_room setting port (log_of port past) kind) (receive_has setting port (log_of port past) kind)
      (all_begun port known)
