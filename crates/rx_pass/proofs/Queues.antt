-- The frames that wait, and the entries of a run that they are.
use Rattle.std.proofs.Common.{◌≡◌, ◌∙◌, sym, ap, subst, refl, ℕ, suc, ◌+◌, ◌-◌, ◌<◌, ◌≤◌, Bool, List, [], ◌∷◌, ◌++◌, length, Some, append_assoc, length-append, arith}
use Rattle.std.specs.Prelude.{slice_get}
use Rattle.onvm_base.specs.declared.frame.Frame.{Frame}
use Rattle.onvm_base.specs.declared.ids.PortId.{PortId}
use Rattle.onvm_base.specs.declared.plan.Plan.{Plan}
use Rattle.onvm_core.specs.declared.entry.Entry.{Entry}
use Rattle.onvm_core.specs.declared.layout.Layout.{Layout}
use Rattle.onvm_core.specs.Logs.{Setting, entry_after}
use Rattle.onvm_promises.specs.Entries.{entries_from, entry_of}
use Rattle.onvm_promises.specs.Roles.{Fits}
use Rattle.onvm_promises.proofs.Fitting.{frame_fits}

entries_at : (plan : Plan) (port : PortId) (done : ℕ) (earlier : List Frame) (frame : Frame) (rest : List Frame)
    → slice_get (entries_from plan port done (earlier ++ frame ∷ rest)) (length earlier)
    ≡ Some (entry_of plan port (done + length earlier + 1) frame)
entries_at plan port done [] frame rest =
    let e : done + 1 ≡ done + 0 + 1 = omega arith in
    ap (λ (n : ℕ). Some (entry_of plan port n frame)) e
entries_at plan port done (x ∷ earlier) frame rest =
    let e : done + 1 + length earlier + 1 ≡ done + suc (length earlier) + 1 = omega arith in
    entries_at plan port (done + 1) earlier frame rest ∙ ap (λ (n : ℕ). Some (entry_of plan port n frame)) e

-- a run that fits the frames pulled has the first of those that wait next
pub next_known : (layout : Layout) (plan : Plan) (port : ℕ) (pulled earlier : List Frame) (frame : Frame) (rest : List Frame)
    (ended : Bool) (setting : Setting) (done : ℕ)
    → Fits layout plan port (entries_from plan (record { 0 = port }) 0 pulled) ended setting
    → pulled ≡ earlier ++ frame ∷ rest → length earlier ≡ done
    → entry_after setting port done ≡ Some (entry_of plan (record { 0 = port }) (done + 1) frame)
next_known layout plan port pulled earlier frame rest ended setting done fits split long =
    let own : PortId = record { 0 = port } in
    let e : Entry = entry_of plan own (done + 1) frame in
    let P : List Frame → Type 0 = λ fs. slice_get (entries_from plan own 0 fs) done ≡ Some e in
    let Q : ℕ → Type 0 = λ n. slice_get (entries_from plan own 0 (earlier ++ frame ∷ rest)) n
    ≡ Some (entry_of plan own (n + 1) frame) in
    let zero_more : 0 + length earlier + 1 ≡ length earlier + 1 = omega arith in
    let at : Q (length earlier) =
    entries_at plan own 0 earlier frame rest ∙ ap (λ (n : ℕ). Some (entry_of plan own n frame)) zero_more in
    frame_fits layout plan port done (entries_from plan own 0 pulled) ended setting e fits
    (subst P (sym split) (subst Q long at))

pub longer : (earlier rest : List Frame) (pulled waiting : List Frame) → pulled ≡ earlier ++ waiting
    → length pulled ≡ length earlier + length waiting
longer earlier rest pulled waiting split = ap (length {A = Frame}) split ∙ length-append earlier waiting

pub queue_more : (pulled earlier waiting : List Frame) (frame : Frame) → pulled ≡ earlier ++ waiting
    → pulled ++ frame ∷ [] ≡ earlier ++ (waiting ++ frame ∷ [])
queue_more pulled earlier waiting frame split =
    ap (λ t. t ++ frame ∷ []) split ∙ append_assoc earlier waiting (frame ∷ [])

pub frames_then : (a b c more : List Frame) (frame : Frame) → b ≡ a ++ more → c ≡ b ++ frame ∷ [] → c ≡ a ++ (more ++ frame ∷ [])
frames_then a b c more frame first then = then ∙ ap (λ t. t ++ frame ∷ []) first ∙ append_assoc a more (frame ∷ [])

pub done_same : (pulled waiting pulled' waiting' : List Frame) (frame : Frame) → pulled' ≡ pulled ++ frame ∷ []
    → waiting' ≡ waiting ++ frame ∷ [] → length pulled' - length waiting' ≡ length pulled - length waiting
done_same pulled waiting pulled' waiting' frame grew waits =
    omega (
      arith,
      ap (length {A = Frame}) grew,
      ap (length {A = Frame}) waits,
      length-append pulled (frame ∷ []),
      length-append waiting (frame ∷ []),
    )

pub queue_less : (pulled earlier rest : List Frame) (frame : Frame) → pulled ≡ earlier ++ frame ∷ rest
    → pulled ≡ (earlier ++ frame ∷ []) ++ rest
queue_less pulled earlier rest frame split = split ∙ sym (append_assoc earlier (frame ∷ []) rest)

-- of the frames pulled a burst at most waited, and those that wait no more have their blocks
pub burst_done : (pulled earlier waiting pulled' waiting' : List Frame) (done burst : ℕ) → pulled ≡ earlier ++ waiting
    → length pulled - length waiting ≡ done → length waiting ≤ burst → pulled' ≡ pulled → waiting' ≡ []
    → length pulled' - length waiting' ≤ done + burst
burst_done pulled earlier waiting pulled' waiting' done burst split was few same none =
    omega (
      arith,
      was,
      few,
      longer earlier earlier pulled waiting split,
      ap (length {A = Frame}) same,
      ap (length {A = Frame}) none,
    )

length-entries_from : (plan : Plan) (port : PortId) (done : ℕ) (frames : List Frame)
    → length (entries_from plan port done frames) ≡ length frames
length-entries_from plan port done [] = refl
length-entries_from plan port done (f ∷ fs) = ap suc (length-entries_from plan port (done + 1) fs)

pub entries_long : (plan : Plan) (port : PortId) (frames : List Frame) → length (entries_from plan port 0 frames) ≡ length frames
entries_long plan port frames = length-entries_from plan port 0 frames
