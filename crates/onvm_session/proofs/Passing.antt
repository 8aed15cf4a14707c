-- A pass that wasn't cut short, whatever its role's kind: the role rests behind it, and what it added is whole.
use Rattle.std.proofs.Common.{◌≡◌, ℕ, Bool, true, ◌++◌, length, sym, subst, Option}
use Rattle.onvm_base.specs.declared.ids.FnId.{FnId}
use Rattle.onvm_core.specs.Blocks.RoleKind.{Receives, Sends, Handles, Ticks, Leads}
use Rattle.onvm_promises.specs.declared.pass.Pass.{Pass}
use Rattle.onvm_core.specs.Blocks.{RoleKind, IsOfBlocks}
use Rattle.onvm_core.specs.Handling.{IsOwn}
use Rattle.onvm_core.specs.Journals.{Handling, GoesThrough, journal}
use Rattle.onvm_core.specs.Logs.{Setting, Log, Hand}
use Rattle.onvm_core.specs.Marks.{Ages}
use Rattle.onvm_promises.proofs.Evening.{even_pass}
use Rattle.onvm_promises.specs.Answers.{is_complete}
use Rattle.onvm_promises.specs.Kept.{moment_then}
use Rattle.onvm_promises.specs.Roles.{IsCoreSoFar}
use Rattle.onvm_promises.specs.Sampling.{AreEven, IsEven}
use Rattle.onvm_promises.specs.Times.{aged_by}
use Rattle.onvm_session.specs.Accounts.{IsWhole}
use Rattle.onvm_session.specs.Sessions.{AreServedEvenly, IsRolePass, IsRoleSoFar, Keeps}

-- What a role is at rest

pub so_far_blocks : {S : Type 0} (acts : ℕ → S → Handling → S → Type 0) (start state : ℕ → S)
    (cost_may_take : ℕ → ℕ → Type 0) (setting : Setting) (role : ℕ) (kind : RoleKind) (moment : ℕ → ℕ) (log : Log)
    (keeps : Keeps)
    → IsRoleSoFar acts start state cost_may_take setting role kind moment log keeps
    → IsOfBlocks setting role log
so_far_blocks acts start state cost_may_take setting role Receives moment log keeps is = is.rests.blocks
so_far_blocks acts start state cost_may_take setting role Sends moment log keeps is = is.rests.blocks
so_far_blocks acts start state cost_may_take setting role Handles moment log keeps is = is.0.rests.blocks
so_far_blocks acts start state cost_may_take setting role Ticks moment log keeps is = is.blocks
so_far_blocks acts start state cost_may_take setting role Leads moment log keeps is = absurd is

-- the functions of other roles may have gone on
pub so_far_states : {S : Type 0} (acts : ℕ → S → Handling → S → Type 0) (start state now : ℕ → S)
    (cost_may_take : ℕ → ℕ → Type 0) (setting : Setting) (role : ℕ) (kind : RoleKind) (moment : ℕ → ℕ) (log : Log)
    (keeps : Keeps)
    → ((f : FnId) → IsOwn setting role f → now f.0 ≡ state f.0)
    → IsRoleSoFar acts start state cost_may_take setting role kind moment log keeps
    → IsRoleSoFar acts start now cost_may_take setting role kind moment log keeps
so_far_states acts start state now cost_may_take setting role Receives moment log keeps same is = is
so_far_states acts start state now cost_may_take setting role Sends moment log keeps same is = is
so_far_states {S} acts start state now cost_may_take setting role Handles moment log keeps same is = (
  record {
    rests = is.0.rests;
    timed = is.0.timed;
    journals = λ f own.
        subst (λ (s : S). GoesThrough (acts f.0) (start f.0) (journal f log) s) (sym (same f own))
        (is.0.journals f own);
    kept = is.0.kept;
  },
  is.1,
)
so_far_states acts start state now cost_may_take setting role Ticks moment log keeps same is = is
so_far_states acts start state now cost_may_take setting role Leads moment log keeps same is = is

-- the same under equal moments, log and lists
pub so_far_as : {S : Type 0} (acts : ℕ → S → Handling → S → Type 0) (start state now : ℕ → S)
    (cost_may_take : ℕ → ℕ → Type 0) (setting : Setting) (role : ℕ) (kind : RoleKind) (moment moment_now : ℕ → ℕ)
    (log log_now : Log) (keeps keeps_now : Keeps)
    → moment ≡ moment_now → log ≡ log_now → keeps ≡ keeps_now
    → ((f : FnId) → IsOwn setting role f → now f.0 ≡ state f.0)
    → IsRoleSoFar acts start state cost_may_take setting role kind moment log keeps
    → IsRoleSoFar acts start now cost_may_take setting role kind moment_now log_now keeps_now
so_far_as acts start state now cost_may_take setting role kind moment moment_now log log_now keeps keeps_now m l k
    same is =
    subst (λ (x : ℕ → ℕ). IsRoleSoFar acts start now cost_may_take setting role kind x log_now keeps_now) m
    (subst (λ (x : Log). IsRoleSoFar acts start now cost_may_take setting role kind moment x keeps_now) l
    (subst (λ (x : Keeps). IsRoleSoFar acts start now cost_may_take setting role kind moment log x) k
    (so_far_states acts start state now cost_may_take setting role kind moment log keeps same is)))

-- Passes

pub record Passed {S : Type 0} (acts : ℕ → S → Handling → S → Type 0) (start state : ℕ → S)
    (cost_may_take : ℕ → ℕ → Type 0) (setting : Setting) (role : ℕ) (kind : RoleKind) (at : ℕ) (moment : ℕ → ℕ)
    (before after : Log) (keeps : Keeps) : Type 0 where
  pub added : Log
  pub grown : after ≡ added ++ before
  pub so_far : IsRoleSoFar acts start state cost_may_take setting role kind (moment_then moment (length before) at)
      after keeps
  pub whole : IsWhole setting (λ r. aged_by setting role (moment_then moment (length before) at) after) role kind
      before added

pub passed_of : {S : Type 0} (acts : ℕ → S → Handling → S → Type 0) (start state now : ℕ → S)
    (cost_may_take : ℕ → ℕ → Type 0) (setting : Setting) (role : ℕ) (kind : RoleKind) (first at : ℕ) (closing : Bool)
    (moment : ℕ → ℕ) (before after : Log) (was keeps : Keeps) (answer : Pass)
    → IsRoleSoFar acts start state cost_may_take setting role kind moment before was
    → IsRolePass acts start now cost_may_take setting role kind first at closing moment before after was keeps answer
    → is_complete answer ≡ true
    → Passed acts start now cost_may_take setting role kind at moment before after keeps
passed_of acts start state now cost_may_take setting role Receives first at closing moment before after was keeps answer
    earlier pass complete =
    record { added = pass.added; grown = pass.grown; so_far = pass.so_far; whole = pass.whole complete }
passed_of acts start state now cost_may_take setting role Sends first at closing moment before after was keeps answer
    earlier pass complete =
    record { added = pass.added; grown = pass.grown; so_far = pass.so_far; whole = pass.whole complete }
passed_of acts start state now cost_may_take setting role Handles first at closing moment before after was keeps answer
    earlier pass complete =
    let whole = pass.1.whole complete in
    let evens : (f : FnId) → IsOwn setting role f
    → AreEven f (pass.1.added ++ before) × IsEven f (pass.1.added ++ before)
    = λ f own.
    even_pass setting f before pass.1.added earlier.0.rests.hand (whole.1.served f own) (whole.1.samples f own)
    (earlier.1.at_looks f own) (earlier.1.now f own) in
    record {
      added = pass.1.added;
      grown = pass.1.grown;
      so_far = (
        subst (λ (h : Option Hand).
            IsCoreSoFar acts start now cost_may_take setting role h after keeps.core) whole.0 pass.1.so_far,
        subst (AreServedEvenly setting role) (sym pass.1.grown)
            (record { at_looks = λ f own. (evens f own).0; now = λ f own. (evens f own).1 }),
      );
      whole = whole.1;
    }
passed_of acts start state now cost_may_take setting role Ticks first at closing moment before after was keeps answer
    earlier pass complete =
    record { added = pass.added; grown = pass.grown; so_far = pass.so_far; whole = pass.whole complete }
passed_of acts start state now cost_may_take setting role Leads first at closing moment before after was keeps answer
    earlier pass complete = absurd pass

-- A pass under answers that are the same for its role
pub whole_at : (setting : Setting) (left right : ℕ → Ages) (role : ℕ) (kind : RoleKind) (before added : Log)
    → left role ≡ right role → IsWhole setting left role kind before added
    → IsWhole setting right role kind before added
whole_at setting left right role Receives before added same is = rw same at is
whole_at setting left right role Sends before added same is = rw same at is
whole_at setting left right role Handles before added same is = is
whole_at setting left right role Ticks before added same is = is
whole_at setting left right role Leads before added same is = is
