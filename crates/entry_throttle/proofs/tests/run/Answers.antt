use Rattle.std.proofs.Common.{◌≡◌, refl, sym, subst, ap, ◌∙◌, ℕ, zero, suc, ◌-◌, List, [], ◌++◌, length, arith}
use Rattle.std.specs.Prelude.{map, replicate, slice_index, slice_index_or}
use Rattle.onvm_base.specs.declared.function.FunctionPlan.{FunctionPlan}
use Rattle.onvm_base.specs.declared.limits.TheConstants.{MAX_FUNCTIONS}
use Rattle.onvm_core.specs.Logs.{Log}
use Rattle.onvm_core.specs.Potential.{popped_in, pushed_in}
use Rattle.onvm_board.specs.Known.{is_split_in}
use Rattle.onvm_board.specs.Spots.{start_spot}
use Rattle.onvm_board.specs.Tokens.{TokenView}
use Rattle.desc_ring.specs.declared.head.Head.{Head}
use Rattle.desc_ring.specs.declared.tail.Tail.{Tail}
use Rattle.desc_ring.specs.Ends.{IsHeadOf, IsTailOf}
use Rattle.desc_ring.proofs.Beginning.{head_begins, tail_begins}
use Rattle.entry_throttle.specs.Looks.{lane}
use Rattle.entry_throttle.proofs.Starts.{feeder_at_start}
use Rattle.entry_throttle.proofs.tests.run.Goals as goal

none_kept : (n i : ℕ) → ◌≡◌ {A = Log} (slice_index_or (replicate n []) i []) []
none_kept zero i = refl
none_kept (suc n) zero = refl
none_kept (suc n) (suc i) = none_kept n i

pub split-receive-requires-clause-first : goal.split-receive-requires-clause-first
split-receive-requires-clause-first c = record {
  board = ap (λ (t : TokenView). t.board) c.requires.first;
  role = ap (λ (t : TokenView). t.role) c.requires.first;
}

pub split-receive-requires-clause-whole : goal.split-receive-requires-clause-whole
split-receive-requires-clause-whole c = record {
  below = omega arith;
  joined = ap (λ (t : TokenView). is_split_in 0 t.log) c.requires.first;
}

pub split-core-requires-clause-first : goal.split-core-requires-clause-first
split-core-requires-clause-first c =
    let grew = c.split-receive.ensures.first in record {
      board = ap (λ (t : TokenView). t.board) grew ∙ ap (λ (t : TokenView). t.board) c.requires.first;
      role = ap (λ (t : TokenView). t.role) grew ∙ ap (λ (t : TokenView). t.role) c.requires.first;
    }

pub split-core-requires-clause-whole : goal.split-core-requires-clause-whole
split-core-requires-clause-whole c =
    let layout = c.requires.layout in
    let plan = c.requires.plan in record {
      below = omega (arith, layout.ports, plan.ports, layout.transmit, plan.transmit, layout.cores, plan.cores);
      joined =
          ap (λ (t : TokenView). is_split_in 2 t.log) c.split-receive.ensures.first
          ∙ ap (λ (t : TokenView). is_split_in 2 t.log) c.requires.first;
    }

pub at-tail-requires : goal.at-tail-requires
at-tail-requires c =
    let functions = c.requires.layout.functions ∙ ap (λ (fs : List FunctionPlan). length fs)
    c.requires.plan.functions in
    record { known = (omega (arith, functions), omega (arith, c.requires.layout.ports, c.requires.plan.ports)) }

pub story-requires-clause-layout : goal.story-requires-clause-layout
story-requires-clause-layout c =
    let layout = c.requires.layout in
    let plan = c.requires.plan in record {
      ports = layout.ports ∙ plan.ports;
      transmit = layout.transmit ∙ plan.transmit;
      cores = layout.cores ∙ plan.cores;
      functions = layout.functions ∙ ap (λ (fs : List FunctionPlan). length fs) plan.functions;
      buffers = layout.buffers ∙ plan.buffers;
      ring = layout.ring ∙ plan.ring;
    }

pub story-requires-clause-feeds : goal.story-requires-clause-feeds
story-requires-clause-feeds c =
    let layout = c.requires.layout in
    let plan = c.requires.plan in
    let token : TokenView = c.split-receive.result in
    let is = c.split-receive.ensures.role in
    let on_board = ap (λ (t : TokenView). t.board) is ∙ ap (λ (t : TokenView). t.board) c.requires.first in
    let role = ap (λ (t : TokenView). t.role) is in
    let empty : token.log ≡ [] =
    ap (λ (t : TokenView). t.log) is ∙ ap (λ (t : TokenView). slice_index_or t.logs 0 []) c.requires.first
    ∙ none_kept _ 0 in
    let functions = layout.functions ∙ ap (λ (fs : List FunctionPlan). length fs) plan.functions in
    let own = tail_begins c.args.board.now (lane 0 0) token c.requires.ranges on_board
    (omega (arith, functions), omega (arith, layout.ports, plan.ports)) (ap (pushed_in (lane 0 0)) empty) in
    record {
      feeder =
          feeder_at_start c.args.board.now c.args.plan.now 0 c.in_ok-feeder.feeder token c.in_ok-feeder.ensures layout
          (omega (arith, layout.ports, plan.ports)) on_board role empty;
      tail =
          subst (λ (tail : Tail). IsTailOf c.args.board.now tail token)
          (sym (c.at-tail.ensures
          ∙ ap (λ (n : ℕ). record { spot = start_spot c.args.board.now.layout (lane 0 0); size = n })
          (sym (layout.ring ∙ plan.ring)))) (own.own role);
      ring = ap (λ (tail : Tail). tail.spot.ring) c.at-tail.ensures;
      role = role;
      empty_handed = ap (λ (t : TokenView). t.hand) is;
    }

pub story-requires-clause-head : goal.story-requires-clause-head
story-requires-clause-head c =
    let layout = c.requires.layout in
    let plan = c.requires.plan in
    let token : TokenView = c.split-core.result in
    let is = c.split-core.ensures.role in
    let grew = c.split-receive.ensures.first in
    let on_board =
    ap (λ (t : TokenView). t.board) is ∙ ap (λ (t : TokenView). t.board) grew
    ∙ ap (λ (t : TokenView). t.board) c.requires.first in
    let empty : token.log ≡ [] =
    ap (λ (t : TokenView). t.log) is ∙ ap (λ (t : TokenView). slice_index_or t.logs 2 []) grew
    ∙ ap (λ (t : TokenView). slice_index_or t.logs 2 []) c.requires.first ∙ none_kept _ 2 in
    let functions = layout.functions ∙ ap (λ (fs : List FunctionPlan). length fs) plan.functions in
    let core : slice_index c.args.board.now.layout.core_of 0 ≡ 0 =
    ap (λ (cs : List ℕ). slice_index cs 0) (layout.core_of
    ∙ ap (λ (fs : List FunctionPlan). map (λ (f : FunctionPlan). f.core) fs ++ replicate (MAX_FUNCTIONS - length fs) 0)
    plan.functions) in
    let own = head_begins c.args.board.now (lane 0 0) token c.requires.ranges on_board
    (omega (arith, functions), omega (arith, layout.ports, plan.ports)) tt (ap (popped_in (lane 0 0)) empty) in
    subst (λ (head : Head). IsHeadOf c.args.board.now head token)
    (sym (c.at-head.ensures
    ∙ ap (λ (n : ℕ). record { spot = start_spot c.args.board.now.layout (lane 0 0); size = n })
    (sym (layout.ring ∙ plan.ring))))
    (own.own (ap (λ (t : TokenView). t.role) is
    ∙ omega (arith, core, layout.ports, plan.ports, layout.transmit, plan.transmit)))
