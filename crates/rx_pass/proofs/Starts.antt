-- A new role.
use Rattle.std.proofs.Common.{◌≡◌, ℕ, ◌-◌, ◌<◌, ◌≤◌, List, [], ◌++◌, length, sym, ap, ◌∙◌, subst, refl, arith, Option, Some, None}
use Rattle.onvm_base.specs.declared.frame.Frame.{Frame}
use Rattle.onvm_base.specs.declared.ids.PortId.{PortId}
use Rattle.onvm_base.specs.declared.plan.Plan.{Plan}
use Rattle.onvm_core.specs.declared.layout.Layout.{Layout}
use Rattle.onvm_core.specs.Layouts.{IsFeeder, IsLayout, IsLayoutOf}
use Rattle.onvm_core.specs.Logs.{Setting}
use Rattle.onvm_core.specs.Marks.{Ages}
use Rattle.onvm_core.specs.Receiving.ReceivePhase.{Between}
use Rattle.onvm_board.specs.Tokens.{BoardView, TokenView}
use Rattle.desc_ring.specs.Arrays.{AreNew, lane_from, new_tail}
use Rattle.desc_ring.proofs.Beginning.{lanes_begin}
use Rattle.onvm_promises.specs.Times.{aged_by}
use Rattle.entry_throttle.specs.Feeders.{FeederView, IsNewFeeder}
use Rattle.entry_throttle.specs.Throttles.{AreMarksOf}
use Rattle.entry_throttle.proofs.Starts.{feeder_at_start, marks_at_start, moments_at_start, settled_at_start}
use Rattle.mbuf_pool.specs.Parts.{IsPartOf}
use Rattle.flow_table.specs.Flows.{table_of}
use Rattle.rx_feed.specs.declared.feed.Feed.{Feed}
use Rattle.rx_feed.specs.Feeds.{IsPulledOf, fresh_standing}
use Rattle.rx_pass.specs.declared.inlet.Inlet.{Inlet}
use Rattle.rx_pass.specs.declared.role.RxRole.{RxRole}
use Rattle.rx_pass.specs.Roles.{pulled_of, waiting_of}
use Rattle.rx_pass.specs.Rooms.{IsNewRole}

-- a plan asks for one layout
pub one_layout : (plan : Plan) (a b : Layout) → IsLayoutOf plan a → IsLayoutOf plan b → a ≡ b
one_layout plan a b left right =
    let ports = left.ports ∙ sym right.ports in
    let transmit = left.transmit ∙ sym right.transmit in
    let cores = left.cores ∙ sym right.cores in
    let functions = left.functions ∙ sym right.functions in
    let buffers = left.buffers ∙ sym right.buffers in
    let ring = left.ring ∙ sym right.ring in
    let output = left.output ∙ sym right.output in
    let core_of = left.core_of ∙ sym right.core_of in
    λ i. record {
      ports = ports i;
      transmit = transmit i;
      cores = cores i;
      functions = functions i;
      buffers = buffers i;
      ring = ring i;
      output = output i;
      core_of = core_of i;
    }

pub new_role : {I : Type 0} (site : BoardView) (plan : Plan) (port : PortId) (rx : RxRole I) → IsLayoutOf plan site.layout
    → IsPartOf site.layout rx.inlet.part → rx.inlet.part.port ≡ port → rx.flows ≡ table_of plan port
    → AreNew (new_tail site.layout) (lane_from port.0) site.layout.functions rx.inlet.lanes.items
    → IsNewFeeder plan port.0 rx.inlet.feeder → rx.inlet.kept.records.items ≡ [] → rx.inlet.kept.sent.items ≡ []
    → waiting_of rx ≡ [] → pulled_of rx ≡ [] → IsPulledOf rx.intake.feed rx.intake.standing
    → IsNewRole site plan port rx
new_role {I} site plan port rx layout part port_is flows lanes feeder records sent waits pulled frames =
    let fed : FeederView = rx.inlet.feeder in
    let own : ℕ = port.0 in
    let below : own < site.layout.ports =
    subst (λ (p : PortId). p.0 < site.layout.ports) port_is part.port in
    let known : IsFeeder site.layout own = omega (arith, below) in record {
      ready = λ token board mine fresh empty. record {
        layout_of = layout;
        receives = subst (λ (r : ℕ). r < site.layout.ports) (sym mine) below;
        inlet = record {
          lanes =
              lanes_begin site token part.ranges board fresh rx.inlet.lanes.items
              (subst (IsFeeder site.layout) (sym mine) known)
              (subst (λ (r : ℕ). AreNew (new_tail site.layout) (lane_from r) site.layout.functions rx.inlet.lanes.items)
              (sym mine) lanes);
          feeder = feeder_at_start site plan own fed token feeder layout known board mine fresh;
          ages = feeder.ages_long ∙ sym layout.functions;
          high = omega (arith, feeder.high_is, plan.kept.sizes_are.low, plan.kept.sizes_are.marks);
          part = part;
          port = mine ∙ sym (ap (λ (p : PortId). p.0) port_is);
        };
        marks = record { high = feeder.high_is; low = feeder.low_is; age = feeder.age_is };
        empty_handed = empty;
        flows = subst (λ (r : ℕ). rx.flows ≡ table_of plan (record { 0 = r })) (sym mine) flows;
        queue = ([], pulled ∙ sym waits);
        few = omega (arith, ap (length {A = Frame}) waits);
        frames = frames;
      };
      in_order = λ setting moment fits. record {
        so_far = record {
          rests = record {
            blocks = tt;
            between = refl;
            feeder = settled_at_start setting own (aged_by setting own moment []);
          };
          kept = record { records = records; sent = sent; posts = feeder.posts_are };
        };
        done =
            ap (λ (n : ℕ). Between n)
            (let e : 0 ≡ length (pulled_of rx) - length (waiting_of rx) =
            omega (arith, ap (length {A = Frame}) pulled) in e);
        marks =
            subst (λ (n : ℕ). AreMarksOf setting n (aged_by setting own moment []) fed.marks (length fed.posts) [])
            feeder.number_is
            (marks_at_start setting (aged_by setting own moment []) plan own fed feeder
            (sym layout.functions ∙ sym (ap (λ (l : Layout). l.functions) fits.layout_is)));
        moments = moments_at_start moment plan own fed feeder;
      };
    }

pub fresh_pulls_none : {I : Type 0} (feed : Option (Feed I)) → (fresh_standing feed).pulled ≡ []
fresh_pulls_none None = refl
fresh_pulls_none (Some feed) = refl
