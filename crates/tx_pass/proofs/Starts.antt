-- A new role.
use Rattle.std.proofs.Common.{◌≡◌, ℕ, [], length, sym, ◌∙◌, subst, refl, arith}
use Rattle.onvm_base.specs.declared.plan.Plan.{Plan}
use Rattle.onvm_core.specs.declared.layout.Layout.{Layout}
use Rattle.onvm_core.specs.Layouts.{IsFeeder, IsLayout, IsLayoutOf}
use Rattle.onvm_board.specs.Tokens.{BoardView}
use Rattle.desc_ring.specs.Arrays.{AreNew, lane_from, new_head, new_tail, output_of}
use Rattle.desc_ring.proofs.Beginning.{heads_begin, lanes_begin}
use Rattle.onvm_promises.specs.Roles.{setting_of}
use Rattle.onvm_promises.specs.Times.{aged_by}
use Rattle.entry_throttle.specs.Feeders.{FeederView, IsNewFeeder}
use Rattle.entry_throttle.specs.Throttles.{AreMarksOf}
use Rattle.entry_throttle.proofs.Starts.{feeder_at_start, marks_at_start, moments_at_start, settled_at_start}
use Rattle.tx_pass.specs.declared.role.TxRole.{TxRole}
use Rattle.tx_pass.specs.Roles.{IsNewRole, IsTransmit}

-- a plan asks for one layout
pub one_layout : (plan : Plan) (a b : Layout) → IsLayoutOf plan a → IsLayoutOf plan b → a ≡ b
one_layout plan a b left right =
    let ports = left.ports ∙ sym right.ports in
    let transmit = left.transmit ∙ sym right.transmit in
    let cores = left.cores ∙ sym right.cores in
    let functions = left.functions ∙ sym right.functions in
    let buffers = left.buffers ∙ sym right.buffers in
    let ring = left.ring ∙ sym right.ring in
    let output = left.output ∙ sym right.output in
    let core_of = left.core_of ∙ sym right.core_of in
    λ i. record {
      ports = ports i;
      transmit = transmit i;
      cores = cores i;
      functions = functions i;
      buffers = buffers i;
      ring = ring i;
      output = output i;
      core_of = core_of i;
    }

pub new_role : (site : BoardView) (plan : Plan) (number : ℕ) (role : TxRole) → IsLayoutOf plan site.layout
    → IsLayout site.layout → IsTransmit site.layout number → role.number ≡ number
    → AreNew (new_head site.layout) output_of site.layout.functions role.heads.items
    → AreNew (new_tail site.layout) (lane_from number) site.layout.functions role.outlet.lanes.items
    → IsNewFeeder plan number role.outlet.feeder → role.outlet.kept.records.items ≡ [] → role.outlet.kept.sent.items ≡ []
    → IsNewRole site plan number role
new_role site plan number role layout ranges transmit number_is heads lanes feeder records sent =
    let fed : FeederView = role.outlet.feeder in record {
      ready = λ token board mine fresh empty. record {
        layout_of = layout;
        transmit = subst (IsTransmit site.layout) (sym mine) transmit;
        number = mine ∙ sym number_is;
        heads = heads_begin site token ranges board fresh role.heads.items heads;
        outlet = record {
          lanes =
              lanes_begin site token ranges board fresh role.outlet.lanes.items
              (subst (IsFeeder site.layout) (sym mine) transmit.below)
              (subst (λ (r : ℕ). AreNew (new_tail site.layout) (lane_from r) site.layout.functions role.outlet.lanes.items)
              (sym mine) lanes);
          feeder = feeder_at_start site plan number fed token feeder layout transmit.below board mine fresh;
          ages = feeder.ages_long ∙ sym layout.functions;
          high = omega (arith, feeder.high_is, plan.kept.sizes_are.low, plan.kept.sizes_are.marks);
        };
        marks = record { high = feeder.high_is; low = feeder.low_is; age = feeder.age_is };
        empty_handed = empty;
      };
      in_order = λ entries moment. record {
        so_far = record {
          rests = record {
            blocks = tt;
            free = refl;
            feeder =
                settled_at_start (setting_of site.layout plan entries) number
                (aged_by (setting_of site.layout plan entries) number moment []);
          };
          kept = record { records = records; sent = sent; posts = feeder.posts_are };
        };
        marks =
            subst (λ (n : ℕ). AreMarksOf (setting_of site.layout plan entries) n
            (aged_by (setting_of site.layout plan entries) number moment []) fed.marks (length fed.posts) [])
            feeder.number_is
            (marks_at_start (setting_of site.layout plan entries)
            (aged_by (setting_of site.layout plan entries) number moment []) plan number fed feeder (sym layout.functions));
        moments = moments_at_start moment plan number fed feeder;
      };
    }
