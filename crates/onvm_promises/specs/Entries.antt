-- The frames of a run as they enter: the chain and the hash of each.
use Rattle.std.specs.Prelude.{ℕ, ◌≡◌, ◌+◌, List, [], ◌∷◌}
use Rattle.onvm_base.specs.declared.frame.Frame.{Frame}
use Rattle.onvm_base.specs.declared.ids.PortId.{PortId}
use Rattle.onvm_base.specs.declared.plan.Plan.{Plan}
use Rattle.onvm_core.specs.declared.entry.Entry.{Entry}
use Rattle.onvm_core.specs.Logs.{Setting, entries_of_port}
use Rattle.onvm_core.specs.Settings.{IsSetting}
use Rattle.onvm_packet.specs.Flow.{flow_hash_of}
use Rattle.onvm_packet.specs.Heads.{heads_of}
use Rattle.rule_match.specs.Rules.{chain_of}

-- a port's frame with this number: its chain is that of the first rule that holds for it, its hash that of its flow
abbrev pub entry_of : Plan → PortId → (number : ℕ) → Frame → Entry
entry_of plan port number frame =
    record {
      frame = record { port = port; number = number };
      stamp = frame.stamp;
      packet = frame.packet;
      chain = chain_of plan.rules plan.default port (heads_of frame.packet);
      hash = flow_hash_of (heads_of frame.packet);
    }

-- the frames of a port that come after so many of its frames
abbrev pub entries_from : Plan → PortId → (done : ℕ) → List Frame → List Entry
entries_from plan port done [] = []
entries_from plan port done (frame ∷ frames) =
    entry_of plan port (done + 1) frame ∷ entries_from plan port (done + 1) frames

-- a run of a plan and of the frames of each port
pub record IsRunOf (plan : Plan) (frames : ℕ → List Frame) (setting : Setting) : Type 0 where
  pub setting_is : IsSetting setting
  pub plan_is : setting.plan ≡ plan
  pub enter : (port : ℕ) → entries_of_port port setting.entries ≡ entries_from plan (record { 0 = port }) 0 (frames port)
