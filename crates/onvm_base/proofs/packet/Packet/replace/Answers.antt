use Rattle.std.proofs.Common.{◌≡◌, ◌∙◌, sym, ap, append_assoc, ℕ, List, ◌-◌, ◌≤◌, ◌+◌, ◌++◌, length, take, drop, arith, refl}
use Rattle.std.proofs.lemmas.List.{length-take-le, with_items_is}
use Rattle.std.proofs.lemmas.Grind.{common_steps}
use Rattle.onvm_base.proofs.Replaced.{moved, replaced}
use Rattle.onvm_base.proofs.packet.Packet.replace.Goals as goal

pub returns-clause-ok : goal.returns-clause-ok
returns-clause-ok c =
    let s : List ℕ = c.self.inside.bytes.items in
    let w : List ℕ = c.args.with.now in
    let growth : ℕ = length w - (c.args.upto - c.args.from) in
    let there : c.args.upto ≤ length s = rw c.self.view_is c.requires.within in
    let enough : length w ≤ length (take growth w) + (c.args.upto - c.args.from) =
    omega (arith, length-take-le growth w (omega arith)) in
    let same_len : c.len-len.result ≡ length s = omega arith in
    let room : c.extend_from_slice.new.self.items ≡ s ++ take growth w = grind (arith, common_steps) in
    let over : c.deref_mut.result.now ≡ moved s w (take growth w) c.args.from c.args.upto c.requires.start there enough =
    c.deref_mut.ensures.value ∙ c.copy_within.ensures.items ∙ rw (room, same_len) refl in
    let put : take (length s - (c.args.upto - c.args.from) + length w) c.overwrite.new.bytes
    ≡ take c.args.from s ++ (w ++ drop c.args.upto s) =
    rw (c.overwrite.ensures, over) (replaced s w (take growth w) c.args.from c.args.upto c.requires.start there enough) in
    c.truncate.ensures.items
    ∙ ap (take _) (with_items_is c.copy_within.new.self c.overwrite.new.bytes (omega arith))
    ∙ ap (λ (n : ℕ). take n c.overwrite.new.bytes) (omega arith)
    ∙ put ∙ sym (append_assoc (take c.args.from s) w (drop c.args.upto s)) ∙ rw c.self.view_is refl
