use Rattle.std.proofs.Common.{◌≡◌, ◌∙◌, sym, ap, subst, ℕ, ◌+◌, ◌<◌, List, ◌++◌, length, take, None, Some, is_ok, true, arith, rules}
use Rattle.std.specs.Io.KnownBytes.{Consumes}
use Rattle.std.proofs.KnownBytes.{Consumes-nil}
use Rattle.std.proofs.lemmas.Grind.{common_steps}
use Rattle.std.proofs.lemmas.List.{append-nil, length-append}
use Rattle.onvm_host.specs.Moved.{MovedSince}
use Rattle.onvm_host.proofs.Bytes.{Consumes-append}
use Rattle.onvm_host.proofs.Moved.{MovedSince-next, MovedSince-start, Reads-next}
use Rattle.onvm_top.specs.Calls.{chain_limit}
use Rattle.onvm_top.proofs.chain.read_text.Goals as goal

pub loop-source-init : goal.loop-source-init
loop-source-init g c =
    let Since : List ℕ → Type 0 =
    λ text. MovedSince (length text) (g.S.Source.takes c.args.source.now) (g.S.Source.takes c.args.source.now) in
    let Taken : List ℕ → Type 0 = Consumes (g.S.Source.left c.args.source.now) (g.S.Source.left c.args.source.now) in
    record {
      room = search rules;
      named = search rules;
      taken = subst Taken (sym c.new-text.ensures.items) (Consumes-nil _);
      moved = subst Since (sym c.new-text.ensures.items) (MovedSince-start _);
      ends = λ some. absurd (omega (arith, some, ap length c.new-text.ensures.items));
    }

pub returns-in_default-take-clause-read : goal.returns-in_default-take-clause-read
returns-in_default-take-clause-read g c = λ _.
    Reads-next chain_limit (length c.loop-source.text.items) None _ _ _ c.loop-source.invariant.moved
    c.in_default-take.ensures.told (search rules)

pub returns-in_default-take-clause-named : goal.returns-in_default-take-clause-named
returns-in_default-take-clause-named g c = c.take.ensures.named ∙ c.loop-source.invariant.named

pub returns-then-count-eq0-clause-taken : goal.returns-then-count-eq0-clause-taken
returns-then-count-eq0-clause-taken g c =
    let text : List ℕ = c.loop-source.text.items in
    let none : c.in-Ok-take.count ≡ 0 = search rules in
    subst (Consumes (g.S.Source.left c.args.source.now) (g.S.Source.left c.take.new.self))
    (ap (λ n. text ++ take n c.take.new.into) none ∙ append-nil text)
    (Consumes-append _ _ _ text (take c.in-Ok-take.count c.take.new.into) c.loop-source.invariant.taken
    c.in-Ok-take.ensures.bytes.0)

pub returns-then-count-eq0-clause-whole : goal.returns-then-count-eq0-clause-whole
returns-then-count-eq0-clause-whole g c = λ _. c.in-Ok-take.ensures.bytes.1 (search rules) (search rules)

pub returns-then-count-eq0-clause-ok : goal.returns-then-count-eq0-clause-ok
returns-then-count-eq0-clause-ok g c = (
  c.in-Ok-take.count,
  Reads-next chain_limit (length c.loop-source.text.items) (Some c.in-Ok-take.count) _ _ _ c.loop-source.invariant.moved
      c.in-Ok-take.ensures.told (search rules),
)

pub returns-then-count-eq0-clause-named : goal.returns-then-count-eq0-clause-named
returns-then-count-eq0-clause-named g c = c.take.ensures.named ∙ c.loop-source.invariant.named

pub returns-then-is_err-clause-memory : goal.returns-then-is_err-clause-memory
returns-then-is_err-clause-memory g c = λ _. (
  length c.loop-source.text.items + c.in-Ok-take.count,
  MovedSince-next (length c.loop-source.text.items) c.in-Ok-take.count _ _ _ c.loop-source.invariant.moved
      c.in-Ok-take.ensures.told (search rules),
)

pub returns-then-is_err-clause-named : goal.returns-then-is_err-clause-named
returns-then-is_err-clause-named g c = c.take.ensures.named ∙ c.loop-source.invariant.named

pub loop-source-smaller : goal.loop-source-smaller
loop-source-smaller g c =
    let text : List ℕ = c.loop-source.text.items in
    let some : 0 < c.in-Ok-take.count = search rules in
    let fewer : length text < chain_limit = search rules in
    let ok : is_ok c.extend_from_slice.result ≡ true = search rules in
    let grown : c.extend_from_slice.new.self.items ≡ text ++ take c.in-Ok-take.count c.take.new.into =
    grind (arith, common_steps) in
    omega (
      arith,
      some,
      fewer,
      ap length grown,
      length-append text (take c.in-Ok-take.count c.take.new.into),
      c.in-Ok-take.ensures.bound.1,
    )

pub loop-source-preserved : goal.loop-source-preserved
loop-source-preserved g c =
    let kept = c.loop-source.invariant in
    let text : List ℕ = c.loop-source.text.items in
    let piece : List ℕ = take c.in-Ok-take.count c.take.new.into in
    let ok : is_ok c.extend_from_slice.result ≡ true = search rules in
    let grown : c.extend_from_slice.new.self.items ≡ text ++ piece = grind (arith, common_steps) in
    let some : 0 < c.in-Ok-take.count = search rules in
    let fewer : length text < chain_limit = search rules in
    let size : length text + c.in-Ok-take.count ≡ length c.extend_from_slice.new.self.items =
    omega (arith, ap length grown, length-append text piece, c.in-Ok-take.ensures.bound.1) in
    let Since : ℕ → Type 0 =
    λ n. MovedSince n (g.S.Source.takes c.args.source.now) (g.S.Source.takes c.take.new.self) in
    let Taken : List ℕ → Type 0 = Consumes (g.S.Source.left c.args.source.now) (g.S.Source.left c.take.new.self) in
    record {
      room = search rules;
      named = c.take.ensures.named ∙ kept.named;
      taken = subst Taken (sym grown) (Consumes-append _ _ _ text piece kept.taken c.in-Ok-take.ensures.bytes.0);
      moved =
          subst Since size
          (MovedSince-next (length text) c.in-Ok-take.count _ _ _ kept.moved c.in-Ok-take.ensures.told some);
      ends = λ _. (
        c.in-Ok-take.count,
        Reads-next chain_limit (length text) (Some c.in-Ok-take.count) _ _ _ kept.moved c.in-Ok-take.ensures.told fewer,
      );
    }

pub returns-clause-taken : goal.returns-clause-taken
returns-clause-taken g c = c.loop-source.invariant.taken

pub returns-clause-whole : goal.returns-clause-whole
returns-clause-whole g c = λ short. absurd (omega (arith, short, c.loop-source-test.false, c.len.ensures))

pub returns-clause-ok : goal.returns-clause-ok
returns-clause-ok g c = c.loop-source.invariant.ends (search rules)

pub returns-clause-named : goal.returns-clause-named
returns-clause-named g c = c.loop-source.invariant.named
