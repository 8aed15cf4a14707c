-- Each list in the order of its frames.
use Rattle.std.proofs.Common.{◌≡◌, List, rules, subst}
use Rattle.std.specs.List.Sorted.{IsStableByKey}
use Rattle.std.specs.Ordering.{nat_cmp}
use Rattle.std.proofs.lemmas.Fn.{always_returns_same}
use Rattle.std.proofs.lemmas.List.Sorted.{IsNonDecreasingBy-from_sort_by_key}
use Rattle.onvm_base.specs.declared.frame.SentFrame.{SentFrame}
use Rattle.onvm_base.specs.declared.outcome.Record.{Record}
use Rattle.onvm_session.specs.Gathering.{frame_key}
use Rattle.onvm_session.proofs.lists.Gathered.into_lists.Goals as goal

pub returns-clause-records : goal.returns-clause-records
returns-clause-records c =
    let given : c.from_vec-records.result ≡ c.args.self.records.items = search rules in
    record {
      same = search rules;
      rising =
          IsNonDecreasingBy-from_sort_by_key (λ (told : Record). frame_key told.frame) _
          c.in_ok-sort_by_key.ensures.sorted (λ a r q k. search rules);
      stable =
          subst (λ (items : List Record).
          IsStableByKey (λ told. frame_key told.frame) nat_cmp items c.sort_by_key.new.self) given
          (c.in_ok-sort_by_key.ensures.stable (λ told. frame_key told.frame)
          (always_returns_same _ (λ a r. r ≡ frame_key a.0.now.frame) _ (λ a r q k. search rules)));
    }

pub returns-clause-sent : goal.returns-clause-sent
returns-clause-sent c =
    let given : c.from_vec-sent.result ≡ c.args.self.sent.items = search rules in
    record {
      same = search rules;
      rising =
          IsNonDecreasingBy-from_sort_by_key (λ (sent : SentFrame). frame_key sent.frame) _
          c.in_ok-sort_by_key-2.ensures.sorted (λ a r q k. search rules);
      stable =
          subst (λ (items : List SentFrame).
          IsStableByKey (λ sent. frame_key sent.frame) nat_cmp items c.sort_by_key-2.new.self) given
          (c.in_ok-sort_by_key-2.ensures.stable (λ sent. frame_key sent.frame)
          (always_returns_same _ (λ a r. r ≡ frame_key a.0.now.frame) _ (λ a r q k. search rules)));
    }
