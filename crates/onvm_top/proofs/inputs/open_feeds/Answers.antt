use Rattle.std.proofs.Common.{◌∙◌, ◌+◌, sym, ap, subst, arith, List, [], ◌++◌, ◌∷◌, slice_index_or, take, drop, suc, Some}
use Rattle.std.proofs.lemmas.List.{length-take-le, take_all, take_more}
use Rattle.std.proofs.lemmas.Option.{slice_get-get_or}
use Rattle.rx_feed.specs.declared.feed.Feed.{Feed}
use Rattle.command_words.specs.declared.capture.CaptureWord.{CaptureWord}
use Rattle.command_words.specs.declared.capture.CaptureWord.TheVariants.{File}
use Rattle.onvm_top.proofs.Opening.{ArePairs, names_later, only_one, opened_more, pairs_are, pairs_more, split_at, stops_opening}
use Rattle.onvm_top.specs.Calls.{Adds}
use Rattle.onvm_top.specs.Inputs.{AreFeedsOf, IsFeedOf, StopsAtOpens, shuts_of}
use Rattle.onvm_top.specs.declared.fault.Fault.{Fault}
use Rattle.onvm_top.proofs.inputs.open_feeds.Goals as goal

-- read behind the end
abbrev beyond : CaptureWord
beyond = File (record { ref_ptr = (0, 0); now = [] })

pub open_feed-requires-clause-name : goal.open_feed-requires-clause-name
open_feed-requires-clause-name g c κs within port name found =
    let at = c.loop-capture in
    let here = only_one _ _ port found in
    at.invariant.names.still_opens name.now
    (c.requires.names at.capture-index name
    (slice_get-get_or c.args.captures.now at.capture-index _ c.loop-capture-test.true ∙ ap Some here))

pub loop-capture-preserved : goal.loop-capture-preserved
loop-capture-preserved g c =
    let at = c.loop-capture in
    let was = at.invariant in
    let captures = c.args.captures.now in
    let here = slice_index_or captures at.capture-index beyond in
    let source = g.H.Input.Source in
    let told = g.H.Host.files c.args.host.now in
    let grown = take_more captures at.capture-index beyond c.loop-capture-test.true in
    let pushed = c.push_reserved.ensures in
    let opened = c.in-Ok-open_feed.ensures in
    let feed = c.in-Ok-open_feed.feed in
    let many = was.many in
    let room = was.room in
    let longer = pushed.len in
    let capacity = pushed.capacity in
    record {
      many = omega (arith, many, longer);
      room = omega (arith, room, capacity);
      pairs =
          subst (λ (cs : List CaptureWord). ArePairs source.name source.left source.takes told cs
          c.push_reserved.new.self.items) (sym grown)
          (subst (λ (fs : List (Feed g.row.H-Input.Denot)). ArePairs source.name source.left source.takes told
          (take at.capture-index captures ++ here ∷ []) fs) (sym pushed.items)
          (pairs_more source.name source.left source.takes told (take at.capture-index captures) at.feeds.items here feed
          was.pairs
          (subst (λ files. IsFeedOf source.name source.left source.takes files here feed) was.files opened.feed)));
      opened = opened_more (g.H.Host.deeds c.args.host.now) (g.H.Host.deeds at.host) (g.H.Host.deeds c.open_feed.new.host)
          (take at.capture-index captures) (take (at.capture-index + 1) captures) here feed was.opened opened.told grown;
      files = opened.files ∙ was.files;
      said = opened.said ∙ was.said;
      names = names_later _ _ _ _ _ _ was.names opened.names;
    }

pub returns-in-Err-clause-err : goal.returns-in-Err-clause-err
returns-in-Err-clause-err g c =
    let at = c.loop-capture in
    let was = at.invariant in
    let captures = c.args.captures.now in
    let here = slice_index_or captures at.capture-index beyond in
    let source = g.H.Input.Source in
    let told = g.H.Host.files c.args.host.now in
    let start = g.H.Host.deeds c.args.host.now in
    let last = g.H.Host.deeds c.shut_feeds.new.host in
    let many = was.many in
    let counted = c.len.ensures in
    let less = c.loop-capture-test.true in
    let long = length-take-le at.capture-index captures (omega (arith, less)) in
    subst (λ (fault : Fault). Adds start last (λ deeds. StopsAtOpens captures deeds fault)) (sym c.unless_memory.ensures)
    (stops_opening source.name source.left source.takes told start (g.H.Host.deeds at.host)
    (g.H.Host.deeds c.open_feed.new.host) last captures (take at.capture-index captures)
    (drop (suc at.capture-index) captures) here at.feeds.items c.in-Err.why _ was.opened c.in-Err.ensures.told
    (c.shut_feeds.ensures.shut
    ∙ ap (λ (fs : List (Feed g.row.H-Input.Denot)). g.H.Host.deeds c.open_feed.new.host
    ++ shuts_of source.name source.left source.takes fs) c.from_vec.ensures)
    (split_at captures at.capture-index beyond less) (omega (arith, long, many, counted))
    c.in-Err.ensures.file was.pairs)

pub returns-in-Err-clause-names : goal.returns-in-Err-clause-names
returns-in-Err-clause-names g c =
    names_later _ _ _ _ _ _ c.loop-capture.invariant.names
    (names_later _ _ _ _ _ _ c.open_feed.ensures.names c.shut_feeds.ensures.names)

pub returns-clause-feeds : goal.returns-clause-feeds
returns-clause-feeds g c =
    let at = c.loop-capture in
    let captures = c.args.captures.now in
    let source = g.H.Input.Source in
    let told = g.H.Host.files c.args.host.now in
    let over = c.loop-capture-test.false in
    let all = take_all at.capture-index captures (omega (arith, over)) in
    subst (λ (fs : List (Feed g.row.H-Input.Denot)). AreFeedsOf source.name source.left source.takes told captures fs)
    (sym c.from_vec-2.ensures)
    (pairs_are source.name source.left source.takes told captures at.feeds.items
    (subst (λ (cs : List CaptureWord). ArePairs source.name source.left source.takes told cs at.feeds.items) all
    at.invariant.pairs))
