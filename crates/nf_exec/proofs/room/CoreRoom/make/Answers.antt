use Rattle.std.proofs.Common.{◌<◌, ◌∙◌, ap, subst, arith, List, length}
use Rattle.std.specs.Prelude.{slice_index_or}
use Rattle.std.proofs.lemmas.Option.{slice_get_within}
use Rattle.onvm_base.specs.declared.ids.FnId.{FnId}
use Rattle.nf_exec.proofs.NewStations.{at_any, stations_next}
use Rattle.nf_exec.proofs.Residents.{resident_at}
use Rattle.nf_exec.proofs.room.CoreRoom.make.Goals as goal

pub make-requires-clause-function : goal.make-requires-clause-function
make-requires-clause-function c =
    let functions = c.args.registry.now.functions in
    let less : c.loop-at.at < length c.of_core-functions.result.now = c.loop-at-test.true in
    let known = subst (λ (xs : List FnId). c.loop-at.at < length xs) c.of_core-functions.ensures less in
    let f : FnId = slice_index_or c.of_core-functions.result.now c.loop-at.at (record { 0 = 0 }) in
    let is = resident_at 0 c.args.core functions c.loop-at.at f known
    (ap (λ (xs : List FnId). slice_index_or xs c.loop-at.at (record { 0 = 0 })) c.of_core-functions.ensures
    ∙ at_any _ c.loop-at.at (record { 0 = 0 }) f known) in
    let within = slice_get_within functions is.k is.function is.found in
    omega (arith, is.number_is, within, c.requires.plan.functions)

pub loop-at-preserved : goal.loop-at-preserved
loop-at-preserved c =
    let functions : List FnId = c.of_core-functions.result.now in
    let less : c.loop-at.at < length functions = c.loop-at-test.true in
    let f : FnId = slice_index_or functions c.loop-at.at (record { 0 = 0 }) in
    record {
      stations =
          stations_next c.args.board.now.layout functions c.loop-at.stations.items c.push.new.self.items c.loop-at.at
          c.in_ok-make.field-0 f less c.loop-at.invariant.long (at_any functions c.loop-at.at (record { 0 = 0 }) f less)
          c.in_ok-make.ensures c.in_ok-push.ensures.items c.loop-at.invariant.stations;
      long = omega (arith, c.loop-at.invariant.long, c.in_ok-push.ensures.len);
    }
