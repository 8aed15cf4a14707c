use Rattle.std.proofs.Common.{◌≡◌, ◌∙◌, sym, ap, map, Bor, List, ℕ, [], Option}
use Rattle.std.specs.Prelude.{unwrap_or}
use Rattle.std.proofs.lemmas.Result.{IfOk-weaker}
use Rattle.clap.specs.Matches.{found_of}
use Rattle.clap.specs.Walk.{rows_of}
use Rattle.command_words.specs.Asked.{others_in}
use Rattle.command_words.proofs.Matched.{others_in-rows}
use Rattle.command_words.proofs.command.others_of.Goals as goal

pub returns-in-Some : goal.returns-in-Some
returns-in-Some c =
    let right : map (λ (s : Bor (List ℕ)). s.now) c.in-Some.words.now ≡ others_in (rows_of (found_of c.args.matches.now)) =
    sym (others_in-rows (found_of c.args.matches.now) ∙ ap (λ (r : Option (List (List ℕ))). unwrap_or r []) (sym c.in-Some.ensures)) in
    IfOk-weaker c.from_slice.result _ _ (λ v h. ap (map (λ (s : Bor (List ℕ)). s.now)) h ∙ right) c.from_slice.ensures.items

pub returns-in-None : goal.returns-in-None
returns-in-None c =
    let right : [] ≡ others_in (rows_of (found_of c.args.matches.now)) =
    sym (others_in-rows (found_of c.args.matches.now) ∙ ap (λ (r : Option (List (List ℕ))). unwrap_or r []) (sym c.in-None.ensures)) in
    ap (map (λ (s : Bor (List ℕ)). s.now)) c.new.ensures.items ∙ right
