use Rattle.std.proofs.Common.{arith, map, string_bytes}
use Rattle.std.proofs.lemmas.List.{length-map}
use Rattle.clap.specs.Matches.{found_of}
use Rattle.clap.specs.Walk.{rows_of}
use Rattle.command_words.proofs.Reading.{is_taken, read_command, read_none}
use Rattle.command_words.proofs.Texts.{utf8_texts}
use Rattle.command_words.proofs.command.read.Goals as goal

pub returns-in-Ok-clause-read : goal.returns-in-Ok-clause-read
returns-in-Ok-clause-read c =
    read_command (map string_bytes c.args.words.now) (rows_of (found_of c.in-Ok.matches)) (utf8_texts c.args.words.now) (simp length-map (omega (arith, c.if-prove.false)))
    c.in-Ok.ensures.matched c.command_of.result c.in-Ok.ensures.taken c.command_of.ensures.found

pub returns-in-Ok-clause-none : goal.returns-in-Ok-clause-none
returns-in-Ok-clause-none c =
    read_none (map string_bytes c.args.words.now) (rows_of (found_of c.in-Ok.matches)) (utf8_texts c.args.words.now) (simp length-map (omega (arith, c.if-prove.false)))
    c.in-Ok.ensures.matched c.command_of.result c.command_of.ensures.none

pub returns-in-Err-Form-clause-none : goal.returns-in-Err-Form-clause-none
returns-in-Err-Form-clause-none c command h =
    let refused = c.parse.ensures.refused in
    let is = c.in-Err-Form.is in
    let form = c.in-Err-Form.field-0-is in
    let taken = is_taken (map string_bytes c.args.words.now) command (utf8_texts c.args.words.now) (simp length-map (omega (arith, c.if-prove.false))) h in
    refused (cc (is, form)) taken
