use Rattle.std.proofs.Common.{rules, ◌<◌, ◌^◌}
use Rattle.std.proofs.lemmas.Fmt.{IsAscii-from_digits}
use Rattle.std.proofs.lemmas.Str.{IsUtf8-from_ascii}
use Rattle.http_client.proofs.Lengths.{numeral, too_large}
use Rattle.http_client.proofs.framing.is_length.Goals as goal

pub returns-in_default : goal.returns-in_default
returns-in_default c =
    let digits = numeral c.args.digits.now c.requires in
    absurd (c.in_default.ensures.cases.0 (IsUtf8-from_ascii c.args.digits.now (IsAscii-from_digits c.args.digits.now digits.1)))

pub returns-in-Err : goal.returns-in-Err
returns-in-Err c =
    let small : c.args.len < 2 ^ 64 = search rules in
    too_large c.args.digits.now c.in-Ok.text.now c.parse.result c.in-Err.field-0 c.args.len c.requires c.in-Ok.ensures.cases.0
    c.parse.ensures.value.0 c.in-Err.is
    small
