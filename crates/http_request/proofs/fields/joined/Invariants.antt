use Rattle.std.proofs.Common.{◌≡◌, map, drop}
use Rattle.httparse.specs.Spans.{header_bytes}
use Rattle.td_base.specs.Texts.{field_values}
use Rattle.http_request.specs.Judging.{joined_values}
use Rattle.http_request.specs.Joining.{values_joined_on}
use Rattle.http_request.proofs.fields.joined.Given as goal

abbrev pub invariant-loop-field : goal.invariant-loop-field
invariant-loop-field l =
    values_joined_on l.all (field_values l.name (map (header_bytes l.buf) (drop l.field-index l.fields))) ≡ joined_values
    (field_values l.name (map (header_bytes l.buf) l.fields))
