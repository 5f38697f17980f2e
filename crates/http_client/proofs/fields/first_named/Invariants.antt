use Rattle.std.proofs.Common.{◌≡◌, map, drop}
use Rattle.httparse.specs.Spans.{header_bytes}
use Rattle.http_client.specs.Fields.{first_of}
use Rattle.td_base.specs.Texts.{field_values}
use Rattle.http_client.proofs.fields.first_named.Given as goal

abbrev pub invariant-loop-field : goal.invariant-loop-field
invariant-loop-field l =
    first_of (field_values l.name (map (header_bytes l.buf) (drop l.field-index l.fields)))
    ≡ first_of (field_values l.name (map (header_bytes l.buf) l.fields))
