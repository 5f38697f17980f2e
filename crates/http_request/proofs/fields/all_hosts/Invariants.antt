use Rattle.std.proofs.Common.{◌≡◌, map, drop}
use Rattle.std.specs.List.{list_all}
use Rattle.httparse.specs.Spans.{header_bytes}
use Rattle.td_base.specs.Texts.{field_values}
use Rattle.http_request.specs.Judging.{is_host}
use Rattle.http_request.proofs.fields.all_hosts.Given as goal

abbrev pub invariant-loop-field : goal.invariant-loop-field
invariant-loop-field l =
    list_all is_host (field_values l.name (map (header_bytes l.buf) (drop l.field-index l.fields)))
    ≡ list_all is_host (field_values l.name (map (header_bytes l.buf) l.fields))
