use Rattle.std.proofs.Common.{◌≡◌, ◌≤◌, ◌+◌, length, map, drop}
use Rattle.httparse.specs.Spans.{header_bytes}
use Rattle.td_base.specs.Texts.{field_values}
use Rattle.http_client.proofs.fields.count_named.Given as goal

abbrev pub invariant-loop-field : goal.invariant-loop-field
invariant-loop-field l = record {
  told : l.count + length (field_values l.name (map (header_bytes l.buf) (drop l.field-index l.fields))) ≡ length
      (field_values l.name (map (header_bytes l.buf) l.fields));
  small : l.count ≤ l.field-index;
}
