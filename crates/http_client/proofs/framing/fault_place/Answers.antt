use Rattle.std.proofs.Common.{refl, map}
use Rattle.httparse.specs.Spans.{header_bytes}
use Rattle.http_client.proofs.Framings.{coded, not_sized, sized_once, sized_twice}
use Rattle.http_client.proofs.framing.fault_place.Goals as goal

pub returns-then-codings-ne0 : goal.returns-then-codings-ne0
returns-then-codings-ne0 c =
    rw (coded (map (header_bytes c.args.buf.now) c.args.fields.now) _ c.count_named-codings.ensures c.if-codings-ne0.true) refl

pub returns-then-lengths-gt1 : goal.returns-then-lengths-gt1
returns-then-lengths-gt1 c =
    rw (sized_twice (map (header_bytes c.args.buf.now) c.args.fields.now) _ _ c.count_named-codings.ensures c.if-codings-ne0.false
    c.count_named-lengths.ensures c.if-lengths-gt1.true)
    refl

pub returns-in-Some : goal.returns-in-Some
returns-in-Some c =
    rw (sized_once (map (header_bytes c.args.buf.now) c.args.fields.now) _ _ c.in-Some.value.now c.count_named-codings.ensures c.if-codings-ne0.false
    c.count_named-lengths.ensures c.if-lengths-gt1.false c.in-Some.ensures)
    c.length_fault.ensures

pub returns-in-None : goal.returns-in-None
returns-in-None c =
    rw (not_sized (map (header_bytes c.args.buf.now) c.args.fields.now) _ c.count_named-codings.ensures c.if-codings-ne0.false c.in-None.ensures) refl
