use Rattle.std.proofs.Common.{rules, ◌≡◌, ℕ, List, sym, ap, ◌∙◌, subst, Some}
use Rattle.std.specs.Str.{IsUtf8}
use Rattle.percent_encoding.specs.Percent.{percent_decode}
use Rattle.target.proofs.SegmentLemmas.{segment_of_text, segment_of_no_text}
use Rattle.target.proofs.segments.decode_segment.Goals as goal

pub returns-in_ok-from_slice-in-Ok : goal.returns-in_ok-from_slice-in-Ok
returns-in_ok-from_slice-in-Ok c =
    let utf8 : IsUtf8 (percent_decode c.args.raw.now) = search rules in
    let decoded = segment_of_text c.args.raw.now utf8 in
    let text : c.in_ok-from_slice-in-Ok.field-0 ≡ percent_decode c.args.raw.now = search rules in
    ap Some text ∙ sym decoded

pub returns-in-Err-Utf8 : goal.returns-in-Err-Utf8
returns-in-Err-Utf8 c =
    sym (segment_of_no_text c.args.raw.now (λ utf8.
    cc (c.in-Err-Utf8.ensures.utf8 (subst (λ (b : List ℕ). IsUtf8 b) (sym c.percent_decode.ensures.bytes) utf8))))
