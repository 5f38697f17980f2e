use Rattle.std.proofs.Common.{◌≡◌, decimal, sym, subst, ap, ◌∙◌}
use Rattle.std.proofs.lemmas.Fmt.{IsAscii-decimal, parse-decimal}
use Rattle.std.proofs.lemmas.Str.{IsUtf8-from_ascii}
use Rattle.std.specs.Cmp.Lexicographic.{nat_list_eq_equiv}
use Rattle.std.specs.Str.{IsUtf8, bytes_eq}
use Rattle.td_base.proofs.digits.read_decimal.Goals as goal

pub returns-in_default-clause-none : goal.returns-in_default-clause-none
returns-in_default-clause-none c _ n fits e =
    c.in_default.ensures.cases.0 (subst IsUtf8 (sym e) (IsUtf8-from_ascii (decimal n) (IsAscii-decimal n fits)))

pub returns-in_default-parse-clause-none : goal.returns-in_default-parse-clause-none
returns-in_default-parse-clause-none c _ n fits e =
    let reads = parse-decimal 64 n c.in-Ok.digits.now c.parse.result fits fits (c.in-Ok.ensures.cases.0 ∙ e) c.parse.ensures.value.0 in
    absurd (cc (reads, c.in_default-parse.is))

pub returns-else-eq-clause-none : goal.returns-else-eq-clause-none
returns-else-eq-clause-none c _ n fits e =
    let reads = parse-decimal 64 n c.in-Ok.digits.now c.parse.result fits fits (c.in-Ok.ensures.cases.0 ∙ e) c.parse.ensures.value.0 in
    let same : c.in-Ok-parse.n ≡ n = cc (reads, c.in-Ok-parse.is) in
    let text : c.as_bytes.result.now ≡ c.args.text.now = c.as_bytes.ensures.value ∙ c.format.ensures.text ∙ ap decimal same ∙ sym e in
    let equal = c.eq.ensures ∙ ap (λ t. bytes_eq t c.args.text.now) text ∙ nat_list_eq_equiv.refl c.args.text.now in
    absurd (cc (equal, c.if-eq.false))
