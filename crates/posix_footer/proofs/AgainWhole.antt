-- A text that spells a footer reads as that footer.
use Rattle.std.proofs.Common.{◌≡◌, ℕ, suc, ◌⊎◌, inl, inr, List, [], ◌∷◌, ◌++◌, length, Bool, true, false, Option, None, Some, Ok, refl, ap, sym, ◌∙◌, arith}
use Rattle.std.proofs.Common.{append_assoc, append-nil, ◌==◌, ℤ, pos}
use Rattle.std.specs.Char.{is_ascii_alphabetic, is_ascii_digit}
use Rattle.std.proofs.lemmas.Bool.Decides.{nat_tests}
use Rattle.td_civil.specs.declared.local_time.Local.{Local}
use Rattle.posix_footer.specs.declared.rule_types.Date.{Date}
use Rattle.posix_footer.specs.declared.rule_types.DstRule.{DstRule}
use Rattle.posix_footer.specs.declared.rule_types.Footer.{Footer}
use Rattle.posix_footer.specs.Items.{begins, begins_as, after_byte}
use Rattle.posix_footer.specs.Grammar.{time_after, date_at, standard_at, daylight_at, dates_after, rule_read_at, rule_in, footer_at, footer_in}
use Rattle.posix_footer.specs.Spelling.{IsName, IsOffset, IsStandard, IsDaylight, IsDay, IsSignedNumber, IsTime, IsTwo, IsDate, IsRule, IsRuleIfAny}
use Rattle.posix_footer.specs.Spelling.{SpellsFooter}
use Rattle.posix_footer.proofs.Again.{first_of_run, IsEnd, name_again, offset_again, offset_no_letter, daylight_offset_again, day_again, time_again}
use Rattle.posix_footer.proofs.Found.{IsDaylightOffset}

standard_is : (state : Local) → state.dst ≡ false → record { offset = state.offset; dst = false; name = state.name } ≡ state
standard_is state h = let make : Bool → Local = λ dst. record { offset = state.offset; dst = dst; name = state.name } in ap make (sym h)

daylight_is : (state : Local) → state.dst ≡ true → record { offset = state.offset; dst = true; name = state.name } ≡ state
daylight_is state h = let make : Bool → Local = λ dst. record { offset = state.offset; dst = dst; name = state.name } in ap make (sym h)

standard_text : (size : ℕ) (name_text offset_text : List ℕ) (state : Local) (rest : List ℕ) → IsName name_text state.name →
    IsOffset offset_text state.offset → state.dst ≡ false → IsEnd rest → standard_at size (name_text ++ (offset_text ++ rest)) ≡ Ok (state, rest)
unfolding standard_at
standard_text size name_text offset_text state rest name offset flag end =
    let named = name_again name_text state.name (offset_text ++ rest) name (offset_no_letter _ _ _ offset) in
    let placed = offset_again offset_text state.offset rest offset end in
    rw (named, placed) (ap (λ s. Ok (s, rest)) (standard_is state flag))

standard_again : (size : ℕ) (text : List ℕ) (state : Local) (rest : List ℕ) → IsStandard text state → IsEnd rest →
    standard_at size (text ++ rest) ≡ Ok (state, rest)
standard_again size text state rest is end =
    ap (λ t. standard_at size t) (ap (λ t. t ++ rest) is.text_is ∙ append_assoc is.name_text is.offset_text rest)
    ∙ standard_text size is.name_text is.offset_text state rest is.name is.offset is.standard end

-- after a daylight state stands `,`
no_letter : (std : ℤ) (text : List ℕ) (offset : ℤ) (rest : List ℕ) → IsDaylightOffset std text offset →
    begins_as is_ascii_alphabetic (text ++ (44 ∷ rest)) ≡ false
no_letter std text offset rest (inl is) = offset_no_letter text offset (44 ∷ rest) is
no_letter std text offset rest (inr is) = ap (λ t. begins_as is_ascii_alphabetic (t ++ (44 ∷ rest))) is.text_is

comma_end : (rest : List ℕ) → IsEnd (44 ∷ rest)
comma_end rest = record { digit = refl; colon = refl }

daylight_text : (size : ℕ) (std : ℤ) (name_text offset_text : List ℕ) (state : Local) (rest : List ℕ) → IsName name_text state.name →
    IsDaylightOffset std offset_text state.offset → state.dst ≡ true →
    daylight_at size std (name_text ++ (offset_text ++ (44 ∷ rest))) ≡ Ok (state, 44 ∷ rest)
unfolding daylight_at
daylight_text size std name_text offset_text state rest name offset flag =
    let named = name_again name_text state.name (offset_text ++ (44 ∷ rest)) name (no_letter std _ _ rest offset) in
    let placed = daylight_offset_again std offset_text state.offset (44 ∷ rest) offset (comma_end rest) refl in
    rw (named, placed) (ap (λ s. Ok (s, 44 ∷ rest)) (daylight_is state flag))

daylight_again : (size : ℕ) (std : ℤ) (text : List ℕ) (state : Local) (rest : List ℕ) → IsDaylight std text state →
    daylight_at size std (text ++ (44 ∷ rest)) ≡ Ok (state, 44 ∷ rest)
daylight_again size std text state rest is =
    ap (λ t. daylight_at size std t) (ap (λ t. t ++ (44 ∷ rest)) is.text_is ∙ append_assoc is.name_text is.offset_text (44 ∷ rest))
    ∙ daylight_text size std is.name_text is.offset_text state rest is.name is.offset is.daylight

-- what may stand after a date
record IsDateEnd (rest : List ℕ) : Type 0 where
  pub end : IsEnd rest
  pub slash : begins 47 rest ≡ false

no_time : (size : ℕ) (z : ℤ) (rest : List ℕ) → z ≡ pos 7200 → begins 47 rest ≡ false → time_after size rest ≡ Ok (z, rest)
unfolding time_after
no_time size z rest value slash = rw slash (ap (λ y. Ok (y, rest)) (sym value))

with_time : (size : ℕ) (text : List ℕ) (z : ℤ) (rest : List ℕ) → IsSignedNumber 3 167 text z → IsEnd rest
    → time_after size (47 ∷ (text ++ rest)) ≡ Ok (z, rest)
unfolding time_after
with_time size text z rest is end = rw (time_again text z rest is end) refl

time_after_again : (size : ℕ) (text : List ℕ) (z : ℤ) (rest : List ℕ) → IsTime text z ⊎ IsTwo text z → IsDateEnd rest →
    time_after size (text ++ rest) ≡ Ok (z, rest)
time_after_again size text z rest (inl is) end = ap (λ t. time_after size (t ++ rest)) is.text_is ∙ with_time size is.time_text z rest is.signed end.end
time_after_again size text z rest (inr is) end = ap (λ t. time_after size (t ++ rest)) is.text_is ∙ no_time size z rest is.value end.slash

no_digit : (text : List ℕ) (z : ℤ) (rest : List ℕ) → IsTime text z ⊎ IsTwo text z → IsDateEnd rest → begins_as is_ascii_digit (text ++ rest) ≡ false
no_digit text z rest (inl is) end = ap (λ t. begins_as is_ascii_digit (t ++ rest)) is.text_is
no_digit text z rest (inr is) end = ap (λ t. begins_as is_ascii_digit (t ++ rest)) is.text_is ∙ end.end.digit

date_text : (size : ℕ) (day_text time_text : List ℕ) (date : Date) (rest : List ℕ) → IsDay day_text date.day →
    IsTime time_text date.time ⊎ IsTwo time_text date.time → IsDateEnd rest → date_at size (day_text ++ (time_text ++ rest)) ≡ Ok (date, rest)
unfolding date_at
date_text size day_text time_text date rest day time end =
    rw (day_again day_text date.day (time_text ++ rest) day (no_digit _ _ _ time end), time_after_again size time_text date.time rest time end) refl

date_again : (size : ℕ) (text : List ℕ) (date : Date) (rest : List ℕ) → IsDate text date → IsDateEnd rest → date_at size (text ++ rest) ≡ Ok (date, rest)
date_again size text date rest is end =
    ap (λ t. date_at size t) (ap (λ t. t ++ rest) is.text_is ∙ append_assoc is.day_text is.time_text rest)
    ∙ date_text size is.day_text is.time_text date rest is.day is.time end

last_date : (size : ℕ) (text : List ℕ) (date : Date) → IsDate text date → date_at size text ≡ Ok (date, [])
last_date size text date is =
    ap (λ t. date_at size t) (sym (append-nil text)) ∙ date_again size text date [] is (record { end = record { digit = refl; colon = refl }; slash = refl })

rule_text : (size : ℕ) (start_text end_text : List ℕ) (rule : DstRule) → IsDate start_text rule.start → IsDate end_text rule.end →
    rule_read_at size rule.dst (start_text ++ (44 ∷ end_text)) ≡ Ok rule
unfolding rule_read_at after_byte
rule_text size start_text end_text rule start end =
    rw (
      date_again size start_text rule.start (44 ∷ end_text) start (record { end = comma_end end_text; slash = refl }),
      last_date size end_text rule.end end,
    ) refl

no_zero : (n : ℕ) → (suc n == 0) ≡ false
no_zero n = grind (arith, nat_tests)

dates_again : (size : ℕ) (rest : List ℕ) → dates_after size (44 ∷ rest) ≡ Ok rest
unfolding dates_after after_byte
dates_again size rest = rw (no_zero (length rest)) refl

rule_in_again : (size : ℕ) (std : Local) (text : List ℕ) (rule : DstRule) → IsRule std.offset text rule →
    rule_in size std text ≡ Ok (record { std = std; dst = Some rule })
unfolding rule_in
rule_in_again size std text rule is =
    rw (
      is.text_is,
      daylight_again size std.offset is.dst_text rule.dst (is.start_text ++ (44 ∷ is.end_text)) is.dst,
      dates_again size (is.start_text ++ (44 ∷ is.end_text)),
      rule_text size is.start_text is.end_text rule is.start is.end,
    ) refl

-- what a name begins with
letter_no_digit : (b : ℕ) → is_ascii_alphabetic b ≡ true → is_ascii_digit b ≡ false
letter_no_digit b h = grind (arith, nat_tests)

letter_no_colon : (b : ℕ) → is_ascii_alphabetic b ≡ true → (b == 58) ≡ false
letter_no_colon b h = grind (arith, nat_tests)

name_begins : (other : ℕ → Bool) (text name rest : List ℕ) → IsName text name → ((b : ℕ) → is_ascii_alphabetic b ≡ true → other b ≡ false) →
    other 60 ≡ false → begins_as other (text ++ rest) ≡ false
name_begins other text name rest (inl is) each quote =
    ap (λ t. begins_as other (t ++ rest)) is.text_is
    ∙ first_of_run is_ascii_alphabetic other false name rest each is.letters.all (omega (arith, is.letters.at_least))
name_begins other text name rest (inr is) each quote = ap (λ t. begins_as other (t ++ rest)) is.text_is ∙ quote

-- a rule begins with a name, and so with neither a digit nor `:`
rule_begins : (other : ℕ → Bool) (std : ℤ) (text : List ℕ) (rule : DstRule) → IsRule std text rule →
    ((b : ℕ) → is_ascii_alphabetic b ≡ true → other b ≡ false) → other 60 ≡ false → begins_as other text ≡ false
rule_begins other std text rule is each quote =
    ap (λ t. begins_as other t) (is.text_is ∙ ap (λ t. t ++ (44 ∷ (is.start_text ++ 44 ∷ is.end_text))) is.dst.text_is
    ∙ append_assoc is.dst.name_text is.dst.offset_text _)
    ∙ name_begins other is.dst.name_text rule.dst.name (is.dst.offset_text ++ (44 ∷ (is.start_text ++ 44 ∷ is.end_text))) is.dst.name each quote

not_empty : (first rest : List ℕ) (byte : ℕ) → (length (first ++ (byte ∷ rest)) == 0) ≡ false
not_empty [] rest byte = no_zero (length rest)
not_empty (b ∷ bs) rest byte = no_zero (length (bs ++ (byte ∷ rest)))

rule_not_empty : (std : ℤ) (text : List ℕ) (rule : DstRule) → IsRule std text rule → (length text == 0) ≡ false
rule_not_empty std text rule is = ap (λ t. length t == 0) is.text_is ∙ not_empty is.dst_text _ 44

footer_text : (size : ℕ) (std_text rule_text : List ℕ) (std : Local) (dst : Option DstRule) → IsStandard std_text std →
    IsRuleIfAny std.offset rule_text dst → footer_at size (std_text ++ rule_text) ≡ Ok (record { std = std; dst = dst })
unfolding footer_at
footer_text size std_text rule_text std None is none =
    rw (none, standard_again size std_text std [] is (record { digit = refl; colon = refl })) refl
footer_text size std_text rule_text std (Some rule) is some =
    let end : IsEnd rule_text = record {
      digit = rule_begins is_ascii_digit std.offset rule_text rule some letter_no_digit refl;
      colon = rule_begins (λ b. b == 58) std.offset rule_text rule some letter_no_colon refl;
    } in
    rw (standard_again size std_text std rule_text is end, rule_not_empty std.offset rule_text rule some, rule_in_again size std rule_text rule some) refl

pub footer_again : (text : List ℕ) (footer : Footer) → SpellsFooter text footer → footer_in text ≡ Ok footer
footer_again text footer is =
    ap (λ t. footer_at (length text) t) is.text_is ∙ footer_text (length text) is.std_text is.rule_text footer.std footer.dst is.std is.rule
