-- A text that reads as a footer spells it.
use Rattle.std.proofs.Common.{◌≡◌, ℕ, ◌⊎◌, inl, inr, List, [], ◌∷◌, ◌++◌, length, drop, true, false, cond, Option, None, Some, Result, Ok, Err, IfOk, ok_or}
use Rattle.std.proofs.Common.{refl, ap, sym, ◌∙◌, subst, arith, ◌==◌, ℤ, pos, append-nil}
use Rattle.std.proofs.lemmas.Bool.Decides.{nat_tests}
use Rattle.td_civil.specs.declared.local_time.Local.{Local}
use Rattle.posix_footer.specs.declared.rule_types.DayForm.{DayForm}
use Rattle.posix_footer.specs.declared.rule_types.Date.{Date}
use Rattle.posix_footer.specs.declared.rule_types.DstRule.{DstRule}
use Rattle.posix_footer.specs.declared.rule_types.Footer.{Footer}
use Rattle.posix_footer.specs.declared.footer_fault.FooterFault.{FooterFault}
use Rattle.posix_footer.specs.declared.footer_fault.FooterFault.TheVariants as fault
use Rattle.posix_footer.specs.Items.{begins, after_byte, name_at, offset_at, daylight_offset_at, day_at}
use Rattle.td_base.specs.FirstFault.{◌>>=◌}
use Rattle.posix_footer.specs.Grammar.{place, time_after, date_at, standard_at, daylight_at, dates_after, rule_read_at, rule_in, footer_at, footer_in}
use Rattle.posix_footer.specs.Spelling.{IsName, IsOffset, IsStandard, IsDaylight, IsDay, IsSignedNumber, IsTime, IsTwo, IsDate, IsRuleIfAny, SpellsFooter}
use Rattle.posix_footer.proofs.Runs.{Reads}
use Rattle.posix_footer.proofs.Found.{chosen, first_is, after_byte_found, joined, name_found, offset_found, IsDaylightOffset, daylight_offset_found, day_found}
use Rattle.posix_footer.proofs.Found.{time_found}

record Between {A B : Type 0} (first : Result A FooterFault) (then : A → Result B FooterFault) (last : B) : Type 0 where
  pub value : A
  pub first_is : first ≡ Ok value
  pub then_is : then value ≡ Ok last

between : {A B : Type 0} (first : Result A FooterFault) (then : A → Result B FooterFault) (last : B) → (first >>= then) ≡ Ok last →
    Between first then last
between (Ok x) then last h = record { value = x; first_is = refl; then_is = h }
between (Err e) then last h = absurd (cc)

found_some : {A : Type 0} (item : Option A) (e : FooterFault) (x : A) → ok_or item e ≡ Ok x → item ≡ Some x
found_some None e x h = absurd (cc)
found_some (Some y) e x h = let same : y ≡ x = cc in ap (λ z. Some z) same

Ok_same : {A : Type 0} (x y : A) → ◌≡◌ {A = Result A FooterFault} (Ok x) (Ok y) → x ≡ y
Ok_same x y h = cc

-- a value and what stands after it, under another name
along : {A : Type 0} (Is : List ℕ → A → Type 0) (text prefix : List ℕ) (value : A) (rest : List ℕ) (x : A × List ℕ) → text ≡ prefix ++ rest →
    Is prefix value → ◌≡◌ {A = Result (A × List ℕ) FooterFault} (Ok (value, rest)) (Ok x) → Reads Is text x
along {A} Is text prefix value rest x text_is is last =
    let same = Ok_same _ _ last in
    let P : A → Type 0 = λ d. Is prefix d in
    record { prefix = prefix; text_is = text_is ∙ ap (λ p. prefix ++ p.1) same; spells = subst P (ap (λ p. p.0) same) is }

standard_from : (text : List ℕ) (name : List ℕ × List ℕ) (offset : ℤ × List ℕ) (x : Local × List ℕ) → Reads IsName text name →
    Reads IsOffset name.1 offset →
    ◌≡◌ {A = Result (Local × List ℕ) FooterFault} (Ok (record { offset = offset.0; dst = false; name = name.0 }, offset.1)) (Ok x) →
    Reads IsStandard text x
standard_from text name offset x n o last = along IsStandard text (n.prefix ++ o.prefix) _ offset.1 x
    (joined _ _ _ _ _ n.text_is o.text_is)
    (record { name_text = n.prefix; offset_text = o.prefix; text_is = refl; name = n.spells; offset = o.spells; standard = refl }) last

standard_found : (size : ℕ) (text : List ℕ) (x : Local × List ℕ) → standard_at size text ≡ Ok x → Reads IsStandard text x
unfolding standard_at
standard_found size text x h =
    let name = between (ok_or (name_at text) (fault.Name (place size text))) _ x h in
    let offset = between (ok_or (offset_at name.value.1) (fault.Offset (place size name.value.1))) _ x name.then_is in
    standard_from text name.value offset.value x (name_found _ _ (found_some _ _ _ name.first_is))
    (offset_found _ _ (found_some _ _ _ offset.first_is)) offset.then_is

daylight_from : (std : ℤ) (text : List ℕ) (name : List ℕ × List ℕ) (offset : ℤ × List ℕ) (x : Local × List ℕ) → Reads IsName text name →
    Reads (IsDaylightOffset std) name.1 offset →
    ◌≡◌ {A = Result (Local × List ℕ) FooterFault} (Ok (record { offset = offset.0; dst = true; name = name.0 }, offset.1)) (Ok x) →
    Reads (IsDaylight std) text x
daylight_from std text name offset x n o last = along (IsDaylight std) text (n.prefix ++ o.prefix) _ offset.1 x
    (joined _ _ _ _ _ n.text_is o.text_is)
    (record { name_text = n.prefix; offset_text = o.prefix; text_is = refl; name = n.spells; offset = o.spells; daylight = refl }) last

daylight_found : (size : ℕ) (std : ℤ) (text : List ℕ) (x : Local × List ℕ) → daylight_at size std text ≡ Ok x → Reads (IsDaylight std) text x
unfolding daylight_at
daylight_found size std text x h =
    let name = between (ok_or (name_at text) (fault.Name (place size text))) _ x h in
    let offset = between (ok_or (daylight_offset_at std name.value.1) (fault.Offset (place size name.value.1))) _ x name.then_is in
    daylight_from std text name.value offset.value x (name_found _ _ (found_some _ _ _ name.first_is))
    (daylight_offset_found _ _ _ (found_some _ _ _ offset.first_is)) offset.then_is

abbrev pub IsTimeIfAny : List ℕ → ℤ → Type 0
IsTimeIfAny text time = IsTime text time ⊎ IsTwo text time

time_from : (text : List ℕ) (x : ℤ × List ℕ) → begins 47 text ≡ true → Reads (IsSignedNumber 3 167) (drop 1 text) x → Reads IsTimeIfAny text x
time_from text x first read = record {
  prefix = 47 ∷ read.prefix;
  text_is = first_is 47 text first ∙ ap (λ y. 47 ∷ y) read.text_is;
  spells = inl (record { time_text = read.prefix; text_is = refl; signed = read.spells });
}

time_after_found : (size : ℕ) (text : List ℕ) (x : ℤ × List ℕ) → time_after size text ≡ Ok x → Reads IsTimeIfAny text x
unfolding time_after
time_after_found size text x h = elim (chosen (begins 47 text) _ _ _ h) [
  | inl c ↦ time_from text x c.0 (time_found _ _ (found_some _ _ _ c.1))
  | inr c ↦ along IsTimeIfAny text [] (pos 7200) text x refl (inr (record { text_is = refl; value = refl })) c.1
]

date_from : (text : List ℕ) (day : DayForm × List ℕ) (time : ℤ × List ℕ) (x : Date × List ℕ) → Reads IsDay text day →
    Reads IsTimeIfAny day.1 time →
    ◌≡◌ {A = Result (Date × List ℕ) FooterFault} (Ok (record { day = day.0; time = time.0 }, time.1)) (Ok x) → Reads IsDate text x
date_from text day time x d t last = along IsDate text (d.prefix ++ t.prefix) _ time.1 x (joined _ _ _ _ _ d.text_is t.text_is)
    (record { day_text = d.prefix; time_text = t.prefix; text_is = refl; day = d.spells; time = t.spells }) last

date_found : (size : ℕ) (text : List ℕ) (x : Date × List ℕ) → date_at size text ≡ Ok x → Reads IsDate text x
unfolding date_at
date_found size text x h =
    let day = between (ok_or (day_at text) (fault.Date (place size text))) _ x h in
    let time = between (time_after size day.value.1) _ x day.then_is in
    date_from text day.value time.value x (day_found _ _ (found_some _ _ _ day.first_is))
    (time_after_found _ _ _ time.first_is) time.then_is

dates_found : (size : ℕ) (text rest : List ℕ) → dates_after size text ≡ Ok rest → text ≡ 44 ∷ rest
unfolding dates_after
dates_found size text rest h = elim (chosen (length text == 0) _ _ _ h) [
  | inl c ↦ absurd (cc (c.1))
  | inr c ↦ after_byte_found _ _ _ (found_some _ _ _ c.1)
]

no_bytes : (text : List ℕ) → (length text == 0) ≡ true → text ≡ []
no_bytes [] h = refl
no_bytes (b ∷ bs) h = absurd (grind (arith, nat_tests))

-- the dates, and nothing after them
record Dates (text : List ℕ) (dst : Local) (rule : DstRule) : Type 0 where
  pub start_text : List ℕ
  pub end_text : List ℕ
  pub text_is : text ≡ start_text ++ 44 ∷ end_text
  pub dst_is : rule.dst ≡ dst
  pub start : IsDate start_text rule.start
  pub end : IsDate end_text rule.end

dates_along : (text : List ℕ) (dst : Local) (one two : DstRule) → one ≡ two → Dates text dst one → Dates text dst two
dates_along text dst one two e h = let P : DstRule → Type 0 = λ rule. Dates text dst rule in subst P e h

rule_from : (dst : Local) (text second : List ℕ) (start end : Date × List ℕ) (x : DstRule) (e : FooterFault) → Reads IsDate text start →
    start.1 ≡ 44 ∷ second → Reads IsDate second end →
    cond (length end.1 == 0) (Ok (record { dst = dst; start = start.0; end = end.0 })) (Err e) ≡ Ok x → Dates text dst x
rule_from dst text second start end x e s comma f last = elim (chosen (length end.1 == 0) _ _ _ last) [
  | inl c ↦ dates_along text dst _ x (Ok_same _ _ c.1) (record {
    start_text = s.prefix;
    end_text = f.prefix;
    text_is = s.text_is ∙ ap (λ y. s.prefix ++ y) (comma ∙ ap (λ y. 44 ∷ y) (f.text_is ∙ ap (λ y. f.prefix ++ y) (no_bytes _ c.0) ∙ append-nil f.prefix));
    dst_is = refl;
    start = s.spells;
    end = f.spells;
  })
  | inr c ↦ absurd (cc (c.1))
]

rule_found : (size : ℕ) (dst : Local) (text : List ℕ) (x : DstRule) → rule_read_at size dst text ≡ Ok x → Dates text dst x
unfolding rule_read_at
rule_found size dst text x h =
    let start = between (date_at size text) _ x h in
    let comma = between (ok_or (after_byte 44 start.value.1) (fault.Date (place size start.value.1))) _ x start.then_is in
    let end = between (date_at size comma.value) _ x comma.then_is in
    rule_from dst text comma.value start.value end.value x _ (date_found _ _ _ start.first_is)
    (after_byte_found _ _ _ (found_some _ _ _ comma.first_is)) (date_found _ _ _ end.first_is) end.then_is

-- a standard state and the rule that goes with it
record IsWithRule (std : Local) (text : List ℕ) (footer : Footer) : Type 0 where
  pub std_is : footer.std ≡ std
  pub rule : IsRuleIfAny std.offset text footer.dst

with_rule_along : (std : Local) (text : List ℕ) (one two : Footer) → one ≡ two → IsWithRule std text one → IsWithRule std text two
with_rule_along std text one two e h = let P : Footer → Type 0 = λ footer. IsWithRule std text footer in subst P e h

daylight_along : (std : ℤ) (text : List ℕ) (one two : Local) → two ≡ one → IsDaylight std text one → IsDaylight std text two
daylight_along std text one two e h = let P : Local → Type 0 = λ state. IsDaylight std text state in subst P (sym e) h

rule_in_from : (std : Local) (text dates : List ℕ) (dst : Local × List ℕ) (rule : DstRule) (x : Footer) → Reads (IsDaylight std.offset) text dst →
    dst.1 ≡ 44 ∷ dates → Dates dates dst.0 rule →
    ◌≡◌ {A = Result Footer FooterFault} (Ok (record { std = std; dst = Some rule })) (Ok x) → IsWithRule std text x
rule_in_from std text dates dst rule x d comma r last = with_rule_along std text _ x (Ok_same _ _ last) (record {
  std_is = refl;
  rule = record {
    dst_text = d.prefix;
    start_text = r.start_text;
    end_text = r.end_text;
    text_is = d.text_is ∙ ap (λ y. d.prefix ++ y) (comma ∙ ap (λ y. 44 ∷ y) r.text_is);
    dst = daylight_along std.offset d.prefix dst.0 rule.dst r.dst_is d.spells;
    start = r.start;
    end = r.end;
  };
})

rule_in_found : (size : ℕ) (std : Local) (text : List ℕ) (x : Footer) → rule_in size std text ≡ Ok x → IsWithRule std text x
unfolding rule_in
rule_in_found size std text x h =
    let dst = between (daylight_at size std.offset text) _ x h in
    let dates = between (dates_after size dst.value.1) _ x dst.then_is in
    let rule = between (rule_read_at size dst.value.0 dates.value) _ x dates.then_is in
    rule_in_from std text dates.value dst.value rule.value x (daylight_found _ _ _ _ dst.first_is)
    (dates_found _ _ _ dates.first_is) (rule_found _ _ _ _ rule.first_is) rule.then_is

footer_from : (text : List ℕ) (std : Local × List ℕ) (x : Footer) → Reads IsStandard text std → IsWithRule std.0 std.1 x → SpellsFooter text x
footer_from text std x s w =
    let P : Local → Type 0 = λ state. IsStandard s.prefix state in
    let Q : Local → Type 0 = λ state. IsRuleIfAny state.offset std.1 x.dst in
    record {
      std_text = s.prefix;
      rule_text = std.1;
      text_is = s.text_is;
      std = subst P (sym w.std_is) s.spells;
      rule = subst Q (sym w.std_is) w.rule;
    }

no_rule : (std : Local) (text : List ℕ) (x : Footer) → (length text == 0) ≡ true →
    ◌≡◌ {A = Result Footer FooterFault} (Ok (record { std = std; dst = None })) (Ok x) → IsWithRule std text x
no_rule std text x end last = with_rule_along std text _ x (Ok_same _ _ last) (record { std_is = refl; rule = no_bytes text end })

after_standard : (size : ℕ) (std : Local × List ℕ) (x : Footer) →
    cond (length std.1 == 0) (Ok (record { std = std.0; dst = None })) (rule_in size std.0 std.1) ≡ Ok x → IsWithRule std.0 std.1 x
after_standard size std x h = elim (chosen (length std.1 == 0) _ _ _ h) [
  | inl c ↦ no_rule std.0 std.1 x c.0 c.1
  | inr c ↦ rule_in_found size std.0 std.1 x c.1
]

pub footer_found : (text : List ℕ) (x : Footer) → footer_in text ≡ Ok x → SpellsFooter text x
unfolding footer_at
footer_found text x h =
    let std = between (standard_at (length text) text) _ x h in
    footer_from text std.value x (standard_found _ _ _ std.first_is) (after_standard (length text) std.value x std.then_is)

pub found_if_ok : (text : List ℕ) (result : Result Footer FooterFault) → result ≡ footer_in text → IfOk result (SpellsFooter text)
found_if_ok text (Ok footer) h = footer_found text footer (sym h)
found_if_ok text (Err e) h = tt
