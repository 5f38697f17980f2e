-- The names of a footer have 32 bytes at most.
use Rattle.std.proofs.Common.{◌≡◌, ◌⊎◌, inl, inr, ℕ, ◌≤◌, ◌==◌, Bool, true, false, if◌then◌else◌, refl, ap, subst, arith, Option, None, Some, Result}
use Rattle.std.proofs.Common.{Ok, Err, List, length}
use Rattle.std.specs.Prelude.{ok_or}
use Rattle.std.specs.Option.{IfSome}
use Rattle.td_base.specs.FirstFault.{◌>>=◌}
use Rattle.td_civil.specs.declared.local_time.Local.{Local}
use Rattle.posix_footer.specs.Items.{after_byte, name_at, offset_at, daylight_offset_at}
use Rattle.posix_footer.specs.Grammar.{place, date_at, standard_at, daylight_at, dates_after, rule_read_at, rule_in, footer_at, footer_in}
use Rattle.posix_footer.specs.declared.footer_fault.FooterFault.{FooterFault}
use Rattle.posix_footer.specs.declared.footer_fault.FooterFault.TheVariants as fault
use Rattle.posix_footer.specs.declared.rule_types.Date.{Date}
use Rattle.posix_footer.specs.declared.rule_types.DstRule.{DstRule}
use Rattle.posix_footer.specs.declared.rule_types.Footer.{Footer}
use Rattle.std.specs.Prelude.{ℤ}
use Rattle.vtimezone_reader.proofs.NameItems.{name_short}

-- both steps of two, one after the other, gave something
record IsBound {A B E : Type 0} (r : Result A E) (f : A → Result B E) (y : B) : Type 0 where
  value : A
  is : r ≡ Ok value
  gives : f value ≡ Ok y

bound : {A B E : Type 0} (r : Result A E) (f : A → Result B E) (y : B) → (r >>= f) ≡ Ok y → IsBound r f y
bound (Ok x) f y e = record { value = x; is = refl; gives = e }
bound (Err fault) f y e = absurd (cc)

ok_same : {A E : Type 0} (x y : A) → ◌≡◌ {A = Result A E} (Ok x) (Ok y) → x ≡ y
ok_same x y e = cc

ok_some : {A E : Type 0} (o : Option A) (bad : E) (x : A) → ok_or o bad ≡ Ok x → o ≡ Some x
ok_some (Some y) bad x e = ap Some (ok_same y x e)
ok_some None bad x e = absurd (cc)

ok_if : {A E : Type 0} (test : Bool) (x y : A) (bad : E) → (if test then Ok x else Err bad) ≡ Ok y → x ≡ y
ok_if true x y bad e = ok_same x y e
ok_if false x y bad e = absurd (cc)

standard_short : (size : ℕ) (rest : List ℕ) (s : Local × List ℕ) → standard_at size rest ≡ Ok s → length s.0.name ≤ 32
unfolding standard_at
standard_short size rest s e =
    let Made : List ℕ × List ℕ → ℤ × List ℕ → Local × List ℕ = λ name offset. (record { offset = offset.0; dst = false; name = name.0 }, offset.1) in
    let one = bound (ok_or (name_at rest) (fault.Name (place size rest)))
    (λ name. ok_or (offset_at name.1) (fault.Offset (place size name.1)) >>= λ offset. Ok (Made name offset)) s e in
    let two = bound (ok_or (offset_at one.value.1) (fault.Offset (place size one.value.1))) (λ offset. Ok (Made one.value offset)) s one.gives in
    let same = ok_same (Made one.value two.value) s two.gives in
    let name : one.value.0 ≡ s.0.name = ap (λ (p : Local × List ℕ). p.0.name) same in
    let short = name_short rest one.value (ok_some (name_at rest) (fault.Name (place size rest)) one.value one.is) in
    let long : length one.value.0 ≡ length s.0.name = ap length name in
    omega (arith, short, long)

daylight_short : (size : ℕ) (std : ℤ) (rest : List ℕ) (s : Local × List ℕ) → daylight_at size std rest ≡ Ok s → length s.0.name ≤ 32
unfolding daylight_at
daylight_short size std rest s e =
    let Made : List ℕ × List ℕ → ℤ × List ℕ → Local × List ℕ = λ name offset. (record { offset = offset.0; dst = true; name = name.0 }, offset.1) in
    let one = bound (ok_or (name_at rest) (fault.Name (place size rest)))
    (λ name. ok_or (daylight_offset_at std name.1) (fault.Offset (place size name.1)) >>= λ offset. Ok (Made name offset)) s e in
    let two = bound (ok_or (daylight_offset_at std one.value.1) (fault.Offset (place size one.value.1))) (λ offset. Ok (Made one.value offset)) s one.gives in
    let same = ok_same (Made one.value two.value) s two.gives in
    let name : one.value.0 ≡ s.0.name = ap (λ (p : Local × List ℕ). p.0.name) same in
    let short = name_short rest one.value (ok_some (name_at rest) (fault.Name (place size rest)) one.value one.is) in
    let long : length one.value.0 ≡ length s.0.name = ap length name in
    omega (arith, short, long)

rule_dst : (size : ℕ) (dst : Local) (rest : List ℕ) (rule : DstRule) → rule_read_at size dst rest ≡ Ok rule → dst ≡ rule.dst
unfolding rule_read_at
rule_dst size dst rest rule e =
    let Last : Date → Date × List ℕ → Result DstRule FooterFault = λ start end.
    if length end.1 == 0 then Ok (record { dst = dst; start = start; end = end.0 }) else Err (fault.Rest (place size end.1)) in
    let one = bound (date_at size rest)
    (λ start. ok_or (after_byte 44 start.1) (fault.Date (place size start.1)) >>= λ second. date_at size second >>= λ end. Last start.0 end) rule e in
    let two = bound (ok_or (after_byte 44 one.value.1) (fault.Date (place size one.value.1)))
    (λ second. date_at size second >>= λ end. Last one.value.0 end) rule one.gives in
    let three = bound (date_at size two.value) (λ end. Last one.value.0 end) rule two.gives in
    ap (λ (r : DstRule). r.dst)
    (ok_if (length three.value.1 == 0) (record { dst = dst; start = one.value.0; end = three.value.0 }) rule (fault.Rest (place size three.value.1))
    three.gives)

pub record HasShortNames (f : Footer) : Type 0 where
  pub std : length f.std.name ≤ 32
  pub dst : IfSome f.dst (λ r. length r.dst.name ≤ 32)

some_short : (std dst : Local) (rule : DstRule) (f : Footer) → record { std = std; dst = Some rule } ≡ f → dst ≡ rule.dst → length std.name ≤ 32
    → length dst.name ≤ 32
    → HasShortNames f
some_short std dst rule f is same first second =
    let P : Local → Type 0 = λ l. length l.name ≤ 32 in
    subst HasShortNames is (record { std = first; dst = subst P same second })

rule_short : (size : ℕ) (std : Local) (rest : List ℕ) (f : Footer) → length std.name ≤ 32 → rule_in size std rest ≡ Ok f → HasShortNames f
unfolding rule_in
rule_short size std rest f first e =
    let Made : DstRule → Result Footer FooterFault = λ rule. Ok (record { std = std; dst = Some rule }) in
    let one = bound (daylight_at size std.offset rest) (λ dst. dates_after size dst.1 >>= λ dates. rule_read_at size dst.0 dates >>= λ rule. Made rule) f e in
    let two = bound (dates_after size one.value.1) (λ dates. rule_read_at size one.value.0 dates >>= λ rule. Made rule) f one.gives in
    let three = bound (rule_read_at size one.value.0 two.value) (λ rule. Made rule) f two.gives in
    some_short std one.value.0 three.value f (ok_same (record { std = std; dst = Some three.value }) f three.gives)
    (rule_dst size one.value.0 two.value three.value three.is) first (daylight_short size std.offset rest one.value one.is)

either_of : {A : Type 0} (b : Bool) (x y z : A) → (if b then x else y) ≡ z → (x ≡ z) ⊎ (y ≡ z)
either_of true x y z e = inl e
either_of false x y z e = inr e

at_short : (size : ℕ) (text : List ℕ) (f : Footer) → footer_at size text ≡ Ok f → HasShortNames f
unfolding footer_at
at_short size text f e =
    let one = bound (standard_at size text) (λ std. if length std.1 == 0 then Ok (record { std = std.0; dst = None }) else rule_in size std.0 std.1) f e in
    let short = standard_short size text one.value one.is in
    elim (either_of (length one.value.1 == 0) (Ok (record { std = one.value.0; dst = None })) (rule_in size one.value.0 one.value.1) (Ok f) one.gives) [
      | inl alone ↦ subst HasShortNames (ok_same (record { std = one.value.0; dst = None }) f alone) (record { std = short; dst = tt })
      | inr more ↦ rule_short size one.value.0 one.value.1 f short more
    ]

pub footer_short : (text : List ℕ) (f : Footer) → footer_in text ≡ Ok f → HasShortNames f
footer_short text f e = at_short (length text) text f e
