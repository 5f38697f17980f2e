-- What is read is sound.
use Rattle.std.proofs.Common.{◌≡◌, ℕ, ◌+◌, ◌*◌, ◌<◌, ◌==◌, nat_lt, Bool, true, false, not, ◌&&◌}
use Rattle.std.proofs.Common.{if◌then◌else◌, List, [], ◌∷◌, ◌++◌, length}
use Rattle.std.proofs.Common.{codes, refl, subst, arith, ℤ, pos, neg_ℤ, ◌+ℤ◌, ◌-ℤ◌, int_le, int_lt, Option}
use Rattle.std.proofs.Common.{None, Some, Result, Ok, Err, IfOk}
use Rattle.std.specs.List.{AllByRecursion}
use Rattle.std.specs.Option.{IfSome, option_map, option_and_then}
use Rattle.std.proofs.lemmas.Bool.{cond_both, and_parts}
use Rattle.std.proofs.lemmas.Bool.Decides.{nat_tests}
use Rattle.std.proofs.lemmas.Int.{ints}
use Rattle.jiff_core.specs.Calendar.{IsWithin}
use Rattle.jiff_core.proofs.SignedLemmas.{signed_arith}
use Rattle.td_base.specs.FirstFault.{◌>>=◌}
use Rattle.td_civil.specs.declared.moment_type.Moment.{Moment}
use Rattle.td_civil.specs.Bounds.{HasMeaning, has_meaning}
use Rattle.td_civil.specs.Reading.{two_at}
use Rattle.td_civil.specs.declared.moment_type.TheConstants.{LO, HI}
use Rattle.recurrence.specs.declared.part_types.Part.{Part}
use Rattle.recurrence.specs.declared.rule_types.Form.{Form}
use Rattle.recurrence.specs.Valid.{IsValidForm}
use Rattle.vtimezone.specs.CalendarText.{kind_of}
use Rattle.vtimezone.specs.ReadValues.{local_in, seconds_in, is_hours, size_in, signed_by, offset_in, utc_in}
use Rattle.vtimezone_reader.specs.ValidForms.{is_valid_form}
use Rattle.ical_lines.specs.Unfolding.{unfolded}
use Rattle.ical_lines.specs.declared.line_fault.BadLine.{BadLine}
use Rattle.vtimezone_reader.specs.declared.calendar_type.TheConstants.{MOST_BYTES}
use Rattle.vtimezone_reader.specs.declared.calendar_fault.LineFault.{LineFault}
use Rattle.vtimezone_reader.specs.declared.calendar_fault.LineFault.TheVariants as fault
use Rattle.vtimezone_reader.specs.declared.calendar_fault.CalendarFault.{CalendarFault}
use Rattle.vtimezone_reader.specs.declared.calendar_type.Calendar.{Calendar}
use Rattle.vtimezone_reader.specs.declared.part_lines.OpenPart.{OpenPart}
use Rattle.vtimezone_reader.specs.declared.rule_words.Recur.{Recur}
use Rattle.vtimezone_reader.specs.declared.rule_words.Words.{Words}
use Rattle.vtimezone_reader.specs.declared.zone_lines.OpenZone.{OpenZone}
use Rattle.vtimezone_reader.specs.declared.standing.Standing.{Standing}
use Rattle.vtimezone_reader.specs.declared.standing.Standing.TheVariants as at
use Rattle.vtimezone_reader.proofs.Validity.{valid_is}
use Rattle.vtimezone_reader.specs.ContentLines.{is_word, name_of, value_of}
use Rattle.vtimezone_reader.specs.PartLines.{set_once, more_line, part_line, rule_at, part_with, part_if, part_of}
use Rattle.vtimezone_reader.specs.ReadLines.{identifier_in, zone_line, has_part, calendar_if, calendar_of, begins, ends, is_mark}
use Rattle.vtimezone_reader.specs.ReadLines.{in_zone, in_part, step}
use Rattle.vtimezone_reader.specs.ReadLines.{at_line, step_if, line_read, ended_at, lines_read, of_lines, calendar_in}
use Rattle.vtimezone_reader.specs.RuleWords.{recur_in, recur_of, recur_with, valid_only}
use Rattle.vtimezone_reader.specs.Sound.{IsMeant, HasStartTime, IsSoundPart, IsSoundCalendar}
use Rattle.vtimezone_reader.specs.TimeTexts.{moment_within, moment_by, moments_by}
use Rattle.vtimezone_reader.proofs.SoundSteps.{IsSoundOpen, IsSoundZone, IsSoundStanding}

-- ---- results that hold

bind_ok : {A B E : Type 0} (r : Result A E) (f : A → Result B E) (P : A → Type 0) (Q : B → Type 0) → IfOk r P → ((x : A) → P x → IfOk (f x) Q)
    → IfOk (r >>= f) Q
bind_ok (Ok x) f P Q h k = k x h
bind_ok (Err e) f P Q h k = tt

if_ok : {A E : Type 0} (b : Bool) (x y : Result A E) (P : A → Type 0) → IfOk x P → IfOk y P → IfOk (if b then x else y) P
if_ok true x y P h k = h
if_ok false x y P h k = k

once_ok : {A : Type 0} (before : Option A) (bad : LineFault) (value : Option A) (P : A → Type 0) → IfSome value P → IfOk (set_once before bad value) P
once_ok (Some before) bad value P h = tt
once_ok None bad None P h = tt
once_ok None bad (Some value) P h = h

any_ok : {A E : Type 0} (r : Result A E) → IfOk r (λ x. Unit {0})
any_ok (Ok x) = tt
any_ok (Err e) = tt

-- ---- values

hours_bound : (digits : List ℕ) → is_hours digits ≡ true → size_in digits < 86400
hours_bound digits e =
    let last = and_parts _ (nat_lt (seconds_in digits) 60) e in
    let third = and_parts _ (nat_lt (two_at digits 2) 60) last.0 in
    let second = and_parts _ (nat_lt (two_at digits 0) 24) third.0 in
    let hours = second.1 in let minutes = third.1 in let seconds = last.1 in
    within (two_at digits 0) (two_at digits 2) (seconds_in digits) hours minutes seconds
  where
    within : (h m s : ℕ) → nat_lt h 24 ≡ true → nat_lt m 60 ≡ true → nat_lt s 60 ≡ true → 3600 * h + 60 * m + s < 86400
    within h m s x y z = grind (arith, nat_tests)

signed_within : (sign size : ℕ) → size < 86400 → IfSome (signed_by sign size) (IsWithin 86399)
signed_within sign size h =
    cond_both (sign == 43) (Some (pos size)) (if sign == 45 && not (size == 0) then Some (neg_ℤ (pos size)) else None) (λ o. IfSome o (IsWithin 86399))
    (λ _. (omega (arith, signed_arith, h), omega (arith, signed_arith, h)))
    (λ _. cond_both (sign == 45 && not (size == 0)) (Some (neg_ℤ (pos size))) None (λ o. IfSome o (IsWithin 86399))
    (λ _. (omega (arith, signed_arith, h), omega (arith, signed_arith, h))) (λ _. tt))

offset_within : (text : List ℕ) → IfSome (offset_in text) (IsWithin 86399)
unfolding offset_in
offset_within [] = tt
offset_within (sign ∷ digits) =
    cond_both (is_hours digits) (signed_by sign (size_in digits)) None (λ o. IfSome o (IsWithin 86399))
    (λ e. signed_within sign (size_in digits) (hours_bound digits e)) (λ _. tt)

with_valid : (until : Option Moment) (f : Option Form) → IfSome (recur_with until (valid_only f)) (λ r. IsValidForm r.form)
with_valid until None = tt
with_valid until (Some f) =
    cond_both (is_valid_form f) (Some f) None (λ o. IfSome (recur_with until o) (λ r. IsValidForm r.form)) (λ e. valid_is f e) (λ _. tt)

of_valid : (w : Words) → IfSome (recur_of w) (λ r. IsValidForm r.form)
unfolding recur_of
of_valid w = cond_both w.yearly _ None (λ o. IfSome o (λ (r : Recur). IsValidForm r.form)) (λ _. with_valid w.until _) (λ _. tt)

and_then_holds : {A B : Type 0} (o : Option A) (f : A → Option B) (P : B → Type 0) → ((x : A) → IfSome (f x) P) → IfSome (option_and_then f o) P
and_then_holds None f P h = tt
and_then_holds (Some x) f P h = h x

recur_valid : (text : List ℕ) → IfSome (recur_in text) (λ r. IsValidForm r.form)
unfolding recur_in
recur_valid text = and_then_holds _ recur_of (λ r. IsValidForm r.form) of_valid

meant : (m : ℤ) → IfSome (moment_within m) IsMeant
meant m = cond_both (has_meaning m) (Some (record { seconds = m })) None (λ o. IfSome o IsMeant) (λ e. is_meant m e) (λ _. tt)
  where
    is_meant : (m : ℤ) → has_meaning m ≡ true → HasMeaning m
    is_meant m e =
        let both = and_parts (int_le LO m) (int_lt m HI) e in
        let low = both.0 in let high = both.1 in
        (grind (arith, ints), grind (arith, ints))

moment_meant : (offset : ℤ) (text : List ℕ) → IfSome (moment_by offset text) IsMeant
moment_meant offset text = and_then_holds (local_in text) (λ shown. moment_within (shown -ℤ offset)) IsMeant (λ shown. meant (shown -ℤ offset))

moments_meant : (offset : ℤ) (texts : List (List ℕ)) → IfSome (moments_by offset texts) (AllByRecursion IsMeant)
unfolding moments_by
moments_meant offset [] = tt
moments_meant offset (t ∷ ts) = both (moment_by offset t) (moments_by offset ts) (moment_meant offset t) (moments_meant offset ts)
  where
    both : (o : Option Moment) (os : Option (List Moment)) → IfSome o IsMeant → IfSome os (AllByRecursion IsMeant)
        → IfSome (option_and_then (λ m. option_map (λ ms. m ∷ ms) os) o) (AllByRecursion IsMeant)
    both None os h k = tt
    both (Some m) None h k = tt
    both (Some m) (Some ms) h k = (h, k)

-- ---- a part

with_sound : (p : OpenPart) (from to : ℤ) (start : Option Moment) (dates : Option (List Moment)) → IsWithin 86399 from → IsWithin 86399 to
    → IfSome p.recur (λ r. IsValidForm r.form) → IfSome start IsMeant → IfSome dates (AllByRecursion IsMeant)
    → IfOk (part_with p from to start dates) IsSoundPart
with_sound p from to None dates a b r s d = tt
with_sound p from to (Some start) None a b r s d = tt
with_sound p from to (Some start) (Some dates) a b r s d = record {
  start = s;
  from = a;
  to = b;
  dates = d;
  rule = timed p.recur r;
}
  where
    timed : (recur : Option Recur) → IfSome recur (λ r. IsValidForm r.form)
        → HasStartTime (record { dst = p.dst; start = start; from = from; to = to; name = []; rule = None; until = None; dates = [] })
        (option_map (rule_at (start.seconds +ℤ from)) recur)
    timed None h = tt
    timed (Some r) h = (h, omega (arith, signed_arith))

if_sound : (p : OpenPart) (start : Option (List ℕ)) (from to : Option ℤ) → IfSome from (IsWithin 86399) → IfSome to (IsWithin 86399)
    → IfSome p.recur (λ r. IsValidForm r.form) → IfOk (part_if p start from to) IsSoundPart
if_sound p None from to a b r = tt
if_sound p (Some start) None to a b r = tt
if_sound p (Some start) (Some from) None a b r = tt
if_sound p (Some start) (Some from) (Some to) a b r =
    with_sound p from to (moment_by from start) (moments_by from p.dates) a b r (moment_meant from start) (moments_meant from p.dates)

part_sound : (p : OpenPart) → IsSoundOpen p → IfOk (part_of p) IsSoundPart
unfolding part_of
part_sound p h = if_sound p p.start p.from p.to h.from h.to h.recur

more_sound : (p : OpenPart) (name value : List ℕ) → IsSoundOpen p → IfOk (more_line p name value) IsSoundOpen
unfolding more_line
more_sound p name value h =
    if_ok (is_word name (codes "RRULE")) _ _ IsSoundOpen
    (bind_ok (set_once p.recur fault.Rule (recur_in value)) _ (λ r. IsValidForm r.form) IsSoundOpen
    (once_ok p.recur fault.Rule (recur_in value) _ (recur_valid value))
    (λ r valid. record { from = h.from; to = h.to; recur = valid }))
    (if_ok (is_word name (codes "RDATE")) _ _ IsSoundOpen (record { from = h.from; to = h.to; recur = h.recur })
    (if_ok (is_word name (codes "TZNAME")) _ _ IsSoundOpen (record { from = h.from; to = h.to; recur = h.recur }) h))

line_sound : (p : OpenPart) (name value : List ℕ) → IsSoundOpen p → IfOk (part_line p name value) IsSoundOpen
unfolding part_line
line_sound p name value h =
    if_ok (is_word name (codes "DTSTART")) _ _ IsSoundOpen
    (bind_ok (set_once p.start fault.Value (Some value)) _ (λ v. Unit {0}) IsSoundOpen (any_ok _) (λ v _. record { from = h.from; to = h.to; recur = h.recur }))
    (if_ok (is_word name (codes "TZOFFSETFROM")) _ _ IsSoundOpen
    (bind_ok (set_once p.from fault.Value (offset_in value)) _ (IsWithin 86399) IsSoundOpen
    (once_ok p.from fault.Value (offset_in value) _ (offset_within value))
    (λ v within. record { from = within; to = h.to; recur = h.recur }))
    (if_ok (is_word name (codes "TZOFFSETTO")) _ _ IsSoundOpen
    (bind_ok (set_once p.to fault.Value (offset_in value)) _ (IsWithin 86399) IsSoundOpen (once_ok p.to fault.Value (offset_in value) _ (offset_within value))
    (λ v within. record { from = h.from; to = within; recur = h.recur }))
    (more_sound p name value h)))

-- ---- the time zone

same_parts : (z : OpenZone) (name value : List ℕ) → IsSoundZone z → IfOk (zone_line z name value) IsSoundZone
unfolding zone_line
same_parts z name value h =
    let one = set_once z.tzid fault.Value (identifier_in value) in
    let two = set_once z.alias_of fault.Value (identifier_in value) in
    let three = set_once z.until fault.Value (utc_in value) in
    if_ok (is_word name (codes "TZID")) _ _ IsSoundZone
    (bind_ok one (λ v. Ok (record z { tzid = Some v })) (λ v. Unit {0}) IsSoundZone (any_ok one) (λ v _. h))
    (if_ok (is_word name (codes "TZID-ALIAS-OF")) _ _ IsSoundZone
    (bind_ok two (λ v. Ok (record z { alias_of = Some v })) (λ v. Unit {0}) IsSoundZone (any_ok two) (λ v _. h))
    (if_ok (is_word name (codes "TZUNTIL")) _ _ IsSoundZone
    (bind_ok three (λ v. Ok (record z { until = Some v })) (λ v. Unit {0}) IsSoundZone (any_ok three) (λ v _. h)) h))

push_sound : (ps : List Part) (p : Part) → AllByRecursion IsSoundPart ps → IsSoundPart p → AllByRecursion IsSoundPart (ps ++ p ∷ [])
push_sound [] p h k = (k, tt)
push_sound (x ∷ xs) p h k = (h.0, push_sound xs p h.1 k)

if_calendar : (z : OpenZone) (tzid : Option (List ℕ)) → has_part z ≡ true → IsSoundZone z → IfOk (calendar_if z tzid) IsSoundCalendar
if_calendar z None some h = tt
if_calendar z (Some tzid) some h = record { some = grind (arith, nat_tests); parts = h }

-- a branch that is taken only where a test passes
if_test_ok : {A E : Type 0} (b : Bool) (x y : Result A E) (P : A → Type 0) → (b ≡ true → IfOk x P) → IfOk y P → IfOk (if b then x else y) P
if_test_ok true x y P h k = h refl
if_test_ok false x y P h k = k

in_zone_sound : (z : OpenZone) (name value : List ℕ) → IsSoundZone z → IfOk (in_zone z name value) IsSoundStanding
unfolding in_zone
in_zone_sound z name value h =
    if_ok (begins name value (codes "STANDARD")) _ _ IsSoundStanding (h, record { from = tt; to = tt; recur = tt })
    (if_ok (begins name value (codes "DAYLIGHT")) _ _ IsSoundStanding (h, record { from = tt; to = tt; recur = tt })
    (if_test_ok (ends name value (codes "VTIMEZONE") && has_part z) _ _ IsSoundStanding
    (λ e. bind_ok (calendar_of z) _ IsSoundCalendar IsSoundStanding
    (if_calendar z z.tzid ((and_parts (ends name value (codes "VTIMEZONE")) (has_part z) e).1) h) (λ c sound. sound))
    (if_ok (is_mark name) _ _ IsSoundStanding tt
    (bind_ok (zone_line z name value) _ IsSoundZone IsSoundStanding (same_parts z name value h) (λ now sound. sound)))))

in_part_sound : (z : OpenZone) (p : OpenPart) (name value : List ℕ) → IsSoundZone z → IsSoundOpen p → IfOk (in_part z p name value) IsSoundStanding
unfolding in_part
in_part_sound z p name value h k =
    if_ok (ends name value (kind_of p.dst)) _ _ IsSoundStanding
    (bind_ok (part_of p) _ IsSoundPart IsSoundStanding (part_sound p k) (λ part sound. push_sound z.parts part h sound))
    (if_ok (is_mark name) _ _ IsSoundStanding tt
    (bind_ok (part_line p name value) _ IsSoundOpen IsSoundStanding (line_sound p name value k) (λ now sound. (h, sound))))

step_sound : (s : Standing) (name value : List ℕ) → IsSoundStanding s → IfOk (step s name value) IsSoundStanding
unfolding step
step_sound at.Outside name value h = if_ok (begins name value (codes "VCALENDAR")) _ _ IsSoundStanding tt tt
step_sound at.InCalendar name value h =
    if_ok (begins name value (codes "VTIMEZONE")) _ _ IsSoundStanding tt (if_ok (is_mark name) _ _ IsSoundStanding tt tt)
step_sound (at.InZone z) name value h = in_zone_sound z name value h
step_sound (at.InPart z p) name value h = in_part_sound z p name value h.0 h.1
step_sound (at.AfterZone c) name value h =
    if_ok (ends name value (codes "VCALENDAR")) _ _ IsSoundStanding h (if_ok (is_mark name) _ _ IsSoundStanding tt h)
step_sound (at.Ended c) name value h = tt

-- ---- all lines

at_line_ok : {A : Type 0} (n : ℕ) (r : Result A LineFault) (P : A → Type 0) → IfOk r P → IfOk (at_line n r) P
at_line_ok n (Ok x) P h = h
at_line_ok n (Err e) P h = tt

step_if_sound : (s : Standing) (name : List ℕ) (value : Option (List ℕ)) → IsSoundStanding s → IfOk (step_if s name value) IsSoundStanding
step_if_sound s name None h = tt
step_if_sound s name (Some value) h = step_sound s name value h

ended_sound : (n : ℕ) (s : Standing) → IsSoundStanding s → IfOk (ended_at n s) IsSoundCalendar
ended_sound n at.Outside h = tt
ended_sound n at.InCalendar h = tt
ended_sound n (at.InZone z) h = tt
ended_sound n (at.InPart z p) h = tt
ended_sound n (at.AfterZone c) h = tt
ended_sound n (at.Ended c) h = h

pub lines_sound : (n : ℕ) (s : Standing) (lines : List (List ℕ)) → IsSoundStanding s → IfOk (lines_read n s lines) IsSoundCalendar
unfolding lines_read
lines_sound n s [] h = ended_sound n s h
lines_sound n s (line ∷ lines) h =
    bind_ok (line_read n s line) _ IsSoundStanding IsSoundCalendar (at_line_ok n _ IsSoundStanding (step_if_sound s (name_of line) (value_of line) h))
    (λ now sound. lines_sound (n + 1) now lines sound)

of_lines_sound : (r : Result (List (List ℕ)) BadLine) → IfOk (of_lines r) IsSoundCalendar
of_lines_sound (Ok lines) = lines_sound 0 at.Outside lines tt
of_lines_sound (Err bad) = tt

pub calendar_sound : (text : List ℕ) → IfOk (calendar_in text) IsSoundCalendar
unfolding calendar_in
calendar_sound text = if_ok (nat_lt MOST_BYTES (length text)) _ _ IsSoundCalendar tt (of_lines_sound (unfolded text))

pub result_sound : (r s : Result Calendar CalendarFault) → IfOk s IsSoundCalendar → IfOk r (λ c. s ≡ Ok c) → IfOk r IsSoundCalendar
result_sound (Err e) s h k = tt
result_sound (Ok c) s h k = subst (λ (t : Result Calendar CalendarFault). IfOk t IsSoundCalendar) k h
