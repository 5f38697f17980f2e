-- What UTC shows at a moment: the one stamp of which it is the moment.
use Rattle.std.proofs.Common.{◌≡◌, ℕ, ◌+◌, ◌*◌, ◌/◌, ◌<◌, ◌≤◌, List, refl, sym, ap, subst, ◌↔◌, ◌∙◌}
use Rattle.std.proofs.Common.{arith, ℤ, pos, negsuc, ◌+ℤ◌, ◌≤ℤ◌, ◌<ℤ◌, unsigned_abs, Option, Some}
use Rattle.jiff_core.specs.Calendar.{day_count, IsCivilDate, IsWithin}
use Rattle.jiff_core.proofs.SignedLemmas.{signed_arith}
use Rattle.jiff_core.proofs.CalendarLemmas.{days_from_civil-day_count, day_count-next_year}
use Rattle.jiff_core.proofs.CalendarLemmas.{day_count-day_of_year, day_of_year_bound}
use Rattle.td_civil.specs.Bounds.{IsWithinBounds, HasText}
use Rattle.td_civil.specs.Calendar.{Civil, date_of, stamp_after, elapsed, stamp_of, IsInYear}
use Rattle.td_civil.specs.Calendar.{text_of, local_text_of}
use Rattle.td_civil.specs.Stamp.{Stamp, IsStamp, spelling, basic_spelling, moment_at, Spells}
use Rattle.td_civil.specs.Stamp.{ShowsLocal}
use Rattle.td_civil.specs.Reading.{moment_in}
use Rattle.td_civil.proofs.lemmas.Counting.{IsDated, date_of_counts, dated_bounds, one_date}
use Rattle.td_civil.proofs.lemmas.ReadBack.{same_fields}
use Rattle.td_civil.proofs.lemmas.Spelled.{spells_found}

pub stamp_after_valid : (n : ℕ) → n < 315_569_520_000 → IsStamp (stamp_after n)
stamp_after_valid n h =
    let d = date_of_counts (n / 86400) (omega arith) in
    record {
      year = d.dated.year;
      month = d.dated.month;
      day = d.dated.day;
      hour = omega arith;
      minute = omega arith;
      second = omega arith;
    }

pub stamp_after_moment : (n : ℕ) → n < 315_569_520_000 → moment_at (stamp_after n) +ℤ pos 62_167_219_200 ≡ pos n
stamp_after_moment n h =
    let d = date_of_counts (n / 86400) (omega arith) in
    let c = date_of (n / 86400) in
    omega (arith, signed_arith, d.count, days_from_civil-day_count (pos c.year) c.month c.day)

abs_is : (z : ℤ) → pos 0 ≤ℤ z → z <ℤ pos 315_569_520_000 → (pos (unsigned_abs z) ≡ z) × (unsigned_abs z < 315_569_520_000)
abs_is (pos n) low high = (refl, omega (arith, signed_arith))
abs_is (negsuc n) low high = absurd (omega (arith, signed_arith))

pub elapsed_is : (m : ℤ) → HasText m → (pos (elapsed m) ≡ m +ℤ pos 62_167_219_200) × (elapsed m < 315_569_520_000)
elapsed_is m h =
    abs_is (m +ℤ pos 62_167_219_200) (omega (arith, signed_arith, h)) (omega (arith, signed_arith, h))

pub stamp_of_valid : (m : ℤ) → HasText m → IsStamp (stamp_of m)
stamp_of_valid m h = stamp_after_valid (elapsed m) (elapsed_is m h).1

pub stamp_of_moment : (m : ℤ) → HasText m → m ≡ moment_at (stamp_of m)
stamp_of_moment m h =
    let e = elapsed_is m h in
    let shown = stamp_after_moment (elapsed m) e.1 in
    omega (arith, signed_arith, shown, e.0)

-- the text of a moment spells it
pub text_spells : (m : ℤ) → HasText m → Spells (text_of m) m
unfolding text_of
text_spells m h = record {
  stamp = stamp_of m;
  valid = stamp_of_valid m h;
  text_is = refl;
  moment_is = stamp_of_moment m h;
}

pub made_text : (text : List ℕ) (s : Stamp) (m : ℤ) → text ≡ spelling s → s ≡ stamp_of m → text ≡ text_of m
unfolding text_of
made_text text s m is shown = is ∙ ap spelling shown

pub made_spells : (text : List ℕ) (s : Stamp) (m : ℤ) → HasText m → text ≡ spelling s → s ≡ stamp_of m → Spells text m
made_spells text s m h is shown = record {
  stamp = stamp_of m;
  valid = stamp_of_valid m h;
  text_is = is ∙ ap spelling shown;
  moment_is = stamp_of_moment m h;
}

pub made_local_text : (text : List ℕ) (s : Stamp) (m offset : ℤ) → text ≡ basic_spelling s → s ≡ stamp_of (m +ℤ offset) → text ≡ local_text_of m offset
unfolding local_text_of
made_local_text text s m offset is shown = is ∙ ap basic_spelling shown

pub made_shows : (text : List ℕ) (s : Stamp) (m : ℤ) → HasText m → text ≡ basic_spelling s → s ≡ stamp_of m → ShowsLocal text m
made_shows text s m h is shown = record {
  stamp = stamp_of m;
  valid = stamp_of_valid m h;
  text_is = is ∙ ap basic_spelling shown;
  moment_is = stamp_of_moment m h;
}

pub local_bounds_text : (m offset : ℤ) → IsWithinBounds m → IsWithin 86_399 offset → HasText (m +ℤ offset)
local_bounds_text m offset h k =
    (omega (arith, signed_arith, h, k), omega (arith, signed_arith, h, k))

abbrev civil : Stamp → Civil
civil s = record { year = s.year; month = s.month; day = s.day }

dated : (s : Stamp) → IsStamp s → IsDated (civil s)
dated s h = record { year = h.year; month = h.month; day = h.day }

-- two stamps of one moment are one
pub one_stamp : (a b : Stamp) → IsStamp a → IsStamp b → moment_at a ≡ moment_at b → a ≡ b
one_stamp a b h k e =
    let x = days_from_civil-day_count (pos a.year) a.month a.day in
    let y = days_from_civil-day_count (pos b.year) b.month b.day in
    let count : day_count (pos a.year) a.month a.day ≡ day_count (pos b.year) b.month b.day =
    omega (arith, signed_arith, h.hour, h.minute, h.second, k.hour, k.minute, k.second) in
    let date : civil a ≡ civil b = one_date (civil a) (civil b) (dated a h) (dated b k) count in
    let time : 3600 * a.hour + 60 * a.minute + a.second ≡ 3600 * b.hour + 60 * b.minute + b.second = omega (arith, signed_arith) in
    same_fields a b (ap (λ (c : Civil). c.year) date) (ap (λ (c : Civil). c.month) date) (ap (λ (c : Civil). c.day) date)
    (omega (arith, h.minute, h.second, k.minute, k.second)) (omega (arith, h.minute, h.second, k.minute, k.second))
    (omega (arith, h.minute, h.second, k.minute, k.second))

-- a moment has one text
pub one_text_lem : (a b : List ℕ) (m : ℤ) → Spells a m → Spells b m → a ≡ b
one_text_lem a b m h k =
    h.text_is
    ∙ ap spelling (one_stamp h.stamp k.stamp h.valid k.valid (sym h.moment_is ∙ k.moment_is))
    ∙ sym k.text_is

some_same : (m n : ℤ) → ◌≡◌ {A = Option ℤ} (Some m) (Some n) → m ≡ n
some_same m n e = cc

-- and a text one moment
pub one_moment_lem : (text : List ℕ) (m n : ℤ) → Spells text m → Spells text n → m ≡ n
one_moment_lem text m n h k = some_same m n (sym (spells_found text m h) ∙ spells_found text n k)

pub bounds_text : (m : ℤ) → IsWithinBounds m → HasText m
bounds_text m h = (omega (arith, signed_arith, h), omega (arith, signed_arith, h))

year_lem : (s : Stamp) (m : ℤ) → IsStamp s → m ≡ moment_at s → IsInYear (pos s.year) m
year_lem s m h e =
    let y = s.year in
    let date : IsCivilDate (pos y) s.month s.day = ((omega (arith, signed_arith, h.year), omega (arith, signed_arith, h.year)), h.month, h.day) in
    let next = day_count-next_year (pos y) (pos y +ℤ pos 1) (omega (arith, signed_arith)) refl in
    let place = day_count-day_of_year (pos y) s.month s.day h.day.0 in
    let most = day_of_year_bound (pos y) s.month s.day date in
    let first = days_from_civil-day_count (pos y) 1 1 in
    let after = days_from_civil-day_count (pos y +ℤ pos 1) 1 1 in
    let here = days_from_civil-day_count (pos y) s.month s.day in
    (omega (arith, signed_arith, h.day, h.hour, h.minute, h.second), omega (arith, signed_arith, h.day, h.hour, h.minute, h.second))

-- the moment of a stamp lies in the years 0 to 9999
pub stamp_has_text : (s : Stamp) (m : ℤ) → IsStamp s → m ≡ moment_at s → HasText m
stamp_has_text s m h e =
    let bounds = dated_bounds (civil s) (dated s h) in (
      omega (arith, signed_arith, bounds, days_from_civil-day_count (pos s.year) s.month s.day),
      omega
          (arith, signed_arith, bounds, h.hour, h.minute, h.second, days_from_civil-day_count (pos s.year) s.month s.day),
    )

-- a moment that is spelled lies in the years 0 to 9999
pub spelled_has_text : (text : List ℕ) (m : ℤ) → Spells text m → HasText m
spelled_has_text text m h = stamp_has_text h.stamp m h.valid h.moment_is

-- and its text is this one
pub spelled_text : (text : List ℕ) (m : ℤ) → Spells text m → text ≡ text_of m
spelled_text text m h = one_text_lem text (text_of m) m h (text_spells m (spelled_has_text text m h))

pub reads_back_lem : (m : ℤ) → HasText m → moment_in (text_of m) ≡ Some m
reads_back_lem m h = spells_found (text_of m) m (text_spells m h)

pub is_text_of_lem : (text : List ℕ) (m : ℤ) → Spells text m ↔ (HasText m × (text ≡ text_of m))
is_text_of_lem text m =
    (λ h. (spelled_has_text text m h, spelled_text text m h), λ h. let P : List ℕ → Type 0 = λ t. Spells t m in subst P (sym h.1) (text_spells m h.0))

-- a moment lies in the year that UTC shows at it
pub shown_year : (m : ℤ) → HasText m → IsInYear (pos (stamp_of m).year) m
shown_year m h = year_lem (stamp_of m) m (stamp_of_valid m h) (stamp_of_moment m h)

pub year_of_fields : (m : ℤ) (n : ℕ) (s : Stamp) → HasText m → n ≡ s.year → s ≡ stamp_of m → (n ≤ 9999) × (n ≡ (stamp_of m).year)
year_of_fields m n s h year shown =
    let same : n ≡ (stamp_of m).year = year ∙ ap (λ (t : Stamp). t.year) shown in
    let valid : (stamp_of m).year ≤ 9999 = (stamp_of_valid m h).year in
    (omega arith, same)
