-- Digits read back.
use Rattle.std.proofs.Common.{◌≡◌, ℕ, ◌+◌, ◌-◌, ◌*◌, ◌/◌, ◌%◌, ◌<◌, ◌≤◌, refl, arith, pos}
use Rattle.jiff_core.proofs.CalendarLemmas.{days_in_month_bounds}
use Rattle.td_civil.specs.Stamp.{Stamp, IsStamp, spelling}
use Rattle.td_civil.specs.Reading.{stamp_in}

pub two_back : (n : ℕ) → n < 100 → 10 * (48 + n / 10 % 10 - 48) + (48 + n % 10 - 48) ≡ n
two_back n h = omega arith

pub four_back : (n : ℕ) → n ≤ 9999 → 100 * (10 * (48 + n / 1000 % 10 - 48) + (48 + n / 100 % 10 - 48)) + (10 * (48 + n / 10 % 10 - 48) + (48 + n % 10 - 48)) ≡ n
four_back n h = omega arith

abbrev fields : ℕ → ℕ → ℕ → ℕ → ℕ → ℕ → Stamp
fields y m d h n s = record { year = y; month = m; day = d; hour = h; minute = n; second = s }

same_parts : (y m d h n s y₂ m₂ d₂ h₂ n₂ s₂ : ℕ) → y ≡ y₂ → m ≡ m₂ → d ≡ d₂ → h ≡ h₂ → n ≡ n₂ → s ≡ s₂ → fields y m d h n s ≡ fields y₂ m₂ d₂ h₂ n₂ s₂
same_parts y m d h n s y₂ m₂ d₂ h₂ n₂ s₂ year month day hour minute second =
    rw (year, month, day, hour, minute, second) refl

pub same_fields : (a b : Stamp) → a.year ≡ b.year → a.month ≡ b.month → a.day ≡ b.day → a.hour ≡ b.hour → a.minute ≡ b.minute → a.second ≡ b.second → a ≡ b
same_fields a b year month day hour minute second =
    same_parts a.year a.month a.day a.hour a.minute a.second b.year b.month b.day b.hour b.minute b.second year month day hour minute second

-- the fields of a moment's text are found again in it
pub stamp_back : (s : Stamp) → IsStamp s → stamp_in (spelling s) ≡ s
stamp_back s h =
    let longest = days_in_month_bounds (pos s.year) s.month in
    let last : s.day ≤ 31 = omega (arith, h.day, longest) in
    same_fields (stamp_in (spelling s)) s (four_back s.year h.year) (two_back s.month (omega (arith, h.month))) (two_back s.day (omega arith))
    (two_back s.hour (omega (arith, h.hour))) (two_back s.minute (omega (arith, h.minute))) (two_back s.second (omega (arith, h.second)))
