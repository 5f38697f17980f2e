-- The texts of moments: each byte is from 45 to 90, a dash, a digit, a colon, T or Z.
use Rattle.std.proofs.Common.{ℕ, ◌+◌, ◌/◌, ◌%◌, ◌≤◌, arith, ℤ}
use Rattle.std.specs.List.{All, AllByRecursion}
use Rattle.std.proofs.lemmas.List.Elements.{All-from_recursion}
use Rattle.td_civil.specs.Calendar.{stamp_of, text_of}
use Rattle.td_civil.specs.Stamp.{Stamp, spelling}

spelling_all : (P : ℕ → Type 0) → ((b : ℕ) → 45 ≤ b → b ≤ 90 → P b) → (s : Stamp) → AllByRecursion P (spelling s)
spelling_all P h s =
    let digit : (n : ℕ) → P (48 + n % 10) = λ n. h (48 + n % 10) (omega arith) (omega arith) in
    let dash : P 45 = h 45 (omega arith) (omega arith) in
    let colon : P 58 = h 58 (omega arith) (omega arith) in (
      digit (s.year / 1000),
      (
        digit (s.year / 100),
        (
          digit (s.year / 10),
          (
            digit s.year,
            (
              dash,
              (
                digit (s.month / 10),
                (
                  digit s.month,
                  (
                    dash,
                    (
                      digit (s.day / 10),
                      (
                        digit s.day,
                        (
                          h 84 (omega arith) (omega arith),
                          (
                            digit (s.hour / 10),
                            (
                              digit s.hour,
                              (
                                colon,
                                (
                                  digit (s.minute / 10),
                                  (
                                    digit s.minute,
                                    (
                                      colon,
                                      (digit (s.second / 10), (digit s.second, (h 90 (omega arith) (omega arith), tt))),
                                    ),
                                  ),
                                ),
                              ),
                            ),
                          ),
                        ),
                      ),
                    ),
                  ),
                ),
              ),
            ),
          ),
        ),
      ),
    )

-- what holds of the numbers from 45 to 90 holds of each byte of a text
pub text_all_by_recursion : (P : ℕ → Type 0) → ((b : ℕ) → 45 ≤ b → b ≤ 90 → P b) → (m : ℤ) → AllByRecursion P (text_of m)
unfolding text_of
text_all_by_recursion P h m = spelling_all P h (stamp_of m)

pub text_all : (P : ℕ → Type 0) → ((b : ℕ) → 45 ≤ b → b ≤ 90 → P b) → (m : ℤ) → All P (text_of m)
text_all P h m = All-from_recursion P (text_of m) (text_all_by_recursion P h m)
