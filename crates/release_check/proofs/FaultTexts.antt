-- How faults are printed and shown.
use Rattle.std.proofs.Common.{◌≡◌, List, [], ℕ, Bool, true, false, if◌then◌else◌, IsUtf8, refl}
use Rattle.std.proofs.Common.{sym, ap, ◌∙◌, ◌<◌, arith, ℤ}
use Rattle.std.proofs.lemmas.Str.{IsUtf8-from_is_utf8, is_utf8-from_IsUtf8, IsUtf8-from_ascii}
use Rattle.std.specs.Str.{is_utf8}
use Rattle.std.proofs.lemmas.Str.Ascii.{IsAscii-from_all}
use Rattle.td_civil.specs.Bounds.{has_meaning}
use Rattle.td_civil.specs.Calendar.{text_of}
use Rattle.td_civil.specs.declared.moment_type.Moment.{Moment}
use Rattle.td_civil.proofs.lemmas.TextBytes.{text_all}
use Rattle.release_check.specs.FaultText.{readable, stamp_text}

-- bytes that are a text, and bytes that are none
pub readable-text : (bytes : List ℕ) → IsUtf8 bytes → bytes ≡ readable bytes
unfolding readable
readable-text bytes utf8 = rw (is_utf8-from_IsUtf8 bytes utf8) refl

not_chosen : (b : Bool) (bytes : List ℕ) → (b ≡ true → ⊥) → [] ≡ (if b then bytes else [])
not_chosen true bytes never = absurd (never refl)
not_chosen false bytes never = refl

pub readable-none : (bytes : List ℕ) → ¬ (IsUtf8 bytes) → [] ≡ readable bytes
unfolding readable
readable-none bytes never = not_chosen (is_utf8 bytes) bytes (λ t. never (IsUtf8-from_is_utf8 bytes t))

-- the text of a stamp is one
text_is_utf8 : (m : ℤ) → IsUtf8 (text_of m)
text_is_utf8 m = IsUtf8-from_ascii (text_of m) (IsAscii-from_all (text_of m) (text_all (λ b. b < 128) (λ b low high. omega arith) m))

nothing : (b : Bool) → ◌≡◌ {A = List ℕ} (if b then [] else []) []
nothing true = refl
nothing false = refl

readable_if : (b : Bool) (text : List ℕ) → text ≡ readable text → readable (if b then text else []) ≡ (if b then text else [])
unfolding readable
readable_if true text h = sym h
readable_if false text h = nothing (is_utf8 [])

pub readable_stamp : (text : List ℕ) (m : Moment) → text ≡ stamp_text m → readable text ≡ stamp_text m
unfolding stamp_text
readable_stamp text m is =
    ap readable is ∙ readable_if (has_meaning m.seconds) (text_of m.seconds) (readable-text (text_of m.seconds) (text_is_utf8 m.seconds))
