-- A text is read as a moment exactly where it spells it.
use Rattle.std.proofs.Common.{◌≡◌, ◌≢◌, ℕ, ◌≤◌, true, false, not, ◌&&◌, cond, List, length, refl, sym, ap, ◌∙◌, ℤ, pos, Option, Some, None}
use Rattle.std.specs.Str.{bytes_eq}
use Rattle.std.proofs.lemmas.Bool.{and_parts, and_from, leb-true, ltb-true, le-leb, lt-ltb, cond-true, cond-false, and_right, not-true, not-false}
use Rattle.std.proofs.Math.Bool.{and-true}
use Rattle.std.proofs.lemmas.Option.{cond_some, none-some}
use Rattle.std.proofs.lemmas.Slice.Eq.{bytes_eq-Decides}
use Rattle.jiff_core.specs.Calendar.{days_in_month}
use Rattle.td_civil.specs.Stamp.{Stamp, IsStamp, spelling, moment_at, Spells}
use Rattle.td_civil.specs.Reading.{stamp_in, is_date, is_stamp, moment_if, moment_in}
use Rattle.td_civil.proofs.lemmas.ReadBack.{stamp_back}

pub date_parts : (y m d : ℕ) → is_date y m d ≡ true → (y ≤ 9999) × ((1 ≤ m) × (m ≤ 12)) × ((1 ≤ d) × (d ≤ days_in_month (pos y) m))
date_parts y m d e =
    let a = and_parts _ _ e in
    let b = and_parts _ _ a.0 in
    let f = and_parts _ _ b.0 in
    let g = and_parts _ _ f.0 in
    (leb-true _ _ g.0, (leb-true _ _ g.1, leb-true _ _ f.1), (leb-true _ _ b.1, leb-true _ _ a.1))

pub date_from : (y m d : ℕ) → y ≤ 9999 → 1 ≤ m → m ≤ 12 → 1 ≤ d → d ≤ days_in_month (pos y) m → is_date y m d ≡ true
date_from y m d year low high first last =
    and_from _ _ (and_from _ _ (and_from _ _ (and_from _ _ (le-leb _ _ year) (le-leb _ _ low)) (le-leb _ _ high)) (le-leb _ _ first)) (le-leb _ _ last)

pub stamp_parts : (s : Stamp) → is_stamp s ≡ true → IsStamp s
stamp_parts s e =
    let a = and_parts _ _ e in
    let b = and_parts _ _ a.0 in
    let f = and_parts _ _ b.0 in
    let d = date_parts s.year s.month s.day f.0 in
    record {
      year = d.0;
      month = d.1;
      day = d.2;
      hour = ltb-true _ _ f.1;
      minute = ltb-true _ _ b.1;
      second = ltb-true _ _ a.1;
    }

pub stamp_from : (s : Stamp) → IsStamp s → is_stamp s ≡ true
stamp_from s h =
    and_from _ _ (and_from _ _ (and_from _ _ (date_from _ _ _ h.year h.month.0 h.month.1 h.day.0 h.day.1) (lt-ltb _ _ h.hour)) (lt-ltb _ _ h.minute))
    (lt-ltb _ _ h.second)

pub same_text : (xs ys : List ℕ) → bytes_eq xs ys ≡ true → xs ≡ ys
same_text xs ys e = (bytes_eq-Decides xs ys).0 e

pub text_same : (xs ys : List ℕ) → xs ≡ ys → bytes_eq xs ys ≡ true
text_same xs ys e = (bytes_eq-Decides xs ys).1 e

-- what is read from a text is what it spells
pub found_spells : (text : List ℕ) (m : ℤ) → moment_in text ≡ Some m → Spells text m
unfolding moment_in
found_spells text m e =
    let found = cond_some _ _ _ e in
    let tests = and_parts _ _ found.0 in
    record {
      stamp = stamp_in text;
      valid = stamp_parts _ tests.0;
      text_is = same_text _ _ tests.1;
      moment_is = sym found.1;
    }

abbrev read_as : List ℕ → Stamp → Option ℤ
read_as text s = cond (is_stamp s && bytes_eq text (spelling s)) (Some (moment_at s)) None

-- and what it spells is read
pub spells_found : (text : List ℕ) (m : ℤ) → Spells text m → moment_in text ≡ Some m
unfolding moment_in
spells_found text m h =
    let back : stamp_in text ≡ h.stamp = ap stamp_in h.text_is ∙ stamp_back h.stamp h.valid in
    ap (read_as text) back
    ∙ cond-true _ _ _ (and_from _ _ (stamp_from _ h.valid) (text_same _ _ h.text_is))
    ∙ ap Some (sym h.moment_is)

none_since : (o : Option ℤ) → ((m : ℤ) → o ≡ Some m → ⊥) → o ≡ None
none_since None h = refl
none_since (Some m) h = absurd (h m refl)

pub none_spells : (text : List ℕ) → moment_in text ≡ None → (m : ℤ) → Spells text m → ⊥
none_spells text e m h = none-some m (sym e ∙ spells_found text m h)

pub spells_length : (text : List ℕ) (m : ℤ) → Spells text m → length text ≡ 20
spells_length text m h = ap length h.text_is

pub other_length : (text : List ℕ) → length text ≢ 20 → None ≡ moment_in text
other_length text h = sym (none_since (moment_in text) (λ m e. h (spells_length text m (found_spells text m e))))

-- a text that differs from that of its fields is not read
pub other_text : (text own : List ℕ) (s : Stamp) → s ≡ stamp_in text → own ≡ spelling s → true ≡ not (bytes_eq text own) → None ≡ moment_in text
unfolding moment_in
other_text text own s fields is e =
    let apart : bytes_eq text own ≡ false = not-true _ (sym e) in
    let same : own ≡ spelling (stamp_in text) = is ∙ ap spelling fields in
    sym (cond-false _ _ _ (and_right _ _ (sym (ap (bytes_eq text) same) ∙ apart)))

-- and the text of its fields is read as they say
pub own_text : (text own : List ℕ) (s : Stamp) (o : Option ℤ) → s ≡ stamp_in text → own ≡ spelling s → false ≡ not (bytes_eq text own) → o ≡ moment_if s
    → o ≡ moment_in text
unfolding moment_in
own_text text own s o fields is e read =
    let equal : bytes_eq text own ≡ true = not-false _ (sym e) in
    let same : own ≡ spelling (stamp_in text) = is ∙ ap spelling fields in
    let both : is_stamp (stamp_in text) ≡ (is_stamp (stamp_in text) && bytes_eq text (spelling (stamp_in text))) =
    sym (ap (λ b. is_stamp (stamp_in text) && b) (sym (ap (bytes_eq text) same) ∙ equal) ∙ and-true _) in
    read ∙ ap moment_if fields ∙ ap (λ b. cond b (Some (moment_at (stamp_in text))) None) both
