-- Each part of a calendar is read of lines of its text.
use Rattle.std.proofs.Common.{◌≡◌, ◌⊎◌, ℕ, ◌+◌, List, [], ◌∷◌, ◌++◌, length, Bool, true, false, ◌&&◌, cond, Option, None, Some, Result, Ok, Err, inl, inr, refl, sym, ap, subst, ◌∙◌, codes, append_assoc, append-nil}
use Rattle.std.specs.Prelude.{nat_lt}
use Rattle.std.specs.List.{Contains}
use Rattle.std.proofs.lemmas.Bool.{and_parts}
use Rattle.td_base.specs.FirstFault.{◌>>=◌}
use Rattle.ical_lines.specs.Unfolding.{unfolded}
use Rattle.ical_lines.specs.declared.line_fault.BadLine.{BadLine}
use Rattle.recurrence.specs.declared.part_types.Part.{Part}
use Rattle.vtimezone.specs.CalendarText.{kind_of}
use Rattle.vtimezone.specs.Cutting.{Named}
use Rattle.vtimezone.specs.ReadValues.{utc_in}
use Rattle.vtimezone_reader.specs.ContentLines.{is_word, name_of, value_of}
use Rattle.vtimezone_reader.specs.PartLines.{begun_part, part_line, part_of, set_once}
use Rattle.vtimezone_reader.specs.ReadLines.{at_line, begins, begun_zone, calendar_if, calendar_in, calendar_of, ended_at, ends, has_part, identifier_in, in_part, in_zone, is_mark, line_read}
use Rattle.vtimezone_reader.specs.ReadLines.{lines_read, of_lines, stays, step, step_if, with_part, zone_line}
use Rattle.vtimezone_reader.specs.declared.calendar_fault.CalendarFault.TheVariants as refused
use Rattle.vtimezone_reader.specs.declared.calendar_fault.LineFault.{LineFault}
use Rattle.vtimezone_reader.specs.declared.calendar_fault.LineFault.TheVariants as fault
use Rattle.vtimezone_reader.specs.declared.calendar_type.Calendar.{Calendar}
use Rattle.vtimezone_reader.specs.declared.calendar_type.TheConstants.{MOST_BYTES}
use Rattle.vtimezone_reader.specs.declared.part_lines.OpenPart.{OpenPart}
use Rattle.vtimezone_reader.specs.declared.standing.Standing.{Standing}
use Rattle.vtimezone_reader.specs.declared.standing.Standing.TheVariants as at
use Rattle.vtimezone_reader.specs.declared.zone_lines.OpenZone.{OpenZone}
use Rattle.zone_meaning.proofs.lemmas.Members.{member_first, member_later, member_cases, no_member}
use Rattle.reader_laws.specs.Lines.{LinesRead}
use Rattle.reader_laws.specs.Texts.{AreLines, HasParts, IsMark, IsReadOf}
use Rattle.reader_laws.proofs.Lined.{lines_are}

-- ---- steps that may fail

record IsBound {A B F : Type 0} (r : Result A F) (f : A → Result B F) (b : B) : Type 0 where
  value : A
  first : r ≡ Ok value
  second : f value ≡ Ok b

bound : {A B F : Type 0} (r : Result A F) (f : A → Result B F) (b : B) → (r >>= f) ≡ Ok b → IsBound r f b
bound (Err e) f b h = absurd cc
bound (Ok x) f b h = record { value = x; first = refl; second = h }

-- ---- parts so far

abbrev parts_of : Standing → List Part
parts_of at.Outside = []
parts_of at.InCalendar = []
parts_of (at.InZone z) = z.parts
parts_of (at.InPart z p) = z.parts
parts_of (at.AfterZone c) = c.parts
parts_of (at.Ended c) = c.parts

-- a part that is begun
record IsBegun (done : List Named) (p : OpenPart) : Type 0 where
  before : List Named
  begin : Named
  body : List Named
  are : done ≡ before ++ begin ∷ body
  dst : Bool
  begins : IsMark (codes "BEGIN") dst begin
  read : LinesRead (begun_part dst) body p

abbrev IsOpen : List Named → Standing → Type 0
IsOpen done (at.InPart z p) = IsBegun done p
IsOpen done s = Unit {0}

abbrev AreRead : List Named → List Part → Type 0
AreRead done parts = (p : Part) → Contains parts p → IsReadOf done p

record IsKept (done : List Named) (s : Standing) : Type 0 where
  parts : AreRead done (parts_of s)
  open_part : IsOpen done s

-- one more line
read_more : (done : List Named) (l : Named) (p : Part) → IsReadOf done p → IsReadOf (done ++ l ∷ []) p
read_more done l p is = record {
  before = is.before;
  begin = is.begin;
  body = is.body;
  end = is.end;
  after = is.after ++ l ∷ [];
  are = ap (λ ls. ls ++ l ∷ []) is.are ∙ append_assoc is.before (is.begin ∷ (is.body ++ is.end ∷ is.after)) (l ∷ [])
      ∙ ap (λ ls. is.before ++ is.begin ∷ ls) (append_assoc is.body (is.end ∷ is.after) (l ∷ []));
  dst = is.dst;
  begins = is.begins;
  open_part = is.open_part;
  read = is.read;
  has = is.has;
  ends = is.ends;
  is = is.is;
}

all_more : (done : List Named) (l : Named) (parts : List Part) → AreRead done parts → AreRead (done ++ l ∷ []) parts
all_more done l parts are p there = read_more done l p (are p there)

none_read : (done : List Named) → AreRead done []
none_read done p there = absurd (no_member p there)

lines_more : (ls : List Named) (l : Named) (p now next : OpenPart) → LinesRead p ls now → part_line now l.name l.value ≡ Ok next → LinesRead p (ls ++ l ∷ []) next
lines_more [] l p now next same e = (next, ap (λ (x : OpenPart). part_line x l.name l.value) same ∙ e, refl)
lines_more (x ∷ xs) l p now next read e = (read.0, read.1, lines_more xs l read.0 now next read.2 e)

begun_more : (done : List Named) (l : Named) (p next : OpenPart) → IsBegun done p → part_line p l.name l.value ≡ Ok next → IsBegun (done ++ l ∷ []) next
begun_more done l p next is e = record {
  before = is.before;
  begin = is.begin;
  body = is.body ++ l ∷ [];
  are = ap (λ ls. ls ++ l ∷ []) is.are ∙ append_assoc is.before (is.begin ∷ is.body) (l ∷ []);
  dst = is.dst;
  begins = is.begins;
  read = lines_more is.body l (begun_part is.dst) p next is.read e;
}

-- a part ends
part_ended : (done : List Named) (l : Named) (p : OpenPart) (part : Part) → IsBegun done p → IsMark (codes "END") p.dst l → part_of p ≡ Ok part
    → IsReadOf (done ++ l ∷ []) part
part_ended done l p part is mark e = record {
  before = is.before;
  begin = is.begin;
  body = is.body;
  end = l;
  after = [];
  are = ap (λ ls. ls ++ l ∷ []) is.are ∙ append_assoc is.before (is.begin ∷ is.body) (l ∷ []);
  dst = is.dst;
  begins = is.begins;
  open_part = p;
  read = is.read;
  has = lines_are is.dst is.body p is.read;
  ends = mark;
  is = e;
}

added : (parts : List Part) (part p : Part) → Contains (parts ++ part ∷ []) p → Contains parts p ⊎ (part ≡ p)
added [] part p there = elim (member_cases part p [] there) [
  | inl same ↦ inr same
  | inr none ↦ absurd (no_member p none)
]
added (x ∷ xs) part p there = elim (member_cases x p (xs ++ part ∷ []) there) [
  | inl same ↦ inl (subst (λ (y : Part). Contains (x ∷ xs) y) same (member_first x xs))
  | inr later ↦ elim (added xs part p later) [
    | inl old ↦ inl (member_later x p xs old)
    | inr new ↦ inr new
  ]
]

-- ---- one step

mark_of : (l : Named) (word component : List ℕ) → (is_word l.name word && is_word l.value component) ≡ true → (is_word l.name word ≡ true) × (is_word l.value component ≡ true)
mark_of l word component h = and_parts (is_word l.name word) (is_word l.value component) h

-- a line that keeps the standing
kept_same : (done : List Named) (l : Named) (s now : Standing) (b : Bool) → IsOpen (done ++ l ∷ []) s → IsKept done s → cond b (Err fault.Frame) (Ok s) ≡ Ok now
    → IsKept (done ++ l ∷ []) now
kept_same done l s now true open_part is e = absurd cc
kept_same done l s now false open_part is e =
    let same : s ≡ now = cc in
    subst (IsKept (done ++ l ∷ [])) same (record { parts = all_more done l (parts_of s) is.parts; open_part = open_part })

zone_set : {A : Type 0} (z now : OpenZone) (r : Result A LineFault) (f : A → OpenZone) → ((a : A) → (f a).parts ≡ z.parts) → (r >>= λ v. Ok (f v)) ≡ Ok now
    → now.parts ≡ z.parts
zone_set z now (Err bad) f same e = absurd cc
zone_set z now (Ok a) f same e = let is : f a ≡ now = cc in ap (λ (x : OpenZone). x.parts) (sym is) ∙ same a

zone_kept : (z now : OpenZone) (name value : List ℕ) → zone_line z name value ≡ Ok now → now.parts ≡ z.parts
unfolding zone_line
zone_kept z now name value e = by_tzid (is_word name (codes "TZID")) e
  where
    by_until : (b : Bool) → cond b (set_once z.until fault.Value (utc_in value) >>= λ v. Ok (record z { until = Some v })) (Ok z) ≡ Ok now → now.parts ≡ z.parts
    by_until true e = zone_set z now (set_once z.until fault.Value (utc_in value)) (λ v. record z { until = Some v }) (λ a. refl) e
    by_until false e = let same : z ≡ now = cc in ap (λ (x : OpenZone). x.parts) (sym same)

    by_alias : (b : Bool) → cond b (set_once z.alias_of fault.Value (identifier_in value) >>= λ v. Ok (record z { alias_of = Some v }))
        (cond (is_word name (codes "TZUNTIL")) (set_once z.until fault.Value (utc_in value) >>= λ v. Ok (record z { until = Some v })) (Ok z)) ≡ Ok now → now.parts ≡ z.parts
    by_alias true e = zone_set z now (set_once z.alias_of fault.Value (identifier_in value)) (λ v. record z { alias_of = Some v }) (λ a. refl) e
    by_alias false e = by_until (is_word name (codes "TZUNTIL")) e

    by_tzid : (b : Bool) → cond b (set_once z.tzid fault.Value (identifier_in value) >>= λ v. Ok (record z { tzid = Some v }))
        (cond (is_word name (codes "TZID-ALIAS-OF")) (set_once z.alias_of fault.Value (identifier_in value) >>= λ v. Ok (record z { alias_of = Some v }))
        (cond (is_word name (codes "TZUNTIL")) (set_once z.until fault.Value (utc_in value) >>= λ v. Ok (record z { until = Some v })) (Ok z))) ≡ Ok now → now.parts ≡ z.parts
    by_tzid true e = zone_set z now (set_once z.tzid fault.Value (identifier_in value)) (λ v. record z { tzid = Some v }) (λ a. refl) e
    by_tzid false e = by_alias (is_word name (codes "TZID-ALIAS-OF")) e

calendar_has : (z : OpenZone) (o : Option (List ℕ)) (c : Calendar) → calendar_if z o ≡ Ok c → c.parts ≡ z.parts
calendar_has z None c e = absurd cc
calendar_has z (Some tzid) c e =
    let made : Calendar = record { tzid = tzid; alias_of = z.alias_of; until = z.until; parts = z.parts } in
    let same : made ≡ c = cc in
    ap (λ (x : Calendar). x.parts) (sym same)

abbrev ok : Standing → Result Standing LineFault
ok s = Ok s

module _ (done : List Named) (l : Named) where
  begun_now : (z : OpenZone) (dst : Bool) (now : Standing) → IsKept done (at.InZone z) → IsMark (codes "BEGIN") dst l → ok (at.InPart z (begun_part dst)) ≡ ok now
      → IsKept (done ++ l ∷ []) now
  begun_now z dst now is mark e =
      let same : at.InPart z (begun_part dst) ≡ now = cc in
      subst (IsKept (done ++ l ∷ [])) same (record {
        parts = all_more done l z.parts is.parts;
        open_part = record { before = done; begin = l; body = []; are = refl; dst = dst; begins = mark; read = refl };
      })

  zone_step : (z : OpenZone) (now : Standing) → IsKept done (at.InZone z) → in_zone z l.name l.value ≡ Ok now → IsKept (done ++ l ∷ []) now
  unfolding in_zone
  zone_step z now is e = by_standard (begins l.name l.value (codes "STANDARD")) refl e
    where
      by_line : (b : Bool) → cond b (Err fault.Frame) (zone_line z l.name l.value >>= λ x. Ok (at.InZone x)) ≡ Ok now → IsKept (done ++ l ∷ []) now
      by_line true e = absurd cc
      by_line false e =
          let step = bound (zone_line z l.name l.value) (λ (x : OpenZone). Ok (at.InZone x)) now e in
          let same : at.InZone step.value ≡ now = (let h : Ok (at.InZone step.value) ≡ Ok now = step.second in cc) in
          subst (IsKept (done ++ l ∷ [])) same (record {
            parts = subst (AreRead (done ++ l ∷ [])) (sym (zone_kept z step.value l.name l.value step.first)) (all_more done l z.parts is.parts);
            open_part = tt;
          })

      by_end : (b : Bool) → cond b (calendar_of z >>= λ c. Ok (at.AfterZone c)) (cond (is_mark l.name) (Err fault.Frame) (zone_line z l.name l.value >>= λ x. Ok (at.InZone x))) ≡ Ok now
          → IsKept (done ++ l ∷ []) now
      by_end true e =
          let step = bound (calendar_of z) (λ (c : Calendar). Ok (at.AfterZone c)) now e in
          let same : at.AfterZone step.value ≡ now = (let h : Ok (at.AfterZone step.value) ≡ Ok now = step.second in cc) in
          subst (IsKept (done ++ l ∷ [])) same (record {
            parts = subst (AreRead (done ++ l ∷ [])) (sym (calendar_has z z.tzid step.value step.first)) (all_more done l z.parts is.parts);
            open_part = tt;
          })
      by_end false e = by_line (is_mark l.name) e

      by_daylight : (b : Bool) → begins l.name l.value (codes "DAYLIGHT") ≡ b → cond b (Ok (at.InPart z (begun_part true)))
          (cond (ends l.name l.value (codes "VTIMEZONE") && has_part z) (calendar_of z >>= λ c. Ok (at.AfterZone c))
          (cond (is_mark l.name) (Err fault.Frame) (zone_line z l.name l.value >>= λ x. Ok (at.InZone x)))) ≡ Ok now
          → IsKept (done ++ l ∷ []) now
      by_daylight true mark e = let both = mark_of l (codes "BEGIN") (codes "DAYLIGHT") mark in begun_now z true now is (record { name = both.0; value = both.1 }) e
      by_daylight false mark e = by_end (ends l.name l.value (codes "VTIMEZONE") && has_part z) e

      by_standard : (b : Bool) → begins l.name l.value (codes "STANDARD") ≡ b → cond b (Ok (at.InPart z (begun_part false)))
          (cond (begins l.name l.value (codes "DAYLIGHT")) (Ok (at.InPart z (begun_part true)))
          (cond (ends l.name l.value (codes "VTIMEZONE") && has_part z) (calendar_of z >>= λ c. Ok (at.AfterZone c))
          (cond (is_mark l.name) (Err fault.Frame) (zone_line z l.name l.value >>= λ x. Ok (at.InZone x))))) ≡ Ok now
          → IsKept (done ++ l ∷ []) now
      by_standard true mark e = let both = mark_of l (codes "BEGIN") (codes "STANDARD") mark in begun_now z false now is (record { name = both.0; value = both.1 }) e
      by_standard false mark e = by_daylight (begins l.name l.value (codes "DAYLIGHT")) refl e

  part_step : (z : OpenZone) (p : OpenPart) (now : Standing) → IsKept done (at.InPart z p) → in_part z p l.name l.value ≡ Ok now → IsKept (done ++ l ∷ []) now
  unfolding in_part
  part_step z p now is e = by_end (ends l.name l.value (kind_of p.dst)) refl e
    where
      by_line : (b : Bool) → cond b (Err fault.Frame) (part_line p l.name l.value >>= λ x. Ok (at.InPart z x)) ≡ Ok now → IsKept (done ++ l ∷ []) now
      by_line true e = absurd cc
      by_line false e =
          let step = bound (part_line p l.name l.value) (λ (x : OpenPart). Ok (at.InPart z x)) now e in
          let same : at.InPart z step.value ≡ now = (let h : Ok (at.InPart z step.value) ≡ Ok now = step.second in cc) in
          subst (IsKept (done ++ l ∷ [])) same (record {
            parts = all_more done l z.parts is.parts;
            open_part = begun_more done l p step.value is.open_part step.first;
          })

      by_end : (b : Bool) → ends l.name l.value (kind_of p.dst) ≡ b → cond b (part_of p >>= λ part. Ok (at.InZone (with_part z part)))
          (cond (is_mark l.name) (Err fault.Frame) (part_line p l.name l.value >>= λ x. Ok (at.InPart z x))) ≡ Ok now
          → IsKept (done ++ l ∷ []) now
      by_end true mark e =
          let both = mark_of l (codes "END") (kind_of p.dst) mark in
          let step = bound (part_of p) (λ (part : Part). Ok (at.InZone (with_part z part))) now e in
          let same : at.InZone (with_part z step.value) ≡ now = (let h : Ok (at.InZone (with_part z step.value)) ≡ Ok now = step.second in cc) in
          let new = part_ended done l p step.value is.open_part (record { name = both.0; value = both.1 }) step.first in
          subst (IsKept (done ++ l ∷ [])) same (record {
            parts = λ x there. elim (added z.parts step.value x there) [
              | inl old ↦ read_more done l x (is.parts x old)
              | inr this ↦ subst (IsReadOf (done ++ l ∷ [])) this new
            ];
            open_part = tt;
          })
      by_end false mark e = by_line (is_mark l.name) e

  one_step : (s now : Standing) → IsKept done s → step s l.name l.value ≡ Ok now → IsKept (done ++ l ∷ []) now
  unfolding step
  one_step at.Outside now is e = by (begins l.name l.value (codes "VCALENDAR")) e
    where
      by : (b : Bool) → cond b (Ok at.InCalendar) (Err fault.Frame) ≡ Ok now → IsKept (done ++ l ∷ []) now
      by true e = let same : at.InCalendar ≡ now = cc in subst (IsKept (done ++ l ∷ [])) same (record { parts = none_read (done ++ l ∷ []); open_part = tt })
      by false e = absurd cc
  one_step at.InCalendar now is e = by (begins l.name l.value (codes "VTIMEZONE")) e
    where
      by : (b : Bool) → cond b (Ok (at.InZone begun_zone)) (stays at.InCalendar l.name) ≡ Ok now → IsKept (done ++ l ∷ []) now
      by true e = let same : at.InZone begun_zone ≡ now = cc in subst (IsKept (done ++ l ∷ [])) same (record { parts = none_read (done ++ l ∷ []); open_part = tt })
      by false e = kept_same done l at.InCalendar now (is_mark l.name) tt is e
  one_step (at.InZone z) now is e = zone_step z now is e
  one_step (at.InPart z p) now is e = part_step z p now is e
  one_step (at.AfterZone c) now is e = by (ends l.name l.value (codes "VCALENDAR")) e
    where
      by : (b : Bool) → cond b (Ok (at.Ended c)) (stays (at.AfterZone c) l.name) ≡ Ok now → IsKept (done ++ l ∷ []) now
      by true e = let same : at.Ended c ≡ now = cc in subst (IsKept (done ++ l ∷ [])) same (record { parts = all_more done l c.parts is.parts; open_part = tt })
      by false e = kept_same done l (at.AfterZone c) now (is_mark l.name) tt is e
  one_step (at.Ended c) now is e = absurd cc

-- ---- all lines

-- the lines that follow, and all of them
record AreReadFrom (done : List Named) (texts : List (List ℕ)) (c : Calendar) : Type 0 where
  lines : List Named
  are : AreLines texts lines
  parts : AreRead (done ++ lines) c.parts

line_given : (n : ℕ) (s now : Standing) (name : List ℕ) (o : Option (List ℕ)) → at_line n (step_if s name o) ≡ Ok now → (value : List ℕ) × (o ≡ Some value) × (step s name value ≡ Ok now)
line_given n s now name None e = absurd cc
line_given n s now name (Some value) e = by (step s name value) refl e
  where
    by : (r : Result Standing LineFault) → step s name value ≡ r → at_line n r ≡ Ok now → (v : List ℕ) × (Some value ≡ Some v) × (step s name v ≡ Ok now)
    by (Ok x) is e = let same : x ≡ now = cc in (value, refl, is ∙ ap Ok same)
    by (Err bad) is e = absurd cc

ended_has : (n : ℕ) (s : Standing) (c : Calendar) (done : List Named) → IsKept done s → ended_at n s ≡ Ok c → AreRead done c.parts
ended_has n at.Outside c done is e = absurd cc
ended_has n at.InCalendar c done is e = absurd cc
ended_has n (at.InZone z) c done is e = absurd cc
ended_has n (at.InPart z p) c done is e = absurd cc
ended_has n (at.AfterZone x) c done is e = absurd cc
ended_has n (at.Ended x) c done is e = let same : x ≡ c = cc in subst (λ (y : Calendar). AreRead done y.parts) same is.parts

all_read : (texts : List (List ℕ)) (n : ℕ) (s : Standing) (c : Calendar) (done : List Named) → IsKept done s → lines_read n s texts ≡ Ok c → AreReadFrom done texts c
unfolding lines_read
all_read [] n s c done is e =
    record { lines = []; are = tt; parts = subst (λ (ls : List Named). AreRead ls c.parts) (sym (append-nil done)) (ended_has n s c done is e) }
all_read (t ∷ ts) n s c done is e =
    let first = bound (line_read n s t) (λ (now : Standing). lines_read (n + 1) now ts) c e in
    let given = line_given n s first.value (name_of t) (value_of t) first.first in
    let l : Named = record { name = name_of t; value = given.0 } in
    let rest = all_read ts (n + 1) first.value c (done ++ l ∷ []) (one_step done l s first.value is given.2) first.second in
    record {
      lines = l ∷ rest.lines;
      are = (refl, given.1, rest.are);
      parts = subst (λ (ls : List Named). AreRead ls c.parts) (append_assoc done (l ∷ []) rest.lines) rest.parts;
    }

of_unfolded : (text : List ℕ) (r : Result (List (List ℕ)) BadLine) (c : Calendar) → unfolded text ≡ r → of_lines r ≡ Ok c → HasParts text c
of_unfolded text (Err bad) c is e = absurd cc
of_unfolded text (Ok texts) c is e =
    let all = all_read texts 0 at.Outside c [] (record { parts = none_read []; open_part = tt }) e in
    record { unfolded_lines = texts; unfolds = is; lines = all.lines; are = all.are; parts = all.parts }

within : (text : List ℕ) (b : Bool) (c : Calendar) → cond b (Err refused.TooLarge) (of_lines (unfolded text)) ≡ Ok c → HasParts text c
within text true c e = absurd cc
within text false c e = of_unfolded text (unfolded text) c refl e

pub parts_are_read : (text : List ℕ) (c : Calendar) → calendar_in text ≡ Ok c → HasParts text c
unfolding calendar_in
parts_are_read text c e = within text (nat_lt MOST_BYTES (length text)) c e
