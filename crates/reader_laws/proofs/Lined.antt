-- A part has the first name of its lines, and all their dates.
use Rattle.std.proofs.Common.{◌≡◌, ℕ, ◌≤◌, List, [], ◌∷◌, ◌++◌, length, Bool, true, false, ◌&&◌, cond, Option, None, Some, Result, Ok, Err, inl, inr, refl, sym, ap, subst, ◌∙◌, codes}
use Rattle.std.proofs.Common.{append_assoc, append-nil}
use Rattle.std.specs.Prelude.{filter, nat_le}
use Rattle.std.specs.List.{AllByRecursion, flat_map, list_all}
use Rattle.std.proofs.lemmas.Bool.{and_from, and_parts, le-leb, leb-true}
use Rattle.td_base.specs.FirstFault.{◌>>=◌}
use Rattle.vtimezone.specs.Cutting.{Named, cut_at}
use Rattle.vtimezone.specs.ReadValues.{offset_in}
use Rattle.vtimezone_reader.specs.ContentLines.{is_word}
use Rattle.vtimezone_reader.specs.PartLines.{begun_part, is_visible, more_line, name_in, name_with, part_line, set_once}
use Rattle.vtimezone_reader.specs.RuleWords.{recur_in}
use Rattle.vtimezone_reader.specs.declared.calendar_fault.LineFault.{LineFault}
use Rattle.vtimezone_reader.specs.declared.calendar_fault.LineFault.TheVariants as fault
use Rattle.vtimezone_reader.specs.declared.part_lines.OpenPart.{OpenPart}
use Rattle.vtimezone_reader.specs.declared.rule_words.Recur.{Recur}
use Rattle.zone_meaning.proofs.lemmas.Members.{member_cases, no_member}
use Rattle.reader_laws.specs.Lines.{HasFirstName, HasLines, IsNameLine, LinesRead, dates_of}
use Rattle.reader_laws.proofs.Tests.{other_word}

-- ---- names

all_visible : (text : List ℕ) → list_all is_visible text ≡ true → AllByRecursion (λ b. (33 ≤ b) × (b ≤ 126)) text
all_visible [] h = tt
all_visible (b ∷ bs) h =
    let parts = and_parts (is_visible b) (list_all is_visible bs) h in
    let both = and_parts (nat_le 33 b) (nat_le b 126) parts.0 in
    ((leb-true 33 b both.0, leb-true b 126 both.1), all_visible bs parts.1)

visible_all : (text : List ℕ) → AllByRecursion (λ b. (33 ≤ b) × (b ≤ 126)) text → list_all is_visible text ≡ true
visible_all [] h = refl
visible_all (b ∷ bs) h =
    and_from (is_visible b) (list_all is_visible bs) (and_from (nat_le 33 b) (nat_le b 126) (le-leb 33 b h.0.0) (le-leb b 126 h.0.1)) (visible_all bs h.1)

-- what a name line gives: its value, where it is a name
record IsRead (text : List ℕ) (o : Option (List ℕ)) : Type 0 where
  none : o ≡ None → (l : Named) → l.value ≡ text → IsNameLine l → ⊥
  some : (name : List ℕ) → o ≡ Some name → (text ≡ name) × ((length text ≤ 32) × AllByRecursion (λ b. (33 ≤ b) × (b ≤ 126)) text)

read_by : (text : List ℕ) (b : Bool) → (nat_le (length text) 32 && list_all is_visible text) ≡ b → IsRead text (cond b (Some text) None)
read_by text true is = record {
  none = λ e. absurd cc;
  some = λ name e. let parts = and_parts (nat_le (length text) 32) (list_all is_visible text) is in
      let same : text ≡ name = cc in
      (same, (leb-true (length text) 32 parts.0, all_visible text parts.1));
}
read_by text false is = record {
  none = λ e l value named.
      let short : nat_le (length text) 32 ≡ true = ap (λ (x : List ℕ). nat_le (length x) 32) (sym value) ∙ le-leb (length l.value) 32 named.short in
      let visible : list_all is_visible text ≡ true = ap (λ (x : List ℕ). list_all is_visible x) (sym value) ∙ visible_all l.value named.visible in
      let both : (nat_le (length text) 32 && list_all is_visible text) ≡ true = and_from (nat_le (length text) 32) (list_all is_visible text) short visible in
      let other : false ≡ true = sym is ∙ both in
      cc;
  some = λ name e. absurd cc;
}

name_read : (text : List ℕ) → IsRead text (name_in text)
name_read text = read_by text (nat_le (length text) 32 && list_all is_visible text) refl

-- ---- one line

abbrev name_if : Bool → Option (List ℕ) → List ℕ → Option (List ℕ)
name_if true held value = name_with held value
name_if false held value = held

abbrev dates_if : Bool → List ℕ → List (List ℕ)
dates_if true value = cut_at 44 value
dates_if false value = []

-- the name and the dates after a line
record IsStep (p : OpenPart) (name value : List ℕ) (now : OpenPart) : Type 0 where
  name_is : now.name ≡ name_if (is_word name (codes "TZNAME")) p.name value
  dates_are : now.dates ≡ p.dates ++ dates_if (is_word name (codes "RDATE")) value

-- another line, which keeps both
kept : (p : OpenPart) (name value : List ℕ) (now : OpenPart) → is_word name (codes "TZNAME") ≡ false → is_word name (codes "RDATE") ≡ false
    → now.name ≡ p.name → now.dates ≡ p.dates → IsStep p name value now
kept p name value now other none same dates = record { name_is = rw other same; dates_are = rw none (dates ∙ sym (append-nil p.dates)) }

-- a value that was set
set : {A : Type 0} (p : OpenPart) (name value : List ℕ) (r : Result A LineFault) (f : A → OpenPart) (now : OpenPart)
    → is_word name (codes "TZNAME") ≡ false → is_word name (codes "RDATE") ≡ false
    → ((a : A) → (f a).name ≡ p.name) → ((a : A) → (f a).dates ≡ p.dates) → (r >>= λ v. Ok (f v)) ≡ Ok now → IsStep p name value now
set p name value (Err bad) f now other none names dates e = absurd cc
set p name value (Ok a) f now other none names dates e =
    let same : f a ≡ now = cc in
    kept p name value now other none (ap (λ (x : OpenPart). x.name) (sym same) ∙ names a) (ap (λ (x : OpenPart). x.dates) (sym same) ∙ dates a)

abbrev with_recur : OpenPart → Recur → OpenPart
with_recur p v = record p { recur = Some v }

abbrev with_start : OpenPart → List ℕ → OpenPart
with_start p v = record p { start = Some v }

abbrev ok : OpenPart → Result OpenPart LineFault
ok p = Ok p

named_step : (p : OpenPart) (name value : List ℕ) (now : OpenPart) (b : Bool) → is_word name (codes "TZNAME") ≡ b → is_word name (codes "RDATE") ≡ false
    → cond b (ok (record p { name = name_with p.name value })) (ok p) ≡ ok now → IsStep p name value now
named_step p name value now true is none e =
    let made : OpenPart = record p { name = name_with p.name value } in
    let same : made ≡ now = cc in
    subst (IsStep p name value) same (record { name_is = rw is refl; dates_are = rw none (sym (append-nil p.dates)) })
named_step p name value now false is none e = let same : p ≡ now = cc in subst (IsStep p name value) same (kept p name value p is none refl refl)

dated_step : (p : OpenPart) (name value : List ℕ) (now : OpenPart) (b : Bool) → is_word name (codes "RDATE") ≡ b
    → cond b (ok (record p { dates = p.dates ++ cut_at 44 value })) (cond (is_word name (codes "TZNAME")) (ok (record p { name = name_with p.name value })) (ok p)) ≡ ok now
    → IsStep p name value now
dated_step p name value now true is e =
    let made : OpenPart = record p { dates = p.dates ++ cut_at 44 value } in
    let same : made ≡ now = cc in
    let other = other_word name (codes "RDATE") (codes "TZNAME") refl is in
    subst (IsStep p name value) same (record { name_is = rw other refl; dates_are = rw is refl })
dated_step p name value now false is e = named_step p name value now (is_word name (codes "TZNAME")) refl is e

more_step : (p : OpenPart) (name value : List ℕ) (now : OpenPart) → more_line p name value ≡ Ok now → IsStep p name value now
unfolding more_line
more_step p name value now e = by (is_word name (codes "RRULE")) refl e
  where
    by : (b : Bool) → is_word name (codes "RRULE") ≡ b
        → cond b (set_once p.recur fault.Rule (recur_in value) >>= λ v. Ok (with_recur p v))
        (cond (is_word name (codes "RDATE")) (Ok (record p { dates = p.dates ++ cut_at 44 value }))
        (cond (is_word name (codes "TZNAME")) (Ok (record p { name = name_with p.name value })) (Ok p)))
        ≡ Ok now → IsStep p name value now
    by true is e =
        set p name value (set_once p.recur fault.Rule (recur_in value)) (with_recur p) now (other_word name (codes "RRULE") (codes "TZNAME") refl is)
        (other_word name (codes "RRULE") (codes "RDATE") refl is) (λ a. refl) (λ a. refl) e
    by false is e = dated_step p name value now (is_word name (codes "RDATE")) refl e

part_step : (p : OpenPart) (name value : List ℕ) (now : OpenPart) → part_line p name value ≡ Ok now → IsStep p name value now
unfolding part_line
part_step p name value now e = by_start (is_word name (codes "DTSTART")) refl e
  where
    by_to : (b : Bool) → is_word name (codes "TZOFFSETTO") ≡ b
        → cond b (set_once p.to fault.Value (offset_in value) >>= λ v. Ok (record p { to = Some v })) (more_line p name value) ≡ Ok now → IsStep p name value now
    by_to true is e =
        set p name value (set_once p.to fault.Value (offset_in value)) (λ v. record p { to = Some v }) now (other_word name (codes "TZOFFSETTO") (codes "TZNAME") refl is)
        (other_word name (codes "TZOFFSETTO") (codes "RDATE") refl is) (λ a. refl) (λ a. refl) e
    by_to false is e = more_step p name value now e

    by_from : (b : Bool) → is_word name (codes "TZOFFSETFROM") ≡ b
        → cond b (set_once p.from fault.Value (offset_in value) >>= λ v. Ok (record p { from = Some v }))
        (cond (is_word name (codes "TZOFFSETTO")) (set_once p.to fault.Value (offset_in value) >>= λ v. Ok (record p { to = Some v })) (more_line p name value))
        ≡ Ok now → IsStep p name value now
    by_from true is e =
        set p name value (set_once p.from fault.Value (offset_in value)) (λ v. record p { from = Some v }) now (other_word name (codes "TZOFFSETFROM") (codes "TZNAME") refl is)
        (other_word name (codes "TZOFFSETFROM") (codes "RDATE") refl is) (λ a. refl) (λ a. refl) e
    by_from false is e = by_to (is_word name (codes "TZOFFSETTO")) refl e

    by_start : (b : Bool) → is_word name (codes "DTSTART") ≡ b
        → cond b (set_once p.start fault.Value (Some value) >>= λ v. Ok (with_start p v))
        (cond (is_word name (codes "TZOFFSETFROM")) (set_once p.from fault.Value (offset_in value) >>= λ v. Ok (record p { from = Some v }))
        (cond (is_word name (codes "TZOFFSETTO")) (set_once p.to fault.Value (offset_in value) >>= λ v. Ok (record p { to = Some v })) (more_line p name value)))
        ≡ Ok now → IsStep p name value now
    by_start true is e =
        set p name value (set_once p.start fault.Value (Some value)) (with_start p) now (other_word name (codes "DTSTART") (codes "TZNAME") refl is)
        (other_word name (codes "DTSTART") (codes "RDATE") refl is) (λ a. refl) (λ a. refl) e
    by_start false is e = by_from (is_word name (codes "TZOFFSETFROM")) refl e

-- ---- all lines

-- what further lines make of a name that is held
abbrev HasName : Option (List ℕ) → List Named → Option (List ℕ) → Type 0
HasName (Some name) lines now = now ≡ Some name
HasName None lines now = HasFirstName lines now

-- no line before the first one
later_name : (l : Named) (ls : List Named) (now : Option (List ℕ)) → (IsNameLine l → ⊥) → HasFirstName ls now → HasFirstName (l ∷ ls) now
later_name l ls None other none = λ x there named. elim (member_cases l x ls there) [
  | inl same ↦ other (subst IsNameLine (sym same) named)
  | inr later ↦ none x later named
]
later_name l ls (Some name) other first = record {
  before = l ∷ first.before;
  line = first.line;
  after = first.after;
  are = ap (λ xs. l ∷ xs) first.are;
  is_name = first.is_name;
  name_is = first.name_is;
  none_before = λ x there named. elim (member_cases l x first.before there) [
    | inl same ↦ other (subst IsNameLine (sym same) named)
    | inr later ↦ first.none_before x later named
  ];
}

-- the line with a word for names, by what is read of it
named_line : (l : Named) (ls : List Named) (o now : Option (List ℕ)) → is_word l.name (codes "TZNAME") ≡ true → IsRead l.value o → HasName o ls now
    → HasFirstName (l ∷ ls) now
named_line l ls None now word read has = later_name l ls now (λ named. read.none refl l refl named) has
named_line l ls (Some name) now word read has =
    let is = read.some name refl in
    subst (HasFirstName (l ∷ ls)) (sym has) (record {
      before = [];
      line = l;
      after = ls;
      are = refl;
      is_name = record { word = word; short = is.1.0; visible = is.1.1 };
      name_is = is.0;
      none_before = λ x there named. no_member x there;
    })

more_name : (held : Option (List ℕ)) (l : Named) (ls : List Named) (b : Bool) (now : Option (List ℕ)) → is_word l.name (codes "TZNAME") ≡ b
    → HasName (name_if b held l.value) ls now → HasName held (l ∷ ls) now
more_name (Some name) l ls true now is has = has
more_name (Some name) l ls false now is has = has
more_name None l ls true now is has = named_line l ls (name_in l.value) now is (name_read l.value) has
more_name None l ls false now is has = later_name l ls now (λ named. let other : false ≡ true = sym is ∙ named.word in cc) has

abbrev dates_with : Named → List Named → Bool → List (List ℕ)
dates_with l ls b = flat_map (λ (x : Named). cut_at 44 x.value) (cond b (l ∷ filter (λ (x : Named). is_word x.name (codes "RDATE")) ls) (filter (λ (x : Named). is_word x.name (codes "RDATE")) ls))

more_dates : (l : Named) (ls : List Named) (b : Bool) → dates_if b l.value ++ dates_of ls ≡ dates_with l ls b
more_dates l ls true = refl
more_dates l ls false = refl

record HasAll (p : OpenPart) (lines : List Named) (now : OpenPart) : Type 0 where
  name : HasName p.name lines now.name
  dates : now.dates ≡ p.dates ++ dates_of lines

no_more_name : (held : Option (List ℕ)) → HasName held [] held
no_more_name None = λ l there named. no_member l there
no_more_name (Some name) = refl

all_lines : (lines : List Named) (p now : OpenPart) → LinesRead p lines now → HasAll p lines now
all_lines [] p now same = subst (HasAll p []) same (record { name = no_more_name p.name; dates = sym (append-nil p.dates) })
all_lines (l ∷ ls) p now read =
    let step = part_step p l.name l.value read.0 read.1 in
    let rest = all_lines ls read.0 now read.2 in
    record {
      name = more_name p.name l ls (is_word l.name (codes "TZNAME")) now.name refl (subst (λ (o : Option (List ℕ)). HasName o ls now.name) step.name_is rest.name);
      dates = rest.dates ∙ ap (λ ds. ds ++ dates_of ls) step.dates_are ∙ append_assoc p.dates (dates_if (is_word l.name (codes "RDATE")) l.value) (dates_of ls)
          ∙ ap (λ ds. p.dates ++ ds) (more_dates l ls (is_word l.name (codes "RDATE")));
    }

pub lines_are : (dst : Bool) (lines : List Named) (p : OpenPart) → LinesRead (begun_part dst) lines p → HasLines lines p
lines_are dst lines p read =
    let all = all_lines lines (begun_part dst) p read in
    record { name = all.name; dates = all.dates }
