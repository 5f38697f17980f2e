-- A slim file, cut at the places that its counts give.
use Rattle.std.proofs.Common.{◌≡◌, ◌≢◌, ℕ, ◌*◌, ◌<◌, ◌^◌, List, [], ◌∷◌, ◌++◌, length, All, take, drop, map, Option, None, FitsSigned, refl, sym, ap, subst}
use Rattle.std.proofs.Common.{◌∙◌, arith}
use Rattle.std.specs.Option.{unwrap_or}
use Rattle.std.specs.List.{flat_map}
use Rattle.std.specs.Int.{w32, w64}
use Rattle.std.proofs.lemmas.List.{take_at, drop_at, length-map, append_cancel_right}
use Rattle.std.proofs.lemmas.List.Elements.{All-cons, All-nil}
use Rattle.td_civil.specs.declared.moment_type.Moment.{Moment}
use Rattle.td_civil.specs.declared.local_time.Local.{Local}
use Rattle.tzif_reader.specs.declared.counts.Counts.{Counts}
use Rattle.tzif_reader.specs.declared.zone_file.LeapLine.{LeapLine}
use Rattle.tzif_reader.specs.declared.zone_file.ZoneFile.{ZoneFile}
use Rattle.tzif_reader.specs.Layout.{counts_listed, IsUnsigned, IsMoment, IsLeapLine, IsHeader, IsZoneFile, AreJoined, first_block_size, second_block_size}
use Rattle.tzif_reader.specs.Cut.{Parts, items, counts_in, parts_in, first_header, second_place, counts_of, block_place, parts_of, footer_place, footer_of}
use Rattle.tzif_reader.specs.Cut.{zone_from, lists_of, transition_at, kind_at, leap_at}
use Rattle.tzif_reader.specs.Faults.{frame_fault, contents_fault, first_fault}
use Rattle.tzif_reader.specs.Slim.{PlanLists, FitsFile, FitsType, FitsLeap, unsigned_bytes, long_bytes, type_bytes, leap_bytes, header_start, header_bytes}
use Rattle.tzif_reader.specs.Slim.{first_counts, first_block, count_of, counts_of_plan, block_of, footer_line, slim_of}
use Rattle.tzif_reader.specs.Slim.{moment_of_plan, moments_of_plan, kind_of_plan, leap_of_plan, zone_of_plan}
use Rattle.tzif_reader.specs.Views.{AreSized}
use Rattle.td_base.proofs.lemmas.FaultLemmas.{second}
use Rattle.tzif_reader.proofs.lemmas.Joined.{field, joined_length}
use Rattle.tzif_reader.proofs.Headers.{CutsHeader, header_cuts}
use Rattle.tzif_reader.proofs.Records.{moment_cuts, leap_cuts}
use Rattle.tzif_reader.proofs.Blocks.{joined_parts, nothing}
use Rattle.tzif_reader.proofs.Cuts.{parts_laid, parts_size, some_local, some_line}
use Rattle.tzif_reader.proofs.Footers.{EndsIn, footer_none, found_footer}
use Rattle.tzif_reader.proofs.SlimRows.{unsigned_size, unsigned_back, long_size, rows_joined, items_back, moment_back, leap_size, leap_back, IsRow, type_size}
use Rattle.tzif_reader.proofs.SlimRows.{type_back, row_cuts}
use Rattle.tzif_reader.proofs.lemmas.Whole.{same_parts, zone_file_of}

-- ---- headers

-- a number that 4 bytes can hold
abbrev pub IsSmall : ℕ → Type 0
IsSmall n = n < 2 ^ 32

-- counts that 4 bytes can hold
abbrev pub FitCounts : Counts → Type 0
FitCounts c = All IsSmall (counts_listed c)

pub six_fit : (a b d e f g : ℕ) → IsSmall a → IsSmall b → IsSmall d → IsSmall e → IsSmall f → IsSmall g → All IsSmall (a ∷ b ∷ d ∷ e ∷ f ∷ g ∷ [])
six_fit a b d e f g la lb ld le lf lg =
    All-cons IsSmall a (b ∷ d ∷ e ∷ f ∷ g ∷ []) la (All-cons IsSmall b (d ∷ e ∷ f ∷ g ∷ []) lb (All-cons IsSmall d (e ∷ f ∷ g ∷ []) ld
    (All-cons IsSmall e (f ∷ g ∷ []) le (All-cons IsSmall f (g ∷ []) lf (All-cons IsSmall g [] lg (All-nil IsSmall))))))

pub header_bytes_are : (c : Counts) → FitCounts c → IsHeader (header_bytes c) 50 c
unfolding header_bytes header_start
header_bytes_are c fit = record {
  reserved = 0 ∷ 0 ∷ 0 ∷ 0 ∷ 0 ∷ 0 ∷ 0 ∷ 0 ∷ 0 ∷ 0 ∷ 0 ∷ 0 ∷ 0 ∷ 0 ∷ 0 ∷ [];
  numbers = flat_map unsigned_bytes (counts_listed c);
  whole = refl;
  reserved_size = refl;
  six = rows_joined 4 (IsUnsigned w32) unsigned_bytes (λ n. n) IsSmall unsigned_size unsigned_back (counts_listed c) fit;
}

pub header_bytes_cut : (c : Counts) → FitCounts c → CutsHeader (header_bytes c) 50 c
header_bytes_cut c fit = header_cuts (header_bytes c) 50 c (header_bytes_are c fit)

-- ---- the whole

-- what a file of two headers, two blocks and more is, cut
pub record IsCut (bytes : List ℕ) (counts : Counts) (block rest : List ℕ) : Type 0 where
  pub counts_are : counts_of bytes ≡ counts
  pub parts_are : parts_of bytes ≡ parts_in counts block
  pub rest_is : drop (footer_place bytes) bytes ≡ rest

pub file_cut : (bytes one first two block rest : List ℕ) (c d : Counts) → bytes ≡ one ++ (first ++ (two ++ (block ++ rest)))
    → CutsHeader one 50 c → length first ≡ first_block_size c → CutsHeader two 50 d → length block ≡ second_block_size d
    → IsCut bytes d block rest
unfolding counts_of block_place parts_of
file_cut bytes one first two block rest c d whole h1 s1 h2 s2 =
    let e1 : first_header bytes ≡ one = ap (take 44) whole ∙ take_at one _ 44 h1.size in
    let c1 : counts_in (first_header bytes) ≡ c = ap counts_in e1 ∙ h1.counts_are in
    let r1 : drop 44 bytes ≡ first ++ (two ++ (block ++ rest)) = ap (drop 44) whole ∙ drop_at one _ 44 h1.size in
    let l1 : length first ≡ first_block_size (counts_in (first_header bytes)) = s1 ∙ ap first_block_size (sym c1) in
    let f2 = field bytes first (two ++ (block ++ rest)) 44 (first_block_size (counts_in (first_header bytes))) r1 l1 in
    let f3 = field bytes two (block ++ rest) (second_place bytes) 44 f2.1 h2.size in
    let c2 : counts_of bytes ≡ d = ap counts_in f3.0 ∙ h2.counts_are in
    let l2 : length block ≡ second_block_size (counts_of bytes) = s2 ∙ ap second_block_size (sym c2) in
    let f4 = field bytes block rest (block_place bytes) (second_block_size (counts_of bytes)) f3.1 l2 in
    record { counts_are = c2; parts_are = same_parts (counts_of bytes) d _ block c2 f4.0; rest_is = f4.1 }

-- ---- the plan

-- the lengths of the lists
abbrev pub lengths_of : PlanLists → Counts
lengths_of p = record {
  isutcnt = length p.ut;
  isstdcnt = length p.standard;
  leapcnt = length p.leaps;
  timecnt = length p.times;
  typecnt = length p.types;
  charcnt = length p.designations;
}

small : {A : Type 0} (xs : List A) → length xs < 2 ^ 32 → count_of xs ≡ length xs
small xs lt = omega (arith, lt)

abbrev six : ℕ → ℕ → ℕ → ℕ → ℕ → ℕ → Counts
six a b d e f g = record { isutcnt = a; isstdcnt = b; leapcnt = d; timecnt = e; typecnt = f; charcnt = g }

same_counts : (a b d e f g h i j k l m : ℕ) → a ≡ h → b ≡ i → d ≡ j → e ≡ k → f ≡ l → g ≡ m → six a b d e f g ≡ six h i j k l m
same_counts a b d e f g h i j k l m p q r s t u = rw (p, q, r, s, t, u) refl

pub counts_are_lengths : (p : PlanLists) → FitsFile p → counts_of_plan p ≡ lengths_of p
counts_are_lengths p fits =
    same_counts _ _ _ _ _ _ _ _ _ _ _ _ (small p.ut fits.ut) (small p.standard fits.standard) (small p.leaps fits.leaps)
    (small p.times fits.times) (small p.types fits.types) (small p.designations fits.designations)

-- the bytes of the lists of rows
abbrev pub times_text : PlanLists → List ℕ
times_text p = flat_map long_bytes p.times

abbrev pub types_text : PlanLists → List ℕ
types_text p = flat_map type_bytes p.types

abbrev pub leaps_text : PlanLists → List ℕ
leaps_text p = flat_map leap_bytes p.leaps

abbrev kinds : PlanLists → List Local
kinds p = map (kind_of_plan p.designations) p.types

abbrev lines : PlanLists → List LeapLine
lines p = map leap_of_plan p.leaps

-- the fields of the second block
abbrev pub parts_of_plan : PlanLists → Parts
parts_of_plan p = record {
  times = times_text p;
  numbers = p.numbers;
  types = types_text p;
  designations = p.designations;
  leaps = leaps_text p;
  standard = p.standard;
  ut = p.ut;
}

pub moments_joined : (p : PlanLists) → FitsFile p → AreJoined 8 IsMoment (times_text p) (moments_of_plan p)
moments_joined p fits = rows_joined 8 IsMoment long_bytes moment_of_plan (FitsSigned w64) long_size moment_back p.times fits.moments

kinds_joined : (p : PlanLists) → FitsFile p → AreJoined 6 (IsRow p.designations) (types_text p) (kinds p)
kinds_joined p fits =
    rows_joined 6 (IsRow p.designations) type_bytes (kind_of_plan p.designations) FitsType type_size (type_back p.designations) p.types fits.offsets

pub leaps_joined : (p : PlanLists) → FitsFile p → AreJoined 12 IsLeapLine (leaps_text p) (lines p)
leaps_joined p fits = rows_joined 12 IsLeapLine leap_bytes leap_of_plan FitsLeap leap_size leap_back p.leaps fits.lines

pub plan_sized : (p : PlanLists) → FitsFile p → AreSized (lengths_of p) (parts_of_plan p)
plan_sized p fits = record {
  times = joined_length 8 IsMoment _ _ (moments_joined p fits) ∙ ap (λ (n : ℕ). 8 * n) (length-map p.times moment_of_plan);
  numbers = fits.numbers;
  types = joined_length 6 (IsRow p.designations) _ _ (kinds_joined p fits) ∙ ap (λ (n : ℕ). 6 * n) (length-map p.types (kind_of_plan p.designations));
  designations = refl;
  leaps = joined_length 12 IsLeapLine _ _ (leaps_joined p fits) ∙ ap (λ (n : ℕ). 12 * n) (length-map p.leaps leap_of_plan);
  standard = refl;
  ut = refl;
}

pub block_whole : (p : PlanLists) → block_of p ≡ joined_parts (parts_of_plan p)
unfolding block_of
block_whole p = refl

-- the file of a plan under such counts
abbrev pub with_counts : PlanLists → Counts → List ℕ
with_counts p c = header_bytes first_counts ++ (first_block ++ (header_bytes c ++ (block_of p ++ footer_line p.footer)))

pub slim_whole : (p : PlanLists) → FitsFile p → slim_of p ≡ with_counts p (lengths_of p)
unfolding slim_of
slim_whole p fits = ap (with_counts p) (counts_are_lengths p fits)

pub first_size : length first_block ≡ first_block_size first_counts
unfolding first_block
first_size = refl

pub first_fit : FitCounts first_counts
first_fit = six_fit 0 0 0 0 1 1 (omega arith) (omega arith) (omega arith) (omega arith) (omega arith) (omega arith)

pub lengths_fit : (p : PlanLists) → FitsFile p → FitCounts (lengths_of p)
lengths_fit p fits = six_fit _ _ _ _ _ _ fits.ut fits.standard fits.leaps fits.times fits.types fits.designations

pub slim_cut : (p : PlanLists) → FitsFile p → IsCut (slim_of p) (lengths_of p) (block_of p) (footer_line p.footer)
slim_cut p fits =
    let one = header_bytes_cut first_counts first_fit in
    let two = header_bytes_cut (lengths_of p) (lengths_fit p fits) in
    let size = parts_size (lengths_of p) (block_of p) (parts_of_plan p) (block_whole p) (plan_sized p fits) in
    file_cut (slim_of p) (header_bytes first_counts) first_block (header_bytes (lengths_of p)) (block_of p) (footer_line p.footer)
    first_counts (lengths_of p) (slim_whole p fits) one first_size two size

pub slim_parts : (p : PlanLists) → FitsFile p → parts_of (slim_of p) ≡ parts_of_plan p
slim_parts p fits = (slim_cut p fits).parts_are ∙ parts_laid (lengths_of p) (block_of p) (parts_of_plan p) (block_whole p) (plan_sized p fits)

-- ---- the zone

abbrev zone : List Moment → List ℕ → List Local → List LeapLine → List ℕ → ZoneFile
zone moments numbers kinds leaps footer = record { moments = moments; numbers = numbers; kinds = kinds; leaps = leaps; footer = footer }

same_zone : (m n : List Moment) (k l : List Local) (a b : List LeapLine) (numbers footer : List ℕ) → m ≡ n → k ≡ l → a ≡ b
    → zone m numbers k a footer ≡ zone n numbers l b footer
same_zone m n k l a b numbers footer p q r = rw (p, q, r) refl

moments_back : (p : PlanLists) → FitsFile p → items (length p.times) (transition_at (times_text p)) ≡ moments_of_plan p
moments_back p fits =
    items_back 8 IsMoment (transition_at (times_text p)) (times_text p) (moments_of_plan p) (length p.times) nothing
    (moments_joined p fits) (length-map p.times moment_of_plan) (moment_cuts (times_text p))

kinds_back : (p : PlanLists) → FitsFile p → items (length p.types) (kind_at p.designations (types_text p)) ≡ kinds p
kinds_back p fits =
    items_back 6 (IsRow p.designations) (kind_at p.designations (types_text p)) (types_text p) (kinds p) (length p.types) some_local
    (kinds_joined p fits) (length-map p.types (kind_of_plan p.designations)) (row_cuts p.designations (types_text p))

lines_back : (p : PlanLists) → FitsFile p → items (length p.leaps) (leap_at (leaps_text p)) ≡ lines p
lines_back p fits =
    items_back 12 IsLeapLine (leap_at (leaps_text p)) (leaps_text p) (lines p) (length p.leaps) some_line
    (leaps_joined p fits) (length-map p.leaps leap_of_plan) (leap_cuts (leaps_text p))

pub plan_zone : (p : PlanLists) → FitsFile p → zone_from (lengths_of p) (parts_of_plan p) p.footer ≡ zone_of_plan p
plan_zone p fits =
    same_zone (items (length p.times) (transition_at (times_text p))) (moments_of_plan p) (items (length p.types) (kind_at p.designations (types_text p)))
    (kinds p)
    (items (length p.leaps) (leap_at (leaps_text p))) (lines p) p.numbers p.footer (moments_back p fits) (kinds_back p fits) (lines_back p fits)

same_cut : (c d : Counts) (p q : Parts) (f g : List ℕ) → c ≡ d → p ≡ q → f ≡ g → zone_from c p f ≡ zone_from d q g
same_cut c d p q f g a b e = rw (a, b, e) refl

-- the footer of the file
abbrev pub footer_in : PlanLists → List ℕ
footer_in p = unwrap_or (footer_of (slim_of p)) []

-- the lists are the plan's where the footer is
lists_with : (p : PlanLists) → FitsFile p → footer_in p ≡ p.footer → lists_of (slim_of p) ≡ zone_of_plan p
lists_with p fits footer =
    same_cut (counts_of (slim_of p)) (lengths_of p) (parts_of (slim_of p)) (parts_of_plan p) (footer_in p) p.footer
    (slim_cut p fits).counts_are (slim_parts p fits) footer ∙ plan_zone p fits

pub line_is : (footer : List ℕ) → footer_line footer ≡ 10 ∷ (footer ++ 10 ∷ [])
unfolding footer_line
line_is footer = refl

pub slim_ends : (p : PlanLists) → FitsFile p → All (λ byte. byte ≢ 10) p.footer → EndsIn (slim_of p) p.footer
slim_ends p fits clear = record { whole = (slim_cut p fits).rest_is ∙ line_is p.footer; clear = clear }

pub slim_reads : (p : PlanLists) → FitsFile p → All (λ byte. byte ≢ 10) p.footer → lists_of (slim_of p) ≡ zone_of_plan p
slim_reads p fits clear = lists_with p fits (ap (λ (o : Option (List ℕ)). unwrap_or o []) (found_footer (slim_of p) p.footer (slim_ends p fits clear)))

-- where the file has no fault its footer is the plan's
pub slim_footer : (p : PlanLists) → FitsFile p → first_fault (slim_of p) ≡ None → footer_in p ≡ p.footer
unfolding first_fault
slim_footer p fits h =
    let ends = footer_none (slim_of p) (second (contents_fault (counts_of (slim_of p)) (parts_of (slim_of p))) _ (second (frame_fault (slim_of p)) _ h)) in
    let same : 10 ∷ (footer_in p ++ 10 ∷ []) ≡ 10 ∷ (p.footer ++ 10 ∷ [])
    = sym ends.whole ∙ ((slim_cut p fits).rest_is ∙ line_is p.footer) in
    append_cancel_right (footer_in p) p.footer (10 ∷ []) (ap (drop 1) same)

pub slim_zone : (p : PlanLists) → FitsFile p → first_fault (slim_of p) ≡ None → IsZoneFile (slim_of p) (zone_of_plan p)
slim_zone p fits h = subst (λ (z : ZoneFile). IsZoneFile (slim_of p) z) (lists_with p fits (slim_footer p fits h)) (zone_file_of (slim_of p) h)
