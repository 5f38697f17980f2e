-- The plans of files without fault.
use Rattle.std.proofs.Common.{◌≡◌, ◌≢◌, ℕ, ◌+◌, ◌*◌, ◌<◌, ◌≤◌, false, List, [], ◌∷◌, ◌++◌, length, get_or, All, take, drop, map, Option, Some, None, refl, sym}
use Rattle.std.proofs.Common.{ap, subst, ◌∙◌, arith, true}
use Rattle.std.specs.Prelude.{ℤ, ◌≤ℤ◌, pos, negsuc, int_lt, nat_lt, ◌||◌, ◌↔◌}
use Rattle.std.specs.Option.{option_map_or, unwrap_or, IsSomeAnd}
use Rattle.std.proofs.lemmas.Bool.{ltb-false, or_parts}
use Rattle.std.proofs.lemmas.List.{take-append-drop, length-append, length-take, length-drop, length-map, get_or-map}
use Rattle.std.proofs.lemmas.List.Elements.{All-get_or, All-from_get_or}
use Rattle.tzif_reader.specs.declared.counts.Counts.{Counts}
use Rattle.tzif_reader.specs.declared.zone_file.ZoneFile.{ZoneFile}
use Rattle.tzif_reader.specs.Layout.{AreCounts, IsKind, IsBlock, IsZoneFile, second_block_size}
use Rattle.tzif_reader.specs.Cut.{Parts, piece, before, counts_of, parts_of, parts_in, type_offset_at, flag_at, index_at, designation_at, zone_from}
use Rattle.tzif_reader.specs.Faults.{frame_fault, contents_fault, first_fault}
use Rattle.tzif_reader.specs.Slim.{PlanLists, FitsFile, FitsType, IsSoundType, IsSoundPlan, type_bytes, short_bytes, header_bytes}
use Rattle.tzif_reader.specs.Slim.{first_counts, first_block, counts_of_plan, block_of, footer_line, slim_of}
use Rattle.tzif_reader.specs.Slim.{kind_of_plan, moment_of_plan, leap_of_plan, zone_of_plan}
use Rattle.td_base.proofs.lemmas.FaultLemmas.{first, second}
use Rattle.tzif_reader.proofs.lemmas.Joined.{joined_at}
use Rattle.tzif_reader.proofs.Records.{before_marks, flag_is, le_from_test}
use Rattle.tzif_reader.proofs.Soundness.{AreSound, contents_none}
use Rattle.tzif_reader.proofs.Blocks.{block_is}
use Rattle.tzif_reader.proofs.Cuts.{laid, laid_parts, parts_laid, parts_size}
use Rattle.tzif_reader.proofs.Footers.{footer_none}
use Rattle.tzif_reader.proofs.Frames.{IsFramed, frame_none}
use Rattle.tzif_reader.proofs.SlimRows.{short_size, short_back, rows_joined, type_size, row_fields}
use Rattle.tzif_reader.proofs.SlimCuts.{lengths_of, times_text, types_text, leaps_text, parts_of_plan, counts_are_lengths, header_bytes_are}
use Rattle.tzif_reader.proofs.SlimCuts.{header_bytes_cut, moments_joined, leaps_joined, plan_sized, plan_zone, block_whole, slim_whole, first_size, first_fit}
use Rattle.tzif_reader.proofs.SlimCuts.{lengths_fit, slim_cut, slim_parts, line_is, slim_footer}
use Rattle.tzif_reader.proofs.lemmas.Whole.{zone_file_cuts, same_sound}

-- ---- the size

pub slim_size : (p : PlanLists) → FitsFile p → length (slim_of p) ≡ 97 + second_block_size (counts_of_plan p) + length p.footer
slim_size p fits =
    let c = ap second_block_size (counts_are_lengths p fits) in
    omega (
      arith,
      ap length (slim_whole p fits),
      length-append (header_bytes first_counts) (first_block ++ (header_bytes (lengths_of p) ++ (block_of p ++ footer_line p.footer))),
      length-append first_block (header_bytes (lengths_of p) ++ (block_of p ++ footer_line p.footer)),
      length-append (header_bytes (lengths_of p)) (block_of p ++ footer_line p.footer),
      length-append (block_of p) (footer_line p.footer),
      ap length (line_is p.footer),
      length-append p.footer (10 ∷ []),
      (header_bytes_cut first_counts first_fit).size,
      first_size,
      (header_bytes_cut (lengths_of p) (lengths_fit p fits)).size,
      parts_size (lengths_of p) (block_of p) (parts_of_plan p) (block_whole p) (plan_sized p fits),
      c,
    )

-- ---- from the plan to the file

has_name : (o : Option (List ℕ)) → IsSomeAnd o (λ name. length name ≤ 32) → (o ≡ Some (unwrap_or o [])) × (length (unwrap_or o []) ≤ 32)
has_name None h = absurd h
has_name (Some name) h = (refl, h)

kind_back : (designations : List ℕ) (row : ℤ × ℕ × ℕ)
    → FitsType row × IsSoundType designations row → IsKind designations (type_bytes row) (kind_of_plan designations row)
unfolding type_bytes
kind_back designations row h =
    let n = has_name (before 0 (drop row.2 designations)) h.1.name in
    let m = before_marks 0 (drop row.2 designations) (unwrap_or (before 0 (drop row.2 designations)) []) n.0 in
    let parts = length-append (unwrap_or (before 0 (drop row.2 designations)) []) (0 ∷ m.after) in
    record {
      offset = short_bytes row.0;
      index = row.2;
      before = take row.2 designations;
      after = m.after;
      whole = ap (λ (k : ℕ). short_bytes row.0 ++ (k ∷ row.2 ∷ [])) (flag_is row.1 h.1.flag);
      offset_size = short_size row.0;
      offset_is = short_back row.0 h.0;
      low = h.1.low;
      high = h.1.high;
      name_place = omega (arith, length-take row.2 designations, length-drop row.2 designations, ap length m.whole, parts);
      name_is = sym (take-append-drop row.2 designations) ∙ ap (λ (r : List ℕ). take row.2 designations ++ r) m.whole;
      name_ends = m.clear;
      name_size = n.1;
    }

some_row : ℤ × ℕ × ℕ
some_row = (pos 0, 0, 0)

abbrev FitsAndIsSound : PlanLists → ℤ × ℕ × ℕ → Type 0
FitsAndIsSound p row = FitsType row × IsSoundType p.designations row

both : (p : PlanLists) → FitsFile p → IsSoundPlan p → All (FitsAndIsSound p) p.types
both p fits sound =
    All-from_get_or (FitsAndIsSound p) p.types some_row
    (λ i lt. (All-get_or FitsType p.types i some_row lt fits.offsets, All-get_or (IsSoundType p.designations) p.types i some_row lt sound.types_are))

plan_block : (p : PlanLists) → FitsFile p → IsSoundPlan p → IsBlock (block_of p) (lengths_of p) (zone_of_plan p)
plan_block p fits sound = record {
  times = times_text p;
  types = types_text p;
  designations = p.designations;
  leaps = leaps_text p;
  standard = p.standard;
  ut = p.ut;
  whole = block_whole p;
  moments_are = moments_joined p fits;
  kinds_are = rows_joined 6 (IsKind p.designations) type_bytes (kind_of_plan p.designations) (FitsAndIsSound p) type_size
      (kind_back p.designations) p.types (both p fits sound);
  leaps_are = leaps_joined p fits;
  moment_count = length-map p.times moment_of_plan;
  number_count = fits.numbers;
  kind_count = length-map p.types (kind_of_plan p.designations);
  designation_count = refl;
  leap_count = length-map p.leaps leap_of_plan;
  standard_count = refl;
  ut_count = refl;
  rising = sound.rising;
  known = sound.known;
  standard_flags = sound.standard_flags;
  ut_flags = sound.ut_flags;
  ends = sound.ends;
}

-- the file of a plan up to its footer, and more
abbrev up_to_footer : PlanLists → List ℕ → List ℕ
up_to_footer p rest = header_bytes first_counts ++ (first_block ++ (header_bytes (lengths_of p) ++ (block_of p ++ rest)))

pub plan_file : (p : PlanLists) → FitsFile p → IsSoundPlan p → IsZoneFile (slim_of p) (zone_of_plan p)
plan_file p fits sound = record {
  first_header = header_bytes first_counts;
  first_block = first_block;
  second_header = header_bytes (lengths_of p);
  second_block = block_of p;
  version = 50;
  first_counts = first_counts;
  counts = lengths_of p;
  whole = slim_whole p fits ∙ ap (up_to_footer p) (line_is p.footer);
  size = omega (arith, slim_size p fits, sound.size);
  first_header_is = header_bytes_are first_counts first_fit;
  version_is = (omega arith, omega arith);
  first_block_is = first_size;
  second_header_is = header_bytes_are (lengths_of p) (lengths_fit p fits);
  counts_are = subst (λ (c : Counts). AreCounts c) (counts_are_lengths p fits) sound.counts;
  second_block_is = plan_block p fits sound;
  footer_is = sound.footer_is;
}

-- ---- from the file to the plan

abbrev IsBytesOf : List ℕ → ℤ × ℕ × ℕ → Type 0
IsBytesOf piece row = piece ≡ type_bytes row

abbrev same : ℤ × ℕ × ℕ → ℤ × ℕ × ℕ
same row = row

row_piece : (p : PlanLists) → FitsFile p → (i : ℕ) → i < length p.types → piece (6 * i) 6 (types_text p) ≡ type_bytes (get_or p.types i some_row)
row_piece p fits i lt =
    let joined = rows_joined 6 IsBytesOf type_bytes same FitsType type_size (λ row h. refl) p.types fits.offsets in
    joined_at 6 IsBytesOf (types_text p) (map same p.types) i some_row joined (omega (arith, length-map p.types same, lt))
    ∙ ap type_bytes (get_or-map same p.types i some_row some_row lt)

name_there : (o : Option (List ℕ)) → option_map_or (λ name. nat_lt 32 (length name)) o true ≡ false → IsSomeAnd o (λ name. length name ≤ 32)
name_there None h = absurd cc
name_there (Some name) h = ltb-false 32 (length name) h

sound_type : (p : PlanLists) → FitsFile p → AreSound (lengths_of p) (parts_of_plan p)
    → (i : ℕ) → i < length p.types → IsSoundType p.designations (get_or p.types i some_row)
unfolding designation_at
sound_type p fits sound i lt =
    let fit = All-get_or FitsType p.types i some_row lt fits.offsets in
    let f = row_fields (types_text p) i (get_or p.types i some_row) (row_piece p fits i lt) fit in
    let flags = or_parts (nat_lt 1 (flag_at (types_text p) i) || nat_lt 1 (get_or p.standard i 0)) (nat_lt 1 (get_or p.ut i 0)) (sound.flagged i lt) in
    let flag = or_parts (nat_lt 1 (flag_at (types_text p) i)) (nat_lt 1 (get_or p.standard i 0)) flags.0 in
    let range = or_parts (int_lt (type_offset_at (types_text p) i) (negsuc 86398)) (int_lt (pos 86399) (type_offset_at (types_text p) i)) (sound.within i lt) in
    let name = name_there (before 0 (drop (index_at (types_text p) i) p.designations)) (sound.are_named i lt) in
    record {
      low = subst (λ (z : ℤ). negsuc 86398 ≤ℤ z) f.offset (le_from_test (type_offset_at (types_text p) i) (negsuc 86398) range.0);
      high = subst (λ (z : ℤ). z ≤ℤ pos 86399) f.offset (le_from_test (pos 86399) (type_offset_at (types_text p) i) range.1);
      flag = subst (λ (n : ℕ). n ≤ 1) f.flag (ltb-false 1 (flag_at (types_text p) i) flag.0);
      name = subst (λ (n : ℕ). IsSomeAnd (before 0 (drop n p.designations)) (λ name. length name ≤ 32)) f.index name;
    }

plan_sound : (p : PlanLists) → FitsFile p → first_fault (slim_of p) ≡ None → AreSound (lengths_of p) (parts_of_plan p)
unfolding first_fault
plan_sound p fits h =
    let sound = contents_none (counts_of (slim_of p)) (parts_of (slim_of p)) (first _ _ (second (frame_fault (slim_of p)) _ h)) in
    same_sound (lengths_of p) (counts_of (slim_of p)) (parts_of_plan p) (parts_of (slim_of p)) sound
    (sym (slim_cut p fits).counts_are) (sym (slim_parts p fits))

-- the block's parts are the plan's
laid_plan : (p : PlanLists) → FitsFile p → parts_in (lengths_of p) (block_of p) ≡ parts_of_plan p
laid_plan p fits = parts_laid (lengths_of p) (block_of p) (parts_of_plan p) (block_whole p) (plan_sized p fits)

back_block : (p : PlanLists) → FitsFile p → AreCounts (lengths_of p) → AreSound (lengths_of p) (parts_of_plan p)
    → IsBlock (block_of p) (lengths_of p) (zone_of_plan p)
back_block p fits counts sound =
    let parts = laid_plan p fits in
    let size = parts_size (lengths_of p) (block_of p) (parts_of_plan p) (block_whole p) (plan_sized p fits) in
    let cut = same_sound (lengths_of p) (lengths_of p) (parts_in (lengths_of p) (block_of p)) (parts_of_plan p) sound refl parts in
    let zone = ap (λ (q : Parts). zone_from (lengths_of p) q p.footer) parts ∙ plan_zone p fits in
    subst (λ (z : ZoneFile). IsBlock (block_of p) (lengths_of p) z) zone (block_is (lengths_of p) (block_of p) p.footer size counts cut)

back_footer : (p : PlanLists) → FitsFile p → first_fault (slim_of p) ≡ None → All (λ byte. byte ≢ 10) p.footer
unfolding first_fault
back_footer p fits h =
    let ends = footer_none (slim_of p) (second (contents_fault (counts_of (slim_of p)) (parts_of (slim_of p))) _ (second (frame_fault (slim_of p)) _ h)) in
    subst (λ (text : List ℕ). All (λ byte. byte ≢ 10) text) (slim_footer p fits h) ends.clear

back_frame : (p : PlanLists) → first_fault (slim_of p) ≡ None → IsFramed (slim_of p)
unfolding first_fault
back_frame p h = frame_none (slim_of p) (first _ _ h)

pub plan_is_sound : (p : PlanLists) → FitsFile p → first_fault (slim_of p) ≡ None → IsSoundPlan p
plan_is_sound p fits h =
    let framed = back_frame p h in
    let sound = plan_sound p fits h in
    let counts : AreCounts (lengths_of p) = subst (λ (c : Counts). AreCounts c) (slim_cut p fits).counts_are framed.counts in
    let block = back_block p fits counts sound in
    let parts : laid (block_of p) (lengths_of p) (zone_of_plan p) block ≡ parts_of_plan p
    = sym (laid_parts (block_of p) (lengths_of p) (zone_of_plan p) block) ∙ laid_plan p fits in
    record {
      size = omega (arith, slim_size p fits, framed.size);
      counts = subst (λ (c : Counts). AreCounts c) (sym (counts_are_lengths p fits)) counts;
      rising = block.rising;
      ends = block.ends;
      known = block.known;
      types_are = All-from_get_or (IsSoundType p.designations) p.types some_row (sound_type p fits sound);
      standard_flags = subst (λ (flags : List ℕ). All (λ byte. byte ≤ 1) flags) (ap (λ (q : Parts). q.standard) parts) block.standard_flags;
      ut_flags = subst (λ (flags : List ℕ). All (λ byte. byte ≤ 1) flags) (ap (λ (q : Parts). q.ut) parts) block.ut_flags;
      footer_is = back_footer p fits h;
    }

-- ---- both ways

pub sound_plans : (p : PlanLists) → FitsFile p → (first_fault (slim_of p) ≡ None) ↔ IsSoundPlan p
sound_plans p fits = (λ h. plan_is_sound p fits h, λ sound. (zone_file_cuts (slim_of p) (zone_of_plan p) (plan_file p fits sound)).no_fault)
