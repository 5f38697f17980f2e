-- A zone is asked for by its name.
use Rattle.std.proofs.Common.{◌≡◌, ◌<◌, ℕ, ◌+◌, ◌==◌, Bool, true, false, ◌&&◌, List, [], ◌∷◌, ◌++◌, length, take, drop, All, Some, codes, refl, ap, ◌∙◌, arith}
use Rattle.std.proofs.Common.{rules}
use Rattle.std.specs.List.{position_or_len}
use Rattle.std.specs.Str.{IsUtf8}
use Rattle.std.proofs.lemmas.Bool.{ne_eqb}
use Rattle.std.proofs.lemmas.List.{take_all, drop_all}
use Rattle.std.proofs.lemmas.List.Elements.{All-get_or}
use Rattle.std.proofs.lemmas.List.Splits.{slice_split_none}
use Rattle.std.proofs.lemmas.List.Sums.{position_or_len_is}
use Rattle.std.proofs.lemmas.Str.{IsUtf8-from_ascii}
use Rattle.std.proofs.lemmas.Str.Ascii.{IsAscii-from_all}
use Rattle.percent_encoding.specs.declared.ascii_set.AsciiSet.{AsciiSet}
use Rattle.percent_encoding.specs.AsciiSet.{contains, should_percent_encode}
use Rattle.percent_encoding.specs.Percent.{percent_encode, percent_decode}
use Rattle.percent_encoding.proofs.AsciiSetLemmas.{escaped_from_inside}
use Rattle.percent_encoding.proofs.PercentLemmas.{IsEscapeByte, All-percent_encode, round_trip}
use Rattle.form_urlencoded.proofs.FormLemmas.{raw_pairs-nil}
use Rattle.target.specs.Marks.{percent_sign, slash, question_mark}
use Rattle.target.specs.Paths.{is_slash, is_question_mark, path_and_query, path_of, query_of, raw_segments, decode_segment, decode_segments}
use Rattle.target.specs.Parameters.{parameter_values, param_with, parameter}
use Rattle.target.specs.Actions.{asked_action, action_of, asks}
use Rattle.target.specs.Names.{zone_target, has_marks, IsUtf8Name}
use Rattle.target.specs.declared.asked_types.Param.TheVariants as param
use Rattle.target.specs.declared.asked_types.Asked.TheVariants as ask
use Rattle.target.proofs.SegmentLemmas.{segment_of_text}

both : (s t : Bool) → (s && t) ≡ true → (s ≡ true) × (t ≡ true)
both true t e = (refl, e)
both false t e = cc

-- ---- a byte of the set is not in the encoded name, unless escapes have it
kept_out : (set : AsciiSet) (mark : ℕ) → contains set mark ≡ true → (b : ℕ) → should_percent_encode set b ≡ false → (b == mark) ≡ false
kept_out set mark inside b kept =
    ne_eqb b mark (λ e. let escaped : should_percent_encode set b ≡ true = rw e (escaped_from_inside set mark inside) in cc)

slash_out : (b : ℕ) → IsEscapeByte b → (b == slash) ≡ false
slash_out b h = ne_eqb b slash (λ e. grind arith)

question_mark_out : (b : ℕ) → IsEscapeByte b → (b == question_mark) ≡ false
question_mark_out b h = ne_eqb b question_mark (λ e. grind arith)

-- ---- where no byte passes, the place is the end
place_of_none : (p : ℕ → Bool) (xs : List ℕ) → All (λ b. p b ≡ false) xs → position_or_len p xs ≡ length xs
place_of_none p xs none =
    position_or_len_is p xs (length xs) 0 (omega arith) (λ k h. All-get_or (λ b. p b ≡ false) xs k 0 h none) (λ h. absurd (omega arith))

-- ---- the path of a name that is written with neither mark
abbrev target_of : List ℕ → List ℕ
target_of name = codes "/tzdist/zones/" ++ name

all_path : (name : List ℕ) → All (λ b. is_question_mark b ≡ false) name → position_or_len is_question_mark (target_of name) ≡ length (target_of name)
all_path name none =
    let e : position_or_len is_question_mark name ≡ length name = place_of_none is_question_mark name none in omega arith

path_is : (name : List ℕ) → All (λ b. is_question_mark b ≡ false) name → path_of (target_of name) ≡ target_of name
unfolding path_and_query
path_is name none = ap (λ n. take n (target_of name)) (all_path name none) ∙ take_all (length (target_of name)) (target_of name) (omega arith)

query_is : (name : List ℕ) → All (λ b. is_question_mark b ≡ false) name → query_of (target_of name) ≡ []
unfolding path_and_query
query_is name none = ap (λ n. drop (n + 1) (target_of name)) (all_path name none) ∙ drop_all (length (target_of name) + 1) (target_of name) (omega arith)

segments_are : (name : List ℕ) → All (λ b. is_slash b ≡ false) name → raw_segments (target_of name) ≡ codes "tzdist" ∷ codes "zones" ∷ name ∷ []
segments_are name none = ap (λ ls. codes "tzdist" ∷ codes "zones" ∷ ls) (slice_split_none is_slash name none)

-- ---- what the segments stand for
root_is : decode_segment (codes "tzdist") ≡ Some (codes "tzdist")
unfolding percent_decode
root_is =
    let small : All (λ b. b < 128) (codes "tzdist") = search rules in
    segment_of_text (codes "tzdist") (IsUtf8-from_ascii (codes "tzdist") (IsAscii-from_all (codes "tzdist") small))

zones_is : decode_segment (codes "zones") ≡ Some (codes "zones")
unfolding percent_decode
zones_is =
    let small : All (λ b. b < 128) (codes "zones") = search rules in
    segment_of_text (codes "zones") (IsUtf8-from_ascii (codes "zones") (IsAscii-from_all (codes "zones") small))

decoded : (name tzid : List ℕ) → decode_segment name ≡ Some tzid
    → decode_segments (codes "tzdist" ∷ codes "zones" ∷ name ∷ []) ≡ Some (codes "tzdist" ∷ codes "zones" ∷ tzid ∷ [])
unfolding decode_segments
decoded name tzid e = rw (root_is, zones_is, e) refl

-- ---- what they ask for
absent : (name : List ℕ) → parameter name [] ≡ param.Absent
unfolding parameter parameter_values
absent name = ap (λ pairs. param_with (parameter_values name pairs)) raw_pairs-nil

asked : (tzid : List ℕ) → 0 < length tzid → asked_action (codes "tzdist" ∷ codes "zones" ∷ tzid ∷ []) [] ≡ ask.Get tzid param.Absent param.Absent
unfolding asked_action
asked tzid some =
    let e : (length tzid == 0) ≡ false = ne_eqb (length tzid) 0 (λ z. omega arith) in
    rw (e, absent (codes "start"), absent (codes "end")) refl

pub asks_by_name : (set : AsciiSet) (tzid : List ℕ) → has_marks set ≡ true → IsUtf8Name tzid
    → asks (zone_target set tzid) ≡ ask.Get tzid param.Absent param.Absent
unfolding asks
asks_by_name set tzid marks is =
    let percent = both (contains set percent_sign) (contains set slash && contains set question_mark) marks in
    let others = both (contains set slash) (contains set question_mark) percent.1 in
    let name = percent_encode set tzid in
    let no_slash = All-percent_encode (λ b. is_slash b ≡ false) set tzid (kept_out set slash others.0) slash_out in
    let no_question_mark = All-percent_encode (λ b. is_question_mark b ≡ false) set tzid (kept_out set question_mark others.1) question_mark_out in
    let back = round_trip set tzid percent.0 is.bytes in
    let text : IsUtf8 (percent_decode name) = rw back is.text in
    let name_is = segment_of_text name text ∙ ap Some back in
    ap (λ q. action_of (decode_segments (raw_segments (path_of (target_of name)))) q) (query_is name no_question_mark)
    ∙ ap (λ p. action_of (decode_segments (raw_segments p)) []) (path_is name no_question_mark)
    ∙ ap (λ ls. action_of (decode_segments ls) []) (segments_are name no_slash)
    ∙ ap (λ s. action_of s []) (decoded name tzid name_is)
    ∙ asked tzid is.some
