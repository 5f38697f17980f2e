-- What the target of a request asks for.
use Rattle.std.proofs.Common.{◌≡◌, ◌≢◌, ℕ, ◌<◌, ◌==◌, List, [], ◌∷◌, ◌++◌, length, true, not, codes, None, Some, refl, sym, ap, ◌∙◌, subst, arith, All, cond}
use Rattle.std.proofs.Common.{rules}
use Rattle.std.specs.Prelude.{bytes_eq}
use Rattle.std.specs.Str.{IsUtf8, is_utf8, chars}
use Rattle.std.proofs.lemmas.Bool.Decides.{nat_tests}
use Rattle.std.proofs.lemmas.List.Elements.{All-append, All-weaker}
use Rattle.std.proofs.lemmas.List.Sums.{AllPass-from_list_all}
use Rattle.std.proofs.lemmas.Str.{IsUtf8-from_ascii, utf8_lossy-IsUtf8}
use Rattle.std.proofs.lemmas.Str.Ascii.{IsAscii-from_all}
use Rattle.form_urlencoded.specs.Form.{raw_pairs, split_once, split_pair}
use Rattle.form_urlencoded.proofs.FormLemmas.{raw_pairs-nil, raw_pairs_first, split_once_after_at, split_once_after_none, split_once_before_at}
use Rattle.form_urlencoded.proofs.FormLemmas.{split_once_before_none}
use Rattle.percent_encoding.specs.Percent.{percent_decode}
use Rattle.percent_encoding.specs.declared.ascii_set.AsciiSet.{AsciiSet}
use Rattle.td_base.specs.declared.report.Ask.{Ask}
use Rattle.td_base.specs.declared.report.Ask.TheVariants as ask
use Rattle.http_client.specs.Requests.{escaped, target_of}
use Rattle.http_client.specs.declared.requesting.TheConstants.{ESCAPED}
use Rattle.target.specs.Actions.{asked_action, asks, document, find_or_list}
use Rattle.target.specs.Names.{IsUtf8Name, has_marks, zone_target}
use Rattle.target.specs.Parameters.{decoded_text, param_with, parameter, parameter_values}
use Rattle.target.specs.Paths.{decode_segment, decode_segments, path_and_query}
use Rattle.target.specs.declared.asked_types.Asked.TheVariants as asked
use Rattle.target.specs.declared.asked_types.Param.TheVariants as param
use Rattle.sync_world.specs.Hearing.{action_asked}
use Rattle.mirror_world.specs.Asking.{IsAskable}
use Rattle.mirror_world.proofs.Escapes.{escaped_quiet, is_quiet, no_ampersand, text_back, text_escaped}

-- a zone is asked for by its name
abbrev pub AsksByName : Type 0
AsksByName = (set : AsciiSet) (tzid : List ℕ) → has_marks set ≡ true → IsUtf8Name tzid → asks (zone_target set tzid) ≡ asked.Get tzid param.Absent param.Absent

get_asked : AsksByName → (name : List ℕ) → IsUtf8Name name → asks (target_of (ask.Get name)) ≡ asked.Get name param.Absent param.Absent
unfolding target_of
get_asked law name is = ap (λ t. asks (codes "/tzdist/zones/" ++ t)) (sym (text_escaped name)) ∙ law ESCAPED name refl is

-- ---- lists

whole_by_query : asks (codes "/tzdist/zones") ≡ find_or_list (parameter (codes "pattern") []) []
unfolding asks asked_action document path_and_query decode_segments decode_segment is_utf8 chars percent_decode lib.Utf8.encode
whole_by_query = refl

absent : (name : List ℕ) → parameter name [] ≡ param.Absent
unfolding parameter parameter_values
absent name = ap (λ pairs. param_with (parameter_values name pairs)) raw_pairs-nil

whole_asked : asks (target_of (ask.List None)) ≡ asked.List param.Absent
unfolding target_of
whole_asked = whole_by_query ∙ ap (λ p. find_or_list p []) (absent (codes "pattern")) ∙ ap asked.List (absent (codes "changedsince"))

abbrev query : List ℕ → List ℕ
query value = codes "changedsince=" ++ value

-- without the pairs of the query
since_by_query : (value : List ℕ) → asks (codes "/tzdist/zones?changedsince=" ++ value) ≡ find_or_list (parameter (codes "pattern") (query value)) (query value)
unfolding asks asked_action document path_and_query decode_segments decode_segment is_utf8 chars percent_decode lib.Utf8.encode
since_by_query value = refl

not_equals : (b : ℕ) → not (b == 61) ≡ true → b ≢ 61
not_equals b h = grind (arith, nat_tests)

name_part : All (λ b. b ≢ 61) (codes "changedsince")
name_part =
    All-weaker (λ b. not (b == 61) ≡ true) (λ b. b ≢ 61) not_equals (codes "changedsince")
    (AllPass-from_list_all (λ b. not (b == 61)) (codes "changedsince") refl)

module _ (token : List ℕ) where
  abbrev value : List ℕ
  value = escaped token

  all_quiet : All (λ b. b ≢ 38) (query value)
  all_quiet =
      All-weaker (λ b. is_quiet b ≡ true) (λ b. b ≢ 38) no_ampersand (query value)
      (All-append (λ b. is_quiet b ≡ true) (codes "changedsince=") value (AllPass-from_list_all is_quiet (codes "changedsince=") refl) (escaped_quiet token))

  first_is : (split_once 38 (query value)).0 ≡ query value
  first_is = split_once_before_none 38 (query value) all_quiet

  some_first : 0 < length ((split_once 38 (query value)).0)
  some_first = subst (λ l. 0 < length l) (sym first_is) (omega arith)

  pair_is : split_pair (query value) ≡ (codes "changedsince", value)
  pair_is =
      ap (λ l. (l, (split_once 61 (query value)).1)) (split_once_before_at 61 (codes "changedsince") value name_part)
      ∙ ap (λ l. (codes "changedsince", l)) (split_once_after_at 61 (codes "changedsince") value name_part)

  pairs_are : raw_pairs (query value) ≡ (codes "changedsince", value) ∷ []
  pairs_are =
      raw_pairs_first (query value) some_first
      ∙ ap (λ l. split_pair l ∷ raw_pairs ((split_once 38 (query value)).1)) first_is
      ∙ ap (λ pair. pair ∷ raw_pairs ((split_once 38 (query value)).1)) pair_is
      ∙ ap (λ l. (codes "changedsince", value) ∷ raw_pairs l) (split_once_after_none 38 (query value) all_quiet)
      ∙ ap (λ l. (codes "changedsince", value) ∷ l) raw_pairs-nil

  name_text : IsUtf8 (codes "changedsince")
  name_text =
      let small : All (λ b. b < 128) (codes "changedsince") = search rules in
      IsUtf8-from_ascii (codes "changedsince") (IsAscii-from_all (codes "changedsince") small)

  name_back : decoded_text (codes "changedsince") ≡ codes "changedsince"
  unfolding decoded_text percent_decode
  name_back = utf8_lossy-IsUtf8 (codes "changedsince") name_text

  no_pattern : parameter (codes "pattern") (query value) ≡ param.Absent
  unfolding parameter parameter_values
  no_pattern =
      ap (λ pairs. param_with (parameter_values (codes "pattern") pairs)) pairs_are
      ∙ ap (λ l. param_with (cond (bytes_eq l (codes "pattern")) (decoded_text value ∷ []) [])) name_back

  module _ (small : All (λ b. b < 256) token) (text : IsUtf8 token) where
    once : parameter (codes "changedsince") (query value) ≡ param.Once token
    unfolding parameter parameter_values
    once =
        ap (λ pairs. param_with (parameter_values (codes "changedsince") pairs)) pairs_are
        ∙ ap (λ l. param_with (cond (bytes_eq l (codes "changedsince")) (decoded_text value ∷ []) [])) name_back
        ∙ ap param.Once (text_back token small text)

    since_asked : asks (target_of (ask.List (Some token))) ≡ asked.List (param.Once token)
    unfolding target_of
    since_asked = since_by_query value ∙ ap (λ p. find_or_list p (query value)) no_pattern ∙ ap asked.List once

pub target_asks : (law : AsksByName) (host : List ℕ) (a : Ask) → IsAskable host a → asks (target_of a) ≡ action_asked a
target_asks law host (ask.List None) k = whole_asked
target_asks law host (ask.List (Some token)) k = since_asked token k.bytes k.text
target_asks law host (ask.Get name) k = get_asked law name (record { bytes = k.bytes; text = k.text; some = k.named })
