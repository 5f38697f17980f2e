-- The text of a problem is exact, and reads as the tree.
use Rattle.std.proofs.Common.{◌≡◌, ◌<◌, ◌^◌, false, Some, IsUtf8, refl, ap, ◌∙◌, arith, lit<}
use Rattle.std.specs.Prelude.{option_and_then}
use Rattle.std.specs.Fmt.{digits}
use Rattle.json.specs.Print.{escape_byte}
use Rattle.json.proofs.Printed.Utf8.{IsUtf8-are_ascii}
use Rattle.json.proofs.Printed.Decimals.{IsNumber-decimal}
use Rattle.serde_json.specs.Read.{read, max_depth}
use Rattle.serde_json.specs.Written.{has_float}
use Rattle.serde_json.proofs.Numbers.{number_of-decimal}
use Rattle.json_forms.specs.declared.problem_type.Problem.{Problem}
use Rattle.json_forms.specs.declared.problem_type.Problem.TheVariants.{InvalidAction, InvalidChangedsince, TzidNotFound, InvalidFormat, InvalidStart}
use Rattle.json_forms.specs.declared.problem_type.Problem.TheVariants.{InvalidEnd, InvalidPattern}
use Rattle.json_forms.specs.JsonTexts.{json_in}
use Rattle.json_forms.specs.ProblemDocument.{status_of, type_of, problem_data, problem_document, has_type, all_problems, problem_named, type_member, problem_in}
use Rattle.json_forms.proofs.lemmas.JsonLemmas.{value_read}
use Rattle.json_forms.proofs.ReadBack.{IsReadable, read_back}

pub problem_has_no_float : (problem : Problem) → has_float (problem_data problem) ≡ false
unfolding problem_data
problem_has_no_float problem = refl

status_fits : (problem : Problem) → status_of problem < 2 ^ 64
status_fits InvalidAction = lit< tt
status_fits InvalidChangedsince = lit< tt
status_fits TzidNotFound = lit< tt
status_fits InvalidFormat = lit< tt
status_fits InvalidStart = lit< tt
status_fits InvalidEnd = lit< tt
status_fits InvalidPattern = lit< tt

problem_readable : (problem : Problem) → IsReadable max_depth (problem_data problem)
unfolding problem_data
problem_readable problem = record {
  same = rw (number_of-decimal (status_of problem) (status_fits problem)) refl;
  shallow = omega arith;
  numbers = (IsNumber-decimal (status_of problem) (status_fits problem), (tt, (tt, tt)));
}

pub problem_reads : (problem : Problem) → read (problem_document problem) ≡ Some (problem_data problem)
unfolding problem_document
problem_reads problem = read_back (problem_data problem) (problem_readable problem)

-- its bytes are UTF-8
utf8_problem : (problem : Problem) → IsUtf8 (problem_document problem)
unfolding problem_document problem_data digits escape_byte
utf8_problem InvalidAction = IsUtf8-are_ascii _ refl
utf8_problem InvalidChangedsince = IsUtf8-are_ascii _ refl
utf8_problem TzidNotFound = IsUtf8-are_ascii _ refl
utf8_problem InvalidFormat = IsUtf8-are_ascii _ refl
utf8_problem InvalidStart = IsUtf8-are_ascii _ refl
utf8_problem InvalidEnd = IsUtf8-are_ascii _ refl
utf8_problem InvalidPattern = IsUtf8-are_ascii _ refl

problem_is_read : (problem : Problem) → json_in (problem_document problem) ≡ Some (problem_data problem)
problem_is_read problem = value_read (problem_document problem) (problem_data problem) (utf8_problem problem) (problem_reads problem)

named_again : (problem : Problem) → problem_named (type_of problem) ≡ Some problem
unfolding all_problems has_type
named_again InvalidAction = refl
named_again InvalidChangedsince = refl
named_again TzidNotFound = refl
named_again InvalidFormat = refl
named_again InvalidStart = refl
named_again InvalidEnd = refl
named_again InvalidPattern = refl

type_again : (problem : Problem) → type_member (problem_data problem) ≡ Some (type_of problem)
unfolding problem_data
type_again problem = refl

pub problem_found : (problem : Problem) → problem_in (problem_document problem) ≡ Some problem
unfolding problem_in
problem_found problem =
    ap (λ o. option_and_then problem_named (option_and_then type_member o)) (problem_is_read problem)
    ∙ ap (option_and_then problem_named) (type_again problem) ∙ named_again problem
