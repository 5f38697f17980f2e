-- What is carried says what the footer says.
use Rattle.std.proofs.Common.{◌≡◌, Bool, true, false, not, ◌&&◌, if◌then◌else◌, refl, sym, subst, ap, ◌∙◌, Option, None, Some, Result, Ok, Err}
use Rattle.std.specs.Result.{IfOk, is_err}
use Rattle.posix_footer.specs.declared.rule_types.DstRule.{DstRule}
use Rattle.posix_footer.specs.declared.rule_types.Footer.{Footer}
use Rattle.posix_footer.specs.Carried.{is_all_year, is_carried_rule, beyond}
use Rattle.posix_footer.specs.Lawful.{IsLawful, IsLawfulRule, IsLawfulIfAny}
use Rattle.posix_footer.specs.StateAt.{state_by}
use Rattle.recurrence.specs.declared.rule_types.Carried.{Carried}
use Rattle.recurrence.specs.declared.rule_types.Carried.TheVariants as value
use Rattle.recurrence.specs.declared.rule_fault.RuleBeyond.{RuleBeyond}
use Rattle.recurrence.specs.Occurs.{Says}
use Rattle.recurrence.specs.RuleOfDate.{rule_of, carried_if_any, carry_if_any, carry_of}
use Rattle.recurrence.proofs.lemmas.AllYear.{all_year_daylight}
use Rattle.recurrence.proofs.lemmas.Onsets.{keeps_onsets}

-- an answer by whether it is beyond
abbrev result_of : Bool → Carried → Result Carried RuleBeyond
result_of beyond c = if beyond then Err (record {}) else Ok c

rule_said : (footer : Footer) (rule : DstRule) → footer.dst ≡ Some rule → IsLawfulRule footer.std.offset rule
    → (all carried : Bool) → is_all_year footer.std.offset rule ≡ all → is_carried_rule rule ≡ carried
    → IfOk (result_of (not all && not carried)
    (if all then value.Constant rule.dst else value.Pair footer.std rule.dst (rule_of rule.start) (rule_of rule.end))) (Says footer)
rule_said footer rule is h true c all_is carried_is = λ t meaning.
    ap (λ d. state_by footer.std d t) is ∙ all_year_daylight footer.std rule t h all_is meaning
rule_said footer rule is h false true all_is carried_is =
    (rule, is, refl, refl, keeps_onsets rule footer.std.offset h carried_is)
rule_said footer rule is h false false all_is carried_is = tt

said_if_any : (footer : Footer) (dst : Option DstRule) → footer.dst ≡ dst → IsLawfulIfAny footer.std.offset dst
    → IfOk (carry_if_any footer.std dst) (Says footer)
said_if_any footer None is h = λ t meaning. ap (λ d. state_by footer.std d t) is
said_if_any footer (Some rule) is h =
    rule_said footer rule is h (is_all_year footer.std.offset rule) (is_carried_rule rule) refl refl

pub carry_said : (footer : Footer) → IsLawful footer → IfOk (carry_of footer) (Says footer)
carry_said footer h = said_if_any footer footer.dst refl h.rule

err_only : (beyond : Bool) (c : Carried) → is_err (result_of beyond c) ≡ beyond
err_only true c = refl
err_only false c = refl

-- and so does the answer where there is a rule
pub carry_rule_said : (footer : Footer) (rule : DstRule) (r : Result Carried RuleBeyond) → IsLawful footer
    → footer.dst ≡ Some rule → r ≡ carry_if_any footer.std (Some rule) → IfOk r (Says footer)
carry_rule_said footer rule r h is e =
    let P : Result Carried RuleBeyond → Type 0 = λ a. IfOk a (Says footer) in
    let lawful : IsLawfulIfAny footer.std.offset (Some rule) = rw is at h.rule in
    subst P (sym e) (said_if_any footer (Some rule) is lawful)

pub carry_beyond : (footer : Footer) → is_err (carry_of footer) ≡ beyond footer
carry_beyond footer = err_only (beyond footer) (carried_if_any footer.std footer.dst)
