-- Where a footer with a rule is carried to a pair, its rules are those of the dates.
use Rattle.std.proofs.Common.{◌≡◌, Bool, true, false, not, ◌&&◌, if◌then◌else◌, refl, sym, subst, ap, ◌∙◌, arith, ℤ, ◌<ℤ◌, int_lt, Some, Result, Ok, Err}
use Rattle.std.proofs.lemmas.Int.{ints}
use Rattle.td_civil.specs.declared.local_time.Local.{Local}
use Rattle.posix_footer.specs.declared.rule_types.DstRule.{DstRule}
use Rattle.posix_footer.specs.declared.rule_types.Footer.{Footer}
use Rattle.posix_footer.specs.Carried.{is_all_year, is_carried_rule}
use Rattle.recurrence.specs.declared.rule_types.Rule.{Rule}
use Rattle.recurrence.specs.declared.rule_fault.RuleBeyond.{RuleBeyond}
use Rattle.recurrence.specs.declared.rule_types.Carried.{Carried}
use Rattle.recurrence.specs.declared.rule_types.Carried.TheVariants as value
use Rattle.recurrence.specs.RuleOfDate.{rule_of, carry_if_any, carry_of}

abbrev answer : Bool → Bool → Local → Local → Rule → Rule → Result Carried RuleBeyond
answer all carried std dst start end =
    if not all && not carried then Err (record {}) else Ok (if all then value.Constant dst else value.Pair std dst start end)

pair_by : (all carried : Bool) (s d std dst : Local) (first last start end : Rule) → answer all carried s d first last ≡ Ok (value.Pair std dst start end)
    → (all ≡ false) × (start ≡ first) × (end ≡ last)
pair_by true c s d std dst first last start end e = absurd (cc)
pair_by false true s d std dst first last start end e = (refl, cc, cc)
pair_by false false s d std dst first last start end e = absurd (cc)

pub pair_is : (footer : Footer) (rule : DstRule) (std dst : Local) (start end : Rule) → footer.dst ≡ Some rule
    → carry_of footer ≡ Ok (value.Pair std dst start end)
    → (is_all_year footer.std.offset rule ≡ false) × (start ≡ rule_of rule.start) × (end ≡ rule_of rule.end)
pair_is footer rule std dst start end is e =
    pair_by (is_all_year footer.std.offset rule) (is_carried_rule rule) footer.std rule.dst std dst (rule_of rule.start) (rule_of rule.end) start end
    (ap (λ d. carry_if_any footer.std d) (sym is) ∙ e)

abbrev pub carried_answer : Carried → Result Carried RuleBeyond
carried_answer found = Ok found

pub pair_found : (footer : Footer) (rule : DstRule) (found : Carried) (std dst : Local) (start end : Rule) → footer.dst ≡ Some rule
    → carried_answer found ≡ carry_of footer → found ≡ value.Pair std dst start end
    → (is_all_year footer.std.offset rule ≡ false) × (start ≡ rule_of rule.start) × (end ≡ rule_of rule.end)
pair_found footer rule found std dst start end is e pair =
    let P : Carried → Type 0 = λ v. carry_of footer ≡ Ok v in
    pair_is footer rule std dst start end is (subst P pair (sym e))

pub lt_true : (x y : ℤ) → x <ℤ y → int_lt x y ≡ true
lt_true x y h = grind (arith, ints)
